-- A program with bodies and first values in its rows is what it was without them, as far as types and trees go.
use Rattle.std.proofs.Common.{◌≡◌, ℕ, List, [], ◌∷◌, map, slice_get, IsTrue, Option, Some, None, refl, sym, ap, subst, ◌∙◌}
use Rattle.std.proofs.lemmas.Option.{slice_get-map}
use Rattle.std.specs.Option.{option_map}
use Rattle.op_check_unit.specs.Checking.{bare, without_bodies}
use Rattle.op_check_unit.specs.FirstValues.{bare_variable, without_first_values}
use Rattle.op_core.proofs.Agreeing.{some_is}
use Rattle.op_core.proofs.Growing.{front_same, some_and}
use Rattle.op_core.proofs.OneType.{parameters_themselves, result_itself}
use Rattle.op_core.specs.Growing.{Grows, SameRoutine, SameVariable, Stay}
use Rattle.op_core.specs.Heading.{same_parameters, same_result}
use Rattle.op_core.specs.Members.{There}
use Rattle.op_core.specs.Rows.{rows}
use Rattle.op_core.specs.declared.program.Core.{Core}
use Rattle.op_core.specs.declared.routine.Routine.{Routine}

-- rows that look alike
stay_alike : {A B : Type 0} (f : A → B) (R : A → A → Type 0) (old new : List A) → ((a b : A) → f b ≡ f a → R a b) → map f new ≡ map f old → Stay R old new
stay_alike {A} f R old new r e = record { each = λ n a h. one n a (slice_get new n) refl (sym (slice_get-map f new n) ∙ ap (λ xs. slice_get xs n) e ∙ slice_get-map f old n ∙ ap (option_map f) h) }
  where
    one : (n : ℕ) (a : A) (o : Option A) → slice_get new n ≡ o → option_map f o ≡ Some (f a) → There new n (R a)
    one n a None k h = absurd (cc)
    one n a (Some b) k h = some_and (R a) k (r a b (some_is h))

alike_grow : (old new : Core) → without_first_values (without_bodies new) ≡ without_first_values (without_bodies old) → Grows old new
alike_grow old new e = record {
  types = front_same (ap (λ c. c.types) e);
  extents = front_same (ap (λ c. c.extents) e);
  fields = front_same (ap (λ c. c.fields) e);
  parameters = front_same (ap (λ c. c.parameters) e);
  variables = stay_alike bare_variable SameVariable old.variables new.variables (λ v w h. record { of = ap (λ x. x.of) h; role = ap (λ x. x.role) h }) (ap (λ c. c.variables) e);
  routines = stay_alike bare (SameRoutine old new) old.routines new.routines (λ r s h. routine_alike r s h) (ap (λ c. c.routines) e);
  classes = ap (λ c. c.classes) e;
  interfaces = ap (λ c. c.interfaces) e;
  listed = ap (λ c. c.listed) e;
  methods = ap (λ c. c.methods) e;
  exceptions = ap (λ c. c.exceptions) e;
}
  where
    routine_alike : (r s : Routine) → bare s ≡ bare r → SameRoutine old new r s
    routine_alike r s h = record {
      owner = ap (λ x. x.owner) h;
      kind = ap (λ x. x.kind) h;
      result = subst (λ of. IsTrue (same_result new.types r.result of)) (sym (ap (λ x. x.result) h)) (result_itself new.types r.result);
      parameters = subst (λ ps. IsTrue (same_parameters new.types (rows old.parameters r.parameters) (rows ps s.parameters))) (sym (ap (λ c. c.parameters) e)) (subst (λ run. IsTrue (same_parameters new.types (rows old.parameters r.parameters) (rows old.parameters run))) (sym (ap (λ x. x.parameters) h)) (parameters_themselves new.types (rows old.parameters r.parameters)));
    }

twice : {A : Type 0} (f : A → A) → ((a : A) → f (f a) ≡ f a) → (xs : List A) → map f (map f xs) ≡ map f xs
twice f e [] = refl
twice f e (x ∷ xs) = (λ i. e x i ∷ twice f e xs i)

pub filled_grows : (core : Core) → Grows (without_first_values (without_bodies core)) core
filled_grows core =
    alike_grow (without_first_values (without_bodies core)) core
    (λ i. record core { routines = sym (twice bare (λ r. refl) core.routines) i; variables = sym (twice bare_variable (λ v. refl) core.variables) i })
