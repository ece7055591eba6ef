-- A program that breaks no rule is of the class that is compiled.
use Rattle.std.proofs.Common.{Box, ◌≡◌, inl, inr, ◌⊎◌, ◌≤◌, ℕ, zero, suc, Bool, true, false, not, ◌&&◌, ◌||◌, List, [], ◌∷◌, All, IfSome, IsSomeAnd, length, map, slice_get, Option, Some, None, Ok, refl, sym, ap, ap₂, subst, ◌∙◌, arith}
use Rattle.std.proofs.lemmas.Bool.{and_from, le-leb, not_from_false, or_left, or_right}
use Rattle.std.proofs.lemmas.List.Elements.{All-head, All-nil, All-tail, All-weaker}
use Rattle.std.proofs.lemmas.Option.{slice_get-map}
use Rattle.std.specs.List.{list_all}
use Rattle.std.specs.Option.{option_map}
use Rattle.std.specs.declared.alloc.Global.{Global}
use Rattle.op_accepted.proofs.Beginning.{count_of_units}
use Rattle.op_accepted.proofs.Constants.{constant_fits}
use Rattle.op_accepted.proofs.Growth.{statements_grow}
use Rattle.op_accepted.proofs.Grown.{type_on}
use Rattle.op_accepted.proofs.StateParts.{Nothing}
use Rattle.op_accepted.proofs.Statements.{statements_fit}
use Rattle.op_accepted.proofs.Managed.{not_managed}
use Rattle.op_accepted.proofs.Programs.{program_fits}
use Rattle.op_accepted.proofs.Solid.{predefined_at}
use Rattle.op_accepted.specs.Fit.{AreFitStatements, IsFitType, any_text}
use Rattle.op_accepted.specs.State.{AreTreesFit, IsFit, IsFitState, IsOfItself, IsOuterRow, IsPlainRow, Keeps, faulty, kept}
use Rattle.op_sound.proofs.Sound.{all_rows, bared, from_begun, from_placed}
use Rattle.op_check_unit.specs.Checking.{CheckIs, Fills, bare, body_in}
use Rattle.op_check_unit.specs.FirstValues.{bare_variable, begins_with}
use Rattle.op_check_unit.specs.Programs.{program_means, with_units}
use Rattle.op_check_unit.specs.Steps.{Here}
use Rattle.op_check_unit.specs.System.{beginning}
use Rattle.op_core.proofs.Growing.{all_at, front_itself}
use Rattle.op_core.specs.Initial.{FirstValue, first_value_of}
use Rattle.op_core.specs.Sound.{IsSound, IsSoundNesting}
use Rattle.op_core.specs.Statement.{Statements, stmts_of}
use Rattle.op_core.specs.declared.constant.Initial.{Initial}
use Rattle.op_core.specs.declared.ids.RoutineId.{RoutineId}
use Rattle.op_core.specs.declared.ids.TypeId.{TypeId}
use Rattle.op_core.specs.declared.ids.VariableId.{VariableId}
use Rattle.op_core.specs.declared.program.Core.{Core}
use Rattle.op_core.specs.declared.program.Unit.{Unit as UnitRow}
use Rattle.op_core.specs.declared.routine.Body.{Body}
use Rattle.op_core.specs.declared.routine.Routine.{Routine}
use Rattle.op_core.specs.declared.routine.Variable.{Variable}
use Rattle.op_core.specs.declared.types.CoreType.{CoreType}
use Rattle.op_core.specs.declared.types.CoreType.TheVariants.{Array}
use Rattle.op_meaning.specs.Shapes.{is_managed, is_reference, no_type}
use Rattle.op_plain.specs.Plain.{is_plain_body, is_plain_by, is_plain_result, is_plain_role, is_plain_routine, is_plain_type, is_plain_unit, is_plain_variable, most_units, takes_few}
use Rattle.op_tree.specs.File.{File}
use Rattle.op_typing.specs.Simple.{IsSolidType, is_solid}
use Rattle.op_typing.specs.SimpleTests.{begins_itself, gives_nothing, is_counted, is_none, is_of_unit, is_procedure, is_solid_parameter, is_solid_type}

-- ---- lists

all_pass : {A : Type 0} (test : A → Bool) (xs : List A) → All (λ a. test a ≡ true) xs → list_all test xs ≡ true
all_pass test [] a = refl
all_pass test (x ∷ xs) a = and_from (test x) (list_all test xs) (All-head (λ a. test a ≡ true) x xs a) (all_pass test xs (All-tail (λ a. test a ≡ true) x xs a))

-- in rows of which each is bare there is nothing
none_in : {A B : Type 0} (f : A → Option B) (xs : List A) (n : ℕ) (b : B) → All (λ a. f a ≡ None) xs → slice_get (map f xs) n ≡ Some (Some b) → ⊥
none_in f [] n b a e = absurd (cc)
none_in f (x ∷ xs) zero b a e = let h = All-head (λ a. f a ≡ None) x xs a in absurd (cc)
none_in f (x ∷ xs) (suc n) b a e = none_in f xs n b (All-tail (λ a. f a ≡ None) x xs a) e

-- ---- rows without bodies and first values

bare_routines : (rs : List Routine) → All IsOuterRow rs → map bare rs ≡ rs
bare_routines [] a = refl
bare_routines (r ∷ rs) a = ap₂ (λ r rs. r ∷ rs) (ap (λ b. record r { body = b }) (sym (All-head IsOuterRow r rs a).bare)) (bare_routines rs (All-tail IsOuterRow r rs a))

bare_variables : (vs : List Variable) → All IsPlainRow vs → map bare_variable vs ≡ vs
bare_variables [] a = refl
bare_variables (v ∷ vs) a = ap₂ (λ v vs. v ∷ vs) (ap (λ b. record v { first_value = b }) (sym (All-head IsPlainRow v vs a).bare)) (bare_variables vs (All-tail IsPlainRow v vs a))

-- ---- the program with bodies and first values in its rows

-- what is known of it
record Known (core : Core) : Type 0 where
  made : List (RoutineId × Statements)
  first_values : List (VariableId × FirstValue)
  fit : IsFit (bared core) [] made first_values
  bodies : (n : ℕ) (ss : Statements) → slice_get (map body_in core.routines) n ≡ Some (Some ss) → AreFitStatements (bared core) ss
  values : (n : ℕ) (v : FirstValue) → slice_get (map begins_with core.variables) n ≡ Some (Some v) → IsSomeAnd (slice_get (map bare_variable core.variables) n) (λ v. is_reference v.role ≡ false)
  few : length core.units ≤ 1024

known_of : (h : Here) (core : Core) → IsFitState h → Fills h.bodies h.first_values h.core core → length h.core.units ≤ 1024 → Known core
known_of h core x f le = record {
  made = h.bodies;
  first_values = h.first_values;
  fit = record { tables = y.tables; exceptions = y.exceptions; variables = y.variables; routines = y.routines; units = y.units; names = All-nil _; bodies = y.bodies; values = y.values };
  bodies = λ n ss e. one_body n ss (from_placed h.bodies (map body_in h.core.routines) n ss y.bodies (sym (ap (λ xs. slice_get xs n) f.bodies) ∙ e));
  values = λ n v e. one_value n v (from_begun h.first_values (map begins_with h.core.variables) n v y.values (sym (ap (λ xs. slice_get xs n) f.values) ∙ e));
  few = subst (λ c. length c.units ≤ 1024) (sym same) le;
}
  where
    same : bared core ≡ h.core
    same = f.others ∙ ap₂ (λ rs vs. record h.core { routines = rs; variables = vs }) (bare_routines h.core.routines x.routines) (bare_variables h.core.variables x.variables)

    y : IsFit (bared core) h.names h.bodies h.first_values
    y = subst (λ c. IsFit c h.names h.bodies h.first_values) (sym same) x

    one_body : (n : ℕ) (ss : Statements) → (slice_get (map body_in h.core.routines) n ≡ Some (Some ss)) ⊎ ((b : RoutineId × Statements) × AreFitStatements (bared core) b.1 × (b.0.0 ≡ n) × (b.1 ≡ ss)) → AreFitStatements (bared core) ss
    one_body n ss (inl e) = absurd (none_in body_in h.core.routines n ss (All-weaker IsOuterRow (λ r. body_in r ≡ None) (λ r k. ap (option_map (λ b. stmts_of b.statements.items)) k.bare) h.core.routines x.routines) e)
    one_body n ss (inr b) = subst (AreFitStatements (bared core)) b.3 b.1

    one_value : (n : ℕ) (v : FirstValue) → (slice_get (map begins_with h.core.variables) n ≡ Some (Some v)) ⊎ ((b : VariableId × FirstValue) × IsOfItself (bared core) b × (b.0.0 ≡ n) × (b.1 ≡ v)) → IsSomeAnd (slice_get (map bare_variable core.variables) n) (λ v. is_reference v.role ≡ false)
    one_value n v (inl e) = absurd (none_in begins_with h.core.variables n v (All-weaker IsPlainRow (λ v. begins_with v ≡ None) (λ v k. ap (option_map _) k.bare) h.core.variables x.variables) e)
    one_value n v (inr b) = subst (λ n. IsSomeAnd (slice_get (map bare_variable core.variables) n) (λ v. is_reference v.role ≡ false)) b.2 b.1

-- ---- the test, row by row

bare_part : (rs : List Routine) (n : ℕ) → gives_nothing (slice_get (map bare rs) n) ≡ gives_nothing (slice_get rs n)
bare_part [] n = refl
bare_part (r ∷ rs) zero = refl
bare_part (r ∷ rs) (suc n) = bare_part rs n

unit_passes : (core : Core) (u : UnitRow) → is_plain_unit (bared core) u ≡ true → is_plain_unit core u ≡ true
unit_passes core u h = ap₂ (λ a b. a && b) (sym (part u.initialization)) (sym (part u.finalization)) ∙ h
  where
    part : (o : Option RoutineId) → is_procedure (bared core) o ≡ is_procedure core o
    part None = refl
    part (Some q) = bare_part core.routines q.0

module _ (known : AreTreesFit) (core : Core) (k : Known core) (sound : IsSound core) where
  types : All (IsFitType core) core.types
  types = All-weaker (IsFitType (bared core)) (IsFitType core) (type_on (bared core) core (front_itself core.types)) core.types k.fit.tables.types

  type_passes : (of : TypeId) → IsSolidType core of → is_plain_type core of ≡ true
  type_passes of h = and_from (is_solid_type core of) (not (is_managed core of)) h (not_from_false (is_managed core of) (not_managed core sound.extents types k.fit.tables.fields of h))

  counted : (t : CoreType) → IsFitType core t → is_counted core t ≡ true
  counted (Array at element) h = h.2
  counted t h = refl

  bare_variable_at : (n : ℕ) (v : Variable) → slice_get core.variables n ≡ Some v → slice_get (map bare_variable core.variables) n ≡ Some (bare_variable v)
  bare_variable_at n v e = slice_get-map bare_variable core.variables n ∙ ap (option_map bare_variable) e

  begins : (n : ℕ) (v : Variable) → slice_get core.variables n ≡ Some v → begins_itself v ≡ true
  begins n v e = one v.first_value refl
    where
      itself : (i : FirstValue) → begins_with v ≡ Some i → is_reference v.role ≡ false
      itself i b = subst (λ o. IsSomeAnd o (λ v. is_reference v.role ≡ false)) (bare_variable_at n v e) (k.values n i (slice_get-map begins_with core.variables n ∙ ap (option_map begins_with) e ∙ ap Some b))

      one : (o : Option (Box Initial Global)) → v.first_value ≡ o → (not (is_reference v.role) || is_none o) ≡ true
      one None f = or_right (not (is_reference v.role)) true refl
      one (Some i) f = or_left (not (is_reference v.role)) false (not_from_false (is_reference v.role) (itself (first_value_of i.value) (ap (option_map (λ i. first_value_of i.value)) f)))

  variable_passes : (n : ℕ) (v : Variable) → slice_get core.variables n ≡ Some v → is_plain_variable core v ≡ true
  variable_passes n v e =
      let there = bare_variable_at n v e in
      let row = all_at IsPlainRow (map bare_variable core.variables) n (bare_variable v) k.fit.variables there in
      let solid = all_at (λ v. IsSolidType core v.of) (map bare_variable core.variables) n (bare_variable v) k.fit.tables.variables there in
      and_from (is_plain_role v.role) (begins_itself v && is_plain_type core v.of) row.role (and_from (begins_itself v) (is_plain_type core v.of) (begins n v e) (type_passes v.of solid))

  result_passes : (o : Option TypeId) → IfSome o (IsSolidType core) → is_plain_result core o ≡ true
  result_passes None h = refl
  result_passes (Some of) h = type_passes of h

  body_passes : (n : ℕ) (r : Routine) → slice_get core.routines n ≡ Some r → (o : Option Body) → r.body ≡ o → is_plain_body any_text core o ≡ true
  body_passes n r e None f = refl
  body_passes n r e (Some b) f =
      let ss = stmts_of b.statements.items in
      known.grow (bared core) core (front_itself core.types) ss (k.bodies n ss (slice_get-map body_in core.routines n ∙ ap (option_map body_in) e ∙ ap (λ o. Some (option_map (λ b. stmts_of b.statements.items) o)) f))

  routine_passes : (n : ℕ) (r : Routine) → slice_get core.routines n ≡ Some r → is_plain_routine any_text core r ≡ true
  routine_passes n r e =
      let there = slice_get-map bare core.routines n ∙ ap (option_map bare) e in
      let row = all_at IsOuterRow (map bare core.routines) n (bare r) k.fit.routines there in
      let result = all_at (λ r. IfSome r.result (IsSolidType core)) (map bare core.routines) n (bare r) k.fit.tables.results there in
      let few = le-leb r.parameters.count 64 row.parameters in
      and_from (is_of_unit r.owner) _ (ap is_of_unit row.owner)
      (and_from (is_none r.enclosing) _ (ap is_none row.enclosing)
      (and_from (is_plain_result core r.result) _ (result_passes r.result result) (and_from (takes_few r.parameters.count) (is_plain_body any_text core r.body) few (body_passes n r e r.body refl))))

  first_solid : IsSolidType core no_type
  first_solid = ap is_solid (predefined_at k.fit.tables 0 (omega arith))

  known_is_plain : is_plain_by any_text core ≡ true
  unfolding is_plain_by
  known_is_plain =
      and_from _ _ (ap is_none k.fit.exceptions)
      (and_from _ _ (not_from_false (is_managed core no_type) (not_managed core sound.extents types k.fit.tables.fields no_type first_solid))
      (and_from _ _ (all_pass (is_counted core) core.types (All-weaker (IsFitType core) (λ t. is_counted core t ≡ true) counted core.types types))
      (and_from _ _ (all_pass (is_solid_parameter core) core.parameters k.fit.tables.parameters)
      (and_from _ _ (all_pass (is_plain_variable core) core.variables (all_rows core.variables variable_passes))
      (and_from _ _ (all_pass (is_plain_routine any_text core) core.routines (all_rows core.routines routine_passes))
      (and_from _ _ (all_pass (is_plain_unit core) core.units (All-weaker (λ u. is_plain_unit (bared core) u ≡ true) (λ u. is_plain_unit core u ≡ true) (unit_passes core) core.units k.fit.units))
      (le-leb (length core.units) most_units k.few)))))))

-- ---- what is accepted

known : AreTreesFit
known = record { body = statements_fit; grow = statements_grow; constant = constant_fits }

pub accepted_is_fit : (fs : List File) (order : List (List ℕ)) (core : Core) → CheckIs (program_means fs order) (Ok core) → IsSound core → IsSoundNesting core → length order ≤ 1023 → is_plain_by any_text core ≡ true
accepted_is_fit fs order core c sound nesting le = one (program_fits known fs order)
  where
    one : Keeps Nothing (with_units order beginning).core (program_means fs order) → is_plain_by any_text core ≡ true
    one (faulty r i) = absurd (c.1 r i)
    one (kept x l p) = known_is_plain known core (known_of (program_means fs order).here core x c.0 (let e = l.units in let n = count_of_units order in omega (arith, e, n, le))) sound
