-- What holds of parts of a program holds on while the program grows.
use Rattle.std.proofs.Common.{◌≡◌, inl, inr, ◌⊎◌, ℕ, zero, suc, ◌+◌, List, [], ◌∷◌, ◌++◌, length, slice_get, slice_set, take, drop, IsTrue, IsSomeAnd, Option, Some, None, refl, sym, ap, subst, ◌∙◌, append-nil, append_assoc, length-append, length-drop, arith}
use Rattle.std.proofs.lemmas.Bool.{and_from, and_parts}
use Rattle.std.proofs.lemmas.List.{drop-append-le, take-append-le}
use Rattle.std.proofs.lemmas.List.Elements.{All-get_or}
use Rattle.std.proofs.lemmas.Option.{get_or_from_slice_get, slice_get_within}
use Rattle.std.specs.List.{All}
use Rattle.op_base.proofs.Lists.{stays_front}
use Rattle.op_core.proofs.Agreeing.{either_by, some_is}
use Rattle.op_core.proofs.OneType.{kind_is, kind_itself, one_grows, parameters_grow, parameters_themselves, parameters_through, result_grows, result_itself, result_through}
use Rattle.op_core.specs.Growing.{Grows, IsFrontOf, SameRoutine, SameVariable, Stay}
use Rattle.op_core.specs.Heading.{is_same_heading, same_parameters, same_result}
use Rattle.op_core.specs.Members.{There}
use Rattle.op_core.specs.Rows.{rows}
use Rattle.op_core.specs.Sound.{Each, Fit, IsHeaded, Row}
use Rattle.op_core.specs.Types.{is_one_type}
use Rattle.op_core.specs.declared.ids.Run.{Run}
use Rattle.op_core.specs.declared.ids.TypeId.{TypeId}
use Rattle.op_core.specs.declared.program.Core.{Core}
use Rattle.op_core.specs.declared.routine.Parameter.{Parameter}
use Rattle.op_core.specs.declared.routine.Routine.{Routine}
use Rattle.op_core.specs.declared.routine.Variable.{Variable}
use Rattle.op_core.specs.declared.types.CoreType.{CoreType}

-- ---- tables

pub some_and : {A : Type 0} (P : A → Type 0) {o : Option A} {a : A} → o ≡ Some a → P a → IsSomeAnd o P
some_and P e p = subst (λ o. IsSomeAnd o P) (sym e) p

-- what is there
pub of_some : {A : Type 0} (P : A → Type 0) (Q : Type 0) (o : Option A) → ((a : A) → o ≡ Some a → P a → Q) → IsSomeAnd o P → Q
of_some P Q None f p = absurd p
of_some P Q (Some a) f p = f a refl p

pub front_itself : {A : Type 0} (xs : List A) → IsFrontOf xs xs
front_itself xs = record { more = []; is = sym (append-nil xs) }

pub front_same : {A : Type 0} {xs ys : List A} → ys ≡ xs → IsFrontOf xs ys
front_same {xs} e = record { more = []; is = e ∙ sym (append-nil xs) }

pub front_through : {A : Type 0} {xs ys zs : List A} → IsFrontOf xs ys → IsFrontOf ys zs → IsFrontOf xs zs
front_through {xs} f g = record { more = f.more ++ g.more; is = g.is ∙ ap (λ ys. ys ++ g.more) f.is ∙ append_assoc xs f.more g.more }

pub front_stays : {A : Type 0} {old new : List A} → IsFrontOf old new → (n : ℕ) (a : A) → slice_get old n ≡ Some a → slice_get new n ≡ Some a
front_stays {old} f n a s = ap (λ xs. slice_get xs n) f.is ∙ stays_front old f.more n a s

pub front_row : {A : Type 0} {old new : List A} {n : ℕ} → IsFrontOf old new → Row old n → Row new n
front_row {old} f h = omega (arith, ap length f.is, length-append old f.more)

pub front_fit : {A : Type 0} {old new : List A} (run : Run) → IsFrontOf old new → Fit old run → Fit new run
front_fit {old} run f h = omega (arith, ap length f.is, length-append old f.more)

pub front_rows : {A : Type 0} {old new : List A} (run : Run) → IsFrontOf old new → Fit old run → rows new run ≡ rows old run
front_rows {old} run f h =
    ap (λ xs. rows xs run) f.is ∙ ap (take run.count) (drop-append-le run.first old f.more (omega arith)) ∙ take-append-le run.count (drop run.first old) f.more (simp length-drop (omega arith))

pub front_there : {A : Type 0} {old new : List A} (P : A → Type 0) → IsFrontOf old new → (n : ℕ) → There old n P → There new n P
front_there {old} P f n h = of_some P _ (slice_get old n) (λ a e p. some_and P (front_stays f n a e) p) h

pub stay_front : {A : Type 0} {R : A → A → Type 0} {old new : List A} → Each old (λ n a. R a a) → IsFrontOf old new → Stay R old new
stay_front {R} r f = record { each = λ n a e. some_and (R a) (front_stays f n a e) (r n a e) }

pub stay_through : {A : Type 0} {Q R S : A → A → Type 0} {xs ys zs : List A} → ((a b c : A) → Q a b → R b c → S a c) → Stay Q xs ys → Stay R ys zs → Stay S xs zs
stay_through {Q} {R} {S} {ys} {zs} t f g = record {
  each = λ n a e. of_some (Q a) _ (slice_get ys n) (λ b d q. of_some (R b) _ (slice_get zs n) (λ c k r. some_and (S a) k (t a b c q r)) (g.each n b d)) (f.each n a e);
}

pub stay_there : {A : Type 0} {R : A → A → Type 0} {old new : List A} (P Q : A → Type 0) → ((a b : A) → R a b → P a → Q b) → Stay R old new → (n : ℕ) → There old n P → There new n Q
stay_there {R} {old} {new} P Q t f n h =
    of_some P _ (slice_get old n) (λ a e p. of_some (R a) _ (slice_get new n) (λ b d r. some_and Q d (t a b r p)) (f.each n a e)) h

set_other : {A : Type 0} (xs : List A) (k : ℕ) (y : A) (n : ℕ) (a : A) → slice_get xs n ≡ Some a → (n ≡ k) ⊎ (slice_get (slice_set xs k y) n ≡ Some a)
set_other [] k y n a e = absurd (cc)
set_other (x ∷ xs) zero y zero a e = inl refl
set_other (x ∷ xs) zero y (suc n) a e = inr e
set_other (x ∷ xs) (suc k) y zero a e = inr e
set_other (x ∷ xs) (suc k) y (suc n) a e = either_by (ap suc) (λ e. e) (set_other xs k y n a e)

set_here : {A : Type 0} (xs : List A) (k : ℕ) (y a : A) → slice_get xs k ≡ Some a → slice_get (slice_set xs k y) k ≡ Some y
set_here [] k y a e = absurd (cc)
set_here (x ∷ xs) zero y a e = refl
set_here (x ∷ xs) (suc k) y a e = set_here xs k y a e

pub stay_set : {A : Type 0} {R : A → A → Type 0} (xs : List A) (k : ℕ) (y : A) → ((a : A) → R a a) → ((a : A) → slice_get xs k ≡ Some a → R a y) → Stay R xs (slice_set xs k y)
stay_set {A} {R} xs k y r f = record { each = λ n a e. one n a e (set_other xs k y n a e) }
  where
    one : (n : ℕ) (a : A) → slice_get xs n ≡ Some a → (n ≡ k) ⊎ (slice_get (slice_set xs k y) n ≡ Some a) → There (slice_set xs k y) n (R a)
    one n a e (inl same) =
        let here = subst (λ n. slice_get xs n ≡ Some a) same e in
        subst (λ n. There (slice_set xs k y) n (R a)) (sym same) (some_and (R a) (set_here xs k y a here) (f a here))
    one n a e (inr other) = some_and (R a) other (r a)

pub all_at : {A : Type 0} (P : A → Type 0) (xs : List A) (n : ℕ) (a : A) → All P xs → slice_get xs n ≡ Some a → P a
all_at P xs n a h e = subst P (get_or_from_slice_get xs n a a e) (All-get_or P xs n a (slice_get_within xs n a e) h)

-- this holds of each row, by its number, where the first one has the number k
abbrev pub EachFrom : {A : Type 0} → (ℕ → A → Type 0) → ℕ → List A → Type 0
EachFrom P k [] = Unit {0}
EachFrom P k (x ∷ xs) = P k x × EachFrom P (k + 1) xs

from_some : {A : Type 0} (P : ℕ → A → Type 0) (k : ℕ) (xs : List A) → EachFrom P k xs → (n m : ℕ) (a : A) → slice_get xs m ≡ Some a → n ≡ k + m → P n a
from_some P k [] h n m a e l = absurd (cc)
from_some P k (x ∷ xs) h n zero a e l = subst (P n) (some_is e) (subst (λ n. P n x) (omega arith) h.0)
from_some P k (x ∷ xs) h n (suc m) a e l = from_some P (k + 1) xs h.1 n m a e (omega arith)

apart : {A : Type 0} (xs ys : List A) (n : ℕ) (a : A) → slice_get (xs ++ ys) n ≡ Some a → (slice_get xs n ≡ Some a) ⊎ ((m : ℕ) × (n ≡ length xs + m) × (slice_get ys m ≡ Some a))
apart [] ys n a e = inr (n, omega arith, e)
apart (x ∷ xs) ys zero a e = inl e
apart (x ∷ xs) ys (suc n) a e = either_by (λ e. e) (λ p. (p.0, omega (arith, p.1), p.2)) (apart xs ys n a e)

pub each_behind : {A : Type 0} (P : ℕ → A → Type 0) (xs ys : List A) → Each xs P → EachFrom P (length xs) ys → Each (xs ++ ys) P
each_behind {A} P xs ys f g n a e = one (apart xs ys n a e)
  where
    one : (slice_get xs n ≡ Some a) ⊎ ((m : ℕ) × (n ≡ length xs + m) × (slice_get ys m ≡ Some a)) → P n a
    one (inl e) = f n a e
    one (inr p) = from_some P (length xs) ys g n p.0 a p.2 p.1

seam : {A : Type 0} (xs ys : List A) (y : A) → slice_get (xs ++ y ∷ ys) (length xs) ≡ Some y
seam [] ys y = refl
seam (x ∷ xs) ys y = seam xs ys y

-- those behind stand there
pub each_stands : {A : Type 0} (xs ys zs : List A) (n : ℕ) → n ≡ length xs → zs ≡ xs ++ ys → EachFrom (λ m a. slice_get zs m ≡ Some a) n ys
each_stands xs [] zs n l e = tt
each_stands xs (y ∷ ys) zs n l e = (
  ap (λ zs. slice_get zs n) e ∙ ap (slice_get (xs ++ y ∷ ys)) l ∙ seam xs ys y,
  each_stands (xs ++ y ∷ []) ys zs (n + 1) (omega (arith, l, length-append xs (y ∷ []))) (e ∙ sym (append_assoc xs (y ∷ []) ys)),
)

-- ---- programs that grow

pub one_on : {old new : List CoreType} (a b : TypeId) → IsFrontOf old new → IsTrue (is_one_type old a b) → IsTrue (is_one_type new a b)
one_on {old} a b f h = subst (λ types. IsTrue (is_one_type types a b)) (sym f.is) (one_grows old f.more a b h)

pub parameters_on : {old new : List CoreType} (ps qs : List Parameter) → IsFrontOf old new → IsTrue (same_parameters old ps qs) → IsTrue (same_parameters new ps qs)
parameters_on {old} ps qs f h = subst (λ types. IsTrue (same_parameters types ps qs)) (sym f.is) (parameters_grow old f.more ps qs h)

pub result_on : {old new : List CoreType} (a b : Option TypeId) → IsFrontOf old new → IsTrue (same_result old a b) → IsTrue (same_result new a b)
result_on {old} a b f h = subst (λ types. IsTrue (same_result types a b)) (sym f.is) (result_grows old f.more a b h)

variable_itself : (v : Variable) → SameVariable v v
variable_itself v = record { of = refl; role = refl }

pub heading_itself : (core : Core) (r : Routine) → IsTrue (is_same_heading core r r)
heading_itself core r = and_from _ _ (and_from _ _ (kind_itself r.kind) (result_itself core.types r.result)) (parameters_themselves core.types (rows core.parameters r.parameters))

pub heading_is : {old new : Core} {r s : Routine} → s.owner ≡ r.owner → new.types ≡ old.types → new.parameters ≡ old.parameters → IsTrue (is_same_heading old r s) → SameRoutine old new r s
heading_is {old} {new} {r} {s} o t p h =
    let a = and_parts _ _ h in
    let b = and_parts _ _ a.0 in record {
      owner = o;
      kind = sym (kind_is r.kind s.kind b.0);
      result = subst (λ types. IsTrue (same_result types r.result s.result)) (sym t) b.1;
      parameters = subst (λ types. IsTrue (same_parameters types (rows old.parameters r.parameters) (rows new.parameters s.parameters))) (sym t) (subst (λ ps. IsTrue (same_parameters old.types (rows old.parameters r.parameters) (rows ps s.parameters))) (sym p) a.1);
    }

routines_stay : {old new : Core} → All (IsHeaded old) old.routines → IsFrontOf old.parameters new.parameters → IsFrontOf old.routines new.routines → Stay (SameRoutine old new) old.routines new.routines
routines_stay {old} {new} h p f =
    stay_front (λ n r e. record { owner = refl; kind = refl; result = result_itself new.types r.result; parameters = subst (λ ps. IsTrue (same_parameters new.types (rows old.parameters r.parameters) ps)) (sym (front_rows r.parameters p (all_at (IsHeaded old) old.routines n r h e).1)) (parameters_themselves new.types (rows old.parameters r.parameters)) }) f

-- where all tables grow at their ends alone
pub grows_behind : {old new : Core} → All (IsHeaded old) old.routines → IsFrontOf old.types new.types → IsFrontOf old.extents new.extents → IsFrontOf old.fields new.fields → IsFrontOf old.parameters new.parameters → IsFrontOf old.variables new.variables → IsFrontOf old.routines new.routines → new.classes ≡ old.classes → new.interfaces ≡ old.interfaces → new.listed ≡ old.listed → new.methods ≡ old.methods → new.exceptions ≡ old.exceptions → Grows old new
grows_behind h t e f p v r c i l m x = record {
  types = t;
  extents = e;
  fields = f;
  parameters = p;
  variables = stay_front (λ n v _. variable_itself v) v;
  routines = routines_stay h p r;
  classes = c;
  interfaces = i;
  listed = l;
  methods = m;
  exceptions = x;
}

-- where routines, parameters and variables are the same
pub grows_tables : {old new : Core} → IsFrontOf old.types new.types → IsFrontOf old.extents new.extents → IsFrontOf old.fields new.fields → new.parameters ≡ old.parameters → new.variables ≡ old.variables → new.routines ≡ old.routines → new.classes ≡ old.classes → new.interfaces ≡ old.interfaces → new.listed ≡ old.listed → new.methods ≡ old.methods → new.exceptions ≡ old.exceptions → Grows old new
grows_tables {old} {new} t e f p v r c i l m x = record {
  types = t;
  extents = e;
  fields = f;
  parameters = front_same p;
  variables = stay_front (λ n v _. variable_itself v) (front_same v);
  routines = stay_front (λ n r _. record { owner = refl; kind = refl; result = result_itself new.types r.result; parameters = subst (λ ps. IsTrue (same_parameters new.types (rows old.parameters r.parameters) (rows ps r.parameters))) (sym p) (parameters_themselves new.types (rows old.parameters r.parameters)) }) (front_same r);
  classes = c;
  interfaces = i;
  listed = l;
  methods = m;
  exceptions = x;
}

pub grows_itself : (core : Core) → Grows core core
grows_itself core = grows_tables (front_itself core.types) (front_itself core.extents) (front_itself core.fields) refl refl refl refl refl refl refl refl

-- where a routine gets another row
pub grows_heading : (core : Core) (k : ℕ) (row : Routine) → ((r : Routine) → slice_get core.routines k ≡ Some r → (row.owner ≡ r.owner) × IsTrue (is_same_heading core r row)) → Grows core (record core { routines = slice_set core.routines k row })
grows_heading core k row f = record {
  types = front_itself core.types;
  extents = front_itself core.extents;
  fields = front_itself core.fields;
  parameters = front_itself core.parameters;
  variables = stay_front (λ n v _. variable_itself v) (front_itself core.variables);
  routines = stay_set core.routines k row (λ r. heading_is refl refl refl (heading_itself core r)) (λ r e. heading_is (f r e).0 refl refl (f r e).1);
  classes = refl;
  interfaces = refl;
  listed = refl;
  methods = refl;
  exceptions = refl;
}

routine_through : {a b c : Core} → IsFrontOf b.types c.types → (r s t : Routine) → SameRoutine a b r s → SameRoutine b c s t → SameRoutine a c r t
routine_through {a} {b} {c} f r s t h k = record {
  owner = k.owner ∙ h.owner;
  kind = k.kind ∙ h.kind;
  result = result_through c.types r.result s.result t.result (result_on r.result s.result f h.result) k.result;
  parameters = parameters_through c.types (rows a.parameters r.parameters) (rows b.parameters s.parameters) (rows c.parameters t.parameters) (parameters_on (rows a.parameters r.parameters) (rows b.parameters s.parameters) f h.parameters) k.parameters;
}

pub grows_through : {a b c : Core} → Grows a b → Grows b c → Grows a c
grows_through g h = record {
  types = front_through g.types h.types;
  extents = front_through g.extents h.extents;
  fields = front_through g.fields h.fields;
  parameters = front_through g.parameters h.parameters;
  variables = stay_through (λ u v w p q. record { of = q.of ∙ p.of; role = q.role ∙ p.role }) g.variables h.variables;
  routines = stay_through (routine_through h.types) g.routines h.routines;
  classes = h.classes ∙ g.classes;
  interfaces = h.interfaces ∙ g.interfaces;
  listed = h.listed ∙ g.listed;
  methods = h.methods ∙ g.methods;
  exceptions = h.exceptions ∙ g.exceptions;
}
