-- The program that is answered where no rule is broken is sound, and bodies name only what is in their scope.
use Rattle.std.proofs.Common.{Box, ◌≡◌, ◌≢◌, inl, inr, ◌⊎◌, ◌<◌, ◌≤◌, ℕ, zero, suc, ◌+◌, Bool, true, false, List, [], ◌∷◌, All, Contains, IfSome, IsSome, IsSomeAnd, Result, Ok, Err, IfOk, cond, drop, filter, flat_map, length, length-set, map, option_to_list, slice_get, slice_set, take, Option, Some, None, refl, sym, ap, ap₂, subst, ◌∙◌, arith, rules}
use Rattle.std.specs.declared.alloc.Global.{Global}
use Rattle.std.specs.Option.{option_and_then, option_map}
use Rattle.std.proofs.lemmas.List.{drop-map, length-map, take-map}
use Rattle.std.proofs.lemmas.List.Elements.{All-cons, All-drop, All-head, All-nil, All-tail, All-take, All-weaker}
use Rattle.std.proofs.lemmas.List.Sums.{sum_by-append, sum_by-cons}
use Rattle.std.proofs.lemmas.Option.{slice_get_within}
use Rattle.op_base.proofs.Tests.{some_there}
use Rattle.op_base.specs.declared.place.Place.{Place}
use Rattle.op_core.proofs.Rows.{set_there, there_is}
use Rattle.op_sound.proofs.Filled.{filled_grows}
use Rattle.op_sound.proofs.Tables.{if_none, tabled_beside, tabled_sound}
use Rattle.op_sound.proofs.Units.{Finished, all_have_bodies, files_settled}
use Rattle.op_sound.proofs.Growth.{some_is, first_lasts}
use Rattle.op_sound.proofs.Routines.{rows_typed}
use Rattle.op_sound.proofs.Steps.{founded_in}
use Rattle.op_sound.proofs.Types.{if_some}
use Rattle.op_check_unit.specs.Checking.{CheckIs, Fills, bare, body_in, placed, without_bodies}
use Rattle.op_sound.specs.Complete.{From, HasBody, IsBareRoutine, IsBareVariable, IsDone, IsDonePart, IsOpen, IsPeopled, IsTypedBody, IsTypedFirst, faulty, scope_of, settled}
use Rattle.op_check_unit.specs.FirstValues.{bare_variable, begins_with, begun, without_first_values}
use Rattle.op_check_unit.specs.Programs.{files_mean, program_means}
use Rattle.op_check_unit.specs.Steps.{Given, Here}
use Rattle.op_check_unit.specs.System.{beginning}
use Rattle.op_sound.specs.Tables.{IsTabled}
use Rattle.op_core.proofs.Agreeing.{some_is as some_eq}
use Rattle.op_core.proofs.Growing.{all_at, some_and}
use Rattle.op_typed.proofs.Lasting.{need_lasts}
use Rattle.op_core.specs.Faults.{FirstIs}
use Rattle.op_core.specs.Growing.{SeesMore}
use Rattle.op_core.specs.Initial.{FirstValue, first_value_of}
use Rattle.op_core.specs.Members.{InRun}
use Rattle.op_core.specs.Relations.{Filled, filled}
use Rattle.op_core.specs.Rows.{rows}
use Rattle.op_core.specs.Sizes.{type_at}
use Rattle.op_core.specs.Sound.{HasRows, IsBody, IsFirst, IsOwner, IsPart, IsRoutine, IsSound, IsSoundNesting, IsUnit, IsVariableRow, Row, at_start, bytes_of, everything, is_declared, itself, role_and_type, size_of, top, within}
use Rattle.op_core.specs.Statement.{Statements, stmts_of}
use Rattle.op_core.specs.StatementTyping.{AreStatements, statements_as}
use Rattle.op_core.specs.Typing.{Sees}
use Rattle.op_core.specs.declared.constant.Initial.{Initial}
use Rattle.op_core.specs.declared.error.CheckError.{CheckError}
use Rattle.op_core.specs.declared.ids.RoutineId.{RoutineId}
use Rattle.op_core.specs.declared.ids.Run.{Run}
use Rattle.op_core.specs.declared.ids.VariableId.{VariableId}
use Rattle.op_core.specs.declared.program.Core.{Core}
use Rattle.op_core.specs.declared.program.Unit.{Unit as RustUnit}
use Rattle.op_core.specs.declared.routine.Owner.TheVariants.{Unit as OfUnit}
use Rattle.op_core.specs.declared.routine.Routine.{Routine}
use Rattle.op_core.specs.declared.routine.Variable.{Variable}
use Rattle.op_core.specs.declared.types.CoreType.{CoreType}
use Rattle.op_tree.specs.File.{File}

-- what a first value says that is kept in a box
abbrev boxed : Option (Box Initial Global) → Option FirstValue
boxed o = option_map (λ i. first_value_of i.value) o

-- ---- lists

pub all_rows : {A : Type 0} {P : A → Type 0} (xs : List A) → ((n : ℕ) (a : A) → slice_get xs n ≡ Some a → P a) → All P xs
all_rows {P = P} [] k = All-nil P
all_rows {P = P} (x ∷ xs) k = All-cons P x xs (k 0 x refl) (all_rows xs (λ n a e. k (suc n) a e))

map_at : {A B : Type 0} (f : A → B) (xs : List A) (n : ℕ) → slice_get (map f xs) n ≡ option_map f (slice_get xs n)
map_at f [] n = refl
map_at f (x ∷ xs) zero = refl
map_at f (x ∷ xs) (suc n) = map_at f xs n

pub set_cases : {A : Type 0} (xs : List A) (k : ℕ) (y : A) (n : ℕ) (a : A) → slice_get (slice_set xs k y) n ≡ Some a → ((n ≡ k) × (a ≡ y)) ⊎ (slice_get xs n ≡ Some a)
set_cases [] k y n a e = inr e
set_cases (x ∷ xs) zero y zero a e = inl (refl, cc)
set_cases (x ∷ xs) zero y (suc n) a e = inr e
set_cases (x ∷ xs) (suc k) y zero a e = inr e
set_cases (x ∷ xs) (suc k) y (suc n) a e = next (set_cases xs k y n a e)
  where
    next : ((n ≡ k) × (a ≡ y)) ⊎ (slice_get xs n ≡ Some a) → ((suc n ≡ suc k) × (a ≡ y)) ⊎ (slice_get xs n ≡ Some a)
    next (inl p) = inl (ap suc p.0, p.1)
    next (inr f) = inr f

-- ---- rows without bodies and first values

abbrev pub bared : Core → Core
bared core = without_first_values (without_bodies core)

bare_itself : (core : Core) (rs : List Routine) → All (IsBareRoutine core) rs → map bare rs ≡ rs
bare_itself core [] a = refl
bare_itself core (r ∷ rs) a = ap₂ (λ r rs. r ∷ rs) (ap (λ b. record r { body = b }) (sym (All-head (IsBareRoutine core) r rs a).body)) (bare_itself core rs (All-tail (IsBareRoutine core) r rs a))

bare_variables : (core : Core) (vs : List Variable) → All (IsBareVariable core) vs → map bare_variable vs ≡ vs
bare_variables core [] a = refl
bare_variables core (v ∷ vs) a = ap₂ (λ v vs. v ∷ vs) (ap (λ b. record v { first_value = b }) (sym (All-head (IsBareVariable core) v vs a).1)) (bare_variables core vs (All-tail (IsBareVariable core) v vs a))

is_bare : {core : Core} → IsPeopled core → bared core ≡ core
is_bare {core} p = ap₂ (λ rs vs. record core { routines = rs; variables = vs }) (bare_itself core core.routines p.routines) (bare_variables core core.variables p.variables)

-- what is put into a row is one of those that are put
pub from_placed : {P : RoutineId × Statements → Type 0} (bs : List (RoutineId × Statements)) (xs : List (Option Statements)) (n : ℕ) (ss : Statements) → All P bs → slice_get (placed bs xs) n ≡ Some (Some ss) → (slice_get xs n ≡ Some (Some ss)) ⊎ ((b : RoutineId × Statements) × P b × (b.0.0 ≡ n) × (b.1 ≡ ss))
from_placed [] xs n ss a e = inl e
from_placed {P = P} (b ∷ bs) xs n ss a e = one (from_placed bs xs n ss (All-tail P b bs a)) (set_cases (placed bs xs) b.0.0 (Some b.1) n (Some ss) e)
  where
    one : (slice_get (placed bs xs) n ≡ Some (Some ss) → (slice_get xs n ≡ Some (Some ss)) ⊎ ((b : RoutineId × Statements) × P b × (b.0.0 ≡ n) × (b.1 ≡ ss))) → ((n ≡ b.0.0) × (Some ss ≡ Some b.1)) ⊎ (slice_get (placed bs xs) n ≡ Some (Some ss)) → (slice_get xs n ≡ Some (Some ss)) ⊎ ((b : RoutineId × Statements) × P b × (b.0.0 ≡ n) × (b.1 ≡ ss))
    one rest (inl p) = inr (b, All-head P b bs a, sym p.0, sym (some_eq p.1))
    one rest (inr f) = rest f

pub from_begun : {P : VariableId × FirstValue → Type 0} (bs : List (VariableId × FirstValue)) (xs : List (Option FirstValue)) (n : ℕ) (v : FirstValue) → All P bs → slice_get (begun bs xs) n ≡ Some (Some v) → (slice_get xs n ≡ Some (Some v)) ⊎ ((b : VariableId × FirstValue) × P b × (b.0.0 ≡ n) × (b.1 ≡ v))
from_begun [] xs n v a e = inl e
from_begun {P = P} (b ∷ bs) xs n v a e = one (from_begun bs xs n v (All-tail P b bs a)) (set_cases (begun bs xs) b.0.0 (Some b.1) n (Some v) e)
  where
    one : (slice_get (begun bs xs) n ≡ Some (Some v) → (slice_get xs n ≡ Some (Some v)) ⊎ ((b : VariableId × FirstValue) × P b × (b.0.0 ≡ n) × (b.1 ≡ v))) → ((n ≡ b.0.0) × (Some v ≡ Some b.1)) ⊎ (slice_get (begun bs xs) n ≡ Some (Some v)) → (slice_get xs n ≡ Some (Some v)) ⊎ ((b : VariableId × FirstValue) × P b × (b.0.0 ≡ n) × (b.1 ≡ v))
    one rest (inl p) = inr (b, All-head P b bs a, sym p.0, sym (some_eq p.1))
    one rest (inr f) = rest f

length_placed : (bs : List (RoutineId × Statements)) (xs : List (Option Statements)) → length (placed bs xs) ≡ length xs
length_placed [] xs = refl
length_placed (b ∷ bs) xs = length-set (placed bs xs) b.0.0 (Some b.1) ∙ length_placed bs xs

set_keeps : {A : Type 0} (xs : List A) (k : ℕ) (y : A) (n : ℕ) (a : A) → slice_get xs n ≡ Some a → (slice_get (slice_set xs k y) n ≡ Some y) ⊎ (slice_get (slice_set xs k y) n ≡ Some a)
set_keeps [] k y n a e = inr e
set_keeps (x ∷ xs) zero y zero a e = inl refl
set_keeps (x ∷ xs) zero y (suc n) a e = inr e
set_keeps (x ∷ xs) (suc k) y zero a e = inr e
set_keeps (x ∷ xs) (suc k) y (suc n) a e = set_keeps xs k y n a e

-- there is a body in the row
is_placed : (bs : List (RoutineId × Statements)) (xs : List (Option Statements)) (n : ℕ) → HasBody bs n → n < length xs → (ss : Statements) × (slice_get (placed bs xs) n ≡ Some (Some ss))
is_placed [] xs n h lt = absurd h
is_placed (b ∷ bs) xs n (inl e) lt = (b.1, subst (λ k. slice_get (slice_set (placed bs xs) b.0.0 (Some b.1)) k ≡ Some (Some b.1)) e (set_there (placed bs xs) b.0.0 (Some b.1) (let l = length_placed bs xs in omega (arith, l, e, lt))))
is_placed (b ∷ bs) xs n (inr h) lt = let i = is_placed bs xs n h lt in one i.0 (set_keeps (placed bs xs) b.0.0 (Some b.1) n (Some i.0) i.1)
  where
    one : (ss : Statements) → (slice_get (slice_set (placed bs xs) b.0.0 (Some b.1)) n ≡ Some (Some b.1)) ⊎ (slice_get (slice_set (placed bs xs) b.0.0 (Some b.1)) n ≡ Some (Some ss)) → (ss : Statements) × (slice_get (slice_set (placed bs xs) b.0.0 (Some b.1)) n ≡ Some (Some ss))
    one ss (inl e) = (b.1, e)
    one ss (inr e) = (ss, e)

-- ---- bytes

bare_bytes : (core : Core) (b : Bool) (v : Variable) (us ws : List Variable) → bytes_of core us ≡ bytes_of core ws → bytes_of core (cond b (bare_variable v ∷ us) us) ≡ bytes_of core (cond b (v ∷ ws) ws)
bare_bytes core true v us ws e = sum_by-cons (λ v. size_of core v.of) (bare_variable v) us ∙ ap (λ n. size_of core v.of + n) e ∙ sym (sum_by-cons (λ v. size_of core v.of) v ws)
bare_bytes core false v us ws e = e

bytes_bare : (core : Core) (vs : List Variable) → bytes_of core (filter (λ v. is_declared v.role) (map bare_variable vs)) ≡ bytes_of core (filter (λ v. is_declared v.role) vs)
bytes_bare core [] = refl
bytes_bare core (v ∷ vs) = bare_bytes core (is_declared v.role) v (filter (λ v. is_declared v.role) (map bare_variable vs)) (filter (λ v. is_declared v.role) vs) (bytes_bare core vs)

one_bare : (core : Core) (o : Option Variable) → bytes_of core (option_to_list (option_map bare_variable o)) ≡ bytes_of core (option_to_list o)
one_bare core None = refl
one_bare core (Some v) = refl

globals_bare : (core : Core) (vs : List Variable) (gs : List VariableId) → bytes_of core (flat_map (λ g. option_to_list (slice_get (map bare_variable vs) g.0)) gs) ≡ bytes_of core (flat_map (λ g. option_to_list (slice_get vs g.0)) gs)
globals_bare core vs [] = refl
globals_bare core vs (g ∷ gs) =
    sum_by-append (λ v. size_of core v.of) (option_to_list (slice_get (map bare_variable vs) g.0)) (flat_map (λ g. option_to_list (slice_get (map bare_variable vs) g.0)) gs)
    ∙ ap₂ (λ n m. n + m) (ap (λ o. bytes_of core (option_to_list o)) (map_at bare_variable vs g.0) ∙ one_bare core (slice_get vs g.0)) (globals_bare core vs gs)
    ∙ sym (sum_by-append (λ v. size_of core v.of) (option_to_list (slice_get vs g.0)) (flat_map (λ g. option_to_list (slice_get vs g.0)) gs))

-- ---- the program with bodies and first values in its rows

-- what is known of it without them
record Known (h : Here) (core : Core) : Type 0 where
  unit : Row core.units 0
  units : All (IsUnit (bared core)) core.units
  routines : All (λ r. r.unit.0 < length core.units) (map bare core.routines)
  tables : IsTabled (bared core)
  people : IsPeopled (bared core)
  bodies : All (IsTypedBody [] (bared core)) h.bodies
  values : All (IsTypedFirst (bared core)) h.first_values
  have : (n : ℕ) → n < length core.routines → HasBody h.bodies n
  placed_so : map body_in core.routines ≡ placed h.bodies (map body_in h.core.routines)
  begun_so : map begins_with core.variables ≡ begun h.first_values (map begins_with h.core.variables)
  no_bodies : (n : ℕ) (ss : Statements) → slice_get (map body_in h.core.routines) n ≡ Some (Some ss) → ⊥
  no_values : (n : ℕ) (v : FirstValue) → slice_get (map begins_with h.core.variables) n ≡ Some (Some v) → ⊥

option_at : {A B : Type 0} (f : A → Option B) (o : Option A) (b : B) → option_map f o ≡ Some (Some b) → (a : A) × (o ≡ Some a) × (f a ≡ Some b)
option_at f None b e = absurd (cc)
option_at f (Some a) b e = (a, refl, some_eq e)

-- the row of a unit has its globals, and procedures for its parts
unit_done : (core : Core) (start : ℕ) (places : List (Option Place)) → start ≤ length core.globals → IsPeopled core → (u : RustUnit) → IsDone core start None places u → IsUnit core u
unit_done core start places le p u d =
    ((let f = d.globals in omega (arith, f, le)), All-take (λ v. Row core.variables v.0) u.globals.count (drop u.globals.first core.globals) (All-drop (λ v. Row core.variables v.0) u.globals.first core.globals p.globals), part u.initialization d.initialization, part u.finalization d.finalization)
  where
    part : (o : Option RoutineId) → IfSome o (IsDonePart core None places) → IsPart core o
    part None x = tt
    part (Some id) x =
        let q = some_is (slice_get core.routines id.0) x.0 in
        some_and (λ r. (r.owner ≡ OfUnit) × (r.parameters.count ≡ 0)) q.1 ((all_at (IsBareRoutine core) core.routines id.0 q.0 p.routines q.1).owner, q.2)

known : (h : Here) (core : Core) → Finished h → Fills h.bodies h.first_values h.core core → Known h core
known h core f g = record {
  unit = (let lt = f.state.unit in let e = ap length units in omega (arith, lt, e));
  units = subst (λ c. All (IsUnit c) core.units) (sym same) (subst (All (IsUnit h.core)) (sym units) (All-weaker (IsDone h.core f.start None h.awaited) (IsUnit h.core) (unit_done h.core f.start h.awaited f.state.start f.state.people) h.core.units f.state.units));
  routines = subst (λ c. All (λ r. r.unit.0 < length c.units) c.routines) (sym same) (All-weaker (IsBareRoutine h.core) (λ r. r.unit.0 < length h.core.units) (λ r x. x.unit) h.core.routines f.state.people.routines);
  tables = subst IsTabled (sym same) f.state.tables;
  people = subst IsPeopled (sym same) f.state.people;
  bodies = subst (λ c. All (IsTypedBody [] c) h.bodies) (sym same) (All-weaker (λ b. IsTypedBody [] h.core b × (IsOpen None h.awaited b.0.0 → ⊥)) (IsTypedBody [] h.core) (λ b z. z.0) h.bodies f.state.bodies);
  values = subst (λ c. All (IsTypedFirst c) h.first_values) (sym same) f.state.values;
  have = λ n lt. all_have_bodies h f n (let l = ap (λ c. length c.routines) same in let m = length-map core.routines bare in omega (arith, l, m, lt));
  placed_so = g.bodies;
  begun_so = g.values;
  no_bodies = λ n ss e. no_body n ss (option_at body_in (slice_get h.core.routines n) ss (sym (map_at body_in h.core.routines n) ∙ e));
  no_values = λ n v e. no_value n v (option_at begins_with (slice_get h.core.variables n) v (sym (map_at begins_with h.core.variables n) ∙ e));
}
  where
    same : bared core ≡ h.core
    same = g.others ∙ is_bare f.state.people

    units : core.units ≡ h.core.units
    units = ap (λ c. c.units) same

    no_body : (n : ℕ) (ss : Statements) → (r : Routine) × (slice_get h.core.routines n ≡ Some r) × (body_in r ≡ Some ss) → ⊥
    no_body n ss x = let b = (all_at (IsBareRoutine h.core) h.core.routines n x.0 f.state.people.routines x.1).body in let e = ap (λ b. option_map (λ b. stmts_of b.statements.items) b) (sym b) ∙ x.2 in absurd (cc)

    no_value : (n : ℕ) (v : FirstValue) → (r : Variable) × (slice_get h.core.variables n ≡ Some r) × (begins_with r ≡ Some v) → ⊥
    no_value n v x = let b = (all_at (IsBareVariable h.core) h.core.variables n x.0 f.state.people.variables x.1).1 in let e = ap boxed (sym b) ∙ x.2 in absurd (cc)

bare_at : {h : Here} {core : Core} → Known h core → (n : ℕ) (r : Routine) → slice_get core.routines n ≡ Some r → IsBareRoutine (bared core) (bare r)
bare_at {core = core} k n r e = all_at (IsBareRoutine (bared core)) (map bare core.routines) n (bare r) k.people.routines (map_at bare core.routines n ∙ ap (option_map bare) e)

-- the routine's variables have their rows, and so it is with its statements
abbrev IsTypedRow : Core → Statements → Routine → Type 0
IsTypedRow core ss r = HasRows core r × AreStatements core (scope_of [] core r) (at_start r) ss

-- the statements that stand in a row
typed_at : {h : Here} {core : Core} → Known h core → (n : ℕ) (r : Routine) (ss : Statements) → slice_get core.routines n ≡ Some r → body_in r ≡ Some ss → IsTypedRow (bared core) ss (bare r)
typed_at {h} {core} k n r ss e f = one (from_placed h.bodies (map body_in h.core.routines) n ss k.bodies (ap (λ xs. slice_get xs n) (sym k.placed_so) ∙ map_at body_in core.routines n ∙ ap (option_map body_in) e ∙ ap Some f))
  where
    one : (slice_get (map body_in h.core.routines) n ≡ Some (Some ss)) ⊎ ((b : RoutineId × Statements) × IsTypedBody [] (bared core) b × (b.0.0 ≡ n) × (b.1 ≡ ss)) → IsTypedRow (bared core) ss (bare r)
    one (inl g) = absurd (k.no_bodies n ss g)
    one (inr x) =
        let q = some_is (slice_get (map bare core.routines) x.0.0.0) x.1 in
        let same : q.0 ≡ bare r = some_eq (sym q.1 ∙ ap (slice_get (map bare core.routines)) x.2 ∙ map_at bare core.routines n ∙ ap (option_map bare) e) in
        subst (λ ss. IsTypedRow (bared core) ss (bare r)) x.3 (subst (IsTypedRow (bared core) x.0.1) same q.2)

-- the first value that stands in a row
begins_at : {h : Here} {core : Core} → Known h core → (n : ℕ) (v : Variable) (i : FirstValue) → slice_get core.variables n ≡ Some v → begins_with v ≡ Some i → IsSomeAnd (type_at core v.of) (λ t. IsFirst (bared core) t v.of i)
begins_at {h} {core} k n v i e f = one (from_begun h.first_values (map begins_with h.core.variables) n i k.values (ap (λ xs. slice_get xs n) (sym k.begun_so) ∙ map_at begins_with core.variables n ∙ ap (option_map begins_with) e ∙ ap Some f))
  where
    one : (slice_get (map begins_with h.core.variables) n ≡ Some (Some i)) ⊎ ((b : VariableId × FirstValue) × IsTypedFirst (bared core) b × (b.0.0 ≡ n) × (b.1 ≡ i)) → IsSomeAnd (type_at core v.of) (λ t. IsFirst (bared core) t v.of i)
    one (inl g) = absurd (k.no_values n i g)
    one (inr x) =
        let q = some_is (slice_get (map bare_variable core.variables) x.0.0.0) x.1 in
        let same : q.0 ≡ bare_variable v = some_eq (sym q.1 ∙ ap (slice_get (map bare_variable core.variables)) x.2 ∙ map_at bare_variable core.variables n ∙ ap (option_map bare_variable) e) in
        subst (λ i. IsSomeAnd (type_at core v.of) (λ t. IsFirst (bared core) t v.of i)) x.3 (subst (λ q. IsSomeAnd (type_at core q.of) (λ t. IsFirst (bared core) t q.of x.0.1)) same q.2)

variable_sound : {h : Here} {core : Core} → Known h core → (n : ℕ) (v : Variable) → slice_get core.variables n ≡ Some v → IsVariableRow core v
variable_sound {h} {core} k n v e =
    let b = all_at (IsBareVariable (bared core)) (map bare_variable core.variables) n (bare_variable v) k.people.variables (map_at bare_variable core.variables n ∙ ap (option_map bare_variable) e) in
    let t = there_is core.types v.of.0 b.0 in
    some_and (λ t. IfSome v.first_value (λ i. IsFirst core t v.of (first_value_of i.value))) t.1 (if_some v.first_value (λ i f. first t.0 t.1 (first_value_of i.value) (begins_at k n v (first_value_of i.value) e (ap boxed f))))
  where
    first : (t : CoreType) → slice_get core.types v.of.0 ≡ Some t → (i : FirstValue) → IsSomeAnd (type_at core v.of) (λ t. IsFirst (bared core) t v.of i) → IsFirst core t v.of i
    first t f i s =
        let q = some_is (type_at core v.of) s in
        first_lasts (filled_grows core) (founded_in k.tables k.people) t v.of i v.of.0 f (subst (λ t. IsFirst (bared core) t v.of i) (some_eq (sym q.1 ∙ f)) q.2)

rows_map : {A B : Type 0} (f : A → B) (xs : List A) (run : Run) → rows (map f xs) run ≡ map f (rows xs run)
rows_map f xs run = ap (take run.count) (drop-map f run.first xs) ∙ take-map f run.count (drop run.first xs)

is_some_of : {A B : Type 0} (f : A → B) (o : Option A) (b : B) → option_map f o ≡ Some b → IsSome o
is_some_of f None b e = absurd (cc)
is_some_of f (Some a) b e = search rules

has_body : {h : Here} {core : Core} → Known h core → (n : ℕ) (r : Routine) → slice_get core.routines n ≡ Some r → IsSome r.body
has_body {h} {core} k n r e =
    let l = ap length k.placed_so in
    let m = length-map core.routines body_in in
    let q = length_placed h.bodies (map body_in h.core.routines) in
    let lt = slice_get_within core.routines n r e in
    let p = is_placed h.bodies (map body_in h.core.routines) n (k.have n lt) (omega (arith, l, m, q, lt)) in
    is_some_of _ r.body p.0 (some_eq (ap (option_map body_in) (sym e) ∙ sym (map_at body_in core.routines n) ∙ ap (λ xs. slice_get xs n) k.placed_so ∙ p.1))

rows_bare : (vs : List Variable) → map role_and_type (map bare_variable vs) ≡ map role_and_type vs
rows_bare [] = refl
rows_bare (v ∷ vs) = ap (λ ss. role_and_type v ∷ ss) (rows_bare vs)

begins : {h : Here} {core : Core} → Known h core → (n : ℕ) (r : Routine) → slice_get core.routines n ≡ Some r → IsSome r.body → HasRows core r
begins {core = core} k n r e s =
    let b = some_there r.body s in
    let own = (typed_at k n r (stmts_of b.0.statements.items) e (ap (option_map (λ b. stmts_of b.statements.items)) b.1)).0 in
    record {
      others = own.others;
      are = sym (ap (map role_and_type) (rows_map bare_variable core.variables r.variables) ∙ rows_bare (rows core.variables r.variables)) ∙ own.are;
      of_block = own.of_block;
    }

routine_sound : {h : Here} {core : Core} → Known h core → (n : ℕ) (r : Routine) → slice_get core.routines n ≡ Some r → IsRoutine core r
routine_sound {h} {core} k n r e =
    let b = bare_at k n r e in record {
      unit = all_at (λ r. r.unit.0 < length core.units) (map bare core.routines) n (bare r) k.routines (map_at bare core.routines n ∙ ap (option_map bare) e);
      owner = subst (IsOwner core) (sym b.owner) tt;
      enclosing = subst (λ o. IfSome o (λ e. Row core.routines e.0)) (sym b.enclosing) tt;
      runs = (b.runs.0, (let l = length-map core.variables bare_variable in let f = b.runs.1 in omega (arith, l, f)));
      parameters = rows_typed core r.parameters k.people.parameters;
      result = b.result;
      has_body = λ o. has_body k n r e;
      begins = λ s. begins k n r e s;
      locals = subst (λ n. n ≤ 1048576) (ap (λ vs. bytes_of core (filter (λ v. is_declared v.role) vs)) (rows_map bare_variable core.variables r.variables) ∙ bytes_bare core (rows core.variables r.variables)) b.locals;
    }

row_of : {A B : Type 0} (f : A → B) (xs : List A) (n : ℕ) → n < length (map f xs) → n < length xs
row_of f xs n lt = let l = length-map xs f in omega (arith, l, lt)

contained : {A : Type 0} (P : A → Type 0) (xs : List A) (x : A) → All P xs → Contains xs x → P x
contained P xs x a c = subst P c.2 (a c.0 x c.1)

none_contained : {A : Type 0} (x : A) → Contains [] x → ⊥
none_contained x c = let lt = c.1 in omega (arith, lt)

global_row : {h : Here} {core : Core} → Known h core → (v : VariableId) → Contains core.globals v → Row core.variables v.0
global_row {core = core} k v c = row_of bare_variable core.variables v.0 (contained (λ v. Row (map bare_variable core.variables) v.0) core.globals v k.people.globals c)

sees_all : {h : Here} {core : Core} → Known h core → (n : ℕ) (r : Routine) → slice_get core.routines n ≡ Some r → SeesMore (scope_of [] (bared core) (bare r)) (everything core)
sees_all {core = core} k n r e = record { variable = λ v x. one v x; routine = λ q lt. row_of bare core.routines q.0 lt }
  where
    one : (v : VariableId) → (scope_of [] (bared core) (bare r)).variable v → Row core.variables v.0
    one v (inl (inl c)) = global_row k v c
    one v (inl (inr d)) = absurd (none_contained v d)
    one v (inr i) = let f = (bare_at k n r e).runs.1 in let lt = i.1 in row_of bare_variable core.variables v.0 (omega (arith, f, lt))

sees_within : {h : Here} {core : Core} → Known h core → (n : ℕ) (r : Routine) → slice_get core.routines n ≡ Some r → SeesMore (scope_of [] (bared core) (bare r)) (within core n)
sees_within {core = core} k n r e = record { variable = λ v x. one v x; routine = λ q lt. alone q lt }
  where
    one : (v : VariableId) → (scope_of [] (bared core) (bare r)).variable v → (within core n).variable v
    one v (inl (inl c)) = inl c
    one v (inl (inr d)) = absurd (none_contained v d)
    one v (inr i) = inr (n, itself, some_and (λ r. InRun r.variables v.0) e i)

    alone : (q : RoutineId) → q.0 < length (map bare core.routines) → (within core n).routine q
    alone q lt = let a = there_is core.routines q.0 (row_of bare core.routines q.0 lt) in some_and _ a.1 (inl (bare_at k q.0 a.0 a.1).enclosing)

body_sound : {h : Here} {core : Core} {sees : Sees} → Known h core → (n : ℕ) (r : Routine) → slice_get core.routines n ≡ Some r → SeesMore (scope_of [] (bared core) (bare r)) sees → IsBody core sees r
body_sound {core = core} k n r e m = if_some r.body (λ b f. need_lasts (filled_grows core) m (statements_as (at_start r) (stmts_of b.statements.items)) (typed_at k n r (stmts_of b.statements.items) e (ap (option_map (λ b. stmts_of b.statements.items)) f)).1)

there_of : {A B : Type 0} (P : B → Type 0) (Q : A → Type 0) (f : A → B) (xs : List A) (n : ℕ) → ((a : A) → P (f a) → Q a) → IsSomeAnd (slice_get (map f xs) n) P → IsSomeAnd (slice_get xs n) Q
there_of P Q f [] n k h = h
there_of P Q f (x ∷ xs) zero k h = k x h
there_of P Q f (x ∷ xs) (suc n) k h = there_of P Q f xs n k h

unit_sound : (core : Core) (u : RustUnit) → IsUnit (bared core) u → IsUnit core u
unit_sound core u h = (h.0, All-weaker (λ v. Row (map bare_variable core.variables) v.0) (λ v. Row core.variables v.0) (λ v lt. row_of bare_variable core.variables v.0 lt) (rows core.globals u.globals) h.1, part u.initialization h.2, part u.finalization h.3)
  where
    part : (o : Option RoutineId) → IsPart (bared core) o → IsPart core o
    part None p = tt
    part (Some id) p = there_of (λ r. (r.owner ≡ OfUnit) × (r.parameters.count ≡ 0)) (λ r. (r.owner ≡ OfUnit) × (r.parameters.count ≡ 0)) bare core.routines id.0 (λ r q. q) p

sound : {h : Here} {core : Core} → Known h core → IsSound core
sound {h} {core} k =
    let t = tabled_sound (tabled_beside core.parameters core.variables core.globals core.routines core.units k.tables) k.unit in record {
      types = t.types;
      finite = t.finite;
      predefined = t.predefined;
      sets = t.sets;
      extents = t.extents;
      sizes = t.sizes;
      classes = t.classes;
      interfaces = t.interfaces;
      descriptions = t.descriptions;
      variables = all_rows core.variables (variable_sound k);
      routines = all_rows core.routines (routine_sound k);
      bodies = all_rows core.routines (λ n r e. body_sound k n r e (sees_all k n r e));
      units = All-weaker (IsUnit (bared core)) (IsUnit core) (unit_sound core) core.units k.units;
      globals = subst (λ n. n ≤ 8388608) (globals_bare core core.variables core.globals) k.people.room;
      exceptions = if_none _ t.exceptions;
    }

sound_nesting : {h : Here} {core : Core} → Known h core → IsSoundNesting core
sound_nesting {h} {core} k = record {
  methods = all_rows {P = λ r. r.owner ≢ OfUnit → r.enclosing ≡ None} core.routines (λ n r e o. (bare_at k n r e).enclosing);
  ends = λ n r e. (0, top (ap (option_and_then (λ r. option_map (λ a. a.0) r.enclosing)) e ∙ ap (option_map (λ a. a.0)) (bare_at k n r e).enclosing), omega arith);
  bodies = λ n r e. body_sound k n r e (sees_within k n r e);
}

from_sound : (g : Given (Unit {0})) (core : Core) → From (λ t h. Finished h) g → FirstIs g.faults None → Fills g.here.bodies g.here.first_values g.here.core core → IsSound core × IsSoundNesting core
from_sound g core (settled f) first fills = one f
  where
    one : {o : Option (Unit {0})} → Filled (λ t. Finished g.here) o → IsSound core × IsSoundNesting core
    one (filled t f) = let k = known g.here core f fills in (sound k, sound_nesting k)
from_sound g core (faulty r i) first fills = absurd (first r i)

-- where no rule is broken
pub program_sound : (fs : List File) (order : List (List ℕ)) (core : Core) → FirstIs (program_means fs order).faults None → Fills (program_means fs order).here.bodies (program_means fs order).here.first_values (program_means fs order).here.core core → IsSound core × IsSoundNesting core
program_sound fs order core first fills = from_sound (files_mean fs order beginning) core (files_settled fs order) first fills

-- of what is answered
pub answer_sound : (fs : List File) (order : List (List ℕ)) (r : Result Core CheckError) → CheckIs (program_means fs order) r → IfOk r (λ core. IsSound core × IsSoundNesting core)
answer_sound fs order (Ok core) c = program_sound fs order core c.1 c.0
answer_sound fs order (Err e) c = tt
