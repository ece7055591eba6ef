-- What statements are made of: values as they are and as amounts, the types in which values are counted, labels, and the variables of loops.
use Rattle.std.proofs.Common.{◌≡◌, ◌<◌, ◌+◌, ℕ, ℤ, Bool, true, false, nat_lt, List, ◌∷◌, length, slice_get, Option, Some, None, IfSome, refl, subst, arith}
use Rattle.std.proofs.lemmas.Bool.{and_from, and_parts, lt-ltb}
use Rattle.std.specs.Option.{IsSomeAnd, option_and_then}
use Rattle.std.specs.Prelude.{int_le}
use Rattle.op_base.specs.declared.place.Place.{Place}
use Rattle.op_check_expr.specs.Phrases.{is_writable_variable}
use Rattle.op_check_expr.specs.Scopes.{Here}
use Rattle.op_check_expr.specs.Values.{Value, constant, computed}
use Rattle.op_check_expr.specs.declared.scope.Around.{Around}
use Rattle.op_check_stmt.specs.Case.{both_bounds, constant_in, of_type}
use Rattle.op_check_stmt.specs.Labels.{once}
use Rattle.op_check_stmt.specs.Leaving.{by_reach, jump_of}
use Rattle.op_check_stmt.specs.Procedure.{base_by, base_of, change, result_at, result_of}
use Rattle.op_check_stmt.specs.Statement.{within}
use Rattle.op_check_stmt.specs.Variable.{counter, counter_named, counter_row, host_by, host_of, is_ordinal}
use Rattle.op_check_stmt.specs.declared.case.Bound.{Bound}
use Rattle.op_check_stmt.specs.declared.case.Spot.{Spot}
use Rattle.op_check_stmt.specs.declared.leaving.Jump.{Jump}
use Rattle.op_check_stmt.specs.declared.leaving.Jump.TheVariants.{Break, Continue}
use Rattle.op_check_stmt.specs.declared.leaving.Reach.{Reach}
use Rattle.op_check_stmt.specs.declared.leaving.Reach.TheVariants.{Nowhere, Inside, Beyond}
use Rattle.op_check_stmt.specs.declared.variable.Counter.{Counter}
use Rattle.op_core.specs.Expression as core_tree
use Rattle.op_core.specs.Expression.{Expression as Tree, expression}
use Rattle.op_core.specs.Faults.{Checked, Faults, both}
use Rattle.op_core.proofs.Agreeing.{some_is}
use Rattle.op_core.proofs.Growing.{all_at}
use Rattle.op_core.specs.Sizes.{capped, range_of, type_at}
use Rattle.op_core.specs.Statement.{Statement, Branches}
use Rattle.op_core.specs.declared.ids.RoutineId.{RoutineId}
use Rattle.op_core.specs.declared.ids.TypeId.{TypeId}
use Rattle.op_core.specs.declared.ids.VariableId.{VariableId}
use Rattle.op_core.specs.declared.program.Core.{Core}
use Rattle.op_core.specs.declared.routine.Routine.{Routine}
use Rattle.op_core.specs.declared.routine.Variable.{Variable as VariableRow}
use Rattle.op_core.specs.declared.statement.Label.{Label}
use Rattle.op_core.specs.declared.types.CoreType.{CoreType}
use Rattle.op_core.specs.declared.types.CoreType.TheVariants as type
use Rattle.op_plain.specs.Plain.{are_nodes, are_plain_branches, are_plain_labels, is_plain_amount, is_plain_bare, is_plain_root}
use Rattle.op_tree.specs.declared.position.Name.{Name}
use Rattle.op_typed.proofs.Sorting.{stands_as}
use Rattle.op_types.specs.Names.{lower, meaning_of}
use Rattle.op_types.specs.Sorts.{sort_of}
use Rattle.op_types.specs.declared.constant.Constant.{Constant}
use Rattle.op_types.specs.declared.sort.OrdinalKind.{OrdinalKind}
use Rattle.op_types.specs.declared.sort.Sort.{Sort}
use Rattle.op_types.specs.declared.sort.Sort.TheVariants.{Ordinal}
use Rattle.op_types.specs.declared.visible.Meaning.{Meaning}
use Rattle.op_types.specs.declared.visible.Meaning.TheVariants.{Variable, Spoiled}
use Rattle.op_typing.specs.Simple.{IsSolidType}
use Rattle.op_accepted.proofs.Parts.{fits_fine, fits_silent, fits_standing, fits_test, fits_with}
use Rattle.op_accepted.proofs.Solid.{integer_solid, made_of, ordinal_solid}
use Rattle.op_accepted.specs.Fit.{IfAny, IfTyped, IsFitHere, IsFitStatement, IsFitTables, IsFitTree, IsFitValue, any_text, none, some, typed}
use Rattle.op_judgement.proofs.Computed.{of_two}
use Rattle.op_judgement.specs.Judgement.{both_typed, by_test, checked, fine}
use Rattle.op_judgement.specs.declared.rules.LanguageRule.TheVariants.{EmptyRange, NotOrdinal, NotWritable}

-- ---- parts that are read by the meaning of others

any_behind : {A B C : Type 0} {Q : B → Type 0} {R : C → Type 0} (f : A → B → C) (x : A) {o : Option B} → IfAny Q o → ((y : B) → Q y → R (f x y)) → IfAny R (both_typed f (Some x) o)
any_behind f x none l = none
any_behind f x (some y q) l = some (f x y) (l y q)

second_fits : {A B C : Type 0} {Q : B → Type 0} {R : C → Type 0} (f : A → B → C) (x : A) (faults : Faults) {b : Checked B} → IfTyped Q b → ((y : B) → Q y → R (f x y)) → IfTyped R (record { typed = both_typed f (Some x) b.typed; faults = both faults b.faults })
second_fits f x faults (typed h) l = typed (any_behind f x h l)

read_fits : {A B C : Type 0} {P : A → Type 0} {Q : A → B → Type 0} {R : C → Type 0} (f : A → B → C) {o : Option A} (faults : Faults) (g : Option A → Checked B) → IfAny P o → ((x : A) → P x → IfTyped (Q x) (g (Some x))) → ((x : A) (y : B) → P x → Q x y → R (f x y)) → IfTyped R (record { typed = both_typed f o (g o).typed; faults = both faults (g o).faults })
read_fits f faults g none k l = fits_silent
read_fits f faults g (some x p) k l = second_fits f x faults (k x p) (λ y q. l x y p q)

pub fits_upon : {A B C : Type 0} {P : A → Type 0} {Q : A → B → Type 0} {R : C → Type 0} (f : A → B → C) {a : Checked A} (g : Option A → Checked B) → IfTyped P a → ((x : A) → P x → IfTyped (Q x) (g (Some x))) → ((x : A) (y : B) → P x → Q x y → R (f x y)) → IfTyped R (of_two f a (g a.typed))
fits_upon f {a} g (typed h) k l = read_fits f a.faults g h k l

-- ---- trees

above : (n : ℕ) → 0 < n → nat_lt 0 n ≡ true
above n h = lt-ltb 0 n h

bare_fits : (core : Core) (root : core_tree.Root) (of : TypeId) → is_plain_root any_text core root of ≡ true → is_plain_bare any_text core root of ≡ true
bare_fits core (core_tree.constant v nodes words) of h = (and_parts _ _ h).1
bare_fits core root of h = h

-- also where it stands for an amount or a status
pub amount_fits : (core : Core) (e : Tree) → IsFitTree core e → is_plain_amount any_text core e ≡ true
amount_fits core (expression root of core_tree.no_steps) h = bare_fits core root of (and_parts (is_plain_root any_text core root of) true h).0
amount_fits core e h = h

-- ---- types

range_solid_by : (core : Core) (of : TypeId) (o : Option (ℤ × ℤ)) → range_of (type_at core of) ≡ o → IsSomeAnd o (λ r. Unit {0}) → IsSolidType core of
range_solid_by core of None e h = absurd h
range_solid_by core of (Some r) e h = ordinal_solid core of r e

-- a type of an ordinal sort
sort_solid : (core : Core) (of : TypeId) (kind : OrdinalKind) → sort_of core of ≡ Ordinal kind → IsSolidType core of
sort_solid core of kind e = range_solid_by core of (range_of (type_at core of)) refl (stands_as core of (Ordinal kind) e).0

host_solid_by : (core : Core) → IsFitTables core → (of : TypeId) → IsSolidType core of → (t : Option CoreType) → type_at core of ≡ t → IsSolidType core (host_by of t)
host_solid_by core f of h (Some (type.Integer kind)) e = integer_solid f
host_solid_by core f of h (Some (type.Subrange base low high)) e = made_of f of (type.Subrange base low high) e
host_solid_by core f of h t e = h

-- the type in which its values are counted
pub host_solid : (core : Core) → IsFitTables core → (of : TypeId) (kind : OrdinalKind) → sort_of core of ≡ Ordinal kind → IsSolidType core (host_of core of)
host_solid core f of kind e = host_solid_by core f of (sort_solid core of kind e) (type_at core of) refl

base_solid_by : (core : Core) → IsFitTables core → (of base : TypeId) (t : Option CoreType) → type_at core of ≡ t → base_by t ≡ Some base → IsSolidType core base
base_solid_by core f of base (Some (type.Set b)) e g = subst (IsSolidType core) (cc) (made_of f of (type.Set b) e)
base_solid_by core f of base t e g = absurd (cc)

pub base_solid : (core : Core) → IsFitTables core → (of base : TypeId) → base_of core of ≡ Some base → IsSolidType core base
base_solid core f of base e = base_solid_by core f of base (type_at core of) refl e

-- what a routine gives
result_row : (core : Core) → IsFitTables core → (n : ℕ) (o : Option Routine) → slice_get core.routines n ≡ o → (of : TypeId) → option_and_then (λ r. r.result) o ≡ Some of → IsSolidType core of
result_row core f n None e of g = absurd (cc)
result_row core f n (Some r) e of g = if_some_is r.result of (all_at (λ r. IfSome r.result (IsSolidType core)) core.routines n r f.results e) g
  where
    if_some_is : (o : Option TypeId) (of : TypeId) → IfSome o (IsSolidType core) → o ≡ Some of → IsSolidType core of
    if_some_is None of h e = absurd (cc)
    if_some_is (Some to) of h e = subst (IsSolidType core) (cc) h

result_by : (core : Core) → IsFitTables core → (own : Option RoutineId) (of : TypeId) → option_and_then (result_at core) own ≡ Some of → IsSolidType core of
result_by core f None of e = absurd (cc)
result_by core f (Some id) of e = result_row core f id.0 (slice_get core.routines id.0) refl of e

pub result_solid : (here : Here) → IsFitHere here → (of : TypeId) → result_of here ≡ Some of → IsSolidType here.core of
result_solid here h of e = result_by here.core h.tables here.routine of e

-- ---- labels

-- it stands for a node of the text at least
abbrev pub Counts : Bound → Type 0
Counts b = 0 < b.weight.nodes

abbrev pub CountsSpot : Spot → Type 0
CountsSpot s = 0 < s.label.nodes

pub constant_counts : (core : Core) (v : Value) (c : Constant) → IsFitValue core v → constant_in v ≡ Some c → 0 < c.weight.nodes
constant_counts core (constant d) c h e = subst (λ (c : Constant). 0 < c.weight.nodes) (some_is {a = d} {b = c} (cc)) h.0
constant_counts core (computed t) c h e = absurd (cc)

pub typed_counts : (of : Option TypeId) (c : Constant) → 0 < c.weight.nodes → IfTyped Counts (checked (of_type of c))
typed_counts None c h = fits_silent
typed_counts (Some of) c h = fits_fine h

pub both_count : (place : Place) {low high : Option Bound} → IfAny Counts low → IfAny Counts high → IfTyped CountsSpot (checked (both_bounds place low high))
both_count place h k =
    fits_with h (λ (low : Bound) i. fits_with k (λ (high : Bound) j. fits_test EmptyRange place (int_le low.number high.number) (λ a. fits_fine (sum_above low.weight.nodes high.weight.nodes i))))
  where
    sum_above : (m n : ℕ) → 0 < m → 0 < capped (m + n)
    sum_above m n h = omega (arith, h)

-- a list with one label more
pub more_labels : (l : Label) (ls : List Label) → 0 < l.nodes → are_nodes ls ≡ true → are_nodes (l ∷ ls) ≡ true
more_labels l ls h k = and_from _ _ (above l.nodes h) k

pub some_labels : (l : Label) (ls : List Label) → 0 < l.nodes → are_nodes ls ≡ true → are_plain_labels (l ∷ ls) ≡ true
some_labels l ls h k = and_from _ _ (above (length (l ∷ ls)) (omega arith)) (more_labels l ls h k)

-- ---- what a head has, and what is made of it

abbrev pub AreFitBounds : Core → Tree × Tree → Type 0
AreFitBounds core bounds = IsFitTree core bounds.0 × IsFitTree core bounds.1

abbrev pub IsFitHead : Core → Tree × Branches → Type 0
IsFitHead core head = IsFitTree core head.0 × (are_plain_branches any_text core head.1 ≡ true)

pub once_fits : {A : Type 0} {P : A → Type 0} {o : Option A} → IfAny P o → (place : Option Place) → IfTyped P (once o place)
once_fits h None = fits_standing h
once_fits h (Some place) = fits_silent

pub changes : (core : Core) (includes : Bool) (s e : Tree) → IsFitTree core s → IsFitTree core e → IsFitStatement core (change includes s e)
changes core true s e h k = and_from _ _ h k
changes core false s e h k = and_from _ _ h k

pub jumps : (core : Core) (jump : Jump) → IsFitStatement core (jump_of jump)
jumps core Break = refl
jumps core Continue = refl

pub leaving_fits : {P : Statement → Type 0} (at : Place) (s : Statement) (reach : Reach) → P s → IfTyped P (checked (by_reach at s reach))
leaving_fits at s Nowhere h = fits_silent
leaving_fits at s Inside h = fits_fine h
leaving_fits at s Beyond h = fits_silent

-- what stands round a part is no part of what is asked
pub fit_within : {here : Here} (part : Around) → IsFitHere here → IsFitHere (within here part)
fit_within part h = record { tables = h.tables; names = h.names }

-- ---- the variables of loops

abbrev HasBounds : Core → Counter → Type 0
HasBounds core c = IsSolidType core c.bounds

counter_by : (here : Here) → IsFitHere here → (place : Place) (id : VariableId) (of : TypeId) (writable : Bool) (s : Sort) → sort_of here.core of ≡ s → IfTyped (HasBounds here.core) (checked (by_test NotOrdinal place (by_test NotWritable place (fine (record { variable = id; bounds = host_of here.core of })) writable) (is_ordinal s)))
counter_by here h place id of writable (Ordinal kind) e = fits_test NotWritable place writable (λ a. fits_fine (host_solid here.core h.tables of kind e))
counter_by here h place id of writable s e = fits_silent

counter_row_fits : (here : Here) → IsFitHere here → (place : Place) (id : VariableId) (v : Option VariableRow) → IfTyped (HasBounds here.core) (checked (counter_row here place id v))
counter_row_fits here h place id None = fits_silent
counter_row_fits here h place id (Some v) = counter_by here h place id v.of (is_writable_variable here id) (sort_of here.core v.of) refl

counter_named_fits : (here : Here) → IsFitHere here → (place : Place) (m : Option Meaning) → IfTyped (HasBounds here.core) (checked (counter_named here place m))
counter_named_fits here h place None = fits_silent
counter_named_fits here h place (Some Spoiled) = fits_silent
counter_named_fits here h place (Some (Variable id writable)) = counter_row_fits here h place id (slice_get here.core.variables id.0)
counter_named_fits here h place m = fits_silent

pub counter_fits : (here : Here) → IsFitHere here → (n : Name) → IfTyped (HasBounds here.core) (checked (counter here n))
counter_fits here h n = counter_named_fits here h n.position.place (meaning_of here.visible (lower n.text))
