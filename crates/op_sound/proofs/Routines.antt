-- Routines leave a settled state, in which each has its body or is awaited, or break a rule.
use Rattle.std.proofs.Common.{◌≡◌, inl, inr, ◌⊎◌, ◌<◌, ◌≤◌, ℕ, zero, suc, ◌+◌, ◌-◌, Bool, true, false, nat_le, List, [], ◌∷◌, ◌++◌, All, IfSome, IsSomeAnd, IsTrue, append-nil, append_assoc, drop, filter, leb-true, length, map, take, slice_get, slice_set, length-append, length-drop, length-set, length-take, Option, Some, None, refl, sym, subst, ap, ◌∙◌, arith, if◌then◌else◌}
use Rattle.std.specs.Option.{option_and_then, option_flatten, option_map, option_to_list}
use Rattle.std.proofs.lemmas.List.{drop-append-le, drop_all, length-map, map-append, take_all}
use Rattle.std.proofs.lemmas.List.Elements.{All-append, All-cons, All-drop, All-head, All-nil, All-push, All-set, All-tail, All-take, All-weaker}
use Rattle.std.proofs.lemmas.Bool.{and_from, and_parts}
use Rattle.std.proofs.lemmas.Option.{slice_get_within}
use Rattle.op_base.proofs.Lists.{slice_get-front}
use Rattle.op_base.specs.declared.place.Place.{Place}
use Rattle.op_typed.proofs.Leaves.{whole_unshown}
use Rattle.op_check_expr.specs.Naming.{feature_of_type}
use Rattle.op_typed.specs.Settled.{IsSettled}
use Rattle.op_typed.proofs.Statements.{statements_whole}
use Rattle.op_check_stmt.specs.Statement.{statements}
use Rattle.op_typed.specs.Surrounding.{Surrounds}
use Rattle.op_sound.proofs.Tables.{tabled_beside}
use Rattle.op_sound.proofs.Declaring.{beside, constants_settled, locals_more, settled_local, types_settled, variables_settled}
use Rattle.op_judgement.specs.Judgement.{by_test, checked, fine, refused}
use Rattle.op_judgement.specs.declared.rules.LanguageRule.TheVariants.{HeadingDiffers, LocalsTooLarge, WrongKindOfName}
use Rattle.op_sound.proofs.Growth.{Wider, bare_routines_on, bare_variable_on, body_on, exports_on, names_on, some_is, units_on, value_on}
use Rattle.op_sound.proofs.Headings.{IsHead, form_whole, head_settled}
use Rattle.op_sound.proofs.Steps.{Moves, founded, from_behind, from_breaks, from_checked, from_followed, from_gives, from_so, from_then, later_itself, lead_followed, leads, leads_on, settled_ahead, settled_named, wider}
use Rattle.op_sound.proofs.Types.{behind_front, declared_settled, entered_from, first_behind, with_declared_core, with_declared_settled, with_name_settled}
use Rattle.op_sound.specs.Complete.{Around, From, HasBody, Inside, IsAwaited, IsBareRoutine, IsBareVariable, IsOpen, IsTypedBody, IsTypedFirst, Later, Settled, Stage, declared_in, faulty, outside, scope, scope_of, settled}
use Rattle.op_check_unit.specs.Headings.{head_means}
use Rattle.op_check_unit.specs.Naming.{ended, is_declared, told_by, with_ahead}
use Rattle.op_check_unit.specs.Routines.{ahead_declared, awaited_by, awaited_named, awaits, block_means, both_typed, by_standing, class_meant, completed, entered, first_declared, headed, inner, is_heading_of, left, local_declared, locals_declared, locals_fit, most_bytes, next_routine, no_rows, parameter_names, parameter_variable, plain_declared, result_name, routine_by, routine_declared, routine_row, statements_mean, with_body, with_local, with_parameters, with_result, with_routine, with_variables}
use Rattle.op_check_unit.specs.Routines as spec
use Rattle.op_check_unit.specs.Steps.{Here}
use Rattle.op_check_unit.specs.Types.{in_core}
use Rattle.op_check_unit.specs.declared.heading.Head.{Head}
use Rattle.op_core.proofs.Agreeing.{some_is as some_eq}
use Rattle.op_core.proofs.Rows.{set_apart, set_there}
use Rattle.op_core.proofs.Growing.{all_at, front_fit, front_itself, front_row, front_rows, grows_heading, heading_itself, parameters_on, result_on, some_and}
use Rattle.op_core.specs.Faults.{Checked}
use Rattle.op_core.specs.Growing.{IsFrontOf}
use Rattle.op_core.specs.Heading.{is_same_heading, same_parameters}
use Rattle.op_core.specs.Members.{InRun}
use Rattle.op_core.specs.Relations.{Filled, IsWhole, Whole, filled, typed, faulty as rule_broken}
use Rattle.op_core.specs.Rows.{rows}
use Rattle.op_core.specs.Sizes.{type_at}
use Rattle.op_core.specs.Sound.{BeginWith, Fit, HasRows, RoleAndType, Row, at_start, bytes_of, first_rows, is_declared as is_counted, is_of_block, role_and_type}
use Rattle.op_core.specs.Statement.{Statements as Typed}
use Rattle.op_core.specs.StatementTyping.{AreStatements}
use Rattle.op_core.specs.Typing.{Sees}
use Rattle.op_core.specs.declared.ids.Run.{Run}
use Rattle.op_core.specs.declared.ids.RoutineId.{RoutineId}
use Rattle.op_core.specs.declared.ids.TypeId.{TypeId}
use Rattle.op_core.specs.declared.ids.UnitId.{UnitId}
use Rattle.op_core.specs.declared.ids.VariableId.{VariableId}
use Rattle.op_core.specs.declared.program.Core.{Core}
use Rattle.op_core.specs.declared.routine.Parameter.{Parameter}
use Rattle.op_core.specs.declared.routine.Role.TheVariants.{Parameter as ParameterRole, Result}
use Rattle.op_core.specs.declared.routine.Routine.{Routine}
use Rattle.op_core.specs.declared.routine.Variable.{Variable as VariableRow}
use Rattle.op_judgement.proofs.Completing.{whole_gives, whole_rule, whole_tested}
use Rattle.op_judgement.specs.Steps.{done, followed, gives}
use Rattle.op_tree.specs.Declaration.{Body, forward, body, Declaration, constants, types, variables, heading, routine, Declarations, no_declarations, declarations, Heading}
use Rattle.op_tree.specs.Statement.{Statements}
use Rattle.op_tree.specs.declared.heading.Directive.{Directive}
use Rattle.op_tree.specs.declared.position.Name.{Name}
use Rattle.op_typed.proofs.Constants.{stands_if}
use Rattle.op_types.specs.Names.{Named, lower, meaning_of}
use Rattle.op_typed.specs.Standing.{AllStand, StandsFor}
use Rattle.op_types.specs.declared.visible.BuiltIn.TheVariants.{LeftOut}
use Rattle.op_types.specs.declared.visible.Meaning.{Meaning}
use Rattle.op_types.specs.declared.visible.Meaning.TheVariants as meaning
use Rattle.op_types.specs.declared.visible.Meaning.TheVariants.{Variable, Routine as RoutineName}

-- ---- bodies and where they are awaited

body_last : (bs : List (RoutineId × Typed)) (b : RoutineId × Typed) → HasBody (bs ++ b ∷ []) b.0.0
body_last [] b = inl refl
body_last (c ∷ cs) b = inr (body_last cs b)

body_more : (bs cs : List (RoutineId × Typed)) (n : ℕ) → HasBody bs n → HasBody (bs ++ cs) n
body_more [] cs n h = absurd h
body_more (b ∷ bs) cs n (inl e) = inl e
body_more (b ∷ bs) cs n (inr h) = inr (body_more bs cs n h)

awaited_more : (ps qs : List (Option Place)) (n : ℕ) → IsAwaited ps n → IsAwaited (ps ++ qs) n
awaited_more [] qs n a = absurd a
awaited_more (p ∷ ps) qs zero a = a
awaited_more (p ∷ ps) qs (suc n) a = awaited_more ps qs n a

pub awaited_less : (ps qs : List (Option Place)) (n : ℕ) → n < length ps → IsAwaited (ps ++ qs) n → IsAwaited ps n
awaited_less [] qs n lt a = absurd (omega (arith, lt))
awaited_less (p ∷ ps) qs zero lt a = a
awaited_less (p ∷ ps) qs (suc n) lt a = awaited_less ps qs n (omega (arith, lt)) a

pub awaited_last : (ps : List (Option Place)) (p : Option Place) → IsAwaited (ps ++ p ∷ []) (length ps) → Filled (λ place. Unit {0}) p
awaited_last [] p a = a
awaited_last (q ∷ ps) p a = awaited_last ps p a

last_awaited : (ps : List (Option Place)) (place : Place) → IsAwaited (ps ++ Some place ∷ []) (length ps)
last_awaited [] place = filled place tt
last_awaited (p ∷ ps) place = last_awaited ps place

awaited_at : (ps : List (Option Place)) (n : ℕ) (place : Place) → slice_get ps n ≡ Some (Some place) → IsAwaited ps n
awaited_at [] n place e = absurd (cc)
awaited_at (p ∷ ps) zero place e = subst (Filled (λ place. Unit {0})) (sym (cc e)) (filled place tt)
awaited_at (p ∷ ps) (suc n) place e = awaited_at ps n place e

next : (n k : ℕ) (A : ℕ → Type 0) → (n ≡ k) ⊎ A n → (suc n ≡ suc k) ⊎ A n
next n k A (inl e) = inl (ap suc e)
next n k A (inr a) = inr a

-- another one is awaited as before
awaited_set : (ps : List (Option Place)) (n k : ℕ) → IsAwaited ps n → (n ≡ k) ⊎ IsAwaited (slice_set ps k None) n
awaited_set [] n k a = absurd a
awaited_set (p ∷ ps) zero zero a = inl refl
awaited_set (p ∷ ps) zero (suc k) a = inr a
awaited_set (p ∷ ps) (suc n) zero a = inr a
awaited_set (p ∷ ps) (suc n) (suc k) a = next n k (IsAwaited (slice_set ps k None)) (awaited_set ps n k a)

awaited_unset : (ps : List (Option Place)) (n k : ℕ) → IsAwaited (slice_set ps k None) n → (n ≡ k → ⊥) × IsAwaited ps n
awaited_unset [] n k a = absurd a
awaited_unset (p ∷ ps) zero zero a = elim a [ ]
awaited_unset (p ∷ ps) zero (suc k) a = (λ e. omega (arith, e), a)
awaited_unset (p ∷ ps) (suc n) zero a = (λ e. omega (arith, e), a)
awaited_unset (p ∷ ps) (suc n) (suc k) a = let r = awaited_unset ps n k a in (λ e. r.0 (omega (arith, e)), r.1)

last_or : (k m : ℕ) → k < m + 1 → (k < m) ⊎ (k ≡ m)
last_or zero zero h = inr refl
last_or zero (suc m) h = inl (omega arith)
last_or (suc k) zero h = absurd (omega (arith, h))
last_or (suc k) (suc m) h = step (last_or k m (omega (arith, h)))
  where
    step : (k < m) ⊎ (k ≡ m) → (suc k < suc m) ⊎ (suc k ≡ suc m)
    step (inl a) = inl (omega (arith, a))
    step (inr e) = inr (ap suc e)

-- the routines with bodies are there
body_below : {s : Stage} {h : Here} → Settled s h → (b : RoutineId × Typed) → IsTypedBody s.around.apart h.core b → b.0.0 < length h.core.routines
body_below {h = h} x b t = let r = some_is (slice_get h.core.routines b.0.0) t in slice_get_within h.core.routines b.0.0 r.0 r.1

-- ---- rows of routines

abbrev with_row : Core → Routine → Core
with_row core r = record core { routines = core.routines ++ r ∷ [] }

fresh_row : (core : Core) (unit : UnitId) (n : Name) (x : Head) → Row core.units unit.0 → IsHead x core → IsBareRoutine (with_row core (routine_row unit n x no_rows)) (routine_row unit n x no_rows)
fresh_row core unit n x lt k = record { unit = lt; owner = refl; enclosing = refl; body = refl; runs = (k.0, omega arith); result = k.1; locals = omega arith }

-- the new one is accounted for, and so are those before it
pub with_routine_settled : {around : Around} (c : Option ℕ) (n : Name) (x : Head) (place : Option Place) (h : Here) → Settled (outside around None) h → IsHead x h.core → (c ≡ None) ⊎ (c ≡ Some (length h.core.routines)) → IsOpen c (h.awaited ++ place ∷ []) (length h.core.routines) → (IfSome c (λ k. place ≡ None)) → Settled (outside around c) (with_routine n x place h)
with_routine_settled {around} c n x place h s k cases opens none = record {
  tables = tabled_beside _ _ _ _ _ s.tables;
  people = record {
    parameters = s.people.parameters;
    variables = bare_variable_on w h.core.variables s.people.variables;
    routines = All-push (IsBareRoutine new) h.core.routines (routine_row h.unit n x no_rows) (bare_routines_on w s.tables s.people) (fresh_row h.core h.unit n x s.unit k);
    globals = s.people.globals;
    room = s.people.room;
  };
  unit = s.unit;
  rows = s.rows;
  units = units_on h.core new around.start None c h.awaited (h.awaited ++ place ∷ []) (λ p lt d. (slice_get-front h.core.routines (routine_row h.unit n x no_rows ∷ []) p lt, closed p lt d cases)) h.core.units s.units;
  exports = exports_on around.apart w around.exports s.exports;
  start = s.start;
  names = names_on around.apart None w h.names s.names;
  first = s.first;
  counts = s.counts;
  routine = s.routine;
  inside = tt;
  current = under c cases none;
  awaits = length-append h.awaited (place ∷ []) ∙ ap (λ k. k + 1) s.awaits ∙ sym e;
  accounted = λ k lt. one k (last_or k (length h.core.routines) (subst (λ m. k < m) e lt));
  bodies = All-weaker (λ b. IsTypedBody around.apart h.core b × (IsOpen None h.awaited b.0.0 → ⊥)) (λ b. IsTypedBody around.apart new b × (IsOpen c (h.awaited ++ place ∷ []) b.0.0 → ⊥)) (λ b y. (body_on around.apart w s.people b (still b y.0) y.0, closed b.0.0 (body_below s b y.0) y.1 cases)) h.bodies s.bodies;
  values = All-weaker (IsTypedFirst h.core) (IsTypedFirst new) (λ v y. value_on w (founded s) v y) h.first_values s.values;
}
  where
    new : Core
    new = with_row h.core (routine_row h.unit n x no_rows)

    w : Wider h.core new
    w = wider s (front_itself h.core.types) (front_itself h.core.extents) (front_itself h.core.fields) (front_itself h.core.parameters) (front_itself h.core.variables) (front_itself h.core.globals) (behind_front h.core.routines (routine_row h.unit n x no_rows ∷ [])) (refl, refl, refl, refl, refl) (omega arith)

    e : length new.routines ≡ length h.core.routines + 1
    e = length-append h.core.routines (routine_row h.unit n x no_rows ∷ [])

    under : (c : Option ℕ) → (c ≡ None) ⊎ (c ≡ Some (length h.core.routines)) → IfSome c (λ k. place ≡ None) → IfSome c (λ k. (k < length new.routines) × (IsAwaited (h.awaited ++ place ∷ []) k → ⊥))
    under None d z = tt
    under (Some m) (inl d) z = absurd (cc)
    under (Some m) (inr d) z = (let m_is = some_eq d in omega (arith, e, m_is), λ a. none_last (subst (λ k. IsAwaited (h.awaited ++ place ∷ []) k) (some_eq d ∙ sym s.awaits) a) z)
      where
        none_last : IsAwaited (h.awaited ++ place ∷ []) (length h.awaited) → place ≡ None → ⊥
        none_last a z = elim (subst (Filled (λ place. Unit {0})) z (awaited_last h.awaited place a)) [ ]

    still : (b : RoutineId × Typed) → IsTypedBody around.apart h.core b → slice_get new.routines b.0.0 ≡ slice_get h.core.routines b.0.0
    still b t = slice_get-front h.core.routines (routine_row h.unit n x no_rows ∷ []) b.0.0 (body_below s b t)

    closed : (k : ℕ) → k < length h.core.routines → (IsOpen None h.awaited k → ⊥) → (c ≡ None) ⊎ (c ≡ Some (length h.core.routines)) → IsOpen c (h.awaited ++ place ∷ []) k → ⊥
    closed k lt d (inl f) (inl z) = absurd (cc)
    closed k lt d (inr f) (inl z) = let k_is = some_eq (sym f ∙ z) in omega (arith, lt, k_is)
    closed k lt d f (inr a) = d (inr (awaited_less h.awaited (place ∷ []) k (let f = s.awaits in omega (arith, lt, f)) a))

    older : (k : ℕ) → IsOpen None h.awaited k ⊎ HasBody h.bodies k → IsOpen c (h.awaited ++ place ∷ []) k ⊎ HasBody h.bodies k
    older k (inl (inl z)) = absurd (cc)
    older k (inl (inr a)) = inl (inr (awaited_more h.awaited (place ∷ []) k a))
    older k (inr b) = inr b

    one : (k : ℕ) → (k < length h.core.routines) ⊎ (k ≡ length h.core.routines) → IsOpen c (h.awaited ++ place ∷ []) k ⊎ HasBody h.bodies k
    one k (inl lt) = older k (s.accounted k lt)
    one k (inr z) = inl (subst (IsOpen c (h.awaited ++ place ∷ [])) (sym z) opens)

-- a state that has the same tables
completed_settled : {around : Around} (id : RoutineId) (h : Here) → Settled (outside around None) h → IsAwaited h.awaited id.0 → id.0 < length h.core.routines → Settled (outside around (Some id.0)) (completed id h)
completed_settled {around} id h s a lt = record {
  tables = s.tables;
  people = s.people;
  unit = s.unit;
  rows = s.rows;
  units = units_on h.core h.core around.start None (Some id.0) h.awaited (slice_set h.awaited id.0 None) (λ p lt d. (refl, closed p d)) h.core.units s.units;
  exports = s.exports;
  start = s.start;
  names = s.names;
  first = s.first;
  counts = s.counts;
  routine = s.routine;
  inside = tt;
  current = (lt, λ b. (awaited_unset h.awaited id.0 id.0 b).0 refl);
  awaits = length-set h.awaited id.0 None ∙ s.awaits;
  accounted = λ k lt. one k (s.accounted k lt);
  bodies = All-weaker (λ b. IsTypedBody around.apart h.core b × (IsOpen None h.awaited b.0.0 → ⊥)) (λ b. IsTypedBody around.apart h.core b × (IsOpen (Some id.0) (slice_set h.awaited id.0 None) b.0.0 → ⊥)) (λ b y. (y.0, closed b.0.0 y.1)) h.bodies s.bodies;
  values = s.values;
}
  where
    closed : (k : ℕ) → (IsOpen None h.awaited k → ⊥) → IsOpen (Some id.0) (slice_set h.awaited id.0 None) k → ⊥
    closed k d (inl z) = d (inr (subst (IsAwaited h.awaited) (some_eq z) a))
    closed k d (inr b) = d (inr (awaited_unset h.awaited k id.0 b).1)

    still : (k : ℕ) → (k ≡ id.0) ⊎ IsAwaited (slice_set h.awaited id.0 None) k → IsOpen (Some id.0) (slice_set h.awaited id.0 None) k
    still k (inl e) = inl (ap Some (sym e))
    still k (inr b) = inr b

    one : (k : ℕ) → IsOpen None h.awaited k ⊎ HasBody h.bodies k → IsOpen (Some id.0) (slice_set h.awaited id.0 None) k ⊎ HasBody h.bodies k
    one k (inl (inl z)) = absurd (cc)
    one k (inl (inr w)) = inl (still k (awaited_set h.awaited k id.0 w))
    one k (inr b) = inr b

-- ---- statements

stands_as : (core : Core) (less more : Sees) → ((v : VariableId) → Row core.variables v.0 → less.variable v → more.variable v) → ((r : RoutineId) → less.routine r → more.routine r) → (m : Meaning) → StandsFor core less m → StandsFor core more m
stands_as core less more f g meaning.Spoiled s = s
stands_as core less more f g (meaning.Constant c) s = s
stands_as core less more f g (meaning.Variable id w) s = (f id s.1 s.0, s.1)
stands_as core less more f g (meaning.TypeName of) s = s
stands_as core less more f g (meaning.Routine id) s = (g id s.0, s.1)
stands_as core less more f g other s = tt

all_as : (core : Core) (less more : Sees) → ((v : VariableId) → Row core.variables v.0 → less.variable v → more.variable v) → ((r : RoutineId) → less.routine r → more.routine r) → (ns : List Named) → AllStand core less ns → AllStand core more ns
all_as core less more f g ns a = All-weaker (λ n. StandsFor core less n.meaning) (λ n. StandsFor core more n.meaning) (λ n x. stands_as core less more f g n.meaning x) ns a

-- what the scope has is what the row has, and the variables have their rows
abbrev pub IsRowOf : Stage → Here → RoutineId → Routine → Type 0
IsRowOf s h id r = (slice_get h.core.routines id.0 ≡ Some r) × ((v : VariableId) → Row h.core.variables v.0 → (scope s.around.apart s.inside h.core).variable v → (scope_of s.around.apart h.core r).variable v) × HasRows h.core r

scope_settled : {s : Stage} (h : Here) (id : RoutineId) (r : Routine) → Settled s h → IsRowOf s h id r → IsSettled (scope_of s.around.apart h.core r) (spec.scope_of id h)
scope_settled {s} h id r x k = record {
  founded = founded x;
  names = all_as h.core (scope s.around.apart s.inside h.core) (scope_of s.around.apart h.core r) k.1 (λ q z. z) h.names x.names;
  own = λ i q e f n run. inr (subst (λ q. InRun q.variables n) (some_eq (sym f ∙ ap (λ i. slice_get h.core.routines i.0) (sym (some_eq e)) ∙ k.0)) run);
}

surrounded : (h : Here) (id : RoutineId) (r : Routine) → slice_get h.core.routines id.0 ≡ Some r → Surrounds (spec.scope_of id h) (at_start r)
surrounded h id r e = record { result = ap (λ o. option_and_then (λ r. r.result) o) (sym e); loop = λ z. absurd (cc); routine = λ z. refl }

-- so that the routine has its body
abbrev pub closed_stage : Stage → Stage
closed_stage s = record s { current = None }

with_body_settled : {s : Stage} (id : RoutineId) (h : Here) {o : Option Typed} (r : Routine) → s.current ≡ Some id.0 → Settled s h → slice_get h.core.routines id.0 ≡ Some r → HasRows h.core r → Filled (AreStatements h.core (scope_of s.around.apart h.core r) (at_start r)) o → Settled (closed_stage s) (with_body id o h)
with_body_settled {s} id h r c x e q (filled ss t) = record {
  tables = x.tables;
  people = x.people;
  unit = x.unit;
  rows = x.rows;
  units = units_on h.core h.core s.around.start s.current None h.awaited h.awaited (λ p lt d. (refl, λ z. closed p d z)) h.core.units x.units;
  exports = x.exports;
  start = x.start;
  names = x.names;
  first = x.first;
  counts = x.counts;
  routine = x.routine;
  inside = x.inside;
  current = tt;
  awaits = x.awaits;
  accounted = λ k lt. one k (x.accounted k lt);
  bodies = All-push (λ b. IsTypedBody s.around.apart h.core b × (IsOpen None h.awaited b.0.0 → ⊥)) h.bodies (id, ss) (All-weaker (λ b. IsTypedBody s.around.apart h.core b × (IsOpen s.current h.awaited b.0.0 → ⊥)) (λ b. IsTypedBody s.around.apart h.core b × (IsOpen None h.awaited b.0.0 → ⊥)) (λ b y. (y.0, λ z. closed b.0.0 y.1 z)) h.bodies x.bodies) (some_and (λ r. HasRows h.core r × AreStatements h.core (scope_of s.around.apart h.core r) (at_start r) ss) e (q, t), λ z. fresh z);
  values = x.values;
}
  where
    closed : (k : ℕ) → (IsOpen s.current h.awaited k → ⊥) → IsOpen None h.awaited k → ⊥
    closed k d (inl z) = absurd (cc)
    closed k d (inr a) = d (inr a)

    fresh : IsOpen None h.awaited id.0 → ⊥
    fresh (inl z) = absurd (cc)
    fresh (inr a) = (subst (λ o. IfSome o (λ n. (n < length h.core.routines) × (IsAwaited h.awaited n → ⊥))) c x.current).1 a

    one : (k : ℕ) → IsOpen s.current h.awaited k ⊎ HasBody h.bodies k → IsOpen None h.awaited k ⊎ HasBody (h.bodies ++ (id, ss) ∷ []) k
    one k (inl (inl z)) = inr (subst (HasBody (h.bodies ++ (id, ss) ∷ [])) (some_eq (sym c ∙ z)) (body_last h.bodies (id, ss)))
    one k (inl (inr w)) = inl (inr w)
    one k (inr b) = inr (body_more h.bodies ((id, ss) ∷ []) k b)

-- the routine has its body
abbrev pub Closes : Stage → Here → Unit {0} → Here → Type 0
Closes s h t g = Settled (closed_stage s) g × (g.core ≡ h.core) × (g.awaited ≡ h.awaited)

pub statements_settled : {s : Stage} (id : RoutineId) (ss : Statements) (h : Here) (r : Routine) → s.current ≡ Some id.0 → Settled s h → IsRowOf s h id r → From (Closes s h) (done (statements_mean id ss h))
statements_settled {s} id ss h r c x k = from (checked (statements (spec.scope_of id h) ss)) (statements_whole (at_start r) (scope_settled h id r x k) (surrounded h id r k.0) ss)
  where
    one : {o : Option Typed} → Filled (AreStatements h.core (scope_of s.around.apart h.core r) (at_start r)) o → Closes s h tt (with_body id o h)
    one (filled ts t) = (with_body_settled id h r c x k.0 k.2 (filled ts t), refl, refl)

    from : (c : Checked Typed) → Whole (AreStatements h.core (scope_of s.around.apart h.core r) (at_start r)) c → From {A = Unit {0}} (Closes s h) (record { typed = Some tt; here = with_body id c.typed h; faults = c.faults })
    from c (typed f) = settled (filled tt (one f))
    from c (rule_broken r i) = faulty r i

-- ---- where a body begins

abbrev inside_of : Here → Inside
inside_of h = record { first = length h.core.variables; names = length h.names; bytes = h.bytes }

abbrev body_stage : Around → RoutineId → Inside → Stage
body_stage around id i = record { around = around; current = Some id.0; inside = Some i }

abbrev body_begun : RoutineId → Here → Here
body_begun id h = record h { first = length h.names; count = 0; own = None; bytes = 0; routine = Some id }

begun_settled : {around : Around} (id : RoutineId) (h : Here) → Settled (outside around (Some id.0)) h → Settled (body_stage around id (inside_of h)) (body_begun id h)
begun_settled {around} id h x = record {
  tables = x.tables;
  people = x.people;
  unit = x.unit;
  rows = x.rows;
  units = x.units;
  exports = x.exports;
  start = x.start;
  names = all_as h.core (scope around.apart None h.core) (scope around.apart (Some (inside_of h)) h.core) (λ v r z. wider_scope v z) (λ r z. z) h.names x.names;
  first = omega arith;
  counts = λ le. subst (λ vs. bytes_of h.core (filter (λ v. is_counted v.role) vs) ≤ 0) (sym (drop_all (length h.core.variables) h.core.variables (omega arith))) (omega arith);
  routine = refl;
  inside = record { first = omega arith; names = omega arith; stand = subst (AllStand h.core (scope around.apart None h.core)) (sym (take_all (length h.names) h.names (omega arith))) x.names; counts = x.counts };
  current = x.current;
  awaits = x.awaits;
  accounted = x.accounted;
  bodies = x.bodies;
  values = x.values;
}
  where
    wider_scope : (v : VariableId) → (scope around.apart None h.core).variable v → (scope around.apart (Some (inside_of h)) h.core).variable v
    wider_scope v (inl c) = inl c
    wider_scope v (inr b) = absurd b

-- variables that are no locals
more_settled : {around : Around} {id : RoutineId} {i : Inside} {h : Here} (ws : List VariableRow) → Settled (body_stage around id i) h → All (IsBareVariable h.core) ws → filter (λ v. is_counted v.role) ws ≡ [] → Settled (body_stage around id i) (in_core (beside h.core ws) h)
more_settled {around} {id} {i} {h} ws x a e = settled_local ws h.bytes x a (λ le. subst (λ vs. bytes_of h.core vs ≤ h.bytes) (sym (locals_more h.core i ws x.inside.first ∙ ap (λ vs. declared_in (Some i) h.core ++ vs) e ∙ append-nil (declared_in (Some i) h.core))) (x.counts le))

parameter_rows : (core : Core) (ps : List Parameter) → All (λ p. Row core.types p.of.0) ps → All (IsBareVariable core) (map parameter_variable ps)
parameter_rows core [] a = All-nil (IsBareVariable core)
parameter_rows core (p ∷ ps) a = All-cons (IsBareVariable core) (parameter_variable p) (map parameter_variable ps) (All-head (λ p. Row core.types p.of.0) p ps a, refl) (parameter_rows core ps (All-tail (λ p. Row core.types p.of.0) p ps a))

no_locals : (ps : List Parameter) → filter (λ v. is_counted v.role) (map parameter_variable ps) ≡ []
no_locals [] = refl
no_locals (p ∷ ps) = no_locals ps

parameters_stand : (apart : List VariableId) (core : Core) (i : Inside) (n : ℕ) (ps : List Parameter) → i.first ≤ n → n + length ps ≤ length core.variables → AllStand core (scope apart (Some i) core) (parameter_names n ps)
parameters_stand apart core i n [] le lt = All-nil (λ n. StandsFor core (scope apart (Some i) core) n.meaning)
parameters_stand apart core i n (p ∷ ps) le lt =
    All-cons (λ n. StandsFor core (scope apart (Some i) core) n.meaning) (record { name = lower p.name.text; meaning = Variable (record { 0 = n }) true }) (parameter_names (n + 1) ps) (inr le, omega (arith, lt))
    (parameters_stand apart core i (n + 1) ps (omega (arith, le)) (omega (arith, lt)))

with_parameters_settled : {around : Around} {id : RoutineId} {i : Inside} (ps : List Parameter) (h : Here) → Settled (body_stage around id i) h → All (λ p. Row h.core.types p.of.0) ps → Settled (body_stage around id i) (with_parameters ps h)
with_parameters_settled {around} {i = i} ps h x a =
    settled_named (parameter_names (length h.core.variables) ps) (more_settled (map parameter_variable ps) x (parameter_rows h.core ps a) (no_locals ps))
    (parameters_stand around.apart (beside h.core (map parameter_variable ps)) i (length h.core.variables) ps x.inside.first (let l = length-append h.core.variables (map parameter_variable ps) in let m = length-map ps parameter_variable in omega (arith, l, m)))

with_result_settled : {around : Around} {i : Inside} (id : RoutineId) (n : Name) (of : Option TypeId) (h : Here) → IfSome of (λ of. Row h.core.types of.0) → Settled (body_stage around id i) h → Settled (body_stage around id i) (with_result id n of h)
with_result_settled {around} id n None h q x = x
with_result_settled {around} {i} id n (Some of) h q x =
    with_name_settled n (RoutineName id) (with_local (result_name n) of Result h) local (x.current.0, x.current.0)
  where
    v : VariableRow
    v = record { name = result_name n; of = of; role = Result; first_value = None }

    local : Settled (body_stage around id i) (with_local (result_name n) of Result h)
    local =
        with_name_settled (result_name n) (Variable (record { 0 = length h.core.variables }) true) (in_core (beside h.core (v ∷ [])) h) (more_settled (v ∷ []) x (All-cons (IsBareVariable h.core) v [] (q, refl) (All-nil (IsBareVariable h.core))) refl)
        (inr x.inside.first, (let l = length-append h.core.variables (v ∷ []) in omega (arith, l)))

pub rows_typed : (core : Core) (run : Run) → All (λ p. Row core.types p.of.0) core.parameters → All (λ p. Row core.types p.of.0) (rows core.parameters run)
rows_typed core run a = All-take (λ p. Row core.types p.of.0) run.count (drop run.first core.parameters) (All-drop (λ p. Row core.types p.of.0) run.first core.parameters a)

-- headings say there what they said before
pub record Reads (old new : Core) : Type 0 where
  pub types : IsFrontOf old.types new.types
  pub parameters : IsFrontOf old.parameters new.parameters
  pub routines : new.routines ≡ old.routines

reads_later : {old new : Core} → Later old new → Reads old new
reads_later l = record { types = l.types; parameters = l.parameters; routines = l.routines }

result_reads : (id : RoutineId) (n : Name) (of : Option TypeId) (ps : List Parameter) (h : Here) → Reads h.core (with_result id n of (with_parameters ps h)).core
result_reads id n None ps h = record { types = front_itself h.core.types; parameters = front_itself h.core.parameters; routines = refl }
result_reads id n (Some of) ps h = record { types = front_itself h.core.types; parameters = front_itself h.core.parameters; routines = refl }

entered_settled : {around : Around} (id : RoutineId) (n : Name) (x : Head) (h : Here) → IsHead x h.core → Settled (outside around (Some id.0)) h → Settled (body_stage around id (inside_of h)) (entered id n x h) × Reads h.core (entered id n x h).core
entered_settled {around} id n x h k y = (
  with_result_settled id n x.result (with_parameters (rows h.core.parameters x.parameters) (body_begun id h)) k.1 (with_parameters_settled (rows h.core.parameters x.parameters) (body_begun id h) (begun_settled id h y) (rows_typed h.core x.parameters y.people.parameters)),
  result_reads id n x.result (rows h.core.parameters x.parameters) (body_begun id h),
)

-- ---- the rows with which a body begins

past : {A : Type 0} (xs ys : List A) → drop (length xs) (xs ++ ys) ≡ ys
past xs ys = drop-append-le (length xs) xs ys (omega arith) ∙ ap (λ zs. zs ++ ys) (drop_all (length xs) xs (omega arith))

-- of a routine with these parameters and this result
abbrev heading_rows : List Parameter → Option TypeId → List RoleAndType
heading_rows ps of = map (λ p. (ParameterRole p.mode, p.of)) ps ++ map (λ of. (Result, of)) (option_to_list of)

parameters_are : (ps : List Parameter) → map role_and_type (map parameter_variable ps) ≡ map (λ p. (ParameterRole p.mode, p.of)) ps
parameters_are [] = refl
parameters_are (p ∷ ps) = ap (λ ss. (ParameterRole p.mode, p.of) ∷ ss) (parameters_are ps)

no_more_rows : {first : List RoleAndType} {vs : List VariableRow} → map role_and_type vs ≡ first → BeginWith first vs
no_more_rows {first} e = record { others = []; are = e ∙ sym (append-nil first); of_block = All-nil (λ o. IsTrue (is_of_block o.0)) }

result_begins : (id : RoutineId) (n : Name) (ps : List Parameter) (of : Option TypeId) (h : Here) → BeginWith (heading_rows ps of) (drop (length h.core.variables) (with_result id n of (with_parameters ps h)).core.variables)
result_begins id n ps None h = no_more_rows (ap (map role_and_type) (past h.core.variables (map parameter_variable ps)) ∙ parameters_are ps ∙ sym (append-nil (map (λ p. (ParameterRole p.mode, p.of)) ps)))
result_begins id n ps (Some of) h = no_more_rows
    (ap (λ vs. map role_and_type (drop (length h.core.variables) vs)) (append_assoc h.core.variables (map parameter_variable ps) (v ∷ []))
    ∙ ap (map role_and_type) (past h.core.variables (map parameter_variable ps ++ v ∷ []))
    ∙ map-append role_and_type (map parameter_variable ps) (v ∷ [])
    ∙ ap (λ ss. ss ++ (Result, of) ∷ []) (parameters_are ps))
  where
    v : VariableRow
    v = record { name = result_name n; of = of; role = Result; first_value = None }

-- the unit of a routine, where only its heading counts
abbrev nowhere : UnitId
nowhere = record { 0 = 0 }

-- of a routine with this heading
abbrev head_rows : Name → Head → Core → List RoleAndType
head_rows n x core = first_rows core (routine_row nowhere n x no_rows)

entered_begins : (id : RoutineId) (n : Name) (x : Head) (h : Here) → BeginWith (head_rows n x h.core) (drop (length h.core.variables) (entered id n x h).core.variables)
entered_begins id n x h = result_begins id n (rows h.core.parameters x.parameters) x.result (body_begun id h)

head_rows_on : (old new : Core) (n : Name) (x : Head) → IsFrontOf old.parameters new.parameters → Fit old.parameters x.parameters → head_rows n x new ≡ head_rows n x old
head_rows_on old new n x f k = ap (λ ps. heading_rows ps x.result) (front_rows x.parameters f k)

block_rows : (vs : List VariableRow) → All (λ v. IsTrue (is_of_block v.role)) vs → All (λ o. IsTrue (is_of_block o.0)) (map role_and_type vs)
block_rows [] a = All-nil (λ o. IsTrue (is_of_block o.0))
block_rows (v ∷ vs) a = All-cons (λ o. IsTrue (is_of_block o.0)) (role_and_type v) (map role_and_type vs) (All-head (λ v. IsTrue (is_of_block v.role)) v vs a) (block_rows vs (All-tail (λ v. IsTrue (is_of_block v.role)) v vs a))

-- rows of the block behind them change nothing
begins_on : {first : List RoleAndType} (vs ws : List VariableRow) → BeginWith first vs → All (λ v. IsTrue (is_of_block v.role)) ws → BeginWith first (vs ++ ws)
begins_on {first} vs ws b a = record {
  others = b.others ++ map role_and_type ws;
  are = map-append role_and_type vs ws ∙ ap (λ ss. ss ++ map role_and_type ws) b.are ∙ append_assoc first b.others (map role_and_type ws);
  of_block = All-append (λ o. IsTrue (is_of_block o.0)) b.others (map role_and_type ws) b.of_block (block_rows ws a);
}

begins_later : {old new : Core} (n : Name) (x : Head) (k : ℕ) → Later old new → IsHead x old → k ≤ length old.variables → BeginWith (head_rows n x old) (drop k old.variables) → BeginWith (head_rows n x new) (drop k new.variables)
begins_later {old} {new} n x k l f le b =
    subst (λ ss. BeginWith ss (drop k new.variables)) (sym (head_rows_on old new n x l.parameters f.0))
    (subst (BeginWith (head_rows n x old)) (sym (ap (drop k) l.variables.is ∙ drop-append-le k old.variables l.variables.more le)) (begins_on (drop k old.variables) l.variables.more b l.variables.of_block))

-- ---- the row of a body

abbrev body_row : UnitId → Name → Head → Inside → Core → Routine
body_row unit n x i core = routine_row unit n x (record { first = i.first; count = length core.variables - i.first })

-- its variables are all from the first one on
all_rows : (n : Name) (x : Head) (i : Inside) (core : Core) → rows core.variables (body_row nowhere n x i core).variables ≡ drop i.first core.variables
all_rows n x i core = take_all (length core.variables - i.first) (drop i.first core.variables) (let l = length-drop i.first core.variables in omega (arith, l))

-- the row that there is has the heading
abbrev HasHead : RoutineId → Name → Head → Core → Type 0
HasHead id n x core = IsSomeAnd (slice_get core.routines id.0) (λ r. IsTrue (is_same_heading core r (routine_row nowhere n x no_rows)))

head_later : {old new : Core} (x : Head) → Reads old new → IsHead x old → IsHead x new
head_later {old} {new} x l k = (front_fit x.parameters l.parameters k.0, if_row x.result k.1)
  where
    if_row : (o : Option TypeId) → IfSome o (λ of. Row old.types of.0) → IfSome o (λ of. Row new.types of.0)
    if_row None q = tt
    if_row (Some of) q = front_row l.types q

heading_later : {old new : Core} (a b : Routine) → Reads old new → Fit old.parameters a.parameters → Fit old.parameters b.parameters → IsTrue (is_same_heading old a b) → IsTrue (is_same_heading new a b)
heading_later {old} {new} a b l f g h =
    let x = and_parts _ _ h in
    let y = and_parts _ _ x.0 in
    and_from _ _ (and_from _ _ y.0 (result_on a.result b.result l.types y.1))
    (subst (λ ps. IsTrue (same_parameters new.types ps (rows new.parameters b.parameters))) (sym (front_rows a.parameters l.parameters f))
    (subst (λ qs. IsTrue (same_parameters new.types (rows old.parameters a.parameters) qs)) (sym (front_rows b.parameters l.parameters g)) (parameters_on (rows old.parameters a.parameters) (rows old.parameters b.parameters) l.types x.1)))

has_head_later : {s : Stage} {h : Here} {new : Core} (id : RoutineId) (n : Name) (x : Head) → Settled s h → Reads h.core new → IsHead x h.core → HasHead id n x h.core → HasHead id n x new
has_head_later {h = h} {new} id n x y l k a =
    let r = some_is (slice_get h.core.routines id.0) a in
    some_and (λ r. IsTrue (is_same_heading new r (routine_row nowhere n x no_rows))) (ap (λ rs. slice_get rs id.0) l.routines ∙ r.1)
    (heading_later r.0 (routine_row nowhere n x no_rows) l (all_at (IsBareRoutine h.core) h.core.routines id.0 r.0 y.people.routines r.1).runs.0 k.0 r.2)

with_variables_settled : {around : Around} {i : Inside} (id : RoutineId) (n : Name) (x : Head) (h : Here) → h.bytes ≤ most_bytes → IsHead x h.core → HasHead id n x h.core → Settled (body_stage around id i) h → Settled (body_stage around id i) (with_variables id n x i.first h)
with_variables_settled {around} {i} id n x h small k head y = record {
  tables = tabled_beside _ _ _ _ _ y.tables;
  people = record {
    parameters = y.people.parameters;
    variables = bare_variable_on w h.core.variables y.people.variables;
    routines = All-set (IsBareRoutine new) h.core.routines id.0 r own (bare_routines_on w y.tables y.people);
    globals = y.people.globals;
    room = y.people.room;
  };
  unit = y.unit;
  rows = y.rows;
  units = units_on h.core new around.start (Some id.0) (Some id.0) h.awaited h.awaited (λ p lt d. (set_apart h.core.routines id.0 r p (λ same. d (inl (ap Some (sym same)))), d)) h.core.units y.units;
  exports = exports_on around.apart w around.exports y.exports;
  start = y.start;
  names = names_on around.apart (Some i) w h.names y.names;
  first = y.first;
  counts = y.counts;
  routine = y.routine;
  inside = record { first = y.inside.first; names = y.inside.names; stand = names_on around.apart None w (take i.names h.names) y.inside.stand; counts = y.inside.counts };
  current = (let lt = y.current.0 in omega (arith, e, lt), y.current.1);
  awaits = y.awaits ∙ sym e;
  accounted = λ m lt. y.accounted m (omega (arith, e, lt));
  bodies = All-weaker (λ b. IsTypedBody around.apart h.core b × (IsOpen (Some id.0) h.awaited b.0.0 → ⊥)) (λ b. IsTypedBody around.apart new b × (IsOpen (Some id.0) h.awaited b.0.0 → ⊥)) (λ b z. (body_on around.apart w y.people b (set_apart h.core.routines id.0 r b.0.0 (λ same. z.1 (inl (ap Some (sym same))))) z.0, z.1)) h.bodies y.bodies;
  values = All-weaker (IsTypedFirst h.core) (IsTypedFirst new) (λ v z. value_on w (founded y) v z) h.first_values y.values;
}
  where
    r : Routine
    r = body_row h.unit n x i h.core

    new : Core
    new = record h.core { routines = slice_set h.core.routines id.0 r }

    e : length new.routines ≡ length h.core.routines
    e = length-set h.core.routines id.0 r

    same : (q : Routine) → slice_get h.core.routines id.0 ≡ Some q → (r.owner ≡ q.owner) × IsTrue (is_same_heading h.core q r)
    same q z =
        let a = some_is (slice_get h.core.routines id.0) head in
        (sym (all_at (IsBareRoutine h.core) h.core.routines id.0 q y.people.routines z).owner, subst (λ q. IsTrue (is_same_heading h.core q r)) (some_eq (sym a.1 ∙ z)) a.2)

    w : Wider h.core new
    w = record { grows = grows_heading h.core id.0 r same; variables = front_itself h.core.variables; globals = front_itself h.core.globals; routines = omega (arith, e); units = omega arith }

    own : IsBareRoutine new r
    own = record {
      unit = y.unit;
      owner = refl;
      enclosing = refl;
      body = refl;
      runs = (k.0, (let le = y.inside.first in omega (arith, le)));
      result = k.1;
      locals = subst (λ vs. bytes_of h.core (filter (λ v. is_counted v.role) vs) ≤ most_bytes) (sym (all_rows n x i h.core)) (let c = y.counts (omega (arith, small)) in omega (arith, c, small));
    }

-- the scope is that of the row
row_scope : {around : Around} {i : Inside} (id : RoutineId) (n : Name) (x : Head) (h : Here) → Settled (body_stage around id i) h → BeginWith (head_rows n x h.core) (drop i.first h.core.variables) → IsRowOf (body_stage around id i) (with_variables id n x i.first h) id (body_row h.unit n x i h.core)
row_scope {around} {i} id n x h y b = (set_there h.core.routines id.0 (body_row h.unit n x i h.core) y.current.0, (λ v lt z. one v lt z), subst (BeginWith (head_rows n x h.core)) (sym (all_rows n x i h.core)) b)
  where
    one : (v : VariableId) → v.0 < length h.core.variables → (scope around.apart (Some i) h.core).variable v → (scope_of around.apart h.core (body_row h.unit n x i h.core)).variable v
    one v lt (inl c) = inl c
    one v lt (inr le) = inr (le, (let f = y.inside.first in omega (arith, le, lt, f)))

-- ---- bodies

local_settled : {s : Stage} (d : Declaration) (h : Here) → Settled s h → From (Moves s h) (done (local_declared d h))
local_settled (constants cs) h x = constants_settled cs h x
local_settled (types ts) h x = types_settled ts h x
local_settled (variables vs) h x = variables_settled vs h x
local_settled (heading m) h x = from_gives (leads x later_itself tt)
local_settled (routine y ds b) h x = from_checked {A = Unit {0}} {P = λ t. Unit {0}} whole_rule (λ t z. leads x later_itself tt)

locals_settled : {s : Stage} (ds : Declarations) (h : Here) → Settled s h → From (Moves s h) (done (locals_declared ds h))
locals_settled no_declarations h x = from_gives (leads x later_itself tt)
locals_settled (declarations d ds) h x = from_then (locals_declared ds) (local_settled d h x) (λ t i r. leads_on r.later (locals_settled ds i r.state))

-- what the body's end leaves
abbrev Ended : Around → Inside → Unit {0} → Here → Type 0
Ended around i t g = Settled (record { around = around; current = None; inside = Some i }) g

inner_settled : {around : Around} {i : Inside} (id : RoutineId) (n : Name) (x : Head) (ds : Declarations) (ss : Statements) (h : Here) → IsHead x h.core → HasHead id n x h.core → Settled (body_stage around id i) h → BeginWith (head_rows n x h.core) (drop i.first h.core.variables) → From (Ended around i) (done (inner id n x i.first ds ss h))
inner_settled {around} {i} id n x ds ss h k head y b =
    from_then (λ h. followed (locals_fit n h) (λ t h. statements_mean id ss (with_variables id n x i.first h))) (locals_settled ds h y)
    (λ t j r. from_then {R = λ t g. (g ≡ j) × (j.bytes ≤ most_bytes)} (λ h. statements_mean id ss (with_variables id n x i.first h))
    (from_checked {P = λ t. j.bytes ≤ most_bytes} (whole_tested LocalsTooLarge n.position.place (nat_le j.bytes most_bytes) (λ e. whole_gives (leb-true j.bytes most_bytes e))) (λ t le. (refl, le)))
    (λ t g q. subst (λ g. From (Ended around i) (done (statements_mean id ss (with_variables id n x i.first g)))) (sym q.0)
    (from_so (statements_settled id ss (with_variables id n x i.first j) (body_row j.unit n x i j.core) refl (with_variables_settled id n x j q.1 (head_later x (reads_later r.later) k) (has_head_later id n x y (reads_later r.later) k head) r.state) (row_scope id n x j r.state (begins_later n x i.first r.later k y.inside.first b))) (λ a g w. w.0))))

left_settled : {around : Around} {c : Option ℕ} (h g : Here) → Settled (outside around c) h → Settled (record { around = around; current = None; inside = Some (inside_of h) }) g → Settled (outside around None) (left h g)
left_settled {around} h g y z = record {
  tables = z.tables;
  people = z.people;
  unit = z.unit;
  rows = z.rows;
  units = z.units;
  exports = z.exports;
  start = z.start;
  names = z.inside.stand;
  first = (let f = y.first in let l = length-take (length h.names) g.names in let le = z.inside.names in omega (arith, f, l, le));
  counts = z.inside.counts;
  routine = y.routine;
  inside = tt;
  current = tt;
  awaits = z.awaits;
  accounted = z.accounted;
  bodies = z.bodies;
  values = z.values;
}

-- a settled state outside of bodies
abbrev pub Rests : {A : Type 0} → Around → A → Here → Type 0
Rests around a h = Settled (outside around None) h

block_settled : {around : Around} (id : RoutineId) (n : Name) (x : Head) (ds : Declarations) (ss : Statements) (h : Here) → IsHead x h.core → HasHead id n x h.core → Settled (outside around (Some id.0)) h → From (Rests around) (done (block_means id n x ds ss h))
block_settled {around} id n x ds ss h k head y =
    let e = entered_settled id n x h k y in
    from_then (λ i. gives tt (left h i)) (inner_settled id n x ds ss (entered id n x h) (head_later x e.1 k) (has_head_later id n x y e.1 k head) e.0 (subst (λ ss. BeginWith ss (drop (length h.core.variables) (entered id n x h).core.variables)) (sym (head_rows_on h.core (entered id n x h).core n x e.1.parameters k.0)) (entered_begins id n x h))) (λ t i z. from_gives (left_settled h i y z))

-- ---- declarations

first_settled : {around : Around} (n : Name) (x : Head) (b : Body) (h : Here) → IsHead x h.core → Settled (outside around None) h → From (Rests around) (done (first_declared n x b h))
first_settled {around} n x forward h k y =
    from_then (λ h. gives tt h)
    (declared_settled n (RoutineName (next_routine h)) (with_routine n x (Some n.position.place) h) (with_routine_settled None n x (Some n.position.place) h y k (inl refl) (inr (subst (IsAwaited (h.awaited ++ Some n.position.place ∷ [])) y.awaits (last_awaited h.awaited n.position.place))) tt) (lt, lt))
    (λ t g r. from_gives r.state)
  where
    lt : length h.core.routines < length (with_routine n x (Some n.position.place) h).core.routines
    lt = let e = length-append h.core.routines (routine_row h.unit n x no_rows ∷ []) in omega (arith, e)
first_settled {around} n x (body ds ss) h k y =
    from_then {R = λ t g. Settled (outside around (Some (length h.core.routines))) g × (g.core ≡ new.core)} (block_means (next_routine h) n x ds ss)
    (entered_from (is_declared new n) 0 n (RoutineName (next_routine h)) new (with_declared_settled n (RoutineName (next_routine h)) new (with_routine_settled (Some (length h.core.routines)) n x None h y k (inr refl) (inl refl) refl) (lt, lt), with_declared_core n (RoutineName (next_routine h)) new))
    (λ t g r. block_settled (next_routine h) n x ds ss g (subst (IsHead x) (sym r.1) k) (subst (HasHead (next_routine h) n x) (sym r.1) head) r.0)
  where
    new : Here
    new = with_routine n x None h

    lt : length h.core.routines < length new.core.routines
    lt = let e = length-append h.core.routines (routine_row h.unit n x no_rows ∷ []) in omega (arith, e)

    head : HasHead (next_routine h) n x new.core
    head = some_and (λ r. IsTrue (is_same_heading new.core r (routine_row h.unit n x no_rows))) (first_behind h.core.routines (routine_row h.unit n x no_rows) []) (heading_itself new.core (routine_row h.unit n x no_rows))

ahead_settled : {around : Around} (id : RoutineId) (n : Name) {x : Option Head} (b : Body) (h : Here) → Filled (λ x. IsHead x h.core) x → IsAwaited h.awaited id.0 → Settled (outside around None) h → From (Rests around) (done (ahead_declared id n x b h))
ahead_settled {around} id n forward h f a y = from_breaks
ahead_settled {around} id n (body ds ss) h (filled x k) a y =
    from_behind {R = λ t g. (g ≡ completed id h) × HasHead id n x h.core} (λ t g. block_means id n x ds ss g) (from_checked (same (slice_get h.core.routines id.0)) (λ t z. (refl, z)))
    (λ t g q.
    let r = some_is (slice_get h.core.routines id.0) q.1 in
    subst (λ g. From (Rests around) (done (block_means id n x ds ss g))) (sym q.0) (block_settled id n x ds ss (completed id h) k q.1 (completed_settled id h y a (slice_get_within h.core.routines id.0 r.0 r.1))))
  where
    same : (o : Option Routine) → Whole {A = Unit {0}} (λ t. IsSomeAnd o (λ r. IsTrue (is_same_heading h.core r (routine_row h.unit n x no_rows)))) (checked (by_test HeadingDiffers n.position.place (fine tt) (is_heading_of h.core (routine_row h.unit n x no_rows) o)))
    same None = whole_rule
    same (Some r) = whole_tested HeadingDiffers n.position.place (is_heading_of h.core (routine_row h.unit n x no_rows) (Some r)) (λ e. whole_gives e)

standing_settled : {around : Around} (o : Option RoutineId) (n : Name) {x : Option Head} (b : Body) (h : Here) → Filled (λ x. IsHead x h.core) x → IfSome o (λ id. IsAwaited h.awaited id.0) → Settled (outside around None) h → From (Rests around) (done (by_standing o n x b h))
standing_settled {around} (Some id) n b h f a y = ahead_settled id n b h f a y
standing_settled {around} None n b h (filled x k) a y = first_settled n x b h k y

-- what is stands_if as awaited is awaited
found_awaited : (h : Here) (n : Name) → IfSome (awaited_named h n) (λ id. IsAwaited h.awaited id.0)
found_awaited h n = one (is_declared h n)
  where
    place : (id : RoutineId) (o : Option (Option Place)) → slice_get h.awaited id.0 ≡ o → IfSome (option_map (λ place. id) (option_flatten o)) (λ id. IsAwaited h.awaited id.0)
    place id None e = tt
    place id (Some None) e = tt
    place id (Some (Some p)) e = awaited_at h.awaited id.0 p e

    named : (m : Option Meaning) → IfSome (awaited_by h.awaited m) (λ id. IsAwaited h.awaited id.0)
    named (Some (RoutineName id)) = place id (slice_get h.awaited id.0) refl
    named m = tt

    one : (b : Bool) → IfSome (if b then awaited_by h.awaited (meaning_of h.names (lower n.text)) else None) (λ id. IsAwaited h.awaited id.0)
    one true = named (meaning_of h.names (lower n.text))
    one false = tt

plain_settled : {around : Around} (x : Heading) (ds : List Directive) (b : Body) (h : Here) → Settled (outside around None) h → From (Rests around) (done (plain_declared x ds b h))
plain_settled {around} x ds b h y =
    from_followed {R = λ t g. g ≡ with_ahead x.name h} (λ t h. followed (head_means x h) (λ u h. headed x.name (both_typed t u) b (ended h))) (from_checked {P = λ t. Unit {0}} (form_whole x ds) (λ t z. refl))
    (λ t i f. one i f)
  where
    one : {t : Option (Unit {0})} (i : Here) → Filled (λ t. i ≡ with_ahead x.name h) t → From (Rests around) (done (followed (head_means x i) (λ u h. headed x.name (both_typed t u) b (ended h))))
    one i (filled t e) = subst (λ i. From (Rests around) (done (followed (head_means x i) (λ u h. headed x.name (both_typed (Some t) u) b (ended h))))) (sym e)
        (lead_followed {h = with_ahead x.name h} {P = IsHead} (λ u h. headed x.name (both_typed (Some t) u) b (ended h)) (head_settled x (with_ahead x.name h) (settled_ahead _ y))
        (λ u j z l g. standing_settled (awaited_named (ended j) x.name) x.name b (ended j) g (found_awaited (ended j) x.name) (settled_ahead [] z)))

class_whole : (core : Core) (sees : Sees) (place : Place) (m : Option Meaning) → IfSome m (StandsFor core sees) → IsWhole (checked (class_meant core place (told_by m)))
class_whole core sees place None u = whole_rule
class_whole core sees place (Some meaning.Spoiled) u = absurd u
class_whole core sees place (Some (meaning.TypeName of)) u = whole_unshown (refused WrongKindOfName place) place (feature_of_type (type_at core of)) (λ _. whole_rule)
class_whole core sees place (Some (meaning.BuiltIn (LeftOut feature))) u = whole_rule
class_whole core sees place (Some (meaning.BuiltIn b)) u = whole_rule
class_whole core sees place (Some m) u = whole_rule

routine_by_settled : {around : Around} (c : Option Name) (x : Heading) (ds : List Directive) (b : Body) (h : Here) → Settled (outside around None) h → From (Rests around) (done (routine_by c x ds b h))
routine_by_settled {around} None x ds b h y = plain_settled x ds b h y
routine_by_settled {around} (Some c) x ds b h y = from_checked (class_whole h.core (scope around.apart None h.core) c.position.place (meaning_of h.names (lower c.text)) (stands_if h.core (scope around.apart None h.core) h.names y.names (lower c.text))) (λ t z. y)

pub routine_settled : {around : Around} (x : Heading) (ds : List Directive) (b : Body) (h : Here) → Settled (outside around None) h → From (Rests around) (done (routine_declared x ds b h))
routine_settled {around} x ds b h y = routine_by_settled x.class x ds b h y
