-- A program that breaks no rule comes to a state in which all is sound, and each routine has its body.
use Rattle.std.proofs.Common.{◌≡◌, inl, inr, ◌⊎◌, ◌<◌, ◌≤◌, ℕ, zero, suc, Bool, true, false, ◌||◌, List, [], ◌∷◌, ◌++◌, All, Contains, IfSome, append_assoc, drop, flat_map, is_some, leb-true, length, length-append, length-set, nat_eq, nat_le, option_to_list, replicate, slice_get, slice_set, take, Option, Some, None, refl, sym, ap, subst, ◌∙◌, arith, if◌then◌else◌, ◌+◌}
use Rattle.std.proofs.lemmas.List.{length-replicate}
use Rattle.std.proofs.lemmas.List.Elements.{All-drop, All-head, All-nil, All-push, All-set, All-tail, All-weaker, Contains-append_cases, Contains-append_left, Contains-append_right}
use Rattle.std.proofs.lemmas.List.Sums.{sum_by_push}
use Rattle.std.proofs.lemmas.Option.{slice_get_within}
use Rattle.op_base.proofs.Tests.{eqb-itself, or_second}
use Rattle.op_base.specs.declared.rule.Refusal.{Refusal}
use Rattle.op_check_unit.proofs.Outlines.{all_same_count, same_count}
use Rattle.op_sound.proofs.Tables.{tabled_beside}
use Rattle.op_sound.proofs.Beginning.{NoneAwaited, beginning_settled, completed_settled, cut_settled, declarations_settled, heading_settled, opened_settled, own_settled, part_settled, uses_settled}
use Rattle.op_sound.proofs.Declaring.{capped}
use Rattle.op_sound.proofs.Growth.{Broader, Wider, bare_routines_on, body_known, body_on, exports_known, exports_on, names_known, names_on, part_on, units_on, value_known, value_on}
use Rattle.op_sound.proofs.Routines.{Rests}
use Rattle.op_sound.proofs.Steps.{from_behind, from_breaks, from_gives, from_so, from_then, from_unless, from_where, founded, settled_named, wider}
use Rattle.op_sound.specs.Complete.{Around, Counts, From, HasBody, IsBareRoutine, IsOpen, IsTypedBody, IsTypedFirst, Settled, faulty, outside, scope, settled, IsDone, IsDonePart, IsExported, IsGlobalOf, IsShown}
use Rattle.op_check_unit.specs.Declaring.{most_global_bytes, with_bytes}
use Rattle.op_check_unit.specs.Interfaces.{interface_order, unit_at, unit_named}
use Rattle.op_check_unit.specs.Programs.{Outline, all_declared, all_outlined, blank_outline, counted_global, faulted, faults_among, files_mean, global_counted, globals_counted, implementation_means, in_unit, interface_faults, interface_faults_by, interface_means, main_tail, name_of, outline, outline_faults, outlined, outlined_by, own_globals, part_means, parts_mean, parts_of_program, program_declared, program_ends, reopened, unit_completed, unit_completes, unit_ends, unit_left, unit_means, units_mean, with_heading, with_interface, with_unit, with_units}
use Rattle.op_check_unit.specs.Steps.{Given, Here, is_clear, unless, unless_faulty}
use Rattle.op_check_unit.specs.System.{beginning}
use Rattle.op_check_unit.specs.Uses.{exported, put_apart, put_back, uses_mean, with_own}
use Rattle.op_check_unit.specs.declared.uses.Export.{Export}
use Rattle.op_core.proofs.Agreeing.{some_is as some_eq}
use Rattle.op_core.proofs.Growing.{all_at, front_itself, grows_behind}
use Rattle.op_core.proofs.Rows.{there_is}
use Rattle.op_core.specs.Faults.{Faults, IsIn, behind, front, none}
use Rattle.op_core.specs.Relations.{Filled, filled}
use Rattle.op_core.specs.Sizes.{extent_of}
use Rattle.op_core.specs.Sound.{Row, bytes_of, globals_of, size_of}
use Rattle.op_core.specs.Types.{id}
use Rattle.op_core.specs.declared.ids.RoutineId.{RoutineId}
use Rattle.op_core.specs.declared.ids.UnitId.{UnitId}
use Rattle.op_core.specs.declared.ids.VariableId.{VariableId}
use Rattle.op_core.specs.declared.program.Core.{Core}
use Rattle.op_core.specs.declared.program.Unit.{Unit as RustUnit}
use Rattle.op_core.specs.declared.routine.Routine.{Routine}
use Rattle.op_core.specs.declared.routine.Variable.{Variable}
use Rattle.op_judgement.proofs.Clear.{some_fault}
use Rattle.op_judgement.specs.declared.rules.LanguageRule.TheVariants.{GlobalsTooLarge}
use Rattle.op_judgement.specs.Steps.{by, done, followed, gives}
use Rattle.op_tree.specs.File.{File, Program, Tail, UnitFile, program, unit}
use Rattle.op_tree.specs.declared.position.Name.{Name}
use Rattle.op_typed.specs.Standing.{AllStand, StandsFor}

-- ---- units

-- the globals so far stand in front of those of the next unit
abbrev from_here : Around → Here → Around
from_here around h = record around { start = length h.core.globals }

later_start : {around : Around} (h : Here) → Settled (outside around None) h → Settled (outside (from_here around h) None) h
later_start {around} h y = record {
  tables = y.tables;
  people = y.people;
  unit = y.unit;
  rows = y.rows;
  units = All-weaker (IsDone h.core around.start None h.awaited) (IsDone h.core (length h.core.globals) None h.awaited) (λ u x. record { globals = (let a = x.globals in let b = y.start in omega (arith, a, b)); initialization = x.initialization; finalization = x.finalization }) h.core.units y.units;
  exports = y.exports;
  start = omega arith;
  names = y.names;
  first = y.first;
  counts = y.counts;
  routine = y.routine;
  inside = tt;
  current = y.current;
  awaits = y.awaits;
  accounted = y.accounted;
  bodies = y.bodies;
  values = y.values;
}

with_unit_settled : {around : Around} (n : Name) (a b : Option RoutineId) (h : Here) → Settled (outside around None) h → IfSome a (IsDonePart h.core None h.awaited) → IfSome b (IsDonePart h.core None h.awaited) → Settled (outside (from_here around h) None) (with_unit around.start n a b h)
with_unit_settled {around} n a b h y c d = record {
  tables = tabled_beside _ _ _ _ _ y.tables;
  people = record {
    parameters = y.people.parameters;
    variables = y.people.variables;
    routines = bare_routines_on w y.tables y.people;
    globals = y.people.globals;
    room = y.people.room;
  };
  unit = (let lt = y.unit in omega (arith, lt, same));
  rows = (let lt = y.rows in omega (arith, lt, same));
  units = All-set (IsDone new (length h.core.globals) None h.awaited) h.core.units h.unit.0 u (record { globals = (let le = y.start in omega (arith, le)); initialization = c; finalization = d })
      (units_on h.core new (length h.core.globals) None None h.awaited h.awaited (λ p lt d. (refl, d)) h.core.units (later_start h y).units);
  exports = exports_on around.apart w around.exports y.exports;
  start = omega arith;
  names = names_on around.apart None w h.names y.names;
  first = y.first;
  counts = y.counts;
  routine = y.routine;
  inside = tt;
  current = y.current;
  awaits = y.awaits;
  accounted = y.accounted;
  bodies = All-weaker (λ b. IsTypedBody around.apart h.core b × (IsOpen None h.awaited b.0.0 → ⊥)) (λ b. IsTypedBody around.apart new b × (IsOpen None h.awaited b.0.0 → ⊥)) (λ b z. (body_on around.apart w y.people b refl z.0, z.1)) h.bodies y.bodies;
  values = All-weaker (IsTypedFirst h.core) (IsTypedFirst new) (λ v z. value_on w (founded y) v z) h.first_values y.values;
}
  where
    u : RustUnit
    u = record { name = n.text; globals = own_globals around.start h; initialization = a; finalization = b }

    new : Core
    new = record h.core { units = slice_set h.core.units h.unit.0 u }

    same : length new.units ≡ length h.core.units
    same = length-set h.core.units h.unit.0 u

    w : Wider h.core new
    w = wider y (front_itself h.core.types) (front_itself h.core.extents) (front_itself h.core.fields) (front_itself h.core.parameters) (front_itself h.core.variables) (front_itself h.core.globals) (front_itself h.core.routines) (refl, refl, refl, refl, refl) (omega (arith, same))

-- behind the parts of a unit, with the globals so far in front of the next one's
record Ended (exports : List (Option Export)) (apart : List VariableId) (h g : Here) : Type 0 where
  start : ℕ
  state : Settled (outside (record { exports = exports; apart = apart; start = start }) None) g
  none : NoneAwaited h.awaited → NoneAwaited g.awaited

parts_settled : {around : Around} (n : Name) (t : Tail) (h : Here) → Settled (outside around None) h → From (λ u g. Ended around.exports around.apart h g) (done (parts_mean around.start n t h))
parts_settled {around} n t h y =
    from_behind (λ a g. followed (part_means n t.finalization g) (by (λ b i. gives tt (with_unit around.start n a b i)))) (part_settled n t.initialization h y)
    (λ a g r. from_behind (λ b i. gives tt (with_unit around.start n a b i)) (part_settled n t.finalization g r.state)
    (λ b i q. from_gives (record { start = length i.core.globals; state = with_unit_settled n a b i q.state (part_on g.core i.core None None g.awaited i.awaited q.keeps a r.part) q.part; none = λ z. q.none (r.none z) })))

-- ---- interface parts

unit_here_settled : {around : Around} (id : UnitId) (h : Here) → Row h.core.units id.0 → Settled (outside around None) h → Settled (outside around None) (record h { unit = id })
unit_here_settled id h lt y = record {
  tables = y.tables;
  people = y.people;
  unit = lt;
  rows = y.rows;
  units = y.units;
  exports = y.exports;
  start = y.start;
  names = y.names;
  first = y.first;
  counts = y.counts;
  routine = y.routine;
  inside = tt;
  current = y.current;
  awaits = y.awaits;
  accounted = y.accounted;
  bodies = y.bodies;
  values = y.values;
}

in_unit_settled : {around : Around} (k : ℕ) (h : Here) → k ≤ length around.exports → Settled (outside around None) h → Settled (outside around None) (in_unit k h)
in_unit_settled k h le y = unit_here_settled (record { 0 = k }) h (let lt = y.rows in omega (arith, le, lt)) y

interface_settled : {around : Around} (u : UnitFile) (h : Here) → Settled (outside around None) h → From (Rests around) (done (interface_means around.exports u h))
interface_settled u h y =
    from_then (λ g. all_declared u.interface.declarations (with_own u.name g)) (uses_settled u.interface.uses h y)
    (λ t g r. declarations_settled u.interface.declarations (with_own u.name g) (own_settled u.name g r.0))

-- the global variables of an interface part, which are not in the table
abbrev globals_apart : Option Export → List VariableId
globals_apart None = []
globals_apart (Some e) = e.globals

abbrev all_apart : List (Option Export) → List VariableId
all_apart [] = []
all_apart (e ∷ es) = globals_apart e ++ all_apart es

-- one that comes beside the others
own_apart : (es : List (Option Export)) (k : ℕ) (e : Export) (v : VariableId) → k < length es → Contains e.globals v → Contains (all_apart (slice_set es k (Some e))) v
own_apart [] k e v lt c = absurd (omega (arith, lt))
own_apart (x ∷ es) zero e v lt c = Contains-append_left e.globals (all_apart es) v c
own_apart (x ∷ es) (suc k) e v lt c = Contains-append_right (globals_apart x) (all_apart (slice_set es k (Some e))) v (own_apart es k e v (omega (arith, lt)) c)

others_apart : (es : List (Option Export)) (k : ℕ) (e : Export) (v : VariableId) → slice_get es k ≡ Some None → Contains (all_apart es) v → Contains (all_apart (slice_set es k (Some e))) v
others_apart [] k e v there c = absurd (cc)
others_apart (x ∷ es) zero e v there c = Contains-append_right e.globals (all_apart es) v (subst (λ x. Contains (globals_apart x ++ all_apart es) v) (some_eq there) c)
others_apart (x ∷ es) (suc k) e v there c = one (Contains-append_cases (globals_apart x) (all_apart es) v c) (λ d. others_apart es k e v there d)
  where
    one : Contains (globals_apart x) v ⊎ Contains (all_apart es) v → (Contains (all_apart es) v → Contains (all_apart (slice_set es k (Some e))) v) → Contains (globals_apart x ++ all_apart (slice_set es k (Some e))) v
    one (inl d) more = Contains-append_left (globals_apart x) (all_apart (slice_set es k (Some e))) v d
    one (inr d) more = Contains-append_right (globals_apart x) (all_apart (slice_set es k (Some e))) v (more d)

abbrev around_of : List (Option Export) → Around
around_of es = record { exports = es; apart = all_apart es; start = 0 }

-- where only the table of globals changes
globals_changed : {around : Around} {h : Here} (gs : List VariableId) (next : List VariableId) → Settled (outside around None) h → ((v : VariableId) → IsGlobalOf around.apart h.core v → IsGlobalOf next (record h.core { globals = gs }) v) → Broader around.apart next h.core (record h.core { globals = gs })
globals_changed {h = h} gs next y k = record {
  grows = grows_behind (founded y).routines (front_itself h.core.types) (front_itself h.core.extents) (front_itself h.core.fields) (front_itself h.core.parameters) (front_itself h.core.variables) (front_itself h.core.routines) refl refl refl refl refl;
  variables = front_itself h.core.variables;
  knows = k;
  routines = omega arith;
  units = omega arith;
}

still_bare : (core : Core) (gs : List VariableId) (rs : List Routine) → All (IsBareRoutine core) rs → All (IsBareRoutine (record core { globals = gs })) rs
still_bare core gs rs a = All-weaker (IsBareRoutine core) (IsBareRoutine (record core { globals = gs })) (λ r x. record { unit = x.unit; owner = x.owner; enclosing = x.enclosing; body = x.body; runs = x.runs; result = x.result; locals = x.locals }) rs a

-- what is exported, where its global variables are taken out of the table
apart_settled : (es : List (Option Export)) (k : ℕ) (n : Name) (g : Given (Unit {0})) → slice_get es k ≡ Some None → Settled (outside (around_of es) None) g.here → Settled (outside (around_of (slice_set es k (Some (exported n g)))) None) (put_apart g.here)
apart_settled es k n g there y = record {
  tables = tabled_beside _ _ _ _ _ y.tables;
  people = record {
    parameters = y.people.parameters;
    variables = y.people.variables;
    routines = still_bare h.core [] h.core.routines y.people.routines;
    globals = All-nil (λ v. Row h.core.variables v.0);
    room = omega arith;
  };
  unit = y.unit;
  rows = (let lt = y.rows in let l = length-set es k (Some e) in omega (arith, lt, l));
  units = units_on h.core new 0 None None h.awaited h.awaited (λ p lt d. (refl, d)) h.core.units y.units;
  exports = All-set (IsShown next new) es k (Some e) shown (exports_known (all_apart es) next b es y.exports);
  start = omega arith;
  names = names_known (all_apart es) next None b h.names y.names;
  first = y.first;
  counts = λ le. omega arith;
  routine = y.routine;
  inside = tt;
  current = y.current;
  awaits = y.awaits;
  accounted = y.accounted;
  bodies = All-weaker (λ b. IsTypedBody (all_apart es) h.core b × (IsOpen None h.awaited b.0.0 → ⊥)) (λ b. IsTypedBody next new b × (IsOpen None h.awaited b.0.0 → ⊥)) (λ c z. (body_known (all_apart es) next b y.people c refl z.0, z.1)) h.bodies y.bodies;
  values = All-weaker (IsTypedFirst h.core) (IsTypedFirst new) (λ v z. value_known b (founded y) v z) h.first_values y.values;
}
  where
    h : Here
    h = g.here

    e : Export
    e = exported n g

    next : List VariableId
    next = all_apart (slice_set es k (Some e))

    new : Core
    new = record h.core { globals = [] }

    knows : (v : VariableId) → IsGlobalOf (all_apart es) h.core v → IsGlobalOf next new v
    knows v (inl c) = inr (own_apart es k e v (slice_get_within es k None there) c)
    knows v (inr d) = inr (others_apart es k e v there d)

    b : Broader (all_apart es) next h.core new
    b = globals_changed [] next y (λ v x. knows v x)

    shown : IsExported next new e
    shown = record { unit = y.unit; names = names_known (all_apart es) next None b (drop h.first h.names) (All-drop (λ n. StandsFor h.core (scope (all_apart es) None h.core) n.meaning) h.first h.names y.names); globals = y.people.globals }

-- what stands round a unit
left_settled : {around : Around} (old h : Here) → Settled (outside around None) h → Settled (outside around None) (unit_left old h)
left_settled old h y = opened_settled None (record h { names = take (length old.names) h.names; first = 0 }) (cut_settled (length old.names) 0 h (omega arith) y)

-- an interface part more is declared, or breaks a rule
abbrev IsOutlined : Outline → Type 0
IsOutlined o = Settled (outside (around_of o.exports) None) o.here

outlined_by_settled : (k : ℕ) (e : Option (Option Export)) (u : Option UnitFile) (o : Outline) → slice_get o.exports k ≡ e → IsOutlined o → IsOutlined (outlined_by k e u o) ⊎ ((k < length o.exports) × ((r : Refusal) × IsIn r (interface_faults_by k e u o)))
outlined_by_settled k (Some None) (Some u) o there y = one g.typed (interface_settled u (in_unit k o.here) (in_unit_settled k o.here (let lt = slice_get_within o.exports k None there in omega (arith, lt)) y))
  where
    g : Given (Unit {0})
    g = done (interface_means o.exports u (in_unit k o.here))

    state : {t : Option (Unit {0})} → Filled (λ t. Settled (outside (around_of o.exports) None) g.here) t → IsOutlined (with_interface k u o)
    state (filled t z) = left_settled o.here (put_apart g.here) (apart_settled o.exports k u.name g there z)

    one : (t : Option (Unit {0})) → From (Rests (around_of o.exports)) g → IsOutlined (with_interface k u o) ⊎ ((k < length o.exports) × ((r : Refusal) × IsIn r g.faults))
    one t (settled f) = inl (state f)
    one t (faulty r i) = inr (slice_get_within o.exports k None there, (r, i))
outlined_by_settled k (Some None) None o there y = inl y
outlined_by_settled k (Some (Some e)) u o there y = inl y
outlined_by_settled k None u o there y = inl y

-- a rule that the interface part of some unit breaks
abbrev SomeFault : ℕ → (ℕ → Faults) → Type 0
SomeFault count faults = (k : ℕ) × (k < count) × ((r : Refusal) × IsIn r (faults k))

pub own_fault : (k : ℕ) (f : Faults) (r : Refusal) → IsIn r f → IsIn r (if nat_eq k k then f else none)
own_fault k f r i = subst (λ b. IsIn r (if b then f else none)) (sym (eqb-itself k)) i

all_outlined_settled : (order : List (List ℕ)) (fs : List File) (ks : List ℕ) (o : Outline) → IsOutlined o → IsOutlined (all_outlined order fs ks o) ⊎ SomeFault (length o.exports) (faults_among order fs ks o)
all_outlined_settled order fs [] o y = inl y
all_outlined_settled order fs (k ∷ ks) o y = one (outlined_by_settled k (slice_get o.exports k) (unit_at order fs k) o refl y) (λ z. all_outlined_settled order fs ks (outlined order fs k o) z)
  where
    next : Outline
    next = outlined order fs k o

    count : length next.exports ≡ length o.exports
    count = same_count k (slice_get o.exports k) (unit_at order fs k) o

    later : IsOutlined (all_outlined order fs ks next) ⊎ SomeFault (length next.exports) (faults_among order fs ks next) → IsOutlined (all_outlined order fs (k ∷ ks) o) ⊎ SomeFault (length o.exports) (faults_among order fs (k ∷ ks) o)
    later (inl z) = inl z
    later (inr s) = inr (s.0, (let lt = s.1 in omega (arith, lt, count)), (s.2.0, behind s.2.1))

    one : IsOutlined next ⊎ ((k < length o.exports) × ((r : Refusal) × IsIn r (interface_faults order fs k o))) → (IsOutlined next → IsOutlined (all_outlined order fs ks next) ⊎ SomeFault (length next.exports) (faults_among order fs ks next)) → IsOutlined (all_outlined order fs (k ∷ ks) o) ⊎ SomeFault (length o.exports) (faults_among order fs (k ∷ ks) o)
    one (inl z) rest = later (rest z)
    one (inr s) rest = inr (k, s.0, (s.1.0, front (own_fault k (interface_faults order fs k o) s.1.0 s.1.1)))

-- ---- the rest of units

-- a global more, which has its row
one_more : (vs : List Variable) (v : VariableId) (x : Variable) (gs : List VariableId) → slice_get vs v.0 ≡ Some x → flat_map (λ g. option_to_list (slice_get vs g.0)) (gs ++ v ∷ []) ≡ flat_map (λ g. option_to_list (slice_get vs g.0)) gs ++ x ∷ []
one_more vs v x [] e = ap (λ o. option_to_list o ++ []) e
one_more vs v x (g ∷ gs) e = ap (λ l. option_to_list (slice_get vs g.0) ++ l) (one_more vs v x gs e) ∙ sym (append_assoc (option_to_list (slice_get vs g.0)) (flat_map (λ g. option_to_list (slice_get vs g.0)) gs) (x ∷ []))

abbrev around_at : List (Option Export) → List VariableId → ℕ → Around
around_at exports apart start = record { exports = exports; apart = apart; start = start }

-- the next global of an interface part comes into the table
abbrev with_global : VariableId → Variable → Here → Here
with_global v x h = record h { core = record h.core { globals = h.core.globals ++ v ∷ [] }; bytes = with_bytes h.bytes (extent_of h.core x.of).size }

with_global_settled : (exports : List (Option Export)) (apart : List VariableId) (start : ℕ) (v : VariableId) (x : Variable) (h : Here) → slice_get h.core.variables v.0 ≡ Some x → nat_le (with_global v x h).bytes most_global_bytes ≡ true → Settled (outside (around_at exports (v ∷ apart) start) None) h → Settled (outside (around_at exports apart start) None) (with_global v x h)
with_global_settled exports apart start v x h there fits y = record {
  tables = tabled_beside _ _ _ _ _ y.tables;
  people = record {
    parameters = y.people.parameters;
    variables = y.people.variables;
    routines = still_bare h.core gs h.core.routines y.people.routines;
    globals = All-push (λ v. Row h.core.variables v.0) h.core.globals v y.people.globals (slice_get_within h.core.variables v.0 x there);
    room = (let le = leb-true (with_global v x h).bytes most_global_bytes fits in let c = counts le in omega (arith, le, c));
  };
  unit = y.unit;
  rows = y.rows;
  units = units_on h.core new start None None h.awaited h.awaited (λ p lt d. (refl, d)) h.core.units y.units;
  exports = exports_known (v ∷ apart) apart b exports y.exports;
  start = (let le = y.start in let l = length-append h.core.globals (v ∷ []) in omega (arith, le, l));
  names = names_known (v ∷ apart) apart None b h.names y.names;
  first = y.first;
  counts = counts;
  routine = y.routine;
  inside = tt;
  current = y.current;
  awaits = y.awaits;
  accounted = y.accounted;
  bodies = All-weaker (λ b. IsTypedBody (v ∷ apart) h.core b × (IsOpen None h.awaited b.0.0 → ⊥)) (λ b. IsTypedBody apart new b × (IsOpen None h.awaited b.0.0 → ⊥)) (λ c z. (body_known (v ∷ apart) apart b y.people c refl z.0, z.1)) h.bodies y.bodies;
  values = All-weaker (IsTypedFirst h.core) (IsTypedFirst new) (λ v z. value_known b (founded y) v z) h.first_values y.values;
}
  where
    gs : List VariableId
    gs = h.core.globals ++ v ∷ []

    new : Core
    new = record h.core { globals = gs }

    one : (w : VariableId) → Contains (v ∷ []) w ⊎ Contains apart w → IsGlobalOf apart new w
    one w (inl c) = inl (Contains-append_right h.core.globals (v ∷ []) w c)
    one w (inr d) = inr d

    knows : (w : VariableId) → IsGlobalOf (v ∷ apart) h.core w → IsGlobalOf apart new w
    knows w (inl c) = inl (Contains-append_left h.core.globals (v ∷ []) w c)
    knows w (inr d) = one w (Contains-append_cases (v ∷ []) apart w d)

    b : Broader (v ∷ apart) apart h.core new
    b = globals_changed gs apart y (λ w x. knows w x)

    size : ℕ
    size = (extent_of h.core x.of).size

    total : bytes_of h.core (globals_of new) ≡ bytes_of h.core (globals_of h.core) + size
    total = ap (bytes_of h.core) (one_more h.core.variables v x h.core.globals there) ∙ sum_by_push (λ v. size_of h.core v.of) (globals_of h.core) x

    counts : Counts new None (with_global v x h).bytes
    counts le = capped h.bytes size (bytes_of h.core (globals_of h.core)) _ total y.counts le

global_settled : (exports : List (Option Export)) (apart : List VariableId) (start : ℕ) (v : VariableId) (h : Here) → Row h.core.variables v.0 → Settled (outside (around_at exports (v ∷ apart) start) None) h → From (λ t g. Settled (outside (around_at exports apart start) None) g × (g.core.variables ≡ h.core.variables)) (done (global_counted v h))
global_settled exports apart start v h lt y =
    let x = there_is h.core.variables v.0 lt in
    subst (λ o. From (λ t g. Settled (outside (around_at exports apart start) None) g × (g.core.variables ≡ h.core.variables)) (done (counted_global v o h))) (sym x.1)
    (from_where (is_some h.routine || nat_le (with_global v x.0 h).bytes most_global_bytes) GlobalsTooLarge x.0.name.position.place (with_global v x.0 h)
    (λ f. from_gives (with_global_settled exports apart start v x.0 h x.1 (or_second (is_some h.routine) (nat_le (with_global v x.0 h).bytes most_global_bytes) y.routine f) y, refl)))

globals_settled : (exports : List (Option Export)) (apart : List VariableId) (start : ℕ) (vs : List VariableId) (h : Here) → All (λ v. Row h.core.variables v.0) vs → Settled (outside (around_at exports (vs ++ apart) start) None) h → From (Rests (around_at exports apart start)) (done (globals_counted vs h))
globals_settled exports apart start [] h a y = from_gives y
globals_settled exports apart start (v ∷ vs) h a y =
    from_then (globals_counted vs) (global_settled exports (vs ++ apart) start v h (All-head (λ v. Row h.core.variables v.0) v vs a) y)
    (λ t g z. globals_settled exports apart start vs g (subst (λ rs. All (λ v. Row rs v.0) vs) (sym z.1) (All-tail (λ v. Row h.core.variables v.0) v vs a)) z.0)

reopened_settled : {around : Around} (e : Export) (u : UnitFile) (h : Here) → IsExported around.apart h.core e → Settled (outside around None) h → From (Rests around) (done (reopened around.exports e u h))
reopened_settled {around} e u h x y =
    from_then (λ f. followed (uses_mean around.exports u.implementation.uses f) (λ t g. gives tt (put_back e (with_own u.name g)))) (uses_settled u.interface.uses h y)
    (λ t f r. from_then (λ g. gives tt (put_back e (with_own u.name g))) (uses_settled u.implementation.uses f r.0)
    (λ s g q. from_gives (settled_named {count = e.count} e.names (own_settled u.name g q.0) (subst (λ c. AllStand c (scope around.apart None c) e.names) (sym (q.1 ∙ r.1)) x.names))))

unit_ends_settled : {around : Around} (n : Name) (t : Tail) (h : Here) → Settled (outside around None) h → From (λ u g. Ended around.exports around.apart h g) (done (unit_ends around.start n t h))
unit_ends_settled {around} n t h y =
    from_then {R = λ u g. g ≡ h} (parts_mean around.start n t) here_still
    (λ u g e. subst (λ i. From (λ u g. Ended around.exports around.apart h g) (done (parts_mean around.start n t i))) (sym e) (parts_settled n t h y))
  where
    here_still : From {A = Unit {0}} (λ u g. g ≡ h) (done (unit_completed h))
    here_still = settled (filled tt refl)

-- behind a unit
record Left (exports : List (Option Export)) (apart : List VariableId) (g : Here) : Type 0 where
  start : ℕ
  state : Settled (outside (around_at exports apart start) None) g

abbrev IsLeft : List (Option Export) → List VariableId → Unit {0} → Here → Type 0
IsLeft exports apart t g = Left exports apart g

implementation_settled : {around : Around} (e : Export) (u : UnitFile) (h : Here) → IsExported around.apart h.core e → Settled (outside around None) h → From (IsLeft around.exports around.apart) (done (implementation_means around.exports around.start e u h))
implementation_settled {around} e u h x y =
    from_then (λ g. followed (all_declared u.implementation.declarations g) (λ t i. unit_ends around.start u.name u.tail i)) (reopened_settled e u h x y)
    (λ t g z. from_then (unit_ends around.start u.name u.tail) (declarations_settled u.implementation.declarations g z) (λ s i w. from_so (unit_ends_settled u.name u.tail i w) (λ a j f. record { start = f.start; state = f.state })))

unit_settled : {around : Around} (e : Export) (u : Option UnitFile) (h : Here) → IsExported around.apart h.core e → Settled (outside around None) h → From (IsLeft around.exports around.apart) (done (unit_means around.exports around.start e u h))
unit_settled {around} e None h x y = from_gives (record { start = around.start; state = y })
unit_settled {around} e (Some u) h x y =
    from_then (λ i. gives tt (unit_left h i)) (implementation_settled e u h x y) (λ t i z. from_gives (record { start = z.start; state = left_settled h i z.state }))

completes_settled : (fs : List File) (exports : List (Option Export)) (e : Option Export) (apart : List VariableId) (start k : ℕ) (h : Here) → slice_get exports k ≡ Some e → Settled (outside (around_at exports (globals_apart e ++ apart) start) None) h → From (IsLeft exports apart) (done (unit_completes fs exports e h))
completes_settled fs exports None apart start k h there y = from_gives (record { start = start; state = y })
completes_settled fs exports (Some e) apart start k h there y =
    let shown = all_at (IsShown (e.globals ++ apart) h.core) exports k (Some e) y.exports there in
    let begins = later_start (record h { unit = e.id }) (unit_here_settled e.id h shown.unit y) in
    from_then (unit_means exports (length h.core.globals) e (unit_named fs e.unit)) (globals_settled exports apart (length h.core.globals) e.globals (record h { unit = e.id }) shown.globals begins)
    (λ t g z. unit_settled e (unit_named fs e.unit) g (all_at (IsShown apart g.core) exports k (Some e) z.exports there) z)

from_faulted : {A : Type 0} {R : A → Here → Type 0} (f : Faults) (g : Given A) → From R g → From R (faulted f g)
from_faulted f g (settled p) = settled p
from_faulted f g (faulty r i) = faulty r (behind i)

-- those that are left are among all
abbrev AreAmong : List (Option Export) → List (Option Export) → Type 0
AreAmong exports rest = (n : ℕ) (e : Option Export) → slice_get rest n ≡ Some e → (k : ℕ) × (slice_get exports k ≡ Some e)

units_settled : (fs : List File) (exports : List (Option Export)) (faults : ℕ → Faults) (k : ℕ) (rest : List (Option Export)) (h : Here) → AreAmong exports rest → Left exports (all_apart rest) h → From (IsLeft exports []) (units_mean fs exports faults k rest h)
units_settled fs exports faults k [] h among y = from_gives y
units_settled fs exports faults k (e ∷ rest) h among y =
    let there = among 0 e refl in
    from_unless (faulted (faults k) (done (unit_completes fs exports e h))) (units_mean fs exports faults (k + 1) rest)
    (from_faulted (faults k) (done (unit_completes fs exports e h)) (completes_settled fs exports e (all_apart rest) y.start there.0 h there.1 y.state))
    (λ t i z. units_settled fs exports faults (k + 1) rest i (λ n x is. among (suc n) x is) z)

-- ---- a rule that an interface part breaks

pub fault_behind : {A : Type 0} (g : Given A) (f : Here → Given A) (q : Refusal) → IsIn q g.faults → IsIn q (unless_faulty g f).faults
fault_behind g f q i = one (is_clear g.faults)
  where
    one : (b : Bool) → IsIn q (unless b g f).faults
    one true = front i
    one false = i

-- it is told, or one of a unit before
pub units_fault : (fs : List File) (exports : List (Option Export)) (faults : ℕ → Faults) (k m : ℕ) (rest : List (Option Export)) (h : Here) (r : Refusal) → m < length rest → IsIn r (faults (k + m)) → (q : Refusal) × IsIn q (units_mean fs exports faults k rest h).faults
units_fault fs exports faults k m [] h r lt i = absurd (omega (arith, lt))
units_fault fs exports faults k zero (e ∷ rest) h r lt i =
    (r, fault_behind (faulted (faults k) (done (unit_completes fs exports e h))) (units_mean fs exports faults (k + 1) rest) r (front (subst (λ n. IsIn r (faults n)) (omega arith) i)))
units_fault fs exports faults k (suc m) (e ∷ rest) h r lt i = one (is_clear g.faults) refl (λ j. units_fault fs exports faults (k + 1) m rest j r (omega (arith, lt)) (subst (λ n. IsIn r (faults n)) (omega arith) i))
  where
    g : Given (Unit {0})
    g = faulted (faults k) (done (unit_completes fs exports e h))

    one : (b : Bool) → is_clear g.faults ≡ b → ((j : Here) → (q : Refusal) × IsIn q (units_mean fs exports faults (k + 1) rest j).faults) → (q : Refusal) × IsIn q (unless b g (units_mean fs exports faults (k + 1) rest)).faults
    one true c later = let s = later g.here in (s.0, behind s.1)
    one false c later = some_fault g.faults c

-- ---- the program

-- nothing is awaited, and all globals are in the table
pub record Finished (h : Here) : Type 0 where
  pub exports : List (Option Export)
  pub start : ℕ
  pub state : Settled (outside (record { exports = exports; apart = []; start = start }) None) h
  pub none : NoneAwaited h.awaited

program_ends_settled : {around : Around} (n : Name) (t : Tail) (h : Here) → Settled (outside around None) h → From (λ u g. (start : ℕ) × Settled (outside (around_at around.exports around.apart start) None) g × NoneAwaited g.awaited) (done (program_ends around.start n t h))
program_ends_settled {around} n t h y =
    from_then (parts_mean around.start n t) (completed_settled h y) (λ u g z. from_so (parts_settled n t g z.0) (λ v i f. (f.start, f.state, f.none z.1)))

program_settled : (exports : List (Option Export)) (n : ℕ) (p : Program) (h : Here) → n ≤ length exports → Left exports [] h → From (λ t g. Finished g) (done (program_declared exports p (in_unit n h)))
program_settled exports n p h le left =
    let y = later_start (in_unit n h) (in_unit_settled n h le left.state) in
    let start = length h.core.globals in
    from_then (λ f. followed (all_declared p.declarations (with_heading p.heading f)) (λ t g. program_ends start (name_of p.position p.heading) (main_tail p.statements) g)) (uses_settled {around = around_at exports [] start} p.uses (in_unit n h) y)
    (λ t f r. from_then (program_ends start (name_of p.position p.heading) (main_tail p.statements)) (declarations_settled p.declarations (with_heading p.heading f) (heading_settled p.heading f r.0))
    (λ s g z. from_so (program_ends_settled {around = around_at exports [] start} (name_of p.position p.heading) (main_tail p.statements) g z) (λ v i f. record { exports = exports; start = f.0; state = f.1; none = f.2 })))

none_apart : (n : ℕ) → all_apart (replicate n None) ≡ []
none_apart zero = refl
none_apart (suc n) = none_apart n

blank_settled : (order : List (List ℕ)) → IsOutlined (blank_outline order beginning)
blank_settled order = subst (λ vs. Settled (outside (around_at (replicate (length order) None) vs 0) None) (with_units order beginning)) (sym (none_apart (length order))) (beginning_settled order)

parts_of_program_settled : (p : Program) (order : List (List ℕ)) (fs : List File) (faults : ℕ → Faults) (o : Outline) → length o.exports ≡ length order → IsOutlined o ⊎ SomeFault (length order) faults → From (λ t g. Finished g) (parts_of_program p order fs faults o)
parts_of_program_settled p order fs faults o count (inl y) =
    from_unless (units_mean fs o.exports faults 0 o.exports o.here) (λ h. done (program_declared o.exports p (in_unit (length order) h))) (units_settled fs o.exports faults 0 o.exports o.here (λ n e is. (n, is)) (record { start = 0; state = y }))
    (λ t g z. program_settled o.exports (length order) p g (omega (arith, count)) z)
parts_of_program_settled p order fs faults o count (inr s) =
    let q = units_fault fs o.exports faults 0 s.0 o.exports o.here s.2.0 (let lt = s.1 in omega (arith, lt, count)) (subst (λ n. IsIn s.2.0 (faults n)) (omega arith) s.2.1) in
    faulty q.0 (fault_behind (units_mean fs o.exports faults 0 o.exports o.here) (λ h. done (program_declared o.exports p (in_unit (length order) h))) q.0 q.1)

pub files_settled : (fs : List File) (order : List (List ℕ)) → From (λ t g. Finished g) (files_mean fs order beginning)
files_settled [] order = from_breaks
files_settled (unit u ∷ fs) order = from_breaks
files_settled (program p ∷ fs) order =
    parts_of_program_settled p order fs (outline_faults order fs beginning) (outline order fs beginning) (all_same_count order fs (interface_order order fs) (blank_outline order beginning) ∙ blank)
    (one (all_outlined_settled order fs (interface_order order fs) (blank_outline order beginning) (blank_settled order)))
  where
    blank : length (replicate {A = Option Export} (length order) None) ≡ length order
    blank = length-replicate {A = Option Export} (length order) None

    one : IsOutlined (outline order fs beginning) ⊎ SomeFault (length (blank_outline order beginning).exports) (outline_faults order fs beginning) → IsOutlined (outline order fs beginning) ⊎ SomeFault (length order) (outline_faults order fs beginning)
    one (inl y) = inl y
    one (inr s) = inr (s.0, (let lt = s.1 in omega (arith, lt, blank)), s.2)

-- each routine has its body
pub all_have_bodies : (h : Here) → Finished h → (n : ℕ) → n < length h.core.routines → HasBody h.bodies n
all_have_bodies h f n lt = one (f.state.accounted n lt)
  where
    one : IsOpen None h.awaited n ⊎ HasBody h.bodies n → HasBody h.bodies n
    one (inl (inl z)) = absurd (cc)
    one (inl (inr a)) = absurd (f.none n a)
    one (inr b) = b
