-- A program begins in a settled state, and declarations, uses and parts lead to one or break a rule.
use Rattle.std.proofs.Common.{◌≡◌, inl, inr, ◌⊎◌, ◌<◌, ◌≤◌, ℕ, ℤ, pos, zero, suc, Bool, true, false, List, [], ◌∷◌, ◌++◌, All, IfSome, IsSomeAnd, IsTrue, append-nil, append_assoc, codes, length, length-append, length-take, ltb-true, map, nat_lt, replicate, slice_get, take, Option, Some, None, refl, sym, ap, ap₂, subst, ◌∙◌, arith, if◌then◌else◌, ◌+◌}
use Rattle.std.specs.List.{list_all}
use Rattle.std.specs.Str.{str_eq_ignore_ascii_case}
use Rattle.std.proofs.lemmas.Bool.{and_parts}
use Rattle.std.proofs.lemmas.Int.{ints}
use Rattle.std.proofs.lemmas.List.{length-map, length-replicate}
use Rattle.std.proofs.lemmas.List.Elements.{All-append, All-cons, All-head, All-nil, All-tail, All-take}
use Rattle.op_base.proofs.Lists.{slice_get-front}
use Rattle.op_base.specs.declared.place.Place.{Place}
use Rattle.op_base.specs.declared.rule.Refusal.{Refusal}
use Rattle.op_sound.proofs.Tables.{tabled_beginning, tabled_beside}
use Rattle.op_sound.proofs.Declaring.{constants_settled, types_settled, variables_settled}
use Rattle.op_sound.proofs.Growth.{KeepsParts}
use Rattle.op_sound.proofs.Routines.{Rests, awaited_last, awaited_less, routine_settled, statements_settled, with_routine_settled}
use Rattle.op_sound.proofs.Steps.{from_breaks, from_gives, from_so, from_then, founded_in, settled_named}
use Rattle.op_sound.proofs.Types.{entered_is, first_behind, wide, with_name_settled}
use Rattle.op_sound.specs.Complete.{Around, From, IsAwaited, IsBareVariable, IsBareRoutine, IsOpen, IsPeopled, IsTypedBody, IsTypedFirst, Settled, faulty, outside, scope, scope_of, settled, IsDone, IsDonePart, IsExported, IsShown}
use Rattle.op_check_unit.specs.Naming.{with_name}
use Rattle.op_check_unit.specs.Programs.{all_completed, all_declared, awaited, blank_unit, declaration_means, main_head, part_means, with_heading, with_units}
use Rattle.op_check_unit.specs.Routines.{next_routine, no_rows, routine_row, with_routine}
use Rattle.op_check_unit.specs.Steps.{Here}
use Rattle.op_check_unit.specs.System as system
use Rattle.op_check_unit.specs.System.{beginning, character_names, class_names, empty, floating_names, function_names, integer_names, meaning_of_known, native_names, other_names, pointer_names, rest_names, short_names, sized_names, statement_names, string_names, system_names, system_unit, text_names, type_names, value_names, with_classes, with_known, with_left_out, with_table}
use Rattle.op_sound.specs.Tables.{IsTabled}
use Rattle.op_check_unit.specs.Uses.{exports_of, is_system, used, used_by, uses_mean, with_own, with_used}
use Rattle.op_check_unit.specs.declared.uses.Export.{Export}
use Rattle.op_check_unit.specs.declared.system.Known.{Known}
use Rattle.op_check_unit.specs.declared.system.Known.TheVariants.{Named as Type_, Form, Value}
use Rattle.op_core.proofs.Growing.{some_and}
use Rattle.op_core.specs.Faults.{IsIn, behind, front, here}
use Rattle.op_core.specs.Relations.{filled}
use Rattle.op_core.specs.Sizes.{range_of, type_at}
use Rattle.op_core.specs.Sound.{HasRows, IsFounded, Row, is_of_block}
use Rattle.op_core.specs.Types.{id}
use Rattle.op_core.specs.Typing.{Fits, Sees, Within}
use Rattle.op_core.specs.declared.constant.Const.TheVariants.{Ordinal}
use Rattle.op_core.specs.declared.ids.RoutineId.{RoutineId}
use Rattle.op_core.specs.declared.ids.TypeId.{TypeId}
use Rattle.op_core.specs.declared.ids.VariableId.{VariableId}
use Rattle.op_core.specs.declared.program.Core.{Core}
use Rattle.op_core.specs.declared.routine.Routine.{Routine}
use Rattle.op_core.specs.declared.types.CoreType.{CoreType}
use Rattle.op_core.specs.declared.types.Extent.{Extent}
use Rattle.op_judgement.specs.Judgement.{checked}
use Rattle.op_judgement.specs.Steps.{done, gives, when}
use Rattle.op_tree.specs.Declaration.{Declaration, constants, types, variables, heading, routine, Declarations, no_declarations, declarations, forward}
use Rattle.op_tree.specs.Statement.{Statements}
use Rattle.op_tree.specs.declared.file.ProgramHeading.{ProgramHeading}
use Rattle.op_tree.specs.declared.position.Name.{Name}
use Rattle.op_typed.proofs.TypeFacts.{boolean_kind, integer_kind}
use Rattle.op_types.specs.Entering.{entered}
use Rattle.op_types.specs.Names.{Named, lower}
use Rattle.op_typed.specs.Standing.{AllStand, StandsFor}
use Rattle.op_types.specs.declared.visible.Meaning.TheVariants.{Unit as UnitName}

-- ---- where a program begins

-- a type that System has, or a form of its own
abbrev is_plain : Known → Bool
is_plain (Type_ of) = nat_lt of.0 19
is_plain (Form b) = true
is_plain (Value of n) = false

plain_stands : (core : Core) (sees : Sees) (k : Known) → 19 ≤ length core.types → is_plain k ≡ true → StandsFor core sees (meaning_of_known k)
plain_stands core sees (Type_ of) le e = let lt = ltb-true of.0 19 e in omega (arith, le, lt)
plain_stands core sees (Form b) le e = tt
plain_stands core sees (Value of n) le e = absurd (cc)

known_stands : (core : Core) (sees : Sees) (n : List ℕ) (k : Known) (ns : List Named) → AllStand core sees ns → StandsFor core sees (meaning_of_known k) → AllStand core sees (with_known n k ns)
known_stands core sees n k ns a s = All-append P (ns ++ _ ∷ []) (_ ∷ []) (All-append P ns (_ ∷ []) a (one _ s)) (one _ s)
  where
    P : Named → Type 0
    P m = StandsFor core sees m.meaning

    one : (m : Named) → StandsFor core sees m.meaning → All (λ m. StandsFor core sees m.meaning) (m ∷ [])
    one m s = All-cons (λ m. StandsFor core sees m.meaning) m [] s (All-nil (λ m. StandsFor core sees m.meaning))

table_stands : (core : Core) (sees : Sees) (xs : List (List ℕ × Known)) (ns : List Named) → 19 ≤ length core.types → list_all (λ x. is_plain x.1) xs ≡ true → AllStand core sees ns → AllStand core sees (with_table xs ns)
table_stands core sees [] ns le e a = a
table_stands core sees (x ∷ xs) ns le e a = let p = and_parts _ _ e in table_stands core sees xs (with_known x.0 x.1 ns) le p.1 (known_stands core sees x.0 x.1 ns a (plain_stands core sees x.1 le p.0))

value_stands : (core : Core) (of : TypeId) (t : CoreType) (n : ℤ) → type_at core of ≡ Some t → IsSomeAnd (range_of (Some t)) (λ r. Within r n) → Fits core (Ordinal n) of
value_stands core of t n e h = subst (λ t. IsSomeAnd (range_of t) (λ r. Within r n)) (sym e) h

values_stand : (core : Core) (sees : Sees) (ns : List Named) → IsFounded core → AllStand core sees ns → AllStand core sees (with_table value_names ns)
values_stand core sees ns f a =
    let truth : StandsFor core sees (meaning_of_known (Value (id 5) (pos 1))) = value_stands core (id 5) _ (pos 1) (boolean_kind f) (omega (arith, ints), omega (arith, ints)) in
    let falsity : StandsFor core sees (meaning_of_known (Value (id 5) (pos 0))) = value_stands core (id 5) _ (pos 0) (boolean_kind f) (omega (arith, ints), omega (arith, ints)) in
    let greatest : StandsFor core sees (meaning_of_known (Value (id 4) (pos 2147483647))) = value_stands core (id 4) _ (pos 2147483647) (integer_kind f) (omega (arith, ints), omega (arith, ints)) in
    let some = with_known (codes "False") (Value (id 5) (pos 0)) ns in
    known_stands core sees (codes "MaxInt") (Value (id 4) (pos 2147483647)) (with_known (codes "True") (Value (id 5) (pos 1)) some) (known_stands core sees (codes "True") (Value (id 5) (pos 1)) some (known_stands core sees (codes "False") (Value (id 5) (pos 0)) ns a falsity) truth) greatest

left_out_stands : (core : Core) (sees : Sees) (ns : List Named) → 19 ≤ length core.types → AllStand core sees ns → AllStand core sees (with_left_out ns)
left_out_stands core sees ns le a =
    let f = with_table floating_names ns in
    let i = with_table integer_names f in
    let n = with_table native_names i in
    let z = with_table sized_names n in
    let h = with_table short_names z in
    let s = with_table string_names h in
    let c = with_table character_names s in
    table_stands core sees rest_names (with_table pointer_names c) le refl (table_stands core sees pointer_names c le refl (table_stands core sees character_names s le refl
    (table_stands core sees string_names h le refl (table_stands core sees short_names z le refl (table_stands core sees sized_names n le refl (table_stands core sees native_names i le refl
    (table_stands core sees integer_names f le refl (table_stands core sees floating_names ns le refl a))))))))

system_stands : (core : Core) (sees : Sees) → 19 ≤ length core.types → IsFounded core → AllStand core sees system_names
system_stands core sees le f =
    let t = with_table type_names system_unit in
    let c = with_table class_names t in
    let v = with_table value_names c in
    let w = with_table text_names v in
    let s = with_table statement_names w in
    left_out_stands core sees (with_table other_names (with_table function_names s)) le (table_stands core sees other_names (with_table function_names s) le refl (table_stands core sees function_names s le refl (table_stands core sees statement_names w le refl (table_stands core sees text_names v le refl (values_stand core sees c f
    (table_stands core sees class_names t le refl (table_stands core sees type_names system_unit le refl (All-cons (λ n. StandsFor core sees n.meaning) _ [] tt (All-nil (λ n. StandsFor core sees n.meaning))))))))))

system_is : (ts : List CoreType) (core : Core) → (us : List CoreType) × (es : List Extent) × (system.with_types ts core ≡ wide core us es)
system_is [] core = ([], [], ap₂ (λ a b. record core { types = a; extents = b }) (sym (append-nil core.types)) (sym (append-nil core.extents)))
system_is (t ∷ ts) core =
    let a = entered_is core t in
    let b = system_is ts (entered core t) in
    (t ∷ a.0 ++ b.0, a.1 ++ b.1, b.2 ∙ ap (λ c. wide c b.0 b.1) a.2 ∙ ap₂ (λ x y. record core { types = x; extents = y }) (append_assoc core.types (t ∷ a.0) b.0) (append_assoc core.extents a.1 b.1))

-- before any interface part is declared
abbrev pub blank_around : List (List ℕ) → Around
blank_around order = record { exports = replicate (length order) None; apart = []; start = 0 }

abbrev system_here : List CoreType → List Extent → Here
system_here us es = record beginning { core = wide (with_classes empty) us es }

begun : (order : List (List ℕ)) (us : List CoreType) (es : List Extent) → IsTabled (wide (with_classes empty) us es) → Settled (outside (blank_around order) None) (with_units order (system_here us es))
begun order us es t = record {
  tables = tables;
  people = people;
  unit = (let l = many_rows in omega (arith, l));
  rows = (let l = many_rows in let m = length-map order blank_unit in let n = length-replicate {A = Option Export} (length order) None in omega (arith, l, m, n));
  units = All-append (IsDone core 0 None []) (map blank_unit order) (blank_unit [] ∷ []) (blanks_done order) (All-cons (IsDone core 0 None []) (blank_unit []) [] (blank_done []) (All-nil (IsDone core 0 None [])));
  exports = none_shown (length order);
  start = omega arith;
  names = system_stands core (scope [] None core) many (founded_in tables people);
  first = omega arith;
  counts = λ le. omega arith;
  routine = refl;
  inside = tt;
  current = tt;
  awaits = refl;
  accounted = λ n lt. absurd (omega (arith, lt));
  bodies = All-nil (λ b. IsTypedBody [] core b × (IsOpen None [] b.0.0 → ⊥));
  values = All-nil (IsTypedFirst core);
}
  where
    core : Core
    core = (with_units order (system_here us es)).core

    tables : IsTabled core
    tables = tabled_beside _ _ _ _ _ t

    people : IsPeopled core
    people = record { parameters = All-nil (λ p. Row core.types p.of.0); variables = All-nil (IsBareVariable core); routines = All-nil (IsBareRoutine core); globals = All-nil (λ v. Row core.variables v.0); room = omega arith }

    many : 19 ≤ length core.types
    many = let l = length-take 19 core.types in let e = ap length t.system.types in omega (arith, l, e)

    many_rows : length core.units ≡ length (map blank_unit order) + 1
    many_rows = length-append (map blank_unit order) (blank_unit [] ∷ [])

    blank_done : (n : List ℕ) → IsDone core 0 None [] (blank_unit n)
    blank_done n = record { globals = omega arith; initialization = tt; finalization = tt }

    blanks_done : (ns : List (List ℕ)) → All (IsDone core 0 None []) (map blank_unit ns)
    blanks_done [] = All-nil (IsDone core 0 None [])
    blanks_done (n ∷ ns) = All-cons (IsDone core 0 None []) (blank_unit n) (map blank_unit ns) (blank_done n) (blanks_done ns)

    none_shown : (n : ℕ) → All (IsShown [] core) (replicate n None)
    none_shown zero = All-nil (IsShown [] core)
    none_shown (suc n) = All-cons (IsShown [] core) None (replicate n None) tt (none_shown n)

pub beginning_settled : (order : List (List ℕ)) → Settled (outside (blank_around order) None) (with_units order beginning)
beginning_settled order = let e = system_is system.types (with_classes empty) in subst (λ c. Settled (outside (blank_around order) None) (with_units order (record beginning { core = c }))) (sym e.2) (begun order e.0 e.1 (subst IsTabled e.2 tabled_beginning))

-- ---- declarations

declaration_settled : {around : Around} (d : Declaration) (h : Here) → Settled (outside around None) h → From (Rests around) (done (declaration_means d h))
declaration_settled {around} (constants cs) h y = from_so (constants_settled cs h y) (λ t i r. r.state)
declaration_settled {around} (types ts) h y = from_so (types_settled ts h y) (λ t i r. r.state)
declaration_settled {around} (variables vs) h y = from_so (variables_settled vs h y) (λ t i r. r.state)
declaration_settled {around} (heading m) h y = routine_settled m.heading m.directives forward h y
declaration_settled {around} (routine x ds b) h y = routine_settled x ds b h y

pub declarations_settled : {around : Around} (ds : Declarations) (h : Here) → Settled (outside around None) h → From (Rests around) (done (all_declared ds h))
declarations_settled {around} no_declarations h y = from_gives y
declarations_settled {around} (declarations d ds) h y = from_then (all_declared ds) (declaration_settled d h y) (λ t i z. declarations_settled ds i z)

-- ---- bodies that are awaited

abbrev pub NoneAwaited : List (Option Place) → Type 0
NoneAwaited ps = (n : ℕ) → IsAwaited ps n → ⊥

none_first : (ps : List (Option Place)) → NoneAwaited ps → NoneAwaited (None ∷ ps)
none_first ps h zero a = elim a [ ]
none_first ps h (suc n) a = h n a

none_last : (ps : List (Option Place)) → NoneAwaited ps → NoneAwaited (ps ++ None ∷ [])
none_last [] h zero a = elim a [ ]
none_last [] h (suc n) a = a
none_last (p ∷ ps) h zero a = h zero a
none_last (p ∷ ps) h (suc n) a = none_last ps (λ k. h (suc k)) n a

none_or_missing : (ps : List (Option Place)) → NoneAwaited ps ⊎ ((r : Refusal) × IsIn r (checked (awaited ps)).faults)
none_or_missing [] = inl (λ n a. a)
none_or_missing (Some place ∷ ps) = inr (_, front here)
none_or_missing (None ∷ ps) = one (none_or_missing ps)
  where
    one : NoneAwaited ps ⊎ ((r : Refusal) × IsIn r (checked (awaited ps)).faults) → NoneAwaited (None ∷ ps) ⊎ ((r : Refusal) × IsIn r (checked (awaited (None ∷ ps))).faults)
    one (inl h) = inl (none_first ps h)
    one (inr m) = inr (m.0, behind m.1)

pub completed_settled : {around : Around} (h : Here) → Settled (outside around None) h → From (λ t g. Settled (outside around None) g × NoneAwaited g.awaited) (done (all_completed h))
completed_settled {around} h y = one (none_or_missing h.awaited)
  where
    one : NoneAwaited h.awaited ⊎ ((r : Refusal) × IsIn r (checked (awaited h.awaited)).faults) → From (λ t g. Settled (outside around None) g × NoneAwaited g.awaited) (done (all_completed h))
    one (inl n) = settled (filled tt (y, n))
    one (inr m) = faulty m.0 m.1

-- ---- scopes of units

-- a scope begins outside of bodies, in that of a unit of this name
pub opened_settled : {around : Around} (own : Option (List ℕ)) (h : Here) → Settled (outside around None) h → Settled (outside around None) (record h { own = own; first = length h.names; count = 0 })
opened_settled {around} own h y = record {
  tables = y.tables;
  people = y.people;
  unit = y.unit;
  rows = y.rows;
  units = y.units;
  exports = y.exports;
  start = y.start;
  names = y.names;
  first = omega arith;
  counts = y.counts;
  routine = y.routine;
  inside = tt;
  current = y.current;
  awaits = y.awaits;
  accounted = y.accounted;
  bodies = y.bodies;
  values = y.values;
}

pub own_settled : {around : Around} (n : Name) (h : Here) → Settled (outside around None) h → Settled (outside around None) (with_own n h)
own_settled {around} n h y = let m = UnitName h.unit in opened_settled (Some n.text) (with_name n m h) (with_name_settled n m h y tt)

pub heading_settled : {around : Around} (x : Option ProgramHeading) (h : Here) → Settled (outside around None) h → Settled (outside around None) (with_heading x h)
heading_settled {around} None h y = opened_settled h.own h y
heading_settled {around} (Some x) h y = own_settled x.name h y

-- with the first of the names alone
pub cut_settled : {around : Around} (k first : ℕ) (h : Here) → first ≤ length (take k h.names) → Settled (outside around None) h → Settled (outside around None) (record h { names = take k h.names; first = first })
cut_settled {around} k first h le y = record {
  tables = y.tables;
  people = y.people;
  unit = y.unit;
  rows = y.rows;
  units = y.units;
  exports = y.exports;
  start = y.start;
  names = All-take (λ n. StandsFor h.core (scope around.apart None h.core) n.meaning) k h.names y.names;
  first = le;
  counts = y.counts;
  routine = y.routine;
  inside = tt;
  current = y.current;
  awaits = y.awaits;
  accounted = y.accounted;
  bodies = y.bodies;
  values = y.values;
}

-- ---- uses

-- the tables stay as they are
abbrev pub Uses : Around → Here → Unit {0} → Here → Type 0
Uses around h t g = Settled (outside around None) g × (g.core ≡ h.core)

with_used_settled : {around : Around} (e : Export) (h : Here) → IsExported around.apart h.core e → Settled (outside around None) h → Settled (outside around None) (with_used e h)
with_used_settled {around} e h x y = settled_named {count = h.count} e.names (settled_named {count = h.count} (record { name = lower e.unit; meaning = UnitName e.id } ∷ []) y (All-cons (λ n. StandsFor h.core (scope around.apart None h.core) n.meaning) _ [] tt (All-nil (λ n. StandsFor h.core (scope around.apart None h.core) n.meaning)))) x.names

export_found : (apart : List VariableId) (core : Core) (es : List (Option Export)) (n : Name) → All (IsShown apart core) es → IfSome (exports_of es n) (IsExported apart core)
export_found apart core [] n a = tt
export_found apart core (None ∷ es) n a = export_found apart core es n (All-tail (IsShown apart core) None es a)
export_found apart core (Some e ∷ es) n a = one (str_eq_ignore_ascii_case e.unit n.text) (export_found apart core es n (All-tail (IsShown apart core) (Some e) es a))
  where
    one : (b : Bool) → IfSome (exports_of es n) (IsExported apart core) → IfSome (if b then Some e else exports_of es n) (IsExported apart core)
    one true x = All-head (IsShown apart core) (Some e) es a
    one false x = x

used_settled : {around : Around} (n : Name) (h : Here) → Settled (outside around None) h → From (Uses around h) (done (used around.exports n h))
used_settled {around} n h y = one (is_system n)
  where
    by_export : (o : Option Export) → IfSome o (IsExported around.apart h.core) → From (Uses around h) (done (used_by n o h))
    by_export None x = from_breaks
    by_export (Some e) x = from_gives (with_used_settled e h x y, refl)

    one : (b : Bool) → From (Uses around h) (done (when b (gives tt h) (used_by n (exports_of around.exports n) h)))
    one true = from_gives (y, refl)
    one false = by_export (exports_of around.exports n) (export_found around.apart h.core around.exports n y.exports)

pub uses_settled : {around : Around} (ns : List Name) (h : Here) → Settled (outside around None) h → From (Uses around h) (done (uses_mean around.exports ns h))
uses_settled [] h y = from_gives (y, refl)
uses_settled {around} (n ∷ ns) h y = from_then (uses_mean around.exports ns) (used_settled n h y) (λ t i r. from_so (uses_settled ns i r.0) (λ u j q. (q.0, q.1 ∙ r.1)))

-- ---- the parts of a unit

-- behind the parts so far: their numbers stand for procedures, and those before them stay as they are
pub record Parted (around : Around) (h : Here) (a : Option RoutineId) (g : Here) : Type 0 where
  pub state : Settled (outside around None) g
  pub none : NoneAwaited h.awaited → NoneAwaited g.awaited
  pub part : IfSome a (IsDonePart g.core None g.awaited)
  pub keeps : KeepsParts h.core g.core None None h.awaited g.awaited

pub part_settled : {around : Around} (n : Name) (o : Option Statements) (h : Here) → Settled (outside around None) h → From (Parted around h) (done (part_means n o h))
part_settled n None h y = from_gives (record { state = y; none = λ z. z; part = tt; keeps = λ p lt d. (refl, d) })
part_settled {around} n (Some ss) h y =
    from_then (gives (Some (next_routine h)))
    (statements_settled (next_routine h) ss (with_routine n main_head None h) row refl (with_routine_settled (Some (length h.core.routines)) n main_head None h y (omega arith, tt) (inr refl) (inl refl) refl) (there, (λ v lt c. global v c), main_rows))
    (λ t g c. from_gives (record {
      state = c.0;
      none = λ z. subst NoneAwaited (sym c.2) (none_last h.awaited z);
      part = subst (λ core. IsDonePart core None g.awaited (next_routine h)) (sym c.1) (subst (λ ps. IsDonePart new None ps (next_routine h)) (sym c.2) (some_and (λ r. r.parameters.count ≡ 0) there refl, λ z. last_closed z));
      keeps = subst (λ core. KeepsParts h.core core None None h.awaited g.awaited) (sym c.1) (subst (λ ps. KeepsParts h.core new None None h.awaited ps) (sym c.2) (λ p lt d. (slice_get-front h.core.routines (row ∷ []) p lt, λ z. closed p lt d z)));
    }))
  where
    row : Routine
    row = routine_row h.unit n main_head no_rows

    new : Core
    new = record h.core { routines = h.core.routines ++ row ∷ [] }

    there : slice_get new.routines (length h.core.routines) ≡ Some row
    there = first_behind h.core.routines row []

    main_rows : HasRows new row
    main_rows = record { others = []; are = refl; of_block = All-nil (λ o. IsTrue (is_of_block o.0)) }

    global : (v : VariableId) → (scope around.apart None new).variable v → (scope_of around.apart new row).variable v
    global v (inl c) = inl c
    global v (inr b) = absurd b

    last_closed : IsOpen None (h.awaited ++ None ∷ []) (length h.core.routines) → ⊥
    last_closed (inl z) = absurd (cc)
    last_closed (inr a) = elim (awaited_last h.awaited None (subst (IsAwaited (h.awaited ++ None ∷ [])) (sym y.awaits) a)) [ ]

    closed : (p : ℕ) → p < length h.core.routines → (IsOpen None h.awaited p → ⊥) → IsOpen None (h.awaited ++ None ∷ []) p → ⊥
    closed p lt d (inl z) = absurd (cc)
    closed p lt d (inr a) = d (inr (awaited_less h.awaited (None ∷ []) p (let e = y.awaits in omega (arith, lt, e)) a))
