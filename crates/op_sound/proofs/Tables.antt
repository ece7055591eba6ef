-- What the tables keep besides routines and variables while a program is declared.
use Rattle.std.proofs.Common.{◌≡◌, ℕ, zero, suc, ◌+◌, ◌<◌, ◌≤◌, ℤ, ◌≤ℤ◌, nat_le, true, List, [], ◌∷◌, ◌++◌, length, map, slice_get, take, drop, IfSome, IsSomeAnd, IsTrue, Option, Some, None, refl, sym, ap, subst, ◌∙◌, arith, length-take}
use Rattle.std.proofs.lemmas.Bool.{leb-true}
use Rattle.std.proofs.lemmas.Int.{ints}
use Rattle.std.proofs.lemmas.List.{take-append-drop, take-append-le}
use Rattle.std.proofs.lemmas.List.Elements.{All-cons, All-contains, All-map, All-nil}
use Rattle.std.proofs.lemmas.Option.{slice_get_within}
use Rattle.std.specs.List.{All, Contains}
use Rattle.std.specs.Option.{option_and_then, option_map}
use Rattle.op_check_unit.specs.System.{empty, system_core, with_classes}
use Rattle.op_sound.specs.Tables.{IsBelow, IsPlain, IsSystem, IsTabled, known_types}
use Rattle.op_check_unit.specs.Types.{whole_type}
use Rattle.op_core.proofs.Agreeing.{some_is}
use Rattle.op_core.proofs.Growing.{EachFrom, each_behind, front_itself, front_rows, grows_tables}
use Rattle.op_typed.proofs.Lasting.{fact_lasts}
use Rattle.op_core.specs.Growing.{Grows}
use Rattle.op_core.specs.Members.{AsksFor, Kind, There, methods_of}
use Rattle.op_core.specs.Rows.{rows}
use Rattle.op_core.specs.Sizes.{IsBehind, KeepsExtents, extent_by, extent_of, in_order, range_of, type_at}
use Rattle.op_core.specs.Sound.{top, below as under, Each, HasSet, Holds, IsClass, IsFounded, IsInterface, IsTypeRow, ancestor_of, is_whole, size_of, set_behind, type_row}
use Rattle.op_core.specs.Types.{id, predefined}
use Rattle.op_core.specs.Typing.{Within, element_of}
use Rattle.op_core.specs.declared.ids.InterfaceId.{InterfaceId}
use Rattle.op_core.specs.declared.ids.RoutineId.{RoutineId}
use Rattle.op_core.specs.declared.ids.TypeId.{TypeId}
use Rattle.op_core.specs.declared.ids.VariableId.{VariableId}
use Rattle.op_core.specs.declared.program.Core.{Core}
use Rattle.op_core.specs.declared.program.Unit.{Unit as Unit'}
use Rattle.op_core.specs.declared.routine.Parameter.{Parameter}
use Rattle.op_core.specs.declared.routine.Routine.{Routine}
use Rattle.op_core.specs.declared.routine.Variable.{Variable}
use Rattle.op_core.specs.declared.types.CoreType.{CoreType}
use Rattle.op_core.specs.declared.types.CoreType.TheVariants.{Enumeration, Subrange, Set, Record, Array, DynamicArray, OpenArray, Class, Interface}
use Rattle.op_core.specs.declared.types.Field.{Field}
use Rattle.op_typed.proofs.Entered.{each_entered, each_of_sets, entered_grows, entered_sets, entered_sizes, entered_types, entered_word, is_behind}
use Rattle.op_types.proofs.Extents.{entered_keeps}
use Rattle.op_typed.proofs.TypeFacts.{InKind, Rooted, boolean_kind, char_kind, in_kind, integer_kind, rooted}
use Rattle.op_types.specs.Entering.{entered, rows_of, sets_of, with_type, with_types}
use Rattle.op_types.specs.Sorts.{kind_of}
use Rattle.op_types.specs.declared.sort.OrdinalKind.{OrdinalKind}
use Rattle.op_types.specs.declared.sort.OrdinalKind.TheVariants as kind

-- ---- types that are entered

pub plain_size : (core : Core) (t : CoreType) → IsPlain t → KeepsExtents core → size_of (entered core t) (id (length core.types)) ≤ 1048576
plain_size core (Enumeration count) p k = entered_word core (Enumeration count) k tt refl
plain_size core (Subrange base low high) p k = entered_word core (Subrange base low high) k tt refl
plain_size core (Set base) p k = entered_word core (Set base) k tt refl
plain_size core (DynamicArray element) p k = entered_word core (DynamicArray element) k tt refl
plain_size core t p k = absurd p

long_enough : {A : Type 0} (n : ℕ) (xs ys : List A) → take n xs ≡ ys → length ys ≡ n → n ≤ length xs
long_enough n xs ys e l = let k = length-take n xs in let m = ap length e in omega (arith, k, m, l)

with_types_properties : (core : Core) (ts : List CoreType) → (with_types core ts).properties ≡ core.properties
with_types_properties core [] = refl
with_types_properties core (t ∷ ts) = with_types_properties (with_type core t) ts

entered_properties : (core : Core) (t : CoreType) → (entered core t).properties ≡ core.properties
unfolding entered
entered_properties core t = with_types_properties core (t ∷ rows_of (length core.types) (sets_of t))

-- what System has stays
system_grows : {old new : Core} → Grows old new → new.properties ≡ old.properties → IsSystem old → IsSystem new
system_grows {old} g p s = record {
  types = ap (take 19) g.types.is ∙ take-append-le 19 old.types g.types.more (long_enough 19 old.types known_types s.types refl) ∙ s.types;
  classes = g.classes ∙ s.classes;
  interfaces = g.interfaces ∙ s.interfaces;
  listed = g.listed ∙ s.listed;
  methods = g.methods ∙ s.methods;
  properties = p ∙ s.properties;
  exceptions = g.exceptions ∙ s.exceptions;
}

pub tabled_row : {core : Core} (t : CoreType) → IsTabled core → IsTypeRow core (length core.types) t → IsBelow (length core.types) t → size_of (entered core t) (id (length core.types)) ≤ 1048576 → IsTabled (entered core t)
tabled_row {core} t s h b l = record {
  system = system_grows (entered_grows core t) (entered_properties core t) s.system;
  types = entered_types core t s.types h;
  below = each_entered core t IsBelow s.below (b, each_of_sets IsBelow (λ n base. tt) (λ n base low high. tt) (length core.types + 1) (length core.types) t);
  sets = entered_sets core t s.sets;
  extents = entered_keeps core t s.extents (is_behind core (length core.types) t h);
  sizes = entered_sizes core t s.extents h l s.sizes;
}

-- ---- fields, and what has nothing to do with types

row_beside : (core : Core) (ps : List Parameter) (vs : List Variable) (gs : List VariableId) (rs : List Routine) (us : List Unit') (n : ℕ) (t : CoreType) → IsTypeRow core n t → IsTypeRow (record core { parameters = ps; variables = vs; globals = gs; routines = rs; units = us }) n t
row_beside core ps vs gs rs us n (Enumeration count) h = h
row_beside core ps vs gs rs us n t h = h

set_beside : (core : Core) (ps : List Parameter) (vs : List Variable) (gs : List VariableId) (rs : List Routine) (us : List Unit') (n : ℕ) (t : CoreType) → HasSet core n t → HasSet (record core { parameters = ps; variables = vs; globals = gs; routines = rs; units = us }) n t
set_beside core ps vs gs rs us n (Enumeration count) h = h
set_beside core ps vs gs rs us n t h = h

extent_beside : (core : Core) (ps : List Parameter) (vs : List Variable) (gs : List VariableId) (rs : List Routine) (us : List Unit') (t : CoreType) → extent_by (extent_of core) core (Some t) ≡ extent_by (extent_of core) (record core { parameters = ps; variables = vs; globals = gs; routines = rs; units = us }) (Some t)
extent_beside core ps vs gs rs us (Enumeration count) = refl
extent_beside core ps vs gs rs us t = refl

pub tabled_beside : {core : Core} (ps : List Parameter) (vs : List Variable) (gs : List VariableId) (rs : List Routine) (us : List Unit') → IsTabled core → IsTabled (record core { parameters = ps; variables = vs; globals = gs; routines = rs; units = us })
tabled_beside {core} ps vs gs rs us s = record {
  system = record { types = s.system.types; classes = s.system.classes; interfaces = s.system.interfaces; listed = s.system.listed; methods = s.system.methods; properties = s.system.properties; exceptions = s.system.exceptions };
  types = λ n t e. row_beside core ps vs gs rs us n t (s.types n t e);
  below = s.below;
  sets = λ n t e. set_beside core ps vs gs rs us n t (s.sets n t e);
  extents = record { count = s.extents.count; behind = s.extents.behind; each = λ n t e. s.extents.each n t e ∙ ap Some (extent_beside core ps vs gs rs us t) };
  sizes = s.sizes;
}

fields_grow : (core : Core) (fs : List Field) → Grows core (record core { fields = core.fields ++ fs })
fields_grow core fs = grows_tables (front_itself core.types) (front_itself core.extents) (record { more = fs; is = refl }) refl refl refl refl refl refl refl refl

extent_fields : (core : Core) (fs : List Field) (n : ℕ) (t : CoreType) → IsBehind core.fields core.interfaces n t → extent_by (extent_of core) core (Some t) ≡ extent_by (extent_of core) (record core { fields = core.fields ++ fs }) (Some t)
extent_fields core fs n (Record run) h = ap (in_order (extent_of core)) (sym (front_rows run (record { more = fs; is = refl }) h.0))
extent_fields core fs n t h = refl

pub tabled_fields : {core : Core} (fs : List Field) → IsTabled core → IsTabled (record core { fields = core.fields ++ fs })
tabled_fields {core} fs s = let g = fields_grow core fs in record {
  system = system_grows g refl s.system;
  types = λ n t e. fact_lasts g (type_row n t) (s.types n t e);
  below = s.below;
  sets = λ n t e. fact_lasts g (set_behind n t) (s.sets n t e);
  extents = record {
    count = s.extents.count;
    behind = λ n t e. is_behind (record core { fields = core.fields ++ fs }) n t (fact_lasts g (type_row n t) (s.types n t e));
    each = λ n t e. s.extents.each n t e ∙ ap Some (extent_fields core fs n t (s.extents.behind n t e));
  };
  sizes = s.sizes;
}

-- ---- what is sound

element_below : {core : Core} → IsTabled core → (a b : TypeId) (t : Option CoreType) → type_at core a ≡ t → element_of t ≡ Some b → b.0 < a.0
element_below s a b (Some (Array at element)) k e = subst (λ x. x.0 < a.0) (some_is e) (s.types a.0 (Array at element) k).1
element_below s a b (Some (DynamicArray element)) k e = subst (λ x. x.0 < a.0) (some_is e) (s.below a.0 (DynamicArray element) k)
element_below s a b (Some (OpenArray element)) k e = subst (λ x. x.0 < a.0) (some_is e) (s.below a.0 (OpenArray element) k)
element_below s a b t k e = absurd (cc)

holds_below : {core : Core} {a b : TypeId} → IsTabled core → Holds core a b → b.0 < a.0
holds_below {core} s (Holds.of_element {a = a} {b = b} e) = element_below s a b (type_at core a) refl e
holds_below {core} s (Holds.of_field {a = a} {b = b} {fields = fields} k c) =
    All-contains (λ x. x.0 < a.0) (map (λ f. f.of) (rows core.fields fields)) b (All-map (λ x. x.0 < a.0) (λ f. f.of) (rows core.fields fields) (s.types a.0 (Record fields) k).1) c
holds_below s (Holds.through h k) = let l = holds_below s h in let m = holds_below s k in omega (arith, l, m)

tabled_finite : {core : Core} → IsTabled core → (a : TypeId) → Holds core a a → ⊥
tabled_finite s a h = let l = holds_below s h in omega (arith, l)

-- the first types are those of System
known : {core : Core} → IsSystem core → core.types ≡ known_types ++ drop 19 core.types
known {core} s = sym (take-append-drop 19 core.types) ∙ ap (λ ts. ts ++ drop 19 core.types) s.types

pub tabled_predefined : {core : Core} → IsTabled core → take 16 core.types ≡ predefined
tabled_predefined s = ap (take 16) (known s.system)

known_kind : {core : Core} → IsSystem core → (n : ℕ) (t : CoreType) → slice_get (known_types ++ drop 19 core.types) n ≡ Some t → slice_get core.types n ≡ Some t
known_kind s n t e = ap (λ ts. slice_get ts n) (known s) ∙ e

no_ancestor : {core : Core} → IsSystem core → ancestor_of core 0 ≡ None
no_ancestor s = ap (λ cs. option_and_then (λ x. option_map (λ a. a.0) x.ancestor) (slice_get cs 0)) s.classes

none_asked : {core : Core} → IsSystem core → {i : InterfaceId} {r : RoutineId} → AsksFor core i r → ⊥
none_asked {core} s {r = r} h = one h.owner.0 (subst (λ faces. There faces h.owner.0 (λ x. Contains (methods_of core x.methods) r)) s.interfaces h.declares)
  where
    one : (n : ℕ) → There (with_classes empty).interfaces n (λ x. Contains (methods_of core x.methods) r) → ⊥
    one zero c = omega (arith, c.1)
    one (suc n) c = c

object_is : {core : Core} → IsSystem core → 0 < length core.units → EachFrom (IsClass core) 0 (with_classes empty).classes
object_is {core} s u = (
  record {
    of = known_kind s 16 (Class (record { 0 = 0 })) refl;
    unit = u;
    complete = refl;
    root = λ e. refl;
    ancestors = (0, top (no_ancestor s), omega arith);
    runs = (omega arith, omega arith, omega arith, omega arith);
    fields = All-nil _;
    properties = All-nil _;
    methods = All-nil _;
    interfaces = All-nil _;
    implements = λ i c asked a. absurd (none_asked s a);
  },
  (
    record {
      of = known_kind s 17 (Class (record { 0 = 1 })) refl;
      unit = u;
      complete = refl;
      root = λ e. absurd (cc);
      ancestors = (1, under (ap (λ cs. option_and_then (λ x. option_map (λ a. a.0) x.ancestor) (slice_get cs 1)) s.classes) (top (no_ancestor s)), omega arith);
      runs = (let l = ap length s.listed in omega (arith, l), omega arith, omega arith, omega arith);
      fields = All-nil _;
      properties = All-nil _;
      methods = All-nil _;
      interfaces = subst (λ listed. All (λ i. i.0 < length core.interfaces) (take 1 listed)) (sym s.listed) (All-cons (λ i. i.0 < length core.interfaces) (record { 0 = 0 }) [] (let l = ap length s.interfaces in omega (arith, l)) (All-nil _));
      implements = λ i c asked a. absurd (none_asked s a);
    },
    tt,
  ),
)

tabled_classes : {core : Core} → IsTabled core → 0 < length core.units → Each core.classes (IsClass core)
tabled_classes {core} s u = subst (λ cs. Each cs (IsClass core)) (sym s.system.classes) (each_behind (IsClass core) [] (with_classes empty).classes (λ n x e. absurd (cc)) (object_is s.system u))

tabled_interfaces : {core : Core} → IsTabled core → 0 < length core.units → Each core.interfaces (IsInterface core)
tabled_interfaces {core} s u =
    subst (λ faces. Each faces (IsInterface core)) (sym s.system.interfaces)
    (each_behind (IsInterface core) [] (with_classes empty).interfaces (λ n x e. absurd (cc)) (
      record {
        of = known_kind s.system 18 (Interface (record { 0 = 0 })) refl;
        unit = u;
        complete = refl;
        ancestors = (0, top (ap (λ faces. option_and_then (λ x. option_map (λ a. a.0) x.ancestor) (slice_get faces 0)) s.system.interfaces), omega arith);
        methods = (omega arith, All-nil _);
      },
      tt,
    ))

tabled_descriptions : {core : Core} → IsTabled core → length core.classes + length core.interfaces ≤ 4096
tabled_descriptions s = let c = ap length s.system.classes in let i = ap length s.system.interfaces in omega (arith, c, i)

-- the parts of a sound program that tell of tables; its exception classes are none, by `if_none`
pub record SoundTables (core : Core) : Type 0 where
  pub types : Each core.types (IsTypeRow core)
  pub finite : (a : TypeId) → Holds core a a → ⊥
  pub predefined : take 16 core.types ≡ predefined
  pub sets : Each core.types (HasSet core)
  pub extents : KeepsExtents core
  pub sizes : Each core.types (λ n t. size_of core (id n) ≤ 1048576)
  pub classes : Each core.classes (IsClass core)
  pub interfaces : Each core.interfaces (IsInterface core)
  pub descriptions : length core.classes + length core.interfaces ≤ 4096
  pub exceptions : core.exceptions ≡ None

pub tabled_sound : {core : Core} → IsTabled core → 0 < length core.units → SoundTables core
tabled_sound s u = record {
  types = s.types;
  finite = tabled_finite s;
  predefined = tabled_predefined s;
  sets = s.sets;
  extents = s.extents;
  sizes = s.sizes;
  classes = tabled_classes s u;
  interfaces = tabled_interfaces s u;
  descriptions = tabled_descriptions s;
  exceptions = s.system.exceptions;
}

pub if_none : {A : Type 0} (P : A → Type 0) {o : Option A} → o ≡ None → IfSome o P
if_none P e = subst (λ o. IfSome o P) (sym e) tt

-- ---- subranges

whole_row : {core : Core} (k : OrdinalKind) → IsFounded core → Rooted core k → (a b : ℤ) → InKind core k a → InKind core k b → (t : CoreType) × Kind core (whole_type k) t × IsSomeAnd (range_of (Some t)) (λ r. Within r a × Within r b) × IsTrue (is_whole (Some t))
whole_row kind.Integer f r a b h l = (_, integer_kind f, (h, l), refl)
whole_row kind.Boolean f r a b h l = (_, boolean_kind f, (h, l), refl)
whole_row kind.Char f r a b h l = (_, char_kind f, (h, l), refl)
whole_row {core} (kind.Enumeration of) f r a b h l = (_, r.1, subst (λ t. IsSomeAnd (range_of t) (λ r. Within r a × Within r b)) r.1 (both_within (range_of (type_at core of)) h l), refl)
  where
    both_within : (o : Option (ℤ × ℤ)) → IsSomeAnd o (λ r. Within r a) → IsSomeAnd o (λ r. Within r b) → IsSomeAnd o (λ r. Within r a × Within r b)
    both_within None h l = h
    both_within (Some r) h l = (h, l)

some_there : (o : Option (ℤ × ℤ)) (P : ℤ × ℤ → Type 0) → IsSomeAnd o P → IsSomeAnd o (λ r. Unit {0})
some_there None P h = h
some_there (Some r) P h = tt

pub subrange_row : {core : Core} (of of' : TypeId) (k : OrdinalKind) (a b : ℤ) → IsFounded core → kind_of core of ≡ Some k → kind_of core of' ≡ Some k → IsSomeAnd (range_of (type_at core of)) (λ r. Within r a) → IsSomeAnd (range_of (type_at core of')) (λ r. Within r b) → a ≤ℤ b → IsTypeRow core (length core.types) (Subrange (whole_type k) a b)
subrange_row {core} of of' k a b f e e' h h' l =
    let w = whole_row k f (rooted core of k e) a b (in_kind of a k f e h) (in_kind of' b k f e' h') in
    let r = subst (λ t. IsSomeAnd (range_of t) (λ r. Within r a × Within r b)) (sym w.1) w.2 in
    ((slice_get_within core.types (whole_type k).0 w.0 w.1, some_there (range_of (type_at core (whole_type k))) _ r), r, l, subst (λ t. IsTrue (is_whole t)) (sym w.1) w.3)

-- ---- where a program begins

each_known : (P : ℕ → CoreType → Type 0) → EachFrom P 0 known_types → Each known_types P
each_known P h = each_behind P [] known_types (λ n t e. absurd (cc)) h

pub tabled_beginning : IsTabled system_core
unfolding entered
tabled_beginning = record {
  system = record { types = refl; classes = refl; interfaces = refl; listed = refl; methods = refl; properties = refl; exceptions = refl };
  types = each_known (IsTypeRow system_core) (tt, (tt, (tt, (tt, (tt, (tt, (tt, (tt, (tt, (tt, (tt, (((omega arith, tt), ((omega (arith, ints), omega (arith, ints)), (omega (arith, ints), omega (arith, ints))), omega (arith, ints), refl), (((omega arith, tt), (omega (arith, ints), omega (arith, ints))), (((omega arith, tt), ((omega (arith, ints), omega (arith, ints)), (omega (arith, ints), omega (arith, ints))), omega (arith, ints), refl), (((omega arith, tt), (omega (arith, ints), omega (arith, ints))), (((omega arith, tt), (omega (arith, ints), omega (arith, ints))), (refl, (refl, (refl, tt)))))))))))))))))));
  below = each_known IsBelow (tt, (tt, (tt, (tt, (tt, (tt, (tt, (tt, (tt, (tt, (tt, (tt, (tt, (tt, (tt, (tt, (tt, (tt, (tt, tt)))))))))))))))))));
  sets = each_known (HasSet system_core) (tt, (tt, (tt, (tt, (tt, (tt, (tt, (tt, (tt, (tt, (tt, (λ l h. refl, (tt, (λ l h. refl, (tt, (tt, (tt, (tt, (tt, tt)))))))))))))))))));
  extents = record {
    count = refl;
    behind = each_known (IsBehind [] (with_classes empty).interfaces) (tt, (tt, (tt, (tt, (tt, (tt, (tt, (tt, (tt, (tt, (tt, (tt, (tt, (tt, (tt, (tt, (tt, (tt, (omega arith, tt)))))))))))))))))));
    each = each_known (λ n t. slice_get system_core.extents n ≡ Some (extent_by (extent_of system_core) system_core (Some t))) (refl, (refl, (refl, (refl, (refl, (refl, (refl, (refl, (refl, (refl, (refl, (refl, (refl, (refl, (refl, (refl, (refl, (refl, (refl, tt)))))))))))))))))));
  };
  sizes = λ n t e. leb-true (size_of system_core (id n)) 1048576 (each_known (λ n t. nat_le (size_of system_core (id n)) 1048576 ≡ true) (refl, (refl, (refl, (refl, (refl, (refl, (refl, (refl, (refl, (refl, (refl, (refl, (refl, (refl, (refl, (refl, (refl, (refl, (refl, tt))))))))))))))))))) n t e);
}
