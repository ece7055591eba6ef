-- Types that are written denote one or break a rule, and leave a settled state.
use Rattle.std.proofs.Common.{◌≡◌, inl, inr, ◌⊎◌, ℕ, suc, ◌+◌, ◌<◌, ◌≤◌, ℤ, ◌≤ℤ◌, pos, int_le, max, Bool, true, false, ◌||◌, not, List, [], ◌∷◌, ◌++◌, All, IfSome, IsSomeAnd, append-nil, append_assoc, is_some, length, length-append, take, Option, Some, None, refl, ap, ap₂, sym, subst, ◌∙◌, arith, leb-false, leb-true, ltb-true, nat_le, slice_get, nat_lt, if◌then◌else◌}
use Rattle.std.proofs.lemmas.Bool.{and_parts}
use Rattle.std.proofs.lemmas.List.{drop-append-le, drop_all, take_all}
use Rattle.std.proofs.lemmas.Int.{ints}
use Rattle.std.proofs.lemmas.List.Elements.{All-cons, All-nil, All-push, All-weaker}
use Rattle.std.proofs.lemmas.Option.{slice_get_within}
use Rattle.op_base.specs.declared.place.Place.{Place}
use Rattle.op_base.specs.declared.rule.Refusal.{Refusal}
use Rattle.op_typed.proofs.Leaves.{whole_unshown}
use Rattle.op_check_expr.specs.Naming.{feature_of_type}
use Rattle.op_check_stmt.specs.LabelLaw.{at_most}
use Rattle.op_sound.proofs.Tables.{plain_size, subrange_row, tabled_fields, tabled_row}
use Rattle.op_sound.proofs.Constants.{constant_whole}
use Rattle.op_sound.proofs.Growth.{some_is}
use Rattle.op_sound.proofs.Steps.{Moves, filled_so, founded, from_after, from_behind, from_checked, from_gives, from_so, from_then, from_where, later_itself, lead_behind, lead_followed, leads, leads_on, same_variables, settled_named, settled_typed, wider}
use Rattle.op_sound.specs.Complete.{From, Later, Leads, Settled, Stage, faulty, scope, settled}
use Rattle.op_check_unit.specs.Denoting.{denoted, field_lists, indices}
use Rattle.op_check_unit.specs.Naming.{declared, entered_name, has_room, is_ahead, is_declared, is_name, most_names, own_type, qualified, told_by, type_alone, type_meant, type_named, type_of_unit, with_declared, with_name}
use Rattle.op_check_unit.specs.Records.{is_seen, no_rows, record_of, some_fields, with_field}
use Rattle.op_check_unit.specs.Steps.{Given, Here}
use Rattle.op_sound.specs.Tables.{IsBelow, IsPlain, IsTabled}
use Rattle.op_check_unit.specs.Types.{array_of, arrays, bounds, enumerated, enumeration_of, in_core, index_over, is_kind, is_small, is_within_set, lower_of, most_bytes, number_of_next, one_array, row, set_over, sized_row, start_of_denoter, subrange_of, value_of, values}
use Rattle.op_check_unit.specs.declared.record.FieldRows.{FieldRows}
use Rattle.op_core.proofs.Growing.{front_itself, front_row, front_there}
use Rattle.op_core.specs.Faults.{IsIn, behind, front, here, none}
use Rattle.op_core.specs.Growing.{IsFrontOf}
use Rattle.op_core.specs.Members.{There}
use Rattle.op_core.specs.Relations.{Filled, Whole, filled}
use Rattle.op_core.specs.Rows.{rows}
use Rattle.op_core.specs.Sizes.{range_of, type_at}
use Rattle.op_core.specs.Sound.{Fit, IsTypeRow, Row, size_of}
use Rattle.op_core.specs.Types.{id}
use Rattle.op_core.specs.Typing.{Fits, IsOrdinal, Sees, Within}
use Rattle.op_core.specs.declared.constant.Const.TheVariants.{Ordinal}
use Rattle.op_core.specs.declared.ids.Run.{Run}
use Rattle.op_core.specs.declared.ids.TypeId.{TypeId}
use Rattle.op_core.specs.declared.program.Core.{Core}
use Rattle.op_core.specs.declared.types.CoreType.{CoreType}
use Rattle.op_core.specs.declared.types.CoreType.TheVariants.{Array, Enumeration, Record}
use Rattle.op_core.specs.declared.types.Extent.{Extent}
use Rattle.op_core.specs.declared.types.Field.{Field}
use Rattle.op_judgement.proofs.Completing.{whole_behind, whole_entered, whole_gives, whole_if, whole_rule, whole_tested, whole_two, whole_with}
use Rattle.op_tree.specs.Denoter.{Denoter, named, string, subrange, enumeration, set, array, record_, Denoters, no_denoters, denoters, FieldLists, no_fields, fields}
use Rattle.op_judgement.specs.Judgement.{checked, fault, fine, refused, with_part}
use Rattle.op_judgement.specs.declared.rules.LanguageRule.TheVariants.{DeclaredTwice, EmptyRange, NoSetElement, NotAssignable, NotOrdinal, TooManyNames, TypeTooLarge, WrongKindOfName}
use Rattle.op_judgement.specs.Steps.{by, done, followed, gives, judged, next}
use Rattle.op_tree.specs.Expression.{Expression}
use Rattle.op_tree.specs.declared.position.Name.{Name}
use Rattle.op_tree.specs.declared.position.QualifiedName.{QualifiedName}
use Rattle.op_typed.proofs.Constants.{stands_if}
use Rattle.op_typed.proofs.Fitting.{number_within}
use Rattle.op_typed.proofs.TypeFacts.{same_kinds}
use Rattle.op_types.specs.ConstantParts.{joined_name, start_of}
use Rattle.op_types.specs.Entering.{entered, rows_of, sets_of, with_type, with_types}
use Rattle.op_types.specs.Folding.{pair}
use Rattle.op_types.specs.Names.{Named, lower, meaning_of}
use Rattle.op_types.specs.Sorts.{kind_of}
use Rattle.op_typed.specs.Standing.{AllStand, IsSoundConstant, StandsFor}
use Rattle.op_types.specs.Values.{number_of}
use Rattle.op_types.specs.declared.constant.Constant.{Constant}
use Rattle.op_types.specs.declared.sort.OrdinalKind.{OrdinalKind}
use Rattle.op_types.specs.declared.visible.BuiltIn.TheVariants.{LeftOut}
use Rattle.op_types.specs.declared.visible.Meaning.{Meaning}
use Rattle.op_types.specs.declared.visible.Meaning.TheVariants as meaning

abbrev pub IsType : TypeId → Core → Type 0
IsType of core = Row core.types of.0

-- ---- types that are named

meant_whole : (core : Core) (sees : Sees) (place : Place) (m : Option Meaning) → IfSome m (StandsFor core sees) → Whole (λ of. IsType of core) (checked (type_meant core place (told_by m)))
meant_whole core sees place None u = whole_rule
meant_whole core sees place (Some meaning.Spoiled) u = absurd u
meant_whole core sees place (Some (meaning.TypeName of)) u = whole_unshown (fine of) place (feature_of_type (type_at core of)) (λ _. whole_gives u)
meant_whole core sees place (Some (meaning.BuiltIn (LeftOut feature))) u = whole_rule
meant_whole core sees place (Some (meaning.BuiltIn b)) u = whole_rule
meant_whole core sees place (Some m) u = whole_rule

pub if_some : {A : Type 0} {P : A → Type 0} (o : Option A) → ((a : A) → o ≡ Some a → P a) → IfSome o P
if_some None k = tt
if_some (Some a) k = k a refl

unit_whole : (core : Core) (sees : Sees) (names : List Named) → AllStand core sees names → (q n : Name) (m : Option Meaning) → IfSome m (StandsFor core sees) → Whole (λ of. IsType of core) (checked (type_of_unit core names q n (told_by m)))
unit_whole core sees names u q n None v = whole_rule
unit_whole core sees names u q n (Some meaning.Spoiled) v = absurd v
unit_whole core sees names u q n (Some (meaning.TypeName of)) v = whole_unshown (refused WrongKindOfName q.position.place) q.position.place (feature_of_type (type_at core of)) (λ _. whole_rule)
unit_whole core sees names u q n (Some (meaning.Unit id)) v = meant_whole core sees n.position.place (meaning_of names (joined_name q.text n.text)) (stands_if core sees names u (joined_name q.text n.text))
unit_whole core sees names u q n (Some (meaning.BuiltIn (LeftOut feature))) v = whole_rule
unit_whole core sees names u q n (Some (meaning.BuiltIn b)) v = whole_rule
unit_whole core sees names u q n (Some m) v = whole_rule

own_whole : (core : Core) (own : Option Name) (inside : Bool) (place : Place) → Whole (λ of. IsType of core) (checked (own_type own inside place))
own_whole core own inside place = whole_if inside whole_rule whole_rule

alone_whole : (core : Core) (sees : Sees) (names : List Named) → AllStand core sees names → (own : Option Name) (inside : Bool) (n : Name) → Whole (λ of. IsType of core) (checked (type_alone core names own inside n))
alone_whole core sees names u own inside n = whole_if (is_name own n) (own_whole core own inside n.position.place) (meant_whole core sees n.position.place (meaning_of names (lower n.text)) (stands_if core sees names u (lower n.text)))

pub type_named_whole : (core : Core) (sees : Sees) (names : List Named) → AllStand core sees names → (own : Option Name) (inside : Bool) (q : QualifiedName) → Whole (λ of. IsType of core) (checked (type_named core names own inside q))
type_named_whole core sees names u own inside q = named_by_whole q.name q.unit
  where
    named_by_whole : (n : Name) (o : Option Name) → Whole (λ of. IsType of core) (checked (type_named core names own inside (record { unit = o; name = n })))
    named_by_whole n None = alone_whole core sees names u own inside n
    named_by_whole n (Some x) = unit_whole core sees names u x n (meaning_of names (lower x.text)) (stands_if core sees names u (lower x.text))

-- ---- names that are declared

pub entered_from : {R : Unit {0} → Here → Type 0} (taken : Bool) (more : ℕ) (n : Name) (m : Meaning) (h : Here) → R tt (with_declared n m h) → From R (done (entered_name taken more n m h))
entered_from taken more n m h r = from_where (not taken) DeclaredTwice n.position.place h (λ e. from_where (has_room more h) TooManyNames n.position.place h (λ f. from_gives r))

pub with_name_settled : {s : Stage} (n : Name) (m : Meaning) (h : Here) → Settled s h → StandsFor h.core (scope s.around.apart s.inside h.core) m → Settled s (with_name n m h)
with_name_settled {s} n m h x t = settled_named (record { name = lower n.text; meaning = m } ∷ []) x (All-cons (λ n. StandsFor h.core (scope s.around.apart s.inside h.core) n.meaning) (record { name = lower n.text; meaning = m }) [] t (All-nil (λ n. StandsFor h.core (scope s.around.apart s.inside h.core) n.meaning)))

qualified_settled : {s : Stage} (own : Option (List ℕ)) (n : Name) (m : Meaning) (h : Here) → Settled s h → StandsFor h.core (scope s.around.apart s.inside h.core) m → Settled s (qualified own n m h)
qualified_settled None n m h x t = x
qualified_settled {s} (Some unit) n m h x t = settled_named (record { name = joined_name unit n.text; meaning = m } ∷ []) x (All-cons (λ n. StandsFor h.core (scope s.around.apart s.inside h.core) n.meaning) (record { name = joined_name unit n.text; meaning = m }) [] t (All-nil (λ n. StandsFor h.core (scope s.around.apart s.inside h.core) n.meaning)))

pub with_declared_settled : {s : Stage} (n : Name) (m : Meaning) (h : Here) → Settled s h → StandsFor h.core (scope s.around.apart s.inside h.core) m → Settled s (with_declared n m h)
with_declared_settled n m h x t = qualified_settled h.own n m (with_name n m h) (with_name_settled n m h x t) t

-- tables stay as they are, and the scope has one name more
pub with_declared_core : (n : Name) (m : Meaning) (h : Here) → (with_declared n m h).core ≡ h.core
with_declared_core n m h = one h.own
  where
    one : (own : Option (List ℕ)) → (qualified own n m (with_name n m h)).core ≡ h.core
    one None = refl
    one (Some unit) = refl

with_declared_count : (n : Name) (m : Meaning) (h : Here) → (with_declared n m h).count ≡ h.count + 1
with_declared_count n m h = one h.own
  where
    one : (own : Option (List ℕ)) → (qualified own n m (with_name n m h)).count ≡ h.count + 1
    one None = refl
    one (Some unit) = refl

pub declared_settled : {s : Stage} (n : Name) (m : Meaning) (h : Here) → Settled s h → StandsFor h.core (scope s.around.apart s.inside h.core) m → From (Moves s h) (done (declared n m h))
declared_settled n m h x t = entered_from (is_declared h n) 0 n m h (leads (with_declared_settled n m h x t) (subst (Later h.core) (sym (with_declared_core n m h)) later_itself) tt)

-- ---- rows

pub behind_front : {A : Type 0} (xs ys : List A) → IsFrontOf xs (xs ++ ys)
behind_front xs ys = record { more = ys; is = refl }

abbrev pub wide : Core → List CoreType → List Extent → Core
wide core ts es = record core { types = core.types ++ ts; extents = core.extents ++ es }

-- types and extents are put behind the others
pub with_types_is : (core : Core) (ts : List CoreType) → (es : List Extent) × (with_types core ts ≡ wide core ts es)
with_types_is core [] = ([], ap₂ (λ a b. record core { types = a; extents = b }) (sym (append-nil core.types)) (sym (append-nil core.extents)))
with_types_is core (t ∷ ts) =
    let i = with_types_is (with_type core t) ts in
    (_, i.1 ∙ ap₂ (λ a b. record core { types = a; extents = b }) (append_assoc core.types (t ∷ []) ts) (append_assoc core.extents _ i.0))

pub entered_is : (core : Core) (t : CoreType) → (ts : List CoreType) × (es : List Extent) × (entered core t ≡ wide core (t ∷ ts) es)
unfolding entered
entered_is core t = let ts = rows_of (length core.types) (sets_of t) in let i = with_types_is core (t ∷ ts) in (ts, i.0, i.1)

abbrev pub Denotes : Stage → Here → TypeId → Here → Type 0
Denotes s h = Leads s h IsType

wide_denotes : {s : Stage} (h : Here) (t : CoreType) (ts : List CoreType) (es : List Extent) → Settled s h → IsTabled (wide h.core (t ∷ ts) es) → Denotes s h (number_of_next h.core) (in_core (wide h.core (t ∷ ts) es) h)
wide_denotes h t ts es x i = leads
    (settled_typed (wide h.core (t ∷ ts) es) [] x (wider x (behind_front h.core.types (t ∷ ts)) (behind_front h.core.extents es) (front_itself h.core.fields) (front_itself h.core.parameters) (front_itself h.core.variables) (front_itself h.core.globals) (front_itself h.core.routines) (refl, refl, refl, refl, refl) (omega arith)) i
    (sym (append-nil h.core.parameters)) (All-nil (λ p. Row (h.core.types ++ t ∷ ts) p.of.0)) refl refl refl refl)
    (record { types = behind_front h.core.types (t ∷ ts); parameters = front_itself h.core.parameters; variables = same_variables; globals = front_itself h.core.globals; routines = refl })
    (let l = length-append h.core.types (t ∷ ts) in omega (arith, l))

row_denotes : {s : Stage} (h : Here) (t : CoreType) → Settled s h → IsTabled (entered h.core t) → Denotes s h (number_of_next h.core) (in_core (entered h.core t) h)
row_denotes {s} h t x i =
    let w = entered_is h.core t in
    subst (λ c. Denotes s h (number_of_next h.core) (in_core c h)) (sym w.2) (wide_denotes h t w.0 w.1 x (subst IsTabled w.2 i))

-- it may be a row of the table of types, and has a small size
record NewRow (core : Core) (t : CoreType) : Type 0 where
  row : IsTypeRow core (length core.types) t
  below : IsBelow (length core.types) t
  plain : IsPlain t

row_settled : {s : Stage} (t : CoreType) (h : Here) → Settled s h → NewRow h.core t → From (Denotes s h) (done (row t h))
row_settled t h x r = from_gives (row_denotes h t x (tabled_row t x.tables r.row r.below (plain_size h.core t r.plain x.tables.extents)))

sized_settled : {s : Stage} (place : Place) (t : CoreType) (h : Here) → Settled s h → IsTypeRow h.core (length h.core.types) t → IsBelow (length h.core.types) t → From (Denotes s h) (done (sized_row place t h))
sized_settled place t h x r b =
    from_where (is_small (entered h.core t) (number_of_next h.core) t) TypeTooLarge place (in_core (entered h.core t) h)
    (λ e. from_gives (row_denotes h t x (tabled_row t x.tables r b (leb-true (size_of (entered h.core t) (number_of_next h.core)) most_bytes (and_parts _ _ e).0))))

-- ---- subranges

-- a number of an ordinal type of the kind
abbrev IsBound : Core → OrdinalKind × ℤ → Type 0
IsBound core low = (of : TypeId) × (kind_of core of ≡ Some low.0) × IsSomeAnd (range_of (type_at core of)) (λ r. Within r low.1)

same_kind_is : (k : OrdinalKind) (o : Option OrdinalKind) → is_kind k o ≡ true → o ≡ Some k
same_kind_is k None e = absurd (cc)
same_kind_is k (Some j) e = ap Some (sym (same_kinds k j e))

bounds_whole : {s : Stage} (h : Here) (first last : Place) (low : OrdinalKind × ℤ) (c : Constant) → Settled s h → IsBound h.core low → IsSoundConstant h.core c → Whole (NewRow h.core) (checked (bounds h.core first last low c))
bounds_whole h first last low c x b d =
    whole_tested NotAssignable last (is_kind low.0 (kind_of h.core c.of)) (λ e. let k = same_kind_is low.0 (kind_of h.core c.of) e in
    whole_tested EmptyRange first (int_le low.1 (number_of c.value)) (λ f. whole_gives (record {
      row = subrange_row b.0 c.of low.0 low.1 (number_of c.value) (founded x) b.1 k b.2 (number_within h.core c.of c.value low.0 k d) (at_most f);
      below = tt;
      plain = tt;
    })))

lower_whole : {s : Stage} (h : Here) → Settled s h → (e : Expression) → Whole (IsBound h.core) (checked (lower_of h.core h.names e))
lower_whole h x e = whole_behind (constant_whole h.core (scope _ _ h.core) h.names (founded x) x.names e) (λ c d. whole_entered NotOrdinal (start_of e) (kind_of h.core c.of) (λ kind k. whole_gives {a = (kind, number_of c.value)} (c.of, k, number_within h.core c.of c.value kind k d)))

subrange_whole : {s : Stage} (h : Here) → Settled s h → (first last : Expression) → Whole (NewRow h.core) (checked (subrange_of h.core h.names first last))
subrange_whole h x first last =
    whole_behind
    (whole_two {R = λ both. IsBound h.core both.0 × IsSoundConstant h.core both.1} pair (lower_whole h x first) (constant_whole h.core (scope _ _ h.core) h.names (founded x) x.names last) (λ low c b d. (b, d)))
    (λ both r. bounds_whole h (start_of first) (start_of last) both.0 both.1 x r.0 r.1)

-- ---- enumerations

-- an enumeration of so many values, or more
abbrev IsEnumeration : TypeId → ℕ → Core → Type 0
IsEnumeration of n core = (count : ℕ) × (type_at core of ≡ Some (Enumeration count)) × (n ≤ count)

enumerated_value : (core : Core) (of : TypeId) (n k : ℕ) → IsEnumeration of (n + suc k) core → Fits core (Ordinal (pos n)) of
enumerated_value core of n k e = let le = e.2 in subst (λ t. IsSomeAnd (range_of t) (λ r. Within r (pos n))) (sym e.1) (omega (arith, ints), omega (arith, ints, le))

values_settled : {s : Stage} (of : TypeId) (n : ℕ) (ns : List Name) (h : Here) → Settled s h → IsEnumeration of (n + length ns) h.core → From (λ t i. Settled s i × (i.core ≡ h.core)) (done (values of n ns h))
values_settled of n [] h x e = from_gives (x, refl)
values_settled {s} of n (m ∷ ms) h x e =
    from_then (values of (n + 1) ms)
    (entered_from {R = λ t i. Settled s i × (i.core ≡ h.core)} (is_ahead h m || is_declared h m) (length h.ahead) m (value_of of (pos n)) h (with_declared_settled m (value_of of (pos n)) h x (enumerated_value h.core of n (length ms) e), with_declared_core m (value_of of (pos n)) h))
    (λ t i r. from_so (values_settled of (n + 1) ms i r.0 (subst (IsEnumeration of (n + 1 + length ms)) (sym r.1) (let le = e.2 in (e.0, e.1, omega (arith, le))))) (λ u j q. (q.0, q.1 ∙ r.1)))

-- what a scope has room for is no more than an enumeration may have
values_fit : (of : TypeId) (n : ℕ) (ns : List Name) (h : Here) → From (λ t i. (length ns ≡ 0) ⊎ (h.count + length ns ≤ most_names)) (done (values of n ns h))
values_fit of n [] h = from_gives (inl refl)
values_fit of n (m ∷ ms) h =
    from_then (values of (n + 1) ms)
    (from_where {R = λ t i. (i.count ≡ h.count + 1) × (h.count < most_names)} (not (is_ahead h m || is_declared h m)) DeclaredTwice m.position.place h
    (λ e. from_where (has_room (length h.ahead) h) TooManyNames m.position.place h (λ f. let lt = ltb-true (h.count + length h.ahead) most_names f in from_gives (with_declared_count m (value_of of (pos n)) h, omega (arith, lt)))))
    (λ t i r. from_so (values_fit of (n + 1) ms i) (λ u j q. inr (one i (length ms) r.0 r.1 q)))
  where
    one : (i : Here) (k : ℕ) → i.count ≡ h.count + 1 → h.count < most_names → (k ≡ 0) ⊎ (i.count + k ≤ most_names) → h.count + suc k ≤ most_names
    one i k a b (inl z) = omega (arith, z, b)
    one i k a b (inr q) = omega (arith, a, b, q)

fails : {A : Type 0} {R : A → Here → Type 0} {g : Given A} → From R g → ((a : A) (h : Here) → R a h → ⊥) → (r : Refusal) × IsIn r g.faults
fails {g} (settled (filled a r)) k = absurd (k a g.here r)
fails (faulty r i) k = (r, i)

pub first_behind : {A : Type 0} (xs : List A) (y : A) (ys : List A) → slice_get (xs ++ y ∷ ys) (length xs) ≡ Some y
first_behind [] y ys = refl
first_behind (x ∷ xs) y ys = first_behind xs y ys

enumerated_settled : {s : Stage} (ns : List Name) (h : Here) → Settled s h → From (Denotes s h) (done (enumerated ns h))
enumerated_settled {s} ns h x = one (nat_le (length ns) 65535) refl
  where
    of : TypeId
    of = number_of_next h.core

    new : Here
    new = in_core (entered h.core (enumeration_of ns)) h

    kind : type_at new.core of ≡ Some (enumeration_of ns)
    kind = subst (λ c. slice_get c.types (length h.core.types) ≡ Some (enumeration_of ns)) (sym (entered_is h.core (enumeration_of ns)).2) (first_behind h.core.types (enumeration_of ns) (entered_is h.core (enumeration_of ns)).0)

    one : (b : Bool) → nat_le (length ns) 65535 ≡ b → From (Denotes s h) (done (enumerated ns h))
    one true e =
        let le = leb-true (length ns) 65535 e in
        let d = row_denotes h (enumeration_of ns) x (tabled_row (enumeration_of ns) x.tables (omega arith, omega (arith, le)) tt (plain_size h.core (enumeration_of ns) tt x.tables.extents)) in
        from_after none (done (next (values of 0 ns new) (gives of)))
        (from_then (gives of) (values_settled of 0 ns new d.state (max (length ns) 1, kind, omega arith)) (λ u j q. from_gives (leads q.0 (subst (Later h.core) (sym q.1) d.later) (subst (IsType of) (sym q.1) d.so))))
    one false e =
        let f = fails (values_fit of 0 ns new) (λ t i q. too_many q) in
        faulty f.0 (behind (front f.1))
      where
        too_many : (length ns ≡ 0) ⊎ (new.count + length ns ≤ most_names) → ⊥
        too_many (inl z) = let lt = leb-false (length ns) 65535 e in absurd (omega (arith, lt, z))
        too_many (inr q) = let lt = leb-false (length ns) 65535 e in absurd (omega (arith, lt, q))

-- ---- sets and arrays

both_bounds : (r : ℤ × ℤ) → is_within_set r ≡ true → (pos 0 ≤ℤ r.0) × (r.1 ≤ℤ pos 31)
both_bounds r e = (grind (arith, ints), grind (arith, ints))

set_over_whole : (core : Core) (place : Place) (of : TypeId) → IsType of core → Whole (NewRow core) (checked (set_over core place of))
set_over_whole core place of t =
    whole_entered NotOrdinal place (range_of (type_at core of)) (λ r e. whole_tested NoSetElement place (is_within_set r) (λ f. whole_gives (record {
      row = ((t, subst (λ o. IsSomeAnd o (λ r. Unit {0})) (sym e) tt), subst (λ o. IsSomeAnd o (λ r. (pos 0 ≤ℤ r.0) × (r.1 ≤ℤ pos 31))) (sym e) (both_bounds r f));
      below = tt;
      plain = tt;
    })))

abbrev IsIndex : TypeId → Core → Type 0
IsIndex of core = There core.types of.0 (λ t. IsSomeAnd (range_of (Some t)) (λ r. Unit {0}))

is_index : (o : Option CoreType) → is_some (range_of o) ≡ true → IsSomeAnd o (λ t. IsSomeAnd (range_of (Some t)) (λ r. Unit {0}))
is_index None e = absurd (cc)
is_index (Some t) e = one (range_of (Some t)) e
  where
    one : (o : Option (ℤ × ℤ)) → is_some o ≡ true → IsSomeAnd o (λ r. Unit {0})
    one None e = absurd (cc)
    one (Some r) e = tt

index_over_whole : (core : Core) (place : Place) (of : TypeId) → Whole (λ of. IsIndex of core) (checked (index_over core place of))
index_over_whole core place of = whole_tested NotOrdinal place (is_some (range_of (type_at core of))) (λ e. whole_gives (is_index (type_at core of) e))

index_range : (core : Core) (of : TypeId) → IsIndex of core → (of.0 < length core.types) × IsOrdinal core of
index_range core of t =
    let x = some_is (slice_get core.types of.0) t in
    (slice_get_within core.types of.0 x.0 x.1, subst (λ o. IsSomeAnd (range_of o) (λ r. Unit {0})) (sym x.1) x.2)

-- all of these are there
abbrev AreIndices : List (Option TypeId) → Core → Type 0
AreIndices [] core = Unit {0}
AreIndices (o ∷ os) core = Filled (λ of. IsIndex of core) o × AreIndices os core

indices_on : {old new : Core} (os : List (Option TypeId)) → Later old new → AreIndices os old → AreIndices os new
indices_on [] l a = tt
indices_on (o ∷ os) l a = (filled_so a.0 (λ of t. front_there _ l.types of.0 t), indices_on os l a.1)

one_array_settled : {s : Stage} (place : Place) {i e : Option TypeId} (h : Here) → Filled (λ of. IsIndex of h.core) i → Filled (λ of. IsType of h.core) e → Settled s h → From (Denotes s h) (done (one_array place i e h))
one_array_settled place h (filled i p) (filled e q) x = sized_settled place (Array i e) h x (index_range h.core i p, q) tt

arrays_settled : {s : Stage} (place : Place) {e : Option TypeId} (is : List (Option TypeId)) (h : Here) → Filled (λ of. IsType of h.core) e → AreIndices is h.core → Settled s h → From (Denotes s h) (done (arrays place e is h))
arrays_settled place [] h f all x = settled (filled_so f (λ of t. leads x later_itself t))
arrays_settled place (i ∷ is) h f all x =
    lead_followed (λ t h. arrays place t is h) (one_array_settled place h all.0 f x) (λ t j y l g. leads_on l (arrays_settled place is j g (indices_on is l all.1) y))

array_settled : {s : Stage} (place : Place) {e : Option TypeId} (is : List (Option TypeId)) (h : Here) → Filled (λ of. IsType of h.core) e → AreIndices is h.core → Settled s h → From (Denotes s h) (done (array_of place is e h))
array_settled {s} place [] h f all x = from_checked {R = Denotes s h} whole_rule (λ t q. leads x later_itself q)
array_settled place (i ∷ is) h f all x = arrays_settled place (i ∷ is) h f all x

-- ---- records

abbrev AreFields : FieldRows → Core → Type 0
AreFields r core = (r.whole ≡ true) × All (λ f. Row core.types f.of.0) r.fields

fields_on : {old new : Core} (r : FieldRows) → Later old new → AreFields r old → AreFields r new
fields_on {old} {new} r l a = (a.0, All-weaker (λ f. Row old.types f.of.0) (λ f. Row new.types f.of.0) (λ f x. front_row l.types x) r.fields a.1)

with_field_whole : {t : Option TypeId} (core : Core) (n : Name) (r : FieldRows) → Filled (λ of. IsType of core) t → AreFields r core → AreFields (with_field t n r) core
with_field_whole core n r (filled of q) a = (a.0, All-push (λ f. Row core.types f.of.0) r.fields _ a.1 q)

pub from_if : {A : Type 0} {R : A → Here → Type 0} (b : Bool) {g d : Given A} → (b ≡ true → From R g) → (b ≡ false → From R d) → From R (if b then g else d)
from_if true g d = g refl
from_if false g d = d refl

some_fields_settled : {t : Option TypeId} (ns : List Name) (r : FieldRows) (h : Here) → Filled (λ of. IsType of h.core) t → AreFields r h.core → From (λ r i. (i ≡ h) × AreFields r h.core) (done (some_fields t ns r h))
some_fields_settled [] r h f a = from_gives (refl, a)
some_fields_settled {t = t} (n ∷ ns) r h f a =
    from_behind (some_fields t ns)
    (from_if {R = λ r i. (i ≡ h) × AreFields r h.core} (is_seen r n) (λ e. faulty (fault DeclaredTwice n.position.place) here) (λ e. from_if (nat_lt (length r.seen) most_names) (λ e. from_gives (refl, with_field_whole h.core n r f a)) (λ e. faulty (fault TooManyNames n.position.place) here)))
    (λ q i w. subst (λ i. From (λ r i. (i ≡ h) × AreFields r h.core) (done (some_fields t ns q i))) (sym w.0) (some_fields_settled ns q h f w.1))

last_rows : (xs ys : List Field) → rows (xs ++ ys) (record { first = length xs; count = length ys }) ≡ ys
last_rows xs ys = ap (take (length ys)) (drop-append-le (length xs) xs ys (omega arith) ∙ ap (λ zs. zs ++ ys) (drop_all (length xs) xs (omega arith))) ∙ take_all (length ys) ys (omega arith)

record_settled : {s : Stage} (place : Place) (r : FieldRows) (h : Here) → AreFields r h.core → Settled s h → From (Denotes s h) (done (record_of place r h))
record_settled {s} place r h a x = from_if r.whole (λ e. leads_on later (sized_settled place (Record run) (in_core wide_fields h) y (fit, subst (All (λ f. f.of.0 < length h.core.types)) (sym (last_rows h.core.fields r.fields)) a.1) tt)) (λ e. let w = a.0 in absurd (cc))
  where
    run : Run
    run = record { first = length h.core.fields; count = length r.fields }

    wide_fields : Core
    wide_fields = record h.core { fields = h.core.fields ++ r.fields }

    later : Later h.core wide_fields
    later = record { types = front_itself h.core.types; parameters = front_itself h.core.parameters; variables = same_variables; globals = front_itself h.core.globals; routines = refl }

    fit : Fit wide_fields.fields run
    fit = let l = length-append h.core.fields r.fields in omega (arith, l)

    y : Settled s (in_core wide_fields h)
    y = settled_typed wide_fields [] x (wider x (front_itself h.core.types) (front_itself h.core.extents) (behind_front h.core.fields r.fields) (front_itself h.core.parameters) (front_itself h.core.variables) (front_itself h.core.globals) (front_itself h.core.routines) (refl, refl, refl, refl, refl) (omega arith)) (tabled_fields r.fields x.tables)
        (sym (append-nil h.core.parameters)) (All-nil (λ p. Row h.core.types p.of.0)) refl refl refl refl

-- ---- types

mutual
  pub denoted_settled : {s : Stage} (own : Option Name) (inside : Bool) (d : Denoter) (h : Here) → Settled s h → From (Denotes s h) (done (denoted own inside d h))
  denoted_settled {s} own inside (named q) h x = from_checked (type_named_whole h.core (scope s.around.apart s.inside h.core) h.names x.names own inside q) (λ of t. leads x later_itself t)
  denoted_settled {s} own inside (string p) h x = from_checked {R = Denotes s h} whole_rule (λ t q. leads x later_itself q)
  denoted_settled {s} own inside (subrange first last) h x = from_behind row (from_checked {R = λ t i. (i ≡ h) × NewRow h.core t} (subrange_whole h x first last) (λ t r. (refl, r))) (λ t i r. subst (λ i. From (Denotes s h) (done (row t i))) (sym r.0) (row_settled t h x r.1))
  denoted_settled own inside (enumeration p ns) h x = enumerated_settled ns h x
  denoted_settled {s} own inside (set p base) h x =
      lead_followed (λ t h. followed (judged h (with_part (set_over h.core (start_of_denoter base)) t)) (by row)) (denoted_settled own false base h x)
      (λ t i y l f. leads_on l (from_behind row (from_checked {R = λ t j. (j ≡ i) × NewRow i.core t} (whole_with f (λ of q. set_over_whole i.core (start_of_denoter base) of q)) (λ t r. (refl, r))) (λ t j r. subst (λ j. From (Denotes s i) (done (row t j))) (sym r.0) (row_settled t i y r.1))))
  denoted_settled own inside (array p packed is element) h x =
      lead_behind (λ is h. followed (denoted own true element h) (λ t h. array_of p.place is t h)) (indices_settled own [] is h tt x)
      (λ is i y l all. leads_on {i = i} l (lead_followed (λ t h. array_of p.place is t h) (denoted_settled own true element i y) (λ t j z m f. leads_on {i = j} m (array_settled p.place is j f (indices_on is m all) z))))
  denoted_settled own inside (record_ p packed lists) h x = lead_behind (record_of p.place) (field_lists_settled own lists no_rows h (refl, All-nil (λ f. Row h.core.types f.of.0)) x) (λ r i y l a. leads_on l (record_settled p.place r i a y))

  indices_settled : {s : Stage} (own : Option Name) (is : List (Option TypeId)) (ds : Denoters) (h : Here) → AreIndices is h.core → Settled s h → From (Leads s h AreIndices) (done (indices own is ds h))
  indices_settled own is no_denoters h all x = from_gives (leads x later_itself all)
  indices_settled {s} own is (denoters d ds) h all x =
      lead_followed {P = IsIndex} (λ t h. indices own (t ∷ is) ds h)
      (lead_followed (λ t h. judged h (with_part (index_over h.core (start_of_denoter d)) t)) (denoted_settled own false d h x) (λ t i y l f. from_checked {R = Leads s h IsIndex} (whole_with f (λ of q. index_over_whole i.core (start_of_denoter d) of)) (λ of q. leads y l q)))
      (λ t i y l f. leads_on l (indices_settled own (t ∷ is) ds i (f, indices_on is l all) y))

  field_lists_settled : {s : Stage} (own : Option Name) (lists : FieldLists) (r : FieldRows) (h : Here) → AreFields r h.core → Settled s h → From (Leads s h AreFields) (done (field_lists own lists r h))
  field_lists_settled own no_fields r h a x = from_gives (leads x later_itself a)
  field_lists_settled {s} own (fields ns d others) r h a x =
      lead_behind {P = AreFields} (λ r h. field_lists own others r h)
      (lead_followed (λ t h. some_fields t ns r h) (denoted_settled own true d h x) (λ t i y l f. from_so (some_fields_settled ns r i f (fields_on r l a)) (λ q j w. subst (λ j. Leads s h AreFields q j) (sym w.0) (leads y l w.1))))
      (λ q i y l b. leads_on l (field_lists_settled own others q i b y))
