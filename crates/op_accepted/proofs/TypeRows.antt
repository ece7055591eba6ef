-- Types that are named are solid, and rows of types leave fit states.
use Rattle.std.proofs.Common.{◌≡◌, inl, inr, ◌⊎◌, ℕ, ◌+◌, ◌^◌, ℤ, nat_le, nat_lt, int_le, pos, Bool, true, false, ◌&&◌, not, List, [], ◌∷◌, length, All, IfSome, IsSome, Option, Some, None, refl, sym, ap, subst, ◌∙◌, if◌then◌else◌}
use Rattle.std.proofs.lemmas.Bool.{and_parts}
use Rattle.std.proofs.lemmas.List.Elements.{All-cons, All-nil}
use Rattle.op_accepted.proofs.Grown.{same_type, type_on}
use Rattle.op_accepted.proofs.Leaves.{meant_if}
use Rattle.op_accepted.proofs.StateParts.{Nothing, keeps_gives, keeps_here, keeps_where}
use Rattle.op_accepted.proofs.Parts.{any_typed, both_are, fits_after, fits_entry, fits_fine, fits_if, fits_silent, fits_test, fits_unshown, fits_with, present}
use Rattle.op_accepted.proofs.Rows.{named_fit, wide_fit, wide_later}
use Rattle.op_accepted.proofs.Solid.{boolean_solid, char_solid, integer_solid}
use Rattle.op_accepted.specs.Fit.{IfTyped, IsFitMeaning, IsFitTables, IsFitType}
use Rattle.op_accepted.specs.State.{AreFitNames, AreTreesFit, IsFitState, Keeps}
use Rattle.op_base.specs.declared.place.Place.{Place}
use Rattle.op_check_expr.specs.Naming.{feature_of_type}
use Rattle.op_sound.proofs.Types.{behind_front, wide, with_types_is}
use Rattle.op_check_unit.specs.Naming.{declared, entered_name, has_room, is_declared, is_name, own_type, qualified, told_by, type_meant, type_named, type_of_unit, with_name}
use Rattle.op_check_unit.specs.Steps.{Here, gives}
use Rattle.op_check_unit.specs.Types.{bounds, constant_part, has_few_elements, in_core, is_kind, is_small, lower_of, most_bytes, number_of_next, row, sized_row, subrange_of, whole_type}
use Rattle.op_core.proofs.Growing.{each_stands}
use Rattle.op_core.specs.Sizes.{extent_of, range_of, type_at, values_of}
use Rattle.op_core.specs.Types.{id}
use Rattle.op_core.specs.declared.ids.TypeId.{TypeId}
use Rattle.op_core.specs.declared.program.Core.{Core}
use Rattle.op_core.specs.declared.types.CoreType.{CoreType}
use Rattle.op_core.specs.declared.types.CoreType.TheVariants.{Array, Char, Enumeration, Set, Subrange}
use Rattle.op_core.specs.declared.types.Extent.{Extent}
use Rattle.op_tree.specs.Expression.{Expression}
use Rattle.op_tree.specs.declared.position.Name.{Name}
use Rattle.op_tree.specs.declared.position.QualifiedName.{QualifiedName}
use Rattle.op_typed.proofs.Entered.{Stand}
use Rattle.op_typed.proofs.TypeFacts.{Rooted, rooted}
use Rattle.op_judgement.specs.Judgement.{checked, fine, refused}
use Rattle.op_judgement.specs.declared.rules.Feature.{Feature}
use Rattle.op_judgement.specs.declared.rules.LanguageRule.TheVariants.{DeclaredTwice, EmptyRange, NotAssignable, NotOrdinal, TooManyNames, TypeTooLarge, WrongKindOfName}
use Rattle.op_judgement.specs.Steps.{done}
use Rattle.op_types.specs.ConstantParts.{joined_name, start_of}
use Rattle.op_types.specs.Entering.{entered, rows_of, sets_of}
use Rattle.op_types.specs.Folding.{pair}
use Rattle.op_types.specs.Names.{Named, lower, meaning_of}
use Rattle.op_types.specs.Sorts.{kind_of}
use Rattle.op_types.specs.Values.{number_of}
use Rattle.op_types.specs.declared.constant.Constant.{Constant}
use Rattle.op_types.specs.declared.sort.OrdinalKind.{OrdinalKind}
use Rattle.op_types.specs.declared.sort.OrdinalKind.TheVariants as kind
use Rattle.op_types.specs.declared.visible.BuiltIn.TheVariants.{LeftOut}
use Rattle.op_types.specs.declared.visible.Meaning.{Meaning}
use Rattle.op_types.specs.declared.visible.Meaning.TheVariants as meaning
use Rattle.op_typing.specs.Simple.{IsSolidType, is_solid}

abbrev pub IsSolid : TypeId → Core → Type 0
IsSolid of core = IsSolidType core of

-- ---- types that are named

shown : (o : Option Feature) → IsSome o → o ≡ None → ⊥
shown None h e = absurd (cc)
shown (Some n) h e = absurd (cc)

meant_fits : (core : Core) (place : Place) (m : Option Meaning) → IfSome m (IsFitMeaning core) → IfTyped (IsSolidType core) (checked (type_meant core place (told_by m)))
meant_fits core place None u = fits_silent
meant_fits core place (Some meaning.Spoiled) u = fits_silent
meant_fits core place (Some (meaning.TypeName of)) u = fits_unshown (fine of) place (feature_of_type (type_at core of)) (λ e. fits_fine (one u e))
  where
    one : IsSolidType core of ⊎ IsSome (feature_of_type (type_at core of)) → feature_of_type (type_at core of) ≡ None → IsSolidType core of
    one (inl h) e = h
    one (inr s) e = absurd (shown (feature_of_type (type_at core of)) s e)
meant_fits core place (Some (meaning.BuiltIn (LeftOut feature))) u = fits_silent
meant_fits core place (Some (meaning.BuiltIn b)) u = fits_silent
meant_fits core place (Some m) u = fits_silent

unit_fits : (core : Core) (names : List Named) → AreFitNames core names → (q n : Name) (m : Option Meaning) → IfTyped (IsSolidType core) (checked (type_of_unit core names q n (told_by m)))
unit_fits core names u q n None = fits_silent
unit_fits core names u q n (Some meaning.Spoiled) = fits_silent
unit_fits core names u q n (Some (meaning.TypeName of)) = fits_unshown (refused WrongKindOfName q.position.place) q.position.place (feature_of_type (type_at core of)) (λ e. fits_silent)
unit_fits core names u q n (Some (meaning.Unit id)) = meant_fits core n.position.place (meaning_of names (joined_name q.text n.text)) (meant_if core names u (joined_name q.text n.text))
unit_fits core names u q n (Some (meaning.BuiltIn (LeftOut feature))) = fits_silent
unit_fits core names u q n (Some (meaning.BuiltIn b)) = fits_silent
unit_fits core names u q n (Some m) = fits_silent

pub type_named_fits : (core : Core) (names : List Named) → AreFitNames core names → (own : Option Name) (inside : Bool) (q : QualifiedName) → IfTyped (IsSolidType core) (checked (type_named core names own inside q))
type_named_fits core names u own inside q = named_by_fits q.name q.unit
  where
    own_fits : (b : Bool) (n : Name) → IfTyped (IsSolidType core) (checked (own_type own b n.position.place))
    own_fits b n = fits_if b (λ e. fits_silent) (λ e. fits_silent)

    named_by_fits : (n : Name) (o : Option Name) → IfTyped (IsSolidType core) (checked (type_named core names own inside (record { unit = o; name = n })))
    named_by_fits n None = fits_if (is_name own n) (λ e. own_fits inside n) (λ e. meant_fits core n.position.place (meaning_of names (lower n.text)) (meant_if core names u (lower n.text)))
    named_by_fits n (Some x) = unit_fits core names u x n (meaning_of names (lower x.text))

-- ---- names that are declared

pub declared_so : (taken : Bool) (more : ℕ) (n : Name) (m : Meaning) (h : Here) → IsFitState h → IsFitMeaning h.core m → Keeps Nothing h.core (done (entered_name taken more n m h))
declared_so taken more n m h x f = keeps_where (not taken) DeclaredTwice n.position.place h (λ e. keeps_where (has_room more h) TooManyNames n.position.place h (λ e. one h.own))
  where
    only : (name : List ℕ) → AreFitNames h.core (record { name = name; meaning = m } ∷ [])
    only name = All-cons (λ n. IsFitMeaning h.core n.meaning) (record { name = name; meaning = m }) [] f (All-nil (λ n. IsFitMeaning h.core n.meaning))

    one : (own : Option (List ℕ)) → Keeps Nothing h.core (gives tt (qualified own n m (with_name n m h)))
    one None = keeps_here (named_fit (record { name = lower n.text; meaning = m } ∷ []) x (only (lower n.text))) tt
    one (Some unit) = keeps_here (named_fit (record { name = joined_name unit n.text; meaning = m } ∷ []) (named_fit (record { name = lower n.text; meaning = m } ∷ []) x (only (lower n.text))) (only (joined_name unit n.text))) tt

pub declared_fits : (n : Name) (m : Meaning) (h : Here) → IsFitState h → IsFitMeaning h.core m → Keeps Nothing h.core (done (declared n m h))
declared_fits n m h x f = declared_so (is_declared h n) 0 n m h x f

-- ---- rows

-- types and extents are put behind the others
pub entered_is : (core : Core) (t : CoreType) → (es : List Extent) × (entered core t ≡ wide core (t ∷ rows_of (length core.types) (sets_of t)) es)
unfolding entered
entered_is core t = with_types_is core (t ∷ rows_of (length core.types) (sets_of t))

-- Sets and subranges of a solid type stand behind it: none, its set, or the subrange of its first values with the set of that.
enumeration_fits : (new : Core) (n : ℕ) (t : CoreType) (b : Bool) → is_solid (Some t) ≡ true → Stand new n (t ∷ rows_of n (if b then sets_of (Enumeration 0) else sets_of (Enumeration 33))) → All (IsFitType new) (rows_of n (if b then sets_of (Enumeration 0) else sets_of (Enumeration 33)))
enumeration_fits new n t true h k = All-cons (IsFitType new) (Set (id n)) [] (ap is_solid k.0 ∙ h) (All-nil (IsFitType new))
enumeration_fits new n t false h k = All-cons (IsFitType new) (Subrange (id n) (pos 0) (pos 31)) (Set (id (n + 1)) ∷ []) (ap is_solid k.0 ∙ h) (All-cons (IsFitType new) (Set (id (n + 1))) [] (ap is_solid k.1.0) (All-nil (IsFitType new)))

subrange_behind : (new : Core) (n : ℕ) (t : CoreType) (b : Bool) → is_solid (Some t) ≡ true → Stand new n (t ∷ rows_of n (if b then sets_of (Enumeration 0) else sets_of Char)) → All (IsFitType new) (rows_of n (if b then sets_of (Enumeration 0) else sets_of Char))
subrange_behind new n t true h k = All-cons (IsFitType new) (Set (id n)) [] (ap is_solid k.0 ∙ h) (All-nil (IsFitType new))
subrange_behind new n t false h k = All-nil (IsFitType new)

behind_fits : (new : Core) (n : ℕ) (t : CoreType) → is_solid (Some t) ≡ true → Stand new n (t ∷ rows_of n (sets_of t)) → All (IsFitType new) (rows_of n (sets_of t))
behind_fits new n (Enumeration values) h k = enumeration_fits new n (Enumeration values) (nat_le values 32) h k
behind_fits new n (Subrange base low high) h k = subrange_behind new n (Subrange base low high) (int_le (pos 0) low && int_le high (pos 31)) h k
behind_fits new n t h k = All-nil (IsFitType new)

-- it may be a row of the table of types, whose values are solid
abbrev pub IsFitRow : Core → CoreType → Type 0
IsFitRow core t = IsFitType core t × (is_solid (Some t) ≡ true)

pub row_state : (known : AreTreesFit) (h : Here) (t : CoreType) → IsFitState h → IsFitRow h.core t → Keeps IsSolid h.core (gives (number_of_next h.core) (in_core (entered h.core t) h))
row_state known h t x f = subst (λ c. Keeps IsSolid h.core (gives (number_of_next h.core) (in_core c h))) (sym (entered_is h.core t).1) (keeps_gives (wide_fit known h rows (entered_is h.core t).0 x fit) (wide_later h.core rows (entered_is h.core t).0) (ap is_solid stand.0 ∙ f.1))
  where
    rows : List CoreType
    rows = t ∷ rows_of (length h.core.types) (sets_of t)

    new : Core
    new = wide h.core rows (entered_is h.core t).0

    stand : Stand new (length h.core.types) rows
    stand = each_stands h.core.types rows new.types (length h.core.types) refl refl

    fit : All (IsFitType new) rows
    fit = All-cons (IsFitType new) t (rows_of (length h.core.types) (sets_of t)) (type_on h.core new (behind_front h.core.types rows) t f.0) (behind_fits new (length h.core.types) t f.1 stand)

pub row_fits : (known : AreTreesFit) (t : CoreType) (h : Here) → IsFitState h → IsFitRow h.core t → Keeps IsSolid h.core (done (row t h))
row_fits known t h x f = row_state known h t x f

-- a type that may be too large
pub sized_fits : (known : AreTreesFit) (place : Place) (t : CoreType) (h : Here) → IsFitState h → (has_few_elements (entered h.core t) t ≡ true → IsFitRow h.core t) → Keeps IsSolid h.core (done (sized_row place t h))
sized_fits known place t h x f =
    keeps_where (is_small (entered h.core t) (number_of_next h.core) t) TypeTooLarge place (in_core (entered h.core t) h)
    (λ e. row_state known h t x (f (and_parts (nat_le (extent_of (entered h.core t) (number_of_next h.core)).size most_bytes) (has_few_elements (entered h.core t) t) e).1))

pub array_fits : (known : AreTreesFit) (place : Place) (at element : TypeId) (h : Here) → IsFitState h → IsSolidType h.core at → IsSolidType h.core element → Keeps IsSolid h.core (done (sized_row place (Array at element) h))
array_fits known place at element h x a b = sized_fits known place (Array at element) h x (λ e. ((a, b, ap (λ t. nat_lt (values_of (range_of t)) (2 ^ 31)) (sym same) ∙ e), refl))
  where
    same : type_at (entered h.core (Array at element)) at ≡ type_at h.core at
    same = subst (λ c. type_at c at ≡ type_at h.core at) (sym (entered_is h.core (Array at element)).1) (same_type h.core (wide h.core (Array at element ∷ []) (entered_is h.core (Array at element)).0) (behind_front h.core.types (Array at element ∷ [])) at a)

-- ---- subranges

whole_solid : {core : Core} → IsFitTables core → (of : TypeId) (k : OrdinalKind) → kind_of core of ≡ Some k → IsSolidType core (whole_type k)
whole_solid {core} t of k e = one k (rooted core of k e)
  where
    one : (k : OrdinalKind) → Rooted core k → IsSolidType core (whole_type k)
    one kind.Integer r = integer_solid t
    one kind.Boolean r = boolean_solid t
    one kind.Char r = char_solid t
    one (kind.Enumeration of) r = ap is_solid r.1

lower_fits : {core : Core} → IsFitTables core → (names : List Named) (e : Expression) → IfTyped (λ low. IsSolidType core (whole_type low.0)) (checked (lower_of core names e))
lower_fits {core} t names e =
    fits_after (fits_with (present (checked (constant_part core names e)).typed) (λ c _. fits_entry NotOrdinal (start_of e) (kind_of core c.of) (λ kind k. fits_fine (whole_solid t c.of kind k))))

bounds_fits : (core : Core) (first last : Place) (low : OrdinalKind × ℤ) (c : Constant) → IsSolidType core (whole_type low.0) → IfTyped (IsFitRow core) (checked (bounds core first last low c))
bounds_fits core first last low c h = fits_test NotAssignable last (is_kind low.0 (kind_of core c.of)) (λ e. fits_test EmptyRange first (int_le low.1 (number_of c.value)) (λ f. fits_fine (h, refl)))

pub subrange_fits : {core : Core} → IsFitTables core → (names : List Named) (first last : Expression) → IfTyped (IsFitRow core) (checked (subrange_of core names first last))
subrange_fits {core} t names first last =
    fits_after
    (fits_with (both_are {C = (OrdinalKind × ℤ) × Constant} {R = λ both. IsSolidType core (whole_type both.0.0)} pair (any_typed (lower_fits t names first)) (present (checked (constant_part core names last)).typed) (λ low c h _. h))
    (λ both h. bounds_fits core (start_of first) (start_of last) both.0 both.1 h))
