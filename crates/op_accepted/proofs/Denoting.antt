-- Types that are written are solid, and leave fit states.
use Rattle.std.proofs.Common.{ℕ, ◌+◌, pos, nat_lt, Bool, true, false, ◌||◌, List, [], ◌∷◌, ◌++◌, length, All, is_some, Option, refl}
use Rattle.std.proofs.lemmas.List.Elements.{All-nil, All-push}
use Rattle.op_accepted.proofs.Grown.{all_solid_on, later_itself, solid_on}
use Rattle.op_accepted.proofs.StateParts.{Nothing, keeps_behind, keeps_checked, keeps_followed, keeps_from, keeps_here, keeps_if, keeps_option, keeps_silent, keeps_then}
use Rattle.op_accepted.proofs.Parts.{any_as, fits_entry, fits_fine, fits_silent, fits_test, fits_with}
use Rattle.op_accepted.proofs.Rows.{fielded_fit, fielded_later}
use Rattle.op_accepted.proofs.Solid.{ordinal_solid}
use Rattle.op_accepted.proofs.TypeRows.{IsFitRow, IsSolid, array_fits, declared_so, row_fits, sized_fits, subrange_fits, type_named_fits}
use Rattle.op_accepted.specs.Fit.{IfAny, IfTyped, none, some}
use Rattle.op_accepted.specs.State.{AreTreesFit, IsFitState, Keeps, faulty}
use Rattle.op_base.specs.declared.place.Place.{Place}
use Rattle.op_check_unit.specs.Denoting.{denoted, field_lists, indices}
use Rattle.op_check_unit.specs.Naming.{is_ahead, is_declared, most_names}
use Rattle.op_check_unit.specs.Records.{is_seen, no_rows, record_of, some_fields, with_field}
use Rattle.op_check_unit.specs.Steps.{Here}
use Rattle.op_check_unit.specs.Types.{array_of, arrays, enumerated, enumeration_of, in_core, index_over, is_within_set, one_array, row, set_over, start_of_denoter, value_of, values}
use Rattle.op_check_unit.specs.declared.record.FieldRows.{FieldRows}
use Rattle.op_core.specs.Faults.{here}
use Rattle.op_core.specs.Growing.{IsFrontOf}
use Rattle.op_core.specs.Sizes.{range_of, type_at}
use Rattle.op_core.specs.declared.ids.TypeId.{TypeId}
use Rattle.op_core.specs.declared.program.Core.{Core}
use Rattle.op_core.specs.declared.types.CoreType.TheVariants.{Record}
use Rattle.op_judgement.specs.Judgement.{checked, fault, with_part}
use Rattle.op_judgement.specs.declared.rules.LanguageRule.TheVariants.{DeclaredTwice, NoSetElement, NotOrdinal, TooManyNames}
use Rattle.op_judgement.specs.Steps.{by, done, followed, gives, judged}
use Rattle.op_tree.specs.Denoter.{Denoter, named, string, subrange, enumeration, set, array, record_, Denoters, no_denoters, denoters, FieldLists, no_fields, fields}
use Rattle.op_tree.specs.declared.position.Name.{Name}
use Rattle.op_typing.specs.Simple.{IsSolidType}

-- a type that may have been denoted before
abbrev pub MaySolid : Option TypeId → Core → Type 0
MaySolid o core = IfAny (λ of. IsSolidType core of) o

pub may_solid_on : (old new : Core) {o : Option TypeId} → IsFrontOf old.types new.types → MaySolid o old → MaySolid o new
may_solid_on old new f h = any_as h (λ of k. solid_on old new f of k)

-- ---- sets and indices

set_over_fits : (core : Core) (place : Place) (of : TypeId) → IfTyped (IsFitRow core) (checked (set_over core place of))
set_over_fits core place of = fits_entry NotOrdinal place (range_of (type_at core of)) (λ r e. fits_test NoSetElement place (is_within_set r) (λ f. fits_fine (ordinal_solid core of r e, refl)))

index_over_fits : (core : Core) (place : Place) (of : TypeId) → IsSolidType core of → IfTyped (IsSolidType core) (checked (index_over core place of))
index_over_fits core place of h = fits_test NotOrdinal place (is_some (range_of (type_at core of))) (λ e. fits_fine h)

abbrev AreSolid : List (Option TypeId) → Core → Type 0
AreSolid [] core = Unit {0}
AreSolid (o ∷ os) core = MaySolid o core × AreSolid os core

are_solid_on : (old new : Core) (os : List (Option TypeId)) → IsFrontOf old.types new.types → AreSolid os old → AreSolid os new
are_solid_on old new [] f a = tt
are_solid_on old new (o ∷ os) f a = (may_solid_on old new f a.0, are_solid_on old new os f a.1)

-- ---- fields

abbrev AreSolidFields : FieldRows → Core → Type 0
AreSolidFields r core = All (λ f. IsSolidType core f.of) r.fields

with_field_fits : (core : Core) {t : Option TypeId} (n : Name) (r : FieldRows) → MaySolid t core → AreSolidFields r core → AreSolidFields (with_field t n r) core
with_field_fits core n r none a = a
with_field_fits core n r (some of h) a = All-push (λ f. IsSolidType core f.of) r.fields _ a h

some_fields_fit : {t : Option TypeId} (ns : List Name) (r : FieldRows) (h : Here) → IsFitState h → MaySolid t h.core → AreSolidFields r h.core → Keeps AreSolidFields h.core (done (some_fields t ns r h))
some_fields_fit [] r h x f a = keeps_here x a
some_fields_fit {t} (n ∷ ns) r h x f a =
    keeps_behind (some_fields t ns)
    (keeps_if {P = AreSolidFields} {old = h.core} (is_seen r n) (λ e. faulty (fault DeclaredTwice n.position.place) here) (λ e. keeps_if (nat_lt (length r.seen) most_names) (λ e. keeps_here x (with_field_fits h.core n r f a)) (λ e. faulty (fault TooManyNames n.position.place) here)))
    (λ q i y l b. some_fields_fit ns q i y (may_solid_on h.core i.core l.types f) b)

module _ (known : AreTreesFit) where
  -- ---- enumerations

  values_fit : (of : TypeId) (n : ℕ) (ns : List Name) (h : Here) → IsFitState h → IsSolidType h.core of → Keeps Nothing h.core (done (values of n ns h))
  values_fit of n [] h x f = keeps_here x tt
  values_fit of n (m ∷ ms) h x f =
      keeps_then (values of (n + 1) ms) (declared_so (is_ahead h m || is_declared h m) (length h.ahead) m (value_of of (pos n)) h x f)
      (λ i y l. values_fit of (n + 1) ms i y (solid_on h.core i.core l.types of f))

  enumerated_fits : (ns : List Name) (h : Here) → IsFitState h → Keeps IsSolid h.core (done (enumerated ns h))
  enumerated_fits ns h x =
      keeps_behind (λ of h. followed (values of 0 ns h) (λ t h. gives of h)) (row_fits known (enumeration_of ns) h x (tt, refl))
      (λ of i y l f. keeps_then (gives of) (values_fit of 0 ns i y f) (λ j z m. keeps_here z (solid_on i.core j.core m.types of f)))

  -- ---- arrays

  one_array_fits : (place : Place) {a e : Option TypeId} (h : Here) → IsFitState h → MaySolid a h.core → MaySolid e h.core → Keeps IsSolid h.core (done (one_array place a e h))
  one_array_fits place h x (some a p) (some e q) = array_fits known place a e h x p q
  one_array_fits place h x none q = keeps_silent x
  one_array_fits place h x (some a p) none = keeps_silent x

  arrays_fit : (place : Place) {e : Option TypeId} (is : List (Option TypeId)) (h : Here) → IsFitState h → MaySolid e h.core → AreSolid is h.core → Keeps IsSolid h.core (done (arrays place e is h))
  arrays_fit place [] h x f all = keeps_option x later_itself f
  arrays_fit place (a ∷ is) h x f all =
      keeps_followed (λ t h. arrays place t is h) (one_array_fits place h x all.0 f)
      (λ t i y l g. arrays_fit place is i y g (are_solid_on h.core i.core is l.types all.1))

  array_of_fits : (place : Place) {e : Option TypeId} (is : List (Option TypeId)) (h : Here) → IsFitState h → MaySolid e h.core → AreSolid is h.core → Keeps IsSolid h.core (done (array_of place is e h))
  array_of_fits place [] h x f all = keeps_checked {P = IsSolid} x fits_silent
  array_of_fits place (a ∷ is) h x f all = arrays_fit place (a ∷ is) h x f all

  -- ---- records

  record_fits : (place : Place) (r : FieldRows) (h : Here) → IsFitState h → AreSolidFields r h.core → Keeps IsSolid h.core (done (record_of place r h))
  record_fits place r h x a =
      keeps_if r.whole
      (λ e. keeps_from (fielded_later h.core r.fields) (sized_fits known place (Record (record { first = length h.core.fields; count = length r.fields })) (in_core (record h.core { fields = h.core.fields ++ r.fields }) h) (fielded_fit known h.core h.names h.bodies h.first_values r.fields x a) (λ e. (tt, refl))))
      (λ e. keeps_silent x)

  -- ---- types

  mutual
    pub denoted_fits : (own : Option Name) (inside : Bool) (d : Denoter) (h : Here) → IsFitState h → Keeps IsSolid h.core (done (denoted own inside d h))
    denoted_fits own inside (named q) h x = keeps_checked x (type_named_fits h.core h.names x.names own inside q)
    denoted_fits own inside (string p) h x = keeps_checked {P = IsSolid} x fits_silent
    denoted_fits own inside (subrange first last) h x = keeps_behind row (keeps_checked {P = λ t core. IsFitRow core t} x (subrange_fits x.tables h.names first last)) (λ t i y l f. row_fits known t i y f)
    denoted_fits own inside (enumeration p ns) h x = enumerated_fits ns h x
    denoted_fits own inside (set p base) h x =
        keeps_followed (λ t h. followed (judged h (with_part (set_over h.core (start_of_denoter base)) t)) (by row)) (denoted_fits own false base h x)
        (λ t i y l f. keeps_behind row (keeps_checked {P = λ t core. IsFitRow core t} y (fits_with f (λ of q. set_over_fits i.core (start_of_denoter base) of))) (λ t j z m g. row_fits known t j z g))
    denoted_fits own inside (array p packed is element) h x =
        keeps_behind (λ is h. followed (denoted own true element h) (λ t h. array_of p.place is t h)) (indices_fit own [] is h x tt)
        (λ is i y l all. keeps_followed (λ t h. array_of p.place is t h) (denoted_fits own true element i y) (λ t j z m f. array_of_fits p.place is j z f (are_solid_on i.core j.core is m.types all)))
    denoted_fits own inside (record_ p packed lists) h x = keeps_behind (record_of p.place) (field_lists_fit own lists no_rows h x (All-nil (λ f. IsSolidType h.core f.of))) (λ r i y l a. record_fits p.place r i y a)

    indices_fit : (own : Option Name) (is : List (Option TypeId)) (ds : Denoters) (h : Here) → IsFitState h → AreSolid is h.core → Keeps AreSolid h.core (done (indices own is ds h))
    indices_fit own is no_denoters h x all = keeps_here x all
    indices_fit own is (denoters d ds) h x all =
        keeps_followed {P = IsSolid} (λ t h. indices own (t ∷ is) ds h)
        (keeps_followed (λ t h. judged h (with_part (index_over h.core (start_of_denoter d)) t)) (denoted_fits own false d h x) (λ t i y l f. keeps_checked {P = IsSolid} y (fits_with f (λ of q. index_over_fits i.core (start_of_denoter d) of q))))
        (λ t i y l f. indices_fit own (t ∷ is) ds i y (f, are_solid_on h.core i.core is l.types all))

    field_lists_fit : (own : Option Name) (lists : FieldLists) (r : FieldRows) (h : Here) → IsFitState h → AreSolidFields r h.core → Keeps AreSolidFields h.core (done (field_lists own lists r h))
    field_lists_fit own no_fields r h x a = keeps_here x a
    field_lists_fit own (fields ns d others) r h x a =
        keeps_behind {P = AreSolidFields} (λ r h. field_lists own others r h)
        (keeps_followed (λ t h. some_fields t ns r h) (denoted_fits own true d h x) (λ t i y l f. some_fields_fit ns r i y f (all_solid_on (λ f. f.of) h.core i.core l.types r.fields a)))
        (λ q i y l b. field_lists_fit own others q i y b)
