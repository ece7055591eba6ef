-- What the test of assignability means.
use Rattle.std.proofs.Common.{◌≡◌, ℕ, zero, suc, ◌≤◌, Bool, true, nat_eq, List, [], ◌∷◌, length, slice_get, Option, Some, None, refl, ap, subst, ◌∙◌, ◌⊎◌, inl, inr, arith}
use Rattle.std.proofs.lemmas.Bool.{eqb-true, or_cases, or_left, or_right}
use Rattle.std.proofs.lemmas.List.Folds.{Any-from_list_any, list_any-from_Any}
use Rattle.std.specs.List.{Contains}
use Rattle.std.specs.Option.{IsSomeAnd, option_and_then}
use Rattle.op_base.proofs.Tests.{eqb-itself}
use Rattle.op_core.specs.Members.{Descends, Extends, Implements}
use Rattle.op_core.specs.Rows.{rows}
use Rattle.op_core.specs.Types.{is_one_type}
use Rattle.op_core.specs.declared.class.Class.{Class as RustClass}
use Rattle.op_core.specs.declared.ids.ClassId.{ClassId}
use Rattle.op_core.specs.declared.ids.InterfaceId.{InterfaceId}
use Rattle.op_core.specs.declared.ids.TypeId.{TypeId}
use Rattle.op_core.specs.declared.program.Core.{Core}
use Rattle.op_types.specs.Assignable.{Assignable, one_type, by_sort, ChainsEnd, Depth, top, below, Fits, ordinals, char_to_string, sets, empty_set, nil, to_ancestor, to_interface, to_parent, ancestor_of, assignable, extends_any, extends_within, fits, implements_within, listed_by, listed_in, parent_of, some_above, true_of}
use Rattle.op_types.specs.Sorts.{is_text, sort_of}
use Rattle.op_types.specs.declared.sort.OrdinalKind.{OrdinalKind}
use Rattle.op_types.specs.declared.sort.OrdinalKind.TheVariants.{Integer, Boolean, Char, Enumeration}
use Rattle.op_types.specs.declared.sort.Sort.{Sort}
use Rattle.op_types.specs.declared.sort.Sort.TheVariants.{Ordinal, String, Set, EmptySet, DynamicArray, Class, Interface, Nil, Other}

-- it is the first, or stands above it
data Above {I : Type 0} (above : I → Option I) : I → I → Type 0 where
  itself : {n : I} → Above above n n
  further : {n k m : I} → above n ≡ Some k → Above above k m → Above above n m

record Found {I : Type 0} (above : I → Option I) (test : I → Bool) (n : I) : Type 0 where
  at : I
  is_above : Above above n at
  passes : test at ≡ true

found : {A I : Type 0} (steps : List A) (above : I → Option I) (test : I → Bool) (n : I) → some_above steps above test n ≡ true → Found above test n
found [] above test n h = record { at = n; is_above = itself; passes = h }
found {A} {I} (step ∷ steps) above test n h = by_cases (λ k g. found steps above test k g) (or_cases (test n) (true_of (some_above steps above test) (above n)) h)
  where
    up : ((k : I) → some_above steps above test k ≡ true → Found above test k) → (o : Option I) → above n ≡ o → true_of (some_above steps above test) o ≡ true → Found above test n
    up further_on None e g = absurd (cc)
    up further_on (Some k) e g = let f = further_on k g in record { at = f.at; is_above = further e f.is_above; passes = f.passes }

    by_cases : ((k : I) → some_above steps above test k ≡ true → Found above test k) → (test n ≡ true) ⊎ (true_of (some_above steps above test) (above n) ≡ true) → Found above test n
    by_cases further_on (inl g) = record { at = n; is_above = itself; passes = g }
    by_cases further_on (inr g) = up further_on (above n) refl g

some : {A I : Type 0} (o : Option A) (f : A → Option I) (a : I) → option_and_then f o ≡ Some a → IsSomeAnd o (λ x. f x ≡ Some a)
some None f a h = absurd (cc)
some (Some x) f a h = h

same_class : (a b : ClassId) → nat_eq a.0 b.0 ≡ true → a ≡ b
same_class a b h = let e = eqb-true a.0 b.0 h in (λ i. record { 0 = e i })

same_interface : (a b : InterfaceId) → nat_eq a.0 b.0 ≡ true → a ≡ b
same_interface a b h = let e = eqb-true a.0 b.0 h in (λ i. record { 0 = e i })

descended : (core : Core) (a b : ClassId) → Above (ancestor_of core) a b → Descends core a b
descended core a b itself = Descends.itself
descended core a b (further {k = k} e r) = Descends.further (some (slice_get core.classes a.0) (λ x. x.ancestor) k e) (descended core k b r)

extended : (core : Core) (a b : InterfaceId) → Above (parent_of core) a b → Extends core a b
extended core a b itself = Extends.itself
extended core a b (further {k = k} e r) = Extends.further (some (slice_get core.interfaces a.0) (λ x. x.ancestor) k e) (extended core k b r)

descends : (core : Core) (a b : ClassId) → Found (ancestor_of core) (λ c. nat_eq c.0 b.0) a → Descends core a b
descends core a b f = subst (Descends core a) (same_class f.at b f.passes) (descended core a f.at f.is_above)

extends : (core : Core) (a b : InterfaceId) → Found (parent_of core) (λ i. nat_eq i.0 b.0) a → Extends core a b
extends core a b f = subst (Extends core a) (same_interface f.at b f.passes) (extended core a f.at f.is_above)

lists : (core : Core) (o : Option RustClass) (i : InterfaceId) → Contains (listed_in core o) i → IsSomeAnd o (λ x. Contains (rows core.listed x.interfaces) i)
lists core None i h = absurd (omega (arith, h.1))
lists core (Some x) i h = h

implements : (core : Core) (a : ClassId) (b : InterfaceId) → Found (ancestor_of core) (λ c. extends_any core (listed_by core c) b) a → Implements core a b
implements core a b f =
    let g = Any-from_list_any (λ i. extends_within core.interfaces core i b) (listed_by core f.at) f.passes in
    record {
      lister = f.at;
      descends = descended core a f.at f.is_above;
      listed = g.1;
      lists = lists core (slice_get core.classes f.at.0) g.1 (g.0, g.2, g.3);
      extends = extends core g.1 b (found core.interfaces (parent_of core) (λ i. nat_eq i.0 b.0) g.1 g.4);
    }

char : (core : Core) (k : OrdinalKind) → is_text (Ordinal k) ≡ true → Fits core (Ordinal k) String
char core Integer h = absurd (cc)
char core Boolean h = absurd (cc)
char core Char h = char_to_string
char core (Enumeration of) h = absurd (cc)

fits_means : (core : Core) (s t : Sort) → fits core s t ≡ true → Fits core s t
fits_means core (Ordinal a) (Ordinal b) h = ordinals h
fits_means core (Ordinal a) String h = char core a h
fits_means core (Ordinal a) (Set b) h = absurd (cc)
fits_means core (Ordinal a) EmptySet h = absurd (cc)
fits_means core (Ordinal a) DynamicArray h = absurd (cc)
fits_means core (Ordinal a) (Class b) h = absurd (cc)
fits_means core (Ordinal a) (Interface b) h = absurd (cc)
fits_means core (Ordinal a) Nil h = absurd (cc)
fits_means core (Ordinal a) Other h = absurd (cc)
fits_means core (Set a) (Ordinal b) h = absurd (cc)
fits_means core (Set a) String h = absurd (cc)
fits_means core (Set a) (Set b) h = sets h
fits_means core (Set a) EmptySet h = absurd (cc)
fits_means core (Set a) DynamicArray h = absurd (cc)
fits_means core (Set a) (Class b) h = absurd (cc)
fits_means core (Set a) (Interface b) h = absurd (cc)
fits_means core (Set a) Nil h = absurd (cc)
fits_means core (Set a) Other h = absurd (cc)
fits_means core EmptySet (Ordinal b) h = absurd (cc)
fits_means core EmptySet String h = absurd (cc)
fits_means core EmptySet (Set b) h = empty_set
fits_means core EmptySet EmptySet h = absurd (cc)
fits_means core EmptySet DynamicArray h = absurd (cc)
fits_means core EmptySet (Class b) h = absurd (cc)
fits_means core EmptySet (Interface b) h = absurd (cc)
fits_means core EmptySet Nil h = absurd (cc)
fits_means core EmptySet Other h = absurd (cc)
fits_means core (Class a) (Ordinal b) h = absurd (cc)
fits_means core (Class a) String h = absurd (cc)
fits_means core (Class a) (Set b) h = absurd (cc)
fits_means core (Class a) EmptySet h = absurd (cc)
fits_means core (Class a) DynamicArray h = absurd (cc)
fits_means core (Class a) (Class b) h = to_ancestor (descends core a b (found core.classes (ancestor_of core) (λ c. nat_eq c.0 b.0) a h))
fits_means core (Class a) (Interface b) h = to_interface (implements core a b (found core.classes (ancestor_of core) (λ c. extends_any core (listed_by core c) b) a h))
fits_means core (Class a) Nil h = absurd (cc)
fits_means core (Class a) Other h = absurd (cc)
fits_means core (Interface a) (Ordinal b) h = absurd (cc)
fits_means core (Interface a) String h = absurd (cc)
fits_means core (Interface a) (Set b) h = absurd (cc)
fits_means core (Interface a) EmptySet h = absurd (cc)
fits_means core (Interface a) DynamicArray h = absurd (cc)
fits_means core (Interface a) (Class b) h = absurd (cc)
fits_means core (Interface a) (Interface b) h = to_parent (extends core a b (found core.interfaces (parent_of core) (λ i. nat_eq i.0 b.0) a h))
fits_means core (Interface a) Nil h = absurd (cc)
fits_means core (Interface a) Other h = absurd (cc)
fits_means core Nil t h = nil h
fits_means core String t h = absurd (cc)
fits_means core DynamicArray t h = absurd (cc)
fits_means core Other t h = absurd (cc)

-- what passes the test is assignable
pub is_assignable : (core : Core) (from to : TypeId) → assignable core from to ≡ true → Assignable core from to
is_assignable core from to h = by_cases (or_cases (is_one_type core.types from to) (fits core (sort_of core from) (sort_of core to)) h)
  where
    by_cases : (is_one_type core.types from to ≡ true) ⊎ (fits core (sort_of core from) (sort_of core to) ≡ true) → Assignable core from to
    by_cases (inl g) = one_type g
    by_cases (inr g) = by_sort (fits_means core (sort_of core from) (sort_of core to) g)

-- ---- and conversely, where chains of ancestors end

found_by : {A I : Type 0} (steps : List A) (above : I → Option I) (test : I → Bool) (n m : I) (k : ℕ) → Depth above n k → k ≤ length steps → Above above n m → test m ≡ true → some_above steps above test n ≡ true
found_by [] above test n m k d l itself t = t
found_by [] above test n m zero (top e) l (further f r) t = absurd (cc)
found_by [] above test n m (suc k) (below e d) l (further f r) t = absurd (omega (arith, l))
found_by (step ∷ steps) above test n m k d l itself t = or_left (test n) (true_of (some_above steps above test) (above n)) t
found_by (step ∷ steps) above test n m zero (top e) l (further f r) t = absurd (cc)
found_by {A} {I} (step ∷ steps) above test n m (suc k) (below {m = p} e d) l (further {k = q} f r) t =
    or_right (test n) (true_of (some_above steps above test) (above n))
    (ap (true_of (some_above steps above test)) e ∙ found_by steps above test p m k d (omega (arith, l)) (subst (λ x. Above above x m) same r) t)
  where
    same : q ≡ p
    same = cc

some_back : {A I : Type 0} (o : Option A) (f : A → Option I) (a : I) → IsSomeAnd o (λ x. f x ≡ Some a) → option_and_then f o ≡ Some a
some_back None f a h = absurd h
some_back (Some x) f a h = h

rises : (core : Core) (a b : ClassId) → Descends core a b → Above (ancestor_of core) a b
rises core a b Descends.itself = itself
rises core a b (Descends.further {a = k} h d) = further (some_back (slice_get core.classes a.0) (λ x. x.ancestor) k h) (rises core k b d)

mounts : (core : Core) (a b : InterfaceId) → Extends core a b → Above (parent_of core) a b
mounts core a b Extends.itself = itself
mounts core a b (Extends.further {a = k} h d) = further (some_back (slice_get core.interfaces a.0) (λ x. x.ancestor) k h) (mounts core k b d)

extends_back : (core : Core) (a b : InterfaceId) → ChainsEnd core → Extends core a b → extends_within core.interfaces core a b ≡ true
extends_back core a b ends h = let e = ends.interfaces a in found_by core.interfaces (parent_of core) (λ i. nat_eq i.0 b.0) a b e.0 e.1 e.2 (mounts core a b h) (eqb-itself b.0)

listed_back : (core : Core) (o : Option RustClass) (i : InterfaceId) → IsSomeAnd o (λ x. Contains (rows core.listed x.interfaces) i) → Contains (listed_in core o) i
listed_back core None i h = absurd h
listed_back core (Some x) i h = h

implements_back : (core : Core) (a : ClassId) (b : InterfaceId) → ChainsEnd core → Implements core a b → implements_within core.classes core a b ≡ true
implements_back core a b ends h =
    let e = ends.classes a in
    let c = listed_back core (slice_get core.classes h.lister.0) h.listed h.lists in
    found_by core.classes (ancestor_of core) (λ c. extends_any core (listed_by core c) b) a h.lister e.0 e.1 e.2 (rises core a h.lister h.descends)
    (list_any-from_Any (λ i. extends_within core.interfaces core i b) (listed_by core h.lister) (c.0, h.listed, c.1, c.2, extends_back core h.listed b ends h.extends))

fits_by : (core : Core) (s t : Sort) → ChainsEnd core → Fits core s t → fits core s t ≡ true
fits_by core s t ends (ordinals h) = h
fits_by core s t ends char_to_string = refl
fits_by core s t ends (sets h) = h
fits_by core s t ends empty_set = refl
fits_by core s t ends (nil h) = h
fits_by core s t ends (to_ancestor {a = a} {b = b} h) = let e = ends.classes a in found_by core.classes (ancestor_of core) (λ c. nat_eq c.0 b.0) a b e.0 e.1 e.2 (rises core a b h) (eqb-itself b.0)
fits_by core s t ends (to_interface {a = a} {b = b} h) = implements_back core a b ends h
fits_by core s t ends (to_parent {a = a} {b = b} h) = extends_back core a b ends h

pub assignable_by : (core : Core) (from to : TypeId) → ChainsEnd core → Assignable core from to → assignable core from to ≡ true
assignable_by core from to ends (one_type h) = or_left (is_one_type core.types from to) (fits core (sort_of core from) (sort_of core to)) h
assignable_by core from to ends (by_sort h) = or_right (is_one_type core.types from to) (fits core (sort_of core from) (sort_of core to)) (fits_by core (sort_of core from) (sort_of core to) ends h)
