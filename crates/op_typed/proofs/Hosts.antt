-- The types in which values are counted and selected, and which values are such.
use Rattle.std.proofs.Common.{◌≡◌, inl, inr, ◌⊎◌, ℤ, Bool, true, false, IsTrue, Option, Some, None, refl, sym, ap, subst, ◌∙◌}
use Rattle.std.proofs.lemmas.Bool.{eq-eqb, false≢true, or_cases, or_right}
use Rattle.std.specs.Option.{IsSomeAnd}
use Rattle.op_typed.proofs.Trees.{no_range, one_exact}
use Rattle.op_check_stmt.specs.Procedure.{is_text}
use Rattle.op_check_stmt.specs.Variable.{host_by, host_of}
use Rattle.op_core.specs.Expression.{Expression, expression, Action, field, index, Steps, no_steps, steps}
use Rattle.op_core.specs.Sizes.{range_of, type_at}
use Rattle.op_core.specs.Sound.{IsFounded, is_whole}
use Rattle.op_core.specs.StatementTyping as typing
use Rattle.op_core.specs.StatementTyping.{Bounds, IsText, host}
use Rattle.op_core.specs.Typing.{IsOrdinal, OneType, Within, is_place, is_place_after, leads_on}
use Rattle.op_core.specs.declared.ids.TypeId.{TypeId}
use Rattle.op_core.specs.declared.program.Core.{Core}
use Rattle.op_core.specs.declared.types.CoreType.{CoreType}
use Rattle.op_core.specs.declared.types.CoreType.TheVariants as type
use Rattle.op_core.specs.declared.types.IntegerKind.TheVariants.{Signed32}
use Rattle.op_typed.proofs.Fitting.{number_in}
use Rattle.op_typed.proofs.Sorting.{stands_as}
use Rattle.op_typed.proofs.TypeFacts.{InKind, integer_kind, own_kind, same_kinds}
use Rattle.op_types.specs.Assignable as types
use Rattle.op_types.specs.Assignable.{assignable}
use Rattle.op_types.specs.Operators as table
use Rattle.op_types.specs.Sorts.{by_kind, kind_by, kind_of, root_by, same_kind, sort_by, sort_of}
use Rattle.op_typed.specs.Standing.{IsSoundConstant}
use Rattle.op_types.specs.Values.{number_of}
use Rattle.op_types.specs.declared.constant.Constant.{Constant}
use Rattle.op_types.specs.declared.sort.OrdinalKind.{OrdinalKind}
use Rattle.op_types.specs.declared.sort.OrdinalKind.TheVariants.{Integer, Boolean, Char, Enumeration}
use Rattle.op_types.specs.declared.sort.Sort.{Sort}
use Rattle.op_types.specs.declared.sort.Sort.TheVariants.{Ordinal, String}

-- ---- places

leads_more : (t : Option CoreType) (a : Action) {b c : Bool} → (b ≡ true → c ≡ true) → leads_on false t a b ≡ true → leads_on true t a c ≡ true
leads_more (Some (type.Class x)) (field f) g h = refl
leads_more (Some (type.Record fields)) (field f) g h = g h
leads_more (Some (type.Array at element)) (index i) g h = g h
leads_more (Some (type.OpenArray element)) (index i) g h = g h
leads_more (Some (type.DynamicArray element)) (index i) g h = refl
leads_more (Some type.String) (index i) g h = absurd (false≢true h)
leads_more t a g h = absurd (false≢true h)

leads_further : (core : Core) (of : TypeId) (ss : Steps) {b c : Bool} → (b ≡ true → c ≡ true) → is_place_after false core of ss b ≡ true → is_place_after true core of ss c ≡ true
leads_further core of no_steps g h = g h
leads_further core of (steps action next others) g h = leads_further core next others (leads_more (type_at core of) action g) h

-- where characters are no places, all the less
pub place_with_characters : (core : Core) (e : Expression) → IsTrue (is_place false core e) → IsTrue (is_place true core e)
place_with_characters core (expression root of others) h = leads_further core of others (λ b. b) h

-- ---- types of all values of a kind

-- only an ordinal type itself is one with it
pub one_ordinal : (core : Core) (a b : TypeId) → IsOrdinal core b → OneType core a b → a ≡ b
one_ordinal core a b h e = one_exact core a b (no_range (type_at core b) h) e

-- the kind of such a type
pub record HasKind (core : Core) (of : TypeId) : Type 0 where
  pub kind : OrdinalKind
  pub is : kind_of core of ≡ Some kind
  pub sort : sort_of core of ≡ Ordinal kind
  pub ordinal : IsOrdinal core of
  pub values : (n : ℤ) → InKind core kind n → IsSomeAnd (range_of (type_at core of)) (λ r. Within r n)

kinded : (core : Core) (of : TypeId) (t : CoreType) (kind : OrdinalKind) → type_at core of ≡ Some t → kind_of core of ≡ Some kind → sort_by core of (Some t) ≡ sort_by core of None → IsSomeAnd (range_of (Some t)) (λ r. Unit {0}) → ((n : ℤ) → InKind core kind n → IsSomeAnd (range_of (Some t)) (λ r. Within r n)) → HasKind core of
kinded core of t kind e h s o v = record {
  kind = kind;
  is = h;
  sort = ap (sort_by core of) e ∙ s ∙ ap (by_kind Ordinal) h;
  ordinal = rw e o;
  values = λ n i. rw e (v n i);
}

whole_kind : (core : Core) (of : TypeId) (t : Option CoreType) → type_at core of ≡ t → IsTrue (is_whole t) → HasKind core of
whole_kind core of (Some (type.Integer Signed32)) e w = kinded core of (type.Integer Signed32) Integer e (own_kind core of (Some (type.Integer Signed32)) e refl) refl tt (λ n i. i)
whole_kind core of (Some type.Boolean) e w = kinded core of type.Boolean Boolean e (own_kind core of (Some type.Boolean) e refl) refl tt (λ n i. i)
whole_kind core of (Some type.Char) e w = kinded core of type.Char Char e (own_kind core of (Some type.Char) e refl) refl tt (λ n i. i)
whole_kind core of (Some (type.Enumeration count)) e w =
    kinded core of (type.Enumeration count) (Enumeration of) e (own_kind core of (Some (type.Enumeration count)) e refl) refl tt (λ n i. subst (λ t. IsSomeAnd (range_of t) (λ r. Within r n)) e i)
whole_kind core of t e w = absurd (false≢true w)

pub kind_of_whole : (core : Core) (of : TypeId) → IsTrue (is_whole (type_at core of)) → HasKind core of
kind_of_whole core of w = whole_kind core of (type_at core of) refl w

-- ---- hosts

-- the type that values of an ordinal type are counted in
pub record IsHosted (core : Core) (of to : TypeId) : Type 0 where
  pub whole : IsTrue (is_whole (type_at core to))
  pub same : kind_of core to ≡ kind_of core of
  pub bounds : Bounds core of (type_at core of) to

hosted_by : (core : Core) (of : TypeId) → IsFounded core → (k : OrdinalKind) → kind_of core of ≡ Some k → (t : Option CoreType) → type_at core of ≡ t → IsHosted core of (host_by of t)
hosted_by core of f k h (Some (type.Integer kind)) e = record {
  whole = ap is_whole (integer_kind f);
  same = own_kind core table.integer (Some (type.Integer Signed32)) (integer_kind f) refl ∙ sym (own_kind core of (Some (type.Integer kind)) e refl);
  bounds = rw e (integer_kind f);
}
hosted_by core of f k h (Some (type.Subrange base low high)) e =
    let w = (f.types of.0 (type.Subrange base low high) e).3 in
    record {
      whole = w;
      same = own_whole base (type_at core base) refl w ∙ sym (ap (λ t. kind_by (root_by of t) (type_at core (root_by of t))) e);
      bounds = rw e refl;
    }
  where
    own_whole : (base : TypeId) (t : Option CoreType) → type_at core base ≡ t → IsTrue (is_whole t) → kind_of core base ≡ kind_by base (type_at core base)
    own_whole base (Some (type.Integer kind)) g w = own_kind core base (Some (type.Integer kind)) g refl ∙ sym (ap (kind_by base) g)
    own_whole base (Some type.Boolean) g w = own_kind core base (Some type.Boolean) g refl ∙ sym (ap (kind_by base) g)
    own_whole base (Some type.Char) g w = own_kind core base (Some type.Char) g refl ∙ sym (ap (kind_by base) g)
    own_whole base (Some (type.Enumeration count)) g w = own_kind core base (Some (type.Enumeration count)) g refl ∙ sym (ap (kind_by base) g)
    own_whole base t g w = absurd (false≢true w)
hosted_by core of f k h (Some type.Boolean) e = record { whole = ap is_whole e; same = refl; bounds = rw e (refl, rw e tt) }
hosted_by core of f k h (Some type.Char) e = record { whole = ap is_whole e; same = refl; bounds = rw e (refl, rw e tt) }
hosted_by core of f k h (Some (type.Enumeration count)) e = record { whole = ap is_whole e; same = refl; bounds = rw e (refl, rw e tt) }
hosted_by core of f k h t e = let g = own_kind core of t e refl in absurd (cc)

pub hosted : {core : Core} (of : TypeId) {k : OrdinalKind} → IsFounded core → sort_of core of ≡ Ordinal k → IsHosted core of (host_of core of)
hosted {core} of {k} f s = hosted_by core of f k (stands_as core of (Ordinal k) s).1 (type_at core of) refl

kind_itself : (k : OrdinalKind) → same_kind k k ≡ true
kind_itself Integer = refl
kind_itself Boolean = refl
kind_itself Char = refl
kind_itself (Enumeration of) = eq-eqb of.0 of.0 refl

-- a value is one of its host
pub goes_to_host : {core : Core} (of : TypeId) {k : OrdinalKind} → IsFounded core → sort_of core of ≡ Ordinal k → assignable core of (host_of core of) ≡ true
goes_to_host {core} of {k} f s =
    let h = hosted of f s in
    let to = kind_of_whole core (host_of core of) h.whole in
    let e : to.kind ≡ k = some_is (sym to.is ∙ h.same ∙ (stands_as core of (Ordinal k) s).1) in
    or_right _ _ (subst (λ x. types.fits core x (sort_of core (host_of core of)) ≡ true) (sym s) (subst (λ x. types.fits core (Ordinal k) x ≡ true) (sym (to.sort ∙ ap Ordinal e)) (kind_itself k)))
  where
    some_is : {A : Type 0} {a b : A} → Some a ≡ Some b → a ≡ b
    some_is e = cc

-- ---- constants

-- what goes to a type of all values of a kind is of that kind
goes_by : (core : Core) (from : TypeId) (k : OrdinalKind) (s : Sort) → sort_of core from ≡ s → types.fits core s (Ordinal k) ≡ true → kind_of core from ≡ Some k
goes_by core from k (Ordinal a) e h = (stands_as core from (Ordinal a) e).1 ∙ ap Some (same_kinds a k h)
goes_by core from k s e h = absurd (false≢true h)

goes_of : (core : Core) (from of : TypeId) (to : HasKind core of) → assignable core from of ≡ true → kind_of core from ≡ Some to.kind
goes_of core from of to a = by (or_cases _ _ a)
  where
    by : (OneType core from of) ⊎ (types.fits core (sort_of core from) (sort_of core of) ≡ true) → kind_of core from ≡ Some to.kind
    by (inl e) = ap (kind_of core) (one_ordinal core from of to.ordinal e) ∙ to.is
    by (inr e) = goes_by core from to.kind (sort_of core from) refl (subst (λ s. types.fits core (sort_of core from) s ≡ true) to.sort e)

-- a constant that goes to a type of all values of a kind is one of them
pub number_within : {core : Core} (of : TypeId) → IsFounded core → IsTrue (is_whole (type_at core of)) → (c : Constant) → IsSoundConstant core c → assignable core c.of of ≡ true → IsSomeAnd (range_of (type_at core of)) (λ r. Within r (number_of c.value))
number_within {core} of f w c h a =
    let to = kind_of_whole core of w in
    let k = goes_of core c.of of to a in
    to.values (number_of c.value) (number_in c.of c.value to.kind f k h)

-- ---- what is written

text_base : (base : TypeId) (k : OrdinalKind) (t : Option CoreType) → kind_by base t ≡ Some k → is_text (Ordinal k) ≡ true → IsTrue (typing.is_text t)
text_base base k (Some (type.Integer kind)) h e = refl
text_base base k (Some type.Boolean) h e = refl
text_base base k (Some type.Char) h e = refl
text_base base Integer (Some (type.Enumeration count)) h e = absurd (cc)
text_base base Boolean (Some (type.Enumeration count)) h e = absurd (cc)
text_base base Char (Some (type.Enumeration count)) h e = absurd (cc)
text_base base (Enumeration of) (Some (type.Enumeration count)) h e = absurd (false≢true e)
text_base base k t h e = absurd (cc)

text_kind : (core : Core) (of : TypeId) (k : OrdinalKind) → is_text (Ordinal k) ≡ true → kind_of core of ≡ Some k → (t : Option CoreType) → type_at core of ≡ t → IsTrue (typing.is_text (host core t))
text_kind core of k e h (Some (type.Subrange base low high)) g = text_base base k (type_at core base) (sym (ap (λ t. kind_by (root_by of t) (type_at core (root_by of t))) g) ∙ h) e
text_kind core of k e h t g = text_base of k t (sym (own_kind core of t g refl) ∙ h) e

text_sort : (core : Core) (of : TypeId) (s : Sort) → sort_of core of ≡ s → is_text s ≡ true → IsText core of
text_sort core of (Ordinal k) h e = text_kind core of k e (stands_as core of (Ordinal k) h).1 (type_at core of) refl
text_sort core of String h e = ap (λ t. typing.is_text (host core t)) (stands_as core of String h)
text_sort core of s h e = absurd (false≢true e)

pub text_of : (core : Core) (of : TypeId) → is_text (sort_of core of) ≡ true → IsText core of
text_of core of e = text_sort core of (sort_of core of) refl e
