-- The first label that has a value of an earlier one is found by the tests. (The law stands here, since the judgement of a case cites it.)
use Rattle.std.proofs.Common.{◌≡◌, ℤ, pos, negsuc, ◌≤ℤ◌, ◌<ℤ◌, ◌||◌, ◌↔◌, T, inl, inr, Bool, true, false, List, [], ◌∷◌, ◌++◌, Option, Some, None, if◌then◌else◌, refl, sym, ap, subst}
use Rattle.std.proofs.Math.Facts.{ltb_yes, yes_leb}
use Rattle.std.proofs.Math.Nat.{le_of_lt}
use Rattle.std.proofs.lemmas.Bool.{and_from, and_parts, false≢true, or_cases, or_right}
use Rattle.std.proofs.lemmas.Int.{by_lt_z}
use Rattle.std.proofs.lemmas.Option.{none-some}
use Rattle.std.specs.Int.Signed.{clash_ℤ, le_z_yes, lt_z, le_z, ≤ℤ_refl, <ℤ-≤ℤ_trans}
use Rattle.std.specs.Prelude.{int_le}
use Rattle.op_base.specs.declared.place.Place.{Place}
use Rattle.op_core.proofs.Agreeing.{either_by, holds_none, lists_one, some_is}
use Rattle.op_core.specs.Relations.{Agrees, Either, Entry, Holds, Never, Only, Through, Where}
use Rattle.op_core.specs.declared.statement.Label.{Label}
use Rattle.op_judgement.proofs.Told.{has_text}
use Rattle.op_judgement.specs.Judgement.{HaveTexts, fault}
use Rattle.op_judgement.specs.declared.rules.LanguageRule.TheVariants.{LabelTwice}
use Rattle.op_check_stmt.specs.Labels.{Common, FirstMet, IsMet, NoneMet, TwiceBreaks, is_repeated, once, overlap, repeated, repeated_after}
use Rattle.op_check_stmt.specs.declared.case.Spot.{Spot}

-- ---- numbers

-- a test, and what it tells
tells : (b : Bool) → T b → b ≡ true
tells true t = refl
tells false t = absurd t

is_at_most : {a b : ℤ} → a ≤ℤ b → int_le a b ≡ true
is_at_most {a} {b} h = tells (le_z a b) h.le

pub at_most : {a b : ℤ} → int_le a b ≡ true → a ≤ℤ b
at_most e = le_z_yes (subst T (sym e) tt)

below_test : (a b : ℤ) → T (lt_z a b) → T (le_z a b)
below_test (pos a) (pos b) t = yes_leb (le_of_lt (ltb_yes t))
below_test (pos a) (negsuc b) t = t
below_test (negsuc a) (pos b) t = t
below_test (negsuc a) (negsuc b) t = yes_leb (le_of_lt (ltb_yes t))

below : {a b : ℤ} → a <ℤ b → a ≤ℤ b
below {a} {b} h = le_z_yes (below_test a b h.lt)

past : {a n b : ℤ} → a ≤ℤ n → n ≤ℤ b → a ≤ℤ b
past {a} {n} {b} h k = by_lt_z b a (λ (lt : b <ℤ a). clash_ℤ (<ℤ-≤ℤ_trans lt h) k) (λ (le : a ≤ℤ b). le)

-- ---- by a test

there : {A : Type 0} (M : Type 0) (x : A) (R : A → Type 0) (a : A) → M → Either (Where M (Only x)) (Where (M → ⊥) R) a → Some x ≡ Some a
there M x R a m (inl s) = ap Some s.1
there M x R a m (inr s) = absurd (s.0 m)

elsewhere : {A : Type 0} (M : Type 0) (x : A) (R : A → Type 0) (a : A) → (M → ⊥) → Either (Where M (Only x)) (Where (M → ⊥) R) a → R a
elsewhere M x R a never (inl s) = absurd (never s.0)
elsewhere M x R a never (inr s) = s.1

holds_if : {A : Type 0} (b : Bool) {M : Type 0} {x : A} {o : Option A} {R : A → Type 0} → ((b ≡ true) ↔ M) → Holds o R → Holds (if b then Some x else o) (Either (Where M (Only x)) (Where (M → ⊥) R))
holds_if true {M} {x} {o} {R} h k a = (λ e. inl (h.0 refl, some_is e), λ s. there M x R a (h.0 refl) s)
holds_if false {M} {x} {o} {R} h k a = (λ e. inr (λ m. false≢true (h.1 m), (k a).0 e), λ s. (k a).1 (elsewhere M x R a (λ m. false≢true (h.1 m)) s))

-- ---- labels

common : (a b : Label) → overlap a b ≡ true → Common a b
common a b t =
    let s = and_parts _ _ t in
    let q = and_parts _ _ s.0 in
    let r = and_parts _ _ q.0 in
    by_lt_z a.first b.first (λ (lt : a.first <ℤ b.first). (b.first, (below lt, at_most s.1), (≤ℤ_refl b.first, at_most r.1)))
    (λ (le : b.first ≤ℤ a.first). (a.first, (≤ℤ_refl a.first, at_most r.0), (le, at_most q.1)))

meets : (a b : Label) → Common a b → overlap a b ≡ true
meets a b c =
    and_from _ _ (and_from _ _ (and_from _ _ (is_at_most (past c.1.0 c.1.1)) (is_at_most (past c.2.0 c.2.1))) (is_at_most (past c.1.0 c.2.1))) (is_at_most (past c.2.0 c.1.1))

met : (front : List Spot) (s : Spot) → is_repeated front s ≡ true → IsMet front s
met [] s h = absurd (false≢true h)
met (b ∷ front) s h =
    either_by (common b.label s.label) (met front s) (or_cases (overlap b.label s.label) (is_repeated front s) h)

is_met : (front : List Spot) (s : Spot) → IsMet front s → is_repeated front s ≡ true
is_met [] s h = absurd h
is_met (b ∷ front) s (inl c) = ap (λ x. x || is_repeated front s) (meets b.label s.label c)
is_met (b ∷ front) s (inr m) = or_right (overlap b.label s.label) (is_repeated front s) (is_met front s m)

first_met : (front ss : List Spot) → Holds (repeated_after front ss) (FirstMet front ss)
first_met front [] = holds_none Never (λ a never. never)
first_met front (s ∷ ss) = holds_if (is_repeated front s) (met front s, is_met front s) (first_met (front ++ s ∷ []) ss)

-- ---- what has these labels

once_law : {A : Type 0} (a : Option A) (o : Option Place) (R : Place → Type 0) → Holds o R → Agrees (once a o) (Where ((place : Place) → R place → ⊥) (Entry a)) (Through R (λ place. Only (fault LabelTwice place)))
once_law a None R k =
    (λ x. (λ e. (λ p r. none-some _ ((k p).1 r), e), λ s. s.1), λ r. (λ i. elim i [ ], λ s. absurd (none-some _ ((k s.0).1 s.1))))
once_law a (Some p) R k = (
  λ x. (λ e. absurd (none-some _ e), λ s. absurd (s.0 p ((k p).0 refl))),
  λ r. (λ i. (p, (k p).0 refl, (lists_one (fault LabelTwice p) r).0 i), λ s. (lists_one (fault LabelTwice p) r).1 (subst (λ q. fault LabelTwice q ≡ r) (sym (some_is ((k s.0).1 s.1))) s.2)),
)

pub distinct_law : {A : Type 0} (a : Option A) (ss : List Spot) → Agrees (once a (repeated ss)) (Where (NoneMet ss) (Entry a)) (TwiceBreaks ss)
distinct_law a ss = once_law a (repeated ss) (FirstMet [] ss) (first_met [] ss)

-- the rule that it breaks has a text
pub once_told : {A : Type 0} (a : Option A) (o : Option Place) → HaveTexts (once a o).faults
once_told a None = tt
once_told a (Some place) = has_text LabelTwice
