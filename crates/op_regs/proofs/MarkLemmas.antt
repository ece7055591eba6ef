-- Marks are put at live positions alone, and where none lacks all of these have one.
use Rattle.std.proofs.Common.{◌≡◌, ◌≢◌, ◌<◌, ◌≤◌, ◌+◌, ℕ, zero, suc, Bool, true, false, ◌||◌, ◌&&◌, not, List, [], ◌∷◌, length, cond, get_or, Option, Some, None, slice_get, refl, sym, ap, ◌∙◌, subst, inl, inr, arith}
use Rattle.std.specs.Prelude.{if◌then◌else◌, replicate}
use Rattle.std.proofs.Math.ListN.{set}
use Rattle.std.proofs.lemmas.Bool.{and_cases, and_from, and_parts, both_ways, cases_Bool, cases_eq, not-false, not-true, or_cases, or_left, or_right}
use Rattle.std.proofs.lemmas.List.{length-set}
use Rattle.std.proofs.lemmas.List.Sums.{sum_by-set}
use Rattle.std.proofs.lemmas.Option.{slice_get-get_or, slice_get_past}
use Rattle.op_regs.specs.Lines.{IsLiveLine, LinePasses, LineReads, LineTurns}
use Rattle.op_regs.specs.Marking.{AreLive, AreMarked, is_marked, is_marked_at, lacks, lacks_at, leads, or_false, unmarked, with_mark}
use Rattle.op_regs.specs.declared.line.Line.{Line}
use Rattle.op_regs.proofs.TableLemmas.{counted}

-- ---- a mark more

is_marked-set_same : (marks : List Bool) (p : ℕ) → p < length marks → is_marked (set marks p true) p ≡ true
is_marked-set_same [] p less = absurd (omega (arith, less))
is_marked-set_same (m ∷ ms) zero less = refl
is_marked-set_same (m ∷ ms) (suc p) less = is_marked-set_same ms p (omega (arith, less))

is_marked-set_other : (marks : List Bool) (q p : ℕ) → q ≢ p → is_marked (set marks p true) q ≡ is_marked marks q
is_marked-set_other [] q p apart = refl
is_marked-set_other (m ∷ ms) zero zero apart = absurd (apart refl)
is_marked-set_other (m ∷ ms) zero (suc p) apart = refl
is_marked-set_other (m ∷ ms) (suc q) zero apart = refl
is_marked-set_other (m ∷ ms) (suc q) (suc p) apart = is_marked-set_other ms q p (λ e. apart (ap suc e))

pub marked_within : (marks : List Bool) (p : ℕ) → is_marked marks p ≡ true → p < length marks
marked_within [] p e = absurd cc
marked_within (m ∷ ms) zero e = omega arith
marked_within (m ∷ ms) (suc p) e = omega (arith, marked_within ms p e)

pub no_marks : (n p : ℕ) → is_marked (replicate n false) p ≡ true → ⊥
no_marks zero p e = absurd cc
no_marks (suc n) zero e = absurd cc
no_marks (suc n) (suc p) e = no_marks n p e

-- ---- which marks are missing

lead_live : (lines : List Line) (marks : List Bool) (p : ℕ) (line : Line) → AreLive lines marks → slice_get lines p ≡ Some line → leads marks p line ≡ true → IsLiveLine lines p
lead_live lines marks p line live is lead =
    elim (or_cases _ _ lead) [
      | inl first ↦ elim (or_cases _ _ first) [
        | inl read ↦ LineReads is read
        | inr passed ↦ let both : (line.passes ≡ true) × (is_marked marks (p + 1) ≡ true) = and_parts _ _ passed in LinePasses is both.0 (live (p + 1) both.1)
      ]
      | inr turned ↦ turns line.other refl turned
    ]
  where
    turns : (o : Option ℕ) → line.other ≡ o → is_marked_at marks o ≡ true → IsLiveLine lines p
    turns None e marked = absurd cc
    turns (Some q) e marked = LineTurns is e (live q marked)

lack_is : (marks : List Bool) (p : ℕ) (o : Option Line) → lacks_at marks p o ≡ true → (line : Line) × (o ≡ Some line) × (is_marked marks p ≡ false) × (leads marks p line ≡ true)
lack_is marks p None e = absurd cc
lack_is marks p (Some line) e = let both : (not (is_marked marks p) ≡ true) × (leads marks p line ≡ true) = and_parts _ _ e in (line, refl, not-true _ both.0, both.1)

lack_there : (lines : List Line) (marks : List Bool) (p : ℕ) → lacks lines marks p ≡ true → (line : Line) × (slice_get lines p ≡ Some line) × (is_marked marks p ≡ false) × (leads marks p line ≡ true)
unfolding lacks
lack_there lines marks p lack = lack_is marks p (slice_get lines p) lack

marked_here : (lines : List Line) (marks : List Bool) (p : ℕ) (line : Line) → lacks lines marks p ≡ false → slice_get lines p ≡ Some line → leads marks p line ≡ true → is_marked marks p ≡ true
unfolding lacks
marked_here lines marks p line none is lead =
    let e : (not (is_marked marks p) && leads marks p line) ≡ false = ap (lacks_at marks p) (sym is) ∙ none in
    elim (and_cases _ _ e) [
      | inl marked ↦ not-false _ marked
      | inr no_lead ↦ absurd (both_ways _ no_lead lead)
    ]

pub all_marked : (lines : List Line) (marks : List Bool) → ((p : ℕ) → lacks lines marks p ≡ false) → (p : ℕ) → IsLiveLine lines p → is_marked marks p ≡ true
all_marked lines marks none p (LineReads {line = line} is read) = marked_here lines marks p line (none p) is (or_left _ _ (or_left _ _ read))
all_marked lines marks none p (LinePasses {line = line} is passes on) =
    marked_here lines marks p line (none p) is (or_left _ _ (or_right _ _ (and_from _ _ passes (all_marked lines marks none (p + 1) on))))
all_marked lines marks none p (LineTurns {q = q} {line = line} is other on) =
    marked_here lines marks p line (none p) is (or_right _ _ (ap (is_marked_at marks) other ∙ all_marked lines marks none q on))

-- ---- a pass

pub pass_begins : (lines : List Line) (marks : List Bool) → length marks ≡ length lines → AreMarked lines marks marks false (length lines)
unfolding lacks
pass_begins lines marks each =
    record {
      each = each;
      keeps = λ live. live;
      fewer = λ e. absurd cc;
      same = λ e. refl;
      none_lacks = λ e p past. ap (lacks_at marks p) (slice_get_past lines p past);
    }

unmarked_less : (marks : List Bool) (p : ℕ) → p < length marks → is_marked marks p ≡ false → unmarked (set marks p true) + 1 ≡ unmarked marks
unmarked_less marks p less none =
    let here : get_or marks p true ≡ false = sym (ap or_false (slice_get-get_or marks p true less)) ∙ none in
    let counts : counted (not (get_or marks p true)) ≡ 1 = ap (λ m. counted (not m)) here in
    let sums : unmarked (set marks p true) + counted (not (get_or marks p true)) ≡ unmarked marks + 0 = sum_by-set (λ m. cond (not m) 1 0) marks p true true less in
    omega (arith, counts, sums)

pass_more : (lines : List Line) (old now new : List Bool) (changes : Bool) (before p : ℕ) → AreMarked lines old now changes before → p < length lines → lacks lines now p ≡ true → new ≡ set now p true → AreMarked lines old new true p
pass_more lines old now new changes before p so_far less lack is =
    let (line, there, unmarked_here, lead) = lack_there lines now p lack in
    let inside : p < length now = omega (arith, so_far.each, less) in
    record {
      each = ap length is ∙ length-set now p true ∙ so_far.each;
      keeps = λ live q marked.
          elim (cases_eq q p) [
            | inl e ↦ subst (IsLiveLine lines) (sym e) (lead_live lines now p line (so_far.keeps live) there lead)
            | inr apart ↦ so_far.keeps live q (sym (is_marked-set_other now q p apart) ∙ ap (λ ms. is_marked ms q) (sym is) ∙ marked)
          ];
      fewer = λ e.
          let less_now : unmarked new + 1 ≡ unmarked now = ap (λ ms. unmarked ms + 1) is ∙ unmarked_less now p inside unmarked_here in
          elim (cases_Bool changes) [
            | inl changed ↦ omega (arith, less_now, so_far.fewer changed)
            | inr as_it_was ↦ let same : unmarked now ≡ unmarked old = ap unmarked (so_far.same as_it_was) in omega (arith, less_now, same)
          ];
      same = λ e. absurd cc;
      none_lacks = λ e. absurd cc;
    }

pass_same : (lines : List Line) (old now : List Bool) (changes : Bool) (before p : ℕ) → AreMarked lines old now changes before → before ≤ p + 1 → lacks lines now p ≡ false → AreMarked lines old now changes p
pass_same lines old now changes before p so_far next none =
    record {
      each = so_far.each;
      keeps = so_far.keeps;
      fewer = so_far.fewer;
      same = so_far.same;
      none_lacks = λ e q from.
          elim (cases_eq q p) [
            | inl here ↦ ap (lacks lines now) here ∙ none
            | inr apart ↦ so_far.none_lacks e q (omega (arith, next, from, apart))
          ];
    }

pub pass_goes_on : (lines : List Line) (old now new : List Bool) (changes changed : Bool) (before p : ℕ) → AreMarked lines old now changes before → before ≤ p + 1 → p < length lines → new ≡ with_mark lines p now → changed ≡ (if lacks lines now p then true else changes) → AreMarked lines old new changed p
pass_goes_on lines old now new changes changed before p so_far next less is turns =
    elim (cases_Bool (lacks lines now p)) [
      | inl lack ↦
          let made : new ≡ set now p true = is ∙ ap (λ b. if b then set now p true else now) lack in
          let does : changed ≡ true = turns ∙ ap (λ b. if b then true else changes) lack in
          subst (λ b. AreMarked lines old new b p) (sym does) (pass_more lines old now new changes before p so_far less lack made)
      | inr none ↦
          let kept : new ≡ now = is ∙ ap (λ b. if b then set now p true else now) none in
          let stays : changed ≡ changes = turns ∙ ap (λ b. if b then true else changes) none in
          subst (λ ms. AreMarked lines old ms changed p) (sym kept) (subst (λ b. AreMarked lines old now b p) (sym stays) (pass_same lines old now changes before p so_far next none))
    ]

-- what a list has at a place is the mark there
pub marked_is : (marks : List Bool) (p : ℕ) (d : Bool) → p < length marks → is_marked marks p ≡ get_or marks p d
marked_is marks p d less = ap or_false (slice_get-get_or marks p d less)
