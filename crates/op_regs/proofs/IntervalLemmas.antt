-- The run around the marks of a register is its interval.
use Rattle.std.proofs.Common.{◌≡◌, ◌≢◌, ◌<◌, ◌≤◌, ◌+◌, ℕ, Bool, true, false, List, [], ◌∷◌, ◌++◌, length, Option, Some, None, refl, sym, ap, ◌∙◌, subst, inl, inr, arith, length-append}
use Rattle.std.proofs.lemmas.Bool.{both_ways, cases_eq}
use Rattle.op_low.specs.declared.code.Block.{Block}
use Rattle.op_low.specs.declared.ids.VirtualRegister.{VirtualRegister}
use Rattle.op_regs.specs.Intervals.{AreIntervals, HasLive, HasMarks, HasMarksBelow, IsInterval, reaching}
use Rattle.op_regs.specs.Lines.{IsLiveLine, lines_of, starts_from}
use Rattle.op_regs.specs.Liveness.{IsLive}
use Rattle.op_regs.specs.Marking.{MarkLive, is_marked}
use Rattle.op_regs.specs.Tables.{entry}
use Rattle.op_regs.specs.declared.interval.Interval.{Interval}
use Rattle.op_regs.specs.declared.line.Line.{Line}
use Rattle.op_regs.proofs.LineLemmas.{line_live, live_line}
use Rattle.op_regs.proofs.MarkLemmas.{marked_within}
use Rattle.op_regs.proofs.TableLemmas.{entry_front, entry_last}

-- ---- marks

no_more : (marks : List Bool) (n : ℕ) (run : Option Interval) → is_marked marks n ≡ false → HasMarksBelow marks n run → HasMarksBelow marks (n + 1) run
no_more marks n None none below =
    λ p less marked.
    elim (cases_eq p n) [
      | inl e ↦ both_ways _ none (ap (is_marked marks) (sym e) ∙ marked)
      | inr apart ↦ below p (omega (arith, less, apart)) marked
    ]
no_more marks n (Some i) none below =
    record {
      first = below.first;
      last = below.last;
      below = omega (arith, below.below);
      all = λ p less marked.
          elim (cases_eq p n) [
            | inl e ↦ absurd (both_ways _ none (ap (is_marked marks) (sym e) ∙ marked))
            | inr apart ↦ below.all p (omega (arith, less, apart)) marked
          ];
    }

one_more : (marks : List Bool) (n : ℕ) (run : Option Interval) → is_marked marks n ≡ true → HasMarksBelow marks n run → HasMarksBelow marks (n + 1) (reaching true n run)
one_more marks n None one below =
    record {
      first = one;
      last = one;
      below = omega arith;
      all = λ p less marked.
          elim (cases_eq p n) [
            | inl e ↦ (omega (arith, e), omega (arith, e))
            | inr apart ↦ absurd (below p (omega (arith, less, apart)) marked)
          ];
    }
one_more marks n (Some i) one below =
    record {
      first = below.first;
      last = one;
      below = omega (arith, below.below);
      all = λ p less marked.
          elim (cases_eq p n) [
            | inl e ↦ (omega (arith, e, below.below), omega (arith, e))
            | inr apart ↦ let within : (i.first ≤ p) × (p ≤ i.last) = below.all p (omega (arith, less, apart)) marked in (within.0, omega (arith, less))
          ];
    }

pub reaches : (marks : List Bool) (n : ℕ) (run : Option Interval) (mark : Bool) → is_marked marks n ≡ mark → HasMarksBelow marks n run → HasMarksBelow marks (n + 1) (reaching mark n run)
reaches marks n run false is below = no_more marks n run is below
reaches marks n run true is below = one_more marks n run is below

-- ---- the interval of a register

pub interval_is : (blocks : List Block) (r : VirtualRegister) (lines : List Line) (marks : List Bool) (run : Option Interval) → lines ≡ lines_of (starts_from 0 blocks) r blocks → MarkLive lines marks → HasMarksBelow marks (length marks) run → IsInterval blocks r run
interval_is blocks r lines marks None are live below =
    λ p lives.
    let marked : is_marked marks p ≡ true = live.all p (subst (λ ls. IsLiveLine ls p) (sym are) (live_line blocks r p lives)) in
    below p (marked_within marks p marked) marked
interval_is blocks r lines marks (Some i) are live below =
    record {
      first = line_live blocks r i.first (subst (λ ls. IsLiveLine ls i.first) are (live.live i.first below.first));
      last = line_live blocks r i.last (subst (λ ls. IsLiveLine ls i.last) are (live.live i.last below.last));
      all = λ p lives.
          let marked : is_marked marks p ≡ true = live.all p (subst (λ ls. IsLiveLine ls p) (sym are) (live_line blocks r p lives)) in
          below.all p (marked_within marks p marked) marked;
    }

-- ---- those of all registers

pub interval_more : (blocks : List Block) (spans new : List (Option Interval)) (n : ℕ) (run : Option Interval) → AreIntervals blocks n spans → IsInterval blocks (record { 0 = n }) run → new ≡ spans ++ run ∷ [] → AreIntervals blocks (n + 1) new
interval_more blocks spans new n run so_far next is =
    record {
      each = let long : length new ≡ length (spans ++ run ∷ []) = ap length is in omega (arith, long, length-append spans (run ∷ []), so_far.each);
      intervals = λ r less.
          elim (cases_eq r.0 n) [
            | inl e ↦
                let place : r.0 ≡ length spans = e ∙ sym so_far.each in
                let there : entry new r.0 ≡ run = ap (λ t. entry t r.0) is ∙ ap (entry (spans ++ run ∷ [])) place ∙ entry_last spans run in
                let same : record { 0 = n } ≡ r = ap (λ k. record { 0 = k }) (sym e) in
                subst (IsInterval blocks r) (sym there) (subst (λ s. IsInterval blocks s run) same next)
            | inr apart ↦
                let below : r.0 < n = omega (arith, less, apart) in
                let there : entry new r.0 ≡ entry spans r.0 = ap (λ t. entry t r.0) is ∙ entry_front spans run r.0 (omega (arith, below, so_far.each)) in
                subst (IsInterval blocks r) (sym there) (so_far.intervals r below)
          ];
    }
