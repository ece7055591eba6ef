-- Which power of two a number is, looked for from the last one down.
use Rattle.std.proofs.Common.{◌≡◌, ℕ, zero, suc, ◌-◌, ◌^◌, ◌<◌, true, false, nat_eq, if◌then◌else◌, ap, sym, ◌∙◌, arith}
use Rattle.std.proofs.lemmas.Bool.{eq-eqb, ne_eqb}
use Rattle.op_optimize.specs.Values.{power_below}

pub power_found : (k n : ℕ) → 0 < k → n ≡ 2 ^ (k - 1) → power_below k n ≡ k - 1
unfolding power_below
power_found zero n some is = absurd (omega arith)
power_found (suc k) n some is =
    let e : suc k - 1 ≡ k = omega arith in
    let same : nat_eq n (2 ^ k) ≡ true = eq-eqb n (2 ^ k) (is ∙ ap (λ j. 2 ^ j) e) in
    ap (λ t. if t then k else power_below k n) same ∙ sym e

pub power_passed : (k n : ℕ) → 0 < k → (n ≡ 2 ^ (k - 1) → ⊥) → power_below (k - 1) n ≡ power_below k n
unfolding power_below
power_passed zero n some other = absurd (omega arith)
power_passed (suc k) n some other =
    let e : suc k - 1 ≡ k = omega arith in
    let differ : nat_eq n (2 ^ k) ≡ false = ne_eqb n (2 ^ k) (λ is. other (is ∙ ap (λ j. 2 ^ j) (sym e))) in
    ap (λ j. power_below j n) e ∙ sym (ap (λ t. if t then k else power_below k n) differ)
