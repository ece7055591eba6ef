-- The bits of a set, one after the other.
use Rattle.std.proofs.Common.{◌≡◌, ℕ, suc, ◌+◌, ◌^◌, ◌<◌, ◌≤◌, nat_eq, List, arith, ap, ◌∙◌, pow_mono}
use Rattle.std.proofs.Math.Nat.{two-pow-succ}
use Rattle.std.specs.List.{list_any}
use Rattle.op_meaning.specs.Sets.{bits_below}

-- there is room for one bit more
pub room : (n bits : ℕ) → n < 32 → bits < 2 ^ n → bits + 2 ^ n < 2 ^ 32
room n bits few small =
    let next : 2 ^ suc n ≤ 2 ^ 32 = pow_mono {i = suc n} {j = 32} (omega arith) in
    let double = two-pow-succ n in
    omega arith

pub all_bits : (es : List ℕ) (bits n : ℕ) → bits ≡ bits_below n (λ k. list_any (λ e. nat_eq e k) es) → n ≡ 32 → bits ≡ bits_below 32 (λ k. list_any (λ e. nat_eq e k) es)
all_bits es bits n are all = are ∙ ap (λ n. bits_below n (λ k. list_any (λ e. nat_eq e k) es)) all
