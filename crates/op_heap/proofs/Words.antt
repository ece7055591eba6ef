-- Words that are stored in memory.
use Rattle.std.proofs.Common.{◌≡◌, ℕ, ◌+◌, ◌-◌, ◌^◌, ◌<◌, ◌≤◌, true, false, nat_le, nat_lt, arith, cond, ◌&&◌, get_or}
use Rattle.std.specs.Int.{bytes_low_first}
use Rattle.op_rv.proofs.Memory.{four-bounded, with_bytes-outside, word_at-same, word_at-stored}
use Rattle.op_rv.specs.State.{with_bytes, word_at}

-- memory with a word at an address
abbrev pub with_word : (ℕ → ℕ) → ℕ → ℕ → ℕ → ℕ
with_word memory a v = with_bytes memory a (bytes_low_first 0 4 v)

pub byte_apart : (memory : ℕ → ℕ) (a v x : ℕ) → (a ≤ x → x < a + 4 → ⊥) → with_word memory a v x ≡ memory x
byte_apart memory a v x apart = with_bytes-outside memory a (bytes_low_first 0 4 v) x apart

pub byte_below : (memory : ℕ → ℕ) (a v x : ℕ) → x < a → with_word memory a v x ≡ memory x
byte_below memory a v x lower = byte_apart memory a v x (λ from before. omega arith)

pub byte_above : (memory : ℕ → ℕ) (a v x : ℕ) → a + 4 ≤ x → with_word memory a v x ≡ memory x
byte_above memory a v x upper = byte_apart memory a v x (λ from before. omega arith)

pub byte_small : (memory : ℕ → ℕ) (a v x : ℕ) → memory x < 2 ^ 8 → with_word memory a v x < 2 ^ 8
byte_small memory a v x old =
    elim (nat_le a x && nat_lt x (a + 4)) as (λ b. cond b (get_or (bytes_low_first 0 4 v) (x - a) 0) (memory x) < 2 ^ 8) [ true ↦ four-bounded v (x - a) | false ↦ old ]

pub word_below : (memory : ℕ → ℕ) (a v b : ℕ) → b + 4 ≤ a → word_at (with_word memory a v) b ≡ word_at memory b
word_below memory a v b lower = word_at-same memory (with_word memory a v) b (λ x from before. byte_below memory a v x (omega arith))

pub word_above : (memory : ℕ → ℕ) (a v b : ℕ) → a + 4 ≤ b → word_at (with_word memory a v) b ≡ word_at memory b
word_above memory a v b upper = word_at-same memory (with_word memory a v) b (λ x from before. byte_above memory a v x (omega arith))

pub word_there : (memory : ℕ → ℕ) (a v : ℕ) → v < 2 ^ 32 → word_at (with_word memory a v) a ≡ v
word_there memory a v fits = word_at-stored memory a v fits
