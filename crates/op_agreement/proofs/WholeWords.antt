-- Whole words in memory: what is rounded up to them, and a word that is stored.
use Rattle.std.proofs.Common.{◌≡◌, ◌≤◌, ◌<◌, ℕ, ◌+◌, ◌-◌, List, ◌∷◌, length, ap, ◌∙◌, arith, cond, get_or, ◌⊎◌, inl, inr, sym, subst, refl}
use Rattle.std.specs.Prelude.{◌^◌, ◌%◌, pos, true, false, ◌&&◌, nat_le, nat_lt}
use Rattle.std.specs.Int.{bytes_low_first}
use Rattle.std.proofs.lemmas.Bool.{cond-true, cases_lt}
use Rattle.std.proofs.lemmas.Grind.{div_ceil_times}
use Rattle.op_compute.specs.Straight.{at}
use Rattle.op_places.specs.Homes.{rounded}
use Rattle.op_low.specs.Machine.{act, store}
use Rattle.op_low.specs.State.{State, bad, usable}
use Rattle.op_low.specs.declared.ids.VirtualRegister.{VirtualRegister}
use Rattle.op_low.specs.declared.instruction.Instruction.{Instruction as LowInstruction}
use Rattle.op_low.specs.declared.instruction.Instruction.TheVariants.{Store as StoreWord}
use Rattle.op_rv.proofs.Memory.{byte_from, four-bounded, length-bytes_from, with_bytes-below, with_bytes-outside, with_bytes-within}
use Rattle.op_rv.specs.State.{bytes_from, with_bytes}
use Rattle.op_rv.specs.Step.{can_access, offset_from}
use Rattle.op_rv.specs.declared.instruction.StoreOp.TheVariants.{Sw}
use Rattle.op_agreement.proofs.Going.{Goes, goes_one, goes_to}
use Rattle.op_agreement.proofs.Memory.{may_access}
use Rattle.op_agreement.specs.Settings.{Setting}

-- ---- whole words

-- some bytes take a word at least, and all of them
pub rounded_some : (size : ℕ) → 0 < size → (4 ≤ rounded size) × (size ≤ rounded size)
rounded_some size some = let (least, most) = div_ceil_times size 4 (omega arith) in (omega arith, least)

-- they take no more than there is up to where something else stands by whole words
pub rounded_within : (a b size : ℕ) → a % 4 ≡ 0 → b % 4 ≡ 0 → a + size ≤ b → a + rounded size ≤ b
rounded_within a b size whole other within = let (least, most) = div_ceil_times size 4 (omega arith) in omega arith

-- ---- memory

-- bytes that are stored below a limit are bytes there
pub bytes_stored : (limit : ℕ) (memory : ℕ → ℕ) (a : ℕ) (bytes : List ℕ) → ((x : ℕ) → x < limit → memory x < 2 ^ 8) → ((k : ℕ) → get_or bytes k 0 < 2 ^ 8) → (x : ℕ) → x < limit → with_bytes memory a bytes x < 2 ^ 8
bytes_stored limit memory a bytes old new x low =
    elim (nat_le a x && nat_lt x (a + length bytes)) as (λ b. cond b (get_or bytes (x - a) 0) (memory x) < 2 ^ 8) [ true ↦ new (x - a) | false ↦ old x low ]

-- a word is stored
pub word_stores : (g : Setting) (l : State) (h : ℕ → ℕ) (from base : VirtualRegister) (off a v : ℕ) (rest : List LowInstruction) → h base.0 + off ≡ a → h from.0 ≡ v → a % 4 ≡ 0 → a + 4 ≤ l.limit → a < 2 ^ 32 → ((x : ℕ) → a ≤ x → x < a + 4 → g.placement.rights.writable x ≡ true) → Goes g 1 1 (at l h (StoreWord Sw from base (pos off) ∷ rest)) (at (record l { memory = with_bytes l.memory a (bytes_low_first 0 4 v) }) h rest)
unfolding act store
word_stores g l h from base off a v rest there has whole below word may =
    let can : can_access (usable g.placement.rights.writable (at l h rest)) a 4 ≡ true = may_access g.placement.rights.writable l.limit a 4 whole may below in
    let at_ : offset_from (h base.0) (pos off) ≡ a = omega arith in
    let after = λ (w : ℕ). at (record l { memory = with_bytes l.memory a (bytes_low_first 0 4 w) }) h rest in
    goes_to g 1 (at l h (StoreWord Sw from base (pos off) ∷ rest)) (act g.low g.placement (StoreWord Sw from base (pos off)) (at l h rest)) (after v)
    (ap (λ x. store g.placement Sw (h from.0) x (at l h rest)) at_
    ∙ cond-true (can_access (usable g.placement.rights.writable (at l h rest)) a 4) (after (h from.0)) (bad (at l h rest)) can
    ∙ ap after has)
    (goes_one g l h (StoreWord Sw from base (pos off)) rest refl)

-- ---- bytes that are taken from where a word tells, and put where that stood

-- memory below a limit, where some bytes have come from an address in front of them, which was stored first
module _ (memory after : ℕ → ℕ) (a source size limit : ℕ) (some : 0 < size) (before : source + size ≤ a) (inside : a + size ≤ limit) (bytes : (x : ℕ) → x < limit → memory x < 2 ^ 8) where
  abbrev worded : ℕ → ℕ
  worded = with_bytes memory a (bytes_low_first 0 4 source)

  abbrev taken : List ℕ
  taken = bytes_from worded source size

  module _ (is : (x : ℕ) → x < limit → after x ≡ with_bytes worded a taken x) where
    -- they stand there
    pub byte_taken : (k : ℕ) → k < size → after (a + k) ≡ memory (source + k)
    byte_taken k low =
        let many = length-bytes_from worded source size in
        let e : a + k - a ≡ k = omega arith in
        is (a + k) (omega arith)
        ∙ with_bytes-within worded a taken (a + k) (omega arith) (omega arith)
        ∙ ap (λ j. get_or taken j 0) e
        ∙ byte_from worded source size k low
        ∙ with_bytes-below memory a (bytes_low_first 0 4 source) (source + k) (omega arith)

    -- outside of them only the word has been stored
    byte_other : (x : ℕ) → x < limit → (a ≤ x → x < a + size → ⊥) → after x ≡ worded x
    byte_other x low outside =
        let many = length-bytes_from worded source size in
        is x low ∙ with_bytes-outside worded a taken x (λ up down. outside up (omega arith))

    -- all is as it was but for their whole words
    pub byte_far : (x : ℕ) → x < limit → (x < a) ⊎ (a + rounded size ≤ x) → after x ≡ memory x
    byte_far x low far =
        let (least, more) = rounded_some size some in
        byte_other x low (λ up down. apart far up (omega arith)) ∙ with_bytes-outside memory a (bytes_low_first 0 4 source) x (λ up down. apart far up (omega arith))
      where
        apart : (x < a) ⊎ (a + rounded size ≤ x) → a ≤ x → x < a + rounded size → ⊥
        apart (inl less) up down = omega arith
        apart (inr more) up down = omega arith

    -- and bytes are still bytes
    pub byte_small : (x : ℕ) → x < limit → after x < 2 ^ 8
    byte_small x low = by (cases_lt x a) (cases_lt x (a + size))
      where
        outside : (a ≤ x → x < a + size → ⊥) → after x < 2 ^ 8
        outside far = subst (λ b. b < 2 ^ 8) (sym (byte_other x low far)) (bytes_stored limit memory a (bytes_low_first 0 4 source) bytes (four-bounded source) x low)

        by : (x < a) ⊎ (a ≤ x) → (x < a + size) ⊎ (a + size ≤ x) → after x < 2 ^ 8
        by (inl less) other = outside (λ up down. omega arith)
        by (inr up) (inr more) = outside (λ up down. omega arith)
        by (inr up) (inl down) =
            let e : a + (x - a) ≡ x = omega arith in
            subst (λ b. b < 2 ^ 8) (sym (ap after (sym e) ∙ byte_taken (x - a) (omega arith))) (bytes (source + (x - a)) (omega arith))
