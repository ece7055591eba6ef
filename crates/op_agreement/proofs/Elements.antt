-- The code of an element: its index is tested, and its address is so many elements behind that of the array.
use Rattle.std.proofs.Common.{◌≡◌, ◌<◌, ◌⊎◌, inl, inr, ℕ, ℤ, ◌+◌, ◌*◌, List, [], ◌∷◌, ◌++◌, refl, sym, ap, ap₂, ◌∙◌, subst, arith, append_assoc}
use Rattle.std.specs.Prelude.{◌^◌, ◌%◌, Bool, true, false, not, nat_eq, int_lt, ◌-ℤ◌, nat_abs, unsigned_abs, if◌then◌else◌}
use Rattle.std.specs.Int.{w32, cast_unsigned}
use Rattle.std.proofs.lemmas.Bool.{cases_eq}
use Rattle.std.proofs.lemmas.Bool.Decides.{nat_tests}
use Rattle.std.proofs.lemmas.Int.{ints}
use Rattle.op_compute.proofs.RangeLemmas.{distance_then, register_below}
use Rattle.op_compute.proofs.Registers.{put_lower, put_same}
use Rattle.op_compute.proofs.WordParts.{gap, range_test}
use Rattle.op_compute.proofs.Words.{number_is}
use Rattle.op_compute.specs.Bank.{error_block_of}
use Rattle.op_compute.specs.Meaning.{AreKept, IsApart, IsWordOf}
use Rattle.op_compute.specs.Ranges.{distance_code, distance_register}
use Rattle.op_compute.specs.Straight.{Away, Outcome, alu_of, outcome, put, shift_of, takes}
use Rattle.op_compute.specs.declared.bank.Operands.{Operands}
use Rattle.op_compute.specs.declared.bank.RuntimeError.TheVariants.{RangeCheck}
use Rattle.op_compute.specs.declared.bank.Work.{Work}
use Rattle.op_places.specs.Places.{after, behind_code, element_code, index_code, power_of, scale_code}
use Rattle.op_places.specs.declared.frame.Frame.{Frame}
use Rattle.op_places.specs.declared.spot.Spot.{Spot}
use Rattle.op_low.specs.declared.ids.VirtualRegister.{VirtualRegister}
use Rattle.op_low.specs.declared.instruction.Instruction.TheVariants.{Alu, Branch, Const, Shift}
use Rattle.op_low.specs.declared.instruction.Instruction.{Instruction}
use Rattle.op_meaning.specs.Numbers.{between, fits_word}
use Rattle.op_rv.specs.Operation.{word_from, signed}
use Rattle.op_rv.specs.declared.instruction.AluOp.TheVariants.{Add, Mul}
use Rattle.op_rv.specs.declared.instruction.BranchOp.TheVariants.{Bltu}
use Rattle.op_rv.specs.declared.instruction.ShiftOp.TheVariants.{Slli}

-- no register in front of one has changed
abbrev pub KeptBelow : ℕ → (ℕ → ℕ) → (ℕ → ℕ) → Type 0
KeptBelow n f g = (r : ℕ) → r < n → g r ≡ f r

-- how far a word is above the least index
gap_is : (a l : ℕ) (x low high : ℤ) → IsWordOf a x → IsWordOf l low → between low high x ≡ true → gap a l ≡ nat_abs (x -ℤ low)
gap_is a l x low high p q is = by a l p.bound q.bound (subst (λ z. between z high (signed a) ≡ true) (sym q.number) (subst (λ z. between low high z ≡ true) (sym p.number) is)) ∙ ap₂ (λ u v. nat_abs (u -ℤ v)) p.number q.number
  where
    by : (a l : ℕ) → a < 2 ^ 32 → l < 2 ^ 32 → between (signed l) high (signed a) ≡ true → gap a l ≡ nat_abs (signed a -ℤ signed l)
    by a l p q is = grind (arith, ints, nat_tests)

width_is : (low high : ℤ) → fits_word low ≡ true → fits_word high ≡ true → int_lt high low ≡ false → word_from (high -ℤ low) ≡ unsigned_abs (high -ℤ low)
width_is low high p q order = grind (arith, ints, nat_tests)

-- the powers of two that a shift takes
power_is : (size : ℕ) → nat_eq (power_of size) 0 ≡ false → 2 ^ power_of size ≡ size
power_is size some = two (cases_eq size 2)
  where
    none : (size ≡ 2 → ⊥) → (size ≡ 4 → ⊥) → (size ≡ 8 → ⊥) → (size ≡ 16 → ⊥) → (size ≡ 32 → ⊥) → (size ≡ 64 → ⊥) → ⊥
    none a b c d e f =
        let t2 : nat_eq size 2 ≡ false = grind (arith, nat_tests) in
        let t4 : nat_eq size 4 ≡ false = grind (arith, nat_tests) in
        let t8 : nat_eq size 8 ≡ false = grind (arith, nat_tests) in
        let t16 : nat_eq size 16 ≡ false = grind (arith, nat_tests) in
        let t32 : nat_eq size 32 ≡ false = grind (arith, nat_tests) in
        let t64 : nat_eq size 64 ≡ false = grind (arith, nat_tests) in
        let e : nat_eq 0 0 ≡ false = rw (t2, t4, t8, t16, t32, t64) at some in
        cc

    sixty_four : (size ≡ 2 → ⊥) → (size ≡ 4 → ⊥) → (size ≡ 8 → ⊥) → (size ≡ 16 → ⊥) → (size ≡ 32 → ⊥) → (size ≡ 64) ⊎ (size ≡ 64 → ⊥) → 2 ^ power_of size ≡ size
    sixty_four a b c d e (inl is) = subst (λ s. 2 ^ power_of s ≡ s) (sym is) refl
    sixty_four a b c d e (inr f) = absurd (none a b c d e f)

    thirty_two : (size ≡ 2 → ⊥) → (size ≡ 4 → ⊥) → (size ≡ 8 → ⊥) → (size ≡ 16 → ⊥) → (size ≡ 32) ⊎ (size ≡ 32 → ⊥) → 2 ^ power_of size ≡ size
    thirty_two a b c d (inl is) = subst (λ s. 2 ^ power_of s ≡ s) (sym is) refl
    thirty_two a b c d (inr e) = sixty_four a b c d e (cases_eq size 64)

    sixteen : (size ≡ 2 → ⊥) → (size ≡ 4 → ⊥) → (size ≡ 8 → ⊥) → (size ≡ 16) ⊎ (size ≡ 16 → ⊥) → 2 ^ power_of size ≡ size
    sixteen a b c (inl is) = subst (λ s. 2 ^ power_of s ≡ s) (sym is) refl
    sixteen a b c (inr d) = thirty_two a b c d (cases_eq size 32)

    eight : (size ≡ 2 → ⊥) → (size ≡ 4 → ⊥) → (size ≡ 8) ⊎ (size ≡ 8 → ⊥) → 2 ^ power_of size ≡ size
    eight a b (inl is) = subst (λ s. 2 ^ power_of s ≡ s) (sym is) refl
    eight a b (inr c) = sixteen a b c (cases_eq size 16)

    four : (size ≡ 2 → ⊥) → (size ≡ 4) ⊎ (size ≡ 4 → ⊥) → 2 ^ power_of size ≡ size
    four a (inl is) = subst (λ s. 2 ^ power_of s ≡ s) (sym is) refl
    four a (inr b) = eight a b (cases_eq size 8)

    two : (size ≡ 2) ⊎ (size ≡ 2 → ⊥) → 2 ^ power_of size ≡ size
    two (inl is) = subst (λ s. 2 ^ power_of s ≡ s) (sym is) refl
    two (inr a) = four a (cases_eq size 4)

module _ (frame : Frame) (idx : VirtualRegister) (low high x : ℤ) (spot : Spot) (f : ℕ → ℕ) (word : IsWordOf (f idx.0) x) (fits_low : fits_word low ≡ true) (fits_high : fits_word high ≡ true) (order : int_lt high low ≡ false) (idx_below : idx.0 < spot.free.0) (base_below : spot.base.0 < spot.free.0) where
  abbrev work : Work
  work = record {
    first = spot.free;
    second = after spot.free;
    third = after (after spot.free);
    division = error_block_of frame.bank RangeCheck;
    range = error_block_of frame.bank RangeCheck;
    stack = error_block_of frame.bank RangeCheck;
    overflow = error_block_of frame.bank RangeCheck;
  }

  abbrev operands : Operands
  operands = record { to = idx; left = idx; right = idx }

  apart : IsApart work operands
  apart = record { to = idx_below; left = idx_below; right = idx_below; second = omega arith; third = omega arith }

  abbrev via : VirtualRegister
  via = after spot.free

  abbrev far : VirtualRegister
  far = distance_register spot.free idx low

  abbrev n : ℕ
  n = nat_abs (x -ℤ low)

  kept_with : (g : ℕ → ℕ) → AreKept work idx f g → g idx.0 ≡ f idx.0 → KeptBelow spot.free.0 f g
  kept_with g kept same r below = by (cases_eq r idx.0)
    where
      by : (r ≡ idx.0) ⊎ (r ≡ idx.0 → ⊥) → g r ≡ f r
      by (inl is) = ap g is ∙ same ∙ sym (ap f is)
      by (inr other) = kept r below other

  -- ---- the address

  product_of : (size : ℕ) (k : ℕ → ℕ) → KeptBelow spot.free.0 f k → k far.0 ≡ n → (rest : List Instruction) (Holds : Outcome → Type 0) → ((h : ℕ → ℕ) → KeptBelow spot.free.0 f h → h spot.free.0 ≡ (f spot.base.0 + n * size) % 2 ^ 32 → Holds (outcome rest h)) → Holds (outcome (behind_code spot.free spot.base far via size ++ rest) k)
  unfolding behind_code scale_code outcome alu_of shift_of
  product_of size k kept value rest Holds behind = by (nat_eq size 1) (nat_eq (power_of size) 0) refl refl
    where
      base_same : (h : ℕ → ℕ) → KeptBelow spot.free.0 f h → h spot.base.0 ≡ f spot.base.0
      base_same h same = same spot.base.0 base_below

      far_below : far.0 < via.0
      far_below = register_below work operands f apart low

      once : (s : ℕ) → nat_eq s 1 ≡ true → (f spot.base.0 + n) % 2 ^ 32 ≡ (f spot.base.0 + n * s) % 2 ^ 32
      once s one = let is : s ≡ 1 = grind (arith, nat_tests) in let e : f spot.base.0 + n ≡ f spot.base.0 + n * 1 = omega arith in ap (λ a. a % 2 ^ 32) e ∙ ap (λ z. (f spot.base.0 + n * z) % 2 ^ 32) (sym is)

      cut : (a b : ℕ) → (a + b % 2 ^ 32) % 2 ^ 32 ≡ (a + b) % 2 ^ 32
      cut a b = omega arith

      by : (one none : Bool) → nat_eq size 1 ≡ one → nat_eq (power_of size) 0 ≡ none → Holds (outcome ((if one then [] else (if none then Const via size ∷ Alu Mul spot.free far via ∷ [] else Shift Slli spot.free far (power_of size) ∷ [])) ++ Alu Add spot.free spot.base (if one then far else spot.free) ∷ [] ++ rest) k)
      by true none one power =
          let v = alu_of Add (k spot.base.0) (k far.0) in
          behind (put k spot.free v) (λ r below. put_lower k spot.free v r below ∙ kept r below)
          (put_same k spot.free v ∙ ap₂ (λ a b. (a + b) % 2 ^ 32) (base_same k kept) value ∙ once size one)
      by false true one power =
          let k1 = put k via size in
          let kept1 : KeptBelow spot.free.0 f k1 = λ r below. put_lower k via size r (omega arith) ∙ kept r below in
          let times = alu_of Mul (k1 far.0) (k1 via.0) in
          let k2 = put k1 spot.free times in
          let kept2 : KeptBelow spot.free.0 f k2 = λ r below. put_lower k1 spot.free times r below ∙ kept1 r below in
          let product : times ≡ n * size % 2 ^ 32 = ap₂ (λ a b. a * b % 2 ^ 32) (put_lower k via size far.0 far_below ∙ value) (put_same k via size) in
          let v = alu_of Add (k2 spot.base.0) (k2 spot.free.0) in
          behind (put k2 spot.free v) (λ r below. put_lower k2 spot.free v r below ∙ kept2 r below)
          (put_same k2 spot.free v ∙ ap₂ (λ a b. (a + b) % 2 ^ 32) (base_same k2 kept2) (put_same k1 spot.free times ∙ product) ∙ cut (f spot.base.0) (n * size))
      by false false one power =
          let times = shift_of Slli (k far.0) (power_of size) in
          let k2 = put k spot.free times in
          let kept2 : KeptBelow spot.free.0 f k2 = λ r below. put_lower k spot.free times r below ∙ kept r below in
          let product : times ≡ n * size % 2 ^ 32 = ap₂ (λ a b. a * b % 2 ^ 32) value (power_is size power) in
          let v = alu_of Add (k2 spot.base.0) (k2 spot.free.0) in
          behind (put k2 spot.free v) (λ r below. put_lower k2 spot.free v r below ∙ kept2 r below)
          (put_same k2 spot.free v ∙ ap₂ (λ a b. (a + b) % 2 ^ 32) (base_same k2 kept2) (put_same k spot.free times ∙ product) ∙ cut (f spot.base.0) (n * size))

  pub element_then : (size : ℕ) (rest : List Instruction) (Holds : Outcome → Type 0) → (between low high x ≡ true → (h : ℕ → ℕ) → KeptBelow spot.free.0 f h → h spot.free.0 ≡ (f spot.base.0 + n * size) % 2 ^ 32 → Holds (outcome rest h)) → (between low high x ≡ false → (h : ℕ → ℕ) → Holds (Away (error_block_of frame.bank RangeCheck) h)) → Holds (outcome (element_code frame low high idx size spot ++ rest) f)
  unfolding element_code index_code outcome
  element_then size rest Holds inside outside =
      let l = cast_unsigned w32 low in
      let lower = number_is low (record { sfits = grind (arith, ints) }) in
      let h = cast_unsigned w32 high in
      let higher = number_is high (record { sfits = grind (arith, ints) }) in
      let width = word_from (high -ℤ low) in
      let tail = Const via width ∷ Branch Bltu via far (error_block_of frame.bank RangeCheck) ∷ [] in
      let address = behind_code spot.free spot.base far via size in
      subst (λ code. Holds (outcome code f)) (sym (append_assoc (distance_code spot.free idx low ++ tail) address rest ∙ append_assoc (distance_code spot.free idx low) tail (address ++ rest)))
      (distance_then work operands f apart low l (tail ++ (address ++ rest)) Holds lower word.bound (λ r below other. refl)
      (λ g kept same value.
      let k = put g via width in
      let kept_all : KeptBelow spot.free.0 f k = λ r below. put_lower g via width r (omega arith) ∙ kept_with g kept same r below in
      let there : k far.0 ≡ gap (f idx.0) l = put_lower g via width far.0 (register_below work operands f apart low) ∙ value in
      let test : takes Bltu (k via.0) (k far.0) ≡ not (between low high x) =
      ap₂ (takes Bltu) (put_same g via width ∙ width_is low high fits_low fits_high order) there ∙ range_test (f idx.0) l h x low high word lower higher order in
      by (takes Bltu (k via.0) (k far.0)) (between low high x) refl test k kept_all there))
    where
      by : (t b : Bool) → between low high x ≡ b → t ≡ not b → (k : ℕ → ℕ) → KeptBelow spot.free.0 f k → k far.0 ≡ gap (f idx.0) (cast_unsigned w32 low) → Holds (if t then Away (error_block_of frame.bank RangeCheck) k else outcome (behind_code spot.free spot.base far via size ++ rest) k)
      by true true e test k kept there = absurd cc
      by true false e test k kept there = outside e k
      by false true e test k kept there = product_of size k kept (there ∙ gap_is (f idx.0) (cast_unsigned w32 low) x low high word (number_is low (record { sfits = grind (arith, ints) })) e) rest Holds (inside e)
      by false false e test k kept there = absurd cc
