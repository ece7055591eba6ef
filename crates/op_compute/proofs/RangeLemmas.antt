-- The low code of sums with numbers that are known, and of tests of ranges, in front of other code.
use Rattle.std.proofs.Common.{◌≡◌, ◌≢◌, ℕ, ℤ, pos, ◌+◌, ◌%◌, ◌^◌, ◌<◌, ◌-ℤ◌, unsigned_abs, Bool, true, false, not, List, [], ◌∷◌, ◌++◌, append_assoc, refl, ap, ap₂, sym, ◌∙◌, subst, arith, if◌then◌else◌}
use Rattle.std.proofs.lemmas.Int.{ints}
use Rattle.std.specs.Int.{w32, cast_unsigned, int_wrapping_neg}
use Rattle.std.specs.Ordering.{int_eq}
use Rattle.std.specs.Prelude.{int_lt}
use Rattle.op_compute.proofs.Registers.{put_same, put_other, put_lower, kept_scratch}
use Rattle.op_compute.proofs.WordParts.{gap, gap_of, gap_zero, opposite_word, range_test, ends_between, none_between, lower_is, higher_is}
use Rattle.op_compute.proofs.Words.{unsigned_is, word_fits}
use Rattle.op_compute.specs.Meaning.{Meant, fails, Answers, IsApart, IsWordOf, AreKept, block_for}
use Rattle.op_compute.specs.Ranges.{is_immediate, sum_with, distance_code, distance_register, has_every_number, within_code, range_code, lower_end, higher_end}
use Rattle.op_compute.specs.Straight.{put, outcome, alu_of, imm_of, takes, Outcome, Away}
use Rattle.op_compute.specs.declared.bank.Operands.{Operands}
use Rattle.op_compute.specs.declared.bank.RuntimeError.{RuntimeError}
use Rattle.op_compute.specs.declared.bank.RuntimeError.TheVariants.{RangeCheck}
use Rattle.op_compute.specs.declared.bank.Work.{Work}
use Rattle.op_low.specs.declared.ids.VirtualRegister.{VirtualRegister}
use Rattle.op_low.specs.declared.instruction.Instruction.{Instruction}
use Rattle.op_low.specs.declared.instruction.Instruction.TheVariants.{Const, Alu, AluImm, Branch, Jump}
use Rattle.op_meaning.specs.Numbers.{between, fits_word}
use Rattle.op_rv.specs.Operation.{word_from}
use Rattle.op_rv.specs.declared.instruction.AluOp.TheVariants.{Add}
use Rattle.op_rv.specs.declared.instruction.BranchOp.TheVariants.{Bltu}
use Rattle.op_rv.specs.declared.instruction.ImmOp.TheVariants.{Addi}

-- where the code goes on if the number is in the range
pub tested_within : (w : Work) (to : VirtualRegister) (f g : ℕ → ℕ) (taken within : Bool) (error : RuntimeError) (meaning : Meant) (rest : Outcome) → taken ≡ not within → AreKept w to f g → (within ≡ true → Answers w to f meaning rest) → Answers w to f (if within then meaning else fails error) (if taken then Away (block_for w error) g else rest)
tested_within w to f g true false error meaning rest e kept behind = record { leads = refl; others = kept }
tested_within w to f g false true error meaning rest e kept behind = behind refl
tested_within w to f g true true error meaning rest e kept behind = absurd cc
tested_within w to f g false false error meaning rest e kept behind = absurd cc

added : (a : ℕ) (n : ℤ) → imm_of Addi a n ≡ (a + word_from n) % 2 ^ 32
unfolding imm_of
added a n = refl

added_word : (a b : ℕ) → alu_of Add a b ≡ (a + b) % 2 ^ 32
unfolding alu_of
added_word a b = refl

pub every_number : (low high x : ℤ) → has_every_number low high ≡ true → fits_word x ≡ true → between low high x ≡ true
unfolding has_every_number
every_number low high x e p = grind (arith, ints)

zero_word : (l : ℕ) (low : ℤ) → IsWordOf l low → int_eq low (pos 0) ≡ true → l ≡ 0
zero_word l low p e = let is : low ≡ pos 0 = grind (arith, ints) in sym (unsigned_is l low p) ∙ ap (cast_unsigned w32) is

module _ (w : Work) (o : Operands) (f : ℕ → ℕ) (apart : IsApart w o) where
  abbrev a : ℕ
  a = f o.left.0

  -- the sum of the operand and a number
  sum_by : (fits : Bool) (to : VirtualRegister) → ((g : ℕ → ℕ) (v : ℕ) → AreKept w o.to f g → AreKept w o.to f (put g to v)) → (n : ℤ) (rest : List Instruction) (Holds : Outcome → Type 0) (g : ℕ → ℕ) → AreKept w o.to f g → g o.left.0 ≡ a → ((h : ℕ → ℕ) → AreKept w o.to f h → h to.0 ≡ (a + word_from n) % 2 ^ 32 → (o.left.0 ≢ to.0 → h o.left.0 ≡ a) → Holds (outcome rest h)) → Holds (outcome ((if fits then AluImm Addi to o.left n ∷ [] else Const w.first (word_from n) ∷ Alu Add to o.left w.first ∷ []) ++ rest) g)
  unfolding outcome
  sum_by true to keeps n rest Holds g kept same behind =
      let v = imm_of Addi (g o.left.0) n in
      behind (put g to v) (keeps g v kept) (put_same g to v ∙ added (g o.left.0) n ∙ ap (λ u. (u + word_from n) % 2 ^ 32) same)
      (λ differs. put_other g to v o.left.0 differs ∙ same)
  sum_by false to keeps n rest Holds g kept same behind =
      let h = put g w.first (word_from n) in
      let v = alu_of Add (h o.left.0) (h w.first.0) in
      let left : h o.left.0 ≡ a = put_lower g w.first (word_from n) o.left.0 apart.left ∙ same in
      behind (put h to v) (keeps h v (kept_scratch w o.to w.first f g (word_from n) (omega arith) kept))
      (put_same h to v ∙ added_word (h o.left.0) (h w.first.0) ∙ ap₂ (λ s t. (s + t) % 2 ^ 32) left (put_same g w.first (word_from n)))
      (λ differs. put_other h to v o.left.0 differs ∙ left)

  pub sum_then : (to : VirtualRegister) → ((g : ℕ → ℕ) (v : ℕ) → AreKept w o.to f g → AreKept w o.to f (put g to v)) → (n : ℤ) (rest : List Instruction) (Holds : Outcome → Type 0) (g : ℕ → ℕ) → AreKept w o.to f g → g o.left.0 ≡ a → ((h : ℕ → ℕ) → AreKept w o.to f h → h to.0 ≡ (a + word_from n) % 2 ^ 32 → (o.left.0 ≢ to.0 → h o.left.0 ≡ a) → Holds (outcome rest h)) → Holds (outcome (sum_with w.first to o.left n ++ rest) g)
  unfolding sum_with
  sum_then to keeps n rest Holds g kept same behind = sum_by (is_immediate n) to keeps n rest Holds g kept same behind

  distance_by : (zero : Bool) (low : ℤ) (l : ℕ) (rest : List Instruction) (Holds : Outcome → Type 0) → int_eq low (pos 0) ≡ zero → IsWordOf l low → a < 2 ^ 32 → AreKept w o.to f f → ((g : ℕ → ℕ) → AreKept w o.to f g → g o.left.0 ≡ a → g (if zero then o.left else w.first).0 ≡ gap a l → Holds (outcome rest g)) → Holds (outcome ((if zero then [] else sum_with w.first w.first o.left (int_wrapping_neg w32 low)) ++ rest) f)
  distance_by true low l rest Holds e is bound kept behind =
      behind f kept refl (sym (ap (gap a) (zero_word l low is e) ∙ gap_zero a bound))
  distance_by false low l rest Holds e is bound kept behind =
      sum_then w.first (λ g v before. kept_scratch w o.to w.first f g v (omega arith) before) (int_wrapping_neg w32 low) rest Holds f kept refl
      (λ h after value left. behind h after (left (omega arith)) (value ∙ ap (λ u. (a + u) % 2 ^ 32) (opposite_word l low is) ∙ gap_of a l))

  pub distance_then : (low : ℤ) (l : ℕ) (rest : List Instruction) (Holds : Outcome → Type 0) → IsWordOf l low → a < 2 ^ 32 → AreKept w o.to f f → ((g : ℕ → ℕ) → AreKept w o.to f g → g o.left.0 ≡ a → g (distance_register w.first o.left low).0 ≡ gap a l → Holds (outcome rest g)) → Holds (outcome (distance_code w.first o.left low ++ rest) f)
  unfolding distance_code distance_register
  distance_then low l rest Holds is bound kept behind = distance_by (int_eq low (pos 0)) low l rest Holds refl is bound kept behind

  either_below : (zero : Bool) → (if zero then o.left else w.first).0 < w.second.0
  either_below true = let l = apart.left in let s = apart.second in omega arith
  either_below false = apart.second

  pub register_below : (low : ℤ) → (distance_register w.first o.left low).0 < w.second.0
  unfolding distance_register
  register_below low = either_below (int_eq low (pos 0))

  abbrev Goes : ℤ → ℤ → ℤ → List Instruction → Meant → Type 0
  Goes low high x rest meaning = between low high x ≡ true → (g : ℕ → ℕ) → AreKept w o.to f g → g o.left.0 ≡ a → Answers w o.to f meaning (outcome rest g)

  within_by : (every : Bool) (low high x : ℤ) (l h : ℕ) (rest : List Instruction) (meaning : Meant) → has_every_number low high ≡ every → IsWordOf a x → IsWordOf l low → IsWordOf h high → int_lt high low ≡ false → AreKept w o.to f f → Goes low high x rest meaning → Answers w o.to f (if between low high x then meaning else fails RangeCheck) (outcome ((if every then [] else distance_code w.first o.left low ++ Const w.second (unsigned_abs (high -ℤ low)) ∷ Branch Bltu w.second (distance_register w.first o.left low) w.range ∷ []) ++ rest) f)
  unfolding outcome
  within_by true low high x l h rest meaning e p lower higher order kept behind =
      let always : between low high x ≡ true = every_number low high x e (word_fits a x p) in
      subst (λ t. Answers w o.to f (if t then meaning else fails RangeCheck) (outcome rest f)) (sym always) (behind always f kept refl)
  within_by false low high x l h rest meaning e p lower higher order kept behind =
      let register = distance_register w.first o.left low in
      let width = unsigned_abs (high -ℤ low) in
      let tail = Const w.second width ∷ Branch Bltu w.second register w.range ∷ [] in
      let meant = if between low high x then meaning else fails RangeCheck in
      subst (λ code. Answers w o.to f meant (outcome code f)) (sym (append_assoc (distance_code w.first o.left low) tail rest))
      (distance_then low l (tail ++ rest) (Answers w o.to f meant) lower p.bound kept
      (λ g after left value.
      let k = put g w.second width in
      let test : takes Bltu (k w.second.0) (k register.0) ≡ not (between low high x) =
      ap₂ (takes Bltu) (put_same g w.second width) (put_lower g w.second width register.0 (register_below low) ∙ value) ∙ range_test a l h x low high p lower higher order in
      let now : AreKept w o.to f k = kept_scratch w o.to w.second f g width (omega arith) after in
      let l1 = apart.left in
      let l2 = apart.second in
      let same : k o.left.0 ≡ a = put_lower g w.second width o.left.0 (omega arith) ∙ left in
      tested_within w o.to f k (takes Bltu (k w.second.0) (k register.0)) (between low high x) RangeCheck meaning (outcome rest k) test now (λ yes. behind yes k now same)))

  pub within_then : (low high x : ℤ) (l h : ℕ) (rest : List Instruction) (meaning : Meant) → IsWordOf a x → IsWordOf l low → IsWordOf h high → int_lt high low ≡ false → AreKept w o.to f f → Goes low high x rest meaning → Answers w o.to f (if between low high x then meaning else fails RangeCheck) (outcome (within_code w o.left low high ++ rest) f)
  unfolding within_code
  within_then low high x l h rest meaning p lower higher order kept behind = within_by (has_every_number low high) low high x l h rest meaning refl p lower higher order kept behind

  range_by : (empty : Bool) (low high x : ℤ) (rest : List Instruction) (meaning : Meant) → int_lt (higher_end high) (lower_end low) ≡ empty → IsWordOf a x → AreKept w o.to f f → Goes low high x rest meaning → Answers w o.to f (if between low high x then meaning else fails RangeCheck) (outcome ((if empty then Jump w.range ∷ [] else within_code w o.left (lower_end low) (higher_end high)) ++ rest) f)
  unfolding outcome
  range_by true low high x rest meaning e p kept behind =
      let never : between low high x ≡ false = ends_between low high x (word_fits a x p) ∙ none_between (lower_end low) (higher_end high) x e in
      subst (λ t. Answers w o.to f (if t then meaning else fails RangeCheck) (Away w.range f)) (sym never) (record { leads = refl; others = kept })
  range_by false low high x rest meaning e p kept behind =
      let ends = ends_between low high x (word_fits a x p) in
      let within = within_code w o.left (lower_end low) (higher_end high) in
      subst (λ t. Answers w o.to f (if t then meaning else fails RangeCheck) (outcome (within ++ rest) f)) (sym ends)
      (within_then (lower_end low) (higher_end high) x (word_from (lower_end low)) (word_from (higher_end high)) rest meaning p (lower_is low high e) (higher_is low high e) e kept
      (λ yes. behind (ends ∙ yes)))

  pub range_then : (low high x : ℤ) (rest : List Instruction) (meaning : Meant) → IsWordOf a x → AreKept w o.to f f → Goes low high x rest meaning → Answers w o.to f (if between low high x then meaning else fails RangeCheck) (outcome (range_code w o.left low high ++ rest) f)
  unfolding range_code
  range_then low high x rest meaning p kept behind = range_by (int_lt (higher_end high) (lower_end low)) low high x rest meaning refl p kept behind
