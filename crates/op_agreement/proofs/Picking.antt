-- A Char of a literal, by its index from 1, or error 201.
use Rattle.std.proofs.Common.{◌≡◌, ◌<◌, ℕ, ℤ, ◌+◌, List, [], ◌∷◌, ◌++◌, length, Option, refl, sym, ap, ap₂, ◌∙◌, subst, arith, get_or, ◌≤◌, ◌*◌}
use Rattle.std.specs.Prelude.{◌^◌, ◌%◌, ◌-ℤ◌, pos, negsuc, Bool, true, false, not, nat_abs, nat_lt, slice_index, if◌then◌else◌}
use Rattle.std.proofs.lemmas.Bool.Decides.{nat_tests}
use Rattle.std.proofs.lemmas.Bool.{cond-true}
use Rattle.std.proofs.lemmas.Int.{ints}
use Rattle.op_agreement.proofs.Branching.{begins_here, step_here, two_of}
use Rattle.op_agreement.proofs.Cases.{behind_act}
use Rattle.op_agreement.proofs.Computing.{number_stands, rest_above, rest_below}
use Rattle.op_agreement.proofs.Elements.{KeptBelow}
use Rattle.op_agreement.proofs.Following.{Comes}
use Rattle.op_agreement.proofs.Going.{Goes, GoesTo, goes_from, goes_one, goes_straight, goes_then, goes_to, goes_within}
use Rattle.op_agreement.proofs.Loading.{index_fails}
use Rattle.op_agreement.proofs.Memory.{may_access}
use Rattle.op_agreement.proofs.Pricing.{afford}
use Rattle.op_agreement.proofs.Primitives.{text_there}
use Rattle.op_agreement.proofs.Standing.{Next, here}
use Rattle.op_agreement.proofs.Updating.{limit_here}
use Rattle.op_agreement.specs.Chart.{Floor}
use Rattle.op_agreement.specs.Coding.{code_for}
use Rattle.op_agreement.specs.Fitting.{IsFitting}
use Rattle.op_agreement.specs.Settings.{Setting, managed}
use Rattle.op_agreement.specs.Stands.{Stands}
use Rattle.op_agreement.specs.Steps.{most_for_one}
use Rattle.op_compute.proofs.Registers.{put_lower, put_other, put_same}
use Rattle.op_compute.proofs.Words.{small_is}
use Rattle.op_compute.specs.Bank.{error_block_of, register_of, scratch_of, work_of}
use Rattle.op_compute.specs.Meaning.{Gives, IsWordOf}
use Rattle.op_compute.specs.Straight.{Away, Behind, at, imm_of, outcome, put, takes}
use Rattle.op_compute.specs.declared.bank.Bank.{Bank}
use Rattle.op_compute.specs.declared.bank.RuntimeError.TheVariants.{RangeCheck}
use Rattle.op_constants.proofs.Distinct.{stands_at_number}
use Rattle.op_constants.specs.Literals.{literals_of}
use Rattle.op_constants.specs.Texts.{number_of}
use Rattle.op_low.specs.Machine.{act, load, cost, cost_by}
use Rattle.op_low.specs.State.{State, bad, keep, usable}
use Rattle.op_low.specs.declared.ids.VirtualRegister.{VirtualRegister}
use Rattle.op_low.specs.declared.instruction.Instruction.{Instruction as LowInstruction}
use Rattle.op_low.specs.declared.instruction.Instruction.TheVariants.{Address, Alu, AluImm, Branch, Const, Load as LoadWord}
use Rattle.op_meaning.specs.Actions.{perform}
use Rattle.op_meaning.specs.Errors.{failed}
use Rattle.op_meaning.specs.Numbers.{between}
use Rattle.op_meaning.specs.World.{number_at, with_number}
use Rattle.op_mir.specs.Machine.{MirState, execute, mir_step, mir_cost}
use Rattle.op_mir.specs.Valid.{action_fits}
use Rattle.op_mir.specs.declared.action.Action.TheVariants.{Pick}
use Rattle.op_mir.specs.declared.ids.BlockId.{BlockId}
use Rattle.op_mir.specs.declared.ids.TemporaryId.{TemporaryId}
use Rattle.op_mir.specs.declared.instruction.Instruction.{Instruction}
use Rattle.op_mir.specs.declared.instruction.Instruction.TheVariants.{Act}
use Rattle.op_rt_text.specs.Names.{literal}
use Rattle.op_rv.proofs.Memory.{byte_from}
use Rattle.op_rv.specs.Operation.{signed}
use Rattle.op_rv.specs.Step.{can_access, load_size_of, load_value, offset_from}
use Rattle.op_rv.specs.declared.instruction.AluOp.TheVariants.{Add}
use Rattle.op_rv.specs.declared.instruction.BranchOp.TheVariants.{Bgeu}
use Rattle.op_rv.specs.declared.instruction.ImmOp.TheVariants.{Addi}
use Rattle.op_rv.specs.declared.instruction.LoadOp.TheVariants.{Lbu}
use Rattle.op_simulation.specs.System.{run, spent}

-- ---- the index

-- the index less 1, as a word without a sign, is below the size where the index is from 1 to the size
index_below : (x size : ℕ) → x < 2 ^ 32 → size < 2 ^ 31 → nat_lt ((x + 4294967295) % 4294967296) size ≡ between (pos 1) (pos size) (signed x)
index_below x size fits short = grind (arith, ints, nat_tests)

-- the branch to the error is taken where it is not
index_test : (x size : ℕ) (n : ℤ) → IsWordOf x n → size < 2 ^ 31 → takes Bgeu (imm_of Addi x (negsuc 0)) size ≡ not (between (pos 1) (pos size) n)
unfolding takes imm_of
index_test x size n word short = ap not (index_below x size word.bound short ∙ ap (between (pos 1) (pos size)) word.number)

-- and then it is how far the Char is behind the first one
index_signed : (x size : ℕ) → x < 2 ^ 32 → size < 2 ^ 31 → between (pos 1) (pos size) (signed x) ≡ true → ((x + 4294967295) % 4294967296 ≡ nat_abs (signed x -ℤ pos 1)) × ((x + 4294967295) % 4294967296 < size)
index_signed x size fits short inside = (grind (arith, ints), grind (arith, ints))

-- by the number that the index is
index_far : (x size : ℕ) (n : ℤ) → IsWordOf x n → size < 2 ^ 31 → between (pos 1) (pos size) n ≡ true → (imm_of Addi x (negsuc 0) ≡ nat_abs (n -ℤ pos 1)) × (imm_of Addi x (negsuc 0) < size)
unfolding imm_of
index_far x size n word short inside =
    let (far, low) = index_signed x size word.bound short (ap (between (pos 1) (pos size)) word.number ∙ inside) in
    (far ∙ ap (λ z. nat_abs (z -ℤ pos 1)) word.number, low)

-- ---- the Char

-- a byte of a literal is loaded
byte_goes : (g : Setting) (l : State) (h : ℕ → ℕ) (to place : VirtualRegister) (rest : List LowInstruction) (a b : ℕ) → h place.0 ≡ a → a < 2 ^ 32 → a < l.limit → g.placement.rights.readable a ≡ true → l.memory a ≡ b → Goes g 1 1 (at l h (LoadWord Lbu to place (pos 0) ∷ rest)) (at l (put h to b) rest)
unfolding act load put
byte_goes g l h to place rest a b there word below may is =
    let can : can_access (usable g.placement.rights.readable (at l h rest)) a (load_size_of Lbu) ≡ true =
    may_access g.placement.rights.readable l.limit a 1 (omega arith) (λ x from end. let same : x ≡ a = omega arith in ap g.placement.rights.readable same ∙ may) (omega arith) in
    let at_ : offset_from (h place.0) (pos 0) ≡ a = omega arith in
    goes_to g 1 (at l h (LoadWord Lbu to place (pos 0) ∷ rest)) (act g.low g.placement (LoadWord Lbu to place (pos 0)) (at l h rest)) (at l (put h to b) rest)
    (ap (λ x. load g.placement Lbu to x (at l h rest)) at_
    ∙ cond-true (can_access (usable g.placement.rights.readable (at l h rest)) a (load_size_of Lbu)) (keep to (load_value Lbu l.memory a) (at l h rest)) (bad (at l h rest)) can
    ∙ ap (λ v. at l (put h to v) rest) is)
    (goes_one g l h (LoadWord Lbu to place (pos 0)) rest refl)

module _ (g : Setting) (fit : IsFitting g) (m : MirState) (l : State) (floors : ℕ → Floor) (is : List Instruction) (to : TemporaryId) (text : List ℕ) (index : TemporaryId) (landing : Option BlockId) (next : Next g m l floors (Act (Pick to text index) landing) is) where
  abbrev bank : Bank
  bank = (here m floors).frame.bank

  abbrev pick : Instruction
  pick = Act (Pick to text index) landing

  abbrev rest : List LowInstruction
  rest = rest_below g m l floors pick is next

  abbrev n : ℤ
  n = number_at m.world index.0

  -- that of the literal
  abbrev number : ℕ
  number = number_of (literals_of g.core g.mir) text

  abbrev place : VirtualRegister
  place = scratch_of bank 0

  abbrev via : VirtualRegister
  via = scratch_of bank 1

  abbrev front : List LowInstruction
  front = AluImm Addi place (register_of bank index) (negsuc 0) ∷ Const via (length text) ∷ Branch Bgeu place via (error_block_of bank RangeCheck) ∷ []

  abbrev tail : List LowInstruction
  tail = Address via (literal number) ∷ Alu Add place via place ∷ LoadWord Lbu (register_of bank to) place (pos 0) ∷ rest

  abbrev far : ℕ
  far = imm_of Addi (l.top.registers (register_of bank index).0) (negsuc 0)

  -- the registers behind the test
  abbrev tested : ℕ → ℕ
  tested = put (put l.top.registers place far) via (length text)

  abbrev start : ℕ
  start = g.placement.address (literal number)

  -- and those in front of the load
  abbrev found : ℕ → ℕ
  found = put (put tested via start) place (start + far)

  -- the test stands in front of the rest of the code
  begins : l ≡ at l l.top.registers (front ++ tail)
  unfolding code_for
  begins = begins_here g fit m l floors pick is next (front ++ Address via (literal number) ∷ Alu Add place via place ∷ LoadWord Lbu (register_of bank to) place (pos 0) ∷ []) refl

  abbrev picked_by : Bool → MirState
  picked_by b = record m { world = if b then with_number to.0 (pos (slice_index text (nat_abs (n -ℤ pos 1)))) m.world else failed g.core 201 m.world; work = rest_above g m l floors pick is next }

  -- managed code picks the Char, or fails
  step_above : mir_step (managed g) m ≡ picked_by (between (pos 1) (pos (length text)) n)
  unfolding execute perform
  step_above = step_here g fit m l floors pick is next

  -- the literal's Char is the number of the temporary
  char_stands : (x : ℕ) → x < length text → far ≡ x → Goes g 1 3 l (at l tested tail) → mir_step (managed g) m ≡ record m { world = with_number to.0 (pos (slice_index text x)) m.world; work = rest_above g m l floors pick is next } → Comes g m l
  unfolding action_fits act put run Rattle.op_low.specs.Machine.step Rattle.op_low.specs.Machine.step_by_ending Rattle.op_low.specs.Machine.done spent cost cost_by Rattle.op_simulation.specs.System.trace Rattle.op_low.specs.Machine.shows Rattle.op_low.specs.Machine.shown_by
  char_stands x inside far_is goes step =
      let s = next.stays in
      let a = s.activation in
      let scratch = a.floor.fits.scratch in
      let (low_to, low_index) = two_of (here m floors).routine to index next.fine.0 in
      let stands = text_there g fit m l floors s l refl refl number text (stands_at_number (literals_of g.core g.mir) text next.literals.0) in
      let below = stands.below in
      let limit = limit_here g fit floors m l s in
      let top = fit.placed.top in
      let byte = slice_index text x in
      let small = next.fine.1.1 x in
      let is_there : l.memory (start + x) ≡ byte = sym (byte_from l.memory start (length text) x inside) ∙ ap (λ bytes. get_or bytes x 0) stands.stands in
      let k = put found (register_of bank to) byte in
      let via_is : put tested via start via.0 ≡ start = put_same tested via start in
      let place_is : put tested via start place.0 ≡ far = put_lower tested via start place.0 (omega arith) ∙ put_lower (put l.top.registers place far) via (length text) place.0 (omega arith) ∙ put_same l.top.registers place far in
      let sum : (put tested via start via.0 + put tested via start place.0) % 2 ^ 32 ≡ start + far = omega arith in
      let two : Goes g 2 2 (at l tested tail) (at l (put (put tested via start) place ((put tested via start via.0 + put tested via start place.0) % 2 ^ 32)) (LoadWord Lbu (register_of bank to) place (pos 0) ∷ rest)) = record { steps = 2; enough = omega arith; within = omega arith; ends = refl; unread = refl } in
      let there : found place.0 ≡ start + x = put_same (put tested via start) place (start + far) ∙ ap (λ y. start + y) far_is in
      let load = byte_goes g l found (register_of bank to) place rest (start + x) byte there (omega arith) (omega arith) (stands.readable (start + x) (omega arith) (omega arith)) is_there in
      let kept : KeptBelow bank.scratch l.top.registers found = λ r low. put_lower (put tested via start) place (start + far) r (omega arith) ∙ put_lower tested via start r (omega arith) ∙ put_lower (put l.top.registers place far) via (length text) r (omega arith) ∙ put_lower l.top.registers place far r (omega arith) in
      let gives : Gives (work_of bank) (register_of bank to) l.top.registers k (pos byte) = record {
        result = subst (λ v. IsWordOf v (pos byte)) (sym (put_same found (register_of bank to) byte)) (small_is byte (omega arith));
        others = λ r low other. put_other found (register_of bank to) byte r other ∙ kept r (omega arith);
      } in
      record {
        to = at l k rest;
        goes = goes_within g 1 (most_for_one * mir_cost (managed g) m) l (at l k rest) (goes_then g 1 3 1 l (at l tested tail) (at l k rest) (omega arith) goes
            (goes_then g 2 1 3 (at l tested tail) (at l found (LoadWord Lbu (register_of bank to) place (pos 0) ∷ rest)) (at l k rest) (omega arith)
            (goes_to g 2 (at l tested tail) (at l (put (put tested via start) place ((put tested via start via.0 + put tested via start place.0) % 2 ^ 32)) (LoadWord Lbu (register_of bank to) place (pos 0) ∷ rest)) (at l found (LoadWord Lbu (register_of bank to) place (pos 0) ∷ rest)) (ap (λ v. at l (put (put tested via start) place v) (LoadWord Lbu (register_of bank to) place (pos 0) ∷ rest)) sum) two)
            load)) (afford g fit m l floors pick is next (λ light. light) 6 (omega arith));
        stands = subst (λ y. Stands g y (at l k rest)) (sym step) (number_stands g m l floors pick is next to (pos byte) k (behind_act next.on) gives);
      }

  -- a Char of a literal, or error 201
  pub pick_comes : Comes g m l
  unfolding outcome action_fits
  pick_comes =
      let a = next.stays.activation in
      let (low_to, low_index) = two_of (here m floors).routine to index next.fine.0 in
      let word = a.kept.temporaries index.0 low_index in
      let short = next.fine.1.0 in
      let place_is : tested place.0 ≡ far = put_lower (put l.top.registers place far) via (length text) place.0 (omega arith) ∙ put_same l.top.registers place far in
      let via_is : tested via.0 ≡ length text = put_same (put l.top.registers place far) via (length text) in
      let test : takes Bgeu (tested place.0) (tested via.0) ≡ not (between (pos 1) (pos (length text)) n) = ap₂ (takes Bgeu) place_is via_is ∙ index_test (l.top.registers (register_of bank index).0) (length text) n word short in
      by (takes Bgeu (tested place.0) (tested via.0)) (between (pos 1) (pos (length text)) n) test refl (goes_straight g l front tail l.top.registers) step_above
    where
      by : (t b : Bool) → t ≡ not b → between (pos 1) (pos (length text)) n ≡ b → GoesTo g 1 3 l (at l l.top.registers (front ++ tail)) tail (if t then Away (error_block_of bank RangeCheck) tested else Behind tested) → mir_step (managed g) m ≡ picked_by b → Comes g m l
      by true true e inside goes step = absurd cc
      by false false e inside goes step = absurd cc
      by true false e inside goes step = index_fails g fit m l floors is pick next 1 3 (at l l.top.registers (front ++ tail)) 201 begins (record { is = refl; h = tested; goes = goes }) (afford g fit m l floors pick is next (λ light. light) 8 (omega arith)) step
      by false true e inside goes step =
          let (low_to, low_index) = two_of (here m floors).routine to index next.fine.0 in
          let word = next.stays.activation.kept.temporaries index.0 low_index in
          let (far_is, low) = index_far (l.top.registers (register_of bank index).0) (length text) n word next.fine.1.0 inside in
          char_stands (nat_abs (n -ℤ pos 1)) (subst (λ x. x < length text) far_is low) far_is (goes_from g 1 l (at l l.top.registers (front ++ tail)) (at l tested tail) begins goes) step
