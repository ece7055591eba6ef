-- Instructions of typed code are those that the agreement asks for.
use Rattle.std.proofs.Common.{◌≡◌, ◌≤◌, inl, inr, ℕ, List, [], ◌∷◌, length, arith}
use Rattle.std.specs.Prelude.{map}
use Rattle.std.specs.Int.{w32}
use Rattle.std.specs.Int.RustNames.{FitsSigned}
use Rattle.std.specs.List.{All}
use Rattle.std.proofs.lemmas.List.Elements.{All-cons, All-head, All-nil, All-tail}
use Rattle.std.proofs.lemmas.Option.{slice_get_within}
use Rattle.op_compute.specs.Turning.{HasWordArms, HasWordLabels}
use Rattle.op_core.specs.Sound.{IsSound}
use Rattle.op_core.specs.declared.program.Core.{Core}
use Rattle.op_core.specs.declared.statement.Label.{Label}
use Rattle.op_frames.proofs.PlacesFine.{most_each}
use Rattle.op_frames.specs.Made.{Every, IsCode, IsLast, Leaves}
use Rattle.op_lower.specs.Temporaries.{in_block, in_instruction}
use Rattle.op_meaning.specs.Shapes.{variables_of}
use Rattle.op_mir.specs.Code.{Arm as MeantArm}
use Rattle.op_mir.specs.View.{view_action, view_arm, view_block, view_given, view_instruction, view_receiver}
use Rattle.op_mir.specs.declared.code.Block.{Block}
use Rattle.op_mir.specs.declared.code.Mir.{Mir}
use Rattle.op_mir.specs.declared.code.Routine.{Routine}
use Rattle.op_mir.specs.declared.instruction.Arm.{Arm}
use Rattle.op_mir.specs.declared.instruction.Instruction.TheVariants.{Act, Call, Jump, When, Unless, Switch, Dispatch, MakeDue, OpenTemporaries, EndTemporary, Stop, Return}
use Rattle.op_mir.specs.declared.instruction.Instruction.{Instruction}
use Rattle.op_typing.specs.Simple.{IsSimpleProgram}
use Rattle.op_typing.specs.Typed.{AreTypedInstrs, AreWords, IsTypedInstr}
use Rattle.op_agreement.specs.Typed.{AreFine, AreTargets, IsFine, Leaves as LeavesIt, IsPaid}
use Rattle.op_correctness.proofs.Actions.{action_is, action_there, has_it}
use Rattle.op_correctness.proofs.Calls.{call_is, call_there}
use Rattle.op_correctness.specs.Targets.{IsTargetNumber, IsTargeted}

-- ---- selections

-- the ends of a label have 32 bits
abbrev IsWordLabel : Label → Type 0
IsWordLabel l = FitsSigned w32 l.first × FitsSigned w32 l.last

-- so have those of all labels of typed code, and of its arms
words_of : (labels : List Label) → AreWords labels → HasWordLabels labels
words_of [] are = tt
words_of (l ∷ ls) are =
    let (first, last) = All-head IsWordLabel l ls are in
    (first, last, words_of ls (All-tail IsWordLabel l ls are))

arms_words : (arms : List Arm) → All (λ (a : MeantArm). AreWords a.labels) (map view_arm arms) → HasWordArms arms
arms_words [] are = tt
arms_words (a ∷ arms) are =
    (words_of a.labels (All-head (λ (a : MeantArm). AreWords a.labels) (view_arm a) (map view_arm arms) are), arms_words arms (All-tail (λ (a : MeantArm). AreWords a.labels) (view_arm a) (map view_arm arms) are))

-- arms lead to blocks that are there
arms_lead : (x : Routine) (arms : List Arm) → Every (λ (a : MeantArm). IsTargetNumber (length x.blocks) a.block) (map view_arm arms) → AreTargets x arms
arms_lead x [] are = tt
arms_lead x (a ∷ arms) (first, are) = (first, arms_lead x arms are)

-- what its machine sees leaves the code, and so does the instruction
leaves_it : (core : Core) (r : ℕ) (i : Instruction) → IsLast (view_instruction core r i) → LeavesIt i
leaves_it core r (Act a landing) last = absurd last
leaves_it core r (Call id call) last = absurd last
leaves_it core r (Jump block) last = tt
leaves_it core r (When t block) last = absurd last
leaves_it core r (Unless t block) last = absurd last
leaves_it core r (Switch t arms) last = absurd last
leaves_it core r (Dispatch t block) last = absurd last
leaves_it core r (MakeDue f) last = absurd last
leaves_it core r (OpenTemporaries ts) last = absurd last
leaves_it core r (EndTemporary t) last = absurd last
leaves_it core r (Stop t) last = absurd last
leaves_it core r Return last = tt

-- ---- instructions

module _ (core : Core) (sound : IsSound core) (simple : IsSimpleProgram core) (mir : Mir) (number : length mir.routines ≡ length core.routines) (types : mir.counts.types ≡ length core.types) (variables : mir.counts.variables ≡ length core.variables) (r : ℕ) (x : Routine) (locals : x.locals ≡ (variables_of core r).count) where
  -- an instruction that is typed, leads to blocks of the routine, and names temporaries that it has
  instruction_fine : (i : Instruction) → IsTypedInstr core r (view_instruction core r i) → IsTargeted core r (length x.blocks) (view_instruction core r i) → in_instruction i ≤ x.temporaries → IsFine core mir r x i
  unfolding in_instruction
  instruction_fine (Act a landing) typed targeted low = (action_there core sound mir r x types variables locals a typed low, action_is core sound r (view_action core r a) typed)
  instruction_fine (Call id call) typed targeted low =
      let (given, receiver) = call_there core sound mir r x types variables locals id.0 call typed low in
      let there = slice_get_within core.routines id.0 typed.callee typed.there in
      (omega (arith, there, number), given, receiver, call_is core sound r simple id.0 (map view_given call.given) (view_receiver call.receiver) typed)
  instruction_fine (Jump block) typed targeted low = targeted
  instruction_fine (When t block) typed targeted low = (has_it core sound mir r x types variables locals t low, targeted)
  instruction_fine (Unless t block) typed targeted low = (has_it core sound mir r x types variables locals t low, targeted)
  instruction_fine (Switch t arms) typed targeted low = (has_it core sound mir r x types variables locals t low, arms_words arms typed, arms_lead x arms targeted)
  instruction_fine (Dispatch t block) typed targeted low = (has_it core sound mir r x types variables locals t (omega (arith, low)), targeted)
  instruction_fine (MakeDue f) typed (own, closing) low = (omega (arith, own, number), closing)
  instruction_fine (OpenTemporaries ts) typed targeted low = absurd targeted
  instruction_fine (EndTemporary t) typed targeted low = absurd targeted
  instruction_fine (Stop t) typed targeted low = has_it core sound mir r x types variables locals t low
  instruction_fine Return typed targeted low = tt

  -- ---- code

  -- and all instructions of such code
  all_fine : (code : List Instruction) → AreTypedInstrs core r (map (view_instruction core r) code) → Every (IsTargeted core r (length x.blocks)) (map (view_instruction core r) code) → Every (λ i. in_instruction i ≤ x.temporaries) code → All (IsFine core mir r x) code
  all_fine [] typed targeted low = All-nil (IsFine core mir r x)
  all_fine (i ∷ code) typed (leads, targeted) (here, low) =
      let first = All-head (IsTypedInstr core r) (view_instruction core r i) (map (view_instruction core r) code) typed in
      let others = All-tail (IsTypedInstr core r) (view_instruction core r i) (map (view_instruction core r) code) typed in
      All-cons (IsFine core mir r x) i code (instruction_fine i first leads here) (all_fine code others targeted low)

  -- where each instruction is fine and paid, and the last one leaves, the code is
  code_fine : (code : List Instruction) → All (IsFine core mir r x) code → Every (IsPaid mir r x) code → Leaves (map (view_instruction core r) code) → AreFine core mir r x code
  code_fine [] fine paid leaves = absurd leaves
  code_fine (i ∷ []) fine (here, paid) leaves = (All-head (IsFine core mir r x) i [] fine, here, inl (leaves_it core r i leaves))
  code_fine (i ∷ j ∷ code) fine (here, paid) leaves = (All-head (IsFine core mir r x) i (j ∷ code) fine, here, inr (code_fine (j ∷ code) (All-tail (IsFine core mir r x) i (j ∷ code) fine) paid leaves))

  -- Each instruction of a block of typed code, whose branches lead to blocks, is fine.
  pub each_fine : (block : Block) → AreTypedInstrs core r (view_block core r block) → IsCode (IsTargeted core r (length x.blocks)) (view_block core r block) → in_block block ≤ x.temporaries → All (IsFine core mir r x) block.code
  each_fine block typed is low = all_fine block.code typed is.each (most_each in_instruction block.code x.temporaries low)

  -- And so is the block, if they are paid.
  pub block_fine : (block : Block) → AreTypedInstrs core r (view_block core r block) → IsCode (IsTargeted core r (length x.blocks)) (view_block core r block) → in_block block ≤ x.temporaries → Every (IsPaid mir r x) block.code → AreFine core mir r x block.code
  block_fine block typed is low paid = code_fine block.code (each_fine block typed is low) paid is.leaves
