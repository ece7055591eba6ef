-- The low code of branches by a number. A block of managed code is the block of low code of the same number. (Free Pascal Reference
-- Guide, "The Case statement", "The If..then..else statement" and "Exceptions".)
use Rattle.std.specs.Prelude.{ℕ, ◌+◌, ◌-ℤ◌, unsigned_abs, int_lt, List, [], ◌∷◌, ◌++◌, if◌then◌else◌}
use Rattle.std.specs.Int.{w32, cast_unsigned}
use Rattle.std.specs.List.{flat_map}
use Rattle.std.specs.Ordering.{int_eq}
use Rattle.op_compute.specs.Ranges.{distance_code, distance_register}
use Rattle.op_compute.specs.declared.bank.Work.{Work}
use Rattle.op_core.specs.declared.statement.Label.{Label}
use Rattle.op_low.specs.declared.ids.VirtualRegister.{VirtualRegister}
use Rattle.op_low.specs.declared.instruction.Instruction.{Instruction}
use Rattle.op_low.specs.declared.instruction.Instruction.TheVariants.{Const, Branch}
use Rattle.op_mir.specs.declared.ids.BlockId.{BlockId as ManagedBlock}
use Rattle.op_mir.specs.declared.instruction.Arm.{Arm}
use Rattle.op_rv.specs.declared.instruction.BranchOp.TheVariants.{Beq, Bne, Bgeu}
use Rattle.op_rv.specs.declared.symbol.BlockId.{BlockId}

abbrev pub block_of : ManagedBlock → BlockId
block_of block = record { 0 = block.0 }

-- ---- truth

unfoldable pub true_code : Work → (from : VirtualRegister) → ManagedBlock → List Instruction
true_code w from block = Const w.first 0 ∷ Branch Bne from w.first (block_of block) ∷ []

unfoldable pub false_code : Work → (from : VirtualRegister) → ManagedBlock → List Instruction
false_code w from block = Const w.first 0 ∷ Branch Beq from w.first (block_of block) ∷ []

-- ---- labels

-- one value is compared, and of more the distance from the first one
unfoldable pub label_code : Work → (from : VirtualRegister) → BlockId → Label → List Instruction
label_code w from block label =
    if int_lt label.last label.first
    then []
    else (if int_eq label.first label.last
    then Const w.first (cast_unsigned w32 label.first) ∷ Branch Beq from w.first block ∷ []
    else
    distance_code w.first from label.first
    ++ Const w.second (unsigned_abs (label.last -ℤ label.first))
    ∷ Branch Bgeu w.second (distance_register w.first from label.first) block
    ∷ [])

unfoldable pub labels_code : Work → (from : VirtualRegister) → BlockId → List Label → List Instruction
labels_code w from block labels = flat_map (label_code w from block) labels

unfoldable pub arm_code : Work → (from : VirtualRegister) → Arm → List Instruction
arm_code w from arm = labels_code w from (block_of arm.block) arm.labels

unfoldable pub arms_code : Work → (from : VirtualRegister) → List Arm → List Instruction
arms_code w from arms = flat_map (arm_code w from) arms

-- behind the labels stands one instruction to no effect: even without labels there is a step
unfoldable pub switch_code : Work → (from : VirtualRegister) → List Arm → List Instruction
switch_code w from arms = arms_code w from arms ++ Const w.first 0 ∷ []

-- ---- reasons

-- to the block that stands so far behind one, where this is the reason
unfoldable pub way_code : Work → (from : VirtualRegister) → ManagedBlock → (reason : ℕ) → List Instruction
way_code w from block reason = Const w.first reason ∷ Branch Beq from w.first (record { 0 = block.0 + reason }) ∷ []

unfoldable pub dispatch_code : Work → (from : VirtualRegister) → ManagedBlock → List Instruction
dispatch_code w from block = way_code w from block 1 ++ way_code w from block 2 ++ way_code w from block 3
