-- Whether the code behind an instruction does better without its value in a register. That is a matter of speed alone: what is asked of the better
-- code is tested where it is made.
use Rattle.std.specs.Prelude.{ℕ, zero, suc, pos, Bool, true, false, ◌&&◌, ◌||◌, not, Option, Some, None, List, [], ◌∷◌, nat_eq, if◌then◌else◌}
use Rattle.std.specs.Ordering.{int_eq}
use Rattle.op_low.specs.declared.ids.VirtualRegister.{VirtualRegister}
use Rattle.op_low.specs.declared.instruction.Instruction.{Instruction}
use Rattle.op_low.specs.declared.instruction.Instruction.TheVariants.{Const, Address, Local, Move, Alu, AluImm, Shift, Load, Store, Call, CallAt, Branch, Jump, Return, Raise, Read, Write, Exit}
use Rattle.op_rv.specs.declared.instruction.BranchOp.{BranchOp}
use Rattle.op_rv.specs.declared.instruction.BranchOp.TheVariants.{Beq, Bne}
use Rattle.op_rv.specs.declared.instruction.ImmOp.{ImmOp}
use Rattle.op_rv.specs.declared.instruction.ImmOp.TheVariants.{Sltiu, Xori}
use Rattle.op_optimize.specs.Liveness.{is_dead, is_live_beyond, is_lost, window}
use Rattle.op_optimize.specs.Reading.{reads, same, writes}
use Rattle.op_optimize.specs.Values.{folded, is_commutative}
use Rattle.op_optimize.specs.declared.fact.Value.{Value}
use Rattle.op_optimize.specs.declared.fact.Value.TheVariants.{Copy, Number, Difference, Truth}
use Rattle.op_optimize.specs.declared.value.NumberForm.{NumberForm}

-- a copy is read only while that of which it is one stays; `old` tells that this was written
unfoldable pub copy_serves : List ℕ → (most : ℕ) → (old : Bool) → (to from : VirtualRegister) → List Instruction → Bool
copy_serves live zero old to from is = false
copy_serves live (suc most) old to from [] = false
copy_serves live (suc most) old to from (i ∷ is) =
    if (old && reads i to) || is_live_beyond live i to then false
    else (if is_lost i to then true else copy_serves live most (old || writes i from) to from is)

abbrev pub is_there : Option NumberForm → Bool
is_there None = false
is_there (Some f) = true

-- an instruction has a form with a number in place of a register that it reads
unfoldable pub takes_number : Instruction → VirtualRegister → ℕ → Bool
takes_number (Const to value) r n = false
takes_number (Address to symbol) r n = false
takes_number (Local to offset) r n = false
takes_number (Move to from) r n = true
takes_number (Alu op to left right) r n = not (same left r && same right r) && (same right r || is_commutative op) && is_there (folded op n)
takes_number (AluImm op to left imm) r n = false
takes_number (Shift op to left amount) r n = false
takes_number (Load op to base offset) r n = false
takes_number (Store op v base offset) r n = false
takes_number (Call id call) r n = false
takes_number (CallAt address call) r n = false
takes_number (Branch op left right block) r n = false
takes_number (Jump block) r n = false
takes_number (Return v) r n = false
takes_number Raise r n = false
takes_number (Read to buffer size) r n = false
takes_number (Write output buffer size) r n = false
takes_number (Exit status) r n = false

-- the first instruction that reads the number takes it, and none behind it does
unfoldable pub number_serves : List ℕ → (most : ℕ) → (to : VirtualRegister) → ℕ → List Instruction → Bool
number_serves live zero to n is = false
number_serves live (suc most) to n [] = false
number_serves live (suc most) to n (i ∷ is) =
    if reads i to then takes_number i to n && (is_lost i to || is_dead live is to) && not (is_live_beyond live i to)
    else (if is_live_beyond live i to then false else (if is_lost i to then true else number_serves live most to n is))

abbrev pub changes_truth : ImmOp → Bool
changes_truth Xori = true
changes_truth Sltiu = true
changes_truth _ = false

abbrev pub tests_truth : BranchOp → Bool
tests_truth Beq = true
tests_truth Bne = true
tests_truth _ = false

-- a truth is only branched on: behind it stand changes of it, a zero and the branch, and nothing reads it then
unfoldable pub truth_serves : List ℕ → (most : ℕ) → (now : VirtualRegister) → List Instruction → Bool
truth_serves live zero now is = false
truth_serves live (suc most) now (AluImm op to left imm ∷ is) =
    changes_truth op && int_eq imm (pos 1) && same left now && (same to now || is_dead live is now) && truth_serves live most to is
truth_serves live (suc most) now (Const to n ∷ is) = nat_eq n 0 && not (same to now) && truth_serves live most now is
truth_serves live (suc most) now (Branch op left right block ∷ is) =
    same left now && tests_truth op && not (is_live_beyond live (Branch op left right block) now) && is_dead live is now
truth_serves live (suc most) now _ = false

-- `nothing` is the register that has 0
unfoldable pub serves : List ℕ → (nothing to : VirtualRegister) → Value → List Instruction → Bool
serves live nothing to (Copy of) is = same of to || copy_serves live window false to of is
serves live nothing to (Number n) is = if nat_eq n 0 then copy_serves live window false to nothing is else number_serves live window to n is
serves live nothing to (Difference left right) is = truth_serves live 8 to is
serves live nothing to (Truth op left right) is = truth_serves live 8 to is
