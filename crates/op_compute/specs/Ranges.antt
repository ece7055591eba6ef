-- The low code of tests of ranges, and of sums with numbers that are known. (Free Pascal Programmer's Guide, "$R : Range checking".)
use Rattle.std.specs.Prelude.{ℤ, pos, negsuc, ◌-ℤ◌, unsigned_abs, int_lt, Bool, ◌&&◌, List, [], ◌∷◌, ◌++◌, if◌then◌else◌}
use Rattle.std.specs.Int.{w32, cast_unsigned, int_max, int_min, int_wrapping_neg}
use Rattle.std.specs.Ordering.{int_eq}
use Rattle.op_compute.specs.declared.bank.Work.{Work}
use Rattle.op_low.specs.declared.ids.VirtualRegister.{VirtualRegister}
use Rattle.op_low.specs.declared.instruction.Instruction.{Instruction}
use Rattle.op_low.specs.declared.instruction.Instruction.TheVariants.{Const, Alu, AluImm, Branch, Jump}
use Rattle.op_meaning.specs.Numbers.{between}
use Rattle.op_rv.specs.declared.instruction.AluOp.TheVariants.{Add}
use Rattle.op_rv.specs.declared.instruction.BranchOp.TheVariants.{Bltu}
use Rattle.op_rv.specs.declared.instruction.ImmOp.TheVariants.{Addi}

-- ---- sums

-- an instruction takes the number as it stands
unfoldable pub is_immediate : ℤ → Bool
is_immediate n = between (negsuc 2047) (pos 2047) n

-- with a number, by another register where no instruction takes it
unfoldable pub sum_with : (via to from : VirtualRegister) → ℤ → List Instruction
sum_with via to from n =
    if is_immediate n then AluImm Addi to from n ∷ [] else Const via (cast_unsigned w32 n) ∷ Alu Add to from via ∷ []

-- how far a number is above another one, and the register that has it
unfoldable pub distance_code : (via from : VirtualRegister) → (low : ℤ) → List Instruction
distance_code via from low = if int_eq low (pos 0) then [] else sum_with via via from (int_wrapping_neg w32 low)

unfoldable pub distance_register : (via from : VirtualRegister) → (low : ℤ) → VirtualRegister
distance_register via from low = if int_eq low (pos 0) then from else via

-- ---- ranges

-- the numbers of 32 bits
abbrev pub least : ℤ
least = negsuc 2147483647

abbrev pub greatest : ℤ
greatest = pos 2147483647

unfoldable pub has_every_number : ℤ → ℤ → Bool
has_every_number low high = int_eq low least && int_eq high greatest

-- A number is from one to another, if its distance from the first one, as a word, is at most theirs. Error 201 where it is not.
unfoldable pub within_code : Work → (from : VirtualRegister) → (low high : ℤ) → List Instruction
within_code w from low high =
    if has_every_number low high
    then []
    else
    distance_code w.first from low
    ++ Const w.second (unsigned_abs (high -ℤ low))
    ∷ Branch Bltu w.second (distance_register w.first from low) w.range
    ∷ []

-- where a range begins and ends among the numbers of 32 bits
abbrev pub lower_end : ℤ → ℤ
lower_end low = int_max least low

abbrev pub higher_end : ℤ → ℤ
higher_end high = int_min high greatest

-- no number is in a range that ends before it begins
unfoldable pub range_code : Work → (from : VirtualRegister) → (low high : ℤ) → List Instruction
range_code w from low high =
    if int_lt (higher_end high) (lower_end low) then Jump w.range ∷ [] else within_code w from (lower_end low) (higher_end high)
