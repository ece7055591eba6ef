-- A routine as one register sees it.
use Rattle.std.specs.Prelude.{◌≡◌, ℕ, ◌+◌, true, ◌||◌, not, Option, Some, None, List, [], ◌∷◌, length, map, slice_get}
use Rattle.std.specs.List.{flat_map}
use Rattle.op_low.specs.Reading.{other_block, reads, writes}
use Rattle.op_low.specs.Valid.{leaves}
use Rattle.op_low.specs.declared.code.Block.{Block}
use Rattle.op_low.specs.declared.ids.VirtualRegister.{VirtualRegister}
use Rattle.op_low.specs.declared.instruction.Instruction.{Instruction}
use Rattle.op_rv.specs.declared.symbol.BlockId.{BlockId}
use Rattle.op_regs.specs.declared.line.Line.{Line}

-- the positions at which blocks begin, the first one at a number
unfoldable pub starts_from : ℕ → List Block → List ℕ
starts_from position [] = []
starts_from position (b ∷ bs) = position ∷ starts_from (position + length b.code) bs

abbrev pub position_at : (starts : List ℕ) → Option BlockId → Option ℕ
position_at starts None = None
position_at starts (Some block) = slice_get starts block.0

-- what an instruction is for a register
unfoldable pub line_of : (starts : List ℕ) → VirtualRegister → Instruction → Line
line_of starts r i = record { reads = reads i r; passes = not (leaves i || writes i r); other = position_at starts (other_block i) }

unfoldable pub lines_of : (starts : List ℕ) → VirtualRegister → List Block → List Line
lines_of starts r blocks = flat_map (λ b. map (line_of starts r) b.code) blocks

-- some path over the lines from the position on comes to one that reads
pub data IsLiveLine (lines : List Line) : (position : ℕ) → Type 0 where
  LineReads : {p : ℕ} {line : Line} → slice_get lines p ≡ Some line → line.reads ≡ true → IsLiveLine lines p
  LinePasses : {p : ℕ} {line : Line} → slice_get lines p ≡ Some line → line.passes ≡ true → IsLiveLine lines (p + 1) → IsLiveLine lines p
  LineTurns : {p q : ℕ} {line : Line} → slice_get lines p ≡ Some line → line.other ≡ Some q → IsLiveLine lines q → IsLiveLine lines p
