-- How the different texts that code takes come together, part by part.
use Rattle.std.specs.Prelude.{ℕ, suc, List, [], ◌∷◌, ◌++◌, fold, if◌then◌else◌}
use Rattle.op_core.specs.declared.program.Core.{Core}
use Rattle.op_mir.specs.declared.code.Block.{Block}
use Rattle.op_mir.specs.declared.code.Routine.{Routine}
use Rattle.op_mir.specs.declared.instruction.Instruction.{Instruction}
use Rattle.op_constants.specs.Literals.{instruction_literals}
use Rattle.op_constants.specs.Texts.{is_among}

-- with a text behind them, if it is none of them
abbrev pub with_text : List (List ℕ) → List ℕ → List (List ℕ)
with_text texts text = if is_among text texts then texts else texts ++ text ∷ []

abbrev pub with_texts : List (List ℕ) → List (List ℕ) → List (List ℕ)
with_texts texts more = fold with_text texts more

abbrev pub with_instruction : Core → ℕ → List (List ℕ) → Instruction → List (List ℕ)
with_instruction core r texts i = with_texts texts (instruction_literals core r i)

abbrev pub with_block : Core → ℕ → List (List ℕ) → Block → List (List ℕ)
with_block core r texts block = fold (with_instruction core r) texts block.code

abbrev pub with_routine : Core → ℕ → List (List ℕ) → Routine → List (List ℕ)
with_routine core r texts routine = fold (with_block core r) texts routine.blocks

-- those of the routines from this number on
abbrev pub with_routines : Core → ℕ → List (List ℕ) → List Routine → List (List ℕ)
with_routines core r texts [] = texts
with_routines core r texts (x ∷ xs) = with_routines core (suc r) (with_routine core r texts x) xs
