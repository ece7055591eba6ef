-- In what sense the managed code that was made goes along with the source machine.
use Rattle.std.specs.Prelude.{◌≡◌, ℕ, List}
use Rattle.op_core.specs.declared.program.Core.{Core}
use Rattle.op_meaning.specs.Frames.{Program, program_of}
use Rattle.op_meaning.specs.Source.{source}
use Rattle.op_meaning.specs.Start.{start}
use Rattle.op_mir.specs.Going.{Goes}
use Rattle.op_mir.specs.Machine.{Code, mir_machine, mir_start}
use Rattle.op_mir.specs.Plain.{IsPlain}
use Rattle.op_mir.specs.View.{view_of}
use Rattle.op_mir.specs.declared.code.Mir.{Mir}
use Rattle.op_simulation.specs.Matching.{Matching, Agreement}

-- code shows the same as the program, at no more than four times the cost
abbrev pub goes_along : (p : Program) (c : Code) → Matching (source p) (mir_machine c)
goes_along p c = record { states = Goes p; moments = λ s m. Unit {0}; traces = λ xs ys. xs ≡ ys; factor = 4 }

-- the code of a plain program and the program go along for ever, with any stack and any input
abbrev pub Manages : Core → Mir → Type 0
Manages core mir =
    (stack : ℕ) → IsPlain (program_of core stack) → (input : List ℕ)
    → Agreement (goes_along (program_of core stack) (view_of core stack mir)) (start (program_of core stack) input) (mir_start (program_of core stack) input)
