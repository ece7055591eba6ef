-- In what sense managed code goes along with the source machine.
use Rattle.std.specs.Prelude.{◌≡◌, ℕ, List}
use Rattle.op_simulation.specs.Matching.{Matching, Follows, Agreement}
use Rattle.op_meaning.specs.Frames.{Program}
use Rattle.op_meaning.specs.Source.{source}
use Rattle.op_meaning.specs.Start.{start}
use Rattle.op_mir.specs.Going.{Goes}
use Rattle.op_mir.specs.Machine.{code_of, mir_machine, mir_start}
use Rattle.op_mir.specs.Plain.{IsPlain}

-- the code of a program shows the same, at no more than four times the cost
abbrev pub managed : (p : Program) → Matching (source p) (mir_machine (code_of p))
managed p = record { states = Goes p; moments = λ s m. Unit {0}; traces = λ xs ys. xs ≡ ys; factor = 4 }

-- a step of a plain program is one or more of its code
abbrev pub CodeFollows : Type 0
CodeFollows = (p : Program) → IsPlain p → Follows (managed p)

-- they begin together, and so they go along for ever
abbrev pub CodeAgrees : Type 0
CodeAgrees = (p : Program) → IsPlain p → (input : List ℕ) → Agreement (managed p) (start p input) (mir_start p input)
