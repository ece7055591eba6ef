-- Trees that are fit stay so in a program with more types.
use Rattle.std.proofs.Common.{refl}
use Rattle.op_core.specs.Growing.{IsFrontOf}
use Rattle.op_core.specs.Statement.{Statements}
use Rattle.op_core.specs.declared.program.Core.{Core}
use Rattle.op_accepted.proofs.Keeping.{statements_kept}
use Rattle.op_accepted.specs.Fit.{AreFitStatements, any_text}

pub statements_grow : (core later : Core) → IsFrontOf core.types later.types → (ss : Statements) → AreFitStatements core ss → AreFitStatements later ss
statements_grow core later types ss e = statements_kept core later types any_text any_text (λ text. Unit {0}) (λ text h f. refl) ss (record { each = λ text h. tt }) e
