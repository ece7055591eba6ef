-- The items of a routine whose body is counted have code, whatever may be asked of its blocks.
use Rattle.std.proofs.Common.{ℕ, ◌+◌, arith}
use Rattle.std.specs.Prelude.{◌*◌}
use Rattle.op_core.specs.declared.program.Core.{Core}
use Rattle.op_frames.proofs.ExpressionsWithin.{made_both}
use Rattle.op_frames.proofs.RegistersUnder.{first_well}
use Rattle.op_frames.proofs.StatementsWithin.{all_well}
use Rattle.op_frames.specs.Counted.{AreCountedStatements}
use Rattle.op_frames.specs.Made.{AreMade}
use Rattle.op_frames.specs.Within.{IsWithin}
use Rattle.op_meaning.specs.Calls.{env_of}
use Rattle.op_meaning.specs.Charge.{nodes_of, statements_weight}
use Rattle.op_meaning.specs.Expressions.{first_here}
use Rattle.op_meaning.specs.Frames.{program_of}
use Rattle.op_meaning.specs.Shapes.{variables_of}
use Rattle.op_meaning.specs.Statements.{first_items, work_of_all}
use Rattle.op_mir.specs.Code.{items_of}

module _ (core : Core) (stack r : ℕ) where
  -- the nodes of the text of its body
  abbrev pub nodes : ℕ
  nodes = nodes_of (statements_weight core ((program_of core stack).body r))

  -- First values and statements, within temporaries that are at most twice the nodes.
  pub items_made : (blocks : ℕ) → AreCountedStatements ((program_of core stack).body r) → AreMade (IsWithin (2 * nodes) (2 * nodes + 1)) blocks (items_of (program_of core stack) r)
  items_made blocks counted =
      let p = program_of core stack in
      let firsts = first_well core blocks (2 * nodes) (2 * nodes + 1) r (variables_of core r).count p.first in
      let work = all_well blocks (2 * nodes) (2 * nodes + 1) (env_of p r) first_here (p.body r) counted (omega arith) (omega arith) in
      made_both (IsWithin (2 * nodes) (2 * nodes + 1)) blocks (first_items core p.first r (variables_of core r).count) (work_of_all (env_of p r) first_here (p.body r)) firsts work
