use Rattle.std.proofs.Common.{ap, ◌∙◌}
use Rattle.op_mir.specs.Code.{blocks_of}
use Rattle.op_lower.specs.Temporaries.{in_blocks}
use Rattle.op_lower.proofs.program.routine.Goals as goal

pub returns : goal.returns
returns c = record {
  blocks = λ stack. c.in_ok-blocks.ensures c.args.core.now c.args.id.0 ∙ ap blocks_of c.in_ok-items.ensures;
  charge = c.charge.ensures;
  locals = c.locals.ensures;
  temporaries = c.in_ok-temporaries.ensures ∙ ap in_blocks c.as_slice.ensures;
}
