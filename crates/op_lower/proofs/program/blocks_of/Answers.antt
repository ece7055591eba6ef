use Rattle.std.proofs.Common.{length, ap, ◌∙◌, arith}
use Rattle.op_lower.proofs.MadeLemmas.{grows}
use Rattle.op_lower.proofs.ProgramLemmas.{routine_blocks}
use Rattle.op_lower.specs.Made.{items_made}
use Rattle.op_lower.specs.Seen.{seen_blocks}
use Rattle.op_lower.specs.declared.exits.Exits.TheVariants.{Routine}
use Rattle.op_lower.proofs.program.blocks_of.Goals as goal

pub fill-requires : goal.fill-requires
fill-requires c = omega (arith, ap length c.in_ok-blocks.ensures, grows (items_made Routine c.args.items.items c.in_ok-blocks.blocks c.in_ok-now.now) c.in_ok-blocks.blocks c.code.new.blocks c.code.new.now c.in_ok-code.ensures)

pub returns : goal.returns
returns c = λ core r. ap (seen_blocks core r) c.into_sequence.ensures ∙ routine_blocks c.args.items.items c.in_ok-blocks.blocks c.code.new.blocks c.fill.new.self c.in_ok-now.now c.code.new.now c.in_ok-blocks.ensures c.in_ok-now.ensures c.in_ok-code.ensures c.fill.ensures core r
