use Rattle.op_lower.proofs.MadeLemmas.{end_put, ended_all}
use Rattle.op_lower.proofs.instructions.Instructions.end.Goals as goal

pub loop-last-preserved : goal.loop-last-preserved
loop-last-preserved c = λ core r. end_put core r c.loop-last.rest.now c.in-Some.front.now c.in-Some.last.now c.loop-last.self c.put.new.self _ c.in-Some.ensures.cases.0 c.in_ok-put.ensures (c.loop-last.invariant core r)

pub returns : goal.returns
returns c = λ core r. ended_all core r c.loop-last.rest.now c.loop-last.self _ c.in_default.ensures.cases (c.loop-last.invariant core r)
