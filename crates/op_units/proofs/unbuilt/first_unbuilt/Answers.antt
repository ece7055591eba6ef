use Rattle.std.proofs.Common.{sym, ◌∙◌}
use Rattle.op_tree.specs.Terminal.{terminals}
use Rattle.op_units.proofs.Searching.{found_at, nothing_left}
use Rattle.op_units.proofs.unbuilt.first_unbuilt.Goals as goal

pub returns-in-Some-begun : goal.returns-in-Some-begun
returns-in-Some-begun c = found_at (terminals c.args.tokens.now) (terminals c.loop-behind.rest.now) c.in-Some-begun.refusal c.loop-behind.invariant (sym c.begun.ensures ∙ c.in-Some-begun.is)

pub returns : goal.returns
returns c = nothing_left (terminals c.args.tokens.now) c.loop-behind.rest.now c.in_default.ensures.cases c.loop-behind.invariant
