use Rattle.op_values.specs.Adding.{Adds}
use Rattle.op_semantics.specs.Frames.{program_of}
use Rattle.op_semantics.specs.Statements.{first_items}
use Rattle.op_turns.proofs.first.first_values.Given as goal

abbrev pub invariant-loop-variable : goal.invariant-loop-variable
invariant-loop-variable l = Adds l.fn.setting l.fn.items.items l.items.items (first_items l.fn.setting.core.now (program_of l.fn.setting.core.now 0).first l.fn.setting.routine.0 l.variable)
