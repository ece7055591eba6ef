use Rattle.std.proofs.Common.{◌≡◌}
use Rattle.op_items.specs.Adding.{Adds}
use Rattle.op_meaning.specs.Frames.{program_of}
use Rattle.op_meaning.specs.Statements.{first_items}
use Rattle.op_items.proofs.setting.Setting.first_values.Given as goal

abbrev pub invariant-loop-variable : goal.invariant-loop-variable
invariant-loop-variable l = Adds l.fn.self l.fn.items.items l.items.items (first_items l.fn.self.core.now (program_of l.fn.self.core.now 0).first l.fn.self.routine.0 l.variable)
