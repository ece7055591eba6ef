use Rattle.std.proofs.Common.{ap, ◌∙◌}
use Rattle.op_check_unit.proofs.UnitSteps.{interface_joined}
use Rattle.op_check_unit.specs.Programs.{outer}
use Rattle.op_check_unit.specs.Steps.{here_of}
use Rattle.op_tree.specs.File.{unit_of}
use Rattle.op_check_unit.proofs.declarer.Declarer.interface.Goals as goal

pub returns-clause-outline : goal.returns-clause-outline
returns-clause-outline c =
    interface_joined c.args.exports.now c.args.number (unit_of c.args.unit.now) c.in_ok-export.export c.args.self.now c.enter_unit.new.self c.interface_part.new.self c.export.new.self c.leave_unit.new.self c.requires
    c.in_ok-enter_unit.ensures.here c.in_ok-enter_unit.ensures.kept c.in_ok-interface_part.ensures c.in_ok-export.ensures.export c.in_ok-export.ensures.here
    (c.leave_unit.ensures.here ∙ ap (λ n. outer n (here_of c.export.new.self)) c.len-names.ensures)
