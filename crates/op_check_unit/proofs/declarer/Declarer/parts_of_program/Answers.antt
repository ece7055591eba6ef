use Rattle.std.proofs.Common.{length, map, sym, ◌∙◌}
use Rattle.op_check_unit.proofs.Clear.{none_kept, some_kept}
use Rattle.op_check_unit.proofs.UnitSteps.{program_joined, stops}
use Rattle.op_check_unit.specs.Programs.{in_unit, program_declared, units_mean}
use Rattle.op_check_unit.specs.Steps.{here_of}
use Rattle.op_tree.specs.File.{file_of, program_of}
use Rattle.op_check_unit.proofs.declarer.Declarer.parts_of_program.Goals as goal
use Rattle.op_judgement.specs.Steps.{done}

pub returns-then-is_some : goal.returns-then-is_some
returns-then-is_some c = λ faults told.
    let old = c.args.self.now in
    let es = c.args.exports.now in
    let q = some_kept c.units.new.self.sink.kept (sym c.is_some.ensures ∙ c.if-is_some.true) in
    stops (units_mean (map file_of c.args.files.now.trees.now) es faults 0 es (here_of old)) (λ h. done (program_declared es (program_of c.args.program.now) (in_unit (length c.args.order.now) h))) old c.units.new.self q.0 c.requires q.1 (c.in_ok-units.ensures faults told)

pub returns : goal.returns
returns c = λ faults told.
    let old = c.args.self.now in
    let es = c.args.exports.now in
    program_joined es (program_of c.args.program.now) (length c.args.order.now) (units_mean (map file_of c.args.files.now.trees.now) es faults 0 es (here_of old)) old c.units.new.self c.enter_unit.new.self c.program.new.self c.program.result c.requires
    (none_kept c.units.new.self.sink.kept (sym c.is_some.ensures ∙ c.if-is_some.false)) (c.in_ok-units.ensures faults told) c.in_ok-enter_unit.ensures.here c.in_ok-enter_unit.ensures.kept c.program.ensures
