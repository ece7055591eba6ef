use Rattle.std.proofs.Common.{IfOk, ◌∷◌, map, refl, subst, ◌∙◌}
use Rattle.op_check_unit.proofs.Outlines.{program_outlined}
use Rattle.op_check_unit.specs.Programs.{files_mean}
use Rattle.op_check_unit.specs.Steps.{Declared, here_of}
use Rattle.op_tree.specs.File.{file_of, program, program_of}
use Rattle.op_check_unit.proofs.declarer.Declarer.program_of.Goals as goal

pub returns : goal.returns
returns c =
    let old = c.args.self.now in
    let new = c.parts_of_program.new.self in
    let p = program_of c.args.program.now in
    subst (λ ts. IfOk c.parts_of_program.result (λ _. Declared (files_mean (program p ∷ map file_of ts) c.args.order.now (here_of old)) old new)) c.in_ok-files.ensures
    (program_outlined p c.args.order.now (map file_of c.in_ok-files.files.trees.now) c.as_slice.result.now c.in_ok-exports.exports c.interfaces.new.exports c.interfaces.new.exports old c.blank_units.new.self c.interfaces.new.self new c.parts_of_program.result c.requires
    c.in_ok-blank_units.ensures.here c.in_ok-exports.ensures (c.as_slice.ensures ∙ c.in_ok-numbers.ensures) c.in_ok-interfaces.ensures.outline c.in_ok-interfaces.ensures.clear refl
    (λ faults told. c.parts_of_program.ensures faults told))
