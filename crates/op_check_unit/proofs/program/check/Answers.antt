use Rattle.std.proofs.Common.{map, subst}
use Rattle.std.proofs.lemmas.Result.{err_from_is_err_and}
use Rattle.op_check_unit.proofs.Law.{obeys, program_law}
use Rattle.op_check_unit.proofs.Placing.{checks}
use Rattle.op_check_unit.proofs.Told.{program_told}
use Rattle.op_check_unit.specs.Checking.{CheckIs}
use Rattle.op_check_unit.specs.Programs.{files_mean, program_means}
use Rattle.op_check_unit.specs.Rules.{ProgramBreaks}
use Rattle.op_check_unit.specs.Steps.{Declared}
use Rattle.op_check_unit.specs.System.{beginning}
use Rattle.op_tree.specs.File.{file_of}
use Rattle.op_check_unit.proofs.program.check.Goals as goal

pub returns : goal.returns
returns c =
    let d = c.in_ok-declarer in
    let new = c.files.new.self in
    let fs = map file_of c.args.trees.now in
    let order = c.args.order.now in
    let means : CheckIs (program_means fs order) c.finish.result =
    checks (files_mean fs order beginning) d.declarer new c.finish.result d.ensures.sink
    (subst (λ h. Declared (files_mean fs order h) d.declarer new) d.ensures.here c.in_ok-files.ensures)
    c.finish.ensures in
    record { means = means; law = obeys (program_means fs order) (ProgramBreaks fs order) c.finish.result (program_law fs order) means; told = program_told fs order c.finish.result means }

pub returns-in_err-files-clause-means : goal.returns-in_err-files-clause-means
returns-in_err-files-clause-means c = let p = err_from_is_err_and c.from_residual-in_err-files.result c.from_residual-in_err-files.ensures.1 in rw (p.1, p.2) tt

pub returns-in_err-files-clause-law : goal.returns-in_err-files-clause-law
returns-in_err-files-clause-law c = let p = err_from_is_err_and c.from_residual-in_err-files.result c.from_residual-in_err-files.ensures.1 in rw (p.1, p.2) tt

pub returns-in_err-files-clause-told : goal.returns-in_err-files-clause-told
returns-in_err-files-clause-told c = let p = err_from_is_err_and c.from_residual-in_err-files.result c.from_residual-in_err-files.ensures.1 in rw (p.1, p.2) tt
