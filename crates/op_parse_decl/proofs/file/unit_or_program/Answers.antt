use Rattle.op_parse_code.proofs.Errors.{passed}
use Rattle.op_parse_decl.proofs.Files.{program_refused, unit_refused}
use Rattle.op_parse_decl.proofs.file.unit_or_program.Goals as goal

pub returns-in_err-unit-in-Some-clause-refused : goal.returns-in_err-unit-in-Some-clause-refused
returns-in_err-unit-in-Some-clause-refused c = passed c.from_residual.result c.from_residual.ensures.1 (λ y e. rw e (unit_refused c.in-Some.ensures.mark.1 c.in_err-unit-in-Some.ensures.refused))

pub returns-in_err-program-in-None-clause-refused : goal.returns-in_err-program-in-None-clause-refused
returns-in_err-program-in-None-clause-refused c = passed c.from_residual-in_err-program-in-None.result c.from_residual-in_err-program-in-None.ensures.1 (λ y e. rw e (program_refused c.in-None.ensures.mark c.in_err-program-in-None.ensures.refused))
