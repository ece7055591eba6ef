use Rattle.op_parse_code.proofs.Errors.{passed}
use Rattle.op_parse_code.proofs.Handlers.{class_do_missing, class_name_missing, class_open, class_alone, class_qualified}
use Rattle.op_parse_code.proofs.handler.class_tail.Goals as goal

pub returns-in_err-rest-in-None-clause-refused : goal.returns-in_err-rest-in-None-clause-refused
returns-in_err-rest-in-None-clause-refused c = passed c.from_residual.result c.from_residual.ensures.1 (λ y e. λ d. rw e (class_do_missing d c.args.end _ _ c.in-None.ensures.mark (c.in_err-rest-in-None.ensures.refused d)))

pub returns-in_err-name-in-Some-clause-refused : goal.returns-in_err-name-in-Some-clause-refused
returns-in_err-name-in-Some-clause-refused c = passed c.from_residual-in_err-name-in-Some.result c.from_residual-in_err-name-in-Some.ensures.1 (λ y e. λ d. rw e (class_name_missing d c.args.end _ _ _ _ c.in-Some.ensures.mark.1 (c.in_err-name-in-Some.ensures.refused d)))

pub returns-in_err-rest-in-Some-clause-refused : goal.returns-in_err-rest-in-Some-clause-refused
returns-in_err-rest-in-Some-clause-refused c = passed c.from_residual-in_err-rest-in-Some.result c.from_residual-in_err-rest-in-Some.ensures.1 (λ y e. λ d. rw e (class_open d c.args.end _ _ _ _ _ _ c.in-Some.ensures.mark.1 c.in_ok-name-in-Some.ensures.name (c.in_err-rest-in-Some.ensures.refused d)))

pub returns-in_ok-rest-in-None-clause-whole : goal.returns-in_ok-rest-in-None-clause-whole
returns-in_ok-rest-in-None-clause-whole c = class_alone _ _ _ c.in_ok-rest-in-None.ensures.mark.1

pub returns-in_ok-rest-in-Some-clause-whole : goal.returns-in_ok-rest-in-Some-clause-whole
returns-in_ok-rest-in-Some-clause-whole c = class_qualified _ _ _ _ _ _ _ c.in-Some.ensures.mark.1 c.in_ok-name-in-Some.ensures.name c.in_ok-rest-in-Some.ensures.mark.1
