use Rattle.op_parse_code.proofs.Errors.{passed}
use Rattle.op_parse_decl.proofs.Begins.{class_opens, made_refused}
use Rattle.op_parse_decl.specs.ClassKnown.{body_of_parts, class_of_parts, forward_of_parts, list_of_parts, made_class}
use Rattle.op_parse_decl.proofs.class.ClassBehindPart.read.Goals as goal

pub returns-in_err-list-clause-refused : goal.returns-in_err-list-clause-refused
returns-in_err-list-clause-refused c = passed c.from_residual.result c.from_residual.ensures.1 (λ y e. rw e (made_refused made_class class_opens c.in_err-list.ensures.refused))

pub returns-in-Marked-clause-whole : goal.returns-in-Marked-clause-whole
returns-in-Marked-clause-whole c = forward_of_parts (rw (c.in-Second.is, c.in-Marked.is) at c.in_ok-list.ensures.whole)

pub returns-in-Unmarked-clause-whole : goal.returns-in-Unmarked-clause-whole
returns-in-Unmarked-clause-whole c = rw (c.class.ensures, c.from-none.ensures, c.new.ensures.items) (body_of_parts (rw (c.in-Second.is, c.in-Unmarked.is) at c.in_ok-list.ensures.whole))

pub returns-in-Marked-body-clause-whole : goal.returns-in-Marked-body-clause-whole
returns-in-Marked-body-clause-whole c = rw (c.class-in-Marked-body.ensures, c.new-in-Marked-body.ensures.items) (list_of_parts (rw (c.in-First.is, c.in-Marked-body.is) at c.in_ok-list.ensures.whole))

pub returns-in-Unmarked-body-clause-whole : goal.returns-in-Unmarked-body-clause-whole
returns-in-Unmarked-body-clause-whole c = rw c.class-in-Unmarked-body.ensures (class_of_parts (rw (c.in-First.is, c.in-Unmarked-body.is) at c.in_ok-list.ensures.whole))
