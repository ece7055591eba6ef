use Rattle.std.proofs.Common.{codes}
use Rattle.op_parse_code.proofs.Errors.{passed}
use Rattle.op_parse_decl.proofs.Begins.{no_accessors, shows_refused}
use Rattle.op_parse_decl.proofs.Combining.{first, after}
use Rattle.op_parse_decl.specs.Combined.{then_}
use Rattle.op_parse_decl.specs.Properties.{known_accessor}
use Rattle.op_parse_decl.proofs.property.AccessorsPart.read.Goals as goal

pub returns-in_err-read-clause-refused : goal.returns-in_err-read-clause-refused
returns-in_err-read-clause-refused c = passed c.from_residual.result c.from_residual.ensures.1 (λ y e. rw e (shows_refused no_accessors (first (c.in_err-read.ensures.refused c.args.setting.left))))

pub returns-in_err-write-clause-refused : goal.returns-in_err-write-clause-refused
returns-in_err-write-clause-refused c = passed c.from_residual-in_err-write.result c.from_residual-in_err-write.ensures.1 (λ y e. rw e (shows_refused no_accessors (after (known_accessor (codes "read")) (c.in_ok-read.ensures.whole c.args.setting.left) (c.in_err-write.ensures.refused c.args.setting.left))))

pub returns-clause-whole : goal.returns-clause-whole
returns-clause-whole c = then_ (c.in_ok-read.ensures.whole c.args.setting.left) (c.in_ok-write.ensures.whole c.args.setting.left)
