use Rattle.std.proofs.Common.{refl}
use Rattle.op_parse_decl.proofs.Forms.{told_there}
use Rattle.op_parse_decl.specs.Refusal.{as_it_was}
use Rattle.op_parse_decl.proofs.form.told_at.Goals as goal

pub returns-then-refused_there : goal.returns-then-refused_there
returns-then-refused_there c = told_there c.told.ensures (c.refused_there.ensures c.if-refused_there.true _)

pub returns-else-refused_there : goal.returns-else-refused_there
returns-else-refused_there c = as_it_was refl
