use Rattle.std.proofs.Common.{sym, ◌∙◌}
use Rattle.op_optimize.proofs.Choosing.{renamed_ok}
use Rattle.op_optimize.proofs.renaming.rename_by.Goals as goal

pub returns : goal.returns
returns c = renamed_ok c.renamed_routine.result c.args.live.now _ _ c.args.routine (sym c.is_renaming.ensures ∙ c.if-not-is_renaming.false) c.renamed_routine.ensures
