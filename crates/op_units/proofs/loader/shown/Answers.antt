use Rattle.op_tree.specs.Terminal.{terminals}
use Rattle.op_units.proofs.Forms.{shown_by_form, shown_by_word}
use Rattle.op_units.proofs.loader.shown.Goals as goal

pub returns-in-Some : goal.returns-in-Some
returns-in-Some c = shown_by_word (terminals c.args.tokens.now) c.args.word c.in-Some.refusal c.in-Some.is

pub returns-in-None : goal.returns-in-None
returns-in-None c = shown_by_form (terminals c.args.tokens.now) c.args.word c.first_form.result c.in-None.is c.first_form.ensures
