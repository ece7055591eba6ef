use Rattle.std.proofs.Common.{ap₂, ◌∙◌}
use Rattle.std.specs.Option.{unwrap_or}
use Rattle.op_constants.proofs.Keeping.{key_numbered}
use Rattle.op_constants.proofs.texts.Texts.number_of.Goals as goal

pub returns : goal.returns
returns c = c.unwrap_or.ensures ∙ ap₂ (λ o n. unwrap_or o n) c.get_index_of.ensures.index c.len.ensures.len ∙ key_numbered c.self.inside.texts.keys c.args.text.now c.args.self.now c.self.view_is
