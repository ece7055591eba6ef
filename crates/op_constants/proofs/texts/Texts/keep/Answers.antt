use Rattle.op_constants.proofs.Keeping.{key_kept}
use Rattle.op_constants.proofs.texts.Texts.keep.Goals as goal

pub returns : goal.returns
returns c =
    key_kept c.self.inside.texts.keys c.insert.new.self.keys c.in_ok-key.key c.args.text.now c.args.self.now c.in_ok-key.ensures.items c.self.view_is c.in_ok-insert.ensures.keys
