use Rattle.std.proofs.Common.{refl}
use Rattle.op_plain.proofs.Texts.{bytes_pass, short_by}
use Rattle.op_plain.proofs.types.is_short_text.Goals as goal

pub returns : goal.returns
returns c = record { texts = short_by c.args.text.now (bytes_pass c.args.text.now c.are_bytes.ensures); lengths = refl }
