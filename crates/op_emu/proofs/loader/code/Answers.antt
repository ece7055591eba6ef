use Rattle.op_emu.proofs.Decoded.{rows_stand}
use Rattle.op_emu.proofs.loader.code.Goals as goal

pub returns : goal.returns
returns c =
    rows_stand c.args.segments.now c.args.k c.index-segments-k.result c.requires.inside c.index-segments-k.is c.requires.apart (c.holds_still.ensures c.if-not-holds_still.false) c.in_ok-rows.field-0.items c.in_ok-rows.ensures
