use Rattle.std.proofs.Common.{sym, subst}
use Rattle.op_emu.specs.Rows.{AllDecoded}
use Rattle.op_emu.specs.Segments.{regions_of}
use Rattle.op_emu.proofs.Decoded.{one_more_code}
use Rattle.op_emu.proofs.loader.codes.Goals as goal

pub loop-k-preserved : goal.loop-k-preserved
loop-k-preserved c =
    let rs = regions_of c.args.segments.now in
    subst (AllDecoded rs) (sym c.in_ok-push.ensures.items) (one_more_code rs c.loop-k.codes.items c.in_ok-code.field-0 c.loop-k.invariant c.in_ok-code.ensures)
