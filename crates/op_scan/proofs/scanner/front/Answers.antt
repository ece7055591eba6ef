use Rattle.std.proofs.Common.{refl, sym}
use Rattle.op_scan.specs.Item.{a_blank, stands}
use Rattle.op_scan.proofs.Fronts.{blank_front}
use Rattle.op_scan.proofs.scanner.front.Goals as goal

pub returns-in-Blank : goal.returns-in-Blank
returns-in-Blank c =
    let b = blank_front c.args.bytes.now (sym c.in-Blank.ensures) in
    stands a_blank b.0 b.1 refl
