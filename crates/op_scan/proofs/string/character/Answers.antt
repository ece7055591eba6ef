use Rattle.std.proofs.Common.{sym}
use Rattle.op_scan.proofs.Lists.{begins_true}
use Rattle.op_scan.proofs.Strings.{match_weaker, hexadecimal_found, decimal_found, hexadecimal_no_part, decimal_missing}
use Rattle.op_scan.proofs.string.character.Goals as goal

pub returns-then-begins_with : goal.returns-then-begins_with
returns-then-begins_with c =
    let b = begins_true c.args.bytes.now 36 (sym c.if-begins_with.ensures) in
    match_weaker c.character_in.result (rw c.split_at.ensures.back at c.character_in.ensures)
    (hexadecimal_no_part c.args.bytes.now b)
    (λ found. hexadecimal_found c.args.bytes.now found.1.now found.0 b)

pub returns : goal.returns
returns c =
    match_weaker c.character_in-2.result c.character_in-2.ensures
    (decimal_missing c.args.bytes.now (sym c.if-begins_with.ensures))
    (λ found. decimal_found c.args.bytes.now found.1.now found.0)
