use Rattle.std.proofs.Common.{◌∷◌, take, length, sym, ap, ◌∙◌, arith}
use Rattle.op_scan.specs.Item.{a_comment, stands}
use Rattle.op_scan.proofs.Fronts.{line_marked, line_front}
use Rattle.op_scan.proofs.comment.line_comment.Goals as goal

pub split_at-requires : goal.split_at-requires
split_at-requires c = omega (arith, ap length (line_marked c.args.bytes.now c.requires))

pub returns : goal.returns
returns c =
    let bytes = c.args.bytes.now in
    let line = c.split_at.result.1.now in
    let n = c.run_length-length.result in
    let whole = line_marked bytes c.requires ∙ ap (λ z. 47 ∷ 47 ∷ z) (sym c.split_at.ensures.back) in
    stands (a_comment (take n line)) (omega (arith, ap length whole, c.run_length-length.ensures.within))
    (line_front bytes line n whole c.run_length-length.ensures.run)
    (rw c.split_at-2.ensures.front at c.effect_of_comment.ensures)
