use Rattle.std.proofs.Common.{◌++◌, length, ap, ◌∙◌, arith, length-append}
use Rattle.op_types.specs.Names.{all_of}
use Rattle.op_types.proofs.Stretches.{one_more}
use Rattle.op_types.proofs.visible.Visible.enter_all.Goals as goal

pub invariant_of-self-2 : goal.invariant_of-self-2
invariant_of-self-2 c =
    let more = ap all_of c.in_ok-push.ensures.items ∙ one_more c.self.inside.stretches.items c.behind-stretch.result ∙ ap (λ v. all_of c.self.inside.stretches.items ++ v) (c.behind-stretch.ensures ∙ c.in_ok-share.ensures) in
    let l = ap length more ∙ length-append (all_of c.self.inside.stretches.items) c.args.others.now in
    let count = c.self.invariant in
    let others = c.len.ensures.counts in
    grind (arith, l, count, others)

pub returns : goal.returns
returns c =
    ap all_of c.in_ok-push.ensures.items
    ∙ one_more c.self.inside.stretches.items c.behind-stretch.result
    ∙ ap (λ v. all_of c.self.inside.stretches.items ++ v) (c.behind-stretch.ensures ∙ c.in_ok-share.ensures)
    ∙ ap (λ v. v ++ c.args.others.now) c.self.view_is
