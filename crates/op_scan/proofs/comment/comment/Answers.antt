use Rattle.std.proofs.Common.{◌≡◌, ◌+◌, ◌-◌, ◌≤◌, ◌++◌, drop, take, length, refl, sym, ap, ◌∙◌, arith, length-append}
use Rattle.op_scan.specs.Comment.{opening}
use Rattle.op_scan.specs.Directive.{effect_of_comment}
use Rattle.op_scan.specs.Item.{a_comment, stands, nothing}
use Rattle.op_scan.specs.declared.effect.Effect.TheVariants.{Breaks}
use Rattle.op_scan.proofs.Fronts.{comment_marked, comment_missing, comment_rule, comment_length, comment_front}
use Rattle.op_scan.proofs.comment.comment.Goals as goal

pub split_at-requires : goal.split_at-requires
split_at-requires c =
    let mark = opening c.args.marks in
    let bytes = c.args.bytes.now in
    omega (arith, ap length (comment_marked c.args.marks bytes c.requires), length-append mark (drop (length mark) bytes), c.mark_length-width.ensures)

pub overflow_sub-length : goal.overflow_sub-length
overflow_sub-length c =
    let closed = rw c.in-Some.is at c.in_ok-after_comment.ensures in
    omega (arith, comment_length c.args.marks c.split_at.result.1.now c.in-Some.rest.now closed)

pub overflow_sub-length-in-Some : goal.overflow_sub-length-in-Some
overflow_sub-length-in-Some c =
    let closed = rw c.in-Some.is at c.in_ok-after_comment.ensures in
    omega (arith, comment_length c.args.marks c.split_at.result.1.now c.in-Some.rest.now closed, c.mark_length-width.ensures)

pub returns-in-None : goal.returns-in-None
returns-in-None c =
    let mark = opening c.args.marks in
    let bytes = c.args.bytes.now in
    let on : c.split_at.result.1.now ≡ drop (length mark) bytes = c.split_at.ensures.back ∙ ap (λ n. drop n bytes) c.mark_length-width.ensures in
    let whole = comment_marked c.args.marks bytes c.requires ∙ ap (λ z. mark ++ z) (sym on) in
    let unclosed = rw c.in-None.is at c.in_ok-after_comment.ensures in
    nothing refl (comment_missing c.args.marks bytes _ c.requires whole unclosed) (ap Breaks (sym (comment_rule c.args.marks bytes _ whole)))

pub returns-in-Some : goal.returns-in-Some
returns-in-Some c =
    let mark = opening c.args.marks in
    let bytes = c.args.bytes.now in
    let on = c.split_at.result.1.now in
    let rest = c.in-Some.rest.now in
    let n = length on - length rest in
    let on_is : on ≡ drop (length mark) bytes = c.split_at.ensures.back ∙ ap (λ n. drop n bytes) c.mark_length-width.ensures in
    let whole = comment_marked c.args.marks bytes c.requires ∙ ap (λ z. mark ++ z) (sym on_is) in
    let closed = rw c.in-Some.is at c.in_ok-after_comment.ensures in
    let within : length mark + n ≤ length bytes = omega (arith, ap length whole, length-append mark on) in
    rw c.mark_length-width.ensures
    (stands (a_comment (take (n - length mark) on)) within (comment_front c.args.marks on rest closed bytes n whole refl)
    (c.effect_of_comment.ensures ∙ ap (effect_of_comment c.args.switches) (c.split_at-in-Some.ensures.front ∙ ap (λ w. take (n - w) on) c.mark_length-width.ensures)))
