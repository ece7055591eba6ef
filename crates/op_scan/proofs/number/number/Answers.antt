use Rattle.std.proofs.Common.{◌≡◌, ◌≤◌, ◌+◌, ◌++◌, min, drop, take, length, refl, sym, ap, ◌∙◌, arith, length-append}
use Rattle.op_scan.specs.Item.{a_number, stands, nothing}
use Rattle.op_scan.specs.Literal.{mark_of, value_of}
use Rattle.op_scan.specs.declared.effect.Effect.TheVariants.{Breaks}
use Rattle.op_scan.proofs.Fronts.{number_marked, number_front, number_missing, number_rule, number_effect}
use Rattle.op_scan.proofs.number.number.Goals as goal

pub split_at-requires : goal.split_at-requires
split_at-requires c =
    let mark = mark_of c.args.base in
    let bytes = c.args.bytes.now in
    omega (arith, ap length (number_marked c.args.base bytes c.requires), length-append mark (drop (length mark) bytes), c.mark_length-mark.ensures)

pub returns-then-count-eq0 : goal.returns-then-count-eq0
returns-then-count-eq0 c =
    let mark = mark_of c.args.base in
    let bytes = c.args.bytes.now in
    let on : c.split_at.result.1.now ≡ drop (length mark) bytes = c.split_at.ensures.back ∙ ap (λ n. drop n bytes) c.mark_length-mark.ensures in
    let whole = number_marked c.args.base bytes c.requires ∙ ap (λ z. mark ++ z) (sym on) in
    nothing refl (number_missing c.args.base bytes _ _ c.requires whole c.run_length-count.ensures.run c.if-count-eq0.true)
    (ap Breaks (sym (number_rule c.args.base bytes _ _ c.requires whole c.run_length-count.ensures.run c.if-count-eq0.true)))

pub returns : goal.returns
returns c =
    let mark = mark_of c.args.base in
    let bytes = c.args.bytes.now in
    let rest = c.split_at.result.1.now in
    let n = c.run_length-count.result in
    let on : rest ≡ drop (length mark) bytes = c.split_at.ensures.back ∙ ap (λ n. drop n bytes) c.mark_length-mark.ensures in
    let whole = number_marked c.args.base bytes c.requires ∙ ap (λ z. mark ++ z) (sym on) in
    let value = c.digits_value.ensures ∙ ap (λ z. min (value_of c.args.base z) 2147483649) c.split_at-2.ensures.front in
    let within : length mark + n ≤ length bytes = omega (arith, ap length whole, length-append mark rest, c.run_length-count.ensures.within) in
    rw c.mark_length-mark.ensures
    (stands (a_number (value_of c.args.base (take n rest))) within
    (number_front c.args.base bytes rest n whole c.run_length-count.ensures.run c.run_length-count.ensures.within c.if-count-eq0.false)
    (c.effect_of_number.ensures ∙ number_effect (value_of c.args.base (take n rest)) c.digits_value.result value))
