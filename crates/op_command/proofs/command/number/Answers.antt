use Rattle.std.proofs.Common.{◌≡◌, ◌≤◌, ◌<◌, ◌^◌, arith, codes, false, length, nat_eq, subst, sym, ◌∙◌}
use Rattle.std.specs.List.{starts_with}
use Rattle.op_command.proofs.Numbers.{no_plus, not_parsed, number_parsed}
use Rattle.op_command.proofs.command.number.Goals as goal

pub returns-in-Ok-clause-is : goal.returns-in-Ok-clause-is
returns-in-Ok-clause-is c default =
    let digits = c.args.digits.now in
    let no : starts_with nat_eq digits (codes "+") ≡ false = subst (λ ds. starts_with nat_eq ds (codes "+") ≡ false) c.as_bytes-bytes.ensures.value (sym c.starts_with.ensures.value ∙ c.if-starts_with.false) in
    let few : length digits ≤ 20 = omega (arith, c.if-bytes-gt-MOST_DIGITS.false, c.as_bytes-bytes.ensures.len) in
    let parsed = c.in-Ok.ensures.value in
    number_parsed (record { least = c.args.least; most = c.args.most; default = default }) digits c.in-Ok.number (no_plus digits no) few parsed.0.0 parsed.1 c.if-least-number.true c.if-number-most.true

pub returns-in_default-3-clause-is : goal.returns-in_default-3-clause-is
returns-in_default-3-clause-is c default =
    let digits = c.args.digits.now in
    let no : starts_with nat_eq digits (codes "+") ≡ false = subst (λ ds. starts_with nat_eq ds (codes "+") ≡ false) c.as_bytes-bytes.ensures.value (sym c.starts_with.ensures.value ∙ c.if-starts_with.false) in
    let small : c.args.most < 2 ^ 64 = omega (arith, c.ranges.most.fits) in
    not_parsed (record { least = c.args.least; most = c.args.most; default = default }) digits (no_plus digits no) small c.in_default.ensures.value
