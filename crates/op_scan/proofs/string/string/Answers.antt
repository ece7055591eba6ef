use Rattle.std.proofs.Common.{◌-◌, ◌≤◌, ◌++◌, length, refl, sym, ap, ◌∙◌, arith}
use Rattle.op_scan.specs.Item.{a_string, effect_of, stands, nothing}
use Rattle.op_scan.specs.declared.effect.Effect.TheVariants.{Breaks}
use Rattle.op_scan.proofs.Fronts.{string_length, string_front, string_missing, hash_rule, quote_rule}
use Rattle.op_scan.proofs.string.string.Goals as goal

pub overflow_sub-length : goal.overflow_sub-length
overflow_sub-length c =
    let a = c.in_ok-rest.ensures in
    string_length c.args.bytes.now c.in_ok-rest.rest.now a.text a.are_parts

pub returns-then-length-gt0 : goal.returns-then-length-gt0
returns-then-length-gt0 c =
    let a = c.in_ok-rest.ensures in
    let bytes = c.args.bytes.now in
    let rest = c.in_ok-rest.rest.now in
    let value = a.added ∙ ap (λ z. z ++ a.text) c.new-value.ensures.items in
    let within : length bytes - length rest ≤ length bytes = omega arith in
    stands (a_string a.text) within
    (string_front bytes rest a.text a.are_parts (length bytes - length rest) refl (λ z. omega arith))
    (c.in_ok-effect.ensures ∙ ap (λ z. effect_of c.args.switches (a_string z)) (c.deref.ensures.value ∙ value))

pub returns-then-begins_with : goal.returns-then-begins_with
returns-then-begins_with c =
    let a = c.in_ok-rest.ensures in
    nothing refl (string_missing c.args.bytes.now c.in_ok-rest.rest.now a.text a.are_parts c.requires (omega arith))
    (ap Breaks (sym (hash_rule c.args.bytes.now (sym c.if-begins_with.ensures))))

pub returns : goal.returns
returns c =
    let a = c.in_ok-rest.ensures in
    nothing refl (string_missing c.args.bytes.now c.in_ok-rest.rest.now a.text a.are_parts c.requires (omega arith))
    (ap Breaks (sym (quote_rule c.args.bytes.now c.requires (sym c.if-begins_with.ensures))))
