use Rattle.std.proofs.Common.{◌≡◌, ◌++◌, OnOk, subst}
use Rattle.op_constants.specs.FirstBytes.{content}
use Rattle.op_constants.proofs.FirstParts.{parts-said}
use Rattle.op_constants.proofs.first_value.+first.Goals as goal

pub push_content-returns-in-Parts : goal.push_content-returns-in-Parts
push_content-returns-in-Parts t c =
    subst (λ v. OnOk c.push_parts.result (c.push_parts.new.bytes.items ≡ c.args.bytes.now.items ++ content c.args.core.now c.args.of v))
    (parts-said c.args.initial.now c.in-Parts.parts c.deref.result.now c.in-Parts.is c.deref.ensures.value)
    c.push_parts.ensures
