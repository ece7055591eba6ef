use Rattle.std.proofs.Common.{◌≡◌, [], ◌∷◌, ◌∙◌, of_z, rules, to_z, w32}
use Rattle.op_calls.proofs.Listing.{list_begins}
use Rattle.op_core.specs.Sizes.{type_at}
use Rattle.op_semantics.specs.Actions.{primitive}
use Rattle.op_semantics.specs.Expressions.{element_of, list_made}
use Rattle.op_semantics.specs.Items.{act, only}
use Rattle.op_semantics.specs.Primitives.{a_type, from_temp}
use Rattle.op_semantics.specs.declared.primitive.Primitive.TheVariants.{NewList}
use Rattle.op_calls.proofs.lists.list_begun.Goals as goal

pub returns : goal.returns
returns c =
    let core = c.args.setting.core.now in
    let kept : to_z w32 (of_z w32 c.in_ok-value.value) ≡ c.in_ok-value.value = search rules in
    list_begins c.args.setting c.args.items.now.items c.number.new.items.items c.list_new.new.items.items c.list_new.result c.in_ok-length.length.0 _ (to_z w32 (of_z w32 c.in_ok-value.value)) _
    (λ t. only (act (primitive NewList (a_type (element_of (type_at core c.args.of)) ∷ from_temp t ∷ []) (list_made core c.args.of c.args.first))))
    c.in_ok-length.ensures (kept ∙ c.in_ok-value.ensures) c.in_ok-number.ensures c.list_new.ensures
