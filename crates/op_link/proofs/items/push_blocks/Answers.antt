use Rattle.std.proofs.Common.{◌≡◌, ◌∙◌, Some, List, ap, subst, arith}
use Rattle.std.proofs.lemmas.Grind.{common_steps}
use Rattle.op_rv.specs.declared.objects.Item.{Item}
use Rattle.op_link.specs.Code.{written, items_code}
use Rattle.op_link.specs.Placing.{behind_items}
use Rattle.op_link.proofs.Written.{blocks_step}
use Rattle.op_link.proofs.items.push_blocks.Goals as goal

pub loop-block-preserved : goal.loop-block-preserved
loop-block-preserved c =
    let layout = c.args.layout.now in
    let addresses = c.args.addresses.now in
    let r = c.args.r in
    let spot = c.loop-block.spot in
    let mid = c.push_items.new.code.items in
    let block = c.block-item.result in
    let end = c.in_ok-spot.ensures.end ∙ ap (λ (items : List Item). behind_items addresses.known r spot items) c.as_slice.ensures in
    let code = subst (λ (items : List Item). written c.loop-block.code.items (items_code layout addresses r spot items) ≡ Some mid) c.as_slice.ensures c.in_ok-spot.ensures.code in
    record {
      code = blocks_step layout addresses r spot c.in_ok-spot.spot c.args.blocks.now c.loop-block.block-index block c.loop-block.code.items mid c.loop-block-test.true c.block-item.is end code ∙ c.loop-block.invariant.code;
      fields = grind (arith, common_steps);
      rest = grind (arith, common_steps);
      longest = grind (arith, common_steps);
      address = grind (arith, common_steps);
    }
