use Rattle.std.proofs.Common.{◌∙◌, ap, arith, get_or, List}
use Rattle.std.proofs.lemmas.Grind.{common_steps}
use Rattle.op_rv.specs.declared.instruction.Instr.TheVariants.{Lui}
use Rattle.op_rv.specs.declared.objects.Item.{Item}
use Rattle.op_rv.specs.declared.objects.Item.TheVariants.{Plain}
use Rattle.op_link.specs.declared.place.RoutinePlace.{RoutinePlace}
use Rattle.op_link.specs.Placing.{behind}
use Rattle.op_link.proofs.Written.{items_step}
use Rattle.op_link.proofs.items.push_items.Goals as goal

pub loop-item-preserved : goal.loop-item-preserved
loop-item-preserved c =
    let d : Item = Plain (Lui 0 0) in
    let i = c.loop-item.item-index in
    let spot = c.loop-item.spot in
    let items = c.args.items.now in
    let known = ap (λ (known : List RoutinePlace). behind known c.args.r spot (get_or items i d)) c.as_slice.ensures in
    record {
      code = items_step c.args.layout.now c.args.addresses.now c.args.r spot c.behind-spot.result items i d c.loop-item.code.items c.push_item.new.code.items c.loop-item-test.true (c.behind-spot.ensures.value ∙ known) c.in_ok-push_item.ensures ∙ c.loop-item.invariant.code;
      fields = grind (arith, common_steps);
      rest = grind (arith, common_steps);
      longest = grind (arith, common_steps);
      address = grind (arith, common_steps);
    }
