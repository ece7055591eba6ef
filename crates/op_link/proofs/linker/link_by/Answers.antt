use Rattle.std.proofs.Common.{List, ◌∙◌, ap}
use Rattle.op_rv.specs.declared.objects.ObjectRoutine.{ObjectRoutine}
use Rattle.op_link.specs.declared.place.RoutinePlace.{RoutinePlace}
use Rattle.op_link.specs.Placing.{placement_by}
use Rattle.op_link.proofs.Linked.{placement_end, image_found}
use Rattle.op_link.proofs.linker.link_by.Goals as goal

pub sizes-requires-clause-code : goal.sizes-requires-clause-code
sizes-requires-clause-code c = placement_end c.as_slice.result.now c.as_slice-2.result.now c.in_ok-code.code c.in_ok-code.ensures

pub returns-in-Ok-clause-image : goal.returns-in-Ok-clause-image
returns-in-Ok-clause-image c =
    let routines = c.args.objects.now.routines in
    let placement = c.in_ok-code.ensures ∙ ap (λ (known : List RoutinePlace). placement_by known c.as_slice-2.result.now) c.as_slice.ensures ∙ ap (λ (routines : List ObjectRoutine). placement_by c.args.known routines) c.as_slice-2.ensures in
    image_found c.args.known c.args.layout.now c.args.objects.now c.args.settings.now c.in_ok-code.code c.in-Some.sizes c.in_ok-addresses.addresses c.in-Ok.image.items placement c.in-Some.ensures.is c.in_ok-addresses.ensures c.in-Ok.ensures.image
