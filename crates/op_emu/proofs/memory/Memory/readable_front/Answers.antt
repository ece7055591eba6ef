use Rattle.std.proofs.Common.{arith, length, ◌-◌, ap, sym, ◌∙◌, take, subst, length-drop}
use Rattle.op_emu.specs.Segments.{region_of, regions_of, IsReadableFront}
use Rattle.op_emu.proofs.Regions.{front_of_found, front_of_none, front_of_unreadable}
use Rattle.op_emu.proofs.memory.Memory.readable_front.Goals as goal

pub returns-in-None : goal.returns-in-None
returns-in-None c = front_of_none _ c.args.at c.args.most c.in-None.ensures

pub returns-in-Some : goal.returns-in-Some
returns-in-Some c =
    front_of_unreadable _ c.args.at c.args.most (region_of c.in-Some.segment.now) c.in-Some.ensures c.if-not-segment.true

pub returns-in-Some-2 : goal.returns-in-Some-2
returns-in-Some-2 c =
    let rest = c.rest_from-rest.result.now in
    let segment = c.in-Some.segment.now in
    let at = c.args.at in
    let front = front_of_found _ at c.args.most c.min-count.result (region_of segment) c.args.self.now.apart c.in-Some.ensures c.if-not-segment.false (omega arith) (omega (arith, ap length c.rest_from-rest.ensures)) (λ e. omega (arith, ap length c.rest_from-rest.ensures, length-drop (at - segment.base) segment.bytes.items, c.in-Some.ensures.within.above, c.in-Some.ensures.within.below)) in
    subst (IsReadableFront (regions_of c.args.self.now.segments.items) at c.args.most) (sym (c.split_at.ensures.front ∙ ap (take c.min-count.result) c.rest_from-rest.ensures)) front
