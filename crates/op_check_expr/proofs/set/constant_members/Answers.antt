use Rattle.std.proofs.Common.{Some, map, sym, subst, refl, arith, length, ◌≡◌}
use Rattle.std.proofs.lemmas.List.{nil_from_length}
use Rattle.op_check_expr.proofs.Following.{Completes, begins, two_steps}
use Rattle.op_check_expr.specs.Constructors.{constant_member, constant_members, member_of, place_of}
use Rattle.op_judgement.specs.Judgement.{Reports}
use Rattle.op_types.specs.Folding.{gathered_means}
use Rattle.op_check_expr.proofs.set.constant_members.Goals as goal
use Rattle.op_types.specs.ConstantParts.{no_members}

pub loop-member-init : goal.loop-member-init
loop-member-init c =
    let core = c.args.setting.core.now in
    let whole = constant_members core (Some no_members) (map member_of c.args.members.items) in
    subst (λ n. Completes whole (constant_members core (Some n) (map member_of c.into_iter-member-iterator.result.rest.items)) c.args.sink.now c.args.sink.now) (sym c.no_members.ensures)
    (subst (λ ms. Completes whole (constant_members core (Some no_members) (map member_of ms)) c.args.sink.now c.args.sink.now) (sym c.into_iter-member-iterator.ensures.into_iter_gives.0) (begins whole c.args.sink.now))

pub loop-member-preserved : goal.loop-member-preserved
loop-member-preserved c =
    let core = c.args.setting.core.now in
    let whole = constant_members core (Some no_members) (map member_of c.args.members.items) in
    let a = c.loop-member.set in
    let m = member_of c.in-Some.member in
    let ms = map member_of c.next.new.self.rest.items in
    let b = c.in_ok-more.more in
    two_steps whole (constant_member core m) (gathered_means core (place_of m) a) (λ c. constant_members core c ms) c.args.sink.now c.loop-member.sink c.constant_member.new.sink c.gather.new.sink b c.in_ok-set.set
    (subst (λ r. Completes whole (constant_members core a (map member_of r)) c.args.sink.now c.loop-member.sink) c.in-Some.ensures.steps.0 c.loop-member.invariant)
    c.in_ok-more.ensures
    (subst (λ p. Reports (gathered_means core p a b) c.constant_member.new.sink c.gather.new.sink c.in_ok-set.set) c.place-at.ensures c.in_ok-set.ensures)

pub returns : goal.returns
returns c =
    let core = c.args.setting.core.now in
    let whole = constant_members core (Some no_members) (map member_of c.args.members.items) in
    let rest = c.loop-member.member-iterator.rest in
    let h = c.in-None.ensures.steps.0 in
    let k = rest.ok in
    let e : length rest.items ≡ 0 = omega (arith, h, k) in
    (subst (λ ms. Completes whole (constant_members core c.loop-member.set (map member_of ms)) c.args.sink.now c.loop-member.sink) (nil_from_length rest.items e) c.loop-member.invariant).completes c.loop-member.sink c.loop-member.set (refl, refl)
