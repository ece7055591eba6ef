use Rattle.std.proofs.Common.{Some, drop, map, refl, subst, ◌+◌}
use Rattle.op_check_expr.proofs.Following.{Completes, begins, finished, next_mapped, two_steps}
use Rattle.op_check_expr.specs.Constructors.{both_in_set, member_in_set, member_of, place_of, type_of_set}
use Rattle.op_judgement.specs.Judgement.{Reports}
use Rattle.op_types.specs.Operators.{empty_set}
use Rattle.op_check_expr.proofs.set.type_of_set.Goals as goal

pub loop-member-init : goal.loop-member-init
loop-member-init c = begins (type_of_set c.args.core.now (Some empty_set) (map member_of c.args.members.now)) c.args.sink.now

pub loop-member-preserved : goal.loop-member-preserved
loop-member-preserved c =
    let core = c.args.core.now in
    let whole = type_of_set core (Some empty_set) (map member_of c.args.members.now) in
    let a = c.loop-member.of in
    let x = c.member-item.result in
    let m = member_of x in
    let ms = map member_of (drop (c.loop-member.member-index + 1) c.args.members.now) in
    let b = c.member_in_set-more.result in
    two_steps whole (member_in_set core m) (both_in_set core (place_of m) a) (λ c. type_of_set core c ms) c.args.sink.now c.loop-member.sink c.member_in_set-more.new.sink c.both_in_set-of.new.sink b c.both_in_set-of.result
    (subst (λ r. Completes whole (type_of_set core a r) c.args.sink.now c.loop-member.sink) (next_mapped member_of c.args.members.now c.loop-member.member-index x c.loop-member-test.true c.member-item.is) c.loop-member.invariant)
    c.member_in_set-more.ensures
    (subst (λ p. Reports (both_in_set core p a b) c.member_in_set-more.new.sink c.both_in_set-of.new.sink c.both_in_set-of.result) c.place.ensures c.both_in_set-of.ensures)

pub returns : goal.returns
returns c =
    let core = c.args.core.now in
    finished (type_of_set core (Some empty_set) (map member_of c.args.members.now)) (λ ms. type_of_set core c.loop-member.of (map member_of ms)) c.args.members.now c.loop-member.member-index c.args.sink.now c.loop-member.sink c.loop-member.of c.loop-member-test.false refl c.loop-member.invariant
