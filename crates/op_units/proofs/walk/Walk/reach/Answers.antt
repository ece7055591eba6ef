use Rattle.std.proofs.Common.{arith, ◌+◌, option_map, sym, ap, subst, ◌∙◌}
use Rattle.op_units.proofs.Reaching.{Reaching, reached, reaching_adds, reaching_begins, reaching_skips}
use Rattle.op_units.proofs.walk.Walk.reach.Goals as goal
use Rattle.op_units.proofs.walk.Walk.reach.Goals.{in-Some-names+in_ok-add_all, in_default}

pub loop-number-init : goal.loop-number-init
loop-number-init c = reaching_begins c.args.self.now.units c.args.self.now.interfaces c.args.seen.now c.args.start.now c.add.new.self c.len-first.result c.len-first.ensures c.in_ok-add.ensures.after

pub returns-in-None : goal.returns-in-None
returns-in-None c = reached c.args.self.now.units c.args.self.now.interfaces c.args.seen.now c.args.start.now c.loop-number.seen c.loop-number.number c.loop-number.invariant (sym c.name_at.ensures ∙ ap (option_map (λ n. n.now)) c.in-None.is)

pub loop-number-preserved : goal.loop-number-preserved
loop-number-preserved c =
    let units = c.args.self.now.units in
    let interfaces = c.args.self.now.interfaces in
    let old = c.args.seen.now in
    let start = c.args.start.now in
    let seen = c.loop-number.seen in
    let number = c.loop-number.number in
    let name = c.in-Some.name.now in
    let here = sym c.name_at.ensures ∙ ap (option_map (λ n. n.now)) c.in-Some.is in
    elim c.match-names.branch [
      | in-Some-names+in_ok-add_all w ↦ subst (λ xs. Reaching units interfaces old start xs (number + 1)) (sym (w.seen-is ∙ w.in_ok-add_all.ensures)) (reaching_adds units interfaces old start seen number name w.in-Some-names.names.now c.loop-number.invariant (omega (arith, c.len-first.ensures, c.loop-number.auto.number)) here (sym c.interface_of-names.ensures ∙ ap (option_map (λ n. n.now)) w.in-Some-names.is))
      | in_default w ↦ subst (λ xs. Reaching units interfaces old start xs (number + 1)) (sym w.seen-is) (reaching_skips units interfaces old start seen number name c.loop-number.invariant here (sym c.interface_of-names.ensures ∙ ap (option_map (λ n. n.now)) w.in_default.is))
    ]
