use Rattle.std.proofs.Common.{◌≡◌, false, rules, sym, subst, ◌∙◌, to_z-of_z}
use Rattle.op_check_stmt.proofs.Apart.{entry_met, in_reach, none_met, not_below, there}
use Rattle.std.specs.BTreeMap.{get}
use Rattle.std.specs.Ordering.{int_cmp, is_gt}
use mir.Syntax.{w32}
use mir.Val.{SFits}
use Rattle.op_check_stmt.proofs.repeated.meets.Goals as goal

pub returns-in-Some-clause-met : goal.returns-in-Some-clause-met
returns-in-Some-clause-met c = λ h.
    let fits : SFits w32 c.args.label.last = search rules in
    let e = (c.range-up_to.ensures.in_range tt).3 _ _ c.in-Some.ensures.steps in
    let le = subst (λ n. is_gt (int_cmp c.in-Some.field-0-0.now n) ≡ false) (to_z-of_z fits) e.0.1 in
    record { first = c.in-Some.field-0-0.now; last = c.in-Some.last.now; is_there = e.1; meets = entry_met c.args.last_by_first.now c.requires c.args.label c.in-Some.field-0-0.now c.in-Some.last.now e.1 le (sym c.reaches.ensures ∙ h) }

pub returns-in-Some-clause-apart : goal.returns-in-Some-clause-apart
returns-in-Some-clause-apart c = λ h.
    let fits : SFits w32 c.args.label.last = search rules in
    let r = c.range-up_to.ensures.in_range tt in
    let e = r.3 _ _ c.in-Some.ensures.steps in
    none_met c.args.last_by_first.now c.requires c.args.label c.in-Some.field-0-0.now c.in-Some.last.now e.1
    (λ q v le is. not_below c.in-Some.field-0-0.now q (r.4 _ _ c.in-Some.ensures.steps q (tt, subst (λ n. is_gt (int_cmp q n) ≡ false) (sym (to_z-of_z fits)) (in_reach q c.args.label.last le)) (there (get int_cmp c.args.last_by_first.now q) v is)))
    (sym c.reaches.ensures ∙ h)
