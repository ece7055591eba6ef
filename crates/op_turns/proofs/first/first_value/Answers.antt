use Rattle.std.proofs.Common.{arith, ◌+◌, ap, sym}
use Rattle.op_turns.proofs.Behind.{adds_by, behind_none, ok_as}
use Rattle.op_turns.proofs.Firsts.{a_value, among_rows, no_row, no_value, past_rows}
use Rattle.op_values.specs.Adding.{view_in}
use Rattle.op_semantics.specs.Shapes.{variables_of}
use Rattle.op_turns.proofs.first.first_value.Goals as goal

pub returns-in-None : goal.returns-in-None
returns-in-None c =
    adds_by c.args.setting c.args.items.now.items c.args.items.now.items
    (sym (no_row c.args.setting.core.now c.args.setting.routine.0 c.args.variable (past_rows c.as_slice.result.now c.args.setting.core.now.variables (c.variables_of-rows.result.first + c.args.variable) ((variables_of c.args.setting.core.now c.args.setting.routine.0).first + c.args.variable) c.as_slice.ensures (ap (λ x. x.first + c.args.variable) c.variables_of-rows.ensures) (grind (arith, c.in-None.ensures.lookup.0)))))
    (sym (behind_none (view_in c.args.setting c.args.items.now.items)))

pub returns-in-None-first_value : goal.returns-in-None-first_value
returns-in-None-first_value c =
    adds_by c.args.setting c.args.items.now.items c.args.items.now.items
    (sym (no_value c.args.setting.core.now c.args.setting.routine.0 c.args.variable c.in-Some.row.now (among_rows c.as_slice.result.now c.args.setting.core.now.variables (c.variables_of-rows.result.first + c.args.variable) ((variables_of c.args.setting.core.now c.args.setting.routine.0).first + c.args.variable) c.in-Some.row.now c.as_slice.ensures (ap (λ x. x.first + c.args.variable) c.variables_of-rows.ensures) (grind (arith, c.in-Some.ensures.lookup.0)) c.in-Some.ensures.lookup.1) c.in-None-first_value.is))
    (sym (behind_none (view_in c.args.setting c.args.items.now.items)))

pub returns-in-Some-first_value : goal.returns-in-Some-first_value
returns-in-Some-first_value c =
    ok_as c.args.setting c.args.items.now.items c.act.new.items.items c.act.result
    (sym (a_value c.args.setting.core.now c.args.setting.routine.0 c.args.variable c.in-Some.row.now c.in-Some-first_value.field-0 (among_rows c.as_slice.result.now c.args.setting.core.now.variables (c.variables_of-rows.result.first + c.args.variable) ((variables_of c.args.setting.core.now c.args.setting.routine.0).first + c.args.variable) c.in-Some.row.now c.as_slice.ensures (ap (λ x. x.first + c.args.variable) c.variables_of-rows.ensures) (grind (arith, c.in-Some.ensures.lookup.0)) c.in-Some.ensures.lookup.1) c.in-Some-first_value.is))
    c.act.ensures
