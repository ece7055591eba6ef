use Rattle.std.proofs.Common.{drop}
use Rattle.op_check_stmt.proofs.Parts.{Completes}
use Rattle.op_check_stmt.specs.Parts.{items_of}
use Rattle.op_core.specs.Initial.{first_value_of, values}
use Rattle.op_tree.specs.Lists.{field_initials_of, initials_of}
use Rattle.op_check_unit.proofs.initial.+values.Given as goal
use Rattle.op_check_unit.specs.Initials.{elements, fields}
use Rattle.op_judgement.specs.Judgement.{checked}

-- what is left gives the whole
abbrev pub invariant-elements-loop-item : goal.invariant-elements-loop-item
invariant-elements-loop-item l =
    let parts = elements l.setting.core.now l.setting.visible.now l.of in
    Completes first_value_of values (items_of l.typed) (checked (parts (initials_of l.items))) (checked (parts (initials_of (drop l.item-index l.items)))) l.fn.sink l.sink

abbrev pub invariant-fields-loop-item : goal.invariant-fields-loop-item
invariant-fields-loop-item l =
    let parts = fields l.setting.core.now l.setting.visible.now l.bracket in
    Completes first_value_of values (items_of l.typed) (checked (parts l.declared (field_initials_of l.items))) (checked (parts l.left (field_initials_of (drop l.item-index l.items)))) l.fn.sink l.sink
