use Rattle.std.proofs.Common.{drop}
use Rattle.op_judgement.specs.Judgement.{fine, with_part}
use Rattle.op_tree.specs.Lists.{operations_of}
use Rattle.op_tree.specs.Statement.{elements_of}
use Rattle.op_types.proofs.Folding.{Completes, standing}
use Rattle.op_types.specs.ConstantParts.{no_members}
use Rattle.op_types.specs.Folding.{are_constant_elements, are_constant_operands, members, operations}
use Rattle.op_types.proofs.setting.Setting.+folding.Given as goal

-- what is left gives the whole
abbrev pub invariant-operations-loop-operation : goal.invariant-operations-loop-operation
invariant-operations-loop-operation l =
    let core = l.self.core.now in
    let names = l.self.visible.now in
    let whole = operations_of l.rest in
    let others = operations_of (drop l.operation-index l.rest) in
    Completes (are_constant_operands core names whole) (operations core names l.start (with_part fine l.initial.a) whole) (are_constant_operands core names others) (operations core names l.start (standing l.a) others) l.fn.sink l.sink

abbrev pub invariant-members-loop-element : goal.invariant-members-loop-element
invariant-members-loop-element l =
    let core = l.self.core.now in
    let names = l.self.visible.now in
    let whole = elements_of l.elements in
    let others = elements_of (drop l.element-index l.elements) in
    Completes (are_constant_elements core names whole) (members core names (fine no_members) whole) (are_constant_elements core names others) (members core names (standing l.set) others) l.fn.sink l.sink
