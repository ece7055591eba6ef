use Rattle.std.proofs.Common.{◌≡◌, ◌++◌, map}
use Rattle.op_core.specs.Expression.{element_of}
use Rattle.op_check_expr.specs.Constructors.{element_tree, member_of}
use Rattle.op_check_expr.proofs.set.set_tree.Given as goal

-- the elements so far, and those of the members that are left
abbrev pub invariant-loop-member : goal.invariant-loop-member
invariant-loop-member l = record {
  all : map element_of l.elements.items ++ map (element_tree l.core l.base) (map member_of l.member-iterator.rest.items) ≡ map (element_tree l.core l.base) (map member_of l.fn.members.items);
}
