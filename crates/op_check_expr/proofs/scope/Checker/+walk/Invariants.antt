use Rattle.std.proofs.Common.{drop}
use Rattle.std.specs.Option.{option_map}
use Rattle.op_tree.specs.Lists.{arguments_of, expressions_of, operations_of}
use Rattle.op_tree.specs.Statement.{elements_of, selectors_of}
use Rattle.op_check_expr.proofs.Following.{Completes}
use Rattle.op_check_expr.specs.Calling.{given_of}
use Rattle.op_check_expr.specs.Constructors.{members_of}
use Rattle.op_check_expr.specs.Expressions.{elements_at, given, members, operations, selected}
use Rattle.op_check_expr.specs.Naming.{denoted_of}
use Rattle.op_check_expr.specs.Scopes.{here_of}
use Rattle.op_check_expr.specs.Values.{value_of}
use Rattle.op_check_expr.proofs.scope.Checker.+walk.Given as goal

-- in each loop what is left gives the whole

abbrev pub invariant-operations-loop-operation : goal.invariant-operations-loop-operation
invariant-operations-loop-operation l = Completes (operations (here_of l.self.scope) l.start (option_map value_of l.fn.a) (operations_of l.rest)) (operations (here_of l.self.scope) l.start (option_map value_of l.a) (operations_of (drop l.operation-index l.rest))) l.fn.sink l.sink

abbrev pub invariant-members_in-loop-element : goal.invariant-members_in-loop-element
invariant-members_in-loop-element l = Completes (members (here_of l.self.scope) (option_map members_of l.fn.members) (elements_of l.elements)) (members (here_of l.self.scope) (option_map members_of l.members) (elements_of (drop l.element-index l.elements))) l.fn.sink l.sink

abbrev pub invariant-selected-loop-selector : goal.invariant-selected-loop-selector
invariant-selected-loop-selector l = Completes (selected (here_of l.self.scope) (option_map denoted_of l.fn.denoted) (selectors_of l.selectors)) (selected (here_of l.self.scope) (option_map denoted_of l.denoted) (selectors_of (drop l.selector-index l.selectors))) l.fn.sink l.sink

abbrev pub invariant-elements_at-loop-e : goal.invariant-elements_at-loop-e
invariant-elements_at-loop-e l = Completes (elements_at (here_of l.self.scope) l.bracket (option_map value_of l.fn.a) (expressions_of l.indices)) (elements_at (here_of l.self.scope) l.bracket (option_map value_of l.a) (expressions_of (drop l.e-index l.indices))) l.fn.sink l.sink

abbrev pub invariant-given_in-loop-argument : goal.invariant-given_in-loop-argument
invariant-given_in-loop-argument l = Completes (given (here_of l.self.scope) l.parameters (option_map given_of l.fn.given) (arguments_of l.list)) (given (here_of l.self.scope) l.rest (option_map given_of l.given) (arguments_of (drop l.argument-index l.list))) l.fn.sink l.sink
