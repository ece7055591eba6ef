use Rattle.std.proofs.Common.{ℕ, ◌+◌, ◌*◌, ◌≤◌, length}
use Rattle.op_parse_code.proofs.Chains.{Operating}
use Rattle.op_parse_code.proofs.Designators.{Selecting}
use Rattle.op_parse_code.proofs.ExpressionLists.{add_argument, add_element, add_index}
use Rattle.op_parse_code.proofs.Lists.{Reading}
use Rattle.op_parse_code.specs.Refusal.{Extended}
use Rattle.op_parse_code.specs.Whole.{ArgumentsBefore, ElementsBefore, IndicesBefore}
use Rattle.op_tree.specs.Terminal.{terminals}
use Rattle.op_tree.specs.declared.operator.Level.{Level}
use Rattle.op_tree.specs.declared.operator.Level.TheVariants.{Relational, Additive, Multiplicative}
use Rattle.op_parse_code.proofs.+expression.Given as goal

-- how many calls a chain of the level is above a factor
abbrev pub height : Level → ℕ
height Relational = 9
height Additive = 6
height Multiplicative = 3

abbrev pub decreases-chain::read_chain : goal.decreases-chain::read_chain
decreases-chain::read_chain l = 32 * l.left + 10 + height l.level

abbrev pub decreases-chain::read_factor : goal.decreases-chain::read_factor
decreases-chain::read_factor l = 32 * l.left + 10

abbrev pub decreases-chain::read_operand : goal.decreases-chain::read_operand
decreases-chain::read_operand l = 32 * l.left + 8 + height l.level

abbrev pub decreases-chain::read_operations : goal.decreases-chain::read_operations
decreases-chain::read_operations l = 32 * l.left + 9 + height l.level

abbrev pub decreases-factor::factor : goal.decreases-factor::factor
decreases-factor::factor l = 32 * l.left + 9

abbrev pub decreases-factor::literal : goal.decreases-factor::literal
decreases-factor::literal l = 32 * l.left + 8

abbrev pub decreases-factor::inherited : goal.decreases-factor::inherited
decreases-factor::inherited l = 32 * l.left + 8

abbrev pub decreases-factor::prefixed : goal.decreases-factor::prefixed
decreases-factor::prefixed l = 32 * l.left + 8

abbrev pub decreases-designator::designator : goal.decreases-designator::designator
decreases-designator::designator l = 32 * l.left + 7

abbrev pub decreases-designator::root : goal.decreases-designator::root
decreases-designator::root l = 32 * l.left + 4

abbrev pub decreases-designator::selectors : goal.decreases-designator::selectors
decreases-designator::selectors l = 32 * l.left + 6

abbrev pub decreases-designator::read_selectors : goal.decreases-designator::read_selectors
decreases-designator::read_selectors l = 32 * l.left + 5

abbrev pub decreases-designator::selector : goal.decreases-designator::selector
decreases-designator::selector l = 32 * l.left + 4

abbrev pub decreases-factor::set_elements : goal.decreases-factor::set_elements
decreases-factor::set_elements l = 32 * l.left + 26

abbrev pub decreases-list::arguments : goal.decreases-list::arguments
decreases-list::arguments l = 32 * l.left + 25

abbrev pub decreases-list::argument : goal.decreases-list::argument
decreases-list::argument l = 32 * l.left + 24

abbrev pub decreases-list::with_width : goal.decreases-list::with_width
decreases-list::with_width l = 32 * l.left + 23

abbrev pub decreases-list::elements : goal.decreases-list::elements
decreases-list::elements l = 32 * l.left + 25

abbrev pub decreases-list::element : goal.decreases-list::element
decreases-list::element l = 32 * l.left + 24

abbrev pub decreases-list::with_last : goal.decreases-list::with_last
decreases-list::with_last l = 32 * l.left + 23

abbrev pub decreases-list::indices : goal.decreases-list::indices
decreases-list::indices l = 32 * l.left + 25

abbrev pub invariant-chain::read_operations-loop-after : goal.invariant-chain::read_operations-loop-after
invariant-chain::read_operations-loop-after l = Extended l.fn.list.items l.list.items (λ xs. Operating l.fn.level l.fn.left l.fn.end (terminals l.fn.tokens) xs (terminals l.rest)) × (length l.rest ≤ length l.fn.tokens)

abbrev pub decreases-chain::read_operations-loop-after : goal.decreases-chain::read_operations-loop-after
decreases-chain::read_operations-loop-after l = length l.rest

abbrev pub invariant-designator::read_selectors-loop-behind : goal.invariant-designator::read_selectors-loop-behind
invariant-designator::read_selectors-loop-behind l = Extended l.fn.list.items l.list.items (λ xs. Selecting l.fn.left l.fn.end (terminals l.fn.tokens) xs (terminals l.rest)) × (length l.rest ≤ length l.fn.tokens)

abbrev pub decreases-designator::read_selectors-loop-behind : goal.decreases-designator::read_selectors-loop-behind
decreases-designator::read_selectors-loop-behind l = length l.rest

abbrev pub invariant-list::arguments-loop-behind : goal.invariant-list::arguments-loop-behind
invariant-list::arguments-loop-behind l = Reading add_argument ArgumentsBefore l.fn.left l.fn.end (terminals l.fn.tokens) l.list.items (terminals l.rest) × (length l.rest ≤ length l.fn.tokens)

abbrev pub decreases-list::arguments-loop-behind : goal.decreases-list::arguments-loop-behind
decreases-list::arguments-loop-behind l = length l.rest

abbrev pub invariant-list::elements-loop-behind : goal.invariant-list::elements-loop-behind
invariant-list::elements-loop-behind l = Reading add_element (ElementsBefore l.fn.close) l.fn.left l.fn.end (terminals l.fn.tokens) l.list.items (terminals l.rest) × (length l.rest ≤ length l.fn.tokens)

abbrev pub decreases-list::elements-loop-behind : goal.decreases-list::elements-loop-behind
decreases-list::elements-loop-behind l = length l.rest

abbrev pub invariant-list::indices-loop-behind : goal.invariant-list::indices-loop-behind
invariant-list::indices-loop-behind l = Reading add_index IndicesBefore l.fn.left l.fn.end (terminals l.fn.tokens) l.list.items (terminals l.rest) × (length l.rest ≤ length l.fn.tokens)

abbrev pub decreases-list::indices-loop-behind : goal.decreases-list::indices-loop-behind
decreases-list::indices-loop-behind l = length l.rest
