-- Expressions without instances, whose constants count for a node of the text at least.
use Rattle.std.specs.Prelude.{◌≡◌, ◌<◌, ◌⊎◌, ℕ, List, [], ◌∷◌}
use Rattle.op_core.specs.Expression.{Expression, expression, Root, constant, variable, object, call, construct, set, eof, eoln, no_steps, Argument, value, place, array, listed}
use Rattle.op_core.specs.Statement.{Statement, Statements}
use Rattle.op_core.specs.declared.constant.Const.{Const}
use Rattle.op_core.specs.declared.ids.TypeId.{TypeId}
use Rattle.op_core.specs.declared.statement.Label.{Label}
use Rattle.op_meaning.specs.Every.{Asks, EveryNode, EveryWork, Node, at_argument, at_construct, at_copy, at_end, at_handlers, at_input, at_labels, at_method, at_raise, at_root, at_step, at_steps, at_strings, expression_nodes, statement_works, statements_works}

abbrev pub CountedRoot : Root → Type 0 → Type 0
CountedRoot (constant v nodes words) Parts = 0 < nodes
CountedRoot (variable id) Parts = Parts
CountedRoot (object id) Parts = ⊥
CountedRoot (call id given) Parts = Parts
CountedRoot (construct c id given) Parts = ⊥
CountedRoot (set es) Parts = Parts
CountedRoot eof Parts = Parts
CountedRoot eoln Parts = Parts

abbrev pub CountedArgument : Argument → Type 0 → Type 0
CountedArgument (value e) Parts = Parts
CountedArgument (place e) Parts = Parts
CountedArgument (array e) Parts = Parts
CountedArgument (listed of es) Parts = Unit {0}

-- each label counts for a node
abbrev pub AreCountedLabels : List Label → Type 0
AreCountedLabels [] = Unit {0}
AreCountedLabels (l ∷ ls) = (0 < l.nodes) × AreCountedLabels ls

-- what the compiler has no items for yet counts for nothing here
abbrev pub CountedNode : Node → Type 0 → Type 0
CountedNode (at_root root of) Parts = CountedRoot root Parts
CountedNode (at_steps others) Parts = Parts
CountedNode (at_step text action next) Parts = Parts
CountedNode (at_argument a) Parts = CountedArgument a Parts
CountedNode at_construct Parts = Parts
CountedNode at_method Parts = Unit {0}
CountedNode at_copy Parts = Unit {0}
CountedNode at_input Parts = Unit {0}
CountedNode at_strings Parts = Unit {0}
CountedNode at_end Parts = ⊥
CountedNode at_handlers Parts = ⊥
CountedNode at_raise Parts = ⊥
CountedNode (at_labels labels) Parts = AreCountedLabels labels

-- an amount or a status that is not written is a constant that counts for nothing
pub record IsBare (e : Expression) : Type 0 where
  pub value : Const
  pub nodes : ℕ
  pub words : ℕ
  pub of : TypeId
  pub are : e ≡ expression (constant value nodes words) of no_steps

abbrev pub counted_asks : Asks
counted_asks = record { of_node = CountedNode; of_amount = λ e Parts. Parts ⊎ IsBare e }

abbrev pub IsCounted : Expression → Type 0
IsCounted e = EveryNode counted_asks (expression_nodes e)

abbrev pub IsCountedAmount : Expression → Type 0
IsCountedAmount e = IsCounted e ⊎ IsBare e

abbrev pub IsCountedStatement : Statement → Type 0
IsCountedStatement s = EveryWork counted_asks (statement_works s)

abbrev pub AreCountedStatements : Statements → Type 0
AreCountedStatements ss = EveryWork counted_asks (statements_works ss)
