-- Texts in which conversions that are not written stand apart, and in which each branch of a `case` has labels that are written.
use Rattle.std.specs.Prelude.{◌<◌, Bool, true, false, List, length}
use Rattle.op_core.specs.Expression.{Expression, Steps, no_steps, steps, Action, convert, bracket, field, index, method, prefixed, operate, is, apply, copy, Argument, value, place, array, listed}
use Rattle.op_core.specs.Statement.{Statement, Statements}
use Rattle.op_core.specs.declared.operation.Origin.TheVariants.{Implied, Cast, As_}
use Rattle.op_core.specs.declared.statement.Label.{Label}
use Rattle.op_meaning.specs.Every.{Asks, EveryNode, EveryWork, Node, at_argument, at_construct, at_copy, at_end, at_handlers, at_input, at_labels, at_method, at_raise, at_root, at_step, at_steps, at_strings, expression_nodes, statement_works, statements_works}

-- a conversion that is not written
abbrev pub is_implied : Action → Bool
is_implied (convert conversion Implied) = true
is_implied (convert conversion Cast) = false
is_implied (convert conversion As_) = false
is_implied bracket = false
is_implied (field id) = false
is_implied (index e) = false
is_implied (method id dispatch given) = false
is_implied (prefixed operator checked) = false
is_implied (operate operator checked e) = false
is_implied (is class) = false
is_implied (apply function checked) = false
is_implied (copy e e') = false

-- behind one that is not written there stands none
abbrev pub MayFollow : Bool → Action → Type 0
MayFollow false action = Unit {0}
MayFollow true (convert conversion Implied) = ⊥
MayFollow true (convert conversion Cast) = Unit {0}
MayFollow true (convert conversion As_) = Unit {0}
MayFollow true bracket = Unit {0}
MayFollow true (field id) = Unit {0}
MayFollow true (index e) = Unit {0}
MayFollow true (method id dispatch given) = Unit {0}
MayFollow true (prefixed operator checked) = Unit {0}
MayFollow true (operate operator checked e) = Unit {0}
MayFollow true (is class) = Unit {0}
MayFollow true (apply function checked) = Unit {0}
MayFollow true (copy e e') = Unit {0}

-- so in each step; `implied` says whether a conversion that is not written stands in front
abbrev pub AreApart : (implied : Bool) → Steps → Type 0
AreApart implied no_steps = Unit {0}
AreApart implied (steps action of others) = MayFollow implied action × AreApart (is_implied action) others

abbrev pub WrittenArgument : Argument → Type 0 → Type 0
WrittenArgument (value e) Parts = Parts
WrittenArgument (place e) Parts = Parts
WrittenArgument (array e) Parts = Parts
WrittenArgument (listed of es) Parts = Unit {0}

-- there is one
abbrev pub AreWrittenLabels : List Label → Type 0
AreWrittenLabels labels = 0 < length labels

-- what the compiler has no items for yet is not asked
abbrev pub WrittenNode : Node → Type 0 → Type 0
WrittenNode (at_root root of) Parts = Parts
WrittenNode (at_steps others) Parts = AreApart false others × Parts
WrittenNode (at_step text action next) Parts = Parts
WrittenNode (at_argument a) Parts = WrittenArgument a Parts
WrittenNode at_construct Parts = Unit {0}
WrittenNode at_method Parts = Unit {0}
WrittenNode at_copy Parts = Unit {0}
WrittenNode at_input Parts = Unit {0}
WrittenNode at_strings Parts = Unit {0}
WrittenNode at_end Parts = Unit {0}
WrittenNode at_handlers Parts = Unit {0}
WrittenNode at_raise Parts = Unit {0}
WrittenNode (at_labels labels) Parts = AreWrittenLabels labels

abbrev pub written_asks : Asks
written_asks = record { of_node = WrittenNode; of_amount = λ e Parts. Parts }

abbrev pub IsWritten : Expression → Type 0
IsWritten e = EveryNode written_asks (expression_nodes e)

abbrev pub IsWrittenStatement : Statement → Type 0
IsWrittenStatement s = EveryWork written_asks (statement_works s)

abbrev pub AreWrittenStatements : Statements → Type 0
AreWrittenStatements ss = EveryWork written_asks (statements_works ss)
