-- The nodes of typed trees. A class of trees is what is asked of each node alone, and not of the parts in it: so one walk over expressions
-- and statements serves all classes, and the tests for them. (Free Pascal Reference Guide, "Expressions" and "Statements".)
use Rattle.std.specs.Prelude.{Bool, true, false, ◌&&◌, List, [], ◌∷◌}
use Rattle.op_core.specs.Expression.{Expression, expression, Root, constant, variable, object, call, construct, set, eof, eoln, Steps, no_steps, steps, Action, convert, bracket, field, index, method, prefixed, operate, is, apply, copy, Elements, no_elements, elements, Element, one, range, Arguments, no_arguments, arguments, Argument, value, place, array, listed, Expressions, no_expressions, expressions}
use Rattle.op_core.specs.Statement.{Item, plain, padded, Target, BuiltIn, write, read, count, set_length, include, exclude, val, str, free, destroy, Statement, empty, block, if_then, if_else, case_of, while_do, repeat_until, for_to, for_in, try_finally, try_on, try_on_else, raise, reraise, call as call_statement, assign, exit, exit_with, break, continue, halt, built_in, Statements, no_statements, statements, Branches, no_branches, branches, Handlers, no_handlers, handlers}
use Rattle.op_core.specs.declared.constant.Const.TheVariants.{Text}
use Rattle.op_core.specs.declared.ids.TypeId.{TypeId}
use Rattle.op_core.specs.declared.statement.Label.{Label}

-- ---- texts that are written

abbrev pub is_text : Root → Bool
is_text (constant (Text bytes) nodes words) = true
is_text _ = false

-- whether what comes out of a step is still a text that is written there
abbrev pub text_after : Bool → Action → Bool
text_after true bracket = true
text_after _ _ = false

-- ---- where something may be asked

pub data Node : Type 0 where
  -- what an expression begins with, of the type
  at_root : Root → TypeId → Node
  -- all steps behind it
  at_steps : Steps → Node
  -- one of them, behind a text that is written there or not, with the type of what comes out
  at_step : Bool → Action → TypeId → Node
  at_argument : Argument → Node
  -- the arguments of a constructor and of a method, and the two bounds of a copy of elements
  at_construct : Node
  at_method : Node
  at_copy : Node
  -- what reads, what works on strings and dynamic arrays, and what ends an instance
  at_input : Node
  at_strings : Node
  at_end : Node
  -- statements with handlers, and those that raise an exception
  at_handlers : Node
  at_raise : Node
  at_labels : List Label → Node

-- ---- the nodes of an expression

pub data Nodes : Type 0 where
  none : Nodes
  -- a node, with those in it
  node : Node → Nodes → Nodes
  two : Nodes → Nodes → Nodes

abbrev mutual
  pub expression_nodes : Expression → Nodes
  expression_nodes (expression root of others) = two (root_nodes root of) (node (at_steps others) (steps_nodes (is_text root) others))

  pub root_nodes : Root → TypeId → Nodes
  root_nodes (constant v nodes words) of = node (at_root (constant v nodes words) of) none
  root_nodes (variable id) of = node (at_root (variable id) of) none
  root_nodes (object id) of = node (at_root (object id) of) none
  root_nodes (call id given) of = node (at_root (call id given) of) (arguments_nodes given)
  root_nodes (construct c id given) of = node (at_root (construct c id given) of) (node at_construct (arguments_nodes given))
  root_nodes (set es) of = node (at_root (set es) of) (elements_nodes es)
  root_nodes eof of = node (at_root eof of) none
  root_nodes eoln of = node (at_root eoln of) none

  pub steps_nodes : Bool → Steps → Nodes
  steps_nodes text no_steps = none
  steps_nodes text (steps action next others) = two (node (at_step text action next) (action_nodes action)) (steps_nodes (text_after text action) others)

  pub action_nodes : Action → Nodes
  action_nodes (convert conversion origin) = none
  action_nodes bracket = none
  action_nodes (field id) = none
  action_nodes (index e) = expression_nodes e
  action_nodes (method id dispatch given) = node at_method (arguments_nodes given)
  action_nodes (prefixed operator checked) = none
  action_nodes (operate operator checked e) = expression_nodes e
  action_nodes (is class) = none
  action_nodes (apply function checked) = none
  action_nodes (copy e e') = node at_copy (two (expression_nodes e) (expression_nodes e'))

  pub elements_nodes : Elements → Nodes
  elements_nodes no_elements = none
  elements_nodes (elements e es) = two (element_nodes e) (elements_nodes es)

  pub element_nodes : Element → Nodes
  element_nodes (one e) = expression_nodes e
  element_nodes (range e e') = two (expression_nodes e) (expression_nodes e')

  pub arguments_nodes : Arguments → Nodes
  arguments_nodes no_arguments = none
  arguments_nodes (arguments a others) = two (argument_nodes a) (arguments_nodes others)

  pub argument_nodes : Argument → Nodes
  argument_nodes (value e) = node (at_argument (value e)) (expression_nodes e)
  argument_nodes (place e) = node (at_argument (place e)) (expression_nodes e)
  argument_nodes (array e) = node (at_argument (array e)) (expression_nodes e)
  argument_nodes (listed of es) = node (at_argument (listed of es)) (listed_nodes es)

  pub listed_nodes : Expressions → Nodes
  listed_nodes no_expressions = none
  listed_nodes (expressions e es) = two (expression_nodes e) (listed_nodes es)

-- ---- the nodes of statements

pub data Works : Type 0 where
  nothing : Works
  written : Expression → Works
  -- an amount or a status, which need not be written
  amount : Expression → Works
  -- a node, with those in it
  around : Node → Works → Works
  both : Works → Works → Works
  three : Works → Works → Works → Works

abbrev pub item_works : Item → Works
item_works (plain e) = written e
item_works (padded e width) = both (written e) (written width)

abbrev pub items_works : List Item → Works
items_works [] = nothing
items_works (x ∷ xs) = both (item_works x) (items_works xs)

abbrev pub targets_works : List Target → Works
targets_works [] = nothing
targets_works (x ∷ xs) = both (written x.place) (targets_works xs)

abbrev pub built_in_works : BuiltIn → Works
built_in_works (write items ends_line) = items_works items
built_in_works (read targets ends_line) = around at_input (targets_works targets)
built_in_works (count direction target e checked) = both (written target.place) (amount e)
built_in_works (set_length target e) = around at_strings (both (written target) (written e))
built_in_works (include s e) = both (written s) (written e)
built_in_works (exclude s e) = both (written s) (written e)
built_in_works (val e target code) = around at_strings (three (written e) (written target.place) (written code.place))
built_in_works (str item target) = around at_strings (both (item_works item) (written target))
built_in_works (free e empties) = around at_end (written e)
built_in_works (destroy e) = around at_end (written e)

abbrev mutual
  pub statement_works : Statement → Works
  statement_works empty = nothing
  statement_works (block ss) = statements_works ss
  statement_works (if_then e s) = both (written e) (statement_works s)
  statement_works (if_else e s t) = three (written e) (statement_works s) (statement_works t)
  statement_works (case_of e bs ss) = three (written e) (branches_works bs) (statements_works ss)
  statement_works (while_do e s) = both (written e) (statement_works s)
  statement_works (repeat_until ss e) = both (written e) (statements_works ss)
  statement_works (for_to id e direction f s) = three (written e) (written f) (statement_works s)
  statement_works (for_in id store e s) = both (written e) (statement_works s)
  statement_works (try_finally ss ts) = both (statements_works ss) (statements_works ts)
  statement_works (try_on ss hs) = around at_handlers (both (statements_works ss) (handlers_works hs))
  statement_works (try_on_else ss hs ts) = around at_handlers (three (statements_works ss) (handlers_works hs) (statements_works ts))
  statement_works (raise e) = around at_raise (written e)
  statement_works reraise = around at_raise nothing
  statement_works (call_statement e) = written e
  statement_works (assign target e) = both (written target) (written e)
  statement_works exit = nothing
  statement_works (exit_with e) = written e
  statement_works break = nothing
  statement_works continue = nothing
  statement_works (halt e) = amount e
  statement_works (built_in action) = built_in_works action

  pub statements_works : Statements → Works
  statements_works no_statements = nothing
  statements_works (statements s ss) = both (statement_works s) (statements_works ss)

  pub branches_works : Branches → Works
  branches_works no_branches = nothing
  branches_works (branches labels s bs) = three (around (at_labels labels) nothing) (statement_works s) (branches_works bs)

  pub handlers_works : Handlers → Works
  handlers_works no_handlers = nothing
  handlers_works (handlers v class s hs) = both (statement_works s) (handlers_works hs)

-- ---- what is asked of each node

pub record Asks : Type 1 where
  -- of a node, where what is in it is asked so much
  pub of_node : Node → Type 0 → Type 0
  -- of an amount, where an expression is asked so much
  pub of_amount : Expression → Type 0 → Type 0

abbrev pub EveryNode : Asks → Nodes → Type 0
EveryNode a none = Unit {0}
EveryNode a (node n inner) = a.of_node n (EveryNode a inner)
EveryNode a (two x y) = EveryNode a x × EveryNode a y

abbrev pub EveryWork : Asks → Works → Type 0
EveryWork a nothing = Unit {0}
EveryWork a (written e) = EveryNode a (expression_nodes e)
EveryWork a (amount e) = a.of_amount e (EveryNode a (expression_nodes e))
EveryWork a (around n inner) = a.of_node n (EveryWork a inner)
EveryWork a (both x y) = EveryWork a x × EveryWork a y
EveryWork a (three x y z) = EveryWork a x × EveryWork a y × EveryWork a z

-- ---- and what is tested

pub record Tests : Type 0 where
  -- of a node, where what is in it passes or not
  pub of_node : Node → Bool → Bool
  pub of_amount : Expression → Bool → Bool

abbrev pub passes : Tests → Nodes → Bool
passes t none = true
passes t (node n inner) = t.of_node n (passes t inner)
passes t (two x y) = passes t x && passes t y

abbrev pub passes_in : Tests → Works → Bool
passes_in t nothing = true
passes_in t (written e) = passes t (expression_nodes e)
passes_in t (amount e) = t.of_amount e (passes t (expression_nodes e))
passes_in t (around n inner) = t.of_node n (passes_in t inner)
passes_in t (both x y) = passes_in t x && passes_in t y
passes_in t (three x y z) = passes_in t x && (passes_in t y && passes_in t z)
