-- The texts of a program, each where it is used. A constant expression over texts is one.
use Rattle.std.specs.Prelude.{ℕ, List, [], ◌∷◌, ◌++◌, Option, Some, None}
use Rattle.op_core.specs.Expression.{Action, Argument, Arguments, Element, Elements, Expression, Expressions, Root, Steps, apply, arguments, array, bracket, call, constant, construct, convert, copy, elements, eof, eoln, expression, expressions, field, index, is, listed, method, no_arguments, no_elements, no_expressions, no_steps, object, one, operate, place, prefixed, range, set, steps, value, variable}
use Rattle.op_core.specs.Statement.{Branches, BuiltIn, Handlers, Item, Statement, Statements, Target, assign, block, branches, break, built_in, call as call_statement, case_of, continue, count, destroy, empty, exclude, exit, exit_with, for_in, for_to, free, halt, handlers, if_else, if_then, include, no_branches, no_handlers, no_statements, padded, plain, raise, read, repeat_until, reraise, set_length, statements, str, try_finally, try_on, try_on_else, val, while_do, write}
use Rattle.op_core.specs.declared.constant.Const.TheVariants.{Nil, Ordinal, Set, Text}
use Rattle.op_core.specs.declared.constant.Const.{Const}

abbrev pub constant_texts : Const → List (List ℕ)
constant_texts (Text bytes) = bytes ∷ []
constant_texts (Ordinal n) = []
constant_texts (Set es) = []
constant_texts Nil = []

abbrev mutual
  pub expression_texts : Expression → List (List ℕ)
  expression_texts (expression root of others) = root_texts root ++ steps_texts others

  pub root_texts : Root → List (List ℕ)
  root_texts (constant v nodes words) = constant_texts v
  root_texts (variable id) = []
  root_texts (object id) = []
  root_texts (call id given) = arguments_texts given
  root_texts (construct c id given) = arguments_texts given
  root_texts (set es) = elements_texts es
  root_texts eof = []
  root_texts eoln = []

  pub steps_texts : Steps → List (List ℕ)
  steps_texts no_steps = []
  steps_texts (steps action of others) = action_texts action ++ steps_texts others

  pub action_texts : Action → List (List ℕ)
  action_texts (index e) = expression_texts e
  action_texts (method id dispatch given) = arguments_texts given
  action_texts (operate operator checked e) = expression_texts e
  action_texts (copy e e') = expression_texts e ++ expression_texts e'
  action_texts (convert conversion origin) = []
  action_texts bracket = []
  action_texts (field id) = []
  action_texts (prefixed operator checked) = []
  action_texts (is class) = []
  action_texts (apply function checked) = []

  pub elements_texts : Elements → List (List ℕ)
  elements_texts no_elements = []
  elements_texts (elements e es) = element_texts e ++ elements_texts es

  pub element_texts : Element → List (List ℕ)
  element_texts (one e) = expression_texts e
  element_texts (range e e') = expression_texts e ++ expression_texts e'

  pub arguments_texts : Arguments → List (List ℕ)
  arguments_texts no_arguments = []
  arguments_texts (arguments a others) = argument_texts a ++ arguments_texts others

  pub argument_texts : Argument → List (List ℕ)
  argument_texts (value e) = expression_texts e
  argument_texts (place e) = expression_texts e
  argument_texts (array e) = expression_texts e
  argument_texts (listed of es) = expressions_texts es

  pub expressions_texts : Expressions → List (List ℕ)
  expressions_texts no_expressions = []
  expressions_texts (expressions e es) = expression_texts e ++ expressions_texts es

-- ---- built-in procedures

abbrev pub item_texts : Item → List (List ℕ)
item_texts (plain e) = expression_texts e
item_texts (padded e width) = expression_texts e ++ expression_texts width

abbrev pub items_texts : List Item → List (List ℕ)
items_texts [] = []
items_texts (x ∷ xs) = item_texts x ++ items_texts xs

abbrev pub targets_texts : List Target → List (List ℕ)
targets_texts [] = []
targets_texts (x ∷ xs) = expression_texts x.place ++ targets_texts xs

abbrev pub built_in_texts : BuiltIn → List (List ℕ)
built_in_texts (write items ends_line) = items_texts items
built_in_texts (read targets ends_line) = targets_texts targets
built_in_texts (count direction target amount checked) = expression_texts target.place ++ expression_texts amount
built_in_texts (set_length target e) = expression_texts target ++ expression_texts e
built_in_texts (include s e) = expression_texts s ++ expression_texts e
built_in_texts (exclude s e) = expression_texts s ++ expression_texts e
built_in_texts (val text v code) = expression_texts text ++ expression_texts v.place ++ expression_texts code.place
built_in_texts (str v target) = item_texts v ++ expression_texts target
built_in_texts (free e empties) = expression_texts e
built_in_texts (destroy e) = expression_texts e

-- ---- statements

abbrev mutual
  pub statement_texts : Statement → List (List ℕ)
  statement_texts empty = []
  statement_texts (block ss) = statements_texts ss
  statement_texts (if_then e s) = expression_texts e ++ statement_texts s
  statement_texts (if_else e s t) = expression_texts e ++ statement_texts s ++ statement_texts t
  statement_texts (case_of e bs ss) = expression_texts e ++ branches_texts bs ++ statements_texts ss
  statement_texts (while_do e s) = expression_texts e ++ statement_texts s
  statement_texts (repeat_until ss e) = statements_texts ss ++ expression_texts e
  statement_texts (for_to id e direction f s) = expression_texts e ++ expression_texts f ++ statement_texts s
  statement_texts (for_in id store e s) = expression_texts e ++ statement_texts s
  statement_texts (try_finally ss ts) = statements_texts ss ++ statements_texts ts
  statement_texts (try_on ss hs) = statements_texts ss ++ handlers_texts hs
  statement_texts (try_on_else ss hs ts) = statements_texts ss ++ handlers_texts hs ++ statements_texts ts
  statement_texts (raise e) = expression_texts e
  statement_texts reraise = []
  statement_texts (call_statement e) = expression_texts e
  statement_texts (assign target e) = expression_texts target ++ expression_texts e
  statement_texts exit = []
  statement_texts (exit_with e) = expression_texts e
  statement_texts break = []
  statement_texts continue = []
  statement_texts (halt e) = expression_texts e
  statement_texts (built_in action) = built_in_texts action

  pub statements_texts : Statements → List (List ℕ)
  statements_texts no_statements = []
  statements_texts (statements s ss) = statement_texts s ++ statements_texts ss

  pub branches_texts : Branches → List (List ℕ)
  branches_texts no_branches = []
  branches_texts (branches labels s bs) = statement_texts s ++ branches_texts bs

  pub handlers_texts : Handlers → List (List ℕ)
  handlers_texts no_handlers = []
  handlers_texts (handlers v class s hs) = statement_texts s ++ handlers_texts hs

-- of a body, if there is one
abbrev pub body_texts : Option Statements → List (List ℕ)
body_texts None = []
body_texts (Some ss) = statements_texts ss
