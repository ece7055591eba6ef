-- The temporaries of record and array types that the items of a text name. Each comes from a node of its type: an expression has the first
-- free number for its own value, whatever its parts are, and what stands in its indices and arguments the numbers behind.
use Rattle.std.specs.Prelude.{ℕ, ◌+◌, List, [], ◌∷◌, ◌++◌, Option, Some, None, slice_get, if◌then◌else◌}
use Rattle.op_constants.specs.Shapes.{is_composite}
use Rattle.op_core.specs.Expression.{Expression, expression, Root as Start, constant, variable, object, call, construct, set, eof, eoln, Steps, no_steps, steps, Action, convert, bracket, field, index, method, prefixed, operate, is, apply, copy, Elements, no_elements, elements, Element, one, range, Arguments, no_arguments, arguments, Argument, value, place, array, listed}
use Rattle.op_core.specs.Statement.{Item, plain, padded, BuiltIn, write, read, count, set_length, include, exclude, val, str, free, destroy, Statement, empty, block, if_then, if_else, case_of, while_do, repeat_until, for_to, for_in, try_finally, try_on, try_on_else, raise, reraise, call as call_statement, assign, exit, exit_with, break, continue, halt, built_in, Statements, no_statements, statements, Branches, no_branches, branches}
use Rattle.op_core.specs.declared.ids.TypeId.{TypeId}
use Rattle.op_core.specs.declared.program.Core.{Core}
use Rattle.op_core.specs.declared.routine.Variable.{Variable}
use Rattle.op_meaning.specs.Shapes.{shape_of}
use Rattle.op_mir.specs.declared.path.Root.{Root}
use Rattle.op_mir.specs.declared.path.Root.TheVariants.{Temporary}

-- what a node of the type names, where this is the first free number
abbrev pub whole_of : Core → ℕ → TypeId → List Root
whole_of core n of = if is_composite (shape_of core of) then Temporary of n ∷ [] else []

-- ---- expressions

-- What is converted is a value of the type before, if it has parts; what has no items yet names none.
abbrev mutual
  pub wholes_of : Core → ℕ → Expression → List Root
  wholes_of core n (expression root of others) = root_wholes core n of root ++ steps_wholes core n others

  pub root_wholes : Core → ℕ → TypeId → Start → List Root
  root_wholes core n of (constant v nodes words) = []
  root_wholes core n of (variable id) = whole_of core n of
  root_wholes core n of (object id) = []
  root_wholes core n of (call id given) = whole_of core n of ++ arguments_wholes core (n + 1) given
  root_wholes core n of (construct c id given) = []
  root_wholes core n of (set es) = elements_wholes core n es
  root_wholes core n of eof = []
  root_wholes core n of eoln = []

  pub steps_wholes : Core → ℕ → Steps → List Root
  steps_wholes core n no_steps = []
  steps_wholes core n (steps action of others) = action_wholes core n of action ++ steps_wholes core n others

  pub action_wholes : Core → ℕ → TypeId → Action → List Root
  action_wholes core n of (convert conversion origin) = []
  action_wholes core n of bracket = whole_of core n of
  action_wholes core n of (field id) = whole_of core n of
  action_wholes core n of (index e) = whole_of core n of ++ wholes_of core (n + 1) e
  action_wholes core n of (method id dispatch given) = []
  action_wholes core n of (prefixed operator checked) = whole_of core n of
  action_wholes core n of (operate operator checked e) = whole_of core n of ++ wholes_of core n e
  action_wholes core n of (is class) = []
  action_wholes core n of (apply function checked) = whole_of core n of
  action_wholes core n of (copy e e') = whole_of core n of

  pub elements_wholes : Core → ℕ → Elements → List Root
  elements_wholes core n no_elements = []
  elements_wholes core n (elements e es) = element_wholes core n e ++ elements_wholes core n es

  pub element_wholes : Core → ℕ → Element → List Root
  element_wholes core n (one e) = wholes_of core n e
  element_wholes core n (range e e') = wholes_of core n e ++ wholes_of core n e'

  pub arguments_wholes : Core → ℕ → Arguments → List Root
  arguments_wholes core n no_arguments = []
  arguments_wholes core n (arguments a others) = argument_wholes core n a ++ arguments_wholes core (n + 1) others

  pub argument_wholes : Core → ℕ → Argument → List Root
  argument_wholes core n (value e) = wholes_of core n e
  argument_wholes core n (place e) = wholes_of core n e
  argument_wholes core n (array e) = []
  argument_wholes core n (listed of es) = []

-- ---- statements

abbrev pub item_wholes : Core → ℕ → Item → List Root
item_wholes core n (plain e) = wholes_of core n e
item_wholes core n (padded e width) = wholes_of core n e ++ wholes_of core n width

abbrev pub items_wholes : Core → ℕ → List Item → List Root
items_wholes core n [] = []
items_wholes core n (x ∷ xs) = item_wholes core n x ++ items_wholes core n xs

abbrev pub built_in_wholes : Core → ℕ → BuiltIn → List Root
built_in_wholes core n (write items ends_line) = items_wholes core n items
built_in_wholes core n (read targets ends_line) = []
built_in_wholes core n (count direction target amount checked) = wholes_of core n target.place ++ wholes_of core (n + 1) amount
built_in_wholes core n (set_length target e) = []
built_in_wholes core n (include s e) = wholes_of core n s ++ wholes_of core (n + 1) e
built_in_wholes core n (exclude s e) = wholes_of core n s ++ wholes_of core (n + 1) e
built_in_wholes core n (val text v code) = []
built_in_wholes core n (str v target) = []
built_in_wholes core n (free e empties) = []
built_in_wholes core n (destroy e) = []

-- the element that a turn takes is of the type of the loop's variable
abbrev pub counter_wholes : Core → ℕ → Option Variable → List Root
counter_wholes core n None = []
counter_wholes core n (Some v) = whole_of core n v.of

abbrev mutual
  pub statement_wholes : Core → ℕ → Statement → List Root
  statement_wholes core n empty = []
  statement_wholes core n (block ss) = wholes_of_statements core n ss
  statement_wholes core n (if_then e s) = wholes_of core n e ++ statement_wholes core n s
  statement_wholes core n (if_else e s t) = wholes_of core n e ++ (statement_wholes core n s ++ statement_wholes core n t)
  statement_wholes core n (case_of e bs ss) = wholes_of core n e ++ (branches_wholes core n bs ++ wholes_of_statements core n ss)
  statement_wholes core n (while_do e s) = wholes_of core n e ++ statement_wholes core n s
  statement_wholes core n (repeat_until ss e) = wholes_of_statements core n ss ++ wholes_of core n e
  statement_wholes core n (for_to id e direction f s) = wholes_of core n e ++ (wholes_of core n f ++ statement_wholes core n s)
  statement_wholes core n (for_in id store e s) = wholes_of core n e ++ (counter_wholes core (n + 1) (slice_get core.variables id.0) ++ statement_wholes core (n + 1) s)
  statement_wholes core n (try_finally ss ts) = wholes_of_statements core n ss ++ wholes_of_statements core n ts
  statement_wholes core n (try_on ss hs) = []
  statement_wholes core n (try_on_else ss hs ts) = []
  statement_wholes core n (raise e) = []
  statement_wholes core n reraise = []
  statement_wholes core n (call_statement e) = wholes_of core n e
  statement_wholes core n (assign target e) = wholes_of core n e ++ wholes_of core (n + 1) target
  statement_wholes core n exit = []
  statement_wholes core n (exit_with e) = wholes_of core n e
  statement_wholes core n break = []
  statement_wholes core n continue = []
  statement_wholes core n (halt e) = wholes_of core n e
  statement_wholes core n (built_in action) = built_in_wholes core n action

  pub wholes_of_statements : Core → ℕ → Statements → List Root
  wholes_of_statements core n no_statements = []
  wholes_of_statements core n (statements s ss) = statement_wholes core n s ++ wholes_of_statements core n ss

  pub branches_wholes : Core → ℕ → Branches → List Root
  branches_wholes core n no_branches = []
  branches_wholes core n (branches labels s bs) = statement_wholes core n s ++ branches_wholes core n bs
