-- What lists of a typed tree's parts say, and that a node with a list says just that.
use Rattle.std.specs.Prelude.{◌≡◌, List, [], ◌∷◌, Box, Vec}
use Rattle.std.specs.declared.alloc.Global.{Global}
use Rattle.op_core.specs.Expression.{expression, call, construct, set, Steps, no_steps, steps, method, Elements, no_elements, elements, Arguments, no_arguments, arguments, listed, Expressions, no_expressions, expressions, expr_of, root_of, action_of, element_of, argument_of}
use Rattle.op_core.specs.Initial.{parts, FirstValues, no_values, values, first_value_of}
use Rattle.op_core.specs.Statement.{block, case_of, repeat_until, try_finally, try_on, try_on_else, Branches, no_branches, branches, Handlers, no_handlers, handlers, stmt_of, stmts_of}
use Rattle.op_core.specs.declared.constant.Initial.{Initial}
use Rattle.op_core.specs.declared.constant.Initial.TheVariants.{Parts}
use Rattle.op_core.specs.declared.expression.Action.TheVariants.{Call as Method}
use Rattle.op_core.specs.declared.expression.CoreArgument.{CoreArgument}
use Rattle.op_core.specs.declared.expression.CoreArgument.TheVariants.{Elements as Listed}
use Rattle.op_core.specs.declared.expression.CoreElement.{CoreElement}
use Rattle.op_core.specs.declared.expression.CoreExpr.{CoreExpr, out-CoreExpr}
use Rattle.op_core.specs.declared.expression.Root.TheVariants.{Call, Construct, Set}
use Rattle.op_core.specs.declared.expression.Step.{Step}
use Rattle.op_core.specs.declared.ids.ClassId.{ClassId}
use Rattle.op_core.specs.declared.ids.RoutineId.{RoutineId}
use Rattle.op_core.specs.declared.ids.TypeId.{TypeId}
use Rattle.op_core.specs.declared.operation.Dispatch.{Dispatch}
use Rattle.op_core.specs.declared.statement.CoreBranch.{CoreBranch}
use Rattle.op_core.specs.declared.statement.CoreHandler.{CoreHandler}
use Rattle.op_core.specs.declared.statement.CoreStmt.{CoreStmt}
use Rattle.op_core.specs.declared.statement.CoreStmt.TheVariants.{Block, Case, Repeat, TryFinally, TryOn, TryOnElse}

abbrev pub steps_of : List Step → Steps
steps_of [] = no_steps
steps_of (x ∷ xs) = steps (action_of x.action) x.of (steps_of xs)

abbrev pub elements_of : List CoreElement → Elements
elements_of [] = no_elements
elements_of (x ∷ xs) = elements (element_of x) (elements_of xs)

abbrev pub arguments_of : List CoreArgument → Arguments
arguments_of [] = no_arguments
arguments_of (x ∷ xs) = arguments (argument_of x) (arguments_of xs)

abbrev pub expressions_of : List CoreExpr → Expressions
expressions_of [] = no_expressions
expressions_of (x ∷ xs) = expressions (expr_of x) (expressions_of xs)

abbrev pub branches_of : List CoreBranch → Branches
branches_of [] = no_branches
branches_of (x ∷ xs) = branches x.labels (stmt_of x.body) (branches_of xs)

abbrev pub handlers_of : List CoreHandler → Handlers
handlers_of [] = no_handlers
handlers_of (x ∷ xs) = handlers x.variable x.class (stmt_of x.body) (handlers_of xs)

abbrev pub first_values_of : List Initial → FirstValues
first_values_of [] = no_values
first_values_of (x ∷ xs) = values (first_value_of x) (first_values_of xs)

-- what each node with a list says
pub record ListNodes : Type 0 where
  pub expr_says : (e : CoreExpr) → expr_of e ≡ expression (root_of (out-CoreExpr e).root) (out-CoreExpr e).of (steps_of (out-CoreExpr e).steps.items)
  pub call_says : (id : RoutineId) (given : Vec CoreArgument Global) → root_of (Call id given) ≡ call id (arguments_of given.items)
  pub construct_says : (c : ClassId) (id : RoutineId) (given : Vec CoreArgument Global) → root_of (Construct c id given) ≡ construct c id (arguments_of given.items)
  pub set_says : (es : Vec CoreElement Global) → root_of (Set es) ≡ set (elements_of es.items)
  pub method_says : (id : RoutineId) (dispatch : Dispatch) (given : Vec CoreArgument Global) → action_of (Method id dispatch given) ≡ method id dispatch (arguments_of given.items)
  pub listed_says : (of : TypeId) (es : Vec CoreExpr Global) → argument_of (Listed of es) ≡ listed of (expressions_of es.items)
  pub parts_says : (vs : Vec Initial Global) → first_value_of (Parts vs) ≡ parts (first_values_of vs.items)
  pub block_says : (ss : Vec CoreStmt Global) → stmt_of (Block ss) ≡ block (stmts_of ss.items)
  pub case_says : (e : Box CoreExpr Global) (bs : Vec CoreBranch Global) (ss : Vec CoreStmt Global) → stmt_of (Case e bs ss) ≡ case_of (expr_of e.value) (branches_of bs.items) (stmts_of ss.items)
  pub repeat_says : (ss : Vec CoreStmt Global) (e : Box CoreExpr Global) → stmt_of (Repeat ss e) ≡ repeat_until (stmts_of ss.items) (expr_of e.value)
  pub finally_says : (ss ts : Vec CoreStmt Global) → stmt_of (TryFinally ss ts) ≡ try_finally (stmts_of ss.items) (stmts_of ts.items)
  pub on_says : (ss : Vec CoreStmt Global) (hs : Vec CoreHandler Global) → stmt_of (TryOn ss hs) ≡ try_on (stmts_of ss.items) (handlers_of hs.items)
  pub else_says : (ss : Vec CoreStmt Global) (hs : Vec CoreHandler Global) (ts : Vec CoreStmt Global) → stmt_of (TryOnElse ss hs ts) ≡ try_on_else (stmts_of ss.items) (handlers_of hs.items) (stmts_of ts.items)
