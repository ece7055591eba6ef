-- What a row of a typed tree's parts says is what the parts of its list say.
use Rattle.std.proofs.Common.{◌≡◌, ◌<◌, ℕ, suc, ◌+◌, List, [], ◌∷◌, ◌++◌, length, get_or, drop, drop-cons, add-one, refl, ap, sym, ◌∙◌, ap₂}
use Rattle.std.specs.Prelude.{Vec}
use mathlib.Core.Former.{Count}
use Rattle.op_core.specs.Expression.{expression, call, construct, set, steps, method, elements, arguments, listed, expressions, expr_of, root_of, action_of, element_of, argument_of, step_row, element_row, argument_row, expr_row, behind, then}
use Rattle.op_core.specs.Initial.{parts, values, first_value_of, initial_row}
use Rattle.op_core.specs.Nodes.{ListNodes, steps_of, elements_of, arguments_of, expressions_of, branches_of, handlers_of, first_values_of}
use Rattle.op_core.specs.Statement.{block, case_of, repeat_until, try_finally, try_on, try_on_else, branches, handlers, stmt_of, stmts_of, statements, stmt_row, branch_row, handler_row}
use Rattle.std.specs.declared.alloc.Global.{Global}
use Rattle.op_core.specs.declared.constant.Initial.{Initial}
use Rattle.op_core.specs.declared.constant.Initial.TheVariants.{Parts}
use Rattle.op_core.specs.declared.expression.Action.TheVariants.{Call as Method}
use Rattle.op_core.specs.declared.expression.CoreArgument.{CoreArgument}
use Rattle.op_core.specs.declared.expression.CoreArgument.TheVariants.{Elements as Listed}
use Rattle.op_core.specs.declared.expression.CoreExpr.{CoreExpr, out-CoreExpr, roll-CoreExpr}
use Rattle.op_core.specs.declared.expression.Root.TheVariants.{Call, Construct, Set}
use Rattle.op_core.specs.declared.expression.Step.{Step}
use Rattle.op_core.specs.declared.ids.TypeId.{TypeId}
use Rattle.op_core.specs.declared.statement.CoreHandler.{CoreHandler}
use Rattle.op_core.specs.declared.statement.CoreStmt.{CoreStmt}
use Rattle.op_core.specs.declared.statement.CoreStmt.TheVariants.{Block, Case, Repeat, TryFinally, TryOn, TryOnElse}
use Rattle.op_core.specs.declared.constant.Initial.{Row_of-Initial, end_of-Initial, more_of-Initial, items-the_row-Initial, items_hidden-the_row-Initial-0}
use Rattle.op_core.specs.declared.constant.Initial.TheVariants.{Parts'}
use Rattle.op_core.specs.declared.expression.Action.{Action}
use Rattle.op_core.specs.declared.expression.Action.TheVariants.{Call' as Method'}
use Rattle.op_core.specs.declared.expression.CoreArgument.{Row_of-CoreExpr, end_of-CoreExpr, more_of-CoreExpr, items-the_row-CoreExpr, items_hidden-the_row-CoreExpr-1}
use Rattle.op_core.specs.declared.expression.CoreArgument.TheVariants.{Elements' as Listed'}
use Rattle.op_core.specs.declared.expression.CoreExpr.{CoreExpr', Row_of-Step, end_of-Step, more_of-Step, items-the_row-Step, items_shown-the_row-Step-3, items_hidden-the_row-Step-3}
use Rattle.op_core.specs.declared.expression.Action.TheBlock.{hidden-the_row-Step-3}
use Rattle.op_core.specs.declared.expression.Root.{Root as RustRoot, Row_of-CoreArgument, end_of-CoreArgument, more_of-CoreArgument, items-the_row-CoreArgument, items_hidden-the_row-CoreArgument-0, Row_of-CoreElement, end_of-CoreElement, more_of-CoreElement, items-the_row-CoreElement, items_hidden-the_row-CoreElement-2}
use Rattle.op_core.specs.declared.expression.Root.TheVariants.{Call', Construct', Set'}
use Rattle.op_core.specs.declared.statement.CoreStmt.{Row_of-CoreStmt, end_of-CoreStmt, more_of-CoreStmt, items-the_row-CoreStmt, items_hidden-the_row-CoreStmt-0, Row_of-CoreBranch, end_of-CoreBranch, more_of-CoreBranch, items-the_row-CoreBranch, items_hidden-the_row-CoreBranch-1, Row_of-CoreHandler, end_of-CoreHandler, more_of-CoreHandler, items-the_row-CoreHandler, items_hidden-the_row-CoreHandler-2}
use Rattle.op_core.specs.declared.statement.CoreStmt.TheVariants.{Block', Case', Repeat', TryFinally', TryOn', TryOnElse'}

-- ---- rows

step_list : (n : _) (row : Row_of-Step n) → step_row row ≡ steps_of (items-the_row-Step n row)
step_list n end_of-Step = refl
step_list n (more_of-Step action of rest) = ap (steps (action_of action) of) (step_list _ rest)

element_list : (n : _) (row : Row_of-CoreElement n) → element_row row ≡ elements_of (items-the_row-CoreElement n row)
element_list n end_of-CoreElement = refl
element_list n (more_of-CoreElement e rest) = ap (elements (element_of e)) (element_list _ rest)

argument_list : (n : _) (row : Row_of-CoreArgument n) → argument_row row ≡ arguments_of (items-the_row-CoreArgument n row)
argument_list n end_of-CoreArgument = refl
argument_list n (more_of-CoreArgument a rest) = ap (arguments (argument_of a)) (argument_list _ rest)

expr_list : (n : _) (row : Row_of-CoreExpr n) → expr_row row ≡ expressions_of (items-the_row-CoreExpr n row)
expr_list n end_of-CoreExpr = refl
expr_list n (more_of-CoreExpr e rest) = ap (expressions (expr_of e)) (expr_list _ rest)

initial_list : (n : _) (row : Row_of-Initial n) → initial_row row ≡ first_values_of (items-the_row-Initial n row)
initial_list n end_of-Initial = refl
initial_list n (more_of-Initial v rest) = ap (values (first_value_of v)) (initial_list _ rest)

stmt_list : (n : _) (row : Row_of-CoreStmt n) → stmt_row row ≡ stmts_of (items-the_row-CoreStmt n row)
stmt_list n end_of-CoreStmt = refl
stmt_list n (more_of-CoreStmt s rest) = ap (statements (stmt_of s)) (stmt_list _ rest)

branch_list : (n : _) (row : Row_of-CoreBranch n) → branch_row row ≡ branches_of (items-the_row-CoreBranch n row)
branch_list n end_of-CoreBranch = refl
branch_list n (more_of-CoreBranch labels s rest) = ap (branches labels (stmt_of s)) (branch_list _ rest)

handler_list : (n : _) (row : Row_of-CoreHandler n) → handler_row row ≡ handlers_of (items-the_row-CoreHandler n row)
handler_list n end_of-CoreHandler = refl
handler_list n (more_of-CoreHandler v c s rest) = ap (handlers v c (stmt_of s)) (handler_list _ rest)

-- ---- the rows in nodes

abbrev steps_in : CoreExpr → (n : Count) × Row_of-Step n
steps_in (CoreExpr' root of _ row) = (_, row)

abbrev given_to : RustRoot → (n : Count) × Row_of-CoreArgument n
given_to (Call' id _ row) = (_, row)
given_to (Construct' c id _ row) = (_, row)
given_to other = (_, end_of-CoreArgument)

abbrev elements_in : RustRoot → (n : Count) × Row_of-CoreElement n
elements_in (Set' _ row) = (_, row)
elements_in other = (_, end_of-CoreElement)

abbrev given_in : Action → (n : Count) × Row_of-CoreArgument n
given_in (Method' id dispatch _ row) = (_, row)
given_in other = (_, end_of-CoreArgument)

abbrev listed_in : CoreArgument → (n : Count) × Row_of-CoreExpr n
listed_in (Listed' of _ row) = (_, row)
listed_in other = (_, end_of-CoreExpr)

abbrev parts_in : Initial → (n : Count) × Row_of-Initial n
parts_in (Parts' _ row) = (_, row)
parts_in other = (_, end_of-Initial)

abbrev first_in : CoreStmt → (n : Count) × Row_of-CoreStmt n
first_in (Block' _ row) = (_, row)
first_in (Case' e _ bs _ row) = (_, row)
first_in (Repeat' _ row e) = (_, row)
first_in (TryFinally' _ row _ others) = (_, row)
first_in (TryOn' _ row _ hs) = (_, row)
first_in (TryOnElse' _ row _ hs _ others) = (_, row)
first_in other = (_, end_of-CoreStmt)

abbrev second_in : CoreStmt → (n : Count) × Row_of-CoreStmt n
second_in (TryFinally' _ row _ others) = (_, others)
second_in (TryOnElse' _ row _ hs _ others) = (_, others)
second_in other = (_, end_of-CoreStmt)

abbrev branches_in : CoreStmt → (n : Count) × Row_of-CoreBranch n
branches_in (Case' e _ bs _ row) = (_, bs)
branches_in other = (_, end_of-CoreBranch)

abbrev handlers_in : CoreStmt → (n : Count) × Row_of-CoreHandler n
handlers_in (TryOn' _ row _ hs) = (_, hs)
handlers_in (TryOnElse' _ row _ hs _ others) = (_, hs)
handlers_in other = (_, end_of-CoreHandler)

-- ---- nodes

by_arguments : (row : (n : Count) × Row_of-CoreArgument n) (given : Vec CoreArgument Global) → items-the_row-CoreArgument row.0 row.1 ≡ given.items → argument_row row.1 ≡ arguments_of given.items
by_arguments row given e = argument_list row.0 row.1 ∙ ap arguments_of e

by_statements : (row : (n : Count) × Row_of-CoreStmt n) (ss : Vec CoreStmt Global) → items-the_row-CoreStmt row.0 row.1 ≡ ss.items → stmt_row row.1 ≡ stmts_of ss.items
by_statements row ss e = stmt_list row.0 row.1 ∙ ap stmts_of e

by_handlers : (row : (n : Count) × Row_of-CoreHandler n) (hs : Vec CoreHandler Global) → items-the_row-CoreHandler row.0 row.1 ≡ hs.items → handler_row row.1 ≡ handlers_of hs.items
by_handlers row hs e = handler_list row.0 row.1 ∙ ap handlers_of e

expr_says : (e : CoreExpr) → expr_of e ≡ expression (root_of (out-CoreExpr e).root) (out-CoreExpr e).of (steps_of (out-CoreExpr e).steps.items)
unfolding out-CoreExpr denote.Hole.Carrier.out
expr_says (CoreExpr' root of shape row) = ap (expression (root_of root) of) (step_list _ row ∙ ap steps_of (sym (items_shown-the_row-Step-3 shape row)))

pub expr_made : (root : RustRoot) (of : TypeId) (v : Vec Step Global) → expr_of (roll-CoreExpr (record { root = root; of = of; steps = v })) ≡ expression (root_of root) of (steps_of v.items)
unfolding roll-CoreExpr hidden-the_row-Step-3 denote.Hole.Carrier.roll
expr_made root of v = ap (expression (root_of root) of) (let row = steps_in (roll-CoreExpr (record { root = root; of = of; steps = v })) in step_list row.0 row.1 ∙ ap steps_of (items_hidden-the_row-Step-3 v))

-- the step with this number, and those behind it
pub next_step : (list : List Step) (k : ℕ) (x : Step) → k < length list → x ≡ get_or list k x → steps_of (drop k list) ≡ steps (action_of x.action) x.of (steps_of (drop (k + 1) list))
next_step list k x h e = rw add-one (ap steps_of (drop-cons list k x h) ∙ ap (λ y. steps (action_of y.action) y.of (steps_of (drop (suc k) list))) (sym e))

steps_more : (xs : List Step) (action : Action) (of : TypeId) → behind (steps_of xs) (action_of action) of ≡ steps_of (xs ++ record { action = action; of = of } ∷ [])
steps_more [] action of = refl
steps_more (x ∷ xs) action of = ap (steps (action_of x.action) x.of) (steps_more xs action of)

-- an expression with one step more
pub expr_more : (e : CoreExpr) (v : Vec Step Global) (action : Action) (of : TypeId) → v.items ≡ (out-CoreExpr e).steps.items ++ record { action = action; of = of } ∷ [] → expr_of (roll-CoreExpr (record { root = (out-CoreExpr e).root; of = (out-CoreExpr e).of; steps = v })) ≡ then (expr_of e) (action_of action) of
expr_more e v action of is =
    expr_made (out-CoreExpr e).root (out-CoreExpr e).of v
    ∙ ap (λ xs. expression (root_of (out-CoreExpr e).root) (out-CoreExpr e).of (steps_of xs)) is
    ∙ ap (expression (root_of (out-CoreExpr e).root) (out-CoreExpr e).of) (sym (steps_more (out-CoreExpr e).steps.items action of))
    ∙ ap (λ x. then x (action_of action) of) (sym (expr_says e))

pub list_nodes : ListNodes
list_nodes = record {
  expr_says = expr_says;
  call_says = λ id given. ap (call id) (by_arguments (given_to (Call id given)) given (items_hidden-the_row-CoreArgument-0 given));
  construct_says = λ c id given. ap (construct c id) (by_arguments (given_to (Construct c id given)) given (items_hidden-the_row-CoreArgument-0 given));
  set_says = λ es. ap set (let row = elements_in (Set es) in element_list row.0 row.1 ∙ ap elements_of (items_hidden-the_row-CoreElement-2 es));
  method_says = λ id dispatch given. ap (method id dispatch) (by_arguments (given_in (Method id dispatch given)) given (items_hidden-the_row-CoreArgument-0 given));
  listed_says = λ of es. ap (listed of) (let row = listed_in (Listed of es) in expr_list row.0 row.1 ∙ ap expressions_of (items_hidden-the_row-CoreExpr-1 es));
  parts_says = λ vs. ap parts (let row = parts_in (Parts vs) in initial_list row.0 row.1 ∙ ap first_values_of (items_hidden-the_row-Initial-0 vs));
  block_says = λ ss. ap block (by_statements (first_in (Block ss)) ss (items_hidden-the_row-CoreStmt-0 ss));
  case_says = λ e bs ss. ap₂ (case_of (expr_of e.value)) (let row = branches_in (Case e bs ss) in branch_list row.0 row.1 ∙ ap branches_of (items_hidden-the_row-CoreBranch-1 bs)) (by_statements (first_in (Case e bs ss)) ss (items_hidden-the_row-CoreStmt-0 ss));
  repeat_says = λ ss e. ap (λ x. repeat_until x (expr_of e.value)) (by_statements (first_in (Repeat ss e)) ss (items_hidden-the_row-CoreStmt-0 ss));
  finally_says = λ ss ts. ap₂ try_finally (by_statements (first_in (TryFinally ss ts)) ss (items_hidden-the_row-CoreStmt-0 ss)) (by_statements (second_in (TryFinally ss ts)) ts (items_hidden-the_row-CoreStmt-0 ts));
  on_says = λ ss hs. ap₂ try_on (by_statements (first_in (TryOn ss hs)) ss (items_hidden-the_row-CoreStmt-0 ss)) (by_handlers (handlers_in (TryOn ss hs)) hs (items_hidden-the_row-CoreHandler-2 hs));
  else_says = λ ss hs ts.
      ap (λ x. try_on_else x (handler_row (handlers_in (TryOnElse ss hs ts)).1) (stmt_row (second_in (TryOnElse ss hs ts)).1)) (by_statements (first_in (TryOnElse ss hs ts)) ss (items_hidden-the_row-CoreStmt-0 ss))
      ∙ ap₂ (try_on_else (stmts_of ss.items)) (by_handlers (handlers_in (TryOnElse ss hs ts)) hs (items_hidden-the_row-CoreHandler-2 hs)) (by_statements (second_in (TryOnElse ss hs ts)) ts (items_hidden-the_row-CoreStmt-0 ts));
}
