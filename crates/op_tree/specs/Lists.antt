-- What lists of a tree's parts say, and that a node with a parts says just that.
use Rattle.std.specs.Prelude.{◌≡◌, Bool, List, [], ◌∷◌, Box, Vec}
use Rattle.std.specs.declared.alloc.Global.{Global}
use Rattle.op_tree.specs.Declaration.{body, body_of, declarations_of}
use Rattle.op_tree.specs.Denoter.{array, record_, Denoters, no_denoters, denoters, FieldLists, no_fields, fields, denoter_of}
use Rattle.op_tree.specs.Expression.{chain, set, literal, designated, inherited, Operations, no_operations, operation, index, call, Expressions, no_expressions, expressions, Arguments, no_arguments, arguments, expr_of, selector_of, argument_of}
use Rattle.op_tree.specs.Initial.{list, record_ as record_value, Initials, no_initials, initials, FieldInitials, no_field_initials, field_initials, initial_of}
use Rattle.op_tree.specs.Statement.{block, case_of, case_else, repeat_until, try_finally, try_except, try_on, try_on_else, Branches, no_branches, branches, Handlers, no_handlers, handlers, elements_of, selectors_of, designator_of, stmt_of, stmts_of}
use Rattle.op_tree.specs.declared.expression.Argument.{Argument}
use Rattle.op_tree.specs.declared.expression.Designator.{Designator}
use Rattle.op_tree.specs.declared.expression.Element.{Element}
use Rattle.op_tree.specs.declared.expression.Expr.{Expr}
use Rattle.op_tree.specs.declared.expression.Operation.{Operation}
use Rattle.op_tree.specs.declared.expression.Selector.{Selector}
use Rattle.op_tree.specs.declared.expression.Expr.TheVariants.{Chain, Set, Literal, Designator as Designated, Inherited}
use Rattle.op_tree.specs.declared.expression.Selector.TheVariants.{Index, Call}
use Rattle.op_tree.specs.declared.denoter.Fields.{Fields}
use Rattle.op_tree.specs.declared.denoter.TypeDenoter.{TypeDenoter}
use Rattle.op_tree.specs.declared.denoter.TypeDenoter.TheVariants.{Array, Record}
use Rattle.op_tree.specs.declared.initializer.FieldInitializer.{FieldInitializer}
use Rattle.op_tree.specs.declared.initializer.Initializer.{Initializer}
use Rattle.op_tree.specs.declared.initializer.Initializer.TheVariants.{List as ListOf, Record as RecordOf}
use Rattle.op_tree.specs.declared.statement.Branch.{Branch}
use Rattle.op_tree.specs.declared.statement.Handler.{Handler}
use Rattle.op_tree.specs.declared.statement.Stmt.{Stmt}
use Rattle.op_tree.specs.declared.statement.Stmt.TheVariants.{Block, Case, CaseElse, Repeat, TryFinally, TryExcept, TryOn, TryOnElse}
use Rattle.op_tree.specs.declared.declaration.Body.TheVariants.{Block as BodyBlock}
use Rattle.op_tree.specs.declared.declaration.Declaration.{Declaration}
use Rattle.op_tree.specs.declared.position.Position.{Position}
use Rattle.op_scan.specs.declared.compact_text.CompactText.{CompactText}

abbrev pub operations_of : List Operation → Operations
operations_of [] = no_operations
operations_of (x ∷ xs) = operation x.operator x.position (expr_of x.operand) (operations_of xs)

abbrev pub expressions_of : List Expr → Expressions
expressions_of [] = no_expressions
expressions_of (x ∷ xs) = expressions (expr_of x) (expressions_of xs)

abbrev pub arguments_of : List Argument → Arguments
arguments_of [] = no_arguments
arguments_of (x ∷ xs) = arguments (argument_of x) (arguments_of xs)

abbrev pub denoters_of : List TypeDenoter → Denoters
denoters_of [] = no_denoters
denoters_of (x ∷ xs) = denoters (denoter_of x) (denoters_of xs)

abbrev pub field_lists_of : List Fields → FieldLists
field_lists_of [] = no_fields
field_lists_of (x ∷ xs) = fields x.names (denoter_of x.denoter) (field_lists_of xs)

abbrev pub initials_of : List Initializer → Initials
initials_of [] = no_initials
initials_of (x ∷ xs) = initials (initial_of x) (initials_of xs)

abbrev pub field_initials_of : List FieldInitializer → FieldInitials
field_initials_of [] = no_field_initials
field_initials_of (x ∷ xs) = field_initials x.name (initial_of x.value) (field_initials_of xs)

abbrev pub branches_of : List Branch → Branches
branches_of [] = no_branches
branches_of (x ∷ xs) = branches (elements_of x.labels.items) (stmt_of x.body) (branches_of xs)

abbrev pub handlers_of : List Handler → Handlers
handlers_of [] = no_handlers
handlers_of (x ∷ xs) = handlers x.variable x.class (stmt_of x.body) (handlers_of xs)

-- what each node with a parts says
pub record ListNodes : Type 0 where
  pub chain_says : (first : Box Expr Global) (rest : Vec Operation Global) → expr_of (Chain first rest) ≡ chain (expr_of first.value) (operations_of rest.items)
  pub set_says : (position : Position) (parts : Vec Element Global) → expr_of (Set position parts) ≡ set position (elements_of parts.items)
  pub literal_says : (text : CompactText) (position : Position) (parts : Vec Selector Global) → expr_of (Literal text position parts) ≡ literal text position (selectors_of parts.items)
  pub designated_says : (d : Designator) → expr_of (Designated d) ≡ designated (designator_of d)
  pub inherited_says : (position : Position) (d : Box Designator Global) → expr_of (Inherited position d) ≡ inherited position (designator_of d.value)
  pub index_says : (position : Position) (parts : Vec Expr Global) → selector_of (Index position parts) ≡ index position (expressions_of parts.items)
  pub call_says : (parts : Vec Argument Global) → selector_of (Call parts) ≡ call (arguments_of parts.items)
  pub array_says : (position : Position) (packed : Bool) (indices : Vec TypeDenoter Global) (element : Box TypeDenoter Global) → denoter_of (Array position packed indices element) ≡ array position packed (denoters_of indices.items) (denoter_of element.value)
  pub record_type_says : (position : Position) (packed : Bool) (parts : Vec Fields Global) → denoter_of (Record position packed parts) ≡ record_ position packed (field_lists_of parts.items)
  pub list_value_says : (position : Position) (items : Vec Initializer Global) → initial_of (ListOf position items) ≡ list position (initials_of items.items)
  pub record_value_says : (position : Position) (parts : Vec FieldInitializer Global) → initial_of (RecordOf position parts) ≡ record_value position (field_initials_of parts.items)
  pub block_says : (parts : Vec Stmt Global) → stmt_of (Block parts) ≡ block (stmts_of parts.items)
  pub case_of_says : (selector : Box Expr Global) (parts : Vec Branch Global) → stmt_of (Case selector parts) ≡ case_of (expr_of selector.value) (branches_of parts.items)
  pub case_else_says : (selector : Box Expr Global) (parts : Vec Branch Global) (otherwise : Vec Stmt Global) → stmt_of (CaseElse selector parts otherwise) ≡ case_else (expr_of selector.value) (branches_of parts.items) (stmts_of otherwise.items)
  pub repeat_until_says : (parts : Vec Stmt Global) (condition : Box Expr Global) → stmt_of (Repeat parts condition) ≡ repeat_until (stmts_of parts.items) (expr_of condition.value)
  pub try_finally_says : (parts others : Vec Stmt Global) → stmt_of (TryFinally parts others) ≡ try_finally (stmts_of parts.items) (stmts_of others.items)
  pub try_except_says : (parts others : Vec Stmt Global) → stmt_of (TryExcept parts others) ≡ try_except (stmts_of parts.items) (stmts_of others.items)
  pub try_on_says : (parts : Vec Stmt Global) (others : Vec Handler Global) → stmt_of (TryOn parts others) ≡ try_on (stmts_of parts.items) (handlers_of others.items)
  pub try_on_else_says : (parts : Vec Stmt Global) (others : Vec Handler Global) (otherwise : Vec Stmt Global) → stmt_of (TryOnElse parts others otherwise) ≡ try_on_else (stmts_of parts.items) (handlers_of others.items) (stmts_of otherwise.items)
  pub body_says : (parts : Vec Declaration Global) (body_statements : Vec Stmt Global) → body_of (BodyBlock parts body_statements) ≡ body (declarations_of parts.items) (stmts_of body_statements.items)
