-- Statements as values.
use Rattle.std.specs.Prelude.{List, [], ◌∷◌, Option}
use Rattle.op_tree.specs.Expression.{Expression, Designator, designator, Elements, no_elements, elements, expr_of, element_of, root_of, Selectors, no_selectors, selectors, selector_of}
use Rattle.op_tree.specs.declared.expression.Designator.{Designator as RustDesignator}
use Rattle.op_tree.specs.declared.expression.Element.{Element as RustElement}
use Rattle.op_tree.specs.declared.expression.Selector.{Selector as RustSelector}
use Rattle.op_tree.specs.declared.position.Name.{Name}
use Rattle.op_tree.specs.declared.position.Position.{Position}
use Rattle.op_tree.specs.declared.position.QualifiedName.{QualifiedName}
use Rattle.op_tree.specs.declared.statement.Direction.{Direction}
use Rattle.op_tree.specs.declared.statement.Stmt.{Stmt, Row_of-Stmt, end_of-Stmt, more_of-Stmt, Row_of-Branch, end_of-Branch, more_of-Branch, Row_of-Handler, end_of-Handler, more_of-Handler}
use Rattle.op_tree.specs.declared.statement.Stmt.TheVariants.{Empty, Block', If', IfElse', Case', CaseElse', While', Repeat', For', ForIn', TryFinally', TryExcept', TryOn', TryOnElse', Raise, Reraise, Inherited, InheritedCall, Call, Assign}

mutual
  pub data Statement : Type 0 where
    empty : Statement
    block : (statements : Statements) → Statement
    if_then : (condition : Expression) (then : Statement) → Statement
    if_else : (condition : Expression) (then otherwise : Statement) → Statement
    case_of : (selector : Expression) (branches : Branches) → Statement
    case_else : (selector : Expression) (branches : Branches) (otherwise : Statements) → Statement
    while_do : (condition : Expression) (body : Statement) → Statement
    repeat_until : (body : Statements) (condition : Expression) → Statement
    for_to : (variable : Name) (first : Expression) (direction : Direction) (last : Expression) (body : Statement) → Statement
    for_in : (variable : Name) (collection : Expression) (body : Statement) → Statement
    try_finally : (body finalization : Statements) → Statement
    try_except : (body handler : Statements) → Statement
    try_on : (body : Statements) (handlers : Handlers) → Statement
    try_on_else : (body : Statements) (handlers : Handlers) (otherwise : Statements) → Statement
    raise : (position : Position) (exception : Expression) → Statement
    reraise : (position : Position) → Statement
    inherited : (position : Position) → Statement
    inherited_call : (position : Position) (call : Designator) → Statement
    call : (call : Designator) → Statement
    assign : (target : Designator) (position : Position) (value : Expression) → Statement

  pub data Statements : Type 0 where
    no_statements : Statements
    statements : (first : Statement) (others : Statements) → Statements

  pub data Branches : Type 0 where
    no_branches : Branches
    branches : (labels : Elements) (body : Statement) (others : Branches) → Branches

  pub data Handlers : Type 0 where
    no_handlers : Handlers
    handlers : (variable : Option Name) (class : QualifiedName) (body : Statement) (others : Handlers) → Handlers

-- what a list of the tree's parts says
abbrev pub elements_of : List RustElement → Elements
elements_of [] = no_elements
elements_of (e ∷ es) = elements (element_of e) (elements_of es)

abbrev pub selectors_of : List RustSelector → Selectors
selectors_of [] = no_selectors
selectors_of (s ∷ ss) = selectors (selector_of s) (selectors_of ss)

abbrev pub designator_of : RustDesignator → Designator
designator_of d = designator (root_of d.root) (selectors_of d.selectors.items)

abbrev mutual
  pub stmt_of : Stmt → Statement
  stmt_of Empty = empty
  stmt_of (Block' _ row) = block (stmt_row row)
  stmt_of (If' condition _ then) = if_then (expr_of condition) (stmt_of then)
  stmt_of (IfElse' condition _ then _ otherwise) = if_else (expr_of condition) (stmt_of then) (stmt_of otherwise)
  stmt_of (Case' selector _ row) = case_of (expr_of selector.value) (branch_row row)
  stmt_of (CaseElse' selector _ row _ otherwise) = case_else (expr_of selector.value) (branch_row row) (stmt_row otherwise)
  stmt_of (While' condition _ body) = while_do (expr_of condition) (stmt_of body)
  stmt_of (Repeat' _ body condition) = repeat_until (stmt_row body) (expr_of condition.value)
  stmt_of (For' variable first direction last _ body) = for_to variable (expr_of first.value) direction (expr_of last.value) (stmt_of body)
  stmt_of (ForIn' variable collection _ body) = for_in variable (expr_of collection.value) (stmt_of body)
  stmt_of (TryFinally' _ body _ finalization) = try_finally (stmt_row body) (stmt_row finalization)
  stmt_of (TryExcept' _ body _ handler) = try_except (stmt_row body) (stmt_row handler)
  stmt_of (TryOn' _ body _ row) = try_on (stmt_row body) (handler_row row)
  stmt_of (TryOnElse' _ body _ row _ otherwise) = try_on_else (stmt_row body) (handler_row row) (stmt_row otherwise)
  stmt_of (Raise position exception) = raise position (expr_of exception)
  stmt_of (Reraise position) = reraise position
  stmt_of (Inherited position) = inherited position
  stmt_of (InheritedCall position callee) = inherited_call position (designator_of callee)
  stmt_of (Call callee) = call (designator_of callee)
  stmt_of (Assign target position e) = assign (designator_of target) position (expr_of e.value)

  pub stmt_row : {n : _} → Row_of-Stmt n → Statements
  stmt_row end_of-Stmt = no_statements
  stmt_row (more_of-Stmt s rest) = statements (stmt_of s) (stmt_row rest)

  pub branch_row : {n : _} → Row_of-Branch n → Branches
  branch_row end_of-Branch = no_branches
  branch_row (more_of-Branch labels body rest) = branches (elements_of labels.items) (stmt_of body) (branch_row rest)

  pub handler_row : {n : _} → Row_of-Handler n → Handlers
  handler_row end_of-Handler = no_handlers
  handler_row (more_of-Handler variable class body rest) = handlers variable class (stmt_of body) (handler_row rest)

-- the statements of a list
abbrev pub stmts_of : List Stmt → Statements
stmts_of [] = no_statements
stmts_of (s ∷ ss) = statements (stmt_of s) (stmts_of ss)
