-- Typed statements as values: what a `CoreStmt` says, wherever it lies in memory.
use Rattle.std.specs.Prelude.{Bool, List, [], ◌∷◌, Option, map}
use Rattle.op_core.specs.Expression.{Expression, expr_of}
use Rattle.op_core.specs.declared.ids.ClassId.{ClassId}
use Rattle.op_core.specs.declared.ids.VariableId.{VariableId}
use Rattle.op_core.specs.declared.operation.Conversion.{Conversion}
use Rattle.op_core.specs.declared.statement.CoreAction.{CoreAction}
use Rattle.op_core.specs.declared.statement.CoreAction.TheVariants.{Write, Read, Count, SetLength, Include, Exclude, Val, Str, Free, Destroy}
use Rattle.op_core.specs.declared.statement.CoreItem.{CoreItem}
use Rattle.op_core.specs.declared.statement.CoreItem.TheVariants.{Plain, Padded}
use Rattle.op_core.specs.declared.statement.CoreStmt.{CoreStmt, Row_of-CoreStmt, end_of-CoreStmt, more_of-CoreStmt, Row_of-CoreBranch, end_of-CoreBranch, more_of-CoreBranch, Row_of-CoreHandler, end_of-CoreHandler, more_of-CoreHandler}
use Rattle.op_core.specs.declared.statement.CoreStmt.TheVariants.{Empty, Block', If', IfElse', Case', While', Repeat', For', ForIn', TryFinally', TryOn', TryOnElse', Raise, Reraise, Call, Assign, Exit, ExitWith, Break, Continue, Halt, Do}
use Rattle.op_core.specs.declared.statement.CoreTarget.{CoreTarget}
use Rattle.op_core.specs.declared.statement.Label.{Label}
use Rattle.op_tree.specs.declared.statement.Direction.{Direction}

-- what is written, and to what width at least
pub data Item : Type 0 where
  plain : (value : Expression) → Item
  padded : (value width : Expression) → Item

-- a place, and how what is stored there is converted
pub record Target : Type 0 where
  pub place : Expression
  pub store : Conversion

pub data BuiltIn : Type 0 where
  write : (items : List Item) (ends_line : Bool) → BuiltIn
  read : (targets : List Target) (ends_line : Bool) → BuiltIn
  count : (direction : Direction) (target : Target) (amount : Expression) (checked : Bool) → BuiltIn
  set_length : (target length : Expression) → BuiltIn
  include : (set element : Expression) → BuiltIn
  exclude : (set element : Expression) → BuiltIn
  val : (text : Expression) (value code : Target) → BuiltIn
  str : (value : Item) (target : Expression) → BuiltIn
  free : (object : Expression) (empties : Bool) → BuiltIn
  destroy : (object : Expression) → BuiltIn

mutual
  pub data Statement : Type 0 where
    empty : Statement
    block : (statements : Statements) → Statement
    if_then : (condition : Expression) (then : Statement) → Statement
    if_else : (condition : Expression) (then otherwise : Statement) → Statement
    case_of : (selector : Expression) (branches : Branches) (otherwise : Statements) → Statement
    while_do : (condition : Expression) (body : Statement) → Statement
    repeat_until : (body : Statements) (condition : Expression) → Statement
    for_to : (variable : VariableId) (first : Expression) (direction : Direction) (last : Expression) (body : Statement) → Statement
    for_in : (variable : VariableId) (store : Conversion) (collection : Expression) (body : Statement) → Statement
    try_finally : (body finalization : Statements) → Statement
    try_on : (body : Statements) (handlers : Handlers) → Statement
    try_on_else : (body : Statements) (handlers : Handlers) (otherwise : Statements) → Statement
    raise : (exception : Expression) → Statement
    reraise : Statement
    call : (call : Expression) → Statement
    assign : (target value : Expression) → Statement
    exit : Statement
    exit_with : (result : Expression) → Statement
    break : Statement
    continue : Statement
    halt : (status : Expression) → Statement
    built_in : (action : BuiltIn) → Statement

  pub data Statements : Type 0 where
    no_statements : Statements
    statements : (first : Statement) (others : Statements) → Statements

  pub data Branches : Type 0 where
    no_branches : Branches
    branches : (labels : List Label) (body : Statement) (others : Branches) → Branches

  pub data Handlers : Type 0 where
    no_handlers : Handlers
    handlers : (variable : Option VariableId) (class : ClassId) (body : Statement) (others : Handlers) → Handlers

abbrev pub item_of : CoreItem → Item
item_of (Plain e) = plain (expr_of e)
item_of (Padded e width) = padded (expr_of e) (expr_of width.value)

abbrev pub target_of : CoreTarget → Target
target_of t = record { place = expr_of t.place; store = t.store }

abbrev pub built_in_of : CoreAction → BuiltIn
built_in_of (Write items ends_line) = write (map item_of items.items) ends_line
built_in_of (Read targets ends_line) = read (map target_of targets.items) ends_line
built_in_of (Count direction target amount checked) = count direction (target_of target) (expr_of amount) checked
built_in_of (SetLength target e) = set_length (expr_of target) (expr_of e)
built_in_of (Include set element) = include (expr_of set) (expr_of element)
built_in_of (Exclude set element) = exclude (expr_of set) (expr_of element)
built_in_of (Val text v code) = val (expr_of text) (target_of v) (target_of code)
built_in_of (Str v target) = str (item_of v) (expr_of target)
built_in_of (Free object empties) = free (expr_of object) empties
built_in_of (Destroy object) = destroy (expr_of object)

abbrev mutual
  pub stmt_of : CoreStmt → Statement
  stmt_of Empty = empty
  stmt_of (Block' _ row) = block (stmt_row row)
  stmt_of (If' condition _ then) = if_then (expr_of condition) (stmt_of then)
  stmt_of (IfElse' condition _ then _ otherwise) = if_else (expr_of condition) (stmt_of then) (stmt_of otherwise)
  stmt_of (Case' selector _ row _ otherwise) = case_of (expr_of selector.value) (branch_row row) (stmt_row otherwise)
  stmt_of (While' condition _ body) = while_do (expr_of condition) (stmt_of body)
  stmt_of (Repeat' _ body condition) = repeat_until (stmt_row body) (expr_of condition.value)
  stmt_of (For' variable first direction last _ body) = for_to variable (expr_of first.value) direction (expr_of last.value) (stmt_of body)
  stmt_of (ForIn' variable store collection _ body) = for_in variable store (expr_of collection.value) (stmt_of body)
  stmt_of (TryFinally' _ body _ finalization) = try_finally (stmt_row body) (stmt_row finalization)
  stmt_of (TryOn' _ body _ row) = try_on (stmt_row body) (handler_row row)
  stmt_of (TryOnElse' _ body _ row _ otherwise) = try_on_else (stmt_row body) (handler_row row) (stmt_row otherwise)
  stmt_of (Raise e) = raise (expr_of e)
  stmt_of Reraise = reraise
  stmt_of (Call e) = call (expr_of e)
  stmt_of (Assign target e) = assign (expr_of target) (expr_of e.value)
  stmt_of Exit = exit
  stmt_of (ExitWith e) = exit_with (expr_of e)
  stmt_of Break = break
  stmt_of Continue = continue
  stmt_of (Halt e) = halt (expr_of e)
  stmt_of (Do action) = built_in (built_in_of action.value)

  pub stmt_row : {n : _} → Row_of-CoreStmt n → Statements
  stmt_row end_of-CoreStmt = no_statements
  stmt_row (more_of-CoreStmt s rest) = statements (stmt_of s) (stmt_row rest)

  pub branch_row : {n : _} → Row_of-CoreBranch n → Branches
  branch_row end_of-CoreBranch = no_branches
  branch_row (more_of-CoreBranch labels body rest) = branches labels (stmt_of body) (branch_row rest)

  pub handler_row : {n : _} → Row_of-CoreHandler n → Handlers
  handler_row end_of-CoreHandler = no_handlers
  handler_row (more_of-CoreHandler variable class body rest) = handlers variable class (stmt_of body) (handler_row rest)

-- the statements of a list
abbrev pub stmts_of : List CoreStmt → Statements
stmts_of [] = no_statements
stmts_of (s ∷ ss) = statements (stmt_of s) (stmts_of ss)
