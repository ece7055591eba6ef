-- What a row of a tree's parts says is what the parts of these parts says.
use Rattle.std.proofs.Common.{◌≡◌, Bool, refl, ap, ◌∙◌, ap₂}
use Rattle.std.specs.Prelude.{Box, Vec}
use mathlib.Core.Former.{Count}
use Rattle.std.specs.declared.alloc.Global.{Global}
use Rattle.op_base.proofs.Tests.{ap₃}
use Rattle.op_tree.specs.Declaration.{body, body_of, declarations_of, declarations, declaration_of, declaration_row}
use Rattle.op_tree.specs.Denoter.{array, record_, denoters, fields, denoter_of, denoter_row, field_row}
use Rattle.op_tree.specs.Expression.{chain, set, literal, designated, inherited, operation, index, call, expressions, arguments, expr_of, element_of, root_of, selector_of, argument_of, operation_row, element_row, selector_row, expr_row, argument_row, elements, selectors, designator}
use Rattle.op_tree.specs.Initial.{list, record_ as record_value, initials, field_initials, initial_of, initial_row, field_initial_row}
use Rattle.op_tree.specs.Statement.{block, case_of, case_else, repeat_until, try_finally, try_except, try_on, try_on_else, branches, handlers, elements_of, selectors_of, designator_of, stmt_of, stmts_of, statements, stmt_row, branch_row, handler_row}
use Rattle.op_tree.specs.declared.expression.Argument.{Argument}
use Rattle.op_tree.specs.declared.expression.Designator.{Designator}
use Rattle.op_tree.specs.declared.expression.Element.{Element}
use Rattle.op_tree.specs.declared.expression.Expr.{Expr}
use Rattle.op_tree.specs.declared.expression.Operation.{Operation}
use Rattle.op_tree.specs.declared.expression.Selector.{Selector}
use Rattle.op_tree.specs.declared.expression.Expr.TheVariants.{Chain, Set, Literal, Designator as Designated, Inherited}
use Rattle.op_tree.specs.declared.expression.Selector.TheVariants.{Index, Call}
use Rattle.op_tree.specs.declared.denoter.Fields.{Fields}
use Rattle.op_tree.specs.declared.denoter.TypeDenoter.{TypeDenoter}
use Rattle.op_tree.specs.declared.denoter.TypeDenoter.TheVariants.{Array, Record}
use Rattle.op_tree.specs.declared.initializer.FieldInitializer.{FieldInitializer}
use Rattle.op_tree.specs.declared.initializer.Initializer.{Initializer}
use Rattle.op_tree.specs.declared.initializer.Initializer.TheVariants.{List as ListOf, Record as RecordOf}
use Rattle.op_tree.specs.declared.statement.Branch.{Branch}
use Rattle.op_tree.specs.declared.statement.Handler.{Handler}
use Rattle.op_tree.specs.declared.statement.Stmt.{Stmt}
use Rattle.op_tree.specs.declared.statement.Stmt.TheVariants.{Block, Case, CaseElse, Repeat, TryFinally, TryExcept, TryOn, TryOnElse}
use Rattle.op_tree.specs.declared.declaration.Body.{Body}
use Rattle.op_tree.specs.declared.declaration.Body.TheVariants.{Block as BodyBlock}
use Rattle.op_tree.specs.declared.declaration.Declaration.{Declaration}
use Rattle.op_tree.specs.declared.position.Position.{Position}
use Rattle.op_scan.specs.declared.compact_text.CompactText.{CompactText}
use Rattle.op_tree.specs.Lists.{operations_of, expressions_of, arguments_of, denoters_of, field_lists_of, initials_of, field_initials_of, branches_of, handlers_of, ListNodes}
use Rattle.op_tree.specs.declared.expression.Expr.{Row_of-Operation, end_of-Operation, more_of-Operation, items-the_row-Operation, items_hidden-the_row-Operation-0, Row_of-Element, end_of-Element, more_of-Element, items-the_row-Element, items_hidden-the_row-Element-1, Row_of-Selector, end_of-Selector, more_of-Selector, items-the_row-Selector, items_hidden-the_row-Selector-2}
use Rattle.op_tree.specs.declared.expression.Selector.{Row_of-Expr, end_of-Expr, more_of-Expr, items-the_row-Expr, items_hidden-the_row-Expr-3, Row_of-Argument, end_of-Argument, more_of-Argument, items-the_row-Argument, items_hidden-the_row-Argument-4}
use Rattle.op_tree.specs.declared.denoter.TypeDenoter.{Row_of-TypeDenoter, end_of-TypeDenoter, more_of-TypeDenoter, items-the_row-TypeDenoter, items_hidden-the_row-TypeDenoter-0, Row_of-Fields, end_of-Fields, more_of-Fields, items-the_row-Fields, items_hidden-the_row-Fields-1}
use Rattle.op_tree.specs.declared.initializer.Initializer.{Row_of-Initializer, end_of-Initializer, more_of-Initializer, items-the_row-Initializer, items_hidden-the_row-Initializer-0, Row_of-FieldInitializer, end_of-FieldInitializer, more_of-FieldInitializer, items-the_row-FieldInitializer, items_hidden-the_row-FieldInitializer-1}
use Rattle.op_tree.specs.declared.statement.Stmt.{Row_of-Stmt, end_of-Stmt, more_of-Stmt, items-the_row-Stmt, items_hidden-the_row-Stmt-0, Row_of-Branch, end_of-Branch, more_of-Branch, items-the_row-Branch, items_hidden-the_row-Branch-1, Row_of-Handler, end_of-Handler, more_of-Handler, items-the_row-Handler, items_hidden-the_row-Handler-2}
use Rattle.op_tree.specs.declared.declaration.Body.{Row_of-Declaration, end_of-Declaration, more_of-Declaration, items-the_row-Declaration, items_hidden-the_row-Declaration-0}
use Rattle.op_tree.specs.declared.expression.Expr.TheVariants.{Chain', Set', Literal', Designator' as Designated', Inherited'}
use Rattle.op_tree.specs.declared.expression.Selector.TheVariants.{Index', Call'}
use Rattle.op_tree.specs.declared.denoter.TypeDenoter.TheVariants.{Array', Record'}
use Rattle.op_tree.specs.declared.initializer.Initializer.TheVariants.{List' as ListOf', Record' as RecordOf'}
use Rattle.op_tree.specs.declared.statement.Stmt.TheVariants.{Block', Case', CaseElse', Repeat', TryFinally', TryExcept', TryOn', TryOnElse'}
use Rattle.op_tree.specs.declared.declaration.Body.TheVariants.{Block' as BodyBlock'}

operation_row-list : (n : _) (row : Row_of-Operation n) → operation_row row ≡ operations_of (items-the_row-Operation n row)
operation_row-list n end_of-Operation = refl
operation_row-list n (more_of-Operation o p e rest) = ap (operation o p (expr_of e)) (operation_row-list _ rest)

element_row-list : (n : _) (row : Row_of-Element n) → element_row row ≡ elements_of (items-the_row-Element n row)
element_row-list n end_of-Element = refl
element_row-list n (more_of-Element e rest) = ap (elements (element_of e)) (element_row-list _ rest)

selector_row-list : (n : _) (row : Row_of-Selector n) → selector_row row ≡ selectors_of (items-the_row-Selector n row)
selector_row-list n end_of-Selector = refl
selector_row-list n (more_of-Selector e rest) = ap (selectors (selector_of e)) (selector_row-list _ rest)

expr_row-list : (n : _) (row : Row_of-Expr n) → expr_row row ≡ expressions_of (items-the_row-Expr n row)
expr_row-list n end_of-Expr = refl
expr_row-list n (more_of-Expr e rest) = ap (expressions (expr_of e)) (expr_row-list _ rest)

argument_row-list : (n : _) (row : Row_of-Argument n) → argument_row row ≡ arguments_of (items-the_row-Argument n row)
argument_row-list n end_of-Argument = refl
argument_row-list n (more_of-Argument e rest) = ap (arguments (argument_of e)) (argument_row-list _ rest)

denoter_row-list : (n : _) (row : Row_of-TypeDenoter n) → denoter_row row ≡ denoters_of (items-the_row-TypeDenoter n row)
denoter_row-list n end_of-TypeDenoter = refl
denoter_row-list n (more_of-TypeDenoter e rest) = ap (denoters (denoter_of e)) (denoter_row-list _ rest)

field_row-list : (n : _) (row : Row_of-Fields n) → field_row row ≡ field_lists_of (items-the_row-Fields n row)
field_row-list n end_of-Fields = refl
field_row-list n (more_of-Fields names e rest) = ap (fields names (denoter_of e)) (field_row-list _ rest)

initial_row-list : (n : _) (row : Row_of-Initializer n) → initial_row row ≡ initials_of (items-the_row-Initializer n row)
initial_row-list n end_of-Initializer = refl
initial_row-list n (more_of-Initializer e rest) = ap (initials (initial_of e)) (initial_row-list _ rest)

field_initial_row-list : (n : _) (row : Row_of-FieldInitializer n) → field_initial_row row ≡ field_initials_of (items-the_row-FieldInitializer n row)
field_initial_row-list n end_of-FieldInitializer = refl
field_initial_row-list n (more_of-FieldInitializer name e rest) = ap (field_initials name (initial_of e)) (field_initial_row-list _ rest)

stmt_row-list : (n : _) (row : Row_of-Stmt n) → stmt_row row ≡ stmts_of (items-the_row-Stmt n row)
stmt_row-list n end_of-Stmt = refl
stmt_row-list n (more_of-Stmt e rest) = ap (statements (stmt_of e)) (stmt_row-list _ rest)

branch_row-list : (n : _) (row : Row_of-Branch n) → branch_row row ≡ branches_of (items-the_row-Branch n row)
branch_row-list n end_of-Branch = refl
branch_row-list n (more_of-Branch l e rest) = ap (branches (elements_of l.items) (stmt_of e)) (branch_row-list _ rest)

handler_row-list : (n : _) (row : Row_of-Handler n) → handler_row row ≡ handlers_of (items-the_row-Handler n row)
handler_row-list n end_of-Handler = refl
handler_row-list n (more_of-Handler v c e rest) = ap (handlers v c (stmt_of e)) (handler_row-list _ rest)

declaration_row-list : (n : _) (row : Row_of-Declaration n) → declaration_row row ≡ declarations_of (items-the_row-Declaration n row)
declaration_row-list n end_of-Declaration = refl
declaration_row-list n (more_of-Declaration e rest) = ap (declarations (declaration_of e)) (declaration_row-list _ rest)

abbrev chain_row : Expr → (n : Count) × Row_of-Operation n
chain_row (Chain' _ first _ row) = (_, row)
chain_row other = (_, end_of-Operation)

abbrev set_row : Expr → (n : Count) × Row_of-Element n
set_row (Set' position _ row) = (_, row)
set_row other = (_, end_of-Element)

abbrev selectors_in : Expr → (n : Count) × Row_of-Selector n
selectors_in (Literal' text position _ row) = (_, row)
selectors_in (Designated' root _ row) = (_, row)
selectors_in (Inherited' position _ root _ row) = (_, row)
selectors_in other = (_, end_of-Selector)

abbrev index_row : Selector → (n : Count) × Row_of-Expr n
index_row (Index' position _ row) = (_, row)
index_row other = (_, end_of-Expr)

abbrev call_row : Selector → (n : Count) × Row_of-Argument n
call_row (Call' _ row) = (_, row)
call_row other = (_, end_of-Argument)

abbrev array_row : TypeDenoter → (n : Count) × Row_of-TypeDenoter n
array_row (Array' position packed _ row _ element) = (_, row)
array_row other = (_, end_of-TypeDenoter)

abbrev record_row : TypeDenoter → (n : Count) × Row_of-Fields n
record_row (Record' position packed _ row) = (_, row)
record_row other = (_, end_of-Fields)

abbrev list_row : Initializer → (n : Count) × Row_of-Initializer n
list_row (ListOf' position _ row) = (_, row)
list_row other = (_, end_of-Initializer)

abbrev record_value_row : Initializer → (n : Count) × Row_of-FieldInitializer n
record_value_row (RecordOf' position _ row) = (_, row)
record_value_row other = (_, end_of-FieldInitializer)

abbrev first_row : Stmt → (n : Count) × Row_of-Stmt n
first_row (Block' _ row) = (_, row)
first_row (CaseElse' e _ bs _ row) = (_, row)
first_row (Repeat' _ row e) = (_, row)
first_row (TryFinally' _ row _ others) = (_, row)
first_row (TryExcept' _ row _ others) = (_, row)
first_row (TryOn' _ row _ others) = (_, row)
first_row (TryOnElse' _ row _ hs _ others) = (_, row)
first_row other = (_, end_of-Stmt)

abbrev second_row : Stmt → (n : Count) × Row_of-Stmt n
second_row (TryFinally' _ row _ others) = (_, others)
second_row (TryExcept' _ row _ others) = (_, others)
second_row (TryOnElse' _ row _ hs _ others) = (_, others)
second_row other = (_, end_of-Stmt)

abbrev branches_in : Stmt → (n : Count) × Row_of-Branch n
branches_in (Case' e _ bs) = (_, bs)
branches_in (CaseElse' e _ bs _ row) = (_, bs)
branches_in other = (_, end_of-Branch)

abbrev handlers_in : Stmt → (n : Count) × Row_of-Handler n
handlers_in (TryOn' _ row _ hs) = (_, hs)
handlers_in (TryOnElse' _ row _ hs _ others) = (_, hs)
handlers_in other = (_, end_of-Handler)

abbrev body_row : Body → (n : Count) × Row_of-Declaration n
body_row (BodyBlock' _ row ss) = (_, row)
body_row other = (_, end_of-Declaration)

pub chain_says : (first : Box Expr Global) (rest : Vec Operation Global) → expr_of (Chain first rest) ≡ chain (expr_of first.value) (operations_of rest.items)
chain_says first rest = ap (chain (expr_of first.value)) (let row = chain_row (Chain first rest) in operation_row-list row.0 row.1 ∙ ap operations_of (items_hidden-the_row-Operation-0 rest))

pub set_says : (position : Position) (parts : Vec Element Global) → expr_of (Set position parts) ≡ set position (elements_of parts.items)
set_says position parts = ap (set position) (let row = set_row (Set position parts) in element_row-list row.0 row.1 ∙ ap elements_of (items_hidden-the_row-Element-1 parts))

pub literal_says : (text : CompactText) (position : Position) (parts : Vec Selector Global) → expr_of (Literal text position parts) ≡ literal text position (selectors_of parts.items)
literal_says text position parts = ap (literal text position) (let row = selectors_in (Literal text position parts) in selector_row-list row.0 row.1 ∙ ap selectors_of (items_hidden-the_row-Selector-2 parts))

pub designated_says : (d : Designator) → expr_of (Designated d) ≡ designated (designator_of d)
designated_says d = ap (λ x. designated (designator (root_of d.root) x)) (let row = selectors_in (Designated d) in selector_row-list row.0 row.1 ∙ ap selectors_of (items_hidden-the_row-Selector-2 d.selectors))

pub inherited_says : (position : Position) (d : Box Designator Global) → expr_of (Inherited position d) ≡ inherited position (designator_of d.value)
inherited_says position d = ap (λ x. inherited position (designator (root_of d.value.root) x)) (let row = selectors_in (Inherited position d) in selector_row-list row.0 row.1 ∙ ap selectors_of (items_hidden-the_row-Selector-2 d.value.selectors))

pub index_says : (position : Position) (parts : Vec Expr Global) → selector_of (Index position parts) ≡ index position (expressions_of parts.items)
index_says position parts = ap (index position) (let row = index_row (Index position parts) in expr_row-list row.0 row.1 ∙ ap expressions_of (items_hidden-the_row-Expr-3 parts))

pub call_says : (parts : Vec Argument Global) → selector_of (Call parts) ≡ call (arguments_of parts.items)
call_says parts = ap call (let row = call_row (Call parts) in argument_row-list row.0 row.1 ∙ ap arguments_of (items_hidden-the_row-Argument-4 parts))

pub array_says : (position : Position) (packed : Bool) (indices : Vec TypeDenoter Global) (element : Box TypeDenoter Global) → denoter_of (Array position packed indices element) ≡ array position packed (denoters_of indices.items) (denoter_of element.value)
array_says position packed indices element = ap (λ x. array position packed x (denoter_of element.value)) (let row = array_row (Array position packed indices element) in denoter_row-list row.0 row.1 ∙ ap denoters_of (items_hidden-the_row-TypeDenoter-0 indices))

pub record_type_says : (position : Position) (packed : Bool) (parts : Vec Fields Global) → denoter_of (Record position packed parts) ≡ record_ position packed (field_lists_of parts.items)
record_type_says position packed parts = ap (record_ position packed) (let row = record_row (Record position packed parts) in field_row-list row.0 row.1 ∙ ap field_lists_of (items_hidden-the_row-Fields-1 parts))

pub list_value_says : (position : Position) (items : Vec Initializer Global) → initial_of (ListOf position items) ≡ list position (initials_of items.items)
list_value_says position items = ap (list position) (let row = list_row (ListOf position items) in initial_row-list row.0 row.1 ∙ ap initials_of (items_hidden-the_row-Initializer-0 items))

pub record_value_says : (position : Position) (parts : Vec FieldInitializer Global) → initial_of (RecordOf position parts) ≡ record_value position (field_initials_of parts.items)
record_value_says position parts = ap (record_value position) (let row = record_value_row (RecordOf position parts) in field_initial_row-list row.0 row.1 ∙ ap field_initials_of (items_hidden-the_row-FieldInitializer-1 parts))

pub block_says : (parts : Vec Stmt Global) → stmt_of (Block parts) ≡ block (stmts_of parts.items)
block_says parts = ap block (let row = first_row (Block parts) in stmt_row-list row.0 row.1 ∙ ap stmts_of (items_hidden-the_row-Stmt-0 parts))

pub case_of_says : (selector : Box Expr Global) (parts : Vec Branch Global) → stmt_of (Case selector parts) ≡ case_of (expr_of selector.value) (branches_of parts.items)
case_of_says selector parts = ap (case_of (expr_of selector.value)) (let row = branches_in (Case selector parts) in branch_row-list row.0 row.1 ∙ ap branches_of (items_hidden-the_row-Branch-1 parts))

pub case_else_says : (selector : Box Expr Global) (parts : Vec Branch Global) (otherwise : Vec Stmt Global) → stmt_of (CaseElse selector parts otherwise) ≡ case_else (expr_of selector.value) (branches_of parts.items) (stmts_of otherwise.items)
case_else_says selector parts otherwise = ap₂ (case_else (expr_of selector.value)) (let row = branches_in (CaseElse selector parts otherwise) in branch_row-list row.0 row.1 ∙ ap branches_of (items_hidden-the_row-Branch-1 parts)) (let row = first_row (CaseElse selector parts otherwise) in stmt_row-list row.0 row.1 ∙ ap stmts_of (items_hidden-the_row-Stmt-0 otherwise))

pub repeat_until_says : (parts : Vec Stmt Global) (condition : Box Expr Global) → stmt_of (Repeat parts condition) ≡ repeat_until (stmts_of parts.items) (expr_of condition.value)
repeat_until_says parts condition = ap (λ x. repeat_until x (expr_of condition.value)) (let row = first_row (Repeat parts condition) in stmt_row-list row.0 row.1 ∙ ap stmts_of (items_hidden-the_row-Stmt-0 parts))

pub try_finally_says : (parts others : Vec Stmt Global) → stmt_of (TryFinally parts others) ≡ try_finally (stmts_of parts.items) (stmts_of others.items)
try_finally_says parts others = ap₂ try_finally (let row = first_row (TryFinally parts others) in stmt_row-list row.0 row.1 ∙ ap stmts_of (items_hidden-the_row-Stmt-0 parts)) (let row = second_row (TryFinally parts others) in stmt_row-list row.0 row.1 ∙ ap stmts_of (items_hidden-the_row-Stmt-0 others))

pub try_except_says : (parts others : Vec Stmt Global) → stmt_of (TryExcept parts others) ≡ try_except (stmts_of parts.items) (stmts_of others.items)
try_except_says parts others = ap₂ try_except (let row = first_row (TryExcept parts others) in stmt_row-list row.0 row.1 ∙ ap stmts_of (items_hidden-the_row-Stmt-0 parts)) (let row = second_row (TryExcept parts others) in stmt_row-list row.0 row.1 ∙ ap stmts_of (items_hidden-the_row-Stmt-0 others))

pub try_on_says : (parts : Vec Stmt Global) (others : Vec Handler Global) → stmt_of (TryOn parts others) ≡ try_on (stmts_of parts.items) (handlers_of others.items)
try_on_says parts others = ap₂ try_on (let row = first_row (TryOn parts others) in stmt_row-list row.0 row.1 ∙ ap stmts_of (items_hidden-the_row-Stmt-0 parts)) (let row = handlers_in (TryOn parts others) in handler_row-list row.0 row.1 ∙ ap handlers_of (items_hidden-the_row-Handler-2 others))

pub try_on_else_says : (parts : Vec Stmt Global) (others : Vec Handler Global) (otherwise : Vec Stmt Global) → stmt_of (TryOnElse parts others otherwise) ≡ try_on_else (stmts_of parts.items) (handlers_of others.items) (stmts_of otherwise.items)
try_on_else_says parts others otherwise = ap₃ try_on_else (let row = first_row (TryOnElse parts others otherwise) in stmt_row-list row.0 row.1 ∙ ap stmts_of (items_hidden-the_row-Stmt-0 parts)) (let row = handlers_in (TryOnElse parts others otherwise) in handler_row-list row.0 row.1 ∙ ap handlers_of (items_hidden-the_row-Handler-2 others)) (let row = second_row (TryOnElse parts others otherwise) in stmt_row-list row.0 row.1 ∙ ap stmts_of (items_hidden-the_row-Stmt-0 otherwise))

pub body_says : (parts : Vec Declaration Global) (body_statements : Vec Stmt Global) → body_of (BodyBlock parts body_statements) ≡ body (declarations_of parts.items) (stmts_of body_statements.items)
body_says parts body_statements = ap (λ x. body x (stmts_of body_statements.items)) (let row = body_row (BodyBlock parts body_statements) in declaration_row-list row.0 row.1 ∙ ap declarations_of (items_hidden-the_row-Declaration-0 parts))

pub list_nodes : ListNodes
list_nodes = record {
  chain_says = chain_says;
  set_says = set_says;
  literal_says = literal_says;
  designated_says = designated_says;
  inherited_says = inherited_says;
  index_says = index_says;
  call_says = call_says;
  array_says = array_says;
  record_type_says = record_type_says;
  list_value_says = list_value_says;
  record_value_says = record_value_says;
  block_says = block_says;
  case_of_says = case_of_says;
  case_else_says = case_else_says;
  repeat_until_says = repeat_until_says;
  try_finally_says = try_finally_says;
  try_except_says = try_except_says;
  try_on_says = try_on_says;
  try_on_else_says = try_on_else_says;
  body_says = body_says;
}
