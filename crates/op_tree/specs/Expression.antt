-- Expressions as values: what an `Expr` says, wherever it lies in memory.
use Rattle.std.specs.Prelude.{ℕ, List}
use Rattle.op_tree.specs.declared.expression.Argument.{Argument as RustArgument}
use Rattle.op_tree.specs.declared.expression.Argument.TheVariants.{Value, Padded', Rounded'}
use Rattle.op_tree.specs.declared.expression.Element.{Element as RustElement}
use Rattle.op_tree.specs.declared.expression.Element.TheVariants.{One, Range'}
use Rattle.op_tree.specs.declared.expression.Expr.{Expr, Row_of-Operation, end_of-Operation, more_of-Operation, Row_of-Element, end_of-Element, more_of-Element, Row_of-Selector, end_of-Selector, more_of-Selector}
use Rattle.op_tree.specs.declared.expression.Expr.TheVariants.{Chain', Prefix', Number, Nil, Set', Literal', Designator', Inherited'}
use Rattle.op_tree.specs.declared.expression.Root.{Root as RustRoot}
use Rattle.op_tree.specs.declared.expression.Root.TheVariants.{Named, String, Bracketed'}
use Rattle.op_tree.specs.declared.expression.Selector.{Selector as RustSelector, Row_of-Expr, end_of-Expr, more_of-Expr, Row_of-Argument, end_of-Argument, more_of-Argument}
use Rattle.op_tree.specs.declared.expression.Selector.TheVariants.{Member, Index', Call'}
use Rattle.op_tree.specs.declared.operator.Operator.{Operator}
use Rattle.op_tree.specs.declared.operator.PrefixOperator.{PrefixOperator}
use Rattle.op_tree.specs.declared.position.Name.{Name}
use Rattle.op_tree.specs.declared.position.Position.{Position}

mutual
  pub data Expression : Type 0 where
    chain : (first : Expression) (rest : Operations) → Expression
    prefixed : (operator : PrefixOperator) (position : Position) (operand : Expression) → Expression
    number : (value : ℕ) (position : Position) → Expression
    nil : (position : Position) → Expression
    set : (position : Position) (elements : Elements) → Expression
    literal : (text : List ℕ) (position : Position) (selectors : Selectors) → Expression
    designated : (designator : Designator) → Expression
    inherited : (position : Position) (designator : Designator) → Expression

  pub data Operations : Type 0 where
    no_operations : Operations
    operation : (operator : Operator) (position : Position) (operand : Expression) (others : Operations) → Operations

  pub data Elements : Type 0 where
    no_elements : Elements
    elements : (first : Element) (others : Elements) → Elements

  pub data Element : Type 0 where
    one : (value : Expression) → Element
    range : (first last : Expression) → Element

  pub data Designator : Type 0 where
    designator : (root : Root) (selectors : Selectors) → Designator

  pub data Root : Type 0 where
    named : (name : Name) → Root
    string : (position : Position) → Root
    bracketed : (position : Position) (inside : Expression) → Root

  pub data Selectors : Type 0 where
    no_selectors : Selectors
    selectors : (first : Selector) (others : Selectors) → Selectors

  pub data Selector : Type 0 where
    member : (name : Name) → Selector
    index : (position : Position) (indices : Expressions) → Selector
    call : (arguments : Arguments) → Selector

  pub data Expressions : Type 0 where
    no_expressions : Expressions
    expressions : (first : Expression) (others : Expressions) → Expressions

  pub data Arguments : Type 0 where
    no_arguments : Arguments
    arguments : (first : Argument) (others : Arguments) → Arguments

  pub data Argument : Type 0 where
    value : (value : Expression) → Argument
    padded : (value width : Expression) → Argument
    rounded : (value width digits : Expression) → Argument

abbrev mutual
  pub expr_of : Expr → Expression
  expr_of (Chain' _ first _ rest) = chain (expr_of first) (operation_row rest)
  expr_of (Prefix' operator position _ operand) = prefixed operator position (expr_of operand)
  expr_of (Number v position) = number v position
  expr_of (Nil position) = nil position
  expr_of (Set' position _ row) = set position (element_row row)
  expr_of (Literal' text position _ row) = literal text position (selector_row row)
  expr_of (Designator' root _ row) = designated (designator (root_of root) (selector_row row))
  expr_of (Inherited' position _ root _ row) = inherited position (designator (root_of root) (selector_row row))

  pub operation_row : {n : _} → Row_of-Operation n → Operations
  operation_row end_of-Operation = no_operations
  operation_row (more_of-Operation operator position operand rest) = operation operator position (expr_of operand) (operation_row rest)

  pub element_row : {n : _} → Row_of-Element n → Elements
  element_row end_of-Element = no_elements
  element_row (more_of-Element e rest) = elements (element_of e) (element_row rest)

  pub element_of : RustElement → Element
  element_of (One e) = one (expr_of e)
  element_of (Range' _ first _ last) = range (expr_of first) (expr_of last)

  pub root_of : RustRoot → Root
  root_of (Named n) = named n
  root_of (String position) = string position
  root_of (Bracketed' position _ inside) = bracketed position (expr_of inside)

  pub selector_row : {n : _} → Row_of-Selector n → Selectors
  selector_row end_of-Selector = no_selectors
  selector_row (more_of-Selector s rest) = selectors (selector_of s) (selector_row rest)

  pub selector_of : RustSelector → Selector
  selector_of (Member n) = member n
  selector_of (Index' position _ row) = index position (expr_row row)
  selector_of (Call' _ row) = call (argument_row row)

  pub expr_row : {n : _} → Row_of-Expr n → Expressions
  expr_row end_of-Expr = no_expressions
  expr_row (more_of-Expr e rest) = expressions (expr_of e) (expr_row rest)

  pub argument_row : {n : _} → Row_of-Argument n → Arguments
  argument_row end_of-Argument = no_arguments
  argument_row (more_of-Argument a rest) = arguments (argument_of a) (argument_row rest)

  pub argument_of : RustArgument → Argument
  argument_of (Value e) = value (expr_of e)
  argument_of (Padded' _ e _ width) = padded (expr_of e) (expr_of width)
  argument_of (Rounded' _ e _ width _ digits) = rounded (expr_of e) (expr_of width) (expr_of digits)
