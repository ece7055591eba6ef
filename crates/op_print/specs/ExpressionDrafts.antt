-- The print of expressions, as drafts.
use Rattle.std.specs.Prelude.{List, [], ◌∷◌}
use Rattle.op_print.specs.Page.{Draft, nothing, word, tight, word_at, tight_at, ◌&◌, separated}
use Rattle.op_scan.specs.declared.token.TokenKind.{TokenKind}
use Rattle.op_scan.specs.declared.token.TokenKind.TheVariants as kind
use Rattle.op_tree.specs.Expression.{Expression, chain, prefixed, number, nil, set, literal, designated, inherited, Operations, no_operations, operation, Elements, no_elements, elements, Element, one, range, Designator, designator, Root, named, string, bracketed, Selectors, no_selectors, selectors, Selector, member, index, call, Expressions, no_expressions, expressions, Arguments, no_arguments, arguments, Argument, value, padded, rounded}
use Rattle.op_tree.specs.declared.operator.Operator.{Operator}
use Rattle.op_tree.specs.declared.operator.Operator.TheVariants as operator
use Rattle.op_tree.specs.declared.operator.PrefixOperator.{PrefixOperator}
use Rattle.op_tree.specs.declared.operator.PrefixOperator.TheVariants as prefix

abbrev pub operator_kind : Operator → TokenKind
operator_kind operator.Equal = kind.Equal
operator_kind operator.NotEqual = kind.NotEqual
operator_kind operator.Less = kind.Less
operator_kind operator.Greater = kind.Greater
operator_kind operator.LessEqual = kind.LessEqual
operator_kind operator.GreaterEqual = kind.GreaterEqual
operator_kind operator.In_ = kind.In_
operator_kind operator.Is = kind.Is
operator_kind operator.Add = kind.Plus
operator_kind operator.Subtract = kind.Minus
operator_kind operator.Or = kind.Or
operator_kind operator.Xor = kind.Xor
operator_kind operator.Multiply = kind.Star
operator_kind operator.Slash = kind.Slash
operator_kind operator.Div = kind.Div
operator_kind operator.Mod_ = kind.Mod_
operator_kind operator.And = kind.And
operator_kind operator.Shl = kind.Shl
operator_kind operator.Shr = kind.Shr
operator_kind operator.As_ = kind.As_

abbrev pub prefix_kind : PrefixOperator → TokenKind
prefix_kind prefix.Not = kind.Not
prefix_kind prefix.Plus = kind.Plus
prefix_kind prefix.Minus = kind.Minus

abbrev mutual
  pub expression_draft : Expression → Draft
  expression_draft (chain first rest) = expression_draft first & operations_draft rest
  expression_draft (prefixed o p e) = word_at p.switches (prefix_kind o) & expression_draft e
  expression_draft (number n p) = word_at p.switches (kind.Number n)
  expression_draft (nil p) = word_at p.switches kind.Nil
  expression_draft (set p es) = word_at p.switches kind.OpenBracket & separated kind.Comma (element_drafts es) & tight kind.CloseBracket
  expression_draft (literal text p ss) = word_at p.switches (kind.CharacterString text) & selectors_draft ss
  expression_draft (designated g) = designator_draft g
  expression_draft (inherited p g) = word_at p.switches kind.Inherited & designator_draft g

  pub operations_draft : Operations → Draft
  operations_draft no_operations = nothing
  operations_draft (operation o p e os) = word_at p.switches (operator_kind o) & expression_draft e & operations_draft os

  pub designator_draft : Designator → Draft
  designator_draft (designator root ss) = root_draft root & selectors_draft ss

  pub root_draft : Root → Draft
  root_draft (named n) = word_at n.position.switches (kind.Identifier n.text)
  root_draft (string p) = word_at p.switches kind.String
  root_draft (bracketed p e) = word_at p.switches kind.OpenParenthesis & expression_draft e & tight kind.CloseParenthesis

  pub selectors_draft : Selectors → Draft
  selectors_draft no_selectors = nothing
  selectors_draft (selectors s ss) = selector_draft s & selectors_draft ss

  pub selector_draft : Selector → Draft
  selector_draft (member n) = tight kind.Dot & tight_at n.position.switches (kind.Identifier n.text)
  selector_draft (index p es) = tight_at p.switches kind.OpenBracket & separated kind.Comma (expression_drafts es) & tight kind.CloseBracket
  selector_draft (call args) = tight kind.OpenParenthesis & separated kind.Comma (argument_drafts args) & tight kind.CloseParenthesis

  pub expression_drafts : Expressions → List Draft
  expression_drafts no_expressions = []
  expression_drafts (expressions e es) = expression_draft e ∷ expression_drafts es

  pub element_drafts : Elements → List Draft
  element_drafts no_elements = []
  element_drafts (elements e es) = element_draft e ∷ element_drafts es

  pub element_draft : Element → Draft
  element_draft (one e) = expression_draft e
  element_draft (range first last) = expression_draft first & word kind.DotDot & expression_draft last

  pub argument_drafts : Arguments → List Draft
  argument_drafts no_arguments = []
  argument_drafts (arguments a args) = argument_draft a ∷ argument_drafts args

  pub argument_draft : Argument → Draft
  argument_draft (value e) = expression_draft e
  argument_draft (padded e width) = expression_draft e & tight kind.Colon & expression_draft width
  argument_draft (rounded e width digits) = expression_draft e & tight kind.Colon & expression_draft width & tight kind.Colon & expression_draft digits
