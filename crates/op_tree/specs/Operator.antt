-- Operators (Free Pascal Reference Guide, "Operators").
use Rattle.std.specs.Prelude.{Option, Some, None}
use Rattle.op_scan.specs.declared.token.TokenKind.{TokenKind}
use Rattle.op_scan.specs.declared.token.TokenKind.TheVariants as kind
use Rattle.op_tree.specs.declared.operator.Level.{Level}
use Rattle.op_tree.specs.declared.operator.Level.TheVariants.{Relational, Additive, Multiplicative}
use Rattle.op_tree.specs.declared.operator.Operator.{Operator}
use Rattle.op_tree.specs.declared.operator.Operator.TheVariants as operator
use Rattle.op_tree.specs.declared.operator.PrefixOperator.{PrefixOperator}
use Rattle.op_tree.specs.declared.operator.PrefixOperator.TheVariants as prefix

-- the operator that a token is between two operands
abbrev pub operator_of : TokenKind → Option Operator
operator_of kind.Equal = Some operator.Equal
operator_of kind.NotEqual = Some operator.NotEqual
operator_of kind.Less = Some operator.Less
operator_of kind.Greater = Some operator.Greater
operator_of kind.LessEqual = Some operator.LessEqual
operator_of kind.GreaterEqual = Some operator.GreaterEqual
operator_of kind.In_ = Some operator.In_
operator_of kind.Is = Some operator.Is
operator_of kind.Plus = Some operator.Add
operator_of kind.Minus = Some operator.Subtract
operator_of kind.Or = Some operator.Or
operator_of kind.Xor = Some operator.Xor
operator_of kind.Star = Some operator.Multiply
operator_of kind.Slash = Some operator.Slash
operator_of kind.Div = Some operator.Div
operator_of kind.Mod_ = Some operator.Mod_
operator_of kind.And = Some operator.And
operator_of kind.Shl = Some operator.Shl
operator_of kind.Shr = Some operator.Shr
operator_of kind.As_ = Some operator.As_
operator_of other = None

-- the operator that a token is before an operand
abbrev pub prefix_operator_of : TokenKind → Option PrefixOperator
prefix_operator_of kind.Not = Some prefix.Not
prefix_operator_of kind.Plus = Some prefix.Plus
prefix_operator_of kind.Minus = Some prefix.Minus
prefix_operator_of other = None

-- how tightly an operator binds
abbrev pub level_of : Operator → Level
level_of operator.Equal = Relational
level_of operator.NotEqual = Relational
level_of operator.Less = Relational
level_of operator.Greater = Relational
level_of operator.LessEqual = Relational
level_of operator.GreaterEqual = Relational
level_of operator.In_ = Relational
level_of operator.Is = Relational
level_of operator.Add = Additive
level_of operator.Subtract = Additive
level_of operator.Or = Additive
level_of operator.Xor = Additive
level_of operator.Multiply = Multiplicative
level_of operator.Slash = Multiplicative
level_of operator.Div = Multiplicative
level_of operator.Mod_ = Multiplicative
level_of operator.And = Multiplicative
level_of operator.Shl = Multiplicative
level_of operator.Shr = Multiplicative
level_of operator.As_ = Multiplicative
