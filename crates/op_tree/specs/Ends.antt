-- What may not follow a part that is whole: where nothing that follows would belong to it, the part is no shorter than it
-- could be.
use Rattle.std.specs.Prelude.{◌≡◌, Bool, true, false, List, [], ◌∷◌, Option, Some, None}
use Rattle.op_scan.specs.declared.token.TokenKind.{TokenKind}
use Rattle.op_scan.specs.declared.token.TokenKind.TheVariants as kind
use Rattle.op_tree.specs.Expression.{Expression, chain, prefixed, number, nil, set, literal, designated, inherited, Operations, no_operations, operation}
use Rattle.op_tree.specs.HeadingGrammar.{AreDirectives}
use Rattle.op_tree.specs.Operator.{operator_of, level_of}
use Rattle.op_tree.specs.Statement.{Statement, empty, block, if_then, if_else, case_of, case_else, while_do, repeat_until, for_to, for_in, try_finally, try_except, try_on, try_on_else, raise, reraise, inherited as alone, inherited_call, call, assign}
use Rattle.op_tree.specs.Terminal.{Terminal}
use Rattle.op_tree.specs.declared.operator.Level.{Level}
use Rattle.op_tree.specs.declared.operator.Level.TheVariants.{Relational, Additive, Multiplicative}
use Rattle.op_tree.specs.declared.heading.Directive.{Directive}
use Rattle.op_tree.specs.declared.operator.Operator.{Operator}

-- the first token, if there is one, is none of these kinds
abbrev pub IsNot : (TokenKind → Bool) → List Terminal → Type 0
IsNot test [] = Unit {0}
IsNot test (t ∷ ts) = test t.kind ≡ false

-- the second binds at least as tightly as the first
abbrev pub at_least : Level → Level → Bool
at_least Relational l = true
at_least Additive Relational = false
at_least Additive l = true
at_least Multiplicative Multiplicative = true
at_least Multiplicative l = false

abbrev pub operator_at_least : Level → Option Operator → Bool
operator_at_least l None = false
operator_at_least l (Some o) = at_least l (level_of o)

-- the kind is an operator that binds at least as tightly
abbrev pub binds : Level → TokenKind → Bool
binds l k = operator_at_least l (operator_of k)

-- the kind begins a selector
abbrev pub begins_selector : TokenKind → Bool
begins_selector kind.Dot = true
begins_selector kind.OpenBracket = true
begins_selector kind.OpenParenthesis = true
begins_selector other = false

-- nothing that follows would be selected of the last operand
abbrev mutual
  pub EndsOperand : Expression → List Terminal → Type 0
  EndsOperand (chain first rest) r = EndOperations rest r
  EndsOperand (prefixed o p e) r = EndsOperand e r
  EndsOperand (number n p) r = Unit {0}
  EndsOperand (nil p) r = Unit {0}
  EndsOperand (set p es) r = Unit {0}
  EndsOperand (literal text p ss) r = IsNot begins_selector r
  EndsOperand (designated g) r = IsNot begins_selector r
  EndsOperand (inherited p g) r = IsNot begins_selector r

  pub EndOperations : Operations → List Terminal → Type 0
  EndOperations no_operations r = Unit {0}
  EndOperations (operation o p e no_operations) r = EndsOperand e r
  EndOperations (operation o p e (operation o1 p1 e1 os)) r = EndOperations (operation o1 p1 e1 os) r

-- nothing that follows would belong to the expr, simple or term
abbrev pub EndsChain : Level → Expression → List Terminal → Type 0
EndsChain l e r = IsNot (binds l) r × EndsOperand e r

-- nothing that follows would belong to the expression
abbrev pub EndsExpr : Expression → List Terminal → Type 0
EndsExpr = EndsChain Relational

-- the kind begins a designator
abbrev pub begins_designator : TokenKind → Bool
begins_designator (kind.Identifier text) = true
begins_designator kind.String = true
begins_designator kind.OpenParenthesis = true
begins_designator other = false

-- the kind begins an expression
abbrev pub begins_expression : TokenKind → Bool
begins_expression (kind.Identifier text) = true
begins_expression kind.String = true
begins_expression kind.OpenParenthesis = true
begins_expression (kind.Number n) = true
begins_expression kind.Nil = true
begins_expression kind.OpenBracket = true
begins_expression (kind.CharacterString text) = true
begins_expression kind.Inherited = true
begins_expression kind.Not = true
begins_expression kind.Plus = true
begins_expression kind.Minus = true
begins_expression other = false

-- the kind begins a statement that is not empty
abbrev pub begins_statement : TokenKind → Bool
begins_statement kind.Begin = true
begins_statement kind.If_ = true
begins_statement kind.Case = true
begins_statement kind.While_ = true
begins_statement kind.Repeat = true
begins_statement kind.For_ = true
begins_statement kind.Try_ = true
begins_statement kind.Raise = true
begins_statement kind.Inherited = true
begins_statement (kind.Identifier text) = true
begins_statement kind.String = true
begins_statement kind.OpenParenthesis = true
begins_statement other = false

abbrev pub is_assign : TokenKind → Bool
is_assign kind.Assign = true
is_assign other = false

abbrev pub is_else : TokenKind → Bool
is_else kind.Else_ = true
is_else other = false

-- nothing that follows would belong to the statement
abbrev pub EndsStatement : Statement → List Terminal → Type 0
EndsStatement empty r = IsNot begins_statement r
EndsStatement (block ss) r = Unit {0}
EndsStatement (if_then c s) r = EndsStatement s r × IsNot is_else r
EndsStatement (if_else c s t) r = EndsStatement t r
EndsStatement (case_of e bs) r = Unit {0}
EndsStatement (case_else e bs ss) r = Unit {0}
EndsStatement (while_do c s) r = EndsStatement s r
EndsStatement (repeat_until ss c) r = EndsExpr c r
EndsStatement (for_to n first way last s) r = EndsStatement s r
EndsStatement (for_in n e s) r = EndsStatement s r
EndsStatement (try_finally ss ts) r = Unit {0}
EndsStatement (try_except ss ts) r = Unit {0}
EndsStatement (try_on ss hs) r = Unit {0}
EndsStatement (try_on_else ss hs ts) r = Unit {0}
EndsStatement (raise p e) r = EndsExpr e r
EndsStatement (reraise p) r = IsNot begins_expression r
EndsStatement (alone p) r = IsNot begins_designator r
EndsStatement (inherited_call p g) r = IsNot begins_selector r
EndsStatement (call g) r = IsNot begins_selector r × IsNot is_assign r
EndsStatement (assign g p e) r = EndsExpr e r

-- what follows belongs to no expression
abbrev pub Stops : List Terminal → Type 0
Stops r = IsNot (binds Relational) r × IsNot begins_selector r

abbrev pub is_dot_dot : TokenKind → Bool
is_dot_dot kind.DotDot = true
is_dot_dot other = false

-- what follows belongs to no type: neither would it make a bound of a subrange of it
pub record StopsDenoter (r : List Terminal) : Type 0 where
  pub operator : IsNot (binds Additive) r
  pub selector : IsNot begins_selector r
  pub range : IsNot is_dot_dot r

-- no directive stands in front
abbrev pub NoDirective : List Terminal → Type 0
NoDirective r = (w : Directive) (ws : List Directive) (z : List Terminal) → AreDirectives (w ∷ ws) r z → ⊥

-- the kind begins a declaration, or goes on with a list of constants, types or variables
abbrev pub continues_declarations : TokenKind → Bool
continues_declarations kind.Const_ = true
continues_declarations kind.Type_ = true
continues_declarations kind.Var = true
continues_declarations kind.Procedure = true
continues_declarations kind.Function = true
continues_declarations kind.Constructor = true
continues_declarations kind.Destructor = true
continues_declarations (kind.Identifier text) = true
continues_declarations other = false

-- nothing that follows would belong to the declarations
abbrev pub EndsDeclarations : List Terminal → Type 0
EndsDeclarations r = IsNot continues_declarations r
