-- The grammar of expressions. A derivation leads from the tokens before a part to those behind it. The number before the
-- tree is the depth that is left: how many counted parts may still stand in one another.
use Rattle.std.specs.Prelude.{◌≡◌, ℕ, suc, List, ◌∷◌, Some}
use Rattle.op_scan.specs.declared.token.TokenKind.{TokenKind}
use Rattle.op_scan.specs.declared.token.TokenKind.TheVariants as kind
use Rattle.op_tree.specs.Expression.{Expression, chain, prefixed, number, nil, set, literal, designated, inherited, Operations, no_operations, operation, Elements, no_elements, elements, Element, one, range, Designator, designator, Root, named, string, bracketed, Selectors, no_selectors, selectors, Selector, member, index, call, Expressions, no_expressions, expressions, Arguments, no_arguments, arguments, Argument, value, padded, rounded}
use Rattle.op_tree.specs.Operator.{operator_of, prefix_operator_of, level_of}
use Rattle.op_tree.specs.Terminal.{Terminal, ◌at◌, name}
use Rattle.op_tree.specs.declared.operator.Level.{Level}
use Rattle.op_tree.specs.declared.operator.Level.TheVariants.{Relational, Additive, Multiplicative}
use Rattle.op_tree.specs.declared.operator.Operator.{Operator}
use Rattle.op_tree.specs.declared.operator.PrefixOperator.{PrefixOperator}
use Rattle.op_tree.specs.declared.position.Position.{Position}

-- an operand and what follows it, where no operation is the operand itself
abbrev pub chain_of : Expression → Operations → Expression
chain_of first no_operations = first
chain_of first (operation operator position operand others) = chain first (operation operator position operand others)

mutual
  -- expr, simple or term = operand {operator operand}
  pub data IsChain : Level → ℕ → Expression → List Terminal → List Terminal → Type 0 where
    is_chain : {l : Level} {d : ℕ} {e first : Expression} {rest : Operations} {ks m r : List Terminal} → IsOperand l d first ks m → AreOperations l d rest m r → e ≡ chain_of first rest → IsChain l d e ks r

  -- The operands of an expr are simple, those of a simple are terms, those of a term are factors.
  pub data IsOperand : Level → ℕ → Expression → List Terminal → List Terminal → Type 0 where
    is_simple : {d : ℕ} {e : Expression} {ks r : List Terminal} → IsChain Additive d e ks r → IsOperand Relational d e ks r
    is_term : {d : ℕ} {e : Expression} {ks r : List Terminal} → IsChain Multiplicative d e ks r → IsOperand Additive d e ks r
    is_factor : {d : ℕ} {e : Expression} {ks r : List Terminal} → IsFactor d e ks r → IsOperand Multiplicative d e ks r

  -- {operator operand}
  pub data AreOperations : Level → ℕ → Operations → List Terminal → List Terminal → Type 0 where
    are_no_operations : {l : Level} {d : ℕ} {ks : List Terminal} → AreOperations l d no_operations ks ks
    are_operations : {l : Level} {d : ℕ} {k : TokenKind} {o : Operator} {p : Position} {e : Expression} {os : Operations} {ks m r : List Terminal} → operator_of k ≡ Some o → level_of o ≡ l → IsOperand l d e ks m → AreOperations l d os m r → AreOperations l d (operation o p e os) (k at p ∷ ks) r

  -- factor = ("not" | "+" | "-") factor | number | "nil" | "[" [elems] "]" | string {sel} | ["inherited"] desig
  pub data IsFactor : ℕ → Expression → List Terminal → List Terminal → Type 0 where
    is_prefixed : {d : ℕ} {k : TokenKind} {o : PrefixOperator} {p : Position} {e : Expression} {ks r : List Terminal} → prefix_operator_of k ≡ Some o → IsFactor d e ks r → IsFactor (suc d) (prefixed o p e) (k at p ∷ ks) r
    is_number : {d n : ℕ} {p : Position} {r : List Terminal} → IsFactor d (number n p) (kind.Number n at p ∷ r) r
    is_nil : {d : ℕ} {p : Position} {r : List Terminal} → IsFactor d (nil p) (kind.Nil at p ∷ r) r
    is_empty_set : {d : ℕ} {p q : Position} {r : List Terminal} → IsFactor (suc d) (set p no_elements) (kind.OpenBracket at p ∷ kind.CloseBracket at q ∷ r) r
    is_set : {d : ℕ} {p q : Position} {es : Elements} {ks r : List Terminal} → AreElements d es ks (kind.CloseBracket at q ∷ r) → IsFactor (suc d) (set p es) (kind.OpenBracket at p ∷ ks) r
    is_literal : {d : ℕ} {text : List ℕ} {p : Position} {ss : Selectors} {ks r : List Terminal} → AreSelectors d ss ks r → IsFactor d (literal text p ss) (kind.CharacterString text at p ∷ ks) r
    is_designated : {d : ℕ} {g : Designator} {ks r : List Terminal} → IsDesignator d g ks r → IsFactor d (designated g) ks r
    is_inherited : {d : ℕ} {p : Position} {g : Designator} {ks r : List Terminal} → IsDesignator d g ks r → IsFactor d (inherited p g) (kind.Inherited at p ∷ ks) r

  -- desig = (id | "string" | "(" expr ")") {sel}
  pub data IsDesignator : ℕ → Designator → List Terminal → List Terminal → Type 0 where
    is_designator : {d : ℕ} {root : Root} {ss : Selectors} {ks m r : List Terminal} → IsRoot d root ks m → AreSelectors d ss m r → IsDesignator d (designator root ss) ks r

  pub data IsRoot : ℕ → Root → List Terminal → List Terminal → Type 0 where
    is_named : {d : ℕ} {text : List ℕ} {p : Position} {r : List Terminal} → IsRoot d (named (name text p)) (kind.Identifier text at p ∷ r) r
    is_string : {d : ℕ} {p : Position} {r : List Terminal} → IsRoot d (string p) (kind.String at p ∷ r) r
    is_bracketed : {d : ℕ} {p q : Position} {e : Expression} {ks r : List Terminal} → IsChain Relational d e ks (kind.CloseParenthesis at q ∷ r) → IsRoot (suc d) (bracketed p e) (kind.OpenParenthesis at p ∷ ks) r

  -- {sel}
  pub data AreSelectors : ℕ → Selectors → List Terminal → List Terminal → Type 0 where
    are_no_selectors : {d : ℕ} {ks : List Terminal} → AreSelectors d no_selectors ks ks
    are_selectors : {d : ℕ} {s : Selector} {ss : Selectors} {ks m r : List Terminal} → IsSelector d s ks m → AreSelectors d ss m r → AreSelectors d (selectors s ss) ks r

  -- sel = "." id | "[" expr {"," expr} "]" | "(" [arg {"," arg}] ")"
  pub data IsSelector : ℕ → Selector → List Terminal → List Terminal → Type 0 where
    is_member : {d : ℕ} {text : List ℕ} {p q : Position} {r : List Terminal} → IsSelector d (member (name text p)) (kind.Dot at q ∷ kind.Identifier text at p ∷ r) r
    is_index : {d : ℕ} {p q : Position} {es : Expressions} {ks r : List Terminal} → AreExpressions d es ks (kind.CloseBracket at q ∷ r) → IsSelector (suc d) (index p es) (kind.OpenBracket at p ∷ ks) r
    is_empty_call : {d : ℕ} {p q : Position} {r : List Terminal} → IsSelector (suc d) (call no_arguments) (kind.OpenParenthesis at p ∷ kind.CloseParenthesis at q ∷ r) r
    is_call : {d : ℕ} {p q : Position} {args : Arguments} {ks r : List Terminal} → AreArguments d args ks (kind.CloseParenthesis at q ∷ r) → IsSelector (suc d) (call args) (kind.OpenParenthesis at p ∷ ks) r

  -- expr {"," expr}
  pub data AreExpressions : ℕ → Expressions → List Terminal → List Terminal → Type 0 where
    are_one_expression : {d : ℕ} {e : Expression} {ks r : List Terminal} → IsChain Relational d e ks r → AreExpressions d (expressions e no_expressions) ks r
    are_expressions : {d : ℕ} {e : Expression} {es : Expressions} {p : Position} {ks m r : List Terminal} → IsChain Relational d e ks (kind.Comma at p ∷ m) → AreExpressions d es m r → AreExpressions d (expressions e es) ks r

  -- elems = elem {"," elem}
  pub data AreElements : ℕ → Elements → List Terminal → List Terminal → Type 0 where
    are_one_element : {d : ℕ} {e : Element} {ks r : List Terminal} → IsElement d e ks r → AreElements d (elements e no_elements) ks r
    are_elements : {d : ℕ} {e : Element} {es : Elements} {p : Position} {ks m r : List Terminal} → IsElement d e ks (kind.Comma at p ∷ m) → AreElements d es m r → AreElements d (elements e es) ks r

  -- elem = expr [".." expr]
  pub data IsElement : ℕ → Element → List Terminal → List Terminal → Type 0 where
    is_one : {d : ℕ} {e : Expression} {ks r : List Terminal} → IsChain Relational d e ks r → IsElement d (one e) ks r
    is_range : {d : ℕ} {first last : Expression} {p : Position} {ks m r : List Terminal} → IsChain Relational d first ks (kind.DotDot at p ∷ m) → IsChain Relational d last m r → IsElement d (range first last) ks r

  -- arg {"," arg}
  pub data AreArguments : ℕ → Arguments → List Terminal → List Terminal → Type 0 where
    are_one_argument : {d : ℕ} {a : Argument} {ks r : List Terminal} → IsArgument d a ks r → AreArguments d (arguments a no_arguments) ks r
    are_arguments : {d : ℕ} {a : Argument} {args : Arguments} {p : Position} {ks m r : List Terminal} → IsArgument d a ks (kind.Comma at p ∷ m) → AreArguments d args m r → AreArguments d (arguments a args) ks r

  -- arg = expr [":" expr [":" expr]]
  pub data IsArgument : ℕ → Argument → List Terminal → List Terminal → Type 0 where
    is_value : {d : ℕ} {e : Expression} {ks r : List Terminal} → IsChain Relational d e ks r → IsArgument d (value e) ks r
    is_padded : {d : ℕ} {e width : Expression} {p : Position} {ks m r : List Terminal} → IsChain Relational d e ks (kind.Colon at p ∷ m) → IsChain Relational d width m r → IsArgument d (padded e width) ks r
    is_rounded : {d : ℕ} {e width digits : Expression} {p q : Position} {ks m n r : List Terminal} → IsChain Relational d e ks (kind.Colon at p ∷ m) → IsChain Relational d width m (kind.Colon at q ∷ n) → IsChain Relational d digits n r → IsArgument d (rounded e width digits) ks r

-- expr = simple {("=" | "<>" | "<" | ">" | "<=" | ">=" | "in" | "is") simple}
abbrev pub IsExpr : ℕ → Expression → List Terminal → List Terminal → Type 0
IsExpr = IsChain Relational

-- simple = term {("+" | "-" | "or" | "xor") term}
abbrev pub IsSimple : ℕ → Expression → List Terminal → List Terminal → Type 0
IsSimple = IsChain Additive

-- term = factor {("*" | "/" | "div" | "mod" | "and" | "shl" | "shr" | "as") factor}
abbrev pub IsTerm : ℕ → Expression → List Terminal → List Terminal → Type 0
IsTerm = IsChain Multiplicative
