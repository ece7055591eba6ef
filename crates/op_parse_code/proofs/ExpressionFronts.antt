-- The parts of expressions keep their derivations, whatever stands behind them.
use Rattle.std.proofs.Common.{ℕ, List, ◌∷◌, refl, ap, ◌∙◌}
use Rattle.op_parse_code.proofs.Cuts.{cut_none, cut_one, cut_join, Front}
use Rattle.op_scan.specs.declared.token.TokenKind.TheVariants as kind
use Rattle.op_tree.specs.Expression.{Expression, Operations, Elements, Element, Designator, Root, Selectors, Selector, Expressions, Arguments, Argument}
use Rattle.op_tree.specs.ExpressionGrammar.{IsChain, is_chain, IsOperand, is_simple, is_term, is_factor, AreOperations, are_no_operations, are_operations, IsFactor, is_prefixed, is_number, is_nil, is_empty_set, is_set, is_literal, is_designated, is_inherited, IsDesignator, is_designator, IsRoot, is_named, is_string, is_bracketed, AreSelectors, are_no_selectors, are_selectors, IsSelector, is_member, is_index, is_empty_call, is_call, AreExpressions, are_one_expression, are_expressions, AreElements, are_one_element, are_elements, IsElement, is_one, is_range, AreArguments, are_one_argument, are_arguments, IsArgument, is_value, is_padded, is_rounded}
use Rattle.op_tree.specs.Terminal.{Terminal, ◌at◌}
use Rattle.op_tree.specs.declared.operator.Level.{Level}

mutual
  pub front_chain : {l : Level} {d : ℕ} {e : Expression} {ks r : List Terminal} → IsChain l d e ks r → Front (IsChain l d e) ks r
  front_chain (is_chain a os q) =
      let s = front_operand a in
      let u = front_operations os in
      (λ x. s.0 (u.0 x), cut_join s.1 u.1, s.2 ∙ ap s.0 u.2, λ x. is_chain (s.3 (u.0 x)) (u.3 x) q)

  pub front_operand : {l : Level} {d : ℕ} {e : Expression} {ks r : List Terminal} → IsOperand l d e ks r → Front (IsOperand l d e) ks r
  front_operand (is_simple f) = let s = front_chain f in (s.0, s.1, s.2, λ x. is_simple (s.3 x))
  front_operand (is_term f) = let s = front_chain f in (s.0, s.1, s.2, λ x. is_term (s.3 x))
  front_operand (is_factor f) = let s = front_factor f in (s.0, s.1, s.2, λ x. is_factor (s.3 x))

  pub front_operations : {l : Level} {d : ℕ} {os : Operations} {ks r : List Terminal} → AreOperations l d os ks r → Front (AreOperations l d os) ks r
  front_operations are_no_operations = (λ x. x, cut_none, refl, λ x. are_no_operations)
  front_operations (are_operations {k = k} {p = p} h q a os) =
      let s = front_operand a in
      let u = front_operations os in
      (λ x. k at p ∷ s.0 (u.0 x), cut_one (k at p) (cut_join s.1 u.1), ap (λ z. k at p ∷ z) (s.2 ∙ ap s.0 u.2), λ x. are_operations h q (s.3 (u.0 x)) (u.3 x))

  pub front_factor : {d : ℕ} {e : Expression} {ks r : List Terminal} → IsFactor d e ks r → Front (IsFactor d e) ks r
  front_factor (is_prefixed {k = k} {p = p} h f) =
      let s = front_factor f in
      (λ x. k at p ∷ s.0 x, cut_one (k at p) s.1, ap (λ z. k at p ∷ z) s.2, λ x. is_prefixed h (s.3 x))
  front_factor (is_number {n = n} {p = p}) = (λ x. kind.Number n at p ∷ x, cut_one (kind.Number n at p) cut_none, refl, λ x. is_number)
  front_factor (is_nil {p = p}) = (λ x. kind.Nil at p ∷ x, cut_one (kind.Nil at p) cut_none, refl, λ x. is_nil)
  front_factor (is_empty_set {p = p} {q = q}) = (λ x. kind.OpenBracket at p ∷ kind.CloseBracket at q ∷ x, cut_one (kind.OpenBracket at p) (cut_one (kind.CloseBracket at q) cut_none), refl, λ x. is_empty_set)
  front_factor (is_set {p = p} {q = q} es) =
      let s = front_elements es in
      (λ x. kind.OpenBracket at p ∷ s.0 (kind.CloseBracket at q ∷ x), cut_one (kind.OpenBracket at p) (cut_join s.1 (cut_one (kind.CloseBracket at q) cut_none)), ap (λ z. kind.OpenBracket at p ∷ z) s.2, λ x. is_set (s.3 (kind.CloseBracket at q ∷ x)))
  front_factor (is_literal {text = text} {p = p} ss) =
      let s = front_selectors ss in
      (λ x. kind.CharacterString text at p ∷ s.0 x, cut_one (kind.CharacterString text at p) s.1, ap (λ z. kind.CharacterString text at p ∷ z) s.2, λ x. is_literal (s.3 x))
  front_factor (is_designated g) = let s = front_designator g in (s.0, s.1, s.2, λ x. is_designated (s.3 x))
  front_factor (is_inherited {p = p} g) =
      let s = front_designator g in
      (λ x. kind.Inherited at p ∷ s.0 x, cut_one (kind.Inherited at p) s.1, ap (λ z. kind.Inherited at p ∷ z) s.2, λ x. is_inherited (s.3 x))

  pub front_designator : {d : ℕ} {g : Designator} {ks r : List Terminal} → IsDesignator d g ks r → Front (IsDesignator d g) ks r
  front_designator (is_designator root ss) =
      let s = front_root root in
      let u = front_selectors ss in
      (λ x. s.0 (u.0 x), cut_join s.1 u.1, s.2 ∙ ap s.0 u.2, λ x. is_designator (s.3 (u.0 x)) (u.3 x))

  pub front_root : {d : ℕ} {g : Root} {ks r : List Terminal} → IsRoot d g ks r → Front (IsRoot d g) ks r
  front_root (is_named {text = text} {p = p}) = (λ x. kind.Identifier text at p ∷ x, cut_one (kind.Identifier text at p) cut_none, refl, λ x. is_named)
  front_root (is_string {p = p}) = (λ x. kind.String at p ∷ x, cut_one (kind.String at p) cut_none, refl, λ x. is_string)
  front_root (is_bracketed {p = p} {q = q} f) =
      let s = front_chain f in
      (λ x. kind.OpenParenthesis at p ∷ s.0 (kind.CloseParenthesis at q ∷ x), cut_one (kind.OpenParenthesis at p) (cut_join s.1 (cut_one (kind.CloseParenthesis at q) cut_none)), ap (λ z. kind.OpenParenthesis at p ∷ z) s.2, λ x. is_bracketed (s.3 (kind.CloseParenthesis at q ∷ x)))

  pub front_selectors : {d : ℕ} {ss : Selectors} {ks r : List Terminal} → AreSelectors d ss ks r → Front (AreSelectors d ss) ks r
  front_selectors are_no_selectors = (λ x. x, cut_none, refl, λ x. are_no_selectors)
  front_selectors (are_selectors one ss) =
      let s = front_selector one in
      let u = front_selectors ss in
      (λ x. s.0 (u.0 x), cut_join s.1 u.1, s.2 ∙ ap s.0 u.2, λ x. are_selectors (s.3 (u.0 x)) (u.3 x))

  pub front_selector : {d : ℕ} {s : Selector} {ks r : List Terminal} → IsSelector d s ks r → Front (IsSelector d s) ks r
  front_selector (is_member {text = text} {p = p} {q = q}) = (λ x. kind.Dot at q ∷ kind.Identifier text at p ∷ x, cut_one (kind.Dot at q) (cut_one (kind.Identifier text at p) cut_none), refl, λ x. is_member)
  front_selector (is_index {p = p} {q = q} es) =
      let s = front_expressions es in
      (λ x. kind.OpenBracket at p ∷ s.0 (kind.CloseBracket at q ∷ x), cut_one (kind.OpenBracket at p) (cut_join s.1 (cut_one (kind.CloseBracket at q) cut_none)), ap (λ z. kind.OpenBracket at p ∷ z) s.2, λ x. is_index (s.3 (kind.CloseBracket at q ∷ x)))
  front_selector (is_empty_call {p = p} {q = q}) = (λ x. kind.OpenParenthesis at p ∷ kind.CloseParenthesis at q ∷ x, cut_one (kind.OpenParenthesis at p) (cut_one (kind.CloseParenthesis at q) cut_none), refl, λ x. is_empty_call)
  front_selector (is_call {p = p} {q = q} args) =
      let s = front_arguments args in
      (λ x. kind.OpenParenthesis at p ∷ s.0 (kind.CloseParenthesis at q ∷ x), cut_one (kind.OpenParenthesis at p) (cut_join s.1 (cut_one (kind.CloseParenthesis at q) cut_none)), ap (λ z. kind.OpenParenthesis at p ∷ z) s.2, λ x. is_call (s.3 (kind.CloseParenthesis at q ∷ x)))

  pub front_expressions : {d : ℕ} {es : Expressions} {ks r : List Terminal} → AreExpressions d es ks r → Front (AreExpressions d es) ks r
  front_expressions (are_one_expression f) = let s = front_chain f in (s.0, s.1, s.2, λ x. are_one_expression (s.3 x))
  front_expressions (are_expressions {p = p} f es) =
      let s = front_chain f in
      let u = front_expressions es in
      (λ x. s.0 (kind.Comma at p ∷ u.0 x), cut_join s.1 (cut_one (kind.Comma at p) u.1), s.2 ∙ ap (λ z. s.0 (kind.Comma at p ∷ z)) u.2, λ x. are_expressions (s.3 (kind.Comma at p ∷ u.0 x)) (u.3 x))

  pub front_elements : {d : ℕ} {es : Elements} {ks r : List Terminal} → AreElements d es ks r → Front (AreElements d es) ks r
  front_elements (are_one_element f) = let s = front_element f in (s.0, s.1, s.2, λ x. are_one_element (s.3 x))
  front_elements (are_elements {p = p} f es) =
      let s = front_element f in
      let u = front_elements es in
      (λ x. s.0 (kind.Comma at p ∷ u.0 x), cut_join s.1 (cut_one (kind.Comma at p) u.1), s.2 ∙ ap (λ z. s.0 (kind.Comma at p ∷ z)) u.2, λ x. are_elements (s.3 (kind.Comma at p ∷ u.0 x)) (u.3 x))

  front_element : {d : ℕ} {e : Element} {ks r : List Terminal} → IsElement d e ks r → Front (IsElement d e) ks r
  front_element (is_one f) = let s = front_chain f in (s.0, s.1, s.2, λ x. is_one (s.3 x))
  front_element (is_range {p = p} f g) =
      let s = front_chain f in
      let u = front_chain g in
      (λ x. s.0 (kind.DotDot at p ∷ u.0 x), cut_join s.1 (cut_one (kind.DotDot at p) u.1), s.2 ∙ ap (λ z. s.0 (kind.DotDot at p ∷ z)) u.2, λ x. is_range (s.3 (kind.DotDot at p ∷ u.0 x)) (u.3 x))

  pub front_arguments : {d : ℕ} {args : Arguments} {ks r : List Terminal} → AreArguments d args ks r → Front (AreArguments d args) ks r
  front_arguments (are_one_argument f) = let s = front_argument f in (s.0, s.1, s.2, λ x. are_one_argument (s.3 x))
  front_arguments (are_arguments {p = p} f args) =
      let s = front_argument f in
      let u = front_arguments args in
      (λ x. s.0 (kind.Comma at p ∷ u.0 x), cut_join s.1 (cut_one (kind.Comma at p) u.1), s.2 ∙ ap (λ z. s.0 (kind.Comma at p ∷ z)) u.2, λ x. are_arguments (s.3 (kind.Comma at p ∷ u.0 x)) (u.3 x))

  front_argument : {d : ℕ} {a : Argument} {ks r : List Terminal} → IsArgument d a ks r → Front (IsArgument d a) ks r
  front_argument (is_value f) = let s = front_chain f in (s.0, s.1, s.2, λ x. is_value (s.3 x))
  front_argument (is_padded {p = p} f g) =
      let s = front_chain f in
      let u = front_chain g in
      (λ x. s.0 (kind.Colon at p ∷ u.0 x), cut_join s.1 (cut_one (kind.Colon at p) u.1), s.2 ∙ ap (λ z. s.0 (kind.Colon at p ∷ z)) u.2, λ x. is_padded (s.3 (kind.Colon at p ∷ u.0 x)) (u.3 x))
  front_argument (is_rounded {p = p} {q = q} f g h) =
      let s = front_chain f in
      let u = front_chain g in
      let w = front_chain h in
      (λ x. s.0 (kind.Colon at p ∷ u.0 (kind.Colon at q ∷ w.0 x)), cut_join s.1 (cut_one (kind.Colon at p) (cut_join u.1 (cut_one (kind.Colon at q) w.1))), s.2 ∙ ap (λ z. s.0 (kind.Colon at p ∷ z)) (u.2 ∙ ap (λ z. u.0 (kind.Colon at q ∷ z)) w.2), λ x. is_rounded (s.3 (kind.Colon at p ∷ u.0 (kind.Colon at q ∷ w.0 x))) (u.3 (kind.Colon at q ∷ w.0 x)) (w.3 x))
