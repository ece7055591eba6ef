-- At most one expression stands at the front of a list of tokens and is whole.
use Rattle.std.proofs.Common.{◌≡◌, ℕ, Bool, true, false, List, [], ◌∷◌, Option, Some, None, refl, sym, ap, ◌∙◌, subst, ap₂}
use Rattle.std.proofs.lemmas.Option.{same_Some}
use Rattle.op_base.proofs.Tests.{ap₃}
use Rattle.op_scan.specs.declared.token.TokenKind.{TokenKind}
use Rattle.op_scan.specs.declared.token.TokenKind.TheVariants as kind
use Rattle.op_tree.specs.Ends.{IsNot, at_least, operator_at_least, binds, begins_selector, begins_designator, begins_expression, Stops, is_dot_dot, EndsOperand, EndOperations, EndsChain}
use Rattle.op_tree.specs.Expression.{Expression, chain, prefixed, number, nil, set, literal, designated, inherited, Operations, no_operations, operation, Elements, no_elements, elements, Element, one, range, Designator, designator, Root, bracketed, Selectors, selectors, Selector, index, call, Expressions, no_expressions, expressions, Arguments, no_arguments, arguments, Argument, value, padded, rounded}
use Rattle.op_tree.specs.ExpressionGrammar.{IsChain, is_chain, IsOperand, is_simple, is_term, is_factor, AreOperations, are_no_operations, are_operations, IsFactor, is_prefixed, is_number, is_nil, is_empty_set, is_set, is_literal, is_designated, is_inherited, IsDesignator, is_designator, IsRoot, is_named, is_string, is_bracketed, AreSelectors, are_no_selectors, are_selectors, IsSelector, is_member, is_index, is_empty_call, is_call, AreExpressions, are_one_expression, are_expressions, AreElements, are_one_element, are_elements, IsElement, is_one, is_range, AreArguments, are_one_argument, are_arguments, IsArgument, is_value, is_padded, is_rounded, chain_of}
use Rattle.op_tree.specs.Operator.{operator_of, prefix_operator_of, level_of}
use Rattle.op_tree.specs.Terminal.{Terminal, ◌at◌}
use Rattle.op_tree.specs.declared.operator.Level.{Level}
use Rattle.op_tree.specs.declared.operator.Level.TheVariants.{Relational, Additive, Multiplicative}
use Rattle.op_tree.specs.declared.operator.Operator.{Operator}
use Rattle.op_tree.specs.declared.operator.PrefixOperator.{PrefixOperator}
use Rattle.op_tree.specs.declared.position.Position.{Position}

-- ---- what may follow an operand

pub operator_is_no_selector : (k : TokenKind) (o : Operator) → operator_of k ≡ Some o → begins_selector k ≡ false
operator_is_no_selector kind.Dot o h = absurd cc
operator_is_no_selector kind.OpenBracket o h = absurd cc
operator_is_no_selector kind.OpenParenthesis o h = absurd cc
operator_is_no_selector k o h = refl

mutual
  pub ends_operand : (e : Expression) (r : List Terminal) → IsNot begins_selector r → EndsOperand e r
  ends_operand (chain first rest) r h = end_operations rest r h
  ends_operand (prefixed o p e) r h = ends_operand e r h
  ends_operand (number n p) r h = tt
  ends_operand (nil p) r h = tt
  ends_operand (set p es) r h = tt
  ends_operand (literal text p ss) r h = h
  ends_operand (designated g) r h = h
  ends_operand (inherited p g) r h = h

  pub end_operations : (os : Operations) (r : List Terminal) → IsNot begins_selector r → EndOperations os r
  end_operations no_operations r h = tt
  end_operations (operation o p e no_operations) r h = ends_operand e r h
  end_operations (operation o p e (operation o1 p1 e1 os)) r h = end_operations (operation o1 p1 e1 os) r h

-- ---- levels

-- nothing that follows would belong to an operand at a level
abbrev pub EndsOperandAt : Level → Expression → List Terminal → Type 0
EndsOperandAt Relational e r = EndsChain Additive e r
EndsOperandAt Additive e r = EndsChain Multiplicative e r
EndsOperandAt Multiplicative e r = EndsOperand e r

weaker : (o : Option Operator) → operator_at_least Relational o ≡ false → (l : Level) → operator_at_least l o ≡ false
weaker None h l = refl
weaker (Some o) h l = absurd cc

additive_weaker : (l : Level) → at_least Additive l ≡ false → at_least Multiplicative l ≡ false
additive_weaker Relational h = refl
additive_weaker Additive h = absurd cc
additive_weaker Multiplicative h = absurd cc

operand_tighter : (o : Option Operator) → operator_at_least Additive o ≡ false → operator_at_least Multiplicative o ≡ false
operand_tighter None h = refl
operand_tighter (Some o) h = additive_weaker (level_of o) h

not_tighter : (r : List Terminal) → IsNot (binds Additive) r → IsNot (binds Multiplicative) r
not_tighter [] h = tt
not_tighter (t ∷ r) h = operand_tighter (operator_of t.kind) h

not_weaker : (r : List Terminal) → IsNot (binds Relational) r → IsNot (binds Additive) r
not_weaker [] h = tt
not_weaker (t ∷ r) h = weaker (operator_of t.kind) h Additive

pub operand_at : (l : Level) (e : Expression) (r : List Terminal) → EndsChain l e r → EndsOperandAt l e r
operand_at Relational e r h = (not_weaker r h.0, h.1)
operand_at Additive e r h = (not_tighter r h.0, h.1)
operand_at Multiplicative e r h = h.1

-- an operator of the level ends an operand before it
pub operand_before : (l : Level) (k : TokenKind) (o : Operator) (e : Expression) (p : Position) (r : List Terminal) → operator_of k ≡ Some o → level_of o ≡ l → EndsOperandAt l e (k at p ∷ r)
operand_before Relational k o e p r h q = (rw h (rw q refl), ends_operand e (k at p ∷ r) (operator_is_no_selector k o h))
operand_before Additive k o e p r h q = (rw h (rw q refl), ends_operand e (k at p ∷ r) (operator_is_no_selector k o h))
operand_before Multiplicative k o e p r h q = ends_operand e (k at p ∷ r) (operator_is_no_selector k o h)

-- the first operand of a whole chain is whole
pub operand_ends : {l : Level} {d : ℕ} {os : Operations} {m r : List Terminal} (e : Expression) → AreOperations l d os m r → IsNot (binds l) r → EndsOperand (chain_of e os) r → EndsOperandAt l e m
operand_ends {l} e are_no_operations h t = operand_at l e _ (h, t)
operand_ends {l} e (are_operations {k = k} {o = o} {p = p} {ks = ks} h q a os) n t = operand_before l k o e p ks h q

pub true_false : {A : Type 0} → true ≡ false → A
true_false e = absurd cc

pub false_true : {A : Type 0} → false ≡ true → A
false_true e = absurd cc

-- an operator of the level is none that may follow a whole chain
pub clash : {A : Type 0} (l : Level) (k : TokenKind) (o : Operator) (p : Position) (r : List Terminal) → operator_of k ≡ Some o → level_of o ≡ l → IsNot (binds l) (k at p ∷ r) → A
clash Relational k o p r h q n = true_false (sym (ap (operator_at_least Relational) h) ∙ n)
clash Additive k o p r h q n = true_false (sym (ap (operator_at_least Additive) h ∙ ap (at_least Additive) q) ∙ n)
clash Multiplicative k o p r h q n = true_false (sym (ap (operator_at_least Multiplicative) h ∙ ap (at_least Multiplicative) q) ∙ n)

-- the last operand of what follows an operand is its own last one, if there is an operation
pub last_operand : (e : Expression) (rest : Operations) (o : Operator) (p : Position) (r : List Terminal) → EndOperations (operation o p e rest) r → EndsOperand (chain_of e rest) r
last_operand e no_operations o p r h = h
last_operand e (operation o1 p1 e1 os) o p r h = h

pub last_operation : (e : Expression) (rest : Operations) (r : List Terminal) → EndsOperand (chain_of e rest) r → EndOperations rest r
last_operation e no_operations r h = tt
last_operation e (operation o1 p1 e1 os) r h = h

-- ---- with what an expression begins

pub prefix_begins : (k : TokenKind) (o : PrefixOperator) → prefix_operator_of k ≡ Some o → begins_expression k ≡ true
prefix_begins kind.Not o h = refl
prefix_begins kind.Plus o h = refl
prefix_begins kind.Minus o h = refl
prefix_begins other o h = absurd cc

pub prefix_is_no_designator : (k : TokenKind) (o : PrefixOperator) → prefix_operator_of k ≡ Some o → begins_designator k ≡ false
prefix_is_no_designator kind.Not o h = refl
prefix_is_no_designator kind.Plus o h = refl
prefix_is_no_designator kind.Minus o h = refl
prefix_is_no_designator other o h = absurd cc

-- what a list of tokens begins with, if with anything
abbrev pub Begins : (TokenKind → Bool) → List Terminal → Type 0
Begins test [] = ⊥
Begins test (t ∷ ts) = test t.kind ≡ true

pub designator_begins : {d : ℕ} {g : Designator} {ks r : List Terminal} → IsDesignator d g ks r → Begins begins_designator ks
designator_begins (is_designator is_named ss) = refl
designator_begins (is_designator is_string ss) = refl
designator_begins (is_designator (is_bracketed e) ss) = refl

pub factor_begins : {d : ℕ} {e : Expression} {ks r : List Terminal} → IsFactor d e ks r → Begins begins_expression ks
factor_begins (is_prefixed {k = k} {o = o} h f) = prefix_begins k o h
factor_begins is_number = refl
factor_begins is_nil = refl
factor_begins is_empty_set = refl
factor_begins (is_set es) = refl
factor_begins (is_literal ss) = refl
factor_begins (is_designated (is_designator is_named ss)) = refl
factor_begins (is_designated (is_designator is_string ss)) = refl
factor_begins (is_designated (is_designator (is_bracketed e) ss)) = refl
factor_begins (is_inherited g) = refl

mutual
  pub chain_begins : {l : Level} {d : ℕ} {e : Expression} {ks r : List Terminal} → IsChain l d e ks r → Begins begins_expression ks
  chain_begins (is_chain a os q) = operand_begins a

  pub operand_begins : {l : Level} {d : ℕ} {e : Expression} {ks r : List Terminal} → IsOperand l d e ks r → Begins begins_expression ks
  operand_begins (is_simple f) = chain_begins f
  operand_begins (is_term f) = chain_begins f
  operand_begins (is_factor f) = factor_begins f

pub element_begins : {d : ℕ} {e : Element} {ks r : List Terminal} → IsElement d e ks r → Begins begins_expression ks
element_begins (is_one f) = chain_begins f
element_begins (is_range f g) = chain_begins f

pub elements_begin : {d : ℕ} {es : Elements} {ks r : List Terminal} → AreElements d es ks r → Begins begins_expression ks
elements_begin (are_one_element e) = element_begins e
elements_begin (are_elements e es) = element_begins e

pub argument_begins : {d : ℕ} {a : Argument} {ks r : List Terminal} → IsArgument d a ks r → Begins begins_expression ks
argument_begins (is_value f) = chain_begins f
argument_begins (is_padded f g) = chain_begins f
argument_begins (is_rounded f g h) = chain_begins f

pub arguments_begin : {d : ℕ} {args : Arguments} {ks r : List Terminal} → AreArguments d args ks r → Begins begins_expression ks
arguments_begin (are_one_argument a) = argument_begins a
arguments_begin (are_arguments a args) = argument_begins a

pub selector_begins : {A : Type 0} {d : ℕ} {s : Selector} {ks r : List Terminal} → IsSelector d s ks r → IsNot begins_selector ks → A
selector_begins is_member h = true_false h
selector_begins (is_index es) h = true_false h
selector_begins is_empty_call h = true_false h
selector_begins (is_call args) h = true_false h

-- ---- at most one

pub stop : (e : Expression) (r : List Terminal) → Stops r → EndsChain Relational e r
stop e r h = (h.0, ends_operand e r h.1)

abbrev pub is_comma : TokenKind → Bool
is_comma kind.Comma = true
is_comma other = false

abbrev pub is_colon : TokenKind → Bool
is_colon kind.Colon = true
is_colon other = false

abbrev pub behind : List Terminal → List Terminal
behind [] = []
behind (t ∷ ts) = ts

mutual
  pub unique_chain : {l : Level} {d d' : ℕ} {e e' : Expression} {ks r r' : List Terminal} → IsChain l d e ks r → IsChain l d' e' ks r' → EndsChain l e r → EndsChain l e' r' → (e ≡ e') × (r ≡ r')
  unique_chain {l} {d'} {r} {r'} (is_chain {first = first} {rest = rest} a os q) (is_chain {first = first'} {rest = rest'} a' os' q') h h' =
      let t = subst (λ x. EndsOperand x r) q h.1 in
      let t' = subst (λ x. EndsOperand x r') q' h'.1 in
      let s = unique_operand a a' (operand_ends first os h.0 t) (operand_ends first' os' h'.0 t') in
      let u = unique_operations os (subst (λ x. AreOperations l d' rest' x r') (sym s.1) os') h.0 h'.0 (last_operation first rest r t) (last_operation first' rest' r' t') in
      (q ∙ ap₂ chain_of s.0 u.0 ∙ sym q', u.1)

  pub unique_operand : {l : Level} {d d' : ℕ} {e e' : Expression} {ks r r' : List Terminal} → IsOperand l d e ks r → IsOperand l d' e' ks r' → EndsOperandAt l e r → EndsOperandAt l e' r' → (e ≡ e') × (r ≡ r')
  unique_operand (is_simple f) (is_simple f') h h' = unique_chain f f' h h'
  unique_operand (is_term f) (is_term f') h h' = unique_chain f f' h h'
  unique_operand (is_factor f) (is_factor f') h h' = unique_factor f f' h h'

  unique_operations : {l : Level} {d d' : ℕ} {os os' : Operations} {ks r r' : List Terminal} → AreOperations l d os ks r → AreOperations l d' os' ks r' → IsNot (binds l) r → IsNot (binds l) r' → EndOperations os r → EndOperations os' r' → (os ≡ os') × (r ≡ r')
  unique_operations are_no_operations are_no_operations n n' t t' = (refl, refl)
  unique_operations {l} are_no_operations (are_operations {k = k} {o = o} {p = p} {ks = ks} h q a os) n n' t t' = clash l k o p ks h q n
  unique_operations {l} (are_operations {k = k} {o = o} {p = p} {ks = ks} h q a os) are_no_operations n n' t t' = clash l k o p ks h q n'
  unique_operations {l} {d'} {r} {r'} (are_operations {o = o} {p = p} {e = e} {os = rest} h q a os) (are_operations {o = o'} {e = e'} {os = rest'} h' q' a' os') n n' t t' =
      let z = last_operand e rest o p r t in
      let z' = last_operand e' rest' o' p r' t' in
      let s = unique_operand a a' (operand_ends e os n z) (operand_ends e' os' n' z') in
      let u = unique_operations os (subst (λ x. AreOperations l d' rest' x r') (sym s.1) os') n n' (last_operation e rest r z) (last_operation e' rest' r' z') in
      (ap₃ (λ x y w. operation x p y w) (same_Some _ _ (sym h ∙ h')) s.0 u.0, u.1)

  pub unique_factor : {d d' : ℕ} {e e' : Expression} {ks r r' : List Terminal} → IsFactor d e ks r → IsFactor d' e' ks r' → EndsOperand e r → EndsOperand e' r' → (e ≡ e') × (r ≡ r')
  unique_factor (is_prefixed {p = p} h f) (is_prefixed h' f') t t' =
      let s = unique_factor f f' t t' in
      (ap₂ (λ x y. prefixed x p y) (same_Some _ _ (sym h ∙ h')) s.0, s.1)
  unique_factor (is_prefixed h f) is_number t t' = absurd cc
  unique_factor (is_prefixed h f) is_nil t t' = absurd cc
  unique_factor (is_prefixed h f) is_empty_set t t' = absurd cc
  unique_factor (is_prefixed h f) (is_set es) t t' = absurd cc
  unique_factor (is_prefixed h f) (is_literal ss) t t' = absurd cc
  unique_factor (is_prefixed {k = k} {o = o} h f) (is_designated g) t t' = true_false (sym (designator_begins g) ∙ prefix_is_no_designator k o h)
  unique_factor (is_prefixed h f) (is_inherited g) t t' = absurd cc
  unique_factor is_number (is_prefixed h f) t t' = absurd cc
  unique_factor is_number is_number t t' = (refl, refl)
  unique_factor is_number (is_designated g) t t' = false_true (designator_begins g)
  unique_factor is_nil (is_prefixed h f) t t' = absurd cc
  unique_factor is_nil is_nil t t' = (refl, refl)
  unique_factor is_nil (is_designated g) t t' = false_true (designator_begins g)
  unique_factor is_empty_set (is_prefixed h f) t t' = absurd cc
  unique_factor is_empty_set is_empty_set t t' = (refl, refl)
  unique_factor is_empty_set (is_set es) t t' = false_true (elements_begin es)
  unique_factor is_empty_set (is_designated g) t t' = false_true (designator_begins g)
  unique_factor (is_set es) (is_prefixed h f) t t' = absurd cc
  unique_factor (is_set es) is_empty_set t t' = false_true (elements_begin es)
  unique_factor (is_set {p = p} es) (is_set es') t t' =
      let s = unique_elements es es' (refl, refl) (refl, refl) refl refl refl refl in
      (ap (set p) s.0, ap behind s.1)
  unique_factor (is_set es) (is_designated g) t t' = false_true (designator_begins g)
  unique_factor (is_literal ss) (is_prefixed h f) t t' = absurd cc
  unique_factor (is_literal {text = text} {p = p} ss) (is_literal ss') t t' =
      let s = unique_selectors ss ss' t t' in
      (ap (literal text p) s.0, s.1)
  unique_factor (is_literal ss) (is_designated g) t t' = false_true (designator_begins g)
  unique_factor (is_designated g) (is_prefixed {k = k} {o = o} h f) t t' = true_false (sym (designator_begins g) ∙ prefix_is_no_designator k o h)
  unique_factor (is_designated g) is_number t t' = false_true (designator_begins g)
  unique_factor (is_designated g) is_nil t t' = false_true (designator_begins g)
  unique_factor (is_designated g) is_empty_set t t' = false_true (designator_begins g)
  unique_factor (is_designated g) (is_set es) t t' = false_true (designator_begins g)
  unique_factor (is_designated g) (is_literal ss) t t' = false_true (designator_begins g)
  unique_factor (is_designated g) (is_designated g') t t' =
      let s = unique_designator g g' t t' in
      (ap designated s.0, s.1)
  unique_factor (is_designated g) (is_inherited g') t t' = false_true (designator_begins g)
  unique_factor (is_inherited g) (is_prefixed h f) t t' = absurd cc
  unique_factor (is_inherited g) (is_designated g') t t' = false_true (designator_begins g')
  unique_factor (is_inherited {p = p} g) (is_inherited g') t t' =
      let s = unique_designator g g' t t' in
      (ap (inherited p) s.0, s.1)

  pub unique_designator : {d d' : ℕ} {g g' : Designator} {ks r r' : List Terminal} → IsDesignator d g ks r → IsDesignator d' g' ks r' → IsNot begins_selector r → IsNot begins_selector r' → (g ≡ g') × (r ≡ r')
  unique_designator {d'} {r} {r'} (is_designator root ss) (is_designator {ss = ss1} root' ss') t t' =
      let s = unique_root root root' in
      let u = unique_selectors ss (subst (λ x. AreSelectors d' ss1 x r') (sym s.1) ss') t t' in
      (ap₂ designator s.0 u.0, u.1)

  pub unique_root : {d d' : ℕ} {g g' : Root} {ks r r' : List Terminal} → IsRoot d g ks r → IsRoot d' g' ks r' → (g ≡ g') × (r ≡ r')
  unique_root is_named is_named = (refl, refl)
  unique_root is_string is_string = (refl, refl)
  unique_root (is_bracketed {p = p} {e = e} f) (is_bracketed {e = e'} f') =
      let s = unique_chain f f' (stop e _ (refl, refl)) (stop e' _ (refl, refl)) in
      (ap (bracketed p) s.0, ap behind s.1)

  unique_selectors : {d d' : ℕ} {ss ss' : Selectors} {ks r r' : List Terminal} → AreSelectors d ss ks r → AreSelectors d' ss' ks r' → IsNot begins_selector r → IsNot begins_selector r' → (ss ≡ ss') × (r ≡ r')
  unique_selectors are_no_selectors are_no_selectors t t' = (refl, refl)
  unique_selectors are_no_selectors (are_selectors s ss) t t' = selector_begins s t
  unique_selectors (are_selectors s ss) are_no_selectors t t' = selector_begins s t'
  unique_selectors {d'} {r} {r'} (are_selectors s ss) (are_selectors {ss = ss1} s' ss') t t' =
      let a = unique_selector s s' in
      let u = unique_selectors ss (subst (λ x. AreSelectors d' ss1 x r') (sym a.1) ss') t t' in
      (ap₂ selectors a.0 u.0, u.1)

  pub unique_selector : {d d' : ℕ} {s s' : Selector} {ks r r' : List Terminal} → IsSelector d s ks r → IsSelector d' s' ks r' → (s ≡ s') × (r ≡ r')
  unique_selector is_member is_member = (refl, refl)
  unique_selector (is_index {p = p} es) (is_index es') =
      let s = unique_expressions es es' (refl, refl) (refl, refl) refl refl in
      (ap (index p) s.0, ap behind s.1)
  unique_selector is_empty_call is_empty_call = (refl, refl)
  unique_selector is_empty_call (is_call args) = false_true (arguments_begin args)
  unique_selector (is_call args) is_empty_call = false_true (arguments_begin args)
  unique_selector (is_call args) (is_call args') =
      let s = unique_arguments args args' (refl, refl) (refl, refl) refl refl refl refl in
      (ap call s.0, ap behind s.1)

  pub unique_expressions : {d d' : ℕ} {es es' : Expressions} {ks r r' : List Terminal} → AreExpressions d es ks r → AreExpressions d' es' ks r' → Stops r → Stops r' → IsNot is_comma r → IsNot is_comma r' → (es ≡ es') × (r ≡ r')
  unique_expressions (are_one_expression {e = e} f) (are_one_expression {e = e'} f') h h' c c' =
      let s = unique_chain f f' (stop e _ h) (stop e' _ h') in
      (ap (λ x. expressions x no_expressions) s.0, s.1)
  unique_expressions (are_one_expression {e = e} f) (are_expressions {e = e'} f' es') h h' c c' =
      let s = unique_chain f f' (stop e _ h) (stop e' _ (refl, refl)) in
      true_false (subst (IsNot is_comma) s.1 c)
  unique_expressions (are_expressions {e = e} f es) (are_one_expression {e = e'} f') h h' c c' =
      let s = unique_chain f f' (stop e _ (refl, refl)) (stop e' _ h') in
      true_false (subst (IsNot is_comma) (sym s.1) c')
  unique_expressions {d'} {r} {r'} (are_expressions {e = e} f es) (are_expressions {e = e'} {es = es1} f' es') h h' c c' =
      let s = unique_chain f f' (stop e _ (refl, refl)) (stop e' _ (refl, refl)) in
      let u = unique_expressions es (subst (λ x. AreExpressions d' es1 x r') (sym (ap behind s.1)) es') h h' c c' in
      (ap₂ expressions s.0 u.0, u.1)

  pub unique_elements : {d d' : ℕ} {es es' : Elements} {ks r r' : List Terminal} → AreElements d es ks r → AreElements d' es' ks r' → Stops r → Stops r' → IsNot is_comma r → IsNot is_comma r' → IsNot is_dot_dot r → IsNot is_dot_dot r' → (es ≡ es') × (r ≡ r')
  unique_elements (are_one_element f) (are_one_element f') h h' c c' b b' =
      let s = unique_element f f' h h' b b' in
      (ap (λ x. elements x no_elements) s.0, s.1)
  unique_elements (are_one_element f) (are_elements f' es') h h' c c' b b' =
      let s = unique_element f f' h (refl, refl) b refl in
      true_false (subst (IsNot is_comma) s.1 c)
  unique_elements (are_elements f es) (are_one_element f') h h' c c' b b' =
      let s = unique_element f f' (refl, refl) h' refl b' in
      true_false (subst (IsNot is_comma) (sym s.1) c')
  unique_elements {d'} {r} {r'} (are_elements f es) (are_elements {es = es1} f' es') h h' c c' b b' =
      let s = unique_element f f' (refl, refl) (refl, refl) refl refl in
      let u = unique_elements es (subst (λ x. AreElements d' es1 x r') (sym (ap behind s.1)) es') h h' c c' b b' in
      (ap₂ elements s.0 u.0, u.1)

  unique_element : {d d' : ℕ} {e e' : Element} {ks r r' : List Terminal} → IsElement d e ks r → IsElement d' e' ks r' → Stops r → Stops r' → IsNot is_dot_dot r → IsNot is_dot_dot r' → (e ≡ e') × (r ≡ r')
  unique_element (is_one {e = e} f) (is_one {e = e'} f') h h' b b' =
      let s = unique_chain f f' (stop e _ h) (stop e' _ h') in
      (ap one s.0, s.1)
  unique_element (is_one {e = e} f) (is_range {first = e'} f' g') h h' b b' =
      let s = unique_chain f f' (stop e _ h) (stop e' _ (refl, refl)) in
      true_false (subst (IsNot is_dot_dot) s.1 b)
  unique_element (is_range {first = e} f g) (is_one {e = e'} f') h h' b b' =
      let s = unique_chain f f' (stop e _ (refl, refl)) (stop e' _ h') in
      true_false (subst (IsNot is_dot_dot) (sym s.1) b')
  unique_element {d'} {r} {r'} (is_range {first = e} {last = last} f g) (is_range {first = e'} {last = last'} f' g') h h' b b' =
      let s = unique_chain f f' (stop e _ (refl, refl)) (stop e' _ (refl, refl)) in
      let u = unique_chain g (subst (λ x. IsChain Relational d' last' x r') (sym (ap behind s.1)) g') (stop last _ h) (stop last' _ h') in
      (ap₂ range s.0 u.0, u.1)

  unique_arguments : {d d' : ℕ} {es es' : Arguments} {ks r r' : List Terminal} → AreArguments d es ks r → AreArguments d' es' ks r' → Stops r → Stops r' → IsNot is_comma r → IsNot is_comma r' → IsNot is_colon r → IsNot is_colon r' → (es ≡ es') × (r ≡ r')
  unique_arguments (are_one_argument f) (are_one_argument f') h h' c c' b b' =
      let s = unique_argument f f' h h' b b' in
      (ap (λ x. arguments x no_arguments) s.0, s.1)
  unique_arguments (are_one_argument f) (are_arguments f' es') h h' c c' b b' =
      let s = unique_argument f f' h (refl, refl) b refl in
      true_false (subst (IsNot is_comma) s.1 c)
  unique_arguments (are_arguments f es) (are_one_argument f') h h' c c' b b' =
      let s = unique_argument f f' (refl, refl) h' refl b' in
      true_false (subst (IsNot is_comma) (sym s.1) c')
  unique_arguments {d'} {r} {r'} (are_arguments f es) (are_arguments {args = es1} f' es') h h' c c' b b' =
      let s = unique_argument f f' (refl, refl) (refl, refl) refl refl in
      let u = unique_arguments es (subst (λ x. AreArguments d' es1 x r') (sym (ap behind s.1)) es') h h' c c' b b' in
      (ap₂ arguments s.0 u.0, u.1)

  unique_argument : {d d' : ℕ} {e e' : Argument} {ks r r' : List Terminal} → IsArgument d e ks r → IsArgument d' e' ks r' → Stops r → Stops r' → IsNot is_colon r → IsNot is_colon r' → (e ≡ e') × (r ≡ r')
  unique_argument (is_value {e = e} f) (is_value {e = e'} f') h h' b b' =
      let s = unique_chain f f' (stop e _ h) (stop e' _ h') in
      (ap value s.0, s.1)
  unique_argument (is_value {e = e} f) (is_padded {e = e'} f' g') h h' b b' =
      let s = unique_chain f f' (stop e _ h) (stop e' _ (refl, refl)) in
      true_false (subst (IsNot is_colon) s.1 b)
  unique_argument (is_value {e = e} f) (is_rounded {e = e'} f' g' i') h h' b b' =
      let s = unique_chain f f' (stop e _ h) (stop e' _ (refl, refl)) in
      true_false (subst (IsNot is_colon) s.1 b)
  unique_argument (is_padded {e = e} f g) (is_value {e = e'} f') h h' b b' =
      let s = unique_chain f f' (stop e _ (refl, refl)) (stop e' _ h') in
      true_false (subst (IsNot is_colon) (sym s.1) b')
  unique_argument (is_rounded {e = e} f g i) (is_value {e = e'} f') h h' b b' =
      let s = unique_chain f f' (stop e _ (refl, refl)) (stop e' _ h') in
      true_false (subst (IsNot is_colon) (sym s.1) b')
  unique_argument {d'} {r} {r'} (is_padded {e = e} {width = w} f g) (is_padded {e = e'} {width = w'} f' g') h h' b b' =
      let s = unique_chain f f' (stop e _ (refl, refl)) (stop e' _ (refl, refl)) in
      let u = unique_chain g (subst (λ x. IsChain Relational d' w' x r') (sym (ap behind s.1)) g') (stop w _ h) (stop w' _ h') in
      (ap₂ padded s.0 u.0, u.1)
  unique_argument {d'} {r} {r'} (is_padded {e = e} {width = w} f g) (is_rounded {e = e'} {width = w'} {q = q'} {n = n'} f' g' i') h h' b b' =
      let s = unique_chain f f' (stop e _ (refl, refl)) (stop e' _ (refl, refl)) in
      let u = unique_chain g (subst (λ x. IsChain Relational d' w' x (kind.Colon at q' ∷ n')) (sym (ap behind s.1)) g') (stop w _ h) (stop w' _ (refl, refl)) in
      true_false (subst (IsNot is_colon) u.1 b)
  unique_argument {d'} {r} {r'} (is_rounded {e = e} {width = w} f g i) (is_padded {e = e'} {width = w'} f' g') h h' b b' =
      let s = unique_chain f f' (stop e _ (refl, refl)) (stop e' _ (refl, refl)) in
      let u = unique_chain g (subst (λ x. IsChain Relational d' w' x r') (sym (ap behind s.1)) g') (stop w _ (refl, refl)) (stop w' _ h') in
      true_false (subst (IsNot is_colon) (sym u.1) b')
  unique_argument {d'} {r} {r'} (is_rounded {e = e} {width = w} {digits = v} f g i) (is_rounded {e = e'} {width = w'} {digits = v'} {q = q'} {n = n'} f' g' i') h h' b b' =
      let s = unique_chain f f' (stop e _ (refl, refl)) (stop e' _ (refl, refl)) in
      let u = unique_chain g (subst (λ x. IsChain Relational d' w' x (kind.Colon at q' ∷ n')) (sym (ap behind s.1)) g') (stop w _ (refl, refl)) (stop w' _ (refl, refl)) in
      let z = unique_chain i (subst (λ x. IsChain Relational d' v' x r') (sym (ap behind u.1)) i') (stop v _ h) (stop v' _ h') in
      (ap₃ rounded s.0 u.0 z.0, z.1)

pub unique_expr : {d d' : ℕ} {e e' : Expression} {ks r r' : List Terminal} → IsChain Relational d e ks r → IsChain Relational d' e' ks r' → Stops r → Stops r' → (e ≡ e') × (r ≡ r')
unique_expr {e = e} {e' = e'} {r = r} {r' = r'} f f' h h' = unique_chain f f' (stop e r h) (stop e' r' h')
