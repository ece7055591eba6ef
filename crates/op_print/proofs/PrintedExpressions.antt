-- Expressions can be printed and read again.
use Rattle.std.proofs.Common.{◌≡◌, ℕ, List, Some, refl, sym, ap, subst, ap₂}
use Rattle.op_base.proofs.Tests.{ap₃}
use Rattle.op_print.proofs.Printed.{here, Able, Printed, printed, again, passed, first_of_all, Listed, last, more}
use Rattle.op_print.specs.ExpressionDrafts.{operator_kind, prefix_kind, expression_draft, operations_draft, designator_draft, root_draft, selectors_draft, selector_draft, expression_drafts, element_drafts, element_draft, argument_drafts, argument_draft}
use Rattle.op_print.specs.Scanned.{IsSpellable}
use Rattle.op_print.specs.Unplaced.{bare_position, bare_expression, bare_operations, bare_designator, bare_root, bare_selectors, bare_selector, bare_expressions, bare_elements, bare_element, bare_arguments, bare_argument}
use Rattle.op_scan.specs.declared.token.TokenKind.TheVariants as kind
use Rattle.op_tree.specs.Expression.{Expression, chain, prefixed, number, nil, set, literal, designated, inherited, Operations, no_operations, operation, Elements, no_elements, elements, Element, one, range, Designator, designator, Root, named, string, bracketed, Selectors, no_selectors, selectors, Selector, member, index, call, Expressions, no_expressions, expressions, Arguments, no_arguments, arguments, Argument, value, padded, rounded}
use Rattle.op_tree.specs.ExpressionGrammar.{chain_of, IsChain, is_chain, IsOperand, is_simple, is_term, is_factor, AreOperations, are_no_operations, are_operations, IsFactor, is_prefixed, is_number, is_nil, is_empty_set, is_set, is_literal, is_designated, is_inherited, IsDesignator, is_designator, IsRoot, is_named, is_string, is_bracketed, AreSelectors, are_no_selectors, are_selectors, IsSelector, is_member, is_index, is_empty_call, is_call, AreExpressions, are_one_expression, are_expressions, AreElements, are_one_element, are_elements, IsElement, is_one, is_range, AreArguments, are_one_argument, are_arguments, IsArgument, is_value, is_padded, is_rounded}
use Rattle.op_tree.specs.Operator.{operator_of, prefix_operator_of}
use Rattle.op_tree.specs.Terminal.{Terminal, name}
use Rattle.op_tree.specs.declared.operator.Level.{Level}
use Rattle.op_tree.specs.declared.operator.Operator.{Operator}
use Rattle.op_tree.specs.declared.operator.Operator.TheVariants as operator
use Rattle.op_tree.specs.declared.operator.PrefixOperator.{PrefixOperator}
use Rattle.op_tree.specs.declared.operator.PrefixOperator.TheVariants as prefix

operator_is : (o : Operator) → operator_of (operator_kind o) ≡ Some o
operator_is operator.Equal = refl
operator_is other = refl

operator_able : (o : Operator) → IsSpellable (operator_kind o)
operator_able operator.Equal = tt
operator_able other = tt

prefix_is : (o : PrefixOperator) → prefix_operator_of (prefix_kind o) ≡ Some o
prefix_is prefix.Not = refl
prefix_is other = refl

prefix_able : (o : PrefixOperator) → IsSpellable (prefix_kind o)
prefix_able prefix.Not = tt
prefix_able other = tt

bare_chain_of : (e e' : Expression) (os os' : Operations) → bare_expression e ≡ bare_expression e' → bare_operations os ≡ bare_operations os' → bare_expression (chain_of e os) ≡ bare_expression (chain_of e' os')
bare_chain_of e e' no_operations no_operations p q = p
bare_chain_of e e' no_operations (operation o x g os) p q = absurd cc
bare_chain_of e e' (operation o x g os) no_operations p q = absurd cc
bare_chain_of e e' (operation o x g os) (operation o' x' g' os') p q = ap₂ chain p q

-- an operand without operations is the expression
of_operand : {l : Level} {d : ℕ} {x : Expression} {m r : List Terminal} (xs : Operations) → Printed (IsOperand l d) bare_expression x (expression_draft x) m → Printed (AreOperations l d) bare_operations xs (operations_draft xs) r → Able m → Printed (IsChain l d) bare_expression (chain_of x xs) (expression_draft (chain_of x xs)) r
of_operand no_operations u v g = printed u.words v.able (λ p z. let a = u.again p z in again a.part (is_chain a.is are_no_operations refl) a.same)
of_operand {x = x} (operation o q e os) u v g = printed (u.words, v.words) v.able (λ p z. let a = u.again p.0 _ in let b = v.again p.1 z in again (chain_of a.part b.part) (is_chain a.is b.is refl) (bare_chain_of a.part x b.part (operation o q e os) a.same b.same))

mutual
  pub printed_chain : {l : Level} {d : ℕ} {e : Expression} {ks r : List Terminal} → IsChain l d e ks r → Able ks → Printed (IsChain l d) bare_expression e (expression_draft e) r
  printed_chain {l = l} {d = d} {r = r} (is_chain {rest = os} x xs q) g =
      let u = printed_operand x g in
      subst (λ y. Printed (IsChain l d) bare_expression y (expression_draft y) r) (sym q) (of_operand os u (printed_operations xs u.able) u.able)

  printed_operand : {l : Level} {d : ℕ} {e : Expression} {ks r : List Terminal} → IsOperand l d e ks r → Able ks → Printed (IsOperand l d) bare_expression e (expression_draft e) r
  printed_operand (is_simple f) g = passed (λ x. x) (λ a ks z h. is_simple h) (λ a e. e) (printed_chain f g)
  printed_operand (is_term f) g = passed (λ x. x) (λ a ks z h. is_term h) (λ a e. e) (printed_chain f g)
  printed_operand (is_factor f) g = passed (λ x. x) (λ a ks z h. is_factor h) (λ a e. e) (printed_factor f g)

  printed_operations : {l : Level} {d : ℕ} {os : Operations} {ks r : List Terminal} → AreOperations l d os ks r → Able ks → Printed (AreOperations l d) bare_operations os (operations_draft os) r
  printed_operations are_no_operations g = printed tt g (λ p z. again no_operations are_no_operations refl)
  printed_operations (are_operations {o = o} {p = w} e q x xs) g =
      let u = printed_operand x g.1 in
      let v = printed_operations xs u.able in
      printed (operator_able o, (u.words, v.words)) v.able (λ p z. let a = u.again p.1.0 _ in let b = v.again p.1.1 z in again (operation o (here p.0 w) a.part b.part) (are_operations (operator_is o) q a.is b.is) (ap₂ (operation o (bare_position w)) a.same b.same))

  printed_factor : {d : ℕ} {e : Expression} {ks r : List Terminal} → IsFactor d e ks r → Able ks → Printed (IsFactor d) bare_expression e (expression_draft e) r
  printed_factor (is_prefixed {o = o} {p = w} e f) g =
      let u = printed_factor f g.1 in
      printed (prefix_able o, u.words) u.able (λ p z. let a = u.again p.1 z in again (prefixed o (here p.0 w) a.part) (is_prefixed (prefix_is o) a.is) (ap (prefixed o (bare_position w)) a.same))
  printed_factor (is_number {n = n} {p = w}) g = printed g.0 g.1 (λ p z. again (number n (here p w)) is_number refl)
  printed_factor (is_nil {p = w}) g = printed tt g.1 (λ p z. again (nil (here p w)) is_nil refl)
  printed_factor (is_empty_set {p = w}) g = printed (tt, (tt, tt)) g.1.1 (λ p z. again (set (here p.0 w) no_elements) is_empty_set refl)
  printed_factor (is_set {p = w} es) g =
      let u = printed_elements es g.1 in
      printed (tt, (u.all.words, tt)) u.all.able.1 (λ p z. let a = u.all.again p.1.0 _ in again (set (here p.0 w) a.part) (is_set a.is) (ap (set (bare_position w)) a.same))
  printed_factor (is_literal {text = text} {p = w} ss) g =
      let u = printed_selectors ss g.1 in
      printed (g.0, u.words) u.able (λ p z. let a = u.again p.1 z in again (literal text (here p.0 w) a.part) (is_literal a.is) (ap (literal text (bare_position w)) a.same))
  printed_factor (is_designated f) g = passed designated (λ a ks z h. is_designated h) (λ a. ap designated) (printed_designator f g)
  printed_factor (is_inherited {p = w} f) g =
      let u = printed_designator f g.1 in
      printed (tt, u.words) u.able (λ p z. let a = u.again p.1 z in again (inherited (here p.0 w) a.part) (is_inherited a.is) (ap (inherited (bare_position w)) a.same))

  pub printed_designator : {d : ℕ} {f : Designator} {ks r : List Terminal} → IsDesignator d f ks r → Able ks → Printed (IsDesignator d) bare_designator f (designator_draft f) r
  printed_designator (is_designator root ss) g =
      let u = printed_root root g in
      let v = printed_selectors ss u.able in
      printed (u.words, v.words) v.able (λ p z. let a = u.again p.0 _ in let b = v.again p.1 z in again (designator a.part b.part) (is_designator a.is b.is) (ap₂ designator a.same b.same))

  printed_root : {d : ℕ} {f : Root} {ks r : List Terminal} → IsRoot d f ks r → Able ks → Printed (IsRoot d) bare_root f (root_draft f) r
  printed_root (is_named {text = text} {p = w}) g = printed g.0 g.1 (λ p z. again (named (name text (here p w))) is_named refl)
  printed_root (is_string {p = w}) g = printed tt g.1 (λ p z. again (string (here p w)) is_string refl)
  printed_root (is_bracketed {p = w} f) g =
      let u = printed_chain f g.1 in
      printed (tt, (u.words, tt)) u.able.1 (λ p z. let a = u.again p.1.0 _ in again (bracketed (here p.0 w) a.part) (is_bracketed a.is) (ap (bracketed (bare_position w)) a.same))

  printed_selectors : {d : ℕ} {ss : Selectors} {ks r : List Terminal} → AreSelectors d ss ks r → Able ks → Printed (AreSelectors d) bare_selectors ss (selectors_draft ss) r
  printed_selectors are_no_selectors g = printed tt g (λ p z. again no_selectors are_no_selectors refl)
  printed_selectors (are_selectors s ss) g =
      let u = printed_selector s g in
      first_of_all selectors (λ a b ks m z. are_selectors) (λ a b. ap₂ selectors) u (printed_selectors ss u.able)

  printed_selector : {d : ℕ} {s : Selector} {ks r : List Terminal} → IsSelector d s ks r → Able ks → Printed (IsSelector d) bare_selector s (selector_draft s) r
  printed_selector (is_member {text = text} {p = w}) g = printed (tt, g.1.0) g.1.1 (λ p z. again (member (name text (here p.1 w))) is_member refl)
  printed_selector (is_index {p = w} es) g =
      let u = printed_expressions es g.1 in
      printed (tt, (u.all.words, tt)) u.all.able.1 (λ p z. let a = u.all.again p.1.0 _ in again (index (here p.0 w) a.part) (is_index a.is) (ap (index (bare_position w)) a.same))
  printed_selector is_empty_call g = printed (tt, (tt, tt)) g.1.1 (λ p z. again (call no_arguments) is_empty_call refl)
  printed_selector (is_call args) g =
      let u = printed_arguments args g.1 in
      printed (tt, (u.all.words, tt)) u.all.able.1 (λ p z. let a = u.all.again p.1.0 _ in again (call a.part) (is_call a.is) (ap call a.same))

  printed_expressions : {d : ℕ} {es : Expressions} {ks r : List Terminal} → AreExpressions d es ks r → Able ks → Listed (AreExpressions d) bare_expressions kind.Comma es (expression_drafts es) r
  printed_expressions (are_one_expression f) g = last (λ x. expressions x no_expressions) (λ a ks z. are_one_expression) (λ a. ap (λ x. expressions x no_expressions)) (printed_chain f g)
  printed_expressions (are_expressions f es) g =
      let u = printed_chain f g in
      more expressions (λ a b p ks m z. are_expressions) (λ a b. ap₂ expressions) u (printed_expressions es u.able.1)

  pub printed_elements : {d : ℕ} {es : Elements} {ks r : List Terminal} → AreElements d es ks r → Able ks → Listed (AreElements d) bare_elements kind.Comma es (element_drafts es) r
  printed_elements (are_one_element f) g = last (λ x. elements x no_elements) (λ a ks z. are_one_element) (λ a. ap (λ x. elements x no_elements)) (printed_element f g)
  printed_elements (are_elements f es) g =
      let u = printed_element f g in
      more elements (λ a b p ks m z. are_elements) (λ a b. ap₂ elements) u (printed_elements es u.able.1)

  printed_element : {d : ℕ} {e : Element} {ks r : List Terminal} → IsElement d e ks r → Able ks → Printed (IsElement d) bare_element e (element_draft e) r
  printed_element (is_one f) g = passed one (λ a ks z. is_one) (λ a. ap one) (printed_chain f g)
  printed_element (is_range f h) g =
      let u = printed_chain f g in
      let v = printed_chain h u.able.1 in
      printed (u.words, (tt, v.words)) v.able (λ p z. let a = u.again p.0 _ in let b = v.again p.1.1 z in again (range a.part b.part) (is_range a.is b.is) (ap₂ range a.same b.same))

  printed_arguments : {d : ℕ} {args : Arguments} {ks r : List Terminal} → AreArguments d args ks r → Able ks → Listed (AreArguments d) bare_arguments kind.Comma args (argument_drafts args) r
  printed_arguments (are_one_argument f) g = last (λ x. arguments x no_arguments) (λ a ks z. are_one_argument) (λ a. ap (λ x. arguments x no_arguments)) (printed_argument f g)
  printed_arguments (are_arguments f es) g =
      let u = printed_argument f g in
      more arguments (λ a b p ks m z. are_arguments) (λ a b. ap₂ arguments) u (printed_arguments es u.able.1)

  printed_argument : {d : ℕ} {a : Argument} {ks r : List Terminal} → IsArgument d a ks r → Able ks → Printed (IsArgument d) bare_argument a (argument_draft a) r
  printed_argument (is_value f) g = passed value (λ a ks z. is_value) (λ a. ap value) (printed_chain f g)
  printed_argument (is_padded f h) g =
      let u = printed_chain f g in
      let v = printed_chain h u.able.1 in
      printed (u.words, (tt, v.words)) v.able (λ p z. let a = u.again p.0 _ in let b = v.again p.1.1 z in again (padded a.part b.part) (is_padded a.is b.is) (ap₂ padded a.same b.same))
  printed_argument (is_rounded f h i) g =
      let u = printed_chain f g in
      let v = printed_chain h u.able.1 in
      let w = printed_chain i v.able.1 in
      printed (u.words, (tt, (v.words, (tt, w.words)))) w.able (λ p z. let a = u.again p.0 _ in let b = v.again p.1.1.0 _ in let c = w.again p.1.1.1.1 z in again (rounded a.part b.part c.part) (is_rounded a.is b.is c.is) (ap₃ rounded a.same b.same c.same))
