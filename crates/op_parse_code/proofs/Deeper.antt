-- Expressions and statements stand at any greater depth.
use Rattle.std.proofs.Common.{◌≡◌, ◌+◌, ℕ, zero, suc, List, refl, subst, arith}
use Rattle.op_tree.specs.Expression.{Expression, Operations, Elements, Element, Designator, Root, Selectors, Selector, Expressions, Arguments, Argument}
use Rattle.op_tree.specs.ExpressionGrammar.{IsChain, is_chain, IsOperand, is_simple, is_term, is_factor, AreOperations, are_no_operations, are_operations, IsFactor, is_prefixed, is_number, is_nil, is_empty_set, is_set, is_literal, is_designated, is_inherited, IsDesignator, is_designator, IsRoot, is_named, is_string, is_bracketed, AreSelectors, are_no_selectors, are_selectors, IsSelector, is_member, is_index, is_empty_call, is_call, AreExpressions, are_one_expression, are_expressions, AreElements, are_one_element, are_elements, IsElement, is_one, is_range, AreArguments, are_one_argument, are_arguments, IsArgument, is_value, is_padded, is_rounded}
use Rattle.op_tree.specs.Statement.{Statement, Statements, Branches, Handlers}
use Rattle.op_tree.specs.StatementGrammar.{IsStatement, is_empty, is_block, is_if_then, is_if_else, is_case, is_case_else, is_while, is_repeat, is_for_to, is_for_in, is_try_finally, is_try_except, is_try_on, is_try_on_else, is_raise, is_reraise, is_inherited, is_inherited_call, is_call, is_assignment, is_begin_end, AreStatements, are_one_statement, are_statements, AreBranches, are_no_branches, are_branches, is_branch_before_end, is_branch_before_else, AreHandlers, are_no_handlers, are_handlers, is_handler_before_end, is_handler_before_else}
use Rattle.op_tree.specs.Terminal.{Terminal}
use Rattle.op_tree.specs.declared.operator.Level.{Level}

mutual
  pub deeper_chain : {l : Level} {d : ℕ} {e : Expression} {ks r : List Terminal} → IsChain l d e ks r → IsChain l (suc d) e ks r
  deeper_chain (is_chain a os q) = is_chain (deeper_operand a) (deeper_operations os) q

  pub deeper_operand : {l : Level} {d : ℕ} {e : Expression} {ks r : List Terminal} → IsOperand l d e ks r → IsOperand l (suc d) e ks r
  deeper_operand (is_simple f) = is_simple (deeper_chain f)
  deeper_operand (is_term f) = is_term (deeper_chain f)
  deeper_operand (is_factor f) = is_factor (deeper_factor f)

  pub deeper_operations : {l : Level} {d : ℕ} {os : Operations} {ks r : List Terminal} → AreOperations l d os ks r → AreOperations l (suc d) os ks r
  deeper_operations are_no_operations = are_no_operations
  deeper_operations (are_operations h q a os) = are_operations h q (deeper_operand a) (deeper_operations os)

  pub deeper_factor : {d : ℕ} {e : Expression} {ks r : List Terminal} → IsFactor d e ks r → IsFactor (suc d) e ks r
  deeper_factor (is_prefixed h f) = is_prefixed h (deeper_factor f)
  deeper_factor is_number = is_number
  deeper_factor is_nil = is_nil
  deeper_factor is_empty_set = is_empty_set
  deeper_factor (is_set es) = is_set (deeper_elements es)
  deeper_factor (is_literal ss) = is_literal (deeper_selectors ss)
  deeper_factor (is_designated g) = is_designated (deeper_designator g)
  deeper_factor (is_inherited g) = is_inherited (deeper_designator g)

  pub deeper_designator : {d : ℕ} {g : Designator} {ks r : List Terminal} → IsDesignator d g ks r → IsDesignator (suc d) g ks r
  deeper_designator (is_designator root ss) = is_designator (deeper_root root) (deeper_selectors ss)

  pub deeper_root : {d : ℕ} {g : Root} {ks r : List Terminal} → IsRoot d g ks r → IsRoot (suc d) g ks r
  deeper_root is_named = is_named
  deeper_root is_string = is_string
  deeper_root (is_bracketed f) = is_bracketed (deeper_chain f)

  pub deeper_selectors : {d : ℕ} {ss : Selectors} {ks r : List Terminal} → AreSelectors d ss ks r → AreSelectors (suc d) ss ks r
  deeper_selectors are_no_selectors = are_no_selectors
  deeper_selectors (are_selectors s ss) = are_selectors (deeper_selector s) (deeper_selectors ss)

  pub deeper_selector : {d : ℕ} {s : Selector} {ks r : List Terminal} → IsSelector d s ks r → IsSelector (suc d) s ks r
  deeper_selector is_member = is_member
  deeper_selector (is_index es) = is_index (deeper_expressions es)
  deeper_selector is_empty_call = is_empty_call
  deeper_selector (is_call args) = is_call (deeper_arguments args)

  pub deeper_expressions : {d : ℕ} {es : Expressions} {ks r : List Terminal} → AreExpressions d es ks r → AreExpressions (suc d) es ks r
  deeper_expressions (are_one_expression f) = are_one_expression (deeper_chain f)
  deeper_expressions (are_expressions f es) = are_expressions (deeper_chain f) (deeper_expressions es)

  pub deeper_elements : {d : ℕ} {es : Elements} {ks r : List Terminal} → AreElements d es ks r → AreElements (suc d) es ks r
  deeper_elements (are_one_element f) = are_one_element (deeper_element f)
  deeper_elements (are_elements f es) = are_elements (deeper_element f) (deeper_elements es)

  pub deeper_element : {d : ℕ} {e : Element} {ks r : List Terminal} → IsElement d e ks r → IsElement (suc d) e ks r
  deeper_element (is_one f) = is_one (deeper_chain f)
  deeper_element (is_range f g) = is_range (deeper_chain f) (deeper_chain g)

  pub deeper_arguments : {d : ℕ} {args : Arguments} {ks r : List Terminal} → AreArguments d args ks r → AreArguments (suc d) args ks r
  deeper_arguments (are_one_argument a) = are_one_argument (deeper_argument a)
  deeper_arguments (are_arguments a args) = are_arguments (deeper_argument a) (deeper_arguments args)

  pub deeper_argument : {d : ℕ} {a : Argument} {ks r : List Terminal} → IsArgument d a ks r → IsArgument (suc d) a ks r
  deeper_argument (is_value f) = is_value (deeper_chain f)
  deeper_argument (is_padded f g) = is_padded (deeper_chain f) (deeper_chain g)
  deeper_argument (is_rounded f g h) = is_rounded (deeper_chain f) (deeper_chain g) (deeper_chain h)

pub chain_at : (l : Level) (n d i : ℕ) (e : Expression) (ks r : List Terminal) → i ≡ n + d → IsChain l d e ks r → IsChain l i e ks r
chain_at l zero d i e ks r h f = let same : d ≡ i = omega (arith, h) in subst (λ (z : ℕ). IsChain l z e ks r) same f
chain_at l (suc n) d i e ks r h f = let same : suc (n + d) ≡ i = omega (arith, h) in subst (λ (z : ℕ). IsChain l z e ks r) same (deeper_chain (chain_at l n d (n + d) e ks r refl f))

-- ---- statements

mutual
  pub deeper_statement : {d : ℕ} {s : Statement} {ks r : List Terminal} → IsStatement d s ks r → IsStatement (suc d) s ks r
  deeper_statement is_empty = is_empty
  deeper_statement (is_block (is_begin_end ss)) = is_block (is_begin_end (deeper_statements ss))
  deeper_statement (is_if_then e f) = is_if_then (deeper_chain e) (deeper_statement f)
  deeper_statement (is_if_else e f closed g) = is_if_else (deeper_chain e) (deeper_statement f) closed (deeper_statement g)
  deeper_statement (is_case e bs) = is_case (deeper_chain e) (deeper_branches bs)
  deeper_statement (is_case_else e bs ss) = is_case_else (deeper_chain e) (deeper_branches bs) (deeper_statements ss)
  deeper_statement (is_while e f) = is_while (deeper_chain e) (deeper_statement f)
  deeper_statement (is_repeat ss e) = is_repeat (deeper_statements ss) (deeper_chain e)
  deeper_statement (is_for_to n a way b f) = is_for_to n (deeper_chain a) way (deeper_chain b) (deeper_statement f)
  deeper_statement (is_for_in n a f) = is_for_in n (deeper_chain a) (deeper_statement f)
  deeper_statement (is_try_finally ss ts) = is_try_finally (deeper_statements ss) (deeper_statements ts)
  deeper_statement (is_try_except ss ts) = is_try_except (deeper_statements ss) (deeper_statements ts)
  deeper_statement (is_try_on ss hs) = is_try_on (deeper_statements ss) (deeper_handlers hs)
  deeper_statement (is_try_on_else ss hs ts) = is_try_on_else (deeper_statements ss) (deeper_handlers hs) (deeper_statements ts)
  deeper_statement (is_raise e) = is_raise (deeper_chain e)
  deeper_statement is_reraise = is_reraise
  deeper_statement is_inherited = is_inherited
  deeper_statement (is_inherited_call g) = is_inherited_call (deeper_designator g)
  deeper_statement (is_call g) = is_call (deeper_designator g)
  deeper_statement (is_assignment g e) = is_assignment (deeper_designator g) (deeper_chain e)

  pub deeper_statements : {d : ℕ} {ss : Statements} {ks r : List Terminal} → AreStatements d ss ks r → AreStatements (suc d) ss ks r
  deeper_statements (are_one_statement f) = are_one_statement (deeper_statement f)
  deeper_statements (are_statements f ss) = are_statements (deeper_statement f) (deeper_statements ss)

  pub deeper_branches : {d : ℕ} {bs : Branches} {ks r : List Terminal} → AreBranches d bs ks r → AreBranches (suc d) bs ks r
  deeper_branches are_no_branches = are_no_branches
  deeper_branches (are_branches ls f bs) = are_branches (deeper_elements ls) (deeper_statement f) (deeper_branches bs)
  deeper_branches (is_branch_before_end ls f) = is_branch_before_end (deeper_elements ls) (deeper_statement f)
  deeper_branches (is_branch_before_else ls f closed) = is_branch_before_else (deeper_elements ls) (deeper_statement f) closed

  pub deeper_handlers : {d : ℕ} {hs : Handlers} {ks r : List Terminal} → AreHandlers d hs ks r → AreHandlers (suc d) hs ks r
  deeper_handlers are_no_handlers = are_no_handlers
  deeper_handlers (are_handlers o f hs) = are_handlers o (deeper_statement f) (deeper_handlers hs)
  deeper_handlers (is_handler_before_end o f) = is_handler_before_end o (deeper_statement f)
  deeper_handlers (is_handler_before_else o f closed) = is_handler_before_else o (deeper_statement f) closed
