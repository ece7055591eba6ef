-- What is asked of each node of a tree that passes the test, where it is shown by what the test says of the node.
use Rattle.std.proofs.Common.{◌≡◌, ℕ, Bool, true, false, ◌&&◌, List, [], ◌∷◌, refl}
use Rattle.std.proofs.lemmas.Bool.{and_parts}
use Rattle.std.specs.List.{list_all}
use Rattle.op_core.specs.Expression.{Expression, expression, Root, constant, variable, object, call, construct, set, eof, eoln, Steps, no_steps, steps, Action, index, method, operate, copy, Elements, no_elements, elements, Element, one, range, Arguments, no_arguments, arguments, Argument, value, place, array, listed}
use Rattle.op_core.specs.Statement.{Item, plain, padded, BuiltIn, write, read, count, set_length, include, exclude, val, str, free, destroy, Statement, empty, block, if_then, if_else, case_of, while_do, repeat_until, for_to, for_in, try_finally, try_on, try_on_else, raise, reraise, call as call_statement, assign, exit, exit_with, break, continue, halt, built_in, Statements, no_statements, statements, Branches, no_branches, branches}
use Rattle.op_core.specs.declared.constant.Const.{Const}
use Rattle.op_core.specs.declared.ids.TypeId.{TypeId}
use Rattle.op_core.specs.declared.program.Core.{Core}
use Rattle.op_core.specs.declared.statement.Label.{Label}
use Rattle.op_meaning.specs.Every.{Asks, EveryNode, EveryWork, action_nodes, argument_nodes, arguments_nodes, at_argument, at_copy, at_labels, at_root, at_step, at_steps, branches_works, built_in_works, element_nodes, elements_nodes, expression_nodes, is_text, item_works, items_works, root_nodes, statement_works, statements_works, steps_nodes, text_after, two}
use Rattle.op_plain.proofs.Parts.{failed}
use Rattle.op_plain.specs.Plain.{are_apart, are_plain_arguments, are_plain_branches, are_plain_elements, are_plain_labels, are_plain_statements, are_plain_steps, is_plain_amount, is_plain_argument, is_plain_bare, is_plain_built_in, is_plain_constant, is_plain_element, is_plain_expression, is_plain_item, is_plain_root, is_plain_statement, is_plain_step}

-- what it says of a node, with what is shown of the parts in it, is enough
pub record Shows (texts : List ℕ → Bool) (core : Core) (q : Asks) : Type 1 where
  pub in_root : (root : Root) (of : TypeId) (P : Type 0) → is_plain_root texts core root of ≡ true → P → q.of_node (at_root root of) P
  pub in_steps : (others : Steps) (P : Type 0) → are_apart false others ≡ true → P → q.of_node (at_steps others) P
  pub in_step : (text : Bool) (action : Action) (next : TypeId) (P : Type 0) → is_plain_step texts core text action next ≡ true → P → q.of_node (at_step text action next) P
  pub in_argument : (a : Argument) (P : Type 0) → is_plain_argument texts core a ≡ true → P → q.of_node (at_argument a) P
  -- of its parts the test says nothing
  pub in_copy : (P : Type 0) → q.of_node at_copy P
  pub in_labels : (labels : List Label) → are_plain_labels labels ≡ true → q.of_node (at_labels labels) (Unit {0})
  -- an amount or a status as any expression, and one that is not written
  pub in_amount : (e : Expression) → EveryNode q (expression_nodes e) → q.of_amount e (EveryNode q (expression_nodes e))
  pub in_bare : (v : Const) (nodes words : ℕ) (of : TypeId) → is_plain_constant texts core v of ≡ true → q.of_amount (expression (constant v nodes words) of no_steps) (EveryNode q (expression_nodes (expression (constant v nodes words) of no_steps)))

both : {a b : Bool} {P Q : Type 0} → (a ≡ true → P) → (b ≡ true → Q) → (a && b) ≡ true → P × Q
both f g e = let parts = and_parts _ _ e in (f parts.0, g parts.1)

three : {a b c : Bool} {P Q R : Type 0} → (a ≡ true → P) → (b ≡ true → Q) → (c ≡ true → R) → (a && (b && c)) ≡ true → P × Q × R
three f g h e =
    let first = and_parts _ _ e in
    let others = and_parts _ _ first.1 in
    (f first.0, g others.0, h others.1)

module _ (texts : List ℕ → Bool) (core : Core) (q : Asks) (f : Shows texts core q) where
  mutual
    expression_shown : (e : Expression) → is_plain_expression texts core e ≡ true → EveryNode q (expression_nodes e)
    expression_shown (expression root of others) e =
        let first = and_parts (is_plain_root texts core root of) _ e in
        let rest = and_parts (are_apart false others) _ first.1 in
        (root_shown root of first.0, f.in_steps others (EveryNode q (steps_nodes (is_text root) others)) rest.0 (steps_shown others (is_text root) rest.1))

    root_shown : (root : Root) (of : TypeId) → is_plain_root texts core root of ≡ true → EveryNode q (root_nodes root of)
    root_shown (constant v nodes words) of e = f.in_root (constant v nodes words) of (Unit {0}) e tt
    root_shown (variable id) of e = f.in_root (variable id) of (Unit {0}) e tt
    root_shown (object id) of e = failed e
    root_shown (call id given) of e = f.in_root (call id given) of (EveryNode q (arguments_nodes given)) e (arguments_shown given (and_parts _ _ e).1)
    root_shown (construct c id given) of e = failed e
    root_shown (set es) of e = f.in_root (set es) of (EveryNode q (elements_nodes es)) e (elements_shown es (and_parts _ _ e).1)
    root_shown eof of e = failed e
    root_shown eoln of e = failed e

    steps_shown : (others : Steps) (text : Bool) → are_plain_steps texts core text others ≡ true → EveryNode q (steps_nodes text others)
    steps_shown no_steps text e = tt
    steps_shown (steps action next others) text e =
        let parts = and_parts (is_plain_step texts core text action next) _ e in
        (f.in_step text action next (EveryNode q (action_nodes action)) parts.0 (action_shown action text next parts.0), steps_shown others (text_after text action) parts.1)

    action_shown : (action : Action) (text : Bool) (next : TypeId) → is_plain_step texts core text action next ≡ true → EveryNode q (action_nodes action)
    action_shown (index i) true next e = expression_shown i (and_parts _ _ e).1
    action_shown (index i) false next e = expression_shown i (and_parts _ _ e).1
    action_shown (operate operator checked i) true next e = failed e
    action_shown (operate operator checked i) false next e = expression_shown i (and_parts _ _ e).1
    action_shown (method id dispatch given) true next e = failed e
    action_shown (method id dispatch given) false next e = failed e
    action_shown (copy i j) text next e = f.in_copy (EveryNode q (two (expression_nodes i) (expression_nodes j)))
    action_shown _ text next e = tt

    elements_shown : (es : Elements) → are_plain_elements texts core es ≡ true → EveryNode q (elements_nodes es)
    elements_shown no_elements e = tt
    elements_shown (elements x es) e = both (element_shown x) (elements_shown es) e

    element_shown : (x : Element) → is_plain_element texts core x ≡ true → EveryNode q (element_nodes x)
    element_shown (one a) e = expression_shown a e
    element_shown (range a b) e = both (expression_shown a) (expression_shown b) e

    arguments_shown : (given : Arguments) → are_plain_arguments texts core given ≡ true → EveryNode q (arguments_nodes given)
    arguments_shown no_arguments e = tt
    arguments_shown (arguments a others) e = both (argument_shown a) (arguments_shown others) e

    argument_shown : (a : Argument) → is_plain_argument texts core a ≡ true → EveryNode q (argument_nodes a)
    argument_shown (value a) e = f.in_argument (value a) (EveryNode q (expression_nodes a)) e (expression_shown a e)
    argument_shown (place a) e = f.in_argument (place a) (EveryNode q (expression_nodes a)) e (expression_shown a e)
    argument_shown (array a) e = failed e
    argument_shown (listed of es) e = failed e

  item_shown : (item : Item) → is_plain_item texts core item ≡ true → EveryWork q (item_works item)
  item_shown (plain a) e = expression_shown a e
  item_shown (padded a width) e = both (expression_shown a) (expression_shown width) e

  items_shown : (items : List Item) → list_all (is_plain_item texts core) items ≡ true → EveryWork q (items_works items)
  items_shown [] e = tt
  items_shown (x ∷ xs) e = both (item_shown x) (items_shown xs) e

  bare_shown : (root : Root) (of : TypeId) → is_plain_bare texts core root of ≡ true → q.of_amount (expression root of no_steps) (EveryNode q (expression_nodes (expression root of no_steps)))
  bare_shown (constant v nodes words) of e = f.in_bare v nodes words of e
  bare_shown root of e = f.in_amount (expression root of no_steps) (root_shown root of e, f.in_steps no_steps (Unit {0}) refl tt)

  amount_shown : (amount : Expression) → is_plain_amount texts core amount ≡ true → q.of_amount amount (EveryNode q (expression_nodes amount))
  amount_shown (expression root of no_steps) e = bare_shown root of e
  amount_shown a e = f.in_amount a (expression_shown a e)

  built_in_shown : (b : BuiltIn) → is_plain_built_in texts core b ≡ true → EveryWork q (built_in_works b)
  built_in_shown (write items ends_line) e = items_shown items e
  built_in_shown (read targets ends_line) e = failed e
  built_in_shown (count direction target amount checked) e = both (expression_shown target.place) (amount_shown amount) e
  built_in_shown (set_length target a) e = failed e
  built_in_shown (include s a) e = both (expression_shown s) (expression_shown a) e
  built_in_shown (exclude s a) e = both (expression_shown s) (expression_shown a) e
  built_in_shown (val text v code) e = failed e
  built_in_shown (str v target) e = failed e
  built_in_shown (free a empties) e = failed e
  built_in_shown (destroy a) e = failed e

  mutual
    statement_shown : (s : Statement) → is_plain_statement texts core s ≡ true → EveryWork q (statement_works s)
    statement_shown empty e = tt
    statement_shown (block ss) e = statements_shown ss e
    statement_shown (if_then a s) e = both (expression_shown a) (statement_shown s) e
    statement_shown (if_else a s t) e = three (expression_shown a) (statement_shown s) (statement_shown t) e
    statement_shown (case_of a bs ss) e = three (expression_shown a) (branches_shown bs) (statements_shown ss) e
    statement_shown (while_do a s) e = both (expression_shown a) (statement_shown s) e
    statement_shown (repeat_until ss a) e = both (expression_shown a) (statements_shown ss) e
    statement_shown (for_to id a direction b s) e = three (expression_shown a) (expression_shown b) (statement_shown s) e
    statement_shown (for_in id store a s) e = both (expression_shown a) (statement_shown s) e
    statement_shown (try_finally ss ts) e = both (statements_shown ss) (statements_shown ts) e
    statement_shown (try_on ss hs) e = failed e
    statement_shown (try_on_else ss hs ts) e = failed e
    statement_shown (raise a) e = failed e
    statement_shown reraise e = failed e
    statement_shown (call_statement a) e = expression_shown a e
    statement_shown (assign target a) e = both (expression_shown target) (expression_shown a) e
    statement_shown exit e = tt
    statement_shown (exit_with a) e = expression_shown a e
    statement_shown break e = tt
    statement_shown continue e = tt
    statement_shown (halt a) e = amount_shown a e
    statement_shown (built_in action) e = built_in_shown action e

    pub statements_shown : (ss : Statements) → are_plain_statements texts core ss ≡ true → EveryWork q (statements_works ss)
    statements_shown no_statements e = tt
    statements_shown (statements s ss) e = both (statement_shown s) (statements_shown ss) e

    branches_shown : (bs : Branches) → are_plain_branches texts core bs ≡ true → EveryWork q (branches_works bs)
    branches_shown no_branches e = tt
    branches_shown (branches labels s bs) e = three (f.in_labels labels) (statement_shown s) (branches_shown bs) e
