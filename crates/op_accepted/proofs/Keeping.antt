-- What passes the test passes it on, in a program with more types, and where another thing is asked of texts that each text of the tree passes.
use Rattle.std.proofs.Common.{◌≡◌, ◌&&◌, ℕ, Bool, true, false, List, [], ◌∷◌, ◌++◌, refl, sym}
use Rattle.std.proofs.lemmas.Bool.{and_from, and_parts, true≢false}
use Rattle.std.specs.List.{list_all}
use Rattle.op_accepted.proofs.Grown.{solid_on}
use Rattle.op_constants.proofs.Distinct.{among_back, among_first, among_front}
use Rattle.op_constants.specs.Texts.{is_among}
use Rattle.op_core.specs.Expression.{Expression, expression, Root, constant, variable, object, call, construct, set, eof, eoln, Steps, no_steps, steps, Action, bracket, index, method, operate, apply, Elements, no_elements, elements, Element, one, range, Arguments, no_arguments, arguments, Argument, value, place, array, listed}
use Rattle.op_core.specs.Growing.{IsFrontOf}
use Rattle.op_core.specs.Sizes.{type_at}
use Rattle.op_core.specs.Statement.{Item, plain, padded, BuiltIn, write, read, count, set_length, include, exclude, val, str, free, destroy, Statement, empty, block, if_then, if_else, case_of, while_do, repeat_until, for_to, for_in, try_finally, try_on, try_on_else, raise, reraise, call as call_statement, assign, exit, exit_with, break, continue, halt, built_in, Statements, no_statements, statements, Branches, no_branches, branches}
use Rattle.op_core.specs.declared.constant.Const.{Const}
use Rattle.op_core.specs.declared.constant.Const.TheVariants.{Ordinal, Text, Set as SetOf, Nil as NilOf}
use Rattle.op_core.specs.declared.ids.TypeId.{TypeId}
use Rattle.op_core.specs.declared.program.Core.{Core}
use Rattle.op_meaning.specs.Every.{is_text, text_after}
use Rattle.op_plain.specs.Plain.{are_plain_arguments, are_plain_branches, are_plain_elements, are_plain_statements, are_plain_steps, is_plain_amount, is_plain_argument, is_plain_bare, is_plain_built_in, is_plain_constant, is_plain_element, is_plain_expression, is_plain_item, is_plain_root, is_plain_statement, is_plain_step}
use Rattle.op_sizes.specs.Texts.{action_texts, argument_texts, arguments_texts, branches_texts, built_in_texts, constant_texts, element_texts, elements_texts, expression_texts, item_texts, items_texts, root_texts, statement_texts, statements_texts, steps_texts}
use Rattle.op_typing.specs.Simple.{IsSolidType, is_solid}

-- this holds of each of the texts
pub record AllFit (Fits : List ℕ → Type 0) (texts : List (List ℕ)) : Type 0 where
  pub each : (text : List ℕ) → is_among text texts ≡ true → Fits text

pub fit_front : (Fits : List ℕ → Type 0) (xs ys : List (List ℕ)) → AllFit Fits (xs ++ ys) → AllFit Fits xs
fit_front Fits xs ys all = record { each = λ text h. all.each text (among_front text xs ys h) }

pub fit_back : (Fits : List ℕ → Type 0) (xs ys : List (List ℕ)) → AllFit Fits (xs ++ ys) → AllFit Fits ys
fit_back Fits xs ys all = record { each = λ text h. all.each text (among_back text xs ys h) }

failed : {A : Type 0} → false ≡ true → A
failed e = absurd (true≢false (sym e))

module _ (core later : Core) (types : IsFrontOf core.types later.types) (texts others : List ℕ → Bool) (Fits : List ℕ → Type 0) (passes : (text : List ℕ) → Fits text → texts text ≡ true → others text ≡ true) where
  -- of two tests both, each of a part
  both : {a b c d : Bool} {m n : List (List ℕ)} → (AllFit Fits m → a ≡ true → c ≡ true) → (AllFit Fits n → b ≡ true → d ≡ true) → AllFit Fits (m ++ n) → (a && b) ≡ true → (c && d) ≡ true
  both {a} {b} {c} {d} {m} {n} f g h e = let parts = and_parts a b e in and_from c d (f (fit_front Fits m n h) parts.0) (g (fit_back Fits m n h) parts.1)

  -- the parts stand the other way round
  turned : {a b c d : Bool} {m n : List (List ℕ)} → (AllFit Fits m → a ≡ true → c ≡ true) → (AllFit Fits n → b ≡ true → d ≡ true) → AllFit Fits (n ++ m) → (a && b) ≡ true → (c && d) ≡ true
  turned {a} {b} {c} {d} {m} {n} f g h e = let parts = and_parts a b e in and_from c d (f (fit_back Fits n m h) parts.0) (g (fit_front Fits n m h) parts.1)

  three : {a b c x y z : Bool} {l m n : List (List ℕ)} → (AllFit Fits l → a ≡ true → x ≡ true) → (AllFit Fits m → b ≡ true → y ≡ true) → (AllFit Fits n → c ≡ true → z ≡ true) → AllFit Fits (l ++ m ++ n) → (a && (b && c)) ≡ true → (x && (y && z)) ≡ true
  three {a} {b} {c} {x} {y} {z} {l} {m} {n} f g k h e =
      let first = and_parts a (b && c) e in
      let parts = and_parts b c first.1 in
      let front = fit_front Fits (l ++ m) n h in
      and_from x (y && z) (f (fit_front Fits l m front) first.0) (and_from y z (g (fit_back Fits l m front) parts.0) (k (fit_back Fits (l ++ m) n h) parts.1))

  -- with a test that stays as it is
  beside : (a : Bool) {b d : Bool} {n : List (List ℕ)} → (AllFit Fits n → b ≡ true → d ≡ true) → AllFit Fits n → (a && b) ≡ true → (a && d) ≡ true
  beside a {b} {d} g h e = let parts = and_parts a b e in and_from a d parts.0 (g h parts.1)

  solid : (of : TypeId) → IsSolidType core of → IsSolidType later of
  solid of e = solid_on core later types of e

  -- with the type in front
  of_type : (of : TypeId) {b d : Bool} {n : List (List ℕ)} → (AllFit Fits n → b ≡ true → d ≡ true) → AllFit Fits n → (is_solid (type_at core of) && b) ≡ true → (is_solid (type_at later of) && d) ≡ true
  of_type of {b} {d} g h e = let parts = and_parts (is_solid (type_at core of)) b e in and_from (is_solid (type_at later of)) d (solid of parts.0) (g h parts.1)

  constant_kept : (v : Const) (of : TypeId) → AllFit Fits (constant_texts v) → is_plain_constant texts core v of ≡ true → is_plain_constant others later v of ≡ true
  constant_kept (Text bytes) of h e = passes bytes (h.each bytes (among_first bytes [])) e
  constant_kept (Ordinal n) of h e = solid of e
  constant_kept (SetOf es) of h e = solid of e
  constant_kept NilOf of h e = solid of e

  mutual
    pub expression_kept : (e : Expression) → AllFit Fits (expression_texts e) → is_plain_expression texts core e ≡ true → is_plain_expression others later e ≡ true
    expression_kept (expression root of ss) h e = both (root_kept root of) (beside _ (steps_kept ss (is_text root))) h e

    root_kept : (root : Root) (of : TypeId) → AllFit Fits (root_texts root) → is_plain_root texts core root of ≡ true → is_plain_root others later root of ≡ true
    root_kept (constant v nodes words) of h e = beside _ (constant_kept v of) h e
    root_kept (variable id) of h e = solid of e
    root_kept (object id) of h e = failed e
    root_kept (call id given) of h e = of_type of (arguments_kept given) h e
    root_kept (construct c id given) of h e = failed e
    root_kept (set es) of h e = of_type of (elements_kept es) h e
    root_kept eof of h e = failed e
    root_kept eoln of h e = failed e

    steps_kept : (ss : Steps) (text : Bool) → AllFit Fits (steps_texts ss) → are_plain_steps texts core text ss ≡ true → are_plain_steps others later text ss ≡ true
    steps_kept no_steps text h e = refl
    steps_kept (steps action next ss) text h e = both (step_kept action text next) (steps_kept ss (text_after text action)) h e

    step_kept : (action : Action) (text : Bool) (next : TypeId) → AllFit Fits (action_texts action) → is_plain_step texts core text action next ≡ true → is_plain_step others later text action next ≡ true
    step_kept (index i) true next h e = of_type next (expression_kept i) h e
    step_kept (index i) false next h e = of_type next (expression_kept i) h e
    step_kept bracket true next h e = refl
    step_kept (apply function checked) true next h e = let parts = and_parts _ _ e in and_from _ _ parts.0 (solid next parts.1)
    step_kept (operate operator checked i) false next h e = of_type next (expression_kept i) h e
    step_kept (method id dispatch given) false next h e = failed e
    step_kept action true next h e = failed e
    step_kept action false next h e = solid next e

    elements_kept : (es : Elements) → AllFit Fits (elements_texts es) → are_plain_elements texts core es ≡ true → are_plain_elements others later es ≡ true
    elements_kept no_elements h e = refl
    elements_kept (elements x es) h e = both (element_kept x) (elements_kept es) h e

    element_kept : (x : Element) → AllFit Fits (element_texts x) → is_plain_element texts core x ≡ true → is_plain_element others later x ≡ true
    element_kept (one a) h e = expression_kept a h e
    element_kept (range a b) h e = both (expression_kept a) (expression_kept b) h e

    arguments_kept : (given : Arguments) → AllFit Fits (arguments_texts given) → are_plain_arguments texts core given ≡ true → are_plain_arguments others later given ≡ true
    arguments_kept no_arguments h e = refl
    arguments_kept (arguments a given) h e = both (argument_kept a) (arguments_kept given) h e

    argument_kept : (a : Argument) → AllFit Fits (argument_texts a) → is_plain_argument texts core a ≡ true → is_plain_argument others later a ≡ true
    argument_kept (value a) h e = expression_kept a h e
    argument_kept (place a) h e = expression_kept a h e
    argument_kept (array a) h e = failed e
    argument_kept (listed of es) h e = failed e

  item_kept : (item : Item) → AllFit Fits (item_texts item) → is_plain_item texts core item ≡ true → is_plain_item others later item ≡ true
  item_kept (plain a) h e = expression_kept a h e
  item_kept (padded a width) h e = both (expression_kept a) (expression_kept width) h e

  items_kept : (items : List Item) → AllFit Fits (items_texts items) → list_all (is_plain_item texts core) items ≡ true → list_all (is_plain_item others later) items ≡ true
  items_kept [] h e = refl
  items_kept (x ∷ xs) h e = both (item_kept x) (items_kept xs) h e

  bare_kept : (root : Root) (of : TypeId) → AllFit Fits (root_texts root) → is_plain_bare texts core root of ≡ true → is_plain_bare others later root of ≡ true
  bare_kept (constant v nodes words) of h e = constant_kept v of h e
  bare_kept root of h e = root_kept root of h e

  amount_kept : (amount : Expression) → AllFit Fits (expression_texts amount) → is_plain_amount texts core amount ≡ true → is_plain_amount others later amount ≡ true
  amount_kept (expression root of no_steps) h e = bare_kept root of (fit_front Fits (root_texts root) [] h) e
  amount_kept a h e = expression_kept a h e

  built_in_kept : (b : BuiltIn) → AllFit Fits (built_in_texts b) → is_plain_built_in texts core b ≡ true → is_plain_built_in others later b ≡ true
  built_in_kept (write items ends_line) h e = items_kept items h e
  built_in_kept (read targets ends_line) h e = failed e
  built_in_kept (count direction target amount checked) h e = both (expression_kept target.place) (amount_kept amount) h e
  built_in_kept (set_length target a) h e = failed e
  built_in_kept (include s a) h e = both (expression_kept s) (expression_kept a) h e
  built_in_kept (exclude s a) h e = both (expression_kept s) (expression_kept a) h e
  built_in_kept (val text v code) h e = failed e
  built_in_kept (str v target) h e = failed e
  built_in_kept (free a empties) h e = failed e
  built_in_kept (destroy a) h e = failed e

  mutual
    statement_kept : (s : Statement) → AllFit Fits (statement_texts s) → is_plain_statement texts core s ≡ true → is_plain_statement others later s ≡ true
    statement_kept empty h e = refl
    statement_kept (block ss) h e = statements_kept ss h e
    statement_kept (if_then a s) h e = both (expression_kept a) (statement_kept s) h e
    statement_kept (if_else a s t) h e = three (expression_kept a) (statement_kept s) (statement_kept t) h e
    statement_kept (case_of a bs ss) h e = three (expression_kept a) (branches_kept bs) (statements_kept ss) h e
    statement_kept (while_do a s) h e = both (expression_kept a) (statement_kept s) h e
    statement_kept (repeat_until ss a) h e = turned (expression_kept a) (statements_kept ss) h e
    statement_kept (for_to id a direction b s) h e = three (expression_kept a) (expression_kept b) (statement_kept s) h e
    statement_kept (for_in id store a s) h e = both (expression_kept a) (statement_kept s) h e
    statement_kept (try_finally ss ts) h e = both (statements_kept ss) (statements_kept ts) h e
    statement_kept (try_on ss hs) h e = failed e
    statement_kept (try_on_else ss hs ts) h e = failed e
    statement_kept (raise a) h e = failed e
    statement_kept reraise h e = failed e
    statement_kept (call_statement a) h e = expression_kept a h e
    statement_kept (assign target a) h e = both (expression_kept target) (expression_kept a) h e
    statement_kept exit h e = refl
    statement_kept (exit_with a) h e = expression_kept a h e
    statement_kept break h e = refl
    statement_kept continue h e = refl
    statement_kept (halt a) h e = amount_kept a h e
    statement_kept (built_in action) h e = built_in_kept action h e

    pub statements_kept : (ss : Statements) → AllFit Fits (statements_texts ss) → are_plain_statements texts core ss ≡ true → are_plain_statements others later ss ≡ true
    statements_kept no_statements h e = refl
    statements_kept (statements s ss) h e = both (statement_kept s) (statements_kept ss) h e

    branches_kept : (bs : Branches) → AllFit Fits (branches_texts bs) → are_plain_branches texts core bs ≡ true → are_plain_branches others later bs ≡ true
    branches_kept no_branches h e = refl
    branches_kept (branches labels s bs) h e = beside _ (both (statement_kept s) (branches_kept bs)) h e
