-- The temporaries that are listed take no more bytes than the words of their text.
use Rattle.std.proofs.Common.{◌≡◌, ◌≤◌, ℕ, ◌+◌, ◌*◌, Bool, true, false, List, [], ◌∷◌, ◌++◌, Option, Some, None, slice_get, refl, ◌∙◌, arith, if◌then◌else◌}
use Rattle.std.proofs.lemmas.List.Sums.{sum_by-append, sum_by-cons}
use Rattle.std.specs.List.{sum_by}
use Rattle.op_constants.specs.Offsets.{size_in}
use Rattle.op_constants.specs.Shapes.{is_composite}
use Rattle.op_core.specs.Expression.{Expression, expression, Root as Start, constant, variable, object, call, construct, set, eof, eoln, Steps, no_steps, steps, Action, convert, bracket, field, index, method, prefixed, operate, is, apply, copy, Elements, no_elements, elements, Element, one, range, Arguments, no_arguments, arguments, Argument, value, place, array, listed}
use Rattle.op_core.specs.Sizes.{type_at}
use Rattle.op_core.specs.Statement.{Item, plain, padded, BuiltIn, write, read, count, set_length, include, exclude, val, str, free, destroy, Statement, empty, block, if_then, if_else, case_of, while_do, repeat_until, for_to, for_in, try_finally, try_on, try_on_else, raise, reraise, call as call_statement, assign, exit, exit_with, break, continue, halt, built_in, Statements, no_statements, statements, Branches, no_branches, branches}
use Rattle.op_core.specs.declared.ids.TypeId.{TypeId}
use Rattle.op_core.specs.declared.program.Core.{Core}
use Rattle.op_core.specs.declared.routine.Variable.{Variable}
use Rattle.op_core.specs.declared.types.CoreType.{CoreType}
use Rattle.op_core.specs.declared.types.CoreType.TheVariants.{Array, Record}
use Rattle.op_places.specs.Homes.{rounded, size_of_root}
use Rattle.op_meaning.specs.Charge.{words_of, words_in, value_words, valued, root_weight, expression_weight, steps_weight, action_weight, elements_weight, element_weight, arguments_weight, argument_weight, item_weight, items_weight, built_in_weight, counter_weight, statement_weight, statements_weight, branches_weight}
use Rattle.op_meaning.specs.Shapes.{shape_by, shape_of}
use Rattle.op_mir.specs.declared.path.Root.{Root}
use Rattle.op_mir.specs.declared.path.Root.TheVariants.{Temporary}
use Rattle.op_typing.proofs.Rows.{not_true}
use Rattle.op_wholes.specs.Listed.{whole_of, wholes_of, root_wholes, steps_wholes, action_wholes, elements_wholes, element_wholes, arguments_wholes, argument_wholes, item_wholes, items_wholes, built_in_wholes, counter_wholes, statement_wholes, wholes_of_statements, branches_wholes}

-- values with parts are charged the words that hold them
whole_words : (core : Core) (o : Option CoreType) (bytes : ℕ) → is_composite (shape_by core o) ≡ true → value_words o bytes ≡ words_in bytes
whole_words core (Some (Record fields)) bytes e = refl
whole_words core (Some (Array at element)) bytes e = refl
whole_words core _ bytes e = absurd (not_true e)

rounded_words : (bytes words : ℕ) → words ≡ words_in bytes → rounded bytes ≤ 4 * words
rounded_words bytes words e = omega (arith, e)

module _ (core : Core) where
  abbrev pub bytes_in : List Root → ℕ
  bytes_in roots = sum_by (size_of_root core) roots

  valued_words : (of : TypeId) → words_of (valued core of) ≡ value_words (type_at core of) (size_in core of)
  unfolding valued
  valued_words of = refl

  none_small : (words : ℕ) → bytes_in [] ≤ 4 * words
  none_small words = omega arith

  -- a node is charged the words of the temporary that it is listed with
  whole_small : (n : ℕ) (of : TypeId) → bytes_in (whole_of core n of) ≤ 4 * words_of (valued core of)
  whole_small n of = by (is_composite (shape_of core of)) refl
    where
      by : (whole : Bool) → is_composite (shape_of core of) ≡ whole → bytes_in (if whole then Temporary of n ∷ [] else []) ≤ 4 * words_of (valued core of)
      by true e =
          let words = rounded_words (size_in core of) (words_of (valued core of)) (valued_words of ∙ whole_words core (type_at core of) (size_in core of) e) in
          let sum = sum_by-cons (size_of_root core) (Temporary of n) [] in
          omega (arith, words, sum)
      by false e = none_small (words_of (valued core of))

  both_small : (a b : List Root) (u v : ℕ) → bytes_in a ≤ 4 * u → bytes_in b ≤ 4 * v → bytes_in (a ++ b) ≤ 4 * (u + v)
  both_small a b u v p q = let sum = sum_by-append (size_of_root core) a b in omega (arith, sum, p, q)

  mutual
    pub expression_small : (n : ℕ) (e : Expression) → bytes_in (wholes_of core n e) ≤ 4 * words_of (expression_weight core e)
    expression_small n (expression root of others) = both_small (root_wholes core n of root) (steps_wholes core n others) _ _ (root_small n of root) (steps_small n others)

    root_small : (n : ℕ) (of : TypeId) (root : Start) → bytes_in (root_wholes core n of root) ≤ 4 * words_of (root_weight core of root)
    root_small n of (constant v nodes words) = none_small words
    root_small n of (variable id) = whole_small n of
    root_small n of (object id) = none_small 0
    root_small n of (call id given) = both_small (whole_of core n of) (arguments_wholes core (n + 1) given) _ _ (whole_small n of) (arguments_small (n + 1) given)
    root_small n of (construct c id given) = none_small _
    root_small n of (set es) = let p = elements_small n es in omega (arith, p)
    root_small n of eof = none_small _
    root_small n of eoln = none_small _

    steps_small : (n : ℕ) (ss : Steps) → bytes_in (steps_wholes core n ss) ≤ 4 * words_of (steps_weight core ss)
    steps_small n no_steps = none_small 0
    steps_small n (steps action of others) = both_small (action_wholes core n of action) (steps_wholes core n others) _ _ (action_small n of action) (steps_small n others)

    action_small : (n : ℕ) (of : TypeId) (action : Action) → bytes_in (action_wholes core n of action) ≤ 4 * words_of (action_weight core of action)
    action_small n of (convert conversion origin) = none_small _
    action_small n of bracket = whole_small n of
    action_small n of (field id) = whole_small n of
    action_small n of (index e) = both_small (whole_of core n of) (wholes_of core (n + 1) e) _ _ (whole_small n of) (expression_small (n + 1) e)
    action_small n of (method id dispatch given) = none_small _
    action_small n of (prefixed operator checked) = whole_small n of
    action_small n of (operate operator checked e) = both_small (whole_of core n of) (wholes_of core n e) _ _ (whole_small n of) (expression_small n e)
    action_small n of (is class) = none_small _
    action_small n of (apply function checked) = whole_small n of
    action_small n of (copy e e') = let p = whole_small n of in omega (arith, p)

    elements_small : (n : ℕ) (es : Elements) → bytes_in (elements_wholes core n es) ≤ 4 * words_of (elements_weight core es)
    elements_small n no_elements = none_small 0
    elements_small n (elements e es) = both_small (element_wholes core n e) (elements_wholes core n es) _ _ (element_small n e) (elements_small n es)

    element_small : (n : ℕ) (e : Element) → bytes_in (element_wholes core n e) ≤ 4 * words_of (element_weight core e)
    element_small n (one e) = expression_small n e
    element_small n (range e e') = both_small (wholes_of core n e) (wholes_of core n e') _ _ (expression_small n e) (expression_small n e')

    arguments_small : (n : ℕ) (as' : Arguments) → bytes_in (arguments_wholes core n as') ≤ 4 * words_of (arguments_weight core as')
    arguments_small n no_arguments = none_small 0
    arguments_small n (arguments a others) = both_small (argument_wholes core n a) (arguments_wholes core (n + 1) others) _ _ (argument_small n a) (arguments_small (n + 1) others)

    argument_small : (n : ℕ) (a : Argument) → bytes_in (argument_wholes core n a) ≤ 4 * words_of (argument_weight core a)
    argument_small n (value e) = expression_small n e
    argument_small n (place e) = expression_small n e
    argument_small n (array e) = none_small _
    argument_small n (listed of es) = none_small _

  -- ---- statements

  item_small : (n : ℕ) (x : Item) → bytes_in (item_wholes core n x) ≤ 4 * words_of (item_weight core x)
  item_small n (plain e) = expression_small n e
  item_small n (padded e width) = both_small (wholes_of core n e) (wholes_of core n width) _ _ (expression_small n e) (expression_small n width)

  items_small : (n : ℕ) (xs : List Item) → bytes_in (items_wholes core n xs) ≤ 4 * words_of (items_weight core xs)
  items_small n [] = none_small 0
  items_small n (x ∷ xs) = both_small (item_wholes core n x) (items_wholes core n xs) _ _ (item_small n x) (items_small n xs)

  -- behind a node without words
  pair_small : (a b : List Root) (u v : ℕ) → bytes_in a ≤ 4 * u → bytes_in b ≤ 4 * v → bytes_in (a ++ b) ≤ 4 * (0 + u + v)
  pair_small a b u v p q = let sum = both_small a b u v p q in omega (arith, sum)

  triple_small : (a b c : List Root) (u v w : ℕ) → bytes_in a ≤ 4 * u → bytes_in b ≤ 4 * v → bytes_in c ≤ 4 * w → bytes_in (a ++ (b ++ c)) ≤ 4 * (0 + u + v + w)
  triple_small a b c u v w p q s =
      let more = both_small b c v w q s in
      let sum = both_small a (b ++ c) u (v + w) p more in
      omega (arith, sum)

  built_in_small : (n : ℕ) (b : BuiltIn) → bytes_in (built_in_wholes core n b) ≤ 4 * words_of (built_in_weight core b)
  built_in_small n (write items ends) = let p = items_small n items in omega (arith, p)
  built_in_small n (read targets ends) = none_small _
  built_in_small n (count direction target amount checked) = pair_small (wholes_of core n target.place) (wholes_of core (n + 1) amount) _ _ (expression_small n target.place) (expression_small (n + 1) amount)
  built_in_small n (set_length target e) = none_small _
  built_in_small n (include s e) = pair_small (wholes_of core n s) (wholes_of core (n + 1) e) _ _ (expression_small n s) (expression_small (n + 1) e)
  built_in_small n (exclude s e) = pair_small (wholes_of core n s) (wholes_of core (n + 1) e) _ _ (expression_small n s) (expression_small (n + 1) e)
  built_in_small n (val text v code) = none_small _
  built_in_small n (str v target) = none_small _
  built_in_small n (free e empties) = none_small _
  built_in_small n (destroy e) = none_small _

  counter_small : (n : ℕ) (v : Option Variable) → bytes_in (counter_wholes core n v) ≤ 4 * words_of (counter_weight core v)
  counter_small n None = none_small 0
  counter_small n (Some v) = whole_small n v.of

  mutual
    statement_small : (n : ℕ) (s : Statement) → bytes_in (statement_wholes core n s) ≤ 4 * words_of (statement_weight core s)
    statement_small n empty = none_small 0
    statement_small n (block ss) = let p = statements_small n ss in omega (arith, p)
    statement_small n (if_then e s) = pair_small (wholes_of core n e) (statement_wholes core n s) _ _ (expression_small n e) (statement_small n s)
    statement_small n (if_else e s t) = triple_small (wholes_of core n e) (statement_wholes core n s) (statement_wholes core n t) _ _ _ (expression_small n e) (statement_small n s) (statement_small n t)
    statement_small n (case_of e bs ss) = triple_small (wholes_of core n e) (branches_wholes core n bs) (wholes_of_statements core n ss) _ _ _ (expression_small n e) (branches_small n bs) (statements_small n ss)
    statement_small n (while_do e s) = pair_small (wholes_of core n e) (statement_wholes core n s) _ _ (expression_small n e) (statement_small n s)
    statement_small n (repeat_until ss e) = pair_small (wholes_of_statements core n ss) (wholes_of core n e) _ _ (statements_small n ss) (expression_small n e)
    statement_small n (for_to id e direction f s) =
        let p = triple_small (wholes_of core n e) (wholes_of core n f) (statement_wholes core n s) _ _ _ (expression_small n e) (expression_small n f) (statement_small n s) in
        omega (arith, p)
    statement_small n (for_in id store e s) =
        let v = slice_get core.variables id.0 in
        let p = triple_small (wholes_of core n e) (counter_wholes core (n + 1) v) (statement_wholes core (n + 1) s) _ _ _ (expression_small n e) (counter_small (n + 1) v) (statement_small (n + 1) s) in
        omega (arith, p)
    statement_small n (try_finally ss ts) = pair_small (wholes_of_statements core n ss) (wholes_of_statements core n ts) _ _ (statements_small n ss) (statements_small n ts)
    statement_small n (try_on ss hs) = none_small _
    statement_small n (try_on_else ss hs ts) = none_small _
    statement_small n (raise e) = none_small _
    statement_small n reraise = none_small 0
    statement_small n (call_statement e) = expression_small n e
    statement_small n (assign target e) =
        let p = pair_small (wholes_of core n e) (wholes_of core (n + 1) target) _ _ (expression_small n e) (expression_small (n + 1) target) in
        omega (arith, p)
    statement_small n exit = none_small 0
    statement_small n (exit_with e) = let p = expression_small n e in omega (arith, p)
    statement_small n break = none_small 0
    statement_small n continue = none_small 0
    statement_small n (halt e) = let p = expression_small n e in omega (arith, p)
    statement_small n (built_in action) = built_in_small n action

    pub statements_small : (n : ℕ) (ss : Statements) → bytes_in (wholes_of_statements core n ss) ≤ 4 * words_of (statements_weight core ss)
    statements_small n no_statements = none_small 0
    statements_small n (statements s ss) = both_small (statement_wholes core n s) (wholes_of_statements core n ss) _ _ (statement_small n s) (statements_small n ss)

    branches_small : (n : ℕ) (bs : Branches) → bytes_in (branches_wholes core n bs) ≤ 4 * words_of (branches_weight core bs)
    branches_small n no_branches = none_small 0
    branches_small n (branches labels s bs) =
        let p = both_small (statement_wholes core n s) (branches_wholes core n bs) _ _ (statement_small n s) (branches_small n bs) in
        omega (arith, p)
