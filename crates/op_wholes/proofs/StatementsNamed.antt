-- The items of a statement name no other temporaries of record and array types than a list that has those of its nodes.
use Rattle.std.proofs.Common.{inl, inr, ℕ, ◌+◌, Bool, true, false, List, [], ◌∷◌, ◌++◌, slice_get, refl, sym, subst, arith}
use Rattle.std.proofs.lemmas.List.Elements.{All-drop}
use Rattle.std.specs.List.{All}
use Rattle.std.specs.Prelude.{IsTrue}
use Rattle.op_core.specs.Expression.{Expression, expression, constant as fixed, no_steps}
use Rattle.op_core.specs.Sizes.{type_at}
use Rattle.op_core.specs.Statement.{Item as Output, plain, padded, BuiltIn, write, read, count, set_length, include, exclude, val, str, free as free_of, destroy, Target, Statement, empty, block, if_then, if_else, case_of, while_do, repeat_until, for_to, for_in, try_finally, try_on, try_on_else, raise, reraise, call, assign, exit, exit_with, break, continue, halt as halt_with, built_in, Statements, no_statements, statements, Branches, no_branches, branches}
use Rattle.op_core.specs.StatementTyping.{AreBranches, AreStatements, GivesElements, Here as Around, IsBuiltIn, IsElementOf, IsItem, IsStatement, in_finally, in_loop}
use Rattle.op_core.specs.Typing.{Converts, IsTyped, IsValue, Sees, is_place, type_of}
use Rattle.op_core.specs.declared.constant.Const.{Const}
use Rattle.op_core.specs.declared.constant.Const.TheVariants.{Ordinal, Text, Set as SetOf, Nil as NilOf}
use Rattle.op_core.specs.declared.ids.TypeId.{TypeId}
use Rattle.op_core.specs.declared.program.Core.{Core}
use Rattle.op_core.specs.declared.types.IntegerKind.TheVariants.{Signed32}
use Rattle.op_frames.specs.Counted.{AreCountedStatements, IsCounted, IsCountedAmount, IsCountedStatement, counted_asks}
use Rattle.op_frames.specs.Made.{AreMadeCases}
use Rattle.op_frames.specs.Wholes.{AreWholesIn, IsWholeIn}
use Rattle.op_meaning.specs.Actions.{arithmetic, combine, load, single as lone, store}
use Rattle.op_meaning.specs.Every.{EveryWork, branches_works, built_in_works, item_works, items_works}
use Rattle.op_meaning.specs.Expressions.{Found, Here, at_path, converted, find, found, make, past, past_whole, path_of}
use Rattle.op_meaning.specs.Items.{act, acts, choose, halt, leave, none, only, select, ◌&◌}
use Rattle.op_meaning.specs.Shapes.{shape_of}
use Rattle.op_meaning.specs.Statements.{assigned, cases_of, changed_set, counted_at, done_built_in, for_items, in_collection, in_turn, kind_of, line_end, no_width, result_path, stored_by, sum_or_difference, work_of, work_of_all, write_all, write_one}
use Rattle.op_mir.specs.declared.path.Root.{Root}
use Rattle.op_mir.specs.declared.path.Root.TheVariants.{Temporary}
use Rattle.op_tree.specs.declared.operator.Operator.{Operator}
use Rattle.op_tree.specs.declared.operator.Operator.TheVariants.{Add, Subtract}
use Rattle.op_tree.specs.declared.statement.Direction.{Direction}
use Rattle.op_typing.proofs.Expressions.{value_typed}
use Rattle.op_typing.proofs.Founds.{env_at}
use Rattle.op_typing.proofs.Rows.{each_row, some_and}
use Rattle.op_typing.specs.Simple.{AreSimpleStatements, IsSimple, IsSimpleStatement, simple_asks, IsSimpleProgram}
use Rattle.op_wholes.proofs.ExpressionsNamed.{find_in, make_in}
use Rattle.op_wholes.proofs.FoundsNamed.{AreNamed, own_of, both, three, place_in, converted_in}
use Rattle.op_wholes.proofs.ListsCovered.{IsListed, AreListed, front_listed, back_listed}
use Rattle.op_wholes.proofs.LoopsNamed.{stored_in, value_in, line_in, turns_in, collection_in}
use Rattle.op_wholes.proofs.PlacesFound.{place_at}
use Rattle.op_wholes.proofs.TypesWhole.{IsWhole, one_back_whole}
use Rattle.op_wholes.specs.Listed.{branches_wholes, built_in_wholes, counter_wholes, item_wholes, items_wholes, statement_wholes, wholes_of, wholes_of_statements}

module _ (core : Core) (r : ℕ) (wholes : List Root) (blocks : ℕ) (sees : Sees) (simple : IsSimpleProgram core) where
  made : (e : Expression) (here : Here) → IsTyped core sees e → IsSimple core e → IsCounted e → AreListed wholes (wholes_of core here.whole e) → AreNamed wholes blocks (make (env_at core r) here e).items
  made e here h s c w = (make_in core r wholes blocks sees simple e here h s c w).0

  -- ---- built-in procedures

  one_in : (here : Here) (o : Output) → IsItem core sees o → EveryWork (simple_asks core) (item_works o) → EveryWork counted_asks (item_works o) → AreListed wholes (item_wholes core here.whole o) → AreNamed wholes blocks (write_one (env_at core r) here o)
  one_in here (plain e) h s c w = value_in core r wholes blocks here (type_of e) (make (env_at core r) here e) (no_width here) (make (env_at core r) here e).now (made e here h.0 s c w) (tt, tt)
  one_in here (padded e width) h s c w =
      value_in core r wholes blocks here (type_of e) (make (env_at core r) here e) (make (env_at core r) (past 1 here) width).items (make (env_at core r) here e).now
      (made e here h.0.0 s.0 c.0 (front_listed wholes (wholes_of core here.whole e) (wholes_of core here.whole width) w))
      (made width (past 1 here) h.1.0 s.1 c.1 (back_listed wholes (wholes_of core here.whole e) (wholes_of core here.whole width) w))

  outputs_in : (here : Here) (os : List Output) → All (IsItem core sees) os → EveryWork (simple_asks core) (items_works os) → EveryWork counted_asks (items_works os) → AreListed wholes (items_wholes core here.whole os) → AreNamed wholes blocks (write_all (env_at core r) here os)
  outputs_in here [] h s c w = tt
  outputs_in here (o ∷ os) h s c w =
      both wholes blocks (write_one (env_at core r) here o) (write_all (env_at core r) here os)
      (one_in here o (each_row (IsItem core sees) (o ∷ os) 0 o h refl) s.0 c.0 (front_listed wholes (item_wholes core here.whole o) (items_wholes core here.whole os) w))
      (outputs_in here os (All-drop (IsItem core sees) 1 (o ∷ os) h) s.1 c.1 (back_listed wholes (item_wholes core here.whole o) (items_wholes core here.whole os) w))

  bare_in : (here : Here) (v : Const) (nodes words : ℕ) (of : TypeId) → AreNamed wholes blocks (make (env_at core r) here (expression (fixed v nodes words) of no_steps)).items
  bare_in here (Ordinal n) nodes words of = (tt, tt)
  bare_in here (SetOf es) nodes words of = (tt, tt)
  bare_in here (Text bytes) nodes words of = tt
  bare_in here NilOf nodes words of = tt

  amount_in : (e : Expression) (here : Here) → IsTyped core sees e → IsSimple core e → IsCountedAmount e → AreListed wholes (wholes_of core here.whole e) → AreNamed wholes blocks (make (env_at core r) here e).items
  amount_in e here h s (inl c) w = made e here h s c w
  amount_in e here h s (inr b) w = subst (λ x. AreNamed wholes blocks (make (env_at core r) here x).items) (sym b.are) (bare_in here b.value b.nodes b.words b.of)

  -- the place is found once
  counted_in : (here : Here) (d : Direction) (target : Target) (amount : Expression) (checked : Bool) (f : Found) → AreNamed wholes blocks f.items → IsWholeIn wholes (path_of (type_of target.place) here f.now).root → AreNamed wholes blocks (make (env_at core r) (past (f.used + 1) (past_whole here)) amount).items → AreNamed wholes blocks (counted_at (env_at core r) here d target amount checked f)
  counted_in here d target amount checked f items path more =
      let of = type_of target.place in
      let t = here.temp + f.used in
      let loads = only (act (load t (kind_of core of) (path_of of here f.now))) in
      let amounts = (make (env_at core r) (past (f.used + 1) (past_whole here)) amount).items in
      let sums = acts (arithmetic (sum_or_difference d) checked t t (t + 1) ∷ []) in
      let conversions = acts (converted core target.store of t) in
      let stores = only (act (store (path_of of here f.now) (kind_of core of) t)) in
      both wholes blocks f.items (loads & (amounts & (sums & (conversions & stores)))) items
      (both wholes blocks loads (amounts & (sums & (conversions & stores))) (path, tt)
      (three wholes blocks amounts sums (conversions & stores) more (tt, tt) (both wholes blocks conversions stores (converted_in core r wholes blocks target.store of t) (path, tt))))

  changed_in : (here : Here) (o : Operator) (s e : Expression) (f : Found) → AreNamed wholes blocks f.items → IsWholeIn wholes (path_of (type_of s) here f.now).root → AreNamed wholes blocks (make (env_at core r) (past (f.used + 1) (past_whole here)) e).items → AreNamed wholes blocks (changed_set (env_at core r) here o (type_of s) e f)
  changed_in here o s e f items path more =
      let of = type_of s in
      let t = here.temp + f.used in
      three wholes blocks f.items (make (env_at core r) (past (f.used + 1) (past_whole here)) e).items (acts (lone (t + 1) (t + 1) ∷ load t Signed32 (path_of of here f.now) ∷ combine o t t (t + 1) ∷ store (path_of of here f.now) Signed32 t ∷ []))
      items more (tt, (path, (tt, (path, tt))))

  element_in : (here : Here) (o : Operator) (s e : Expression) → IsElementOf core sees s e → IsSimple core s → IsSimple core e → IsCounted s → IsCounted e → AreListed wholes (wholes_of core here.whole s ++ wholes_of core (here.whole + 1) e) → AreNamed wholes blocks (changed_set (env_at core r) here o (type_of s) e (find (env_at core r) here s))
  element_in here o s e h p q c d w =
      let f = find (env_at core r) here s in
      let found_is = find_in core r wholes blocks sees simple s here h.0.0.0 p c (front_listed wholes (wholes_of core here.whole s) (wholes_of core (here.whole + 1) e) w) in
      let path = place_in core r wholes blocks (type_of s) here f.now (place_at core r sees false s here h.0.0.0 p h.0.1) found_is.now in
      changed_in here o s e f found_is.items path (made e (past (f.used + 1) (past_whole here)) h.1 q d (back_listed wholes (wholes_of core here.whole s) (wholes_of core (here.whole + 1) e) w))

  procedure_in : (b : BuiltIn) (here : Here) → IsBuiltIn core sees b → EveryWork (simple_asks core) (built_in_works b) → EveryWork counted_asks (built_in_works b) → AreListed wholes (built_in_wholes core here.whole b) → AreNamed wholes blocks (done_built_in (env_at core r) here b)
  procedure_in (write items ends) here h s c w = both wholes blocks (write_all (env_at core r) here items) (line_end here ends) (outputs_in here items h s c w) (line_in core r wholes blocks here ends)
  procedure_in (count d target amount checked) here h s c w =
      let f = find (env_at core r) here target.place in
      let found_is = find_in core r wholes blocks sees simple target.place here h.0.0.0 s.0 c.0 (front_listed wholes (wholes_of core here.whole target.place) (wholes_of core (here.whole + 1) amount) w) in
      let path = place_in core r wholes blocks (type_of target.place) here f.now (place_at core r sees true target.place here h.0.0.0 s.0 h.0.1) found_is.now in
      counted_in here d target amount checked f found_is.items path (amount_in amount (past (f.used + 1) (past_whole here)) h.1.0 s.1 c.1 (back_listed wholes (wholes_of core here.whole target.place) (wholes_of core (here.whole + 1) amount) w))
  procedure_in (include s e) here h p c w = element_in here Add s e h p.0 p.1 c.0 c.1 w
  procedure_in (exclude s e) here h p c w = element_in here Subtract s e h p.0 p.1 c.0 c.1 w
  procedure_in (free_of e empties) here h s c w = absurd c
  procedure_in (destroy e) here h s c w = absurd c
  procedure_in (read targets ends) here h s c w = tt
  procedure_in (set_length target e) here h s c w = tt
  procedure_in (val text v code) here h s c w = tt
  procedure_in (str v target) here h s c w = tt

  -- ---- assignments

  -- what goes to a place of a type with parts is of that type
  assign_in : (target e : Expression) (here : Here) → IsTyped core sees target → IsTrue (is_place true core target) → IsValue core sees (type_of target) e → IsSimple core target → IsSimple core e → IsCounted target → IsCounted e → AreListed wholes (wholes_of core here.whole e ++ wholes_of core (here.whole + 1) target) → AreNamed wholes blocks (assigned (env_at core r) here target e)
  assign_in target e here h leads v s s' c c' w =
      let typed = value_typed core sees (type_of target) e v in
      let behind = past 1 (past_whole here) in
      let value = make_in core r wholes blocks sees simple e here typed.0 s' c' (front_listed wholes (wholes_of core here.whole e) (wholes_of core (here.whole + 1) target) w) in
      let to = find_in core r wholes blocks sees simple target behind h s c (back_listed wholes (wholes_of core here.whole e) (wholes_of core (here.whole + 1) target) w) in
      let own_is : IsWhole core (type_of target) → IsListed wholes (Temporary (type_of e) here.whole) = λ whole.
      let same = one_back_whole core (type_of e) (type_of target) typed.1 whole in
      value.1 (subst (IsWhole core) (sym same) whole) in
      stored_in core r wholes blocks (type_of e) (type_of target) here (make (env_at core r) here e) (find (env_at core r) behind target) value.0 to.items (place_at core r sees true target behind h s leads) to.now own_is

  result_in : (e : Expression) (here : Here) → IsTyped core sees e → IsSimple core e → IsCounted e → AreListed wholes (wholes_of core here.whole e) → AreNamed wholes blocks (stored_by (shape_of core (type_of e)) (type_of e) here (make (env_at core r) here e) (found none (at_path (result_path (env_at core r)))))
  result_in e here h s c w =
      let value = make_in core r wholes blocks sees simple e here h s c w in
      stored_in core r wholes blocks (type_of e) (type_of e) here (make (env_at core r) here e) (found none (at_path (result_path (env_at core r)))) value.0 tt tt tt value.1

  -- ---- statements

  mutual
    statement_in : (s : Statement) (around : Around) (here : Here) → IsStatement core sees around s → IsSimpleStatement core s → IsCountedStatement s → AreListed wholes (statement_wholes core here.whole s) → AreNamed wholes blocks (work_of (env_at core r) here s)
    statement_in empty around here h p c w = tt
    statement_in (block ss) around here h p c w = statements_in ss around here h p c w
    statement_in (if_then e s) around here h p c w =
        let test = made e here h.0.0 p.0 c.0 (front_listed wholes (wholes_of core here.whole e) (statement_wholes core here.whole s) w) in
        let first = statement_in s around here h.1 p.1 c.1 (back_listed wholes (wholes_of core here.whole e) (statement_wholes core here.whole s) w) in
        both wholes blocks (make (env_at core r) here e).items (only (choose here.temp (work_of (env_at core r) here s) none)) test ((λ k above less. tt, first, tt), tt)
    statement_in (if_else e s t) around here h p c w =
        let rest = back_listed wholes (wholes_of core here.whole e) (statement_wholes core here.whole s ++ statement_wholes core here.whole t) w in
        let test = made e here h.0.0 p.0 c.0 (front_listed wholes (wholes_of core here.whole e) (statement_wholes core here.whole s ++ statement_wholes core here.whole t) w) in
        let first = statement_in s around here h.1 p.1 c.1 (front_listed wholes (statement_wholes core here.whole s) (statement_wholes core here.whole t) rest) in
        let other = statement_in t around here h.2 p.2 c.2 (back_listed wholes (statement_wholes core here.whole s) (statement_wholes core here.whole t) rest) in
        both wholes blocks (make (env_at core r) here e).items (only (choose here.temp (work_of (env_at core r) here s) (work_of (env_at core r) here t))) test ((λ k above less. tt, first, other), tt)
    statement_in (case_of e bs ss) around here h p c w =
        let rest = back_listed wholes (wholes_of core here.whole e) (branches_wholes core here.whole bs ++ wholes_of_statements core here.whole ss) w in
        let test = made e here h.0.0 p.0 c.0 (front_listed wholes (wholes_of core here.whole e) (branches_wholes core here.whole bs ++ wholes_of_statements core here.whole ss) w) in
        let arms = branches_in bs around here (type_of e) h.1 p.1 c.1 (front_listed wholes (branches_wholes core here.whole bs) (wholes_of_statements core here.whole ss) rest) in
        let other = statements_in ss around here h.2 p.2 c.2 (back_listed wholes (branches_wholes core here.whole bs) (wholes_of_statements core here.whole ss) rest) in
        both wholes blocks (make (env_at core r) here e).items (only (select here.temp (cases_of (env_at core r) here bs) (work_of_all (env_at core r) here ss))) test ((λ chosen are. tt, arms, other), tt)
    statement_in (while_do e s) around here h p c w =
        let test = made e here h.0.0 p.0 c.0 (front_listed wholes (wholes_of core here.whole e) (statement_wholes core here.whole s) w) in
        let body = statement_in s (in_loop around) here h.1 p.1 c.1 (back_listed wholes (wholes_of core here.whole e) (statement_wholes core here.whole s) w) in
        ((λ k above less. tt, test, tt, body), tt)
    statement_in (repeat_until ss e) around here h p c w =
        let body = statements_in ss (in_loop around) here h.0 p.1 c.1 (front_listed wholes (wholes_of_statements core here.whole ss) (wholes_of core here.whole e) w) in
        let test = made e here h.1.0 p.0 c.0 (back_listed wholes (wholes_of_statements core here.whole ss) (wholes_of core here.whole e) w) in
        ((λ k above less. tt, test, tt, body), tt)
    statement_in (for_to id e direction f s) around here h p c w =
        let rest = back_listed wholes (wholes_of core here.whole e) (wholes_of core here.whole f ++ statement_wholes core here.whole s) w in
        let first = made e here h.1 p.0 c.0 (front_listed wholes (wholes_of core here.whole e) (wholes_of core here.whole f ++ statement_wholes core here.whole s) w) in
        let last = made f (past 1 here) (value_typed core sees (type_of e) f h.2).0 p.1 c.1 (front_listed wholes (wholes_of core here.whole f) (statement_wholes core here.whole s) rest) in
        let body = statement_in s (in_loop around) (past 3 here) h.3 p.2 c.2 (back_listed wholes (wholes_of core here.whole f) (statement_wholes core here.whole s) rest) in
        three wholes blocks (make (env_at core r) here e).items (make (env_at core r) (past 1 here) f).items (for_items (env_at core r) here id direction (work_of (env_at core r) (past 3 here) s)) first last (turns_in core r wholes blocks here id direction (work_of (env_at core r) (past 3 here) s) body)
    statement_in (for_in id into e s) around here h p c w =
        let n = here.whole in
        let (v, row, gives) = some_and (slice_get core.variables id.0) (λ v. (element : TypeId) × (GivesElements core (type_of e) element × Converts core into element v.of)) h.1.1 in
        let counter = counter_wholes core (n + 1) (slice_get core.variables id.0) in
        let rest = back_listed wholes (wholes_of core n e) (counter ++ statement_wholes core (n + 1) s) w in
        let collection = make_in core r wholes blocks sees simple e here h.0 p.0 c.0 (front_listed wholes (wholes_of core n e) (counter ++ statement_wholes core (n + 1) s) w) in
        let own_next = own_of core wholes (n + 1) v.of (subst (λ o. AreListed wholes (counter_wholes core (n + 1) o)) row (front_listed wholes counter (statement_wholes core (n + 1) s) rest)) in
        let body = statement_in s (in_loop around) (in_turn here) h.2 p.1 c.1 (back_listed wholes counter (statement_wholes core (n + 1) s) rest) in
        both wholes blocks (make (env_at core r) here e).items (in_collection (env_at core r) here (type_of e) (type_at core (type_of e)) id into (work_of (env_at core r) (in_turn here) s)) collection.0
        (collection_in core r wholes blocks here (type_of e) gives.0 id v into (work_of (env_at core r) (in_turn here) s) gives.1.0 row gives.1.1 collection.1 own_next body)
    statement_in (try_finally ss ts) around here h p c w =
        let a = statements_in ss around (past 2 here) h.0 p.0 c.0 (front_listed wholes (wholes_of_statements core here.whole ss) (wholes_of_statements core here.whole ts) w) in
        let b = statements_in ts (in_finally around) (past 2 here) h.1 p.1 c.1 (back_listed wholes (wholes_of_statements core here.whole ss) (wholes_of_statements core here.whole ts) w) in
        ((λ n less. tt, λ k less. tt, a, b), tt)
    statement_in (call e) around here h p c w = let found_is = find_in core r wholes blocks sees simple e here h p c w in found_is.items
    statement_in (assign target e) around here h p c w = assign_in target e here h.0 h.1 h.2 p.0 p.1 c.0 c.1 w
    statement_in exit around here h p c w = (omega arith, tt)
    statement_in (exit_with e) around here h p c w =
        let (of, is_result, v) = some_and around.result (λ of. IsValue core sees of e) h.1 in
        let stores = result_in e here (value_typed core sees of e v).0 p c w in
        both wholes blocks (stored_by (shape_of core (type_of e)) (type_of e) here (make (env_at core r) here e) (found none (at_path (result_path (env_at core r))))) (only (leave 0)) stores (omega arith, tt)
    statement_in break around here h p c w = (omega arith, tt)
    statement_in continue around here h p c w = (omega arith, tt)
    statement_in (halt_with e) around here h p c w = both wholes blocks (make (env_at core r) here e).items (only (halt here.temp)) (amount_in e here h.0 p c w) (tt, tt)
    statement_in (built_in b) around here h p c w = procedure_in b here h p c w
    statement_in (try_on ss hs) around here h p c w = absurd c
    statement_in (try_on_else ss hs ts) around here h p c w = absurd c
    statement_in (raise e) around here h p c w = absurd c
    statement_in reraise around here h p c w = absurd c

    pub statements_in : (ss : Statements) (around : Around) (here : Here) → AreStatements core sees around ss → AreSimpleStatements core ss → AreCountedStatements ss → AreListed wholes (wholes_of_statements core here.whole ss) → AreNamed wholes blocks (work_of_all (env_at core r) here ss)
    statements_in no_statements around here h p c w = tt
    statements_in (statements s ss) around here h p c w =
        both wholes blocks (work_of (env_at core r) here s) (work_of_all (env_at core r) here ss)
        (statement_in s around here h.0 p.0 c.0 (front_listed wholes (statement_wholes core here.whole s) (wholes_of_statements core here.whole ss) w))
        (statements_in ss around here h.1 p.1 c.1 (back_listed wholes (statement_wholes core here.whole s) (wholes_of_statements core here.whole ss) w))

    branches_in : (bs : Branches) (around : Around) (here : Here) (of : TypeId) → AreBranches core sees around of bs → EveryWork (simple_asks core) (branches_works bs) → EveryWork counted_asks (branches_works bs) → AreListed wholes (branches_wholes core here.whole bs) → AreMadeCases (AreWholesIn wholes) blocks (cases_of (env_at core r) here bs)
    branches_in no_branches around here of h p c w = tt
    branches_in (branches labels s bs) around here of h p c w = (
      statement_in s around here h.1 p.1 c.1 (front_listed wholes (statement_wholes core here.whole s) (branches_wholes core here.whole bs) w),
      branches_in bs around here of h.2 p.2 c.2 (back_listed wholes (statement_wholes core here.whole s) (branches_wholes core here.whole bs) w),
    )
