-- The items of a statement have no other literals than the statement, but for the end of a line.
use Rattle.std.proofs.Common.{◌≡◌, ◌≤◌, ℕ, ◌+◌, Bool, true, false, List, [], ◌∷◌, Option, Some, inl, inr, refl, ap, sym, subst, arith}
use Rattle.op_core.specs.Expression.{Expression, expression, constant as fixed, no_steps}
use Rattle.op_core.specs.Sizes.{type_at}
use Rattle.op_core.specs.Statement.{Item as Output, plain, padded, BuiltIn, write, read, count, set_length, include, exclude, val, str, free as free_of, destroy, Target, Statement, empty, block, if_then, if_else, case_of, while_do, repeat_until, for_to, for_in, try_finally, try_on, try_on_else, raise, reraise, call, assign, exit, exit_with, break, continue, halt as halt_with, built_in, Statements, no_statements, statements, Branches, no_branches, branches}
use Rattle.op_core.specs.StatementTyping.{host}
use Rattle.op_core.specs.Typing.{type_of}
use Rattle.op_core.specs.declared.constant.Const.TheVariants.{Ordinal, Text, Set as SetOf, Nil as NilOf}
use Rattle.op_core.specs.declared.constant.Const.{Const}
use Rattle.op_core.specs.declared.ids.TypeId.{TypeId}
use Rattle.op_core.specs.declared.ids.VariableId.{VariableId}
use Rattle.op_core.specs.declared.operation.Conversion.{Conversion}
use Rattle.op_core.specs.declared.program.Core.{Core}
use Rattle.op_core.specs.declared.types.CoreType.TheVariants.{Array, Boolean, Char, Set}
use Rattle.op_core.specs.declared.types.CoreType.{CoreType}
use Rattle.op_core.specs.declared.types.IntegerKind.TheVariants.{Signed32}
use Rattle.op_frames.specs.Counted.{IsCounted, IsCountedAmount, IsCountedStatement, AreCountedStatements, counted_asks}
use Rattle.op_meaning.specs.Actions.{load, store, copy, arithmetic, single as lone, combine}
use Rattle.op_meaning.specs.Every.{EveryWork, branches_works, built_in_works, item_works, items_works}
use Rattle.op_meaning.specs.Expressions.{Here, past, past_whole, Env, Now, ready, at_path, a_text, Found, found, whole_path, path_of, own, then_acts, element_step, converted, find, make}
use Rattle.op_meaning.specs.Items.{act, choose, select, leave, halt, Items, none, ◌&◌, only, acts}
use Rattle.op_meaning.specs.Paths.{with_step}
use Rattle.op_meaning.specs.Shapes.{Shape, single, composite, of_chars, of_elements, of_instance, shape_of, type_of_variable}
use Rattle.op_meaning.specs.Statements.{stored_by, result_path, at_variable, kind_of, write_by, write_by_now, no_width, write_one, write_all, line_end, sum_or_difference, counted_at, changed_set, done_built_in, store_variable, for_items, in_array, in_set, in_collection, in_turn, work_of, work_of_all, cases_of, write_text}
use Rattle.op_meaning.specs.Texts.{line_feed}
use Rattle.op_sizes.proofs.ExpressionTexts.{both_text, three_text, acts_text, found_text, now_text, own_keeps, then_text, converted_keeps, find_keeps, make_keeps}
use Rattle.op_sizes.proofs.TextsKept.{action_text, cases_text, items_text, total, total_join, total_three}
use Rattle.op_sizes.specs.Texts.{constant_texts, expression_texts, item_texts, items_texts, built_in_texts, statement_texts, statements_texts, branches_texts}
use Rattle.op_tree.specs.declared.operator.Operator.TheVariants.{Add, Subtract}
use Rattle.op_tree.specs.declared.operator.Operator.{Operator}
use Rattle.op_tree.specs.declared.statement.Direction.{Direction}

module _ (w : List ℕ → ℕ) (no_line : w line_feed ≡ 0) (g : Core) where
  -- ---- assignments

  stored_keeps : (s : Shape) (of : TypeId) (here : Here) (v target : Found) → items_text w g (stored_by s of here v target) ≤ items_text w g v.items + items_text w g target.items
  stored_keeps (single kind) of here v target = let all = three_text w g v.items target.items (only (act (store (path_of of here target.now) kind here.temp))) in omega (arith, all)
  stored_keeps composite of here v target = let all = three_text w g v.items target.items (only (act (copy of (path_of of here target.now) (whole_path of here)))) in omega (arith, all)
  stored_keeps of_chars of here v target = let all = both_text w g v.items target.items in omega (arith, all)
  stored_keeps of_elements of here v target = let all = both_text w g v.items target.items in omega (arith, all)
  stored_keeps (of_instance holds) of here v target = let all = both_text w g v.items target.items in omega (arith, all)

  -- ---- Write

  written_keeps : (of : Option CoreType) (t : ℕ) → action_text w g (write_by of t) ≤ 0
  written_keeps (Some Boolean) t = omega arith
  written_keeps (Some Char) t = omega arith
  written_keeps _ t = omega arith

  value_keeps : (env : Env) (here : Here) (of : TypeId) (f : Found) (width : Items) (now : Now) → f.now ≡ now → items_text w g (write_by_now env here of f width now) ≤ found_text w g f + items_text w g width
  value_keeps env here of f width (a_text bytes) e = let all = three_text w g f.items width (only (act (write_text bytes (here.temp + 1)))) in let now = ap (now_text w g) e in omega (arith, all, now)
  value_keeps env here of f width ready e =
      let said = written_keeps (host env.core (type_at env.core of)) here.temp in
      let all = three_text w g f.items width (only (act (write_by (host env.core (type_at env.core of)) here.temp))) in
      omega (arith, all, said)
  value_keeps env here of f width (at_path p) e =
      let said = written_keeps (host env.core (type_at env.core of)) here.temp in
      let all = three_text w g f.items width (only (act (write_by (host env.core (type_at env.core of)) here.temp))) in
      omega (arith, all, said)

  one_written : (env : Env) (here : Here) (o : Output) → EveryWork counted_asks (item_works o) → items_text w g (write_one env here o) ≤ total w (item_texts o)
  one_written env here (plain e) c =
      let i = make_keeps w g env here e c in
      let v = value_keeps env here (type_of e) (make env here e) (no_width here) (make env here e).now refl in
      omega (arith, i, v)
  one_written env here (padded e width) c =
      let i = make_keeps w g env here e c.0 in
      let j = make_keeps w g env (past 1 here) width c.1 in
      let v = value_keeps env here (type_of e) (make env here e) (make env (past 1 here) width).items (make env here e).now refl in
      let both = total_join w (expression_texts e) (expression_texts width) in
      omega (arith, i, j, v, both)

  all_written : (env : Env) (here : Here) (os : List Output) → EveryWork counted_asks (items_works os) → items_text w g (write_all env here os) ≤ total w (items_texts os)
  all_written env here [] c = omega arith
  all_written env here (o ∷ os) c =
      let first = one_written env here o c.0 in
      let rest = all_written env here os c.1 in
      let all = both_text w g (write_one env here o) (write_all env here os) in
      let both = total_join w (item_texts o) (items_texts os) in
      omega (arith, first, rest, all, both)

  line_keeps : (here : Here) (ends : Bool) → items_text w g (line_end here ends) ≤ 0
  line_keeps here false = omega arith
  line_keeps here true = omega (arith, no_line)

  -- ---- Inc, Dec, Include and Exclude

  bare_keeps : (env : Env) (here : Here) (v : Const) (nodes words : ℕ) (of : TypeId) → items_text w g (make env here (expression (fixed v nodes words) of no_steps)).items ≤ total w (constant_texts v)
  bare_keeps env here (Ordinal n) nodes words of = omega arith
  bare_keeps env here (SetOf es) nodes words of = omega arith
  bare_keeps env here (Text bytes) nodes words of = omega arith
  bare_keeps env here NilOf nodes words of = omega arith

  bare_whole : (env : Env) (here : Here) (v : Const) (nodes words : ℕ) (of : TypeId) → items_text w g (make env here (expression (fixed v nodes words) of no_steps)).items ≤ total w (expression_texts (expression (fixed v nodes words) of no_steps))
  bare_whole env here v nodes words of = let e = bare_keeps env here v nodes words of in let j = total_join w (constant_texts v) [] in omega (arith, e, j)

  amount_keeps : (env : Env) (here : Here) (e : Expression) → IsCountedAmount e → items_text w g (make env here e).items ≤ total w (expression_texts e)
  amount_keeps env here e (inl c) = let i = make_keeps w g env here e c in omega (arith, i)
  amount_keeps env here e (inr b) =
      let i = subst (λ x. items_text w g (make env here x).items ≤ total w (expression_texts x)) (sym b.are) (bare_whole env here b.value b.nodes b.words b.of) in
      omega (arith, i)

  count_keeps : (env : Env) (here : Here) (d : Direction) (target : Target) (amount : Expression) (checked : Bool) → IsCounted target.place → IsCountedAmount amount → items_text w g (counted_at env here d target amount checked (find env here target.place)) ≤ total w (expression_texts target.place) + total w (expression_texts amount)
  count_keeps env here d target amount checked c a =
      let f = find env here target.place in
      let t = here.temp + f.used in
      let of = type_of target.place in
      let path = path_of of here f.now in
      let i = find_keeps w g env here target.place c in
      let j = amount_keeps env (past (f.used + 1) (past_whole here)) amount a in
      let k = converted_keeps w g env.core target.store of t in
      let conversions = converted env.core target.store of t in
      let loads = only (act (load t (kind_of env.core of) path)) in
      let amounts = (make env (past (f.used + 1) (past_whole here)) amount).items in
      let adds = acts (arithmetic (sum_or_difference d) checked t t (t + 1) ∷ []) in
      let stores = only (act (store path (kind_of env.core of) t)) in
      let one = three_text w g f.items loads (amounts & (adds & (acts conversions & stores))) in
      let two = three_text w g amounts adds (acts conversions & stores) in
      let three = both_text w g (acts conversions) stores in
      let four = acts_text w g conversions in
      omega (arith, i, j, k, one, two, three, four)

  change_keeps : (env : Env) (here : Here) (o : Operator) (s e : Expression) → IsCounted s → IsCounted e → items_text w g (changed_set env here o (type_of s) e (find env here s)) ≤ total w (expression_texts s) + total w (expression_texts e)
  change_keeps env here o s e c a =
      let f = find env here s in
      let t = here.temp + f.used in
      let path = path_of (type_of s) here f.now in
      let i = find_keeps w g env here s c in
      let j = make_keeps w g env (past (f.used + 1) (past_whole here)) e a in
      let all = three_text w g f.items (make env (past (f.used + 1) (past_whole here)) e).items (acts (lone (t + 1) (t + 1) ∷ load t Signed32 path ∷ combine o t t (t + 1) ∷ store path Signed32 t ∷ [])) in
      omega (arith, i, j, all)

  built_in_keeps : (env : Env) (here : Here) (b : BuiltIn) → EveryWork counted_asks (built_in_works b) → items_text w g (done_built_in env here b) ≤ total w (built_in_texts b)
  built_in_keeps env here (write items ends) c =
      let i = all_written env here items c in
      let l = line_keeps here ends in
      let all = both_text w g (write_all env here items) (line_end here ends) in
      omega (arith, i, l, all)
  built_in_keeps env here (count d target amount checked) c =
      let i = count_keeps env here d target amount checked c.0 c.1 in
      let both = total_join w (expression_texts target.place) (expression_texts amount) in
      omega (arith, i, both)
  built_in_keeps env here (include s e) c = let i = change_keeps env here Add s e c.0 c.1 in let both = total_join w (expression_texts s) (expression_texts e) in omega (arith, i, both)
  built_in_keeps env here (exclude s e) c = let i = change_keeps env here Subtract s e c.0 c.1 in let both = total_join w (expression_texts s) (expression_texts e) in omega (arith, i, both)
  built_in_keeps env here (free_of e empties) c = absurd c
  built_in_keeps env here (destroy e) c = absurd c
  built_in_keeps env here (read targets ends) c = omega arith
  built_in_keeps env here (set_length target e) c = omega arith
  built_in_keeps env here (val text v code) c = omega arith
  built_in_keeps env here (str v target) c = omega arith

  -- ---- loops that count

  for_keeps : (env : Env) (here : Here) (v : VariableId) (d : Direction) (body : Items) → items_text w g (for_items env here v d body) ≤ items_text w g body
  for_keeps env here v d body = omega arith

  in_array_keeps : (env : Env) (here : Here) (of element : TypeId) (v : VariableId) (into : Conversion) (body : Items) → items_text w g (in_array env here of element v into body) ≤ items_text w g body
  in_array_keeps env here of element v into body =
      let inner = past 3 (past_whole here) in
      let f = found none (at_path (with_step (element_step env.core of here.temp) (whole_path of here))) in
      let to = type_of_variable env.core v.0 in
      let o = own_keeps w g env element inner f in
      let k = converted_keeps w g env.core into to (here.temp + 3) in
      let each = then_acts (own env element inner f) (converted env.core into to (here.temp + 3)) in
      let e = then_text w g (own env element inner f) (converted env.core into to (here.temp + 3)) in
      let s = stored_keeps (shape_of env.core to) element inner each (at_variable env v) in
      let all = both_text w g (stored_by (shape_of env.core to) element inner each (at_variable env v)) body in
      omega (arith, o, k, e, s, all)

  in_set_keeps : (env : Env) (here : Here) (base : TypeId) (v : VariableId) (into : Conversion) (body : Items) → items_text w g (in_set env here base v into body) ≤ items_text w g body
  in_set_keeps env here base v into body =
      let to = type_of_variable env.core v.0 in
      let k = converted_keeps w g env.core into to (here.temp + 4) in
      let a = acts_text w g (converted env.core into to (here.temp + 4)) in
      let all = both_text w g (acts (converted env.core into to (here.temp + 4))) (only (act (store_variable env v (here.temp + 4))) & body) in
      omega (arith, k, a, all)

  collection_keeps : (env : Env) (here : Here) (of : TypeId) (type : Option CoreType) (v : VariableId) (into : Conversion) (body : Items) → items_text w g (in_collection env here of type v into body) ≤ items_text w g body
  collection_keeps env here of (Some (Array index element)) v into body = in_array_keeps env here of element v into body
  collection_keeps env here of (Some (Set base)) v into body = let e = in_set_keeps env here base v into body in omega (arith, e)
  collection_keeps env here of _ v into body = omega arith

  -- ---- statements

  mutual
    pub work_keeps : (env : Env) (here : Here) (s : Statement) → IsCountedStatement s → items_text w g (work_of env here s) ≤ total w (statement_texts s)
    work_keeps env here empty c = omega arith
    work_keeps env here (block ss) c = let a = all_keeps env here ss c in omega (arith, a)
    work_keeps env here (if_then e s) c =
        let i = make_keeps w g env here e c.0 in
        let first = work_keeps env here s c.1 in
        let all = both_text w g (make env here e).items (only (choose here.temp (work_of env here s) none)) in
        let both = total_join w (expression_texts e) (statement_texts s) in
        omega (arith, i, first, all, both)
    work_keeps env here (if_else e s s') c =
        let i = make_keeps w g env here e c.0 in
        let first = work_keeps env here s c.1 in
        let other = work_keeps env here s' c.2 in
        let all = both_text w g (make env here e).items (only (choose here.temp (work_of env here s) (work_of env here s'))) in
        let three = total_three w (expression_texts e) (statement_texts s) (statement_texts s') in
        omega (arith, i, first, other, all, three)
    work_keeps env here (case_of e bs ss) c =
        let i = make_keeps w g env here e c.0 in
        let arms = branches_keeps env here bs c.1 in
        let other = all_keeps env here ss c.2 in
        let all = both_text w g (make env here e).items (only (select here.temp (cases_of env here bs) (work_of_all env here ss))) in
        let three = total_three w (expression_texts e) (branches_texts bs) (statements_texts ss) in
        omega (arith, i, arms, other, all, three)
    work_keeps env here (while_do e s) c =
        let i = make_keeps w g env here e c.0 in
        let body = work_keeps env here s c.1 in
        let both = total_join w (expression_texts e) (statement_texts s) in
        omega (arith, i, body, both)
    work_keeps env here (repeat_until ss e) c =
        let i = make_keeps w g env here e c.0 in
        let body = all_keeps env here ss c.1 in
        let both = total_join w (statements_texts ss) (expression_texts e) in
        omega (arith, i, body, both)
    work_keeps env here (for_to v e d f s) c =
        let first = make_keeps w g env here e c.0 in
        let last = make_keeps w g env (past 1 here) f c.1 in
        let body = work_keeps env (past 3 here) s c.2 in
        let turning = for_keeps env here v d (work_of env (past 3 here) s) in
        let all = three_text w g (make env here e).items (make env (past 1 here) f).items (for_items env here v d (work_of env (past 3 here) s)) in
        let three = total_three w (expression_texts e) (expression_texts f) (statement_texts s) in
        omega (arith, first, last, body, turning, all, three)
    work_keeps env here (for_in v into e s) c =
        let i = make_keeps w g env here e c.0 in
        let body = work_keeps env (in_turn here) s c.1 in
        let turning = collection_keeps env here (type_of e) (type_at env.core (type_of e)) v into (work_of env (in_turn here) s) in
        let all = both_text w g (make env here e).items (in_collection env here (type_of e) (type_at env.core (type_of e)) v into (work_of env (in_turn here) s)) in
        let both = total_join w (expression_texts e) (statement_texts s) in
        omega (arith, i, body, turning, all, both)
    work_keeps env here (try_finally ss ts) c =
        let a = all_keeps env (past 2 here) ss c.0 in
        let b = all_keeps env (past 2 here) ts c.1 in
        let both = total_join w (statements_texts ss) (statements_texts ts) in
        omega (arith, a, b, both)
    work_keeps env here (call e) c = let i = find_keeps w g env here e c in omega (arith, i)
    work_keeps env here (assign target e) c =
        let v = make_keeps w g env here e c.1 in
        let to = find_keeps w g env (past 1 (past_whole here)) target c.0 in
        let f = find env (past 1 (past_whole here)) target in
        let s = stored_keeps (shape_of env.core (type_of target)) (type_of e) here (make env here e) f in
        let both = total_join w (expression_texts target) (expression_texts e) in
        omega (arith, v, to, s, both)
    work_keeps env here exit c = omega arith
    work_keeps env here (exit_with e) c =
        let v = make_keeps w g env here e c in
        let s = stored_keeps (shape_of env.core (type_of e)) (type_of e) here (make env here e) (found none (at_path (result_path env))) in
        let all = both_text w g (stored_by (shape_of env.core (type_of e)) (type_of e) here (make env here e) (found none (at_path (result_path env)))) (only (leave 0)) in
        omega (arith, v, s, all)
    work_keeps env here break c = omega arith
    work_keeps env here continue c = omega arith
    work_keeps env here (halt_with e) c =
        let i = amount_keeps env here e c in
        let all = both_text w g (make env here e).items (only (halt here.temp)) in
        omega (arith, i, all)
    work_keeps env here (built_in b) c = built_in_keeps env here b c
    work_keeps env here (try_on ss hs) c = absurd c
    work_keeps env here (try_on_else ss hs ts) c = absurd c
    work_keeps env here (raise e) c = absurd c
    work_keeps env here reraise c = absurd c

    pub all_keeps : (env : Env) (here : Here) (ss : Statements) → AreCountedStatements ss → items_text w g (work_of_all env here ss) ≤ total w (statements_texts ss)
    all_keeps env here no_statements c = omega arith
    all_keeps env here (statements s ss) c =
        let first = work_keeps env here s c.0 in
        let rest = all_keeps env here ss c.1 in
        let all = both_text w g (work_of env here s) (work_of_all env here ss) in
        let both = total_join w (statement_texts s) (statements_texts ss) in
        omega (arith, first, rest, all, both)

    branches_keeps : (env : Env) (here : Here) (bs : Branches) → EveryWork counted_asks (branches_works bs) → cases_text w g (cases_of env here bs) ≤ total w (branches_texts bs)
    branches_keeps env here no_branches c = omega arith
    branches_keeps env here (branches labels s bs) c =
        let first = work_keeps env here s c.1 in
        let rest = branches_keeps env here bs c.2 in
        let both = total_join w (statement_texts s) (branches_texts bs) in
        omega (arith, first, rest, both)
