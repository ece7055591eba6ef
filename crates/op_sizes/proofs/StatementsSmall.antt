-- The items of a statement come to no more code than its nodes allow, and those of first values than their variables do.
use Rattle.std.proofs.Common.{◌≡◌, ◌≤◌, ℕ, zero, suc, ◌+◌, ◌*◌, Bool, true, false, List, [], ◌∷◌, length, Option, Some, None, slice_get, inl, inr, refl, sym, subst, arith}
use Rattle.op_core.specs.Expression.{Expression, expression, constant as fixed, no_steps}
use Rattle.op_core.specs.Initial.{FirstValue}
use Rattle.op_core.specs.Sizes.{type_at}
use Rattle.op_core.specs.Statement.{Item as Output, plain, padded, BuiltIn, write, read, count, set_length, include, exclude, val, str, free as free_of, destroy, Target, Statement, empty, block, if_then, if_else, case_of, while_do, repeat_until, for_to, for_in, try_finally, try_on, try_on_else, raise, reraise, call, assign, exit, exit_with, break, continue, halt as halt_with, built_in, Statements, no_statements, statements, Branches, no_branches, branches}
use Rattle.op_core.specs.StatementTyping.{host}
use Rattle.op_core.specs.Typing.{type_of}
use Rattle.op_core.specs.declared.constant.Const.{Const}
use Rattle.op_core.specs.declared.constant.Const.TheVariants.{Ordinal, Text, Set as SetOf, Nil as NilOf}
use Rattle.op_core.specs.declared.ids.TypeId.{TypeId}
use Rattle.op_core.specs.declared.ids.VariableId.{VariableId}
use Rattle.op_core.specs.declared.operation.Conversion.{Conversion}
use Rattle.op_core.specs.declared.program.Core.{Core}
use Rattle.op_core.specs.declared.statement.Label.{Label}
use Rattle.op_core.specs.declared.types.CoreType.{CoreType}
use Rattle.op_core.specs.declared.types.CoreType.TheVariants.{Array, Boolean, Char, Set}
use Rattle.op_core.specs.declared.types.IntegerKind.TheVariants.{Signed32}
use Rattle.op_frames.proofs.ExpressionsWithin.{valued_node}
use Rattle.op_frames.proofs.StatementsWithin.{counter_one}
use Rattle.op_frames.specs.Counted.{IsCounted, IsCountedAmount, IsCountedStatement, AreCountedStatements, AreCountedLabels, counted_asks}
use Rattle.op_meaning.specs.Actions.{load, store, copy, begin_with, arithmetic, single as lone, combine}
use Rattle.op_meaning.specs.Charge.{nodes_of, expression_weight, item_weight, items_weight, built_in_weight, labels_weight, statement_weight, statements_weight, branches_weight}
use Rattle.op_meaning.specs.Every.{EveryWork, branches_works, built_in_works, item_works, items_works}
use Rattle.op_meaning.specs.Expressions.{Here, past, past_whole, Env, Now, ready, at_path, a_text, Found, found, whole_path, path_of, own, then_acts, element_step, converted, find, make}
use Rattle.op_meaning.specs.Items.{act, choose, select, leave, halt, Items, none, ◌&◌, only, acts}
use Rattle.op_meaning.specs.Paths.{with_step}
use Rattle.op_meaning.specs.Shapes.{Shape, single, composite, of_chars, of_elements, of_instance, shape_of, type_of_local, type_of_variable, variables_of}
use Rattle.op_meaning.specs.Statements.{stored_by, result_path, at_variable, kind_of, write_by, write_by_now, no_width, write_one, write_all, line_end, sum_or_difference, counted_at, changed_set, done_built_in, store_variable, for_items, in_array, in_set, in_collection, in_turn, work_of, work_of_all, cases_of, first_items, write_text}
use Rattle.op_sizes.proofs.ExpressionsSmall.{both_size, three_size, acts_size, path_small, own_small, then_size, converted_small, find_small, make_small}
use Rattle.op_sizes.specs.Sizes.{action_size, items_size, cases_size}
use Rattle.op_sizes.specs.Written.{IsWritten, AreWrittenLabels, IsWrittenStatement, AreWrittenStatements, written_asks}
use Rattle.op_tree.specs.declared.operator.Operator.{Operator}
use Rattle.op_tree.specs.declared.operator.Operator.TheVariants.{Add, Subtract}
use Rattle.op_tree.specs.declared.statement.Direction.{Direction}

-- ---- assignments

stored_small : (s : Shape) (of : TypeId) (here : Here) (v target : Found) → items_size (stored_by s of here v target) ≤ items_size v.items + items_size target.items + 22 + 7 * length (path_of of here target.now).steps
stored_small (single kind) of here v target = let all = three_size v.items target.items (only (act (store (path_of of here target.now) kind here.temp))) in omega (arith, all)
stored_small composite of here v target = let all = three_size v.items target.items (only (act (copy of (path_of of here target.now) (whole_path of here)))) in omega (arith, all)
stored_small of_chars of here v target = let all = both_size v.items target.items in omega (arith, all)
stored_small of_elements of here v target = let all = both_size v.items target.items in omega (arith, all)
stored_small (of_instance holds) of here v target = let all = both_size v.items target.items in omega (arith, all)

-- ---- Write

written_small : (of : Option CoreType) (t : ℕ) → action_size (write_by of t) ≤ 6
written_small (Some Boolean) t = omega arith
written_small (Some Char) t = omega arith
written_small _ t = omega arith

value_small : (env : Env) (here : Here) (of : TypeId) (f : Found) (width : Items) (now : Now) → items_size (write_by_now env here of f width now) ≤ items_size f.items + items_size width + 6
value_small env here of f width (a_text bytes) = let all = three_size f.items width (only (act (write_text bytes (here.temp + 1)))) in omega (arith, all)
value_small env here of f width ready =
    let w = written_small (host env.core (type_at env.core of)) here.temp in
    let all = three_size f.items width (only (act (write_by (host env.core (type_at env.core of)) here.temp))) in
    omega (arith, all, w)
value_small env here of f width (at_path p) =
    let w = written_small (host env.core (type_at env.core of)) here.temp in
    let all = three_size f.items width (only (act (write_by (host env.core (type_at env.core of)) here.temp))) in
    omega (arith, all, w)

one_written : (env : Env) (here : Here) (o : Output) → EveryWork counted_asks (item_works o) → EveryWork written_asks (item_works o) → items_size (write_one env here o) ≤ 44 * nodes_of (item_weight env.core o)
one_written env here (plain e) c w =
    let i = make_small env here e c w in
    let v = value_small env here (type_of e) (make env here e) (no_width here) (make env here e).now in
    omega (arith, i, v)
one_written env here (padded e width) c w =
    let i = make_small env here e c.0 w.0 in
    let j = make_small env (past 1 here) width c.1 w.1 in
    let v = value_small env here (type_of e) (make env here e) (make env (past 1 here) width).items (make env here e).now in
    omega (arith, i, j, v)

all_written : (env : Env) (here : Here) (os : List Output) → EveryWork counted_asks (items_works os) → EveryWork written_asks (items_works os) → items_size (write_all env here os) ≤ 44 * nodes_of (items_weight env.core os)
all_written env here [] c w = omega arith
all_written env here (o ∷ os) c w =
    let first = one_written env here o c.0 w.0 in
    let rest = all_written env here os c.1 w.1 in
    let all = both_size (write_one env here o) (write_all env here os) in
    omega (arith, first, rest, all)

line_small : (here : Here) (ends : Bool) → items_size (line_end here ends) ≤ 7
line_small here false = omega arith
line_small here true = omega arith

-- ---- Inc, Dec, Include and Exclude

bare_small : (env : Env) (here : Here) (v : Const) (nodes words : ℕ) (of : TypeId) → items_size (make env here (expression (fixed v nodes words) of no_steps)).items ≤ 1
bare_small env here (Ordinal n) nodes words of = omega arith
bare_small env here (SetOf es) nodes words of = omega arith
bare_small env here (Text bytes) nodes words of = omega arith
bare_small env here NilOf nodes words of = omega arith

amount_small : (env : Env) (here : Here) (e : Expression) → IsCountedAmount e → IsWritten e → items_size (make env here e).items ≤ 1 + 44 * nodes_of (expression_weight env.core e)
amount_small env here e (inl c) w = let i = make_small env here e c w in omega (arith, i)
amount_small env here e (inr b) w =
    let i = subst (λ x. items_size (make env here x).items ≤ 1) (sym b.are) (bare_small env here b.value b.nodes b.words b.of) in
    omega (arith, i)

count_small : (env : Env) (here : Here) (d : Direction) (target : Target) (amount : Expression) (checked : Bool) → IsCounted target.place → IsCountedAmount amount → IsWritten target.place → IsWritten amount → items_size (counted_at env here d target amount checked (find env here target.place)) ≤ 44 * (1 + nodes_of (expression_weight env.core target.place) + nodes_of (expression_weight env.core amount))
count_small env here d target amount checked c a w v =
    let f = find env here target.place in
    let t = here.temp + f.used in
    let of = type_of target.place in
    let path = path_of of here f.now in
    let i = find_small env here target.place c w in
    let j = amount_small env (past (f.used + 1) (past_whole here)) amount a v in
    let p = path_small of here f.now in
    let k = converted_small env.core target.store of t in
    let conversions = converted env.core target.store of t in
    let loads = only (act (load t (kind_of env.core of) path)) in
    let amounts = (make env (past (f.used + 1) (past_whole here)) amount).items in
    let adds = acts (arithmetic (sum_or_difference d) checked t t (t + 1) ∷ []) in
    let stores = only (act (store path (kind_of env.core of) t)) in
    let one = three_size f.items loads (amounts & (adds & (acts conversions & stores))) in
    let two = three_size amounts adds (acts conversions & stores) in
    let three = both_size (acts conversions) stores in
    let four = acts_size conversions in
    omega (arith, i, j, p, k, one, two, three, four)

change_small : (env : Env) (here : Here) (o : Operator) (s e : Expression) → IsCounted s → IsCounted e → IsWritten s → IsWritten e → items_size (changed_set env here o (type_of s) e (find env here s)) ≤ 44 * (1 + nodes_of (expression_weight env.core s) + nodes_of (expression_weight env.core e))
change_small env here o s e c a w v =
    let f = find env here s in
    let t = here.temp + f.used in
    let path = path_of (type_of s) here f.now in
    let i = find_small env here s c w in
    let j = make_small env (past (f.used + 1) (past_whole here)) e a v in
    let p = path_small (type_of s) here f.now in
    let all = three_size f.items (make env (past (f.used + 1) (past_whole here)) e).items (acts (lone (t + 1) (t + 1) ∷ load t Signed32 path ∷ combine o t t (t + 1) ∷ store path Signed32 t ∷ [])) in
    omega (arith, i, j, p, all)

built_in_small : (env : Env) (here : Here) (b : BuiltIn) → EveryWork counted_asks (built_in_works b) → EveryWork written_asks (built_in_works b) → items_size (done_built_in env here b) ≤ 44 * nodes_of (built_in_weight env.core b)
built_in_small env here (write items ends) c w =
    let i = all_written env here items c w in
    let l = line_small here ends in
    let all = both_size (write_all env here items) (line_end here ends) in
    omega (arith, i, l, all)
built_in_small env here (count d target amount checked) c w = let i = count_small env here d target amount checked c.0 c.1 w.0 w.1 in omega (arith, i)
built_in_small env here (include s e) c w = let i = change_small env here Add s e c.0 c.1 w.0 w.1 in omega (arith, i)
built_in_small env here (exclude s e) c w = let i = change_small env here Subtract s e c.0 c.1 w.0 w.1 in omega (arith, i)
built_in_small env here (free_of e empties) c w = absurd c
built_in_small env here (destroy e) c w = absurd c
built_in_small env here (read targets ends) c w = omega arith
built_in_small env here (set_length target e) c w = omega arith
built_in_small env here (val text v code) c w = omega arith
built_in_small env here (str v target) c w = omega arith

-- ---- loops that count

for_small : (env : Env) (here : Here) (v : VariableId) (d : Direction) (body : Items) → items_size (for_items env here v d body) ≤ 37 + items_size body
for_small env here v d body = omega arith

in_array_small : (env : Env) (here : Here) (of element : TypeId) (v : VariableId) (into : Conversion) (body : Items) → items_size (in_array env here of element v into body) ≤ 83 + items_size body
in_array_small env here of element v into body =
    let inner = past 3 (past_whole here) in
    let f = found none (at_path (with_step (element_step env.core of here.temp) (whole_path of here))) in
    let to = type_of_variable env.core v.0 in
    let o = own_small env element inner f in
    let k = converted_small env.core into to (here.temp + 3) in
    let each = then_acts (own env element inner f) (converted env.core into to (here.temp + 3)) in
    let e = then_size (own env element inner f) (converted env.core into to (here.temp + 3)) in
    let s = stored_small (shape_of env.core to) element inner each (at_variable env v) in
    let all = both_size (stored_by (shape_of env.core to) element inner each (at_variable env v)) body in
    omega (arith, o, k, e, s, all)

in_set_small : (env : Env) (here : Here) (base : TypeId) (v : VariableId) (into : Conversion) (body : Items) → items_size (in_set env here base v into body) ≤ 39 + items_size body
in_set_small env here base v into body =
    let to = type_of_variable env.core v.0 in
    let k = converted_small env.core into to (here.temp + 4) in
    let a = acts_size (converted env.core into to (here.temp + 4)) in
    let all = both_size (acts (converted env.core into to (here.temp + 4))) (only (act (store_variable env v (here.temp + 4))) & body) in
    omega (arith, k, a, all)

collection_small : (env : Env) (here : Here) (of : TypeId) (type : Option CoreType) (v : VariableId) (into : Conversion) (body : Items) → items_size (in_collection env here of type v into body) ≤ 83 + items_size body
collection_small env here of (Some (Array index element)) v into body = in_array_small env here of element v into body
collection_small env here of (Some (Set base)) v into body = let e = in_set_small env here base v into body in omega (arith, e)
collection_small env here of _ v into body = omega arith

-- ---- labels

labels_counted : (labels : List Label) → AreCountedLabels labels → length labels ≤ nodes_of (labels_weight labels)
labels_counted [] c = omega arith
labels_counted (l ∷ ls) c = let e = labels_counted ls c.1 in let n = c.0 in omega (arith, e, n)

labels_small : (labels : List Label) → AreCountedLabels labels → AreWrittenLabels labels → 1 + 4 * length labels ≤ 44 * nodes_of (labels_weight labels)
labels_small labels c w = let e = labels_counted labels c in omega (arith, e, w)

-- ---- statements

mutual
  pub work_small : (env : Env) (here : Here) (s : Statement) → IsCountedStatement s → IsWrittenStatement s → items_size (work_of env here s) ≤ 44 * nodes_of (statement_weight env.core s)
  work_small env here empty c w = omega arith
  work_small env here (block ss) c w = let a = all_small env here ss c w in omega (arith, a)
  work_small env here (if_then e s) c w =
      let i = make_small env here e c.0 w.0 in
      let first = work_small env here s c.1 w.1 in
      let all = both_size (make env here e).items (only (choose here.temp (work_of env here s) none)) in
      omega (arith, i, first, all)
  work_small env here (if_else e s s') c w =
      let i = make_small env here e c.0 w.0 in
      let first = work_small env here s c.1 w.1 in
      let other = work_small env here s' c.2 w.2 in
      let all = both_size (make env here e).items (only (choose here.temp (work_of env here s) (work_of env here s'))) in
      omega (arith, i, first, other, all)
  work_small env here (case_of e bs ss) c w =
      let i = make_small env here e c.0 w.0 in
      let arms = branches_small env here bs c.1 w.1 in
      let other = all_small env here ss c.2 w.2 in
      let all = both_size (make env here e).items (only (select here.temp (cases_of env here bs) (work_of_all env here ss))) in
      omega (arith, i, arms, other, all)
  work_small env here (while_do e s) c w =
      let i = make_small env here e c.0 w.0 in
      let body = work_small env here s c.1 w.1 in
      omega (arith, i, body)
  work_small env here (repeat_until ss e) c w =
      let i = make_small env here e c.0 w.0 in
      let body = all_small env here ss c.1 w.1 in
      omega (arith, i, body)
  work_small env here (for_to v e d f s) c w =
      let one = counter_one env.core (slice_get env.core.variables v.0) in
      let first = make_small env here e c.0 w.0 in
      let last = make_small env (past 1 here) f c.1 w.1 in
      let body = work_small env (past 3 here) s c.2 w.2 in
      let turning = for_small env here v d (work_of env (past 3 here) s) in
      let all = three_size (make env here e).items (make env (past 1 here) f).items (for_items env here v d (work_of env (past 3 here) s)) in
      omega (arith, one, first, last, body, turning, all)
  work_small env here (for_in v into e s) c w =
      let one = counter_one env.core (slice_get env.core.variables v.0) in
      let i = make_small env here e c.0 w.0 in
      let body = work_small env (in_turn here) s c.1 w.1 in
      let turning = collection_small env here (type_of e) (type_at env.core (type_of e)) v into (work_of env (in_turn here) s) in
      let all = both_size (make env here e).items (in_collection env here (type_of e) (type_at env.core (type_of e)) v into (work_of env (in_turn here) s)) in
      omega (arith, one, i, body, turning, all)
  work_small env here (try_finally ss ts) c w =
      let a = all_small env (past 2 here) ss c.0 w.0 in
      let b = all_small env (past 2 here) ts c.1 w.1 in
      omega (arith, a, b)
  work_small env here (call e) c w = let i = find_small env here e c w in omega (arith, i)
  work_small env here (assign target e) c w =
      let v = make_small env here e c.1 w.1 in
      let to = find_small env (past 1 (past_whole here)) target c.0 w.0 in
      let f = find env (past 1 (past_whole here)) target in
      let p = path_small (type_of e) here f.now in
      let s = stored_small (shape_of env.core (type_of target)) (type_of e) here (make env here e) f in
      omega (arith, v, to, p, s)
  work_small env here exit c w = omega arith
  work_small env here (exit_with e) c w =
      let v = make_small env here e c w in
      let s = stored_small (shape_of env.core (type_of e)) (type_of e) here (make env here e) (found none (at_path (result_path env))) in
      let all = both_size (stored_by (shape_of env.core (type_of e)) (type_of e) here (make env here e) (found none (at_path (result_path env)))) (only (leave 0)) in
      omega (arith, v, s, all)
  work_small env here break c w = omega arith
  work_small env here continue c w = omega arith
  work_small env here (halt_with e) c w =
      let i = amount_small env here e c w in
      let all = both_size (make env here e).items (only (halt here.temp)) in
      omega (arith, i, all)
  work_small env here (built_in b) c w = built_in_small env here b c w
  work_small env here (try_on ss hs) c w = absurd c
  work_small env here (try_on_else ss hs ts) c w = absurd c
  work_small env here (raise e) c w = absurd c
  work_small env here reraise c w = absurd c

  pub all_small : (env : Env) (here : Here) (ss : Statements) → AreCountedStatements ss → AreWrittenStatements ss → items_size (work_of_all env here ss) ≤ 44 * nodes_of (statements_weight env.core ss)
  all_small env here no_statements c w = omega arith
  all_small env here (statements s ss) c w =
      let first = work_small env here s c.0 w.0 in
      let rest = all_small env here ss c.1 w.1 in
      let all = both_size (work_of env here s) (work_of_all env here ss) in
      omega (arith, first, rest, all)

  branches_small : (env : Env) (here : Here) (bs : Branches) → EveryWork counted_asks (branches_works bs) → EveryWork written_asks (branches_works bs) → cases_size (cases_of env here bs) ≤ 44 * nodes_of (branches_weight env.core bs)
  branches_small env here no_branches c w = omega arith
  branches_small env here (branches labels s bs) c w =
      let l = labels_small labels c.0 w.0 in
      let first = work_small env here s c.1 w.1 in
      let rest = branches_small env here bs c.2 w.2 in
      omega (arith, l, first, rest)

-- ---- first values

pub first_small : (core : Core) (first : ℕ → Option FirstValue) (r n : ℕ) → items_size (first_items core first r n) ≤ 9 * n
first_small core first r zero = omega arith
first_small core first r (suc v) = by (first_small core first r v) (first ((variables_of core r).first + v)) refl
  where
    by : items_size (first_items core first r v) ≤ 9 * v → (o : Option FirstValue) → first ((variables_of core r).first + v) ≡ o → items_size (first_items core first r (suc v)) ≤ 9 * suc v
    by so_far None e = rw e (let all = both_size (first_items core first r v) none in omega (arith, so_far, all))
    by so_far (Some value) e = rw e (let all = both_size (first_items core first r v) (only (act (begin_with v (type_of_local core r v) value))) in omega (arith, so_far, all))
