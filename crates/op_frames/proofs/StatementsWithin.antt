-- The items of a statement name no more temporaries, and their code takes no more scratch registers, than twice its nodes.
use Rattle.std.proofs.Common.{◌≡◌, ◌<◌, ◌≤◌, ◌⊎◌, ℕ, zero, suc, ℤ, pos, ◌+◌, ◌*◌, Bool, true, false, List, [], ◌∷◌, ◌++◌, length, Option, Some, None, slice_get, inl, inr, refl, sym, ap, ◌∙◌, subst, arith}
use Rattle.op_core.specs.Expression.{Expression, expression, constant as fixed, no_steps}
use Rattle.op_core.specs.Sizes.{type_at}
use Rattle.op_core.specs.Statement.{Item as Output, plain, padded, BuiltIn, write, read, count, set_length, include, exclude, val, str, free as free_of, destroy, Target, Statement, empty, block, if_then, if_else, case_of, while_do, repeat_until, for_to, for_in, try_finally, try_on, try_on_else, raise, reraise, call, assign, exit, exit_with, break, continue, halt as halt_with, built_in, Statements, no_statements, statements, Branches, no_branches, branches}
use Rattle.op_core.specs.StatementTyping.{host}
use Rattle.op_core.specs.Typing.{type_of}
use Rattle.op_core.specs.declared.constant.Const.{Const}
use Rattle.op_core.specs.declared.constant.Const.TheVariants.{Ordinal, Text, Set as SetOf, Nil as NilOf}
use Rattle.op_core.specs.declared.ids.TypeId.{TypeId}
use Rattle.op_core.specs.declared.ids.VariableId.{VariableId}
use Rattle.op_core.specs.declared.operation.Conversion.{Conversion}
use Rattle.op_core.specs.declared.program.Core.{Core}
use Rattle.op_core.specs.declared.routine.Variable.{Variable}
use Rattle.op_core.specs.declared.statement.Label.{Label}
use Rattle.op_core.specs.declared.types.CoreType.{CoreType}
use Rattle.op_core.specs.declared.types.CoreType.TheVariants.{Array, Boolean, Char, Set}
use Rattle.op_core.specs.declared.types.IntegerKind.TheVariants.{Signed32}
use Rattle.op_frames.proofs.ExpressionsWithin.{IsFound, IsNow, made_both, made_acts, expression_some, path_short, steps_more, loaded_well, acts_well, converted_well, find_well, make_well, valued_node}
use Rattle.op_frames.specs.Counted.{IsCounted, IsBare, IsCountedAmount, IsCountedStatement, AreCountedStatements, AreCountedLabels, counted_asks}
use Rattle.op_frames.specs.Made.{Every, AreMade, IsMade, AreMadeTurns, AreMadeCases, ArmsOf}
use Rattle.op_frames.specs.Within.{StepsBelow, ActionBelow, IsWithin, labels_among}
use Rattle.op_meaning.specs.Charge.{Weight, nodes_of, expression_weight, item_weight, items_weight, built_in_weight, labels_weight, counter_weight, statement_weight, statements_weight, branches_weight}
use Rattle.op_meaning.specs.Actions.{Action, constant, load, store, copy, arithmetic, compare, check, single as lone, combine, contains}
use Rattle.op_meaning.specs.Every.{EveryWork, branches_works, built_in_works, item_works, items_works}
use Rattle.op_meaning.specs.Expressions.{Here, past, past_whole, Env, Now, ready, at_path, a_text, Found, found, whole_path, path_of, own, then_acts, low_in, high_in, counted_of, element_step, converted, find, make}
use Rattle.op_meaning.specs.Items.{act, choose, select, loop, body_first, protect, leave, halt, Items, none, then_do, Turns, turns, Cases, no_cases, cases, ◌&◌, only, acts}
use Rattle.op_meaning.specs.Paths.{Path, Step, with_step}
use Rattle.op_meaning.specs.Shapes.{Shape, single, composite, of_chars, of_elements, of_instance, shape_of, type_of_variable}
use Rattle.op_meaning.specs.Statements.{stored_by, assigned, result_path, variable_path, at_variable, kind_of, write_by, write_by_now, write_value, no_width, write_one, write_all, write_text, line_end, sum_or_difference, counted_at, changed_set, done_built_in, counting, check_bound, store_variable, for_items, in_array, in_set, in_collection, in_turn, work_of, work_of_all, cases_of}
use Rattle.op_mir.specs.Code.{Instr, do_act, Arm}
use Rattle.op_tree.specs.declared.operator.Operator.{Operator}
use Rattle.op_tree.specs.declared.operator.Operator.TheVariants.{Add, Subtract}
use Rattle.op_tree.specs.declared.statement.Direction.{Direction}
use Rattle.op_tree.specs.declared.statement.Direction.TheVariants.{To, Downto}

pub counter_one : (core : Core) (v : Option Variable) → nodes_of (counter_weight core v) ≡ 1
counter_one core None = refl
counter_one core (Some v) = valued_node core v.of

module _ (blocks top room : ℕ) where
  abbrev pub IsItems : Items → Type 0
  IsItems items = AreMade (IsWithin top room) blocks items

  both : (a b : Items) → IsItems a → IsItems b → IsItems (a & b)
  both a b p q = made_both (IsWithin top room) blocks a b p q

  three_parts : (a b c : Items) → IsItems a → IsItems b → IsItems c → IsItems (a & (b & c))
  three_parts a b c p q s = both a (b & c) p (both b c q s)

  -- ---- assignments

  stored_well : (s : Shape) (of : TypeId) (here : Here) (v target : Found) (limit n : ℕ) → IsItems v.items → IsItems target.items → 1 ≤ n → IsNow blocks top room limit n target.now → limit ≤ top → here.temp < top → 2 * n + 1 ≤ room → IsItems (stored_by s of here v target)
  stored_well (single kind) of here v target limit n a b some now less t r =
      let p = path_short blocks top room of here limit n target.now some now in
      three_parts v.items target.items (only (act (store (path_of of here target.now) kind here.temp))) a b (((t, steps_more limit top (path_of of here target.now).steps less p.1), omega (arith, p.0, r)), tt)
  stored_well composite of here v target limit n a b some now less t r =
      let p = path_short blocks top room of here limit n target.now some now in
      let few : 1 + (1 + 2 * length (path_of of here target.now).steps) + 1 ≤ room = omega (arith, p.0, r) in
      three_parts v.items target.items (only (act (copy of (path_of of here target.now) (whole_path of here)))) a b (((steps_more limit top (path_of of here target.now).steps less p.1, tt), few), tt)
  stored_well of_chars of here v target limit n a b some now less t r = both v.items target.items a b
  stored_well of_elements of here v target limit n a b some now less t r = both v.items target.items a b
  stored_well (of_instance holds) of here v target limit n a b some now less t r = both v.items target.items a b

  -- ---- Write

  written_well : (of : Option CoreType) (t : ℕ) → t + 1 < top → 3 ≤ room → IsWithin top room (do_act (write_by of t) None)
  written_well (Some Boolean) t less r = (((omega (arith, less), (less, tt)), tt), omega (arith, r))
  written_well (Some Char) t less r = (((omega (arith, less), (less, tt)), tt), omega (arith, r))
  written_well _ t less r = (((omega (arith, less), (less, tt)), tt), omega (arith, r))

  value_well : (env : Env) (here : Here) (of : TypeId) (f : Found) (width : Items) (now : Now) → IsItems f.items → IsItems width → here.temp + 1 < top → 3 ≤ room → IsItems (write_by_now env here of f width now)
  value_well env here of f width (a_text bytes) a b less r = three_parts f.items width (only (act (write_text bytes (here.temp + 1)))) a b ((((tt, (less, tt)), tt), r), tt)
  value_well env here of f width ready a b less r = three_parts f.items width (only (act (write_by (host env.core (type_at env.core of)) here.temp))) a b (written_well (host env.core (type_at env.core of)) here.temp less r, tt)
  value_well env here of f width (at_path p) a b less r = three_parts f.items width (only (act (write_by (host env.core (type_at env.core of)) here.temp))) a b (written_well (host env.core (type_at env.core of)) here.temp less r, tt)

  one_written : (env : Env) (here : Here) (o : Output) → EveryWork counted_asks (item_works o) → here.temp + 2 * (1 + nodes_of (item_weight env.core o)) ≤ top → 2 * (1 + nodes_of (item_weight env.core o)) + 1 ≤ room → IsItems (write_one env here o)
  one_written env here (plain e) c t r =
      let w = make_well blocks top room env here e c (omega (arith, t)) (omega (arith, r)) in
      value_well env here (type_of e) (make env here e) (no_width here) (make env here e).now w.items ((omega (arith, t), omega arith), tt) (omega (arith, t)) (omega (arith, r))
  one_written env here (padded e width) c t r =
      let w = make_well blocks top room env here e c.0 (omega (arith, t)) (omega (arith, r)) in
      let w' = make_well blocks top room env (past 1 here) width c.1 (omega (arith, t)) (omega (arith, r)) in
      value_well env here (type_of e) (make env here e) (make env (past 1 here) width).items (make env here e).now w.items w'.items (omega (arith, t)) (omega (arith, r))

  all_written : (env : Env) (here : Here) (os : List Output) → EveryWork counted_asks (items_works os) → here.temp + 2 * (1 + nodes_of (items_weight env.core os)) ≤ top → 2 * (1 + nodes_of (items_weight env.core os)) + 1 ≤ room → IsItems (write_all env here os)
  all_written env here [] c t r = tt
  all_written env here (o ∷ os) c t r =
      both (write_one env here o) (write_all env here os) (one_written env here o c.0 (omega (arith, t)) (omega (arith, r))) (all_written env here os c.1 (omega (arith, t)) (omega (arith, r)))

  line_well : (here : Here) (ends : Bool) → here.temp + 2 ≤ top → 3 ≤ room → IsItems (line_end here ends)
  line_well here false t r = tt
  line_well here true t r = ((omega (arith, t), omega arith), ((((tt, (omega (arith, t), tt)), tt), r), tt))

  -- ---- Inc, Dec, Include and Exclude

  bare_well : (env : Env) (here : Here) (v : Const) (nodes words : ℕ) (of : TypeId) → here.temp < top → IsItems (make env here (expression (fixed v nodes words) of no_steps)).items
  bare_well env here (Ordinal n) nodes words of t = ((t, omega arith), tt)
  bare_well env here (SetOf es) nodes words of t = ((t, omega arith), tt)
  bare_well env here (Text bytes) nodes words of t = tt
  bare_well env here NilOf nodes words of t = tt

  amount_well : (env : Env) (here : Here) (e : Expression) → IsCountedAmount e → here.temp + (1 + 2 * nodes_of (expression_weight env.core e)) ≤ top → 2 * nodes_of (expression_weight env.core e) + 1 ≤ room → IsItems (make env here e).items
  amount_well env here e (inl c) t r = let w = make_well blocks top room env here e c (omega (arith, t)) r in w.items
  amount_well env here e (inr b) t r = subst (λ x. IsItems (make env here x).items) (sym b.are) (bare_well env here b.value b.nodes b.words b.of (omega (arith, t)))

  count_well : (env : Env) (here : Here) (d : Direction) (target : Target) (amount : Expression) (checked : Bool) → IsCounted target.place → IsCountedAmount amount → here.temp + 2 * (1 + nodes_of (expression_weight env.core target.place) + nodes_of (expression_weight env.core amount)) ≤ top → 2 * (1 + nodes_of (expression_weight env.core target.place) + nodes_of (expression_weight env.core amount)) + 1 ≤ room → IsItems (counted_at env here d target amount checked (find env here target.place))
  count_well env here d target amount checked c a t r =
      let f = find env here target.place in
      let n = nodes_of (expression_weight env.core target.place) in
      let some = expression_some env.core target.place c in
      let w = find_well blocks top room env here target.place c (omega (arith, t)) (omega (arith, r)) in
      let p = path_short blocks top room (type_of target.place) here (here.temp + f.used) n f.now some w.now in
      let path = path_of (type_of target.place) here f.now in
      let below = steps_more (here.temp + f.used) top path.steps (omega (arith, w.used, t)) p.1 in
      let at : here.temp + f.used < top = omega (arith, w.used, t) in
      let next : here.temp + f.used + 1 < top = omega (arith, w.used, t) in
      let three : 3 ≤ room = omega (arith, r) in
      let short : 1 + 2 * length path.steps ≤ room = omega (arith, p.0, r) in
      let am = amount_well env (past (f.used + 1) (past_whole here)) amount a (omega (arith, w.used, t)) (omega (arith, r)) in
      let cv = converted_well blocks top room (here.temp + f.used) at three env.core target.store (type_of target.place) in
      let loads : IsItems (only (act (load (here.temp + f.used) (kind_of env.core (type_of target.place)) path))) = (((at, below), short), tt) in
      let adds : IsItems (acts (arithmetic (sum_or_difference d) checked (here.temp + f.used) (here.temp + f.used) (here.temp + f.used + 1) ∷ [])) = (((at, at, next), three), tt) in
      let stores : IsItems (only (act (store path (kind_of env.core (type_of target.place)) (here.temp + f.used)))) = (((at, below), short), tt) in
      let conversions = converted env.core target.store (type_of target.place) (here.temp + f.used) in
      let make_items = (make env (past (f.used + 1) (past_whole here)) amount).items in
      let load_items = only (act (load (here.temp + f.used) (kind_of env.core (type_of target.place)) path)) in
      let add_items = acts (arithmetic (sum_or_difference d) checked (here.temp + f.used) (here.temp + f.used) (here.temp + f.used + 1) ∷ []) in
      let store_items = only (act (store path (kind_of env.core (type_of target.place)) (here.temp + f.used))) in
      let converts = made_acts (IsWithin top room) blocks conversions cv in
      both f.items (load_items & (make_items & (add_items & (acts conversions & store_items)))) w.items
      (both load_items (make_items & (add_items & (acts conversions & store_items))) loads
      (three_parts make_items add_items (acts conversions & store_items) am adds (both (acts conversions) store_items converts stores)))

  change_well : (env : Env) (here : Here) (o : Operator) (s e : Expression) → IsCounted s → IsCounted e → here.temp + 2 * (1 + nodes_of (expression_weight env.core s) + nodes_of (expression_weight env.core e)) ≤ top → 2 * (1 + nodes_of (expression_weight env.core s) + nodes_of (expression_weight env.core e)) + 1 ≤ room → IsItems (changed_set env here o (type_of s) e (find env here s))
  change_well env here o s e c a t r =
      let f = find env here s in
      let n = nodes_of (expression_weight env.core s) in
      let some = expression_some env.core s c in
      let w = find_well blocks top room env here s c (omega (arith, t)) (omega (arith, r)) in
      let p = path_short blocks top room (type_of s) here (here.temp + f.used) n f.now some w.now in
      let path = path_of (type_of s) here f.now in
      let below = steps_more (here.temp + f.used) top path.steps (omega (arith, w.used, t)) p.1 in
      let at : here.temp + f.used < top = omega (arith, w.used, t) in
      let next : here.temp + f.used + 1 < top = omega (arith, w.used, t) in
      let three : 3 ≤ room = omega (arith, r) in
      let short : 1 + 2 * length path.steps ≤ room = omega (arith, p.0, r) in
      let x = make_well blocks top room env (past (f.used + 1) (past_whole here)) e a (omega (arith, w.used, t)) (omega (arith, r)) in
      three_parts f.items (make env (past (f.used + 1) (past_whole here)) e).items (acts (lone (here.temp + f.used + 1) (here.temp + f.used + 1) ∷ load (here.temp + f.used) Signed32 path ∷ combine o (here.temp + f.used) (here.temp + f.used) (here.temp + f.used + 1) ∷ store path Signed32 (here.temp + f.used) ∷ [])) w.items x.items
      (((next, next), three), (((at, below), short), (((at, at, next), three), (((at, below), short), tt))))

  built_in_well : (env : Env) (here : Here) (b : BuiltIn) → EveryWork counted_asks (built_in_works b) → here.temp + 2 * nodes_of (built_in_weight env.core b) ≤ top → 2 * nodes_of (built_in_weight env.core b) + 1 ≤ room → IsItems (done_built_in env here b)
  built_in_well env here (write items ends) c t r = both (write_all env here items) (line_end here ends) (all_written env here items c t r) (line_well here ends (omega (arith, t)) (omega (arith, r)))
  built_in_well env here (count d target amount checked) c t r = count_well env here d target amount checked c.0 c.1 t r
  built_in_well env here (include s e) c t r = change_well env here Add s e c.0 c.1 t r
  built_in_well env here (exclude s e) c t r = change_well env here Subtract s e c.0 c.1 t r
  built_in_well env here (free_of e empties) c t r = absurd c
  built_in_well env here (destroy e) c t r = absurd c
  built_in_well env here (read targets ends) c t r = tt
  built_in_well env here (set_length target e) c t r = tt
  built_in_well env here (val text v code) c t r = tt
  built_in_well env here (str v target) c t r = tt

  -- ---- loops that count

  counting_well : (t : ℕ) (d : Direction) (body : Items) → t + 2 < top → 3 ≤ room → IsItems body → AreMadeTurns (IsWithin top room) blocks (counting t d body)
  counting_well t d body less r b = (λ k some e. (less, r), (((less, omega (arith, less), omega (arith, less)), r), tt), ((less, omega arith), (((omega (arith, less), omega (arith, less), less), r), tt)), b)

  bound_well : (env : Env) (v : VariableId) (t : ℕ) → t < top → 3 ≤ room → IsWithin top room (do_act (check_bound env v t) None)
  bound_well env v t less r = ((less, less), r)

  stored_variable : (env : Env) (v : VariableId) (t : ℕ) → t < top → 3 ≤ room → IsWithin top room (do_act (store_variable env v t) None)
  stored_variable env v t less r = let one : 1 ≤ room = omega (arith, r) in ((less, tt), one)

  for_well : (env : Env) (here : Here) (v : VariableId) (d : Direction) (body : Items) → here.temp + 2 < top → 3 ≤ room → IsItems body → IsItems (for_items env here v d body)
  for_well env here v d body less r b =
      let t : here.temp < top = omega (arith, less) in
      let next : here.temp + 1 < top = omega (arith, less) in
      let turn : IsItems (then_do (act (store_variable env v here.temp)) body) = (stored_variable env v here.temp t r, b) in
      let loops : IsItems (only (body_first (counting here.temp d (then_do (act (store_variable env v here.temp)) body)))) = (counting_well here.temp d (then_do (act (store_variable env v here.temp)) body) less r turn, tt) in
      let checks : IsItems (acts (check_bound env v here.temp ∷ check_bound env v (here.temp + 1) ∷ [])) = (bound_well env v here.temp t r, (bound_well env v (here.temp + 1) next r, tt)) in
      (((less, t, next), r), ((λ k some e. (less, r), both (acts (check_bound env v here.temp ∷ check_bound env v (here.temp + 1) ∷ [])) (only (body_first (counting here.temp d (then_do (act (store_variable env v here.temp)) body)))) checks loops, tt), tt))

  in_array_well : (env : Env) (here : Here) (of element : TypeId) (v : VariableId) (into : Conversion) (body : Items) → here.temp + 5 ≤ top → 5 ≤ room → IsItems body → IsItems (in_array env here of element v into body)
  in_array_well env here of element v into body t r b =
      let inner = past 3 (past_whole here) in
      let f = found none (at_path (with_step (element_step env.core of here.temp) (whole_path of here))) in
      let short : 1 < 2 = omega arith in
      let begins : 0 < 2 = omega arith in
      let index : here.temp < here.temp + 3 + 0 = omega arith in
      let at : here.temp + 3 < top = omega (arith, t) in
      let path = with_step (element_step env.core of here.temp) (whole_path of here) in
      let o : IsFound blocks top room inner 2 (own env element inner f) = record { items = loaded_well blocks top room (shape_of env.core element) element inner path (here.temp + 3 + 0) 2 short (index, tt) (omega (arith, t)) at (omega (arith, r)); used = begins; now = tt } in
      let three : 3 ≤ room = omega (arith, r) in
      let to = type_of_variable env.core v.0 in
      let none_there : 0 < 1 = omega arith in
      let each = acts_well blocks top room inner 2 (own env element inner f) (converted env.core into to (here.temp + 3)) o (converted_well blocks top room (here.temp + 3) at three env.core into to) in
      let stored = stored_well (shape_of env.core to) element inner (then_acts (own env element inner f) (converted env.core into to (here.temp + 3))) (at_variable env v) 0 1 each.items tt (omega arith) (none_there, tt) (omega arith) at (omega (arith, r)) in
      let turn = both (stored_by (shape_of env.core to) element inner (then_acts (own env element inner f) (converted env.core into to (here.temp + 3))) (at_variable env v)) body stored b in
      ((omega (arith, t), omega arith), ((omega (arith, t), omega arith), (counting_well here.temp To (stored_by (shape_of env.core to) element inner (then_acts (own env element inner f) (converted env.core into to (here.temp + 3))) (at_variable env v) & body) (omega (arith, t)) three turn, tt)))

  in_set_well : (env : Env) (here : Here) (base : TypeId) (v : VariableId) (into : Conversion) (body : Items) → here.temp + 5 ≤ top → 5 ≤ room → IsItems body → IsItems (in_set env here base v into body)
  in_set_well env here base v into body t r b =
      let three : 3 ≤ room = omega (arith, r) in
      let at : here.temp + 4 < top = omega (arith, t) in
      let to = type_of_variable env.core v.0 in
      let checks : IsItems (acts (check (low_in env.core base) (high_in env.core base) (here.temp + 4) (here.temp + 1) ∷ [])) = (((at, omega (arith, t)), three), tt) in
      let conversions = made_acts (IsWithin top room) blocks (converted env.core into to (here.temp + 4)) (converted_well blocks top room (here.temp + 4) at three env.core into to) in
      let stores : IsItems (only (act (store_variable env v (here.temp + 4)))) = (stored_variable env v (here.temp + 4) at three, tt) in
      let check_items = acts (check (low_in env.core base) (high_in env.core base) (here.temp + 4) (here.temp + 1) ∷ []) in
      let turn = both check_items (acts (converted env.core into to (here.temp + 4)) & (only (act (store_variable env v (here.temp + 4))) & body)) checks (three_parts (acts (converted env.core into to (here.temp + 4))) (only (act (store_variable env v (here.temp + 4)))) body conversions stores b) in
      let tests : IsWithin top room (do_act (contains (here.temp + 4) (here.temp + 1) here.temp) None) = ((at, omega (arith, t), omega (arith, t)), three) in
      let inner_items = then_do (act (contains (here.temp + 4) (here.temp + 1) here.temp)) (only (choose (here.temp + 4) (check_items & (acts (converted env.core into to (here.temp + 4)) & (only (act (store_variable env v (here.temp + 4))) & body))) none)) in
      let inner : IsItems (then_do (act (contains (here.temp + 4) (here.temp + 1) here.temp)) (only (choose (here.temp + 4) (acts (check (low_in env.core base) (high_in env.core base) (here.temp + 4) (here.temp + 1) ∷ []) & acts (converted env.core into to (here.temp + 4)) & only (act (store_variable env v (here.temp + 4))) & body) none))) = (tests, ((λ k some e. (at, three), turn, tt), tt)) in
      ((omega (arith, t), omega arith), ((omega (arith, t), omega arith), (counting_well (here.temp + 1) To inner_items (omega (arith, t)) three inner, tt)))

  collection_well : (env : Env) (here : Here) (of : TypeId) (type : Option CoreType) (v : VariableId) (into : Conversion) (body : Items) → here.temp + 5 ≤ top → 5 ≤ room → IsItems body → IsItems (in_collection env here of type v into body)
  collection_well env here of (Some (Array index element)) v into body t r b = in_array_well env here of element v into body t r b
  collection_well env here of (Some (Set base)) v into body t r b = in_set_well env here base v into body t r b
  collection_well env here of _ v into body t r b = tt

  -- ---- statements

  -- labels are no more than the nodes of their branches
  labels_few : (core : Core) (labels : List Label) → AreCountedLabels labels → length labels ≤ nodes_of (labels_weight labels)
  labels_few core [] c = omega arith
  labels_few core (l ∷ ls) (some, c) = let rest = labels_few core ls c in omega (arith, some, rest)

  arms_few : (env : Env) (here : Here) (bs : Branches) (arms : List Arm) → EveryWork counted_asks (branches_works bs) → ArmsOf blocks (cases_of env here bs) arms → labels_among arms ≤ nodes_of (branches_weight env.core bs)
  arms_few env here no_branches [] c are = omega arith
  arms_few env here no_branches (a ∷ arms) c are = absurd are
  arms_few env here (branches labels s bs) [] c are = absurd are
  arms_few env here (branches labels s bs) (a ∷ arms) (counted, body, c) (same, some, less, are) =
      let first = labels_few env.core labels counted in
      let rest = arms_few env here bs arms c are in
      let as_many = ap length same in
      omega (arith, first, rest, as_many)

  mutual
    pub work_well : (env : Env) (here : Here) (s : Statement) → IsCountedStatement s → here.temp + 2 * nodes_of (statement_weight env.core s) ≤ top → 2 * nodes_of (statement_weight env.core s) + 1 ≤ room → IsItems (work_of env here s)
    work_well env here empty c t r = tt
    work_well env here (block ss) c t r = all_well env here ss c (omega (arith, t)) (omega (arith, r))
    work_well env here (if_then e s) c t r =
        let w = make_well blocks top room env here e c.0 (omega (arith, t)) (omega (arith, r)) in
        let first = work_well env here s c.1 (omega (arith, t)) (omega (arith, r)) in
        both (make env here e).items (only (choose here.temp (work_of env here s) none)) w.items ((λ k some less. (omega (arith, t), omega (arith, r)), first, tt), tt)
    work_well env here (if_else e s s') c t r =
        let w = make_well blocks top room env here e c.0 (omega (arith, t)) (omega (arith, r)) in
        let first = work_well env here s c.1 (omega (arith, t)) (omega (arith, r)) in
        let other = work_well env here s' c.2 (omega (arith, t)) (omega (arith, r)) in
        both (make env here e).items (only (choose here.temp (work_of env here s) (work_of env here s'))) w.items ((λ k some less. (omega (arith, t), omega (arith, r)), first, other), tt)
    work_well env here (case_of e bs ss) c t r =
        let w = make_well blocks top room env here e c.0 (omega (arith, t)) (omega (arith, r)) in
        let arms = branches_well env here bs c.1 (omega (arith, t)) (omega (arith, r)) in
        let other = all_well env here ss c.2 (omega (arith, t)) (omega (arith, r)) in
        both (make env here e).items (only (select here.temp (cases_of env here bs) (work_of_all env here ss))) w.items ((λ chosen are. (omega (arith, t), omega (arith, r), let few = arms_few env here bs chosen c.1 are in omega (arith, r, few)), arms, other), tt)
    work_well env here (while_do e s) c t r =
        let w = make_well blocks top room env here e c.0 (omega (arith, t)) (omega (arith, r)) in
        let body = work_well env here s c.1 (omega (arith, t)) (omega (arith, r)) in
        ((λ k some less. (omega (arith, t), omega (arith, r)), w.items, tt, body), tt)
    work_well env here (repeat_until ss e) c t r =
        let w = make_well blocks top room env here e c.0 (omega (arith, t)) (omega (arith, r)) in
        let body = all_well env here ss c.1 (omega (arith, t)) (omega (arith, r)) in
        ((λ k some less. (omega (arith, t), omega (arith, r)), w.items, tt, body), tt)
    work_well env here (for_to v e d f s) c t r =
        let one = counter_one env.core (slice_get env.core.variables v.0) in
        let some = expression_some env.core e c.0 in
        let first = make_well blocks top room env here e c.0 (omega (arith, t)) (omega (arith, r)) in
        let last = make_well blocks top room env (past 1 here) f c.1 (omega (arith, t)) (omega (arith, r)) in
        let body = work_well env (past 3 here) s c.2 (omega (arith, t, one, some)) (omega (arith, r)) in
        three_parts (make env here e).items (make env (past 1 here) f).items (for_items env here v d (work_of env (past 3 here) s)) first.items last.items (for_well env here v d (work_of env (past 3 here) s) (omega (arith, t, one)) (omega (arith, r)) body)
    work_well env here (for_in v into e s) c t r =
        let one = counter_one env.core (slice_get env.core.variables v.0) in
        let some = expression_some env.core e c.0 in
        let w = make_well blocks top room env here e c.0 (omega (arith, t)) (omega (arith, r)) in
        let body = work_well env (in_turn here) s c.1 (omega (arith, t, one, some)) (omega (arith, r)) in
        both (make env here e).items _ w.items (collection_well env here (type_of e) (type_at env.core (type_of e)) v into (work_of env (in_turn here) s) (omega (arith, t, one, some)) (omega (arith, r, one, some)) body)
    work_well env here (try_finally ss ts) c t r =
        let a = all_well env (past 2 here) ss c.0 (omega (arith, t)) (omega (arith, r)) in
        let b = all_well env (past 2 here) ts c.1 (omega (arith, t)) (omega (arith, r)) in
        ((λ n less. (omega (arith, t), omega arith), λ k less. (omega (arith, t), omega (arith, r)), a, b), tt)
    work_well env here (call e) c t r = let w = find_well blocks top room env here e c t r in w.items
    work_well env here (assign target e) c t r =
        let some = expression_some env.core target c.0 in
        let v = make_well blocks top room env here e c.1 (omega (arith, t)) (omega (arith, r)) in
        let to = find_well blocks top room env (past 1 (past_whole here)) target c.0 (omega (arith, t)) (omega (arith, r)) in
        let f = find env (past 1 (past_whole here)) target in
        stored_well (shape_of env.core (type_of target)) (type_of e) here (make env here e) f (here.temp + 1 + f.used) (nodes_of (expression_weight env.core target)) v.items to.items some to.now (omega (arith, to.used, t)) (omega (arith, t)) (omega (arith, r))
    work_well env here exit c t r = (omega arith, tt)
    work_well env here (exit_with e) c t r =
        let v = make_well blocks top room env here e c (omega (arith, t)) (omega (arith, r)) in
        let none_there : 0 < 1 = omega arith in
        let leaves : IsItems (only (leave 0)) = (omega arith, tt) in
        both (stored_by (shape_of env.core (type_of e)) (type_of e) here (make env here e) (found none (at_path (result_path env)))) (only (leave 0)) (stored_well (shape_of env.core (type_of e)) (type_of e) here (make env here e) (found none (at_path (result_path env))) 0 1 v.items tt (omega arith) (none_there, tt) (omega arith) (omega (arith, t)) (omega (arith, r))) leaves
    work_well env here break c t r = (omega arith, tt)
    work_well env here continue c t r = (omega arith, tt)
    work_well env here (halt_with e) c t r =
        let w = amount_well env here e c (omega (arith, t)) (omega (arith, r)) in
        both (make env here e).items (only (halt here.temp)) w (omega (arith, t), tt)
    work_well env here (built_in b) c t r = built_in_well env here b c t r
    work_well env here (try_on ss hs) c t r = absurd c
    work_well env here (try_on_else ss hs ts) c t r = absurd c
    work_well env here (raise e) c t r = absurd c
    work_well env here reraise c t r = absurd c

    pub all_well : (env : Env) (here : Here) (ss : Statements) → AreCountedStatements ss → here.temp + 2 * nodes_of (statements_weight env.core ss) ≤ top → 2 * nodes_of (statements_weight env.core ss) + 1 ≤ room → IsItems (work_of_all env here ss)
    all_well env here no_statements c t r = tt
    all_well env here (statements s ss) c t r =
        both (work_of env here s) (work_of_all env here ss) (work_well env here s c.0 (omega (arith, t)) (omega (arith, r))) (all_well env here ss c.1 (omega (arith, t)) (omega (arith, r)))

    branches_well : (env : Env) (here : Here) (bs : Branches) → EveryWork counted_asks (branches_works bs) → here.temp + 2 * nodes_of (branches_weight env.core bs) ≤ top → 2 * nodes_of (branches_weight env.core bs) + 1 ≤ room → AreMadeCases (IsWithin top room) blocks (cases_of env here bs)
    branches_well env here no_branches c t r = tt
    branches_well env here (branches labels s bs) c t r =
        (work_well env here s c.1 (omega (arith, t)) (omega (arith, r)), branches_well env here bs c.2 (omega (arith, t)) (omega (arith, r)))
