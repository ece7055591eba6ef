-- What variables begin with takes no more bytes than the variables that do not begin as zero.
use Rattle.std.proofs.Common.{◌≡◌, ◌≤◌, ℕ, zero, suc, ◌+◌, ◌*◌, Bool, true, false, List, [], ◌∷◌, ◌++◌, length, replicate, take, drop, Option, Some, None, slice_get, slice_set, refl, ap, ◌∙◌, fold, arith, sum_by, if◌then◌else◌}
use Rattle.std.proofs.lemmas.List.Concat.{flat_map-cons}
use Rattle.std.proofs.lemmas.List.Sums.{sum_by-append, sum_by-cons}
use Rattle.std.specs.List.{flat_map}
use Rattle.std.specs.Prelude.{Box}
use Rattle.std.specs.declared.alloc.Global.{Global}
use Rattle.std.specs.Option.{option_to_list, option_map}
use Rattle.op_constants.proofs.FirstRows.{first-length}
use Rattle.op_constants.specs.FirstBytes.{first_bytes, are_zeros}
use Rattle.op_core.specs.Initial.{first_value_of, FirstValue}
use Rattle.op_core.specs.Rows.{rows}
use Rattle.op_core.specs.Sound.{globals_of, size_of}
use Rattle.op_core.specs.declared.constant.Initial.{Initial}
use Rattle.op_core.specs.declared.ids.TypeId.{TypeId}
use Rattle.op_core.specs.declared.ids.VariableId.{VariableId}
use Rattle.op_core.specs.declared.program.Core.{Core}
use Rattle.op_core.specs.declared.routine.Variable.{Variable}
use Rattle.op_expand.specs.Programs.{global_of, globals_in, no_bytes, stack_global, with_global}
use Rattle.op_link.proofs.GlobalPlaces.{globals_most, room_in}
use Rattle.op_link.specs.Memory.{begins_as_zero, initial_size, lies_in}
use Rattle.op_meaning.specs.Actions.{begin_with}
use Rattle.op_meaning.specs.Frames.{program_of}
use Rattle.op_meaning.specs.Items.{act, none, only}
use Rattle.op_meaning.specs.Shapes.{type_of_local, type_of_row, variables_of}
use Rattle.op_meaning.specs.Statements.{first_items}
use Rattle.op_rv.specs.declared.objects.GlobalVariable.{GlobalVariable}
use Rattle.op_sizes.proofs.ExpressionTexts.{both_text}
use Rattle.op_sizes.proofs.TextsKept.{items_text, first_text, total, total_join}
use Rattle.op_sizes.specs.ProgramSize.{first_size, variables_size, first_size_by}

abbrev row_size : Core → Option Variable → ℕ
row_size core None = 0
row_size core (Some v) = first_size core v

-- ---- what variables begin with, as texts

abbrev first_texts_by : Core → TypeId → Option FirstValue → List (List ℕ)
first_texts_by core of None = []
first_texts_by core of (Some value) = first_text core of value

abbrev row_texts : Core → Variable → List (List ℕ)
row_texts core v = first_texts_by core v.of (option_map (λ i. first_value_of i.value) v.first_value)

abbrev texts_at : Core → Option Variable → List (List ℕ)
texts_at core None = []
texts_at core (Some v) = row_texts core v

abbrev pub variables_texts : Core → List Variable → List (List ℕ)
variables_texts core [] = []
variables_texts core (v ∷ vs) = row_texts core v ++ variables_texts core vs

first_sized : (core : Core) (of : TypeId) (o : Option FirstValue) → total (λ l. length l) (first_texts_by core of o) ≤ first_size_by core of o
first_sized core of None = omega arith
first_sized core of (Some value) = by (are_zeros (first_bytes core of value))
  where
    by : (zeros : Bool) → total (λ l. length l) (if zeros then [] else first_bytes core of value ∷ []) ≤ (if zeros then 0 else size_of core of)
    by true = omega arith
    by false = let long = first-length core of value in omega (arith, long)

-- they have no more bytes than the variables that do not begin as zero
pub texts_sized : (core : Core) (vs : List Variable) → total (λ l. length l) (variables_texts core vs) ≤ variables_size core vs
texts_sized core [] = omega arith
texts_sized core (v ∷ vs) =
    let first = first_sized core v.of (option_map (λ i. first_value_of i.value) v.first_value) in
    let rest = texts_sized core vs in
    let joined = total_join (λ l. length l) (row_texts core v) (variables_texts core vs) in
    let all = sum_by-cons (first_size core) v vs in
    omega (arith, first, rest, joined, all)

-- ---- the variables of a routine

got_behind : {A : Type 0} (xs : List A) (n k : ℕ) → slice_get (drop n xs) k ≡ slice_get xs (n + k)
got_behind xs zero k = let e : k ≡ 0 + k = omega arith in ap (slice_get xs) e
got_behind [] (suc n) k = refl
got_behind (x ∷ xs) (suc n) k = let e : suc (n + k) ≡ suc n + k = omega arith in got_behind xs n k ∙ ap (slice_get (x ∷ xs)) e

module _ (w : List ℕ → ℕ) (core : Core) where
  one_more : (vs : List Variable) (n : ℕ) → total w (variables_texts core (take n vs)) + total w (texts_at core (slice_get vs n)) ≡ total w (variables_texts core (take (suc n) vs))
  one_more [] zero = refl
  one_more [] (suc n) = refl
  one_more (v ∷ vs) zero = let e = total_join w (row_texts core v) [] in omega (arith, e)
  one_more (v ∷ vs) (suc n) =
      let rest = one_more vs n in
      let a = total_join w (row_texts core v) (variables_texts core (take n vs)) in
      let b = total_join w (row_texts core v) (variables_texts core (take (suc n) vs)) in
      omega (arith, rest, a, b)

module _ (w : List ℕ → ℕ) (core : Core) (stack r : ℕ) where
  one_first : (n : ℕ) → items_text w core (first_items core (program_of core stack).first r (suc n)) ≤ items_text w core (first_items core (program_of core stack).first r n) + total w (texts_at core (slice_get core.variables ((variables_of core r).first + n)))
  one_first n = by (slice_get core.variables ((variables_of core r).first + n)) refl
    where
      begun : (v : Variable) → slice_get core.variables ((variables_of core r).first + n) ≡ Some v → (o : Option (Box Initial Global)) → v.first_value ≡ o → items_text w core (first_items core (program_of core stack).first r (suc n)) ≤ items_text w core (first_items core (program_of core stack).first r n) + total w (texts_at core (slice_get core.variables ((variables_of core r).first + n)))
      begun v e None f = rw e (rw f (let all = both_text w core (first_items core (program_of core stack).first r n) none in omega (arith, all)))
      begun v e (Some value) f = rw e (rw f (let all = both_text w core (first_items core (program_of core stack).first r n) (only (act (begin_with n (type_of_local core r n) (first_value_of value.value)))) in let of = ap (λ o. total w (first_text core (type_of_row o) (first_value_of value.value))) e in omega (arith, all, of)))

      by : (o : Option Variable) → slice_get core.variables ((variables_of core r).first + n) ≡ o → items_text w core (first_items core (program_of core stack).first r (suc n)) ≤ items_text w core (first_items core (program_of core stack).first r n) + total w (texts_at core (slice_get core.variables ((variables_of core r).first + n)))
      by None e = rw e (let all = both_text w core (first_items core (program_of core stack).first r n) none in omega (arith, all))
      by (Some v) e = begun v e v.first_value refl

  firsts_so_far : (n : ℕ) → items_text w core (first_items core (program_of core stack).first r n) ≤ total w (variables_texts core (take n (drop (variables_of core r).first core.variables)))
  firsts_so_far zero = omega arith
  firsts_so_far (suc n) =
      let rest = firsts_so_far n in
      let one = one_first n in
      let there = ap (λ o. total w (texts_at core o)) (got_behind core.variables (variables_of core r).first n) in
      let more = one_more w core (drop (variables_of core r).first core.variables) n in
      omega (arith, rest, one, there, more)

  pub firsts_kept : items_text w core (first_items core (program_of core stack).first r (variables_of core r).count) ≤ total w (variables_texts core (rows core.variables (variables_of core r)))
  firsts_kept = firsts_so_far (variables_of core r).count

-- ---- global variables

-- what a variable takes of the initial globals, with what may lie in front of it
abbrev initial_room : GlobalVariable → ℕ
initial_room = room_in false

abbrev initial_rooms : List GlobalVariable → ℕ
initial_rooms xs = sum_by initial_room xs

initial_less : (x : GlobalVariable) → initial_room x ≤ length x.initial + x.zeros + 3
initial_less x = by (lies_in false x) refl
  where
    by : (b : Bool) → lies_in false x ≡ b → initial_room x ≤ length x.initial + x.zeros + 3
    by true e = rw e (omega arith)
    by false e = rw e (omega arith)

module _ (core : Core) where
  global_less : (o : Option Variable) → initial_room (global_of core o) ≤ row_size core o + 3
  unfolding lies_in begins_as_zero
  global_less None = omega arith
  global_less (Some v) = by v.first_value refl
    where
      with_by : (bytes : List ℕ) (zeros : Bool) → length bytes ≡ size_of core v.of → initial_room (if zeros then record { initial = []; zeros = length bytes } else record { initial = bytes; zeros = 0 }) ≤ (if zeros then 0 else size_of core v.of) + 3
      with_by bytes true long = omega arith
      with_by bytes false long = let less = initial_less (record { initial = bytes; zeros = 0 }) in omega (arith, less, long)

      by : (o : Option (Box Initial Global)) → v.first_value ≡ o → initial_room (global_of core (Some v)) ≤ row_size core (Some v) + 3
      by None e = rw e (omega arith)
      by (Some value) e = rw e (with_by (first_bytes core v.of (first_value_of value.value)) (are_zeros (first_bytes core v.of (first_value_of value.value))) (first-length core v.of (first_value_of value.value)))

  set_less : (xs : List GlobalVariable) (k : ℕ) (x : GlobalVariable) → initial_rooms (slice_set xs k x) ≤ initial_rooms xs + initial_room x
  set_less [] k x = omega arith
  set_less (y ∷ ys) zero x =
      let a = sum_by-cons initial_room x ys in
      let b = sum_by-cons initial_room y ys in
      omega (arith, a, b)
  set_less (y ∷ ys) (suc k) x =
      let rest = set_less ys k x in
      let a = sum_by-cons initial_room y (slice_set ys k x) in
      let b = sum_by-cons initial_room y ys in
      omega (arith, rest, a, b)

  abbrev rows_at : VariableId → List Variable
  rows_at v = option_to_list (slice_get core.variables v.0)

  row_counted : (o : Option Variable) → row_size core o ≡ variables_size core (option_to_list o)
  row_counted None = refl
  row_counted (Some v) = omega arith

  globals_less : (xs : List GlobalVariable) (ids : List VariableId) → initial_rooms (fold (with_global core) xs ids) ≤ initial_rooms xs + variables_size core (flat_map rows_at ids) + 3 * length ids
  globals_less xs [] = omega arith
  globals_less xs (id ∷ ids) =
      let rest = globals_less (with_global core xs id) ids in
      let here = set_less xs id.0 (global_of core (slice_get core.variables id.0)) in
      let one = global_less (slice_get core.variables id.0) in
      let counted = row_counted (slice_get core.variables id.0) in
      let split = ap (variables_size core) (flat_map-cons rows_at id ids) in
      let all = sum_by-append (first_size core) (rows_at id) (flat_map rows_at ids) in
      omega (arith, rest, here, one, counted, split, all)

  none_less : (n : ℕ) → initial_rooms (replicate n no_bytes) ≡ 0
  unfolding lies_in begins_as_zero
  none_less zero = refl
  none_less (suc n) = let rest = none_less n in let e = sum_by-cons initial_room no_bytes (replicate n no_bytes) in omega (arith, rest, e)

  -- with the bytes of stack behind them
  pub initial_kept : (stack : ℕ) → initial_size (globals_in core ++ stack_global stack ∷ []) ≤ variables_size core (globals_of core) + 3 * length core.globals + 8
  initial_kept stack =
      let less = globals_less (replicate (length core.variables) no_bytes) core.globals in
      let none = none_less (length core.variables) in
      let own = initial_less (stack_global stack) in
      let all = sum_by-append initial_room (globals_in core) (stack_global stack ∷ []) in
      let one = sum_by-cons initial_room (stack_global stack) [] in
      let most = (globals_most false 0 (globals_in core ++ stack_global stack ∷ [])).1 in
      omega (arith, less, none, own, all, one, most)
