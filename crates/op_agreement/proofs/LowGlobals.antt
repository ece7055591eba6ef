-- The global variables of low code: each stands at the number of its row, and behind all of them a word with the bytes of stack.
use Rattle.std.proofs.Common.{◌≡◌, ◌<◌, ℕ, zero, suc, ◌+◌, Bool, true, false, List, [], ◌∷◌, ◌++◌, length, fold, nat_eq, replicate, Some, slice_get, slice_set, refl, sym, ap, ◌∙◌, subst, arith}
use Rattle.std.proofs.lemmas.Bool.Decides.{nat_tests}
use Rattle.std.proofs.lemmas.List.{length-replicate, length-set}
use Rattle.std.specs.List.{list_any}
use Rattle.op_base.proofs.Lists.{slice_get-behind, stays_front}
use Rattle.op_core.proofs.Rows.{set_there}
use Rattle.op_core.specs.declared.ids.VariableId.{VariableId}
use Rattle.op_core.specs.declared.program.Core.{Core}
use Rattle.op_expand.specs.Programs.{global_of, globals_in, low_of, no_bytes, stack_global, with_global}
use Rattle.op_rv.specs.declared.objects.GlobalVariable.{GlobalVariable}
use Rattle.op_agreement.specs.Settings.{Setting}
use Rattle.op_agreement.specs.Typed.{IsGlobal}

-- ---- an element that is set

-- what is set within the list stands there
-- an element stays if what is set in its place is the same
set_keeps : {A : Type 0} (xs : List A) (k n : ℕ) (x a : A) → slice_get xs n ≡ Some a → (n ≡ k → x ≡ a) → slice_get (slice_set xs k x) n ≡ Some a
set_keeps [] k n x a is same = absurd (cc)
set_keeps (y ∷ xs) zero zero x a is same = ap Some (same refl)
set_keeps (y ∷ xs) zero (suc n) x a is same = is
set_keeps (y ∷ xs) (suc k) zero x a is same = is
set_keeps (y ∷ xs) (suc k) (suc n) x a is same = set_keeps xs k n x a is (λ e. same (ap suc e))

-- ---- global variables by their rows

module _ (core : Core) where
  -- the low global variable of a row
  abbrev global_row : ℕ → GlobalVariable
  global_row v = global_of core (slice_get core.variables v)

  -- no number is left out, and there is none behind the rows
  rows_count : (globals : List GlobalVariable) (ids : List VariableId) → length (fold (with_global core) globals ids) ≡ length globals
  rows_count globals [] = refl
  rows_count globals (id ∷ ids) = rows_count (with_global core globals id) ids ∙ length-set globals id.0 (global_row id.0)

  globals_count : length (globals_in core) ≡ length core.variables
  globals_count = rows_count (replicate (length core.variables) no_bytes) core.globals ∙ length-replicate (length core.variables) no_bytes

  -- what stands there by its row stays, also where the row is met again
  row_stays : (globals : List GlobalVariable) (ids : List VariableId) (v : ℕ) → slice_get globals v ≡ Some (global_row v) → slice_get (fold (with_global core) globals ids) v ≡ Some (global_row v)
  row_stays globals [] v is = is
  row_stays globals (id ∷ ids) v is = row_stays (with_global core globals id) ids v (set_keeps globals id.0 v (global_row id.0) (global_row v) is (λ same. ap global_row (sym same)))

  -- a row that is met stands at its number
  row_stands : (globals : List GlobalVariable) (ids : List VariableId) (v : ℕ) → v < length globals → list_any (λ id. nat_eq id.0 v) ids ≡ true → slice_get (fold (with_global core) globals ids) v ≡ Some (global_row v)
  row_stands globals [] v less met = absurd (cc)
  row_stands globals (id ∷ ids) v less met = by (nat_eq id.0 v) refl (row_stands (with_global core globals id) ids v)
    where
      by : (here : Bool) → nat_eq id.0 v ≡ here → (v < length (with_global core globals id) → list_any (λ id. nat_eq id.0 v) ids ≡ true → slice_get (fold (with_global core) (with_global core globals id) ids) v ≡ Some (global_row v)) → slice_get (fold (with_global core) globals (id ∷ ids)) v ≡ Some (global_row v)
      by true here behind =
          let same : v ≡ id.0 = grind (arith, nat_tests) in
          let set : slice_get (with_global core globals id) v ≡ Some (global_row v) = subst (λ n. slice_get (slice_set globals n (global_row n)) v ≡ Some (global_row v)) same (set_there globals v (global_row v) less) in
          row_stays (with_global core globals id) ids v set
      by false here behind =
          let count = length-set globals id.0 (global_row id.0) in
          behind (omega (arith, count, less)) (cc)

  -- so does each row of a global variable
  row_made : (v : ℕ) → IsGlobal core v → slice_get (globals_in core) v ≡ Some (global_row v)
  row_made v (less, global) =
      let count = length-replicate (length core.variables) no_bytes in
      row_stands (replicate (length core.variables) no_bytes) core.globals v (omega (arith, count, less)) global

-- ---- what the agreement asks

module _ (g : Setting) (low : g.low ≡ low_of g.core g.mir g.stack) where
  -- a global variable stands at the number of its row
  pub global_made : (v : ℕ) → IsGlobal g.core v → slice_get g.low.globals v ≡ Some (global_of g.core (slice_get g.core.variables v))
  global_made v global =
      ap (λ l. slice_get l.globals v) low
      ∙ stays_front (globals_in g.core) (stack_global g.stack ∷ []) v (global_row g.core v) (row_made g.core v global)

  -- the bytes of stack stand behind all rows
  pub stack_made : slice_get g.low.globals (length g.core.variables) ≡ Some (stack_global g.stack)
  stack_made =
      let count : length (globals_in g.core) + 0 ≡ length g.core.variables = omega (arith, globals_count g.core) in
      ap (λ l. slice_get l.globals (length g.core.variables)) low
      ∙ subst (λ n. slice_get (globals_in g.core ++ stack_global g.stack ∷ []) n ≡ Some (stack_global g.stack)) count (slice_get-behind (globals_in g.core) (stack_global g.stack ∷ []) 0)
