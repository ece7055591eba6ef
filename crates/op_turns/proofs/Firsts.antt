-- The first values of a routine's variables, one after the other.
use Rattle.std.proofs.Common.{◌≡◌, ℕ, suc, ◌+◌, Option, Some, None, Box, slice_get, get_or, length, List, ◌<◌, ◌≤◌, add-one, ap, sym, ◌∙◌, refl}
use Rattle.std.proofs.lemmas.Option.{slice_get_past, slice_get_read}
use Rattle.std.specs.declared.alloc.Global.{Global}
use Rattle.op_core.specs.Initial.{FirstValue, first_value_of}
use Rattle.op_core.specs.declared.constant.Initial.{Initial}
use Rattle.op_core.specs.declared.program.Core.{Core}
use Rattle.op_core.specs.declared.routine.Variable.{Variable}
use Rattle.op_semantics.specs.Actions.{begin_with}
use Rattle.op_semantics.specs.Frames.{program_of}
use Rattle.op_semantics.specs.Items.{none, only, act, ◌&◌}
use Rattle.op_semantics.specs.Shapes.{type_of_row, variables_of}
use Rattle.op_semantics.specs.Statements.{first_item, first_items}
use Rattle.op_values.specs.View.{view_action}
use Rattle.op_values.specs.declared.action.Action.TheVariants.{BeginWith}

first_by : (core : Core) (first : ℕ → Option FirstValue) (r v : ℕ) (o : Option FirstValue) → first ((variables_of core r).first + v) ≡ o → first_items core first r (suc v) ≡ first_items core first r v & first_item core r v o
first_by core first r v None e = rw e refl
first_by core first r v (Some value) e = rw e refl

pub first_more : (core : Core) (first : ℕ → Option FirstValue) (r v : ℕ) → first_items core first r (v + 1) ≡ first_items core first r v & first_item core r v (first ((variables_of core r).first + v))
first_more core first r v = rw add-one (first_by core first r v (first ((variables_of core r).first + v)) refl)

pub no_row : (core : Core) (r v : ℕ) → slice_get core.variables ((variables_of core r).first + v) ≡ None → first_item core r v ((program_of core 0).first ((variables_of core r).first + v)) ≡ none
no_row core r v e = rw e refl

pub no_value : (core : Core) (r v : ℕ) (row : Variable) → slice_get core.variables ((variables_of core r).first + v) ≡ Some row → row.first_value ≡ None → first_item core r v ((program_of core 0).first ((variables_of core r).first + v)) ≡ none
no_value core r v row e f = rw (e, f) refl

pub a_value : (core : Core) (r v : ℕ) (row : Variable) (value : Box Initial Global) → slice_get core.variables ((variables_of core r).first + v) ≡ Some row → row.first_value ≡ Some value → first_item core r v ((program_of core 0).first ((variables_of core r).first + v)) ≡ only (act (view_action core r (BeginWith (record { 0 = v }))))
a_value core r v row value e f = rw (e, f) (ap (λ x. only (act (begin_with v (type_of_row x) (first_value_of value.value)))) e)

-- ---- rows of tables

pub past_rows : {A : Type 0} (list table : List A) (i j : ℕ) → list ≡ table → i ≡ j → length list ≤ i → slice_get table j ≡ None
past_rows list table i j e f h = ap (λ n. slice_get table n) (sym f) ∙ ap (λ l. slice_get l i) (sym e) ∙ slice_get_past list i h

pub among_rows : {A : Type 0} (list table : List A) (i j : ℕ) (x : A) → list ≡ table → i ≡ j → i < length list → x ≡ get_or list i x → slice_get table j ≡ Some x
among_rows list table i j x e f h k = ap (λ n. slice_get table n) (sym f) ∙ ap (λ l. slice_get l i) (sym e) ∙ slice_get_read list (length list) i x refl h k
