-- Where no variable and no result has a managed type, nothing has to be ended.
use Rattle.std.proofs.Common.{◌≡◌, ℕ, zero, suc, ◌+◌, Bool, true, false, ◌&&◌, if◌then◌else◌, Option, Some, None, List, [], ◌∷◌, slice_get, filter, flat_map, refl, ap}
use Rattle.op_core.specs.Rows.{rows}
use Rattle.op_core.specs.declared.ids.TypeId.{TypeId}
use Rattle.op_core.specs.declared.ids.VariableId.{VariableId}
use Rattle.op_core.specs.declared.program.Core.{Core}
use Rattle.op_core.specs.declared.program.Unit.{Unit as UnitRow}
use Rattle.op_core.specs.declared.routine.Routine.{Routine}
use Rattle.op_core.specs.declared.routine.Variable.{Variable}
use Rattle.op_meaning.specs.Calls.{emptied_type, ended_variables, ending_of}
use Rattle.op_meaning.specs.Shapes.{is_managed, no_type, type_of_variable, variables_of}

ended_none : (role managed : Bool) (k : ℕ) → managed ≡ false → (if role && managed then k ∷ [] else []) ≡ []
ended_none true managed k is = ap (λ m. if m then k ∷ [] else []) is
ended_none false managed k is = refl

taken_out : (role managed : Bool) (of : TypeId) → managed ≡ false → (if role && managed then Some of else None) ≡ None
taken_out true managed of is = ap (λ m. if m then Some of else None) is
taken_out false managed of is = refl

module _ (core : Core) (variables : (k : ℕ) (v : Variable) → slice_get core.variables k ≡ Some v → is_managed core v.of ≡ false) where
  -- ---- what is emptied before a call

  emptied_by : (v : ℕ) (row : Option Variable) → slice_get core.variables v ≡ row → emptied_type core row ≡ None
  emptied_by v None at = refl
  emptied_by v (Some row) at = taken_out _ (is_managed core row.of) row.of (variables v row at)

  pub none_emptied : (v : ℕ) → emptied_type core (slice_get core.variables v) ≡ None
  none_emptied v = emptied_by v (slice_get core.variables v) refl

  -- ---- routines

  ended_by : (r k : ℕ) (v : Option Variable) → slice_get core.variables ((variables_of core r).first + k) ≡ v → ended_variables core r k ≡ [] → ended_variables core r (suc k) ≡ []
  ended_by r k None at before = rw (before, at) refl
  ended_by r k (Some v) at before = rw (before, at) (ended_none _ (is_managed core v.of) k (variables _ v at))

  ended_nothing : (r k : ℕ) → ended_variables core r k ≡ []
  ended_nothing r zero = refl
  ended_nothing r (suc k) = ended_by r k (slice_get core.variables ((variables_of core r).first + k)) refl (ended_nothing r k)

  module _ (results : (r : ℕ) (x : Routine) (of : TypeId) → slice_get core.routines r ≡ Some x → x.result ≡ Some of → is_managed core of ≡ false) where
    ending_by_result : (r : ℕ) (x : Routine) → slice_get core.routines r ≡ Some x → (of : Option TypeId) → x.result ≡ of → ending_of core r ≡ []
    ending_by_result r x at None is = rw (ended_nothing r (variables_of core r).count, at, is) refl
    ending_by_result r x at (Some of) is = rw (ended_nothing r (variables_of core r).count, at, is, results r x of at is) refl

    pub ending_by_row : (r : ℕ) (x : Option Routine) → slice_get core.routines r ≡ x → ending_of core r ≡ []
    ending_by_row r None at = rw (ended_nothing r (variables_of core r).count, at) refl
    ending_by_row r (Some x) at = ending_by_result r x at x.result refl

  -- ---- globals

  module _ (unmanaged : is_managed core no_type ≡ false) where
    unmanaged_by : (v : VariableId) (row : Option Variable) → slice_get core.variables v.0 ≡ row → is_managed core (type_of_variable core v.0) ≡ false
    unmanaged_by v None at = rw at unmanaged
    unmanaged_by v (Some row) at = rw at (variables v.0 row at)

    none_managed : (vs : List VariableId) → filter (λ v. is_managed core (type_of_variable core v.0)) vs ≡ []
    none_managed [] = refl
    none_managed (v ∷ vs) = rw (unmanaged_by v (slice_get core.variables v.0) refl) (none_managed vs)

    pub no_globals : (us : List UnitRow) → flat_map (λ u. filter (λ v. is_managed core (type_of_variable core v.0)) (rows core.globals u.globals)) us ≡ []
    no_globals [] = refl
    no_globals (u ∷ us) = rw (none_managed (rows core.globals u.globals)) (no_globals us)
