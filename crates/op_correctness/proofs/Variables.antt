-- The rows of a routine's variables fit its code, in a sound program that works on numbers, sets, records and arrays with bounds.
use Rattle.std.proofs.Common.{◌≡◌, ◌≤◌, ◌<◌, ℕ, ◌+◌, length, Option, Some, None, refl, sym, ap, ◌∙◌, subst, arith}
use Rattle.std.specs.Prelude.{true, false, slice_get}
use Rattle.std.proofs.lemmas.Option.{none-some}
use Rattle.op_constants.proofs.TypesArranged.{many_rows}
use Rattle.op_constants.specs.Arranged.{IsSmall}
use Rattle.op_core.proofs.Rows.{row_at, there_is}
use Rattle.op_core.specs.Rows.{rows}
use Rattle.op_core.specs.Sound.{IsSound, IsSoundNesting}
use Rattle.op_core.specs.declared.program.Core.{Core}
use Rattle.op_core.specs.declared.routine.Routine.{Routine as Row}
use Rattle.op_core.specs.declared.routine.Variable.{Variable}
use Rattle.op_places.specs.Frames.{parameters_of}
use Rattle.op_lower.specs.Lowers.{Lowers}
use Rattle.op_meaning.specs.Expressions.{result_of}
use Rattle.op_meaning.specs.Shapes.{is_reference, refers, type_of_local, type_of_row, variables_in, variables_of}
use Rattle.op_mir.specs.View.{routine_at}
use Rattle.op_mir.specs.declared.code.Mir.{Mir}
use Rattle.op_mir.specs.declared.code.Routine.{Routine}
use Rattle.op_typing.proofs.Callees.{parameters_first}
use Rattle.op_typing.proofs.Paths.{reference_low, routine}
use Rattle.op_typing.proofs.Rows.{each_row, if_some}
use Rattle.op_typing.proofs.Types.{solid_small}
use Rattle.op_typing.specs.Simple.{IsSimpleProgram, IsSimpleRoutine, IsSolidType}
use Rattle.op_agreement.proofs.Naming.{has_variables}
use Rattle.op_agreement.specs.Framing.{AreSmallResults, HasVariables}
use Rattle.op_agreement.specs.Typed.{IsVariable}
use Rattle.op_correctness.proofs.RoutineCode.{instructions_fine}
use Rattle.op_correctness.specs.SimpleCore.{IsSimpleCore}

-- what stands for another variable has a row
refers_by : (o : Option Variable) → refers o ≡ true → (v : Variable) × (o ≡ Some v) × (is_reference v.role ≡ true)
refers_by None e = absurd cc
refers_by (Some v) e = (v, refl, e)

module _ (core : Core) (sound : IsSound core) (simple : IsSimpleProgram core) where
  -- results have small values
  results_small : AreSmallResults core
  results_small q of e = by (slice_get core.routines q) refl e
    where
      by : (o : Option Row) → slice_get core.routines q ≡ o → result_of o ≡ Some of → IsSmall core of
      by None is e = absurd (none-some _ e)
      by (Some y) is e =
          let row = each_row (IsSimpleRoutine core) core.routines q y simple.routines is in
          solid_small core sound of (if_some y.result (IsSolidType core) of row.result e)

  module _ (r : ℕ) where
    -- the variables lie within the table
    fit_by : (o : Option Row) → slice_get core.routines r ≡ o → (variables_in o).first + (variables_in o).count ≤ length core.variables
    fit_by None is = omega arith
    fit_by (Some y) is = (routine core sound simple r y is).runs.1

    fit : (variables_of core r).first + (variables_of core r).count ≤ length core.variables
    fit = fit_by (slice_get core.routines r) refl

    -- each variable has a row
    variables_there : length (rows core.variables (variables_of core r)) ≡ (variables_of core r).count
    variables_there = many_rows core.variables (variables_of core r) fit

    -- what stands for another one is a parameter
    references_first : (v : ℕ) → IsVariable core r v true → v < parameters_of core r
    references_first v (few, stands) = by (slice_get core.routines r) refl
      where
        by : (o : Option Row) → slice_get core.routines r ≡ o → v < parameters_of core r
        by None is =
            let none : (variables_of core r).count ≡ 0 = ap (λ o. (variables_in o).count) is in
            absurd (omega (arith, few, none))
        by (Some y) is =
            let (w, row, reference) = refers_by (slice_get core.variables ((variables_of core r).first + v)) stands in
            let low = reference_low core sound simple r y is v w (row_at core.variables (variables_of core r) v few ∙ row) reference in
            let first = parameters_first core sound simple r y is in
            omega (arith, low, first)

    -- and any other one has small values
    variables_small : (v : ℕ) → IsVariable core r v false → IsSmall core (type_of_local core r v)
    variables_small v (few, own) =
        let within = fit in
        let (w, row) = there_is core.variables ((variables_of core r).first + v) (omega (arith, few, within)) in
        let solid = each_row (λ w. IsSolidType core w.of) core.variables ((variables_of core r).first + v) w simple.variables row in
        subst (IsSmall core) (sym (ap type_of_row row)) (solid_small core sound w.of solid)

-- The rows of each routine's variables fit its code, and so do those of the program itself, which has none.
pub variables_fit : (core : Core) (mir : Mir) (stack : ℕ) → IsSound core → IsSoundNesting core → IsSimpleCore core → Lowers core mir → (r : ℕ) (x : Routine) → routine_at mir r ≡ Some x → HasVariables core r x
variables_fit core mir stack sound nesting is lowers r x found =
    has_variables core r mir x (results_small core sound is.simple) (variables_there core sound is.simple r) (references_first core sound is.simple r) (variables_small core sound is.simple r)
    (λ k block there. instructions_fine core mir stack sound nesting is lowers r x found k block there)
