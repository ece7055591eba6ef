-- What the agreement with low code asks of a program, of a sound one of the class, where it is placed as is asked.
use Rattle.std.proofs.Common.{◌≡◌, ◌≤◌, ◌<◌, ◌+◌, ℕ, false, length, Option, Some, None, refl, ap, arith}
use Rattle.std.proofs.lemmas.Option.{slice_get_within}
use Rattle.std.specs.Prelude.{slice_get, true}
use Rattle.op_constants.proofs.SoundFirst.{first_type}
use Rattle.op_core.proofs.Rows.{there_is}
use Rattle.op_core.specs.Sound.{IsSound, IsSoundNesting}
use Rattle.op_core.specs.declared.ids.RoutineId.{RoutineId}
use Rattle.op_core.specs.declared.ids.TypeId.{TypeId}
use Rattle.op_core.specs.declared.routine.Role.TheVariants.{Result}
use Rattle.op_core.specs.declared.routine.Routine.{Routine as Row}
use Rattle.op_expand.specs.Calls.{has_closing, closing_number, finalizations}
use Rattle.op_expand.specs.Closing.{closing_routine}
use Rattle.op_places.specs.Frames.{parameters_of}
use Rattle.op_expand.specs.Programs.{low_of}
use Rattle.op_expand.specs.Routines.{most_charge}
use Rattle.op_low.specs.State.{routine_or}
use Rattle.op_lower.specs.Lowers.{Lowers}
use Rattle.op_meaning.specs.Expressions.{result_of}
use Rattle.op_meaning.specs.Shapes.{is_reference, result_of_routine, variables_of}
use Rattle.op_mir.specs.View.{routine_at}
use Rattle.op_mir.specs.declared.code.Routine.{Routine}
use Rattle.op_agreement.proofs.Expanding.{is_expanded, closing_made}
use Rattle.op_agreement.proofs.Framing.{frame_fits}
use Rattle.op_agreement.proofs.Rooting.{have_homes}
use Rattle.op_agreement.specs.Fitting.{IsArrangedProgram, IsFitting, IsPlacedProgram, RoutineFits, ClosingFits, closing_space, PartFits}
use Rattle.op_agreement.specs.Framing.{HasVariables}
use Rattle.op_agreement.specs.Settings.{Setting}
use Rattle.op_agreement.specs.Typed.{HasResult, parameter_rows}
use Rattle.op_sizes.proofs.ClosingSmall.{finalizations_few}
use Rattle.op_typing.proofs.Callees.{RowIs, result_stands}
use Rattle.op_typing.proofs.Rows.{some_then, each_row}
use Rattle.op_typing.specs.Typed.{HasVariable}
use Rattle.op_correctness.proofs.Finalizations.{PartIs, parts_are}
use Rattle.op_correctness.proofs.Paid.{blocks_paid, least_charged}
use Rattle.op_correctness.proofs.Places.{variable_is}
use Rattle.op_correctness.proofs.ParameterRows.{parameters_counted}
use Rattle.op_correctness.proofs.RoutineCode.{blocks_fine, has_block}
use Rattle.op_correctness.proofs.Space.{at_row}
use Rattle.op_correctness.proofs.Variables.{variables_fit}
use Rattle.op_correctness.specs.Charges.{HaveCharges}
use Rattle.op_correctness.specs.SimpleCore.{IsSimpleCore}
use Rattle.op_correctness.specs.Spacious.{IsSpacious}

module _ (g : Setting) (sound : IsSound g.core) (nesting : IsSoundNesting g.core) (is : IsSimpleCore g.core) (lowers : Lowers g.core g.mir) where
  -- the rows of parameters are as many as are counted
  parameters_told : (r : ℕ) → r < length g.core.routines → length (parameter_rows g.core r) ≡ parameters_of g.core r
  parameters_told r low = let (y, there) = there_is g.core.routines r low in parameters_counted g.core sound is.simple r y there

  has_result : (r : ℕ) (of : TypeId) → HasVariable g.core r (result_of_routine g.core r) (RowIs Result of) → HasResult g.core r of
  has_result r of (low, row) = variable_is g.core r (result_of_routine g.core r) of false (low, some_then (slice_get g.core.variables ((variables_of g.core r).first + result_of_routine g.core r)) (RowIs Result of) (λ x. (x.of ≡ of) × (is_reference x.role ≡ false)) row (λ x is_row. (is_row.1, ap is_reference is_row.0)))

  -- a function has a variable for its result
  results_told : (r : ℕ) (of : TypeId) → result_of (slice_get g.core.routines r) ≡ Some of → HasResult g.core r of
  results_told r of some = by (slice_get g.core.routines r) refl some
    where
      by : (o : Option Row) → slice_get g.core.routines r ≡ o → result_of o ≡ Some of → HasResult g.core r of
      by None none e = absurd cc
      by (Some y) there e = has_result r of (result_stands g.core sound is.simple r y there of e)

  -- Its values are arranged by their types, each parameter has its row, and each result its variable.
  pub program_arranged : HaveCharges g.core → g.stack ≤ most_charge → IsArrangedProgram g
  program_arranged charges stack = record {
    extents = sound.extents;
    first_type = first_type g.core sound;
    exceptions = is.exceptions;
    outs = is.outs;
    number = lowers.number;
    parameters = parameters_told;
    results = results_told;
    stack = stack;
    few = λ r low. (charges r low).parameters;
  }

  module _ (low : g.low ≡ low_of g.core g.mir g.stack) (spacious : IsSpacious g) where
    -- Each routine that is charged no more than a stack may have fits, and so does the program itself.
    pub routine_fits : (r : ℕ) (x : Routine) → routine_at g.mir r ≡ Some x → x.charge ≤ most_charge → RoutineFits g r x
    routine_fits r x found charge =
        let has : HasVariables g.core r x = variables_fit g.core g.mir g.stack sound nesting is lowers r x found in
        record {
          some = has_block g.core g.mir g.stack sound nesting is lowers r x found;
          fine = λ k block there. blocks_fine g.core g.mir g.stack sound nesting is lowers r x found k block there (blocks_paid g.core g.mir g.stack sound nesting is lowers r x found charge k block there);
          homes = have_homes g.core r x has;
          frame = frame_fits g.core r x has;
          expanded = is_expanded g low r x found charge;
          space = spacious.charged r x found charge;
          charged = least_charged g.core g.mir g.stack sound nesting is lowers r x found charge;
        }

    -- So does the closing.
    closing_fits : has_closing g.core ≡ true → ClosingFits g
    closing_fits closes =
        let made = closing_made g low closes lowers.number in
        record {
          few = let units = is.few in let parts = finalizations_few g.core.units in omega arith;
          exists = slice_get_within g.low.routines (closing_number g.core) (closing_routine g.core g.mir g.stack) made;
          routine = ap routine_or made;
          space = spacious.closing closes;
          parts = λ k f there. part_fits (spacious.closing closes) f (each_row (PartIs g.core) (finalizations g.core) k f (parts_are g.core g.core.units sound.units is.simple.units) there);
        }
      where
        part_fits : closing_space g ≤ 20 → (f : RoutineId) → PartIs g.core f → PartFits g f.0
        part_fits small f part =
            let number = lowers.number in
            let low_part = part.low in
            record {
              exists = omega arith;
              parameters = part.parameters;
              result = part.result;
              space = λ x there charge. let taken = spacious.parts f.0 x (at_row g.mir f.0 x there) charge (slice_get_within g.mir.routines f.0 x there) part.parameters in omega arith;
            }

    -- So the program fits where it is placed as is asked.
    pub program_fits : HaveCharges g.core → g.stack ≤ most_charge → IsPlacedProgram g → IsFitting g
    program_fits charges stack placed = record { program = program_arranged charges stack; routines = routine_fits; placed = placed; closing = closing_fits }
