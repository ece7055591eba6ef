-- What is proved of the temporaries of record and array types, and so of frames.
use Rattle.std.specs.List.{sum_by}
use Rattle.std.specs.Prelude.{◌≡◌, ◌≤◌, ℕ, ◌+◌, ◌*◌, Some, slice_get, ◌-◌}
use Rattle.op_constants.specs.Offsets.{size_in}
use Rattle.op_core.specs.Rows.{rows}
use Rattle.op_core.specs.Sound.{IsSound}
use Rattle.op_core.specs.Statement.{Statements}
use Rattle.op_core.specs.declared.program.Core.{Core}
use Rattle.op_core.specs.declared.routine.Body.{Body}
use Rattle.op_core.specs.declared.routine.Role.TheVariants.{Object}
use Rattle.op_core.specs.declared.routine.Routine.{Routine as Row}
use Rattle.op_places.specs.Frames.{frame_of, parameters_of}
use Rattle.op_places.specs.Homes.{size_of_root}
use Rattle.op_frames.specs.Charged.{IsCharged}
use Rattle.op_frames.specs.Counted.{AreCountedStatements}
use Rattle.op_frames.specs.Fitting.{registers_of_routine}
use Rattle.op_frames.specs.Made.{AreMade, Every}
use Rattle.op_frames.specs.Wholes.{AreWholesIn}
use Rattle.op_lower.specs.Lowers.{IsRoutine}
use Rattle.op_meaning.specs.Charge.{charge_of, statements_weight, words_of}
use Rattle.op_meaning.specs.Frames.{program_of}
use Rattle.op_meaning.specs.Shapes.{variables_of}
use Rattle.op_mir.specs.Code.{items_of}
use Rattle.op_mir.specs.FrameNeed.{frame_need}
use Rattle.op_mir.specs.declared.code.Routine.{Routine}
use Rattle.op_typing.specs.Simple.{IsSimpleProgram}
use Rattle.op_wholes.specs.Listed.{wholes_of_statements}

-- the items of a routine of a sound program without strings and references name no others than the list has
abbrev pub WholesAreNamed : Type 0
WholesAreNamed =
    (core : Core) (stack r : ℕ) (row : Row) (b : Body) → IsSound core → IsSimpleProgram core → slice_get core.routines r ≡ Some row → row.body ≡ Some b
    → AreCountedStatements ((program_of core stack).body r)
    → (blocks : ℕ) → AreMade (AreWholesIn (wholes_of_statements core 0 ((program_of core stack).body r))) blocks (items_of (program_of core stack) r)

-- those of the list take no more bytes than the words of the text
abbrev pub WholesAreCharged : Type 0
WholesAreCharged = (core : Core) (n : ℕ) (ss : Statements) → sum_by (size_of_root core) (wholes_of_statements core n ss) ≤ 4 * words_of (statements_weight core ss)

-- A frame takes no more bytes than its routine is charged, and less by a word for each parameter that it could have besides, up to 63.
abbrev pub FramesFitCharges : Type 0
FramesFitCharges =
    (core : Core) (stack r : ℕ) (row : Row) (b : Body) → IsSound core → IsSimpleProgram core → slice_get core.routines r ≡ Some row → row.body ≡ Some b
    → (routine : Routine) → IsRoutine core r routine → AreCountedStatements ((program_of core stack).body r)
    → Every (λ v. IsCharged v.role × (v.role ≡ Object → size_in core v.of ≤ 4)) (rows core.variables (variables_of core r))
    → parameters_of core r ≤ 64
    → (frame_of core r routine).locals + 4 * (registers_of_routine core r routine + 1) + 4 * (63 - parameters_of core r) ≤ charge_of core (record { 0 = r })

-- So does what its managed code is said to need.
abbrev pub NeedsFitCharges : Type 0
NeedsFitCharges =
    (core : Core) (stack r : ℕ) (row : Row) (b : Body) → IsSound core → IsSimpleProgram core → slice_get core.routines r ≡ Some row → row.body ≡ Some b
    → (routine : Routine) → IsRoutine core r routine → AreCountedStatements ((program_of core stack).body r)
    → Every (λ v. IsCharged v.role × (v.role ≡ Object → size_in core v.of ≤ 4)) (rows core.variables (variables_of core r))
    → parameters_of core r ≤ 64
    → frame_need core r routine ≤ charge_of core (record { 0 = r })
