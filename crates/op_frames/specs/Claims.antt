-- What is proved of the low code of programs.
use Rattle.std.specs.List.{sum_by}
use Rattle.std.specs.Prelude.{◌≡◌, ◌≤◌, ◌+◌, ◌*◌, ℕ, true, false, List, length, Some, slice_get, ◌-◌}
use Rattle.op_constants.specs.Literals.{literals_of}
use Rattle.op_constants.specs.Offsets.{size_in}
use Rattle.op_constants.specs.Shapes.{is_composite}
use Rattle.op_core.specs.Rows.{rows}
use Rattle.op_core.specs.Sizes.{type_at}
use Rattle.op_core.specs.Sound.{IsSound}
use Rattle.op_core.specs.declared.ids.TypeId.{TypeId}
use Rattle.op_core.specs.declared.program.Core.{Core}
use Rattle.op_core.specs.declared.routine.Body.{Body}
use Rattle.op_core.specs.declared.routine.Role.TheVariants.{Object}
use Rattle.op_core.specs.declared.routine.Routine.{Routine as Row}
use Rattle.op_places.specs.Frames.{frame_of, parameters_of}
use Rattle.op_places.specs.Homes.{roots_of, size_of_root}
use Rattle.op_expand.specs.Programs.{globals_in, low_of}
use Rattle.op_expand.specs.Routines.{most_charge}
use Rattle.op_frames.specs.Charged.{IsCharged}
use Rattle.op_frames.specs.Counted.{AreCountedStatements}
use Rattle.op_frames.specs.Fitting.{AreFitting, registers_of_routine}
use Rattle.op_frames.specs.Made.{AreMade, Every, IsCode}
use Rattle.op_frames.specs.Named.{IsNamed}
use Rattle.op_frames.specs.Wholes.{AreWholesIn}
use Rattle.op_image.specs.Building.{is_buildable, is_laid_out}
use Rattle.op_layout.specs.Places.{layout_of}
use Rattle.op_link.specs.Memory.{variable_size}
use Rattle.op_low.specs.Valid.{is_valid, most_registers}
use Rattle.op_lower.specs.Lowers.{IsRoutine}
use Rattle.op_lower.specs.Seen.{seen_blocks}
use Rattle.op_meaning.specs.Charge.{charge_of, is_open, statements_weight, words_of}
use Rattle.op_meaning.specs.Frames.{program_of}
use Rattle.op_meaning.specs.Shapes.{shape_of, variables_of}
use Rattle.op_mir.specs.Code.{items_of}
use Rattle.op_mir.specs.FrameNeed.{frame_need}
use Rattle.op_mir.specs.Valid.{is_valid_routine}
use Rattle.op_mir.specs.declared.code.Mir.{Mir}
use Rattle.op_mir.specs.declared.code.Routine.{Routine}
use Rattle.op_mir.specs.declared.path.Root.{Root}

-- low code names what is there, and has its operands in range
abbrev pub CodeIsValid : Type 0
CodeIsValid = (core : Core) (mir : Mir) (stack : ℕ) → AreFitting core mir → is_valid (low_of core mir stack) ≡ true

-- the literals that it names are in the constants, whatever the program is
abbrev pub LiteralsAreLaidOut : Type 0
LiteralsAreLaidOut = (core : Core) (mir : Mir) (stack : ℕ) → is_laid_out (low_of core mir stack) (layout_of (literals_of core mir)) ≡ true

-- so it may be built, where its global variables have no more bytes than a program may have in them
abbrev pub CodeIsBuildable : Type 0
CodeIsBuildable = (core : Core) (mir : Mir) (stack : ℕ) → AreFitting core mir → sum_by variable_size (globals_in core) ≤ 8388608 → is_buildable (low_of core mir stack) (layout_of (literals_of core mir)) ≡ true

-- which is so of a sound program
abbrev pub GlobalsHaveRoom : Type 0
GlobalsHaveRoom = (core : Core) → IsSound core → sum_by variable_size (globals_in core) ≤ 8388608

-- the code of items names what is there, where that of each item does
abbrev pub CodeIsMade : Type 0
CodeIsMade =
    (core : Core) (stack r : ℕ) (routine : Routine) → IsRoutine core r routine → AreMade (IsNamed core (length routine.blocks)) (length routine.blocks) (items_of (program_of core stack) r)
    → Every (IsCode (IsNamed core (length routine.blocks))) (seen_blocks core r routine.blocks)

-- A routine that is charged no more than a stack has names no more registers than valid code has: its temporaries are at most twice the nodes
-- of its body, and the scratch registers of an instruction one more.
abbrev pub RegistersAreCharged : Type 0
RegistersAreCharged =
    (core : Core) (stack r : ℕ) (row : Row) (b : Body) → slice_get core.routines r ≡ Some row → row.body ≡ Some b → (routine : Routine) → IsRoutine core r routine
    → AreCountedStatements ((program_of core stack).body r) → Every (λ v. IsCharged v.role) (rows core.variables (variables_of core r))
    → ((of : TypeId) → is_composite (shape_of core of) ≡ false → 1 ≤ size_in core of) → parameters_of core r ≤ 64 → routine.charge ≤ most_charge
    → registers_of_routine core r routine ≤ most_registers

-- Its frame takes no more bytes than it is charged, if its temporaries of record and array types take no more than the words of its body, and less by
-- a word for each parameter that it could have besides, up to 63.
abbrev pub FramesAreCharged : Type 0
FramesAreCharged =
    (core : Core) (stack r : ℕ) (row : Row) (b : Body) → slice_get core.routines r ≡ Some row → row.body ≡ Some b → (routine : Routine) → IsRoutine core r routine
    → AreCountedStatements ((program_of core stack).body r)
    → ((of : TypeId) → is_open (type_at core of) ≡ true → size_in core of ≤ 12) → ((of : TypeId) → is_composite (shape_of core of) ≡ false → 1 ≤ size_in core of)
    → Every (λ v. IsCharged v.role × (v.role ≡ Object → size_in core v.of ≤ 4)) (rows core.variables (variables_of core r))
    → sum_by (size_of_root core) (roots_of routine) ≤ 4 * words_of (statements_weight core ((program_of core stack).body r))
    → parameters_of core r ≤ 64
    → (frame_of core r routine).locals + 4 * (registers_of_routine core r routine + 1) + 4 * (63 - parameters_of core r) ≤ charge_of core (record { 0 = r })

-- The temporaries of record and array types that the items of a routine name take no more room than a list that has all of them.
abbrev pub WholesAreListed : Type 0
WholesAreListed =
    (core : Core) (stack r : ℕ) (routine : Routine) (wholes : List Root) → IsRoutine core r routine → AreMade (AreWholesIn wholes) (length routine.blocks) (items_of (program_of core stack) r)
    → sum_by (size_of_root core) (roots_of routine) ≤ sum_by (size_of_root core) wholes

-- what is asked of sizes above, for sound programs
pub record AreSized (core : Core) : Type 0 where
  pub small : (of : TypeId) → size_in core of ≤ 1048576
  pub single : (of : TypeId) → is_composite (shape_of core of) ≡ false → 1 ≤ size_in core of
  pub open_ : (of : TypeId) → is_open (type_at core of) ≡ true → size_in core of ≤ 12

abbrev pub SizesAreSound : Type 0
SizesAreSound = (core : Core) → IsSound core → AreSized core

-- The frame of a routine takes no more bytes than its managed code is said to need, where that is valid.
abbrev pub FramesAreNeeded : Type 0
FramesAreNeeded =
    (core : Core) (mir : Mir) (r : ℕ) (routine : Routine) → IsSound core → is_valid_routine core mir (variables_of core r) routine ≡ true
    → (frame_of core r routine).locals + 4 * (registers_of_routine core r routine + 1) ≤ frame_need core r routine
