-- What is proved of the size of low code and of images.
use Rattle.std.specs.Prelude.{◌≡◌, ◌≤◌, ℕ, ◌+◌, ◌*◌, List, Some, length, slice_get, take}
use Rattle.std.specs.List.{All}
use Rattle.op_constants.specs.Literals.{literals_of}
use Rattle.op_core.specs.Rows.{rows}
use Rattle.op_core.specs.Sound.{IsSound}
use Rattle.op_core.specs.declared.program.Core.{Core}
use Rattle.op_core.specs.declared.routine.Owner.TheVariants.{Unit as OfUnit}
use Rattle.op_core.specs.declared.routine.Routine.{Routine as Row}
use Rattle.op_places.specs.Frames.{parameters_of}
use Rattle.op_expand.specs.Programs.{low_of}
use Rattle.op_expand.specs.Routines.{instruction_code, low_routine}
use Rattle.op_places.specs.declared.frame.Frame.{Frame}
use Rattle.op_frames.specs.Counted.{AreCountedStatements}
use Rattle.op_frames.specs.Made.{Every}
use Rattle.op_layout.specs.Places.{layout_of}
use Rattle.op_link.specs.Linking.{linked_size}
use Rattle.op_link.specs.declared.memory_map.Settings.{Settings}
use Rattle.op_low.specs.declared.code.Low.{Low}
use Rattle.op_low.specs.declared.instruction.Instruction.{Instruction as LowInstruction}
use Rattle.op_lower.specs.Lowers.{IsProgram, IsRoutine, Lowers}
use Rattle.op_meaning.specs.Charge.{charge_of, nodes_of, statements_weight}
use Rattle.op_meaning.specs.Frames.{program_of}
use Rattle.op_meaning.specs.Shapes.{variables_of}
use Rattle.op_mir.specs.declared.code.Mir.{Mir}
use Rattle.op_mir.specs.declared.code.Routine.{Routine}
use Rattle.op_mir.specs.declared.instruction.Instruction.{Instruction}
use Rattle.op_optimize.specs.Optimizing.{Optimizes}
use Rattle.op_select.specs.Selection.{select_of}
use Rattle.op_sizes.specs.ProgramSize.{program_size}
use Rattle.op_sizes.specs.Weights.{blocks_weight, code_weight}
use Rattle.op_sizes.specs.Written.{AreWrittenStatements}

-- code has no more instructions than it counts for
abbrev pub WeightsCoverLengths : Type 0
WeightsCoverLengths = (code : List LowInstruction) → length code ≤ code_weight code

-- the low code of the instruction counts for so much at most, whatever the frame and the literals
abbrev pub IsSmall : Core → Mir → (most : ℕ) → Instruction → Type 0
IsSmall core mir most i = (frame : Frame) (texts : List (List ℕ)) → code_weight (instruction_code core mir frame texts i) ≤ most

-- that of each instruction of a routine's managed code does
abbrev pub AreSmall : Core → Mir → (most : ℕ) → Routine → Type 0
AreSmall core mir most routine = Every (λ b. Every (IsSmall core mir most) b.code) routine.blocks

-- one instruction of a routine's managed code gets no more low code than three times what the routine is charged
abbrev pub InstructionsAreSmall : Type 0
InstructionsAreSmall =
    (core : Core) (mir : Mir) (stack r : ℕ) (row : Row) (routine : Routine) → slice_get core.routines r ≡ Some row → IsRoutine core r routine
    → AreCountedStatements ((program_of core stack).body r) → AreWrittenStatements ((program_of core stack).body r)
    → AreSmall core mir (3 * charge_of core (record { 0 = r })) routine

-- how many parameters a routine receives
abbrev pub received_in : Core → ℕ → ℕ
received_in core r = length (take (parameters_of core r) (rows core.variables (variables_of core r)))

-- all blocks of a routine, with its beginning and the blocks of errors: 44 for each node of its body, 9 for each of its variables, and 8 more for
-- each parameter
abbrev pub RoutinesAreSmall : Type 0
RoutinesAreSmall =
    (core : Core) (mir : Mir) (texts : List (List ℕ)) (stack r : ℕ) (routine : Routine) → IsRoutine core r routine
    → AreCountedStatements ((program_of core stack).body r) → AreWrittenStatements ((program_of core stack).body r)
    → blocks_weight (low_routine core mir texts r routine).blocks ≤ 44 * nodes_of (statements_weight core ((program_of core stack).body r)) + 8 * received_in core r + 9 * (variables_of core r).count + 46

-- what stands below all routines: one instruction, and all blocks by the units whose parts it enters
abbrev pub ProgramIsSmall : Type 0
ProgramIsSmall =
    (core : Core) (mir : Mir) (texts : List (List ℕ)) (r : ℕ) (routine : Routine) → IsProgram core.units routine
    → AreSmall core mir 22 routine × (blocks_weight (low_routine core mir texts r routine).blocks ≤ 10 * length core.units + 17 * (variables_of core r).count + 68)

-- what is linked of what the optimizer makes of a program without methods takes no more bytes than the size of the program
abbrev pub ImagesAreSmall : Type 0
ImagesAreSmall =
    (core : Core) (mir : Mir) (stack : ℕ) (settings : Settings) (better : Low) → Lowers core mir → IsSound core → All (λ x. x.owner ≡ OfUnit) core.routines
    → ((r : ℕ) → AreCountedStatements ((program_of core stack).body r)) → ((r : ℕ) → AreWrittenStatements ((program_of core stack).body r))
    → Optimizes (low_of core mir stack) better → linked_size (select_of better) (layout_of (literals_of core mir)) settings ≤ program_size core
