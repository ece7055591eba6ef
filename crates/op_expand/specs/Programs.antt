-- Programs of managed code as programs of low code: the run-time routines, those of the program in the order of their numbers, and the
-- program itself, with which it begins; and where it ends.
use Rattle.std.specs.Prelude.{ℕ, ◌+◌, List, [], ◌∷◌, ◌++◌, length, map, Option, Some, None, replicate, slice_get, slice_set, if◌then◌else◌}
use Rattle.std.specs.Int.{bytes_low_first}
use Rattle.std.specs.List.{fold}
use Rattle.std.specs.Option.{option_map}
use Rattle.op_constants.specs.FirstBytes.{are_zeros, first_bytes}
use Rattle.op_constants.specs.Literals.{literals_of}
use Rattle.op_constants.specs.Offsets.{size_in}
use Rattle.op_core.specs.Initial.{FirstValue, first_value_of}
use Rattle.op_core.specs.declared.ids.TypeId.{TypeId}
use Rattle.op_core.specs.declared.ids.VariableId.{VariableId}
use Rattle.op_core.specs.declared.program.Core.{Core}
use Rattle.op_core.specs.declared.routine.Variable.{Variable}
use Rattle.op_expand.specs.Calls.{runtime}
use Rattle.op_expand.specs.Closing.{closing_routines}
use Rattle.op_expand.specs.Routines.{low_routine}
use Rattle.op_low.specs.declared.code.Low.{Low}
use Rattle.op_low.specs.declared.code.Routine.{Routine as LowRoutine}
use Rattle.op_mir.specs.declared.code.Mir.{Mir}
use Rattle.op_mir.specs.declared.code.Routine.{Routine}
use Rattle.op_rt_text.specs.Runtime.{runtime_routines}
use Rattle.op_rv.specs.declared.objects.GlobalVariable.{GlobalVariable}

-- ---- global variables, by the numbers of their rows; rows of other variables have no bytes

abbrev pub no_bytes : GlobalVariable
no_bytes = record { initial = []; zeros = 0 }

-- what begins as zero has no bytes of its own
abbrev pub global_with : List ℕ → GlobalVariable
global_with bytes = if are_zeros bytes then record { initial = []; zeros = length bytes } else record { initial = bytes; zeros = 0 }

abbrev global_by : Core → TypeId → Option FirstValue → GlobalVariable
global_by core of None = record { initial = []; zeros = size_in core of }
global_by core of (Some value) = global_with (first_bytes core of value)

abbrev pub global_of : Core → Option Variable → GlobalVariable
global_of core None = no_bytes
global_of core (Some v) = global_by core v.of (option_map (λ i. first_value_of i.value) v.first_value)

abbrev pub with_global : Core → List GlobalVariable → VariableId → List GlobalVariable
with_global core globals id = slice_set globals id.0 (global_of core (slice_get core.variables id.0))

abbrev pub globals_in : Core → List GlobalVariable
globals_in core = fold (with_global core) (replicate (length core.variables) no_bytes) core.globals

-- the bytes of stack
abbrev pub stack_global : ℕ → GlobalVariable
stack_global stack = record { initial = bytes_low_first 0 4 stack; zeros = 0 }

-- ---- routines, from number r on

abbrev pub routines_from : Core → Mir → (texts : List (List ℕ)) → (r : ℕ) → List Routine → List LowRoutine
routines_from core mir texts r [] = []
routines_from core mir texts r (x ∷ xs) = low_routine core mir texts r x ∷ routines_from core mir texts (r + 1) xs

-- ---- a program without its code: of the other routines, the low code of a routine reads the charges alone

abbrev pub routine_without_code : Routine → Routine
routine_without_code routine = record { locals = routine.locals; temporaries = routine.temporaries; charge = routine.charge; blocks = [] }

abbrev pub without_code : Mir → Mir
without_code mir = record { routines = map routine_without_code mir.routines; program = routine_without_code mir.program; counts = mir.counts }

-- ---- the program

-- where these texts are the literals
abbrev pub low_with : (texts : List (List ℕ)) → Core → Mir → (stack : ℕ) → Low
low_with texts core mir stack =
    let program = length mir.routines in
    record {
      routines = runtime_routines ++ routines_from core mir texts 0 mir.routines ++ low_routine core mir texts program mir.program ∷ closing_routines core mir stack;
      entry = record { 0 = runtime + program };
      counts = record { literals = length texts; tables = 0; descriptors = 0 };
      globals = globals_in core ++ stack_global stack ∷ [];
    }

abbrev pub low_of : Core → Mir → (stack : ℕ) → Low
low_of core mir stack = low_with (literals_of core mir) core mir stack
