-- Where the parts of a program lie in memory.
use Rattle.std.specs.Prelude.{ℕ, ◌+◌, ◌-◌, ◌*◌, ◌/◌, ◌%◌, ◌≤◌, ◌⊎◌, Bool, true, false, not, ◌&&◌, Option, Some, None, List, [], ◌∷◌, ◌++◌, length, replicate, nat_eq, nat_le, if◌then◌else◌}
use Rattle.std.specs.List.{fold}
use Rattle.op_layout.specs.declared.layout.Layout.{Layout}
use Rattle.op_rv.specs.declared.objects.GlobalVariable.{GlobalVariable}
use Rattle.op_link.specs.declared.memory_map.Settings.{Settings}
use Rattle.op_link.specs.declared.memory_map.Sizes.{Sizes}
use Rattle.op_link.specs.declared.table.Segment.{Segment}

-- ---- global variables: those with bytes of their own lie one behind the other in one stretch, and those that begin as zero in another one
-- behind it. Where they lie is told by offsets from the beginning of the first stretch, which is at a multiple of 4.

-- the bytes of a variable
abbrev pub variable_size : GlobalVariable → ℕ
variable_size global = length global.initial + global.zeros

-- the next multiple of an alignment, an offset itself if it is one
abbrev pub next_multiple : (alignment from : ℕ) → ℕ
next_multiple alignment from = (from + (alignment - 1)) / alignment * alignment

-- Where so many bytes begin that come at an offset or behind it: at a multiple of 4 if their number is one, at an even offset if it is even,
-- and else there. So they lie at a multiple of the alignment of their type, which divides its size.
unfoldable pub begin_by : (size from : ℕ) → ℕ
begin_by size from =
    if nat_eq size 0 then from
    else if nat_eq (size % 4) 0 then next_multiple 4 from
    else if nat_eq (size % 2) 0 then next_multiple 2 from
    else from

abbrev pub begin_of : ℕ → GlobalVariable → ℕ
begin_of from global = begin_by (variable_size global) from

unfoldable pub begins_as_zero : GlobalVariable → Bool
begins_as_zero global = nat_eq (length global.initial) 0

-- whether it lies in the stretch of those that begin as zero, or of the others
unfoldable pub lies_in : (as_zero : Bool) → GlobalVariable → Bool
lies_in as_zero global = if as_zero then begins_as_zero global else not (begins_as_zero global)

-- the offset behind a variable in either stretch
unfoldable pub behind_global : (as_zero : Bool) → ℕ → GlobalVariable → ℕ
behind_global as_zero from global =
    if lies_in as_zero global then begin_of from global + variable_size global else from

abbrev pub behind_globals : (as_zero : Bool) → ℕ → List GlobalVariable → ℕ
behind_globals as_zero from globals = fold (behind_global as_zero) from globals

-- the bytes of the first stretch, of both, and of the second one
abbrev pub initial_size : List GlobalVariable → ℕ
initial_size globals = behind_globals false 0 globals

abbrev pub globals_size : List GlobalVariable → ℕ
globals_size globals = behind_globals true (initial_size globals) globals

abbrev pub zero_size : List GlobalVariable → ℕ
zero_size globals = globals_size globals - initial_size globals

-- the address of each one, if the first stretch begins there, from the next offset in either stretch on
abbrev pub addresses_from : (start own other : ℕ) → List GlobalVariable → List ℕ
addresses_from start own other [] = []
addresses_from start own other (global ∷ globals) =
    (start + begin_of (if begins_as_zero global then other else own) global)
    ∷ addresses_from start (behind_global false own global) (behind_global true other global) globals

abbrev pub global_addresses : ℕ → List GlobalVariable → List ℕ
global_addresses start globals = addresses_from start 0 (initial_size globals) globals

-- a number, if it is within what all variables may take
unfoldable pub if_small : ℕ → Option ℕ
if_small n = if nat_le n 15728640 then Some n else None

-- of two stretches of memory one ends before the other one begins
abbrev pub LieApart : (at size other_at other_size : ℕ) → Type 0
LieApart at size other_at other_size = (at + size ≤ other_at) ⊎ (other_at + other_size ≤ at)

-- what the file has of a variable that comes at an offset or behind it, with the zeros in front of it
unfoldable pub global_bytes : ℕ → GlobalVariable → List ℕ
global_bytes from global =
    if begins_as_zero global then [] else replicate (begin_of from global - from) 0 ++ global.initial ++ replicate global.zeros 0

abbrev pub bytes_of_globals : ℕ → List GlobalVariable → List ℕ
bytes_of_globals from [] = []
bytes_of_globals from (global ∷ globals) = global_bytes from global ++ bytes_of_globals (behind_global false from global) globals

abbrev pub initial_bytes : List GlobalVariable → List ℕ
initial_bytes globals = bytes_of_globals 0 globals

-- ---- segments

abbrev pub page_up : ℕ → ℕ
page_up n = (n + 4095) / 4096 * 4096

abbrev pub code_address : ℕ
code_address = 0x00010000

unfoldable pub constants_address : Sizes → ℕ
constants_address sizes = page_up (code_address + sizes.code)

unfoldable pub globals_address : Sizes → ℕ
globals_address sizes = page_up (constants_address sizes + sizes.constants)

abbrev pub control_address : ℕ
control_address = 0x08000000

abbrev pub heap_address : ℕ
heap_address = 0x10000000

abbrev pub heap_size : Settings → ℕ
heap_size settings = 1024 * settings.heap

-- the stack of the settings, and 2,048 bytes for what runs below all routines
abbrev pub stack_size : Settings → ℕ
stack_size settings = 1024 * settings.stack + 2048

abbrev pub stack_top : ℕ
stack_top = 0x70000000

unfoldable pub stack_address : Settings → ℕ
stack_address settings = stack_top - stack_size settings

-- a segment with bytes in the file: they stand there as in memory, from the offset 4,096 on
abbrev pub filled : ℕ → ℕ → ℕ → ℕ → Segment
filled address file_size memory_size flags =
    record {
      address = address;
      offset = address - 0xF000;
      file_size = file_size;
      memory_size = memory_size;
      flags = flags;
    }

-- a segment of zeros, which may be read and written. Its offset is its address modulo the size of a page, as for all.
abbrev pub empty : ℕ → ℕ → Segment
empty address size =
    record { address = address; offset = address % 4096; file_size = 0; memory_size = size; flags = 6 }

-- code, constants, globals, control region, heap, stack; 1 is the right to execute, 2 to write, 4 to read
unfoldable pub segments_of : Sizes → Settings → List Segment
segments_of sizes settings =
    filled code_address sizes.code sizes.code 5
    ∷ filled (constants_address sizes) sizes.constants sizes.constants 4
    ∷ filled (globals_address sizes) sizes.initial (sizes.initial + sizes.zeros) 6
    ∷ empty control_address 524312
    ∷ empty heap_address (heap_size settings)
    ∷ empty (stack_address settings) (stack_size settings)
    ∷ []

-- ---- numbers

abbrev pub constants_size : Layout → ℕ
constants_size layout = length layout.bytes + 4 * length layout.entries

-- code, constants and initial globals may take 64 MiB
abbrev pub most_linked : ℕ
most_linked = 67108864

-- heap and stack in KiB
abbrev pub are_in_range : Settings → Bool
are_in_range settings =
    nat_le 64 settings.heap && nat_le settings.heap 262144 && nat_le 16 settings.stack && nat_le settings.stack 65536
