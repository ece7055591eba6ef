-- Objects as an image.
use Rattle.std.specs.Prelude.{ℕ, pos, ◌+◌, ◌-◌, ◌*◌, Bool, true, false, ◌&&◌, Option, Some, None, List, [], ◌∷◌, ◌++◌, length, map, replicate, slice_get, is_some, nat_lt, nat_le, if◌then◌else◌}
use Rattle.std.specs.List.{flat_map, list_all}
use Rattle.std.specs.Option.{option_map, option_map_or}
use Rattle.byteorder.specs.Endian.{little_bytes}
use Rattle.op_layout.specs.declared.layout.Layout.{Layout}
use Rattle.op_rv.specs.declared.instruction.ImmOp.TheVariants.{Addi}
use Rattle.op_rv.specs.declared.instruction.Instr.{Instr}
use Rattle.op_rv.specs.declared.instruction.Instr.TheVariants.{Imm, Lui, Store}
use Rattle.op_rv.specs.declared.instruction.StoreOp.TheVariants.{Sw}
use Rattle.op_rv.specs.declared.objects.Item.{Item}
use Rattle.op_rv.specs.declared.objects.Item.TheVariants.{Plain, Address, Branch, Jump, Call, CallAt}
use Rattle.op_rv.specs.declared.objects.ObjectRoutine.{ObjectRoutine}
use Rattle.op_rv.specs.declared.objects.Objects.{Objects}
use Rattle.op_rv.specs.declared.symbol.RoutineId.{RoutineId}
use Rattle.op_rv.specs.declared.symbol.Symbol.{Symbol}
use Rattle.op_rv.specs.declared.symbol.Symbol.TheVariants.{Literal, Table, Descriptor, Global, Routine}
use Rattle.op_link.specs.declared.addresses.Addresses.{Addresses}
use Rattle.op_link.specs.declared.memory_map.Settings.{Settings}
use Rattle.op_link.specs.declared.memory_map.Sizes.{Sizes}
use Rattle.op_link.specs.declared.place.RoutinePlace.{RoutinePlace}
use Rattle.op_link.specs.declared.table.Segment.{Segment}
use Rattle.op_link.specs.Reach.{head_in}
use Rattle.op_link.specs.Placing.{first_spot, placement_by}
use Rattle.op_link.specs.Code.{code_at, go_by_register, high_of, routine_has_fields, routines_code, set_address, then_code, words_of}
use Rattle.op_link.specs.Memory.{code_address, constants_address, constants_size, control_address, global_addresses, globals_address, globals_size, heap_address, heap_size, initial_bytes, initial_size, segments_of, stack_address, stack_top, zero_size}

-- ---- headers

abbrev pub halves : List ℕ → List ℕ
halves ns = flat_map (little_bytes 2) ns

abbrev pub words : List ℕ → List ℕ
words ns = flat_map (little_bytes 4) ns

-- the magic number, 32 bits, little-endian, version 1; an executable file for RISC-V, version 1, its entry, the place of the
-- program headers, no sections and no flags; the sizes of the headers, six program headers, and nothing of sections
unfoldable pub file_header : List ℕ
file_header =
    (0x7f ∷ 0x45 ∷ 0x4c ∷ 0x46 ∷ 1 ∷ 1 ∷ 1 ∷ 0 ∷ 0 ∷ 0 ∷ 0 ∷ 0 ∷ 0 ∷ 0 ∷ 0 ∷ 0 ∷ [])
    ++ halves (2 ∷ 243 ∷ [])
    ++ words (1 ∷ code_address ∷ 52 ∷ 0 ∷ 0 ∷ [])
    ++ halves (52 ∷ 32 ∷ 6 ∷ 0 ∷ 0 ∷ 0 ∷ [])

-- a loadable segment, at an address that is both the virtual and the physical one, aligned at 4,096
unfoldable pub program_header : Segment → List ℕ
program_header s =
    words (1 ∷ s.offset ∷ s.address ∷ s.address ∷ s.file_size ∷ s.memory_size ∷ s.flags ∷ 4096 ∷ [])

abbrev pub program_headers : List Segment → List ℕ
program_headers segments = flat_map program_header segments

-- ---- the code and the constants

-- x5 gets the address of the control region and x6 that of the heap, and the region is told that the first hole begins there
abbrev pub first_hole_code : List Instr
first_hole_code = Lui 5 (high_of control_address) ∷ Lui 6 (high_of heap_address) ∷ Store Sw 5 6 (pos 0) ∷ []

-- the region and the hole are told the bytes of the heap
abbrev pub heap_size_code : Settings → List Instr
heap_size_code settings = set_address 7 (heap_size settings) ++ (Store Sw 5 7 (pos 8) ∷ Store Sw 6 7 (pos 0) ∷ [])

-- the region is told the bytes of the stack that the program gets, and that slot 1 is the least that was never issued
abbrev pub stack_size_code : Settings → List Instr
stack_size_code settings =
    set_address 7 (1024 * settings.stack) ++ (Store Sw 5 7 (pos 12) ∷ Imm Addi 7 0 (pos 1) ∷ Store Sw 5 7 (pos 16) ∷ [])

-- all of the heap becomes one hole
abbrev pub heap_code : Settings → List Instr
heap_code settings = first_hole_code ++ heap_size_code settings ++ stack_size_code settings

-- sets x8 to the bottom of the stack and x2 to its top, and goes to an address
abbrev pub stack_code : Settings → ℕ → List Instr
stack_code settings to = set_address 8 (stack_address settings) ++ set_address 2 stack_top ++ go_by_register 0 to

abbrev pub start_code : Settings → ℕ → List Instr
start_code settings to = heap_code settings ++ stack_code settings to

-- begins, goes to the head of the entry, and has all routines behind that
unfoldable pub program_code : Layout → Addresses → Settings → Objects → Option (List Instr)
program_code layout addresses settings objects =
    code_at
    (λ to. then_code (Some (start_code settings to)) (routines_code layout addresses 0 first_spot objects.routines))
    (head_in addresses.routines objects.entry.0)

-- the address of a routine, 0 where there is none
unfoldable pub entry_word : List RoutinePlace → RoutineId → ℕ
entry_word routines routine = option_map_or (λ address. address) (head_in routines routine.0) 0

unfoldable pub constants_bytes : Layout → List RoutinePlace → List ℕ
constants_bytes layout routines = layout.bytes ++ words (map (entry_word routines) layout.entries)

-- ---- the image

-- the sizes of the parts of a program whose code ends there
unfoldable pub sizes_of : ℕ → Layout → Objects → Sizes
sizes_of code_end layout objects =
    record {
      code = code_end - code_address;
      constants = constants_size layout;
      initial = initial_size objects.globals;
      zeros = zero_size objects.globals;
    }

-- where everything stands
unfoldable pub addresses_of : List RoutinePlace → List RoutinePlace → Sizes → Objects → Addresses
addresses_of known routines sizes objects =
    record {
      known = known;
      routines = routines;
      constants = constants_address sizes;
      globals = global_addresses (globals_address sizes) objects.globals;
    }

-- the zeros between the code and the constants, and between the constants and the globals
unfoldable pub code_padding : Sizes → ℕ
code_padding sizes = constants_address sizes - (code_address + sizes.code)

unfoldable pub constants_padding : Sizes → ℕ
constants_padding sizes = globals_address sizes - (constants_address sizes + sizes.constants)

-- what the file has in front of the code, up to the offset 4,096, and what it has behind the code
unfoldable pub front_bytes : Sizes → Settings → List ℕ
front_bytes sizes settings = file_header ++ program_headers (segments_of sizes settings) ++ replicate 3852 0

unfoldable pub data_bytes : Layout → Objects → Sizes → List RoutinePlace → List ℕ
data_bytes layout objects sizes routines =
    replicate (code_padding sizes) 0
    ++ constants_bytes layout routines
    ++ replicate (constants_padding sizes) 0
    ++ initial_bytes objects.globals

-- headers, and from the offset 4,096 on the segments
unfoldable pub image_bytes : Layout → Objects → Settings → Sizes → List RoutinePlace → List Instr → List ℕ
image_bytes layout objects settings sizes routines code =
    front_bytes sizes settings ++ words_of code ++ data_bytes layout objects sizes routines

-- the image, if these addresses are known; none if something is out of reach
unfoldable pub image_by : List RoutinePlace → Layout → Objects → Settings → Option (List ℕ)
image_by known layout objects settings =
    let placement = placement_by known objects.routines in
    let sizes = sizes_of placement.end layout objects in
    option_map
    (image_bytes layout objects settings sizes placement.routines)
    (program_code layout (addresses_of known placement.routines sizes objects) settings objects)

-- the bytes of code, constants and initial globals
abbrev pub linked_size_of : Sizes → ℕ
linked_size_of sizes = sizes.code + sizes.constants + sizes.initial

unfoldable pub linked_size_by : List RoutinePlace → Layout → Objects → ℕ
linked_size_by known layout objects =
    linked_size_of (sizes_of (placement_by known objects.routines).end layout objects)

-- ---- which items go directly to what they name

-- where everything stands if every item has its longest form
unfoldable pub longest : Objects → List RoutinePlace
longest objects = (placement_by [] objects.routines).routines

-- an item goes directly to what would be within reach if all items had their longest forms; where that were wrong, all items
-- have their longest forms
unfoldable pub settled : Layout → Objects → Settings → List RoutinePlace
settled layout objects settings =
    if is_some (image_by (longest objects) layout objects settings) then longest objects else []

-- what linking gives
unfoldable pub image_of : Objects → Layout → Settings → List ℕ
image_of objects layout settings =
    option_map_or (λ image. image) (image_by (settled layout objects settings) layout objects settings) []

unfoldable pub linked_size : Objects → Layout → Settings → ℕ
linked_size objects layout settings = linked_size_by (settled layout objects settings) layout objects

-- ---- what may be linked

-- the place of something in the constants lies within them
abbrev pub lies_within : Layout → Option ℕ → Bool
lies_within layout None = false
lies_within layout (Some offset) = nat_le offset (constants_size layout)

unfoldable pub has_symbol : Objects → Layout → Symbol → Bool
has_symbol objects layout (Literal id) =
    lies_within layout (option_map (λ place. place.offset) (slice_get layout.literals id.0))
has_symbol objects layout (Table id) = lies_within layout (slice_get layout.tables id.0)
has_symbol objects layout (Descriptor id) = lies_within layout (slice_get layout.descriptors id.0)
has_symbol objects layout (Global id) = nat_lt id.0 (length objects.globals)
has_symbol objects layout (Routine id) = nat_lt id.0 (length objects.routines)

-- what an item of a routine of so many blocks names is there
unfoldable pub names_exist : Objects → Layout → ℕ → Item → Bool
names_exist objects layout blocks (Plain i) = true
names_exist objects layout blocks (Address rd symbol) = has_symbol objects layout symbol
names_exist objects layout blocks (Branch op left right block) = nat_lt block.0 blocks
names_exist objects layout blocks (Jump block) = nat_lt block.0 blocks
names_exist objects layout blocks (Call routine landing) = nat_lt routine.0 (length objects.routines)
names_exist objects layout blocks (CallAt landing) = true

abbrev pub all_names_exist : Objects → Layout → ObjectRoutine → Bool
all_names_exist objects layout routine =
    list_all (names_exist objects layout (length routine.blocks)) routine.head
    && list_all
    (λ block. list_all (names_exist objects layout (length routine.blocks)) block.items)
    routine.blocks

-- the entry is there, the globals take at most 15,728,640 bytes, with those between them, instructions have words, and what is named is there
unfoldable pub is_linkable : Objects → Layout → Bool
is_linkable objects layout =
    nat_lt objects.entry.0 (length objects.routines)
    && nat_le (globals_size objects.globals) 15728640
    && list_all routine_has_fields objects.routines
    && list_all (all_names_exist objects layout) objects.routines
    && list_all (λ routine. nat_lt routine.0 (length objects.routines)) layout.entries
