-- Where low code stands once it is an image.
use Rattle.std.specs.Prelude.{ℕ, suc, ◌-◌, ◌/◌, ◌%◌, ◌&&◌, Option, Some, None, List, [], ◌∷◌, nat_eq, nat_le, slice_get, if◌then◌else◌}
use Rattle.std.specs.Option.{option_map_or}
use Rattle.op_layout.specs.declared.layout.Layout.{Layout}
use Rattle.op_link.specs.Code.{symbol_address}
use Rattle.op_link.specs.Image.{regions_in}
use Rattle.op_link.specs.Linking.{program_code, settled}
use Rattle.op_link.specs.Loaded.{addresses_by}
use Rattle.op_link.specs.Memory.{code_address, stack_address, stack_top}
use Rattle.op_link.specs.Reach.{block_in, head_in}
use Rattle.op_link.specs.Region.{rights_in}
use Rattle.op_link.specs.declared.addresses.Addresses.{Addresses}
use Rattle.op_link.specs.declared.memory_map.Settings.{Settings}
use Rattle.op_link.specs.declared.place.RoutinePlace.{RoutinePlace}
use Rattle.op_low.specs.declared.code.Low.{Low}
use Rattle.op_rv.specs.State.{Rights}
use Rattle.op_rv.specs.declared.instruction.Instr.{Instr}
use Rattle.op_rv.specs.declared.objects.Objects.{Objects}
use Rattle.op_select.specs.Going.{Setting}
use Rattle.op_select.specs.Placing.{Placing}
use Rattle.op_select.specs.Selection.{select_of}

-- ---- linked code

abbrev pub linked_addresses : Objects → Layout → Settings → Addresses
linked_addresses objects layout settings = addresses_by (settled layout objects settings) layout objects

-- its instructions, one behind the other
abbrev pub linked_code : Objects → Layout → Settings → List Instr
linked_code objects layout settings =
    option_map_or (λ code. code) (program_code layout (linked_addresses objects layout settings) settings objects) []

-- the instruction at an address, where the code begins at its own
unfoldable pub instruction_at : List Instr → ℕ → Option Instr
instruction_at code at =
    if nat_le code_address at && nat_eq (at % 4) 0 then slice_get code ((at - code_address) / 4) else None

-- ---- addresses

abbrev pub or_zero : Option ℕ → ℕ
or_zero None = 0
or_zero (Some n) = n

-- the first routine whose head is at an address, where they are counted from the number r on
abbrev pub routine_from : (r : ℕ) → List RoutinePlace → ℕ → Option ℕ
routine_from r [] at = None
routine_from r (place ∷ places) at = if nat_eq place.head at then Some r else routine_from (suc r) places at

-- an address that is not there is 0
abbrev pub placing_by : Layout → Addresses → List Instr → Placing
placing_by layout addresses code =
    record {
      code = instruction_at code;
      head = λ r. or_zero (head_in addresses.routines r);
      block = λ r b. or_zero (block_in addresses.routines r b);
      address = λ symbol. or_zero (symbol_address layout addresses symbol);
    }

abbrev pub setting_by : Low → Layout → Addresses → List Instr → Rights → Settings → Setting
setting_by low layout addresses code rights settings =
    record {
      low = low;
      placing = placing_by layout addresses code;
      rights = rights;
      routine_at = routine_from 0 addresses.routines;
      bottom = stack_address settings;
      top = stack_top;
    }

-- low code where its image has it
abbrev pub setting_of : Low → Layout → Settings → (image : List ℕ) → Setting
setting_of low layout settings image =
    let objects = select_of low in
    setting_by
    low
    layout
    (linked_addresses objects layout settings)
    (linked_code objects layout settings)
    (rights_in (regions_in image))
    settings
