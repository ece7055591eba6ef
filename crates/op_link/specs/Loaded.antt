-- What a linked image is, once it is loaded.
use Rattle.std.specs.Prelude.{◌≡◌, ℕ, ◌-◌, Some, None, List, [], ◌∷◌, take, drop, ⊤}
use Rattle.op_layout.specs.declared.layout.Layout.{Layout}
use Rattle.op_rv.specs.Decoding.{instr_at}
use Rattle.op_rv.specs.Encoding.{word_of}
use Rattle.op_rv.specs.declared.instruction.Instr.{Instr}
use Rattle.op_rv.specs.declared.objects.Objects.{Objects}
use Rattle.op_link.specs.declared.addresses.Addresses.{Addresses}
use Rattle.op_link.specs.declared.memory_map.Settings.{Settings}
use Rattle.op_link.specs.declared.memory_map.Sizes.{Sizes}
use Rattle.op_link.specs.declared.place.RoutinePlace.{RoutinePlace}
use Rattle.op_link.specs.declared.table.Segment.{Segment}
use Rattle.op_link.specs.Image.{entry_in, first_failing, segments}
use Rattle.op_link.specs.Memory.{code_address, constants_address, globals_address, initial_bytes}
use Rattle.op_link.specs.Code.{words_of}
use Rattle.op_link.specs.Placing.{placement_by}
use Rattle.op_link.specs.Linking.{addresses_of, constants_bytes, program_code, settled, sizes_of}
use Rattle.op_link.specs.Standing.{AllStand}

-- how large the parts are and where everything stands, if these addresses are known
unfoldable pub sizes_by : List RoutinePlace → Layout → Objects → Sizes
sizes_by known layout objects = sizes_of (placement_by known objects.routines).end layout objects

unfoldable pub addresses_by : List RoutinePlace → Layout → Objects → Addresses
addresses_by known layout objects =
    addresses_of known (placement_by known objects.routines).routines (sizes_by known layout objects) objects

-- the same of what linking settles on
abbrev pub linked_sizes : Objects → Layout → Settings → Sizes
linked_sizes objects layout settings = sizes_by (settled layout objects settings) layout objects

-- it meets all conditions on images, it has these segments, and it begins at its code
pub record IsLoaded (image : List ℕ) (wanted : List Segment) : Type 0 where
  pub meets : first_failing image ≡ None
  pub segments : segments image ≡ wanted
  pub entry : entry_in image ≡ code_address

-- each instruction is what its word decodes to
abbrev pub Decodes : List Instr → Type 0
Decodes [] = ⊤
Decodes (i ∷ code) = (instr_at (word_of i) ≡ Some i) × Decodes code

-- an image with the code of a program: its words are the code segment, each decodes to its instruction, each routine, block
-- and item stands where its address says, the constants are their segment, and the globals that have bytes of their own are
-- what the file has of theirs
pub record HasCodeBy (known : List RoutinePlace) (image : List ℕ) (objects : Objects) (layout : Layout) (settings : Settings) : Type 0 where
  pub code : List Instr
  pub is : program_code layout (addresses_by known layout objects) settings objects ≡ Some code
  pub stands : take (sizes_by known layout objects).code (drop 4096 image) ≡ words_of code
  pub decodes : Decodes code
  pub items : AllStand code layout (addresses_by known layout objects) objects.routines
  pub constants : take (sizes_by known layout objects).constants (drop (constants_address (sizes_by known layout objects) - 0xF000) image) ≡ constants_bytes layout (addresses_by known layout objects).routines
  pub globals : take (sizes_by known layout objects).initial (drop (globals_address (sizes_by known layout objects) - 0xF000) image) ≡ initial_bytes objects.globals

abbrev pub HasCode : List ℕ → Objects → Layout → Settings → Type 0
HasCode image objects layout settings = HasCodeBy (settled layout objects settings) image objects layout settings
