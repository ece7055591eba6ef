-- Where the code of each item stands.
use Rattle.std.specs.Prelude.{◌≡◌, ◌<◌, ℕ, ◌+◌, ◌*◌, Some, List, [], ◌∷◌, ◌++◌, length, slice_get, ⊤}
use Rattle.op_layout.specs.declared.layout.Layout.{Layout}
use Rattle.op_rv.specs.declared.instruction.Instr.{Instr}
use Rattle.op_rv.specs.declared.objects.Item.{Item}
use Rattle.op_rv.specs.declared.objects.ObjectBlock.{ObjectBlock}
use Rattle.op_rv.specs.declared.objects.ObjectRoutine.{ObjectRoutine}
use Rattle.op_link.specs.declared.addresses.Addresses.{Addresses}
use Rattle.op_link.specs.declared.place.Spot.{Spot}
use Rattle.op_link.specs.Code.{item_code}
use Rattle.op_link.specs.Memory.{code_address}
use Rattle.op_link.specs.Placing.{behind, behind_items}
use Rattle.op_link.specs.Reach.{block_in, head_in}

-- these instructions of the code stand at an address
pub record StandsAt (code : List Instr) (at : ℕ) (is : List Instr) : Type 0 where
  pub before : List Instr
  pub after : List Instr
  pub whole : code ≡ before ++ (is ++ after)
  pub place : code_address + 4 * length before ≡ at

-- the code of an item stands at its spot
pub record ItemStands (code : List Instr) (layout : Layout) (addresses : Addresses) (r : ℕ) (spot : Spot) (item : Item) : Type 0 where
  pub words : List Instr
  pub is : item_code layout addresses r spot item ≡ Some words
  pub stands : StandsAt code spot.address words

-- items stand one after the other
abbrev pub ItemsStand : List Instr → Layout → Addresses → ℕ → Spot → List Item → Type 0
ItemsStand code layout addresses r spot [] = ⊤
ItemsStand code layout addresses r spot (item ∷ items) =
    ItemStands code layout addresses r spot item × ItemsStand code layout addresses r (behind addresses.known r spot item) items

-- a block stands at its address
pub record BlockStands (code : List Instr) (layout : Layout) (addresses : Addresses) (r b : ℕ) (block : ObjectBlock) : Type 0 where
  pub spot : Spot
  pub address : block_in addresses.routines r b ≡ Some spot.address
  pub items : ItemsStand code layout addresses r spot block.items

-- a routine stands at its address, and its head runs into its block 0
pub record RoutineStands (code : List Instr) (layout : Layout) (addresses : Addresses) (r : ℕ) (routine : ObjectRoutine) : Type 0 where
  pub spot : Spot
  pub address : head_in addresses.routines r ≡ Some spot.address
  pub head : ItemsStand code layout addresses r spot routine.head
  pub into : 0 < length routine.blocks → block_in addresses.routines r 0 ≡ Some (behind_items addresses.known r spot routine.head).address
  pub blocks : (b : ℕ) (block : ObjectBlock) → slice_get routine.blocks b ≡ Some block → BlockStands code layout addresses r b block

abbrev pub AllStand : List Instr → Layout → Addresses → List ObjectRoutine → Type 0
AllStand code layout addresses routines =
    (r : ℕ) (routine : ObjectRoutine) → slice_get routines r ≡ Some routine → RoutineStands code layout addresses r routine
