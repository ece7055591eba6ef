-- Objects that stand in memory: which instructions may stand for an item, and what it means that a routine stands there.
-- It is said of any addresses, and knows nothing of how they were found.
use Rattle.std.specs.Prelude.{◌≡◌, ◌<◌, ℕ, ℤ, pos, ◌+◌, ◌*◌, ◌/◌, ◌%◌, ◌^◌, Option, Some, List, [], ◌∷◌, slice_get, length}
use Rattle.op_rv.specs.Operation.{word_from}
use Rattle.op_rv.specs.Step.{offset_from}
use Rattle.op_rv.specs.declared.instruction.BranchOp.{BranchOp}
use Rattle.op_rv.specs.declared.instruction.BranchOp.TheVariants.{Beq, Bne, Blt, Bge, Bltu, Bgeu}
use Rattle.op_rv.specs.declared.instruction.ImmOp.TheVariants.{Addi}
use Rattle.op_rv.specs.declared.instruction.Instr.{Instr}
use Rattle.op_rv.specs.declared.instruction.Instr.TheVariants.{Lui, Jal, Jalr, Branch, Imm}
use Rattle.op_rv.specs.declared.objects.Item.{Item}
use Rattle.op_rv.specs.declared.objects.Item.TheVariants.{Plain, Address, Branch as BranchItem, Call as CallItem, CallAt as CallAtItem, Jump as JumpItem}
use Rattle.op_rv.specs.declared.objects.ObjectBlock.{ObjectBlock}
use Rattle.op_rv.specs.declared.objects.ObjectRoutine.{ObjectRoutine}
use Rattle.op_rv.specs.declared.objects.Objects.{Objects}
use Rattle.op_rv.specs.declared.symbol.RoutineId.{RoutineId}
use Rattle.op_rv.specs.declared.symbol.Symbol.{Symbol}
use Rattle.op_rv.specs.declared.symbol.Symbol.TheVariants.{Routine}
use Rattle.op_select.specs.Sequences.{x0, ra}

-- where the parts of a program stand
pub record Placing : Type 0 where
  -- the instruction at an address, where one stands there
  pub code : ℕ → Option Instr
  -- the head of a routine, by its number
  pub head : ℕ → ℕ
  -- a block of a routine, by their numbers
  pub block : ℕ → ℕ → ℕ
  pub address : Symbol → ℕ

-- ---- instructions

-- these instructions stand at an address, one after the other
unfoldable pub StandsHere : Placing → ℕ → List Instr → Type 0
StandsHere g at [] = Unit {0}
StandsHere g at (i ∷ is) = (g.code at ≡ Some i) × StandsHere g (at + 4) is

-- the address behind them
unfoldable pub past : ℕ → List Instr → ℕ
past at [] = at
past at (i ∷ is) = past (at + 4) is

-- ---- what may stand for an item

abbrev pub opposite : BranchOp → BranchOp
opposite Beq = Bne
opposite Bne = Beq
opposite Blt = Bge
opposite Bge = Blt
opposite Bltu = Bgeu
opposite Bgeu = Bltu

-- a word in two parts, of which the lower one has a sign
unfoldable pub joined : (upper : ℕ) → (lower : ℤ) → ℕ
joined upper lower = (upper * 2 ^ 12 + word_from lower) % 2 ^ 32

-- to a target, with the address of the next instruction in a register: near, or by way of ra. A jump by a register drops the
-- lowest bit
pub data Transfer (target link at : ℕ) (is : List Instr) : Type 0 where
  Near : (offset : ℤ) → offset_from at offset ≡ target → is ≡ Jal link offset ∷ [] → Transfer target link at is
  Far : (upper : ℕ) → (lower : ℤ) → joined upper lower / 2 * 2 ≡ target → is ≡ Lui ra upper ∷ Jalr link ra lower ∷ [] → Transfer target link at is

-- to a target where a comparison holds: near, or over a transfer where it does not
pub data Choice (target : ℕ) (op : BranchOp) (left right at : ℕ) (is : List Instr) : Type 0 where
  Direct : (offset : ℤ) → offset_from at offset ≡ target → is ≡ Branch op left right offset ∷ [] → Choice target op left right at is
  Over : (js : List Instr) (offset : ℤ) → Transfer target x0 (at + 4) js → offset_from at offset ≡ past (at + 4) js → is ≡ Branch (opposite op) left right offset ∷ js → Choice target op left right at is

-- a word in a register
pub data Loading (w to : ℕ) (is : List Instr) : Type 0 where
  InTwo : (upper : ℕ) → (lower : ℤ) → joined upper lower ≡ w → is ≡ Lui to upper ∷ Imm Addi to to lower ∷ [] → Loading w to is

-- these instructions, at that address, stand for an item of a routine
unfoldable pub Expands : Placing → (routine : ℕ) → (at : ℕ) → Item → List Instr → Type 0
Expands g r at (Plain i) is = is ≡ i ∷ []
Expands g r at (Address to symbol) is = Loading (g.address symbol) to is
Expands g r at (BranchItem op left right block) is = Choice (g.block r block.0) op left right at is
Expands g r at (JumpItem block) is = Transfer (g.block r block.0) x0 at is
Expands g r at (CallItem id landing) is = Transfer (g.head id.0) ra at is
Expands g r at (CallAtItem landing) is = is ≡ Jalr ra ra (pos 0) ∷ []

-- ---- what it means that items stand

-- from one address up to another
pub data Stands (g : Placing) (r : ℕ) : (at : ℕ) → List Item → (end : ℕ) → Type 0 where
  Nothing : {at end : ℕ} → at ≡ end → Stands g r at [] end
  First : {at end : ℕ} {i : Item} {items : List Item} → (is : List Instr) → Expands g r at i is → StandsHere g at is → Stands g r (past at is) items end → Stands g r at (i ∷ items) end

-- from an address on, up to some other one
pub record StandsFrom (g : Placing) (r at : ℕ) (items : List Item) : Type 0 where
  pub end : ℕ
  pub stands : Stands g r at items end

-- a routine: its head runs into its block 0
pub record StandsRoutine (g : Placing) (r : ℕ) (routine : ObjectRoutine) : Type 0 where
  pub head : Stands g r (g.head r) routine.head (g.block r 0)
  pub blocks : (b : ℕ) (block : ObjectBlock) → slice_get routine.blocks b ≡ Some block → StandsFrom g r (g.block r b) block.items

-- a program
pub record StandsObjects (g : Placing) (objects : Objects) : Type 0 where
  pub routines : (r : ℕ) (routine : ObjectRoutine) → slice_get objects.routines r ≡ Some routine → StandsRoutine g r routine
  pub symbols : (id : RoutineId) → id.0 < length objects.routines → g.address (Routine id) ≡ g.head id.0
  -- code stands low, and at whole words
  pub low : (at : ℕ) (i : Instr) → g.code at ≡ Some i → at < 2 ^ 31
  pub aligned : (at : ℕ) (i : Instr) → g.code at ≡ Some i → at % 4 ≡ 0
