-- What is made of items: code, and blocks behind those that there are. The definition of code speaks of what the machine sees, which
-- depends on the tables of a program and on the number of the routine; what is made is the same for all of them.
use Rattle.std.specs.Prelude.{◌≡◌, ℕ, ◌+◌, List, [], ◌∷◌, ◌++◌, length, map, slice_set}
use Rattle.op_core.specs.declared.program.Core.{Core}
use Rattle.op_items.specs.View.{items_view, cases_view, turns_view}
use Rattle.op_items.specs.declared.item.Case.{Case}
use Rattle.op_items.specs.declared.item.Item.{Item}
use Rattle.op_items.specs.declared.item.Turns.{Turns}
use Rattle.op_lower.specs.Exits.{exits_of}
use Rattle.op_lower.specs.Seen.{seen, seen_blocks}
use Rattle.op_lower.specs.declared.exits.Exits.{Exits}
use Rattle.op_meaning.specs.Items.{Item as MeantItem}
use Rattle.op_mir.specs.Code.{Instr, jump, dispatch, Arm as MeantArm, Made, code, code_item, code_loop, code_cases, continued}
use Rattle.op_mir.specs.View.{view_arm}
use Rattle.op_mir.specs.declared.code.Block.{Block}
use Rattle.op_mir.specs.declared.ids.BlockId.{BlockId}
use Rattle.op_mir.specs.declared.ids.TemporaryId.{TemporaryId}
use Rattle.op_mir.specs.declared.instruction.Arm.{Arm}
use Rattle.op_mir.specs.declared.instruction.Instruction.{Instruction}

-- ---- what a call makes

-- these blocks are put behind those that there are
abbrev pub Adds : (Core → ℕ → List (List Instr)) → List Block → List Block → Type 0
Adds blocks old new = (core : Core) (r : ℕ) → seen_blocks core r new ≡ seen_blocks core r old ++ blocks core r

-- this code, and its blocks
abbrev pub Makes : (Core → ℕ → Made) → List Block → List Block → List Instruction → Type 0
Makes made old new now = (core : Core) (r : ℕ) → (seen core r now ≡ (made core r).now) × (seen_blocks core r new ≡ seen_blocks core r old ++ (made core r).blocks)

-- these arms, and their blocks
abbrev pub MakesArms : (Core → ℕ → List MeantArm × List (List Instr)) → List Block → List Block → List Arm → Type 0
MakesArms made old new arms = (core : Core) (r : ℕ) → (map view_arm arms ≡ (made core r).0) × (seen_blocks core r new ≡ seen_blocks core r old ++ (made core r).1)

-- this code stands in a block that was reserved, and one comes to it by a jump to the other block
abbrev pub IsBody : (Core → ℕ → Made) → BlockId → List Block → List Block → BlockId → Type 0
IsBody made block old new on = (core : Core) (r : ℕ) → (seen_blocks core r new ≡ slice_set (seen_blocks core r old ++ (made core r).blocks) block.0 (made core r).now) × (jump on.0 ∷ [] ≡ continued block.0 (made core r).now)

-- What is left to be made, at the blocks that there are by now, gives the whole. This is what a loop over items keeps.
abbrev pub Completes : (whole rest : Core → ℕ → Made) → List Block → List Block → Type 0
Completes whole rest old now = (core : Core) (r : ℕ) → ((rest core r).now ≡ (whole core r).now) × (seen_blocks core r now ++ (rest core r).blocks ≡ seen_blocks core r old ++ (whole core r).blocks)

-- the same of arms, of which the last ones are there
abbrev pub CompletesArms : (whole rest : Core → ℕ → List MeantArm × List (List Instr)) → List Block → List Block → List Arm → Type 0
CompletesArms whole rest old now arms = (core : Core) (r : ℕ) → ((rest core r).0 ++ map view_arm arms ≡ (whole core r).0) × (seen_blocks core r now ++ (rest core r).1 ≡ seen_blocks core r old ++ (whole core r).1)

-- ---- of what

-- items in front of code
abbrev pub items_made : Exits → List Item → List Block → List Instruction → Core → ℕ → Made
items_made exits items old behind core r = code (exits_of exits) (items_view core r items) (length old) (seen core r behind)

-- an item
abbrev pub item_made : Exits → (Core → ℕ → MeantItem) → List Block → List Instruction → Core → ℕ → Made
item_made exits item old behind core r = code_item (exits_of exits) (item core r) (length old) (seen core r behind)

-- a block with items, and theirs, from which the code goes on at another block
abbrev pub branch_made : Exits → List Item → List Block → BlockId → Core → ℕ → List (List Instr)
branch_made exits items old on core r =
    let a = code (exits_of exits) (items_view core r items) (length old + 1) (jump on.0 ∷ []) in
    a.now ∷ a.blocks

-- the branches of a selection
abbrev pub arms_made : Exits → List Case → List Block → BlockId → Core → ℕ → List MeantArm × List (List Instr)
arms_made exits cs old on core r = code_cases (exits_of exits) (cases_view core r cs) (length old) (jump on.0 ∷ [])

-- the blocks of a loop
abbrev pub loop_made : Exits → Turns → List Block → List Instruction → Core → ℕ → List (List Instr)
loop_made exits l old behind core r = code_loop (exits_of exits) (turns_view core r l) (length old) (seen core r behind)

-- the block of a finally part, the three that leave behind it, and those of its items
abbrev pub finally_made : Exits → TemporaryId → List Item → List Block → List Instruction → Core → ℕ → List (List Instr)
finally_made exits t items old behind core r =
    let b = code (exits_of exits) (items_view core r items) (length old + 4) (dispatch t.0 (length old) ∷ seen core r behind) in
    b.now ∷ exits_of exits 1 ∷ exits_of exits 2 ∷ exits_of exits 3 ∷ b.blocks
