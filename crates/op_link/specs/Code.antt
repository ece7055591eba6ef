-- The instructions that items become.
use Rattle.std.specs.Prelude.{ℕ, ℤ, pos, suc, ◌+◌, ◌/◌, ◌%◌, ◌^◌, ◌-ℤ◌, Bool, true, ◌&&◌, Option, Some, None, List, [], ◌∷◌, ◌++◌, slice_get, nat_eq, nat_lt, if◌then◌else◌}
use Rattle.std.specs.Option.{option_map}
use Rattle.std.specs.List.{flat_map, list_all}
use Rattle.byteorder.specs.Endian.{little_bytes}
use Rattle.op_layout.specs.declared.layout.Layout.{Layout}
use Rattle.op_rv.specs.Encoding.{fits, is_register, word_of}
use Rattle.op_rv.specs.declared.instruction.BranchOp.{BranchOp}
use Rattle.op_rv.specs.declared.instruction.BranchOp.TheVariants.{Beq, Bne, Blt, Bge, Bltu, Bgeu}
use Rattle.op_rv.specs.declared.instruction.ImmOp.TheVariants.{Addi}
use Rattle.op_rv.specs.declared.instruction.Instr.{Instr}
use Rattle.op_rv.specs.declared.instruction.Instr.TheVariants.{Lui, Jal, Jalr, Branch as BranchTo, Imm}
use Rattle.op_rv.specs.declared.objects.Item.{Item}
use Rattle.op_rv.specs.declared.objects.Item.TheVariants.{Plain, Address, Branch, Jump, Call, CallAt}
use Rattle.op_rv.specs.declared.objects.ObjectBlock.{ObjectBlock}
use Rattle.op_rv.specs.declared.objects.ObjectRoutine.{ObjectRoutine}
use Rattle.op_rv.specs.declared.symbol.Symbol.{Symbol}
use Rattle.op_rv.specs.declared.symbol.Symbol.TheVariants.{Literal, Table, Descriptor, Global, Routine}
use Rattle.op_link.specs.declared.addresses.Addresses.{Addresses}
use Rattle.op_link.specs.declared.place.Spot.{Spot}
use Rattle.op_link.specs.declared.reach.Reach.{Reach}
use Rattle.op_link.specs.declared.reach.Reach.TheVariants.{Direct, OverJump, ByRegister}
use Rattle.op_link.specs.Reach.{block_in, head_in, reach_of, reaches}
use Rattle.op_link.specs.Placing.{behind, behind_items, behind_routine}

-- ---- addresses and distances

-- a word in two parts: lui sets the upper 20 bits, and addi adds the lower 12 with their sign
unfoldable pub high_of : ℕ → ℕ
high_of n = (n + 2048) % 2 ^ 32 / 4096

unfoldable pub low_of : ℕ → ℤ
low_of n = if nat_lt (n % 4096) 2048 then pos (n % 4096) else pos (n % 4096) -ℤ pos 4096

-- the distance of two addresses, if an instruction that reaches so far can have it
unfoldable pub distance_within : ℕ → ℕ → ℕ → Option ℤ
distance_within reach from to =
    if reaches reach from to && nat_eq (from % 2) (to % 2) then Some (pos to -ℤ pos from) else None

-- an address that is a word
unfoldable pub address_at : ℕ → ℕ → Option ℕ
address_at base offset = if nat_lt (base + offset) (2 ^ 32) then Some (base + offset) else None

abbrev pub address_of_place : ℕ → Option ℕ → Option ℕ
address_of_place base None = None
address_of_place base (Some offset) = address_at base offset

unfoldable pub symbol_address : Layout → Addresses → Symbol → Option ℕ
symbol_address layout addresses (Literal id) =
    address_of_place addresses.constants (option_map (λ place. place.offset) (slice_get layout.literals id.0))
symbol_address layout addresses (Table id) = address_of_place addresses.constants (slice_get layout.tables id.0)
symbol_address layout addresses (Descriptor id) =
    address_of_place addresses.constants (slice_get layout.descriptors id.0)
symbol_address layout addresses (Global id) = slice_get addresses.globals id.0
symbol_address layout addresses (Routine id) = head_in addresses.routines id.0

-- ---- code, `None` where something is out of reach or not there

abbrev pub then_code : Option (List Instr) → Option (List Instr) → Option (List Instr)
then_code None more = None
then_code (Some code) None = None
then_code (Some code) (Some more) = Some (code ++ more)

-- puts an address in a register
abbrev pub set_address : ℕ → ℕ → List Instr
set_address rd to = Lui rd (high_of to) ∷ Imm Addi rd rd (low_of to) ∷ []

-- goes to an address by x1, with the address behind in the register `link`
abbrev pub go_by_register : ℕ → ℕ → List Instr
go_by_register link to = Lui 1 (high_of to) ∷ Jalr link 1 (low_of to) ∷ []

unfoldable pub jump_code : Reach → ℕ → ℕ → ℕ → Option (List Instr)
jump_code ByRegister link from to = Some (go_by_register link to)
jump_code _ link from to = option_map (λ distance. Jal link distance ∷ []) (distance_within 1048576 from to)

unfoldable pub opposite_of : BranchOp → BranchOp
opposite_of Beq = Bne
opposite_of Bne = Beq
opposite_of Blt = Bge
opposite_of Bge = Blt
opposite_of Bltu = Bgeu
opposite_of Bgeu = Bltu

-- the opposite branch passes over the jump behind it
unfoldable pub branch_code : Reach → BranchOp → ℕ → ℕ → ℕ → ℕ → Option (List Instr)
branch_code Direct op left right from to =
    option_map (λ distance. BranchTo op left right distance ∷ []) (distance_within 4096 from to)
branch_code OverJump op left right from to =
    then_code (Some (BranchTo (opposite_of op) left right (pos 8) ∷ [])) (jump_code Direct 0 (from + 4) to)
branch_code ByRegister op left right from to =
    then_code (Some (BranchTo (opposite_of op) left right (pos 12) ∷ [])) (jump_code ByRegister 0 (from + 4) to)

-- code that is known once an address is
abbrev pub code_at : (ℕ → Option (List Instr)) → Option ℕ → Option (List Instr)
code_at code None = None
code_at code (Some to) = code to

-- an item of the routine r at a spot
unfoldable pub item_code : Layout → Addresses → ℕ → Spot → Item → Option (List Instr)
item_code layout addresses r spot (Plain i) = Some (i ∷ [])
item_code layout addresses r spot (Address rd symbol) =
    code_at (λ to. Some (set_address rd to)) (symbol_address layout addresses symbol)
item_code layout addresses r spot (Branch op left right block) =
    code_at
    (branch_code (reach_of addresses.known r spot.longest (Branch op left right block)) op left right spot.address)
    (block_in addresses.routines r block.0)
item_code layout addresses r spot (Jump block) =
    code_at
    (jump_code (reach_of addresses.known r spot.longest (Jump block)) 0 spot.address)
    (block_in addresses.routines r block.0)
item_code layout addresses r spot (Call routine landing) =
    code_at
    (jump_code (reach_of addresses.known r spot.longest (Call routine landing)) 1 spot.address)
    (head_in addresses.routines routine.0)
item_code layout addresses r spot (CallAt landing) = Some (Jalr 1 1 (pos 0) ∷ [])

abbrev pub items_code : Layout → Addresses → ℕ → Spot → List Item → Option (List Instr)
items_code layout addresses r spot [] = Some []
items_code layout addresses r spot (item ∷ items) =
    then_code
    (item_code layout addresses r spot item)
    (items_code layout addresses r (behind addresses.known r spot item) items)

abbrev pub blocks_code : Layout → Addresses → ℕ → Spot → List ObjectBlock → Option (List Instr)
blocks_code layout addresses r spot [] = Some []
blocks_code layout addresses r spot (block ∷ blocks) =
    then_code
    (items_code layout addresses r spot block.items)
    (blocks_code layout addresses r (behind_items addresses.known r spot block.items) blocks)

abbrev pub routine_code : Layout → Addresses → ℕ → Spot → ObjectRoutine → Option (List Instr)
routine_code layout addresses r spot routine =
    then_code
    (items_code layout addresses r spot routine.head)
    (blocks_code layout addresses r (behind_items addresses.known r spot routine.head) routine.blocks)

-- routines from the number r on
abbrev pub routines_code : Layout → Addresses → ℕ → Spot → List ObjectRoutine → Option (List Instr)
routines_code layout addresses r spot [] = Some []
routines_code layout addresses r spot (routine ∷ routines) =
    then_code
    (routine_code layout addresses r spot routine)
    (routines_code layout addresses (suc r) (behind_routine addresses.known r spot routine) routines)

-- ---- words

abbrev pub words_of : List Instr → List ℕ
words_of code = flat_map (λ i. little_bytes 4 (word_of i)) code

-- what has been written once the code is written behind it
abbrev pub written : List ℕ → Option (List Instr) → Option (List ℕ)
written old code = option_map (λ code. old ++ words_of code) code

-- ---- which items have words

unfoldable pub has_fields : Item → Bool
has_fields (Plain i) = fits i
has_fields (Address rd symbol) = is_register rd
has_fields (Branch op left right block) = is_register left && is_register right
has_fields (Jump block) = true
has_fields (Call routine landing) = true
has_fields (CallAt landing) = true

abbrev pub have_fields : List Item → Bool
have_fields items = list_all has_fields items

unfoldable pub blocks_have_fields : List ObjectBlock → Bool
blocks_have_fields blocks = list_all (λ block. have_fields block.items) blocks

unfoldable pub routine_has_fields : ObjectRoutine → Bool
routine_has_fields routine = have_fields routine.head && blocks_have_fields routine.blocks
