-- If every item has its longest form, nothing is out of reach.
use Rattle.std.proofs.Common.{◌≡◌, ℕ, zero, suc, ◌+◌, ◌<◌, ◌≤◌, ◌^◌, true, Option, Some, None, IsTrue, List, [], ◌∷◌, length, is_some, slice_get, nat_lt, refl, ap, ◌∙◌, subst, arith, add-zero, false}
use Rattle.std.proofs.lemmas.Bool.{and_parts, ltb-true, false≢true}
use Rattle.std.proofs.lemmas.Bool.Decides.{nat_tests}
use Rattle.std.specs.List.{list_all}
use Rattle.std.specs.Option.{option_map}
use Rattle.op_layout.specs.declared.layout.Layout.{Layout}
use Rattle.op_rv.specs.declared.instruction.BranchOp.{BranchOp}
use Rattle.op_rv.specs.declared.instruction.Instr.{Instr}
use Rattle.op_rv.specs.declared.objects.GlobalVariable.{GlobalVariable}
use Rattle.op_rv.specs.declared.objects.Item.{Item}
use Rattle.op_rv.specs.declared.objects.Item.TheVariants.{Plain, Address, Branch, Jump, Call, CallAt}
use Rattle.op_rv.specs.declared.objects.ObjectBlock.{ObjectBlock}
use Rattle.op_rv.specs.declared.objects.ObjectRoutine.{ObjectRoutine}
use Rattle.op_rv.specs.declared.objects.Objects.{Objects}
use Rattle.op_rv.specs.declared.symbol.BlockId.{BlockId}
use Rattle.op_rv.specs.declared.symbol.RoutineId.{RoutineId}
use Rattle.op_rv.specs.declared.symbol.Symbol.{Symbol}
use Rattle.op_rv.specs.declared.symbol.Symbol.TheVariants.{Literal, Table, Descriptor, Global, Routine}
use Rattle.op_link.proofs.Lengths.{some_same}
use Rattle.op_link.specs.declared.addresses.Addresses.{Addresses}
use Rattle.op_link.specs.declared.memory_map.Settings.{Settings}
use Rattle.op_link.specs.declared.memory_map.Sizes.{Sizes}
use Rattle.op_link.specs.declared.place.RoutinePlace.{RoutinePlace}
use Rattle.op_link.specs.declared.place.Spot.{Spot}
use Rattle.op_link.specs.declared.reach.Reach.TheVariants.{ByRegister}
use Rattle.op_link.specs.Reach.{reach_of, branch_reach, jump_reach, block_in, head_in}
use Rattle.op_link.specs.Placing.{behind, behind_items, behind_routine, block_addresses, routine_place, routine_places, first_spot, placement_by}
use Rattle.op_link.specs.Code.{address_at, address_of_place, symbol_address, then_code, code_at, jump_code, branch_code, item_code, items_code, blocks_code, routine_code, routines_code}
use Rattle.op_link.specs.Memory.{constants_address, constants_size, globals_address, addresses_from, behind_global, global_addresses, initial_size, most_linked}
use Rattle.op_link.specs.Linking.{addresses_of, program_code, lies_within, has_symbol, names_exist, all_names_exist, image_by, is_linkable, linked_size_by, sizes_of, start_code}

-- ---- options

some_then : (a b : Option (List Instr)) → is_some a ≡ true → is_some b ≡ true → is_some (then_code a b) ≡ true
some_then None b first rest = first
some_then (Some a) None first rest = rest
some_then (Some a) (Some b) first rest = refl

some_at : (code : ℕ → Option (List Instr)) (to : Option ℕ) → ((n : ℕ) → is_some (code n) ≡ true) → is_some to ≡ true → is_some (code_at code to) ≡ true
some_at code None always there = there
some_at code (Some n) always there = always n

some_map : {X Y : Type 0} (f : X → Y) (o : Option X) → is_some (option_map f o) ≡ is_some o
some_map f None = refl
some_map f (Some x) = refl

some_within : {X : Type 0} (xs : List X) (i : ℕ) → i < length xs → is_some (slice_get xs i) ≡ true
some_within [] i inside = absurd (let none : ⊥ = omega (arith, inside) in none)
some_within (x ∷ xs) zero inside = refl
some_within (x ∷ xs) (suc i) inside = some_within xs i (omega (arith, inside))

-- ---- addresses

place_there : (layout : Layout) (base : ℕ) (place : Option ℕ) → base + constants_size layout < 2 ^ 32 → lies_within layout place ≡ true → is_some (address_of_place base place) ≡ true
unfolding address_at
place_there layout base None room within = within
place_there layout base (Some offset) room within = grind (arith, nat_tests)

-- all that is named has an address
record There (objects : Objects) (layout : Layout) (addresses : Addresses) : Type 0 where
  heads : (k : ℕ) → k < length objects.routines → is_some (head_in addresses.routines k) ≡ true
  symbols : (symbol : Symbol) → has_symbol objects layout symbol ≡ true → is_some (symbol_address layout addresses symbol) ≡ true
  known : addresses.known ≡ []

HasBlocks : Addresses → ℕ → ℕ → Type 0
HasBlocks addresses r n = (block : ℕ) → block < n → is_some (block_in addresses.routines r block) ≡ true

-- ---- code

far_branch : (op : BranchOp) (left right from to : ℕ) → is_some (branch_code ByRegister op left right from to) ≡ true
unfolding branch_code jump_code
far_branch op left right from to = refl

far_jump : (link from to : ℕ) → is_some (jump_code ByRegister link from to) ≡ true
unfolding jump_code
far_jump link from to = refl

far_reach_branch : (r from : ℕ) (op : BranchOp) (left right : ℕ) (block : BlockId) → reach_of [] r from (Branch op left right block) ≡ ByRegister
unfolding reach_of branch_reach block_in
far_reach_branch r from op left right block = refl

far_reach_jump : (r from : ℕ) (block : BlockId) → reach_of [] r from (Jump block) ≡ ByRegister
unfolding reach_of jump_reach block_in
far_reach_jump r from block = refl

far_reach_call : (r from : ℕ) (routine : RoutineId) (landing : Option BlockId) → reach_of [] r from (Call routine landing) ≡ ByRegister
unfolding reach_of jump_reach head_in
far_reach_call r from routine landing = refl

item_there : (objects : Objects) (layout : Layout) (addresses : Addresses) (r n : ℕ) (spot : Spot) (item : Item) → There objects layout addresses → HasBlocks addresses r n → names_exist objects layout n item ≡ true → is_some (item_code layout addresses r spot item) ≡ true
unfolding item_code names_exist HasBlocks
item_there objects layout addresses r n spot (Plain i) there blocks named = refl
item_there objects layout addresses r n spot (Address rd symbol) there blocks named =
    some_at _ (symbol_address layout addresses symbol) (λ to. refl) (there.symbols symbol named)
item_there objects layout addresses r n spot (Branch op left right block) there blocks named =
    let far : reach_of addresses.known r spot.longest (Branch op left right block) ≡ ByRegister = ap (λ known. reach_of known r spot.longest (Branch op left right block)) there.known ∙ far_reach_branch r spot.longest op left right block in
    some_at _ (block_in addresses.routines r block.0) (λ to. ap (λ reach. is_some (branch_code reach op left right spot.address to)) far ∙ far_branch op left right spot.address to) (blocks block.0 (ltb-true block.0 n named))
item_there objects layout addresses r n spot (Jump block) there blocks named =
    let far : reach_of addresses.known r spot.longest (Jump block) ≡ ByRegister = ap (λ known. reach_of known r spot.longest (Jump block)) there.known ∙ far_reach_jump r spot.longest block in
    some_at _ (block_in addresses.routines r block.0) (λ to. ap (λ reach. is_some (jump_code reach 0 spot.address to)) far ∙ far_jump 0 spot.address to) (blocks block.0 (ltb-true block.0 n named))
item_there objects layout addresses r n spot (Call routine landing) there blocks named =
    let far : reach_of addresses.known r spot.longest (Call routine landing) ≡ ByRegister = ap (λ known. reach_of known r spot.longest (Call routine landing)) there.known ∙ far_reach_call r spot.longest routine landing in
    some_at _ (head_in addresses.routines routine.0) (λ to. ap (λ reach. is_some (jump_code reach 1 spot.address to)) far ∙ far_jump 1 spot.address to) (there.heads routine.0 (ltb-true routine.0 (length objects.routines) named))
item_there objects layout addresses r n spot (CallAt landing) there blocks named = refl

items_there : (objects : Objects) (layout : Layout) (addresses : Addresses) (r n : ℕ) (spot : Spot) (items : List Item) → There objects layout addresses → HasBlocks addresses r n → list_all (names_exist objects layout n) items ≡ true → is_some (items_code layout addresses r spot items) ≡ true
items_there objects layout addresses r n spot [] there blocks named = refl
items_there objects layout addresses r n spot (item ∷ items) there blocks named =
    let parts = and_parts _ _ named in
    some_then _ _ (item_there objects layout addresses r n spot item there blocks parts.0) (items_there objects layout addresses r n (behind addresses.known r spot item) items there blocks parts.1)

blocks_there : (objects : Objects) (layout : Layout) (addresses : Addresses) (r n : ℕ) (spot : Spot) (blocks : List ObjectBlock) → There objects layout addresses → HasBlocks addresses r n → list_all (λ block. list_all (names_exist objects layout n) block.items) blocks ≡ true → is_some (blocks_code layout addresses r spot blocks) ≡ true
blocks_there objects layout addresses r n spot [] there has named = refl
blocks_there objects layout addresses r n spot (block ∷ blocks) there has named =
    let parts = and_parts _ _ named in
    some_then _ _ (items_there objects layout addresses r n spot block.items there has parts.0) (blocks_there objects layout addresses r n (behind_items addresses.known r spot block.items) blocks there has parts.1)

routine_there : (objects : Objects) (layout : Layout) (addresses : Addresses) (r : ℕ) (spot : Spot) (routine : ObjectRoutine) → There objects layout addresses → HasBlocks addresses r (length routine.blocks) → all_names_exist objects layout routine ≡ true → is_some (routine_code layout addresses r spot routine) ≡ true
routine_there objects layout addresses r spot routine there has named =
    let parts = and_parts _ _ named in
    some_then _ _ (items_there objects layout addresses r (length routine.blocks) spot routine.head there has parts.0) (blocks_there objects layout addresses r (length routine.blocks) (behind_items addresses.known r spot routine.head) routine.blocks there has parts.1)

-- the routines from the number r on have their blocks
AllHaveBlocks : Addresses → ℕ → List ObjectRoutine → Type 0
AllHaveBlocks addresses r routines =
    (k : ℕ) (routine : ObjectRoutine) → slice_get routines k ≡ Some routine → HasBlocks addresses (r + k) (length routine.blocks)

others_have : (addresses : Addresses) (r : ℕ) (routine : ObjectRoutine) (routines : List ObjectRoutine) → AllHaveBlocks addresses r (routine ∷ routines) → AllHaveBlocks addresses (suc r) routines
unfolding AllHaveBlocks
others_have addresses r routine routines have =
    λ k other is. let moved : r + suc k ≡ suc r + k = omega arith in subst (λ at. HasBlocks addresses at (length other.blocks)) moved (have (suc k) other is)

first_has : (addresses : Addresses) (r : ℕ) (routine : ObjectRoutine) (routines : List ObjectRoutine) → AllHaveBlocks addresses r (routine ∷ routines) → HasBlocks addresses r (length routine.blocks)
unfolding AllHaveBlocks
first_has addresses r routine routines have =
    subst (λ at. HasBlocks addresses at (length routine.blocks)) (add-zero r) (have zero routine refl)

routines_there : (objects : Objects) (layout : Layout) (addresses : Addresses) (r : ℕ) (spot : Spot) (routines : List ObjectRoutine) → There objects layout addresses → AllHaveBlocks addresses r routines → list_all (all_names_exist objects layout) routines ≡ true → is_some (routines_code layout addresses r spot routines) ≡ true
routines_there objects layout addresses r spot [] there have named = refl
routines_there objects layout addresses r spot (routine ∷ routines) there have named =
    let parts = and_parts (all_names_exist objects layout routine) (list_all (all_names_exist objects layout) routines) named in
    some_then _ _ (routine_there objects layout addresses r spot routine there (first_has addresses r routine routines have) parts.0) (routines_there objects layout addresses (suc r) (behind_routine addresses.known r spot routine) routines there (others_have addresses r routine routines have) parts.1)

-- ---- the places of all

length-block_addresses : (known : List RoutinePlace) (r : ℕ) (spot : Spot) (blocks : List ObjectBlock) → length (block_addresses known r spot blocks) ≡ length blocks
length-block_addresses known r spot [] = refl
length-block_addresses known r spot (block ∷ blocks) =
    ap suc (length-block_addresses known r (behind_items known r spot block.items) blocks)

length-routine_places : (known : List RoutinePlace) (r : ℕ) (spot : Spot) (routines : List ObjectRoutine) → length (routine_places known r spot routines) ≡ length routines
length-routine_places known r spot [] = refl
length-routine_places known r spot (routine ∷ routines) =
    ap suc (length-routine_places known (suc r) (behind_routine known r spot routine) routines)

length-addresses : (start own other : ℕ) (globals : List GlobalVariable) → length (addresses_from start own other globals) ≡ length globals
length-addresses start own other [] = refl
length-addresses start own other (global ∷ globals) =
    ap suc (length-addresses start (behind_global false own global) (behind_global true other global) globals)

has_blocks_at : (known : List RoutinePlace) (r : ℕ) (spot : Spot) (routines : List ObjectRoutine) (k : ℕ) (routine : ObjectRoutine) → slice_get routines k ≡ Some routine → (block : ℕ) → block < length routine.blocks → is_some (block_in (routine_places known r spot routines) k block) ≡ true
unfolding block_in routine_place
has_blocks_at known r spot [] k routine is block inside = cc
has_blocks_at known r spot (first ∷ routines) zero routine is block inside =
    let same : first ≡ routine = some_same first routine is in
    some_within (block_addresses known r (behind_items known r spot first.head) first.blocks) block (omega (arith, inside, length-block_addresses known r (behind_items known r spot first.head) first.blocks, ap (λ (routine : ObjectRoutine). length routine.blocks) same))
has_blocks_at known r spot (first ∷ routines) (suc k) routine is block inside =
    has_blocks_at known (suc r) (behind_routine known r spot first) routines k routine is block inside

all_have_blocks : (routines : List ObjectRoutine) (sizes : Sizes) (objects : Objects) → AllHaveBlocks (addresses_of [] (routine_places [] 0 first_spot routines) sizes objects) 0 routines
unfolding AllHaveBlocks HasBlocks addresses_of
all_have_blocks routines sizes objects =
    λ k routine is block inside. let start : k ≡ 0 + k = omega arith in subst (λ at. is_some (block_in (routine_places [] 0 first_spot routines) at block) ≡ true) start (has_blocks_at [] 0 first_spot routines k routine is block inside)

heads_there : (objects : Objects) (sizes : Sizes) (k : ℕ) → k < length objects.routines → is_some (head_in (addresses_of [] (routine_places [] 0 first_spot objects.routines) sizes objects).routines k) ≡ true
unfolding head_in addresses_of
heads_there objects sizes k inside =
    let places = routine_places [] 0 first_spot objects.routines in
    let same = length-routine_places [] 0 first_spot objects.routines in
    some_map (λ place. place.head) (slice_get places k) ∙ some_within places k (omega (arith, inside, same))

symbols_there : (objects : Objects) (layout : Layout) (sizes : Sizes) → constants_address sizes + constants_size layout < 2 ^ 32 → (symbol : Symbol) → has_symbol objects layout symbol ≡ true → is_some (symbol_address layout (addresses_of [] (routine_places [] 0 first_spot objects.routines) sizes objects) symbol) ≡ true
unfolding symbol_address has_symbol addresses_of
symbols_there objects layout sizes room (Literal id) named =
    place_there layout (constants_address sizes) (option_map (λ place. place.offset) (slice_get layout.literals id.0)) room named
symbols_there objects layout sizes room (Table id) named =
    place_there layout (constants_address sizes) (slice_get layout.tables id.0) room named
symbols_there objects layout sizes room (Descriptor id) named =
    place_there layout (constants_address sizes) (slice_get layout.descriptors id.0) room named
symbols_there objects layout sizes room (Global id) named =
    let inside = ltb-true id.0 (length objects.globals) named in
    let same = length-addresses (globals_address sizes) 0 (initial_size objects.globals) objects.globals in
    some_within (global_addresses (globals_address sizes) objects.globals) id.0 (omega (arith, inside, same))
symbols_there objects layout sizes room (Routine id) named =
    heads_there objects sizes id.0 (ltb-true id.0 (length objects.routines) named)

known_nothing : (routines : List RoutinePlace) (sizes : Sizes) (objects : Objects) → (addresses_of [] routines sizes objects).known ≡ []
unfolding addresses_of
known_nothing routines sizes objects = refl

all_there : (objects : Objects) (layout : Layout) (sizes : Sizes) → constants_address sizes + constants_size layout < 2 ^ 32 → There objects layout (addresses_of [] (routine_places [] 0 first_spot objects.routines) sizes objects)
all_there objects layout sizes room =
    record {
      heads = heads_there objects sizes;
      symbols = symbols_there objects layout sizes room;
      known = known_nothing (routine_places [] 0 first_spot objects.routines) sizes objects;
    }

program_there : (objects : Objects) (layout : Layout) (settings : Settings) (sizes : Sizes) → constants_address sizes + constants_size layout < 2 ^ 32 → nat_lt objects.entry.0 (length objects.routines) ≡ true → list_all (all_names_exist objects layout) objects.routines ≡ true → is_some (program_code layout (addresses_of [] (routine_places [] 0 first_spot objects.routines) sizes objects) settings objects) ≡ true
unfolding program_code
program_there objects layout settings sizes room entry named =
    let places = routine_places [] 0 first_spot objects.routines in
    let addresses = addresses_of [] places sizes objects in
    let there = all_there objects layout sizes room in
    some_at _ (head_in addresses.routines objects.entry.0) (λ to. some_then (Some (start_code settings to)) (routines_code layout addresses 0 first_spot objects.routines) refl (routines_there objects layout addresses 0 first_spot objects.routines there (all_have_blocks objects.routines sizes objects) named)) (heads_there objects sizes objects.entry.0 (ltb-true objects.entry.0 (length objects.routines) entry))

-- the constants end below 2 ^ 32
room_there : (objects : Objects) (layout : Layout) → linked_size_by [] layout objects ≤ most_linked → constants_address (sizes_of (placement_by [] objects.routines).end layout objects) + constants_size layout < 2 ^ 32
unfolding linked_size_by sizes_of constants_address
room_there objects layout within = omega (arith, within)

image_there : (objects : Objects) (layout : Layout) (settings : Settings) → linked_size_by [] layout objects ≤ most_linked → nat_lt objects.entry.0 (length objects.routines) ≡ true → list_all (all_names_exist objects layout) objects.routines ≡ true → is_some (image_by [] layout objects settings) ≡ true
unfolding image_by placement_by
image_there objects layout settings within entry named =
    some_map _ (program_code layout (addresses_of [] (routine_places [] 0 first_spot objects.routines) (sizes_of (placement_by [] objects.routines).end layout objects) objects) settings objects)
    ∙ program_there objects layout settings (sizes_of (placement_by [] objects.routines).end layout objects) (room_there objects layout within) entry named

pub longest_reaches : (objects : Objects) (layout : Layout) (settings : Settings) → IsTrue (is_linkable objects layout) → linked_size_by [] layout objects ≤ most_linked → None ≡ image_by [] layout objects settings → ⊥
unfolding is_linkable
longest_reaches objects layout settings linkable within none =
    let four = and_parts _ _ linkable in
    let three = and_parts _ _ four.0 in
    let two = and_parts _ _ three.0 in
    let one = and_parts _ _ two.0 in
    false≢true (ap is_some none ∙ image_there objects layout settings within one.0 three.1)
