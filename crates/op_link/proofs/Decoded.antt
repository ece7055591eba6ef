-- Each word of the code decodes.
use Rattle.std.proofs.Common.{◌≡◌, ℕ, ℤ, pos, suc, ◌+◌, ◌-◌, ◌*◌, ◌/◌, ◌%◌, ◌^◌, ◌<◌, inl, inr, true, ◌&&◌, nat_lt, Option, Some, None, IfSome, IsTrue, List, [], ◌∷◌, ◌++◌, drop, refl, ◌∙◌, subst, arith}
use Rattle.std.proofs.lemmas.Bool.{and_parts, and_from, lt-ltb, cases_Bool, ltb-false}
use Rattle.std.proofs.lemmas.List.Folds.{list_all-append}
use Rattle.std.specs.List.{list_all}
use Rattle.std.specs.Option.{option_map}
use Rattle.op_layout.specs.declared.layout.Layout.{Layout}
use Rattle.op_rv.proofs.Table.{instr_at-word_of}
use Rattle.op_rv.specs.Encoding.{fits, is_even, is_imm, is_register, is_signed}
use Rattle.op_rv.specs.declared.instruction.BranchOp.{BranchOp}
use Rattle.op_rv.specs.declared.instruction.Instr.{Instr}
use Rattle.op_rv.specs.declared.instruction.Instr.TheVariants.{Jal, Jalr, Branch as BranchTo}
use Rattle.op_rv.specs.declared.objects.Item.{Item}
use Rattle.op_rv.specs.declared.objects.Item.TheVariants.{Plain, Address, Branch, Jump, Call, CallAt}
use Rattle.op_rv.specs.declared.objects.ObjectBlock.{ObjectBlock}
use Rattle.op_rv.specs.declared.objects.ObjectRoutine.{ObjectRoutine}
use Rattle.op_rv.specs.declared.objects.Objects.{Objects}
use Rattle.op_link.specs.declared.addresses.Addresses.{Addresses}
use Rattle.op_link.specs.declared.memory_map.Settings.{Settings}
use Rattle.op_link.specs.declared.place.Spot.{Spot}
use Rattle.op_link.specs.declared.reach.Reach.{Reach}
use Rattle.op_link.specs.declared.reach.Reach.TheVariants.{Direct, OverJump, ByRegister}
use Rattle.op_link.specs.Reach.{reach_of, block_in, head_in}
use Rattle.op_link.specs.Placing.{behind, behind_items, behind_routine, first_spot}
use Rattle.op_link.specs.Code.{high_of, low_of, then_code, code_at, set_address, go_by_register, jump_code, opposite_of, branch_code, distance_within, symbol_address, item_code, items_code, blocks_code, routine_code, routines_code, has_fields, have_fields, blocks_have_fields, routine_has_fields}
use Rattle.op_link.specs.Linking.{first_hole_code, heap_code, heap_size_code, program_code, stack_code, stack_size_code, start_code}
use Rattle.op_link.specs.Loaded.{Decodes}
use Rattle.op_link.specs.Memory.{heap_size, stack_address, stack_top}
use Rattle.op_link.proofs.Distances.{backward, branch_fits, jump_fits}
use Rattle.op_link.proofs.Lengths.{some_same}

-- ---- parts of addresses

high_fits : (n : ℕ) → nat_lt (high_of n) (2 ^ 20) ≡ true
unfolding high_of
high_fits n = lt-ltb ((n + 2048) % 2 ^ 32 / 4096) (2 ^ 20) (omega arith)

low_fits : (n : ℕ) → is_imm (low_of n) ≡ true
unfolding low_of
low_fits n =
    elim (cases_Bool (nat_lt (n % 4096) 2048)) [ inl small ↦ simp small refl | inr large ↦ simp large (let below : n % 4096 < 4096 = omega arith in let from = ltb-false (n % 4096) 2048 large in rw (backward 4096 (n % 4096) below) (lt-ltb (4096 - suc (n % 4096)) (2 ^ 11) (omega (arith, below, from)))) ]

-- ---- code whose instructions have words

Fits : Option (List Instr) → Type 0
Fits found = (code : List Instr) → found ≡ Some code → list_all fits code ≡ true

fits_some : (code : List Instr) → list_all fits code ≡ true → Fits (Some code)
unfolding Fits
fits_some code all = λ other same. subst (λ (code : List Instr). list_all fits code ≡ true) (some_same code other same) all

fits_none : Fits None
unfolding Fits
fits_none = λ code same. absurd (cc)

apart : (a b : Option (List Instr)) → Fits a → Fits b → Fits (then_code a b)
unfolding Fits
apart None b first rest = λ code same. absurd (cc)
apart (Some a) None first rest = λ code same. absurd (cc)
apart (Some a) (Some b) first rest =
    fits_some (a ++ b) (list_all-append fits a b ∙ and_from (list_all fits a) (list_all fits b) (first a refl) (rest b refl))

fits_at : (code : ℕ → Option (List Instr)) (found : Option ℕ) → ((n : ℕ) → Fits (code n)) → Fits (code_at code found)
fits_at code None always = fits_none
fits_at code (Some n) always = always n

-- ---- items

address_fits : (rd to : ℕ) → is_register rd ≡ true → list_all fits (set_address rd to) ≡ true
address_fits rd to register = simp (register, high_fits to, low_fits to) refl

far_fits : (link to : ℕ) → is_register link ≡ true → list_all fits (go_by_register link to) ≡ true
far_fits link to register = simp (register, high_fits to, low_fits to) refl

near_fits : (link : ℕ) (found : Option ℤ) → is_register link ≡ true → IfSome found (λ distance. IsTrue (is_signed 20 distance && is_even distance)) → Fits (option_map (λ distance. Jal link distance ∷ []) found)
near_fits link None register distance = fits_none
near_fits link (Some d) register distance =
    let parts = and_parts (is_signed 20 d) (is_even d) distance in
    fits_some (Jal link d ∷ []) (simp (register, parts.0, parts.1) refl)

jump_fits_all : (reach : Reach) (link from to : ℕ) → is_register link ≡ true → Fits (jump_code reach link from to)
unfolding jump_code
jump_fits_all Direct link from to register = near_fits link (distance_within 1048576 from to) register (jump_fits from to _ refl)
jump_fits_all OverJump link from to register = near_fits link (distance_within 1048576 from to) register (jump_fits from to _ refl)
jump_fits_all ByRegister link from to register = fits_some (go_by_register link to) (far_fits link to register)

near_branch_fits : (op : BranchOp) (left right : ℕ) (found : Option ℤ) → is_register left ≡ true → is_register right ≡ true → IfSome found (λ distance. IsTrue (is_signed 12 distance && is_even distance)) → Fits (option_map (λ distance. BranchTo op left right distance ∷ []) found)
near_branch_fits op left right None l r distance = fits_none
near_branch_fits op left right (Some d) l r distance =
    let parts = and_parts (is_signed 12 d) (is_even d) distance in
    fits_some (BranchTo op left right d ∷ []) (simp (l, r, parts.0, parts.1) refl)

branch_fits_all : (reach : Reach) (op : BranchOp) (left right from to : ℕ) → is_register left ≡ true → is_register right ≡ true → Fits (branch_code reach op left right from to)
unfolding branch_code
branch_fits_all Direct op left right from to l r = near_branch_fits op left right (distance_within 4096 from to) l r (branch_fits from to _ refl)
branch_fits_all OverJump op left right from to l r =
    apart (Some (BranchTo (opposite_of op) left right (pos 8) ∷ [])) (jump_code Direct 0 (from + 4) to) (fits_some (BranchTo (opposite_of op) left right (pos 8) ∷ []) (simp (l, r) refl)) (jump_fits_all Direct 0 (from + 4) to refl)
branch_fits_all ByRegister op left right from to l r =
    apart (Some (BranchTo (opposite_of op) left right (pos 12) ∷ [])) (jump_code ByRegister 0 (from + 4) to) (fits_some (BranchTo (opposite_of op) left right (pos 12) ∷ []) (simp (l, r) refl)) (jump_fits_all ByRegister 0 (from + 4) to refl)

item_fits : (layout : Layout) (addresses : Addresses) (r : ℕ) (spot : Spot) (item : Item) → has_fields item ≡ true → Fits (item_code layout addresses r spot item)
unfolding item_code has_fields
item_fits layout addresses r spot (Plain i) has = fits_some (i ∷ []) (simp has refl)
item_fits layout addresses r spot (Address rd symbol) has =
    fits_at _ (symbol_address layout addresses symbol) (λ to. fits_some (set_address rd to) (address_fits rd to has))
item_fits layout addresses r spot (Branch op left right block) has =
    let parts = and_parts (is_register left) (is_register right) has in
    let reach = reach_of addresses.known r spot.longest (Branch op left right block) in
    fits_at _ (block_in addresses.routines r block.0) (λ to. branch_fits_all reach op left right spot.address to parts.0 parts.1)
item_fits layout addresses r spot (Jump block) has =
    let reach = reach_of addresses.known r spot.longest (Jump block) in
    fits_at _ (block_in addresses.routines r block.0) (λ to. jump_fits_all reach 0 spot.address to refl)
item_fits layout addresses r spot (Call routine landing) has =
    let reach = reach_of addresses.known r spot.longest (Call routine landing) in
    fits_at _ (head_in addresses.routines routine.0) (λ to. jump_fits_all reach 1 spot.address to refl)
item_fits layout addresses r spot (CallAt landing) has = fits_some (Jalr 1 1 (pos 0) ∷ []) refl

items_fit : (layout : Layout) (addresses : Addresses) (r : ℕ) (spot : Spot) (items : List Item) → have_fields items ≡ true → Fits (items_code layout addresses r spot items)
items_fit layout addresses r spot [] have = fits_some [] refl
items_fit layout addresses r spot (item ∷ items) have =
    let parts = and_parts (has_fields item) (have_fields items) have in
    apart _ _ (item_fits layout addresses r spot item parts.0) (items_fit layout addresses r (behind addresses.known r spot item) items parts.1)

blocks_fit : (layout : Layout) (addresses : Addresses) (r : ℕ) (spot : Spot) (blocks : List ObjectBlock) → list_all (λ block. have_fields block.items) blocks ≡ true → Fits (blocks_code layout addresses r spot blocks)
blocks_fit layout addresses r spot [] have = fits_some [] refl
blocks_fit layout addresses r spot (block ∷ blocks) have =
    let parts = and_parts (have_fields block.items) (list_all (λ block. have_fields block.items) blocks) have in
    apart _ _ (items_fit layout addresses r spot block.items parts.0) (blocks_fit layout addresses r (behind_items addresses.known r spot block.items) blocks parts.1)

routine_fits : (layout : Layout) (addresses : Addresses) (r : ℕ) (spot : Spot) (routine : ObjectRoutine) → routine_has_fields routine ≡ true → Fits (routine_code layout addresses r spot routine)
unfolding routine_has_fields blocks_have_fields
routine_fits layout addresses r spot routine has =
    let parts = and_parts (have_fields routine.head) (list_all (λ block. have_fields block.items) routine.blocks) has in
    apart _ _ (items_fit layout addresses r spot routine.head parts.0) (blocks_fit layout addresses r (behind_items addresses.known r spot routine.head) routine.blocks parts.1)

routines_fit : (layout : Layout) (addresses : Addresses) (r : ℕ) (spot : Spot) (routines : List ObjectRoutine) → list_all routine_has_fields routines ≡ true → Fits (routines_code layout addresses r spot routines)
routines_fit layout addresses r spot [] have = fits_some [] refl
routines_fit layout addresses r spot (routine ∷ routines) have =
    let parts = and_parts (routine_has_fields routine) (list_all routine_has_fields routines) have in
    apart _ _ (routine_fits layout addresses r spot routine parts.0) (routines_fit layout addresses (suc r) (behind_routine addresses.known r spot routine) routines parts.1)

heap_fits : (settings : Settings) → list_all fits (heap_code settings) ≡ true
unfolding high_of
heap_fits settings =
    list_all-append fits (first_hole_code ++ heap_size_code settings) (stack_size_code settings)
    ∙ and_from (list_all fits (first_hole_code ++ heap_size_code settings)) (list_all fits (stack_size_code settings))
    (list_all-append fits first_hole_code (heap_size_code settings) ∙ and_from (list_all fits first_hole_code) (list_all fits (heap_size_code settings)) refl (told 7 (heap_size settings) (drop 2 (heap_size_code settings)) refl refl))
    (told 7 (1024 * settings.stack) (drop 2 (stack_size_code settings)) refl refl)
  where
    told : (rd to : ℕ) (code : List Instr) → is_register rd ≡ true → list_all fits code ≡ true → list_all fits (set_address rd to ++ code) ≡ true
    told rd to code is rest = list_all-append fits (set_address rd to) code ∙ and_from (list_all fits (set_address rd to)) (list_all fits code) (address_fits rd to is) rest

stack_fits : (settings : Settings) (to : ℕ) → list_all fits (stack_code settings to) ≡ true
stack_fits settings to =
    list_all-append fits (set_address 8 (stack_address settings) ++ set_address 2 stack_top) (go_by_register 0 to)
    ∙ and_from (list_all fits (set_address 8 (stack_address settings) ++ set_address 2 stack_top)) (list_all fits (go_by_register 0 to)) (list_all-append fits (set_address 8 (stack_address settings)) (set_address 2 stack_top) ∙ and_from (list_all fits (set_address 8 (stack_address settings))) (list_all fits (set_address 2 stack_top)) (address_fits 8 (stack_address settings) refl) (address_fits 2 stack_top refl)) (far_fits 0 to refl)

start_fits : (settings : Settings) (to : ℕ) → list_all fits (start_code settings to) ≡ true
start_fits settings to =
    list_all-append fits (heap_code settings) (stack_code settings to) ∙ and_from (list_all fits (heap_code settings)) (list_all fits (stack_code settings to)) (heap_fits settings) (stack_fits settings to)

program_fits : (layout : Layout) (addresses : Addresses) (settings : Settings) (objects : Objects) → list_all routine_has_fields objects.routines ≡ true → Fits (program_code layout addresses settings objects)
unfolding program_code
program_fits layout addresses settings objects have =
    fits_at _ (head_in addresses.routines objects.entry.0) (λ to. apart (Some (start_code settings to)) (routines_code layout addresses 0 first_spot objects.routines) (fits_some (start_code settings to) (start_fits settings to)) (routines_fit layout addresses 0 first_spot objects.routines have))

all_decode : (code : List Instr) → list_all fits code ≡ true → Decodes code
all_decode [] all = tt
all_decode (i ∷ code) all =
    let parts = and_parts (fits i) (list_all fits code) all in
    (instr_at-word_of i parts.0, all_decode code parts.1)

pub program_decodes : (layout : Layout) (addresses : Addresses) (settings : Settings) (objects : Objects) (code : List Instr) → list_all routine_has_fields objects.routines ≡ true → program_code layout addresses settings objects ≡ Some code → Decodes code
unfolding Fits
program_decodes layout addresses settings objects code have is =
    all_decode code (program_fits layout addresses settings objects have code is)

-- the fields of each instruction fit
pub program_has_words : (layout : Layout) (addresses : Addresses) (settings : Settings) (objects : Objects) (code : List Instr) → list_all routine_has_fields objects.routines ≡ true → program_code layout addresses settings objects ≡ Some code → list_all fits code ≡ true
unfolding Fits
program_has_words layout addresses settings objects code have is =
    program_fits layout addresses settings objects have code is
