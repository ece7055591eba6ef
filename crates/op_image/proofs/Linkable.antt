-- The objects of valid code may be linked.
use Rattle.std.proofs.Common.{◌≡◌, ℕ, pos, zero, suc, ◌+◌, ◌-◌, ◌*◌, ◌%◌, ◌^◌, ◌-ℤ◌, ◌<◌, ◌≤◌, Bool, true, false, ◌&&◌, nat_le, nat_lt, if◌then◌else◌, Option, Some, None, List, [], ◌∷◌, ◌++◌, length, map, min, slice_get, refl, ap, ◌∙◌, arith, length-append}
use Rattle.std.specs.Cmp.{first_so, second_so}
use Rattle.std.specs.List.{list_all}
use Rattle.std.specs.Option.{option_map}
use Rattle.std.proofs.lemmas.Bool.{lt-ltb, ltb-true, leb-true, and_from}
use Rattle.std.proofs.lemmas.Int.{ints}
use Rattle.std.proofs.lemmas.List.{length-map}
use Rattle.std.proofs.lemmas.List.Folds.{list_all-append, list_all-map}
use Rattle.op_base.proofs.Lists.{all_also, passes_at}
use Rattle.op_rv.specs.Encoding.{fits, is_imm, is_register}
use Rattle.op_rv.specs.declared.instruction.ImmOp.TheVariants.{Addi}
use Rattle.op_rv.specs.declared.instruction.Instr.{Instr}
use Rattle.op_rv.specs.declared.instruction.Instr.TheVariants.{Ecall, Imm as ImmInstr, Load as LoadInstr, Shift as ShiftInstr}
use Rattle.op_rv.specs.declared.instruction.LoadOp.TheVariants.{Lw}
use Rattle.op_rv.specs.declared.objects.Item.{Item}
use Rattle.op_rv.specs.declared.objects.Item.TheVariants.{Plain, Address as AddressItem, Branch as BranchItem, Call as CallItem, CallAt as CallAtItem, Jump as JumpItem}
use Rattle.op_rv.specs.declared.objects.Objects.{Objects}
use Rattle.op_rv.specs.declared.symbol.BlockId.{BlockId}
use Rattle.op_rv.specs.declared.symbol.Symbol.{Symbol}
use Rattle.op_rv.specs.declared.symbol.Symbol.TheVariants.{Literal, Table, Descriptor, Global, Routine as RoutineSymbol}
use Rattle.op_layout.specs.declared.layout.Layout.{Layout}
use Rattle.op_layout.specs.declared.layout.LiteralPlace.{LiteralPlace}
use Rattle.op_link.specs.Code.{has_fields, have_fields, blocks_have_fields, routine_has_fields}
use Rattle.op_link.specs.Linking.{all_names_exist, has_symbol as symbol_exists, is_linkable, lies_within, names_exist}
use Rattle.op_link.specs.Memory.{constants_size, globals_size}
use Rattle.op_low.specs.Valid.{address_fits, branch_fits, call_at_fits, call_fits, has_landing, has_symbol, imm_fits, is_valid, is_valid_block, is_valid_instruction, is_valid_routine, operands_fit, shift_fits, takes}
use Rattle.op_low.specs.declared.code.Block.{Block}
use Rattle.op_low.specs.declared.code.Low.{Low}
use Rattle.op_low.specs.declared.code.Routine.{Routine}
use Rattle.op_low.specs.declared.ids.VirtualRegister.{VirtualRegister}
use Rattle.op_low.specs.declared.instruction.Instruction.{Instruction}
use Rattle.op_low.specs.declared.instruction.Instruction.TheVariants.{Const, Address, Local, Move, Alu, AluImm, Shift, Load, Store, Call, CallAt, Branch, Jump, Return, Raise, Read, Write, Exit}
use Rattle.op_low.specs.declared.instruction.Output.TheVariants.{Console, Errors}
use Rattle.op_select.specs.Frames.{bring, brought, cleared_locals, cleared_registers, epilogue, fetch, given_back, head_of, home, keep, load_home, lowered, operand, passed, passed_in_memory, passed_one, put, put_away, register_of, store_home, taken, taken_from, taken_one}
use Rattle.op_select.specs.Selection.{answered, code_items, items_of, landing_of, object_block_of, object_routine_of, raise_block, select_of}
use Rattle.op_select.specs.Sequences.{below, constant, is_near, lower_of, reach, reached, sum, upper_of, word_load, word_store}
use Rattle.op_select.specs.declared.frame.Home.TheVariants.{Frame, Register}
use Rattle.op_image.specs.Building.{is_buildable, is_laid_out}

-- ---- tests that hold together

-- a routine that takes arguments is there
taken_exists : (rs : List Routine) (k arguments : ℕ) → takes (slice_get rs k) arguments ≡ true → k < length rs
taken_exists [] k arguments is = absurd cc
taken_exists (r ∷ rs) zero arguments is = omega arith
taken_exists (r ∷ rs) (suc k) arguments is = (let there = taken_exists rs k arguments is in omega arith)

-- ---- the parts of a word fit

lower_fits : (w : ℕ) → is_imm (lower_of w) ≡ true
unfolding lower_of
lower_fits w = fits_both ((w + 2 ^ 11) % 2 ^ 12) (omega arith)
  where
    fits_both : (n : ℕ) → n < 4096 → is_imm (pos n -ℤ pos (2 ^ 11)) ≡ true
    fits_both n small = search (arith, ints)

upper_fits : (w : ℕ) → nat_lt (upper_of w) (2 ^ 20) ≡ true
unfolding upper_of
upper_fits w = lt-ltb _ _ (omega arith)

-- ---- items

-- an item has words, and what it names is there
abbrev good : (Symbol → Bool) → (blocks routines : ℕ) → Item → Bool
good known blocks routines (Plain i) = fits i
good known blocks routines (AddressItem rd symbol) = is_register rd && known symbol
good known blocks routines (BranchItem op left right block) = is_register left && is_register right && nat_lt block.0 blocks
good known blocks routines (JumpItem block) = nat_lt block.0 blocks
good known blocks routines (CallItem id landing) = nat_lt id.0 routines
good known blocks routines (CallAtItem landing) = true

module _ (known : Symbol → Bool) (blocks routines : ℕ) where
  record Good (items : List Item) : Type 0 where
    holds : list_all (good known blocks routines) items ≡ true

  none : Good []
  none = record { holds = refl }

  good_both : (xs ys : List Item) → Good xs → Good ys → Good (xs ++ ys)
  good_both xs ys first second =
      record { holds = list_all-append (good known blocks routines) xs ys ∙ and_from _ _ first.holds second.holds }

  good_one : (i : Item) (is : List Item) → good known blocks routines i ≡ true → Good is → Good (i ∷ is)
  good_one i is first rest = record { holds = and_from _ _ first rest.holds }

  good_if : (b : Bool) (xs ys : List Item) → Good xs → Good ys → Good (if b then xs else ys)
  good_if true xs ys first second = first
  good_if false xs ys first second = second

  -- ---- sequences

  good_reach : (base via w : ℕ) → is_register base ≡ true → is_register via ≡ true → Good (reach base via w)
  unfolding reach
  good_reach base via w b v =
      good_if (is_near w) [] _ none (good_one _ _ (and_from _ _ v (upper_fits w)) (good_one _ _ (and_from _ _ (and_from _ _ v v) b) none))

  reached_fits : (base via w : ℕ) → is_register base ≡ true → is_register via ≡ true → is_register (reached base via w) ≡ true
  unfolding reached
  reached_fits base via w b v = if_fits (is_near w)
    where
      if_fits : (near : Bool) → is_register (if near then base else via) ≡ true
      if_fits true = b
      if_fits false = v

  good_sum : (to base via w : ℕ) → is_register to ≡ true → is_register base ≡ true → is_register via ≡ true → Good (sum to base via w)
  unfolding sum
  good_sum to base via w t b v =
      good_both (reach base via w) _ (good_reach base via w b v) (good_one _ _ (and_from _ _ (and_from _ _ t (reached_fits base via w b v)) (lower_fits w)) none)

  good_load : (to base via w : ℕ) → is_register to ≡ true → is_register base ≡ true → is_register via ≡ true → Good (word_load to base via w)
  unfolding word_load
  good_load to base via w t b v =
      good_both (reach base via w) _ (good_reach base via w b v) (good_one _ _ (and_from _ _ (and_from _ _ t (reached_fits base via w b v)) (lower_fits w)) none)

  good_store : (value base via w : ℕ) → is_register value ≡ true → is_register base ≡ true → is_register via ≡ true → Good (word_store value base via w)
  unfolding word_store
  good_store value base via w t b v =
      good_both (reach base via w) _ (good_reach base via w b v) (good_one _ _ (and_from _ _ (and_from _ _ (reached_fits base via w b v) t) (lower_fits w)) none)

  good_constant : (to w : ℕ) → is_register to ≡ true → Good (constant to w)
  unfolding constant
  good_constant to w t =
      good_if
      (is_near w)
      _
      _
      (good_one _ _ (and_from _ _ (and_from _ _ t refl) (lower_fits w)) none)
      (good_one _ _ (and_from _ _ t (upper_fits w)) (good_one _ _ (and_from _ _ (and_from _ _ t t) (lower_fits w)) none))

  -- ---- registers and frames

  home_fits : (r : ℕ) → nat_lt r 14 ≡ true → is_register (18 + r) ≡ true
  home_fits r is = (let small = ltb-true r 14 is in lt-ltb _ _ (omega arith))

  good_move : (to from : ℕ) → is_register to ≡ true → is_register from ≡ true → Good (Plain (ImmInstr Addi to from (pos 0)) ∷ [])
  good_move to from t f = good_one _ _ (and_from _ _ (and_from _ _ t f) refl) none

  good_fetch : (routine : Routine) (to : ℕ) (r : VirtualRegister) → is_register to ≡ true → Good (fetch routine to r)
  unfolding fetch home load_home
  good_fetch routine to r t = by_home (nat_lt r.0 14) refl
    where
      by_home : (b : Bool) → nat_lt r.0 14 ≡ b → Good (load_home to (if b then Register (18 + r.0) else Frame (4 * (routine.registers - 1 - r.0))))
      by_home true is = good_move to (18 + r.0) t (home_fits r.0 is)
      by_home false is = good_load to 2 to _ t refl t

  good_keep : (routine : Routine) (r : VirtualRegister) (value : ℕ) → is_register value ≡ true → Good (keep routine r value)
  unfolding keep home store_home
  good_keep routine r value t = by_home (nat_lt r.0 14) refl
    where
      by_home : (b : Bool) → nat_lt r.0 14 ≡ b → Good (store_home value (if b then Register (18 + r.0) else Frame (4 * (routine.registers - 1 - r.0))))
      by_home true is = good_move (18 + r.0) value (home_fits r.0 is) t
      by_home false is = good_store value 2 1 _ t refl refl

  operand_fits : (routine : Routine) (scratch : ℕ) (r : VirtualRegister) → is_register scratch ≡ true → is_register (operand routine scratch r) ≡ true
  unfolding operand home register_of
  operand_fits routine scratch r t = by_home (nat_lt r.0 14) refl
    where
      by_home : (b : Bool) → nat_lt r.0 14 ≡ b → is_register (register_of scratch (if b then Register (18 + r.0) else Frame (4 * (routine.registers - 1 - r.0)))) ≡ true
      by_home true is = home_fits r.0 is
      by_home false is = t

  good_bring : (routine : Routine) (scratch : ℕ) (r : VirtualRegister) → is_register scratch ≡ true → Good (bring routine scratch r)
  unfolding bring home brought
  good_bring routine scratch r t = by_home (nat_lt r.0 14)
    where
      by_home : (b : Bool) → Good (brought scratch (if b then Register (18 + r.0) else Frame (4 * (routine.registers - 1 - r.0))))
      by_home true = none
      by_home false = good_load scratch 2 scratch _ t refl t

  good_put : (routine : Routine) (r : VirtualRegister) → Good (put routine r)
  unfolding put home put_away
  good_put routine r = by_home (nat_lt r.0 14)
    where
      by_home : (b : Bool) → Good (put_away (if b then Register (18 + r.0) else Frame (4 * (routine.registers - 1 - r.0))))
      by_home true = none
      by_home false = good_store 10 2 1 _ refl refl refl

  good_passed_one : (routine : Routine) (k : ℕ) (r : VirtualRegister) → Good (passed_one routine k r)
  unfolding passed_one passed_in_memory
  good_passed_one routine k r = if_good (nat_lt k 8) refl
    where
      if_good : (b : Bool) → nat_lt k 8 ≡ b → Good (if b then fetch routine (10 + k) r else bring routine 10 r ++ word_store (operand routine 10 r) 2 1 (below ((4 * k + 8) % 2 ^ 32)))
      if_good true is = good_fetch routine (10 + k) r (let small = ltb-true k 8 is in lt-ltb _ _ (omega arith))
      if_good false is = good_both (bring routine 10 r) _ (good_bring routine 10 r refl) (good_store (operand routine 10 r) 2 1 _ (operand_fits routine 10 r refl) refl refl)

  good_passed : (routine : Routine) (k : ℕ) (rs : List VirtualRegister) → Good (passed routine k rs)
  unfolding passed
  good_passed routine k [] = none
  good_passed routine k (r ∷ rs) = good_both (passed routine (k + 1) rs) _ (good_passed routine (k + 1) rs) (good_passed_one routine k r)

  -- where homes are saved is near
  saved_fits : (k : ℕ) → k < 14 → is_imm (pos 0 -ℤ pos (4 * k + 8)) ≡ true
  saved_fits k few = near (4 * k + 8) (omega arith)
    where
      near : (n : ℕ) → n < 2048 → is_imm (pos 0 -ℤ pos n) ≡ true
      near n small = search (arith, ints)

  small_home : (k : ℕ) → k < 14 → is_register (18 + k) ≡ true
  small_home k few = lt-ltb _ _ (omega arith)

  good_taken_from : (k source : ℕ) → k < 14 → is_register source ≡ true → Good (taken_from k source)
  good_taken_from k source few s =
      good_one _ _ (and_from _ _ (small_home k few) (saved_fits k few)) (good_move (18 + k) source (small_home k few) s)

  good_taken_one : (routine : Routine) (k : ℕ) → k < 14 → Good (taken_one routine k)
  unfolding taken_one
  good_taken_one routine k few =
      good_if (nat_le routine.parameters k) (taken_from k 0) _ (good_taken_from k 0 few refl) (if_good (nat_lt k 8) refl)
    where
      if_good : (b : Bool) → nat_lt k 8 ≡ b → Good (if b then taken_from k (10 + k) else Plain (LoadInstr Lw 10 2 (pos 0 -ℤ pos (4 * k + 8))) ∷ taken_from k 10)
      if_good true is = good_taken_from k (10 + k) few (let small = ltb-true k 8 is in lt-ltb _ _ (omega arith))
      if_good false is = good_one _ _ (saved_fits k few) (good_taken_from k 10 few refl)

  good_taken : (routine : Routine) (n : ℕ) → n ≤ 14 → Good (taken routine n)
  unfolding taken
  good_taken routine zero few = none
  good_taken routine (suc n) few =
      good_both (taken routine n) _ (good_taken routine n (omega arith)) (good_taken_one routine n (omega arith))

  good_given_back : (n : ℕ) → n ≤ 14 → Good (given_back n)
  unfolding given_back
  good_given_back zero few = none
  good_given_back (suc n) few =
      good_both (given_back n) _ (good_given_back n (omega arith)) (good_one _ _ (and_from _ _ (and_from _ _ (small_home n (omega arith)) refl) (saved_fits n (omega arith))) none)

  good_cleared_registers : (routine : Routine) → Good (cleared_registers routine)
  unfolding cleared_registers
  good_cleared_registers routine =
      good_if _ [] _ none (good_one _ _ refl (good_both (sum 11 2 11 _) _ (good_sum 11 2 11 _ refl refl refl) (record { holds = refl })))

  good_cleared_locals : (routine : Routine) → Good (cleared_locals routine)
  unfolding cleared_locals
  good_cleared_locals routine =
      good_if _ [] _ none (good_one _ _ refl (good_both (sum 8 8 11 _) _ (good_sum 8 8 11 _ refl refl refl) (record { holds = refl })))

  good_head : (routine : Routine) → Good (head_of routine)
  unfolding head_of
  good_head routine =
      good_one _ _ refl (
      good_both (taken routine (min routine.registers 14) ++ sum 2 2 1 _ ++ cleared_registers routine) _
      (good_both (taken routine (min routine.registers 14) ++ sum 2 2 1 _) _
      (good_both (taken routine (min routine.registers 14)) _ (good_taken routine (min routine.registers 14) (omega arith)) (good_sum 2 2 1 _ refl refl refl))
      (good_cleared_registers routine))
      (good_cleared_locals routine))

  good_epilogue : (routine : Routine) → Good (epilogue routine)
  unfolding epilogue lowered
  good_epilogue routine =
      good_both (lowered routine ++ sum 2 2 1 _ ++ given_back (min routine.registers 14)) _
      (good_both (lowered routine ++ sum 2 2 1 _) _
      (good_both (lowered routine) _ (good_if _ [] _ none (good_sum 8 8 1 _ refl refl refl)) (good_sum 2 2 1 _ refl refl refl))
      (good_given_back (min routine.registers 14) (omega arith)))
      (record { holds = refl })

  -- ---- instructions

  landing_fits : (routine : Routine) (landing : Option BlockId) → length routine.blocks < blocks → has_landing routine landing ≡ true → nat_lt (landing_of routine landing).0 blocks ≡ true
  unfolding landing_of raise_block
  landing_fits routine None more is = lt-ltb _ _ (omega arith)
  landing_fits routine (Some block) more is = (let small = ltb-true _ _ is in lt-ltb _ _ (omega arith))

  good_answered : (routine : Routine) (to : VirtualRegister) (landing : Option BlockId) → length routine.blocks < blocks → has_landing routine landing ≡ true → Good (answered routine to landing)
  unfolding answered
  good_answered routine to landing more is = good_one _ _ (landing_fits routine landing more is) (good_keep routine to 10 refl)

  good_two : (routine : Routine) (to other : ℕ) (r q : VirtualRegister) → is_register to ≡ true → is_register other ≡ true → Good (fetch routine to r ++ fetch routine other q)
  good_two routine to other r q t o = good_both (fetch routine to r) _ (good_fetch routine to r t) (good_fetch routine other q o)

  good_operands : (routine : Routine) (left right : VirtualRegister) → Good (bring routine 10 left ++ bring routine 11 right)
  good_operands routine left right = good_both (bring routine 10 left) _ (good_bring routine 10 left refl) (good_bring routine 11 right refl)

  good_computed : (routine : Routine) (from to : VirtualRegister) (i : Instr) → fits i ≡ true → Good (bring routine 10 from ++ Plain i ∷ put routine to)
  good_computed routine from to i is = good_both (bring routine 10 from) _ (good_bring routine 10 from refl) (good_one _ _ is (good_put routine to))

  -- the registers of a result and an operand
  two_fit : (routine : Routine) (to from : VirtualRegister) → (is_register (operand routine 10 to) && is_register (operand routine 10 from)) ≡ true
  two_fit routine to from = and_from _ _ (operand_fits routine 10 to refl) (operand_fits routine 10 from refl)

  operands_are : (routine : Routine) (left right : VirtualRegister) → (is_register (operand routine 10 left) && is_register (operand routine 11 right)) ≡ true
  operands_are routine left right = and_from _ _ (operand_fits routine 10 left refl) (operand_fits routine 11 right refl)

  good_transfer : (routine : Routine) (buffer size : VirtualRegister) (d n : ℕ) → nat_lt d (2 ^ 11) ≡ true → nat_lt n (2 ^ 11) ≡ true → Good (fetch routine 11 buffer ++ fetch routine 12 size ++ Plain (ImmInstr Addi 10 0 (pos d)) ∷ [] ++ Plain (ImmInstr Addi 17 0 (pos n)) ∷ [] ++ Plain Ecall ∷ [])
  good_transfer routine buffer size d n small few =
      good_both (fetch routine 11 buffer ++ fetch routine 12 size ++ Plain (ImmInstr Addi 10 0 (pos d)) ∷ [] ++ Plain (ImmInstr Addi 17 0 (pos n)) ∷ []) _
      (good_both (fetch routine 11 buffer ++ fetch routine 12 size ++ Plain (ImmInstr Addi 10 0 (pos d)) ∷ []) _
      (good_both (fetch routine 11 buffer ++ fetch routine 12 size) _ (good_two routine 11 12 buffer size refl refl) (good_one _ [] small none))
      (good_one _ [] few none))
      (record { holds = refl })

  good_items : (low : Low) (routine : Routine) → length routine.blocks < blocks → length low.routines ≤ routines → ((symbol : Symbol) → has_symbol low symbol ≡ true → known symbol ≡ true) → (i : Instruction) → is_valid_instruction low routine i ≡ true → Good (items_of routine i)
  unfolding items_of is_valid_instruction address_fits imm_fits shift_fits call_fits call_at_fits operands_fit branch_fits
  good_items low routine more few knows (Const to n) valid =
      good_both (constant (operand routine 10 to) n) _ (good_constant (operand routine 10 to) n (operand_fits routine 10 to refl)) (good_put routine to)
  good_items low routine more few knows (Address to symbol) valid =
      good_one _ _ (and_from _ _ (operand_fits routine 10 to refl) (knows symbol (second_so _ _ valid))) (good_put routine to)
  good_items low routine more few knows (Local to offset) valid =
      let t = operand_fits routine 10 to refl in
      good_both (sum (operand routine 10 to) 8 (operand routine 10 to) _) _ (good_sum (operand routine 10 to) 8 (operand routine 10 to) _ t refl t) (good_put routine to)
  good_items low routine more few knows (Move to from) valid =
      good_both (fetch routine (operand routine 10 to) from) _ (good_fetch routine (operand routine 10 to) from (operand_fits routine 10 to refl)) (good_put routine to)
  good_items low routine more few knows (Alu op to left right) valid =
      good_both (bring routine 10 left ++ bring routine 11 right) _ (good_operands routine left right) (good_one _ _ (and_from _ _ (two_fit routine to left) (operand_fits routine 11 right refl)) (good_put routine to))
  good_items low routine more few knows (AluImm op to left imm) valid =
      good_computed routine left to (ImmInstr op (operand routine 10 to) (operand routine 10 left) imm) (and_from _ _ (two_fit routine to left) (second_so _ _ valid))
  good_items low routine more few knows (Shift op to left amount) valid =
      good_computed routine left to (ShiftInstr op (operand routine 10 to) (operand routine 10 left) amount) (and_from _ _ (two_fit routine to left) (second_so _ _ valid))
  good_items low routine more few knows (Load op to base offset) valid =
      good_computed routine base to (LoadInstr op (operand routine 10 to) (operand routine 10 base) offset) (and_from _ _ (two_fit routine to base) (second_so _ _ valid))
  good_items low routine more few knows (Store op v base offset) valid =
      good_both (bring routine 10 base ++ bring routine 11 v) _ (good_operands routine base v) (good_one _ _ (and_from _ _ (operands_are routine base v) (second_so _ _ valid)) none)
  good_items low routine more few knows (Call id operands) valid =
      let there = taken_exists low.routines id.0 (length operands.arguments) (first_so _ _ valid) in
      good_both (passed routine 0 operands.arguments) _ (good_passed routine 0 operands.arguments) (
      good_one _ _ (lt-ltb _ _ (omega arith)) (good_answered routine operands.to operands.landing more (second_so _ _ (second_so _ _ valid))))
  good_items low routine more few knows (CallAt address operands) valid =
      good_both (passed routine 0 operands.arguments ++ fetch routine 1 address) _
      (good_both (passed routine 0 operands.arguments) _ (good_passed routine 0 operands.arguments) (good_fetch routine 1 address refl))
      (good_one _ _ refl (good_answered routine operands.to operands.landing more (second_so _ _ (second_so _ _ valid))))
  good_items low routine more few knows (Branch op left right block) valid =
      let small = ltb-true block.0 (length routine.blocks) (second_so _ _ valid) in
      good_both (bring routine 10 left ++ bring routine 11 right) _ (good_operands routine left right) (good_one _ _ (and_from _ _ (operands_are routine left right) (lt-ltb _ _ (omega arith))) none)
  good_items low routine more few knows (Jump block) valid = (let small = ltb-true block.0 (length routine.blocks) valid in good_one _ _ (lt-ltb _ _ (omega arith)) none)
  good_items low routine more few knows (Return v) valid =
      good_both (fetch routine 10 v ++ Plain (ImmInstr Addi 11 0 (pos 0)) ∷ []) _ (good_both (fetch routine 10 v) _ (good_fetch routine 10 v refl) (record { holds = refl })) (good_epilogue routine)
  good_items low routine more few knows Raise valid = good_one _ _ refl (good_epilogue routine)
  good_items low routine more few knows (Read to buffer size) valid =
      good_both (fetch routine 11 buffer ++ fetch routine 12 size ++ Plain (ImmInstr Addi 10 0 (pos 0)) ∷ [] ++ Plain (ImmInstr Addi 17 0 (pos 63)) ∷ [] ++ Plain Ecall ∷ []) _
      (good_transfer routine buffer size 0 63 refl refl)
      (good_keep routine to 10 refl)
  good_items low routine more few knows (Write Console buffer size) valid = good_transfer routine buffer size 1 64 refl refl
  good_items low routine more few knows (Write Errors buffer size) valid = good_transfer routine buffer size 2 64 refl refl
  good_items low routine more few knows (Exit status) valid = good_both (fetch routine 10 status ++ Plain (ImmInstr Addi 17 0 (pos 93)) ∷ []) _ (good_both (fetch routine 10 status) _ (good_fetch routine 10 status refl) (record { holds = refl })) (record { holds = refl })

  good_code : (low : Low) (routine : Routine) → length routine.blocks < blocks → length low.routines ≤ routines → ((symbol : Symbol) → has_symbol low symbol ≡ true → known symbol ≡ true) → (code : List Instruction) → list_all (is_valid_instruction low routine) code ≡ true → Good (code_items routine code)
  unfolding code_items
  good_code low routine more few knows [] valid = none
  good_code low routine more few knows (i ∷ is) valid =
      good_both (items_of routine i) _ (good_items low routine more few knows i (first_so _ _ valid)) (good_code low routine more few knows is (second_so _ _ valid))

  good_blocks : (low : Low) (routine : Routine) → length routine.blocks < blocks → length low.routines ≤ routines → ((symbol : Symbol) → has_symbol low symbol ≡ true → known symbol ≡ true) → (bs : List Block) → list_all (is_valid_block low routine) bs ≡ true → list_all (λ block. list_all (good known blocks routines) block.items) (map (object_block_of routine) bs) ≡ true
  unfolding object_block_of is_valid_block
  good_blocks low routine more few knows [] valid = refl
  good_blocks low routine more few knows (b ∷ bs) valid =
      and_from _ _ (good_code low routine more few knows b.code (second_so _ _ (first_so _ _ valid))).holds (good_blocks low routine more few knows bs (second_so _ _ valid))

-- ---- what the linker asks

-- the offset of each place lies within the constants
within_offsets : (layout : Layout) (offsets : List ℕ) (k : ℕ) → k < length offsets → list_all (λ offset. nat_le offset (constants_size layout)) offsets ≡ true → lies_within layout (slice_get offsets k) ≡ true
within_offsets layout [] k there all = absurd (omega arith)
within_offsets layout (o ∷ os) zero there all = first_so _ _ all
within_offsets layout (o ∷ os) (suc k) there all = within_offsets layout os k (omega arith) (second_so _ _ all)

within_literals : (layout : Layout) (places : List LiteralPlace) (k : ℕ) → k < length places → list_all (λ place. nat_le place.offset (constants_size layout)) places ≡ true → lies_within layout (option_map (λ place. place.offset) (slice_get places k)) ≡ true
within_literals layout [] k there all = absurd (omega arith)
within_literals layout (o ∷ os) zero there all = first_so _ _ all
within_literals layout (o ∷ os) (suc k) there all = within_literals layout os k (omega arith) (second_so _ _ all)

-- the parts of what is laid out
record Enough (low : Low) (layout : Layout) : Type 0 where
  literals : nat_le low.counts.literals (length layout.literals) ≡ true
  tables : nat_le low.counts.tables (length layout.tables) ≡ true
  descriptors : nat_le low.counts.descriptors (length layout.descriptors) ≡ true
  literal_offsets : list_all (λ place. nat_le place.offset (constants_size layout)) layout.literals ≡ true
  table_offsets : list_all (λ offset. nat_le offset (constants_size layout)) layout.tables ≡ true
  descriptor_offsets : list_all (λ offset. nat_le offset (constants_size layout)) layout.descriptors ≡ true
  entries : list_all (λ routine. nat_lt routine.0 (length low.routines)) layout.entries ≡ true

-- an item that is good has words, and names what is there
good_fields : (objects : Objects) (layout : Layout) (blocks : ℕ) (i : Item) → good (symbol_exists objects layout) blocks (length objects.routines) i ≡ true → has_fields i ≡ true
unfolding has_fields
good_fields objects layout blocks (Plain i) is = is
good_fields objects layout blocks (AddressItem rd symbol) is = first_so _ _ is
good_fields objects layout blocks (BranchItem op left right block) is = first_so _ _ is
good_fields objects layout blocks (JumpItem block) is = refl
good_fields objects layout blocks (CallItem id landing) is = refl
good_fields objects layout blocks (CallAtItem landing) is = refl

good_names : (objects : Objects) (layout : Layout) (blocks : ℕ) (i : Item) → good (symbol_exists objects layout) blocks (length objects.routines) i ≡ true → names_exist objects layout blocks i ≡ true
unfolding names_exist
good_names objects layout blocks (Plain i) is = refl
good_names objects layout blocks (AddressItem rd symbol) is = second_so _ _ is
good_names objects layout blocks (BranchItem op left right block) is = second_so _ _ is
good_names objects layout blocks (JumpItem block) is = is
good_names objects layout blocks (CallItem id landing) is = is
good_names objects layout blocks (CallAtItem landing) is = refl

module _ (low : Low) (layout : Layout) (buildable : is_buildable low layout ≡ true) where
  pub valid_code : is_valid low ≡ true
  unfolding is_buildable
  valid_code = first_so _ _ (first_so _ _ buildable)

  laid_out : is_laid_out low layout ≡ true
  unfolding is_buildable
  laid_out = second_so _ _ (first_so _ _ buildable)

  enough : Enough low layout
  unfolding is_laid_out
  enough =
      record {
        literals = first_so _ _ (first_so _ _ (first_so _ _ (first_so _ _ (first_so _ _ (first_so _ _ laid_out)))));
        tables = second_so _ _ (first_so _ _ (first_so _ _ (first_so _ _ (first_so _ _ (first_so _ _ laid_out)))));
        descriptors = second_so _ _ (first_so _ _ (first_so _ _ (first_so _ _ (first_so _ _ laid_out))));
        literal_offsets = second_so _ _ (first_so _ _ (first_so _ _ (first_so _ _ laid_out)));
        table_offsets = second_so _ _ (first_so _ _ (first_so _ _ laid_out));
        descriptor_offsets = second_so _ _ (first_so _ _ laid_out);
        entries = second_so _ _ laid_out;
      }

  pub literal_offset : (k : ℕ) (place : LiteralPlace) → slice_get layout.literals k ≡ Some place → nat_le place.offset (constants_size layout) ≡ true
  literal_offset k place is = passes_at (λ (place : LiteralPlace). nat_le place.offset (constants_size layout)) layout.literals k place enough.literal_offsets is

  pub globals_fit : nat_le (globals_size low.globals) 15728640 ≡ true
  unfolding is_buildable
  globals_fit = second_so _ _ buildable

  pub same_length : length (select_of low).routines ≡ length low.routines
  unfolding select_of
  same_length = length-map low.routines object_routine_of

  symbols_exist : (symbol : Symbol) → has_symbol low symbol ≡ true → symbol_exists (select_of low) layout symbol ≡ true
  unfolding has_symbol symbol_exists select_of
  symbols_exist (Literal id) is = within_literals layout layout.literals id.0 (omega (arith, leb-true _ _ enough.literals, ltb-true _ _ is)) enough.literal_offsets
  symbols_exist (Table id) is = within_offsets layout layout.tables id.0 (omega (arith, leb-true _ _ enough.tables, ltb-true _ _ is)) enough.table_offsets
  symbols_exist (Descriptor id) is = within_offsets layout layout.descriptors id.0 (omega (arith, leb-true _ _ enough.descriptors, ltb-true _ _ is)) enough.descriptor_offsets
  symbols_exist (Global id) is = is
  symbols_exist (RoutineSymbol id) is = ap (λ n. nat_lt id.0 n) (length-map low.routines object_routine_of) ∙ is

  -- every routine has words, and names what is there
  module _ (routine : Routine) (valid : is_valid_routine low routine ≡ true) where
    blocks : ℕ
    blocks = length (object_routine_of routine).blocks

    passes : Item → Bool
    passes i = good (symbol_exists (select_of low) layout) blocks (length (select_of low).routines) i

    more : length routine.blocks < blocks
    unfolding object_routine_of blocks
    more =
        omega (arith, length-append (map (object_block_of routine) routine.blocks) (record { items = items_of routine Raise } ∷ []), length-map routine.blocks (object_block_of routine))

    few : length low.routines ≤ length (select_of low).routines
    few = omega (arith, same_length)

    head_passes : list_all passes (object_routine_of routine).head ≡ true
    unfolding object_routine_of passes
    head_passes = (good_head (symbol_exists (select_of low) layout) blocks (length (select_of low).routines) routine).holds

    blocks_pass : list_all (λ block. list_all passes block.items) (object_routine_of routine).blocks ≡ true
    unfolding object_routine_of passes is_valid_routine is_valid_instruction
    blocks_pass =
        list_all-append (λ block. list_all passes block.items) (map (object_block_of routine) routine.blocks) (record { items = items_of routine Raise } ∷ [])
        ∙ and_from _ _
        (good_blocks (symbol_exists (select_of low) layout) blocks (length (select_of low).routines) low routine more few symbols_exist routine.blocks (second_so _ _ valid))
        (and_from _ _ (good_items (symbol_exists (select_of low) layout) blocks (length (select_of low).routines) low routine more few symbols_exist Raise refl).holds refl)

    fields_there : routine_has_fields (object_routine_of routine) ≡ true
    unfolding routine_has_fields blocks_have_fields passes
    fields_there =
        and_from _ _
        (all_also passes has_fields (object_routine_of routine).head (good_fields (select_of low) layout blocks) head_passes)
        (all_also (λ block. list_all passes block.items) (λ block. have_fields block.items) (object_routine_of routine).blocks (λ block all. all_also passes has_fields block.items (good_fields (select_of low) layout blocks) all) blocks_pass)

    names_there : all_names_exist (select_of low) layout (object_routine_of routine) ≡ true
    unfolding passes blocks
    names_there =
        and_from _ _
        (all_also passes (names_exist (select_of low) layout blocks) (object_routine_of routine).head (good_names (select_of low) layout blocks) head_passes)
        (all_also (λ block. list_all passes block.items) (λ block. list_all (names_exist (select_of low) layout blocks) block.items) (object_routine_of routine).blocks (λ block all. all_also passes (names_exist (select_of low) layout blocks) block.items (good_names (select_of low) layout blocks) all) blocks_pass)

  pub routines_valid : list_all (is_valid_routine low) low.routines ≡ true
  unfolding is_valid
  routines_valid = second_so _ _ valid_code

  pub entry_there : nat_lt low.entry.0 (length (select_of low).routines) ≡ true
  unfolding is_valid
  entry_there =
      let there = taken_exists low.routines low.entry.0 0 (first_so _ _ valid_code) in
      lt-ltb _ _ (omega (arith, same_length))

  pub all_fields : list_all routine_has_fields (select_of low).routines ≡ true
  unfolding select_of
  all_fields =
      list_all-map routine_has_fields object_routine_of low.routines
      ∙ all_also (is_valid_routine low) (λ routine. routine_has_fields (object_routine_of routine)) low.routines fields_there routines_valid

  all_names : list_all (all_names_exist (select_of low) layout) (select_of low).routines ≡ true
  unfolding select_of
  all_names =
      list_all-map (all_names_exist (select_of low) layout) object_routine_of low.routines
      ∙ all_also (is_valid_routine low) (λ routine. all_names_exist (select_of low) layout (object_routine_of routine)) low.routines names_there routines_valid

  all_entries : list_all (λ routine. nat_lt routine.0 (length (select_of low).routines)) layout.entries ≡ true
  all_entries = ap (λ n. list_all (λ routine. nat_lt routine.0 n) layout.entries) same_length ∙ enough.entries

  globals_there : nat_le (globals_size (select_of low).globals) 15728640 ≡ true
  unfolding select_of
  globals_there = globals_fit

  entry_kept : (select_of low).entry ≡ low.entry
  unfolding select_of
  entry_kept = refl

  pub linkable : is_linkable (select_of low) layout ≡ true
  unfolding is_linkable
  linkable =
      and_from _ _
      (and_from _ _ (and_from _ _ (and_from _ _ (ap (λ e. nat_lt e.0 (length (select_of low).routines)) entry_kept ∙ entry_there) globals_there) all_fields) all_names)
      all_entries
