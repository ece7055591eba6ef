-- The example stands where it is placed.
use Rattle.std.proofs.Common.{◌≡◌, ℕ, zero, suc, ◌+◌, ◌-◌, ◌/◌, ◌%◌, ◌^◌, ◌<◌, ◌≤◌, Bool, true, false, cond, ◌&&◌, nat_eq, nat_le, Option, Some, None, List, [], ◌∷◌, length, slice_get, refl, subst, arith}
use Rattle.std.proofs.lemmas.Bool.Decides.{nat_tests}
use Rattle.std.proofs.lemmas.Bool.{eqb-true, leb-true}
use Rattle.std.proofs.lemmas.Option.{slice_get_within}
use Rattle.std.specs.Cmp.{first_so, second_so}
use Rattle.op_low.specs.Valid.{is_valid, is_valid_routine, is_valid_block, is_valid_instruction, is_sized, const_fits, leaves}
use Rattle.op_rv.specs.declared.instruction.Instr.{Instr}
use Rattle.op_rv.specs.declared.objects.Item.{Item}
use Rattle.op_rv.specs.declared.objects.Item.TheVariants.{Plain}
use Rattle.op_rv.specs.declared.symbol.Symbol.TheVariants.{Routine}
use Rattle.op_low.specs.declared.instruction.Instruction.TheVariants.{Const, Exit, Raise}
use Rattle.op_rv.specs.declared.objects.ObjectBlock.{ObjectBlock}
use Rattle.op_rv.specs.declared.objects.ObjectRoutine.{ObjectRoutine}
use Rattle.op_rv.specs.declared.symbol.RoutineId.{RoutineId}
use Rattle.op_select.specs.Example.{is_between, example_routine, example_low, example_code, example_setting}
use Rattle.op_select.specs.Frames.{frame_of, home, load_home, store_home, fetch, keep, operand, register_of, bring, brought, put, put_away, taken_one, taken, given_back, cleared_registers, cleared_locals, head_of, lowered, epilogue}
use Rattle.op_select.specs.Going.{IsSetting, routine_in}
use Rattle.op_select.specs.Placing.{Placing, Stands, Nothing, First, StandsFrom, StandsHere, Expands, past, StandsRoutine}
use Rattle.op_select.specs.Selection.{items_of, code_items, object_block_of, object_routine_of, select_of}
use Rattle.op_select.specs.Sequences.{upper_of, lower_of, is_near, below, constant, reach, reached, sum, word_load, word_store}

example_valid : is_valid example_low ≡ true
unfolding is_valid is_valid_routine is_valid_block is_valid_instruction is_sized const_fits leaves
example_valid = refl

plain_more : {g : Placing} {r at end : ℕ} {i : Instr} {items : List Item} → g.code at ≡ Some i → Stands g r (at + 4) items end → Stands g r at (Plain i ∷ items) end
unfolding Expands StandsHere past
plain_more {i = i} here rest = First (i ∷ []) refl (here, tt) rest

head_there : Stands example_setting.placing 0 65536 (head_of example_routine) 65552
unfolding example_code frame_of home load_home store_home fetch keep operand register_of bring brought put put_away taken_one taken given_back cleared_registers cleared_locals head_of lowered epilogue items_of code_items upper_of lower_of is_near below constant reach reached sum word_load word_store
head_there = plain_more refl (plain_more refl (plain_more refl (plain_more refl (Nothing refl))))

block_there : Stands example_setting.placing 0 65552 (code_items example_routine (Const (record { 0 = 0 }) 7 ∷ Exit (record { 0 = 0 }) ∷ [])) 65568
unfolding example_code frame_of home load_home store_home fetch keep operand register_of bring brought put put_away taken_one taken given_back cleared_registers cleared_locals head_of lowered epilogue items_of code_items upper_of lower_of is_near below constant reach reached sum word_load word_store
block_there = plain_more refl (plain_more refl (plain_more refl (plain_more refl (Nothing refl))))

stub_there : Stands example_setting.placing 0 65568 (items_of example_routine Raise) 65588
unfolding example_code frame_of home load_home store_home fetch keep operand register_of bring brought put put_away taken_one taken given_back cleared_registers cleared_locals head_of lowered epilogue items_of code_items upper_of lower_of is_near below constant reach reached sum word_load word_store
stub_there = plain_more refl (plain_more refl (plain_more refl (plain_more refl (plain_more refl (Nothing refl)))))

-- what stands where an element of a list is found
abbrev FromBlock : ℕ → Option ObjectBlock → Type 0
FromBlock at None = Unit {0}
FromBlock at (Some block) = StandsFrom example_setting.placing 0 at block.items

abbrev FromRoutine : Option ObjectRoutine → Type 0
FromRoutine None = Unit {0}
FromRoutine (Some routine) = StandsRoutine example_setting.placing 0 routine

from_head : Stands example_setting.placing 0 65536 (object_routine_of example_routine).head 65552
unfolding object_routine_of
from_head = head_there

blocks_there : (b : ℕ) (block : ObjectBlock) → slice_get (object_routine_of example_routine).blocks b ≡ Some block → StandsFrom example_setting.placing 0 (example_setting.placing.block 0 b) block.items
unfolding object_routine_of object_block_of
blocks_there zero block is = subst (λ o. FromBlock 65552 o) is (record { end = 65568; stands = block_there })
blocks_there (suc zero) block is = subst (λ o. FromBlock 65568 o) is (record { end = 65588; stands = stub_there })
blocks_there (suc (suc b)) block is = absurd cc

routines_there : (r : ℕ) (routine : ObjectRoutine) → slice_get (select_of example_low).routines r ≡ Some routine → StandsRoutine example_setting.placing r routine
unfolding select_of
routines_there zero routine is = subst FromRoutine is (record { head = from_head; blocks = blocks_there })
routines_there (suc r) routine is = absurd cc

-- ---- where code stands

code_length : length example_code ≡ 13
unfolding example_code frame_of home load_home store_home fetch keep operand register_of bring brought put put_away taken_one taken given_back cleared_registers cleared_locals head_of lowered epilogue items_of code_items upper_of lower_of is_near below constant reach reached sum word_load word_store
code_length = refl

record Place (a : ℕ) : Type 0 where
  from : 65536 ≤ a
  before : a < 65588
  whole : a % 4 ≡ 0

place_by : (a : ℕ) (i : Instr) (test : Bool) → (nat_le 65536 a && nat_eq (a % 4) 0) ≡ test → cond test (slice_get example_code ((a - 65536) / 4)) None ≡ Some i → Place a
place_by a i true test is =
    let index = slice_get_within example_code ((a - 65536) / 4) i is in
    let long = code_length in
    let from : 65536 ≤ a = leb-true 65536 a (first_so _ _ test) in
    let fourth : nat_eq (a % 4) 0 ≡ true = second_so (nat_le 65536 a) _ test in
    record { from = from; before = omega arith; whole = eqb-true (a % 4) 0 fourth }
place_by a i false test is = absurd cc

place_of_code : (a : ℕ) (i : Instr) → example_setting.placing.code a ≡ Some i → Place a
place_of_code a i is = place_by a i (nat_le 65536 a && nat_eq (a % 4) 0) refl is

between : (from past x : ℕ) → from ≤ x → x < past → is_between from past x ≡ true
between from past x lower upper = grind (arith, nat_tests)

outside : (from past x : ℕ) → x < from → is_between from past x ≡ false
outside from past x lower = grind (arith, nat_tests)

found_by : (a r : ℕ) (test : Bool) → nat_eq a 65536 ≡ test → cond test (Some 0) None ≡ Some r → a ≡ 65536
found_by a r true test is = eqb-true a 65536 test
found_by a r false test is = absurd cc

few_blocks : (r : ℕ) → length (routine_in example_setting r).blocks < 2 ^ 32 - 1
few_blocks zero = omega arith
few_blocks (suc r) = omega arith

one_routine : (id : RoutineId) → id.0 < 1 → example_setting.placing.address (Routine id) ≡ example_setting.placing.head id.0
one_routine id less = refl

pub example_placed : IsSetting example_setting
unfolding select_of
example_placed =
    record {
      valid = example_valid;
      numbered = few_blocks;
      objects = record {
        routines = routines_there;
        symbols = one_routine;
        low = λ a i is. (let place = place_of_code a i is in let before = place.before in omega arith);
        aligned = λ a i is. (place_of_code a i is).whole;
      };
      executable = λ a i is x lower upper. (let place = place_of_code a i is in let from = place.from in let before = place.before in between 65536 69632 x (omega arith) (omega arith));
      fixed = λ a i is x lower upper. (let place = place_of_code a i is in let before = place.before in outside 131072 135168 x (omega arith));
      readable = λ x lower upper. between 131072 135168 x lower upper;
      writable = λ x lower upper. between 131072 135168 x lower upper;
      low_top = omega arith;
      finds = λ a r is. found_by a r (nat_eq a 65536) refl is;
    }
