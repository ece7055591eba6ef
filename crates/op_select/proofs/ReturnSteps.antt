-- The end of a routine: back to the caller, which goes on behind its call or at the call's landing.
use Rattle.std.proofs.Common.{◌≡◌, ◌≢◌, ℕ, pos, ◌+◌, ◌-◌, ◌*◌, ◌/◌, ◌%◌, ◌^◌, ◌-ℤ◌, ◌<◌, ◌≤◌, inl, inr, Bool, true, false, cond, nat_eq, nat_lt, min, Option, Some, None, List, [], ◌∷◌, ◌++◌, length, get_or, refl, ap, sym, subst, ◌∙◌, append-nil, arith}
use Rattle.std.proofs.lemmas.Int.{ints}
use Rattle.std.proofs.lemmas.Bool.{cases_lt}
use Rattle.std.proofs.lemmas.Bool.Decides.{nat_tests}
use Rattle.op_low.specs.Machine.{act as low_act, left, return_to, raise_to}
use Rattle.op_low.specs.State.{Activation, Caller, State as LowState, keep as with_kept, value, landed, block_of}
use Rattle.op_low.specs.Valid.{is_valid_instruction}
use Rattle.op_low.specs.declared.code.Routine.{Routine}
use Rattle.op_low.specs.declared.ids.VirtualRegister.{VirtualRegister}
use Rattle.op_low.specs.declared.instruction.Instruction.{Instruction}
use Rattle.op_low.specs.declared.instruction.Instruction.TheVariants.{Return, Raise}
use Rattle.op_rv.specs.Operation.{word_from, branch_taken}
use Rattle.op_rv.specs.State.{State, register, word_at}
use Rattle.op_rv.specs.Step.{act, offset_from}
use Rattle.op_rv.specs.declared.instruction.BranchOp.TheVariants.{Bne}
use Rattle.op_rv.specs.declared.instruction.LoadOp.TheVariants.{Lw}
use Rattle.op_rv.specs.declared.instruction.Instr.{Instr}
use Rattle.op_rv.specs.declared.instruction.Instr.TheVariants.{Jalr, Load}
use Rattle.op_rv.specs.declared.objects.Item.{Item}
use Rattle.op_rv.specs.declared.objects.Item.TheVariants.{Branch as BranchItem, Plain}
use Rattle.op_rv.specs.declared.symbol.BlockId.{BlockId}
use Rattle.op_select.specs.Frames.{frame_of, fetch, given_back, keep, lowered, epilogue}
use Rattle.op_select.specs.Going.{Setting, IsSetting, homes_in, routine_in, locals_in, frame_in, place_of, placement_of, restored, Holds, Waits, Below, Stays, Goes}
use Rattle.op_select.specs.Placing.{Stands, First, StandsFrom, StandsHere, Expands, Choice, Direct, Over}
use Rattle.op_select.specs.RiscvMachine.{instr_shows}
use Rattle.op_select.specs.Selection.{items_of, code_items, answered, landing_of, raise_block}
use Rattle.op_select.specs.Sequences.{below, small, sum}
use Rattle.op_select.proofs.ControlSteps.{choice_at, steps_join}
use Rattle.op_select.proofs.FrameLemmas.{below_bottom, below_same, below_top, fetches, holds_same, keeps, restored_kept, restored_saved, sizes, stays_placed, value-bounded}
use Rattle.op_select.proofs.SavingLemmas.{four_below, gives_back, loads_below}
use Rattle.op_select.proofs.SequenceLemmas.{sums, smalls}
use Rattle.op_select.proofs.TransferLemmas.{block_stands, stub_stands}
use Rattle.op_select.proofs.ValueSteps.{Steps, inside}
use Rattle.op_select.proofs.Walks.{Walk, walk_none, walk_join, walk_weaken, walk_step, placed, sound_placed, plain_first, split, nothing_more}

-- the limit has been lowered
pub record Lowers (b : State) (limit at : ℕ) : Type 0 where
  pub registers : List ℕ
  pub size : length registers ≡ 32
  pub limit_is : get_or registers 8 0 ≡ limit
  pub others : (q : ℕ) → q ≢ 8 → q ≢ 1 → get_or registers q 0 ≡ get_or b.registers q 0
  pub walk : Walk b (placed b registers at) 0 3 []

-- the frame has been left, with the return address still in it
record Lifts (b : State) (limit sp : ℕ) (homes : ℕ → ℕ) (at : ℕ) : Type 0 where
  registers : List ℕ
  size : length registers ≡ 32
  limit_is : get_or registers 8 0 ≡ limit
  sp_is : get_or registers 2 0 ≡ sp
  homes_are : (k : ℕ) → k < 14 → get_or registers (18 + k) 0 ≡ homes k
  others : (q : ℕ) → q ≢ 8 → q ≢ 2 → q ≢ 1 → q < 18 → get_or registers q 0 ≡ get_or b.registers q 0
  walk : Walk b (placed b registers at) 1 20 []

-- the code goes on at an address
record GoesBack (b : State) (at : ℕ) : Type 0 where
  registers : List ℕ
  size : length registers ≡ 32
  others : (q : ℕ) → q ≢ 1 → get_or registers q 0 ≡ get_or b.registers q 0
  walk : Walk b (placed b registers at) 2 2 []

-- the frame has been left
pub record Leaves (b : State) (limit sp : ℕ) (homes : ℕ → ℕ) (at : ℕ) : Type 0 where
  pub registers : List ℕ
  pub size : length registers ≡ 32
  pub limit_is : get_or registers 8 0 ≡ limit
  pub sp_is : get_or registers 2 0 ≡ sp
  pub homes_are : (k : ℕ) → k < 14 → get_or registers (18 + k) 0 ≡ homes k
  pub others : (q : ℕ) → q ≢ 8 → q ≢ 2 → q ≢ 1 → q < 18 → get_or registers q 0 ≡ get_or b.registers q 0
  pub walk : Walk b (placed b registers at) 1 22 []

-- back at the caller, with a value
pub record Backs (b : State) (limit sp : ℕ) (homes : ℕ → ℕ) (value at : ℕ) : Type 0 where
  pub registers : List ℕ
  pub size : length registers ≡ 32
  pub limit_is : get_or registers 8 0 ≡ limit
  pub sp_is : get_or registers 2 0 ≡ sp
  pub homes_are : (k : ℕ) → k < 14 → get_or registers (18 + k) 0 ≡ homes k
  pub value_is : get_or registers 10 0 ≡ value
  pub flag_is : get_or registers 11 0 ≡ 0
  pub walk : Walk b (placed b registers at) 1 26 []

-- and by a raise
pub record Raises (b : State) (limit sp : ℕ) (homes : ℕ → ℕ) (at : ℕ) : Type 0 where
  pub registers : List ℕ
  pub size : length registers ≡ 32
  pub limit_is : get_or registers 8 0 ≡ limit
  pub sp_is : get_or registers 2 0 ≡ sp
  pub homes_are : (k : ℕ) → k < 14 → get_or registers (18 + k) 0 ≡ homes k
  pub flag_is : get_or registers 11 0 ≡ 1
  pub walk : Walk b (placed b registers at) 1 23 []

pub down_by : (x n : ℕ) → n ≤ x → x < 2 ^ 32 → (x + below n) % 2 ^ 32 ≡ x - n
unfolding below
down_by x n most small = omega arith

pub down-bounded : (n : ℕ) → below n < 2 ^ 32
unfolding below
down-bounded n = omega arith

-- code stands at whole words, low
choice_aligned : (w : Setting) (law : IsSetting w) (target : ℕ) (left right at : ℕ) (is : List Instr) → Choice target Bne left right at is → StandsHere w.placing at is → (at % 4 ≡ 0) × (at < 2 ^ 31)
unfolding StandsHere
choice_aligned w law target left right at is (Direct offset there lists) here =
    let here' = subst (StandsHere w.placing at) lists here in
    (law.objects.aligned at _ here'.0, law.objects.low at _ here'.0)
choice_aligned w law target left right at is (Over js offset transfer skips lists) here =
    let here' = subst (StandsHere w.placing at) lists here in
    (law.objects.aligned at _ here'.0, law.objects.low at _ here'.0)

branch_aligned : (w : Setting) (law : IsSetting w) (r at : ℕ) (left right : ℕ) (block : BlockId) (items : List Item) (end : ℕ) → Stands w.placing r at (BranchItem Bne left right block ∷ items) end → (at % 4 ≡ 0) × (at < 2 ^ 31)
unfolding Expands
branch_aligned w law r at left right block items end (First is expands here rest) = choice_aligned w law (w.placing.block r block.0) left right at is expands here

pub answered_aligned : (w : Setting) (law : IsSetting w) (r at : ℕ) (to : VirtualRegister) (landing : Option BlockId) (items : List Item) (end : ℕ) → Stands w.placing r at (answered (routine_in w r) to landing ++ items) end → (at % 4 ≡ 0) × (at < 2 ^ 31)
unfolding answered
answered_aligned w law r at to landing items end stands = branch_aligned w law r at 11 0 (landing_of (routine_in w r) landing) _ end stands

module _ (w : Setting) (law : IsSetting w) where
  lowers_by : (m : LowState) (b : State) (at : ℕ) (none : Bool) → nat_eq (routine_in w m.top.routine).locals 0 ≡ none → Stays w m b → Stands w.placing m.top.routine b.pc (cond none [] (sum 8 8 1 (below (routine_in w m.top.routine).locals))) at → Lowers b (m.limit - (routine_in w m.top.routine).locals) at
  lowers_by m b at true test stays stands =
      let there = nothing_more w.placing m.top.routine b.pc at stands in
      let no_locals : (routine_in w m.top.routine).locals ≡ 0 = grind (arith, nat_tests) in
      let same : m.limit - (routine_in w m.top.routine).locals ≡ m.limit = omega arith in
      record {
        registers = b.registers;
        size = stays.sound.size;
        limit_is = stays.limit ∙ sym same;
        others = λ q other more. refl;
        walk = walk_weaken b (placed b b.registers at) 0 0 0 3 [] (omega arith) (omega arith) (subst (λ n. Walk b (placed b b.registers n) 0 0 []) there (walk_none b));
      }
  lowers_by m b at false test stays stands =
      let routine = routine_in w m.top.routine in
      let bottom = below_bottom w b.memory (homes_in b) m.top.routine m.limit (m.limit + m.room) m.callers stays.below in
      let top = below_top w b.memory (homes_in b) m.top.routine m.limit (m.limit + m.room) m.callers stays.below in
      let low = law.low_top in
      let made = sums w law b m.top.routine 8 8 1 (below routine.locals) at stays.sound (omega arith) (omega arith) (omega arith) (omega arith) (omega arith) (omega arith) (down-bounded routine.locals) stands in
      record {
        registers = made.registers;
        size = made.size;
        limit_is = made.value_is ∙ ap (λ n. (n + below routine.locals) % 2 ^ 32) stays.limit ∙ down_by m.limit routine.locals (omega arith) (omega arith);
        others = made.others;
        walk = walk_weaken b (placed b made.registers at) 1 3 0 3 [] (omega arith) (omega arith) made.walk;
      }

  -- what the caller finds in the homes
  abbrev pub found : LowState → State → ℕ → ℕ
  found m b = restored (routine_in w m.top.routine) b.memory (m.limit + m.room) (homes_in b)

  found_same : (m : LowState) (b : State) (registers : List ℕ) (at k : ℕ) → get_or registers (18 + k) 0 ≡ get_or b.registers (18 + k) 0 → found m (placed b registers at) k ≡ found m b k
  unfolding restored
  found_same m b registers at k same =
      ap (λ h. cond (nat_lt k (routine_in w m.top.routine).registers) (word_at b.memory (place_of (routine_in w m.top.routine) (m.limit + m.room) k)) h) same

  eight_not_one : ◌≢◌ {A = ℕ} 8 1
  eight_not_one = omega arith

  eight_not_two : ◌≢◌ {A = ℕ} 8 2
  eight_not_two = omega arith

  two_not_one : ◌≢◌ {A = ℕ} 2 1
  two_not_one = omega arith

  eight_low : 8 < 18
  eight_low = omega arith

  two_low : 2 < 18
  two_low = omega arith

  one_at_least : 1 ≤ 1
  one_at_least = omega arith

  one_in_three : 1 ≤ 3
  one_in_three = omega arith

  same_most : 22 ≤ 22
  same_most = omega arith

  most_given : (n : ℕ) → 6 + min n 14 ≤ 20
  most_given n = omega arith

  not_one : (k : ℕ) → 18 + k ≢ 1
  not_one k = omega arith

  not_two : (k : ℕ) → 18 + k ≢ 2
  not_two k = omega arith

  not_eight : (k : ℕ) → 18 + k ≢ 8
  not_eight k = omega arith

  saved_place : (routine : Routine) (sp k : ℕ) → k < routine.registers → sp + frame_of routine - (8 + 4 * k) ≡ place_of routine sp k
  unfolding frame_of
  saved_place routine sp k saved = omega arith

  -- what is given back is what the caller finds
  given_is : (m : LowState) (b : State) (old new : List ℕ) (count : ℕ) → count ≡ min (routine_in w m.top.routine).registers 14 → ((k : ℕ) → get_or old (18 + k) 0 ≡ get_or b.registers (18 + k) 0) → ((k : ℕ) → k < count → get_or new (18 + k) 0 ≡ word_at b.memory (m.limit + m.room + frame_in w m.top.routine - (8 + 4 * k))) → ((k : ℕ) → count ≤ k → get_or new (18 + k) 0 ≡ get_or old (18 + k) 0) → (k : ℕ) → k < 14 → get_or new (18 + k) 0 ≡ found m b k
  given_is m b old new count counts same homes rest k less =
      let routine = routine_in w m.top.routine in
      let sp = m.limit + m.room in
      elim (cases_lt k routine.registers) [
        | inl saved ↦ homes k (omega arith) ∙ ap (word_at b.memory) (saved_place routine sp k saved) ∙ sym (restored_saved routine b.memory sp (homes_in b) k saved)
        | inr kept ↦ rest k (omega arith) ∙ same k ∙ sym (restored_kept routine b.memory sp (homes_in b) k kept)
      ]

  -- sp, the limit and the homes are the caller's
  lifts : (m : LowState) (b : State) (at : ℕ) → Stays w m b → Stands w.placing m.top.routine b.pc (lowered (routine_in w m.top.routine) ++ sum 2 2 1 (frame_in w m.top.routine) ++ given_back (min (routine_in w m.top.routine).registers 14)) at → Lifts b (m.limit - locals_in w m.top.routine) (m.limit + m.room + frame_in w m.top.routine) (found m b) at
  unfolding lowered frame_of
  lifts m b at stays stands =
      let r = m.top.routine in
      let routine = routine_in w r in
      let sp = m.limit + m.room in
      let frame = frame_in w r in
      let count = min routine.registers 14 in
      let most = most_given routine.registers in
      let top = below_top w b.memory (homes_in b) r m.limit sp m.callers stays.below in
      let bottom = below_bottom w b.memory (homes_in b) r m.limit sp m.callers stays.below in
      let low = law.low_top in
      let sp_whole = stays.sp_aligned in
      let size = sizes w.low r law.valid in
      let few = size.registers in
      let two = split w.placing r b.pc (lowered routine ++ sum 2 2 1 frame) _ at stands in
      let one = split w.placing r b.pc (lowered routine) _ two.middle two.first in
      let lower = lowers_by m b one.middle (nat_eq routine.locals 0) refl stays one.first in
      let d = placed b lower.registers one.middle in
      let sound_d = sound_placed w law b lower.registers one.middle stays.sound lower.size in
      let raised = sums w law d r 2 2 1 frame two.middle sound_d (omega arith) (omega arith) (omega arith) (omega arith) (omega arith) (omega arith) (omega arith) one.second in
      let e = placed b raised.registers two.middle in
      let sound_e = sound_placed w law b raised.registers two.middle stays.sound raised.size in
      let sp_d : get_or lower.registers 2 0 ≡ sp = lower.others 2 (omega arith) (omega arith) ∙ stays.sp in
      let sum_is : (sp + frame) % 2 ^ 32 ≡ sp + frame = omega arith in
      let sp_is : get_or raised.registers 2 0 ≡ sp + frame = raised.value_is ∙ ap (λ n. (n + frame) % 2 ^ 32) sp_d ∙ sum_is in
      let given = gives_back w law count e r (sp + frame) at sound_e sp_is (omega arith) (omega arith) (omega arith) top two.second in
      record {
        registers = given.registers;
        size = given.size;
        limit_is = given.low 8 eight_low ∙ raised.others 8 eight_not_two eight_not_one ∙ lower.limit_is;
        sp_is = given.low 2 two_low ∙ sp_is;
        homes_are = given_is m b e.registers given.registers count refl (λ j. raised.others (18 + j) (not_two j) (not_one j) ∙ lower.others (18 + j) (not_eight j) (not_one j)) given.homes given.rest;
        others = λ q eight two one low. given.low q low ∙ raised.others q two one ∙ lower.others q eight one;
        walk = walk_weaken b (placed b given.registers at) 1 (6 + count) 1 20 [] one_at_least most (walk_join b e (placed b given.registers at) 1 6 0 count [] [] (walk_join b d e 0 3 1 3 [] [] lower.walk raised.walk) given.walk);
      }

  -- and then the code goes on behind the call
  goes_back : (m : LowState) (b : State) (c : Caller) (cs : List Caller) (registers : List ℕ) (at end : ℕ) → Stays w m b → m.callers ≡ c ∷ cs → length registers ≡ 32 → get_or registers 2 0 ≡ m.limit + m.room + frame_in w m.top.routine → Stands w.placing m.top.routine at (Plain (Load Lw 1 2 (pos 0 -ℤ pos 4)) ∷ Plain (Jalr 0 1 (pos 0)) ∷ []) end → GoesBack (placed b registers at) (word_at b.memory (m.limit + m.room + frame_in w m.top.routine - 4))
  unfolding Below frame_of act instr_shows
  goes_back m b c cs registers at end stays callers size sp_is stands =
      let r = m.top.routine in
      let sp = m.limit + m.room + frame_in w r in
      let below_ = subst (λ xs. Below w b.memory (homes_in b) r m.limit (m.limit + m.room) xs) callers stays.below in
      let waits = below_.1 in
      let back = word_at b.memory (sp - 4) in
      let whole = answered_aligned w law c.activation.routine back c.to c.landing _ waits.back.end waits.back.stands in
      let top = below_top w b.memory (homes_in b) r m.limit (m.limit + m.room) m.callers stays.below in
      let bottom = below_bottom w b.memory (homes_in b) r m.limit (m.limit + m.room) m.callers stays.below in
      let low = law.low_top in
      let sp_whole = stays.sp_aligned in
      let g = placed b registers at in
      let sound_g = sound_placed w law b registers at stays.sound size in
      let first = plain_first w.placing r at (Load Lw 1 2 (pos 0 -ℤ pos 4)) _ end stands in
      let loaded = loads_below w law g 1 sp (sp - 4) (pos 0 -ℤ pos 4) sound_g sp_is (omega arith) (omega arith) (four_below sp (omega arith) (omega arith)) (omega arith) (omega arith) (omega arith) first.0 in
      let f = placed b loaded.registers (at + 4) in
      let sound_f = sound_placed w law b loaded.registers (at + 4) stays.sound loaded.size in
      let second = plain_first w.placing r (at + 4) (Jalr 0 1 (pos 0)) _ end first.1 in
      let aligned = whole.0 in
      let small_ = whole.1 in
      let straight : (back + word_from (pos 0)) % 2 ^ 32 / 2 * 2 ≡ back = omega (arith, ints) in
      let there : offset_from (register f 1) (pos 0) / 2 * 2 ≡ back = ap (λ n. offset_from n (pos 0) / 2 * 2) loaded.value_is ∙ straight in
      let last = walk_step w law f (placed b loaded.registers back) (Jalr 0 1 (pos 0)) [] sound_f second.0 refl (ap (placed b loaded.registers) there) in
      record {
        registers = loaded.registers;
        size = loaded.size;
        others = λ q one. loaded.others q one one;
        walk = walk_join g f (placed b loaded.registers back) 1 1 1 1 [] [] loaded.walk last;
      }

  pub leaves : (m : LowState) (b : State) (c : Caller) (cs : List Caller) (at : ℕ) → Stays w m b → m.callers ≡ c ∷ cs → Stands w.placing m.top.routine b.pc (epilogue (routine_in w m.top.routine)) at → Leaves b (m.limit - locals_in w m.top.routine) (m.limit + m.room + frame_in w m.top.routine) (found m b) (word_at b.memory (m.limit + m.room + frame_in w m.top.routine - 4))
  unfolding epilogue
  leaves m b c cs at stays callers stands =
      let r = m.top.routine in
      let routine = routine_in w r in
      let back = word_at b.memory (m.limit + m.room + frame_in w r - 4) in
      let parts = split w.placing r b.pc (lowered routine ++ sum 2 2 1 (frame_in w r) ++ given_back (min routine.registers 14)) _ at stands in
      let first = lifts m b parts.middle stays parts.first in
      let second = goes_back m b c cs first.registers parts.middle at stays callers first.size first.sp_is parts.second in
      record {
        registers = second.registers;
        size = second.size;
        limit_is = second.others 8 eight_not_one ∙ first.limit_is;
        sp_is = second.others 2 two_not_one ∙ first.sp_is;
        homes_are = λ k less. second.others (18 + k) (not_one k) ∙ first.homes_are k less;
        others = λ q eight two one low. second.others q one ∙ first.others q eight two one low;
        walk = walk_weaken b (placed b second.registers back) 3 22 1 22 [] one_in_three same_most (walk_join b (placed b first.registers parts.middle) (placed b second.registers back) 1 20 2 2 [] [] first.walk second.walk);
      }

  -- the caller's state
  pub stays_left : (m : LowState) (b : State) (c : Caller) (cs : List Caller) (registers : List ℕ) (at : ℕ) → Stays w m b → m.callers ≡ c ∷ cs → length registers ≡ 32 → get_or registers 2 0 ≡ m.limit + m.room + frame_in w m.top.routine → get_or registers 8 0 ≡ m.limit - locals_in w m.top.routine → ((k : ℕ) → k < 14 → get_or registers (18 + k) 0 ≡ found m b k) → Stays w (left w.low (placement_of w) c.activation cs m) (placed b registers at)
  unfolding Below frame_of
  stays_left m b c cs registers at stays callers size sp limit homes =
      let r = m.top.routine in
      let routine = routine_in w r in
      let old = m.limit + m.room in
      let frame = frame_in w r in
      let below_ = subst (λ xs. Below w b.memory (homes_in b) r m.limit old xs) callers stays.below in
      let new = homes_in (placed b registers at) in
      let caller = routine_in w c.activation.routine in
      let held_ = holds_same b.memory b.memory (found m b) new (old + frame) caller c.activation.registers (λ x from before. refl) (λ k few within word. homes k few) below_.1.holds in
      let rest = below_same w b.memory b.memory (found m b) new c.activation.routine (m.limit - routine.locals) (old + frame) cs (λ x from. refl) (λ k few over word. homes k few) below_.2 in
      let under = below_.0 in
      let size_r = sizes w.low r law.valid in
      let locals_whole = size_r.locals_aligned in
      let limit_whole = stays.limit_aligned in
      let sp_whole = stays.sp_aligned in
      let same : old + frame ≡ m.limit - routine.locals + (m.room + (routine.locals + frame)) = omega arith in
      record {
        sound = sound_placed w law b registers at stays.sound size;
        memory = λ x lower. stays.memory x (omega arith);
        input = stays.input;
        input_bytes = stays.input_bytes;
        output = stays.output;
        errors = stays.errors;
        limit = limit;
        sp = sp ∙ same;
        limit_aligned = omega arith;
        sp_aligned = omega arith;
        holds = subst (λ n. Holds b.memory new n caller c.activation.registers) same held_;
        below = subst (λ n. Below w b.memory new c.activation.routine (m.limit - routine.locals) n cs) same rest;
      }

  -- what is left of the block does not matter
  pub stays_now : (m : LowState) (b : State) (now : List Instruction) → Stays w m b → Stays w (record m { top = record m.top { now = now } }) b
  stays_now m b now stays =
      record {
        sound = stays.sound;
        memory = stays.memory;
        input = stays.input;
        input_bytes = stays.input_bytes;
        output = stays.output;
        errors = stays.errors;
        limit = stays.limit;
        sp = stays.sp;
        limit_aligned = stays.limit_aligned;
        sp_aligned = stays.sp_aligned;
        holds = stays.holds;
        below = stays.below;
      }

  -- behind a call that has returned
  behind : (m : LowState) (f : State) (to : VirtualRegister) (landing : Option BlockId) (x end : ℕ) → Stays w m f → to.0 < (routine_in w m.top.routine).registers → get_or f.registers 10 0 ≡ x → get_or f.registers 11 0 ≡ 0 → x < 2 ^ 32 → Stands w.placing m.top.routine f.pc (answered (routine_in w m.top.routine) to landing ++ code_items (routine_in w m.top.routine) m.top.now) end → Steps w (with_kept to x m) f 6 []
  unfolding answered
  behind m f to landing x end stays within value_is flag_is fits stands =
      let r = m.top.routine in
      let routine = routine_in w r in
      let tells : branch_taken Bne (register f 11) (register f 0) ≡ false = ap (λ n. branch_taken Bne n 0) flag_is in
      let choice = choice_at w law r f Bne 11 0 (landing_of routine landing) (keep routine to 10 ++ code_items routine m.top.now) end false stays.sound tells stands in
      let g = placed f choice.registers choice.at in
      let stays_g = stays_placed w law m f choice.registers choice.at stays choice.size (choice.others 2 (omega arith)) (choice.others 8 (omega arith)) (λ k. choice.others (18 + k) (omega arith)) in
      let last = split w.placing r choice.at (keep routine to 10) (code_items routine m.top.now) end choice.there in
      let kept = keeps w law m g 10 x to last.middle stays_g within (omega arith) (omega arith) (choice.others 10 (omega arith) ∙ value_is) fits last.first in
      record {
        after = kept.after;
        goes = record { stays = kept.stays; ready = record { end = end; stands = subst (λ n. Stands w.placing r n (code_items routine m.top.now) end) (sym kept.there) last.second } };
        walk = walk_weaken f kept.after 2 6 1 6 [] (omega arith) (omega arith) (walk_join f g kept.after 1 3 1 3 [] [] choice.walk kept.walk);
      }

  -- to the end of a routine that returns
  to_back : (m : LowState) (b : State) (v : VirtualRegister) (c : Caller) (cs : List Caller) (at : ℕ) → Stays w m b → m.callers ≡ c ∷ cs → v.0 < (routine_in w m.top.routine).registers → Stands w.placing m.top.routine b.pc (items_of (routine_in w m.top.routine) (Return v)) at → Backs b (m.limit - locals_in w m.top.routine) (m.limit + m.room + frame_in w m.top.routine) (found m b) (value m v) (word_at b.memory (m.limit + m.room + frame_in w m.top.routine - 4))
  unfolding items_of
  to_back m b v c cs at stays callers v_in stands =
      let r = m.top.routine in
      let routine = routine_in w r in
      let parts = split w.placing r b.pc (fetch routine 10 v ++ small 11 0) (epilogue routine) at stands in
      let two = split w.placing r b.pc (fetch routine 10 v) (small 11 0) parts.middle parts.first in
      let one = fetches w law m b 10 v two.middle stays v_in (omega arith) (omega arith) (omega arith) two.first in
      let d = placed b one.registers two.middle in
      let sound_d = sound_placed w law b one.registers two.middle stays.sound one.size in
      let flag = smalls w law d r 11 0 parts.middle sound_d (omega arith) (omega arith) (omega arith) two.second in
      let e = placed b flag.registers parts.middle in
      let same : (k : ℕ) → get_or flag.registers (18 + k) 0 ≡ get_or b.registers (18 + k) 0 = λ k. flag.others (18 + k) (omega arith) (omega arith) ∙ one.others (18 + k) (omega arith) (omega arith) in
      let stays_e = stays_placed w law m b flag.registers parts.middle stays flag.size (flag.others 2 (omega arith) (omega arith) ∙ one.others 2 (omega arith) (omega arith)) (flag.others 8 (omega arith) (omega arith) ∙ one.others 8 (omega arith) (omega arith)) (λ k. same k) in
      let leaving = leaves m e c cs at stays_e callers parts.second in
      let back = word_at b.memory (m.limit + m.room + frame_in w r - 4) in
      record {
        registers = leaving.registers;
        size = leaving.size;
        limit_is = leaving.limit_is;
        sp_is = leaving.sp_is;
        homes_are = λ k less. leaving.homes_are k less ∙ found_same m b flag.registers parts.middle k (same k);
        value_is = leaving.others 10 (omega arith) (omega arith) (omega arith) (omega arith) ∙ flag.others 10 (omega arith) (omega arith) ∙ one.value_is;
        flag_is = leaving.others 11 (omega arith) (omega arith) (omega arith) (omega arith) ∙ flag.value_is;
        walk = walk_weaken b (placed b leaving.registers back) 3 26 1 26 [] (omega arith) (omega arith) (walk_join b e (placed b leaving.registers back) 2 4 1 22 [] [] (walk_join b d e 1 3 1 1 [] [] one.walk flag.walk) leaving.walk);
      }

  waits_of : (m : LowState) (b : State) (c : Caller) (cs : List Caller) → Stays w m b → m.callers ≡ c ∷ cs → Waits w b.memory (found m b) (m.limit + m.room + frame_in w m.top.routine) c
  unfolding Below
  waits_of m b c cs stays callers = (subst (λ xs. Below w b.memory (homes_in b) m.top.routine m.limit (m.limit + m.room) xs) callers stays.below).1

  return_by : (m : LowState) (b : State) (v : VirtualRegister) (c : Caller) (cs : List Caller) (end : ℕ) → Stays w m b → m.callers ≡ c ∷ cs → is_valid_instruction w.low (routine_in w m.top.routine) (Return v) ≡ true → Stands w.placing m.top.routine b.pc (items_of (routine_in w m.top.routine) (Return v) ++ code_items (routine_in w m.top.routine) m.top.now) end → Steps w (with_kept c.to (value m v) (left w.low (placement_of w) c.activation cs m)) b 32 []
  unfolding is_valid_instruction
  return_by m b v c cs end stays callers valid stands =
      let r = m.top.routine in
      let routine = routine_in w r in
      let m' = left w.low (placement_of w) c.activation cs m in
      let back = word_at b.memory (m.limit + m.room + frame_in w r - 4) in
      let whole = split w.placing r b.pc (items_of routine (Return v)) (code_items routine m.top.now) end stands in
      let v_in = inside w law m v valid in
      let first = to_back m b v c cs whole.middle stays callers v_in whole.first in
      let stays_f = stays_left m b c cs first.registers back stays callers first.size first.sp_is first.limit_is first.homes_are in
      let waits = waits_of m b c cs stays callers in
      let second = behind m' (placed b first.registers back) c.to c.landing (value m v) waits.back.end stays_f waits.keeps first.value_is first.flag_is (value-bounded w law m b v stays v_in) waits.back.stands in
      steps_join w law (with_kept c.to (value m v) m') b (placed b first.registers back) 1 26 6 [] [] first.walk second

  pub return_steps : (m : LowState) (b : State) (v : VirtualRegister) (c : Caller) (cs : List Caller) (end : ℕ) → Stays w m b → m.callers ≡ c ∷ cs → is_valid_instruction w.low (routine_in w m.top.routine) (Return v) ≡ true → Stands w.placing m.top.routine b.pc (items_of (routine_in w m.top.routine) (Return v) ++ code_items (routine_in w m.top.routine) m.top.now) end → Steps w (low_act w.low (placement_of w) (Return v) m) b 32 []
  unfolding low_act
  return_steps m b v c cs end stays callers valid stands =
      subst (λ xs. Steps w (return_to w.low (placement_of w) (value m v) xs m) b 32 []) (sym callers) (return_by m b v c cs end stays callers valid stands)

  landed_goes : (m : LowState) (b : State) (landing : Option BlockId) (a : Activation) (cs : List Caller) (at : ℕ) → Stays w (left w.low (placement_of w) a cs m) b → a.routine < length w.low.routines → at ≡ w.placing.block a.routine (landing_of (routine_in w a.routine) landing).0 → b.pc ≡ at → Goes w (left w.low (placement_of w) (landed w.low landing a) cs m) b
  unfolding landing_of raise_block code_items
  landed_goes m b None a cs at stays exists there pc =
      let count : min (length (routine_in w a.routine).blocks) (2 ^ 32 - 1) ≡ length (routine_in w a.routine).blocks = (let few = law.numbered a.routine in omega arith) in
      let stub = stub_stands w a.routine law exists in
      let place : w.placing.block a.routine (length (routine_in w a.routine).blocks) ≡ b.pc = sym (pc ∙ there ∙ ap (w.placing.block a.routine) count) in
      let items : items_of (routine_in w a.routine) Raise ++ [] ≡ items_of (routine_in w a.routine) Raise = append-nil (items_of (routine_in w a.routine) Raise) in
      record {
        stays = stays_now (left w.low (placement_of w) a cs m) b (Raise ∷ []) stays;
        ready = record { end = stub.end; stands = subst (λ is. Stands w.placing a.routine b.pc is stub.end) (sym items) (subst (λ n. Stands w.placing a.routine n (items_of (routine_in w a.routine) Raise) stub.end) place stub.stands) };
      }
  landed_goes m b (Some block) a cs at stays exists there pc =
      record {
        stays = stays_now (left w.low (placement_of w) a cs m) b (block_of w.low a.routine block.0) stays;
        ready = subst (λ n. StandsFrom w.placing a.routine n (code_items (routine_in w a.routine) (block_of w.low a.routine block.0))) (sym (pc ∙ there)) (block_stands w a.routine block.0 law);
      }

  -- to the end of a routine that raises
  to_raise : (m : LowState) (b : State) (c : Caller) (cs : List Caller) (at : ℕ) → Stays w m b → m.callers ≡ c ∷ cs → Stands w.placing m.top.routine b.pc (items_of (routine_in w m.top.routine) Raise) at → Raises b (m.limit - locals_in w m.top.routine) (m.limit + m.room + frame_in w m.top.routine) (found m b) (word_at b.memory (m.limit + m.room + frame_in w m.top.routine - 4))
  unfolding items_of
  to_raise m b c cs at stays callers stands =
      let r = m.top.routine in
      let routine = routine_in w r in
      let parts = split w.placing r b.pc (small 11 1) (epilogue routine) at stands in
      let flag = smalls w law b r 11 1 parts.middle stays.sound (omega arith) (omega arith) (omega arith) parts.first in
      let e = placed b flag.registers parts.middle in
      let same : (k : ℕ) → get_or flag.registers (18 + k) 0 ≡ get_or b.registers (18 + k) 0 = λ k. flag.others (18 + k) (omega arith) (omega arith) in
      let stays_e = stays_placed w law m b flag.registers parts.middle stays flag.size (flag.others 2 (omega arith) (omega arith)) (flag.others 8 (omega arith) (omega arith)) (λ k. same k) in
      let leaving = leaves m e c cs at stays_e callers parts.second in
      let back = word_at b.memory (m.limit + m.room + frame_in w r - 4) in
      record {
        registers = leaving.registers;
        size = leaving.size;
        limit_is = leaving.limit_is;
        sp_is = leaving.sp_is;
        homes_are = λ k less. leaving.homes_are k less ∙ found_same m b flag.registers parts.middle k (same k);
        flag_is = leaving.others 11 (omega arith) (omega arith) (omega arith) (omega arith) ∙ flag.value_is;
        walk = walk_weaken b (placed b leaving.registers back) 2 23 1 23 [] (omega arith) (omega arith) (walk_join b e (placed b leaving.registers back) 1 1 1 22 [] [] flag.walk leaving.walk);
      }

  -- at the landing of a call that has raised
  at_landing : (m : LowState) (f : State) (to : VirtualRegister) (landing : Option BlockId) (a : Activation) (cs : List Caller) (end : ℕ) → Stays w (left w.low (placement_of w) a cs m) f → a.routine < length w.low.routines → get_or f.registers 11 0 ≡ 1 → Stands w.placing a.routine f.pc (answered (routine_in w a.routine) to landing ++ code_items (routine_in w a.routine) a.now) end → Steps w (left w.low (placement_of w) (landed w.low landing a) cs m) f 3 []
  unfolding answered
  at_landing m f to landing a cs end stays exists flag_is stands =
      let r = a.routine in
      let routine = routine_in w r in
      let m' = left w.low (placement_of w) a cs m in
      let tells : branch_taken Bne (register f 11) (register f 0) ≡ true = ap (λ n. branch_taken Bne n 0) flag_is in
      let choice = choice_at w law r f Bne 11 0 (landing_of routine landing) (keep routine to 10 ++ code_items routine a.now) end true stays.sound tells stands in
      let g = placed f choice.registers choice.at in
      let stays_g = stays_placed w law m' f choice.registers choice.at stays choice.size (choice.others 2 (omega arith)) (choice.others 8 (omega arith)) (λ k. choice.others (18 + k) (omega arith)) in
      record {
        after = g;
        goes = landed_goes m g landing a cs choice.at stays_g exists choice.there refl;
        walk = choice.walk;
      }

  raise_by : (m : LowState) (b : State) (c : Caller) (cs : List Caller) (end : ℕ) → Stays w m b → m.callers ≡ c ∷ cs → Stands w.placing m.top.routine b.pc (items_of (routine_in w m.top.routine) Raise ++ code_items (routine_in w m.top.routine) m.top.now) end → Steps w (left w.low (placement_of w) (landed w.low c.landing c.activation) cs m) b 26 []
  raise_by m b c cs end stays callers stands =
      let r = m.top.routine in
      let routine = routine_in w r in
      let back = word_at b.memory (m.limit + m.room + frame_in w r - 4) in
      let whole = split w.placing r b.pc (items_of routine Raise) (code_items routine m.top.now) end stands in
      let first = to_raise m b c cs whole.middle stays callers whole.first in
      let stays_f = stays_left m b c cs first.registers back stays callers first.size first.sp_is first.limit_is first.homes_are in
      let waits = waits_of m b c cs stays callers in
      let second = at_landing m (placed b first.registers back) c.to c.landing c.activation cs waits.back.end stays_f waits.exists first.flag_is waits.back.stands in
      steps_join w law (left w.low (placement_of w) (landed w.low c.landing c.activation) cs m) b (placed b first.registers back) 1 23 3 [] [] first.walk second

  pub raise_steps : (m : LowState) (b : State) (c : Caller) (cs : List Caller) (end : ℕ) → Stays w m b → m.callers ≡ c ∷ cs → Stands w.placing m.top.routine b.pc (items_of (routine_in w m.top.routine) Raise ++ code_items (routine_in w m.top.routine) m.top.now) end → Steps w (low_act w.low (placement_of w) Raise m) b 26 []
  unfolding low_act
  raise_steps m b c cs end stays callers stands =
      subst (λ xs. Steps w (raise_to w.low (placement_of w) xs m) b 26 []) (sym callers) (raise_by m b c cs end stays callers stands)
