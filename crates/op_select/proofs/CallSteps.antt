-- Calls: the arguments are passed, the routine is entered, and its head makes the activation that low code begins.
use Rattle.std.proofs.Common.{◌≡◌, ℕ, pos, zero, suc, ◌+◌, ◌-◌, ◌*◌, ◌/◌, ◌%◌, ◌^◌, ◌-ℤ◌, ◌<◌, ◌≤◌, Bool, true, false, cond, ◌&&◌, nat_eq, nat_le, nat_lt, Option, Some, List, [], ◌∷◌, ◌++◌, length, get_or, set, slice_get, refl, ap, ap₂, sym, subst, ◌∙◌, append_assoc, arith}
use Rattle.std.proofs.lemmas.Int.{ints}
use Rattle.std.proofs.lemmas.Bool.{ltb-true, leb-true, eqb-true, cond-true}
use Rattle.std.proofs.lemmas.Bool.Decides.{nat_tests}
use Rattle.std.proofs.lemmas.List.{length-map, get_or-set_same, get_or-set_other, length-set}
use Rattle.std.specs.Cmp.{first_so, second_so}
use Rattle.std.specs.Int.{bytes_low_first}
use Rattle.std.specs.List.{list_all}
use Rattle.op_low.specs.Machine.{act as low_act, call, can_enter}
use Rattle.op_low.specs.State.{State as LowState, space, routine_or, value, values}
use Rattle.op_low.specs.Valid.{is_valid_instruction, has, has_all, call_fits, call_at_fits, operands_fit, has_landing}
use Rattle.op_low.specs.declared.code.Routine.{Routine}
use Rattle.op_low.specs.declared.ids.VirtualRegister.{VirtualRegister}
use Rattle.op_low.specs.declared.instruction.Call.{Call as Operands}
use Rattle.op_low.specs.declared.instruction.Instruction.TheVariants.{Call, CallAt}
use Rattle.op_rv.proofs.Memory.{four-bounded, with_bytes-above, with_bytes-below, with_bytes-outside, word_at-same, word_at-stored}
use Rattle.op_rv.specs.Operation.{word_from}
use Rattle.op_rv.specs.State.{State, register, with_bytes, word_at}
use Rattle.op_rv.specs.Step.{act, offset_from}
use Rattle.op_rv.specs.declared.instruction.StoreOp.TheVariants.{Sw}
use Rattle.op_rv.specs.declared.instruction.Instr.TheVariants.{Jalr, Store}
use Rattle.op_rv.specs.declared.objects.Item.{Item}
use Rattle.op_rv.specs.declared.objects.Item.TheVariants.{Call as CallItem, CallAt as CallAtItem}
use Rattle.op_rv.specs.declared.symbol.BlockId.{BlockId}
use Rattle.op_rv.specs.declared.symbol.RoutineId.{RoutineId}
use Rattle.op_select.specs.Frames.{bring, frame_of, head_of, fetch, operand, passed, passed_one, passed_in_memory}
use Rattle.op_select.specs.Going.{Setting, IsSetting, homes_in, routine_in, locals_in, placement_of, Sound, Stays}
use Rattle.op_select.specs.Placing.{Stands, First, StandsHere, Expands, past}
use Rattle.op_select.specs.RiscvMachine.{instr_shows}
use Rattle.op_select.specs.Selection.{items_of, code_items, answered}
use Rattle.op_select.specs.Sequences.{below}
use Rattle.op_select.proofs.ClearLemmas.{stored}
use Rattle.op_select.proofs.ControlSteps.{steps_join}
use Rattle.op_select.proofs.FrameLemmas.{below_bottom, below_same, below_top, brings, fetches, holds_same, sizes, sound_stored, stays_placed, value-bounded}
use Rattle.op_select.proofs.ReturnSteps.{down-bounded}
use Rattle.op_select.proofs.SequenceLemmas.{stores}
use Rattle.op_select.proofs.TransferLemmas.{Linked, links, head_stands}
use Rattle.op_select.proofs.ValueSteps.{Steps, inside}
use Rattle.op_select.proofs.Walks.{Walk, walk_none, walk_join, walk_weaken, walk_step, advanced_pc, placed, sound_placed, plain_first, split, nothing_more}
use Rattle.op_select.proofs.ArrivalLemmas.{began, Arrives, arrives}

-- the arguments from number k on are where the routine looks for them
pub record Passes (w : Setting) (m : LowState) (b : State) (k : ℕ) (vs : List ℕ) (at : ℕ) : Type 0 where
  pub after : State
  pub there : after.pc ≡ at
  pub stays : Stays w m after
  pub in_registers : (i : ℕ) → i < length vs → k + i < 8 → get_or after.registers (10 + (k + i)) 0 ≡ get_or vs i 0
  pub in_memory : (i : ℕ) → i < length vs → 8 ≤ k + i → word_at after.memory (m.limit + m.room - (8 + 4 * (k + i))) ≡ get_or vs i 0
  pub walk : Walk b after 0 (6 * length vs) []

-- a routine's head with the address behind the call in ra, where other items stand
pub record Entered (w : Setting) (c : State) (r target : ℕ) (items : List Item) (end most : ℕ) : Type 0 where
  pub back : ℕ
  pub linked : Linked c target back most
  pub rest : Stands w.placing r back items end

-- a routine with a register exists
routine_exists : (routines : List Routine) (r v : ℕ) → v < (routine_or (slice_get routines r)).registers → r < length routines
routine_exists [] r v within = absurd (omega arith)
routine_exists (x ∷ xs) zero v within = omega arith
routine_exists (x ∷ xs) (suc r) v within =
    let more = routine_exists xs r v within in
    omega arith

module _ (w : Setting) (law : IsSetting w) where
  -- ---- arguments

  -- what is stored between the limit and sp leaves the rest
  stays_scratch : (m : LowState) (b : State) (registers : List ℕ) (at a v : ℕ) → Stays w m b → length registers ≡ 32 → get_or registers 2 0 ≡ get_or b.registers 2 0 → get_or registers 8 0 ≡ get_or b.registers 8 0 → ((k : ℕ) → get_or registers (18 + k) 0 ≡ get_or b.registers (18 + k) 0) → m.limit ≤ a → a + 4 ≤ m.limit + m.room → Stays w m (stored b registers at (with_bytes b.memory a (bytes_low_first 0 4 v)))
  unfolding frame_of
  stays_scratch m b registers at a v stays size sp limit homes from before =
      let memory = with_bytes b.memory a (bytes_low_first 0 4 v) in
      let bottom = below_bottom w b.memory (homes_in b) m.top.routine m.limit (m.limit + m.room) m.callers stays.below in
      let top = below_top w b.memory (homes_in b) m.top.routine m.limit (m.limit + m.room) m.callers stays.below in
      record {
        sound = sound_stored w law b registers at a (bytes_low_first 0 4 v) stays.sound size (four-bounded v) (λ x lower upper. law.writable x (omega arith) (omega arith));
        memory = λ x lower. with_bytes-below b.memory a (bytes_low_first 0 4 v) x (omega arith) ∙ stays.memory x lower;
        input = stays.input;
        input_bytes = stays.input_bytes;
        output = stays.output;
        errors = stays.errors;
        limit = limit ∙ stays.limit;
        sp = sp ∙ stays.sp;
        limit_aligned = stays.limit_aligned;
        sp_aligned = stays.sp_aligned;
        holds = holds_same b.memory memory (homes_in b) (homes_in (placed b registers at)) (m.limit + m.room) (routine_in w m.top.routine) m.top.registers (λ x lower upper. with_bytes-above b.memory a (bytes_low_first 0 4 v) x (omega arith)) (λ k few within word. homes k) stays.holds;
        below = below_same w b.memory memory (homes_in b) (homes_in (placed b registers at)) m.top.routine m.limit (m.limit + m.room) m.callers (λ x upper. with_bytes-above b.memory a (bytes_low_first 0 4 v) x (omega arith)) (λ k few over word. homes k) stays.below;
      }

  argument_place : (sp k : ℕ) → 4 * k + 8 ≤ sp → sp < 2 ^ 32 → (sp + below ((4 * k + 8) % 2 ^ 32)) % 2 ^ 32 ≡ sp - (8 + 4 * k)
  unfolding below
  argument_place sp k under small = omega arith

  -- one more argument
  record PassesOne (m : LowState) (c : State) (k v at : ℕ) : Type 0 where
    after : State
    there : after.pc ≡ at
    stays : Stays w m after
    registers : (j : ℕ) → k < j → j < 8 → get_or after.registers (10 + j) 0 ≡ get_or c.registers (10 + j) 0
    memory : (j : ℕ) → k < j → 4 * j + 8 ≤ m.limit + m.room → word_at after.memory (m.limit + m.room - (8 + 4 * j)) ≡ word_at c.memory (m.limit + m.room - (8 + 4 * j))
    in_register : k < 8 → get_or after.registers (10 + k) 0 ≡ v
    in_memory : 8 ≤ k → word_at after.memory (m.limit + m.room - (8 + 4 * k)) ≡ v
    walk : Walk c after 0 6 []

  passes_one : (m : LowState) (c : State) (k : ℕ) (r : VirtualRegister) (at : ℕ) (early : Bool) → nat_lt k 8 ≡ early → Stays w m c → r.0 < (routine_in w m.top.routine).registers → 4 * k + 8 ≤ m.room → Stands w.placing m.top.routine c.pc (cond early (fetch (routine_in w m.top.routine) (10 + k) r) (passed_in_memory (routine_in w m.top.routine) k r)) at → PassesOne m c k (value m r) at
  unfolding passed_in_memory
  passes_one m c k r at true test stays within room stands =
      let early = ltb-true k 8 test in
      let made = fetches w law m c (10 + k) r at stays within (omega arith) (omega arith) (omega arith) stands in
      record {
        after = placed c made.registers at;
        there = refl;
        stays = stays_placed w law m c made.registers at stays made.size (made.others 2 (omega arith) (omega arith)) (made.others 8 (omega arith) (omega arith)) (λ j. made.others (18 + j) (omega arith) (omega arith));
        registers = λ j later few. made.others (10 + j) (omega arith) (omega arith);
        memory = λ j later fits. refl;
        in_register = λ few. made.value_is;
        in_memory = λ many. absurd (omega arith);
        walk = walk_weaken c (placed c made.registers at) 1 3 0 6 [] (omega arith) (omega arith) made.walk;
      }
  passes_one m c k r at false test stays within room stands =
      let late : 8 ≤ k = grind (arith, nat_tests) in
      let routine = routine_in w m.top.routine in
      let sp = m.limit + m.room in
      let low = law.low_top in
      let bottom = below_bottom w c.memory (homes_in c) m.top.routine m.limit sp m.callers stays.below in
      let top = below_top w c.memory (homes_in c) m.top.routine m.limit sp m.callers stays.below in
      let whole = stays.sp_aligned in
      let q = operand routine 10 r in
      let parts = split w.placing m.top.routine c.pc (bring routine 10 r) _ at stands in
      let made = brings w law m c 10 r parts.middle stays within (omega arith) (omega arith) (omega arith) parts.first in
      let d = placed c made.registers parts.middle in
      let sound_d = sound_placed w law c made.registers parts.middle stays.sound made.size in
      let a = sp - (8 + 4 * k) in
      let word = below ((4 * k + 8) % 2 ^ 32) in
      let sp_d : get_or made.registers 2 0 ≡ sp = made.others 2 (omega arith) ∙ stays.sp in
      let place = ap (λ n. (n + word) % 2 ^ 32) sp_d ∙ argument_place sp k (omega arith) (omega arith) in
      let put = stores w law d m.top.routine q 2 1 word at a sound_d made.some (made.apart 1 (omega arith) (omega arith)) (omega arith) (omega arith) (omega arith) (omega arith) (down-bounded ((4 * k + 8) % 2 ^ 32)) place (omega arith) (λ x lower upper. law.writable x (omega arith) (omega arith)) parts.second in
      let x = get_or made.registers q 0 in
      let after = stored c put.registers at (with_bytes c.memory a (bytes_low_first 0 4 x)) in
      let x_small : x < 2 ^ 32 = subst (λ n. n < 2 ^ 32) (sym made.value_is) (value-bounded w law m c r stays within) in
      record {
        after = after;
        there = refl;
        stays = stays_scratch m c put.registers at a x stays put.size (put.others 2 (omega arith) ∙ made.others 2 (omega arith)) (put.others 8 (omega arith) ∙ made.others 8 (omega arith)) (λ j. put.others (18 + j) (omega arith) ∙ made.others (18 + j) (omega arith)) (omega arith) (omega arith);
        registers = λ j later few. absurd (omega arith);
        memory = λ j later fits. word_at-same c.memory after.memory (sp - (8 + 4 * j)) (λ y lower upper. with_bytes-outside c.memory a (bytes_low_first 0 4 x) y (λ l u. absurd (omega arith)));
        in_register = λ few. absurd (omega arith);
        in_memory = λ many. word_at-stored c.memory a x x_small ∙ made.value_is;
        walk = walk_weaken c after 1 6 0 6 [] (omega arith) (omega arith) (walk_join c d after 0 3 1 3 [] [] made.walk put.walk);
      }

  passes : (m : LowState) (b : State) (k : ℕ) (rs : List VirtualRegister) (at : ℕ) → Stays w m b → list_all (has (routine_in w m.top.routine)) rs ≡ true → 4 * (k + length rs) + 4 ≤ m.room → Stands w.placing m.top.routine b.pc (passed (routine_in w m.top.routine) k rs) at → Passes w m b k (values m rs) at
  unfolding passed passed_one
  passes m b k [] at stays all room stands =
      record {
        after = b;
        there = nothing_more w.placing m.top.routine b.pc at stands;
        stays = stays;
        in_registers = λ i within few. absurd (omega arith);
        in_memory = λ i within many. absurd (omega arith);
        walk = walk_none b;
      }
  passes m b k (r ∷ rs) at stays all room stands =
      let g = w.placing in
      let routine = routine_in w m.top.routine in
      let parts = split g m.top.routine b.pc (passed routine (k + 1) rs) (passed_one routine k r) at stands in
      let rest = passes m b (k + 1) rs parts.middle stays (second_so (has routine r) _ all) (omega arith) parts.first in
      let one = passes_one m rest.after k r at (nat_lt k 8) refl rest.stays (inside w law m r (first_so (has routine r) _ all)) (omega arith) (subst (λ n. Stands g m.top.routine n (passed_one routine k r) at) (sym rest.there) parts.second) in
      let long : length (values m rs) ≡ length rs = length-map rs (value m) in
      record {
        after = one.after;
        there = one.there;
        stays = one.stays;
        in_registers = in_registers m k r rs at rest one;
        in_memory = in_memory m k r rs at (omega arith) rest one;
        walk = walk_weaken b one.after 0 (6 * length (values m rs) + 6) 0 (6 * suc (length (values m rs))) [] (omega arith) (omega arith) (walk_join b rest.after one.after 0 (6 * length (values m rs)) 0 6 [] [] rest.walk one.walk);
      }
    where
      in_registers : (m : LowState) (k : ℕ) (r : VirtualRegister) (rs : List VirtualRegister) (at : ℕ) {middle : ℕ} {b : State} (rest : Passes w m b (k + 1) (values m rs) middle) → (one : PassesOne m rest.after k (value m r) at) → (i : ℕ) → i < suc (length (values m rs)) → k + i < 8 → get_or one.after.registers (10 + (k + i)) 0 ≡ get_or (value m r ∷ values m rs) i 0
      in_registers m k r rs at rest one zero within few =
          let same : k + 0 ≡ k = omega arith in
          ap (λ n. get_or one.after.registers (10 + n) 0) same ∙ one.in_register (omega arith)
      in_registers m k r rs at rest one (suc i) within few =
          let same : k + suc i ≡ k + 1 + i = omega arith in
          one.registers (k + suc i) (omega arith) few ∙ ap (λ n. get_or rest.after.registers (10 + n) 0) same ∙ rest.in_registers i (omega arith) (omega arith)

      in_memory : (m : LowState) (k : ℕ) (r : VirtualRegister) (rs : List VirtualRegister) (at : ℕ) {middle : ℕ} {b : State} → 4 * (k + suc (length (values m rs))) + 4 ≤ m.limit + m.room → (rest : Passes w m b (k + 1) (values m rs) middle) → (one : PassesOne m rest.after k (value m r) at) → (i : ℕ) → i < suc (length (values m rs)) → 8 ≤ k + i → word_at one.after.memory (m.limit + m.room - (8 + 4 * (k + i))) ≡ get_or (value m r ∷ values m rs) i 0
      in_memory m k r rs at room rest one zero within many =
          let same : k + 0 ≡ k = omega arith in
          ap (λ n. word_at one.after.memory (m.limit + m.room - (8 + 4 * n))) same ∙ one.in_memory (omega arith)
      in_memory m k r rs at room rest one (suc i) within many =
          let same : k + suc i ≡ k + 1 + i = omega arith in
          one.memory (k + suc i) (omega arith) (omega arith) ∙ ap (λ n. word_at rest.after.memory (m.limit + m.room - (8 + 4 * n))) same ∙ rest.in_memory i (omega arith) (omega arith)

  -- ---- calls

  values-bounded : (m : LowState) (b : State) (rs : List VirtualRegister) (i : ℕ) → Stays w m b → list_all (has (routine_in w m.top.routine)) rs ≡ true → i < length (values m rs) → get_or (values m rs) i 0 < 2 ^ 32
  values-bounded m b [] i stays all within = absurd (omega arith)
  values-bounded m b (r ∷ rs) zero stays all within = value-bounded w law m b r stays (inside w law m r (first_so (has (routine_in w m.top.routine) r) _ all))
  values-bounded m b (r ∷ rs) (suc i) stays all within = values-bounded m b rs i stays (second_so (has (routine_in w m.top.routine) r) _ all) (omega arith)

  -- the routine is entered, with the address behind the call in ra
  call_from : (m : LowState) (b : State) (r back most at end : ℕ) (rs : List VirtualRegister) (to : VirtualRegister) (landing : Option BlockId) → (p : Passes w m b 0 (values m rs) at) → (l : Linked p.after (w.placing.head r) back most) → Stays w m b → list_all (has (routine_in w m.top.routine)) rs ≡ true → Stands w.placing m.top.routine back (answered (routine_in w m.top.routine) to landing ++ code_items (routine_in w m.top.routine) m.top.now) end → to.0 < (routine_in w m.top.routine).registers → can_enter w.low (placement_of w) r (length rs) m ≡ true → Steps w (began w r (values m rs) to landing m) b (6 * length rs + most + (12 + 3 * (routine_in w r).registers + locals_in w r)) []
  call_from m b r back most at end rs to landing p l stays all stands to_in enters =
      let first : (nat_lt r (length w.low.routines) && nat_eq (length rs) (routine_in w r).parameters) ≡ true = first_so _ (nat_le (space w.low (placement_of w) r) m.room) enters in
      let exists = ltb-true r (length w.low.routines) (first_so _ (nat_eq (length rs) (routine_in w r).parameters) first) in
      let counts : nat_eq (length rs) (routine_in w r).parameters ≡ true = second_so (nat_lt r (length w.low.routines)) _ first in
      let count : length rs ≡ (routine_in w r).parameters = eqb-true (length rs) (routine_in w r).parameters counts in
      let room = leb-true (space w.low (placement_of w) r) m.room (second_so (nat_lt r (length w.low.routines) && nat_eq (length rs) (routine_in w r).parameters) _ enters) in
      let long : length (values m rs) ≡ length rs = length-map rs (value m) in
      let d = placed p.after l.registers (w.placing.head r) in
      let stays_d = stays_placed w law m p.after l.registers (w.placing.head r) p.stays l.size (l.others 2 (omega arith)) (l.others 8 (omega arith)) (λ k. l.others (18 + k) (omega arith)) in
      let arrived : Arrives w m d r (values m rs) to landing = record {
        stays = stays_d;
        there = refl;
        in_registers = λ i within few. l.others (10 + i) (omega arith) ∙ ap (λ n. get_or p.after.registers (10 + n) 0) (sym (zero_more i)) ∙ p.in_registers i within (omega arith);
        in_memory = λ i within many. ap (λ n. word_at p.after.memory (m.limit + m.room - (8 + 4 * n))) (sym (zero_more i)) ∙ p.in_memory i within (omega arith);
        words = λ i within. values-bounded m b rs i stays all within;
        back = record { end = end; stands = subst (λ n. Stands w.placing m.top.routine n (answered (routine_in w m.top.routine) to landing ++ code_items (routine_in w m.top.routine) m.top.now) end) (sym l.back_is) stands };
        exists = exists;
        caller_exists = routine_exists w.low.routines m.top.routine to.0 to_in;
        keeps = to_in;
        count = long ∙ count;
        room = room;
      } in
      let steps = arrives w law m d r (values m rs) to landing arrived in
      let walk = walk_join b p.after d 0 (6 * length (values m rs)) 1 most [] [] p.walk l.walk in
      let joined_ = steps_join w law (began w r (values m rs) to landing m) b d 1 (6 * length (values m rs) + most) (12 + 3 * (routine_in w r).registers + locals_in w r) [] [] walk steps in
      subst (λ n. Steps w (began w r (values m rs) to landing m) b (6 * n + most + (12 + 3 * (routine_in w r).registers + locals_in w r)) []) long joined_
    where
      zero_more : (i : ℕ) → 0 + i ≡ i
      zero_more i = omega arith

  -- there is room for the arguments
  arguments_fit : (m : LowState) (r n : ℕ) → can_enter w.low (placement_of w) r n m ≡ true → 4 * (0 + n) + 4 ≤ m.room
  unfolding frame_of
  arguments_fit m r n enters =
      let first : (nat_lt r (length w.low.routines) && nat_eq n (routine_in w r).parameters) ≡ true = first_so _ (nat_le (space w.low (placement_of w) r) m.room) enters in
      let count : n ≡ (routine_in w r).parameters = eqb-true n (routine_in w r).parameters (second_so (nat_lt r (length w.low.routines)) _ first) in
      let room : space w.low (placement_of w) r ≤ m.room = leb-true (space w.low (placement_of w) r) m.room (second_so (nat_lt r (length w.low.routines) && nat_eq n (routine_in w r).parameters) _ enters) in
      let size = sizes w.low r law.valid in
      let inside_ = size.parameters in
      omega arith

  linked_first : (m : LowState) (c : State) (id : RoutineId) (landing : Option BlockId) (items : List Item) (end : ℕ) → Sound w c → Stands w.placing m.top.routine c.pc (CallItem id landing ∷ items) end → Entered w c m.top.routine (w.placing.head id.0) items end 2
  unfolding Expands
  linked_first m c id landing items end sound (First is expands here rest) =
      record { back = past c.pc is; linked = links w law c (w.placing.head id.0) is sound expands here; rest = rest }

  pub call_steps : (m : LowState) (b : State) (id : RoutineId) (operands : Operands) (end : ℕ) → Stays w m b → is_valid_instruction w.low (routine_in w m.top.routine) (Call id operands) ≡ true → can_enter w.low (placement_of w) id.0 (length operands.arguments) m ≡ true → Stands w.placing m.top.routine b.pc (items_of (routine_in w m.top.routine) (Call id operands) ++ code_items (routine_in w m.top.routine) m.top.now) end → Steps w (low_act w.low (placement_of w) (Call id operands) m) b (6 * length operands.arguments + 2 + (12 + 3 * (routine_in w id.0).registers + locals_in w id.0)) []
  unfolding is_valid_instruction call_fits operands_fit has_all items_of low_act call
  call_steps m b id operands end stays valid enters stands =
      let r = m.top.routine in
      let routine = routine_in w r in
      let args = operands.arguments in
      let behind_ = CallItem id operands.landing ∷ answered routine operands.to operands.landing in
      let regrouped = subst (λ items. Stands w.placing r b.pc items end) (append_assoc (passed routine 0 args) behind_ (code_items routine m.top.now)) stands in
      let parts = split w.placing r b.pc (passed routine 0 args) _ end regrouped in
      let fit = second_so _ _ valid in
      let named : (list_all (has routine) args && has routine operands.to) ≡ true = first_so _ (has_landing routine operands.landing) fit in
      let all = first_so (list_all (has routine) args) _ named in
      let to_in = inside w law m operands.to (second_so (list_all (has routine) args) _ named) in
      let p = passes m b 0 args parts.middle stays all (arguments_fit m id.0 (length args) enters) parts.first in
      let there = subst (λ n. Stands w.placing r n (CallItem id operands.landing ∷ (answered routine operands.to operands.landing ++ code_items routine m.top.now)) end) (sym p.there) parts.second in
      let e = linked_first m p.after id operands.landing _ end p.stays.sound there in
      let steps = call_from m b id.0 e.back 2 parts.middle end args operands.to operands.landing p e.linked stays all e.rest to_in enters in
      subst (λ s. Steps w s b (6 * length args + 2 + (12 + 3 * (routine_in w id.0).registers + locals_in w id.0)) []) (sym (cond-true (can_enter w.low (placement_of w) id.0 (length args) m) (began w id.0 (values m args) operands.to operands.landing m) _ enters)) steps

  -- ---- calls of an address

  head_whole : (r : ℕ) → r < length w.low.routines → (w.placing.head r % 4 ≡ 0) × (w.placing.head r < 2 ^ 31)
  unfolding head_of
  head_whole r exists =
      let stands = head_stands w r law exists in
      let first = plain_first w.placing r (w.placing.head r) (Store Sw 2 1 (pos 0 -ℤ pos 4)) _ (w.placing.block r 0) stands in
      (law.objects.aligned (w.placing.head r) _ first.0, law.objects.low (w.placing.head r) _ first.0)

  jalr_first : (m : LowState) (c : State) (r : ℕ) (landing : Option BlockId) (items : List Item) (end : ℕ) → Sound w c → r < length w.low.routines → get_or c.registers 1 0 ≡ w.placing.head r → Stands w.placing m.top.routine c.pc (CallAtItem landing ∷ items) end → Entered w c m.top.routine (w.placing.head r) items end 1
  unfolding Expands StandsHere past act instr_shows
  jalr_first m c r landing items end sound exists at (First is expands here rest) =
      let here' = subst (StandsHere w.placing c.pc) expands here in
      let rest' = subst (λ js. Stands w.placing m.top.routine (past c.pc js) items end) expands rest in
      let whole = head_whole r exists in
      let aligned = whole.0 in
      let low = whole.1 in
      let target = w.placing.head r in
      let back = c.pc + 4 in
      let size = sound.size in
      let registers = set c.registers 1 back in
      let straight : (target + word_from (pos 0)) % 2 ^ 32 / 2 * 2 ≡ target = omega (arith, ints) in
      let there : offset_from (register c 1) (pos 0) / 2 * 2 ≡ target = ap (λ n. offset_from n (pos 0) / 2 * 2) at ∙ straight in
      let goes : placed c (set c.registers 1 ((c.pc + 4) % 2 ^ 32)) (offset_from (register c 1) (pos 0) / 2 * 2) ≡ placed c registers target = ap₂ (λ n t. placed c (set c.registers 1 n) t) (advanced_pc w law c (Jalr 1 1 (pos 0)) here'.0) there in
      record {
        back = back;
        linked = record {
          registers = registers;
          size = length-set c.registers 1 back ∙ size;
          back_is = get_or-set_same c.registers 1 back 0 (omega arith);
          others = λ q other. get_or-set_other c.registers 1 q back 0 other;
          walk = walk_step w law c (placed c registers target) (Jalr 1 1 (pos 0)) [] sound here'.0 refl goes;
        };
        rest = rest';
      }

  -- the address is fetched, and then called
  linked_at : (m : LowState) (c : State) (address : VirtualRegister) (r at : ℕ) (landing : Option BlockId) (items : List Item) (end : ℕ) → Stays w m c → address.0 < (routine_in w m.top.routine).registers → r < length w.low.routines → w.routine_at (value m address) ≡ Some r → Stands w.placing m.top.routine c.pc (fetch (routine_in w m.top.routine) 1 address) at → Stands w.placing m.top.routine at (CallAtItem landing ∷ items) end → Entered w c m.top.routine (w.placing.head r) items end 4
  linked_at m c address r at landing items end stays within exists found stands next =
      let made = fetches w law m c 1 address at stays within (omega arith) (omega arith) (omega arith) stands in
      let d = placed c made.registers at in
      let sound_d = sound_placed w law c made.registers at stays.sound made.size in
      let e = jalr_first m d r landing items end sound_d exists (made.value_is ∙ law.finds (value m address) r found) next in
      record {
        back = e.back;
        linked = record {
          registers = e.linked.registers;
          size = e.linked.size;
          back_is = e.linked.back_is;
          others = λ q other. e.linked.others q other ∙ made.others q other other;
          walk = walk_weaken c (placed c e.linked.registers (w.placing.head r)) 2 4 1 4 [] (omega arith) (omega arith) (walk_join c d (placed c e.linked.registers (w.placing.head r)) 1 3 1 1 [] [] made.walk e.linked.walk);
        };
        rest = e.rest;
      }

  pub call_at_steps : (m : LowState) (b : State) (address : VirtualRegister) (operands : Operands) (r end : ℕ) → Stays w m b → is_valid_instruction w.low (routine_in w m.top.routine) (CallAt address operands) ≡ true → w.routine_at (value m address) ≡ Some r → can_enter w.low (placement_of w) r (length operands.arguments) m ≡ true → Stands w.placing m.top.routine b.pc (items_of (routine_in w m.top.routine) (CallAt address operands) ++ code_items (routine_in w m.top.routine) m.top.now) end → Steps w (call w.low (placement_of w) r operands m) b (6 * length operands.arguments + 4 + (12 + 3 * (routine_in w r).registers + locals_in w r)) []
  unfolding is_valid_instruction call_at_fits operands_fit has_all items_of call
  call_at_steps m b address operands r end stays valid found enters stands =
      let me = m.top.routine in
      let routine = routine_in w me in
      let args = operands.arguments in
      let items = answered routine operands.to operands.landing ++ code_items routine m.top.now in
      let front = passed routine 0 args ++ fetch routine 1 address in
      let regrouped = subst (λ items. Stands w.placing me b.pc items end) (append_assoc front (CallAtItem operands.landing ∷ answered routine operands.to operands.landing) (code_items routine m.top.now)) stands in
      let parts = split w.placing me b.pc front (CallAtItem operands.landing ∷ items) end regrouped in
      let two = split w.placing me b.pc (passed routine 0 args) (fetch routine 1 address) parts.middle parts.first in
      let fit = second_so (has routine address) _ valid in
      let named : (list_all (has routine) args && has routine operands.to) ≡ true = first_so _ (has_landing routine operands.landing) fit in
      let all = first_so (list_all (has routine) args) _ named in
      let to_in = inside w law m operands.to (second_so (list_all (has routine) args) _ named) in
      let address_in = inside w law m address (first_so (has routine address) _ valid) in
      let exists = ltb-true r (length w.low.routines) (first_so _ (nat_eq (length args) (routine_in w r).parameters) (first_so _ (nat_le (space w.low (placement_of w) r) m.room) enters)) in
      let p = passes m b 0 args two.middle stays all (arguments_fit m r (length args) enters) two.first in
      let there = subst (λ n. Stands w.placing me n (fetch routine 1 address) parts.middle) (sym p.there) two.second in
      let e = linked_at m p.after address r parts.middle operands.landing items end p.stays address_in exists found there parts.second in
      let steps = call_from m b r e.back 4 two.middle end args operands.to operands.landing p e.linked stays all e.rest to_in enters in
      subst (λ s. Steps w s b (6 * length args + 4 + (12 + 3 * (routine_in w r).registers + locals_in w r)) []) (sym (cond-true (can_enter w.low (placement_of w) r (length args) m) (began w r (values m args) operands.to operands.landing m) _ enters)) steps
