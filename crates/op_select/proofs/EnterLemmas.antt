-- The head of a routine as a whole, and the activation that it begins.
use Rattle.std.proofs.Common.{◌≡◌, ◌≢◌, ℕ, pos, ◌+◌, ◌-◌, ◌*◌, ◌%◌, ◌^◌, ◌-ℤ◌, ◌<◌, ◌≤◌, ◌⊎◌, inl, inr, min, List, [], ◌∷◌, ◌++◌, length, get_or, ap, sym, subst, ◌∙◌, append_assoc, arith}
use Rattle.std.proofs.lemmas.Bool.{cases_lt}
use Rattle.std.specs.Int.{bytes_low_first}
use Rattle.op_low.specs.declared.code.Routine.{Routine}
use Rattle.op_rv.proofs.Memory.{with_bytes-outside, word_at-same, word_at-stored, word_at-zero}
use Rattle.op_rv.specs.State.{State, with_bytes, word_at}
use Rattle.op_rv.specs.declared.instruction.StoreOp.TheVariants.{Sw}
use Rattle.op_rv.specs.declared.instruction.Instr.TheVariants.{Store}
use Rattle.op_rv.specs.declared.objects.Item.TheVariants.{Plain}
use Rattle.op_select.specs.Frames.{cleared_locals, cleared_registers, frame_of, fresh_words, head_of, taken}
use Rattle.op_select.specs.Going.{Setting, IsSetting, routine_in, locals_in, frame_in, held, place_of, Sound}
use Rattle.op_select.specs.Placing.{Stands}
use Rattle.op_select.specs.Sequences.{below, sum}
use Rattle.op_select.proofs.ClearLemmas.{stored}
use Rattle.op_select.proofs.FrameLemmas.{held_frame, held_register, sizes}
use Rattle.op_select.proofs.HeadLemmas.{Comes, takes, zeroes_locals, zeroes_registers}
use Rattle.op_select.proofs.ReturnSteps.{down-bounded, down_by}
use Rattle.op_select.proofs.SavingLemmas.{four_below, stores_below}
use Rattle.op_select.proofs.SequenceLemmas.{sums}
use Rattle.op_select.proofs.TransferLemmas.{head_stands}
use Rattle.op_select.proofs.Walks.{Walk, walk_join, walk_weaken, plain_first, sound_placed, Split, split}

-- what a head leaves, from the state before it: the frame below sp, the locals above the limit, and the homes
pub record Heads (w : Setting) (b : State) (r sp limit back : ℕ) (value : ℕ → ℕ) : Type 0 where
  pub registers : List ℕ
  pub memory : ℕ → ℕ
  pub limit_is : get_or registers 8 0 ≡ limit + locals_in w r
  pub sp_is : get_or registers 2 0 ≡ sp - frame_in w r
  pub low : (x : ℕ) → x < limit → memory x ≡ b.memory x
  pub locals : (x : ℕ) → limit ≤ x → x < limit + locals_in w r → memory x ≡ 0
  pub high : (x : ℕ) → sp ≤ x → memory x ≡ b.memory x
  pub back_is : word_at memory (sp - 4) ≡ back
  pub begun : (v : ℕ) → v < (routine_in w r).registers → held memory (λ k. get_or registers (18 + k) 0) (routine_in w r) (sp - frame_in w r) v ≡ value v
  pub saved : (k : ℕ) → k < 14 → k < (routine_in w r).registers → get_or b.registers (18 + k) 0 < 2 ^ 32 → word_at memory (place_of (routine_in w r) (sp - frame_in w r) k) ≡ get_or b.registers (18 + k) 0
  pub kept : (k : ℕ) → (routine_in w r).registers ≤ k → get_or registers (18 + k) 0 ≡ get_or b.registers (18 + k) 0
  pub sound : Sound w (stored b registers (w.placing.block r 0) memory)
  pub walk : Walk b (stored b registers (w.placing.block r 0) memory) 1 (12 + 3 * (routine_in w r).registers + locals_in w r) []

-- the return address and the homes are saved, and sp is that of the routine
record Opens (w : Setting) (b : State) (r sp limit back : ℕ) (value : ℕ → ℕ) (at : ℕ) : Type 0 where
  registers : List ℕ
  memory : ℕ → ℕ
  limit_is : get_or registers 8 0 ≡ limit
  sp_is : get_or registers 2 0 ≡ sp - frame_in w r
  homes : (k : ℕ) → k < min (routine_in w r).registers 14 → get_or registers (18 + k) 0 ≡ value k
  rest : (k : ℕ) → min (routine_in w r).registers 14 ≤ k → get_or registers (18 + k) 0 ≡ get_or b.registers (18 + k) 0
  back_is : word_at memory (sp - 4) ≡ back
  saved : (k : ℕ) → k < min (routine_in w r).registers 14 → get_or b.registers (18 + k) 0 < 2 ^ 32 → word_at memory (sp - (8 + 4 * k)) ≡ get_or b.registers (18 + k) 0
  same : (x : ℕ) → (x + (4 * min (routine_in w r).registers 14 + 4) < sp) ⊎ (sp ≤ x) → memory x ≡ b.memory x
  sound : Sound w (stored b registers at memory)
  walk : Walk b (stored b registers at memory) 1 (4 + 3 * min (routine_in w r).registers 14) []

-- the words of the frame that are no parameters are zeros, and the locals
record Fills (w : Setting) (b : State) (r sp limit at : ℕ) : Type 0 where
  registers : List ℕ
  memory : ℕ → ℕ
  limit_is : get_or registers 8 0 ≡ limit + locals_in w r
  others : (q : ℕ) → q ≢ 8 → q ≢ 10 → q ≢ 11 → get_or registers q 0 ≡ get_or b.registers q 0
  words : (x : ℕ) → sp ≤ x → x < sp + 4 * fresh_words (routine_in w r) → memory x ≡ 0
  locals : (x : ℕ) → limit ≤ x → x < limit + locals_in w r → memory x ≡ 0
  low : (x : ℕ) → x < limit → memory x ≡ b.memory x
  high : (x : ℕ) → sp + 4 * fresh_words (routine_in w r) ≤ x → memory x ≡ b.memory x
  sound : Sound w (stored b registers at memory)
  walk : Walk b (stored b registers at memory) 0 (8 + 3 * fresh_words (routine_in w r) + locals_in w r) []

-- the memories between these
record Memories (routine : Routine) (sp limit back : ℕ) (saved : ℕ → ℕ) (m0 m1 m2 : ℕ → ℕ) : Type 0 where
  one_back : word_at m1 (sp - 4) ≡ back
  one_saved : (k : ℕ) → k < min routine.registers 14 → saved k < 2 ^ 32 → word_at m1 (sp - (8 + 4 * k)) ≡ saved k
  one_same : (x : ℕ) → (x + (4 * min routine.registers 14 + 4) < sp) ⊎ (sp ≤ x) → m1 x ≡ m0 x
  two_words : (x : ℕ) → sp - frame_of routine ≤ x → x < sp - frame_of routine + 4 * fresh_words routine → m2 x ≡ 0
  two_low : (x : ℕ) → x < limit → m2 x ≡ m1 x
  two_high : (x : ℕ) → sp - frame_of routine + 4 * fresh_words routine ≤ x → m2 x ≡ m1 x
  room : limit + routine.locals + frame_of routine ≤ sp

module _ (routine : Routine) (sp limit back : ℕ) (saved : ℕ → ℕ) (m0 m1 m2 : ℕ → ℕ) (h : Memories routine sp limit back saved m0 m1 m2) where
  low_same : (x : ℕ) → x < limit → m2 x ≡ m0 x
  unfolding frame_of
  low_same x lower =
      let room = h.room in
      h.two_low x lower ∙ h.one_same x (inl (omega arith))

  high_same : (x : ℕ) → sp ≤ x → m2 x ≡ m0 x
  unfolding frame_of
  high_same x upper =
      let room = h.room in
      h.two_high x (omega arith) ∙ h.one_same x (inr upper)

  back_same : word_at m2 (sp - 4) ≡ back
  unfolding frame_of
  back_same =
      let room = h.room in
      word_at-same m1 m2 (sp - 4) (λ x lower upper. h.two_high x (omega arith)) ∙ h.one_back

  saved_same : (k : ℕ) → k < 14 → k < routine.registers → saved k < 2 ^ 32 → word_at m2 (place_of routine (sp - frame_of routine) k) ≡ saved k
  unfolding frame_of
  saved_same k few under word =
      let room = h.room in
      let place : place_of routine (sp - frame_of routine) k ≡ sp - (8 + 4 * k) = omega arith in
      word_at-same m1 m2 (place_of routine (sp - frame_of routine) k) (λ x lower upper. h.two_high x (omega arith)) ∙ ap (word_at m1) place ∙ h.one_saved k (omega arith) word

  late_same : (v : ℕ) → v < routine.registers → v < routine.parameters → 14 ≤ v → word_at m2 (place_of routine (sp - frame_of routine) v) ≡ word_at m0 (sp - (8 + 4 * v))
  unfolding frame_of
  late_same v within under over =
      let room = h.room in
      let place : place_of routine (sp - frame_of routine) v ≡ sp - (8 + 4 * v) = omega arith in
      word_at-same m0 m2 (place_of routine (sp - frame_of routine) v) (λ x lower upper. h.two_high x (omega arith) ∙ h.one_same x (inl (omega arith))) ∙ ap (word_at m0) place

  fresh_zero : (v : ℕ) → v < routine.registers → routine.parameters ≤ v → 14 ≤ v → word_at m2 (place_of routine (sp - frame_of routine) v) ≡ 0
  unfolding frame_of
  fresh_zero v under over more =
      let room = h.room in
      word_at-zero m2 (place_of routine (sp - frame_of routine) v) (λ x lower upper. h.two_words x (omega arith) (omega arith))

  -- what the homes have, in registers and in the frame
  begun_by : (homes value : ℕ → ℕ) (v : ℕ) → ((k : ℕ) → k < min routine.registers 14 → homes k ≡ value k) → ((k : ℕ) → k < routine.parameters → 8 ≤ k → word_at m0 (sp - (8 + 4 * k)) ≡ value k) → ((k : ℕ) → routine.parameters ≤ k → value k ≡ 0) → v < routine.registers → held m2 homes routine (sp - frame_of routine) v ≡ value v
  begun_by homes value v early late fresh within =
      elim (cases_lt v 14) [
        | inl less ↦ held_register m2 homes routine (sp - frame_of routine) v less ∙ early v (omega arith)
        | inr more ↦
            elim (cases_lt v routine.parameters) [
              | inl given ↦ held_frame m2 homes routine (sp - frame_of routine) v more ∙ late_same v within given more ∙ late v given (omega arith)
              | inr over ↦ held_frame m2 homes routine (sp - frame_of routine) v more ∙ fresh_zero v within over more ∙ sym (fresh v over)
            ]
      ]

module _ (w : Setting) (law : IsSetting w) where
  -- what comes in memory is there behind the return address too
  comes_saved : (b : State) (r sp : ℕ) (value : ℕ → ℕ) (memory : ℕ → ℕ) (at : ℕ) → ((x : ℕ) → x < sp - 4 → memory x ≡ b.memory x) → frame_in w r ≤ sp → Comes b (routine_in w r) sp value → Comes (stored b b.registers at memory) (routine_in w r) sp value
  unfolding frame_of
  comes_saved b r sp value memory at same room comes =
      let size = sizes w.low r law.valid in
      let inside = size.parameters in
      record {
        early = comes.early;
        late = λ k given late. word_at-same b.memory memory (sp - (8 + 4 * k)) (λ x lower upper. same x (omega arith)) ∙ comes.late k given late;
        fresh = comes.fresh;
        words = comes.words;
      }

  opens : (b : State) (r sp limit back : ℕ) (value : ℕ → ℕ) (at : ℕ) → Sound w b → get_or b.registers 2 0 ≡ sp → get_or b.registers 8 0 ≡ limit → get_or b.registers 1 0 ≡ back → back < 2 ^ 32 → sp % 4 ≡ 0 → w.bottom + frame_in w r ≤ sp → sp ≤ w.top → Comes b (routine_in w r) sp value → Stands w.placing r b.pc ((Plain (Store Sw 2 1 (pos 0 -ℤ pos 4)) ∷ taken (routine_in w r) (min (routine_in w r).registers 14)) ++ sum 2 2 1 (below (frame_in w r))) at → Opens w b r sp limit back value at
  unfolding frame_of
  opens b r sp limit back value at sound sp_is limit_is back_is back_small sp_whole bottom top comes stands =
      let routine = routine_in w r in
      let frame = frame_in w r in
      let low_ = law.low_top in
      let count = min routine.registers 14 in
      let one = split w.placing r b.pc (Plain (Store Sw 2 1 (pos 0 -ℤ pos 4)) ∷ taken routine count) (sum 2 2 1 (below frame)) at stands in
      let begin = plain_first w.placing r b.pc (Store Sw 2 1 (pos 0 -ℤ pos 4)) _ one.middle one.first in
      let first = stores_below w law b 1 sp (sp - 4) (pos 0 -ℤ pos 4) sound sp_is (omega arith) (four_below sp (omega arith) (omega arith)) (omega arith) (omega arith) (omega arith) begin.0 in
      let v = get_or b.registers 1 0 in
      let m1 = with_bytes b.memory (sp - 4) (bytes_low_first 0 4 v) in
      let b1 = stored b b.registers (b.pc + 4) m1 in
      let same1 : (x : ℕ) → (x < sp - 4) ⊎ (sp ≤ x) → m1 x ≡ b.memory x = λ x side. with_bytes-outside b.memory (sp - 4) (bytes_low_first 0 4 v) x (λ lower upper. elim side [ inl under ↦ absurd (omega arith) | inr over ↦ absurd (omega arith) ]) in
      let back1 : word_at m1 (sp - 4) ≡ back = word_at-stored b.memory (sp - 4) v (subst (λ n. n < 2 ^ 32) (sym back_is) back_small) ∙ back_is in
      let comes1 = comes_saved b r sp value m1 (b.pc + 4) (λ x lower. same1 x (inl lower)) (omega arith) comes in
      let second = takes w law count b1 r sp value one.middle first.sound sp_is sp_whole (omega arith) (omega arith) top comes1 begin.1 in
      let b2 = stored b second.registers one.middle second.memory in
      let third = sums w law b2 r 2 2 1 (below frame) at second.sound (omega arith) (omega arith) (omega arith) (omega arith) (omega arith) (omega arith) (down-bounded frame) one.second in
      let b3 = stored b third.registers at second.memory in
      record {
        registers = third.registers;
        memory = second.memory;
        limit_is = third.others 8 (omega arith) (omega arith) ∙ second.low 8 (omega arith) (omega arith) ∙ limit_is;
        sp_is = third.value_is ∙ ap (λ n. (n + below frame) % 2 ^ 32) (second.low 2 (omega arith) (omega arith) ∙ sp_is) ∙ down_by sp frame (omega arith) (omega arith);
        homes = λ k less. third.others (18 + k) (omega arith) (omega arith) ∙ second.homes k less;
        rest = λ k over. third.others (18 + k) (omega arith) (omega arith) ∙ second.rest k over;
        back_is = word_at-same m1 second.memory (sp - 4) (λ x lower upper. second.same x (inr (omega arith))) ∙ back1;
        saved = second.saved;
        same = λ x side. elim side [ inl under ↦ second.same x (inl under) ∙ same1 x (inl (omega arith)) | inr over ↦ second.same x (inr (omega arith)) ∙ same1 x (inr over) ];
        sound = sound_placed w law b2 third.registers at second.sound third.size;
        walk = walk_weaken b b3 (1 + 0 + 1) (1 + 3 * count + 3) 1 (4 + 3 * count) [] (omega arith) (omega arith) (walk_join b b2 b3 (1 + 0) (1 + 3 * count) 1 3 [] [] (walk_join b b1 b2 1 1 0 (3 * count) [] [] first.walk second.walk) third.walk);
      }

  fills : (b : State) (r sp limit at : ℕ) → Sound w b → get_or b.registers 2 0 ≡ sp → get_or b.registers 8 0 ≡ limit → sp % 4 ≡ 0 → limit % 4 ≡ 0 → w.bottom ≤ limit → limit + locals_in w r ≤ sp → sp + 4 * (routine_in w r).registers ≤ w.top → Stands w.placing r b.pc (cleared_registers (routine_in w r) ++ cleared_locals (routine_in w r)) at → Fills w b r sp limit at
  fills b r sp limit at sound sp_is limit_is sp_whole limit_whole bottom room top stands =
      let routine = routine_in w r in
      let parts = split w.placing r b.pc (cleared_registers routine) (cleared_locals routine) at stands in
      let first = zeroes_registers w law b r sp limit parts.middle sound sp_is limit_is sp_whole (omega arith) top parts.first in
      let c = stored b first.registers parts.middle first.memory in
      let second = zeroes_locals w law c r limit at first.sound first.limit_is limit_whole bottom (omega arith) parts.second in
      let d = stored b second.registers at second.memory in
      record {
        registers = second.registers;
        memory = second.memory;
        limit_is = second.limit_is;
        others = λ q eight ten eleven. second.others q eight ten eleven ∙ first.others q eight ten eleven;
        words = λ x lower upper. second.same x (inr (omega arith)) ∙ first.zeros x lower upper;
        locals = second.zeros;
        low = λ x under. second.same x (inl under) ∙ first.same x (inl (omega arith));
        high = λ x over. second.same x (inr (omega arith)) ∙ first.same x (inr over);
        sound = second.sound;
        walk = walk_weaken b d (0 + 0) (4 + 3 * fresh_words routine + (4 + routine.locals)) 0 (8 + 3 * fresh_words routine + routine.locals) [] (omega arith) (omega arith) (walk_join b c d 0 (4 + 3 * fresh_words routine) 0 (4 + routine.locals) [] [] first.walk second.walk);
      }

  head_parts : (r at : ℕ) (end : ℕ) → Stands w.placing r at (head_of (routine_in w r)) end → Split w.placing r at ((Plain (Store Sw 2 1 (pos 0 -ℤ pos 4)) ∷ taken (routine_in w r) (min (routine_in w r).registers 14)) ++ sum 2 2 1 (below (frame_in w r))) (cleared_registers (routine_in w r) ++ cleared_locals (routine_in w r)) end
  unfolding head_of
  head_parts r at end stands =
      let routine = routine_in w r in
      let front = (Plain (Store Sw 2 1 (pos 0 -ℤ pos 4)) ∷ taken routine (min routine.registers 14)) ++ sum 2 2 1 (below (frame_in w r)) in
      split w.placing r at front (cleared_registers routine ++ cleared_locals routine) end (subst (λ items. Stands w.placing r at items end) (append_assoc front (cleared_registers routine) (cleared_locals routine)) stands)

  pub heads : (b : State) (r sp limit back : ℕ) (value : ℕ → ℕ) → Sound w b → r < length w.low.routines → b.pc ≡ w.placing.head r → get_or b.registers 2 0 ≡ sp → get_or b.registers 8 0 ≡ limit → get_or b.registers 1 0 ≡ back → back < 2 ^ 32 → sp % 4 ≡ 0 → limit % 4 ≡ 0 → w.bottom ≤ limit → limit + locals_in w r + frame_in w r ≤ sp → sp ≤ w.top → Comes b (routine_in w r) sp value → Heads w b r sp limit back value
  unfolding frame_of
  heads b r sp limit back value sound exists there sp_is limit_is back_is back_small sp_whole limit_whole bottom room top comes =
      let routine = routine_in w r in
      let frame = frame_in w r in
      let end = w.placing.block r 0 in
      let parts = head_parts r b.pc end (subst (λ n. Stands w.placing r n (head_of routine) end) (sym there) (head_stands w r law exists)) in
      let first = opens b r sp limit back value parts.middle sound sp_is limit_is back_is back_small sp_whole (omega arith) top comes parts.first in
      let c = stored b first.registers parts.middle first.memory in
      let second = fills c r (sp - frame) limit end first.sound first.sp_is first.limit_is (omega arith) limit_whole bottom (omega arith) (omega arith) parts.second in
      let d = stored b second.registers end second.memory in
      let home = λ (k : ℕ). get_or b.registers (18 + k) 0 in
      let memories : Memories routine sp limit back home b.memory first.memory second.memory = record {
        one_back = first.back_is;
        one_saved = first.saved;
        one_same = first.same;
        two_words = second.words;
        two_low = second.low;
        two_high = second.high;
        room = room;
      } in
      let same_home : (k : ℕ) → get_or second.registers (18 + k) 0 ≡ get_or first.registers (18 + k) 0 = λ k. second.others (18 + k) (omega arith) (omega arith) (omega arith) in
      record {
        registers = second.registers;
        memory = second.memory;
        limit_is = second.limit_is;
        sp_is = second.others 2 (omega arith) (omega arith) (omega arith) ∙ first.sp_is;
        low = low_same routine sp limit back home b.memory first.memory second.memory memories;
        locals = second.locals;
        high = high_same routine sp limit back home b.memory first.memory second.memory memories;
        back_is = back_same routine sp limit back home b.memory first.memory second.memory memories;
        begun = λ v within. begun_by routine sp limit back home b.memory first.memory second.memory memories (λ k. get_or second.registers (18 + k) 0) value v (λ k less. same_home k ∙ first.homes k less) comes.late comes.fresh within;
        saved = saved_same routine sp limit back home b.memory first.memory second.memory memories;
        kept = λ k over. same_home k ∙ first.rest k (omega arith);
        sound = second.sound;
        walk = walk_weaken b d (1 + 0) (4 + 3 * min routine.registers 14 + (8 + 3 * fresh_words routine + routine.locals)) 1 (12 + 3 * routine.registers + routine.locals) [] (omega arith) (omega arith) (walk_join b c d 1 (4 + 3 * min routine.registers 14) 0 (8 + 3 * fresh_words routine + routine.locals) [] [] first.walk second.walk);
      }
