-- The loop of one store that puts zeros in memory.
use Rattle.std.proofs.Common.{◌≡◌, ◌≢◌, ℕ, pos, zero, suc, ◌+◌, ◌-◌, ◌*◌, ◌%◌, ◌^◌, ◌-ℤ◌, ◌<◌, ◌≤◌, ◌⊎◌, inl, inr, Bool, true, false, not, cond, nat_eq, List, [], length, get_or, refl, ap, ap₂, sym, subst, ◌∙◌, arith}
use Rattle.std.proofs.lemmas.Int.{ints}
use Rattle.std.proofs.lemmas.Bool.{cases_lt, cond-true}
use Rattle.std.proofs.lemmas.Bool.Decides.{nat_tests}
use Rattle.std.specs.Int.{bytes_low_first}
use Rattle.op_rv.proofs.Memory.{can_access_word, four-bounded, with_bytes-outside, with_bytes-within, zero_bytes}
use Rattle.op_rv.specs.Operation.{word_from, branch_taken}
use Rattle.op_rv.specs.State.{State, register, advanced, faulted, with_bytes}
use Rattle.op_rv.specs.Step.{act, store, can_access, offset_from}
use Rattle.op_rv.specs.declared.fault.FaultKind.TheVariants.{Store as StoreFault}
use Rattle.op_rv.specs.declared.instruction.BranchOp.TheVariants.{Bne}
use Rattle.op_rv.specs.declared.instruction.ImmOp.TheVariants.{Addi}
use Rattle.op_rv.specs.declared.instruction.StoreOp.TheVariants.{Sw}
use Rattle.op_rv.specs.declared.instruction.Instr.TheVariants.{Branch, Imm, Store}
use Rattle.op_select.specs.Frames.{cleared}
use Rattle.op_select.specs.Going.{Setting, IsSetting, Sound}
use Rattle.op_select.specs.Placing.{Stands}
use Rattle.op_select.specs.RiscvMachine.{instr_shows}
use Rattle.op_select.proofs.FrameLemmas.{sound_stored}
use Rattle.op_select.proofs.TransferLemmas.{branches}
use Rattle.op_select.proofs.Walks.{Walk, walk_join, walk_weaken, walk_step, advanced_pc, placed, sound_placed, becomes, register_is, plain_first, nothing_more}
use Rattle.op_select.proofs.WordLemmas.{no_distance}

-- a state with other memory
abbrev pub stored : State → List ℕ → ℕ → (ℕ → ℕ) → State
stored b registers at memory = record b { registers = registers; pc = at; memory = memory }

-- so many words from an address on have become zeros
pub record Clears (w : Setting) (b : State) (a words from at : ℕ) : Type 0 where
  pub registers : List ℕ
  pub memory : ℕ → ℕ
  pub others : (q : ℕ) → q ≢ from → get_or registers q 0 ≡ get_or b.registers q 0
  pub zeros : (x : ℕ) → a ≤ x → x < a + 4 * words → memory x ≡ 0
  pub same : (x : ℕ) → (x < a) ⊎ (a + 4 * words ≤ x) → memory x ≡ b.memory x
  pub sound : Sound w (stored b registers at memory)
  pub walk : Walk b (stored b registers at memory) 1 (3 * words) []

-- four more, and eight back
four_more : (a : ℕ) → a + 4 < 2 ^ 32 → (a + word_from (pos 4)) % 2 ^ 32 ≡ a + 4
four_more a small = omega (arith, ints)

eight_back : (a : ℕ) → a + 8 < 2 ^ 32 → (a + 8 + word_from (pos 0 -ℤ pos 8)) % 2 ^ 32 ≡ a
eight_back a small = omega (arith, ints)

-- what one pass does
record Pass (w : Setting) (b : State) (a from at : ℕ) : Type 0 where
  registers : List ℕ
  size : length registers ≡ 32
  next : get_or registers from 0 ≡ a + 4
  others : (q : ℕ) → q ≢ from → get_or registers q 0 ≡ get_or b.registers q 0
  sound : Sound w (stored b registers at (with_bytes b.memory a (bytes_low_first 0 4 0)))
  walk : Walk b (stored b registers at (with_bytes b.memory a (bytes_low_first 0 4 0))) 3 3 []

module _ (w : Setting) (law : IsSetting w) where
  pass : (b : State) (r from until a end : ℕ) (taken : Bool) → Sound w b → from ≢ 0 → from < 32 → until ≢ 0 → until ≢ from → get_or b.registers from 0 ≡ a → a + 4 < 2 ^ 32 → a % 4 ≡ 0 → ((x : ℕ) → a ≤ x → x < a + 4 → w.rights.writable x ≡ true) → nat_eq (a + 4) (get_or b.registers until 0) ≡ not taken → Stands w.placing r b.pc (cleared from until) end → Pass w b a from (cond taken b.pc end)
  unfolding act store instr_shows
  pass b r from until a end taken sound from_some from_small until_some apart from_is small whole writable test stands =
      let first = plain_first w.placing r b.pc (Store Sw from 0 (pos 0)) _ end stands in
      let second = plain_first w.placing r (b.pc + 4) (Imm Addi from from (pos 4)) _ end first.1 in
      let third = plain_first w.placing r (b.pc + 4 + 4) (Branch Bne from until (pos 0 -ℤ pos 8)) _ end second.1 in
      let there = nothing_more w.placing r (b.pc + 4 + 4 + 4) end third.1 in
      let low = law.objects.low b.pc (Store Sw from 0 (pos 0)) first.0 in
      let memory = with_bytes b.memory a (bytes_low_first 0 4 0) in
      let from_b : register b from ≡ a = register_is b from from_some ∙ from_is in
      let address : offset_from (register b from) (pos 0) ≡ a = ap (λ n. offset_from n (pos 0)) from_b ∙ no_distance a (omega arith) in
      let may : can_access b.rights.writable a 4 ≡ true = can_access_word b.rights.writable a whole (λ x lower upper. subst (λ rights. rights.writable x ≡ true) (sym sound.rights) (writable x lower upper)) in
      let done = ap (λ n. store Sw 0 n b) address ∙ cond-true (can_access b.rights.writable a 4) (advanced (record b { memory = memory })) (faulted StoreFault b) may ∙ ap (λ n. stored b b.registers n memory) (advanced_pc w law b (Store Sw from 0 (pos 0)) first.0) in
      let c = stored b b.registers (b.pc + 4) memory in
      let one = walk_step w law b c (Store Sw from 0 (pos 0)) [] sound first.0 refl done in
      let sound_c = sound_stored w law b b.registers (b.pc + 4) a (bytes_low_first 0 4 0) sound sound.size (four-bounded 0) writable in
      let added = becomes w law c (Imm Addi from from (pos 4)) from ((register c from + word_from (pos 4)) % 2 ^ 32) sound_c second.0 from_some from_small refl refl in
      let next : get_or added.registers from 0 ≡ a + 4 = added.value_is ∙ ap (λ n. (n + word_from (pos 4)) % 2 ^ 32) (register_is c from from_some ∙ from_is) ∙ four_more a small in
      let d = placed c added.registers (b.pc + 4 + 4) in
      let sound_d = sound_placed w law c added.registers (b.pc + 4 + 4) sound_c added.size in
      let tells : branch_taken Bne (register d from) (register d until) ≡ taken = ap₂ (λ x y. not (nat_eq x y)) (register_is d from from_some ∙ next) (register_is d until until_some ∙ added.others until apart apart) ∙ ap not test ∙ twice taken in
      let last = branches w law d Bne from until (pos 0 -ℤ pos 8) taken sound_d tells third.0 in
      let eight : b.pc + 4 + 4 ≡ b.pc + 8 = omega arith in
      let back : offset_from (b.pc + 4 + 4) (pos 0 -ℤ pos 8) ≡ b.pc = ap (λ n. offset_from n (pos 0 -ℤ pos 8)) eight ∙ eight_back b.pc (omega arith) in
      let at : cond taken (offset_from (b.pc + 4 + 4) (pos 0 -ℤ pos 8)) (b.pc + 4 + 4 + 4) ≡ cond taken b.pc end = ap₂ (cond taken) back there in
      let last' = subst (λ n. Walk d (placed d added.registers n) 1 1 []) at last in
      record {
        registers = added.registers;
        size = added.size;
        next = next;
        others = λ q other. added.others q other other;
        sound = sound_placed w law c added.registers (cond taken b.pc end) sound_c added.size;
        walk = walk_join b d (placed d added.registers (cond taken b.pc end)) 2 2 1 1 [] [] (walk_join b c d 1 1 1 1 [] [] one added.walk) last';
      }
    where
      twice : (t : Bool) → not (not t) ≡ t
      twice true = refl
      twice false = refl

  pub clears : (k : ℕ) (b : State) (r from until a end : ℕ) → Sound w b → from ≢ 0 → from < 32 → until ≢ 0 → until ≢ from → get_or b.registers from 0 ≡ a → get_or b.registers until 0 ≡ a + 4 * suc k → a + 4 * suc k < 2 ^ 32 → a % 4 ≡ 0 → ((x : ℕ) → a ≤ x → x < a + 4 * suc k → w.rights.writable x ≡ true) → Stands w.placing r b.pc (cleared from until) end → Clears w b a (suc k) from end
  clears zero b r from until a end sound from_some from_small until_some apart from_is until_is small whole writable stands =
      let one = pass b r from until a end false sound from_some from_small until_some apart from_is (omega arith) whole (λ x lower upper. writable x lower (omega arith)) (ap (nat_eq (a + 4)) until_is ∙ equal) stands in
      record {
        registers = one.registers;
        memory = with_bytes b.memory a (bytes_low_first 0 4 0);
        others = one.others;
        zeros = λ x lower upper. with_bytes-within b.memory a (bytes_low_first 0 4 0) x lower (omega arith) ∙ zero_bytes (x - a);
        same = λ x side. with_bytes-outside b.memory a (bytes_low_first 0 4 0) x (λ lower upper. elim side [ inl under ↦ absurd (omega arith) | inr over ↦ absurd (omega arith) ]);
        sound = one.sound;
        walk = walk_weaken b _ 3 3 1 (3 * 1) [] (omega arith) (omega arith) one.walk;
      }
    where
      equal : nat_eq (a + 4) (a + 4 * 1) ≡ true
      equal = grind (arith, nat_tests)
  clears (suc k) b r from until a end sound from_some from_small until_some apart from_is until_is small whole writable stands =
      let test : nat_eq (a + 4) (a + 4 * suc (suc k)) ≡ false = grind (arith, nat_tests) in
      let one = pass b r from until a end true sound from_some from_small until_some apart from_is (omega arith) whole (λ x lower upper. writable x lower (omega arith)) (ap (nat_eq (a + 4)) until_is ∙ test) stands in
      let memory = with_bytes b.memory a (bytes_low_first 0 4 0) in
      let c = stored b one.registers b.pc memory in
      let next : a + 4 * suc (suc k) ≡ a + 4 + 4 * suc k = omega arith in
      let more = clears k c r from until (a + 4) end one.sound from_some from_small until_some apart one.next (one.others until apart ∙ until_is ∙ next) (omega arith) (omega arith) (λ x lower upper. writable x (omega arith) (omega arith)) stands in
      record {
        registers = more.registers;
        memory = more.memory;
        others = λ q other. more.others q other ∙ one.others q other;
        zeros = λ x lower upper.
            elim (cases_lt x (a + 4)) [
              | inl here ↦ more.same x (inl here) ∙ with_bytes-within b.memory a (bytes_low_first 0 4 0) x lower (omega arith) ∙ zero_bytes (x - a)
              | inr later ↦ more.zeros x (omega arith) (omega arith)
            ];
        same = λ x side.
            elim side [
              | inl under ↦ more.same x (inl (omega arith)) ∙ with_bytes-outside b.memory a (bytes_low_first 0 4 0) x (λ lower upper. absurd (omega arith))
              | inr over ↦ more.same x (inr (omega arith)) ∙ with_bytes-outside b.memory a (bytes_low_first 0 4 0) x (λ lower upper. absurd (omega arith))
            ];
        sound = more.sound;
        walk = walk_weaken b (stored b more.registers end more.memory) 4 (3 + 3 * suc k) 1 (3 * suc (suc k)) [] (omega arith) (omega arith) (walk_join b c (stored b more.registers end more.memory) 3 3 1 (3 * suc k) [] [] one.walk more.walk);
      }
