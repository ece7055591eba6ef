-- Homes of the caller: the words below sp to which they are saved, and from which they come back.
use Rattle.std.proofs.Common.{◌≡◌, ◌≢◌, ℕ, ℤ, pos, zero, suc, ◌+◌, ◌-◌, ◌*◌, ◌%◌, ◌^◌, ◌-ℤ◌, ◌<◌, ◌≤◌, inl, inr, true, Some, List, [], length, get_or, refl, ap, sym, subst, ◌∙◌, arith}
use Rattle.std.proofs.lemmas.Bool.{cases_lt, cond-true}
use Rattle.std.proofs.lemmas.Int.{ints}
use Rattle.std.specs.Int.{bytes_low_first}
use Rattle.op_rv.proofs.Memory.{can_access_word, four-bounded}
use Rattle.op_rv.specs.Operation.{word_from}
use Rattle.op_rv.specs.State.{State, register, with_register, advanced, faulted, with_bytes, word_at}
use Rattle.op_rv.specs.Step.{act, load, store, can_access, offset_from}
use Rattle.op_rv.specs.declared.fault.FaultKind.TheVariants.{Load as LoadFault, Store as StoreFault}
use Rattle.op_rv.specs.declared.instruction.LoadOp.TheVariants.{Lw}
use Rattle.op_rv.specs.declared.instruction.StoreOp.TheVariants.{Sw}
use Rattle.op_rv.specs.declared.instruction.Instr.TheVariants.{Load, Store}
use Rattle.op_select.specs.Frames.{given_back}
use Rattle.op_select.specs.Going.{Setting, IsSetting, Sound}
use Rattle.op_select.specs.Placing.{Stands}
use Rattle.op_select.specs.RiscvMachine.{instr_shows}
use Rattle.op_select.proofs.ClearLemmas.{stored}
use Rattle.op_select.proofs.FrameLemmas.{sound_stored}
use Rattle.op_select.proofs.Walks.{Walk, walk_none, walk_join, walk_weaken, walk_step, advanced_pc, placed, sound_placed, Becomes, becomes, register_is, plain_first, split, nothing_more}

pub four_below : (x : ℕ) → 4 ≤ x → x < 2 ^ 32 → (x + word_from (pos 0 -ℤ pos 4)) % 2 ^ 32 ≡ x - 4
four_below x most small = omega (arith, ints)

word_below : (d : ℕ) → 0 < d → d < 2 ^ 31 → word_from (pos 0 -ℤ pos d) ≡ 2 ^ 32 - d
word_below d some small = omega (arith, ints)

pub home_below : (sp k : ℕ) → k < 14 → 4 * k + 8 ≤ sp → sp < 2 ^ 32 → (sp + word_from (pos 0 -ℤ pos (4 * k + 8))) % 2 ^ 32 ≡ sp - (8 + 4 * k)
home_below sp k few fits small =
    let is = word_below (4 * k + 8) (omega arith) (omega arith) in
    omega arith

-- a register has been stored
pub record StoresBelow (w : Setting) (b : State) (q a : ℕ) : Type 0 where
  pub sound : Sound w (stored b b.registers (b.pc + 4) (with_bytes b.memory a (bytes_low_first 0 4 (get_or b.registers q 0))))
  pub walk : Walk b (stored b b.registers (b.pc + 4) (with_bytes b.memory a (bytes_low_first 0 4 (get_or b.registers q 0)))) 1 1 []

-- so many homes have come back
pub record GivesBack (b : State) (sp n at : ℕ) : Type 0 where
  pub registers : List ℕ
  pub size : length registers ≡ 32
  pub homes : (k : ℕ) → k < n → get_or registers (18 + k) 0 ≡ word_at b.memory (sp - (8 + 4 * k))
  pub rest : (k : ℕ) → n ≤ k → get_or registers (18 + k) 0 ≡ get_or b.registers (18 + k) 0
  pub low : (q : ℕ) → q < 18 → get_or registers q 0 ≡ get_or b.registers q 0
  pub walk : Walk b (placed b registers at) 0 n []

module _ (w : Setting) (law : IsSetting w) where
  pub stores_below : (b : State) (q sp a : ℕ) (offset : ℤ) → Sound w b → get_or b.registers 2 0 ≡ sp → q ≢ 0 → (sp + word_from offset) % 2 ^ 32 ≡ a → a % 4 ≡ 0 → w.bottom ≤ a → a + 4 ≤ w.top → w.placing.code b.pc ≡ Some (Store Sw 2 q offset) → StoresBelow w b q a
  unfolding act store instr_shows
  stores_below b q sp a offset sound sp_is some place aligned bottom top stands =
      let i = Store Sw 2 q offset in
      let v = get_or b.registers q 0 in
      let after : ℕ → State = λ n. record b { memory = with_bytes b.memory a (bytes_low_first 0 4 n) } in
      let address : offset_from (register b 2) offset ≡ a = ap (λ n. offset_from n offset) sp_is ∙ place in
      let writable : (x : ℕ) → a ≤ x → x < a + 4 → w.rights.writable x ≡ true = λ x lower upper. law.writable x (omega arith) (omega arith) in
      let may : can_access b.rights.writable a 4 ≡ true = can_access_word b.rights.writable a aligned (λ x lower upper. subst (λ rights. rights.writable x ≡ true) (sym sound.rights) (writable x lower upper)) in
      let done = ap (λ n. store Sw (register b q) n b) address ∙ cond-true (can_access b.rights.writable a 4) (advanced (after (register b q))) (faulted StoreFault b) may ∙ ap (λ n. advanced (after n)) (register_is b q some) ∙ ap (λ n. record (after v) { pc = n }) (advanced_pc w law b i stands) in
      record {
        sound = sound_stored w law b b.registers (b.pc + 4) a (bytes_low_first 0 4 v) sound sound.size (four-bounded v) writable;
        walk = walk_step w law b (record (after v) { pc = b.pc + 4 }) i [] sound stands refl done;
      }

  pub loads_below : (b : State) (to sp a : ℕ) (offset : ℤ) → Sound w b → get_or b.registers 2 0 ≡ sp → to ≢ 0 → to < 32 → (sp + word_from offset) % 2 ^ 32 ≡ a → a % 4 ≡ 0 → w.bottom ≤ a → a + 4 ≤ w.top → w.placing.code b.pc ≡ Some (Load Lw to 2 offset) → Becomes b to to (word_at b.memory a) (b.pc + 4) 1 1
  unfolding act load instr_shows
  loads_below b to sp a offset sound sp_is some small place aligned bottom top stands =
      let address : offset_from (register b 2) offset ≡ a = ap (λ n. offset_from n offset) sp_is ∙ place in
      let may : can_access b.rights.readable a 4 ≡ true = can_access_word b.rights.readable a aligned (λ x from before. subst (λ rights. rights.readable x ≡ true) (sym sound.rights) (law.readable x (omega arith) (omega arith))) in
      let done = ap (λ n. load Lw to n b) address ∙ cond-true (can_access b.rights.readable a 4) (advanced (with_register b to (word_at b.memory a))) (faulted LoadFault b) may in
      becomes w law b (Load Lw to 2 offset) to (word_at b.memory a) sound stands some small refl done

  pub gives_back : (n : ℕ) (b : State) (r sp at : ℕ) → Sound w b → get_or b.registers 2 0 ≡ sp → sp % 4 ≡ 0 → n ≤ 14 → w.bottom + 4 * n + 4 ≤ sp → sp ≤ w.top → Stands w.placing r b.pc (given_back n) at → GivesBack b sp n at
  unfolding given_back
  gives_back zero b r sp at sound sp_is whole few bottom top stands =
      let there = nothing_more w.placing r b.pc at stands in
      record {
        registers = b.registers;
        size = sound.size;
        homes = λ k none. absurd (omega arith);
        rest = λ k over. refl;
        low = λ q less. refl;
        walk = subst (λ n. Walk b (placed b b.registers n) 0 0 []) there (walk_none b);
      }
  gives_back (suc n) b r sp at sound sp_is whole few bottom top stands =
      let low_ = law.low_top in
      let parts = split w.placing r b.pc (given_back n) _ at stands in
      let first = gives_back n b r sp parts.middle sound sp_is whole (omega arith) (omega arith) top parts.first in
      let c = placed b first.registers parts.middle in
      let sound_c = sound_placed w law b first.registers parts.middle sound first.size in
      let last = plain_first w.placing r parts.middle (Load Lw (18 + n) 2 (pos 0 -ℤ pos (4 * n + 8))) _ at parts.second in
      let there = nothing_more w.placing r (parts.middle + 4) at last.1 in
      let a = sp - (8 + 4 * n) in
      let made = loads_below c (18 + n) sp a (pos 0 -ℤ pos (4 * n + 8)) sound_c (first.low 2 (omega arith) ∙ sp_is) (omega arith) (omega arith) (home_below sp n (omega arith) (omega arith) (omega arith)) (omega arith) (omega arith) (omega arith) last.0 in
      let walk = walk_join b c (placed b made.registers (parts.middle + 4)) 0 n 1 1 [] [] first.walk made.walk in
      record {
        registers = made.registers;
        size = made.size;
        homes = λ k less.
            elim (cases_lt k n) [
              | inl lower ↦ made.others (18 + k) (omega arith) (omega arith) ∙ first.homes k lower
              | inr upper ↦
                  let is : k ≡ n = omega arith in
                  ap (λ j. get_or made.registers (18 + j) 0) is ∙ made.value_is ∙ ap (λ j. word_at b.memory (sp - (8 + 4 * j))) (sym is)
            ];
        rest = λ k over. made.others (18 + k) (omega arith) (omega arith) ∙ first.rest k (omega arith);
        low = λ q less. made.others q (omega arith) (omega arith) ∙ first.low q less;
        walk = walk_weaken b (placed b made.registers at) 1 (n + 1) 0 (suc n) [] (omega arith) (omega arith) (subst (λ x. Walk b (placed b made.registers x) (0 + 1) (n + 1) []) there walk);
      }
