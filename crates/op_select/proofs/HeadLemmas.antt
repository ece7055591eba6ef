-- The head of a routine, stage by stage.
use Rattle.std.proofs.Common.{◌≡◌, ◌≢◌, ℕ, pos, zero, suc, ◌+◌, ◌-◌, ◌*◌, ◌/◌, ◌%◌, ◌^◌, ◌-ℤ◌, ◌<◌, ◌≤◌, ◌⊎◌, inl, inr, Bool, true, false, cond, nat_eq, nat_le, nat_lt, List, [], ◌∷◌, ◌++◌, length, get_or, refl, ap, sym, subst, ◌∙◌, arith}
use Rattle.std.proofs.lemmas.Bool.{cases_lt, leb-true, ltb-false, ltb-true}
use Rattle.std.proofs.lemmas.Bool.Decides.{nat_tests}
use Rattle.std.specs.Int.{bytes_low_first}
use Rattle.op_low.specs.declared.code.Routine.{Routine}
use Rattle.op_rv.proofs.Memory.{with_bytes-outside, word_at-same, word_at-stored}
use Rattle.op_rv.specs.Operation.{word_from}
use Rattle.op_rv.specs.State.{State, register, with_bytes, word_at}
use Rattle.op_rv.specs.Step.{act}
use Rattle.op_rv.specs.declared.instruction.ImmOp.TheVariants.{Addi}
use Rattle.op_rv.specs.declared.instruction.LoadOp.TheVariants.{Lw}
use Rattle.op_rv.specs.declared.instruction.StoreOp.TheVariants.{Sw}
use Rattle.op_rv.specs.declared.instruction.Instr.TheVariants.{Imm, Load, Store}
use Rattle.op_rv.specs.declared.objects.Item.TheVariants.{Plain}
use Rattle.op_select.specs.Frames.{cleared, cleared_locals, cleared_registers, fresh_words, taken, taken_from, taken_one}
use Rattle.op_select.specs.Going.{Setting, IsSetting, routine_in, locals_in, Sound}
use Rattle.op_select.specs.Placing.{Stands}
use Rattle.op_select.specs.RiscvMachine.{instr_shows}
use Rattle.op_select.specs.Sequences.{sum}
use Rattle.op_select.proofs.ClearLemmas.{stored, Clears, clears}
use Rattle.op_select.proofs.FrameLemmas.{sizes}
use Rattle.op_select.proofs.SavingLemmas.{home_below, loads_below, stores_below}
use Rattle.op_select.proofs.SequenceLemmas.{sums}
use Rattle.op_select.proofs.Walks.{Walk, walk_none, walk_join, walk_weaken, placed, sound_placed, becomes, register_is, plain_first, split, nothing_more}
use Rattle.op_select.proofs.WordLemmas.{no_distance}

-- what the registers of a routine begin with, and where it comes
pub record Comes (b : State) (routine : Routine) (sp : ℕ) (value : ℕ → ℕ) : Type 0 where
  pub early : (k : ℕ) → k < routine.parameters → k < 8 → get_or b.registers (10 + k) 0 ≡ value k
  pub late : (k : ℕ) → k < routine.parameters → 8 ≤ k → word_at b.memory (sp - (8 + 4 * k)) ≡ value k
  pub fresh : (k : ℕ) → routine.parameters ≤ k → value k ≡ 0
  pub words : (k : ℕ) → value k < 2 ^ 32

-- one home has been taken from the caller
record TakesOne (w : Setting) (b : State) (sp k v most at : ℕ) : Type 0 where
  registers : List ℕ
  size : length registers ≡ 32
  home_is : get_or registers (18 + k) 0 ≡ v
  others : (q : ℕ) → q ≢ 10 → q ≢ 18 + k → get_or registers q 0 ≡ get_or b.registers q 0
  argument : k < 8 → get_or registers 10 0 ≡ get_or b.registers 10 0
  sound : Sound w (stored b registers at (with_bytes b.memory (sp - (8 + 4 * k)) (bytes_low_first 0 4 (get_or b.registers (18 + k) 0))))
  walk : Walk b (stored b registers at (with_bytes b.memory (sp - (8 + 4 * k)) (bytes_low_first 0 4 (get_or b.registers (18 + k) 0)))) 0 most []

-- so many homes have been taken
pub record Takes (w : Setting) (b : State) (sp n : ℕ) (value : ℕ → ℕ) (at : ℕ) : Type 0 where
  pub registers : List ℕ
  pub memory : ℕ → ℕ
  pub size : length registers ≡ 32
  pub homes : (k : ℕ) → k < n → get_or registers (18 + k) 0 ≡ value k
  pub rest : (k : ℕ) → n ≤ k → get_or registers (18 + k) 0 ≡ get_or b.registers (18 + k) 0
  pub low : (q : ℕ) → q < 18 → q ≢ 10 → get_or registers q 0 ≡ get_or b.registers q 0
  pub argument : n ≤ 8 → get_or registers 10 0 ≡ get_or b.registers 10 0
  pub saved : (k : ℕ) → k < n → get_or b.registers (18 + k) 0 < 2 ^ 32 → word_at memory (sp - (8 + 4 * k)) ≡ get_or b.registers (18 + k) 0
  pub same : (x : ℕ) → (x + (4 * n + 4) < sp) ⊎ (sp ≤ x + 4) → memory x ≡ b.memory x
  pub sound : Sound w (stored b registers at memory)
  pub walk : Walk b (stored b registers at memory) 0 (3 * n) []

-- a stretch of memory is zeros
pub record Zeroes (w : Setting) (b : State) (a bytes limit at most : ℕ) : Type 0 where
  pub registers : List ℕ
  pub memory : ℕ → ℕ
  pub limit_is : get_or registers 8 0 ≡ limit
  pub others : (q : ℕ) → q ≢ 8 → q ≢ 10 → q ≢ 11 → get_or registers q 0 ≡ get_or b.registers q 0
  pub zeros : (x : ℕ) → a ≤ x → x < a + bytes → memory x ≡ 0
  pub same : (x : ℕ) → (x < a) ⊎ (a + bytes ≤ x) → memory x ≡ b.memory x
  pub sound : Sound w (stored b registers at memory)
  pub walk : Walk b (stored b registers at memory) 0 most []

module _ (w : Setting) (law : IsSetting w) where
  clears_some : (words : ℕ) (b : State) (r from until a end : ℕ) → 0 < words → Sound w b → from ≢ 0 → from < 32 → until ≢ 0 → until ≢ from → get_or b.registers from 0 ≡ a → get_or b.registers until 0 ≡ a + 4 * words → a + 4 * words < 2 ^ 32 → a % 4 ≡ 0 → ((x : ℕ) → a ≤ x → x < a + 4 * words → w.rights.writable x ≡ true) → Stands w.placing r b.pc (cleared from until) end → Clears w b a words from end
  clears_some zero b r from until a end some sound from_some from_small until_some apart from_is until_is small whole writable stands = absurd (omega arith)
  clears_some (suc k) b r from until a end some sound from_some from_small until_some apart from_is until_is small whole writable stands =
      clears w law k b r from until a end sound from_some from_small until_some apart from_is until_is small whole writable stands

  -- ---- homes

  takes_from : (b : State) (r sp k source v at : ℕ) → Sound w b → get_or b.registers 2 0 ≡ sp → sp % 4 ≡ 0 → k < 14 → w.bottom + 4 * k + 8 ≤ sp → sp ≤ w.top → register b source ≡ v → v < 2 ^ 32 → Stands w.placing r b.pc (taken_from k source) at → TakesOne w b sp k v 2 at
  unfolding act instr_shows
  takes_from b r sp k source v at sound sp_is whole few bottom top source_is fits stands =
      let low = law.low_top in
      let a = sp - (8 + 4 * k) in
      let x = get_or b.registers (18 + k) 0 in
      let memory = with_bytes b.memory a (bytes_low_first 0 4 x) in
      let first = plain_first w.placing r b.pc (Store Sw 2 (18 + k) (pos 0 -ℤ pos (4 * k + 8))) _ at stands in
      let put = stores_below w law b (18 + k) sp a (pos 0 -ℤ pos (4 * k + 8)) sound sp_is (omega arith) (home_below sp k few (omega arith) (omega arith)) (omega arith) (omega arith) (omega arith) first.0 in
      let c = stored b b.registers (b.pc + 4) memory in
      let second = plain_first w.placing r c.pc (Imm Addi (18 + k) source (pos 0)) _ at first.1 in
      let made = becomes w law c (Imm Addi (18 + k) source (pos 0)) (18 + k) ((register c source + word_from (pos 0)) % 2 ^ 32) put.sound second.0 (omega arith) (omega arith) refl refl in
      let there = nothing_more w.placing r (c.pc + 4) at second.1 in
      record {
        registers = made.registers;
        size = made.size;
        home_is = made.value_is ∙ ap (λ n. (n + word_from (pos 0)) % 2 ^ 32) source_is ∙ no_distance v fits;
        others = λ q ten other. made.others q other other;
        argument = λ early. made.others 10 (omega arith) (omega arith);
        sound = sound_placed w law c made.registers at put.sound made.size;
        walk = walk_weaken b (placed c made.registers at) 2 2 0 2 [] (omega arith) (omega arith) (subst (λ n. Walk b (placed c made.registers n) 2 2 []) there (walk_join b c (placed c made.registers (c.pc + 4)) 1 1 1 1 [] [] put.walk made.walk));
      }

  takes_late : (b : State) (r sp k v at : ℕ) → Sound w b → get_or b.registers 2 0 ≡ sp → sp % 4 ≡ 0 → k < 14 → 8 ≤ k → w.bottom + 4 * k + 8 ≤ sp → sp ≤ w.top → word_at b.memory (sp - (8 + 4 * k)) ≡ v → v < 2 ^ 32 → Stands w.placing r b.pc (Plain (Load Lw 10 2 (pos 0 -ℤ pos (4 * k + 8))) ∷ taken_from k 10) at → TakesOne w b sp k v 3 at
  takes_late b r sp k v at sound sp_is whole few late bottom top word_is fits stands =
      let low = law.low_top in
      let a = sp - (8 + 4 * k) in
      let first = plain_first w.placing r b.pc (Load Lw 10 2 (pos 0 -ℤ pos (4 * k + 8))) _ at stands in
      let made = loads_below w law b 10 sp a (pos 0 -ℤ pos (4 * k + 8)) sound sp_is (omega arith) (omega arith) (home_below sp k few (omega arith) (omega arith)) (omega arith) (omega arith) (omega arith) first.0 in
      let c = placed b made.registers (b.pc + 4) in
      let sound_c = sound_placed w law b made.registers (b.pc + 4) sound made.size in
      let same : get_or made.registers (18 + k) 0 ≡ get_or b.registers (18 + k) 0 = made.others (18 + k) (omega arith) (omega arith) in
      let more = takes_from c r sp k 10 v at sound_c (made.others 2 (omega arith) (omega arith) ∙ sp_is) whole few bottom top (made.value_is ∙ word_is) fits first.1 in
      let after : ℕ → State = λ n. stored b more.registers at (with_bytes b.memory a (bytes_low_first 0 4 n)) in
      record {
        registers = more.registers;
        size = more.size;
        home_is = more.home_is;
        others = λ q ten other. more.others q ten other ∙ made.others q ten ten;
        argument = λ early. absurd (omega arith);
        sound = subst (λ n. Sound w (after n)) same more.sound;
        walk = walk_weaken b (after (get_or b.registers (18 + k) 0)) 1 3 0 3 [] (omega arith) (omega arith) (walk_join b c (after (get_or b.registers (18 + k) 0)) 1 1 0 2 [] [] made.walk (subst (λ n. Walk c (after n) 0 2 []) same more.walk));
      }

  takes_three : (b : State) (sp k v at : ℕ) → TakesOne w b sp k v 2 at → TakesOne w b sp k v 3 at
  takes_three b sp k v at one =
      record {
        registers = one.registers;
        size = one.size;
        home_is = one.home_is;
        others = one.others;
        argument = one.argument;
        sound = one.sound;
        walk = walk_weaken b (stored b one.registers at (with_bytes b.memory (sp - (8 + 4 * k)) (bytes_low_first 0 4 (get_or b.registers (18 + k) 0)))) 0 2 0 3 [] (omega arith) (omega arith) one.walk;
      }

  takes_one : (b : State) (routine : Routine) (r sp k v at : ℕ) (none early : Bool) → nat_le routine.parameters k ≡ none → nat_lt k 8 ≡ early → Sound w b → get_or b.registers 2 0 ≡ sp → sp % 4 ≡ 0 → k < 14 → w.bottom + 4 * k + 8 ≤ sp → sp ≤ w.top → (routine.parameters ≤ k → v ≡ 0) → (k < routine.parameters → k < 8 → get_or b.registers (10 + k) 0 ≡ v) → (k < routine.parameters → 8 ≤ k → word_at b.memory (sp - (8 + 4 * k)) ≡ v) → v < 2 ^ 32 → Stands w.placing r b.pc (cond none (taken_from k 0) (cond early (taken_from k (10 + k)) (Plain (Load Lw 10 2 (pos 0 -ℤ pos (4 * k + 8))) ∷ taken_from k 10))) at → TakesOne w b sp k v 3 at
  takes_one b routine r sp k v at true early test tested sound sp_is whole few bottom top fresh soon late fits stands =
      takes_three b sp k v at (takes_from b r sp k 0 v at sound sp_is whole few bottom top (sym (fresh (leb-true routine.parameters k test))) fits stands)
  takes_one b routine r sp k v at false true test tested sound sp_is whole few bottom top fresh soon late fits stands =
      let given : k < routine.parameters = grind (arith, nat_tests) in
      let first = ltb-true k 8 tested in
      takes_three b sp k v at (takes_from b r sp k (10 + k) v at sound sp_is whole few bottom top (register_is b (10 + k) (omega arith) ∙ soon given first) fits stands)
  takes_one b routine r sp k v at false false test tested sound sp_is whole few bottom top fresh soon late fits stands =
      let given : k < routine.parameters = grind (arith, nat_tests) in
      let ninth = ltb-false k 8 tested in
      takes_late b r sp k v at sound sp_is whole few ninth bottom top (late given ninth) fits stands

  pub takes : (n : ℕ) (b : State) (r sp : ℕ) (value : ℕ → ℕ) (at : ℕ) → Sound w b → get_or b.registers 2 0 ≡ sp → sp % 4 ≡ 0 → n ≤ 14 → w.bottom + 4 * n + 4 ≤ sp → sp ≤ w.top → Comes b (routine_in w r) sp value → Stands w.placing r b.pc (taken (routine_in w r) n) at → Takes w b sp n value at
  unfolding taken taken_one
  takes zero b r sp value at sound sp_is whole few bottom top comes stands =
      let there = nothing_more w.placing r b.pc at stands in
      record {
        registers = b.registers;
        memory = b.memory;
        size = sound.size;
        homes = λ k none. absurd (omega arith);
        rest = λ k over. refl;
        low = λ q less other. refl;
        argument = λ few. refl;
        saved = λ k none word. absurd (omega arith);
        same = λ x side. refl;
        sound = sound_placed w law b b.registers at sound sound.size;
        walk = subst (λ n. Walk b (placed b b.registers n) 0 0 []) there (walk_none b);
      }
  takes (suc n) b r sp value at sound sp_is whole few bottom top comes stands =
      let routine = routine_in w r in
      let low_ = law.low_top in
      let parts = split w.placing r b.pc (taken routine n) _ at stands in
      let first = takes n b r sp value parts.middle sound sp_is whole (omega arith) (omega arith) top comes parts.first in
      let c = stored b first.registers parts.middle first.memory in
      let a = sp - (8 + 4 * n) in
      let early : n < routine.parameters → n < 8 → get_or first.registers (10 + n) 0 ≡ value n = λ given soon. argument_there b first.registers n first.low (first.argument (omega arith)) soon ∙ comes.early n given soon in
      let late : n < routine.parameters → 8 ≤ n → word_at first.memory a ≡ value n = λ given ninth. word_at-same b.memory first.memory a (λ x from before. first.same x (inl (omega arith))) ∙ comes.late n given ninth in
      let one = takes_one c routine r sp n (value n) at (nat_le routine.parameters n) (nat_lt n 8) refl refl first.sound (first.low 2 (omega arith) (omega arith) ∙ sp_is) whole (omega arith) (omega arith) top (comes.fresh n) early late (comes.words n) parts.second in
      let home = get_or first.registers (18 + n) 0 in
      let home_is : home ≡ get_or b.registers (18 + n) 0 = first.rest n (omega arith) in
      let bytes = bytes_low_first 0 4 home in
      let memory = with_bytes first.memory a bytes in
      record {
        registers = one.registers;
        memory = memory;
        size = one.size;
        homes = λ k less.
            elim (cases_lt k n) [
              | inl lower ↦ one.others (18 + k) (omega arith) (omega arith) ∙ first.homes k lower
              | inr upper ↦
                  let is : k ≡ n = omega arith in
                  ap (λ j. get_or one.registers (18 + j) 0) is ∙ one.home_is ∙ ap value (sym is)
            ];
        rest = λ k over. one.others (18 + k) (omega arith) (omega arith) ∙ first.rest k (omega arith);
        low = λ q less other. one.others q other (omega arith) ∙ first.low q less other;
        argument = λ soon. one.argument (omega arith) ∙ first.argument (omega arith);
        saved = λ k less word.
            elim (cases_lt k n) [
              | inl lower ↦ word_at-same first.memory memory (sp - (8 + 4 * k)) (λ y from before. with_bytes-outside first.memory a bytes y (λ l u. absurd (omega arith))) ∙ first.saved k lower word
              | inr upper ↦
                  let is : k ≡ n = omega arith in
                  let fits : home < 2 ^ 32 = subst (λ v. v < 2 ^ 32) (sym home_is) (subst (λ j. get_or b.registers (18 + j) 0 < 2 ^ 32) is word) in
                  ap (λ j. word_at memory (sp - (8 + 4 * j))) is ∙ word_at-stored first.memory a home fits ∙ home_is ∙ ap (λ j. get_or b.registers (18 + j) 0) (sym is)
            ];
        same = λ x side.
            elim side [
              | inl under ↦ with_bytes-outside first.memory a bytes x (λ l u. absurd (omega arith)) ∙ first.same x (inl (omega arith))
              | inr over ↦ with_bytes-outside first.memory a bytes x (λ l u. absurd (omega arith)) ∙ first.same x (inr over)
            ];
        sound = one.sound;
        walk = walk_weaken b (stored b one.registers at memory) 0 (3 * n + 3) 0 (3 * suc n) [] (omega arith) (omega arith) (walk_join b c (stored b one.registers at memory) 0 (3 * n) 0 3 [] [] first.walk one.walk);
      }
    where
      argument_there : (b : State) (registers : List ℕ) (n : ℕ) → ((q : ℕ) → q < 18 → q ≢ 10 → get_or registers q 0 ≡ get_or b.registers q 0) → get_or registers 10 0 ≡ get_or b.registers 10 0 → n < 8 → get_or registers (10 + n) 0 ≡ get_or b.registers (10 + n) 0
      argument_there b registers zero low first soon = first
      argument_there b registers (suc n) low first soon = low (10 + suc n) (omega arith) (omega arith)

  -- ---- zeros

  zeroes_registers_by : (b : State) (r sp limit others at : ℕ) (none : Bool) → nat_eq others 0 ≡ none → Sound w b → get_or b.registers 2 0 ≡ sp → get_or b.registers 8 0 ≡ limit → sp % 4 ≡ 0 → w.bottom ≤ sp → sp + 4 * others ≤ w.top → Stands w.placing r b.pc (cond none [] (Plain (Imm Addi 10 2 (pos 0)) ∷ sum 11 2 11 (4 * others) ++ cleared 10 11)) at → Zeroes w b sp (4 * others) limit at (4 + 3 * others)
  unfolding act instr_shows
  zeroes_registers_by b r sp limit others at true test sound sp_is limit_is whole bottom top stands =
      let there = nothing_more w.placing r b.pc at stands in
      let zero_ : others ≡ 0 = grind (arith, nat_tests) in
      record {
        registers = b.registers;
        memory = b.memory;
        limit_is = limit_is;
        others = λ q x y z. refl;
        zeros = λ x lower upper. absurd (omega arith);
        same = λ x side. refl;
        sound = sound_placed w law b b.registers at sound sound.size;
        walk = walk_weaken b (placed b b.registers at) 0 0 0 (4 + 3 * others) [] (omega arith) (omega arith) (subst (λ n. Walk b (placed b b.registers n) 0 0 []) there (walk_none b));
      }
  zeroes_registers_by b r sp limit others at false test sound sp_is limit_is whole bottom top stands =
      let low = law.low_top in
      let some : 0 < others = grind (arith, nat_tests) in
      let parts = split w.placing r b.pc (Plain (Imm Addi 10 2 (pos 0)) ∷ sum 11 2 11 (4 * others)) (cleared 10 11) at stands in
      let first = plain_first w.placing r b.pc (Imm Addi 10 2 (pos 0)) _ parts.middle parts.first in
      let set = becomes w law b (Imm Addi 10 2 (pos 0)) 10 ((register b 2 + word_from (pos 0)) % 2 ^ 32) sound first.0 (omega arith) (omega arith) refl refl in
      let c = placed b set.registers (b.pc + 4) in
      let sound_c = sound_placed w law b set.registers (b.pc + 4) sound set.size in
      let from_is : get_or set.registers 10 0 ≡ sp = set.value_is ∙ ap (λ n. (n + word_from (pos 0)) % 2 ^ 32) sp_is ∙ no_distance sp (omega arith) in
      let sp_c : get_or set.registers 2 0 ≡ sp = set.others 2 (omega arith) (omega arith) ∙ sp_is in
      let end_ = sums w law c r 11 2 11 (4 * others) parts.middle sound_c (omega arith) (omega arith) (omega arith) (omega arith) (omega arith) (omega arith) (omega arith) first.1 in
      let d = placed b end_.registers parts.middle in
      let sound_d = sound_placed w law b end_.registers parts.middle sound end_.size in
      let sum_is : (sp + 4 * others) % 2 ^ 32 ≡ sp + 4 * others = omega arith in
      let until_is : get_or end_.registers 11 0 ≡ sp + 4 * others = end_.value_is ∙ ap (λ n. (n + 4 * others) % 2 ^ 32) sp_c ∙ sum_is in
      let loop = clears_some others d r 10 11 sp at some sound_d (omega arith) (omega arith) (omega arith) (omega arith) (end_.others 10 (omega arith) (omega arith) ∙ from_is) until_is (omega arith) whole (λ x lower upper. law.writable x (omega arith) (omega arith)) parts.second in
      record {
        registers = loop.registers;
        memory = loop.memory;
        limit_is = loop.others 8 (omega arith) ∙ end_.others 8 (omega arith) (omega arith) ∙ set.others 8 (omega arith) (omega arith) ∙ limit_is;
        others = λ q eight ten eleven. loop.others q ten ∙ end_.others q eleven eleven ∙ set.others q ten ten;
        zeros = loop.zeros;
        same = loop.same;
        sound = loop.sound;
        walk = walk_weaken b (stored b loop.registers at loop.memory) 3 (4 + 3 * others) 0 (4 + 3 * others) [] (omega arith) (omega arith) (walk_join b d (stored b loop.registers at loop.memory) 2 4 1 (3 * others) [] [] (walk_join b c d 1 1 1 3 [] [] set.walk end_.walk) loop.walk);
      }

  pub zeroes_registers : (b : State) (r sp limit at : ℕ) → Sound w b → get_or b.registers 2 0 ≡ sp → get_or b.registers 8 0 ≡ limit → sp % 4 ≡ 0 → w.bottom ≤ sp → sp + 4 * (routine_in w r).registers ≤ w.top → Stands w.placing r b.pc (cleared_registers (routine_in w r)) at → Zeroes w b sp (4 * fresh_words (routine_in w r)) limit at (4 + 3 * fresh_words (routine_in w r))
  unfolding cleared_registers
  zeroes_registers b r sp limit at sound sp_is limit_is whole bottom top stands =
      zeroes_registers_by b r sp limit (fresh_words (routine_in w r)) at (nat_eq (fresh_words (routine_in w r)) 0) refl sound sp_is limit_is whole bottom (omega arith) stands

  zeroes_locals_by : (b : State) (r limit locals at : ℕ) (none : Bool) → nat_eq locals 0 ≡ none → Sound w b → get_or b.registers 8 0 ≡ limit → limit % 4 ≡ 0 → locals % 4 ≡ 0 → w.bottom ≤ limit → limit + locals ≤ w.top → Stands w.placing r b.pc (cond none [] (Plain (Imm Addi 10 8 (pos 0)) ∷ sum 8 8 11 locals ++ cleared 10 8)) at → Zeroes w b limit locals (limit + locals) at (4 + locals)
  unfolding act instr_shows
  zeroes_locals_by b r limit locals at true test sound limit_is whole whole_locals bottom top stands =
      let there = nothing_more w.placing r b.pc at stands in
      let zero_ : locals ≡ 0 = grind (arith, nat_tests) in
      let none : limit ≡ limit + locals = omega arith in
      record {
        registers = b.registers;
        memory = b.memory;
        limit_is = limit_is ∙ none;
        others = λ q x y z. refl;
        zeros = λ x lower upper. absurd (omega arith);
        same = λ x side. refl;
        sound = sound_placed w law b b.registers at sound sound.size;
        walk = walk_weaken b (placed b b.registers at) 0 0 0 (4 + locals) [] (omega arith) (omega arith) (subst (λ n. Walk b (placed b b.registers n) 0 0 []) there (walk_none b));
      }
  zeroes_locals_by b r limit locals at false test sound limit_is whole whole_locals bottom top stands =
      let low = law.low_top in
      let some : 0 < locals = grind (arith, nat_tests) in
      let words = locals / 4 in
      let four : 4 * words ≡ locals = omega arith in
      let parts = split w.placing r b.pc (Plain (Imm Addi 10 8 (pos 0)) ∷ sum 8 8 11 locals) (cleared 10 8) at stands in
      let first = plain_first w.placing r b.pc (Imm Addi 10 8 (pos 0)) _ parts.middle parts.first in
      let set = becomes w law b (Imm Addi 10 8 (pos 0)) 10 ((register b 8 + word_from (pos 0)) % 2 ^ 32) sound first.0 (omega arith) (omega arith) refl refl in
      let c = placed b set.registers (b.pc + 4) in
      let sound_c = sound_placed w law b set.registers (b.pc + 4) sound set.size in
      let from_is : get_or set.registers 10 0 ≡ limit = set.value_is ∙ ap (λ n. (n + word_from (pos 0)) % 2 ^ 32) limit_is ∙ no_distance limit (omega arith) in
      let limit_c : get_or set.registers 8 0 ≡ limit = set.others 8 (omega arith) (omega arith) ∙ limit_is in
      let end_ = sums w law c r 8 8 11 locals parts.middle sound_c (omega arith) (omega arith) (omega arith) (omega arith) (omega arith) (omega arith) (omega arith) first.1 in
      let d = placed b end_.registers parts.middle in
      let sound_d = sound_placed w law b end_.registers parts.middle sound end_.size in
      let sum_is : (limit + locals) % 2 ^ 32 ≡ limit + locals = omega arith in
      let until_is : get_or end_.registers 8 0 ≡ limit + locals = end_.value_is ∙ ap (λ n. (n + locals) % 2 ^ 32) limit_c ∙ sum_is in
      let until_words : get_or end_.registers 8 0 ≡ limit + 4 * words = until_is ∙ ap (λ n. limit + n) (sym four) in
      let loop = clears_some words d r 10 8 limit at (omega arith) sound_d (omega arith) (omega arith) (omega arith) (omega arith) (end_.others 10 (omega arith) (omega arith) ∙ from_is) until_words (omega arith) whole (λ x lower upper. law.writable x (omega arith) (omega arith)) parts.second in
      record {
        registers = loop.registers;
        memory = loop.memory;
        limit_is = loop.others 8 (omega arith) ∙ until_is;
        others = λ q eight ten eleven. loop.others q ten ∙ end_.others q eight eleven ∙ set.others q ten ten;
        zeros = λ x lower upper. loop.zeros x lower (omega arith);
        same = λ x side. elim side [ inl under ↦ loop.same x (inl under) | inr over ↦ loop.same x (inr (omega arith)) ];
        sound = loop.sound;
        walk = walk_weaken b (stored b loop.registers at loop.memory) 3 (4 + 3 * words) 0 (4 + locals) [] (omega arith) (omega arith) (walk_join b d (stored b loop.registers at loop.memory) 2 4 1 (3 * words) [] [] (walk_join b c d 1 1 1 3 [] [] set.walk end_.walk) loop.walk);
      }

  pub zeroes_locals : (b : State) (r limit at : ℕ) → Sound w b → get_or b.registers 8 0 ≡ limit → limit % 4 ≡ 0 → w.bottom ≤ limit → limit + locals_in w r ≤ w.top → Stands w.placing r b.pc (cleared_locals (routine_in w r)) at → Zeroes w b limit (locals_in w r) (limit + locals_in w r) at (4 + locals_in w r)
  unfolding cleared_locals
  zeroes_locals b r limit at sound limit_is whole bottom top stands =
      let size = sizes w.low r law.valid in
      zeroes_locals_by b r limit (locals_in w r) at (nat_eq (locals_in w r) 0) refl sound limit_is whole size.locals_aligned bottom top stands
