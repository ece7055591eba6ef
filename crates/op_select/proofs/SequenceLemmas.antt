-- What the short sequences do.
use Rattle.std.proofs.Common.{◌≡◌, ◌≢◌, ℕ, pos, ◌+◌, ◌*◌, ◌%◌, ◌^◌, ◌<◌, ◌≤◌, Bool, true, false, cond, List, [], ◌∷◌, length, get_or, refl, ap, sym, subst, ◌∙◌, arith}
use Rattle.std.proofs.lemmas.Bool.{cond-true}
use Rattle.std.proofs.lemmas.Int.{ints}
use Rattle.std.specs.Int.{bytes_low_first}
use Rattle.op_rv.proofs.Memory.{can_access_word}
use Rattle.op_rv.specs.Operation.{word_from}
use Rattle.op_rv.specs.State.{State, register, with_register, advanced, faulted, with_bytes, word_at}
use Rattle.op_rv.specs.Step.{act, load, store, can_access}
use Rattle.op_rv.specs.declared.fault.FaultKind.TheVariants.{Load as LoadFault, Store as StoreFault}
use Rattle.op_rv.specs.declared.instruction.AluOp.TheVariants.{Add}
use Rattle.op_rv.specs.declared.instruction.ImmOp.TheVariants.{Addi}
use Rattle.op_rv.specs.declared.instruction.LoadOp.TheVariants.{Lw}
use Rattle.op_rv.specs.declared.instruction.StoreOp.TheVariants.{Sw}
use Rattle.op_rv.specs.declared.instruction.Instr.TheVariants.{Lui, Load, Store, Imm, Alu}
use Rattle.op_rv.specs.declared.objects.Item.TheVariants.{Plain}
use Rattle.op_select.specs.Going.{Setting, IsSetting, Sound}
use Rattle.op_select.specs.Placing.{Stands}
use Rattle.op_select.specs.RiscvMachine.{instr_shows}
use Rattle.op_select.specs.Sequences.{upper_of, lower_of, is_near, small, constant, reach, reached, sum, word_load, word_store}
use Rattle.op_select.proofs.Walks.{Walk, walk_none, walk_join, walk_weaken, walk_step, advanced_pc, placed, sound_placed, Becomes, becomes, register_is, plain_first, split, nothing_more}
use Rattle.op_select.proofs.WordLemmas.{near_sum, far_sum, far_constant, near_constant, no_distance}

-- the place at a distance is reached
pub record Reaches (b : State) (base via from word at : ℕ) : Type 0 where
  pub registers : List ℕ
  pub size : length registers ≡ 32
  pub others : (q : ℕ) → q ≢ via → get_or registers q 0 ≡ get_or b.registers q 0
  pub some : from ≢ 0
  pub sum_is : (get_or registers from 0 + word_from (lower_of word)) % 2 ^ 32 ≡ (get_or b.registers base 0 + word) % 2 ^ 32
  pub walk : Walk b (placed b registers at) 0 2 []

-- a word of memory has become a value
pub record Stores (b : State) (a value via at : ℕ) : Type 0 where
  pub registers : List ℕ
  pub size : length registers ≡ 32
  pub others : (q : ℕ) → q ≢ via → get_or registers q 0 ≡ get_or b.registers q 0
  pub walk : Walk b (record (placed b registers at) { memory = with_bytes b.memory a (bytes_low_first 0 4 value) }) 1 3 []

module _ (w : Setting) (law : IsSetting w) where
  reaches_by : (b : State) (r base via word at : ℕ) (near : Bool) → is_near word ≡ near → Sound w b → base ≢ 0 → via ≢ 0 → via < 32 → via ≢ base → word < 2 ^ 32 → Stands w.placing r b.pc (cond near [] (Plain (Lui via (upper_of word)) ∷ Plain (Alu Add via via base) ∷ [])) at → Reaches b base via (cond near base via) word at
  unfolding act instr_shows
  reaches_by b r base via word at true near sound base_some via_some via_small apart fits stands =
      let there = nothing_more w.placing r b.pc at stands in
      record {
        registers = b.registers;
        size = sound.size;
        others = λ q other. refl;
        some = base_some;
        sum_is = near_sum (get_or b.registers base 0) word near fits;
        walk = walk_weaken b (placed b b.registers at) 0 0 0 2 [] (omega arith) (omega arith) (subst (λ n. Walk b (placed b b.registers n) 0 0 []) there (walk_none b));
      }
  reaches_by b r base via word at false far sound base_some via_some via_small apart fits stands =
      let first = plain_first w.placing r b.pc (Lui via (upper_of word)) _ at stands in
      let lui = becomes w law b (Lui via (upper_of word)) via (upper_of word * 2 ^ 12) sound first.0 via_some via_small refl refl in
      let c = placed b lui.registers (b.pc + 4) in
      let sound_c = sound_placed w law b lui.registers (b.pc + 4) sound lui.size in
      let second = plain_first w.placing r c.pc (Alu Add via via base) _ at first.1 in
      let added = becomes w law c (Alu Add via via base) via ((register c via + register c base) % 2 ^ 32) sound_c second.0 via_some via_small refl refl in
      let there = nothing_more w.placing r (c.pc + 4) at second.1 in
      let upper_is : register c via ≡ upper_of word * 2 ^ 12 = register_is c via via_some ∙ lui.value_is in
      let base_is : register c base ≡ get_or b.registers base 0 = register_is c base base_some ∙ lui.others base (λ e. apart (sym e)) (λ e. apart (sym e)) in
      let sum_is : get_or added.registers via 0 ≡ (upper_of word * 2 ^ 12 + get_or b.registers base 0) % 2 ^ 32 = added.value_is ∙ ap (λ n. (n + register c base) % 2 ^ 32) upper_is ∙ ap (λ n. (upper_of word * 2 ^ 12 + n) % 2 ^ 32) base_is in
      let walk = walk_join b c (placed b added.registers (c.pc + 4)) 1 1 1 1 [] [] lui.walk added.walk in
      record {
        registers = added.registers;
        size = added.size;
        others = λ q other. added.others q other other ∙ lui.others q other other;
        some = via_some;
        sum_is = ap (λ n. (n + word_from (lower_of word)) % 2 ^ 32) sum_is ∙ far_sum (get_or b.registers base 0) word fits;
        walk = walk_weaken b (placed b added.registers at) 2 2 0 2 [] (omega arith) (omega arith) (subst (λ n. Walk b (placed b added.registers n) 2 2 []) there walk);
      }

  pub reaches : (b : State) (r base via word at : ℕ) → Sound w b → base ≢ 0 → via ≢ 0 → via < 32 → via ≢ base → word < 2 ^ 32 → Stands w.placing r b.pc (reach base via word) at → Reaches b base via (reached base via word) word at
  unfolding reach reached
  reaches b r base via word at sound base_some via_some via_small apart fits stands =
      reaches_by b r base via word at (is_near word) refl sound base_some via_some via_small apart fits stands

  -- a base and a word
  pub sums : (b : State) (r to base via word at : ℕ) → Sound w b → to ≢ 0 → to < 32 → base ≢ 0 → via ≢ 0 → via < 32 → via ≢ base → word < 2 ^ 32 → Stands w.placing r b.pc (sum to base via word) at → Becomes b to via ((get_or b.registers base 0 + word) % 2 ^ 32) at 1 3
  unfolding sum act instr_shows
  sums b r to base via word at sound to_some to_small base_some via_some via_small apart fits stands =
      let parts = split w.placing r b.pc (reach base via word) _ at stands in
      let reaching = reaches b r base via word parts.middle sound base_some via_some via_small apart fits parts.first in
      let c = placed b reaching.registers parts.middle in
      let sound_c = sound_placed w law b reaching.registers parts.middle sound reaching.size in
      let from = reached base via word in
      let i = Imm Addi to from (lower_of word) in
      let last = plain_first w.placing r c.pc i _ at parts.second in
      let added = becomes w law c i to ((register c from + word_from (lower_of word)) % 2 ^ 32) sound_c last.0 to_some to_small refl refl in
      let there = nothing_more w.placing r (c.pc + 4) at last.1 in
      let walk = walk_join b c (placed b added.registers (c.pc + 4)) 0 2 1 1 [] [] reaching.walk added.walk in
      record {
        registers = added.registers;
        size = added.size;
        value_is = added.value_is ∙ ap (λ n. (n + word_from (lower_of word)) % 2 ^ 32) (register_is c from reaching.some) ∙ reaching.sum_is;
        others = λ q other more. added.others q other other ∙ reaching.others q more;
        walk = subst (λ n. Walk b (placed b added.registers n) 1 3 []) there walk;
      }

  -- a word of memory in a register
  pub loads : (b : State) (r to base via word at a : ℕ) → Sound w b → to ≢ 0 → to < 32 → base ≢ 0 → via ≢ 0 → via < 32 → via ≢ base → word < 2 ^ 32 → (get_or b.registers base 0 + word) % 2 ^ 32 ≡ a → a % 4 ≡ 0 → ((x : ℕ) → a ≤ x → x < a + 4 → w.rights.readable x ≡ true) → Stands w.placing r b.pc (word_load to base via word) at → Becomes b to via (word_at b.memory a) at 1 3
  unfolding word_load act load instr_shows
  loads b r to base via word at a sound to_some to_small base_some via_some via_small apart fits place aligned readable stands =
      let parts = split w.placing r b.pc (reach base via word) _ at stands in
      let reaching = reaches b r base via word parts.middle sound base_some via_some via_small apart fits parts.first in
      let c = placed b reaching.registers parts.middle in
      let sound_c = sound_placed w law b reaching.registers parts.middle sound reaching.size in
      let from = reached base via word in
      let i = Load Lw to from (lower_of word) in
      let last = plain_first w.placing r c.pc i _ at parts.second in
      let address : (register c from + word_from (lower_of word)) % 2 ^ 32 ≡ a = ap (λ n. (n + word_from (lower_of word)) % 2 ^ 32) (register_is c from reaching.some) ∙ reaching.sum_is ∙ place in
      let may : can_access c.rights.readable a 4 ≡ true = can_access_word c.rights.readable a aligned (λ x from before. subst (λ rights. rights.readable x ≡ true) (sym sound.rights) (readable x from before)) in
      let done = ap (λ n. load Lw to n c) address ∙ cond-true (can_access c.rights.readable a 4) (advanced (with_register c to (word_at c.memory a))) (faulted LoadFault c) may in
      let loaded = becomes w law c i to (word_at c.memory a) sound_c last.0 to_some to_small refl done in
      let there = nothing_more w.placing r (c.pc + 4) at last.1 in
      let walk = walk_join b c (placed b loaded.registers (c.pc + 4)) 0 2 1 1 [] [] reaching.walk loaded.walk in
      record {
        registers = loaded.registers;
        size = loaded.size;
        value_is = loaded.value_is;
        others = λ q other more. loaded.others q other other ∙ reaching.others q more;
        walk = subst (λ n. Walk b (placed b loaded.registers n) 1 3 []) there walk;
      }

  -- a register in a word of memory
  pub stores : (b : State) (r value base via word at a : ℕ) → Sound w b → value ≢ 0 → value ≢ via → base ≢ 0 → via ≢ 0 → via < 32 → via ≢ base → word < 2 ^ 32 → (get_or b.registers base 0 + word) % 2 ^ 32 ≡ a → a % 4 ≡ 0 → ((x : ℕ) → a ≤ x → x < a + 4 → w.rights.writable x ≡ true) → Stands w.placing r b.pc (word_store value base via word) at → Stores b a (get_or b.registers value 0) via at
  unfolding word_store act store instr_shows
  stores b r value base via word at a sound value_some value_apart base_some via_some via_small apart fits place aligned writable stands =
      let parts = split w.placing r b.pc (reach base via word) _ at stands in
      let reaching = reaches b r base via word parts.middle sound base_some via_some via_small apart fits parts.first in
      let c = placed b reaching.registers parts.middle in
      let sound_c = sound_placed w law b reaching.registers parts.middle sound reaching.size in
      let from = reached base via word in
      let i = Store Sw from value (lower_of word) in
      let last = plain_first w.placing r c.pc i _ at parts.second in
      let address : (register c from + word_from (lower_of word)) % 2 ^ 32 ≡ a = ap (λ n. (n + word_from (lower_of word)) % 2 ^ 32) (register_is c from reaching.some) ∙ reaching.sum_is ∙ place in
      let may : can_access c.rights.writable a 4 ≡ true = can_access_word c.rights.writable a aligned (λ x from before. subst (λ rights. rights.writable x ≡ true) (sym sound.rights) (writable x from before)) in
      let value_is : register c value ≡ get_or b.registers value 0 = register_is c value value_some ∙ reaching.others value value_apart in
      let after : ℕ → State = λ n. record c { memory = with_bytes c.memory a (bytes_low_first 0 4 n) } in
      let done = ap (λ n. store Sw (register c value) n c) address ∙ cond-true (can_access c.rights.writable a 4) (advanced (after (register c value))) (faulted StoreFault c) may ∙ ap (λ n. advanced (after n)) value_is ∙ ap (λ n. record (after (get_or b.registers value 0)) { pc = n }) (advanced_pc w law c i last.0) in
      let one = walk_step w law c (record (after (get_or b.registers value 0)) { pc = c.pc + 4 }) i [] sound_c last.0 refl done in
      let there = nothing_more w.placing r (c.pc + 4) at last.1 in
      let walk = walk_join b c (record (after (get_or b.registers value 0)) { pc = c.pc + 4 }) 0 2 1 1 [] [] reaching.walk one in
      record {
        registers = reaching.registers;
        size = reaching.size;
        others = reaching.others;
        walk = subst (λ n. Walk b (record (after (get_or b.registers value 0)) { pc = n }) 1 3 []) there walk;
      }

  -- what another register has
  pub moves : (b : State) (r to from at : ℕ) → Sound w b → to ≢ 0 → to < 32 → from ≢ 0 → get_or b.registers from 0 < 2 ^ 32 → Stands w.placing r b.pc (Plain (Imm Addi to from (pos 0)) ∷ []) at → Becomes b to to (get_or b.registers from 0) at 1 1
  unfolding act instr_shows
  moves b r to from at sound to_some to_small from_some fits stands =
      let first = plain_first w.placing r b.pc (Imm Addi to from (pos 0)) _ at stands in
      let set = becomes w law b (Imm Addi to from (pos 0)) to ((register b from + word_from (pos 0)) % 2 ^ 32) sound first.0 to_some to_small refl refl in
      let there = nothing_more w.placing r (b.pc + 4) at first.1 in
      record {
        registers = set.registers;
        size = set.size;
        value_is = set.value_is ∙ ap (λ n. (n + word_from (pos 0)) % 2 ^ 32) (register_is b from from_some) ∙ no_distance (get_or b.registers from 0) fits;
        others = set.others;
        walk = subst (λ n. Walk b (placed b set.registers n) 1 1 []) there set.walk;
      }

  -- a word
  constant_by : (b : State) (r to word at : ℕ) (near : Bool) → is_near word ≡ near → Sound w b → to ≢ 0 → to < 32 → word < 2 ^ 32 → Stands w.placing r b.pc (cond near (Plain (Imm Addi to 0 (lower_of word)) ∷ []) (Plain (Lui to (upper_of word)) ∷ Plain (Imm Addi to to (lower_of word)) ∷ [])) at → Becomes b to to word at 1 2
  unfolding act instr_shows
  constant_by b r to word at true near sound some small fits stands =
      let first = plain_first w.placing r b.pc (Imm Addi to 0 (lower_of word)) _ at stands in
      let set = becomes w law b (Imm Addi to 0 (lower_of word)) to ((0 + word_from (lower_of word)) % 2 ^ 32) sound first.0 some small refl refl in
      let there = nothing_more w.placing r (b.pc + 4) at first.1 in
      record {
        registers = set.registers;
        size = set.size;
        value_is = set.value_is ∙ near_constant word near fits;
        others = set.others;
        walk = walk_weaken b (placed b set.registers at) 1 1 1 2 [] (omega arith) (omega arith) (subst (λ n. Walk b (placed b set.registers n) 1 1 []) there set.walk);
      }
  constant_by b r to word at false far sound some small fits stands =
      let first = plain_first w.placing r b.pc (Lui to (upper_of word)) _ at stands in
      let lui = becomes w law b (Lui to (upper_of word)) to (upper_of word * 2 ^ 12) sound first.0 some small refl refl in
      let c = placed b lui.registers (b.pc + 4) in
      let sound_c = sound_placed w law b lui.registers (b.pc + 4) sound lui.size in
      let second = plain_first w.placing r c.pc (Imm Addi to to (lower_of word)) _ at first.1 in
      let added = becomes w law c (Imm Addi to to (lower_of word)) to ((register c to + word_from (lower_of word)) % 2 ^ 32) sound_c second.0 some small refl refl in
      let there = nothing_more w.placing r (c.pc + 4) at second.1 in
      let upper_is : register c to ≡ upper_of word * 2 ^ 12 = register_is c to some ∙ lui.value_is in
      let walk = walk_join b c (placed b added.registers (c.pc + 4)) 1 1 1 1 [] [] lui.walk added.walk in
      record {
        registers = added.registers;
        size = added.size;
        value_is = added.value_is ∙ ap (λ n. (n + word_from (lower_of word)) % 2 ^ 32) upper_is ∙ far_constant word fits;
        others = λ q other more. added.others q other more ∙ lui.others q other more;
        walk = walk_weaken b (placed b added.registers at) 2 2 1 2 [] (omega arith) (omega arith) (subst (λ n. Walk b (placed b added.registers n) 2 2 []) there walk);
      }

  pub constants : (b : State) (r to word at : ℕ) → Sound w b → to ≢ 0 → to < 32 → word < 2 ^ 32 → Stands w.placing r b.pc (constant to word) at → Becomes b to to word at 1 2
  unfolding constant
  constants b r to word at sound some small fits stands =
      constant_by b r to word at (is_near word) refl sound some small fits stands

  -- a small number
  small_value : (n : ℕ) → n < 2 ^ 11 → (0 + word_from (pos n)) % 2 ^ 32 ≡ n
  small_value n few = omega (arith, ints)

  pub smalls : (b : State) (r to n at : ℕ) → Sound w b → to ≢ 0 → to < 32 → n < 2 ^ 11 → Stands w.placing r b.pc (small to n) at → Becomes b to to n at 1 1
  unfolding act instr_shows
  smalls b r to n at sound some within few stands =
      let first = plain_first w.placing r b.pc (Imm Addi to 0 (pos n)) _ at stands in
      let set = becomes w law b (Imm Addi to 0 (pos n)) to ((0 + word_from (pos n)) % 2 ^ 32) sound first.0 some within refl refl in
      let there = nothing_more w.placing r (b.pc + 4) at first.1 in
      record {
        registers = set.registers;
        size = set.size;
        value_is = set.value_is ∙ small_value n few;
        others = set.others;
        walk = subst (λ n. Walk b (placed b set.registers n) 1 1 []) there set.walk;
      }
