-- Runs of the instruction machine over code that stands.
use Rattle.std.proofs.Common.{◌≡◌, ◌≢◌, ℕ, ◌+◌, ◌%◌, ◌^◌, ◌<◌, ◌≤◌, true, false, cond, nat_eq, Some, List, [], ◌∷◌, ◌++◌, length, get_or, set, refl, ap, sym, subst, ◌∙◌, arith}
use Rattle.std.proofs.lemmas.Bool.{cond-false, cond-true}
use Rattle.std.proofs.lemmas.Bool.Decides.{nat_tests}
use Rattle.std.proofs.lemmas.List.{get_or-set_same, get_or-set_other, length-set}
use Rattle.op_simulation.specs.Path.{Path}
use Rattle.op_simulation.proofs.Paths.{path_none, path_step, path_join}
use Rattle.op_low.specs.Machine.{Event}
use Rattle.op_rv.proofs.Memory.{can_access_word}
use Rattle.op_rv.specs.Decoding.{instr_at}
use Rattle.op_rv.specs.State.{State, Ending, Running, register, with_register, advanced, word_at}
use Rattle.op_rv.specs.Step.{act, step, step_by_ending, running_step, performed, can_fetch}
use Rattle.op_rv.specs.declared.instruction.Instr.{Instr}
use Rattle.op_rv.specs.declared.objects.Item.{Item}
use Rattle.op_rv.specs.declared.objects.Item.TheVariants.{Plain}
use Rattle.op_select.specs.Going.{Setting, IsSetting, Sound, IsSafe}
use Rattle.op_select.specs.Placing.{Placing, Stands, Nothing, First, StandsHere, Expands, past}
use Rattle.op_select.specs.RiscvMachine.{riscv_machine, riscv_shows, instr_shows}

-- ---- walks: paths of at least and at most so many steps

pub record Walk (b c : State) (least most : ℕ) (events : List Event) : Type 0 where
  pub steps : ℕ
  pub from : least ≤ steps
  pub to : steps ≤ most
  pub path : Path riscv_machine (λ s. IsSafe s.ending) b c steps events steps

pub walk_none : (b : State) → Walk b b 0 0 []
walk_none b = record { steps = 0; from = omega arith; to = omega arith; path = path_none riscv_machine (λ s. IsSafe s.ending) b }

pub walk_join : (b c d : State) (l m k n : ℕ) (xs ys : List Event) → Walk b c l m xs → Walk c d k n ys → Walk b d (l + k) (m + n) (xs ++ ys)
walk_join b c d l m k n xs ys first second =
    let from_first = first.from in
    let from_second = second.from in
    let to_first = first.to in
    let to_second = second.to in
    record {
      steps = first.steps + second.steps;
      from = omega arith;
      to = omega arith;
      path = path_join riscv_machine (λ s. IsSafe s.ending) b c d first.steps second.steps xs ys first.steps second.steps first.path second.path;
    }

pub walk_weaken : (b c : State) (l m k n : ℕ) (xs : List Event) → k ≤ l → m ≤ n → Walk b c l m xs → Walk b c k n xs
walk_weaken b c l m k n xs less more walk =
    let from = walk.from in
    let to = walk.to in
    record { steps = walk.steps; from = omega arith; to = omega arith; path = walk.path }

-- ---- states that differ in registers and place

abbrev pub placed : State → List ℕ → ℕ → State
placed b registers at = record b { registers = registers; pc = at }

-- one register has become a value, another one may have changed too, and the code goes on at an address
pub record Becomes (b : State) (to via value at least most : ℕ) : Type 0 where
  pub registers : List ℕ
  pub size : length registers ≡ 32
  pub value_is : get_or registers to 0 ≡ value
  pub others : (q : ℕ) → q ≢ to → q ≢ via → get_or registers q 0 ≡ get_or b.registers q 0
  pub walk : Walk b (placed b registers at) least most []

pub register_is : (b : State) (q : ℕ) → q ≢ 0 → register b q ≡ get_or b.registers q 0
register_is b q some =
    let test : nat_eq q 0 ≡ false = grind (arith, nat_tests) in
    cond-false (nat_eq q 0) 0 (get_or b.registers q 0) test

-- ---- a step

safe_running : (e : Ending) → e ≡ Running → IsSafe e
unfolding IsSafe
safe_running e is = subst IsSafe (sym is) tt

module _ (w : Setting) (law : IsSetting w) where
  fetches : (b : State) (i : Instr) → Sound w b → w.placing.code b.pc ≡ Some i → can_fetch b ≡ true
  fetches b i sound stands =
      let aligned = law.objects.aligned b.pc i stands in
      let may : (x : ℕ) → b.pc ≤ x → x < b.pc + 4 → b.rights.executable x ≡ true = λ x from before. subst (λ rights. rights.executable x ≡ true) (sym sound.rights) (law.executable b.pc i stands x from before) in
      can_access_word b.rights.executable b.pc aligned may

  -- the machine does the instruction that stands at its pc
  pub step_is : (b : State) (i : Instr) → Sound w b → w.placing.code b.pc ≡ Some i → step b ≡ act i b
  unfolding step step_by_ending running_step performed
  step_is b i sound stands =
      ap (λ e. step_by_ending e b) sound.running
      ∙ cond-true (can_fetch b) (performed (instr_at (word_at b.memory b.pc)) b) _ (fetches b i sound stands)
      ∙ ap (λ o. performed o b) (sound.code b.pc i stands)

  pub shows_is : (b : State) (i : Instr) → Sound w b → w.placing.code b.pc ≡ Some i → riscv_shows b.ending b ≡ instr_shows (Some i) b
  unfolding riscv_shows
  shows_is b i sound stands =
      ap (λ e. riscv_shows e b) sound.running
      ∙ cond-true (can_fetch b) (instr_shows (instr_at (word_at b.memory b.pc)) b) [] (fetches b i sound stands)
      ∙ ap (λ o. instr_shows o b) (sound.code b.pc i stands)

  pub walk_step : (b c : State) (i : Instr) (events : List Event) → Sound w b → w.placing.code b.pc ≡ Some i → instr_shows (Some i) b ≡ events → act i b ≡ c → Walk b c 1 1 events
  walk_step b c i events sound stands shows acts =
      let one = path_step riscv_machine (λ s. IsSafe s.ending) b (safe_running b.ending sound.running) in
      let there = step_is b i sound stands ∙ acts in
      let shown = shows_is b i sound stands ∙ shows in
      record {
        steps = 1;
        from = omega arith;
        to = omega arith;
        path = subst (λ c. Path riscv_machine (λ s. IsSafe s.ending) b c 1 events 1) there (subst (λ es. Path riscv_machine (λ s. IsSafe s.ending) b (step b) 1 es 1) shown one);
      }

  -- on to the next instruction
  pub advanced_pc : (b : State) (i : Instr) → w.placing.code b.pc ≡ Some i → (b.pc + 4) % 2 ^ 32 ≡ b.pc + 4
  advanced_pc b i stands =
      let small = law.objects.low b.pc i stands in
      omega arith

  pub sound_placed : (b : State) (registers : List ℕ) (at : ℕ) → Sound w b → length registers ≡ 32 → Sound w (placed b registers at)
  sound_placed b registers at sound size =
      record { running = sound.running; rights = sound.rights; size = size; bytes = sound.bytes; code = sound.code }

  pub becomes : (b : State) (i : Instr) (to value : ℕ) → Sound w b → w.placing.code b.pc ≡ Some i → to ≢ 0 → to < 32 → instr_shows (Some i) b ≡ [] → act i b ≡ advanced (with_register b to value) → Becomes b to to value (b.pc + 4) 1 1
  becomes b i to value sound stands some small shows acts =
      let size = sound.size in
      let within : to < length b.registers = omega arith in
      let test : nat_eq to 0 ≡ false = grind (arith, nat_tests) in
      let registers : cond (nat_eq to 0) b.registers (set b.registers to value) ≡ set b.registers to value = cond-false (nat_eq to 0) b.registers (set b.registers to value) test in
      let there = acts ∙ ap (λ rs. placed b rs ((b.pc + 4) % 2 ^ 32)) registers ∙ ap (λ n. placed b (set b.registers to value) n) (advanced_pc b i stands) in
      record {
        registers = set b.registers to value;
        size = length-set b.registers to value ∙ size;
        value_is = get_or-set_same b.registers to value 0 within;
        others = λ q other more. get_or-set_other b.registers to q value 0 other;
        walk = walk_step b (placed b (set b.registers to value) (b.pc + 4)) i [] sound stands shows there;
      }

-- ---- what stands

pub plain_first : (g : Placing) (r at : ℕ) (i : Instr) (items : List Item) (end : ℕ) → Stands g r at (Plain i ∷ items) end → (g.code at ≡ Some i) × Stands g r (at + 4) items end
unfolding Expands StandsHere past
plain_first g r at i items end (First is expands here rest) =
    let here' = subst (StandsHere g at) expands here in
    let rest' = subst (λ js. Stands g r (past at js) items end) expands rest in
    (here'.0, rest')

pub record Split (g : Placing) (r at : ℕ) (xs ys : List Item) (end : ℕ) : Type 0 where
  pub middle : ℕ
  pub first : Stands g r at xs middle
  pub second : Stands g r middle ys end

pub split : (g : Placing) (r at : ℕ) (xs ys : List Item) (end : ℕ) → Stands g r at (xs ++ ys) end → Split g r at xs ys end
split g r at [] ys end stands = record { middle = at; first = Nothing refl; second = stands }
split g r at (x ∷ xs) ys end (First is expands here rest) =
    let more = split g r (past at is) xs ys end rest in
    record { middle = more.middle; first = First is expands here more.first; second = more.second }

pub nothing_more : (g : Placing) (r at end : ℕ) → Stands g r at [] end → at ≡ end
nothing_more g r at end (Nothing is) = is
