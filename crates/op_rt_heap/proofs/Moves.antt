-- One instruction within a routine that was called, with what it leaves in registers and memory.
use Rattle.std.proofs.Common.{◌≡◌, ℕ, ◌+◌, ◌%◌, ◌<◌, ◌≤◌, Bool, true, false, nat_eq, nat_lt, List, [], ◌∷◌, refl, ap, ◌∙◌, arith, cond, ap₂, ℤ}
use Rattle.std.proofs.lemmas.Bool.{and_from, cond-false, cond-true}
use Rattle.std.proofs.lemmas.Bool.Decides.{nat_tests}
use Rattle.op_heap.proofs.Words.{with_word}
use Rattle.op_low.specs.Machine.{act, cost_by, load, shown_by, store}
use Rattle.op_low.specs.State.{Placement, State, bad, block_of, usable}
use Rattle.op_low.specs.declared.code.Low.{Low}
use Rattle.op_low.specs.declared.instruction.Call.{Call as Operands}
use Rattle.op_low.specs.declared.instruction.Instruction.{Instruction}
use Rattle.op_low.specs.declared.instruction.Instruction.TheVariants.{Alu, AluImm, Branch, Const, Jump, Load, Move, Shift, Store}
use Rattle.op_rt_heap.proofs.Walks.{Walk, inside, walk_act}
use Rattle.op_rt_heap.specs.Names.{block_id, register}
use Rattle.op_rt_heap.specs.Running.{IsOpen}
use Rattle.op_rv.proofs.Memory.{can_access_word}
use Rattle.op_rv.specs.Operation.{alu_value, branch_taken, imm_value, shift_value, word_from}
use Rattle.op_rv.specs.State.{word_at}
use Rattle.op_rv.specs.Step.{can_access, offset_from}
use Rattle.op_rv.specs.declared.instruction.AluOp.{AluOp}
use Rattle.op_rv.specs.declared.instruction.BranchOp.{BranchOp}
use Rattle.op_rv.specs.declared.instruction.ImmOp.{ImmOp}
use Rattle.op_rv.specs.declared.instruction.LoadOp.TheVariants.{Lw}
use Rattle.op_rv.specs.declared.instruction.ShiftOp.{ShiftOp}
use Rattle.op_rv.specs.declared.instruction.StoreOp.TheVariants.{Sw}

abbrev pub set : ℕ → ℕ → (ℕ → ℕ) → ℕ → ℕ
set to v registers x = cond (nat_eq x to) v (registers x)

-- a word that may be used
pub record IsWordOpen (p : Placement) (m : State) (a : ℕ) : Type 0 where
  pub aligned : a % 4 ≡ 0
  pub opens : IsOpen p m a 4

-- one of the words of a region that may be used
pub word_open : (p : Placement) (m : State) (at size a : ℕ) → IsOpen p m at size → at ≤ a → a + 4 ≤ at + size → a % 4 ≡ 0 → IsWordOpen p m a
word_open p m at size a opened from before aligned =
    let below = opened.below in
    record {
      aligned = aligned;
      opens = record { readable = λ x lower upper. opened.readable x (omega arith) (omega arith); writable = λ x lower upper. opened.writable x (omega arith) (omega arith); below = omega arith };
    }

module _ (low : Low) (p : Placement) (m : State) (r : ℕ) (operands : Operands) (rest : List Instruction) where
  abbrev pub here : (ℕ → ℕ) → List Instruction → (ℕ → ℕ) → State
  here registers now memory = inside low p m r operands rest registers now memory

  abbrev Goes : State → State → Type 0
  Goes b c = Walk low p b c [] 1

  opens : (right : ℕ → Bool) (state : State) (a : ℕ) → m.limit ≤ state.limit → a % 4 ≡ 0 → ((x : ℕ) → a ≤ x → x < a + 4 → right x ≡ true) → a + 4 ≤ m.limit → can_access (usable right state) a 4 ≡ true
  opens right state a higher aligned has below =
      can_access_word (usable right state) a aligned
      (λ x from before. and_from (right x) (nat_lt x state.limit) (has x from before) (grind (arith, nat_tests)))

  pub const_goes : (registers memory : ℕ → ℕ) (to v : ℕ) (is : List Instruction) → Goes (here registers (Const (register to) v ∷ is) memory) (here (set to v registers) is memory)
  unfolding act shown_by cost_by
  const_goes registers memory to v is =
      walk_act low p (here registers is memory) (here (set to v registers) is memory) (Const (register to) v) is [] refl refl 1 (omega arith) (omega arith)

  pub move_goes : (registers memory : ℕ → ℕ) (to from v : ℕ) (is : List Instruction) → registers from ≡ v → Goes (here registers (Move (register to) (register from) ∷ is) memory) (here (set to v registers) is memory)
  unfolding act shown_by cost_by
  move_goes registers memory to from v is gives =
      walk_act low p (here registers is memory) (here (set to v registers) is memory) (Move (register to) (register from)) is []
      (ap (λ v. here (set to v registers) is memory) gives) refl 1 (omega arith) (omega arith)

  pub alu_goes : (registers memory : ℕ → ℕ) (op : AluOp) (to left right v : ℕ) (is : List Instruction) → alu_value op (registers left) (registers right) ≡ v → Goes (here registers (Alu op (register to) (register left) (register right) ∷ is) memory) (here (set to v registers) is memory)
  unfolding act shown_by cost_by
  alu_goes registers memory op to left right v is gives =
      walk_act low p (here registers is memory) (here (set to v registers) is memory) (Alu op (register to) (register left) (register right)) is []
      (ap (λ v. here (set to v registers) is memory) gives) refl 1 (omega arith) (omega arith)

  pub imm_goes : (registers memory : ℕ → ℕ) (op : ImmOp) (to left : ℕ) (imm : ℤ) (v : ℕ) (is : List Instruction) → imm_value op (registers left) (word_from imm) ≡ v → Goes (here registers (AluImm op (register to) (register left) imm ∷ is) memory) (here (set to v registers) is memory)
  unfolding act shown_by cost_by
  imm_goes registers memory op to left imm v is gives =
      walk_act low p (here registers is memory) (here (set to v registers) is memory) (AluImm op (register to) (register left) imm) is []
      (ap (λ v. here (set to v registers) is memory) gives) refl 1 (omega arith) (omega arith)

  pub load_goes : (registers memory : ℕ → ℕ) (to base : ℕ) (offset : ℤ) (a v : ℕ) (is : List Instruction) → offset_from (registers base) offset ≡ a → word_at memory a ≡ v → IsWordOpen p m a → Goes (here registers (Load Lw (register to) (register base) offset ∷ is) memory) (here (set to v registers) is memory)
  unfolding act load shown_by cost_by
  load_goes registers memory to base offset a v is there gives opened =
      let state = here registers is memory in
      let may : can_access (usable p.rights.readable state) (offset_from (registers base) offset) 4 ≡ true =
      ap (λ a. can_access (usable p.rights.readable state) a 4) there ∙ opens p.rights.readable state a (omega arith) opened.aligned opened.opens.readable opened.opens.below in
      walk_act low p state (here (set to v registers) is memory) (Load Lw (register to) (register base) offset) is []
      (cond-true (can_access (usable p.rights.readable state) (offset_from (registers base) offset) 4) (here (set to (word_at memory (offset_from (registers base) offset)) registers) is memory) (bad state) may
      ∙ ap (λ a. here (set to (word_at memory a) registers) is memory) there
      ∙ ap (λ v. here (set to v registers) is memory) gives)
      refl 1 (omega arith) (omega arith)

  pub store_goes : (registers memory : ℕ → ℕ) (from base : ℕ) (offset : ℤ) (a v : ℕ) (is : List Instruction) → offset_from (registers base) offset ≡ a → registers from ≡ v → IsWordOpen p m a → Goes (here registers (Store Sw (register from) (register base) offset ∷ is) memory) (here registers is (with_word memory a v))
  unfolding act store shown_by cost_by
  store_goes registers memory from base offset a v is there gives opened =
      let state = here registers is memory in
      let may : can_access (usable p.rights.writable state) (offset_from (registers base) offset) 4 ≡ true =
      ap (λ a. can_access (usable p.rights.writable state) a 4) there ∙ opens p.rights.writable state a (omega arith) opened.aligned opened.opens.writable opened.opens.below in
      walk_act low p state (here registers is (with_word memory a v)) (Store Sw (register from) (register base) offset) is []
      (cond-true (can_access (usable p.rights.writable state) (offset_from (registers base) offset) 4) (here registers is (with_word memory (offset_from (registers base) offset) (registers from))) (bad state) may
      ∙ ap₂ (λ a v. here registers is (with_word memory a v)) there gives)
      refl 1 (omega arith) (omega arith)

  pub branch_goes : (registers memory : ℕ → ℕ) (op : BranchOp) (left right to : ℕ) (code is : List Instruction) → block_of low r to ≡ code → branch_taken op (registers left) (registers right) ≡ true → Goes (here registers (Branch op (register left) (register right) (block_id to) ∷ is) memory) (here registers code memory)
  unfolding act shown_by cost_by
  branch_goes registers memory op left right to code is there taken =
      walk_act low p (here registers is memory) (here registers code memory) (Branch op (register left) (register right) (block_id to)) is []
      (cond-true (branch_taken op (registers left) (registers right)) (here registers (block_of low r to) memory) (here registers is memory) taken
      ∙ ap (λ code. here registers code memory) there)
      refl 1 (omega arith) (omega arith)

  pub past_goes : (registers memory : ℕ → ℕ) (op : BranchOp) (left right to : ℕ) (is : List Instruction) → branch_taken op (registers left) (registers right) ≡ false → Goes (here registers (Branch op (register left) (register right) (block_id to) ∷ is) memory) (here registers is memory)
  unfolding act shown_by cost_by
  past_goes registers memory op left right to is passed =
      walk_act low p (here registers is memory) (here registers is memory) (Branch op (register left) (register right) (block_id to)) is []
      (cond-false (branch_taken op (registers left) (registers right)) (here registers (block_of low r to) memory) (here registers is memory) passed)
      refl 1 (omega arith) (omega arith)

  pub jump_goes : (registers memory : ℕ → ℕ) (to : ℕ) (code is : List Instruction) → block_of low r to ≡ code → Goes (here registers (Jump (block_id to) ∷ is) memory) (here registers code memory)
  unfolding act shown_by cost_by
  jump_goes registers memory to code is there =
      walk_act low p (here registers is memory) (here registers code memory) (Jump (block_id to)) is []
      (ap (λ code. here registers code memory) there) refl 1 (omega arith) (omega arith)

  pub shift_goes : (registers memory : ℕ → ℕ) (op : ShiftOp) (to left amount v : ℕ) (is : List Instruction) → shift_value op (registers left) amount ≡ v → Goes (here registers (Shift op (register to) (register left) amount ∷ is) memory) (here (set to v registers) is memory)
  unfolding act shown_by cost_by
  shift_goes registers memory op to left amount v is gives =
      walk_act low p (here registers is memory) (here (set to v registers) is memory) (Shift op (register to) (register left) amount) is []
      (ap (λ v. here (set to v registers) is memory) gives) refl 1 (omega arith) (omega arith)
