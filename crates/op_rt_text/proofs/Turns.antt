-- Code that does the same with bytes of memory, unit by unit: a loop over units of one size, and a part that passes over such a loop where
-- nothing is left for it.
use Rattle.std.proofs.Common.{◌≡◌, ℕ, zero, suc, ◌+◌, ◌*◌, ◌<◌, ◌≤◌, true, false, not, nat_eq, List, [], ◌∷◌, ap, ap₂, sym, subst, ◌∙◌, arith}
use Rattle.std.proofs.Math.Nat.{mul-suc, mul-zero}
use Rattle.std.proofs.lemmas.Bool.Decides.{nat_tests}
use Rattle.op_low.specs.State.{Placement, State, block_of}
use Rattle.op_low.specs.declared.code.Low.{Low}
use Rattle.op_low.specs.declared.instruction.Call.{Call as Operands}
use Rattle.op_low.specs.declared.instruction.Instruction.{Instruction}
use Rattle.op_low.specs.declared.instruction.Instruction.TheVariants.{Branch, Jump}
use Rattle.op_rt_text.specs.Names.{block_id, register}
use Rattle.op_rt_text.proofs.Calls.{inside}
use Rattle.op_rt_text.proofs.Walks.{Walk, walk_branch, walk_jump, walk_longer, walk_none, walk_past, walk_then}
use Rattle.op_rv.specs.Operation.{branch_taken}
use Rattle.op_rv.specs.declared.instruction.BranchOp.TheVariants.{Beq, Bne}

-- What is done with k bytes from t on, and maybe with those from f on: how registers lead there, what it wants of memory, and what becomes
-- of it. What is done to some bytes and then to those behind them is done to all.
pub record Task : Type 1 where
  pub At : (registers : ℕ → ℕ) → (t f : ℕ) → Type 0
  pub Wants : (memory : ℕ → ℕ) → (t f k : ℕ) → Type 0
  pub Does : (before after : ℕ → ℕ) → (t f k : ℕ) → Type 0
  pub nothing : (memory : ℕ → ℕ) (t f : ℕ) → Does memory memory t f 0
  pub front : (memory : ℕ → ℕ) (t f n k : ℕ) → Wants memory t f (n + k) → Wants memory t f n
  pub back : (memory middle : ℕ → ℕ) (t f n k : ℕ) → Wants memory t f (n + k) → Does memory middle t f n → Wants middle (t + n) (f + n) k
  pub joined : (memory middle after : ℕ → ℕ) (t f n k : ℕ) → Wants memory t f (n + k) → Does memory middle t f n → Does middle after (t + n) (f + n) k → Does memory after t f (n + k)

-- The code comes to other code of the routine, and the task is done with so many bytes.
pub record Done (low : Low) (p : Placement) (m : State) (r : ℕ) (operands : Operands) (rest : List Instruction) (task : Task) (registers : ℕ → ℕ) (now : List Instruction) (memory : ℕ → ℕ) (t f k : ℕ) (later : List Instruction) (most : ℕ) : Type 0 where
  pub next : ℕ → ℕ
  pub after : ℕ → ℕ
  pub there : task.At next (t + k) (f + k)
  pub does : task.Does memory after t f k
  pub walk : Walk low p (inside low p m r operands rest registers now memory m.output) (inside low p m r operands rest next later after m.output) [] most

-- after the last instruction of a unit: once more from block l on, or on to block x where register 0 has come to what register v has
abbrev pub loop_tail : (v l x : ℕ) → List Instruction
loop_tail v l x = Branch Bne (register 0) (register v) (block_id l) ∷ Jump (block_id x) ∷ []

-- in front of such a loop
abbrev pub part_code : (v l x : ℕ) → List Instruction
part_code v l x = Branch Beq (register 0) (register v) (block_id x) ∷ Jump (block_id l) ∷ []

module _ (low : Low) (p : Placement) (m : State) (r : ℕ) (operands : Operands) (rest : List Instruction) (task : Task) where
  abbrev here : (ℕ → ℕ) → List Instruction → (ℕ → ℕ) → State
  here registers now memory = inside low p m r operands rest registers now memory m.output

  abbrev Does : (ℕ → ℕ) → List Instruction → (ℕ → ℕ) → ℕ → ℕ → ℕ → List Instruction → ℕ → Type 0
  Does registers now memory t f k later most = Done low p m r operands rest task registers now memory t f k later most

  -- nothing is done
  pub done_none : (registers memory : ℕ → ℕ) (now : List Instruction) (t f : ℕ) → task.At registers t f → Does registers now memory t f 0 now 0
  done_none registers memory now t f at =
      let to_end : t ≡ t + 0 = omega arith in
      let from_end : f ≡ f + 0 = omega arith in
      record {
        next = registers;
        after = memory;
        there = subst (λ a. task.At registers a (f + 0)) to_end (subst (λ b. task.At registers t b) from_end at);
        does = task.nothing memory t f;
        walk = walk_none low p (here registers now memory);
      }

  -- some steps that leave memory, and then the task
  pub then_done : (registers other memory : ℕ → ℕ) (now middle later : List Instruction) (t f k e most more : ℕ) → Walk low p (here registers now memory) (here other middle memory) [] e → Does other middle memory t f k later most → e + most ≤ more → Does registers now memory t f k later more
  then_done registers other memory now middle later t f k e most more first second enough =
      record { next = second.next; after = second.after; there = second.there; does = second.does; walk = walk_longer (walk_then first second.walk) enough }

  -- the task with some bytes, and then with those behind them
  pub done_then : (registers memory : ℕ → ℕ) (now middle later : List Instruction) (t f n k c most more : ℕ) → task.Wants memory t f (n + k) → (first : Does registers now memory t f n middle c) → Does first.next middle first.after (t + n) (f + n) k later most → c + most ≤ more → Does registers now memory t f (n + k) later more
  done_then registers memory now middle later t f n k c most more wants first second enough =
      let to_end : t + n + k ≡ t + (n + k) = omega arith in
      let from_end : f + n + k ≡ f + (n + k) = omega arith in
      record {
        next = second.next;
        after = second.after;
        there = subst (λ a. task.At second.next a (f + (n + k))) to_end (subst (λ b. task.At second.next (t + n + k) b) from_end second.there);
        does = task.joined memory first.after second.after t f n k wants first.does second.does;
        walk = walk_longer (walk_then first.walk second.walk) enough;
      }

  -- units of n bytes in block l, each of which takes c steps, and one to go back; behind the last one the code goes on with block x
  module _ (n c : ℕ) (some : 0 < n) (v w l x : ℕ) (unit : List Instruction) (is : block_of low r l ≡ unit) (to_is : (registers : ℕ → ℕ) (t f : ℕ) → task.At registers t f → registers 0 ≡ t) (end_is : (registers : ℕ → ℕ) (t f : ℕ) → task.At registers t f → registers v ≡ w) (unit_done : (registers memory : ℕ → ℕ) (t f : ℕ) → task.At registers t f → task.Wants memory t f n → Does registers unit memory t f n (loop_tail v l x) c) where
    again_step : (registers memory : ℕ → ℕ) (t f : ℕ) → task.At registers t f → t < w → Walk low p (here registers (loop_tail v l x) memory) (here registers unit memory) [] 1
    again_step registers memory t f at less =
        let differ : nat_eq t w ≡ false = grind (arith, nat_tests) in
        let taken : branch_taken Bne (registers 0) (registers v) ≡ true = ap₂ (branch_taken Bne) (to_is registers t f at) (end_is registers t f at) ∙ ap not differ in
        subst (λ now. Walk low p (here registers (loop_tail v l x) memory) (here registers now memory) [] 1) is
        (walk_branch low p (here registers (Jump (block_id x) ∷ []) memory) Bne (register 0) (register v) (block_id l) (Jump (block_id x) ∷ []) taken)

    leave_step : (registers memory : ℕ → ℕ) (t f : ℕ) → task.At registers t f → t ≡ w → Walk low p (here registers (loop_tail v l x) memory) (here registers (block_of low r x) memory) [] 2
    leave_step registers memory t f at same =
        let equal : nat_eq t w ≡ true = grind (arith, nat_tests) in
        let passed : branch_taken Bne (registers 0) (registers v) ≡ false = ap₂ (branch_taken Bne) (to_is registers t f at) (end_is registers t f at) ∙ ap not equal in
        walk_then
        (walk_past low p (here registers (Jump (block_id x) ∷ []) memory) Bne (register 0) (register v) (block_id l) (Jump (block_id x) ∷ []) passed)
        (walk_jump low p (here registers [] memory) (block_id x) [])

    -- k units more than one
    pub loop_done : (k : ℕ) (registers memory : ℕ → ℕ) (t f : ℕ) → task.At registers t f → task.Wants memory t f (n + n * k) → t + (n + n * k) ≡ w → Does registers unit memory t f (n + n * k) (block_of low r x) (suc c * k + (c + 2))
    loop_done zero registers memory t f at wants ends =
        let all : n + n * 0 ≡ n = omega (arith, mul-zero n) in
        let cost : c + 2 ≤ suc c * 0 + (c + 2) = omega arith in
        let one = unit_done registers memory t f at (subst (task.Wants memory t f) all wants) in
        subst (λ z. Does registers unit memory t f z (block_of low r x) (suc c * 0 + (c + 2))) (sym all)
        (record {
          next = one.next;
          after = one.after;
          there = one.there;
          does = one.does;
          walk = walk_longer (walk_then one.walk (leave_step one.next one.after (t + n) (f + n) one.there (omega (arith, all, ends)))) cost;
        })
    loop_done (suc k) registers memory t f at wants ends =
        let split : n + n * suc k ≡ n + (n + n * k) = omega (arith, mul-suc n k) in
        let cost : c + (1 + (suc c * k + (c + 2))) ≤ suc c * suc k + (c + 2) = omega (arith, mul-suc (suc c) k) in
        let all = subst (task.Wants memory t f) split wants in
        let one = unit_done registers memory t f at (task.front memory t f n (n + n * k) all) in
        let more = loop_done k one.next one.after (t + n) (f + n) one.there (task.back memory one.after t f n (n + n * k) all one.does) (omega (arith, split, ends)) in
        let again = again_step one.next one.after (t + n) (f + n) one.there (omega (arith, split, ends)) in
        let back = then_done one.next one.next one.after (loop_tail v l x) unit (block_of low r x) (t + n) (f + n) (n + n * k) 1 (suc c * k + (c + 2)) (1 + (suc c * k + (c + 2))) again more (omega arith) in
        subst (λ z. Does registers unit memory t f z (block_of low r x) (suc c * suc k + (c + 2))) (sym split)
        (done_then registers memory unit (loop_tail v l x) (block_of low r x) t f n (n + n * k) c (1 + (suc c * k + (c + 2))) (suc c * suc k + (c + 2)) all one back cost)

    pass_step : (registers memory : ℕ → ℕ) (t f : ℕ) → task.At registers t f → t ≡ w → Walk low p (here registers (part_code v l x) memory) (here registers (block_of low r x) memory) [] 1
    pass_step registers memory t f at same =
        let equal : nat_eq t w ≡ true = grind (arith, nat_tests) in
        let taken : branch_taken Beq (registers 0) (registers v) ≡ true = ap₂ (branch_taken Beq) (to_is registers t f at) (end_is registers t f at) ∙ equal in
        walk_branch low p (here registers (Jump (block_id l) ∷ []) memory) Beq (register 0) (register v) (block_id x) (Jump (block_id l) ∷ []) taken

    enter_step : (registers memory : ℕ → ℕ) (t f : ℕ) → task.At registers t f → t < w → Walk low p (here registers (part_code v l x) memory) (here registers unit memory) [] 2
    enter_step registers memory t f at less =
        let differ : nat_eq t w ≡ false = grind (arith, nat_tests) in
        let passed : branch_taken Beq (registers 0) (registers v) ≡ false = ap₂ (branch_taken Beq) (to_is registers t f at) (end_is registers t f at) ∙ differ in
        walk_then
        (walk_past low p (here registers (Jump (block_id l) ∷ []) memory) Beq (register 0) (register v) (block_id x) (Jump (block_id l) ∷ []) passed)
        (subst (λ now. Walk low p (here registers (Jump (block_id l) ∷ []) memory) (here registers now memory) [] 1) is (walk_jump low p (here registers [] memory) (block_id l) []))

    -- k units
    pub part_done : (k : ℕ) (registers memory : ℕ → ℕ) (t f : ℕ) → task.At registers t f → task.Wants memory t f (n * k) → t + n * k ≡ w → Does registers (part_code v l x) memory t f (n * k) (block_of low r x) (suc c * k + 3)
    part_done zero registers memory t f at wants ends =
        let all : n * 0 ≡ 0 = omega (arith, mul-zero n) in
        let pass = pass_step registers memory t f at (omega (arith, all, ends)) in
        subst (λ z. Does registers (part_code v l x) memory t f z (block_of low r x) (suc c * 0 + 3)) (sym all)
        (then_done registers registers memory (part_code v l x) (block_of low r x) (block_of low r x) t f 0 1 0 (suc c * 0 + 3) pass (done_none registers memory (block_of low r x) t f at) (omega arith))
    part_done (suc k) registers memory t f at wants ends =
        let split : n * suc k ≡ n + n * k = omega (arith, mul-suc n k) in
        let cost : 2 + (suc c * k + (c + 2)) ≤ suc c * suc k + 3 = omega (arith, mul-suc (suc c) k) in
        let enter = enter_step registers memory t f at (omega (arith, split, ends)) in
        let all = loop_done k registers memory t f at (subst (task.Wants memory t f) split wants) (omega (arith, split, ends)) in
        subst (λ z. Does registers (part_code v l x) memory t f z (block_of low r x) (suc c * suc k + 3)) (sym split)
        (then_done registers registers memory (part_code v l x) unit (block_of low r x) t f (n + n * k) 2 (suc c * k + (c + 2)) (suc c * suc k + 3) enter all cost)
