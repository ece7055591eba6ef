-- The machine of low code does straight code as its outcome says.
use Rattle.std.proofs.Common.{ℕ, suc, ◌+◌, Bool, true, false, List, [], ◌∷◌, ◌++◌, length, arith, if◌then◌else◌}
use Rattle.op_compute.specs.Straight.{put, alu_of, imm_of, shift_of, takes, Outcome, Behind, Away, Crooked, outcome, at, Leads, LeadsTo, fewest_steps}
use Rattle.op_low.specs.Machine.{low_machine, step, step_by_ending, done, act, shows, shown_by, cost, cost_by}
use Rattle.op_low.specs.State.{Placement, State, block_of}
use Rattle.op_low.specs.declared.code.Low.{Low}
use Rattle.op_low.specs.declared.instruction.Instruction.{Instruction}
use Rattle.op_low.specs.declared.instruction.Instruction.TheVariants.{Const, Address, Local, Move, Alu, AluImm, Shift, Load, Store, Call, CallAt, Branch, Jump, Return, Raise, Read, Write, Exit}
use Rattle.op_rv.specs.declared.symbol.BlockId.{BlockId}
use Rattle.op_simulation.proofs.Paths.{path_none, path_step, path_join}
use Rattle.op_simulation.specs.Path.{Path}

module _ (low : Low) (p : Placement) (holds : State → Type 0) (m : State) (each : (f : ℕ → ℕ) (now : List Instruction) → holds (at m f now)) where
  abbrev To : State → List Instruction → (fewest most : ℕ) → Outcome → Type 0
  To from rest fewest most o = LeadsTo low p holds m from rest fewest most o

  none : (n : ℕ) (s : State) → Leads low p holds s s 0 n
  none n s = record { steps = 0; enough = omega arith; within = omega arith; path = path_none (low_machine low p) holds s }

  -- a step in front
  one : (s t u : State) (k n : ℕ) → Path (low_machine low p) holds s t 1 [] 1 → Leads low p holds t u k n → Leads low p holds s u 1 (suc n)
  one s t u k n first rest =
      let within = rest.within in
      record {
        steps = 1 + rest.steps;
        enough = omega arith;
        within = omega arith;
        path = path_join (low_machine low p) holds s t u 1 rest.steps [] [] 1 rest.steps first rest.path;
      }

  one_to : (s t : State) (rest : List Instruction) (k n : ℕ) (o : Outcome) → Path (low_machine low p) holds s t 1 [] 1 → To t rest k n o → To s rest 1 (suc n) o
  one_to s t rest k n (Behind g) first to = one s t (at m g rest) k n first to
  one_to s t rest k n (Away block g) first to = one s t (at m g (block_of low m.top.routine block.0)) k n first to
  one_to s t rest k n Crooked first to = tt

  abbrev First : State → State → Type 0
  First s t = Path (low_machine low p) holds s t 1 [] 1

  branch_to : (taken : Bool) (s t : State) (block : BlockId) (f : ℕ → ℕ) (rest : List Instruction) (k n : ℕ) (o : Outcome) → First s (if taken then at m f (block_of low m.top.routine block.0) else t) → To t rest k n o → To s rest 1 (suc n) (if taken then Away block f else o)
  branch_to true s t block f rest k n o first to = one s (at m f (block_of low m.top.routine block.0)) (at m f (block_of low m.top.routine block.0)) 0 n first (none n (at m f (block_of low m.top.routine block.0)))
  branch_to false s t block f rest k n o first to = one_to s t rest k n o first to

  abbrev goes : Instruction → List Instruction → List Instruction → (ℕ → ℕ) → State
  goes i is rest f = at m f (i ∷ (is ++ rest))

  sets : (i : Instruction) (is rest : List Instruction) (f g : ℕ → ℕ) → First (goes i is rest f) (at m g (is ++ rest)) → To (at m g (is ++ rest)) rest (fewest_steps is) (length is) (outcome is g) → To (goes i is rest f) rest 1 (suc (length is)) (outcome is g)
  sets i is rest f g first to = one_to (goes i is rest f) (at m g (is ++ rest)) rest (fewest_steps is) (length is) (outcome is g) first to

  abbrev first_step : Instruction → List Instruction → List Instruction → (ℕ → ℕ) → Type 0
  first_step i is rest f = Path (low_machine low p) holds (goes i is rest f) (step low p (goes i is rest f)) 1 (shows p (goes i is rest f).ending (goes i is rest f)) (cost low p (goes i is rest f).ending (goes i is rest f))

  first : (i : Instruction) (is rest : List Instruction) (f : ℕ → ℕ) → first_step i is rest f
  first i is rest f = path_step (low_machine low p) holds (goes i is rest f) (each f (i ∷ (is ++ rest)))

  pub straight_runs : (code rest : List Instruction) (f : ℕ → ℕ) → To (at m f (code ++ rest)) rest (fewest_steps code) (length code) (outcome code f)
  unfolding outcome put alu_of imm_of shift_of takes step step_by_ending done act shows shown_by cost cost_by
  straight_runs [] rest f = none 0 (at m f rest)
  straight_runs (Const to n ∷ is) rest f = sets (Const to n) is rest f (put f to n) (first (Const to n) is rest f) (straight_runs is rest (put f to n))
  straight_runs (Move to a ∷ is) rest f = sets (Move to a) is rest f (put f to (f a.0)) (first (Move to a) is rest f) (straight_runs is rest (put f to (f a.0)))
  straight_runs (Alu op to a b ∷ is) rest f = sets (Alu op to a b) is rest f (put f to (alu_of op (f a.0) (f b.0))) (first (Alu op to a b) is rest f) (straight_runs is rest (put f to (alu_of op (f a.0) (f b.0))))
  straight_runs (AluImm op to a imm ∷ is) rest f = sets (AluImm op to a imm) is rest f (put f to (imm_of op (f a.0) imm)) (first (AluImm op to a imm) is rest f) (straight_runs is rest (put f to (imm_of op (f a.0) imm)))
  straight_runs (Shift op to a amount ∷ is) rest f = sets (Shift op to a amount) is rest f (put f to (shift_of op (f a.0) amount)) (first (Shift op to a amount) is rest f) (straight_runs is rest (put f to (shift_of op (f a.0) amount)))
  straight_runs (Branch op a b block ∷ is) rest f =
      branch_to (takes op (f a.0) (f b.0)) (at m f (Branch op a b block ∷ (is ++ rest))) (at m f (is ++ rest)) block f rest (fewest_steps is) (length is) (outcome is f) (first (Branch op a b block) is rest f) (straight_runs is rest f)
  straight_runs (Jump block ∷ is) rest f =
      branch_to true (at m f (Jump block ∷ (is ++ rest))) (at m f (is ++ rest)) block f rest (fewest_steps is) (length is) (outcome is f) (first (Jump block) is rest f) (straight_runs is rest f)
  straight_runs (Address to symbol ∷ is) rest f = tt
  straight_runs (Local to offset ∷ is) rest f = tt
  straight_runs (Load op to a offset ∷ is) rest f = tt
  straight_runs (Store op a b offset ∷ is) rest f = tt
  straight_runs (Call r call ∷ is) rest f = tt
  straight_runs (CallAt a call ∷ is) rest f = tt
  straight_runs (Return a ∷ is) rest f = tt
  straight_runs (Raise ∷ is) rest f = tt
  straight_runs (Read to a b ∷ is) rest f = tt
  straight_runs (Write output a b ∷ is) rest f = tt
  straight_runs (Exit a ∷ is) rest f = tt
