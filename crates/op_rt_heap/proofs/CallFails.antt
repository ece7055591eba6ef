-- A call that ends the program with run-time error 203.
use Rattle.std.proofs.Common.{◌≡◌, ◌≢◌, ℕ, ◌+◌, ◌≤◌, true, nat_lt, List, [], ◌∷◌, ◌++◌, drop, length, slice_index, slice_get, refl, ap, ap₂, sym, subst, ◌∙◌, arith}
use Rattle.std.proofs.lemmas.Bool.{and_from, cond-true}
use Rattle.std.proofs.lemmas.Bool.Decides.{nat_tests}
use Rattle.op_low.specs.Machine.{Written, act, cost, cost_by, done, low_machine, shown_by, shows, step, step_by_ending, write}
use Rattle.op_low.specs.State.{Bad, Ended, Ending, Placement, State, bad, code_or, usable}
use Rattle.op_low.specs.declared.code.Low.{Low}
use Rattle.op_low.specs.declared.code.Routine.{Routine}
use Rattle.op_low.specs.declared.instruction.Call.{Call as Operands}
use Rattle.op_low.specs.declared.instruction.Instruction.{Instruction}
use Rattle.op_low.specs.declared.instruction.Instruction.TheVariants.{Address, Call, Write}
use Rattle.op_low.specs.declared.instruction.Output.TheVariants.{Errors}
use Rattle.op_rt_heap.proofs.Calling.{begins_there, enters}
use Rattle.op_rt_heap.proofs.Moves.{const_goes, here, set}
use Rattle.op_rt_heap.proofs.Walks.{Walk, cleared, path_of_walk, standing, walk_act, walk_then}
use Rattle.op_rt_heap.specs.Fail.{fails}
use Rattle.op_rt_heap.specs.Names.{error_text, register, routine_id}
use Rattle.op_rt_heap.specs.Running.{Fails, HasErrorText, IsCalled}
use Rattle.op_rv.proofs.Memory.{all_of, bytes_from-same}
use Rattle.op_rv.specs.State.{all_from, bytes_from}
use Rattle.op_simulation.specs.Path.{Path}
use Rattle.op_simulation.specs.System.{run, spent, trace}

module _ (low : Low) (p : Placement) (m : State) (r : ℕ) (operands : Operands) (rest : List Instruction) (line : List ℕ) (stands : HasErrorText p m line) (unchanged : (x : ℕ) → cleared low m r x ≡ m.memory x) where
  abbrev memory : ℕ → ℕ
  memory = cleared low m r

  -- the program has ended
  abbrev pub over : (ℕ → ℕ) → State
  over registers = record (here low p m r operands rest registers [] memory) { errors = m.errors ++ line; ending = Ended 203 }

  abbrev at : ℕ
  at = p.address error_text

  abbrev pub failed : (ℕ → ℕ) → ℕ → ℕ
  failed registers = set 1 203 (set 1 18 (set 3 at registers))

  abbrev shown : (ℕ → ℕ) → List Instruction → List ℕ → State
  shown registers now errors = record (here low p m r operands rest registers now memory) { errors = errors }

  address_step : (registers : ℕ → ℕ) → Walk low p (here low p m r operands rest registers fails memory) (here low p m r operands rest (set 3 at registers) (drop 1 fails) memory) [] 1
  unfolding act shown_by cost_by
  address_step registers = walk_act low p (here low p m r operands rest registers (drop 1 fails) memory) (here low p m r operands rest (set 3 at registers) (drop 1 fails) memory) (Address (register 3) error_text) (drop 1 fails) [] refl refl 1 (omega arith) (omega arith)

  write_step : (registers : ℕ → ℕ) → registers 3 ≡ at → registers 1 ≡ 18 → Walk low p (here low p m r operands rest registers (drop 2 fails) memory) (shown registers (drop 3 fails) (m.errors ++ line)) (Written Errors line ∷ []) 1
  unfolding act write shown_by cost_by
  write_step registers at_is size_is =
      let below = stands.below in
      let state = here low p m r operands rest registers (drop 3 fails) memory in
      let may_all : all_from (usable p.rights.readable state) at 18 ≡ true = all_of (usable p.rights.readable state) at 18 (λ x from before. and_from (p.rights.readable x) (nat_lt x state.limit) (stands.readable x from before) (grind (arith, nat_tests))) in
      let may : all_from (usable p.rights.readable state) (registers 3) (registers 1) ≡ true = ap₂ (all_from (usable p.rights.readable state)) at_is size_is ∙ may_all in
      let are : bytes_from memory (registers 3) (registers 1) ≡ line = ap₂ (bytes_from memory) at_is size_is ∙ bytes_from-same m.memory memory at 18 (λ x from before. unchanged x) ∙ stands.stands in
      walk_act low p state (shown registers (drop 3 fails) (m.errors ++ line)) (Write Errors (register 3) (register 1)) (drop 3 fails) (Written Errors line ∷ [])
      (cond-true (all_from (usable p.rights.readable state) (registers 3) (registers 1)) (shown registers (drop 3 fails) (m.errors ++ bytes_from memory (registers 3) (registers 1))) (bad state) may
      ∙ ap (λ bytes. shown registers (drop 3 fails) (m.errors ++ bytes)) are)
      (cond-true (all_from (usable p.rights.readable state) (registers 3) (registers 1)) (Written Errors (bytes_from memory (registers 3) (registers 1)) ∷ []) [] may
      ∙ ap (λ bytes. Written Errors bytes ∷ []) are)
      1 (omega arith) (omega arith)

  exit_steps : (registers : ℕ → ℕ) (errors : List ℕ) → Walk low p (shown registers (drop 3 fails) errors) (record (shown (set 1 203 registers) [] errors) { ending = Ended 203 }) [] 2
  unfolding step step_by_ending done act run trace spent shows shown_by cost cost_by
  exit_steps registers errors = record { steps = 2; few = omega arith; ends = refl; shown = refl; within = omega arith }

  pub tells : (registers : ℕ → ℕ) → Walk low p (here low p m r operands rest registers fails memory) (over (failed registers)) (Written Errors line ∷ []) 5
  tells registers =
      walk_then (address_step registers)
      (walk_then (const_goes low p m r operands rest (set 3 at registers) memory 1 18 (drop 2 fails))
      (walk_then (write_step (set 1 18 (set 3 at registers)) refl refl)
      (exit_steps (set 1 18 (set 3 at registers)) (m.errors ++ line))))

  ended_fine : (e : Ending) → e ≡ Ended 203 → e ≢ Bad
  ended_fine e is is_bad = let clash : Ended 203 ≡ Bad = sym is ∙ is_bad in cc

  -- from a walk over the code of a routine to a call of it
  pub call_fails : (routine : Routine) (arguments : List ℕ) (code : List Instruction) (last : ℕ → ℕ) (inner most : ℕ) → IsCalled low p m r routine arguments operands rest → routine.locals ≡ 0 → routine.parameters ≡ length arguments → length arguments ≤ 8 → code_or (slice_get routine.blocks 0) ≡ code → 73 + inner ≤ most → Walk low p (here low p m r operands rest (slice_index arguments) code memory) (over last) (Written Errors line ∷ []) inner → Fails low p m line most
  call_fails routine arguments code last inner most called none takes few first enough body =
      let walk = walk_then (enters low p m r routine arguments operands rest code none takes few first called) body in
      let path = path_of_walk low p (standing m (Call (routine_id r) operands ∷ rest)) (over last) (Written Errors line ∷ []) (73 + inner) walk (ended_fine (Ended 203) refl) in
      let within = path.within in
      let less = walk.few in
      let longer : Path (low_machine low p) (λ s. s.ending ≢ Bad) (standing m (Call (routine_id r) operands ∷ rest)) (over last) walk.steps (Written Errors line ∷ []) most =
      record { ends = path.ends; shows = path.shows; within = omega arith; moments = path.moments } in
      record {
        to = over last;
        ended = refl;
        memory = unchanged;
        input = refl;
        output = refl;
        errors = refl;
        steps = walk.steps;
        few = omega arith;
        path = subst (λ b. Path (low_machine low p) (λ s. s.ending ≢ Bad) b (over last) walk.steps (Written Errors line ∷ []) most) (sym (begins_there low p m r routine arguments operands rest called)) longer;
      }
