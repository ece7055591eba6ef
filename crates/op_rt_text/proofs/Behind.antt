-- From walks over a program that is written out to paths of any program with run-time routines.
use Rattle.std.proofs.Common.{◌≡◌, ◌≢◌, ℕ, ◌+◌, ◌*◌, ◌≤◌, List, [], ◌∷◌, ◌++◌, length, refl, ap, ap₂, sym, subst, arith}
use Rattle.op_low.specs.Machine.{low_machine}
use Rattle.op_low.specs.State.{Bad, Placement, State}
use Rattle.op_low.specs.declared.code.Low.{Low}
use Rattle.op_low.specs.declared.instruction.Call.{Call as Operands}
use Rattle.op_low.specs.declared.instruction.Instruction.{Instruction}
use Rattle.op_low.specs.declared.instruction.Instruction.TheVariants.{Call}
use Rattle.op_rt_text.specs.Names.{routine_id}
use Rattle.op_rt_text.specs.Running.{Called, Clears, Copies, HasRuntime, Writes, all_written, behind}
use Rattle.op_rt_text.proofs.ClearRun.{Cleared}
use Rattle.op_rt_text.proofs.CopyCalls.{Copied}
use Rattle.op_rt_text.proofs.Programs.{Written, program}
use Rattle.op_rt_text.proofs.Walks.{Walk, path_of_walk, standing}
use Rattle.op_simulation.specs.Path.{Path}

-- the program, with its routines in front
abbrev pub whole : (low : Low) (p : Placement) → HasRuntime low p → Low
whole low p runtime = program runtime.others low.entry low.counts low.globals

whole_is : (low : Low) (p : Placement) (runtime : HasRuntime low p) → low ≡ whole low p runtime
whole_is low p runtime = ap (λ routines. record low { routines = routines }) runtime.routines

module _ (low : Low) (p : Placement) (m : State) (r : ℕ) (arguments : List ℕ) (operands : Operands) (rest : List Instruction) (called : Called low p m r arguments operands rest) where
  abbrev Along : Low → State → State → ℕ → List (List ℕ) → ℕ → Type 0
  Along program b c steps pieces most = Path (low_machine program p) (λ s. s.ending ≢ Bad) b c steps (all_written pieces) most

  -- the machine stands before the call
  begins_there : m ≡ standing m (Call (routine_id r) operands ∷ rest)
  begins_there = ap₂ (λ now ending. record m { top = record m.top { now = now }; ending = ending }) called.next called.running

  ends_there : (value : ℕ) (memory : ℕ → ℕ) (output : List ℕ) → standing (behind m operands rest value memory output) rest ≡ behind m operands rest value memory output
  ends_there value memory output = ap (λ ending. record (behind m operands rest value memory output) { ending = ending }) (sym called.running)

  along : (value : ℕ) (memory : ℕ → ℕ) (output : List ℕ) (pieces : List (List ℕ)) (most more : ℕ) → most ≤ more → (walk : Walk (whole low p called.runtime) p (standing m (Call (routine_id r) operands ∷ rest)) (standing (behind m operands rest value memory output) rest) pieces most) → Along low m (behind m operands rest value memory output) walk.steps pieces more
  along value memory output pieces most more less walk =
      let path = path_of_walk (whole low p called.runtime) p (standing m (Call (routine_id r) operands ∷ rest)) (standing (behind m operands rest value memory output) rest) pieces most walk refl in
      let within = path.within in
      let longer : Along (whole low p called.runtime) (standing m (Call (routine_id r) operands ∷ rest)) (standing (behind m operands rest value memory output) rest) walk.steps pieces more =
      record { ends = path.ends; shows = path.shows; within = omega arith; moments = path.moments } in
      subst (λ program. Along program m (behind m operands rest value memory output) walk.steps pieces more) (sym (whole_is low p called.runtime))
      (subst (λ b. Along (whole low p called.runtime) b (behind m operands rest value memory output) walk.steps pieces more) (sym begins_there)
      (subst (λ c. Along (whole low p called.runtime) (standing m (Call (routine_id r) operands ∷ rest)) c walk.steps pieces more) (ends_there value memory output) longer))

  pub writes : (bytes : List ℕ) (most : ℕ) → most ≤ 512 + length bytes → Written (whole low p called.runtime) p m r operands rest bytes most → Writes low p m operands rest bytes
  writes bytes most less it =
      let few = it.walk.few in
      record {
        value = it.value;
        memory = it.memory;
        kept = it.kept;
        pieces = it.pieces;
        joined = it.joined;
        steps = it.walk.steps;
        few = omega arith;
        path = along it.value it.memory (m.output ++ bytes) it.pieces most (512 + length bytes) less it.walk;
      }

  pub copies : (to from count most : ℕ) → most ≤ 192 + 6 * count → Copied (whole low p called.runtime) p m r operands rest to from count most → Copies low p m operands rest to from count
  copies to from count most less it =
      let few = it.walk.few in
      record {
        value = it.value;
        memory = it.memory;
        copied = it.copied;
        steps = it.walk.steps;
        few = omega arith;
        path = along it.value it.memory m.output [] most (192 + 6 * count) less it.walk;
      }

  pub clears : (to count most : ℕ) → most ≤ 192 + 6 * count → Cleared (whole low p called.runtime) p m r operands rest to count most → Clears low p m operands rest to count
  clears to count most less it =
      let few = it.walk.few in
      record {
        value = it.value;
        memory = it.memory;
        cleared = it.cleared;
        steps = it.walk.steps;
        few = omega arith;
        path = along it.value it.memory m.output [] most (192 + 6 * count) less it.walk;
      }
