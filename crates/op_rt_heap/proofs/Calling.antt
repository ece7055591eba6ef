-- Calls of a routine without locals, from walks over its code.
use Rattle.std.proofs.Common.{◌≡◌, ℕ, ◌+◌, ◌≤◌, true, nat_eq, nat_le, nat_lt, List, [], ◌∷◌, length, refl, ap, sym, subst, ◌∙◌, arith, slice_get, ap₂, ◌≢◌, replicate, slice_index}
use Rattle.std.proofs.lemmas.Bool.{and_from}
use Rattle.std.proofs.lemmas.Bool.Decides.{nat_tests}
use Rattle.std.proofs.lemmas.List.{length-map}
use Rattle.op_low.specs.Machine.{low_machine}
use Rattle.op_low.specs.State.{Bad, Ending, Placement, Running, State, block_of, code_or, routine_of, space, value}
use Rattle.op_low.specs.declared.code.Low.{Low}
use Rattle.op_low.specs.declared.code.Routine.{Routine}
use Rattle.op_low.specs.declared.instruction.Call.{Call as Operands}
use Rattle.op_low.specs.declared.instruction.Instruction.{Instruction}
use Rattle.op_low.specs.declared.instruction.Instruction.TheVariants.{Call}
use Rattle.op_rt_heap.proofs.Walks.{Walk, cleared, inside, path_of_walk, standing, walk_enter, walk_longer, walk_then}
use Rattle.op_rt_heap.specs.Names.{routine_id}
use Rattle.op_rt_heap.specs.Running.{Comes, IsCalled, behind}
use Rattle.op_rv.proofs.Memory.{with_bytes-outside}
use Rattle.op_rv.specs.State.{with_bytes}
use Rattle.op_simulation.specs.Path.{Path}

-- the caller stands before the call
pub begins_there : (low : Low) (p : Placement) (m : State) (r : ℕ) (routine : Routine) (arguments : List ℕ) (operands : Operands) (rest : List Instruction) → IsCalled low p m r routine arguments operands rest → m ≡ standing m (Call (routine_id r) operands ∷ rest)
begins_there low p m r routine arguments operands rest called =
    ap₂ (λ now ending. record m { top = record m.top { now = now }; ending = ending }) called.next called.running

pub space_of : (low : Low) (p : Placement) (m : State) (r : ℕ) (routine : Routine) (arguments : List ℕ) (operands : Operands) (rest : List Instruction) → routine.locals ≡ 0 → IsCalled low p m r routine arguments operands rest → space low p r ≤ 64
space_of low p m r routine arguments operands rest none called =
    let frame = called.frame in
    let locals : (routine_of low r).locals ≡ 0 = ap (λ (x : Routine). x.locals) called.is ∙ none in
    omega arith

pub room_of : (low : Low) (p : Placement) (m : State) (r : ℕ) (routine : Routine) (arguments : List ℕ) (operands : Operands) (rest : List Instruction) → routine.locals ≡ 0 → IsCalled low p m r routine arguments operands rest → space low p r ≤ m.room
room_of low p m r routine arguments operands rest none called =
    let small = space_of low p m r routine arguments operands rest none called in
    let room = called.room in
    omega arith

-- locals of no bytes change nothing
pub nothing_cleared : (low : Low) (m : State) (r : ℕ) → (routine_of low r).locals ≡ 0 → (x : ℕ) → cleared low m r x ≡ m.memory x
nothing_cleared low m r none x = ap (λ n. with_bytes m.memory m.limit (replicate n 0) x) none ∙ with_bytes-outside m.memory m.limit [] x (λ from before. omega arith)

-- the call enters
pub enters : (low : Low) (p : Placement) (m : State) (r : ℕ) (routine : Routine) (arguments : List ℕ) (operands : Operands) (rest : List Instruction) (code : List Instruction) → routine.locals ≡ 0 → routine.parameters ≡ length arguments → length arguments ≤ 8 → code_or (slice_get routine.blocks 0) ≡ code → IsCalled low p m r routine arguments operands rest → Walk low p (standing m (Call (routine_id r) operands ∷ rest)) (inside low p m r operands rest (slice_index arguments) code (cleared low m r)) [] 73
enters low p m r routine arguments operands rest code none takes few first called =
    let small = space_of low p m r routine arguments operands rest none called in
    let room = called.room in
    let passed = called.passed in
    let number : length operands.arguments ≡ length arguments = sym (length-map operands.arguments (value m)) ∙ ap (λ vs. length vs) passed in
    let parameters : (routine_of low r).parameters ≡ length arguments = ap (λ (x : Routine). x.parameters) called.is ∙ takes in
    let exists = called.exists in
    let one : nat_lt r (length low.routines) ≡ true = grind (arith, nat_tests) in
    let two : nat_eq (length operands.arguments) (routine_of low r).parameters ≡ true = grind (arith, nat_tests) in
    let three : nat_le (space low p r) m.room ≡ true = grind (arith, nat_tests) in
    let begun : block_of low r 0 ≡ code = ap (λ routine. code_or (slice_get routine.blocks 0)) called.is ∙ first in
    subst (λ now. Walk low p (standing m (Call (routine_id r) operands ∷ rest)) (inside low p m r operands rest (slice_index arguments) now (cleared low m r)) [] 73) begun
    (subst (λ vs. Walk low p (standing m (Call (routine_id r) operands ∷ rest)) (inside low p m r operands rest (slice_index vs) (block_of low r 0) (cleared low m r)) [] 73) passed
    (walk_longer (walk_enter low p m r operands rest (and_from _ _ (and_from _ _ one two) three)) (omega arith)))

-- ---- from walks over the code to paths from the caller

not_bad : (e : Ending) → e ≡ Running → e ≢ Bad
not_bad e is bad = let clash : Running ≡ Bad = sym is ∙ bad in cc

-- a routine without locals, whose code comes to its end
pub call_comes : (low : Low) (p : Placement) (m : State) (r : ℕ) (routine : Routine) (arguments : List ℕ) (operands : Operands) (rest code : List Instruction) (value : ℕ) (memory : ℕ → ℕ) (inner most : ℕ) → IsCalled low p m r routine arguments operands rest → routine.locals ≡ 0 → routine.parameters ≡ length arguments → length arguments ≤ 8 → code_or (slice_get routine.blocks 0) ≡ code → 73 + inner ≤ most → Walk low p (inside low p m r operands rest (slice_index arguments) code (cleared low m r)) (standing (behind m operands rest value memory) rest) [] inner → Comes low p m operands rest value memory most
call_comes low p m r routine arguments operands rest code value memory inner most called none takes few first enough body =
    let walk = walk_then (enters low p m r routine arguments operands rest code none takes few first called) body in
    let path = path_of_walk low p (standing m (Call (routine_id r) operands ∷ rest)) (standing (behind m operands rest value memory) rest) [] (73 + inner) walk (not_bad Running refl) in
    let within = path.within in
    let less = walk.few in
    let longer : Path (low_machine low p) (λ s. s.ending ≢ Bad) (standing m (Call (routine_id r) operands ∷ rest)) (standing (behind m operands rest value memory) rest) walk.steps [] most =
    record { ends = path.ends; shows = path.shows; within = omega arith; moments = path.moments } in
    record {
      steps = walk.steps;
      few = omega arith;
      path =
          subst (λ c. Path (low_machine low p) (λ s. s.ending ≢ Bad) c (behind m operands rest value memory) walk.steps [] most) (sym (begins_there low p m r routine arguments operands rest called))
          (subst (λ c. Path (low_machine low p) (λ s. s.ending ≢ Bad) (standing m (Call (routine_id r) operands ∷ rest)) c walk.steps [] most) (ap (λ ending. record (behind m operands rest value memory) { ending = ending }) (sym called.running)) longer);
    }
