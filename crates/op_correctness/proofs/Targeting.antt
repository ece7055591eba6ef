-- The branches of code that is made of items lead to its blocks.
use Rattle.std.proofs.Common.{◌<◌, ℕ, Bool, true, false, List, [], ◌∷◌, length, refl}
use Rattle.op_core.specs.declared.program.Core.{Core}
use Rattle.op_frames.proofs.Lowered.{code_is}
use Rattle.op_frames.specs.Made.{AreMade, AreMadeCases, AreMadeTurns, ArmsOf, Every, IsCode, IsMade}
use Rattle.op_lower.specs.Lowers.{IsRoutine}
use Rattle.op_lower.specs.Seen.{seen_blocks}
use Rattle.op_meaning.specs.Frames.{program_of}
use Rattle.op_meaning.specs.Items.{Item, act, also, choose, select, loop, body_first, protect, leave, enter, scoped, attempt, throw, rethrow, halt, construct, free, Items, none, then_do, Turns, turns, Cases, no_cases, cases}
use Rattle.op_mir.specs.Code.{Arm, Instr, branch_if, branch_unless, items_of}
use Rattle.op_mir.specs.declared.code.Routine.{Routine}
use Rattle.op_correctness.specs.Targets.{IsTargetNumber, IsTargeted}

unless_targeted : (core : Core) (r n : ℕ) (truth : Bool) (t k : ℕ) → 0 < k → k < n → IsTargeted core r n (branch_unless truth t k)
unless_targeted core r n true t k some less = (some, less)
unless_targeted core r n false t k some less = (some, less)

if_targeted : (core : Core) (r n : ℕ) (truth : Bool) (t k : ℕ) → 0 < k → k < n → IsTargeted core r n (branch_if truth t k)
if_targeted core r n true t k some less = (some, less)
if_targeted core r n false t k some less = (some, less)

arms_targeted : (n : ℕ) (cs : Cases) (arms : List Arm) → ArmsOf n cs arms → Every (λ (a : Arm). IsTargetNumber n a.block) arms
arms_targeted n no_cases [] are = tt
arms_targeted n no_cases (arm ∷ arms) are = absurd are
arms_targeted n (cases labels items others) [] are = absurd are
arms_targeted n (cases labels items others) (arm ∷ arms) (same, some, less, rest) = ((some, less), arms_targeted n others arms rest)

-- what is asked of each item but of its branches is asked of items of every kind
module _ (Q : Instr → Type 0) (core : Core) (r n : ℕ) where
  mutual
    pub targeted : (items : Items) → AreMade Q n items → AreMade (IsTargeted core r n) n items
    targeted none made = tt
    targeted (then_do i others) (first, rest) = (item_targeted i first, targeted others rest)

    item_targeted : (i : Item) → IsMade Q n i → IsMade (IsTargeted core r n) n i
    item_targeted (act a) made = refl
    item_targeted (also truth t items) (branch, made) = (λ k some less. unless_targeted core r n truth t k some less, targeted items made)
    item_targeted (choose t first otherwise) (branch, one, other) = (λ k some less. (some, less), targeted first one, targeted otherwise other)
    item_targeted (select t cs otherwise) (branch, ones, other) = (λ arms are. arms_targeted n cs arms are, cases_targeted cs ones, targeted otherwise other)
    item_targeted (loop l) made = turns_targeted l made
    item_targeted (body_first l) made = turns_targeted l made
    item_targeted (protect t items finalization) (reasons, way, made, last) = (λ m few. refl, λ k less. less, targeted items made, targeted finalization last)
    item_targeted (leave what) made = made
    item_targeted (enter r given receiver) made = refl
    item_targeted (halt t) made = tt
    item_targeted (scoped t ts items) made = absurd made
    item_targeted (attempt items cs) made = absurd made
    item_targeted (throw at) made = absurd made
    item_targeted rethrow made = absurd made
    item_targeted (construct c r given receiver) made = absurd made
    item_targeted (free takes_nil at) made = absurd made

    turns_targeted : (l : Turns) → AreMadeTurns Q n l → AreMadeTurns (IsTargeted core r n) n l
    turns_targeted (turns head t ends between body) (branch, a, b, c) = (λ k some less. if_targeted core r n ends t k some less, targeted head a, targeted between b, targeted body c)

    cases_targeted : (cs : Cases) → AreMadeCases Q n cs → AreMadeCases (IsTargeted core r n) n cs
    cases_targeted no_cases made = tt
    cases_targeted (cases labels items others) (first, rest) = (targeted items first, cases_targeted others rest)

-- so are the blocks of a routine
pub blocks_targeted : (Q : Instr → Type 0) (core : Core) (stack r : ℕ) (routine : Routine) → IsRoutine core r routine → AreMade Q (length routine.blocks) (items_of (program_of core stack) r) → Every (IsCode (IsTargeted core r (length routine.blocks))) (seen_blocks core r routine.blocks)
blocks_targeted Q core stack r routine is made =
    code_is (IsTargeted core r (length routine.blocks)) core stack r routine (λ k some less. (some, less)) tt is (targeted Q core r (length routine.blocks) (items_of (program_of core stack) r) made)
