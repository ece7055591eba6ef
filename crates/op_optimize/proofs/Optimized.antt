-- What the optimizer makes of a program does the same in no more steps, is valid, and has no more of anything.
use Rattle.std.proofs.Common.{◌≡◌, ◌≢◌, ◌≤◌, ℕ, zero, suc, true, inl, inr, List, [], ◌∷◌, refl, ap, sym, ◌∙◌, subst, arith}
use Rattle.std.proofs.lemmas.Bool.{cases_lt}
use Rattle.op_simulation.specs.System.{run}
use Rattle.op_low.specs.Machine.{NeverBad, low_machine, start}
use Rattle.op_low.specs.State.{Bad, Placement, State}
use Rattle.op_low.specs.Valid.{is_valid}
use Rattle.op_low.specs.declared.code.Block.{Block}
use Rattle.op_low.specs.declared.code.Low.{Low}
use Rattle.op_low.specs.declared.code.Routine.{Routine}
use Rattle.op_low.specs.declared.instruction.Instruction.{Instruction}
use Rattle.op_optimize.specs.Each.{Each, NoneLeft, OneMore}
use Rattle.op_optimize.specs.Optimizing.{Improved, Optimizes, OptimizesRoutine, Untouched}
use Rattle.op_optimize.specs.Programs.{EachRoutine}
use Rattle.op_optimize.specs.Renaming.{RenamesRoutine, Stays as RenamesNothing}
use Rattle.op_optimize.specs.Shortening.{Shortens}
use Rattle.op_optimize.specs.Simplifying.{SimplifiesRoutine, Simplifies, Stays}
use Rattle.op_optimize.specs.Thinning.{Kept, LeftOut, NoBlocks, NoRoutines, Nothing, OneMore as OneBlock, OneRoutineMore, Thins, ThinsBlocks, ThinsRoutine, ThinsRoutines}
use Rattle.op_optimize.proofs.RenamedCode.{renaming_thins, renaming_valid}
use Rattle.op_optimize.proofs.RenamedRuns.{renaming_shortens}
use Rattle.op_optimize.proofs.SimplifiedPlans.{blocks_thin, plans_of}
use Rattle.op_optimize.proofs.SimplifiedRuns.{simplified_shortens}
use Rattle.op_optimize.proofs.SimplifiedValid.{many_items, simplified_valid}
use Rattle.op_optimize.proofs.Stepping.{shortens_through}

-- ---- the program between the two passes

middle_of : (routine better : Routine) → OptimizesRoutine routine better → Routine
middle_of routine better (Untouched same) = routine
middle_of routine better (Improved improved) = improved.middle

simplifies_one : (routine better : Routine) (is : OptimizesRoutine routine better) → SimplifiesRoutine routine (middle_of routine better is)
unfolding middle_of
simplifies_one routine better (Untouched same) = Stays refl
simplifies_one routine better (Improved improved) = Simplifies improved.live improved.simplifies

renames_one : (routine better : Routine) (is : OptimizesRoutine routine better) → RenamesRoutine (middle_of routine better is) better
unfolding middle_of
renames_one routine better (Untouched same) = RenamesNothing same
renames_one routine better (Improved improved) = improved.renames

middles : (rs ts : List Routine) → Each OptimizesRoutine rs ts → List Routine
middles [] [] NoneLeft = []
middles [] (t ∷ ts) each = elim each [ ]
middles (r ∷ rs) [] each = elim each [ ]
middles (r ∷ rs) (t ∷ ts) (OneMore first rest) = middle_of r t first ∷ middles rs ts rest

simplifies_all : (rs ts : List Routine) (each : Each OptimizesRoutine rs ts) → Each SimplifiesRoutine rs (middles rs ts each)
unfolding middles
simplifies_all [] [] NoneLeft = NoneLeft
simplifies_all [] (t ∷ ts) each = elim each [ ]
simplifies_all (r ∷ rs) [] each = elim each [ ]
simplifies_all (r ∷ rs) (t ∷ ts) (OneMore first rest) = OneMore (simplifies_one r t first) (simplifies_all rs ts rest)

renames_all : (rs ts : List Routine) (each : Each OptimizesRoutine rs ts) → Each RenamesRoutine (middles rs ts each) ts
unfolding middles
renames_all [] [] NoneLeft = NoneLeft
renames_all [] (t ∷ ts) each = elim each [ ]
renames_all (r ∷ rs) [] each = elim each [ ]
renames_all (r ∷ rs) (t ∷ ts) (OneMore first rest) = OneMore (renames_one r t first) (renames_all rs ts rest)

-- ---- no more of anything

thins_through : (is js ks : List Instruction) → Thins is js → Thins js ks → Thins is ks
thins_through [] [] [] Nothing Nothing = Nothing
thins_through [] [] (k ∷ ks) Nothing below = elim below [ ]
thins_through [] (j ∷ js) ks above below = elim above [ ]
thins_through (i ∷ is) js ks (LeftOut above) below = LeftOut (thins_through is js ks above below)
thins_through (i ∷ is) (j ∷ js) ks (Kept few above) (LeftOut below) = LeftOut (thins_through is js ks above below)
thins_through (i ∷ is) (j ∷ js) (k ∷ ks) (Kept few above) (Kept fewer below) = Kept (omega arith) (thins_through is js ks above below)

blocks_through : (xs bs cs : List Block) → ThinsBlocks xs bs → ThinsBlocks bs cs → ThinsBlocks xs cs
blocks_through [] [] [] NoBlocks NoBlocks = NoBlocks
blocks_through [] [] (c ∷ cs) above below = elim below [ ]
blocks_through [] (b ∷ bs) cs above below = elim above [ ]
blocks_through (a ∷ xs) [] cs above below = elim above [ ]
blocks_through (a ∷ xs) (b ∷ bs) [] above below = elim below [ ]
blocks_through (a ∷ xs) (b ∷ bs) (c ∷ cs) (OneBlock above rest) (OneBlock below others) = OneBlock (thins_through a.code b.code c.code above below) (blocks_through xs bs cs rest others)

one_thins : (routine better : Routine) → OptimizesRoutine routine better → ThinsRoutine routine better
one_thins routine better (Untouched same) = renaming_thins routine better (RenamesNothing same)
one_thins routine better (Improved improved) =
    let below = renaming_thins improved.middle better improved.renames in
    record {
      parameters = below.parameters ∙ improved.simplifies.parameters;
      locals = below.locals ∙ improved.simplifies.locals;
      registers = improved.registers;
      blocks = blocks_through routine.blocks improved.middle.blocks better.blocks (blocks_thin improved.live routine routine.blocks improved.middle.blocks improved.simplifies.blocks) below.blocks;
    }

all_thin : (rs ts : List Routine) → Each OptimizesRoutine rs ts → ThinsRoutines rs ts
all_thin [] [] NoneLeft = NoRoutines
all_thin [] (t ∷ ts) each = elim each [ ]
all_thin (r ∷ rs) [] each = elim each [ ]
all_thin (r ∷ rs) (t ∷ ts) (OneMore first rest) = OneRoutineMore (one_thins r t first) (all_thin rs ts rest)

-- ---- what is shorter is not bad either

record At (point : ℕ → ℕ) (k : ℕ) : Type 0 where
  steps : ℕ
  is : point steps ≡ k

module _ {low better : Low} {p : Placement} {m n : State} (is : Shortens low better p m n) where
  at_point : (steps k : ℕ) → k ≤ is.point steps → At is.point k
  at_point zero k less = let first = is.first in record { steps = 0; is = omega arith }
  at_point (suc steps) k less =
      let few = is.few steps in
      let next = is.next steps in
      elim (cases_lt (is.point steps) k) [
        | inl over ↦ record { steps = suc steps; is = omega arith }
        | inr under ↦ at_point steps k under
      ]

  never_bad : NeverBad low p m → NeverBad better p n
  never_bad never k =
      let passed = is.passes k in
      let at = at_point passed.steps k passed.passed in
      let same : (run (low_machine better p) k n).ending ≡ (run (low_machine low p) at.steps m).ending = ap (λ j. (run (low_machine better p) j n).ending) (sym at.is) ∙ (is.alike at.steps).ending in
      subst (λ e. e ≢ Bad) (sym same) (never at.steps)

-- ---- the program

module _ (low better : Low) (optimizes : Optimizes low better) where
  middle : Low
  middle = record { routines = middles low.routines better.routines optimizes.routines; entry = low.entry; counts = low.counts; globals = low.globals }

  simplifies : EachRoutine SimplifiesRoutine low middle
  unfolding middle
  simplifies = record { entry = refl; counts = refl; globals = refl; routines = simplifies_all low.routines better.routines optimizes.routines }

  renames : EachRoutine RenamesRoutine middle better
  unfolding middle
  renames = record { entry = optimizes.entry; counts = optimizes.counts; globals = optimizes.globals; routines = renames_all low.routines better.routines optimizes.routines }

  pub thins : ThinsRoutines low.routines better.routines
  thins = all_thin low.routines better.routines optimizes.routines

  pub stays_valid : is_valid low ≡ true → is_valid better ≡ true
  stays_valid valid = renaming_valid middle better renames (simplified_valid low middle simplifies valid)

  pub shortens : (p : Placement) → is_valid low ≡ true → (bottom room : ℕ) (memory : ℕ → ℕ) (input : List ℕ) → NeverBad low p (start low p bottom room memory input) → Shortens low better p (start low p bottom room memory input) (start better p bottom room memory input)
  unfolding middle
  shortens p valid bottom room memory input never =
      let first = simplified_shortens low middle p (plans_of low middle valid simplifies) (many_items low.routines middle.routines simplifies.routines) valid refl bottom room memory input never in
      shortens_through low middle better p (start low p bottom room memory input) (start middle p bottom room memory input) (start better p bottom room memory input) first (renaming_shortens middle better p renames (simplified_valid low middle simplifies valid) bottom room memory input (never_bad first never))
