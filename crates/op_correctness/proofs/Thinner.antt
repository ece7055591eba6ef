-- What code of which instructions are left out takes of the stack: no more than the code as it was.
use Rattle.std.proofs.Common.{◌≡◌, ◌≤◌, ℕ, zero, suc, ◌+◌, List, [], ◌∷◌, length, slice_get, refl, ap, arith}
use Rattle.op_low.specs.State.{Placement, routine_of, routine_or, space}
use Rattle.op_low.specs.declared.code.Low.{Low}
use Rattle.op_low.specs.declared.code.Routine.{Routine}
use Rattle.op_optimize.specs.Thinning.{NoBlocks, NoRoutines, OneRoutineMore, ThinsRoutine, ThinsRoutines}
use Rattle.op_select.specs.Frames.{frame_of}

-- the routines of a number, also where there is none
pub each_thins : (rs ts : List Routine) → ThinsRoutines rs ts → (r : ℕ) → ThinsRoutine (routine_or (slice_get rs r)) (routine_or (slice_get ts r))
each_thins [] [] NoRoutines r = record { parameters = refl; locals = refl; registers = omega arith; blocks = NoBlocks }
each_thins [] (t ∷ ts) thins r = elim thins [ ]
each_thins (x ∷ rs) [] thins r = elim thins [ ]
each_thins (x ∷ rs) (t ∷ ts) (OneRoutineMore first rest) zero = first
each_thins (x ∷ rs) (t ∷ ts) (OneRoutineMore first rest) (suc r) = each_thins rs ts rest r

-- no routine is left out
pub as_many_routines : (rs ts : List Routine) → ThinsRoutines rs ts → length ts ≡ length rs
as_many_routines [] [] NoRoutines = refl
as_many_routines [] (t ∷ ts) thins = elim thins [ ]
as_many_routines (x ∷ rs) [] thins = elim thins [ ]
as_many_routines (x ∷ rs) (t ∷ ts) (OneRoutineMore first rest) = ap suc (as_many_routines rs ts rest)

-- a frame is no larger
pub frame_less : (x t : Routine) → ThinsRoutine x t → frame_of t ≤ frame_of x
unfolding frame_of
frame_less x t thins = let few = thins.registers in omega (arith, few)

module _ (low better : Low) (thins : ThinsRoutines low.routines better.routines) where
  abbrev routine_thins : (r : ℕ) → ThinsRoutine (routine_of low r) (routine_of better r)
  routine_thins r = each_thins low.routines better.routines thins r

  pub frames_less : (r : ℕ) → frame_of (routine_of better r) ≤ frame_of (routine_of low r)
  frames_less r = frame_less (routine_of low r) (routine_of better r) (routine_thins r)

  -- where it is placed, a routine takes the same of the stack in both
  pub same_space : (p : Placement) (r : ℕ) → space better p r ≡ space low p r
  same_space p r = ap (λ n. n + p.frame r) (routine_thins r).locals
