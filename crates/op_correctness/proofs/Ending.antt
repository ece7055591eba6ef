-- Where an image ends, the program that it agrees with ends, with the same status.
use Rattle.std.proofs.Common.{◌≡◌, ℕ, List, sym, ap, ◌∙◌, subst}
use Rattle.op_image.specs.Means.{image_run}
use Rattle.op_link.specs.Image.{start}
use Rattle.op_meaning.specs.Frames.{Program}
use Rattle.op_meaning.specs.World.{Ending, Running, Ended}
use Rattle.op_rv.specs.State.{State as ImageState, Running as GoesOn, Ended as HasEnded}
use Rattle.op_rv.specs.Step.{step, step_by_ending}
use Rattle.op_select.specs.RiscvMachine.{riscv_machine, riscv_shows}
use Rattle.op_simulation.proofs.Runs.{run_past_end}
use Rattle.op_simulation.specs.System.{Halted}
use Rattle.op_correctness.specs.Agrees.{EndsAlike, EndsAsMeant, GoesAlong, LooksAlike, source_run}

-- an image that has ended stays
ended_halts : (b : ImageState) (status : ℕ) → b.ending ≡ HasEnded status → Halted riscv_machine b
unfolding step step_by_ending riscv_shows
ended_halts b status is = record {
  stays = ap (λ e. step_by_ending e b) is;
  silent = ap (λ e. riscv_shows e b) is;
}

module _ (p : Program) (heap : ℕ) (image input : List ℕ) (along : GoesAlong p heap image input) (m status : ℕ) (is : (image_run image input m).ending ≡ HasEnded status) where
  -- so many steps of the program, whose point lies behind the end of the image
  abbrev steps : ℕ
  steps = (along.passes along.served m).steps

  stands_so : image_run image input (along.point steps) ≡ image_run image input m
  stands_so = run_past_end riscv_machine m (along.point steps) (start image input) (ended_halts (image_run image input m) status is) (along.passes along.served m).passed

  alike : LooksAlike (source_run p input steps) (image_run image input m)
  alike = subst (LooksAlike (source_run p input steps)) stands_so (along.alike steps (along.served steps))

  ending_is : (e : Ending) → EndsAlike e (image_run image input m).ending → e ≡ Ended status
  ending_is Running goes_on = let clash : GoesOn ≡ HasEnded status = sym goes_on ∙ is in absurd cc
  ending_is (Ended other) ended = let same : HasEnded other ≡ HasEnded status = sym ended ∙ is in cc

  pub ends_as_meant : EndsAsMeant p input status (image_run image input m).output (image_run image input m).errors (image_run image input m).input
  ends_as_meant = record {
    steps = steps;
    ended = ending_is (source_run p input steps).world.ending alike.ending;
    writes = sym alike.output;
    reports = sym alike.errors;
    leaves = sym alike.input;
  }
