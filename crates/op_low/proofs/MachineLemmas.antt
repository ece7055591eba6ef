-- The machine of low code: what it does once it has stopped.
use Rattle.std.proofs.Common.{◌≡◌, false, [], refl}
use Rattle.op_simulation.specs.System.{Halted}
use Rattle.op_low.specs.State.{Placement, State, Ending, Running, Ended, Bad, goes_on}
use Rattle.op_low.specs.Machine.{step, step_by_ending, shows, low_machine}
use Rattle.op_low.specs.declared.code.Low.{Low}

stopped_step : (low : Low) (p : Placement) (m : State) (e : Ending) → goes_on e ≡ false → step_by_ending low p e m ≡ m
unfolding step_by_ending
stopped_step low p m Running is = absurd cc
stopped_step low p m (Ended status) is = refl
stopped_step low p m Bad is = refl

stopped_shows : (p : Placement) (m : State) (e : Ending) → goes_on e ≡ false → shows p e m ≡ []
unfolding shows
stopped_shows p m Running is = absurd cc
stopped_shows p m (Ended status) is = refl
stopped_shows p m Bad is = refl

pub stopped_halts : (low : Low) (p : Placement) (m : State) → goes_on m.ending ≡ false → Halted (low_machine low p) m
unfolding step
stopped_halts low p m is = record { stays = stopped_step low p m m.ending is; silent = stopped_shows p m m.ending is }
