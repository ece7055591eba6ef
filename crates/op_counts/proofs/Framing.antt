-- What is put on an activation holds nothing: a walk, a destruction, the rest of a call. So a frame that comes, is charged or is done leaves all
-- holders as many.
use Rattle.std.proofs.Common.{◌≡◌, ℕ, ◌+◌, List, ◌∷◌, refl, sym}
use Rattle.std.specs.Prelude.{Bool, true, false, Option, nat_lt, if◌then◌else◌}
use Rattle.op_core.specs.declared.program.Core.{Core}
use Rattle.op_counts.proofs.Failing.{failed_counted}
use Rattle.op_counts.proofs.Writes.{object_relisted}
use Rattle.op_counts.specs.Counting.{IsListed, held}
use Rattle.op_meaning.specs.Calls.{goes_in_behind}
use Rattle.op_meaning.specs.Ending.{charged_frame, in_phase}
use Rattle.op_meaning.specs.Frames.{Program, StateOver, Rules, Frame, destruction, Callee, Handed, frame_charge, with_world, with_frames, fails, pushed, popped}
use Rattle.op_meaning.specs.Items.{Receiver}
use Rattle.op_meaning.specs.Values.{Spot}
use Rattle.op_meaning.specs.World.{World, fields, Destruction, class_of}

-- ---- frames come and go

-- A walk or a destruction is put on top, and is not charged yet.
pub pushed_counted : {Work Counts : Type 0} (core : Core) (frame : Option ℕ → Frame) (s : StateOver Work Counts) (y : ℕ) → held core (pushed frame s) y ≡ held core s y
pushed_counted core frame s y = refl

-- One that is done is taken off.
pub popped_counted : {Work Counts : Type 0} (core : Core) (waits : Option ℕ) (rest : List Frame) (s : StateOver Work Counts) (y : ℕ) → held core (popped waits rest s) y ≡ held core s y
popped_counted core waits rest s y = refl

-- A call waits until its places are emptied. What it hands over is not counted before the routine is entered.
pub calling_counted : {Work Counts : Type 0} (rules : Rules Work Counts) (callee : Callee) (receiver : Receiver) (given : List Handed) (q : Spot) (qs : List Spot) (s : StateOver Work Counts) (y : ℕ)
    → held rules.program.core (goes_in_behind rules callee receiver given (q ∷ qs) s) y ≡ held rules.program.core s y
calling_counted rules callee receiver given q qs s y = refl

-- ---- frames are charged

-- the instance of a destruction is not dead
abbrev pub IsOfListed : World → Frame → Type 0
IsOfListed w (destruction i started entered places waits) = IsListed w i
IsOfListed w frame = Unit {0}

module _ {Work Counts : Type 0} (p : Program) (s : StateOver Work Counts) (y : ℕ) where
  charged_as : (past : Bool) (n : ℕ) (frames : List Frame) (w : World) → held p.core (with_world w s) y ≡ held p.core s y
      → held p.core (if past then fails p 202 s else with_frames frames (with_world w (record s { charged = n }))) y ≡ held p.core s y
  charged_as true n frames w same = failed_counted p.core s y 202
  charged_as false n frames w same = same

-- A walk or a destruction is charged, or the stack has no room for it: all holders stay as many, also those within the instance.
pub charged_counted : {Work Counts : Type 0} (rules : Rules Work Counts) (frame : Frame) (rest : List Frame) (s : StateOver Work Counts) (y : ℕ) → IsOfListed s.world frame
    → held rules.program.core (charged_frame rules frame rest s) y ≡ held rules.program.core s y
charged_counted rules (destruction i started entered places waits) rest s y stands =
    charged_as rules.program s y (nat_lt rules.program.stack (s.charged + frame_charge)) (s.charged + frame_charge) (destruction i started entered places waits ∷ rest) (in_phase Destruction i s.world)
    (object_relisted rules.program.core s y i (fields (class_of s.world i) Destruction) (sym stands))
charged_counted rules frame rest s y stands =
    charged_as rules.program s y (nat_lt rules.program.stack (s.charged + frame_charge)) (s.charged + frame_charge) (frame ∷ rest) s.world refl
