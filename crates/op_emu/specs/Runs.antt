-- Runs of the emulator, as runs of the machine's definition.
use Rattle.std.specs.Prelude.{◌≡◌, ℕ, suc, ◌+◌, ◌-◌, ◌^◌, ◌<◌, ◌≤◌, ◌⊎◌, min, Bool, true, false, Option, Some, None, List, ◌++◌}
use Rattle.op_rv.specs.State.{Running}
use Rattle.op_rv.specs.Step.{step, after}
use Rattle.op_link.specs.Image.{first_failing}
use Rattle.op_emu.specs.Acts.{Moment, MayFollow, moment, state_of, ending_of, Streams, Faults, Acts, ReadsInPart, WritesInPart, InputFailed, BeginsAs}
use Rattle.op_emu.specs.declared.hart.Hart.{Hart}
use Rattle.op_emu.specs.declared.machine.Machine.{Machine}
use Rattle.op_emu.specs.declared.stop.MachineError.{MachineError}
use Rattle.op_emu.specs.declared.stop.MachineError.TheVariants.{Bad, NoMemory}
use Rattle.op_emu.specs.declared.stop.Stepped.{Stepped}
use Rattle.op_emu.specs.declared.stop.Stepped.TheVariants as stepped
use Rattle.op_emu.specs.declared.stop.Stop.{Stop}
use Rattle.op_emu.specs.declared.stop.Stop.TheVariants as stop

abbrev pub moment_of : Machine → Moment
moment_of machine = moment machine.hart (ending_of machine.last)

-- the count of steps after one more, which stops at its greatest value
abbrev pub one_more : ℕ → ℕ
one_more steps = min (steps + 1) (2 ^ 64 - 1)

-- a step that was done is counted, also one that ended the program, and a fault is not
abbrev pub is_done : Stepped → Bool
is_done stepped.Went = true
is_done (stepped.Ended status) = true
is_done (stepped.Fault kind pc) = false
is_done stepped.ReadFault = false
is_done stepped.WriteFault = false

abbrev pub stop_of : Stepped → Stop
stop_of stepped.Went = stop.Spent
stop_of (stepped.Ended status) = stop.Ended status
stop_of (stepped.Fault kind pc) = stop.Fault kind pc
stop_of stepped.ReadFault = stop.ReadFault
stop_of stepped.WriteFault = stop.WriteFault

-- before each of so many steps the machine of the definition goes on, whatever had been written and may be left behind what was taken
abbrev pub GoesOnBefore : ℕ → List ℕ → Moment → Hart → Type 0
GoesOnBefore m taken old new =
    (k : ℕ) → k < m → (x o e : List ℕ) → MayFollow new x → (after k (state_of old (taken ++ x) o e)).ending ≡ Running

-- the call did m steps: where the machine has ended, m is the first number of steps after which it has
pub record DoesSteps (m : ℕ) (old new : Machine) (told : Streams) : Type 0 where
  pub acts : Acts (after m) (moment_of old) (moment_of new) told
  pub goes_on : GoesOnBefore m acts.taken (moment_of old) new.hart
  pub counted : new.steps ≡ old.steps + m

-- the call did m steps, and the next one is a fault, the first, which changes nothing
pub record FaultsAfter (m : ℕ) (old new : Machine) (told : Streams) : Type 0 where
  pub acts : Acts (after (suc m)) (moment_of old) (moment_of new) told
  pub goes_on : GoesOnBefore (suc m) acts.taken (moment_of old) new.hart
  pub counted : new.steps ≡ old.steps + m

-- the call did m steps, and the next one reads and wants more bytes than the source gave before it failed
pub record WantsAfter (m : ℕ) (old new : Machine) (told : Streams) : Type 0 where
  pub hart : Hart
  pub left : Option (List ℕ)
  pub acts : Acts (after m) (moment_of old) (moment hart Running) (record told { input_after = left })
  pub reads : ReadsInPart step hart (record told { input_before = left; output_before = told.output_after; errors_before = told.errors_after })
  pub counted : new.steps ≡ old.steps + m

-- the call did m steps, before and behind which the machine of the definition goes on, and the next one writes to an output that failed: the
-- machine is as behind the m steps
pub record FailsAfter (m : ℕ) (old new : Machine) (told : Streams) (counts : Faults) : Type 0 where
  pub output : Option (List ℕ)
  pub errors : Option (List ℕ)
  pub acts : Acts (after m) (moment_of old) (moment new.hart Running) (record told { output_after = output; errors_after = errors })
  pub goes_on : GoesOnBefore (suc m) acts.taken (moment_of old) new.hart
  pub writes : WritesInPart step new.hart new.hart (record told { input_before = told.input_after; output_before = output; errors_before = errors }) counts
  pub counted : new.steps ≡ old.steps + m

-- a run of at most n steps of a machine that goes on
abbrev pub RunIs : ℕ → Stop → Machine → Machine → Streams → Faults → Type 0
RunIs n stop.Spent old new told counts =
    (m : ℕ) × DoesSteps m old new told × ((m ≡ n) ⊎ (m ≤ n) × (new.steps ≡ 2 ^ 64 - 1))
RunIs n (stop.Ended status) old new told counts = (m : ℕ) × (m ≤ n) × DoesSteps m old new told
RunIs n (stop.Fault kind pc) old new told counts = (m : ℕ) × (m < n) × FaultsAfter m old new told
RunIs n stop.ReadFault old new told counts = (m : ℕ) × (m < n) × WantsAfter m old new told × InputFailed counts
RunIs n stop.WriteFault old new told counts = (m : ℕ) × (m < n) × FailsAfter m old new told counts

-- the image meets the conditions, and the machine has not begun, and begins as the image says
pub record IsLoaded (image : List ℕ) (machine : Machine) : Type 0 where
  pub meets : first_failing image ≡ None
  pub begins : BeginsAs image machine.hart
  pub fresh : machine.last ≡ stepped.Went
  pub uncounted : machine.steps ≡ 0

-- the image fails this condition first, or it fails none and there was no room
abbrev pub IsNotLoaded : List ℕ → MachineError → Type 0
IsNotLoaded image (Bad condition) = first_failing image ≡ Some condition
IsNotLoaded image NoMemory = first_failing image ≡ None
