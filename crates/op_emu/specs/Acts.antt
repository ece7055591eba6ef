-- What the emulator does, as steps of the machine's definition over what the streams tell.
use Rattle.std.specs.Prelude.{◌≡◌, ℕ, ◌<◌, ◌≤◌, ◌⊎◌, Option, Some, None, List, [], ◌++◌, length, Bool, true, false, IsTrue}
use Rattle.op_base.specs.Outside.{appended, preceded, AppendsFront, IsExhausted, Rose}
use Rattle.op_rv.specs.State.{State, Ending, Running, Ended, Faulted, advanced, with_register, word_at, bytes_from, all_from}
use Rattle.op_rv.specs.Step.{can_fetch}
use Rattle.op_rv.specs.Environment.{read_call, write_call}
use Rattle.op_emu.specs.Region.{byte_in, readable_in, writable_in, rights_in}
use Rattle.op_rv.specs.declared.fault.FaultKind.TheVariants.{Load}
use Rattle.op_link.specs.Image.{start}
use Rattle.op_emu.specs.Filling.{AreBytes}
use Rattle.op_emu.specs.Registers.{value_of}
use Rattle.op_emu.specs.Segments.{regions_of}
use Rattle.op_emu.specs.declared.hart.Hart.{Hart}
use Rattle.op_emu.specs.declared.stop.Stepped.{Stepped}
use Rattle.op_emu.specs.declared.stop.Stepped.TheVariants.{Went, Fault, ReadFault, WriteFault}
use Rattle.op_emu.specs.declared.stop.Stepped.TheVariants as stepped

-- a machine without its streams
pub record Moment : Type 0 where
  pub hart : Hart
  pub ending : Ending

-- how the machine stands after an answer; a stream's failure is no ending
abbrev pub ending_of : Stepped → Ending
ending_of Went = Running
ending_of (stepped.Ended status) = Ended status
ending_of (Fault kind pc) = Faulted kind pc
ending_of ReadFault = Running
ending_of WriteFault = Running

abbrev pub moment : Hart → Ending → Moment
moment hart ending = record { hart = hart; ending = ending }

-- the state of the definition, with this input and these outputs
abbrev pub state_of : Moment → List ℕ → List ℕ → List ℕ → State
state_of now input output errors =
    record {
      registers = now.hart.registers.words;
      pc = now.hart.pc;
      memory = byte_in (regions_of now.hart.memory.segments.items);
      rights = rights_in (regions_of now.hart.memory.segments.items);
      input = input;
      output = output;
      errors = errors;
      ending = now.ending;
    }

-- the word at the pc, and none where it cannot be fetched
abbrev pub Fetches : Hart → Option ℕ → Type 0
Fetches hart (Some word) =
    (can_fetch (state_of (moment hart Running) [] [] []) ≡ true)
    × (word ≡ word_at (byte_in (regions_of hart.memory.segments.items)) hart.pc)
Fetches hart None = can_fetch (state_of (moment hart Running) [] [] []) ≡ false

-- what the streams tell before and after a call
pub record Streams : Type 0 where
  pub input_before : Option (List ℕ)
  pub input_after : Option (List ℕ)
  pub output_before : Option (List ℕ)
  pub output_after : Option (List ℕ)
  pub errors_before : Option (List ℕ)
  pub errors_after : Option (List ℕ)

abbrev pub streams : Option (List ℕ) → Option (List ℕ) → Option (List ℕ) → Option (List ℕ) → Option (List ℕ) → Option (List ℕ) → Streams
streams i i' o o' e e' =
    record { input_before = i; input_after = i'; output_before = o; output_after = o'; errors_before = e; errors_after = e' }

-- what may be left of the input: nothing, once the source has answered that it is at its end
abbrev pub MayFollow : Hart → List ℕ → Type 0
MayFollow hart input = IsTrue hart.input_ended → input ≡ []

-- these bytes were taken from the input, and none once the source had answered that it is at its end
pub record Takes (taken : List ℕ) (old new : Hart) (before after : Option (List ℕ)) : Type 0 where
  pub parts : before ≡ preceded taken after
  pub bounded : AreBytes taken
  pub stays_ended : IsTrue old.input_ended → (taken ≡ []) × IsTrue new.input_ended
  pub exhausted : (IsTrue old.input_ended → IsExhausted before) → IsTrue new.input_ended → IsExhausted after

-- the call did this to the machine, whatever had been read and written before it
pub record Acts (f : State → State) (old new : Moment) (told : Streams) : Type 0 where
  pub taken : List ℕ
  pub written : List ℕ
  pub reported : List ℕ
  pub leads : (x o e : List ℕ) → MayFollow new.hart x → f (state_of old (taken ++ x) o e) ≡ state_of new x (o ++ written) (e ++ reported)
  pub input : Takes taken old.hart new.hart told.input_before told.input_after
  pub output : told.output_after ≡ appended told.output_before written
  pub errors : told.errors_after ≡ appended told.errors_before reported

-- the bytes that an environment call hands over, and whether they may be read or written
abbrev pub handed_bytes : Hart → List ℕ
handed_bytes hart =
    bytes_from (byte_in (regions_of hart.memory.segments.items)) (value_of hart.registers.words 11) (value_of hart.registers.words 12)

abbrev pub may_hand : Hart → Bool
may_hand hart =
    all_from (readable_in (regions_of hart.memory.segments.items)) (value_of hart.registers.words 11) (value_of hart.registers.words 12)

abbrev pub may_fill : Hart → Bool
may_fill hart =
    all_from (writable_in (regions_of hart.memory.segments.items)) (value_of hart.registers.words 11) (value_of hart.registers.words 12)

-- the next step reads from the input and wants more than so many bytes, and the source has not answered that it is at its end
pub record WantsMore (count : ℕ) (hart : Hart) : Type 0 where
  pub from_input : value_of hart.registers.words 10 ≡ 0
  pub may : IsTrue (may_fill hart)
  pub more : count < value_of hart.registers.words 12
  pub asks : hart.input_ended ≡ false

-- the call is one that reads, which got these bytes and wanted more
pub record ReadsInPart (f : State → State) (old : Hart) (told : Streams) : Type 0 where
  pub taken : List ℕ
  pub reads : (x o e : List ℕ) → f (state_of (moment old Running) x o e) ≡ read_call (state_of (moment old Running) x o e)
  pub wants : WantsMore (length taken) old
  pub bounded : AreBytes taken
  pub input : told.input_before ≡ preceded taken told.input_after
  pub output : told.output_after ≡ told.output_before
  pub errors : told.errors_after ≡ told.errors_before

-- the counts of faults of the input and the two outputs, before and after a call
pub record Faults : Type 0 where
  pub input_before : ℕ
  pub input_after : ℕ
  pub output_before : ℕ
  pub output_after : ℕ
  pub errors_before : ℕ
  pub errors_after : ℕ

abbrev pub faults : ℕ → ℕ → ℕ → ℕ → ℕ → ℕ → Faults
faults i i' o o' e e' =
    record { input_before = i; input_after = i'; output_before = o; output_after = o'; errors_before = e; errors_after = e' }

-- no count of faults falls
abbrev pub Rises : Faults → Type 0
Rises counts =
    (counts.input_before ≤ counts.input_after) × (counts.output_before ≤ counts.output_after) × (counts.errors_before ≤ counts.errors_after)

abbrev pub InputFailed : Faults → Type 0
InputFailed counts = Rose counts.input_before counts.input_after

abbrev pub OutputFailed : Faults → Type 0
OutputFailed counts = Rose counts.output_before counts.output_after ⊎ Rose counts.errors_before counts.errors_after

-- the output, which is descriptor 1, or the errors, which are 2, got a front of these bytes and failed; the other one is as before
abbrev pub FailsToWrite : ℕ → List ℕ → Streams → Faults → Type 0
FailsToWrite to bytes told counts =
    ((to ≡ 1) × AppendsFront told.output_before bytes told.output_after × (told.errors_after ≡ told.errors_before) × Rose counts.output_before counts.output_after)
    ⊎ ((to ≡ 2) × AppendsFront told.errors_before bytes told.errors_after × (told.output_after ≡ told.output_before) × Rose counts.errors_before counts.errors_after)

-- the call is one that writes, to an output that failed: nothing is read, and the machine is as it was
pub record WritesInPart (f : State → State) (old new : Hart) (told : Streams) (counts : Faults) : Type 0 where
  pub writes : (x o e : List ℕ) → f (state_of (moment old Running) x o e) ≡ write_call (state_of (moment old Running) x o e)
  pub may : IsTrue (may_hand old)
  pub stays : new ≡ old
  pub input : told.input_after ≡ told.input_before
  pub fails : FailsToWrite (value_of old.registers.words 10) (handed_bytes old) told counts

-- a step of a machine that goes on
abbrev pub StepIs : (State → State) → Stepped → Hart → Hart → Streams → Faults → Type 0
StepIs f Went old new told counts = Acts f (moment old Running) (moment new Running) told
StepIs f (stepped.Ended status) old new told counts = Acts f (moment old Running) (moment new (Ended status)) told
StepIs f (Fault kind pc) old new told counts = Acts f (moment old Running) (moment new (Faulted kind pc)) told
StepIs f ReadFault old new told counts = ReadsInPart f old told × InputFailed counts
StepIs f WriteFault old new told counts = WritesInPart f old new told counts

-- the call did this to the machine, and touched no stream
pub record Leads (f : State → State) (old : Hart) (new : Moment) : Type 0 where
  pub leads : (x o e : List ℕ) → f (state_of (moment old Running) x o e) ≡ state_of new x o e
  pub input : new.hart.input_ended ≡ old.input_ended

-- a step that touches no stream
abbrev pub RowIs : (State → State) → Stepped → Hart → Hart → Type 0
RowIs f Went old new = Leads f old (moment new Running)
RowIs f (stepped.Ended status) old new = Leads f old (moment new (Ended status))
RowIs f (Fault kind pc) old new = Leads f old (moment new (Faulted kind pc))
RowIs f ReadFault old new = ⊥
RowIs f WriteFault old new = ⊥

-- a register gets a value, and the machine goes on to the next instruction
abbrev pub sets : ℕ → ℕ → State → State
sets rd value s = advanced (with_register s rd value)

-- an environment call that reads from a source, which stood and stands so
abbrev pub ReadIs : Stepped → Hart → Hart → Option (List ℕ) → Option (List ℕ) → ℕ → ℕ → Type 0
ReadIs r old new before after count count' =
    (o e : Option (List ℕ)) (oc oc' ec ec' : ℕ) → StepIs read_call r old new (streams before after o o e e) (faults count count' oc oc' ec ec')

-- a write to one sink, which stood and stands so
abbrev pub WriteIs : Stepped → Hart → Hart → Option (List ℕ) → Option (List ℕ) → ℕ → ℕ → Type 0
WriteIs Went old new before after count count' =
    IsTrue (may_hand old) × (after ≡ appended before (handed_bytes old)) × Leads (sets 10 (value_of old.registers.words 12)) old (moment new Running)
WriteIs (stepped.Ended status) old new before after count count' = ⊥
WriteIs (Fault kind pc) old new before after count count' =
    (may_hand old ≡ false) × (kind ≡ Load) × (pc ≡ old.pc) × (new ≡ old) × (after ≡ before)
WriteIs ReadFault old new before after count count' = ⊥
WriteIs WriteFault old new before after count count' =
    IsTrue (may_hand old) × AppendsFront before (handed_bytes old) after × Rose count count' × (new ≡ old)

-- the hart begins as the image says, whatever the input is, and may ask for it
pub record BeginsAs (image : List ℕ) (hart : Hart) : Type 0 where
  pub begins : (input : List ℕ) → state_of (moment hart Running) input [] [] ≡ start image input
  pub asks : hart.input_ended ≡ false
