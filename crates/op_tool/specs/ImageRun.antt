-- What the run of an image owes.
use Rattle.std.specs.Prelude.{◌≡◌, ℕ, ◌<◌, ◌≤◌, Some, None, List, [], ◌++◌, codes, decimal, length, IsTrue}
use Rattle.op_base.specs.Outside.{Rose}
use Rattle.op_rv.specs.Environment.{is_writable}
use Rattle.op_rv.specs.State.{State, Ending, Running, register}
use Rattle.op_rv.specs.State as state
use Rattle.op_rv.specs.Step.{CallsRead, after}
use Rattle.op_rv.specs.declared.fault.FaultKind.{FaultKind}
use Rattle.op_rv.specs.declared.fault.FaultKind.TheVariants.{Fetch, Illegal, Load, Store, Call, Break}
use Rattle.op_emu.specs.Filling.{AreBytes}
use Rattle.op_link.specs.Image.{first_failing, start}
use Rattle.op_listing.specs.Digits.{eight_digits}
use Rattle.op_tool.specs.Effects.{Effect, OnlyReports, line}
use Rattle.op_tool.specs.declared.finish.Finish.{Finish}
use Rattle.op_tool.specs.declared.finish.Finish.TheVariants.{Ended, Usage, Refused, ReadFault, WriteFault, Spent, NoMemory, BadImage, Faulted, Limit}

abbrev pub fault_name : FaultKind → List ℕ
fault_name Fetch = codes "Fetch"
fault_name Illegal = codes "Illegal"
fault_name Load = codes "Load"
fault_name Store = codes "Store"
fault_name Call = codes "Call"
fault_name Break = codes "Break"

abbrev pub fault_front : FaultKind → List ℕ
fault_front kind = codes "opc: fault " ++ fault_name kind ++ codes " at "

abbrev pub fault_line : FaultKind → ℕ → List ℕ
fault_line kind pc = fault_front kind ++ line (eight_digits pc)

-- the state that the image is in
abbrev pub state_in : List ℕ → Effect → State
state_in image done = after done.steps (start image done.input)

-- it has written what was written, but for a last line to the errors
abbrev pub HasWritten : State → List ℕ → Effect → Type 0
HasWritten s last done = (done.out ≡ s.output) × (done.err ≡ s.errors ++ last)

-- the next step is the call that reads, from the input, and it wants more than the bytes before what is left
pub record WantsBeyond (s : State) (left : List ℕ) : Type 0 where
  pub calls : CallsRead s
  pub from_input : register s 10 ≡ 0
  pub may : IsTrue (is_writable s)
  pub taken : List ℕ
  pub parts : s.input ≡ taken ++ left
  pub more : length taken < register s 12

-- after so many steps the image, over these bytes and whatever follows them, wants more than they are
abbrev pub FaultsReading : List ℕ → List ℕ → Effect → Type 0
FaultsReading image taken done =
    (left : List ℕ) →
    AreBytes left →
    (let s = after done.steps (start image (taken ++ left)) in WantsBeyond s left × HasWritten s (line (codes "opc: read fault")) done)

-- the image has come to this ending, and so has what is left of the input
abbrev pub ComesTo : List ℕ → Ending → List ℕ → Effect → Type 0
ComesTo image ending last done =
    (first_failing image ≡ None) × (let s = state_in image done in (s.ending ≡ ending) × (done.left ≡ s.input) × HasWritten s last done)

-- what each answer owes; `most` is how many steps the image may do, `before` and `now` are the counts of faults of the input
abbrev pub OwesImage : List ℕ → ℕ → ℕ → ℕ → Finish → Effect → Type 0
OwesImage image most before now (Ended status) done = (done.steps ≤ most) × ComesTo image (state.Ended status) [] done
OwesImage image most before now (Faulted kind pc) done = (done.steps ≤ most) × ComesTo image (state.Faulted kind pc) (fault_line kind pc) done
OwesImage image most before now Spent done = (done.steps ≡ most) × ComesTo image Running (line (codes "opc: step limit reached")) done
OwesImage image most before now ReadFault done =
    Rose before now × (done.steps < most) × (first_failing image ≡ None) × (taken : List ℕ) × (done.input ≡ taken ++ done.left) × FaultsReading image taken done
OwesImage image most before now (BadImage condition) done =
    (first_failing image ≡ Some condition) × OnlyReports (line (codes "opc: bad image: Elf" ++ decimal condition)) done
OwesImage image most before now NoMemory done = OnlyReports (line (codes "opc: out of memory")) done
OwesImage image most before now Usage done = ⊥
OwesImage image most before now (Refused rule place) done = ⊥
OwesImage image most before now WriteFault done = ⊥
OwesImage image most before now Limit done = ⊥
