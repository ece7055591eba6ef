-- What a call does with its streams, and what its answer says of that.
use Rattle.std.specs.Prelude.{◌≡◌, ℕ, ◌⊎◌, Option, List, [], ◌∷◌, ◌++◌, Bool, IsTrue}
use Rattle.op_base.specs.Outside.{Rose, appended, preceded, AppendsFront, IsExhausted}
use Rattle.op_emu.specs.Acts.{Streams, Faults, OutputFailed}
use Rattle.op_emu.specs.Filling.{AreBytes}
use Rattle.op_tool.specs.declared.finish.Finish.{Finish}
use Rattle.op_tool.specs.declared.finish.Finish.TheVariants.{WriteFault}

-- a call over an input: how many steps its image did, what it left of the input, and what it wrote
pub record Effect : Type 0 where
  pub steps : ℕ
  pub input : List ℕ
  pub left : List ℕ
  pub out : List ℕ
  pub err : List ℕ

abbrev pub effect : ℕ → List ℕ → List ℕ → List ℕ → List ℕ → Effect
effect steps input left out err = record { steps = steps; input = input; left = left; out = out; err = err }

abbrev pub line : List ℕ → List ℕ
line text = text ++ 10 ∷ []

-- nothing was read, and these bytes alone were written, to the errors
abbrev pub OnlyReports : List ℕ → Effect → Type 0
OnlyReports bytes done = (done.left ≡ done.input) × (done.out ≡ []) × (done.err ≡ bytes)

-- nothing was read, and these bytes alone were written, to the output
abbrev pub OnlyWrites : List ℕ → Effect → Type 0
OnlyWrites bytes done = (done.left ≡ done.input) × (done.out ≡ bytes) × (done.err ≡ [])

-- what was taken from the input, and whether the source has answered that it is at its end: then nothing is left
pub record Intake (told : Streams) : Type 0 where
  pub taken : List ℕ
  pub ended : Bool
  pub bounded : AreBytes taken
  pub parts : told.input_before ≡ preceded taken told.input_after
  pub exhausted : IsTrue ended → IsExhausted told.input_after

-- an input may have these bytes left behind what was taken
abbrev pub MayBeLeft : {told : Streams} → Intake told → List ℕ → Type 0
MayBeLeft intake left = AreBytes left × (IsTrue intake.ended → left ≡ [])

-- both outputs have got all that is owed, whatever is left of the input
pub record WritesAll (owed : Effect → Type 0) (told : Streams) : Type 0 where
  pub intake : Intake told
  pub steps : ℕ
  pub out : List ℕ
  pub err : List ℕ
  pub is_owed : (left : List ℕ) → MayBeLeft intake left → owed (effect steps (intake.taken ++ left) left out err)
  pub output : told.output_after ≡ appended told.output_before out
  pub errors : told.errors_after ≡ appended told.errors_before err

-- over this input, of which that is left, some other answer would owe what each output has got a front of, with no more of the input left
pub record WouldWrite (owed : Finish → Effect → Type 0) (told : Streams) (input left : List ℕ) : Type 0 where
  pub finish : Finish
  pub done : Effect
  pub is_owed : owed finish done
  pub over : done.input ≡ input
  pub more : List ℕ
  pub leaves : left ≡ more ++ done.left
  pub output : AppendsFront told.output_before done.out told.output_after
  pub errors : AppendsFront told.errors_before done.err told.errors_after

-- an output failed: each has got a front of what it would have got, and no more was taken of the input than would have been, whatever is left of it
pub record WritesInPart (owed : Finish → Effect → Type 0) (told : Streams) (counts : Faults) : Type 0 where
  pub intake : Intake told
  pub would : (left : List ℕ) → MayBeLeft intake left → WouldWrite owed told (intake.taken ++ left) left
  pub failed : OutputFailed counts

-- an answer, by what each answer owes
unfoldable pub Says : (Finish → Effect → Type 0) → Finish → Streams → Faults → Type 0
Says owed WriteFault told counts = WritesInPart owed told counts
Says owed finish told counts = WritesAll (owed finish) told

-- a line to a sink that stood and stands so, as the last act of this answer
abbrev pub ReportIs : Finish → List ℕ → Finish → Option (List ℕ) → Option (List ℕ) → ℕ → ℕ → Type 0
ReportIs finish bytes answer before after count count' =
    ((answer ≡ finish) × (after ≡ appended before bytes)) ⊎ ((answer ≡ WriteFault) × AppendsFront before bytes after × Rose count count')
