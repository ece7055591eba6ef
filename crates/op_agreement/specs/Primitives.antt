-- What is claimed of the run-time routine of a primitive: that it does what is meant, where its arguments stand for the operands' values.
use Rattle.std.specs.Prelude.{◌≡◌, ◌≢◌, ◌<◌, ◌≤◌, ℕ, ◌+◌, ◌^◌, false, List, [], ◌∷◌, ◌++◌, codes, length, Option, Some, None}
use Rattle.std.specs.List.{concat, list_any}
use Rattle.op_compute.specs.Meaning.{IsWordOf}
use Rattle.op_primitives.specs.Primitives.{routine_of}
use Rattle.op_low.specs.Machine.{Event, low_machine}
use Rattle.op_low.specs.State.{Bad, Ended, Placement, State}
use Rattle.op_low.specs.declared.code.Low.{Low}
use Rattle.op_low.specs.declared.instruction.Call.{Call as Operands}
use Rattle.op_low.specs.declared.instruction.Instruction.{Instruction}
use Rattle.op_meaning.specs.Primitives.{Given, Outcome, Values, gives, meaning, signature}
use Rattle.op_meaning.specs.Texts.{digits_of, line_feed}
use Rattle.op_meaning.specs.Values.{Reached, reached, failing}
use Rattle.op_meaning.specs.declared.primitive.Primitive.{Primitive}
use Rattle.op_meaning.specs.declared.primitive.Sort.{Sort}
use Rattle.op_meaning.specs.declared.primitive.Sort.TheVariants.{Numeric, Textual}
use Rattle.op_rt_text.specs.Running.{Called, HasTexts, StandsAt, all_written, behind}
use Rattle.op_simulation.specs.Path.{Path}
use Rattle.op_agreement.specs.Steps.{is_read}

-- the word of a number, and the address of a text
abbrev pub Words : List Sort → Type 0
Words [] = Unit {0}
Words (Numeric ∷ sorts) = ℕ × Words sorts
Words (Textual ∷ sorts) = ℕ × Words sorts

-- the arguments of the call: of a text its address and its length
abbrev pub listed : (sorts : List Sort) → Values sorts → Words sorts → List ℕ
listed [] values words = []
listed (Numeric ∷ sorts) (n, values) (w, words) = w ∷ listed sorts values words
listed (Textual ∷ sorts) (text, values) (place, words) = place ∷ length text.bytes ∷ listed sorts values words

-- they stand for the values
abbrev pub StandFor : Placement → State → (sorts : List Sort) → Values sorts → Words sorts → Type 0
StandFor p m [] values words = Unit {0}
StandFor p m (Numeric ∷ sorts) (n, values) (w, words) = IsWordOf w n × StandFor p m sorts values words
StandFor p m (Textual ∷ sorts) (text, values) (place, words) = (StandsAt p m place text.bytes × (place < 2 ^ 32) × (length text.bytes < 2 ^ 31)) × StandFor p m sorts values words

-- The call comes to the state behind it after so many steps at most, at that cost and never bad. It gives such a value, writes these bytes, in
-- pieces, and below the limit memory is then this one.
pub record CallsTo (low : Low) (p : Placement) (m : State) (operands : Operands) (rest : List Instruction) (IsValue : ℕ → Type 0) (bytes : List ℕ) (new : ℕ → ℕ) (most : ℕ) : Type 0 where
  pub value : ℕ
  pub fits : IsValue value
  pub memory : ℕ → ℕ
  pub same : (x : ℕ) → x < m.limit → memory x ≡ new x
  pub pieces : List (List ℕ)
  pub joined : concat pieces ≡ bytes
  pub steps : ℕ
  pub few : steps ≤ most
  pub path : Path (low_machine low p) (λ s. s.ending ≢ Bad) m (behind m operands rest value memory (m.output ++ bytes)) steps (all_written pieces) most

-- the call ends the program with this error, at that cost at most and never bad, and reads nothing
pub record CallFails (low : Low) (p : Placement) (m : State) (error most : ℕ) : Type 0 where
  pub to : State
  pub ending : to.ending ≡ Ended error
  pub output : to.output ≡ m.output
  pub errors : to.errors ≡ m.errors ++ (codes "Runtime error " ++ digits_of error ++ line_feed)
  pub input : to.input ≡ m.input
  pub steps : ℕ
  pub some : 1 ≤ steps
  pub events : List Event
  pub unread : list_any is_read events ≡ false
  pub path : Path (low_machine low p) (λ s. s.ending ≢ Bad) m to steps events most

-- the value of the call is the word of the number that is given; no routine gives a text yet
abbrev pub IsGiven : (sort : Option Sort) → Given sort → ℕ → Type 0
IsGiven None none value = Unit {0}
IsGiven (Some Numeric) n value = IsWordOf value n
IsGiven (Some Textual) new value = ⊥

-- what a call does that does what is meant
abbrev pub Does : Low → Placement → State → Operands → List Instruction → (sort : Option Sort) → Reached (Outcome sort) → Type 0
Does low p m operands rest sort (reached o) = CallsTo low p m operands rest (IsGiven sort o.value) o.bytes m.memory (512 + length o.bytes)
Does low p m operands rest sort (failing error) = CallFails low p m error 512

-- of a primitive that has a routine
abbrev pub DoesBy : (routine : Option ℕ) → Primitive → Type 0
DoesBy None q = Unit {0}
DoesBy (Some routine) q =
    (low : Low) (p : Placement) (m : State) (operands : Operands) (rest : List Instruction) (values : Values (signature q)) (words : Words (signature q)) → HasTexts p m
    → StandFor p m (signature q) values words → Called low p m routine (listed (signature q) values words) operands rest → Does low p m operands rest (gives q) (meaning q values)

abbrev pub PrimitiveDoes : Primitive → Type 0
PrimitiveDoes q = DoesBy (routine_of q) q
