-- What actions read and change: the temporaries of the activation under way, what all variables hold, what stands under names, and
-- the console. (Free Pascal Reference Guide, "Variables" and "Managed types"; User's Guide, "Run-time errors".)
use Rattle.std.specs.Prelude.{ℕ, suc, ℤ, List, [], ◌∷◌, ◌++◌, Option, Some, nat_eq, if◌then◌else◌}
use Rattle.op_core.specs.declared.ids.ClassId.{ClassId}
use Rattle.op_core.specs.declared.ids.TypeId.{TypeId}
use Rattle.op_meaning.specs.Values.{Value, text, line, Text, empty, literal, named, Holder, temporary, Place, all_of, get, put, same_holder}

-- how far an instance has come ("Class instantiation" and "Class destruction")
pub data Phase : Type 0 where
  Construction : Phase
  Live : Phase
  Destruction : Phase
  Dead : Phase

-- What stands under a name: the bytes of a string, a line that is being read, an array, an instance, or nothing any more. The
-- elements of an array and the fields of an instance are the parts of what the name holds.
pub data Object : Type 0 where
  gone : Object
  chars : (bytes : List ℕ) → Object
  buffer : (bytes : List ℕ) → (capacity : ℕ) → Object
  elements : (of : TypeId) → (count : ℕ) → Object
  fields : (class : ClassId) → (phase : Phase) → Object

-- A temporary that was made and has to be ended: it has a type, and a number among those of its type. It is a holder, as a variable is,
-- whether it has a string, an array or an interface, or a record with such parts.
pub record Temporary : Type 0 where
  pub of : TypeId
  pub n : ℕ

-- a program ends with a status from 0 to 255
pub data Ending : Type 0 where
  Running : Ending
  Ended : (status : ℕ) → Ending

pub record World : Type 0 where
  -- the temporaries of the activation under way that are numbers; all others are holders
  pub temps : ℕ → ℤ
  -- the exceptions that wait behind its finally parts, by the number of a temporary
  pub waiting : ℕ → Option ℕ
  -- those of its temporaries that have to be ended, the last one that was made first
  pub made : List Temporary
  -- how many activations are below it
  pub depth : ℕ
  pub memory : Holder → Value
  -- what the variable parameters of each activation stand for
  pub bound : (depth variable : ℕ) → Place
  -- what stands under each name, and the next name; names are given in order of making, one sequence for all kinds
  pub objects : ℕ → Object
  pub next : ℕ
  -- the exception under way
  pub raised : Option ℕ
  -- the bytes of the number that is being read
  pub token : List ℕ
  -- what is left of the input, and what went to the console and to the error stream
  pub input : List ℕ
  pub output : List ℕ
  pub errors : List ℕ
  pub ending : Ending

-- ---- temporaries

abbrev pub number_at : World → ℕ → ℤ
number_at w t = w.temps t

abbrev pub with_number : ℕ → ℤ → World → World
with_number t n w = record w { temps = λ u. if nat_eq u t then n else w.temps u }

abbrev pub with_waiting : ℕ → ℕ → World → World
with_waiting t e w = record w { waiting = λ u. if nat_eq u t then Some e else w.waiting u }

-- ---- places

abbrev pub value_at : World → Place → Value
value_at w p = get p.path (w.memory p.holder)

abbrev pub with_value : Place → Value → World → World
with_value p v w = record w { memory = λ h. if same_holder h p.holder then put p.path v (w.memory h) else w.memory h }

-- a value goes to a temporary of its own, which has to be ended
abbrev pub with_made : TypeId → ℕ → Value → World → World
with_made of n v w = with_value (all_of (temporary w.depth of n)) v (record w { made = record { of = of; n = n } ∷ w.made })

-- ---- names

abbrev pub with_object : ℕ → Object → World → World
with_object name o w = record w { objects = λ n. if nat_eq n name then o else w.objects n }

abbrev class_under : Object → ClassId
class_under (fields c phase) = c
class_under _ = record { 0 = 0 }

abbrev pub class_of : World → ℕ → ClassId
class_of w i = class_under (w.objects i)

-- the next name stands for this
abbrev pub making : Object → World → World
making o w = record w { objects = λ n. if nat_eq n w.next then o else w.objects n; next = suc w.next }

-- ---- texts

abbrev bytes_under : Object → List ℕ
bytes_under (chars bytes) = bytes
bytes_under (buffer bytes capacity) = bytes
bytes_under _ = []

abbrev pub bytes_of_text : World → Text → List ℕ
bytes_of_text w empty = []
bytes_of_text w (literal bytes) = bytes
bytes_of_text w (named n) = bytes_under (w.objects n)

abbrev pub bytes_in : World → Value → List ℕ
bytes_in w (text t) = bytes_of_text w t
bytes_in w (line n) = bytes_under (w.objects n)
bytes_in w _ = []

-- ---- the console

abbrev pub written : List ℕ → World → World
written bytes w = record w { output = w.output ++ bytes }

abbrev pub reported : List ℕ → World → World
reported bytes w = record w { errors = w.errors ++ bytes }
