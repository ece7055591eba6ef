-- The source machine as a machine among others: its states, its step, what a step costs, and what it shows to the outside.
use Rattle.std.specs.Prelude.{ℕ, ◌-◌, Bool, true, false, IsTrue, List, [], ◌∷◌, ◌++◌, length, map, take, drop, Option, Some, None}
use Rattle.std.specs.List.{list_any}
use Rattle.op_simulation.specs.System.{System}
use Rattle.op_semantics.specs.Actions.{Action, constant, load, store, copy, begin_with, pick, arithmetic, compare, negate, complement, invert, absolute, odd, upper, low_bits, check, neighbour, single, span, combine, contains, check_set, peek, take as take_byte, forget, note, primitive}
use Rattle.op_semantics.specs.Costs.{cost}
use Rattle.op_semantics.specs.Demands.{Demand, nothing, demand, let_go}
use Rattle.op_semantics.specs.Frames.{Program, State, Frame}
use Rattle.op_semantics.specs.Items.{Item, act, also, choose, select, loop, body_first, protect, leave, enter, scoped, attempt, throw, rethrow, halt, construct, invoke, free, Task, item, mark, turn, finally, resume, catching, scope, handling, leaving, ending, due}
use Rattle.op_semantics.specs.Machine.{step}
use Rattle.op_semantics.specs.World.{World, Ending, Running, Ended}

pub data Event : Type 0 where
  -- a block is asked for, and a name is let go
  Asked : (demand : Demand) → Event
  LetGo : (name : ℕ) → Event
  -- the input is looked at, and bytes of it are taken
  Looked : Event
  Taken : (bytes : List ℕ) → Event
  -- bytes go to the console, and to the error stream
  Written : (bytes : List ℕ) → Event
  Reported : (bytes : List ℕ) → Event

-- what two lists differ in, the first one being the front of the other
abbrev pub behind : List ℕ → List ℕ → List ℕ
behind old new = drop (length old) new

-- what was taken off the front
abbrev pub taken : List ℕ → List ℕ → List ℕ
taken old new = take (length old - length new) old

abbrev where_some : (List ℕ → Event) → List ℕ → List Event
where_some event [] = []
where_some event (b ∷ bs) = event (b ∷ bs) ∷ []

abbrev asked : Demand → List Event
asked nothing = []
asked d = Asked d ∷ []

-- these look at the input
abbrev pub looks : Action → Bool
looks (constant to n) = false
looks (load to kind from) = false
looks (store to kind from) = false
looks (copy of to from) = false
looks (begin_with v of value) = false
looks (pick to text index) = false
looks (arithmetic o checked to a b) = false
looks (compare o to a b) = false
looks (negate checked to a) = false
looks (complement to a) = false
looks (invert to a) = false
looks (absolute checked to a) = false
looks (odd to a) = false
looks (upper to a) = false
looks (low_bits kind to a) = false
looks (check low high to a) = false
looks (neighbour distance low high to a) = false
looks (single to a) = false
looks (span to a b) = false
looks (combine o to a b) = false
looks (contains to a b) = false
looks (check_set all to a) = false
looks (peek to) = true
looks take_byte = false
looks forget = false
looks (note a) = false
looks (primitive p operands to) = false

abbrev looks_for : Item → Bool
looks_for (act a) = looks a
looks_for (also truth t items) = false
looks_for (choose t first otherwise) = false
looks_for (select t cs otherwise) = false
looks_for (loop l) = false
looks_for (body_first l) = false
looks_for (protect t items finalization) = false
looks_for (leave what) = false
looks_for (enter r given receiver) = false
looks_for (scoped t ts items) = false
looks_for (attempt items cs) = false
looks_for (throw at) = false
looks_for rethrow = false
looks_for (halt t) = false
looks_for (construct c r given receiver) = false
looks_for (invoke r dispatch of given receiver) = false
looks_for (free takes_nil at) = false

abbrev looks_in : List Task → Bool
looks_in [] = false
looks_in (item i ∷ work) = looks_for i
looks_in (mark l ∷ work) = false
looks_in (turn l ∷ work) = false
looks_in (finally t finalization ∷ work) = false
looks_in (resume t ∷ work) = false
looks_in (catching cs ∷ work) = false
looks_in (scope t ts ∷ work) = false
looks_in (handling instance ∷ work) = false
looks_in (leaving reason ∷ work) = false
looks_in (ending variables result ∷ work) = false
looks_in (due f ∷ work) = false

abbrev looks_on : State → List Frame → Bool
looks_on s [] = looks_in s.work
looks_on s (frame ∷ rest) = false

-- what has ended looks at nothing, and an exception under way goes on first
abbrev pub looks_now : Ending → Option ℕ → State → Bool
looks_now Running None s = looks_on s s.frames
looks_now Running (Some e) s = false
looks_now (Ended status) raised s = false

abbrev looked : Bool → List Event
looked false = []
looked true = Looked ∷ []

abbrev shown_by : World → World → List Event
shown_by v w = where_some (λ bytes. Taken bytes) (taken v.input w.input) ++ where_some (λ bytes. Written bytes) (behind v.output w.output) ++ where_some (λ bytes. Reported bytes) (behind v.errors w.errors)

abbrev pub shows : Program → State → List Event
shows p s = looked (looks_now s.world.ending s.world.raised s) ++ asked (demand p s) ++ shown_by s.world (step p s).world ++ map (λ n. LetGo n) (let_go p s)

-- what is shown of the input: it is looked at, or bytes of it are taken
abbrev pub is_of_input : Event → Bool
is_of_input (Asked demand) = false
is_of_input (LetGo name) = false
is_of_input Looked = true
is_of_input (Taken bytes) = true
is_of_input (Written bytes) = false
is_of_input (Reported bytes) = false

-- the step from here reads, or looks at, a byte of the input or its end
abbrev pub LooksAtInput : Program → State → Type 0
LooksAtInput p s = IsTrue (list_any is_of_input (shows p s))

abbrev pub source : Program → System Event
source p = record { State = State; step = step p; cost = cost p; shows = shows p }
