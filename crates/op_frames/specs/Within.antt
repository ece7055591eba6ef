-- How far the temporaries of an instruction go, and how many scratch registers it takes at most; and that a branch has no more labels than that.
use Rattle.std.specs.Prelude.{◌<◌, ◌≤◌, ℕ, ◌+◌, List, [], ◌∷◌, length}
use Rattle.op_frames.specs.Made.{Every}
use Rattle.op_frames.specs.Scratch.{action_room, givens_room, receiver_room}
use Rattle.op_meaning.specs.Actions.{Action, constant, load, store, copy, look, begin_with, pick, arithmetic, compare, negate, complement, invert, absolute, odd, upper, low_bits, check, neighbour, single, span, combine, contains, check_set, primitive}
use Rattle.op_meaning.specs.Items.{Given, by_value, by_place, by_copy, Receiver, nowhere, to_temp, to_place}
use Rattle.op_meaning.specs.Paths.{Step, field, element}
use Rattle.op_meaning.specs.Primitives.{Destination, EachOperand, Operand, from_temp, in_new, in_temp, into_place, literal_text, over_place, text_at, unused}
use Rattle.op_mir.specs.Code.{Instr, do_act, do_call, jump, when, unless, switch, dispatch, make_due, open_temporaries, end_temporary, stop, ret, Arm}

abbrev pub StepsBelow : ℕ → List Step → Type 0
StepsBelow top [] = Unit {0}
StepsBelow top (field of k ∷ steps) = StepsBelow top steps
StepsBelow top (element of low high t ∷ steps) = (t < top) × StepsBelow top steps

abbrev pub TwoBelow : (top a b : ℕ) → Type 0
TwoBelow top a b = (a < top) × (b < top)

abbrev pub ThreeBelow : (top a b c : ℕ) → Type 0
ThreeBelow top a b c = (a < top) × (b < top) × (c < top)

abbrev pub OperandBelow : ℕ → Operand → Type 0
OperandBelow top (from_temp t) = t < top
OperandBelow top (text_at p) = StepsBelow top p.steps
OperandBelow top (literal_text bytes) = Unit {0}

abbrev pub DestinationBelow : ℕ → Destination → Type 0
DestinationBelow top unused = Unit {0}
DestinationBelow top (in_temp t) = t < top
DestinationBelow top (in_new of n) = Unit {0}
DestinationBelow top (into_place of p old) = StepsBelow top p.steps
DestinationBelow top (over_place p) = StepsBelow top p.steps

abbrev pub ActionBelow : ℕ → Action → Type 0
ActionBelow top (constant to n) = to < top
ActionBelow top (load to kind p) = (to < top) × StepsBelow top p.steps
ActionBelow top (store p kind from) = (from < top) × StepsBelow top p.steps
ActionBelow top (copy of to from) = StepsBelow top to.steps × StepsBelow top from.steps
ActionBelow top (look p) = StepsBelow top p.steps
ActionBelow top (begin_with v of value) = Unit {0}
ActionBelow top (pick to text index) = TwoBelow top to index
ActionBelow top (arithmetic o checked to a b) = ThreeBelow top to a b
ActionBelow top (compare o to a b) = ThreeBelow top to a b
ActionBelow top (negate checked to a) = TwoBelow top to a
ActionBelow top (complement to a) = TwoBelow top to a
ActionBelow top (invert to a) = TwoBelow top to a
ActionBelow top (absolute checked to a) = TwoBelow top to a
ActionBelow top (odd to a) = TwoBelow top to a
ActionBelow top (upper to a) = TwoBelow top to a
ActionBelow top (low_bits kind to a) = TwoBelow top to a
ActionBelow top (check low high to a) = TwoBelow top to a
ActionBelow top (neighbour distance low high to a) = TwoBelow top to a
ActionBelow top (single to a) = TwoBelow top to a
ActionBelow top (span to a b) = ThreeBelow top to a b
ActionBelow top (combine o to a b) = ThreeBelow top to a b
ActionBelow top (contains to a b) = ThreeBelow top to a b
ActionBelow top (check_set all to a) = TwoBelow top to a
ActionBelow top (primitive p operands to) = EachOperand (OperandBelow top) operands × DestinationBelow top to

abbrev pub GivenBelow : ℕ → Given → Type 0
GivenBelow top (by_value kind t) = t < top
GivenBelow top (by_place p) = StepsBelow top p.steps
GivenBelow top (by_copy of p) = StepsBelow top p.steps

abbrev pub ReceiverBelow : ℕ → Receiver → Type 0
ReceiverBelow top nowhere = Unit {0}
ReceiverBelow top (to_temp t) = t < top
ReceiverBelow top (to_place of p) = StepsBelow top p.steps

-- how many labels a branch looks through
abbrev pub labels_among : List Arm → ℕ
labels_among [] = 0
labels_among (a ∷ arms) = length a.labels + labels_among arms

-- behind the reason of a finally part stands the exception that waits
abbrev pub IsWithin : (top room : ℕ) → Instr → Type 0
IsWithin top room (do_act a landing) = ActionBelow top a × (action_room a ≤ room)
IsWithin top room (do_call r given receiver landing) = Every (GivenBelow top) given × ReceiverBelow top receiver × (1 + receiver_room receiver + givens_room given ≤ room)
IsWithin top room (jump k) = Unit {0}
IsWithin top room (when t k) = (t < top) × (3 ≤ room)
IsWithin top room (unless t k) = (t < top) × (3 ≤ room)
IsWithin top room (switch t arms) = (t < top) × (3 ≤ room) × (labels_among arms ≤ room)
IsWithin top room (dispatch t k) = (t + 1 < top) × (3 ≤ room)
IsWithin top room (make_due f) = 2 ≤ room
IsWithin top room (open_temporaries ts) = ⊥
IsWithin top room (end_temporary t) = ⊥
IsWithin top room (stop t) = t < top
IsWithin top room ret = Unit {0}
