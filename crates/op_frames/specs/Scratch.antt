-- How many scratch registers the low code of an instruction takes at most.
use Rattle.std.specs.Prelude.{ℕ, ◌+◌, ◌*◌, List, [], ◌∷◌, length}
use Rattle.op_meaning.specs.Actions.{Action, constant, load, store, copy, look, begin_with, pick, arithmetic, compare, negate, complement, invert, absolute, odd, upper, low_bits, check, neighbour, single, span, combine, contains, check_set, primitive}
use Rattle.op_meaning.specs.Items.{Given, by_value, by_place, by_copy, Receiver, nowhere, to_temp, to_place}
use Rattle.op_meaning.specs.Paths.{Path}
use Rattle.op_meaning.specs.Primitives.{Operand, from_temp, literal_text, text_at}
use Rattle.op_mir.specs.Code.{Instr, do_act, do_call, jump, when, unless, switch, dispatch, make_due, open_temporaries, end_temporary, stop, ret}

-- one has the address of the root; an element takes one and another one for its index, and a distance that is too large takes one
abbrev pub path_room : Path → ℕ
path_room p = 1 + 2 * length p.steps

abbrev pub operand_room : Operand → ℕ
operand_room (from_temp t) = 0
operand_room (text_at path) = path_room path
operand_room (literal_text bytes) = 2

abbrev pub operands_room : List Operand → ℕ
operands_room [] = 0
operands_room (o ∷ os) = operand_room o + operands_room os

-- what variables begin with is counted with the frame
abbrev pub action_room : Action → ℕ
action_room (constant to n) = 0
action_room (load to kind from) = path_room from
action_room (store to kind from) = path_room to
action_room (copy of to from) = path_room from + path_room to + 1
action_room (look at) = path_room at + 1
action_room (begin_with v of value) = 0
action_room (pick to text index) = 3
action_room (arithmetic o checked to a b) = 3
action_room (compare o to a b) = 3
action_room (negate checked to a) = 3
action_room (complement to a) = 3
action_room (invert to a) = 3
action_room (absolute checked to a) = 3
action_room (odd to a) = 3
action_room (upper to a) = 3
action_room (low_bits kind to a) = 3
action_room (check low high to a) = 3
action_room (neighbour distance low high to a) = 3
action_room (single to a) = 3
action_room (span to a b) = 3
action_room (combine o to a b) = 3
action_room (contains to a b) = 3
action_room (check_set all to a) = 3
action_room (primitive p operands to) = 1 + operands_room operands

abbrev pub given_room : Given → ℕ
given_room (by_value kind t) = 1
given_room (by_place p) = path_room p
given_room (by_copy of p) = path_room p

abbrev pub givens_room : List Given → ℕ
givens_room [] = 0
givens_room (g ∷ gs) = given_room g + givens_room gs

abbrev pub receiver_room : Receiver → ℕ
receiver_room (to_place of p) = path_room p
receiver_room nowhere = 0
receiver_room (to_temp t) = 0

-- the charge of the callee takes one
abbrev pub room_in : Instr → ℕ
room_in (do_act action landing) = action_room action
room_in (do_call r given receiver landing) = 1 + receiver_room receiver + givens_room given
room_in (jump k) = 0
room_in (when t k) = 3
room_in (unless t k) = 3
room_in (switch t arms) = 3
room_in (dispatch t k) = 3
room_in (make_due f) = 2
room_in (open_temporaries ts) = 0
room_in (end_temporary t) = 0
room_in (stop t) = 0
room_in ret = 0
