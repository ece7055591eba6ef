-- How much low code managed code and items come to at most.
use Rattle.std.specs.Prelude.{ℕ, ◌+◌, ◌*◌, List, [], ◌∷◌, length}
use Rattle.op_meaning.specs.Actions.{Action, constant, load, store, copy, look, begin_with, pick, arithmetic, compare, negate, complement, invert, absolute, odd, upper, low_bits, check, neighbour, single, span, combine, contains, check_set, primitive}
use Rattle.op_meaning.specs.Items.{Given, by_value, by_place, by_copy, Receiver, nowhere, to_temp, to_place, Item, act, also, choose, select, loop, body_first, protect, leave, enter, scoped, attempt, throw, rethrow, halt, construct, free, Items, none, then_do, Turns, turns, Cases, no_cases, cases}
use Rattle.op_meaning.specs.Paths.{Path}
use Rattle.op_meaning.specs.Primitives.{Operand, from_temp, literal_text, text_at}
use Rattle.op_mir.specs.Code.{Arm, Instr, do_act, do_call, jump, when, unless, switch, dispatch, make_due, open_temporaries, end_temporary, stop, ret}

-- ---- instructions of managed code

-- one has the address of the root, two make a distance that is too large smaller, and an index is tested and scaled by seven
abbrev pub path_size : Path → ℕ
path_size p = 3 + 7 * length p.steps

-- what an operand passes counts with the call once more
abbrev pub operand_size : Operand → ℕ
operand_size (from_temp t) = 1
operand_size (text_at path) = path_size path
operand_size (literal_text bytes) = 4

abbrev pub operands_size : List Operand → ℕ
operands_size [] = 0
operands_size (o ∷ os) = operand_size o + operands_size os

-- up to eight words are loaded and stored one by one
abbrev pub action_size : Action → ℕ
action_size (constant to n) = 1
action_size (load to kind from) = 1 + path_size from
action_size (store to kind from) = 1 + path_size to
action_size (copy of to from) = 16 + (path_size from + path_size to)
action_size (look at) = 1 + path_size at
action_size (begin_with v of value) = 9
action_size (pick to text index) = 6
action_size (arithmetic o checked to a b) = 7
action_size (compare o to a b) = 3
action_size (negate checked to a) = 6
action_size (complement to a) = 6
action_size (invert to a) = 6
action_size (absolute checked to a) = 6
action_size (odd to a) = 6
action_size (upper to a) = 6
action_size (low_bits kind to a) = 2
action_size (check low high to a) = 5
action_size (neighbour distance low high to a) = 6
action_size (single to a) = 2
action_size (span to a b) = 13
action_size (combine o to a b) = 3
action_size (contains to a b) = 3
action_size (check_set all to a) = 5
action_size (primitive p operands to) = 1 + operands_size operands

-- an argument counts with the call once more
abbrev pub given_size : Given → ℕ
given_size (by_value kind t) = 3
given_size (by_place p) = 1 + path_size p
given_size (by_copy of p) = 1 + path_size p

abbrev pub givens_size : List Given → ℕ
givens_size [] = 0
givens_size (g ∷ gs) = given_size g + givens_size gs

abbrev pub receiver_size : Receiver → ℕ
receiver_size nowhere = 0
receiver_size (to_temp t) = 0
receiver_size (to_place of p) = path_size p

-- three charge the stack, and the call has two arguments more
abbrev pub call_size : List Given → Receiver → ℕ
call_size given receiver = 6 + (receiver_size receiver + givens_size given)

-- the values of a label are tested by four
abbrev pub arms_size : List Arm → ℕ
arms_size [] = 0
arms_size (arm ∷ arms) = 4 * length arm.labels + arms_size arms

abbrev pub instruction_size : Instr → ℕ
instruction_size (do_act action landing) = action_size action
instruction_size (do_call r given receiver landing) = call_size given receiver
instruction_size (jump k) = 1
instruction_size (when t k) = 2
instruction_size (unless t k) = 2
instruction_size (switch t arms) = 1 + arms_size arms
instruction_size (dispatch t k) = 6
instruction_size (make_due f) = 4
instruction_size (open_temporaries ts) = 0
instruction_size (end_temporary t) = 0
instruction_size (stop t) = 3
instruction_size ret = 22

abbrev pub code_size : List Instr → ℕ
code_size [] = 0
code_size (i ∷ is) = instruction_size i + code_size is

abbrev pub blocks_size : List (List Instr) → ℕ
blocks_size [] = 0
blocks_size (code ∷ blocks) = code_size code + blocks_size blocks

-- ---- items: what they are, and the jumps and branches between their parts

abbrev mutual
  pub items_size : Items → ℕ
  items_size none = 0
  items_size (then_do i others) = item_size i + items_size others

  -- items of exceptions and of instances have no code, and the ends of temporaries no low code
  pub item_size : Item → ℕ
  item_size (act a) = action_size a
  item_size (also truth t items) = 3 + items_size items
  item_size (choose t first otherwise) = 4 + (items_size first + items_size otherwise)
  item_size (select t cs otherwise) = 2 + (cases_size cs + items_size otherwise)
  item_size (loop l) = 5 + turns_size l
  item_size (body_first l) = 5 + turns_size l
  item_size (protect t items finalization) = 14 + (items_size items + items_size finalization)
  item_size (leave what) = 2
  item_size (enter r given receiver) = call_size given receiver
  item_size (halt t) = 3
  item_size (scoped t ts items) = items_size items
  item_size (attempt items cs) = 0
  item_size (throw at) = 0
  item_size rethrow = 0
  item_size (construct c r given receiver) = 0
  item_size (free takes_nil at) = 0

  pub turns_size : Turns → ℕ
  turns_size (turns head t ends between body) = items_size head + (items_size between + items_size body)

  pub cases_size : Cases → ℕ
  cases_size no_cases = 0
  cases_size (cases labels items others) = 1 + 4 * length labels + (items_size items + cases_size others)
