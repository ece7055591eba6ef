-- What instructions of managed code have to be, so that their low code is valid: what they name is there, and their numbers have 32 bits.
use Rattle.std.specs.Prelude.{◌≡◌, ◌<◌, ◌^◌, false, ℕ, ◌+◌, ◌*◌, ℤ, ◌-ℤ◌, List, [], ◌∷◌, length, FitsSigned}
use Rattle.std.specs.Int.{w32, cast_unsigned, int_bit_not}
use Rattle.op_constants.specs.FirstBytes.{first_number}
use Rattle.op_constants.specs.Offsets.{field_offset}
use Rattle.op_constants.specs.Shapes.{is_composite}
use Rattle.op_core.specs.declared.program.Core.{Core}
use Rattle.op_core.specs.declared.statement.Label.{Label}
use Rattle.op_places.specs.Frames.{parameters_of}
use Rattle.op_frames.specs.Made.{Every}
use Rattle.op_meaning.specs.Actions.{Action, constant, load, store, copy, look, begin_with, pick, arithmetic, compare, negate, complement, invert, absolute, odd, upper, low_bits, check, neighbour, single, span, combine, contains, check_set, primitive}
use Rattle.op_meaning.specs.Items.{Given, by_value, by_place, by_copy, Receiver, nowhere, to_temp, to_place}
use Rattle.op_meaning.specs.Primitives.{IsApplied, Operand, from_temp, literal_text, text_at}
use Rattle.op_meaning.specs.Shapes.{shape_of}
use Rattle.op_meaning.specs.Paths.{Path, Root, in_global, in_local, through, in_temporary, Step, field, element}
use Rattle.op_mir.specs.Code.{Arm, Instr, do_act, do_call, jump, when, unless, switch, dispatch, make_due, open_temporaries, end_temporary, stop, ret}

-- ---- places

-- a global variable has a row
abbrev pub IsNamedRoot : Core → Root → Type 0
IsNamedRoot core (in_global v) = v < length core.variables
IsNamedRoot core (in_local v) = Unit {0}
IsNamedRoot core (through v) = Unit {0}
IsNamedRoot core (in_temporary of n) = Unit {0}

-- the distance of the last element from the first one is a word
abbrev pub IsNamedStep : Step → Type 0
IsNamedStep (field of k) = Unit {0}
IsNamedStep (element of low high t) = cast_unsigned w32 (high -ℤ low) < 2 ^ 32

-- how far behind their beginnings the fields stand
abbrev pub fields_offset : Core → List Step → ℕ
fields_offset core [] = 0
fields_offset core (field of k ∷ steps) = field_offset core of k + fields_offset core steps
fields_offset core (element of low high t ∷ steps) = fields_offset core steps

abbrev pub IsNamedPath : Core → Path → Type 0
IsNamedPath core p = IsNamedRoot core p.root × Every IsNamedStep p.steps × (fields_offset core p.steps < 2 ^ 32)

-- ---- actions

abbrev pub IsNamedOperand : Operand → Type 0
IsNamedOperand (from_temp t) = Unit {0}
IsNamedOperand (text_at path) = ⊥
IsNamedOperand (literal_text bytes) = length bytes < 2 ^ 32

abbrev pub IsNamedAction : Core → Action → Type 0
IsNamedAction core (constant to n) = FitsSigned w32 n
IsNamedAction core (load to kind from) = IsNamedPath core from
IsNamedAction core (store to kind from) = IsNamedPath core to
IsNamedAction core (copy of to from) = IsNamedPath core to × IsNamedPath core from
IsNamedAction core (look at) = IsNamedPath core at
IsNamedAction core (begin_with v of value) = is_composite (shape_of core of) ≡ false → FitsSigned w32 (first_number value)
IsNamedAction core (pick to text index) = length text < 2 ^ 32
IsNamedAction core (arithmetic o checked to a b) = Unit {0}
IsNamedAction core (compare o to a b) = Unit {0}
IsNamedAction core (negate checked to a) = Unit {0}
IsNamedAction core (complement to a) = Unit {0}
IsNamedAction core (invert to a) = Unit {0}
IsNamedAction core (absolute checked to a) = Unit {0}
IsNamedAction core (odd to a) = Unit {0}
IsNamedAction core (upper to a) = Unit {0}
IsNamedAction core (low_bits kind to a) = Unit {0}
IsNamedAction core (check low high to a) = Unit {0}
IsNamedAction core (neighbour distance low high to from) = FitsSigned w32 distance
IsNamedAction core (single to a) = Unit {0}
IsNamedAction core (span to a b) = Unit {0}
IsNamedAction core (combine o to a b) = Unit {0}
IsNamedAction core (contains to a b) = Unit {0}
IsNamedAction core (check_set all to from) = FitsSigned w32 (int_bit_not w32 all)
IsNamedAction core (primitive p operands to) = IsApplied IsNamedOperand p operands to

-- ---- instructions

abbrev pub IsNamedGiven : Core → Given → Type 0
IsNamedGiven core (by_value kind t) = Unit {0}
IsNamedGiven core (by_place p) = IsNamedPath core p
IsNamedGiven core (by_copy of p) = IsNamedPath core p

abbrev pub IsNamedReceiver : Core → Receiver → Type 0
IsNamedReceiver core nowhere = Unit {0}
IsNamedReceiver core (to_temp t) = Unit {0}
IsNamedReceiver core (to_place of p) = IsNamedPath core p

-- the routine is there, and takes as many arguments as it is given
abbrev pub IsNamedCall : Core → ℕ → List Given → Receiver → Type 0
IsNamedCall core r given receiver = (r < length core.routines) × (length given ≡ parameters_of core r) × Every (IsNamedGiven core) given × IsNamedReceiver core receiver

-- both ends have 32 bits
abbrev pub IsNamedLabel : Label → Type 0
IsNamedLabel label = FitsSigned w32 label.first × FitsSigned w32 label.last

abbrev pub IsNamedArm : ℕ → Arm → Type 0
IsNamedArm blocks arm = (arm.block < blocks) × Every IsNamedLabel arm.labels

-- in code of so many blocks
abbrev pub IsNamed : Core → ℕ → Instr → Type 0
IsNamed core blocks (do_act action landing) = IsNamedAction core action
IsNamed core blocks (do_call r given receiver landing) = IsNamedCall core r given receiver
IsNamed core blocks (jump k) = k < blocks
IsNamed core blocks (when t k) = k < blocks
IsNamed core blocks (unless t k) = k < blocks
IsNamed core blocks (switch t arms) = Every (IsNamedArm blocks) arms
IsNamed core blocks (dispatch t k) = k + 3 < blocks
IsNamed core blocks (make_due f) = Unit {0}
IsNamed core blocks (open_temporaries ts) = ⊥
IsNamed core blocks (end_temporary t) = ⊥
IsNamed core blocks (stop t) = Unit {0}
IsNamed core blocks ret = Unit {0}
