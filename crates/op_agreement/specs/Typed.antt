-- Managed code that has its operands at the types that they are used at, and goes to blocks that are there.
use Rattle.std.specs.Prelude.{◌≡◌, ◌<◌, ◌≤◌, ◌⊎◌, ℕ, ◌+◌, ◌^◌, Bool, true, false, List, [], ◌∷◌, length, take, Option, Some, None, int_lt, nat_eq, slice_get, slice_index}
use Rattle.std.specs.Int.{w32}
use Rattle.std.specs.Int.RustNames.{FitsSigned}
use Rattle.std.specs.List.{list_any}
use Rattle.op_compute.specs.Turning.{HasWordArms}
use Rattle.op_constants.specs.Arranged.{IsSmall}
use Rattle.op_constants.specs.FirstFits.{FirstFits}
use Rattle.op_constants.specs.Reaching.{Reaches}
use Rattle.op_core.specs.Rows.{rows}
use Rattle.op_core.specs.Sizes.{type_at}
use Rattle.op_core.specs.declared.ids.TypeId.{TypeId}
use Rattle.op_core.specs.declared.program.Core.{Core}
use Rattle.op_core.specs.declared.routine.Variable.{Variable}
use Rattle.op_core.specs.declared.types.IntegerKind.{IntegerKind}
use Rattle.op_expand.specs.Calls.{has_closing}
use Rattle.op_places.specs.Frames.{parameters_of}
use Rattle.op_meaning.specs.Actions.{Action, constant, load, store, copy, look, begin_with, pick, arithmetic, compare, negate, complement, invert, absolute, odd, upper, low_bits, check, neighbour, single, span, combine, contains, check_set, primitive}
use Rattle.op_meaning.specs.Expressions.{result_of}
use Rattle.op_meaning.specs.Items.{Given, by_value, by_place, by_copy, Receiver, nowhere, to_temp, to_place}
use Rattle.op_meaning.specs.Numbers.{fits_word}
use Rattle.op_meaning.specs.Paths.{Root, in_global, in_local, through, in_temporary, Path, Step, field, element}
use Rattle.op_meaning.specs.Primitives.{IsApplied, Operand, from_temp, literal_text, text_at}
use Rattle.op_meaning.specs.Shapes.{single, composite, part_type, shape_of, result_of_routine, variables_of, type_of_local, type_of_variable, refers, is_reference}
use Rattle.op_mir.specs.Valid.{has, action_fits, all_given_fit, receiver_fits}
use Rattle.op_mir.specs.View.{view_action, view_given, view_receiver}
use Rattle.op_mir.specs.declared.code.Mir.{Mir}
use Rattle.op_mir.specs.declared.code.Routine.{Routine}
use Rattle.op_mir.specs.declared.ids.BlockId.{BlockId}
use Rattle.op_mir.specs.declared.instruction.Arm.{Arm}
use Rattle.op_mir.specs.declared.instruction.Instruction.{Instruction}
use Rattle.op_mir.specs.declared.instruction.Instruction.TheVariants.{Act, Call, Jump, When, Unless, Switch, Dispatch, MakeDue, OpenTemporaries, EndTemporary, Stop, Return}
use Rattle.op_mir.specs.declared.instruction.Receiver.TheVariants.{Nowhere}
use Rattle.std.specs.Prelude.{map}

-- ---- places

-- a global variable of the program, which has a row
abbrev pub IsGlobal : Core → ℕ → Type 0
IsGlobal core v = (v < length core.variables) × (list_any (λ id. nat_eq id.0 v) core.globals ≡ true)

-- a variable of the routine, and whether it stands for another one
abbrev pub IsVariable : Core → ℕ → ℕ → Bool → Type 0
IsVariable core r v reference = (v < (variables_of core r).count) × (refers (slice_get core.variables ((variables_of core r).first + v)) ≡ reference)

-- a root of a path in the routine is of the type
abbrev pub RootIs : Core → ℕ → Root → TypeId → Type 0
RootIs core r (in_global v) of = IsGlobal core v × (type_of_variable core v ≡ of)
RootIs core r (in_local v) of = IsVariable core r v false × (type_of_local core r v ≡ of)
RootIs core r (through v) of = IsVariable core r v true × (type_of_local core r v ≡ of)
RootIs core r (in_temporary t n) of = t ≡ of

-- the indices of elements are words, and there are some
abbrev pub HaveWords : List Step → Type 0
HaveWords [] = Unit {0}
HaveWords (field of k ∷ steps) = HaveWords steps
HaveWords (element of low high t ∷ steps) = (fits_word low ≡ true) × (fits_word high ≡ true) × (int_lt high low ≡ false) × HaveWords steps

-- values of the type are small, and so on along the steps
abbrev pub AreSmall : Core → TypeId → List Step → Type 0
AreSmall core of [] = IsSmall core of
AreSmall core of (field whole k ∷ steps) = IsSmall core of × AreSmall core (part_type core (type_at core of) k) steps
AreSmall core of (element whole low high t ∷ steps) = IsSmall core of × AreSmall core (part_type core (type_at core of) 0) steps

-- a path in the routine leads from its root's type to the type
pub record PathTo (core : Core) (r : ℕ) (path : Path) (of : TypeId) : Type 0 where
  pub from : TypeId
  pub root : RootIs core r path.root from
  pub reaches : Reaches core from path.steps of
  pub words : HaveWords path.steps
  pub small : AreSmall core from path.steps

-- ---- actions

abbrev pub AreBytes : List ℕ → Type 0
AreBytes bytes = (k : ℕ) → slice_index bytes k < 2 ^ 8

abbrev pub IsTypedOperand : Operand → Type 0
IsTypedOperand (from_temp t) = Unit {0}
IsTypedOperand (text_at path) = ⊥
IsTypedOperand (literal_text bytes) = (length bytes < 2 ^ 31) × AreBytes bytes

abbrev pub IsTypedAction : Core → ℕ → Action → Type 0
IsTypedAction core r (constant to n) = FitsSigned w32 n
IsTypedAction core r (load to kind from) = (of : TypeId) × (shape_of core of ≡ single kind) × PathTo core r from of
IsTypedAction core r (store to kind from) = (of : TypeId) × (shape_of core of ≡ single kind) × PathTo core r to of
IsTypedAction core r (copy of to from) = (shape_of core of ≡ composite) × PathTo core r to of × PathTo core r from of
IsTypedAction core r (look at) = (of : TypeId) × PathTo core r at of
IsTypedAction core r (begin_with v of value) = IsVariable core r v false × (type_of_local core r v ≡ of) × IsSmall core of × FirstFits core of value
IsTypedAction core r (pick to text index) = (length text < 2 ^ 31) × AreBytes text
IsTypedAction core r (arithmetic o checked to a b) = Unit {0}
IsTypedAction core r (compare o to a b) = Unit {0}
IsTypedAction core r (negate checked to a) = Unit {0}
IsTypedAction core r (complement to a) = Unit {0}
IsTypedAction core r (invert to a) = Unit {0}
IsTypedAction core r (absolute checked to a) = Unit {0}
IsTypedAction core r (odd to a) = Unit {0}
IsTypedAction core r (upper to a) = Unit {0}
IsTypedAction core r (low_bits kind to a) = Unit {0}
IsTypedAction core r (check low high to a) = (fits_word low ≡ true) × (fits_word high ≡ true)
IsTypedAction core r (neighbour distance low high to a) = FitsSigned w32 distance × (fits_word low ≡ true) × (fits_word high ≡ true)
IsTypedAction core r (single to a) = Unit {0}
IsTypedAction core r (span to a b) = Unit {0}
IsTypedAction core r (combine o to a b) = Unit {0}
IsTypedAction core r (contains to a b) = Unit {0}
IsTypedAction core r (check_set all to a) = Unit {0}
IsTypedAction core r (primitive p operands to) = IsApplied IsTypedOperand p operands to

-- ---- calls

-- what a parameter is given, by its row
abbrev pub IsTypedGiven : Core → ℕ → Given → Variable → Type 0
IsTypedGiven core r (by_value kind t) p = (is_reference p.role ≡ false) × (shape_of core p.of ≡ single kind)
IsTypedGiven core r (by_place path) p = (is_reference p.role ≡ true) × PathTo core r path p.of
IsTypedGiven core r (by_copy of path) p = (is_reference p.role ≡ false) × (p.of ≡ of) × (shape_of core of ≡ composite) × PathTo core r path of

abbrev pub AreTypedGiven : Core → ℕ → List Given → List Variable → Type 0
AreTypedGiven core r [] [] = Unit {0}
AreTypedGiven core r (g ∷ gs) (p ∷ ps) = IsTypedGiven core r g p × AreTypedGiven core r gs ps
AreTypedGiven core r _ _ = ⊥

-- the rows of a routine's parameters
abbrev pub parameter_rows : Core → ℕ → List Variable
parameter_rows core r = take (parameters_of core r) (rows core.variables (variables_of core r))

-- the variable that has the result of a routine: it is one of its own, of the result's type
abbrev pub HasResult : Core → (routine : ℕ) → TypeId → Type 0
HasResult core r of = IsVariable core r (result_of_routine core r) false × (type_of_local core r (result_of_routine core r) ≡ of)

-- where a result of the type goes, if there is one
abbrev pub IsTypedReceiver : Core → Receiver → Option TypeId → Type 0
IsTypedReceiver core nowhere None = Unit {0}
IsTypedReceiver core nowhere (Some of) = ⊥
IsTypedReceiver core (to_temp t) (Some of) = (kind : IntegerKind) × (shape_of core of ≡ single kind)
IsTypedReceiver core (to_temp t) None = ⊥
IsTypedReceiver core (to_place of path) (Some type) = (n : ℕ) × (path ≡ record { root = in_temporary of n; steps = [] }) × (type ≡ of) × (shape_of core of ≡ composite)
IsTypedReceiver core (to_place of path) None = ⊥

pub record IsTypedCall (core : Core) (r callee : ℕ) (given : List Given) (receiver : Receiver) : Type 0 where
  pub gives : AreTypedGiven core r given (parameter_rows core callee)
  pub receives : IsTypedReceiver core receiver (result_of (slice_get core.routines callee))

-- ---- instructions

-- a block of the routine, and not the one with which it begins
abbrev pub IsTarget : Routine → BlockId → Type 0
IsTarget x block = (0 < block.0) × (block.0 < length x.blocks)

abbrev pub AreTargets : Routine → List Arm → Type 0
AreTargets x [] = Unit {0}
AreTargets x (a ∷ arms) = IsTarget x a.block × AreTargets x arms

-- An instruction of a routine names what is there, at its types. Only in the program itself a finalization part becomes due.
-- Temporaries that end have no low code yet.
abbrev pub IsFine : Core → Mir → ℕ → Routine → Instruction → Type 0
IsFine core mir r x (Act a landing) = (action_fits mir x a ≡ true) × IsTypedAction core r (view_action core r a)
IsFine core mir r x (Call id call) =
    (id.0 < length mir.routines) × (all_given_fit mir x call.given ≡ true) × (receiver_fits mir x call.receiver ≡ true)
    × IsTypedCall core r id.0 (map view_given call.given) (view_receiver call.receiver)
IsFine core mir r x (Jump block) = IsTarget x block
IsFine core mir r x (When t block) = (has x t ≡ true) × IsTarget x block
IsFine core mir r x (Unless t block) = (has x t ≡ true) × IsTarget x block
IsFine core mir r x (Switch t arms) = (has x t ≡ true) × HasWordArms arms × AreTargets x arms
IsFine core mir r x (Dispatch t block) = (has x t ≡ true) × (block.0 + 3 < length x.blocks)
IsFine core mir r x (MakeDue f) = (r ≡ length mir.routines) × (has_closing core ≡ true)
IsFine core mir r x (OpenTemporaries ts) = ⊥
IsFine core mir r x (EndTemporary t) = ⊥
IsFine core mir r x (Stop t) = has x t ≡ true
IsFine core mir r x Return = Unit {0}

-- the code never goes on behind it
abbrev pub Leaves : Instruction → Type 0
Leaves (Act a landing) = ⊥
Leaves (Call id call) = ⊥
Leaves (Jump block) = Unit {0}
Leaves (When t block) = ⊥
Leaves (Unless t block) = ⊥
Leaves (Switch t arms) = ⊥
Leaves (Dispatch t block) = ⊥
Leaves (MakeDue f) = ⊥
Leaves (OpenTemporaries ts) = ⊥
Leaves (EndTemporary t) = ⊥
Leaves (Stop t) = ⊥
Leaves Return = Unit {0}

-- ---- what an activation is charged for

-- how many labels a branch looks through
abbrev pub labels_in : List Arm → ℕ
labels_in [] = 0
labels_in (a ∷ arms) = length a.labels + labels_in arms

-- the program itself, which is charged nothing, calls without arguments and results, makes finalization parts due, and returns
abbrev pub IsLight : Instruction → Type 0
IsLight (Act a landing) = ⊥
IsLight (Call id call) = (call.given ≡ []) × (call.receiver ≡ Nowhere)
IsLight (Jump block) = ⊥
IsLight (When t block) = ⊥
IsLight (Unless t block) = ⊥
IsLight (Switch t arms) = ⊥
IsLight (Dispatch t block) = ⊥
IsLight (MakeDue f) = Unit {0}
IsLight (OpenTemporaries ts) = ⊥
IsLight (EndTemporary t) = ⊥
IsLight (Stop t) = ⊥
IsLight Return = Unit {0}

-- any other routine is charged for each label
abbrev pub IsCharged : Routine → Instruction → Type 0
IsCharged x (Act a landing) = Unit {0}
IsCharged x (Call id call) = Unit {0}
IsCharged x (Jump block) = Unit {0}
IsCharged x (When t block) = Unit {0}
IsCharged x (Unless t block) = Unit {0}
IsCharged x (Switch t arms) = labels_in arms ≤ x.charge
IsCharged x (Dispatch t block) = Unit {0}
IsCharged x (MakeDue f) = Unit {0}
IsCharged x (OpenTemporaries ts) = Unit {0}
IsCharged x (EndTemporary t) = Unit {0}
IsCharged x (Stop t) = Unit {0}
IsCharged x Return = Unit {0}

pub record IsPaid (mir : Mir) (r : ℕ) (x : Routine) (i : Instruction) : Type 0 where
  pub itself : r ≡ length mir.routines → IsLight i
  pub charged : r < length mir.routines → IsCharged x i

-- code that does not go on behind its end
abbrev pub AreFine : Core → Mir → ℕ → Routine → List Instruction → Type 0
AreFine core mir r x [] = ⊥
AreFine core mir r x (i ∷ is) = IsFine core mir r x i × IsPaid mir r x i × (Leaves i ⊎ AreFine core mir r x is)
