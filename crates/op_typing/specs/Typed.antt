-- Managed code whose operands have the types that they are used at: each path leads through what its steps are written for, and a number,
-- a value with parts or a place stands where such a one is asked for. (Free Pascal Reference Guide, "Variables", "Expressions",
-- "Assignments" and "Parameter lists".)
use Rattle.std.specs.Prelude.{◌≡◌, ◌<◌, ◌⊎◌, ℕ, ◌+◌, ◌^◌, true, false, List, [], ◌∷◌, length, Option, Some, None, slice_get}
use Rattle.std.specs.Int.{w32}
use Rattle.std.specs.Int.RustNames.{FitsSigned}
use Rattle.std.specs.List.{All, Contains}
use Rattle.op_constants.specs.Arranged.{IsSmall}
use Rattle.op_constants.specs.FirstFits.{FirstFits}
use Rattle.op_constants.specs.Reaching.{Reaches}
use Rattle.op_core.specs.Members.{There}
use Rattle.op_core.specs.Rows.{rows}
use Rattle.op_core.specs.declared.ids.TypeId.{TypeId}
use Rattle.op_core.specs.declared.program.Core.{Core}
use Rattle.op_core.specs.declared.routine.Owner.TheVariants.{Unit as OfUnit}
use Rattle.op_core.specs.declared.routine.Parameter.{Parameter}
use Rattle.op_core.specs.declared.routine.Role.TheVariants.{Parameter as ParameterRole}
use Rattle.op_core.specs.declared.routine.Routine.{Routine}
use Rattle.op_core.specs.declared.routine.Variable.{Variable}
use Rattle.op_core.specs.declared.statement.Label.{Label}
use Rattle.op_core.specs.declared.types.IntegerKind.{IntegerKind}
use Rattle.op_meaning.specs.Actions.{Action, constant, load, store, copy, look, begin_with, pick, arithmetic, compare, negate, complement, invert, absolute, odd, upper, low_bits, check, neighbour, single, span, combine, contains, check_set, primitive}
use Rattle.op_meaning.specs.Items.{Given, by_value, by_place, by_copy, Receiver, nowhere, to_temp, to_place, Item, act, also, choose, select, loop, body_first, protect, leave, enter, scoped, attempt, throw, rethrow, halt, construct, free, Items, none, then_do, Turns, turns, Cases, no_cases, cases}
use Rattle.op_meaning.specs.Numbers.{fits_word}
use Rattle.op_meaning.specs.Paths.{Root, in_global, in_local, through, in_temporary, Path, path_to}
use Rattle.op_meaning.specs.Primitives.{IsApplied, Operand, from_temp, literal_text, text_at}
use Rattle.op_meaning.specs.Shapes.{single, composite, shape_of, is_reference, variables_of}
use Rattle.op_mir.specs.Code.{Instr, do_act, do_call, jump, when, unless, switch, dispatch, make_due, open_temporaries, end_temporary, stop, ret}

-- ---- types

-- its values are single numbers, of which a store keeps the low bits of the kind
abbrev pub IsSingle : Core → TypeId → IntegerKind → Type 0
IsSingle core of kind = shape_of core of ≡ single kind

-- they have parts
abbrev pub IsComposite : Core → TypeId → Type 0
IsComposite core of = shape_of core of ≡ composite

-- they are the one or the other: no strings, no references
abbrev pub IsSolid : Core → TypeId → Type 0
IsSolid core of = ((kind : IntegerKind) × IsSingle core of kind) ⊎ IsComposite core of

-- ---- places

abbrev pub parameters_in : Core → Option Routine → List Parameter
parameters_in core None = []
parameters_in core (Some x) = rows core.parameters x.parameters

abbrev pub parameters_of : Core → ℕ → List Parameter
parameters_of core r = parameters_in core (slice_get core.routines r)

-- a variable of the routine, counted from its first one
abbrev pub HasVariable : Core → ℕ → ℕ → (Variable → Type 0) → Type 0
HasVariable core r v Q = (v < (variables_of core r).count) × There core.variables ((variables_of core r).first + v) Q

abbrev pub OwnValue : TypeId → Variable → Type 0
OwnValue of x = (x.of ≡ of) × (is_reference x.role ≡ false)

abbrev pub StandsFor : TypeId → Variable → Type 0
StandsFor of x = (x.of ≡ of) × (is_reference x.role ≡ true)

-- What a path of the routine begins with is of the type: a global variable, a variable that is no reference, a parameter that is one,
-- a temporary of the type itself.
abbrev pub RootIs : Core → ℕ → Root → TypeId → Type 0
RootIs core r (in_global v) of = Contains core.globals (record { 0 = v }) × There core.variables v (λ x. x.of ≡ of)
RootIs core r (in_local v) of = HasVariable core r v (OwnValue of)
RootIs core r (through v) of = (v < length (parameters_of core r)) × HasVariable core r v (StandsFor of)
RootIs core r (in_temporary to n) of = to ≡ of

-- the path leads to a place of the type
pub record PathTo (core : Core) (r : ℕ) (path : Path) (of : TypeId) : Type 0 where
  pub from : TypeId
  pub root : RootIs core r path.root from
  pub whole : IsSmall core from
  pub reaches : Reaches core from path.steps of
  pub small : IsSmall core of

-- ---- actions

-- a text that has a place among the literals
abbrev pub IsShortText : List ℕ → Type 0
IsShortText text = (length text < 2 ^ 31) × All (λ b. b < 256) text

abbrev pub IsTypedOperand : Operand → Type 0
IsTypedOperand (from_temp t) = Unit {0}
IsTypedOperand (text_at path) = ⊥
IsTypedOperand (literal_text bytes) = IsShortText bytes

-- Single numbers are loaded and stored, values with parts are copied, and what stands in the action itself is a number of 32 bits, a
-- first value that its variable can have, or a short text; a primitive has operands of its sorts, of which none is at a place.
abbrev pub IsTypedAction : Core → ℕ → Action → Type 0
IsTypedAction core r (constant to n) = FitsSigned w32 n
IsTypedAction core r (load to kind from) = (of : TypeId) × PathTo core r from of × IsSingle core of kind
IsTypedAction core r (store to kind from) = (of : TypeId) × PathTo core r to of × IsSingle core of kind
IsTypedAction core r (copy of to from) = PathTo core r to of × PathTo core r from of × IsComposite core of
IsTypedAction core r (look at) = (of : TypeId) × PathTo core r at of
IsTypedAction core r (begin_with v of value) = HasVariable core r v (OwnValue of) × IsSmall core of × IsSolid core of × FirstFits core of value
IsTypedAction core r (pick to text index) = IsShortText text
IsTypedAction core r (arithmetic o checked to a b) = Unit {0}
IsTypedAction core r (compare o to a b) = Unit {0}
IsTypedAction core r (negate checked to a) = Unit {0}
IsTypedAction core r (complement to a) = Unit {0}
IsTypedAction core r (invert to a) = Unit {0}
IsTypedAction core r (absolute checked to a) = Unit {0}
IsTypedAction core r (odd to a) = Unit {0}
IsTypedAction core r (upper to a) = Unit {0}
IsTypedAction core r (low_bits kind to a) = Unit {0}
IsTypedAction core r (check low high to from) = (fits_word low ≡ true) × (fits_word high ≡ true)
IsTypedAction core r (neighbour distance low high to from) = FitsSigned w32 distance × (fits_word low ≡ true) × (fits_word high ≡ true)
IsTypedAction core r (single to a) = Unit {0}
IsTypedAction core r (span to a b) = Unit {0}
IsTypedAction core r (combine o to a b) = Unit {0}
IsTypedAction core r (contains to a b) = Unit {0}
IsTypedAction core r (check_set all to a) = Unit {0}
IsTypedAction core r (primitive p operands to) = IsApplied IsTypedOperand p operands to

-- ---- calls

-- a parameter is given the low bits of a number, a copy of what stands at a place, or that place itself
abbrev pub IsTypedGiven : Core → ℕ → Given → Parameter → Type 0
IsTypedGiven core r (by_value kind t) p = IsSingle core p.of kind × (is_reference (ParameterRole p.mode) ≡ false)
IsTypedGiven core r (by_place path) p = PathTo core r path p.of × (is_reference (ParameterRole p.mode) ≡ true)
IsTypedGiven core r (by_copy of path) p = (of ≡ p.of) × PathTo core r path of × IsComposite core of × (is_reference (ParameterRole p.mode) ≡ false)

-- each parameter is given something, in order
abbrev pub AreTypedGiven : Core → ℕ → List Given → List Parameter → Type 0
AreTypedGiven core r [] [] = Unit {0}
AreTypedGiven core r (g ∷ gs) (p ∷ ps) = IsTypedGiven core r g p × AreTypedGiven core r gs ps
AreTypedGiven core r _ _ = ⊥

-- the result, if there is one, goes to a temporary of its type
abbrev pub IsTypedReceiver : Core → Option TypeId → Receiver → Type 0
IsTypedReceiver core None nowhere = Unit {0}
IsTypedReceiver core (Some of) (to_temp t) = (kind : IntegerKind) × IsSingle core of kind
IsTypedReceiver core (Some of) (to_place type path) = (type ≡ of) × IsComposite core of × IsSmall core of × ((n : ℕ) × (path ≡ path_to (in_temporary of n)))
IsTypedReceiver core _ _ = ⊥

-- in the routine r the routine with the number q is called
pub record IsTypedCall (core : Core) (r q : ℕ) (given : List Given) (receiver : Receiver) : Type 0 where
  pub callee : Routine
  pub there : slice_get core.routines q ≡ Some callee
  pub owner : callee.owner ≡ OfUnit
  pub arguments : AreTypedGiven core r given (rows core.parameters callee.parameters)
  pub result : IsTypedReceiver core callee.result receiver

-- ---- items; those that have no code yet are not asked

abbrev pub AreWords : List Label → Type 0
AreWords labels = All (λ l. FitsSigned w32 l.first × FitsSigned w32 l.last) labels

abbrev mutual
  pub AreTyped : Core → ℕ → Items → Type 0
  AreTyped core r none = Unit {0}
  AreTyped core r (then_do i others) = IsTypedItem core r i × AreTyped core r others

  pub IsTypedItem : Core → ℕ → Item → Type 0
  IsTypedItem core r (act a) = IsTypedAction core r a
  IsTypedItem core r (also truth t items) = AreTyped core r items
  IsTypedItem core r (choose t first otherwise) = AreTyped core r first × AreTyped core r otherwise
  IsTypedItem core r (select t cs otherwise) = AreTypedCases core r cs × AreTyped core r otherwise
  IsTypedItem core r (loop l) = AreTypedTurns core r l
  IsTypedItem core r (body_first l) = AreTypedTurns core r l
  IsTypedItem core r (protect t items finalization) = AreTyped core r items × AreTyped core r finalization
  IsTypedItem core r (leave what) = what < 3
  IsTypedItem core r (enter q given receiver) = IsTypedCall core r q given receiver
  IsTypedItem core r (scoped t ts items) = AreTyped core r items
  IsTypedItem core r (attempt items cs) = Unit {0}
  IsTypedItem core r (throw at) = Unit {0}
  IsTypedItem core r rethrow = Unit {0}
  IsTypedItem core r (halt t) = Unit {0}
  IsTypedItem core r (construct c q given to) = Unit {0}
  IsTypedItem core r (free takes_nil at) = Unit {0}

  pub AreTypedTurns : Core → ℕ → Turns → Type 0
  AreTypedTurns core r (turns head t ends between body) = AreTyped core r head × AreTyped core r between × AreTyped core r body

  pub AreTypedCases : Core → ℕ → Cases → Type 0
  AreTypedCases core r no_cases = Unit {0}
  AreTypedCases core r (cases labels items others) = AreWords labels × AreTyped core r items × AreTypedCases core r others

-- ---- instructions

abbrev pub IsTypedInstr : Core → ℕ → Instr → Type 0
IsTypedInstr core r (do_act a landing) = IsTypedAction core r a
IsTypedInstr core r (do_call q given receiver landing) = IsTypedCall core r q given receiver
IsTypedInstr core r (jump k) = Unit {0}
IsTypedInstr core r (when t k) = Unit {0}
IsTypedInstr core r (unless t k) = Unit {0}
IsTypedInstr core r (switch t arms) = All (λ a. AreWords a.labels) arms
IsTypedInstr core r (dispatch t k) = Unit {0}
IsTypedInstr core r (make_due f) = Unit {0}
IsTypedInstr core r (open_temporaries ts) = Unit {0}
IsTypedInstr core r (end_temporary t) = Unit {0}
IsTypedInstr core r (stop t) = Unit {0}
IsTypedInstr core r ret = Unit {0}

-- of a block, and of all blocks of a routine
abbrev pub AreTypedInstrs : Core → ℕ → List Instr → Type 0
AreTypedInstrs core r code = All (IsTypedInstr core r) code

abbrev pub AreTypedBlocks : Core → ℕ → List (List Instr) → Type 0
AreTypedBlocks core r blocks = All (AreTypedInstrs core r) blocks
