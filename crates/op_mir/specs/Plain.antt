-- The plain class: programs without managed values, instances and exceptions, and states without an exception, in which what was made may end.
use Rattle.std.specs.Prelude.{◌≡◌, ◌<◌, ℕ, zero, suc, Bool, true, false, List, [], ◌∷◌, length, Option, Some, None, slice_get, if◌then◌else◌}
use Rattle.op_core.specs.declared.ids.RoutineId.{RoutineId}
use Rattle.op_core.specs.declared.program.Unit.{Unit as UnitRow}
use Rattle.op_meaning.specs.Actions.{Action, constant, load, store, copy, look, begin_with, pick, arithmetic, compare, negate, complement, invert, absolute, odd, upper, low_bits, check, neighbour, single, span, combine, contains, check_set, primitive}
use Rattle.op_meaning.specs.Calls.{ending_of, emptied_type}
use Rattle.op_meaning.specs.Frames.{Program, Caller, Frame, walk, destruction, construction, closing, Pending, finalize, empty_global, uncharged, calling}
use Rattle.op_meaning.specs.Items.{Item, act, also, choose, select, loop, body_first, protect, leave, enter, scoped, attempt, throw, rethrow, halt, construct, free, Items, none, then_do, Turns, turns, Cases, no_cases, cases}
use Rattle.op_meaning.specs.Primitives.{EachOperand, Operand, from_temp, gives, literal_text, text_at}
use Rattle.op_meaning.specs.Start.{first_pending}
use Rattle.op_meaning.specs.World.{World}
use Rattle.op_mir.specs.Code.{items_of}

-- ---- actions: by a primitive one writes, and looks at no place

abbrev pub IsPlainOperand : Operand → Type 0
IsPlainOperand (from_temp t) = Unit {0}
IsPlainOperand (text_at path) = ⊥
IsPlainOperand (literal_text bytes) = Unit {0}

abbrev pub IsPlainAction : Action → Type 0
IsPlainAction (constant to n) = Unit {0}
IsPlainAction (load to kind from) = Unit {0}
IsPlainAction (store to kind from) = Unit {0}
IsPlainAction (copy of to from) = Unit {0}
IsPlainAction (look at) = Unit {0}
IsPlainAction (begin_with v of value) = Unit {0}
IsPlainAction (pick to text index) = Unit {0}
IsPlainAction (arithmetic o checked to a b) = Unit {0}
IsPlainAction (compare o to a b) = Unit {0}
IsPlainAction (negate checked to a) = Unit {0}
IsPlainAction (complement to a) = Unit {0}
IsPlainAction (invert to a) = Unit {0}
IsPlainAction (absolute checked to a) = Unit {0}
IsPlainAction (odd to a) = Unit {0}
IsPlainAction (upper to a) = Unit {0}
IsPlainAction (low_bits kind to a) = Unit {0}
IsPlainAction (check low high to a) = Unit {0}
IsPlainAction (neighbour distance low high to a) = Unit {0}
IsPlainAction (single to a) = Unit {0}
IsPlainAction (span to a b) = Unit {0}
IsPlainAction (combine o to a b) = Unit {0}
IsPlainAction (contains to a b) = Unit {0}
IsPlainAction (check_set all to a) = Unit {0}
IsPlainAction (primitive p operands to) = (gives p ≡ None) × EachOperand IsPlainOperand operands

-- ---- programs

-- there is such a routine
abbrev pub Exists : Program → ℕ → Type 0
Exists p r = r < length p.core.routines

-- Exit, Break or Continue
abbrev pub IsWay : ℕ → Type 0
IsWay zero = Unit {0}
IsWay (suc zero) = Unit {0}
IsWay (suc (suc zero)) = Unit {0}
IsWay (suc (suc (suc n))) = ⊥

abbrev mutual
  pub ArePlain : Program → Items → Type 0
  ArePlain p none = Unit {0}
  ArePlain p (then_do i others) = IsPlainItem p i × ArePlain p others

  pub IsPlainItem : Program → Item → Type 0
  IsPlainItem p (act a) = IsPlainAction a
  IsPlainItem p (also truth t items) = ArePlain p items
  IsPlainItem p (choose t first otherwise) = ArePlain p first × ArePlain p otherwise
  IsPlainItem p (select t cs otherwise) = ArePlainCases p cs × ArePlain p otherwise
  IsPlainItem p (loop l) = ArePlainTurns p l
  IsPlainItem p (body_first l) = ArePlainTurns p l
  IsPlainItem p (protect t items finalization) = ArePlain p items × ArePlain p finalization
  IsPlainItem p (leave what) = IsWay what
  IsPlainItem p (enter r given receiver) = Exists p r
  IsPlainItem p (scoped t ts items) = ArePlain p items
  IsPlainItem p (halt t) = Unit {0}
  IsPlainItem p (attempt items cs) = ⊥
  IsPlainItem p (throw at) = ⊥
  IsPlainItem p rethrow = ⊥
  IsPlainItem p (construct c r given receiver) = ⊥
  IsPlainItem p (free takes_nil at) = ⊥

  pub ArePlainTurns : Program → Turns → Type 0
  ArePlainTurns p (turns head t ends between body) = ArePlain p head × ArePlain p between × ArePlain p body

  pub ArePlainCases : Program → Cases → Type 0
  ArePlainCases p no_cases = Unit {0}
  ArePlainCases p (cases labels items others) = ArePlain p items × ArePlainCases p others

abbrev pub IfExists : Program → Option RoutineId → Type 0
IfExists p None = Unit {0}
IfExists p (Some r) = Exists p r.0

abbrev pub ArePlainUnits : Program → List UnitRow → Type 0
ArePlainUnits p [] = Unit {0}
ArePlainUnits p (u ∷ us) = IfExists p u.initialization × IfExists p u.finalization × ArePlainUnits p us

-- errors end the program, and what is done of any routine and behind it is plain
pub record IsPlain (p : Program) : Type 0 where
  pub exceptions : p.core.exceptions ≡ None
  pub bodies : (r : ℕ) → ArePlain p (items_of p r)
  pub endings : (r : ℕ) → ending_of p.core r ≡ []
  pub outs : (v : ℕ) → emptied_type p.core (slice_get p.core.variables v) ≡ None
  pub units : ArePlainUnits p p.core.units
  pub globals : first_pending p.core ≡ []

-- ---- states

-- no exception is under way or waits, and no temporary has to be ended
pub record IsPlainWorld (w : World) : Type 0 where
  pub raised : w.raised ≡ None
  pub made : w.made ≡ []
  pub waiting : (t : ℕ) → w.waiting t ≡ None

-- no exception is under way or waits; temporaries that were made may have to be ended
pub record IsUnraised (w : World) : Type 0 where
  pub raised : w.raised ≡ None
  pub waiting : (t : ℕ) → w.waiting t ≡ None

-- the closing, or the end of something in which no exception waits
abbrev pub IsPlainFrame : Frame → Type 0
IsPlainFrame (closing status) = Unit {0}
IsPlainFrame (walk places over waits) = waits ≡ None
IsPlainFrame (destruction i started entered places waits) = waits ≡ None
IsPlainFrame (uncharged frame) = IsPlainFrame frame
IsPlainFrame (calling callee receiver given outs) = ⊥
IsPlainFrame (construction i) = ⊥

abbrev pub ArePlainFrames : List Frame → Type 0
ArePlainFrames [] = Unit {0}
ArePlainFrames (frame ∷ rest) = IsPlainFrame frame × ArePlainFrames rest

-- the program closes, and what is below the frame is done no more
abbrev pub is_closing : Frame → Bool
is_closing (closing status) = true
is_closing (walk places over waits) = false
is_closing (destruction i started entered places waits) = false
is_closing (uncharged frame) = is_closing frame
is_closing (calling callee receiver given outs) = false
is_closing (construction i) = false

abbrev pub closes_first : List Frame → Bool
closes_first [] = false
closes_first (frame ∷ rest) = if is_closing frame then true else closes_first rest

pub record IsPlainCaller (c : Caller) : Type 0 where
  pub waiting : (t : ℕ) → c.waiting t ≡ None
  pub frames : ArePlainFrames c.frames

abbrev pub ArePlainPending : Program → List Pending → Type 0
ArePlainPending p [] = Unit {0}
ArePlainPending p (finalize r ∷ pending) = Exists p r.0 × ArePlainPending p pending
ArePlainPending p (empty_global v ∷ pending) = ⊥
