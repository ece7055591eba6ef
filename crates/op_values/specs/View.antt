-- Actions, operands, paths and items as the source machine sees them: what the types of `src/` say, wherever they lie in memory. Literals and first
-- values stand where they are used.
use Rattle.std.specs.Prelude.{ℕ, ◌+◌, List, [], ◌∷◌, Option, Some, None, map}
use Rattle.op_core.specs.Initial.{FirstValue, parts as first_parts, no_values}
use Rattle.op_core.specs.declared.program.Core.{Core}
use Rattle.op_semantics.specs.Actions.{Action as MeantAction, constant, load, store, copy, begin_with, pick, arithmetic, compare, negate, complement, invert, absolute, odd, upper, low_bits, check, neighbour, single, span, combine, contains, check_set, peek, take, forget, note, primitive}
use Rattle.op_semantics.specs.Frames.{program_of}
use Rattle.op_semantics.specs.Items.{Given as MeantGiven, by_value, by_place, by_elements, by_copy, by_operand, Receiver as MeantReceiver, nowhere, to_temp, to_place, to_new, Item as MeantItem, act, also, choose, select, loop, body_first, protect, leave, enter, scoped, attempt, throw, rethrow, halt, construct, invoke, free, Items, none, then_do, Turns as MeantTurns, turns, Cases, no_cases, cases, Clauses, no_clauses, for_others, clauses}
use Rattle.op_semantics.specs.Paths.{Path as MeantPath, Root as MeantRoot, in_global, in_local, through, in_temporary, Step as MeantStep, field, element, of_array, of_open, of_instance}
use Rattle.op_semantics.specs.Primitives.{Destination as MeantDestination, Operand as MeantOperand, from_temp, value_of, literal_text, nil_of, a_type, the_token, in_new, in_temp, into_place, over_place, unused}
use Rattle.op_semantics.specs.Shapes.{type_of_local, variables_of}
use Rattle.op_semantics.specs.World.{Temporary as MeantTemporary}
use Rattle.op_values.specs.declared.action.Action.{Action}
use Rattle.op_values.specs.declared.action.Action.TheVariants.{Constant, Load, Store, Copy, BeginWith, Pick, Compute, Peek, Take, Forget, Note, Do}
use Rattle.op_values.specs.declared.action.Computation.{Computation}
use Rattle.op_values.specs.declared.action.Computation.TheVariants.{Arithmetic, Compare, Negate, Complement, Invert, Absolute, Odd, Upper, LowBits, Check, Neighbour, Single, Span, Combine, Contains, CheckSet}
use Rattle.op_values.specs.declared.action.Destination.{Destination}
use Rattle.op_values.specs.declared.action.Destination.TheVariants.{Unused, InTemporary, InNew, IntoPlace, OverPlace}
use Rattle.op_values.specs.declared.action.Operand.{Operand}
use Rattle.op_values.specs.declared.action.Operand.TheVariants.{Number, Value, Literal, Nil, OfType, Token}
use Rattle.op_values.specs.declared.given.Given.{Given}
use Rattle.op_values.specs.declared.given.Given.TheVariants.{ByValue, ByPlace, ByElements, ByCopy, ByOperand}
use Rattle.op_values.specs.declared.given.Receiver.{Receiver}
use Rattle.op_values.specs.declared.given.Receiver.TheVariants.{Nowhere, Temporary as ToTemporary, Place, New}
use Rattle.op_values.specs.declared.item.Case.{Case}
use Rattle.op_values.specs.declared.item.Clause.{Clause}
use Rattle.op_values.specs.declared.item.Item.{Item, Row_of-Item, end_of-Item, more_of-Item, Row_of-Case, end_of-Case, more_of-Case, Row_of-Clause, end_of-Clause, more_of-Clause}
use Rattle.op_values.specs.declared.item.Item.TheVariants.{Act, Also', Choose', Select', Loop', BodyFirst', Protect', Leave, Enter, Scoped', Attempt', AttemptAll', Throw, Rethrow, Halt, Construct, Invoke, Free}
use Rattle.op_values.specs.declared.item.Turns.{Turns}
use Rattle.op_values.specs.declared.item.Way.{Way}
use Rattle.op_values.specs.declared.item.Way.TheVariants.{Exit, Break, Continue}
use Rattle.op_values.specs.declared.path.Path.{Path}
use Rattle.op_values.specs.declared.path.Root.{Root}
use Rattle.op_values.specs.declared.path.Root.TheVariants.{Global, Local, Through, Temporary}
use Rattle.op_values.specs.declared.path.Step.{Step}
use Rattle.op_values.specs.declared.path.Step.TheVariants.{Field, Element, OfArray, OfOpen, OfInstance}
use Rattle.op_values.specs.declared.temporary.Temporary.{Temporary as HeldTemporary}

-- ---- places

abbrev pub view_root : Root → MeantRoot
view_root (Global v) = in_global v.0
view_root (Local v) = in_local v.0
view_root (Through v) = through v.0
view_root (Temporary of n) = in_temporary of n

abbrev pub view_step : Step → MeantStep
view_step (Field of n) = field of n
view_step (Element of low high index) = element of low high index.0
view_step (OfArray of index) = of_array of index.0
view_step (OfOpen of index) = of_open of index.0
view_step (OfInstance n) = of_instance n

abbrev pub view_path : Path → MeantPath
view_path path = record { root = view_root path.root; steps = map view_step path.steps }

-- ---- actions

abbrev first_or : Option FirstValue → FirstValue
first_or None = first_parts no_values
first_or (Some value) = value

-- what a variable of a routine begins with
abbrev pub first_at : Core → ℕ → ℕ → FirstValue
first_at core r v = first_or ((program_of core 0).first ((variables_of core r).first + v))

abbrev pub view_computation : Computation → MeantAction
view_computation (Arithmetic o checked to a b) = arithmetic o checked to.0 a.0 b.0
view_computation (Compare o to a b) = compare o to.0 a.0 b.0
view_computation (Negate checked to a) = negate checked to.0 a.0
view_computation (Complement to a) = complement to.0 a.0
view_computation (Invert to a) = invert to.0 a.0
view_computation (Absolute checked to a) = absolute checked to.0 a.0
view_computation (Odd to a) = odd to.0 a.0
view_computation (Upper to a) = upper to.0 a.0
view_computation (LowBits kind to a) = low_bits kind to.0 a.0
view_computation (Check low high to a) = check low high to.0 a.0
view_computation (Neighbour distance low high to a) = neighbour distance low high to.0 a.0
view_computation (Single to a) = single to.0 a.0
view_computation (Span to a b) = span to.0 a.0 b.0
view_computation (Combine o to a b) = combine o to.0 a.0 b.0
view_computation (Contains to a b) = contains to.0 a.0 b.0
view_computation (CheckSet all to a) = check_set all to.0 a.0

abbrev pub view_operand : Operand → MeantOperand
view_operand (Number t) = from_temp t.0
view_operand (Value path) = value_of (view_path path)
view_operand (Literal text) = literal_text text
view_operand (Nil of) = nil_of of
view_operand (OfType of) = a_type of
view_operand Token = the_token

abbrev pub view_destination : Destination → MeantDestination
view_destination Unused = unused
view_destination (InTemporary t) = in_temp t.0
view_destination (InNew of n) = in_new of n
view_destination (IntoPlace of to old) = into_place of (view_path to) old
view_destination (OverPlace to) = over_place (view_path to)

-- in a routine of the number
abbrev pub view_action : Core → ℕ → Action → MeantAction
view_action core r (Constant to n) = constant to.0 n
view_action core r (Load to kind from) = load to.0 kind (view_path from)
view_action core r (Store to kind from) = store (view_path to) kind from.0
view_action core r (Copy of to from) = copy of (view_path to) (view_path from)
view_action core r (BeginWith v) = begin_with v.0 (type_of_local core r v.0) (first_at core r v.0)
view_action core r (Pick to text index) = pick to.0 text index.0
view_action core r (Compute computation) = view_computation computation
view_action core r (Peek to) = peek to.0
view_action core r Take = take
view_action core r Forget = forget
view_action core r (Note t) = note t.0
view_action core r (Do p operands to) = primitive p (map view_operand operands) (view_destination to)

-- ---- calls

abbrev pub view_temporary : HeldTemporary → MeantTemporary
view_temporary t = record { of = t.of; n = t.number }

abbrev pub view_hold : Option HeldTemporary → Option MeantTemporary
view_hold None = None
view_hold (Some t) = Some (view_temporary t)

abbrev pub view_given : Given → MeantGiven
view_given (ByValue kind t) = by_value kind t.0
view_given (ByPlace path hold) = by_place (view_path path) (view_hold hold)
view_given (ByElements path hold) = by_elements (view_path path) (view_hold hold)
view_given (ByCopy of path) = by_copy of (view_path path)
view_given (ByOperand operand) = by_operand (view_operand operand)

abbrev pub view_receiver : Receiver → MeantReceiver
view_receiver Nowhere = nowhere
view_receiver (ToTemporary t) = to_temp t.0
view_receiver (Place of to) = to_place of (view_path to)
view_receiver (New of n) = to_new of n

-- ---- items

-- 0 leaves the routine, 1 the loop, 2 its turn
abbrev pub way_view : Way → ℕ
way_view Exit = 0
way_view Break = 1
way_view Continue = 2

abbrev pub variable_view : Option Root → Option MeantRoot
variable_view None = None
variable_view (Some root) = Some (view_root root)

-- in a routine of the number
abbrev mutual
  pub item_view : Core → ℕ → Item → MeantItem
  item_view core r (Act action) = act (view_action core r action)
  item_view core r (Also' truth t _ row) = also truth t.0 (item_row core r row)
  item_view core r (Choose' t _ first _ otherwise) = choose t.0 (item_row core r first) (item_row core r otherwise)
  item_view core r (Select' t _ row _ otherwise) = select t.0 (case_row core r row) (item_row core r otherwise)
  item_view core r (Loop' _ head t ends _ between _ body) = loop (turns (item_row core r head) t.0 ends (item_row core r between) (item_row core r body))
  item_view core r (BodyFirst' _ head t ends _ between _ body) = body_first (turns (item_row core r head) t.0 ends (item_row core r between) (item_row core r body))
  item_view core r (Protect' t _ row _ finalization) = protect t.0 (item_row core r row) (item_row core r finalization)
  item_view core r (Leave way) = leave (way_view way)
  item_view core r (Enter id given receiver) = enter id.0 (map view_given given) (view_receiver receiver)
  item_view core r (Scoped' first others _ row) = scoped (view_temporary first) (map view_temporary others) (item_row core r row)
  item_view core r (Attempt' _ row _ handlers) = attempt (item_row core r row) (clause_row core r handlers no_clauses)
  item_view core r (AttemptAll' _ row _ handlers _ others) = attempt (item_row core r row) (clause_row core r handlers (for_others (item_row core r others)))
  item_view core r (Throw at) = throw (view_path at)
  item_view core r Rethrow = rethrow
  item_view core r (Halt t) = halt t.0
  item_view core r (Construct class id given receiver) = construct class id.0 (map view_given given) (view_receiver receiver)
  item_view core r (Invoke id dispatch of given receiver) = invoke id.0 dispatch of (map view_given given) (view_receiver receiver)
  item_view core r (Free takes_nil at) = free takes_nil (view_path at)

  pub item_row : Core → ℕ → {n : _} → Row_of-Item n → Items
  item_row core r end_of-Item = none
  item_row core r (more_of-Item i rest) = then_do (item_view core r i) (item_row core r rest)

  pub case_row : Core → ℕ → {n : _} → Row_of-Case n → Cases
  case_row core r end_of-Case = no_cases
  case_row core r (more_of-Case labels _ row rest) = cases labels (item_row core r row) (case_row core r rest)

  -- the last clause comes behind them
  pub clause_row : Core → ℕ → {n : _} → Row_of-Clause n → Clauses → Clauses
  clause_row core r end_of-Clause last = last
  clause_row core r (more_of-Clause class variable _ row rest) last = clauses class (variable_view variable) (item_row core r row) (clause_row core r rest last)

abbrev pub items_view : Core → ℕ → List Item → Items
items_view core r [] = none
items_view core r (i ∷ items) = then_do (item_view core r i) (items_view core r items)

abbrev pub cases_view : Core → ℕ → List Case → Cases
cases_view core r [] = no_cases
cases_view core r (c ∷ cs) = cases c.labels (items_view core r c.items.items) (cases_view core r cs)

abbrev pub clauses_view : Core → ℕ → List Clause → Clauses → Clauses
clauses_view core r [] last = last
clauses_view core r (c ∷ cs) last = clauses c.class (variable_view c.variable) (items_view core r c.items.items) (clauses_view core r cs last)

abbrev pub turns_view : Core → ℕ → Turns → MeantTurns
turns_view core r l = turns (items_view core r l.head.items) l.temporary.0 l.ends (items_view core r l.between.items) (items_view core r l.body.items)
