-- Items: a statement as a list of actions, choices, loops, protected parts and calls, and what is still to be done of it while it
-- runs. (Free Pascal Reference Guide, "Statements" and "Exceptions".)
use Rattle.std.specs.Prelude.{ℕ, Bool, List, [], ◌∷◌, Option}
use Rattle.op_core.specs.declared.ids.ClassId.{ClassId}
use Rattle.op_core.specs.declared.ids.RoutineId.{RoutineId}
use Rattle.op_core.specs.declared.ids.TypeId.{TypeId}
use Rattle.op_core.specs.declared.operation.Dispatch.{Dispatch}
use Rattle.op_core.specs.declared.statement.Label.{Label}
use Rattle.op_core.specs.declared.types.IntegerKind.{IntegerKind}
use Rattle.op_semantics.specs.Actions.{Action}
use Rattle.op_semantics.specs.Paths.{Path, Root}
use Rattle.op_semantics.specs.Primitives.{Operand}
use Rattle.op_semantics.specs.World.{Temporary}

-- What a parameter is given: the low bits of a number; a place, or where the elements of the array at a place are, and the temporary by which the
-- dynamic array that the place lies in, or that array, is held for the call; a copy of what stands at a place; or a value that is looked at.
-- ("Value parameters", "Variable parameters", "Out parameters", "Constant parameters" and "Open array parameters".)
pub data Given : Type 0 where
  by_value : (kind : IntegerKind) → (temp : ℕ) → Given
  by_place : (path : Path) → (hold : Option Temporary) → Given
  by_elements : (path : Path) → (hold : Option Temporary) → Given
  by_copy : (of : TypeId) → (path : Path) → Given
  by_operand : (operand : Operand) → Given

-- where the result of a function goes: to a temporary, to a place, or to a new temporary, which has to be ended
pub data Receiver : Type 0 where
  nowhere : Receiver
  to_temp : (temp : ℕ) → Receiver
  to_place : (of : TypeId) → (to : Path) → Receiver
  to_new : (of : TypeId) → (n : ℕ) → Receiver

mutual
  pub data Item : Type 0 where
    act : (action : Action) → Item
    -- the second operand of `and` and `or`, where the first one is this truth value
    also : (truth : Bool) → (temp : ℕ) → (items : Items) → Item
    choose : (temp : ℕ) → (first otherwise : Items) → Item
    select : (temp : ℕ) → (cases : Cases) → (otherwise : Items) → Item
    -- a loop, from its test on
    loop : (turns : Turns) → Item
    -- a loop, from its body on
    body_first : (turns : Turns) → Item
    -- a part with a finally part; why it is left stands in the temporary, and an exception that waits in the next one
    protect : (temp : ℕ) → (items finalization : Items) → Item
    -- 0 leaves the routine, 1 the loop, 2 its turn
    leave : (what : ℕ) → Item
    enter : (routine : ℕ) → (given : List Given) → (receiver : Receiver) → Item
    -- items that may make these temporaries, the first one and others: behind them, and where they are left, these end in this order,
    -- the last one that is made first, and of each only what was made
    scoped : (first : Temporary) → (others : List Temporary) → (items : Items) → Item
    -- a part with handlers
    attempt : (items : Items) → (clauses : Clauses) → Item
    -- raises the instance at a place, or again that of the handler
    throw : (at : Path) → Item
    rethrow : Item
    halt : (temp : ℕ) → Item
    -- a constructor is called on a class, and the instance goes to a receiver
    construct : (class : ClassId) → (routine : ℕ) → (given : List Given) → (receiver : Receiver) → Item
    -- a method is called of the instance that is given first, which is of the type
    invoke : (routine : ℕ) → (dispatch : Dispatch) → (of : TypeId) → (given : List Given) → (receiver : Receiver) → Item
    -- Free of the instance at a place; `takes_nil` says that nil is left alone
    free : (takes_nil : Bool) → (at : Path) → Item

  pub data Items : Type 0 where
    none : Items
    then_do : (first : Item) → (others : Items) → Items

  -- The head is done. Where the temporary is then false, or with `ends` where it is true, the loop is over; else `between` is done
  -- and then the body.
  pub data Turns : Type 0 where
    turns : (head : Items) → (temp : ℕ) → (ends : Bool) → (between body : Items) → Turns

  pub data Cases : Type 0 where
    no_cases : Cases
    cases : (labels : List Label) → (items : Items) → (others : Cases) → Cases

  -- `on variable: class do`; without a last clause for all others an exception that no clause takes goes on
  pub data Clauses : Type 0 where
    no_clauses : Clauses
    for_others : (items : Items) → Clauses
    clauses : (class : ClassId) → (variable : Option Root) → (items : Items) → (others : Clauses) → Clauses

infixr 55 ◌&◌
abbrev pub ◌&◌ : Items → Items → Items
none & js = js
then_do i rest & js = then_do i (rest & js)

abbrev pub only : Item → Items
only i = then_do i none

abbrev pub acts : List Action → Items
acts [] = none
acts (a ∷ actions) = then_do (act a) (acts actions)

abbrev pub head_of : Turns → Items
head_of (turns head t ends between body) = head

abbrev pub body_of : Turns → Items
body_of (turns head t ends between body) = body

-- ---- what is still to be done

-- an item, or what stands behind items and says where they are left to
pub data Task : Type 0 where
  item : (item : Item) → Task
  -- behind the body of a loop: what Continue leads to, and Break behind it
  mark : (turns : Turns) → Task
  -- the head of a loop was done
  turn : (turns : Turns) → Task
  -- behind a part with a finally part
  finally : (temp : ℕ) → (finalization : Items) → Task
  -- behind a finally part: what is left goes on, as the temporaries tell
  resume : (temp : ℕ) → Task
  -- behind a part with handlers
  catching : (clauses : Clauses) → Task
  -- behind items that may have made these temporaries: the first one ends next
  scope : (first : Temporary) → (others : List Temporary) → Task
  -- behind a handler of an instance
  handling : (instance : ℕ) → Task
  -- Exit, Break or Continue goes on
  leaving : (reason : ℕ) → Task
  -- behind a body: the variables that have to be ended, and the result where an exception leaves
  ending : (variables : List ℕ) → (result : Option ℕ) → Task
  -- the initialization of a unit has ended: its finalization becomes due
  due : (finalization : RoutineId) → Task

abbrev pub onto : Items → List Task → List Task
onto none tasks = tasks
onto (then_do i others) tasks = item i ∷ onto others tasks
