-- Programs without strings, dynamic and open arrays, classes and interfaces: their tables, and the trees of their bodies. What such a
-- program works on are numbers, sets, records and arrays with bounds; of a text that is written in it a Char, its length and its bounds
-- are asked for, and it is written. (Free Pascal Reference Guide, "Types" and "Expressions".)
use Rattle.std.specs.Prelude.{◌≡◌, ◌<◌, ◌^◌, Bool, true, false, Option, Some, None, IfSome}
use Rattle.std.specs.List.{All}
use Rattle.op_core.specs.Expression.{Expression, Root, constant, variable, object, call, construct, set, eof, eoln, Action, convert, bracket, field, index, method, prefixed, operate, is, apply, copy, Argument, value, place, array, listed}
use Rattle.op_core.specs.Members.{There}
use Rattle.op_core.specs.Sizes.{type_at, range_of, values_of}
use Rattle.op_core.specs.Sound.{Each}
use Rattle.op_core.specs.Statement.{Statement, Statements, stmts_of}
use Rattle.op_core.specs.declared.constant.Const.{Const}
use Rattle.op_core.specs.declared.constant.Const.TheVariants.{Ordinal, Text, Set as SetOf, Nil as NilOf}
use Rattle.op_core.specs.declared.ids.RoutineId.{RoutineId}
use Rattle.op_core.specs.declared.ids.TypeId.{TypeId}
use Rattle.op_core.specs.declared.operation.Function.{Function}
use Rattle.op_core.specs.declared.operation.Function.TheVariants.{Length, Low, High}
use Rattle.op_core.specs.declared.program.Core.{Core}
use Rattle.op_core.specs.declared.program.Unit.{Unit as UnitRow}
use Rattle.op_core.specs.declared.routine.Owner.TheVariants.{Unit as OfUnit}
use Rattle.op_core.specs.declared.routine.Routine.{Routine}
use Rattle.op_core.specs.declared.types.CoreType.{CoreType}
use Rattle.op_core.specs.declared.types.CoreType.TheVariants.{String, Array, DynamicArray, OpenArray, Class, Interface, Nil, Broken}
use Rattle.op_meaning.specs.Every.{Asks, EveryNode, EveryWork, Node, action_nodes, at_argument, at_construct, at_copy, at_end, at_handlers, at_input, at_labels, at_method, at_raise, at_root, at_step, at_steps, at_strings, expression_nodes, statement_works, statements_works}
use Rattle.op_meaning.specs.Shapes.{is_reference}
use Rattle.op_typing.specs.Typed.{IsShortText}

-- ---- types

-- numbers, sets, records and arrays with bounds; also what [] is, and what a call of a procedure gives
abbrev pub is_solid : Option CoreType → Bool
is_solid None = false
is_solid (Some String) = false
is_solid (Some (DynamicArray element)) = false
is_solid (Some (OpenArray element)) = false
is_solid (Some (Class c)) = false
is_solid (Some (Interface i)) = false
is_solid (Some Nil) = false
is_solid (Some Broken) = false
is_solid (Some t) = true

abbrev pub IsSolidType : Core → TypeId → Type 0
IsSolidType core of = is_solid (type_at core of) ≡ true

-- ---- nodes of bodies

-- what is asked of a text that is written there
abbrev pub asks_text : Function → Bool
asks_text Length = true
asks_text Low = true
asks_text High = true
asks_text _ = false

abbrev pub IsSimpleConstant : Core → Const → TypeId → Type 0
IsSimpleConstant core (Ordinal n) of = IsSolidType core of
IsSimpleConstant core (Text bytes) of = IsShortText bytes
IsSimpleConstant core (SetOf members) of = IsSolidType core of
IsSimpleConstant core NilOf of = IsSolidType core of

-- of what an expression begins with, of the type
abbrev pub SimpleRoot : Core → Root → TypeId → Type 0 → Type 0
SimpleRoot core (constant v nodes words) of Parts = IsSimpleConstant core v of
SimpleRoot core (variable id) of Parts = IsSolidType core of
SimpleRoot core (object id) of Parts = IsSolidType core of
SimpleRoot core (call id given) of Parts = IsSolidType core of × Parts
SimpleRoot core (construct c id given) of Parts = ⊥
SimpleRoot core (set es) of Parts = IsSolidType core of × Parts
SimpleRoot core eof of Parts = IsSolidType core of
SimpleRoot core eoln of Parts = IsSolidType core of

-- of a step, behind a text that is written there, and behind any other value or place
abbrev pub SimpleStep : Core → Bool → Action → TypeId → Type 0 → Type 0
SimpleStep core true (convert conversion origin) next Parts = ⊥
SimpleStep core true bracket next Parts = Unit {0}
SimpleStep core true (field id) next Parts = ⊥
SimpleStep core true (index e) next Parts = Parts × IsSolidType core next
SimpleStep core true (method id dispatch given) next Parts = ⊥
SimpleStep core true (prefixed operator checked) next Parts = ⊥
SimpleStep core true (operate operator checked e) next Parts = ⊥
SimpleStep core true (is class) next Parts = ⊥
SimpleStep core true (apply function checked) next Parts = (asks_text function ≡ true) × IsSolidType core next
SimpleStep core true (copy e e') next Parts = ⊥
SimpleStep core false (convert conversion origin) next Parts = IsSolidType core next
SimpleStep core false bracket next Parts = IsSolidType core next
SimpleStep core false (field id) next Parts = IsSolidType core next
SimpleStep core false (index e) next Parts = Parts × IsSolidType core next
SimpleStep core false (method id dispatch given) next Parts = ⊥
SimpleStep core false (prefixed operator checked) next Parts = IsSolidType core next
SimpleStep core false (operate operator checked e) next Parts = Parts × IsSolidType core next
SimpleStep core false (is class) next Parts = IsSolidType core next
SimpleStep core false (apply function checked) next Parts = IsSolidType core next
SimpleStep core false (copy e e') next Parts = IsSolidType core next

abbrev pub SimpleArgument : Argument → Type 0 → Type 0
SimpleArgument (value e) Parts = Parts
SimpleArgument (place e) Parts = Parts
SimpleArgument (array e) Parts = ⊥
SimpleArgument (listed of es) Parts = ⊥

-- The type of each part that comes out is solid, but of a text that is written there. Statements that have no code yet are not asked.
abbrev pub SimpleNode : Core → Node → Type 0 → Type 0
SimpleNode core (at_root root of) Parts = SimpleRoot core root of Parts
SimpleNode core (at_steps others) Parts = Parts
SimpleNode core (at_step text action next) Parts = SimpleStep core text action next Parts
SimpleNode core (at_argument a) Parts = SimpleArgument a Parts
SimpleNode core at_construct Parts = Parts
SimpleNode core at_method Parts = Parts
SimpleNode core at_copy Parts = Unit {0}
SimpleNode core at_input Parts = Unit {0}
SimpleNode core at_strings Parts = Unit {0}
SimpleNode core at_end Parts = Parts
SimpleNode core at_handlers Parts = Unit {0}
SimpleNode core at_raise Parts = Parts
SimpleNode core (at_labels labels) Parts = Parts

abbrev pub simple_asks : Core → Asks
simple_asks core = record { of_node = SimpleNode core; of_amount = λ e Parts. Parts }

abbrev pub IsSimple : Core → Expression → Type 0
IsSimple core e = EveryNode (simple_asks core) (expression_nodes e)

abbrev pub IsSimpleStep : Core → Bool → Action → TypeId → Type 0
IsSimpleStep core text action next = SimpleStep core text action next (EveryNode (simple_asks core) (action_nodes action))

abbrev pub IsSimpleStatement : Core → Statement → Type 0
IsSimpleStatement core s = EveryWork (simple_asks core) (statement_works s)

abbrev pub AreSimpleStatements : Core → Statements → Type 0
AreSimpleStatements core ss = EveryWork (simple_asks core) (statements_works ss)

-- ---- programs

-- a routine of the program itself, in no other one; what it gives is solid
pub record IsSimpleRoutine (core : Core) (x : Routine) : Type 0 where
  pub owner : x.owner ≡ OfUnit
  pub enclosing : x.enclosing ≡ None
  pub result : IfSome x.result (IsSolidType core)
  pub body : IfSome x.body (λ b. AreSimpleStatements core (stmts_of b.statements.items))

-- the number of its elements has 32 bits; only elements without bytes can be more
abbrev pub IsCounted : Core → CoreType → Type 0
IsCounted core (Array at element) = values_of (range_of (type_at core at)) < 2 ^ 31
IsCounted core _ = Unit {0}

-- the parts of a unit give nothing
abbrev pub IsProcedure : Core → Option RoutineId → Type 0
IsProcedure core part = IfSome part (λ p. There core.routines p.0 (λ x. x.result ≡ None))

abbrev pub IsSimpleUnit : Core → UnitRow → Type 0
IsSimpleUnit core u = IsProcedure core u.initialization × IsProcedure core u.finalization

pub record IsSimpleProgram (core : Core) : Type 0 where
  pub arrays : Each core.types (λ n t. IsCounted core t)
  pub parameters : All (λ p. IsSolidType core p.of) core.parameters
  pub variables : All (λ v. IsSolidType core v.of) core.variables
  -- what stands for another variable begins with nothing
  pub references : All (λ v. is_reference v.role ≡ true → v.first_value ≡ None) core.variables
  pub routines : All (IsSimpleRoutine core) core.routines
  pub units : All (IsSimpleUnit core) core.units
