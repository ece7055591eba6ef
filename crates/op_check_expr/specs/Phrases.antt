-- What statements and declarations are made of: one judgement for each that the checkers above this one cite.
use Rattle.std.specs.Prelude.{◌≡◌, ℕ, nat_eq, position, Bool, true, false, List, Option, Some, None, Result, Ok, Err, slice_get, if◌then◌else◌}
use Rattle.std.specs.Option.{option_and_then, option_map}
use Rattle.op_base.specs.declared.place.Place.{Place}
use Rattle.op_base.specs.declared.rule.Refusal.{Refusal}
use Rattle.op_core.specs.Expression.{Expression as Tree, expr_of as tree_said}
use Rattle.op_core.specs.Faults.{Checked, FirstIs}
use Rattle.op_core.specs.Relations.{IsFirstOf, NoneBroken, Only, Through}
use Rattle.op_core.specs.Rows.{rows}
use Rattle.op_core.specs.declared.error.CheckError.{CheckError}
use Rattle.op_core.specs.declared.error.CheckError.TheVariants.{Refused, NoMemory}
use Rattle.op_core.specs.declared.expression.CoreExpr.{CoreExpr}
use Rattle.op_core.specs.declared.ids.RoutineId.{RoutineId}
use Rattle.op_core.specs.declared.ids.Run.{Run}
use Rattle.op_core.specs.declared.ids.TypeId.{TypeId}
use Rattle.op_core.specs.declared.ids.VariableId.{VariableId}
use Rattle.op_core.specs.declared.program.Core.{Core}
use Rattle.op_core.specs.declared.routine.Role.{Role}
use Rattle.op_core.specs.declared.routine.Role.TheVariants.{Result as ResultRole}
use Rattle.op_core.specs.declared.routine.Routine.{Routine}
use Rattle.op_core.specs.declared.routine.Variable.{Variable as VariableRow}
use Rattle.op_tree.specs.Expression.{Expression, designated, Designator, designator, named, Selector, Selectors, no_selectors, selectors, call, Arguments, no_arguments}
use Rattle.op_judgement.specs.Judgement.{Judgement, Breaks, Means, by_test, fine, followed, refused, through}
use Rattle.op_judgement.specs.declared.rules.LanguageRule.TheVariants.{NoSetElement, NoStatement, NotAssignable, NotWritable, WrongKindOfName}
use Rattle.op_check_expr.specs.Calling.{call_of, given_first, plan_for, plan_of}
use Rattle.op_check_expr.specs.Constructors.{is_small}
use Rattle.op_check_expr.specs.Expressions.{called, position_of, position_of_designator, root_of, selected, settled, value_in}
use Rattle.op_check_expr.specs.Naming as naming
use Rattle.op_check_expr.specs.Naming.{Denoted, Meant, number_at, valued, variable_tree}
use Rattle.op_check_expr.specs.Parts.{standing}
use Rattle.op_check_expr.specs.Places.{is_writable_row, target_value, variable_value}
use Rattle.op_check_expr.specs.Scopes.{Here}
use Rattle.op_check_expr.specs.Values.{Value, as_type, computed, stored, tree_of, type_of}
use Rattle.op_check_expr.specs.declared.call.Plan.{Plan}
use Rattle.op_check_expr.specs.declared.call.Plan.TheVariants.{Bound, Sole}
use Rattle.op_tree.specs.declared.position.Name.{Name}
use Rattle.op_tree.specs.declared.position.Position.{Position}
use Rattle.op_types.specs.Assignable.{assignable}
use Rattle.op_types.specs.Names.{lower, meaning_of}
use Rattle.op_types.specs.declared.visible.Meaning.{Meaning}
use Rattle.op_types.specs.declared.visible.Meaning.TheVariants.{Routine as RoutineNamed}

-- an expression; `wanted` is the type that its use fixes
unfoldable pub value : Here → Option TypeId → Expression → Judgement Value
value here wanted e = value_in here wanted e

-- A value that is stored in what has a type is assignable to that.
unfoldable pub given : Here → TypeId → Bool → Expression → Judgement Tree
given here to checked e = through (value_in here (Some to) e) (stored here.core (position_of e).place checked to)

-- an argument that must be a variable
unfoldable pub variable : Here → Option TypeId → Expression → Judgement Tree
variable here of e = through (value_in here None e) (variable_value here (position_of e).place of)

-- whether a variable may be written
unfoldable pub is_writable_variable : Here → VariableId → Bool
is_writable_variable here id = is_writable_row here id (slice_get here.core.variables id.0)

-- ---- an element for a set of a base

abbrev pub element_stored : Core → Place → TypeId → Value → Judgement Tree
element_stored core at base v = by_test NotAssignable at (by_test NoSetElement at (fine (as_type core true base v)) (is_small v)) (assignable core (type_of v) base)

unfoldable pub element : Here → TypeId → Expression → Judgement Tree
element here base e = through (value_in here None e) (element_stored here.core (position_of e).place base)

-- ---- what is assigned to

abbrev pub is_result_role : Role → Bool
is_result_role ResultRole = true
is_result_role _ = false

abbrev pub is_result : VariableRow → Bool
is_result v = is_result_role v.role

abbrev pub result_at : Run → List VariableRow → ℕ → Option (VariableId × TypeId)
result_at run vs k = option_and_then (λ n. option_map (λ v. (record { 0 = n }, v.of)) (slice_get vs k)) (number_at run k)

-- the result of a routine, among its variables
abbrev pub result_in : Core → Option Routine → Option (VariableId × TypeId)
result_in core None = None
result_in core (Some r) = option_and_then (result_at r.variables (rows core.variables r.variables)) (position is_result (rows core.variables r.variables))

abbrev pub is_own : Option RoutineId → RoutineId → Bool
is_own None id = false
is_own (Some own) id = nat_eq own.0 id.0

-- the result of the routine whose body this is, by that routine's name
abbrev pub own_result : Here → RoutineId → Option (VariableId × TypeId)
own_result here id = if is_own here.routine id then result_in here.core (slice_get here.core.routines id.0) else None

abbrev pub routine_in : Option Meaning → Option RoutineId
routine_in (Some (RoutineNamed id)) = Some id
routine_in _ = None

-- a routine's name alone
abbrev pub routine_alone : Here → Designator → Option RoutineId
routine_alone here (designator (named n) no_selectors) = routine_in (meaning_of here.visible (lower n.text))
routine_alone here d = None

-- a value is assigned to, in a statement that begins at a place
abbrev pub target_means : Here → Place → Judgement Value → Judgement Tree
target_means here at j = through j (target_value here at)

abbrev pub target_by : Here → Designator → Option RoutineId → Judgement Tree
target_by here d (Some id) = refused NotWritable (position_of_designator d).place
target_by here d None = target_means here (position_of_designator d).place (value_in here None (designated d))

abbrev pub result_denoted : Position → VariableId × TypeId → Denoted
result_denoted p v = valued p (computed (variable_tree v.0 v.1))

-- the result of the routine whose body this is, by that routine's name
abbrev pub result_named : Here → Name → Option Denoted
result_named here n = option_map (result_denoted n.position) (option_and_then (own_result here) (routine_in (meaning_of here.visible (lower n.text))))

-- the result that a place begins with; arguments behind the name call the function
abbrev pub result_first : Here → Designator → Option Denoted
result_first here (designator (named n) (selectors (call args) ss)) = None
result_first here (designator (named n) ss) = result_named here n
result_first here d = None

abbrev pub selectors_behind : Designator → Selectors
selectors_behind (designator root ss) = ss

abbrev pub target_from : Here → Designator → Option Denoted → Judgement Tree
target_from here d (Some r) = target_means here (position_of_designator d).place (through (selected here (Some r) (selectors_behind d)) (settled here))
target_from here d None = target_by here d (routine_alone here d)

-- In its own body a function's name is its result, of which a part may be selected; no other routine's name is assigned to.
unfoldable pub target : Here → Designator → Judgement Tree
target here d = target_from here d (result_first here d)

-- ---- a call alone

abbrev pub call_in : Selector → Option Arguments
call_in (call args) = Some args
call_in _ = None

-- the last one, if it is a call, with those in front
abbrev pub last_call : Selectors → Option (Selectors × Arguments)
last_call no_selectors = None
last_call (selectors x no_selectors) = option_map (λ args. (no_selectors, args)) (call_in x)
last_call (selectors x (selectors y ys)) = option_map (λ r. (selectors x r.0, r.1)) (last_call (selectors y ys))

-- casts and built-in functions are values and no statements
abbrev pub is_call : Option Plan → Bool
is_call (Some (Bound f of at)) = false
is_call (Some (Sole what p)) = false
is_call _ = true

abbrev pub alone_value : Place → Bool → Option Value → Judgement Tree
alone_value start b v = by_test NoStatement start (standing (option_map tree_of v)) b

abbrev pub alone_called : Here → Place → Option Plan → Arguments → Judgement Tree
alone_called here start plan args = followed (called here plan args) (alone_value start (is_call plan))

-- a name alone: a routine, no value and no type
abbrev pub alone_by : Here → Place → Denoted → Meant → Judgement Tree
alone_by here start d (naming.value v) = refused NoStatement start
alone_by here start d (naming.type_name of) = refused WrongKindOfName d.position.place
alone_by here start d what =
    followed (plan_for here true d.position what no_arguments) (λ plan. standing (option_map tree_of (call_of here plan (given_first plan))))

abbrev pub alone_denoted : Here → Place → Denoted → Judgement Tree
alone_denoted here start d = alone_by here start d d.what

-- by the call at the end, if there is one, with the selectors in front of it
abbrev pub alone_behind : Here → Place → Option Denoted → Selectors → Option (Selectors × Arguments) → Judgement Tree
alone_behind here start d ss None = through (selected here d ss) (alone_denoted here start)
alone_behind here start d ss (Some r) =
    followed (selected here d r.0) (λ c. followed (plan_of here true c r.1) (λ plan. alone_called here start plan r.1))

-- a call as a statement
unfoldable pub call_alone : Here → Designator → Judgement Tree
call_alone here (designator root ss) =
    followed (root_of here root) (λ d. alone_behind here (position_of_designator (designator root ss)).place d ss (last_call ss))

-- ---- the call

-- the first fault; a part without a fault has a type, unless a name in it is spoiled
abbrev pub failure : Option Refusal → CheckError
failure None = NoMemory
failure (Some r) = Refused r

-- the typed expression, where no rule is broken; else the first one
abbrev pub ExprIs : Checked Value → Result CoreExpr CheckError → Type 0
ExprIs c (Ok e) = (option_map tree_of c.typed ≡ Some (tree_said e)) × FirstIs c.faults None
ExprIs c (Err (Refused r)) = FirstIs c.faults (Some r)
ExprIs c (Err NoMemory) = Unit {0}

-- The typed expression is what is meant and no rule is broken; or the refusal is the first rule that is broken.
abbrev pub ExprMeans : Judgement Value → Result CoreExpr CheckError → Type 0
ExprMeans j (Ok e) = Through (Means j) (λ v. Only (tree_of v)) (tree_said e) × NoneBroken (Breaks j)
ExprMeans j (Err (Refused r)) = IsFirstOf (Breaks j) r
ExprMeans j (Err NoMemory) = Unit {0}
