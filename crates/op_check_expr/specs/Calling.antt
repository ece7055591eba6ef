-- What is called, and what it is given (Free Pascal Reference Guide, "Function calls" and "Parameter lists").
use Rattle.std.specs.Prelude.{ℕ, suc, nat_eq, Bool, true, false, ◌&&◌, ◌||◌, List, [], ◌∷◌, length, Option, Some, None, is_some, slice_get, Vec}
use Rattle.std.specs.Option.{option_map}
use Rattle.std.specs.declared.alloc.Global.{Global}
use Rattle.op_base.specs.declared.place.Place.{Place}
use Rattle.op_core.specs.Expression.{expression, Argument, Arguments, no_arguments, arguments, value as value_argument, place as place_argument, call as call_root, no_steps}
use Rattle.op_core.specs.Nodes.{arguments_of}
use Rattle.op_core.specs.Rows.{rows}
use Rattle.op_core.specs.Typing.{takes_place}
use Rattle.op_core.specs.declared.expression.CoreArgument.{CoreArgument}
use Rattle.op_core.specs.declared.ids.RoutineId.{RoutineId}
use Rattle.op_core.specs.declared.ids.TypeId.{TypeId}
use Rattle.op_core.specs.declared.operation.Function.{Function}
use Rattle.op_core.specs.declared.operation.Function.TheVariants.{Low, High}
use Rattle.op_core.specs.declared.routine.Parameter.{Parameter}
use Rattle.op_core.specs.declared.routine.Routine.{Routine}
use Rattle.op_tree.specs.Expression as source
use Rattle.op_tree.specs.declared.position.Position.{Position}
use Rattle.op_judgement.specs.Judgement.{Judgement, by_entry, by_test, changed, fine, refused, with_part}
use Rattle.op_judgement.specs.declared.rules.LanguageRule.TheVariants.{WrongArguments, WrongKindOfName}
use Rattle.op_check_expr.specs.Naming.{Denoted, Meant, routine, type_name, built_in}
use Rattle.op_check_expr.specs.Parts.{whether}
use Rattle.op_check_expr.specs.Places.{variable_value}
use Rattle.op_check_expr.specs.Values.{Value, computed, stored}
use Rattle.op_check_expr.specs.declared.call.Plan.{Plan}
use Rattle.op_check_expr.specs.declared.call.Plan.TheVariants.{Bound, Sole, Routine as RoutinePlan}
use Rattle.op_check_expr.specs.Scopes.{Here}
use Rattle.op_types.specs.ConstantParts.{only_value, type_named}
use Rattle.op_types.specs.Operators as table
use Rattle.op_types.specs.declared.constant.Applied.{Applied}
use Rattle.op_types.specs.declared.constant.Applied.TheVariants.{Cast, Function as Function'}
use Rattle.op_types.specs.declared.visible.BuiltIn.{BuiltIn}
use Rattle.op_types.specs.declared.visible.BuiltIn.TheVariants.{Chr, Function as FunctionNamed}

-- ---- what is called

abbrev pub count_of : source.Arguments → ℕ
count_of source.no_arguments = 0
count_of (source.arguments a others) = suc (count_of others)

abbrev pub is_plain : source.Argument → Bool
is_plain (source.value e) = true
is_plain _ = false

abbrev pub are_plain : source.Arguments → Bool
are_plain source.no_arguments = true
are_plain (source.arguments a others) = is_plain a && are_plain others

-- one argument to each parameter, none of them with a width
abbrev pub are_given : List Parameter → source.Arguments → Bool
are_given ps args = nat_eq (length ps) (count_of args) && are_plain args

abbrev pub parameters_in : Here → Option Routine → List Parameter
parameters_in s None = []
parameters_in s (Some r) = rows s.core.parameters r.parameters

abbrev pub parameters_of : Here → RoutineId → List Parameter
parameters_of s id = parameters_in s (slice_get s.core.routines id.0)

-- Each parameter has an argument, without a width. A procedure gives no value, which only a call alone does without.
abbrev pub routine_plan : Here → Bool → Position → RoutineId → source.Arguments → Routine → Judgement Plan
routine_plan s alone p id args r =
    by_test WrongKindOfName p.place (by_test WrongArguments p.place (fine (RoutinePlan id)) (are_given (rows s.core.parameters r.parameters) args))
    (alone || is_some r.result)

-- one argument, a value
abbrev pub sole_plan : Position → Applied → Option source.Expression → Judgement Plan
sole_plan p what e = by_entry WrongArguments p.place (λ e. fine (Sole what p)) e

abbrev pub bound_plan : Position → Function → Option source.Expression → Option (TypeId × Place) → Judgement Plan
bound_plan p f e None = sole_plan p (Function' f) e
bound_plan p f e (Some of) = fine (Bound f of.0 of.1)

-- A function takes one value; Low and High also take a type.
abbrev pub function_plan : Here → Position → Function → source.Arguments → Judgement Plan
function_plan s p Low args = bound_plan p Low (only_value args) (type_named s.visible args)
function_plan s p High args = bound_plan p High (only_value args) (type_named s.visible args)
function_plan s p f args = sole_plan p (Function' f) (only_value args)

-- Built-in procedures give no value.
abbrev pub built_in_plan : Here → Position → BuiltIn → source.Arguments → Judgement Plan
built_in_plan s p Chr args = sole_plan p (Cast table.char) (only_value args)
built_in_plan s p (FunctionNamed f) args = function_plan s p f args
built_in_plan s p _ args = refused WrongKindOfName p.place

-- Only routines are called, and types, which cast one value.
abbrev pub plan_for : Here → Bool → Position → Meant → source.Arguments → Judgement Plan
plan_for s alone p (routine id) args = with_part (routine_plan s alone p id args) (slice_get s.core.routines id.0)
plan_for s alone p (type_name of) args = sole_plan p (Cast of) (only_value args)
plan_for s alone p (built_in b) args = built_in_plan s p b args
plan_for s alone p _ args = refused WrongKindOfName p.place

-- what is done with arguments behind what stands in front of them; `alone` is whether the call is a statement
abbrev pub plan_of : Here → Bool → Option Denoted → source.Arguments → Judgement Plan
plan_of s alone d args = with_part (λ d. plan_for s alone d.position d.what args) d

-- ---- what it is given

abbrev pub given_of : Vec CoreArgument Global → Arguments
given_of v = arguments_of v.items

abbrev pub behind : Arguments → Argument → Arguments
behind no_arguments a = arguments a no_arguments
behind (arguments first others) a = arguments first (behind others a)

abbrev pub given_behind : Option Arguments → Option Argument → Option Arguments
given_behind (Some args) (Some a) = Some (behind args a)
given_behind _ _ = None

-- a value for a parameter, its expression at a position: a variable where the parameter's mode takes a place
abbrev pub passed_value : Here → Position → Value → Parameter → Judgement Argument
passed_value s at v p =
    whether (takes_place p.mode) (changed place_argument (variable_value s at.place (Some p.of) v))
    (changed value_argument (stored s.core at.place at.switches.r p.of v))

-- there may be no parameter, since what is called is not known or takes another number
abbrev pub passed : Here → Option Parameter → Position → Value → Judgement Argument
passed s p at v = with_part (passed_value s at v) p

abbrev pub type_wanted : Option Parameter → Option TypeId
type_wanted p = option_map (λ p. p.of) p

abbrev pub first_of : List Parameter → Option Parameter
first_of [] = None
first_of (p ∷ ps) = Some p

abbrev pub others_of : List Parameter → List Parameter
others_of [] = []
others_of (p ∷ ps) = ps

abbrev pub result_type : Option TypeId → TypeId
result_type None = record { 0 = 9 }
result_type (Some of) = of

abbrev pub call_tree : RoutineId → Arguments → Routine → Value
call_tree id args r = computed (expression (call_root id args) (result_type r.result) no_steps)

-- ---- what it gives

abbrev pub parameters_for : Here → Option Plan → List Parameter
parameters_for s (Some (RoutinePlan id)) = parameters_of s id
parameters_for s plan = []

abbrev pub given_first : Option Plan → Option Arguments
given_first (Some (RoutinePlan id)) = Some no_arguments
given_first plan = None

-- what a routine gives with these arguments
abbrev pub call_of : Here → Option Plan → Option Arguments → Option Value
call_of s (Some (RoutinePlan id)) (Some args) = option_map (call_tree id args) (slice_get s.core.routines id.0)
call_of s plan given = None
