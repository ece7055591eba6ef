-- Typed expressions as values: what a `CoreExpr` says, wherever it lies in memory.
use Rattle.std.specs.Prelude.{ℕ, Bool}
use Rattle.op_core.specs.declared.constant.Const.{Const}
use Rattle.op_core.specs.declared.expression.Action.{Action as RustAction}
use Rattle.op_core.specs.declared.expression.Action.TheVariants.{Convert, Bracket, Field, Index, Call' as Method', Prefix, Operate, Is, Apply, Copy'}
use Rattle.op_core.specs.declared.expression.CoreArgument.{CoreArgument, Row_of-CoreExpr, end_of-CoreExpr, more_of-CoreExpr}
use Rattle.op_core.specs.declared.expression.CoreArgument.TheVariants.{Value, Place, Array, Elements'}
use Rattle.op_core.specs.declared.expression.CoreElement.{CoreElement}
use Rattle.op_core.specs.declared.expression.CoreElement.TheVariants.{One, Range'}
use Rattle.op_core.specs.declared.expression.CoreExpr.{CoreExpr, CoreExpr', Row_of-Step, end_of-Step, more_of-Step}
use Rattle.op_core.specs.declared.expression.Root.{Root as RustRoot, Row_of-CoreArgument, end_of-CoreArgument, more_of-CoreArgument, Row_of-CoreElement, end_of-CoreElement, more_of-CoreElement}
use Rattle.op_core.specs.declared.expression.Root.TheVariants.{Constant, Variable, Object, Call', Construct', Set', Eof, Eoln}
use Rattle.op_core.specs.declared.ids.ClassId.{ClassId}
use Rattle.op_core.specs.declared.ids.FieldId.{FieldId}
use Rattle.op_core.specs.declared.ids.RoutineId.{RoutineId}
use Rattle.op_core.specs.declared.ids.TypeId.{TypeId}
use Rattle.op_core.specs.declared.ids.VariableId.{VariableId}
use Rattle.op_core.specs.declared.operation.Conversion.{Conversion}
use Rattle.op_core.specs.declared.operation.Dispatch.{Dispatch}
use Rattle.op_core.specs.declared.operation.Function.{Function}
use Rattle.op_core.specs.declared.operation.Origin.{Origin}
use Rattle.op_tree.specs.declared.operator.Operator.{Operator}
use Rattle.op_tree.specs.declared.operator.PrefixOperator.{PrefixOperator}

mutual
  pub data Expression : Type 0 where
    expression : (root : Root) (of : TypeId) (steps : Steps) → Expression

  pub data Root : Type 0 where
    constant : (value : Const) (nodes words : ℕ) → Root
    variable : (id : VariableId) → Root
    object : (id : VariableId) → Root
    call : (routine : RoutineId) (arguments : Arguments) → Root
    construct : (class : ClassId) (constructor : RoutineId) (arguments : Arguments) → Root
    set : (elements : Elements) → Root
    eof : Root
    eoln : Root

  pub data Steps : Type 0 where
    no_steps : Steps
    steps : (action : Action) (of : TypeId) (others : Steps) → Steps

  pub data Action : Type 0 where
    convert : (conversion : Conversion) (origin : Origin) → Action
    bracket : Action
    field : (id : FieldId) → Action
    index : (at : Expression) → Action
    method : (method : RoutineId) (dispatch : Dispatch) (arguments : Arguments) → Action
    prefixed : (operator : PrefixOperator) (checked : Bool) → Action
    operate : (operator : Operator) (checked : Bool) (operand : Expression) → Action
    is : (of : TypeId) → Action
    apply : (function : Function) (checked : Bool) → Action
    copy : (first count : Expression) → Action

  pub data Elements : Type 0 where
    no_elements : Elements
    elements : (first : Element) (others : Elements) → Elements

  pub data Element : Type 0 where
    one : (value : Expression) → Element
    range : (first last : Expression) → Element

  pub data Arguments : Type 0 where
    no_arguments : Arguments
    arguments : (first : Argument) (others : Arguments) → Arguments

  pub data Argument : Type 0 where
    value : (value : Expression) → Argument
    place : (place : Expression) → Argument
    array : (array : Expression) → Argument
    listed : (of : TypeId) (values : Expressions) → Argument

  pub data Expressions : Type 0 where
    no_expressions : Expressions
    expressions : (first : Expression) (others : Expressions) → Expressions

-- with one step more
abbrev pub behind : Steps → Action → TypeId → Steps
behind no_steps action of = steps action of no_steps
behind (steps first next others) action of = steps first next (behind others action of)

abbrev pub then : Expression → Action → TypeId → Expression
then (expression root from others) action of = expression root from (behind others action of)

abbrev mutual
  pub expr_of : CoreExpr → Expression
  expr_of (CoreExpr' root of _ row) = expression (root_of root) of (step_row row)

  pub root_of : RustRoot → Root
  root_of (Constant v nodes words) = constant v nodes words
  root_of (Variable id) = variable id
  root_of (Object id) = object id
  root_of (Call' routine _ row) = call routine (argument_row row)
  root_of (Construct' class constructor _ row) = construct class constructor (argument_row row)
  root_of (Set' _ row) = set (element_row row)
  root_of Eof = eof
  root_of Eoln = eoln

  pub step_row : {n : _} → Row_of-Step n → Steps
  step_row end_of-Step = no_steps
  step_row (more_of-Step action of rest) = steps (action_of action) of (step_row rest)

  pub action_of : RustAction → Action
  action_of (Convert conversion origin) = convert conversion origin
  action_of Bracket = bracket
  action_of (Field id) = field id
  action_of (Index e) = index (expr_of e)
  action_of (Method' id dispatch _ row) = method id dispatch (argument_row row)
  action_of (Prefix operator checked) = prefixed operator checked
  action_of (Operate operator checked e) = operate operator checked (expr_of e)
  action_of (Is of) = is of
  action_of (Apply function checked) = apply function checked
  action_of (Copy' _ e _ e') = copy (expr_of e) (expr_of e')

  pub element_row : {n : _} → Row_of-CoreElement n → Elements
  element_row end_of-CoreElement = no_elements
  element_row (more_of-CoreElement e rest) = elements (element_of e) (element_row rest)

  pub element_of : CoreElement → Element
  element_of (One e) = one (expr_of e)
  element_of (Range' _ e _ e') = range (expr_of e) (expr_of e')

  pub argument_row : {n : _} → Row_of-CoreArgument n → Arguments
  argument_row end_of-CoreArgument = no_arguments
  argument_row (more_of-CoreArgument a rest) = arguments (argument_of a) (argument_row rest)

  pub argument_of : CoreArgument → Argument
  argument_of (Value e) = value (expr_of e)
  argument_of (Place e) = place (expr_of e)
  argument_of (Array e) = array (expr_of e)
  argument_of (Elements' of _ row) = listed of (expr_row row)

  pub expr_row : {n : _} → Row_of-CoreExpr n → Expressions
  expr_row end_of-CoreExpr = no_expressions
  expr_row (more_of-CoreExpr e rest) = expressions (expr_of e) (expr_row rest)
