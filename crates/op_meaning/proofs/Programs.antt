-- How the programs that are run by computation are written: the rows of a program but for its names, expressions, statements, and what
-- comes of a run.
use Rattle.std.specs.Prelude.{ℕ, zero, suc, ℤ, Bool, true, false, List, [], ◌∷◌, ◌++◌, length, Option, Some, None, codes, replicate, map}
use Rattle.std.specs.Int.{int_wrap}
use Rattle.op_core.specs.Expression.{Expression, expression, constant, variable, call as call_of, set as set_with, no_steps, operate, prefixed, apply, convert, field, index, then, Arguments, arguments, no_arguments, Argument, Elements, elements, no_elements, Element}
use Rattle.op_core.specs.Initial.{FirstValue}
use Rattle.op_core.specs.Statement.{Statement, Statements, statements, no_statements, write, plain, built_in, call}
use Rattle.op_core.specs.Types.{predefined, id}
use Rattle.op_core.specs.Sizes.{plain as extent}
use Rattle.op_core.specs.declared.constant.Const.TheVariants.{Ordinal, Text}
use Rattle.op_core.specs.declared.ids.Run.{Run}
use Rattle.op_core.specs.declared.ids.VariableId.{VariableId}
use Rattle.op_core.specs.declared.ids.TypeId.{TypeId}
use Rattle.op_core.specs.declared.operation.Conversion.{Conversion}
use Rattle.op_core.specs.declared.operation.Function.{Function}
use Rattle.op_core.specs.declared.operation.Origin.TheVariants.{Implied}
use Rattle.op_core.specs.declared.program.Core.{Core}
use Rattle.op_core.specs.declared.routine.Owner.TheVariants.{Unit as OfUnit}
use Rattle.op_core.specs.declared.routine.Role.{Role}
use Rattle.op_core.specs.declared.routine.Role.TheVariants.{Plain, Parameter, Result}
use Rattle.op_core.specs.declared.routine.Routine.{Routine}
use Rattle.op_core.specs.declared.routine.Variable.{Variable}
use Rattle.op_core.specs.declared.types.CoreType.{CoreType}
use Rattle.op_core.specs.declared.types.Field.{Field}
use Rattle.op_meaning.specs.Spots.{spots_from}
use Rattle.op_tree.specs.declared.class.Visibility.TheVariants.{Public}
use Rattle.op_tree.specs.declared.heading.ParameterMode.TheVariants.{Value, Var, Const_, Out}
use Rattle.op_tree.specs.declared.heading.RoutineKind.TheVariants.{Procedure}
use Rattle.op_tree.specs.declared.operator.Operator.{Operator}
use Rattle.op_tree.specs.declared.operator.PrefixOperator.{PrefixOperator}
use Rattle.op_tree.specs.declared.position.Name.{Name}
use Rattle.op_meaning.specs.Actions.{perform}
use Rattle.op_meaning.specs.Frames.{Program, State}
use Rattle.op_meaning.specs.Holding.{each, any_below}
use Rattle.op_meaning.specs.Machine.{run_for, step, step_by, stepped, acted, done, do_item, do_task}
use Rattle.op_meaning.specs.Sets.{bits_below}
use Rattle.op_meaning.specs.Start.{after}
use Rattle.op_meaning.specs.Texts.{decimal_by}
use Rattle.op_meaning.specs.World.{Ending, Ended}

-- ---- what comes of a run

pub record Outcome : Type 0 where
  pub output : List ℕ
  pub errors : List ℕ
  pub ending : Ending

abbrev pub outcome_of : State → Outcome
outcome_of s = record { output = s.world.output; errors = s.world.errors; ending = s.world.ending }

-- of so many steps without input
unfoldable pub outcome : ℕ → Program → Outcome
unfolding after run_for step step_by stepped acted done do_item do_task perform bits_below decimal_by int_wrap each any_below spots_from
outcome n p = outcome_of (after p [] n)

-- a program that wrote this and ended with 0
abbrev pub writes : List ℕ → Outcome
writes text = record { output = text; errors = []; ending = Ended 0 }

-- one that wrote this and then met a run-time error, whose three digits are these
abbrev pub fails_with : List ℕ → List ℕ → ℕ → Outcome
fails_with text digits n = record { output = text; errors = codes "Runtime error " ++ digits ++ 10 ∷ []; ending = Ended n }

-- a line of text
abbrev pub said : List ℕ → List ℕ
said text = text ++ 10 ∷ []

-- ---- expressions

abbrev pub var : ℕ → ℕ → Expression
var v t = expression (variable (record { 0 = v })) (id t) no_steps

abbrev pub num : ℤ → Expression
num n = expression (constant (Ordinal n) 1 0) (id 4) no_steps

-- a constant of a type
abbrev pub known : ℤ → ℕ → Expression
known n t = expression (constant (Ordinal n) 1 0) (id t) no_steps

abbrev pub quoted : List ℕ → Expression
quoted t = expression (constant (Text t) 1 0) (id 7) no_steps

-- an operator, with the switch Q and the type of what it gives
abbrev pub with_q : Bool → ℕ → Expression → Operator → Expression → Expression
with_q q t a o b = then a (operate o q b) (id t)

abbrev pub calc : Expression → Operator → Expression → Expression
calc a o b = with_q false 4 a o b

abbrev pub test : Expression → Operator → Expression → Expression
test a o b = with_q false 5 a o b

abbrev pub signed : Bool → ℕ → PrefixOperator → Expression → Expression
signed q t o e = then e (prefixed o q) (id t)

abbrev pub applying : Function → Bool → Expression → ℕ → Expression
applying f q e t = then e (apply f q) (id t)

abbrev pub to : Conversion → ℕ → Expression → Expression
to c t e = then e (convert c Implied) (id t)

abbrev pub at : Expression → Expression → ℕ → Expression
at e i t = then e (index i) (id t)

abbrev pub dot : Expression → ℕ → ℕ → Expression
dot e f t = then e (field (record { 0 = f })) (id t)

abbrev pub set_of_all : List Element → ℕ → Expression
set_of_all es t = expression (set_with (elements_in es)) (id t) no_steps
  where
    elements_in : List Element → Elements
    elements_in [] = no_elements
    elements_in (e ∷ es) = elements e (elements_in es)

abbrev pub argued : List Argument → Arguments
argued [] = no_arguments
argued (a ∷ others) = arguments a (argued others)

abbrev pub called : ℕ → List Argument → ℕ → Expression
called r given t = expression (call_of (record { 0 = r }) (argued given)) (id t) no_steps

-- ---- statements

abbrev pub listed : List Statement → Statements
listed [] = no_statements
listed (s ∷ ss) = statements s (listed ss)

abbrev pub line : List Expression → Statement
line es = built_in (write (map plain es) true)

abbrev pub shown : List Expression → Statement
shown es = built_in (write (map plain es) false)

abbrev pub text : List ℕ → Statement
text t = shown (quoted t ∷ [])

abbrev pub do_call : ℕ → List Argument → Statement
do_call r given = call (called r given 9)

-- ---- rows

abbrev pub rows_at : ℕ → ℕ → Run
rows_at first count = record { first = first; count = count }

abbrev upto : ℕ → List VariableId
upto zero = []
upto (suc n) = upto n ++ record { 0 = n } ∷ []

abbrev pub body_among : List (List Statement) → ℕ → Statements
body_among [] r = no_statements
body_among (ss ∷ others) zero = listed ss
body_among (ss ∷ others) (suc r) = body_among others r

abbrev pub nothing_first : ℕ → Option FirstValue
nothing_first v = None

module _ (name : Name) where
  abbrev pub row : ℕ → Role → Variable
  row of role = record { name = name; of = id of; role = role; first_value = None }

  abbrev pub own : ℕ → Variable
  own of = row of Plain

  abbrev pub by_val : ℕ → Variable
  by_val of = row of (Parameter Value)

  abbrev pub by_var : ℕ → Variable
  by_var of = row of (Parameter Var)

  abbrev pub by_const : ℕ → Variable
  by_const of = row of (Parameter Const_)

  abbrev pub by_out : ℕ → Variable
  by_out of = row of (Parameter Out)

  abbrev pub gives : ℕ → Variable
  gives of = row of Result

  abbrev pub part : ℕ → Field
  part of = record { name = name; of = id of; visibility = Public }

  -- with so many parameters, and its variables
  abbrev pub routine : ℕ → Option ℕ → Run → Routine
  routine parameters result variables = record { name = name; kind = Procedure; unit = record { 0 = 0 }; owner = OfUnit; enclosing = None; parameters = rows_at 0 parameters; result = result_by result; variables = variables; body = None }
    where
      result_by : Option ℕ → Option TypeId
      result_by None = None
      result_by (Some t) = Some (id t)

  abbrev pub procedure : ℕ → ℕ → ℕ → Routine
  procedure parameters first count = routine parameters None (rows_at first count)

  abbrev pub function : ℕ → ℕ → ℕ → ℕ → Routine
  function t parameters first count = routine parameters (Some t) (rows_at first count)

  abbrev main_after : List Routine → List Routine
  main_after routines = routines ++ procedure 0 0 0 ∷ []

  -- the types behind the predefined ones, the fields, how many of the variables are global, the variables, and the routines but the main
  -- part
  abbrev pub core_of : List CoreType → List Field → ℕ → List Variable → List Routine → Core
  core_of types fields globals variables routines = record {
    types = predefined ++ types;
    extents = extent 1 false ∷ extent 1 false ∷ extent 2 false ∷ extent 2 false ∷ extent 4 false ∷ extent 1 false ∷ extent 1 false ∷ extent 4 true ∷ replicate 8 (extent 4 false);
    fields = fields;
    classes = [];
    interfaces = [];
    listed = [];
    methods = [];
    properties = [];
    routines = main_after routines;
    parameters = [];
    variables = variables;
    globals = upto globals;
    units = record { name = []; globals = rows_at 0 globals; initialization = Some (record { 0 = length routines }); finalization = None } ∷ [];
    exceptions = None;
  }

  -- with the bodies of all routines; each is charged 304
  abbrev pub runs : Core → List (List Statement) → Program
  runs core bodies = record { core = core; body = body_among bodies; first = nothing_first; charge = λ r. 304; stack = 1048576 }
