-- How programs are written down whose runs are computed, and what is seen of a run.
use Rattle.std.specs.Prelude.{ℕ, zero, suc, ℤ, Bool, true, false, ◌&&◌, nat_le, List, [], ◌∷◌, ◌++◌, length, Option, Some, None}
use Rattle.std.specs.Int.{int_wrap}
use Rattle.op_core.specs.declared.constant.Const.TheVariants.{Nil as NilOf}
use Rattle.op_core.specs.Expression.{Expression, expression, constant, object, no_steps, Argument, listed as of_list, Expressions}
use Rattle.op_core.specs.Initial.{FirstValue}
use Rattle.op_core.specs.Statement.{Statements, no_statements, Target}
use Rattle.op_core.specs.Sizes.{extent_by, extent_of}
use Rattle.op_core.specs.Types.{predefined, id}
use Rattle.op_core.specs.declared.types.Extent.{Extent}
use Rattle.op_core.specs.declared.class.Binding.{Binding}
use Rattle.op_core.specs.declared.class.Class.{Class as ClassRow}
use Rattle.op_core.specs.declared.class.Interface.{Interface as Face}
use Rattle.op_core.specs.declared.class.InterfaceKind.TheVariants.{Com}
use Rattle.op_core.specs.declared.class.Method.{Method}
use Rattle.op_core.specs.declared.ids.ClassId.{ClassId}
use Rattle.op_core.specs.declared.ids.InterfaceId.{InterfaceId}
use Rattle.op_core.specs.declared.ids.RoutineId.{RoutineId}
use Rattle.op_core.specs.declared.ids.TypeId.{TypeId}
use Rattle.op_core.specs.declared.ids.VariableId.{VariableId}
use Rattle.op_core.specs.declared.operation.Conversion.{Conversion}
use Rattle.op_core.specs.declared.program.Core.{Core}
use Rattle.op_core.specs.declared.program.ExceptionClasses.{ExceptionClasses}
use Rattle.op_core.specs.declared.routine.Owner.{Owner}
use Rattle.op_core.specs.declared.routine.Role.{Role}
use Rattle.op_core.specs.declared.routine.Routine.{Routine}
use Rattle.op_core.specs.declared.routine.Variable.{Variable}
use Rattle.op_core.specs.declared.statement.Label.{Label}
use Rattle.op_core.specs.declared.types.CoreType.{CoreType}
use Rattle.op_core.specs.declared.types.Field.{Field}
use Rattle.op_meaning.proofs.Programs.{rows_at, procedure}
use Rattle.op_semantics.specs.Actions.{perform}
use Rattle.op_semantics.specs.Demands.{block}
use Rattle.op_semantics.specs.Frames.{Program, State}
use Rattle.op_semantics.specs.Holding.{each, any_below}
use Rattle.op_semantics.specs.Machine.{step, step_by, stepped, acted, done, do_item, do_task}
use Rattle.op_meaning.specs.Sets.{bits_below}
use Rattle.op_semantics.specs.Spots.{spots_from}
use Rattle.op_semantics.specs.Source.{Event, Asked, LetGo, shows}
use Rattle.op_semantics.specs.Start.{start}
use Rattle.op_meaning.specs.Texts.{decimal_by, order_of, digits_from, denoted_from}
use Rattle.op_semantics.specs.World.{Ending, Running, Ended}
use Rattle.op_tree.specs.declared.class.Visibility.TheVariants.{Public}
use Rattle.op_tree.specs.declared.heading.RoutineKind.{RoutineKind}
use Rattle.op_tree.specs.declared.position.Name.{Name}

-- ---- extents: what is kept for each type, in order

abbrev extents_behind : Core → List Extent → List CoreType → List Extent
extents_behind core so_far [] = so_far
extents_behind core so_far (t ∷ ts) = extents_behind core (so_far ++ extent_by (extent_of (record core { extents = so_far })) core (Some t) ∷ []) ts

abbrev extents_of : Core → List CoreType → List Extent
extents_of core types = extents_behind core [] types

-- ---- what is seen of a run: the blocks that are asked for and the names that are let go, in order, what is written, and how it ends

pub record Outcome : Type 0 where
  pub blocks : List Event
  pub output : List ℕ
  pub errors : List ℕ
  pub status : Option ℕ
  -- no step asks and lets go, or does one of these twice
  pub one : Bool

abbrev pub ends_with : List Event → List ℕ → List ℕ → ℕ → Outcome
ends_with blocks output errors status = record { blocks = blocks; output = output; errors = errors; status = Some status; one = true }

-- a block of so many bytes, and an instance of so many with its slot
abbrev pub asks : ℕ → Event
asks bytes = Asked (block bytes false)

abbrev pub makes : ℕ → Event
makes bytes = Asked (block bytes true)

abbrev pub frees : ℕ → Event
frees name = LetGo name

abbrev status_of : Ending → Option ℕ
status_of Running = None
status_of (Ended n) = Some n

abbrev blocks_among : List Event → List Event
blocks_among [] = []
blocks_among (Asked d ∷ es) = Asked d ∷ blocks_among es
blocks_among (LetGo n ∷ es) = LetGo n ∷ blocks_among es
blocks_among (e ∷ es) = blocks_among es

abbrev with_blocks : List Event → Outcome → Outcome
with_blocks es o = record o { blocks = es ++ o.blocks; one = nat_le (length es) 1 && o.one }

abbrev at_end : State → Outcome
at_end s = record { blocks = []; output = s.world.output; errors = s.world.errors; status = status_of s.world.ending; one = true }

abbrev goes_on : State → Outcome → Ending → Outcome
goes_on s rest (Ended status) = at_end s
goes_on s rest Running = rest

unfoldable outcome_from : ℕ → Program → State → Outcome
outcome_from zero p s = at_end s
outcome_from (suc n) p s = goes_on s (with_blocks (blocks_among (shows p s)) (outcome_from n p (step p s))) s.world.ending

-- within so many steps, by the input
unfoldable pub outcome : ℕ → Program → List ℕ → Outcome
unfolding outcome_from step step_by stepped acted done do_item do_task perform bits_below decimal_by int_wrap each any_below spots_from order_of digits_from denoted_from
outcome n p input = outcome_from n p (start p input)

-- ---- rows

abbrev pub variable_id : ℕ → VariableId
variable_id n = record { 0 = n }

abbrev pub routine_id : ℕ → RoutineId
routine_id n = record { 0 = n }

abbrev pub class_id : ℕ → ClassId
class_id n = record { 0 = n }

abbrev pub interface_id : ℕ → InterfaceId
interface_id n = record { 0 = n }

abbrev pub obj : ℕ → ℕ → Expression
obj v t = expression (object (variable_id v)) (id t) no_steps

-- nil
abbrev pub nothing : Expression
nothing = expression (constant NilOf 1 0) (id 8) no_steps

abbrev pub target_at : Expression → Conversion → Target
target_at e c = record { place = e; store = c }

abbrev pub listed_as : TypeId → Expressions → Argument
listed_as of es = of_list of es

abbrev pub label : ℤ → ℤ → Label
label a b = record { first = a; last = b; nodes = 1; words = 0 }

abbrev pub row : Name → ℕ → Role → Option FirstValue → Variable × Option FirstValue
row name of role first = (record { name = name; of = id of; role = role; first_value = None }, first)

abbrev firsts : List (Variable × Option FirstValue) → ℕ → Option FirstValue
firsts [] v = None
firsts (x ∷ xs) zero = x.1
firsts (x ∷ xs) (suc v) = firsts xs v

abbrev rows_in : List (Variable × Option FirstValue) → List Variable
rows_in [] = []
rows_in (x ∷ xs) = x.0 ∷ rows_in xs

abbrev typed_by : Option ℕ → Option TypeId
typed_by None = None
typed_by (Some t) = Some (id t)

abbrev pub routine_row : Name → List ℕ → RoutineKind → Owner → ℕ → Option ℕ → ℕ → ℕ → Routine
routine_row name text kind owner parameters result first count = record { name = record name { text = text }; kind = kind; unit = record { 0 = 0 }; owner = owner; enclosing = None; parameters = rows_at 0 parameters; result = typed_by result; variables = rows_at first count; body = None }

abbrev pub class_row : List ℕ → ℕ → Option ClassId → ℕ → ℕ → ℕ → ℕ → ℕ → ℕ → ClassRow
class_row said of above first_field fields first_method methods first_listed listed = record {
  name = said;
  of = id of;
  unit = record { 0 = 0 };
  ancestor = above;
  interfaces = rows_at first_listed listed;
  fields = rows_at first_field fields;
  methods = rows_at first_method methods;
  properties = rows_at 0 0;
  complete = true;
}

abbrev pub method_row : ℕ → Binding → Bool → Method
method_row r binding is_abstract = record { routine = routine_id r; visibility = Public; binding = binding; is_abstract = is_abstract }

abbrev pub interface_row : List ℕ → ℕ → Option InterfaceId → ℕ → ℕ → Face
interface_row said of above first_method methods = record { name = said; of = id of; unit = record { 0 = 0 }; kind = Com; ancestor = above; methods = rows_at first_method methods; complete = true }

abbrev pub program : Name → List CoreType → List Field → List (Variable × Option FirstValue) → List Routine → List ClassRow → List Face → List Method → List InterfaceId → List VariableId → Option ExceptionClasses → List Statements → Program
program name types fields rows routines classes interfaces methods listed globals exceptions bodies = record {
  core = core;
  body = among bodies;
  first = firsts rows;
  charge = λ r. 304;
  stack = 1048576;
}
  where
    bare : Core
    bare = record {
      types = predefined ++ types;
      extents = [];
      fields = fields;
      classes = classes;
      interfaces = interfaces;
      listed = listed;
      methods = methods;
      properties = [];
      routines = routines ++ procedure name 0 0 0 ∷ [];
      parameters = [];
      variables = rows_in rows;
      globals = globals;
      units = record { name = []; globals = rows_at 0 (length globals); initialization = Some (routine_id (length routines)); finalization = None } ∷ [];
      exceptions = exceptions;
    }

    core : Core
    core = record bare { extents = (extents_of bare (predefined ++ types)) }

    among : List Statements → ℕ → Statements
    among [] r = no_statements
    among (ss ∷ others) zero = ss
    among (ss ∷ others) (suc r) = among others r
