-- A test of whether a program is of the class that the theorems of the compiler are about: it works on numbers, sets, records and arrays
-- with bounds, and on texts only as they are written in it; its routines stand in no other one, nothing is read, and nothing is raised. Each node of a tree
-- is asked once for all of it. `texts` is what is asked of a text. (Free Pascal Reference Guide, "Types", "Expressions" and "Statements".)
use Rattle.std.specs.Prelude.{ℕ, ◌^◌, Bool, true, false, not, ◌&&◌, Option, Some, None, nat_le, nat_lt, List, length}
use Rattle.std.specs.List.{list_all}
use Rattle.op_core.specs.Expression.{Expression, expression, Root, constant, variable, object, call, construct, set, eof, eoln, Steps, no_steps, steps, Action, convert, bracket, field, index, method, prefixed, operate, is, apply, copy, Elements, no_elements, elements, Element, one, range, Arguments, no_arguments, arguments, Argument, value, place, array, listed}
use Rattle.op_core.specs.Statement.{Item, plain, padded, BuiltIn, write, read, count, set_length, include, exclude, val, str, free, destroy, Statement, empty, block, if_then, if_else, case_of, while_do, repeat_until, for_to, for_in, try_finally, try_on, try_on_else, raise, reraise, call as call_statement, assign, exit, exit_with, break, continue, halt, built_in, Statements, no_statements, statements, Branches, no_branches, branches, stmts_of}
use Rattle.op_core.specs.declared.constant.Const.{Const}
use Rattle.op_core.specs.declared.constant.Const.TheVariants.{Ordinal, Text, Set, Nil}
use Rattle.op_core.specs.declared.ids.TypeId.{TypeId}
use Rattle.op_core.specs.declared.program.Core.{Core}
use Rattle.op_core.specs.declared.program.Unit.{Unit as UnitRow}
use Rattle.op_core.specs.declared.routine.Body.{Body}
use Rattle.op_core.specs.declared.routine.Role.{Role}
use Rattle.op_core.specs.declared.routine.Role.TheVariants.{Object, Handler}
use Rattle.op_core.specs.declared.routine.Routine.{Routine}
use Rattle.op_core.specs.declared.routine.Variable.{Variable}
use Rattle.op_meaning.specs.Every.{is_text, text_after}
use Rattle.op_meaning.specs.Shapes.{is_managed, no_type}
use Rattle.op_sizes.specs.Written.{is_implied}
use Rattle.op_typing.specs.Simple.{asks_text}
use Rattle.op_typing.specs.SimpleTests.{begins_itself, is_counted, is_none, is_of_unit, is_procedure, is_short_text, is_solid_parameter, is_solid_type}
use Rattle.op_core.specs.declared.statement.Label.{Label}

-- ---- expressions: the type of each part that comes out is solid, but of a text that is written there

abbrev pub is_plain_constant : (List ℕ → Bool) → Core → Const → TypeId → Bool
is_plain_constant texts core (Ordinal n) of = is_solid_type core of
is_plain_constant texts core (Text bytes) of = texts bytes
is_plain_constant texts core (Set members) of = is_solid_type core of
is_plain_constant texts core Nil of = is_solid_type core of

-- no conversion that is not written stands behind another one; `implied` says whether one stands in front
abbrev pub are_apart : (implied : Bool) → Steps → Bool
are_apart implied no_steps = true
are_apart implied (steps action next others) = not (implied && is_implied action) && are_apart (is_implied action) others

abbrev mutual
  pub is_plain_expression : (List ℕ → Bool) → Core → Expression → Bool
  is_plain_expression texts core (expression root of others) = is_plain_root texts core root of && (are_apart false others && are_plain_steps texts core (is_text root) others)

  -- a constant stands for a node of the text at least
  pub is_plain_root : (List ℕ → Bool) → Core → Root → TypeId → Bool
  is_plain_root texts core (constant v nodes words) of = nat_lt 0 nodes && is_plain_constant texts core v of
  is_plain_root texts core (object id) of = false
  is_plain_root texts core (call id given) of = is_solid_type core of && are_plain_arguments texts core given
  is_plain_root texts core (construct c id given) of = false
  is_plain_root texts core (set es) of = is_solid_type core of && are_plain_elements texts core es
  is_plain_root texts core (variable id) of = is_solid_type core of
  is_plain_root texts core eof of = false
  is_plain_root texts core eoln of = false

  pub are_plain_steps : (List ℕ → Bool) → Core → Bool → Steps → Bool
  are_plain_steps texts core text no_steps = true
  are_plain_steps texts core text (steps action next others) = is_plain_step texts core text action next && are_plain_steps texts core (text_after text action) others

  -- behind a text that is written there, and behind any other value or place
  pub is_plain_step : (List ℕ → Bool) → Core → Bool → Action → TypeId → Bool
  is_plain_step texts core true (convert conversion origin) next = false
  is_plain_step texts core true bracket next = true
  is_plain_step texts core true (field id) next = false
  is_plain_step texts core true (index e) next = is_solid_type core next && is_plain_expression texts core e
  is_plain_step texts core true (method id dispatch given) next = false
  is_plain_step texts core true (prefixed operator checked) next = false
  is_plain_step texts core true (operate operator checked e) next = false
  is_plain_step texts core true (is class) next = false
  is_plain_step texts core true (apply function checked) next = asks_text function && is_solid_type core next
  is_plain_step texts core true (copy e e') next = false
  is_plain_step texts core false (convert conversion origin) next = is_solid_type core next
  is_plain_step texts core false bracket next = is_solid_type core next
  is_plain_step texts core false (field id) next = is_solid_type core next
  is_plain_step texts core false (index e) next = is_solid_type core next && is_plain_expression texts core e
  is_plain_step texts core false (method id dispatch given) next = false
  is_plain_step texts core false (prefixed operator checked) next = is_solid_type core next
  is_plain_step texts core false (operate operator checked e) next = is_solid_type core next && is_plain_expression texts core e
  is_plain_step texts core false (is class) next = is_solid_type core next
  is_plain_step texts core false (apply function checked) next = is_solid_type core next
  is_plain_step texts core false (copy e e') next = is_solid_type core next

  pub are_plain_elements : (List ℕ → Bool) → Core → Elements → Bool
  are_plain_elements texts core no_elements = true
  are_plain_elements texts core (elements e es) = is_plain_element texts core e && are_plain_elements texts core es

  pub is_plain_element : (List ℕ → Bool) → Core → Element → Bool
  is_plain_element texts core (one e) = is_plain_expression texts core e
  is_plain_element texts core (range e e') = is_plain_expression texts core e && is_plain_expression texts core e'

  pub are_plain_arguments : (List ℕ → Bool) → Core → Arguments → Bool
  are_plain_arguments texts core no_arguments = true
  are_plain_arguments texts core (arguments a others) = is_plain_argument texts core a && are_plain_arguments texts core others

  pub is_plain_argument : (List ℕ → Bool) → Core → Argument → Bool
  is_plain_argument texts core (value e) = is_plain_expression texts core e
  is_plain_argument texts core (place e) = is_plain_expression texts core e
  is_plain_argument texts core (array e) = false
  is_plain_argument texts core (listed of es) = false

-- ---- statements: no exception is raised or handled, no instance is ended, nothing is read, and no text is made

abbrev pub is_plain_item : (List ℕ → Bool) → Core → Item → Bool
is_plain_item texts core (plain e) = is_plain_expression texts core e
is_plain_item texts core (padded e width) = is_plain_expression texts core e && is_plain_expression texts core width

-- an amount or a status that is not written is a constant that counts for nothing
abbrev pub is_plain_bare : (List ℕ → Bool) → Core → Root → TypeId → Bool
is_plain_bare texts core (constant v nodes words) of = is_plain_constant texts core v of
is_plain_bare texts core (variable id) of = is_plain_root texts core (variable id) of
is_plain_bare texts core (object id) of = is_plain_root texts core (object id) of
is_plain_bare texts core (call id given) of = is_plain_root texts core (call id given) of
is_plain_bare texts core (construct c id given) of = is_plain_root texts core (construct c id given) of
is_plain_bare texts core (set es) of = is_plain_root texts core (set es) of
is_plain_bare texts core eof of = is_plain_root texts core eof of
is_plain_bare texts core eoln of = is_plain_root texts core eoln of

abbrev pub is_plain_amount : (List ℕ → Bool) → Core → Expression → Bool
is_plain_amount texts core (expression root of no_steps) = is_plain_bare texts core root of
is_plain_amount texts core (expression root of (steps action next others)) = is_plain_expression texts core (expression root of (steps action next others))

abbrev pub is_plain_built_in : (List ℕ → Bool) → Core → BuiltIn → Bool
is_plain_built_in texts core (write items ends_line) = list_all (is_plain_item texts core) items
is_plain_built_in texts core (read targets ends_line) = false
is_plain_built_in texts core (count direction target amount checked) = is_plain_expression texts core target.place && is_plain_amount texts core amount
is_plain_built_in texts core (set_length target size) = false
is_plain_built_in texts core (include s e) = is_plain_expression texts core s && is_plain_expression texts core e
is_plain_built_in texts core (exclude s e) = is_plain_expression texts core s && is_plain_expression texts core e
is_plain_built_in texts core (val e target code) = false
is_plain_built_in texts core (str item target) = false
is_plain_built_in texts core (free e empties) = false
is_plain_built_in texts core (destroy e) = false

-- each label stands for a node of the text at least, and there is one
abbrev pub are_nodes : List Label → Bool
are_nodes labels = list_all (λ l. nat_lt 0 l.nodes) labels

abbrev pub are_plain_labels : List Label → Bool
are_plain_labels labels = nat_lt 0 (length labels) && are_nodes labels

abbrev mutual
  pub is_plain_statement : (List ℕ → Bool) → Core → Statement → Bool
  is_plain_statement texts core empty = true
  is_plain_statement texts core (block ss) = are_plain_statements texts core ss
  is_plain_statement texts core (if_then e s) = is_plain_expression texts core e && is_plain_statement texts core s
  is_plain_statement texts core (if_else e s t) = is_plain_expression texts core e && (is_plain_statement texts core s && is_plain_statement texts core t)
  is_plain_statement texts core (case_of e bs ss) = is_plain_expression texts core e && (are_plain_branches texts core bs && are_plain_statements texts core ss)
  is_plain_statement texts core (while_do e s) = is_plain_expression texts core e && is_plain_statement texts core s
  is_plain_statement texts core (repeat_until ss e) = is_plain_expression texts core e && are_plain_statements texts core ss
  is_plain_statement texts core (for_to id e direction f s) = is_plain_expression texts core e && (is_plain_expression texts core f && is_plain_statement texts core s)
  is_plain_statement texts core (for_in id store e s) = is_plain_expression texts core e && is_plain_statement texts core s
  is_plain_statement texts core (try_finally ss ts) = are_plain_statements texts core ss && are_plain_statements texts core ts
  is_plain_statement texts core (try_on ss hs) = false
  is_plain_statement texts core (try_on_else ss hs ts) = false
  is_plain_statement texts core (raise e) = false
  is_plain_statement texts core reraise = false
  is_plain_statement texts core (call_statement e) = is_plain_expression texts core e
  is_plain_statement texts core (assign target e) = is_plain_expression texts core target && is_plain_expression texts core e
  is_plain_statement texts core exit = true
  is_plain_statement texts core (exit_with e) = is_plain_expression texts core e
  is_plain_statement texts core break = true
  is_plain_statement texts core continue = true
  is_plain_statement texts core (halt e) = is_plain_amount texts core e
  is_plain_statement texts core (built_in action) = is_plain_built_in texts core action

  pub are_plain_statements : (List ℕ → Bool) → Core → Statements → Bool
  are_plain_statements texts core no_statements = true
  are_plain_statements texts core (statements s ss) = is_plain_statement texts core s && are_plain_statements texts core ss

  pub are_plain_branches : (List ℕ → Bool) → Core → Branches → Bool
  are_plain_branches texts core no_branches = true
  are_plain_branches texts core (branches labels s bs) = are_plain_labels labels && (is_plain_statement texts core s && are_plain_branches texts core bs)

-- ---- tables

-- also of what a record or an array is made of nothing is managed
abbrev pub is_plain_type : Core → TypeId → Bool
is_plain_type core of = is_solid_type core of && not (is_managed core of)

-- no object of a method, and nothing that a handler declares
abbrev pub is_plain_role : Role → Bool
is_plain_role Object = false
is_plain_role Handler = false
is_plain_role _ = true

abbrev pub is_plain_variable : Core → Variable → Bool
is_plain_variable core v = is_plain_role v.role && (begins_itself v && is_plain_type core v.of)

abbrev pub is_plain_result : Core → Option TypeId → Bool
is_plain_result core None = true
is_plain_result core (Some of) = is_plain_type core of

abbrev pub is_plain_body : (List ℕ → Bool) → Core → Option Body → Bool
is_plain_body texts core None = true
is_plain_body texts core (Some b) = are_plain_statements texts core (stmts_of b.statements.items)

-- a routine has no more parameters
abbrev pub takes_few : ℕ → Bool
takes_few parameters = nat_le parameters 64

abbrev pub is_plain_routine : (List ℕ → Bool) → Core → Routine → Bool
is_plain_routine texts core x = is_of_unit x.owner && (is_none x.enclosing && (is_plain_result core x.result && (takes_few x.parameters.count && is_plain_body texts core x.body)))

-- its parts are there, if it has some, and give nothing
abbrev pub is_plain_unit : Core → UnitRow → Bool
is_plain_unit core u = is_procedure core u.initialization && is_procedure core u.finalization

-- the closing looks through so many finalization parts, which is more than a program may have units
abbrev pub most_units : ℕ
most_units = 1024

unfoldable pub is_plain_by : (List ℕ → Bool) → Core → Bool
is_plain_by texts core =
    is_none core.exceptions
    && (not (is_managed core no_type)
    && (list_all (is_counted core) core.types
    && (list_all (is_solid_parameter core) core.parameters
    && (list_all (is_plain_variable core) core.variables
    && (list_all (is_plain_routine texts core) core.routines
    && (list_all (is_plain_unit core) core.units
    && nat_le (length core.units) most_units))))))

-- its texts have lengths of 31 bits, and are made of bytes
abbrev pub is_plain_program : Core → Bool
is_plain_program core = is_plain_by is_short_text core

-- that it is made of bytes is so of each text of a program, and goes without saying
abbrev pub is_short : List ℕ → Bool
is_short text = nat_lt (length text) (2 ^ 31)
