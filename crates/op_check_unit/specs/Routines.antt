-- Routines: their rows, and their bodies (Free Pascal Reference Guide, "Procedures and functions").
use Rattle.std.specs.Prelude.{ℕ, ◌+◌, ◌-◌, nat_le, Bool, true, false, List, [], ◌∷◌, ◌++◌, length, map, take, slice_get, slice_set, codes, Option, Some, None, if◌then◌else◌}
use Rattle.std.specs.Option.{option_flatten, option_map}
use Rattle.op_base.specs.declared.place.Place.{Place}
use Rattle.op_check_expr.specs.Scopes.{Here as Scope}
use Rattle.op_check_stmt.specs.Statement.{statements}
use Rattle.op_check_unit.specs.Declaring.{constants_declared, types_declared, variables_declared}
use Rattle.op_check_unit.specs.Headings.{form_means, head_means}
use Rattle.op_check_unit.specs.Naming.{by_type, declared, ended, is_declared, told_in, with_ahead, with_name}
use Rattle.op_check_unit.specs.Steps.{Here}
use Rattle.op_check_unit.specs.Types.{in_core}
use Rattle.op_check_unit.specs.declared.heading.Head.{Head}
use Rattle.op_check_unit.specs.declared.naming.Told.{Told}
use Rattle.op_check_unit.specs.declared.naming.Told.TheVariants as told
use Rattle.op_core.specs.Heading.{is_same_heading}
use Rattle.op_core.specs.Rows.{rows}
use Rattle.op_core.specs.Statement.{Statements as Typed}
use Rattle.op_core.specs.declared.ids.RoutineId.{RoutineId}
use Rattle.op_core.specs.declared.ids.Run.{Run}
use Rattle.op_core.specs.declared.ids.TypeId.{TypeId}
use Rattle.op_core.specs.declared.ids.UnitId.{UnitId}
use Rattle.op_core.specs.declared.program.Core.{Core}
use Rattle.op_core.specs.declared.routine.Owner.TheVariants.{Unit as OfUnit}
use Rattle.op_core.specs.declared.routine.Parameter.{Parameter}
use Rattle.op_core.specs.declared.routine.Role.{Role}
use Rattle.op_core.specs.declared.routine.Role.TheVariants.{Parameter as ParameterRole, Result}
use Rattle.op_core.specs.declared.routine.Routine.{Routine}
use Rattle.op_core.specs.declared.routine.Variable.{Variable as VariableRow}
use Rattle.op_judgement.specs.Judgement.{Judgement, by_test, fine, refused, untyped}
use Rattle.op_judgement.specs.declared.rules.Feature.TheVariants.{NestedRoutines}
use Rattle.op_judgement.specs.declared.rules.LanguageRule.TheVariants.{DeclaredTwice, HeadingDiffers, LocalsTooLarge, NotInProfile, UnknownName, WrongKindOfName}
use Rattle.op_judgement.specs.Steps.{Step, breaks, changes, each_declaration, followed, gives, judged, next, onward, silent}
use Rattle.op_tree.specs.Declaration.{Body, forward, body, Declaration, constants, types, variables, heading, routine, Declarations, Heading}
use Rattle.op_tree.specs.Statement.{Statements}
use Rattle.op_tree.specs.declared.heading.Directive.{Directive}
use Rattle.op_tree.specs.declared.position.Name.{Name}
use Rattle.op_types.specs.Names.{Named, lower, meaning_of}
use Rattle.op_types.specs.declared.visible.Meaning.{Meaning}
use Rattle.op_types.specs.declared.visible.Meaning.TheVariants.{Variable, Routine as RoutineName, Spoiled}

-- ---- rows

-- a routine of a unit, with its variables and without its body
abbrev pub routine_row : UnitId → Name → Head → Run → Routine
routine_row unit n x run = record {
  name = n;
  kind = x.kind;
  unit = unit;
  owner = OfUnit;
  enclosing = None;
  parameters = x.parameters;
  result = x.result;
  variables = run;
  body = None;
}

abbrev pub no_rows : Run
no_rows = record { first = 0; count = 0 }

-- the number of the next row of the table of routines
abbrev pub next_routine : Here → RoutineId
next_routine h = record { 0 = length h.core.routines }

-- a routine more, with the place where its body is awaited from
abbrev pub with_routine : Name → Head → Option Place → Here → Here
with_routine n x place h = record h { core = record h.core { routines = h.core.routines ++ routine_row h.unit n x no_rows ∷ [] }; awaited = h.awaited ++ place ∷ [] }

-- ---- variables that a body has by itself

-- a variable of this role, under this name
abbrev pub with_local : Name → TypeId → Role → Here → Here
with_local n of role h =
    with_name n (Variable (record { 0 = length h.core.variables }) true)
    (in_core (record h.core { variables = h.core.variables ++ record { name = n; of = of; role = role; first_value = None } ∷ [] }) h)

abbrev pub parameter_variable : Parameter → VariableRow
parameter_variable p = record { name = p.name; of = p.of; role = ParameterRole p.mode; first_value = None }

-- the names of parameters, whose variables are numbered from n on
abbrev pub parameter_names : ℕ → List Parameter → List Named
parameter_names n [] = []
parameter_names n (p ∷ ps) = record { name = lower p.name.text; meaning = Variable (record { 0 = n }) true } ∷ parameter_names (n + 1) ps

abbrev pub with_parameters : List Parameter → Here → Here
with_parameters ps h = record h {
  core = record h.core { variables = h.core.variables ++ map parameter_variable ps };
  names = h.names ++ parameter_names (length h.core.variables) ps;
  count = h.count + length ps;
}

-- the name Result, at the place of the function's
abbrev pub result_name : Name → Name
result_name n = record { text = codes "Result"; position = n.position }

-- a function has its result, and its own name stands for it there
abbrev pub with_result : RoutineId → Name → Option TypeId → Here → Here
with_result id n None h = h
with_result id n (Some of) h = with_name n (RoutineName id) (with_local (result_name n) of Result h)

-- where a body begins
abbrev pub entered : RoutineId → Name → Head → Here → Here
entered id n x h =
    with_result id n x.result (with_parameters (rows h.core.parameters x.parameters) (record h { first = length h.names; count = 0; own = None; bytes = 0; routine = Some id }))

-- ---- bodies

-- a routine in a routine is left out
abbrev pub local_declared : Declaration → Here → Step Here (Unit {0})
local_declared (constants cs) h = constants_declared cs h
local_declared (types ts) h = types_declared ts h
local_declared (variables vs) h = variables_declared vs h
local_declared (heading m) h = gives tt h
local_declared (routine x ds b) h = judged h (refused (NotInProfile NestedRoutines) x.name.position.place)

abbrev pub locals_declared : Declarations → Here → Step Here (Unit {0})
locals_declared ds h = each_declaration local_declared ds h

-- the most bytes of a routine's locals
abbrev pub most_bytes : ℕ
most_bytes = 1048576

abbrev pub locals_fit : Name → Here → Step Here (Unit {0})
locals_fit n h = judged h (by_test LocalsTooLarge n.position.place (fine tt) (nat_le h.bytes most_bytes))

-- the row, with all variables from the first one on
abbrev pub with_variables : RoutineId → Name → Head → ℕ → Here → Here
with_variables id n x first h =
    in_core (record h.core { routines = slice_set h.core.routines id.0 (routine_row h.unit n x (record { first = first; count = length h.core.variables - first })) }) h

abbrev pub scope_of : RoutineId → Here → Scope
scope_of id h = record { core = h.core; visible = h.names; routine = Some id; around = [] }

abbrev pub with_body : RoutineId → Option Typed → Here → Here
with_body id None h = h
with_body id (Some ss) h = record h { bodies = h.bodies ++ (id, ss) ∷ [] }

-- the statements of a routine
abbrev pub statements_mean : RoutineId → Statements → Here → Step Here (Unit {0})
statements_mean id ss h = changes (judged h (statements (scope_of id h) ss)) (with_body id)

-- as it was before, but for what was put into tables
abbrev pub left : Here → Here → Here
left old h = record h { names = take (length old.names) h.names; first = old.first; count = old.count; own = old.own; bytes = old.bytes; routine = old.routine }

abbrev pub inner : RoutineId → Name → Head → ℕ → Declarations → Statements → Here → Step Here (Unit {0})
inner id n x first ds ss h =
    next (locals_declared ds h) (λ h. next (locals_fit n h) (λ h. statements_mean id ss (with_variables id n x first h)))

-- the locals and the statements
abbrev pub block_means : RoutineId → Name → Head → Declarations → Statements → Here → Step Here (Unit {0})
block_means id n x ds ss h = next (inner id n x (length h.core.variables) ds ss (entered id n x h)) (λ i. gives tt (left h i))

-- ---- declarations

abbrev pub body_means : RoutineId → Name → Head → Body → Here → Step Here (Unit {0})
body_means id n x forward h = gives tt h
body_means id n x (body ds ss) h = block_means id n x ds ss h

-- where a body is awaited from
abbrev pub awaits : Body → Name → Option Place
awaits forward n = Some n.position.place
awaits (body ds ss) n = None

-- a routine that is not declared ahead
abbrev pub first_declared : Name → Head → Body → Here → Step Here (Unit {0})
first_declared n x b h =
    let id = next_routine h in
    next (declared n (RoutineName id) (with_routine n x (awaits b n) h)) (body_means id n x b)

-- the routine has its body
abbrev pub completed : RoutineId → Here → Here
completed id h = record h { awaited = slice_set h.awaited id.0 None }

abbrev pub is_heading_of : Core → Routine → Option Routine → Bool
is_heading_of core a None = false
is_heading_of core a (Some b) = is_same_heading core b a

-- the body of a routine that is declared ahead has the same heading
abbrev pub same_means : RoutineId → Name → Head → Here → Judgement (Unit {0})
same_means id n x h = by_test HeadingDiffers n.position.place (fine tt) (is_heading_of h.core (routine_row h.unit n x no_rows) (slice_get h.core.routines id.0))

-- The body of a routine that is declared ahead. A second declaration ahead breaks rule 14.
abbrev pub ahead_declared : RoutineId → Name → Option Head → Body → Here → Step Here (Unit {0})
ahead_declared id n x forward h = breaks DeclaredTwice n.position.place h
ahead_declared id n None (body ds ss) h = silent (completed id h)
ahead_declared id n (Some x) (body ds ss) h = onward (judged (completed id h) (same_means id n x h)) (λ t h. block_means id n x ds ss h)

-- the routine, if its body is awaited
abbrev pub awaited_of : List (Option Place) → RoutineId → Option RoutineId
awaited_of places id = option_map (λ place. id) (option_flatten (slice_get places id.0))

abbrev pub awaited_by : List (Option Place) → Option Meaning → Option RoutineId
awaited_by places (Some (RoutineName id)) = awaited_of places id
awaited_by places _ = None

-- the routine of this name that is declared ahead in this scope
abbrev pub awaited_named : Here → Name → Option RoutineId
awaited_named h n = if is_declared h n then awaited_by h.awaited (meaning_of h.names (lower n.text)) else None

abbrev pub by_standing : Option RoutineId → Name → Option Head → Body → Here → Step Here (Unit {0})
by_standing (Some id) n x b h = ahead_declared id n x b h
by_standing None n None b h = declared n Spoiled h
by_standing None n (Some x) b h = first_declared n x b h

abbrev pub both_typed : Option (Unit {0}) → Option Head → Option Head
both_typed None x = None
both_typed (Some t) x = x

-- a routine by what its heading says, none where that is broken
abbrev pub headed : Name → Option Head → Body → Here → Step Here (Unit {0})
headed n x b h = by_standing (awaited_named h n) n x b h

abbrev pub plain_declared : Heading → List Directive → Body → Here → Step Here (Unit {0})
plain_declared x ds b h =
    followed (judged (with_ahead x.name h) (form_means x ds)) (λ t h. followed (head_means x h) (λ u h. headed x.name (both_typed t u) b (ended h)))

-- a method, whose class is no class here
abbrev pub class_meant : Core → Place → Told → Judgement (Unit {0})
class_meant core place told.Unknown = refused UnknownName place
class_meant core place told.Spoiled = untyped
class_meant core place (told.Known of) = by_type core place of (refused WrongKindOfName place)
class_meant core place (told.LeftOutType feature) = refused (NotInProfile feature) place
class_meant core place _ = refused WrongKindOfName place

abbrev pub routine_by : Option Name → Heading → List Directive → Body → Here → Step Here (Unit {0})
routine_by None x ds b h = plain_declared x ds b h
routine_by (Some c) x ds b h = judged h (class_meant h.core c.position.place (told_in h.names (lower c.text)))

abbrev pub routine_declared : Heading → List Directive → Body → Here → Step Here (Unit {0})
routine_declared x ds b h = routine_by x.class x ds b h
