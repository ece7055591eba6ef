-- Whole programs and their units (Free Pascal Reference Guide, "Programs, units, blocks"). First the interface parts of all units are declared,
-- each behind those that it uses, and then the implementation parts in the order of units. So units may use each other, and each sees of the
-- others what their interface parts declare.
use Rattle.std.specs.Prelude.{ℕ, ◌+◌, ◌-◌, nat_eq, Bool, false, List, [], ◌∷◌, ◌++◌, length, map, replicate, slice_get, slice_set, take, Option, Some, None, if◌then◌else◌}
use Rattle.op_base.specs.declared.place.Place.{Place}
use Rattle.op_check_unit.specs.Declaring.{constants_declared, globals_fit, types_declared, variables_declared, with_bytes}
use Rattle.op_check_unit.specs.Interfaces.{interface_order, unit_at, unit_named}
use Rattle.op_check_unit.specs.Routines.{next_routine, no_rows, routine_declared, statements_mean, with_routine}
use Rattle.op_check_unit.specs.Steps.{Given, Here, unless_faulty}
use Rattle.op_check_unit.specs.System.{beginning}
use Rattle.op_check_unit.specs.Uses.{exported, opened, put_back, put_apart, uses_mean, with_own}
use Rattle.op_check_unit.specs.declared.heading.Head.{Head}
use Rattle.op_check_unit.specs.declared.uses.Export.{Export}
use Rattle.op_core.specs.Faults.{Faults, both, none}
use Rattle.op_core.specs.Sizes.{extent_of}
use Rattle.op_core.specs.declared.ids.RoutineId.{RoutineId}
use Rattle.op_core.specs.declared.ids.Run.{Run}
use Rattle.op_core.specs.declared.ids.UnitId.{UnitId}
use Rattle.op_core.specs.declared.ids.VariableId.{VariableId}
use Rattle.op_core.specs.declared.program.Unit.{Unit as Unit'}
use Rattle.op_core.specs.declared.routine.Routine.{Routine}
use Rattle.op_core.specs.declared.routine.Variable.{Variable}
use Rattle.op_judgement.specs.Given as made
use Rattle.op_judgement.specs.Judgement.{Judgement, fine, of_two, refused}
use Rattle.op_judgement.specs.declared.rules.LanguageRule.TheVariants.{NoBody, OtherFile}
use Rattle.op_judgement.specs.Steps.{Step, changes, done, each, each_declaration, gives, judged, next, onward}
use Rattle.op_tree.specs.Declaration.{Declaration, constants, types, variables, heading, routine, Declarations, forward}
use Rattle.op_tree.specs.File.{File, Program, Tail, UnitFile, program}
use Rattle.op_tree.specs.Statement.{Statements}
use Rattle.op_tree.specs.declared.file.ProgramHeading.{ProgramHeading}
use Rattle.op_tree.specs.declared.heading.RoutineKind.TheVariants.{Procedure}
use Rattle.op_tree.specs.declared.position.Name.{Name}
use Rattle.op_tree.specs.declared.position.Position.{Position}

abbrev pub with_heading : Option ProgramHeading → Here → Here
with_heading None h = opened h
with_heading (Some x) h = with_own x.name h

abbrev pub declaration_means : Declaration → Here → Step Here (Unit {0})
declaration_means (constants cs) h = constants_declared cs h
declaration_means (types ts) h = types_declared ts h
declaration_means (variables vs) h = variables_declared vs h
declaration_means (heading m) h = routine_declared m.heading m.directives forward h
declaration_means (routine x ds b) h = routine_declared x ds b h

abbrev pub all_declared : Declarations → Here → Step Here (Unit {0})
all_declared ds h = each_declaration declaration_means ds h

-- where a body is still awaited from
abbrev pub awaited_one : Option Place → Judgement (Unit {0})
awaited_one None = fine tt
awaited_one (Some place) = refused NoBody place

abbrev pub awaited : List (Option Place) → Judgement (Unit {0})
awaited [] = fine tt
awaited (p ∷ ps) = of_two (λ a b. tt) (awaited_one p) (awaited ps)

abbrev pub is_of : UnitId → Option Routine → Bool
is_of unit None = false
is_of unit (Some r) = nat_eq r.unit.0 unit.0

-- the same for the routines of one unit, where they are numbered from k on
abbrev pub awaited_in : UnitId → List Routine → ℕ → List (Option Place) → Judgement (Unit {0})
awaited_in unit rs k [] = fine tt
awaited_in unit rs k (p ∷ ps) = of_two (λ a b. tt) (awaited_one (if is_of unit (slice_get rs k) then p else None)) (awaited_in unit rs (k + 1) ps)

-- each routine of the unit has its body
abbrev pub unit_completed : Here → Step Here (Unit {0})
unit_completed h = changes (judged h (awaited_in h.unit h.core.routines 0 h.awaited)) (λ t h. h)

-- each routine has its body
abbrev pub all_completed : Here → Step Here (Unit {0})
all_completed h = changes (judged h (awaited h.awaited)) (λ t h. h)

-- ---- the parts of a unit

-- a procedure without parameters
abbrev pub main_head : Head
main_head = record { kind = Procedure; parameters = no_rows; result = None }

-- the statements of a part are a routine under the unit's name
abbrev pub part_means : Name → Option Statements → Here → Step Here (Option RoutineId)
part_means n None h = gives None h
part_means n (Some ss) h = next (statements_mean (next_routine h) ss (with_routine n main_head None h)) (gives (Some (next_routine h)))

-- the globals from this one on
abbrev pub own_globals : ℕ → Here → Run
own_globals start h = record { first = start; count = length h.core.globals - start }

-- the row of a unit, whose globals begin there
abbrev pub with_unit : ℕ → Name → Option RoutineId → Option RoutineId → Here → Here
with_unit start n initialization finalization h = record h {
  core = record h.core { units = slice_set h.core.units h.unit.0 (record { name = n.text; globals = own_globals start h; initialization = initialization; finalization = finalization }) };
}

abbrev pub parts_mean : ℕ → Name → Tail → Here → Step Here (Unit {0})
parts_mean start n t h = onward (part_means n t.initialization h) (λ a g. onward (part_means n t.finalization g) (λ b i. gives tt (with_unit start n a b i)))

-- ---- interface parts

-- what an interface part uses and declares
abbrev pub interface_means : List (Option Export) → UnitFile → Here → Step Here (Unit {0})
interface_means es u h = next (uses_mean es u.interface.uses h) (λ g. all_declared u.interface.declarations (with_own u.name g))

-- the first names alone, in no scope of a unit
abbrev pub outer : ℕ → Here → Here
outer names h = opened (record h { names = take names h.names; own = None })

-- what stands round all units is seen behind one
abbrev pub unit_left : Here → Here → Here
unit_left old h = outer (length old.names) h

-- what the interface parts declare so far, each at the number of its unit
pub record Outline : Type 0 where
  pub exports : List (Option Export)
  pub here : Here

-- in the unit of this number
abbrev pub in_unit : ℕ → Here → Here
in_unit k h = record h { unit = record { 0 = k } }

abbrev pub with_interface : ℕ → UnitFile → Outline → Outline
with_interface k u o =
    let g = done (interface_means o.exports u (in_unit k o.here)) in
    record { exports = slice_set o.exports k (Some (exported u.name g)); here = unit_left o.here (put_apart g.here) }

-- unless it is declared
abbrev pub outlined_by : ℕ → Option (Option Export) → Option UnitFile → Outline → Outline
outlined_by k (Some None) (Some u) o = with_interface k u o
outlined_by k e u o = o

abbrev pub outlined : List (List ℕ) → List File → ℕ → Outline → Outline
outlined order fs k o = outlined_by k (slice_get o.exports k) (unit_at order fs k) o

-- one behind the other
abbrev pub all_outlined : List (List ℕ) → List File → List ℕ → Outline → Outline
all_outlined order fs [] o = o
all_outlined order fs (k ∷ ks) o = all_outlined order fs ks (outlined order fs k o)

-- the rules that an interface part breaks
abbrev pub interface_faults_by : ℕ → Option (Option Export) → Option UnitFile → Outline → Faults
interface_faults_by k (Some None) (Some u) o = (done (interface_means o.exports u (in_unit k o.here))).faults
interface_faults_by k e u o = none

abbrev pub interface_faults : List (List ℕ) → List File → ℕ → Outline → Faults
interface_faults order fs k o = interface_faults_by k (slice_get o.exports k) (unit_at order fs k) o

-- those of one unit, where these are declared one behind the other
abbrev pub faults_among : List (List ℕ) → List File → List ℕ → Outline → ℕ → Faults
faults_among order fs [] o k = none
faults_among order fs (j ∷ js) o k = both (if nat_eq j k then interface_faults order fs j o else none) (faults_among order fs js (outlined order fs j o) k)

-- ---- units

-- a global of an interface part, which is counted behind those of the units before it
abbrev pub counted_global : VariableId → Option Variable → Here → Step Here (Unit {0})
counted_global v None h = gives tt h
counted_global v (Some x) h =
    globals_fit x.name.position.place (record h { core = record h.core { globals = h.core.globals ++ v ∷ [] }; bytes = with_bytes h.bytes (extent_of h.core x.of).size })

abbrev pub global_counted : VariableId → Here → Step Here (Unit {0})
global_counted v h = counted_global v (slice_get h.core.variables v.0) h

abbrev pub globals_counted : List VariableId → Here → Step Here (Unit {0})
globals_counted vs h = each global_counted vs h

-- What the implementation part uses stands in front of the unit's own scope, and behind what the interface part uses.
abbrev pub reopened : List (Option Export) → Export → UnitFile → Here → Step Here (Unit {0})
reopened es e u h =
    next (uses_mean es u.interface.uses h) (λ f. next (uses_mean es u.implementation.uses f) (λ g. gives tt (put_back e (with_own u.name g))))

-- the bodies that are still awaited behind the declarations, and the parts
abbrev pub unit_ends : ℕ → Name → Tail → Here → Step Here (Unit {0})
unit_ends start n t h = next (unit_completed h) (parts_mean start n t)

abbrev pub implementation_means : List (Option Export) → ℕ → Export → UnitFile → Here → Step Here (Unit {0})
implementation_means es start e u h =
    next (reopened es e u h) (λ g. next (all_declared u.implementation.declarations g) (unit_ends start u.name u.tail))

abbrev pub unit_declared : List (Option Export) → ℕ → Export → UnitFile → Here → Step Here (Unit {0})
unit_declared es start e u h = next (implementation_means es start e u h) (λ i. gives tt (unit_left h i))

abbrev pub unit_means : List (Option Export) → ℕ → Export → Option UnitFile → Here → Step Here (Unit {0})
unit_means es start e None h = gives tt h
unit_means es start e (Some u) h = unit_declared es start e u h

-- what stands behind the interface part of a unit, if that is declared
abbrev pub unit_completes : List File → List (Option Export) → Option Export → Here → Step Here (Unit {0})
unit_completes fs es None h = gives tt h
unit_completes fs es (Some e) h = next (globals_counted e.globals (record h { unit = e.id })) (unit_means es (length h.core.globals) e (unit_named fs e.unit))

-- behind these faults
abbrev pub faulted : {A : Type 0} → Faults → Given A → Given A
faulted f g = record { typed = g.typed; here = g.here; faults = both f g.faults }

-- The units in their order, numbered from k on, each with the rules that its interface part breaks: up to the first one that breaks any.
abbrev pub units_mean : List File → List (Option Export) → (ℕ → Faults) → ℕ → List (Option Export) → Here → Given (Unit {0})
units_mean fs es faults k [] h = made.gives tt h
units_mean fs es faults k (e ∷ rest) h = unless_faulty (faulted (faults k) (done (unit_completes fs es e h))) (units_mean fs es faults (k + 1) rest)

-- ---- the program

-- no name where there is no heading
abbrev pub name_of : Position → Option ProgramHeading → Name
name_of p None = record { text = []; position = p }
name_of p (Some x) = x.name

-- the statements are the program's initialization
abbrev pub main_tail : Statements → Tail
main_tail ss = record { initialization = Some ss; finalization = None }

abbrev pub program_ends : ℕ → Name → Tail → Here → Step Here (Unit {0})
program_ends start n t h = next (all_completed h) (parts_mean start n t)

abbrev pub program_declared : List (Option Export) → Program → Here → Step Here (Unit {0})
program_declared es p h =
    next (uses_mean es p.uses h)
    (λ f. next (all_declared p.declarations (with_heading p.heading f)) (program_ends (length h.core.globals) (name_of p.position p.heading) (main_tail p.statements)))

-- ---- all files

-- a row for each unit and for the program, before their parts are declared
abbrev pub blank_unit : List ℕ → Unit'
blank_unit n = record { name = n; globals = no_rows; initialization = None; finalization = None }

abbrev pub with_units : List (List ℕ) → Here → Here
with_units order h = record h { core = record h.core { units = h.core.units ++ (map blank_unit order ++ blank_unit [] ∷ []) } }

-- no interface part is declared
abbrev pub blank_outline : List (List ℕ) → Here → Outline
blank_outline order h = record { exports = replicate (length order) None; here = with_units order h }

-- the interface parts of all units
abbrev pub outline : List (List ℕ) → List File → Here → Outline
outline order fs h = all_outlined order fs (interface_order order fs) (blank_outline order h)

abbrev pub outline_faults : List (List ℕ) → List File → Here → ℕ → Faults
outline_faults order fs h = faults_among order fs (interface_order order fs) (blank_outline order h)

-- the units and the program behind them
abbrev pub parts_of_program : Program → List (List ℕ) → List File → (ℕ → Faults) → Outline → Given (Unit {0})
parts_of_program p order fs faults o =
    unless_faulty (units_mean fs o.exports faults 0 o.exports o.here) (λ h. done (program_declared o.exports p (in_unit (length order) h)))

-- where the main file begins
abbrev pub start : Place
start = record { file = 0; line = 1; col = 1 }

-- interface parts, units and the program
abbrev pub files_mean : List File → List (List ℕ) → Here → Given (Unit {0})
files_mean (program p ∷ fs) order h = parts_of_program p order fs (outline_faults order fs h) (outline order fs h)
files_mean _ order h = made.breaks OtherFile start h

-- the files of a program, the main one first, and the names of its units in their order
abbrev pub program_means : List File → List (List ℕ) → Given (Unit {0})
program_means fs order = files_mean fs order beginning
