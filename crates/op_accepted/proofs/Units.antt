-- The parts of units leave fit states, and what they export is fit.
use Rattle.std.proofs.Common.{◌≡◌, ℕ, nat_le, Bool, true, false, ◌||◌, List, [], ◌∷◌, ◌++◌, All, IfSome, is_some, length, length-set, slice_get, slice_set, take, Option, Some, None, refl, ap, arith, if◌then◌else◌}
use Rattle.std.proofs.lemmas.Bool.{and_from}
use Rattle.std.proofs.lemmas.List.Elements.{All-head, All-set, All-tail, All-take}
use Rattle.std.specs.Str.{str_eq_ignore_ascii_case}
use Rattle.op_accepted.proofs.Declaring.{constants_fit, last_row, types_fit, variables_fit}
use Rattle.op_accepted.proofs.Grown.{exports_on, later_itself, names_on, part_on}
use Rattle.op_accepted.proofs.Parts.{fits_any}
use Rattle.op_accepted.proofs.StateParts.{Nothing, keeps_behind, keeps_breaks, keeps_checked, keeps_declarations, keeps_each, keeps_from, keeps_gives, keeps_here, keeps_if, keeps_then, keeps_where}
use Rattle.op_accepted.proofs.Routines.{Behind, body_fits, routine_fits, with_routine_fits}
use Rattle.op_accepted.proofs.Rows.{globaled_fit, globaled_later, named_fit, only_name, renamed_fit, united_fit, united_later}
use Rattle.op_accepted.specs.Fit.{IsFitMeaning}
use Rattle.op_accepted.specs.State.{AreFitNames, AreTreesFit, IsFitExport, IsFitState, Keeps}
use Rattle.op_check_unit.specs.Declaring.{most_global_bytes, with_bytes}
use Rattle.op_check_unit.specs.Interfaces.{unit_named}
use Rattle.op_check_unit.specs.Programs.{all_declared, awaited, awaited_in, counted_global, declaration_means, global_counted, implementation_means, interface_means, main_head, main_tail, name_of, own_globals, part_means, parts_mean, program_declared, program_ends, reopened, unit_completes, unit_ends, unit_left, unit_means, with_heading, with_unit}
use Rattle.op_check_unit.specs.Routines.{next_routine, no_rows, routine_row, with_routine}
use Rattle.op_check_unit.specs.Steps.{Here}
use Rattle.op_check_unit.specs.Uses.{exports_of, is_system, put_back, used, used_by, uses_mean, with_own}
use Rattle.op_check_unit.specs.declared.uses.Export.{Export}
use Rattle.op_core.specs.Sizes.{extent_of}
use Rattle.op_core.specs.declared.ids.RoutineId.{RoutineId}
use Rattle.op_core.specs.declared.ids.VariableId.{VariableId}
use Rattle.op_core.specs.declared.program.Core.{Core}
use Rattle.op_core.specs.declared.program.Unit.{Unit as UnitRow}
use Rattle.op_core.specs.declared.routine.Variable.{Variable}
use Rattle.op_judgement.specs.Judgement.{checked}
use Rattle.op_judgement.specs.declared.rules.LanguageRule.TheVariants.{GlobalsTooLarge}
use Rattle.op_judgement.specs.Steps.{by, done, each, followed, gives}
use Rattle.op_plain.specs.Plain.{is_plain_unit}
use Rattle.op_tree.specs.Declaration.{Declaration, constants, types, variables, heading, routine, Declarations, forward}
use Rattle.op_tree.specs.File.{File, Program, Tail, UnitFile}
use Rattle.op_tree.specs.Statement.{Statements}
use Rattle.op_tree.specs.declared.file.ProgramHeading.{ProgramHeading}
use Rattle.op_tree.specs.declared.position.Name.{Name}
use Rattle.op_types.specs.Names.{lower}
use Rattle.op_types.specs.declared.visible.Meaning.TheVariants.{Unit as UnitName}
use Rattle.op_typing.specs.SimpleTests.{gives_nothing, is_procedure}

-- ---- scopes of units

pub own_fits : (n : Name) (h : Here) → IsFitState h → IsFitState (with_own n h)
own_fits n h x = named_fit (record { name = lower n.text; meaning = UnitName h.unit } ∷ []) x (only_name h.core _ tt)

pub heading_fits : (x : Option ProgramHeading) (h : Here) → IsFitState h → Behind h.core (with_heading x h)
heading_fits None h x = record { state = x; later = later_itself }
heading_fits (Some n) h x = record { state = own_fits n.name h x; later = later_itself }

pub unit_left_fits : (old h : Here) → IsFitState h → IsFitState (unit_left old h)
unit_left_fits old h x = renamed_fit (take (length old.names) h.names) x (All-take (λ n. IsFitMeaning h.core n.meaning) (length old.names) h.names x.names)

-- ---- uses

exported_so : (core : Core) (es : List (Option Export)) (n : Name) → All (IsFitExport core) es → IfSome (exports_of es n) (λ e. AreFitNames core e.names)
exported_so core [] n a = tt
exported_so core (None ∷ es) n a = exported_so core es n (All-tail (IsFitExport core) None es a)
exported_so core (Some e ∷ es) n a = go (str_eq_ignore_ascii_case e.unit n.text) (All-head (IsFitExport core) (Some e) es a) (exported_so core es n (All-tail (IsFitExport core) (Some e) es a))
  where
    go : (b : Bool) → AreFitNames core e.names → IfSome (exports_of es n) (λ e. AreFitNames core e.names) → IfSome (if b then Some e else exports_of es n) (λ e. AreFitNames core e.names)
    go true f g = f
    go false f g = g

used_by_fits : (n : Name) (o : Option Export) (h : Here) → IfSome o (λ e. AreFitNames h.core e.names) → IsFitState h → Keeps Nothing h.core (done (used_by n o h))
used_by_fits n None h f x = keeps_breaks
used_by_fits n (Some e) h f x = keeps_here (named_fit e.names (named_fit (record { name = lower e.unit; meaning = UnitName e.id } ∷ []) x (only_name h.core _ tt)) f) tt

used_fits : (es : List (Option Export)) (n : Name) (h : Here) → All (IsFitExport h.core) es → IsFitState h → Keeps Nothing h.core (done (used es n h))
used_fits es n h a x = keeps_if (is_system n) (λ e. keeps_here x tt) (λ e. used_by_fits n (exports_of es n) h (exported_so h.core es n a) x)

pub uses_fit : (es : List (Option Export)) (ns : List Name) (h : Here) → All (IsFitExport h.core) es → IsFitState h → Keeps Nothing h.core (done (uses_mean es ns h))
uses_fit es [] h a x = keeps_here x tt
uses_fit es (n ∷ ns) h a x = keeps_then (each (used es) ns) (used_fits es n h a x) (λ i y l. uses_fit es ns i (exports_on h.core i.core l.types es a) y)

module _ (known : AreTreesFit) where
  -- ---- declarations

  declaration_fits : (d : Declaration) (h : Here) → IsFitState h → Keeps Nothing h.core (done (declaration_means d h))
  declaration_fits (constants cs) h x = constants_fit known cs h x
  declaration_fits (types ts) h x = types_fit known ts h x
  declaration_fits (variables vs) h x = variables_fit known vs h x
  declaration_fits (heading m) h x = routine_fits known m.heading m.directives forward h x
  declaration_fits (routine r ds b) h x = routine_fits known r ds b h x

  pub all_declared_fits : (ds : Declarations) (h : Here) → IsFitState h → Keeps Nothing h.core (done (all_declared ds h))
  all_declared_fits ds h x = keeps_declarations declaration_means declaration_fits ds h x

  pub interface_fits : (es : List (Option Export)) (u : UnitFile) (h : Here) → All (IsFitExport h.core) es → IsFitState h → Keeps Nothing h.core (done (interface_means es u h))
  interface_fits es u h a x = keeps_then (λ g. all_declared u.interface.declarations (with_own u.name g)) (uses_fit es u.interface.uses h a x) (λ g y l. all_declared_fits u.interface.declarations (with_own u.name g) (own_fits u.name g y))

  -- ---- the parts of a unit

  abbrev IsProcedure : Option RoutineId → Core → Type 0
  IsProcedure part core = is_procedure core part ≡ true

  part_fits : (n : Name) (ss : Option Statements) (h : Here) → IsFitState h → Keeps IsProcedure h.core (done (part_means n ss h))
  part_fits n None h x = keeps_here x refl
  part_fits n (Some ss) h x =
      let b = with_routine_fits known n main_head None h (omega arith, tt) x in
      let new = with_routine n main_head None h in
      let there : is_procedure new.core (Some (next_routine h)) ≡ true = ap gives_nothing (last_row h.core.routines (routine_row h.unit n main_head no_rows)) in
      keeps_from b.later
      (keeps_then (λ g. gives (Some (next_routine h)) g) (body_fits known (next_routine h) ss new b.state) (λ g y l. keeps_here y (part_on new.core g.core l (Some (next_routine h)) there)))

  with_unit_fits : (start : ℕ) (n : Name) (a b : Option RoutineId) (h : Here) → IsFitState h → is_procedure h.core a ≡ true → is_procedure h.core b ≡ true → Keeps Nothing h.core (done (gives tt (with_unit start n a b h)))
  with_unit_fits start n a b h x p q =
      keeps_gives (united_fit known h.core h.names h.bodies h.first_values (slice_set h.core.units h.unit.0 row) x (All-set (λ u. is_plain_unit h.core u ≡ true) h.core.units h.unit.0 row (and_from (is_procedure h.core a) (is_procedure h.core b) p q) x.units))
      (united_later h.core (slice_set h.core.units h.unit.0 row) (length-set h.core.units h.unit.0 row)) tt
    where
      row : UnitRow
      row = record { name = n.text; globals = own_globals start h; initialization = a; finalization = b }

  parts_fit : (start : ℕ) (n : Name) (t : Tail) (h : Here) → IsFitState h → Keeps Nothing h.core (done (parts_mean start n t h))
  parts_fit start n t h x =
      keeps_behind (λ a g. followed (part_means n t.finalization g) (by (λ b i. gives tt (with_unit start n a b i)))) (part_fits n t.initialization h x)
      (λ a g y l p. keeps_behind (λ b i. gives tt (with_unit start n a b i)) (part_fits n t.finalization g y) (λ b i z m q. with_unit_fits start n a b i z (part_on g.core i.core m a p) q))

  -- ---- implementation parts

  global_fits : (v : VariableId) (h : Here) → IsFitState h → Keeps Nothing h.core (done (global_counted v h))
  global_fits v h x = one (slice_get h.core.variables v.0)
    where
      one : (o : Option Variable) → Keeps Nothing h.core (done (counted_global v o h))
      one None = keeps_here x tt
      one (Some r) =
          let bytes = with_bytes h.bytes (extent_of h.core r.of).size in
          let gs = h.core.globals ++ v ∷ [] in
          keeps_where (is_some h.routine || nat_le bytes most_global_bytes) GlobalsTooLarge r.name.position.place (record h { core = record h.core { globals = gs }; bytes = bytes })
          (λ e. keeps_gives (globaled_fit known h.core h.names h.bodies h.first_values gs x) (globaled_later h.core gs) tt)

  reopened_fits : (es : List (Option Export)) (e : Export) (u : UnitFile) (h : Here) → All (IsFitExport h.core) es → AreFitNames h.core e.names → IsFitState h → Keeps Nothing h.core (done (reopened es e u h))
  reopened_fits es e u h a f x =
      keeps_then (λ f. followed (uses_mean es u.implementation.uses f) (λ t g. gives tt (put_back e (with_own u.name g)))) (uses_fit es u.interface.uses h a x)
      (λ i y l. keeps_then (λ g. gives tt (put_back e (with_own u.name g))) (uses_fit es u.implementation.uses i (exports_on h.core i.core l.types es a) y)
      (λ g z m. keeps_here (named_fit e.names (own_fits u.name g z) (names_on i.core g.core m.types e.names (names_on h.core i.core l.types e.names f))) tt))

  unit_ends_fits : (start : ℕ) (n : Name) (t : Tail) (h : Here) → IsFitState h → Keeps Nothing h.core (done (unit_ends start n t h))
  unit_ends_fits start n t h x =
      keeps_then (parts_mean start n t) (keeps_checked {P = Nothing} x (fits_any (record { typed = Some tt; faults = (checked (awaited_in h.unit h.core.routines 0 h.awaited)).faults }))) (λ g y l. parts_fit start n t g y)

  implementation_fits : (es : List (Option Export)) (start : ℕ) (e : Export) (u : UnitFile) (h : Here) → All (IsFitExport h.core) es → AreFitNames h.core e.names → IsFitState h → Keeps Nothing h.core (done (implementation_means es start e u h))
  implementation_fits es start e u h a f x =
      keeps_then (λ g. followed (all_declared u.implementation.declarations g) (λ t i. unit_ends start u.name u.tail i)) (reopened_fits es e u h a f x)
      (λ g y l. keeps_then (unit_ends start u.name u.tail) (all_declared_fits u.implementation.declarations g y) (λ i z m. unit_ends_fits start u.name u.tail i z))

  unit_fits : (es : List (Option Export)) (start : ℕ) (e : Export) (u : Option UnitFile) (h : Here) → All (IsFitExport h.core) es → AreFitNames h.core e.names → IsFitState h → Keeps Nothing h.core (done (unit_means es start e u h))
  unit_fits es start e None h a f x = keeps_here x tt
  unit_fits es start e (Some u) h a f x = keeps_then (λ i. gives tt (unit_left h i)) (implementation_fits es start e u h a f x) (λ i y l. keeps_here (unit_left_fits h i y) tt)

  pub completes_fits : (fs : List File) (es : List (Option Export)) (e : Option Export) (h : Here) → All (IsFitExport h.core) es → IsFitExport h.core e → IsFitState h → Keeps Nothing h.core (done (unit_completes fs es e h))
  completes_fits fs es None h a f x = keeps_here x tt
  completes_fits fs es (Some e) h a f x =
      keeps_then (unit_means es (length h.core.globals) e (unit_named fs e.unit)) (keeps_each global_counted global_fits e.globals (record h { unit = e.id }) x)
      (λ g y l. unit_fits es (length h.core.globals) e (unit_named fs e.unit) g (exports_on h.core g.core l.types es a) (names_on h.core g.core l.types e.names f) y)

  -- ---- the program

  program_ends_fits : (start : ℕ) (n : Name) (t : Tail) (h : Here) → IsFitState h → Keeps Nothing h.core (done (program_ends start n t h))
  program_ends_fits start n t h x = keeps_then (parts_mean start n t) (keeps_checked {P = Nothing} x (fits_any (record { typed = Some tt; faults = (checked (awaited h.awaited)).faults }))) (λ g y l. parts_fit start n t g y)

  pub program_declared_fits : (es : List (Option Export)) (p : Program) (h : Here) → All (IsFitExport h.core) es → IsFitState h → Keeps Nothing h.core (done (program_declared es p h))
  program_declared_fits es p h a x =
      let start = length h.core.globals in
      keeps_then (λ f. followed (all_declared p.declarations (with_heading p.heading f)) (λ t g. program_ends start (name_of p.position p.heading) (main_tail p.statements) g)) (uses_fit es p.uses h a x)
      (λ i y l. let b = heading_fits p.heading i y in keeps_from b.later (keeps_then (program_ends start (name_of p.position p.heading) (main_tail p.statements)) (all_declared_fits p.declarations (with_heading p.heading i) b.state) (λ g z m. program_ends_fits start (name_of p.position p.heading) (main_tail p.statements) g z)))
