-- Declarations of routines, with their bodies, leave fit states.
use Rattle.std.proofs.Common.{◌≡◌, ℕ, ◌+◌, ◌-◌, nat_le, true, List, [], ◌∷◌, ◌++◌, All, IfSome, IsSomeAnd, length, map, take, drop, slice_get, slice_set, Option, Some, None, refl, sym, subst, ◌∙◌}
use Rattle.std.proofs.lemmas.Bool.{and_parts}
use Rattle.std.proofs.lemmas.List.Elements.{All-cons, All-drop, All-map, All-nil, All-push, All-set, All-take}
use Rattle.op_accepted.proofs.Declaring.{constants_fit, last_row, types_fit, variables_fit}
use Rattle.op_accepted.proofs.Grown.{later_itself, later_through, if_solid_on}
use Rattle.op_accepted.proofs.Headings.{IsFitHead, head_fits}
use Rattle.op_accepted.proofs.StateParts.{Nothing, keeps_behind, keeps_breaks, keeps_checked, keeps_declarations, keeps_followed, keeps_from, keeps_here, keeps_silent, keeps_then}
use Rattle.op_accepted.proofs.Parts.{fits_any, fits_fine, fits_test}
use Rattle.op_accepted.proofs.Rows.{bodied_fit, named_fit, only_name, renamed_fit, routine_later, routined, routined_fit, row_later, variabled_fit, variabled_later}
use Rattle.op_accepted.proofs.TypeRows.{declared_fits}
use Rattle.op_accepted.specs.Fit.{AreFitStatements, IfAny, IfTyped, IsFitMeaning, none, some, typed}
use Rattle.op_accepted.specs.State.{AreFitNames, AreTreesFit, IsFitState, IsLater, IsOuterRow, IsPlainRow, Keeps, kept}
use Rattle.op_base.specs.declared.place.Place.{Place}
use Rattle.op_check_stmt.specs.Statement.{statements}
use Rattle.op_check_unit.specs.Headings.{form_means, head_means}
use Rattle.op_check_unit.specs.Naming.{ended, told_in, with_ahead}
use Rattle.op_check_unit.specs.Routines.{ahead_declared, awaited_named, awaits, block_means, body_means, both_typed, by_standing, class_meant, completed, entered, first_declared, headed, inner, is_heading_of, left, local_declared, locals_fit, most_bytes, next_routine, no_rows, parameter_names, parameter_variable, plain_declared, result_name, routine_by, routine_declared, routine_row, same_means, scope_of, statements_mean, with_body, with_local, with_parameters, with_result, with_routine, with_variables}
use Rattle.op_check_unit.specs.Steps.{Here}
use Rattle.op_check_unit.specs.declared.heading.Head.{Head}
use Rattle.op_core.proofs.Growing.{some_and, stay_there}
use Rattle.op_core.specs.Heading.{same_result}
use Rattle.op_core.specs.Members.{There}
use Rattle.op_core.specs.Rows.{rows}
use Rattle.op_core.specs.Statement.{Statements as Typed}
use Rattle.op_core.specs.declared.ids.RoutineId.{RoutineId}
use Rattle.op_core.specs.declared.ids.Run.{Run}
use Rattle.op_core.specs.declared.ids.TypeId.{TypeId}
use Rattle.op_core.specs.declared.program.Core.{Core}
use Rattle.op_core.specs.declared.routine.Parameter.{Parameter}
use Rattle.op_core.specs.declared.routine.Role.{Role}
use Rattle.op_core.specs.declared.routine.Role.TheVariants.{Result}
use Rattle.op_core.specs.declared.routine.Routine.{Routine}
use Rattle.op_core.specs.declared.routine.Variable.{Variable as VariableRow}
use Rattle.op_core.specs.declared.types.CoreType.{CoreType}
use Rattle.op_judgement.specs.Judgement.{by_test, checked, fine}
use Rattle.op_judgement.specs.declared.rules.LanguageRule.TheVariants.{HeadingDiffers, LocalsTooLarge}
use Rattle.op_judgement.specs.Steps.{done, followed, gives}
use Rattle.op_plain.specs.Plain.{is_plain_role}
use Rattle.op_tree.specs.Declaration.{Body, forward, body, Declaration, constants, types, variables, heading, routine, Declarations, Heading}
use Rattle.op_tree.specs.Statement.{Statements}
use Rattle.op_tree.specs.declared.heading.Directive.{Directive}
use Rattle.op_tree.specs.declared.position.Name.{Name}
use Rattle.op_types.specs.Names.{lower}
use Rattle.op_types.specs.declared.visible.Meaning.TheVariants.{Routine as RoutineName, Spoiled}
use Rattle.op_typing.specs.Simple.{IsSolidType}
use Rattle.op_typing.specs.SimpleTests.{is_none}

-- ---- headings of rows

-- the row of the routine gives something where the heading does
abbrev IsHeadOf : RoutineId → Head → Core → Type 0
IsHeadOf id x core = There core.routines id.0 (λ r. is_none x.result ≡ is_none r.result)

head_on : (old new : Core) (id : RoutineId) (x : Head) → IsLater old new → IsHeadOf id x old → IsHeadOf id x new
head_on old new id x l h = stay_there (λ r. is_none x.result ≡ is_none r.result) (λ r. is_none x.result ≡ is_none r.result) (λ r s k e. e ∙ sym k) l.routines id.0 h

same_none : (ts : List CoreType) (a b : Option TypeId) → same_result ts a b ≡ true → is_none b ≡ is_none a
same_none ts None None e = refl
same_none ts (Some a) (Some b) e = refl
same_none ts None (Some b) e = absurd (cc)
same_none ts (Some a) None e = absurd (cc)

heading_gives : (core : Core) (a : Routine) (o : Option Routine) → is_heading_of core a o ≡ true → IsSomeAnd o (λ r. is_none a.result ≡ is_none r.result)
heading_gives core a None e = absurd (cc)
heading_gives core a (Some b) e = same_none core.types b.result a.result (and_parts _ _ (and_parts _ _ e).0).1

row_fit : (h : Here) (n : Name) (x : Head) (run : Run) → IsFitHead x h.core → IsOuterRow (routine_row h.unit n x run)
row_fit h n x run f = record { owner = refl; enclosing = refl; parameters = f.0; bare = refl }

-- ---- variables that a body has by itself

parameter_names_fit : (core : Core) (k : ℕ) (ps : List Parameter) → AreFitNames core (parameter_names k ps)
parameter_names_fit core k [] = All-nil (λ n. IsFitMeaning core n.meaning)
parameter_names_fit core k (p ∷ ps) = All-cons (λ n. IsFitMeaning core n.meaning) _ (parameter_names (k + 1) ps) tt (parameter_names_fit core (k + 1) ps)

parameters_plain : (ps : List Parameter) → All IsPlainRow (map parameter_variable ps)
parameters_plain [] = All-nil IsPlainRow
parameters_plain (p ∷ ps) = All-cons IsPlainRow (parameter_variable p) (map parameter_variable ps) (record { role = refl; bare = refl }) (parameters_plain ps)

-- a state behind another one
pub record Behind (old : Core) (h : Here) : Type 0 where
  pub state : IsFitState h
  pub later : IsLater old h.core

module _ (known : AreTreesFit) where
  local_fits : (n : Name) (of : TypeId) (role : Role) (h : Here) → is_plain_role role ≡ true → IsSolidType h.core of → IsFitState h → Behind h.core (with_local n of role h)
  local_fits n of role h p f x = record {
    state = named_fit _ (variabled_fit known h.core h.names h.bodies h.first_values (v ∷ []) h.core.globals x (All-cons (λ v. IsSolidType h.core v.of) v [] f (All-nil (λ v. IsSolidType h.core v.of))) (All-cons IsPlainRow v [] (record { role = p; bare = refl }) (All-nil IsPlainRow))) (only_name (with_local n of role h).core _ tt);
    later = variabled_later h.core (v ∷ []) h.core.globals;
  }
    where
      v : VariableRow
      v = record { name = n; of = of; role = role; first_value = None }

  parameters_fit : (ps : List Parameter) (h : Here) → All (λ p. IsSolidType h.core p.of) ps → IsFitState h → Behind h.core (with_parameters ps h)
  parameters_fit ps h a x = record {
    state = named_fit (parameter_names (length h.core.variables) ps) (variabled_fit known h.core h.names h.bodies h.first_values (map parameter_variable ps) h.core.globals x (All-map (λ v. IsSolidType h.core v.of) parameter_variable ps a) (parameters_plain ps)) (parameter_names_fit (with_parameters ps h).core (length h.core.variables) ps);
    later = variabled_later h.core (map parameter_variable ps) h.core.globals;
  }

  result_fits : (id : RoutineId) (n : Name) (of : Option TypeId) (h : Here) → IfSome of (IsSolidType h.core) → IsFitState h → Behind h.core (with_result id n of h)
  result_fits id n None h f x = record { state = x; later = later_itself }
  result_fits id n (Some of) h f x =
      let b = local_fits (result_name n) of Result h refl f x in
      record { state = named_fit (record { name = lower n.text; meaning = RoutineName id } ∷ []) b.state (only_name (with_local (result_name n) of Result h).core _ tt); later = b.later }

  entered_fits : (id : RoutineId) (n : Name) (x : Head) (h : Here) → IsFitHead x h.core → IsFitState h → Behind h.core (entered id n x h)
  entered_fits id n x h f y =
      let ps = rows h.core.parameters x.parameters in
      let begins = record h { first = length h.names; count = 0; own = None; bytes = 0; routine = Some id } in
      let b = parameters_fit ps begins (All-take (λ p. IsSolidType h.core p.of) x.parameters.count (drop x.parameters.first h.core.parameters) (All-drop (λ p. IsSolidType h.core p.of) x.parameters.first h.core.parameters y.tables.parameters)) y in
      let c = result_fits id n x.result (with_parameters ps begins) (if_solid_on h.core (with_parameters ps begins).core b.later.types x.result f.1) b.state in
      record { state = c.state; later = later_through b.later c.later }

  -- ---- bodies

  local_declared_fits : (d : Declaration) (h : Here) → IsFitState h → Keeps Nothing h.core (done (local_declared d h))
  local_declared_fits (constants cs) h x = constants_fit known cs h x
  local_declared_fits (types ts) h x = types_fit known ts h x
  local_declared_fits (variables vs) h x = variables_fit known vs h x
  local_declared_fits (heading m) h x = keeps_here x tt
  local_declared_fits (routine r ds b) h x = keeps_checked {P = Nothing} x (fits_any _)

  pub body_fits : (id : RoutineId) (ss : Statements) (h : Here) → IsFitState h → Keeps Nothing h.core (done (statements_mean id ss h))
  body_fits id ss h x = one (known.body (scope_of id h) (record { tables = x.tables; names = x.names }) ss)
    where
      there : {o : Option Typed} → IfAny (AreFitStatements h.core) o → IsFitState (with_body id o h) × IsLater h.core (with_body id o h).core
      there none = (x, later_itself)
      there (some ts f) = (bodied_fit (id, ts) x f, later_itself)

      one : IfTyped (AreFitStatements h.core) (checked (statements (scope_of id h) ss)) → Keeps Nothing h.core (done (statements_mean id ss h))
      one (typed f) = let t = there f in kept t.0 t.1 (some tt tt)

  with_variables_fits : (id : RoutineId) (n : Name) (x : Head) (first : ℕ) (h : Here) → IsFitHead x h.core → IsHeadOf id x h.core → IsFitState h → Behind h.core (with_variables id n x first h)
  with_variables_fits id n x first h f g y = record {
    state = routined_fit known h.core h.names h.bodies h.first_values (slice_set h.core.routines id.0 row) y l (All-set (λ r. IfSome r.result (IsSolidType h.core)) h.core.routines id.0 row f.1 y.tables.results) (All-set IsOuterRow h.core.routines id.0 row (row_fit h n x row.variables f) y.routines);
    later = l;
  }
    where
      row : Routine
      row = routine_row h.unit n x (record { first = first; count = length h.core.variables - first })

      l : IsLater h.core (routined h.core (slice_set h.core.routines id.0 row))
      l = row_later h.core id.0 row (λ r e. subst (λ o. IsSomeAnd o (λ r. is_none x.result ≡ is_none r.result)) e g)

  head_later : (old new : Core) (x : Head) → IsLater old new → IsFitHead x old → IsFitHead x new
  head_later old new x l f = (f.0, if_solid_on old new l.types x.result f.1)

  inner_fits : (id : RoutineId) (n : Name) (x : Head) (first : ℕ) (ds : Declarations) (ss : Statements) (h : Here) → IsFitHead x h.core → IsHeadOf id x h.core → IsFitState h → Keeps Nothing h.core (done (inner id n x first ds ss h))
  inner_fits id n x first ds ss h f g y =
      keeps_then (λ h. followed (locals_fit n h) (λ t h. statements_mean id ss (with_variables id n x first h))) (keeps_declarations local_declared local_declared_fits ds h y)
      (λ i z l. keeps_then (λ h. statements_mean id ss (with_variables id n x first h)) (keeps_checked {P = Nothing} z (fits_any (checked (by_test LocalsTooLarge n.position.place (fine tt) (nat_le i.bytes most_bytes)))))
      (λ j w m. let k = later_through l m in let b = with_variables_fits id n x first j (head_later h.core j.core x k f) (head_on h.core j.core id x k g) w in keeps_from b.later (body_fits id ss (with_variables id n x first j) b.state)))

  left_fits : (old h : Here) → IsFitState h → IsFitState (left old h)
  left_fits old h x = renamed_fit (take (length old.names) h.names) x (All-take (λ n. IsFitMeaning h.core n.meaning) (length old.names) h.names x.names)

  block_fits : (id : RoutineId) (n : Name) (x : Head) (ds : Declarations) (ss : Statements) (h : Here) → IsFitHead x h.core → IsHeadOf id x h.core → IsFitState h → Keeps Nothing h.core (done (block_means id n x ds ss h))
  block_fits id n x ds ss h f g y =
      let b = entered_fits id n x h f y in
      keeps_from b.later
      (keeps_then (λ i. gives tt (left h i)) (inner_fits id n x (length h.core.variables) ds ss (entered id n x h) (head_later h.core (entered id n x h).core x b.later f) (head_on h.core (entered id n x h).core id x b.later g) b.state)
      (λ i z l. keeps_here (left_fits h i z) tt))

  -- ---- declarations

  body_means_fits : (id : RoutineId) (n : Name) (x : Head) (b : Body) (h : Here) → IsFitHead x h.core → IsHeadOf id x h.core → IsFitState h → Keeps Nothing h.core (done (body_means id n x b h))
  body_means_fits id n x forward h f g y = keeps_here y tt
  body_means_fits id n x (body ds ss) h f g y = block_fits id n x ds ss h f g y

  pub with_routine_fits : (n : Name) (x : Head) (place : Option Place) (h : Here) → IsFitHead x h.core → IsFitState h → Behind h.core (with_routine n x place h)
  with_routine_fits n x place h f y = record {
    state = routined_fit known h.core h.names h.bodies h.first_values (h.core.routines ++ row ∷ []) y l (All-push (λ r. IfSome r.result (IsSolidType h.core)) h.core.routines row y.tables.results f.1) (All-push IsOuterRow h.core.routines row y.routines (row_fit h n x no_rows f));
    later = l;
  }
    where
      row : Routine
      row = routine_row h.unit n x no_rows

      l : IsLater h.core (routined h.core (h.core.routines ++ row ∷ []))
      l = routine_later h.core row

  first_fits : (n : Name) (x : Head) (b : Body) (h : Here) → IsFitHead x h.core → IsFitState h → Keeps Nothing h.core (done (first_declared n x b h))
  first_fits n x b h f y =
      let id = next_routine h in
      let g = with_routine_fits n x (awaits b n) h f y in
      let new = with_routine n x (awaits b n) h in
      let there : IsHeadOf id x new.core = some_and (λ r. is_none x.result ≡ is_none r.result) (last_row h.core.routines (routine_row h.unit n x no_rows)) refl in
      keeps_from g.later
      (keeps_then (λ h. body_means id n x b h) (declared_fits n (RoutineName id) new g.state tt)
      (λ i z l. body_means_fits id n x b i (head_later h.core i.core x (later_through g.later l) f) (head_on new.core i.core id x l there) z))

  same_fits : (id : RoutineId) (n : Name) (x : Head) (h : Here) → IfTyped (λ t. IsHeadOf id x h.core) (checked (same_means id n x h))
  same_fits id n x h =
      fits_test HeadingDiffers n.position.place (is_heading_of h.core (routine_row h.unit n x no_rows) (slice_get h.core.routines id.0))
      (λ e. fits_fine (heading_gives h.core (routine_row h.unit n x no_rows) (slice_get h.core.routines id.0) e))

  ahead_fits : (id : RoutineId) (n : Name) {x : Option Head} (b : Body) (h : Here) → IfAny (λ x. IsFitHead x h.core) x → IsFitState h → Keeps Nothing h.core (done (ahead_declared id n x b h))
  ahead_fits id n forward h f y = keeps_breaks
  ahead_fits id n (body ds ss) h none y = keeps_silent y
  ahead_fits id n (body ds ss) h (some x f) y =
      keeps_behind (λ t i. block_means id n x ds ss i) (keeps_checked {P = λ t core. IsHeadOf id x core} {h = completed id h} y (same_fits id n x h))
      (λ t i z l g. block_fits id n x ds ss i (head_later h.core i.core x l f) g z)

  standing_fits : (o : Option RoutineId) (n : Name) {x : Option Head} (b : Body) (h : Here) → IfAny (λ x. IsFitHead x h.core) x → IsFitState h → Keeps Nothing h.core (done (by_standing o n x b h))
  standing_fits (Some id) n b h f y = ahead_fits id n b h f y
  standing_fits None n b h none y = declared_fits n Spoiled h y tt
  standing_fits None n b h (some x f) y = first_fits n x b h f y

  both_fit : (core : Core) (t : Option (Unit {0})) {x : Option Head} → IfAny (λ x. IsFitHead x core) x → IfAny (λ x. IsFitHead x core) (both_typed t x)
  both_fit core None f = none
  both_fit core (Some t) f = f

  plain_fits : (x : Heading) (ds : List Directive) (b : Body) (h : Here) → IsFitState h → Keeps Nothing h.core (done (plain_declared x ds b h))
  plain_fits x ds b h y =
      keeps_followed {P = Nothing} (λ t h. followed (head_means x h) (λ u h. headed x.name (both_typed t u) b (ended h))) (keeps_checked {P = Nothing} {h = with_ahead x.name h} y (fits_any (checked (form_means x ds))))
      (λ t i z l p. keeps_followed (λ u h. headed x.name (both_typed t u) b (ended h)) (head_fits known x i z)
      (λ u j w m f. standing_fits (awaited_named (ended j) x.name) x.name b (ended j) (both_fit j.core t f) w))

  pub routine_fits : (x : Heading) (ds : List Directive) (b : Body) (h : Here) → IsFitState h → Keeps Nothing h.core (done (routine_declared x ds b h))
  routine_fits x ds b h y = one x.class
    where
      one : (c : Option Name) → Keeps Nothing h.core (done (routine_by c x ds b h))
      one None = plain_fits x ds b h y
      one (Some c) = keeps_checked {P = Nothing} y (fits_any (checked (class_meant h.core c.position.place (told_in h.names (lower c.text)))))
