-- A program that passes the test is of the class.
use Rattle.std.proofs.Common.{◌≡◌, ◌<◌, ◌≤◌, ℕ, zero, suc, ◌+◌, Bool, true, false, Option, Some, None, List, [], ◌∷◌, length, slice_get, map, reverse, take, drop, refl, ap, arith, nat_le, subst}
use Rattle.std.proofs.lemmas.Bool.{and_parts, not-true}
use Rattle.std.proofs.lemmas.Bool.Decides.{nat_tests}
use Rattle.std.proofs.lemmas.Option.{slice_get_within}
use Rattle.std.specs.List.{list_all}
use Rattle.op_base.proofs.Lists.{passes_at}
use Rattle.op_constants.specs.Offsets.{size_in}
use Rattle.op_core.specs.Rows.{rows}
use Rattle.op_core.specs.Statement.{stmts_of}
use Rattle.op_core.specs.declared.ids.Run.{Run}
use Rattle.op_core.specs.declared.ids.RoutineId.{RoutineId}
use Rattle.op_core.specs.declared.ids.TypeId.{TypeId}
use Rattle.op_core.specs.declared.program.Core.{Core}
use Rattle.op_core.specs.declared.program.Unit.{Unit as UnitRow}
use Rattle.op_core.specs.declared.routine.Body.{Body}
use Rattle.op_core.specs.declared.routine.Role.{Role}
use Rattle.op_core.specs.declared.routine.Role.TheVariants.{Plain, Constant, Parameter, Object, Result, Handler}
use Rattle.op_core.specs.declared.routine.Routine.{Routine}
use Rattle.op_core.specs.declared.routine.Variable.{Variable}
use Rattle.op_places.specs.Frames.{parameters_of}
use Rattle.op_frames.specs.Charged.{IsCharged}
use Rattle.op_frames.specs.Counted.{AreCountedStatements}
use Rattle.op_frames.specs.Made.{Every}
use Rattle.op_meaning.specs.Frames.{empty_global, program_of}
use Rattle.op_meaning.specs.Shapes.{is_managed, variables_of}
use Rattle.op_meaning.specs.Start.{first_pending}
use Rattle.op_mir.proofs.Unmanaged.{none_emptied, ending_by_row, no_globals}
use Rattle.op_mir.specs.Plain.{ArePlainUnits, IfExists}
use Rattle.op_plain.proofs.CountedLemmas.{statements_counted}
use Rattle.op_plain.proofs.Parts.{Tests, failed, tests_of}
use Rattle.op_plain.proofs.SimpleLemmas.{simple_program}
use Rattle.op_plain.proofs.WrittenLemmas.{statements_written}
use Rattle.op_plain.specs.Claims.{IsPlainCore, PlainByItems}
use Rattle.op_plain.specs.Plain.{is_plain_body, is_plain_program, is_plain_result, is_plain_role, is_plain_routine, is_plain_unit, is_plain_variable, takes_few, most_units}
use Rattle.op_sizes.specs.Written.{AreWrittenStatements}
use Rattle.op_typing.proofs.SimpleTestLemmas.{none_is, of_unit}
use Rattle.op_typing.specs.SimpleTests.{begins_itself, gives_nothing, is_none, is_of_unit, is_procedure, is_short_text, is_solid_type}

-- ---- lists

every_pass : {A : Type 0} (test : A → Bool) (Q : A → Type 0) (xs : List A) → ((x : A) → test x ≡ true → Q x) → list_all test xs ≡ true → Every Q xs
every_pass test Q [] f all = tt
every_pass test Q (x ∷ xs) f all = let parts = and_parts (test x) (list_all test xs) all in (f x parts.0, every_pass test Q xs f parts.1)

every_dropped : {A : Type 0} (Q : A → Type 0) (n : ℕ) (xs : List A) → Every Q xs → Every Q (drop n xs)
every_dropped Q zero xs each = each
every_dropped Q (suc n) [] each = tt
every_dropped Q (suc n) (x ∷ xs) each = every_dropped Q n xs each.1

every_taken : {A : Type 0} (Q : A → Type 0) (n : ℕ) (xs : List A) → Every Q xs → Every Q (take n xs)
every_taken Q zero xs each = tt
every_taken Q (suc n) [] each = tt
every_taken Q (suc n) (x ∷ xs) each = (each.0, every_taken Q n xs each.1)

every_row : {A : Type 0} (Q : A → Type 0) (run : Run) (table : List A) → Every Q table → Every Q (rows table run)
every_row Q run table each = every_taken Q run.count (drop run.first table) (every_dropped Q run.first table each)

-- ---- parts of the test

role_charged : (role : Role) → is_plain_role role ≡ true → IsCharged role
role_charged Object e = failed e
role_charged Handler e = failed e
role_charged _ e = tt

no_object : (role : Role) → is_plain_role role ≡ true → role ≡ Object → ⊥
no_object Object e is = failed e
no_object Plain e is = absurd cc
no_object Constant e is = absurd cc
no_object (Parameter mode) e is = absurd cc
no_object Result e is = absurd cc
no_object Handler e is = failed e

few : (parameters : ℕ) → takes_few parameters ≡ true → parameters ≤ 64
few parameters e = grind (arith, nat_tests)

-- ---- what passes

module _ (core : Core) (tests : Tests core) where
  -- ---- nothing has to be ended

  unmanaged_variable : (v : Variable) → is_plain_variable core v ≡ true → is_managed core v.of ≡ false
  unmanaged_variable v e = not-true _ (and_parts (is_solid_type core v.of) _ (and_parts (begins_itself v) _ (and_parts (is_plain_role v.role) _ e).1).1).1

  unmanaged_at : (k : ℕ) (v : Variable) → slice_get core.variables k ≡ Some v → is_managed core v.of ≡ false
  unmanaged_at k v there = unmanaged_variable v (passes_at (is_plain_variable core) core.variables k v tests.variables there)

  unmanaged_result : (of : TypeId) → is_plain_result core (Some of) ≡ true → is_managed core of ≡ false
  unmanaged_result of e = not-true _ (and_parts (is_solid_type core of) _ e).1

  routine_at : (r : ℕ) (x : Routine) → slice_get core.routines r ≡ Some x → is_plain_routine is_short_text core x ≡ true
  routine_at r x there = passes_at (is_plain_routine is_short_text core) core.routines r x tests.routines there

  result_at : (x : Routine) → is_plain_routine is_short_text core x ≡ true → is_plain_result core x.result ≡ true
  result_at x e = (and_parts _ _ (and_parts _ _ (and_parts (is_of_unit x.owner) _ e).1).1).0

  unmanaged_in : (r : ℕ) (x : Routine) (of : TypeId) → slice_get core.routines r ≡ Some x → x.result ≡ Some of → is_managed core of ≡ false
  unmanaged_in r x of there is = unmanaged_result of (subst (λ o. is_plain_result core o ≡ true) is (result_at x (routine_at r x there)))

  pending_none : first_pending core ≡ []
  pending_none = ap (map (λ v. empty_global v)) (no_globals core unmanaged_at tests.unmanaged (reverse core.units))

  -- ---- units

  module _ (stack : ℕ) where
    part_there : (q : RoutineId) (row : Option Routine) → slice_get core.routines q.0 ≡ row → gives_nothing row ≡ true → q.0 < length core.routines
    part_there q None there e = failed e
    part_there q (Some x) there e = slice_get_within core.routines q.0 x there

    part_exists : (part : Option RoutineId) → is_procedure core part ≡ true → IfExists (program_of core stack) part
    part_exists None e = tt
    part_exists (Some q) e = part_there q (slice_get core.routines q.0) refl e

    units_plain : (us : List UnitRow) → list_all (is_plain_unit core) us ≡ true → ArePlainUnits (program_of core stack) us
    units_plain [] all = tt
    units_plain (u ∷ us) all =
        let parts = and_parts (is_plain_unit core u) (list_all (is_plain_unit core) us) all in
        let first = and_parts (is_procedure core u.initialization) (is_procedure core u.finalization) parts.0 in
        (part_exists u.initialization first.0, part_exists u.finalization first.1, units_plain us parts.1)

  -- ---- bodies

  code_at : (x : Routine) → is_plain_routine is_short_text core x ≡ true → (takes_few x.parameters.count ≡ true) × (is_plain_body is_short_text core x.body ≡ true)
  code_at x e = and_parts _ _ (and_parts (is_plain_result core x.result) _ (and_parts (is_none x.enclosing) _ (and_parts (is_of_unit x.owner) _ e).1).1).1

  counted_by_body : (stack r : ℕ) (x : Routine) → slice_get core.routines r ≡ Some x → (b : Option Body) → x.body ≡ b → is_plain_body is_short_text core b ≡ true → AreCountedStatements ((program_of core stack).body r)
  counted_by_body stack r x there None is e = rw (there, is) tt
  counted_by_body stack r x there (Some b) is e = rw (there, is) (statements_counted is_short_text core (stmts_of b.statements.items) e)

  counted_by : (stack r : ℕ) (x : Option Routine) → slice_get core.routines r ≡ x → AreCountedStatements ((program_of core stack).body r)
  counted_by stack r None there = rw there tt
  counted_by stack r (Some x) there = counted_by_body stack r x there x.body refl (code_at x (routine_at r x there)).1

  written_by_body : (stack r : ℕ) (x : Routine) → slice_get core.routines r ≡ Some x → (b : Option Body) → x.body ≡ b → is_plain_body is_short_text core b ≡ true → AreWrittenStatements ((program_of core stack).body r)
  written_by_body stack r x there None is e = rw (there, is) tt
  written_by_body stack r x there (Some b) is e = rw (there, is) (statements_written is_short_text core (stmts_of b.statements.items) e)

  written_by : (stack r : ℕ) (x : Option Routine) → slice_get core.routines r ≡ x → AreWrittenStatements ((program_of core stack).body r)
  written_by stack r None there = rw there tt
  written_by stack r (Some x) there = written_by_body stack r x there x.body refl (code_at x (routine_at r x there)).1

  -- ---- parameters

  none_more : (n : ℕ) → 0 + n ≡ n
  none_more n = omega arith

  parameters_are : (r : ℕ) (x : Routine) → slice_get core.routines r ≡ Some x → is_plain_routine is_short_text core x ≡ true → parameters_of core r ≡ x.parameters.count
  parameters_are r x there e = let owner = of_unit x.owner (and_parts (is_of_unit x.owner) _ e).0 in rw (there, owner) (none_more x.parameters.count)

  few_by : (r : ℕ) (x : Option Routine) → slice_get core.routines r ≡ x → parameters_of core r ≤ 64
  few_by r None there = let none : parameters_of core r ≡ 0 = rw there refl in omega (arith, none)
  few_by r (Some x) there =
      let passes = routine_at r x there in
      let count = parameters_are r x there passes in
      let less = few x.parameters.count (code_at x passes).0 in
      omega (arith, count, less)

  -- ---- variables

  variable_charged : (v : Variable) → is_plain_variable core v ≡ true → IsCharged v.role
  variable_charged v e = role_charged v.role (and_parts (is_plain_role v.role) _ e).0

  variable_sized : (v : Variable) → is_plain_variable core v ≡ true → IsCharged v.role × (v.role ≡ Object → size_in core v.of ≤ 4)
  variable_sized v e = (variable_charged v e, λ is. absurd (no_object v.role (and_parts (is_plain_role v.role) _ e).0 is))

few_units : (n : ℕ) → nat_le n most_units ≡ true → n ≤ 1024
few_units n e = grind (arith, nat_tests)

pub plain_by_test : (core : Core) → is_plain_program core ≡ true → IsPlainCore core
plain_by_test core e =
    let tests = tests_of core e in
    record {
      simple = simple_program core tests;
      counted = λ stack r. counted_by core tests stack r (slice_get core.routines r) refl;
      written = λ stack r. written_by core tests stack r (slice_get core.routines r) refl;
      exceptions = none_is core.exceptions tests.exceptions;
      endings = λ r. ending_by_row core (unmanaged_at core tests) (unmanaged_in core tests) r (slice_get core.routines r) refl;
      outs = none_emptied core (unmanaged_at core tests);
      units = λ stack. units_plain core tests stack core.units tests.units;
      few = few_units (length core.units) tests.few;
      globals = pending_none core tests;
      parameters = λ r. few_by core tests r (slice_get core.routines r) refl;
      charged = λ r. every_row (λ v. IsCharged v.role) (variables_of core r) core.variables (every_pass (is_plain_variable core) (λ v. IsCharged v.role) core.variables (variable_charged core tests) tests.variables);
      sized = λ r. every_row (λ v. IsCharged v.role × (v.role ≡ Object → size_in core v.of ≤ 4)) (variables_of core r) core.variables (every_pass (is_plain_variable core) (λ v. IsCharged v.role × (v.role ≡ Object → size_in core v.of ≤ 4)) core.variables (variable_sized core tests) tests.variables);
    }

pub plain_by_items : PlainByItems
plain_by_items core stack e bodies =
    let is = plain_by_test core e in
    record { exceptions = is.exceptions; bodies = bodies; endings = is.endings; outs = is.outs; units = is.units stack; globals = is.globals }
