-- A program that passes the test is without strings and references.
use Rattle.std.proofs.Common.{◌≡◌, Bool, true, false, Option, Some, None, IfSome}
use Rattle.std.proofs.lemmas.Bool.{and_parts}
use Rattle.op_core.specs.Expression.{Root, constant, variable, object, call, construct, set, eof, eoln, Action, bracket, index, method, operate, apply, Argument, value, place, array, listed}
use Rattle.op_core.specs.Statement.{stmts_of}
use Rattle.op_core.specs.declared.constant.Const.{Const}
use Rattle.op_core.specs.declared.constant.Const.TheVariants.{Ordinal, Text, Set as SetOf, Nil as NilOf}
use Rattle.op_core.specs.declared.ids.TypeId.{TypeId}
use Rattle.op_core.specs.declared.program.Core.{Core}
use Rattle.op_core.specs.declared.routine.Body.{Body}
use Rattle.op_core.specs.declared.routine.Routine.{Routine}
use Rattle.op_core.specs.declared.routine.Variable.{Variable}
use Rattle.op_meaning.specs.Shapes.{is_reference}
use Rattle.op_plain.proofs.Parts.{Tests, failed}
use Rattle.op_plain.proofs.Shown.{Shows, statements_shown}
use Rattle.op_plain.specs.Plain.{is_plain_argument, is_plain_body, is_plain_constant, is_plain_result, is_plain_role, is_plain_root, is_plain_routine, is_plain_step, is_plain_unit, is_plain_variable, takes_few}
use Rattle.op_typing.proofs.Rows.{each_row}
use Rattle.op_typing.proofs.SimpleTestLemmas.{all_pass, begins_so, counted, none_is, of_unit, short, simple_unit}
use Rattle.op_typing.specs.Simple.{AreSimpleStatements, IsCounted, IsSimpleConstant, IsSimpleProgram, IsSimpleRoutine, IsSimpleUnit, IsSolidType, SimpleArgument, SimpleRoot, SimpleStep, simple_asks}
use Rattle.op_typing.specs.SimpleTests.{begins_itself, is_counted, is_none, is_of_unit, is_short_text, is_solid_parameter}

module _ (core : Core) where
  constant_simple : (v : Const) (of : TypeId) → is_plain_constant is_short_text core v of ≡ true → IsSimpleConstant core v of
  constant_simple (Text bytes) of e = short bytes e
  constant_simple (Ordinal n) of e = e
  constant_simple (SetOf es) of e = e
  constant_simple NilOf of e = e

  root_simple : (root : Root) (of : TypeId) (P : Type 0) → is_plain_root is_short_text core root of ≡ true → P → SimpleRoot core root of P
  root_simple (constant v nodes words) of P e p = constant_simple v of (and_parts _ _ e).1
  root_simple (variable id) of P e p = e
  root_simple (object id) of P e p = failed e
  root_simple (call id given) of P e p = ((and_parts _ _ e).0, p)
  root_simple (construct c id given) of P e p = failed e
  root_simple (set es) of P e p = ((and_parts _ _ e).0, p)
  root_simple eof of P e p = failed e
  root_simple eoln of P e p = failed e

  step_simple : (text : Bool) (action : Action) (next : TypeId) (P : Type 0) → is_plain_step is_short_text core text action next ≡ true → P → SimpleStep core text action next P
  step_simple true bracket next P e p = tt
  step_simple true (index i) next P e p = (p, (and_parts _ _ e).0)
  step_simple true (apply function checked) next P e p = let parts = and_parts _ _ e in (parts.0, parts.1)
  step_simple true _ next P e p = failed e
  step_simple false (index i) next P e p = (p, (and_parts _ _ e).0)
  step_simple false (operate operator checked i) next P e p = (p, (and_parts _ _ e).0)
  step_simple false (method id dispatch given) next P e p = failed e
  step_simple false _ next P e p = e

  argument_simple : (a : Argument) (P : Type 0) → is_plain_argument is_short_text core a ≡ true → P → SimpleArgument a P
  argument_simple (value a) P e p = p
  argument_simple (place a) P e p = p
  argument_simple (array a) P e p = failed e
  argument_simple (listed of es) P e p = failed e

  simple_shown : Shows is_short_text core (simple_asks core)
  simple_shown = record {
    in_root = root_simple;
    in_steps = λ others P e p. p;
    in_step = step_simple;
    in_argument = argument_simple;
    in_copy = λ P. tt;
    in_labels = λ labels e. tt;
    in_amount = λ a h. h;
    in_bare = λ v nodes words of e. (constant_simple v of e, tt);
  }

  -- ---- tables

  result_simple : (result : Option TypeId) → is_plain_result core result ≡ true → IfSome result (IsSolidType core)
  result_simple None e = tt
  result_simple (Some of) e = (and_parts _ _ e).0

  body_simple : (o : Option Body) → is_plain_body is_short_text core o ≡ true → IfSome o (λ b. AreSimpleStatements core (stmts_of b.statements.items))
  body_simple None e = tt
  body_simple (Some b) e = statements_shown is_short_text core (simple_asks core) simple_shown (stmts_of b.statements.items) e

  routine_simple : (x : Routine) → is_plain_routine is_short_text core x ≡ true → IsSimpleRoutine core x
  routine_simple x e =
      let owner = and_parts (is_of_unit x.owner) _ e in
      let enclosing = and_parts (is_none x.enclosing) _ owner.1 in
      let result = and_parts (is_plain_result core x.result) _ enclosing.1 in
      let body = and_parts (takes_few x.parameters.count) _ result.1 in
      record { owner = of_unit x.owner owner.0; enclosing = none_is x.enclosing enclosing.0; result = result_simple x.result result.0; body = body_simple x.body body.1 }

  variable_solid : (v : Variable) → is_plain_variable core v ≡ true → IsSolidType core v.of
  variable_solid v e = (and_parts _ _ (and_parts (begins_itself v) _ (and_parts (is_plain_role v.role) _ e).1).1).0

  variable_begins : (v : Variable) → is_plain_variable core v ≡ true → is_reference v.role ≡ true → v.first_value ≡ None
  variable_begins v e = begins_so core v (and_parts (begins_itself v) _ (and_parts (is_plain_role v.role) _ e).1).0

pub simple_program : (core : Core) → Tests core → IsSimpleProgram core
simple_program core tests =
    let arrays = all_pass (is_counted core) (IsCounted core) core.types (counted core) tests.arrays in
    record {
      arrays = λ n t is_there. each_row (IsCounted core) core.types n t arrays is_there;
      parameters = all_pass (is_solid_parameter core) (λ p. IsSolidType core p.of) core.parameters (λ p h. h) tests.parameters;
      variables = all_pass (is_plain_variable core) (λ v. IsSolidType core v.of) core.variables (variable_solid core) tests.variables;
      references = all_pass (is_plain_variable core) (λ v. is_reference v.role ≡ true → v.first_value ≡ None) core.variables (variable_begins core) tests.variables;
      routines = all_pass (is_plain_routine is_short_text core) (IsSimpleRoutine core) core.routines (routine_simple core) tests.routines;
      units = all_pass (is_plain_unit core) (IsSimpleUnit core) core.units (simple_unit core) tests.units;
    }
