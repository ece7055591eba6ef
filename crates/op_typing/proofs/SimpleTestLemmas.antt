-- A program that passes the test is without strings and references.
use Rattle.std.proofs.Common.{◌≡◌, ◌<◌, ℕ, ◌^◌, Bool, true, false, not, ◌||◌, List, [], ◌∷◌, length, nat_lt, Option, Some, None, slice_get, IfSome, refl}
use Rattle.std.proofs.lemmas.Bool.{ltb-true}
use Rattle.std.proofs.lemmas.List.Elements.{All-cons, All-nil}
use Rattle.std.specs.Cmp.{first_so, second_so}
use Rattle.std.specs.List.{All, list_all}
use Rattle.std.specs.Prelude.{IsSomeAnd}
use Rattle.op_core.specs.Expression.{Root, constant, variable, object, call, construct, set, eof, eoln, Action, bracket, index, method, operate, apply, Argument, value, place, array, listed}
use Rattle.op_core.specs.Sizes.{type_at, range_of, values_of}
use Rattle.op_core.specs.Statement.{Statements, stmts_of}
use Rattle.op_core.specs.declared.constant.Const.TheVariants.{Ordinal, Text, Set as SetOf, Nil as NilOf}
use Rattle.op_core.specs.declared.ids.RoutineId.{RoutineId}
use Rattle.op_core.specs.declared.ids.TypeId.{TypeId}
use Rattle.op_core.specs.declared.program.Core.{Core}
use Rattle.op_core.specs.declared.program.Unit.{Unit as UnitRow}
use Rattle.op_core.specs.declared.routine.Body.{Body}
use Rattle.op_core.specs.declared.routine.Owner.{Owner}
use Rattle.op_core.specs.declared.routine.Owner.TheVariants.{Unit as OfUnit}
use Rattle.op_core.specs.declared.routine.Routine.{Routine}
use Rattle.op_core.specs.declared.routine.Variable.{Variable}
use Rattle.op_core.specs.declared.types.CoreType.{CoreType}
use Rattle.op_core.specs.declared.types.CoreType.TheVariants.{Array}
use Rattle.op_meaning.proofs.EachNode.{told_in}
use Rattle.op_meaning.specs.Every.{Node, at_argument, at_copy, at_handlers, at_input, at_root, at_step, at_strings, statements_works}
use Rattle.op_meaning.specs.Shapes.{is_reference}
use Rattle.op_typing.proofs.Rows.{each_row, not_true}
use Rattle.op_typing.specs.Simple.{AreSimpleStatements, IsCounted, IsProcedure, IsSimpleProgram, IsSimpleRoutine, IsSimpleUnit, IsSolidType, SimpleArgument, SimpleNode, SimpleRoot, SimpleStep, simple_asks}
use Rattle.op_typing.specs.SimpleTests.{are_simple_statements, begins_itself, gives_nothing, is_counted, is_none, is_of_unit, is_procedure, is_short_text, is_simple_argument, is_simple_body, is_simple_node, is_simple_program, is_simple_root, is_simple_routine, is_simple_step, is_simple_unit, is_solid_parameter, is_solid_result, is_solid_variable, simple_tests}
use Rattle.op_typing.specs.Typed.{IsShortText}

-- what each element passes holds of each
pub all_pass : {A : Type 0} (test : A → Bool) (P : A → Type 0) (xs : List A) → ((a : A) → test a ≡ true → P a) → list_all test xs ≡ true → All P xs
all_pass test P [] f e = All-nil P
all_pass test P (x ∷ xs) f e = All-cons P x xs (f x (first_so (test x) (list_all test xs) e)) (all_pass test P xs f (second_so (test x) (list_all test xs) e))

pub short : (text : List ℕ) → is_short_text text ≡ true → IsShortText text
short text e = (ltb-true (length text) (2 ^ 31) (first_so _ _ e), all_pass (λ b. nat_lt b 256) (λ b. b < 256) text (λ b. ltb-true b 256) (second_so _ _ e))

pub none_is : {A : Type 0} (o : Option A) → is_none o ≡ true → o ≡ None
none_is None e = refl
none_is (Some a) e = absurd (not_true e)

pub of_unit : (owner : Owner) → is_of_unit owner ≡ true → owner ≡ OfUnit
of_unit OfUnit e = refl
of_unit _ e = absurd (not_true e)

module _ (core : Core) where
  root_told : (root : Root) (of : TypeId) (b : Bool) (Q : Type 0) → (b ≡ true → Q) → is_simple_root core root of b ≡ true → SimpleRoot core root of Q
  root_told (constant (Text bytes) nodes words) of b Q f e = short bytes e
  root_told (constant (Ordinal n) nodes words) of b Q f e = e
  root_told (constant (SetOf es) nodes words) of b Q f e = e
  root_told (constant NilOf nodes words) of b Q f e = e
  root_told (variable id) of b Q f e = e
  root_told (object id) of b Q f e = e
  root_told (call id given) of b Q f e = (first_so _ _ e, f (second_so _ _ e))
  root_told (construct c id given) of b Q f e = not_true e
  root_told (set es) of b Q f e = (first_so _ _ e, f (second_so _ _ e))
  root_told eof of b Q f e = e
  root_told eoln of b Q f e = e

  step_told : (text : Bool) (action : Action) (next : TypeId) (b : Bool) (Q : Type 0) → (b ≡ true → Q) → is_simple_step core text action next b ≡ true → SimpleStep core text action next Q
  step_told true bracket next b Q f e = tt
  step_told true (index i) next b Q f e = (f (first_so _ _ e), second_so _ _ e)
  step_told true (apply function checked) next b Q f e = (first_so _ _ e, second_so _ _ e)
  step_told true _ next b Q f e = not_true e
  step_told false (index i) next b Q f e = (f (first_so _ _ e), second_so _ _ e)
  step_told false (operate operator checked i) next b Q f e = (f (first_so _ _ e), second_so _ _ e)
  step_told false (method id dispatch given) next b Q f e = not_true e
  step_told false _ next b Q f e = e

  argument_told : (a : Argument) (b : Bool) (Q : Type 0) → (b ≡ true → Q) → is_simple_argument a b ≡ true → SimpleArgument a Q
  argument_told (value a) b Q f e = f e
  argument_told (place a) b Q f e = f e
  argument_told (array a) b Q f e = not_true e
  argument_told (listed of es) b Q f e = not_true e

  node_told : (n : Node) (b : Bool) (Q : Type 0) → (b ≡ true → Q) → is_simple_node core n b ≡ true → SimpleNode core n Q
  node_told (at_root root of) b Q f e = root_told root of b Q f e
  node_told (at_step text action next) b Q f e = step_told text action next b Q f e
  node_told (at_argument a) b Q f e = argument_told a b Q f e
  node_told at_copy b Q f e = tt
  node_told at_input b Q f e = tt
  node_told at_strings b Q f e = tt
  node_told at_handlers b Q f e = tt
  node_told _ b Q f e = f e

  simple_statements : (ss : Statements) → are_simple_statements core ss ≡ true → AreSimpleStatements core ss
  simple_statements ss e = told_in (simple_tests core) (simple_asks core) (record { at_node = node_told; at_amount = λ a f. f }) (statements_works ss) e

  -- ---- tables

  pub counted : (t : CoreType) → is_counted core t ≡ true → IsCounted core t
  counted (Array at element) e = ltb-true (values_of (range_of (type_at core at))) (2 ^ 31) e
  counted _ e = tt

  pub result_solid : (result : Option TypeId) → is_solid_result core result ≡ true → IfSome result (IsSolidType core)
  result_solid None e = tt
  result_solid (Some of) e = e

  body_simple : (o : Option Body) → is_simple_body core o ≡ true → IfSome o (λ b. AreSimpleStatements core (stmts_of b.statements.items))
  body_simple None e = tt
  body_simple (Some b) e = simple_statements (stmts_of b.statements.items) e

  simple_routine : (x : Routine) → is_simple_routine core x ≡ true → IsSimpleRoutine core x
  simple_routine x e =
      let rest = second_so _ _ e in
      let last = second_so _ _ rest in
      record { owner = of_unit x.owner (first_so _ _ e); enclosing = none_is x.enclosing (first_so _ _ rest); result = result_solid x.result (first_so _ _ last); body = body_simple x.body (second_so _ _ last) }

  procedure : (part : Option RoutineId) → is_procedure core part ≡ true → IsProcedure core part
  procedure None e = tt
  procedure (Some q) e = by (slice_get core.routines q.0) e
    where
      by : (o : Option Routine) → gives_nothing o ≡ true → IsSomeAnd o (λ x. x.result ≡ None)
      by None e = not_true e
      by (Some x) e = none_is x.result e

  pub simple_unit : (u : UnitRow) → is_simple_unit core u ≡ true → IsSimpleUnit core u
  simple_unit u e = (procedure u.initialization (first_so _ _ e), procedure u.finalization (second_so _ _ e))

  pub begins_so : (v : Variable) → begins_itself v ≡ true → is_reference v.role ≡ true → v.first_value ≡ None
  begins_so v e refers = none_is v.first_value (by (is_reference v.role) (is_none v.first_value) e refers)
    where
      by : (a b : Bool) → (not a || b) ≡ true → a ≡ true → b ≡ true
      by true b e refers = e
      by false b e refers = absurd (not_true refers)

pub simple_by_test : (core : Core) → is_simple_program core ≡ true → IsSimpleProgram core
unfolding is_simple_program
simple_by_test core e =
    let parameters = second_so _ _ e in
    let variables = second_so _ _ parameters in
    let references = second_so _ _ variables in
    let routines = second_so _ _ references in
    let arrays = all_pass (is_counted core) (IsCounted core) core.types (counted core) (first_so _ _ e) in
    record {
      arrays = λ n t is_there. each_row (IsCounted core) core.types n t arrays is_there;
      parameters = all_pass (is_solid_parameter core) (λ p. IsSolidType core p.of) core.parameters (λ p h. h) (first_so _ _ parameters);
      variables = all_pass (is_solid_variable core) (λ v. IsSolidType core v.of) core.variables (λ v h. h) (first_so _ _ variables);
      references = all_pass begins_itself (λ v. is_reference v.role ≡ true → v.first_value ≡ None) core.variables (begins_so core) (first_so _ _ references);
      routines = all_pass (is_simple_routine core) (IsSimpleRoutine core) core.routines (simple_routine core) (first_so _ _ routines);
      units = all_pass (is_simple_unit core) (IsSimpleUnit core) core.units (simple_unit core) (second_so _ _ routines);
    }
