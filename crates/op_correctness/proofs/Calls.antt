-- Calls of typed code are those that the agreement asks for: what they name is there, and each parameter is given what its row is to have.
use Rattle.std.proofs.Common.{◌≡◌, ◌≤◌, ℕ, List, [], ◌∷◌, length, Option, Some, None, refl, sym, ap, ◌∙◌, subst, arith}
use Rattle.std.specs.Prelude.{true, map}
use Rattle.std.proofs.lemmas.Bool.{and_from}
use Rattle.std.specs.List.{list_all}
use Rattle.op_constants.specs.Arranged.{IsSmall}
use Rattle.op_core.specs.Rows.{rows}
use Rattle.op_core.specs.Sound.{IsSound}
use Rattle.op_core.specs.declared.ids.TypeId.{TypeId}
use Rattle.op_core.specs.declared.program.Core.{Core}
use Rattle.op_core.specs.declared.routine.Parameter.{Parameter as ParameterRow}
use Rattle.op_core.specs.declared.routine.Role.TheVariants.{Parameter}
use Rattle.op_core.specs.declared.routine.Variable.{Variable}
use Rattle.op_frames.proofs.PlacesFine.{most_each}
use Rattle.op_frames.specs.Made.{Every}
use Rattle.op_lower.specs.Temporaries.{in_call, in_given, in_receiver}
use Rattle.op_meaning.specs.Expressions.{result_of}
use Rattle.op_meaning.specs.Items.{Given as MeantGiven, by_value, by_place, by_copy, Receiver as MeantReceiver, nowhere, to_temp, to_place}
use Rattle.op_meaning.specs.Paths.{in_temporary}
use Rattle.op_meaning.specs.Shapes.{is_reference, shape_of, variables_of}
use Rattle.op_mir.specs.Valid.{all_given_fit, copied_fits, given_fits, path_fits, receiver_fits}
use Rattle.op_mir.specs.View.{view_given, view_path, view_receiver}
use Rattle.op_mir.specs.declared.code.Mir.{Mir}
use Rattle.op_mir.specs.declared.code.Routine.{Routine}
use Rattle.op_mir.specs.declared.instruction.Call.{Call as Operands}
use Rattle.op_mir.specs.declared.instruction.Given.TheVariants.{ByValue, ByPlace, ByCopy}
use Rattle.op_mir.specs.declared.instruction.Given.{Given}
use Rattle.op_mir.specs.declared.instruction.Receiver.TheVariants.{Nowhere, Temporary as ToTemporary, Place}
use Rattle.op_mir.specs.declared.instruction.Receiver.{Receiver}
use Rattle.op_typing.proofs.Paths.{temporary_path}
use Rattle.op_typing.specs.Simple.{IsSimpleProgram}
use Rattle.op_typing.specs.Typed.{IsComposite, AreTypedGiven as TypedGivens, IsTypedCall as TypedCall, IsTypedGiven as TypedGiven, IsTypedReceiver as TypedReceiver, PathTo as TypedPath}
use Rattle.op_agreement.specs.Typed.{AreTypedGiven, IsTypedCall, IsTypedGiven, IsTypedReceiver, parameter_rows}
use Rattle.op_correctness.proofs.Actions.{has_it, path_there, type_there}
use Rattle.op_correctness.proofs.ParameterRows.{AreRows, parameters_stand}
use Rattle.op_correctness.proofs.Places.{path_is}

-- ---- types

module _ (core : Core) (sound : IsSound core) (r : ℕ) where
  -- what a parameter is given, by the row of its variable
  given_is : (g : MeantGiven) (p : ParameterRow) (v : Variable) → v.role ≡ Parameter p.mode → v.of ≡ p.of → TypedGiven core r g p → IsTypedGiven core r g v
  given_is (by_value kind t) p v role of (single', own) = (ap is_reference role ∙ own, ap (shape_of core) of ∙ single')
  given_is (by_place path) p v role of (to, refers) = (ap is_reference role ∙ refers, path_is core sound r path v.of (subst (TypedPath core r path) (sym of) to))
  given_is (by_copy type path) p v role of (same, to, whole, own) = (ap is_reference role ∙ own, of ∙ sym same, whole, path_is core sound r path type to)

  -- and what all are given
  givens_are : (gs : List MeantGiven) (ps : List ParameterRow) (vs : List Variable) → AreRows ps vs → TypedGivens core r gs ps → AreTypedGiven core r gs vs
  givens_are [] [] [] are typed = tt
  givens_are [] [] (v ∷ vs) are typed = absurd are
  givens_are [] (p ∷ ps) vs are typed = absurd typed
  givens_are (g ∷ gs) [] vs are typed = absurd typed
  givens_are (g ∷ gs) (p ∷ ps) [] are typed = absurd are
  givens_are (g ∷ gs) (p ∷ ps) (v ∷ vs) (role, of, are) (first, typed) = (given_is g p v role of first, givens_are gs ps vs are typed)

  -- what gets the result
  receiver_is : (result : Option TypeId) (y : MeantReceiver) → TypedReceiver core result y → IsTypedReceiver core y result
  receiver_is None nowhere h = tt
  receiver_is None (to_temp t) h = absurd h
  receiver_is None (to_place type path) h = absurd h
  receiver_is (Some of) nowhere h = absurd h
  receiver_is (Some of) (to_temp t) h = h
  receiver_is (Some of) (to_place type path) (same, whole, small, (n, is)) = (n, subst (λ y. path ≡ record { root = in_temporary y n; steps = [] }) (sym same) is, sym same, subst (IsComposite core) (sym same) whole)

  -- A typed call gives each parameter what its row is to have.
  pub call_is : IsSimpleProgram core → (q : ℕ) (gs : List MeantGiven) (y : MeantReceiver) → TypedCall core r q gs y → IsTypedCall core r q gs y
  call_is simple q gs y c = record {
    gives = givens_are gs (rows core.parameters c.callee.parameters) (parameter_rows core q) (parameters_stand core sound simple q c.callee c.there) c.arguments;
    receives = subst (IsTypedReceiver core y) (sym (ap result_of c.there)) (receiver_is c.callee.result y c.result);
  }

-- ---- what is named is there

module _ (core : Core) (sound : IsSound core) (mir : Mir) (r : ℕ) (x : Routine) (types : mir.counts.types ≡ length core.types) (variables : mir.counts.variables ≡ length core.variables) (locals : x.locals ≡ (variables_of core r).count) where
  -- temporaries, types and places that are given
  given_there : (g : Given) (p : ParameterRow) → TypedGiven core r (view_given g) p → in_given g ≤ x.temporaries → given_fits mir x g ≡ true
  unfolding given_fits copied_fits
  given_there (ByValue kind t) p typed low = has_it core sound mir r x types variables locals t low
  given_there (ByPlace path) p (to, refers) low = path_there core sound mir r x types variables locals path p.of to low
  given_there (ByCopy of path) p (same, to, whole, own) low =
      and_from _ (path_fits mir x path) (type_there core sound mir r x types variables locals of to.small) (path_there core sound mir r x types variables locals path of to low)

  -- to all parameters
  givens_there : (gs : List Given) (ps : List ParameterRow) → TypedGivens core r (map view_given gs) ps → Every (λ g. in_given g ≤ x.temporaries) gs → list_all (given_fits mir x) gs ≡ true
  givens_there [] ps typed low = refl
  givens_there (g ∷ gs) [] typed low = absurd typed
  givens_there (g ∷ gs) (p ∷ ps) (first, typed) (here, low) = and_from (given_fits mir x g) (list_all (given_fits mir x) gs) (given_there g p first here) (givens_there gs ps typed low)

  -- and what gets the result
  receiver_there : (y : Receiver) (result : Option TypeId) → TypedReceiver core result (view_receiver y) → in_receiver y ≤ x.temporaries → receiver_fits mir x y ≡ true
  unfolding receiver_fits copied_fits
  receiver_there Nowhere result typed low = refl
  receiver_there (ToTemporary t) result typed low = has_it core sound mir r x types variables locals t low
  receiver_there (Place of to) None typed low = absurd typed
  receiver_there (Place of to) (Some type) (same, whole, small, (n, is)) low =
      let own : TypedPath core r (view_path to) type = subst (λ y. TypedPath core r y type) (sym is) (temporary_path core r type n small) in
      and_from _ (path_fits mir x to) (type_there core sound mir r x types variables locals of (subst (IsSmall core) (sym same) small)) (path_there core sound mir r x types variables locals to type own low)

  -- What a typed call names is there.
  pub call_there : (q : ℕ) (call : Operands) → TypedCall core r q (map view_given call.given) (view_receiver call.receiver) → in_call call ≤ x.temporaries → (all_given_fit mir x call.given ≡ true) × (receiver_fits mir x call.receiver ≡ true)
  unfolding all_given_fit
  call_there q call c low = (
    givens_there call.given (rows core.parameters c.callee.parameters) c.arguments (most_each in_given call.given x.temporaries (omega arith)),
    receiver_there call.receiver c.callee.result c.result (omega arith),
  )
