-- The operands of typed code have their kinds.
use Rattle.std.proofs.Common.{◌≡◌, ◌<◌, ℕ, zero, suc, ◌+◌, List, [], ◌∷◌, length, Option, Some, None, slice_get, inl, inr, refl, sym, ap, ◌∙◌, subst, arith, if◌then◌else◌}
use Rattle.std.specs.Prelude.{ℤ, Bool, true, false, not, ◌&&◌, ◌||◌, map, nat_eq}
use Rattle.std.specs.List.{list_any}
use Rattle.std.specs.Option.{option_map}
use Rattle.std.specs.Ordering.{int_eq}
use Rattle.std.proofs.lemmas.Bool.{and_from}
use Rattle.std.proofs.lemmas.Bool.Decides.{nat_tests}
use Rattle.std.proofs.lemmas.Int.{ints}
use Rattle.op_constants.specs.Reaching.{Reaches}
use Rattle.op_core.proofs.Rows.{row_at, there_is}
use Rattle.op_core.specs.Rows.{rows}
use Rattle.op_core.specs.Sizes.{integer_range, type_at}
use Rattle.op_core.specs.Sound.{IsSound}
use Rattle.op_core.specs.Types.{is_same}
use Rattle.op_core.specs.declared.ids.Run.{Run}
use Rattle.op_core.specs.declared.ids.TypeId.{TypeId}
use Rattle.op_core.specs.declared.program.Core.{Core}
use Rattle.op_core.specs.declared.routine.Parameter.{Parameter as ParameterRow}
use Rattle.op_core.specs.declared.routine.Variable.{Variable}
use Rattle.op_core.specs.declared.types.CoreType.TheVariants.{Record, Array}
use Rattle.op_core.specs.declared.types.IntegerKind.{IntegerKind}
use Rattle.op_meaning.specs.Primitives.{EachOperand, IsTaken, gives, signature, sort_of}
use Rattle.op_meaning.specs.Shapes.{field_type, is_reference, part_type, shape_of, variables_of}
use Rattle.op_meaning.specs.declared.primitive.Sort.{Sort}
use Rattle.op_mir.specs.Kinds.{are_from, are_given, are_taken, begins, calls, has_kinds, is_begun, is_destined, is_found, is_found_as, is_found_kept, is_given, is_kept_as, is_kind, is_number, is_of_unit, is_received, is_same_range, is_some_kind, is_taken, leads_to, leads_to_kind, of_global, of_own, of_referred, type_behind, type_behind_all, type_of_element, type_of_field, type_of_path, type_of_root}
use Rattle.op_mir.specs.Shapes.{is_composite, kind_of}
use Rattle.op_mir.specs.View.{view_action, view_destination, view_given, view_operand, view_path, view_receiver, view_root, view_step}
use Rattle.op_mir.specs.declared.action.Action.{Action}
use Rattle.op_mir.specs.declared.action.Action.TheVariants.{Constant, Load, Store, Copy, Look, BeginWith, Pick, Compute, Do}
use Rattle.op_mir.specs.declared.action.Destination.{Destination}
use Rattle.op_mir.specs.declared.action.Destination.TheVariants.{Unused, InTemporary, InNew, IntoPlace, OverPlace}
use Rattle.op_mir.specs.declared.action.Operand.{Operand}
use Rattle.op_mir.specs.declared.action.Operand.TheVariants.{Number, Text, Literal}
use Rattle.op_mir.specs.declared.instruction.Call.{Call as Operands}
use Rattle.op_mir.specs.declared.instruction.Given.{Given}
use Rattle.op_mir.specs.declared.instruction.Given.TheVariants.{ByValue, ByPlace, ByCopy}
use Rattle.op_mir.specs.declared.instruction.Receiver.{Receiver}
use Rattle.op_mir.specs.declared.instruction.Receiver.TheVariants.{Nowhere, Temporary as ToTemporary, Place}
use Rattle.op_mir.specs.declared.path.Path.{Path}
use Rattle.op_mir.specs.declared.path.Root.{Root}
use Rattle.op_mir.specs.declared.path.Root.TheVariants.{Global, Local, Through, Temporary}
use Rattle.op_mir.specs.declared.path.Step.{Step}
use Rattle.op_mir.specs.declared.path.Step.TheVariants.{Field, Element}
use Rattle.op_typing.proofs.Paths.{temporary_path}
use Rattle.op_typing.proofs.Rows.{some_and}
use Rattle.op_typing.specs.Typed.{AreTypedGiven as TypedGivens, HasVariable, IsComposite, IsSingle, IsSolid, IsTypedAction as TypedAction, IsTypedCall as TypedCall, IsTypedGiven as TypedGiven, IsTypedOperand, IsTypedReceiver as TypedReceiver, OwnValue, PathTo as TypedPath, RootIs as TypedRoot, StandsFor}
use Rattle.op_correctness.proofs.Places.{global_in}

-- ---- what primitives take and give

operands_taken : (core : Core) (variables : Run) (os : List Operand) → EachOperand IsTypedOperand (map view_operand os) → are_taken core variables (map sort_of (map view_operand os)) os ≡ true
unfolding is_taken
operands_taken core variables [] typed = refl
operands_taken core variables (Number t ∷ os) typed = operands_taken core variables os typed.1
operands_taken core variables (Text path ∷ os) typed = absurd typed.0
operands_taken core variables (Literal text ∷ os) typed = operands_taken core variables os typed.1

-- nothing is given
destined : (core : Core) (variables : Run) (gives : Option Sort) (to : Destination) → gives ≡ None → IsTaken gives (view_destination to) → is_destined core variables gives to ≡ true
unfolding is_destined
destined core variables (Some sort) to nothing taken = absurd cc
destined core variables None Unused nothing taken = refl
destined core variables None (InTemporary t) nothing taken = absurd taken
destined core variables None (InNew of n) nothing taken = absurd taken
destined core variables None (IntoPlace of to old) nothing taken = absurd taken
destined core variables None (OverPlace to) nothing taken = absurd taken

-- ---- tests

when_true : {A : Type 0} (b : Bool) (x y : A) → b ≡ true → (if b then x else y) ≡ x
when_true b x y e = ap (λ c. if c then x else y) e

when_false : {A : Type 0} (b : Bool) (x y : A) → b ≡ false → (if b then x else y) ≡ y
when_false b x y e = ap (λ c. if c then x else y) e

either : (a b : Bool) → b ≡ true → (a || b) ≡ true
either true b e = refl
either false b e = e

same_number : (n : ℤ) → int_eq n n ≡ true
same_number n = grind (arith, ints)

same_range : (low high : ℤ) → is_same_range (low, high) (low, high) ≡ true
same_range low high = and_from (int_eq low low) (int_eq high high) (same_number low) (same_number high)

same_kind : (kind : IntegerKind) → is_kind (Some kind) kind ≡ true
same_kind kind = same_range (integer_range kind).0 (integer_range kind).1

same_type : (a b : TypeId) → a ≡ b → is_same a b ≡ true
same_type a b e = let number : a.0 ≡ b.0 = ap (λ (t : TypeId). t.0) e in grind (arith, nat_tests, number)

-- ---- types

module _ (core : Core) where
  kept : (of : TypeId) (kind : IntegerKind) → IsSingle core of kind → is_kept_as core of kind ≡ true
  kept of kind e = ap (λ s. is_kind (kind_of s) kind) e ∙ same_kind kind

  whole : (of : TypeId) → IsComposite core of → is_composite (shape_of core of) ≡ true
  whole of e = ap is_composite e

  solid : (of : TypeId) → IsSolid core of → is_begun core (Some of) ≡ true
  solid of (inl (kind, e)) = ap (λ s. is_some_kind (kind_of s) || is_composite s) e
  solid of (inr e) = either (is_number core of) (is_composite (shape_of core of)) (whole of e)

  -- ---- places

  own_type : (r v : ℕ) (of : TypeId) → HasVariable core r v (OwnValue of) → of_own (slice_get (rows core.variables (variables_of core r)) v) ≡ Some of
  own_type r v of (low, there) =
      let (x, is, facts) = some_and (slice_get core.variables ((variables_of core r).first + v)) (OwnValue of) there in
      ap of_own (row_at core.variables (variables_of core r) v low ∙ is) ∙ (when_false (is_reference x.role) None (Some x.of) facts.1 ∙ ap (λ t. Some t) facts.0)

  referred_type : (r v : ℕ) (of : TypeId) → HasVariable core r v (StandsFor of) → of_referred (slice_get (rows core.variables (variables_of core r)) v) ≡ Some of
  referred_type r v of (low, there) =
      let (x, is, facts) = some_and (slice_get core.variables ((variables_of core r).first + v)) (StandsFor of) there in
      ap of_referred (row_at core.variables (variables_of core r) v low ∙ is) ∙ (when_true (is_reference x.role) (Some x.of) None facts.1 ∙ ap (λ t. Some t) facts.0)

  root_typed : (r : ℕ) (root : Root) (of : TypeId) → TypedRoot core r (view_root root) of → type_of_root core (variables_of core r) root ≡ Some of
  unfolding type_of_root
  root_typed r (Global v) of (listed, there) =
      let (x, is, of_is) = some_and (slice_get core.variables v.0) (λ y. y.of ≡ of) there in
      when_true (list_any (λ id. nat_eq id.0 v.0) core.globals) (of_global (slice_get core.variables v.0)) None (global_in core.globals v.0 listed) ∙ (ap of_global is ∙ ap (λ t. Some t) of_is)
  root_typed r (Local v) of has = own_type r v.0 of has
  root_typed r (Through v) of (few, has) = referred_type r v.0 of has
  root_typed r (Temporary type n) of same = ap (λ t. Some t) same

  module _ (sound : IsSound core) where
    field_typed : (of : TypeId) (run : Run) (k : ℕ) → type_at core of ≡ Some (Record run) → k < run.count → type_of_field core (type_at core of) k ≡ Some (part_type core (type_at core of) k)
    field_typed of run k is few =
        let room = (sound.extents.behind of.0 (Record run) is).0 in
        let (f, at) = there_is core.fields (run.first + k) (omega (arith, few, room)) in
        let there = row_at core.fields run k few ∙ at in
        let found : type_of_field core (type_at core of) k ≡ Some f.of = ap (λ o. type_of_field core o k) is ∙ ap (λ o. option_map (λ g. g.of) o) there in
        let part : part_type core (type_at core of) k ≡ f.of = ap (λ o. part_type core o k) is ∙ ap field_type there in
        found ∙ ap (λ t. Some t) (sym part)

    steps_typed : (steps : List Step) (of to : TypeId) → Reaches core of (map view_step steps) to → type_behind_all core (Some of) steps ≡ Some to
    unfolding type_behind
    steps_typed [] of to reaches = ap (λ t. Some t) reaches
    steps_typed (Field type k ∷ steps) of to (same, run, is, few, reaches) =
        let here : type_behind core of (Field type k) ≡ Some (part_type core (type_at core of) k) = when_true (is_same type of) (type_of_field core (type_at core of) k) None (same_type type of same) ∙ field_typed of run k is few in
        ap (λ o. type_behind_all core o steps) here ∙ steps_typed steps (part_type core (type_at core of) k) to reaches
    steps_typed (Element type low high t ∷ steps) of to (same, index, each, is, range, reaches) =
        let bounds = ap (λ o. are_from o low high) range ∙ same_range low high in
        let part : type_of_element core (type_at core of) low high ≡ Some each = ap (λ o. type_of_element core o low high) is ∙ when_true _ (Some each) None bounds in
        let here : type_behind core of (Element type low high t) ≡ Some each = when_true (is_same type of) (type_of_element core (type_at core of) low high) None (same_type type of same) ∙ part in
        ap (λ o. type_behind_all core o steps) here ∙ steps_typed steps each to reaches

    module _ (r : ℕ) where
      abbrev variables : Run
      variables = variables_of core r

      path_typed : (path : Path) (of : TypeId) → TypedPath core r (view_path path) of → type_of_path core variables path ≡ Some of
      path_typed path of typed = ap (λ o. type_behind_all core o path.steps) (root_typed r path.root typed.from typed.root) ∙ steps_typed path.steps typed.from of typed.reaches

      leads : (path : Path) (of : TypeId) → TypedPath core r (view_path path) of → leads_to core variables path of ≡ true
      leads path of typed = ap (λ o. is_found_as o of) (path_typed path of typed) ∙ same_type of of refl

      leads_kept : (path : Path) (of : TypeId) (kind : IntegerKind) → TypedPath core r (view_path path) of → IsSingle core of kind → leads_to_kind core variables path kind ≡ true
      leads_kept path of kind typed is = ap (λ o. is_found_kept core o kind) (path_typed path of typed) ∙ kept of kind is

      -- ---- actions

      pub action_kinds : (a : Action) → TypedAction core r (view_action core r a) → has_kinds core variables a ≡ true
      unfolding has_kinds
      action_kinds (Constant to n) t = refl
      action_kinds (Load to kind from) (of, path, is) = leads_kept from of kind path is
      action_kinds (Store to kind from) (of, path, is) = leads_kept to of kind path is
      action_kinds (Copy of to from) (a, b, parts) =
          and_from (is_composite (shape_of core of) && leads_to core variables to of) (leads_to core variables from of)
          (and_from (is_composite (shape_of core of)) (leads_to core variables to of) (whole of parts) (leads to of a)) (leads from of b)
      action_kinds (Look at) (of, path) = ap is_found (path_typed at of path)
      action_kinds (BeginWith v) (variable, small, is, fits) = ap (is_begun core) (own_type r v.0 _ variable) ∙ solid _ is
      action_kinds (Pick to text index) t = refl
      action_kinds (Compute c) t = refl
      action_kinds (Do p os to) t = and_from (are_taken core variables (signature p) os) (is_destined core variables (gives p) to) (subst (λ sorts. are_taken core variables sorts os ≡ true) t.sorts (operands_taken core variables os t.each)) (destined core variables (gives p) to t.nothing t.taken)

      -- ---- calls

      given_kinds : (g : Given) (p : ParameterRow) → TypedGiven core r (view_given g) p → is_given core variables g p ≡ true
      unfolding is_given
      given_kinds (ByValue kind t) p (is, own) = and_from (is_kept_as core p.of kind) _ (kept p.of kind is) (ap not own)
      given_kinds (ByPlace path) p (to, refers) = and_from (leads_to core variables path p.of) _ (leads path p.of to) refers
      given_kinds (ByCopy of path) p (same, to, parts, own) =
          and_from (is_same of p.of && is_composite (shape_of core of) && leads_to core variables path of) _
          (and_from (is_same of p.of && is_composite (shape_of core of)) (leads_to core variables path of) (and_from (is_same of p.of) (is_composite (shape_of core of)) (same_type of p.of same) (whole of parts)) (leads path of to))
          (ap not own)

      givens_kinds : (gs : List Given) (ps : List ParameterRow) → TypedGivens core r (map view_given gs) ps → are_given core variables gs ps ≡ true
      givens_kinds [] [] typed = refl
      givens_kinds [] (p ∷ ps) typed = absurd typed
      givens_kinds (g ∷ gs) [] typed = absurd typed
      givens_kinds (g ∷ gs) (p ∷ ps) (first, typed) = and_from (is_given core variables g p) (are_given core variables gs ps) (given_kinds g p first) (givens_kinds gs ps typed)

      receiver_kinds : (result : Option TypeId) (y : Receiver) → TypedReceiver core result (view_receiver y) → is_received core variables result y ≡ true
      unfolding is_received
      receiver_kinds None Nowhere typed = refl
      receiver_kinds None (ToTemporary t) typed = absurd typed
      receiver_kinds None (Place of to) typed = absurd typed
      receiver_kinds (Some type) Nowhere typed = absurd typed
      receiver_kinds (Some type) (ToTemporary t) (kind, is) = ap (λ s. not (is_composite s)) is
      receiver_kinds (Some type) (Place of to) (same, parts, small, (n, is)) =
          let path : TypedPath core r (view_path to) type = subst (λ y. TypedPath core r y type) (sym is) (temporary_path core r type n small) in
          let own : TypedPath core r (view_path to) of = subst (TypedPath core r (view_path to)) (sym same) path in
          and_from (is_same of type && is_composite (shape_of core of)) (leads_to core variables to of)
          (and_from (is_same of type) (is_composite (shape_of core of)) (same_type of type same) (ap (λ t. is_composite (shape_of core t)) same ∙ whole type parts)) (leads to of own)

      pub call_kinds : (q : ℕ) (call : Operands) → TypedCall core r q (map view_given call.given) (view_receiver call.receiver) → calls core variables (slice_get core.routines q) call ≡ true
      call_kinds q call c =
          ap (λ o. calls core variables o call) c.there
          ∙ and_from (is_of_unit c.callee.owner && are_given core variables call.given (rows core.parameters c.callee.parameters)) (is_received core variables c.callee.result call.receiver)
          (and_from (is_of_unit c.callee.owner) (are_given core variables call.given (rows core.parameters c.callee.parameters)) (ap is_of_unit c.owner) (givens_kinds call.given (rows core.parameters c.callee.parameters) c.arguments))
          (receiver_kinds c.callee.result call.receiver c.result)
