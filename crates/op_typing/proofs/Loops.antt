-- The items of loops that count, and of loops over collections, are typed.
use Rattle.std.proofs.Common.{◌≡◌, ◌⊎◌, inl, inr, ℕ, ◌+◌, [], ◌∷◌, Option, Some, None, slice_get, refl, sym, ap, subst, arith}
use Rattle.std.proofs.lemmas.Int.{ints}
use Rattle.std.proofs.lemmas.Option.{none-some, same_Some, slice_get_within}
use Rattle.op_constants.proofs.SoundFirst.{small_type}
use Rattle.op_core.specs.Members.{Kind}
use Rattle.op_core.specs.Sizes.{type_at}
use Rattle.op_core.specs.Sound.{IsSound, within}
use Rattle.op_core.specs.StatementTyping.{Bounds, GivesElements}
use Rattle.op_core.specs.Typing.{Converts, IsOrdinal, base_of, element_of}
use Rattle.op_core.specs.declared.ids.TypeId.{TypeId}
use Rattle.op_core.specs.declared.ids.VariableId.{VariableId}
use Rattle.op_core.specs.declared.operation.Conversion.{Conversion}
use Rattle.op_core.specs.declared.program.Core.{Core}
use Rattle.op_core.specs.declared.routine.Routine.{Routine}
use Rattle.op_core.specs.declared.routine.Variable.{Variable}
use Rattle.op_core.specs.declared.types.CoreType.{CoreType}
use Rattle.op_core.specs.declared.types.CoreType.TheVariants.{Integer, Char, String, Subrange, Set, Array}
use Rattle.op_core.specs.declared.types.IntegerKind.{IntegerKind}
use Rattle.op_core.specs.declared.types.IntegerKind.TheVariants.{Signed32}
use Rattle.op_meaning.specs.Actions.{check, contains}
use Rattle.op_meaning.specs.Expressions.{Here, found, at_path, converted, element_step, high_in, low_in, own, past, past_whole, then_acts, whole_path}
use Rattle.op_meaning.specs.Items.{Items, none, then_do, ◌&◌, only, acts, act, choose}
use Rattle.op_meaning.specs.Paths.{with_step}
use Rattle.op_meaning.specs.Shapes.{single, shape_by, shape_of, type_of_row, type_of_variable}
use Rattle.op_meaning.specs.Statements.{at_variable, check_bound, counting, for_items, in_array, in_collection, in_set, store_variable, stored_by, variable_path}
use Rattle.op_tree.specs.declared.statement.Direction.{Direction}
use Rattle.op_tree.specs.declared.statement.Direction.TheVariants.{To}
use Rattle.op_typing.proofs.Actions.{both, converted_typed}
use Rattle.op_typing.proofs.Founds.{env_at, owned}
use Rattle.op_typing.proofs.Paths.{element_reaches, path_then, temporary_path}
use Rattle.op_typing.proofs.Storing.{converts_same, stored_typed, variable_stored, variable_there}
use Rattle.op_typing.proofs.Types.{fits, high_word, low_word, one_shape, ordinal_single, solid_is}
use Rattle.op_typing.specs.Simple.{IsSimpleProgram, IsSolidType}
use Rattle.op_typing.specs.Typed.{AreTyped, AreTypedTurns, IsComposite, IsSingle, IsTypedAction, PathTo}

-- a loop counts over a variable of single numbers
bounds_kind : (core : Core) (at of : TypeId) (o : Option CoreType) → type_at core at ≡ o → Bounds core at o of → (kind : IntegerKind) × (shape_by core o ≡ single kind)
bounds_kind core at of (Some (Integer kind)) e h = (kind, refl)
bounds_kind core at of (Some (Subrange base low high)) e h = (Signed32, refl)
bounds_kind core at of None e h = absurd h
bounds_kind core at of o e h = subst (λ o. (kind : IntegerKind) × (shape_by core o ≡ single kind)) e (ordinal_single core at (subst (IsOrdinal core) (sym h.0) h.1))

pub bounds_single : (core : Core) (at of : TypeId) → Bounds core at (type_at core at) of → (kind : IntegerKind) × IsSingle core at kind
bounds_single core at of h = bounds_kind core at of (type_at core at) refl h

module _ (core : Core) (sound : IsSound core) (simple : IsSimpleProgram core) (r : ℕ) (x : Routine) (is_there : slice_get core.routines r ≡ Some x) where
  counting_typed : (t : ℕ) (d : Direction) (body : Items) → AreTyped core r body → AreTypedTurns core r (counting t d body)
  counting_typed t d body h = ((tt, tt), (omega (arith, ints), (tt, tt)), h)

  bound_typed : (id : VariableId) (t : ℕ) → IsTypedAction core r (check_bound (env_at core r) id t)
  bound_typed id t = (fits _ (low_word core sound (type_of_variable core id.0)), fits _ (high_word core sound (type_of_variable core id.0)))

  pub for_typed : (here : Here) (id : VariableId) (v : Variable) (kind : IntegerKind) (d : Direction) (body : Items) → (within core r).variable id → slice_get core.variables id.0 ≡ Some v → IsSingle core v.of kind → AreTyped core r body → AreTyped core r (for_items (env_at core r) here id d body)
  for_typed here id v kind d body sees e is_single h =
      let stores = variable_stored core sound simple r x is_there id v here.temp kind sees e is_single in
      let turns = counting_typed here.temp d (then_do (act (store_variable (env_at core r) id here.temp)) body) (stores, h) in
      (tt, (((bound_typed id here.temp, (bound_typed id (here.temp + 1), (turns, tt))), tt), tt))

  -- ---- over the elements of an array

  element_path : (here : Here) (of at each : TypeId) → type_at core of ≡ Some (Array at each) → PathTo core r (with_step (element_step core of here.temp) (whole_path of here)) each
  element_path here of at each e =
      let low = slice_get_within core.types of.0 (Array at each) e in
      let behind = (sound.types of.0 (Array at each) e).1 in
      path_then core r (whole_path of here) of each (element_step core of here.temp)
      (temporary_path core r of here.whole (small_type core sound of low))
      (element_reaches core sound of at each here.temp e)
      (small_type core sound each (omega (arith, low, behind)))

  array_typed : (here : Here) (of at each : TypeId) (id : VariableId) (v : Variable) (into : Conversion) (body : Items) → type_at core of ≡ Some (Array at each) → (within core r).variable id → slice_get core.variables id.0 ≡ Some v → Converts core into each v.of → AreTyped core r body → AreTyped core r (in_array (env_at core r) here of each id into body)
  array_typed here of at each id v into body e sees is_row converts h =
      let inner = past 3 (past_whole here) in
      let to = type_of_variable core id.0 in
      let same : to ≡ v.of = ap type_of_row is_row in
      let path = element_path here of at each e in
      let taken = own (env_at core r) each inner (found none (at_path (with_step (element_step core of here.temp) (whole_path of here)))) in
      let takes = owned core sound simple r each inner none (at_path (with_step (element_step core of here.temp) (whole_path of here))) 0 path.small tt path in
      let value = then_acts taken (converted core into to (here.temp + 3)) in
      let typed : AreTyped core r value.items = both core r taken.items (acts (converted core into to (here.temp + 3))) takes.0 (converted_typed core sound simple r into to (here.temp + 3)) in
      let there = variable_there core sound simple r x is_there id v sees is_row in
      let place = subst (PathTo core r (variable_path (env_at core r) id)) (sym same) there.1 in
      let is_one : IsComposite core to → each ≡ to = λ whole. converts_same core into each to (subst (IsSolidType core) (sym same) there.0) (subst (Converts core into each) (sym same) converts) whole in
      let stores = stored_typed core r each to inner value (at_variable (env_at core r) id) typed tt place is_one in
      let turns = counting_typed here.temp To (stored_by (shape_of core to) each inner value (at_variable (env_at core r) id) & body) (both core r (stored_by (shape_of core to) each inner value (at_variable (env_at core r) id)) body stores h) in
      (low_word core sound _, (high_word core sound _, (turns, tt)))

  -- ---- over the elements of a set

  element_single : (of base : TypeId) (v : Variable) (into : Conversion) → type_at core of ≡ Some (Set base) → IsSolidType core v.of → Converts core into base v.of → (kind : IntegerKind) × IsSingle core v.of kind
  element_single of base v into e solid converts = by (solid_is core v.of solid)
    where
      by : ((kind : IntegerKind) × IsSingle core v.of kind) ⊎ IsComposite core v.of → (kind : IntegerKind) × IsSingle core v.of kind
      by (inl h) = h
      by (inr whole) =
          let ordinal = (sound.types of.0 (Set base) e).0.1 in
          let (kind, is_single) = ordinal_single core base ordinal in
          let same = converts_same core into base v.of solid converts whole in
          absurd (one_shape (shape_of core base) kind is_single (subst (IsComposite core) (sym same) whole))

  set_typed : (here : Here) (of base : TypeId) (id : VariableId) (v : Variable) (into : Conversion) (body : Items) → type_at core of ≡ Some (Set base) → (within core r).variable id → slice_get core.variables id.0 ≡ Some v → Converts core into base v.of → AreTyped core r body → AreTyped core r (in_set (env_at core r) here base id into body)
  set_typed here of base id v into body e sees is_row converts h =
      let t = here.temp in
      let to = type_of_variable core id.0 in
      let there = variable_there core sound simple r x is_there id v sees is_row in
      let (kind, is_single) = element_single of base v into e there.0 converts in
      let stores = only (act (store_variable (env_at core r) id (t + 4))) in
      let conversions = acts (converted core into to (t + 4)) in
      let tests = acts (check (low_in core base) (high_in core base) (t + 4) (t + 1) ∷ []) in
      let inside =
      both core r tests (conversions & stores & body) ((fits _ (low_word core sound base), fits _ (high_word core sound base)), tt)
      (both core r conversions (stores & body) (converted_typed core sound simple r into to (t + 4))
      (both core r stores body (variable_stored core sound simple r x is_there id v (t + 4) kind sees is_row is_single, tt) h)) in
      let round = then_do (act (contains (t + 4) (t + 1) t)) (only (choose (t + 4) (tests & conversions & stores & body) none)) in
      let turns = counting_typed (t + 1) To round (tt, ((inside, tt), tt)) in
      (low_word core sound base, (high_word core sound base, (turns, tt)))

  abbrev Gives : Option CoreType → TypeId → Type 0
  Gives o element = (element_of o ≡ Some element) ⊎ (base_of o ≡ Some element) ⊎ ((o ≡ Some String) × Kind core element Char)

  -- what a loop goes over
  pub collection_typed : (here : Here) (of element : TypeId) (id : VariableId) (v : Variable) (into : Conversion) (body : Items) → GivesElements core of element → (within core r).variable id → slice_get core.variables id.0 ≡ Some v → Converts core into element v.of → AreTyped core r body → AreTyped core r (in_collection (env_at core r) here of (type_at core of) id into body)
  collection_typed here of element id v into body gives sees is_row converts h = by (type_at core of) refl gives
    where
      by : (o : Option CoreType) → type_at core of ≡ o → Gives o element → AreTyped core r (in_collection (env_at core r) here of o id into body)
      by (Some (Array at each)) e (inl g) = array_typed here of at each id v into body e sees is_row (subst (λ from. Converts core into from v.of) (sym (same_Some _ _ g)) converts) h
      by (Some (Array at each)) e (inr (inl g)) = absurd (none-some _ g)
      by (Some (Array at each)) e (inr (inr g)) = absurd (cc)
      by (Some (Set base)) e (inl g) = absurd (none-some _ g)
      by (Some (Set base)) e (inr (inl g)) = set_typed here of base id v into body e sees is_row (subst (λ from. Converts core into from v.of) (sym (same_Some _ _ g)) converts) h
      by (Some (Set base)) e (inr (inr g)) = absurd (cc)
      by _ e g = tt
