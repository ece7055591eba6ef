-- What is stored and written, and loops that count, name no other temporaries of record and array types than a list has.
use Rattle.std.proofs.Common.{◌≡◌, ◌⊎◌, inl, inr, ℕ, ◌+◌, Bool, true, false, List, [], ◌∷◌, Option, Some, slice_get, refl, sym, ap, subst}
use Rattle.std.proofs.lemmas.Option.{none-some, same_Some}
use Rattle.op_core.specs.Members.{Kind}
use Rattle.op_core.specs.Sizes.{type_at}
use Rattle.op_core.specs.StatementTyping.{GivesElements, host}
use Rattle.op_core.specs.Typing.{Converts, base_of, element_of}
use Rattle.op_core.specs.declared.ids.TypeId.{TypeId}
use Rattle.op_core.specs.declared.ids.VariableId.{VariableId}
use Rattle.op_core.specs.declared.operation.Conversion.{Conversion}
use Rattle.op_core.specs.declared.program.Core.{Core}
use Rattle.op_core.specs.declared.routine.Variable.{Variable}
use Rattle.op_core.specs.declared.types.CoreType.{CoreType}
use Rattle.op_core.specs.declared.types.CoreType.TheVariants.{Array, Boolean, Char, Set, String}
use Rattle.op_frames.specs.Made.{AreMadeTurns}
use Rattle.op_frames.specs.Wholes.{ActionIn, AreWholesIn, IsWholeIn}
use Rattle.op_meaning.specs.Actions.{check, contains, copy, store}
use Rattle.op_meaning.specs.Expressions.{Found, Here, Now, a_text, at_path, converted, element_step, found, high_in, low_in, own, past, past_whole, path_of, ready, then_acts, whole_path}
use Rattle.op_meaning.specs.Items.{Items, act, acts, choose, none, only, then_do, ◌&◌}
use Rattle.op_meaning.specs.Paths.{with_step}
use Rattle.op_meaning.specs.Shapes.{Shape, composite, of_chars, of_elements, of_instance, shape_of, single, type_of_row, type_of_variable}
use Rattle.op_meaning.specs.Statements.{at_variable, counting, for_items, in_array, in_collection, in_set, line_end, store_variable, stored_by, write_by, write_by_now, write_text}
use Rattle.op_mir.specs.Code.{branch_if}
use Rattle.op_mir.specs.declared.path.Root.{Root}
use Rattle.op_mir.specs.declared.path.Root.TheVariants.{Temporary}
use Rattle.op_tree.specs.declared.statement.Direction.{Direction}
use Rattle.op_tree.specs.declared.statement.Direction.TheVariants.{To}
use Rattle.op_typing.proofs.Founds.{env_at}
use Rattle.op_wholes.proofs.FoundsNamed.{AreNamed, HasOwn, both, three, IsNow, place_in, variable_in, owned_path, converted_in}
use Rattle.op_wholes.proofs.ListsCovered.{IsListed}
use Rattle.op_wholes.proofs.PlacesFound.{IsAt}
use Rattle.op_wholes.proofs.TypesWhole.{IsWhole, whole_shape, array_whole, converts_from, converts_to}

module _ (core : Core) (r : ℕ) (wholes : List Root) (blocks : ℕ) where
  -- ---- assignments: a value of the type goes to a place of the other one

  pub stored_in : (of to : TypeId) (here : Here) (v target : Found) → AreNamed wholes blocks v.items → AreNamed wholes blocks target.items → IsAt target.now → IsNow core r wholes blocks target.now → (IsWhole core to → IsListed wholes (Temporary of here.whole)) → AreNamed wholes blocks (stored_by (shape_of core to) of here v target)
  stored_in of to here v target a b at now own_is = by (shape_of core to) refl
    where
      path : IsWholeIn wholes (path_of of here target.now).root
      path = place_in core r wholes blocks of here target.now at now

      by : (s : Shape) → shape_of core to ≡ s → AreNamed wholes blocks (stored_by s of here v target)
      by (single kind) e = three wholes blocks v.items target.items (only (act (store (path_of of here target.now) kind here.temp))) a b (path, tt)
      by composite e = three wholes blocks v.items target.items (only (act (copy of (path_of of here target.now) (whole_path of here)))) a b ((path, own_is (whole_shape (shape_of core to) e)), tt)
      by of_chars e = both wholes blocks v.items target.items a b
      by of_elements e = both wholes blocks v.items target.items a b
      by (of_instance holds) e = both wholes blocks v.items target.items a b

  -- ---- Write

  written_in : (o : Option CoreType) (t : ℕ) → ActionIn wholes (write_by o t)
  written_in (Some Boolean) t = tt
  written_in (Some Char) t = tt
  written_in _ t = tt

  pub value_in : (here : Here) (of : TypeId) (f : Found) (width : Items) (now : Now) → AreNamed wholes blocks f.items → AreNamed wholes blocks width → AreNamed wholes blocks (write_by_now (env_at core r) here of f width now)
  value_in here of f width (a_text bytes) a b = three wholes blocks f.items width (only (act (write_text bytes (here.temp + 1)))) a b (tt, tt)
  value_in here of f width ready a b = three wholes blocks f.items width (only (act (write_by (host core (type_at core of)) here.temp))) a b (written_in (host core (type_at core of)) here.temp, tt)
  value_in here of f width (at_path p) a b = three wholes blocks f.items width (only (act (write_by (host core (type_at core of)) here.temp))) a b (written_in (host core (type_at core of)) here.temp, tt)

  pub line_in : (here : Here) (ends : Bool) → AreNamed wholes blocks (line_end here ends)
  line_in here false = tt
  line_in here true = (tt, (tt, tt))

  -- ---- loops that count

  ends_in : (ends : Bool) (t k : ℕ) → AreWholesIn wholes (branch_if ends t k)
  ends_in true t k = tt
  ends_in false t k = tt

  counting_in : (t : ℕ) (d : Direction) (body : Items) → AreNamed wholes blocks body → AreMadeTurns (AreWholesIn wholes) blocks (counting t d body)
  counting_in t d body b = (λ k above less. tt, (tt, tt), (tt, (tt, tt)), b)

  pub turns_in : (here : Here) (v : VariableId) (d : Direction) (body : Items) → AreNamed wholes blocks body → AreNamed wholes blocks (for_items (env_at core r) here v d body)
  turns_in here v d body b =
      let stores = variable_in core r wholes blocks v in
      let turns = counting_in here.temp d (then_do (act (store_variable (env_at core r) v here.temp)) body) (stores, b) in
      (tt, ((λ k above less. tt, (tt, (tt, (turns, tt))), tt), tt))

  -- ---- loops over collections

  -- what a turn takes is of the type of the variable, if it has parts
  array_in : (here : Here) (of element : TypeId) (id : VariableId) (v : Variable) (into : Conversion) (body : Items) → slice_get core.variables id.0 ≡ Some v → Converts core into element v.of → HasOwn core wholes here.whole of → IsWhole core of → HasOwn core wholes (here.whole + 1) v.of → AreNamed wholes blocks body → AreNamed wholes blocks (in_array (env_at core r) here of element id into body)
  array_in here of element id v into body row converts own_is whole own_next b =
      let inner = past 3 (past_whole here) in
      let to = type_of_variable core id.0 in
      let same : to ≡ v.of = ap type_of_row row in
      let path = with_step (element_step core of here.temp) (whole_path of here) in
      let taken = own (env_at core r) element inner (found none (at_path path)) in
      let element_own : HasOwn core wholes inner.whole element = λ e. subst (λ t. IsListed wholes (Temporary t inner.whole)) (sym (converts_from core into element v.of converts e)) (own_next (subst (IsWhole core) (converts_from core into element v.of converts e) e)) in
      let takes = owned_path core r wholes blocks element inner path element_own (own_is whole) in
      let value = then_acts taken (converted core into to (here.temp + 3)) in
      let value_fine : AreNamed wholes blocks value.items = both wholes blocks taken.items (acts (converted core into to (here.temp + 3))) takes (converted_in core r wholes blocks into to (here.temp + 3)) in
      let stored_own : IsWhole core to → IsListed wholes (Temporary element inner.whole) = λ e.
      let there = subst (IsWhole core) same e in
      subst (λ t. IsListed wholes (Temporary t inner.whole)) (sym (converts_to core into element v.of converts there)) (own_next there) in
      let stores = stored_in element to inner value (at_variable (env_at core r) id) value_fine tt tt (variable_in core r wholes blocks id) stored_own in
      let turn = both wholes blocks (stored_by (shape_of core to) element inner value (at_variable (env_at core r) id)) body stores b in
      (tt, (tt, (counting_in here.temp To (stored_by (shape_of core to) element inner value (at_variable (env_at core r) id) & body) turn, tt)))

  set_in : (here : Here) (base : TypeId) (id : VariableId) (into : Conversion) (body : Items) → AreNamed wholes blocks body → AreNamed wholes blocks (in_set (env_at core r) here base id into body)
  set_in here base id into body b =
      let t = here.temp in
      let to = type_of_variable core id.0 in
      let stores = only (act (store_variable (env_at core r) id (t + 4))) in
      let conversions = acts (converted core into to (t + 4)) in
      let tests = acts (check (low_in core base) (high_in core base) (t + 4) (t + 1) ∷ []) in
      let inside : AreNamed wholes blocks (tests & (conversions & (stores & body))) =
      both wholes blocks tests (conversions & (stores & body)) (tt, tt)
      (three wholes blocks conversions stores body (converted_in core r wholes blocks into to (t + 4)) (variable_in core r wholes blocks id, tt) b) in
      let round = then_do (act (contains (t + 4) (t + 1) t)) (only (choose (t + 4) (tests & (conversions & (stores & body))) none)) in
      let turns = counting_in (t + 1) To round (tt, ((λ k above less. tt, inside, tt), tt)) in
      (tt, (tt, (turns, tt)))

  abbrev Gives : Option CoreType → TypeId → Type 0
  Gives o element = (element_of o ≡ Some element) ⊎ (base_of o ≡ Some element) ⊎ ((o ≡ Some String) × Kind core element Char)

  pub collection_in : (here : Here) (of element : TypeId) (id : VariableId) (v : Variable) (into : Conversion) (body : Items) → GivesElements core of element → slice_get core.variables id.0 ≡ Some v → Converts core into element v.of → HasOwn core wholes here.whole of → HasOwn core wholes (here.whole + 1) v.of → AreNamed wholes blocks body → AreNamed wholes blocks (in_collection (env_at core r) here of (type_at core of) id into body)
  collection_in here of element id v into body gives row converts own_is own_next b = by (type_at core of) refl gives
    where
      by : (o : Option CoreType) → type_at core of ≡ o → Gives o element → AreNamed wholes blocks (in_collection (env_at core r) here of o id into body)
      by (Some (Array at each)) e (inl g) = array_in here of each id v into body row (subst (λ from. Converts core into from v.of) (sym (same_Some _ _ g)) converts) own_is (array_whole core of at each e) own_next b
      by (Some (Array at each)) e (inr (inl g)) = absurd (none-some _ g)
      by (Some (Array at each)) e (inr (inr g)) = absurd (cc)
      by (Some (Set base)) e g = set_in here base id into body b
      by _ e g = tt
