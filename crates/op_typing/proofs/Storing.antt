-- Values are stored at places of their types.
use Rattle.std.proofs.Common.{◌≡◌, inl, inr, ℕ, ◌+◌, Bool, true, false, List, [], ◌∷◌, ◌++◌, length, map, Option, Some, None, slice_get, refl, sym, ap, subst, ◌∙◌, arith}
use Rattle.std.proofs.lemmas.Option.{none-some, same_Some, slice_get-map}
use Rattle.std.specs.Option.{option_map}
use Rattle.std.specs.Prelude.{ℤ, IsSomeAnd, IsTrue}
use Rattle.op_constants.proofs.TypesArranged.{many_rows}
use Rattle.op_core.proofs.Rows.{row_at}
use Rattle.op_core.specs.Expression.{Expression, expression, Root, variable, Steps, no_steps, steps, bracket}
use Rattle.op_core.specs.Rows.{rows}
use Rattle.op_core.specs.Sizes.{range_of, type_at}
use Rattle.op_core.specs.Sound.{IsSound, IsRoutine, RoleAndType, role_and_type, within}
use Rattle.op_core.specs.Typing.{Converts, IsImplemented, IsInstance, IsOrdinal, IsUp, IsWider, is_place, is_place_after, is_reference as is_pointer, is_set, is_variable, leads_on, type_of}
use Rattle.op_core.specs.declared.ids.TypeId.{TypeId}
use Rattle.op_core.specs.declared.ids.VariableId.{VariableId}
use Rattle.op_core.specs.declared.operation.Conversion.{Conversion}
use Rattle.op_core.specs.declared.operation.Conversion.TheVariants.{Keep, LowBits, Check, ToString, ToInterface, Instance}
use Rattle.op_core.specs.declared.program.Core.{Core}
use Rattle.op_core.specs.declared.routine.Owner.{Owner}
use Rattle.op_core.specs.declared.routine.Owner.TheVariants.{Unit as OfUnit}
use Rattle.op_core.specs.declared.routine.Parameter.{Parameter as ParameterRow}
use Rattle.op_core.specs.declared.routine.Role.TheVariants.{Result}
use Rattle.op_core.specs.declared.routine.Routine.{Routine}
use Rattle.op_core.specs.declared.routine.Variable.{Variable}
use Rattle.op_core.specs.declared.types.CoreType.{CoreType}
use Rattle.op_core.specs.declared.types.CoreType.TheVariants.{String, Set, Record, Array, DynamicArray, OpenArray, Class, Interface, Nil, EmptySet}
use Rattle.op_core.specs.declared.types.IntegerKind.{IntegerKind}
use Rattle.op_core.specs.declared.types.IntegerKind.TheVariants.{Signed32}
use Rattle.op_meaning.specs.Actions.{store, copy as copied}
use Rattle.op_meaning.specs.Every.{is_text}
use Rattle.op_meaning.specs.Expressions.{Here, Found, path_of, whole_path}
use Rattle.op_meaning.specs.Items.{◌&◌, only, act}
use Rattle.op_meaning.specs.Paths.{in_local}
use Rattle.op_meaning.specs.Shapes.{Shape, single, composite, of_chars, of_elements, of_instance, is_reference, result_of_routine, shape_by, shape_of, type_of_row, type_of_variable, variables_of}
use Rattle.op_meaning.specs.Statements.{kind_by, kind_of, result_path, store_variable, stored_by, variable_path}
use Rattle.op_typing.proofs.Actions.{both}
use Rattle.op_typing.proofs.Expressions.{is_text_at_end, text_end, variable_typed}
use Rattle.op_typing.proofs.Founds.{FoundIs, env_at}
use Rattle.op_typing.proofs.Paths.{has_rows, root_path, rows_of, temporary_path}
use Rattle.op_typing.proofs.Rows.{each_row, not_true, of_some, row_low}
use Rattle.op_typing.proofs.Types.{one_back_solid, one_shape, ordinal_single, set_single, solid_small}
use Rattle.op_typing.specs.Simple.{IsSimpleProgram, IsSimpleRoutine, IsSolidType, is_solid}
use Rattle.op_typing.specs.Typed.{AreTyped, HasVariable, IsComposite, IsSingle, IsTypedAction, OwnValue, PathTo}

-- ---- a text that is written there is no place

leads_bracket : (chars : Bool) (o : Option CoreType) (so_far : Bool) → leads_on chars o bracket so_far ≡ false
leads_bracket chars (Some (Class c)) so_far = refl
leads_bracket chars (Some (Record fields)) so_far = refl
leads_bracket chars (Some (Array at element)) so_far = refl
leads_bracket chars (Some (OpenArray element)) so_far = refl
leads_bracket chars (Some (DynamicArray element)) so_far = refl
leads_bracket chars (Some String) so_far = refl
leads_bracket chars _ so_far = refl

text_no_place : (chars : Bool) (core : Core) (text : Bool) (of : TypeId) (others : Steps) (so_far : Bool) → (text ≡ true → so_far ≡ false) → text_end text others ≡ true → is_place_after chars core of others so_far ≡ false
text_no_place chars core text of no_steps so_far none e = none e
text_no_place chars core true of (steps bracket next others) so_far none e = text_no_place chars core true next others (leads_on chars (type_at core of) bracket so_far) (λ is. leads_bracket chars (type_at core of) so_far) e
text_no_place chars core false of (steps action next others) so_far none e = text_no_place chars core false next others (leads_on chars (type_at core of) action so_far) (λ is. absurd (not_true is)) e
text_no_place chars core true of (steps action next others) so_far none e = text_no_place chars core false next others (leads_on chars (type_at core of) action so_far) (λ is. absurd (not_true is)) e

text_is_none : (root : Root) → is_text root ≡ true → is_variable root ≡ false
text_is_none (variable id) e = absurd (not_true e)
text_is_none _ e = refl

place_no_text : (chars : Bool) (core : Core) (e : Expression) → IsTrue (is_place chars core e) → is_text_at_end e ≡ true → ⊥
place_no_text chars core (expression root of others) place e = not_true (sym (text_no_place chars core (is_text root) of others (is_variable root) (text_is_none root) e) ∙ place)

-- what is found of a place is none
pub place_state : (chars : Bool) (core : Core) (r : ℕ) (e : Expression) (f : Found) → IsTrue (is_place chars core e) → FoundIs core r (is_text_at_end e) (type_of e) f → FoundIs core r false (type_of e) f
place_state chars core r e f place h = by (is_text_at_end e) refl h
  where
    by : (text : Bool) → is_text_at_end e ≡ text → FoundIs core r text (type_of e) f → FoundIs core r false (type_of e) f
    by true is h = absurd (place_no_text chars core e place is)
    by false is h = h

-- ---- conversions between values with parts are none

nil_up : (o : Option CoreType) → is_solid o ≡ true → IsTrue (is_pointer o) → ⊥
nil_up (Some (Class c)) solid h = not_true solid
nil_up (Some (Interface i)) solid h = not_true solid
nil_up (Some (DynamicArray element)) solid h = not_true solid
nil_up (Some Nil) solid h = not_true solid
nil_up _ solid h = not_true h

set_up : (core : Core) (o : Option CoreType) → shape_by core o ≡ composite → IsTrue (is_set o) → ⊥
set_up core (Some (Set base)) whole h = one_shape (single Signed32) Signed32 refl whole
set_up core (Some EmptySet) whole h = one_shape (single Signed32) Signed32 refl whole
set_up core _ whole h = not_true h

up_solid : (core : Core) (from to : Option CoreType) → is_solid to ≡ true → shape_by core to ≡ composite → IsUp core from to → ⊥
up_solid core (Some (Class c)) (Some (Class d)) solid whole h = not_true solid
up_solid core (Some (Interface i)) (Some (Interface j)) solid whole h = not_true solid
up_solid core (Some Nil) (Some t) solid whole h = nil_up (Some t) solid h
up_solid core (Some EmptySet) (Some t) solid whole h = set_up core (Some t) whole h
up_solid core (Some t) (Some u) solid whole h = h
up_solid core (Some t) None solid whole h = h
up_solid core None to solid whole h = h

interface_solid : (core : Core) (from to : Option CoreType) → is_solid to ≡ true → IsImplemented core from to → ⊥
interface_solid core (Some (Class c)) (Some (Interface i)) solid h = not_true solid
interface_solid core (Some t) (Some u) solid h = h
interface_solid core (Some t) None solid h = h
interface_solid core None to solid h = h

instance_solid : (o : Option CoreType) → is_solid o ≡ true → IsInstance o → ⊥
instance_solid (Some (Class c)) h i = not_true h
instance_solid (Some (Interface c)) h i = not_true h
instance_solid (Some Nil) h i = not_true h
instance_solid _ h i = i

wider_ordinal : (q r : Option (ℤ × ℤ)) → IsWider q r → IsSomeAnd r (λ range. Unit {0})
wider_ordinal (Some q) (Some r) h = tt
wider_ordinal _ _ h = absurd h

not_ordinal : (core : Core) (of : TypeId) → IsOrdinal core of → IsComposite core of → ⊥
not_ordinal core of h whole = let (kind, e) = ordinal_single core of h in one_shape (shape_of core of) kind e whole

pub converts_same : (core : Core) (c : Conversion) (from to : TypeId) → IsSolidType core to → Converts core c from to → IsComposite core to → from ≡ to
converts_same core Keep from to solid (inl h) whole = one_back_solid core from to h solid
converts_same core Keep from to solid (inr (inl h)) whole = absurd (up_solid core (type_at core from) (type_at core to) solid whole h)
converts_same core Keep from to solid (inr (inr h)) whole = absurd (not_ordinal core to (wider_ordinal (range_of (type_at core from)) (range_of (type_at core to)) h) whole)
converts_same core LowBits from to solid h whole = absurd (not_ordinal core to h.1 whole)
converts_same core Check from to solid (inl h) whole = absurd (not_ordinal core to h.1 whole)
converts_same core Check from to solid (inr h) whole = absurd (one_shape (shape_of core to) Signed32 (set_single core to h.1) whole)
converts_same core ToString from to solid h whole = absurd (not_true (sym (ap is_solid h.1) ∙ solid))
converts_same core ToInterface from to solid h whole = absurd (interface_solid core (type_at core from) (type_at core to) solid h)
converts_same core Instance from to solid h whole = absurd (instance_solid (type_at core to) solid h.1)

-- ---- stores

single_is : (s : Shape) (kind : IntegerKind) → s ≡ single kind → s ≡ single (kind_by s)
single_is s kind e = subst (λ s. s ≡ single (kind_by s)) (sym e) refl

-- the kind of a type of single numbers
pub kind_is : (core : Core) (of : TypeId) (kind : IntegerKind) → IsSingle core of kind → IsSingle core of (kind_of core of)
kind_is core of kind e = single_is (shape_of core of) kind e

pub stored_typed : (core : Core) (r : ℕ) (of to : TypeId) (here : Here) (v target : Found) → AreTyped core r v.items → AreTyped core r target.items → PathTo core r (path_of of here target.now) to → (IsComposite core to → of ≡ to) → AreTyped core r (stored_by (shape_of core to) of here v target)
stored_typed core r of to here v target h k path same = by (shape_of core to) refl
  where
    by : (s : Shape) → shape_of core to ≡ s → AreTyped core r (stored_by s of here v target)
    by (single kind) e = both core r v.items (target.items & only (act (store (path_of of here target.now) kind here.temp))) h (both core r target.items (only (act (store (path_of of here target.now) kind here.temp))) k ((to, path, e), tt))
    by composite e =
        let there : PathTo core r (path_of of here target.now) of = subst (PathTo core r (path_of of here target.now)) (sym (same e)) path in
        both core r v.items (target.items & only (act (copied of (path_of of here target.now) (whole_path of here)))) h (both core r target.items (only (act (copied of (path_of of here target.now) (whole_path of here)))) k ((there, temporary_path core r of here.whole there.small, subst (IsComposite core) (sym (same e)) e), tt))
    by of_chars e = both core r v.items target.items h k
    by of_elements e = both core r v.items target.items h k
    by (of_instance holds) e = both core r v.items target.items h k

-- ---- results

pub result_at : (ps : List ParameterRow) (of : TypeId) (others : List RoleAndType) → slice_get (rows_of ps (Some of) ++ others) (length ps) ≡ Some (Result, of)
result_at [] of others = refl
result_at (p ∷ ps) of others = result_at ps of others

pub mapped_is : {A B : Type 0} (f : A → B) (o : Option A) (b : B) → option_map f o ≡ Some b → (a : A) × (o ≡ Some a) × (f a ≡ b)
mapped_is f None b e = absurd (none-some _ e)
mapped_is f (Some a) b e = (a, refl, same_Some _ _ e)

abbrev objects : Owner → ℕ
objects OfUnit = 0
objects _ = 1

abbrev result_by : Option Routine → ℕ
result_by None = 0
result_by (Some y) = objects y.owner + y.parameters.count

module _ (core : Core) (sound : IsSound core) (simple : IsSimpleProgram core) (r : ℕ) (x : Routine) (is_there : slice_get core.routines r ≡ Some x) where
  pub result_number : length (rows core.parameters x.parameters) ≡ result_of_routine core r
  result_number =
      let routine = each_row (IsRoutine core) core.routines r x sound.routines is_there in
      let plain = each_row (IsSimpleRoutine core) core.routines r x simple.routines is_there in
      let none : objects OfUnit + x.parameters.count ≡ x.parameters.count = omega arith in
      let number : result_of_routine core r ≡ objects x.owner + x.parameters.count = ap result_by is_there in
      many_rows core.parameters x.parameters routine.runs.0 ∙ sym (number ∙ ap (λ owner. objects owner + x.parameters.count) plain.owner ∙ none)

  pub result_typed : (of : TypeId) → x.result ≡ Some of → IsSolidType core of → PathTo core r (result_path (env_at core r)) of
  result_typed of e solid =
      let begins = has_rows core sound simple r x is_there in
      let ps = rows core.parameters x.parameters in
      let vs = rows core.variables (variables_of core r) in
      let at : slice_get (map role_and_type vs) (length ps) ≡ Some (Result, of) = ap (λ ws. slice_get ws (length ps)) begins.are ∙ ap (λ result. slice_get (rows_of ps result ++ begins.others) (length ps)) e ∙ result_at ps of begins.others in
      let (v, row, is) = mapped_is role_and_type (slice_get vs (length ps)) (Result, of) (sym (slice_get-map role_and_type vs (length ps)) ∙ at) in
      let few = row_low core.variables (variables_of core r) (length ps) v row in
      let there = of_some (slice_get core.variables ((variables_of core r).first + length ps)) (OwnValue of) v (sym (row_at core.variables (variables_of core r) (length ps) few) ∙ row) (ap (λ o. o.1) is, ap (λ o. is_reference o.0) is) in
      root_path core r (in_local (result_of_routine core r)) of (subst (λ k. HasVariable core r k (OwnValue of)) result_number (few, there)) (solid_small core sound of solid)

  -- ---- variables that count

  pub variable_there : (id : VariableId) (v : Variable) → (within core r).variable id → slice_get core.variables id.0 ≡ Some v → IsSolidType core v.of × PathTo core r (variable_path (env_at core r) id) v.of
  variable_there id v sees e =
      let solid = each_row (λ v. IsSolidType core v.of) core.variables id.0 v simple.variables e in
      (solid, variable_typed core sound simple r x is_there id v.of sees (of_some (slice_get core.variables id.0) (λ w. w.of ≡ v.of) v e refl) solid)

  pub variable_stored : (id : VariableId) (v : Variable) (t : ℕ) (kind : IntegerKind) → (within core r).variable id → slice_get core.variables id.0 ≡ Some v → IsSingle core v.of kind → IsTypedAction core r (store_variable (env_at core r) id t)
  variable_stored id v t kind sees e is =
      let same : type_of_variable core id.0 ≡ v.of = ap type_of_row e in
      (v.of, (variable_there id v sees e).1, subst (λ of. IsSingle core v.of (kind_of core of)) (sym same) (kind_is core v.of kind is))
