-- What is found of an expression: its items are typed, and what is there is of the type.
use Rattle.std.proofs.Common.{◌≡◌, ℕ, ◌+◌, Bool, true, false, List, length, Option, Some, None, refl, sym, ap, subst, ◌∙◌, arith}
use Rattle.std.proofs.lemmas.Int.{ints}
use Rattle.std.specs.Prelude.{ℤ, pos}
use Rattle.op_constants.specs.Arranged.{IsSmall}
use Rattle.op_core.specs.Members.{There}
use Rattle.op_core.specs.Sizes.{type_at, values_of}
use Rattle.op_core.specs.Sound.{IsSound}
use Rattle.op_core.specs.Typing.{Applies, HoldsField, Indexes, IsInstance}
use Rattle.op_core.specs.declared.ids.FieldId.{FieldId}
use Rattle.op_core.specs.declared.ids.TypeId.{TypeId}
use Rattle.op_core.specs.declared.operation.Conversion.{Conversion}
use Rattle.op_core.specs.declared.operation.Function.{Function}
use Rattle.op_core.specs.declared.operation.Function.TheVariants.{Length, Low, High}
use Rattle.op_core.specs.declared.program.Core.{Core}
use Rattle.op_core.specs.declared.types.CoreType.{CoreType}
use Rattle.op_core.specs.declared.types.CoreType.TheVariants.{Record, Array, DynamicArray, OpenArray, String, Class, Interface, Nil}
use Rattle.op_meaning.specs.Actions.{Action as Act, constant, pick}
use Rattle.op_meaning.specs.Expressions.{Here, Env, Found, Now, ready, at_path, a_text, applied, applied_by, converted, element_step, looked_at, loaded, measured, measured_by, on_two, own, path_of, prefix, then_acts, then_index, then_step, two_by, goes_on_at}
use Rattle.op_meaning.specs.Items.{Items, ◌&◌, only, acts, act, also}
use Rattle.op_meaning.specs.Paths.{Path, Step, field as part_field, with_step}
use Rattle.op_meaning.specs.Shapes.{Shape, single, composite, of_chars, of_elements, of_instance, field_number, shape_of}
use Rattle.op_tree.specs.declared.operator.Operator.{Operator}
use Rattle.op_tree.specs.declared.operator.PrefixOperator.{PrefixOperator}
use Rattle.op_typing.proofs.Actions.{applied_typed, both, converted_typed, measure_word, on_two_typed, prefix_typed}
use Rattle.op_typing.proofs.Paths.{element_reaches, field_reaches, path_then, temporary_path}
use Rattle.op_typing.proofs.Rows.{not_true}
use Rattle.op_typing.proofs.Types.{IsWord, solid_small}
use Rattle.op_typing.specs.Simple.{IsSimpleProgram, IsSolidType, asks_text, is_solid}
use Rattle.op_typing.specs.Typed.{AreTyped, IsShortText, PathTo}

-- what is there: a place of the type, or a text that has a place among the literals
abbrev pub NowIs : Core → ℕ → TypeId → Now → Type 0
NowIs core r of ready = Unit {0}
NowIs core r of (at_path p) = PathTo core r p of
NowIs core r of (a_text bytes) = IsShortText bytes

-- the same where it is no place
abbrev pub IsOwn : Now → Type 0
IsOwn ready = Unit {0}
IsOwn (at_path p) = ⊥
IsOwn (a_text bytes) = IsShortText bytes

-- of a text that is written there, and of everything else, whose type is solid
abbrev pub StateIs : Core → ℕ → Bool → TypeId → Now → Type 0
StateIs core r true of now = (bytes : List ℕ) × (now ≡ a_text bytes) × IsShortText bytes
StateIs core r false of now = IsSolidType core of × NowIs core r of now

abbrev pub FoundIs : Core → ℕ → Bool → TypeId → Found → Type 0
FoundIs core r text of f = AreTyped core r f.items × StateIs core r text of f.now

pub own_now : (core : Core) (r : ℕ) (of : TypeId) (now : Now) → IsOwn now → NowIs core r of now
own_now core r of ready h = tt
own_now core r of (at_path p) h = absurd h
own_now core r of (a_text bytes) h = h

pub instance_not_solid : (o : Option CoreType) → is_solid o ≡ true → IsInstance o → ⊥
instance_not_solid (Some (Class c)) h i = not_true h
instance_not_solid (Some (Interface c)) h i = not_true h
instance_not_solid (Some Nil) h i = not_true h
instance_not_solid _ h i = i

array_indexed : (core : Core) (o : Option CoreType) (i to : TypeId) → is_solid o ≡ true → Indexes core o i to → (at : TypeId) × (each : TypeId) × (o ≡ Some (Array at each)) × (each ≡ to)
array_indexed core (Some (Array at each)) i to h k = (at, each, refl, k.1)
array_indexed core (Some (DynamicArray each)) i to h k = absurd (not_true h)
array_indexed core (Some (OpenArray each)) i to h k = absurd (not_true h)
array_indexed core (Some String) i to h k = absurd (not_true h)
array_indexed core _ i to h k = absurd k

abbrev pub env_at : Core → ℕ → Env
env_at core r = record { core = core; routine = r }

module _ (core : Core) (sound : IsSound core) (simple : IsSimpleProgram core) (r : ℕ) where
  -- ---- where it is

  pub path_typed : (of : TypeId) (here : Here) (now : Now) → IsSolidType core of → NowIs core r of now → PathTo core r (path_of of here now) of
  path_typed of here ready solid h = temporary_path core r of here.whole (solid_small core sound of solid)
  path_typed of here (at_path p) solid h = h
  path_typed of here (a_text bytes) solid h = temporary_path core r of here.whole (solid_small core sound of solid)

  loaded_typed : (s : Shape) (of : TypeId) (here : Here) (p : Path) → shape_of core of ≡ s → IsSmall core of → PathTo core r p of → AreTyped core r (loaded s of here p)
  loaded_typed (single kind) of here p e small path = ((of, path, e), tt)
  loaded_typed composite of here p e small path = ((temporary_path core r of here.whole small, path, e), tt)
  loaded_typed of_chars of here p e small path = tt
  loaded_typed of_elements of here p e small path = tt
  loaded_typed (of_instance holds) of here p e small path = tt

  -- a value of its own
  pub owned : (of : TypeId) (here : Here) (items : Items) (now : Now) (used : ℕ) → IsSmall core of → AreTyped core r items → NowIs core r of now → AreTyped core r (own (env_at core r) of here (record { items = items; now = now; used = used })).items × IsOwn (own (env_at core r) of here (record { items = items; now = now; used = used })).now
  owned of here items ready used small h k = (h, tt)
  owned of here items (at_path p) used small h k = (both core r items (loaded (shape_of core of) of here p) h (loaded_typed (shape_of core of) of here p refl small k), tt)
  owned of here items (a_text bytes) used small h k = (h, k)

  pub own_typed : (of : TypeId) (here : Here) (f : Found) → FoundIs core r false of f → AreTyped core r (own (env_at core r) of here f).items × IsOwn (own (env_at core r) of here f).now
  own_typed of here f h = owned of here f.items f.now f.used (solid_small core sound of h.1.0) h.0 h.1.1

  text_own : (of : TypeId) (here : Here) (items : Items) (now : Now) (used : ℕ) (bytes : List ℕ) → now ≡ a_text bytes → own (env_at core r) of here (record { items = items; now = now; used = used }) ≡ record { items = items; now = now; used = used }
  text_own of here items now used bytes e = subst (λ now. own (env_at core r) of here (record { items = items; now = now; used = used }) ≡ record { items = items; now = now; used = used }) (sym e) refl

  -- a text is where it was
  pub own_text : (of : TypeId) (here : Here) (f : Found) → FoundIs core r true of f → own (env_at core r) of here f ≡ f
  own_text of here f h = text_own of here f.items f.now f.used h.1.0 h.1.1

  text_is_own : (now : Now) (bytes : List ℕ) → now ≡ a_text bytes → IsShortText bytes → IsOwn now
  text_is_own now bytes e short = subst IsOwn (sym e) short

  pub any_own : (text : Bool) (of : TypeId) (here : Here) (f : Found) → FoundIs core r text of f → AreTyped core r (own (env_at core r) of here f).items × IsOwn (own (env_at core r) of here f).now
  any_own true of here f h = subst (λ g. AreTyped core r g.items × IsOwn g.now) (sym (own_text of here f h)) (h.0, text_is_own f.now h.1.0 h.1.1 h.1.2)
  any_own false of here f h = own_typed of here f h

  -- ---- steps of what is no text

  acts_then : (of next : TypeId) (here : Here) (f : Found) (actions : List Act) → FoundIs core r false of f → IsSolidType core next → AreTyped core r (acts actions) → FoundIs core r false next (then_acts (own (env_at core r) of here f) actions)
  acts_then of next here f actions h solid k =
      let o = own_typed of here f h in
      (both core r (own (env_at core r) of here f).items (acts actions) o.0 k, (solid, own_now core r next (own (env_at core r) of here f).now o.1))

  pub convert_found : (of next : TypeId) (here : Here) (f : Found) (c : Conversion) → FoundIs core r false of f → IsSolidType core next → FoundIs core r false next (then_acts (own (env_at core r) of here f) (converted core c next here.temp))
  convert_found of next here f c h solid = acts_then of next here f (converted core c next here.temp) h solid (converted_typed core sound simple r c next here.temp)

  pub bracket_found : (of next : TypeId) (here : Here) (f : Found) → FoundIs core r false of f → IsSolidType core next → FoundIs core r false next (own (env_at core r) of here f)
  bracket_found of next here f h solid = let o = own_typed of here f h in (o.0, (solid, own_now core r next (own (env_at core r) of here f).now o.1))

  pub prefix_found : (of next : TypeId) (here : Here) (f : Found) (o : PrefixOperator) (checked : Bool) → FoundIs core r false of f → IsSolidType core next → FoundIs core r false next (then_acts (own (env_at core r) of here f) (prefix o checked (type_at core of) here.temp))
  prefix_found of next here f o checked h solid = acts_then of next here f (prefix o checked (type_at core of) here.temp) h solid (prefix_typed core r o checked (type_at core of) here.temp)

  step_then : (of next : TypeId) (here : Here) (f : Found) (s : Step) (used : ℕ) → FoundIs core r false of f → IsSolidType core next → PathTo core r (with_step s (path_of of here f.now)) next → FoundIs core r false next (then_step of here s used f)
  step_then of next here f s used h solid path = (h.0, (solid, path))

  pub field_found : (of next : TypeId) (here : Here) (f : Found) (id : FieldId) → FoundIs core r false of f → HoldsField core (type_at core of) id → There core.fields id.0 (λ x. x.of ≡ next) → IsSolidType core next → FoundIs core r false next (then_step of here (part_field of (field_number core of id)) 0 f)
  field_found of next here f id h holds there solid = by (type_at core of) refl h.1.0 holds
    where
      by : (o : Option CoreType) → type_at core of ≡ o → is_solid o ≡ true → HoldsField core o id → FoundIs core r false next (then_step of here (part_field of (field_number core of id)) 0 f)
      by (Some (Record run)) e kept inside =
          step_then of next here f (part_field of (field_number core of id)) 0 h solid
          (path_then core r (path_of of here f.now) of next (part_field of (field_number core of id)) (path_typed of here f.now h.1.0 h.1.1) (field_reaches core of next run id e inside there) (solid_small core sound next solid))
      by (Some (Class c)) e kept inside = absurd (not_true kept)
      by _ e kept inside = absurd inside

  two_found : (goes_on : Option Bool) (of next : TypeId) (here : Here) (f : Found) (o : Operator) (checked : Bool) (second : Items) → AreTyped core r f.items → AreTyped core r second → IsSolidType core next → FoundIs core r false next (two_by goes_on o checked (type_at core of) here f second)
  two_found None of next here f o checked second h k solid = (both core r f.items (second & only (act (on_two o checked (type_at core of) here.temp))) h (both core r second (only (act (on_two o checked (type_at core of) here.temp))) k (on_two_typed core r o checked (type_at core of) here.temp, tt)), (solid, tt))
  two_found (Some truth) of next here f o checked second h k solid = (both core r f.items (only (also truth here.temp second)) h (k, tt), (solid, tt))

  pub operate_found : (of next : TypeId) (here : Here) (f : Found) (o : Operator) (checked : Bool) (second : Items) → FoundIs core r false of f → AreTyped core r second → IsSolidType core next → FoundIs core r false next (two_by (goes_on_at o (type_at core of)) o checked (type_at core of) here (own (env_at core r) of here f) second)
  operate_found of next here f o checked second h k solid = two_found (goes_on_at o (type_at core of)) of next here (own (env_at core r) of here f) o checked second (own_typed of here f h).0 k solid

  -- ---- elements

  indexed : (of at each : TypeId) (here : Here) (items : Items) (now : Now) (used : ℕ) (i : Items) → type_at core of ≡ Some (Array at each) → IsSolidType core of → IsSolidType core each → AreTyped core r items → NowIs core r of now → AreTyped core r i → FoundIs core r false each (then_index core of here (record { items = items; now = now; used = used }) i)
  indexed of at each here items ready used i e kept solid h n k =
      let s = element_step core of (here.temp + used) in
      let path = path_then core r (path_of of here ready) of each s (path_typed of here ready kept n) (element_reaches core sound of at each (here.temp + used) e) (solid_small core sound each solid) in
      (both core r items i h k, (solid, path))
  indexed of at each here items (at_path p) used i e kept solid h n k =
      let s = element_step core of (here.temp + used) in
      let path = path_then core r p of each s n (element_reaches core sound of at each (here.temp + used) e) (solid_small core sound each solid) in
      (both core r items i h k, (solid, path))
  indexed of at each here items (a_text bytes) used i e kept solid h n k = (both core r items (i & only (act (pick here.temp bytes here.temp))) h (both core r i (only (act (pick here.temp bytes here.temp))) k (n, tt)), (solid, tt))

  pub index_found : (of next ordinal : TypeId) (here : Here) (f : Found) (i : Items) → FoundIs core r false of f → Indexes core (type_at core of) ordinal next → IsSolidType core next → AreTyped core r i → FoundIs core r false next (then_index core of here f i)
  index_found of next ordinal here f i h indexes solid k =
      let (at, each, e, same) = array_indexed core (type_at core of) ordinal next h.1.0 indexes in
      let inner : IsSolidType core each = subst (IsSolidType core) (sym same) solid in
      subst (λ to. FoundIs core r false to (then_index core of here f i)) same (indexed of at each here f.items f.now f.used i e h.1.0 inner h.0 h.1.1 k)

  text_indexed : (of next : TypeId) (here : Here) (items : Items) (now : Now) (used : ℕ) (i : Items) (bytes : List ℕ) → now ≡ a_text bytes → IsShortText bytes → IsSolidType core next → AreTyped core r items → AreTyped core r i → FoundIs core r false next (then_index core of here (record { items = items; now = now; used = used }) i)
  text_indexed of next here items now used i bytes e short solid h k =
      subst (λ now. FoundIs core r false next (then_index core of here (record { items = items; now = now; used = used }) i)) (sym e)
      (both core r items (i & only (act (pick here.temp bytes here.temp))) h (both core r i (only (act (pick here.temp bytes here.temp))) k (short, tt)), (solid, tt))

  -- a Char of a text that is written there
  pub pick_found : (of next : TypeId) (here : Here) (f : Found) (i : Items) → FoundIs core r true of f → IsSolidType core next → AreTyped core r i → FoundIs core r false next (then_index core of here f i)
  pick_found of next here f i h solid k = text_indexed of next here f.items f.now f.used i h.1.0 h.1.1 h.1.2 solid h.0 k

  -- ---- functions

  looked_typed : (of : TypeId) (now : Now) → NowIs core r of now → AreTyped core r (looked_at now)
  looked_typed of ready h = tt
  looked_typed of (at_path p) h = ((of, h), tt)
  looked_typed of (a_text bytes) h = tt

  number_found : (of next : TypeId) (here : Here) (f : Found) (n : ℤ) (function : Function) (checked : Bool) → AreTyped core r f.items → NowIs core r of f.now → IsSolidType core next → IsWord n → FoundIs core r false next (applied_by (Some n) (env_at core r) function checked of here f)
  number_found of next here f n function checked h k solid word = (both core r f.items (looked_at f.now & only (act (constant here.temp n))) h (both core r (looked_at f.now) (only (act (constant here.temp n))) (looked_typed of f.now k) (word, tt)), (solid, tt))

  pub apply_found : (of next : TypeId) (here : Here) (f : Found) (function : Function) (checked : Bool) → FoundIs core r false of f → Applies core function of next → IsSolidType core next → FoundIs core r false next (applied_by (measured core function of f.now) (env_at core r) function checked of here f)
  apply_found of next here f function checked h applies solid = by (measured core function of f.now) refl
    where
      by : (o : Option ℤ) → measured core function of f.now ≡ o → FoundIs core r false next (applied_by o (env_at core r) function checked of here f)
      by None e = acts_then of next here f (applied core function checked of here.temp) h solid (applied_typed core sound simple r function checked of here.temp)
      by (Some n) e = number_found of next here f n function checked h.0 h.1.1 solid (measure_word core sound simple r function of next f.now n h.1.0 applies (λ bytes same. subst (NowIs core r of) same h.1.1) e)

  text_measured : (function : Function) (bytes : List ℕ) → asks_text function ≡ true → IsShortText bytes → (n : ℤ) × (measured_by function (Some (pos 1, pos (length bytes))) ≡ Some n) × IsWord n
  text_measured Length bytes asks short = let less = short.0 in (pos (values_of (Some (pos 1, pos (length bytes)))), refl, omega (arith, ints, less))
  text_measured Low bytes asks short = (pos 1, refl, omega (arith, ints))
  text_measured High bytes asks short = let less = short.0 in (pos (length bytes), refl, omega (arith, ints, less))
  text_measured _ bytes asks short = absurd (not_true asks)

  -- of a text that is written there
  pub measure_found : (of next : TypeId) (here : Here) (f : Found) (function : Function) (checked : Bool) → FoundIs core r true of f → asks_text function ≡ true → IsSolidType core next → FoundIs core r false next (applied_by (measured core function of f.now) (env_at core r) function checked of here f)
  measure_found of next here f function checked h asks solid =
      let (bytes, e, short) = h.1 in
      let (n, is_n, word) = text_measured function bytes asks short in
      let measures : measured core function of f.now ≡ Some n = ap (measured core function of) e ∙ is_n in
      subst (λ o. FoundIs core r false next (applied_by o (env_at core r) function checked of here f)) (sym measures)
      (number_found of next here f n function checked h.0 (subst (NowIs core r of) (sym e) short) solid word)
