-- What a typed part asks of the program that it stands in, in words that stay true while the program grows: they say what its tables have,
-- and nothing of what they have not. Facts and needs are data, each with one reading: that a fact is so, and that a need is met, in a
-- program. That this lasts is proved once, over the data.
use Rattle.std.specs.Prelude.{◌≡◌, Bool, true, false, ◌&&◌, ◌⊎◌, List, [], ◌∷◌, Option, Some, None, IsSomeAnd, IsTrue}
use Rattle.std.specs.List.{All}
use Rattle.std.proofs.Common.{refl}
use Rattle.op_core.specs.Expression.{Expression, expression, Root, variable, Steps, no_steps, steps, Action, field, index}
use Rattle.op_core.specs.Members.{There, Kind, Descends, Extends, Implements, HasField, HasMethod, AsksFor}
use Rattle.op_core.specs.Rows.{Fit, Row, rows}
use Rattle.op_core.specs.Sizes.{type_at}
use Rattle.op_core.specs.Types.{is_one_type}
use Rattle.op_core.specs.declared.class.Class.{Class as RustClass}
use Rattle.op_core.specs.declared.class.Interface.{Interface as Face}
use Rattle.op_core.specs.declared.ids.ClassId.{ClassId}
use Rattle.op_core.specs.declared.ids.FieldId.{FieldId}
use Rattle.op_core.specs.declared.ids.InterfaceId.{InterfaceId}
use Rattle.op_core.specs.declared.ids.RoutineId.{RoutineId}
use Rattle.op_core.specs.declared.ids.Run.{Run}
use Rattle.op_core.specs.declared.ids.TypeId.{TypeId}
use Rattle.op_core.specs.declared.ids.VariableId.{VariableId}
use Rattle.op_core.specs.declared.program.Core.{Core}
use Rattle.op_core.specs.declared.routine.Owner.TheVariants.{Unit as OfUnit}
use Rattle.op_core.specs.declared.routine.Parameter.{Parameter}
use Rattle.op_core.specs.declared.routine.Role.{Role}
use Rattle.op_core.specs.declared.routine.Routine.{Routine}
use Rattle.op_core.specs.declared.types.CoreType.{CoreType}
use Rattle.op_core.specs.declared.types.CoreType.TheVariants.{String, Subrange, Record, Array, DynamicArray, OpenArray, Class, Nothing}
use Rattle.op_core.specs.declared.types.Field.{Field}
use Rattle.op_tree.specs.declared.heading.ParameterMode.{ParameterMode}
use Rattle.op_tree.specs.declared.heading.ParameterMode.TheVariants.{Value, Var, Const_, Out}
use Rattle.op_tree.specs.declared.heading.RoutineKind.TheVariants.{Constructor}

-- what a body may name
pub record Sees : Type 1 where
  pub variable : VariableId → Type 0
  pub routine : RoutineId → Type 0

-- ---- places

-- Whether a step leads to a place. A field of an instance and an element of a dynamic array are places by themselves, a part
-- of a record or a static array is one where that is. A character of a string is one only where characters are asked for.
abbrev pub leads_on : Bool → Option CoreType → Action → Bool → Bool
leads_on chars (Some (Class c)) (field f) so_far = true
leads_on chars (Some (Record fields)) (field f) so_far = so_far
leads_on chars (Some (Array at element)) (index i) so_far = so_far
leads_on chars (Some (OpenArray element)) (index i) so_far = so_far
leads_on chars (Some (DynamicArray element)) (index i) so_far = true
leads_on chars (Some String) (index i) so_far = chars && so_far
leads_on chars _ _ so_far = false

abbrev pub is_place_after : Bool → Core → TypeId → Steps → Bool → Bool
is_place_after chars core of no_steps so_far = so_far
is_place_after chars core of (steps action next others) so_far =
    is_place_after chars core next others (leads_on chars (type_at core of) action so_far)

abbrev pub is_variable : Root → Bool
is_variable (variable id) = true
is_variable _ = false

abbrev pub is_place : Bool → Core → Expression → Bool
is_place chars core (expression root of others) = is_place_after chars core of others (is_variable root)

-- ---- facts: what stands in the tables of a program

-- the type that a subrange is of, or the type itself
abbrev pub host : Core → Option CoreType → Option CoreType
host core (Some (Subrange base low high)) = type_at core base
host core t = t

pub data Fact : Type 1 where
  -- this, which is said of no table
  always : Type 0 → Fact
  both : Fact → Fact → Fact
  three : Fact → Fact → Fact → Fact
  four : Fact → Fact → Fact → Fact → Fact
  either : Fact → Fact → Fact
  some : {A : Type 0} → (A → Fact) → Fact
  where_so : Type 0 → Fact → Fact
  -- it is so of what is given, if there is such
  of_given : {A : Type 0} → Option A → (A → Fact) → Fact
  -- the type has this form
  of_kind : TypeId → CoreType → Fact
  -- the type has such a form, which none has that is not there
  has_form : (P : Option CoreType → Type 0) → (P None → ⊥) → TypeId → Fact
  -- the type has such a part, and it is so of that
  has_part : {A : Type 0} (of : Option CoreType → Option A) → of None ≡ None → TypeId → (A → Fact) → Fact
  part_is : {A : Type 0} (of : Option CoreType → Option A) → of None ≡ None → TypeId → A → Fact
  -- its host has a form that passes the test, which none passes that is not there
  hosted : (test : Option CoreType → Bool) → test None ≡ false → TypeId → Fact
  one_type : TypeId → TypeId → Fact
  type_there : TypeId → Fact
  field_of : FieldId → TypeId → Fact
  fields_such : Run → (Field → Type 0) → Fact
  class_such : ClassId → (RustClass → Type 0) → Fact
  interface_such : InterfaceId → (Face → Type 0) → Fact
  descends : ClassId → ClassId → Fact
  extends : InterfaceId → InterfaceId → Fact
  implements : ClassId → InterfaceId → Fact
  has_field : ClassId → FieldId → Fact
  has_method : ClassId → RoutineId → Fact
  asks_for : InterfaceId → RoutineId → Fact
  -- the class descends from Exception
  exception : ClassId → Fact
  -- the expression is a place; the first says whether characters of strings are
  placed : Bool → Expression → Fact

abbrev pub OneType : Core → TypeId → TypeId → Type 0
OneType core a b = IsTrue (is_one_type core.types a b)

abbrev pub IsSo : Core → Fact → Type 0
IsSo core (always P) = P
IsSo core (both f g) = IsSo core f × IsSo core g
IsSo core (three f g h) = IsSo core f × IsSo core g × IsSo core h
IsSo core (four f g h i) = IsSo core f × IsSo core g × IsSo core h × IsSo core i
IsSo core (either f g) = IsSo core f ⊎ IsSo core g
IsSo core (some {A = A} f) = (a : A) × IsSo core (f a)
IsSo core (where_so P f) = P → IsSo core f
IsSo core (of_given o f) = IsSomeAnd o (λ a. IsSo core (f a))
IsSo core (of_kind of t) = Kind core of t
IsSo core (has_form P never of) = P (type_at core of)
IsSo core (has_part p none of f) = IsSomeAnd (p (type_at core of)) (λ a. IsSo core (f a))
IsSo core (part_is p none of a) = p (type_at core of) ≡ Some a
IsSo core (hosted test none of) = IsTrue (test (host core (type_at core of)))
IsSo core (one_type a b) = OneType core a b
IsSo core (type_there of) = Row core.types of.0
IsSo core (field_of f of) = There core.fields f.0 (λ x. x.of ≡ of)
IsSo core (fields_such run P) = Fit core.fields run × All P (rows core.fields run)
IsSo core (class_such c P) = There core.classes c.0 P
IsSo core (interface_such i P) = There core.interfaces i.0 P
IsSo core (descends c d) = Descends core c d
IsSo core (extends i j) = Extends core i j
IsSo core (implements c i) = Implements core c i
IsSo core (has_field c f) = HasField core c f
IsSo core (has_method c r) = HasMethod core c r
IsSo core (asks_for i r) = AsksFor core i r
IsSo core (exception c) = IsSomeAnd core.exceptions (λ x. Descends core c x.exception)
IsSo core (placed chars e) = IsTrue (is_place chars core e)

-- it is so of the form of the type
abbrev pub row : TypeId → (CoreType → Fact) → Fact
row of f = has_part (λ t. t) refl of f

-- the elements of an array
abbrev pub element_of : Option CoreType → Option TypeId
element_of (Some (Array at element)) = Some element
element_of (Some (DynamicArray element)) = Some element
element_of (Some (OpenArray element)) = Some element
element_of _ = None

-- an array of this type may be given for an open array of that one
abbrev pub opens : TypeId → TypeId → Fact
opens outer of = has_part element_of refl outer (λ a. has_part element_of refl of (λ b. one_type a b))

-- ---- needs: what typed parts ask

-- what a call gives
abbrev pub GivesType : Core → Option TypeId → TypeId → Type 0
GivesType core None of = Kind core of Nothing
GivesType core (Some result) of = OneType core result of

-- whether an argument is a place
abbrev pub takes_place : ParameterMode → Bool
takes_place Value = false
takes_place Var = true
takes_place Const_ = false
takes_place Out = true

-- how a routine is called: with what its call gives, where it is no constructor
pub data Callee : Type 0 where
  plain_routine : TypeId → Callee
  constructor : Callee
  method_giving : TypeId → Callee

-- that is how it is called, and this holds besides
abbrev pub IsCalled : Core → Callee → Routine → Type 0 → Type 0
IsCalled core (plain_routine to) r P = (r.owner ≡ OfUnit) × GivesType core r.result to × P
IsCalled core constructor r P = (r.kind ≡ Constructor) × P
IsCalled core (method_giving to) r P = GivesType core r.result to × P

mutual
  pub data Need : Type 1 where
    fact : Fact → Need
    two_of : Need → Need → Need
    three_of : Need → Need → Need → Need
    four_of : Need → Need → Need → Need → Need
    each : {A : Type 0} → List A → (A → Need) → Need
    of_option : {A : Type 0} → Option A → (A → Need) → Need
    -- the type has such a part, of which this is asked
    of_part : {A : Type 0} (of : Option CoreType → Option A) → of None ≡ None → TypeId → (A → Need) → Need
    -- the variable may be named, and is so
    may_name : VariableId → (TypeId → Role → Fact) → Need
    may_call : RoutineId → Need
    calls : RoutineId → Callee → Passings → Need
    -- the value is of this type
    value_of : Valued → TypeId → Need

  -- what a value's root and its steps ask, and its type
  pub data Valued : Type 1 where
    valued : Need → Need → TypeId → Valued

  -- how an argument is passed: as a value, as a place, as an array, or as an array of what is listed
  pub data Passing : Type 1 where
    by_value : Valued → Passing
    by_place : Valued → Expression → Passing
    as_array : Need → TypeId → Passing
    as_list : TypeId → Need → Passing

  pub data Passings : Type 1 where
    no_passings : Passings
    passings : Passing → Passings → Passings

abbrev mutual
  pub IsMet : Core → Sees → Need → Type 0
  IsMet core sees (fact f) = IsSo core f
  IsMet core sees (two_of a b) = IsMet core sees a × IsMet core sees b
  IsMet core sees (three_of a b c) = IsMet core sees a × IsMet core sees b × IsMet core sees c
  IsMet core sees (four_of a b c d) = IsMet core sees a × IsMet core sees b × IsMet core sees c × IsMet core sees d
  IsMet core sees (each xs f) = All (λ x. IsMet core sees (f x)) xs
  IsMet core sees (of_option o f) = IsSomeAnd o (λ a. IsMet core sees (f a))
  IsMet core sees (of_part p none of f) = IsSomeAnd (p (type_at core of)) (λ a. IsMet core sees (f a))
  IsMet core sees (may_name id f) = sees.variable id × There core.variables id.0 (λ v. IsSo core (f v.of v.role))
  IsMet core sees (may_call id) = sees.routine id
  IsMet core sees (calls id callee ps) = There core.routines id.0 (λ r. IsCalled core callee r (ArePassed core sees (rows core.parameters r.parameters) ps))
  IsMet core sees (value_of v of) = IsValued core sees of v

  pub IsValued : Core → Sees → TypeId → Valued → Type 0
  IsValued core sees of (valued root others from) = IsMet core sees root × IsMet core sees others × OneType core from of

  pub IsPassed : Core → Sees → Parameter → Passing → Type 0
  IsPassed core sees p (by_value v) = IsValued core sees p.of v × (takes_place p.mode ≡ false)
  IsPassed core sees p (by_place v e) = IsValued core sees p.of v × (takes_place p.mode ≡ true) × IsTrue (is_place false core e)
  IsPassed core sees p (as_array c of) = IsMet core sees c × IsSo core (opens p.of of)
  IsPassed core sees p (as_list of c) = OneType core p.of of × (takes_place p.mode ≡ false) × IsMet core sees c

  pub ArePassed : Core → Sees → List Parameter → Passings → Type 0
  ArePassed core sees [] no_passings = Unit {0}
  ArePassed core sees (p ∷ ps) (passings x xs) = IsPassed core sees p x × ArePassed core sees ps xs
  ArePassed core sees _ _ = ⊥
