-- What the tables of a program say of types and variables: how a value of a type is kept, what its parts are, which value a variable
-- begins with, and where a variable is found. (Free Pascal Reference Guide, "Types", "Variables" and "Initialized variables".)
use Rattle.std.specs.Prelude.{ℕ, zero, suc, ◌+◌, ◌-◌, pos, Bool, true, false, ◌&&◌, ◌||◌, List, [], ◌++◌, length, Option, Some, None, slice_get, nat_le, nat_lt, if◌then◌else◌}
use Rattle.op_core.specs.Initial.{FirstValue, constant as first_constant, parts as first_parts, FirstValues, no_values, values}
use Rattle.op_core.specs.Rows.{rows}
use Rattle.op_core.specs.Sizes.{type_at, range_of, values_of, is_com, extent_of}
use Rattle.op_core.specs.declared.class.Class.{Class as ClassRow}
use Rattle.op_core.specs.declared.constant.Const.{Const}
use Rattle.op_core.specs.declared.constant.Const.TheVariants.{Ordinal, Text, Set as SetOf, Nil as NilOf}
use Rattle.op_core.specs.declared.ids.ClassId.{ClassId}
use Rattle.op_core.specs.declared.ids.FieldId.{FieldId}
use Rattle.op_core.specs.declared.ids.Run.{Run}
use Rattle.op_core.specs.declared.ids.TypeId.{TypeId}
use Rattle.op_core.specs.declared.ids.VariableId.{VariableId}
use Rattle.op_core.specs.declared.program.Core.{Core}
use Rattle.op_core.specs.declared.routine.Owner.{Owner}
use Rattle.op_core.specs.declared.routine.Owner.TheVariants.{Unit as OfUnit}
use Rattle.op_core.specs.declared.routine.Role.{Role}
use Rattle.op_core.specs.declared.routine.Role.TheVariants.{Parameter}
use Rattle.op_core.specs.declared.routine.Routine.{Routine}
use Rattle.op_core.specs.declared.routine.Variable.{Variable}
use Rattle.op_core.specs.declared.types.CoreType.{CoreType}
use Rattle.op_core.specs.declared.types.CoreType.TheVariants.{Integer, Boolean, Char, String, Record, Array, DynamicArray, OpenArray, Class, Interface}
use Rattle.op_core.specs.declared.types.Field.{Field}
use Rattle.op_core.specs.declared.types.IntegerKind.{IntegerKind}
use Rattle.op_core.specs.declared.types.IntegerKind.TheVariants.{Unsigned8, Signed32}
use Rattle.op_tree.specs.declared.heading.ParameterMode.TheVariants.{Const_, Var, Out}
use Rattle.op_meaning.specs.Charge.{is_open}
use Rattle.op_meaning.specs.Sets.{set_of_elements}
use Rattle.op_meaning.specs.Values.{Value, number, parts, text, array, instance, empty, text_of_literal}

-- what a type is where there is none
abbrev pub no_type : TypeId
no_type = record { 0 = 0 }

-- the type of Chars
abbrev pub char_type : TypeId
char_type = record { 0 = 6 }

-- ---- how a value is kept

-- as one number, of which a store keeps the low bits of an integer type; as parts; as a string; as the name of an array; or as the
-- name of an instance, which an interface holds
pub data Shape : Type 0 where
  single : (kind : IntegerKind) → Shape
  composite : Shape
  of_chars : Shape
  of_elements : Shape
  of_instance : (holds : Bool) → Shape

abbrev pub shape_by : Core → Option CoreType → Shape
shape_by core (Some (Integer kind)) = single kind
shape_by core (Some Boolean) = single Unsigned8
shape_by core (Some Char) = single Unsigned8
shape_by core (Some (Record fields)) = composite
shape_by core (Some (Array index element)) = composite
shape_by core (Some String) = of_chars
shape_by core (Some (DynamicArray element)) = of_elements
shape_by core (Some (OpenArray element)) = of_elements
shape_by core (Some (Class c)) = of_instance false
shape_by core (Some (Interface i)) = of_instance (is_com (slice_get core.interfaces i.0))
shape_by core _ = single Signed32

abbrev pub shape_of : Core → TypeId → Shape
shape_of core of = shape_by core (type_at core of)

-- what has to be ended; of an open array that is given by value it is the array of its elements
abbrev pub is_managed : Core → TypeId → Bool
is_managed core of = (extent_of core of).managed || is_open (type_at core of)

-- ---- parts

abbrev pub field_type : Option Field → TypeId
field_type None = no_type
field_type (Some f) = f.of

-- a record has a part for each field, in order; an array has one for each value of its index type ("Record types" and "Arrays")
abbrev pub parts_by : Core → Option CoreType → ℕ
parts_by core (Some (Record fields)) = fields.count
parts_by core (Some (Array index element)) = values_of (range_of (type_at core index))
parts_by core _ = 0

abbrev pub part_type : Core → Option CoreType → ℕ → TypeId
part_type core (Some (Record fields)) k = field_type (slice_get (rows core.fields fields) k)
part_type core (Some (Array index element)) k = element
part_type core _ k = no_type

abbrev pub first_field : Option CoreType → ℕ
first_field (Some (Record fields)) = fields.first
first_field _ = 0

abbrev pub field_number : Core → TypeId → FieldId → ℕ
field_number core of f = f.0 - first_field (type_at core of)

-- ---- what variables begin with

-- all begin as zero, empty or nil; no type is made of more types than stand in front of it
abbrev pub zero_by : (TypeId → Value) → Core → Option CoreType → Shape → Value
zero_by inner core of (single kind) = number (pos 0)
zero_by inner core of composite = parts (parts_by core of) (λ k. inner (part_type core of k))
zero_by inner core of of_chars = text empty
zero_by inner core of of_elements = array None
zero_by inner core of (of_instance holds) = instance holds None

abbrev pub zero_within : ℕ → Core → TypeId → Value
zero_within zero core of = number (pos 0)
zero_within (suc n) core of = zero_by (zero_within n core) core (type_at core of) (shape_of core of)

abbrev pub zero_of : Core → TypeId → Value
zero_of core of = zero_within (suc of.0) core of

-- a constant as a value; nil is what the type begins with
abbrev pub value_of_constant : Core → TypeId → Const → Value
value_of_constant core of (Ordinal n) = number n
value_of_constant core of (Text bytes) = text (text_of_literal bytes)
value_of_constant core of (SetOf es) = number (set_of_elements es)
value_of_constant core of NilOf = zero_of core of

abbrev pub count_first : FirstValues → ℕ
count_first no_values = 0
count_first (values v vs) = suc (count_first vs)

-- A declared first value: a constant, or one for each part, in order ("Initialized variables" and "Typed constants"). The types are
-- those of the parts from this one on.
abbrev mutual
  pub first_of : Core → TypeId → FirstValue → Value
  first_of core of (first_constant c) = value_of_constant core of c
  first_of core of (first_parts vs) = parts (count_first vs) (λ k. nth_first core (part_type core (type_at core of)) vs k)

  pub nth_first : Core → (ℕ → TypeId) → FirstValues → ℕ → Value
  nth_first core types no_values k = number (pos 0)
  nth_first core types (values v vs) zero = first_of core (types 0) v
  nth_first core types (values v vs) (suc k) = nth_first core (λ j. types (suc j)) vs k

-- ---- variables

abbrev pub is_reference : Role → Bool
is_reference (Parameter Var) = true
is_reference (Parameter Out) = true
is_reference _ = false

abbrev pub variables_in : Option Routine → Run
variables_in None = record { first = 0; count = 0 }
variables_in (Some r) = r.variables

-- the rows of a routine's variables: its object, its parameters, its result, and then its locals
abbrev pub variables_of : Core → ℕ → Run
variables_of core r = variables_in (slice_get core.routines r)

-- an open array is given by reference, but for one that is given by value ("Open array parameters")
abbrev pub refers_by : Bool → Role → Bool
refers_by true (Parameter Const_) = true
refers_by other role = is_reference role

abbrev pub refers : Core → Option Variable → Bool
refers core None = false
refers core (Some v) = refers_by (is_open (type_at core v.of)) v.role

abbrev pub type_of_row : Option Variable → TypeId
type_of_row None = no_type
type_of_row (Some v) = v.of

abbrev pub type_of_variable : Core → ℕ → TypeId
type_of_variable core v = type_of_row (slice_get core.variables v)

-- of a routine's variable, which is counted from the routine's first one
abbrev pub type_of_local : Core → ℕ → ℕ → TypeId
type_of_local core r v = type_of_variable core ((variables_of core r).first + v)

abbrev pub is_local : Core → ℕ → VariableId → Bool
is_local core r v = nat_le (variables_of core r).first v.0 && nat_lt v.0 ((variables_of core r).first + (variables_of core r).count)

abbrev pub objects_in : Owner → ℕ
objects_in OfUnit = 0
objects_in _ = 1

abbrev pub result_in : Option Routine → ℕ
result_in None = 0
result_in (Some r) = objects_in r.owner + r.parameters.count

-- the variable of a routine that has its result ("Function results")
abbrev pub result_of_routine : Core → ℕ → ℕ
result_of_routine core r = result_in (slice_get core.routines r)

-- ---- the fields of an instance: those of its ancestors first, in order of declaration ("Classes")

abbrev pub fields_by : (ClassId → List Field) → Core → Option ClassRow → List Field
fields_by inner core None = []
fields_by inner core (Some x) = above x.ancestor ++ rows core.fields x.fields
  where
    above : Option ClassId → List Field
    above None = []
    above (Some a) = inner a

abbrev pub fields_within : ℕ → Core → ClassId → List Field
fields_within zero core c = []
fields_within (suc n) core c = fields_by (fields_within n core) core (slice_get core.classes c.0)

-- no class has more ancestors than there are classes
abbrev pub fields_of_class : Core → ClassId → List Field
fields_of_class core c = fields_within (suc (length core.classes)) core c

abbrev pub zero_instance : Core → ClassId → Value
zero_instance core c = parts (length (fields_of_class core c)) (λ k. zero_of core (field_type (slice_get (fields_of_class core c) k)))

abbrev pub declared_at : (ClassId → ℕ) → Core → FieldId → ClassId → Option ClassRow → ℕ
declared_at inner core f c None = 0
declared_at inner core f c (Some x) =
    if nat_le x.fields.first f.0 && nat_lt f.0 (x.fields.first + x.fields.count)
    then length (fields_of_class core c) - x.fields.count + (f.0 - x.fields.first)
    else above x.ancestor
  where
    above : Option ClassId → ℕ
    above None = 0
    above (Some a) = inner a

abbrev pub declared_within : ℕ → Core → FieldId → ClassId → ℕ
declared_within zero core f c = 0
declared_within (suc n) core f c = declared_at (declared_within n core f) core f c (slice_get core.classes c.0)

-- which part of an instance of the class the field is
abbrev pub field_of_class : Core → ClassId → FieldId → ℕ
field_of_class core c f = declared_within (suc (length core.classes)) core f c
