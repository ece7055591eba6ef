-- Of which kinds the operands of managed code are: each path leads through what its steps are written for, and a number, a value with parts,
-- a place or a reference stands where such a one is asked for. What a temporary has that is one value is a number; a set and a truth value are
-- numbers too. (Free Pascal Reference Guide, "Variables", "Expressions", "Assignments" and "Parameter lists".)
use Rattle.std.specs.Prelude.{ℕ, ℤ, Bool, true, false, not, ◌&&◌, ◌||◌, List, [], ◌∷◌, Option, Some, None, nat_eq, slice_get, if◌then◌else◌}
use Rattle.std.specs.List.{list_any}
use Rattle.std.specs.Option.{option_map}
use Rattle.std.specs.Ordering.{int_eq}
use Rattle.op_core.specs.Rows.{rows}
use Rattle.op_core.specs.Sizes.{integer_range, range_of, type_at}
use Rattle.op_core.specs.Types.{is_same}
use Rattle.op_core.specs.declared.ids.Run.{Run}
use Rattle.op_core.specs.declared.ids.TypeId.{TypeId}
use Rattle.op_core.specs.declared.program.Core.{Core}
use Rattle.op_core.specs.declared.routine.Owner.{Owner}
use Rattle.op_core.specs.declared.routine.Owner.TheVariants.{Unit as OfUnit, Class, Interface}
use Rattle.op_core.specs.declared.routine.Parameter.{Parameter}
use Rattle.op_core.specs.declared.routine.Role.TheVariants.{Parameter as ParameterRole}
use Rattle.op_core.specs.declared.routine.Routine.{Routine as Row}
use Rattle.op_core.specs.declared.routine.Variable.{Variable}
use Rattle.op_core.specs.declared.types.CoreType.{CoreType}
use Rattle.op_core.specs.declared.types.CoreType.TheVariants.{Record, Array}
use Rattle.op_core.specs.declared.types.IntegerKind.{IntegerKind}
use Rattle.op_meaning.specs.Primitives.{gives, signature}
use Rattle.op_meaning.specs.Shapes.{is_reference, shape_of}
use Rattle.op_meaning.specs.declared.primitive.Sort.{Sort}
use Rattle.op_meaning.specs.declared.primitive.Sort.TheVariants.{Numeric, Textual}
use Rattle.op_mir.specs.Shapes.{is_composite, is_string, kind_of}
use Rattle.op_mir.specs.declared.action.Action.{Action}
use Rattle.op_mir.specs.declared.action.Action.TheVariants.{Constant, Load, Store, Copy, Look, BeginWith, Pick, Compute, Do}
use Rattle.op_mir.specs.declared.action.Destination.{Destination}
use Rattle.op_mir.specs.declared.action.Destination.TheVariants.{Unused, InTemporary, InNew, IntoPlace, OverPlace}
use Rattle.op_mir.specs.declared.action.Operand.{Operand}
use Rattle.op_mir.specs.declared.action.Operand.TheVariants.{Number, Text, Literal}
use Rattle.op_mir.specs.declared.ids.LocalId.{LocalId}
use Rattle.op_mir.specs.declared.instruction.Call.{Call as Operands}
use Rattle.op_mir.specs.declared.instruction.Given.{Given}
use Rattle.op_mir.specs.declared.instruction.Given.TheVariants.{ByValue, ByPlace, ByCopy}
use Rattle.op_mir.specs.declared.instruction.Receiver.{Receiver}
use Rattle.op_mir.specs.declared.instruction.Receiver.TheVariants.{Nowhere, Temporary as ToTemporary, Place}
use Rattle.op_mir.specs.declared.path.Path.{Path}
use Rattle.op_mir.specs.declared.path.Root.{Root}
use Rattle.op_mir.specs.declared.path.Root.TheVariants.{Global, Local, Through, Temporary}
use Rattle.op_mir.specs.declared.path.Step.{Step}
use Rattle.op_mir.specs.declared.path.Step.TheVariants.{Field, Element}

-- ---- types

-- they go from the same number to the same number
abbrev pub is_same_range : ℤ × ℤ → ℤ × ℤ → Bool
is_same_range a b = int_eq a.0 b.0 && int_eq a.1 b.1

abbrev pub is_kind : Option IntegerKind → IntegerKind → Bool
is_kind None kind = false
is_kind (Some own) kind = is_same_range (integer_range own) (integer_range kind)

-- values of the type are single numbers, of which a store keeps the low bits of this kind
abbrev pub is_kept_as : Core → TypeId → IntegerKind → Bool
is_kept_as core of kind = is_kind (kind_of (shape_of core of)) kind

abbrev pub is_some_kind : Option IntegerKind → Bool
is_some_kind None = false
is_some_kind (Some own) = true

-- they are single numbers
abbrev pub is_number : Core → TypeId → Bool
is_number core of = is_some_kind (kind_of (shape_of core of))

abbrev pub are_from : Option (ℤ × ℤ) → (low high : ℤ) → Bool
are_from None low high = false
are_from (Some range) low high = is_same_range range (low, high)

-- ---- places: the type of what a path leads to; none where a step is not written for what it starts from

abbrev pub of_global : Option Variable → Option TypeId
of_global None = None
of_global (Some v) = Some v.of

-- the value of the variable is its own
abbrev pub of_own : Option Variable → Option TypeId
of_own None = None
of_own (Some v) = if is_reference v.role then None else Some v.of

-- it stands for a place of the caller
abbrev pub of_referred : Option Variable → Option TypeId
of_referred None = None
of_referred (Some v) = if is_reference v.role then Some v.of else None

-- in a routine with these variables
unfoldable pub type_of_root : Core → Run → Root → Option TypeId
type_of_root core variables (Global v) = if list_any (λ id. nat_eq id.0 v.0) core.globals then of_global (slice_get core.variables v.0) else None
type_of_root core variables (Local v) = of_own (slice_get (rows core.variables variables) v.0)
type_of_root core variables (Through v) = of_referred (slice_get (rows core.variables variables) v.0)
type_of_root core variables (Temporary of n) = Some of

-- of a field of a record, by its number
abbrev pub type_of_field : Core → Option CoreType → ℕ → Option TypeId
type_of_field core (Some (Record fields)) k = option_map (λ f. f.of) (slice_get (rows core.fields fields) k)
type_of_field core _ k = None

-- of the elements of an array with these bounds
abbrev pub type_of_element : Core → Option CoreType → (low high : ℤ) → Option TypeId
type_of_element core (Some (Array index element)) low high = if are_from (range_of (type_at core index)) low high then Some element else None
type_of_element core _ low high = None

-- of the part to which a step leads from a place of the type
unfoldable pub type_behind : Core → TypeId → Step → Option TypeId
type_behind core of (Field whole k) = if is_same whole of then type_of_field core (type_at core of) k else None
type_behind core of (Element whole low high index) = if is_same whole of then type_of_element core (type_at core of) low high else None

abbrev pub type_behind_all : Core → Option TypeId → List Step → Option TypeId
type_behind_all core None steps = None
type_behind_all core (Some of) [] = Some of
type_behind_all core (Some of) (s ∷ steps) = type_behind_all core (type_behind core of s) steps

abbrev pub type_of_path : Core → Run → Path → Option TypeId
type_of_path core variables path = type_behind_all core (type_of_root core variables path.root) path.steps

-- the path leads to a place of a type, of this type, or of one whose values are numbers of the kind
abbrev pub is_found : Option TypeId → Bool
is_found None = false
is_found (Some to) = true

abbrev pub is_found_as : Option TypeId → TypeId → Bool
is_found_as None of = false
is_found_as (Some to) of = is_same to of

abbrev pub is_found_kept : Core → Option TypeId → IntegerKind → Bool
is_found_kept core None kind = false
is_found_kept core (Some to) kind = is_kept_as core to kind

abbrev pub leads_to : Core → Run → Path → TypeId → Bool
leads_to core variables path of = is_found_as (type_of_path core variables path) of

abbrev pub leads_to_kind : Core → Run → Path → IntegerKind → Bool
leads_to_kind core variables path kind = is_found_kept core (type_of_path core variables path) kind

-- ---- actions

-- a value with parts goes from place to place
abbrev pub copies : Core → Run → TypeId → Path → Path → Bool
copies core variables of to from = is_composite (shape_of core of) && leads_to core variables to of && leads_to core variables from of

abbrev pub is_begun : Core → Option TypeId → Bool
is_begun core None = false
is_begun core (Some of) = is_number core of || is_composite (shape_of core of)

-- a variable with an own value begins with a number or with parts
abbrev pub begins : Core → Run → LocalId → Bool
begins core variables v = is_begun core (of_own (slice_get (rows core.variables variables) v.0))

-- the path leads to a place of a type of strings
abbrev pub is_found_text : Core → Option TypeId → Bool
is_found_text core None = false
is_found_text core (Some to) = is_string (shape_of core to)

abbrev pub leads_to_text : Core → Run → Path → Bool
leads_to_text core variables path = is_found_text core (type_of_path core variables path)

-- the operand is of the sort
unfoldable pub is_taken : Core → Run → Sort → Operand → Bool
is_taken core variables Numeric (Number t) = true
is_taken core variables Numeric (Text path) = false
is_taken core variables Numeric (Literal text) = false
is_taken core variables Textual (Number t) = false
is_taken core variables Textual (Text path) = leads_to_text core variables path
is_taken core variables Textual (Literal text) = true

-- each is, in order
abbrev pub are_taken : Core → Run → List Sort → List Operand → Bool
are_taken core variables [] [] = true
are_taken core variables (s ∷ sorts) (o ∷ os) = is_taken core variables s o && are_taken core variables sorts os
are_taken core variables [] (o ∷ os) = false
are_taken core variables (s ∷ sorts) [] = false

-- nothing goes nowhere, and a number to a temporary
abbrev pub is_nothing : Option Sort → Bool
is_nothing None = true
is_nothing (Some sort) = false

abbrev pub is_numeric : Option Sort → Bool
is_numeric None = false
is_numeric (Some Numeric) = true
is_numeric (Some Textual) = false

abbrev pub is_textual : Option Sort → Bool
is_textual None = false
is_textual (Some Numeric) = false
is_textual (Some Textual) = true

-- what is given goes where such a one may go: a text to a temporary or a place of a type of strings
unfoldable pub is_destined : Core → Run → Option Sort → Destination → Bool
is_destined core variables gives Unused = is_nothing gives
is_destined core variables gives (InTemporary t) = is_numeric gives
is_destined core variables gives (InNew of n) = is_textual gives && is_string (shape_of core of)
is_destined core variables gives (IntoPlace of to old) = is_textual gives && is_string (shape_of core of) && leads_to core variables to of
is_destined core variables gives (OverPlace to) = is_textual gives && leads_to_text core variables to

-- numbers are loaded and stored as their places keep them, values with parts are copied, and a primitive has the operands that it takes
unfoldable pub has_kinds : Core → Run → Action → Bool
has_kinds core variables (Constant to n) = true
has_kinds core variables (Load to kind from) = leads_to_kind core variables from kind
has_kinds core variables (Store to kind from) = leads_to_kind core variables to kind
has_kinds core variables (Copy of to from) = copies core variables of to from
has_kinds core variables (Look at) = is_found (type_of_path core variables at)
has_kinds core variables (BeginWith v) = begins core variables v
has_kinds core variables (Pick to text index) = true
has_kinds core variables (Compute computation) = true
has_kinds core variables (Do p operands to) = are_taken core variables (signature p) operands && is_destined core variables (gives p) to

-- ---- calls

-- a value is given by a number of the kind of the parameter, or by a copy of what has parts; a place is given where the parameter stands
-- for one
unfoldable pub is_given : Core → Run → Given → Parameter → Bool
is_given core variables (ByValue kind t) p = is_kept_as core p.of kind && not (is_reference (ParameterRole p.mode))
is_given core variables (ByPlace path) p = leads_to core variables path p.of && is_reference (ParameterRole p.mode)
is_given core variables (ByCopy of path) p = is_same of p.of && is_composite (shape_of core of) && leads_to core variables path of && not (is_reference (ParameterRole p.mode))

-- each parameter is given something, in order
abbrev pub are_given : Core → Run → List Given → List Parameter → Bool
are_given core variables [] [] = true
are_given core variables (g ∷ gs) (p ∷ ps) = is_given core variables g p && are_given core variables gs ps
are_given core variables [] (p ∷ ps) = false
are_given core variables (g ∷ gs) [] = false

-- a result goes to a temporary where it is a single value, and to a place of its type where it has parts
unfoldable pub is_received : Core → Run → Option TypeId → Receiver → Bool
is_received core variables None Nowhere = true
is_received core variables None (ToTemporary t) = false
is_received core variables None (Place of to) = false
is_received core variables (Some result) Nowhere = false
is_received core variables (Some result) (ToTemporary t) = not (is_composite (shape_of core result))
is_received core variables (Some result) (Place of to) = is_same of result && is_composite (shape_of core of) && leads_to core variables to of

-- it is no method
abbrev pub is_of_unit : Owner → Bool
is_of_unit OfUnit = true
is_of_unit (Class c) = false
is_of_unit (Interface i) = false

abbrev pub calls : Core → Run → Option Row → Operands → Bool
calls core variables None call = false
calls core variables (Some callee) call =
    is_of_unit callee.owner && are_given core variables call.given (rows core.parameters callee.parameters) && is_received core variables callee.result call.receiver

-- a finalization part is a routine without parameters and without a result
abbrev pub is_part : Option Row → Bool
is_part None = false
is_part (Some callee) = is_of_unit callee.owner && nat_eq callee.parameters.count 0 && not (is_found callee.result)
