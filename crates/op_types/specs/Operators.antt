-- Which operators and functions are defined on which sorts, and the type of what they give (Free Pascal Reference Guide,
-- "Operators").
use Rattle.std.specs.Prelude.{Bool, ◌&&◌, ◌||◌, Option, Some, None, if◌then◌else◌}
use Rattle.op_core.specs.declared.ids.TypeId.{TypeId}
use Rattle.op_core.specs.declared.operation.Function.{Function}
use Rattle.op_core.specs.declared.operation.Function.TheVariants.{Length, Ord, Succ, Pred, Abs, Sqr, Odd, UpCase}
use Rattle.op_tree.specs.declared.operator.Operator.{Operator}
use Rattle.op_tree.specs.declared.operator.Operator.TheVariants.{Equal, NotEqual, Less, Greater, LessEqual, GreaterEqual, In_, Is, Add, Subtract, Or, Xor, Multiply, Slash, Div, Mod_, And, Shl, Shr, As_}
use Rattle.op_tree.specs.declared.operator.PrefixOperator.{PrefixOperator}
use Rattle.op_tree.specs.declared.operator.PrefixOperator.TheVariants.{Not, Plus, Minus}
use Rattle.op_types.specs.Sorts.{are_sets, is_reference, is_text, same_kind}
use Rattle.op_types.specs.declared.sort.OrdinalKind.TheVariants.{Integer, Boolean, Char}
use Rattle.op_types.specs.declared.sort.Sort.{Sort}
use Rattle.op_types.specs.declared.sort.Sort.TheVariants.{Ordinal, String, Set, EmptySet}

-- ---- predefined types

abbrev pub integer : TypeId
integer = record { 0 = 4 }

abbrev pub boolean : TypeId
boolean = record { 0 = 5 }

abbrev pub char : TypeId
char = record { 0 = 6 }

abbrev pub string : TypeId
string = record { 0 = 7 }

abbrev pub nil : TypeId
nil = record { 0 = 8 }

abbrev pub empty_set : TypeId
empty_set = record { 0 = 10 }

-- ---- operators

abbrev pub arithmetic : Sort → Sort → Option TypeId
arithmetic (Ordinal Integer) (Ordinal Integer) = Some integer
arithmetic _ _ = None

abbrev pub logic : Sort → Sort → Option TypeId
logic (Ordinal Boolean) (Ordinal Boolean) = Some boolean
logic a b = arithmetic a b

abbrev pub set_arithmetic : Sort → Sort → TypeId → Option TypeId
set_arithmetic a b sets = if are_sets a b then Some sets else arithmetic a b

-- a comparison gives a Boolean where it is defined
abbrev pub compared : Bool → Option TypeId
compared is_defined = if is_defined then Some boolean else None

-- < and >
abbrev pub ordered : Sort → Sort → Bool
ordered (Ordinal a) (Ordinal b) = same_kind a b
ordered a b = is_text a && is_text b

-- <= and >=, which also say that one set is a part of another
abbrev pub included : Sort → Sort → Bool
included a b = are_sets a b || ordered a b

-- = and <>
abbrev pub equated : Sort → Sort → Bool
equated a b = included a b || (is_reference a && is_reference b)

abbrev pub member_of : Sort → Sort → Option TypeId
member_of (Ordinal a) (Set b) = compared (same_kind a b)
member_of (Ordinal a) EmptySet = Some boolean
member_of _ _ = None

-- the type of what an operator gives, if it is defined between these sorts, by the type that operands go to which are sets
abbrev pub operation : Operator → Sort → Sort → TypeId → Option TypeId
operation Add a b sets = if is_text a && is_text b then Some string else set_arithmetic a b sets
operation Subtract a b sets = set_arithmetic a b sets
operation Multiply a b sets = set_arithmetic a b sets
operation Div a b sets = arithmetic a b
operation Mod_ a b sets = arithmetic a b
operation Shl a b sets = arithmetic a b
operation Shr a b sets = arithmetic a b
operation And a b sets = logic a b
operation Or a b sets = logic a b
operation Xor a b sets = logic a b
operation Less a b sets = compared (ordered a b)
operation Greater a b sets = compared (ordered a b)
operation LessEqual a b sets = compared (included a b)
operation GreaterEqual a b sets = compared (included a b)
operation Equal a b sets = compared (equated a b)
operation NotEqual a b sets = compared (equated a b)
operation In_ a b sets = member_of a b
operation Is a b sets = None
operation As_ a b sets = None
operation Slash a b sets = None

-- what a sign or `not` gives before such a value
abbrev pub prefixed : PrefixOperator → Sort → Option TypeId
prefixed Not a = logic a a
prefixed Plus a = arithmetic a a
prefixed Minus a = arithmetic a a

-- what a function gives of a constant of this sort and type, if it takes it; Succ and Pred stay within the type
abbrev pub application : Function → Sort → TypeId → Option TypeId
application Ord (Ordinal kind) of = Some integer
application Succ (Ordinal kind) of = Some of
application Pred (Ordinal kind) of = Some of
application Abs a of = arithmetic a a
application Sqr a of = arithmetic a a
application Odd (Ordinal Integer) of = Some boolean
application Length String of = Some integer
application Length (Ordinal Char) of = Some integer
application UpCase (Ordinal Char) of = Some char
application _ _ of = None
