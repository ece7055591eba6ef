-- Which typed trees are such: each part has the type written at it (Free Pascal Reference Guide, "Expressions" and "Statements").
use Rattle.std.specs.Prelude.{◌≡◌, ℕ, ℤ, pos, ◌≤ℤ◌, Bool, true, false, List, [], Option, Some, None, IsSomeAnd, IsTrue}
use Rattle.std.specs.List.{All}
use Rattle.std.proofs.Common.{refl}
use Rattle.std.proofs.lemmas.Bool.{false≢true}
use Rattle.op_core.specs.Expression.{Expression, expression, Root, constant, variable, object, call, construct, set, eof, eoln, Steps, no_steps, steps, Action, convert, bracket, field, index, method, prefixed, operate, is, apply, copy, Elements, no_elements, elements, Element, one, range, Arguments, no_arguments, arguments, Argument, value, place, array, listed, Expressions, no_expressions, expressions}
use Rattle.op_core.specs.Needs.{Fact, always, both, three, either, some, of_given, of_kind, has_form, has_part, part_is, hosted, one_type, field_of, class_such, descends, extends, implements, has_field, has_method, asks_for, IsSo, row, Need, fact, two_of, three_of, of_part, may_name, may_call, calls, value_of, plain_routine, constructor, method_giving, Valued, valued, Passing, by_value, by_place, as_array, as_list, Passings, no_passings, passings, IsMet, IsValued, IsPassed, ArePassed}
pub use Rattle.op_core.specs.Needs.{Sees, OneType, GivesType, element_of, is_place, is_place_after, is_variable, leads_on, takes_place}
use Rattle.op_core.specs.Members.{InRun}
use Rattle.op_core.specs.Sizes.{range_of}
use Rattle.op_core.specs.declared.constant.Const.{Const}
use Rattle.op_core.specs.declared.constant.Const.TheVariants.{Ordinal, Text, Set as SetOf, Nil as NilOf}
use Rattle.op_core.specs.declared.ids.FieldId.{FieldId}
use Rattle.op_core.specs.declared.ids.RoutineId.{RoutineId}
use Rattle.op_core.specs.declared.ids.TypeId.{TypeId}
use Rattle.op_core.specs.declared.operation.Conversion.{Conversion}
use Rattle.op_core.specs.declared.operation.Conversion.TheVariants.{Keep, LowBits, Check, ToString, ToInterface, Instance}
use Rattle.op_core.specs.declared.operation.Function.{Function}
use Rattle.op_core.specs.declared.operation.Function.TheVariants.{Length, Low, High, Ord, Succ, Pred, Abs, Sqr, Odd, Assigned, UpCase, Whole, ClassName}
use Rattle.op_core.specs.declared.operation.Dispatch.{Dispatch}
use Rattle.op_core.specs.declared.operation.Dispatch.TheVariants.{Direct, Virtual, Interface as ByInterface}
use Rattle.op_core.specs.declared.program.Core.{Core}
use Rattle.op_core.specs.declared.routine.Parameter.{Parameter}
use Rattle.op_core.specs.declared.routine.Role.TheVariants.{Object as ObjectRole}
use Rattle.op_core.specs.declared.types.CoreType.{CoreType}
use Rattle.op_core.specs.declared.types.CoreType.TheVariants.{Integer, Boolean, Char, String, Set, Record, Array, DynamicArray, OpenArray, Class, Interface, Nil, EmptySet}
use Rattle.op_core.specs.declared.types.IntegerKind.TheVariants.{Signed32}
use Rattle.op_tree.specs.declared.operator.Operator.{Operator}
use Rattle.op_tree.specs.declared.operator.Operator.TheVariants.{Equal, NotEqual, Less, Greater, LessEqual, GreaterEqual, In_, Add, Subtract, Or, Xor, Multiply, Div, Mod_, And, Shl, Shr}
use Rattle.op_tree.specs.declared.operator.PrefixOperator.{PrefixOperator}
use Rattle.op_tree.specs.declared.operator.PrefixOperator.TheVariants.{Not, Plus, Minus}

-- ---- types

abbrev pub type_after : TypeId → Steps → TypeId
type_after of no_steps = of
type_after of (steps action next others) = type_after next others

abbrev pub type_of : Expression → TypeId
type_of (expression root of others) = type_after of others

abbrev pub integer : TypeId → Fact
integer of = of_kind of (Integer Signed32)

abbrev pub boolean : TypeId → Fact
boolean of = of_kind of Boolean

abbrev pub string : TypeId → Fact
string of = of_kind of String

abbrev pub is_character : Option CoreType → Bool
is_character (Some Char) = true
is_character _ = false

-- Chars, and subranges of them
abbrev pub character : TypeId → Fact
character of = hosted is_character refl of

abbrev pub ordinal : TypeId → Fact
ordinal of = has_part range_of refl of (λ r. always (Unit {0}))

abbrev pub an_object : TypeId → Fact
an_object of = some (λ c. of_kind of (Class c))

-- the base of a set
abbrev pub base_of : Option CoreType → Option TypeId
base_of (Some (Set base)) = Some base
base_of _ = None

-- classes, interfaces and dynamic arrays
abbrev pub is_reference : Option CoreType → Bool
is_reference (Some (Class c)) = true
is_reference (Some (Interface i)) = true
is_reference (Some (DynamicArray element)) = true
is_reference (Some Nil) = true
is_reference _ = false

abbrev pub reference : TypeId → Fact
reference of = has_form (λ t. IsTrue (is_reference t)) false≢true of

abbrev pub Within : ℤ × ℤ → ℤ → Type 0
Within r n = (r.0 ≤ℤ n) × (n ≤ℤ r.1)

-- they are values of the base of the set type
abbrev pub members_of : List ℕ → CoreType → Fact
members_of [] EmptySet = always (Unit {0})
members_of members t = of_given (base_of (Some t)) (λ base. has_part range_of refl base (λ r. always (All (λ n. Within r (pos n)) members)))

-- the constant is a value of the type
abbrev pub fits : Const → TypeId → Fact
fits (Ordinal n) of = has_part range_of refl of (λ r. always (Within r n))
fits (Text bytes) of = string of
fits (SetOf members) of = row of (members_of members)
fits NilOf of = reference of

-- ---- conversions and operations

-- sets, also the empty one, whose elements are of no type
abbrev pub is_set : Option CoreType → Bool
is_set (Some (Set base)) = true
is_set (Some EmptySet) = true
is_set _ = false

-- one type to another of the same values, where no test is needed
abbrev pub up : CoreType → CoreType → Fact
up (Class c) (Class d) = descends c d
up (Interface i) (Interface j) = extends i j
up Nil t = always (IsTrue (is_reference (Some t)))
up EmptySet t = always (IsTrue (is_set (Some t)))
up _ _ = always ⊥

abbrev pub wider : TypeId → TypeId → Fact
wider from to = has_part range_of refl from (λ r. has_part range_of refl to (λ q. always (Within q r.0 × Within q r.1)))

abbrev pub IsInstance : Option CoreType → Type 0
IsInstance (Some (Class c)) = Unit {0}
IsInstance (Some (Interface i)) = Unit {0}
IsInstance (Some Nil) = Unit {0}
IsInstance _ = ⊥

abbrev pub instance : TypeId → Fact
instance of = has_form IsInstance (λ never. never) of

abbrev pub implemented : CoreType → CoreType → Fact
implemented (Class c) (Interface i) = implements c i
implemented _ _ = always ⊥

-- sets of one type of elements, whose bases need not have the same elements
abbrev pub a_set : TypeId → Fact
a_set of = has_part base_of refl of (λ base. always (Unit {0}))

abbrev pub converts : Conversion → TypeId → TypeId → Fact
converts Keep from to = either (one_type from to) (either (row from (λ t. row to (up t))) (wider from to))
converts LowBits from to = both (ordinal from) (ordinal to)
converts Check from to = either (both (ordinal from) (ordinal to)) (both (a_set from) (a_set to))
converts ToString from to = both (character from) (string to)
converts ToInterface from to = row from (λ t. row to (implemented t))
converts Instance from to = both (instance from) (instance to)

-- both sides and what comes out
abbrev pub all_three : (TypeId → Fact) → TypeId → TypeId → TypeId → Fact
all_three f a b to = three (f a) (f b) (f to)

abbrev pub set_or_empty : TypeId → Fact
set_or_empty of = has_form (λ t. IsTrue (is_set t)) false≢true of

abbrev pub on_sets : TypeId → TypeId → TypeId → Fact
on_sets a b to = three (set_or_empty a) (always (a ≡ b)) (always (a ≡ to))

abbrev pub ordered : TypeId → TypeId → Fact
ordered a b = either (both (ordinal a) (ordinal b)) (both (string a) (string b))

abbrev pub sets : TypeId → TypeId → Fact
sets a b = both (set_or_empty a) (always (a ≡ b))

abbrev pub equated : TypeId → TypeId → TypeId → Fact
equated a b to = both (either (ordered a b) (either (sets a b) (both (reference a) (reference b)))) (boolean to)

abbrev pub included : TypeId → TypeId → TypeId → Fact
included a b to = both (either (ordered a b) (sets a b)) (boolean to)

abbrev pub combined : TypeId → TypeId → TypeId → Fact
combined a b to = either (all_three integer a b to) (all_three boolean a b to)

abbrev pub operates : Operator → TypeId → TypeId → TypeId → Fact
operates Add a b to = either (all_three integer a b to) (either (all_three string a b to) (on_sets a b to))
operates Subtract a b to = either (all_three integer a b to) (on_sets a b to)
operates Multiply a b to = either (all_three integer a b to) (on_sets a b to)
operates Div a b to = all_three integer a b to
operates Mod_ a b to = all_three integer a b to
operates Shl a b to = all_three integer a b to
operates Shr a b to = all_three integer a b to
operates And a b to = combined a b to
operates Or a b to = combined a b to
operates Xor a b to = combined a b to
operates Equal a b to = equated a b to
operates NotEqual a b to = equated a b to
operates LessEqual a b to = included a b to
operates GreaterEqual a b to = included a b to
operates Less a b to = both (ordered a b) (boolean to)
operates Greater a b to = both (ordered a b) (boolean to)
operates In_ a b to = three (ordinal a) (a_set b) (boolean to)
operates _ a b to = always ⊥

abbrev pub prefixes : PrefixOperator → TypeId → Fact
prefixes Not of = either (integer of) (boolean of)
prefixes Plus of = integer of
prefixes Minus of = integer of

-- Low of an array is of its index type, or an Integer; that of an ordinal value is of the value's type
abbrev pub bound_of : Option CoreType → Option TypeId
bound_of (Some (Array at element)) = Some at
bound_of _ = None

abbrev pub sequence : TypeId → Fact
sequence of = either (string of) (has_part element_of refl of (λ element. always (Unit {0})))

abbrev pub bounds : TypeId → TypeId → Fact
bounds from to = either (both (sequence from) (either (integer to) (part_is bound_of refl from to))) (both (ordinal from) (always (from ≡ to)))

abbrev pub applies : Function → TypeId → TypeId → Fact
applies Length from to = both (sequence from) (integer to)
applies Low from to = bounds from to
applies High from to = bounds from to
applies Ord from to = both (ordinal from) (integer to)
applies Succ from to = both (ordinal from) (always (from ≡ to))
applies Pred from to = both (ordinal from) (always (from ≡ to))
applies Abs from to = both (integer from) (always (from ≡ to))
applies Sqr from to = both (integer from) (always (from ≡ to))
applies Odd from to = both (integer from) (boolean to)
applies Assigned from to = both (reference from) (boolean to)
applies UpCase from to = both (of_kind from Char) (always (from ≡ to))
applies Whole from to = both (sequence from) (always (from ≡ to))
applies ClassName from to = both (an_object from) (string to)

-- ---- members and indices

abbrev pub field_in : FieldId → CoreType → Fact
field_in f (Record fields) = always (InRun fields f.0)
field_in f (Class c) = has_field c f
field_in f _ = always ⊥

abbrev pub method_in : Dispatch → RoutineId → CoreType → Fact
method_in Direct r (Class c) = has_method c r
method_in Virtual r (Class c) = has_method c r
method_in ByInterface r (Interface i) = asks_for i r
method_in dispatch r _ = always ⊥

-- A value of the type, at an index of this type, gives one of the last. An index of a static array has any ordinal type: whether
-- it is one of the array's is tested where the place is followed.
abbrev pub indexed : TypeId → TypeId → CoreType → Fact
indexed i to (Array at element) = both (ordinal i) (always (element ≡ to))
indexed i to (DynamicArray element) = both (integer i) (always (element ≡ to))
indexed i to (OpenArray element) = both (integer i) (always (element ≡ to))
indexed i to String = both (integer i) (of_kind to Char)
indexed i to _ = always ⊥

-- ---- expressions

abbrev mutual
  pub typed : Expression → Need
  typed (expression root of others) = two_of (root_as root of) (steps_from of others)

  pub root_as : Root → TypeId → Need
  root_as (constant v nodes words) of = fact (fits v of)
  root_as (variable id) of = may_name id (λ own role. always (own ≡ of))
  root_as (object id) of = may_name id (λ own role. always ((own ≡ of) × (role ≡ ObjectRole)))
  root_as (call id given) of = two_of (may_call id) (calls id (plain_routine of) (passed given))
  root_as (construct c id given) of = three_of (fact (class_such c (λ x. x.of ≡ of))) (fact (has_method c id)) (calls id constructor (passed given))
  root_as (set es) of = of_part base_of refl of (λ base. elements_as base es)
  root_as eof of = fact (boolean of)
  root_as eoln of = fact (boolean of)

  pub steps_from : TypeId → Steps → Need
  steps_from of no_steps = fact (always (Unit {0}))
  steps_from of (steps action next others) = two_of (action_as of action next) (steps_from next others)

  pub action_as : TypeId → Action → TypeId → Need
  action_as from (convert conversion origin) to = fact (converts conversion from to)
  action_as from bracket to = fact (always (from ≡ to))
  action_as from (field f) to = two_of (fact (row from (field_in f))) (fact (field_of f to))
  action_as from (index e) to = two_of (typed e) (fact (row from (indexed (type_of e) to)))
  action_as from (method id dispatch given) to = two_of (fact (row from (method_in dispatch id))) (calls id (method_giving to) (passed given))
  action_as from (prefixed operator checked) to = two_of (fact (prefixes operator from)) (fact (always (from ≡ to)))
  action_as from (operate operator checked e) to = two_of (typed e) (fact (operates operator from (type_of e) to))
  action_as from (is of) to = fact (three (instance from) (instance of) (boolean to))
  action_as from (apply function checked) to = fact (applies function from to)
  action_as from (copy e e') to = three_of (two_of (typed e) (fact (integer (type_of e)))) (two_of (typed e') (fact (integer (type_of e')))) (fact (both (sequence from) (always (from ≡ to))))

  pub elements_as : TypeId → Elements → Need
  elements_as base no_elements = fact (always (Unit {0}))
  elements_as base (elements e es) = two_of (element_as base e) (elements_as base es)

  pub element_as : TypeId → Element → Need
  element_as base (one e) = value_of (value_as e) base
  element_as base (range e e') = two_of (value_of (value_as e) base) (value_of (value_as e') base)

  pub value_as : Expression → Valued
  value_as (expression root from others) = valued (root_as root from) (steps_from from others) (type_after from others)

  pub values_as : TypeId → Expressions → Need
  values_as of no_expressions = fact (always (Unit {0}))
  values_as of (expressions e es) = two_of (value_of (value_as e) of) (values_as of es)

  pub passed : Arguments → Passings
  passed no_arguments = no_passings
  passed (arguments a others) = passings (argument_as a) (passed others)

  pub argument_as : Argument → Passing
  argument_as (value e) = by_value (value_as e)
  argument_as (place e) = by_place (value_as e) e
  argument_as (array e) = as_array (typed e) (type_of e)
  argument_as (listed of es) = as_list of (of_part element_of refl of (λ element. values_as element es))

-- ---- as they are read of a program

abbrev pub IsInteger : Core → TypeId → Type 0
IsInteger core of = IsSo core (integer of)

abbrev pub IsBoolean : Core → TypeId → Type 0
IsBoolean core of = IsSo core (boolean of)

abbrev pub IsString : Core → TypeId → Type 0
IsString core of = IsSo core (string of)

abbrev pub IsChar : Core → TypeId → Type 0
IsChar core of = IsSo core (character of)

abbrev pub IsOrdinal : Core → TypeId → Type 0
IsOrdinal core of = IsSo core (ordinal of)

abbrev pub IsReference : Core → TypeId → Type 0
IsReference core of = IsSo core (reference of)

abbrev pub IsSet : Core → TypeId → Type 0
IsSet core of = IsSo core (a_set of)

abbrev pub IsSequence : Core → TypeId → Type 0
IsSequence core of = IsSo core (sequence of)

abbrev pub Fits : Core → Const → TypeId → Type 0
Fits core v of = IsSo core (fits v of)

abbrev pub AreMembers : Core → List ℕ → Option CoreType → Type 0
AreMembers core members o = IsSomeAnd o (λ t. IsSo core (members_of members t))

abbrev pub IsUp : Core → Option CoreType → Option CoreType → Type 0
IsUp core o p = IsSomeAnd o (λ t. IsSomeAnd p (λ u. IsSo core (up t u)))

abbrev pub IsWider : Option (ℤ × ℤ) → Option (ℤ × ℤ) → Type 0
IsWider o p = IsSomeAnd o (λ r. IsSomeAnd p (λ q. Within q r.0 × Within q r.1))

abbrev pub IsImplemented : Core → Option CoreType → Option CoreType → Type 0
IsImplemented core o p = IsSomeAnd o (λ t. IsSomeAnd p (λ u. IsSo core (implemented t u)))

abbrev pub Converts : Core → Conversion → TypeId → TypeId → Type 0
Converts core conversion from to = IsSo core (converts conversion from to)

abbrev pub Operates : Core → Operator → TypeId → TypeId → TypeId → Type 0
Operates core operator a b to = IsSo core (operates operator a b to)

abbrev pub Prefixes : Core → PrefixOperator → TypeId → Type 0
Prefixes core operator of = IsSo core (prefixes operator of)

abbrev pub Applies : Core → Function → TypeId → TypeId → Type 0
Applies core function from to = IsSo core (applies function from to)

abbrev pub HoldsField : Core → Option CoreType → FieldId → Type 0
HoldsField core o f = IsSomeAnd o (λ t. IsSo core (field_in f t))

abbrev pub Indexes : Core → Option CoreType → TypeId → TypeId → Type 0
Indexes core o i to = IsSomeAnd o (λ t. IsSo core (indexed i to t))

abbrev pub IsTyped : Core → Sees → Expression → Type 0
IsTyped core sees e = IsMet core sees (typed e)

abbrev pub IsRoot : Core → Sees → Root → TypeId → Type 0
IsRoot core sees root of = IsMet core sees (root_as root of)

abbrev pub AreSteps : Core → Sees → TypeId → Steps → Type 0
AreSteps core sees of others = IsMet core sees (steps_from of others)

abbrev pub IsAction : Core → Sees → TypeId → Action → TypeId → Type 0
IsAction core sees from action to = IsMet core sees (action_as from action to)

abbrev pub AreElements : Core → Sees → TypeId → Elements → Type 0
AreElements core sees base es = IsMet core sees (elements_as base es)

abbrev pub IsElement : Core → Sees → TypeId → Element → Type 0
IsElement core sees base e = IsMet core sees (element_as base e)

abbrev pub IsValue : Core → Sees → TypeId → Expression → Type 0
IsValue core sees of e = IsValued core sees of (value_as e)

abbrev pub AreArguments : Core → Sees → List Parameter → Arguments → Type 0
AreArguments core sees ps given = ArePassed core sees ps (passed given)

abbrev pub IsArgument : Core → Sees → Parameter → Argument → Type 0
IsArgument core sees p a = IsPassed core sees p (argument_as a)
