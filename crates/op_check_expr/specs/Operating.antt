-- What operators, casts and built-in functions make of values (Free Pascal Reference Guide, "Operators" and "Value typecasts").
use Rattle.std.specs.Prelude.{Bool, true, false, ◌&&◌, ◌||◌, Option, Some, None, if◌then◌else◌}
use Rattle.op_base.specs.declared.place.Place.{Place}
use Rattle.op_core.specs.Expression.{Expression as Tree, apply, convert, operate, prefixed, then as with_step}
use Rattle.op_core.specs.Sizes.{range_of, type_at}
use Rattle.op_core.specs.declared.ids.TypeId.{TypeId}
use Rattle.op_core.specs.declared.operation.Conversion.{Conversion}
use Rattle.op_core.specs.declared.operation.Conversion.TheVariants.{Keep, LowBits, Check}
use Rattle.op_core.specs.declared.operation.Function.{Function}
use Rattle.op_core.specs.declared.operation.Function.TheVariants.{Length, Low, High, Ord, Succ, Pred, Abs, Sqr, Odd, UpCase}
use Rattle.op_core.specs.declared.operation.Origin.TheVariants.{Cast as CastOrigin}
use Rattle.op_core.specs.declared.program.Core.{Core}
use Rattle.op_core.specs.declared.types.CoreType.{CoreType}
use Rattle.op_core.specs.declared.types.CoreType.TheVariants as type
use Rattle.op_tree.specs.declared.operator.Operator.{Operator}
use Rattle.op_tree.specs.declared.operator.Operator.TheVariants.{Add, In_}
use Rattle.op_tree.specs.declared.operator.PrefixOperator.{PrefixOperator}
use Rattle.op_tree.specs.declared.position.Position.{Position}
use Rattle.op_judgement.specs.Judgement.{Judgement, by_entry, changed, fine, with_part}
use Rattle.op_judgement.specs.declared.rules.Feature.{Feature}
use Rattle.op_judgement.specs.declared.rules.Feature.TheVariants.{Strings}
use Rattle.op_judgement.specs.declared.rules.LanguageRule.{LanguageRule}
use Rattle.op_judgement.specs.declared.rules.LanguageRule.TheVariants.{NoCast, NoOperator, NotAssignable, NotOrdinal}
use Rattle.op_types.specs.Folding.{operator_means, prefix_means, use_means}
use Rattle.op_check_expr.specs.Parts.{by_feature, whether}
use Rattle.op_check_expr.specs.Values.{Value, constant, computed, as_type, is_integer, is_wider, tree_of, type_of}
use Rattle.op_types.specs.ConstantParts.{is_folded, is_ordinal}
use Rattle.op_types.specs.Operators as table
use Rattle.op_types.specs.Sets.{common_set, set_over}
use Rattle.op_types.specs.Sorts.{is_text, sort_of}
use Rattle.op_types.specs.declared.constant.Applied.{Applied}
use Rattle.op_types.specs.declared.constant.Applied.TheVariants.{Cast, Function as Function'}
use Rattle.op_types.specs.declared.sort.OrdinalKind.{OrdinalKind}
use Rattle.op_types.specs.declared.sort.OrdinalKind.TheVariants.{Integer, Boolean, Char, Enumeration}
use Rattle.op_types.specs.declared.sort.Sort.{Sort}
use Rattle.op_types.specs.declared.sort.Sort.TheVariants as sort

-- ---- operators

abbrev pub type_of_kind : OrdinalKind → TypeId
type_of_kind Integer = table.integer
type_of_kind Boolean = table.boolean
type_of_kind Char = table.char
type_of_kind (Enumeration of) = of

abbrev pub is_string : Sort → Bool
is_string sort.String = true
is_string _ = false

abbrev pub joins : Operator → Bool
joins Add = true
joins _ = false

-- an operand becomes a string: only two Chars are compared as such
abbrev pub makes_strings : Operator → Sort → Sort → Bool
makes_strings o a b = is_text a && is_text b && (joins o || is_string a || is_string b)

abbrev pub feature_of_operands : Operator → Sort → Sort → Option Feature
feature_of_operands o a b = if makes_strings o a b then Some Strings else None

-- The type that an operand goes to: integers to Integer, values of a subrange to those of its base, sets to one that holds both.
abbrev pub operand_by : TypeId → TypeId → Sort → TypeId
operand_by sets of (sort.Ordinal kind) = type_of_kind kind
operand_by sets of (sort.Set kind) = sets
operand_by sets of sort.EmptySet = sets
operand_by sets of s = of

abbrev pub left_type : Core → Operator → TypeId → TypeId → TypeId
left_type core In_ a b = a
left_type core o a b = operand_by (common_set core a b) a (sort_of core a)

abbrev pub set_beside : Core → TypeId → TypeId → Sort → TypeId
set_beside core a b sort.EmptySet = set_over core a
set_beside core a b s = b

abbrev pub right_type : Core → Operator → TypeId → TypeId → TypeId
right_type core In_ a b = set_beside core a b (sort_of core b)
right_type core o a b = operand_by (common_set core a b) b (sort_of core b)

abbrev pub operation_tree : Core → Operator → Bool → Value → Value → TypeId → Value
operation_tree core o checked a b of =
    computed (with_step (as_type core true (left_type core o (type_of a) (type_of b)) a) (operate o checked (as_type core true (right_type core o (type_of a) (type_of b)) b)) of)

-- an operator at a position between two values that are not both constants
abbrev pub computed_operation : Core → Operator → Position → Value → Value → Judgement Value
computed_operation core o p a b =
    by_entry NoOperator p.place (λ of. by_feature p.place (feature_of_operands o (sort_of core (type_of a)) (sort_of core (type_of b))) (fine (operation_tree core o p.switches.q a b of)))
    (table.operation o (sort_of core (type_of a)) (sort_of core (type_of b)) (common_set core (type_of a) (type_of b)))

-- in an expression that begins at a place
abbrev pub operated : Core → Place → Operator → Position → Value → Value → Judgement Value
operated core start o p (constant a) (constant b) =
    whether (is_folded o) (changed constant (operator_means core start o p.place a b)) (computed_operation core o p (constant a) (constant b))
operated core start o p a b = computed_operation core o p a b

abbrev pub operation_of : Core → Place → Operator → Position → Option Value → Option Value → Judgement Value
operation_of core start o p a b = with_part (λ a. with_part (operated core start o p a) b) a

abbrev pub prefix_tree : Core → PrefixOperator → Bool → Value → TypeId → Value
prefix_tree core o checked v of = computed (with_step (as_type core true of v) (prefixed o checked) of)

abbrev pub prefix_of : Core → PrefixOperator → Position → Value → Judgement Value
prefix_of core o p (constant c) = changed constant (prefix_means core p.place o c)
prefix_of core o p (computed e) =
    by_entry NoOperator p.place (λ of. fine (prefix_tree core o p.switches.q (computed e) of)) (table.prefixed o (sort_of core (type_of (computed e))))

-- ---- casts

abbrev pub keeps_low_bits : Option CoreType → Bool
keeps_low_bits (Some type.Char) = true
keeps_low_bits t = is_integer t

-- A cast to a predefined integer type or Char keeps the low bits, one to another ordinal type is checked.
abbrev pub cast_conversion : Core → TypeId → TypeId → Conversion
cast_conversion core from to =
    if is_wider (range_of (type_at core from)) (range_of (type_at core to)) then Keep
    else (if keeps_low_bits (type_at core to) then LowBits else Check)

abbrev pub cast_by : Core → TypeId → TypeId → Sort → Sort → Option Conversion
cast_by core from to (sort.Ordinal a) (sort.Ordinal b) = Some (cast_conversion core from to)
cast_by core from to _ _ = None

abbrev pub cast_of : Core → Place → TypeId → Tree → TypeId → Judgement Value
cast_of core place to e from =
    by_entry NoCast place (λ c. fine (computed (with_step e (convert c CastOrigin) to))) (cast_by core from to (sort_of core from) (sort_of core to))

-- ---- functions

-- the rule that an argument breaks which the function does not take
abbrev pub rule_of : Function → LanguageRule
rule_of Ord = NotOrdinal
rule_of Succ = NotOrdinal
rule_of Pred = NotOrdinal
rule_of Low = NotOrdinal
rule_of High = NotOrdinal
rule_of _ = NotAssignable

-- what a sequence's bounds are of
abbrev pub index_type : Option CoreType → Option TypeId
index_type (Some (type.Array index element)) = Some index
index_type (Some (type.DynamicArray element)) = Some table.integer
index_type (Some (type.OpenArray element)) = Some table.integer
index_type (Some type.String) = Some table.integer
index_type _ = None

abbrev pub type_if : Bool → TypeId → Option TypeId
type_if b of = if b then Some of else None

abbrev pub length_type : Option TypeId → Sort → TypeId → Option TypeId
length_type (Some index) s of = Some table.integer
length_type None s of = table.application Length s of

abbrev pub bound_type : Option TypeId → Sort → TypeId → Option TypeId
bound_type (Some index) s of = Some index
bound_type None s of = type_if (is_ordinal s) of

-- what a function gives of a value of a type, if it takes it
abbrev pub function_type : Core → Function → TypeId → Option TypeId
function_type core Length of = length_type (index_type (type_at core of)) (sort_of core of) of
function_type core Low of = bound_type (index_type (type_at core of)) (sort_of core of) of
function_type core High of = bound_type (index_type (type_at core of)) (sort_of core of) of
function_type core f of = table.application f (sort_of core of) of

abbrev pub text_type : Sort → TypeId → TypeId
text_type (sort.Ordinal kind) of = table.string
text_type s of = of

-- the type that the argument goes to
abbrev pub argument_type : Core → Function → TypeId → TypeId
argument_type core Abs of = table.integer
argument_type core Sqr of = table.integer
argument_type core Odd of = table.integer
argument_type core UpCase of = table.char
argument_type core Length of = text_type (sort_of core of) of
argument_type core f of = of

abbrev pub function_tree : Core → Function → Bool → Value → TypeId → Value
function_tree core f checked v of = computed (with_step (as_type core true (argument_type core f (type_of v)) v) (apply f checked) of)

-- Length takes a Char as a string
abbrev pub becomes_string : Core → Function → TypeId → Bool
becomes_string core Length of = is_ordinal (sort_of core of)
becomes_string core f of = false

abbrev pub feature_of_argument : Core → Function → TypeId → Option Feature
feature_of_argument core f of = if becomes_string core f of then Some Strings else None

-- a function at a position, of an argument at a place
abbrev pub application_of : Core → Position → Function → Place → Value → Judgement Value
application_of core p f at v =
    by_entry (rule_of f) at (λ of. by_feature p.place (feature_of_argument core f (type_of v)) (fine (function_tree core f p.switches.q v of))) (function_type core f (type_of v))

-- what it does with constants is evaluated: casts to ordinal types, and functions of values
abbrev pub is_evaluated : Core → Applied → Bool
is_evaluated core (Cast of) = is_ordinal (sort_of core of)
is_evaluated core (Function' Low) = false
is_evaluated core (Function' High) = false
is_evaluated core (Function' f) = true

abbrev pub computed_use : Core → Position → Applied → Place → Value → Judgement Value
computed_use core p (Cast of) at v = cast_of core p.place of (tree_of v) (type_of v)
computed_use core p (Function' f) at v = application_of core p f at v

abbrev pub used : Core → Position → Applied → Place → Value → Judgement Value
used core p what at (constant c) =
    whether (is_evaluated core what) (changed constant (use_means core what p.place at c)) (computed_use core p what at (constant c))
used core p what at (computed e) = computed_use core p what at (computed e)
