-- Values of expressions, and how a value becomes one of another type (Free Pascal Reference Guide, "Assignments" and "Value
-- typecasts").
use Rattle.std.specs.Prelude.{ℕ, ℤ, pos, Bool, true, false, not, ◌&&◌, ◌||◌, List, Option, Some, None, is_some, if◌then◌else◌}
use Rattle.std.specs.List.{list_all}
use Rattle.op_base.specs.declared.place.Place.{Place}
use Rattle.op_core.specs.Expression.{Expression as Tree, expression, constant as constant_root, no_steps, convert, bracket, then as with_step, expr_of}
use Rattle.op_core.specs.Sizes.{range_of, type_at}
use Rattle.op_core.specs.Types.{is_one_type}
use Rattle.op_core.specs.Typing as typing
use Rattle.op_core.specs.declared.constant.Const.{Const}
use Rattle.op_core.specs.declared.constant.Const.TheVariants.{Ordinal, Text, Set, Nil}
use Rattle.op_core.specs.declared.ids.TypeId.{TypeId}
use Rattle.op_core.specs.declared.operation.Conversion.{Conversion}
use Rattle.op_core.specs.declared.operation.Conversion.TheVariants.{Keep, LowBits, Check, ToString, ToInterface}
use Rattle.op_core.specs.declared.operation.Origin.TheVariants.{Implied}
use Rattle.op_core.specs.declared.program.Core.{Core}
use Rattle.op_core.specs.declared.types.CoreType.{CoreType}
use Rattle.op_core.specs.declared.types.CoreType.TheVariants as type
use Rattle.op_judgement.specs.Judgement.{Judgement, by_test, fine}
use Rattle.op_judgement.specs.declared.rules.LanguageRule.TheVariants.{NotAssignable}
use Rattle.op_check_expr.specs.declared.value.Value.{Value as RustValue}
use Rattle.op_check_expr.specs.declared.value.Value.TheVariants.{Constant as ConstantValue, Computed}
use Rattle.op_types.specs.Assignable.{assignable}
use Rattle.op_types.specs.ConstantParts.{joined, made, nodes}
use Rattle.op_types.specs.Sorts.{is_reference, sort_of}
use Rattle.op_types.specs.Values.{bytes_of, contains, in_range}
use Rattle.op_types.specs.declared.constant.Constant.{Constant}
use Rattle.op_types.specs.declared.sort.Sort.{Sort}
use Rattle.op_types.specs.declared.sort.Sort.TheVariants as sort

-- a constant, or what is computed when the program runs
pub data Value : Type 0 where
  constant : (c : Constant) → Value
  computed : (e : Tree) → Value

-- what a value of the checker says, wherever it lies in memory
abbrev pub value_of : RustValue → Value
value_of (ConstantValue c) = constant c
value_of (Computed e) = computed (expr_of e)

abbrev pub tree_of : Value → Tree
tree_of (constant c) = expression (constant_root c.value c.weight.nodes c.weight.words) c.of no_steps
tree_of (computed e) = e

abbrev pub type_of : Value → TypeId
type_of (constant c) = c.of
type_of (computed e) = typing.type_of e

abbrev pub in_brackets : Value → Value
in_brackets (constant c) = constant (made c.value c.of (joined c.weight (nodes 0)))
in_brackets (computed e) = computed (with_step e bracket (typing.type_of e))

-- ---- conversions

-- all values of the first type are values of the second
abbrev pub is_wider : Option (ℤ × ℤ) → Option (ℤ × ℤ) → Bool
is_wider (Some r) (Some q) = contains q r.0 && contains q r.1
is_wider _ _ = false

abbrev pub is_integer : Option CoreType → Bool
is_integer (Some (type.Integer kind)) = true
is_integer _ = false

-- Where the second type lacks values of the first, the predefined integer types keep the low bits unless ranges are checked; all
-- others are checked.
abbrev pub ordinal_conversion : Core → Bool → TypeId → TypeId → Conversion
ordinal_conversion core checked from to =
    if is_wider (range_of (type_at core from)) (range_of (type_at core to)) then Keep
    else (if checked || not (is_integer (type_at core to)) then Check else LowBits)

abbrev pub conversion_by : Core → Bool → TypeId → TypeId → Sort → Sort → Conversion
conversion_by core checked from to (sort.Ordinal a) (sort.Ordinal b) = ordinal_conversion core checked from to
conversion_by core checked from to (sort.Ordinal a) sort.String = ToString
conversion_by core checked from to (sort.Set a) (sort.Set b) = Check
conversion_by core checked from to (sort.Class a) (sort.Interface b) = ToInterface
conversion_by core checked from to _ _ = Keep

-- what makes of a value of the first type one of the second, to which it is assignable; none where the types are one
abbrev pub conversion : Core → Bool → TypeId → TypeId → Option Conversion
conversion core checked from to =
    if is_one_type core.types from to then None
    else Some (conversion_by core checked from to (sort_of core from) (sort_of core to))

abbrev pub with_conversion : Tree → TypeId → Option Conversion → Tree
with_conversion e to None = e
with_conversion e to (Some c) = with_step e (convert c Implied) to

unfoldable pub is_in : Core → TypeId → ℕ → Bool
is_in core base n = is_some (in_range (range_of (type_at core base)) (pos n))

-- each element is a value of the base
abbrev pub are_in : Core → Option TypeId → List ℕ → Bool
are_in core None members = false
are_in core (Some base) members = list_all (is_in core base) members

-- the same constant as one of a type of this sort, if it is one
abbrev pub retyped_by : Core → TypeId → Sort → Const → Option Const
retyped_by core to (sort.Ordinal kind) (Ordinal n) = in_range (range_of (type_at core to)) n
retyped_by core to sort.String v = Some (Text (bytes_of v))
retyped_by core to (sort.Set kind) (Set members) = if are_in core (typing.base_of (type_at core to)) members then Some (Set members) else None
retyped_by core to s Nil = if is_reference s then Some Nil else None
retyped_by core to _ _ = None

abbrev pub retyped : Core → TypeId → Const → Option Const
retyped core to v = retyped_by core to (sort_of core to) v

abbrev pub constant_tree : Core → Bool → TypeId → Constant → Option Const → Tree
constant_tree core checked to c (Some v) = tree_of (constant (record { value = v; of = to; weight = c.weight }))
constant_tree core checked to c None = with_conversion (tree_of (constant c)) to (conversion core checked c.of to)

-- a value as one of a type to which it is assignable; `checked` is whether ranges are
abbrev pub as_type : Core → Bool → TypeId → Value → Tree
as_type core checked to (constant c) = constant_tree core checked to c (retyped core to c.value)
as_type core checked to (computed e) = with_conversion e to (conversion core checked (typing.type_of e) to)

-- a value at a place is stored in what has a type
abbrev pub stored : Core → Place → Bool → TypeId → Value → Judgement Tree
stored core place checked to v = by_test NotAssignable place (fine (as_type core checked to v)) (assignable core (type_of v) to)

-- An index of a static array keeps its type, since its range is tested where the place is followed; any other goes to Integer.
abbrev pub index_tree : Core → Option CoreType → TypeId → Value → Tree
index_tree core (Some (type.Array at element)) to v = tree_of v
index_tree core of to v = as_type core true to v

-- a value at a place is an index of what has the first type
abbrev pub index_at : Core → Place → Option CoreType → TypeId → Value → Judgement Tree
index_at core place of to v = by_test NotAssignable place (fine (index_tree core of to v)) (assignable core (type_of v) to)
