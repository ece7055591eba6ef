-- What types denote: rows of the table of types (Free Pascal Reference Guide, "Types").
use Rattle.std.specs.Prelude.{ℕ, ◌+◌, ◌^◌, ℤ, pos, int_le, max, nat_le, nat_lt, Bool, true, false, ◌&&◌, List, [], ◌∷◌, length, is_some, Option, Some, None, if◌then◌else◌}
use Rattle.op_base.specs.declared.place.Place.{Place}
use Rattle.op_check_expr.specs.Parts.{by_feature, standing}
use Rattle.op_check_expr.specs.Phrases.{value}
use Rattle.op_check_expr.specs.Scopes.{Here as Scope}
use Rattle.op_check_unit.specs.Naming.{declared_within}
use Rattle.op_check_unit.specs.Steps.{Here}
use Rattle.op_core.specs.Sizes.{extent_of, range_of, type_at, values_of}
use Rattle.op_core.specs.declared.constant.Const.{Const}
use Rattle.op_core.specs.declared.constant.Const.TheVariants.{Ordinal, Text, Set, Nil}
use Rattle.op_core.specs.declared.ids.TypeId.{TypeId}
use Rattle.op_core.specs.declared.program.Core.{Core}
use Rattle.op_core.specs.declared.types.CoreType.{CoreType}
use Rattle.op_core.specs.declared.types.CoreType.TheVariants.{Enumeration, Subrange, Set, Array}
use Rattle.op_judgement.specs.Judgement.{Judgement, by_entry, by_test, fine, of_two, refused, through, when}
use Rattle.op_judgement.specs.declared.rules.Feature.{Feature}
use Rattle.op_judgement.specs.declared.rules.Feature.TheVariants.{DynamicArrays, ShortStrings, Strings}
use Rattle.op_judgement.specs.declared.rules.LanguageRule.TheVariants.{EmptyRange, NoConstant, NoSetElement, NotAssignable, NotInProfile, NotOrdinal, TypeTooLarge}
use Rattle.op_judgement.specs.Steps.{Step, followed, gives, judged, next, onward, silent, where_true}
use Rattle.op_tree.specs.Denoter.{Denoter, named, string, subrange, enumeration, set, array, record_}
use Rattle.op_tree.specs.Expression.{Expression}
use Rattle.op_tree.specs.declared.position.Name.{Name}
use Rattle.op_tree.specs.declared.position.Position.{Position}
use Rattle.op_types.specs.ConstantParts.{made, nodes, start_of}
use Rattle.op_types.specs.Entering.{entered}
use Rattle.op_types.specs.Folding.{constant, is_constant, pair}
use Rattle.op_types.specs.Names.{Named}
use Rattle.op_types.specs.Operators as table
use Rattle.op_types.specs.Sorts.{kind_of, same_kind}
use Rattle.op_types.specs.Values.{number_of}
use Rattle.op_types.specs.declared.constant.Constant.{Constant}
use Rattle.op_types.specs.declared.sort.OrdinalKind.{OrdinalKind}
use Rattle.op_types.specs.declared.sort.OrdinalKind.TheVariants as kind
use Rattle.op_types.specs.declared.visible.Meaning.{Meaning}
use Rattle.op_types.specs.declared.visible.Meaning.TheVariants.{Constant as ConstantNamed}

-- ---- places

abbrev start_of_name : Name → Option Name → Place
start_of_name n None = n.position.place
start_of_name n (Some u) = u.position.place

-- the first token of a type
abbrev pub start_of_denoter : Denoter → Place
start_of_denoter (named q) = start_of_name q.name q.unit
start_of_denoter (string p) = p.place
start_of_denoter (subrange first last) = start_of first
start_of_denoter (enumeration p ns) = p.place
start_of_denoter (set p base) = p.place
start_of_denoter (array p packed indices element) = p.place
start_of_denoter (record_ p packed lists) = p.place

-- ---- strings

-- where long strings are off at the word `string`, it is the short string
abbrev pub feature_of_string : Position → Feature
feature_of_string p = if p.switches.h then Strings else ShortStrings

-- `string` as a type is left out
abbrev pub string_means : Position → Judgement TypeId
string_means p = refused (NotInProfile (feature_of_string p)) p.place

-- ---- rows

-- the number of the next row of the table of types
abbrev pub number_of_next : Core → TypeId
number_of_next core = record { 0 = length core.types }

abbrev pub in_core : Core → Here → Here
in_core core h = record h { core = core }

-- a type more
abbrev pub row : CoreType → Here → Step Here TypeId
row t h = gives (number_of_next h.core) (in_core (entered h.core t) h)

-- the most bytes that a value of a type may have
abbrev pub most_bytes : ℕ
most_bytes = 1048576

-- the number of an array's elements is an Integer, also where these have no bytes
abbrev pub has_few_elements : Core → CoreType → Bool
has_few_elements core (Array index element) = nat_lt (values_of (range_of (type_at core index))) (2 ^ 31)
has_few_elements core t = true

abbrev pub is_small : Core → TypeId → CoreType → Bool
is_small core of t = nat_le (extent_of core of).size most_bytes && has_few_elements core t

-- the same of a type that may be too large
abbrev pub sized_row : Place → CoreType → Here → Step Here TypeId
sized_row place t h =
    let core = entered h.core t in
    let of = number_of_next h.core in
    where_true (is_small core of t) TypeTooLarge place (in_core core h) (gives of (in_core core h))

-- ---- constants

-- the place of an expression in no body
abbrev pub scope_outside : Core → List Named → Scope
scope_outside core names = record { core = core; visible = names; routine = None; around = [] }

-- what is no constant expression, where no rule is broken in it
abbrev pub no_constant : Core → List Named → Expression → Judgement Constant
no_constant core names e = through (value (scope_outside core names) None e) (λ v. refused NoConstant (start_of e))

-- the value of an expression that has to be constant, `nil` among others
abbrev pub needed : Core → List Named → Expression → Judgement Constant
needed core names e = when (is_constant core names e) (constant core names e) (no_constant core names e)

-- the feature that a constant shows: `nil` is left out
abbrev pub feature_of_constant : Const → Option Feature
feature_of_constant (Ordinal n) = None
feature_of_constant (Text bytes) = None
feature_of_constant (Set members) = None
feature_of_constant Nil = Some DynamicArrays

-- a constant that begins at a place, unless it shows a feature that is left out
abbrev pub built : Place → Constant → Judgement Constant
built place c = by_feature place (feature_of_constant c.value) (fine c)

-- the same, without `nil`
unfoldable pub constant_part : Core → List Named → Expression → Judgement Constant
constant_part core names e = through (needed core names e) (built (start_of e))

-- ---- subranges

-- the type of all values of a kind
abbrev pub whole_type : OrdinalKind → TypeId
whole_type kind.Integer = table.integer
whole_type kind.Boolean = table.boolean
whole_type kind.Char = table.char
whole_type (kind.Enumeration of) = of

-- a lower bound: its kind, and its number
abbrev pub lower_bound : Core → Place → Constant → Judgement (OrdinalKind × ℤ)
lower_bound core place c = by_entry NotOrdinal place (λ kind. fine (kind, number_of c.value)) (kind_of core c.of)

abbrev pub is_kind : OrdinalKind → Option OrdinalKind → Bool
is_kind kind None = false
is_kind kind (Some other) = same_kind kind other

-- the upper bound is of the same kind, and not below the lower one
abbrev pub bounds : Core → Place → Place → OrdinalKind × ℤ → Constant → Judgement CoreType
bounds core first last low c =
    by_test NotAssignable last (by_test EmptyRange first (fine (Subrange (whole_type low.0) low.1 (number_of c.value))) (int_le low.1 (number_of c.value))) (is_kind low.0 (kind_of core c.of))

abbrev pub lower_of : Core → List Named → Expression → Judgement (OrdinalKind × ℤ)
lower_of core names e = through (constant_part core names e) (lower_bound core (start_of e))

abbrev pub bounds_of : Core → Place → Place → (OrdinalKind × ℤ) × Constant → Judgement CoreType
bounds_of core first last both = bounds core first last both.0 both.1

abbrev pub subrange_of : Core → List Named → Expression → Expression → Judgement CoreType
subrange_of core names first last =
    through (of_two pair (lower_of core names first) (constant_part core names last))
    (bounds_of core (start_of first) (start_of last))

-- ---- enumerations

abbrev pub value_of : TypeId → ℤ → Meaning
value_of of n = ConstantNamed (made (Ordinal n) of (nodes 1))

-- the values of an enumeration, numbered from n on
abbrev pub values : TypeId → ℕ → List Name → Here → Step Here (Unit {0})
values of n [] h = gives tt h
values of n (x ∷ xs) h = next (declared_within x (value_of of (pos n)) h) (values of (n + 1) xs)

-- with one value at least, as each has that is parsed
abbrev pub enumeration_of : List Name → CoreType
enumeration_of ns = Enumeration (max (length ns) 1)

-- An enumeration. Its names are in the scope around it, which has no room for more of them than an enumeration may have values.
abbrev pub enumerated : List Name → Here → Step Here TypeId
enumerated ns h = onward (row (enumeration_of ns) h) (λ of h. next (values of 0 ns h) (gives of))

-- ---- sets and arrays

abbrev pub is_within_set : ℤ × ℤ → Bool
is_within_set r = int_le (pos 0) r.0 && int_le r.1 (pos 31)

-- the base is ordinal, with numbers from 0 to 31
abbrev pub set_over : Core → Place → TypeId → Judgement CoreType
set_over core place of = by_entry NotOrdinal place (λ r. by_test NoSetElement place (fine (Set of)) (is_within_set r)) (range_of (type_at core of))

-- the type of an index is ordinal
abbrev pub index_over : Core → Place → TypeId → Judgement TypeId
index_over core place of = by_test NotOrdinal place (fine of) (is_some (range_of (type_at core of)))

abbrev pub one_array : Place → Option TypeId → Option TypeId → Here → Step Here TypeId
one_array place (Some index) (Some element) h = sized_row place (Array index element) h
one_array place _ _ h = silent h

-- an array with several indices is an array of arrays: of the last index first
abbrev pub arrays : Place → Option TypeId → List (Option TypeId) → Here → Step Here TypeId
arrays place element [] h = judged h (standing element)
arrays place element (index ∷ indices) h = followed (one_array place index element h) (λ t h. arrays place t indices h)

-- one without indices is dynamic, which is left out
abbrev pub array_of : Place → List (Option TypeId) → Option TypeId → Here → Step Here TypeId
array_of place [] element h = judged h (refused (NotInProfile DynamicArrays) place)
array_of place (index ∷ indices) element h = arrays place element (index ∷ indices) h
