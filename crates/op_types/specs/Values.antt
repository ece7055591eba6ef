-- The values of constant expressions (Free Pascal Reference Guide, "Ordinary constants" and "Operators").
use Rattle.std.specs.Prelude.{ℕ, zero, suc, ◌/◌, ◌%◌, ◌^◌, ℤ, pos, negsuc, ◌+ℤ◌, ◌-ℤ◌, ◌*ℤ◌, neg_ℤ, ◌≤ℤ◌, unsigned_abs, int_lt, int_le, int_div, int_rem, nat_le, nat_lt, nat_eq, Bool, true, false, not, ◌&&◌, ◌||◌, List, [], ◌∷◌, ◌++◌, length, Option, Some, None, if◌then◌else◌}
use Rattle.std.specs.Int.{w32, cast_unsigned, cast_signed, int_bit_and, int_bit_or, int_bit_xor, int_bit_not, int_shl, int_rem_euclid}
use Rattle.std.specs.List.{list_any}
use Rattle.std.specs.Ordering.{int_eq}
use Rattle.std.specs.Option.{option_and_then, option_map}
use Rattle.op_base.specs.Arithmetic.{shift_count}
use Rattle.op_core.specs.Sizes.{integer_range, range_of, type_at}
use Rattle.op_core.specs.declared.constant.Const.{Const}
use Rattle.op_core.specs.declared.constant.Const.TheVariants.{Ordinal, Text, Set, Nil}
use Rattle.op_core.specs.declared.ids.TypeId.{TypeId}
use Rattle.op_core.specs.declared.operation.Function.{Function}
use Rattle.op_core.specs.declared.operation.Function.TheVariants.{Length, Low, Ord, Succ, Pred, Abs, Sqr, Odd, UpCase}
use Rattle.op_core.specs.declared.program.Core.{Core}
use Rattle.op_core.specs.declared.types.CoreType.{CoreType}
use Rattle.op_core.specs.declared.types.CoreType.TheVariants as type
use Rattle.op_tree.specs.declared.operator.Operator.{Operator}
use Rattle.op_tree.specs.declared.operator.Operator.TheVariants.{Equal, NotEqual, Less, Greater, LessEqual, GreaterEqual, Add, Subtract, Or, Xor, Multiply, Div, Mod_, And, Shl, Shr}
use Rattle.op_tree.specs.declared.operator.PrefixOperator.{PrefixOperator}
use Rattle.op_tree.specs.declared.operator.PrefixOperator.TheVariants.{Not, Plus, Minus}
use Rattle.op_types.specs.Operators.{boolean}
use Rattle.op_types.specs.Sets.{combined, is_part}
use Rattle.op_types.specs.Sorts.{is_text}
use Rattle.op_types.specs.declared.sort.Sort.{Sort}

-- ---- numbers

abbrev pub contains : ℤ × ℤ → ℤ → Bool
contains r n = int_le r.0 n && int_le n r.1

-- a number of 32 bits with a sign
abbrev pub within : ℤ → Option Const
within n = if contains (negsuc 2147483647, pos 2147483647) n then Some (Ordinal n) else None

-- a value of a type that ranges so
abbrev pub in_range : Option (ℤ × ℤ) → ℤ → Option Const
in_range None n = None
in_range (Some r) n = if contains r n then within n else None

abbrev pub truth : Bool → Const
truth true = Ordinal (pos 1)
truth false = Ordinal (pos 0)

-- what a comparison says of two values of which the first is less or more than the second
abbrev pub compared_by : Operator → Bool → Bool → Option Const
compared_by Equal less more = Some (truth (not (less || more)))
compared_by NotEqual less more = Some (truth (less || more))
compared_by Less less more = Some (truth less)
compared_by Greater less more = Some (truth more)
compared_by LessEqual less more = Some (truth (not more))
compared_by GreaterEqual less more = Some (truth (not less))
compared_by _ less more = None

abbrev pub if_zero : {A : Type 0} → ℤ → A → A → A
if_zero (pos zero) a b = a
if_zero (pos (suc n)) a b = b
if_zero (negsuc n) a b = b

-- Exact, with the sign of Integer; a result that has more than 32 bits is none. Shifts use the low five bits of the count.
abbrev pub on_numbers : Operator → ℤ → ℤ → Option Const
on_numbers Add a b = within (a +ℤ b)
on_numbers Subtract a b = within (a -ℤ b)
on_numbers Multiply a b = within (a *ℤ b)
on_numbers Div a b = if_zero b None (within (int_div a b))
on_numbers Mod_ a b = if_zero b None (Some (Ordinal (int_rem a b)))
on_numbers Shl a b = Some (Ordinal (int_shl w32 a (shift_count b)))
on_numbers Shr a b = Some (Ordinal (cast_signed w32 (cast_unsigned w32 a / 2 ^ shift_count b)))
on_numbers And a b = Some (Ordinal (int_bit_and w32 a b))
on_numbers Or a b = Some (Ordinal (int_bit_or w32 a b))
on_numbers Xor a b = Some (Ordinal (int_bit_xor w32 a b))
on_numbers o a b = compared_by o (int_lt a b) (int_lt b a)

-- ---- texts

-- byte by byte, and a text before what begins with it
abbrev pub precedes_bytes : List ℕ → List ℕ → Bool
precedes_bytes xs [] = false
precedes_bytes [] (y ∷ ys) = true
precedes_bytes (x ∷ xs) (y ∷ ys) = nat_lt x y || (nat_eq x y && precedes_bytes xs ys)

-- the most bytes of a text, as of a literal
abbrev pub most_text_bytes : ℕ
most_text_bytes = 65535

-- a text, where it is not too long
abbrev pub text_within : List ℕ → Option Const
text_within bytes = if nat_le (length bytes) most_text_bytes then Some (Text bytes) else None

abbrev pub on_texts : Operator → List ℕ → List ℕ → Option Const
on_texts Add a b = text_within (a ++ b)
on_texts o a b = compared_by o (precedes_bytes a b) (precedes_bytes b a)

-- ---- sets

abbrev pub is_in : ℤ → List ℕ → Bool
is_in n set = list_any (λ x. int_eq (pos x) n) set

abbrev pub on_sets : Operator → List ℕ → List ℕ → Option Const
on_sets Equal a b = Some (truth (is_part a b && is_part b a))
on_sets NotEqual a b = Some (truth (not (is_part a b && is_part b a)))
on_sets LessEqual a b = Some (truth (is_part a b))
on_sets GreaterEqual a b = Some (truth (is_part b a))
on_sets o a b = Some (Set (combined o a b))

-- ---- constants

-- the number of an ordinal value; nil is none
abbrev pub number_of : Const → ℤ
number_of (Ordinal n) = n
number_of (Text bytes) = pos 0
number_of (Set members) = pos 0
number_of Nil = pos 0

-- a Char where a text is needed is one of one byte
abbrev pub bytes_of : Const → List ℕ
bytes_of (Ordinal n) = cast_unsigned w32 n % 256 ∷ []
bytes_of (Text bytes) = bytes
bytes_of (Set members) = []
bytes_of Nil = []

abbrev pub by_values : Operator → Const → Const → Option Const
by_values o (Set a) (Set b) = on_sets o a b
by_values o (Ordinal n) (Set b) = Some (truth (is_in n b))
by_values o a b = on_numbers o (number_of a) (number_of b)

-- what an operator gives between two constants of these sorts, if that is in range, no divisor is 0 and no text too long
abbrev pub operated : Operator → Sort → Sort → Const → Const → Option Const
operated o s t a b = if is_text s && is_text t then on_texts o (bytes_of a) (bytes_of b) else by_values o a b

abbrev pub negated : TypeId → ℤ → Option Const
negated of n = if nat_eq of.0 boolean.0 then within (pos 1 -ℤ n) else Some (Ordinal (int_bit_not w32 n))

-- what a sign or `not` gives before a number of this type
abbrev pub before : PrefixOperator → TypeId → ℤ → Option Const
before Plus of n = Some (Ordinal n)
before Minus of n = within (neg_ℤ n)
before Not of n = negated of n

-- ---- functions and casts

-- what a function gives of a constant of the type, if that is in range
abbrev pub applied : Core → Function → TypeId → Const → Option Const
applied core Ord of v = Some (Ordinal (number_of v))
applied core Succ of v = in_range (range_of (type_at core of)) (number_of v +ℤ pos 1)
applied core Pred of v = in_range (range_of (type_at core of)) (number_of v -ℤ pos 1)
applied core Abs of v = within (pos (unsigned_abs (number_of v)))
applied core Sqr of v = within (number_of v *ℤ number_of v)
applied core Odd of v = within (pos (cast_unsigned w32 (number_of v) % 2))
applied core UpCase of v = within (if contains (pos 97, pos 122) (number_of v) then number_of v -ℤ pos 32 else number_of v)
applied core Length of v = within (pos (length (bytes_of v)))
applied core _ of v = None

-- the number from low to high that differs by a multiple of how many there are
abbrev pub low_bits : ℤ → ℤ → ℤ → ℤ
low_bits low high n = low +ℤ int_rem_euclid (n -ℤ low) (high -ℤ low +ℤ pos 1)

-- a cast to an integer type or Char keeps the low bits, one to another ordinal type needs a value of it
abbrev pub cast : Option CoreType → ℤ → Option Const
cast (Some (type.Integer kind)) n = within (low_bits (integer_range kind).0 (integer_range kind).1 n)
cast (Some type.Char) n = within (low_bits (pos 0) (pos 255) n)
cast t n = in_range (range_of t) n

-- the ordinal type, or the index type of an array
abbrev pub index_by : TypeId → Option CoreType → TypeId
index_by of (Some (type.Array index element)) = index
index_by of _ = of

abbrev pub end_by : Function → ℤ × ℤ → ℤ
end_by Low r = r.0
end_by _ r = r.1

-- Low or High of a type, with the type that it has
abbrev pub bound_of : Core → Function → TypeId → Option (Const × TypeId)
bound_of core f of =
    let index = index_by of (type_at core of) in
    option_map (λ v. (v, index)) (option_and_then (λ r. within (end_by f r)) (range_of (type_at core index)))
