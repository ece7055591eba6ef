-- Which constants are values of which types, and that operators and functions give such.
use Rattle.std.proofs.Common.{◌≡◌, ◌⊎◌, inl, inr, ℕ, zero, suc, ◌<◌, ◌-◌, ◌*◌, ◌/◌, ◌%◌, ◌^◌, ℤ, pos, negsuc, ◌-ℤ◌, ◌+ℤ◌, ◌*ℤ◌, ◌≤ℤ◌, unsigned_abs, Bool, true, false, not, ◌&&◌, ◌||◌, nat_eq, nat_le, List, [], ◌∷◌, ◌++◌, length, get_or, Option, Some, None, if◌then◌else◌, w32, to_z, refl, sym, ap, subst, ◌∙◌, arith}
use Rattle.std.specs.Prelude.{neg_ℤ, int_le, int_lt}
use Rattle.std.specs.Bool.{IsTrue}
use Rattle.std.specs.Int.{bit_not, cast_unsigned, int_bit_and, int_bit_or, int_bit_xor, int_rem_euclid}
use Rattle.std.specs.Int.RustNames.{bit_and, bit_or, bit_xor, int_div, int_rem}
use Rattle.std.specs.List.{All}
use Rattle.std.specs.Option.{IsSomeAnd, option_and_then, option_map}
use Rattle.std.proofs.lemmas.Bool.{and_left, and_parts, and_right, eqb-true, or_cases}
use Rattle.std.proofs.lemmas.Int.{ints, rem_below}
use Rattle.std.proofs.lemmas.List.Elements.{All-nil, All-cons}
use Rattle.std.proofs.lemmas.List.Folds.{Any-from_list_any}
use borrow.Author.Gap.{read_sfits}
use Rattle.op_base.specs.Arithmetic.{shift_count}
use Rattle.op_core.specs.Members.{Kind}
use Rattle.op_core.specs.Sizes.{integer_range, range_of, type_at}
use Rattle.op_core.specs.Sound.{IsFounded}
use Rattle.op_core.specs.Typing.{AreMembers, Fits, IsSet, Within, base_of, is_reference}
use Rattle.op_core.specs.declared.constant.Const.{Const}
use Rattle.op_core.specs.declared.constant.Const.TheVariants as const
use Rattle.op_core.specs.declared.ids.TypeId.{TypeId}
use Rattle.op_core.specs.declared.operation.Function.{Function}
use Rattle.op_core.specs.declared.operation.Function.TheVariants.{Length, Low, Ord, Succ, Pred, Abs, Sqr, Odd, UpCase}
use Rattle.op_core.specs.declared.program.Core.{Core}
use Rattle.op_core.specs.declared.types.CoreType.{CoreType}
use Rattle.op_core.specs.declared.types.CoreType.TheVariants as type
use Rattle.op_tree.specs.declared.operator.Operator.{Operator}
use Rattle.op_tree.specs.declared.operator.Operator.TheVariants.{Equal, NotEqual, Less, Greater, LessEqual, GreaterEqual, In_, Is, Add, Subtract, Or, Xor, Multiply, Slash, Div, Mod_, And, Shl, Shr, As_}
use Rattle.op_tree.specs.declared.operator.PrefixOperator.{PrefixOperator}
use Rattle.op_tree.specs.declared.operator.PrefixOperator.TheVariants.{Not, Plus, Minus}
use Rattle.op_typed.proofs.Sorting.{has_kind, stands_as}
use Rattle.op_typed.proofs.TypeFacts.{InKind, Rooted, Takes, boolean_kind, char_kind, common_is_set, common_left, common_members, common_right, in_kind, integer_kind, of_integer, rooted, same_kinds, sort_is_set, string_kind}
use Rattle.op_types.specs.Operators as table
use Rattle.op_types.specs.Sets.{combined, common_set, elements, has, is_kept, is_part, only, those_from}
use Rattle.op_types.specs.Sorts.{are_sets, is_text, kind_of, same_kind, sort_of}
use Rattle.op_types.specs.Values.{applied, before, bound_of, by_values, bytes_of, cast, compared_by, contains, end_by, in_range, index_by, is_in, low_bits, most_text_bytes, number_of, on_numbers, on_sets, on_texts, operated, precedes_bytes, text_within, truth, within}
use Rattle.op_types.specs.declared.sort.OrdinalKind.{OrdinalKind}
use Rattle.op_types.specs.declared.sort.OrdinalKind.TheVariants.{Integer, Boolean, Char, Enumeration}
use Rattle.op_types.specs.declared.sort.Sort.{Sort}
use Rattle.op_types.specs.declared.sort.Sort.TheVariants.{Ordinal, String, Set, EmptySet}

-- ---- which values a type has

some_value : (core : Core) (of : TypeId) (v : Const) (r : ℤ × ℤ) → range_of (type_at core of) ≡ Some r → Fits core v of → (n : ℤ) × (v ≡ const.Ordinal n) × IsSomeAnd (range_of (type_at core of)) (λ r. Within r n)
some_value core of (const.Ordinal n) r e h = (n, refl, h)
some_value core of (const.Text bytes) r e h = absurd (let g = rw h at e in cc)
some_value core of const.Nil r e h = absurd (go (type_at core of) e h)
  where
    go : (t : Option CoreType) → range_of t ≡ Some r → IsTrue (is_reference t) → ⊥
    go (Some (type.Class c)) e h = cc
    go (Some (type.Interface i)) e h = cc
    go (Some (type.DynamicArray x)) e h = cc
    go (Some type.Nil) e h = cc
    go t e h = cc
some_value core of (const.Set ms) r e h = absurd (go ms (type_at core of) e h)
  where
    go : (ms : List ℕ) (t : Option CoreType) → range_of t ≡ Some r → AreMembers core ms t → ⊥
    go [] (Some type.EmptySet) e h = cc
    go [] (Some (type.Set base)) e h = cc
    go [] None e h = cc
    go [] t e h = h
    go (m ∷ ms) (Some (type.Set base)) e h = cc
    go (m ∷ ms) t e h = h

-- an ordinal type's values are numbers of it
pub ordinal_value : (core : Core) (of : TypeId) (v : Const) (k : OrdinalKind) → kind_of core of ≡ Some k → Fits core v of → (n : ℤ) × (v ≡ const.Ordinal n) × IsSomeAnd (range_of (type_at core of)) (λ r. Within r n)
ordinal_value core of v k e h = go (range_of (type_at core of)) refl (has_kind core of k e)
  where
    go : (o : Option (ℤ × ℤ)) → range_of (type_at core of) ≡ o → IsSomeAnd o (λ r. Unit {0}) → (n : ℤ) × (v ≡ const.Ordinal n) × IsSomeAnd (range_of (type_at core of)) (λ r. Within r n)
    go (Some r) g s = some_value core of v r g h
    go None g s = absurd s

pub number_within : (core : Core) (of : TypeId) (v : Const) (k : OrdinalKind) → kind_of core of ≡ Some k → Fits core v of → IsSomeAnd (range_of (type_at core of)) (λ r. Within r (number_of v))
number_within core of v k e h = let g = ordinal_value core of v k e h in subst (λ v. IsSomeAnd (range_of (type_at core of)) (λ r. Within r (number_of v))) (sym g.1) g.2

pub number_in : {core : Core} (of : TypeId) (v : Const) (k : OrdinalKind) → IsFounded core → kind_of core of ≡ Some k → Fits core v of → InKind core k (number_of v)
number_in {core} of v k f e h = in_kind of (number_of v) k f e (number_within core of v k e h)

members_some : (o : Option (ℤ × ℤ)) (ms : List ℕ) → IsSomeAnd o (λ r. All (λ n. Within r (pos n)) ms) → All (λ n. IsSomeAnd o (λ r. Within r (pos n))) ms
members_some (Some r) ms h = h
members_some None ms h = absurd h

set_value : (core : Core) (of base : TypeId) (v : Const) → Kind core of (type.Set base) → Fits core v of → (ms : List ℕ) × (v ≡ const.Set ms) × All (λ m. Takes core of (pos m)) ms
set_value core of base (const.Ordinal n) k h = absurd (rw k at h)
set_value core of base (const.Text bytes) k h = absurd (cc)
set_value core of base const.Nil k h = let g = rw k at h in absurd (cc)
set_value core of base (const.Set ms) k h = (ms, refl, rw k (go ms (rw k at h)))
  where
    go : (ms : List ℕ) → AreMembers core ms (Some (type.Set base)) → All (λ m. IsSomeAnd (range_of (type_at core base)) (λ r. Within r (pos m))) ms
    go [] h = members_some (range_of (type_at core base)) [] h
    go (m ∷ ms) h = members_some (range_of (type_at core base)) (m ∷ ms) h

empty_value : (core : Core) (of : TypeId) (v : Const) → Kind core of type.EmptySet → Fits core v of → v ≡ const.Set []
empty_value core of (const.Ordinal n) k h = absurd (rw k at h)
empty_value core of (const.Text bytes) k h = absurd (cc)
empty_value core of const.Nil k h = let g = rw k at h in absurd (cc)
empty_value core of (const.Set []) k h = refl
empty_value core of (const.Set (m ∷ ms)) k h = absurd (rw k at h)

-- these numbers are a value of a set type that takes each
pub set_fits : {core : Core} (of : TypeId) (ms : List ℕ) → IsFounded core → IsSet core of → All (λ m. Takes core of (pos m)) ms → Fits core (const.Set ms) of
set_fits {core} of ms f s h = go (type_at core of) refl s
  where
    some : (o : Option (ℤ × ℤ)) (ms : List ℕ) → IsSomeAnd o (λ r. Unit {0}) → All (λ n. IsSomeAnd o (λ r. Within r (pos n))) ms → IsSomeAnd o (λ r. All (λ n. Within r (pos n)) ms)
    some (Some r) ms o h = h
    some None ms o h = absurd o

    put : (base : TypeId) (ms : List ℕ) → IsSomeAnd (range_of (type_at core base)) (λ r. All (λ n. Within r (pos n)) ms) → AreMembers core ms (Some (type.Set base))
    put base [] h = h
    put base (m ∷ ms) h = h

    go : (t : Option CoreType) → type_at core of ≡ t → IsSomeAnd (base_of t) (λ base. Unit {0}) → AreMembers core ms (type_at core of)
    go (Some (type.Set base)) e s = rw e (put base ms (some (range_of (type_at core base)) ms (f.types of.0 (type.Set base) e).0.1 (rw e at h)))
    go t e s = absurd s

-- ---- sets of values

those_all : (P : ℕ → Type 0) (test : ℕ → Bool) → ((n : ℕ) → test n ≡ true → P n) → (n count : ℕ) → All P (those_from n count test)
unfolding those_from
those_all P test h n zero = All-nil P
those_all P test h n (suc count) = go (test n) (h n) (those_all P test h (suc n) count)
  where
    go : (b : Bool) → (b ≡ true → P n) → All P (those_from (suc n) count test) → All P (only n b ++ those_from (suc n) count test)
    go true p others = All-cons P n (those_from (suc n) count test) (p refl) others
    go false p others = others

pub elements_all : (P : ℕ → Type 0) (test : ℕ → Bool) → ((n : ℕ) → test n ≡ true → P n) → All P (elements test)
elements_all P test h = those_all P test h 0 32

has_all : (P : ℕ → Type 0) (xs : List ℕ) (n : ℕ) → All P xs → has xs n ≡ true → P n
has_all P xs n h e = let a = Any-from_list_any (λ x. nat_eq x n) xs e in subst P (eqb-true a.1 n a.4) (subst P a.3 (h a.0 a.1 a.2))

kept_from : (o : Operator) (a b : Bool) → is_kept o a b ≡ true → (a ≡ true) ⊎ (b ≡ true)
kept_from Add a b h = or_cases a b h
kept_from Subtract a b h = inl (and_parts a (not b) h).0
kept_from o a b h = inl (and_parts a b h).0

pub combined_all : (P : ℕ → Type 0) (o : Operator) (xs ys : List ℕ) → All P xs → All P ys → All P (combined o xs ys)
combined_all P o xs ys h k = elements_all P (λ n. is_kept o (has xs n) (has ys n)) (λ n e. go n (kept_from o (has xs n) (has ys n) e))
  where
    go : (n : ℕ) → (has xs n ≡ true) ⊎ (has ys n ≡ true) → P n
    go n (inl e) = has_all P xs n h e
    go n (inr e) = has_all P ys n k e

-- ---- numbers

pub integer_fits : {core : Core} (n : ℤ) → IsFounded core → InKind core Integer n → Fits core (const.Ordinal n) table.integer
integer_fits n f h = let k = integer_kind f in rw k h

pub boolean_fits : {core : Core} (n : ℤ) → IsFounded core → InKind core Boolean n → Fits core (const.Ordinal n) table.boolean
boolean_fits n f h = let k = boolean_kind f in rw k h

pub char_fits : {core : Core} (n : ℤ) → IsFounded core → InKind core Char n → Fits core (const.Ordinal n) table.char
char_fits n f h = let k = char_kind f in rw k h

pub contained : (a b n : ℤ) → contains (a, b) n ≡ true → Within (a, b) n
contained a b n h = let p = and_parts (int_le a n) (int_le n b) h in let l = p.0 in let u = p.1 in (grind (arith, ints), grind (arith, ints))

by_test : (b : Bool) (v w : Const) (o : Option Const) → (if b then Some v else None) ≡ Some w → (b ≡ true) × (v ≡ w)
by_test true v w o h = (refl, cc)
by_test false v w o h = absurd (cc)

-- a number of 32 bits
abbrev In32 : ℤ → Type 0
In32 n = Within (negsuc 2147483647, pos 2147483647) n

within_is : (n : ℤ) (v : Const) → within n ≡ Some v → In32 n × (const.Ordinal n ≡ v)
within_is n v h = let t = by_test (contains (negsuc 2147483647, pos 2147483647) n) (const.Ordinal n) v None h in (contained (negsuc 2147483647) (pos 2147483647) n t.0, t.1)

in_range_is : (o : Option (ℤ × ℤ)) (n : ℤ) (v : Const) → in_range o n ≡ Some v → IsSomeAnd o (λ r. Within r n) × (const.Ordinal n ≡ v)
in_range_is None n v h = absurd (cc)
in_range_is (Some r) n v h = go (contains r n) refl h
  where
    go : (b : Bool) → contains r n ≡ b → (if b then within n else None) ≡ Some v → Within r n × (const.Ordinal n ≡ v)
    go true e g = (contained r.0 r.1 n e, (within_is n v g).1)
    go false e g = absurd (cc)

-- of so many bits, with a sign
signed : (n : ℕ) → In32 (to_z w32 n)
signed n = let s = (read_sfits w32 n).sfits in (omega (arith, ints, s), omega (arith, ints, s))

integer_is : {core : Core} (n : ℤ) (v : Const) → IsFounded core → In32 n → const.Ordinal n ≡ v → Fits core v table.integer
integer_is {core} n v f h e = subst (λ v. Fits core v table.integer) e (integer_fits n f h)

pub within_integer : {core : Core} (n : ℤ) (v : Const) → IsFounded core → within n ≡ Some v → Fits core v table.integer
within_integer n v f h = let w = within_is n v h in integer_is n v f w.0 w.1

within_boolean : {core : Core} (n : ℤ) (v : Const) → IsFounded core → Within (pos 0, pos 1) n → within n ≡ Some v → Fits core v table.boolean
within_boolean {core} n v f w h = subst (λ v. Fits core v table.boolean) (within_is n v h).1 (boolean_fits n f w)

some_signed : {core : Core} (n : ℕ) (v : Const) → IsFounded core → Some (const.Ordinal (to_z w32 n)) ≡ Some v → Fits core v table.integer
some_signed n v f h = integer_is (to_z w32 n) v f (signed n) (cc)

remainder : (a b : ℤ) → In32 b → 0 < unsigned_abs b → In32 (int_rem a b)
remainder a b h p = let r = rem_below a b p in let l = h.0 in let u = h.1 in (omega (arith, ints, r, l, u), omega (arith, ints, r, l, u))

divided : {core : Core} (a b : ℤ) (v : Const) → IsFounded core → on_numbers Div a b ≡ Some v → Fits core v table.integer
divided a (pos zero) v f h = absurd (cc)
divided a (pos (suc n)) v f h = within_integer (int_div a (pos (suc n))) v f h
divided a (negsuc n) v f h = within_integer (int_div a (negsuc n)) v f h

left_over : {core : Core} (a b : ℤ) (v : Const) → IsFounded core → In32 b → on_numbers Mod_ a b ≡ Some v → Fits core v table.integer
left_over a (pos zero) v f w h = absurd (cc)
left_over a (pos (suc n)) v f w h = integer_is (int_rem a (pos (suc n))) v f (remainder a (pos (suc n)) w (omega arith)) (cc)
left_over a (negsuc n) v f w h = integer_is (int_rem a (negsuc n)) v f (remainder a (negsuc n) w (omega arith)) (cc)

truth_fits : {core : Core} (b : Bool) (v : Const) → IsFounded core → Some (truth b) ≡ Some v → Fits core v table.boolean
truth_fits {core} true v f h = subst (λ v. Fits core v table.boolean) (let e : const.Ordinal (pos 1) ≡ v = cc in e) (boolean_fits (pos 1) f (omega (arith, ints), omega (arith, ints)))
truth_fits {core} false v f h = subst (λ v. Fits core v table.boolean) (let e : const.Ordinal (pos 0) ≡ v = cc in e) (boolean_fits (pos 0) f (omega (arith, ints), omega (arith, ints)))

compared_fits : {core : Core} (o : Operator) (less more : Bool) (v : Const) → IsFounded core → compared_by o less more ≡ Some v → Fits core v table.boolean
compared_fits Equal less more v f h = truth_fits (not (less || more)) v f h
compared_fits NotEqual less more v f h = truth_fits (less || more) v f h
compared_fits Less less more v f h = truth_fits less v f h
compared_fits Greater less more v f h = truth_fits more v f h
compared_fits LessEqual less more v f h = truth_fits (not more) v f h
compared_fits GreaterEqual less more v f h = truth_fits (not less) v f h
compared_fits o less more v f h = absurd (cc)

bit : (n : ℤ) → Within (pos 0, pos 1) n → (n ≡ pos 0) ⊎ (n ≡ pos 1)
bit (pos zero) h = inl refl
bit (pos (suc zero)) h = inr refl
bit (pos (suc (suc n))) h = absurd (let u = h.1 in omega (arith, ints, u))
bit (negsuc n) h = absurd (let l = h.0 in omega (arith, ints, l))

-- what and, or and xor give of two truth values
bits_fit : {core : Core} (g : ℤ → ℤ → ℤ) (a b : ℤ) (v : Const) → IsFounded core → Within (pos 0, pos 1) (g (pos 0) (pos 0)) → Within (pos 0, pos 1) (g (pos 0) (pos 1)) → Within (pos 0, pos 1) (g (pos 1) (pos 0)) → Within (pos 0, pos 1) (g (pos 1) (pos 1)) → Within (pos 0, pos 1) a → Within (pos 0, pos 1) b → Some (const.Ordinal (g a b)) ≡ Some v → Fits core v table.boolean
bits_fit {core} g a b v f oo oi io ii h k e = subst (λ v. Fits core v table.boolean) (let q : const.Ordinal (g a b) ≡ v = cc in q) (boolean_fits (g a b) f (go (bit a h) (bit b k)))
  where
    go : (a ≡ pos 0) ⊎ (a ≡ pos 1) → (b ≡ pos 0) ⊎ (b ≡ pos 1) → Within (pos 0, pos 1) (g a b)
    go (inl p) (inl q) = rw (p, q) oo
    go (inl p) (inr q) = rw (p, q) oi
    go (inr p) (inl q) = rw (p, q) io
    go (inr p) (inr q) = rw (p, q) ii

-- ---- what operators give

arithmetic_is : (s t : Sort) (of : TypeId) → table.arithmetic s t ≡ Some of → (s ≡ Ordinal Integer) × (t ≡ Ordinal Integer) × (table.integer ≡ of)
arithmetic_is (Ordinal Integer) (Ordinal Integer) of h = (refl, refl, cc)
arithmetic_is s t of h = absurd (cc)

abbrev AreOf : OrdinalKind → TypeId → Sort → Sort → TypeId → Type 0
AreOf k to s t of = (s ≡ Ordinal k) × (t ≡ Ordinal k) × (to ≡ of)

logic_is : (s t : Sort) (of : TypeId) → table.logic s t ≡ Some of → AreOf Boolean table.boolean s t of ⊎ AreOf Integer table.integer s t of
logic_is (Ordinal Boolean) (Ordinal Boolean) of h = inl (refl, refl, cc)
logic_is (Ordinal Integer) (Ordinal Integer) of h = inr (refl, refl, cc)
logic_is s t of h = absurd (cc)

-- a value of a type of ordinal sort
sorted_number : {core : Core} (of : TypeId) (v : Const) (k : OrdinalKind) → IsFounded core → sort_of core of ≡ Ordinal k → Fits core v of → (n : ℤ) × (v ≡ const.Ordinal n) × InKind core k n
sorted_number {core} of v k f e h =
    let s = (stands_as core of (Ordinal k) e).1 in
    let g = ordinal_value core of v k s h in
    (g.0, g.1, in_kind of g.0 k f s g.2)

sorted_in : {core : Core} (of : TypeId) (v : Const) (k : OrdinalKind) → IsFounded core → sort_of core of ≡ Ordinal k → Fits core v of → InKind core k (number_of v)
sorted_in {core} of v k f e h = number_in of v k f (stands_as core of (Ordinal k) e).1 h

pub prefix_fits : {core : Core} (o : PrefixOperator) (of to : TypeId) (v w : Const) → IsFounded core → Fits core v of → table.prefixed o (sort_of core of) ≡ Some to → before o to (number_of v) ≡ Some w → Fits core w to
prefix_fits {core} Plus of to v w f h e g =
    let a = arithmetic_is (sort_of core of) (sort_of core of) to e in
    subst (Fits core w) a.2 (integer_is (number_of v) w f (sorted_in of v Integer f a.0 h) (cc))
prefix_fits {core} Minus of to v w f h e g =
    let a = arithmetic_is (sort_of core of) (sort_of core of) to e in
    subst (Fits core w) a.2 (within_integer (neg_ℤ (number_of v)) w f g)
prefix_fits {core} Not of to v w f h e g = go (logic_is (sort_of core of) (sort_of core of) to e)
  where
    turned : (n : ℤ) → Within (pos 0, pos 1) n → Within (pos 0, pos 1) (pos 1 -ℤ n)
    turned n r = let l = r.0 in let u = r.1 in (omega (arith, ints, l, u), omega (arith, ints, l, u))

    go : AreOf Boolean table.boolean (sort_of core of) (sort_of core of) to ⊎ AreOf Integer table.integer (sort_of core of) (sort_of core of) to → Fits core w to
    go (inl a) = subst (λ to. before Not to (number_of v) ≡ Some w → Fits core w to) a.2 (λ g. within_boolean (pos 1 -ℤ number_of v) w f (turned (number_of v) (sorted_in of v Boolean f a.0 h)) g) g
    go (inr a) = subst (λ to. before Not to (number_of v) ≡ Some w → Fits core w to) a.2 (λ g. some_signed (bit_not w32 (cast_unsigned w32 (number_of v))) w f g) g

is_arithmetic : Operator → Bool
is_arithmetic Add = true
is_arithmetic Subtract = true
is_arithmetic Multiply = true
is_arithmetic Div = true
is_arithmetic Mod_ = true
is_arithmetic Shl = true
is_arithmetic Shr = true
is_arithmetic And = true
is_arithmetic Or = true
is_arithmetic Xor = true
is_arithmetic o = false

integers_fit : {core : Core} (o : Operator) (a b : ℤ) (v : Const) → IsFounded core → In32 b → is_arithmetic o ≡ true → on_numbers o a b ≡ Some v → Fits core v table.integer
unfolding is_arithmetic
integers_fit Add a b v f w i h = within_integer (a +ℤ b) v f h
integers_fit Subtract a b v f w i h = within_integer (a -ℤ b) v f h
integers_fit Multiply a b v f w i h = within_integer (a *ℤ b) v f h
integers_fit Div a b v f w i h = divided a b v f h
integers_fit Mod_ a b v f w i h = left_over a b v f w h
integers_fit Shl a b v f w i h = some_signed ((cast_unsigned w32 a * 2 ^ shift_count b) % 2 ^ 32) v f h
integers_fit Shr a b v f w i h = some_signed (cast_unsigned w32 a / 2 ^ shift_count b) v f h
integers_fit And a b v f w i h = some_signed (bit_and (cast_unsigned w32 a) (cast_unsigned w32 b)) v f h
integers_fit Or a b v f w i h = some_signed (bit_or (cast_unsigned w32 a) (cast_unsigned w32 b)) v f h
integers_fit Xor a b v f w i h = some_signed (bit_xor (cast_unsigned w32 a) (cast_unsigned w32 b)) v f h
integers_fit o a b v f w i h = absurd (cc)

-- of two constants of sorts that make no texts
record Numbers (core : Core) (o : Operator) (k : OrdinalKind) (x y v : Const) : Type 0 where
  a : ℤ
  b : ℤ
  left : InKind core k a
  right : InKind core k b
  is : on_numbers o a b ≡ Some v

numbers : {core : Core} (o : Operator) (k : OrdinalKind) (s t : TypeId) (x y v : Const) → IsFounded core → is_text (Ordinal k) ≡ false → sort_of core s ≡ Ordinal k → sort_of core t ≡ Ordinal k → Fits core x s → Fits core y t → operated o (sort_of core s) (sort_of core t) x y ≡ Some v → Numbers core o k x y v
numbers {core} o k s t x y v f z e g p q h =
    let m = sorted_number s x k f e p in
    let n = sorted_number t y k f g q in
    let z' : (is_text (sort_of core s) && is_text (sort_of core t)) ≡ false = and_left (is_text (sort_of core s)) (is_text (sort_of core t)) (ap is_text e ∙ z) in
    record {
      a = m.0;
      b = n.0;
      left = m.2;
      right = n.2;
      is = sym (λ i. if z' i then on_texts o (bytes_of x) (bytes_of y) else by_values o (m.1 i) (n.1 i)) ∙ h;
    }

arithmetic_fits : {core : Core} (o : Operator) (s t to : TypeId) (x y v : Const) → IsFounded core → is_arithmetic o ≡ true → Fits core x s → Fits core y t → AreOf Integer table.integer (sort_of core s) (sort_of core t) to → operated o (sort_of core s) (sort_of core t) x y ≡ Some v → Fits core v to
arithmetic_fits {core} o s t to x y v f i p q a h =
    let n = numbers o Integer s t x y v f refl a.0 a.1 p q h in
    subst (Fits core v) a.2 (integers_fit o n.a n.b v f n.right i n.is)

logic_fits : {core : Core} (o : Operator) (g : ℤ → ℤ → ℤ) (s t to : TypeId) (x y v : Const) → IsFounded core → is_arithmetic o ≡ true → ((a b : ℤ) → on_numbers o a b ≡ Some (const.Ordinal (g a b))) → Within (pos 0, pos 1) (g (pos 0) (pos 0)) → Within (pos 0, pos 1) (g (pos 0) (pos 1)) → Within (pos 0, pos 1) (g (pos 1) (pos 0)) → Within (pos 0, pos 1) (g (pos 1) (pos 1)) → Fits core x s → Fits core y t → table.logic (sort_of core s) (sort_of core t) ≡ Some to → operated o (sort_of core s) (sort_of core t) x y ≡ Some v → Fits core v to
logic_fits {core} o g s t to x y v f i is oo oi io ii p q e h = go (logic_is (sort_of core s) (sort_of core t) to e)
  where
    go : AreOf Boolean table.boolean (sort_of core s) (sort_of core t) to ⊎ AreOf Integer table.integer (sort_of core s) (sort_of core t) to → Fits core v to
    go (inl a) = let n = numbers o Boolean s t x y v f refl a.0 a.1 p q h in subst (Fits core v) a.2 (bits_fit g n.a n.b v f oo oi io ii n.left n.right (sym (is n.a n.b) ∙ n.is))
    go (inr a) = arithmetic_fits o s t to x y v f i p q a h

-- what an operator gives of texts, or of other values
operated_of : (o : Operator) (s t : Sort) (x y v : Const) → operated o s t x y ≡ Some v → (((is_text s && is_text t) ≡ true) × (on_texts o (bytes_of x) (bytes_of y) ≡ Some v)) ⊎ (((is_text s && is_text t) ≡ false) × (by_values o x y ≡ Some v))
operated_of o s t x y v h = go (is_text s && is_text t) refl h
  where
    go : (b : Bool) → (is_text s && is_text t) ≡ b → (if b then on_texts o (bytes_of x) (bytes_of y) else by_values o x y) ≡ Some v → (((is_text s && is_text t) ≡ true) × (on_texts o (bytes_of x) (bytes_of y) ≡ Some v)) ⊎ (((is_text s && is_text t) ≡ false) × (by_values o x y ≡ Some v))
    go true e h = inl (e, h)
    go false e h = inr (e, h)

compared_is : (b : Bool) (of : TypeId) → table.compared b ≡ Some of → (b ≡ true) × (table.boolean ≡ of)
compared_is true of h = (refl, cc)
compared_is false of h = absurd (cc)

-- of the comparisons that sets have
values_truth : {core : Core} (o : Operator) (x y v : Const) → ((a b : List ℕ) → on_sets o a b ≡ Some v → Fits core v table.boolean) → ((a b : ℤ) → on_numbers o a b ≡ Some v → Fits core v table.boolean) → IsFounded core → by_values o x y ≡ Some v → Fits core v table.boolean
values_truth o (const.Set a) (const.Set b) v s n f h = s a b h
values_truth o (const.Ordinal a) (const.Set b) v s n f h = truth_fits (is_in a b) v f h
values_truth o x y v s n f h = n (number_of x) (number_of y) h

compare_fits : {core : Core} (o : Operator) (s t : Sort) (x y v : Const) → ((a b : List ℕ) → on_texts o a b ≡ Some v → Fits core v table.boolean) → ((a b : List ℕ) → on_sets o a b ≡ Some v → Fits core v table.boolean) → ((a b : ℤ) → on_numbers o a b ≡ Some v → Fits core v table.boolean) → IsFounded core → operated o s t x y ≡ Some v → Fits core v table.boolean
compare_fits {core} o s t x y v l m n f h = go (operated_of o s t x y v h)
  where
    go : (((is_text s && is_text t) ≡ true) × (on_texts o (bytes_of x) (bytes_of y) ≡ Some v)) ⊎ (((is_text s && is_text t) ≡ false) × (by_values o x y ≡ Some v)) → Fits core v table.boolean
    go (inl g) = l (bytes_of x) (bytes_of y) g.1
    go (inr g) = values_truth o x y v m n f g.1

ordered_is : (s t : Sort) → table.ordered s t ≡ true → (is_text s && is_text t) ≡ false → (k : OrdinalKind) × (j : OrdinalKind) × (s ≡ Ordinal k) × (t ≡ Ordinal j)
ordered_is (Ordinal k) (Ordinal j) h n = (k, j, refl, refl)
ordered_is s t h n = absurd (cc)

-- of < and >
order_fits : {core : Core} (o : Operator) (s t to : TypeId) (x y v : Const) → ((a b : List ℕ) → on_texts o a b ≡ Some v → Fits core v table.boolean) → ((a b : ℤ) → on_numbers o a b ≡ Some v → Fits core v table.boolean) → IsFounded core → Fits core x s → Fits core y t → table.compared (table.ordered (sort_of core s) (sort_of core t)) ≡ Some to → operated o (sort_of core s) (sort_of core t) x y ≡ Some v → Fits core v to
order_fits {core} o s t to x y v l n f p q e h = let c = compared_is (table.ordered (sort_of core s) (sort_of core t)) to e in subst (Fits core v) c.1 (go c.0 (operated_of o (sort_of core s) (sort_of core t) x y v h))
  where
    go : table.ordered (sort_of core s) (sort_of core t) ≡ true → (((is_text (sort_of core s) && is_text (sort_of core t)) ≡ true) × (on_texts o (bytes_of x) (bytes_of y) ≡ Some v)) ⊎ (((is_text (sort_of core s) && is_text (sort_of core t)) ≡ false) × (by_values o x y ≡ Some v)) → Fits core v table.boolean
    go d (inl g) = l (bytes_of x) (bytes_of y) g.1
    go d (inr g) =
        let r = ordered_is (sort_of core s) (sort_of core t) d g.0 in
        let a = sorted_number s x r.0 f r.2 p in
        let b = sorted_number t y r.1 f r.3 q in
        n a.0 b.0 (sym (λ i. by_values o (a.1 i) (b.1 i)) ∙ g.1)

member_is : (s t : Sort) (to : TypeId) → table.member_of s t ≡ Some to → (k : OrdinalKind) × (s ≡ Ordinal k) × (is_text t ≡ false) × (table.boolean ≡ to)
member_is (Ordinal k) (Set j) to h = (k, refl, refl, (compared_is (same_kind k j) to h).1)
member_is (Ordinal k) EmptySet to h = (k, refl, refl, cc)
member_is s t to h = absurd (cc)

-- a value of a type whose sort is one of sets
record Members (core : Core) (of : TypeId) (v : Const) : Type 0 where
  members : List ℕ
  is : v ≡ const.Set members
  taken : All (λ m. Takes core of (pos m)) members

empty_members : (core : Core) (of : TypeId) (v : Const) → sort_of core of ≡ EmptySet → Fits core v of → Members core of v
empty_members core of v e h = record { members = []; is = empty_value core of v (stands_as core of EmptySet e) h; taken = All-nil (λ m. Takes core of (pos m)) }

sort_members : (core : Core) (of : TypeId) (v : Const) (k : OrdinalKind) → sort_of core of ≡ Set k → Fits core v of → Members core of v
sort_members core of v k e h = let s = stands_as core of (Set k) e in let g = set_value core of s.0 v s.1 h in record { members = g.0; is = g.1; taken = g.2 }

-- two sets of one kind
pub record Pair (core : Core) (s t : TypeId) (x y : Const) : Type 0 where
  pub xs : List ℕ
  pub ys : List ℕ
  pub left : x ≡ const.Set xs
  pub right : y ≡ const.Set ys
  pub text : is_text (sort_of core s) ≡ false
  pub fits : (o : Operator) → Fits core (const.Set (combined o xs ys)) (common_set core s t)

pub pair_of : {core : Core} (s t : TypeId) (x y : Const) → IsFounded core → Fits core x s → Fits core y t → are_sets (sort_of core s) (sort_of core t) ≡ true → Pair core s t x y
pair_of {core} s t x y f p q h = go (sort_of core s) refl (sort_of core t) refl h
  where
    -- all that stands in either is taken by the type to which they go
    made : Members core s x → Members core t y → is_text (sort_of core s) ≡ false → (to : TypeId) → common_set core s t ≡ to → ((ms : List ℕ) → All (λ m. Takes core to (pos m)) ms → Fits core (const.Set ms) to) → ((m : ℕ) → Takes core s (pos m) → Takes core to (pos m)) → ((m : ℕ) → Takes core t (pos m) → Takes core to (pos m)) → Pair core s t x y
    made m n z to c g l r = record {
      xs = m.members;
      ys = n.members;
      left = m.is;
      right = n.is;
      text = z;
      fits = λ o. subst (Fits core (const.Set (combined o m.members n.members))) (sym c)
          (g (combined o m.members n.members) (combined_all (λ m. Takes core to (pos m)) o m.members n.members (λ i d k. l (get_or m.members i d) (m.taken i d k)) (λ i d k. r (get_or n.members i d) (n.taken i d k))));
    }

    -- a set without elements takes none
    never : (of : TypeId) → sort_of core of ≡ EmptySet → (m : ℕ) → Takes core of (pos m) → ⊥
    never of e m h = rw (stands_as core of EmptySet e) at h

    none : (ms : List ℕ) → All (λ m. ⊥) ms → ms ≡ []
    none [] h = refl
    none (m ∷ ms) h = absurd (h 0 m (omega arith))

    go : (a : Sort) → sort_of core s ≡ a → (b : Sort) → sort_of core t ≡ b → are_sets a b ≡ true → Pair core s t x y
    go (Set k) e (Set j) g h =
        let g' : sort_of core t ≡ Set k = g ∙ ap Set (sym (same_kinds k j h)) in
        made (sort_members core s x k e p) (sort_members core t y k g' q) (ap is_text e) (common_set core s t) refl (λ ms. set_fits (common_set core s t) ms f (common_is_set s t k k f e g'))
        (λ m h. common_members s t (pos m) k f e g' (inl h)) (λ m h. common_members s t (pos m) k f e g' (inr h))
    go (Set k) e EmptySet g h =
        made (sort_members core s x k e p) (empty_members core t y g q) (ap is_text e) s (common_right core s t k e g) (λ ms. set_fits s ms f (sort_is_set core s k e)) (λ m h. h) (λ m h. absurd (never t g m h))
    go EmptySet e (Set k) g h =
        made (empty_members core s x e p) (sort_members core t y k g q) (ap is_text e) t (common_left core s t e) (λ ms. set_fits t ms f (sort_is_set core t k g)) (λ m h. absurd (never s e m h)) (λ m h. h)
    go EmptySet e EmptySet g h =
        made (empty_members core s x e p) (empty_members core t y g q) (ap is_text e) t (common_left core s t e)
        (λ ms h. rw (none ms (λ i d l. never t g (get_or ms i d) (h i d l)), stands_as core t EmptySet g) tt) (λ m h. absurd (never s e m h)) (λ m h. h)
    go a e b g h = absurd (cc)

zero_bit : Within (pos 0, pos 1) (pos 0)
zero_bit = (omega (arith, ints), omega (arith, ints))

one_bit : Within (pos 0, pos 1) (pos 1)
one_bit = (omega (arith, ints), omega (arith, ints))

-- the set that an operator makes of two
sets_fit : {core : Core} (o : Operator) (s t : TypeId) (x y v : Const) → IsFounded core → ((a b : List ℕ) → on_sets o a b ≡ Some (const.Set (combined o a b))) → Fits core x s → Fits core y t → are_sets (sort_of core s) (sort_of core t) ≡ true → operated o (sort_of core s) (sort_of core t) x y ≡ Some v → Fits core v (common_set core s t)
sets_fit {core} o s t x y v f g p q a h =
    let r = pair_of s t x y f p q a in
    let z : (is_text (sort_of core s) && is_text (sort_of core t)) ≡ false = and_left (is_text (sort_of core s)) (is_text (sort_of core t)) r.text in
    let e : on_sets o r.xs r.ys ≡ Some v = sym (λ i. if z i then on_texts o (bytes_of x) (bytes_of y) else by_values o (r.left i) (r.right i)) ∙ h in
    subst (λ v. Fits core v (common_set core s t)) (let k = g r.xs r.ys in let d : const.Set (combined o r.xs r.ys) ≡ v = cc in d) (r.fits o)

set_arithmetic_fits : {core : Core} (o : Operator) (s t to : TypeId) (x y v : Const) → IsFounded core → is_arithmetic o ≡ true → ((a b : List ℕ) → on_sets o a b ≡ Some (const.Set (combined o a b))) → Fits core x s → Fits core y t → table.set_arithmetic (sort_of core s) (sort_of core t) (common_set core s t) ≡ Some to → operated o (sort_of core s) (sort_of core t) x y ≡ Some v → Fits core v to
set_arithmetic_fits {core} o s t to x y v f i g p q e h = go (are_sets (sort_of core s) (sort_of core t)) refl e
  where
    go : (b : Bool) → are_sets (sort_of core s) (sort_of core t) ≡ b → (if b then Some (common_set core s t) else table.arithmetic (sort_of core s) (sort_of core t)) ≡ Some to → Fits core v to
    go true a k = subst (Fits core v) (let d : common_set core s t ≡ to = cc in d) (sets_fit o s t x y v f g p q a h)
    go false a k = arithmetic_fits o s t to x y v f i p q (arithmetic_is (sort_of core s) (sort_of core t) to k) h

truths : {core : Core} (o : Operator) (s t to : TypeId) (x y v : Const) (b : Bool) → ((a b : List ℕ) → on_texts o a b ≡ Some v → Fits core v table.boolean) → ((a b : List ℕ) → on_sets o a b ≡ Some v → Fits core v table.boolean) → ((a b : ℤ) → on_numbers o a b ≡ Some v → Fits core v table.boolean) → IsFounded core → table.compared b ≡ Some to → operated o (sort_of core s) (sort_of core t) x y ≡ Some v → Fits core v to
truths {core} o s t to x y v b l m n f e h = subst (Fits core v) (compared_is b to e).1 (compare_fits o (sort_of core s) (sort_of core t) x y v l m n f h)

text_is : (bytes : List ℕ) (v : Const) → text_within bytes ≡ Some v → const.Text bytes ≡ v
text_is bytes v e = go (nat_le (length bytes) most_text_bytes) e
  where
    go : (b : Bool) → (if b then Some (const.Text bytes) else None) ≡ Some v → const.Text bytes ≡ v
    go true e = cc
    go false e = absurd (cc)

pub operation_fits : {core : Core} (o : Operator) (s t to : TypeId) (x y v : Const) → IsFounded core → Fits core x s → Fits core y t → table.operation o (sort_of core s) (sort_of core t) (common_set core s t) ≡ Some to → operated o (sort_of core s) (sort_of core t) x y ≡ Some v → Fits core v to
unfolding is_arithmetic
operation_fits {core} Add s t to x y v f p q e h = go (is_text (sort_of core s) && is_text (sort_of core t)) refl e h
  where
    go : (b : Bool) → (is_text (sort_of core s) && is_text (sort_of core t)) ≡ b → (if b then Some table.string else table.set_arithmetic (sort_of core s) (sort_of core t) (common_set core s t)) ≡ Some to → (if b then on_texts Add (bytes_of x) (bytes_of y) else by_values Add x y) ≡ Some v → Fits core v to
    go true c e k = subst (Fits core v) (let d : table.string ≡ to = cc in d) (subst (λ v. Fits core v table.string) (text_is (bytes_of x ++ bytes_of y) v k) (string_kind f))
    go false c e k = set_arithmetic_fits Add s t to x y v f refl (λ a b. refl) p q e h
operation_fits Subtract s t to x y v f p q e h = set_arithmetic_fits Subtract s t to x y v f refl (λ a b. refl) p q e h
operation_fits Multiply s t to x y v f p q e h = set_arithmetic_fits Multiply s t to x y v f refl (λ a b. refl) p q e h
operation_fits {core} Div s t to x y v f p q e h = arithmetic_fits Div s t to x y v f refl p q (arithmetic_is (sort_of core s) (sort_of core t) to e) h
operation_fits {core} Mod_ s t to x y v f p q e h = arithmetic_fits Mod_ s t to x y v f refl p q (arithmetic_is (sort_of core s) (sort_of core t) to e) h
operation_fits {core} Shl s t to x y v f p q e h = arithmetic_fits Shl s t to x y v f refl p q (arithmetic_is (sort_of core s) (sort_of core t) to e) h
operation_fits {core} Shr s t to x y v f p q e h = arithmetic_fits Shr s t to x y v f refl p q (arithmetic_is (sort_of core s) (sort_of core t) to e) h
operation_fits And s t to x y v f p q e h = logic_fits And (int_bit_and w32) s t to x y v f refl (λ a b. refl) zero_bit zero_bit zero_bit one_bit p q e h
operation_fits Or s t to x y v f p q e h = logic_fits Or (int_bit_or w32) s t to x y v f refl (λ a b. refl) zero_bit one_bit one_bit one_bit p q e h
operation_fits Xor s t to x y v f p q e h = logic_fits Xor (int_bit_xor w32) s t to x y v f refl (λ a b. refl) zero_bit one_bit one_bit zero_bit p q e h
operation_fits Less s t to x y v f p q e h = order_fits Less s t to x y v (λ a b. compared_fits Less (precedes_bytes a b) (precedes_bytes b a) v f) (λ a b. compared_fits Less (int_lt a b) (int_lt b a) v f) f p q e h
operation_fits Greater s t to x y v f p q e h = order_fits Greater s t to x y v (λ a b. compared_fits Greater (precedes_bytes a b) (precedes_bytes b a) v f) (λ a b. compared_fits Greater (int_lt a b) (int_lt b a) v f) f p q e h
operation_fits {core} LessEqual s t to x y v f p q e h = truths LessEqual s t to x y v (table.included (sort_of core s) (sort_of core t)) (λ a b. compared_fits LessEqual (precedes_bytes a b) (precedes_bytes b a) v f) (λ a b. truth_fits (is_part a b) v f) (λ a b. compared_fits LessEqual (int_lt a b) (int_lt b a) v f) f e h
operation_fits {core} GreaterEqual s t to x y v f p q e h = truths GreaterEqual s t to x y v (table.included (sort_of core s) (sort_of core t)) (λ a b. compared_fits GreaterEqual (precedes_bytes a b) (precedes_bytes b a) v f) (λ a b. truth_fits (is_part b a) v f) (λ a b. compared_fits GreaterEqual (int_lt a b) (int_lt b a) v f) f e h
operation_fits {core} Equal s t to x y v f p q e h = truths Equal s t to x y v (table.equated (sort_of core s) (sort_of core t)) (λ a b. compared_fits Equal (precedes_bytes a b) (precedes_bytes b a) v f) (λ a b. truth_fits (is_part a b && is_part b a) v f) (λ a b. compared_fits Equal (int_lt a b) (int_lt b a) v f) f e h
operation_fits {core} NotEqual s t to x y v f p q e h = truths NotEqual s t to x y v (table.equated (sort_of core s) (sort_of core t)) (λ a b. compared_fits NotEqual (precedes_bytes a b) (precedes_bytes b a) v f) (λ a b. truth_fits (not (is_part a b && is_part b a)) v f) (λ a b. compared_fits NotEqual (int_lt a b) (int_lt b a) v f) f e h
operation_fits {core} In_ s t to x y v f p q e h = go (operated_of In_ (sort_of core s) (sort_of core t) x y v h)
  where
    m : (k : OrdinalKind) × (sort_of core s ≡ Ordinal k) × (is_text (sort_of core t) ≡ false) × (table.boolean ≡ to)
    m = member_is (sort_of core s) (sort_of core t) to e

    values : (x y : Const) → (n : ℤ) × (x ≡ const.Ordinal n) × InKind core m.0 n → by_values In_ x y ≡ Some v → Fits core v table.boolean
    values (const.Ordinal n) (const.Set b) r h = truth_fits (is_in n b) v f h
    values (const.Ordinal n) (const.Ordinal b) r h = absurd (cc)
    values (const.Ordinal n) (const.Text b) r h = absurd (cc)
    values (const.Ordinal n) const.Nil r h = absurd (cc)
    values x y r h = absurd (let e = r.1 in cc)

    go : (((is_text (sort_of core s) && is_text (sort_of core t)) ≡ true) × (on_texts In_ (bytes_of x) (bytes_of y) ≡ Some v)) ⊎ (((is_text (sort_of core s) && is_text (sort_of core t)) ≡ false) × (by_values In_ x y ≡ Some v)) → Fits core v to
    go (inl g) = absurd (let z = and_right (is_text (sort_of core s)) (is_text (sort_of core t)) m.2 in cc)
    go (inr g) = subst (Fits core v) m.3 (values x y (sorted_number s x m.0 f m.1 p) g.1)
operation_fits Is s t to x y v f p q e h = absurd (cc)
operation_fits As_ s t to x y v f p q e h = absurd (cc)
operation_fits Slash s t to x y v f p q e h = absurd (cc)

-- ---- what functions and casts give

-- kinds have numbers of 32 bits
in_32 : {core : Core} (k : OrdinalKind) (n : ℤ) → IsFounded core → Rooted core k → InKind core k n → In32 n
in_32 Integer n f r h = h
in_32 Boolean n f r h = let l = h.0 in let u = h.1 in (omega (arith, ints, l), omega (arith, ints, u))
in_32 Char n f r h = let l = h.0 in let u = h.1 in (omega (arith, ints, l), omega (arith, ints, u))
in_32 {core} (Enumeration e) n f r h =
    let v : Within (pos 0, pos r.0 -ℤ pos 1) n = rw r.1 at h in
    let m = (f.types e.0 (type.Enumeration r.0) r.1).1 in
    let l = v.0 in
    let u = v.1 in
    (omega (arith, ints, l), omega (arith, ints, u, m))

ord_is : (s : Sort) (of to : TypeId) → table.application Ord s of ≡ Some to → (k : OrdinalKind) × (s ≡ Ordinal k) × (table.integer ≡ to)
ord_is (Ordinal k) of to h = (k, refl, cc)
ord_is s of to h = absurd (cc)

odd_is : (s : Sort) (of to : TypeId) → table.application Odd s of ≡ Some to → table.boolean ≡ to
odd_is (Ordinal Integer) of to h = cc
odd_is s of to h = absurd (cc)

upper_is : (s : Sort) (of to : TypeId) → table.application UpCase s of ≡ Some to → (s ≡ Ordinal Char) × (table.char ≡ to)
upper_is (Ordinal Char) of to h = (refl, cc)
upper_is s of to h = absurd (cc)

length_is : (s : Sort) (of to : TypeId) → table.application Length s of ≡ Some to → table.integer ≡ to
length_is String of to h = cc
length_is (Ordinal Char) of to h = cc
length_is s of to h = absurd (cc)

next_is : (s : Sort) (of to : TypeId) → (table.application Succ s of ≡ Some to) ⊎ (table.application Pred s of ≡ Some to) → of ≡ to
next_is (Ordinal k) of to (inl h) = cc
next_is (Ordinal k) of to (inr h) = cc
next_is s of to (inl h) = absurd (cc)
next_is s of to (inr h) = absurd (cc)

next_fits : (core : Core) (of to : TypeId) (n : ℤ) (w : Const) → of ≡ to → in_range (range_of (type_at core of)) n ≡ Some w → Fits core w to
next_fits core of to n w e h = let i = in_range_is (range_of (type_at core of)) n w h in subst (Fits core w) e (subst (λ w. Fits core w of) i.1 i.0)

upper : (b : Bool) (n : ℤ) → contains (pos 97, pos 122) n ≡ b → Within (pos 0, pos 255) n → Within (pos 0, pos 255) (if b then n -ℤ pos 32 else n)
upper true n e h =
    let c = contained (pos 97) (pos 122) n e in
    let l = c.0 in
    let u = c.1 in
    (omega (arith, ints, l), omega (arith, ints, u))
upper false n e h = h

pub application_fits : {core : Core} (g : Function) (of to : TypeId) (v w : Const) → IsFounded core → Fits core v of → table.application g (sort_of core of) of ≡ Some to → applied core g of v ≡ Some w → Fits core w to
application_fits {core} Ord of to v w f h e a =
    let o = ord_is (sort_of core of) of to e in
    let k = (stands_as core of (Ordinal o.0) o.1).1 in
    subst (Fits core w) o.2 (integer_is (number_of v) w f (in_32 o.0 (number_of v) f (rooted core of o.0 k) (number_in of v o.0 f k h)) (cc))
application_fits {core} Succ of to v w f h e a = next_fits core of to (number_of v +ℤ pos 1) w (next_is (sort_of core of) of to (inl e)) a
application_fits {core} Pred of to v w f h e a = next_fits core of to (number_of v -ℤ pos 1) w (next_is (sort_of core of) of to (inr e)) a
application_fits {core} Abs of to v w f h e a = subst (Fits core w) (arithmetic_is (sort_of core of) (sort_of core of) to e).2 (within_integer (pos (unsigned_abs (number_of v))) w f a)
application_fits {core} Sqr of to v w f h e a = subst (Fits core w) (arithmetic_is (sort_of core of) (sort_of core of) to e).2 (within_integer (number_of v *ℤ number_of v) w f a)
application_fits {core} Odd of to v w f h e a =
    subst (Fits core w) (odd_is (sort_of core of) of to e) (within_boolean (pos (cast_unsigned w32 (number_of v) % 2)) w f (omega (arith, ints), omega (arith, ints)) a)
application_fits {core} UpCase of to v w f h e a =
    let u = upper_is (sort_of core of) of to e in
    let n = number_of v in
    let c = if contains (pos 97, pos 122) n then n -ℤ pos 32 else n in
    subst (Fits core w) u.1 (subst (λ w. Fits core w table.char) (within_is c w a).1 (char_fits c f (upper (contains (pos 97, pos 122) n) n refl (sorted_in of v Char f u.0 h))))
application_fits {core} Length of to v w f h e a = subst (Fits core w) (length_is (sort_of core of) of to e) (within_integer (pos (length (bytes_of v))) w f a)
application_fits g of to v w f h e a = absurd (cc)

euclid : (z d : ℤ) → 0 < unsigned_abs d → (k : ℕ) × (int_rem_euclid z d ≡ pos k) × (k < unsigned_abs d)
euclid (pos a) d h = (a % unsigned_abs d, refl, omega arith)
euclid (negsuc a) d h = (unsigned_abs d - 1 - a % unsigned_abs d, refl, omega arith)

low_within : (low high n : ℤ) → low ≤ℤ high → Within (low, high) (low_bits low high n)
low_within low high n o =
    let e = euclid (n -ℤ low) (high -ℤ low +ℤ pos 1) (omega (arith, ints, o)) in
    let k = e.0 in
    let l : k < unsigned_abs (high -ℤ low +ℤ pos 1) = e.2 in
    rw e.1 (omega (arith, ints), omega (arith, ints, l, o))

low_fits : (core : Core) (of : TypeId) (t : Option CoreType) (r : ℤ × ℤ) (n : ℤ) (w : Const) → type_at core of ≡ t → range_of t ≡ Some r → r.0 ≤ℤ r.1 → within (low_bits r.0 r.1 n) ≡ Some w → Fits core w of
low_fits core of t r n w e g o h = subst (λ w. Fits core w of) (within_is (low_bits r.0 r.1 n) w h).1 (rw (e, g) (low_within r.0 r.1 n o))

pub cast_fits : (core : Core) (of : TypeId) (n : ℤ) (w : Const) → cast (type_at core of) n ≡ Some w → Fits core w of
cast_fits core of n w h = go (type_at core of) refl h
  where
    go : (t : Option CoreType) → type_at core of ≡ t → cast t n ≡ Some w → Fits core w of
    go (Some (type.Integer kind)) e h = low_fits core of (Some (type.Integer kind)) (integer_range kind) n w e refl (of_integer kind).order h
    go (Some type.Char) e h = low_fits core of (Some type.Char) (pos 0, pos 255) n w e refl (omega (arith, ints)) h
    go t e h = let i = in_range_is (range_of t) n w h in subst (λ w. Fits core w of) i.1 (rw e i.0)

-- an ordinal type has values
range_order : {core : Core} (of : TypeId) (r : ℤ × ℤ) → IsFounded core → range_of (type_at core of) ≡ Some r → r.0 ≤ℤ r.1
range_order {core} of r f h = go (type_at core of) refl h
  where
    order : (q : ℤ × ℤ) → Some q ≡ Some r → q.0 ≤ℤ q.1 → r.0 ≤ℤ r.1
    order q e o = subst (λ q. q.0 ≤ℤ q.1) (let d : q ≡ r = cc in d) o

    go : (t : Option CoreType) → type_at core of ≡ t → range_of t ≡ Some r → r.0 ≤ℤ r.1
    go (Some (type.Integer kind)) e h = order (integer_range kind) h (of_integer kind).order
    go (Some type.Boolean) e h = order (pos 0, pos 1) h (omega (arith, ints))
    go (Some type.Char) e h = order (pos 0, pos 255) h (omega (arith, ints))
    go (Some (type.Enumeration count)) e h = order (pos 0, pos count -ℤ pos 1) h (let c = (f.types of.0 (type.Enumeration count) e).0 in omega (arith, ints, c))
    go (Some (type.Subrange base low high)) e h = order (low, high) h (f.types of.0 (type.Subrange base low high) e).2
    go t e h = absurd (cc)

pub bound_fits : {core : Core} (g : Function) (of : TypeId) (b : Const × TypeId) → IsFounded core → bound_of core g of ≡ Some b → Fits core b.0 b.1
bound_fits {core} g of b f h = go (index_by of (type_at core of)) (range_of (type_at core (index_by of (type_at core of)))) refl h
  where
    at_end : (g : Function) (r : ℤ × ℤ) → r.0 ≤ℤ r.1 → Within r (end_by g r)
    at_end Low r o = (omega (arith, ints), o)
    at_end g r o = (o, omega (arith, ints))

    made : (index : TypeId) (r : ℤ × ℤ) → range_of (type_at core index) ≡ Some r → (v : Option Const) → within (end_by g r) ≡ v → option_map (λ v. (v, index)) v ≡ Some b → Fits core b.0 b.1
    made index r e (Some v) w k =
        let q : (v, index) ≡ b = cc in
        subst (λ b. Fits core b.0 b.1) q (subst (λ v. Fits core v index) (within_is (end_by g r) v w).1 (rw e (at_end g r (range_order index r f e))))
    made index r e None w k = absurd (cc)

    go : (index : TypeId) (o : Option (ℤ × ℤ)) → range_of (type_at core index) ≡ o → option_map (λ v. (v, index)) (option_and_then (λ r. within (end_by g r)) o) ≡ Some b → Fits core b.0 b.1
    go index (Some r) e k = made index r e (within (end_by g r)) refl k
    go index None e k = absurd (cc)
