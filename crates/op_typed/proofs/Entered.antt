-- A type that is entered, with what stands behind it, leaves tables as they should be.
use Rattle.std.proofs.Common.{◌≡◌, ℕ, ◌+◌, ◌<◌, ◌≤◌, nat_le, ℤ, pos, ◌≤ℤ◌, int_le, Bool, true, false, ◌&&◌, List, [], ◌∷◌, ◌++◌, length, slice_get, IsTrue, IsSomeAnd, Option, Some, None, if◌then◌else◌, refl, sym, ap, subst, ◌∙◌, append-nil, append_assoc, arith}
use Rattle.std.proofs.lemmas.Bool.{leb-false, leb-true}
use Rattle.std.proofs.lemmas.Int.{ints}
use Rattle.std.proofs.lemmas.Option.{slice_get_within}
use Rattle.std.specs.Prelude.{unwrap_or}
use Rattle.op_core.proofs.Growing.{EachFrom, each_behind, each_stands, front_itself, front_stays, of_some, grows_itself, grows_tables, grows_through}
use Rattle.op_typed.proofs.Lasting.{fact_lasts}
use Rattle.op_core.specs.Growing.{Grows}
use Rattle.op_core.specs.Members.{Kind, There}
use Rattle.op_core.specs.Sizes.{IsBehind, KeepsExtents, extent_by, extent_of, plain, range_of, type_at}
use Rattle.op_core.specs.Sound.{Each, HasSet, IsTypeRow, is_whole, set_behind, size_of, type_row}
use Rattle.op_core.specs.Types.{id}
use Rattle.op_core.specs.Typing.{IsOrdinal, Within}
use Rattle.op_core.specs.declared.ids.TypeId.{TypeId}
use Rattle.op_core.specs.declared.program.Core.{Core}
use Rattle.op_core.specs.declared.types.CoreType.{CoreType}
use Rattle.op_core.specs.declared.types.CoreType.TheVariants.{Enumeration, Subrange, Set, Record, Array, Interface}
use Rattle.op_types.proofs.Extents.{entered_keeps}
use Rattle.op_types.specs.Entering.{entered, rows_of, sets_of, with_type, with_types}
use Rattle.op_types.specs.declared.enter.Sets.{Sets}
use Rattle.op_types.specs.declared.enter.Sets.TheVariants.{None as None', OfAll, OfFirst}

-- ---- what grows

with_type_grows : (core : Core) (t : CoreType) → Grows core (with_type core t)
with_type_grows core t = grows_tables (record { more = t ∷ []; is = refl }) (record { more = extent_by (extent_of core) core (Some t) ∷ []; is = refl }) (front_itself core.fields) refl refl refl refl refl refl refl refl

with_types_grow : (core : Core) (ts : List CoreType) → Grows core (with_types core ts)
with_types_grow core [] = grows_itself core
with_types_grow core (t ∷ ts) = grows_through (with_type_grows core t) (with_types_grow (with_type core t) ts)

with_types_rows : (core : Core) (ts : List CoreType) → (with_types core ts).types ≡ core.types ++ ts
with_types_rows core [] = sym (append-nil core.types)
with_types_rows core (t ∷ ts) = with_types_rows (with_type core t) ts ∙ append_assoc core.types (t ∷ []) ts

pub entered_grows : (core : Core) (t : CoreType) → Grows core (entered core t)
unfolding entered
entered_grows core t = with_types_grow core (t ∷ rows_of (length core.types) (sets_of t))

pub entered_rows : (core : Core) (t : CoreType) → (entered core t).types ≡ core.types ++ t ∷ rows_of (length core.types) (sets_of t)
unfolding entered
entered_rows core t = with_types_rows core (t ∷ rows_of (length core.types) (sets_of t))

-- the type and what stands behind it have their places
abbrev pub Stand : Core → ℕ → List CoreType → Type 0
Stand core n ts = EachFrom (λ m t. Kind core (id m) t) n ts

pub entered_stand : (core : Core) (t : CoreType) → Stand (entered core t) (length core.types) (t ∷ rows_of (length core.types) (sets_of t))
entered_stand core t = each_stands core.types (t ∷ rows_of (length core.types) (sets_of t)) (entered core t).types (length core.types) refl (entered_rows core t)

-- what holds of the rows before, and of the new ones
pub each_entered : (core : Core) (t : CoreType) (P : ℕ → CoreType → Type 0) → Each core.types P → EachFrom P (length core.types) (t ∷ rows_of (length core.types) (sets_of t)) → Each (entered core t).types P
each_entered core t P f g = subst (λ ts. Each ts P) (sym (entered_rows core t)) (each_behind P core.types (t ∷ rows_of (length core.types) (sets_of t)) f g)

-- ---- which sets stand behind

all_of : (values : ℕ) (b : Bool) → nat_le values 32 ≡ b → (if b then OfAll else OfFirst) ≡ OfAll → values ≤ 32
all_of values true e h = leb-true values 32 e
all_of values false e h = absurd (cc)

first_of : (values : ℕ) (b : Bool) → nat_le values 32 ≡ b → (if b then OfAll else OfFirst) ≡ OfFirst → 32 < values
first_of values true e h = absurd (cc)
first_of values false e h = leb-false values 32 e

small_of : (low high : ℤ) (b : Bool) → (int_le (pos 0) low && int_le high (pos 31)) ≡ b → (if b then OfAll else None') ≡ OfAll → (pos 0 ≤ℤ low) × (high ≤ℤ pos 31)
small_of low high true e h = (grind (arith, ints), grind (arith, ints))
small_of low high false e h = absurd (cc)

no_first : (b : Bool) → (if b then OfAll else None') ≡ OfFirst → ⊥
no_first true h = cc
no_first false h = cc

sets_small : (t : CoreType) → sets_of t ≡ OfAll → IsSomeAnd (range_of (Some t)) (λ r. (pos 0 ≤ℤ r.0) × (r.1 ≤ℤ pos 31))
sets_small (Enumeration values) e = let l = all_of values (nat_le values 32) refl e in (omega (arith, ints), omega (arith, ints, l))
sets_small (Subrange base low high) e = small_of low high (int_le (pos 0) low && int_le high (pos 31)) refl e
sets_small t e = absurd (cc)

sets_first : (t : CoreType) → sets_of t ≡ OfFirst → (values : ℕ) × (t ≡ Enumeration values) × (32 < values)
sets_first (Enumeration values) e = (values, refl, first_of values (nat_le values 32) refl e)
sets_first (Subrange base low high) e = absurd (no_first (int_le (pos 0) low && int_le high (pos 31)) e)
sets_first t e = absurd (cc)

-- what stands behind a type are sets and subranges
pub each_of_sets : (P : ℕ → CoreType → Type 0) → ((n : ℕ) (base : TypeId) → P n (Set base)) → ((n : ℕ) (base : TypeId) (low high : ℤ) → P n (Subrange base low high)) → (k n : ℕ) (t : CoreType) → EachFrom P k (rows_of n (sets_of t))
each_of_sets P f g k n t = one (sets_of t)
  where
    one : (s : Sets) → EachFrom P k (rows_of n s)
    one None' = tt
    one OfAll = (f k (id n), tt)
    one OfFirst = (g k (id n) (pos 0) (pos 31), (f (k + 1) (id (n + 1)), tt))

-- ---- rows of types

small_ordinal : (o : Option (ℤ × ℤ)) → IsSomeAnd o (λ r. (pos 0 ≤ℤ r.0) × (r.1 ≤ℤ pos 31)) → IsSomeAnd o (λ r. Unit {0})
small_ordinal None h = h
small_ordinal (Some r) h = tt

set_rows : (new : Core) (n : ℕ) (t : CoreType) (s : Sets) → sets_of t ≡ s → Stand new n (t ∷ rows_of n s) → EachFrom (IsTypeRow new) (n + 1) (rows_of n s)
set_rows new n t None' e k = tt
set_rows new n t OfAll e k =
    let small = subst (λ t. IsSomeAnd (range_of t) (λ r. (pos 0 ≤ℤ r.0) × (r.1 ≤ℤ pos 31))) (sym k.0) (sets_small t e) in
    (((omega arith, small_ordinal (range_of (type_at new (id n))) small), small), tt)
set_rows new n t OfFirst e k =
    let v = sets_first t e in
    let i : Kind new (id n) (Enumeration v.0) = k.0 ∙ ap Some v.1 in
    let l = v.2 in
    let r : IsSomeAnd (range_of (type_at new (id n))) (λ r. Within r (pos 0) × Within r (pos 31)) = subst (λ t. IsSomeAnd (range_of t) (λ r. Within r (pos 0) × Within r (pos 31))) (sym i) ((omega (arith, ints), omega (arith, ints, l)), (omega (arith, ints), omega (arith, ints, l))) in
    let o : IsOrdinal new (id n) = subst (λ t. IsSomeAnd (range_of t) (λ r. Unit {0})) (sym i) tt in
    let q : IsOrdinal new (id (n + 1)) = subst (λ t. IsSomeAnd (range_of t) (λ r. Unit {0})) (sym k.1.0) tt in
    let m : IsSomeAnd (range_of (type_at new (id (n + 1)))) (λ r. (pos 0 ≤ℤ r.0) × (r.1 ≤ℤ pos 31)) = subst (λ t. IsSomeAnd (range_of t) (λ r. (pos 0 ≤ℤ r.0) × (r.1 ≤ℤ pos 31))) (sym k.1.0) (omega (arith, ints), omega (arith, ints)) in
    (((omega arith, o), r, omega (arith, ints), subst (λ t. IsTrue (is_whole t)) (sym i) refl), (((omega arith, q), m), tt))

pub entered_types : (core : Core) (t : CoreType) → Each core.types (IsTypeRow core) → IsTypeRow core (length core.types) t → Each (entered core t).types (IsTypeRow (entered core t))
entered_types core t f h =
    let g = entered_grows core t in
    each_entered core t (IsTypeRow (entered core t)) (λ n u e. fact_lasts g (type_row n u) (f n u e)) (fact_lasts g (type_row (length core.types) t) h, set_rows (entered core t) (length core.types) t (sets_of t) refl (entered_stand core t))

-- ---- sets behind types

set_of_all : (new : Core) (n values : ℕ) (b : Bool) → Stand new (n + 1) (rows_of n (if b then OfAll else OfFirst)) → type_at new (id (n + 1)) ≡ Some (if b then Set (id n) else Subrange (id n) (pos 0) (pos 31))
set_of_all new n values true k = k.0
set_of_all new n values false k = k.0

set_of_some : (new : Core) (n : ℕ) (b : Bool) → b ≡ true → Stand new (n + 1) (rows_of n (if b then OfAll else None')) → type_at new (id (n + 1)) ≡ Some (Set (id n))
set_of_some new n true e k = k.0
set_of_some new n false e k = absurd (cc)

own_set : (new : Core) (n : ℕ) (t : CoreType) → Stand new n (t ∷ rows_of n (sets_of t)) → HasSet new n t
own_set new n (Enumeration values) k = set_of_all new n values (nat_le values 32) k.1
own_set new n (Subrange base low high) k = λ l h. set_of_some new n (int_le (pos 0) low && int_le high (pos 31)) (grind (arith, ints)) k.1
own_set new n t k = tt

sets_behind : (new : Core) (n : ℕ) (s : Sets) → Stand new (n + 1) (rows_of n s) → EachFrom (HasSet new) (n + 1) (rows_of n s)
sets_behind new n None' k = tt
sets_behind new n OfAll k = (tt, tt)
sets_behind new n OfFirst k = (λ l h. k.1.0, (tt, tt))

pub entered_sets : (core : Core) (t : CoreType) → Each core.types (HasSet core) → Each (entered core t).types (HasSet (entered core t))
entered_sets core t f =
    let g = entered_grows core t in
    let k = entered_stand core t in
    each_entered core t (HasSet (entered core t)) (λ n u e. fact_lasts g (set_behind n u) (f n u e)) (own_set (entered core t) (length core.types) t k, sets_behind (entered core t) (length core.types) (sets_of t) k.1)

-- ---- sizes

abbrev IsSmall : Core → ℕ → CoreType → Type 0
IsSmall core n t = size_of core (id n) ≤ 1048576

word_size : {core : Core} → KeepsExtents core → (n : ℕ) (t : CoreType) → Kind core (id n) t → (extent_by (extent_of core) core (Some t)).size ≡ 4 → size_of core (id n) ≤ 1048576
word_size {core} k n t e w = let s : size_of core (id n) ≡ 4 = ap (λ x. (unwrap_or x (plain 4 false)).size) (k.each n t e) ∙ w in omega (arith, s)

set_sizes : {core : Core} → KeepsExtents core → (n : ℕ) (s : Sets) → Stand core (n + 1) (rows_of n s) → EachFrom (IsSmall core) (n + 1) (rows_of n s)
set_sizes k n None' e = tt
set_sizes k n OfAll e = (word_size k (n + 1) (Set (id n)) e.0 refl, tt)
set_sizes k n OfFirst e = (word_size k (n + 1) (Subrange (id n) (pos 0) (pos 31)) e.0 refl, (word_size k (n + 1 + 1) (Set (id (n + 1))) e.1.0 refl, tt))

same_size : {old new : Core} → Grows old new → KeepsExtents old → (n : ℕ) (t : CoreType) → Kind old (id n) t → size_of new (id n) ≡ size_of old (id n)
same_size {old} {new} g k n t e = ap (λ x. (unwrap_or x (plain 4 false)).size) (front_stays g.extents n _ (k.each n t e) ∙ sym (k.each n t e))

there_below : {A : Type 0} (P : A → Type 0) (xs : List A) (n : ℕ) → There xs n P → n < length xs
there_below P xs n h = of_some P (n < length xs) (slice_get xs n) (λ x e p. slice_get_within xs n x e) h

-- what the extent of a type is made of stands in front of it
pub is_behind : (core : Core) (n : ℕ) (t : CoreType) → IsTypeRow core n t → IsBehind core.fields core.interfaces n t
is_behind core n (Record run) h = h
is_behind core n (Array index element) h = (h.0.0, h.1)
is_behind core n (Interface i) h = there_below (λ x. x.of.0 ≡ n) core.interfaces i.0 h
is_behind core n t h = tt

pub entered_sizes : (core : Core) (t : CoreType) → KeepsExtents core → IsTypeRow core (length core.types) t → size_of (entered core t) (id (length core.types)) ≤ 1048576 → Each core.types (IsSmall core) → Each (entered core t).types (IsSmall (entered core t))
entered_sizes core t k h l f =
    let g = entered_grows core t in
    each_entered core t (IsSmall (entered core t)) (λ n u e. subst (λ m. m ≤ 1048576) (sym (same_size g k n u e)) (f n u e))
    (l, set_sizes (entered_keeps core t k (is_behind core (length core.types) t h)) (length core.types) (sets_of t) (entered_stand core t).1)

-- what is kept in a word is small
pub entered_word : (core : Core) (t : CoreType) → KeepsExtents core → IsBehind core.fields core.interfaces (length core.types) t → (extent_by (extent_of (entered core t)) (entered core t) (Some t)).size ≡ 4 → size_of (entered core t) (id (length core.types)) ≤ 1048576
entered_word core t k b w = word_size (entered_keeps core t k b) (length core.types) t (entered_stand core t).0 w
