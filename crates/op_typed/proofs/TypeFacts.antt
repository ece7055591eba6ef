-- What types are where every row is as it should be: the predefined ones, and what each has by its kind and its sort.
use Rattle.std.proofs.Common.{◌≡◌, ◌⊎◌, inl, inr, ℕ, zero, suc, ◌<◌, ◌+◌, ◌-◌, ◌^◌, nat_le, ℤ, pos, negsuc, ◌-ℤ◌, ◌≤ℤ◌, Bool, true, false, List, [], ◌∷◌, slice_get, take, Option, Some, None, refl, sym, ap, subst, ◌∙◌, arith}
use Rattle.std.proofs.lemmas.Bool.{eqb-true, leb-true, leb-false, or_cases}
use Rattle.std.proofs.lemmas.Int.{ints}
use Rattle.std.specs.Option.{IsSomeAnd, option_or}
use Rattle.std.specs.Str.{bytes_eq}
use Rattle.std.specs.Prelude.{if◌then◌else◌, unwrap_or}
use Rattle.op_base.proofs.Tests.{eqb-itself}
use Rattle.op_core.proofs.OneType.{by_number}
use Rattle.op_core.specs.Members.{Kind}
use Rattle.op_core.specs.Sizes.{capped, integer_range, range_of, type_at}
use Rattle.op_core.specs.Sound.{IsFounded}
use Rattle.op_core.specs.Types.{are_one, elements, id, is_one_type, is_same, predefined, true_of}
use Rattle.op_core.specs.Typing.{IsSet, OneType, Sees, Within, base_of}
use Rattle.op_core.specs.declared.ids.TypeId.{TypeId}
use Rattle.op_core.specs.declared.program.Core.{Core}
use Rattle.op_core.specs.declared.types.CoreType.{CoreType}
use Rattle.op_core.specs.declared.types.CoreType.TheVariants as type
use Rattle.op_core.specs.declared.types.IntegerKind.{IntegerKind}
use Rattle.op_core.specs.declared.types.IntegerKind.TheVariants.{Signed8, Unsigned8, Signed16, Unsigned16, Signed32}
use Rattle.op_typed.proofs.Sorting.{stands_as}
use Rattle.op_types.specs.Assignable.{assignable, fits}
use Rattle.op_types.specs.Names.{Named, meaning_of}
use Rattle.op_types.specs.Operators as table
use Rattle.op_types.specs.Sets.{behind, common_by, common_set, is_set_of, set_behind, set_over, widest_of, widest_set}
use Rattle.op_types.specs.Sorts.{by_kind, kind_by, kind_of, root_by, root_of, same_kind, sort_by, sort_of}
use Rattle.op_typed.specs.Standing.{AllStand, StandsFor}
use Rattle.op_types.specs.declared.sort.OrdinalKind.{OrdinalKind}
use Rattle.op_types.specs.declared.sort.OrdinalKind.TheVariants.{Integer, Boolean, Char, Enumeration}
use Rattle.op_types.specs.declared.sort.Sort.TheVariants.{Ordinal, Set, EmptySet}
use Rattle.op_types.specs.declared.visible.Meaning.{Meaning}

-- ---- predefined types

get_take : {A : Type 0} (xs : List A) (k n : ℕ) → n < k → slice_get (take k xs) n ≡ slice_get xs n
get_take xs zero n l = absurd (omega (arith, l))
get_take [] (suc k) n l = refl
get_take (x ∷ xs) (suc k) zero l = refl
get_take (x ∷ xs) (suc k) (suc n) l = get_take xs k n (omega (arith, l))

-- the rows that every program begins with
pub predefined_kind : {core : Core} → IsFounded core → (n : ℕ) → n < 16 → slice_get core.types n ≡ slice_get predefined n
predefined_kind {core} f n l = sym (get_take core.types 16 n l) ∙ ap (λ ts. slice_get ts n) f.predefined

pub integer_kind : {core : Core} → IsFounded core → Kind core table.integer (type.Integer Signed32)
integer_kind f = predefined_kind f 4 (omega arith)

pub boolean_kind : {core : Core} → IsFounded core → Kind core table.boolean type.Boolean
boolean_kind f = predefined_kind f 5 (omega arith)

pub char_kind : {core : Core} → IsFounded core → Kind core table.char type.Char
char_kind f = predefined_kind f 6 (omega arith)

pub string_kind : {core : Core} → IsFounded core → Kind core table.string type.String
string_kind f = predefined_kind f 7 (omega arith)

pub nil_kind : {core : Core} → IsFounded core → Kind core table.nil type.Nil
nil_kind f = predefined_kind f 8 (omega arith)

pub nothing_kind : {core : Core} → IsFounded core → Kind core (id 9) type.Nothing
nothing_kind f = predefined_kind f 9 (omega arith)

pub empty_set_kind : {core : Core} → IsFounded core → Kind core table.empty_set type.EmptySet
empty_set_kind f = predefined_kind f 10 (omega arith)

-- ---- kinds

-- by the root and its row
kind_at : (core : Core) (of root : TypeId) (t : Option CoreType) → root_of core of ≡ root → type_at core root ≡ t → kind_of core of ≡ kind_by root t
kind_at core of root t e f = ap (λ r. kind_by r (type_at core r)) e ∙ ap (kind_by root) f

-- of a row that is no subrange
pub own_kind : (core : Core) (of : TypeId) (t : Option CoreType) → type_at core of ≡ t → root_by of t ≡ of → kind_of core of ≡ kind_by of t
own_kind core of t e r = kind_at core of of t (ap (root_by of) e ∙ r) e

abbrev pub InKind : Core → OrdinalKind → ℤ → Type 0
InKind core Integer n = Within (negsuc 2147483647, pos 2147483647) n
InKind core Boolean n = Within (pos 0, pos 1) n
InKind core Char n = Within (pos 0, pos 255) n
InKind core (Enumeration of) n = IsSomeAnd (range_of (type_at core of)) (λ r. Within r n)

-- an ordinal type's range, within the numbers of its kind
pub record Ranges (core : Core) (of : TypeId) (k : OrdinalKind) : Type 0 where
  pub range : ℤ × ℤ
  pub is : range_of (type_at core of) ≡ Some range
  pub order : range.0 ≤ℤ range.1
  pub low : InKind core k range.0
  pub high : InKind core k range.1

pub record OfInteger (r : ℤ × ℤ) : Type 0 where
  pub order : r.0 ≤ℤ r.1
  pub low : negsuc 2147483647 ≤ℤ r.0
  pub high : r.1 ≤ℤ pos 2147483647

pub of_integer : (kind : IntegerKind) → OfInteger (integer_range kind)
of_integer Signed8 = record { order = omega (arith, ints); low = omega (arith, ints); high = omega (arith, ints) }
of_integer Unsigned8 = record { order = omega (arith, ints); low = omega (arith, ints); high = omega (arith, ints) }
of_integer Signed16 = record { order = omega (arith, ints); low = omega (arith, ints); high = omega (arith, ints) }
of_integer Unsigned16 = record { order = omega (arith, ints); low = omega (arith, ints); high = omega (arith, ints) }
of_integer Signed32 = record { order = omega (arith, ints); low = omega (arith, ints); high = omega (arith, ints) }

integer_ranges : (core : Core) (of : TypeId) (k : OrdinalKind) (kind : IntegerKind) → range_of (type_at core of) ≡ Some (integer_range kind) → Integer ≡ k → Ranges core of k
integer_ranges core of k kind e h =
    let r = of_integer kind in
    let o = r.order in
    let l = r.low in
    let u = r.high in
    subst (Ranges core of) h (record { range = integer_range kind; is = e; order = o; low = (l, omega (arith, ints, o, l, u)); high = (omega (arith, ints, o, l, u), u) })

both_of : {A : Type 0} (P Q : A → Type 0) (o : Option A) → IsSomeAnd o (λ a. P a × Q a) → IsSomeAnd o P × IsSomeAnd o Q
both_of P Q (Some a) h = h
both_of P Q None h = absurd h

-- a subrange has the kind of its base, and keeps within that
subrange_ranges : (core : Core) (of : TypeId) (k : OrdinalKind) (base : TypeId) (low high : ℤ) → range_of (type_at core of) ≡ Some (low, high) → (t : Option CoreType) → type_at core base ≡ t → kind_by base t ≡ Some k → IsSomeAnd (range_of t) (λ r. Within r low × Within r high) → low ≤ℤ high → Ranges core of k
subrange_ranges core of k base low high e (Some (type.Integer kind)) g h w o =
    let r = of_integer kind in
    let l = r.low in
    let u = r.high in
    let a = w.0.0 in
    let b = w.0.1 in
    let c = w.1.0 in
    let d = w.1.1 in
    let s : Integer ≡ k = cc in
    subst (Ranges core of) s (record { range = (low, high); is = e; order = o; low = (omega (arith, ints, l, a), omega (arith, ints, u, b)); high = (omega (arith, ints, l, c), omega (arith, ints, u, d)) })
subrange_ranges core of k base low high e (Some type.Boolean) g h w o = let s : Boolean ≡ k = cc in subst (Ranges core of) s (record { range = (low, high); is = e; order = o; low = w.0; high = w.1 })
subrange_ranges core of k base low high e (Some type.Char) g h w o = let s : Char ≡ k = cc in subst (Ranges core of) s (record { range = (low, high); is = e; order = o; low = w.0; high = w.1 })
subrange_ranges core of k base low high e (Some (type.Enumeration count)) g h w o =
    let s : Enumeration base ≡ k = cc in
    let v : IsSomeAnd (range_of (type_at core base)) (λ r. Within r low × Within r high) = rw g w in
    let q = both_of (λ r. Within r low) (λ r. Within r high) (range_of (type_at core base)) v in
    subst (Ranges core of) s (record { range = (low, high); is = e; order = o; low = q.0; high = q.1 })
subrange_ranges core of k base low high e t g h w o = absurd (cc)

pub ranges : {core : Core} {of : TypeId} {k : OrdinalKind} → IsFounded core → kind_of core of ≡ Some k → Ranges core of k
ranges {core} {of} {k} f h = go (type_at core of) refl
  where
    go : (t : Option CoreType) → type_at core of ≡ t → Ranges core of k
    go (Some (type.Integer kind)) e = integer_ranges core of k kind (ap range_of e) (let g = own_kind core of (Some (type.Integer kind)) e refl in cc)
    go (Some type.Boolean) e =
        let g = own_kind core of (Some type.Boolean) e refl in
        let s : Boolean ≡ k = cc in
        subst (Ranges core of) s (record { range = (pos 0, pos 1); is = ap range_of e; order = omega (arith, ints); low = (omega (arith, ints), omega (arith, ints)); high = (omega (arith, ints), omega (arith, ints)) })
    go (Some type.Char) e =
        let g = own_kind core of (Some type.Char) e refl in
        let s : Char ≡ k = cc in
        subst (Ranges core of) s (record { range = (pos 0, pos 255); is = ap range_of e; order = omega (arith, ints); low = (omega (arith, ints), omega (arith, ints)); high = (omega (arith, ints), omega (arith, ints)) })
    go (Some (type.Enumeration count)) e =
        let g = own_kind core of (Some (type.Enumeration count)) e refl in
        let s : Enumeration of ≡ k = cc in
        let c = (f.types of.0 (type.Enumeration count) e).0 in
        let o : pos 0 ≤ℤ (pos count -ℤ pos 1) = omega (arith, ints, c) in
        let z : pos 0 ≤ℤ pos 0 = omega (arith, ints) in
        let n : (pos count -ℤ pos 1) ≤ℤ (pos count -ℤ pos 1) = omega (arith, ints) in
        subst (Ranges core of) s (record { range = (pos 0, pos count -ℤ pos 1); is = ap range_of e; order = o; low = rw e (z, o); high = rw e (o, n) })
    go (Some (type.Subrange base low high)) e =
        let r = f.types of.0 (type.Subrange base low high) e in
        subrange_ranges core of k base low high (ap range_of e) (type_at core base) refl (sym (kind_at core of base (type_at core base) (ap (root_by of) e) refl) ∙ h) r.1 r.2
    go None e = let g = own_kind core of None e refl in absurd (cc)
    go (Some t) e = let g = own_kind core of (Some t) e refl in absurd (cc)

between : {r : ℤ × ℤ} {a b n : ℤ} → Within r a → Within r b → a ≤ℤ n → n ≤ℤ b → Within r n
between h g l u =
    let x = h.0 in
    let y = g.1 in
    (omega (arith, ints, x, l), omega (arith, ints, y, u))

pub between_some : (o : Option (ℤ × ℤ)) {a b n : ℤ} → IsSomeAnd o (λ r. Within r a) → IsSomeAnd o (λ r. Within r b) → a ≤ℤ n → n ≤ℤ b → IsSomeAnd o (λ r. Within r n)
between_some (Some r) h g l u = between {r = r} h g l u
between_some None h g l u = absurd h

-- a value of an ordinal type is one of its kind
pub in_kind : {core : Core} (of : TypeId) (n : ℤ) (k : OrdinalKind) → IsFounded core → kind_of core of ≡ Some k → IsSomeAnd (range_of (type_at core of)) (λ r. Within r n) → InKind core k n
in_kind {core} of n k f h v = let r = ranges {core = core} {of = of} {k = k} f h in let w : Within r.range n = rw r.is at v in go k r.low r.high w
  where
    go : (k : OrdinalKind) {low high : ℤ} → InKind core k low → InKind core k high → Within (low, high) n → InKind core k n
    go Integer a b w = between a b w.0 w.1
    go Boolean a b w = between a b w.0 w.1
    go Char a b w = between a b w.0 w.1
    go (Enumeration e) a b w = between_some (range_of (type_at core e)) a b w.0 w.1

pub same_kinds : (a b : OrdinalKind) → same_kind a b ≡ true → a ≡ b
same_kinds Integer Integer h = refl
same_kinds Boolean Boolean h = refl
same_kinds Char Char h = refl
same_kinds (Enumeration a) (Enumeration b) h = let e = eqb-true a.0 b.0 h in (λ i. Enumeration (record { 0 = e i }))
same_kinds a b h = absurd (cc)

-- ---- names

pub stands_for : (core : Core) (sees : Sees) (names : List Named) → AllStand core sees names → (key : List ℕ) (m : Meaning) → meaning_of names key ≡ Some m → StandsFor core sees m
stands_for core sees [] all key m h = absurd (cc)
stands_for core sees (n ∷ ns) all key m h = go (stands_for core sees ns (λ k d l. all (suc k) d (omega (arith, l))) key m) (meaning_of ns key) refl (bytes_eq n.name key) h
  where
    go : (meaning_of ns key ≡ Some m → StandsFor core sees m) → (o : Option Meaning) → meaning_of ns key ≡ o → (b : Bool) → option_or o (if b then Some n.meaning else None) ≡ Some m → StandsFor core sees m
    go others (Some a) e b g = others (e ∙ g)
    go others None e true g = let s : n.meaning ≡ m = cc in subst (StandsFor core sees) s (all 0 n (omega arith))
    go others None e false g = absurd (cc)

-- ---- roots

-- the kind of an enumeration is by the row of that
abbrev pub Rooted : Core → OrdinalKind → Type 0
Rooted core (Enumeration of) = (count : ℕ) × Kind core of (type.Enumeration count)
Rooted core k = Unit {0}

pub rooted : (core : Core) (of : TypeId) (k : OrdinalKind) → kind_of core of ≡ Some k → Rooted core k
rooted core of k h = go (root_of core of) (type_at core (root_of core of)) refl h
  where
    go : (root : TypeId) (t : Option CoreType) → type_at core root ≡ t → kind_by root t ≡ Some k → Rooted core k
    go root (Some (type.Integer kind)) e g = let s : Integer ≡ k = cc in subst (Rooted core) s tt
    go root (Some type.Boolean) e g = let s : Boolean ≡ k = cc in subst (Rooted core) s tt
    go root (Some type.Char) e g = let s : Char ≡ k = cc in subst (Rooted core) s tt
    go root (Some (type.Enumeration count)) e g = let s : Enumeration root ≡ k = cc in subst (Rooted core) s (count, e)
    go root t e g = absurd (cc)

-- ---- sets

-- the base of the set type has the number
abbrev pub Takes : Core → TypeId → ℤ → Type 0
Takes core set n = IsSomeAnd (base_of (type_at core set)) (λ base. IsSomeAnd (range_of (type_at core base)) (λ r. Within r n))

takes : (core : Core) (set base : TypeId) (n : ℤ) → Kind core set (type.Set base) → IsSomeAnd (range_of (type_at core base)) (λ r. Within r n) → Takes core set n
takes core set base n k h = rw k h

pub is_set : (core : Core) (set base : TypeId) → Kind core set (type.Set base) → IsSet core set
is_set core set base k = rw k tt

-- from 0 to 31
abbrev pub IsSmall : ℤ → Type 0
IsSmall n = (pos 0 ≤ℤ n) × (n ≤ℤ pos 31)

pub set_behind_is : (core : Core) (base set : TypeId) → set_behind core base ≡ Some set → (behind base 1 ≡ set) × Kind core set (type.Set base)
set_behind_is core base set h = go (type_at core (behind base 1)) refl h
  where
    own : (b : TypeId) (s : Bool) → is_same b base ≡ s → type_at core (behind base 1) ≡ Some (type.Set b) → (if s then Some (behind base 1) else None) ≡ Some set → (behind base 1 ≡ set) × Kind core set (type.Set base)
    own b true e k g =
        let at : behind base 1 ≡ set = cc in
        (at, subst (λ x. type_at core x ≡ Some (type.Set base)) at (k ∙ ap (λ x. Some (type.Set x)) (by_number b base e)))
    own b false e k g = absurd (cc)

    go : (t : Option CoreType) → type_at core (behind base 1) ≡ t → (if is_set_of base t then Some (behind base 1) else None) ≡ Some set → (behind base 1 ≡ set) × Kind core set (type.Set base)
    go (Some (type.Set b)) e g = own b (is_same b base) refl e g
    go t e g = absurd (cc)

-- where it stands right behind
set_behind_by : (core : Core) (base : TypeId) → Kind core (behind base 1) (type.Set base) → set_behind core base ≡ Some (behind base 1)
set_behind_by core base k = rw (k, eqb-itself base.0) refl

small_integers : {core : Core} (n : ℤ) → IsFounded core → IsSmall n → Takes core (id 12) n
small_integers {core} n f w = takes core (id 12) (id 11) n (predefined_kind f 12 (omega arith)) (let k : type_at core (id 11) ≡ Some (type.Subrange (id 4) (pos 0) (pos 31)) = predefined_kind f 11 (omega arith) in rw k w)

-- Behind an enumeration without a set type of its own stands the subrange of its first values, if anything has its set type.
enumeration_behind : {core : Core} (of set : TypeId) (count : ℕ) → IsFounded core → Kind core of (type.Enumeration count) → set_behind core of ≡ None → set_behind core (behind of 1) ≡ Some set → Kind core (behind of 1) (type.Subrange of (pos 0) (pos 31))
enumeration_behind {core} of set count f k lacks has = go (nat_le (of.0 + 1) (2 ^ 32 - 1)) refl
  where
    row : type_at core (id (of.0 + 1)) ≡ Some (if nat_le count 32 then type.Set of else type.Subrange of (pos 0) (pos 31))
    row = f.sets of.0 (type.Enumeration count) k

    near : of.0 + 1 ≡ capped (of.0 + 1) → (b : Bool) → type_at core (id (of.0 + 1)) ≡ Some (if b then type.Set of else type.Subrange of (pos 0) (pos 31)) → Kind core (behind of 1) (type.Subrange of (pos 0) (pos 31))
    near e false r = ap (λ n. type_at core (id n)) (sym e) ∙ r
    near e true r = let g = set_behind_by core of (ap (λ n. type_at core (id n)) (sym e) ∙ r) in absurd (cc)

    far : 2 ^ 32 - 1 < of.0 + 1 → ⊥
    far l =
        let s = set_behind_is core (behind of 1) set has in
        let at : capped (capped (of.0 + 1) + 1) ≡ set.0 = ap (λ x. x.0) s.0 in
        let low = (f.types set.0 (type.Set (behind of 1)) s.1).0.0 in
        omega (arith, at, low, l)

    go : (b : Bool) → nat_le (of.0 + 1) (2 ^ 32 - 1) ≡ b → Kind core (behind of 1) (type.Subrange of (pos 0) (pos 31))
    go true e = near (let l = leb-true (of.0 + 1) (2 ^ 32 - 1) e in omega (arith, l)) (nat_le count 32) row
    go false e = absurd (far (let l = leb-false (of.0 + 1) (2 ^ 32 - 1) e in omega (arith, l)))

-- a number from 0 to 31 of a kind is one of the base of its widest set
pub widest_takes : {core : Core} (n : ℤ) (k : OrdinalKind) → IsFounded core → Rooted core k → InKind core k n → IsSmall n → Takes core (widest_set core k) n
widest_takes n Integer f r h w = small_integers n f w
widest_takes {core} n Char f r h w = takes core (id 14) (id 13) n (predefined_kind f 14 (omega arith)) (let k : type_at core (id 13) ≡ Some (type.Subrange (id 6) (pos 0) (pos 31)) = predefined_kind f 13 (omega arith) in rw k w)
widest_takes {core} n Boolean f r h w = takes core (id 15) (id 5) n (predefined_kind f 15 (omega arith)) (let k = boolean_kind f in rw k h)
widest_takes {core} n (Enumeration of) f r h w = go (set_behind core of) refl (set_behind core (behind of 1)) refl
  where
    go : (o : Option TypeId) → set_behind core of ≡ o → (q : Option TypeId) → set_behind core (behind of 1) ≡ q → Takes core (unwrap_or o (unwrap_or q (id 12))) n
    go (Some s) e q g = takes core s of n (set_behind_is core of s e).1 h
    go None e (Some s) g = takes core s (behind of 1) n (set_behind_is core (behind of 1) s g).1 (let k = enumeration_behind of s r.0 f r.1 e g in rw k w)
    go None e None g = small_integers n f w

-- a value from 0 to 31 of an ordinal type is one of the base of its set type
pub over_takes : {core : Core} (of : TypeId) (n : ℤ) (k : OrdinalKind) → IsFounded core → kind_of core of ≡ Some k → IsSomeAnd (range_of (type_at core of)) (λ r. Within r n) → IsSmall n → Takes core (set_over core of) n
over_takes {core} of n k f e h w = go (set_behind core of) refl (kind_of core of) e
  where
    go : (o : Option TypeId) → set_behind core of ≡ o → (m : Option OrdinalKind) → m ≡ Some k → Takes core (unwrap_or o (widest_of core m)) n
    go (Some s) g m q = takes core s of n (set_behind_is core of s g).1 h
    go None g m q = subst (λ m. Takes core (widest_of core m) n) (sym q) (widest_takes n k f (rooted core of k e) (in_kind of n k f e h) w)

set_sort : (core : Core) (set base : TypeId) (k : OrdinalKind) → Kind core set (type.Set base) → kind_of core base ≡ Some k → sort_of core set ≡ Set k
set_sort core set base k e h = ap (sort_by core set) e ∙ ap (by_kind Set) h

-- the widest set is of its kind, or stands in for one
pub widest_sort : {core : Core} (k : OrdinalKind) → IsFounded core → Rooted core k → (sort_of core (widest_set core k) ≡ Set k) ⊎ (widest_set core k ≡ id 12)
widest_sort Integer f r = inr refl
widest_sort {core} Char f r = let e = predefined_kind f 13 (omega arith) in inl (set_sort core (id 14) (id 13) Char (predefined_kind f 14 (omega arith)) (kind_at core (id 13) (id 6) (Some type.Char) (ap (root_by (id 13)) e) (char_kind f)))
widest_sort {core} Boolean f r = inl (set_sort core (id 15) (id 5) Boolean (predefined_kind f 15 (omega arith)) (own_kind core (id 5) (Some type.Boolean) (boolean_kind f) refl))
widest_sort {core} (Enumeration of) f r = go (set_behind core of) refl (set_behind core (behind of 1)) refl
  where
    own : kind_of core of ≡ Some (Enumeration of)
    own = own_kind core of (Some (type.Enumeration r.0)) r.1 refl

    go : (o : Option TypeId) → set_behind core of ≡ o → (q : Option TypeId) → set_behind core (behind of 1) ≡ q → (sort_of core (unwrap_or o (unwrap_or q (id 12))) ≡ Set (Enumeration of)) ⊎ (unwrap_or o (unwrap_or q (id 12)) ≡ id 12)
    go (Some s) e q g = inl (set_sort core s of (Enumeration of) (set_behind_is core of s e).1 own)
    go None e (Some s) g =
        let k = enumeration_behind of s r.0 f r.1 e g in
        inl (set_sort core s (behind of 1) (Enumeration of) (set_behind_is core (behind of 1) s g).1 (kind_at core (behind of 1) of (Some (type.Enumeration r.0)) (ap (root_by (behind of 1)) k) r.1))
    go None e None g = inr refl

pub over_sort : {core : Core} (of : TypeId) (k : OrdinalKind) → IsFounded core → kind_of core of ≡ Some k → (sort_of core (set_over core of) ≡ Set k) ⊎ (set_over core of ≡ id 12)
over_sort {core} of k f e = go (set_behind core of) refl (kind_of core of) e
  where
    go : (o : Option TypeId) → set_behind core of ≡ o → (m : Option OrdinalKind) → m ≡ Some k → (sort_of core (unwrap_or o (widest_of core m)) ≡ Set k) ⊎ (unwrap_or o (widest_of core m) ≡ id 12)
    go (Some s) g m q = inl (set_sort core s of k (set_behind_is core of s g).1 e)
    go None g m q = subst (λ m. (sort_of core (widest_of core m) ≡ Set k) ⊎ (widest_of core m ≡ id 12)) (sym q) (widest_sort k f (rooted core of k e))

integers_sort : {core : Core} → IsFounded core → sort_of core (id 12) ≡ Set Integer
integers_sort {core} f = let e = predefined_kind f 11 (omega arith) in set_sort core (id 12) (id 11) Integer (predefined_kind f 12 (omega arith)) (kind_at core (id 11) (id 4) (Some (type.Integer Signed32)) (ap (root_by (id 11)) e) (integer_kind f))

pub sort_is_set : (core : Core) (of : TypeId) (k : OrdinalKind) → sort_of core of ≡ Set k → IsSet core of
sort_is_set core of k e = let s = stands_as core of (Set k) e in is_set core of s.0 s.1

either_is_set : {core : Core} (of : TypeId) (k : OrdinalKind) → IsFounded core → (sort_of core of ≡ Set k) ⊎ (of ≡ id 12) → IsSet core of
either_is_set {core} of k f (inl e) = sort_is_set core of k e
either_is_set {core} of k f (inr e) = subst (IsSet core) (sym e) (sort_is_set core (id 12) Integer (integers_sort f))

pub over_is_set : {core : Core} (of : TypeId) (k : OrdinalKind) → IsFounded core → kind_of core of ≡ Some k → IsSet core (set_over core of)
over_is_set {core} of k f e = either_is_set (set_over core of) k f (over_sort of k f e)

small_some : (o : Option (ℤ × ℤ)) (n : ℤ) → IsSomeAnd o (λ r. Within r n) → IsSomeAnd o (λ r. (pos 0 ≤ℤ r.0) × (r.1 ≤ℤ pos 31)) → IsSmall n
small_some (Some r) n h w =
    let a = h.0 in
    let b = h.1 in
    let c = w.0 in
    let d = w.1 in
    (omega (arith, ints, a, c), omega (arith, ints, b, d))
small_some None n h w = absurd h

-- what a set type takes is of its kind, and small
pub takes_kind : {core : Core} (set : TypeId) (n : ℤ) (k : OrdinalKind) → IsFounded core → sort_of core set ≡ Set k → Takes core set n → InKind core k n × IsSmall n
takes_kind {core} set n k f e h =
    let s = stands_as core set (Set k) e in
    let v : IsSomeAnd (range_of (type_at core s.0)) (λ r. Within r n) = rw s.1 at h in
    (in_kind s.0 n k f s.2 v, small_some (range_of (type_at core s.0)) n v (f.types set.0 (type.Set s.0) s.1).1)

-- ---- the set type of two

common_at : (core : Core) (a b : TypeId) (k j : OrdinalKind) (P : TypeId → Type 0) → sort_of core a ≡ Set k → sort_of core b ≡ Set j → (a ≡ b → P a) → P (widest_set core k) → P (common_set core a b)
common_at core a b k j P e g h w = subst (λ s. P (common_by core a b s (sort_of core b))) (sym e) (subst (λ t. P (common_by core a b (Set k) t)) (sym g) (go (is_same a b) refl))
  where
    go : (s : Bool) → is_same a b ≡ s → P (if s then a else widest_set core k)
    go true q = h (by_number a b q)
    go false q = w

pub common_takes : {core : Core} (a b : TypeId) (n : ℤ) (k j : OrdinalKind) → IsFounded core → sort_of core a ≡ Set k → sort_of core b ≡ Set j → Rooted core k → InKind core k n → IsSmall n → Takes core a n ⊎ Takes core b n → Takes core (common_set core a b) n
common_takes {core} a b n k j f e g r i w h = common_at core a b k j (λ x. Takes core x n) e g (λ s. same s h) (widest_takes n k f r i w)
  where
    same : a ≡ b → Takes core a n ⊎ Takes core b n → Takes core a n
    same s (inl h) = h
    same s (inr h) = subst (λ x. Takes core x n) (sym s) h

-- what sets of one kind take
pub common_members : {core : Core} (a b : TypeId) (n : ℤ) (k : OrdinalKind) → IsFounded core → sort_of core a ≡ Set k → sort_of core b ≡ Set k → Takes core a n ⊎ Takes core b n → Takes core (common_set core a b) n
common_members {core} a b n k f e g h = let s = stands_as core a (Set k) e in let t = kind h in common_takes a b n k k f e g (rooted core s.0 k s.2) t.0 t.1 h
  where
    kind : Takes core a n ⊎ Takes core b n → InKind core k n × IsSmall n
    kind (inl h) = takes_kind a n k f e h
    kind (inr h) = takes_kind b n k f g h

pub common_is_set : {core : Core} (a b : TypeId) (k j : OrdinalKind) → IsFounded core → sort_of core a ≡ Set k → sort_of core b ≡ Set j → IsSet core (common_set core a b)
common_is_set {core} a b k j f e g =
    let s = stands_as core a (Set k) e in
    common_at core a b k j (IsSet core) e g (λ q. sort_is_set core a k e) (either_is_set (widest_set core k) k f (widest_sort k f (rooted core s.0 k s.2)))

-- a kind that the set type of a kind has
record Covers (core : Core) (set : TypeId) (k : OrdinalKind) : Type 0 where
  kind : OrdinalKind
  is : sort_of core set ≡ Set kind
  root : Rooted core kind
  covers : (n : ℤ) → InKind core k n → IsSmall n → InKind core kind n

over_covers : {core : Core} (of : TypeId) (k : OrdinalKind) → IsFounded core → kind_of core of ≡ Some k → Covers core (set_over core of) k
over_covers {core} of k f e = go (over_sort of k f e)
  where
    go : (sort_of core (set_over core of) ≡ Set k) ⊎ (set_over core of ≡ id 12) → Covers core (set_over core of) k
    go (inl s) = record { kind = k; is = s; root = rooted core of k e; covers = λ n i w. i }
    go (inr s) = record { kind = Integer; is = ap (sort_of core) s ∙ integers_sort f; root = tt; covers = λ n i w. let a = w.0 in let b = w.1 in (omega (arith, ints, a), omega (arith, ints, b)) }

pub over_common : {core : Core} (a b : TypeId) (n : ℤ) (k : OrdinalKind) → IsFounded core → kind_of core a ≡ Some k → kind_of core b ≡ Some k → IsSmall n → IsSomeAnd (range_of (type_at core a)) (λ r. Within r n) ⊎ IsSomeAnd (range_of (type_at core b)) (λ r. Within r n) → Takes core (common_set core (set_over core a) (set_over core b)) n
over_common {core} a b n k f e g w h = let c = over_covers a k f e in let d = over_covers b k f g in common_takes (set_over core a) (set_over core b) n c.kind d.kind f c.is d.is c.root (c.covers n (kind h) w) w (taken h)
  where
    kind : IsSomeAnd (range_of (type_at core a)) (λ r. Within r n) ⊎ IsSomeAnd (range_of (type_at core b)) (λ r. Within r n) → InKind core k n
    kind (inl v) = in_kind a n k f e v
    kind (inr v) = in_kind b n k f g v

    taken : IsSomeAnd (range_of (type_at core a)) (λ r. Within r n) ⊎ IsSomeAnd (range_of (type_at core b)) (λ r. Within r n) → Takes core (set_over core a) n ⊎ Takes core (set_over core b) n
    taken (inl v) = inl (over_takes a n k f e v w)
    taken (inr v) = inr (over_takes b n k f g v w)

pub over_common_set : {core : Core} (a b : TypeId) (k : OrdinalKind) → IsFounded core → kind_of core a ≡ Some k → kind_of core b ≡ Some k → IsSet core (common_set core (set_over core a) (set_over core b))
over_common_set {core} a b k f e g = let c = over_covers a k f e in let d = over_covers b k f g in common_is_set (set_over core a) (set_over core b) c.kind d.kind f c.is d.is

-- with a set of no type of its own
pub common_left : (core : Core) (a b : TypeId) → sort_of core a ≡ EmptySet → common_set core a b ≡ b
common_left core a b e = ap (λ s. common_by core a b s (sort_of core b)) e

pub common_right : (core : Core) (a b : TypeId) (k : OrdinalKind) → sort_of core a ≡ Set k → sort_of core b ≡ EmptySet → common_set core a b ≡ a
common_right core a b k e g = (λ i. common_by core a b (e i) (g i))

-- ---- one type

-- two types are one by their numbers, or by their elements
pub one_or_elements : (core : Core) (a b : TypeId) → OneType core a b → (a ≡ b) ⊎ IsSomeAnd (elements (type_at core a) (type_at core b)) (λ p. Unit {0})
one_or_elements core a b h = go core.types core.types h
  where
    some : (test : TypeId → TypeId → Bool) (o : Option (TypeId × TypeId)) → true_of test o ≡ true → IsSomeAnd o (λ p. Unit {0})
    some test (Some p) h = tt
    some test None h = absurd (cc)

    by_cases : (steps types : List CoreType) → (is_same a b ≡ true) ⊎ (true_of (are_one steps types) (elements (slice_get types a.0) (slice_get types b.0)) ≡ true) → (a ≡ b) ⊎ IsSomeAnd (elements (slice_get types a.0) (slice_get types b.0)) (λ p. Unit {0})
    by_cases steps types (inl g) = inl (by_number a b g)
    by_cases steps types (inr g) = inr (some (are_one steps types) (elements (slice_get types a.0) (slice_get types b.0)) g)

    go : (steps types : List CoreType) → are_one steps types a b ≡ true → (a ≡ b) ⊎ IsSomeAnd (elements (slice_get types a.0) (slice_get types b.0)) (λ p. Unit {0})
    go [] types g = inl (by_number a b g)
    go (step ∷ steps) types g = by_cases steps types (or_cases (is_same a b) (true_of (are_one steps types) (elements (slice_get types a.0) (slice_get types b.0))) g)

-- an ordinal type is one with itself alone
pub one_ordinal : {core : Core} (a b : TypeId) (k : OrdinalKind) → IsFounded core → kind_of core a ≡ Some k → OneType core a b → a ≡ b
one_ordinal {core} a b k f e h = go (one_or_elements core a b h) (let r = ranges {core = core} {of = a} {k = k} f e in r.is)
  where
    none : (t u : Option CoreType) (r : ℤ × ℤ) → range_of t ≡ Some r → IsSomeAnd (elements t u) (λ p. Unit {0}) → ⊥
    none (Some (type.DynamicArray x)) u r e h = absurd (cc)
    none (Some (type.OpenArray x)) u r e h = absurd (cc)
    none t u r e h = h

    go : {r : ℤ × ℤ} → (a ≡ b) ⊎ IsSomeAnd (elements (type_at core a) (type_at core b)) (λ p. Unit {0}) → range_of (type_at core a) ≡ Some r → a ≡ b
    go (inl s) q = s
    go {r} (inr s) q = absurd (none (type_at core a) (type_at core b) r q s)

-- what is assignable to an ordinal type is of its kind
pub assigned_kind : {core : Core} (from to : TypeId) (k j : OrdinalKind) → IsFounded core → kind_of core from ≡ Some k → kind_of core to ≡ Some j → sort_of core from ≡ Ordinal k → sort_of core to ≡ Ordinal j → assignable core from to ≡ true → k ≡ j
assigned_kind {core} from to k j f e g s t h = go (or_cases (is_one_type core.types from to) (fits core (sort_of core from) (sort_of core to)) h)
  where
    go : (is_one_type core.types from to ≡ true) ⊎ (fits core (sort_of core from) (sort_of core to) ≡ true) → k ≡ j
    go (inl o) = let q = ap (kind_of core) (one_ordinal from to k f e o) in cc
    go (inr o) = same_kinds k j (sym (λ i. fits core (s i) (t i)) ∙ o)
