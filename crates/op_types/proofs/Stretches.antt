-- Lists of names in stretches, one behind the other.
use Rattle.std.proofs.Common.{◌≡◌, ℕ, zero, suc, ◌+◌, ◌-◌, ◌<◌, ◌≤◌, Bool, true, false, List, [], ◌∷◌, ◌++◌, length, take, drop, get_or, set, reverse, is_some, Option, None, Some, if◌then◌else◌, refl, sym, ap, ap₂, ◌∙◌, arith, append_assoc, length-append}
use Rattle.std.proofs.lemmas.List.{at_drop_more, drop_all, reverse-append, take-append-le, take_all}
use Rattle.std.proofs.Math.Seq.{take-length}
use Rattle.std.specs.Option.{option_or}
use Rattle.std.specs.Str.{bytes_eq}
use Rattle.op_types.specs.Names.{Named, all_of, meaning_of}
use Rattle.op_types.specs.declared.visible.Meaning.{Meaning}

-- ---- two lists

pub take_both : {A : Type 0} (n : ℕ) (xs ys : List A) → take n (xs ++ ys) ≡ take n xs ++ take (n - length xs) ys
take_both zero xs ys = let e : 0 - length xs ≡ 0 = omega arith in sym (ap (λ k. take k ys) e)
take_both (suc n) [] ys = let e : suc n ≡ suc n - 0 = omega arith in ap (λ k. take k ys) e
take_both (suc n) (x ∷ xs) ys =
    let e : n - length xs ≡ suc n - suc (length xs) = omega arith in
    ap (λ t. x ∷ t) (take_both n xs ys) ∙ ap (λ k. (x ∷ take n xs) ++ take k ys) e

pub drop_both : {A : Type 0} (n : ℕ) (xs ys : List A) → drop n (xs ++ ys) ≡ drop n xs ++ drop (n - length xs) ys
drop_both zero xs ys = let e : 0 - length xs ≡ 0 = omega arith in sym (ap (λ k. xs ++ drop k ys) e)
drop_both (suc n) [] ys = let e : suc n ≡ suc n - 0 = omega arith in ap (λ k. drop k ys) e
drop_both (suc n) (x ∷ xs) ys =
    let e : n - length xs ≡ suc n - suc (length xs) = omega arith in
    drop_both n xs ys ∙ ap (λ k. drop n xs ++ drop k ys) e

-- ---- what names stand for

or_none : (a : Option Meaning) → a ≡ option_or a None
or_none None = refl
or_none (Some x) = refl

or_assoc : (a b c : Option Meaning) → option_or (option_or a b) c ≡ option_or a (option_or b c)
or_assoc None b c = refl
or_assoc (Some x) b c = refl

pub meaning_both : (xs ys : List Named) (name : List ℕ) → meaning_of (xs ++ ys) name ≡ option_or (meaning_of ys name) (meaning_of xs name)
meaning_both [] ys name = or_none (meaning_of ys name)
meaning_both (x ∷ xs) ys name =
    let own : Option Meaning = if bytes_eq x.name name then Some x.meaning else None in
    ap (λ m. option_or m own) (meaning_both xs ys name) ∙ or_assoc (meaning_of ys name) (meaning_of xs name) own

-- where the second list has the name, it tells
pub behind_tells : (xs ys : List Named) (name : List ℕ) (m : Meaning) → meaning_of ys name ≡ Some m → meaning_of (xs ++ ys) name ≡ Some m
behind_tells xs ys name m h = meaning_both xs ys name ∙ ap (λ o. option_or o (meaning_of xs name)) h

-- where it has not, the first one does
pub front_tells : (xs ys : List Named) (name : List ℕ) → meaning_of ys name ≡ None → meaning_of (xs ++ ys) name ≡ meaning_of xs name
front_tells xs ys name h = meaning_both xs ys name ∙ ap (λ o. option_or o (meaning_of xs name)) h

-- ---- stretches

pub all_append : (xs ys : List (List Named)) → all_of (xs ++ ys) ≡ all_of xs ++ all_of ys
all_append [] ys = refl
all_append (x ∷ xs) ys = ap (λ t. x ++ t) (all_append xs ys) ∙ sym (append_assoc x (all_of xs) (all_of ys))

append_nil : {A : Type 0} (xs : List A) → xs ++ [] ≡ xs
append_nil [] = refl
append_nil (x ∷ xs) = ap (λ t. x ∷ t) (append_nil xs)

pub one_more : (xs : List (List Named)) (ns : List Named) → all_of (xs ++ ns ∷ []) ≡ all_of xs ++ ns
one_more xs ns = all_append xs (ns ∷ []) ∙ ap (λ t. all_of xs ++ t) (append_nil ns)

-- ---- the last stretch

pub last_set : (xs : List (List Named)) (at : ℕ) (v : List Named) → at + 1 ≡ length xs → all_of (set xs at v) ≡ all_of (take at xs) ++ v
last_set [] at v e = absurd (omega (arith, e))
last_set (x ∷ []) zero v e = append_nil v
last_set (x ∷ y ∷ ys) zero v e = absurd (omega (arith, e))
last_set (x ∷ xs) (suc at) v e = ap (λ t. x ++ t) (last_set xs at v (omega (arith, e))) ∙ sym (append_assoc x (all_of (take at xs)) v)

pub last_got : (xs : List (List Named)) (at : ℕ) (d : List Named) → at + 1 ≡ length xs → all_of xs ≡ all_of (take at xs) ++ get_or xs at d
last_got [] at d e = absurd (omega (arith, e))
last_got (x ∷ []) zero d e = append_nil x
last_got (x ∷ y ∷ ys) zero d e = absurd (omega (arith, e))
last_got (x ∷ xs) (suc at) d e = ap (λ t. x ++ t) (last_got xs at d (omega (arith, e))) ∙ sym (append_assoc x (all_of (take at xs)) (get_or xs at d))

pub front_length : (xs : List (List Named)) (at : ℕ) (d old : List Named) → at + 1 ≡ length xs → old ≡ get_or xs at d → length (all_of xs) ≡ length (all_of (take at xs)) + length old
front_length xs at d old e g =
    ap length (last_got xs at d e)
    ∙ length-append (all_of (take at xs)) (get_or xs at d)
    ∙ ap (λ v. length (all_of (take at xs)) + length v) (sym g)

pub same_got : (xs : List (List Named)) (at : ℕ) (x y : List Named) → at + 1 ≡ length xs → x ≡ get_or xs at x → y ≡ get_or xs at y → y ≡ x
same_got [] at x y e p q = absurd (omega (arith, e))
same_got (z ∷ zs) zero x y e p q = q ∙ sym p
same_got (z ∷ zs) (suc at) x y e p q = same_got zs at x y (omega (arith, e)) p q

pub last_grows : (xs : List (List Named)) (at : ℕ) (d old new more : List Named) → at + 1 ≡ length xs → old ≡ get_or xs at d → new ≡ old ++ more → all_of (set xs at new) ≡ all_of xs ++ more
last_grows xs at d old new more e g n =
    let front : List Named = all_of (take at xs) in
    last_set xs at new e
    ∙ ap (λ v. front ++ v) (n ∙ ap (λ v. v ++ more) g)
    ∙ sym (append_assoc front (get_or xs at d) more)
    ∙ ap (λ v. v ++ more) (sym (last_got xs at d e))

pub last_stays : (xs : List (List Named)) (at : ℕ) (d old new : List Named) → at + 1 ≡ length xs → old ≡ get_or xs at d → new ≡ old → all_of (set xs at new) ≡ all_of xs
last_stays xs at d old new e g n =
    last_set xs at new e ∙ ap (λ v. all_of (take at xs) ++ v) (n ∙ g) ∙ sym (last_got xs at d e)

-- the first names, where they end in the last stretch
pub ends_in_last : (xs : List (List Named)) (at : ℕ) (d old new : List Named) (n before : ℕ) → at + 1 ≡ length xs → old ≡ get_or xs at d → before + length old ≡ length (all_of xs) → before ≤ n → new ≡ take (n - before) old → all_of (set xs at new) ≡ take n (all_of xs)
ends_in_last xs at d old new n before e g b few is =
    let front : List Named = all_of (take at xs) in
    let whole = front_length xs at d old e g in
    let l : before ≡ length front = omega (arith, whole, b) in
    let low : length front ≤ n = omega (arith, l, few) in
    last_set xs at new e
    ∙ ap (λ v. front ++ v) (is ∙ ap (λ v. take (n - before) v) g ∙ ap (λ k. take (n - k) (get_or xs at d)) l)
    ∙ ap (λ v. v ++ take (n - length front) (get_or xs at d)) (sym (take_all n front low))
    ∙ sym (take_both n front (get_or xs at d))
    ∙ ap (take n) (sym (last_got xs at d e))

-- and where they end in front of it
pub ends_before : (xs : List (List Named)) (at : ℕ) (d old : List Named) (n before : ℕ) → at + 1 ≡ length xs → old ≡ get_or xs at d → before + length old ≡ length (all_of xs) → n ≤ before → (before ≡ length (all_of (take at xs))) × (take n (all_of (take at xs)) ≡ take n (all_of xs))
ends_before xs at d old n before e g b few =
    let front : List Named = all_of (take at xs) in
    let whole = front_length xs at d old e g in
    let l : before ≡ length front = omega (arith, whole, b) in
    let low : n ≤ length front = omega (arith, l, few) in
    (l, sym (take-append-le n front (get_or xs at d) low) ∙ ap (take n) (sym (last_got xs at d e)))

-- ---- what was declared behind so many names

some_or : (a b : Option Meaning) → is_some a ≡ true → is_some (option_or a b) ≡ true
some_or None b h = absurd cc
some_or (Some x) b h = refl

none_or : (a b : Option Meaning) → is_some a ≡ false → is_some (option_or a b) ≡ is_some b
none_or None b h = refl
none_or (Some x) b h = absurd cc

since_both : (n : ℕ) (xs ys : List Named) (name : List ℕ) → is_some (meaning_of (drop n (xs ++ ys)) name) ≡ is_some (option_or (meaning_of (drop (n - length xs) ys) name) (meaning_of (drop n xs) name))
since_both n xs ys name =
    ap (λ v. is_some (meaning_of v name)) (drop_both n xs ys)
    ∙ ap is_some (meaning_both (drop n xs) (drop (n - length xs) ys) name)

pub since_behind : (n : ℕ) (xs ys : List Named) (name : List ℕ) → is_some (meaning_of (drop (n - length xs) ys) name) ≡ true → is_some (meaning_of (drop n (xs ++ ys)) name) ≡ true
since_behind n xs ys name h = since_both n xs ys name ∙ some_or (meaning_of (drop (n - length xs) ys) name) (meaning_of (drop n xs) name) h

pub since_front : (n : ℕ) (xs ys : List Named) (name : List ℕ) → is_some (meaning_of (drop (n - length xs) ys) name) ≡ false → is_some (meaning_of (drop n (xs ++ ys)) name) ≡ is_some (meaning_of (drop n xs) name)
since_front n xs ys name h = since_both n xs ys name ∙ none_or (meaning_of (drop (n - length xs) ys) name) (meaning_of (drop n xs) name) h

-- ---- from the last stretch to the first

-- the names of these lists, which stand from the last one to the first
abbrev pub all_back : List (List Named) → List Named
all_back [] = []
all_back (ns ∷ more) = all_back more ++ ns

back_append : (xs : List (List Named)) (ns : List Named) → all_back (xs ++ ns ∷ []) ≡ ns ++ all_back xs
back_append [] ns = sym (append_nil ns)
back_append (x ∷ xs) ns = ap (λ t. t ++ x) (back_append xs ns) ∙ append_assoc ns (all_back xs) x

pub back_of_reverse : (xs : List (List Named)) → all_back (reverse xs) ≡ all_of xs
back_of_reverse [] = refl
back_of_reverse (x ∷ xs) = ap all_back (reverse-append (x ∷ []) xs) ∙ back_append (reverse xs) x ∙ ap (λ t. x ++ t) (back_of_reverse xs)

pub next_back : (all : List (List Named)) (k : ℕ) (s : List Named) → k < length all → s ≡ get_or all k s → all_back (drop k all) ≡ all_back (drop (k + 1) all) ++ s
next_back all k s lt is = at_drop_more all_back all k s lt ∙ ap (λ v. all_back (drop (k + 1) all) ++ v) (sym is)

-- the last of those that are left has the name
pub found_back : (all : List (List Named)) (k : ℕ) (s names : List Named) (name : List ℕ) (m : Meaning) → k < length all → s ≡ get_or all k s → meaning_of (all_back (drop k all)) name ≡ meaning_of names name → meaning_of s name ≡ Some m → Some m ≡ meaning_of names name
found_back all k s names name m lt is left h =
    sym (behind_tells (all_back (drop (k + 1) all)) s name m h)
    ∙ sym (ap (λ v. meaning_of v name) (next_back all k s lt is))
    ∙ left

-- it has not, so those in front of it tell
pub goes_back : (all : List (List Named)) (k : ℕ) (s names : List Named) (name : List ℕ) → k < length all → s ≡ get_or all k s → meaning_of (all_back (drop k all)) name ≡ meaning_of names name → meaning_of s name ≡ None → meaning_of (all_back (drop (k + 1) all)) name ≡ meaning_of names name
goes_back all k s names name lt is left h =
    sym (front_tells (all_back (drop (k + 1) all)) s name h)
    ∙ sym (ap (λ v. meaning_of v name) (next_back all k s lt is))
    ∙ left

-- none is left, and none had the name
pub found_none : (all : List (List Named)) (k : ℕ) (names : List Named) (name : List ℕ) → length all ≤ k → meaning_of (all_back (drop k all)) name ≡ meaning_of names name → None ≡ meaning_of names name
found_none all k names name e left = sym (ap (λ v. meaning_of (all_back v) name) (drop_all k all e)) ∙ left

-- what is left of the stretches, from the last to the first, has so many names, and tells whether the name was declared behind the first `count`
pub record IsLeft (rest : List (List Named)) (before count : ℕ) (names : List Named) (name : List ℕ) : Type 0 where
  pub counts : before ≡ length (all_back rest)
  pub tells : is_some (meaning_of (drop count (all_back rest)) name) ≡ is_some (meaning_of (drop count names) name)

pub left_at_first : (xs : List (List Named)) (before count : ℕ) (names : List Named) (name : List ℕ) → before ≡ length (all_of xs) → all_of xs ≡ names → IsLeft (reverse xs) before count names name
left_at_first xs before count names name b v = record {
  counts = b ∙ sym (ap length (back_of_reverse xs));
  tells = ap (λ v. is_some (meaning_of (drop count v) name)) (back_of_reverse xs ∙ v);
}

-- no more than `count` are left
pub none_left : (rest : List (List Named)) (before count : ℕ) (names : List Named) (name : List ℕ) → before ≤ count → IsLeft rest before count names name → false ≡ is_some (meaning_of (drop count names) name)
none_left rest before count names name few h =
    let c = h.counts in
    let low : length (all_back rest) ≤ count = omega (arith, c, few) in
    sym (ap (λ v. is_some (meaning_of v name)) (drop_all count (all_back rest) low)) ∙ h.tells

pub none_left_behind : (all : List (List Named)) (k before count : ℕ) (names : List Named) (name : List ℕ) → length all ≤ k → IsLeft (drop k all) before count names name → false ≡ is_some (meaning_of (drop count names) name)
none_left_behind all k before count names name e h =
    let c = h.counts in
    let z = ap (λ v. length (all_back v)) (drop_all k all e) in
    none_left (drop k all) before count names name (omega (arith, c, z)) h

back_length : (all : List (List Named)) (k : ℕ) (s : List Named) (before : ℕ) → k < length all → s ≡ get_or all k s → before ≡ length (all_back (drop k all)) → before - length s ≡ length (all_back (drop (k + 1) all))
back_length all k s before lt is b =
    let e = ap length (next_back all k s lt is) ∙ length-append (all_back (drop (k + 1) all)) s in
    omega (arith, e, b)

-- a stretch has no more names than are left
pub holds_it : (all : List (List Named)) (k : ℕ) (s : List Named) (before : ℕ) → k < length all → s ≡ get_or all k s → before ≡ length (all_back (drop k all)) → length s ≤ before
holds_it all k s before lt is b =
    let e = ap length (next_back all k s lt is) ∙ length-append (all_back (drop (k + 1) all)) s in
    omega (arith, e, b)

pub declared_back : (all : List (List Named)) (k : ℕ) (s : List Named) (before count : ℕ) (names : List Named) (name : List ℕ) → k < length all → s ≡ get_or all k s → IsLeft (drop k all) before count names name → is_some (meaning_of (drop (count - (before - length s)) s) name) ≡ true → true ≡ is_some (meaning_of (drop count names) name)
declared_back all k s before count names name lt is h t =
    let front : List Named = all_back (drop (k + 1) all) in
    sym (since_behind count front s name (ap (λ n. is_some (meaning_of (drop (count - n) s) name)) (sym (back_length all k s before lt is h.counts)) ∙ t))
    ∙ sym (ap (λ v. is_some (meaning_of (drop count v) name)) (next_back all k s lt is))
    ∙ h.tells

pub goes_back_since : (all : List (List Named)) (k : ℕ) (s : List Named) (before count : ℕ) (names : List Named) (name : List ℕ) → k < length all → s ≡ get_or all k s → IsLeft (drop k all) before count names name → is_some (meaning_of (drop (count - (before - length s)) s) name) ≡ false → IsLeft (drop (k + 1) all) (before - length s) count names name
goes_back_since all k s before count names name lt is h t =
    let front : List Named = all_back (drop (k + 1) all) in
    record {
      counts = back_length all k s before lt is h.counts;
      tells =
          sym (since_front count front s name (ap (λ n. is_some (meaning_of (drop (count - n) s) name)) (sym (back_length all k s before lt is h.counts)) ∙ t))
          ∙ sym (ap (λ v. is_some (meaning_of (drop count v) name)) (next_back all k s lt is))
          ∙ h.tells;
    }

-- ---- copies

drop_nil : (n : ℕ) → drop {A = Named} n [] ≡ []
drop_nil zero = refl
drop_nil (suc n) = refl

-- one stretch more is copied, and what is left to skip is less
pub copied_on : (xs : List (List Named)) (k : ℕ) (s old new whole : List Named) (left : ℕ) → k < length xs → s ≡ get_or xs k s → new ≡ old ++ drop left s → old ++ drop left (all_of (drop k xs)) ≡ whole → new ++ drop (left - length s) (all_of (drop (k + 1) xs)) ≡ whole
copied_on xs k s old new whole left lt is n w =
    let rest : List Named = all_of (drop (k + 1) xs) in
    ap (λ v. v ++ drop (left - length s) rest) n
    ∙ append_assoc old (drop left s) (drop (left - length s) rest)
    ∙ ap (λ v. old ++ v) (sym (drop_both left s rest))
    ∙ ap (λ v. old ++ drop left (v ++ rest)) is
    ∙ ap (λ v. old ++ drop left v) (sym (at_drop_more all_of xs k s lt))
    ∙ w

pub copied_all : (xs : List (List Named)) (k : ℕ) (copy whole : List Named) (left : ℕ) → length xs ≤ k → copy ++ drop left (all_of (drop k xs)) ≡ whole → copy ≡ whole
copied_all xs k copy whole left e w =
    sym (append_nil copy)
    ∙ sym (ap (λ v. copy ++ drop left (all_of v)) (drop_all k xs e) ∙ ap (λ v. copy ++ v) (drop_nil left))
    ∙ w

-- ---- one stretch: the names that are taken over, and the own ones behind them

pub own_tells : (shared own names : List Named) (n : ℕ) (name : List ℕ) (m : Meaning) → n ≡ length own → shared ++ own ≡ names → Some m ≡ meaning_of (take n own) name → Some m ≡ meaning_of names name
own_tells shared own names n name m l v h =
    let e = ap (λ k. meaning_of (take k own) name) l ∙ ap (λ v. meaning_of v name) (take-length own) in
    sym (behind_tells shared own name m (sym e ∙ sym h)) ∙ ap (λ v. meaning_of v name) v

pub shared_tells : (shared own names : List Named) (n : ℕ) (name : List ℕ) (r : Option Meaning) → n ≡ length own → shared ++ own ≡ names → None ≡ meaning_of (take n own) name → r ≡ meaning_of shared name → r ≡ meaning_of names name
shared_tells shared own names n name r l v h s =
    let e = ap (λ k. meaning_of (take k own) name) l ∙ ap (λ v. meaning_of v name) (take-length own) in
    s ∙ sym (front_tells shared own name (sym e ∙ sym h)) ∙ ap (λ v. meaning_of v name) v

pub own_since : (shared own names : List Named) (n count s : ℕ) (name : List ℕ) → n ≡ length own → s ≡ length shared → shared ++ own ≡ names → true ≡ is_some (meaning_of (drop (count - s) (take n own)) name) → true ≡ is_some (meaning_of (drop count names) name)
own_since shared own names n count s name l k v h =
    let e = h ∙ ap (λ k. is_some (meaning_of (drop (count - s) (take k own)) name)) l ∙ ap (λ v. is_some (meaning_of (drop (count - s) v) name)) (take-length own) ∙ ap (λ k. is_some (meaning_of (drop (count - k) own) name)) k in
    sym (since_behind count shared own name (sym e)) ∙ ap (λ v. is_some (meaning_of (drop count v) name)) v

pub shared_since : (shared own names : List Named) (n count s : ℕ) (name : List ℕ) (r : Bool) → n ≡ length own → s ≡ length shared → shared ++ own ≡ names → false ≡ is_some (meaning_of (drop (count - s) (take n own)) name) → r ≡ is_some (meaning_of (drop count shared) name) → r ≡ is_some (meaning_of (drop count names) name)
shared_since shared own names n count s name r l k v h g =
    let e = h ∙ ap (λ k. is_some (meaning_of (drop (count - s) (take k own)) name)) l ∙ ap (λ v. is_some (meaning_of (drop (count - s) v) name)) (take-length own) ∙ ap (λ k. is_some (meaning_of (drop (count - k) own) name)) k in
    g ∙ sym (since_front count shared own name (sym e)) ∙ ap (λ v. is_some (meaning_of (drop count v) name)) v

pub nothing_since : (count : ℕ) (name : List ℕ) → false ≡ is_some (meaning_of (drop count []) name)
nothing_since count name = sym (ap (λ v. is_some (meaning_of v name)) (drop_nil count))

take_nil : (n : ℕ) → take {A = Named} n [] ≡ []
take_nil zero = refl
take_nil (suc n) = refl

pub both_leave : (shared own names now left : List Named) (n s : ℕ) → s ≡ length shared → shared ++ own ≡ names → left ≡ take (n - s) own → now ≡ take n shared → now ++ left ≡ take n names
both_leave shared own names now left n s k v l t =
    ap₂ (λ a b. a ++ b) t (l ∙ ap (λ k. take (n - k) own) k) ∙ sym (take_both n shared own) ∙ ap (take n) v

pub nothing_leaves : (n : ℕ) → [] ≡ take {A = Named} n []
nothing_leaves n = sym (take_nil n)

pub both_copied : (shared own names old mid new : List Named) (n k s : ℕ) → s ≡ length shared → k ≡ length own → shared ++ own ≡ names → mid ≡ old ++ drop n shared → new ≡ mid ++ drop (n - s) (take k own) → new ≡ old ++ drop n names
both_copied shared own names old mid new n k s e l v m w =
    w
    ∙ ap₂ (λ a b. a ++ b) m (ap (λ k. drop (n - s) (take k own)) l ∙ ap (λ v. drop (n - s) v) (take-length own) ∙ ap (λ k. drop (n - k) own) e)
    ∙ append_assoc old (drop n shared) (drop (n - length shared) own)
    ∙ ap (λ v. old ++ v) (sym (drop_both n shared own) ∙ ap (drop n) v)

pub nothing_copied : (n : ℕ) (old : List Named) → old ≡ old ++ drop n []
nothing_copied n old = sym (append_nil old) ∙ ap (λ v. old ++ v) (sym (drop_nil n))
