-- Lists of names.
use Rattle.std.proofs.Common.{◌≡◌, ℕ, zero, suc, ◌+◌, Bool, true, false, ◌||◌, not, List, [], ◌∷◌, ◌++◌, length, map, nat_lt, slice_get, Some, None, if◌then◌else◌, Vec, refl, sym, ap, subst, ◌∙◌, ◌⊎◌, inl, inr, arith, append_assoc}
use Rattle.std.proofs.lemmas.List.Folds.{list_any-append}
use Rattle.std.proofs.lemmas.Bool.{false≢true, or_left, or_right}
use Rattle.std.proofs.lemmas.List.{length-map}
use Rattle.std.proofs.lemmas.Option.{slice_get_within}
use Rattle.std.proofs.lemmas.Slice.Eq.{bytes_eq-Decides}
use Rattle.std.specs.List.{list_any, position, prefix_len}
use Rattle.std.specs.declared.alloc.Global.{Global}
use Rattle.std.specs.Str.{bytes_eq}
use Rattle.op_units.specs.Names.{is_among}
use Rattle.op_units.specs.Cycles.{with_name}

-- ---- one that stands there

or_cases : (a b : Bool) → (a || b) ≡ true → (a ≡ true) ⊎ (b ≡ true)
or_cases true b e = inl refl
or_cases false b e = inr e

pub among_front : (name : List ℕ) (xs ys : List (List ℕ)) → is_among name xs ≡ true → is_among name (xs ++ ys) ≡ true
among_front name xs ys h = list_any-append (bytes_eq name) xs ys ∙ or_left (is_among name xs) (is_among name ys) h

pub among_back : (name : List ℕ) (xs ys : List (List ℕ)) → is_among name ys ≡ true → is_among name (xs ++ ys) ≡ true
among_back name xs ys h = list_any-append (bytes_eq name) xs ys ∙ or_right (is_among name xs) (is_among name ys) h

pub among_cases : (name : List ℕ) (xs ys : List (List ℕ)) → is_among name (xs ++ ys) ≡ true → (is_among name xs ≡ true) ⊎ (is_among name ys ≡ true)
among_cases name xs ys h = or_cases (is_among name xs) (is_among name ys) (sym (list_any-append (bytes_eq name) xs ys) ∙ h)

pub same_by : (a b : List ℕ) → bytes_eq a b ≡ true → a ≡ b
same_by a b h = (bytes_eq-Decides a b).0 h

pub same_bytes : (a : List ℕ) → bytes_eq a a ≡ true
same_bytes a = (bytes_eq-Decides a a).1 refl

pub among_itself : (name : List ℕ) → is_among name (name ∷ []) ≡ true
among_itself name = or_left (bytes_eq name name) false (same_bytes name)

-- only one
pub among_one : (name other : List ℕ) → is_among name (other ∷ []) ≡ true → name ≡ other
among_one name other h = elim (or_cases (bytes_eq name other) false h) [ inl e ↦ same_by name other e | inr e ↦ absurd (false≢true e) ]

-- a name that is among others stands somewhere
pub number_among : (name : List ℕ) (xs : List (List ℕ)) → is_among name xs ≡ true → (k : ℕ) × (slice_get xs k ≡ Some name)
number_among name [] h = absurd (false≢true h)
number_among name (x ∷ xs) h = elim (or_cases (bytes_eq name x) (is_among name xs) h) [ inl e ↦ (0, ap (λ y. Some y) (sym (same_by name x e))) | inr e ↦ let r = number_among name xs e in (suc r.0, r.1) ]

-- ---- one more

-- the names grow
pub data Grows (old new : List (List ℕ)) : Type 0 where
  grows : (more : List (List ℕ)) → new ≡ old ++ more → Grows old new

append_nothing : (xs : List (List ℕ)) → xs ≡ xs ++ []
append_nothing [] = refl
append_nothing (x ∷ xs) = ap (λ ys. x ∷ ys) (append_nothing xs)

pub grows_not : (xs : List (List ℕ)) → Grows xs xs
grows_not xs = grows [] (append_nothing xs)

pub grows_also : (xs ys zs : List (List ℕ)) → Grows xs ys → Grows ys zs → Grows xs zs
grows_also xs ys zs (grows a e) (grows b f) = grows (a ++ b) (f ∙ ap (λ us. us ++ b) e ∙ append_assoc xs a b)

pub still_among : (name : List ℕ) (xs ys : List (List ℕ)) → Grows xs ys → is_among name xs ≡ true → is_among name ys ≡ true
still_among name xs ys (grows m e) h = subst (λ us. is_among name us ≡ true) (sym e) (among_front name xs m h)

pub front_stays : (xs m : List (List ℕ)) (k : ℕ) (a : List ℕ) → slice_get xs k ≡ Some a → slice_get (xs ++ m) k ≡ Some a
front_stays [] m k a h = absurd (omega (arith, slice_get_within [] k a h))
front_stays (x ∷ xs) m zero a h = h
front_stays (x ∷ xs) m (suc k) a h = front_stays xs m k a h

pub with_one : (xs : List (List ℕ)) (name : List ℕ) (b : Bool) → is_among name xs ≡ b → Grows xs (if b then xs else xs ++ name ∷ []) × (is_among name (if b then xs else xs ++ name ∷ []) ≡ true)
with_one xs name true h = (grows_not xs, h)
with_one xs name false h = (grows (name ∷ []) refl, among_back name xs (name ∷ []) (among_itself name))

-- ---- sets of names

pub any_items : (p : List ℕ → Bool) (keys : List (Vec ℕ Global)) → list_any (λ k. p k.items) keys ≡ list_any p (map (λ k. k.items) keys)
any_items p [] = refl
any_items p (k ∷ ks) = ap (λ b. p k.items || b) (any_items p ks)

front_items : (p : List ℕ → Bool) (keys : List (Vec ℕ Global)) → prefix_len (λ k. p k.items) keys ≡ prefix_len p (map (λ k. k.items) keys)
front_items p [] = refl
front_items p (k ∷ ks) = ap (λ n. if p k.items then 1 + n else 0) (front_items p ks)

pub position_items : (p : List ℕ → Bool) (keys : List (Vec ℕ Global)) → position (λ k. p k.items) keys ≡ position p (map (λ k. k.items) keys)
position_items p keys =
    ap (λ n. if nat_lt n (length keys) then Some n else None) (front_items (λ x. not (p x)) keys)
    ∙ ap (λ l. if nat_lt (prefix_len (λ x. not (p x)) (map (λ k. k.items) keys)) l then Some (prefix_len (λ x. not (p x)) (map (λ k. k.items) keys)) else None) (sym (length-map keys (λ k. k.items)))

map_added : (keys : List (Vec ℕ Global)) (key : Vec ℕ Global) (b : Bool) → map (λ k. k.items) (if b then keys else keys ++ key ∷ []) ≡ (if b then map (λ k. k.items) keys else map (λ k. k.items) keys ++ key.items ∷ [])
map_added keys key true = refl
map_added keys key false = map_last keys
  where
    map_last : (ks : List (Vec ℕ Global)) → map (λ k. k.items) (ks ++ key ∷ []) ≡ map (λ k. k.items) ks ++ key.items ∷ []
    map_last [] = refl
    map_last (k ∷ ks) = ap (λ xs. k.items ∷ xs) (map_last ks)

pub is_there : (keys : List (Vec ℕ Global)) (key : Vec ℕ Global) (name : List ℕ) (old : List (List ℕ)) → key.items ≡ name → map (λ k. k.items) keys ≡ old → list_any (λ k. bytes_eq key.items k.items) keys ≡ is_among name old
is_there keys key name old e v = any_items (bytes_eq key.items) keys ∙ ap (λ x. list_any (bytes_eq x) (map (λ k. k.items) keys)) e ∙ ap (is_among name) v

pub after_adding : (keys new : List (Vec ℕ Global)) (key : Vec ℕ Global) (name : List ℕ) (old : List (List ℕ)) → key.items ≡ name → map (λ k. k.items) keys ≡ old → new ≡ (if list_any (λ k. bytes_eq key.items k.items) keys then keys else keys ++ key ∷ []) → map (λ k. k.items) new ≡ with_name old name
after_adding keys new key name old e v n =
    ap (λ ks. map (λ k. k.items) ks) n ∙ map_added keys key (list_any (λ k. bytes_eq key.items k.items) keys)
    ∙ ap (λ b. if b then map (λ k. k.items) keys else map (λ k. k.items) keys ++ key.items ∷ []) (is_there keys key name old e v)
    ∙ ap (λ ns. if is_among name old then ns else ns ++ key.items ∷ []) v
    ∙ ap (λ n. if is_among name old then old else old ++ n ∷ []) e
