-- Lists that are gathered item by item.
use Rattle.std.proofs.Common.{◌≡◌, ℕ, zero, suc, Some, List, [], ◌∷◌, ◌++◌, slice_get, take, ap, sym, ◌∙◌, subst, subst₂}
use Rattle.std.proofs.lemmas.Option.{same_Some}
use Rattle.op_optimize.specs.Each.{Each, NoneLeft, OneMore}

pub each_behind : {T U : Type 0} {R : T → U → Type 0} (xs : List T) (ys : List U) (x : T) (y : U) → Each R xs ys → R x y → Each R (xs ++ x ∷ []) (ys ++ y ∷ [])
each_behind [] [] x y NoneLeft r = OneMore r NoneLeft
each_behind [] (b ∷ ys) x y each r = elim each [ ]
each_behind (a ∷ xs) [] x y each r = elim each [ ]
each_behind (a ∷ xs) (b ∷ ys) x y (OneMore first rest) r = OneMore first (each_behind xs ys x y rest r)

take_more : {T : Type 0} (xs : List T) (k : ℕ) (x : T) → slice_get xs k ≡ Some x → take (suc k) xs ≡ take k xs ++ x ∷ []
take_more [] k x is = absurd cc
take_more (a ∷ xs) zero x is = ap (λ b. b ∷ []) (same_Some _ _ is)
take_more (a ∷ xs) (suc k) x is = ap (λ l. a ∷ l) (take_more xs k x is)

-- one more of a list, and what is made of it
pub each_next : {T U : Type 0} {R : T → U → Type 0} (xs : List T) (k j : ℕ) (ys zs : List U) (x : T) (y : U) → Each R (take k xs) ys → slice_get xs k ≡ Some x → R x y → j ≡ suc k → zs ≡ ys ++ y ∷ [] → Each R (take j xs) zs
each_next {R = R} xs k j ys zs x y each is r next more =
    subst₂ (Each R) (sym (ap (λ n. take n xs) next ∙ take_more xs k x is)) (sym more) (each_behind (take k xs) ys x y each r)

pub each_first : {T U : Type 0} {R : T → U → Type 0} (xs : List T) (ys : List U) → ys ≡ [] → Each R (take 0 xs) ys
each_first {R = R} [] ys none = subst (Each R []) (sym none) NoneLeft
each_first {R = R} (x ∷ xs) ys none = subst (Each R []) (sym none) NoneLeft
