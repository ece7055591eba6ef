-- Lists of bytes, and tests of their first two.
use Rattle.std.proofs.Common.{◌≡◌, ◌≢◌, ℕ, Bool, true, false, cond, eqb, ◌&&◌, List, [], ◌∷◌, get_or, drop, refl, sym, ap, subst, ◌∙◌}
use Rattle.std.proofs.lemmas.Bool.{eqb-true, eqb-false, eq-eqb, false≢true, and_parts}
use Rattle.std.proofs.lemmas.List.{nil_from_length}
use Rattle.op_scan.specs.Byte.{begins_with}

pub head_eq : {x y : ℕ} {xs ys : List ℕ} → x ∷ xs ≡ y ∷ ys → x ≡ y
head_eq e = ap (λ zs. get_or zs 0 0) e

pub tail_eq : {x y : ℕ} {xs ys : List ℕ} → x ∷ xs ≡ y ∷ ys → xs ≡ ys
tail_eq e = ap (λ zs. drop 1 zs) e

pub cond_case : {A : Type 0} (P : A → Type 0) (test : Bool) {x y : A} → (test ≡ true → P x) → (test ≡ false → P y) → P (cond test x y)
cond_case P true f g = f refl
cond_case P false f g = g refl

-- the test of one byte
pub one_true : (first byte : ℕ) (after : List ℕ) → eqb first byte ≡ true → first ∷ after ≡ byte ∷ after
one_true first byte after h = ap (λ x. x ∷ after) (eqb-true first byte h)

pub one_false : (first byte : ℕ) (after rest : List ℕ) → eqb first byte ≡ false → first ∷ after ≢ byte ∷ rest
one_false first byte after rest h e = eqb-false first byte h (head_eq e)

pub begins_true : (bytes : List ℕ) (byte : ℕ) → begins_with bytes byte ≡ true → bytes ≡ byte ∷ drop 1 bytes
begins_true [] byte h = absurd (false≢true h)
begins_true (first ∷ after) byte h = one_true first byte after h

-- the test of two bytes
pub two_true : (first a b : ℕ) (after : List ℕ) → (eqb first a && begins_with after b) ≡ true → first ∷ after ≡ a ∷ b ∷ drop 1 after
two_true first a b after h =
    let p = and_parts (eqb first a) (begins_with after b) h in
    one_true first a after p.0 ∙ ap (λ xs. a ∷ xs) (begins_true after b p.1)

pub two_false : (first a b : ℕ) (after rest : List ℕ) → (eqb first a && begins_with after b) ≡ false → first ∷ after ≢ a ∷ b ∷ rest
two_false first a b after rest h e =
    let t : (eqb first a && begins_with after b) ≡ true =
    subst (λ xs. (eqb first a && begins_with xs b) ≡ true) (sym (tail_eq e))
    (subst (λ x. (eqb x a && eqb b b) ≡ true) (sym (head_eq e))
    (subst (λ t. (eqb a a && t) ≡ true) (sym (eq-eqb b b refl)) (subst (λ t. (t && true) ≡ true) (sym (eq-eqb a a refl)) refl)))
    in false≢true (sym h ∙ t)
