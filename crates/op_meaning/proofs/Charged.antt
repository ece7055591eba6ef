-- What sums of 64 bits say of weights.
use Rattle.std.proofs.Common.{◌≡◌, ℕ, ◌+◌, ◌*◌, ◌≤◌, min, List, [], ◌∷◌, length, arith, refl, ap, ◌∙◌}
use Rattle.op_core.specs.Nodes.{expressions_of}
use Rattle.op_core.specs.declared.expression.CoreExpr.{CoreExpr}
use Rattle.op_meaning.specs.Charge.{Weight, weight, ◌&◌, nodes_of, words_of, charged, count_of, most}

-- sums stop at the greatest number, and nowhere else
pub charged_is : (w : Weight) → charged w ≡ min (16 * nodes_of w + 4 * words_of w) most
charged_is (weight nodes words) = refl
charged_is (a & b) = omega (arith, charged_is a, charged_is b)

pub charged_fits : (w : Weight) → charged w ≤ most
charged_fits w = omega (arith, charged_is w)

pub fits_as : {n : ℕ} (w : Weight) → n ≡ charged w → n ≤ most
fits_as w e = omega (arith, charged_fits w)

-- ---- lists

pub begins : (w : Weight) → min (0 + charged w) most ≡ charged w
begins w = omega (arith, charged_fits w)

-- a node counts for what it says
pub says : {A B : Type 0} {x y : A} {z : B} (F : B → ℕ) (of : A → B) → x ≡ y → of y ≡ z → F (of x) ≡ F z
says F of e f = ap (λ x. F (of x)) e ∙ ap F f

pub count-expressions : (es : List CoreExpr) → count_of (expressions_of es) ≡ length es
count-expressions [] = refl
count-expressions (e ∷ es) = omega (arith, count-expressions es)
