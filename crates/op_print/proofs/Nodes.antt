-- The drafts of nodes and lists of Rust.
use Rattle.std.proofs.Common.{◌≡◌, List, [], ◌∷◌, map, refl, ap, ◌∙◌}
use Rattle.op_print.specs.Page.{Draft}

-- a node has the draft of what it says
pub said : {A B : Type 0} {x y : A} {z : B} (draft : B → Draft) (of : A → B) → x ≡ y → of y ≡ z → draft (of x) ≡ draft z
said draft of e f = ap (λ x. draft (of x)) e ∙ ap draft f

pub fused : {A B : Type 0} (draft : B → Draft) (of : A → B) (xs : List A) → map draft (map of xs) ≡ map (λ x. draft (of x)) xs
fused draft of [] = refl
fused draft of (x ∷ xs) = ap (λ ds. draft (of x) ∷ ds) (fused draft of xs)
