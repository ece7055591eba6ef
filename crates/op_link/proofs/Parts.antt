-- Parts that are appended one after the other.
use Rattle.std.proofs.Common.{◌≡◌, ℕ, List, ◌++◌, ap, ◌∙◌, append_assoc}

pub three_parts : (a b c d x y z : List ℕ) → x ≡ a ++ b → y ≡ x ++ c → z ≡ y ++ d → z ≡ a ++ ((b ++ c) ++ d)
three_parts a b c d x y z first next last =
    last ∙ ap (λ y. y ++ d) (next ∙ ap (λ x. x ++ c) first ∙ append_assoc a b c) ∙ append_assoc a (b ++ c) d
