-- Forms that are left out and show among declarations and files.
use Rattle.std.proofs.Common.{◌≡◌, ℕ, true, List, [], ◌∷◌, codes, refl, sym, subst}
use Rattle.op_parse_code.proofs.Names.{word_kind}
use Rattle.op_parse_decl.specs.Form.{Form, HasForm, begins_generic, is_generic, is_generic_name}
use Rattle.op_parse_code.specs.Opening.{is_word}
use Rattle.op_scan.specs.declared.token.TokenKind.{TokenKind}
use Rattle.op_tree.specs.Terminal.{Terminal, ◌at◌}
use Rattle.op_tree.specs.declared.position.Position.{Position}

-- a form that is told by its first token, with which no sentence goes on
pub told_first : {feature : ℕ} {ks : List Terminal} → Form feature ks ks ks → HasForm feature ks ks ks
told_first {ks = ks} f = ([], ks, refl, f)

pub generic_form : (k k' : TokenKind) (p q : Position) (r : List Terminal) → is_word (codes "generic") k ≡ true → begins_generic k' ≡ true → HasForm 29 (k at p ∷ k' at q ∷ r) (k at p ∷ k' at q ∷ r) (k at p ∷ k' at q ∷ r)
generic_form k k' p q r h b =
    let w = word_kind (codes "generic") k h in
    told_first (subst (λ z. Form 29 (z at p ∷ k' at q ∷ r) (z at p ∷ k' at q ∷ r) (z at p ∷ k' at q ∷ r)) (sym w.0) (is_generic b w.1))

-- where the word is taken for a name
pub generic_name_form : (k k' : TokenKind) (p q : Position) (m r : List Terminal) → m ≡ k' at q ∷ r → is_word (codes "generic") k ≡ true → begins_generic k' ≡ true → HasForm 29 (k at p ∷ m) (k at p ∷ m) m
generic_name_form k k' p q m r e h b =
    let w = word_kind (codes "generic") k h in
    ([], k at p ∷ m, refl, subst (λ z. Form 29 (k at p ∷ z) (k at p ∷ z) z) (sym e) (subst (λ z. Form 29 (z at p ∷ k' at q ∷ r) (z at p ∷ k' at q ∷ r) (k' at q ∷ r)) (sym w.0) (is_generic_name b w.1)))
