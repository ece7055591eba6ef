-- Forms that are left out and show among statements and expressions.
use Rattle.std.proofs.Common.{◌≡◌, ℕ, true, List, [], ◌∷◌, ◌++◌, append_assoc, codes, map, refl, sym, ap, ◌∙◌, subst, ap₂}
use Rattle.std.specs.Char.{to_ascii_lowercase}
use Rattle.op_parse_code.proofs.Names.{identifier_kind, number_kind, word_kind}
use Rattle.op_parse_code.specs.Opening.{is_identifier, is_number as is_numeral, is_word, spelled}
use Rattle.op_parse_code.specs.Whole.{Chain}
use Rattle.op_parse_decl.proofs.Refusals.{with_front}
use Rattle.op_parse_decl.specs.Form.{Form, HasForm, is_fraction, is_raise_at, is_specialized}
use Rattle.op_parse_decl.specs.Opening.{BeginsAt}
use Rattle.op_scan.specs.declared.token.TokenKind.{TokenKind}
use Rattle.op_scan.specs.declared.token.TokenKind.TheVariants as kind
use Rattle.op_tree.specs.Expression.{Expression}
use Rattle.op_tree.specs.ExpressionGrammar.{IsChain}
use Rattle.op_tree.specs.Terminal.{Terminal, ◌at◌}
use Rattle.op_tree.specs.declared.operator.Level.TheVariants.{Relational}
use Rattle.op_tree.specs.declared.position.Position.{Position}

-- the second tokens stand behind others in the first
pub data IsTail (all : List Terminal) : List Terminal → Type 0 where
  is_tail : {rest : List Terminal} (seen : List Terminal) → all ≡ seen ++ rest → IsTail all rest

pub tail_none : (all : List Terminal) → IsTail all all
tail_none all = is_tail [] refl

pub tail_more : {all rest m : List Terminal} {t : Terminal} → IsTail all rest → rest ≡ t ∷ m → IsTail all m
tail_more {m = m} {t = t} (is_tail seen e) is = is_tail (seen ++ (t ∷ [])) (e ∙ ap (λ z. seen ++ z) is ∙ sym (append_assoc seen (t ∷ []) m))

pub tail_form : {feature : ℕ} {all rest q m : List Terminal} → IsTail all rest → HasForm feature rest q m → HasForm feature all q m
tail_form (is_tail seen e) f = with_front seen e f

pub raise_at_form : (d : ℕ) (a : Expression) (p : Position) (k : TokenKind) (ks r form : List Terminal) → k ≡ kind.Raise → Chain Relational d a ks r → BeginsAt r form → HasForm 34 (k at p ∷ ks) form form
raise_at_form d a p k ks r form h f (text, q, m, w, is, same) =
    ([], k at p ∷ ks, refl, subst (λ z. Form 34 (z at p ∷ ks) form form) (sym h) (subst (λ z. Form 34 (kind.Raise at p ∷ ks) z z) (sym same) (is_raise_at {d = d} {e = a} w (subst (λ z. IsChain Relational d a ks z) is f.0))))

pub at_begins : (k : TokenKind) (q : Position) (ks r : List Terminal) → ks ≡ k at q ∷ r → is_word (codes "at") k ≡ true → BeginsAt ks ks
at_begins k q ks r is h =
    let w = word_kind (codes "at") k h in
    let whole : ks ≡ kind.Identifier (spelled k) at q ∷ r = is ∙ ap (λ z. z at q ∷ r) w.0 in
    (spelled k, q, r, w.1, whole, whole)

pub fraction_form : (k k' : TokenKind) (p q u : Position) (ks m n r : List Terminal) → ks ≡ k at p ∷ m → m ≡ kind.Dot at q ∷ n → n ≡ k' at u ∷ r → is_numeral k ≡ true → is_numeral k' ≡ true → HasForm 1 ks ks m
fraction_form k k' p q u ks m n r e e1 e2 h h' =
    let a = number_kind k h in
    let b = number_kind k' h' in
    let behind_number : m ≡ kind.Dot at q ∷ kind.Number b.0 at u ∷ r = e1 ∙ ap (λ z. kind.Dot at q ∷ z) e2 ∙ ap (λ z. kind.Dot at q ∷ z at u ∷ r) b.1 in
    let whole : ks ≡ kind.Number a.0 at p ∷ kind.Dot at q ∷ kind.Number b.0 at u ∷ r = e ∙ ap₂ (λ x y. x at p ∷ y) a.1 behind_number in
    ([], ks, refl, subst (λ z. Form 1 ks ks z) (sym behind_number) (subst (λ z. Form 1 z z (kind.Dot at q ∷ kind.Number b.0 at u ∷ r)) (sym whole) is_fraction))

pub specialized_form : (k k' : TokenKind) (p q : Position) (ks m r : List Terminal) (word : List ℕ) → ks ≡ k at p ∷ m → m ≡ k' at q ∷ r → is_word word k ≡ true → map to_ascii_lowercase word ≡ codes "specialize" → is_identifier k' ≡ true → HasForm 29 ks ks m
specialized_form k k' p q ks m r word e e1 h w h' =
    let a = word_kind word k h in
    let behind_word : m ≡ kind.Identifier (spelled k') at q ∷ r = e1 ∙ ap (λ z. z at q ∷ r) (identifier_kind k' h') in
    let whole : ks ≡ kind.Identifier (spelled k) at p ∷ kind.Identifier (spelled k') at q ∷ r = e ∙ ap₂ (λ x y. x at p ∷ y) a.0 behind_word in
    ([], ks, refl, subst (λ z. Form 29 ks ks z) (sym behind_word) (subst (λ z. Form 29 z z (kind.Identifier (spelled k') at q ∷ r)) (sym whole) (is_specialized (a.1 ∙ w))))
