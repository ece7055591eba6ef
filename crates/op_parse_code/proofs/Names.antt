-- Identifiers and numbers.
use Rattle.std.proofs.Common.{◌≡◌, ℕ, Bool, true, List, [], ◌∷◌, map, length, refl, arith}
use Rattle.std.proofs.lemmas.Slice.Eq.{bytes_eq-Decides}
use Rattle.std.specs.Char.{to_ascii_lowercase}
use Rattle.op_base.specs.declared.place.Place.{Place}
use Rattle.op_parse_code.proofs.Cuts.{same_not}
use Rattle.op_parse_code.proofs.Refusing.{dead_here}
use Rattle.op_parse_code.specs.Opening.{is_identifier, is_number, is_word, spelled}
use Rattle.op_parse_code.specs.Refusal.{Refuses, syntax, refused_at}
use Rattle.op_parse_code.specs.Whole.{SomeName}
use Rattle.op_parse_code.specs.declared.error.ParseError.{ParseError}
use Rattle.op_scan.specs.declared.token.TokenKind.{TokenKind}
use Rattle.op_scan.specs.declared.token.TokenKind.TheVariants as kind
use Rattle.op_tree.proofs.DeclarationUnique.{name_begins}
use Rattle.op_tree.proofs.StatementUnique.{both}
use Rattle.op_tree.specs.Ends.{IsNot}
use Rattle.op_tree.specs.NameGrammar.{IsName, is_name}
use Rattle.op_tree.specs.Terminal.{Terminal, ◌at◌, name, terminals}
use Rattle.op_tree.specs.declared.position.Position.{Position}
use Rattle.op_scan.specs.declared.token.Token.{Token}

pub identifier_kind : (k : TokenKind) → is_identifier k ≡ true → k ≡ kind.Identifier (spelled k)
identifier_kind (kind.Identifier text) h = refl
identifier_kind other h = absurd cc

pub number_kind : (k : TokenKind) → is_number k ≡ true → (n : ℕ) × (k ≡ kind.Number n)
number_kind (kind.Number n) h = (n, refl)
number_kind other h = absurd cc

pub no_name_refuses : (d : ℕ) (end : Place) (ks : List Terminal) (e : ParseError) → IsNot is_identifier ks → e ≡ refused_at 9 0 end ks → Refuses SomeName d end ks e
no_name_refuses d end ks e h x = syntax ks x (λ d'. dead_here (SomeName d') ks (λ a ls r s f. both is_identifier ls (name_begins f) (same_not is_identifier ks ls s h)))

-- tokens of which none is left begin with none of these
pub empty_not : (test : TokenKind → Bool) (ts : List Token) → length ts ≡ 0 → IsNot test (terminals ts)
empty_not test [] h = tt
empty_not test (t ∷ ts) h = absurd (omega (arith, h))

pub named_at : (k : TokenKind) (p : Position) (r : List Terminal) → is_identifier k ≡ true → IsName (name (spelled k) p) (k at p ∷ r) r
named_at (kind.Identifier text) p r h = is_name
named_at other p r h = absurd cc

pub word_kind : (word : List ℕ) (k : TokenKind) → is_word word k ≡ true → (k ≡ kind.Identifier (spelled k)) × (map to_ascii_lowercase (spelled k) ≡ map to_ascii_lowercase word)
word_kind word (kind.Identifier text) h = (refl, (bytes_eq-Decides (map to_ascii_lowercase text) (map to_ascii_lowercase word)).0 h)
word_kind word other h = absurd cc

pub none_left : (ts : List Token) → length ts ≡ 0 → ts ≡ []
none_left [] h = refl
none_left (t ∷ ts) h = absurd (omega (arith, h))
