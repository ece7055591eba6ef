-- Properties, and what they are made of.
use Rattle.std.proofs.Common.{◌≡◌, ℕ, suc, false, List, ◌∷◌, codes, Option, Some, None, map, refl, sym, ap, ◌∙◌, subst}
use Rattle.std.proofs.lemmas.Slice.Eq.{bytes_eq-Decides}
use Rattle.std.specs.Char.{to_ascii_lowercase}
use Rattle.std.specs.Str.{bytes_eq}
use Rattle.op_parse_code.proofs.Cuts.{cut_none, cut_one, same_not}
use Rattle.op_parse_code.proofs.Refusing.{Known}
use Rattle.op_parse_code.proofs.StatementFronts.{front_name}
use Rattle.op_parse_code.proofs.StatementKnown.{known_name}
use Rattle.op_parse_code.specs.Opening.{is_word}
use Rattle.op_parse_code.specs.Refusal.{Phrase}
use Rattle.op_parse_code.specs.Whole.{SomeName}
use Rattle.op_parse_code.specs.declared.mark.Mark.TheVariants as mark
use Rattle.op_parse_decl.specs.Combined.{Both, both, Stands, stands, Then, then_}
use Rattle.op_parse_decl.specs.Known.{As, Stays, known_as, known_stands, known_then}
use Rattle.op_parse_decl.specs.KnownTypes.{known_denoter}
use Rattle.op_parse_decl.specs.Types.{SomeDenoter}
use Rattle.op_scan.specs.declared.token.TokenKind.TheVariants as kind
use Rattle.op_tree.proofs.ClassUnique.{accessor_stops}
use Rattle.op_tree.proofs.ExpressionUnique.{true_false}
use Rattle.op_tree.proofs.StatementUnique.{unique_name}
use Rattle.op_tree.specs.Denoter.{Denoter}
use Rattle.op_tree.specs.Ends.{IsNot}
use Rattle.op_tree.specs.HeadingGrammar.{IsAccessor, has_no_accessor, has_accessor, IsProperty, is_property}
use Rattle.op_tree.specs.Terminal.{Terminal, ◌at◌, IsWord}
use Rattle.op_tree.specs.declared.position.Name.{Name}
use Rattle.op_tree.specs.declared.position.Position.{Position}

-- the name behind a word, none where the word does not stand there
abbrev pub SomeAccessor : List ℕ → Phrase (Option Name)
SomeAccessor word d None ks r = (ks ≡ r) × IsNot (is_word word) ks
SomeAccessor word d (Some n) ks r = IsAccessor (map to_ascii_lowercase word) (Some n) ks r

abbrev pub SomeAccessors : Phrase (Both (Option Name) (Option Name))
SomeAccessors = Then (SomeAccessor (codes "read")) (SomeAccessor (codes "write"))

pub word_is : {A : Type 0} (word text : List ℕ) → IsWord (map to_ascii_lowercase word) text → bytes_eq (map to_ascii_lowercase text) (map to_ascii_lowercase word) ≡ false → A
word_is word text w none = true_false (sym ((bytes_eq-Decides (map to_ascii_lowercase text) (map to_ascii_lowercase word)).1 w) ∙ none)

front_accessor : (word : List ℕ) (d : ℕ) (n : Option Name) (ks r : List Terminal) → SomeAccessor word d n ks r → Stays (SomeAccessor word d n) ks r
front_accessor word d None ks r (e, none) = (λ x. x, cut_none, e, λ x h. (refl, same_not (is_word word) r x h (subst (IsNot (is_word word)) e none)))
front_accessor word d (Some n) ks r (has_accessor {text = text} {p = p} w f) =
    let s = front_name f in
    (λ x. kind.Identifier text at p ∷ s.0 x, cut_one (kind.Identifier text at p) s.1, ap (λ x. kind.Identifier text at p ∷ x) s.2, λ x h. has_accessor w (s.3 x))

same_accessor : (word : List ℕ) (d d' : ℕ) (n n' : Option Name) (ks r r' : List Terminal) → SomeAccessor word d n ks r → SomeAccessor word d' n' ks r' → r ≡ r'
same_accessor word d d' None None ks r r' (e, none) (e', none') = sym e ∙ e'
same_accessor word d d' None (Some n') ks r r' (e, none) (has_accessor {text = text} w f) = word_is word text w none
same_accessor word d d' (Some n) None ks r r' (has_accessor {text = text} w f) (e, none) = word_is word text w none
same_accessor word d d' (Some n) (Some n') ks r r' (has_accessor w f) (has_accessor w' f') = (unique_name f f').1

deepens_accessor : (word : List ℕ) (d : ℕ) (n : Option Name) (ks r : List Terminal) → SomeAccessor word d n ks r → SomeAccessor word (suc d) n ks r
deepens_accessor word d None ks r f = f
deepens_accessor word d (Some n) ks r f = f

pub known_accessor : (word : List ℕ) → Known (SomeAccessor word)
known_accessor word = record { front = front_accessor word; same = same_accessor word; deepens = deepens_accessor word }

pub known_accessors : Known SomeAccessors
known_accessors = known_then (known_accessor (codes "read")) (known_accessor (codes "write"))

-- ---- properties

-- up to the name, and up to the type
abbrev pub NamedProperty : Phrase (Both (Unit {0}) Name)
NamedProperty = Then (Stands mark.Property) SomeName

abbrev pub TypedProperty : Phrase (Both (Both (Both (Unit {0}) Name) (Unit {0})) Denoter)
TypedProperty = Then (Then NamedProperty (Stands mark.Colon)) SomeDenoter

abbrev pub PropertyParts : Phrase (Both (Both (Both (Both (Unit {0}) Name) (Unit {0})) Denoter) (Both (Both (Option Name) (Option Name)) (Unit {0})))
PropertyParts = Then TypedProperty (Then SomeAccessors (Stands mark.Semicolon))

accessor_out : (word : List ℕ) (d : ℕ) (n : Option Name) {ks r : List Terminal} → SomeAccessor word d n ks r → IsAccessor (map to_ascii_lowercase word) n ks r
accessor_out word d None {ks = ks} f = subst (λ z. IsAccessor (map to_ascii_lowercase word) None ks z) f.0 has_no_accessor
accessor_out word d (Some n) f = f

write_in : (d : ℕ) {n : Option Name} {u : Position} {ks r : List Terminal} → IsAccessor (codes "write") n ks (kind.Semicolon at u ∷ r) → SomeAccessor (codes "write") d n ks (kind.Semicolon at u ∷ r)
write_in d has_no_accessor = (refl, refl)
write_in d (has_accessor w f) = has_accessor w f

no_read : {n : Option Name} {u : Position} {ks r : List Terminal} → IsAccessor (codes "write") n ks (kind.Semicolon at u ∷ r) → IsNot (is_word (codes "read")) ks
no_read has_no_accessor = refl
no_read (has_accessor w f) = subst (λ z. bytes_eq z (codes "read") ≡ false) (sym w) refl

read_in : (d : ℕ) {n n' : Option Name} {u : Position} {ks m r : List Terminal} → IsAccessor (codes "read") n ks m → IsAccessor (codes "write") n' m (kind.Semicolon at u ∷ r) → SomeAccessor (codes "read") d n ks m
read_in d has_no_accessor g = (refl, no_read g)
read_in d (has_accessor w f) g = has_accessor w f

pub property_of_parts : {d : ℕ} {n : Name} {t : Denoter} {read write : Option Name} {ks r : List Terminal} → PropertyParts d (both (both (both (both tt n) tt) t) (both (both read write) tt)) ks r → IsProperty d (record { name = n; denoter = t; read = read; write = write }) ks r
property_of_parts {d = d} {read = read} {write = write} (then_ (then_ (then_ (then_ stands f) stands) t) (then_ (then_ a b) stands)) = is_property f t.0 (accessor_out (codes "read") d read a) (accessor_out (codes "write") d write b)

pub made_property : As PropertyParts IsProperty
made_property d x ks r (is_property {n = n} {t = t} {read = read} {write = write} f g a b) = (both (both (both (both tt n) tt) t) (both (both read write) tt), then_ (then_ (then_ (then_ stands f) stands) (g, accessor_stops a (accessor_stops b (record { operator = refl; selector = refl; range = refl })))) (then_ (then_ (read_in d a b) (write_in d b)) stands), λ i ls s x. property_of_parts x)

pub known_property : Known IsProperty
known_property = known_as made_property (known_then (known_then (known_then (known_then (known_stands mark.Property) known_name) (known_stands mark.Colon)) known_denoter) (known_then known_accessors (known_stands mark.Semicolon)))
