-- Refusals of properties and interfaces, and the forms that show there.
use Rattle.std.proofs.Common.{◌≡◌, ℕ, Bool, true, false, List, [], ◌∷◌, Option, Some, None, codes, map, refl, sym, ap, ◌∙◌, subst}
use Rattle.std.specs.Char.{to_ascii_lowercase}
use Rattle.op_base.specs.declared.place.Place.{Place}
use Rattle.op_parse_code.proofs.Cuts.{same_not}
use Rattle.op_parse_code.proofs.Names.{word_kind}
use Rattle.op_parse_code.proofs.Refusing.{Some_, dead_here, no_mark_refuses}
use Rattle.op_parse_decl.specs.Form.{Form, HasForm, is_array_property, is_indexed_property, is_interface_property, is_descendant_property}
use Rattle.op_parse_code.specs.Opening.{is_word, spelled}
use Rattle.op_parse_code.specs.Refusal.{Refuses, syntax, refused_at}
use Rattle.op_parse_decl.proofs.Combining.{first, mark_refused}
use Rattle.op_parse_decl.proofs.Refusals.{flat_name, refuses_behind, refuses_part}
use Rattle.op_parse_decl.specs.Begun.{ThenBegun}
use Rattle.op_parse_decl.specs.Refusal.{Never, RefusesParts, by_grammar}
use Rattle.op_parse_code.specs.Whole.{SomeName}
use Rattle.op_parse_code.specs.declared.error.ParseError.{ParseError}
use Rattle.op_parse_code.specs.declared.mark.Mark.TheVariants as mark
use Rattle.op_parse_decl.specs.Combined.{both, Stands, stands, Then, then_, Repeats, TellsBehind}
use Rattle.op_parse_decl.specs.Declarations.{WholeMethod}
use Rattle.op_parse_decl.specs.InterfaceParts.{identifier_out, methods_out}
use Rattle.op_parse_decl.specs.Interfaces.{is_literal, IsLiteral, literal, no_ancestor, an_ancestor, SomeInterfaceHead, some_head}
use Rattle.op_parse_decl.specs.Properties.{SomeAccessor, NamedProperty, TypedProperty}
use Rattle.op_scan.specs.declared.token.TokenKind.{TokenKind}
use Rattle.op_scan.specs.declared.token.TokenKind.TheVariants as kind
use Rattle.op_tree.proofs.ExpressionUnique.{Begins, true_false}
use Rattle.op_tree.proofs.MethodUnique.{begins_heading}
use Rattle.op_tree.proofs.StatementUnique.{both as apart, differ}
use Rattle.op_tree.specs.Declaration.{Method}
use Rattle.op_tree.specs.DenoterGrammar.{IsDenoter}
use Rattle.op_tree.specs.Ends.{IsNot}
use Rattle.op_tree.specs.HeadingGrammar.{AreMethods, IsAccessor, has_accessor}
use Rattle.op_tree.specs.NameGrammar.{IsName, are_bracketed_names, are_one_name}
use Rattle.op_tree.specs.Terminal.{Terminal, ◌at◌}
use Rattle.op_tree.specs.declared.position.Name.{Name}
use Rattle.op_tree.specs.declared.position.Position.{Position}

-- ---- properties

pub array_property : {p : Position} {q r : List Terminal} → q ≡ kind.OpenBracket at p ∷ r → TellsBehind NamedProperty 20 q
array_property e d a ks (then_ {b = n} (stands {r = ls}) f) = ([], ks, refl, subst (λ z. Form 20 ks z z) (sym e) (is_array_property (subst (λ z. IsName n ls z) e f)))

pub indexed_property : {k : TokenKind} {p : Position} {q r : List Terminal} → q ≡ k at p ∷ r → is_word (codes "index") k ≡ true → TellsBehind TypedProperty 20 q
indexed_property {k = k} {p = p} {q = q} {r = r} e h d a ks (then_ {b = x} {m = m} (then_ (then_ stands f) stands) t) =
    let w = word_kind (codes "index") k h in
    let is : q ≡ kind.Identifier (spelled k) at p ∷ r = e ∙ ap (λ z. z at p ∷ r) w.0 in
    ([], ks, refl, subst (λ z. Form 20 ks z z) (sym is) (is_indexed_property w.1 f (subst (λ z. IsDenoter d x m z) is t.0)))

into_accessor : (word : List ℕ) (k : TokenKind) (p : Position) → is_word word k ≡ true → (d : ℕ) (n : Option Name) (ls r : List Terminal) → SomeAccessor word d n (k at p ∷ ls) r → Some_ SomeName d ls
into_accessor word k p h d None ls r (e, none) = true_false (sym h ∙ none)
into_accessor word k p h d (Some n) ls r (has_accessor w f) = (n, r, f)

pub accessor_refused : (word : List ℕ) (d : ℕ) (end : Place) (k : TokenKind) (p : Position) (ks : List Terminal) (e : ParseError) → is_word word k ≡ true → Refuses SomeName d end ks e → RefusesParts Never (SomeAccessor word) d end (k at p ∷ ks) e
accessor_refused word d end k p ks e h f = refuses_behind SomeName (SomeAccessor word) d end (k at p) ks e (into_accessor word k p h) (λ q x. absurd x) (refuses_part (flat_name f))

pub accessor_whole : (word : List ℕ) (d : ℕ) (k : TokenKind) (p : Position) (n : Name) (ks r : List Terminal) → is_word word k ≡ true → IsName n ks r → SomeAccessor word d (Some n) (k at p ∷ ks) r
accessor_whole word d k p n ks r h f =
    let w = word_kind word k h in
    subst (λ z. IsAccessor (map to_ascii_lowercase word) (Some n) (z at p ∷ ks) r) (sym w.0) (has_accessor w.1 f)

-- ---- interfaces

literal_begins : {d : ℕ} {text : List ℕ} {ks r : List Terminal} → IsLiteral d text ks r → Begins is_literal ks
literal_begins literal = refl

pub literal_refused : (d : ℕ) (end : Place) (ks : List Terminal) (e : ParseError) → IsNot is_literal ks → e ≡ refused_at 9 0 end ks → RefusesParts Never IsLiteral d end ks e
literal_refused d end ks e h x = by_grammar (syntax ks x (λ d'. dead_here (IsLiteral d') ks (λ text ls r s f. apart is_literal ls (literal_begins f) (same_not is_literal ks ls s h))))

pub literal_whole : (d : ℕ) (k : TokenKind) (p : Position) (ks : List Terminal) → is_literal k ≡ true → IsLiteral d (spelled k) (k at p ∷ ks) ks
literal_whole d (kind.CharacterString text) p ks h = literal
literal_whole d other p ks h = absurd cc

pub interface_property : {d : ℕ} {n : Option Name} {text : Option (List ℕ)} {as_ : List Method} {u : Position} {ks m q r : List Terminal} → SomeInterfaceHead d (both n text) ks m → Repeats begins_heading WholeMethod d as_ m q → q ≡ kind.Property at u ∷ r → HasForm 36 ks q q
interface_property {d = d} {as_ = as_} {ks = ks} {m = m} (some_head (no_ancestor none) i) a e = ([], ks, refl, subst (λ z. Form 36 ks z z) (sym e) (is_interface_property (identifier_out i) (subst (λ z. AreMethods d as_ m z) e (methods_out a))))
interface_property {d = d} {as_ = as_} {ks = ks} {m = m} (some_head (an_ancestor f) i) a e = ([], ks, refl, subst (λ z. Form 36 ks z z) (sym e) (is_descendant_property (are_bracketed_names (are_one_name f)) (identifier_out i) (subst (λ z. AreMethods d as_ m z) e (methods_out a))))

-- where a property stands, the interface does not end
abbrev is_end : TokenKind → Bool
is_end kind.End = true
is_end other = false

pub property_no_end : {d : ℕ} {end : Place} {u : Position} {q r : List Terminal} → q ≡ kind.Property at u ∷ r → RefusesParts (ThenBegun Never (Stands mark.End) Never) (Then (Stands mark.End) (Stands mark.Semicolon)) d end q (refused_at 9 0 end q)
property_no_end {d = d} {end = end} {q = q} e = first (mark_refused mark.End d end q (refused_at 9 0 end q) (no_mark_refuses mark.End d end q (refused_at 9 0 end q) (λ p z h. differ is_end (sym h ∙ e) refl refl) refl))
