-- Refusals of methods, and the directives behind a heading.
use Rattle.std.proofs.Common.{◌≡◌, ℕ, List, [], ◌∷◌, ◌++◌, append_assoc, Some, sym, ap, ◌∙◌, subst}
use Rattle.std.proofs.lemmas.List.{append-nil}
use Rattle.op_base.specs.declared.place.Place.{Place}
use Rattle.op_parse_code.proofs.Refusing.{Some_, Seq}
use Rattle.op_parse_decl.proofs.Opens.{opens_with}
use Rattle.op_parse_decl.proofs.Refusals.{refuses_map, refuses_first, refuses_after}
use Rattle.op_parse_decl.specs.Begun.{Anything, Opens}
use Rattle.op_parse_decl.specs.Refusal.{Never, RefusesParts}
use Rattle.op_parse_code.specs.declared.error.ParseError.{ParseError}
use Rattle.op_parse_decl.specs.HeadingParts.{known_heading}
use Rattle.op_parse_decl.specs.Headings.{SomeHeading, SomeDirectives, SomeMethod, IsDirective}
use Rattle.op_scan.specs.declared.token.TokenKind.{TokenKind}
use Rattle.op_scan.specs.declared.token.TokenKind.TheVariants as kind
use Rattle.op_tree.specs.Declaration.{Heading, Method}
use Rattle.op_tree.specs.Ends.{NoDirective}
use Rattle.op_tree.specs.HeadingGrammar.{directive_of, AreDirectives, are_no_directives, are_directives, is_method}
use Rattle.op_tree.specs.Terminal.{Terminal, ◌at◌}
use Rattle.op_tree.specs.declared.heading.Directive.{Directive}
use Rattle.op_tree.specs.declared.position.Position.{Position}

-- ---- directives

-- the directives that are read so far, and what is left
pub record Directing (all : List Terminal) (ws : List Directive) (rest : List Terminal) : Type 0 where
  pub completes : (more : List Directive) (r : List Terminal) → AreDirectives more rest r → AreDirectives (ws ++ more) all r

pub directing_more : (all rest m : List Terminal) (ws : List Directive) (w : Directive) → Directing all ws rest → IsDirective w rest m → Directing all (ws ++ (w ∷ [])) m
directing_more all rest m ws w so_far (are_directives e are_no_directives) = record {
  completes = λ more r f. subst (λ z. AreDirectives z all r) (sym (append_assoc ws (w ∷ []) more)) (so_far.completes (w ∷ more) r (are_directives e f));
}

pub directing_ends : (d : ℕ) (all rest : List Terminal) (ws : List Directive) → Directing all ws rest → NoDirective rest → SomeDirectives d ws all rest
directing_ends d all rest ws so_far none = (subst (λ z. AreDirectives z all rest) (append-nil ws) (so_far.completes [] rest are_no_directives), none)

-- ---- a method

into_method : (d : ℕ) (a : Method) (ls r : List Terminal) → SomeMethod d a ls r → Some_ (Seq SomeHeading SomeDirectives) d ls
into_method d a ls r (is_method {h = h} {ws = ws} {p = p} {m = m} f g, none) = ((h, ws), r, (m, (p, f), (g, none)))

pub method_heading : (d : ℕ) (end : Place) (ks : List Terminal) (e : ParseError) → RefusesParts (Opens Anything SomeHeading) SomeHeading d end ks e → RefusesParts (Opens NoDirective SomeMethod) SomeMethod d end ks e
method_heading d end ks e h = refuses_map {W = Opens NoDirective SomeMethod} (Seq SomeHeading SomeDirectives) SomeMethod d end ks e (λ d' b ls r s x. into_method d' b ls r x) (λ q x. x) (refuses_first SomeHeading SomeDirectives d end ks e (λ q x. opens_with (λ p. []) (λ p z c. tt) (λ i h p ls z s c f. (record { heading = h; directives = [] }, (is_method f.1 are_no_directives, c))) x) h)

pub method_directives : (d : ℕ) (end : Place) (h : Heading) (ks m : List Terminal) (e : ParseError) → SomeHeading d h ks m → RefusesParts Never SomeDirectives d end m e → RefusesParts (Opens NoDirective SomeMethod) SomeMethod d end ks e
method_directives d end h ks m e f g = refuses_map {W = Never} (Seq SomeHeading SomeDirectives) SomeMethod d end ks e (λ d' b ls r s x. into_method d' b ls r x) (λ q x. absurd x) (refuses_after SomeHeading SomeDirectives d end h ks m e known_heading f (λ q x. x) g)

pub method_whole : (d : ℕ) (h : Heading) (ws : List Directive) (ks m r : List Terminal) → SomeHeading d h ks m → SomeDirectives d ws m r → SomeMethod d (record { heading = h; directives = ws }) ks r
method_whole d h ws ks m r (p, f) (g, none) = (is_method f g, none)

pub directive_stands : (k : TokenKind) (word : List ℕ) (w : Directive) (p q : Position) (ks m r : List Terminal) → ks ≡ k at p ∷ m → k ≡ kind.Identifier word → m ≡ kind.Semicolon at q ∷ r → directive_of word ≡ Some w → IsDirective w ks r
directive_stands k word w p q ks m r e h e1 d = subst (λ z. IsDirective w z r) (sym (e ∙ ap (λ z. z at p ∷ m) h ∙ ap (λ z. kind.Identifier word at p ∷ z) e1)) (are_directives d are_no_directives)
