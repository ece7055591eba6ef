-- Single tokens and directives: what is read, and what refuses them.
use Rattle.std.proofs.Common.{◌≡◌, ℕ, List, [], ◌∷◌, Some, is_some, length, arith, refl, sym, ap, subst}
use Rattle.op_base.specs.declared.place.Place.{Place}
use Rattle.op_parse_code.proofs.Cuts.{same_not}
use Rattle.op_parse_code.proofs.Refusing.{Some_, dead_here}
use Rattle.op_parse_code.specs.Refusal.{SameHead, Refuses, syntax, refused_at}
use Rattle.op_parse_decl.proofs.Refusals.{flat_mark, refuses_behind, refuses_part}
use Rattle.op_parse_decl.specs.Refusal.{Never, RefusesParts, by_grammar}
use Rattle.op_parse_code.specs.Whole.{Marked}
use Rattle.op_parse_code.specs.declared.error.ParseError.{ParseError}
use Rattle.op_parse_code.specs.declared.mark.Mark.TheVariants as mark
use Rattle.op_parse_decl.specs.Declarations.{OneDirective, StandsHere, stands_here, directive_at, is_directive}
use Rattle.op_scan.specs.declared.token.Token.{Token}
use Rattle.op_scan.specs.declared.token.TokenKind.{TokenKind}
use Rattle.op_scan.specs.declared.token.TokenKind.TheVariants as kind
use Rattle.op_tree.proofs.ExpressionUnique.{Begins}
use Rattle.op_tree.proofs.StatementUnique.{both}
use Rattle.op_tree.specs.Ends.{IsNot}
use Rattle.op_tree.specs.HeadingGrammar.{AreDirectives, are_directives, are_no_directives}
use Rattle.op_tree.specs.Terminal.{Terminal, ◌at◌, terminals}
use Rattle.op_tree.specs.declared.heading.Directive.{Directive}
use Rattle.op_tree.specs.declared.position.Position.{Position}

-- ---- directives

directive_begins : {w : Directive} {ws : List Directive} {ks r : List Terminal} → AreDirectives (w ∷ ws) ks r → Begins is_directive ks
directive_begins (are_directives e more) = ap is_some e

pub directive_none : {d : ℕ} {end : Place} {ks : List Terminal} {e : ParseError} → IsNot is_directive ks → e ≡ refused_at 9 0 end ks → RefusesParts Never OneDirective d end ks e
directive_none {ks = ks} n x = by_grammar (syntax ks x (λ d'. dead_here (OneDirective d') ks (λ w ls r s f. both is_directive ls (directive_begins f) (same_not is_directive ks ls s n))))

into_directive : (t : Terminal) (d : ℕ) (w : Directive) (ls r : List Terminal) → OneDirective d w (t ∷ ls) r → Some_ (Marked mark.Semicolon) d ls
into_directive t d w ls r (are_directives {q = q} e are_no_directives) = (q, r, refl)

pub directive_open : {d : ℕ} {end : Place} {t : Terminal} {ks : List Terminal} {e : ParseError} → Refuses (Marked mark.Semicolon) d end ks e → RefusesParts Never OneDirective d end (t ∷ ks) e
directive_open {d = d} {end = end} {t = t} {ks = ks} {e = e} h = refuses_behind (Marked mark.Semicolon) OneDirective d end t ks e (into_directive t) (λ q x. absurd x) (refuses_part (flat_mark mark.Semicolon h))

pub directive_whole : (k : TokenKind) {w : Directive} {p q : Position} {ks r : List Terminal} → directive_at k ≡ Some w → ks ≡ kind.Semicolon at q ∷ r → AreDirectives (w ∷ []) (k at p ∷ ks) r
directive_whole (kind.Identifier text) {w = w} {p = p} {r = r} h is = subst (λ z. AreDirectives (w ∷ []) (kind.Identifier text at p ∷ z) r) (sym is) (are_directives h are_no_directives)
directive_whole other h is = absurd cc

-- ---- where a token stands

none_here : (d : ℕ) (p : Position) (ls r : List Terminal) → SameHead [] ls → StandsHere d p ls r → ⊥
none_here d p [] r s (stands_here b) = b
none_here d p (u ∷ ls) r s f = s

pub here_none : {d : ℕ} {end : Place} (ts : List Token) {e : ParseError} → length ts ≡ 0 → e ≡ refused_at 9 0 end (terminals ts) → RefusesParts Never StandsHere d end (terminals ts) e
here_none [] h x = by_grammar (syntax [] x (λ d'. dead_here (StandsHere d') [] (none_here d')))
here_none (t ∷ ts) h x = absurd (omega (arith, h))
