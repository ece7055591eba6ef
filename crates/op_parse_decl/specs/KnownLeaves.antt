-- Single tokens and directives: each stands whatever follows that begins so, and ends at one place.
use Rattle.std.proofs.Common.{◌≡◌, ℕ, suc, List, [], ◌∷◌, refl, subst}
use Rattle.op_parse_code.proofs.Cuts.{IsCut, cut_none, cut_one}
use Rattle.op_parse_code.proofs.Refusing.{Known}
use Rattle.op_parse_code.specs.Refusal.{SameHead}
use Rattle.op_parse_decl.specs.Declarations.{OneDirective, StandsHere, stands_here}
use Rattle.op_scan.specs.declared.token.TokenKind.TheVariants as kind
use Rattle.op_tree.specs.FileGrammar.{BeginAt}
use Rattle.op_tree.specs.HeadingGrammar.{are_directives, are_no_directives}
use Rattle.op_tree.specs.Terminal.{Terminal, ◌at◌}
use Rattle.op_tree.specs.declared.heading.Directive.{Directive}
use Rattle.op_tree.specs.declared.position.Position.{Position}

front_directive : (d : ℕ) (w : Directive) (ks r : List Terminal) → OneDirective d w ks r → (f : List Terminal → List Terminal) × IsCut f × (ks ≡ f r) × ((x : List Terminal) → SameHead r x → OneDirective d w (f x) x)
front_directive d w ks r (are_directives {word = word} {p = p} {q = q} e are_no_directives) = (λ x. kind.Identifier word at p ∷ kind.Semicolon at q ∷ x, cut_one (kind.Identifier word at p) (cut_one (kind.Semicolon at q) cut_none), refl, λ x h. are_directives e are_no_directives)

same_directive : (d d' : ℕ) (w w' : Directive) (ks r r' : List Terminal) → OneDirective d w ks r → OneDirective d' w' ks r' → r ≡ r'
same_directive d d' w w' ks r r' (are_directives e are_no_directives) (are_directives e' are_no_directives) = refl

deepens_directive : (d : ℕ) (w : Directive) (ks r : List Terminal) → OneDirective d w ks r → OneDirective (suc d) w ks r
deepens_directive d w ks r f = f

pub known_directive : Known OneDirective
known_directive = record { front = front_directive; same = same_directive; deepens = deepens_directive }

begin_at : (p : Position) (ks ls : List Terminal) → SameHead ks ls → BeginAt p ks → BeginAt p ls
begin_at p [] ls s h = absurd h
begin_at p (t ∷ ks) [] s h = absurd s
begin_at p (t ∷ ks) (u ∷ ls) s h = subst (λ (z : Terminal). z.position ≡ p) s h

front_here : (d : ℕ) (p : Position) (ks r : List Terminal) → StandsHere d p ks r → (f : List Terminal → List Terminal) × IsCut f × (ks ≡ f r) × ((x : List Terminal) → SameHead r x → StandsHere d p (f x) x)
front_here d p ks r (stands_here h) = (λ x. x, cut_none, refl, λ x s. stands_here (begin_at p ks x s h))

same_here : (d d' : ℕ) (p p' : Position) (ks r r' : List Terminal) → StandsHere d p ks r → StandsHere d' p' ks r' → r ≡ r'
same_here d d' p p' ks r r' (stands_here h) (stands_here h') = refl

deepens_here : (d : ℕ) (p : Position) (ks r : List Terminal) → StandsHere d p ks r → StandsHere (suc d) p ks r
deepens_here d p ks r (stands_here h) = stands_here h

pub known_here : Known StandsHere
known_here = record { front = front_here; same = same_here; deepens = deepens_here }
