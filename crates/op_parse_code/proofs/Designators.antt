-- Designators: a root and what is selected of it.
use Rattle.std.proofs.Common.{◌≡◌, ℕ, suc, true, List, [], ◌∷◌, ◌++◌, refl, sym, ap, ◌∙◌, subst, arith}
use Rattle.op_base.specs.declared.place.Place.{Place}
use Rattle.op_parse_code.proofs.Cuts.{same_not}
use Rattle.op_parse_code.proofs.ExpressionKnown.{known_chain, known_root, known_selector}
use Rattle.op_parse_code.proofs.Factors.{same_begins}
use Rattle.op_parse_code.proofs.Fitting.{fits_chain, fits_root, fits_selector, a_name, name_alone}
use Rattle.op_parse_code.proofs.Living.{Sample, Any, alive_here, hands_as, hands_behind, hands_inside, hands_first}
use Rattle.op_parse_code.proofs.Refusing.{Some_, Seq, HandsOn, refuses_map, refuses_first, refuses_after, refuses_behind, refuses_inside, dead_here}
use Rattle.op_parse_code.specs.Opening.{is_identifier}
use Rattle.op_parse_code.specs.Refusal.{SameHead, Refuses, syntax, nested, decides_there, refused_at}
use Rattle.op_parse_code.specs.Whole.{Chain, Marked, SomeName, SomeDesignator, SomeSelectors, IndicesBefore, InsideCall, no_arguments_inside, arguments_inside}
use Rattle.op_parse_code.specs.declared.error.ParseError.{ParseError}
use Rattle.op_parse_code.specs.declared.mark.Mark.TheVariants as mark
use Rattle.op_scan.specs.declared.token.TokenKind.{TokenKind}
use Rattle.op_scan.specs.declared.token.TokenKind.TheVariants as kind
use Rattle.op_tree.proofs.ExpressionUnique.{Begins, stop, true_false, false_true}
use Rattle.op_tree.proofs.StatementUnique.{both}
use Rattle.op_tree.specs.Ends.{IsNot, Stops, begins_designator, begins_selector}
use Rattle.op_tree.specs.Expression.{Expression, Designator, designator, Root, named, string, bracketed, Selectors, no_selectors, selectors, Selector, member, index, call, Expressions, no_expressions, expressions, Arguments, no_arguments, selector_of}
use Rattle.op_tree.specs.ExpressionGrammar.{IsChain, IsRoot, is_named, is_string, is_bracketed, is_designator, are_no_selectors, are_selectors, IsSelector, is_member, is_index, is_empty_call, is_call, are_one_expression}
use Rattle.op_tree.specs.NameGrammar.{IsName, is_name}
use Rattle.op_tree.specs.Statement.{selectors_of}
use Rattle.op_tree.specs.Terminal.{Terminal, ◌at◌}
use Rattle.op_tree.specs.declared.expression.Selector.{Selector as RustSelector}
use Rattle.op_tree.specs.declared.operator.Level.TheVariants.{Relational}
use Rattle.op_tree.specs.declared.position.Name.{Name}
use Rattle.op_tree.specs.declared.position.Position.{Position}

-- ---- a designator

into_designator : (d : ℕ) (g : Designator) (ks r : List Terminal) → SomeDesignator d g ks r → Some_ (Seq IsRoot SomeSelectors) d ks
into_designator d g ks r (is_designator {root = root} {ss = ss} {m = m} f h, t) = ((root, ss), r, (m, f, (h, t)))

pub designator_whole : (d : ℕ) (root : Root) (ss : Selectors) (ks m r : List Terminal) → IsRoot d root ks m → SomeSelectors d ss m r → SomeDesignator d (designator root ss) ks r
designator_whole d root ss ks m r f (h, t) = (is_designator f h, t)

out_of_designator : (d : ℕ) (ks : List Terminal) → HandsOn (Seq IsRoot SomeSelectors) d ks SomeDesignator d ks
out_of_designator d ks = hands_as (Seq IsRoot SomeSelectors) SomeDesignator d ks (λ i y ls r s x. (designator y.0 y.1, designator_whole i y.0 y.1 ls x.0 r x.1 x.2))

no_more : Position → Sample SomeSelectors Any
no_more p = record { tokens = []; behind = []; part = no_selectors; stands = λ i. (are_no_selectors, tt); fits = tt }

pub designator_root : (d : ℕ) (end : Place) (ks : List Terminal) (e : ParseError) → Refuses IsRoot d end ks e → Refuses SomeDesignator d end ks e
designator_root d end ks e h = refuses_map (Seq IsRoot SomeSelectors) SomeDesignator d end ks e (λ d' b ls r s x. into_designator d' b ls r x) (out_of_designator d ks) (refuses_first IsRoot SomeSelectors d end ks e (hands_first IsRoot SomeSelectors Any d ks fits_root no_more) h)

pub designator_selectors : (d : ℕ) (end : Place) (root : Root) (ks m : List Terminal) (e : ParseError) → IsRoot d root ks m → Refuses SomeSelectors d end m e → Refuses SomeDesignator d end ks e
designator_selectors d end root ks m e f h = refuses_map (Seq IsRoot SomeSelectors) SomeDesignator d end ks e (λ d' b ls r s x. into_designator d' b ls r x) (out_of_designator d ks) (refuses_after IsRoot SomeSelectors d end root ks m e known_root f h)

-- ---- a root

root_begins : {d : ℕ} {g : Root} {ks r : List Terminal} → IsRoot d g ks r → Begins begins_designator ks
root_begins is_named = refl
root_begins is_string = refl
root_begins (is_bracketed f) = refl

pub root_none : (d : ℕ) (end : Place) (ks : List Terminal) (e : ParseError) → IsNot begins_designator ks → e ≡ refused_at 9 0 end ks → Refuses IsRoot d end ks e
root_none d end ks e h x = syntax ks x (λ d'. dead_here (IsRoot d') ks (λ a ls r s f. both begins_designator ls (root_begins f) (same_not begins_designator ks ls s h)))

pub root_name : (d : ℕ) (n : Name) (ks r : List Terminal) → IsName n ks r → IsRoot d (named n) ks r
root_name d n ks r is_name = is_named

into_name : (d : ℕ) (g : Root) (ls r : List Terminal) → Begins is_identifier ls → IsRoot d g ls r → Some_ SomeName d ls
into_name d (named n) ls r b is_named = (n, r, is_name)
into_name d g ls r b is_string = false_true b
into_name d g ls r b (is_bracketed f) = false_true b

pub root_misses_name : (d : ℕ) (end : Place) (ks : List Terminal) (e : ParseError) → Begins is_identifier ks → Refuses SomeName d end ks e → Refuses IsRoot d end ks e
root_misses_name d end ks e b h = refuses_map SomeName IsRoot d end ks e (λ d' a ls r s x. into_name d' a ls r (same_begins is_identifier ks ls s b) x) (hands_as SomeName IsRoot d ks (λ i n ls r s f. (named n, root_name i n ls r f))) h

pub root_string : (d : ℕ) (k : TokenKind) (p : Position) (r : List Terminal) → k ≡ kind.String → IsRoot d (string p) (k at p ∷ r) r
root_string d k p r h = subst (λ z. IsRoot d (string p) (z at p ∷ r) r) (sym h) is_string

no_bracket : {A : Type 0} (g : Root) (p : Position) (ls r : List Terminal) → IsRoot 0 g (kind.OpenParenthesis at p ∷ ls) r → A
no_bracket g p ls r h = elim h [ ]

no_bracket_so : (k : TokenKind) (p : Position) (ks : List Terminal) → k ≡ kind.OpenParenthesis → (g : Root) (ls r : List Terminal) → SameHead (k at p ∷ ks) ls → IsRoot 0 g ls r → ⊥
no_bracket_so k p ks h g [] r s f = absurd s
no_bracket_so k p ks h g (t ∷ ls) r s f = no_bracket g p ls r (subst (λ z. IsRoot 0 g (z ∷ ls) r) (sym s ∙ ap (λ z. z at p) h) f)

pub bracket_too_deep : (d : ℕ) (end : Place) (k : TokenKind) (p : Position) (r : List Terminal) (e : ParseError) → k ≡ kind.OpenParenthesis → d ≡ 0 → e ≡ refused_at 61 0 end (k at p ∷ r) → Refuses IsRoot d end (k at p ∷ r) e
bracket_too_deep d end k p r e h z x = subst (λ (w : ℕ). Refuses IsRoot w end (k at p ∷ r) e) (sym z) (nested (k at p ∷ r) (k at p ∷ r) (k at p ∷ r) x decides_there (dead_here (IsRoot 0) (k at p ∷ r) (no_bracket_so k p r h)) decides_there (alive_here IsRoot 0 1 (k at p) r (kind.Identifier [] at p ∷ kind.CloseParenthesis at p ∷ []) [] (bracketed p (a_name p)) (omega arith) (subst (λ z. IsRoot 1 (bracketed p (a_name p)) (z at p ∷ kind.Identifier [] at p ∷ kind.CloseParenthesis at p ∷ []) []) (sym h) (is_bracketed (name_alone 0 p (kind.CloseParenthesis at p ∷ []))))))

into_bracket : (p : Position) (d : ℕ) (g : Root) (ls r : List Terminal) → IsRoot d g (kind.OpenParenthesis at p ∷ ls) r → (i : ℕ) × (d ≡ suc i) × Some_ (Seq (Chain Relational) (Marked mark.CloseParenthesis)) i ls
into_bracket p d g ls r (is_bracketed {d = i} {q = q} {e = e} f) = (i, refl, ((e, q), r, (kind.CloseParenthesis at q ∷ r, (f, stop e _ (refl, refl)), refl)))

out_of_bracket : (i : ℕ) (p : Position) (ks : List Terminal) → HandsOn (Seq (Chain Relational) (Marked mark.CloseParenthesis)) i ks IsRoot (suc i) (kind.OpenParenthesis at p ∷ ks)
out_of_bracket i p ks = hands_inside (Seq (Chain Relational) (Marked mark.CloseParenthesis)) IsRoot i (kind.OpenParenthesis at p) ks (λ n y ls r x. (bracketed p y.0, is_bracketed {q = y.1} (subst (λ z. IsChain Relational n y.0 ls z) x.2 x.1.0)))

close_it : Position → Sample (Marked mark.CloseParenthesis) Stops
close_it p = record { tokens = kind.CloseParenthesis at p ∷ []; behind = []; part = p; stands = λ i. refl; fits = (refl, refl) }

bracket_inside : (d i : ℕ) (end : Place) (k : TokenKind) (p : Position) (ks : List Terminal) (e : ParseError) → k ≡ kind.OpenParenthesis → d ≡ suc i → Refuses (Seq (Chain Relational) (Marked mark.CloseParenthesis)) i end ks e → Refuses IsRoot d end (k at p ∷ ks) e
bracket_inside d i end k p ks e h z x = subst (λ (w : ℕ). Refuses IsRoot w end (k at p ∷ ks) e) (sym z) (subst (λ w. Refuses IsRoot (suc i) end (w at p ∷ ks) e) (sym h) (refuses_inside (Seq (Chain Relational) (Marked mark.CloseParenthesis)) IsRoot i end (kind.OpenParenthesis at p) ks e (into_bracket p) (out_of_bracket i p ks) x))

pub bracket_expression : (d i : ℕ) (end : Place) (k : TokenKind) (p : Position) (ks : List Terminal) (e : ParseError) → k ≡ kind.OpenParenthesis → d ≡ suc i → Refuses (Chain Relational) i end ks e → Refuses IsRoot d end (k at p ∷ ks) e
bracket_expression d i end k p ks e h z x = bracket_inside d i end k p ks e h z (refuses_first (Chain Relational) (Marked mark.CloseParenthesis) i end ks e (hands_first (Chain Relational) (Marked mark.CloseParenthesis) Stops i ks (fits_chain Relational) close_it) x)

pub bracket_open : (d i : ℕ) (end : Place) (k : TokenKind) (p : Position) (a : Expression) (ks m : List Terminal) (e : ParseError) → k ≡ kind.OpenParenthesis → d ≡ suc i → Chain Relational i a ks m → Refuses (Marked mark.CloseParenthesis) i end m e → Refuses IsRoot d end (k at p ∷ ks) e
bracket_open d i end k p a ks m e h z f x = bracket_inside d i end k p ks e h z (refuses_after (Chain Relational) (Marked mark.CloseParenthesis) i end a ks m e (known_chain Relational) f x)

pub root_bracket : (d i : ℕ) (k : TokenKind) (p q : Position) (a : Expression) (ks m r : List Terminal) → k ≡ kind.OpenParenthesis → d ≡ suc i → Chain Relational i a ks m → m ≡ kind.CloseParenthesis at q ∷ r → IsRoot d (bracketed p a) (k at p ∷ ks) r
root_bracket d i k p q a ks m r h z f c = subst (λ (w : ℕ). IsRoot w (bracketed p a) (k at p ∷ ks) r) (sym z) (subst (λ w. IsRoot (suc i) (bracketed p a) (w at p ∷ ks) r) (sym h) (is_bracketed {q = q} (subst (λ w. IsChain Relational i a ks w) c f.0)))

-- ---- selectors

abbrev pub selectors_before : List RustSelector → Selectors → Selectors
selectors_before [] more = more
selectors_before (x ∷ xs) more = selectors (selector_of x) (selectors_before xs more)

before_none : (xs : List RustSelector) → selectors_before xs no_selectors ≡ selectors_of xs
before_none [] = refl
before_none (x ∷ xs) = ap (selectors (selector_of x)) (before_none xs)

before_push : (xs : List RustSelector) (x : RustSelector) (more : Selectors) → selectors_before (xs ++ (x ∷ [])) more ≡ selectors_before xs (selectors (selector_of x) more)
before_push [] x more = refl
before_push (y ∷ xs) x more = ap (selectors (selector_of y)) (before_push xs x more)

-- the selectors that are read so far, and what is left
pub record Selecting (d : ℕ) (end : Place) (all : List Terminal) (xs : List RustSelector) (rest : List Terminal) : Type 0 where
  pub completes : (more : Selectors) (r : List Terminal) → SomeSelectors d more rest r → SomeSelectors d (selectors_before xs more) all r
  pub dies : (e : ParseError) → Refuses SomeSelectors d end rest e → Refuses SomeSelectors d end all e

selector_stands : {d : ℕ} {s : Selector} {ks r : List Terminal} → IsSelector d s ks r → Begins begins_selector ks
selector_stands is_member = refl
selector_stands (is_index f) = refl
selector_stands is_empty_call = refl
selector_stands (is_call f) = refl

into_selectors : (d : ℕ) (b : Selectors) (ls r : List Terminal) → Begins begins_selector ls → SomeSelectors d b ls r → Some_ (Seq IsSelector SomeSelectors) d ls
into_selectors d b ls r h (are_no_selectors, n) = both begins_selector ls h n
into_selectors d b ls r h (are_selectors {s = s} {ss = ss} {m = m} f g, n) = ((s, ss), r, (m, f, (g, n)))

pub selecting_more : (d : ℕ) (end : Place) (all rest m : List Terminal) (xs : List RustSelector) (x : RustSelector) → Selecting d end all xs rest → IsSelector d (selector_of x) rest m → Selecting d end all (xs ++ (x ∷ [])) m
selecting_more d end all rest m xs x so_far f = record {
  completes = λ more r g. subst (λ z. SomeSelectors d z all r) (sym (before_push xs x more)) (so_far.completes _ r (are_selectors f g.0, g.1));
  dies = λ e g. so_far.dies e (refuses_map (Seq IsSelector SomeSelectors) SomeSelectors d end rest e (λ d' b ls r s y. into_selectors d' b ls r (same_begins begins_selector rest ls s (selector_stands f)) y) (hands_as (Seq IsSelector SomeSelectors) SomeSelectors d rest (λ i b ls r s y. (selectors b.0 b.1, (are_selectors y.1 y.2.0, y.2.1)))) (refuses_after IsSelector SomeSelectors d end (selector_of x) rest m e known_selector f g));
}

pub selecting_ends : (d : ℕ) (end : Place) (all rest : List Terminal) (xs : List RustSelector) → Selecting d end all xs rest → IsNot begins_selector rest → SomeSelectors d (selectors_of xs) all rest
selecting_ends d end all rest xs so_far n = subst (λ z. SomeSelectors d z all rest) (before_none xs) (so_far.completes no_selectors rest (are_no_selectors, n))

-- ---- one selector

into_member : (p : Position) (d : ℕ) (b : Selectors) (ls r : List Terminal) → SomeSelectors d b (kind.Dot at p ∷ ls) r → Some_ SomeName d ls
into_member p d b ls r (are_no_selectors, n) = true_false n
into_member p d b ls r (are_selectors (is_member) g, n) = (_, _, is_name)

with_none : (d : ℕ) (ks : List Terminal) → HandsOn IsSelector d ks SomeSelectors d ks
with_none d ks q x = hands_as (Seq IsSelector SomeSelectors) SomeSelectors d ks (λ i b ls r s y. (selectors b.0 b.1, (are_selectors y.1 y.2.0, y.2.1))) q (hands_first IsSelector SomeSelectors Any d ks fits_selector no_more q x)

member_at : (d : ℕ) (p : Position) (n : Name) (ks r : List Terminal) → IsName n ks r → IsSelector d (member n) (kind.Dot at p ∷ ks) r
member_at d p n ks r is_name = is_member

out_of_member : (d : ℕ) (p : Position) (ks : List Terminal) → HandsOn SomeName d ks SomeSelectors d (kind.Dot at p ∷ ks)
out_of_member d p ks q x = with_none d (kind.Dot at p ∷ ks) q (hands_behind SomeName IsSelector d (kind.Dot at p) ks (λ i n ls r f. (member n, member_at i p n ls r f)) q x)

pub member_refuses : (d : ℕ) (end : Place) (k : TokenKind) (p : Position) (ks : List Terminal) (e : ParseError) → k ≡ kind.Dot → Refuses SomeName d end ks e → Refuses SomeSelectors d end (k at p ∷ ks) e
member_refuses d end k p ks e h x = subst (λ w. Refuses SomeSelectors d end (w at p ∷ ks) e) (sym h) (refuses_behind SomeName SomeSelectors d end (kind.Dot at p) ks e (into_member p) (out_of_member d p ks) x)

pub selector_member : (d : ℕ) (k : TokenKind) (p : Position) (n : Name) (ks r : List Terminal) → k ≡ kind.Dot → IsName n ks r → IsSelector d (member n) (k at p ∷ ks) r
selector_member d k p n ks r h f = subst (λ w. IsSelector d (member n) (w at p ∷ ks) r) (sym h) (member_at d p n ks r f)

no_index : {A : Type 0} (b : Selector) (p : Position) (ls r : List Terminal) → IsSelector 0 b (kind.OpenBracket at p ∷ ls) r → A
no_index b p ls r h = elim h [ ]

no_call : {A : Type 0} (b : Selector) (p : Position) (ls r : List Terminal) → IsSelector 0 b (kind.OpenParenthesis at p ∷ ls) r → A
no_call b p ls r h = elim h [ ]

no_selector_here : (t : Terminal) (ks : List Terminal) → begins_selector t.kind ≡ true → ((b : Selector) (ls r : List Terminal) → IsSelector 0 b (t ∷ ls) r → ⊥) → (b : Selectors) (ls r : List Terminal) → SameHead (t ∷ ks) ls → SomeSelectors 0 b ls r → ⊥
no_selector_here t ks h none b [] r s f = absurd s
no_selector_here t ks h none b (u ∷ ls) r s f = let g = into_selectors 0 b (u ∷ ls) r (subst (λ (z : Terminal). begins_selector z.kind ≡ true) s h) f in none g.0.0 ls g.2.0 (subst (λ z. IsSelector 0 g.0.0 (z ∷ ls) g.2.0) (sym s) g.2.1)

pub index_too_deep : (d : ℕ) (end : Place) (k : TokenKind) (p : Position) (r : List Terminal) (e : ParseError) → k ≡ kind.OpenBracket → d ≡ 0 → e ≡ refused_at 61 0 end (k at p ∷ r) → Refuses SomeSelectors d end (k at p ∷ r) e
index_too_deep d end k p r e h z x = subst (λ (w : ℕ). Refuses SomeSelectors w end (k at p ∷ r) e) (sym z) (nested (k at p ∷ r) (k at p ∷ r) (k at p ∷ r) x decides_there (dead_here (SomeSelectors 0) (k at p ∷ r) (no_selector_here (k at p) r (ap begins_selector h) (λ b ls r1 f. no_index b p ls r1 (subst (λ w. IsSelector 0 b (w at p ∷ ls) r1) h f)))) decides_there (alive_here (SomeSelectors) 0 1 (k at p) r (kind.Identifier [] at p ∷ kind.CloseBracket at p ∷ []) [] (selectors (index p (expressions (a_name p) no_expressions)) no_selectors) (omega arith) (are_selectors (subst (λ z. IsSelector 1 (index p (expressions (a_name p) no_expressions)) (z at p ∷ kind.Identifier [] at p ∷ kind.CloseBracket at p ∷ []) []) (sym h) (is_index (are_one_expression (name_alone 0 p (kind.CloseBracket at p ∷ []))))) are_no_selectors, tt)))

pub call_too_deep : (d : ℕ) (end : Place) (k : TokenKind) (p : Position) (r : List Terminal) (e : ParseError) → k ≡ kind.OpenParenthesis → d ≡ 0 → e ≡ refused_at 61 0 end (k at p ∷ r) → Refuses SomeSelectors d end (k at p ∷ r) e
call_too_deep d end k p r e h z x = subst (λ (w : ℕ). Refuses SomeSelectors w end (k at p ∷ r) e) (sym z) (nested (k at p ∷ r) (k at p ∷ r) (k at p ∷ r) x decides_there (dead_here (SomeSelectors 0) (k at p ∷ r) (no_selector_here (k at p) r (ap begins_selector h) (λ b ls r1 f. no_call b p ls r1 (subst (λ w. IsSelector 0 b (w at p ∷ ls) r1) h f)))) decides_there (alive_here (SomeSelectors) 0 1 (k at p) r (kind.CloseParenthesis at p ∷ []) [] (selectors (call no_arguments) no_selectors) (omega arith) (are_selectors (subst (λ z. IsSelector 1 (call no_arguments) (z at p ∷ kind.CloseParenthesis at p ∷ []) []) (sym h) is_empty_call) are_no_selectors, tt)))

into_index : (p : Position) (d : ℕ) (b : Selectors) (ls r : List Terminal) → SomeSelectors d b (kind.OpenBracket at p ∷ ls) r → (i : ℕ) × (d ≡ suc i) × Some_ IndicesBefore i ls
into_index p d b ls r (are_no_selectors, n) = true_false n
into_index p d b ls r (are_selectors {m = m} (is_index {d = i} {q = q} {es = es} f) g, n) = (i, refl, (es, m, (q, f)))

out_of_index : (i : ℕ) (p : Position) (ks : List Terminal) → HandsOn IndicesBefore i ks SomeSelectors (suc i) (kind.OpenBracket at p ∷ ks)
out_of_index i p ks q x = with_none (suc i) (kind.OpenBracket at p ∷ ks) q (hands_inside IndicesBefore IsSelector i (kind.OpenBracket at p) ks (λ n es ls r f. (index p es, is_index f.1)) q x)

pub index_refuses : (d i : ℕ) (end : Place) (k : TokenKind) (p : Position) (ks : List Terminal) (e : ParseError) → k ≡ kind.OpenBracket → d ≡ suc i → Refuses IndicesBefore i end ks e → Refuses SomeSelectors d end (k at p ∷ ks) e
index_refuses d i end k p ks e h z x = subst (λ (w : ℕ). Refuses SomeSelectors w end (k at p ∷ ks) e) (sym z) (subst (λ w. Refuses SomeSelectors (suc i) end (w at p ∷ ks) e) (sym h) (refuses_inside IndicesBefore SomeSelectors i end (kind.OpenBracket at p) ks e (into_index p) (out_of_index i p ks) x))

pub selector_index : (d i : ℕ) (k : TokenKind) (p : Position) (es : Expressions) (ks r : List Terminal) → k ≡ kind.OpenBracket → d ≡ suc i → IndicesBefore i es ks r → IsSelector d (index p es) (k at p ∷ ks) r
selector_index d i k p es ks r h z f = subst (λ (w : ℕ). IsSelector w (index p es) (k at p ∷ ks) r) (sym z) (subst (λ w. IsSelector (suc i) (index p es) (w at p ∷ ks) r) (sym h) (is_index f.1))

into_call : (p : Position) (d : ℕ) (b : Selectors) (ls r : List Terminal) → SomeSelectors d b (kind.OpenParenthesis at p ∷ ls) r → (i : ℕ) × (d ≡ suc i) × Some_ InsideCall i ls
into_call p d b ls r (are_no_selectors, n) = true_false n
into_call p d b ls r (are_selectors {m = m} (is_empty_call {d = i}) g, n) = (i, refl, (no_arguments, m, no_arguments_inside))
into_call p d b ls r (are_selectors {m = m} (is_call {d = i} {q = q} {args = args} f) g, n) = (i, refl, (args, m, arguments_inside (q, f)))

call_at : (i : ℕ) (p : Position) (args : Arguments) (ks r : List Terminal) → InsideCall i args ks r → IsSelector (suc i) (call args) (kind.OpenParenthesis at p ∷ ks) r
call_at i p args ks r no_arguments_inside = is_empty_call
call_at i p args ks r (arguments_inside f) = is_call f.1

out_of_call : (i : ℕ) (p : Position) (ks : List Terminal) → HandsOn InsideCall i ks SomeSelectors (suc i) (kind.OpenParenthesis at p ∷ ks)
out_of_call i p ks q x = with_none (suc i) (kind.OpenParenthesis at p ∷ ks) q (hands_inside InsideCall IsSelector i (kind.OpenParenthesis at p) ks (λ n args ls r f. (call args, call_at n p args ls r f)) q x)

pub call_refuses : (d i : ℕ) (end : Place) (k : TokenKind) (p : Position) (ks : List Terminal) (e : ParseError) → k ≡ kind.OpenParenthesis → d ≡ suc i → Refuses InsideCall i end ks e → Refuses SomeSelectors d end (k at p ∷ ks) e
call_refuses d i end k p ks e h z x = subst (λ (w : ℕ). Refuses SomeSelectors w end (k at p ∷ ks) e) (sym z) (subst (λ w. Refuses SomeSelectors (suc i) end (w at p ∷ ks) e) (sym h) (refuses_inside InsideCall SomeSelectors i end (kind.OpenParenthesis at p) ks e (into_call p) (out_of_call i p ks) x))

pub selector_call : (d i : ℕ) (k : TokenKind) (p : Position) (args : Arguments) (ks r : List Terminal) → k ≡ kind.OpenParenthesis → d ≡ suc i → InsideCall i args ks r → IsSelector d (call args) (k at p ∷ ks) r
selector_call d i k p args ks r h z f = subst (λ (w : ℕ). IsSelector w (call args) (k at p ∷ ks) r) (sym z) (subst (λ w. IsSelector (suc i) (call args) (w at p ∷ ks) r) (sym h) (call_at i p args ks r f))
