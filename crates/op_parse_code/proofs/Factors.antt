-- Factors: what stands between two operators.
use Rattle.std.proofs.Common.{◌≡◌, ℕ, suc, Bool, true, List, [], ◌∷◌, Some, refl, sym, ap, ◌∙◌, subst, arith}
use Rattle.op_base.specs.declared.place.Place.{Place}
use Rattle.op_parse_code.proofs.Cuts.{same_not}
use Rattle.op_parse_code.proofs.Fitting.{factor_at}
use Rattle.op_parse_code.proofs.Living.{hands_counted, alive_here, hands_as, hands_behind, hands_inside}
use Rattle.op_parse_code.proofs.Refusing.{Some_, refuses_map, refuses_behind, refuses_inside, inside_any, dead_here}
use Rattle.op_parse_code.specs.Refusal.{SameHead, Refuses, syntax, nested, decides_there, refused_at}
use Rattle.op_parse_code.specs.Whole.{Factor, SomeDesignator, SomeSelectors, InsideSet, no_inside, some_inside, CannotEnter, begins_none, too_deep}
use Rattle.op_parse_code.specs.declared.error.ParseError.{ParseError}
use Rattle.op_scan.specs.declared.token.TokenKind.{TokenKind}
use Rattle.op_scan.specs.declared.token.TokenKind.TheVariants as kind
use Rattle.op_tree.proofs.ExpressionUnique.{Begins, designator_begins, factor_begins, prefix_is_no_designator, true_false, false_true}
use Rattle.op_tree.proofs.StatementUnique.{both}
use Rattle.op_tree.specs.Ends.{IsNot, begins_designator, begins_expression}
use Rattle.op_tree.specs.Expression.{Expression, prefixed, number, nil, set, literal, designated, inherited, Elements, no_elements, Designator, Selectors}
use Rattle.op_tree.specs.ExpressionGrammar.{is_prefixed, is_number, is_nil, is_empty_set, is_set, is_literal, is_designated, is_inherited}
use Rattle.op_tree.specs.Operator.{prefix_operator_of}
use Rattle.op_tree.specs.Terminal.{Terminal, ◌at◌}
use Rattle.op_tree.specs.declared.operator.PrefixOperator.{PrefixOperator}
use Rattle.op_tree.specs.declared.position.Position.{Position}

pub same_begins : (test : TokenKind → Bool) (ks ls : List Terminal) → SameHead ks ls → Begins test ks → Begins test ls
same_begins test [] ls s h = absurd h
same_begins test (t ∷ ks) [] s h = absurd s
same_begins test (t ∷ ks) (u ∷ ls) s h = subst (λ (z : Terminal). test z.kind ≡ true) s h

-- ---- no factor begins so

pub factor_none : (d : ℕ) (end : Place) (ks : List Terminal) (e : ParseError) → IsNot begins_expression ks → e ≡ refused_at 9 0 end ks → Refuses Factor d end ks e
factor_none d end ks e h x = syntax ks x (λ d'. dead_here (Factor d') ks (λ a ls r s f. both begins_expression ls (factor_begins f.0) (same_not begins_expression ks ls s h)))

pub cannot_enter : (end : Place) (ks : List Terminal) (e : ParseError) → IsNot begins_expression ks → e ≡ refused_at 9 0 end ks → CannotEnter end ks e
cannot_enter end ks e h x = begins_none x (λ d. dead_here (Factor d) ks (λ a ls r s f. both begins_expression ls (factor_begins f.0) (same_not begins_expression ks ls s h)))

pub operand_too_deep : (end : Place) (ks : List Terminal) (e : ParseError) → Begins begins_expression ks → e ≡ refused_at 61 0 end ks → CannotEnter end ks e
operand_too_deep end [] e b x = absurd b
operand_too_deep end (t ∷ ks) e b x = too_deep x (factor_at 0 t.kind t.position ks b)

-- ---- single tokens

pub factor_number : (d n : ℕ) (k : TokenKind) (p : Position) (r : List Terminal) → k ≡ kind.Number n → Factor d (number n p) (k at p ∷ r) r
factor_number d n k p r h = subst (λ z. Factor d (number n p) (z at p ∷ r) r) (sym h) (is_number, tt)

pub factor_nil : (d : ℕ) (k : TokenKind) (p : Position) (r : List Terminal) → k ≡ kind.Nil → Factor d (nil p) (k at p ∷ r) r
factor_nil d k p r h = subst (λ z. Factor d (nil p) (z at p ∷ r) r) (sym h) (is_nil, tt)

-- ---- sets

no_set : {A : Type 0} (e : Expression) (p : Position) (ls r : List Terminal) → Factor 0 e (kind.OpenBracket at p ∷ ls) r → A
no_set e p ls r (is_designated g, t) = false_true (designator_begins g)

no_set_so : (k : TokenKind) (p : Position) (ks : List Terminal) → k ≡ kind.OpenBracket → (e : Expression) (ls r : List Terminal) → SameHead (k at p ∷ ks) ls → Factor 0 e ls r → ⊥
no_set_so k p ks h e [] r s f = absurd s
no_set_so k p ks h e (t ∷ ls) r s f = no_set e p ls r (subst (λ z. Factor 0 e (z ∷ ls) r) (sym s ∙ ap (λ z. z at p) h) f)

into_set : (p : Position) (d : ℕ) (e : Expression) (ls r : List Terminal) → Factor d e (kind.OpenBracket at p ∷ ls) r → (i : ℕ) × (d ≡ suc i) × Some_ InsideSet i ls
into_set p d e ls r (is_prefixed h f, t) = absurd cc
into_set p (suc d) e ls r (is_empty_set, t) = (d, refl, (no_elements, r, no_inside))
into_set p (suc d) e ls r (is_set {q = q} {es = es} f, t) = (d, refl, (es, r, some_inside (q, f)))
into_set p d e ls r (is_designated g, t) = false_true (designator_begins g)

pub set_too_deep : (d : ℕ) (end : Place) (k : TokenKind) (p : Position) (r : List Terminal) (e : ParseError) → k ≡ kind.OpenBracket → d ≡ 0 → e ≡ refused_at 61 0 end (k at p ∷ r) → Refuses Factor d end (k at p ∷ r) e
set_too_deep d end k p r e h z x = subst (λ (w : ℕ). Refuses Factor w end (k at p ∷ r) e) (sym z) (nested (k at p ∷ r) (k at p ∷ r) (k at p ∷ r) x decides_there (dead_here (Factor 0) (k at p ∷ r) (no_set_so k p r h)) decides_there (alive_here Factor 0 1 (k at p) r (kind.CloseBracket at p ∷ []) [] (set p no_elements) (omega arith) (subst (λ z. Factor 1 (set p no_elements) (z at p ∷ kind.CloseBracket at p ∷ []) []) (sym h) (is_empty_set, tt))))

set_at : (i : ℕ) (p : Position) (es : Elements) (ks r : List Terminal) → InsideSet i es ks r → Factor (suc i) (set p es) (kind.OpenBracket at p ∷ ks) r
set_at i p es ks r no_inside = (is_empty_set, tt)
set_at i p es ks r (some_inside f) = (is_set f.1, tt)

pub set_refuses : (d i : ℕ) (end : Place) (k : TokenKind) (p : Position) (ks : List Terminal) (e : ParseError) → k ≡ kind.OpenBracket → d ≡ suc i → Refuses InsideSet i end ks e → Refuses Factor d end (k at p ∷ ks) e
set_refuses d i end k p ks e h z x = subst (λ (w : ℕ). Refuses Factor w end (k at p ∷ ks) e) (sym z) (subst (λ w. Refuses Factor (suc i) end (w at p ∷ ks) e) (sym h) (refuses_inside InsideSet Factor i end (kind.OpenBracket at p) ks e (into_set p) (hands_inside InsideSet Factor i (kind.OpenBracket at p) ks (λ n es ls r f. (set p es, set_at n p es ls r f))) x))

pub factor_set : (d i : ℕ) (k : TokenKind) (p : Position) (es : Elements) (ks r : List Terminal) → k ≡ kind.OpenBracket → d ≡ suc i → InsideSet i es ks r → Factor d (set p es) (k at p ∷ ks) r
factor_set d i k p es ks r h z f = subst (λ (w : ℕ). Factor w (set p es) (k at p ∷ ks) r) (sym z) (subst (λ w. Factor (suc i) (set p es) (w at p ∷ ks) r) (sym h) (set_at i p es ks r f))

-- ---- strings

into_literal : (text : List ℕ) (p : Position) (d : ℕ) (e : Expression) (ls r : List Terminal) → Factor d e (kind.CharacterString text at p ∷ ls) r → Some_ SomeSelectors d ls
into_literal text p d e ls r (is_prefixed h f, t) = absurd cc
into_literal text p d e ls r (is_literal {ss = ss} f, t) = (ss, r, (f, t))
into_literal text p d e ls r (is_designated g, t) = false_true (designator_begins g)

pub literal_refuses : (d : ℕ) (end : Place) (k : TokenKind) (text : List ℕ) (p : Position) (ks : List Terminal) (e : ParseError) → k ≡ kind.CharacterString text → Refuses SomeSelectors d end ks e → Refuses Factor d end (k at p ∷ ks) e
literal_refuses d end k text p ks e h x = subst (λ w. Refuses Factor d end (w at p ∷ ks) e) (sym h) (refuses_behind SomeSelectors Factor d end (kind.CharacterString text at p) ks e (into_literal text p) (hands_behind SomeSelectors Factor d (kind.CharacterString text at p) ks (λ i ss ls r f. (literal text p ss, (is_literal f.0, f.1)))) x)

pub factor_literal : (d : ℕ) (k : TokenKind) (text : List ℕ) (p : Position) (ss : Selectors) (ks r : List Terminal) → k ≡ kind.CharacterString text → SomeSelectors d ss ks r → Factor d (literal text p ss) (k at p ∷ ks) r
factor_literal d k text p ss ks r h f = subst (λ w. Factor d (literal text p ss) (w at p ∷ ks) r) (sym h) (is_literal f.0, f.1)

-- ---- inherited

into_inherited : (p : Position) (d : ℕ) (e : Expression) (ls r : List Terminal) → Factor d e (kind.Inherited at p ∷ ls) r → Some_ SomeDesignator d ls
into_inherited p d e ls r (is_prefixed h f, t) = absurd cc
into_inherited p d e ls r (is_designated g, t) = false_true (designator_begins g)
into_inherited p d e ls r (is_inherited {g = g} f, t) = (g, r, (f, t))

pub inherited_refuses : (d : ℕ) (end : Place) (k : TokenKind) (p : Position) (ks : List Terminal) (e : ParseError) → k ≡ kind.Inherited → Refuses SomeDesignator d end ks e → Refuses Factor d end (k at p ∷ ks) e
inherited_refuses d end k p ks e h x = subst (λ w. Refuses Factor d end (w at p ∷ ks) e) (sym h) (refuses_behind SomeDesignator Factor d end (kind.Inherited at p) ks e (into_inherited p) (hands_behind SomeDesignator Factor d (kind.Inherited at p) ks (λ i g ls r f. (inherited p g, (is_inherited f.0, f.1)))) x)

pub factor_inherited : (d : ℕ) (k : TokenKind) (p : Position) (g : Designator) (ks r : List Terminal) → k ≡ kind.Inherited → SomeDesignator d g ks r → Factor d (inherited p g) (k at p ∷ ks) r
factor_inherited d k p g ks r h f = subst (λ w. Factor d (inherited p g) (w at p ∷ ks) r) (sym h) (is_inherited f.0, f.1)

-- ---- signs and `not`

into_prefix : (k : TokenKind) (o : PrefixOperator) (p : Position) → prefix_operator_of k ≡ Some o → (d : ℕ) (e : Expression) (ls r : List Terminal) → Factor d e (k at p ∷ ls) r → (i : ℕ) × (d ≡ suc i) × Some_ Factor i ls
into_prefix k o p h (suc d) e ls r (is_prefixed {e = operand} h1 f, t) = (d, refl, (operand, r, (f, t)))
into_prefix k o p h d e ls r (is_number, t) = absurd cc
into_prefix k o p h d e ls r (is_nil, t) = absurd cc
into_prefix k o p h d e ls r (is_empty_set, t) = absurd cc
into_prefix k o p h d e ls r (is_set f, t) = absurd cc
into_prefix k o p h d e ls r (is_literal f, t) = absurd cc
into_prefix k o p h d e ls r (is_designated g, t) = true_false (sym (designator_begins g) ∙ prefix_is_no_designator k o h)
into_prefix k o p h d e ls r (is_inherited f, t) = absurd cc

pub prefix_refuses : (d i : ℕ) (end : Place) (k : TokenKind) (o : PrefixOperator) (p : Position) (ks : List Terminal) (e : ParseError) → prefix_operator_of k ≡ Some o → d ≡ suc i → Refuses Factor i end ks e → Refuses Factor d end (k at p ∷ ks) e
prefix_refuses d i end k o p ks e h z x = subst (λ (w : ℕ). Refuses Factor w end (k at p ∷ ks) e) (sym z) (refuses_inside Factor Factor i end (k at p) ks e (into_prefix k o p h) (hands_inside Factor Factor i (k at p) ks (λ n a ls r f. (prefixed o p a, (is_prefixed h f.0, f.1)))) x)

zero_suc : {n : ℕ} → 0 ≡ suc n → ⊥
zero_suc h = absurd (omega (arith, h))

prefix_enters : (end : Place) (k : TokenKind) (o : PrefixOperator) (p : Position) (ks : List Terminal) (e : ParseError) → prefix_operator_of k ≡ Some o → CannotEnter end ks e → Refuses Factor 0 end (k at p ∷ ks) e
prefix_enters end k o p ks e h (begins_none x never) = syntax ks x (λ d'. inside_any Factor Factor d' (k at p) ks ks (into_prefix k o p h d') never)
prefix_enters end k o p ks e h (too_deep x lives) = nested ks ks ks x decides_there (k at p ∷ [], refl, λ ls a r s f. absurd (zero_suc (into_prefix k o p h 0 a ls r f).1)) decides_there (hands_counted Factor Factor 0 (k at p) ks (λ n a ls r f. (prefixed o p a, (is_prefixed h f.0, f.1))) ks lives)

pub prefix_too_deep : (d : ℕ) (end : Place) (k : TokenKind) (o : PrefixOperator) (p : Position) (ks : List Terminal) (e : ParseError) → prefix_operator_of k ≡ Some o → (d ≡ 0) × CannotEnter end ks e → Refuses Factor d end (k at p ∷ ks) e
prefix_too_deep d end k o p ks e h x = subst (λ (w : ℕ). Refuses Factor w end (k at p ∷ ks) e) (sym x.0) (prefix_enters end k o p ks e h x.1)

pub factor_prefix : (d i : ℕ) (k : TokenKind) (o : PrefixOperator) (p : Position) (a : Expression) (ks r : List Terminal) → prefix_operator_of k ≡ Some o → d ≡ suc i → Factor i a ks r → Factor d (prefixed o p a) (k at p ∷ ks) r
factor_prefix d i k o p a ks r h z f = subst (λ (w : ℕ). Factor w (prefixed o p a) (k at p ∷ ks) r) (sym z) (is_prefixed h f.0, f.1)

-- ---- designators

into_designated : (d : ℕ) (e : Expression) (ls r : List Terminal) → Begins begins_designator ls → Factor d e ls r → Some_ SomeDesignator d ls
into_designated d e ls r b (is_prefixed {k = k} {o = o} h f, t) = true_false (sym b ∙ prefix_is_no_designator k o h)
into_designated d e ls r b (is_number, t) = false_true b
into_designated d e ls r b (is_nil, t) = false_true b
into_designated d e ls r b (is_empty_set, t) = false_true b
into_designated d e ls r b (is_set f, t) = false_true b
into_designated d e ls r b (is_literal f, t) = false_true b
into_designated d e ls r b (is_designated {g = g} f, t) = (g, r, (f, t))
into_designated d e ls r b (is_inherited f, t) = false_true b

pub designated_refuses : (d : ℕ) (end : Place) (ks : List Terminal) (e : ParseError) → Begins begins_designator ks → Refuses SomeDesignator d end ks e → Refuses Factor d end ks e
designated_refuses d end ks e b x = refuses_map SomeDesignator Factor d end ks e (λ d' a ls r s f. into_designated d' a ls r (same_begins begins_designator ks ls s b) f) (hands_as SomeDesignator Factor d ks (λ i g ls r s f. (designated g, (is_designated f.0, f.1)))) x

pub factor_designated : (d : ℕ) (g : Designator) (ks r : List Terminal) → SomeDesignator d g ks r → Factor d (designated g) ks r
factor_designated d g ks r f = (is_designated f.0, f.1)
