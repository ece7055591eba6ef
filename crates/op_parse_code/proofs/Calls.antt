-- Statements that hold no statement.
use Rattle.std.proofs.Common.{◌≡◌, ℕ, Bool, true, false, List, [], ◌∷◌, Option, Some, None, refl, sym, ap, ◌∙◌, subst}
use Rattle.op_base.specs.declared.place.Place.{Place}
use Rattle.op_parse_code.proofs.Factors.{same_begins}
use Rattle.op_parse_code.proofs.Fitting.{fits_designator}
use Rattle.op_parse_code.proofs.Lists.{Open, SplitsOpen, JoinsOpen, hands_open, hands_behind_mark, open_more, kind_same}
use Rattle.op_parse_code.proofs.Living.{hands_as, hands_behind}
use Rattle.op_parse_code.proofs.Refusing.{Some_, Seq, refuses_map, refuses_first, refuses_behind}
use Rattle.op_parse_code.proofs.StatementKnown.{known_designator}
use Rattle.op_parse_code.specs.Refusal.{Phrase, Refuses}
use Rattle.op_parse_code.specs.Whole.{Chain, Marked, NoMark, SomeDesignator}
use Rattle.op_parse_code.specs.WholeStatement.{SomeCall, Behind, front_is}
use Rattle.op_parse_code.specs.declared.error.ParseError.{ParseError}
use Rattle.op_parse_code.specs.declared.mark.Mark.TheVariants as mark
use Rattle.op_scan.specs.declared.token.TokenKind.{TokenKind}
use Rattle.op_scan.specs.declared.token.TokenKind.TheVariants as kind
use Rattle.op_tree.proofs.ExpressionUnique.{Begins, designator_begins, true_false, false_true}
use Rattle.op_tree.proofs.StatementUnique.{both}
use Rattle.op_tree.specs.Ends.{IsNot, begins_statement, begins_designator, begins_selector, begins_expression, is_assign}
use Rattle.op_tree.specs.Expression.{Expression, Designator}
use Rattle.op_tree.specs.ExpressionGrammar.{IsDesignator}
use Rattle.op_tree.specs.Statement.{Statement, call, assign, raise, reraise, inherited, inherited_call}
use Rattle.op_tree.specs.StatementGrammar.{is_empty, is_call, is_assignment, is_raise, is_reraise, is_inherited, is_inherited_call}
use Rattle.op_tree.specs.Terminal.{Terminal, ◌at◌}
use Rattle.op_tree.specs.declared.operator.Level.TheVariants.{Relational}
use Rattle.op_tree.specs.declared.position.Position.{Position}

-- ---- the first token

pub front_begins : (test : TokenKind → Bool) (ks : List Terminal) → front_is test ks ≡ true → Begins test ks
front_begins test [] h = absurd cc
front_begins test (t ∷ ks) h = h

pub front_not : (test : TokenKind → Bool) (ks : List Terminal) → front_is test ks ≡ false → IsNot test ks
front_not test [] h = tt
front_not test (t ∷ ks) h = h

assign_kind : (k : TokenKind) → (k ≡ kind.Assign → ⊥) → is_assign k ≡ false
assign_kind kind.Assign h = absurd (h refl)
assign_kind other h = refl

no_assign : (r : List Terminal) → NoMark mark.Assign r → IsNot is_assign r
no_assign [] h = tt
no_assign (t ∷ r) h = assign_kind t.kind (λ q. h t.position r (ap (λ z. z at t.position ∷ r) q))

assign_mark : (r : List Terminal) → IsNot is_assign r → NoMark mark.Assign r
assign_mark [] h = λ p m q. absurd cc
assign_mark (t ∷ r) h = λ p m q. true_false (sym (ap is_assign (kind_same q)) ∙ h)

-- ---- a designator, and what is assigned to it

statement_kind : (k : TokenKind) → begins_designator k ≡ true → begins_statement k ≡ true
statement_kind (kind.Identifier text) b = refl
statement_kind kind.String b = refl
statement_kind kind.OpenParenthesis b = refl
statement_kind other b = false_true b

designator_kind : {A : Type 0} (k : TokenKind) → begins_designator k ≡ true → begins_statement k ≡ false → A
designator_kind (kind.Identifier text) b h = true_false h
designator_kind kind.String b h = true_false h
designator_kind kind.OpenParenthesis b h = true_false h
designator_kind other b h = false_true b

-- a designator begins a statement
no_designator : {A : Type 0} (ks : List Terminal) → Begins begins_designator ks → IsNot begins_statement ks → A
no_designator [] b h = absurd b
no_designator (t ∷ ks) b h = designator_kind t.kind b h

pub designator_statement : (ks : List Terminal) → Begins begins_designator ks → Begins begins_statement ks
designator_statement [] b = absurd b
designator_statement (t ∷ ks) b = statement_kind t.kind b

abbrev SeqCall : Phrase (Designator × Option Expression)
SeqCall = Seq SomeDesignator (Open (Chain Relational) mark.Assign)

into_call : (d : ℕ) (s : Statement) (ks r : List Terminal) → Begins begins_designator ks → SomeCall d s ks r → Some_ SeqCall d ks
into_call d s ks r b (is_empty, t) = no_designator ks b t
into_call d s ks r b (is_call {g = g} f, t) = ((g, None), r, (r, (f, t.0), (assign_mark r t.1, refl)))
into_call d s ks r b (is_assignment {g = g} {e = e} {p = p} {m = m} f h, t) = ((g, Some e), r, (kind.Assign at p ∷ m, (f, refl), (p, m, refl, (h, t))))
into_call d s ks r b (other, t) = false_true b

out_of_call : (d : ℕ) (x : Designator × Option Expression) (ls r : List Terminal) → SeqCall d x ls r → (s : Statement) × SomeCall d s ls r
out_of_call d (g, None) ls r (m, f, (none, e)) = (call g, (is_call (subst (λ z. IsDesignator d g ls z) e f.0), (subst (λ z. IsNot begins_selector z) e f.1, no_assign r (subst (λ z. NoMark mark.Assign z) e none))))
out_of_call d (g, Some a) ls r (m, f, (p, n, e, h)) = (assign g p a, (is_assignment (subst (λ z. IsDesignator d g ls z) e f.0) h.0, h.1))

call_join : JoinsOpen SomeDesignator (Chain Relational) SeqCall mark.Assign
call_join d x ls r f = (x, f)

pub call_target : (d : ℕ) (end : Place) (ks : List Terminal) (e : ParseError) → Begins begins_designator ks → Refuses SomeDesignator d end ks e → Refuses SomeCall d end ks e
call_target d end ks e b h = refuses_map SeqCall SomeCall d end ks e (λ d' s ls r x f. into_call d' s ls r (same_begins begins_designator ks ls x b) f) (hands_as SeqCall SomeCall d ks (λ i x ls r s f. out_of_call i x ls r f)) (refuses_first SomeDesignator (Open (Chain Relational) mark.Assign) d end ks e (hands_open SomeDesignator (Chain Relational) mark.Assign (IsNot begins_selector) d ks fits_designator tt) h)

call_split : SplitsOpen SomeDesignator (Chain Relational) SeqCall mark.Assign
call_split d x ls r f = (x, r, f)

pub call_value : (d : ℕ) (end : Place) (g : Designator) (ks m after : List Terminal) (p : Position) (e : ParseError) → Begins begins_designator ks → SomeDesignator d g ks m → Marked mark.Assign d p m after → Refuses (Chain Relational) d end after e → Refuses SomeCall d end ks e
call_value d end g ks m after p e b f is h = refuses_map SeqCall SomeCall d end ks e (λ d' s ls r x y. into_call d' s ls r (same_begins begins_designator ks ls x b) y) (hands_as SeqCall SomeCall d ks (λ i x ls r s f. out_of_call i x ls r f)) (open_more SomeDesignator (Chain Relational) SeqCall mark.Assign d end g ks m after p e call_split known_designator f is (hands_behind_mark SomeDesignator (Chain Relational) SeqCall mark.Assign d g ks m after p call_join known_designator f is) h)

pub call_alone : (d : ℕ) (g : Designator) (ks r : List Terminal) → SomeDesignator d g ks r → NoMark mark.Assign r → SomeCall d (call g) ks r
call_alone d g ks r f none = (is_call f.0, (f.1, no_assign r none))

pub call_assigns : (d : ℕ) (g : Designator) (e : Expression) (p : Position) (ks m after r : List Terminal) → SomeDesignator d g ks m → Marked mark.Assign d p m after → Chain Relational d e after r → SomeCall d (assign g p e) ks r
call_assigns d g e p ks m after r f is h = (is_assignment (subst (λ z. IsDesignator d g ks z) is f.0) h.0, h.1)

-- ---- raise

into_raise : (p : Position) (d : ℕ) (s : Statement) (ks r : List Terminal) → Begins begins_expression ks → Behind kind.Raise p d s ks r → Some_ (Chain Relational) d ks
into_raise p d s ks r b (is_empty, t) = true_false t
into_raise p d s ks r b (is_raise {e = e} f, t) = (e, r, (f, t))
into_raise p d s ks r b (is_reraise, t) = both begins_expression ks b t
into_raise p d s ks r b (is_call g, t) = false_true (designator_begins g)
into_raise p d s ks r b (is_assignment g e, t) = false_true (designator_begins g)

behind_raise : (p : Position) (d : ℕ) (end : Place) (ks : List Terminal) (e : ParseError) → Begins begins_expression ks → Refuses (Chain Relational) d end ks e → Refuses (Behind kind.Raise p) d end ks e
behind_raise p d end ks e b h = refuses_map (Chain Relational) (Behind kind.Raise p) d end ks e (λ d' s ls r x f. into_raise p d' s ls r (same_begins begins_expression ks ls x b) f) (hands_as (Chain Relational) (Behind kind.Raise p) d ks (λ i x ls r s f. (raise p x, (is_raise f.0, f.1)))) h

pub raise_refuses : (p : Position) (d : ℕ) (end : Place) (all ks : List Terminal) (e : ParseError) → all ≡ kind.Raise at p ∷ ks → Begins begins_expression ks → Refuses (Chain Relational) d end ks e → Refuses SomeCall d end all e
raise_refuses p d end all ks e is b h = subst (λ z. Refuses SomeCall d end z e) (sym is) (refuses_behind (Behind kind.Raise p) SomeCall d end (kind.Raise at p) ks e (λ d' s ls r f. (s, r, f)) (hands_behind (Behind kind.Raise p) SomeCall d (kind.Raise at p) ks (λ i s ls r f. (s, f))) (behind_raise p d end ks e b h))

pub raise_whole : (p : Position) (d : ℕ) (e : Expression) (ks r : List Terminal) → Chain Relational d e ks r → Behind kind.Raise p d (raise p e) ks r
raise_whole p d e ks r f = (is_raise f.0, f.1)

pub reraise_whole : (p : Position) (d : ℕ) (ks : List Terminal) → IsNot begins_expression ks → Behind kind.Raise p d (reraise p) ks ks
reraise_whole p d ks h = (is_reraise, h)

-- ---- inherited

into_inherited : (p : Position) (d : ℕ) (s : Statement) (ks r : List Terminal) → Begins begins_designator ks → Behind kind.Inherited p d s ks r → Some_ SomeDesignator d ks
into_inherited p d s ks r b (is_empty, t) = true_false t
into_inherited p d s ks r b (is_inherited, t) = both begins_designator ks b t
into_inherited p d s ks r b (is_inherited_call {g = g} f, t) = (g, r, (f, t))
into_inherited p d s ks r b (is_call g, t) = false_true (designator_begins g)
into_inherited p d s ks r b (is_assignment g e, t) = false_true (designator_begins g)

pub inherited_call_refuses : (p : Position) (d : ℕ) (end : Place) (ks : List Terminal) (e : ParseError) → Begins begins_designator ks → Refuses SomeDesignator d end ks e → Refuses (Behind kind.Inherited p) d end ks e
inherited_call_refuses p d end ks e b h = refuses_map SomeDesignator (Behind kind.Inherited p) d end ks e (λ d' s ls r x f. into_inherited p d' s ls r (same_begins begins_designator ks ls x b) f) (hands_as SomeDesignator (Behind kind.Inherited p) d ks (λ i g ls r s f. (inherited_call p g, (is_inherited_call f.0, f.1)))) h

pub inherited_call_whole : (p : Position) (d : ℕ) (g : Designator) (ks r : List Terminal) → SomeDesignator d g ks r → Behind kind.Inherited p d (inherited_call p g) ks r
inherited_call_whole p d g ks r f = (is_inherited_call f.0, f.1)

pub inherited_alone : (p : Position) (d : ℕ) (ks : List Terminal) → IsNot begins_designator ks → Behind kind.Inherited p d (inherited p) ks ks
inherited_alone p d ks h = (is_inherited, h)

-- ---- where an assignment stands

abbrev first_position : Position → List Terminal → Position
first_position p [] = p
first_position p (t ∷ ts) = t.position

pub assignment_here : (k : TokenKind) (p q : Position) (ks m r : List Terminal) → ks ≡ kind.Assign at p ∷ r → ks ≡ k at q ∷ m → ks ≡ kind.Assign at q ∷ r
assignment_here k p q ks m r e e1 = e ∙ ap (λ z. kind.Assign at z ∷ r) (ap (first_position p) (sym e ∙ e1))
