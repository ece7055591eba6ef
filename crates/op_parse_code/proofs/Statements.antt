-- Statements that hold others.
use Rattle.std.proofs.Common.{◌≡◌, ℕ, zero, suc, true, false, List, [], ◌∷◌, ◌++◌, Option, Some, None, refl, sym, ap, ◌∙◌, subst, arith}
use Rattle.op_base.proofs.Tests.{none_of_some}
use Rattle.op_base.specs.declared.place.Place.{Place}
use Rattle.op_parse_code.proofs.Cuts.{cut_none, cut_one}
use Rattle.op_parse_code.proofs.ExpressionKnown.{known_chain, known_mark}
use Rattle.op_parse_code.proofs.Factors.{same_begins}
use Rattle.op_parse_code.proofs.Fitting.{fits_chain, a_name, name_alone, some_expression}
use Rattle.op_parse_code.proofs.Living.{Fits, Sample, Any, sample_marked, alive_here, hands_as, hands_behind, hands_inside, hands_deeper, hands_first, hands_mark}
use Rattle.op_parse_code.proofs.Lists.{Open, SplitsOpen, JoinsOpen, hands_open, hands_alone, hands_behind_mark, open_item, open_more, Reading, reading_more, reading_last, kind_same}
use Rattle.op_parse_code.proofs.Refusing.{Some_, Seq, HandsOn, refuses_map, refuses_first, refuses_after, refuses_behind, refuses_inside, refuses_deeper, dead_here, no_mark_same}
use Rattle.op_parse_code.proofs.StatementKnown.{known_name, known_direction, known_statement, known_statements, ends_behind}
use Rattle.op_parse_code.proofs.StatementFronts.{front_name, front_statement, front_statements}
use Rattle.op_parse_code.specs.Opening.{kind_of, kind_of_word}
use Rattle.op_parse_code.specs.declared.opening.Word.{Word}
use Rattle.op_parse_code.specs.declared.opening.Word.TheVariants as word
use Rattle.op_parse_code.specs.Refusal.{Phrase, SameHead, Alive, Refuses, syntax, nested, decides_there, refused_at}
use Rattle.op_parse_code.specs.Whole.{Chain, Marked, NoMark, SomeName}
use Rattle.op_parse_code.specs.WholeStatement.{SomeStatement, SomeStatements, SomeDirection, SomeCall, Behind, EndsStatements, is_semicolon}
use Rattle.op_parse_code.specs.declared.error.ParseError.{ParseError}
use Rattle.op_parse_code.specs.declared.mark.Mark.{Mark}
use Rattle.op_parse_code.specs.declared.mark.Mark.TheVariants as mark
use Rattle.op_scan.specs.declared.token.TokenKind.{TokenKind}
use Rattle.op_scan.specs.declared.token.TokenKind.TheVariants as kind
use Rattle.op_tree.proofs.ExpressionUnique.{Begins, behind, stop, true_false, false_true, designator_begins}
use Rattle.op_tree.proofs.StatementUnique.{both, continues, ends, ends_closed, direction_stops}
use Rattle.op_tree.specs.Ends.{IsNot, Stops, begins_statement, is_else, EndsStatement}
use Rattle.op_tree.specs.Expression.{Expression, designator, named, string, bracketed, no_selectors}
use Rattle.op_tree.specs.ExpressionGrammar.{IsChain, is_designator, is_named, is_string, is_bracketed, are_no_selectors}
use Rattle.op_tree.specs.NameGrammar.{IsName, is_name}
use Rattle.op_tree.specs.Statement.{Statement, empty, block, if_then, if_else, case_of, while_do, repeat_until, for_to, for_in, try_finally, reraise, inherited, call, Statements, no_branches, no_statements, statements, stmt_of, stmts_of}
use Rattle.op_tree.specs.StatementGrammar.{IsClosed, direction_of, IsStatement, is_empty, is_block, is_if_then, is_if_else, is_case, is_try_finally, is_reraise, is_inherited, are_no_branches, is_while, is_repeat, is_for_to, is_for_in, is_begin_end, is_call, is_assignment, AreStatements, are_one_statement, are_statements}
use Rattle.op_tree.specs.Terminal.{Terminal, ◌at◌, name}
use Rattle.op_tree.specs.declared.operator.Level.TheVariants.{Relational}
use Rattle.op_tree.specs.declared.position.Name.{Name}
use Rattle.op_tree.specs.declared.position.Position.{Position}
use Rattle.op_tree.specs.declared.statement.Direction.{Direction}
use Rattle.op_tree.specs.declared.statement.Direction.TheVariants as direction
use Rattle.op_tree.specs.declared.statement.Stmt.{Stmt}

-- ---- the depth of a statement that is not empty

-- with no depth left there is the empty one alone
at_zero : {A : Type 0} {s : Statement} {ks r : List Terminal} → IsStatement 0 s ks r → EndsStatement s r → Begins begins_statement ks → A
at_zero {ks = ks} is_empty t b = both begins_statement ks b t

counted : (d : ℕ) (s : Statement) (ks r : List Terminal) → Begins begins_statement ks → SomeStatement d s ks r → (i : ℕ) × (d ≡ suc i)
counted zero s ks r b (f, t) = at_zero f t b
counted (suc i) s ks r b f = (i, refl)

zero_suc : {n : ℕ} → 0 ≡ suc n → ⊥
zero_suc h = absurd (omega (arith, h))

pub statement_none : (d : ℕ) (ks : List Terminal) → IsNot begins_statement ks → SomeStatement d empty ks ks
statement_none d ks h = (is_empty, h)

-- a statement begins with each token that one begins with
statement_kind : (k : TokenKind) (p : Position) (r : List Terminal) → begins_statement k ≡ true → Alive SomeStatement 0 (k at p ∷ r) (k at p ∷ r)
statement_kind kind.Begin p r b = alive_here SomeStatement 0 1 (kind.Begin at p) r (kind.End at p ∷ []) [] (block (statements empty no_statements)) (omega arith) (is_block (is_begin_end (are_one_statement is_empty)), tt)
statement_kind kind.If_ p r b = alive_here SomeStatement 0 1 (kind.If_ at p) r (kind.Identifier [] at p ∷ kind.Then at p ∷ []) [] (if_then (a_name p) empty) (omega arith) (is_if_then (name_alone 0 p (kind.Then at p ∷ [])) is_empty, (tt, tt))
statement_kind kind.Case p r b = alive_here SomeStatement 0 1 (kind.Case at p) r (kind.Identifier [] at p ∷ kind.Of at p ∷ kind.End at p ∷ []) [] (case_of (a_name p) no_branches) (omega arith) (is_case (name_alone 0 p (kind.Of at p ∷ kind.End at p ∷ [])) are_no_branches, tt)
statement_kind kind.While_ p r b = alive_here SomeStatement 0 1 (kind.While_ at p) r (kind.Identifier [] at p ∷ kind.Do_ at p ∷ []) [] (while_do (a_name p) empty) (omega arith) (is_while (name_alone 0 p (kind.Do_ at p ∷ [])) is_empty, tt)
statement_kind kind.Repeat p r b = alive_here SomeStatement 0 1 (kind.Repeat at p) r (kind.Until at p ∷ kind.Identifier [] at p ∷ []) [] (repeat_until (statements empty no_statements) (a_name p)) (omega arith) (is_repeat (are_one_statement is_empty) (name_alone 0 p []), stop (a_name p) [] (tt, tt))
statement_kind kind.For_ p r b = alive_here SomeStatement 0 1 (kind.For_ at p) r (kind.Identifier [] at p ∷ kind.In_ at p ∷ kind.Identifier [] at p ∷ kind.Do_ at p ∷ []) [] (for_in (name [] p) (a_name p) empty) (omega arith) (is_for_in is_name (name_alone 0 p (kind.Do_ at p ∷ [])) is_empty, tt)
statement_kind kind.Try_ p r b = alive_here SomeStatement 0 1 (kind.Try_ at p) r (kind.Finally at p ∷ kind.End at p ∷ []) [] (try_finally (statements empty no_statements) (statements empty no_statements)) (omega arith) (is_try_finally (are_one_statement is_empty) (are_one_statement is_empty), tt)
statement_kind kind.Raise p r b = alive_here SomeStatement 0 1 (kind.Raise at p) r [] [] (reraise p) (omega arith) (is_reraise, tt)
statement_kind kind.Inherited p r b = alive_here SomeStatement 0 1 (kind.Inherited at p) r [] [] (inherited p) (omega arith) (is_inherited, tt)
statement_kind (kind.Identifier text) p r b = alive_here SomeStatement 0 1 (kind.Identifier text at p) r [] [] (call (designator (named (name text p)) no_selectors)) (omega arith) (is_call (is_designator is_named are_no_selectors), (tt, tt))
statement_kind kind.String p r b = alive_here SomeStatement 0 1 (kind.String at p) r [] [] (call (designator (string p) no_selectors)) (omega arith) (is_call (is_designator is_string are_no_selectors), (tt, tt))
statement_kind kind.OpenParenthesis p r b = alive_here SomeStatement 0 2 (kind.OpenParenthesis at p) r (kind.Identifier [] at p ∷ kind.CloseParenthesis at p ∷ []) [] (call (designator (bracketed p (a_name p)) no_selectors)) (omega arith) (is_call (is_designator (is_bracketed (name_alone 0 p (kind.CloseParenthesis at p ∷ []))) are_no_selectors), (tt, tt))
statement_kind other p r b = false_true b

statement_at : (ks : List Terminal) → Begins begins_statement ks → Alive SomeStatement 0 ks ks
statement_at [] b = absurd b
statement_at (t ∷ ks) b = statement_kind t.kind t.position ks b

pub statement_too_deep : (d : ℕ) (end : Place) (ks : List Terminal) (e : ParseError) → Begins begins_statement ks → d ≡ 0 → e ≡ refused_at 61 0 end ks → Refuses SomeStatement d end ks e
statement_too_deep d end ks e b z x = subst (λ (w : ℕ). Refuses SomeStatement w end ks e) (sym z) (nested ks ks ks x decides_there (dead_here (SomeStatement 0) ks (λ s ls r h f. zero_suc (counted 0 s ls r (same_begins begins_statement ks ls h b) f).1)) decides_there (statement_at ks b))

into_word : (k : TokenKind) (p : Position) → begins_statement k ≡ true → (d : ℕ) (s : Statement) (ls r : List Terminal) → SomeStatement d s (k at p ∷ ls) r → (i : ℕ) × (d ≡ suc i) × Some_ (Behind k p) i ls
into_word k p b d s ls r f =
    let w = counted d s (k at p ∷ ls) r b f in
    (w.0, w.1, (s, r, subst (λ (z : ℕ). SomeStatement z s (k at p ∷ ls) r) w.1 f))

pub word_refuses : (d i : ℕ) (end : Place) (k k' : TokenKind) (p : Position) (ks : List Terminal) (e : ParseError) → k ≡ k' → begins_statement k' ≡ true → d ≡ suc i → Refuses (Behind k' p) i end ks e → Refuses SomeStatement d end (k at p ∷ ks) e
word_refuses d i end k k' p ks e h b z x = subst (λ (w : ℕ). Refuses SomeStatement w end (k at p ∷ ks) e) (sym z) (subst (λ w. Refuses SomeStatement (suc i) end (w at p ∷ ks) e) (sym h) (refuses_inside (Behind k' p) SomeStatement i end (k' at p) ks e (into_word k' p b) (hands_inside (Behind k' p) SomeStatement i (k' at p) ks (λ n s ls r f. (s, f))) x))

pub word_whole : (d i : ℕ) (k k' : TokenKind) (p : Position) (s : Statement) (ks r : List Terminal) → k ≡ k' → d ≡ suc i → Behind k' p i s ks r → SomeStatement d s (k at p ∷ ks) r
word_whole d i k k' p s ks r h z f = subst (λ (w : ℕ). SomeStatement w s (k at p ∷ ks) r) (sym z) (subst (λ w. SomeStatement (suc i) s (w at p ∷ ks) r) (sym h) f)

-- a call or an assignment
pub call_whole : (d i : ℕ) (s : Statement) (ks r : List Terminal) → d ≡ suc i → SomeCall i s ks r → SomeStatement d s ks r
call_whole d i s ks r z f = subst (λ (w : ℕ). SomeStatement w s ks r) (sym z) f

pub call_statement_refuses : (d i : ℕ) (end : Place) (ks : List Terminal) (e : ParseError) → Begins begins_statement ks → d ≡ suc i → Refuses SomeCall i end ks e → Refuses SomeStatement d end ks e
call_statement_refuses d i end ks e b z x = subst (λ (w : ℕ). Refuses SomeStatement w end ks e) (sym z) (refuses_deeper SomeCall SomeStatement i end ks e (λ d' s ls r h f. let w = counted d' s ls r (same_begins begins_statement ks ls h b) f in (w.0, w.1, (s, r, subst (λ (z : ℕ). SomeStatement z s ls r) w.1 f))) (hands_deeper SomeCall SomeStatement i ks (λ n s ls r h f. (s, f))) x)

-- ---- what follows

else_kind : (k : TokenKind) → (k ≡ kind.Else_ → ⊥) → is_else k ≡ false
else_kind kind.Else_ h = absurd (h refl)
else_kind other h = refl

semicolon_kind : (k : TokenKind) → (k ≡ kind.Semicolon → ⊥) → is_semicolon k ≡ false
semicolon_kind kind.Semicolon h = absurd (h refl)
semicolon_kind other h = refl

else_mark : (r : List Terminal) → IsNot is_else r → NoMark mark.Else_ r
else_mark [] h = λ p m q. absurd cc
else_mark (t ∷ r) h = λ p m q. true_false (sym (ap is_else (kind_same q)) ∙ h)

no_else : (r : List Terminal) → NoMark mark.Else_ r → IsNot is_else r
no_else [] h = tt
no_else (t ∷ r) h = else_kind t.kind (λ q. h t.position r (ap (λ z. z at t.position ∷ r) q))

no_semicolon : (r : List Terminal) → NoMark mark.Semicolon r → IsNot is_semicolon r
no_semicolon [] h = tt
no_semicolon (t ∷ r) h = semicolon_kind t.kind (λ q. h t.position r (ap (λ z. z at t.position ∷ r) q))

semicolon_mark : (r : List Terminal) → IsNot is_semicolon r → NoMark mark.Semicolon r
semicolon_mark [] h = λ p m q. absurd cc
semicolon_mark (t ∷ r) h = λ p m q. true_false (sym (ap is_semicolon (kind_same q)) ∙ h)

-- a whole statement before an else is closed
pub closed : (s : Statement) (p : Position) (r : List Terminal) → EndsStatement s (kind.Else_ at p ∷ r) → IsClosed s
closed (if_then c s) p r t = true_false t.1
closed (if_else c s s1) p r t = closed s1 p r t
closed (while_do c s) p r t = closed s p r t
closed (for_to n a w b s) p r t = closed s p r t
closed (for_in n a s) p r t = closed s p r t
closed other p r t = tt

-- what belongs to no statement ends a list of them
pub ends_all : {d : ℕ} {ss : Statements} {ks r : List Terminal} → AreStatements d ss ks r → IsNot continues r → IsNot is_else r → IsNot is_semicolon r → EndsStatements ss r
ends_all {r = r} (are_one_statement {s = s} f) h e n = (ends s r h e, n)
ends_all (are_statements f (are_one_statement g)) h e n = ends_all (are_one_statement g) h e n
ends_all (are_statements f (are_statements g ss)) h e n = ends_all (are_statements g ss) h e n

-- ---- what may stand behind, and the least parts

abbrev pub Rests : List Terminal → Type 0
Rests x = IsNot continues x × IsNot is_else x

pub fits_statement : Fits SomeStatement Rests
fits_statement d s ks r p = let f = front_statement p.0 in (f.0, f.1, f.2, λ x c. (f.3 x, ends s x c.0 c.1))

abbrev pub RestsAll : List Terminal → Type 0
RestsAll x = IsNot continues x × IsNot is_else x × IsNot is_semicolon x

pub fits_statements : Fits SomeStatements RestsAll
fits_statements d ss ks r p = let f = front_statements p.0 in (f.0, f.1, f.2, λ x c. (f.3 x, ends_all (f.3 x) c.0 c.1 c.2))

pub some_statement : Position → Sample SomeStatement Any
some_statement p = record { tokens = []; behind = []; part = empty; stands = λ i. (is_empty, tt); fits = tt }

-- ---- lists of statements

abbrev pub add_stmt : Stmt → Statements → Statements
add_stmt x more = statements (stmt_of x) more

statements_split : SplitsOpen SomeStatement SomeStatements SomeStatements mark.Semicolon
statements_split d x ls r (are_one_statement {s = s} f, t) = ((s, None), r, (r, (f, t.0), (semicolon_mark r t.1, refl)))
statements_split d x ls r (are_statements {s = s} {ss = ss} {p = p} {m = m} f g, t) = ((s, Some ss), r, (kind.Semicolon at p ∷ m, (f, ends s _ refl refl), (p, m, refl, (g, ends_behind s g t))))

add_statement : (d : ℕ) (s : Statement) (ss : Statements) (p : Position) (ks m r : List Terminal) → SomeStatement d s ks (kind.Semicolon at p ∷ m) → SomeStatements d ss m r → SomeStatements d (statements s ss) ks r
add_statement d s ss p ks m r (f, t) (are_one_statement g, u) = (are_statements f (are_one_statement g), u)
add_statement d s ss p ks m r (f, t) (are_statements g gs, u) = (are_statements f (are_statements g gs), u)

statements_join : JoinsOpen SomeStatement SomeStatements SomeStatements mark.Semicolon
statements_join d (s, None) ls r (m, f, (none, e)) = (statements s no_statements, (are_one_statement (subst (λ z. IsStatement d s ls z) e f.0), (subst (λ z. EndsStatement s z) e f.1, no_semicolon r (subst (λ z. NoMark mark.Semicolon z) e none))))
statements_join d (s, Some ss) ls r (m, f, (p, n, e, g)) = (statements s ss, add_statement d s ss p ls n r (subst (λ z. SomeStatement d s ls z) e f) g)

one_statement : (d : ℕ) (ks : List Terminal) → HandsOn SomeStatement d ks SomeStatements d ks
one_statement d ks = hands_alone SomeStatement SomeStatements SomeStatements mark.Semicolon Rests d ks statements_join fits_statement (tt, tt)

pub sequencing_item : (d : ℕ) (end : Place) (all rest : List Terminal) (xs : List Stmt) (e : ParseError) → Reading add_stmt SomeStatements d end all xs rest → Refuses SomeStatement d end rest e → Refuses SomeStatements d end all e
sequencing_item d end all rest xs e so_far h = so_far.dies e (open_item SomeStatement SomeStatements SomeStatements mark.Semicolon d end rest e statements_split (one_statement d rest) h)

pub sequencing_more : (d : ℕ) (end : Place) (all rest m : List Terminal) (xs : List Stmt) (x : Stmt) (p : Position) (after : List Terminal) → Reading add_stmt SomeStatements d end all xs rest → SomeStatement d (stmt_of x) rest m → m ≡ kind.Semicolon at p ∷ after → Reading add_stmt SomeStatements d end all (xs ++ (x ∷ [])) after
sequencing_more d end all rest m xs x p after so_far f is =
    let g : SomeStatement d (stmt_of x) rest (kind.Semicolon at p ∷ after) = subst (λ z. SomeStatement d (stmt_of x) rest z) is f in
    reading_more add_stmt SomeStatements d end all rest xs x after so_far (λ more r h. add_statement d (stmt_of x) more p rest after r g h) (λ e h. open_more SomeStatement SomeStatements SomeStatements mark.Semicolon d end (stmt_of x) rest m after p e statements_split known_statement f is (hands_behind_mark SomeStatement SomeStatements SomeStatements mark.Semicolon d (stmt_of x) rest m after p statements_join known_statement f is) h)

pub sequencing_ends : (d : ℕ) (end : Place) (all rest m : List Terminal) (xs : List Stmt) (x : Stmt) → Reading add_stmt SomeStatements d end all xs rest → SomeStatement d (stmt_of x) rest m → NoMark mark.Semicolon m → SomeStatements d (stmts_of (xs ++ (x ∷ []))) all m
sequencing_ends d end all rest m xs x so_far f none = reading_last add_stmt no_statements stmts_of SomeStatements d end all rest m xs x refl (λ x xs. refl) so_far (are_one_statement f.0, (f.1, no_semicolon m none))

-- ---- statements up to `end`

abbrev pub StatementsEnd : Phrase (Statements × Position)
StatementsEnd = Seq SomeStatements (Marked mark.End)

pub end_it : (p : Position) → Sample (Marked mark.End) RestsAll
end_it p = record { tokens = kind.End at p ∷ []; behind = []; part = p; stands = λ i. refl; fits = (refl, refl, refl) }

-- no statement, and `end`
pub some_end : (p : Position) → Sample StatementsEnd Any
some_end p = record { tokens = kind.End at p ∷ []; behind = []; part = (statements empty no_statements, p); stands = λ i. (kind.End at p ∷ [], (are_one_statement is_empty, (refl, refl)), refl); fits = tt }

pub end_body : (d : ℕ) (end : Place) (ks : List Terminal) (e : ParseError) → Refuses SomeStatements d end ks e → Refuses StatementsEnd d end ks e
end_body d end ks e h = refuses_first SomeStatements (Marked mark.End) d end ks e (hands_first SomeStatements (Marked mark.End) RestsAll d ks fits_statements end_it) h

pub end_open : (d : ℕ) (end : Place) (ss : Statements) (ks m : List Terminal) (e : ParseError) → SomeStatements d ss ks m → Refuses (Marked mark.End) d end m e → Refuses StatementsEnd d end ks e
end_open d end ss ks m e f h = refuses_after SomeStatements (Marked mark.End) d end ss ks m e known_statements f h

-- ---- an expression, a mark and what stands behind it

abbrev pub Headed : {B : Type 0} → Mark → Phrase B → Phrase (Expression × (Position × B))
Headed m Q = Seq (Chain Relational) (Seq (Marked m) Q)

-- No expression goes on with the mark; and the least part behind it.
pub record Heads {B : Type 0} (m : Mark) (Q : Phrase B) : Type 0 where
  pub stops : (p : Position) (r : List Terminal) → Stops (kind_of m at p ∷ r)
  pub least : Position → Sample Q Any

pub headed_first : {B : Type 0} (m : Mark) (Q : Phrase B) (d : ℕ) (end : Place) (ks : List Terminal) (e : ParseError) → Heads m Q → Refuses (Chain Relational) d end ks e → Refuses (Headed m Q) d end ks e
headed_first m Q d end ks e heads h = refuses_first (Chain Relational) (Seq (Marked m) Q) d end ks e (hands_first (Chain Relational) (Seq (Marked m) Q) Stops d ks (fits_chain Relational) (λ p. sample_marked m Q Stops p (heads.stops p) (heads.least p))) h

pub headed_mark : {B : Type 0} (m : Mark) (Q : Phrase B) (d : ℕ) (end : Place) (c : Expression) (ks n : List Terminal) (e : ParseError) → Heads m Q → Chain Relational d c ks n → Refuses (Marked m) d end n e → Refuses (Headed m Q) d end ks e
headed_mark m Q d end c ks n e heads f h = refuses_after (Chain Relational) (Seq (Marked m) Q) d end c ks n e (known_chain Relational) f (refuses_first (Marked m) Q d end n e (hands_mark m Q d n heads.least) h)

pub headed_rest : {B : Type 0} (m : Mark) (Q : Phrase B) (q : Position) (d : ℕ) (end : Place) (c : Expression) (ks n o : List Terminal) (e : ParseError) → Chain Relational d c ks n → Marked m d q n o → Refuses Q d end o e → Refuses (Headed m Q) d end ks e
headed_rest m Q q d end c ks n o e f g h = refuses_after (Chain Relational) (Seq (Marked m) Q) d end c ks n e (known_chain Relational) f (refuses_after (Marked m) Q d end q n o e (known_mark m) g h)

-- ---- begin

into_block : (p : Position) (d : ℕ) (s : Statement) (ls r : List Terminal) → Behind kind.Begin p d s ls r → Some_ StatementsEnd d ls
into_block p d s ls r (is_block (is_begin_end {ss = ss} {q = q} f), t) = ((ss, q), r, (kind.End at q ∷ r, (f, ends_all f refl refl refl), refl))
into_block p d s ls r (is_empty, t) = true_false t
into_block p d s ls r (is_call g, t) = false_true (designator_begins g)
into_block p d s ls r (is_assignment g e, t) = false_true (designator_begins g)

pub block_whole : (p q : Position) (d : ℕ) (ss : Statements) (ks m r : List Terminal) → SomeStatements d ss ks m → m ≡ kind.End at q ∷ r → Behind kind.Begin p d (block ss) ks r
block_whole p q d ss ks m r f is = (is_block (is_begin_end (subst (λ z. AreStatements d ss ks z) is f.0)), tt)

pub block_refuses : (p : Position) (d : ℕ) (end : Place) (ks : List Terminal) (e : ParseError) → Refuses StatementsEnd d end ks e → Refuses (Behind kind.Begin p) d end ks e
block_refuses p d end ks e h = refuses_map StatementsEnd (Behind kind.Begin p) d end ks e (λ d' b ls r s x. into_block p d' b ls r x) (hands_as StatementsEnd (Behind kind.Begin p) d ks (λ i y ls r s x. (block y.0, block_whole p y.1 i y.0 ls x.0 r x.1 x.2))) h

-- ---- if

abbrev pub IfBody : Phrase (Statement × Option Statement)
IfBody = Seq SomeStatement (Open SomeStatement mark.Else_)

abbrev IfParts : Phrase (Expression × (Position × (Statement × Option Statement)))
IfParts = Headed mark.Then IfBody

into_if : (p : Position) (d : ℕ) (s : Statement) (ls r : List Terminal) → Behind kind.If_ p d s ls r → Some_ IfParts d ls
into_if p d s ls r (is_if_then {c = c} {s = body} {q = q} {m = m} e f, t) = ((c, (q, (body, None))), r, (kind.Then at q ∷ m, (e, stop c _ (refl, refl)), (m, refl, (r, (f, t.0), (else_mark r t.1, refl)))))
into_if p d s ls r (is_if_else {c = c} {s = body} {t = other} {q = q} {u = u} {m = m} {n = n} e f shut g, t) = ((c, (q, (body, Some other))), r, (kind.Then at q ∷ m, (e, stop c _ (refl, refl)), (m, refl, (kind.Else_ at u ∷ n, (f, ends_closed body _ refl shut), (u, n, refl, (g, t))))))
into_if p d s ls r (is_empty, t) = true_false t
into_if p d s ls r (is_call g, t) = false_true (designator_begins g)
into_if p d s ls r (is_assignment g e, t) = false_true (designator_begins g)

pub if_whole : (p q : Position) (d : ℕ) (c : Expression) (s : Statement) (ks m n r : List Terminal) → Chain Relational d c ks m → Marked mark.Then d q m n → SomeStatement d s n r → NoMark mark.Else_ r → Behind kind.If_ p d (if_then c s) ks r
if_whole p q d c s ks m n r f g h none = (is_if_then (subst (λ z. IsChain Relational d c ks z) g f.0) h.0, (h.1, no_else r none))

pub if_else_whole : (p q u : Position) (d : ℕ) (c : Expression) (s t : Statement) (ks m n o after r : List Terminal) → Chain Relational d c ks m → Marked mark.Then d q m n → SomeStatement d s n o → Marked mark.Else_ d u o after → SomeStatement d t after r → Behind kind.If_ p d (if_else c s t) ks r
if_else_whole p q u d c s t ks m n o after r f g i j h =
    let b : SomeStatement d s n (kind.Else_ at u ∷ after) = subst (λ z. SomeStatement d s n z) j i in
    (is_if_else (subst (λ z. IsChain Relational d c ks z) g f.0) b.0 (closed s u after b.1) h.0, h.1)

out_of_if : (p : Position) (d : ℕ) (x : Expression × (Position × (Statement × Option Statement))) (ls r : List Terminal) → IfParts d x ls r → (s : Statement) × Behind kind.If_ p d s ls r
out_of_if p d (c, (q, (s, None))) ls r (m, f, (n, g, (o, h, (none, e)))) = (if_then c s, if_whole p q d c s ls m n r f g (subst (λ z. SomeStatement d s n z) e h) (subst (λ z. NoMark mark.Else_ z) e none))
out_of_if p d (c, (q, (s, Some t))) ls r (m, f, (n, g, (o, h, (u, k, e, i)))) = (if_else c s t, if_else_whole p q u d c s t ls m n o k r f g h e i)

pub if_refuses : (p : Position) (d : ℕ) (end : Place) (ks : List Terminal) (e : ParseError) → Refuses IfParts d end ks e → Refuses (Behind kind.If_ p) d end ks e
if_refuses p d end ks e h = refuses_map IfParts (Behind kind.If_ p) d end ks e (λ d' b ls r s x. into_if p d' b ls r x) (hands_as IfParts (Behind kind.If_ p) d ks (λ i y ls r s x. out_of_if p i y ls r x)) h

pub if_body : (d : ℕ) (end : Place) (ks : List Terminal) (e : ParseError) → Refuses SomeStatement d end ks e → Refuses IfBody d end ks e
if_body d end ks e h = refuses_first SomeStatement (Open SomeStatement mark.Else_) d end ks e (hands_open SomeStatement SomeStatement mark.Else_ Rests d ks fits_statement (tt, tt)) h

body_split : SplitsOpen SomeStatement SomeStatement IfBody mark.Else_
body_split d x ls r f = (x, r, f)

body_join : JoinsOpen SomeStatement SomeStatement IfBody mark.Else_
body_join d x ls r f = (x, f)

-- an empty statement without `else`
pub if_heads : Heads mark.Then IfBody
if_heads = record { stops = λ p r. (refl, refl); least = λ p. record { tokens = []; behind = []; part = (empty, None); stands = λ i. ([], (is_empty, tt), (λ p r h. absurd cc, refl)); fits = tt } }

pub if_otherwise : (d : ℕ) (end : Place) (s : Statement) (ks m after : List Terminal) (u : Position) (e : ParseError) → SomeStatement d s ks m → Marked mark.Else_ d u m after → Refuses SomeStatement d end after e → Refuses IfBody d end ks e
if_otherwise d end s ks m after u e f g h = open_more SomeStatement SomeStatement IfBody mark.Else_ d end s ks m after u e body_split known_statement f g (hands_behind_mark SomeStatement SomeStatement IfBody mark.Else_ d s ks m after u body_join known_statement f g) h

-- ---- while

abbrev WhileParts : Phrase (Expression × (Position × Statement))
WhileParts = Headed mark.Do_ SomeStatement

into_while : (p : Position) (d : ℕ) (s : Statement) (ls r : List Terminal) → Behind kind.While_ p d s ls r → Some_ WhileParts d ls
into_while p d s ls r (is_while {c = c} {s = body} {q = q} {m = m} e f, t) = ((c, (q, body)), r, (kind.Do_ at q ∷ m, (e, stop c _ (refl, refl)), (m, refl, (f, t))))
into_while p d s ls r (is_empty, t) = true_false t
into_while p d s ls r (is_call g, t) = false_true (designator_begins g)
into_while p d s ls r (is_assignment g e, t) = false_true (designator_begins g)

pub while_whole : (p q : Position) (d : ℕ) (c : Expression) (s : Statement) (ks m n r : List Terminal) → Chain Relational d c ks m → Marked mark.Do_ d q m n → SomeStatement d s n r → Behind kind.While_ p d (while_do c s) ks r
while_whole p q d c s ks m n r f g h = (is_while (subst (λ z. IsChain Relational d c ks z) g f.0) h.0, h.1)

pub while_refuses : (p : Position) (d : ℕ) (end : Place) (ks : List Terminal) (e : ParseError) → Refuses WhileParts d end ks e → Refuses (Behind kind.While_ p) d end ks e
while_refuses p d end ks e h = refuses_map WhileParts (Behind kind.While_ p) d end ks e (λ d' b ls r s x. into_while p d' b ls r x) (hands_as WhileParts (Behind kind.While_ p) d ks (λ i y ls r s x. (while_do y.0 y.1.1, while_whole p y.1.0 i y.0 y.1.1 ls x.0 x.2.0 r x.1 x.2.1 x.2.2))) h

pub do_heads : Heads mark.Do_ SomeStatement
do_heads = record { stops = λ p r. (refl, refl); least = some_statement }

-- ---- repeat

abbrev RepeatUntil : Phrase (Position × Expression)
RepeatUntil = Seq (Marked mark.Until) (Chain Relational)

abbrev RepeatParts : Phrase (Statements × (Position × Expression))
RepeatParts = Seq SomeStatements RepeatUntil

into_repeat : (p : Position) (d : ℕ) (s : Statement) (ls r : List Terminal) → Behind kind.Repeat p d s ls r → Some_ RepeatParts d ls
into_repeat p d s ls r (is_repeat {ss = ss} {c = c} {q = q} {m = m} f e, t) = ((ss, (q, c)), r, (kind.Until at q ∷ m, (f, ends_all f refl refl refl), (m, refl, (e, t))))
into_repeat p d s ls r (is_empty, t) = true_false t
into_repeat p d s ls r (is_call g, t) = false_true (designator_begins g)
into_repeat p d s ls r (is_assignment g e, t) = false_true (designator_begins g)

pub repeat_whole : (p q : Position) (d : ℕ) (ss : Statements) (c : Expression) (ks m n r : List Terminal) → SomeStatements d ss ks m → Marked mark.Until d q m n → Chain Relational d c n r → Behind kind.Repeat p d (repeat_until ss c) ks r
repeat_whole p q d ss c ks m n r f g h = (is_repeat (subst (λ z. AreStatements d ss ks z) g f.0) h.0, h.1)

repeat_parts : (p : Position) (d : ℕ) (end : Place) (ks : List Terminal) (e : ParseError) → Refuses RepeatParts d end ks e → Refuses (Behind kind.Repeat p) d end ks e
repeat_parts p d end ks e h = refuses_map RepeatParts (Behind kind.Repeat p) d end ks e (λ d' b ls r s x. into_repeat p d' b ls r x) (hands_as RepeatParts (Behind kind.Repeat p) d ks (λ i y ls r s x. (repeat_until y.0 y.1.1, repeat_whole p y.1.0 i y.0 y.1.1 ls x.0 x.2.0 r x.1 x.2.1 x.2.2))) h

pub repeat_body : (p : Position) (d : ℕ) (end : Place) (ks : List Terminal) (e : ParseError) → Refuses SomeStatements d end ks e → Refuses (Behind kind.Repeat p) d end ks e
repeat_body p d end ks e h = repeat_parts p d end ks e (refuses_first SomeStatements RepeatUntil d end ks e (hands_first SomeStatements RepeatUntil RestsAll d ks fits_statements (λ p. sample_marked mark.Until (Chain Relational) RestsAll p (λ r. (refl, refl, refl)) (some_expression p))) h)

pub repeat_open : (p : Position) (d : ℕ) (end : Place) (ss : Statements) (ks m : List Terminal) (e : ParseError) → SomeStatements d ss ks m → Refuses (Marked mark.Until) d end m e → Refuses (Behind kind.Repeat p) d end ks e
repeat_open p d end ss ks m e f h = repeat_parts p d end ks e (refuses_after SomeStatements RepeatUntil d end ss ks m e known_statements f (refuses_first (Marked mark.Until) (Chain Relational) d end m e (hands_mark mark.Until (Chain Relational) d m some_expression) h))

pub repeat_condition : (p q : Position) (d : ℕ) (end : Place) (ss : Statements) (ks m n : List Terminal) (e : ParseError) → SomeStatements d ss ks m → Marked mark.Until d q m n → Refuses (Chain Relational) d end n e → Refuses (Behind kind.Repeat p) d end ks e
repeat_condition p q d end ss ks m n e f g h = repeat_parts p d end ks e (refuses_after SomeStatements RepeatUntil d end ss ks m e known_statements f (refuses_after (Marked mark.Until) (Chain Relational) d end q m n e (known_mark mark.Until) g h))

-- ---- for

abbrev ForTo : Phrase (Expression × (Direction × (Expression × (Position × Statement))))
ForTo = Seq (Chain Relational) (Seq SomeDirection WhileParts)

-- what stands behind the variable
abbrev ForRest : ℕ → Option (Expression × (Direction × (Expression × (Position × Statement)))) → List Terminal → List Terminal → Type 0
ForRest d (Some x) ks r = (q : Position) × (m : List Terminal) × (ks ≡ kind.Assign at q ∷ m) × ForTo d x m r
ForRest d None ks r = (q : Position) × (m : List Terminal) × (x : Expression × (Position × Statement)) × (ks ≡ kind.In_ at q ∷ m) × WhileParts d x m r

into_for : (p : Position) (d : ℕ) (s : Statement) (ls r : List Terminal) → Behind kind.For_ p d s ls r → Some_ (Seq SomeName ForRest) d ls
into_for p d s ls r (is_for_to {n = n} {first = a} {last = b} {k = k} {way = way} {s = body} {q = q} {u = u} {v = v} {m = m} {m1 = m1} {m2 = m2} i e w e1 f, t) = ((n, Some (a, (way, (b, (v, body))))), r, (kind.Assign at q ∷ m, i, (q, m, refl, (k at u ∷ m1, (e, stop a _ (direction_stops k way u m1 w)), (m1, (k, u, refl, w), (kind.Do_ at v ∷ m2, (e1, stop b _ (refl, refl)), (m2, refl, (f, t))))))))
into_for p d s ls r (is_for_in {n = n} {e = a} {s = body} {q = q} {u = u} {m = m} {m1 = m1} i e f, t) = ((n, None), r, (kind.In_ at q ∷ m, i, (q, m, (a, (u, body)), refl, (kind.Do_ at u ∷ m1, (e, stop a _ (refl, refl)), (m1, refl, (f, t))))))
into_for p d s ls r (is_empty, t) = true_false t
into_for p d s ls r (is_call g, t) = false_true (designator_begins g)
into_for p d s ls r (is_assignment g e, t) = false_true (designator_begins g)

pub for_to_whole : (p q u : Position) (d : ℕ) (n : Name) (a b : Expression) (way : Direction) (s : Statement) (ks m after m1 m2 m3 m4 r : List Terminal) → IsName n ks m → Marked mark.Assign d q m after → Chain Relational d a after m1 → SomeDirection d way m1 m2 → Chain Relational d b m2 m3 → Marked mark.Do_ d u m3 m4 → SomeStatement d s m4 r → Behind kind.For_ p d (for_to n a way b s) ks r
for_to_whole p q u d n a b way s ks m after m1 m2 m3 m4 r f g i j l o h = (is_for_to {k = j.0} {u = j.1} (subst (λ z. IsName n ks z) g f) (subst (λ z. IsChain Relational d a after z) j.2 i.0) j.3 (subst (λ z. IsChain Relational d b m2 z) o l.0) h.0, h.1)

pub for_in_whole : (p q u : Position) (d : ℕ) (n : Name) (a : Expression) (s : Statement) (ks m after m1 m2 r : List Terminal) → IsName n ks m → Marked mark.In_ d q m after → Chain Relational d a after m1 → Marked mark.Do_ d u m1 m2 → SomeStatement d s m2 r → Behind kind.For_ p d (for_in n a s) ks r
for_in_whole p q u d n a s ks m after m1 m2 r f g i o h = (is_for_in (subst (λ z. IsName n ks z) g f) (subst (λ z. IsChain Relational d a after z) o i.0) h.0, h.1)

out_of_for : (p : Position) (d : ℕ) (x : Name × Option (Expression × (Direction × (Expression × (Position × Statement))))) (ls r : List Terminal) → Seq SomeName ForRest d x ls r → (s : Statement) × Behind kind.For_ p d s ls r
out_of_for p d (n, Some (a, (way, (b, (v, s))))) ls r (m, f, (q, k, e, (m1, g, (m2, h, (m3, i, (m4, j, w)))))) = (for_to n a way b s, for_to_whole p q v d n a b way s ls m k m1 m2 m3 m4 r f e g h i j w)
out_of_for p d (n, None) ls r (m, f, (q, k, (a, (u, s)), e, (m1, g, (m2, h, w)))) = (for_in n a s, for_in_whole p q u d n a s ls m k m1 m2 r f e g h w)

for_parts : (p : Position) (d : ℕ) (end : Place) (ks : List Terminal) (e : ParseError) → Refuses (Seq SomeName ForRest) d end ks e → Refuses (Behind kind.For_ p) d end ks e
for_parts p d end ks e h = refuses_map (Seq SomeName ForRest) (Behind kind.For_ p) d end ks e (λ d' b ls r s x. into_for p d' b ls r x) (hands_as (Seq SomeName ForRest) (Behind kind.For_ p) d ks (λ i y ls r s x. out_of_for p i y ls r x)) h

-- an expression, `do` and nothing
do_it : (p : Position) → Sample WhileParts Any
do_it p = record {
  tokens = kind.Identifier [] at p ∷ kind.Do_ at p ∷ [];
  behind = [];
  part = (a_name p, (p, empty));
  stands = λ i. (kind.Do_ at p ∷ [], (name_alone (suc i) p (kind.Do_ at p ∷ []), stop (a_name p) (kind.Do_ at p ∷ []) (refl, refl)), ([], refl, (is_empty, tt)));
  fits = tt;
}

-- `in` in front of that
in_it : (p : Position) → Sample ForRest Any
in_it p = let it = do_it p in record { tokens = kind.In_ at p ∷ it.tokens; behind = it.behind; part = None; stands = λ i. (p, it.tokens ++ it.behind, it.part, refl, it.stands i); fits = tt }

out_of_in : (d : ℕ) (ks : List Terminal) → HandsOn (Marked mark.In_) d ks ForRest d ks
out_of_in d ks q x = hands_as (Seq (Marked mark.In_) WhileParts) ForRest d ks (λ i y ls r s f. (None, (y.0, f.0, y.1, f.1, f.2))) q (hands_mark mark.In_ WhileParts d ks do_it q x)

pub fits_name : Fits SomeName Any
fits_name d n ks r p = let s = front_name p in (s.0, s.1, s.2, λ x c. s.3 x)

fits_direction : Fits SomeDirection Any
fits_direction d n ks r p = (λ x. p.0 at p.1 ∷ x, cut_one (p.0 at p.1) cut_none, p.2, λ x c. (p.0, p.1, refl, p.3))

pub for_variable : (p : Position) (d : ℕ) (end : Place) (ks : List Terminal) (e : ParseError) → Refuses SomeName d end ks e → Refuses (Behind kind.For_ p) d end ks e
for_variable p d end ks e h = for_parts p d end ks e (refuses_first SomeName ForRest d end ks e (hands_first SomeName ForRest Any d ks fits_name in_it) h)

in_of_rest : (m : List Terminal) → NoMark mark.Assign m → (d : ℕ) (x : Option (Expression × (Direction × (Expression × (Position × Statement))))) (ls r : List Terminal) → SameHead m ls → ForRest d x ls r → Some_ (Marked mark.In_) d ls
in_of_rest m none d (Some x) ls r s (q, n, e, f) = absurd (no_mark_same mark.Assign m ls s none q n e)
in_of_rest m none d None ls r s (q, n, x, e, f) = (q, n, e)

pub for_in_missing : (p : Position) (d : ℕ) (end : Place) (n : Name) (ks m : List Terminal) (e : ParseError) → IsName n ks m → NoMark mark.Assign m → Refuses (Marked mark.In_) d end m e → Refuses (Behind kind.For_ p) d end ks e
for_in_missing p d end n ks m e f none h = for_parts p d end ks e (refuses_after SomeName ForRest d end n ks m e known_name f (refuses_map (Marked mark.In_) ForRest d end m e (in_of_rest m none) (out_of_in d m) h))

to_of_rest : (q : Position) (d : ℕ) (x : Option (Expression × (Direction × (Expression × (Position × Statement))))) (ls r : List Terminal) → ForRest d x (kind.Assign at q ∷ ls) r → Some_ ForTo d ls
to_of_rest q d (Some x) ls r (u, n, e, f) = (x, r, subst (λ z. ForTo d x z r) (sym (ap behind e)) f)
to_of_rest q d None ls r (u, n, x, e, f) = let clash : kind.Assign ≡ kind.In_ = kind_same e in absurd cc

in_rest : (q : Position) (d : ℕ) (x : Option (Expression × (Direction × (Expression × (Position × Statement))))) (ls r : List Terminal) → ForRest d x (kind.In_ at q ∷ ls) r → Some_ WhileParts d ls
in_rest q d (Some x) ls r (u, n, e, f) = let clash : kind.In_ ≡ kind.Assign = kind_same e in absurd cc
in_rest q d None ls r (u, n, x, e, f) = (x, r, subst (λ z. WhileParts d x z r) (sym (ap behind e)) f)

for_to_refuses : (p q : Position) (d : ℕ) (end : Place) (n : Name) (ks m after : List Terminal) (e : ParseError) → IsName n ks m → Marked mark.Assign d q m after → Refuses ForTo d end after e → Refuses (Behind kind.For_ p) d end ks e
for_to_refuses p q d end n ks m after e f g h = for_parts p d end ks e (refuses_after SomeName ForRest d end n ks m e known_name f (subst (λ z. Refuses ForRest d end z e) (sym g) (refuses_behind ForTo ForRest d end (kind.Assign at q) after e (to_of_rest q) (hands_behind ForTo ForRest d (kind.Assign at q) after (λ i x ls r f. (Some x, (q, ls, refl, f)))) h)))

pub for_in_refuses : (p q : Position) (d : ℕ) (end : Place) (n : Name) (ks m after : List Terminal) (e : ParseError) → IsName n ks m → Marked mark.In_ d q m after → Refuses WhileParts d end after e → Refuses (Behind kind.For_ p) d end ks e
for_in_refuses p q d end n ks m after e f g h = for_parts p d end ks e (refuses_after SomeName ForRest d end n ks m e known_name f (subst (λ z. Refuses ForRest d end z e) (sym g) (refuses_behind WhileParts ForRest d end (kind.In_ at q) after e (in_rest q) (hands_behind WhileParts ForRest d (kind.In_ at q) after (λ i x ls r f. (None, (q, ls, x, refl, f)))) h)))

-- `to`, an expression, `do` and nothing
to_it : (p : Position) → Sample (Seq SomeDirection WhileParts) Stops
to_it p = record {
  tokens = kind.To at p ∷ kind.Identifier [] at p ∷ kind.Do_ at p ∷ [];
  behind = [];
  part = (direction.To, (a_name p, (p, empty)));
  stands = λ i. (kind.Identifier [] at p ∷ kind.Do_ at p ∷ [], (kind.To, p, refl, refl), (kind.Do_ at p ∷ [], (name_alone (suc i) p (kind.Do_ at p ∷ []), stop (a_name p) (kind.Do_ at p ∷ []) (refl, refl)), ([], refl, (is_empty, tt))));
  fits = (refl, refl);
}

pub for_first : (p q : Position) (d : ℕ) (end : Place) (n : Name) (ks m after : List Terminal) (e : ParseError) → IsName n ks m → Marked mark.Assign d q m after → Refuses (Chain Relational) d end after e → Refuses (Behind kind.For_ p) d end ks e
for_first p q d end n ks m after e f g h = for_to_refuses p q d end n ks m after e f g (refuses_first (Chain Relational) (Seq SomeDirection WhileParts) d end after e (hands_first (Chain Relational) (Seq SomeDirection WhileParts) Stops d after (fits_chain Relational) to_it) h)

pub for_direction : (p q : Position) (d : ℕ) (end : Place) (n : Name) (a : Expression) (ks m after m1 : List Terminal) (e : ParseError) → IsName n ks m → Marked mark.Assign d q m after → Chain Relational d a after m1 → Refuses SomeDirection d end m1 e → Refuses (Behind kind.For_ p) d end ks e
for_direction p q d end n a ks m after m1 e f g i h = for_to_refuses p q d end n ks m after e f g (refuses_after (Chain Relational) (Seq SomeDirection WhileParts) d end a after m1 e (known_chain Relational) i (refuses_first SomeDirection WhileParts d end m1 e (hands_first SomeDirection WhileParts Any d m1 fits_direction do_it) h))

pub for_last : (p q : Position) (d : ℕ) (end : Place) (n : Name) (a : Expression) (way : Direction) (ks m after m1 m2 : List Terminal) (e : ParseError) → IsName n ks m → Marked mark.Assign d q m after → Chain Relational d a after m1 → SomeDirection d way m1 m2 → Refuses WhileParts d end m2 e → Refuses (Behind kind.For_ p) d end ks e
for_last p q d end n a way ks m after m1 m2 e f g i j h = for_to_refuses p q d end n ks m after e f g (refuses_after (Chain Relational) (Seq SomeDirection WhileParts) d end a after m1 e (known_chain Relational) i (refuses_after SomeDirection WhileParts d end way m1 m2 e known_direction j h))

-- a word begins a statement
pub word_begins : (w : Word) → begins_statement (kind_of_word w) ≡ true
word_begins word.Begin = refl
word_begins word.If_ = refl
word_begins word.Case = refl
word_begins word.While_ = refl
word_begins word.Repeat = refl
word_begins word.For_ = refl
word_begins word.Try_ = refl
word_begins word.Inherited = refl

-- ---- directions

no_way_at : (d : ℕ) (way : Direction) (ls r : List Terminal) → SameHead [] ls → SomeDirection d way ls r → ⊥
no_way_at d way [] r s (k, p, e, h) = absurd cc
no_way_at d way (t ∷ ls) r s f = s

pub direction_none : (d : ℕ) (end : Place) (e : ParseError) → e ≡ refused_at 9 0 end [] → Refuses SomeDirection d end [] e
direction_none d end e x = syntax [] x (λ d'. dead_here (SomeDirection d') [] (no_way_at d'))

no_way : (k : TokenKind) (p : Position) (ks : List Terminal) → direction_of k ≡ None → (d : ℕ) (way : Direction) (ls r : List Terminal) → SameHead (k at p ∷ ks) ls → SomeDirection d way ls r → ⊥
no_way k p ks h d way [] r s f = s
no_way k p ks h d way (t ∷ ls) r s (k1, p1, e, h1) = none_of_some (sym h1 ∙ (ap direction_of (sym (kind_same (ap (λ z. z ∷ ls) s ∙ e))) ∙ h))

pub direction_missing : (d : ℕ) (end : Place) (k : TokenKind) (p : Position) (ks : List Terminal) (e : ParseError) → direction_of k ≡ None → e ≡ refused_at 9 0 end (k at p ∷ ks) → Refuses SomeDirection d end (k at p ∷ ks) e
direction_missing d end k p ks e h x = syntax (k at p ∷ ks) x (λ d'. dead_here (SomeDirection d') (k at p ∷ ks) (no_way k p ks h d'))
