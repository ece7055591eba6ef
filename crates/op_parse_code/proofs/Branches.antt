-- The statement `case` and its branches.
use Rattle.std.proofs.Common.{◌≡◌, ℕ, Bool, true, false, List, [], ◌∷◌, ◌++◌, Option, Some, None, refl, sym, ap, ◌∙◌, subst}
use Rattle.op_base.specs.declared.place.Place.{Place}
use Rattle.op_parse_code.proofs.Cuts.{IsCut, cut_none, cut_one, cut_join}
use Rattle.op_parse_code.proofs.ExpressionFronts.{front_elements}
use Rattle.op_parse_code.proofs.Living.{Fits, Sample, Any, hands_as, hands_behind, hands_first}
use Rattle.op_parse_code.proofs.StatementFronts.{front_statement}
use Rattle.op_parse_code.proofs.Lists.{Reading, reading_more, reading_ends, reading_last, kind_same}
use Rattle.op_parse_code.proofs.Refusing.{Some_, Seq, Known, HandsOn, refuses_map, refuses_first, refuses_after, refuses_behind, dead_here, no_mark_same}
use Rattle.op_parse_code.proofs.StatementKnown.{known_labels, known_statement}
use Rattle.op_parse_code.proofs.Statements.{closed, ends_all, Headed, Heads, StatementsEnd, Rests, fits_statement}
use Rattle.op_parse_code.specs.Refusal.{Phrase, SameHead, Refuses, syntax, refused_at}
use Rattle.op_parse_code.specs.Whole.{Chain, Marked, NoMark, ElementsBefore}
use Rattle.op_parse_code.specs.WholeStatement.{SomeStatement, SomeStatements, SomeBranches, Behind, front_is}
use Rattle.op_parse_code.specs.declared.error.ParseError.{ParseError}
use Rattle.op_parse_code.specs.declared.mark.Mark.TheVariants as mark
use Rattle.op_scan.specs.declared.token.TokenKind.{TokenKind}
use Rattle.op_scan.specs.declared.token.TokenKind.TheVariants as kind
use Rattle.op_tree.proofs.ExpressionUnique.{behind, stop, designator_begins, true_false, false_true}
use Rattle.op_tree.proofs.StatementUnique.{ends, ends_closed, ends_list}
use Rattle.op_tree.specs.Expression.{Expression, Elements}
use Rattle.op_tree.specs.ExpressionGrammar.{IsChain}
use Rattle.op_tree.specs.Lists.{branches_of}
use Rattle.op_tree.specs.Statement.{Statement, empty, case_of, case_else, Statements, Branches, no_branches, branches, elements_of, stmt_of}
use Rattle.op_tree.specs.StatementGrammar.{IsStatement, is_empty, is_call, is_assignment, is_case, is_case_else, AreStatements, AreBranches, are_no_branches, are_branches, is_branch_before_end, is_branch_before_else}
use Rattle.op_tree.specs.Terminal.{Terminal, ◌at◌}
use Rattle.op_tree.specs.declared.operator.Level.TheVariants.{Relational}
use Rattle.op_tree.specs.declared.position.Position.{Position}
use Rattle.op_tree.specs.declared.statement.Branch.{Branch}

-- ---- the end of a list

-- what ends a list is `end` or `else`
pub data EndsWith (r : List Terminal) : Type 0 where
  at_end : (p : Position) (m : List Terminal) → r ≡ kind.End at p ∷ m → EndsWith r
  at_else : (p : Position) (m : List Terminal) → r ≡ kind.Else_ at p ∷ m → EndsWith r

list_kind : (k : TokenKind) (p : Position) (m : List Terminal) → ends_list k ≡ true → EndsWith (k at p ∷ m)
list_kind kind.End p m h = at_end p m refl
list_kind kind.Else_ p m h = at_else p m refl
list_kind other p m h = absurd cc

pub ends_with : (r : List Terminal) → front_is ends_list r ≡ true → EndsWith r
ends_with [] h = absurd cc
ends_with (t ∷ r) h = list_kind t.kind t.position r h

-- ---- lists up to `end` or `else`

-- what stands behind the statement of a part
abbrev pub EndTail : {B : Type 0} → Phrase B → ℕ → Option B → List Terminal → List Terminal → Type 0
EndTail More d None ks r = (front_is ends_list ks ≡ true) × (ks ≡ r)
EndTail More d (Some more) ks r = (p : Position) × (m : List Terminal) × (ks ≡ kind.Semicolon at p ∷ m) × More d more m r

abbrev pub LedBody : {B : Type 0} → Phrase B → Phrase (Statement × Option B)
LedBody More = Seq SomeStatement (EndTail More)

-- A list of parts, each a lead and a statement, with semicolons between them: how parts are put together, and what the list of
-- nodes says.
pub record Led {A X B : Type 0} (Lead : Phrase A) (More : Phrase B) (of : X → A) (body : X → Statement) (add : X → B → B) (whole : List X → B) : Type 0 where
  pub none : B
  pub known : Known Lead
  pub split : (d : ℕ) (b : B) (ls r : List Terminal) → front_is ends_list ls ≡ false → More d b ls r → Some_ (Seq Lead (LedBody More)) d ls
  pub join : (d : ℕ) (y : A × (Statement × Option B)) (ls r : List Terminal) → Seq Lead (LedBody More) d y ls r → (b : B) × More d b ls r
  pub begins : (d : ℕ) (ks : List Terminal) → HandsOn Lead d ks (Seq Lead (LedBody More)) d ks
  pub nothing : (d : ℕ) (ks : List Terminal) → front_is ends_list ks ≡ true → More d none ks ks
  pub last : (d : ℕ) (x : X) (ks m n : List Terminal) → Lead d (of x) ks m → SomeStatement d (body x) m n → front_is ends_list n ≡ true → More d (add x none) ks n
  pub next : (d : ℕ) (x : X) (more : B) (ks m n r : List Terminal) (p : Position) → Lead d (of x) ks m → IsStatement d (body x) m (kind.Semicolon at p ∷ n) → More d more n r → More d (add x more) ks r
  pub empty : whole [] ≡ none
  pub added : (x : X) (xs : List X) → whole (x ∷ xs) ≡ add x (whole xs)

pub same_front_false : (test : TokenKind → Bool) (r r' : List Terminal) → SameHead r r' → front_is test r ≡ false → front_is test r' ≡ false
same_front_false test [] [] s h = h
same_front_false test [] (u ∷ r') s h = absurd s
same_front_false test (t ∷ r) [] s h = absurd s
same_front_false test (t ∷ r) (u ∷ r') s h = subst (λ (z : Terminal). test z.kind ≡ false) s h

led_refuses : {A X B : Type 0} {Lead : Phrase A} {More : Phrase B} {of : X → A} {body : X → Statement} {add : X → B → B} {whole : List X → B} (l : Led Lead More of body add whole) (d : ℕ) (end : Place) (ks : List Terminal) (e : ParseError) → front_is ends_list ks ≡ false → Refuses (Seq Lead (LedBody More)) d end ks e → Refuses More d end ks e
led_refuses {Lead = Lead} {More = More} l d end ks e h x = refuses_map (Seq Lead (LedBody More)) More d end ks e (λ d' b ls r s f. l.split d' b ls r (same_front_false ends_list ks ls s h) f) (hands_as (Seq Lead (LedBody More)) More d ks (λ i y ls r s f. l.join i y ls r f)) x

pub led_ends : {A X B : Type 0} {Lead : Phrase A} {More : Phrase B} {of : X → A} {body : X → Statement} {add : X → B → B} {whole : List X → B} (l : Led Lead More of body add whole) (d : ℕ) (end : Place) (all rest : List Terminal) (xs : List X) → Reading add More d end all xs rest → front_is ends_list rest ≡ true → More d (whole xs) all rest
led_ends {More = More} {add = add} {whole = whole} l d end all rest xs so_far h = reading_ends add l.none whole More d end all rest rest xs l.empty l.added so_far (l.nothing d rest h)

pub led_lead : {A X B : Type 0} {Lead : Phrase A} {More : Phrase B} {of : X → A} {body : X → Statement} {add : X → B → B} {whole : List X → B} (l : Led Lead More of body add whole) (d : ℕ) (end : Place) (all rest : List Terminal) (xs : List X) (e : ParseError) → Reading add More d end all xs rest → front_is ends_list rest ≡ false → Refuses Lead d end rest e → Refuses More d end all e
led_lead {Lead = Lead} {More = More} l d end all rest xs e so_far h x = so_far.dies e (led_refuses l d end rest e h (refuses_first Lead (LedBody More) d end rest e (l.begins d rest) x))

no_others : {B : Type 0} (More : Phrase B) → Position → Sample (EndTail More) Rests
no_others More p = record { tokens = []; behind = kind.End at p ∷ []; part = None; stands = λ i. (refl, refl); fits = (refl, refl) }

-- an empty statement up to `end`
pub empty_body : {B : Type 0} (More : Phrase B) → Position → Sample (LedBody More) Any
empty_body More p = record { tokens = []; behind = kind.End at p ∷ []; part = (empty, None); stands = λ i. (kind.End at p ∷ [], (is_empty, refl), (refl, refl)); fits = tt }

pub led_body : {A X B : Type 0} {Lead : Phrase A} {More : Phrase B} {of : X → A} {body : X → Statement} {add : X → B → B} {whole : List X → B} (l : Led Lead More of body add whole) (d : ℕ) (end : Place) (a : A) (all rest m : List Terminal) (xs : List X) (e : ParseError) → Reading add More d end all xs rest → front_is ends_list rest ≡ false → Lead d a rest m → Refuses SomeStatement d end m e → Refuses More d end all e
led_body {Lead = Lead} {More = More} l d end a all rest m xs e so_far h f x = so_far.dies e (led_refuses l d end rest e h (refuses_after Lead (LedBody More) d end a rest m e l.known f (refuses_first SomeStatement (EndTail More) d end m e (hands_first SomeStatement (EndTail More) Rests d m fits_statement (no_others More)) x)))

led_tail : {A X B : Type 0} {Lead : Phrase A} {More : Phrase B} {of : X → A} {body : X → Statement} {add : X → B → B} {whole : List X → B} (l : Led Lead More of body add whole) (d : ℕ) (end : Place) (a : A) (s : Statement) (ks m n : List Terminal) (e : ParseError) → front_is ends_list ks ≡ false → Lead d a ks m → SomeStatement d s m n → Refuses (EndTail More) d end n e → Refuses More d end ks e
led_tail {Lead = Lead} {More = More} l d end a s ks m n e h f g x = led_refuses l d end ks e h (refuses_after Lead (LedBody More) d end a ks m e l.known f (refuses_after SomeStatement (EndTail More) d end s m n e known_statement g x))

no_tail : {B : Type 0} (More : Phrase B) (n : List Terminal) → NoMark mark.Semicolon n → front_is ends_list n ≡ false → (d : ℕ) (x : Option B) (ls r : List Terminal) → SameHead n ls → EndTail More d x ls r → ⊥
no_tail More n none h d None ls r s (f, e) = true_false (sym f ∙ same_front_false ends_list n ls s h)
no_tail More n none h d (Some more) ls r s (p, m, e, f) = no_mark_same mark.Semicolon n ls s none p m e

pub led_stops : {A X B : Type 0} {Lead : Phrase A} {More : Phrase B} {of : X → A} {body : X → Statement} {add : X → B → B} {whole : List X → B} (l : Led Lead More of body add whole) (d : ℕ) (end : Place) (a : A) (s : Statement) (all rest m n : List Terminal) (xs : List X) (e : ParseError) → Reading add More d end all xs rest → front_is ends_list rest ≡ false → Lead d a rest m → SomeStatement d s m n → NoMark mark.Semicolon n → front_is ends_list n ≡ false → e ≡ refused_at 9 0 end n → Refuses More d end all e
led_stops {More = More} l d end a s all rest m n xs e so_far h f g none h1 x = so_far.dies e (led_tail l d end a s rest m n e h f g (syntax n x (λ d'. dead_here (EndTail More d') n (λ y ls r z w. no_tail More n none h1 d' y ls r z w))))

tail_behind : {B : Type 0} (More : Phrase B) (p : Position) (d : ℕ) (x : Option B) (ls r : List Terminal) → EndTail More d x (kind.Semicolon at p ∷ ls) r → Some_ More d ls
tail_behind More p d None ls r (f, e) = false_true f
tail_behind More p d (Some more) ls r (q, m, e, f) = (more, r, subst (λ z. More d more z r) (sym (ap behind e)) f)

pub led_more : {A X B : Type 0} {Lead : Phrase A} {More : Phrase B} {of : X → A} {body : X → Statement} {add : X → B → B} {whole : List X → B} (l : Led Lead More of body add whole) (d : ℕ) (end : Place) (all rest m n : List Terminal) (xs : List X) (x : X) (p : Position) (after : List Terminal) → Reading add More d end all xs rest → front_is ends_list rest ≡ false → Lead d (of x) rest m → SomeStatement d (body x) m n → n ≡ kind.Semicolon at p ∷ after → Reading add More d end all (xs ++ (x ∷ [])) after
led_more {More = More} {of = of} {body = body} {add = add} l d end all rest m n xs x p after so_far h f g is =
    reading_more add More d end all rest xs x after so_far
    (λ more r w. l.next d x more rest m after r p f (subst (λ z. IsStatement d (body x) m z) is g.0) w)
    (λ e w. led_tail l d end (of x) (body x) rest m n e h f g (subst (λ z. Refuses (EndTail More) d end z e) (sym is) (refuses_behind More (EndTail More) d end (kind.Semicolon at p) after e (tail_behind More p) (hands_behind More (EndTail More) d (kind.Semicolon at p) after (λ i x ls r f. (Some x, (p, ls, refl, f)))) w)))

pub led_last : {A X B : Type 0} {Lead : Phrase A} {More : Phrase B} {of : X → A} {body : X → Statement} {add : X → B → B} {whole : List X → B} (l : Led Lead More of body add whole) (d : ℕ) (end : Place) (all rest m n : List Terminal) (xs : List X) (x : X) → Reading add More d end all xs rest → Lead d (of x) rest m → SomeStatement d (body x) m n → front_is ends_list n ≡ true → More d (whole (xs ++ (x ∷ []))) all n
led_last {More = More} {add = add} {whole = whole} l d end all rest m n xs x so_far f g h = reading_last add l.none whole More d end all rest n xs x l.empty l.added so_far (l.last d x rest m n f g h)

-- ---- branches

abbrev BranchParts : Phrase (Elements × (Statement × Option Branches))
BranchParts = Seq (ElementsBefore mark.Colon) (LedBody SomeBranches)

into_branch : (d : ℕ) (bs : Branches) (ls r : List Terminal) → front_is ends_list ls ≡ false → SomeBranches d bs ls r → Some_ BranchParts d ls
into_branch d bs ls r h (are_no_branches, t) = true_false (sym t ∙ h)
into_branch d bs ls r h (are_branches {ls = labels} {s = s} {bs = more} {p = p} {q = q} {m = m} {n = n} a f g, t) = ((labels, (s, Some more)), r, (m, (p, a), (kind.Semicolon at q ∷ n, (f, ends s _ refl refl), (q, n, refl, (g, t)))))
into_branch d bs ls r h (is_branch_before_end {ls = labels} {s = s} {p = p} {q = q} {m = m} {r = r1} a f, t) = ((labels, (s, None)), kind.End at q ∷ r1, (m, (p, a), (kind.End at q ∷ r1, (f, ends s _ refl refl), (refl, refl))))
into_branch d bs ls r h (is_branch_before_else {ls = labels} {s = s} {p = p} {q = q} {m = m} {r = r1} a f shut, t) = ((labels, (s, None)), kind.Else_ at q ∷ r1, (m, (p, a), (kind.Else_ at q ∷ r1, (f, ends_closed s _ refl shut), (refl, refl))))

last_branch : (d : ℕ) (ls : Elements) (s : Statement) (ks m n : List Terminal) → ElementsBefore mark.Colon d ls ks m → SomeStatement d s m n → EndsWith n → AreBranches d (branches ls s no_branches) ks n
last_branch d ls s ks m n f g (at_end p r is) = subst (λ z. AreBranches d (branches ls s no_branches) ks z) (sym is) (is_branch_before_end f.1 (subst (λ z. IsStatement d s m z) is g.0))
last_branch d ls s ks m n f g (at_else p r is) =
    let w : SomeStatement d s m (kind.Else_ at p ∷ r) = subst (λ z. SomeStatement d s m z) is g in
    subst (λ z. AreBranches d (branches ls s no_branches) ks z) (sym is) (is_branch_before_else f.1 w.0 (closed s p r w.1))

branch_join : (d : ℕ) (y : Elements × (Statement × Option Branches)) (ls r : List Terminal) → BranchParts d y ls r → (bs : Branches) × SomeBranches d bs ls r
branch_join d (labels, (s, None)) ls r (m, f, (n, g, (h, e))) = let h1 = subst (λ z. front_is ends_list z ≡ true) e h in (branches labels s no_branches, (last_branch d labels s ls m r f (subst (λ z. SomeStatement d s m z) e g) (ends_with r h1), h1))
branch_join d (labels, (s, Some more)) ls r (m, f, (n, g, (q, k, e, h))) = (branches labels s more, (are_branches f.1 (subst (λ z. IsStatement d s m z) e g.0) h.0, h.1))

fits_labels : Fits (ElementsBefore mark.Colon) Any
fits_labels d ls ks r p = let s = front_elements p.1 in (λ x. s.0 (kind.Colon at p.0 ∷ x), cut_join s.1 (cut_one (kind.Colon at p.0) cut_none), s.2, λ x c. (p.0, s.3 (kind.Colon at p.0 ∷ x)))

-- ---- branches before `end`

abbrev pub EndsIt : List Terminal → Type 0
EndsIt x = (p : Position) × (y : List Terminal) × (x ≡ kind.End at p ∷ y)

branches_end : {d : ℕ} {bs : Branches} {ks r : List Terminal} → AreBranches d bs ks r → (f : List Terminal → List Terminal) × IsCut f × (ks ≡ f r) × ((u : Position) (y : List Terminal) → AreBranches d bs (f (kind.End at u ∷ y)) (kind.End at u ∷ y))
branches_end are_no_branches = (λ x. x, cut_none, refl, λ u y. are_no_branches)
branches_end (are_branches {p = p} {q = q} ls f bs) =
    let a = front_elements ls in
    let b = front_statement f in
    let c = branches_end bs in
    (λ x. a.0 (kind.Colon at p ∷ b.0 (kind.Semicolon at q ∷ c.0 x)), cut_join a.1 (cut_one (kind.Colon at p) (cut_join b.1 (cut_one (kind.Semicolon at q) c.1))), a.2 ∙ ap (λ z. a.0 (kind.Colon at p ∷ z)) (b.2 ∙ ap (λ z. b.0 (kind.Semicolon at q ∷ z)) c.2), λ u y. are_branches (a.3 (kind.Colon at p ∷ b.0 (kind.Semicolon at q ∷ c.0 (kind.End at u ∷ y)))) (b.3 (kind.Semicolon at q ∷ c.0 (kind.End at u ∷ y))) (c.3 u y))
branches_end (is_branch_before_end {p = p} ls f) =
    let a = front_elements ls in
    let b = front_statement f in
    (λ x. a.0 (kind.Colon at p ∷ b.0 x), cut_join a.1 (cut_one (kind.Colon at p) b.1), a.2 ∙ ap (λ z. a.0 (kind.Colon at p ∷ z)) b.2, λ u y. is_branch_before_end (a.3 (kind.Colon at p ∷ b.0 (kind.End at u ∷ y))) (b.3 (kind.End at u ∷ y)))
branches_end (is_branch_before_else {p = p} ls f shut) =
    let a = front_elements ls in
    let b = front_statement f in
    (λ x. a.0 (kind.Colon at p ∷ b.0 x), cut_join a.1 (cut_one (kind.Colon at p) b.1), a.2 ∙ ap (λ z. a.0 (kind.Colon at p ∷ z)) b.2, λ u y. is_branch_before_end (a.3 (kind.Colon at p ∷ b.0 (kind.End at u ∷ y))) (b.3 (kind.End at u ∷ y)))

pub fits_branches : Fits SomeBranches EndsIt
fits_branches d bs ks r p = let w = branches_end p.0 in (w.0, w.1, w.2, λ x c. (subst (λ z. AreBranches d bs (w.0 z) z) (sym c.2) (w.3 c.0 c.1), subst (λ z. front_is ends_list z ≡ true) (sym c.2) refl))

abbrev pub add_branch : Branch → Branches → Branches
add_branch x more = branches (elements_of x.labels.items) (stmt_of x.body) more

pub branches_list : Led (ElementsBefore mark.Colon) SomeBranches (λ (x : Branch). elements_of x.labels.items) (λ (x : Branch). stmt_of x.body) add_branch branches_of
branches_list = record {
  none = no_branches;
  known = known_labels;
  split = into_branch;
  join = branch_join;
  begins = λ d ks. hands_first (ElementsBefore mark.Colon) (LedBody SomeBranches) Any d ks fits_labels (empty_body SomeBranches);
  nothing = λ d ks h. (are_no_branches, h);
  last = λ d x ks m n f g h. (last_branch d (elements_of x.labels.items) (stmt_of x.body) ks m n f g (ends_with n h), h);
  next = λ d x more ks m n r p f g w. (are_branches f.1 g w.0, w.1);
  empty = refl;
  added = λ x xs. refl;
}

-- ---- case

-- what stands behind the branches
abbrev pub CaseEnd : ℕ → Option Statements → List Terminal → List Terminal → Type 0
CaseEnd d None ks r = (u : Position) × (ks ≡ kind.End at u ∷ r)
CaseEnd d (Some ss) ks r = (u v : Position) × (n : List Terminal) × (ks ≡ kind.Else_ at u ∷ n) × AreStatements d ss n (kind.End at v ∷ r)

abbrev pub CaseBranches : Phrase (Branches × Option Statements)
CaseBranches = Seq SomeBranches CaseEnd

abbrev CaseParts : Phrase (Expression × (Position × (Branches × Option Statements)))
CaseParts = Headed mark.Of CaseBranches

into_case : (p : Position) (d : ℕ) (s : Statement) (ls r : List Terminal) → Behind kind.Case p d s ls r → Some_ CaseParts d ls
into_case p d s ls r (is_empty, t) = true_false t
into_case p d s ls r (is_case {e = e} {bs = bs} {q = q} {u = u} {m = m} f g, t) = ((e, (q, (bs, None))), r, (kind.Of at q ∷ m, (f, stop e _ (refl, refl)), (m, refl, (kind.End at u ∷ r, (g, refl), (u, refl)))))
into_case p d s ls r (is_case_else {e = e} {bs = bs} {ss = ss} {q = q} {u = u} {v = v} {m = m} {n = n} f g h, t) = ((e, (q, (bs, Some ss))), r, (kind.Of at q ∷ m, (f, stop e _ (refl, refl)), (m, refl, (kind.Else_ at u ∷ n, (g, refl), (u, v, n, refl, h)))))
into_case p d s ls r (is_call g, t) = false_true (designator_begins g)
into_case p d s ls r (is_assignment g e, t) = false_true (designator_begins g)

pub case_whole : (p q u : Position) (d : ℕ) (c : Expression) (bs : Branches) (ks m n o r : List Terminal) → Chain Relational d c ks m → Marked mark.Of d q m n → SomeBranches d bs n o → Marked mark.End d u o r → Behind kind.Case p d (case_of c bs) ks r
case_whole p q u d c bs ks m n o r f g i j = (is_case (subst (λ z. IsChain Relational d c ks z) g f.0) (subst (λ z. AreBranches d bs n z) j i.0), tt)

pub case_else_whole : (p q u v : Position) (d : ℕ) (c : Expression) (bs : Branches) (ss : Statements) (ks m n o after o1 r : List Terminal) → Chain Relational d c ks m → Marked mark.Of d q m n → SomeBranches d bs n o → Marked mark.Else_ d u o after → SomeStatements d ss after o1 → Marked mark.End d v o1 r → Behind kind.Case p d (case_else c bs ss) ks r
case_else_whole p q u v d c bs ss ks m n o after o1 r f g i j k l = (is_case_else (subst (λ z. IsChain Relational d c ks z) g f.0) (subst (λ z. AreBranches d bs n z) j i.0) (subst (λ z. AreStatements d ss after z) l k.0), tt)

out_of_case : (p : Position) (d : ℕ) (x : Expression × (Position × (Branches × Option Statements))) (ls r : List Terminal) → CaseParts d x ls r → (s : Statement) × Behind kind.Case p d s ls r
out_of_case p d (c, (q, (bs, None))) ls r (m, f, (n, g, (o, h, (u, e)))) = (case_of c bs, case_whole p q u d c bs ls m n o r f g h e)
out_of_case p d (c, (q, (bs, Some ss))) ls r (m, f, (n, g, (o, h, (u, v, k, e, i)))) = (case_else c bs ss, case_else_whole p q u v d c bs ss ls m n o k (kind.End at v ∷ r) r f g h e (i, ends_all i refl refl refl) refl)

-- no branch and `end`
pub of_heads : Heads mark.Of CaseBranches
of_heads = record { stops = λ p r. (refl, refl); least = λ p. record { tokens = kind.End at p ∷ []; behind = []; part = (no_branches, None); stands = λ i. (kind.End at p ∷ [], (are_no_branches, refl), (p, refl)); fits = tt } }

pub case_refuses : (p : Position) (d : ℕ) (end : Place) (ks : List Terminal) (e : ParseError) → Refuses CaseParts d end ks e → Refuses (Behind kind.Case p) d end ks e
case_refuses p d end ks e h = refuses_map CaseParts (Behind kind.Case p) d end ks e (λ d' b ls r s x. into_case p d' b ls r x) (hands_as CaseParts (Behind kind.Case p) d ks (λ i y ls r s x. out_of_case p i y ls r x)) h

end_of_case : (m : List Terminal) → NoMark mark.Else_ m → (d : ℕ) (x : Option Statements) (ls r : List Terminal) → SameHead m ls → CaseEnd d x ls r → Some_ (Marked mark.End) d ls
end_of_case m none d None ls r s (u, e) = (u, r, e)
end_of_case m none d (Some ss) ls r s (u, v, n, e, f) = absurd (no_mark_same mark.Else_ m ls s none u n e)

else_of_case : (u : Position) (d : ℕ) (x : Option Statements) (ls r : List Terminal) → CaseEnd d x (kind.Else_ at u ∷ ls) r → Some_ StatementsEnd d ls
else_of_case u d None ls r (v, e) = let clash : kind.Else_ ≡ kind.End = kind_same e in absurd cc
else_of_case u d (Some ss) ls r (w, v, n, e, f) = ((ss, v), r, subst (λ z. StatementsEnd d (ss, v) z r) (sym (ap behind e)) (kind.End at v ∷ r, (f, ends_all f refl refl refl), refl))

-- behind a list stands `end`, or `else` with statements
end_case : (p : Position) → Sample CaseEnd EndsIt
end_case p = record { tokens = kind.End at p ∷ []; behind = []; part = None; stands = λ i. (p, refl); fits = (p, [], refl) }

pub list_first : {A : Type 0} (P : Phrase A) → Fits P EndsIt → (d : ℕ) (end : Place) (ks : List Terminal) (e : ParseError) → Refuses P d end ks e → Refuses (Seq P CaseEnd) d end ks e
list_first P fit d end ks e h = refuses_first P CaseEnd d end ks e (hands_first P CaseEnd EndsIt d ks fit end_case) h

pub list_end : {A : Type 0} (P : Phrase A) (d : ℕ) (end : Place) (a : A) (ks o : List Terminal) (e : ParseError) → Known P → P d a ks o → NoMark mark.Else_ o → Refuses (Marked mark.End) d end o e → Refuses (Seq P CaseEnd) d end ks e
list_end P d end a ks o e known f none h = refuses_after P CaseEnd d end a ks o e known f (refuses_map (Marked mark.End) CaseEnd d end o e (end_of_case o none) (hands_as (Marked mark.End) CaseEnd d o (λ i u ls r s f. (None, (u, f)))) h)

pub list_else : {A : Type 0} (P : Phrase A) (u : Position) (d : ℕ) (end : Place) (a : A) (ks o after : List Terminal) (e : ParseError) → Known P → P d a ks o → Marked mark.Else_ d u o after → Refuses StatementsEnd d end after e → Refuses (Seq P CaseEnd) d end ks e
list_else P u d end a ks o after e known f j h = refuses_after P CaseEnd d end a ks o e known f (subst (λ z. Refuses CaseEnd d end z e) (sym j) (refuses_behind StatementsEnd CaseEnd d end (kind.Else_ at u) after e (else_of_case u) (hands_behind StatementsEnd CaseEnd d (kind.Else_ at u) after (λ i y ls r f. (Some y.0, (u, y.1, ls, refl, subst (λ z. AreStatements i y.0 ls z) f.2 f.1.0)))) h))
