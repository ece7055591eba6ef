-- The statement `try` and its handlers.
use Rattle.std.proofs.Common.{◌≡◌, ℕ, suc, Bool, true, false, ◌&&◌, List, [], ◌∷◌, ◌++◌, Option, Some, None, codes, map, refl, sym, ap, ◌∙◌, subst}
use Rattle.std.proofs.lemmas.Slice.Eq.{bytes_eq-Decides}
use Rattle.std.specs.Char.{to_ascii_lowercase}
use Rattle.op_base.specs.declared.place.Place.{Place}
use Rattle.op_parse_code.proofs.Branches.{CaseEnd, EndsWith, at_end, at_else, ends_with, same_front_false, Led, LedBody, EndsIt, empty_body}
use Rattle.op_parse_code.proofs.Cuts.{IsCut, cut_none, cut_one, cut_join, same_behind}
use Rattle.op_parse_code.proofs.Lists.{kind_same}
use Rattle.op_parse_code.proofs.Living.{Fits, Sample, Any, hands_as, hands_behind, hands_first, hands_mark}
use Rattle.op_parse_code.proofs.StatementFronts.{front_on, front_statement}
use Rattle.op_parse_code.proofs.Names.{word_kind}
use Rattle.op_parse_code.proofs.Refusing.{Some_, Seq, HandsOn, refuses_map, refuses_first, refuses_after, refuses_behind, dead_here, inside_seen, no_mark_same}
use Rattle.op_parse_code.proofs.StatementKnown.{same_front_is, known_name, known_on, known_statements}
use Rattle.op_parse_code.proofs.Statements.{closed, ends_all, StatementsEnd, RestsAll, fits_name, fits_statements, some_end}
use Rattle.op_parse_code.specs.Opening.{is_word, spelled, is_identifier}
use Rattle.op_parse_code.specs.Refusal.{Phrase, SameHead, Dead, Alive, Refuses, out_of_memory, syntax, nested, in_grammar, Decides, decides_there, decides_behind, refused_at}
use Rattle.op_parse_code.specs.Whole.{Marked, NoMark, SomeName}
use Rattle.op_parse_code.specs.WholeStatement.{SomeStatement, SomeStatements, SomeHandlers, SomeOn, SomeExcept, Rest, finally_rest, except_rest, on_rest, on_else_rest, try_of, IsHandled, ClassTail, class_of, Behind, front_is, begins_handler}
use Rattle.op_parse_code.specs.declared.error.ParseError.{ParseError}
use Rattle.op_parse_code.specs.declared.mark.Mark.TheVariants as mark
use Rattle.op_scan.specs.declared.token.TokenKind.{TokenKind}
use Rattle.op_scan.specs.declared.token.TokenKind.TheVariants as kind
use Rattle.op_tree.proofs.ExpressionUnique.{behind, designator_begins, true_false, false_true}
use Rattle.op_tree.proofs.StatementUnique.{is_identifier as is_identifier_there, ends, ends_closed, ends_list, no_statements_at}
use Rattle.op_tree.specs.Expression.{designator, named, no_selectors}
use Rattle.op_tree.specs.ExpressionGrammar.{is_designator, is_named, are_no_selectors}
use Rattle.op_tree.specs.Lists.{handlers_of}
use Rattle.op_tree.specs.NameGrammar.{IsName, is_name, IsQualified, is_unqualified, is_qualified}
use Rattle.op_tree.specs.Statement.{Statement, empty, call, Statements, no_statements, statements, Handlers, no_handlers, handlers, stmt_of}
use Rattle.op_tree.specs.StatementGrammar.{IsOn, is_on_class, is_on_variable, IsStatement, is_empty, is_call, is_assignment, is_try_finally, is_try_except, is_try_on, is_try_on_else, AreStatements, are_one_statement, AreHandlers, are_no_handlers, are_handlers, is_handler_before_end, is_handler_before_else}
use Rattle.op_tree.specs.Terminal.{Terminal, ◌at◌, IsWord, name}
use Rattle.op_tree.specs.declared.position.Name.{Name}
use Rattle.op_tree.specs.declared.position.Position.{Position}
use Rattle.op_tree.specs.declared.position.QualifiedName.{QualifiedName}
use Rattle.op_tree.specs.declared.statement.Handler.{Handler}

-- ---- handlers

abbrev HandlerParts : Phrase ((Option Name × QualifiedName) × (Statement × Option Handlers))
HandlerParts = Seq SomeOn (LedBody SomeHandlers)

into_handler : (d : ℕ) (hs : Handlers) (ls r : List Terminal) → front_is ends_list ls ≡ false → SomeHandlers d hs ls r → Some_ HandlerParts d ls
into_handler d hs ls r h (are_no_handlers, t) = true_false (sym t ∙ h)
into_handler d hs ls r h (are_handlers {v = v} {c = c} {s = s} {hs = more} {p = p} {m = m} {n = n} o f g, t) = (((v, c), (s, Some more)), r, (m, o, (kind.Semicolon at p ∷ n, (f, ends s _ refl refl), (p, n, refl, (g, t)))))
into_handler d hs ls r h (is_handler_before_end {v = v} {c = c} {s = s} {p = p} {m = m} {r = r1} o f, t) = (((v, c), (s, None)), kind.End at p ∷ r1, (m, o, (kind.End at p ∷ r1, (f, ends s _ refl refl), (refl, refl))))
into_handler d hs ls r h (is_handler_before_else {v = v} {c = c} {s = s} {p = p} {m = m} {r = r1} o f shut, t) = (((v, c), (s, None)), kind.Else_ at p ∷ r1, (m, o, (kind.Else_ at p ∷ r1, (f, ends_closed s _ refl shut), (refl, refl))))

last_handler : (d : ℕ) (v : Option Name) (c : QualifiedName) (s : Statement) (ks m n : List Terminal) → IsOn v c ks m → SomeStatement d s m n → EndsWith n → AreHandlers d (handlers v c s no_handlers) ks n
last_handler d v c s ks m n f g (at_end p r is) = subst (λ z. AreHandlers d (handlers v c s no_handlers) ks z) (sym is) (is_handler_before_end f (subst (λ z. IsStatement d s m z) is g.0))
last_handler d v c s ks m n f g (at_else p r is) =
    let w : SomeStatement d s m (kind.Else_ at p ∷ r) = subst (λ z. SomeStatement d s m z) is g in
    subst (λ z. AreHandlers d (handlers v c s no_handlers) ks z) (sym is) (is_handler_before_else f w.0 (closed s p r w.1))

handler_join : (d : ℕ) (y : (Option Name × QualifiedName) × (Statement × Option Handlers)) (ls r : List Terminal) → HandlerParts d y ls r → (hs : Handlers) × SomeHandlers d hs ls r
handler_join d ((v, c), (s, None)) ls r (m, f, (n, g, (h, e))) = let h1 = subst (λ z. front_is ends_list z ≡ true) e h in (handlers v c s no_handlers, (last_handler d v c s ls m r f (subst (λ z. SomeStatement d s m z) e g) (ends_with r h1), h1))
handler_join d ((v, c), (s, Some more)) ls r (m, f, (n, g, (q, k, e, h))) = (handlers v c s more, (are_handlers f (subst (λ z. IsStatement d s m z) e g.0) h.0, h.1))

fits_on : Fits SomeOn Any
fits_on d x ks r p = let s = front_on p in (s.0, s.1, s.2, λ x c. s.3 x)

-- ---- handlers before `end`

handlers_end : {d : ℕ} {hs : Handlers} {ks r : List Terminal} → AreHandlers d hs ks r → (f : List Terminal → List Terminal) × IsCut f × (ks ≡ f r) × ((u : Position) (y : List Terminal) → AreHandlers d hs (f (kind.End at u ∷ y)) (kind.End at u ∷ y))
handlers_end are_no_handlers = (λ x. x, cut_none, refl, λ u y. are_no_handlers)
handlers_end (are_handlers {p = p} o f hs) =
    let a = front_on o in
    let b = front_statement f in
    let c = handlers_end hs in
    (λ x. a.0 (b.0 (kind.Semicolon at p ∷ c.0 x)), cut_join a.1 (cut_join b.1 (cut_one (kind.Semicolon at p) c.1)), a.2 ∙ ap a.0 (b.2 ∙ ap (λ z. b.0 (kind.Semicolon at p ∷ z)) c.2), λ u y. are_handlers (a.3 (b.0 (kind.Semicolon at p ∷ c.0 (kind.End at u ∷ y)))) (b.3 (kind.Semicolon at p ∷ c.0 (kind.End at u ∷ y))) (c.3 u y))
handlers_end (is_handler_before_end o f) =
    let a = front_on o in
    let b = front_statement f in
    (λ x. a.0 (b.0 x), cut_join a.1 b.1, a.2 ∙ ap a.0 b.2, λ u y. is_handler_before_end (a.3 (b.0 (kind.End at u ∷ y))) (b.3 (kind.End at u ∷ y)))
handlers_end (is_handler_before_else o f shut) =
    let a = front_on o in
    let b = front_statement f in
    (λ x. a.0 (b.0 x), cut_join a.1 b.1, a.2 ∙ ap a.0 b.2, λ u y. is_handler_before_end (a.3 (b.0 (kind.End at u ∷ y))) (b.3 (kind.End at u ∷ y)))

pub fits_handlers : Fits SomeHandlers EndsIt
fits_handlers d hs ks r p = let w = handlers_end p.0 in (w.0, w.1, w.2, λ x c. (subst (λ z. AreHandlers d hs (w.0 z) z) (sym c.2) (w.3 c.0 c.1), subst (λ z. front_is ends_list z ≡ true) (sym c.2) refl))

abbrev pub add_handler : Handler → Handlers → Handlers
add_handler x more = handlers x.variable x.class (stmt_of x.body) more

pub handlers_list : Led SomeOn SomeHandlers (λ (x : Handler). (x.variable, x.class)) (λ (x : Handler). stmt_of x.body) add_handler handlers_of
handlers_list = record {
  none = no_handlers;
  known = known_on;
  split = into_handler;
  join = handler_join;
  begins = λ d ks. hands_first SomeOn (LedBody SomeHandlers) Any d ks fits_on (empty_body SomeHandlers);
  nothing = λ d ks h. (are_no_handlers, h);
  last = λ d x ks m n f g h. (last_handler d x.variable x.class (stmt_of x.body) ks m n f g (ends_with n h), h);
  next = λ d x more ks m n r p f g w. (are_handlers f g w.0, w.1);
  empty = refl;
  added = λ x xs. refl;
}

-- ---- the word `on`

on_test : (text : List ℕ) → IsWord (codes "on") text → is_word (codes "on") (kind.Identifier text) ≡ true
on_test text h = (bytes_eq-Decides (map to_ascii_lowercase text) (map to_ascii_lowercase (codes "on"))).1 h

on_word : {v : Option Name} {c : QualifiedName} {ks r : List Terminal} → IsOn v c ks r → front_is (is_word (codes "on")) ks ≡ true
on_word (is_on_class {on = text} h a) = on_test text h
on_word (is_on_variable {on = text} h n a) = on_test text h

pub on_missing : (d : ℕ) (end : Place) (ks : List Terminal) (e : ParseError) → front_is (is_word (codes "on")) ks ≡ false → e ≡ refused_at 9 0 end ks → Refuses SomeOn d end ks e
on_missing d end ks e h x = syntax ks x (λ d'. dead_here (SomeOn d') ks (λ a ls r s f. true_false (sym (on_word f) ∙ same_front_false (is_word (codes "on")) ks ls s h)))

-- ---- the class

do_of_tail : (m : List Terminal) → NoMark mark.Dot m → (d : ℕ) (x : Option Name) (ls r : List Terminal) → SameHead m ls → ClassTail d x ls r → Some_ (Marked mark.Do_) d ls
do_of_tail m none d None ls r s (u, e) = (u, r, e)
do_of_tail m none d (Some n) ls r s (p, u, k, e, f) = absurd (no_mark_same mark.Dot m ls s none p k e)

pub class_do_missing : (d : ℕ) (end : Place) (ks : List Terminal) (e : ParseError) → NoMark mark.Dot ks → Refuses (Marked mark.Do_) d end ks e → Refuses ClassTail d end ks e
class_do_missing d end ks e none h = refuses_map (Marked mark.Do_) ClassTail d end ks e (do_of_tail ks none) (hands_as (Marked mark.Do_) ClassTail d ks (λ i u ls r s f. (None, (u, f)))) h

behind_dot : (p : Position) (d : ℕ) (x : Option Name) (ls r : List Terminal) → ClassTail d x (kind.Dot at p ∷ ls) r → Some_ (Seq SomeName (Marked mark.Do_)) d ls
behind_dot p d None ls r (u, e) = let clash : kind.Dot ≡ kind.Do_ = kind_same e in absurd cc
behind_dot p d (Some n) ls r (q, u, k, e, f) = ((n, u), r, (kind.Do_ at u ∷ r, subst (λ z. IsName n z (kind.Do_ at u ∷ r)) (sym (ap behind e)) f, refl))

class_behind_dot : (d : ℕ) (end : Place) (p : Position) (ks after : List Terminal) (e : ParseError) → ks ≡ kind.Dot at p ∷ after → Refuses (Seq SomeName (Marked mark.Do_)) d end after e → Refuses ClassTail d end ks e
class_behind_dot d end p ks after e is h = subst (λ z. Refuses ClassTail d end z e) (sym is) (refuses_behind (Seq SomeName (Marked mark.Do_)) ClassTail d end (kind.Dot at p) after e (behind_dot p) (hands_behind (Seq SomeName (Marked mark.Do_)) ClassTail d (kind.Dot at p) after (λ i y ls r f. (Some y.0, (p, y.1, ls, refl, subst (λ z. IsName y.0 ls z) f.2 f.1)))) h)

do_mark : (p : Position) → Sample (Marked mark.Do_) Any
do_mark p = record { tokens = kind.Do_ at p ∷ []; behind = []; part = p; stands = λ i. refl; fits = tt }

do_tail : (p : Position) → Sample ClassTail Any
do_tail p = record { tokens = kind.Do_ at p ∷ []; behind = []; part = None; stands = λ i. (p, refl); fits = tt }

pub class_name_missing : (d : ℕ) (end : Place) (p : Position) (ks after : List Terminal) (e : ParseError) → ks ≡ kind.Dot at p ∷ after → Refuses SomeName d end after e → Refuses ClassTail d end ks e
class_name_missing d end p ks after e is h = class_behind_dot d end p ks after e is (refuses_first SomeName (Marked mark.Do_) d end after e (hands_first SomeName (Marked mark.Do_) Any d after fits_name do_mark) h)

pub class_open : (d : ℕ) (end : Place) (p : Position) (n : Name) (ks after m : List Terminal) (e : ParseError) → ks ≡ kind.Dot at p ∷ after → IsName n after m → Refuses (Marked mark.Do_) d end m e → Refuses ClassTail d end ks e
class_open d end p n ks after m e is f h = class_behind_dot d end p ks after e is (refuses_after SomeName (Marked mark.Do_) d end n after m e known_name f h)

pub class_alone : (u : Position) (ks r : List Terminal) → ks ≡ kind.Do_ at u ∷ r → ClassTail 0 None ks r
class_alone u ks r is = (u, is)

pub class_qualified : (p u : Position) (n : Name) (ks after m r : List Terminal) → ks ≡ kind.Dot at p ∷ after → IsName n after m → m ≡ kind.Do_ at u ∷ r → ClassTail 0 (Some n) ks r
class_qualified p u n ks after m r is f is1 = (p, u, after, is, subst (λ z. IsName n after z) is1 f)

-- ---- `on`

-- what stands behind the first name
abbrev OnTail : ℕ → Option Name × Option Name → List Terminal → List Terminal → Type 0
OnTail d (None, y) ks r = ClassTail d y ks r
OnTail d (Some m, y) ks r = (q : Position) × (k k1 : List Terminal) × (ks ≡ kind.Colon at q ∷ k) × IsName m k k1 × ClassTail d y k1 r

abbrev OnParts : Phrase (Name × (Option Name × Option Name))
OnParts = Seq SomeName OnTail

into_on : (text : List ℕ) (p : Position) (d : ℕ) (x : Option Name × QualifiedName) (ls r : List Terminal) → SomeOn d x (kind.Identifier text at p ∷ ls) r → Some_ OnParts d ls
into_on text p d (v, c) ls r (is_on_class {q = u} h (is_unqualified {n = n} a)) = ((n, (None, None)), r, (kind.Do_ at u ∷ r, a, (u, refl)))
into_on text p d (v, c) ls r (is_on_class {q = u} h (is_qualified {unit = n} {n = m} {p = q} {m = k} a b)) = ((n, (None, Some m)), r, (kind.Dot at q ∷ k, a, (q, u, k, refl, b)))
into_on text p d (v, c) ls r (is_on_variable {n = n} {q = q} {u = u} {m = k} h a (is_unqualified {n = m} b)) = ((n, (Some m, None)), r, (kind.Colon at q ∷ k, a, (q, k, kind.Do_ at u ∷ r, refl, b, (u, refl))))
into_on text p d (v, c) ls r (is_on_variable {n = n} {q = q} {u = u} {m = k} h a (is_qualified {unit = m} {n = o} {p = w} {m = k1} b g)) = ((n, (Some m, Some o)), r, (kind.Colon at q ∷ k, a, (q, k, kind.Dot at w ∷ k1, refl, b, (w, u, k1, refl, g))))

class_whole : (n : Name) (y : Option Name) (ks m r : List Terminal) → IsName n ks m → ClassTail 0 y m r → (u : Position) × IsQualified (class_of n y) ks (kind.Do_ at u ∷ r)
class_whole n None ks m r f (u, e) = (u, is_unqualified (subst (λ z. IsName n ks z) e f))
class_whole n (Some c) ks m r f (p, u, k, e, g) = (u, is_qualified (subst (λ z. IsName n ks z) e f) g)

pub on_class_whole : (k : TokenKind) (p : Position) (n : Name) (y : Option Name) (ks m r : List Terminal) → is_word (codes "on") k ≡ true → IsName n ks m → ClassTail 0 y m r → IsOn None (class_of n y) (k at p ∷ ks) r
on_class_whole k p n y ks m r h f g =
    let w = word_kind (codes "on") k h in
    let c = class_whole n y ks m r f g in
    subst (λ z. IsOn None (class_of n y) (z at p ∷ ks) r) (sym w.0) (is_on_class w.1 c.1)

pub on_variable_whole : (k : TokenKind) (p q : Position) (n c : Name) (y : Option Name) (ks m after o r : List Terminal) → is_word (codes "on") k ≡ true → IsName n ks m → m ≡ kind.Colon at q ∷ after → IsName c after o → ClassTail 0 y o r → IsOn (Some n) (class_of c y) (k at p ∷ ks) r
on_variable_whole k p q n c y ks m after o r h f is g i =
    let w = word_kind (codes "on") k h in
    let x = class_whole c y after o r g i in
    subst (λ z. IsOn (Some n) (class_of c y) (z at p ∷ ks) r) (sym w.0) (is_on_variable w.1 (subst (λ z. IsName n ks z) is f) x.1)

same_class : (n m : ℕ) (y : Option Name) (ks r : List Terminal) → ClassTail n y ks r → ClassTail m y ks r
same_class n m None ks r f = f
same_class n m (Some c) ks r f = f

out_of_on : (k : TokenKind) (p : Position) → is_word (codes "on") k ≡ true → (d : ℕ) (x : Name × (Option Name × Option Name)) (ls r : List Terminal) → OnParts d x ls r → (o : Option Name × QualifiedName) × SomeOn d o (k at p ∷ ls) r
out_of_on k p h d (n, (None, y)) ls r (m, f, g) = ((None, class_of n y), on_class_whole k p n y ls m r h f (same_class d 0 y m r g))
out_of_on k p h d (n, (Some c, y)) ls r (m, f, (q, o, o1, e, g, i)) = ((Some n, class_of c y), on_variable_whole k p q n c y ls m o o1 r h f e g (same_class d 0 y o1 r i))

on_parts : (d : ℕ) (end : Place) (k : TokenKind) (p : Position) (ks : List Terminal) (e : ParseError) → is_word (codes "on") k ≡ true → Refuses OnParts d end ks e → Refuses SomeOn d end (k at p ∷ ks) e
on_parts d end k p ks e h x = let w = word_kind (codes "on") k h in subst (λ z. Refuses SomeOn d end (z at p ∷ ks) e) (sym w.0) (refuses_behind OnParts SomeOn d end (kind.Identifier (spelled k) at p) ks e (into_on (spelled k) p) (hands_behind OnParts SomeOn d (kind.Identifier (spelled k) at p) ks (out_of_on (kind.Identifier (spelled k)) p (subst (λ z. is_word (codes "on") z ≡ true) w.0 h))) x)

on_tail_do : (p : Position) → Sample OnTail Any
on_tail_do p = record { tokens = kind.Do_ at p ∷ []; behind = []; part = (None, None); stands = λ i. (p, refl); fits = tt }

pub on_name_missing : (d : ℕ) (end : Place) (k : TokenKind) (p : Position) (ks : List Terminal) (e : ParseError) → is_word (codes "on") k ≡ true → Refuses SomeName d end ks e → Refuses SomeOn d end (k at p ∷ ks) e
on_name_missing d end k p ks e h x = on_parts d end k p ks e h (refuses_first SomeName OnTail d end ks e (hands_first SomeName OnTail Any d ks fits_name on_tail_do) x)

on_tail : (d : ℕ) (end : Place) (k : TokenKind) (p : Position) (n : Name) (ks m : List Terminal) (e : ParseError) → is_word (codes "on") k ≡ true → IsName n ks m → Refuses OnTail d end m e → Refuses SomeOn d end (k at p ∷ ks) e
on_tail d end k p n ks m e h f x = on_parts d end k p ks e h (refuses_after SomeName OnTail d end n ks m e known_name f x)

class_of_on : (m : List Terminal) → NoMark mark.Colon m → (d : ℕ) (x : Option Name × Option Name) (ls r : List Terminal) → SameHead m ls → OnTail d x ls r → Some_ ClassTail d ls
class_of_on m none d (None, y) ls r s f = (y, r, f)
class_of_on m none d (Some n, y) ls r s (q, k, k1, e, f, g) = absurd (no_mark_same mark.Colon m ls s none q k e)

pub on_class_refuses : (d : ℕ) (end : Place) (k : TokenKind) (p : Position) (n : Name) (ks m : List Terminal) (e : ParseError) → is_word (codes "on") k ≡ true → IsName n ks m → NoMark mark.Colon m → Refuses ClassTail d end m e → Refuses SomeOn d end (k at p ∷ ks) e
on_class_refuses d end k p n ks m e h f none x = on_tail d end k p n ks m e h f (refuses_map ClassTail OnTail d end m e (class_of_on m none) (hands_as ClassTail OnTail d m (λ i y ls r s f. ((None, y), f))) x)

no_class_at_colon : {A : Type 0} (q : Position) (d : ℕ) (y : Option Name) (ls r : List Terminal) → ClassTail d y (kind.Colon at q ∷ ls) r → A
no_class_at_colon q d None ls r (u, e) = let clash : kind.Colon ≡ kind.Do_ = kind_same e in absurd cc
no_class_at_colon q d (Some n) ls r (p, u, k, e, f) = let clash : kind.Colon ≡ kind.Dot = kind_same e in absurd cc

behind_colon : (q : Position) (d : ℕ) (x : Option Name × Option Name) (ls r : List Terminal) → OnTail d x (kind.Colon at q ∷ ls) r → Some_ (Seq SomeName ClassTail) d ls
behind_colon q d (None, y) ls r f = no_class_at_colon q d y ls r f
behind_colon q d (Some n, y) ls r (u, k, k1, e, f, g) = ((n, y), r, (k1, subst (λ z. IsName n z k1) (sym (ap behind e)) f, g))

on_colon : (d : ℕ) (end : Place) (k : TokenKind) (p q : Position) (n : Name) (ks m after : List Terminal) (e : ParseError) → is_word (codes "on") k ≡ true → IsName n ks m → m ≡ kind.Colon at q ∷ after → Refuses (Seq SomeName ClassTail) d end after e → Refuses SomeOn d end (k at p ∷ ks) e
on_colon d end k p q n ks m after e h f is x = on_tail d end k p n ks m e h f (subst (λ z. Refuses OnTail d end z e) (sym is) (refuses_behind (Seq SomeName ClassTail) OnTail d end (kind.Colon at q) after e (behind_colon q) (hands_behind (Seq SomeName ClassTail) OnTail d (kind.Colon at q) after (λ i y ls r f. ((Some y.0, y.1), (q, ls, f.0, refl, f.1, f.2)))) x))

pub on_class_missing : (d : ℕ) (end : Place) (k : TokenKind) (p q : Position) (n : Name) (ks m after : List Terminal) (e : ParseError) → is_word (codes "on") k ≡ true → IsName n ks m → m ≡ kind.Colon at q ∷ after → Refuses SomeName d end after e → Refuses SomeOn d end (k at p ∷ ks) e
on_class_missing d end k p q n ks m after e h f is x = on_colon d end k p q n ks m after e h f is (refuses_first SomeName ClassTail d end after e (hands_first SomeName ClassTail Any d after fits_name do_tail) x)

pub on_variable_refuses : (d : ℕ) (end : Place) (k : TokenKind) (p q : Position) (n c : Name) (ks m after o : List Terminal) (e : ParseError) → is_word (codes "on") k ≡ true → IsName n ks m → m ≡ kind.Colon at q ∷ after → IsName c after o → Refuses ClassTail d end o e → Refuses SomeOn d end (k at p ∷ ks) e
on_variable_refuses d end k p q n c ks m after o e h f is g x = on_colon d end k p q n ks m after e h f is (refuses_after SomeName ClassTail d end c after o e known_name g x)

-- ---- a handler or a statement

and_both : (a b : Bool) → a && b ≡ true → (a ≡ true) × (b ≡ true)
and_both true b h = (refl, h)
and_both false b h = absurd cc

on_two : {v : Option Name} {c : QualifiedName} {ks r : List Terminal} → IsOn v c ks r → begins_handler ks ≡ true
on_two (is_on_class {on = text} h (is_unqualified is_name)) = ap (λ z. z && true) (on_test text h)
on_two (is_on_class {on = text} h (is_qualified is_name b)) = ap (λ z. z && true) (on_test text h)
on_two (is_on_variable {on = text} h is_name a) = ap (λ z. z && true) (on_test text h)

handlers_begin : {d : ℕ} {hs : Handlers} {ks r : List Terminal} → IsHandled hs → AreHandlers d hs ks r → begins_handler ks ≡ true
handlers_begin i are_no_handlers = absurd i
handlers_begin i (are_handlers o f hs) = on_two o
handlers_begin i (is_handler_before_end o f) = on_two o
handlers_begin i (is_handler_before_else o f c) = on_two o

-- two lists that begin alike in their first two tokens
word_ends_none : (k : TokenKind) → is_word (codes "on") k ≡ true → ends_list k ≡ true → ⊥
word_ends_none kind.End h e = false_true h
word_ends_none kind.Else_ h e = false_true h
word_ends_none other h e = false_true e

no_list_end : (ks : List Terminal) → begins_handler ks ≡ true → front_is ends_list ks ≡ true → ⊥
no_list_end [] h e = false_true h
no_list_end (t ∷ []) h e = false_true h
no_list_end (t ∷ u ∷ ks) h e = word_ends_none t.kind (and_both _ _ h).0 e

pub handled : (d : ℕ) (hs : Handlers) (ks r : List Terminal) → begins_handler ks ≡ true → SomeHandlers d hs ks r → IsHandled hs
handled d hs ks r h (are_no_handlers, t) = no_list_end ks h t
handled d hs ks r h (are_handlers o f g, t) = tt
handled d hs ks r h (is_handler_before_end o f, t) = tt
handled d hs ks r h (is_handler_before_else o f c, t) = tt

identifier_begins : (k : TokenKind) → is_identifier k ≡ true → is_identifier_there k ≡ true
identifier_begins (kind.Identifier text) h = refl
identifier_begins other h = false_true h

handler_is_no_statement : {A : Type 0} (d : ℕ) (ss : Statements) (ks : List Terminal) (u : Position) (r : List Terminal) → begins_handler ks ≡ true → AreStatements d ss ks (kind.End at u ∷ r) → A
handler_is_no_statement d ss [] u r h f = false_true h
handler_is_no_statement d ss (t ∷ []) u r h f = false_true h
handler_is_no_statement d ss (t ∷ v ∷ ks) u r h f =
    let w = and_both _ _ h in
    no_statements_at (subst (λ z. AreStatements d ss (z at t.position ∷ v ∷ ks) (kind.End at u ∷ r)) (word_kind (codes "on") t.kind w.0).0 f) (identifier_begins v.kind w.1) refl

-- ---- except

into_except_statements : (d : ℕ) (x : Rest) (ks r : List Terminal) → begins_handler ks ≡ false → SomeExcept d x ks r → Some_ StatementsEnd d ks
into_except_statements d (except_rest ts) ks r h (u, f) = ((ts, u), r, (kind.End at u ∷ r, (f, ends_all f refl refl refl), refl))
into_except_statements d (on_rest hs) ks r h (u, i, f) = true_false (sym (handlers_begin i f) ∙ h)
into_except_statements d (on_else_rest hs ts) ks r h (u, w, n, i, f, g) = true_false (sym (handlers_begin i f) ∙ h)
into_except_statements d (finally_rest ts) ks r h f = absurd f

into_except_handlers : (d : ℕ) (x : Rest) (ks r : List Terminal) → begins_handler ks ≡ true → SomeExcept d x ks r → Some_ (Seq SomeHandlers CaseEnd) d ks
into_except_handlers d (except_rest ts) ks r h (u, f) = handler_is_no_statement d ts ks u r h f
into_except_handlers d (on_rest hs) ks r h (u, i, f) = ((hs, None), r, (kind.End at u ∷ r, (f, refl), (u, refl)))
into_except_handlers d (on_else_rest hs ts) ks r h (u, w, n, i, f, g) = ((hs, Some ts), r, (kind.Else_ at u ∷ n, (f, refl), (u, w, n, refl, g)))
into_except_handlers d (finally_rest ts) ks r h f = absurd f

-- the first two tokens tell
same_two : (t : Terminal) (m n : List Terminal) → SameHead m n → begins_handler (t ∷ m) ≡ begins_handler (t ∷ n)
same_two t [] [] s = refl
same_two t [] (u ∷ n) s = absurd s
same_two t (u ∷ m) [] s = absurd s
same_two t (u ∷ m) (v ∷ n) s = ap (λ (z : Terminal). begins_handler (t ∷ z ∷ [])) s

not_on : (ks : List Terminal) → front_is (is_word (codes "on")) ks ≡ false → begins_handler ks ≡ false
not_on [] h = refl
not_on (t ∷ []) h = refl
not_on (t ∷ u ∷ ks) h = ap (λ z. z && is_identifier u.kind) h

-- behind at least one token the first two are the same
dead_behind : {A : Type 0} (P : A → List Terminal → List Terminal → Type 0) (Q : Rest → List Terminal → List Terminal → Type 0) (b : Bool) (ks q : List Terminal) (t : Terminal) (seen : List Terminal) → begins_handler ks ≡ b → ((x : Rest) (ls r : List Terminal) → begins_handler ls ≡ b → Q x ls r → (a : A) × (r' : List Terminal) × P a ls r') → ks ≡ t ∷ (seen ++ q) → ((ls : List Terminal) (a : A) (r : List Terminal) → SameHead q ls → P a (t ∷ (seen ++ ls)) r → ⊥) → Dead Q ks q
dead_behind P Q b ks q t seen h into e never = (t ∷ seen, e, λ ls x r s f. let w = into x (t ∷ (seen ++ ls)) r (sym (same_two t (seen ++ q) (seen ++ ls) (same_behind seen q ls s)) ∙ (ap begins_handler (sym e) ∙ h)) f in never ls w.0 w.1 s w.2)

-- a statement that is the word `on` alone
on_alone : (d : ℕ) (text : List ℕ) (p : Position) → (a : Statements × Position) × (r : List Terminal) × StatementsEnd (suc d) a (kind.Identifier text at p ∷ kind.End at p ∷ []) r
on_alone d text p = ((statements (call (designator (named (name text p)) no_selectors)) no_statements, p), [], (kind.End at p ∷ [], (are_one_statement (is_call (is_designator is_named are_no_selectors)), ((refl, refl), refl)), refl))

-- a handler of nothing
on_nothing : (d : ℕ) (text : List ℕ) (p : Position) → IsWord (codes "on") text → (a : Handlers × Option Statements) × (r : List Terminal) × Seq SomeHandlers CaseEnd d a (kind.Identifier text at p ∷ kind.Identifier text at p ∷ kind.Do_ at p ∷ kind.End at p ∷ []) r
on_nothing d text p h = ((handlers None (record { unit = None; name = name text p }) empty no_handlers, None), [], (kind.End at p ∷ [], (is_handler_before_end (is_on_class h (is_unqualified is_name)) is_empty, refl), (p, refl)))

on_front : (ks : List Terminal) → front_is (is_word (codes "on")) ks ≡ true → (text : List ℕ) × (p : Position) × (m : List Terminal) × (ks ≡ kind.Identifier text at p ∷ m) × IsWord (codes "on") text
on_front [] h = false_true h
on_front (t ∷ ks) h = let w = word_kind (codes "on") t.kind h in (spelled t.kind, t.position, ks, ap (λ z. z at t.position ∷ ks) w.0, w.1)

decides_more : {q m : List Terminal} (text : List ℕ) (p : Position) (n : List Terminal) → IsWord (codes "on") text → Decides q m → m ≡ kind.Identifier text at p ∷ n → Decides q n
decides_more text p n h decides_there e = subst (λ z. Decides z n) (sym e) (decides_behind h decides_there)
decides_more text p n h (decides_behind w g) e = decides_behind w (decides_more text p n h g e)

-- where the word in front is not `on`, one token tells
dead_other : {A : Type 0} (P : A → List Terminal → List Terminal → Type 0) (Q : Rest → List Terminal → List Terminal → Type 0) (ks : List Terminal) → front_is (is_word (codes "on")) ks ≡ false → ((x : Rest) (ls r : List Terminal) → begins_handler ls ≡ false → Q x ls r → (a : A) × (r' : List Terminal) × P a ls r') → ((ls : List Terminal) (a : A) (r : List Terminal) → SameHead ks ls → P a ls r → ⊥) → Dead Q ks ks
dead_other P Q ks h into never = dead_here Q ks (λ x ls r s f. let w = into x ls r (not_on ls (same_front_false (is_word (codes "on")) ks ls s h)) f in never ls w.0 w.1 s w.2)

from_here : {A : Type 0} (P : A → List Terminal → List Terminal → Type 0) (ks q : List Terminal) → ks ≡ q → ((ls : List Terminal) (a : A) (r : List Terminal) → SameHead q ls → P a ls r → ⊥) → (ls : List Terminal) (a : A) (r : List Terminal) → SameHead ks ls → P a ls r → ⊥
from_here P ks q e never ls a r s f = never ls a r (subst (λ z. SameHead z ls) e s) f

no_statement_dead : (ks q : List Terminal) → ks ≡ q → front_is (is_word (codes "on")) ks ≡ true → Dead (StatementsEnd 1) ks q → ⊥
no_statement_dead ks q e h dead =
    let w = on_front ks h in
    let a = on_alone 0 w.0 w.1 in
    let ls = kind.Identifier w.0 at w.1 ∷ kind.End at w.1 ∷ [] in
    inside_seen (StatementsEnd 1) ks q [] e dead ls a.0 a.1 (subst (λ z. SameHead z ls) (sym (sym e ∙ w.3)) refl) a.2

statements_dead : (d : ℕ) (ks q : List Terminal) (b : Bool) → front_is (is_word (codes "on")) ks ≡ b → begins_handler ks ≡ false → ((i : ℕ) → Dead (StatementsEnd i) ks q) → Dead (StatementsEnd d) ks q → Dead (SomeExcept d) ks q
statements_dead d ks q b on h any (t ∷ seen, e, never) = dead_behind (StatementsEnd d) (SomeExcept d) false ks q t seen h (λ x ls r. into_except_statements d x ls r) e never
statements_dead d ks q true on h any ([], e, never) = absurd (no_statement_dead ks q e on (any 1))
statements_dead d ks q false on h any ([], e, never) = subst (λ z. Dead (SomeExcept d) ks z) e (dead_other (StatementsEnd d) (SomeExcept d) ks on (λ x ls r. into_except_statements d x ls r) (from_here (StatementsEnd d) ks q e never))

statements_except : (d : ℕ) (ks : List Terminal) → HandsOn StatementsEnd d ks SomeExcept d ks
statements_except d ks = hands_as StatementsEnd SomeExcept d ks (λ i y ls r s f. (except_rest y.0, (y.1, subst (λ z. AreStatements i y.0 ls z) f.2 f.1.0)))

-- where the tokens from the one on that decides are those from z on
statements_nested : (d : ℕ) (end : Place) (ks q z w : List Terminal) (e : ParseError) (b : Bool) → front_is (is_word (codes "on")) ks ≡ b → begins_handler ks ≡ false → e ≡ refused_at 61 0 end q → Decides q z → Dead (StatementsEnd d) ks z → Decides w z → Alive SomeExcept d ks w → Refuses SomeExcept d end ks e
statements_nested d end ks q z w e b on h x g (t ∷ seen, e1, never) i lives = nested q z w x g (dead_behind (StatementsEnd d) (SomeExcept d) false ks z t seen h (λ x1 ls r. into_except_statements d x1 ls r) e1 never) i lives
statements_nested d end ks q z w e false on h x g ([], e1, never) i lives = nested q z w x g (subst (λ y. Dead (SomeExcept d) ks y) e1 (dead_other (StatementsEnd d) (SomeExcept d) ks on (λ x1 ls r. into_except_statements d x1 ls r) (from_here (StatementsEnd d) ks z e1 never))) i lives
statements_nested d end ks q z w e true on h x g ([], e1, never) i lives =
    let v = on_front ks on in
    let t = kind.Identifier v.0 at v.1 in
    nested q v.2 w x (decides_more v.0 v.1 v.2 v.4 g (sym e1 ∙ v.3)) (dead_behind (StatementsEnd d) (SomeExcept d) false ks v.2 t [] h (λ x1 ls r. into_except_statements d x1 ls r) v.3 (λ ls a r s f. never (t ∷ ls) a r (subst (λ y. SameHead y (t ∷ ls)) (sym (sym e1 ∙ v.3)) refl) f)) (decides_more v.0 v.1 v.2 v.4 i (sym e1 ∙ v.3)) lives

pub except_statements : (d : ℕ) (end : Place) (ks : List Terminal) (e : ParseError) → begins_handler ks ≡ false → Refuses StatementsEnd d end ks e → Refuses SomeExcept d end ks e
except_statements d end ks e h (out_of_memory x) = out_of_memory x
except_statements d end ks e h (syntax q x never) = syntax q x (λ d'. statements_dead d' ks q _ refl h never (never d'))
except_statements d end ks e h (nested q z n x w never v lives) = statements_nested d end ks q z n e _ refl h x w never v (statements_except d ks n lives)
except_statements d end ks e h (in_grammar feature q x f) = in_grammar feature q x f

pub except_whole : (u : Position) (d : ℕ) (ss : Statements) (ks m r : List Terminal) → SomeStatements d ss ks m → m ≡ kind.End at u ∷ r → SomeExcept d (except_rest ss) ks r
except_whole u d ss ks m r f is = (u, subst (λ z. AreStatements d ss ks z) is f.0)

on_first : (ks : List Terminal) → begins_handler ks ≡ true → front_is (is_word (codes "on")) ks ≡ true
on_first [] h = false_true h
on_first (t ∷ []) h = false_true h
on_first (t ∷ u ∷ ks) h = (and_both _ _ h).0

handlers_dead : (d : ℕ) (ks q : List Terminal) → begins_handler ks ≡ true → Dead (Seq SomeHandlers CaseEnd d) ks q → Dead (SomeExcept d) ks q
handlers_dead d ks q h (t ∷ seen, e, never) = dead_behind (Seq SomeHandlers CaseEnd d) (SomeExcept d) true ks q t seen h (λ x ls r. into_except_handlers d x ls r) e never
handlers_dead d ks q h ([], e, never) =
    let v = on_front ks (on_first ks h) in
    let a = on_nothing d v.0 v.1 v.4 in
    let ls = kind.Identifier v.0 at v.1 ∷ kind.Identifier v.0 at v.1 ∷ kind.Do_ at v.1 ∷ kind.End at v.1 ∷ [] in
    absurd (never ls a.0 a.1 (subst (λ y. SameHead y ls) (sym (sym e ∙ v.3)) refl) a.2)

handled_so : (d : ℕ) (hs : Handlers) (ks r : List Terminal) → front_is (is_word (codes "on")) ks ≡ true → SomeHandlers d hs ks r → IsHandled hs
handled_so d hs [] r h f = false_true h
handled_so d hs (t ∷ ks) r h (are_no_handlers, e) = word_ends_none t.kind h e
handled_so d hs (t ∷ ks) r h (are_handlers o f g, e) = tt
handled_so d hs (t ∷ ks) r h (is_handler_before_end o f, e) = tt
handled_so d hs (t ∷ ks) r h (is_handler_before_else o f c, e) = tt

out_of_handlers : (d : ℕ) (x : Handlers × Option Statements) (ks r : List Terminal) → front_is (is_word (codes "on")) ks ≡ true → Seq SomeHandlers CaseEnd d x ks r → (y : Rest) × SomeExcept d y ks r
out_of_handlers d (hs, None) ks r h (m, f, (u, e)) = (on_rest hs, (u, handled_so d hs ks m h f, subst (λ z. AreHandlers d hs ks z) e f.0))
out_of_handlers d (hs, Some ts) ks r h (m, f, (u, v, n, e, g)) = (on_else_rest hs ts, (u, v, n, handled_so d hs ks m h f, subst (λ z. AreHandlers d hs ks z) e f.0, g))

handlers_except : (d : ℕ) (ks : List Terminal) → begins_handler ks ≡ true → HandsOn (Seq SomeHandlers CaseEnd) d ks SomeExcept d ks
handlers_except d ks h = hands_as (Seq SomeHandlers CaseEnd) SomeExcept d ks (λ i x ls r s f. out_of_handlers i x ls r (same_front_is (is_word (codes "on")) ks ls s (on_first ks h)) f)

pub except_handlers : (d : ℕ) (end : Place) (ks : List Terminal) (e : ParseError) → begins_handler ks ≡ true → Refuses (Seq SomeHandlers CaseEnd) d end ks e → Refuses SomeExcept d end ks e
except_handlers d end ks e h (out_of_memory x) = out_of_memory x
except_handlers d end ks e h (syntax q x never) = syntax q x (λ d'. handlers_dead d' ks q h (never d'))
except_handlers d end ks e h (nested q z n x w never v lives) = nested q z n x w (handlers_dead d ks z h never) v (handlers_except d ks h n lives)
except_handlers d end ks e h (in_grammar feature q x f) = in_grammar feature q x f

pub except_on_whole : (u : Position) (d : ℕ) (hs : Handlers) (ks o r : List Terminal) → begins_handler ks ≡ true → SomeHandlers d hs ks o → Marked mark.End d u o r → SomeExcept d (on_rest hs) ks r
except_on_whole u d hs ks o r h f j = (u, handled d hs ks o h f, subst (λ z. AreHandlers d hs ks z) j f.0)

pub except_else_whole : (u w : Position) (d : ℕ) (hs : Handlers) (ss : Statements) (ks o after o1 r : List Terminal) → begins_handler ks ≡ true → SomeHandlers d hs ks o → Marked mark.Else_ d u o after → SomeStatements d ss after o1 → Marked mark.End d w o1 r → SomeExcept d (on_else_rest hs ss) ks r
except_else_whole u w d hs ss ks o after o1 r h f j k l = (u, w, after, handled d hs ks o h f, subst (λ z. AreHandlers d hs ks z) j f.0, subst (λ z. AreStatements d ss after z) l k.0)

-- ---- try

-- what stands behind the body
abbrev BodyTail : ℕ → Rest → List Terminal → List Terminal → Type 0
BodyTail d (finally_rest ts) ks r = (q u : Position) × (m : List Terminal) × (ks ≡ kind.Finally at q ∷ m) × AreStatements d ts m (kind.End at u ∷ r)
BodyTail d other ks r = (q : Position) × (m : List Terminal) × (ks ≡ kind.Except at q ∷ m) × SomeExcept d other m r

abbrev TryParts : Phrase (Statements × Rest)
TryParts = Seq SomeStatements BodyTail

into_try : (p : Position) (d : ℕ) (s : Statement) (ls r : List Terminal) → Behind kind.Try_ p d s ls r → Some_ TryParts d ls
into_try p d s ls r (is_empty, t) = true_false t
into_try p d s ls r (is_try_finally {ss = ss} {ts = ts} {q = q} {u = u} {m = m} f g, t) = ((ss, finally_rest ts), r, (kind.Finally at q ∷ m, (f, ends_all f refl refl refl), (q, u, m, refl, g)))
into_try p d s ls r (is_try_except {ss = ss} {ts = ts} {q = q} {u = u} {m = m} f g, t) = ((ss, except_rest ts), r, (kind.Except at q ∷ m, (f, ends_all f refl refl refl), (q, m, refl, (u, g))))
into_try p d s ls r (is_try_on {ss = ss} {v = v} {c = c} {s = body} {hs = hs} {q = q} {u = u} {m = m} f g, t) = ((ss, on_rest (handlers v c body hs)), r, (kind.Except at q ∷ m, (f, ends_all f refl refl refl), (q, m, refl, (u, tt, g))))
into_try p d s ls r (is_try_on_else {ss = ss} {ts = ts} {v = v} {c = c} {s = body} {hs = hs} {q = q} {u = u} {w = w} {m = m} {n = n} f g h, t) = ((ss, on_else_rest (handlers v c body hs) ts), r, (kind.Except at q ∷ m, (f, ends_all f refl refl refl), (q, m, refl, (u, w, n, tt, g, h))))
into_try p d s ls r (is_call g, t) = false_true (designator_begins g)
into_try p d s ls r (is_assignment g e, t) = false_true (designator_begins g)

pub try_finally_whole : (p q u : Position) (d : ℕ) (ss ts : Statements) (ks m after o r : List Terminal) → SomeStatements d ss ks m → Marked mark.Finally d q m after → SomeStatements d ts after o → Marked mark.End d u o r → Behind kind.Try_ p d (try_of ss (finally_rest ts)) ks r
try_finally_whole p q u d ss ts ks m after o r f is g h = (is_try_finally (subst (λ z. AreStatements d ss ks z) is f.0) (subst (λ z. AreStatements d ts after z) h g.0), tt)

pub try_except_whole : (p q : Position) (d : ℕ) (ss : Statements) (x : Rest) (ks m after r : List Terminal) → SomeStatements d ss ks m → Marked mark.Except d q m after → SomeExcept d x after r → Behind kind.Try_ p d (try_of ss x) ks r
try_except_whole p q d ss (finally_rest ts) ks m after r f is g = absurd g
try_except_whole p q d ss (except_rest ts) ks m after r f is (u, g) = (is_try_except (subst (λ z. AreStatements d ss ks z) is f.0) g, tt)
try_except_whole p q d ss (on_rest no_handlers) ks m after r f is (u, i, g) = absurd i
try_except_whole p q d ss (on_rest (handlers v c s hs)) ks m after r f is (u, i, g) = (is_try_on (subst (λ z. AreStatements d ss ks z) is f.0) g, tt)
try_except_whole p q d ss (on_else_rest no_handlers ts) ks m after r f is (u, w, n, i, g, h) = absurd i
try_except_whole p q d ss (on_else_rest (handlers v c s hs) ts) ks m after r f is (u, w, n, i, g, h) = (is_try_on_else (subst (λ z. AreStatements d ss ks z) is f.0) g h, tt)

out_of_try : (p : Position) (d : ℕ) (x : Statements × Rest) (ls r : List Terminal) → TryParts d x ls r → (s : Statement) × Behind kind.Try_ p d s ls r
out_of_try p d (ss, finally_rest ts) ls r (m, f, (q, u, k, e, g)) = (try_of ss (finally_rest ts), try_finally_whole p q u d ss ts ls m k (kind.End at u ∷ r) r f e (g, ends_all g refl refl refl) refl)
out_of_try p d (ss, except_rest ts) ls r (m, f, (q, k, e, g)) = (try_of ss (except_rest ts), try_except_whole p q d ss (except_rest ts) ls m k r f e g)
out_of_try p d (ss, on_rest hs) ls r (m, f, (q, k, e, g)) = (try_of ss (on_rest hs), try_except_whole p q d ss (on_rest hs) ls m k r f e g)
out_of_try p d (ss, on_else_rest hs ts) ls r (m, f, (q, k, e, g)) = (try_of ss (on_else_rest hs ts), try_except_whole p q d ss (on_else_rest hs ts) ls m k r f e g)

finally_it : (p : Position) → Sample BodyTail RestsAll
finally_it p = record { tokens = kind.Finally at p ∷ kind.End at p ∷ []; behind = []; part = finally_rest (statements empty no_statements); stands = λ i. (p, p, kind.End at p ∷ [], refl, are_one_statement is_empty); fits = (refl, refl, refl) }

out_of_except : (d : ℕ) (ks : List Terminal) → HandsOn (Marked mark.Except) d ks BodyTail d ks
out_of_except d ks q x = hands_as (Seq (Marked mark.Except) StatementsEnd) BodyTail d ks (λ i y ls r s f. (except_rest y.1.0, (y.0, f.0, f.1, (y.1.1, subst (λ z. AreStatements i y.1.0 f.0 z) f.2.2 f.2.1.0)))) q (hands_mark mark.Except StatementsEnd d ks some_end q x)

behind_try : (q : Position) (d : ℕ) (x : Rest) (ls r : List Terminal) → SomeExcept d x ls r → BodyTail d x (kind.Except at q ∷ ls) r
behind_try q d (finally_rest ts) ls r f = absurd f
behind_try q d (except_rest ts) ls r f = (q, ls, refl, f)
behind_try q d (on_rest hs) ls r f = (q, ls, refl, f)
behind_try q d (on_else_rest hs ts) ls r f = (q, ls, refl, f)

try_parts : (p : Position) (d : ℕ) (end : Place) (ks : List Terminal) (e : ParseError) → Refuses TryParts d end ks e → Refuses (Behind kind.Try_ p) d end ks e
try_parts p d end ks e h = refuses_map TryParts (Behind kind.Try_ p) d end ks e (λ d' b ls r s x. into_try p d' b ls r x) (hands_as TryParts (Behind kind.Try_ p) d ks (λ i y ls r s x. out_of_try p i y ls r x)) h

pub try_body : (p : Position) (d : ℕ) (end : Place) (ks : List Terminal) (e : ParseError) → Refuses SomeStatements d end ks e → Refuses (Behind kind.Try_ p) d end ks e
try_body p d end ks e h = try_parts p d end ks e (refuses_first SomeStatements BodyTail d end ks e (hands_first SomeStatements BodyTail RestsAll d ks fits_statements finally_it) h)

try_tail : (p : Position) (d : ℕ) (end : Place) (ss : Statements) (ks m : List Terminal) (e : ParseError) → SomeStatements d ss ks m → Refuses BodyTail d end m e → Refuses (Behind kind.Try_ p) d end ks e
try_tail p d end ss ks m e f h = try_parts p d end ks e (refuses_after SomeStatements BodyTail d end ss ks m e known_statements f h)

except_of_tail : (m : List Terminal) → NoMark mark.Finally m → (d : ℕ) (x : Rest) (ls r : List Terminal) → SameHead m ls → BodyTail d x ls r → Some_ (Marked mark.Except) d ls
except_of_tail m none d (finally_rest ts) ls r s (q, u, k, e, f) = absurd (no_mark_same mark.Finally m ls s none q k e)
except_of_tail m none d (except_rest ts) ls r s (q, k, e, f) = (q, k, e)
except_of_tail m none d (on_rest hs) ls r s (q, k, e, f) = (q, k, e)
except_of_tail m none d (on_else_rest hs ts) ls r s (q, k, e, f) = (q, k, e)

pub try_except_missing : (p : Position) (d : ℕ) (end : Place) (ss : Statements) (ks m : List Terminal) (e : ParseError) → SomeStatements d ss ks m → NoMark mark.Finally m → Refuses (Marked mark.Except) d end m e → Refuses (Behind kind.Try_ p) d end ks e
try_except_missing p d end ss ks m e f none h = try_tail p d end ss ks m e f (refuses_map (Marked mark.Except) BodyTail d end m e (except_of_tail m none) (out_of_except d m) h)

behind_finally : (q : Position) (d : ℕ) (x : Rest) (ls r : List Terminal) → BodyTail d x (kind.Finally at q ∷ ls) r → Some_ StatementsEnd d ls
behind_finally q d (finally_rest ts) ls r (w, u, k, e, f) = ((ts, u), r, subst (λ z. StatementsEnd d (ts, u) z r) (sym (ap behind e)) (kind.End at u ∷ r, (f, ends_all f refl refl refl), refl))
behind_finally q d (except_rest ts) ls r (w, k, e, f) = let clash : kind.Finally ≡ kind.Except = kind_same e in absurd cc
behind_finally q d (on_rest hs) ls r (w, k, e, f) = let clash : kind.Finally ≡ kind.Except = kind_same e in absurd cc
behind_finally q d (on_else_rest hs ts) ls r (w, k, e, f) = let clash : kind.Finally ≡ kind.Except = kind_same e in absurd cc

behind_except : (q : Position) (d : ℕ) (x : Rest) (ls r : List Terminal) → BodyTail d x (kind.Except at q ∷ ls) r → Some_ SomeExcept d ls
behind_except q d (finally_rest ts) ls r (w, u, k, e, f) = let clash : kind.Except ≡ kind.Finally = kind_same e in absurd cc
behind_except q d (except_rest ts) ls r (w, k, e, f) = (except_rest ts, r, subst (λ z. SomeExcept d (except_rest ts) z r) (sym (ap behind e)) f)
behind_except q d (on_rest hs) ls r (w, k, e, f) = (on_rest hs, r, subst (λ z. SomeExcept d (on_rest hs) z r) (sym (ap behind e)) f)
behind_except q d (on_else_rest hs ts) ls r (w, k, e, f) = (on_else_rest hs ts, r, subst (λ z. SomeExcept d (on_else_rest hs ts) z r) (sym (ap behind e)) f)

pub try_except_refuses : (p q : Position) (d : ℕ) (end : Place) (ss : Statements) (ks m after : List Terminal) (e : ParseError) → SomeStatements d ss ks m → Marked mark.Except d q m after → Refuses SomeExcept d end after e → Refuses (Behind kind.Try_ p) d end ks e
try_except_refuses p q d end ss ks m after e f is h = try_tail p d end ss ks m e f (subst (λ z. Refuses BodyTail d end z e) (sym is) (refuses_behind SomeExcept BodyTail d end (kind.Except at q) after e (behind_except q) (hands_behind SomeExcept BodyTail d (kind.Except at q) after (λ i x ls r f. (x, behind_try q i x ls r f))) h))

pub try_finally_refuses : (p q : Position) (d : ℕ) (end : Place) (ss : Statements) (ks m after : List Terminal) (e : ParseError) → SomeStatements d ss ks m → Marked mark.Finally d q m after → Refuses StatementsEnd d end after e → Refuses (Behind kind.Try_ p) d end ks e
try_finally_refuses p q d end ss ks m after e f is h = try_tail p d end ss ks m e f (subst (λ z. Refuses BodyTail d end z e) (sym is) (refuses_behind StatementsEnd BodyTail d end (kind.Finally at q) after e (behind_finally q) (hands_behind StatementsEnd BodyTail d (kind.Finally at q) after (λ i y ls r f. (finally_rest y.0, (q, y.1, ls, refl, subst (λ z. AreStatements i y.0 ls z) f.2 f.1.0)))) h))
