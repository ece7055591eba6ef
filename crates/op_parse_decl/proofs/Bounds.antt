-- Refusals of types that begin as a bound of a subrange does.
use Rattle.std.proofs.Common.{◌≡◌, ℕ, suc, true, false, List, [], ◌∷◌, ◌++◌, Option, Some, None, refl, sym, ap, ◌∙◌, subst, append_assoc, arith}
use Rattle.op_base.specs.declared.place.Place.{Place}
use Rattle.op_parse_code.proofs.Cuts.{cut_seen, same_behind}
use Rattle.op_parse_code.proofs.ExpressionKnown.{known_chain}
use Rattle.op_parse_code.proofs.Factors.{same_begins}
use Rattle.op_parse_code.proofs.Fitting.{a_name, fits_chain}
use Rattle.op_parse_code.proofs.Living.{Any, Sample, sample_marked, hands_as, hands_behind, hands_deeper, hands_first}
use Rattle.op_parse_code.proofs.Refusing.{Some_, Seq, with_front_in_grammar, no_mark_same, head_same, Shows, alive_after, refuses_first_by, refuses_after_by, refuses_behind_by}
use Rattle.op_parse_code.specs.Refusal.{SameHead, Dead, Refuses, out_of_memory, syntax, nested, in_grammar, refused_at, Phrase, Alive, Shown, Decides, RefusesBy}
use Rattle.op_parse_code.specs.Whole.{Chain, NoMark, Marked}
use Rattle.op_parse_code.specs.declared.error.ParseError.{ParseError}
use Rattle.op_parse_code.specs.declared.mark.Mark.TheVariants as mark
use Rattle.op_parse_decl.specs.Opening.{lists_names}
use Rattle.op_parse_decl.specs.Refusal.{RefusesHere, Never, RefusesPart, by_grammar, decides_in_code}
use Rattle.op_parse_decl.specs.Types.{SomeBounded, NoMoreType, denoted, SomeDenoter}
use Rattle.op_scan.specs.declared.token.TokenKind.{TokenKind}
use Rattle.op_scan.specs.declared.token.TokenKind.TheVariants as kind
use Rattle.op_tree.proofs.DenoterUnique.{as_simple, stop_simple, as_expr, opened, is_structure, structure_begins}
use Rattle.op_tree.proofs.ExpressionUnique.{Begins, false_true, true_false, behind, ends_operand, is_comma, unique_chain, unique_expr}
use Rattle.op_tree.proofs.StatementUnique.{both, differ}
use Rattle.op_tree.specs.Denoter.{Denoter, named, subrange}
use Rattle.op_tree.specs.DenoterGrammar.{is_named, is_string, is_subrange, is_enumeration, is_set, is_unpacked, is_packed}
use Rattle.op_tree.specs.Ends.{IsNot, StopsDenoter, begins_expression, is_dot_dot, Stops}
use Rattle.op_tree.specs.Expression.{Expression, designated, designator, named as named_root, string as string_root, bracketed, no_selectors}
use Rattle.op_tree.specs.ExpressionGrammar.{IsChain, IsFactor, is_designated, is_designator, is_named as is_named_root, is_string as is_string_root, is_bracketed, are_no_selectors, are_selectors, is_member}
use Rattle.op_tree.specs.NameGrammar.{IsQualified, is_unqualified, is_qualified, are_one_name, are_names, is_name, are_bracketed_names}
use Rattle.op_tree.specs.Terminal.{Terminal, ◌at◌, name}
use Rattle.op_tree.specs.declared.operator.Level.TheVariants.{Additive}
use Rattle.op_tree.specs.declared.position.Position.{Position}
use Rattle.op_tree.specs.declared.position.QualifiedName.{QualifiedName}

-- ---- how such a type reads

named_factor : (d : ℕ) {q : QualifiedName} {ks r : List Terminal} → IsQualified q ks r → (e : Expression) × IsFactor d e ks r × (denoted e ≡ Some (named q))
named_factor d (is_unqualified is_name) = (_, is_designated (is_designator is_named_root are_no_selectors), refl)
named_factor d (is_qualified is_name is_name) = (_, is_designated (is_designator is_named_root (are_selectors is_member are_no_selectors)), refl)

-- as one expression, as two, or as an opening bracket, a name and a comma
data Reading (d : ℕ) (t : Denoter) (ks r : List Terminal) : Type 0 where
  reads_name : (e : Expression) → Chain Additive d e ks r → denoted e ≡ Some t → StopsDenoter r → Reading d t ks r
  reads_bounds : (a b : Expression) (p : Position) (m : List Terminal) → Chain Additive d a ks (kind.DotDot at p ∷ m) → Chain Additive d b m r → StopsDenoter r → Reading d t ks r
  reads_list : (i : ℕ) (text : List ℕ) (p u w : Position) (m : List Terminal) → d ≡ suc i → ks ≡ kind.OpenParenthesis at p ∷ kind.Identifier text at u ∷ kind.Comma at w ∷ m → Reading d t ks r

pub structure_no_bound : (k : TokenKind) → is_structure k ≡ true → begins_expression k ≡ false
structure_no_bound kind.Array h = refl
structure_no_bound kind.Record h = refl
structure_no_bound other h = false_true h

reading : (d : ℕ) (t : Denoter) (ks r : List Terminal) → SomeBounded d t ks r → Begins begins_expression ks → Reading d t ks r
reading d t ks r (is_named q, st) b = let f = named_factor d q in reads_name f.0 (as_simple f.1, stop_simple f.0 r st) f.2 st
reading d t ks r (is_string {p = p}, st) b = reads_name _ (as_simple (is_designated (is_designator is_string_root are_no_selectors)), stop_simple (designated (designator (string_root p) no_selectors)) r st) refl st
reading d t ks r (is_subrange {first = a} {last = e} {p = p} {m = m} f g, st) b = reads_bounds a e p m (f, (refl, ends_operand a _ refl)) (g, stop_simple e r st) st
reading d t ks r (is_enumeration {p = p} (are_bracketed_names (are_one_name {n = n} is_name)), st) b = reads_name _ (as_simple (is_designated (is_designator (is_bracketed (as_expr (is_designated (is_designator is_named_root are_no_selectors)))) are_no_selectors)), stop_simple (designated (designator (bracketed p (designated (designator (named_root n) no_selectors))) no_selectors)) r st) refl st
reading d t ks r (is_enumeration {p = p} (are_bracketed_names {d = i} (are_names {p = w} {m = m} (is_name {text = text} {p = u}) more)), st) b = reads_list i text p u w m refl refl
reading d t ks r (is_set f, st) b = false_true b
reading d t ks r (is_unpacked {k = k} {p = p} {ks = ls} s, st) b = both begins_expression (k at p ∷ ls) b (structure_no_bound k (structure_begins s))
reading d t ks r (is_packed s, st) b = false_true b

-- ---- where the first bound dies

-- a name in brackets is an expression, so none dies in front of what follows the name
no_death : {A : Type 0} (i : ℕ) (p u w : Position) (text : List ℕ) (m seen q ls : List Terminal) → lists_names (seen ++ q) ≡ false → ((xs : List Terminal) (a : Expression) (r : List Terminal) → SameHead q xs → Chain Additive (suc i) a (seen ++ xs) r → ⊥) → SameHead q ls → seen ++ ls ≡ kind.OpenParenthesis at p ∷ kind.Identifier text at u ∷ kind.Comma at w ∷ m → A
no_death {A} i p u w text m seen q ls none never s is = by_seen seen q ls none never s is
  where
    close : Terminal
    close = kind.CloseParenthesis at p

    bracketed_name : (x y : Terminal) → x ≡ kind.OpenParenthesis at p → y ≡ kind.Identifier text at u → (a : Expression) × Chain Additive (suc i) a (x ∷ y ∷ close ∷ []) []
    bracketed_name x y h g = (designated (designator (bracketed p (designated (designator (named_root (name text u)) no_selectors))) no_selectors), subst (λ z. Chain Additive (suc i) (designated (designator (bracketed p (designated (designator (named_root (name text u)) no_selectors))) no_selectors)) (z ∷ y ∷ close ∷ []) []) (sym h) (subst (λ z. Chain Additive (suc i) (designated (designator (bracketed p (designated (designator (named_root (name text u)) no_selectors))) no_selectors)) (kind.OpenParenthesis at p ∷ z ∷ close ∷ []) []) (sym g) (as_simple (is_designated (is_designator (is_bracketed (as_expr (is_designated (is_designator is_named_root are_no_selectors)))) are_no_selectors)), (tt, tt))))

    same_head : (q ls : List Terminal) (x : Terminal) (xs ys : List Terminal) → SameHead q ls → ls ≡ x ∷ xs → SameHead q (x ∷ ys)
    same_head [] ls x xs ys s h = absurd (subst (λ z. SameHead [] z) h s)
    same_head (t ∷ q) ls x xs ys s h = subst (λ z. SameHead (t ∷ q) z) h s

    listed : (q ls : List Terminal) (x y : Terminal) → lists_names (x ∷ y ∷ q) ≡ false → SameHead q ls → x ∷ y ∷ ls ≡ kind.OpenParenthesis at p ∷ kind.Identifier text at u ∷ kind.Comma at w ∷ m → A
    listed [] [] x y n s h = absurd cc
    listed [] (t ∷ ls) x y n s h = absurd s
    listed (t ∷ q) [] x y n s h = absurd s
    listed (t ∷ q) (t1 ∷ ls) x y n s h =
        let a : x ≡ kind.OpenParenthesis at p = head_same h in
        let b : y ≡ kind.Identifier text at u = head_same (ap behind h) in
        let c : t ≡ kind.Comma at w = s ∙ head_same (ap behind (ap behind h)) in
        true_false (subst (λ (v : Terminal). lists_names (kind.OpenParenthesis at p ∷ kind.Identifier text at u ∷ v ∷ q) ≡ false) c (subst (λ (v : Terminal). lists_names (kind.OpenParenthesis at p ∷ v ∷ t ∷ q) ≡ false) b (subst (λ (v : Terminal). lists_names (v ∷ y ∷ t ∷ q) ≡ false) a n)))

    by_seen : (seen q ls : List Terminal) → lists_names (seen ++ q) ≡ false → ((xs : List Terminal) (a : Expression) (r : List Terminal) → SameHead q xs → Chain Additive (suc i) a (seen ++ xs) r → ⊥) → SameHead q ls → seen ++ ls ≡ kind.OpenParenthesis at p ∷ kind.Identifier text at u ∷ kind.Comma at w ∷ m → A
    by_seen [] q ls n never s is = let f = bracketed_name (kind.OpenParenthesis at p) (kind.Identifier text at u) refl refl in absurd (never _ f.0 [] (same_head q ls (kind.OpenParenthesis at p) _ _ s is) f.1)
    by_seen (x ∷ []) q ls n never s is = let f = bracketed_name x (kind.Identifier text at u) (head_same is) refl in absurd (never (kind.Identifier text at u ∷ close ∷ []) f.0 [] (same_head q ls (kind.Identifier text at u) _ _ s (ap behind is)) f.1)
    by_seen (x ∷ y ∷ []) q ls n never s is = listed q ls x y n s is
    by_seen (x ∷ y ∷ z ∷ seen) q ls n never s is =
        let a : x ≡ kind.OpenParenthesis at p = head_same is in
        let b : y ≡ kind.Identifier text at u = head_same (ap behind is) in
        let c : z ≡ kind.Comma at w = head_same (ap behind (ap behind is)) in
        true_false (subst (λ (v : Terminal). lists_names (kind.OpenParenthesis at p ∷ kind.Identifier text at u ∷ v ∷ (seen ++ q)) ≡ false) c (subst (λ (v : Terminal). lists_names (kind.OpenParenthesis at p ∷ v ∷ z ∷ (seen ++ q)) ≡ false) b (subst (λ (v : Terminal). lists_names (v ∷ y ∷ z ∷ (seen ++ q)) ≡ false) a n)))

dead_bound : (d : ℕ) (ks q : List Terminal) → Begins begins_expression ks → lists_names ks ≡ false → Dead (Chain Additive d) ks q → Dead (SomeBounded d) ks q
dead_bound d ks q b none (seen, e, never) = (seen, e, λ ls t r s f. dies ls t r s (reading d t (seen ++ ls) r f (begin ls s)))
  where
    begin : (ls : List Terminal) → SameHead q ls → Begins begins_expression (seen ++ ls)
    begin ls s = same_begins begins_expression ks (seen ++ ls) (subst (λ z. SameHead z (seen ++ ls)) (sym e) (same_behind seen q ls s)) b

    dies : (ls : List Terminal) (t : Denoter) (r : List Terminal) → SameHead q ls → Reading d t (seen ++ ls) r → ⊥
    dies ls t r s (reads_name a f h st) = never ls a r s f
    dies ls t r s (reads_bounds a c p m f g st) = never ls a (kind.DotDot at p ∷ m) s f
    dies ls t r s (reads_list i text p u w m z is) = no_death i p u w text m seen q ls (subst (λ (z : List Terminal). lists_names z ≡ false) e none) (subst (λ (z : ℕ). (xs : List Terminal) (a : Expression) (r : List Terminal) → SameHead q xs → Chain Additive z a (seen ++ xs) r → ⊥) z never) s is

-- ---- a subrange

abbrev SubrangeParts : Phrase (Expression × (Position × (Expression × List Terminal)))
SubrangeParts = Seq (Chain Additive) (Seq (Marked mark.DotDot) (Seq (Chain Additive) NoMoreType))

subrange_of : (i : ℕ) (x : Expression × (Position × (Expression × List Terminal))) (ls r : List Terminal) → SubrangeParts i x ls r → (t : Denoter) × SomeBounded i t ls r
subrange_of i x ls r (m, f, (n, is, (o, g, (same, st)))) = (subrange x.0 x.1.1.0, (is_subrange {p = x.1.0} (subst (λ z. IsChain Additive i x.0 ls z) is f.0) (subst (λ z. IsChain Additive i x.1.1.0 n z) same g.0), st))

last_bound : (p : Position) → Sample (Seq (Chain Additive) NoMoreType) Any
last_bound p = record { tokens = kind.Identifier [] at p ∷ []; behind = []; part = (a_name p, []); stands = λ i. ([], (as_simple (is_designated (is_designator is_named_root are_no_selectors)), (tt, tt)), (refl, record { operator = tt; selector = tt; range = tt })); fits = tt }

-- what begins a bound begins a subrange
pub bound_alive : (d : ℕ) (ks q : List Terminal) → Alive (Chain Additive) d ks q → Alive SomeBounded d ks q
bound_alive d ks q x = hands_as SubrangeParts SomeBounded d ks (λ i y ls r s f. subrange_of i y ls r f) q (hands_first (Chain Additive) (Seq (Marked mark.DotDot) (Seq (Chain Additive) NoMoreType)) Stops d ks (fits_chain Additive) (λ p. sample_marked mark.DotDot (Seq (Chain Additive) NoMoreType) Stops p (λ r. (refl, refl)) (last_bound p)) q x)

-- and so does what begins the second one
last_alive : (d : ℕ) (a : Expression) (ks m : List Terminal) (p : Position) (after q : List Terminal) → Chain Additive d a ks m → m ≡ kind.DotDot at p ∷ after → Alive (Chain Additive) d after q → Alive SomeBounded d ks q
last_alive d a ks m p after q f is x =
    let last = hands_first (Chain Additive) NoMoreType Stops d after (fits_chain Additive) (λ u. record { tokens = []; behind = []; part = []; stands = λ i. (refl, record { operator = tt; selector = tt; range = tt }); fits = (tt, tt) }) q x in
    let behind_dots = hands_behind (Seq (Chain Additive) NoMoreType) (Seq (Marked mark.DotDot) (Seq (Chain Additive) NoMoreType)) d (kind.DotDot at p) after (λ i y ls r g. ((p, y), (ls, refl, g))) q last in
    hands_as SubrangeParts SomeBounded d ks (λ i y ls r s g. subrange_of i y ls r g) q (alive_after (Chain Additive) (Seq (Marked mark.DotDot) (Seq (Chain Additive) NoMoreType)) d a ks m q (known_chain Additive) f (subst (λ z. Alive (Seq (Marked mark.DotDot) (Seq (Chain Additive) NoMoreType)) d z q) (sym is) behind_dots))

-- a type that begins as a bound does is one
pub as_bound : {ks q : List Terminal} → Alive SomeBounded 0 ks q → Alive SomeDenoter 0 ks q
as_bound {ks = ks} {q = q} x =
    let y = hands_deeper SomeBounded SomeDenoter 0 ks (λ i t ls r s f. (t, f)) q x in
    record { seen = y.seen; first = y.first; rest = y.rest; from = y.from; to = y.to; depth = y.depth; deep = omega (arith, y.deep); others = y.others; behind = y.behind; part = y.part; stands = y.stands }

pub bound_first : (d : ℕ) (end : Place) (ks : List Terminal) (e : ParseError) → Begins begins_expression ks → lists_names ks ≡ false → Refuses (Chain Additive) d end ks e → RefusesPart SomeBounded d end ks e
bound_first d end ks e b n (out_of_memory x) = by_grammar (out_of_memory x)
bound_first d end ks e b n (syntax q x never) = by_grammar (syntax q x (λ d'. dead_bound d' ks q b n (never d')))
bound_first d end ks e b n (nested q m o x w never v t) = by_grammar (nested q m o x (decides_in_code w) (dead_bound d ks m b n never) v (bound_alive d ks o t))
bound_first d end ks e b n (in_grammar feature q x f) = by_grammar (in_grammar feature q x f)

-- ---- behind the first bound

-- what reads as an expression is no list of names
pub no_list : {A : Type 0} {d : ℕ} {a : Expression} (text : List ℕ) (p u w : Position) (m ks r : List Terminal) → IsChain Additive d a ks r → ks ≡ kind.OpenParenthesis at p ∷ kind.Identifier text at u ∷ kind.Comma at w ∷ m → A
no_list {A} {d} {a} text p u w m ks r f is =
    let i = opened (subst (λ z. IsChain Additive d a z r) is f) in
    differ is_comma (unique_expr (as_expr {d = 1} (is_designated (is_designator is_named_root are_no_selectors))) i.is_inside (refl, refl) (refl, refl)).1 refl refl

-- nothing, or another bound
abbrev Tail : ℕ → Option Expression → List Terminal → List Terminal → Type 0
Tail d None ks r = NoMoreType d [] ks r
Tail d (Some b) ks r = (p : Position) × (m : List Terminal) × (ks ≡ kind.DotDot at p ∷ m) × Chain Additive d b m r × StopsDenoter r

dead_tail : (d d' : ℕ) (a : Expression) (ks m q : List Terminal) → Begins begins_expression ks → Chain Additive d a ks m → Dead (Tail d') m q → Dead (SomeBounded d') ks q
dead_tail d d' a ks m q b p (seen, e, never) =
    let w = (known_chain Additive).front d a ks m p in
    let s = cut_seen w.1 in
    let all : ks ≡ (s.0 ++ seen) ++ q = w.2 ∙ s.1 m ∙ ap (λ z. s.0 ++ z) e ∙ sym (append_assoc s.0 seen q) in (
      s.0 ++ seen,
      all,
      λ ls t r h f.
          let whole : Chain Additive d a (s.0 ++ (seen ++ ls)) (seen ++ ls) = subst (λ z. Chain Additive d a z (seen ++ ls)) (s.1 (seen ++ ls)) (w.3 (seen ++ ls) (subst (λ z. SameHead z (seen ++ ls)) (sym e) (same_behind seen q ls h))) in
          let begin : Begins begins_expression ((s.0 ++ seen) ++ ls) = same_begins begins_expression ks ((s.0 ++ seen) ++ ls) (subst (λ z. SameHead z ((s.0 ++ seen) ++ ls)) (sym all) (same_behind (s.0 ++ seen) q ls h)) b in
          dies ls t r (s.0 ++ (seen ++ ls)) h whole (subst (λ z. Reading d' t z r) (append_assoc s.0 seen ls) (reading d' t ((s.0 ++ seen) ++ ls) r f begin)),
    )
  where
    dies : (ls : List Terminal) (t : Denoter) (r front : List Terminal) → SameHead q ls → Chain Additive d a front (seen ++ ls) → Reading d' t front r → ⊥
    dies ls t r front s whole (reads_name x f h st) = never ls None r s (subst (λ z. NoMoreType d' [] z r) (sym (unique_chain whole.0 f.0 whole.1 f.1).1) (refl, st))
    dies ls t r front s whole (reads_bounds x c p m1 f g st) = never ls (Some c) r s (p, m1, (unique_chain whole.0 f.0 whole.1 f.1).1, g, st)
    dies ls t r front s whole (reads_list i text p u w m1 z is) = no_list text p u w m1 front (seen ++ ls) whole.0 is

bound_tail : {W : Shown} (d : ℕ) (end : Place) (a : Expression) (ks m : List Terminal) (e : ParseError) → Begins begins_expression ks → Chain Additive d a ks m → Shows W d m (Alive SomeBounded) d ks → RefusesBy Decides W Tail d end m e → RefusesPart SomeBounded d end ks e
bound_tail d end a ks m e b f k (out_of_memory x) = by_grammar (out_of_memory x)
bound_tail d end a ks m e b f k (syntax q x never) = by_grammar (syntax q x (λ d'. dead_tail d d' a ks m q b f (never d')))
bound_tail d end a ks m e b f k (nested q z n x w never v t) = by_grammar (nested q z n x (decides_in_code w) (dead_tail d d a ks m z b f never) v (k n t))
bound_tail d end a ks m e b f k (in_grammar feature q x g) =
    let w = (known_chain Additive).front d a ks m f in
    let s = cut_seen w.1 in
    by_grammar (in_grammar feature q x (with_front_in_grammar s.0 (w.2 ∙ s.1 m) g))

into_tail : (p : Position) (d : ℕ) (b : Option Expression) (ls r : List Terminal) → Tail d b (kind.DotDot at p ∷ ls) r → Some_ (Seq (Chain Additive) NoMoreType) d ls
into_tail p d None ls r (e, st) = true_false (subst (IsNot is_dot_dot) (sym e) st.range)
into_tail p d (Some b) ls r (q, m, e, f, st) = ((b, []), r, (r, subst (λ z. Chain Additive d b z r) (sym (ap behind e)) f, (refl, st)))

pub bound_last : (d : ℕ) (end : Place) (a : Expression) (ks m : List Terminal) (p : Position) (after : List Terminal) (e : ParseError) → Begins begins_expression ks → Chain Additive d a ks m → m ≡ kind.DotDot at p ∷ after → Refuses (Chain Additive) d end after e → RefusesPart SomeBounded d end ks e
bound_last d end a ks m p after e b f is h = bound_tail {W = K} d end a ks m e b f (λ q x. last_alive d a ks m p after q f is x) (subst (λ z. RefusesBy Decides K Tail d end z e) (sym is) (refuses_behind_by {W = K} {V = K} (Seq (Chain Additive) NoMoreType) Tail d end (kind.DotDot at p) after e (into_tail p) (λ q x. x) (refuses_first_by {W = Alive (Chain Additive)} {V = K} (Chain Additive) NoMoreType d end after e (λ q x. x) h)))
  where
    -- what is shown of the second bound
    K : Shown
    K i ls q = Alive (Chain Additive) d after q

pub bound_goes_on : (d : ℕ) (end : Place) (a c : Expression) (ks m : List Terminal) (p : Position) (after r : List Terminal) (e : ParseError) → Begins begins_expression ks → Chain Additive d a ks m → m ≡ kind.DotDot at p ∷ after → Chain Additive d c after r → RefusesHere NoMoreType d end r e → RefusesPart SomeBounded d end ks e
bound_goes_on d end a c ks m p after r e b f is g h = bound_tail {W = Never} d end a ks m e b f (λ q x. absurd x) (subst (λ z. RefusesHere Tail d end z e) (sym is) (refuses_behind_by {W = Never} (Seq (Chain Additive) NoMoreType) Tail d end (kind.DotDot at p) after e (into_tail p) (λ q x. absurd x) (refuses_after_by {W = Never} (Chain Additive) NoMoreType d end c after r e (known_chain Additive) g (λ q x. absurd x) h)))

pub bounds_whole : (d : ℕ) (a c : Expression) (ks m : List Terminal) (p : Position) (after r : List Terminal) → Chain Additive d a ks m → m ≡ kind.DotDot at p ∷ after → Chain Additive d c after r → StopsDenoter r → SomeBounded d (subrange a c) ks r
bounds_whole d a c ks m p after r f is g st = (is_subrange (subst (λ z. IsChain Additive d a ks z) is f.0) g.0, st)

-- an expression that is no type, and no other bound behind it
pub bound_no_type : (d : ℕ) (end : Place) (a : Expression) (ks m : List Terminal) (e : ParseError) → Begins begins_expression ks → Chain Additive d a ks m → NoMark mark.DotDot m → denoted a ≡ None → e ≡ refused_at 9 0 end m → RefusesPart SomeBounded d end ks e
bound_no_type d end a ks m e b p none untyped x =
    let w = (known_chain Additive).front d a ks m p in
    let s = cut_seen w.1 in
    by_grammar (syntax m x (λ d'. (
      s.0,
      w.2 ∙ s.1 m,
      λ ls t r h f.
          let whole : Chain Additive d a (s.0 ++ ls) ls = subst (λ z. Chain Additive d a z ls) (s.1 ls) (w.3 ls h) in
          let begin : Begins begins_expression (s.0 ++ ls) = same_begins begins_expression ks (s.0 ++ ls) (subst (λ z. SameHead z (s.0 ++ ls)) (sym (w.2 ∙ s.1 m)) (same_behind s.0 m ls h)) b in
          dies d' ls t r (s.0 ++ ls) h whole (reading d' t (s.0 ++ ls) r f begin),
    )))
  where
    none_some : {A : Type 0} {t : Denoter} → None ≡ Some t → A
    none_some h = absurd cc

    dies : (d' : ℕ) (ls : List Terminal) (t : Denoter) (r front : List Terminal) → SameHead m ls → Chain Additive d a front ls → Reading d' t front r → ⊥
    dies d' ls t r front s whole (reads_name x1 f h st) = none_some (sym untyped ∙ ap denoted (unique_chain whole.0 f.0 whole.1 f.1).0 ∙ h)
    dies d' ls t r front s whole (reads_bounds x1 c p1 m1 f g st) = no_mark_same mark.DotDot m ls s none p1 m1 (unique_chain whole.0 f.0 whole.1 f.1).1
    dies d' ls t r front s whole (reads_list i text p1 u w m1 z is) = no_list text p1 u w m1 front ls whole.0 is
