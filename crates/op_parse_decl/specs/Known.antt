-- What is known of phrases that are put together: they stand whatever follows that begins so, and end at one place.
use Rattle.std.proofs.Common.{◌≡◌, ℕ, suc, Bool, true, List, [], ◌∷◌, Option, Some, None, refl, sym, ap, ◌∙◌, subst}
use Rattle.op_parse_code.proofs.Cuts.{IsCut, cut_none, cut_one, cut_join, same_not}
use Rattle.op_parse_code.proofs.Factors.{same_begins}
use Rattle.op_parse_code.proofs.Refusing.{Known, no_mark_same}
use Rattle.op_parse_code.specs.Opening.{kind_of}
use Rattle.op_parse_code.specs.Refusal.{Phrase, SameHead}
use Rattle.op_parse_code.specs.Whole.{NoMark}
use Rattle.op_parse_code.specs.declared.mark.Mark.{Mark}
use Rattle.op_parse_decl.specs.Combined.{Both, Stands, stands, Then, then_, Behind, no_mark, behind_mark, Repeats, no_more, one_more, Or, this, that, Choice, chosen, otherwise, Deeper, deeper, Nothing, nothing, Fork, marked, unmarked, Several, HasMark, mark_ahead, Ahead, is_ahead, not_ahead, Separated, last_part, and_more, both}
use Rattle.op_scan.specs.declared.token.TokenKind.{TokenKind}
use Rattle.op_tree.proofs.ExpressionUnique.{behind}
use Rattle.op_tree.proofs.StatementUnique.{both as apart, differ}
use Rattle.op_tree.specs.Ends.{IsNot}
use Rattle.op_tree.specs.Terminal.{Terminal, ◌at◌}
use Rattle.op_tree.specs.declared.position.Position.{Position}

pub same_cut : {f : List Terminal → List Terminal} → IsCut f → (r x : List Terminal) → SameHead r x → SameHead (f r) (f x)
same_cut cut_none r x s = s
same_cut (cut_one t k) r x s = refl

-- Each part of Q is one of P, at the same tokens, and stands wherever that does.
abbrev pub As : {A B : Type 0} → Phrase A → Phrase B → Type 0
As {A} {B} P Q = (d : ℕ) (b : B) (ks r : List Terminal) → Q d b ks r → (a : A) × P d a ks r × ((i : ℕ) (ls s : List Terminal) → P i a ls s → Q i b ls s)

pub known_as : {A B : Type 0} {P : Phrase A} {Q : Phrase B} → As P Q → Known P → Known Q
known_as as_ known = record {
  front = λ d b ks m q. let w = as_ d b ks m q in let f = known.front d w.0 ks m w.1 in (f.0, f.1, f.2, λ x s. w.2 d (f.0 x) x (f.3 x s));
  same = λ d d' b b' ks m m' q q'. let w = as_ d b ks m q in let w' = as_ d' b' ks m' q' in known.same d d' w.0 w'.0 ks m m' w.1 w'.1;
  deepens = λ d b ks m q. let w = as_ d b ks m q in w.2 (suc d) ks m (known.deepens d w.0 ks m w.1);
}

-- ---- at any greater depth

-- what stands at a depth does at the next one
abbrev pub Deepens : {A : Type 0} → Phrase A → Type 0
Deepens {A} P = (d : ℕ) (a : A) (ks r : List Terminal) → P d a ks r → P (suc d) a ks r

deepens_stands : {m : Mark} → Deepens (Stands m)
deepens_stands d u ks r stands = stands

deepens_then : {A B : Type 0} {P : Phrase A} {Q : Phrase B} → Known P → Known Q → Deepens (Then P Q)
deepens_then one two d x ks r (then_ {a = a} {b = b} {m = m} p q) = then_ (one.deepens d a ks m p) (two.deepens d b m r q)

deepens_behind : {A : Type 0} {m : Mark} {P : Phrase A} → Known P → Deepens (Behind m P)
deepens_behind known d x ks r (no_mark none) = no_mark none
deepens_behind known d x ks r (behind_mark {a = a} {ks = z} q) = behind_mark (known.deepens d a z r q)

deepens_repeats : {A : Type 0} {test : TokenKind → Bool} {P : Phrase A} → Known P → Deepens (Repeats test P)
deepens_repeats known d x ks r (no_more h) = no_more h
deepens_repeats known d x ks r (one_more {a = a} {as_ = as_} {m = m} h p more) = one_more h (known.deepens d a ks m p) (deepens_repeats known d as_ m r more)

deepens_choice : {A B : Type 0} {test : TokenKind → Bool} {P : Phrase A} {Q : Phrase B} → Known P → Known Q → Deepens (Choice test P Q)
deepens_choice one two d x ks r (chosen {a = a} h p) = chosen h (one.deepens d a ks r p)
deepens_choice one two d x ks r (otherwise {b = b} h q) = otherwise h (two.deepens d b ks r q)

deepens_deeper : {A : Type 0} {P : Phrase A} → Known P → Deepens (Deeper P)
deepens_deeper known d x ks r (deeper {d = i} {a = a} p) = deeper (known.deepens i a ks r p)

deepens_nothing : Deepens Nothing
deepens_nothing d x ks r nothing = nothing

deepens_fork : {A B : Type 0} {m : Mark} {P : Phrase A} {Q : Phrase B} → Known P → Known Q → Deepens (Fork m P Q)
deepens_fork one two d x ks r (marked {a = a} {ks = z} p) = marked (one.deepens d a z r p)
deepens_fork one two d x ks r (unmarked {b = b} none q) = unmarked none (two.deepens d b ks r q)

deepens_ahead : {A B : Type 0} {m : Mark} {P : Phrase A} {Q : Phrase B} → Known P → Known Q → Deepens (Ahead m P Q)
deepens_ahead one two d x ks r (is_ahead {a = a} h p) = is_ahead h (one.deepens d a ks r p)
deepens_ahead one two d x ks r (not_ahead {b = b} none q) = not_ahead none (two.deepens d b ks r q)

deepens_separated : {A : Type 0} {m : Mark} {P : Phrase A} → Known P → Deepens (Separated m P)
deepens_separated known d x ks r (last_part {a = a} p none) = last_part (known.deepens d a ks r p) none
deepens_separated {m = m} known d x ks r (and_more {a = a} {as_ = as_} {p = q} {z = z} p more) = and_more (known.deepens d a ks (kind_of m at q ∷ z) p) (deepens_separated known d as_ z r more)

-- a mark that passes a test does not stand where the first token fails it
pub no_mark_by : (m : Mark) (test : TokenKind → Bool) {ks : List Terminal} → test (kind_of m) ≡ true → IsNot test ks → NoMark m ks
no_mark_by m test yes_ not_ p r h = differ test (sym h) yes_ not_

pub mark_stands : {m : Mark} {d : ℕ} {u : Unit {0}} {ks r : List Terminal} → Stands m d u ks r → (p : Position) × (ks ≡ kind_of m at p ∷ r)
mark_stands (stands {p = p}) = (p, refl)

front_stands : {m : Mark} (d : ℕ) (u : Unit {0}) (ks r : List Terminal) → Stands m d u ks r → (f : List Terminal → List Terminal) × IsCut f × (ks ≡ f r) × ((z : List Terminal) → SameHead r z → Stands m d u (f z) z)
front_stands {m = m} d u ks r (stands {p = p}) = (λ x. kind_of m at p ∷ x, cut_one (kind_of m at p) cut_none, refl, λ x h. stands)

pub known_stands : (m : Mark) → Known (Stands m)
known_stands m = record { front = front_stands; same = λ d d' u u' ks r r' p p'. ap behind (sym (mark_stands p).1 ∙ (mark_stands p').1); deepens = deepens_stands }

-- tokens in front of others, with which the part stands before any others that begin so
abbrev pub Stays : (List Terminal → List Terminal → Type 0) → List Terminal → List Terminal → Type 0
Stays P ks r = (f : List Terminal → List Terminal) × IsCut f × (ks ≡ f r) × ((z : List Terminal) → SameHead r z → P (f z) z)

pub join : (P Q R : List Terminal → List Terminal → Type 0) {ks m r : List Terminal} → ((ls y z : List Terminal) → P ls y → Q y z → R ls z) → Stays P ks m → Stays Q m r → Stays R ks r
join P Q R {r = r} h f g = (λ z. f.0 (g.0 z), cut_join f.1 g.1, f.2 ∙ ap f.0 g.2, λ z s. h (f.0 (g.0 z)) (g.0 z) z (f.3 (g.0 z) (subst (λ y. SameHead y (g.0 z)) (sym g.2) (same_cut g.1 r z s))) (g.3 z s))

front_then : {A B : Type 0} {P : Phrase A} {Q : Phrase B} → Known P → Known Q → (d : ℕ) (x : Both A B) (ks r : List Terminal) → Then P Q d x ks r → Stays (Then P Q d x) ks r
front_then {P = P} {Q = Q} one two d x ks r (then_ {a = a} {b = b} {m = m} p q) = join (P d a) (Q d b) (Then P Q d (both a b)) (λ ls y z u v. then_ u v) (one.front d a ks m p) (two.front d b m r q)

same_then : {A B : Type 0} {P : Phrase A} {Q : Phrase B} → Known P → Known Q → (d d' : ℕ) (x x' : Both A B) (ks r r' : List Terminal) → Then P Q d x ks r → Then P Q d' x' ks r' → r ≡ r'
same_then {Q = Q} one two d d' x x' ks r r' (then_ {a = a} {b = b} {m = m} p q) (then_ {a = a'} {b = b'} {m = m'} p' q') =
    let e = one.same d d' a a' ks m m' p p' in
    two.same d d' b b' m r r' q (subst (λ y. Q d' b' y r') (sym e) q')

pub known_then : {A B : Type 0} {P : Phrase A} {Q : Phrase B} → Known P → Known Q → Known (Then P Q)
known_then one two = record { front = front_then one two; same = same_then one two; deepens = deepens_then one two }

front_behind : {A : Type 0} {m : Mark} {P : Phrase A} → Known P → (d : ℕ) (x : Option A) (ks r : List Terminal) → Behind m P d x ks r → (f : List Terminal → List Terminal) × IsCut f × (ks ≡ f r) × ((z : List Terminal) → SameHead r z → Behind m P d x (f z) z)
front_behind {m = m} known d None ks r (no_mark none) = (λ z. z, cut_none, refl, λ z s. no_mark (no_mark_same m ks z s none))
front_behind {m = m} known d (Some a) ks r (behind_mark {p = p} {ks = z} q) =
    let f = known.front d a z r q in
    (λ x. kind_of m at p ∷ f.0 x, cut_one (kind_of m at p) f.1, ap (λ y. kind_of m at p ∷ y) f.2, λ x s. behind_mark (f.3 x s))

-- the mark stands there, with the part behind it, or it does not
abbrev pub MayStand : {A : Type 0} → Mark → Phrase A → Phrase (Option A)
MayStand m P d None ks r = NoMark m ks × (ks ≡ r)
MayStand m P d (Some a) ks r = (p : Position) × (z : List Terminal) × (ks ≡ kind_of m at p ∷ z) × P d a z r

pub may_stand : {A : Type 0} {m : Mark} {P : Phrase A} {d : ℕ} (x : Option A) {ks r : List Terminal} → Behind m P d x ks r → MayStand m P d x ks r
may_stand None (no_mark none) = (none, refl)
may_stand (Some a) (behind_mark {p = p} {ks = z} q) = (p, z, refl, q)

same_optional : {A : Type 0} (m : Mark) {P : Phrase A} → Known P → (d d' : ℕ) (x x' : Option A) (ks r r' : List Terminal) → MayStand m P d x ks r → MayStand m P d' x' ks r' → r ≡ r'
same_optional m known d d' None None ks r r' (none, e) (none', e') = sym e ∙ e'
same_optional m known d d' None (Some a') ks r r' (none, e) (p, z, e', q) = absurd (none p z e')
same_optional m known d d' (Some a) None ks r r' (p, z, e, q) (none, e') = absurd (none p z e)
same_optional m {P = P} known d d' (Some a) (Some a') ks r r' (p, z, e, q) (p', z', e', q') = known.same d d' a a' z r r' q (subst (λ y. P d' a' y r') (ap behind (sym e' ∙ e)) q')

pub known_behind : {A : Type 0} {m : Mark} {P : Phrase A} → Known P → Known (Behind m P)
known_behind {m = m} known = record { front = front_behind known; same = λ d d' x x' ks r r' p p'. same_optional m known d d' x x' ks r r' (may_stand x p) (may_stand x' p'); deepens = deepens_behind known }

front_repeats : {A : Type 0} {test : TokenKind → Bool} {P : Phrase A} → Known P → (d : ℕ) (as_ : List A) (ks r : List Terminal) → Repeats test P d as_ ks r → (f : List Terminal → List Terminal) × IsCut f × (ks ≡ f r) × ((z : List Terminal) → SameHead r z → Repeats test P d as_ (f z) z)
front_repeats {test = test} known d [] ks r (no_more h) = (λ z. z, cut_none, refl, λ z s. no_more (same_not test ks z s h))
front_repeats {test = test} known d (a ∷ as_) ks r (one_more {m = m} h p more) =
    let f = known.front d a ks m p in
    let g = front_repeats known d as_ m r more in
    let whole : ks ≡ f.0 (g.0 r) = f.2 ∙ ap f.0 g.2 in
    (λ z. f.0 (g.0 z), cut_join f.1 g.1, whole, λ z s. one_more (same_begins test ks (f.0 (g.0 z)) (subst (λ y. SameHead y (f.0 (g.0 z))) (sym whole) (same_cut (cut_join f.1 g.1) r z s)) h) (f.3 (g.0 z) (subst (λ y. SameHead y (g.0 z)) (sym g.2) (same_cut g.1 r z s))) (g.3 z s))

same_repeats : {A : Type 0} {test : TokenKind → Bool} {P : Phrase A} → Known P → (d d' : ℕ) (as_ as' : List A) (ks r r' : List Terminal) → Repeats test P d as_ ks r → Repeats test P d' as' ks r' → r ≡ r'
same_repeats known d d' [] [] ks r r' (no_more h) (no_more h') = refl
same_repeats {test = test} known d d' [] (a' ∷ as') ks r r' (no_more h) (one_more h' p' more') = apart test ks h' h
same_repeats {test = test} known d d' (a ∷ as_) [] ks r r' (one_more h p more) (no_more h') = apart test ks h h'
same_repeats {test = test} {P = P} known d d' (a ∷ as_) (a' ∷ as') ks r r' (one_more {m = m} h p more) (one_more {m = m'} h' p' more') =
    let e = known.same d d' a a' ks m m' p p' in
    same_repeats known d d' as_ as' m r r' more (subst (λ y. Repeats test P d' as' y r') (sym e) more')

pub known_repeats : {A : Type 0} {test : TokenKind → Bool} {P : Phrase A} → Known P → Known (Repeats test P)
known_repeats known = record { front = front_repeats known; same = same_repeats known; deepens = deepens_repeats known }

front_choice : {A B : Type 0} {test : TokenKind → Bool} {P : Phrase A} {Q : Phrase B} → Known P → Known Q → (d : ℕ) (x : Or A B) (ks r : List Terminal) → Choice test P Q d x ks r → (f : List Terminal → List Terminal) × IsCut f × (ks ≡ f r) × ((z : List Terminal) → SameHead r z → Choice test P Q d x (f z) z)
front_choice {test = test} known known' d (this a) ks r (chosen h p) =
    let f = known.front d a ks r p in
    (f.0, f.1, f.2, λ z s. chosen (same_begins test ks (f.0 z) (subst (λ y. SameHead y (f.0 z)) (sym f.2) (same_cut f.1 r z s)) h) (f.3 z s))
front_choice {test = test} known known' d (that b) ks r (otherwise h p) =
    let f = known'.front d b ks r p in
    (f.0, f.1, f.2, λ z s. otherwise (same_not test ks (f.0 z) (subst (λ y. SameHead y (f.0 z)) (sym f.2) (same_cut f.1 r z s)) h) (f.3 z s))

same_choice : {A B : Type 0} {test : TokenKind → Bool} {P : Phrase A} {Q : Phrase B} → Known P → Known Q → (d d' : ℕ) (x x' : Or A B) (ks r r' : List Terminal) → Choice test P Q d x ks r → Choice test P Q d' x' ks r' → r ≡ r'
same_choice known known' d d' (this a) (this a') ks r r' (chosen h p) (chosen h' p') = known.same d d' a a' ks r r' p p'
same_choice {test = test} known known' d d' (this a) (that b) ks r r' (chosen h p) (otherwise h' p') = apart test ks h h'
same_choice {test = test} known known' d d' (that b) (this a) ks r r' (otherwise h p) (chosen h' p') = apart test ks h' h
same_choice known known' d d' (that b) (that b') ks r r' (otherwise h p) (otherwise h' p') = known'.same d d' b b' ks r r' p p'

pub known_choice : {A B : Type 0} {test : TokenKind → Bool} {P : Phrase A} {Q : Phrase B} → Known P → Known Q → Known (Choice test P Q)
known_choice known known' = record { front = front_choice known known'; same = same_choice known known'; deepens = deepens_choice known known' }

front_deeper : {A : Type 0} {P : Phrase A} → Known P → (d : ℕ) (x : A) (ks r : List Terminal) → Deeper P d x ks r → (f : List Terminal → List Terminal) × IsCut f × (ks ≡ f r) × ((z : List Terminal) → SameHead r z → Deeper P d x (f z) z)
front_deeper known d x ks r (deeper {d = i} p) = let f = known.front i x ks r p in (f.0, f.1, f.2, λ z s. deeper (f.3 z s))

same_deeper : {A : Type 0} {P : Phrase A} → Known P → (d d' : ℕ) (x x' : A) (ks r r' : List Terminal) → Deeper P d x ks r → Deeper P d' x' ks r' → r ≡ r'
same_deeper known d d' x x' ks r r' (deeper {d = i} p) (deeper {d = i'} p') = known.same i i' x x' ks r r' p p'

pub known_deeper : {A : Type 0} {P : Phrase A} → Known P → Known (Deeper P)
known_deeper known = record { front = front_deeper known; same = same_deeper known; deepens = deepens_deeper known }

front_nothing : (d : ℕ) (x : Unit {0}) (ks r : List Terminal) → Nothing d x ks r → (f : List Terminal → List Terminal) × IsCut f × (ks ≡ f r) × ((z : List Terminal) → SameHead r z → Nothing d x (f z) z)
front_nothing d x ks r nothing = (λ z. z, cut_none, refl, λ z s. nothing)

same_nothing : (d d' : ℕ) (x x' : Unit {0}) (ks r r' : List Terminal) → Nothing d x ks r → Nothing d' x' ks r' → r ≡ r'
same_nothing d d' x x' ks r r' nothing nothing = refl

pub known_nothing : Known Nothing
known_nothing = record { front = front_nothing; same = same_nothing; deepens = deepens_nothing }

-- the mark with the part behind it, or no mark and the other part
abbrev pub Forked : {A B : Type 0} → Mark → Phrase A → Phrase B → Phrase (Or A B)
Forked m P Q d (this a) ks r = (p : Position) × (z : List Terminal) × (ks ≡ kind_of m at p ∷ z) × P d a z r
Forked m P Q d (that b) ks r = NoMark m ks × Q d b ks r

pub forked : {A B : Type 0} {m : Mark} {P : Phrase A} {Q : Phrase B} {d : ℕ} (x : Or A B) {ks r : List Terminal} → Fork m P Q d x ks r → Forked m P Q d x ks r
forked (this a) (marked {p = p} {ks = z} q) = (p, z, refl, q)
forked (that b) (unmarked none q) = (none, q)

front_fork : {A B : Type 0} {m : Mark} {P : Phrase A} {Q : Phrase B} → Known P → Known Q → (d : ℕ) (x : Or A B) (ks r : List Terminal) → Fork m P Q d x ks r → (f : List Terminal → List Terminal) × IsCut f × (ks ≡ f r) × ((z : List Terminal) → SameHead r z → Fork m P Q d x (f z) z)
front_fork {m = m} known known' d (this a) ks r (marked {p = p} {ks = z} q) =
    let f = known.front d a z r q in
    (λ x. kind_of m at p ∷ f.0 x, cut_one (kind_of m at p) f.1, ap (λ y. kind_of m at p ∷ y) f.2, λ x s. marked (f.3 x s))
front_fork {m = m} known known' d (that b) ks r (unmarked none q) =
    let f = known'.front d b ks r q in
    (f.0, f.1, f.2, λ z s. unmarked (no_mark_same m ks (f.0 z) (subst (λ y. SameHead y (f.0 z)) (sym f.2) (same_cut f.1 r z s)) none) (f.3 z s))

same_fork : {A B : Type 0} (m : Mark) (P : Phrase A) (Q : Phrase B) → Known P → Known Q → (d d' : ℕ) (x x' : Or A B) (ks r r' : List Terminal) → Forked m P Q d x ks r → Forked m P Q d' x' ks r' → r ≡ r'
same_fork m P Q known known' d d' (this a) (this a') ks r r' (p, z, e, q) (p', z', e', q') = known.same d d' a a' z r r' q (subst (λ y. P d' a' y r') (ap behind (sym e' ∙ e)) q')
same_fork m P Q known known' d d' (this a) (that b) ks r r' (p, z, e, q) (none, q') = absurd (none p z e)
same_fork m P Q known known' d d' (that b) (this a) ks r r' (none, q) (p, z, e, q') = absurd (none p z e)
same_fork m P Q known known' d d' (that b) (that b') ks r r' (none, q) (none', q') = known'.same d d' b b' ks r r' q q'

pub known_fork : {A B : Type 0} {m : Mark} {P : Phrase A} {Q : Phrase B} → Known P → Known Q → Known (Fork m P Q)
known_fork {m = m} {P = P} {Q = Q} known known' = record { front = front_fork known known'; same = λ d d' x x' ks r r' p p'. same_fork m P Q known known' d d' x x' ks r r' (forked x p) (forked x' p'); deepens = deepens_fork known known' }

pub known_several : {A : Type 0} {test : TokenKind → Bool} {P : Phrase A} → Known P → Known (Several test P)
known_several {test = test} known = record {
  front = λ d as_ ks r p. let f = front_repeats known d as_ ks r p.1 in (f.0, f.1, f.2, λ x s. (same_begins test ks (f.0 x) (subst (λ y. SameHead y (f.0 x)) (sym f.2) (same_cut f.1 r x s)) p.0, f.3 x s));
  same = λ d d' as_ as' ks r r' p p'. same_repeats known d d' as_ as' ks r r' p.1 p'.1;
  deepens = λ d as_ ks r p. (p.0, deepens_repeats known d as_ ks r p.1);
}

-- ---- a part where a mark stands

pub has_mark_same : (m : Mark) (ks ls : List Terminal) → SameHead ks ls → HasMark m ks → HasMark m ls
has_mark_same m ks [] s mark_ahead = absurd s
has_mark_same m ks (u ∷ ls) s mark_ahead = subst (λ (z : Terminal). HasMark m (z ∷ ls)) s mark_ahead

pub mark_or_none : {A : Type 0} {m : Mark} {ks : List Terminal} → HasMark m ks → NoMark m ks → A
mark_or_none (mark_ahead {p = p} {r = r}) none = absurd (none p r refl)

front_ahead : {A B : Type 0} {m : Mark} {P : Phrase A} {Q : Phrase B} → Known P → Known Q → (d : ℕ) (x : Or A B) (ks r : List Terminal) → Ahead m P Q d x ks r → Stays (Ahead m P Q d x) ks r
front_ahead {m = m} known known' d (this a) ks r (is_ahead h p) =
    let f = known.front d a ks r p in
    (f.0, f.1, f.2, λ z s. is_ahead (has_mark_same m ks (f.0 z) (subst (λ y. SameHead y (f.0 z)) (sym f.2) (same_cut f.1 r z s)) h) (f.3 z s))
front_ahead {m = m} known known' d (that b) ks r (not_ahead none p) =
    let f = known'.front d b ks r p in
    (f.0, f.1, f.2, λ z s. not_ahead (no_mark_same m ks (f.0 z) (subst (λ y. SameHead y (f.0 z)) (sym f.2) (same_cut f.1 r z s)) none) (f.3 z s))

same_ahead : {A B : Type 0} {m : Mark} {P : Phrase A} {Q : Phrase B} → Known P → Known Q → (d d' : ℕ) (x x' : Or A B) (ks r r' : List Terminal) → Ahead m P Q d x ks r → Ahead m P Q d' x' ks r' → r ≡ r'
same_ahead known known' d d' (this a) (this a') ks r r' (is_ahead h p) (is_ahead h' p') = known.same d d' a a' ks r r' p p'
same_ahead known known' d d' (this a) (that b) ks r r' (is_ahead h p) (not_ahead none p') = mark_or_none h none
same_ahead known known' d d' (that b) (this a) ks r r' (not_ahead none p) (is_ahead h p') = mark_or_none h none
same_ahead known known' d d' (that b) (that b') ks r r' (not_ahead none p) (not_ahead none' p') = known'.same d d' b b' ks r r' p p'

pub known_ahead : {A B : Type 0} {m : Mark} {P : Phrase A} {Q : Phrase B} → Known P → Known Q → Known (Ahead m P Q)
known_ahead known known' = record { front = front_ahead known known'; same = same_ahead known known'; deepens = deepens_ahead known known' }

-- ---- parts with a mark between them

front_separated : {A : Type 0} {m : Mark} {P : Phrase A} → Known P → (d : ℕ) (as_ : List A) (ks r : List Terminal) → Separated m P d as_ ks r → Stays (Separated m P d as_) ks r
front_separated {m = m} known d xs ks r (last_part {a = a} p none) =
    let f = known.front d a ks r p in
    (f.0, f.1, f.2, λ z s. last_part (f.3 z s) (no_mark_same m r z s none))
front_separated {m = m} known d xs ks r (and_more {a = a} {as_ = as_} {p = q} {z = y} p more) =
    let f = known.front d a ks (kind_of m at q ∷ y) p in
    let g = front_separated known d as_ y r more in
    (λ x. f.0 (kind_of m at q ∷ g.0 x), cut_join f.1 (cut_one (kind_of m at q) g.1), f.2 ∙ ap (λ x. f.0 (kind_of m at q ∷ x)) g.2, λ x s. and_more (f.3 (kind_of m at q ∷ g.0 x) refl) (g.3 x s))

same_separated : {A : Type 0} {m : Mark} {P : Phrase A} → Known P → (d d' : ℕ) (as_ as' : List A) (ks r r' : List Terminal) → Separated m P d as_ ks r → Separated m P d' as' ks r' → r ≡ r'
same_separated known d d' xs xs' ks r r' (last_part {a = a} p none) (last_part {a = a'} p' none') = known.same d d' a a' ks r r' p p'
same_separated known d d' xs xs' ks r r' (last_part {a = a} p none) (and_more {a = a'} {p = q} {z = y} p' more) = absurd (none q y (known.same d d' a a' ks r _ p p'))
same_separated known d d' xs xs' ks r r' (and_more {a = a} {p = q} {z = y} p more) (last_part {a = a'} p' none) = absurd (none q y (sym (known.same d d' a a' ks _ r' p p')))
same_separated {m = m} {P = P} known d d' xs xs' ks r r' (and_more {a = a} {as_ = as_} {z = y} p more) (and_more {a = a'} {as_ = as'} p' more') =
    let e = ap behind (known.same d d' a a' ks _ _ p p') in
    same_separated known d d' as_ as' y r r' more (subst (λ x. Separated m P d' as' x r') (sym e) more')

pub known_separated : {A : Type 0} {m : Mark} {P : Phrase A} → Known P → Known (Separated m P)
known_separated known = record { front = front_separated known; same = same_separated known; deepens = deepens_separated known }
