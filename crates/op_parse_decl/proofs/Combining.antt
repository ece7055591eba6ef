-- What is known of phrases that are put together, and what refuses them.
use Rattle.std.proofs.Common.{◌≡◌, ℕ, suc, Bool, List, [], ◌∷◌, ◌++◌, Option, Some, None, map, refl, sym, ap, ◌∙◌, subst}
use Rattle.std.proofs.lemmas.List.{append-nil}
use Rattle.op_base.specs.declared.place.Place.{Place}
use Rattle.op_parse_code.proofs.Cuts.{same_not}
use Rattle.op_parse_code.proofs.Factors.{same_begins}
use Rattle.op_parse_code.proofs.Lists.{SplitsOpen}
use Rattle.op_parse_code.proofs.Refusing.{Some_, Seq, Known, no_mark_same, dead_here, head_same}
use Rattle.op_parse_code.specs.Opening.{kind_of}
use Rattle.op_parse_code.specs.Refusal.{Phrase, SameHead, Shown, Refuses, syntax, nested, decides_there, refused_at}
use Rattle.op_parse_code.specs.Whole.{Marked, NoMark}
use Rattle.op_parse_code.specs.declared.error.ParseError.{ParseError}
use Rattle.op_parse_code.specs.declared.mark.Mark.{Mark}
use Rattle.op_parse_decl.proofs.Refusals.{flat_mark, open_item, open_more, refuses_map, refuses_first, refuses_after, refuses_behind, refuses_deeper, refuses_part}
use Rattle.op_parse_decl.specs.Begun.{ThenBegun, in_first, in_second, BehindBegun, behind_it, RepeatsBegun, in_next, in_further, SeparatedBegun, in_part, in_others, ChoiceBegun, in_chosen, in_other, ForkBegun, in_marked, in_unmarked, AheadBegun, in_ahead, in_not_ahead, DeeperBegun, in_deeper, no_room}
use Rattle.op_parse_decl.specs.Combined.{Both, Stands, stands, Then, then_, Behind, behind_mark, Repeats, no_more, one_more, Or, this, that, Choice, chosen, otherwise, Deeper, deeper, Fork, marked, Several, HasMark, mark_ahead, Ahead, is_ahead, not_ahead, Separated, last_part, and_more}
use Rattle.op_parse_decl.specs.Known.{As, Forked, forked, MayStand, may_stand, mark_stands, has_mark_same, mark_or_none}
use Rattle.op_parse_decl.specs.Refusal.{decides_in_code, Never, RefusesParts, by_grammar}
use Rattle.op_scan.specs.declared.token.TokenKind.{TokenKind}
use Rattle.op_tree.proofs.ExpressionUnique.{Begins, behind}
use Rattle.op_tree.proofs.StatementUnique.{both as apart}
use Rattle.op_tree.specs.Ends.{IsNot}
use Rattle.op_tree.specs.Terminal.{Terminal, ◌at◌}
use Rattle.op_tree.specs.declared.position.Position.{Position}

-- ---- first tokens

pub same_sym : (ks ls : List Terminal) → SameHead ks ls → SameHead ls ks
same_sym [] [] s = s
same_sym [] (u ∷ ls) s = s
same_sym (t ∷ ks) [] s = s
same_sym (t ∷ ks) (u ∷ ls) s = sym s

pub head_of : {t u : Terminal} {ks ls : List Terminal} → t ∷ ks ≡ u ∷ ls → t ≡ u
head_of h = cc

-- ---- the same phrase in other words

pub refuses_as : {A B : Type 0} {W : Shown} {P : Phrase A} {Q : Phrase B} {d : ℕ} {end : Place} {ks : List Terminal} {e : ParseError} → As P Q → RefusesParts W P d end ks e → RefusesParts W Q d end ks e
refuses_as {W = W} {P = P} {Q = Q} {d = d} {end = end} {ks = ks} {e = e} as_ h = refuses_map {W = W} P Q d end ks e (λ d' b ls r s q. let w = as_ d' b ls r q in (w.0, r, w.1)) (λ q x. x) h

-- ---- a mark

pub mark_refused : (m : Mark) (d : ℕ) (end : Place) (ks : List Terminal) (e : ParseError) → Refuses (Marked m) d end ks e → RefusesParts Never (Stands m) d end ks e
mark_refused m d end ks e h = refuses_map (Marked m) (Stands m) d end ks e (λ d' u ls r s q. let w = mark_stands q in (w.0, r, w.1)) (λ q x. absurd x) (refuses_part (flat_mark m h))

pub mark_is : (m : Mark) (d : ℕ) (p : Position) (ks r : List Terminal) → ks ≡ kind_of m at p ∷ r → Stands m d tt ks r
mark_is m d p ks r e = subst (λ z. Stands m d tt z r) (sym e) stands

-- ---- one part, and behind it another

into_seq : {A B : Type 0} {P : Phrase A} {Q : Phrase B} (d : ℕ) (x : Both A B) (ks r : List Terminal) → Then P Q d x ks r → Some_ (Seq P Q) d ks
into_seq d x ks r (then_ {a = a} {b = b} {m = m} p q) = ((a, b), r, (m, p, q))

pub first : {A B : Type 0} {W V : Shown} {P : Phrase A} {Q : Phrase B} {d : ℕ} {end : Place} {ks : List Terminal} {e : ParseError} → RefusesParts W P d end ks e → RefusesParts (ThenBegun W P V) (Then P Q) d end ks e
first {W = W} {V = V} {P = P} {Q = Q} {d = d} {end = end} {ks = ks} {e = e} h = refuses_map {W = ThenBegun W P V} (Seq P Q) (Then P Q) d end ks e (λ d' b ls r s x. into_seq d' b ls r x) (λ q x. x) (refuses_first P Q d end ks e (λ q x. in_first x) h)

pub after : {A B : Type 0} {W V : Shown} {P : Phrase A} {Q : Phrase B} {d : ℕ} {end : Place} {a : A} {ks m : List Terminal} {e : ParseError} → Known P → P d a ks m → RefusesParts V Q d end m e → RefusesParts (ThenBegun W P V) (Then P Q) d end ks e
after {W = W} {V = V} {P = P} {Q = Q} {d = d} {end = end} {a = a} {ks = ks} {m = m} {e = e} known p h = refuses_map {W = ThenBegun W P V} (Seq P Q) (Then P Q) d end ks e (λ d' b ls r s x. into_seq d' b ls r x) (λ q x. x) (refuses_after P Q d end a ks m e known p (λ q x. in_second p x) h)

-- ---- a part behind a mark

into_behind : {A : Type 0} (m : Mark) (P : Phrase A) (p : Position) (d : ℕ) (x : Option A) (ls r : List Terminal) → MayStand m P d x (kind_of m at p ∷ ls) r → Some_ P d ls
into_behind m P p d None ls r (none, e) = absurd (none p ls refl)
into_behind m P p d (Some a) ls r (q, z, e, f) = (a, r, subst (λ y. P d a y r) (sym (ap behind e)) f)

pub behind_is : {A : Type 0} (m : Mark) (P : Phrase A) (d : ℕ) (a : A) (p : Position) (ks after r : List Terminal) → ks ≡ kind_of m at p ∷ after → P d a after r → Behind m P d (Some a) ks r
behind_is m P d a p ks after r e f = subst (λ z. Behind m P d (Some a) z r) (sym e) (behind_mark f)

-- the mark stands there, and what is behind it is refused
pub behind_refused : {A : Type 0} {W : Shown} (m : Mark) (P : Phrase A) (d : ℕ) (end : Place) (p : Position) (ks after : List Terminal) (e : ParseError) → ks ≡ kind_of m at p ∷ after → RefusesParts W P d end after e → RefusesParts (BehindBegun m W) (Behind m P) d end ks e
behind_refused {W = W} m P d end p ks after e is h = subst (λ z. RefusesParts (BehindBegun m W) (Behind m P) d end z e) (sym is) (refuses_behind P (Behind m P) d end (kind_of m at p) after e (λ d' x ls r q. into_behind m P p d' x ls r (may_stand x q)) (λ q x. behind_it x) h)

-- ---- repeated parts

into_item : {A : Type 0} (test : TokenKind → Bool) (P : Phrase A) (ks : List Terminal) → Begins test ks → (d : ℕ) (as_ : List A) (ls r : List Terminal) → SameHead ks ls → Repeats test P d as_ ls r → Some_ (Seq P (Repeats test P)) d ls
into_item test P ks h d [] ls r s (no_more h') = apart test ls (same_begins test ks ls s h) h'
into_item test P ks h d (a ∷ as_) ls r s (one_more {m = m} h' p more) = ((a, as_), r, (m, p, more))

-- the parts of a list that are read so far, and what is left
pub record Repeating {A X : Type 0} (L : Phrase (List A)) (V : Shown) (says : X → A) (d : ℕ) (end : Place) (all : List Terminal) (xs : List X) (rest : List Terminal) : Type 0 where
  pub completes : (more : List A) (r : List Terminal) → L d more rest r → L d (map says xs ++ more) all r
  pub dies : (e : ParseError) → RefusesParts V L d end rest e → RefusesParts V L d end all e

pub repeating_none : {A X : Type 0} (L : Phrase (List A)) (V : Shown) (says : X → A) (d : ℕ) (end : Place) (all : List Terminal) → Repeating L V says d end all [] all
repeating_none L V says d end all = record { completes = λ more r x. x; dies = λ e x. x }

pub repeating_item : {A X : Type 0} {W : Shown} (test : TokenKind → Bool) (P : Phrase A) (says : X → A) (d : ℕ) (end : Place) (all rest : List Terminal) (xs : List X) (e : ParseError) → Repeating (Repeats test P) (RepeatsBegun test P W) says d end all xs rest → Begins test rest → RefusesParts W P d end rest e → RefusesParts (RepeatsBegun test P W) (Repeats test P) d end all e
repeating_item {W = W} test P says d end all rest xs e so_far b h = so_far.dies e (refuses_map {W = RepeatsBegun test P W} (Seq P (Repeats test P)) (Repeats test P) d end rest e (into_item test P rest b) (λ q x. x) (refuses_first P (Repeats test P) d end rest e (λ q x. in_next b x) h))

map_push : {A X : Type 0} (says : X → A) (xs : List X) (x : X) (more : List A) → map says (xs ++ (x ∷ [])) ++ more ≡ map says xs ++ (says x ∷ more)
map_push says [] x more = refl
map_push says (y ∷ xs) x more = ap (λ z. says y ∷ z) (map_push says xs x more)

repeating_push : {A X : Type 0} (L : Phrase (List A)) (V : Shown) (says : X → A) (d : ℕ) (end : Place) (all rest m : List Terminal) (xs : List X) (x : X) → Repeating L V says d end all xs rest → ((more : List A) (r : List Terminal) → L d more m r → L d (says x ∷ more) rest r) → ((e : ParseError) → RefusesParts V L d end m e → RefusesParts V L d end rest e) → Repeating L V says d end all (xs ++ (x ∷ [])) m
repeating_push L V says d end all rest m xs x so_far f g = record {
  completes = λ more r h. subst (λ z. L d z all r) (sym (map_push says xs x more)) (so_far.completes (says x ∷ more) r (f more r h));
  dies = λ e h. so_far.dies e (g e h);
}

pub repeating_more : {A X : Type 0} {W : Shown} (test : TokenKind → Bool) (P : Phrase A) (says : X → A) (d : ℕ) (end : Place) (all rest m : List Terminal) (xs : List X) (x : X) → Known P → Repeating (Repeats test P) (RepeatsBegun test P W) says d end all xs rest → Begins test rest → P d (says x) rest m → Repeating (Repeats test P) (RepeatsBegun test P W) says d end all (xs ++ (x ∷ [])) m
repeating_more {W = W} test P says d end all rest m xs x known so_far b p = repeating_push (Repeats test P) (RepeatsBegun test P W) says d end all rest m xs x so_far (λ more r h. one_more b p h) (λ e h. refuses_map {W = RepeatsBegun test P W} (Seq P (Repeats test P)) (Repeats test P) d end rest e (into_item test P rest b) (λ q y. y) (refuses_after P (Repeats test P) d end (says x) rest m e known p (λ q y. in_further b p y) h))

pub repeating_ends : {A X : Type 0} {V : Shown} (test : TokenKind → Bool) (P : Phrase A) (says : X → A) (d : ℕ) (end : Place) (all rest : List Terminal) (xs : List X) → Repeating (Repeats test P) V says d end all xs rest → IsNot test rest → Repeats test P d (map says xs) all rest
repeating_ends test P says d end all rest xs so_far h = subst (λ z. Repeats test P d z all rest) (append-nil (map says xs)) (so_far.completes [] rest (no_more h))

-- ---- parts with a mark between them

separated_split : {A : Type 0} (m : Mark) (P : Phrase A) → SplitsOpen P (Separated m P) (Separated m P) m
separated_split m P d x ls r (last_part {a = a} p none) = ((a, None), r, (r, p, (none, refl)))
separated_split m P d x ls r (and_more {a = a} {as_ = as_} {p = q} {z = z} p more) = ((a, Some as_), r, (kind_of m at q ∷ z, p, (q, z, refl, more)))

pub separated_item : {A X : Type 0} {W : Shown} (m : Mark) (P : Phrase A) (says : X → A) (d : ℕ) (end : Place) (all rest : List Terminal) (xs : List X) (e : ParseError) → Repeating (Separated m P) (SeparatedBegun m P W) says d end all xs rest → RefusesParts W P d end rest e → RefusesParts (SeparatedBegun m P W) (Separated m P) d end all e
separated_item m P says d end all rest xs e so_far h = so_far.dies e (open_item P (Separated m P) (Separated m P) m d end rest e (separated_split m P) (λ q x. in_part x) h)

pub separated_more : {A X : Type 0} {W : Shown} (m : Mark) (P : Phrase A) (says : X → A) (d : ℕ) (end : Place) (all rest behind : List Terminal) (xs : List X) (x : X) (q : Position) (after : List Terminal) → Known P → Repeating (Separated m P) (SeparatedBegun m P W) says d end all xs rest → P d (says x) rest behind → behind ≡ kind_of m at q ∷ after → Repeating (Separated m P) (SeparatedBegun m P W) says d end all (xs ++ (x ∷ [])) after
separated_more {W = W} m P says d end all rest behind xs x q after known so_far p is =
    let f : P d (says x) rest (kind_of m at q ∷ after) = subst (λ z. P d (says x) rest z) is p in
    repeating_push (Separated m P) (SeparatedBegun m P W) says d end all rest after xs x so_far (λ more r h. and_more f h) (λ e h. open_more P (Separated m P) (Separated m P) m d end (says x) rest behind after q e (separated_split m P) known p is (λ u y. in_others f y) h)

pub separated_ends : {A X : Type 0} {V : Shown} (m : Mark) (P : Phrase A) (says : X → A) (d : ℕ) (end : Place) (all rest behind : List Terminal) (xs : List X) (x : X) → Repeating (Separated m P) V says d end all xs rest → P d (says x) rest behind → NoMark m behind → Separated m P d (map says (xs ++ (x ∷ []))) all behind
separated_ends m P says d end all rest behind xs x so_far p none = subst (λ z. Separated m P d z all behind) (sym (map_push says xs x []) ∙ append-nil (map says (xs ++ (x ∷ [])))) (so_far.completes (says x ∷ []) behind (last_part p none))

-- ---- a choice

into_chosen : {A B : Type 0} {test : TokenKind → Bool} {P : Phrase A} {Q : Phrase B} (ks : List Terminal) → Begins test ks → (d : ℕ) (x : Or A B) (ls r : List Terminal) → SameHead ks ls → Choice test P Q d x ls r → Some_ P d ls
into_chosen ks h d (this a) ls r s (chosen h' p) = (a, r, p)
into_chosen {test = test} ks h d (that b) ls r s (otherwise h' p) = apart test ls (same_begins test ks ls s h) h'

into_other : {A B : Type 0} {test : TokenKind → Bool} {P : Phrase A} {Q : Phrase B} (ks : List Terminal) → IsNot test ks → (d : ℕ) (x : Or A B) (ls r : List Terminal) → SameHead ks ls → Choice test P Q d x ls r → Some_ Q d ls
into_other {test = test} ks h d (this a) ls r s (chosen h' p) = apart test ls h' (same_not test ks ls s h)
into_other ks h d (that b) ls r s (otherwise h' p) = (b, r, p)

pub chosen_refused : {A B : Type 0} {W V : Shown} {test : TokenKind → Bool} {P : Phrase A} {Q : Phrase B} {d : ℕ} {end : Place} {ks : List Terminal} {e : ParseError} → Begins test ks → RefusesParts W P d end ks e → RefusesParts (ChoiceBegun test W V) (Choice test P Q) d end ks e
chosen_refused {test = test} {P = P} {Q = Q} {d = d} {end = end} {ks = ks} {e = e} h f = refuses_map P (Choice test P Q) d end ks e (into_chosen ks h) (λ q x. in_chosen h x) f

pub otherwise_refused : {A B : Type 0} {W V : Shown} {test : TokenKind → Bool} {P : Phrase A} {Q : Phrase B} {d : ℕ} {end : Place} {ks : List Terminal} {e : ParseError} → IsNot test ks → RefusesParts V Q d end ks e → RefusesParts (ChoiceBegun test W V) (Choice test P Q) d end ks e
otherwise_refused {test = test} {P = P} {Q = Q} {d = d} {end = end} {ks = ks} {e = e} h f = refuses_map Q (Choice test P Q) d end ks e (into_other ks h) (λ q x. in_other h x) f

-- ---- one deeper

into_deeper : {A : Type 0} {P : Phrase A} (d : ℕ) (b : A) (ls r : List Terminal) → Deeper P d b ls r → (i : ℕ) × (d ≡ suc i) × Some_ P i ls
into_deeper d b ls r (deeper {d = i} p) = (i, refl, (b, r, p))

pub too_deep : {A : Type 0} {W : Shown} {P : Phrase A} {d : ℕ} {end : Place} {ks : List Terminal} {e : ParseError} → d ≡ 0 → e ≡ refused_at 61 0 end ks → RefusesParts (DeeperBegun W) (Deeper P) d end ks e
too_deep {W = W} {P = P} {end = end} {ks = ks} {e = e} z x = subst (λ (w : ℕ). RefusesParts (DeeperBegun W) (Deeper P) w end ks e) (sym z) (by_grammar (nested ks ks ks x (decides_in_code decides_there) (dead_here (Deeper P 0) ks (λ b ls r s f. none b ls r f)) decides_there no_room))
  where
    none : {A : Type 0} {P : Phrase A} (b : A) (ls r : List Terminal) → Deeper P 0 b ls r → ⊥
    none b ls r h = elim h [ ]

pub deeper_refused : {A : Type 0} {W : Shown} {P : Phrase A} {d i : ℕ} {end : Place} {ks : List Terminal} {e : ParseError} → d ≡ suc i → RefusesParts W P i end ks e → RefusesParts (DeeperBegun W) (Deeper P) d end ks e
deeper_refused {W = W} {P = P} {i = i} {end = end} {ks = ks} {e = e} z h = subst (λ (w : ℕ). RefusesParts (DeeperBegun W) (Deeper P) w end ks e) (sym z) (refuses_deeper P (Deeper P) i end ks e (λ d' b ls r s x. into_deeper d' b ls r x) (λ q x. in_deeper x) h)

pub deeper_whole : {A : Type 0} {P : Phrase A} {d i : ℕ} {a : A} {ks r : List Terminal} → d ≡ suc i → P i a ks r → Deeper P d a ks r
deeper_whole {P = P} {a = a} {ks = ks} {r = r} z h = subst (λ (w : ℕ). Deeper P w a ks r) (sym z) (deeper h)

-- ---- a mark that may stand there

into_marked : {A B : Type 0} (m : Mark) (P : Phrase A) (Q : Phrase B) (p : Position) (d : ℕ) (x : Or A B) (ls r : List Terminal) → Forked m P Q d x (kind_of m at p ∷ ls) r → Some_ P d ls
into_marked m P Q p d (this a) ls r (q, z, e, f) = (a, r, subst (λ y. P d a y r) (sym (ap behind e)) f)
into_marked m P Q p d (that b) ls r (none, f) = absurd (none p ls refl)

pub marked_refused : {A B : Type 0} {W V : Shown} (m : Mark) (P : Phrase A) (Q : Phrase B) (d : ℕ) (end : Place) (p : Position) (ks after : List Terminal) (e : ParseError) → ks ≡ kind_of m at p ∷ after → RefusesParts W P d end after e → RefusesParts (ForkBegun m W V) (Fork m P Q) d end ks e
marked_refused {W = W} {V = V} m P Q d end p ks after e is h = subst (λ z. RefusesParts (ForkBegun m W V) (Fork m P Q) d end z e) (sym is) (refuses_behind P (Fork m P Q) d end (kind_of m at p) after e (λ d' x ls r q. into_marked m P Q p d' x ls r (forked x q)) (λ q x. in_marked x) h)

pub marked_is : {A B : Type 0} (m : Mark) (P : Phrase A) (Q : Phrase B) (d : ℕ) (a : A) (p : Position) (ks after r : List Terminal) → ks ≡ kind_of m at p ∷ after → P d a after r → Fork m P Q d (this a) ks r
marked_is m P Q d a p ks after r e f = subst (λ z. Fork m P Q d (this a) z r) (sym e) (marked f)

into_unmarked : {A B : Type 0} (m : Mark) (P : Phrase A) (Q : Phrase B) (ks : List Terminal) → NoMark m ks → (d : ℕ) (x : Or A B) (ls r : List Terminal) → SameHead ks ls → Forked m P Q d x ls r → Some_ Q d ls
into_unmarked m P Q ks none d (this a) ls r s (q, z, e, f) = absurd (no_mark_same m ks ls s none q z e)
into_unmarked m P Q ks none d (that b) ls r s (none', f) = (b, r, f)

pub unmarked_refused : {A B : Type 0} {W V : Shown} (m : Mark) (P : Phrase A) (Q : Phrase B) (d : ℕ) (end : Place) (ks : List Terminal) (e : ParseError) → NoMark m ks → RefusesParts V Q d end ks e → RefusesParts (ForkBegun m W V) (Fork m P Q) d end ks e
unmarked_refused m P Q d end ks e none h = refuses_map Q (Fork m P Q) d end ks e (λ d' x ls r s q. into_unmarked m P Q ks none d' x ls r s (forked x q)) (λ q x. in_unmarked none x) h

-- ---- at least one

into_several : {A : Type 0} {test : TokenKind → Bool} {P : Phrase A} (d : ℕ) (b : List A) (ls r : List Terminal) → Several test P d b ls r → Some_ (Repeats test P) d ls
into_several d b ls r p = (b, r, p.1)

pub several_refused : {A : Type 0} {W : Shown} {test : TokenKind → Bool} {P : Phrase A} {d : ℕ} {end : Place} {ks : List Terminal} {e : ParseError} → RefusesParts W (Repeats test P) d end ks e → RefusesParts W (Several test P) d end ks e
several_refused {W = W} {test = test} {P = P} {d = d} {end = end} {ks = ks} {e = e} h = refuses_map {W = W} (Repeats test P) (Several test P) d end ks e (λ d' b ls r s p. into_several d' b ls r p) (λ q x. x) h

pub none_begins : {A : Type 0} {W : Shown} {test : TokenKind → Bool} {P : Phrase A} {d : ℕ} {end : Place} {ks : List Terminal} {e : ParseError} → IsNot test ks → e ≡ refused_at 9 0 end ks → RefusesParts W (Several test P) d end ks e
none_begins {test = test} {P = P} {ks = ks} h x = by_grammar (syntax ks x (λ d'. dead_here (Several test P d') ks (λ b ls r s p. apart test ls p.0 (same_not test ks ls s h))))

-- ---- a part where a mark stands

pub has_mark : {m : Mark} {p : Position} {ks r : List Terminal} → ks ≡ kind_of m at p ∷ r → HasMark m ks
has_mark {m = m} e = subst (HasMark m) (sym e) mark_ahead

into_ahead : {A B : Type 0} {m : Mark} {P : Phrase A} {Q : Phrase B} (ks : List Terminal) → HasMark m ks → (d : ℕ) (x : Or A B) (ls r : List Terminal) → SameHead ks ls → Ahead m P Q d x ls r → Some_ P d ls
into_ahead ks h d (this a) ls r s (is_ahead h' p) = (a, r, p)
into_ahead {m = m} ks h d (that b) ls r s (not_ahead none p) = mark_or_none (has_mark_same m ks ls s h) none

pub ahead_refused : {A B : Type 0} {W V : Shown} {m : Mark} {P : Phrase A} {Q : Phrase B} {d : ℕ} {end : Place} {ks : List Terminal} {e : ParseError} → HasMark m ks → RefusesParts W P d end ks e → RefusesParts (AheadBegun m W V) (Ahead m P Q) d end ks e
ahead_refused {m = m} {P = P} {Q = Q} {d = d} {end = end} {ks = ks} {e = e} h f = refuses_map P (Ahead m P Q) d end ks e (into_ahead ks h) (λ q x. in_ahead h x) f

into_not_ahead : {A B : Type 0} {m : Mark} {P : Phrase A} {Q : Phrase B} (ks : List Terminal) → NoMark m ks → (d : ℕ) (x : Or A B) (ls r : List Terminal) → SameHead ks ls → Ahead m P Q d x ls r → Some_ Q d ls
into_not_ahead {m = m} ks none d (this a) ls r s (is_ahead h p) = mark_or_none h (no_mark_same m ks ls s none)
into_not_ahead ks none d (that b) ls r s (not_ahead none' p) = (b, r, p)

pub not_ahead_refused : {A B : Type 0} {W V : Shown} {m : Mark} {P : Phrase A} {Q : Phrase B} {d : ℕ} {end : Place} {ks : List Terminal} {e : ParseError} → NoMark m ks → RefusesParts V Q d end ks e → RefusesParts (AheadBegun m W V) (Ahead m P Q) d end ks e
not_ahead_refused {m = m} {P = P} {Q = Q} {d = d} {end = end} {ks = ks} {e = e} none f = refuses_map Q (Ahead m P Q) d end ks e (into_not_ahead ks none) (λ q x. in_not_ahead none x) f
