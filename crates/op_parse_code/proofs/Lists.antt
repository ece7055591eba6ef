-- Lists of parts with a mark between them, up to another mark.
use Rattle.std.proofs.Common.{◌≡◌, ℕ, List, [], ◌∷◌, ◌++◌, Option, Some, None, sym, ap, ◌∙◌, subst, refl}
use Rattle.op_base.specs.declared.place.Place.{Place}
use Rattle.op_parse_code.proofs.Refusing.{Some_, Seq, Known, Shows, HandsOn, alive_after, refuses_map_by, refuses_first_by, refuses_after_by, refuses_behind_by, no_mark_same}
use Rattle.op_parse_code.proofs.Living.{Fits, Sample, hands_as, hands_behind, hands_first}
use Rattle.op_parse_code.specs.Opening.{kind_of}
use Rattle.op_parse_code.specs.Refusal.{Phrase, SameHead, Alive, Shown, Decision, Decides, RefusesBy}
use Rattle.op_parse_code.specs.Whole.{Marked, NoMark}
use Rattle.op_parse_code.specs.declared.error.ParseError.{ParseError}
use Rattle.op_parse_code.specs.declared.mark.Mark.{Mark}
use Rattle.op_scan.specs.declared.token.TokenKind.{TokenKind}
use Rattle.op_scan.specs.declared.token.TokenKind.TheVariants as kind
use Rattle.op_tree.proofs.ExpressionUnique.{behind}
use Rattle.op_tree.proofs.StatementUnique.{head_kind}
use Rattle.op_tree.specs.Terminal.{Terminal, ◌at◌}
use Rattle.op_tree.specs.declared.position.Position.{Position}

-- what stands behind a part: the last mark, or the mark between two and more parts
abbrev pub Tail : {X : Type 0} → Phrase X → Mark → Mark → ℕ → Option X → List Terminal → List Terminal → Type 0
Tail More by close d None ks r = (q : Position) × (ks ≡ kind_of close at q ∷ r)
Tail More by close d (Some x) ks r = (p : Position) × (m : List Terminal) × (ks ≡ kind_of by at p ∷ m) × More d x m r

-- such a list is a part and what stands behind it
abbrev pub Splits : {A X : Type 0} → Phrase A → Phrase X → Mark → Mark → Type 0
Splits {A} {X} Item More by close = (d : ℕ) (x : X) (ls r : List Terminal) → More d x ls r → Some_ (Seq Item (Tail More by close)) d ls

-- and a part and what stands behind it are such a list
abbrev pub Joins : {A X : Type 0} → Phrase A → Phrase X → Mark → Mark → Type 0
Joins {A} {X} Item More by close = (d : ℕ) (y : A × Option X) (ls r : List Terminal) → Seq Item (Tail More by close) d y ls r → (x : X) × More d x ls r

-- the mark behind the last part
closing : {X : Type 0} (More : Phrase X) (by close : Mark) (C : List Terminal → Type 0) → ((p : Position) (r : List Terminal) → C (kind_of close at p ∷ r)) → Position → Sample (Tail More by close) C
closing More by close C c p = record { tokens = kind_of close at p ∷ []; behind = []; part = None; stands = λ i. (p, refl); fits = c p [] }

pub hands_item : {A X : Type 0} (Item : Phrase A) (More : Phrase X) (by close : Mark) (C : List Terminal → Type 0) (d : ℕ) (ks : List Terminal) → Joins Item More by close → Fits Item C → ((p : Position) (r : List Terminal) → C (kind_of close at p ∷ r)) → HandsOn Item d ks More d ks
hands_item Item More by close C d ks join fit c q x = hands_as (Seq Item (Tail More by close)) More d ks (λ i y ls r s f. join i y ls r f) q (hands_first Item (Tail More by close) C d ks fit (closing More by close C c) q x)

pub list_item : {D : Decision} {W V : Shown} {A X : Type 0} (Item : Phrase A) (More : Phrase X) (by close : Mark) (d : ℕ) (end : Place) (ks : List Terminal) (e : ParseError) → Splits Item More by close → Shows W d ks V d ks → RefusesBy D W Item d end ks e → RefusesBy D V More d end ks e
list_item {V = V} Item More by close d end ks e into k h = refuses_map_by {W = V} (Seq Item (Tail More by close)) More d end ks e (λ d' b ls r s x. into d' b ls r x) (λ q x. x) (refuses_first_by Item (Tail More by close) d end ks e k h)

pub tail_close : {X : Type 0} (More : Phrase X) (by close : Mark) (m : List Terminal) → NoMark by m → (d : ℕ) (x : Option X) (ls r : List Terminal) → SameHead m ls → Tail More by close d x ls r → Some_ (Marked close) d ls
tail_close More by close m none d None ls r s (q, e) = (q, r, e)
tail_close More by close m none d (Some x) ls r s (p, m1, e, f) = absurd (no_mark_same by m ls s none p m1 e)

pub hands_close : {A X : Type 0} (Item : Phrase A) (More : Phrase X) (by close : Mark) (d : ℕ) (a : A) (ks m : List Terminal) → Joins Item More by close → Known Item → Item d a ks m → HandsOn (Marked close) d m More d ks
hands_close Item More by close d a ks m join known p q x = hands_as (Seq Item (Tail More by close)) More d ks (λ i y ls r s f. join i y ls r f) q (alive_after Item (Tail More by close) d a ks m q known p (hands_as (Marked close) (Tail More by close) d m (λ i u ls r s f. (None, (u, f))) q x))

pub list_close : {D : Decision} {W V : Shown} {A X : Type 0} (Item : Phrase A) (More : Phrase X) (by close : Mark) (d : ℕ) (end : Place) (a : A) (ks m : List Terminal) (e : ParseError) → Splits Item More by close → Known Item → Item d a ks m → NoMark by m → Shows W d m V d ks → RefusesBy D W (Marked close) d end m e → RefusesBy D V More d end ks e
list_close {W = W} {V = V} Item More by close d end a ks m e into known p none k h = refuses_map_by {W = V} (Seq Item (Tail More by close)) More d end ks e (λ d' b ls r s x. into d' b ls r x) (λ q x. x) (refuses_after_by {W = W} Item (Tail More by close) d end a ks m e known p k (refuses_map_by {W = W} (Marked close) (Tail More by close) d end m e (tail_close More by close m none) (λ q x. x) h))

pub kind_same : {k k' : TokenKind} {p p' : Position} {r r' : List Terminal} → k at p ∷ r ≡ k' at p' ∷ r' → k ≡ k'
kind_same h = ap head_kind h

pub tail_more : {X : Type 0} (More : Phrase X) (by close : Mark) (p : Position) → (kind_of by ≡ kind_of close → ⊥) → (d : ℕ) (x : Option X) (ls r : List Terminal) → Tail More by close d x (kind_of by at p ∷ ls) r → Some_ More d ls
tail_more More by close p other d None ls r (q, e) = absurd (other (kind_same e))
tail_more More by close p other d (Some x) ls r (q, m, e, f) = (x, r, subst (λ z. More d x z r) (sym (ap behind e)) f)

pub hands_more : {A X : Type 0} (Item : Phrase A) (More : Phrase X) (by close : Mark) (d : ℕ) (a : A) (ks m : List Terminal) (p : Position) → Joins Item More by close → Known Item → Item d a ks (kind_of by at p ∷ m) → HandsOn More d m More d ks
hands_more Item More by close d a ks m p join known f q x = hands_as (Seq Item (Tail More by close)) More d ks (λ i y ls r s g. join i y ls r g) q (alive_after Item (Tail More by close) d a ks (kind_of by at p ∷ m) q known f (hands_behind More (Tail More by close) d (kind_of by at p) m (λ i y ls r g. (Some y, (p, ls, refl, g))) q x))

pub list_more : {D : Decision} {W V : Shown} {A X : Type 0} (Item : Phrase A) (More : Phrase X) (by close : Mark) (d : ℕ) (end : Place) (a : A) (ks m : List Terminal) (p : Position) (e : ParseError) → Splits Item More by close → Known Item → (kind_of by ≡ kind_of close → ⊥) → Item d a ks (kind_of by at p ∷ m) → Shows W d m V d ks → RefusesBy D W More d end m e → RefusesBy D V More d end ks e
list_more {W = W} {V = V} Item More by close d end a ks m p e into known other f k h = refuses_map_by {W = V} (Seq Item (Tail More by close)) More d end ks e (λ d' b ls r s x. into d' b ls r x) (λ q x. x) (refuses_after_by {V = V} Item (Tail More by close) d end a ks (kind_of by at p ∷ m) e known f (λ q x. k q x) (refuses_behind_by {V = λ i ls q. W d m q} More (Tail More by close) d end (kind_of by at p) m e (tail_more More by close p other) (λ q x. x) h))

-- what stands behind a part of a list that has no mark of its own at its end
abbrev pub Open : {X : Type 0} → Phrase X → Mark → ℕ → Option X → List Terminal → List Terminal → Type 0
Open More by d None ks r = NoMark by ks × (ks ≡ r)
Open More by d (Some x) ks r = (p : Position) × (m : List Terminal) × (ks ≡ kind_of by at p ∷ m) × More d x m r

abbrev pub SplitsOpen : {A X Y : Type 0} → Phrase A → Phrase X → Phrase Y → Mark → Type 0
SplitsOpen {A} {X} {Y} Item More Whole by = (d : ℕ) (x : Y) (ls r : List Terminal) → Whole d x ls r → Some_ (Seq Item (Open More by)) d ls

abbrev pub JoinsOpen : {A X Y : Type 0} → Phrase A → Phrase X → Phrase Y → Mark → Type 0
JoinsOpen {A} {X} {Y} Item More Whole by = (d : ℕ) (y : A × Option X) (ls r : List Terminal) → Seq Item (Open More by) d y ls r → (x : Y) × Whole d x ls r

nothing : {X : Type 0} (More : Phrase X) (by : Mark) (C : List Terminal → Type 0) → C [] → Position → Sample (Open More by) C
nothing More by C c p = record { tokens = []; behind = []; part = None; stands = λ i. (λ p r h. absurd cc, refl); fits = c }

pub hands_open : {A X : Type 0} (Item : Phrase A) (More : Phrase X) (by : Mark) (C : List Terminal → Type 0) (d : ℕ) (ks : List Terminal) → Fits Item C → C [] → HandsOn Item d ks (Seq Item (Open More by)) d ks
hands_open Item More by C d ks fit c = hands_first Item (Open More by) C d ks fit (nothing More by C c)

pub hands_alone : {A X Y : Type 0} (Item : Phrase A) (More : Phrase X) (Whole : Phrase Y) (by : Mark) (C : List Terminal → Type 0) (d : ℕ) (ks : List Terminal) → JoinsOpen Item More Whole by → Fits Item C → C [] → HandsOn Item d ks Whole d ks
hands_alone Item More Whole by C d ks join fit c q x = hands_as (Seq Item (Open More by)) Whole d ks (λ i y ls r s f. join i y ls r f) q (hands_open Item More by C d ks fit c q x)

pub open_item : {D : Decision} {W V : Shown} {A X Y : Type 0} (Item : Phrase A) (More : Phrase X) (Whole : Phrase Y) (by : Mark) (d : ℕ) (end : Place) (ks : List Terminal) (e : ParseError) → SplitsOpen Item More Whole by → Shows W d ks V d ks → RefusesBy D W Item d end ks e → RefusesBy D V Whole d end ks e
open_item {V = V} Item More Whole by d end ks e into k h = refuses_map_by {W = V} (Seq Item (Open More by)) Whole d end ks e (λ d' b ls r s x. into d' b ls r x) (λ q x. x) (refuses_first_by Item (Open More by) d end ks e k h)

pub open_behind : {X : Type 0} (More : Phrase X) (by : Mark) (p : Position) (d : ℕ) (x : Option X) (ls r : List Terminal) → Open More by d x (kind_of by at p ∷ ls) r → Some_ More d ls
open_behind More by p d None ls r (none, e) = absurd (none p ls refl)
open_behind More by p d (Some x) ls r (q, m, e, f) = (x, r, subst (λ z. More d x z r) (sym (ap behind e)) f)

pub hands_behind_mark : {A X Y : Type 0} (Item : Phrase A) (More : Phrase X) (Whole : Phrase Y) (by : Mark) (d : ℕ) (a : A) (ks m after : List Terminal) (p : Position) → JoinsOpen Item More Whole by → Known Item → Item d a ks m → m ≡ kind_of by at p ∷ after → HandsOn More d after Whole d ks
hands_behind_mark Item More Whole by d a ks m after p join known f is q x = hands_as (Seq Item (Open More by)) Whole d ks (λ i y ls r s g. join i y ls r g) q (alive_after Item (Open More by) d a ks m q known f (subst (λ z. Alive (Open More by) d z q) (sym is) (hands_behind More (Open More by) d (kind_of by at p) after (λ i y ls r g. (Some y, (p, ls, refl, g))) q x)))

pub open_more : {D : Decision} {W V : Shown} {A X Y : Type 0} (Item : Phrase A) (More : Phrase X) (Whole : Phrase Y) (by : Mark) (d : ℕ) (end : Place) (a : A) (ks m after : List Terminal) (p : Position) (e : ParseError) → SplitsOpen Item More Whole by → Known Item → Item d a ks m → m ≡ kind_of by at p ∷ after → Shows W d after V d ks → RefusesBy D W More d end after e → RefusesBy D V Whole d end ks e
open_more {D = D} {W = W} {V = V} Item More Whole by d end a ks m after p e into known f is k h = refuses_map_by {W = V} (Seq Item (Open More by)) Whole d end ks e (λ d' b ls r s x. into d' b ls r x) (λ q x. x) (refuses_after_by {V = V} Item (Open More by) d end a ks m e known f (λ q x. k q x) (subst (λ z. RefusesBy D (λ i ls q. W d after q) (Open More by) d end z e) (sym is) (refuses_behind_by More (Open More by) d end (kind_of by at p) after e (open_behind More by p) (λ q x. x) h)))

-- ---- what is read of a list so far

-- the parts that are read, in front of more
abbrev pub before : {X B : Type 0} → (X → B → B) → List X → B → B
before add [] more = more
before add (x ∷ xs) more = add x (before add xs more)

before_push : {X B : Type 0} (add : X → B → B) (xs : List X) (x : X) (more : B) → before add (xs ++ (x ∷ [])) more ≡ before add xs (add x more)
before_push add [] x more = refl
before_push add (y ∷ xs) x more = ap (add y) (before_push add xs x more)

before_all : {X B : Type 0} (add : X → B → B) (none : B) (whole : List X → B) → whole [] ≡ none → ((x : X) (xs : List X) → whole (x ∷ xs) ≡ add x (whole xs)) → (xs : List X) → before add xs none ≡ whole xs
before_all add none whole z s [] = sym z
before_all add none whole z s (x ∷ xs) = ap (add x) (before_all add none whole z s xs) ∙ sym (s x xs)

-- More parts complete what is read, and a refusal of what is left is one of the whole.
pub record ReadingBy {X B : Type 0} (D : Decision) (W : Shown) (add : X → B → B) (More : Phrase B) (d : ℕ) (end : Place) (all : List Terminal) (xs : List X) (rest : List Terminal) : Type 0 where
  pub completes : (more : B) (r : List Terminal) → More d more rest r → More d (before add xs more) all r
  pub dies : (e : ParseError) → RefusesBy D W More d end rest e → RefusesBy D W More d end all e

abbrev pub Reading : {X B : Type 0} → (X → B → B) → Phrase B → ℕ → Place → List Terminal → List X → List Terminal → Type 0
Reading add More d end all xs rest = ReadingBy Decides (Alive More) add More d end all xs rest

pub reading_more : {D : Decision} {W : Shown} {X B : Type 0} (add : X → B → B) (More : Phrase B) (d : ℕ) (end : Place) (all rest : List Terminal) (xs : List X) (x : X) (after : List Terminal) → ReadingBy D W add More d end all xs rest → ((more : B) (r : List Terminal) → More d more after r → More d (add x more) rest r) → ((e : ParseError) → RefusesBy D W More d end after e → RefusesBy D W More d end rest e) → ReadingBy D W add More d end all (xs ++ (x ∷ [])) after
reading_more add More d end all rest xs x after so_far h k = record {
  completes = λ more r w. subst (λ z. More d z all r) (sym (before_push add xs x more)) (so_far.completes (add x more) r (h more r w));
  dies = λ e w. so_far.dies e (k e w);
}

pub reading_ends : {D : Decision} {W : Shown} {X B : Type 0} (add : X → B → B) (none : B) (whole : List X → B) (More : Phrase B) (d : ℕ) (end : Place) (all rest r : List Terminal) (xs : List X) → whole [] ≡ none → ((x : X) (xs : List X) → whole (x ∷ xs) ≡ add x (whole xs)) → ReadingBy D W add More d end all xs rest → More d none rest r → More d (whole xs) all r
reading_ends add none whole More d end all rest r xs z s so_far h = subst (λ y. More d y all r) (before_all add none whole z s xs) (so_far.completes none r h)

pub reading_last : {D : Decision} {W : Shown} {X B : Type 0} (add : X → B → B) (none : B) (whole : List X → B) (More : Phrase B) (d : ℕ) (end : Place) (all rest r : List Terminal) (xs : List X) (x : X) → whole [] ≡ none → ((x : X) (xs : List X) → whole (x ∷ xs) ≡ add x (whole xs)) → ReadingBy D W add More d end all xs rest → More d (add x none) rest r → More d (whole (xs ++ (x ∷ []))) all r
reading_last add none whole More d end all rest r xs x z s so_far h = subst (λ y. More d y all r) (sym (before_push add xs x none) ∙ before_all add none whole z s (xs ++ (x ∷ []))) (so_far.completes (add x none) r h)

-- A list of parts with a mark between two of them and another behind the last: how parts are put together, and what the list of
-- nodes says.
pub record Listed {A X B : Type 0} (Item : Phrase A) (More : Phrase B) (by close : Mark) (of : X → A) (add : X → B → B) (whole : List X → B) : Type 0 where
  pub none : B
  pub known : Known Item
  pub split : Splits Item More by close
  pub join : Joins Item More by close
  pub begins : (d : ℕ) (ks : List Terminal) → HandsOn Item d ks More d ks
  pub apart : kind_of by ≡ kind_of close → ⊥
  pub one : (d : ℕ) (x : X) (ks r : List Terminal) (p : Position) → Item d (of x) ks (kind_of close at p ∷ r) → More d (add x none) ks r
  pub next : (d : ℕ) (x : X) (more : B) (ks m r : List Terminal) (p : Position) → Item d (of x) ks (kind_of by at p ∷ m) → More d more m r → More d (add x more) ks r
  pub empty : whole [] ≡ none
  pub added : (x : X) (xs : List X) → whole (x ∷ xs) ≡ add x (whole xs)

pub listed_item_by : {D : Decision} {W V : Shown} {A X B : Type 0} {Item : Phrase A} {More : Phrase B} {by close : Mark} {of : X → A} {add : X → B → B} {whole : List X → B} (l : Listed Item More by close of add whole) (d : ℕ) (end : Place) (all rest : List Terminal) (xs : List X) (e : ParseError) → Shows W d rest V d rest → ReadingBy D V add More d end all xs rest → RefusesBy D W Item d end rest e → RefusesBy D V More d end all e
listed_item_by {Item = Item} {More = More} {by = by} {close = close} l d end all rest xs e k so_far h = so_far.dies e (list_item Item More by close d end rest e l.split k h)

pub listed_item : {D : Decision} {A X B : Type 0} {Item : Phrase A} {More : Phrase B} {by close : Mark} {of : X → A} {add : X → B → B} {whole : List X → B} (l : Listed Item More by close of add whole) (d : ℕ) (end : Place) (all rest : List Terminal) (xs : List X) (e : ParseError) → ReadingBy D (Alive More) add More d end all xs rest → RefusesBy D (Alive Item) Item d end rest e → RefusesBy D (Alive More) More d end all e
listed_item l d end all rest xs e so_far h = listed_item_by l d end all rest xs e (l.begins d rest) so_far h

pub listed_close_by : {D : Decision} {W V : Shown} {A X B : Type 0} {Item : Phrase A} {More : Phrase B} {by close : Mark} {of : X → A} {add : X → B → B} {whole : List X → B} (l : Listed Item More by close of add whole) (d : ℕ) (end : Place) (all rest m : List Terminal) (xs : List X) (a : A) (e : ParseError) → Shows W d m V d rest → ReadingBy D V add More d end all xs rest → Item d a rest m → NoMark by m → RefusesBy D W (Marked close) d end m e → RefusesBy D V More d end all e
listed_close_by {Item = Item} {More = More} {by = by} {close = close} l d end all rest m xs a e k so_far f none h = so_far.dies e (list_close Item More by close d end a rest m e l.split l.known f none k h)

pub listed_close : {D : Decision} {A X B : Type 0} {Item : Phrase A} {More : Phrase B} {by close : Mark} {of : X → A} {add : X → B → B} {whole : List X → B} (l : Listed Item More by close of add whole) (d : ℕ) (end : Place) (all rest m : List Terminal) (xs : List X) (a : A) (e : ParseError) → ReadingBy D (Alive More) add More d end all xs rest → Item d a rest m → NoMark by m → RefusesBy D (Alive (Marked close)) (Marked close) d end m e → RefusesBy D (Alive More) More d end all e
listed_close {Item = Item} {More = More} {by = by} {close = close} l d end all rest m xs a e so_far f none h = listed_close_by l d end all rest m xs a e (hands_close Item More by close d a rest m l.join l.known f) so_far f none h

pub listed_more_by : {D : Decision} {V : Shown} {A X B : Type 0} {Item : Phrase A} {More : Phrase B} {by close : Mark} {of : X → A} {add : X → B → B} {whole : List X → B} (l : Listed Item More by close of add whole) (d : ℕ) (end : Place) (all rest m : List Terminal) (xs : List X) (x : X) (p : Position) (after : List Terminal) → (Item d (of x) rest (kind_of by at p ∷ after) → Shows V d after V d rest) → ReadingBy D V add More d end all xs rest → Item d (of x) rest m → m ≡ kind_of by at p ∷ after → ReadingBy D V add More d end all (xs ++ (x ∷ [])) after
listed_more_by {Item = Item} {More = More} {by = by} {close = close} {of = of} {add = add} l d end all rest m xs x p after k so_far f is =
    let g : Item d (of x) rest (kind_of by at p ∷ after) = subst (λ z. Item d (of x) rest z) is f in
    reading_more add More d end all rest xs x after so_far (λ more r w. l.next d x more rest after r p g w) (λ e w. list_more Item More by close d end (of x) rest after p e l.split l.known l.apart g (k g) w)

pub listed_more : {D : Decision} {A X B : Type 0} {Item : Phrase A} {More : Phrase B} {by close : Mark} {of : X → A} {add : X → B → B} {whole : List X → B} (l : Listed Item More by close of add whole) (d : ℕ) (end : Place) (all rest m : List Terminal) (xs : List X) (x : X) (p : Position) (after : List Terminal) → ReadingBy D (Alive More) add More d end all xs rest → Item d (of x) rest m → m ≡ kind_of by at p ∷ after → ReadingBy D (Alive More) add More d end all (xs ++ (x ∷ [])) after
listed_more {Item = Item} {More = More} {by = by} {close = close} {of = of} l d end all rest m xs x p after so_far f is = listed_more_by l d end all rest m xs x p after (λ g. hands_more Item More by close d (of x) rest after p l.join l.known g) so_far f is

pub listed_ends : {D : Decision} {W : Shown} {A X B : Type 0} {Item : Phrase A} {More : Phrase B} {by close : Mark} {of : X → A} {add : X → B → B} {whole : List X → B} (l : Listed Item More by close of add whole) (d : ℕ) (end : Place) (all rest m : List Terminal) (xs : List X) (x : X) (p : Position) (after : List Terminal) → ReadingBy D W add More d end all xs rest → Item d (of x) rest m → m ≡ kind_of close at p ∷ after → More d (whole (xs ++ (x ∷ []))) all after
listed_ends {Item = Item} {More = More} {of = of} {add = add} {whole = whole} l d end all rest m xs x p after so_far f is = reading_last add l.none whole More d end all rest after xs x l.empty l.added so_far (l.one d x rest after p (subst (λ z. Item d (of x) rest z) is f))
