-- What it means that a part can be printed and read again, and how parts are put together.
use Rattle.std.proofs.Common.{◌≡◌, List, [], ◌∷◌, codes, map, refl, sym, ap, ◌∙◌, subst, arith, ap₂}
use Rattle.op_base.specs.declared.place.Place.{Place}
use Rattle.op_print.specs.Page.{Draft, nothing, word, tight, word_at, tight_at, ◌&◌, behind, separated, enclosed}
use Rattle.op_print.specs.Scanned.{IsIdentifierText, IsSpellable, AreSpellable, Sign, AreSigned, signs_before}
use Rattle.op_scan.specs.Byte.{is_name_start, is_name_byte}
use Rattle.op_scan.specs.Keyword.{keyword_of}
use Rattle.op_scan.specs.declared.token.Switches.{Switches}
use Rattle.op_scan.specs.declared.token.Token.{Token}
use Rattle.op_scan.specs.declared.token.TokenKind.{TokenKind}
use Rattle.op_tree.specs.Terminal.{Terminal, ◌at◌, terminals}
use Rattle.op_tree.specs.declared.position.Position.{Position}

-- the position of this place with the switches of a position
abbrev pub here : Place → Position → Position
here place q = record { place = place; switches = q.switches }

-- Where the words of a draft stand: the place, and the switches there where the draft does not say them.
abbrev pub Places : Draft → Type 0
Places (word k) = Position
Places (tight k) = Position
Places (word_at s k) = Place
Places (tight_at s k) = Place
Places (a & b) = Places a × Places b
Places other = Unit {0}

-- their tokens, before others
abbrev pub tokens : (d : Draft) → Places d → List Terminal → List Terminal
tokens (word k) p z = k at p ∷ z
tokens (tight k) p z = k at p ∷ z
tokens (word_at s k) p z = k at (record { place = p; switches = s }) ∷ z
tokens (tight_at s k) p z = k at (record { place = p; switches = s }) ∷ z
tokens (a & b) p z = tokens a p.0 (tokens b p.1 z)
tokens other p z = z

-- what each of these tokens holds, a token may hold
abbrev pub Able : List Terminal → Type 0
Able [] = Unit {0}
Able (t ∷ ks) = IsSpellable t.kind × Able ks

-- the words that are no reserved words
pub record Fixed : Type 0 where
  pub on : IsIdentifierText (codes "on")
  pub out : IsIdentifierText (codes "out")
  pub read : IsIdentifierText (codes "read")
  pub write : IsIdentifierText (codes "write")
  pub forward : IsIdentifierText (codes "forward")

pub fixed : Fixed
unfolding is_name_start is_name_byte keyword_of
fixed = record {
  on = record { first = refl; others = refl; short = omega arith; not_reserved = refl };
  out = record { first = refl; others = refl; short = omega arith; not_reserved = refl };
  read = record { first = refl; others = refl; short = omega arith; not_reserved = refl };
  write = record { first = refl; others = refl; short = omega arith; not_reserved = refl };
  forward = record { first = refl; others = refl; short = omega arith; not_reserved = refl };
}

-- a part that is this one but for places
pub record Again {X : Type 0} (P : X → Type 0) (bare : X → X) (x : X) : Type 0 where
  pub part : X
  pub is : P part
  pub same : bare part ≡ bare x

-- A part with this draft: each of its words can be a token, and wherever these stand they spell the part again.
pub record Printed {X : Type 0} (P : X → List Terminal → List Terminal → Type 0) (bare : X → X) (x : X) (d : Draft) (r : List Terminal) : Type 0 where
  pub words : AreSpellable d
  -- what stands behind the part in the text
  pub able : Able r
  pub again : (p : Places d) (z : List Terminal) → Again (λ y. P y (tokens d p z) z) bare x

pub again : {X : Type 0} {P : X → Type 0} {bare : X → X} {x : X} (part : X) → P part → bare part ≡ bare x → Again P bare x
again part is same = record { part = part; is = is; same = same }

pub printed : {X : Type 0} {P : X → List Terminal → List Terminal → Type 0} {bare : X → X} {x : X} {d : Draft} {r : List Terminal} → AreSpellable d → Able r → ((p : Places d) (z : List Terminal) → Again (λ y. P y (tokens d p z) z) bare x) → Printed P bare x d r
printed w a s = record { words = w; able = a; again = s }

-- a part that is another one
pub passed : {X Y : Type 0} {P : X → List Terminal → List Terminal → Type 0} {f : X → X} {x : X} {Q : Y → List Terminal → List Terminal → Type 0} {g : Y → Y} {d : Draft} {r : List Terminal} (node : X → Y) → ((a : X) (ks z : List Terminal) → P a ks z → Q (node a) ks z) → ((a : X) → f a ≡ f x → g (node a) ≡ g (node x)) → Printed P f x d r → Printed Q g (node x) d r
passed node made same u = printed u.words u.able (λ p z. let a = u.again p z in again (node a.part) (made a.part _ z a.is) (same a.part a.same))

-- a part in front of a list of them
pub first_of_all : {X Y : Type 0} {P : X → List Terminal → List Terminal → Type 0} {f : X → X} {x : X} {Q : Y → List Terminal → List Terminal → Type 0} {g : Y → Y} {y : Y} {c d : Draft} {m r : List Terminal} (node : X → Y → Y) → ((a : X) (b : Y) (ks m z : List Terminal) → P a ks m → Q b m z → Q (node a b) ks z) → ((a : X) (b : Y) → f a ≡ f x → g b ≡ g y → g (node a b) ≡ g (node x y)) → Printed P f x c m → Printed Q g y d r → Printed Q g (node x y) (c & d) r
first_of_all node made same u v = printed (u.words, v.words) v.able (λ p z. let a = u.again p.0 _ in let b = v.again p.1 z in again (node a.part b.part) (made a.part b.part _ _ z a.is b.is) (same a.part b.part a.same b.same))

-- a list of one part
pub alone : {X : Type 0} {P : X → List Terminal → List Terminal → Type 0} {f : X → X} {x : X} {Q : List X → List Terminal → List Terminal → Type 0} {d : Draft} {r : List Terminal} → ((a : X) (ks z : List Terminal) → P a ks z → Q (a ∷ []) ks z) → Printed P f x d r → Printed Q (map f) (x ∷ []) (d & nothing) r
alone made u = printed (u.words, tt) u.able (λ p z. let a = u.again p.0 z in again (a.part ∷ []) (made a.part _ z a.is) (ap (λ y. y ∷ []) a.same))

-- ---- lists with a mark between their parts, of which there is one at least

abbrev pub HasOne : List Draft → Type 0
HasOne [] = ⊥
HasOne (d ∷ ds) = Unit {0}

behind_is : (mark : TokenKind) (ds : List Draft) → HasOne ds → behind mark ds ≡ tight mark & separated mark ds
behind_is mark [] h = absurd h
behind_is mark (d ∷ ds) h = refl

pub enclosed_is : (opening mark closing : TokenKind) (ds : List Draft) → HasOne ds → enclosed opening mark closing ds ≡ tight opening & separated mark ds & tight closing
enclosed_is opening mark closing [] h = absurd h
enclosed_is opening mark closing (d ∷ ds) h = refl

pub record Listed {X : Type 0} (P : X → List Terminal → List Terminal → Type 0) (bare : X → X) (mark : TokenKind) (x : X) (ds : List Draft) (r : List Terminal) : Type 0 where
  pub some : HasOne ds
  pub all : Printed P bare x (separated mark ds) r

pub last : {X Y : Type 0} {P : X → List Terminal → List Terminal → Type 0} {f : X → X} {x : X} {Q : Y → List Terminal → List Terminal → Type 0} {g : Y → Y} {mark : TokenKind} {d : Draft} {r : List Terminal} (node : X → Y) → ((a : X) (ks z : List Terminal) → P a ks z → Q (node a) ks z) → ((a : X) → f a ≡ f x → g (node a) ≡ g (node x)) → Printed P f x d r → Listed Q g mark (node x) (d ∷ []) r
last node made same u = record {
  some = tt;
  all = printed (u.words, tt) u.able (λ p z. let a = u.again p.0 z in again (node a.part) (made a.part _ z a.is) (same a.part a.same));
}

pub more : {X Y : Type 0} {P : X → List Terminal → List Terminal → Type 0} {f : X → X} {x : X} {Q : Y → List Terminal → List Terminal → Type 0} {g : Y → Y} {y : Y} {mark : TokenKind} {q : Position} {d : Draft} {ds : List Draft} {m r : List Terminal} (node : X → Y → Y) → ((a : X) (b : Y) (p : Position) (ks m z : List Terminal) → P a ks (mark at p ∷ m) → Q b m z → Q (node a b) ks z) → ((a : X) (b : Y) → f a ≡ f x → g b ≡ g y → g (node a b) ≡ g (node x y)) → Printed P f x d (mark at q ∷ m) → Listed Q g mark y ds r → Listed Q g mark (node x y) (d ∷ ds) r
more {x = x} {Q = Q} {g = g} {y = y} {mark = mark} {d = d} {ds = ds} {r = r} node made same u v = record {
  some = tt;
  all = subst (λ c. Printed Q g (node x y) (d & c) r) (sym (behind_is mark ds v.some)) (printed (u.words, (u.able.0, v.all.words)) v.all.able (λ p z. let a = u.again p.0 _ in let b = v.all.again p.1.1 z in again (node a.part b.part) (made a.part b.part p.1.0 _ _ z a.is b.is) (same a.part b.part a.same b.same)));
}

-- the same in brackets
pub bracketed : {X : Type 0} {P Q : X → List Terminal → List Terminal → Type 0} {f : X → X} {x : X} {mark closing : TokenKind} {q : Position} {ds : List Draft} {r : List Terminal} (opening : TokenKind) → ((a : X) (p q : Position) (ks z : List Terminal) → P a ks (closing at q ∷ z) → Q a (opening at p ∷ ks) z) → IsSpellable opening → Listed P f mark x ds (closing at q ∷ r) → Printed Q f x (enclosed opening mark closing ds) r
bracketed {Q = Q} {f = f} {x = x} {mark = mark} {closing = closing} {ds = ds} {r = r} opening made o u = subst (λ c. Printed Q f x c r) (sym (enclosed_is opening mark closing ds u.some)) (printed (o, (u.all.words, u.all.able.0)) u.all.able.1 (λ p z. let a = u.all.again p.1.0 _ in again a.part (made a.part p.0 p.1.1 _ z a.is) a.same))

-- ---- tokens that have a draft's signs

pub record Placed (d : Draft) (ts : List Token) (signs : List Sign) : Type 0 where
  pub places : Places d
  pub rest : List Token
  pub are : terminals ts ≡ tokens d places (terminals rest)
  pub signed : AreSigned rest signs

-- a token of this kind with these switches
token_is : (t : Token) (k : TokenKind) (s : Switches) (z : List Terminal) → t.kind ≡ k → t.switches ≡ s → (t.kind at (record { place = t.place; switches = t.switches })) ∷ z ≡ (k at (record { place = t.place; switches = s })) ∷ z
token_is t k s z e h = ap₂ (λ x y. (x at (record { place = t.place; switches = y })) ∷ z) e h

pub placed : (d : Draft) (ts : List Token) (signs : List Sign) → AreSigned ts (signs_before d signs) → Placed d ts signs
placed (word k) [] signs h = absurd h
placed (word k) (t ∷ ts) signs h = record { places = record { place = t.place; switches = t.switches }; rest = ts; are = token_is t k t.switches (terminals ts) h.0 refl; signed = h.2 }
placed (tight k) [] signs h = absurd h
placed (tight k) (t ∷ ts) signs h = record { places = record { place = t.place; switches = t.switches }; rest = ts; are = token_is t k t.switches (terminals ts) h.0 refl; signed = h.2 }
placed (word_at s k) [] signs h = absurd h
placed (word_at s k) (t ∷ ts) signs h = record { places = t.place; rest = ts; are = token_is t k s (terminals ts) h.0 h.1.0; signed = h.2 }
placed (tight_at s k) [] signs h = absurd h
placed (tight_at s k) (t ∷ ts) signs h = record { places = t.place; rest = ts; are = token_is t k s (terminals ts) h.0 h.1.0; signed = h.2 }
placed (a & b) ts signs h =
    let u = placed a ts (signs_before b signs) h in
    let v = placed b u.rest signs u.signed in
    record { places = (u.places, v.places); rest = v.rest; are = u.are ∙ ap (tokens a u.places) v.are; signed = v.signed }
placed other ts signs h = record { places = tt; rest = ts; are = refl; signed = h }
