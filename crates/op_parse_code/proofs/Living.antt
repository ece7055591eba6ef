-- Tokens that begin a part of a greater depth begin what it is a part of.
use Rattle.std.proofs.Common.{◌≡◌, ◌<◌, ◌-◌, ℕ, suc, List, [], ◌∷◌, ◌++◌, append_assoc, refl, sym, ap, ◌∙◌, subst, arith}
use Rattle.op_parse_code.proofs.Cuts.{IsCut, cut_none, cut_one, cut_seen, same_behind}
use Rattle.op_parse_code.proofs.Refusing.{Seq, HandsOn, append_same_front}
use Rattle.op_parse_code.specs.Refusal.{Phrase, SameHead, Alive}
use Rattle.op_parse_code.specs.Opening.{kind_of}
use Rattle.op_parse_code.specs.Whole.{Marked}
use Rattle.op_parse_code.specs.declared.mark.Mark.{Mark}
use Rattle.op_tree.specs.Terminal.{Terminal, ◌at◌}
use Rattle.op_tree.specs.declared.position.Position.{Position}

-- the tokens before a token that begins so
same_first : (ks seen q : List Terminal) (t : Terminal) (rest ls : List Terminal) → ks ≡ seen ++ q → q ≡ t ∷ rest → SameHead ks (seen ++ (t ∷ ls))
same_first ks seen q t rest ls e e1 = subst (λ z. SameHead z (seen ++ (t ∷ ls))) (sym (e ∙ ap (λ z. seen ++ z) e1)) (same_behind seen (t ∷ rest) (t ∷ ls) refl)

-- each of these parts is one of those
pub hands_as : {A B : Type 0} (P : Phrase A) (Q : Phrase B) (d : ℕ) (ks : List Terminal) → ((i : ℕ) (a : A) (ls r : List Terminal) → SameHead ks ls → P i a ls r → (b : B) × Q i b ls r) → HandsOn P d ks Q d ks
hands_as P Q d ks h q x =
    let w = h x.depth x.part (x.seen ++ (x.first ∷ (x.others ++ x.behind))) x.behind (same_first ks x.seen q x.first x.rest (x.others ++ x.behind) x.from x.to) x.stands in
    record { seen = x.seen; first = x.first; rest = x.rest; from = x.from; to = x.to; depth = x.depth; deep = x.deep; others = x.others; behind = x.behind; part = w.0; stands = w.1 }

-- behind a token
pub hands_behind : {A B : Type 0} (P : Phrase A) (Q : Phrase B) (d : ℕ) (t : Terminal) (ks : List Terminal) → ((i : ℕ) (a : A) (ls r : List Terminal) → P i a ls r → (b : B) × Q i b (t ∷ ls) r) → HandsOn P d ks Q d (t ∷ ks)
hands_behind P Q d t ks h q x =
    let w = h x.depth x.part (x.seen ++ (x.first ∷ (x.others ++ x.behind))) x.behind x.stands in
    record { seen = t ∷ x.seen; first = x.first; rest = x.rest; from = ap (λ z. t ∷ z) x.from; to = x.to; depth = x.depth; deep = x.deep; others = x.others; behind = x.behind; part = w.0; stands = w.1 }

-- behind a token, one deeper
pub hands_inside : {A B : Type 0} (P : Phrase A) (Q : Phrase B) (d : ℕ) (t : Terminal) (ks : List Terminal) → ((i : ℕ) (a : A) (ls r : List Terminal) → P i a ls r → (b : B) × Q (suc i) b (t ∷ ls) r) → HandsOn P d ks Q (suc d) (t ∷ ks)
hands_inside P Q d t ks h q x =
    let ls : List Terminal = x.seen ++ (x.first ∷ (x.others ++ x.behind)) in
    let w = h x.depth x.part ls x.behind x.stands in
    record { seen = t ∷ x.seen; first = x.first; rest = x.rest; from = ap (λ z. t ∷ z) x.from; to = x.to; depth = suc x.depth; deep = omega (arith, x.deep); others = x.others; behind = x.behind; part = w.0; stands = w.1 }

-- one deeper at the same place
pub hands_deeper : {A B : Type 0} (P : Phrase A) (Q : Phrase B) (d : ℕ) (ks : List Terminal) → ((i : ℕ) (a : A) (ls r : List Terminal) → SameHead ks ls → P i a ls r → (b : B) × Q (suc i) b ls r) → HandsOn P d ks Q (suc d) ks
hands_deeper P Q d ks h q x =
    let ls : List Terminal = x.seen ++ (x.first ∷ (x.others ++ x.behind)) in
    let w = h x.depth x.part ls x.behind (same_first ks x.seen q x.first x.rest (x.others ++ x.behind) x.from x.to) x.stands in
    record { seen = x.seen; first = x.first; rest = x.rest; from = x.from; to = x.to; depth = suc x.depth; deep = omega (arith, x.deep); others = x.others; behind = x.behind; part = w.0; stands = w.1 }

-- behind a token, where the whole is counted: that is one of a greater depth
pub hands_counted : {A B : Type 0} (P : Phrase A) (Q : Phrase B) (d : ℕ) (t : Terminal) (ks : List Terminal) → ((i : ℕ) (a : A) (ls r : List Terminal) → P i a ls r → (b : B) × Q (suc i) b (t ∷ ls) r) → HandsOn P d ks Q d (t ∷ ks)
hands_counted P Q d t ks h q x =
    let w = h x.depth x.part (x.seen ++ (x.first ∷ (x.others ++ x.behind))) x.behind x.stands in
    record { seen = t ∷ x.seen; first = x.first; rest = x.rest; from = ap (λ z. t ∷ z) x.from; to = x.to; depth = suc x.depth; deep = omega (arith, x.deep); others = x.others; behind = x.behind; part = w.0; stands = w.1 }

-- at its first token, one of a greater depth
pub alive_here : {A : Type 0} (P : Phrase A) (d i : ℕ) (t : Terminal) (r others behind : List Terminal) (a : A) → d < i → P i a (t ∷ (others ++ behind)) behind → Alive P d (t ∷ r) (t ∷ r)
alive_here P d i t r others behind a deep h = record { seen = []; first = t; rest = r; from = refl; to = refl; depth = i; deep = deep; others = others; behind = behind; part = a; stands = h }

-- ---- one part, and behind it another

-- With such tokens behind it the part stands, whatever else stands behind it.
abbrev pub Fits : {A : Type 0} → Phrase A → (List Terminal → Type 0) → Type 0
Fits {A} P C = (d : ℕ) (a : A) (ks r : List Terminal) → P d a ks r → (f : List Terminal → List Terminal) × IsCut f × (ks ≡ f r) × ((x : List Terminal) → C x → P d a (f x) x)

-- A part that stands at any depth but none, with such tokens before it.
pub record Sample {B : Type 0} (Q : Phrase B) (C : List Terminal → Type 0) : Type 0 where
  pub tokens : List Terminal
  pub behind : List Terminal
  pub part : B
  pub stands : (i : ℕ) → Q (suc i) part (tokens ++ behind) behind
  pub fits : C (tokens ++ behind)

pub hands_first : {A B : Type 0} (P : Phrase A) (Q : Phrase B) (C : List Terminal → Type 0) (d : ℕ) (ks : List Terminal) → Fits P C → (Position → Sample Q C) → HandsOn P d ks (Seq P Q) d ks
hands_first P Q C d ks fit samples q x =
    let sample = samples x.first.position in
    let deep : suc (x.depth - 1) ≡ x.depth = omega (arith, x.deep) in
    let w = fit x.depth x.part (x.seen ++ (x.first ∷ (x.others ++ x.behind))) x.behind x.stands in
    let s = cut_seen w.1 in
    let used : List Terminal = x.seen ++ (x.first ∷ x.others) in
    let same : used ≡ s.0 = append_same_front used s.0 x.behind (append_assoc x.seen (x.first ∷ x.others) x.behind ∙ w.2 ∙ s.1 x.behind) in
    let ls : List Terminal = sample.tokens ++ sample.behind in
    let goes : s.0 ++ ls ≡ x.seen ++ (x.first ∷ ((x.others ++ sample.tokens) ++ sample.behind)) = ap (λ z. z ++ ls) (sym same) ∙ append_assoc x.seen (x.first ∷ x.others) ls ∙ ap (λ z. x.seen ++ (x.first ∷ z)) (sym (append_assoc x.others sample.tokens sample.behind)) in
    record {
      seen = x.seen;
      first = x.first;
      rest = x.rest;
      from = x.from;
      to = x.to;
      depth = x.depth;
      deep = x.deep;
      others = x.others ++ sample.tokens;
      behind = sample.behind;
      part = (x.part, sample.part);
      stands = (ls, subst (λ z. P x.depth x.part z ls) (s.1 ls ∙ goes) (w.3 ls sample.fits), subst (λ (z : ℕ). Q z sample.part ls sample.behind) deep (sample.stands (x.depth - 1)));
    }

-- any tokens
abbrev pub Any : List Terminal → Type 0
Any x = Unit {0}

-- behind a mark
pub sample_marked : {B : Type 0} (m : Mark) (Q : Phrase B) (C : List Terminal → Type 0) (p : Position) → ((r : List Terminal) → C (kind_of m at p ∷ r)) → Sample Q Any → Sample (Seq (Marked m) Q) C
sample_marked m Q C p c q = record {
  tokens = kind_of m at p ∷ q.tokens;
  behind = q.behind;
  part = (p, q.part);
  stands = λ i. (q.tokens ++ q.behind, refl, q.stands i);
  fits = c (q.tokens ++ q.behind);
}

-- a mark stands, whatever stands behind it
pub fits_mark : (m : Mark) → Fits (Marked m) Any
fits_mark m d q ks r p = (λ x. kind_of m at q ∷ x, cut_one (kind_of m at q) cut_none, p, λ x c. refl)

-- a mark, and the least part behind it
pub hands_mark : {B : Type 0} (m : Mark) (Q : Phrase B) (d : ℕ) (ks : List Terminal) → (Position → Sample Q Any) → HandsOn (Marked m) d ks (Seq (Marked m) Q) d ks
hands_mark m Q d ks least = hands_first (Marked m) Q Any d ks (fits_mark m) least
