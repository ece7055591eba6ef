-- Tokens that begin a part of a greater depth, whatever stands behind it, begin what it is a part of.
use Rattle.std.proofs.Common.{◌≡◌, ◌<◌, ◌-◌, ◌+◌, ℕ, zero, suc, List, [], ◌∷◌, ◌++◌, append_assoc, refl, sym, ap, ◌∙◌, subst, arith}
use Rattle.std.proofs.lemmas.List.{append-nil}
use Rattle.op_parse_code.proofs.Cuts.{cut_seen, same_behind}
use Rattle.op_parse_code.proofs.Living.{Fits}
use Rattle.op_parse_code.proofs.Refusing.{Seq, Known, append_same_front}
use Rattle.op_parse_code.specs.Refusal.{Phrase, SameHead, Alive}
use Rattle.op_parse_decl.specs.Begun.{Opens}
use Rattle.op_parse_decl.specs.Combined.{Both, both, Then, then_}
use Rattle.op_tree.specs.Terminal.{Terminal}
use Rattle.op_tree.specs.declared.position.Position.{Position}

-- a part that stands before such tokens
pub opens : {A : Type 0} {P : Phrase A} {C : List Terminal → Type 0} {d : ℕ} {ks q : List Terminal} → Fits P C → Alive P d ks q → Opens C P d ks q
opens {P = P} fit x =
    let w = fit x.depth x.part (x.seen ++ (x.first ∷ (x.others ++ x.behind))) x.behind x.stands in
    let s = cut_seen w.1 in
    let used : List Terminal = x.seen ++ (x.first ∷ x.others) in
    let same : used ≡ s.0 = append_same_front used s.0 x.behind (append_assoc x.seen (x.first ∷ x.others) x.behind ∙ w.2 ∙ s.1 x.behind) in
    record { seen = x.seen; first = x.first; rest = x.rest; from = x.from; to = x.to; depth = x.depth; deep = x.deep; others = x.others; stands = λ z c. (x.part, subst (λ y. P x.depth x.part y z) (s.1 z ∙ ap (λ y. y ++ z) (sym same) ∙ append_assoc x.seen (x.first ∷ x.others) z) (w.3 z c)) }

pub alive_of : {A : Type 0} {P : Phrase A} {C : List Terminal → Type 0} {d : ℕ} {ks q : List Terminal} → C [] → Opens C P d ks q → Alive P d ks q
alive_of c x = let w = x.stands [] c in record { seen = x.seen; first = x.first; rest = x.rest; from = x.from; to = x.to; depth = x.depth; deep = x.deep; others = x.others; behind = []; part = w.0; stands = w.1 }

same_start : (ks seen q : List Terminal) (t : Terminal) (rest ls : List Terminal) → ks ≡ seen ++ q → q ≡ t ∷ rest → SameHead ks (seen ++ (t ∷ ls))
same_start ks seen q t rest ls e e1 = subst (λ z. SameHead z (seen ++ (t ∷ ls))) (sym (e ∙ ap (λ z. seen ++ z) e1)) (same_behind seen (t ∷ rest) (t ∷ ls) refl)

-- with some tokens more it is another one
pub opens_with : {A B : Type 0} {P : Phrase A} {Q : Phrase B} {C D : List Terminal → Type 0} {d : ℕ} {ks q : List Terminal} (tokens : Position → List Terminal) → ((p : Position) (x : List Terminal) → D x → C (tokens p ++ x)) → ((i : ℕ) (a : A) (p : Position) (ls x : List Terminal) → SameHead ks ls → D x → P (suc i) a ls (tokens p ++ x) → (b : B) × Q (suc i) b ls x) → Opens C P d ks q → Opens D Q d ks q
opens_with {P = P} {Q = Q} {ks = ks} {q = q} tokens fit h x =
    let p = x.first.position in
    let deep : suc (x.depth - 1) ≡ x.depth = omega (arith, x.deep) in
    record {
      seen = x.seen;
      first = x.first;
      rest = x.rest;
      from = x.from;
      to = x.to;
      depth = suc (x.depth - 1);
      deep = omega (arith, x.deep);
      others = x.others ++ tokens p;
      stands = λ z c.
          let w = x.stands (tokens p ++ z) (fit p z c) in
          let ls : List Terminal = x.seen ++ (x.first ∷ (x.others ++ (tokens p ++ z))) in
          let v = h (x.depth - 1) w.0 p ls z (same_start ks x.seen q x.first x.rest (x.others ++ (tokens p ++ z)) x.from x.to) c (subst (λ (y : ℕ). P y w.0 ls (tokens p ++ z)) (sym deep) w.1) in
          (v.0, subst (λ y. Q (suc (x.depth - 1)) v.0 y z) (ap (λ y. x.seen ++ (x.first ∷ y)) (sym (append_assoc x.others (tokens p) z))) v.1);
    }

-- the same tokens are another one
pub opens_map : {A B : Type 0} {P : Phrase A} {Q : Phrase B} {C : List Terminal → Type 0} {d : ℕ} {ks q : List Terminal} → ((i : ℕ) (a : A) (ls r : List Terminal) → SameHead ks ls → P i a ls r → (b : B) × Q i b ls r) → Opens C P d ks q → Opens C Q d ks q
opens_map {ks = ks} {q = q} h x = record { seen = x.seen; first = x.first; rest = x.rest; from = x.from; to = x.to; depth = x.depth; deep = x.deep; others = x.others; stands = λ z c. let w = x.stands z c in h x.depth w.0 (x.seen ++ (x.first ∷ (x.others ++ z))) z (same_start ks x.seen q x.first x.rest (x.others ++ z) x.from x.to) w.1 }

-- one deeper
pub opens_deeper : {A B : Type 0} {P : Phrase A} {Q : Phrase B} {C : List Terminal → Type 0} {d : ℕ} {ks q : List Terminal} → ((i : ℕ) (a : A) (ls r : List Terminal) → P i a ls r → (b : B) × Q (suc i) b ls r) → Opens C P d ks q → Opens C Q (suc d) ks q
opens_deeper h x = record { seen = x.seen; first = x.first; rest = x.rest; from = x.from; to = x.to; depth = suc x.depth; deep = omega (arith, x.deep); others = x.others; stands = λ z c. let w = x.stands z c in h x.depth w.0 (x.seen ++ (x.first ∷ (x.others ++ z))) z w.1 }

-- behind a token
pub opens_behind : {A B : Type 0} {P : Phrase A} {Q : Phrase B} {C : List Terminal → Type 0} {d : ℕ} {t : Terminal} {ks q : List Terminal} → ((i : ℕ) (a : A) (ls r : List Terminal) → P i a ls r → (b : B) × Q i b (t ∷ ls) r) → Opens C P d ks q → Opens C Q d (t ∷ ks) q
opens_behind {t = t} h x = record { seen = t ∷ x.seen; first = x.first; rest = x.rest; from = ap (λ z. t ∷ z) x.from; to = x.to; depth = x.depth; deep = x.deep; others = x.others; stands = λ z c. let w = x.stands z c in h x.depth w.0 (x.seen ++ (x.first ∷ (x.others ++ z))) z w.1 }

-- at its first token
pub opens_here : {A : Type 0} {P : Phrase A} {C : List Terminal → Type 0} {d : ℕ} (i : ℕ) (t : Terminal) (others : List Terminal) {r : List Terminal} → d < i → ((x : List Terminal) → C x → (a : A) × P i a (t ∷ (others ++ x)) x) → Opens C P d (t ∷ r) (t ∷ r)
opens_here i t others {r = r} deep h = record { seen = []; first = t; rest = r; from = refl; to = refl; depth = i; deep = deep; others = others; stands = h }

by_depth : {A : Type 0} (P : Phrase A) (n d i : ℕ) (a : A) (ks m : List Terminal) → Known P → i ≡ n + d → P d a ks m → P i a ks m
by_depth P zero d i a ks m known h p = let same : d ≡ i = omega (arith, h) in subst (λ (z : ℕ). P z a ks m) same p
by_depth P (suc n) d i a ks m known h p = let same : suc (n + d) ≡ i = omega (arith, h) in subst (λ (z : ℕ). P z a ks m) same (known.deepens (n + d) a ks m (by_depth P n d (n + d) a ks m known refl p))

-- behind a part that is read
pub opens_after : {A B : Type 0} {P : Phrase A} {Q : Phrase B} {C : List Terminal → Type 0} {d : ℕ} {a : A} {ks m q : List Terminal} → Known P → P d a ks m → Opens C Q d m q → Opens C (Seq P Q) d ks q
opens_after {P = P} {Q = Q} {d = d} {a = a} {ks = ks} {m = m} {q = q} known p x =
    let w = known.front x.depth a ks m (by_depth P (x.depth - d) d x.depth a ks m known (omega (arith, x.deep)) p) in
    let s = cut_seen w.1 in
    record {
      seen = s.0 ++ x.seen;
      first = x.first;
      rest = x.rest;
      from = w.2 ∙ s.1 m ∙ ap (λ z. s.0 ++ z) x.from ∙ sym (append_assoc s.0 x.seen q);
      to = x.to;
      depth = x.depth;
      deep = x.deep;
      others = x.others;
      stands = λ z c.
          let goes : List Terminal = x.first ∷ (x.others ++ z) in
          let v = x.stands z c in
          let whole : P x.depth a (s.0 ++ (x.seen ++ goes)) (x.seen ++ goes) = subst (λ y. P x.depth a y (x.seen ++ goes)) (s.1 (x.seen ++ goes)) (w.3 (x.seen ++ goes) (same_start m x.seen q x.first x.rest (x.others ++ z) x.from x.to)) in
          ((a, v.0), (x.seen ++ goes, subst (λ y. P x.depth a y (x.seen ++ goes)) (sym (append_assoc s.0 x.seen goes)) whole, v.1));
    }

pub opens_second : {A B : Type 0} {P : Phrase A} {Q : Phrase B} {C : List Terminal → Type 0} {d : ℕ} {a : A} {ks m q : List Terminal} → Known P → P d a ks m → Opens C Q d m q → Opens C (Then P Q) d ks q
opens_second {P = P} {Q = Q} known p x = opens_map {P = Seq P Q} {Q = Then P Q} (λ i y ls r s f. (both y.0 y.1, then_ f.1 f.2)) (opens_after known p x)
