-- Phrases that are put together.
use Rattle.std.specs.Prelude.{ℕ, suc, Bool, List, [], ◌∷◌, Option, Some, None}
use Rattle.op_parse_decl.specs.Form.{HasForm}
use Rattle.op_parse_code.specs.Opening.{kind_of}
use Rattle.op_parse_code.specs.Refusal.{Phrase}
use Rattle.op_parse_code.specs.Whole.{NoMark}
use Rattle.op_parse_code.specs.declared.mark.Mark.{Mark}
use Rattle.op_scan.specs.declared.token.TokenKind.{TokenKind}
use Rattle.op_tree.proofs.ExpressionUnique.{Begins}
use Rattle.op_tree.specs.Ends.{IsNot}
use Rattle.op_tree.specs.Terminal.{Terminal, ◌at◌}
use Rattle.op_tree.specs.declared.position.Position.{Position}

pub data Both (A B : Type 0) : Type 0 where
  both : (first : A) (second : B) → Both A B

-- one part, and behind it another
pub data Then {A B : Type 0} (P : Phrase A) (Q : Phrase B) : ℕ → Both A B → List Terminal → List Terminal → Type 0 where
  then_ : {d : ℕ} {a : A} {b : B} {ks m r : List Terminal} → P d a ks m → Q d b m r → Then P Q d (both a b) ks r

-- a mark, which says nothing
pub data Stands (m : Mark) : ℕ → Unit {0} → List Terminal → List Terminal → Type 0 where
  stands : {d : ℕ} {p : Position} {r : List Terminal} → Stands m d tt (kind_of m at p ∷ r) r

-- a part behind a mark, if the mark stands there
pub data Behind {A : Type 0} (m : Mark) (P : Phrase A) : ℕ → Option A → List Terminal → List Terminal → Type 0 where
  no_mark : {d : ℕ} {ks : List Terminal} → NoMark m ks → Behind m P d None ks ks
  behind_mark : {d : ℕ} {a : A} {p : Position} {ks r : List Terminal} → P d a ks r → Behind m P d (Some a) (kind_of m at p ∷ ks) r

-- parts, as long as the next token passes the test
pub data Repeats {A : Type 0} (test : TokenKind → Bool) (P : Phrase A) : ℕ → List A → List Terminal → List Terminal → Type 0 where
  no_more : {d : ℕ} {ks : List Terminal} → IsNot test ks → Repeats test P d [] ks ks
  one_more : {d : ℕ} {a : A} {as_ : List A} {ks m r : List Terminal} → Begins test ks → P d a ks m → Repeats test P d as_ m r → Repeats test P d (a ∷ as_) ks r

pub data Or (A B : Type 0) : Type 0 where
  this : (this : A) → Or A B
  that : (that : B) → Or A B

-- one part where the first token passes the test, else another
pub data Choice {A B : Type 0} (test : TokenKind → Bool) (P : Phrase A) (Q : Phrase B) : ℕ → Or A B → List Terminal → List Terminal → Type 0 where
  chosen : {d : ℕ} {a : A} {ks r : List Terminal} → Begins test ks → P d a ks r → Choice test P Q d (this a) ks r
  otherwise : {d : ℕ} {b : B} {ks r : List Terminal} → IsNot test ks → Q d b ks r → Choice test P Q d (that b) ks r

-- a part that is counted, one deeper
pub data Deeper {A : Type 0} (P : Phrase A) : ℕ → A → List Terminal → List Terminal → Type 0 where
  deeper : {d : ℕ} {a : A} {ks r : List Terminal} → P d a ks r → Deeper P (suc d) a ks r

-- nothing
pub data Nothing : ℕ → Unit {0} → List Terminal → List Terminal → Type 0 where
  nothing : {d : ℕ} {ks : List Terminal} → Nothing d tt ks ks

-- one part behind a mark, or another where the mark does not stand
pub data Fork {A B : Type 0} (m : Mark) (P : Phrase A) (Q : Phrase B) : ℕ → Or A B → List Terminal → List Terminal → Type 0 where
  marked : {d : ℕ} {a : A} {p : Position} {ks r : List Terminal} → P d a ks r → Fork m P Q d (this a) (kind_of m at p ∷ ks) r
  unmarked : {d : ℕ} {b : B} {ks r : List Terminal} → NoMark m ks → Q d b ks r → Fork m P Q d (that b) ks r

-- at least one
abbrev pub Several : {A : Type 0} → (TokenKind → Bool) → Phrase A → Phrase (List A)
Several test P d as_ ks r = Begins test ks × Repeats test P d as_ ks r

-- a mark stands at the front
pub data HasMark (m : Mark) : List Terminal → Type 0 where
  mark_ahead : {p : Position} {r : List Terminal} → HasMark m (kind_of m at p ∷ r)

-- one part where a mark stands, with which it begins, or another where the mark does not stand
pub data Ahead {A B : Type 0} (m : Mark) (P : Phrase A) (Q : Phrase B) : ℕ → Or A B → List Terminal → List Terminal → Type 0 where
  is_ahead : {d : ℕ} {a : A} {ks r : List Terminal} → HasMark m ks → P d a ks r → Ahead m P Q d (this a) ks r
  not_ahead : {d : ℕ} {b : B} {ks r : List Terminal} → NoMark m ks → Q d b ks r → Ahead m P Q d (that b) ks r

-- parts with a mark between them, at least one
pub data Separated {A : Type 0} (m : Mark) (P : Phrase A) : ℕ → List A → List Terminal → List Terminal → Type 0 where
  last_part : {d : ℕ} {a : A} {ks r : List Terminal} → P d a ks r → NoMark m r → Separated m P d (a ∷ []) ks r
  and_more : {d : ℕ} {a : A} {as_ : List A} {p : Position} {ks z r : List Terminal} → P d a ks (kind_of m at p ∷ z) → Separated m P d as_ z r → Separated m P d (a ∷ as_) ks r

-- where these tokens stand behind such a part, the tokens from the part on have the form of this feature
abbrev pub TellsBehind : {A : Type 0} → Phrase A → ℕ → List Terminal → Type 0
TellsBehind {A} P feature q = (d : ℕ) (a : A) (ks : List Terminal) → P d a ks q → HasForm feature ks q q
