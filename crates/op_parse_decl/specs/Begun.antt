-- What is shown of parts that are put together, where one in them is nested too deep: those before it stand, and what is shown of it.
use Rattle.std.specs.Prelude.{◌≡◌, ℕ, ◌<◌, suc, Bool, List, ◌∷◌, ◌++◌}
use Rattle.op_parse_code.specs.Opening.{kind_of}
use Rattle.op_parse_code.specs.Refusal.{Phrase, Shown}
use Rattle.op_parse_code.specs.Whole.{NoMark}
use Rattle.op_parse_code.specs.declared.mark.Mark.{Mark}
use Rattle.op_parse_decl.specs.Combined.{HasMark}
use Rattle.op_scan.specs.declared.token.TokenKind.{TokenKind}
use Rattle.op_tree.proofs.ExpressionUnique.{Begins}
use Rattle.op_tree.specs.Ends.{IsNot}
use Rattle.op_tree.specs.Terminal.{Terminal, ◌at◌}
use Rattle.op_tree.specs.declared.position.Position.{Position}

pub data ThenBegun {A : Type 0} (W : Shown) (P : Phrase A) (V : Shown) : ℕ → List Terminal → List Terminal → Type 0 where
  in_first : {d : ℕ} {ks q : List Terminal} → W d ks q → ThenBegun W P V d ks q
  in_second : {d : ℕ} {a : A} {ks m q : List Terminal} → P d a ks m → V d m q → ThenBegun W P V d ks q

pub data BehindBegun (m : Mark) (W : Shown) : ℕ → List Terminal → List Terminal → Type 0 where
  behind_it : {d : ℕ} {p : Position} {ks q : List Terminal} → W d ks q → BehindBegun m W d (kind_of m at p ∷ ks) q

pub data RepeatsBegun {A : Type 0} (test : TokenKind → Bool) (P : Phrase A) (W : Shown) : ℕ → List Terminal → List Terminal → Type 0 where
  in_next : {d : ℕ} {ks q : List Terminal} → Begins test ks → W d ks q → RepeatsBegun test P W d ks q
  in_further : {d : ℕ} {a : A} {ks m q : List Terminal} → Begins test ks → P d a ks m → RepeatsBegun test P W d m q → RepeatsBegun test P W d ks q

pub data SeparatedBegun {A : Type 0} (m : Mark) (P : Phrase A) (W : Shown) : ℕ → List Terminal → List Terminal → Type 0 where
  in_part : {d : ℕ} {ks q : List Terminal} → W d ks q → SeparatedBegun m P W d ks q
  in_others : {d : ℕ} {a : A} {p : Position} {ks z q : List Terminal} → P d a ks (kind_of m at p ∷ z) → SeparatedBegun m P W d z q → SeparatedBegun m P W d ks q

pub data ChoiceBegun (test : TokenKind → Bool) (W V : Shown) : ℕ → List Terminal → List Terminal → Type 0 where
  in_chosen : {d : ℕ} {ks q : List Terminal} → Begins test ks → W d ks q → ChoiceBegun test W V d ks q
  in_other : {d : ℕ} {ks q : List Terminal} → IsNot test ks → V d ks q → ChoiceBegun test W V d ks q

pub data ForkBegun (m : Mark) (W V : Shown) : ℕ → List Terminal → List Terminal → Type 0 where
  in_marked : {d : ℕ} {p : Position} {ks q : List Terminal} → W d ks q → ForkBegun m W V d (kind_of m at p ∷ ks) q
  in_unmarked : {d : ℕ} {ks q : List Terminal} → NoMark m ks → V d ks q → ForkBegun m W V d ks q

pub data AheadBegun (m : Mark) (W V : Shown) : ℕ → List Terminal → List Terminal → Type 0 where
  in_ahead : {d : ℕ} {ks q : List Terminal} → HasMark m ks → W d ks q → AheadBegun m W V d ks q
  in_not_ahead : {d : ℕ} {ks q : List Terminal} → NoMark m ks → V d ks q → AheadBegun m W V d ks q

-- the part is begun one deeper, or its first token is the one that is too deep
pub data DeeperBegun (W : Shown) : ℕ → List Terminal → List Terminal → Type 0 where
  in_deeper : {d : ℕ} {ks q : List Terminal} → W d ks q → DeeperBegun W (suc d) ks q
  no_room : {ks : List Terminal} → DeeperBegun W 0 ks ks

-- Some part of a greater depth begins with the tokens of ks up to and including the first of q, whatever such tokens stand behind it.
pub record Opens {A : Type 0} (C : List Terminal → Type 0) (P : Phrase A) (d : ℕ) (ks q : List Terminal) : Type 0 where
  -- the tokens before q, and the first of q
  pub seen : List Terminal
  pub first : Terminal
  pub rest : List Terminal
  pub from : ks ≡ seen ++ q
  pub to : q ≡ first ∷ rest
  -- the depth of the part, and what it goes on with
  pub depth : ℕ
  pub deep : d < depth
  pub others : List Terminal
  pub stands : (x : List Terminal) → C x → (a : A) × P depth a (seen ++ (first ∷ (others ++ x))) x

-- any tokens
abbrev pub Anything : List Terminal → Type 0
Anything x = Unit {0}
