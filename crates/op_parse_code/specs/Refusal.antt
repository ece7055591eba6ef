-- What a refusal of a part says.
use Rattle.std.specs.Prelude.{◌≡◌, ℕ, ◌<◌, List, [], ◌∷◌, ◌++◌, Result, Ok, Err, codes}
use Rattle.op_base.specs.declared.place.Place.{Place}
use Rattle.op_parse_code.specs.GrammarForm.{HasGrammarForm}
use Rattle.op_parse_code.specs.declared.error.ParseError.{ParseError}
use Rattle.op_parse_code.specs.declared.error.ParseError.TheVariants.{Refused, NoMemory}
use Rattle.op_base.specs.Rule.{HasText}
use Rattle.op_scan.specs.declared.token.TokenKind.TheVariants as kind
use Rattle.op_tree.specs.Terminal.{Terminal, ◌at◌, IsWord}
use Rattle.op_tree.specs.declared.position.Position.{Position}

-- A sort of parts: the depth that is left, the part, the tokens before it, those behind it.
abbrev pub Phrase : Type 0 → Type 1
Phrase A = ℕ → A → List Terminal → List Terminal → Type 0

-- both begin with the same token, or both are empty
abbrev pub SameHead : List Terminal → List Terminal → Type 0
SameHead [] [] = Unit {0}
SameHead [] (u ∷ us) = ⊥
SameHead (t ∷ ts) [] = ⊥
SameHead (t ∷ ts) (u ∷ us) = t ≡ u

-- Where the tokens of ks before q, and a token like the first of q behind them, begin a part, this holds of the tokens from that one on.
abbrev pub Leads : {A : Type 0} → (A → List Terminal → List Terminal → Type 0) → List Terminal → List Terminal → (List Terminal → Type 0) → Type 0
Leads {A} P ks q G = (seen : List Terminal) × (ks ≡ seen ++ q) × ((ls : List Terminal) (a : A) (r : List Terminal) → SameHead q ls → P a (seen ++ ls) r → G ls)

-- No part begins with the tokens of ks up to and including the first of q. Where q is empty, ks itself begins with none.
abbrev pub Dead : {A : Type 0} → (A → List Terminal → List Terminal → Type 0) → List Terminal → List Terminal → Type 0
Dead {A} P ks q = (seen : List Terminal) × (ks ≡ seen ++ q) × ((ls : List Terminal) (a : A) (r : List Terminal) → SameHead q ls → P a (seen ++ ls) r → ⊥)

-- Some part of a greater depth begins with the tokens of ks up to and including the first of q: such a part stands there where others
-- follow that token.
pub record Alive {A : Type 0} (P : Phrase A) (d : ℕ) (ks q : List Terminal) : Type 0 where
  -- the tokens before q, and the first of q
  pub seen : List Terminal
  pub first : Terminal
  pub rest : List Terminal
  pub from : ks ≡ seen ++ q
  pub to : q ≡ first ∷ rest
  -- the part: its depth, what it goes on with, and what stands behind it
  pub depth : ℕ
  pub deep : d < depth
  pub others : List Terminal
  pub behind : List Terminal
  pub part : A
  pub stands : P depth part (seen ++ (first ∷ (others ++ behind))) behind

-- where the first of these tokens stands, or the file ends
abbrev pub place_at : Place → List Terminal → Place
place_at end [] = end
place_at end (t ∷ ts) = t.position.place

-- this rule is broken at the first of these tokens
abbrev pub refused_at : ℕ → ℕ → Place → List Terminal → ParseError
refused_at number feature end q = Refused (record {
  rule = record { number = number; feature = feature };
  place = place_at end q;
})

-- Where it is decided that a token is nested too deep: the tokens from that one on, and from the one on that decides.
abbrev pub Decision : Type 1
Decision = List Terminal → List Terminal → Type 0

-- At that token, or behind it where it is the word `on`, with which a handler begins, and so may a statement.
pub data Decides : List Terminal → List Terminal → Type 0 where
  decides_there : {q : List Terminal} → Decides q q
  decides_behind : {text : List ℕ} {p : Position} {q m : List Terminal} → IsWord (codes "on") text → Decides q m → Decides (kind.Identifier text at p ∷ q) m

-- What is shown of the tokens up to one where a part is nested too deep: at the depth that is left, among these tokens, up to the
-- first of those.
abbrev pub Shown : Type 1
Shown = ℕ → List Terminal → List Terminal → Type 0

-- Why the tokens have no part at this depth: rule 9 where none begins so, whatever the depth, rule 61 where none of this
-- depth begins so and what is to be shown of the tokens before holds, rule 13 where a form stands in them that the grammar has and the
-- profile leaves out. Want of memory may come at any time.
pub data RefusesBy {A : Type 0} (D : Decision) (W : Shown) (P : Phrase A) (d : ℕ) (end : Place) (ks : List Terminal) : ParseError → Type 0 where
  out_of_memory : {e : ParseError} → e ≡ NoMemory → RefusesBy D W P d end ks e
  syntax : {e : ParseError} (q : List Terminal) → e ≡ refused_at 9 0 end q → ((d' : ℕ) → Dead (P d') ks q) → RefusesBy D W P d end ks e
  nested : {e : ParseError} (q m w : List Terminal) → e ≡ refused_at 61 0 end q → D q m → Dead (P d) ks m → Decides w m → W d ks w → RefusesBy D W P d end ks e
  in_grammar : {e : ParseError} (feature : ℕ) (q : List Terminal) → e ≡ refused_at 13 feature end q → HasGrammarForm feature ks q → RefusesBy D W P d end ks e

-- The same of statements, expressions and their parts: it is shown that one of a greater depth begins so.
abbrev pub Refuses : {A : Type 0} → Phrase A → ℕ → Place → List Terminal → ParseError → Type 0
Refuses {A} P d end ks e = RefusesBy Decides (Alive P) P d end ks e

-- the refusals that a part which stands there leaves open: for a form in its tokens that the grammar has
abbrev pub IsFree : Place → List Terminal → ParseError → Type 0
IsFree end ks (Refused refusal) = (feature : ℕ) × (q : List Terminal) × HasGrammarForm feature ks q × (Refused refusal ≡ refused_at 13 feature end q)
IsFree end ks NoMemory = Unit {0}

-- the rule of a refusal has a text
abbrev pub RefusalHasText : ParseError → Type 0
RefusalHasText (Refused refusal) = HasText refusal.rule
RefusalHasText NoMemory = Unit {0}

-- rule 9 is broken
abbrev pub IsSyntax : ParseError → Type 0
IsSyntax (Refused refusal) = refusal.rule.number ≡ 9
IsSyntax NoMemory = ⊥

-- a refusal, or in place of one by rule 9 that by a form
pub data Told (feature : ℕ) (end : Place) (q : List Terminal) (e : ParseError) : ParseError → Type 0 where
  as_it_was : {told : ParseError} → told ≡ e → Told feature end q e told
  by_form : {told : ParseError} → IsSyntax e → told ≡ refused_at 13 feature end q → Told feature end q e told

-- What is made of what was read: it stands so to it, or there was no room for it. A refusal is passed on.
pub data MadeOf {T U : Type 0} (P : T → U → Type 0) : Result T ParseError → Result U ParseError → Type 0 where
  made : {x : T} {y : U} → P x y → MadeOf P (Ok x) (Ok y)
  no_room : {x : T} {e : ParseError} → e ≡ NoMemory → MadeOf P (Ok x) (Err e)
  passed_on : {e told : ParseError} → told ≡ e → MadeOf P (Err e) (Err told)

-- The same, or what was read is refused itself.
pub data MadeOrRefused {T U : Type 0} (P : T → U → Type 0) (Q : T → ParseError → Type 0) : Result T ParseError → Result U ParseError → Type 0 where
  as_made : {r : Result T ParseError} {s : Result U ParseError} → MadeOf P r s → MadeOrRefused P Q r s
  refused_itself : {x : T} {e : ParseError} → Q x e → MadeOrRefused P Q (Ok x) (Err e)

-- a list has one part more, of which this holds
abbrev pub Grown : {A : Type 0} → List A → List A → (A → Type 0) → Type 0
Grown {A} xs ys P = (x : A) × (ys ≡ xs ++ (x ∷ [])) × P x

-- a list has more parts, of which together this holds
abbrev pub Extended : {A : Type 0} → List A → List A → (List A → Type 0) → Type 0
Extended {A} xs ys P = (zs : List A) × (ys ≡ xs ++ zs) × P zs
