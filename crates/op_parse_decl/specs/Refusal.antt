-- What a refusal of a part of a file says.
use Rattle.std.specs.Prelude.{◌≡◌, ℕ, List, ◌∷◌, ◌++◌}
use Rattle.op_base.specs.declared.place.Place.{Place}
use Rattle.op_parse_code.specs.Refusal.{Phrase, Shown, Decision, Decides, RefusesBy, Dead, Leads, Alive, IsSyntax, refused_at, place_at}
use Rattle.op_parse_code.specs.declared.error.ParseError.{ParseError}
use Rattle.op_parse_code.specs.declared.error.ParseError.TheVariants.{Refused, NoMemory}
use Rattle.op_parse_decl.specs.Form.{HasForm, TypeForm}
use Rattle.op_parse_decl.specs.Types.{SomeDenoter}
use Rattle.op_scan.specs.declared.token.TokenKind.TheVariants as kind
use Rattle.op_tree.specs.Denoter.{Denoter}
use Rattle.op_tree.specs.DenoterGrammar.{IsInitial}
use Rattle.op_tree.specs.Initial.{Initial}
use Rattle.op_tree.specs.Terminal.{Terminal, ◌at◌}
use Rattle.op_tree.specs.declared.position.Position.{Position}

-- The comma behind a first value, or the colon behind a field's name, tells that the brackets before it are those of a list or
-- a record, whose items are counted, and no expression's. So there it is decided that a token of the value, or one of these
-- brackets, is nested too deep.
pub data TellsList : List Terminal → List Terminal → Type 0 where
  tells_of_value : {d : ℕ} {i : Initial} {u : Position} {q n m : List Terminal} (front : List Terminal) → Decides q n → IsInitial d i (front ++ n) (kind.Comma at u ∷ m) → TellsList q (kind.Comma at u ∷ m)
  tells_of_name : {text : List ℕ} {v u : Position} {m : List Terminal} → TellsList (kind.Identifier text at v ∷ kind.Colon at u ∷ m) (kind.Colon at u ∷ m)
  tells_of_bracket : {p : Position} {q m : List Terminal} → TellsList q m → TellsList (kind.OpenParenthesis at p ∷ q) m

-- Where it is decided that a token is nested too deep: as in statements and expressions, and in a list of first values.
pub data DecidesInPart : List Terminal → List Terminal → Type 0 where
  decides_in_code : {q m : List Terminal} → Decides q m → DecidesInPart q m
  decides_in_list : {q m : List Terminal} → TellsList q m → DecidesInPart q m

-- Nothing in such a part is nested too deep.
abbrev pub Never : Shown
Never d ks q = ⊥

-- Nothing is shown of the tokens before one that is nested too deep.
abbrev pub Untold : Shown
Untold d ks q = Unit {0}

-- why the tokens have no such names, or may not follow a part
abbrev pub RefusesHere : {A : Type 0} → Phrase A → ℕ → Place → List Terminal → ParseError → Type 0
RefusesHere {A} P d end ks e = RefusesBy Decides Never P d end ks e

-- why the tokens have no first value at this depth, or no part of one
abbrev pub RefusesValue : {A : Type 0} → Phrase A → ℕ → Place → List Terminal → ParseError → Type 0
RefusesValue {A} P d end ks e = RefusesBy DecidesInPart (Alive P) P d end ks e

-- ---- forms that are left out

-- a type stands there
abbrev pub HasType : List Terminal → Type 0
HasType ks = (d : ℕ) × (t : Denoter) × (r : List Terminal) × SomeDenoter d t ks r

-- Why the tokens have no part of a file. A form that is left out is told where it stands in the tokens, and none begins, whatever the depth,
-- with the tokens up to the one with which, by the form, no sentence goes on. What begins as a type may is told where a type is wanted, so that
-- a type stands there whatever stands in place of it, and none begins with these tokens.
pub data RefusesIn {A : Type 0} (D : Decision) (W : Shown) (P : Phrase A) (d : ℕ) (end : Place) (ks : List Terminal) : ParseError → Type 0 where
  by_grammar : {e : ParseError} → RefusesBy D W P d end ks e → RefusesIn D W P d end ks e
  left_out : {e : ParseError} (feature : ℕ) (q m n : List Terminal) → e ≡ refused_at 13 feature end q → HasForm feature ks q m → place_at end n ≡ place_at end m → ((d' : ℕ) → Dead (P d') ks n) → RefusesIn D W P d end ks e
  left_out_type : {e : ParseError} (feature : ℕ) (q form m : List Terminal) → e ≡ refused_at 13 feature end q → TypeForm feature form q → ((d' : ℕ) → Leads (P d') ks form HasType) → ((i : ℕ) → Dead (SomeDenoter i) form m) → RefusesIn D W P d end ks e

-- why the tokens have no part of a file that is put together of others, of which this is shown where one is nested too deep
abbrev pub RefusesParts : {A : Type 0} → Shown → Phrase A → ℕ → Place → List Terminal → ParseError → Type 0
RefusesParts {A} W P d end ks e = RefusesIn DecidesInPart W P d end ks e

-- why the tokens have no part of a file of this sort at this depth
abbrev pub RefusesPart : {A : Type 0} → Phrase A → ℕ → Place → List Terminal → ParseError → Type 0
RefusesPart {A} P d end ks e = RefusesIn DecidesInPart (Alive P) P d end ks e

-- the refusal stands at this place
abbrev pub StandsAt : ParseError → Place → Type 0
StandsAt (Refused refusal) place = refusal.place ≡ place
StandsAt NoMemory place = ⊥

-- a refusal, or in place of one by rule 9, where the first of m stands, that by a form which the first of q tells
pub data TellsForm (feature : ℕ) (end : Place) (q m : List Terminal) (e : ParseError) : ParseError → Type 0 where
  as_it_was : {told : ParseError} → told ≡ e → TellsForm feature end q m e told
  by_form : {told : ParseError} → IsSyntax e → StandsAt e (place_at end m) → told ≡ refused_at 13 feature end q → TellsForm feature end q m e told
