-- What the first token of a type tells.
use Rattle.std.specs.Prelude.{◌≡◌, ℕ, Bool, true, false, ◌&&◌, ◌||◌, List, ◌∷◌, codes}
use Rattle.op_parse_decl.specs.Form.{BeginsProcedural, Form, GivesValue, HasForm}
use Rattle.op_parse_code.specs.Opening.{is_identifier}
use Rattle.op_parse_decl.specs.declared.opening.DenoterOpening.{DenoterOpening}
use Rattle.op_parse_decl.specs.declared.opening.DenoterOpening.TheVariants as opens
use Rattle.op_scan.specs.declared.token.TokenKind.{TokenKind}
use Rattle.op_scan.specs.declared.token.TokenKind.TheVariants as kind
use Rattle.op_tree.specs.Denoter.{FieldLists}
use Rattle.op_tree.specs.DenoterGrammar.{AreFieldLists}
use Rattle.op_tree.specs.Ends.{IsNot, begins_expression, begins_selector, binds, is_dot_dot}
use Rattle.op_tree.specs.Terminal.{Terminal, ◌at◌, IsWord}
use Rattle.op_tree.specs.declared.operator.Level.TheVariants.{Additive, Relational}
use Rattle.op_tree.specs.declared.position.Position.{Position}

-- the kind begins a type
abbrev pub begins_denoter : TokenKind → Bool
begins_denoter kind.Set = true
begins_denoter kind.Array = true
begins_denoter kind.Record = true
begins_denoter kind.Packed = true
begins_denoter k = begins_expression k

abbrev pub is_open : TokenKind → Bool
is_open kind.OpenParenthesis = true
is_open other = false

abbrev pub is_comma : TokenKind → Bool
is_comma kind.Comma = true
is_comma other = false

-- a type that begins with a token of this kind begins so
abbrev pub OpensDenoter : DenoterOpening → TokenKind → Type 0
OpensDenoter opens.Bound k = begins_expression k ≡ true
OpensDenoter opens.Set k = k ≡ kind.Set
OpensDenoter opens.Array k = k ≡ kind.Array
OpensDenoter opens.Record k = k ≡ kind.Record
OpensDenoter opens.Packed k = k ≡ kind.Packed
OpensDenoter opens.Procedural k = BeginsProcedural k
OpensDenoter (opens.LeftOut feature) k = (begins_denoter k ≡ false) × ((p : Position) (r : List Terminal) → Form feature (k at p ∷ r) (k at p ∷ r) (k at p ∷ r))
OpensDenoter opens.Nothing k = begins_denoter k ≡ false

-- the tokens go on as behind the name of an enumeration's value that has a number
abbrev pub GivesAValue : List Terminal → Type 0
GivesAValue ks = (k : TokenKind) × (p : Position) × (r : List Terminal) × (ks ≡ k at p ∷ r) × GivesValue k

-- the first token has another one behind it that is no name
abbrev pub IsProcedural : List Terminal → Type 0
IsProcedural ks = (t : Terminal) × (k : TokenKind) × (p : Position) × (r : List Terminal) × (ks ≡ t ∷ k at p ∷ r) × ((text : List ℕ) → k ≡ kind.Identifier text → ⊥)

-- the tokens are these, and begin with the word `at`
abbrev pub BeginsAt : List Terminal → List Terminal → Type 0
BeginsAt ks form = (text : List ℕ) × (q : Position) × (r : List Terminal) × IsWord (codes "at") text × (ks ≡ kind.Identifier text at q ∷ r) × (form ≡ kind.Identifier text at q ∷ r)

-- a form stands at the front, which its first token tells, and with the token behind that no sentence goes on
abbrev pub HasBehindFirst : ℕ → List Terminal → Type 0
HasBehindFirst feature ks = (t : Terminal) (r : List Terminal) → ks ≡ t ∷ r → HasForm feature ks ks r

-- where these tokens stand behind fields of a record, it has this feature, and no fields begin so
abbrev pub IsFormOfRecord : ℕ → List Terminal → Type 0
IsFormOfRecord feature q = IsNot is_identifier q × ((d : ℕ) (fs : FieldLists) (p : Position) (ks : List Terminal) → AreFieldLists d fs ks q → Form feature (kind.Record at p ∷ ks) q q)

-- an opening bracket, a name and a comma stand at the front
abbrev pub lists_names : List Terminal → Bool
lists_names (t ∷ u ∷ w ∷ ks) = is_open t.kind && (is_identifier u.kind && is_comma w.kind)
lists_names other = false

-- what follows a type or a bound of a subrange would belong to it
abbrev pub continues_type : TokenKind → Bool
continues_type k = binds Additive k || begins_selector k || is_dot_dot k

-- what follows an expression would belong to it
abbrev pub continues_expression : TokenKind → Bool
continues_expression k = binds Relational k || begins_selector k
