-- The two forms that the grammar has and the profile leaves out, as the tokens of a text show them that a tree spells: `/`, and a colon behind another
-- one with nothing but the tokens of an expression between them, which is that of a fraction's width.
use Rattle.std.specs.Prelude.{◌≡◌, ℕ, zero, suc, ◌-◌, Bool, true, false, ◌||◌, ◌⊎◌, List, [], ◌∷◌, ◌++◌, Option, Some, None, is_some, nat_eq, if◌then◌else◌}
use Rattle.std.specs.Option.{option_map}
use Rattle.op_base.specs.declared.rule.Refusal.{Refusal}
use Rattle.op_scan.specs.declared.token.TokenKind.{TokenKind}
use Rattle.op_scan.specs.declared.token.TokenKind.TheVariants as kind
use Rattle.op_tree.specs.Operator.{operator_of, prefix_operator_of}
use Rattle.op_tree.specs.Terminal.{Terminal, ◌at◌}
use Rattle.op_tree.specs.declared.position.Position.{Position}
use Rattle.op_units.specs.Unbuilt.{IsBuilt, IsFirstUnbuilt, named}
use Rattle.op_units.specs.declared.form.Share.{Share}
use Rattle.op_units.specs.declared.form.Share.TheVariants.{Opens, Closes, Comma, Colon, Part, Nothing}

-- ---- what a token is to an expression

abbrev pub is_operand : TokenKind → Bool
is_operand (kind.Identifier text) = true
is_operand (kind.Number n) = true
is_operand (kind.CharacterString text) = true
is_operand kind.String = true
is_operand kind.Nil = true
is_operand kind.Inherited = true
is_operand kind.Dot = true
is_operand kind.DotDot = true
is_operand other = false

abbrev pub part_by : Bool → Share
part_by true = Part
part_by false = Nothing

abbrev pub share_of : TokenKind → Share
share_of kind.OpenParenthesis = Opens
share_of kind.OpenBracket = Opens
share_of kind.CloseParenthesis = Closes
share_of kind.CloseBracket = Closes
share_of kind.Comma = Comma
share_of kind.Colon = Colon
share_of other = part_by (is_some (operator_of other) || (is_some (prefix_operator_of other) || is_operand other))

-- ---- forms

-- Such tokens lead to a colon outside of brackets, where so many brackets are open; commas and colons may stand within brackets.
pub data LeadsToColon : ℕ → List Terminal → List Terminal → Type 0 where
  is_there : {k : TokenKind} {p : Position} {r : List Terminal} → share_of k ≡ Colon → LeadsToColon 0 (k at p ∷ r) (k at p ∷ r)
  opens : {n : ℕ} {k : TokenKind} {p : Position} {ks q : List Terminal} → share_of k ≡ Opens → LeadsToColon (suc n) ks q → LeadsToColon n (k at p ∷ ks) q
  closes : {n : ℕ} {k : TokenKind} {p : Position} {ks q : List Terminal} → share_of k ≡ Closes → LeadsToColon n ks q → LeadsToColon (suc n) (k at p ∷ ks) q
  part : {n : ℕ} {k : TokenKind} {p : Position} {ks q : List Terminal} → share_of k ≡ Part → LeadsToColon n ks q → LeadsToColon n (k at p ∷ ks) q
  comma_within : {n : ℕ} {k : TokenKind} {p : Position} {ks q : List Terminal} → share_of k ≡ Comma → LeadsToColon (suc n) ks q → LeadsToColon (suc n) (k at p ∷ ks) q
  colon_within : {n : ℕ} {k : TokenKind} {p : Position} {ks q : List Terminal} → share_of k ≡ Colon → LeadsToColon (suc n) ks q → LeadsToColon (suc n) (k at p ∷ ks) q

-- The feature, by its number; the tokens from the form's first one on; those from the one on that tells the form.
pub data ShownForm : ℕ → List Terminal → List Terminal → Type 0 where
  is_slash : {p : Position} {r : List Terminal} → ShownForm 1 (kind.Slash at p ∷ r) (kind.Slash at p ∷ r)
  is_fraction_width : {p : Position} {ks q : List Terminal} → LeadsToColon 0 ks q → ShownForm 35 (kind.Colon at p ∷ ks) q

-- such a form stands in the tokens, and its telling token in front of these
abbrev pub HasForm : ℕ → List Terminal → List Terminal → Type 0
HasForm feature ks told = (seen form : List Terminal) × (ks ≡ seen ++ form) × ShownForm feature form told

-- neither of them stands in the tokens
abbrev pub HasNoForm : List Terminal → Type 0
HasNoForm ks = (feature : ℕ) (told : List Terminal) → HasForm feature ks told → ⊥

-- this refusal is that of such a form in the tokens
pub record IsOfForm (ks : List Terminal) (refusal : Refusal) : Type 0 where
  pub feature : ℕ
  pub told : List Terminal
  pub is_there : HasForm feature ks told
  pub names : named (feature, told) ≡ Some refusal

-- one of them, if any stands there
abbrev pub FirstForm : List Terminal → Option Refusal → Type 0
FirstForm ks None = HasNoForm ks
FirstForm ks (Some refusal) = IsOfForm ks refusal

-- the first construct that a word shows, else a form
abbrev pub FirstShown : List Terminal → Option Refusal → Type 0
FirstShown ks None = IsBuilt ks × HasNoForm ks
FirstShown ks (Some refusal) = IsFirstUnbuilt ks refusal ⊎ (IsBuilt ks × IsOfForm ks refusal)

-- ---- how they are looked for

-- by what the next token is, and what comes of those behind it where so many brackets are open
abbrev pub colon_by : Share → ℕ → List Terminal → (ℕ → Option (List Terminal)) → Option (List Terminal)
colon_by Opens n ks behind = behind (suc n)
colon_by Closes n ks behind = if nat_eq n 0 then None else behind (n - 1)
colon_by Comma n ks behind = if nat_eq n 0 then None else behind n
colon_by Colon n ks behind = if nat_eq n 0 then Some ks else behind n
colon_by Part n ks behind = behind n
colon_by Nothing n ks behind = None

-- the tokens from the next colon outside of brackets on
abbrev pub colon_behind : ℕ → List Terminal → Option (List Terminal)
colon_behind n [] = None
colon_behind n (t ∷ r) = colon_by (share_of t.kind) n (t ∷ r) (λ m. colon_behind m r)

abbrev pub form_by : TokenKind → List Terminal → List Terminal → Option (ℕ × List Terminal)
form_by kind.Slash ks r = Some (1, ks)
form_by kind.Colon ks r = option_map (λ q. (35, q)) (colon_behind 0 r)
form_by other ks r = None

-- the form that begins at the front of the tokens
abbrev pub form_at : List Terminal → Option (ℕ × List Terminal)
form_at [] = None
form_at (t ∷ r) = form_by t.kind (t ∷ r) r
