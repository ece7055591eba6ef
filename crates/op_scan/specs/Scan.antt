-- The tokens of a text, or its first refusal.
use Rattle.std.specs.Prelude.{◌≡◌, ◌≢◌, ℕ, ◌+◌, false, List, [], ◌∷◌, ◌++◌, Result, Ok, Err, length, drop, count_by, nat_eq, if◌then◌else◌}
use Rattle.std.specs.List.{after_last, starts_with}
use Rattle.op_base.specs.declared.place.Place.{Place}
use Rattle.op_base.specs.declared.rule.Refusal.{Refusal}
use Rattle.op_base.specs.declared.rule.Rule.{Rule}
use Rattle.op_scan.specs.Item.{Item, Stands, effect_of, rule_without}
use Rattle.op_base.specs.Rule.{HasText}
use Rattle.op_scan.specs.declared.effect.Effect.TheVariants.{Passes, Gives, Breaks}
use Rattle.op_scan.specs.declared.token.Switches.{Switches}
use Rattle.op_scan.specs.declared.token.Token.{Token}
use Rattle.op_scan.specs.declared.token.TokenKind.{TokenKind}
use Rattle.op_scan.specs.declared.token.Tokens.{Tokens}
use Rattle.op_scan.specs.declared.token.ScanError.{ScanError}
use Rattle.op_scan.specs.declared.token.ScanError.TheVariants.{Refused, NoMemory}

-- the place of the byte that these bytes of a file stand before
unfoldable pub place_of : ℕ → List ℕ → Place
place_of file before = record {
  file = file;
  line = 1 + count_by (λ byte. nat_eq byte 10) before;
  col = 1 + length (after_last (λ byte. nat_eq byte 10) before);
}

-- the token that these bytes spell, behind a mark of so many bytes and those before
abbrev pub token_at : ℕ → ℕ → List ℕ → List ℕ → Switches → TokenKind → Token
token_at file mark before piece s kind = record {
  kind = kind;
  span = record { first = mark + length before; past = mark + length before + length piece };
  place = place_of file before;
  switches = s;
}

-- where a file begins, all switches are off
abbrev pub all_off : Switches
all_off = record { h = false; q = false; r = false }

-- how many bytes of a byte order mark a file begins with
unfoldable pub mark_length : List ℕ → ℕ
mark_length bytes = if starts_with nat_eq bytes (239 ∷ 187 ∷ 191 ∷ []) then 3 else 0

-- what a text gives
pub data Outcome : Type 0 where
  whole : (tokens : List Token) (end : Place) → Outcome
  refused : (refusal : Refusal) → Outcome

-- that, behind one more token
abbrev pub preceded : Token → Outcome → Outcome
preceded token (whole tokens end) = whole (token ∷ tokens) end
preceded token (refused refusal) = refused refusal

-- The bytes that are left of a file give this outcome, where the switches hold. Before them stand a mark of so many bytes
-- and the first list of bytes.
pub data Scans : ℕ → ℕ → List ℕ → Switches → List ℕ → Outcome → Type 0 where
  ends : {file mark : ℕ} {before : List ℕ} {s : Switches} → Scans file mark before s [] (whole [] (place_of file before))
  passes : {file mark : ℕ} {before bytes : List ℕ} {s next : Switches} {outcome : Outcome} (piece rest : List ℕ) (item : Item) → bytes ≡ piece ++ rest → Stands piece rest item → effect_of s item ≡ Passes next → Scans file mark (before ++ piece) next rest outcome → Scans file mark before s bytes outcome
  gives : {file mark : ℕ} {before bytes : List ℕ} {s : Switches} {outcome : Outcome} (kind : TokenKind) (others : Outcome) (piece rest : List ℕ) (item : Item) → bytes ≡ piece ++ rest → Stands piece rest item → effect_of s item ≡ Gives kind → Scans file mark (before ++ piece) s rest others → outcome ≡ preceded (token_at file mark before piece s kind) others → Scans file mark before s bytes outcome
  breaks : {file mark : ℕ} {before bytes : List ℕ} {s : Switches} {outcome : Outcome} (rule : Rule) (piece rest : List ℕ) (item : Item) → bytes ≡ piece ++ rest → Stands piece rest item → effect_of s item ≡ Breaks rule → outcome ≡ refused (record { rule = rule; place = place_of file before }) → Scans file mark before s bytes outcome
  nothing : {file mark : ℕ} {before bytes : List ℕ} {s : Switches} {outcome : Outcome} → bytes ≢ [] → ((piece rest : List ℕ) (item : Item) → bytes ≡ piece ++ rest → Stands piece rest item → ⊥) → outcome ≡ refused (record { rule = rule_without bytes; place = place_of file before }) → Scans file mark before s bytes outcome

abbrev pub IsOutcome : ℕ → List ℕ → Outcome → Type 0
IsOutcome file bytes outcome = Scans file (mark_length bytes) [] all_off (drop (mark_length bytes) bytes) outcome

-- these are the tokens of the file's bytes
abbrev pub StandFor : ℕ → List ℕ → Tokens → Type 0
StandFor file bytes tokens = IsOutcome file bytes (whole tokens.list tokens.end)

-- this rule is the first that they break, and there
abbrev pub IsFirstRefusal : ℕ → List ℕ → Refusal → Type 0
IsFirstRefusal file bytes refusal = IsOutcome file bytes (refused refusal)

-- want of memory may come at any time
abbrev pub Answers : ℕ → List ℕ → Result Tokens ScanError → Type 0
Answers file bytes (Ok tokens) = StandFor file bytes tokens
Answers file bytes (Err (Refused refusal)) = IsFirstRefusal file bytes refusal
Answers file bytes (Err NoMemory) = Unit {0}

-- the rule of a refusal has a text
abbrev pub RefusalHasText : ScanError → Type 0
RefusalHasText (Refused refusal) = HasText refusal.rule
RefusalHasText NoMemory = Unit {0}

-- the answer is this outcome, but for want of memory
abbrev pub IsAnswer : Outcome → Result Tokens ScanError → Type 0
IsAnswer (whole tokens end) (Ok answer) = (answer.list ≡ tokens) × (answer.end ≡ end)
IsAnswer (whole tokens end) (Err (Refused answer)) = ⊥
IsAnswer (whole tokens end) (Err NoMemory) = Unit {0}
IsAnswer (refused refusal) (Ok answer) = ⊥
IsAnswer (refused refusal) (Err (Refused answer)) = answer ≡ refusal
IsAnswer (refused refusal) (Err NoMemory) = Unit {0}
