-- What a text is made of: blanks, comments and words (Free Pascal Reference Guide, chapter "Pascal Tokens").
use Rattle.std.specs.Prelude.{◌≡◌, ◌≢◌, ℕ, ◌≤◌, true, List, [], ◌∷◌, ◌++◌, Some, None, codes, length, map, take, drop, nat_eq, nat_lt, not, unwrap_or, if◌then◌else◌}
use Rattle.std.specs.List.{take_while}
use Rattle.std.specs.Char.{to_ascii_lowercase}
use Rattle.op_base.specs.declared.rule.Rule.{Rule}
use Rattle.op_scan.specs.Byte.{is_name_start, is_name_byte, is_blank}
use Rattle.op_scan.specs.Comment.{opening, closing, Closes}
use Rattle.op_scan.specs.Directive.{rule, effect_of_comment}
use Rattle.op_scan.specs.Keyword.{keyword_of}
use Rattle.op_scan.specs.Literal.{AreDigits, mark_of, value_of, Parts}
use Rattle.op_scan.specs.Symbol.{symbol_of}
use Rattle.op_scan.specs.declared.comment.Marks.{Marks}
use Rattle.op_scan.specs.declared.effect.Effect.{Effect}
use Rattle.op_scan.specs.declared.effect.Effect.TheVariants.{Passes, Gives, Breaks}
use Rattle.op_scan.specs.declared.number.Base.{Base}
use Rattle.op_scan.specs.declared.token.Switches.{Switches}
use Rattle.op_scan.specs.declared.token.TokenKind.{TokenKind}
use Rattle.op_scan.specs.declared.token.TokenKind.TheVariants.{Identifier, Number, CharacterString}

pub data Item : Type 0 where
  a_blank : Item
  a_comment : (inside : List ℕ) → Item
  a_name : (word : List ℕ) → Item
  a_number : (value : ℕ) → Item
  a_string : (text : List ℕ) → Item
  a_symbol : (kind : TokenKind) → Item

-- no longer front is a symbol
abbrev pub NoLongerSymbol : List ℕ → List ℕ → Type 0
NoLongerSymbol piece rest = (more after : List ℕ) → more ≢ [] → rest ≡ more ++ after → symbol_of (piece ++ more) ≡ None

abbrev pub BeginsNoLineComment : List ℕ → Type 0
BeginsNoLineComment bytes = (after : List ℕ) → bytes ≢ codes "//" ++ after

abbrev pub BeginsNoComment : List ℕ → Type 0
BeginsNoComment bytes = (marks : Marks) (after : List ℕ) → bytes ≢ opening marks ++ after

-- The first bytes are the longest item that can stand before the second ones.
pub data Stands : List ℕ → List ℕ → Item → Type 0 where
  blank : {byte : ℕ} {rest : List ℕ} → is_blank byte ≡ true → Stands (byte ∷ []) rest a_blank
  line_comment : {inside rest : List ℕ} → inside ≡ take_while (λ byte. not (nat_eq byte 10)) (inside ++ rest) → Stands (codes "//" ++ inside) rest (a_comment inside)
  comment : (marks : Marks) {inside rest : List ℕ} → Closes marks (inside ++ closing marks ++ rest) rest → Stands (opening marks ++ inside ++ closing marks) rest (a_comment inside)
  name : {first : ℕ} {others rest : List ℕ} → is_name_start first ≡ true → first ∷ others ≡ take_while is_name_byte (first ∷ others ++ rest) → Stands (first ∷ others) rest (a_name (first ∷ others))
  number : (base : Base) {digits rest : List ℕ} → AreDigits base digits rest → Stands (mark_of base ++ digits) rest (a_number (value_of base digits))
  string : {piece rest text : List ℕ} → piece ≢ [] → Parts (piece ++ rest) rest text → Stands piece rest (a_string text)
  symbol : {piece rest : List ℕ} {kind : TokenKind} → symbol_of piece ≡ Some kind → NoLongerSymbol piece rest → BeginsNoLineComment (piece ++ rest) → BeginsNoComment (piece ++ rest) → Stands piece rest (a_symbol kind)

-- what an item does where these switches hold
abbrev pub effect_of : Switches → Item → Effect
effect_of s a_blank = Passes s
effect_of s (a_comment inside) = effect_of_comment s inside
effect_of s (a_name word) = if nat_lt 127 (length word) then Breaks (rule 65) else Gives (unwrap_or (keyword_of (map to_ascii_lowercase word)) (Identifier word))
effect_of s (a_number value) = if nat_lt 2147483648 value then Breaks (rule 4) else Gives (Number value)
effect_of s (a_string text) = if nat_lt 65535 (length text) then Breaks (rule 66) else Gives (CharacterString text)
effect_of s (a_symbol kind) = Gives kind

-- the rule that is broken where no item stands
unfoldable pub rule_without : List ℕ → Rule
rule_without [] = rule 1
rule_without (byte ∷ after) =
    if nat_eq byte 39 then rule 2 else
    (if nat_eq byte 123 then rule 3 else
    (if nat_eq byte 40 then rule 3 else
    (if nat_eq byte 36 then rule 4 else
    (if nat_eq byte 38 then rule 4 else
    (if nat_eq byte 37 then rule 4 else
    (if nat_eq byte 35 then rule 5 else rule 1))))))

-- What stands in front of the bytes: an item of n bytes, or nothing.
pub data IsFront : Switches → List ℕ → ℕ → Effect → Type 0 where
  stands : {s : Switches} {bytes : List ℕ} {n : ℕ} {effect : Effect} (item : Item) → n ≤ length bytes → Stands (take n bytes) (drop n bytes) item → effect ≡ effect_of s item → IsFront s bytes n effect
  nothing : {s : Switches} {bytes : List ℕ} {n : ℕ} {effect : Effect} → n ≡ 0 → ((piece rest : List ℕ) (item : Item) → bytes ≡ piece ++ rest → Stands piece rest item → ⊥) → effect ≡ Breaks (rule_without bytes) → IsFront s bytes n effect
