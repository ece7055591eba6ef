-- What scanning a print gives.
use Rattle.std.specs.Prelude.{◌≡◌, ◌≤◌, ℕ, Bool, true, false, List, [], ◌∷◌, None, length, map}
use Rattle.std.specs.Char.{to_ascii_lowercase}
use Rattle.std.specs.List.{list_all}
use Rattle.op_base.specs.declared.place.Place.{Place}
use Rattle.op_print.specs.Page.{Draft, word, tight, word_at, tight_at, ◌&◌}
use Rattle.op_print.specs.Print.{file_draft}
use Rattle.op_print.specs.Unplaced.{unplaced}
use Rattle.op_scan.specs.Byte.{is_name_start, is_name_byte}
use Rattle.op_scan.specs.Keyword.{keyword_of}
use Rattle.op_scan.specs.Scan.{IsOutcome, StandFor, whole}
use Rattle.op_scan.specs.declared.token.Switches.{Switches}
use Rattle.op_scan.specs.declared.token.Token.{Token}
use Rattle.op_scan.specs.declared.token.Tokens.{Tokens}
use Rattle.op_scan.specs.declared.token.TokenKind.{TokenKind}
use Rattle.op_scan.specs.declared.token.TokenKind.TheVariants as kind
use Rattle.op_tree.specs.File.{File, program, unit}
use Rattle.op_tree.specs.FileGrammar.{Spells}
use Rattle.op_tree.specs.Terminal.{terminals}

abbrev pub begins_as_name : List ℕ → Bool
begins_as_name [] = false
begins_as_name (first ∷ others) = is_name_start first

-- an identifier (Free Pascal Reference Guide, "Identifiers")
pub record IsIdentifierText (text : List ℕ) : Type 0 where
  pub first : begins_as_name text ≡ true
  pub others : list_all is_name_byte text ≡ true
  pub short : length text ≤ 127
  pub not_reserved : keyword_of (map to_ascii_lowercase text) ≡ None

-- what a token may hold
abbrev pub IsSpellable : TokenKind → Type 0
IsSpellable (kind.Identifier text) = IsIdentifierText text
IsSpellable (kind.Number n) = n ≤ 2147483648
IsSpellable (kind.CharacterString text) = length text ≤ 65535
IsSpellable other = Unit {0}

-- each of a draft's words can be a token
abbrev pub AreSpellable : Draft → Type 0
AreSpellable (word k) = IsSpellable k
AreSpellable (tight k) = IsSpellable k
AreSpellable (word_at s k) = IsSpellable k
AreSpellable (tight_at s k) = IsSpellable k
AreSpellable (a & b) = AreSpellable a × AreSpellable b
AreSpellable other = Unit {0}

-- a token's kind, and its switches where the draft says them
pub record Sign : Type 0 where
  pub kind : TokenKind
  pub switches : List Switches

abbrev pub sign : TokenKind → List Switches → Sign
sign k s = record { kind = k; switches = s }

-- the signs of a draft's words, in front of others
abbrev pub signs_before : Draft → List Sign → List Sign
signs_before (word k) signs = sign k [] ∷ signs
signs_before (tight k) signs = sign k [] ∷ signs
signs_before (word_at s k) signs = sign k (s ∷ []) ∷ signs
signs_before (tight_at s k) signs = sign k (s ∷ []) ∷ signs
signs_before (a & b) signs = signs_before a (signs_before b signs)
signs_before other signs = signs

-- these switches are said of the first one too
abbrev pub first_said : Switches → List Sign → List Sign
first_said s [] = []
first_said s (g ∷ signs) = sign g.kind (s ∷ g.switches) ∷ signs

-- The signs of a file's words. A program has its first word's position, whichever word that is.
abbrev pub signs_of : File → List Sign
signs_of (program p) = first_said p.position.switches (signs_before (file_draft (program p)) [])
signs_of (unit u) = signs_before (file_draft (unit u)) []

-- these are the switches, as often as they are said
abbrev pub AreSaid : List Switches → Switches → Type 0
AreSaid [] s = Unit {0}
AreSaid (t ∷ said) s = (s ≡ t) × AreSaid said s

-- the tokens have these signs, one for one
abbrev pub AreSigned : List Token → List Sign → Type 0
AreSigned [] [] = Unit {0}
AreSigned [] (g ∷ signs) = ⊥
AreSigned (t ∷ tokens) [] = ⊥
AreSigned (t ∷ tokens) (g ∷ signs) = (t.kind ≡ g.kind) × AreSaid g.switches t.switches × AreSigned tokens signs

-- The text has tokens with these signs, and no others.
pub record ScansTo (file : ℕ) (text : List ℕ) (signs : List Sign) : Type 0 where
  pub tokens : List Token
  pub end : Place
  pub outcome : IsOutcome file text (whole tokens end)
  pub signed : AreSigned tokens signs

-- Where each of its words can be a token, the text of a file has tokens of the words' kinds, with the switches of the tree, and no others.
abbrev pub ScansAsPrinted : File → List ℕ → Type 0
ScansAsPrinted file text = AreSpellable (file_draft file) → (n : ℕ) → ScansTo n text (signs_of file)

-- The text's tokens are spelled by a tree that is this one but for its places: also its switches are the same.
pub record SpelledAgain (n : ℕ) (file : File) (text : List ℕ) : Type 0 where
  pub tokens : List Token
  pub end : Place
  pub outcome : IsOutcome n text (whole tokens end)
  pub tree : File
  pub spells : Spells tree (terminals tokens)
  pub same : unplaced tree ≡ unplaced file

-- That is so of every tree that spells the tokens of some text.
abbrev pub PrintsAgain : File → List ℕ → Type 0
PrintsAgain file text = (m : ℕ) (bytes : List ℕ) (tokens : Tokens) → StandFor m bytes tokens → Spells file (terminals tokens.list) → (n : ℕ) → SpelledAgain n file text
