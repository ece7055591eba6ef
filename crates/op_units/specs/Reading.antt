-- From the text of a file to its tree, or to the first rule of spelling or grammar that it breaks.
use Rattle.std.specs.Prelude.{◌≡◌, ℕ, if◌then◌else◌, ⊤, Option, Some, None, List}
use Rattle.op_base.specs.declared.rule.Refusal.{Refusal}
use Rattle.op_core.specs.Faults.{comes_before}
use Rattle.op_parse_decl.specs.Refusal.{RefusesPart}
use Rattle.op_parse_code.specs.declared.error.ParseError.{ParseError}
use Rattle.op_parse_code.specs.declared.error.ParseError.TheVariants as parsed
use Rattle.op_parse_decl.specs.Declarations.{WholeFile}
use Rattle.op_scan.specs.Scan.{IsFirstRefusal, StandFor}
use Rattle.op_scan.specs.declared.token.Tokens.{Tokens}
use Rattle.op_tree.specs.File.{File, file_of}
use Rattle.op_tree.specs.FileGrammar.{Spells}
use Rattle.op_tree.specs.Terminal.{terminals}
use Rattle.op_tree.specs.declared.file.Tree.{Tree}
use Rattle.op_units.specs.Forms.{HasNoForm, IsOfForm}
use Rattle.op_units.specs.Unbuilt.{FirstUnbuilt, IsBuilt, IsFirstUnbuilt}

-- ---- tokens

-- what the parser answers of tokens that it refuses
abbrev pub RefusedByGrammar : Tokens → ParseError → Type 0
RefusedByGrammar tokens e = RefusesPart WholeFile 200 tokens.end (terminals tokens.list) e

-- the first of a refusal by the grammar and one by a word, if there is one; the one by the grammar where they stand alike
abbrev pub first_of : Refusal → Option Refusal → Refusal
first_of grammar None = grammar
first_of grammar (Some word) = if comes_before word grammar then word else grammar

-- the same of what the parser answers
abbrev pub first_told : ParseError → Option Refusal → ParseError
first_told (parsed.Refused grammar) word = parsed.Refused (first_of grammar word)
first_told parsed.NoMemory word = parsed.NoMemory

-- The first refusal of the tokens, by the grammar or by a word that shows what is not built. Where a tree spells them and no word does, it is that of a
-- form that the grammar has, by the tokens that show it.
pub data IsShown (tokens : Tokens) (refusal : Refusal) : Type 0 where
  by_grammar : (grammar : Refusal) (word : Option Refusal) → RefusedByGrammar tokens (parsed.Refused grammar) → FirstUnbuilt (terminals tokens.list) word → refusal ≡ first_of grammar word → IsShown tokens refusal
  by_word : (file : File) → Spells file (terminals tokens.list) → IsFirstUnbuilt (terminals tokens.list) refusal → IsShown tokens refusal
  by_form : (file : File) → Spells file (terminals tokens.list) → IsBuilt (terminals tokens.list) → IsOfForm (terminals tokens.list) refusal → IsShown tokens refusal

-- ---- the text of a file

-- the tree spells the tokens, all that stands in them is built, and no form does that the profile leaves out
pub record ReadsTokens (tokens : Tokens) (t : Tree) : Type 0 where
  pub spells : Spells (file_of t) (terminals tokens.list)
  pub built : IsBuilt (terminals tokens.list)
  pub plain : HasNoForm (terminals tokens.list)

-- the tokens stand for the bytes of the file of this number
abbrev pub Reads : ℕ → List ℕ → Tree → Type 0
Reads number bytes t = (tokens : Tokens) × StandFor number bytes tokens × ReadsTokens tokens t

-- the first rule that the bytes break: of spelling, else of grammar
pub data Breaks (number : ℕ) (bytes : List ℕ) (refusal : Refusal) : Type 0 where
  by_spelling : IsFirstRefusal number bytes refusal → Breaks number bytes refusal
  by_tokens : (tokens : Tokens) → StandFor number bytes tokens → IsShown tokens refusal → Breaks number bytes refusal

-- the same of an error; want of memory may come at any time
abbrev pub SpelledAs : ℕ → List ℕ → ParseError → Type 0
SpelledAs number bytes (parsed.Refused refusal) = IsFirstRefusal number bytes refusal
SpelledAs number bytes parsed.NoMemory = ⊤

abbrev pub IsShownAs : Tokens → ParseError → Type 0
IsShownAs tokens (parsed.Refused refusal) = IsShown tokens refusal
IsShownAs tokens parsed.NoMemory = ⊤

abbrev pub BreaksAs : ℕ → List ℕ → ParseError → Type 0
BreaksAs number bytes (parsed.Refused refusal) = Breaks number bytes refusal
BreaksAs number bytes parsed.NoMemory = ⊤
