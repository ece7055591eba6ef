-- The words of the command line: a command word, and behind it in any order the operand and the options that the command takes, each of which is
-- its word and a number.
use Rattle.std.specs.Prelude.{◌≡◌, ℕ, ◌≤◌, Bool, true, false, ◌&&◌, not, List, [], ◌∷◌, codes, length, nat_eq, nat_lt, IsTrue}
use Rattle.std.specs.List.{ends_with, flat_map, starts_with}
use Rattle.std.specs.Str.Parse.{IsNumeral, digits_value}
use Rattle.op_link.specs.declared.memory_map.Settings.{Settings}
use Rattle.op_command.specs.declared.command.Verb.{Verb}
use Rattle.op_command.specs.declared.command.Verb.TheVariants as verb

-- ---- commands

-- the word of each
abbrev pub word_of : Verb → List ℕ
word_of verb.Exec = codes "exec"
word_of verb.Build = codes "build"
word_of verb.Check = codes "check"
word_of verb.List = codes "list"
word_of verb.Run = codes "run"

-- a file's name is not empty and does not begin with `-`
abbrev pub is_name : List ℕ → Bool
is_name name = nat_lt 0 (length name) && not (starts_with nat_eq name (codes "-"))

-- a source file's name ends in `.pas`, too
abbrev pub is_source_name : List ℕ → Bool
is_source_name name = is_name name && ends_with nat_eq name (codes ".pas")

-- the operand of each: an image for `run`, a source file for the others
abbrev pub is_operand : Verb → List ℕ → Bool
is_operand verb.Run name = is_name name
is_operand other name = is_source_name name

-- it runs an image, and may be told how many steps that may do
abbrev pub runs_image : Verb → Bool
runs_image verb.Exec = true
runs_image verb.Build = false
runs_image verb.Check = false
runs_image verb.List = false
runs_image verb.Run = true

-- it makes an image, and may be told the size of its heap and of its stack
abbrev pub makes_image : Verb → Bool
makes_image verb.Exec = true
makes_image verb.Build = true
makes_image verb.Check = false
makes_image verb.List = true
makes_image verb.Run = false

-- ---- numbers

-- the numbers that an option takes, and the one that stands for it where it is not given
pub record Range : Type 0 where
  pub least : ℕ
  pub most : ℕ
  pub default : ℕ

abbrev pub step_range : Range
step_range = record { least = 1; most = 1000000000000; default = 4000000000 }

-- in KiB
abbrev pub heap_range : Range
heap_range = record { least = 64; most = 262144; default = 8192 }

abbrev pub stack_range : Range
stack_range = record { least = 16; most = 65536; default = 1024 }

-- 1 to 20 decimal digits, which write a number in the range
pub record IsNumber (range : Range) (digits : List ℕ) (number : ℕ) : Type 0 where
  pub numeral : IsNumeral 10 digits
  pub few : length digits ≤ 20
  pub value : digits_value 10 digits ≡ number
  pub from : range.least ≤ number
  pub up_to : number ≤ range.most

-- ---- lines

-- an operand, or an option with the digits behind it
pub data Piece : Type 0 where
  the_operand : List ℕ → Piece
  the_steps : List ℕ → Piece
  the_heap : List ℕ → Piece
  the_stack : List ℕ → Piece

abbrev pub words_of : Piece → List (List ℕ)
words_of (the_operand name) = name ∷ []
words_of (the_steps digits) = codes "--steps" ∷ digits ∷ []
words_of (the_heap digits) = codes "--heap" ∷ digits ∷ []
words_of (the_stack digits) = codes "--stack" ∷ digits ∷ []

-- what a piece has of each kind
abbrev pub operands_of : Piece → List (List ℕ)
operands_of (the_operand name) = name ∷ []
operands_of _ = []

abbrev pub steps_of : Piece → List (List ℕ)
steps_of (the_steps digits) = digits ∷ []
steps_of _ = []

abbrev pub heap_of : Piece → List (List ℕ)
heap_of (the_heap digits) = digits ∷ []
heap_of _ = []

abbrev pub stack_of : Piece → List (List ℕ)
stack_of (the_stack digits) = digits ∷ []
stack_of _ = []

-- the number of an option: the one behind it where it stands once and is taken, else the one that stands for it
abbrev pub IsGiven : Bool → Range → List (List ℕ) → ℕ → Type 0
IsGiven taken range [] number = number ≡ range.default
IsGiven taken range (digits ∷ []) number = IsTrue taken × IsNumber range digits number
IsGiven taken range (digits ∷ again ∷ more) number = ⊥

-- what a line asks for: a command, its operand, what the program gets to run, and how many steps it may do
pub record Asked : Type 0 where
  pub verb : Verb
  pub operand : List ℕ
  pub settings : Settings
  pub steps : ℕ

-- the words ask for this
pub record IsCommand (words : List (List ℕ)) (asked : Asked) : Type 0 where
  pub pieces : List Piece
  pub are : words ≡ word_of asked.verb ∷ flat_map words_of pieces
  pub one : flat_map operands_of pieces ≡ asked.operand ∷ []
  pub operand : IsTrue (is_operand asked.verb asked.operand)
  pub steps : IsGiven (runs_image asked.verb) step_range (flat_map steps_of pieces) asked.steps
  pub heap : IsGiven (makes_image asked.verb) heap_range (flat_map heap_of pieces) asked.settings.heap
  pub stack : IsGiven (makes_image asked.verb) stack_range (flat_map stack_of pieces) asked.settings.stack

-- the words ask for something
abbrev pub IsSomeCommand : List (List ℕ) → Type 0
IsSomeCommand words = (asked : Asked) × IsCommand words asked

-- the words are no command
abbrev pub IsNoCommand : List (List ℕ) → Type 0
IsNoCommand words = (asked : Asked) → IsCommand words asked → ⊥

-- they are at most one
abbrev pub IsAtMostOneCommand : List (List ℕ) → Type 0
IsAtMostOneCommand words = (one other : Asked) → IsCommand words one → IsCommand words other → one ≡ other
