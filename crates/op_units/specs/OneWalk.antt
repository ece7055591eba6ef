-- The walk over units has one outcome.
use Rattle.std.specs.Prelude.{◌≡◌, ℕ, ◌⊎◌, Option, Some, List, map}
use Rattle.op_base.specs.declared.files.NamedFile.{NamedFile}
use Rattle.op_base.specs.declared.rule.Refusal.{Refusal}
use Rattle.op_scan.specs.declared.token.Tokens.{Tokens}
use Rattle.op_tree.specs.File.{File, file_of}
use Rattle.op_units.specs.Reading.{IsShown}
use Rattle.op_units.specs.Walk.{Ends, Walked, Walks, refused, walked}
use Rattle.op_units.specs.declared.forest.Forest.{Forest}

-- what a walk has come to, wherever its trees lie in memory
pub record Seen : Type 0 where
  pub files : List File
  pub names : List (List ℕ)
  pub units : List (List ℕ)
  pub interfaces : List (List (List ℕ))
  pub order : List (List ℕ)
  pub size : ℕ

abbrev pub seen : Walked → Seen
seen w = record { files = map file_of w.trees; names = w.names; units = w.units; interfaces = w.interfaces; order = w.order; size = w.size }

-- Both are refusals of the same tokens of a file, by the grammar or by what shows a construct that is not there. Which of these is told is a choice that
-- the definitions leave.
pub record AreShown (one other : Refusal) : Type 0 where
  pub tokens : Tokens
  pub first : IsShown tokens one
  pub second : IsShown tokens other

abbrev pub SameRefusal : Refusal → Refusal → Type 0
SameRefusal one other = (one ≡ other) ⊎ AreShown one other

-- all is read, and the same is; or a rule is broken in the same file, and it is the same rule and place, but for what the tokens of that file leave open
abbrev pub SameEnd : Ends → Ends → Type 0
SameEnd (walked v) (walked w) = seen v ≡ seen w
SameEnd (walked v) (refused refusal file) = ⊥
SameEnd (refused refusal file) (walked w) = ⊥
SameEnd (refused one file) (refused other name) = (file ≡ name) × SameRefusal one other

abbrev pub OneWalk : Type 0
OneWalk = (files : List NamedFile) (main : List ℕ) (one other : Ends) → Walks (Some files) main one → Walks (Some files) main other → SameEnd one other

-- two forests say the same
pub record SameForest (one other : Forest) : Type 0 where
  pub trees : map file_of one.trees ≡ map file_of other.trees
  pub names : one.names ≡ other.names
  pub order : one.order ≡ other.order
