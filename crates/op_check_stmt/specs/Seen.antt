-- Labels of which no two have a value in common, each kept as its last value under its first one.
use Rattle.std.specs.Prelude.{◌≡◌, ℤ, ◌<ℤ◌, ◌≤ℤ◌, true, Some}
use Rattle.std.specs.BTreeMap.{BTreeMap, Updates, get}
use Rattle.std.specs.Ordering.{int_cmp}
use Rattle.op_core.specs.declared.statement.Label.{Label}
use Rattle.op_check_stmt.specs.Labels.{overlap}

abbrev pub from_to : ℤ → ℤ → Label
from_to first last = record { first = first; last = last; nodes = 0; words = 0 }

pub record Apart (seen : BTreeMap ℤ ℤ) : Type 0 where
  pub filled : (first last : ℤ) → get int_cmp seen first ≡ Some last → first ≤ℤ last
  pub apart : (first last other end : ℤ) → get int_cmp seen first ≡ Some last → get int_cmp seen other ≡ Some end → first <ℤ other → last <ℤ other

-- the label is kept, unless it has no value
pub record IsKept (old : BTreeMap ℤ ℤ) (label : Label) (new : BTreeMap ℤ ℤ) : Type 0 where
  pub kept : label.first ≤ℤ label.last → Updates int_cmp old new label.first (Some label.last)
  pub skipped : label.last <ℤ label.first → new ≡ old

-- one of them has a value of the label
pub record Met (seen : BTreeMap ℤ ℤ) (label : Label) : Type 0 where
  pub first : ℤ
  pub last : ℤ
  pub is_there : get int_cmp seen first ≡ Some last
  pub meets : overlap (from_to first last) label ≡ true
