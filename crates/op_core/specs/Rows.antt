-- Rows of a table.
use Rattle.std.specs.Prelude.{ℕ, ◌+◌, ◌<◌, ◌≤◌, List, length, take, drop}
use Rattle.op_core.specs.declared.ids.Run.{Run}

-- those that lie together
abbrev pub rows : {A : Type 0} → List A → Run → List A
rows table run = take run.count (drop run.first table)

-- the row is there
abbrev pub Row : {A : Type 0} → List A → ℕ → Type 0
Row table n = n < length table

abbrev pub Fit : {A : Type 0} → List A → Run → Type 0
Fit table run = run.first + run.count ≤ length table
