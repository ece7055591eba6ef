-- Tables of what may be missing.
use Rattle.std.specs.Prelude.{ℕ, Option, Some, None, List, slice_get}

abbrev pub or_none : {A : Type 0} → Option (Option A) → Option A
or_none None = None
or_none (Some o) = o

-- what a table has at a place; nothing beyond its end
abbrev pub entry : {A : Type 0} → List (Option A) → ℕ → Option A
entry table k = or_none (slice_get table k)
