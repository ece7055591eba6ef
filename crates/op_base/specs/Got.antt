-- What a source gives.
use Rattle.std.specs.Prelude.{◌≡◌, ℕ, ◌<◌, ◌≤◌, Option, List, length, take}
use Rattle.op_base.specs.Outside.{preceded}
use Rattle.op_base.specs.declared.source.Got.{Got}
use Rattle.op_base.specs.declared.source.Got.TheVariants.{Gave, End, Failed}

-- the front of the buffer came from the front of what was left, and without bytes nothing was taken
abbrev pub Gives : Got → List ℕ → Option (List ℕ) → Option (List ℕ) → Type 0
Gives (Gave count) into before after = (0 < count) × (count ≤ length into) × (before ≡ preceded (take count into) after)
Gives End into before after = after ≡ before
Gives Failed into before after = after ≡ before
