use Rattle.std.proofs.Common.{◌≡◌, ℕ, List, ◌++◌, false, length, nat_eq}
use Rattle.std.specs.List.{list_any}
use Rattle.op_units.proofs.uses.folder_of.Given as goal

abbrev pub invariant-loop-last : goal.invariant-loop-last
invariant-loop-last l = (bare : List ℕ) × (l.name ≡ l.front ++ bare) × (list_any (nat_eq 47) bare ≡ false)

abbrev pub decreases-loop-last : goal.decreases-loop-last
decreases-loop-last l = length l.front
