-- Items behind items.
use Rattle.std.proofs.Common.{◌≡◌}
use Rattle.op_semantics.specs.Items.{Items, none, ◌&◌}
use Rattle.op_values.proofs.ItemsBehind as values

pub behind_behind : (xs ys zs : Items) → (xs & ys) & zs ≡ xs & ys & zs
behind_behind xs ys zs = values.behind_behind xs ys zs

pub behind_none : (xs : Items) → xs & none ≡ xs
behind_none xs = values.behind_none xs
