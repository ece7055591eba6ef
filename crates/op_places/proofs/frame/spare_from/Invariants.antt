use Rattle.std.proofs.Common.{◌≡◌, drop}
use Rattle.op_places.specs.Frames.{spare_from}
use Rattle.op_places.proofs.frame.spare_from.Given as goal

-- the homes that are left tell the register
abbrev pub invariant-loop-home : goal.invariant-loop-home
invariant-loop-home l = spare_from l.other l.k (drop l.home-index l.homes) ≡ spare_from l.other 0 l.homes
