use Rattle.std.proofs.Common.{◌≡◌, ◌++◌, drop, map}
use Rattle.op_regs.specs.Scanning.{home_or_first}
use Rattle.op_regs.proofs.scan.Scan.homes.Given as goal

-- with those that are left they are the whole
abbrev pub invariant-loop-home : goal.invariant-loop-home
invariant-loop-home l = l.homes.items ++ map home_or_first (drop l.home-index l.home-items) ≡ map home_or_first l.self.homes.items
