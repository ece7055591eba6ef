use Rattle.std.proofs.Common.{◌≡◌, ◌++◌, drop, map}
use Rattle.op_types.specs.Names.{named}
use Rattle.op_types.proofs.names.Names.enter_copies.Given as goal

-- what is left gives the whole
abbrev pub invariant-loop-one : goal.invariant-loop-one
invariant-loop-one l = l.self ++ map named (drop l.one-index l.declared) ≡ l.fn.self ++ map named l.declared
