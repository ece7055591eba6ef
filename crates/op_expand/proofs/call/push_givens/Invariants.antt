use Rattle.std.proofs.Common.{◌≡◌, ◌++◌, drop}
use Rattle.op_expand.specs.Calls.{givens_code, givens_in}
use Rattle.op_expand.proofs.call.push_givens.Given as goal

-- what is left gives the rest
abbrev pub invariant-loop-each : goal.invariant-loop-each
invariant-loop-each l =
    record {
      code : l.code.items ++ givens_code l.core l.frame (drop l.each-index l.given) l.free ≡ l.fn.code.items ++ givens_code l.core l.frame l.given l.fn.first;
      arguments : l.arguments.items ++ givens_in l.core l.frame (drop l.each-index l.given) l.free ≡ l.fn.arguments.items ++ givens_in l.core l.frame l.given l.fn.first;
    }
