use Rattle.std.proofs.Common.{◌≡◌, min, take}
use Rattle.op_scan.specs.Literal.{value_of}
use Rattle.op_scan.proofs.number.digits_value.Given as goal

-- the value of the digits so far, cut at the limit
abbrev pub invariant-loop-digit : goal.invariant-loop-digit
invariant-loop-digit l = l.value ≡ min (value_of l.fn.base (take l.digit-index l.digits)) 2147483649
