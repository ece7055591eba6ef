use Rattle.std.proofs.Common.{◌≡◌, max, take}
use Rattle.std.specs.List.{fold}
use Rattle.op_expand.specs.Registers.{with_register}
use Rattle.op_expand.proofs.registers.greatest_in_call.Given as goal

abbrev pub invariant-loop-argument : goal.invariant-loop-argument
invariant-loop-argument l =
    l.most ≡ fold with_register (max l.fn.address.0 l.call.to.0) (take l.argument-index l.argument-items)
