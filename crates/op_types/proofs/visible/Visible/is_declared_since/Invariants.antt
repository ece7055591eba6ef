use Rattle.std.proofs.Common.{drop, length, reverse}
use Rattle.std.specs.Iterator.Adapters.{rev_source}
use Rattle.std.specs.Slice.Iter.{iter_rest}
use Rattle.op_types.proofs.Stretches.{IsLeft}
use Rattle.op_types.proofs.visible.Visible.is_declared_since.Given as goal

-- what is left tells
abbrev pub invariant-loop-stretch : goal.invariant-loop-stretch
invariant-loop-stretch l =
    IsLeft (drop (length l.yielded) (reverse (iter_rest (rev_source l.initial.stretch-iterator)))) l.before l.count l.fn.self l.key.items
