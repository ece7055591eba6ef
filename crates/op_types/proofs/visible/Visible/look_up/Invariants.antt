use Rattle.std.proofs.Common.{◌≡◌, drop, length, reverse}
use Rattle.std.specs.Iterator.Adapters.{rev_source}
use Rattle.std.specs.Slice.Iter.{iter_rest}
use Rattle.op_types.specs.Names.{meaning_of}
use Rattle.op_types.proofs.Stretches.{all_back}
use Rattle.op_types.proofs.visible.Visible.look_up.Given as goal

-- what is left tells
abbrev pub invariant-loop-stretch : goal.invariant-loop-stretch
invariant-loop-stretch l =
    meaning_of (all_back (drop (length l.yielded) (reverse (iter_rest (rev_source l.initial.stretch-iterator))))) l.key.items ≡ meaning_of l.fn.self l.key.items
