use Rattle.std.proofs.Common.{◌≡◌, map, drop}
use Rattle.op_print.specs.Page.{after, each}
use Rattle.op_print.proofs.list.all.Given as goal

-- What is left gives the whole.
abbrev pub invariant-loop-part : goal.invariant-loop-part
invariant-loop-part g l = after l.page (each (map g.T.Printed.draft (drop l.part-index l.list))) ≡ after l.fn.page (each (map g.T.Printed.draft l.list))
