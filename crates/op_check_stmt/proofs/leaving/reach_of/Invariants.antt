use Rattle.std.proofs.Common.{◌≡◌, drop}
use Rattle.std.specs.List.{fold}
use Rattle.op_check_stmt.specs.Leaving.{entered, reach_of}
use Rattle.op_check_stmt.proofs.leaving.reach_of.Given as goal

-- what is left leads to the whole
abbrev pub invariant-loop-part : goal.invariant-loop-part
invariant-loop-part l = fold entered l.reach (drop l.part-index l.around) ≡ reach_of l.around
