use Rattle.std.proofs.Common.{subst, sym, ◌∙◌}
use Rattle.op_regs.specs.Homes.{AreHomes}
use Rattle.op_regs.specs.Intervals.{AreIntervals}
use Rattle.op_regs.proofs.HomeLemmas.{homes_are, intervals_run}
use Rattle.op_regs.proofs.home.homes_of.Goals as goal

pub of-requires : goal.of-requires
of-requires c = intervals_run c.args.routine.now.blocks c.args.routine.now.registers c.in_ok-spans.spans.items c.in_ok-spans.ensures

pub returns : goal.returns
returns c =
    subst (AreHomes c.args.routine.now) (sym (c.from.ensures ∙ c.in_ok-homes.ensures))
    (homes_are c.args.routine.now c.in_ok-scan.scan
    (subst (AreIntervals c.args.routine.now.blocks c.args.routine.now.registers) (sym c.in_ok-scan.ensures.same) c.in_ok-spans.ensures)
    c.in_ok-scan.ensures.fair c.in_ok-scan.ensures.all)
