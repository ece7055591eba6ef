use Rattle.std.proofs.Common.{Some, refl}
use Rattle.std.specs.Prelude.{slice_set}
use Rattle.op_regs.specs.declared.home.Home.TheVariants.{Frame}
use Rattle.op_regs.proofs.ScanLemmas.{leave_fair, left_less, next_within}
use Rattle.op_regs.proofs.scan.Scan.leave.Goals as goal

pub returns-clause-fair : goal.returns-clause-fair
returns-clause-fair c = leave_fair c.args.self.now _ c.args.next c.requires.fair c.requires.next c.requires.busy refl refl refl refl

pub returns-clause-fewer : goal.returns-clause-fewer
returns-clause-fewer c =
    left_less c.args.self.now.homes.items (slice_set c.args.self.now.homes.items c.args.next.register (Some (Frame c.args.self.now.words))) c.args.next.register (Frame c.args.self.now.words)
    (next_within c.args.self.now c.args.next c.requires.fair c.requires.next)
    c.requires.next.left
    refl
