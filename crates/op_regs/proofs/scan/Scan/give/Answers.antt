use Rattle.std.proofs.Common.{Some, ap, refl}
use Rattle.std.specs.Prelude.{slice_set}
use Rattle.op_regs.specs.declared.home.Home.TheVariants.{Reg}
use Rattle.op_regs.proofs.ScanLemmas.{give_fair, left_less, next_within}
use Rattle.op_regs.proofs.scan.Scan.give.Goals as goal

pub returns-clause-fair : goal.returns-clause-fair
returns-clause-fair c =
    give_fair c.args.self.now _ c.args.number c.args.next c.requires.fair c.requires.few c.requires.next c.requires.free
    refl
    (ap (λ n. slice_set c.args.self.now.homes.items c.args.next.register (Some (Reg n))) c.given.ensures)
    refl
    refl

pub returns-clause-fewer : goal.returns-clause-fewer
returns-clause-fewer c =
    left_less c.args.self.now.homes.items (slice_set c.args.self.now.homes.items c.args.next.register (Some (Reg c.given.result))) c.args.next.register (Reg c.given.result)
    (next_within c.args.self.now c.args.next c.requires.fair c.requires.next)
    c.requires.next.left
    refl
