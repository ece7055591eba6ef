use Rattle.std.proofs.Common.{◌≡◌, None, Some, ap, arith, refl}
use Rattle.op_regs.specs.Scanning.{free_by}
use Rattle.op_regs.specs.Tables.{entry}
use Rattle.op_regs.proofs.TableLemmas.{entry-set_same}
use Rattle.op_regs.proofs.ScanLemmas.{evict_fair, evict_next}
use Rattle.op_regs.proofs.scan.Scan.evict.Goals as goal

pub returns-clause-fair : goal.returns-clause-fair
returns-clause-fair c =
    let holds : entry c.args.self.now.holders.items c.args.number ≡ Some c.in-Some.holder = cc in
    evict_fair c.args.self.now _ c.args.number c.args.next c.in-Some.holder c.requires.fair c.requires.few c.requires.next c.requires.busy holds refl refl refl refl

pub returns-clause-next : goal.returns-clause-next
returns-clause-next c =
    let holds : entry c.args.self.now.holders.items c.args.number ≡ Some c.in-Some.holder = cc in
    evict_next c.args.self.now _ c.args.number c.args.next c.in-Some.holder c.requires.fair c.requires.few c.requires.next c.requires.busy holds refl refl

pub returns-clause-free : goal.returns-clause-free
returns-clause-free c =
    ap (free_by (entry c.args.self.now.spans.items) c.args.next.interval.first) (entry-set_same c.args.self.now.holders.items c.args.number None (omega (arith, c.requires.few, c.requires.fair.few)))
