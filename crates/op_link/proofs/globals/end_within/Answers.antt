use Rattle.std.proofs.Common.{sym, subst, ◌∙◌, ◌≤◌}
use Rattle.op_link.specs.Memory.{behind_global, behind_globals}
use Rattle.op_link.proofs.GlobalPlaces.{next_least, none_small}
use Rattle.op_link.proofs.globals.end_within.Goals as goal

pub returns-in-None : goal.returns-in-None
returns-in-None c =
    let globals = c.args.globals.now in
    let next = next_least c.args.as_zero c.loop-global.end globals c.loop-global.global-index c.global-item.result c.loop-global-test.true c.global-item.is in
    let more = subst (λ n. behind_global c.args.as_zero c.loop-global.end c.global-item.result ≤ n) c.loop-global.invariant.rest next in
    none_small (behind_global c.args.as_zero c.loop-global.end c.global-item.result) (behind_globals c.args.as_zero c.args.from globals) more (sym c.in-None.is ∙ c.behind_within.ensures)
