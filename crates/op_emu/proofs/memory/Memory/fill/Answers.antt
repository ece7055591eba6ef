use Rattle.std.proofs.Common.{◌≡◌, subst, ◌+◌, ◌-◌, ◌∙◌, ap, arith}
use Rattle.op_emu.proofs.FillingLemmas.{fills_none, fills_more}
use Rattle.op_emu.proofs.Stretches.{all_from-part}
use Rattle.op_emu.proofs.Writing.{still_writable}
use Rattle.op_emu.specs.Filling.{Fills}
use Rattle.op_emu.specs.Segments.{regions_of}
use Rattle.op_rv.specs.State.{all_from}
use Rattle.op_emu.proofs.memory.Memory.fill.Goals as goal

pub loop-done-init : goal.loop-done-init
loop-done-init g c =
    record {
      within = omega arith;
      counts = omega arith;
      room = omega arith;
      fills = fills_none (regions_of c.args.self.now.segments.items) c.args.at (g.R.Source.left c.args.from.now);
    }

pub fill_front-requires : goal.fill_front-requires
fill_front-requires g c =
    let now = c.loop-done.invariant in
    record {
      room = now.room;
      some = omega arith;
      near = omega arith;
      may = ap (λ may. all_from may (c.args.at + c.loop-done.done) (c.args.count - c.loop-done.done)) (still_writable _ _ _ _ now.fills.written)
          ∙ all_from-part _ c.args.at c.args.count c.loop-done.done (c.args.count - c.loop-done.done) (omega arith) c.requires;
    }

pub loop-done-preserved : goal.loop-done-preserved
loop-done-preserved g c =
    let now = c.loop-done.invariant in
    let step = c.in-Gave.ensures in
    record {
      within = omega (arith, step.front.1);
      counts = omega (arith, now.counts, step.counts);
      room = omega (arith, now.room, c.fill_front.auto.buffer);
      fills = fills_more _ _ _ c.args.at c.loop-done.done c.in-Gave.taken _ _ _ now.fills step.front.2;
    }

pub returns : goal.returns
returns g c =
    let now = c.loop-done.invariant in
    let all : c.loop-done.done ≡ c.args.count = omega (arith, now.within) in
    record {
      counts = now.counts;
      filled = subst (λ k. Fills k (regions_of c.args.self.now.segments.items) (regions_of c.loop-done.self.segments.items) c.args.at (g.R.Source.left c.args.from.now) (g.R.Source.left c.loop-done.from)) all now.fills;
    }
