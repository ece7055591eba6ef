use Rattle.std.proofs.Common.{◌≡◌, ◌++◌, ◌∷◌, [], length, refl, ap, subst, sym, arith, length-append}
use Rattle.std.proofs.lemmas.Option.{slice_get_read, slice_get_within}
use Rattle.op_regs.specs.Homes.{AreAllHomes}
use Rattle.op_regs.proofs.HomeLemmas.{homes_more}
use Rattle.op_regs.proofs.home.all_homes.Goals as goal

pub loop-routine-preserved : goal.loop-routine-preserved
loop-routine-preserved c = record {
  each =
      let more : length c.push.new.self.items ≡ length (c.loop-routine.homes.items ++ c.in_ok-homes_of.field-0 ∷ []) = ap length c.in_ok-push.ensures.items in
      omega (arith, more, length-append c.loop-routine.homes.items (c.in_ok-homes_of.field-0 ∷ []), c.loop-routine.invariant.each);
  homes_at =
      homes_more c.args.routines.now c.loop-routine.homes.items c.push.new.self.items c.loop-routine.routine-index c.routine-item.result c.in_ok-homes_of.field-0
      c.loop-routine.invariant.each c.loop-routine.invariant.homes_at
      (slice_get_read c.args.routines.now (length c.args.routines.now) c.loop-routine.routine-index c.routine-item.result refl c.loop-routine-test.true c.routine-item.is)
      c.in_ok-homes_of.ensures c.in_ok-push.ensures.items;
}

pub returns : goal.returns
returns c =
    subst (AreAllHomes c.args.routines.now) (sym c.from.ensures)
    (record {
      each = omega (arith, c.loop-routine.invariant.each);
      homes_at = λ k routine of is has. c.loop-routine.invariant.homes_at k routine of (omega (arith, slice_get_within c.args.routines.now k routine is)) is has;
    })
