use Rattle.std.proofs.Common.{refl}
use Rattle.op_lower.proofs.ProgramLemmas.{program_code, unit_begun}
use Rattle.op_lower.proofs.program.program.Goals as goal

pub loop-unit-preserved : goal.loop-unit-preserved
loop-unit-preserved c = record { begun = λ core r. unit_begun core r c.args.units.now c.loop-unit.unit-index c.unit-item.result c.loop-unit.code.items c.begin_unit.new.code.items c.loop-unit-test.true c.unit-item.is (c.in_ok-begin_unit.ensures core r) (c.loop-unit.invariant.begun core r) }

pub returns : goal.returns
returns c = record {
  blocks = λ core r. program_code core r c.args.units.now c.loop-unit.unit-index c.loop-unit.code.items c.push.new.self.items c.in_ok-with_end.field-0 c.loop-unit-test.false c.in_ok-push.ensures.items c.in_ok-with_end.ensures (c.loop-unit.invariant.begun core r);
  charge = refl;
  locals = refl;
  temporaries = refl;
}
