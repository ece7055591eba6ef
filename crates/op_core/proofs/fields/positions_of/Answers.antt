use Rattle.std.proofs.Common.{◌-◌, length, refl, sym, ap, ◌∙◌, arith}
use Rattle.op_core.proofs.FieldIndex.{all_found, nothing_found, one_found}
use Rattle.op_core.specs.FieldNames.{lower}
use Rattle.op_core.specs.declared.types.Field.{Field}
use Rattle.op_core.proofs.fields.positions_of.Goals as goal

pub loop-at-init : goal.loop-at-init
loop-at-init c = record { within = omega arith; found = nothing_found c.args.fields.now (length c.args.fields.now) c.new-positions.result refl c.new-positions.ensures.empty }

pub loop-at-preserved : goal.loop-at-preserved
loop-at-preserved c = record {
  within = omega arith;
  found =
      one_found c.args.fields.now (c.loop-at.at - 1) c.loop-at.at c.index-fields-at.result c.loop-at.positions c.insert.new.self c.in_ok-name.name (omega arith) (omega arith) c.index-fields-at.is
      (c.in_ok-name.ensures ∙ ap lower c.as_slice.ensures ∙ ap (λ (f : Field). lower f.name.text) (sym c.index-fields-at.is)) c.in_ok-insert.ensures.updates c.loop-at.invariant.found;
}

pub returns : goal.returns
returns c = all_found c.args.fields.now c.loop-at.at c.loop-at.positions c.loop-at-test.false c.loop-at.invariant.found
