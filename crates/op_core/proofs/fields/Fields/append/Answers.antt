use Rattle.std.proofs.Common.{List, length, sym, ap, subst}
use Rattle.op_core.proofs.FieldIndex.{record_found, still_found, unchanged_found}
use Rattle.op_core.specs.FieldNames.{AreFound, Finds}
use Rattle.op_core.specs.declared.fields.RecordNames.{RecordNames}
use Rattle.op_core.specs.declared.types.Field.{Field}
use Rattle.op_core.proofs.fields.Fields.append.Goals as goal

pub invariant_of-self-in_err-insert : goal.invariant_of-self-in_err-insert
invariant_of-self-in_err-insert c =
    unchanged_found c.append.new.self c.self.inside.records c.insert.new.self c.in_err-insert.ensures.err
    (subst (λ (fs : List Field). AreFound fs c.self.inside.records) (sym c.in_ok-append.ensures.appended) (still_found c.self.inside.rows c.args.more c.self.inside.records c.self.invariant))

pub invariant_of-self-2 : goal.invariant_of-self-2
invariant_of-self-2 c =
    let names : RecordNames = record { count = length c.as_slice-count.result.now; positions = c.in_ok-positions.positions } in
    subst (λ (fs : List Field). AreFound fs c.insert.new.self) (sym c.in_ok-append.ensures.appended)
    (record_found c.self.inside.rows c.args.more c.self.inside.records c.insert.new.self names (length c.as_slice-first.result.now) (ap length c.as_slice-first.ensures) (ap length c.as_slice-count.ensures)
    (subst (λ (fs : List Field). Finds fs c.in_ok-positions.positions) c.as_slice.ensures c.in_ok-positions.ensures) c.in_ok-insert.ensures.updates c.self.invariant)
