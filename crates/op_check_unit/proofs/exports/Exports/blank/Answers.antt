use Rattle.std.proofs.Common.{ap, ◌∙◌}
use Rattle.op_check_unit.proofs.Finding.{none_exported, none_yet}
use Rattle.op_check_unit.specs.Numbering.{exported_name, first_spelled}
use Rattle.op_check_unit.proofs.exports.Exports.blank.Goals as goal

pub invariant_of-result : goal.invariant_of-result
invariant_of-result c =
    none_yet exported_name c.in_ok-no_exports.field-0 c.new.result.numbers (λ letters. ap (first_spelled exported_name letters) c.in_ok-no_exports.ensures ∙ none_exported c.args.count letters) c.new.ensures
