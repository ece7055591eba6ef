use Rattle.std.proofs.Common.{None, Some, refl, ◌∙◌}
use Rattle.op_check_unit.proofs.Finding.{found_as, no_unit_is, unit_is}
use Rattle.op_check_unit.proofs.unit_names.UnitFiles.unit_named.Goals as goal

pub returns-in-None : goal.returns-in-None
returns-in-None c =
    let files = c.args.self.now in
    let name = c.args.name.now in
    no_unit_is files.trees.now name files.numbering.numbers files.found (found_as files.numbering.numbers name name c.in_ok-find.field-0 None c.in_ok-find.ensures refl c.in-None.is)

pub returns-in-Some : goal.returns-in-Some
returns-in-Some c =
    let files = c.args.self.now in
    let name = c.args.name.now in
    let k = c.in-Some.number in
    c.unit_in.ensures ∙ unit_is files.trees.now name files.numbering.numbers k files.found (found_as files.numbering.numbers name name c.in_ok-find.field-0 (Some k) c.in_ok-find.ensures refl c.in-Some.is)
