use Rattle.std.proofs.Common.{Some, Err, arith, ◌++◌, ap, subst, sym, ◌∙◌}
use Rattle.op_base.specs.FileAnswer.{Answers}
use Rattle.op_base.specs.declared.files.FileAnswer.TheVariants.{Found, Long, Missing}
use Rattle.op_units.specs.Cycles.{EnterIs, RefusesBy, TooLargeIs}
use Rattle.op_units.specs.Names.{file_of_unit, is_sysutils}
use Rattle.op_units.specs.Walk.{UseBreaks, UseIs, is_known, is_unbuilt, walked_of}
use Rattle.op_units.proofs.Entering.{answered, is_new_by, is_passed_on, missing, not_opened, too_large, too_many, use_refused}
use Rattle.op_units.proofs.walk.Walk.visit.Goals as goal

pub returns-then-is_sysutils-clause-comes : goal.returns-then-is_sysutils-clause-comes
returns-then-is_sysutils-clause-comes g c =
    let stored = g.F.Files.stored c.args.files.now in
    let before = g.F.Files.faults c.args.files.now in
    let folder = c.args.folder.now in
    let file = c.args.file.now in
    let used = c.args.unit in
    let w = walked_of c.args.self.now in
    let named = ap is_sysutils (sym c.as_slice-name.ensures) ∙ sym c.is_sysutils.ensures ∙ c.if-is_sysutils.true in
    let unknown = ap (λ n. is_known w n) (sym c.as_slice-name.ensures) ∙ sym c.contains.ensures ∙ c.if-contains.false in
    use_refused stored folder file used w w before before c.broken.result file c.refused.result (subst (λ r. UseBreaks stored folder w file used r file) (sym c.broken.ensures) (is_unbuilt unknown named)) c.refused.ensures

pub returns-then-len-ge-MOST_UNITS-clause-comes : goal.returns-then-len-ge-MOST_UNITS-clause-comes
returns-then-len-ge-MOST_UNITS-clause-comes g c =
    let stored = g.F.Files.stored c.args.files.now in
    let before = g.F.Files.faults c.args.files.now in
    let folder = c.args.folder.now in
    let file = c.args.file.now in
    let used = c.args.unit in
    let w = walked_of c.args.self.now in
    let after = g.F.Files.faults c.read.new.self in
    let new = is_new_by w used.name c.as_slice-name.result.now c.contains.result c.is_system.result c.is_sysutils.result c.as_slice-name.ensures c.contains.ensures c.if-contains.false c.is_system.ensures c.if-is_system.false c.is_sysutils.ensures c.if-is_sysutils.false in
    let bare = c.in_ok-bare.ensures ∙ ap file_of_unit c.as_slice-name.ensures in
    let path = c.in-Ok.ensures.cases.0 ∙ c.as_slice-2.ensures.value ∙ c.in_ok-path.ensures ∙ ap (λ b. folder ++ b) (c.as_slice.ensures ∙ bare) in
    too_many stored folder file c.in-Found.text used w w before after c.refused-then-len-ge-MOST_UNITS.result new (subst (λ m. Answers stored (folder ++ file_of_unit used.name) m before after (Found c.in-Found.text)) c.room.ensures (answered stored c.in-Ok.path.now (folder ++ file_of_unit used.name) c.room.result before after c.in_ok-read.field-0 (Found c.in-Found.text) c.in_ok-read.ensures.answers path c.in-Found.is)) (omega (arith, c.len.ensures, c.if-len-ge-MOST_UNITS.true)) (subst (λ r. RefusesBy file r c.refused-then-len-ge-MOST_UNITS.result) c.broken-then-len-ge-MOST_UNITS.ensures c.refused-then-len-ge-MOST_UNITS.ensures)

pub returns-in_err-frame-in-Found-clause-comes : goal.returns-in_err-frame-in-Found-clause-comes
returns-in_err-frame-in-Found-clause-comes g c =
    let stored = g.F.Files.stored c.args.files.now in
    let before = g.F.Files.faults c.args.files.now in
    let folder = c.args.folder.now in
    let file = c.args.file.now in
    let used = c.args.unit in
    let w = walked_of c.args.self.now in
    let after = g.F.Files.faults c.read.new.self in
    let new = is_new_by w used.name c.as_slice-name.result.now c.contains.result c.is_system.result c.is_sysutils.result c.as_slice-name.ensures c.contains.ensures c.if-contains.false c.is_system.ensures c.if-is_system.false c.is_sysutils.ensures c.if-is_sysutils.false in
    let bare = c.in_ok-bare.ensures ∙ ap file_of_unit c.as_slice-name.ensures in
    let path = c.in-Ok.ensures.cases.0 ∙ c.as_slice-2.ensures.value ∙ c.in_ok-path.ensures ∙ ap (λ b. folder ++ b) (c.as_slice.ensures ∙ bare) in
    subst (λ r. UseIs stored folder file used w (walked_of c.enter.new.self) before after r) (sym (is_passed_on c.from_residual-in_err-frame-in-Found.result c.in_err-frame-in-Found.field-0.0 c.from_residual-in_err-frame-in-Found.ensures.1)) (not_opened stored folder file c.in-Found.text c.in_ok-bare.bare used w (walked_of c.enter.new.self) before after c.in_err-frame-in-Found.field-0.0 new (subst (λ m. Answers stored (folder ++ file_of_unit used.name) m before after (Found c.in-Found.text)) c.room.ensures (answered stored c.in-Ok.path.now (folder ++ file_of_unit used.name) c.room.result before after c.in_ok-read.field-0 (Found c.in-Found.text) c.in_ok-read.ensures.answers path c.in-Found.is)) (omega (arith, c.len.ensures, c.if-len-ge-MOST_UNITS.false)) bare (subst (λ bytes. EnterIs c.in_ok-bare.bare (Some used.name) bytes w (walked_of c.enter.new.self) (Err c.in_err-frame-in-Found.field-0.0)) c.as_slice-in-Found.ensures c.in_err-frame-in-Found.ensures))

pub returns-in-Missing-clause-comes : goal.returns-in-Missing-clause-comes
returns-in-Missing-clause-comes g c =
    let stored = g.F.Files.stored c.args.files.now in
    let before = g.F.Files.faults c.args.files.now in
    let folder = c.args.folder.now in
    let file = c.args.file.now in
    let used = c.args.unit in
    let w = walked_of c.args.self.now in
    let after = g.F.Files.faults c.read.new.self in
    let new = is_new_by w used.name c.as_slice-name.result.now c.contains.result c.is_system.result c.is_sysutils.result c.as_slice-name.ensures c.contains.ensures c.if-contains.false c.is_system.ensures c.if-is_system.false c.is_sysutils.ensures c.if-is_sysutils.false in
    let bare = c.in_ok-bare.ensures ∙ ap file_of_unit c.as_slice-name.ensures in
    let path = c.in-Ok.ensures.cases.0 ∙ c.as_slice-2.ensures.value ∙ c.in_ok-path.ensures ∙ ap (λ b. folder ++ b) (c.as_slice.ensures ∙ bare) in
    missing stored folder file used w w before after c.refused-in-Missing.result new (subst (λ m. Answers stored (folder ++ file_of_unit used.name) m before after Missing) c.room.ensures (answered stored c.in-Ok.path.now (folder ++ file_of_unit used.name) c.room.result before after c.in_ok-read.field-0 Missing c.in_ok-read.ensures.answers path c.in-Missing.is)) (subst (λ r. RefusesBy file r c.refused-in-Missing.result) c.broken-in-Missing.ensures c.refused-in-Missing.ensures)

pub returns-in-Long-clause-comes : goal.returns-in-Long-clause-comes
returns-in-Long-clause-comes g c =
    let stored = g.F.Files.stored c.args.files.now in
    let before = g.F.Files.faults c.args.files.now in
    let folder = c.args.folder.now in
    let file = c.args.file.now in
    let used = c.args.unit in
    let w = walked_of c.args.self.now in
    let after = g.F.Files.faults c.read.new.self in
    let new = is_new_by w used.name c.as_slice-name.result.now c.contains.result c.is_system.result c.is_sysutils.result c.as_slice-name.ensures c.contains.ensures c.if-contains.false c.is_system.ensures c.if-is_system.false c.is_sysutils.ensures c.if-is_sysutils.false in
    let bare = c.in_ok-bare.ensures ∙ ap file_of_unit c.as_slice-name.ensures in
    let path = c.in-Ok.ensures.cases.0 ∙ c.as_slice-2.ensures.value ∙ c.in_ok-path.ensures ∙ ap (λ b. folder ++ b) (c.as_slice.ensures ∙ bare) in
    too_large stored folder file used w w before after c.too_large.result new (subst (λ m. Answers stored (folder ++ file_of_unit used.name) m before after Long) c.room.ensures (answered stored c.in-Ok.path.now (folder ++ file_of_unit used.name) c.room.result before after c.in_ok-read.field-0 Long c.in_ok-read.ensures.answers path c.in-Long.is)) (subst (λ b. TooLargeIs w file b used.place c.too_large.result) (c.as_slice-in-Long.ensures ∙ bare) c.too_large.ensures)
