use Rattle.std.proofs.Common.{refl, sym, ap, ◌∙◌}
use Rattle.op_base.specs.declared.files.FileAnswer.TheVariants.{Found, Long, Missing}
use Rattle.op_core.specs.Faults.{broken}
use Rattle.op_units.specs.Walk.{main_is_missing, main_is_too_large, start_of, walked_of}
use Rattle.op_units.proofs.Entering.{answered, main_entered, main_refused}
use Rattle.op_units.proofs.Loading.{refused_by}
use Rattle.op_units.proofs.loader.first_frame.Goals as goal

pub returns-in_ok-file-in-Found-clause-is : goal.returns-in_ok-file-in-Found-clause-is
returns-in_ok-file-in-Found-clause-is g c =
    let stored = g.F.Files.stored c.args.files.now in
    let main = c.args.main.now in
    let before = g.F.Files.faults c.args.files.now in
    let after = g.F.Files.faults c.read.new.self in
    let bytes = c.as_slice.result.now in
    main_entered stored main c.in_ok-file-in-Found.file bytes (walked_of c.args.walk.now) (walked_of c.enter.new.self) before after c.enter.result
    (answered stored main main 4194304 before after c.in_ok-text.field-0 (Found bytes) c.in_ok-text.ensures.answers refl (c.in-Found.is ∙ ap (λ x. Found x) (sym c.as_slice.ensures)))
    c.requires (c.in_ok-file-in-Found.ensures ∙ c.as_bytes-name.ensures.value) c.enter.ensures

pub returns-in-Long-clause-is : goal.returns-in-Long-clause-is
returns-in-Long-clause-is g c =
    let stored = g.F.Files.stored c.args.files.now in
    let main = c.args.main.now in
    let before = g.F.Files.faults c.args.files.now in
    let after = g.F.Files.faults c.read.new.self in
    main_refused stored main before after (broken 62 (start_of 0)) c.refused.result
    (main_is_too_large (answered stored main main 4194304 before after c.in_ok-text.field-0 Long c.in_ok-text.ensures.answers refl c.in-Long.is))
    (refused_by c.as_bytes-name.result.now main c.broken.result (broken 62 (start_of 0)) c.refused.result c.as_bytes-name.ensures.value (c.broken.ensures ∙ ap (λ p. broken 62 p) c.start_of.ensures) c.refused.ensures)

pub returns-in-Missing-clause-is : goal.returns-in-Missing-clause-is
returns-in-Missing-clause-is g c =
    let stored = g.F.Files.stored c.args.files.now in
    let main = c.args.main.now in
    let before = g.F.Files.faults c.args.files.now in
    let after = g.F.Files.faults c.read.new.self in
    main_refused stored main before after (broken 10 (start_of 0)) c.refused-in-Missing.result
    (main_is_missing (answered stored main main 4194304 before after c.in_ok-text.field-0 Missing c.in_ok-text.ensures.answers refl c.in-Missing.is))
    (refused_by c.as_bytes-name.result.now main c.broken-in-Missing.result (broken 10 (start_of 0)) c.refused-in-Missing.result c.as_bytes-name.ensures.value (c.broken-in-Missing.ensures ∙ ap (λ p. broken 10 p) c.start_of-in-Missing.ensures) c.refused-in-Missing.ensures)
