use Rattle.std.proofs.Common.{[], codes, map, refl, string_bytes, subst, sym}
use Rattle.op_emu.specs.Acts.{faults, streams}
use Rattle.op_tool.specs.Effects.{Says, line}
use Rattle.op_tool.specs.Owes.{Owes, OwesBuild, OwesCheck, OwesCommand, OwesExec, OwesList, OwesRun, call}
use Rattle.op_command.specs.Reading.{asked_of}
use Rattle.op_tool.specs.declared.finish.Finish.TheVariants as finish
use Rattle.op_tool.proofs.Failing.{owes_no_memory}
use Rattle.op_tool.proofs.Saying.{says_also, says_no_memory, says_report}
use Rattle.op_tool.proofs.Commands.{found_asks, none_found}
use Rattle.op_tool.proofs.driver.tool.Goals as goal

pub returns-in-Exec-clause-says : goal.returns-in-Exec-clause-says
returns-in-Exec-clause-says g c =
    let words = map string_bytes c.args.words.now in
    let asked = asked_of c.in-Ok-Some.command in
    let is = found_asks words c.in-Ok-Some.field-0 c.in-Ok-Some.command c.in-Ok-Some.field-0-is c.in-Ok-Some.ensures.is in
    let now = call words (g.F.Files.stored c.args.files.now) (g.F.Files.faults c.args.files.now) (g.F.Files.faults c.exec.new.files) (g.R.Source.faults c.args.input.now) (g.R.Source.faults c.exec.new.input) c.exec.new.image.items in
    says_also (OwesExec now asked) (Owes now) c.exec.result _ _ (λ answer done bytes owes. Owes.by_command asked is (subst (λ verb. OwesCommand verb now asked answer done) (sym c.in-Exec.is) owes)) (c.exec.ensures.says words)

pub returns-in-Build-clause-says : goal.returns-in-Build-clause-says
returns-in-Build-clause-says g c =
    let words = map string_bytes c.args.words.now in
    let asked = asked_of c.in-Ok-Some.command in
    let is = found_asks words c.in-Ok-Some.field-0 c.in-Ok-Some.command c.in-Ok-Some.field-0-is c.in-Ok-Some.ensures.is in
    let now = call words (g.F.Files.stored c.args.files.now) (g.F.Files.faults c.args.files.now) (g.F.Files.faults c.build.new.files) (g.R.Source.faults c.args.input.now) (g.R.Source.faults c.args.input.now) c.build.new.image.items in
    says_also (OwesBuild now asked) (Owes now) c.build.result _ _ (λ answer done bytes owes. Owes.by_command asked is (subst (λ verb. OwesCommand verb now asked answer done) (sym c.in-Build.is) owes)) (c.build.ensures.says words (g.R.Source.left c.args.input.now) (g.R.Source.faults c.args.input.now))

pub returns-in-Check-clause-says : goal.returns-in-Check-clause-says
returns-in-Check-clause-says g c =
    let words = map string_bytes c.args.words.now in
    let asked = asked_of c.in-Ok-Some.command in
    let is = found_asks words c.in-Ok-Some.field-0 c.in-Ok-Some.command c.in-Ok-Some.field-0-is c.in-Ok-Some.ensures.is in
    let now = call words (g.F.Files.stored c.args.files.now) (g.F.Files.faults c.args.files.now) (g.F.Files.faults c.check.new.files) (g.R.Source.faults c.args.input.now) (g.R.Source.faults c.args.input.now) in
    let told = streams (g.R.Source.left c.args.input.now) (g.R.Source.left c.args.input.now) (g.W.Sink.written c.args.out.now) (g.W.Sink.written c.check.new.out) (g.E.Sink.written c.args.err.now) (g.E.Sink.written c.check.new.err) in
    let counts = faults (g.R.Source.faults c.args.input.now) (g.R.Source.faults c.args.input.now) (g.W.Sink.faults c.args.out.now) (g.W.Sink.faults c.check.new.out) (g.E.Sink.faults c.args.err.now) (g.E.Sink.faults c.check.new.err) in
    subst (λ image. Says (Owes (now image)) c.check.result told counts) (sym c.clear.ensures.items)
    (says_also (OwesCheck (now []) asked.operand) (Owes (now [])) c.check.result told counts (λ answer done bytes owes. Owes.by_command asked is (subst (λ verb. OwesCommand verb (now []) asked answer done) (sym c.in-Check.is) owes)) (c.check.ensures.says words (g.R.Source.left c.args.input.now) (g.R.Source.faults c.args.input.now)))

pub returns-in-List-clause-says : goal.returns-in-List-clause-says
returns-in-List-clause-says g c =
    let words = map string_bytes c.args.words.now in
    let asked = asked_of c.in-Ok-Some.command in
    let is = found_asks words c.in-Ok-Some.field-0 c.in-Ok-Some.command c.in-Ok-Some.field-0-is c.in-Ok-Some.ensures.is in
    let now = call words (g.F.Files.stored c.args.files.now) (g.F.Files.faults c.args.files.now) (g.F.Files.faults c.list.new.files) (g.R.Source.faults c.args.input.now) (g.R.Source.faults c.args.input.now) c.list.new.image.items in
    says_also (OwesList now asked) (Owes now) c.list.result _ _ (λ answer done bytes owes. Owes.by_command asked is (subst (λ verb. OwesCommand verb now asked answer done) (sym c.in-List.is) owes)) (c.list.ensures.says words (g.R.Source.left c.args.input.now) (g.R.Source.faults c.args.input.now))

pub returns-in-Run-clause-says : goal.returns-in-Run-clause-says
returns-in-Run-clause-says g c =
    let words = map string_bytes c.args.words.now in
    let asked = asked_of c.in-Ok-Some.command in
    let is = found_asks words c.in-Ok-Some.field-0 c.in-Ok-Some.command c.in-Ok-Some.field-0-is c.in-Ok-Some.ensures.is in
    let now = call words (g.F.Files.stored c.args.files.now) (g.F.Files.faults c.args.files.now) (g.F.Files.faults c.run.new.files) (g.R.Source.faults c.args.input.now) (g.R.Source.faults c.run.new.input) c.run.new.image.items in
    says_also (OwesRun now asked.operand asked.steps) (Owes now) c.run.result _ _ (λ answer done bytes owes. Owes.by_command asked is (subst (λ verb. OwesCommand verb now asked answer done) (sym c.in-Run.is) owes)) (c.run.ensures.says words)

pub returns-in-Ok-None-clause-says : goal.returns-in-Ok-None-clause-says
returns-in-Ok-None-clause-says g c =
    says_report _ finish.Usage c.report.result (line (codes "opc: bad command line")) _ _ _ _ _ _ _ _ _ (λ same. cc) (λ input. Owes.by_none (none_found (map string_bytes c.args.words.now) c.in-Ok-None.field-0 c.in-Ok-None.field-0-is c.in-Ok-None.ensures.is) c.clear.ensures.items (refl, refl, refl)) c.report.ensures.says

pub returns-in-Err-clause-says : goal.returns-in-Err-clause-says
returns-in-Err-clause-says g c =
    let some = c.in-Err.ensures.is in
    says_no_memory _ c.report_no_memory.result _ _ _ _ _ _ _ _ _ (λ done only. Owes.by_command some.0 some.1 (owes_no_memory some.0.verb _ some.0 done c.clear.ensures.items only)) c.report_no_memory.ensures.says
