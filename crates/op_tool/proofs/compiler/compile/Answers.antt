use Rattle.std.proofs.Common.{map}
use Rattle.std.proofs.lemmas.Result.{err_from_is_err_and}
use Rattle.op_accepted.proofs.Accepted.{accepted_is_fit}
use Rattle.op_base.proofs.Tests.{map_ok}
use Rattle.op_tree.specs.File.{file_of}
use Rattle.op_tool.proofs.Orders.{few_units}
use Rattle.op_tool.proofs.Compiling.{err_also, fails_as, made_of, not_compiled_by}
use Rattle.op_tool.proofs.Told.{compile_told}
use Rattle.op_tool.proofs.compiler.compile.Goals as goal

pub image_of-requires : goal.image_of-requires
image_of-requires g c =
    let forest = c.in_ok-core.ensures.made.0 in
    let is = c.in_ok-core.ensures.made.1 in
    record {
      sound = (is.sound, is.nesting);
      fit = accepted_is_fit (map file_of forest.trees) forest.order c.in_ok-core.core is.checks.means is.sound is.nesting (few_units (g.F.Files.stored c.args.files.now) c.args.main.now forest is.loads);
      settings = c.requires.settings;
    }

pub returns-in_err-core-clause-failed : goal.returns-in_err-core-clause-failed
returns-in_err-core-clause-failed g c =
    let p = err_from_is_err_and c.from_residual.result c.from_residual.ensures.1 in
    rw (p.1, p.2) (not_compiled_by (g.F.Files.stored c.args.files.now) c.args.main.now c.args.settings.now (g.F.Files.faults c.args.files.now) (g.F.Files.faults c.checked.new.files) c.in_err-core.field-0.0 c.in_err-core.ensures.failed)

pub returns-clause-made : goal.returns-clause-made
returns-clause-made g c =
    map_ok c.image_of.result (λ image is. made_of (g.F.Files.stored c.args.files.now) c.args.main.now c.args.settings.now c.in_ok-core.core image.items c.in_ok-core.ensures.made is) c.image_of.ensures.made

pub returns-clause-failed : goal.returns-clause-failed
returns-clause-failed g c =
    err_also c.image_of.result (λ error why. fails_as (g.F.Files.stored c.args.files.now) c.args.main.now c.args.settings.now (g.F.Files.faults c.args.files.now) (g.F.Files.faults c.checked.new.files) c.in_ok-core.core error c.in_ok-core.ensures.made why) c.image_of.ensures.failed

pub returns-in_err-core-clause-told : goal.returns-in_err-core-clause-told
returns-in_err-core-clause-told g c =
    err_also c.from_residual.result (compile_told (g.F.Files.stored c.args.files.now) c.args.main.now c.args.settings.now (g.F.Files.faults c.args.files.now) (g.F.Files.faults c.checked.new.files)) (returns-in_err-core-clause-failed g c)

pub returns-clause-told : goal.returns-clause-told
returns-clause-told g c =
    err_also c.image_of.result (compile_told (g.F.Files.stored c.args.files.now) c.args.main.now c.args.settings.now (g.F.Files.faults c.args.files.now) (g.F.Files.faults c.checked.new.files)) (returns-clause-failed g c)
