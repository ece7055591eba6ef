use Rattle.std.proofs.Common.{Err, ap, subst, ◌∙◌}
use Rattle.std.proofs.lemmas.Result.{err_from_is_err_and}
use Rattle.op_tool.proofs.Compiling.{checked_so, not_checked, not_loaded}
use Rattle.op_tool.specs.Compiles.{Checks, by_check, name_at}
use Rattle.op_tool.proofs.compiler.checked.Goals as goal

pub returns-in-Err-Refused-clause-failed : goal.returns-in-Err-Refused-clause-failed
returns-in-Err-Refused-clause-failed g c =
    let forest = c.in_ok-forest.forest in
    let refusal = c.in-Err-Refused.refusal in
    not_checked (g.F.Files.stored c.args.files.now) c.args.main.now c.name_at-file.result.now (g.F.Files.faults c.args.files.now) (g.F.Files.faults c.load.new.files) refusal c.refused_in.result (by_check forest c.in_ok-forest.ensures.loaded (subst (λ e. Checks forest (Err e)) c.in-Err-Refused.field-0-is (checked_so forest c.as_slice-trees.result.now c.as_slice-order.result.now _ c.as_slice-trees.ensures c.as_slice-order.ensures c.in-Err-Refused.ensures.means c.in-Err-Refused.ensures.law)) (c.name_at-file.ensures ∙ ap (λ main. name_at forest main refusal.place) c.as_bytes.ensures.value)) c.refused_in.ensures

pub returns-in_err-forest-clause-failed : goal.returns-in_err-forest-clause-failed
returns-in_err-forest-clause-failed g c =
    let p = err_from_is_err_and c.from_residual.result c.from_residual.ensures.1 in
    rw (p.1, p.2) (not_loaded (g.F.Files.stored c.args.files.now) c.args.main.now (g.F.Files.faults c.args.files.now) (g.F.Files.faults c.load.new.files) c.in_err-forest.field-0.0 c.in_err-forest.ensures.failed)

pub returns-in-Ok-clause-made : goal.returns-in-Ok-clause-made
returns-in-Ok-clause-made g c =
    let forest = c.in_ok-forest.forest in (
      forest,
      record {
        loads = c.in_ok-forest.ensures.loaded;
        checks = (checked_so forest c.as_slice-trees.result.now c.as_slice-order.result.now _ c.as_slice-trees.ensures c.as_slice-order.ensures c.in-Ok.ensures.means c.in-Ok.ensures.law);
        sound = c.in-Ok.ensures.sound.0;
        nesting = c.in-Ok.ensures.sound.1;
      },
    )
