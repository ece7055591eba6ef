use Rattle.std.proofs.Common.{codes, subst, sym}
use Rattle.std.proofs.lemmas.Result.{IfOk-weaker}
use Rattle.op_command.specs.Line.{IsTold, named, told_of, with_steps}
use Rattle.op_command.proofs.line.command_told.Goals as goal

pub returns-in_ok-with_steps-in-Exec : goal.returns-in_ok-with_steps-in-Exec
returns-in_ok-with_steps-in-Exec c =
    IfOk-weaker c.with_sizes.result _ _ (λ more is. subst (λ one. IsTold more (told_of one)) (sym c.in-Exec.is) (is (with_steps (named (codes "exec"))) (c.in_ok-with_steps-in-Exec.ensures (named (codes "exec")) c.in_ok-named-in-Exec.ensures)))
    c.with_sizes.ensures

pub returns-in_ok-named-in-Build : goal.returns-in_ok-named-in-Build
returns-in_ok-named-in-Build c =
    IfOk-weaker c.with_sizes-in-Build.result _ _ (λ more is. subst (λ one. IsTold more (told_of one)) (sym c.in-Build.is) (is (named (codes "build")) c.in_ok-named-in-Build.ensures)) c.with_sizes-in-Build.ensures

pub returns-in_ok-named-in-List : goal.returns-in_ok-named-in-List
returns-in_ok-named-in-List c =
    IfOk-weaker c.with_sizes-in-List.result _ _ (λ more is. subst (λ one. IsTold more (told_of one)) (sym c.in-List.is) (is (named (codes "list")) c.in_ok-named-in-List.ensures)) c.with_sizes-in-List.ensures

pub returns-in_ok-named-in-Run : goal.returns-in_ok-named-in-Run
returns-in_ok-named-in-Run c =
    IfOk-weaker c.with_steps-in-Run.result _ _ (λ more is. subst (λ one. IsTold more (told_of one)) (sym c.in-Run.is) (is (named (codes "run")) c.in_ok-named-in-Run.ensures)) c.with_steps-in-Run.ensures
