use Rattle.std.proofs.Common.{ℕ, ◌+◌, length, sym, ap, ◌∙◌, subst}
use Rattle.std.proofs.lemmas.List.{length_push}
use Rattle.std.specs.Prelude.{slice_get}
use Rattle.op_lower.proofs.ProgramLemmas.{routines_more}
use Rattle.op_lower.specs.Lowers.{IsRoutine}
use Rattle.op_lower.proofs.program.routines.Goals as goal

pub loop-number-preserved : goal.loop-number-preserved
loop-number-preserved c =
    let at : ℕ → Type 0 = λ k. IsRoutine c.args.core.now k c.in_ok-routine.field-0 in
    record {
      count = ap length c.in_ok-push.ensures.items ∙ length_push c.loop-number.routines.items c.in_ok-routine.field-0 ∙ ap (λ n. n + 1) c.loop-number.invariant.count;
      each = routines_more c.args.core.now c.loop-number.routines.items c.push.new.self.items c.in_ok-routine.field-0 c.in_ok-push.ensures.items c.loop-number.invariant.each (subst at (c.in_ok-number.ensures ∙ sym c.loop-number.invariant.count) c.in_ok-routine.ensures);
    }

pub returns-clause-each : goal.returns-clause-each
returns-clause-each c = λ r routine h. c.loop-number.invariant.each r routine (ap (λ xs. slice_get xs r) (sym c.from.ensures) ∙ h)
