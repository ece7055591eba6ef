-- A slowed machine follows the machine.
use Rattle.std.proofs.Common.{◌≡◌, ℕ, zero, suc, ◌≤◌, refl, ap₂, sym, append-nil, subst, arith}
use Rattle.op_simulation.specs.System.{System, run, trace, spent}
use Rattle.op_simulation.specs.Matching.{Stretch, Follows, Agreement}
use Rattle.op_simulation.specs.Slowed.{Paused, slowed, at_rest, Rests, Near, Here, Next, in_two_steps, in_four_steps}
use Rattle.op_simulation.proofs.Composition.{compose, joins_equal, joins_through}
use Rattle.op_simulation.proofs.Points.{agreement}

moment_at : {Event : Type 0} (A : System Event) (a : A.State) (j : ℕ) → j ≤ 1 → Near A.step a (run (slowed A) j (at_rest a))
unfolding run
moment_at A a zero le = Here refl
moment_at A a (suc zero) le = Next refl
moment_at A a (suc (suc j)) le = absurd (omega arith)

two_steps : {Event : Type 0} (A : System Event) (a : A.State) → Stretch (in_two_steps A) a (at_rest a)
unfolding run trace spent
two_steps A a =
    record {
      more = 1;
      states = record { same = refl; ready = refl };
      traces = sym (append-nil (A.shows a));
      within = omega arith;
      moments = moment_at A a;
    }

rests_is : {S : Type 0} (s : S) (p : Paused S) → Rests s p → at_rest s ≡ p
rests_is s p rests = ap₂ (λ state pauses. record { state = state; pauses = pauses }) (sym rests.same) (sym rests.ready)

pub slowed_follows : {Event : Type 0} (A : System Event) → Follows (in_two_steps A)
slowed_follows A = record { go = λ a p rests. subst (Stretch (in_two_steps A) a) (rests_is a p rests) (two_steps A a) }

pub slowed_twice : {Event : Type 0} (A : System Event) → Follows (in_four_steps A)
slowed_twice A = compose (in_two_steps A) (in_two_steps (slowed A)) (slowed_follows A) (slowed_follows (slowed A)) joins_equal

pub slowed_runs : {Event : Type 0} (A : System Event) (a : A.State) → Agreement (in_four_steps A) a (at_rest (at_rest a))
slowed_runs A a =
    let upper = in_two_steps A in
    let lower = in_two_steps (slowed A) in
    let joins = joins_through upper.traces lower.traces joins_equal joins_equal in
    agreement (in_four_steps A) (slowed_twice A) joins a (at_rest (at_rest a)) (record { middle = at_rest a; upper = record { same = refl; ready = refl }; lower = record { same = refl; ready = refl } })
