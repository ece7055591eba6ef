-- The head of the entry routine makes the state that low code begins with.
use Rattle.std.proofs.Common.{◌≡◌, ℕ, zero, suc, ◌+◌, ◌-◌, ◌<◌, true, List, [], ◌∷◌, length, get_or, replicate, slice_get, refl, ap, sym, subst, ◌∙◌, arith, inl, inr}
use Rattle.std.proofs.lemmas.Bool.{cases_lt}
use Rattle.std.proofs.lemmas.Bool.Decides.{nat_tests}
use Rattle.std.proofs.lemmas.List.{length-replicate}
use Rattle.std.specs.Cmp.{first_so}
use Rattle.op_simulation.specs.System.{run}
use Rattle.op_simulation.proofs.Composition.{joins_equal}
use Rattle.op_simulation.proofs.Points.{agreement}
use Rattle.op_simulation.proofs.Runs.{run_add}
use Rattle.op_low.specs.Machine.{NeverBad, low_machine, start}
use Rattle.op_low.specs.State.{State as LowState, Ended, routine_or}
use Rattle.op_low.specs.Valid.{is_valid, takes}
use Rattle.op_low.specs.declared.code.Routine.{Routine}
use Rattle.op_low.proofs.ValidRuns.{start_runs}
use Rattle.op_rv.proofs.Memory.{with_bytes-below, with_bytes-within, zeros_get}
use Rattle.op_rv.specs.State.{State}
use Rattle.op_select.specs.Frames.{frame_of}
use Rattle.op_select.specs.Going.{Setting, IsSetting, homes_in, routine_in, frame_in, placement_of, Holds, Below, Stays}
use Rattle.op_select.specs.RiscvMachine.{riscv_machine}
use Rattle.op_select.specs.Selected.{Finished, MatchesBy, Matches, selected}
use Rattle.op_select.specs.Starting.{start_in, Starts, Begins, EndsAlike}
use Rattle.op_select.proofs.ClearLemmas.{stored}
use Rattle.op_select.proofs.EnterLemmas.{Heads, heads}
use Rattle.op_select.proofs.Following.{selected_follows}
use Rattle.op_select.proofs.FrameLemmas.{sizes}
use Rattle.op_select.proofs.HeadLemmas.{Comes}
use Rattle.op_select.proofs.TransferLemmas.{block_stands}

record Entry (routines : List Routine) (r : ℕ) : Type 0 where
  exists : r < length routines
  plain : (routine_or (slice_get routines r)).parameters ≡ 0

entry_of : (routines : List Routine) (r : ℕ) → takes (slice_get routines r) 0 ≡ true → Entry routines r
entry_of [] r is = absurd cc
entry_of (x ∷ xs) zero is = record { exists = omega arith; plain = grind (arith, nat_tests) }
entry_of (x ∷ xs) (suc r) is =
    let more = entry_of xs r is in
    let exists = more.exists in
    record { exists = omega arith; plain = more.plain }

module _ (w : Setting) (law : IsSetting w) where
  entry_is : Entry w.low.routines w.low.entry.0
  unfolding is_valid
  entry_is = entry_of w.low.routines w.low.entry.0 (first_so (takes (slice_get w.low.routines w.low.entry.0) 0) _ law.valid)

  start_stays : (memory : ℕ → ℕ) (input : List ℕ) (b : State) → Starts w memory input b → (h : Heads w b w.low.entry.0 w.top w.bottom (get_or b.registers 1 0) (λ v. 0)) → Stays w (start_in w memory input) (stored b h.registers (w.placing.block w.low.entry.0 0) h.memory)
  unfolding start Below frame_of
  start_stays memory input b s h =
      let r = w.low.entry.0 in
      let routine = routine_in w r in
      let size = sizes w.low r law.valid in
      let locals = routine.locals in
      let locals_whole = size.locals_aligned in
      let frame = frame_in w r in
      let room = s.room in
      let bottom_whole = s.bottom_aligned in
      let top_whole = s.top_aligned in
      let none = entry_is.plain in
      let sp_is : w.top - frame ≡ w.bottom + locals + (w.top - w.bottom - (locals + frame)) = omega arith in
      let new = homes_in (stored b h.registers (w.placing.block r 0) h.memory) in
      let held_ : Holds h.memory new (w.top - frame) routine (λ v. 0) = λ v within. (h.begun v within, omega arith) in
      record {
        sound = h.sound;
        memory = λ x lower.
            elim (cases_lt x w.bottom) [
              | inl old ↦ h.low x old ∙ s.memory_below x old ∙ sym (with_bytes-below memory w.bottom (replicate locals 0) x old)
              | inr new ↦
                  let long : length (replicate locals 0) ≡ locals = length-replicate {A = ℕ} locals 0 in
                  h.locals x (omega arith) lower ∙ sym (with_bytes-within memory w.bottom (replicate locals 0) x (omega arith) (omega arith) ∙ zeros_get locals (x - w.bottom))
            ];
        input = s.input_is;
        input_bytes = s.input_bytes;
        output = s.output;
        errors = s.errors;
        limit = h.limit_is;
        sp = h.sp_is ∙ sp_is;
        limit_aligned = omega arith;
        sp_aligned = omega arith;
        holds = subst (λ n. Holds h.memory new n routine (λ v. 0)) sp_is held_;
        below = (refl, omega arith);
      }

  pub begins : (memory : ℕ → ℕ) (input : List ℕ) (b : State) → Starts w memory input b → Begins w memory input b
  unfolding start
  begins memory input b s =
      let r = w.low.entry.0 in
      let room = s.room in
      let none = entry_is.plain in
      let comes : Comes b (routine_in w r) w.top (λ v. 0) = record {
        early = λ v given soon. absurd (omega arith);
        late = λ v given late. absurd (omega arith);
        fresh = λ v over. refl;
        words = λ v. omega arith;
      } in
      let h = heads w law b r w.top w.bottom (get_or b.registers 1 0) (λ v. 0) s.sound entry_is.exists s.pc s.sp s.limit refl s.word s.top_aligned s.bottom_aligned (omega arith) (omega arith) (omega arith) comes in
      let c = stored b h.registers (w.placing.block r 0) h.memory in
      record {
        after = c;
        steps = h.walk.steps;
        within = h.walk.to;
        path = h.walk.path;
        matches = λ good.
            record {
              valid = start_runs w.low (placement_of w) law.valid w.bottom (w.top - w.bottom) memory input;
              good = good;
              states = record { stays = start_stays memory input b s h; ready = block_stands w r 0 law };
            };
      }

  -- ---- whole runs

  finished_at : (status : ℕ) (m : LowState) (b : State) → m.ending ≡ Ended status → Matches w m b → Finished status m b
  finished_at status m b ended matches = subst (λ e. MatchesBy w e m b) ended matches.states

  pub ends_alike : (memory : ℕ → ℕ) (input : List ℕ) (b : State) → Starts w memory input b → NeverBad w.low (placement_of w) (start_in w memory input) → (n status : ℕ) → (run (low_machine w.low (placement_of w)) n (start_in w memory input)).ending ≡ Ended status → EndsAlike status (run (low_machine w.low (placement_of w)) n (start_in w memory input)) b
  ends_alike memory input b s good n status ended =
      let m = start_in w memory input in
      let first = begins memory input b s in
      let runs = agreement (selected w) (selected_follows w law) joins_equal m first.after (first.matches good) in
      let low = run (low_machine w.low (placement_of w)) n m in
      let there : run riscv_machine (runs.point n) first.after ≡ run riscv_machine (first.steps + runs.point n) b = ap (run riscv_machine (runs.point n)) (sym first.path.ends) ∙ sym (run_add riscv_machine first.steps (runs.point n) b) in
      record {
        steps = first.steps + runs.point n;
        finished = subst (Finished status low) there (finished_at status low (run riscv_machine (runs.point n) first.after) ended (runs.states n));
      }
