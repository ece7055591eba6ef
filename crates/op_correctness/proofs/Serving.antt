-- A program that makes no names asks nothing of its heap: the heap beside it stays as it begins, and each step is served.
use Rattle.std.proofs.Common.{◌≡◌, ℕ, zero, suc, Bool, false, not, ◌&&◌, if◌then◌else◌, nat_eq, nat_lt, List, [], ◌∷◌, ◌++◌, map, refl, sym, ap, ap₂, ◌∙◌, subst}
use Rattle.std.specs.List.{list_any}
use Rattle.op_heap.specs.Demands.{first_heap}
use Rattle.op_meaning.specs.Demands.{block_of, demand, is_standing, let_go, nothing, standing}
use Rattle.op_meaning.specs.Frames.{Program, State}
use Rattle.op_meaning.specs.Holding.{each}
use Rattle.op_meaning.specs.Machine.{step}
use Rattle.op_meaning.specs.Source.{source}
use Rattle.op_meaning.specs.Start.{start}
use Rattle.op_meaning.specs.World.{Object, World, gone}
use Rattle.op_simulation.proofs.Runs.{run_last}
use Rattle.op_simulation.specs.Beside.{Both, come, next_both, step_both}
use Rattle.op_simulation.specs.System.{run}
use Rattle.op_correctness.proofs.Nameless.{IsNameless}
use Rattle.op_correctness.specs.Agrees.{source_run}
use Rattle.op_correctness.specs.Heaped.{Give, asking, heap_fold, heaped, heaped_run, heaped_start, wanted, wants}

each_none : (f : ℕ → List ℕ) → ((k : ℕ) → f k ≡ []) → (n : ℕ) → each n f ≡ []
unfolding each
each_none f none zero = refl
each_none f none (suc n) = ap₂ (λ a b. a ++ b) (each_none f none n) (none n)

-- nothing stands, so no name is listed, whatever else is asked of it
none_stands : (w : World) → IsNameless w → (n k : ℕ) (more : Bool) → (if is_standing (w.objects n) && more then k ∷ [] else []) ≡ []
none_stands w (next, objects, made) n k more = ap (λ (o : Object). if is_standing o && more then k ∷ [] else []) (objects n)

pub stand_none : (s : State) → IsNameless s.world → standing s ≡ []
stand_none s (next, objects, made) = each_none (λ n. if is_standing (s.world.objects n) then n ∷ [] else []) (λ n. ap (λ (o : Object). if is_standing o then n ∷ [] else []) (objects n)) s.world.next

module _ (p : Program) (input : List ℕ) (nameless : (n : ℕ) → IsNameless (source_run p input n).world) where
  next_is : (n : ℕ) → step p (source_run p input n) ≡ source_run p input (suc n)
  next_is n = sym (run_last (source p) n (start p input))

  nameless_next : (n : ℕ) → IsNameless (step p (source_run p input n)).world
  nameless_next n = subst (λ (s : State). IsNameless s.world) (sym (next_is n)) (nameless (suc n))

  asks_nothing : (n : ℕ) → demand p (source_run p input n) ≡ nothing
  asks_nothing n = by (nameless n) (nameless_next n)
    where
      by : IsNameless (source_run p input n).world → IsNameless (step p (source_run p input n)).world → demand p (source_run p input n) ≡ nothing
      by (here, objects, made) (there, more, others) =
          let test : nat_lt (source_run p input n).world.next (step p (source_run p input n)).world.next ≡ false = ap₂ nat_lt here there in
          ap (λ b. if b then block_of p.core ((step p (source_run p input n)).world.objects (source_run p input n).world.next) else nothing) test

  lets_go_none : (n : ℕ) → let_go p (source_run p input n) ≡ []
  lets_go_none n =
      let s = source_run p input n in
      each_none (λ k. if is_standing (s.world.objects k) && not (is_standing ((step p s).world.objects k)) then k ∷ [] else []) (λ k. none_stands s.world (nameless n) k k (not (is_standing ((step p s).world.objects k)))) s.world.next

  wants_none : (n : ℕ) → wants p (source_run p input n) ≡ []
  wants_none n = ap₂ (λ d names. wanted (source_run p input n).world.next d ++ map (λ name. Give name) names) (asks_nothing n) (lets_go_none n)

  module _ (bytes : ℕ) where
    abbrev beside : State → Both (asking p) heap_fold
    beside s = record { machine = s; beside = first_heap bytes; stopped = false }

    step_is : (n : ℕ) → (heaped p).step (beside (source_run p input n)) ≡ beside (source_run p input (suc n))
    step_is n = ap (λ es. next_both (source_run p input n) (come heap_fold (first_heap bytes) es)) (wants_none n) ∙ ap beside (next_is n)

    pub heaped_is : (n : ℕ) → heaped_run p bytes input n ≡ beside (source_run p input n)
    unfolding run
    heaped_is zero = refl
    heaped_is (suc n) = run_last (heaped p) n (heaped_start p bytes input) ∙ ap (heaped p).step (heaped_is n) ∙ step_is n

    pub serves : (n : ℕ) → (heaped_run p bytes input n).stopped ≡ false
    serves n = ap (λ b. b.stopped) (heaped_is n)
