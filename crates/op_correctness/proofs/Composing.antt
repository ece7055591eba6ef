-- The agreements of the passes, one after the other.
use Rattle.std.proofs.Common.{◌≡◌, ◌≢◌, ◌≤◌, ◌<◌, ℕ, zero, suc, ◌+◌, ◌-◌, false, true, List, [], refl, sym, ap, ap₂, ◌∙◌, subst, arith, inl, inr, ◌⊎◌, le_trans, mul-le-mul_right, ◌*◌}
use Rattle.std.specs.List.{list_any}
use Rattle.std.specs.Prelude.{IsTrue}
use Rattle.std.proofs.lemmas.Bool.{cases_lt}
use Rattle.op_core.specs.declared.program.Core.{Core}
use Rattle.op_heap.specs.Heap.{Heap}
use Rattle.op_image.specs.Means.{AreBytes, HeapStands, LeavesHeap, Runs, image_run, low_start, start_steps}
use Rattle.op_link.specs.Memory.{heap_size}
use Rattle.op_link.specs.declared.memory_map.Settings.{Settings}
use Rattle.op_low.specs.Machine.{NeverBad, low_machine, cost}
use Rattle.op_low.specs.State.{State as LowState, Ending as LowEnding, Running as LowRunning, Ended as LowEnded, Bad, space}
use Rattle.op_low.specs.declared.code.Low.{Low}
use Rattle.op_managed.specs.Managed.{Manages, goes_along}
use Rattle.op_meaning.specs.Frames.{State as SourceState, program_of}
use Rattle.op_meaning.specs.Source.{LooksAtInput, is_of_input, source}
use Rattle.op_meaning.specs.Start.{start}
use Rattle.op_meaning.specs.World.{Ending, Running, Ended, World}
use Rattle.op_mir.specs.Code.{blocks_in}
use Rattle.op_mir.specs.Machine.{MirState, mir_machine, mir_start, mir_cost}
use Rattle.op_mir.specs.Plain.{IsPlain}
use Rattle.op_mir.specs.View.{view_of}
use Rattle.op_mir.specs.declared.code.Mir.{Mir}
use Rattle.op_typing.specs.Typed.{AreTypedBlocks}
use Rattle.op_optimize.specs.Shortening.{Passed, Shortens}
use Rattle.op_rv.specs.State.{State as ImageState, Running as GoesOn, Ended as HasEnded}
use Rattle.op_rv.specs.Step.{CallsRead}
use Rattle.op_select.specs.Going.{IsSafe, Setting as Placed, placement_of}
use Rattle.op_select.specs.RiscvMachine.{riscv_machine}
use Rattle.op_select.specs.Selected.{Matches, MatchesBy, selected}
use Rattle.op_simulation.proofs.Points.{point_passes}
use Rattle.op_simulation.proofs.Composition.{joins_equal}
use Rattle.op_simulation.proofs.Runs.{run_add, run_last, run_past_end, spent_add}
use Rattle.op_simulation.specs.Matching.{Agreement, Follows}
use Rattle.op_simulation.specs.System.{System, run, Halted, spent, trace}
use Rattle.op_agreement.proofs.Following.{EndsAs, agrees, same_states, trace_counted}
use Rattle.op_agreement.proofs.Going.{run_counted}
use Rattle.op_agreement.proofs.Starting.{starts}
use Rattle.op_agreement.specs.Claims.{lowered}
use Rattle.op_agreement.specs.Fitting.{IsFitting}
use Rattle.op_agreement.specs.Settings.{Setting, managed}
use Rattle.op_agreement.specs.Stands.{Stands}
use Rattle.op_agreement.specs.Starting.{IsLoaded, Starts, low_begins}
use Rattle.op_agreement.proofs.Streams.{joins_bytes}
use Rattle.op_agreement.specs.Steps.{cost_going, counted, is_read, most_for_one}
use Rattle.op_link.specs.Image.{start as image_begin}
use Rattle.op_meaning.specs.Costs.{cost as cost_above}
use Rattle.op_correctness.proofs.Good.{low_is_good, run_none}
use Rattle.op_correctness.proofs.HeapHeld.{held_still}
use Rattle.op_correctness.proofs.Nameless.{IsNameless, nameless_run}
use Rattle.op_correctness.proofs.Serving.{heaped_is, serves}
use Rattle.op_correctness.proofs.Settling.{counted_steps, counts_less, counts_nothing, going, one_or_none, settles, settling, stays, while_running}
use Rattle.op_correctness.proofs.Showing.{among, call_is_shown}
use Rattle.op_correctness.proofs.Shortened.{Less, better_is_good, costs_less, improved, points_rise}
use Rattle.op_correctness.proofs.Spending.{Between, EachCosts, between, same_run}
use Rattle.op_correctness.specs.Agrees.{EndsAlike, EndsShort, GoesAlong, LooksAlike, source_run, most_for_work, most_steps_at}
use Rattle.op_correctness.specs.Heaped.{Held, IsServed, IsShort, heap_after}
use Rattle.op_correctness.specs.Placed.{setting_by}

-- ---- two states, by way of those between

abbrev EndsWith : LowEnding → ImageState → Type 0
EndsWith LowRunning b = b.ending ≡ GoesOn
EndsWith (LowEnded status) b = b.ending ≡ HasEnded status
EndsWith Bad b = ⊥

-- low code and the image look alike at their points
record Seen (l : LowState) (b : ImageState) : Type 0 where
  output : b.output ≡ l.output
  errors : b.errors ≡ l.errors
  input : b.input ≡ l.input
  ending : EndsWith l.ending b

module _ (w : Placed) where
  seen_by : (e : LowEnding) (l : LowState) (b : ImageState) → l.ending ≡ e → MatchesBy w e l b → Seen l b
  seen_by LowRunning l b is m = record { output = m.stays.output; errors = m.stays.errors; input = m.stays.input; ending = subst (λ e. EndsWith e b) (sym is) m.stays.sound.running }
  seen_by (LowEnded status) l b is m = record { output = m.output; errors = m.errors; input = m.input; ending = subst (λ e. EndsWith e b) (sym is) m.ending }
  seen_by Bad l b is m = absurd m

  seen : (l : LowState) (b : ImageState) → Matches w l b → Seen l b
  seen l b m = seen_by l.ending l b refl m.states

-- the same ending three times
ends_through : (e : Ending) (l : LowState) (b : ImageState) → EndsAs e l.ending → EndsWith l.ending b → EndsAlike e b.ending
ends_through Running l b is with_b = subst (λ x. EndsWith x b) is with_b
ends_through (Ended status) l b is with_b = subst (λ x. EndsWith x b) is with_b

-- what never falls with a step falls with none
rises_on : (f : ℕ → ℕ) → ((n : ℕ) → f n ≤ f (suc n)) → (n k : ℕ) → f n ≤ f (n + k)
rises_on f rises n zero = let e : n + 0 ≡ n = omega arith in let same = ap f e in omega arith
rises_on f rises n (suc k) =
    let e : n + suc k ≡ suc (n + k) = omega arith in
    let same = ap f e in
    let before = rises_on f rises n k in
    let next = rises (n + k) in
    omega arith

-- ---- the whole run

module _ (core : Core) (mir : Mir) (stack : ℕ) (low : Low) (w : Placed) (memory : ℕ → ℕ) (image : List ℕ) where
  abbrev g : Setting
  g = setting_by core mir stack low w memory

  module _ (does : (input : List ℕ) → AreBytes input → NeverBad w.low (placement_of w) (low_start w memory input) → Runs w memory image input) (shorter : (input : List ℕ) → NeverBad low (placement_of w) (low_begins (setting_by core mir stack low w memory) input) → Shortens low w.low (placement_of w) (low_begins (setting_by core mir stack low w memory) input) (low_start w memory input)) (fit : IsFitting (setting_by core mir stack low w memory)) (loaded : IsLoaded (setting_by core mir stack low w memory)) (follows : Follows (lowered (setting_by core mir stack low w memory))) (manages : Manages core mir) (plain : IsPlain (program_of core stack)) (typed : (r : ℕ) → AreTypedBlocks core r (blocks_in (program_of core stack) r)) (coded : (r : ℕ) → (view_of core stack mir).blocks r ≡ blocks_in (program_of core stack) r) (own : space w.low (placement_of w) w.low.entry.0 ≤ 1024) (settings : Settings) (stands : HeapStands w memory settings image) (input : List ℕ) (bytes : AreBytes input) (left : LeavesHeap settings memory image input) where
    abbrev begin : MirState
    begin = mir_start (program_of core stack) input

    started : Starts g input
    started = starts g fit loaded input

    abbrev upper : Agreement (goes_along (program_of core stack) (managed g)) (start (program_of core stack) input) begin
    upper = manages stack plain input

    middle : Agreement (lowered g) begin started.to
    middle = agrees g follows begin started.to started.stands

    abbrev low_first : LowState
    low_first = low_begins g input

    abbrev low_at : ℕ → LowState
    low_at n = run (low_machine g.low g.placement) n low_first

    there : low_at started.goes.steps ≡ started.to
    there = started.goes.ends

    good : NeverBad g.low g.placement low_first
    good = low_is_good g fit loaded follows input

    -- ---- what the optimizer makes of it

    abbrev better_first : LowState
    better_first = low_start w memory input

    abbrev better_at : ℕ → LowState
    better_at n = run (low_machine w.low (placement_of w)) n better_first

    short : Shortens g.low w.low g.placement low_first better_first
    short = shorter input good

    abbrev better_g : Setting
    better_g = improved g w.low low_first better_first short

    -- ---- the image

    runs : Runs w memory image input
    runs = does input bytes (better_is_good g w.low low_first better_first short good)

    abbrev lower : Agreement (selected w) better_first runs.along.first
    lower = runs.along.agreement

    -- the points of low code and of better low code, and a number of steps that leads to that of the image
    abbrev low_point : ℕ → ℕ
    low_point n = started.goes.steps + middle.point (upper.point n)

    abbrev better_point : ℕ → ℕ
    better_point n = short.point (low_point n)

    abbrev far : ℕ → ℕ
    far n = runs.along.steps + lower.point (better_point n)

    low_is : (n : ℕ) → low_at (low_point n) ≡ run (counted g) (middle.point (upper.point n)) started.to
    low_is n = run_add (low_machine g.low g.placement) started.goes.steps (middle.point (upper.point n)) low_first ∙ ap (run (low_machine g.low g.placement) (middle.point (upper.point n))) there ∙ sym (run_counted g (middle.point (upper.point n)) started.to)

    image_is : (n : ℕ) → image_run image input (far n) ≡ run riscv_machine (lower.point (better_point n)) runs.along.first
    image_is n = run_add riscv_machine runs.along.steps (lower.point (better_point n)) _ ∙ ap (run riscv_machine (lower.point (better_point n))) runs.along.path.ends

    far_alike : (n : ℕ) → LooksAlike (source_run (program_of core stack) input n) (image_run image input (far n))
    far_alike n =
        let s = source_run (program_of core stack) input n in
        let m = run (mir_machine (managed g)) (upper.point n) begin in
        let l = low_at (low_point n) in
        let c = better_at (better_point n) in
        let b = run riscv_machine (lower.point (better_point n)) runs.along.first in
        let goes = upper.states n in
        let world : m.world ≡ s.world = ap (λ (x : MirState). x.world) goes.same in
        let same = same_states g m l (subst (Stands g m) (sym (low_is n)) (middle.states (upper.point n)).1) in
        let looks = short.alike (low_point n) in
        let saw = seen w c b (lower.states (better_point n)) in
        subst (LooksAlike s) (sym (image_is n)) (record {
          output = saw.output ∙ looks.output ∙ same.output ∙ ap (λ (x : World). x.output) world;
          errors = saw.errors ∙ looks.errors ∙ same.errors ∙ ap (λ (x : World). x.errors) world;
          input = saw.input ∙ looks.input ∙ same.input ∙ ap (λ (x : World). x.input) world;
          ending = subst (λ (x : World). EndsAlike x.ending b.ending) world (ends_through m.world.ending l b same.ending (subst (λ e. EndsWith e b) looks.ending saw.ending));
        })

    -- ---- what the steps between two points cost

    -- each stretch of the image is counted until it ends, as that of better low code is
    image_costs : EachCosts (selected w) better_first runs.along.first lower (λ l. cost_going better_g l l.ending) going (selected w).factor
    image_costs n = by l.ending refl (lower.states n)
      where
        l : LowState
        l = better_at n

        b : ImageState
        b = run riscv_machine (lower.point n) runs.along.first

        more : ℕ
        more = suc (lower.stretch n).more

        by : (e : LowEnding) → l.ending ≡ e → Matches w l b → spent settling more b ≤ (selected w).factor * cost_going better_g l l.ending
        by LowRunning is stands =
            let within = (lower.stretch n).within in
            let less = counts_less more b in
            let same : cost_going better_g l l.ending ≡ cost w.low (placement_of w) l.ending l = ap (cost_going better_g l) is ∙ sym (ap (λ e. cost w.low (placement_of w) e l) is) in
            subst (λ c. spent settling more b ≤ (selected w).factor * c) (sym same) (le_trans less within)
        by (LowEnded status) is stands =
            let saw = seen_by w (LowEnded status) l b is (subst (λ e. MatchesBy w e l b) is stands.states) in
            let ended : b.ending ≡ HasEnded status = subst (λ e. EndsWith e b) is saw.ending in
            let none = counts_nothing more b (ap while_running ended) in
            omega arith
        by Bad is stands = absurd (subst (λ e. MatchesBy w e l b) is stands.states)

    module _ (n : ℕ) where
      abbrev s_here : SourceState
      s_here = source_run (program_of core stack) input n

      abbrev managed_more : ℕ
      managed_more = suc (upper.stretch n).more

      middle_between : Between (lowered g) begin started.to middle (mir_cost (managed g)) (λ l. cost_going g l l.ending) most_for_one (upper.point n) managed_more
      middle_between = between (lowered g) joins_bytes begin started.to middle (mir_cost (managed g)) (λ l. cost_going g l l.ending) most_for_one (λ k. (middle.stretch k).within) (upper.point n) managed_more

      better_between : Less g w.low low_first better_first short (low_point n) middle_between.more
      better_between = costs_less g w.low low_first better_first short (low_point n) middle_between.more

      lower_between : Between (selected w) better_first runs.along.first lower (λ l. cost_going better_g l l.ending) going (selected w).factor (better_point n) better_between.more
      lower_between = between (selected w) joins_equal better_first runs.along.first lower (λ l. cost_going better_g l l.ending) going (selected w).factor image_costs (better_point n) better_between.more

      -- the next point is so far
      far_next : far (suc n) ≡ far n + lower_between.more
      far_next =
          let first = upper.next n in
          let points : upper.point (suc n) ≡ upper.point n + managed_more = omega arith in
          let middles = middle_between.at in
          let next : low_point (suc n) ≡ low_point n + middle_between.more = ap (λ k. started.goes.steps + middle.point k) points ∙ sum started.goes.steps (middle.point (upper.point n + managed_more)) (middle.point (upper.point n)) middle_between.more middles in
          let better : better_point (suc n) ≡ better_point n + better_between.more = ap short.point next ∙ better_between.at in
          let lowers_at = lower_between.at in
          let lasts = ap lower.point better in
          omega arith
        where
          sum : (a b c d : ℕ) → b ≡ c + d → a + b ≡ a + c + d
          sum a b c d e = omega arith

      -- and costs so much
      abbrev image_cost : ℕ
      image_cost = spent settling lower_between.more (image_run image input (far n))

      image_within : image_cost ≤ most_for_work * cost_above (program_of core stack) s_here
      image_within =
          let l = run (low_machine g.low g.placement) (low_point n) low_first in
          let first : spent (mir_machine (managed g)) managed_more (run (mir_machine (managed g)) (upper.point n) begin) ≤ 4 * cost_above (program_of core stack) s_here = (upper.stretch n).within in
          let second = middle_between.within in
          let same : spent (counted g) middle_between.more l ≡ spent (counted g) middle_between.more (run (counted g) (middle.point (upper.point n)) started.to) = ap (spent (counted g) middle_between.more) (low_is n) in
          let fewer = better_between.within in
          let third : image_cost ≤ (selected w).factor * spent (counted better_g) better_between.more (better_at (better_point n)) = subst (λ b. spent settling lower_between.more b ≤ (selected w).factor * spent (counted better_g) better_between.more (better_at (better_point n))) (sym (image_is n)) lower_between.within in
          let fast : (selected w).factor ≤ 32 = omega arith in
          let scaled = mul-le-mul_right (spent (counted better_g) better_between.more (better_at (better_point n))) fast in
          omega arith

    -- ---- they never fall, and pass every step of the image

    far_rises : (n : ℕ) → far n ≤ far (suc n)
    far_rises n = let next = far_next n in omega arith

    far_passes : (m : ℕ) → Passed far m
    far_passes m =
        let passed = short.passes m in
        let n = passed.steps in
        let one = point_passes (goes_along (program_of core stack) (managed g)) (start (program_of core stack) input) begin upper n in
        let two = point_passes (lowered g) begin started.to middle (upper.point n) in
        let less : n ≤ low_point n = omega arith in
        let three = points_rise g w.low low_first better_first short n (low_point n - n) in
        let e : n + (low_point n - n) ≡ low_point n = omega arith in
        let at = ap short.point e in
        let four = point_passes (selected w) better_first runs.along.first lower (better_point n) in
        let last = passed.passed in
        record { steps = n; passed = omega arith }

    -- ---- the points: the steps until the image has ended, and one for each step of the program behind its end

    abbrev settled : ℕ → ℕ
    settled n = counted_steps (image_begin image input) (far n)

    abbrev idle : ImageState → ℕ
    idle b = 1 - going b

    idles : ℕ → ℕ
    idles zero = 0
    idles (suc n) = idles n + idle (image_run image input (far n))

    abbrev point : ℕ → ℕ
    point n = settled n + idles n

    -- a point further on
    next_settled : (n : ℕ) → settled (suc n) ≡ settled n + image_cost n
    next_settled n =
        ap (counted_steps (image_begin image input)) (far_next n) ∙ spent_add settling (far n) (lower_between n).more (image_begin image input)
        ∙ ap (λ b. settled n + spent settling (lower_between n).more b) (same_run riscv_machine going (far n) (image_begin image input))

    next_idles : (n : ℕ) → idles (suc n) ≡ idles n + idle (image_run image input (far n))
    unfolding idles
    next_idles n = refl

    rises : (n : ℕ) → point n ≤ point (suc n)
    rises n = let next = next_settled n in let idle_next = next_idles n in omega arith

    -- where the image has ended each step of the program counts
    idle_on : (n : ℕ) → going (image_run image input (far n)) ≡ 0 → (k : ℕ) → k ≤ idles (n + k)
    idle_on n none zero = omega arith
    idle_on n none (suc k) =
        let before = idle_on n none k in
        let risen = rises_on far far_rises n k in
        let stayed = run_past_end riscv_machine (far n) (far (n + k)) (image_begin image input) (stays (image_run image input (far n)) none) risen in
        let same = ap going stayed in
        let next = next_idles (n + k) in
        let e : n + suc k ≡ suc (n + k) = omega arith in
        let at = ap idles e in
        omega arith

    passes : (m : ℕ) → Passed point m
    passes m = by (going (image_run image input (far n))) refl
      where
        n : ℕ
        n = (far_passes m).steps

        by : (k : ℕ) → going (image_run image input (far n)) ≡ k → Passed point m
        by zero none = let idle_steps = idle_on n none m in record { steps = n + m; passed = omega arith }
        by (suc k) some =
            let few = one_or_none (image_run image input (far n)).ending in
            let all = (settles (image_begin image input) (far n)).all (omega arith) in
            let passed = (far_passes m).passed in
            record { steps = n; passed = omega arith }

    -- where the image goes on there was no idle step
    no_idles : (n : ℕ) → going (image_run image input (far n)) ≡ 1 → idles n ≡ 0
    unfolding idles
    no_idles zero goes = refl
    no_idles (suc n) goes = by (going (image_run image input (far n))) refl (no_idles n)
      where
        by : (k : ℕ) → going (image_run image input (far n)) ≡ k → (going (image_run image input (far n)) ≡ 1 → idles n ≡ 0) → idles (suc n) ≡ 0
        by zero none before =
            let risen = far_rises n in
            let stayed = run_past_end riscv_machine (far n) (far (suc n)) (image_begin image input) (stays (image_run image input (far n)) none) (omega arith) in
            let same = ap going stayed in
            absurd (omega arith)
        by (suc k) some before =
            let few = one_or_none (image_run image input (far n)).ending in
            let one : going (image_run image input (far n)) ≡ 1 = omega arith in
            let none = before one in
            let next = next_idles n in
            omega arith

    -- the point is a state as the image had far on
    point_is : (n : ℕ) → image_run image input (point n) ≡ image_run image input (far n)
    point_is n = by (going (image_run image input (far n))) refl
      where
        settled_is : image_run image input (settled n) ≡ image_run image input (far n)
        settled_is = (settles (image_begin image input) (far n)).same

        by : (k : ℕ) → going (image_run image input (far n)) ≡ k → image_run image input (point n) ≡ image_run image input (far n)
        by zero none = run_past_end riscv_machine (settled n) (point n) (image_begin image input) (subst (Halted riscv_machine) (sym settled_is) (stays (image_run image input (far n)) none)) (omega arith) ∙ settled_is
        by (suc k) some =
            let few = one_or_none (image_run image input (far n)).ending in
            let none = no_idles n (omega arith) in
            let same : settled n + idles n ≡ settled n = omega arith in
            ap (image_run image input) same ∙ settled_is

    alike : (n : ℕ) → LooksAlike (source_run (program_of core stack) input n) (image_run image input (point n))
    alike n = subst (LooksAlike (source_run (program_of core stack) input n)) (sym (point_is n)) (far_alike n)

    soon : (n : ℕ) → (source_run (program_of core stack) input n).world.ending ≡ Running → point (suc n) ≤ point n + most_for_work * cost_above (program_of core stack) (source_run (program_of core stack) input n)
    soon n goes_on =
        let next = next_settled n in
        let idle_next = next_idles n in
        let within = image_within n in
        let running : (image_run image input (far n)).ending ≡ GoesOn = subst (λ e. EndsAlike e (image_run image input (far n)).ending) goes_on (far_alike n).ending in
        let going_on : going (image_run image input (far n)) ≡ 1 = ap while_running running in
        omega arith

    -- the first steps of the image, and those of the program's own beginning
    first : point 0 ≤ most_for_work
    unfolding Rattle.op_select.specs.Frames.frame_of idles
    first =
        let few = runs.along.within in
        let better_between = costs_less g w.low low_first better_first short 0 started.goes.steps in
        let low_between = between (selected w) joins_equal better_first runs.along.first lower (λ l. cost_going better_g l l.ending) going (selected w).factor image_costs 0 better_between.more in
        let start_low = started.goes.within in
        let begins = upper.first in
        let begins_middle = middle.first in
        let begins_better = short.first in
        let begins_lower = lower.first in
        let where_low : low_point 0 ≡ 0 + started.goes.steps = ap (λ k. started.goes.steps + middle.point k) begins ∙ plus_none started.goes.steps (middle.point 0) begins_middle in
        let where_better : better_point 0 ≡ 0 + better_between.more = ap short.point where_low ∙ better_between.at ∙ ap (λ k. k + better_between.more) begins_better in
        let lower_at = low_between.at in
        let point_low : lower.point (better_point 0) ≡ low_between.more = ap lower.point where_better ∙ lower_at ∙ only low_between.more (lower.point 0) begins_lower in
        let total : settled 0 ≡ spent settling runs.along.steps (image_begin image input) + spent settling low_between.more runs.along.first =
        ap (λ k. counted_steps (image_begin image input) (runs.along.steps + k)) point_low ∙ spent_add settling runs.along.steps low_between.more (image_begin image input)
        ∙ ap (λ b. counted_steps (image_begin image input) runs.along.steps + spent settling low_between.more b) (same_run riscv_machine going runs.along.steps (image_begin image input) ∙ runs.along.path.ends) in
        let begin_few = (settles (image_begin image input) runs.along.steps).few in
        let none : idles 0 ≡ 0 = refl in
        let within : spent settling low_between.more runs.along.first ≤ (selected w).factor * spent (counted better_g) better_between.more better_first =
        subst (λ b. spent settling low_between.more b ≤ (selected w).factor * spent (counted better_g) better_between.more better_first) (run_at_none (lower.point 0) runs.along.first begins_lower)
        (subst (λ l. spent settling low_between.more (run riscv_machine (lower.point 0) runs.along.first) ≤ (selected w).factor * spent (counted better_g) better_between.more l) (run_none (low_machine w.low (placement_of w)) better_first) low_between.within) in
        let fewer : spent (counted better_g) better_between.more better_first ≤ spent (counted g) started.goes.steps low_first =
        subst (λ l. spent (counted better_g) better_between.more better_first ≤ spent (counted g) started.goes.steps l) (run_none (low_machine g.low g.placement) low_first)
        (subst (λ l. spent (counted better_g) better_between.more l ≤ spent (counted g) started.goes.steps (low_at 0)) (low_at_none (short.point 0) better_first begins_better) better_between.within) in
        let fast : (selected w).factor ≤ 32 = omega arith in
        let scaled = mul-le-mul_right (spent (counted better_g) better_between.more better_first) fast in
        let most = own in
        omega arith
      where
        plus_none : (a b : ℕ) → b ≡ 0 → a + b ≡ 0 + a
        plus_none a b e = omega arith

        only : (a b : ℕ) → b ≡ 0 → b + a ≡ a
        only a b e = omega arith

        low_at_none : (k : ℕ) (l : LowState) → k ≡ 0 → run (low_machine w.low (placement_of w)) k l ≡ l
        low_at_none k l e = ap (λ k. run (low_machine w.low (placement_of w)) k l) e ∙ run_none (low_machine w.low (placement_of w)) l

        run_at_none : (k : ℕ) (b : ImageState) → k ≡ 0 → run riscv_machine k b ≡ b
        run_at_none k b e = ap (λ k. run riscv_machine k b) e ∙ run_none riscv_machine b

    -- ---- where the image calls for input

    -- a call for input, as what is shown behind the first steps
    shown_at : (from m : ℕ) (b : ImageState) → image_run image input from ≡ b → from ≤ m → CallsRead (image_run image input m) → IsTrue (list_any is_read (riscv_machine.shows (run riscv_machine (m - from) b)))
    unfolding Rattle.op_simulation.specs.System.run
    shown_at from m b is past calls =
        let e : from + (m - from) ≡ m = omega arith in
        let there : image_run image input m ≡ run riscv_machine (m - from) b = ap (image_run image input) (sym e) ∙ run_add riscv_machine from (m - from) (image_begin image input) ∙ ap (run riscv_machine (m - from)) is in
        let next : image_run image input (suc m) ≡ riscv_machine.step (image_run image input m) = run_last riscv_machine m (image_begin image input) in
        subst (λ c. IsTrue (list_any is_read (riscv_machine.shows c))) there (call_is_shown (image_run image input m) calls (subst (λ c. IsSafe c.ending) next (runs.safe (suc m))))

    -- between two points there is one only where the program looks
    reads_far : (n m : ℕ) → far n ≤ m → m < far (suc n) → CallsRead (image_run image input m) → LooksAtInput (program_of core stack) (source_run (program_of core stack) input n)
    reads_far n m past before calls =
        let next = far_next n in
        let l = better_at (better_point n) in
        let b = run riscv_machine (lower.point (better_point n)) runs.along.first in
        let below : IsTrue (list_any is_read (trace riscv_machine (lower_between n).more b)) = among riscv_machine is_read (m - far n) (lower_between n).more b (omega arith) (shown_at (far n) m b (image_is n) past calls) in
        let better : IsTrue (list_any is_read (trace (low_machine g.low g.placement) (middle_between n).more (low_at (low_point n)))) = ap (list_any is_read) (sym (better_between n).shown ∙ (lower_between n).shown) ∙ below in
        let low_code : IsTrue (list_any is_read (trace (counted g) (middle_between n).more (run (counted g) (middle.point (upper.point n)) started.to))) =
        ap (list_any is_read) (ap (trace (counted g) (middle_between n).more) (sym (low_is n)) ∙ trace_counted g (middle_between n).more (low_at (low_point n))) ∙ better in
        ap (list_any is_of_input) (upper.stretch n).traces ∙ (middle_between n).shown.input low_code

    -- and before the first one there is none
    unread_far : (m : ℕ) → m < far 0 → CallsRead (image_run image input m) → ⊥
    unread_far m before calls = by (cases_lt m runs.along.steps)
      where
        all : m - 0 ≡ m
        all = omega arith

        no_read : IsTrue (list_any is_read []) → ⊥
        no_read is = let clash : false ≡ true = is in absurd cc

        by : (m < runs.along.steps) ⊎ (runs.along.steps ≤ m) → ⊥
        by (inl early) =
            no_read (ap (list_any is_read) (sym runs.along.path.shows) ∙ among riscv_machine is_read m runs.along.steps (image_begin image input) early (subst (λ k. IsTrue (list_any is_read (riscv_machine.shows (run riscv_machine k (image_begin image input))))) all (shown_at 0 m (image_begin image input) (run_none riscv_machine (image_begin image input)) (omega arith) calls)))
        by (inr late) =
            let begins = upper.first in
            let begins_middle = middle.first in
            let begins_short = short.first in
            let same_middle = ap middle.point begins in
            let steps_are : low_point 0 ≡ started.goes.steps = omega arith in
            let less = costs_less g w.low low_first better_first short 0 (low_point 0) in
            let at = less.at in
            let none : 0 + low_point 0 ≡ low_point 0 = omega arith in
            let same_point = ap short.point none in
            let more_is : less.more ≡ better_point 0 = omega arith in
            let better_is : better_at (short.point 0) ≡ better_first = ap better_at begins_short ∙ run_none (low_machine w.low (placement_of w)) better_first in
            let below = among riscv_machine is_read (m - runs.along.steps) (lower.point (better_point 0)) runs.along.first (omega arith) (shown_at runs.along.steps m runs.along.first runs.along.path.ends late calls) in
            let same : trace (low_machine g.low g.placement) started.goes.steps low_first ≡ trace riscv_machine (lower.point (better_point 0)) runs.along.first =
            ap₂ (λ k l. trace (low_machine g.low g.placement) k l) (sym steps_are) (sym (run_none (low_machine g.low g.placement) low_first))
            ∙ sym less.shown ∙ ap₂ (λ k l. trace (low_machine w.low (placement_of w)) k l) more_is better_is ∙ lower.traces (better_point 0) in
            let clash : false ≡ true = sym started.goes.unread ∙ ap (list_any is_read) same ∙ below in
            absurd cc

    reads : (n m : ℕ) → point n ≤ m → m < point (suc n) → CallsRead (image_run image input m) → LooksAtInput (program_of core stack) (source_run (program_of core stack) input n)
    reads n m past before calls = by (going (image_run image input (far n))) refl
      where
        runs_there : going (image_run image input m) ≡ 1
        runs_there = ap while_running calls.runs

        by : (k : ℕ) → going (image_run image input (far n)) ≡ k → LooksAtInput (program_of core stack) (source_run (program_of core stack) input n)
        by zero none =
            let halted = stays (image_run image input (point n)) (ap going (point_is n) ∙ none) in
            let stayed = run_past_end riscv_machine (point n) m (image_begin image input) halted past in
            let same : going (image_run image input m) ≡ 0 = ap going (stayed ∙ point_is n) ∙ none in
            let runs_on = runs_there in
            absurd (omega arith)
        by (suc k) some =
            let few = one_or_none (image_run image input (far n)).ending in
            let none = no_idles n (omega arith) in
            let all = (settles (image_begin image input) (far n)).all (omega arith) in
            let next = next_idles n in
            let less = (settles (image_begin image input) (far (suc n))).few in
            reads_far n m (omega arith) (omega arith) calls

    unread : (m : ℕ) → m < point 0 → CallsRead (image_run image input m) → ⊥
    unfolding idles
    unread m before calls = let less = (settles (image_begin image input) (far 0)).few in unread_far m (omega arith) calls

    -- ---- the heap

    abbrev heap : ℕ
    heap = heap_size settings

    nameless : (n : ℕ) → IsNameless (source_run (program_of core stack) input n).world
    nameless n =
        let world = ap (λ (x : MirState). x.world) (upper.states n).same in
        subst (λ (x : World). IsNameless x) world (nameless_run (managed g) plain.exceptions plain.outs (program_of core stack) typed coded input plain.globals (upper.point n))

    all_served : (n : ℕ) → IsServed (program_of core stack) heap input n
    all_served = serves (program_of core stack) input nameless heap

    -- the image has not ended before its first point, so that lies behind the first steps
    begun_first : start_steps ≤ point 0
    unfolding idles
    begun_first =
        let begins : (source_run (program_of core stack) input 0).world.ending ≡ Running = ap (λ (s : SourceState). s.world.ending) (run_none (source (program_of core stack)) (start (program_of core stack) input)) in
        let running : (image_run image input (far 0)).ending ≡ GoesOn = subst (λ e. EndsAlike e (image_run image input (far 0)).ending) begins (far_alike 0).ending in
        let going_on : going (image_run image input (far 0)) ≡ 1 = ap while_running running in
        let all = (settles (image_begin image input) (far 0)).all (omega arith) in
        let first_steps = runs.along.begun in
        omega arith

    begun_before : (n : ℕ) → start_steps ≤ point n
    begun_before n =
        let begins = begun_first in
        let risen = rises_on point rises 0 n in
        let e : 0 + n ≡ n = omega arith in
        let same = ap point e in
        omega arith

    held_at : (n m : ℕ) → start_steps ≤ m → Held (source_run (program_of core stack) input n) (heap_after (program_of core stack) heap input n) (image_run image input m).memory
    held_at n m behind =
        subst (λ (h : Heap). Held (source_run (program_of core stack) input n) h (image_run image input m).memory) (sym (ap (λ b. b.beside) (heaped_is (program_of core stack) input nameless heap n)))
        (held_still w memory (image_run image input m).memory settings image stands (λ x is. left m x behind is) (source_run (program_of core stack) input n) (nameless n))

    never_short : (n : ℕ) → IsShort (program_of core stack) heap input n → EndsShort (program_of core stack) heap image input n (point n)
    never_short n is = let clash : true ≡ false = sym is.here ∙ all_served (suc n) in absurd cc

    pub along : GoesAlong (program_of core stack) (heap_size settings) image input
    along =
        record {
          point = point;
          rises = rises;
          passes = λ served. passes;
          alike = λ n served. alike n;
          held = λ n served. held_at n (point n) (begun_before n);
          written = λ n m served past before writes. held_at n (suc m) (let least = begun_before n in omega arith);
          short = never_short;
          safe = runs.safe;
          unread = unread;
          reads = λ n m served past before calls. reads n m past (before (all_served (suc n))) calls;
          first = first;
          soon = λ n served running. le_trans (soon n running) (let more = more_work n in omega arith);
          served = all_served;
        }
      where
        more_work : (n : ℕ) → most_for_work * cost_above (program_of core stack) (source_run (program_of core stack) input n) ≤ most_steps_at (program_of core stack) heap input n
        more_work n = omega arith
