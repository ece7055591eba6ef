-- Where an image calls for input, the program that it agrees with comes to a step that looks at it.
use Rattle.std.proofs.Common.{◌≡◌, ◌≤◌, ◌<◌, ◌⊎◌, inl, inr, ℕ, zero, suc, List, ◌++◌, refl, sym, ap, ◌∙◌, subst₂, arith}
use Rattle.std.proofs.lemmas.Bool.{cases_lt}
use Rattle.op_image.specs.Means.{image_run}
use Rattle.op_link.specs.Image.{start}
use Rattle.op_meaning.specs.Frames.{Program}
use Rattle.op_meaning.specs.Source.{LooksAtInput}
use Rattle.op_rv.specs.State.{State as ImageState}
use Rattle.op_rv.specs.Step.{CallsRead, after}
use Rattle.op_select.specs.RiscvMachine.{riscv_machine}
use Rattle.op_simulation.specs.System.{run}
use Rattle.op_correctness.proofs.Grows.{Grows, grows_from}
use Rattle.op_correctness.specs.Agrees.{BeginsWith, GoesAlong, LooksAsMeant, NeverLooks, source_run}

-- the machine after so many steps, said in two ways
pub runs_so : (n : ℕ) (s : ImageState) → run riscv_machine n s ≡ after n s
unfolding run after
runs_so zero s = refl
runs_so (suc n) s = runs_so n (riscv_machine.step s)

begins : (front front' whole whole' more : List ℕ) → whole ≡ front ++ more → front ≡ front' → whole ≡ whole' → BeginsWith front' whole'
begins front front' whole whole' more is same others = (more, sym others ∙ is ∙ ap (λ xs. xs ++ more) same)

module _ (p : Program) (heap : ℕ) (image input : List ℕ) (along : GoesAlong p heap image input) (m : ℕ) (calls : CallsRead (image_run image input m)) where
  -- the step of the program within which it lies
  record Lies : Type 0 where
    steps : ℕ
    past : along.point steps ≤ m
    before : m < along.point (suc steps)

  find : (n : ℕ) → m < along.point n → Lies
  find zero before = absurd (along.unread m before calls)
  find (suc n) before = by (cases_lt m (along.point n)) (λ earlier. find n earlier)
    where
      by : (m < along.point n) ⊎ (along.point n ≤ m) → (m < along.point n → Lies) → Lies
      by (inl earlier) go = go earlier
      by (inr past) go = record { steps = n; past = past; before = before }

  lies : Lies
  lies = let found = along.passes along.served (suc m) in let passed = found.passed in find found.steps (omega arith)

  grows : (a b : ℕ) → a ≤ b → Grows (image_run image input a) (image_run image input b)
  grows a b less = subst₂ Grows (sym (runs_so a (start image input))) (sym (runs_so b (start image input))) (grows_from a b (start image input) less)

  looks_here : LooksAtInput p (source_run p input lies.steps)
  looks_here = along.reads lies.steps m (along.served lies.steps) lies.past (λ next. lies.before) calls

  pub looks_as_meant : LooksAsMeant p input (image_run image input m).output (image_run image input m).errors
  looks_as_meant =
      let here = along.alike lies.steps (along.served lies.steps) in
      let next = along.alike (suc lies.steps) (along.served (suc lies.steps)) in
      let before = lies.before in
      let first = grows (along.point lies.steps) m lies.past in
      let second = grows m (along.point (suc lies.steps)) (omega arith) in
      record {
        steps = lies.steps;
        looks = looks_here;
        written = begins _ _ _ _ first.written first.output here.output refl;
        reported = begins _ _ _ _ first.reported first.errors here.errors refl;
        writes = begins _ _ _ _ second.written second.output refl next.output;
        reports = begins _ _ _ _ second.reported second.errors refl next.errors;
      }

  pub never_calls : NeverLooks p input → ⊥
  never_calls never = never lies.steps looks_here
