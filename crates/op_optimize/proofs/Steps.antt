-- A step of low code by the first instruction of what is left of its block, what it shows and its cost.
use Rattle.std.proofs.Common.{◌≡◌, ℕ, ◌+◌, Option, Some, None, List, [], ◌∷◌, length, refl, ap, ◌∙◌}
use Rattle.op_low.specs.Machine.{act, cost, cost_by, cost_next, done, shown_by, shown_next, shows, step, step_by_ending}
use Rattle.op_low.specs.State.{Activation, Ended, Placement, Running, State, bad, space, value}
use Rattle.op_low.specs.declared.code.Low.{Low}
use Rattle.op_low.specs.declared.ids.VirtualRegister.{VirtualRegister}
use Rattle.op_low.specs.declared.instruction.Call.{Call as Operands}
use Rattle.op_low.specs.declared.instruction.Instruction.{Instruction}
use Rattle.op_low.specs.declared.instruction.Instruction.TheVariants.{CallAt}

abbrev pub behind : List Instruction → Activation → Activation
behind is a = record a { now = is }

pub step_is : (low : Low) (p : Placement) (m : State) (i : Instruction) (is : List Instruction) → m.ending ≡ Running → m.top.now ≡ i ∷ is → step low p m ≡ act low p i (record m { top = behind is m.top })
unfolding step step_by_ending done
step_is low p m i is running now = ap (λ e. step_by_ending low p e m) running ∙ ap (λ code. done low p code m) now

pub step_is_bad : (low : Low) (p : Placement) (m : State) → m.ending ≡ Running → m.top.now ≡ [] → step low p m ≡ bad m
unfolding step step_by_ending done
step_is_bad low p m running now = ap (λ e. step_by_ending low p e m) running ∙ ap (λ code. done low p code m) now

pub step_stays : (low : Low) (p : Placement) (m : State) (status : ℕ) → m.ending ≡ Ended status → step low p m ≡ m
unfolding step step_by_ending
step_stays low p m status ended = ap (λ e. step_by_ending low p e m) ended

-- ---- what it shows

pub shows_is : (p : Placement) (m : State) (i : Instruction) (is : List Instruction) → m.ending ≡ Running → m.top.now ≡ i ∷ is → shows p m.ending m ≡ shown_by p i m
unfolding shows
shows_is p m i is running now = ap (λ e. shows p e m) running ∙ ap (λ code. shown_next p code m) now

pub shows_ended : (p : Placement) (m : State) (status : ℕ) → m.ending ≡ Ended status → shows p m.ending m ≡ []
unfolding shows
shows_ended p m status ended = ap (λ e. shows p e m) ended

-- ---- what it costs

pub cost_is : (low : Low) (p : Placement) (m : State) (i : Instruction) (is : List Instruction) → m.ending ≡ Running → m.top.now ≡ i ∷ is → cost low p m.ending m ≡ cost_by low p i m
unfolding cost
cost_is low p m i is running now = ap (λ e. cost low p e m) running ∙ ap (λ code. cost_next low p code m) now

pub cost_ended : (low : Low) (p : Placement) (m : State) (status : ℕ) → m.ending ≡ Ended status → cost low p m.ending m ≡ 1
unfolding cost
cost_ended low p m status ended = ap (λ e. cost low p e m) ended

-- of a call of the routine that was found
abbrev pub call_cost : Low → Placement → Option ℕ → ℕ → ℕ
call_cost low p None arguments = 1
call_cost low p (Some r) arguments = 1 + space low p r + arguments

pub call_at_cost : (low : Low) (p : Placement) (address : VirtualRegister) (call : Operands) (m : State) (found : Option ℕ) → p.routine_at (value m address) ≡ found → cost_by low p (CallAt address call) m ≡ call_cost low p found (length call.arguments)
unfolding cost_by
call_at_cost low p address call m None e = rw e refl
call_at_cost low p address call m (Some r) e = rw e refl
