-- What a step of managed code costs at least: one, what it moves, and the charge of the activation under way, which is 256 at least but for the
-- program itself.
use Rattle.std.proofs.Common.{◌≡◌, ◌≤◌, ◌<◌, inl, inr, ℕ, ◌+◌, ◌*◌, List, [], ◌∷◌, length, Option, Some, None, refl, sym, ap, ap₂, ◌∙◌, arith}
use Rattle.op_expand.specs.Calls.{result_address}
use Rattle.op_low.specs.State.{Caller, State}
use Rattle.op_mir.specs.Machine.{MirCaller, MirState, charge_here, instr_bytes, mir_cost, mir_cost_by, mir_effort, mir_step, next_bytes}
use Rattle.op_mir.specs.View.{view_instruction}
use Rattle.op_mir.specs.declared.code.Routine.{Routine}
use Rattle.op_mir.specs.declared.instruction.Instruction.{Instruction}
use Rattle.op_agreement.proofs.Standing.{Next, here}
use Rattle.op_agreement.specs.Chart.{Floor}
use Rattle.op_agreement.specs.Fitting.{IsFitting}
use Rattle.op_agreement.specs.Settings.{Setting, managed}
use Rattle.op_agreement.specs.Stands.{CallersStand}
use Rattle.op_agreement.specs.Steps.{most_for_one}
use Rattle.op_agreement.specs.Typed.{IsCharged, IsLight}

abbrev charge_found : Option Routine → ℕ
charge_found None = 0
charge_found (Some x) = x.charge

module _ (g : Setting) (fit : IsFitting g) (m : MirState) (l : State) (floors : ℕ → Floor) (i : Instruction) (is : List Instruction) (next : Next g m l floors i is) where
  -- the charge of the activation under way
  abbrev pub charged : ℕ
  charged = charge_here (managed g).charge (length m.callers) m.routine

  -- what the instruction moves
  abbrev pub bytes_moved : ℕ
  bytes_moved = instr_bytes g.core (here m floors).number (view_instruction g.core (here m floors).number i)

  pub cost_is : mir_cost (managed g) m ≡ mir_effort (managed g) m (mir_step (managed g) m)
  cost_is = ap (λ e. mir_cost_by (managed g) m e) next.ending

  pub bytes_are : next_bytes g.core m.routine m.work m.frames ≡ bytes_moved
  bytes_are =
      ap₂ (λ r f. next_bytes g.core m.routine r f) next.above next.frames
      ∙ ap (λ r. instr_bytes g.core r (view_instruction g.core (here m floors).number i)) (sym next.stays.activation.number)

  pub least : 1 + bytes_moved + charged ≤ mir_cost (managed g) m
  least = let cost = cost_is in let bytes = bytes_are in omega arith

  -- with a caller below it this is the charge of its routine
  pub charge_of_floor : (c : MirCaller) (cs : List MirCaller) → m.callers ≡ c ∷ cs → charged ≡ (here m floors).routine.charge
  charge_of_floor c cs above =
      ap (λ (cs : List MirCaller). charge_here (managed g).charge (length cs) m.routine) above
      ∙ ap (managed g).charge (sym next.stays.activation.number) ∙ ap charge_found next.stays.activation.floor.found

  -- what the activation of a routine has been charged
  pub record Heavy : Type 0 where
    pub least : 256 ≤ charged
    pub paid : IsCharged (here m floors).routine i
    pub charge : charged ≡ (here m floors).routine.charge

  -- only the program itself is charged nothing
  pub heavy : (IsLight i → ⊥) → Heavy
  heavy other = by m.callers l.callers refl next.stays.callers
    where
      paid_by : (c : MirCaller) (cs : List MirCaller) → m.callers ≡ c ∷ cs → m.routine < length g.core.routines → Heavy
      paid_by c cs above low =
          let a = next.stays.activation in
          let number = a.number in
          let many = fit.program.number in
          let few : (here m floors).number < length g.mir.routines = omega arith in
          let some = (fit.routines (here m floors).number (here m floors).routine a.floor.found a.floor.charge).charged few in
          let is = charge_of_floor c cs above in
          record { least = omega arith; paid = next.paid.charged few; charge = is }

      by : (cs : List MirCaller) (ls : List Caller) → m.callers ≡ cs → CallersStand g floors m.world.memory m.world.bound cs ls m.routine (l.top.registers result_address.0) l.limit l.room m.charged → Heavy
      by [] [] above s =
          let number = next.stays.activation.number in
          let many = fit.program.number in
          let main = s.0 in
          absurd (other (next.paid.itself (omega arith)))
      by [] (lc ∷ lcs) above s = absurd s
      by (c ∷ cs) [] above s = absurd s
      by (c ∷ cs) (lc ∷ lcs) above (inl (below, under, spare, declared, low, charge, at_, more, frames, receiver, to, typed, result, waiting, made, position, activation, callers)) = paid_by c cs above low
      by (c ∷ cs) (lc ∷ lcs) above (inr (below, under, spare, status, a, ended, others, are, charge, at_, more, closing, activation, callers)) = paid_by c cs above closing.low

  -- so it may cost so much
  pub afford : (IsLight i → ⊥) → (n : ℕ) → n ≤ 8192 + 32 * bytes_moved → n ≤ most_for_one * mir_cost (managed g) m
  afford other n few = let paid = (heavy other).least in let cost = least in omega arith

  -- also by the program itself
  pub afford_light : (n : ℕ) → n ≤ 32 + 32 * bytes_moved → n ≤ most_for_one * mir_cost (managed g) m
  afford_light n few = let cost = least in omega arith
