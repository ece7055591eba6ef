-- What the program itself still makes due, from step to step.
use Rattle.std.proofs.Common.{◌≡◌, ℕ, ℤ, zero, suc, ◌+◌, List, [], ◌∷◌, drop, length, map, Option, Some, None, refl, sym, ap, ◌∙◌, subst, arith}
use Rattle.std.specs.Prelude.{Bool, true, false, pos, negsuc, nat_lt, if◌then◌else◌}
use Rattle.op_agreement.proofs.Charging.{call_is, goes_in_with}
use Rattle.op_expand.specs.Calls.{finalizations, result_address}
use Rattle.op_low.specs.State.{Caller, State}
use Rattle.op_meaning.specs.Calls.{all_handed, begun}
use Rattle.op_meaning.specs.Ending.{closed}
use Rattle.op_meaning.specs.Frames.{Frame, Pending, closing, empty_global, fails, finalize, Handed}
use Rattle.op_meaning.specs.Items.{Receiver, nowhere}
use Rattle.op_meaning.specs.Machine.{low_eight, returned}
use Rattle.op_meaning.specs.Numbers.{is_true}
use Rattle.op_meaning.specs.Unwinding.{closes}
use Rattle.op_meaning.specs.Values.{Reached, reached, failing}
use Rattle.op_meaning.specs.World.{number_at, Ended as HasEnded}
use Rattle.op_mir.specs.Code.{Instr}
use Rattle.op_mir.specs.Machine.{Code, MirCaller, MirState, arm_for, code_rules, dispatched, execute, go_if, go_to, mir_step, tables}
use Rattle.op_mir.specs.View.{view_arm, view_given, view_instruction, view_receiver}
use Rattle.op_mir.specs.declared.instruction.Instruction.TheVariants.{Act, Call, Jump, When, Unless, Switch, Dispatch, MakeDue, OpenTemporaries, EndTemporary, Stop, Return}
use Rattle.op_mir.specs.declared.instruction.Instruction.{Instruction}
use Rattle.op_agreement.proofs.Branching.{step_here}
use Rattle.op_agreement.proofs.Computing.{rest_above}
use Rattle.op_agreement.proofs.MakingDue.{first_is, drop_first, main_alone}
use Rattle.op_agreement.proofs.Standing.{Next, here}
use Rattle.op_agreement.specs.Chart.{Floor}
use Rattle.op_agreement.specs.Fitting.{IsFitting}
use Rattle.op_agreement.specs.Settings.{Setting, managed}
use Rattle.op_agreement.specs.Stands.{ArePending, AreStillDue, CallersStand, NoneCloses, dues_in, lowest_rest}
use Rattle.op_agreement.specs.Typed.{IsLight}

-- ---- the rest of the lowest activation

same_rest : (rest other : List Instr) (cs : List MirCaller) → (cs ≡ [] → dues_in other ≡ dues_in rest) → dues_in (lowest_rest other cs) ≡ dues_in (lowest_rest rest cs)
same_rest rest other [] same = same refl
same_rest rest other (c ∷ cs) same = refl

with_frames : (frames other : List Frame) (cs : List MirCaller) → frames ≡ [] → NoneCloses other cs → NoneCloses frames cs
with_frames frames other [] none open_ = none
with_frames frames other (c ∷ cs) none open_ = (none, open_.1)

first_frames : (frames : List Frame) (cs : List MirCaller) → NoneCloses frames cs → frames ≡ []
first_frames frames [] open_ = open_
first_frames frames (c ∷ cs) open_ = open_.0

-- where the program ends nothing is said
closed_due : (g : Setting) (m : MirState) (status : ℕ) (frames : List Frame) → m.frames ≡ closing status ∷ frames → AreStillDue g m
closed_due g m status frames is open_ = let clash : closing status ∷ frames ≡ [] = sym is ∙ first_frames m.frames m.callers open_ in absurd cc

-- ---- states that differ above the lowest activation

kept_due : (g : Setting) (m n : MirState) → m.frames ≡ [] → n.callers ≡ m.callers → n.pending ≡ m.pending → (m.callers ≡ [] → dues_in n.work ≡ dues_in m.work) → AreStillDue g m → AreStillDue g n
kept_due g m n frames callers pending same due open_ =
    let here : NoneCloses n.frames m.callers = subst (NoneCloses n.frames) callers open_ in
    ap (λ cs. dues_in (lowest_rest n.work cs)) callers
    ∙ same_rest m.work n.work m.callers same
    ∙ due (with_frames m.frames n.frames m.callers frames here)
    ∙ ap (λ (p : List Pending). drop (length p) (finalizations g.core)) (sym pending)

-- only where the code goes on differs
pub record Keeps (m n : MirState) : Type 0 where
  pub callers : n.callers ≡ m.callers
  pub pending : n.pending ≡ m.pending

either_keeps : (b : Bool) (m x y : MirState) → Keeps m x → Keeps m y → Keeps m (if b then x else y)
either_keeps true m x y p q = p
either_keeps false m x y p q = q

goes_keeps : (c : Code) (k : ℕ) (m n : MirState) → Keeps m n → Keeps m (go_to c k n)
goes_keeps c k m n p = record { callers = p.callers; pending = p.pending }

switches_keep : (c : Code) (o : Option ℕ) (m n : MirState) → Keeps m n → Keeps m (go_if c o n)
switches_keep c None m n p = p
switches_keep c (Some k) m n p = goes_keeps c k m n p

dispatch_keeps : (c : Code) (x : ℤ) (t k : ℕ) (m n : MirState) → Keeps m n → Keeps m (dispatched c x t k n)
dispatch_keeps c (pos zero) t k m n p = p
dispatch_keeps c (pos (suc zero)) t k m n p = goes_keeps c (k + 1) m n p
dispatch_keeps c (pos (suc (suc zero))) t k m n p = goes_keeps c (k + 2) m n p
dispatch_keeps c (pos (suc (suc (suc zero)))) t k m n p = goes_keeps c (k + 3) m n p
dispatch_keeps c (pos (suc (suc (suc (suc zero))))) t k m n p = record { callers = p.callers; pending = p.pending }
dispatch_keeps c (pos (suc (suc (suc (suc (suc x)))))) t k m n p = p
dispatch_keeps c (negsuc x) t k m n p = p

module _ (g : Setting) (fit : IsFitting g) (m : MirState) (l : State) (floors : ℕ → Floor) (due : AreStillDue g m) where
  module _ (i : Instruction) (is : List Instruction) (next : Next g m l floors i is) where
    abbrev behind : MirState
    behind = record m { work = rest_above g m l floors i is next }

    abbrev view : Instr
    view = view_instruction g.core (here m floors).number i

    -- without callers it is the program itself
    pub light_here : m.callers ≡ [] → IsLight i
    light_here none = by m.callers l.callers refl next.stays.callers
      where
        by : (cs : List MirCaller) (ls : List Caller) → m.callers ≡ cs → CallersStand g floors m.world.memory m.world.bound cs ls m.routine (l.top.registers result_address.0) l.limit l.room m.charged → IsLight i
        by [] [] above s = let main = s.0 in let number = next.stays.activation.number in let many = fit.program.number in next.paid.itself (omega arith)
        by [] (lc ∷ lcs) above s = absurd s
        by (c ∷ cs) ls above s = let clash : c ∷ cs ≡ [] = sym above ∙ none in absurd cc

    -- of an instruction that the program itself does not have
    kept : (IsLight i → ⊥) → Keeps m (execute (managed g) view behind) → AreStillDue g (mir_step (managed g) m)
    kept heavy keeps =
        subst (AreStillDue g) (sym (step_here g fit m l floors i is next))
        (kept_due g m (execute (managed g) view behind) next.frames keeps.callers keeps.pending (λ none. absurd (heavy (light_here none))) due)

    same_here : Keeps m behind
    same_here = record { callers = refl; pending = refl }

  -- ---- instructions

  act_due : (a : _) (landing : _) (is : List Instruction) → Next g m l floors (Act a landing) is → AreStillDue g (mir_step (managed g) m)
  unfolding execute
  act_due a landing is next = kept (Act a landing) is next (λ light. light) (record { callers = refl; pending = refl })

  -- a call: the caller waits with what was left
  begun_due : (r : ℕ) (receiver : Receiver) (handed : Reached (List Handed)) (rest : List Instr) → m.frames ≡ [] → (m.callers ≡ [] → dues_in rest ≡ dues_in m.work) → AreStillDue g (goes_in_with (managed g) r receiver handed (record m { work = rest }))
  begun_due r receiver (failing error) rest none same = kept_due g m (fails (tables (managed g)) error (record m { work = rest })) none refl refl same due
  begun_due r receiver (reached given) rest none same = by (nat_lt g.stack (m.charged + (managed g).charge r)) refl
    where
      by : (b : Bool) → nat_lt g.stack (m.charged + (managed g).charge r) ≡ b → AreStillDue g (begun (code_rules (managed g)) r receiver given (record m { work = rest }))
      by true over = rw over (kept_due g m (fails (tables (managed g)) 202 (record m { work = rest })) none refl refl same due)
      by false under = rw under (λ open_. same_rest m.work rest m.callers same ∙ due open_.1)

  pub instruction_due : (i : Instruction) (is : List Instruction) → Next g m l floors i is → AreStillDue g (mir_step (managed g) m)
  unfolding execute
  instruction_due (Act a landing) is next = act_due a landing is next
  instruction_due (Jump block) is next = kept (Jump block) is next (λ light. light) (goes_keeps (managed g) block.0 m (behind (Jump block) is next) (same_here (Jump block) is next))
  instruction_due (When t block) is next =
      let keeps = same_here (When t block) is next in
      let n = behind (When t block) is next in
      kept (When t block) is next (λ light. light) (either_keeps (is_true (number_at m.world t.0)) m (go_to (managed g) block.0 n) n (goes_keeps (managed g) block.0 m n keeps) keeps)
  instruction_due (Unless t block) is next =
      let keeps = same_here (Unless t block) is next in
      let n = behind (Unless t block) is next in
      kept (Unless t block) is next (λ light. light) (either_keeps (is_true (number_at m.world t.0)) m n (go_to (managed g) block.0 n) keeps (goes_keeps (managed g) block.0 m n keeps))
  instruction_due (Switch t arms) is next =
      kept (Switch t arms) is next (λ light. light) (switches_keep (managed g) (arm_for (number_at m.world t.0) (map view_arm arms)) m (behind (Switch t arms) is next) (same_here (Switch t arms) is next))
  instruction_due (Dispatch t block) is next =
      kept (Dispatch t block) is next (λ light. light) (dispatch_keeps (managed g) (number_at m.world t.0) t.0 block.0 m (behind (Dispatch t block) is next) (same_here (Dispatch t block) is next))
  instruction_due (Call r call) is next =
      subst (AreStillDue g) (sym (step_here g fit m l floors (Call r call) is next ∙ call_is (managed g) fit.program.outs r.0 (view_receiver call.receiver) (all_handed m.world (map view_given call.given)) (behind (Call r call) is next)))
      (begun_due r.0 (view_receiver call.receiver) (all_handed m.world (map view_given call.given)) (rest_above g m l floors (Call r call) is next) next.frames (λ none. sym (ap dues_in next.above)))
  instruction_due (MakeDue f) is next =
      let alone = main_alone g fit m l floors is f due next in
      let rest = rest_above g m l floors (MakeDue f) is next in
      let others = (drop_first (finalizations g.core) (dues_in rest) f (length m.pending) (sym (first_is g fit m l floors is f due next))).2 in
      subst (AreStillDue g) (sym (step_here g fit m l floors (MakeDue f) is next)) (λ open_. ap (λ cs. dues_in (lowest_rest rest cs)) alone ∙ sym others)
  instruction_due (OpenTemporaries ts) is next = absurd next.fine
  instruction_due (EndTemporary t) is next = absurd next.fine
  instruction_due (Stop t) is next =
      let n = behind (Stop t) is next in
      let status = low_eight (number_at m.world t.0) in
      subst (AreStillDue g) (sym (step_here g fit m l floors (Stop t) is next ∙ ap (λ fs. closes status fs n) next.frames)) (closed_due g (record n { frames = closing status ∷ [] }) status [] refl)
  instruction_due Return is next = subst (AreStillDue g) (sym (step_here g fit m l floors Return is next)) (by m.callers refl)
    where
      n : MirState
      n = record m { work = rest_above g m l floors Return is next }

      by : (cs : List MirCaller) → m.callers ≡ cs → AreStillDue g (returned (tables (managed g)) cs n)
      by [] none = subst (AreStillDue g) (sym (ap (λ fs. closes 0 fs n) next.frames)) (closed_due g (record n { frames = closing 0 ∷ [] }) 0 [] refl)
      by (c ∷ cs) above = λ open_. sym (ap (λ cs. dues_in (lowest_rest m.work cs)) above) ∙ due (subst (NoneCloses m.frames) (sym above) (next.frames, open_))

-- ---- where the program ends

pub closing_due : (g : Setting) (m : MirState) (status : ℕ) (pending : List Pending) → m.frames ≡ closing status ∷ [] → ArePending (finalizations g.core) pending → AreStillDue g (closed (code_rules (managed g)) status pending m)
closing_due g m status [] frames parts = closed_due g (record m { world = record m.world { ending = HasEnded status } }) status [] frames
closing_due g m status (empty_global v ∷ pending) frames parts = let clash = parts.are in absurd cc
closing_due g m status (finalize f ∷ pending) frames parts = by (nat_lt g.stack (m.charged + (managed g).charge f.0)) refl
  where
    n : MirState
    n = record m { pending = pending }

    by : (b : Bool) → nat_lt g.stack (m.charged + (managed g).charge f.0) ≡ b → AreStillDue g (begun (code_rules (managed g)) f.0 nowhere [] n)
    by true over = rw over (closed_due g (fails (tables (managed g)) 202 n) status [] frames)
    by false under = rw under (λ open_. let clash : closing status ∷ [] ≡ [] = sym frames ∙ first_frames m.frames m.callers open_.1 in absurd cc)
