-- A routine returns a value, and the caller that waits for it goes on.
use Rattle.std.proofs.Common.{◌≡◌, ◌≢◌, ◌≤◌, ◌<◌, ◌⊎◌, inl, inr, ℕ, suc, ◌+◌, ◌-◌, List, [], ◌∷◌, length, Some, None, sym, ap, ap₂, ◌∙◌, subst, arith, refl}
use Rattle.std.specs.Prelude.{Bool, true, false, nat_eq, slice_get, if◌then◌else◌, ℤ}
use Rattle.std.proofs.lemmas.Bool.{cases_eq}
use Rattle.std.proofs.lemmas.Bool.Decides.{nat_tests}
use Rattle.op_compute.specs.Bank.{scratch_of}
use Rattle.op_compute.specs.Meaning.{IsWordOf}
use Rattle.op_core.specs.declared.ids.TypeId.{TypeId}
use Rattle.op_expand.specs.Calls.{receiver_of, result_address, runtime}
use Rattle.op_low.specs.Machine.{act, return_to}
use Rattle.op_low.specs.State.{Caller, State, Running, routine_of, space, with_value}
use Rattle.op_low.specs.declared.ids.VirtualRegister.{VirtualRegister}
use Rattle.op_low.specs.declared.instruction.Instruction.TheVariants.{Return as LowReturn}
use Rattle.op_low.specs.declared.instruction.Instruction.{Instruction as LowInstruction}
use Rattle.op_meaning.specs.Expressions.{result_of}
use Rattle.op_meaning.specs.Values.{Value, number_in}
use Rattle.op_meaning.specs.World.{Running as GoingOn}
use Rattle.op_mir.specs.Machine.{MirCaller, MirState}
use Rattle.op_mir.specs.View.{view_receiver}
use Rattle.op_mir.specs.declared.instruction.Receiver.{Receiver as DeclaredReceiver}
use Rattle.op_agreement.proofs.Copying.{having}
use Rattle.op_agreement.proofs.Going.{Goes, goes_one, goes_to}
use Rattle.op_agreement.proofs.Returning.{back_stands}
use Rattle.op_agreement.proofs.Standing.{here}
use Rattle.op_agreement.specs.Chart.{Floor}
use Rattle.op_agreement.specs.Fitting.{IsFitting}
use Rattle.op_agreement.specs.Settings.{Setting, managed}
use Rattle.op_agreement.specs.Stands.{ActivationStands, CallersStand, Position, ResultGoes, Stands, Stays}
use Rattle.op_agreement.specs.Typed.{IsTypedReceiver}

-- what is known of the innermost caller
pub record Waits (g : Setting) (floors : ℕ → Floor) (m : MirState) (l : State) (c : MirCaller) (cs : List MirCaller) (lc : Caller) (lcs : List Caller) : Type 0 where
  pub below : ℕ
  pub under : ℕ
  pub spare : ℕ
  pub declared : DeclaredReceiver
  pub low : m.routine < length g.core.routines
  pub charge : m.charged ≡ under + (managed g).charge m.routine
  pub limit : l.limit ≡ below + (floors (suc (length cs))).frame.locals
  pub more : spare ≡ l.room + space g.low g.placement (runtime + m.routine)
  pub frames : c.frames ≡ []
  pub receiver : c.receiver ≡ view_receiver declared
  pub to : lc.to ≡ receiver_of (floors (length cs)).frame declared (scratch_of (floors (length cs)).frame.bank 0)
  pub typed : IsTypedReceiver g.core c.receiver (result_of (slice_get g.core.routines m.routine))
  pub result : ResultGoes g floors (length cs) declared c.receiver lc (l.top.registers result_address.0)
  pub waiting : (t : ℕ) → c.waiting t ≡ None
  pub made : c.made ≡ []
  pub position : Position g (floors (length cs)) c.work lc.activation.now
  pub activation : ActivationStands g floors (length cs) m.world.memory m.world.bound c.temps c.routine lc.activation below spare under
  pub callers : CallersStand g floors m.world.memory m.world.bound cs lcs c.routine (lc.activation.registers result_address.0) below spare under

waits_by : (g : Setting) (floors : ℕ → Floor) (m : MirState) (l : State) (c : MirCaller) (cs : List MirCaller) (lc : Caller) (lcs : List Caller) (of : TypeId) → result_of (slice_get g.core.routines m.routine) ≡ Some of → CallersStand g floors m.world.memory m.world.bound (c ∷ cs) (lc ∷ lcs) m.routine (l.top.registers result_address.0) l.limit l.room m.charged → Waits g floors m l c cs lc lcs
waits_by g floors m l c cs lc lcs of some (inr (below, under, spare, status, a, ended, others, are, charge, at_, more, closing, activation, callers)) = let clash : None ≡ Some of = sym closing.result ∙ some in absurd cc
waits_by g floors m l c cs lc lcs of some (inl (below, under, spare, declared, low, charge, at_, more, frames, receiver, to, typed, result, waiting, made, position, activation, callers)) =
    record {
      below = below;
      under = under;
      spare = spare;
      declared = declared;
      low = low;
      charge = charge;
      limit = at_;
      more = more;
      frames = frames;
      receiver = receiver;
      to = to;
      typed = typed;
      result = result;
      waiting = waiting;
      made = made;
      position = position;
      activation = activation;
      callers = callers;
    }

-- the innermost caller of states that stand for one another, where it waits for a value
pub waits : (g : Setting) (floors : ℕ → Floor) (m : MirState) (l : State) (s : Stays g floors m l) (c : MirCaller) (cs : List MirCaller) (lc : Caller) (lcs : List Caller) → m.callers ≡ c ∷ cs → l.callers ≡ lc ∷ lcs → (of : TypeId) → result_of (slice_get g.core.routines m.routine) ≡ Some of → Waits g floors m l c cs lc lcs
waits g floors m l s c cs lc lcs above lows of some =
    waits_by g floors m l c cs lc lcs of some (subst (λ xs. CallersStand g floors m.world.memory m.world.bound xs (lc ∷ lcs) m.routine (l.top.registers result_address.0) l.limit l.room m.charged) above (subst (λ xs. CallersStand g floors m.world.memory m.world.bound m.callers xs m.routine (l.top.registers result_address.0) l.limit l.room m.charged) lows s.callers))

module _ (g : Setting) (fit : IsFitting g) (m : MirState) (l : State) (floors : ℕ → Floor) (s : Stays g floors m l) (c : MirCaller) (cs : List MirCaller) (lc : Caller) (lcs : List Caller) (above : m.callers ≡ c ∷ cs) (lows : l.callers ≡ lc ∷ lcs) (w : Waits g floors m l c cs lc lcs) where
  lower : w.below ≤ l.limit
  lower = let at_ = w.limit in omega arith

  -- the caller goes on with these temporaries, and in low code with this value in its register
  abbrev pub gone_above : (ℕ → ℤ) → MirState
  gone_above temps = record {
    world = record m.world { temps = temps; waiting = c.waiting; made = c.made; depth = m.world.depth - 1 };
    routine = c.routine;
    work = c.work;
    frames = c.frames;
    callers = cs;
    pending = m.pending;
    charged = w.under;
    counts = tt;
  }

  abbrev pub gone_below : ℕ → State
  gone_below v = record l { top = with_value lc.to v lc.activation; callers = lcs; limit = w.below; room = w.spare; ending = Running }

  -- a routine of low code returns a value, with other registers and memory than it had
  pub low_returns : (f memory : ℕ → ℕ) (r : VirtualRegister) (rest : List LowInstruction) → Goes g 1 1 (having l f (LowReturn r ∷ rest) memory) (record (gone_below (f r.0)) { memory = memory })
  unfolding act
  low_returns f memory r rest =
      let a = s.activation in
      let at_ = w.limit in
      let levels : length m.callers ≡ suc (length cs) = ap length above in
      let here_is : here m floors ≡ floors (suc (length cs)) = ap floors levels in
      let locals : (routine_of g.low l.top.routine).locals ≡ (floors (suc (length cs))).frame.locals = ap (λ r. (routine_of g.low r).locals) a.same ∙ a.floor.expanded.locals ∙ ap (λ (f : Floor). f.frame.locals) here_is in
      let limit : l.limit - (routine_of g.low l.top.routine).locals ≡ w.below = omega arith in
      let room : l.room + space g.low g.placement l.top.routine ≡ w.spare = ap (λ r. l.room + space g.low g.placement r) (a.same ∙ ap (λ r. runtime + r) a.number) ∙ sym w.more in
      goes_to g 1 (having l f (LowReturn r ∷ rest) memory) (act g.low g.placement (LowReturn r) (having l f rest memory)) (record (gone_below (f r.0)) { memory = memory })
      (ap (λ xs. return_to g.low g.placement (f r.0) xs (having l f rest memory)) lows
      ∙ ap₂ (λ (x y : ℕ). let z : State = record l { top = with_value lc.to (f r.0) lc.activation; callers = lcs; limit = x; room = y; memory = memory; ending = Running } in z) limit room)
      (goes_one g (record l { memory = memory }) f (LowReturn r) rest refl)

  -- other registers of the caller are as they were
  register_kept : (v r : ℕ) → r ≢ lc.to.0 → (with_value lc.to v lc.activation).registers r ≡ lc.activation.registers r
  register_kept v r differs = let t : nat_eq r lc.to.0 ≡ false = grind (arith, nat_tests) in ap (λ b. if b then v else lc.activation.registers r) t

  -- the value is not looked at: it went to a scratch register of the caller
  pub gone_scratch : m.world.ending ≡ GoingOn → lc.to.0 ≡ (floors (length cs)).frame.bank.scratch → (v : ℕ) → Stands g (gone_above c.temps) (gone_below v)
  gone_scratch ending to_is v =
      let scratch = w.activation.floor.fits.scratch in
      back_stands g fit m l floors s c cs lc lcs above w.below w.spare w.under w.frames w.waiting w.made w.position w.activation w.callers lower c.temps lc.to v
      (λ r less. register_kept v r (λ same. omega arith))
      (λ t less. subst (λ x. IsWordOf x (c.temps t)) (sym (register_kept v ((floors (length cs)).frame.bank.temporaries + t) (λ same. omega arith))) (w.activation.kept.temporaries t less))
      ending

  -- the value is that of a temporary of the caller
  pub gone_temporary : m.world.ending ≡ GoingOn → (t : ℕ) → lc.to.0 ≡ (floors (length cs)).frame.bank.temporaries + t → (v : ℕ) (x : ℤ) → IsWordOf v x → Stands g (gone_above (λ u. if nat_eq u t then x else c.temps u)) (gone_below v)
  gone_temporary ending t to_is v x word =
      back_stands g fit m l floors s c cs lc lcs above w.below w.spare w.under w.frames w.waiting w.made w.position w.activation w.callers lower (λ u. if nat_eq u t then x else c.temps u) lc.to v
      (λ r less. register_kept v r (λ same. omega arith))
      (λ u less. by u less (cases_eq u t)) ending
    where
      by : (u : ℕ) → u < (floors (length cs)).routine.temporaries → (u ≡ t) ⊎ (u ≡ t → ⊥) → IsWordOf ((with_value lc.to v lc.activation).registers ((floors (length cs)).frame.bank.temporaries + u)) (if nat_eq u t then x else c.temps u)
      by u less (inl same) =
          let test : nat_eq u t ≡ true = grind (arith, nat_tests) in
          let there : (floors (length cs)).frame.bank.temporaries + u ≡ lc.to.0 = omega arith in
          let is : nat_eq ((floors (length cs)).frame.bank.temporaries + u) lc.to.0 ≡ true = grind (arith, nat_tests) in
          subst (λ b. IsWordOf (if b then v else lc.activation.registers ((floors (length cs)).frame.bank.temporaries + u)) (if nat_eq u t then x else c.temps u)) (sym is)
          (subst (λ b. IsWordOf v (if b then x else c.temps u)) (sym test) word)
      by u less (inr other) =
          let test : nat_eq u t ≡ false = grind (arith, nat_tests) in
          subst (λ y. IsWordOf y (if nat_eq u t then x else c.temps u)) (sym (register_kept v ((floors (length cs)).frame.bank.temporaries + u) (λ same. other (omega arith))))
          (subst (λ b. IsWordOf (lc.activation.registers ((floors (length cs)).frame.bank.temporaries + u)) (if b then x else c.temps u)) (sym test) (w.activation.kept.temporaries u less))
