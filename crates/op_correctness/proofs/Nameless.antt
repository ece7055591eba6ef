-- A plain program makes no names: nothing stands in its world, whatever step its code has come to.
use Rattle.std.proofs.Common.{◌≡◌, ℕ, ℤ, pos, negsuc, zero, suc, ◌+◌, ◌-◌, Bool, true, false, if◌then◌else◌, nat_lt, nat_eq, Option, Some, None, List, [], ◌∷◌, refl, sym, ap, subst}
use Rattle.op_core.specs.declared.program.Core.{Core}
use Rattle.op_meaning.specs.Calls.{all_handed, begun, called, caller_of, emptied_type, entered, given_all, given_one, gone_back, goes_in_behind, outs_of, received, result_in}
use Rattle.op_meaning.specs.Ending.{closed, framed}
use Rattle.op_meaning.specs.Frames.{Frame, Handed, Pending, a_place, a_routine, a_value, at_reached, calling, charged_for, closing, construction, destruction, empty_global, fails, finalize, uncharged, walk, Program}
use Rattle.op_meaning.specs.Items.{Given, Receiver, nowhere, to_place, to_temp}
use Rattle.op_meaning.specs.Losing.{ends_among}
use Rattle.op_meaning.specs.Machine.{halts, returned}
use Rattle.op_meaning.specs.Errors.{failed}
use Rattle.op_meaning.specs.Paths.{at_place, place_of}
use Rattle.op_meaning.specs.Shapes.{variables_of}
use Rattle.op_meaning.specs.Start.{first_pending}
use Rattle.op_meaning.specs.Unwinding.{closes}
use Rattle.op_meaning.specs.Values.{Place, Reached, Value, all_of, failing, local, reached}
use Rattle.op_meaning.specs.World.{Ended, Ending, Running, World, gone, number_at, with_number, with_value, written}
use Rattle.op_mir.proofs.CallLemmas.{no_outs}
use Rattle.op_mir.proofs.PlainLemmas.{IsKept, failed_stops, kept_perform}
use Rattle.op_mir.specs.Code.{Instr, blocks_in, dispatch, do_act, do_call, end_temporary, jump, make_due, open_temporaries, ret, stop, switch, unless, when}
use Rattle.op_mir.specs.Machine.{Code, MirCaller, MirState, arm_for, block_at, code_rules, dispatched, execute, go_if, go_to, mir_acted, mir_done, mir_machine, mir_start, mir_step, mir_step_by, mir_stepped, tables}
use Rattle.op_mir.specs.Plain.{IsPlainAction}
use Rattle.op_simulation.specs.System.{run}
use Rattle.op_typing.specs.Typed.{AreTypedBlocks, AreTypedInstrs, IsTypedInstr}
use Rattle.op_correctness.proofs.PlainItems.{action_plain}
use Rattle.std.specs.Prelude.{length, slice_get}
use Rattle.std.proofs.lemmas.List.Elements.{All-head, All-tail}

-- ---- worlds

-- no name was made, and no temporary has to be ended
abbrev pub IsNameless : World → Type 0
IsNameless w = (w.next ≡ 1) × ((n : ℕ) → w.objects n ≡ gone) × (w.made ≡ [])

-- whatever a world holds, stands for and writes
nameless_kept : IsKept IsNameless
nameless_kept = record { number = λ t n w h. h; value = λ q v w h. h; bound = λ b w h. h; written = λ bytes w h. h; stopped = λ n w h. h }

-- an error ends the program
nameless_failed : (core : Core) → core.exceptions ≡ None → (n : ℕ) (w : World) → IsNameless w → IsNameless (failed core n w)
nameless_failed core e n w h = subst IsNameless (sym (failed_stops core e n w)) h

nameless_at_place : (core : Core) → core.exceptions ≡ None → (q : Reached Place) (f : Place → World) (w : World) → ((x : Place) → IsNameless (f x)) → IsNameless w → IsNameless (at_place core q f w)
nameless_at_place core e (failing error) f w hf h = nameless_failed core e error w h
nameless_at_place core e (reached x) f w hf h = hf x

nameless_given : (d k : ℕ) (xs : List Handed) (w : World) → IsNameless w → IsNameless (given_all d k xs w)
nameless_given d k [] w h = h
nameless_given d k (a_value v ∷ xs) w h = nameless_given d (suc k) xs (given_one d k (a_value v) w) h
nameless_given d k (a_place q ∷ xs) w h = nameless_given d (suc k) xs (given_one d k (a_place q) w) h

-- ---- code: its actions are plain

abbrev IsPlainInstr : Instr → Type 0
IsPlainInstr (do_act a landing) = IsPlainAction a
IsPlainInstr (do_call r given receiver landing) = Unit {0}
IsPlainInstr (jump k) = Unit {0}
IsPlainInstr (when t k) = Unit {0}
IsPlainInstr (unless t k) = Unit {0}
IsPlainInstr (switch t arms) = Unit {0}
IsPlainInstr (dispatch t k) = Unit {0}
IsPlainInstr (make_due f) = Unit {0}
IsPlainInstr (open_temporaries ts) = Unit {0}
IsPlainInstr (end_temporary t) = Unit {0}
IsPlainInstr (stop t) = Unit {0}
IsPlainInstr ret = Unit {0}

abbrev IsPlainCode : List Instr → Type 0
IsPlainCode [] = Unit {0}
IsPlainCode (i ∷ code) = IsPlainInstr i × IsPlainCode code

-- so is code that is typed
instr_plain : (core : Core) (r : ℕ) (i : Instr) → IsTypedInstr core r i → IsPlainInstr i
instr_plain core r (do_act a landing) typed = action_plain core r a typed
instr_plain core r (do_call q given receiver landing) typed = tt
instr_plain core r (jump k) typed = tt
instr_plain core r (when t k) typed = tt
instr_plain core r (unless t k) typed = tt
instr_plain core r (switch t arms) typed = tt
instr_plain core r (dispatch t k) typed = tt
instr_plain core r (make_due f) typed = tt
instr_plain core r (open_temporaries ts) typed = tt
instr_plain core r (end_temporary t) typed = tt
instr_plain core r (stop t) typed = tt
instr_plain core r ret typed = tt

code_plain : (core : Core) (r : ℕ) (code : List Instr) → AreTypedInstrs core r code → IsPlainCode code
code_plain core r [] typed = tt
code_plain core r (i ∷ code) typed = (instr_plain core r i (All-head (IsTypedInstr core r) i code typed), code_plain core r code (All-tail (IsTypedInstr core r) i code typed))

block_plain : (core : Core) (r : ℕ) (blocks : List (List Instr)) (k : ℕ) → AreTypedBlocks core r blocks → IsPlainCode (block_at blocks k)
block_plain core r [] zero typed = tt
block_plain core r [] (suc k) typed = tt
block_plain core r (code ∷ blocks) zero typed = code_plain core r code (All-head (AreTypedInstrs core r) code blocks typed)
block_plain core r (code ∷ blocks) (suc k) typed = block_plain core r blocks k (All-tail (AreTypedInstrs core r) code blocks typed)

-- ---- states

-- nothing but the closing
abbrev AreClosings : List Frame → Type 0
AreClosings [] = Unit {0}
AreClosings (closing status ∷ rest) = AreClosings rest
AreClosings (walk places over waits ∷ rest) = ⊥
AreClosings (destruction i started entered places waits ∷ rest) = ⊥
AreClosings (uncharged frame ∷ rest) = ⊥
AreClosings (calling callee receiver given outs ∷ rest) = ⊥
AreClosings (construction i ∷ rest) = ⊥

abbrev AreNameless : List MirCaller → Type 0
AreNameless [] = Unit {0}
AreNameless (c ∷ cs) = (c.made ≡ []) × AreClosings c.frames × IsPlainCode c.work × AreNameless cs

abbrev AreFinalizations : List Pending → Type 0
AreFinalizations [] = Unit {0}
AreFinalizations (finalize r ∷ pending) = AreFinalizations pending
AreFinalizations (empty_global v ∷ pending) = ⊥

abbrev HasNoNames : MirState → Type 0
HasNoNames m = IsNameless m.world × AreClosings m.frames × AreNameless m.callers × AreFinalizations m.pending × IsPlainCode m.work

either : (b : Bool) (m k : MirState) → HasNoNames m → HasNoNames k → HasNoNames (if b then m else k)
either true m k hm hk = hm
either false m k hm hk = hk

module _ (c : Code) (none : c.core.exceptions ≡ None) (outs : (v : ℕ) → emptied_type c.core (slice_get c.core.variables v) ≡ None) (plain : (r k : ℕ) → IsPlainCode (block_at (c.blocks r) k)) where
  -- code goes on at another block
  moved_so : (k : ℕ) (m : MirState) → HasNoNames m → HasNoNames (go_to c k m)
  moved_so k m (w, frames, callers, pending, work) = (w, frames, callers, pending, plain m.routine k)

  fails_so : (n : ℕ) (m : MirState) → HasNoNames m → HasNoNames (fails (tables c) n m)
  fails_so n m (w, frames, callers, pending, work) = (nameless_failed c.core none n m.world w, frames, callers, pending, work)

  begun_so : (r : ℕ) (receiver : Receiver) (given : List Handed) (m : MirState) → HasNoNames m → HasNoNames (begun (code_rules c) r receiver given m)
  begun_so r receiver given m ((next, objects, made), frames, callers, pending, work) =
      either (nat_lt c.stack (m.charged + c.charge r)) (fails (tables c) 202 m) _
      (fails_so 202 m ((next, objects, made), frames, callers, pending, work))
      (nameless_given (suc m.world.depth) 0 given _ (next, objects, refl), tt, (made, frames, work, callers), pending, plain r 0)

  called_so : (r : ℕ) (given : List Given) (receiver : Receiver) (m : MirState) → HasNoNames m → HasNoNames (called (code_rules c) (a_routine r) given receiver m)
  called_so r given receiver m h = by (all_handed m.world given)
    where
      by : (x : Reached (List Handed)) → HasNoNames (at_reached (tables c) x (λ xs. goes_in_behind (code_rules c) (a_routine r) receiver xs (outs_of c.core (a_routine r) xs) m) m)
      by (failing error) = fails_so error m h
      by (reached xs) = subst (λ qs. HasNoNames (goes_in_behind (code_rules c) (a_routine r) receiver xs qs m)) (sym (no_outs c.core outs (variables_of c.core r).first xs)) (begun_so r receiver xs m h)

  closes_so : (status : ℕ) (frames : List Frame) (m : MirState) → AreClosings frames → HasNoNames m → HasNoNames (closes status frames m)
  closes_so status [] m closes (w, frames, callers, pending, work) = (w, tt, callers, pending, work)
  closes_so status (closing old ∷ rest) m closes (w, frames, callers, pending, work) = (w, closes, callers, pending, work)
  closes_so status (walk places over waits ∷ rest) m closes h = absurd closes
  closes_so status (destruction i started entered places waits ∷ rest) m closes h = absurd closes
  closes_so status (uncharged frame ∷ rest) m closes h = absurd closes
  closes_so status (calling callee receiver given outs ∷ rest) m closes h = absurd closes
  closes_so status (construction i ∷ rest) m closes h = absurd closes

  received_so : (receiver : Receiver) (v : Value) (w : World) → IsNameless w → IsNameless (received (tables c) receiver v w)
  received_so nowhere v w h = h
  received_so (to_temp t) v w h = h
  received_so (to_place of path) v w h = nameless_at_place c.core none (place_of w path) _ w (λ q. h) h

  returned_so : (cs : List MirCaller) (m : MirState) → AreNameless cs → HasNoNames m → HasNoNames (returned (tables c) cs m)
  returned_so [] m named (w, frames, callers, pending, work) = closes_so 0 m.frames m frames (w, frames, callers, pending, work)
  returned_so (a ∷ cs) m (given, frames, code, others) ((next, objects, made), own, callers, pending, work) =
      (received_so a.receiver _ (record m.world { temps = a.temps; waiting = a.waiting; made = a.made; depth = m.world.depth - 1 }) (next, objects, given), frames, others, pending, code)

  dispatched_so : (n : ℤ) (t k : ℕ) (m : MirState) → HasNoNames m → HasNoNames (dispatched c n t k m)
  dispatched_so (pos zero) t k m h = h
  dispatched_so (pos (suc zero)) t k m h = moved_so (k + 1) m h
  dispatched_so (pos (suc (suc zero))) t k m h = moved_so (k + 2) m h
  dispatched_so (pos (suc (suc (suc zero)))) t k m h = moved_so (k + 3) m h
  dispatched_so (pos (suc (suc (suc (suc zero))))) t k m h = h
  dispatched_so (pos (suc (suc (suc (suc (suc n)))))) t k m h = h
  dispatched_so (negsuc n) t k m h = h

  go_if_so : (block : Option ℕ) (m : MirState) → HasNoNames m → HasNoNames (go_if c block m)
  go_if_so None m h = h
  go_if_so (Some k) m h = moved_so k m h

  execute_so : (i : Instr) (m : MirState) → IsPlainInstr i → HasNoNames m → HasNoNames (execute c i m)
  unfolding execute
  execute_so (do_act a landing) m is (w, frames, callers, pending, work) = (kept_perform IsNameless nameless_kept c.core none ((code_rules c).number m) a m.world is w, frames, callers, pending, work)
  execute_so (do_call r given receiver landing) m is h = called_so r given receiver m h
  execute_so (jump k) m is h = moved_so k m h
  execute_so (when t k) m is h = either _ (go_to c k m) m (moved_so k m h) h
  execute_so (unless t k) m is h = either _ m (go_to c k m) h (moved_so k m h)
  execute_so (switch t arms) m is h = go_if_so (arm_for (number_at m.world t) arms) m h
  execute_so (dispatch t k) m is h = dispatched_so (number_at m.world t) t k m h
  execute_so (make_due f) m is (w, frames, callers, pending, work) = (w, frames, callers, pending, work)
  execute_so (open_temporaries ts) m is h = h
  execute_so (end_temporary t) m is ((next, objects, made), frames, callers, pending, work) = subst (λ made. HasNoNames (ends_among (code_rules c) t made m)) (sym made) ((next, objects, made), frames, callers, pending, work)
  execute_so (stop t) m is (w, frames, callers, pending, work) = closes_so _ m.frames m frames (w, frames, callers, pending, work)
  execute_so ret m is (w, frames, callers, pending, work) = returned_so m.callers m callers (w, frames, callers, pending, work)

  done_so : (is : List Instr) (m : MirState) → IsPlainCode is → HasNoNames m → HasNoNames (mir_done c is m)
  unfolding mir_done
  done_so [] m are h = h
  done_so (i ∷ rest) m are (w, frames, callers, pending, work) = execute_so i (record m { work = rest }) are.0 (w, frames, callers, pending, are.1)

  closed_so : (status : ℕ) (pending : List Pending) (m : MirState) → AreFinalizations pending → HasNoNames m → HasNoNames (closed (code_rules c) status pending m)
  closed_so status [] m finals h = h
  closed_so status (finalize r ∷ pending) m finals (w, frames, callers, others, work) = begun_so r.0 nowhere [] (record m { pending = pending }) (w, frames, callers, finals, work)
  closed_so status (empty_global v ∷ pending) m finals h = absurd finals

  acted_so : (frames : List Frame) (m : MirState) → AreClosings frames → HasNoNames m → HasNoNames (mir_acted c frames m)
  unfolding mir_acted
  acted_so [] m closes (w, frames, callers, pending, work) = done_so m.work m work (w, frames, callers, pending, work)
  acted_so (closing status ∷ rest) m closes (w, frames, callers, pending, work) = closed_so status m.pending m pending (w, frames, callers, pending, work)
  acted_so (walk places over waits ∷ rest) m closes h = absurd closes
  acted_so (destruction i started entered places waits ∷ rest) m closes h = absurd closes
  acted_so (uncharged frame ∷ rest) m closes h = absurd closes
  acted_so (calling callee receiver given outs ∷ rest) m closes h = absurd closes
  acted_so (construction i ∷ rest) m closes h = absurd closes

  stepped_so : (raised : Option ℕ) (m : MirState) → HasNoNames m → HasNoNames (mir_stepped c raised m)
  unfolding mir_stepped
  stepped_so None m (w, frames, callers, pending, work) = acted_so m.frames m frames (w, frames, callers, pending, work)
  stepped_so (Some e) m h = h

  by_ending_so : (e : Ending) (m : MirState) → HasNoNames m → HasNoNames (mir_step_by c e m)
  unfolding mir_step_by
  by_ending_so Running m h = stepped_so m.world.raised m h
  by_ending_so (Ended status) m h = h

  step_so : (m : MirState) → HasNoNames m → HasNoNames (mir_step c m)
  unfolding mir_step
  step_so m h = by_ending_so m.world.ending m h

  run_so : (k : ℕ) (m : MirState) → HasNoNames m → IsNameless (run (mir_machine c) k m).world
  unfolding run
  run_so zero m (w, frames, callers, pending, work) = w
  run_so (suc k) m h = run_so k (mir_step c m) (step_so m h)

-- Whatever step the code of a program has come to, where it is typed and no global variable has to be ended.
pub nameless_run : (c : Code) → c.core.exceptions ≡ None → ((v : ℕ) → emptied_type c.core (slice_get c.core.variables v) ≡ None) → (p : Program) → ((r : ℕ) → AreTypedBlocks c.core r (blocks_in p r)) → ((r : ℕ) → c.blocks r ≡ blocks_in p r) → (input : List ℕ) → first_pending p.core ≡ [] → (k : ℕ) → IsNameless (run (mir_machine c) k (mir_start p input)).world
nameless_run c none outs p typed same input globals k =
    run_so c none outs (λ r b. subst (λ (blocks : List (List Instr)). IsPlainCode (block_at blocks b)) (sym (same r)) (block_plain c.core r (blocks_in p r) b (typed r)))
    k (mir_start p input)
    ((refl, λ n. refl, refl), tt, tt, subst AreFinalizations (sym globals) tt, block_plain c.core (length p.core.routines) (blocks_in p (length p.core.routines)) 0 (typed (length p.core.routines)))
