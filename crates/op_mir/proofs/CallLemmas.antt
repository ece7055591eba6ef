-- Calls and returns, and the closing of a program.
use Rattle.std.proofs.Common.{◌≡◌, ℕ, ◌+◌, ◌-◌, List, [], ◌∷◌, refl, sym, ap, ◌∙◌, subst, suc, ap₂, Some, None}
use Rattle.std.specs.Prelude.{Bool, true, false, nat_lt, if◌then◌else◌, ◌++◌, slice_get}
use Rattle.std.specs.List.{sum_by}
use Rattle.op_core.specs.declared.program.Core.{Core}
use Rattle.op_meaning.specs.Calls.{all_handed, spot_at, outs_from, outs_of, entered, received, result_in, begun, goes_in_behind, caller_of, body_work, env_of, gone_back, source_rules, emptied_type}
use Rattle.op_meaning.specs.Costs.{given_bytes}
use Rattle.op_meaning.specs.Expressions.{first_here}
use Rattle.op_meaning.specs.Frames.{Program, State, Caller, closing, with_work, with_frames, fails, at_reached, a_routine, Handed, a_value, a_place}
use Rattle.op_meaning.specs.Items.{Given, Receiver, enter, Task, item, onto}
use Rattle.op_meaning.specs.Machine.{do_item, returned}
use Rattle.op_meaning.specs.Shapes.{variables_of}
use Rattle.op_meaning.specs.Statements.{first_items, work_of_all}
use Rattle.op_meaning.specs.Unwinding.{closes}
use Rattle.op_meaning.specs.Values.{Reached, reached, failing}
use Rattle.op_meaning.specs.World.{Running, Ended}
use Rattle.op_mir.specs.Code.{Instr, do_call, ret, Exits, routine_exits, blocks_of, blocks_in, items_of}
use Rattle.op_mir.specs.Going.{At, CallerGoes, CallersGo, image, Goes}
use Rattle.op_mir.specs.Machine.{code_of, code_rules, tables, MirCaller, block_at, instr_bytes, execute}
use Rattle.op_mir.specs.Plain.{IsPlain, Exists, IsUnraised, ArePlainFrames, ArePlainPending, closes_first}
use Rattle.op_mir.proofs.BlockLemmas.{at_beginning, blocks_of_routine, onto_both}
use Rattle.op_mir.proofs.PlainLemmas.{unraised_entered, unraised_received, failed_ended}
use Rattle.op_mir.proofs.StepLemmas.{Reaches, Here, advance}

-- ---- an activation begins

-- the code of a routine's body stands at its first block
body_stands : (p : Program) → IsPlain p → (r : ℕ) → Exists p r → At p (blocks_in p r) routine_exits (body_work p r) (block_at (blocks_in p r) 0)
body_stands p plain r exists =
    let items = items_of p r in
    let first = first_items p.core p.first r (variables_of p.core r).count in
    let body = work_of_all (env_of p r) first_here (p.body r) in
    let same : onto items [] ≡ body_work p r = onto_both first body [] ∙ ap (λ x. onto first (onto body x)) (sym (plain.endings r)) in
    let code = blocks_of_routine p r exists in
    let there = at_beginning p items (plain.bodies r) in
    subst (λ bs. At p bs routine_exits (body_work p r) (block_at bs 0)) (sym code)
    (subst (λ work. At p (blocks_of items) routine_exits work (block_at (blocks_of items) 0)) same there)

-- what an error ends goes on no more
pub ended_goes : (p : Program) (s : State) (ms : List MirCaller) (rest : List Instr) (status : ℕ) → s.world.ending ≡ Ended status → ArePlainFrames s.frames → CallersGo p s.callers ms → ArePlainPending p s.pending → Goes p s (image s rest ms)
ended_goes p s ms rest status ended frames callers pending = record {
  same = refl;
  goes_on = λ running. let e : Running ≡ Ended status = sym running ∙ ended in absurd (cc e);
  frames = frames;
  callers = callers;
  pending = pending;
}

pub begun_goes : (p : Program) → IsPlain p → (s : State) (ms : List MirCaller) (r : ℕ) (receiver : Receiver) (given : List Handed) (out : Exits) (behind : List Instr) → Exists p r → IsUnraised s.world → ArePlainFrames s.frames → CallersGo p s.callers ms → ArePlainPending p s.pending → (closes_first s.frames ≡ false → At p (blocks_in p s.routine) out s.work behind) → Goes p (begun (source_rules p) r receiver given s) (begun (code_rules (code_of p)) r receiver given (image s behind ms))
begun_goes p plain s ms r receiver given out behind exists world frames callers pending at = by (nat_lt p.stack (s.charged + p.charge r))
  where
    x : MirCaller
    x = caller_of (image s behind ms) receiver

    y : Caller
    y = caller_of s receiver

    u : State
    u = record s { world = entered p r given s.world; routine = r; work = body_work p r; frames = []; callers = y ∷ s.callers; charged = s.charged + p.charge r }

    waits : CallerGoes p y x
    waits = record { plain = record { waiting = world.waiting; frames = frames }; out = out; same = refl; at = at }

    by : (b : Bool) → Goes p (if b then fails p 202 s else u) (if b then image (fails p 202 s) behind ms else image u (block_at (blocks_in p r) 0) (x ∷ ms))
    by true = ended_goes p (fails p 202 s) ms behind 202 (failed_ended p.core plain.exceptions 202 s.world) frames callers pending
    by false = record {
      same = refl;
      goes_on = λ running. record { world = unraised_entered p r given s.world world; out = routine_exits; at = λ e. body_stands p plain r exists };
      frames = tt;
      callers = (waits, callers);
      pending = pending;
    }

-- nothing is emptied
pub no_outs : (core : Core) → ((v : ℕ) → emptied_type core (slice_get core.variables v) ≡ None) → (v : ℕ) (given : List Handed) → outs_from core v given ≡ []
no_outs core none v [] = refl
no_outs core none v (a_value x ∷ given) = no_outs core none (suc v) given
no_outs core none v (a_place q ∷ given) = ap₂ (λ o qs. spot_at q o ++ qs) (none v) (no_outs core none (suc v) given)

called_goes : (p : Program) → IsPlain p → (s : State) (ms : List MirCaller) (r : ℕ) (receiver : Receiver) (given : Reached (List Handed)) (out : Exits) (behind : List Instr) → Exists p r → Here p s ms → At p (blocks_in p s.routine) out s.work behind → Goes p (at_reached p given (λ xs. goes_in_behind (source_rules p) (a_routine r) receiver xs (outs_of p.core (a_routine r) xs) s) s) (at_reached (tables (code_of p)) given (λ xs. goes_in_behind (code_rules (code_of p)) (a_routine r) receiver xs (outs_of p.core (a_routine r) xs) (image s behind ms)) (image s behind ms))
called_goes p plain s ms r receiver (failing error) out behind exists h at =
    ended_goes p (fails p error s) ms behind error (failed_ended p.core plain.exceptions error s.world) (subst ArePlainFrames (sym h.frames) tt) h.callers h.pending
called_goes p plain s ms r receiver (reached given) out behind exists h at =
    subst (λ qs. Goes p (goes_in_behind (source_rules p) (a_routine r) receiver given qs s) (goes_in_behind (code_rules (code_of p)) (a_routine r) receiver given qs (image s behind ms))) (sym (no_outs p.core plain.outs (variables_of p.core r).first given))
    (begun_goes p plain s ms r receiver given out behind exists h.world (subst ArePlainFrames (sym h.frames) tt) h.callers h.pending (λ e. at))

pub enter_goes : (p : Program) → IsPlain p → (s : State) (ms : List MirCaller) (r : ℕ) (given : List Given) (receiver : Receiver) (out : Exits) (work : List Task) (rest : List Instr) → Here p s ms → At p (blocks_in p s.routine) out (item (enter r given receiver) ∷ work) rest → Reaches p 1 (sum_by (given_bytes p.core) given) s (do_item p (enter r given receiver) work s) (image s rest ms)
unfolding do_item execute
enter_goes p plain s ms r given receiver out work rest h (behind, pi, st, at) =
    let here : Here p (with_work work s) ms = record { running = h.running; world = h.world; frames = h.frames; callers = h.callers; pending = h.pending } in
    advance p s _ ms rest (do_call r given receiver None) behind h st.comes
    (called_goes p plain (with_work work s) ms r receiver (all_handed s.world given) out behind pi here at)

-- ---- an activation returns

pub return_goes : (p : Program) → IsPlain p → (s : State) (ms : List MirCaller) (out : Exits) (rest : List Instr) → Here p s ms → At p (blocks_in p s.routine) out [] rest → Reaches p 1 (instr_bytes p.core s.routine ret) s (returned p s.callers s) (image s rest ms)
unfolding execute
return_goes p plain s ms out rest h (o, e, comes) = by s.callers ms h.callers h.callers (λ t g. advance p s t ms rest ret [] h comes g)
  where
    by : (ss : List Caller) (ms' : List MirCaller) → CallersGo p ss ms' → CallersGo p s.callers ms → ((t : State) → Goes p t (returned (tables (code_of p)) ms' (image s [] ms)) → Reaches p 1 (instr_bytes p.core s.routine ret) s t (image s rest ms)) → Reaches p 1 (instr_bytes p.core s.routine ret) s (returned p ss s) (image s rest ms)
    by [] [] cs all go =
        let u = with_frames (closing 0 ∷ []) s in
        let below : closes 0 s.frames (image s [] ms) ≡ image u [] ms = ap (λ f. closes 0 f (image s [] ms)) h.frames in
        let above : u ≡ closes 0 s.frames s = ap (λ f. closes 0 f s) (sym h.frames) in
        let goes : Goes p u (image u [] ms) = record { same = refl; goes_on = λ running. record { world = h.world; out = out; at = λ none. absurd (cc none) }; frames = (tt, tt); callers = all; pending = h.pending } in
        subst (λ v. Reaches p 1 (instr_bytes p.core s.routine ret) s v (image s rest ms)) above (go u (subst (λ m. Goes p u m) (sym below) goes))
    by (y ∷ ys) (x ∷ xs) (g, gs) all go =
        let w = received p y.receiver (result_in p s.routine s.world) (record s.world { temps = y.temps; waiting = y.waiting; made = y.made; depth = s.world.depth - 1 }) in
        let plain_w : IsUnraised w = unraised_received p.core plain.exceptions p refl y.receiver (result_in p s.routine s.world) (record s.world { temps = y.temps; waiting = y.waiting; made = y.made; depth = s.world.depth - 1 }) (record { raised = h.world.raised; waiting = g.plain.waiting }) in
        let below = ap (λ z. returned (tables (code_of p)) (z ∷ xs) (image s [] ms)) g.same in
        go (gone_back p y ys s) (record { same = below; goes_on = λ running. record { world = plain_w; out = g.out; at = g.at }; frames = g.plain.frames; callers = gs; pending = h.pending })
    by [] (x ∷ xs) cs all go = absurd cs
    by (y ∷ ys) [] cs all go = absurd cs
