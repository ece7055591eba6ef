-- A step of the source machine is one or more of managed code, and both begin together.
use Rattle.std.proofs.Common.{◌≡◌, ℕ, zero, suc, ◌+◌, ◌*◌, ◌≤◌, List, [], ◌∷◌, ◌++◌, length, Option, Some, None, inl, inr, refl, sym, ap, ◌∙◌, subst, arith, append_assoc}
use Rattle.std.specs.Prelude.{true, false, slice_get, nat_eq, if◌then◌else◌}
use Rattle.std.specs.List.{flat_map, sum_by}
use Rattle.std.proofs.lemmas.Bool.Decides.{eqb_tells}
use Rattle.op_simulation.specs.Matching.{Stretch}
use Rattle.op_simulation.specs.Path.{Path}
use Rattle.op_simulation.specs.System.{spent}
use Rattle.op_simulation.proofs.Composition.{joins_equal}
use Rattle.op_simulation.proofs.Paths.{path_step, stretch_of_path}
use Rattle.op_simulation.proofs.Points.{agreement}
use Rattle.op_core.specs.declared.ids.RoutineId.{RoutineId}
use Rattle.op_core.specs.declared.ids.Run.{Run}
use Rattle.op_core.specs.declared.program.Core.{Core}
use Rattle.op_core.specs.declared.program.Unit.{Unit as UnitRow}
use Rattle.op_meaning.specs.Actions.{Action, constant, load, store, copy, look, begin_with, pick, arithmetic, compare, negate, complement, invert, absolute, odd, upper, low_bits, check, neighbour, single, span, combine, contains, check_set, primitive}
use Rattle.op_meaning.specs.Costs.{numbers, action_bytes, given_bytes, work_bytes, cost}
use Rattle.op_meaning.specs.Calls.{source_rules}
use Rattle.op_meaning.specs.Ending.{framed}
use Rattle.op_meaning.specs.Frames.{Program, State, Frame, Caller}
use Rattle.op_meaning.specs.Items.{nowhere, act, also, choose, select, loop, body_first, protect, leave, enter, scoped, attempt, throw, rethrow, halt, construct, free, Task, item, mark, turn, finally, resume, catching, scope, handling, leaving, ending, due}
use Rattle.op_meaning.specs.Machine.{step, step_by, stepped, acted, done, do_task}
use Rattle.op_meaning.specs.Start.{start, unit_work}
use Rattle.op_meaning.specs.World.{World, Ending, Running, Ended}
use Rattle.op_mir.specs.Code.{Instr, do_call, make_due, ret, Exits, routine_exits, unit_code, program_blocks, blocks_of, blocks_in, items_of}
use Rattle.op_mir.specs.Going.{At, CallersGo, image, IsUnderWay, Goes}
use Rattle.op_mir.specs.Machine.{code_of, code_rules, MirState, MirCaller, block_at, mir_acted, mir_stepped, mir_step_by, mir_step, mir_cost, mir_cost_by, charge_here, moved, instr_bytes, next_bytes, mir_machine, mir_start, shown_between}
use Rattle.op_mir.specs.Managed.{managed, CodeFollows, CodeAgrees}
use Rattle.op_mir.specs.Plain.{IsPlain, Exists, IfExists, ArePlainUnits, ArePlainFrames, ArePlainPending, closes_first}
use Rattle.op_mir.proofs.BlockLemmas.{has_from, at_block}
use Rattle.op_mir.proofs.CallLemmas.{enter_goes, return_goes}
use Rattle.op_mir.proofs.EndLemmas.{Calm, framed_goes}
use Rattle.op_mir.proofs.ItemLemmas.{act_goes, also_goes, choose_goes, select_goes, loop_goes, body_goes, head_goes, turn_goes, protect_goes, finally_goes, leave_item_goes, resume_goes, leaving_goes, scoped_goes, scope_goes, halt_goes, due_goes}
use Rattle.op_mir.proofs.ShownLemmas.{shown_none, looks_never, shows_between}
use Rattle.op_mir.proofs.StepLemmas.{Here, Reaches, at_most, one_step, price, price_is, silent, under_way}

-- ---- the activation under way acts

-- what a step above moves is more than what its instruction moves
moved_less : (core : Core) (w : World) (a : Action) → moved core a ≤ action_bytes core w a
moved_less core w (constant to n) = omega arith
moved_less core w (load to kind from) = omega arith
moved_less core w (store to kind from) = omega arith
moved_less core w (copy of to from) = omega arith
moved_less core w (look at) = omega arith
moved_less core w (begin_with v of value) = omega arith
moved_less core w (pick to chars index) = omega arith
moved_less core w (arithmetic o checked to a b) = omega arith
moved_less core w (compare o to a b) = omega arith
moved_less core w (negate checked to a) = omega arith
moved_less core w (complement to a) = omega arith
moved_less core w (invert to a) = omega arith
moved_less core w (absolute checked to a) = omega arith
moved_less core w (odd to a) = omega arith
moved_less core w (upper to a) = omega arith
moved_less core w (low_bits kind to a) = omega arith
moved_less core w (check low high to a) = omega arith
moved_less core w (neighbour distance low high to a) = omega arith
moved_less core w (single to a) = omega arith
moved_less core w (span to a b) = omega arith
moved_less core w (combine o to a b) = omega arith
moved_less core w (contains to a b) = omega arith
moved_less core w (check_set all to a) = omega arith
moved_less core w (primitive p operands to) = omega arith

module _ (p : Program) (s t : State) (from : MirState) (work : List Task) where
  -- at no more than what the work costs above
  light : Reaches p 1 0 s t from → Reaches p 3 (work_bytes p.core s.world s.routine work) s t from
  light r = at_most p 1 3 0 (work_bytes p.core s.world s.routine work) s t from (omega arith) (omega arith) r

  longer : Reaches p 3 0 s t from → Reaches p 3 (work_bytes p.core s.world s.routine work) s t from
  longer r = at_most p 3 3 0 (work_bytes p.core s.world s.routine work) s t from (omega arith) (omega arith) r

  heavy : (bytes : ℕ) → bytes ≤ work_bytes p.core s.world s.routine work → Reaches p 1 bytes s t from → Reaches p 3 (work_bytes p.core s.world s.routine work) s t from
  heavy bytes le r = at_most p 1 3 bytes (work_bytes p.core s.world s.routine work) s t from (omega arith) le r

task_goes : (p : Program) → IsPlain p → (s : State) (ms : List MirCaller) (out : Exits) (work : List Task) (rest : List Instr) → s.work ≡ work → Here p s ms → At p (blocks_in p s.routine) out work rest → Reaches p 3 (work_bytes p.core s.world s.routine work) s (done p work s) (image s rest ms)
unfolding done do_task
task_goes p plain s ms out [] rest e h at = heavy p s _ _ [] (instr_bytes p.core s.routine ret) (omega arith) (return_goes p plain s ms out rest h at)
task_goes p plain s ms out (item (act a) ∷ w) rest e h at = heavy p s _ _ (item (act a) ∷ w) (moved p.core a) (moved_less p.core s.world a) (act_goes p plain s ms a out w rest h at)
task_goes p plain s ms out (item (also truth t is) ∷ w) rest e h at = light p s _ _ (item (also truth t is) ∷ w) (also_goes p s ms truth t is out w rest h at)
task_goes p plain s ms out (item (choose t a b) ∷ w) rest e h at = light p s _ _ (item (choose t a b) ∷ w) (choose_goes p s ms t a b out w rest h at)
task_goes p plain s ms out (item (select t a b) ∷ w) rest e h at = light p s _ _ (item (select t a b) ∷ w) (select_goes p s ms t a b out w rest h at)
task_goes p plain s ms out (item (loop l) ∷ w) rest e h at = light p s _ _ (item (loop l) ∷ w) (loop_goes p s ms l out w rest h at)
task_goes p plain s ms out (item (body_first l) ∷ w) rest e h at = light p s _ _ (item (body_first l) ∷ w) (body_goes p s ms l out w rest h at)
task_goes p plain s ms out (item (protect t is ts) ∷ w) rest e h at = light p s _ _ (item (protect t is ts) ∷ w) (protect_goes p s ms t is ts out w rest h at)
task_goes p plain s ms out (item (leave n) ∷ w) rest e h at = longer p s _ _ (item (leave n) ∷ w) (leave_item_goes p s ms n out w rest h at)
task_goes p plain s ms out (item (enter r given receiver) ∷ w) rest e h at = heavy p s _ _ (item (enter r given receiver) ∷ w) (sum_by (given_bytes p.core) given) (omega arith) (enter_goes p plain s ms r given receiver out w rest h at)
task_goes p plain s ms out (item (halt t) ∷ w) rest e h at = light p s _ _ (item (halt t) ∷ w) (halt_goes p s ms t out w rest h at)
task_goes p plain s ms out (item (scoped t ts is) ∷ w) rest e h at = light p s _ _ (item (scoped t ts is) ∷ w) (scoped_goes p s ms t ts is out w rest h at)
task_goes p plain s ms out (item (attempt is cs) ∷ w) rest e h (behind, pi, st, at) = absurd pi
task_goes p plain s ms out (item (throw t) ∷ w) rest e h (behind, pi, st, at) = absurd pi
task_goes p plain s ms out (item rethrow ∷ w) rest e h (behind, pi, st, at) = absurd pi
task_goes p plain s ms out (item (construct c r given to) ∷ w) rest e h (behind, pi, st, at) = absurd pi
task_goes p plain s ms out (item (free takes_nil t) ∷ w) rest e h (behind, pi, st, at) = absurd pi
task_goes p plain s ms out (mark l ∷ w) rest e h (outer, k, behind, pl, o, comes, hs, at) = light p s _ _ (mark l ∷ w) (head_goes p s ms l outer w behind rest k h pl comes hs at)
task_goes p plain s ms out (turn l ∷ w) rest e h at = light p s _ _ (turn l ∷ w) (turn_goes p s ms l out w rest h at)
task_goes p plain s ms out (finally t ts ∷ w) rest e h at = light p s _ _ (finally t ts ∷ w) (finally_goes p s ms t ts out w rest h at)
task_goes p plain s ms out (resume t ∷ w) rest e h at = longer p s _ _ (resume t ∷ w) (resume_goes p s ms t out w rest h at)
task_goes p plain s ms out (due f ∷ w) rest e h at = light p s _ _ (due f ∷ w) (due_goes p s ms f out w rest h at)
task_goes p plain s ms out (catching cs ∷ w) rest e h at = absurd at
task_goes p plain s ms out (handling i ∷ w) rest e h at = absurd at
task_goes p plain s ms out (scope t ts ∷ w) rest e h at = light p s _ _ (scope t ts ∷ w) (scope_goes p plain s ms t ts out w rest h at)
task_goes p plain s ms out (leaving zero ∷ w) rest e h at = absurd at
task_goes p plain s ms out (leaving (suc n) ∷ w) rest e h at = longer p s _ _ (leaving (suc n) ∷ w) (leaving_goes p s ms n out w rest h at)
task_goes p plain s ms out (ending vs result ∷ w) rest e h at = absurd at

-- ---- a frame acts

-- a step without an instruction of the code
by_itself : (p : Program) (s t : State) (ms : List MirCaller) (from last : MirState) (frame : Frame) (others : List Frame) → from.world ≡ s.world → from.routine ≡ s.routine → from.frames ≡ frame ∷ others → s.world.ending ≡ Running → CallersGo p s.callers from.callers → mir_step (code_of p) from ≡ last → Goes p t last → Reaches p 3 0 s t from
by_itself p s t ms from last frame others world here is running waits step goes =
    let after : last.world ≡ t.world = ap (λ (m : MirState). m.world) goes.same in
    let goes_on : from.world.ending ≡ Running = ap (λ (w : World). w.ending) world ∙ running in
    let shows =
    ap (λ l. shown_between p.core l from.world (mir_step (code_of p) from).world) (looks_never from.work from.frames)
    ∙ ap (λ (m : MirState). shown_between p.core false from.world m.world) step
    ∙ ap (λ w. shown_between p.core false w last.world) world
    ∙ ap (λ w. shown_between p.core false s.world w) after in
    let moves : next_bytes p.core from.routine from.work from.frames ≡ 0 = ap (λ f. next_bytes p.core from.routine from.work f) is in
    let cost = price_is p s t ms from last 0 world here moves waits goes in
    let none : price p s t 0 ≡ silent p s 0 + price p s t 0 = omega arith in
    let r : Reaches p 0 0 s t from = record { more = 0; last = last; goes = goes; steps = one_step p from last _ (silent p s 0 + price p s t 0) goes_on step shows (cost ∙ none) } in
    at_most p 0 3 0 0 s t from (omega arith) (omega arith) r

frame_goes : (p : Program) → IsPlain p → (s : State) (ms : List MirCaller) (rest : List Instr) (frame : Frame) (others : List Frame) → s.frames ≡ frame ∷ others → s.world.ending ≡ Running → IsUnderWay p s rest → ArePlainFrames s.frames → CallersGo p s.callers ms → ArePlainPending p s.pending → Reaches p 3 0 s (framed (source_rules p) frame others s) (image s rest ms)
unfolding mir_step mir_step_by mir_stepped mir_acted
frame_goes p plain s ms rest frame others is running under frames callers pending =
    let m = image s rest ms in
    let calm : Calm p s ms rest = record { world = under.world; out = under.out; at = under.at; frames = frames; callers = callers; pending = pending } in
    let steps_to : mir_step (code_of p) m ≡ framed (code_rules (code_of p)) frame others m =
    ap (λ e. mir_step_by (code_of p) e m) running ∙ ap (λ o. mir_stepped (code_of p) o m) under.world.raised ∙ ap (λ f. mir_acted (code_of p) f m) is in
    by_itself p s (framed (source_rules p) frame others s) ms m _ frame others refl refl is running callers steps_to (framed_goes p plain ms rest frame others s is calm)

-- ---- a step

-- what the step moves above
abbrev acting : Program → State → List Frame → ℕ
acting p s [] = work_bytes p.core s.world s.routine s.work
acting p s (frame ∷ rest) = numbers 1

frames_go : (p : Program) → IsPlain p → (s : State) (ms : List MirCaller) (rest : List Instr) (frames : List Frame) → s.frames ≡ frames → s.world.ending ≡ Running → IsUnderWay p s rest → ArePlainFrames frames → CallersGo p s.callers ms → ArePlainPending p s.pending → Reaches p 3 (acting p s frames) s (acted p frames s) (image s rest ms)
unfolding acted
frames_go p plain s ms rest [] is running under plain_frames callers pending =
    task_goes p plain s ms under.out s.work rest refl (record { running = running; world = under.world; frames = is; callers = callers; pending = pending }) (under.at (ap closes_first is))
frames_go p plain s ms rest (frame ∷ others) is running under plain_frames callers pending =
    at_most p 3 3 0 (numbers 1) s (framed (source_rules p) frame others s) (image s rest ms) (omega arith) (omega arith) (frame_goes p plain s ms rest frame others is running under (subst ArePlainFrames (sym is) plain_frames) callers pending)

step_goes : (p : Program) → IsPlain p → (s : State) (m : MirState) → s.world.ending ≡ Running → Goes p s m → Reaches p 3 (acting p s s.frames) s (step p s) m
unfolding step step_by stepped
step_goes p plain s m running g =
    let under = g.goes_on running in
    let r = frames_go p plain s m.callers m.work s.frames refl running under g.frames g.callers g.pending in
    let above : step_by p s.world.ending s ≡ acted p s.frames s = ap (λ e. step_by p e s) running ∙ ap (λ o. stepped p o s) under.world.raised in
    subst (λ x. Reaches p 3 (acting p s s.frames) s (step_by p s.world.ending s) x) (sym g.same)
    (subst (λ t. Reaches p 3 (acting p s s.frames) s t (image s m.work m.callers)) (sym above) r)

-- ---- costs

dear : (a b c d e x y u : ℕ) → u ≡ d → 1 + a + b + u + e ≤ 1 + (a + b + c) + d + e + x + y
dear a b c d e x y u same = omega arith

abbrev charge_above : Program → ℕ → List Caller → ℕ
charge_above p r [] = 0
charge_above p r (c ∷ cs) = p.charge r

charge_same : (p : Program) (r : ℕ) (cs : List Caller) → charge_here p.charge (length cs) r ≡ charge_above p r cs
charge_same p r [] = refl
charge_same p r (c ∷ cs) = refl

-- the price is no more than the cost above
price_fits : (p : Program) (s : State) → s.world.ending ≡ Running → price p s (step p s) (acting p s s.frames) ≤ cost p s
price_fits p s running = rw running (dear _ _ _ _ _ _ _ _ (charge_same p s.routine s.callers))

at_least_one : (a b c u : ℕ) → 1 + u ≤ 1 + a + b + u + c
at_least_one a b c u = omega arith

scaled : (x y u : ℕ) → 1 + u ≤ x → x ≤ y → 3 * (1 + u) + x ≤ 4 * y
scaled x y u one le = omega arith

-- ---- the agreement

running_stretch : (p : Program) → IsPlain p → (s : State) (m : MirState) → s.world.ending ≡ Running → Goes p s m → Stretch (managed p) s m
running_stretch p plain s m running g =
    let r = step_goes p plain s m running g in
    let most = price p s (step p s) (acting p s s.frames) in
    stretch_of_path (managed p) s m r.last r.more _ (silent p s 3 + most) r.steps r.goes (shows_between p s) (scaled most (cost p s) (under_way p s) (at_least_one _ _ _ _) (price_fits p s running))

-- what has ended stays
ended_stretch : (p : Program) (s : State) (m : MirState) (status : ℕ) → s.world.ending ≡ Ended status → Goes p s m → Stretch (managed p) s m
unfolding step step_by mir_step mir_step_by
ended_stretch p s m status ended g =
    let M = mir_machine (code_of p) in
    let above : step_by p s.world.ending s ≡ s = ap (λ e. step_by p e s) ended in
    let world : m.world ≡ s.world = ap (λ (x : MirState). x.world) g.same in
    let over : m.world.ending ≡ Ended status = ap (λ (w : World). w.ending) world ∙ ended in
    let below : mir_step_by (code_of p) m.world.ending m ≡ m = ap (λ e. mir_step_by (code_of p) e m) over in
    let q = path_step M (λ x. Unit {0}) m tt in
    let silent =
    ap (λ l. shown_between p.core l m.world (mir_step_by (code_of p) m.world.ending m).world) (looks_never m.work m.frames)
    ∙ ap (λ (x : MirState). shown_between p.core false m.world x.world) below
    ∙ shown_none p.core m.world m.world.temps in
    let free : mir_cost (code_of p) m ≡ 0 = ap (λ e. mir_cost_by (code_of p) m e) over in
    let path : Path M (λ x. Unit {0}) m m 1 [] 0 = record { ends = q.ends ∙ below; shows = q.shows ∙ silent; within = subst (λ n. spent M 1 m ≤ n) free q.within; moments = λ j less. tt } in
    let shown = shows_between p s ∙ ap (λ (x : State). shown_between p.core false s.world x.world) above ∙ shown_none p.core s.world s.world.temps in
    stretch_of_path (managed p) s m m 0 [] 0 path (subst (λ x. Goes p x m) (sym above) g) shown (omega arith)

stretch : (p : Program) → IsPlain p → (s : State) (m : MirState) (e : Ending) → s.world.ending ≡ e → Goes p s m → Stretch (managed p) s m
stretch p plain s m Running is g = running_stretch p plain s m is g
stretch p plain s m (Ended status) is g = ended_stretch p s m status is g

pub code_follows : CodeFollows
code_follows p plain = record { go = λ s m g. stretch p plain s m s.world.ending refl g }

-- ---- the beginning

-- the program itself enters the parts of its units
module _ (p : Program) (bs : List (List Instr)) where
  at_enter : (r : ℕ) (work : List Task) (behind : List Instr) → Exists p r → At p bs routine_exits work behind → At p bs routine_exits (item (enter r [] nowhere) ∷ work) (do_call r [] nowhere None ∷ behind)
  at_enter r work behind exists at = (behind, exists, record { k = 0; comes = inl refl; blocks = tt }, at)

  at_due : (f : RoutineId) (work : List Task) (behind : List Instr) → Exists p f.0 → At p bs routine_exits work behind → At p bs routine_exits (due f ∷ work) (make_due f ∷ behind)
  at_due f work behind exists at = (behind, exists, inl refl, at)

  at_unit : (name : List ℕ) (globals : Run) (first last : Option RoutineId) (work : List Task) (behind : List Instr) → IfExists p first → IfExists p last → At p bs routine_exits work behind → let u : UnitRow = record { name = name; globals = globals; initialization = first; finalization = last } in At p bs routine_exits (unit_work u ++ work) (unit_code u ++ behind)
  at_unit name globals None None work behind hf hl at = at
  at_unit name globals None (Some f) work behind hf hl at = at_due f work behind hl at
  at_unit name globals (Some r) None work behind hf hl at = at_enter r.0 work behind hf at
  at_unit name globals (Some r) (Some f) work behind hf hl at = at_enter r.0 (due f ∷ work) (make_due f ∷ behind) hf (at_due f work behind hl at)

  at_units : slice_get bs 1 ≡ Some (ret ∷ []) → (us : List UnitRow) → ArePlainUnits p us → At p bs routine_exits (flat_map unit_work us) (flat_map unit_code us ++ ret ∷ [])
  at_units e [] h = (refl, e, inl refl)
  at_units e (u ∷ us) h =
      let rest = at_unit u.name u.globals u.initialization u.finalization (flat_map unit_work us) (flat_map unit_code us ++ ret ∷ []) h.0 h.1 (at_units e us h.2) in
      subst (At p bs routine_exits (flat_map unit_work (u ∷ us))) (sym (append_assoc (unit_code u) (flat_map unit_code us) (ret ∷ []))) rest

begins : (p : Program) → IsPlain p → (input : List ℕ) → Goes p (start p input) (mir_start p input)
begins p plain input =
    let n = length p.core.routines in
    let bs = program_blocks p in
    let own : nat_eq n n ≡ true = elim (eqb_tells n n) [ inl same ↦ same.0 | inr other ↦ absurd (other.1 refl) ] in
    let code : blocks_in p n ≡ bs = ap (λ b. if b then bs else blocks_of (items_of p n)) own in
    let first = flat_map unit_code p.core.units ++ ret ∷ [] in
    let all = at_units p bs (has_from (first ∷ []) ((ret ∷ []) ∷ [])).0 p.core.units plain.units in
    let there = at_block p bs routine_exits (flat_map unit_work p.core.units) 0 first (has_from [] bs).0 all in
    let at = subst (λ x. At p x routine_exits (flat_map unit_work p.core.units) (block_at x 0)) (sym code) there in
    record {
      same = refl;
      goes_on = λ running. record { world = record { raised = refl; waiting = λ t. refl }; out = routine_exits; at = λ e. at };
      frames = tt;
      callers = tt;
      pending = subst (ArePlainPending p) (sym plain.globals) tt;
    }

pub code_agrees : CodeAgrees
code_agrees p plain input = agreement (managed p) (code_follows p plain) joins_equal (start p input) (mir_start p input) (begins p plain input)
