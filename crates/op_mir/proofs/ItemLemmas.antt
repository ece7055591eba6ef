-- Each item and each task of the plain class, but for calls and returns: its step is reached by code.
use Rattle.std.proofs.Common.{◌≡◌, ℕ, zero, suc, ◌+◌, List, [], ◌∷◌, ◌++◌, length, Some, None, inl, refl, sym, ap, ◌∙◌, subst, arith}
use Rattle.std.specs.Prelude.{ℤ, pos, negsuc, Bool, true, false, slice_get, if◌then◌else◌}
use Rattle.std.specs.Int.{int_wrap}
use Rattle.std.specs.List.{list_any}
use Rattle.op_core.specs.declared.ids.RoutineId.{RoutineId}
use Rattle.op_meaning.specs.Actions.{Action, constant, perform}
use Rattle.op_meaning.specs.Calls.{source_rules}
use Rattle.op_meaning.specs.Frames.{Program, State, closing, with_work, with_frames}
use Rattle.op_meaning.specs.Items.{act, also, choose, select, loop, body_first, protect, leave, scoped, halt, Items, Turns, turns, head_of, body_of, Cases, no_cases, cases, Task, item, mark, turn, finally, resume, catching, scope, handling, leaving, ending, due, onto}
use Rattle.op_meaning.specs.Leaving.{left, resumed}
use Rattle.op_meaning.specs.Machine.{do_item, do_task, scope_on, turned, another_turn, selected, label_has, low_eight}
use Rattle.op_meaning.specs.Numbers.{is_true, wrapped}
use Rattle.op_meaning.specs.Unwinding.{closes}
use Rattle.op_meaning.specs.World.{Temporary, number_at, with_number}
use Rattle.op_mir.specs.Code.{Instr, do_act, jump, when, unless, switch, dispatch, make_due, open_temporaries, end_temporary, stop, Exits, loop_exits, finally_exits, scope_exits, ends, routine_exits, continued, branch_if, branch_unless, code, code_cases, to_body, between_code, blocks_in}
use Rattle.op_mir.specs.Going.{Has, Comes, LoopStands, FinallyStands, At, image, Goes}
use Rattle.op_mir.specs.Machine.{code_of, code_rules, MirState, MirCaller, block_at, block_or, go_to, go_if, arm_for, dispatched, moved, execute}
use Rattle.op_mir.specs.Plain.{IsPlain, ArePlain, ArePlainTurns, ArePlainCases, IsWay, IsUnraised, ArePlainFrames}
use Rattle.op_mir.proofs.BlockLemmas.{has_front, has_back, at_continued, at_block, at_onto}
use Rattle.op_mir.proofs.EndLemmas.{Calm, ends_made_goes}
use Rattle.op_mir.proofs.PlainLemmas.{plain_same, unraised_kept, unraised_perform}
use Rattle.op_mir.proofs.ShownLemmas.{shown_none}
use Rattle.op_mir.proofs.StepLemmas.{Reaches, Here, Steps, one, quiet, silent, before, at_most, come, advance, goes_at, goes_with, if_goes}

-- ---- actions and choices

pub act_goes : (p : Program) → IsPlain p → (s : State) (ms : List MirCaller) (a : Action) (out : Exits) (work : List Task) (rest : List Instr) → Here p s ms → At p (blocks_in p s.routine) out (item (act a) ∷ work) rest → Reaches p 1 (moved p.core a) s (do_item p (act a) work s) (image s rest ms)
unfolding do_item execute
act_goes p plain s ms a out work rest h (behind, pi, st, at) =
    let m = image s behind ms in
    let same = plain_same p.core ((source_rules p).number s) ((code_rules (code_of p)).number m) a s.world pi in
    advance p s _ ms rest (do_act a None) behind h st.comes
    (subst (λ v. Goes p (record s { world = perform p.core ((source_rules p).number s) a s.world; work = work }) (record m { world = v })) same
    (goes_at p s ms h _ (unraised_perform p.core plain.exceptions ((source_rules p).number s) a s.world pi h.world) work out behind at))

pub also_goes : (p : Program) (s : State) (ms : List MirCaller) (truth : Bool) (t : ℕ) (items : Items) (out : Exits) (work : List Task) (rest : List Instr) → Here p s ms → At p (blocks_in p s.routine) out (item (also truth t items) ∷ work) rest → Reaches p 1 0 s (do_item p (also truth t items) work s) (image s rest ms)
unfolding do_item execute
also_goes p s ms truth t items out work rest h (behind, pi, st, at) =
    let bs = blocks_in p s.routine in
    let k = st.k in
    let a = code out items (k + 1) (continued k behind) in
    let inner = goes_with p s ms h (onto items work) out a.now (at_onto p bs out items work (k + 1) (continued k behind) pi st.blocks.1 (at_continued p bs out work k behind st.blocks.0 at)) in
    let over = goes_with p s ms h work out (block_at bs k) (at_block p bs out work k behind st.blocks.0 at) in
    by truth st.comes inner over
  where
    by : (truth : Bool) → Comes (blocks_in p s.routine) rest (branch_unless truth t st.k ∷ (code out items (st.k + 1) (continued st.k behind)).now) → Goes p (with_work (onto items work) s) (image s (code out items (st.k + 1) (continued st.k behind)).now ms) → Goes p (with_work work s) (image s (block_at (blocks_in p s.routine) st.k) ms) → Reaches p 1 0 s (do_item p (also truth t items) work s) (image s rest ms)
    by true comes inner over = advance p s _ ms rest (unless t st.k) _ h comes (if_goes p (is_true (number_at s.world t)) s _ _ _ _ inner over)
    by false comes inner over = advance p s _ ms rest (when t st.k) _ h comes (if_goes p (is_true (number_at s.world t)) s _ _ _ _ over inner)

pub choose_goes : (p : Program) (s : State) (ms : List MirCaller) (t : ℕ) (a b : Items) (out : Exits) (work : List Task) (rest : List Instr) → Here p s ms → At p (blocks_in p s.routine) out (item (choose t a b) ∷ work) rest → Reaches p 1 0 s (do_item p (choose t a b) work s) (image s rest ms)
unfolding do_item execute
choose_goes p s ms t a b out work rest h (behind, pi, st, at) =
    let bs = blocks_in p s.routine in
    let k = st.k in
    let mb = code out b (k + 2) (continued k behind) in
    let ma = code out a (k + 2 + length mb.blocks) (continued k behind) in
    let e : k + 1 + 1 ≡ k + 2 = omega arith in
    let parts = subst (λ n. Has bs n (mb.blocks ++ ma.blocks)) e st.blocks.1.1 in
    let joined = at_continued p bs out work k behind st.blocks.0 at in
    let first = at_onto p bs out a work (k + 2 + length mb.blocks) (continued k behind) pi.0 (has_back bs (k + 2) mb.blocks ma.blocks parts) joined in
    let other = at_onto p bs out b work (k + 2) (continued k behind) pi.1 (has_front bs (k + 2) mb.blocks ma.blocks parts) joined in
    let there = at_block p bs out (onto b work) (k + 1) mb.now st.blocks.1.0 other in
    advance p s _ ms rest (unless t (k + 1)) ma.now h st.comes
    (if_goes p (is_true (number_at s.world t)) s (onto a work) (onto b work) _ _ (goes_with p s ms h (onto a work) out ma.now first) (goes_with p s ms h (onto b work) out (block_at bs (k + 1)) there))

-- the arm that is chosen leads to the items that are
arm_goes : (p : Program) (s : State) (ms : List MirCaller) (cs : Cases) (others : Items) (out : Exits) (work : List Task) (k : ℕ) (behind otherwise : List Instr) (n : ℤ) → Here p s ms → ArePlainCases p cs → At p (blocks_in p s.routine) out (onto others work) otherwise → At p (blocks_in p s.routine) out work behind → Has (blocks_in p s.routine) k (code_cases out cs k behind).1 → Goes p (with_work (onto (selected n cs others) work) s) (go_if (code_of p) (arm_for n (code_cases out cs k behind).0) (image s otherwise ms))
arm_goes p s ms no_cases others out work k behind otherwise n h plain at joined blocks = goes_with p s ms h (onto others work) out otherwise at
arm_goes p s ms (cases labels items rest) others out work k behind otherwise n h plain at joined blocks =
    let bs = blocks_in p s.routine in
    let b = code_cases out rest k behind in
    let a = code out items (k + length b.1 + 1) behind in
    let mine = has_back bs k b.1 (a.now ∷ a.blocks) blocks in
    let stands = at_onto p bs out items work (k + length b.1 + 1) behind plain.0 mine.1 joined in
    let there = at_block p bs out (onto items work) (k + length b.1) a.now mine.0 stands in
    by (list_any (label_has n) labels) (goes_with p s ms h (onto items work) out (block_at bs (k + length b.1)) there) (arm_goes p s ms rest others out work k behind otherwise n h plain.1 at joined (has_front bs k b.1 (a.now ∷ a.blocks) blocks))
  where
    by : (x : Bool) → Goes p (with_work (onto items work) s) (image s (block_at (blocks_in p s.routine) (k + length (code_cases out rest k behind).1)) ms) → Goes p (with_work (onto (selected n rest others) work) s) (go_if (code_of p) (arm_for n (code_cases out rest k behind).0) (image s otherwise ms)) → Goes p (with_work (onto (if x then items else selected n rest others) work) s) (go_if (code_of p) (if x then Some (k + length (code_cases out rest k behind).1) else arm_for n (code_cases out rest k behind).0) (image s otherwise ms))
    by true g g' = g
    by false g g' = g'

pub select_goes : (p : Program) (s : State) (ms : List MirCaller) (t : ℕ) (arms : Cases) (others : Items) (out : Exits) (work : List Task) (rest : List Instr) → Here p s ms → At p (blocks_in p s.routine) out (item (select t arms others) ∷ work) rest → Reaches p 1 0 s (do_item p (select t arms others) work s) (image s rest ms)
unfolding do_item execute
select_goes p s ms t arms others out work rest h (behind, pi, st, at) =
    let bs = blocks_in p s.routine in
    let k = st.k in
    let b = code out others (k + 1) (continued k behind) in
    let a = code_cases out arms (k + 1 + length b.blocks) (continued k behind) in
    let joined = at_continued p bs out work k behind st.blocks.0 at in
    let other = at_onto p bs out others work (k + 1) (continued k behind) pi.1 (has_front bs (k + 1) b.blocks a.1 st.blocks.1) joined in
    advance p s _ ms rest (switch t a.0) b.now h st.comes
    (arm_goes p s ms arms others out work (k + 1 + length b.blocks) (continued k behind) b.now (number_at s.world t) h pi.0 other joined (has_back bs (k + 1) b.blocks a.1 st.blocks.1))

-- ---- loops

-- in front of the head of a loop
head_stands : (p : Program) (bs : List (List Instr)) (l : Turns) (out : Exits) (work : List Task) (behind : List Instr) (k : ℕ) → ArePlainTurns p l → LoopStands bs out l k behind → At p bs out work behind → At p bs out (onto (head_of l) (turn l ∷ work)) (block_at bs (suc k))
head_stands p bs (turns head t ends between body) out work behind k plain h at =
    let l = turns head t ends between body in
    let mc = code (loop_exits out k) body (k + 3) (jump (suc k) ∷ []) in
    let mb = code (loop_exits out k) between (k + 3 + length mc.blocks) (continued (suc (suc k)) mc.now) in
    let j = k + 3 + length mc.blocks + length mb.blocks in
    let ma = code out head j (branch_if ends t k ∷ mb.now) in
    let e3 : k + 1 + 1 + 1 ≡ k + 3 = omega arith in
    let e1 : k + 1 ≡ suc k = omega arith in
    let all = subst (λ n. Has bs n (mc.blocks ++ (mb.blocks ++ ma.blocks))) e3 h.blocks.1.1.1 in
    let behind_body = has_back bs (k + 3) mc.blocks (mb.blocks ++ ma.blocks) all in
    let hb = has_front bs (k + 3 + length mc.blocks) mb.blocks ma.blocks behind_body in
    let ha = has_back bs (k + 3 + length mc.blocks) mb.blocks ma.blocks behind_body in
    let test = at_onto p bs out head (turn l ∷ work) j (branch_if ends t k ∷ mb.now) plain.0 ha (k, behind, plain, record { j = k + 3 + length mc.blocks; comes = inl refl; blocks = hb }, h, at) in
    let stands : slice_get bs (suc k) ≡ Some ma.now = subst (λ n. slice_get bs n ≡ Some ma.now) e1 h.blocks.1.0 in
    at_block p bs out (onto head (turn l ∷ work)) (suc k) ma.now stands test

-- a jump leads to the head
pub head_goes : (p : Program) (s : State) (ms : List MirCaller) (l : Turns) (out : Exits) (work : List Task) (behind from : List Instr) (k : ℕ) → Here p s ms → ArePlainTurns p l → Comes (blocks_in p s.routine) from (jump (suc k) ∷ []) → LoopStands (blocks_in p s.routine) out l k behind → At p (blocks_in p s.routine) out work behind → Reaches p 1 0 s (with_work (onto (head_of l) (turn l ∷ work)) s) (image s from ms)
unfolding execute
head_goes p s ms l out work behind from k h plain comes stands at =
    let bs = blocks_in p s.routine in
    advance p s _ ms from (jump (suc k)) [] h comes (goes_with p s ms h (onto (head_of l) (turn l ∷ work)) out (block_at bs (suc k)) (head_stands p bs l out work behind k plain stands at))

-- in front of the body of a loop
record BodyStands (p : Program) (bs : List (List Instr)) (l : Turns) (out : Exits) (work : List Task) (k : ℕ) : Type 0 where
  block : At p bs (loop_exits out k) (onto (body_of l) (mark l ∷ work)) (block_at bs (suc (suc k)))
  by_jump : At p bs (loop_exits out k) (onto (body_of l) (mark l ∷ work)) (to_body out l k)

body_stands : (p : Program) (bs : List (List Instr)) (l : Turns) (out : Exits) (work : List Task) (behind : List Instr) (k : ℕ) → ArePlainTurns p l → LoopStands bs out l k behind → At p bs out work behind → BodyStands p bs l out work k
body_stands p bs (turns head t ends between body) out work behind k plain h at =
    let l = turns head t ends between body in
    let mc = code (loop_exits out k) body (k + 3) (jump (suc k) ∷ []) in
    let mb = code (loop_exits out k) between (k + 3 + length mc.blocks) (continued (suc (suc k)) mc.now) in
    let ma = code out head (k + 3 + length mc.blocks + length mb.blocks) (branch_if ends t k ∷ mb.now) in
    let e3 : k + 1 + 1 + 1 ≡ k + 3 = omega arith in
    let e2 : k + 1 + 1 ≡ suc (suc k) = omega arith in
    let hc = has_front bs (k + 3) mc.blocks (mb.blocks ++ ma.blocks) (subst (λ n. Has bs n (mc.blocks ++ (mb.blocks ++ ma.blocks))) e3 h.blocks.1.1.1) in
    let all = at_onto p bs (loop_exits out k) body (mark l ∷ work) (k + 3) (jump (suc k) ∷ []) plain.2 hc (out, k, behind, plain, refl, inl refl, h, at) in
    let stands : slice_get bs (suc (suc k)) ≡ Some mc.now = subst (λ n. slice_get bs n ≡ Some mc.now) e2 h.blocks.1.1.0 in
    record {
      block = at_block p bs (loop_exits out k) (onto body (mark l ∷ work)) (suc (suc k)) mc.now stands all;
      by_jump = at_continued p bs (loop_exits out k) (onto body (mark l ∷ work)) (suc (suc k)) mc.now stands all;
    }

pub loop_goes : (p : Program) (s : State) (ms : List MirCaller) (l : Turns) (out : Exits) (work : List Task) (rest : List Instr) → Here p s ms → At p (blocks_in p s.routine) out (item (loop l) ∷ work) rest → Reaches p 1 0 s (do_item p (loop l) work s) (image s rest ms)
unfolding do_item
loop_goes p s ms l out work rest h (behind, pi, st, at) = head_goes p s ms l out work behind rest st.k h pi st.comes (record { blocks = st.blocks }) at

pub body_goes : (p : Program) (s : State) (ms : List MirCaller) (l : Turns) (out : Exits) (work : List Task) (rest : List Instr) → Here p s ms → At p (blocks_in p s.routine) out (item (body_first l) ∷ work) rest → Reaches p 1 0 s (do_item p (body_first l) work s) (image s rest ms)
unfolding do_item execute
body_goes p s ms l out work rest h (behind, pi, st, at) =
    let bs = blocks_in p s.routine in
    advance p s _ ms rest (jump (suc (suc st.k))) [] h st.comes (goes_with p s ms h (onto (body_of l) (mark l ∷ work)) (loop_exits out st.k) (block_at bs (suc (suc st.k))) (body_stands p bs l out work behind st.k pi (record { blocks = st.blocks }) at).block)

pub turn_goes : (p : Program) (s : State) (ms : List MirCaller) (l : Turns) (out : Exits) (work : List Task) (rest : List Instr) → Here p s ms → At p (blocks_in p s.routine) out (turn l ∷ work) rest → Reaches p 1 0 s (do_task p (turn l) work s) (image s rest ms)
unfolding do_task execute
turn_goes p s ms (turns head t ends between body) out work rest h (k, behind, pi, test, stands, at) =
    let bs = blocks_in p s.routine in
    let l = turns head t ends between body in
    let over = goes_with p s ms h work out (block_at bs k) (at_block p bs out work k behind stands.blocks.0 at) in
    let further = at_onto p bs (loop_exits out k) between (onto body (mark l ∷ work)) test.j (to_body out l k) pi.1 test.blocks (body_stands p bs l out work behind k pi stands at).by_jump in
    by ends test.comes over (goes_with p s ms h (another_turn l work) (loop_exits out k) (between_code out l k test.j).now further)
  where
    by : (ends' : Bool) → Comes (blocks_in p s.routine) rest (branch_if ends' t k ∷ (between_code out (turns head t ends' between body) k test.j).now) → Goes p (with_work work s) (image s (block_at (blocks_in p s.routine) k) ms) → Goes p (with_work (onto between (onto body (mark (turns head t ends' between body) ∷ work))) s) (image s (between_code out (turns head t ends' between body) k test.j).now ms) → Reaches p 1 0 s (with_work (turned s.world (turns head t ends' between body) work) s) (image s rest ms)
    by true comes over on = advance p s _ ms rest (when t k) _ h comes (if_goes p (is_true (number_at s.world t)) s _ _ _ _ over on)
    by false comes over on = advance p s _ ms rest (unless t k) _ h comes (if_goes p (is_true (number_at s.world t)) s _ _ _ _ on over)

-- ---- finally parts

-- a number that stands for a reason fits a word
way_fits : (n : ℕ) → IsWay n → wrapped (pos (suc n)) ≡ pos (suc n)
unfolding int_wrap
way_fits zero w = refl
way_fits (suc zero) w = refl
way_fits (suc (suc zero)) w = refl
way_fits (suc (suc (suc n))) w = absurd w

none_fits : wrapped (pos 0) ≡ pos 0
unfolding int_wrap
none_fits = refl

-- in front of a finally part
finally_stands : (p : Program) (bs : List (List Instr)) (out : Exits) (t : ℕ) (items : Items) (work : List Task) (k : ℕ) (behind : List Instr) → ArePlain p items → FinallyStands bs out t (code out items (k + 4) (dispatch t k ∷ behind)) k → At p bs out work behind → At p bs out (onto items (resume t ∷ work)) (block_at bs k)
finally_stands p bs out t items work k behind plain h at =
    let m = code out items (k + 4) (dispatch t k ∷ behind) in
    let e4 : k + 1 + 1 + 1 + 1 ≡ k + 4 = omega arith in
    let ways : Has bs (k + 1) (out 1 ∷ out 2 ∷ out 3 ∷ []) = (h.blocks.1.0, (h.blocks.1.1.0, (h.blocks.1.1.1.0, tt))) in
    let part = at_onto p bs out items (resume t ∷ work) (k + 4) (dispatch t k ∷ behind) plain (subst (λ y. Has bs y m.blocks) e4 h.blocks.1.1.1.1) (k, behind, inl refl, ways, at) in
    at_block p bs out (onto items (resume t ∷ work)) k m.now h.blocks.0 part

pub protect_goes : (p : Program) (s : State) (ms : List MirCaller) (t : ℕ) (items ts : Items) (out : Exits) (work : List Task) (rest : List Instr) → Here p s ms → At p (blocks_in p s.routine) out (item (protect t items ts) ∷ work) rest → Reaches p 1 0 s (do_item p (protect t items ts) work s) (image s rest ms)
unfolding do_item execute perform
protect_goes p s ms t items ts out work rest h (behind, pi, st, at) =
    let bs = blocks_in p s.routine in
    let k = st.k in
    let b = code out ts (k + 4) (dispatch t k ∷ behind) in
    let a = code (finally_exits t k) items (k + 4 + length b.blocks) (jump k ∷ []) in
    let e4 : k + 1 + 1 + 1 + 1 ≡ k + 4 = omega arith in
    let hs = st.blocks in
    let all = subst (λ n. Has bs n (b.blocks ++ a.blocks)) e4 hs.1.1.1.1 in
    let hb = subst (λ n. Has bs n b.blocks) (sym e4) (has_front bs (k + 4) b.blocks a.blocks all) in
    let end : At p bs (finally_exits t k) (finally t ts ∷ work) (jump k ∷ []) = (out, k, behind, pi.1, refl, inl refl, record { blocks = (hs.0, (hs.1.0, (hs.1.1.0, (hs.1.1.1.0, hb)))) }, at) in
    let inner = at_onto p bs (finally_exits t k) items (finally t ts ∷ work) (k + 4 + length b.blocks) (jump k ∷ []) pi.0 (has_back bs (k + 4) b.blocks a.blocks all) end in
    subst (λ z. Reaches p 1 0 s (record s { world = with_number t z s.world; work = onto items (finally t ts ∷ work) }) (image s rest ms)) none_fits
    (advance p s _ ms rest (do_act (constant t (pos 0)) None) a.now h st.comes
    (goes_at p s ms h (with_number t (wrapped (pos 0)) s.world) (unraised_kept.number t (wrapped (pos 0)) s.world h.world) (onto items (finally t ts ∷ work)) (finally_exits t k) a.now inner))

pub finally_goes : (p : Program) (s : State) (ms : List MirCaller) (t : ℕ) (ts : Items) (out : Exits) (work : List Task) (rest : List Instr) → Here p s ms → At p (blocks_in p s.routine) out (finally t ts ∷ work) rest → Reaches p 1 0 s (do_task p (finally t ts) work s) (image s rest ms)
unfolding do_task execute
finally_goes p s ms t ts out work rest h (outer, k, behind, pi, o, comes, hs, at) =
    let bs = blocks_in p s.routine in
    advance p s _ ms rest (jump k) [] h comes (goes_with p s ms h (onto ts (resume t ∷ work)) outer (block_at bs k) (finally_stands p bs outer t ts work k behind pi hs at))

-- ---- Exit, Break and Continue

-- the exits lead to where the next finally part, or what is left, stands
pub leave_goes : (p : Program) (s : State) (ms : List MirCaller) (n : ℕ) (out : Exits) (work : List Task) (rest : List Instr) → IsWay n → Here p s ms → At p (blocks_in p s.routine) out work rest → Reaches p 1 0 s (left (suc n) work s) (image s (out (suc n)) ms)
unfolding execute perform
leave_goes p s ms n out [] rest way h (o, r, comes) =
    let bs = blocks_in p s.routine in
    let end : At p bs routine_exits [] (block_at bs 1) = (refl, r, inl (ap block_or r)) in
    let there = advance p s (with_work [] s) ms (jump 1 ∷ []) (jump 1) [] h (inl refl) (goes_with p s ms h [] routine_exits (block_at bs 1) end) in
    subst (λ x. Reaches p 1 0 s (left (suc n) [] s) (image s (x (suc n)) ms)) (sym o) there
leave_goes p s ms n out (item i ∷ work) rest way h (behind, pi, st, at) = leave_goes p s ms n out work behind way h at
leave_goes p s ms n out (turn l ∷ work) rest way h (k, behind, pi, t, stands, at) = leave_goes p s ms n out work behind way h at
leave_goes p s ms n out (resume t ∷ work) rest way h (k, behind, x, hs, at) = leave_goes p s ms n out work behind way h at
leave_goes p s ms n out (due f ∷ work) rest way h (behind, x, c, at) = leave_goes p s ms n out work behind way h at
leave_goes p s ms n out (finally t ts ∷ work) rest way h (outer, k, behind, pi, o, x, hs, at) =
    let bs = blocks_in p s.routine in
    let z = wrapped (pos (suc n)) in
    let w = with_number t z s.world in
    let s' = record s { world = w } in
    let later = onto ts (resume t ∷ work) in
    let u = record s { world = w; work = later } in
    let h' : Here p s' ms = record { running = h.running; world = unraised_kept.number t z s.world h.world; frames = h.frames; callers = h.callers; pending = h.pending } in
    let there = finally_stands p bs outer t ts work k behind pi hs at in
    let second : Reaches p 0 0 s' u (image s' (jump k ∷ []) ms) = one p s' u ms (jump k) [] _ h' refl (goes_at p s' ms h' w h'.world later outer (block_at bs k) there) in
    let first : Steps p (image s (do_act (constant t (pos (suc n))) None ∷ jump k ∷ []) ms) (image s' (jump k ∷ []) ms) 1 [] (silent p s 1) = quiet p s s' ms (do_act (constant t (pos (suc n))) None) (jump k ∷ []) (jump k ∷ []) w.temps h refl refl refl in
    let none = shown_none p.core w w.temps ∙ sym (shown_none p.core s.world w.temps) in
    let reached : Reaches p 1 0 s u (image s (do_act (constant t (pos (suc n))) None ∷ jump k ∷ []) ms) = before p 0 0 1 s s' u (image s (do_act (constant t (pos (suc n))) None ∷ jump k ∷ []) ms) (image s' (jump k ∷ []) ms) first none refl refl second in
    let same : u ≡ left (suc n) (finally t ts ∷ work) s = ap (λ y. record s { world = with_number t y s.world; work = later }) (way_fits n way) in
    subst (λ y. Reaches p 1 0 s (left (suc n) (finally t ts ∷ work) s) (image s (y (suc n)) ms)) (sym o)
    (subst (λ v. Reaches p 1 0 s v (image s (do_act (constant t (pos (suc n))) None ∷ jump k ∷ []) ms)) same reached)
leave_goes p s ms zero out (mark l ∷ work) rest way h (outer, k, behind, pi, o, x, hs, at) =
    subst (λ y. Reaches p 1 0 s (left 1 (mark l ∷ work) s) (image s (y 1) ms)) (sym o) (leave_goes p s ms 0 outer work behind way h at)
leave_goes p s ms (suc zero) out (mark (turns head t ends between body) ∷ work) rest way h (outer, k, behind, pi, o, x, hs, at) =
    let bs = blocks_in p s.routine in
    let there = at_block p bs outer work k behind hs.blocks.0 at in
    subst (λ y. Reaches p 1 0 s (with_work work s) (image s (y 2) ms)) (sym o) (advance p s (with_work work s) ms (jump k ∷ []) (jump k) [] h (inl refl) (goes_with p s ms h work outer (block_at bs k) there))
leave_goes p s ms (suc (suc zero)) out (mark l ∷ work) rest way h (outer, k, behind, pi, o, x, hs, at) =
    subst (λ y. Reaches p 1 0 s (left 3 (mark l ∷ work) s) (image s (y 3) ms)) (sym o) (head_goes p s ms l outer work behind (jump (suc k) ∷ []) k h pi (inl refl) hs at)
leave_goes p s ms (suc (suc (suc n))) out (mark l ∷ work) rest way h (outer, k, behind, pi, o, x, hs, at) = absurd way
leave_goes p s ms n out (catching cs ∷ work) rest way h at = absurd at
leave_goes p s ms n out (handling i ∷ work) rest way h at = absurd at
leave_goes p s ms n out (scope t ts ∷ work) rest way h (outer, behind, o, c, at) =
    let later = scope t ts ∷ leaving (suc n) ∷ work in
    let code = ends (t ∷ ts) (outer (suc n)) in
    let there : Reaches p 0 0 s (with_work later s) (image s (open_temporaries [] ∷ code) ms) =
    one p s (with_work later s) ms (open_temporaries []) code _ h refl (goes_with p s ms h later (scope_exits outer (t ∷ ts)) code (outer, outer (suc n), refl, inl refl, (behind, way, inl refl, at))) in
    subst (λ x. Reaches p 1 0 s (with_work later s) (image s (x (suc n)) ms)) (sym o) (at_most p 0 1 0 0 s (with_work later s) _ (omega arith) (omega arith) there)
leave_goes p s ms n out (leaving zero ∷ work) rest way h at = absurd at
leave_goes p s ms n out (leaving (suc m) ∷ work) rest way h (behind, w, c, at) = leave_goes p s ms n out work behind way h at
leave_goes p s ms n out (ending variables result ∷ work) rest way h at = absurd at

pub leave_item_goes : (p : Program) (s : State) (ms : List MirCaller) (n : ℕ) (out : Exits) (work : List Task) (rest : List Instr) → Here p s ms → At p (blocks_in p s.routine) out (item (leave n) ∷ work) rest → Reaches p 3 0 s (do_item p (leave n) work s) (image s rest ms)
unfolding do_item
leave_item_goes p s ms n out work rest h (behind, pi, st, at) =
    at_most p (1 + 1) 3 0 0 s (left (suc n) work s) (image s rest ms) (omega arith) (omega arith) (come p 1 0 s (left (suc n) work s) ms rest (out (suc n)) h st.comes (leave_goes p s ms n out work behind pi h at))

-- what was left ends first, and then it is left further
pub leaving_goes : (p : Program) (s : State) (ms : List MirCaller) (n : ℕ) (out : Exits) (work : List Task) (rest : List Instr) → Here p s ms → At p (blocks_in p s.routine) out (leaving (suc n) ∷ work) rest → Reaches p 3 0 s (do_task p (leaving (suc n)) work s) (image s rest ms)
unfolding do_task
leaving_goes p s ms n out work rest h (behind, way, comes, at) =
    at_most p (1 + 1) 3 0 0 s (left (suc n) work s) (image s rest ms) (omega arith) (omega arith) (come p 1 0 s (left (suc n) work s) ms rest (out (suc n)) h comes (leave_goes p s ms n out work behind way h at))

-- ---- temporaries that end

pub scoped_goes : (p : Program) (s : State) (ms : List MirCaller) (t : Temporary) (ts : List Temporary) (items : Items) (out : Exits) (work : List Task) (rest : List Instr) → Here p s ms → At p (blocks_in p s.routine) out (item (scoped t ts items) ∷ work) rest → Reaches p 1 0 s (do_item p (scoped t ts items) work s) (image s rest ms)
unfolding do_item execute
scoped_goes p s ms t ts items out work rest h (behind, pi, st, at) =
    let outer = scope_exits out (t ∷ ts) in
    let a = code outer items st.k (ends (t ∷ ts) behind) in
    advance p s _ ms rest (open_temporaries (t ∷ ts)) a.now h st.comes
    (goes_with p s ms h (onto items (scope t ts ∷ work)) outer a.now
    (at_onto p (blocks_in p s.routine) outer items (scope t ts ∷ work) st.k (ends (t ∷ ts) behind) pi st.blocks (out, behind, refl, inl refl, at)))

pub scope_goes : (p : Program) → IsPlain p → (s : State) (ms : List MirCaller) (t : Temporary) (ts : List Temporary) (out : Exits) (work : List Task) (rest : List Instr) → Here p s ms → At p (blocks_in p s.routine) out (scope t ts ∷ work) rest → Reaches p 1 0 s (do_task p (scope t ts) work s) (image s rest ms)
unfolding do_task execute
scope_goes p plain s ms t ts out work rest h (outer, behind, o, comes, at) =
    advance p s _ ms rest (end_temporary t) (ends ts behind) h comes (ends_made_goes p plain ms (ends ts behind) t (with_work (scope_on ts work) s) (calm ts))
  where
    calm : (vs : List Temporary) → Calm p (with_work (scope_on vs work) s) ms (ends vs behind)
    calm [] = record { world = h.world; out = outer; at = λ e. at; frames = subst ArePlainFrames (sym h.frames) tt; callers = h.callers; pending = h.pending }
    calm (v ∷ vs) = record { world = h.world; out = scope_exits outer (v ∷ vs); at = λ e. (outer, behind, refl, inl refl, at); frames = subst ArePlainFrames (sym h.frames) tt; callers = h.callers; pending = h.pending }

-- ---- behind a finally part

pub resume_goes : (p : Program) (s : State) (ms : List MirCaller) (t : ℕ) (out : Exits) (work : List Task) (rest : List Instr) → Here p s ms → At p (blocks_in p s.routine) out (resume t ∷ work) rest → Reaches p 3 0 s (do_task p (resume t) work s) (image s rest ms)
unfolding do_task execute
resume_goes p s ms t out work rest h (k, behind, comes, hs, at) = by (number_at s.world t) refl
  where
    act_is : (z : ℤ) → number_at s.world t ≡ z → execute (code_of p) (dispatch t k) (image s behind ms) ≡ dispatched (code_of p) z t k (image s behind ms)
    act_is z e = ap (λ z. dispatched (code_of p) z t k (image s behind ms)) e

    on : (z : ℤ) → number_at s.world t ≡ z → ((m : MirState) → dispatched (code_of p) z t k m ≡ m) → Reaches p 3 0 s (with_work work s) (image s rest ms)
    on z e same =
        at_most p (1 + 0) 3 0 0 s (with_work work s) (image s rest ms) (omega arith) (omega arith)
        (come p 0 0 s (with_work work s) ms rest (dispatch t k ∷ behind) h comes
        (one p s (with_work work s) ms (dispatch t k) behind (image s behind ms) h (act_is z e ∙ same (image s behind ms)) (goes_with p s ms h work out behind at)))

    off : (n j : ℕ) (z : ℤ) → IsWay n → number_at s.world t ≡ z → ((m : MirState) → dispatched (code_of p) z t k m ≡ go_to (code_of p) j m) → slice_get (blocks_in p s.routine) j ≡ Some (out (suc n)) → Reaches p 3 0 s (left (suc n) work s) (image s rest ms)
    off n j z way e same block =
        let is = act_is z e ∙ same (image s behind ms) ∙ ap (λ b. image s (block_or b) ms) block in
        let first = quiet p s s ms (dispatch t k) behind (out (suc n)) s.world.temps h refl is refl in
        let r = before p 1 0 1 s s (left (suc n) work s) (image s (dispatch t k ∷ behind) ms) (image s (out (suc n)) ms) first refl refl refl (leave_goes p s ms n out work behind way h at) in
        at_most p (1 + (1 + 1)) 3 0 0 s (left (suc n) work s) (image s rest ms) (omega arith) (omega arith)
        (come p (1 + 1) 0 s (left (suc n) work s) ms rest (dispatch t k ∷ behind) h comes r)

    -- nothing waits
    again : number_at s.world t ≡ pos 4 → Reaches p 3 0 s (resumed (pos 4) t work s) (image s rest ms)
    again e =
        let w = record s.world { raised = s.world.waiting (t + 1) } in
        let plain : IsUnraised w = record { raised = h.world.waiting (t + 1); waiting = h.world.waiting } in
        let u = record s { world = w; work = work } in
        at_most p (1 + 0) 3 0 0 s u (image s rest ms) (omega arith) (omega arith)
        (come p 0 0 s u ms rest (dispatch t k ∷ behind) h comes
        (one p s u ms (dispatch t k) behind (image u behind ms) h (act_is (pos 4) e) (goes_at p s ms h w plain work out behind at)))

    by : (z : ℤ) → number_at s.world t ≡ z → Reaches p 3 0 s (resumed z t work s) (image s rest ms)
    by (pos zero) e = on (pos zero) e (λ m. refl)
    by (pos (suc zero)) e = off 0 (k + 1) (pos 1) tt e (λ m. refl) hs.0
    by (pos (suc (suc zero))) e = off 1 (k + 2) (pos 2) tt e (λ m. refl) (subst (λ i. slice_get (blocks_in p s.routine) i ≡ Some (out 2)) (omega arith) hs.1.0)
    by (pos (suc (suc (suc zero)))) e = off 2 (k + 3) (pos 3) tt e (λ m. refl) (subst (λ i. slice_get (blocks_in p s.routine) i ≡ Some (out 3)) (omega arith) hs.1.1.0)
    by (pos (suc (suc (suc (suc zero))))) e = again e
    by (pos (suc (suc (suc (suc (suc n)))))) e = on (pos (suc (suc (suc (suc (suc n)))))) e (λ m. refl)
    by (negsuc n) e = on (negsuc n) e (λ m. refl)

-- ---- the end of the program

pub halt_goes : (p : Program) (s : State) (ms : List MirCaller) (t : ℕ) (out : Exits) (work : List Task) (rest : List Instr) → Here p s ms → At p (blocks_in p s.routine) out (item (halt t) ∷ work) rest → Reaches p 1 0 s (do_item p (halt t) work s) (image s rest ms)
unfolding do_item execute
halt_goes p s ms t out work rest h (behind, pi, st, at) =
    let n = low_eight (number_at s.world t) in
    let u = with_frames (closing n ∷ []) (with_work work s) in
    let below = ap (λ f. closes n f (image s behind ms)) h.frames in
    let goes : Goes p u (image u behind ms) = record { same = refl; goes_on = λ _. record { world = h.world; out = out; at = λ e. at }; frames = (tt, tt); callers = h.callers; pending = h.pending } in
    let above : u ≡ closes n s.frames (with_work work s) = ap (λ f. closes n f (with_work work s)) (sym h.frames) in
    subst (λ v. Reaches p 1 0 s v (image s rest ms)) above
    (come p 0 0 s u ms rest (stop t ∷ behind) h st.comes (one p s u ms (stop t) behind (image u behind ms) h below goes))

pub due_goes : (p : Program) (s : State) (ms : List MirCaller) (f : RoutineId) (out : Exits) (work : List Task) (rest : List Instr) → Here p s ms → At p (blocks_in p s.routine) out (due f ∷ work) rest → Reaches p 1 0 s (do_task p (due f) work s) (image s rest ms)
unfolding do_task execute
due_goes p s ms f out work rest h (behind, exists, comes, at) =
    advance p s _ ms rest (make_due f) behind h comes (record { same = refl; goes_on = λ _. record { world = h.world; out = out; at = λ e. at }; frames = subst ArePlainFrames (sym h.frames) tt; callers = h.callers; pending = (exists, h.pending) })
