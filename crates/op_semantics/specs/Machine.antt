-- The source machine: what a program does in one step. A state that has not ended has exactly one next state: the exception under way
-- goes on, or the frame on the activation acts, or the first task of the activation is done. (Free Pascal Reference Guide, "Statements",
-- "Using functions and procedures", "Programs, units, blocks" and "Exceptions".)
use Rattle.std.specs.Prelude.{ℕ, zero, suc, ℤ, pos, unsigned_abs, Bool, true, false, List, [], ◌∷◌, Option, Some, None, if◌then◌else◌}
use Rattle.std.specs.Int.{int_rem_euclid}
use Rattle.std.specs.List.{list_any}
use Rattle.op_core.specs.declared.statement.Label.{Label}
use Rattle.op_semantics.specs.Actions.{perform}
use Rattle.op_semantics.specs.Calls.{called, gone_back, source_rules}
use Rattle.op_semantics.specs.Ending.{framed}
use Rattle.op_semantics.specs.Frames.{Program, StateOver, CallerOver, State, Rules, Frame, by_free, finalize, with_work, fails, a_routine, a_maker, a_method, at_reached}
use Rattle.op_semantics.specs.Holding.{is_held}
use Rattle.op_semantics.specs.Items.{Item, act, also, choose, select, loop, body_first, protect, leave, enter, scoped, attempt, throw, rethrow, halt, construct, invoke, free, Items, Turns, turns, head_of, body_of, Cases, no_cases, cases, Task, item, mark, turn, finally, resume, catching, scope, handling, leaving, ending, due, onto}
use Rattle.op_semantics.specs.Leaving.{left, resumed, name_in}
use Rattle.op_semantics.specs.Losing.{ends_made, ends_place, freed, destroys, local_spot}
use Rattle.op_meaning.specs.Numbers.{between, is_true}
use Rattle.op_semantics.specs.Paths.{Path, place_of}
use Rattle.op_semantics.specs.Unwinding.{closes, unwound}
use Rattle.op_meaning.specs.Values.{Reached, reached, and_then}
use Rattle.op_semantics.specs.World.{World, Temporary, Object, fields, Live, Dead, Ending, Running, Ended, with_number, number_at, value_at}

-- ---- choices ("The Case statement", "The If..then..else statement" and "Boolean operators")

abbrev pub label_has : ℤ → Label → Bool
label_has n label = between label.first label.last n

-- the first branch with a label that has the value
abbrev pub selected : ℤ → Cases → Items → Items
selected n no_cases others = others
selected n (cases labels is cs) others = if list_any (label_has n) labels then is else selected n cs others

-- what is done where a temporary is true, and where it is false
abbrev pub tested : World → ℕ → List Task → List Task → List Task
tested w t a b = if is_true (number_at w t) then a else b

-- ---- loops

-- a further turn: what stands between turns, the body, and then the head again
abbrev pub another_turn : Turns → List Task → List Task
another_turn (turns head t ends between body) work = onto between (onto body (mark (turns head t ends between body) ∷ work))

abbrev pub turned : World → Turns → List Task → List Task
turned w (turns head t false between body) work = tested w t (another_turn (turns head t false between body) work) work
turned w (turns head t true between body) work = tested w t work (another_turn (turns head t true between body) work)

-- ---- temporaries

-- those that end still, in this order
abbrev pub scope_on : List Temporary → List Task → List Task
scope_on [] work = work
scope_on (t ∷ ts) work = scope t ts ∷ work

-- ---- exceptions ("The raise statement")

abbrev raised_if : {Work Counts : Type 0} → Program → ℕ → Object → Work → StateOver Work Counts → StateOver Work Counts
raised_if p e (fields c Dead) work s = fails p 216 s
raised_if p e (fields c phase) work s = record s { world = record s.world { raised = Some e }; work = work }
raised_if p e o work s = fails p 216 s

-- nil and what is dead is not raised
abbrev pub throws : {Work Counts : Type 0} → Program → Option ℕ → Work → StateOver Work Counts → StateOver Work Counts
throws p None work s = fails p 216 s
throws p (Some e) work s = raised_if p e (s.world.objects e) work s

-- the instance of the handler round it
abbrev pub handled_in : List Task → Option ℕ
handled_in [] = None
handled_in (handling i ∷ work) = Some i
handled_in (task ∷ work) = handled_in work

-- ---- instances ("Class instantiation" and "Class destruction")

-- what an interface holds, or what is under construction or destruction, is not freed
abbrev frees_under : {Work Counts : Type 0} → Rules Work Counts → ℕ → Object → StateOver Work Counts → StateOver Work Counts
frees_under rules i (fields c Live) s =
    if is_held rules s i then fails rules.program 204 s else destroys rules.program i c by_free s
frees_under rules i (fields c Dead) s = fails rules.program 216 s
frees_under rules i (fields c phase) s = fails rules.program 204 s
frees_under rules i o s = fails rules.program 216 s

abbrev pub frees : {Work Counts : Type 0} → Rules Work Counts → Bool → Option ℕ → StateOver Work Counts → StateOver Work Counts
frees rules takes_nil (Some i) s = frees_under rules i (s.world.objects i) s
frees rules true None s = s
frees rules false None s = fails rules.program 216 s

-- the name of the instance at a place
abbrev pub instance_at : World → Path → Reached (Option ℕ)
instance_at w at = and_then (place_of w at) (λ q. reached (name_in (value_at w q)))

-- ---- the program's end

abbrev pub low_eight : ℤ → ℕ
low_eight n = unsigned_abs (int_rem_euclid n (pos 256))

abbrev pub halts : {Work Counts : Type 0} → ℤ → StateOver Work Counts → StateOver Work Counts
halts n s = closes (low_eight n) s.frames s

-- ---- items

unfoldable pub do_item : Program → Item → List Task → State → State
do_item p (act a) work s = record s { world = perform p.core ((source_rules p).number s) a s.world; work = work }
do_item p (also true t is) work s = with_work (tested s.world t (onto is work) work) s
do_item p (also false t is) work s = with_work (tested s.world t work (onto is work)) s
do_item p (choose t a b) work s = with_work (tested s.world t (onto a work) (onto b work)) s
do_item p (select t cs others) work s = with_work (onto (selected (number_at s.world t) cs others) work) s
do_item p (loop l) work s = with_work (onto (head_of l) (turn l ∷ work)) s
do_item p (body_first l) work s = with_work (onto (body_of l) (mark l ∷ work)) s
do_item p (protect t is ts) work s = record s { world = with_number t (pos 0) s.world; work = onto is (finally t ts ∷ work) }
do_item p (leave what) work s = left (suc what) work s
do_item p (enter r given receiver) work s = called (source_rules p) (a_routine r) given receiver (with_work work s)
do_item p (scoped t ts is) work s = with_work (onto is (scope t ts ∷ work)) s
do_item p (attempt is cs) work s = with_work (onto is (catching cs ∷ work)) s
do_item p (throw at) work s = at_reached p (instance_at s.world at) (λ n. throws p n work s) (with_work work s)
do_item p rethrow work s = throws p (handled_in work) work s
do_item p (halt t) work s = halts (number_at s.world t) (with_work work s)
do_item p (construct c r given receiver) work s = called (source_rules p) (a_maker c r) given receiver (with_work work s)
do_item p (invoke r dispatch of given receiver) work s = called (source_rules p) (a_method r dispatch of) given receiver (with_work work s)
do_item p (free takes_nil at) work s = at_reached p (instance_at s.world at) (λ n. frees (source_rules p) takes_nil n (with_work work s)) (with_work work s)

-- ---- tasks

unfoldable pub do_task : Program → Task → List Task → State → State
do_task p (item i) work s = do_item p i work s
do_task p (mark l) work s = with_work (onto (head_of l) (turn l ∷ work)) s
do_task p (turn l) work s = with_work (turned s.world l work) s
do_task p (finally t ts) work s = with_work (onto ts (resume t ∷ work)) s
do_task p (resume t) work s = resumed (number_at s.world t) t work s
do_task p (catching cs) work s = with_work work s
do_task p (scope t ts) work s = ends_made (source_rules p) t (with_work (scope_on ts work) s)
do_task p (handling i) work s = freed p i (with_work work s)
do_task p (leaving reason) work s = left reason work s
do_task p (ending [] result) work s = with_work work s
do_task p (ending (v ∷ vs) result) work s = ends_place (source_rules p) (local_spot p.core s v) (with_work (ending vs result ∷ work) s)
do_task p (due f) work s = record s { work = work; pending = finalize f ∷ s.pending }

-- an activation that has nothing more to do returns; below the last one the program ends
abbrev pub returned : {Work Counts : Type 0} → Program → List (CallerOver Work) → StateOver Work Counts → StateOver Work Counts
returned p [] s = closes 0 s.frames s
returned p (c ∷ cs) s = gone_back p c cs s

unfoldable pub done : Program → List Task → State → State
done p [] s = returned p s.callers s
done p (task ∷ work) s = do_task p task work s

unfoldable pub acted : Program → List Frame → State → State
acted p [] s = done p s.work s
acted p (frame ∷ rest) s = framed (source_rules p) frame rest s

-- ---- the step

unfoldable pub stepped : Program → Option ℕ → State → State
stepped p None s = acted p s.frames s
stepped p (Some e) s = unwound p e s

unfoldable pub step_by : Program → Ending → State → State
step_by p Running s = stepped p s.world.raised s
step_by p (Ended status) s = s

unfoldable pub step : Program → State → State
step p s = step_by p s.world.ending s

unfoldable pub run_for : ℕ → Program → State → State
run_for zero p s = s
run_for (suc n) p s = run_for n p (step p s)
