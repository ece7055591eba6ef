-- What steps show: nothing where temporaries alone change, and the source machine what its worlds differ in.
use Rattle.std.proofs.Common.{◌≡◌, ℕ, zero, suc, ◌-◌, List, [], ◌∷◌, ◌++◌, length, refl, ap, ap₂, ◌∙◌, arith, take}
use Rattle.std.specs.Prelude.{Bool, true, false, not, ◌&&◌, nat_lt, if◌then◌else◌, map, ℤ}
use Rattle.std.proofs.Math.Seq.{drop-length}
use Rattle.std.proofs.lemmas.Bool.{le-ltb}
use Rattle.op_core.specs.declared.program.Core.{Core}
use Rattle.op_meaning.specs.Demands.{nothing, block_of, is_standing}
use Rattle.op_meaning.specs.Frames.{Program, State, Frame, Caller, Pending}
use Rattle.op_meaning.specs.Holding.{each}
use Rattle.op_meaning.specs.Items.{act, also, choose, select, loop, body_first, protect, leave, enter, scoped, attempt, throw, rethrow, halt, construct, free, Task, item, mark, turn, finally, resume, catching, scope, handling, leaving, ending, due}
use Rattle.op_meaning.specs.Machine.{step}
use Rattle.op_meaning.specs.Source.{Taken, Written, Reported, LetGo, shows, behind, taken}
use Rattle.op_meaning.specs.Values.{Value}
use Rattle.op_meaning.specs.World.{World}
use Rattle.op_mir.specs.Code.{Instr, do_act, do_call, jump, when, unless, switch, dispatch, make_due, open_temporaries, end_temporary, stop, ret}
use Rattle.op_mir.specs.Machine.{shown_between, asked, where_some, looks_by, looks_on}

each_none : (f : ℕ → List ℕ) → ((k : ℕ) → f k ≡ []) → (n : ℕ) → each n f ≡ []
unfolding each
each_none f h zero = refl
each_none f h (suc n) = ap₂ (λ a b. a ++ b) (each_none f h n) (h n)

stands_on : (b : Bool) (n : ℕ) → (if b && not b then n ∷ [] else []) ≡ []
stands_on true n = refl
stands_on false n = refl

-- what changes temporaries alone shows nothing
pub shown_none : (core : Core) (w : World) (temps : ℕ → ℤ) → shown_between core false w (record w { temps = temps }) ≡ []
shown_none core w temps =
    let same : nat_lt w.next w.next ≡ false = le-ltb w.next w.next (omega arith) in
    let n : length w.input - length w.input ≡ 0 = omega arith in
    let none_taken : taken w.input w.input ≡ [] = ap (λ k. take k w.input) n in
    let let_go : each w.next (λ k. if is_standing (w.objects k) && not (is_standing (w.objects k)) then k ∷ [] else []) ≡ [] = each_none _ (λ k. stands_on (is_standing (w.objects k)) k) w.next in
    let f = λ (b : Bool) (i o e l : List ℕ). asked (if b then block_of core (w.objects w.next) else nothing) ++ (where_some (λ x. Taken x) i ++ where_some (λ x. Written x) o ++ where_some (λ x. Reported x) e) ++ map (λ x. LetGo x) l in
    ap (λ b. f b (taken w.input w.input) (behind w.output w.output) (behind w.errors w.errors) (each w.next (λ k. if is_standing (w.objects k) && not (is_standing (w.objects k)) then k ∷ [] else []))) same
    ∙ ap (λ i. f false i (behind w.output w.output) (behind w.errors w.errors) (each w.next (λ k. if is_standing (w.objects k) && not (is_standing (w.objects k)) then k ∷ [] else []))) none_taken
    ∙ ap (λ o. f false [] o (behind w.errors w.errors) (each w.next (λ k. if is_standing (w.objects k) && not (is_standing (w.objects k)) then k ∷ [] else []))) (drop-length w.output)
    ∙ ap (λ e. f false [] [] e (each w.next (λ k. if is_standing (w.objects k) && not (is_standing (w.objects k)) then k ∷ [] else []))) (drop-length w.errors)
    ∙ ap (λ l. f false [] [] [] l) let_go

looks_by_never : (rest : List Instr) → looks_by rest ≡ false
looks_by_never [] = refl
looks_by_never (do_act a landing ∷ rest) = refl
looks_by_never (do_call r given receiver landing ∷ rest) = refl
looks_by_never (jump k ∷ rest) = refl
looks_by_never (when t k ∷ rest) = refl
looks_by_never (unless t k ∷ rest) = refl
looks_by_never (switch t arms ∷ rest) = refl
looks_by_never (dispatch t k ∷ rest) = refl
looks_by_never (make_due f ∷ rest) = refl
looks_by_never (open_temporaries ts ∷ rest) = refl
looks_by_never (end_temporary t ∷ rest) = refl
looks_by_never (stop t ∷ rest) = refl
looks_by_never (ret ∷ rest) = refl

-- no instruction looks at the input
pub looks_never : (rest : List Instr) (frames : List Frame) → looks_on rest frames ≡ false
looks_never rest [] = looks_by_never rest
looks_never rest (frame ∷ frames) = refl

-- ---- the source machine

-- its step shows what lies between its worlds, by the first frame and the first task
shows_at : (p : Program) (w : World) (now : ℕ) (callers : List Caller) (pending : List Pending) (charged : ℕ) (work : List Task) (frames : List Frame) → let s : State = record { world = w; routine = now; work = work; frames = frames; callers = callers; pending = pending; charged = charged; counts = tt } in shows p s ≡ shown_between p.core false w (step p s).world
shows_at p w now callers pending charged [] [] = refl
shows_at p w now callers pending charged (item (act a) ∷ work) [] = refl
shows_at p w now callers pending charged (item (also truth t is) ∷ work) [] = refl
shows_at p w now callers pending charged (item (choose t a b) ∷ work) [] = refl
shows_at p w now callers pending charged (item (select t a b) ∷ work) [] = refl
shows_at p w now callers pending charged (item (loop l) ∷ work) [] = refl
shows_at p w now callers pending charged (item (body_first l) ∷ work) [] = refl
shows_at p w now callers pending charged (item (protect t is ts) ∷ work) [] = refl
shows_at p w now callers pending charged (item (leave n) ∷ work) [] = refl
shows_at p w now callers pending charged (item (enter r given receiver) ∷ work) [] = refl
shows_at p w now callers pending charged (item (scoped t ts is) ∷ work) [] = refl
shows_at p w now callers pending charged (scope t ts ∷ work) [] = refl
shows_at p w now callers pending charged (item (attempt is cs) ∷ work) [] = refl
shows_at p w now callers pending charged (item (throw t) ∷ work) [] = refl
shows_at p w now callers pending charged (item rethrow ∷ work) [] = refl
shows_at p w now callers pending charged (item (halt t) ∷ work) [] = refl
shows_at p w now callers pending charged (item (construct c r given to) ∷ work) [] = refl
shows_at p w now callers pending charged (item (free takes_nil t) ∷ work) [] = refl
shows_at p w now callers pending charged (mark l ∷ work) [] = refl
shows_at p w now callers pending charged (turn l ∷ work) [] = refl
shows_at p w now callers pending charged (finally t ts ∷ work) [] = refl
shows_at p w now callers pending charged (resume t ∷ work) [] = refl
shows_at p w now callers pending charged (catching cs ∷ work) [] = refl
shows_at p w now callers pending charged (handling i ∷ work) [] = refl
shows_at p w now callers pending charged (leaving reason ∷ work) [] = refl
shows_at p w now callers pending charged (ending vs result ∷ work) [] = refl
shows_at p w now callers pending charged (due f ∷ work) [] = refl
shows_at p w now callers pending charged work (frame ∷ frames) = refl

pub shows_between : (p : Program) (s : State) → shows p s ≡ shown_between p.core false s.world (step p s).world
shows_between p s = shows_at p s.world s.routine s.callers s.pending s.charged s.work s.frames
