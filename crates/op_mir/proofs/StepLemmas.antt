-- Steps of managed code: one instruction, a jump in front of others, and what a step of the source machine is reached by.
use Rattle.std.proofs.Common.{◌≡◌, ℕ, suc, ◌+◌, ◌*◌, ◌≤◌, List, [], ◌∷◌, length, Some, inl, inr, refl, sym, ap, ap₂, ◌∙◌, subst, arith, le_trans, mul-le-mul_right}
use Rattle.std.specs.Prelude.{Bool, true, false, slice_get, nat_lt, if◌then◌else◌, ℤ}
use Rattle.std.proofs.lemmas.Bool.{le-ltb}
use Rattle.op_simulation.specs.Path.{Path}
use Rattle.op_simulation.specs.System.{spent}
use Rattle.op_simulation.proofs.Paths.{path_step, path_join}
use Rattle.op_meaning.specs.Frames.{Program, State, Caller, with_work}
use Rattle.op_meaning.specs.Items.{Task}
use Rattle.op_meaning.specs.Source.{Event}
use Rattle.op_meaning.specs.Values.{Value}
use Rattle.op_meaning.specs.World.{World, Running}
use Rattle.op_mir.specs.Code.{Instr, jump, Exits, blocks_in}
use Rattle.op_mir.specs.Going.{Comes, At, CallersGo, image, Goes}
use Rattle.op_mir.specs.Machine.{code_of, MirState, MirCaller, block_or, execute, mir_done, mir_acted, mir_stepped, mir_step_by, mir_step, mir_cost, mir_cost_by, mir_effort, mir_shows, mir_machine, next_bytes, instr_bytes, console_between, charge_between, charge_here, shown_between}
use Rattle.op_mir.specs.Plain.{IsUnraised, ArePlainFrames, ArePlainPending}
use Rattle.op_mir.proofs.ShownLemmas.{shown_none, looks_never}

-- so many instructions, which show this at most at this cost
abbrev pub Steps : Program → MirState → MirState → ℕ → List Event → ℕ → Type 0
Steps p from to n events most = Path (mir_machine (code_of p)) (λ m. Unit {0}) from to n events most

-- the charge of the activation under way
abbrev pub under_way : Program → State → ℕ
under_way p s = charge_here p.charge (length s.callers) s.routine

-- what a step costs that moves so many bytes
abbrev pub price : Program → State → State → ℕ → ℕ
price p s t bytes = 1 + bytes + console_between s.world t.world + under_way p s + charge_between p.charge (length s.callers) t.routine (length t.callers)

-- what so many silent instructions cost
abbrev pub silent : Program → State → ℕ → ℕ
silent p s n = n * (1 + under_way p s)

-- one instruction or more to where the state goes on, at no more than the price and so many silent instructions
pub record Reaches (p : Program) (beside bytes : ℕ) (s t : State) (from : MirState) : Type 0 where
  pub more : ℕ
  pub last : MirState
  pub goes : Goes p t last
  pub steps : Steps p from last (suc more) (shown_between p.core false s.world t.world) (silent p s beside + price p s t bytes)

-- a state in which the activation under way acts
pub record Here (p : Program) (s : State) (ms : List MirCaller) : Type 0 where
  pub running : s.world.ending ≡ Running
  pub world : IsUnraised s.world
  pub frames : s.frames ≡ []
  pub callers : CallersGo p s.callers ms
  pub pending : ArePlainPending p s.pending

-- as many wait below as above
pub same_length : (p : Program) (ss : List Caller) (ms : List MirCaller) → CallersGo p ss ms → length ms ≡ length ss
same_length p [] [] h = refl
same_length p (s ∷ ss) (m ∷ ms) h = let e : length ms ≡ length ss = same_length p ss ms h.1 in omega arith
same_length p [] (m ∷ ms) h = absurd h
same_length p (s ∷ ss) [] h = absurd h

-- a step of a machine that goes on
pub one_step : (p : Program) (from to : MirState) (events : List Event) (most : ℕ) → from.world.ending ≡ Running → mir_step (code_of p) from ≡ to → mir_shows (code_of p) from ≡ events → mir_effort (code_of p) from to ≡ most → Steps p from to 1 events most
one_step p from to events most running step shows cost =
    let M = mir_machine (code_of p) in
    let q = path_step M (λ m. Unit {0}) from tt in
    let is : mir_cost (code_of p) from ≡ most = ap (λ e. mir_cost_by (code_of p) from e) running ∙ ap (λ to'. mir_effort (code_of p) from to') step ∙ cost in
    record { ends = q.ends ∙ step; shows = q.shows ∙ shows; within = subst (λ n. spent M 1 from ≤ n) is q.within; moments = λ j less. tt }

-- what a step costs below is its price
pub price_is : (p : Program) (s t : State) (ms : List MirCaller) (from m : MirState) (bytes : ℕ) → from.world ≡ s.world → from.routine ≡ s.routine → next_bytes p.core from.routine from.work from.frames ≡ bytes → CallersGo p s.callers from.callers → Goes p t m → mir_effort (code_of p) from m ≡ price p s t bytes
price_is p s t ms from m bytes world here same waits goes =
    let world' : m.world ≡ t.world = ap (λ (x : MirState). x.world) goes.same in
    let routine : m.routine ≡ t.routine = ap (λ (x : MirState). x.routine) goes.same in
    let before = same_length p s.callers from.callers waits in
    let after = same_length p t.callers m.callers goes.callers in
    ap (λ b. 1 + b + console_between from.world m.world + charge_here p.charge (length from.callers) from.routine + charge_between p.charge (length from.callers) m.routine (length m.callers)) same
    ∙ ap (λ w. 1 + bytes + console_between w m.world + charge_here p.charge (length from.callers) from.routine + charge_between p.charge (length from.callers) m.routine (length m.callers)) world
    ∙ ap (λ w. 1 + bytes + console_between s.world w + charge_here p.charge (length from.callers) from.routine + charge_between p.charge (length from.callers) m.routine (length m.callers)) world'
    ∙ ap (λ n. 1 + bytes + console_between s.world t.world + charge_here p.charge n from.routine + charge_between p.charge n m.routine (length m.callers)) before
    ∙ ap (λ r. 1 + bytes + console_between s.world t.world + charge_here p.charge (length s.callers) r + charge_between p.charge (length s.callers) m.routine (length m.callers)) here
    ∙ ap (λ r. 1 + bytes + console_between s.world t.world + under_way p s + charge_between p.charge (length s.callers) r (length m.callers)) routine
    ∙ ap (λ n. 1 + bytes + console_between s.world t.world + under_way p s + charge_between p.charge (length s.callers) t.routine n) after

-- the machine does the next instruction
step_is : (p : Program) (s : State) (ms : List MirCaller) (i : Instr) (rest : List Instr) → Here p s ms → mir_step (code_of p) (image s (i ∷ rest) ms) ≡ execute (code_of p) i (image s rest ms)
unfolding mir_step mir_step_by mir_stepped mir_acted mir_done
step_is p s ms i rest h =
    let m = image s (i ∷ rest) ms in
    ap (λ e. mir_step_by (code_of p) e m) h.running ∙ ap (λ o. mir_stepped (code_of p) o m) h.world.raised ∙ ap (λ f. mir_acted (code_of p) f m) h.frames

shows_is : (p : Program) (s : State) (ms : List MirCaller) (i : Instr) (rest : List Instr) (m : MirState) → Here p s ms → execute (code_of p) i (image s rest ms) ≡ m → mir_shows (code_of p) (image s (i ∷ rest) ms) ≡ shown_between p.core false s.world m.world
shows_is p s ms i rest m h e =
    ap (λ l. shown_between p.core l s.world (mir_step (code_of p) (image s (i ∷ rest) ms)).world) (looks_never (i ∷ rest) s.frames)
    ∙ ap (λ (x : MirState). shown_between p.core false s.world x.world) (step_is p s ms i rest h ∙ e)

-- an instruction of its own for the step
pub one : (p : Program) (s t : State) (ms : List MirCaller) (i : Instr) (rest : List Instr) (m : MirState) → Here p s ms → execute (code_of p) i (image s rest ms) ≡ m → Goes p t m → Reaches p 0 (instr_bytes p.core s.routine i) s t (image s (i ∷ rest) ms)
one p s t ms i rest m h e g =
    let from = image s (i ∷ rest) ms in
    let bytes = instr_bytes p.core s.routine i in
    let world : m.world ≡ t.world = ap (λ (x : MirState). x.world) g.same in
    let shows = shows_is p s ms i rest m h e ∙ ap (λ w. shown_between p.core false s.world w) world in
    let moves : next_bytes p.core s.routine (i ∷ rest) s.frames ≡ bytes = ap (λ f. next_bytes p.core s.routine (i ∷ rest) f) h.frames in
    let cost = price_is p s t ms from m bytes refl refl moves h.callers g in
    let none : price p s t bytes ≡ silent p s 0 + price p s t bytes = omega arith in
    record { more = 0; last = m; goes = g; steps = one_step p from m _ (silent p s 0 + price p s t bytes) h.running (step_is p s ms i rest h ∙ e) shows (cost ∙ none) }

one_silent : (u : ℕ) → 1 + 0 + 0 + u + 0 ≡ 1 * (1 + u)
one_silent u = omega arith

-- an instruction that changes temporaries alone
pub quiet : (p : Program) (s s' : State) (ms : List MirCaller) (i : Instr) (rest rest' : List Instr) (temps : ℕ → ℤ) → Here p s ms → instr_bytes p.core s.routine i ≡ 0 → execute (code_of p) i (image s rest ms) ≡ image s' rest' ms → s'.world ≡ record s.world { temps = temps } → Steps p (image s (i ∷ rest) ms) (image s' rest' ms) 1 [] (silent p s 1)
quiet p s s' ms i rest rest' temps h light e world =
    let from = image s (i ∷ rest) ms in
    let to = image s' rest' ms in
    let moves : next_bytes p.core s.routine (i ∷ rest) s.frames ≡ 0 = ap (λ f. next_bytes p.core s.routine (i ∷ rest) f) h.frames ∙ light in
    let said : console_between s.world (record s.world { temps = temps }) ≡ 0 = omega arith in
    let below : nat_lt (length ms) (length ms) ≡ false = le-ltb (length ms) (length ms) (omega arith) in
    let same : length ms ≡ length s.callers = same_length p s.callers ms h.callers in
    let cost : mir_effort (code_of p) from to ≡ silent p s 1 =
    ap (λ b. 1 + b + console_between s.world s'.world + charge_here p.charge (length ms) s.routine + charge_between p.charge (length ms) s'.routine (length ms)) moves
    ∙ ap (λ w. 1 + 0 + console_between s.world w + charge_here p.charge (length ms) s.routine + charge_between p.charge (length ms) s'.routine (length ms)) world
    ∙ ap (λ n. 1 + 0 + n + charge_here p.charge (length ms) s.routine + charge_between p.charge (length ms) s'.routine (length ms)) said
    ∙ ap (λ b. 1 + 0 + 0 + charge_here p.charge (length ms) s.routine + (if b then p.charge s'.routine else 0)) below
    ∙ ap (λ n. 1 + 0 + 0 + charge_here p.charge n s.routine + 0) same
    ∙ one_silent (under_way p s) in
    one_step p from to [] (silent p s 1) h.running (step_is p s ms i rest h ∙ e)
    (shows_is p s ms i rest to h e ∙ ap (λ w. shown_between p.core false s.world w) world ∙ shown_none p.core s.world temps) cost

jump_step : (p : Program) (s : State) (ms : List MirCaller) (k : ℕ) (b : List Instr) → Here p s ms → slice_get (blocks_in p s.routine) k ≡ Some b → Steps p (image s (jump k ∷ []) ms) (image s b ms) 1 [] (silent p s 1)
unfolding execute
jump_step p s ms k b h e = quiet p s s ms (jump k) [] b s.world.temps h refl (ap (λ o. image s (block_or o) ms) e) refl

plus_both : (m n u c : ℕ) → m * (1 + u) + (n * (1 + u) + c) ≡ (m + n) * (1 + u) + c
plus_both m n u c = omega arith

-- silent instructions in front
pub before : (p : Program) (beside bytes n : ℕ) (s s' t : State) (from mid : MirState) → Steps p from mid n [] (silent p s n) → shown_between p.core false s'.world t.world ≡ shown_between p.core false s.world t.world → price p s' t bytes ≡ price p s t bytes → under_way p s' ≡ under_way p s → Reaches p beside bytes s' t mid → Reaches p (n + beside) bytes s t from
before p beside bytes n s s' t from mid first same as_dear as_charged r =
    let M = mir_machine (code_of p) in
    let e : n + suc r.more ≡ suc (n + r.more) = omega arith in
    let joined = path_join M (λ m. Unit {0}) from mid r.last n (suc r.more) [] (shown_between p.core false s'.world t.world) (silent p s n) (silent p s' beside + price p s' t bytes) first r.steps in
    let counted = subst (λ k. Steps p from r.last k (shown_between p.core false s'.world t.world) (silent p s n + (silent p s' beside + price p s' t bytes))) e joined in
    let shown = subst (λ x. Steps p from r.last (suc (n + r.more)) x (silent p s n + (silent p s' beside + price p s' t bytes))) same counted in
    let sum : silent p s n + (silent p s beside + price p s t bytes) ≡ silent p s (n + beside) + price p s t bytes = plus_both n beside (under_way p s) (price p s t bytes) in
    let cost = ap₂ (λ u x. silent p s n + (beside * (1 + u) + x)) as_charged as_dear ∙ sum in
    record { more = n + r.more; last = r.last; goes = r.goes; steps = subst (λ x. Steps p from r.last (suc (n + r.more)) (shown_between p.core false s.world t.world) x) cost shown }

dearer : (a b c d x y u : ℕ) → a ≤ b → c ≤ d → a * (1 + u) + (1 + c + x + u + y) ≤ b * (1 + u) + (1 + d + x + u + y)
dearer a b c d x y u le le' = let more = mul-le-mul_right (1 + u) le in omega arith

pub at_most : (p : Program) (m n b c : ℕ) (s t : State) (from : MirState) → m ≤ n → b ≤ c → Reaches p m b s t from → Reaches p n c s t from
at_most p m n b c s t from le le' r =
    let q = r.steps in
    let more : silent p s m + price p s t b ≤ silent p s n + price p s t c = dearer m n b c (console_between s.world t.world) (charge_between p.charge (length s.callers) t.routine (length t.callers)) (under_way p s) le le' in
    record { more = r.more; last = r.last; goes = r.goes; steps = record { ends = q.ends; shows = q.shows; within = le_trans q.within more; moments = λ j less. tt } }

-- a jump in front, or none
pub come : (p : Program) (beside bytes : ℕ) (s t : State) (ms : List MirCaller) (from to : List Instr) → Here p s ms → Comes (blocks_in p s.routine) from to → Reaches p beside bytes s t (image s to ms) → Reaches p (1 + beside) bytes s t (image s from ms)
come p beside bytes s t ms from to h (inl e) r = subst (λ x. Reaches p (1 + beside) bytes s t (image s x ms)) (sym e) (at_most p beside (1 + beside) bytes bytes s t (image s to ms) (omega arith) (omega arith) r)
come p beside bytes s t ms from to h (inr j) r =
    let first = subst (λ x. Steps p (image s x ms) (image s to ms) 1 [] (silent p s 1)) (sym j.here) (jump_step p s ms j.k to h j.there) in
    before p beside bytes 1 s s t (image s from ms) (image s to ms) first refl refl refl r

pub advance : (p : Program) (s t : State) (ms : List MirCaller) (from : List Instr) (i : Instr) (rest : List Instr) → Here p s ms → Comes (blocks_in p s.routine) from (i ∷ rest) → Goes p t (execute (code_of p) i (image s rest ms)) → Reaches p 1 (instr_bytes p.core s.routine i) s t (image s from ms)
advance p s t ms from i rest h comes g = come p 0 (instr_bytes p.core s.routine i) s t ms from (i ∷ rest) h comes (one p s t ms i rest _ h refl g)

-- ---- where the activation goes on

pub goes_at : (p : Program) (s : State) (ms : List MirCaller) → Here p s ms → (w : World) → IsUnraised w → (work : List Task) (out : Exits) (rest : List Instr) → At p (blocks_in p s.routine) out work rest → Goes p (record s { world = w; work = work }) (image (record s { world = w; work = work }) rest ms)
goes_at p s ms h w plain work out rest at = record {
  same = refl;
  goes_on = λ _. record { world = plain; out = out; at = λ _. at };
  frames = subst ArePlainFrames (sym h.frames) tt;
  callers = h.callers;
  pending = h.pending;
}

-- in the same world
pub goes_with : (p : Program) (s : State) (ms : List MirCaller) → Here p s ms → (work : List Task) (out : Exits) (rest : List Instr) → At p (blocks_in p s.routine) out work rest → Goes p (with_work work s) (image s rest ms)
goes_with p s ms h work out rest at = goes_at p s ms h s.world h.world work out rest at

pub if_goes : (p : Program) (b : Bool) (s : State) (v w : List Task) (x y : MirState) → Goes p (with_work v s) x → Goes p (with_work w s) y → Goes p (with_work (if b then v else w) s) (if b then x else y)
if_goes p true s v w x y gx gy = gx
if_goes p false s v w x y gx gy = gy
