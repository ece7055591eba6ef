-- When a state of managed code stands for one of the source machine.
use Rattle.std.specs.Prelude.{◌≡◌, ℕ, zero, suc, ◌+◌, false, List, [], ◌∷◌, ◌⊎◌, Some, slice_get}
use Rattle.op_meaning.specs.Frames.{Program, State, Caller}
use Rattle.op_meaning.specs.Items.{Item, Turns, turns, Task, item, mark, turn, finally, resume, catching, scope, handling, leaving, ending, due}
use Rattle.op_meaning.specs.World.{Running}
use Rattle.op_mir.specs.Code.{Instr, jump, dispatch, make_due, ret, Exits, loop_exits, finally_exits, scope_exits, ends, routine_exits, branch_if, Made, code, code_item, code_loop, between_code, blocks_in}
use Rattle.op_mir.specs.Machine.{MirState, MirCaller}
use Rattle.op_mir.specs.Plain.{IsWay, ArePlain, IsPlainItem, ArePlainTurns, Exists, IsUnraised, IsPlainCaller, ArePlainFrames, closes_first, ArePlainPending}

-- ---- blocks

-- these blocks have the numbers from k on
abbrev pub Has : List (List Instr) → ℕ → List (List Instr) → Type 0
Has bs k [] = Unit {0}
Has bs k (b ∷ others) = (slice_get bs k ≡ Some b) × Has bs (k + 1) others

-- a jump to a block with this code
pub record Jumps (bs : List (List Instr)) (from to : List Instr) : Type 0 where
  pub k : ℕ
  pub here : from ≡ jump k ∷ []
  pub there : slice_get bs k ≡ Some to

-- the code is this, or one jump leads to it
abbrev pub Comes : List (List Instr) → List Instr → List Instr → Type 0
Comes bs from to = (from ≡ to) ⊎ Jumps bs from to

-- ---- code for what is still to be done

-- code for the item stands here, in front of other code
pub record Stands (bs : List (List Instr)) (out : Exits) (i : Item) (rest behind : List Instr) : Type 0 where
  pub k : ℕ
  pub comes : Comes bs rest (code_item out i k behind).now
  pub blocks : Has bs k (code_item out i k behind).blocks

abbrev pub branch_of : Turns → ℕ → Instr
branch_of (turns head t ends between body) k = branch_if ends t k

-- the test of a loop stands here, whose blocks are at k, and those between its turns at j
pub record TestStands (bs : List (List Instr)) (out : Exits) (l : Turns) (k : ℕ) (rest : List Instr) : Type 0 where
  pub j : ℕ
  pub comes : Comes bs rest (branch_of l k ∷ (between_code out l k j).now)
  pub blocks : Has bs j (between_code out l k j).blocks

-- a loop whose three first blocks are at k
pub record LoopStands (bs : List (List Instr)) (out : Exits) (l : Turns) (k : ℕ) (behind : List Instr) : Type 0 where
  pub blocks : Has bs k (code_loop out l k behind)

-- a finally part whose four first blocks are at k
pub record FinallyStands (bs : List (List Instr)) (out : Exits) (t : ℕ) (made : Made) (k : ℕ) : Type 0 where
  pub blocks : Has bs k (made.now ∷ out 1 ∷ out 2 ∷ out 3 ∷ made.blocks)

-- Code for the tasks stands here, and behind it the end of the routine. The exits are those of the place: a task that stands behind items
-- says how these leave.
abbrev pub At : Program → List (List Instr) → Exits → List Task → List Instr → Type 0
At p bs out [] rest = (out ≡ routine_exits) × (slice_get bs 1 ≡ Some (ret ∷ [])) × Comes bs rest (ret ∷ [])
At p bs out (item i ∷ work) rest = (behind : List Instr) × IsPlainItem p i × Stands bs out i rest behind × At p bs out work behind
At p bs out (mark l ∷ work) rest =
    (outer : Exits) × (k : ℕ) × (behind : List Instr)
    × ArePlainTurns p l × (out ≡ loop_exits outer k) × Comes bs rest (jump (suc k) ∷ []) × LoopStands bs outer l k behind × At p bs outer work behind
At p bs out (turn l ∷ work) rest =
    (k : ℕ) × (behind : List Instr) × ArePlainTurns p l × TestStands bs out l k rest × LoopStands bs out l k behind × At p bs out work behind
At p bs out (finally t items ∷ work) rest =
    (outer : Exits) × (k : ℕ) × (behind : List Instr)
    × ArePlain p items × (out ≡ finally_exits t k) × Comes bs rest (jump k ∷ [])
    × FinallyStands bs outer t (code outer items (k + 4) (dispatch t k ∷ behind)) k × At p bs outer work behind
At p bs out (resume t ∷ work) rest =
    (k : ℕ) × (behind : List Instr) × Comes bs rest (dispatch t k ∷ behind) × Has bs (k + 1) (out 1 ∷ out 2 ∷ out 3 ∷ []) × At p bs out work behind
At p bs out (scope t ts ∷ work) rest =
    (outer : Exits) × (behind : List Instr) × (out ≡ scope_exits outer (t ∷ ts)) × Comes bs rest (ends (t ∷ ts) behind) × At p bs outer work behind
At p bs out (leaving zero ∷ work) rest = ⊥
At p bs out (leaving (suc n) ∷ work) rest = (behind : List Instr) × IsWay n × Comes bs rest (out (suc n)) × At p bs out work behind
At p bs out (due f ∷ work) rest = (behind : List Instr) × Exists p f.0 × Comes bs rest (make_due f ∷ behind) × At p bs out work behind
At p bs out (catching cs ∷ work) rest = ⊥
At p bs out (handling i ∷ work) rest = ⊥
At p bs out (ending variables result ∷ work) rest = ⊥

-- ---- states

pub record CallerGoes (p : Program) (s : Caller) (m : MirCaller) : Type 0 where
  pub plain : IsPlainCaller s
  pub out : Exits
  pub same : m ≡ record { routine = s.routine; temps = s.temps; waiting = s.waiting; made = s.made; work = m.work; receiver = s.receiver; frames = s.frames }
  pub at : closes_first s.frames ≡ false → At p (blocks_in p s.routine) out s.work m.work

abbrev pub CallersGo : Program → List Caller → List MirCaller → Type 0
CallersGo p [] [] = Unit {0}
CallersGo p (s ∷ ss) (m ∷ ms) = CallerGoes p s m × CallersGo p ss ms
CallersGo p [] (m ∷ ms) = ⊥
CallersGo p (s ∷ ss) [] = ⊥

-- the state below is the one above, with code in place of work
abbrev pub image : State → List Instr → List MirCaller → MirState
image s rest callers = record {
  world = s.world;
  routine = s.routine;
  work = rest;
  frames = s.frames;
  callers = callers;
  pending = s.pending;
  charged = s.charged;
  counts = tt;
}

-- What a state of the plain class has while it goes on: no exception. Temporaries may have been made, and what ends may stand on the
-- activation. While the program closes, the work below is done no more.
pub record IsUnderWay (p : Program) (s : State) (rest : List Instr) : Type 0 where
  pub world : IsUnraised s.world
  pub out : Exits
  pub at : closes_first s.frames ≡ false → At p (blocks_in p s.routine) out s.work rest

pub record Goes (p : Program) (s : State) (m : MirState) : Type 0 where
  pub same : m ≡ image s m.work m.callers
  pub goes_on : s.world.ending ≡ Running → IsUnderWay p s m.work
  pub frames : ArePlainFrames s.frames
  pub callers : CallersGo p s.callers m.callers
  pub pending : ArePlainPending p s.pending
