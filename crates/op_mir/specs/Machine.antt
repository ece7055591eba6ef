-- The machine of managed code: it has the state of the source machine, with what is left of a block for its work, and does what that does
-- in an action, a call, a return, where a place loses a value and where the program ends; what comes next is told by blocks. Nothing is
-- counted. (Free Pascal Reference Guide, "Using functions and procedures" and "Programs, units, blocks"; User's
-- Guide, "Run-time errors".)
use Rattle.std.specs.Prelude.{ℕ, zero, suc, ◌+◌, ◌-◌, ℤ, pos, Bool, false, not, ◌&&◌, List, [], ◌∷◌, ◌++◌, length, map, Option, Some, None, slice_get, nat_lt, if◌then◌else◌}
use Rattle.std.specs.List.{list_any, sum_by}
use Rattle.op_simulation.specs.System.{System}
use Rattle.op_core.specs.Statement.{no_statements}
use Rattle.op_core.specs.declared.ids.TypeId.{TypeId}
use Rattle.op_core.specs.declared.program.Core.{Core}
use Rattle.op_meaning.specs.Actions.{Action, constant, load, store, copy, look, begin_with, pick, arithmetic, compare, negate, complement, invert, absolute, odd, upper, low_bits, check, neighbour, single, span, combine, contains, check_set, primitive, perform}
use Rattle.op_meaning.specs.Calls.{called}
use Rattle.op_meaning.specs.Costs.{indices, given_bytes}
use Rattle.op_meaning.specs.Demands.{size_of, Demand, nothing, block_of, is_standing}
use Rattle.op_meaning.specs.Ending.{framed}
use Rattle.op_meaning.specs.Expressions.{result_of}
use Rattle.op_meaning.specs.Frames.{Program, CallerOver, StateOver, Rules, Frame, finalize, a_routine}
use Rattle.op_meaning.specs.Holding.{each, searching}
use Rattle.op_meaning.specs.Leaving.{raised_again}
use Rattle.op_meaning.specs.Losing.{ends_made}
use Rattle.op_meaning.specs.Machine.{label_has, halts, returned}
use Rattle.op_meaning.specs.Numbers.{is_true}
use Rattle.op_meaning.specs.Source.{Event, Asked, LetGo, Looked, Taken, Written, Reported, looks, behind, taken}
use Rattle.op_meaning.specs.Start.{first_world, first_pending}
use Rattle.op_meaning.specs.World.{World, Ending, Running, Ended, number_at}
use Rattle.op_mir.specs.Code.{Instr, do_act, do_call, jump, when, unless, switch, dispatch, make_due, open_temporaries, end_temporary, stop, ret, Arm, blocks_in}

-- ---- programs

-- the tables of a program, what an activation of each routine is charged, the bytes of stack that all have together, and the blocks of
-- each routine
pub record Code : Type 0 where
  pub core : Core
  pub charge : ℕ → ℕ
  pub stack : ℕ
  pub blocks : ℕ → List (List Instr)

-- the code of a typed program
abbrev pub code_of : Program → Code
code_of p = record { core = p.core; charge = p.charge; stack = p.stack; blocks = blocks_in p }

-- the tables alone: no statement is looked at
abbrev pub tables : Code → Program
tables c = record { core = c.core; body = λ r. no_statements; first = λ v. None; charge = c.charge; stack = c.stack }

-- ---- states: what is left of a block is still to be done

abbrev pub MirCaller : Type 0
MirCaller = CallerOver (List Instr)

abbrev pub MirState : Type 0
MirState = StateOver (List Instr) (Unit {0})

abbrev pub block_or : Option (List Instr) → List Instr
block_or None = []
block_or (Some b) = b

-- a block that does not exist is empty
abbrev pub block_at : List (List Instr) → ℕ → List Instr
block_at blocks k = block_or (slice_get blocks k)

-- a routine begins with its first block, and holders are looked for
abbrev pub code_rules : Code → Rules (List Instr) (Unit {0})
code_rules c = searching (tables c) (λ r. block_at (c.blocks r) 0)

-- ---- where the code goes on

abbrev pub go_to : Code → ℕ → MirState → MirState
go_to c k m = record m { work = block_at (c.blocks m.routine) k }

abbrev pub arm_for : ℤ → List Arm → Option ℕ
arm_for n [] = None
arm_for n (a ∷ arms) = if list_any (label_has n) a.labels then Some a.block else arm_for n arms

abbrev pub go_if : Code → Option ℕ → MirState → MirState
go_if c None m = m
go_if c (Some k) m = go_to c k m

abbrev pub dispatched : Code → ℤ → ℕ → ℕ → MirState → MirState
dispatched c (pos (suc zero)) t k m = go_to c (k + 1) m
dispatched c (pos (suc (suc zero))) t k m = go_to c (k + 2) m
dispatched c (pos (suc (suc (suc zero)))) t k m = go_to c (k + 3) m
dispatched c (pos (suc (suc (suc (suc zero))))) t k m = raised_again (t + 1) m.work m
dispatched c _ t k m = m

-- ---- the step

-- in a state that stands behind the instruction
unfoldable pub execute : Code → Instr → MirState → MirState
execute c (do_act a landing) m = record m { world = perform c.core ((code_rules c).number m) a m.world }
execute c (do_call r given receiver landing) m = called (code_rules c) (a_routine r) given receiver m
execute c (jump k) m = go_to c k m
execute c (when t k) m = if is_true (number_at m.world t) then go_to c k m else m
execute c (unless t k) m = if is_true (number_at m.world t) then m else go_to c k m
execute c (switch t arms) m = go_if c (arm_for (number_at m.world t) arms) m
execute c (dispatch t k) m = dispatched c (number_at m.world t) t k m
execute c (make_due f) m = record m { pending = finalize f ∷ m.pending }
execute c (open_temporaries ts) m = m
execute c (end_temporary t) m = ends_made (code_rules c) t m
execute c (stop t) m = halts (number_at m.world t) m
execute c ret m = returned (tables c) m.callers m

-- the end of a block that no instruction leaves stays
unfoldable pub mir_done : Code → List Instr → MirState → MirState
mir_done c [] m = m
mir_done c (i ∷ rest) m = execute c i (record m { work = rest })

unfoldable pub mir_acted : Code → List Frame → MirState → MirState
mir_acted c [] m = mir_done c m.work m
mir_acted c (frame ∷ rest) m = framed (code_rules c) frame rest m

-- an exception under way has no step yet
unfoldable pub mir_stepped : Code → Option ℕ → MirState → MirState
mir_stepped c None m = mir_acted c m.frames m
mir_stepped c (Some e) m = m

unfoldable pub mir_step_by : Code → Ending → MirState → MirState
mir_step_by c Running m = mir_stepped c m.world.raised m
mir_step_by c (Ended status) m = m

unfoldable pub mir_step : Code → MirState → MirState
mir_step c m = mir_step_by c m.world.ending m

-- ---- what a step shows

abbrev pub where_some : (List ℕ → Event) → List ℕ → List Event
where_some event [] = []
where_some event (b ∷ bs) = event (b ∷ bs) ∷ []

abbrev pub asked : Demand → List Event
asked nothing = []
asked d = Asked d ∷ []

abbrev pub looked : Bool → List Event
looked b = if b then Looked ∷ [] else []

-- what lies between two worlds: what was asked for, what went in and out, and what was let go
abbrev pub shown_between : Core → Bool → World → World → List Event
shown_between core looks v w =
    looked looks
    ++ asked (if nat_lt v.next w.next then block_of core (w.objects v.next) else nothing)
    ++ (where_some (λ bytes. Taken bytes) (taken v.input w.input) ++ where_some (λ bytes. Written bytes) (behind v.output w.output) ++ where_some (λ bytes. Reported bytes) (behind v.errors w.errors))
    ++ map (λ n. LetGo n) (each v.next (λ n. if is_standing (v.objects n) && not (is_standing (w.objects n)) then n ∷ [] else []))

abbrev pub looks_by : List Instr → Bool
looks_by [] = false
looks_by (do_act a landing ∷ rest) = looks a
looks_by (do_call r given receiver landing ∷ rest) = false
looks_by (jump k ∷ rest) = false
looks_by (when t k ∷ rest) = false
looks_by (unless t k ∷ rest) = false
looks_by (switch t arms ∷ rest) = false
looks_by (dispatch t k ∷ rest) = false
looks_by (make_due f ∷ rest) = false
looks_by (open_temporaries ts ∷ rest) = false
looks_by (end_temporary t ∷ rest) = false
looks_by (stop t ∷ rest) = false
looks_by (ret ∷ rest) = false

abbrev pub looks_on : List Instr → List Frame → Bool
looks_on rest [] = looks_by rest
looks_on rest (frame ∷ frames) = false

abbrev pub mir_shows : Code → MirState → List Event
mir_shows c m = shown_between c.core (looks_on m.work m.frames) m.world (mir_step c m).world

-- ---- the machine

-- the bytes that an action moves, beside single numbers
abbrev pub moved : Core → Action → ℕ
moved core (constant to n) = 0
moved core (load to kind from) = indices from
moved core (store to kind from) = indices to
moved core (copy of to from) = size_of core of + indices to + indices from
moved core (look at) = indices at
moved core (begin_with v of value) = size_of core of
moved core (pick to text index) = 0
moved core (arithmetic o checked to a b) = 0
moved core (compare o to a b) = 0
moved core (negate checked to a) = 0
moved core (complement to a) = 0
moved core (invert to a) = 0
moved core (absolute checked to a) = 0
moved core (odd to a) = 0
moved core (upper to a) = 0
moved core (low_bits kind to a) = 0
moved core (check low high to a) = 0
moved core (neighbour distance low high to a) = 0
moved core (single to a) = 0
moved core (span to a b) = 0
moved core (combine o to a b) = 0
moved core (contains to a b) = 0
moved core (check_set all to a) = 0
moved core (primitive p operands to) = 0

abbrev result_bytes : Core → Option TypeId → ℕ
result_bytes core None = 0
result_bytes core (Some of) = size_of core of

-- what is moved by the instruction, what is given to a routine, and what a routine gives
abbrev pub instr_bytes : Core → ℕ → Instr → ℕ
instr_bytes core r (do_act a landing) = moved core a
instr_bytes core r (do_call id given receiver landing) = sum_by (given_bytes core) given
instr_bytes core r (jump k) = 0
instr_bytes core r (when t k) = 0
instr_bytes core r (unless t k) = 0
instr_bytes core r (switch t arms) = 0
instr_bytes core r (dispatch t k) = 0
instr_bytes core r (make_due f) = 0
instr_bytes core r (open_temporaries ts) = 0
instr_bytes core r (end_temporary t) = 0
instr_bytes core r (stop t) = 0
instr_bytes core r ret = result_bytes core (result_of (slice_get core.routines r))

abbrev rest_bytes : Core → ℕ → List Instr → ℕ
rest_bytes core r [] = 0
rest_bytes core r (i ∷ rest) = instr_bytes core r i

abbrev pub next_bytes : Core → ℕ → List Instr → List Frame → ℕ
next_bytes core r rest [] = rest_bytes core r rest
next_bytes core r rest (frame ∷ frames) = 0

-- what was written and read between two worlds
abbrev pub console_between : World → World → ℕ
console_between v w = (length w.output - length v.output) + (length w.errors - length v.errors) + (length v.input - length w.input)

-- the charge of the activation under way, with so many below it: the program itself is charged nothing
abbrev pub charge_here : (ℕ → ℕ) → (below : ℕ) → ℕ → ℕ
charge_here charge zero r = 0
charge_here charge (suc below) r = charge r

-- what an activation is charged that begins, by how many stood below it and now stand below it
abbrev pub charge_between : (ℕ → ℕ) → ℕ → ℕ → ℕ → ℕ
charge_between charge below r now = if nat_lt below now then charge r else 0

-- one, with the bytes and the charges of the activation under way and of the one that is entered
abbrev pub mir_effort : Code → MirState → MirState → ℕ
mir_effort c m n =
    1 + next_bytes c.core m.routine m.work m.frames + console_between m.world n.world + charge_here c.charge (length m.callers) m.routine
    + charge_between c.charge (length m.callers) n.routine (length n.callers)

abbrev pub mir_cost_by : Code → MirState → Ending → ℕ
mir_cost_by c m Running = mir_effort c m (mir_step c m)
mir_cost_by c m (Ended status) = 0

abbrev pub mir_cost : Code → MirState → ℕ
mir_cost c m = mir_cost_by c m m.world.ending

abbrev pub mir_machine : Code → System Event
mir_machine c = record { State = MirState; step = mir_step c; cost = mir_cost c; shows = mir_shows c }

-- the lowest activation is the program itself
abbrev pub mir_start : Program → List ℕ → MirState
mir_start p input = record {
  world = first_world p input;
  routine = length p.core.routines;
  work = block_at (blocks_in p (length p.core.routines)) 0;
  frames = [];
  callers = [];
  pending = first_pending p.core;
  charged = 0;
  counts = tt;
}
