-- Calls: how an activation begins, and what it leaves when it returns. (Free Pascal Reference Guide, "Using functions and
-- procedures", "Function results" and "Parameter lists".)
use Rattle.std.specs.Prelude.{ℕ, zero, suc, ◌+◌, ◌-◌, pos, Bool, true, false, ◌&&◌, List, [], ◌∷◌, ◌++◌, Option, Some, None, slice_get, nat_eq, if◌then◌else◌, ℤ}
use Rattle.op_core.specs.declared.ids.ClassId.{ClassId}
use Rattle.op_core.specs.declared.ids.TypeId.{TypeId}
use Rattle.op_core.specs.declared.program.Core.{Core}
use Rattle.op_core.specs.declared.routine.Role.{Role}
use Rattle.op_core.specs.declared.routine.Role.TheVariants.{Plain, Constant, Parameter}
use Rattle.op_core.specs.declared.routine.Variable.{Variable}
use Rattle.op_meaning.specs.Expressions.{Env, first_here, result_of}
use Rattle.op_meaning.specs.Frames.{Program, StateOver, CallerOver, Rules, charged_for, discharged, with_world, with_frames, at_reached, Callee, a_routine, a_maker, Handed, a_value, a_place, calling, construction}
use Rattle.op_meaning.specs.Holding.{searching}
use Rattle.op_meaning.specs.Items.{Given, by_value, by_place, by_copy, Receiver, nowhere, to_temp, to_place, Task, ending, onto}
use Rattle.op_meaning.specs.Numbers.{low_bits_of}
use Rattle.op_meaning.specs.Paths.{at_place, place_of}
use Rattle.op_meaning.specs.Shapes.{zero_of, variables_of, type_of_local, result_of_routine, is_managed, is_reference, zero_instance}
use Rattle.op_meaning.specs.Statements.{work_of_all, first_items}
use Rattle.op_meaning.specs.Values.{Value, number, Holder, local, temporary, Place, all_of, number_in, instance, object, Spot, Reached, reached, and_then}
use Rattle.op_meaning.specs.World.{World, number_at, value_at, with_value, with_number, fields, Construction, making}
use Rattle.op_tree.specs.declared.heading.ParameterMode.TheVariants.{Out}

abbrev pub env_of : Program → ℕ → Env
env_of p r = record { core = p.core; routine = r }

-- ---- what is handed over

-- the value, or the error that is met on the way to a place
abbrev pub handed : World → Given → Reached Handed
handed w (by_value kind t) = reached (a_value (number (low_bits_of kind (number_at w t))))
handed w (by_place path) = and_then (place_of w path) (λ q. reached (a_place q))
handed w (by_copy of path) = and_then (place_of w path) (λ q. reached (a_value (value_at w q)))

-- paths are followed in order of the parameters, and the first one that fails decides
abbrev pub all_handed : World → List Given → Reached (List Handed)
all_handed w [] = reached []
all_handed w (g ∷ gs) = and_then (handed w g) (λ x. and_then (all_handed w gs) (λ xs. reached (x ∷ xs)))

-- ---- what is emptied first ("Out parameters")

abbrev is_out : Role → Bool
is_out (Parameter Out) = true
is_out _ = false

-- an `out` parameter of a managed type finds its place empty
abbrev pub emptied_type : Core → Option Variable → Option TypeId
emptied_type core None = None
emptied_type core (Some v) = if is_out v.role && is_managed core v.of then Some v.of else None

abbrev pub spot_at : Place → Option TypeId → List Spot
spot_at q None = []
spot_at q (Some of) = record { at = q; of = of } ∷ []

-- what is given to the parameters from this row on
abbrev pub outs_from : Core → ℕ → List Handed → List Spot
outs_from core v [] = []
outs_from core v (a_value x ∷ given) = outs_from core (suc v) given
outs_from core v (a_place q ∷ given) = spot_at q (emptied_type core (slice_get core.variables v)) ++ outs_from core (suc v) given

-- the object of a constructor stands in front of what it is given
abbrev pub outs_of : Core → Callee → List Handed → List Spot
outs_of core (a_routine r) given = outs_from core (variables_of core r).first given
outs_of core (a_maker c r) given = outs_from core (suc (variables_of core r).first) given

-- parameters are the first variables of an activation, in order; of variables and parameters by value each has its own value
abbrev pub given_one : ℕ → ℕ → Handed → World → World
given_one d k (a_value v) w = with_value (all_of (local d k)) v w
given_one d k (a_place q) w = record w { bound = λ e v. if nat_eq e d && nat_eq v k then q else w.bound e v }

abbrev pub given_all : ℕ → ℕ → List Handed → World → World
given_all d k [] w = w
given_all d k (x ∷ xs) w = given_all d (suc k) xs (given_one d k x w)

-- ---- an activation begins

-- its variables and temporaries are zero, empty or nil
abbrev pub cleared : Core → ℕ → ℕ → (Holder → Value) → Holder → Value
cleared core r d memory (local e v) = if nat_eq e d then zero_of core (type_of_local core r v) else memory (local e v)
cleared core r d memory (temporary e of n) = if nat_eq e d then zero_of core of else memory (temporary e of n)
cleared core r d memory h = memory h

abbrev pub no_temps : ℕ → ℤ
no_temps t = pos 0

abbrev pub none_waiting : ℕ → Option ℕ
none_waiting t = None

abbrev pub entered : Program → ℕ → List Handed → World → World
entered p r given w =
    given_all (suc w.depth) 0 given (record w { temps = no_temps; waiting = none_waiting; made = []; depth = suc w.depth; memory = cleared p.core r (suc w.depth) w.memory })

abbrev has_own_value : Role → Bool
has_own_value Plain = true
has_own_value Constant = true
has_own_value (Parameter m) = if is_reference (Parameter m) then false else true
has_own_value _ = false

abbrev ended_variable : Core → ℕ → Option Variable → List ℕ
ended_variable core k None = []
ended_variable core k (Some v) = if has_own_value v.role && is_managed core v.of then k ∷ [] else []

-- the parameters and locals that have to be ended, in order of declaration
abbrev pub ended_variables : Core → ℕ → ℕ → List ℕ
ended_variables core r zero = []
ended_variables core r (suc k) = ended_variables core r k ++ ended_variable core k (slice_get core.variables ((variables_of core r).first + k))

abbrev ended_result : Core → ℕ → Option TypeId → Option ℕ
ended_result core r None = None
ended_result core r (Some of) = if is_managed core of then Some (result_of_routine core r) else None

-- nothing stands behind the body of a routine without managed variables
abbrev ending_by : List ℕ → Option ℕ → List Task
ending_by [] None = []
ending_by vs result = ending vs result ∷ []

abbrev pub ending_of : Core → ℕ → List Task
ending_of core r = ending_by (ended_variables core r (variables_of core r).count) (ended_result core r (result_of (slice_get core.routines r)))

-- locals with a first value get it, then the body is done, then what has to be ended is
abbrev pub body_work : Program → ℕ → List Task
body_work p r =
    onto (first_items p.core p.first r (variables_of p.core r).count)
    (onto (work_of_all (env_of p r) first_here (p.body r)) (ending_of p.core r))

-- the rules of the source machine: tasks are done, and holders are looked for
abbrev pub source_rules : Program → Rules (List Task) (Unit {0})
source_rules p = searching p (body_work p)

-- the activation under way waits with what is still to be done in it
abbrev pub caller_of : {Work Counts : Type 0} → StateOver Work Counts → Receiver → CallerOver Work
caller_of s receiver = record { routine = s.routine; temps = s.world.temps; waiting = s.world.waiting; made = s.world.made; work = s.work; receiver = receiver; frames = s.frames }

-- the stack is tested, and the routine is entered
abbrev pub begun : {Work Counts : Type 0} → Rules Work Counts → ℕ → Receiver → List Handed → StateOver Work Counts → StateOver Work Counts
begun rules r receiver given s = charged_for rules.program (rules.program.charge r) s (λ t. record t {
  world = entered rules.program r given t.world;
  routine = r;
  work = rules.body r;
  frames = [];
  callers = caller_of t receiver ∷ t.callers;
})

-- ---- a result is received

-- by a temporary of the caller, or at a place
abbrev pub received : Program → Receiver → Value → World → World
received p nowhere v w = w
received p (to_temp t) v w = with_number t (number_in v) w
received p (to_place of path) v w = at_place p.core (place_of w path) (λ q. with_value q v w) w

-- ---- a call

-- The next name is an instance whose fields are zero, and the receiver gets it; its constructor is entered next. ("Class instantiation".)
abbrev pub makes : {Work Counts : Type 0} → Rules Work Counts → ClassId → ℕ → Receiver → List Handed → StateOver Work Counts → StateOver Work Counts
makes rules c r receiver given s =
    let n = s.world.next in
    let made = with_value (all_of (object n)) (zero_instance rules.program.core c) (making (fields c Construction) s.world) in
    with_frames (calling (a_routine r) nowhere (a_value (instance false (Some n)) ∷ given) [] ∷ construction n ∷ s.frames) (with_world (received rules.program receiver (instance false (Some n)) made) s)

abbrev pub goes_in : {Work Counts : Type 0} → Rules Work Counts → Callee → Receiver → List Handed → StateOver Work Counts → StateOver Work Counts
goes_in rules (a_routine r) receiver given s = begun rules r receiver given s
goes_in rules (a_maker c r) receiver given s = makes rules c r receiver given s

-- at once where nothing has to be emptied
abbrev pub goes_in_behind : {Work Counts : Type 0} → Rules Work Counts → Callee → Receiver → List Handed → List Spot → StateOver Work Counts → StateOver Work Counts
goes_in_behind rules callee receiver given [] s = goes_in rules callee receiver given s
goes_in_behind rules callee receiver given (q ∷ qs) s = with_frames (calling callee receiver given (q ∷ qs) ∷ s.frames) s

-- The paths of the arguments are followed first. Then places are emptied, one in a step, and then the stack is tested.
abbrev pub called : {Work Counts : Type 0} → Rules Work Counts → Callee → List Given → Receiver → StateOver Work Counts → StateOver Work Counts
called rules callee given receiver s =
    at_reached rules.program (all_handed s.world given) (λ xs. goes_in_behind rules callee receiver xs (outs_of rules.program.core callee xs) s) s

-- ---- an activation returns

abbrev pub result_in : Program → ℕ → World → Value
result_in p r w = w.memory (local w.depth (result_of_routine p.core r))

-- the caller goes on
abbrev pub gone_back : {Work Counts : Type 0} → Program → CallerOver Work → List (CallerOver Work) → StateOver Work Counts → StateOver Work Counts
gone_back p c cs s = discharged (p.charge s.routine) (record s {
  world = received p c.receiver (result_in p s.routine s.world) (record s.world { temps = c.temps; waiting = c.waiting; made = c.made; depth = s.world.depth - 1 });
  routine = c.routine;
  work = c.work;
  frames = c.frames;
  callers = cs;
})

-- the same where an exception leaves: there is no result
abbrev pub gone_back_raising : {Work Counts : Type 0} → Program → CallerOver Work → List (CallerOver Work) → StateOver Work Counts → StateOver Work Counts
gone_back_raising p c cs s = gone_back p (record c { receiver = nowhere }) cs s
