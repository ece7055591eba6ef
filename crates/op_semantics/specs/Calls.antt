-- Calls: how an activation begins, and what it leaves when it returns. (Free Pascal Reference Guide, "Using functions and
-- procedures", "Function results" and "Parameter lists".)
use Rattle.std.specs.Prelude.{ℕ, zero, suc, ◌+◌, ◌-◌, pos, Bool, true, false, not, ◌&&◌, List, [], ◌∷◌, ◌++◌, Option, Some, None, slice_get, nat_eq, if◌then◌else◌, ℤ}
use Rattle.op_core.specs.Sizes.{type_at}
use Rattle.op_core.specs.declared.ids.ClassId.{ClassId}
use Rattle.op_core.specs.declared.ids.TypeId.{TypeId}
use Rattle.op_core.specs.declared.operation.Dispatch.{Dispatch}
use Rattle.op_core.specs.declared.operation.Dispatch.TheVariants.{Direct}
use Rattle.op_core.specs.declared.program.Core.{Core}
use Rattle.op_core.specs.declared.routine.Role.{Role}
use Rattle.op_core.specs.declared.routine.Role.TheVariants.{Plain, Constant, Parameter}
use Rattle.op_core.specs.declared.routine.Variable.{Variable}
use Rattle.op_core.specs.declared.types.CoreType.{CoreType}
use Rattle.op_core.specs.declared.types.CoreType.TheVariants.{OpenArray}
use Rattle.op_semantics.specs.Expressions.{Env, first_here, result_of}
use Rattle.op_semantics.specs.Frames.{Program, StateOver, CallerOver, Rules, charged_for, discharged, with_world, with_frames, fails, at_reached, Callee, a_routine, a_maker, a_method, Handed, a_value, a_place, calling, construction}
use Rattle.op_semantics.specs.Holding.{searching}
use Rattle.op_semantics.specs.Items.{Given, by_value, by_place, by_elements, by_copy, by_operand, Receiver, nowhere, to_temp, to_place, to_new, Task, ending, onto}
use Rattle.op_semantics.specs.Methods.{method_for}
use Rattle.op_meaning.specs.Numbers.{low_bits_of}
use Rattle.op_semantics.specs.Paths.{at_place, elements_in, place_of}
use Rattle.op_semantics.specs.Primitives.{looked_at}
use Rattle.op_semantics.specs.Shapes.{no_type, zero_of, variables_of, type_of_local, result_of_routine, is_managed, refers, zero_instance}
use Rattle.op_semantics.specs.Statements.{work_of_all, first_items}
use Rattle.op_meaning.specs.Values.{Value, number, array, Holder, local, temporary, Place, all_of, number_in, instance, object, Spot, Reached, reached, and_then}
use Rattle.op_semantics.specs.World.{World, Object, Temporary, number_at, value_at, with_value, with_number, with_made, fields, Construction, Dead, making}
use Rattle.op_tree.specs.declared.heading.ParameterMode.TheVariants.{Out}

abbrev pub env_of : Program → ℕ → Env
env_of p r = record { core = p.core; routine = r }

-- ---- what is handed over

-- the value, or the error that is met on the way to a place
abbrev pub handed : Core → World → Given → Reached Handed
handed core w (by_value kind t) = reached (a_value (number (low_bits_of kind (number_at w t))))
handed core w (by_place path hold) = and_then (place_of w path) (λ q. reached (a_place q))
handed core w (by_elements path hold) = and_then (place_of w path) (λ q. reached (a_place (elements_in (value_at w q))))
handed core w (by_copy of path) = and_then (place_of w path) (λ q. reached (a_value (value_at w q)))
handed core w (by_operand o) = and_then (looked_at core (λ n. 0) w (o ∷ [])) (λ v. reached (a_value v.value))

-- paths are followed in order of the parameters, and the first one that fails decides
abbrev pub all_handed : Core → World → List Given → Reached (List Handed)
all_handed core w [] = reached []
all_handed core w (g ∷ gs) = and_then (handed core w g) (λ x. and_then (all_handed core w gs) (λ xs. reached (x ∷ xs)))

-- the array that a place lies in, or that has the elements, goes to a temporary; nil has none
abbrev held_in : Holder → Option Temporary → World → World
held_in (object zero) (Some t) w = w
held_in (object (suc n)) (Some t) w = with_made t.of t.n (array (Some (suc n))) w
held_in h hold w = w

abbrev held_one : Given → Handed → World → World
held_one (by_place path hold) (a_place q) w = held_in q.holder hold w
held_one (by_elements path hold) (a_place q) w = held_in q.holder hold w
held_one g x w = w

abbrev pub held_all : List Given → List Handed → World → World
held_all (g ∷ gs) (x ∷ xs) w = held_all gs xs (held_one g x w)
held_all gs xs w = w

-- ---- what is emptied first ("Out parameters")

abbrev is_out : Role → Bool
is_out (Parameter Out) = true
is_out _ = false

abbrev is_emptied : Core → TypeId → Option CoreType → Bool
is_emptied core of (Some (OpenArray element)) = is_managed core element
is_emptied core of type = is_managed core of

-- an `out` parameter of a managed type finds its place empty, and an open array all of its elements
abbrev pub emptied_type : Core → Option Variable → Option TypeId
emptied_type core None = None
emptied_type core (Some v) = if is_out v.role && is_emptied core v.of (type_at core v.of) then Some v.of else None

abbrev pub spot_at : Place → Option TypeId → List Spot
spot_at q None = []
spot_at q (Some of) = record { at = q; of = of } ∷ []

-- what is given to the parameters from this row on
abbrev pub outs_from : Core → ℕ → List Handed → List Spot
outs_from core v [] = []
outs_from core v (a_value x ∷ given) = outs_from core (suc v) given
outs_from core v (a_place q ∷ given) = spot_at q (emptied_type core (slice_get core.variables v)) ++ outs_from core (suc v) given

-- the object of a constructor stands in front of what it is given
abbrev pub outs_of : Core → Callee → List Handed → List Spot
outs_of core (a_routine r) given = outs_from core (variables_of core r).first given
outs_of core (a_maker c r) given = outs_from core (suc (variables_of core r).first) given
outs_of core (a_method r dispatch of) given = outs_from core (variables_of core r).first given

-- parameters are the first variables of an activation, in order; of variables and parameters by value each has its own value
abbrev pub given_one : ℕ → ℕ → Handed → World → World
given_one d k (a_value v) w = with_value (all_of (local d k)) v w
given_one d k (a_place q) w = record w { bound = λ e v. if nat_eq e d && nat_eq v k then q else w.bound e v }

abbrev pub given_all : ℕ → ℕ → List Handed → World → World
given_all d k [] w = w
given_all d k (x ∷ xs) w = given_all d (suc k) xs (given_one d k x w)

-- ---- an activation begins

-- its variables and temporaries are zero, empty or nil
abbrev pub cleared : Core → ℕ → ℕ → (Holder → Value) → Holder → Value
cleared core r d memory (local e v) = if nat_eq e d then zero_of core (type_of_local core r v) else memory (local e v)
cleared core r d memory (temporary e of n) = if nat_eq e d then zero_of core of else memory (temporary e of n)
cleared core r d memory h = memory h

abbrev pub no_temps : ℕ → ℤ
no_temps t = pos 0

abbrev pub none_waiting : ℕ → Option ℕ
none_waiting t = None

abbrev pub entered : Program → ℕ → List Handed → World → World
entered p r given w =
    given_all (suc w.depth) 0 given (record w { temps = no_temps; waiting = none_waiting; made = []; depth = suc w.depth; memory = cleared p.core r (suc w.depth) w.memory })

abbrev is_of_routine : Role → Bool
is_of_routine Plain = true
is_of_routine Constant = true
is_of_routine (Parameter m) = true
is_of_routine _ = false

abbrev has_own_value : Core → Variable → Bool
has_own_value core v = is_of_routine v.role && not (refers core (Some v))

abbrev ended_variable : Core → ℕ → Option Variable → List ℕ
ended_variable core k None = []
ended_variable core k (Some v) = if has_own_value core v && is_managed core v.of then k ∷ [] else []

-- the parameters and locals that have to be ended, in order of declaration
abbrev pub ended_variables : Core → ℕ → ℕ → List ℕ
ended_variables core r zero = []
ended_variables core r (suc k) = ended_variables core r k ++ ended_variable core k (slice_get core.variables ((variables_of core r).first + k))

abbrev ended_result : Core → ℕ → Option TypeId → Option ℕ
ended_result core r None = None
ended_result core r (Some of) = if is_managed core of then Some (result_of_routine core r) else None

-- nothing stands behind the body of a routine without managed variables
abbrev ending_by : List ℕ → Option ℕ → List Task
ending_by [] None = []
ending_by vs result = ending vs result ∷ []

abbrev pub ending_of : Core → ℕ → List Task
ending_of core r = ending_by (ended_variables core r (variables_of core r).count) (ended_result core r (result_of (slice_get core.routines r)))

-- locals with a first value get it, then the body is done, then what has to be ended is
abbrev pub body_work : Program → ℕ → List Task
body_work p r =
    onto (first_items p.core p.first r (variables_of p.core r).count)
    (onto (work_of_all (env_of p r) first_here (p.body r)) (ending_of p.core r))

-- the rules of the source machine: tasks are done, and holders are looked for
abbrev pub source_rules : Program → Rules (List Task) (Unit {0})
source_rules p = searching p (body_work p)

-- the activation under way waits with what is still to be done in it
abbrev pub caller_of : {Work Counts : Type 0} → StateOver Work Counts → Receiver → CallerOver Work
caller_of s receiver = record { routine = s.routine; temps = s.world.temps; waiting = s.world.waiting; made = s.world.made; work = s.work; receiver = receiver; frames = s.frames }

-- the stack is tested, and the routine is entered
abbrev pub begun : {Work Counts : Type 0} → Rules Work Counts → ℕ → Receiver → List Handed → StateOver Work Counts → StateOver Work Counts
begun rules r receiver given s = charged_for rules.program (rules.program.charge r) s (λ t. record t {
  world = entered rules.program r given t.world;
  routine = r;
  work = rules.body r;
  frames = [];
  callers = caller_of t receiver ∷ t.callers;
})

-- ---- a result is received

-- by a temporary of the caller, at a place, or by a new temporary
abbrev pub received : Program → Receiver → Value → World → World
received p nowhere v w = w
received p (to_temp t) v w = with_number t (number_in v) w
received p (to_place of path) v w = at_place p.core (place_of w path) (λ q. with_value q v w) w
received p (to_new of n) v w = with_made of n v w

-- ---- a call

-- The next name is an instance whose fields are zero, and the receiver gets it; its constructor is entered next. ("Class instantiation".)
abbrev pub makes : {Work Counts : Type 0} → Rules Work Counts → ClassId → ℕ → Receiver → List Handed → StateOver Work Counts → StateOver Work Counts
makes rules c r receiver given s =
    let n = s.world.next in
    let made = with_value (all_of (object n)) (zero_instance rules.program.core c) (making (fields c Construction) s.world) in
    with_frames (calling (a_method r Direct no_type) nowhere (a_value (instance false (Some n)) ∷ given) [] ∷ construction n ∷ s.frames) (with_world (received rules.program receiver (instance false (Some n)) made) s)

-- nil, and what is dead, has no methods; an abstract one is error 211 ("Virtual methods" and "Abstract methods")
abbrev asked_by : {Work Counts : Type 0} → Rules Work Counts → ℕ → Dispatch → TypeId → Receiver → ℕ → List Handed → Object → StateOver Work Counts → StateOver Work Counts
asked_by rules r dispatch of receiver i given (fields c Dead) s = fails rules.program 216 s
asked_by rules r dispatch of receiver i given (fields c phase) s =
    at_reached rules.program (method_for rules.program.core r dispatch of c) (λ q. begun rules q receiver (a_value (instance false (Some i)) ∷ given) s) s
asked_by rules r dispatch of receiver i given o s = fails rules.program 216 s

abbrev pub asked : {Work Counts : Type 0} → Rules Work Counts → ℕ → Dispatch → TypeId → Receiver → List Handed → StateOver Work Counts → StateOver Work Counts
asked rules r dispatch of receiver (a_value (instance holds (Some i)) ∷ given) s = asked_by rules r dispatch of receiver i given (s.world.objects i) s
asked rules r dispatch of receiver given s = fails rules.program 216 s

abbrev pub goes_in : {Work Counts : Type 0} → Rules Work Counts → Callee → Receiver → List Handed → StateOver Work Counts → StateOver Work Counts
goes_in rules (a_routine r) receiver given s = begun rules r receiver given s
goes_in rules (a_maker c r) receiver given s = makes rules c r receiver given s
goes_in rules (a_method r dispatch of) receiver given s = asked rules r dispatch of receiver given s

-- at once where nothing has to be emptied
abbrev pub goes_in_behind : {Work Counts : Type 0} → Rules Work Counts → Callee → Receiver → List Handed → List Spot → StateOver Work Counts → StateOver Work Counts
goes_in_behind rules callee receiver given [] s = goes_in rules callee receiver given s
goes_in_behind rules callee receiver given (q ∷ qs) s = with_frames (calling callee receiver given (q ∷ qs) ∷ s.frames) s

-- The paths of the arguments are followed first, and the arrays that they lie in are held. Then places are emptied, one in a step, then an
-- instance is made or the receiver of a method is tested, and then the stack is.
abbrev pub called : {Work Counts : Type 0} → Rules Work Counts → Callee → List Given → Receiver → StateOver Work Counts → StateOver Work Counts
called rules callee given receiver s =
    at_reached rules.program (all_handed rules.program.core s.world given)
    (λ xs. goes_in_behind rules callee receiver xs (outs_of rules.program.core callee xs) (with_world (held_all given xs s.world) s)) s

-- ---- an activation returns

abbrev pub result_in : Program → ℕ → World → Value
result_in p r w = w.memory (local w.depth (result_of_routine p.core r))

-- the caller goes on
abbrev pub gone_back : {Work Counts : Type 0} → Program → CallerOver Work → List (CallerOver Work) → StateOver Work Counts → StateOver Work Counts
gone_back p c cs s = discharged (p.charge s.routine) (record s {
  world = received p c.receiver (result_in p s.routine s.world) (record s.world { temps = c.temps; waiting = c.waiting; made = c.made; depth = s.world.depth - 1 });
  routine = c.routine;
  work = c.work;
  frames = c.frames;
  callers = cs;
})

-- the same where an exception leaves: there is no result
abbrev pub gone_back_raising : {Work Counts : Type 0} → Program → CallerOver Work → List (CallerOver Work) → StateOver Work Counts → StateOver Work Counts
gone_back_raising p c cs s = gone_back p (record c { receiver = nowhere }) cs s
