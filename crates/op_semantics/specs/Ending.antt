-- What is done on an activation before it goes on: walks over what ends, destructions, the end of a construction, and the closing of the
-- program. (Free Pascal Reference Guide, "Managed types", "Class instantiation", "Class destruction" and "Units".)
use Rattle.std.specs.Prelude.{ℕ, zero, suc, Bool, true, false, not, ◌&&◌, List, [], ◌∷◌, length, Option, Some, None, slice_get, if◌then◌else◌}
use Rattle.op_core.specs.Rows.{rows}
use Rattle.op_core.specs.Sizes.{type_at}
use Rattle.op_core.specs.declared.class.Class.{Class as ClassRow}
use Rattle.op_core.specs.declared.class.Method.{Method}
use Rattle.op_core.specs.declared.ids.ClassId.{ClassId}
use Rattle.op_core.specs.declared.ids.VariableId.{VariableId}
use Rattle.op_core.specs.declared.program.Core.{Core}
use Rattle.op_core.specs.declared.routine.Routine.{Routine}
use Rattle.op_core.specs.declared.types.CoreType.{CoreType}
use Rattle.op_core.specs.declared.types.CoreType.TheVariants.{OpenArray}
use Rattle.op_semantics.specs.Calls.{begun, goes_in}
use Rattle.op_semantics.specs.Frames.{StateOver, Rules, Over, an_array, a_temporary, Frame, walk, destruction, construction, closing, Started, Pending, finalize, empty_global, with_world, with_frames, pushed, popped, fails, at_reached, Callee, Handed, a_value, a_part, uncharged, calling, frame_charge, charged_for}
use Rattle.op_semantics.specs.Holding.{is_held, any_below}
use Rattle.op_semantics.specs.Items.{nowhere, Receiver}
use Rattle.op_semantics.specs.Losing.{ends_place}
use Rattle.op_semantics.specs.Methods.{not_abstract}
use Rattle.op_semantics.specs.Shapes.{type_of_variable}
use Rattle.op_semantics.specs.Spots.{spots_of_elements}
use Rattle.op_semantics.specs.Paths.{used_place}
use Rattle.op_meaning.specs.Values.{instance, global, object, all_of, Value, count_of, number, parts, text, line, array, empty, Spot}
use Rattle.op_semantics.specs.World.{World, Temporary, gone, fields, Phase, Live, Destruction, Dead, Ended, with_object, class_of, value_at}
use Rattle.op_tree.specs.declared.heading.RoutineKind.{RoutineKind}
use Rattle.op_tree.specs.declared.heading.RoutineKind.TheVariants.{Destructor}

-- ---- walks: one place in a step; what is walked over is given up when its walk is done

abbrev pub without_last : List Temporary → List Temporary
without_last [] = []
without_last (t ∷ made) = made

abbrev given_up : {Work Counts : Type 0} → Over → StateOver Work Counts → StateOver Work Counts
given_up a_part s = s
given_up (an_array n) s = with_world (with_object n gone s.world) s
given_up a_temporary s = with_world (record s.world { made = without_last s.world.made }) s

abbrev pub walked : {Work Counts : Type 0} → Rules Work Counts → List Spot → Over → Option ℕ → List Frame → StateOver Work Counts → StateOver Work Counts
walked rules [] over waits rest s = popped waits rest (given_up over s)
walked rules (q ∷ qs) over waits rest s = ends_place rules q (with_frames (walk qs over waits ∷ rest) s)

-- ---- destructions

abbrev pub is_destructor_kind : RoutineKind → Bool
is_destructor_kind Destructor = true
is_destructor_kind _ = false

abbrev pub is_destructor : Option Routine → Bool
is_destructor None = false
is_destructor (Some r) = is_destructor_kind r.kind

abbrev pub destructor_among : Core → List Method → Option ℕ → Option ℕ
destructor_among core [] above = above
destructor_among core (m ∷ ms) above = if is_destructor (slice_get core.routines m.routine.0) then Some m.routine.0 else destructor_among core ms above

abbrev pub inherited : (ClassId → Option ℕ) → Option ClassId → Option ℕ
inherited inner None = None
inherited inner (Some a) = inner a

abbrev pub destructor_by : (ClassId → Option ℕ) → Core → Option ClassRow → Option ℕ
destructor_by inner core None = None
destructor_by inner core (Some x) = destructor_among core (rows core.methods x.methods) (inherited inner x.ancestor)

abbrev pub destructor_within : ℕ → Core → ClassId → Option ℕ
destructor_within zero core c = None
destructor_within (suc n) core c = destructor_by (destructor_within n core) core (slice_get core.classes c.0)

-- Destroy of the class, or of the nearest ancestor that has one
abbrev pub destructor_of : Core → ClassId → Option ℕ
destructor_of core c = destructor_within (suc (length core.classes)) core c

abbrev pub in_phase : Phase → ℕ → World → World
in_phase phase i w = with_object i (fields (class_of w i) phase) w

abbrev pub enters_destroy : {Work Counts : Type 0} → Rules Work Counts → ℕ → Option ℕ → StateOver Work Counts → StateOver Work Counts
enters_destroy rules i None s = s
enters_destroy rules i (Some r) s = at_reached rules.program (not_abstract rules.program.core.methods r) (λ q. begun rules q nowhere (a_value (instance false (Some i)) ∷ []) s) s

abbrev pub is_empty_value : Value → Bool
is_empty_value (number n) = true
is_empty_value (parts count part) = not (any_below count (λ k. not (is_empty_value (part k))))
is_empty_value (text empty) = true
is_empty_value (text t) = false
is_empty_value (line n) = false
is_empty_value (array None) = true
is_empty_value (array (Some n)) = false
is_empty_value (instance holds None) = true
is_empty_value (instance holds (Some n)) = not holds

-- the instance has no holder, and no field was filled again
abbrev pub may_die : {Work Counts : Type 0} → Rules Work Counts → ℕ → StateOver Work Counts → Bool
may_die rules i s = not (is_held rules s i) && is_empty_value (s.world.memory (object i))

-- Destroy is entered, then the fields end, ancestors' fields first, and then the instance is dead, or the pointer is invalid
abbrev pub destroyed : {Work Counts : Type 0} → Rules Work Counts → ℕ → Started → Bool → List Spot → Option ℕ → List Frame → StateOver Work Counts → StateOver Work Counts
destroyed rules i started false places waits rest s =
    enters_destroy rules i (destructor_of rules.program.core (class_of s.world i)) (with_frames (destruction i started true places waits ∷ rest) s)
destroyed rules i started true (q ∷ qs) waits rest s = ends_place rules q (with_frames (destruction i started true qs waits ∷ rest) s)
destroyed rules i started true [] waits rest s =
    if may_die rules i s then popped waits rest (with_world (in_phase Dead i s.world) s) else fails rules.program 204 s

-- ---- the charge of a walk or a destruction is taken, and the instance is in destruction

abbrev pub charged_world : Frame → World → World
charged_world (walk places over waits) w = w
charged_world (destruction i started entered places waits) w = in_phase Destruction i w
charged_world (uncharged frame) w = w
charged_world (calling callee receiver given outs) w = w
charged_world (construction i) w = w
charged_world (closing status) w = w

abbrev pub charged_frame : {Work Counts : Type 0} → Rules Work Counts → Frame → List Frame → StateOver Work Counts → StateOver Work Counts
charged_frame rules frame rest s = charged_for rules.program frame_charge s (λ t. with_frames (frame ∷ rest) (with_world (charged_world frame t.world) t))

-- ---- a call goes on: one place is emptied in a step, and then what is called is entered

abbrev empties_by : {Work Counts : Type 0} → Rules Work Counts → Option CoreType → Spot → StateOver Work Counts → StateOver Work Counts
empties_by rules (Some (OpenArray element)) q s = pushed (walk (spots_of_elements rules.program.core element (count_of (value_at s.world q.at)) q.at) a_part) s
empties_by rules type q s = ends_place rules q s

-- all elements of an open array by one walk; what is in a dead instance is not emptied
abbrev empties : {Work Counts : Type 0} → Rules Work Counts → Spot → StateOver Work Counts → StateOver Work Counts
empties rules q s = at_reached rules.program (used_place s.world q.at) (λ p. empties_by rules (type_at rules.program.core q.of) q s) s

abbrev pub calls_on : {Work Counts : Type 0} → Rules Work Counts → Callee → Receiver → List Handed → List Spot → List Frame → StateOver Work Counts → StateOver Work Counts
calls_on rules callee receiver given [] rest s = goes_in rules callee receiver given (with_frames rest s)
calls_on rules callee receiver given (q ∷ qs) rest s = empties rules q (with_frames (calling callee receiver given qs ∷ rest) s)

-- ---- the closing

abbrev global_spot : Core → VariableId → Spot
global_spot core v = record { at = all_of (global v.0); of = type_of_variable core v.0 }

-- finalization parts and globals, each taken once; then the program ends
abbrev pub closed : {Work Counts : Type 0} → Rules Work Counts → ℕ → List Pending → StateOver Work Counts → StateOver Work Counts
closed rules status [] s = with_world (record s.world { ending = Ended status }) s
closed rules status (finalize r ∷ pending) s = begun rules r.0 nowhere [] (record s { pending = pending })
closed rules status (empty_global v ∷ pending) s = ends_place rules (global_spot rules.program.core v) (record s { pending = pending })

-- ---- a frame acts

abbrev pub framed : {Work Counts : Type 0} → Rules Work Counts → Frame → List Frame → StateOver Work Counts → StateOver Work Counts
framed rules (walk places over waits) rest s = walked rules places over waits rest s
framed rules (destruction i started entered places waits) rest s = destroyed rules i started entered places waits rest s
framed rules (uncharged frame) rest s = charged_frame rules frame rest s
framed rules (calling callee receiver given outs) rest s = calls_on rules callee receiver given outs rest s
framed rules (construction i) rest s = with_frames rest (with_world (in_phase Live i s.world) s)
framed rules (closing status) rest s = closed rules status s.pending s
