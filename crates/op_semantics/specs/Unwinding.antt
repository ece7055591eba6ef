-- An exception under way: the frame that acts next decides. Temporaries end first, a finally part runs while the exception waits, the
-- first clause that fits becomes a handler, an activation ends what it has and is left; where nothing is left, nothing handles it.
-- (Free Pascal Reference Guide, "Exceptions"; User's Guide, "Run-time errors".)
use Rattle.std.specs.Prelude.{ℕ, zero, suc, ◌+◌, ℤ, pos, false, List, [], ◌∷◌, ◌++◌, Option, Some, None, codes, slice_get, if◌then◌else◌}
use Rattle.op_core.specs.declared.class.Class.{Class as ClassRow}
use Rattle.op_core.specs.declared.ids.ClassId.{ClassId}
use Rattle.op_core.specs.declared.program.Core.{Core}
use Rattle.op_core.specs.declared.program.ExceptionClasses.{ExceptionClasses}
use Rattle.op_semantics.specs.Calls.{gone_back_raising, source_rules}
use Rattle.op_semantics.specs.Frames.{Program, StateOver, CallerOver, State, Frame, destruction, construction, closing, by_free, by_constructor, with_work, with_world, with_frames, fails}
use Rattle.op_semantics.specs.Items.{Items, Clauses, no_clauses, for_others, clauses, Task, item, mark, turn, finally, resume, catching, scope, handling, leaving, ending, due, onto}
use Rattle.op_semantics.specs.Methods.{descends}
use Rattle.op_semantics.specs.Losing.{ends_made, ends_place, freed, destroys, local_spot}
use Rattle.op_semantics.specs.Paths.{Root, place_of_root}
use Rattle.op_semantics.specs.Shapes.{field_of_class}
use Rattle.op_meaning.specs.Texts.{line_feed}
use Rattle.op_meaning.specs.Values.{instance, object, part_of, Place, Reached, reached, failing}
use Rattle.op_semantics.specs.World.{World, Object, fields, Dead, with_number, with_value, number_at, reported, with_waiting, class_of, bytes_in}

-- ---- no handler is left

abbrev class_name : Option ClassRow → List ℕ
class_name None = []
class_name (Some x) = x.name

abbrev message_by : World → ClassId → ℕ → Core → Option ExceptionClasses → List ℕ
message_by w c e core None = []
message_by w c e core (Some x) = bytes_in w (part_of (field_of_class core c x.message) (w.memory (object e)))

abbrev pub message_of : Program → World → ClassId → ℕ → List ℕ
message_of p w c e = message_by w c e p.core p.core.exceptions

-- the program ends with this status once the closing is done; a closing that is on top goes on with it
abbrev pub closes : {Work Counts : Type 0} → ℕ → List Frame → StateOver Work Counts → StateOver Work Counts
closes status (closing old ∷ rest) s = with_frames (closing status ∷ rest) s
closes status frames s = with_frames (closing status ∷ frames) s

abbrev unhandled_as : {Work Counts : Type 0} → Program → ℕ → Object → StateOver Work Counts → StateOver Work Counts
unhandled_as p e (fields c Dead) s = fails p 216 s
unhandled_as p e (fields c phase) s =
    let said = codes "Unhandled " ++ class_name (slice_get p.core.classes c.0) ++ codes ": " ++ message_of p s.world c e ++ line_feed in
    closes 217 s.frames (with_world (record (reported said s.world) { raised = None }) s)
unhandled_as p e o s = fails p 216 s

abbrev pub unhandled : {Work Counts : Type 0} → Program → ℕ → StateOver Work Counts → StateOver Work Counts
unhandled p e s = unhandled_as p e (s.world.objects e) s

-- ---- an activation

-- up to what an exception stops at
abbrev pub stops_at : List Task → List Task
stops_at [] = []
stops_at (item i ∷ work) = stops_at work
stops_at (mark l ∷ work) = stops_at work
stops_at (turn l ∷ work) = stops_at work
stops_at (leaving reason ∷ work) = stops_at work
stops_at (due f ∷ work) = stops_at work
stops_at (task ∷ work) = task ∷ work

-- the clause that takes an instance of the class, with the variable that names the instance
abbrev pub clause_for : Core → ClassId → Clauses → Option (Option Root × Items)
clause_for core c no_clauses = None
clause_for core c (for_others is) = Some (None, is)
clause_for core c (clauses d v is others) = if descends core c d then Some (v, is) else clause_for core c others

abbrev named_at : Reached Place → ℕ → World → World
named_at (reached q) e w = with_value q (instance false (Some e)) w
named_at (failing error) e w = w

abbrev pub named_by : Option Root → ℕ → World → World
named_by None e w = w
named_by (Some root) e w = named_at (place_of_root w root) e w

-- the handler is under way, and nothing is raised
abbrev pub caught : ℕ → Option (Option Root × Items) → List Task → State → State
caught e None work s = with_work work s
caught e (Some clause) work s = record s { world = named_by clause.0 e (record s.world { raised = None }); work = onto clause.1 (handling e ∷ work) }

abbrev caught_as : Program → ℕ → Object → Clauses → List Task → State → State
caught_as p e (fields c Dead) cs work s = fails p 216 s
caught_as p e (fields c phase) cs work s = caught e (clause_for p.core c cs) work s
caught_as p e o cs work s = fails p 216 s

-- the instance is asked for its class only where there is a clause with one
abbrev pub catches : Program → ℕ → Clauses → List Task → State → State
catches p e no_clauses work s = with_work work s
catches p e (for_others is) work s = caught e (Some (None, is)) work s
catches p e (clauses d v is others) work s = caught_as p e (s.world.objects e) (clauses d v is others) work s

-- the exception that waited in a finally part is replaced, and freed
abbrev replaces : {Work Counts : Type 0} → Program → ℤ → Option ℕ → StateOver Work Counts → StateOver Work Counts
replaces p (pos (suc (suc (suc (suc zero))))) (Some old) s = freed p old s
replaces p reason waited s = s

abbrev pub leaves_activation : {Work Counts : Type 0} → Program → ℕ → List (CallerOver Work) → StateOver Work Counts → StateOver Work Counts
leaves_activation p e [] s = unhandled p e s
leaves_activation p e (c ∷ cs) s = gone_back_raising p c cs s

abbrev pub unwound_at : Program → ℕ → List Task → State → State
unwound_at p e (finally t ts ∷ work) s = record s {
  world = record (with_waiting (t + 1) e (with_number t (pos 4) s.world)) { raised = None };
  work = onto ts (resume t ∷ work);
}
unwound_at p e (resume t ∷ work) s = replaces p (number_at s.world t) (s.world.waiting (t + 1)) (with_work work s)
unwound_at p e (catching cs ∷ work) s = catches p e cs work s
unwound_at p e (scope t [] ∷ work) s = ends_made (source_rules p) t (with_work work s)
unwound_at p e (scope t (u ∷ ts) ∷ work) s = ends_made (source_rules p) t (with_work (scope u ts ∷ work) s)
unwound_at p e (handling i ∷ work) s = freed p i (with_work work s)
unwound_at p e (ending (v ∷ vs) result ∷ work) s = ends_place (source_rules p) (local_spot p.core s v) (with_work (ending vs result ∷ work) s)
unwound_at p e (ending [] (Some v) ∷ work) s = ends_place (source_rules p) (local_spot p.core s v) (with_work (ending [] None ∷ work) s)
unwound_at p e (ending [] None ∷ work) s = with_work work s
unwound_at p e _ s = leaves_activation p e s.callers s

-- ---- frames on an activation

-- A destruction that Free started goes on while the exception waits; any other destruction makes it unhandled at once. A construction
-- gives way to a destruction.
abbrev pub unwound_frame : {Work Counts : Type 0} → Program → ℕ → Frame → List Frame → StateOver Work Counts → StateOver Work Counts
unwound_frame p e (destruction i by_free entered places waits) rest s =
    with_frames (destruction i by_free entered places (Some e) ∷ rest) (with_world (record s.world { raised = None }) s)
unwound_frame p e (construction i) rest s = destroys p i (class_of s.world i) by_constructor (with_frames rest s)
unwound_frame p e frame rest s = unhandled p e s

abbrev pub unwound_by : Program → ℕ → List Frame → State → State
unwound_by p e [] s = unwound_at p e (stops_at s.work) s
unwound_by p e (frame ∷ rest) s = unwound_frame p e frame rest s

-- one step of unwinding
abbrev pub unwound : Program → ℕ → State → State
unwound p e s = unwound_by p e s.frames s
