-- What a loss starts, at once and before anything else. A place becomes empty; a string that nothing holds any more is gone; an array
-- is walked over, element by element; a live instance that loses its last interface is destroyed. (Free Pascal Reference Guide,
-- "Managed types", "Reference counting" and "Class destruction".)
use Rattle.std.specs.Prelude.{ℕ, Bool, true, false, ◌&&◌, nat_eq, List, [], ◌∷◌, Option, Some, None, if◌then◌else◌}
use Rattle.op_core.specs.Sizes.{type_at}
use Rattle.op_core.specs.Types.{is_same}
use Rattle.op_core.specs.declared.ids.ClassId.{ClassId}
use Rattle.op_core.specs.declared.ids.TypeId.{TypeId}
use Rattle.op_core.specs.declared.program.Core.{Core}
use Rattle.op_core.specs.declared.types.CoreType.{CoreType}
use Rattle.op_core.specs.declared.types.CoreType.TheVariants.{OpenArray}
use Rattle.op_semantics.specs.Frames.{Program, StateOver, Rules, an_array, a_temporary, walk, destruction, by_loss, by_handler, with_world, pushed, Started, a_part}
use Rattle.op_semantics.specs.Holding.{is_held, is_name}
use Rattle.op_semantics.specs.Shapes.{no_type, Shape, composite, shape_of, type_of_local}
use Rattle.op_semantics.specs.Spots.{spots_of, spots_of_elements, spots_of_instance}
use Rattle.op_meaning.specs.Values.{Value, parts, text, line, array, instance, named, object, temporary, all_of, emptied, local, Spot}
use Rattle.op_semantics.specs.World.{Object, gone, chars, buffer, elements, fields, Live, Temporary, with_object, value_at, with_value, World}

-- ---- names that are lost

abbrev pub destroys : {Work Counts : Type 0} → Program → ℕ → ClassId → Started → StateOver Work Counts → StateOver Work Counts
destroys p i c started s = pushed (destruction i started false (spots_of_instance p.core c i)) s

abbrev pub falls : {Work Counts : Type 0} → Program → ℕ → Object → StateOver Work Counts → StateOver Work Counts
falls p n gone s = s
falls p n (chars bytes) s = with_world (with_object n gone s.world) s
falls p n (buffer bytes capacity) s = with_world (with_object n gone s.world) s
falls p n (elements of count) s = pushed (walk (spots_of_elements p.core of count (all_of (object n))) (an_array n)) s
falls p n (fields c Live) s = destroys p n c by_loss s
falls p n (fields c phase) s = s

-- a place had this name and has it no more
abbrev pub loses : {Work Counts : Type 0} → Rules Work Counts → ℕ → StateOver Work Counts → StateOver Work Counts
loses rules n s = let t = rules.less n s in if is_held rules t n then t else falls rules.program n (t.world.objects n) t

abbrev loses_name : {Work Counts : Type 0} → Rules Work Counts → Option ℕ → StateOver Work Counts → StateOver Work Counts
loses_name rules None s = s
loses_name rules (Some n) s = loses rules n s

-- a literal, the empty string and nil end without a trace, and a class reference holds nothing
abbrev pub loses_value : {Work Counts : Type 0} → Rules Work Counts → Value → StateOver Work Counts → StateOver Work Counts
loses_value rules (text (named n)) s = loses rules n s
loses_value rules (line n) s = loses rules n s
loses_value rules (array n) s = loses_name rules n s
loses_value rules (instance true n) s = loses_name rules n s
loses_value rules v s = s

-- ---- a place ends

-- a record or an array with managed parts becomes a walk over these, and what is one value becomes empty and is lost
abbrev pub ends_by : {Work Counts : Type 0} → Rules Work Counts → Shape → Spot → StateOver Work Counts → StateOver Work Counts
ends_by rules composite q s = pushed (walk (spots_of rules.program.core q.of q.at) a_part) s
ends_by rules shape q s = let v = value_at s.world q.at in loses_value rules v (with_world (with_value q.at (emptied v) s.world) s)

abbrev pub ends_place : {Work Counts : Type 0} → Rules Work Counts → Spot → StateOver Work Counts → StateOver Work Counts
ends_place rules q s = ends_by rules (shape_of rules.program.core q.of) q s

abbrev pub local_spot : {Work Counts : Type 0} → Core → StateOver Work Counts → ℕ → Spot
local_spot core s v = record { at = all_of (local s.world.depth v); of = type_of_local core s.routine v }

abbrev element_of : Option CoreType → TypeId
element_of (Some (OpenArray element)) = element
element_of type = no_type

-- one value; or a list of values for an open array, which holds them until its walk is done
abbrev ends_one : {Work Counts : Type 0} → Rules Work Counts → Spot → List Temporary → Value → StateOver Work Counts → StateOver Work Counts
ends_one rules q made (parts count part) s =
    pushed (walk (spots_of_elements rules.program.core (element_of (type_at rules.program.core q.of)) count q.at) a_temporary) s
ends_one rules q made v s = loses_value rules v (with_world (record (with_value q.at (emptied v) s.world) { made = made }) s)

-- the temporary that was made last ends, in front of others; one with parts holds them until its walk is done
abbrev pub ends_last : {Work Counts : Type 0} → Rules Work Counts → Shape → Spot → List Temporary → StateOver Work Counts → StateOver Work Counts
ends_last rules composite q made s = pushed (walk (spots_of rules.program.core q.of q.at) a_temporary) s
ends_last rules shape q made s = ends_one rules q made (value_at s.world q.at) s

abbrev pub temporary_spot : World → Temporary → Spot
temporary_spot w t = record { at = all_of (temporary w.depth t.of t.n); of = t.of }

abbrev pub same_temporary : Temporary → Temporary → Bool
same_temporary t u = is_same t.of u.of && nat_eq t.n u.n

abbrev pub ends_among : {Work Counts : Type 0} → Rules Work Counts → Temporary → List Temporary → StateOver Work Counts → StateOver Work Counts
ends_among rules t [] s = s
ends_among rules t (u ∷ made) s =
    if same_temporary t u then ends_last rules (shape_of rules.program.core t.of) (temporary_spot s.world t) made s else s

-- A temporary ends, if it was made. Temporaries end in reverse order of making, so it is the last one then.
abbrev pub ends_made : {Work Counts : Type 0} → Rules Work Counts → Temporary → StateOver Work Counts → StateOver Work Counts
ends_made rules t s = ends_among rules t s.world.made s

-- ---- an exception is freed

-- where it is live and not under way again
abbrev pub frees_exception : {Work Counts : Type 0} → Program → ℕ → Object → StateOver Work Counts → StateOver Work Counts
frees_exception p e (fields c Live) s = if is_name s.world.raised e then s else destroys p e c by_handler s
frees_exception p e o s = s

abbrev pub freed : {Work Counts : Type 0} → Program → ℕ → StateOver Work Counts → StateOver Work Counts
freed p e s = frees_exception p e (s.world.objects e) s
