-- Finalization parts are procedures of the program without parameters.
use Rattle.std.proofs.Common.{◌≡◌, ◌<◌, ◌+◌, List, [], ◌∷◌, length, Option, Some, None, slice_get, refl, arith}
use Rattle.std.specs.List.{All}
use Rattle.std.specs.Option.{option_to_list}
use Rattle.std.proofs.lemmas.List.Elements.{All-append, All-cons, All-head, All-nil, All-tail}
use Rattle.std.proofs.lemmas.Option.{slice_get_within}
use Rattle.op_core.specs.Sound.{IsPart, IsUnit}
use Rattle.op_core.specs.declared.ids.RoutineId.{RoutineId}
use Rattle.op_core.specs.declared.program.Core.{Core}
use Rattle.op_core.specs.declared.program.Unit.{Unit as UnitRow}
use Rattle.op_core.specs.declared.routine.Owner.TheVariants.{Unit as OfUnit}
use Rattle.op_core.specs.declared.routine.Routine.{Routine as Row}
use Rattle.op_expand.specs.Calls.{finalizations_of}
use Rattle.op_places.specs.Frames.{parameters_of}
use Rattle.op_meaning.specs.Expressions.{result_of}
use Rattle.op_typing.specs.Simple.{IsProcedure, IsSimpleUnit}

pub record PartIs (core : Core) (f : RoutineId) : Type 0 where
  pub low : f.0 < length core.routines
  pub parameters : parameters_of core f.0 ≡ 0
  pub result : result_of (slice_get core.routines f.0) ≡ None

-- ---- what each of them is

module _ (core : Core) where
  part_is : (f : RoutineId) → IsPart core (Some f) → IsProcedure core (Some f) → PartIs core f
  part_is f sound simple = by (slice_get core.routines f.0) refl sound simple
    where
      by : (o : Option Row) → slice_get core.routines f.0 ≡ o → Rattle.std.specs.Option.IsSomeAnd o (λ (r : Row). (r.owner ≡ OfUnit) × (r.parameters.count ≡ 0)) → Rattle.std.specs.Option.IsSomeAnd o (λ (x : Row). x.result ≡ None) → PartIs core f
      by None there sound simple = absurd sound
      by (Some x) there (owner, none) result = record {
        low = slice_get_within core.routines f.0 x there;
        parameters = let more : 0 + x.parameters.count ≡ 0 = omega (arith, none) in rw (there, owner) more;
        result = rw there result;
      }

  part_list : (part : Option RoutineId) → IsPart core part → IsProcedure core part → All (PartIs core) (option_to_list part)
  part_list None sound simple = All-nil (PartIs core)
  part_list (Some f) sound simple = All-cons (PartIs core) f [] (part_is f sound simple) (All-nil (PartIs core))

  pub parts_are : (us : List UnitRow) → All (IsUnit core) us → All (IsSimpleUnit core) us → All (PartIs core) (finalizations_of us)
  parts_are [] sound simple = All-nil (PartIs core)
  parts_are (u ∷ us) sound simple =
      let is_sound = All-head (IsUnit core) u us sound in
      let is_simple = All-head (IsSimpleUnit core) u us simple in
      All-append (PartIs core) (option_to_list u.finalization) (finalizations_of us)
      (part_list u.finalization is_sound.3 is_simple.1)
      (parts_are us (All-tail (IsUnit core) u us sound) (All-tail (IsSimpleUnit core) u us simple))
