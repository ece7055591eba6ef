use Rattle.std.proofs.Common.{◌≡◌, ◌≤◌, ◌∷◌, [], ◌++◌, List, append_assoc, arith, map, subst, suc, ◌∙◌}
use Rattle.std.specs.List.{All}
use Rattle.op_low.specs.Valid.{most_registers}
use Rattle.op_low.specs.declared.code.Routine.{Routine}
use Rattle.op_rv.specs.declared.objects.ObjectRoutine.{ObjectRoutine}
use Rattle.op_select.specs.Selection.{object_routine_of}
use Rattle.op_select.proofs.routine.object_routines.Goals as goal

-- one more is made, and one fewer is left
goes_on : (made now : List ObjectRoutine) (o : ObjectRoutine) (r : Routine) (rest all : List Routine) (whole : List ObjectRoutine) → now ≡ made ++ o ∷ [] → o ≡ object_routine_of r → all ≡ r ∷ rest → made ++ map object_routine_of all ≡ whole → now ++ map object_routine_of rest ≡ whole
goes_on made now o r rest all whole e f g h =
    rw (e, f) (append_assoc made (object_routine_of r ∷ []) (map object_routine_of rest) ∙ subst (λ a. made ++ map object_routine_of a ≡ whole) g h)

sized_behind : (r : Routine) (rest all : List Routine) → all ≡ r ∷ rest → All (λ r. r.registers ≤ most_registers) all → All (λ r. r.registers ≤ most_registers) rest
sized_behind r rest all e h = let same : All (λ r. r.registers ≤ most_registers) (r ∷ rest) = subst (λ a. All (λ r. r.registers ≤ most_registers) a) e h in λ k d within. same (suc k) d (omega (arith, within))

pub loop-routine-preserved : goal.loop-routine-preserved
loop-routine-preserved c =
    let step : c.loop-routine.routine-iterator.rest.items ≡ c.in-Some.routine ∷ c.next.new.self.rest.items = c.in-Some.ensures.steps.0 in (
      goes_on c.loop-routine.routines.items c.push.new.self.items c.in_ok-object_routine.field-0 c.in-Some.routine c.next.new.self.rest.items _ _ c.in_ok-push.ensures.items c.in_ok-object_routine.ensures step c.loop-routine.invariant.0,
      sized_behind c.in-Some.routine c.next.new.self.rest.items _ step c.loop-routine.invariant.1,
    )
