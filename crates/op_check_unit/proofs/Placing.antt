-- Bodies that are put into the rows of their routines.
use Rattle.std.proofs.Common.{◌≡◌, List, [], ◌∷◌, ◌++◌, Option, Some, None, Result, Ok, Err, map, get_or, slice_set, ap, sym, subst, refl, ◌∙◌}
use Rattle.std.proofs.lemmas.List.{map-append, map-set}
use Rattle.std.proofs.Math.Seq.{map-set_same}
use Rattle.op_base.specs.declared.rule.Refusal.{Refusal}
use Rattle.op_check_unit.specs.Bodies.{said}
use Rattle.op_check_unit.specs.Checking.{CheckIs, Fills, Finishes, Places, bare, body_in, placed, without_bodies}
use Rattle.op_check_unit.specs.FirstValues.{Begins, begins_so, begins_with, begun, without_first_values}
use Rattle.op_check_unit.specs.Steps.{Declared, Given}
use Rattle.op_check_unit.specs.declared.body.Owned.{Owned}
use Rattle.op_check_unit.specs.declared.declarer.Declarer.{Declarer}
use Rattle.op_core.proofs.First.{first_is}
use Rattle.op_core.specs.Faults.{FirstIs, kept, or_typed}
use Rattle.op_core.specs.Initial.{FirstValue}
use Rattle.op_core.specs.Statement.{Statements}
use Rattle.op_core.specs.declared.error.CheckError.{CheckError}
use Rattle.op_core.specs.declared.error.CheckError.TheVariants.{Refused, NoMemory}
use Rattle.op_core.specs.declared.ids.RoutineId.{RoutineId}
use Rattle.op_core.specs.declared.ids.VariableId.{VariableId}
use Rattle.op_core.specs.declared.program.Core.{Core}
use Rattle.op_core.specs.declared.routine.Routine.{Routine}

-- the last one is put in first
pub placed_last : (bs : List (RoutineId × Statements)) (b : RoutineId × Statements) (xs : List (Option Statements)) → placed (bs ++ b ∷ []) xs ≡ placed bs (slice_set xs b.0.0 (Some b.1))
placed_last [] b xs = refl
placed_last (c ∷ cs) b xs = ap (λ ys. slice_set ys c.0.0 (Some c.1)) (placed_last cs b xs)

-- a row in place of one that differs by its body alone
pub in_row : (core : Core) (id : RoutineId) (ss : Statements) (row old : Routine) → old ≡ get_or core.routines id.0 old → bare row ≡ bare old → body_in row ≡ Some ss → Places ((id, ss) ∷ []) core (record core { routines = slice_set core.routines id.0 row })
in_row core id ss row old h e b = record {
  others = ap (λ rs. record core { routines = rs }) (map-set_same bare core.routines id.0 row old (e ∙ ap bare h));
  bodies = map-set body_in core.routines id.0 row ∙ ap (slice_set (map body_in core.routines) id.0) b;
}

-- the last of the bodies that are left
pub one_placed : (front all : List Owned) (b : Owned) (old new : Core) → all ≡ front ++ b ∷ [] → Places (said b ∷ []) old new → placed (map said front) (map body_in new.routines) ≡ placed (map said all) (map body_in old.routines)
one_placed front all b old new e p =
    ap (placed (map said front)) p.bodies ∙ sym (placed_last (map said front) (said b) (map body_in old.routines))
    ∙ ap (λ bs. placed bs (map body_in old.routines)) (sym (ap (map said) e ∙ map-append said front (b ∷ [])))

-- bodies, and then first values
pub fills : (bs : List (RoutineId × Statements)) (vs : List (VariableId × FirstValue)) (old mid new : Core) → Places bs old mid → Begins vs mid new → Fills bs vs old new
fills bs vs old mid new p b = record {
  others = ap without_bodies b.others ∙ ap without_first_values p.others;
  bodies = ap (λ core. map body_in core.routines) b.others ∙ p.bodies;
  values = b.values ∙ ap (λ core. begun vs (map begins_with core.variables)) p.others;
}

-- the answer of a declarer that has declared what was meant
pub checks : (g : Given (Unit {0})) (start d : Declarer) (r : Result Core CheckError) → start.sink.kept ≡ None → Declared g start d → Finishes d r → CheckIs g r
checks g start d (Ok core) s x f =
    (subst (λ h. Fills h.bodies h.first_values h.core core) x.0 f.0, subst (FirstIs g.faults) (sym (ap (λ k. kept k g.faults) s) ∙ sym x.1 ∙ f.1) (first_is g.faults))
checks g start d (Err (Refused r)) s x f = let e = sym (ap (λ k. kept k g.faults) s) ∙ sym x.1 ∙ f in (subst (FirstIs g.faults) e (first_is g.faults), e)
checks g start d (Err NoMemory) s x f = tt

-- what a declarer comes to
pub finishes : (d : Declarer) (core : Core) (k : Option Refusal) (r : Result Core CheckError) → d.sink.kept ≡ k → Fills (map said d.bodies.items) (map begins_so d.first_values.items) d.core core → r ≡ or_typed k core → Finishes d r
finishes d core None r e f is = subst (Finishes d) (sym is) (f, e)
finishes d core (Some q) r e f is = subst (Finishes d) (sym is) e
