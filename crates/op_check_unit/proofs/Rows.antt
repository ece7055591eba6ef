-- First values that are put into the rows of their variables.
use Rattle.std.proofs.Common.{◌≡◌, List, [], ◌∷◌, ◌++◌, Option, Some, map, get_or, slice_set, ap, sym, refl, ◌∙◌}
use Rattle.std.proofs.lemmas.List.{map-append, map-set}
use Rattle.std.proofs.Math.Seq.{map-set_same}
use Rattle.op_check_unit.specs.FirstValues.{Begins, bare_variable, begins_so, begins_with, begun}
use Rattle.op_check_unit.specs.declared.first_value.Begun.{Begun}
use Rattle.op_core.specs.Initial.{FirstValue}
use Rattle.op_core.specs.declared.ids.VariableId.{VariableId}
use Rattle.op_core.specs.declared.program.Core.{Core}
use Rattle.op_core.specs.declared.routine.Variable.{Variable}

-- the last one is put in first
begun_last : (bs : List (VariableId × FirstValue)) (b : VariableId × FirstValue) (xs : List (Option FirstValue)) → begun (bs ++ b ∷ []) xs ≡ begun bs (slice_set xs b.0.0 (Some b.1))
begun_last [] b xs = refl
begun_last (c ∷ cs) b xs = ap (λ ys. slice_set ys c.0.0 (Some c.1)) (begun_last cs b xs)

-- a row in place of one that differs by its first value alone
pub in_variable : (core : Core) (id : VariableId) (v : FirstValue) (row old : Variable) → old ≡ get_or core.variables id.0 old → bare_variable row ≡ bare_variable old → begins_with row ≡ Some v → Begins ((id, v) ∷ []) core (record core { variables = slice_set core.variables id.0 row })
in_variable core id v row old h e b = record {
  others = ap (λ rs. record core { variables = rs }) (map-set_same bare_variable core.variables id.0 row old (e ∙ ap bare_variable h));
  values = map-set begins_with core.variables id.0 row ∙ ap (slice_set (map begins_with core.variables) id.0) b;
}

-- the last of those that are left
pub one_begun : (front all : List Begun) (b : Begun) (old new : Core) → all ≡ front ++ b ∷ [] → Begins (begins_so b ∷ []) old new → begun (map begins_so front) (map begins_with new.variables) ≡ begun (map begins_so all) (map begins_with old.variables)
one_begun front all b old new e p =
    ap (begun (map begins_so front)) p.values ∙ sym (begun_last (map begins_so front) (begins_so b) (map begins_with old.variables))
    ∙ ap (λ bs. begun bs (map begins_with old.variables)) (sym (ap (map begins_so) e ∙ map-append begins_so front (b ∷ [])))
