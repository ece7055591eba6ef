-- The rows of a routine's parameters, which stand in front of those of its other variables.
use Rattle.std.proofs.Common.{◌≡◌, ℕ, suc, List, [], ◌∷◌, ◌++◌, length, map, take, Option, Some, slice_get, refl, ap, subst, ◌∙◌}
use Rattle.op_core.specs.Rows.{rows}
use Rattle.op_core.specs.Sound.{IsSound, RoleAndType, role_and_type}
use Rattle.op_core.specs.declared.ids.TypeId.{TypeId}
use Rattle.op_core.specs.declared.program.Core.{Core}
use Rattle.op_core.specs.declared.routine.Parameter.{Parameter as ParameterRow}
use Rattle.op_core.specs.declared.routine.Role.TheVariants.{Parameter}
use Rattle.op_core.specs.declared.routine.Routine.{Routine as Row}
use Rattle.op_core.specs.declared.routine.Variable.{Variable}
use Rattle.op_places.specs.Frames.{parameters_of}
use Rattle.op_meaning.specs.Shapes.{variables_of}
use Rattle.op_typing.proofs.Paths.{has_rows, rows_of}
use Rattle.op_typing.proofs.Storing.{result_number}
use Rattle.op_typing.specs.Simple.{IsSimpleProgram}
use Rattle.op_agreement.specs.Typed.{parameter_rows}

-- each variable is the parameter in its place, of the same mode and type
abbrev pub AreRows : List ParameterRow → List Variable → Type 0
AreRows [] [] = Unit {0}
AreRows (p ∷ ps) (v ∷ vs) = (v.role ≡ Parameter p.mode) × (v.of ≡ p.of) × AreRows ps vs
AreRows _ _ = ⊥

-- so they are where rows begin with those of parameters
front_rows : (ps : List ParameterRow) (result : Option TypeId) (others : List RoleAndType) (vs : List Variable) → map role_and_type vs ≡ rows_of ps result ++ others → AreRows ps (take (length ps) vs)
front_rows [] result others vs e = tt
front_rows (p ∷ ps) result others [] e = absurd cc
front_rows (p ∷ ps) result others (v ∷ vs) e =
    let head : role_and_type v ≡ (Parameter p.mode, p.of) = cc in
    let tail : map role_and_type vs ≡ rows_of ps result ++ others = cc in
    (ap (λ o. o.0) head, ap (λ o. o.1) head, front_rows ps result others vs tail)

-- there are as many
as_many : (ps : List ParameterRow) (vs : List Variable) → AreRows ps vs → length vs ≡ length ps
as_many [] [] are = refl
as_many [] (v ∷ vs) are = absurd are
as_many (p ∷ ps) [] are = absurd are
as_many (p ∷ ps) (v ∷ vs) (role, of, are) = ap suc (as_many ps vs are)

module _ (core : Core) (sound : IsSound core) (simple : IsSimpleProgram core) (q : ℕ) (y : Row) (is_there : slice_get core.routines q ≡ Some y) where
  -- The first rows of a routine's variables are those of its parameters.
  pub parameters_stand : AreRows (rows core.parameters y.parameters) (parameter_rows core q)
  parameters_stand =
      let ps = rows core.parameters y.parameters in
      let begins = has_rows core sound simple q y is_there in
      subst (λ n. AreRows ps (take n (rows core.variables (variables_of core q)))) (result_number core sound simple q y is_there) (front_rows ps y.result begins.others (rows core.variables (variables_of core q)) begins.are)

  -- each parameter has its row
  pub parameters_counted : length (parameter_rows core q) ≡ parameters_of core q
  parameters_counted = as_many (rows core.parameters y.parameters) (parameter_rows core q) parameters_stand ∙ result_number core sound simple q y is_there
