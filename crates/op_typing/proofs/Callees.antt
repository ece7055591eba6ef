-- Where a routine that is called has its parameters and its result.
use Rattle.std.proofs.Common.{◌≡◌, ℕ, zero, suc, ◌+◌, List, [], ◌∷◌, ◌++◌, length, map, Option, Some, slice_get, sym, ap, subst, ◌∙◌}
use Rattle.std.proofs.lemmas.Option.{none-some, slice_get-map}
use Rattle.std.specs.Option.{option_map}
use Rattle.op_core.proofs.Rows.{row_at}
use Rattle.op_core.specs.Rows.{rows}
use Rattle.op_core.specs.Sound.{IsSound, RoleAndType, role_and_type}
use Rattle.op_core.specs.declared.ids.TypeId.{TypeId}
use Rattle.op_core.specs.declared.program.Core.{Core}
use Rattle.op_core.specs.declared.routine.Parameter.{Parameter as ParameterRow}
use Rattle.op_core.specs.declared.routine.Role.{Role}
use Rattle.op_core.specs.declared.routine.Role.TheVariants.{Parameter, Result}
use Rattle.op_core.specs.declared.routine.Routine.{Routine}
use Rattle.op_core.specs.declared.routine.Variable.{Variable}
use Rattle.op_meaning.specs.Shapes.{result_of_routine, variables_of}
use Rattle.op_typing.proofs.Paths.{has_rows, parameters_are, rows_of}
use Rattle.op_typing.proofs.Rows.{of_some, row_low}
use Rattle.op_typing.proofs.Storing.{mapped_is, result_at, result_number}
use Rattle.op_typing.specs.Simple.{IsSimpleProgram}
use Rattle.op_typing.specs.Typed.{HasVariable, parameters_of}

abbrev pub RowIs : Role → TypeId → Variable → Type 0
RowIs role of v = (v.role ≡ role) × (v.of ≡ of)

front_at : (ps : List ParameterRow) (result : Option TypeId) (others : List RoleAndType) (k : ℕ) (p : ParameterRow) → slice_get ps k ≡ Some p → slice_get (rows_of ps result ++ others) k ≡ Some (Parameter p.mode, p.of)
front_at [] result others k p e = absurd (none-some _ e)
front_at (q ∷ ps) result others zero p e = ap (option_map (λ p. (Parameter p.mode, p.of))) e
front_at (q ∷ ps) result others (suc k) p e = front_at ps result others k p e

module _ (core : Core) (sound : IsSound core) (simple : IsSimpleProgram core) (q : ℕ) (y : Routine) (is_there : slice_get core.routines q ≡ Some y) where
  row_stands : (k : ℕ) (role : Role) (of : TypeId) → slice_get (map role_and_type (rows core.variables (variables_of core q))) k ≡ Some (role, of) → HasVariable core q k (RowIs role of)
  row_stands k role of at =
      let vs = rows core.variables (variables_of core q) in
      let (v, row, same) = mapped_is role_and_type (slice_get vs k) (role, of) (sym (slice_get-map role_and_type vs k) ∙ at) in
      let few = row_low core.variables (variables_of core q) k v row in
      (few, of_some (slice_get core.variables ((variables_of core q).first + k)) (RowIs role of) v (sym (row_at core.variables (variables_of core q) k few) ∙ row) (ap (λ o. o.0) same, ap (λ o. o.1) same))

  -- a parameter is the variable with its number
  pub parameter_stands : (k : ℕ) (p : ParameterRow) → slice_get (rows core.parameters y.parameters) k ≡ Some p → HasVariable core q k (RowIs (Parameter p.mode) p.of)
  parameter_stands k p e =
      let begins = has_rows core sound simple q y is_there in
      row_stands k (Parameter p.mode) p.of (ap (λ ws. slice_get ws k) begins.are ∙ front_at (rows core.parameters y.parameters) y.result begins.others k p e)

  -- the result stands behind them
  pub result_stands : (of : TypeId) → y.result ≡ Some of → HasVariable core q (result_of_routine core q) (RowIs Result of)
  result_stands of e =
      let begins = has_rows core sound simple q y is_there in
      let ps = rows core.parameters y.parameters in
      let at : slice_get (map role_and_type (rows core.variables (variables_of core q))) (length ps) ≡ Some (Result, of) = ap (λ ws. slice_get ws (length ps)) begins.are ∙ ap (λ result. slice_get (rows_of ps result ++ begins.others) (length ps)) e ∙ result_at ps of begins.others in
      subst (λ k. HasVariable core q k (RowIs Result of)) (result_number core sound simple q y is_there) (row_stands (length ps) Result of at)

  pub parameters_first : length (parameters_of core q) ≡ result_of_routine core q
  parameters_first = ap (λ ps. length ps) (parameters_are core sound simple q y is_there) ∙ result_number core sound simple q y is_there
