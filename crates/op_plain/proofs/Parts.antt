-- The parts of the test of a program.
use Rattle.std.proofs.Common.{◌≡◌, true, false, sym, true≢false, nat_le, length}
use Rattle.std.proofs.lemmas.Bool.{and_parts, ltb-true, not-true}
use Rattle.std.specs.List.{list_all}
use Rattle.op_core.specs.declared.program.Core.{Core}
use Rattle.op_meaning.specs.Shapes.{is_managed, no_type}
use Rattle.op_plain.specs.Plain.{is_plain_by, is_plain_program, is_plain_routine, is_plain_unit, is_plain_variable, most_units}
use Rattle.op_typing.specs.SimpleTests.{is_counted, is_none, is_short_text, is_solid_parameter}

pub failed : {A : Type 0} → false ≡ true → A
failed e = absurd (true≢false (sym e))

pub record Tests (core : Core) : Type 0 where
  pub exceptions : is_none core.exceptions ≡ true
  pub unmanaged : is_managed core no_type ≡ false
  pub arrays : list_all (is_counted core) core.types ≡ true
  pub parameters : list_all (is_solid_parameter core) core.parameters ≡ true
  pub variables : list_all (is_plain_variable core) core.variables ≡ true
  pub routines : list_all (is_plain_routine is_short_text core) core.routines ≡ true
  pub units : list_all (is_plain_unit core) core.units ≡ true
  pub few : nat_le (length core.units) most_units ≡ true

pub tests_of : (core : Core) → is_plain_program core ≡ true → Tests core
unfolding is_plain_by
tests_of core e =
    let exceptions = and_parts _ _ e in
    let types = and_parts _ _ exceptions.1 in
    let arrays = and_parts _ _ types.1 in
    let parameters = and_parts _ _ arrays.1 in
    let variables = and_parts _ _ parameters.1 in
    let code = and_parts _ _ variables.1 in
    let units = and_parts _ _ code.1 in
    record { exceptions = exceptions.0; unmanaged = not-true _ types.0; arrays = arrays.0; parameters = parameters.0; variables = variables.0; routines = code.0; units = units.0; few = units.1 }
