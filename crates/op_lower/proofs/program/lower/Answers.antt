use Rattle.std.proofs.Common.{List, subst}
use Rattle.op_core.specs.declared.program.Unit.{Unit as UnitRow}
use Rattle.op_lower.proofs.ProgramLemmas.{lowers}
use Rattle.op_lower.specs.Lowers.{IsProgram}
use Rattle.op_lower.proofs.program.lower.Goals as goal

pub returns : goal.returns
returns c =
    let of : List UnitRow → Type 0 = λ units. IsProgram units c.in_ok-program.program in
    lowers c.args.core.now (record { routines = c.in_ok-routines.routines; program = c.in_ok-program.program; counts = c.in_ok-counts.counts })
    c.in_ok-routines.ensures.number c.in_ok-routines.ensures.each (subst of c.as_slice.ensures c.in_ok-program.ensures) c.in_ok-counts.ensures.types c.in_ok-counts.ensures.variables
