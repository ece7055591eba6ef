-- The run-time routines are valid.
use Rattle.std.proofs.Common.{◌≡◌, ◌≤◌, true, nat_lt, List, ◌++◌, refl, ap, sym, subst, arith}
use Rattle.std.proofs.lemmas.Bool.Decides.{nat_tests}
use Rattle.std.specs.List.{list_all}
use Rattle.op_low.specs.Valid.{address_fits, branch_fits, call_fits, const_fits, has_all, has_symbol, imm_fits, is_sized, is_valid_block, is_valid_instruction, is_valid_routine, leaves, local_fits, operands_fit}
use Rattle.op_low.specs.declared.code.Counts.{Counts}
use Rattle.op_low.specs.declared.code.Low.{Low}
use Rattle.op_low.specs.declared.code.Routine.{Routine}
use Rattle.op_rt_text.specs.Runtime.{runtime_routines}
use Rattle.op_rt_text.proofs.Programs.{program}
use Rattle.op_rv.specs.declared.objects.GlobalVariable.{GlobalVariable}
use Rattle.op_rv.specs.declared.symbol.RoutineId.{RoutineId}

valid_in : (others : List Routine) (entry : RoutineId) (named : Counts) (globals : List GlobalVariable) → 3 ≤ named.literals → list_all (is_valid_routine (program others entry named globals)) runtime_routines ≡ true
unfolding address_fits branch_fits call_fits const_fits has_all has_symbol imm_fits is_sized is_valid_block is_valid_instruction is_valid_routine leaves local_fits operands_fit
valid_in others entry named globals enough =
    let first : nat_lt 0 named.literals ≡ true = grind (arith, nat_tests) in
    let second : nat_lt 1 named.literals ≡ true = grind (arith, nat_tests) in
    let third : nat_lt 2 named.literals ≡ true = grind (arith, nat_tests) in
    simp (first, second, third) refl

pub valid_routines : (low : Low) (others : List Routine) → low.routines ≡ runtime_routines ++ others → 3 ≤ low.counts.literals → list_all (is_valid_routine low) runtime_routines ≡ true
valid_routines low others are enough =
    let whole : low ≡ program others low.entry low.counts low.globals = ap (λ routines. record low { routines = routines }) are in
    subst (λ l. list_all (is_valid_routine l) runtime_routines ≡ true) (sym whole) (valid_in others low.entry low.counts low.globals enough)
