-- The routines are valid.
use Rattle.std.proofs.Common.{◌≡◌, ◌<◌, true, nat_lt, refl, arith}
use Rattle.std.proofs.lemmas.Bool.Decides.{nat_tests}
use Rattle.std.specs.List.{list_all}
use Rattle.op_low.specs.Valid.{address_fits, branch_fits, const_fits, has_all, has_symbol, imm_fits, is_sized, is_valid_block, is_valid_instruction, is_valid_routine, leaves, shift_fits}
use Rattle.op_low.specs.declared.code.Low.{Low}
use Rattle.op_rt_heap.specs.Example.{routines}

pub valid_routines : (low : Low) → 7 < low.counts.literals → list_all (is_valid_routine low) routines ≡ true
unfolding address_fits branch_fits const_fits has_all has_symbol imm_fits is_sized is_valid_block is_valid_instruction is_valid_routine leaves shift_fits
valid_routines low less =
    let there : nat_lt 7 low.counts.literals ≡ true = grind (arith, nat_tests) in
    simp there refl
