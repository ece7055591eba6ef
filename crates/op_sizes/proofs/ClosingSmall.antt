-- The closing counts for twelve with each finalization part, and there are no more of these than units.
use Rattle.std.proofs.Common.{◌≡◌, ◌≤◌, ℕ, zero, suc, ◌+◌, ◌*◌, List, [], ◌∷◌, length, length-append, Option, Some, None, refl, arith}
use Rattle.std.specs.Option.{option_to_list}
use Rattle.op_core.specs.declared.ids.RoutineId.{RoutineId}
use Rattle.op_core.specs.declared.program.Core.{Core}
use Rattle.op_core.specs.declared.program.Unit.{Unit as UnitRow}
use Rattle.op_expand.specs.Calls.{finalizations, finalizations_of}
use Rattle.op_expand.specs.Closing.{closing_routine, find_code, part_blocks}
use Rattle.op_expand.specs.Routines.{error_block}
use Rattle.op_mir.specs.declared.code.Mir.{Mir}
use Rattle.op_sizes.proofs.RoutinesSmall.{low_join}
use Rattle.op_sizes.specs.Weights.{blocks_weight, code_weight}

find_weight : (stack n : ℕ) → code_weight (find_code stack n) ≡ 2 * n + 1
find_weight stack zero = refl
find_weight stack (suc n) = let rest = find_weight stack n in omega (arith, rest)

parts_weight : (core : Core) (mir : Mir) (stack count before : ℕ) (fs : List RoutineId) → blocks_weight (part_blocks core mir stack count before fs) ≡ 10 * length fs
parts_weight core mir stack count before [] = refl
parts_weight core mir stack count before (f ∷ fs) = let rest = parts_weight core mir stack count (before + 1) fs in omega (arith, rest)

pub closing_weight : (core : Core) (mir : Mir) (stack : ℕ) → blocks_weight (closing_routine core mir stack).blocks ≤ 12 * length (finalizations core) + 8
closing_weight core mir stack =
    let fs = finalizations core in
    let finding = find_weight stack (length fs) in
    let parts = parts_weight core mir stack (length fs) 0 fs in
    let all = low_join (part_blocks core mir stack (length fs) 0 fs) (error_block 202 5 ∷ []) in
    omega (arith, finding, parts, all)

one_at_most : (part : Option RoutineId) → length (option_to_list part) ≤ 1
one_at_most None = omega arith
one_at_most (Some f) = omega arith

pub finalizations_few : (us : List UnitRow) → length (finalizations_of us) ≤ length us
finalizations_few [] = omega arith
finalizations_few (u ∷ us) =
    let here = one_at_most u.finalization in
    let others = finalizations_few us in
    let both = length-append (option_to_list u.finalization) (finalizations_of us) in
    omega (arith, here, others, both)
