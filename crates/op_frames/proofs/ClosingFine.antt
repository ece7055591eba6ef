-- The closing has its operands in range, and names four registers.
use Rattle.std.proofs.Common.{◌≡◌, ◌<◌, ◌≤◌, ℕ, zero, suc, ◌+◌, List, [], ◌∷◌, length, true, refl, ap, arith, length-append}
use Rattle.std.specs.Prelude.{nat_lt, pos, slice_get}
use Rattle.std.proofs.lemmas.Bool.Decides.{nat_tests}
use Rattle.op_core.specs.declared.ids.RoutineId.{RoutineId}
use Rattle.op_core.specs.declared.program.Core.{Core}
use Rattle.op_expand.specs.Calls.{due_word, finalizations}
use Rattle.op_expand.specs.Closing.{closing_blocks, closing_routine, due, due_for, find_code, finding_code, number, part_blocks, part_code}
use Rattle.op_expand.specs.Routines.{error_block}
use Rattle.op_frames.proofs.CallsFine.{charge_word}
use Rattle.op_frames.proofs.CodeFine.{Ends, ends_behind}
use Rattle.op_frames.proofs.Fine.{AreFine, Bounds}
use Rattle.op_frames.proofs.MadeLemmas.{every_append}
use Rattle.op_frames.proofs.RoutineFine.{IsFineBlock, registers_under, stack_fine, valid_routine}
use Rattle.op_frames.specs.Made.{Every}
use Rattle.op_low.specs.Valid.{has_symbol, is_valid_routine, leaves, takes}
use Rattle.op_low.specs.declared.code.Low.{Low}
use Rattle.op_low.specs.declared.instruction.Instruction.TheVariants.{Address, Branch, Const, Load}
use Rattle.op_mir.specs.declared.code.Mir.{Mir}
use Rattle.op_rt_text.specs.Names.{block_id}
use Rattle.op_rv.specs.declared.instruction.BranchOp.TheVariants.{Beq}
use Rattle.op_rv.specs.declared.instruction.LoadOp.TheVariants.{Lw}

-- the block of each part, and no other one
part_count : (core : Core) (mir : Mir) (stack count before : ℕ) (fs : List RoutineId) → length (part_blocks core mir stack count before fs) ≡ length fs
part_count core mir stack count before [] = refl
part_count core mir stack count before (f ∷ fs) = ap suc (part_count core mir stack count (before + 1) fs)

module _ (low : Low) (core : Core) (mir : Mir) (stack : ℕ) (globals : length core.variables < length low.globals) (enough : 7 ≤ low.counts.literals) (takes_part : Every (λ f. takes (slice_get low.routines (9 + f.0)) 2 ≡ true) (finalizations core)) where
  abbrev parts : ℕ
  parts = length (finalizations core)

  abbrev bounds : Bounds
  bounds = record { low = low; locals = 0; blocks = length (finalizations core) + 2; registers = 4 }

  word_there : nat_lt (length core.variables) (length low.globals) ≡ true
  word_there = grind (arith, nat_tests, globals)

  find_fine : (n : ℕ) → n ≤ parts → AreFine bounds (find_code stack n)
  find_fine zero less = (omega arith, tt)
  find_fine (suc n) less = ((omega arith, omega arith), ((omega arith, omega arith, omega (arith, less)), find_fine n (omega (arith, less))))

  find_ends : (n : ℕ) → Ends (find_code stack n)
  unfolding leaves
  find_ends zero = refl
  find_ends (suc n) = ends_behind (Const number (due_for stack (suc n)) ∷ Branch Beq due number (block_id (suc n)) ∷ []) (find_code stack n) (find_ends n)

  finding_fine : IsFineBlock bounds (record { code = finding_code core stack parts })
  unfolding has_symbol
  finding_fine = (((omega arith, word_there), ((omega arith, omega arith, refl), find_fine parts (omega arith))), ends_behind (Address due (due_word core) ∷ Load Lw due due (pos 0) ∷ []) (find_code stack parts) (find_ends parts))

  part_fine : (before : ℕ) (f : RoutineId) → takes (slice_get low.routines (9 + f.0)) 2 ≡ true → IsFineBlock bounds (record { code = part_code core mir stack parts before f })
  unfolding has_symbol leaves
  part_fine before f there = (
    (
      (omega arith, word_there),
      ((omega arith, omega arith), ((omega arith, omega arith, refl), ((omega arith, charge_word mir f.0), ((omega arith, omega arith, omega arith), ((omega arith, omega arith, omega arith), (((omega arith, (omega arith, tt)), omega arith, there, refl), (omega arith, tt))))))),
    ),
    refl,
  )

  parts_fine : (before : ℕ) (fs : List RoutineId) → Every (λ f. takes (slice_get low.routines (9 + f.0)) 2 ≡ true) fs → Every (IsFineBlock bounds) (part_blocks core mir stack parts before fs)
  parts_fine before [] there = tt
  parts_fine before (f ∷ fs) there = (part_fine before f there.0, parts_fine (before + 1) fs there.1)

  closing_fine : Every (IsFineBlock bounds) (closing_blocks core mir stack (finalizations core))
  closing_fine = (finding_fine, every_append (IsFineBlock bounds) (part_blocks core mir stack parts 0 (finalizations core)) (error_block 202 5 ∷ []) (parts_fine 0 (finalizations core) takes_part) (stack_fine bounds enough (omega arith)))

  pub closing_valid : is_valid_routine low (closing_routine core mir stack) ≡ true
  closing_valid =
      let joined = length-append (part_blocks core mir stack parts 0 (finalizations core)) (error_block 202 5 ∷ []) in
      let many = part_count core mir stack parts 0 (finalizations core) in
      let count : length (closing_blocks core mir stack (finalizations core)) ≡ parts + 2 = omega (arith, joined, many) in
      valid_routine bounds 2 (closing_blocks core mir stack (finalizations core)) count closing_fine (omega arith) (omega arith) (omega arith) (omega arith) refl (omega (arith, count))

  -- so it takes four registers
  pub closing_registers : (closing_routine core mir stack).registers ≤ 4
  closing_registers = registers_under bounds 2 (closing_blocks core mir stack (finalizations core)) (omega arith) (omega arith) closing_fine
