-- Where the registers of temporaries and the blocks of run-time errors stand.
use Rattle.std.specs.Prelude.{ℕ, ◌+◌}
use Rattle.op_compute.specs.declared.bank.Bank.{Bank}
use Rattle.op_compute.specs.declared.bank.Operands.{Operands}
use Rattle.op_compute.specs.declared.bank.RuntimeError.{RuntimeError}
use Rattle.op_compute.specs.declared.bank.RuntimeError.TheVariants.{DivisionByZero, RangeCheck, StackOverflow, IntegerOverflow}
use Rattle.op_compute.specs.declared.bank.Work.{Work}
use Rattle.op_low.specs.declared.ids.VirtualRegister.{VirtualRegister}
use Rattle.op_mir.specs.declared.ids.TemporaryId.{TemporaryId}
use Rattle.op_rv.specs.declared.symbol.BlockId.{BlockId}

abbrev pub register_of : Bank → TemporaryId → VirtualRegister
register_of bank t = record { 0 = bank.temporaries + t.0 }

abbrev pub scratch_of : Bank → ℕ → VirtualRegister
scratch_of bank n = record { 0 = bank.scratch + n }

-- the place of an error's block among those of all errors
abbrev pub place_of_error : RuntimeError → ℕ
place_of_error DivisionByZero = 0
place_of_error RangeCheck = 1
place_of_error StackOverflow = 2
place_of_error IntegerOverflow = 3

abbrev pub error_block_of : Bank → RuntimeError → BlockId
error_block_of bank error = record { 0 = bank.errors + place_of_error error }

-- what computations work with
abbrev pub work_of : Bank → Work
work_of bank = record {
  first = scratch_of bank 0;
  second = scratch_of bank 1;
  third = scratch_of bank 2;
  division = error_block_of bank DivisionByZero;
  range = error_block_of bank RangeCheck;
  stack = error_block_of bank StackOverflow;
  overflow = error_block_of bank IntegerOverflow;
}

-- the registers of three temporaries
abbrev pub operands_of : Bank → (to left right : TemporaryId) → Operands
operands_of bank to a b = record { to = register_of bank to; left = register_of bank a; right = register_of bank b }
