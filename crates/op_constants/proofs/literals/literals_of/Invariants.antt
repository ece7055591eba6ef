use Rattle.std.proofs.Common.{◌≡◌, [], drop}
use Rattle.op_constants.specs.Fixed.{fixed_literals}
use Rattle.op_constants.specs.Keeping.{with_routines, with_texts}
use Rattle.op_constants.proofs.literals.literals_of.Given as goal

-- the routines that are left give the rest
abbrev pub invariant-loop-code : goal.invariant-loop-code
invariant-loop-code l =
    record {
      rest : with_routines l.core l.routine.0 l.texts (drop l.code-index l.code-items) ≡ with_routines l.core 0 (with_texts [] fixed_literals) l.code-items;
      number : l.routine.0 ≡ l.code-index;
    }
