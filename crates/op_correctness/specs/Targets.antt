-- Where branches lead: to blocks that are there, and none to the first one. No instruction has a block where an exception goes on.
use Rattle.std.specs.Prelude.{◌≡◌, ◌<◌, ℕ, ◌+◌, length, None, true}
use Rattle.op_core.specs.declared.program.Core.{Core}
use Rattle.op_expand.specs.Calls.{has_closing}
use Rattle.op_frames.specs.Made.{Every}
use Rattle.op_mir.specs.Code.{Arm, Instr, do_act, do_call, jump, when, unless, switch, dispatch, make_due, open_temporaries, end_temporary, stop, ret}

abbrev pub IsTargetNumber : (blocks k : ℕ) → Type 0
IsTargetNumber blocks k = (0 < k) × (k < blocks)

-- in code of so many blocks; only in that of the program itself a finalization part becomes due
abbrev pub IsTargeted : Core → (r blocks : ℕ) → Instr → Type 0
IsTargeted core r blocks (do_act a landing) = landing ≡ None
IsTargeted core r blocks (do_call q given receiver landing) = landing ≡ None
IsTargeted core r blocks (jump k) = IsTargetNumber blocks k
IsTargeted core r blocks (when t k) = IsTargetNumber blocks k
IsTargeted core r blocks (unless t k) = IsTargetNumber blocks k
IsTargeted core r blocks (switch t arms) = Every (λ (a : Arm). IsTargetNumber blocks a.block) arms
IsTargeted core r blocks (dispatch t k) = k + 3 < blocks
IsTargeted core r blocks (make_due f) = (r ≡ length core.routines) × (has_closing core ≡ true)
IsTargeted core r blocks (open_temporaries ts) = ⊥
IsTargeted core r blocks (end_temporary t) = ⊥
IsTargeted core r blocks (stop t) = Unit {0}
IsTargeted core r blocks ret = Unit {0}
