-- The runs of positions at which registers are kept.
use Rattle.std.specs.Prelude.{◌≡◌, ℕ, ◌<◌, ◌≤◌, Bool, true, false, Option, Some, None, List, length}
use Rattle.op_low.specs.declared.code.Block.{Block}
use Rattle.op_low.specs.declared.code.Routine.{Routine}
use Rattle.op_low.specs.declared.ids.VirtualRegister.{VirtualRegister}
use Rattle.op_regs.specs.Liveness.{IsLive}
use Rattle.op_regs.specs.Marking.{is_marked}
use Rattle.op_regs.specs.Tables.{entry}
use Rattle.op_regs.specs.declared.interval.Interval.{Interval}

-- a run with one more position behind it, if that has a mark
abbrev pub reaching : Bool → ℕ → Option Interval → Option Interval
reaching false p run = run
reaching true p None = Some (record { first = p; last = p })
reaching true p (Some i) = Some (record { first = i.first; last = p })

-- the least run that has all marks below a number
pub record HasMarks (marks : List Bool) (n : ℕ) (i : Interval) : Type 0 where
  pub first : is_marked marks i.first ≡ true
  pub last : is_marked marks i.last ≡ true
  pub below : i.first < n
  pub all : (p : ℕ) → p < n → is_marked marks p ≡ true → (i.first ≤ p) × (p ≤ i.last)

abbrev pub HasMarksBelow : List Bool → ℕ → Option Interval → Type 0
HasMarksBelow marks n None = (p : ℕ) → p < n → is_marked marks p ≡ true → ⊥
HasMarksBelow marks n (Some i) = HasMarks marks n i

-- the interval of a register: the least run of positions that has every position at which it is live
pub record HasLive (blocks : List Block) (r : VirtualRegister) (i : Interval) : Type 0 where
  pub first : IsLive blocks r i.first
  pub last : IsLive blocks r i.last
  pub all : (p : ℕ) → IsLive blocks r p → (i.first ≤ p) × (p ≤ i.last)

-- of one that is live nowhere there is none
abbrev pub IsInterval : List Block → VirtualRegister → Option Interval → Type 0
IsInterval blocks r None = (p : ℕ) → IsLive blocks r p → ⊥
IsInterval blocks r (Some i) = HasLive blocks r i

-- those of the registers below a number
pub record AreIntervals (blocks : List Block) (registers : ℕ) (spans : List (Option Interval)) : Type 0 where
  pub each : length spans ≡ registers
  pub intervals : (r : VirtualRegister) → r.0 < registers → IsInterval blocks r (entry spans r.0)
