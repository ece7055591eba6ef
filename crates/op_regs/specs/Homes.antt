-- The homes of virtual registers, and what is asked of them.
use Rattle.std.specs.Prelude.{◌≡◌, ◌≢◌, ℕ, ◌+◌, ◌<◌, Bool, true, ◌||◌, ◌&&◌, Option, Some, None, IsSome, List, length, nat_eq, nat_le, nat_lt, slice_get, if◌then◌else◌}
use Rattle.op_low.specs.State.{routine_of}
use Rattle.op_low.specs.declared.code.Block.{Block}
use Rattle.op_low.specs.declared.code.Low.{Low}
use Rattle.op_low.specs.declared.code.Routine.{Routine}
use Rattle.op_low.specs.declared.ids.VirtualRegister.{VirtualRegister}
use Rattle.op_rv.specs.declared.symbol.RoutineId.{RoutineId}
use Rattle.op_regs.specs.Liveness.{IsCrowded, IsLive}
use Rattle.op_regs.specs.declared.home.Assignment.{Assignment}
use Rattle.op_regs.specs.declared.home.Home.{Home}
use Rattle.op_regs.specs.declared.home.Home.TheVariants.{Frame, Reg}

-- the registers of the machine that are given out: x5 to x7, x9, and x18 to x31
abbrev pub is_given : ℕ → Bool
is_given n = ((nat_le 5 n && nat_le n 7) || nat_eq n 9) || (nat_le 18 n && nat_le n 31)

-- these in order, from number 0 to 17
abbrev pub given : ℕ → ℕ
given k = if nat_lt k 3 then 5 + k else (if nat_eq k 3 then 9 else 14 + k)

-- ---- of a routine

-- homes for the registers of a routine, by their numbers
pub record AreHomes (routine : Routine) (homes : List Home) : Type 0 where
  pub each : length homes ≡ routine.registers
  -- registers that are live at one position have different homes
  pub apart : (r s : VirtualRegister) (p : ℕ) (x y : Home) → r.0 ≢ s.0 → IsLive routine.blocks r p → IsLive routine.blocks s p → slice_get homes r.0 ≡ Some x → slice_get homes s.0 ≡ Some y → x ≢ y
  -- a word of the frame is given only where too many intervals meet
  pub crowded : (r : VirtualRegister) (word : ℕ) → slice_get homes r.0 ≡ Some (Frame word) → (p : ℕ) × IsCrowded routine.blocks r p
  -- no other register of the machine is a home
  pub numbers : (r : VirtualRegister) (n : ℕ) → slice_get homes r.0 ≡ Some (Reg n) → is_given n ≡ true

-- those of each routine
pub record AreAllHomes (routines : List Routine) (homes : List (List Home)) : Type 0 where
  pub each : length homes ≡ length routines
  pub homes_at : (k : ℕ) (routine : Routine) (of : List Home) → slice_get routines k ≡ Some routine → slice_get homes k ≡ Some of → AreHomes routine of

-- ---- of a program

abbrev pub home_of : Option (List Home) → VirtualRegister → Option Home
home_of None r = None
home_of (Some homes) r = slice_get homes r.0

-- the home of a register of a routine, if both stand in the code that was assigned
abbrev pub home_in : Assignment → RoutineId → VirtualRegister → Option Home
home_in a routine r = home_of (slice_get a.routines routine.0) r

abbrev pub blocks_of : Low → RoutineId → List Block
blocks_of low routine = (routine_of low routine.0).blocks

-- each register of each routine has a home
abbrev pub HasHomes : Low → Assignment → Type 0
HasHomes low a =
    (routine : RoutineId) (r : VirtualRegister) → routine.0 < length low.routines → r.0 < (routine_of low routine.0).registers → IsSome (home_in a routine r)

-- two registers that are live at one position have different homes
abbrev pub KeepsApart : Low → Assignment → Type 0
KeepsApart low a =
    (routine : RoutineId) (r s : VirtualRegister) (p : ℕ) (x y : Home)
    → r.0 ≢ s.0
    → IsLive (blocks_of low routine) r p
    → IsLive (blocks_of low routine) s p
    → home_in a routine r ≡ Some x
    → home_in a routine s ≡ Some y
    → x ≢ y

-- a register has a word of the frame only where its interval meets those of eighteen others
abbrev pub NeedsFrames : Low → Assignment → Type 0
NeedsFrames low a =
    (routine : RoutineId) (r : VirtualRegister) (word : ℕ) → home_in a routine r ≡ Some (Frame word) → (p : ℕ) × IsCrowded (blocks_of low routine) r p

-- no other register of the machine is a home
abbrev pub GivesOut : Low → Assignment → Type 0
GivesOut low a = (routine : RoutineId) (r : VirtualRegister) (n : ℕ) → home_in a routine r ≡ Some (Reg n) → is_given n ≡ true
