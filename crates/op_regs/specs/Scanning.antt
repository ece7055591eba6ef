-- Intervals that are taken in order of their first positions.
use Rattle.std.specs.Prelude.{◌≡◌, ◌≢◌, ℕ, ◌<◌, ◌≤◌, ◌⊎◌, Option, Some, None, Bool, true, false, List, length, nat_lt, if◌then◌else◌}
use Rattle.std.specs.List.{count_by}
use Rattle.op_regs.specs.Homes.{given}
use Rattle.op_regs.specs.Liveness.{most}
use Rattle.op_regs.specs.Tables.{entry}
use Rattle.op_regs.specs.declared.home.Home.{Home}
use Rattle.op_regs.specs.declared.home.Home.TheVariants.{Frame, Reg}
use Rattle.op_regs.specs.declared.interval.Interval.{Interval}
use Rattle.op_regs.specs.declared.scan.Next.{Next}
use Rattle.op_regs.specs.declared.scan.Scan.{Scan}

-- what registers, and places of a table, have, by their numbers
abbrev pub Spans : Type 0
Spans = ℕ → Option Interval

abbrev pub Homes : Type 0
Homes = ℕ → Option Home

abbrev pub Holders : Type 0
Holders = ℕ → Option ℕ

-- the interval of a register has a position
pub record Covers (span : Spans) (r p : ℕ) : Type 0 where
  pub interval : Interval
  pub is : span r ≡ Some interval
  pub behind : interval.first ≤ p
  pub before : p ≤ interval.last

-- the intervals of eighteen other registers meet that of this one
pub record Crowd (span : Spans) (r : ℕ) : Type 0 where
  pub point : ℕ
  pub own : Covers span r point
  pub others : ℕ → ℕ
  pub differ : (j k : ℕ) → j < most → k < most → others j ≡ others k → j ≡ k
  pub apart : (k : ℕ) → k < most → others k ≢ r
  pub meet : (k : ℕ) → k < most → Covers span (others k) point

-- no interval that is left begins before a position
abbrev pub LeftFrom : Spans → Homes → ℕ → Type 0
LeftFrom span home p = (s : ℕ) (j : Interval) → home s ≡ None → span s ≡ Some j → p ≤ j.first

-- all that are left begin behind it
abbrev pub IsOver : Spans → Homes → Interval → Type 0
IsOver span home i = (s : ℕ) (j : Interval) → home s ≡ None → span s ≡ Some j → i.last < j.first

-- Homes that some registers have got so far, those whose intervals begin first.
pub record AreFair (span : Spans) (home : Homes) (holder : Holders) (words : ℕ) : Type 0 where
  pub runs : (r : ℕ) (i : Interval) → span r ≡ Some i → i.first ≤ i.last
  pub taken : (r : ℕ) (x : Home) → home r ≡ Some x → (i : Interval) × (span r ≡ Some i)
  pub order : (r : ℕ) (x : Home) (i : Interval) → home r ≡ Some x → span r ≡ Some i → LeftFrom span home i.first
  -- intervals that meet have different homes
  pub apart : (r s : ℕ) (x : Home) (i j : Interval) → r ≢ s → home r ≡ Some x → home s ≡ Some x → span r ≡ Some i → span s ≡ Some j → i.first ≤ j.last → j.first ≤ i.last → ⊥
  pub below : (r w : ℕ) → home r ≡ Some (Frame w) → w < words
  -- what lives in a register of the machine holds it, or is over
  pub held : (r k : ℕ) (i : Interval) → k < most → home r ≡ Some (Reg (given k)) → span r ≡ Some i → (holder k ≡ Some r) ⊎ IsOver span home i
  pub holds : (k h : ℕ) → k < most → holder k ≡ Some h → home h ≡ Some (Reg (given k))
  pub numbers : (r n : ℕ) → home r ≡ Some (Reg n) → (k : ℕ) × (k < most) × (n ≡ given k)
  pub crowded : (r w : ℕ) → home r ≡ Some (Frame w) → Crowd span r

-- the registers that have no home yet
abbrev pub is_left : Option Home → Bool
is_left None = true
is_left (Some x) = false

abbrev pub count_left : List (Option Home) → ℕ
count_left homes = count_by is_left homes

pub record IsFair (scan : Scan) : Type 0 where
  pub each : length scan.homes.items ≡ length scan.spans.items
  pub few : length scan.holders.items ≡ most
  pub fair : AreFair (entry scan.spans.items) (entry scan.homes.items) (entry scan.holders.items) scan.words

-- an interval ends where it begins or behind
abbrev pub AreRuns : List (Option Interval) → Type 0
AreRuns spans = (r : ℕ) (i : Interval) → entry spans r ≡ Some i → i.first ≤ i.last

-- no register is left
abbrev pub AreAllTaken : Scan → Type 0
AreAllTaken scan = (r : ℕ) (i : Interval) → entry scan.homes.items r ≡ None → entry scan.spans.items r ≡ Some i → ⊥

-- ---- which register is next

abbrev pub next_by : ℕ → Option Interval → Option Home → Option Next
next_by r None home = None
next_by r (Some i) None = Some (record { register = r; interval = i })
next_by r (Some i) (Some x) = None

abbrev pub next_at : Scan → ℕ → Option Next
next_at scan r = next_by r (entry scan.spans.items r) (entry scan.homes.items r)

abbrev pub first_of : Option Next → Option Next → Option Next
first_of None b = b
first_of (Some one) None = Some one
first_of (Some one) (Some other) = if nat_lt other.interval.first one.interval.first then Some other else Some one

-- it is left, and none below a number that is left begins before it
pub record IsNextBelow (scan : Scan) (n : ℕ) (next : Next) : Type 0 where
  pub left : entry scan.homes.items next.register ≡ None
  pub is : entry scan.spans.items next.register ≡ Some next.interval
  pub first : (s : ℕ) (j : Interval) → s < n → entry scan.homes.items s ≡ None → entry scan.spans.items s ≡ Some j → next.interval.first ≤ j.first

abbrev pub IsFirstBelow : Scan → ℕ → Option Next → Type 0
IsFirstBelow scan n None = (s : ℕ) (j : Interval) → s < n → entry scan.homes.items s ≡ None → entry scan.spans.items s ≡ Some j → ⊥
IsFirstBelow scan n (Some next) = IsNextBelow scan n next

abbrev pub IsNext : Scan → Next → Type 0
IsNext scan next = IsNextBelow scan (length scan.spans.items) next

abbrev pub IsFirst : Scan → Option Next → Type 0
IsFirst scan next = IsFirstBelow scan (length scan.spans.items) next

-- ---- which registers of the machine are free

abbrev pub ends_before : Option Interval → ℕ → Bool
ends_before None p = true
ends_before (Some i) p = nat_lt i.last p

abbrev pub free_by : Spans → ℕ → Option ℕ → Bool
free_by span p None = true
free_by span p (Some holder) = ends_before (span holder) p

abbrev pub is_free : Scan → ℕ → ℕ → Bool
is_free scan number p = free_by (entry scan.spans.items) p (entry scan.holders.items number)

abbrev pub IsBusy : Scan → ℕ → Type 0
IsBusy scan p = (number : ℕ) → number < most → is_free scan number p ≡ false

-- ---- what they are in the end

-- one that is live nowhere has the first register of the machine
abbrev pub home_or_first : Option Home → Home
home_or_first None = Reg 5
home_or_first (Some x) = x
