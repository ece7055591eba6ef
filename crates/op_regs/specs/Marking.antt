-- Marks at the positions at which a register is live.
use Rattle.std.specs.Prelude.{◌≡◌, ℕ, ◌+◌, ◌<◌, ◌≤◌, Bool, true, false, ◌||◌, ◌&&◌, not, Option, Some, None, List, length, slice_get, slice_set, if◌then◌else◌}
use Rattle.std.specs.List.{count_by}
use Rattle.op_regs.specs.Lines.{IsLiveLine}
use Rattle.op_regs.specs.declared.line.Line.{Line}

abbrev pub or_false : Option Bool → Bool
or_false None = false
or_false (Some mark) = mark

abbrev pub is_marked : List Bool → ℕ → Bool
is_marked marks p = or_false (slice_get marks p)

abbrev pub is_marked_at : List Bool → Option ℕ → Bool
is_marked_at marks None = false
is_marked_at marks (Some p) = is_marked marks p

-- the line at a position reads, or leads to a mark
abbrev pub leads : List Bool → ℕ → Line → Bool
leads marks p line = (line.reads || (line.passes && is_marked marks (p + 1))) || is_marked_at marks line.other

abbrev pub lacks_at : List Bool → ℕ → Option Line → Bool
lacks_at marks p None = false
lacks_at marks p (Some line) = not (is_marked marks p) && leads marks p line

-- a mark is missing at a position
unfoldable pub lacks : List Line → List Bool → ℕ → Bool
lacks lines marks p = lacks_at marks p (slice_get lines p)

-- the mark that is missing is put there
abbrev pub with_mark : List Line → ℕ → List Bool → List Bool
with_mark lines p marks = if lacks lines marks p then slice_set marks p true else marks

abbrev pub unmarked : List Bool → ℕ
unmarked marks = count_by (λ mark. not mark) marks

-- what is marked is live
abbrev pub AreLive : List Line → List Bool → Type 0
AreLive lines marks = (p : ℕ) → is_marked marks p ≡ true → IsLiveLine lines p

-- Marks that were put, one after the other, from positions below a number on.
pub record AreMarked (lines : List Line) (old new : List Bool) (changes : Bool) (below : ℕ) : Type 0 where
  pub each : length new ≡ length lines
  pub keeps : AreLive lines old → AreLive lines new
  pub fewer : changes ≡ true → unmarked new < unmarked old
  pub same : changes ≡ false → new ≡ old
  pub none_lacks : changes ≡ false → (p : ℕ) → below ≤ p → lacks lines new p ≡ false

-- the marks are at the live positions
pub record MarkLive (lines : List Line) (marks : List Bool) : Type 0 where
  pub live : AreLive lines marks
  pub all : (p : ℕ) → IsLiveLine lines p → is_marked marks p ≡ true
