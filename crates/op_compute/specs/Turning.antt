-- Where branches by a number lead.
use Rattle.std.specs.Prelude.{◌≡◌, ℕ, ◌+◌, ◌<◌, ℤ, pos, List, [], ◌∷◌, map, Option, Some, None, if◌then◌else◌}
use Rattle.std.specs.Int.{w32}
use Rattle.std.specs.Int.RustNames.{FitsSigned}
use Rattle.std.specs.Ordering.{int_eq}
use Rattle.op_compute.specs.Branches.{true_code, false_code, switch_code, dispatch_code}
use Rattle.op_compute.specs.Meaning.{IsWordOf}
use Rattle.op_compute.specs.Straight.{Outcome, Behind, Away, outcome}
use Rattle.op_compute.specs.declared.bank.Work.{Work}
use Rattle.op_core.specs.declared.statement.Label.{Label}
use Rattle.op_low.specs.declared.ids.VirtualRegister.{VirtualRegister}
use Rattle.op_meaning.specs.Numbers.{is_true}
use Rattle.op_mir.specs.Machine.{arm_for}
use Rattle.op_mir.specs.View.{view_arm}
use Rattle.op_mir.specs.declared.ids.BlockId.{BlockId}
use Rattle.op_mir.specs.declared.instruction.Arm.{Arm}

-- no register in front of the scratch registers has changed
abbrev pub AreAllKept : Work → (ℕ → ℕ) → (ℕ → ℕ) → Type 0
AreAllKept w f g = (r : ℕ) → r < w.first.0 → g r ≡ f r

-- code leads to the block of a number, if there is one, and on where there is none
abbrev pub Turns : Work → (ℕ → ℕ) → Option ℕ → Outcome → Type 0
Turns w f (Some k) (Away block g) = (block.0 ≡ k) × AreAllKept w f g
Turns w f None (Behind g) = AreAllKept w f g
Turns w f _ _ = ⊥

-- the scratch registers stand in order behind the register of the number, which is its word
pub record Reads (w : Work) (from : VirtualRegister) (f : ℕ → ℕ) (x : ℤ) : Type 0 where
  pub below : from.0 < w.first.0
  pub second : w.first.0 < w.second.0
  pub word : IsWordOf (f from.0) x

-- labels are numbers of 32 bits
abbrev pub HasWordLabels : List Label → Type 0
HasWordLabels [] = Unit {0}
HasWordLabels (l ∷ ls) = FitsSigned w32 l.first × FitsSigned w32 l.last × HasWordLabels ls

abbrev pub HasWordArms : List Arm → Type 0
HasWordArms [] = Unit {0}
HasWordArms (a ∷ as') = HasWordLabels a.labels × HasWordArms as'

-- the block for a reason, behind a finally part
abbrev pub way_for : ℤ → ℕ → Option ℕ
way_for n k =
    if int_eq n (pos 1) then Some (k + 1) else (if int_eq n (pos 2) then Some (k + 2) else (if int_eq n (pos 3) then Some (k + 3) else None))

-- a block where the number is true, and one where it is not
abbrev pub where_true : ℤ → ℕ → Option ℕ
where_true n k = if is_true n then Some k else None

abbrev pub where_false : ℤ → ℕ → Option ℕ
where_false n k = if is_true n then None else Some k

-- each of the four branches leads where the instruction of managed code does
pub record BranchesTurn (w : Work) (from : VirtualRegister) (f : ℕ → ℕ) (x : ℤ) : Type 0 where
  pub when_true : (block : BlockId) → Turns w f (where_true x block.0) (outcome (true_code w from block) f)
  pub when_false : (block : BlockId) → Turns w f (where_false x block.0) (outcome (false_code w from block) f)
  pub by_label : (arms : List Arm) → HasWordArms arms → Turns w f (arm_for x (map view_arm arms)) (outcome (switch_code w from arms) f)
  pub by_reason : (block : BlockId) → Turns w f (way_for x block.0) (outcome (dispatch_code w from block) f)
