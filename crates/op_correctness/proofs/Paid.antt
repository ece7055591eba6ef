-- What the steps of a routine's code cost is within its charge: it is charged 256 bytes at least, and for each label of its branches. The program
-- itself is charged nothing, and its code costs little.
use Rattle.std.proofs.Common.{◌≡◌, ◌≤◌, ◌<◌, ◌⊎◌, inl, inr, ℕ, ◌+◌, ◌*◌, List, [], ◌∷◌, length, Some, refl, ap, sym, subst, arith}
use Rattle.std.specs.Prelude.{map, slice_get}
use Rattle.std.proofs.lemmas.Option.{slice_get_within}
use Rattle.op_core.proofs.Rows.{there_is}
use Rattle.op_core.specs.Sound.{IsSound, IsSoundNesting}
use Rattle.op_core.specs.declared.program.Core.{Core}
use Rattle.op_expand.specs.Routines.{most_charge}
use Rattle.op_frames.proofs.Lowered.{code_is}
use Rattle.op_frames.proofs.RegistersUnder.{covers_all}
use Rattle.op_frames.specs.Made.{Every, IsCode}
use Rattle.op_frames.specs.Within.{IsWithin, labels_among}
use Rattle.op_lower.specs.Lowers.{Lowers}
use Rattle.op_lower.specs.Seen.{seen_blocks}
use Rattle.op_mir.specs.View.{routine_at, view_arm, view_block, view_instruction}
use Rattle.op_mir.specs.declared.code.Block.{Block}
use Rattle.op_mir.specs.declared.code.Mir.{Mir}
use Rattle.op_mir.specs.declared.code.Routine.{Routine}
use Rattle.op_mir.specs.declared.instruction.Arm.{Arm}
use Rattle.op_mir.specs.declared.instruction.Instruction.{Instruction}
use Rattle.op_mir.specs.declared.instruction.Instruction.TheVariants.{Act, Call, Jump, When, Unless, Switch, Dispatch, MakeDue, OpenTemporaries, EndTemporary, Stop, Return}
use Rattle.op_agreement.specs.Typed.{IsCharged, IsLight, IsPaid, labels_in}
use Rattle.op_correctness.proofs.Fitting.{body_there}
use Rattle.op_correctness.proofs.Making.{items_made, nodes}
use Rattle.op_correctness.proofs.OwnCode.{own_light}
use Rattle.op_correctness.proofs.RoutineCode.{IsOwn, every_at, seen_at, which}
use Rattle.op_correctness.specs.SimpleCore.{IsSimpleCore}

-- the labels are those that the machine sees
same_labels : (arms : List Arm) → labels_in arms ≡ labels_among (map view_arm arms)
same_labels [] = refl
same_labels (a ∷ arms) = ap (λ n. length a.labels + n) (same_labels arms)

module _ (core : Core) (r top room : ℕ) (x : Routine) (less : room ≤ x.charge) where
  -- an instruction that has no more labels than that is charged for them
  instruction_charged : (i : Instruction) → IsWithin top room (view_instruction core r i) → IsCharged x i
  instruction_charged (Switch t arms) p = let same = same_labels arms in let few = p.2 in omega (arith, same, few, less)
  instruction_charged (Act a landing) p = tt
  instruction_charged (Call id call) p = tt
  instruction_charged (Jump block) p = tt
  instruction_charged (When t block) p = tt
  instruction_charged (Unless t block) p = tt
  instruction_charged (Dispatch t block) p = tt
  instruction_charged (MakeDue f) p = tt
  instruction_charged (OpenTemporaries ts) p = tt
  instruction_charged (EndTemporary t) p = tt
  instruction_charged (Stop t) p = tt
  instruction_charged Return p = tt

module _ (core : Core) (mir : Mir) (stack : ℕ) (sound : IsSound core) (nesting : IsSoundNesting core) (is : IsSimpleCore core) (lowers : Lowers core mir) (r : ℕ) (x : Routine) (found : routine_at mir r ≡ Some x) (small : x.charge ≤ most_charge) where
  -- a routine is charged for its body
  routine_charged : slice_get mir.routines r ≡ Some x → 272 + 16 * nodes core stack r ≤ x.charge
  routine_charged row =
      let low = slice_get_within mir.routines r x row in
      let number = lowers.number in
      let (y, there) = there_is core.routines r (omega (arith, low, number)) in
      let (b, body) = body_there core sound is r y there in
      let covers = covers_all core stack r y b there body in
      let told = (lowers.routines r x row).charge in
      omega (arith, covers, told, small)

  pub least_charged : r < length mir.routines → 256 ≤ x.charge
  least_charged low = by (which mir r x found)
    where
      by : IsOwn mir r x ⊎ (slice_get mir.routines r ≡ Some x) → 256 ≤ x.charge
      by (inl (number, own)) = absurd (omega (arith, low, number))
      by (inr row) = let charged = routine_charged row in omega (arith, charged)

  -- ---- its blocks

  light_paid : (code : List Instruction) → r ≡ length mir.routines → Every IsLight code → Every (IsPaid mir r x) code
  light_paid [] number light = tt
  light_paid (i ∷ code) number (here, light) = (record { itself = λ same. here; charged = λ low. absurd (omega (arith, low, number)) }, light_paid code number light)

  code_paid : (code : List Instruction) → slice_get mir.routines r ≡ Some x → Every (IsWithin (2 * nodes core stack r) (2 * nodes core stack r + 1)) (map (view_instruction core r) code) → Every (IsPaid mir r x) code
  code_paid [] row within = tt
  code_paid (i ∷ code) row (here, within) =
      let low = slice_get_within mir.routines r x row in
      let charged = routine_charged row in
      (record { itself = λ same. absurd (omega (arith, low, same)); charged = λ less. instruction_charged core r (2 * nodes core stack r) (2 * nodes core stack r + 1) x (omega (arith, charged)) i here }, code_paid code row within)

  -- Each instruction of its blocks is paid.
  pub blocks_paid : (k : ℕ) (block : Block) → slice_get x.blocks k ≡ Some block → Every (IsPaid mir r x) block.code
  blocks_paid k block there = by (which mir r x found)
    where
      by : IsOwn mir r x ⊎ (slice_get mir.routines r ≡ Some x) → Every (IsPaid mir r x) block.code
      by (inl (number, own)) = light_paid block.code number (every_at (λ b. Every IsLight b.code) x.blocks k block (subst (λ (y : Routine). Every (λ b. Every IsLight b.code) y.blocks) (sym own) (own_light core r 0 mir.program.blocks (lowers.program.blocks core r))) there)
      by (inr row) =
          let within : Every (IsCode (IsWithin (2 * nodes core stack r) (2 * nodes core stack r + 1))) (seen_blocks core r x.blocks) =
          code_is (IsWithin (2 * nodes core stack r) (2 * nodes core stack r + 1)) core stack r x (λ k some less. tt) tt (lowers.routines r x row) (items_made core stack r (length x.blocks) (is.counted stack r)) in
          code_paid block.code row (every_at (IsCode (IsWithin (2 * nodes core stack r) (2 * nodes core stack r + 1))) (seen_blocks core r x.blocks) k (view_block core r block) within (seen_at core r x.blocks k block there)).each
