-- The managed code of each routine of a sound program, and of the program itself, is as the agreement asks.
use Rattle.std.proofs.Common.{◌≡◌, ◌≤◌, ◌<◌, ◌⊎◌, inl, inr, ℕ, zero, suc, ◌+◌, List, [], ◌∷◌, length, Some, None, refl, sym, ap, ◌∙◌, subst, arith, if◌then◌else◌}
use Rattle.std.specs.Prelude.{◌*◌, Bool, true, false, nat_eq, slice_get}
use Rattle.std.specs.List.{All}
use Rattle.std.specs.Option.{option_map}
use Rattle.std.proofs.lemmas.Bool.{eqb-true}
use Rattle.std.proofs.lemmas.List.{length-map}
use Rattle.std.proofs.lemmas.Option.{same_Some, slice_get-map, slice_get_past}
use Rattle.op_core.specs.Sound.{IsSound, IsSoundNesting}
use Rattle.op_core.specs.declared.program.Core.{Core}
use Rattle.op_frames.proofs.Lowered.{some_blocks}
use Rattle.op_frames.proofs.PlacesFine.{most_each}
use Rattle.op_frames.specs.Made.{Every, IsCode}
use Rattle.op_frames.specs.Within.{IsWithin}
use Rattle.op_lower.specs.Lowers.{Lowers}
use Rattle.op_lower.specs.Seen.{seen_blocks}
use Rattle.op_lower.specs.Temporaries.{in_block}
use Rattle.op_meaning.specs.Shapes.{variables_in, variables_of}
use Rattle.op_mir.specs.View.{routine_at, view_block, view_routine}
use Rattle.op_mir.specs.declared.code.Block.{Block}
use Rattle.op_mir.specs.declared.code.Mir.{Mir}
use Rattle.op_mir.specs.declared.code.Routine.{Routine}
use Rattle.op_typing.proofs.CodeTyped.{mir_is_typed}
use Rattle.op_typing.proofs.Rows.{each_row}
use Rattle.op_typing.specs.Typed.{AreTypedBlocks, AreTypedInstrs}
use Rattle.op_agreement.specs.Typed.{AreFine, IsFine, IsPaid}
use Rattle.op_correctness.proofs.Instructions.{block_fine, each_fine}
use Rattle.op_correctness.proofs.Making.{items_made, nodes}
use Rattle.op_correctness.proofs.OwnCode.{own_low, own_targeted}
use Rattle.op_correctness.proofs.Targeting.{blocks_targeted}
use Rattle.op_correctness.specs.SimpleCore.{IsSimpleCore}
use Rattle.op_correctness.specs.Targets.{IsTargeted}

-- what holds of each element holds of the one in a place
pub every_at : {A : Type 0} (Q : A → Type 0) (xs : List A) (k : ℕ) (x : A) → Every Q xs → slice_get xs k ≡ Some x → Q x
every_at Q [] k x all e = absurd cc
every_at Q (y ∷ ys) zero x all e = subst Q (same_Some _ _ e) all.0
every_at Q (y ∷ ys) (suc k) x all e = every_at Q ys k x all.1 e

-- the block in a place, as its machine sees it
pub seen_at : (core : Core) (r : ℕ) (blocks : List Block) (k : ℕ) (block : Block) → slice_get blocks k ≡ Some block → slice_get (seen_blocks core r blocks) k ≡ Some (view_block core r block)
seen_at core r blocks k block e = slice_get-map (view_block core r) blocks k ∙ ap (option_map (view_block core r)) e

-- ---- a routine, or the program itself

module _ (mir : Mir) (r : ℕ) (x : Routine) where
  -- the program has the number behind those of all routines
  abbrev pub IsOwn : Type 0
  IsOwn = (r ≡ length mir.routines) × (x ≡ mir.program)

  -- what is found at a number
  pub which : routine_at mir r ≡ Some x → IsOwn ⊎ (slice_get mir.routines r ≡ Some x)
  which found = by (nat_eq r (length mir.routines)) refl found
    where
      by : (own : Bool) → nat_eq r (length mir.routines) ≡ own → (if own then Some mir.program else slice_get mir.routines r) ≡ Some x → IsOwn ⊎ (slice_get mir.routines r ≡ Some x)
      by true e is = inl (eqb-true r (length mir.routines) e, sym (same_Some _ _ is))
      by false e is = inr is

-- a routine without a row has no variables
no_row : (core : Core) (r : ℕ) → length core.routines ≡ r → slice_get core.routines r ≡ None
no_row core r same = slice_get_past core.routines r (omega (arith, same))

module _ (core : Core) (mir : Mir) (stack : ℕ) (sound : IsSound core) (nesting : IsSoundNesting core) (is : IsSimpleCore core) (lowers : Lowers core mir) (r : ℕ) (x : Routine) (found : routine_at mir r ≡ Some x) where
  -- the program itself has no row
  own_number : r ≡ length mir.routines → slice_get core.routines r ≡ None
  own_number number = let count = lowers.number in no_row core r (omega (arith, number, count))

  -- it has as many variables as its row says, and the program itself none
  pub locals : x.locals ≡ (variables_of core r).count
  locals = by (which mir r x found)
    where
      by : IsOwn mir r x ⊎ (slice_get mir.routines r ≡ Some x) → x.locals ≡ (variables_of core r).count
      by (inl (number, own)) =
          let none : 0 ≡ (variables_of core r).count = ap (λ o. (variables_in o).count) (sym (own_number number)) in
          ap (λ (y : Routine). y.locals) own ∙ lowers.program.locals ∙ none
      by (inr row) = (lowers.routines r x row).locals

  -- its code is typed, leads to its blocks, and names no temporary that it has not
  pub typed : AreTypedBlocks core r (seen_blocks core r x.blocks)
  typed = subst (λ o. AreTypedBlocks core r (view_routine core r o)) found (mir_is_typed core mir stack sound nesting is.simple (lowers.blocks stack) r)

  pub targeted : Every (IsCode (IsTargeted core r (length x.blocks))) (seen_blocks core r x.blocks)
  targeted = by (which mir r x found)
    where
      by : IsOwn mir r x ⊎ (slice_get mir.routines r ≡ Some x) → Every (IsCode (IsTargeted core r (length x.blocks))) (seen_blocks core r x.blocks)
      by (inl (number, own)) = subst (λ (y : Routine). Every (IsCode (IsTargeted core r (length y.blocks))) (seen_blocks core r y.blocks)) (sym own) (subst (Every (IsCode (IsTargeted core r (length mir.program.blocks)))) (sym (lowers.program.blocks core r)) (own_targeted core r (length mir.program.blocks) (let count = lowers.number in omega (arith, number, count))))
      by (inr row) = blocks_targeted (IsWithin (2 * nodes core stack r) (2 * nodes core stack r + 1)) core stack r x (lowers.routines r x row) (items_made core stack r (length x.blocks) (is.counted stack r))

  pub low : Every (λ b. in_block b ≤ x.temporaries) x.blocks
  low = by (which mir r x found)
    where
      by : IsOwn mir r x ⊎ (slice_get mir.routines r ≡ Some x) → Every (λ b. in_block b ≤ x.temporaries) x.blocks
      by (inl (number, own)) = subst (λ (y : Routine). Every (λ b. in_block b ≤ x.temporaries) y.blocks) (sym own) (own_low core r x.temporaries mir.program.blocks (lowers.program.blocks core r))
      by (inr row) = let same = (lowers.routines r x row).temporaries in most_each in_block x.blocks x.temporaries (omega (arith, same))

  -- it has a block
  pub has_block : 0 < length x.blocks
  has_block = by (which mir r x found)
    where
      by : IsOwn mir r x ⊎ (slice_get mir.routines r ≡ Some x) → 0 < length x.blocks
      by (inl (number, own)) =
          let two = ap length (lowers.program.blocks core r) in
          let as_many = length-map mir.program.blocks (view_block core r) in
          let same = ap (λ (y : Routine). length y.blocks) own in
          omega (arith, two, as_many, same)
      by (inr row) = some_blocks core stack r x (lowers.routines r x row)

  module _ (k : ℕ) (block : Block) (there : slice_get x.blocks k ≡ Some block) where
    -- of one of its blocks
    typed_there : AreTypedInstrs core r (view_block core r block)
    typed_there = each_row (AreTypedInstrs core r) (seen_blocks core r x.blocks) k (view_block core r block) typed (seen_at core r x.blocks k block there)

    targeted_there : IsCode (IsTargeted core r (length x.blocks)) (view_block core r block)
    targeted_there = every_at (IsCode (IsTargeted core r (length x.blocks))) (seen_blocks core r x.blocks) k (view_block core r block) targeted (seen_at core r x.blocks k block there)

    low_there : in_block block ≤ x.temporaries
    low_there = every_at (λ b. in_block b ≤ x.temporaries) x.blocks k block low there

    -- Each instruction of its blocks is fine, also where nothing comes to it.
    pub instructions_fine : All (IsFine core mir r x) block.code
    instructions_fine = each_fine core sound is.simple mir lowers.number lowers.types lowers.variables r x locals block typed_there targeted_there low_there

    -- And so is each of its blocks, if they are paid.
    pub blocks_fine : Every (IsPaid mir r x) block.code → AreFine core mir r x block.code
    blocks_fine paid = block_fine core sound is.simple mir lowers.number lowers.types lowers.variables r x locals block typed_there targeted_there low_there paid
