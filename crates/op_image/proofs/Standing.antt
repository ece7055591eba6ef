-- A linked routine stands as selection wants it.
use Rattle.std.proofs.Common.{◌≡◌, ℕ, ◌+◌, ◌-◌, ◌*◌, ◌/◌, ◌%◌, ◌^◌, ◌<◌, ◌≤◌, ◌&&◌, nat_eq, nat_le, Some, None, List, [], ◌∷◌, ◌++◌, length, slice_get, refl, ap, sym, subst, ◌∙◌, arith, append_assoc, length-append}
use Rattle.std.proofs.lemmas.Bool.{cond-true}
use Rattle.std.proofs.lemmas.Bool.Decides.{nat_tests}
use Rattle.op_layout.specs.declared.layout.Layout.{Layout}
use Rattle.op_link.proofs.Lengths.{item_ends_at}
use Rattle.op_link.specs.Memory.{code_address}
use Rattle.op_link.specs.Placing.{behind, behind_items}
use Rattle.op_link.specs.Reach.{block_in}
use Rattle.op_link.specs.Standing.{StandsAt, ItemsStand, RoutineStands}
use Rattle.op_link.specs.declared.addresses.Addresses.{Addresses}
use Rattle.op_link.specs.declared.place.Spot.{Spot}
use Rattle.op_rv.specs.declared.instruction.Instr.{Instr}
use Rattle.op_rv.specs.declared.objects.Item.{Item}
use Rattle.op_rv.specs.declared.objects.ObjectRoutine.{ObjectRoutine}
use Rattle.op_select.specs.Placing.{Nothing, First, Stands, StandsHere, StandsRoutine, past}
use Rattle.op_image.proofs.Expanding.{Targets, expands}
use Rattle.op_image.specs.Meaning.{instruction_at, or_zero, placing_by}

past_is : (at : ℕ) (is : List Instr) → past at is ≡ at + 4 * length is
unfolding past
past_is at [] = omega arith
past_is at (i ∷ is) = past_is (at + 4) is ∙ omega arith

-- the instruction number n stands there
pub instruction_here : (code : List Instr) (n at : ℕ) (i : Instr) → slice_get code n ≡ Some i → code_address + 4 * n ≡ at → instruction_at code at ≡ Some i
unfolding instruction_at
instruction_here code n at i is place =
    let fourth : at % 4 ≡ 0 = omega arith in
    let from : 65536 ≤ at = omega arith in
    let index : (at - 65536) / 4 ≡ n = omega arith in
    cond-true (nat_le 65536 at && nat_eq (at % 4) 0) (slice_get code ((at - 65536) / 4)) None (grind (arith, nat_tests)) ∙ ap (slice_get code) index ∙ is

behind_all : (before after : List Instr) (i : Instr) → slice_get (before ++ (i ∷ after)) (length before) ≡ Some i
behind_all [] after i = refl
behind_all (b ∷ before) after i = behind_all before after i

module _ (layout : Layout) (addresses : Addresses) (code : List Instr) (targets : Targets layout addresses) (small : 4 * length code ≤ 67108864) where
  here : (before is after : List Instr) (at : ℕ) → code ≡ before ++ (is ++ after) → code_address + 4 * length before ≡ at → StandsHere (placing_by layout addresses code) at is
  unfolding StandsHere
  here before [] after at whole place = tt
  here before (i ∷ is) after at whole place =
      let found : slice_get code (length before) ≡ Some i = ap (λ code. slice_get code (length before)) whole ∙ behind_all before (is ++ after) i in
      let longer : length (before ++ i ∷ []) ≡ length before + 1 = length-append before (i ∷ []) in
      let next : code_address + 4 * length (before ++ i ∷ []) ≡ at + 4 = omega arith in
      (instruction_here code (length before) at i found place, here (before ++ i ∷ []) is after (at + 4) (whole ∙ sym (append_assoc before (i ∷ []) (is ++ after))) next)

  stands_low : (at : ℕ) (is : List Instr) → StandsAt code at is → at < 2 ^ 30
  stands_low at is stands =
      let place = stands.place in
      let long = ap length stands.whole ∙ length-append stands.before (is ++ stands.after) in
      omega arith

  items_stand : (r : ℕ) (spot : Spot) (items : List Item) → ItemsStand code layout addresses r spot items → Stands (placing_by layout addresses code) r spot.address items (behind_items addresses.known r spot items).address
  items_stand r spot [] stand = Nothing refl
  items_stand r spot (item ∷ items) stand =
      let first = stand.0 in
      let next = behind addresses.known r spot item in
      let end : next.address ≡ past spot.address first.words = sym (item_ends_at layout addresses r spot item first.words first.is) ∙ sym (past_is spot.address first.words) in
      First first.words
      (expands layout addresses code targets r spot item first.words (stands_low spot.address first.words first.stands) first.is)
      (here first.stands.before first.words first.stands.after spot.address first.stands.whole first.stands.place)
      (subst (λ at. Stands (placing_by layout addresses code) r at items (behind_items addresses.known r next items).address) end (items_stand r next items stand.1))

  pub routine_stands : (r : ℕ) (routine : ObjectRoutine) → 0 < length routine.blocks → RoutineStands code layout addresses r routine → StandsRoutine (placing_by layout addresses code) r routine
  routine_stands r routine some stands =
      let g = placing_by layout addresses code in
      let begins = ap or_zero stands.address in
      let ends = ap or_zero (stands.into some) in
      let head = items_stand r stands.spot routine.head stands.head in
      record {
        head = subst (λ at. Stands g r at routine.head (or_zero (block_in addresses.routines r 0))) (sym begins) (subst (λ end. Stands g r stands.spot.address routine.head end) (sym ends) head);
        blocks = λ b block at.
            let found = stands.blocks b block at in
            record {
              end = (behind_items addresses.known r found.spot block.items).address;
              stands = subst (λ at. Stands g r at block.items (behind_items addresses.known r found.spot block.items).address) (sym (ap or_zero found.address)) (items_stand r found.spot block.items found.items);
            };
      }
