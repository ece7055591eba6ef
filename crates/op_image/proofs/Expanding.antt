-- The code of an item stands for the item.
use Rattle.std.proofs.Common.{◌≡◌, ℕ, ℤ, pos, negsuc, suc, ◌+◌, ◌-◌, ◌*◌, ◌/◌, ◌%◌, ◌^◌, ◌-ℤ◌, ◌<◌, ◌≤◌, Bool, true, false, ◌&&◌, cond, nat_eq, nat_lt, Option, Some, None, List, [], ◌∷◌, refl, ap, sym, subst, ◌∙◌, inl, inr, arith}
use Rattle.std.specs.Option.{option_map}
use Rattle.std.proofs.lemmas.Bool.{cases_Bool, cases_lt, ltb-false, ltb-true}
use Rattle.std.proofs.lemmas.Int.{ints}
use Rattle.op_layout.specs.declared.layout.Layout.{Layout}
use Rattle.op_link.specs.Code.{high_of, low_of, distance_within, symbol_address, code_at, then_code, set_address, go_by_register, jump_code, branch_code, opposite_of, item_code}
use Rattle.op_link.specs.Reach.{block_in, head_in, reach_of, reaches}
use Rattle.op_link.specs.declared.addresses.Addresses.{Addresses}
use Rattle.op_link.specs.declared.place.Spot.{Spot}
use Rattle.op_link.specs.declared.reach.Reach.{Reach}
use Rattle.op_link.specs.declared.reach.Reach.TheVariants.{Direct as DirectReach, OverJump, ByRegister}
use Rattle.op_link.proofs.Distances.{backward, forward}
use Rattle.op_link.proofs.Lengths.{some_same}
use Rattle.op_rv.specs.Operation.{word_from}
use Rattle.op_rv.specs.Step.{offset_from}
use Rattle.op_rv.specs.declared.instruction.BranchOp.{BranchOp}
use Rattle.op_rv.specs.declared.instruction.BranchOp.TheVariants.{Beq, Bne, Blt, Bge, Bltu, Bgeu}
use Rattle.op_rv.specs.declared.instruction.Instr.{Instr}
use Rattle.op_rv.specs.declared.instruction.Instr.TheVariants.{Jal, Branch}
use Rattle.op_rv.specs.declared.objects.Item.{Item}
use Rattle.op_rv.specs.declared.objects.Item.TheVariants.{Plain, Address, Branch as BranchItem, Call as CallItem, CallAt as CallAtItem, Jump as JumpItem}
use Rattle.op_rv.specs.declared.symbol.Symbol.{Symbol}
use Rattle.op_select.specs.Placing.{past, opposite, joined, Transfer, Near, Far, Choice, Direct, Over, Loading, InTwo, Expands}
use Rattle.op_image.specs.Meaning.{or_zero, placing_by}

-- ---- addresses in two parts, and distances

low_small : (n : ℕ) → n < 2 ^ 32 → n % 4096 < 2048 → ((n + 2048) % 2 ^ 32 / 4096 * 2 ^ 12 + word_from (pos (n % 4096))) % 2 ^ 32 ≡ n
low_small n fits small = omega (arith, ints)

low_large : (n : ℕ) → n < 2 ^ 32 → 2048 ≤ n % 4096 → ((n + 2048) % 2 ^ 32 / 4096 * 2 ^ 12 + word_from (pos (n % 4096) -ℤ pos 4096)) % 2 ^ 32 ≡ n
low_large n fits large = omega (arith, ints)

pub parts_joined : (n : ℕ) → n < 2 ^ 32 → joined (high_of n) (low_of n) ≡ n
unfolding joined high_of low_of
parts_joined n fits =
    elim (cases_Bool (nat_lt (n % 4096) 2048)) [
      | inl small ↦ simp small (low_small n fits (ltb-true _ _ small))
      | inr large ↦ simp large (low_large n fits (ltb-false _ _ large))
    ]

ahead : (from d : ℕ) → from + d < 2 ^ 31 → offset_from from (pos d) ≡ from + d
ahead from d fits = omega (arith, ints)

back : (from d : ℕ) → d < from → from < 2 ^ 31 → offset_from from (negsuc d) ≡ from - suc d
back from d less fits = omega (arith, ints)

distance_reaches : (from to : ℕ) → from < 2 ^ 31 → to < 2 ^ 31 → offset_from from (pos to -ℤ pos from) ≡ to
distance_reaches from to is_from is_to =
    elim (cases_lt to from) [
      | inl behind ↦
          let d = from - suc to in
          ap (offset_from from) (backward from to behind) ∙ back from d (omega arith) is_from ∙ omega arith
      | inr before ↦
          let d = to - from in
          ap (offset_from from) (forward from to before) ∙ ahead from d (omega arith) ∙ omega arith
    ]

-- an address that code may go to
pub record Reachable (to : ℕ) : Type 0 where
  pub low : to < 2 ^ 31
  pub whole : to % 4 ≡ 0

-- ---- transfers

-- a transfer of so many bytes
record Goes (target link at size : ℕ) (is : List Instr) : Type 0 where
  transfer : Transfer target link at is
  past_is : past at is ≡ at + size

near_by : (found : Option ℤ) (link at to : ℕ) (is : List Instr) → ((d : ℤ) → found ≡ Some d → offset_from at d ≡ to) → option_map (λ d. Jal link d ∷ []) found ≡ Some is → Goes to link at 4 is
unfolding past
near_by None link at to is reaches found = absurd cc
near_by (Some d) link at to is reaches found =
    let lists : is ≡ Jal link d ∷ [] = some_same _ _ (sym found) in
    record { transfer = Near d (reaches d refl) lists; past_is = ap (past at) lists }

distance_by : (test : Bool) (from to : ℕ) (d : ℤ) → cond test (Some (pos to -ℤ pos from)) None ≡ Some d → pos to -ℤ pos from ≡ d
distance_by true from to d is = some_same _ _ is
distance_by false from to d is = absurd cc

distance_is : (reach from to : ℕ) (d : ℤ) → from < 2 ^ 31 → to < 2 ^ 31 → distance_within reach from to ≡ Some d → offset_from from d ≡ to
unfolding distance_within
distance_is reach from to d is_from is_to is =
    ap (offset_from from) (sym (distance_by (reaches reach from to && nat_eq (from % 2) (to % 2)) from to d is)) ∙ distance_reaches from to is_from is_to

near_goes : (link at to : ℕ) (is : List Instr) → at < 2 ^ 31 → to < 2 ^ 31 → option_map (λ d. Jal link d ∷ []) (distance_within 1048576 at to) ≡ Some is → Goes to link at 4 is
near_goes link at to is is_at is_to found =
    near_by (distance_within 1048576 at to) link at to is (λ d there. distance_is 1048576 at to d is_at is_to there) found

far_goes : (link at to : ℕ) → Reachable to → Goes to link at 8 (go_by_register link to)
unfolding past
far_goes link at to reachable =
    let low = reachable.low in
    let whole = reachable.whole in
    let half : to / 2 * 2 ≡ to = omega arith in
    record {
      transfer = Far (high_of to) (low_of to) (ap (λ n. n / 2 * 2) (parts_joined to (omega arith)) ∙ half) refl;
      past_is = omega arith;
    }

direct_goes : (link at to : ℕ) (is : List Instr) → at < 2 ^ 31 → Reachable to → jump_code DirectReach link at to ≡ Some is → Goes to link at 4 is
unfolding jump_code
direct_goes link at to is is_at reachable found = near_goes link at to is is_at reachable.low found

register_goes : (link at to : ℕ) (is : List Instr) → Reachable to → jump_code ByRegister link at to ≡ Some is → Goes to link at 8 is
unfolding jump_code
register_goes link at to is reachable found = subst (λ is. Goes to link at 8 is) (some_same _ _ found) (far_goes link at to reachable)

pub transfers : (reach : Reach) (link at to : ℕ) (is : List Instr) → at < 2 ^ 31 → Reachable to → jump_code reach link at to ≡ Some is → Transfer to link at is
unfolding jump_code
transfers DirectReach link at to is is_at reachable found = (near_goes link at to is is_at reachable.low found).transfer
transfers OverJump link at to is is_at reachable found = (near_goes link at to is is_at reachable.low found).transfer
transfers ByRegister link at to is is_at reachable found = (register_goes link at to is reachable found).transfer

-- ---- choices

opposite_same : (op : BranchOp) → opposite_of op ≡ opposite op
unfolding opposite_of
opposite_same Beq = refl
opposite_same Bne = refl
opposite_same Blt = refl
opposite_same Bge = refl
opposite_same Bltu = refl
opposite_same Bgeu = refl

direct_by : (found : Option ℤ) (op : BranchOp) (left right at to : ℕ) (is : List Instr) → ((d : ℤ) → found ≡ Some d → offset_from at d ≡ to) → option_map (λ d. Branch op left right d ∷ []) found ≡ Some is → Choice to op left right at is
direct_by None op left right at to is reaches found = absurd cc
direct_by (Some d) op left right at to is reaches found = Direct d (reaches d refl) (some_same _ _ (sym found))

record Behind (first : Instr) (rest : Option (List Instr)) (is : List Instr) : Type 0 where
  more : List Instr
  is_rest : rest ≡ Some more
  lists : is ≡ first ∷ more

behind_first : (first : Instr) (rest : Option (List Instr)) (is : List Instr) → then_code (Some (first ∷ [])) rest ≡ Some is → Behind first rest is
behind_first first None is found = absurd cc
behind_first first (Some more) is found = record { more = more; is_rest = refl; lists = some_same _ _ (sym found) }

over : (op : BranchOp) (left right at to size : ℕ) (more is : List Instr) → at + 4 + size < 2 ^ 31 → Goes to 0 (at + 4) size more → is ≡ Branch (opposite_of op) left right (pos (4 + size)) ∷ more → Choice to op left right at is
over op left right at to size more is small goes lists =
    let sum : at + (4 + size) ≡ at + 4 + size = omega arith in
    Over more (pos (4 + size)) goes.transfer (ahead at (4 + size) (omega arith) ∙ sum ∙ sym goes.past_is) (lists ∙ ap (λ op. Branch op left right (pos (4 + size)) ∷ more) (opposite_same op))

pub chooses : (reach : Reach) (op : BranchOp) (left right at to : ℕ) (is : List Instr) → at < 2 ^ 30 → Reachable to → branch_code reach op left right at to ≡ Some is → Choice to op left right at is
unfolding branch_code
chooses DirectReach op left right at to is is_at reachable found =
    direct_by (distance_within 4096 at to) op left right at to is (λ d there. distance_is 4096 at to d (omega arith) reachable.low there) found
chooses OverJump op left right at to is is_at reachable found =
    let b = behind_first (Branch (opposite_of op) left right (pos 8)) (jump_code DirectReach 0 (at + 4) to) is found in
    over op left right at to 4 b.more is (omega arith) (direct_goes 0 (at + 4) to b.more (omega arith) reachable b.is_rest) b.lists
chooses ByRegister op left right at to is is_at reachable found =
    let b = behind_first (Branch (opposite_of op) left right (pos 12)) (jump_code ByRegister 0 (at + 4) to) is found in
    over op left right at to 8 b.more is (omega arith) (register_goes 0 (at + 4) to b.more reachable b.is_rest) b.lists

-- ---- items

-- what the addresses of a program have to be
pub record Targets (layout : Layout) (addresses : Addresses) : Type 0 where
  pub heads : (r to : ℕ) → head_in addresses.routines r ≡ Some to → Reachable to
  pub blocks : (r b to : ℕ) → block_in addresses.routines r b ≡ Some to → Reachable to
  pub symbols : (symbol : Symbol) (to : ℕ) → symbol_address layout addresses symbol ≡ Some to → to < 2 ^ 32

-- code that waits for an address has got one
known_is : {P : ℕ → Type 0} (f : ℕ → Option (List Instr)) (found : Option ℕ) (is : List Instr) → ((to : ℕ) → found ≡ Some to → f to ≡ Some is → P to) → code_at f found ≡ Some is → P (or_zero found)
known_is f None is leads at = absurd cc
known_is f (Some to) is leads at = leads to refl at

loads : (rd to : ℕ) (is : List Instr) → to < 2 ^ 32 → Some (set_address rd to) ≡ Some is → Loading to rd is
loads rd to is fits found = InTwo (high_of to) (low_of to) (parts_joined to fits) (some_same _ _ (sym found))

module _ (layout : Layout) (addresses : Addresses) (code : List Instr) (targets : Targets layout addresses) where
  pub expands : (r : ℕ) (spot : Spot) (item : Item) (is : List Instr) → spot.address < 2 ^ 30 → item_code layout addresses r spot item ≡ Some is → Expands (placing_by layout addresses code) r spot.address item is
  unfolding Expands item_code
  expands r spot (Plain i) is low found = some_same _ _ (sym found)
  expands r spot (Address rd symbol) is low found =
      known_is {P = λ to. Loading to rd is} (λ to. Some (set_address rd to)) (symbol_address layout addresses symbol) is (λ to at there. loads rd to is (targets.symbols symbol to at) there) found
  expands r spot (BranchItem op left right block) is low found =
      let reach = reach_of addresses.known r spot.longest (BranchItem op left right block) in
      known_is {P = λ to. Choice to op left right spot.address is} (branch_code reach op left right spot.address) (block_in addresses.routines r block.0) is (λ to at there. chooses reach op left right spot.address to is low (targets.blocks r block.0 to at) there) found
  expands r spot (JumpItem block) is low found =
      let reach = reach_of addresses.known r spot.longest (JumpItem block) in
      known_is {P = λ to. Transfer to 0 spot.address is} (jump_code reach 0 spot.address) (block_in addresses.routines r block.0) is (λ to at there. transfers reach 0 spot.address to is (omega arith) (targets.blocks r block.0 to at) there) found
  expands r spot (CallItem routine landing) is low found =
      let reach = reach_of addresses.known r spot.longest (CallItem routine landing) in
      known_is {P = λ to. Transfer to 1 spot.address is} (jump_code reach 1 spot.address) (head_in addresses.routines routine.0) is (λ to at there. transfers reach 1 spot.address to is (omega arith) (targets.heads routine.0 to at) there) found
  expands r spot (CallAtItem landing) is low found = some_same _ _ (sym found)
