-- Each item of linked code stands where its placement says.
use Rattle.std.proofs.Common.{◌≡◌, ◌<◌, ℕ, zero, suc, ◌+◌, ◌*◌, Option, Some, None, List, [], ◌∷◌, ◌++◌, length, slice_get, refl, ap, sym, ◌∙◌, subst, arith, append_assoc, append-nil, length-append}
use Rattle.std.specs.Option.{option_map, option_map_or}
use Rattle.op_layout.specs.declared.layout.Layout.{Layout}
use Rattle.op_rv.specs.declared.instruction.Instr.{Instr}
use Rattle.op_rv.specs.declared.objects.Item.{Item}
use Rattle.op_rv.specs.declared.objects.ObjectBlock.{ObjectBlock}
use Rattle.op_rv.specs.declared.objects.ObjectRoutine.{ObjectRoutine}
use Rattle.op_rv.specs.declared.objects.Objects.{Objects}
use Rattle.op_link.specs.declared.addresses.Addresses.{Addresses}
use Rattle.op_link.specs.declared.memory_map.Settings.{Settings}
use Rattle.op_link.specs.declared.place.RoutinePlace.{RoutinePlace}
use Rattle.op_link.specs.declared.place.Spot.{Spot}
use Rattle.op_link.specs.Code.{then_code, code_at, item_code, items_code, blocks_code, routine_code, routines_code}
use Rattle.op_link.specs.Linking.{program_code, start_code}
use Rattle.op_link.specs.Placing.{behind, behind_items, behind_routine, block_addresses, routine_place, routine_places, first_spot}
use Rattle.op_link.specs.Reach.{block_in, head_in}
use Rattle.op_link.specs.Standing.{StandsAt, ItemsStand, RoutineStands, AllStand}
use Rattle.op_link.proofs.Lengths.{item_ends_at, items_end_at, routine_ends_at, some_same}

-- ---- joined code

record Both (a b : Option (List Instr)) (code : List Instr) : Type 0 where
  first : List Instr
  rest : List Instr
  is_first : a ≡ Some first
  is_rest : b ≡ Some rest
  joined : code ≡ first ++ rest

both : (a b : Option (List Instr)) (code : List Instr) → then_code a b ≡ Some code → Both a b code
both None b code is = absurd (cc)
both (Some a) None code is = absurd (cc)
both (Some a) (Some b) code is =
    record { first = a; rest = b; is_first = refl; is_rest = refl; joined = some_same code (a ++ b) (sym is) }

first_stands : (code : List Instr) (at : ℕ) (a b is : List Instr) → is ≡ a ++ b → StandsAt code at is → StandsAt code at a
first_stands code at a b is joined stands =
    record {
      before = stands.before;
      after = b ++ stands.after;
      whole = stands.whole ∙ ap (λ is. stands.before ++ (is ++ stands.after)) joined ∙ ap (λ more. stands.before ++ more) (append_assoc a b stands.after);
      place = stands.place;
    }

rest_stands : (code : List Instr) (at to : ℕ) (a b is : List Instr) → is ≡ a ++ b → at + 4 * length a ≡ to → StandsAt code at is → StandsAt code to b
rest_stands code at to a b is joined end stands =
    record {
      before = stands.before ++ a;
      after = stands.after;
      whole = stands.whole ∙ ap (λ is. stands.before ++ (is ++ stands.after)) joined ∙ ap (λ more. stands.before ++ more) (append_assoc a b stands.after) ∙ sym (append_assoc stands.before a (b ++ stands.after));
      place = (let place = stands.place in let long = length-append stands.before a in omega (arith, place, long, end));
    }

-- ---- items and blocks

items_stand : (code : List Instr) (layout : Layout) (addresses : Addresses) (r : ℕ) (spot : Spot) (items : List Item) (is : List Instr) → items_code layout addresses r spot items ≡ Some is → StandsAt code spot.address is → ItemsStand code layout addresses r spot items
items_stand code layout addresses r spot [] is found stands = tt
items_stand code layout addresses r spot (item ∷ items) is found stands =
    let parts = both (item_code layout addresses r spot item) (items_code layout addresses r (behind addresses.known r spot item) items) is found in
    (record { words = parts.first; is = parts.is_first; stands = first_stands code spot.address parts.first parts.rest is parts.joined stands }, items_stand code layout addresses r (behind addresses.known r spot item) items parts.rest parts.is_rest (rest_stands code spot.address (behind addresses.known r spot item).address parts.first parts.rest is parts.joined (item_ends_at layout addresses r spot item parts.first parts.is_first) stands))

-- a block of those that stand from a spot on
record AmongBlocks (code : List Instr) (layout : Layout) (addresses : Addresses) (r : ℕ) (places : List ℕ) (b : ℕ) (block : ObjectBlock) : Type 0 where
  spot : Spot
  address : slice_get places b ≡ Some spot.address
  items : ItemsStand code layout addresses r spot block.items

blocks_stand : (code : List Instr) (layout : Layout) (addresses : Addresses) (r : ℕ) (spot : Spot) (blocks : List ObjectBlock) (is : List Instr) → blocks_code layout addresses r spot blocks ≡ Some is → StandsAt code spot.address is → (b : ℕ) (block : ObjectBlock) → slice_get blocks b ≡ Some block → AmongBlocks code layout addresses r (block_addresses addresses.known r spot blocks) b block
blocks_stand code layout addresses r spot [] is found stands b block at = absurd (cc)
blocks_stand code layout addresses r spot (first ∷ blocks) is found stands zero block at =
    let parts = both (items_code layout addresses r spot first.items) (blocks_code layout addresses r (behind_items addresses.known r spot first.items) blocks) is found in
    let items = items_stand code layout addresses r spot first.items parts.first parts.is_first (first_stands code spot.address parts.first parts.rest is parts.joined stands) in
    record {
      spot = spot;
      address = refl;
      items = subst (λ (block : ObjectBlock). ItemsStand code layout addresses r spot block.items) (some_same first block at) items;
    }
blocks_stand code layout addresses r spot (first ∷ blocks) is found stands (suc b) block at =
    let next = behind_items addresses.known r spot first.items in
    let parts = both (items_code layout addresses r spot first.items) (blocks_code layout addresses r next blocks) is found in
    let other = blocks_stand code layout addresses r next blocks parts.rest parts.is_rest (rest_stands code spot.address next.address parts.first parts.rest is parts.joined (items_end_at layout addresses r spot first.items parts.first parts.is_first) stands) b block at in
    record { spot = other.spot; address = other.address; items = other.items }

-- ---- routines

-- the routine n, the one at k of those that stand from a spot on
record AmongRoutines (code : List Instr) (layout : Layout) (addresses : Addresses) (places : List RoutinePlace) (k n : ℕ) (routine : ObjectRoutine) : Type 0 where
  spot : Spot
  place : slice_get places k ≡ Some (routine_place addresses.known n spot routine)
  words : List Instr
  is : routine_code layout addresses n spot routine ≡ Some words
  stands : StandsAt code spot.address words

routines_stand : (code : List Instr) (layout : Layout) (addresses : Addresses) (r : ℕ) (spot : Spot) (routines : List ObjectRoutine) (is : List Instr) → routines_code layout addresses r spot routines ≡ Some is → StandsAt code spot.address is → (k n : ℕ) (routine : ObjectRoutine) → r + k ≡ n → slice_get routines k ≡ Some routine → AmongRoutines code layout addresses (routine_places addresses.known r spot routines) k n routine
routines_stand code layout addresses r spot [] is found stands k n routine count at = absurd (cc)
routines_stand code layout addresses r spot (first ∷ routines) is found stands zero n routine count at =
    let places = routine_places addresses.known r spot (first ∷ routines) in
    let parts = both (routine_code layout addresses r spot first) (routines_code layout addresses (suc r) (behind_routine addresses.known r spot first) routines) is found in
    let here : AmongRoutines code layout addresses places zero r first = record {
      spot = spot;
      place = refl;
      words = parts.first;
      is = parts.is_first;
      stands = first_stands code spot.address parts.first parts.rest is parts.joined stands;
    } in
    let same : r ≡ n = omega (arith, count) in
    subst (λ (n : ℕ). AmongRoutines code layout addresses places zero n routine) same (subst (λ (routine : ObjectRoutine). AmongRoutines code layout addresses places zero r routine) (some_same first routine at) here)
routines_stand code layout addresses r spot (first ∷ routines) is found stands (suc k) n routine count at =
    let next = behind_routine addresses.known r spot first in
    let parts = both (routine_code layout addresses r spot first) (routines_code layout addresses (suc r) next routines) is found in
    let end = routine_ends_at layout addresses r spot first parts.first parts.is_first in
    let moved : suc r + k ≡ n = omega (arith, count) in
    let other = routines_stand code layout addresses (suc r) next routines parts.rest parts.is_rest (rest_stands code spot.address next.address parts.first parts.rest is parts.joined end stands) k n routine moved at in
    record {
      spot = other.spot;
      place = other.place;
      words = other.words;
      is = other.is;
      stands = other.stands;
    }

-- the addresses of a routine that stands among those that have addresses
head_is : (known places : List RoutinePlace) (r : ℕ) (spot : Spot) (routine : ObjectRoutine) → slice_get places r ≡ Some (routine_place known r spot routine) → head_in places r ≡ Some spot.address
unfolding head_in routine_place
head_is known places r spot routine is = ap (option_map (λ (place : RoutinePlace). place.head)) is

block_is : (known places : List RoutinePlace) (r b : ℕ) (spot : Spot) (routine : ObjectRoutine) → slice_get places r ≡ Some (routine_place known r spot routine) → block_in places r b ≡ slice_get (block_addresses known r (behind_items known r spot routine.head) routine.blocks) b
unfolding block_in routine_place
block_is known places r b spot routine is =
    ap (λ (found : Option RoutinePlace). option_map_or (λ (place : RoutinePlace). slice_get place.blocks b) found None) is

first_block : (known : List RoutinePlace) (r : ℕ) (spot : Spot) (blocks : List ObjectBlock) → 0 < length blocks → slice_get (block_addresses known r spot blocks) 0 ≡ Some spot.address
first_block known r spot [] some = absurd (let none : ⊥ = omega (arith, some) in none)
first_block known r spot (block ∷ blocks) some = refl

routine_stands : (code : List Instr) (layout : Layout) (addresses : Addresses) (r : ℕ) (routine : ObjectRoutine) → AmongRoutines code layout addresses addresses.routines r r routine → RoutineStands code layout addresses r routine
routine_stands code layout addresses r routine among =
    let known = addresses.known in
    let spot = among.spot in
    let next = behind_items known r spot routine.head in
    let parts = both (items_code layout addresses r spot routine.head) (blocks_code layout addresses r next routine.blocks) among.words among.is in
    let head = items_stand code layout addresses r spot routine.head parts.first parts.is_first (first_stands code spot.address parts.first parts.rest among.words parts.joined among.stands) in
    let blocks = blocks_stand code layout addresses r next routine.blocks parts.rest parts.is_rest (rest_stands code spot.address next.address parts.first parts.rest among.words parts.joined (items_end_at layout addresses r spot routine.head parts.first parts.is_first) among.stands) in
    record {
      spot = spot;
      address = head_is known addresses.routines r spot routine among.place;
      head = head;
      into = λ some. block_is known addresses.routines r 0 spot routine among.place ∙ first_block known r next routine.blocks some;
      blocks = λ b block at. let found = blocks b block at in record { spot = found.spot; address = block_is known addresses.routines r b spot routine among.place ∙ found.address; items = found.items };
    }

-- ---- the program

record Begun (found : Option ℕ) (f : ℕ → Option (List Instr)) (code : List Instr) : Type 0 where
  to : ℕ
  is : f to ≡ Some code

begun : (found : Option ℕ) (f : ℕ → Option (List Instr)) (code : List Instr) → code_at f found ≡ Some code → Begun found f code
begun None f code is = absurd (cc)
begun (Some to) f code is = record { to = to; is = is }

whole_stands : (code : List Instr) → StandsAt code 0x00010000 code
whole_stands code = record { before = []; after = []; whole = sym (append-nil code); place = refl }

pub all_stand : (code : List Instr) (layout : Layout) (addresses : Addresses) (settings : Settings) (objects : Objects) → addresses.routines ≡ routine_places addresses.known 0 first_spot objects.routines → program_code layout addresses settings objects ≡ Some code → AllStand code layout addresses objects.routines
unfolding program_code
all_stand code layout addresses settings objects places is =
    let start = begun (head_in addresses.routines objects.entry.0) _ code is in
    let parts = both (Some (start_code settings start.to)) (routines_code layout addresses 0 first_spot objects.routines) code start.is in
    let start_bytes : 4 * length parts.first ≡ 72 = ap (λ (first : List Instr). 4 * length first) (sym (some_same (start_code settings start.to) parts.first parts.is_first)) in
    let stands = rest_stands code 0x00010000 0x00010048 parts.first parts.rest code parts.joined (omega (arith, start_bytes)) (whole_stands code) in
    λ r routine at. let count : 0 + r ≡ r = omega arith in routine_stands code layout addresses r routine (subst (λ (places : List RoutinePlace). AmongRoutines code layout addresses places r r routine) (sym places) (routines_stand code layout addresses 0 first_spot objects.routines parts.rest parts.is_rest stands r r routine count at))
