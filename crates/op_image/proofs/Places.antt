-- The addresses of routines and blocks lie within the code, and those of symbols are words.
use Rattle.std.proofs.Common.{◌≡◌, ℕ, zero, suc, ◌+◌, ◌%◌, ◌^◌, ◌<◌, ◌≤◌, Bool, true, false, cond, nat_lt, Option, Some, None, List, [], ◌∷◌, slice_get, refl, ap, sym, subst, ◌∙◌, arith}
use Rattle.std.proofs.lemmas.Bool.{ltb-true}
use Rattle.std.specs.Option.{option_map, option_map_or}
use Rattle.op_layout.specs.declared.layout.Layout.{Layout}
use Rattle.op_link.proofs.Growth.{Grows, blocks_grow, items_grow, routine_grows, routines_grow}
use Rattle.op_link.proofs.Lengths.{some_same}
use Rattle.op_link.specs.Code.{address_at, address_of_place, symbol_address}
use Rattle.op_link.specs.Linking.{addresses_of, linked_size_by, sizes_of}
use Rattle.op_link.specs.Loaded.{addresses_by, sizes_by}
use Rattle.op_link.proofs.GlobalPlaces.{behind_there, globals_least, in_own, in_zeros}
use Rattle.op_link.specs.Memory.{addresses_from, begin_of, begins_as_zero, behind_global, behind_globals, constants_address, globals_address, initial_size, zero_size}
use Rattle.op_link.specs.Placing.{behind_items, behind_blocks, behind_routine, behind_routines, block_addresses, first_spot, placement_by, routine_place, routine_places}
use Rattle.op_link.specs.Reach.{block_in, head_in}
use Rattle.op_link.specs.declared.place.RoutinePlace.{RoutinePlace}
use Rattle.op_link.specs.declared.place.Spot.{Spot}
use Rattle.op_rv.specs.declared.objects.GlobalVariable.{GlobalVariable}
use Rattle.op_rv.specs.declared.objects.ObjectBlock.{ObjectBlock}
use Rattle.op_rv.specs.declared.objects.ObjectRoutine.{ObjectRoutine}
use Rattle.op_rv.specs.declared.objects.Objects.{Objects}
use Rattle.op_rv.specs.declared.symbol.Symbol.{Symbol}
use Rattle.op_rv.specs.declared.symbol.Symbol.TheVariants.{Literal, Table, Descriptor, Global, Routine}
use Rattle.op_image.proofs.Expanding.{Reachable, Targets}

-- ---- code goes on by whole words

pub record Rises (from to : ℕ) : Type 0 where
  pub under : from ≤ to
  pub whole : to % 4 ≡ from % 4

rises_none : (a : ℕ) → Rises a a
rises_none a = record { under = omega arith; whole = refl }

rises_join : (a b c : ℕ) → Rises a b → Rises b c → Rises a c
rises_join a b c first second =
    let u = first.under in
    let v = second.under in
    record { under = omega arith; whole = second.whole ∙ first.whole }

rises_of : {from to items : ℕ} → Grows from to items → Rises from to
rises_of grows =
    let least = grows.least in
    record { under = omega arith; whole = grows.whole }

-- ---- what lies in between

pub record Lies (from to at : ℕ) : Type 0 where
  pub lower : Rises from at
  pub upper : Rises at to

lies_further : (a b c d at : ℕ) → Rises a b → Rises c d → Lies b c at → Lies a d at
lies_further a b c d at front rest lies =
    record { lower = rises_join a b at front lies.lower; upper = rises_join at c d lies.upper rest }

block_lies : (known : List RoutinePlace) (r : ℕ) (spot : Spot) (blocks : List ObjectBlock) (b at : ℕ) → slice_get (block_addresses known r spot blocks) b ≡ Some at → Lies spot.address (behind_blocks known r spot blocks).address at
block_lies known r spot [] b at is = absurd cc
block_lies known r spot (block ∷ blocks) zero at is =
    subst (Lies spot.address (behind_blocks known r spot (block ∷ blocks)).address) (some_same spot.address at is) (record { lower = rises_none spot.address; upper = rises_of (blocks_grow known r spot (block ∷ blocks)) })
block_lies known r spot (block ∷ blocks) (suc b) at is =
    let next = behind_items known r spot block.items in
    let end = (behind_blocks known r next blocks).address in
    lies_further spot.address next.address end end at (rises_of (items_grow known r spot block.items)) (rises_none end) (block_lies known r next blocks b at is)

-- the head of a place lies there, and each of its blocks
pub record PlaceLies (from to : ℕ) (place : RoutinePlace) : Type 0 where
  pub head : Lies from to place.head
  pub blocks : (b at : ℕ) → slice_get place.blocks b ≡ Some at → Lies from to at

place_lies : (known : List RoutinePlace) (r : ℕ) (spot : Spot) (routine : ObjectRoutine) → PlaceLies spot.address (behind_routine known r spot routine).address (routine_place known r spot routine)
unfolding routine_place
place_lies known r spot routine =
    let end = (behind_routine known r spot routine).address in
    record {
      head = record { lower = rises_none spot.address; upper = rises_of (routine_grows known r spot routine) };
      blocks = λ b at is. lies_further spot.address (behind_items known r spot routine.head).address end end at (rises_of (items_grow known r spot routine.head)) (rises_none end) (block_lies known r (behind_items known r spot routine.head) routine.blocks b at is);
    }

place_further : (a b c d : ℕ) (place : RoutinePlace) → Rises a b → Rises c d → PlaceLies b c place → PlaceLies a d place
place_further a b c d place front rest lies =
    record {
      head = lies_further a b c d place.head front rest lies.head;
      blocks = λ n at is. lies_further a b c d at front rest (lies.blocks n at is);
    }

pub places_lie : (known : List RoutinePlace) (r : ℕ) (spot : Spot) (routines : List ObjectRoutine) (k : ℕ) (place : RoutinePlace) → slice_get (routine_places known r spot routines) k ≡ Some place → PlaceLies spot.address (behind_routines known r spot routines).address place
places_lie known r spot [] k place is = absurd cc
places_lie known r spot (routine ∷ routines) zero place is =
    let next = behind_routine known r spot routine in
    let end = (behind_routines known (suc r) next routines).address in
    subst (PlaceLies spot.address end) (some_same (routine_place known r spot routine) place is) (place_further spot.address spot.address next.address end (routine_place known r spot routine) (rises_none spot.address) (rises_of (routines_grow known (suc r) next routines)) (place_lies known r spot routine))
places_lie known r spot (routine ∷ routines) (suc k) place is =
    let next = behind_routine known r spot routine in
    let end = (behind_routines known (suc r) next routines).address in
    place_further spot.address next.address end end place (rises_of (routine_grows known r spot routine)) (rises_none end) (places_lie known (suc r) next routines k place is)

-- ---- symbols

offset_fits : (test : Bool) (n to : ℕ) → nat_lt n (2 ^ 32) ≡ test → cond test (Some n) None ≡ Some to → to < 2 ^ 32
offset_fits true n to is found = subst (λ to. to < 2 ^ 32) (some_same n to found) (ltb-true n (2 ^ 32) is)
offset_fits false n to is found = absurd cc

place_fits : (base : ℕ) (offset : Option ℕ) (to : ℕ) → address_of_place base offset ≡ Some to → to < 2 ^ 32
unfolding address_at
place_fits base None to found = absurd cc
place_fits base (Some offset) to found = offset_fits (nat_lt (base + offset) (2 ^ 32)) (base + offset) to refl found

global_fits : (start own other : ℕ) (globals : List GlobalVariable) (k to most : ℕ) → start + behind_globals false own globals ≤ most → start + behind_globals true other globals ≤ most → slice_get (addresses_from start own other globals) k ≡ Some to → to ≤ most
global_fits start own other [] k to most first second is = absurd cc
global_fits start own other (global ∷ globals) zero to most first second is = subst (λ to. to ≤ most) (some_same _ to is) (by (begins_as_zero global) refl)
  where
    by : (b : Bool) → begins_as_zero global ≡ b → start + begin_of (cond b other own) global ≤ most
    by true zeros = let there = behind_there true other global (in_zeros global true zeros) in let rest = globals_least true (behind_global true other global) globals in omega arith
    by false own_bytes = let there = behind_there false own global (in_own global false own_bytes) in let rest = globals_least false (behind_global false own global) globals in omega arith
global_fits start own other (global ∷ globals) (suc k) to most first second is =
    global_fits start (behind_global false own global) (behind_global true other global) globals k to most first second is

-- ---- a program

head_by : (known places : List RoutinePlace) (found : Option RoutinePlace) (from to at : ℕ) → ((place : RoutinePlace) → found ≡ Some place → PlaceLies from to place) → option_map (λ (place : RoutinePlace). place.head) found ≡ Some at → Lies from to at
head_by known places None from to at lie is = absurd cc
head_by known places (Some place) from to at lie is = subst (Lies from to) (some_same place.head at is) (lie place refl).head

block_by : (b : ℕ) (found : Option RoutinePlace) (from to at : ℕ) → ((place : RoutinePlace) → found ≡ Some place → PlaceLies from to place) → option_map_or (λ (place : RoutinePlace). slice_get place.blocks b) found None ≡ Some at → Lies from to at
block_by b None from to at lie is = absurd cc
block_by b (Some place) from to at lie is = (lie place refl).blocks b at is

module _ (known : List RoutinePlace) (layout : Layout) (objects : Objects) (within : linked_size_by known layout objects ≤ 67108864) (few : zero_size objects.globals ≤ 15728640) where
  end_is_low : (behind_routines known 0 first_spot objects.routines).address ≤ 0x00010000 + 67108864
  unfolding linked_size_by sizes_of placement_by
  end_is_low = omega arith

  reachable : (at : ℕ) → Lies 0x00010048 (behind_routines known 0 first_spot objects.routines).address at → Reachable at
  reachable at lies =
      let end = end_is_low in
      let upper = lies.upper.under in
      let whole = lies.lower.whole in
      record { low = omega arith; whole = omega arith }

  routines_are : (addresses_by known layout objects).routines ≡ routine_places known 0 first_spot objects.routines
  unfolding addresses_by addresses_of placement_by
  routines_are = refl

  head_lies : (r at : ℕ) → head_in (addresses_by known layout objects).routines r ≡ Some at → Reachable at
  unfolding head_in
  head_lies r at is =
      reachable at (head_by known [] (slice_get (routine_places known 0 first_spot objects.routines) r) 0x00010048 (behind_routines known 0 first_spot objects.routines).address at (places_lie known 0 first_spot objects.routines r) (ap (λ (places : List RoutinePlace). option_map (λ (place : RoutinePlace). place.head) (slice_get places r)) (sym routines_are) ∙ is))

  block_is_there : (r b at : ℕ) → block_in (addresses_by known layout objects).routines r b ≡ Some at → Reachable at
  unfolding block_in
  block_is_there r b at is =
      reachable at (block_by b (slice_get (routine_places known 0 first_spot objects.routines) r) 0x00010048 (behind_routines known 0 first_spot objects.routines).address at (places_lie known 0 first_spot objects.routines r) (ap (λ (places : List RoutinePlace). option_map_or (λ (place : RoutinePlace). slice_get place.blocks b) (slice_get places r) None) (sym routines_are) ∙ is))

  globals_low : globals_address (sizes_by known layout objects) + initial_size objects.globals + zero_size objects.globals < 2 ^ 32
  unfolding linked_size_by sizes_by sizes_of globals_address constants_address
  globals_low = omega arith

  global_is_there : (k at : ℕ) → slice_get (addresses_by known layout objects).globals k ≡ Some at → at < 2 ^ 32
  unfolding addresses_by addresses_of sizes_by sizes_of
  global_is_there k at is =
      let low = globals_low in
      let first = globals_address (sizes_by known layout objects) in
      let most = first + initial_size objects.globals + zero_size objects.globals in
      let more = globals_least true (initial_size objects.globals) objects.globals in
      let at_most : at ≤ most = global_fits first 0 (initial_size objects.globals) objects.globals k at most (omega arith) (omega arith) is in
      omega arith

  symbol_is_there : (symbol : Symbol) (at : ℕ) → symbol_address layout (addresses_by known layout objects) symbol ≡ Some at → at < 2 ^ 32
  unfolding symbol_address
  symbol_is_there (Literal id) at is = place_fits (addresses_by known layout objects).constants (option_map (λ place. place.offset) (slice_get layout.literals id.0)) at is
  symbol_is_there (Table id) at is = place_fits (addresses_by known layout objects).constants (slice_get layout.tables id.0) at is
  symbol_is_there (Descriptor id) at is = place_fits (addresses_by known layout objects).constants (slice_get layout.descriptors id.0) at is
  symbol_is_there (Global id) at is = global_is_there id.0 at is
  symbol_is_there (Routine id) at is = (let r = head_lies id.0 at is in let low = r.low in omega arith)

  pub targets_reached : Targets layout (addresses_by known layout objects)
  targets_reached = record { heads = head_lies; blocks = block_is_there; symbols = symbol_is_there }
