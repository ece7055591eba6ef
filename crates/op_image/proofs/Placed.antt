-- A linked image is a setting of its low code.
use Rattle.std.proofs.Common.{◌≡◌, ℕ, suc, ◌+◌, ◌-◌, ◌*◌, ◌^◌, ◌<◌, ◌≤◌, Bool, true, false, cond, nat_eq, nat_lt, Option, Some, None, List, [], ◌∷◌, length, get_or, take, drop, map, slice_get, refl, ap, sym, subst, ◌∙◌, arith, length-append}
use Rattle.std.proofs.lemmas.Bool.{cond-true, eqb-true, leb-true, lt-ltb}
use Rattle.std.proofs.lemmas.List.{get_or-drop, get_or-take, get_or_append_left, length-drop, length-take}
use Rattle.std.specs.Option.{option_map, option_map_or}
use Rattle.op_layout.specs.declared.layout.Layout.{Layout}
use Rattle.op_layout.specs.declared.layout.LiteralPlace.{LiteralPlace}
use Rattle.op_link.proofs.Growth.{code_end}
use Rattle.op_link.proofs.Lengths.{code_end_is, some_same}
use Rattle.op_link.proofs.Loading.{zeros_at_most}
use Rattle.op_link.proofs.Mapped.{in_range, length-constants}
use Rattle.op_link.specs.Code.{address_at, address_of_place, symbol_address, words_of}
use Rattle.op_link.specs.Image.{regions_in}
use Rattle.op_link.specs.Linking.{addresses_of, constants_bytes, entry_word, linked_size, linked_size_by, linked_size_of, program_code, settled, sizes_of, words}
use Rattle.op_link.specs.Loaded.{Decodes, HasCode, HasCodeBy, IsLoaded, addresses_by, linked_sizes, sizes_by}
use Rattle.op_link.specs.Memory.{are_in_range, constants_address, constants_size, control_address, globals_size, heap_address, heap_size, segments_of, zero_size}
use Rattle.op_link.specs.Placing.{items_in_routines, placement_by}
use Rattle.op_link.specs.Reach.{head_in}
use Rattle.op_link.specs.Region.{byte_in}
use Rattle.op_link.specs.Standing.{AllStand}
use Rattle.op_link.specs.declared.addresses.Addresses.{Addresses}
use Rattle.op_link.specs.declared.memory_map.Settings.{Settings}
use Rattle.op_link.specs.declared.place.RoutinePlace.{RoutinePlace}
use Rattle.op_low.specs.State.{routine_or}
use Rattle.op_low.specs.declared.code.Low.{Low}
use Rattle.op_low.specs.declared.code.Routine.{Routine}
use Rattle.op_rv.proofs.Memory.{bytes_there}
use Rattle.op_rv.specs.declared.instruction.Instr.{Instr}
use Rattle.op_rv.specs.declared.objects.ObjectRoutine.{ObjectRoutine}
use Rattle.op_rv.specs.declared.objects.Objects.{Objects}
use Rattle.op_rv.specs.declared.symbol.LiteralId.{LiteralId}
use Rattle.op_rv.specs.declared.symbol.Symbol.TheVariants.{Literal}
use Rattle.op_select.specs.Going.{IsSetting}
use Rattle.op_select.specs.Placing.{StandsObjects}
use Rattle.op_select.specs.Selection.{select_of}
use Rattle.op_image.proofs.Counting.{HasItems, have_items, routines_counted}
use Rattle.op_image.proofs.Expanding.{Targets}
use Rattle.op_image.proofs.HeapBegun.{begun_kept, has_bounds, heap_lies, table_lies}
use Rattle.op_image.proofs.Linkable.{globals_fit, literal_offset, routines_valid, valid_code}
use Rattle.op_image.proofs.Mapped.{byte_of_constants, code_executable, code_fixed, constants_fixed, constants_readable, control_readable, control_writable, control_zero, heap_readable, heap_writable, heap_zero, located, stack_lies, stack_readable, stack_writable}
use Rattle.op_image.proofs.Places.{targets_reached}
use Rattle.op_image.proofs.Standing.{routine_stands}
use Rattle.op_image.specs.Beginning.{begun}
use Rattle.op_image.specs.Building.{is_buildable}
use Rattle.op_image.specs.Meaning.{linked_addresses, linked_code, or_zero, placing_by, routine_from, setting_of}
use Rattle.op_image.specs.Means.{HeapStands, StandsText, literal_bytes}

-- ---- the code

pub record Known (image : List ℕ) (known : List RoutinePlace) (layout : Layout) (objects : Objects) (settings : Settings) (code : List Instr) : Type 0 where
  pub is : program_code layout (addresses_by known layout objects) settings objects ≡ Some code
  pub words : take (sizes_by known layout objects).code (drop 4096 image) ≡ words_of code
  pub decodes : Decodes code
  pub items : AllStand code layout (addresses_by known layout objects) objects.routines

known_code : (image : List ℕ) (known : List RoutinePlace) (layout : Layout) (objects : Objects) (settings : Settings) (has : HasCodeBy known image objects layout settings) → Known image known layout objects settings has.code
known_code image known layout objects settings has = record { is = has.is; words = has.stands; decodes = has.decodes; items = has.items }

pub is_linked_code : (image : List ℕ) (layout : Layout) (objects : Objects) (settings : Settings) → HasCode image objects layout settings → Known image (settled layout objects settings) layout objects settings (linked_code objects layout settings)
is_linked_code image layout objects settings has =
    let known = settled layout objects settings in
    let same : has.code ≡ linked_code objects layout settings = sym (ap (λ found. option_map_or (λ code. code) found []) has.is) in
    subst (Known image known layout objects settings) same (known_code image known layout objects settings has)

-- ---- routines are found where they begin

record FoundFrom (n : ℕ) (places : List RoutinePlace) (at r : ℕ) : Type 0 where
  index : ℕ
  count : n + index ≡ r
  is : option_map (λ (place : RoutinePlace). place.head) (slice_get places index) ≡ Some at

found_by : (n : ℕ) (place : RoutinePlace) (places : List RoutinePlace) (at r : ℕ) (test : Bool) → nat_eq place.head at ≡ test → (routine_from (suc n) places at ≡ Some r → FoundFrom (suc n) places at r) → cond test (Some n) (routine_from (suc n) places at) ≡ Some r → FoundFrom n (place ∷ places) at r
found_by n place places at r true test more is =
    let same : n ≡ r = some_same n r is in
    record { index = 0; count = omega arith; is = ap Some (eqb-true place.head at test) }
found_by n place places at r false test more is =
    let rest = more is in
    let count = rest.count in
    record { index = suc rest.index; count = omega arith; is = rest.is }

found_from : (n : ℕ) (places : List RoutinePlace) (at r : ℕ) → routine_from n places at ≡ Some r → FoundFrom n places at r
found_from n [] at r is = absurd cc
found_from n (place ∷ places) at r is = found_by n place places at r (nat_eq place.head at) refl (found_from (suc n) places at r) is

head_found : (places : List RoutinePlace) (at r : ℕ) → routine_from 0 places at ≡ Some r → at ≡ or_zero (head_in places r)
unfolding head_in
head_found places at r is =
    let found = found_from 0 places at r is in
    let count = found.count in
    let same : found.index ≡ r = omega arith in
    sym (ap or_zero (ap (λ k. option_map (λ (place : RoutinePlace). place.head) (slice_get places k)) (sym same) ∙ found.is))

blocks_by : (low : Low) (found : Option Routine) (most : ℕ) → 0 < most → ((routine : Routine) → found ≡ Some routine → length routine.blocks < most) → length (routine_or found).blocks < most
blocks_by low None most some each = some
blocks_by low (Some routine) most some each = each routine refl

-- ---- a setting

module _ (low : Low) (layout : Layout) (settings : Settings) (image : List ℕ) (buildable : is_buildable low layout ≡ true) (ranged : are_in_range settings ≡ true) (within : linked_size (select_of low) layout settings ≤ 67108864) (loaded : IsLoaded image (segments_of (linked_sizes (select_of low) layout settings) settings)) (has : HasCode image (select_of low) layout settings) where
  objects : Objects
  objects = select_of low

  known : List RoutinePlace
  known = settled layout (select_of low) settings

  addresses : Addresses
  addresses = addresses_by (settled layout (select_of low) settings) layout (select_of low)

  code : List Instr
  code = linked_code (select_of low) layout settings

  pub knows : Known image (settled layout (select_of low) settings) layout (select_of low) settings (linked_code (select_of low) layout settings)
  knows = is_linked_code image layout (select_of low) settings has

  within_by : linked_size_by (settled layout (select_of low) settings) layout (select_of low) ≤ 67108864
  unfolding linked_size
  within_by = within

  end_low : (placement_by (settled layout (select_of low) settings) (select_of low).routines).end ≤ 0x00010000 + 67108864
  unfolding linked_size_by sizes_of
  end_low = (let size = within_by in omega arith)

  pub small : 4 * length (linked_code (select_of low) layout settings) ≤ 67108864
  unfolding addresses_by addresses_of placement_by
  small =
      let end = code_end_is layout (addresses_by (settled layout (select_of low) settings) layout (select_of low)) settings (select_of low) (linked_code (select_of low) layout settings) knows.is in
      let low_end = end_low in
      omega arith

  few : zero_size (select_of low).globals ≤ 15728640
  unfolding select_of
  few =
      let fit = leb-true (globals_size low.globals) 15728640 (globals_fit low layout buildable) in
      let most = zeros_at_most low.globals in
      omega arith

  pub targets : Targets layout (addresses_by (settled layout (select_of low) settings) layout (select_of low))
  targets = targets_reached (settled layout (select_of low) settings) layout (select_of low) within_by few

  pub with_items : (r : ℕ) (routine : ObjectRoutine) → slice_get (select_of low).routines r ≡ Some routine → HasItems routine
  unfolding select_of
  with_items r routine is = have_items low.routines r routine is

  linked : StandsObjects (placing_by layout (linked_addresses (select_of low) layout settings) (linked_code (select_of low) layout settings)) (select_of low)
  unfolding symbol_address
  linked =
      let c = linked_code (select_of low) layout settings in
      let a = addresses_by (settled layout (select_of low) settings) layout (select_of low) in
      record {
        routines = λ r routine is. routine_stands layout a c targets small r routine (with_items r routine is).blocks (knows.items r routine is);
        symbols = λ id there. refl;
        low = λ at i is. (let there = located c at i is in let place = there.place in let before = there.before in let few_words = small in omega arith);
        aligned = λ at i is. (let there = located c at i is in let place = there.place in omega arith);
      }

  few_items : items_in_routines (select_of low).routines ≤ 16777216
  few_items =
      let end = (code_end (settled layout (select_of low) settings) (select_of low).routines).least in
      let low_end = end_low in
      omega arith

  few_blocks : (r : ℕ) → length (routine_or (slice_get low.routines r)).blocks < 2 ^ 32 - 1
  unfolding select_of
  few_blocks r =
      blocks_by low (slice_get low.routines r) (2 ^ 32 - 1) (omega arith) (λ routine is. let count = routines_counted low low.routines r routine (routines_valid low layout buildable) is in let items = few_items in omega arith)

  pub few_zeros : (linked_sizes (select_of low) layout settings).zeros ≤ 15728640
  unfolding sizes_by sizes_of
  few_zeros = few

  pub size_within : linked_size_of (linked_sizes (select_of low) layout settings) ≤ 67108864
  unfolding linked_size_by sizes_by
  size_within = within_by

  -- ---- the literals

  constants_are : (linked_sizes (select_of low) layout settings).constants ≡ constants_size layout
  unfolding sizes_by sizes_of
  constants_are = refl

  literal_address : (id : LiteralId) (place : LiteralPlace) → slice_get layout.literals id.0 ≡ Some place → place.offset ≤ constants_size layout → (setting_of low layout settings image).placing.address (Literal id) ≡ constants_address (linked_sizes (select_of low) layout settings) + place.offset
  unfolding symbol_address address_at addresses_by addresses_of constants_address
  literal_address id place is inside =
      let from = constants_address (linked_sizes (select_of low) layout settings) in
      let size = size_within in
      let laid = constants_are in
      ap (λ found. or_zero (address_of_place from (option_map (λ (place : LiteralPlace). place.offset) found))) is
      ∙ ap or_zero (cond-true (nat_lt (from + place.offset) (2 ^ 32)) (Some (from + place.offset)) None (lt-ltb (from + place.offset) (2 ^ 32) (omega arith)))

  literal_byte : (place : LiteralPlace) (k : ℕ) → k < length (literal_bytes layout place) → byte_in (regions_in image) (constants_address (linked_sizes (select_of low) layout settings) + (place.offset + k)) ≡ get_or (literal_bytes layout place) k 0
  unfolding constants_bytes
  literal_byte place k before =
      let sizes = linked_sizes (select_of low) layout settings in
      let routines = (linked_addresses (select_of low) layout settings).routines in
      let entries = words (map (entry_word routines) layout.entries) in
      let rest = drop place.offset layout.bytes in
      let cut = length-take place.length rest in
      let left = length-drop place.offset layout.bytes in
      let whole = length-append layout.bytes entries in
      byte_of_constants image sizes settings (linked_code (select_of low) layout settings) loaded knows.words ranged size_within few_zeros (constants_bytes layout routines) has.constants (place.offset + k) (omega arith)
      ∙ get_or_append_left layout.bytes entries 0 (place.offset + k) (omega arith)
      ∙ sym (get_or-drop place.offset layout.bytes k 0)
      ∙ sym (get_or-take place.length rest k 0 (omega arith))

  pub literal_stands : (id : LiteralId) (place : LiteralPlace) → slice_get layout.literals id.0 ≡ Some place → StandsText (setting_of low layout settings image) (begun settings image) ((setting_of low layout settings image).placing.address (Literal id)) (literal_bytes layout place)
  unfolding constants_address
  literal_stands id place is =
      let sizes = linked_sizes (select_of low) layout settings in
      let constants = constants_bytes layout (linked_addresses (select_of low) layout settings).routines in
      let inside = leb-true place.offset (constants_size layout) (literal_offset low layout buildable id.0 place is) in
      let rest = drop place.offset layout.bytes in
      let cut = length-take place.length rest in
      let left = length-drop place.offset layout.bytes in
      let whole = length-constants layout (linked_addresses (select_of low) layout settings).routines in
      let size = size_within in
      let laid = constants_are in
      let stack = (stack_lies settings ranged).from in
      let at = constants_address sizes + place.offset in
      subst (λ at. StandsText (setting_of low layout settings image) (begun settings image) at (literal_bytes layout place)) (sym (literal_address id place is inside)) record {
        readable = λ x from before. constants_readable image sizes settings (linked_code (select_of low) layout settings) loaded knows.words ranged size_within few_zeros constants has.constants x (omega arith) (omega arith);
        fixed = λ x from before. constants_fixed image sizes settings (linked_code (select_of low) layout settings) loaded knows.words ranged size_within few_zeros constants has.constants x (omega arith) (omega arith);
        below = omega arith;
        stands = bytes_there (begun settings image) at (literal_bytes layout place) (λ k before.
            let place_of : at + k ≡ constants_address sizes + (place.offset + k) = omega arith in
            begun_kept (byte_in (regions_in image)) (heap_size settings) (1024 * settings.stack) (at + k) (λ from early. omega arith) (λ from early. omega arith)
            ∙ ap (byte_in (regions_in image)) place_of ∙ literal_byte place k before);
      }

  -- ---- the setting

  pub is_setting : IsSetting (setting_of low layout settings image)
  is_setting =
      let sizes = linked_sizes (select_of low) layout settings in
      let c = linked_code (select_of low) layout settings in
      let stack = stack_lies settings ranged in
      record {
        valid = valid_code low layout buildable;
        numbered = few_blocks;
        objects = linked;
        executable = λ at i is x from before.
            let there = located c at i is in
            let place = there.place in
            let index = there.before in
            code_executable image sizes settings c loaded knows.words ranged size_within few_zeros x (omega arith) (omega arith);
        fixed = λ at i is x from before.
            let there = located c at i is in
            let place = there.place in
            let index = there.before in
            code_fixed image sizes settings c loaded knows.words ranged size_within few_zeros x (omega arith) (omega arith);
        readable = λ x from before. stack_readable image sizes settings c loaded knows.words ranged size_within few_zeros x from before;
        writable = λ x from before. stack_writable image sizes settings c loaded knows.words ranged size_within few_zeros x from before;
        low_top = omega arith;
        finds = λ at r is. head_found (addresses_by (settled layout (select_of low) settings) layout (select_of low)).routines at r is;
      }

  -- ---- the control region and the heap

  pub heap_stands : HeapStands (setting_of low layout settings image) (begun settings image) settings image
  heap_stands =
      let sizes = linked_sizes (select_of low) layout settings in
      let c = linked_code (select_of low) layout settings in
      let range = in_range settings ranged in
      let least = range.heap_least in
      let most = range.heap_most in
      let stack_most = range.stack_most in
      let from = (stack_lies settings ranged).from in
      let loaded_memory = byte_in (regions_in image) in
      let clear : (x : ℕ) → control_address ≤ x → x < control_address + 524312 → loaded_memory x ≡ 0 = λ x first before. control_zero image sizes settings c loaded knows.words ranged size_within few_zeros x first before in
      let zeros : (x : ℕ) → heap_address ≤ x → x < heap_address + heap_size settings → loaded_memory x ≡ 0 = λ x first before. heap_zero image sizes settings c loaded knows.words ranged size_within few_zeros x first before in
      record {
        control_readable = λ x first before. control_readable image sizes settings c loaded knows.words ranged size_within few_zeros x first before;
        control_writable = λ x first before. control_writable image sizes settings c loaded knows.words ranged size_within few_zeros x first before;
        heap_readable = λ x first before. heap_readable image sizes settings c loaded knows.words ranged size_within few_zeros x first before;
        heap_writable = λ x first before. heap_writable image sizes settings c loaded knows.words ranged size_within few_zeros x first before;
        below = omega arith;
        lies = heap_lies loaded_memory (heap_size settings) (1024 * settings.stack) (omega arith) (omega arith) (omega arith) (omega arith) clear zeros;
        table = table_lies loaded_memory (heap_size settings) (1024 * settings.stack) (omega arith) (omega arith) (omega arith) (omega arith) clear zeros;
        bounds = has_bounds loaded_memory (heap_size settings) (1024 * settings.stack) (omega arith) (omega arith) (omega arith) (omega arith) clear zeros;
        kept = λ x control heap. begun_kept loaded_memory (heap_size settings) (1024 * settings.stack) x (λ at before. control (omega arith) (omega arith)) (λ at before. heap (omega arith) (omega arith));
      }
