-- The global variables of a linked image.
use Rattle.std.proofs.Common.{◌≡◌, ◌≢◌, ℕ, zero, suc, ◌+◌, ◌-◌, ◌*◌, ◌%◌, ◌<◌, ◌≤◌, inl, inr, le_refl, true, Some, List, [], ◌∷◌, get_or, slice_get, refl, ap, sym, subst, ◌∙◌, arith}
use Rattle.std.proofs.lemmas.List.{get_or_past}
use Rattle.op_layout.specs.declared.layout.Layout.{Layout}
use Rattle.op_link.proofs.GlobalPlaces.{Filled, address_is, global_aligned, global_begins, global_within, globals_apart, globals_least, lies_between, offsets_from}
use Rattle.op_link.proofs.Mapped.{length-initial}
use Rattle.op_link.specs.Code.{symbol_address}
use Rattle.op_link.specs.Image.{regions_in}
use Rattle.op_link.specs.Linking.{addresses_of, linked_size, sizes_of}
use Rattle.op_link.specs.Loaded.{HasCode, IsLoaded, addresses_by, linked_sizes, sizes_by}
use Rattle.op_link.specs.Memory.{LieApart, are_in_range, global_addresses, globals_address, globals_size, heap_size, initial_bytes, initial_size, segments_of, variable_size, zero_size}
use Rattle.op_link.specs.Region.{byte_in}
use Rattle.op_link.specs.declared.memory_map.Settings.{Settings}
use Rattle.op_low.specs.declared.code.Low.{Low}
use Rattle.op_rv.proofs.Memory.{bytes_there}
use Rattle.op_rv.specs.declared.objects.GlobalVariable.{GlobalVariable}
use Rattle.op_rv.specs.declared.symbol.GlobalId.{GlobalId}
use Rattle.op_rv.specs.declared.symbol.Symbol.TheVariants.{Global}
use Rattle.op_select.specs.Selection.{select_of}
use Rattle.op_image.proofs.HeapBegun.{begun_kept}
use Rattle.op_image.proofs.Mapped.{byte_of_globals, globals_end, globals_readable, globals_writable, stack_lies}
use Rattle.op_image.proofs.Placed.{few_zeros, knows, size_within}
use Rattle.op_image.specs.Beginning.{begun}
use Rattle.op_image.specs.Building.{is_buildable}
use Rattle.op_image.specs.Meaning.{linked_code, or_zero, setting_of}
use Rattle.op_image.specs.Means.{GlobalsStand, StandsGlobal}

or_zero_at : (xs : List ℕ) (k : ℕ) → or_zero (slice_get xs k) ≡ get_or xs k 0
or_zero_at [] k = refl
or_zero_at (x ∷ xs) zero = refl
or_zero_at (x ∷ xs) (suc k) = or_zero_at xs k

module _ (low : Low) (layout : Layout) (settings : Settings) (image : List ℕ) (buildable : is_buildable low layout ≡ true) (ranged : are_in_range settings ≡ true) (within : linked_size (select_of low) layout settings ≤ 67108864) (loaded : IsLoaded image (segments_of (linked_sizes (select_of low) layout settings) settings)) (has : HasCode image (select_of low) layout settings) where
  own_size : (linked_sizes (select_of low) layout settings).initial ≡ initial_size low.globals
  unfolding sizes_by sizes_of select_of
  own_size = refl

  zeros_size : (linked_sizes (select_of low) layout settings).zeros ≡ zero_size low.globals
  unfolding sizes_by sizes_of select_of
  zeros_size = refl

  -- ---- the two stretches

  byte_here : (k : ℕ) → k < globals_size low.globals → byte_in (regions_in image) (globals_address (linked_sizes (select_of low) layout settings) + k) ≡ get_or (initial_bytes low.globals) k 0
  unfolding select_of
  byte_here k before =
      let sizes = linked_sizes (select_of low) layout settings in
      let own = own_size in
      let zeros = zeros_size in
      let more = globals_least true (initial_size low.globals) low.globals in
      byte_of_globals image sizes settings (linked_code (select_of low) layout settings) loaded (knows low layout settings image buildable ranged within loaded has).words ranged (size_within low layout settings image buildable ranged within loaded has) (few_zeros low layout settings image buildable ranged within loaded has) (initial_bytes low.globals) has.globals (length-initial low.globals ∙ sym own_size) k (omega arith)

  filled : Filled (byte_in (regions_in image)) (globals_address (linked_sizes (select_of low) layout settings)) 0 (initial_size low.globals) low.globals
  filled =
      let from = globals_address (linked_sizes (select_of low) layout settings) in
      let long = length-initial low.globals in
      let more = globals_least true (initial_size low.globals) low.globals in
      record {
        bytes = λ j before. let place : from + 0 + j ≡ from + j = omega arith in ap (byte_in (regions_in image)) place ∙ byte_here j (omega arith);
        zeros = λ j behind before. byte_here j before ∙ get_or_past (initial_bytes low.globals) j 0 (omega arith);
      }

  -- ---- addresses

  address_at : ℕ → ℕ
  address_at k = get_or (global_addresses (globals_address (linked_sizes (select_of low) layout settings)) low.globals) k 0

  global_address : (id : GlobalId) → (setting_of low layout settings image).placing.address (Global id) ≡ address_at id.0
  unfolding symbol_address addresses_by addresses_of sizes_by sizes_of select_of address_at
  global_address id = or_zero_at (global_addresses (globals_address (linked_sizes (select_of low) layout settings)) low.globals) id.0

  offset_at : ℕ → ℕ
  offset_at k = offsets_from 0 (initial_size low.globals) low.globals k

  at_offset : (k : ℕ) (global : GlobalVariable) → slice_get low.globals k ≡ Some global → address_at k ≡ globals_address (linked_sizes (select_of low) layout settings) + offset_at k
  unfolding address_at offset_at
  at_offset k global is = address_is (globals_address (linked_sizes (select_of low) layout settings)) 0 (initial_size low.globals) low.globals k global is

  from_aligned : globals_address (linked_sizes (select_of low) layout settings) % 4 ≡ 0
  unfolding globals_address
  from_aligned = omega arith

  stands_at : (k : ℕ) (global : GlobalVariable) → slice_get low.globals k ≡ Some global → StandsGlobal (setting_of low layout settings image) (begun settings image) (address_at k) global
  unfolding offset_at select_of
  stands_at k global is =
      let sizes = linked_sizes (select_of low) layout settings in
      let code = linked_code (select_of low) layout settings in
      let from = globals_address sizes in
      let own = own_size in
      let zeros = zeros_size in
      let at = address_at k in
      let there = at_offset k global is in
      let whole = from_aligned in
      let words_known = (knows low layout settings image buildable ranged within loaded has).words in
      let size = size_within low layout settings image buildable ranged within loaded has in
      let few = few_zeros low layout settings image buildable ranged within loaded has in
      let long = length-initial low.globals ∙ sym own_size in
      let more = globals_least true (initial_size low.globals) low.globals in
      let upper : offset_at k + variable_size global ≤ globals_size low.globals = lies_between (initial_size low.globals) (globals_size low.globals) (offset_at k) (variable_size global) more (global_within 0 (initial_size low.globals) low.globals k global is) in
      let aligned = global_aligned 0 (initial_size low.globals) low.globals k global is in
      let end = globals_end image sizes settings code loaded words_known ranged size few in
      let stack = (stack_lies settings ranged).from in
      let begins : (j : ℕ) → j < variable_size global → begun settings image (at + j) ≡ get_or global.initial j 0 =
      λ j before.
      begun_kept (byte_in (regions_in image)) (heap_size settings) (1024 * settings.stack) (at + j) (λ first early. omega arith) (λ first early. omega arith)
      ∙ ap (λ a. byte_in (regions_in image) (a + j)) there ∙ global_begins (byte_in (regions_in image)) from 0 (initial_size low.globals) low.globals k global j filled is before in
      record {
        words = λ some four. let even = aligned.words some four in omega arith;
        halves = λ some two. let even = aligned.halves some two in omega arith;
        readable = λ x first before. globals_readable image sizes settings code loaded words_known ranged size few (initial_bytes low.globals) has.globals long x (omega arith) (omega arith);
        writable = λ x first before. globals_writable image sizes settings code loaded words_known ranged size few (initial_bytes low.globals) has.globals long x (omega arith) (omega arith);
        before_control = omega arith;
        below = omega arith;
        stands = bytes_there (begun settings image) at global.initial (λ j before. begins j (omega arith));
        zeros = λ x behind before.
            let place : x ≡ at + (x - at) = omega arith in
            ap (begun settings image) place ∙ begins (x - at) (omega arith) ∙ get_or_past global.initial (x - at) 0 (omega arith);
      }

  apart_at : (i j : ℕ) (a b : GlobalVariable) → i ≢ j → slice_get low.globals i ≡ Some a → slice_get low.globals j ≡ Some b → LieApart (address_at i) (variable_size a) (address_at j) (variable_size b)
  unfolding offset_at
  apart_at i j a b differ is_a is_b = by (at_offset i a is_a) (at_offset j b is_b) (globals_apart 0 (initial_size low.globals) low.globals i j a b (le_refl _) differ is_a is_b)
    where
      by : address_at i ≡ globals_address (linked_sizes (select_of low) layout settings) + offset_at i → address_at j ≡ globals_address (linked_sizes (select_of low) layout settings) + offset_at j → LieApart (offset_at i) (variable_size a) (offset_at j) (variable_size b) → LieApart (address_at i) (variable_size a) (address_at j) (variable_size b)
      by at_a at_b (inl before) = inl (omega arith)
      by at_a at_b (inr behind) = inr (omega arith)

  pub globals_stand : GlobalsStand (setting_of low layout settings image) (begun settings image)
  globals_stand =
      record {
        each = λ id global is. subst (λ at. StandsGlobal (setting_of low layout settings image) (begun settings image) at global) (sym (global_address id)) (stands_at id.0 global is);
        apart = λ one other a b differ is_a is_b.
            subst (λ at. LieApart at (variable_size a) ((setting_of low layout settings image).placing.address (Global other)) (variable_size b)) (sym (global_address one))
            (subst (λ at. LieApart (address_at one.0) (variable_size a) at (variable_size b)) (sym (global_address other)) (apart_at one.0 other.0 a b differ is_a is_b));
      }
