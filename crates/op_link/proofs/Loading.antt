-- A linked image is loaded as it was meant.
use Rattle.std.proofs.Common.{◌≡◌, ℕ, ◌+◌, ◌-◌, ◌*◌, ◌≤◌, true, IsTrue, nat_lt, nat_le, Option, Some, None, List, [], ◌++◌, length, take, drop, replicate, refl, ap, sym, ◌∙◌, subst, arith, append_assoc, length-append}
use Rattle.std.proofs.lemmas.Bool.{and_parts, leb-true}
use Rattle.std.proofs.lemmas.List.{drop_at, length-replicate, take_all, take_at}
use Rattle.std.specs.List.{list_all}
use Rattle.std.specs.Option.{option_map}
use Rattle.op_layout.specs.declared.layout.Layout.{Layout}
use Rattle.op_rv.specs.declared.instruction.Instr.{Instr}
use Rattle.op_rv.specs.declared.objects.GlobalVariable.{GlobalVariable}
use Rattle.op_rv.specs.declared.objects.Objects.{Objects}
use Rattle.op_link.specs.declared.memory_map.Settings.{Settings}
use Rattle.op_link.specs.declared.memory_map.Sizes.{Sizes}
use Rattle.op_link.specs.declared.place.RoutinePlace.{RoutinePlace}
use Rattle.op_link.specs.Code.{routine_has_fields, words_of}
use Rattle.op_link.specs.Memory.{are_in_range, constants_address, constants_size, globals_address, globals_size, initial_bytes, initial_size, most_linked, segments_of, zero_size}
use Rattle.op_link.specs.Placing.{first_spot, placement_by, routine_places}
use Rattle.op_link.specs.Linking.{addresses_of, all_names_exist, code_padding, constants_bytes, constants_padding, data_bytes, file_header, front_bytes, image_by, image_bytes, is_linkable, linked_size_by, longest, program_code, program_headers, settled, sizes_of}
use Rattle.op_link.specs.Loaded.{HasCode, HasCodeBy, IsLoaded, addresses_by, linked_sizes, sizes_by}
use Rattle.op_link.proofs.Decoded.{program_decodes}
use Rattle.op_link.proofs.Growth.{code_end}
use Rattle.op_link.proofs.Lengths.{code_end_is, length-words_of, some_same}
use Rattle.op_link.proofs.Loads.{fitting_loads}
use Rattle.op_link.proofs.Mapped.{constants_from, fits, globals_from, length-constants, length-data, length-front, length-initial}
use Rattle.op_link.proofs.Standing.{all_stand}
use Rattle.op_link.proofs.Settled.{settled_first, settled_second}

-- ---- what linkable objects have

record Linkable (objects : Objects) : Type 0 where
  small : globals_size objects.globals ≤ 15728640
  fields : list_all routine_has_fields objects.routines ≡ true

linkable : (objects : Objects) (layout : Layout) → IsTrue (is_linkable objects layout) → Linkable objects
unfolding is_linkable
linkable objects layout is =
    let four = and_parts _ (list_all (λ routine. nat_lt routine.0 (length objects.routines)) layout.entries) is in
    let three = and_parts _ (list_all (all_names_exist objects layout) objects.routines) four.0 in
    let two = and_parts _ (list_all routine_has_fields objects.routines) three.0 in
    let one = and_parts (nat_lt objects.entry.0 (length objects.routines)) (nat_le (globals_size objects.globals) 15728640) two.0 in
    record { small = leb-true (globals_size objects.globals) 15728640 one.1; fields = two.1 }

pub zeros_at_most : (globals : List GlobalVariable) → zero_size globals ≤ globals_size globals
zeros_at_most globals = omega arith

-- ---- one attempt

record Found (f : List Instr → List ℕ) (found : Option (List Instr)) (image : List ℕ) : Type 0 where
  code : List Instr
  is : found ≡ Some code
  gives : image ≡ f code

found_of : (f : List Instr → List ℕ) (found : Option (List Instr)) (image : List ℕ) → Some image ≡ option_map f found → Found f found image
found_of f None image is = absurd (cc)
found_of f (Some code) image is = record { code = code; is = refl; gives = some_same image (f code) is }

bytes_by : List RoutinePlace → Layout → Objects → Settings → List Instr → List ℕ
bytes_by known layout objects settings code =
    image_bytes layout objects settings (sizes_of (placement_by known objects.routines).end layout objects) (placement_by known objects.routines).routines code

found_by : (known : List RoutinePlace) (layout : Layout) (objects : Objects) (settings : Settings) (image : List ℕ) → Some image ≡ image_by known layout objects settings → Found (bytes_by known layout objects settings) (program_code layout (addresses_by known layout objects) settings objects) image
unfolding image_by bytes_by addresses_by sizes_by
found_by known layout objects settings image is =
    found_of (bytes_by known layout objects settings) (program_code layout (addresses_by known layout objects) settings objects) image is

code_size : (known : List RoutinePlace) (layout : Layout) (objects : Objects) (settings : Settings) (code : List Instr) → program_code layout (addresses_by known layout objects) settings objects ≡ Some code → 4 * length code ≡ (sizes_of (placement_by known objects.routines).end layout objects).code
unfolding sizes_of placement_by addresses_by addresses_of sizes_by
code_size known layout objects settings code is =
    let end = code_end_is layout (addresses_by known layout objects) settings objects code is in omega (arith, end)

regroup : (a b c d e : List ℕ) → (((a ++ b) ++ c) ++ d) ++ e ≡ a ++ (b ++ (c ++ (d ++ e)))
regroup a b c d e = simp append_assoc refl

length-image : (layout : Layout) (objects : Objects) (settings : Settings) (sizes : Sizes) (routines : List RoutinePlace) (code : List Instr) → sizes.constants ≡ constants_size layout → sizes.initial ≡ initial_size objects.globals → 4 * length code ≡ sizes.code → length (image_bytes layout objects settings sizes routines code) ≡ globals_address sizes - 0xF000 + sizes.initial
unfolding image_bytes
length-image layout objects settings sizes routines code is_constants is_initial is_code =
    let front = front_bytes sizes settings in
    let behind = data_bytes layout objects sizes routines in
    omega (arith, is_code, length-append (front ++ words_of code) behind, length-append front (words_of code), length-front sizes settings, length-words_of code, length-data layout objects sizes routines is_constants is_initial, constants_from sizes, globals_from sizes)

begins_with_headers : (layout : Layout) (objects : Objects) (settings : Settings) (sizes : Sizes) (routines : List RoutinePlace) (code : List Instr) → image_bytes layout objects settings sizes routines code ≡ file_header ++ (program_headers (segments_of sizes settings) ++ (replicate 3852 0 ++ (words_of code ++ data_bytes layout objects sizes routines)))
unfolding image_bytes front_bytes
begins_with_headers layout objects settings sizes routines code =
    regroup file_header (program_headers (segments_of sizes settings)) (replicate 3852 0) (words_of code) (data_bytes layout objects sizes routines)

loaded_bytes : (known : List RoutinePlace) (layout : Layout) (objects : Objects) (settings : Settings) (code : List Instr) → Linkable objects → IsTrue (are_in_range settings) → linked_size_by known layout objects ≤ most_linked → program_code layout (addresses_by known layout objects) settings objects ≡ Some code → IsLoaded (bytes_by known layout objects settings code) (segments_of (sizes_by known layout objects) settings)
unfolding bytes_by sizes_by sizes_of linked_size_by
loaded_bytes known layout objects settings code objects_are range within is =
    let routines = (placement_by known objects.routines).routines in
    let sizes = sizes_of (placement_by known objects.routines).end layout objects in
    let size = code_size known layout objects settings code is in
    let end = (code_end known objects.routines).least in
    let long = length-image layout objects settings sizes routines code refl refl size in
    fitting_loads (segments_of sizes settings) (replicate 3852 0 ++ (words_of code ++ data_bytes layout objects sizes routines)) (image_bytes layout objects settings sizes routines code)
    (begins_with_headers layout objects settings sizes routines code)
    (fits sizes settings (length (image_bytes layout objects settings sizes routines code)) (omega (arith, end)) within (let zeros = zeros_at_most objects.globals in let few = objects_are.small in omega (arith, zeros, few)) range long)

loaded_by : (known : List RoutinePlace) (layout : Layout) (objects : Objects) (settings : Settings) (image : List ℕ) → IsTrue (is_linkable objects layout) → IsTrue (are_in_range settings) → linked_size_by known layout objects ≤ most_linked → Some image ≡ image_by known layout objects settings → IsLoaded image (segments_of (sizes_by known layout objects) settings)
loaded_by known layout objects settings image is_linkable_too range within is =
    let found = found_by known layout objects settings image is in
    subst (λ (image : List ℕ). IsLoaded image (segments_of (sizes_by known layout objects) settings)) (sym found.gives) (loaded_bytes known layout objects settings found.code (linkable objects layout is_linkable_too) range within found.is)

code_stands : (layout : Layout) (objects : Objects) (settings : Settings) (sizes : Sizes) (routines : List RoutinePlace) (code : List Instr) → 4 * length code ≡ sizes.code → take sizes.code (drop 4096 (image_bytes layout objects settings sizes routines code)) ≡ words_of code
unfolding image_bytes
code_stands layout objects settings sizes routines code is_code =
    let front = front_bytes sizes settings in
    let behind = data_bytes layout objects sizes routines in
    let long : length (words_of code) ≡ sizes.code = length-words_of code ∙ is_code in
    ap (λ (image : List ℕ). take sizes.code (drop 4096 image)) (append_assoc front (words_of code) behind)
    ∙ ap (take sizes.code) (drop_at front (words_of code ++ behind) 4096 (length-front sizes settings))
    ∙ take_at (words_of code) behind sizes.code long

regroup_constants : (a b p c q d : List ℕ) → (a ++ b) ++ (((p ++ c) ++ q) ++ d) ≡ ((a ++ b) ++ p) ++ (c ++ (q ++ d))
regroup_constants a b p c q d = simp append_assoc refl

constants_stand : (layout : Layout) (objects : Objects) (settings : Settings) (sizes : Sizes) (routines : List RoutinePlace) (code : List Instr) → 4 * length code ≡ sizes.code → sizes.constants ≡ constants_size layout → take sizes.constants (drop (constants_address sizes - 0xF000) (image_bytes layout objects settings sizes routines code)) ≡ constants_bytes layout routines
unfolding image_bytes data_bytes code_padding
constants_stand layout objects settings sizes routines code is_code is_constants =
    let front = front_bytes sizes settings in
    let padding : List ℕ = replicate (constants_address sizes - (0x00010000 + sizes.code)) 0 in
    let constants = constants_bytes layout routines in
    let behind : List ℕ = replicate (constants_padding sizes) 0 in
    let own = initial_bytes objects.globals in
    let before : length ((front ++ words_of code) ++ padding) ≡ constants_address sizes - 0xF000 =
    omega (arith, is_code, length-append (front ++ words_of code) padding, length-append front (words_of code), length-front sizes settings, length-words_of code, length-replicate {A = ℕ} (constants_address sizes - (0x00010000 + sizes.code)) 0, constants_from sizes) in
    ap (λ (image : List ℕ). take sizes.constants (drop (constants_address sizes - 0xF000) image)) (regroup_constants front (words_of code) padding constants behind own)
    ∙ ap (take sizes.constants) (drop_at ((front ++ words_of code) ++ padding) (constants ++ (behind ++ own)) (constants_address sizes - 0xF000) before)
    ∙ take_at constants (behind ++ own) sizes.constants (length-constants layout routines ∙ sym is_constants)

globals_stand : (layout : Layout) (objects : Objects) (settings : Settings) (sizes : Sizes) (routines : List RoutinePlace) (code : List Instr) → 4 * length code ≡ sizes.code → sizes.constants ≡ constants_size layout → sizes.initial ≡ initial_size objects.globals → take sizes.initial (drop (globals_address sizes - 0xF000) (image_bytes layout objects settings sizes routines code)) ≡ initial_bytes objects.globals
unfolding image_bytes data_bytes code_padding constants_padding
globals_stand layout objects settings sizes routines code is_code is_constants is_initial =
    let front = front_bytes sizes settings in
    let padding : List ℕ = replicate (constants_address sizes - (0x00010000 + sizes.code)) 0 in
    let constants = constants_bytes layout routines in
    let behind : List ℕ = replicate (globals_address sizes - (constants_address sizes + sizes.constants)) 0 in
    let own = initial_bytes objects.globals in
    let before : length ((front ++ words_of code) ++ ((padding ++ constants) ++ behind)) ≡ globals_address sizes - 0xF000 =
    omega (arith, is_code, is_constants, length-append (front ++ words_of code) ((padding ++ constants) ++ behind), length-append front (words_of code), length-append (padding ++ constants) behind, length-append padding constants, length-front sizes settings, length-words_of code, length-constants layout routines, length-replicate {A = ℕ} (constants_address sizes - (0x00010000 + sizes.code)) 0, length-replicate {A = ℕ} (globals_address sizes - (constants_address sizes + sizes.constants)) 0, constants_from sizes, globals_from sizes) in
    ap (λ (image : List ℕ). take sizes.initial (drop (globals_address sizes - 0xF000) image)) (sym (append_assoc (front ++ words_of code) ((padding ++ constants) ++ behind) own))
    ∙ ap (take sizes.initial) (drop_at ((front ++ words_of code) ++ ((padding ++ constants) ++ behind)) own (globals_address sizes - 0xF000) before)
    ∙ take_all sizes.initial own (omega (arith, is_initial, length-initial objects.globals))

places_by : (known : List RoutinePlace) (layout : Layout) (objects : Objects) → (addresses_by known layout objects).routines ≡ routine_places (addresses_by known layout objects).known 0 first_spot objects.routines
unfolding addresses_by addresses_of placement_by
places_by known layout objects = refl

code_by : (known : List RoutinePlace) (layout : Layout) (objects : Objects) (settings : Settings) (image : List ℕ) → IsTrue (is_linkable objects layout) → Some image ≡ image_by known layout objects settings → HasCodeBy known image objects layout settings
unfolding bytes_by sizes_by addresses_by addresses_of sizes_of
code_by known layout objects settings image is_linkable_too is =
    let found = found_by known layout objects settings image is in
    let sizes = sizes_of (placement_by known objects.routines).end layout objects in
    record {
      code = found.code;
      is = found.is;
      stands = ap (λ (image : List ℕ). take sizes.code (drop 4096 image)) found.gives ∙ code_stands layout objects settings sizes (placement_by known objects.routines).routines found.code (code_size known layout objects settings found.code found.is);
      decodes = program_decodes layout (addresses_by known layout objects) settings objects found.code (linkable objects layout is_linkable_too).fields found.is;
      constants = ap (λ (image : List ℕ). take sizes.constants (drop (constants_address sizes - 0xF000) image)) found.gives ∙ constants_stand layout objects settings sizes (placement_by known objects.routines).routines found.code (code_size known layout objects settings found.code found.is) refl;
      globals = ap (λ (image : List ℕ). take sizes.initial (drop (globals_address sizes - 0xF000) image)) found.gives ∙ globals_stand layout objects settings sizes (placement_by known objects.routines).routines found.code (code_size known layout objects settings found.code found.is) refl refl;
      items = all_stand found.code layout (addresses_by known layout objects) settings objects (places_by known layout objects) found.is;
    }

-- ---- the attempt that counts

loaded_settled : (known : List RoutinePlace) (layout : Layout) (objects : Objects) (settings : Settings) (image : List ℕ) → settled layout objects settings ≡ known → IsTrue (is_linkable objects layout) → IsTrue (are_in_range settings) → linked_size_by known layout objects ≤ most_linked → Some image ≡ image_by known layout objects settings → IsLoaded image (segments_of (linked_sizes objects layout settings) settings)
loaded_settled known layout objects settings image is_known is_linkable_too range within is =
    subst (λ (known : List RoutinePlace). IsLoaded image (segments_of (sizes_by known layout objects) settings)) (sym is_known) (loaded_by known layout objects settings image is_linkable_too range within is)

code_settled : (known : List RoutinePlace) (layout : Layout) (objects : Objects) (settings : Settings) (image : List ℕ) → settled layout objects settings ≡ known → IsTrue (is_linkable objects layout) → Some image ≡ image_by known layout objects settings → HasCode image objects layout settings
code_settled known layout objects settings image is_known is_linkable_too is =
    subst (λ (known : List RoutinePlace). HasCodeBy known image objects layout settings) (sym is_known) (code_by known layout objects settings image is_linkable_too is)

pub first_loaded : (objects : Objects) (layout : Layout) (settings : Settings) (image : List ℕ) → IsTrue (is_linkable objects layout) → IsTrue (are_in_range settings) → linked_size_by (longest objects) layout objects ≤ most_linked → Some image ≡ image_by (longest objects) layout objects settings → IsLoaded image (segments_of (linked_sizes objects layout settings) settings)
first_loaded objects layout settings image is_linkable_too range within is =
    loaded_settled (longest objects) layout objects settings image (settled_first objects layout settings image is) is_linkable_too range within is

pub first_code : (objects : Objects) (layout : Layout) (settings : Settings) (image : List ℕ) → IsTrue (is_linkable objects layout) → Some image ≡ image_by (longest objects) layout objects settings → HasCode image objects layout settings
first_code objects layout settings image is_linkable_too is =
    code_settled (longest objects) layout objects settings image (settled_first objects layout settings image is) is_linkable_too is

pub second_loaded : (objects : Objects) (layout : Layout) (settings : Settings) (image : List ℕ) → None ≡ image_by (longest objects) layout objects settings → IsTrue (is_linkable objects layout) → IsTrue (are_in_range settings) → linked_size_by [] layout objects ≤ most_linked → Some image ≡ image_by [] layout objects settings → IsLoaded image (segments_of (linked_sizes objects layout settings) settings)
second_loaded objects layout settings image none is_linkable_too range within is =
    loaded_settled [] layout objects settings image (settled_second objects layout settings none) is_linkable_too range within is

pub second_code : (objects : Objects) (layout : Layout) (settings : Settings) (image : List ℕ) → None ≡ image_by (longest objects) layout objects settings → IsTrue (is_linkable objects layout) → Some image ≡ image_by [] layout objects settings → HasCode image objects layout settings
second_code objects layout settings image none is_linkable_too is =
    code_settled [] layout objects settings image (settled_second objects layout settings none) is_linkable_too is
