-- The segments of a linked image lie where they may.
use Rattle.std.proofs.Common.{◌≡◌, ℕ, suc, ◌+◌, ◌-◌, ◌*◌, ◌<◌, ◌≤◌, Bool, true, ◌||◌, IsTrue, nat_le, List, [], ◌∷◌, ◌++◌, length, drop, map, replicate, refl, ap, arith, length-append}
use Rattle.std.proofs.lemmas.Bool.{and_parts, leb-true, lt-ltb}
use Rattle.std.proofs.lemmas.List.{length-replicate, length-map}
use Rattle.std.specs.List.{list_any}
use Rattle.op_layout.specs.declared.layout.Layout.{Layout}
use Rattle.op_rv.specs.declared.objects.GlobalVariable.{GlobalVariable}
use Rattle.op_rv.specs.declared.objects.Objects.{Objects}
use Rattle.op_link.specs.declared.memory_map.Settings.{Settings}
use Rattle.op_link.specs.declared.memory_map.Sizes.{Sizes}
use Rattle.op_link.specs.declared.place.RoutinePlace.{RoutinePlace}
use Rattle.op_link.specs.declared.table.Segment.{Segment}
use Rattle.op_link.specs.Image.{has_entry}
use Rattle.op_link.specs.Memory.{are_in_range, segments_of, constants_address, constants_size, globals_address, stack_address, most_linked, initial_size, initial_bytes}
use Rattle.op_link.specs.Linking.{file_header, program_header, program_headers, front_bytes, data_bytes, constants_bytes, code_padding, constants_padding, entry_word, words, linked_size_of}
use Rattle.op_link.proofs.GlobalPlaces.{length-bytes_of_globals}
use Rattle.op_link.proofs.Loads.{Fit, length-program_header}

-- ---- addresses

pub constants_from : (sizes : Sizes) → 0x00010000 + sizes.code ≤ constants_address sizes
unfolding constants_address
constants_from sizes = omega arith

constants_below : (sizes : Sizes) → constants_address sizes < 0x00010000 + sizes.code + 4096
unfolding constants_address
constants_below sizes = omega arith

pub globals_from : (sizes : Sizes) → constants_address sizes + sizes.constants ≤ globals_address sizes
unfolding globals_address
globals_from sizes = omega arith

globals_below : (sizes : Sizes) → globals_address sizes < constants_address sizes + sizes.constants + 4096
unfolding globals_address
globals_below sizes = omega arith

pub record InRange (settings : Settings) : Type 0 where
  pub heap_least : 64 ≤ settings.heap
  pub heap_most : settings.heap ≤ 262144
  pub stack_least : 16 ≤ settings.stack
  pub stack_most : settings.stack ≤ 65536

pub in_range : (settings : Settings) → IsTrue (are_in_range settings) → InRange settings
in_range settings is =
    let three = and_parts _ (nat_le settings.stack 65536) is in
    let two = and_parts _ (nat_le 16 settings.stack) three.0 in
    let one = and_parts (nat_le 64 settings.heap) (nat_le settings.heap 262144) two.0 in
    record {
      heap_least = leb-true 64 settings.heap one.0;
      heap_most = leb-true settings.heap 262144 one.1;
      stack_least = leb-true 16 settings.stack two.1;
      stack_most = leb-true settings.stack 65536 three.1;
    }

stack_is : (settings : Settings) → stack_address settings ≡ 0x70000000 - (1024 * settings.stack + 2048)
unfolding stack_address
stack_is settings = refl

entered : (settings : Settings) (sizes : Sizes) → 24 ≤ sizes.code → list_any (has_entry 0x00010000) (segments_of sizes settings) ≡ true
unfolding segments_of
entered settings sizes some =
    ap (λ (test : Bool). test || list_any (has_entry 0x00010000) (drop 1 (segments_of sizes settings))) (lt-ltb 0x00010000 (0x00010000 + sizes.code) (omega (arith, some)))

pub fits : (sizes : Sizes) (settings : Settings) (size : ℕ) → 24 ≤ sizes.code → linked_size_of sizes ≤ most_linked → sizes.zeros ≤ 15728640 → IsTrue (are_in_range settings) → size ≡ globals_address sizes - 0xF000 + sizes.initial → Fit size (segments_of sizes settings)
unfolding segments_of
fits sizes settings size some within few is_range is_size =
    let range = in_range settings is_range in
    let c1 = constants_from sizes in
    let c2 = constants_below sizes in
    let g1 = globals_from sizes in
    let g2 = globals_below sizes in
    let st = stack_is settings in
    let h1 = range.heap_least in
    let h2 = range.heap_most in
    let s1 = range.stack_least in
    let s2 = range.stack_most in
    record {
      six = refl;
      words = (record { offset = omega arith; address = omega arith; file_size = omega arith; memory_size = omega arith; flags = omega arith }, (record { offset = omega arith; address = omega arith; file_size = omega arith; memory_size = omega arith; flags = omega arith }, (record { offset = omega arith; address = omega arith; file_size = omega arith; memory_size = omega arith; flags = omega arith }, (record { offset = omega arith; address = omega arith; file_size = omega arith; memory_size = omega arith; flags = omega arith }, (record { offset = omega arith; address = omega arith; file_size = omega arith; memory_size = omega arith; flags = omega arith }, (record { offset = omega arith; address = omega arith; file_size = omega arith; memory_size = omega arith; flags = omega arith }, tt))))));
      stand = (omega arith, omega arith, (omega arith, omega arith, (omega arith, omega arith, (omega arith, omega arith, (omega arith, omega arith, (omega arith, omega arith, tt))))));
      rising = (omega arith, (omega arith, (omega arith, (omega arith, (omega arith, (omega arith, tt))))));
      reach = (omega arith, omega arith, (omega arith, omega arith, (omega arith, omega arith, (omega arith, omega arith, (omega arith, omega arith, (omega arith, omega arith, tt))))));
      memory = omega arith;
      entry = entered settings sizes some;
      long = omega arith;
      short = omega arith;
    }

-- ---- lengths

length-program_headers : (ss : List Segment) → length (program_headers ss) ≡ 32 * length ss
length-program_headers [] = refl
length-program_headers (s ∷ ss) =
    omega (arith, length-append (program_header s) (program_headers ss), length-program_header s, length-program_headers ss)

length-file_header : length file_header ≡ 52
unfolding file_header
length-file_header = refl

six_segments : (sizes : Sizes) (settings : Settings) → length (segments_of sizes settings) ≡ 6
unfolding segments_of
six_segments sizes settings = refl

pub length-front : (sizes : Sizes) (settings : Settings) → length (front_bytes sizes settings) ≡ 4096
unfolding front_bytes
length-front sizes settings =
    let ss = segments_of sizes settings in
    omega (arith, length-append (file_header ++ program_headers ss) (replicate 3852 0), length-append file_header (program_headers ss), length-file_header, length-program_headers ss, six_segments sizes settings, length-replicate {A = ℕ} 3852 0)

length-words : (ns : List ℕ) → length (words ns) ≡ 4 * length ns
length-words [] = refl
length-words (n ∷ ns) =
    let rest = length-words ns in
    let four : length (words (n ∷ ns)) ≡ suc (suc (suc (suc (length (words ns))))) = refl in
    omega (arith, rest, four)

pub length-constants : (layout : Layout) (routines : List RoutinePlace) → length (constants_bytes layout routines) ≡ constants_size layout
unfolding constants_bytes
length-constants layout routines =
    omega (arith, length-append layout.bytes (words (map (entry_word routines) layout.entries)), length-words (map (entry_word routines) layout.entries), length-map layout.entries (entry_word routines))

pub length-initial : (globals : List GlobalVariable) → length (initial_bytes globals) ≡ initial_size globals
length-initial globals = let long = length-bytes_of_globals 0 globals in omega arith

pub length-data : (layout : Layout) (objects : Objects) (sizes : Sizes) (routines : List RoutinePlace) → sizes.constants ≡ constants_size layout → sizes.initial ≡ initial_size objects.globals → sizes.code + length (data_bytes layout objects sizes routines) ≡ globals_address sizes - 0x00010000 + sizes.initial
unfolding data_bytes code_padding constants_padding
length-data layout objects sizes routines is_constants is_initial =
    let a : List ℕ = replicate (constants_address sizes - (0x00010000 + sizes.code)) 0 in
    let b = constants_bytes layout routines in
    let c : List ℕ = replicate (globals_address sizes - (constants_address sizes + sizes.constants)) 0 in
    let d = initial_bytes objects.globals in
    omega (arith, length-append ((a ++ b) ++ c) d, length-append (a ++ b) c, length-append a b, length-replicate {A = ℕ} (constants_address sizes - (0x00010000 + sizes.code)) 0, length-constants layout routines, length-replicate {A = ℕ} (globals_address sizes - (constants_address sizes + sizes.constants)) 0, length-initial objects.globals, is_constants, is_initial, constants_from sizes, globals_from sizes)
