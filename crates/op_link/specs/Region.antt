-- The segments of memory: ranges of addresses with rights and bytes.
use Rattle.std.specs.Prelude.{ℕ, ◌+◌, ◌-◌, Bool, true, false, ◌&&◌, ◌||◌, Option, List, [], ◌∷◌, length, find, nat_eq, nat_lt, nat_le, slice_index}
use Rattle.std.specs.Option.{option_map_or}
use Rattle.std.specs.List.{list_all}
use Rattle.op_rv.specs.State.{Rights}

-- a range of addresses
pub record Range : Type 0 where
  pub base : ℕ
  pub size : ℕ

abbrev pub covers : Range → ℕ → Bool
covers range a = nat_le range.base a && nat_lt a (range.base + range.size)

-- no address is in both; an empty range overlaps nothing
abbrev pub is_apart : Range → Range → Bool
is_apart r s =
    nat_le (r.base + r.size) s.base || nat_le (s.base + s.size) r.base || nat_eq r.size 0 || nat_eq s.size 0

abbrev pub are_apart : List Range → Bool
are_apart [] = true
are_apart (r ∷ rs) = list_all (is_apart r) rs && are_apart rs

-- a segment in memory
pub record Region : Type 0 where
  pub base : ℕ
  pub readable : Bool
  pub writable : Bool
  pub executable : Bool
  pub bytes : List ℕ

abbrev pub range_of : Region → Range
range_of region = record { base = region.base; size = length region.bytes }

-- the segment at an address
abbrev pub region_at : List Region → ℕ → Option Region
region_at regions a = find (λ region. covers (range_of region) a) regions

-- the byte at an address, 0 outside every segment
unfoldable pub byte_in : List Region → ℕ → ℕ
byte_in regions a = option_map_or (λ region. slice_index region.bytes (a - region.base)) (region_at regions a) 0

-- outside every segment there is no right
unfoldable pub readable_in : List Region → ℕ → Bool
readable_in regions a = option_map_or (λ region. region.readable) (region_at regions a) false

unfoldable pub writable_in : List Region → ℕ → Bool
writable_in regions a = option_map_or (λ region. region.writable) (region_at regions a) false

unfoldable pub executable_in : List Region → ℕ → Bool
executable_in regions a = option_map_or (λ region. region.executable) (region_at regions a) false

abbrev pub rights_in : List Region → Rights
rights_in regions =
    record {
      readable = readable_in regions;
      writable = writable_in regions;
      executable = executable_in regions;
    }
