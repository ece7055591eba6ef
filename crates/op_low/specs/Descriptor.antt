-- Type and class descriptors: words in the constants, and names. Each offset is one from the beginning of the constants.
--
-- A type descriptor: its kind, the size of a value, the number of parts; then for a record an offset in the value and a
-- descriptor a field, and for an array the distance of two elements and their descriptor.
-- A class descriptor: the descriptor of its managed fields, its parent's, the size of an instance, its table of methods,
-- its table of interfaces, the length of its name; then the name.
use Rattle.std.specs.Prelude.{◌≡◌, ℕ, ◌+◌, ◌*◌, ◌≤◌, List, length, slice_index, take, drop, nat_eq, if◌then◌else◌}
use Rattle.op_rv.specs.State.{word_at}
use Rattle.op_low.specs.declared.descriptor.DescKind.{DescKind}
use Rattle.op_low.specs.declared.descriptor.DescKind.TheVariants.{Plain, Chars, Dynamic, Interface, Fields, Repeat}
use Rattle.op_low.specs.declared.descriptor.DescPart.{DescPart}

-- a word of the constants, its lowest byte first
abbrev pub word_in : List ℕ → ℕ → ℕ
word_in constants at = word_at (slice_index constants) at

-- ---- types

abbrev pub kind_from : ℕ → DescKind
kind_from n =
    if nat_eq n 0 then Plain
    else (if nat_eq n 1 then Chars
    else (if nat_eq n 2 then Dynamic
    else (if nat_eq n 3 then Interface
    else (if nat_eq n 4 then Fields
    else Repeat))))

abbrev pub kind_in : List ℕ → ℕ → DescKind
kind_in constants at = kind_from (word_in constants at)

abbrev pub size_in : List ℕ → ℕ → ℕ
size_in constants at = word_in constants (at + 4)

abbrev pub parts_in : List ℕ → ℕ → ℕ
parts_in constants at = word_in constants (at + 8)

-- the distance of two elements, and their descriptor
abbrev pub stride_in : List ℕ → ℕ → ℕ
stride_in constants at = word_in constants (at + 12)

abbrev pub element_in : List ℕ → ℕ → ℕ
element_in constants at = word_in constants (at + 16)

-- where a part begins in the value, and its descriptor
unfoldable pub part_in : DescKind → List ℕ → ℕ → ℕ → DescPart
part_in Fields constants at k =
    record { offset = word_in constants (at + 12 + 8 * k); inner = word_in constants (at + 16 + 8 * k) }
part_in _ constants at k = record { offset = k * stride_in constants at; inner = element_in constants at }

-- what stands behind the size
abbrev pub HasParts : DescKind → List ℕ → ℕ → Type 0
HasParts Plain constants at = parts_in constants at ≡ 0
HasParts Chars constants at = parts_in constants at ≡ 0
HasParts Interface constants at = parts_in constants at ≡ 0
-- one element stands for all, and it begins the value
HasParts Dynamic constants at = (parts_in constants at ≡ 1) × (stride_in constants at ≡ 0) × (at + 20 ≤ length constants)
HasParts Fields constants at = at + 12 + 8 * parts_in constants at ≤ length constants
-- the elements fill the value
HasParts Repeat constants at = (parts_in constants at * stride_in constants at ≡ size_in constants at) × (at + 20 ≤ length constants)

-- a type descriptor stands there
pub record IsTypeDescriptor (constants : List ℕ) (at : ℕ) : Type 0 where
  pub stands : at + 12 ≤ length constants
  pub known : word_in constants at ≤ 5
  pub parts : HasParts (kind_in constants at) constants at

-- ---- classes

abbrev pub fields_in : List ℕ → ℕ → ℕ
fields_in constants at = word_in constants at

abbrev pub name_length_in : List ℕ → ℕ → ℕ
name_length_in constants at = word_in constants (at + 20)

abbrev pub name_in : List ℕ → ℕ → List ℕ
name_in constants at = take (name_length_in constants at) (drop (at + 24) constants)

-- a class descriptor stands there, and that of its managed fields where it says
pub record IsClassDescriptor (constants : List ℕ) (at : ℕ) : Type 0 where
  pub stands : at + 24 + name_length_in constants at ≤ length constants
  pub fields : IsTypeDescriptor constants (fields_in constants at)
  pub record_of_fields : kind_in constants (fields_in constants at) ≡ Fields
