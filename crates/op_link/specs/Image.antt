-- ELF images of 32 bits, little-endian (Executable and Linking Format, "ELF Header" and "Program Header"), and the state that
-- loading one makes. Names in capitals and those that begin with e_ and p_ are the standard's.
use Rattle.std.specs.Prelude.{◌≡◌, ℕ, zero, suc, ◌+◌, ◌-◌, ◌*◌, ◌/◌, ◌%◌, Bool, ◌&&◌, Option, Some, None, List, [], ◌∷◌, ◌++◌, length, take, drop, map, sum_by, replicate, slice_index, nat_eq, nat_le, if◌then◌else◌}
use Rattle.std.specs.List.{list_all, list_any}
use Rattle.std.specs.Str.{bytes_eq}
use Rattle.byteorder.specs.Endian.{little_number}
use Rattle.op_rv.specs.State.{State, Running}
use Rattle.op_link.specs.Region.{Region, Range, covers, are_apart, byte_in, rights_in}
use Rattle.op_link.specs.declared.reader.Header.{Header}
use Rattle.op_link.specs.declared.table.ProgramHeader.{ProgramHeader}
use Rattle.op_link.specs.declared.table.Segment.{Segment}

-- the fields of two and four bytes at a place
unfoldable pub half_in : List ℕ → ℕ → ℕ
half_in image at = little_number 2 (drop at image)

unfoldable pub word_in : List ℕ → ℕ → ℕ
word_in image at = little_number 4 (drop at image)

-- fields of the file header: e_entry and e_phnum
abbrev pub entry_in : List ℕ → ℕ
entry_in image = word_in image 24

abbrev pub number_in : List ℕ → ℕ
number_in image = half_in image 44

-- the program header at a place: p_type, and what it says of its segment by p_offset, p_vaddr, p_filesz, p_memsz and p_flags
abbrev pub segment_at : List ℕ → ℕ → Segment
segment_at image at =
    record {
      offset = word_in image (at + 4);
      address = word_in image (at + 8);
      file_size = word_in image (at + 16);
      memory_size = word_in image (at + 20);
      flags = word_in image (at + 24);
    }

abbrev pub header_at : List ℕ → ℕ → ProgramHeader
header_at image at = record { kind = word_in image at; segment = segment_at image at }

-- so many program headers, one after the other
unfoldable pub headers_from : List ℕ → ℕ → ℕ → List ProgramHeader
headers_from image at zero = []
headers_from image at (suc n) = header_at image at ∷ headers_from image (at + 32) n

-- the program headers, and the segments that they describe
abbrev pub headers : List ℕ → List ProgramHeader
headers image = headers_from image 52 (number_in image)

abbrev pub segments : List ℕ → List Segment
segments image = map (λ h. h.segment) (headers image)

-- the addresses of a segment
abbrev pub memory_range : Segment → Range
memory_range s = record { base = s.address; size = s.memory_size }

-- the rights that the flags of a segment give: PF_X is 1, PF_W is 2 and PF_R is 4
abbrev pub gives_execute : Segment → Bool
gives_execute s = nat_eq (s.flags % 2) 1

abbrev pub gives_write : Segment → Bool
gives_write s = nat_eq (s.flags / 2 % 2) 1

abbrev pub gives_read : Segment → Bool
gives_read s = nat_eq (s.flags / 4 % 2) 1

-- the nine conditions on images
-- 1: 52 to 100,663,296 bytes
unfoldable pub has_image_size : List ℕ → Bool
has_image_size image = nat_le 52 (length image) && nat_le (length image) 100663296

-- 2: the magic number, ELFMAG: 0x7f and the letters ELF
unfoldable pub has_magic : List ℕ → Bool
has_magic image = bytes_eq (take 4 image) (0x7f ∷ 0x45 ∷ 0x4c ∷ 0x46 ∷ [])

-- 3: 32 bits (ELFCLASS32), little-endian (ELFDATA2LSB), version 1 (EV_CURRENT)
unfoldable pub has_identity : List ℕ → Bool
has_identity image =
    nat_eq (slice_index image 4) 1 && nat_eq (slice_index image 5) 1 && nat_eq (slice_index image 6) 1

-- 4: an executable file: e_type is ET_EXEC
unfoldable pub is_executable_file : List ℕ → Bool
is_executable_file image = nat_eq (half_in image 16) 2

-- 5: for RISC-V: e_machine is EM_RISCV
unfoldable pub is_for_riscv : List ℕ → Bool
is_for_riscv image = nat_eq (half_in image 18) 243

-- 6: e_ehsize is 52 and e_phentsize 32; e_phnum is 1 to 16, and so many program headers stand in the file right behind the
-- file header, at e_phoff
unfoldable pub has_header_table : List ℕ → Bool
has_header_table image =
    nat_eq (half_in image 40) 52
    && nat_eq (half_in image 42) 32
    && nat_eq (word_in image 28) 52
    && nat_le 1 (number_in image)
    && nat_le (number_in image) 16
    && nat_le (52 + 32 * number_in image) (length image)

-- a segment whose bytes stand in the file and fit its memory: p_offset, p_filesz and p_memsz
abbrev pub has_file_bytes : List ℕ → Segment → Bool
has_file_bytes image s = nat_le s.file_size s.memory_size && nat_le (s.offset + s.file_size) (length image)

-- a loadable segment with its bytes: p_type is PT_LOAD
abbrev pub is_loadable : List ℕ → ProgramHeader → Bool
is_loadable image h = nat_eq h.kind 1 && has_file_bytes image h.segment

-- 7: loadable segments that lie apart
unfoldable pub has_loadable_segments : List ℕ → Bool
has_loadable_segments image =
    list_all (is_loadable image) (headers image) && are_apart (map memory_range (segments image))

abbrev pub is_in_reach : Segment → Bool
is_in_reach s = nat_le 0x00010000 s.address && nat_le (s.address + s.memory_size) 0x70000000

-- 8: segments from 0x00010000 to 0x70000000, of at most 400 MiB in all
unfoldable pub has_segments_in_reach : List ℕ → Bool
has_segments_in_reach image =
    list_all is_in_reach (segments image) && nat_le (sum_by (λ s. s.memory_size) (segments image)) 419430400

abbrev pub has_entry : ℕ → Segment → Bool
has_entry entry s = gives_execute s && covers (memory_range s) entry

-- 9: the entry is a multiple of 4 in an executable segment
unfoldable pub has_executable_entry : List ℕ → Bool
has_executable_entry image =
    nat_eq (entry_in image % 4) 0 && list_any (has_entry (entry_in image)) (segments image)

-- the number of the first test that fails
abbrev pub first_from : ℕ → List Bool → Option ℕ
first_from k [] = None
first_from k (test ∷ tests) = if test then first_from (k + 1) tests else Some k

-- the first condition that fails
unfoldable pub first_failing : List ℕ → Option ℕ
first_failing image =
    first_from
    1
    (has_image_size image
    ∷ has_magic image
    ∷ has_identity image
    ∷ is_executable_file image
    ∷ is_for_riscv image
    ∷ has_header_table image
    ∷ has_loadable_segments image
    ∷ has_segments_in_reach image
    ∷ has_executable_entry image
    ∷ [])

-- the header of an image that meets the conditions
pub record IsHeaderOf (image : List ℕ) (header : Header) : Type 0 where
  pub meets : first_failing image ≡ None
  pub entry : header.entry ≡ entry_in image
  pub number : header.number ≡ number_in image

-- a segment in memory: its bytes in the file, and zeros
abbrev pub region_in : List ℕ → Segment → Region
region_in image s =
    record {
      base = s.address;
      readable = gives_read s;
      writable = gives_write s;
      executable = gives_execute s;
      bytes = take s.file_size (drop s.offset image) ++ replicate (s.memory_size - s.file_size) 0;
    }

abbrev pub regions_in : List ℕ → List Region
regions_in image = map (region_in image) (segments image)

-- the state in which an image begins
unfoldable pub start : List ℕ → List ℕ → State
start image input =
    record {
      registers = replicate 32 0;
      pc = entry_in image;
      memory = byte_in (regions_in image);
      rights = rights_in (regions_in image);
      input = input;
      output = [];
      errors = [];
      ending = Running;
    }
