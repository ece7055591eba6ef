-- The memory with which low code begins: the loaded one, where the first instructions of the image have made one hole of the heap.
use Rattle.std.specs.Prelude.{ℕ, ◌+◌, ◌*◌, List}
use Rattle.std.specs.Int.{bytes_low_first}
use Rattle.op_link.specs.Image.{regions_in}
use Rattle.op_link.specs.Memory.{control_address, heap_address, heap_size}
use Rattle.op_link.specs.Region.{byte_in}
use Rattle.op_link.specs.declared.memory_map.Settings.{Settings}
use Rattle.op_rv.specs.State.{with_bytes}

-- memory with a word at an address
abbrev pub with_word : (memory : ℕ → ℕ) → (at word : ℕ) → ℕ → ℕ
with_word memory at word = with_bytes memory at (bytes_low_first 0 4 word)

-- the five words that are written, for so many bytes of heap and of stack: the first hole, the bytes of the heap, those of the hole, the bytes of the
-- stack, and the least slot that was never issued
abbrev pub begun_by : (memory : ℕ → ℕ) → (heap stack : ℕ) → ℕ → ℕ
begun_by memory heap stack =
    with_word
    (with_word (with_word (with_word (with_word memory control_address heap_address) (control_address + 8) heap) heap_address heap) (control_address + 12) stack)
    (control_address + 16)
    1

abbrev pub begun : Settings → (image : List ℕ) → ℕ → ℕ
begun settings image = begun_by (byte_in (regions_in image)) (heap_size settings) (1024 * settings.stack)
