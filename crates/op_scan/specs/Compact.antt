-- The bytes of a compact text.
use Rattle.std.specs.Prelude.{ℕ, List, take}
use Rattle.op_scan.specs.declared.compact_text.Content.{Content}
use Rattle.op_scan.specs.declared.compact_text.Content.TheVariants.{Short, Long}

abbrev pub content_of : Content → List ℕ
content_of (Short length bytes) = take length bytes
content_of (Long bytes) = bytes.value.items
