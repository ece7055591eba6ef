-- What shapes tell of values: whether they are single numbers, have parts, or are strings.
use Rattle.std.specs.Prelude.{Bool, true, false, Option, Some, None}
use Rattle.op_core.specs.declared.types.IntegerKind.{IntegerKind}
use Rattle.op_meaning.specs.Shapes.{Shape, single, composite, of_chars}

-- of which a store keeps the low bits, where values are single numbers
abbrev pub kind_of : Shape → Option IntegerKind
kind_of (single kind) = Some kind
kind_of _ = None

-- whether values have parts
abbrev pub is_composite : Shape → Bool
is_composite composite = true
is_composite _ = false

-- whether they are strings
abbrev pub is_string : Shape → Bool
is_string of_chars = true
is_string _ = false
