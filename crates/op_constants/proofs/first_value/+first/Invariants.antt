use Rattle.std.proofs.Common.{◌≡◌, ◌++◌, drop}
use Rattle.op_core.specs.Nodes.{first_values_of}
use Rattle.op_constants.specs.FirstBytes.{elements_bytes, fields_bytes}
use Rattle.op_constants.proofs.first_value.+first.Given as goal

-- In each loop what is left gives the whole.
abbrev pub invariant-push_elements-loop-part : goal.invariant-push_elements-loop-part
invariant-push_elements-loop-part l =
    l.bytes.items ++ elements_bytes l.core l.element (first_values_of (drop l.part-index l.parts))
    ≡ l.fn.bytes.items ++ elements_bytes l.core l.element (first_values_of l.parts)

abbrev pub invariant-push_fields-loop-part : goal.invariant-push_fields-loop-part
invariant-push_fields-loop-part l =
    l.bytes.items ++ fields_bytes l.core l.end l.rest (first_values_of (drop l.part-index l.parts))
    ≡ l.fn.bytes.items ++ fields_bytes l.core 0 l.fields (first_values_of l.parts)
