use Rattle.std.proofs.Common.{◌≡◌, ◌<◌, ◌≤◌, ◌^◌, nat_eq}
use Rattle.std.specs.List.{list_any}
use Rattle.op_meaning.specs.Sets.{bits_below}
use Rattle.op_constants.proofs.first_value.bits_of_elements.Given as goal

-- the bits below the one whose turn it is
abbrev pub invariant-loop-element : goal.invariant-loop-element
invariant-loop-element l =
    record {
      bits : l.bits ≡ bits_below l.element-counter (λ n. list_any (λ e. nat_eq e n) l.elements);
      small : l.bits < 2 ^ l.element-counter;
      few : l.element-counter ≤ 32;
    }
