use Rattle.std.proofs.Common.{◌≡◌, ℕ, List, ◌++◌, length, drop, map}
use Rattle.std.specs.List.{flat_map}
use Rattle.op_layout.specs.Places.{places_from}
use Rattle.op_layout.proofs.layout.Layout.of_literals.Given as goal

abbrev pub invariant-loop-literal : goal.invariant-loop-literal
invariant-loop-literal l =
    record {
      joined : l.bytes.items ++ flat_map (λ (literal : List ℕ). literal) (map (λ literal. literal.items) (drop l.literal-index l.literals)) ≡ flat_map (λ (literal : List ℕ). literal) (map (λ literal. literal.items) l.literals);
      placed : l.places.items ++ places_from (length l.bytes.items) (map (λ literal. literal.items) (drop l.literal-index l.literals)) ≡ places_from 0 (map (λ literal. literal.items) l.literals);
    }
