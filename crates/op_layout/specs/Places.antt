-- Where literals stand in the constants.
use Rattle.std.specs.Prelude.{ℕ, ◌+◌, List, [], ◌∷◌, length}
use Rattle.std.specs.List.{flat_map}
use Rattle.op_layout.specs.declared.layout.Layout.{Layout}
use Rattle.op_layout.specs.declared.layout.LiteralPlace.{LiteralPlace}

-- the places of literals that stand one after the other, the first one at an offset
abbrev pub places_from : ℕ → List (List ℕ) → List LiteralPlace
places_from offset [] = []
places_from offset (literal ∷ literals) =
    record { offset = offset; length = length literal } ∷ places_from (offset + length literal) literals

-- the literals one after the other, and nothing else
abbrev pub layout_of : List (List ℕ) → Layout
layout_of literals =
    record {
      bytes = flat_map (λ literal. literal) literals;
      entries = [];
      literals = places_from 0 literals;
      tables = [];
      descriptors = [];
    }
