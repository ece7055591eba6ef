-- Lists of which each item stands for the one at its place.
use Rattle.std.specs.Prelude.{List, [], ◌∷◌}

pub data Each {T U : Type 0} (R : T → U → Type 0) : List T → List U → Type 0 where
  NoneLeft : Each R [] []
  OneMore : {x : T} {y : U} {xs : List T} {ys : List U} → R x y → Each R xs ys → Each R (x ∷ xs) (y ∷ ys)
