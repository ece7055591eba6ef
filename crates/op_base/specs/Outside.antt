-- Sources, sinks and files as contracts see them. What the real ones hold is not told: there it is `None`.
use Rattle.std.specs.Prelude.{◌≡◌, ℕ, ◌-◌, ◌^◌, ◌<◌, ◌⊎◌, Option, Some, None, List, [], ◌++◌, IfSome}

-- a count of faults rose in a call: it is greater after it, or stands at its greatest value
abbrev pub Rose : ℕ → ℕ → Type 0
Rose before after = (before < after) ⊎ (after ≡ 2 ^ 64 - 1)

-- what a sink holds after more bytes
abbrev pub appended : Option (List ℕ) → List ℕ → Option (List ℕ)
appended None bytes = None
appended (Some old) bytes = Some (old ++ bytes)

-- some front of the bytes was appended
pub record AppendsFront (old : Option (List ℕ)) (bytes : List ℕ) (new : Option (List ℕ)) : Type 0 where
  pub front : List ℕ
  pub rest : List ℕ
  pub parts : front ++ rest ≡ bytes
  pub appends : new ≡ appended old front

-- what a source has before these bytes are taken
abbrev pub preceded : List ℕ → Option (List ℕ) → Option (List ℕ)
preceded bytes None = None
preceded bytes (Some rest) = Some (bytes ++ rest)

-- nothing is left in a source, as far as it tells
abbrev pub IsExhausted : Option (List ℕ) → Type 0
IsExhausted left = IfSome left (λ bytes. bytes ≡ [])
