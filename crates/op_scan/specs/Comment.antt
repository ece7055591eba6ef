-- Comments (Free Pascal Reference Guide, "Comments").
use Rattle.std.specs.Prelude.{◌≡◌, ◌≢◌, ℕ, List, ◌∷◌, ◌++◌, codes}
use Rattle.op_scan.specs.declared.comment.Marks.{Marks}
use Rattle.op_scan.specs.declared.comment.Marks.TheVariants.{Braces, Stars}

-- how a comment with these marks begins
abbrev pub opening : Marks → List ℕ
opening Braces = codes "{"
opening Stars = codes "(*"

-- how it ends
abbrev pub closing : Marks → List ℕ
closing Braces = codes "}"
closing Stars = codes "*)"

-- inside a comment with these marks neither its end nor another comment begins here
pub record IsPlainHere (marks : Marks) (bytes : List ℕ) : Type 0 where
  pub no_end : (rest : List ℕ) → bytes ≢ closing marks ++ rest
  pub no_comment : (inner : Marks) (rest : List ℕ) → bytes ≢ opening inner ++ rest

-- neither begins anywhere in the text, which these bytes follow
abbrev pub IsPlain : Marks → List ℕ → List ℕ → Type 0
IsPlain marks text after =
    (front : List ℕ) (byte : ℕ) (back : List ℕ) → text ≡ front ++ byte ∷ back → IsPlainHere marks (byte ∷ back ++ after)

-- Inside a comment with these marks stand the first bytes. The comment's end is in front of the second ones: its inside is
-- plain text and whole comments in turn.
pub data Closes : Marks → List ℕ → List ℕ → Type 0 where
  ends : {marks : Marks} {bytes rest : List ℕ} → bytes ≡ closing marks ++ rest → Closes marks bytes rest
  passes : {marks : Marks} {bytes rest : List ℕ} (text after : List ℕ) → bytes ≡ text ++ after → IsPlain marks text after → Closes marks after rest → Closes marks bytes rest
  nests : {marks : Marks} {bytes rest : List ℕ} (inner : Marks) (inside after : List ℕ) → bytes ≡ opening inner ++ inside → Closes inner inside after → Closes marks after rest → Closes marks bytes rest
