-- Bytes pass the test of bytes.
use Rattle.std.proofs.Common.{◌≡◌, ◌<◌, ◌^◌, ℕ, suc, Bool, true, false, ◌&&◌, List, [], ◌∷◌, length, nat_lt, refl, sym, arith}
use Rattle.std.proofs.lemmas.Bool.{and_from}
use Rattle.std.proofs.lemmas.Bool.Decides.{nat_tests}
use Rattle.std.specs.List.{list_all}
use Rattle.op_image.specs.Means.{AreBytes}
use Rattle.op_typing.specs.SimpleTests.{is_short_text}

is_byte : (b : ℕ) → b < 256 → nat_lt b 256 ≡ true
is_byte b less = grind (arith, nat_tests)

pub bytes_pass : (text : List ℕ) → AreBytes text → list_all (λ b. nat_lt b 256) text ≡ true
bytes_pass [] bytes = refl
bytes_pass (b ∷ bs) bytes = and_from _ _ (is_byte b (bytes 0)) (bytes_pass bs (λ k. bytes (suc k)))

-- so what is left of the test of a text is its length
pub short_by : (text : List ℕ) → list_all (λ b. nat_lt b 256) text ≡ true → nat_lt (length text) (2 ^ 31) ≡ is_short_text text
short_by text all = by (nat_lt (length text) (2 ^ 31)) (list_all (λ b. nat_lt b 256) text) all
  where
    by : (a b : Bool) → b ≡ true → a ≡ (a && b)
    by true b e = sym e
    by false b e = refl
