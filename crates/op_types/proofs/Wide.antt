-- Numbers of 32 bits in 64 bits.
use Rattle.std.proofs.Common.{◌≡◌, ℤ, pos, negsuc, ◌*ℤ◌, ◌-ℤ◌, ◌+ℤ◌, ◌≤ℤ◌, ◌≤◌, ◌<◌, ap, subst, ◌∙◌, arith, to_z-of_z, SFits, w32, w64, of_z, to_z, unsigned_abs}
use Rattle.std.proofs.lemmas.Int.{fits_signed_mul, ints}
use Rattle.std.specs.Int.{IsNonNegative, int_rem_euclid}
use Rattle.op_core.specs.Sizes.{IsOrdinalRange}
use Rattle.op_types.specs.Values.{low_bits}

wide : (a : ℤ) → SFits w32 a → SFits w64 a
wide a f = record { sfits = omega (arith, f.sfits) }

pub widened : (a : ℤ) → SFits w32 a → to_z w64 (of_z w64 (to_z w32 (of_z w32 a))) ≡ a
widened a f = ap (λ z. to_z w64 (of_z w64 z)) (to_z-of_z f) ∙ to_z-of_z (wide a f)

small : (a : ℤ) → SFits w32 a → unsigned_abs a ≤ 2147483648
small (pos n) f = omega (arith, f.sfits)
small (negsuc n) f = omega (arith, f.sfits)

pub product_fits : (a b : ℤ) → SFits w32 a → SFits w32 b → SFits w64 (a *ℤ b)
product_fits a b f g = fits_signed_mul w64 a b 2147483648 2147483648 (small a f) (small b g) (omega arith)

fits_by : (z : ℤ) → negsuc 17179869183 ≤ℤ z → z ≤ℤ pos 17179869184 → SFits w64 z
fits_by (pos n) l h = record { sfits = omega (arith, ints, h) }
fits_by (negsuc n) l h = record { sfits = omega (arith, ints, l) }

abbrev again : ℤ → ℤ
again z = to_z w64 (of_z w64 z)

-- the number from low to high that differs by a multiple of how many there are, in 64 bits
pub low_is : (low high n r : ℤ) → SFits w64 low → SFits w64 high → SFits w32 n → SFits w64 r → IsOrdinalRange (low, high) → low ≤ℤ high → r ≡ int_rem_euclid (again (again (to_z w32 (of_z w32 n)) -ℤ again low)) (again (again (again high -ℤ again low) +ℤ pos 1)) → IsNonNegative r → unsigned_abs r < unsigned_abs (again (again (again high -ℤ again low) +ℤ pos 1)) → again (again low +ℤ again r) ≡ low_bits low high n
low_is low high n r fl fh fn fr small order is from below =
    let el : again low ≡ low = to_z-of_z fl in
    let eh : again high ≡ high = to_z-of_z fh in
    let l0 = small.0 in
    let l1 = small.1 in
    let h0 = small.2 in
    let h1 = small.3 in
    let count : again (again (again high -ℤ again low) +ℤ pos 1) ≡ high -ℤ low +ℤ pos 1 =
    (λ i. again (((λ i. again (eh i -ℤ el i)) ∙ to_z-of_z (fits_by (high -ℤ low) (omega (arith, ints, order, l0, l1, h0, h1)) (omega (arith, ints, order, l0, l1, h0, h1)))) i +ℤ pos 1))
    ∙ to_z-of_z (fits_by (high -ℤ low +ℤ pos 1) (omega (arith, ints, order, l0, l1, h0, h1)) (omega (arith, ints, order, l0, l1, h0, h1))) in
    let above : again (again (to_z w32 (of_z w32 n)) -ℤ again low) ≡ n -ℤ low =
    (λ i. again (widened n fn i -ℤ el i)) ∙ to_z-of_z (fits_by (n -ℤ low) (omega (arith, ints, fn.sfits, l0, l1)) (omega (arith, ints, fn.sfits, l0, l1))) in
    let rest : r ≡ int_rem_euclid (n -ℤ low) (high -ℤ low +ℤ pos 1) = is ∙ (λ i. int_rem_euclid (above i) (count i)) in
    let bound : unsigned_abs r < unsigned_abs (high -ℤ low +ℤ pos 1) = subst (λ k. unsigned_abs r < unsigned_abs k) count below in
    (λ i. again (el i +ℤ to_z-of_z fr i))
    ∙ to_z-of_z (fits_by (low +ℤ r) (omega (arith, ints, from, bound, order, l0, l1, h0, h1)) (omega (arith, ints, from, bound, order, l0, l1, h0, h1)))
    ∙ ap (λ k. low +ℤ k) rest
