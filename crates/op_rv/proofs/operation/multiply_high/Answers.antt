use Rattle.std.proofs.Common.{◌*ℤ◌, ◌^◌, FitsSigned, refl, arith, rules, w32, w64}
use Rattle.std.proofs.lemmas.Int.{to_z-of_z, fits_signed_mul}
use Rattle.op_rv.proofs.operation.multiply_high.Goals as goal

-- the factors and the product fit 64 bits, so that the casts change nothing
pub returns : goal.returns
returns c =
    let x = c.cast_signed.result in
    let y = c.cast_signed-2.result in
    let x_fits : FitsSigned w32 x = search rules in
    let y_fits : FitsSigned w32 y = search rules in
    let x_fits_64 : FitsSigned w64 x = search rules in
    let y_fits_64 : FitsSigned w64 y = search rules in
    let fits : FitsSigned w64 (x *ℤ y) = fits_signed_mul w64 x y (2 ^ 31) (2 ^ 31) (search rules) (search rules) (omega arith) in
    rw c.cast_unsigned.ensures (simp (to_z-of_z w32 x x_fits, to_z-of_z w32 y y_fits, to_z-of_z w64 x x_fits_64, to_z-of_z w64 y y_fits_64, to_z-of_z w64 (x *ℤ y) fits) (rw (c.cast_signed.ensures, c.cast_signed-2.ensures) refl))
