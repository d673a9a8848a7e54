-- 64 bits hold every sum, difference and product of two numbers of 32 bits.
use Rattle.std.proofs.Common.{◌≡◌, ℤ, ◌+ℤ◌, ◌-ℤ◌, ◌*ℤ◌, FitsSigned, w64, to_z, of_z, arith}
use Rattle.std.proofs.lemmas.Int.{ints, to_z-of_z, fits_signed_mul}
use Rattle.macros.specs.Number.{Number}

pub wide_number : (x : ℤ) → Number x → to_z w64 (of_z w64 x) ≡ x
wide_number x f = omega (arith, ints)

pub wide_sum : (x y : ℤ) → Number x → Number y → to_z w64 (of_z w64 (x +ℤ y)) ≡ x +ℤ y
wide_sum x y f g = omega (arith, ints)

pub wide_difference : (x y : ℤ) → Number x → Number y → to_z w64 (of_z w64 (x -ℤ y)) ≡ x -ℤ y
wide_difference x y f g = omega (arith, ints)

pub product_fits : (x y : ℤ) → Number x → Number y → FitsSigned w64 (x *ℤ y)
product_fits x y f g = fits_signed_mul w64 x y 2147483648 2147483648 (omega (arith, ints)) (omega (arith, ints)) (omega arith)

pub wide_product : (x y : ℤ) → Number x → Number y → to_z w64 (of_z w64 (x *ℤ y)) ≡ x *ℤ y
wide_product x y f g = to_z-of_z w64 (x *ℤ y) (product_fits x y f g)

pub ruleset wide = (wide_number, wide_sum, wide_difference, wide_product, product_fits)
