-- The test `same_int` tells whether two numbers are the same.
use Rattle.std.proofs.Common.{◌≡◌, true, ℤ, refl, arith}
use Rattle.std.proofs.lemmas.Bool.Decides.{Decides-int_eq}
use Rattle.numbers.specs.Arithmetic.{same_int}

pub same_is : (a b : ℤ) → same_int a b ≡ true → a ≡ b
same_is a b h = grind (arith, Decides-int_eq)

pub same_yes : (a b : ℤ) → a ≡ b → same_int a b ≡ true
same_yes a b e = grind (arith, Decides-int_eq)

pub same_self : (a : ℤ) → same_int a a ≡ true
same_self a = same_yes a a refl
