-- The arithmetic of the run, and its comparisons, on signed numbers of 32 bits.
use Rattle.std.specs.Prelude.{Bool, false, cond, not, ℤ, pos, negsuc, ◌+ℤ◌, ◌-ℤ◌, ◌*ℤ◌, Some, None, Option, ◌==◌, int_le, int_lt, int_rem}
use Rattle.std.specs.Int.{int_wrap, w32}
use Rattle.macros.specs.declared.parts.Arithmetic.{Arithmetic}
use Rattle.macros.specs.declared.parts.Arithmetic.TheVariants.{Add, Subtract, Multiply, Remainder}
use Rattle.macros.specs.declared.parts.Comparison.{Comparison}
use Rattle.macros.specs.declared.parts.Comparison.TheVariants.{Equal, NotEqual, Less, AtMost, Greater, AtLeast}

-- Whether two numbers are the same. By cases, and not by the library's int_eq, with which the check does not find the proof of a remainder of spans.
abbrev pub same_int : ℤ → ℤ → Bool
same_int (pos a) (pos b) = a == b
same_int (pos a) (negsuc b) = false
same_int (negsuc a) (pos b) = false
same_int (negsuc a) (negsuc b) = a == b

-- What the run works out from x and y. Sums, differences and products are wrapped into the range of 32 bits.
-- A remainder is that of a division cut toward zero; by 0 there is none.
abbrev pub computed : Arithmetic → ℤ → ℤ → Option ℤ
computed Add x y = Some (int_wrap w32 (x +ℤ y))
computed Subtract x y = Some (int_wrap w32 (x -ℤ y))
computed Multiply x y = Some (int_wrap w32 (x *ℤ y))
computed Remainder x y = cond (same_int y (pos 0)) None (Some (int_rem x y))

-- whether a comparison holds of x and y
abbrev pub holds : Comparison → ℤ → ℤ → Bool
holds Equal x y = same_int x y
holds NotEqual x y = not (same_int x y)
holds Less x y = int_lt x y
holds AtMost x y = int_le x y
holds Greater x y = int_lt y x
holds AtLeast x y = int_le y x
