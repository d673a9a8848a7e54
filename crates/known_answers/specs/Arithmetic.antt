-- Worked examples of the run's arithmetic.
use Rattle.std.specs.Prelude.{◌≡◌, pos, Some, None}
use Rattle.macros.specs.declared.parts.Arithmetic.TheVariants.{Add, Subtract, Multiply, Remainder}
use Rattle.numbers.specs.Arithmetic.{computed}
use Rattle.known_answers.specs.Numerals.{minus}

-- sums, differences and products wrap
abbrev pub ResultsWrap : Type 0
ResultsWrap =
    (computed Add (pos 2147483647) (pos 1) ≡ Some (minus 2147483648))
    × (computed Subtract (minus 2147483648) (pos 1) ≡ Some (pos 2147483647))
    × (computed Multiply (pos 65536) (pos 65536) ≡ Some (pos 0))

-- a remainder is 0 or has the sign of the left number, and by 0 there is none
abbrev pub Remainders : Type 0
Remainders =
    (computed Remainder (minus 7) (pos 3) ≡ Some (minus 1))
    × (computed Remainder (pos 7) (minus 3) ≡ Some (pos 1))
    × (computed Remainder (minus 7) (minus 3) ≡ Some (minus 1))
    × (computed Remainder (minus 2147483648) (minus 1) ≡ Some (pos 0))
    × (computed Remainder (pos 5) (pos 0) ≡ None)
