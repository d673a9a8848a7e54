-- Worked examples of the kind exact.
use Rattle.std.specs.Prelude.{◌≡◌, ℤ, pos, Some, None}
use Rattle.macros.specs.declared.parts.Arithmetic.TheVariants.{Add, Multiply, Remainder}
use Rattle.macros.specs.declared.parts.Comparison.TheVariants.{Equal, Greater}
use Rattle.exact.specs.declared.value.Exact.{Exact}
use Rattle.exact.specs.Exact.{exact_ops}
use Rattle.known_answers.specs.Numerals.{minus}

abbrev pub only : ℤ → Exact
only k = exact_ops.only k

abbrev pub unknown : Exact
unknown = exact_ops.unknown

-- two known numbers give the run's result; a product of unknown and 0 is unknown, and its remainder by 0 is none
abbrev pub ExactCombines : Type 0
ExactCombines =
    (exact_ops.combine Add (only (pos 2147483647)) (only (pos 1)) ≡ Some (only (minus 2147483648)))
    × (exact_ops.combine Multiply unknown (only (pos 0)) ≡ Some unknown)
    × (exact_ops.combine Remainder unknown (only (pos 0)) ≡ None)

-- a comparison with unknown never fails
abbrev pub ExactNarrows : Type 0
ExactNarrows =
    (exact_ops.narrow Equal unknown (only (pos 7)) ≡ Some (only (pos 7)))
    × (exact_ops.narrow Greater unknown (only (pos 7)) ≡ Some unknown)
    × (exact_ops.narrow Greater (only (pos 0)) (only (pos 0)) ≡ None)

-- bit 1 and then the number, and 33 zero bits; bit 0 and then another number than 0 is no code
abbrev pub ExactCodes : Type 0
ExactCodes =
    (exact_ops.write (only (minus 1)) ≡ 0x1FFFFFFFF)
    × (exact_ops.write unknown ≡ 0)
    × (exact_ops.read 0x100000007 ≡ Some (only (pos 7)))
    × (exact_ops.read 7 ≡ None)
