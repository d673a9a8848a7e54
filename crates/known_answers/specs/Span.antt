-- Worked examples of the kind span.
use Rattle.std.specs.Prelude.{◌≡◌, T, ℤ, pos, Some, None, int_le}
use Rattle.std.proofs.Common.{ltb→lt}
use Rattle.std.specs.Int.Signed.{le_z_yes, mag}
use Rattle.macros.specs.declared.parts.Arithmetic.TheVariants.{Add, Subtract, Multiply, Remainder}
use Rattle.macros.specs.declared.parts.Comparison.TheVariants.{Equal, NotEqual, Less, AtMost, Greater, AtLeast}
use Rattle.span.specs.declared.value.Span.{Span}
use Rattle.span.specs.Span.{is_number, span_ops}
use Rattle.known_answers.specs.Numerals.{minus}

-- the span from l to h; at two written numbers `tt` shows that they are in order, and that each has 32 bits
abbrev pub span : (l h : ℤ) → T (int_le l h) → T (is_number l) → T (is_number h) → Span
span l h o f g = record { low = l; high = h; order = le_z_yes o; low_fits = ltb→lt (mag l) 2147483648 f; high_fits = ltb→lt (mag h) 2147483648 g }

abbrev pub unknown : Span
unknown = span_ops.unknown

-- a result with an end out of range is unknown, and is never held at the end; a remainder by 0..0 is none
abbrev pub SpanCombines : Type 0
SpanCombines =
    (span_ops.combine Add (span (minus 2) (pos 3) tt tt tt) (span (minus 4) (pos 5) tt tt tt) ≡ Some (span (minus 6) (pos 8) tt tt tt))
    × (span_ops.combine Subtract (span (minus 2) (pos 3) tt tt tt) (span (minus 4) (pos 5) tt tt tt) ≡ Some (span (minus 7) (pos 7) tt tt tt))
    × (span_ops.combine Multiply (span (minus 2) (pos 3) tt tt tt) (span (minus 4) (pos 5) tt tt tt) ≡ Some (span (minus 12) (pos 15) tt tt tt))
    × (span_ops.combine Add (span (pos 2147483646) (pos 2147483647) tt tt tt) (span (pos 1) (pos 1) tt tt tt) ≡ Some unknown)
    × (span_ops.combine Multiply (span (minus 2147483648) (minus 2147483648) tt tt tt) (span (minus 1) (minus 1) tt tt tt) ≡ Some unknown)
    × (span_ops.combine Multiply unknown (span (pos 0) (pos 0) tt tt tt) ≡ Some (span (pos 0) (pos 0) tt tt tt))
    × (span_ops.combine Remainder unknown (span (pos 0) (pos 0) tt tt tt) ≡ None)
    × (span_ops.combine Remainder (span (minus 7) (minus 7) tt tt tt) (span (pos 3) (pos 3) tt tt tt) ≡ Some (span (minus 1) (minus 1) tt tt tt))
    × (span_ops.combine Remainder (span (pos 0) (pos 9) tt tt tt) (span (pos 3) (pos 3) tt tt tt) ≡ Some unknown)

-- ≠ cuts a single number off at an end alone, and at the ends of the range nothing wraps
abbrev pub SpanNarrows : Type 0
SpanNarrows =
    (span_ops.narrow Equal (span (pos 0) (pos 9) tt tt tt) (span (pos 3) (pos 12) tt tt tt) ≡ Some (span (pos 3) (pos 9) tt tt tt))
    × (span_ops.narrow NotEqual (span (pos 0) (pos 9) tt tt tt) (span (pos 9) (pos 9) tt tt tt) ≡ Some (span (pos 0) (pos 8) tt tt tt))
    × (span_ops.narrow NotEqual (span (pos 0) (pos 9) tt tt tt) (span (pos 0) (pos 0) tt tt tt) ≡ Some (span (pos 1) (pos 9) tt tt tt))
    × (span_ops.narrow NotEqual (span (pos 0) (pos 9) tt tt tt) (span (pos 5) (pos 5) tt tt tt) ≡ Some (span (pos 0) (pos 9) tt tt tt))
    × (span_ops.narrow NotEqual (span (pos 0) (pos 9) tt tt tt) (span (pos 8) (pos 9) tt tt tt) ≡ Some (span (pos 0) (pos 9) tt tt tt))
    × (span_ops.narrow NotEqual (span (pos 4) (pos 4) tt tt tt) (span (pos 4) (pos 4) tt tt tt) ≡ None)
    × (span_ops.narrow Less (span (pos 0) (pos 9) tt tt tt) (span (pos 3) (pos 5) tt tt tt) ≡ Some (span (pos 0) (pos 4) tt tt tt))
    × (span_ops.narrow AtMost (span (pos 0) (pos 9) tt tt tt) (span (pos 3) (pos 5) tt tt tt) ≡ Some (span (pos 0) (pos 5) tt tt tt))
    × (span_ops.narrow Greater (span (pos 0) (pos 9) tt tt tt) (span (pos 3) (pos 5) tt tt tt) ≡ Some (span (pos 4) (pos 9) tt tt tt))
    × (span_ops.narrow AtLeast (span (pos 0) (pos 9) tt tt tt) (span (pos 3) (pos 5) tt tt tt) ≡ Some (span (pos 3) (pos 9) tt tt tt))
    × (span_ops.narrow Less (span (pos 0) (pos 9) tt tt tt) (span (pos 20) (pos 30) tt tt tt) ≡ Some (span (pos 0) (pos 9) tt tt tt))
    × (span_ops.narrow Greater (span (pos 0) (pos 9) tt tt tt) (span (pos 9) (pos 12) tt tt tt) ≡ None)
    × (span_ops.narrow Less unknown (span (minus 2147483648) (minus 2147483648) tt tt tt) ≡ None)
    × (span_ops.narrow Greater unknown (span (pos 2147483647) (pos 2147483647) tt tt tt) ≡ None)

-- low and then high, in 32 bits each; low above high is no code
abbrev pub SpanCodes : Type 0
SpanCodes =
    (span_ops.write (span (minus 1) (pos 7) tt tt tt) ≡ 0xFFFFFFFF00000007)
    × (span_ops.read 0x8000000000000002 ≡ Some (span (minus 2147483648) (pos 2) tt tt tt))
    × (span_ops.read 0x0000000300000002 ≡ None)
