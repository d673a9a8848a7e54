-- The kind span: every number from one end to the other, both included.
-- The comments write the left or first span as a..b and the right or second span as c..d.
use Rattle.std.specs.Prelude.{ℕ, ◌+◌, ◌*◌, ◌/◌, ◌%◌, Bool, true, false, cond, ◌&&◌, T, [], ◌∷◌, ℤ, pos, negsuc, ◌+ℤ◌, ◌-ℤ◌, ◌*ℤ◌, ◌≤ℤ◌, Some, None, Option, int_le, int_rem, nat_lt}
use Rattle.std.proofs.Common.{ltb→lt, of_z, to_z}
use Rattle.std.specs.Int.Signed.{le_z_yes, mag}
use Rattle.std.specs.Int.{int_max, int_min, w32}
use Rattle.std.specs.Option.{unwrap_or}
use Rattle.macros.specs.declared.parts.Arithmetic.{Arithmetic}
use Rattle.macros.specs.declared.parts.Arithmetic.TheVariants.{Add, Subtract, Multiply, Remainder}
use Rattle.macros.specs.declared.parts.Comparison.{Comparison}
use Rattle.macros.specs.declared.parts.Comparison.TheVariants.{Equal, NotEqual, Less, AtMost, Greater, AtLeast}
use Rattle.macros.specs.Number.{Number}
use Rattle.numbers.specs.Arithmetic.{same_int}
use Rattle.kinds.specs.Kind.{Operations}
use Rattle.span.specs.declared.value.Span.{Span}
use Rattle.span.specs.declared.value.SpanRecord.{SpanRecord}

-- a span stands for the numbers that are not below its low and not above its high
abbrev pub Between : Span → ℤ → Type 0
Between s z = (s.low ≤ℤ z) × (z ≤ℤ s.high)

-- whether z is a number of 32 bits
abbrev pub is_number : ℤ → Bool
is_number z = nat_lt (mag z) 2147483648

-- the span from l to h if three tests hold, each with what it shows of l and h
abbrev pub span_if : (l h : ℤ) (x y z : Bool) → (T x → l ≤ℤ h) → (T y → Number l) → (T z → Number h) → Option Span
span_if l h true true true o f g = Some (record { low = l; high = h; order = o tt; low_fits = f tt; high_fits = g tt })
span_if l h true true false o f g = None
span_if l h true false z o f g = None
span_if l h false y z o f g = None

-- the span from l to h, if l is not above h and both are numbers of 32 bits
unfoldable pub span_of : ℤ → ℤ → Option Span
span_of l h = span_if l h (int_le l h) (is_number l) (is_number h) le_z_yes (ltb→lt (mag l) 2147483648) (ltb→lt (mag h) 2147483648)

-- from −2147483648 to 2147483647
abbrev pub whole_range : Span
whole_range = record { low = negsuc 2147483647; high = pos 2147483647; order = le_z_yes tt; low_fits = ltb→lt 2147483647 2147483648 tt; high_fits = ltb→lt 2147483647 2147483648 tt }

-- the span, or the whole range where there is none
abbrev pub or_whole : Option Span → Span
or_whole o = unwrap_or o whole_range

-- k..k; what is no number of 32 bits has no span of its own
abbrev pub single_span : ℤ → Span
single_span k = or_whole (span_of k k)

-- whether the span is a single number
abbrev pub is_single : Span → Bool
is_single s = same_int s.low s.high

-- left + right: from a + c to b + d, or the whole range if an end is out of range
abbrev pub sum_of : Span → Span → Span
sum_of s t = or_whole (span_of (s.low +ℤ t.low) (s.high +ℤ t.high))

-- left − right: from a − d to b − c, or the whole range if an end is out of range
abbrev pub difference_of : Span → Span → Span
difference_of s t = or_whole (span_of (s.low -ℤ t.high) (s.high -ℤ t.low))

-- the least of four numbers
unfoldable pub least_of_4 : ℤ → ℤ → ℤ → ℤ → ℤ
least_of_4 a b c d = int_min (int_min a b) (int_min c d)

-- the greatest of four numbers
unfoldable pub greatest_of_4 : ℤ → ℤ → ℤ → ℤ → ℤ
greatest_of_4 a b c d = int_max (int_max a b) (int_max c d)

-- left × right: from the least to the greatest of a × c, a × d, b × c, b × d, or the whole range if an end is out of range
abbrev pub product_of : Span → Span → Span
product_of s t = or_whole (span_of (least_of_4 (s.low *ℤ t.low) (s.low *ℤ t.high) (s.high *ℤ t.low) (s.high *ℤ t.high)) (greatest_of_4 (s.low *ℤ t.low) (s.low *ℤ t.high) (s.high *ℤ t.low) (s.high *ℤ t.high)))

-- whether the span is 0..0
abbrev pub is_zero : Span → Bool
is_zero s = same_int s.low (pos 0) && same_int s.high (pos 0)

-- left rem right: none if right is 0..0, the single number a rem c if both are single, and else the whole range
abbrev pub span_remainder : Span → Span → Option Span
span_remainder s t = cond (is_zero t) None (Some (cond (is_single s && is_single t) (single_span (int_rem s.low t.low)) whole_range))

-- the value of left op right, if a number is possible
abbrev pub combined : Arithmetic → Span → Span → Option Span
combined Add s t = Some (sum_of s t)
combined Subtract s t = Some (difference_of s t)
combined Multiply s t = Some (product_of s t)
combined Remainder s t = span_remainder s t

-- a span without the number k: k is cut off at an end, and not from the middle
abbrev pub without : Span → ℤ → Option Span
without s k = cond (same_int s.low k) (span_of (k +ℤ pos 1) s.high) (cond (same_int s.high k) (span_of s.low (k -ℤ pos 1)) (Some s))

-- what is left of a..b where the comparison with c..d holds, if a number is; an end that leaves the range leaves nothing
abbrev pub narrowed : Comparison → Span → Span → Option Span
narrowed Equal s t = span_of (int_max s.low t.low) (int_min s.high t.high)
narrowed NotEqual s t = cond (is_single t) (without s t.low) (Some s)
narrowed Less s t = span_of s.low (int_min s.high (t.high -ℤ pos 1))
narrowed AtMost s t = span_of s.low (int_min s.high t.high)
narrowed Greater s t = span_of (int_max s.low (t.low +ℤ pos 1)) s.high
narrowed AtLeast s t = span_of (int_max s.low t.low) s.high

-- whether the first span lies within the second
abbrev pub is_within : Span → Span → Bool
is_within s t = int_le t.low s.low && int_le s.high t.high

-- the two ends as a plain record
abbrev pub record_of : Span → SpanRecord
record_of s = record { low = s.low; high = s.high }

-- the span that a plain record keeps; none if its low is above its high
abbrev pub recalled : SpanRecord → Option Span
recalled p = span_of p.low p.high

-- a plain record as 64 bits: low in 32 bits, then high in 32 bits
abbrev pub bits_of : SpanRecord → ℕ
bits_of p = of_z w32 p.low * 4294967296 + of_z w32 p.high

-- the plain record that 64 bits are
abbrev pub record_in : ℕ → SpanRecord
record_in c = record { low = to_z w32 (c / 4294967296 % 4294967296); high = to_z w32 (c % 4294967296) }

-- the code of a span: the bits of its record
abbrev pub code_of : Span → ℕ
code_of s = bits_of (record_of s)

-- the span that 64 bits are the code of; none if low is above high
abbrev pub decoded : ℕ → Option Span
decoded c = recalled (record_in c)

-- the operations of the kind; its code number is 2
abbrev pub span_ops : Operations Span SpanRecord
span_ops = record {
  means = Between;
  unknown = whole_range;
  only = single_span;
  combine = combined;
  narrow = narrowed;
  covered = is_within;
  keep = record_of;
  recall = recalled;
  width = 64;
  write = code_of;
  read = decoded;
  name = 2 ∷ [];
}
