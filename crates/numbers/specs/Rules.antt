-- The run's arithmetic and its comparisons, told by what their results are to the two numbers.
use Rattle.std.specs.Prelude.{◌≡◌, ℕ, ◌*◌, ◌<◌, true, ℤ, pos, ◌+ℤ◌, ◌-ℤ◌, ◌*ℤ◌, ◌≤ℤ◌, ◌<ℤ◌, Some, unsigned_abs}
use Rattle.macros.specs.Number.{Number}
use Rattle.macros.specs.declared.parts.Arithmetic.{Arithmetic}
use Rattle.macros.specs.declared.parts.Arithmetic.TheVariants.{Add, Subtract, Multiply, Remainder}
use Rattle.macros.specs.declared.parts.Comparison.{Comparison}
use Rattle.macros.specs.declared.parts.Comparison.TheVariants.{Equal, NotEqual, Less, AtMost, Greater, AtLeast}
use Rattle.numbers.specs.Arithmetic.{computed, holds}

-- z is t brought into the range of 32 bits by adding or taking away a multiple of 2 ^ 32, which is 4294967296.
pub record Wraps (t z : ℤ) : Type 0 where
  pub number : Number z
  pub up : ℕ
  pub down : ℕ
  pub turned : t +ℤ pos (up * 4294967296) ≡ z +ℤ pos (down * 4294967296)

-- z is what remains of x divided by y, where the quotient is cut toward zero: z is 0 or has the sign of x, and it is nearer to 0 than y.
-- Nothing is nearer to 0 than 0, so nothing remains of a division by 0.
pub record Remains (x y z : ℤ) : Type 0 where
  pub quotient : ℤ
  pub whole : x ≡ (quotient *ℤ y) +ℤ z
  pub smaller : unsigned_abs z < unsigned_abs y
  pub not_below : pos 0 ≤ℤ x → pos 0 ≤ℤ z
  pub not_above : x ≤ℤ pos 0 → z ≤ℤ pos 0

-- z is a result of the arithmetic on x and y
abbrev pub Gives : Arithmetic → ℤ → ℤ → ℤ → Type 0
Gives Add x y z = Wraps (x +ℤ y) z
Gives Subtract x y z = Wraps (x -ℤ y) z
Gives Multiply x y z = Wraps (x *ℤ y) z
Gives Remainder x y z = Remains x y z

-- x stands to y as the comparison says
abbrev pub Compares : Comparison → ℤ → ℤ → Type 0
Compares Equal x y = x ≡ y
Compares NotEqual x y = x ≡ y → ⊥
Compares Less x y = x <ℤ y
Compares AtMost x y = x ≤ℤ y
Compares Greater x y = y <ℤ x
Compares AtLeast x y = y ≤ℤ x

-- what is worked out is a result by the rules
abbrev pub ComputedGiven : Type 0
ComputedGiven = (a : Arithmetic) (x y z : ℤ) → computed a x y ≡ Some z → Gives a x y z

-- a result by the rules is what is worked out, so there is no other, and none where none is worked out
abbrev pub GivenComputed : Type 0
GivenComputed = (a : Arithmetic) (x y z : ℤ) → Gives a x y z → computed a x y ≡ Some z

-- a comparison that tests true holds by the rules
abbrev pub HeldCompares : Type 0
HeldCompares = (c : Comparison) (x y : ℤ) → holds c x y ≡ true → Compares c x y

-- a comparison that holds by the rules tests true
abbrev pub ComparesHeld : Type 0
ComparesHeld = (c : Comparison) (x y : ℤ) → Compares c x y → holds c x y ≡ true
