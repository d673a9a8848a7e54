-- Negative numbers as they are written.
use Rattle.std.specs.Prelude.{ℕ, ℤ, pos, neg_ℤ}

-- −n
abbrev pub minus : ℕ → ℤ
minus n = neg_ℤ (pos n)
