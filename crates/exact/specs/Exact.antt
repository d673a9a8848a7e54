-- The kind exact: only k stands for the number k alone, and unknown for every number.
use Rattle.std.specs.Prelude.{◌≡◌, ℕ, ◌+◌, ◌/◌, ◌%◌, ◌<◌, Bool, true, false, cond, ◌&&◌, T, [], ◌∷◌, ℤ, pos, Some, None, Option, ◌==◌, nat_lt}
use Rattle.std.proofs.Common.{ltb→lt, to_z, of_z}
use Rattle.std.specs.Int.Signed.{mag}
use Rattle.std.specs.Int.{w32}
use Rattle.std.specs.Option.{option_map}
use Rattle.macros.specs.declared.parts.Arithmetic.{Arithmetic}
use Rattle.macros.specs.declared.parts.Arithmetic.TheVariants.{Remainder}
use Rattle.macros.specs.declared.parts.Comparison.{Comparison}
use Rattle.macros.specs.declared.parts.Comparison.TheVariants.{Equal}
use Rattle.numbers.specs.Arithmetic.{computed, holds, same_int}
use Rattle.kinds.specs.Kind.{Operations}
use Rattle.exact.specs.declared.value.Exact.{Exact}
use Rattle.exact.specs.declared.value.Exact.TheVariants.{Only, Unknown}
use Rattle.exact.specs.declared.value.ExactRecord.{ExactRecord}

-- which numbers a value stands for
abbrev pub Means : Exact → ℤ → Type 0
Means (Only k) z = z ≡ k.value
Means Unknown z = Unit {0}

-- the value for k, by whether 32 bits hold k; a number that they do not hold gives unknown
abbrev pub only_if : (k : ℤ) (held : Bool) → (T held → mag k < 2147483648) → Exact
only_if k true fits = Only (record { value = k; fits = fits tt })
only_if k false fits = Unknown

-- the value for k
unfoldable pub only_of : ℤ → Exact
only_of k = only_if k (nat_lt (mag k) 2147483648) (ltb→lt (mag k) 2147483648)

-- the value for what the run works out, if it works out a number
abbrev pub only_result : Option ℤ → Option Exact
only_result o = option_map only_of o

-- Two known numbers give the run's result. With unknown on either side the answer is unknown, but a remainder by only 0
-- is none whatever the left value is.
abbrev pub combined : Arithmetic → Exact → Exact → Option Exact
combined a (Only j) (Only k) = only_result (computed a j.value k.value)
combined Remainder Unknown (Only k) = cond (same_int k.value (pos 0)) None (Some Unknown)
combined a Unknown (Only k) = Some Unknown
combined a (Only j) Unknown = Some Unknown
combined a Unknown Unknown = Some Unknown

-- Of two known numbers the first is left if the comparison holds of them. A comparison with unknown never fails:
-- unknown that is equal to a known number becomes that number, and else the first value stays as it is.
abbrev pub narrowed : Comparison → Exact → Exact → Option Exact
narrowed c (Only j) (Only k) = cond (holds c j.value k.value) (Some (Only j)) None
narrowed Equal Unknown (Only k) = Some (Only k)
narrowed c Unknown (Only k) = Some Unknown
narrowed c (Only j) Unknown = Some (Only j)
narrowed c Unknown Unknown = Some Unknown

-- every value is covered by unknown, and a known number by itself alone
abbrev pub covered_by : Exact → Exact → Bool
covered_by v Unknown = true
covered_by (Only j) (Only k) = same_int j.value k.value
covered_by Unknown (Only k) = false

-- a value as a plain record: its number if it is known, else 0
abbrev pub kept : Exact → ExactRecord
kept (Only k) = record { number = k.value; known = true }
kept Unknown = record { number = pos 0; known = false }

-- the value of a number and of whether it is known; not known with another number than 0 is none
abbrev pub recalled_as : Bool → ℤ → Option Exact
recalled_as true k = Some (only_of k)
recalled_as false k = cond (same_int k (pos 0)) (Some Unknown) None

-- the value that a plain record keeps
abbrev pub recalled : ExactRecord → Option Exact
recalled p = recalled_as p.known p.number

-- a value's code: the bit 1 and then the number in 32 bits, or else 33 zero bits
abbrev pub written : Exact → ℕ
written (Only k) = 4294967296 + of_z w32 k.value
written Unknown = 0

-- The value of a mark and the 32 bits after it: with mark 1 the number that they write, with mark 0 and all bits zero
-- unknown, and else none.
abbrev pub decoded : ℕ → ℕ → Option Exact
decoded m n = cond (m == 1) (Some (only_of (to_z w32 n))) (cond (m == 0 && n == 0) (Some Unknown) None)

-- the value that a number of 33 bits is the code of
abbrev pub read_as : ℕ → Option Exact
read_as c = decoded (c / 4294967296) (c % 4294967296)

-- the operations of the kind exact, whose code number is 1
abbrev pub exact_ops : Operations Exact ExactRecord
exact_ops = record {
  means = Means;
  unknown = Unknown;
  only = only_of;
  combine = combined;
  narrow = narrowed;
  covered = covered_by;
  keep = kept;
  recall = recalled;
  width = 33;
  write = written;
  read = read_as;
  name = 1 ∷ [];
}
