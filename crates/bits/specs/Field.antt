-- Bytes as a row of bits, and a field: some bits in a row, read and written as one number.
-- Bits are counted from the most significant bit of the first byte, and a field has its most significant bit first.
use Rattle.std.specs.Prelude.{ℕ, zero, suc, ◌+◌, ◌-◌, ◌*◌, ◌/◌, ◌%◌, ◌^◌, ◌<◌, List, slice_index, slice_set}
use Rattle.std.specs.List.{All}

-- each number of the list is a byte
abbrev pub Bytes : List ℕ → Type 0
Bytes bs = All (λ b. b < 256) bs

-- the bit at place i, which is 0 past the end
abbrev pub bit_at : List ℕ → ℕ → ℕ
bit_at bs i = slice_index bs (i / 8) / 2 ^ (7 - i % 8) % 2

-- the number that the w bits from place `at` on write
unfoldable pub field : List ℕ → ℕ → ℕ → ℕ
field bs at zero = 0
field bs at (suc w) = 2 * field bs at w + bit_at bs (at + w)

-- the byte x with its bit of weight 2 ^ k made b
abbrev pub with_bit : ℕ → ℕ → ℕ → ℕ
with_bit x k b = (x / 2 ^ k / 2 * 2 + b) * 2 ^ k + x % 2 ^ k

-- the list with its bit at place i made b
abbrev pub put_bit : List ℕ → ℕ → ℕ → List ℕ
put_bit bs i b = slice_set bs (i / 8) (with_bit (slice_index bs (i / 8)) (7 - i % 8) b)

-- the list with its w bits from place `at` on made the lowest w bits of v
unfoldable pub put : List ℕ → ℕ → ℕ → ℕ → List ℕ
put bs at zero v = bs
put bs at (suc w) v = put_bit (put bs at w (v / 2)) (at + w) (v % 2)
