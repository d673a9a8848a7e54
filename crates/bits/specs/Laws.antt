-- The laws of fields, each stated of every list and every place.
use Rattle.std.specs.Prelude.{◌≡◌, ℕ, ◌+◌, ◌*◌, ◌^◌, ◌<◌, ◌≤◌, ◌⊎◌, List, length}
use Rattle.bits.specs.Field.{field, put}

-- a field is its first a bits, moved up by the width of the rest, and then the rest
abbrev pub FieldSplits : Type 0
FieldSplits = (bs : List ℕ) (at a b : ℕ) → field bs at (a + b) ≡ field bs at a * 2 ^ b + field bs (at + a) b

-- what is written is read back, where the field lies within the list and the value fits it
abbrev pub ReadsBack : Type 0
ReadsBack = (bs : List ℕ) (at w v : ℕ) → at + w ≤ 8 * length bs → v < 2 ^ w → field (put bs at w v) at w ≡ v

-- a field that ends before the written one, or begins after it, is as it was
abbrev pub OthersKept : Type 0
OthersKept = (bs : List ℕ) (at w v at' w' : ℕ) → at + w ≤ 8 * length bs → ((at + w ≤ at') ⊎ (at' + w' ≤ at)) → field (put bs at w v) at' w' ≡ field bs at' w'

-- a write keeps the length
abbrev pub LengthKept : Type 0
LengthKept = (bs : List ℕ) (at w v : ℕ) → length (put bs at w v) ≡ length bs

-- what is read, written to the same place, changes nothing
abbrev pub OwnKept : Type 0
OwnKept = (bs : List ℕ) (at w : ℕ) → put bs at w (field bs at w) ≡ bs
