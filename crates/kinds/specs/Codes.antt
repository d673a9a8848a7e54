-- What the laws say of codes in bytes, at any bit.
use Rattle.std.specs.Prelude.{◌≡◌, ℕ, ◌+◌, ◌*◌, ◌≤◌, List, length, Some}
use Rattle.bits.specs.Field.{field, put}
use Rattle.kinds.specs.Kind.{Operations}

-- a value that is written into bytes is read from them
abbrev pub WrittenReads : {V P : Type 0} → Operations V P → Type 0
WrittenReads {V} o = (bs : List ℕ) (at : ℕ) (v : V) → o.width ≤ 4096 → at + o.width ≤ 8 * length bs → o.read (field (put bs at o.width (o.write v)) at o.width) ≡ Some v

-- bytes from which a value is read are not changed by writing it there
abbrev pub ReadWrites : {V P : Type 0} → Operations V P → Type 0
ReadWrites {V} o = (bs : List ℕ) (at : ℕ) (v : V) → o.width ≤ 4096 → at + o.width ≤ 8 * length bs → o.read (field bs at o.width) ≡ Some v → put bs at o.width (o.write v) ≡ bs
