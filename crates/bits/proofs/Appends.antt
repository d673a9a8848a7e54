-- Lists that go on, and lists of bytes.
use Rattle.std.proofs.Common.{◌≡◌, ℕ, zero, suc, ◌+◌, ◌-◌, ◌*◌, ◌/◌, ◌%◌, ◌^◌, ◌<◌, ◌≤◌, List, ◌++◌, length, get_or, replicate, take, sym, refl, ap, ◌∙◌, ap₂, inl, inr, arith}
use Rattle.std.proofs.Math.ListN.{get_or-eq_default}
use Rattle.std.proofs.lemmas.Bool.{cases_lt}
use Rattle.std.proofs.lemmas.List.Elements.{All-replicate, All-set}
use Rattle.std.proofs.lemmas.List.{ext_get_or, get_or_append_left, set-append_left, take_at}
use Rattle.bits.specs.Field.{Bytes, field, put}
use Rattle.bits.proofs.BitLaws.{with_bit_lt}
use Rattle.bits.proofs.FieldLaws.{field_byte, field_window}
use Rattle.bits.proofs.PutLaws.{length_put}

-- a field within the first list sees nothing of the second
pub field_append : (bs cs : List ℕ) (at w : ℕ) → at + w ≤ 8 * length bs → field (bs ++ cs) at w ≡ field bs at w
unfolding field
field_append bs cs at zero h = refl
field_append bs cs at (suc w) h =
    let k : (at + w) / 8 < length bs = omega arith in
    rw (field_append bs cs at w (omega arith), get_or_append_left) refl

-- a write within the first list leaves the second as it is
pub put_append : (bs cs : List ℕ) (at w v : ℕ) → at + w ≤ 8 * length bs → put (bs ++ cs) at w v ≡ put bs at w v ++ cs
unfolding put
put_append bs cs at zero v h = refl
put_append bs cs at (suc w) v h =
    let k : (at + w) / 8 < length (put bs at w (v / 2)) = omega (arith, length_put bs at w (v / 2)) in
    rw (put_append bs cs at w (v / 2) (omega arith), get_or_append_left, set-append_left) refl

-- the first list, after a write within it
pub put_within : (bs cs : List ℕ) (at w v : ℕ) → at + w ≤ 8 * length bs → take (length bs) (put (bs ++ cs) at w v) ≡ put bs at w v
put_within bs cs at w v h = rw (put_append bs cs at w v h) (take_at (put bs at w v) cs (length bs) (length_put bs at w v))

-- what is read of a list of bytes is a byte, also past the end, where it is 0
pub byte_lt : (bs : List ℕ) (i : ℕ) → Bytes bs → get_or bs i 0 < 256
byte_lt bs i h =
    elim (cases_lt i (length bs)) [
      | inl lt ↦ h i 0 lt
      | inr ge ↦ rw (get_or-eq_default bs 0 ge) (omega arith)
    ]

-- a write keeps bytes bytes
pub put_bytes : (bs : List ℕ) (at w v : ℕ) → Bytes bs → Bytes (put bs at w v)
unfolding put
put_bytes bs at zero v h = h
put_bytes bs at (suc w) v h =
    let ih = put_bytes bs at w (v / 2) h in
    let i = (at + w) / 8 in
    All-set (λ b. b < 256) (put bs at w (v / 2)) i _ (with_bit_lt _ (v % 2) (byte_lt (put bs at w (v / 2)) i ih) (omega arith) (7 - (at + w) % 8) (omega arith)) ih

pub zero_bytes : (n : ℕ) → Bytes (replicate n 0)
zero_bytes n = All-replicate (λ b. b < 256) n 0 (omega arith)

-- each byte, by the field of all bits
byte_of_all : (bs : List ℕ) (i : ℕ) → Bytes bs → i < length bs → get_or bs i 0 ≡ field bs 0 (8 * length bs) / 2 ^ (8 * (length bs - i - 1)) % 256
byte_of_all bs i h lt =
    let t = 8 * (length bs - i - 1) in
    let e : 8 * length bs ≡ 8 * i + 8 + t = omega arith in
    let d : 0 + 8 * i ≡ 8 * i = omega arith in
    sym (field_window bs 0 (8 * i) 8 t (8 * length bs) e ∙ ap (λ n. field bs n 8) d ∙ field_byte bs i (byte_lt bs i h))

-- bytes with the same bits are the same
pub bytes_same : (bs cs : List ℕ) → Bytes bs → Bytes cs → length bs ≡ length cs → field bs 0 (8 * length bs) ≡ field cs 0 (8 * length bs) → bs ≡ cs
bytes_same bs cs hb hc len same =
    ext_get_or 0 bs cs len
    (λ i lt.
    byte_of_all bs i hb lt
    ∙ ap₂ (λ (n m : ℕ). n / 2 ^ (8 * (m - i - 1)) % 256) (same ∙ ap (λ n. field cs 0 (8 * n)) len) len
    ∙ sym (byte_of_all cs i hc (omega arith)))
