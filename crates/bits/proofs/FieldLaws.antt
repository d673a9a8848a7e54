-- What is read: a field's bound, its parts, and the fields that are bytes.
use Rattle.std.proofs.Common.{◌≡◌, ℕ, zero, suc, ◌+◌, ◌-◌, ◌*◌, ◌/◌, ◌%◌, ◌^◌, ◌<◌, List, get_or, sym, refl, ap, ◌∙◌, add-zero, add_assoc, add-suc, add-one, mul_assoc, pow-suc, arith}
use Rattle.std.proofs.lemmas.Nat.{shr_high, mod_low}
use Rattle.bits.specs.Field.{bit_at, field}

-- a field of w bits is below 2 ^ w
pub field_lt : (bs : List ℕ) (at w : ℕ) → field bs at w < 2 ^ w
unfolding field
field_lt bs at zero = omega arith
field_lt bs at (suc w) = let h = field_lt bs at w in rw pow-suc (omega arith)

pub field_none : (bs : List ℕ) (at : ℕ) → field bs at 0 ≡ 0
unfolding field
field_none bs at = refl

-- a field with one bit more
pub field_more : (bs : List ℕ) (at w : ℕ) → field bs at (w + 1) ≡ field bs at w * 2 + bit_at bs (at + w)
unfolding field
field_more bs at w = rw add-one (omega arith)

-- a field is its first bits, moved up, and then the rest
pub field_split : (bs : List ℕ) (at a b : ℕ) → field bs at (a + b) ≡ field bs at a * 2 ^ b + field bs (at + a) b
unfolding field
field_split bs at a zero = rw (add-zero a) (omega arith)
field_split bs at a (suc b) =
    let ih = field_split bs at a b in
    let e : bit_at bs (at + (a + b)) ≡ bit_at bs (at + a + b) = ap (λ i. bit_at bs i) (sym (add_assoc at a b)) in
    let p : field bs at a * 2 ^ suc b ≡ field bs at a * 2 ^ b * 2 = ap (λ x. field bs at a * x) (pow-suc 2 b) ∙ sym (mul_assoc (field bs at a) (2 ^ b) 2) in
    rw (add-suc a b) (omega (arith, ih, e, p))

-- a field within a longer one of n bits, which has a bits before it and t bits after it
pub field_window : (bs : List ℕ) (at a w t n : ℕ) → n ≡ a + w + t → field bs at n / 2 ^ t % 2 ^ w ≡ field bs (at + a) w
field_window bs at a w t n e =
    ap (λ k. field bs at k / 2 ^ t % 2 ^ w) e
    ∙ ap (λ x. x / 2 ^ t % 2 ^ w) (field_split bs at (a + w) t)
    ∙ ap (λ x. x % 2 ^ w) (shr_high (field bs at (a + w)) t (field bs (at + (a + w)) t) (field_lt bs (at + (a + w)) t) ∙ field_split bs at a w)
    ∙ mod_low (field bs at a) w (field bs (at + a) w) (field_lt bs (at + a) w)

bit_of_byte : (bs : List ℕ) (i j : ℕ) → j < 8 → bit_at bs (8 * i + j) ≡ get_or bs i 0 / 2 ^ (7 - j) % 2
bit_of_byte bs i j h =
    let q : (8 * i + j) / 8 ≡ i = omega arith in
    let m : (8 * i + j) % 8 ≡ j = omega arith in
    rw (q, m) refl

bits_of_byte : (x : ℕ) → x < 256 → 2 * (2 * (2 * (2 * (2 * (2 * (2 * (2 * 0 + x / 128 % 2) + x / 64 % 2) + x / 32 % 2) + x / 16 % 2) + x / 8 % 2) + x / 4 % 2) + x / 2 % 2) + x / 1 % 2 ≡ x
bits_of_byte x h = omega arith

-- the field of a whole byte is the byte
pub field_byte : (bs : List ℕ) (i : ℕ) → get_or bs i 0 < 256 → field bs (8 * i) 8 ≡ get_or bs i 0
unfolding field
field_byte bs i h =
    let bit : (j : ℕ) → j < 8 → bit_at bs (8 * i + j) ≡ get_or bs i 0 / 2 ^ (7 - j) % 2 = bit_of_byte bs i in
    rw (bit 0 (omega arith), bit 1 (omega arith), bit 2 (omega arith), bit 3 (omega arith), bit 4 (omega arith), bit 5 (omega arith), bit 6 (omega arith), bit 7 (omega arith)) (bits_of_byte (get_or bs i 0) h)

-- a field of whole bytes, with one byte more
pub field_push : (bs : List ℕ) (first k : ℕ) → get_or bs (first + k) 0 < 256 → field bs (8 * first) (8 * (k + 1)) ≡ field bs (8 * first) (8 * k) * 256 + get_or bs (first + k) 0
field_push bs first k h =
    let e : 8 * (k + 1) ≡ 8 * k + 8 = omega arith in
    let d : 8 * first + 8 * k ≡ 8 * (first + k) = omega arith in
    rw (e, field_split bs (8 * first) (8 * k) 8, d, field_byte bs (first + k) h) refl
