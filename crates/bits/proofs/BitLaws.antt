-- A byte with one bit made another, and a list with one bit made another.
use Rattle.std.proofs.Common.{◌≡◌, ℕ, suc, ◌+◌, ◌-◌, ◌*◌, ◌/◌, ◌%◌, ◌^◌, ◌<◌, ◌≤◌, ◌≢◌, List, length, get_or, set, sym, refl, ap, ◌∙◌, ap₂, inl, inr, pow-suc, mul_assoc, add-mul, arith, get_or-set_other, get_or-set_same}
use Rattle.std.proofs.Math.Nat.{mul-le-mul_right}
use Rattle.std.proofs.lemmas.List.{set-get_or}
use Rattle.std.proofs.lemmas.Nat.{div_below, mod_below, mod_low, mod-pow-add, pow-add, pow_pos, shr_high, shr_split}
use Rattle.std.proofs.lemmas.Nat.Bits.{bit_at_cat_high, bit_at_cat_low}
use Rattle.std.proofs.lemmas.Bool.{cases_eq, cases_order}
use Rattle.bits.specs.Field.{bit_at, put_bit, with_bit}

high_part : (x s b : ℕ) → with_bit x s b / 2 ^ s ≡ x / 2 ^ s / 2 * 2 + b
high_part x s b = shr_high (x / 2 ^ s / 2 * 2 + b) s (x % 2 ^ s) (mod_below x (2 ^ s) (pow_pos s))

same_bit : (x s b : ℕ) → b < 2 → with_bit x s b / 2 ^ s % 2 ≡ b
same_bit x s b lt = omega (arith, high_part x s b)

-- a byte with a bit made what it is
own_bit : (x s : ℕ) → with_bit x s (x / 2 ^ s % 2) ≡ x
own_bit x s =
    let e : x / 2 ^ s / 2 * 2 + x / 2 ^ s % 2 ≡ x / 2 ^ s = omega arith in
    ap (λ q. q * 2 ^ s + x % 2 ^ s) e ∙ shr_split x s

low_bit : (x s b t : ℕ) → t < s → with_bit x s b / 2 ^ t % 2 ≡ x % 2 ^ s / 2 ^ t % 2
low_bit x s b t h = bit_at_cat_low (x / 2 ^ s / 2 * 2 + b) s (x % 2 ^ s) t h

high_bit : (x s b t : ℕ) → b < 2 → s < t → with_bit x s b / 2 ^ t % 2 ≡ x / 2 ^ s / 2 / 2 ^ (t - s - 1) % 2
high_bit x s b t lt h =
    bit_at_cat_high (x / 2 ^ s / 2 * 2 + b) s (x % 2 ^ s) t (mod_below x (2 ^ s) (pow_pos s)) (omega arith)
    ∙ bit_at_cat_high (x / 2 ^ s / 2) 1 b (t - s) lt (omega arith)

other_bit : (x s b t : ℕ) → b < 2 → (s ≡ t → ⊥) → with_bit x s b / 2 ^ t % 2 ≡ x / 2 ^ t % 2
other_bit x s b t lt ne =
    let own = ap (λ y. y / 2 ^ t % 2) (own_bit x s) in
    elim (cases_order s t) [
      | inl e ↦ absurd (ne e)
      | inr (inl h) ↦ high_bit x s b t lt h ∙ sym (high_bit x s _ t (omega arith) h) ∙ own
      | inr (inr h) ↦ low_bit x s b t h ∙ sym (low_bit x s _ t h) ∙ own
    ]

-- a bit that is written is read
pub bit_same : (bs : List ℕ) (i b : ℕ) → b < 2 → i < 8 * length bs → bit_at (put_bit bs i b) i ≡ b
bit_same bs i b lt h =
    let k : i / 8 < length bs = omega arith in
    rw get_or-set_same (same_bit (get_or bs (i / 8) 0) (7 - i % 8) b lt)

-- every other bit is as it was
pub bit_other : (bs : List ℕ) (i j b : ℕ) → b < 2 → i < 8 * length bs → (i ≡ j → ⊥) → bit_at (put_bit bs i b) j ≡ bit_at bs j
bit_other bs i j b lt h ne =
    elim (cases_eq (i / 8) (j / 8)) [
      | inl e ↦
          (let k : j / 8 < length bs = omega arith in
          let n : 7 - i % 8 ≡ 7 - j % 8 → ⊥ = λ q. ne (omega arith) in
          rw (e, get_or-set_same) (other_bit (get_or bs (j / 8) 0) (7 - i % 8) b (7 - j % 8) lt n))
      | inr d ↦ (let n : j / 8 ≢ i / 8 = λ q. d (sym q) in rw get_or-set_other refl)
    ]

-- a bit that is read and written again changes nothing
pub bit_own : (bs : List ℕ) (i : ℕ) → put_bit bs i (bit_at bs i) ≡ bs
bit_own bs i = ap (λ y. set bs (i / 8) y) (own_bit (get_or bs (i / 8) 0) (7 - i % 8)) ∙ set-get_or bs (i / 8) 0

-- a byte with a bit made another is a byte
pub with_bit_lt : (x b : ℕ) → x < 256 → b < 2 → (s : ℕ) → s < 8 → with_bit x s b < 256
with_bit_lt x b hx hb s hs =
    let P = 2 ^ s in
    let M = 2 ^ (7 - s) in
    let e : suc (7 - s) + s ≡ 8 = omega arith in
    let whole : M * 2 * P ≡ 256 = ap (λ n. n * P) (sym (pow-suc 2 (7 - s))) ∙ sym (pow-add 2 (suc (7 - s)) s) ∙ ap (λ n. 2 ^ n) e in
    let high : x / P / 2 < M = div_below (x / P) 2 M (omega arith) (div_below x P (M * 2) (pow_pos s) (omega arith)) in
    let low : x % P < P = mod_below x P (pow_pos s) in
    let one : b ≤ 1 = omega arith in
    omega (arith, mul-le-mul_right (2 * P) high, mul-le-mul_right P one)

-- a byte that has p for its highest bits and is x below them takes b for one bit more
pub with_bit_next : (p x k b : ℕ) → with_bit (p * 2 ^ (1 + k) + x % 2 ^ (1 + k)) k b ≡ (p * 2 + b) * 2 ^ k + x % 2 ^ k
with_bit_next p x k b =
    let y = p * 2 ^ (1 + k) + x % 2 ^ (1 + k) in
    let c = x / 2 ^ k % 2 in
    let a : p * 2 ^ (1 + k) ≡ p * 2 * 2 ^ k = ap (λ q. p * q) (pow-add 2 1 k) ∙ sym (mul_assoc p 2 (2 ^ k)) in
    let m : y ≡ (p * 2 + c) * 2 ^ k + x % 2 ^ k = omega (arith, a, add-mul (p * 2) c (2 ^ k), mod-pow-add x 1 k) in
    let lt : x % 2 ^ k < 2 ^ k = mod_below x (2 ^ k) (pow_pos k) in
    let hi : y / 2 ^ k ≡ p * 2 + c = ap (λ n. n / 2 ^ k) m ∙ shr_high (p * 2 + c) k (x % 2 ^ k) lt in
    let h2 : y / 2 ^ k / 2 * 2 + b ≡ p * 2 + b = omega (arith, hi) in
    let lo : y % 2 ^ k ≡ x % 2 ^ k = ap (λ n. n % 2 ^ k) m ∙ mod_low (p * 2 + c) k (x % 2 ^ k) lt in
    ap₂ (λ (q l : ℕ). q * 2 ^ k + l) h2 lo
