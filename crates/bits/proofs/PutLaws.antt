-- What is written: a write's parts, what is read after it, and the writes of bytes.
use Rattle.std.proofs.Common.{◌≡◌, ℕ, zero, suc, ◌+◌, ◌-◌, ◌*◌, ◌/◌, ◌%◌, ◌^◌, ◌<◌, ◌≤◌, ◌⊎◌, ◌≢◌, List, ◌∷◌, ◌++◌, length, get_or, set, take, drop, sym, refl, ap, ◌∙◌, ap₂, inl, inr, ⊎_elim, add-zero, append_assoc, add_assoc, add-suc, mul_assoc, pow-suc, add-one, arith, length-set, get_or-set_same, get_or-set_other, set-set}
use borrow.Rule.Slice.PartMut.{put_mid}
use Rattle.std.specs.Int.{byte_at, bytes_high_first}
use Rattle.std.proofs.lemmas.List.{drop-drop, drop-set-lt, set_comm, set-get_or, take_more_set, take-append-drop}
use Rattle.std.proofs.lemmas.Nat.{mod_below, mod_low, mod-pow-add, pow-add, pow_pos, shr_high, shr-shr, shr_split}
use Rattle.bits.specs.Field.{bit_at, field, put, put_bit, with_bit}
use Rattle.bits.proofs.BitLaws.{bit_same, bit_other, bit_own, with_bit_next}
use Rattle.bits.proofs.FieldLaws.{field_lt, field_split}

pub put_none : (bs : List ℕ) (at v : ℕ) → put bs at 0 v ≡ bs
unfolding put
put_none bs at v = refl

-- a write of one bit more
pub put_more : (bs : List ℕ) (at w v : ℕ) → put bs at (w + 1) v ≡ put_bit (put bs at w (v / 2)) (at + w) (v % 2)
unfolding put
put_more bs at w v = ap (λ k. put bs at k v) (add-one w)

-- a write keeps the length
pub length_put : (bs : List ℕ) (at w v : ℕ) → length (put bs at w v) ≡ length bs
unfolding put
length_put bs at zero v = refl
length_put bs at (suc w) v = length-set (put bs at w (v / 2)) ((at + w) / 8) _ ∙ length_put bs at w (v / 2)

-- a write is the write of its first bits, and then of the rest
pub put_split : (bs : List ℕ) (at a b v : ℕ) → put bs at (a + b) v ≡ put (put bs at a (v / 2 ^ b)) (at + a) b v
unfolding put
put_split bs at a zero v =
    let e : v / 2 ^ 0 ≡ v = omega arith in
    rw (add-zero a, e) refl
put_split bs at a (suc b) v =
    let ih = put_split bs at a b (v / 2) in
    let h : v / 2 / 2 ^ b ≡ v / 2 ^ suc b = shr-shr v 1 b ∙ ap (λ n. v / 2 ^ n) (omega arith) in
    rw (add-suc a b, ih, h, add_assoc at a b) refl

-- the bits of the value above the width do not matter
pub put_low : (bs : List ℕ) (at w h v : ℕ) → put bs at w (h * 2 ^ w + v) ≡ put bs at w v
unfolding put
put_low bs at zero h v = refl
put_low bs at (suc w) h v =
    let p : h * 2 ^ suc w ≡ h * 2 ^ w * 2 = ap (λ x. h * x) (pow-suc 2 w) ∙ sym (mul_assoc h (2 ^ w) 2) in
    let d : (h * 2 ^ suc w + v) / 2 ≡ h * 2 ^ w + v / 2 = omega (arith, p) in
    let m : (h * 2 ^ suc w + v) % 2 ≡ v % 2 = omega (arith, p) in
    rw (d, m, put_low bs at w h (v / 2)) refl

-- what is read, written again, changes nothing
pub put_own : (bs : List ℕ) (at w : ℕ) → put bs at w (field bs at w) ≡ bs
unfolding put field
put_own bs at zero = refl
put_own bs at (suc w) =
    let d : (2 * field bs at w + bit_at bs (at + w)) / 2 ≡ field bs at w = omega arith in
    let m : (2 * field bs at w + bit_at bs (at + w)) % 2 ≡ bit_at bs (at + w) = omega arith in
    rw (d, m, put_own bs at w) (bit_own bs (at + w))

-- a field that the write of a bit does not meet is as it was
field_put_bit : (bs : List ℕ) (i b at w : ℕ) → b < 2 → i < 8 * length bs → ((i < at) ⊎ (at + w ≤ i)) → field (put_bit bs i b) at w ≡ field bs at w
unfolding field
field_put_bit bs i b at zero lt h apart = refl
field_put_bit bs i b at (suc w) lt h apart =
    let more : (i < at) ⊎ (at + w ≤ i) = ⊎_elim (λ p. inl p) (λ p. inr (omega arith)) apart in
    let ne : i ≡ at + w → ⊥ = ⊎_elim (λ p q. omega arith) (λ p q. omega arith) apart in
    rw (field_put_bit bs i b at w lt h more, bit_other bs i (at + w) b lt h ne) refl

-- a field that a write does not meet is as it was
pub field_put_other : (bs : List ℕ) (at w v at' w' : ℕ) → at + w ≤ 8 * length bs → ((at + w ≤ at') ⊎ (at' + w' ≤ at)) → field (put bs at w v) at' w' ≡ field bs at' w'
unfolding put
field_put_other bs at zero v at' w' h apart = refl
field_put_other bs at (suc w) v at' w' h apart =
    let more : (at + w ≤ at') ⊎ (at' + w' ≤ at) = ⊎_elim (λ p. inl (omega arith)) (λ p. inr p) apart in
    let here : (at + w < at') ⊎ (at' + w' ≤ at + w) = ⊎_elim (λ p. inl (omega arith)) (λ p. inr (omega arith)) apart in
    let len = length_put bs at w (v / 2) in
    field_put_bit (put bs at w (v / 2)) (at + w) (v % 2) at' w' (omega arith) (omega arith) here ∙ field_put_other bs at w (v / 2) at' w' (omega arith) more

-- what is written is read
pub field_put : (bs : List ℕ) (at w v : ℕ) → at + w ≤ 8 * length bs → v < 2 ^ w → field (put bs at w v) at w ≡ v
unfolding field put
field_put bs at zero v h lt = omega arith
field_put bs at (suc w) v h lt =
    let len = length_put bs at w (v / 2) in
    let p = pow-suc 2 w in
    let e = field_put_bit (put bs at w (v / 2)) (at + w) (v % 2) at w (omega arith) (omega arith) (inr (omega arith)) in
    let d = bit_same (put bs at w (v / 2)) (at + w) (v % 2) (omega arith) (omega arith) in
    let ih = field_put bs at w (v / 2) (omega arith) (omega arith) in
    rw (e, d, ih) (omega arith)

-- a write within a longer field of n bits, which has a bits before it and t bits after it, both kept
pub put_window : (bs : List ℕ) (at a w t v n : ℕ) → n ≡ a + w + t → at + a + w ≤ 8 * length bs
    → put bs at n ((field bs at n / 2 ^ t / 2 ^ w * 2 ^ w + v % 2 ^ w) * 2 ^ t + field bs at n % 2 ^ t) ≡ put bs (at + a) w v
put_window bs at a w t v n e h =
    let H = field bs at a in
    let L = field bs (at + (a + w)) t in
    let V = v % 2 ^ w in
    let X = put bs (at + a) w v in
    let lt : L < 2 ^ t = field_lt bs (at + (a + w)) t in
    let up : field bs at (a + w + t) / 2 ^ t ≡ field bs at (a + w) = ap (λ x. x / 2 ^ t) (field_split bs at (a + w) t) ∙ shr_high (field bs at (a + w)) t L lt in
    let top : field bs at (a + w + t) / 2 ^ t / 2 ^ w ≡ H = ap (λ x. x / 2 ^ w) (up ∙ field_split bs at a w) ∙ shr_high H w (field bs (at + a) w) (field_lt bs (at + a) w) in
    let low : field bs at (a + w + t) % 2 ^ t ≡ L = ap (λ x. x % 2 ^ t) (field_split bs at (a + w) t) ∙ mod_low (field bs at (a + w)) t L lt in
    let same : L ≡ field X (at + (a + w)) t = sym (field_put_other bs (at + a) w v (at + (a + w)) t h (inl (omega arith))) in
    let inner : put bs at (a + w) (H * 2 ^ w + V) ≡ X =
    put_split bs at a w (H * 2 ^ w + V)
    ∙ ap (λ n. put (put bs at a n) (at + a) w (H * 2 ^ w + V)) (shr_high H w V (mod_below v (2 ^ w) (pow_pos w)))
    ∙ ap (λ bs'. put bs' (at + a) w (H * 2 ^ w + V)) (put_own bs at a)
    ∙ put_low bs (at + a) w H V
    ∙ sym (put_low bs (at + a) w (v / 2 ^ w) V)
    ∙ ap (λ n. put bs (at + a) w n) (shr_split v w) in
    let W = (H * 2 ^ w + V) * 2 ^ t + L in
    ap (λ k. put bs at k ((field bs at k / 2 ^ t / 2 ^ w * 2 ^ w + V) * 2 ^ t + field bs at k % 2 ^ t)) e
    ∙ ap₂ (λ (x y : ℕ). put bs at (a + w + t) ((x * 2 ^ w + V) * 2 ^ t + y)) top low
    ∙ put_split bs at (a + w) t W
    ∙ ap (λ n. put (put bs at (a + w) n) (at + (a + w)) t W) (shr_high (H * 2 ^ w + V) t L lt)
    ∙ ap (λ bs'. put bs' (at + (a + w)) t W) inner
    ∙ put_low X (at + (a + w)) t (H * 2 ^ w + V) L
    ∙ ap (λ n. put X (at + (a + w)) t n) same
    ∙ put_own X (at + (a + w)) t

byte_next : (x v j : ℕ) → j < 8 → with_bit (v / 2 % 2 ^ j * 2 ^ (8 - j) + x % 2 ^ (8 - j)) (7 - j) (v % 2) ≡ v % 2 ^ suc j * 2 ^ (8 - suc j) + x % 2 ^ (8 - suc j)
byte_next x v j h =
    let e : 8 - j ≡ 1 + (7 - j) = omega arith in
    let d : 8 - suc j ≡ 7 - j = omega arith in
    let f : v % 2 ^ suc j ≡ v / 2 % 2 ^ j * 2 + v % 2 = ap (λ n. v % 2 ^ n) (sym (add-one j)) ∙ mod-pow-add v j 1 in
    rw (e, d, f) (with_bit_next (v / 2 % 2 ^ j) x (7 - j) (v % 2))

-- the write of the first j bits of a byte
put_part : (bs : List ℕ) (i : ℕ) → i < length bs → get_or bs i 0 < 256 → (j v : ℕ) → j ≤ 8 → put bs (8 * i) j v ≡ set bs i (v % 2 ^ j * 2 ^ (8 - j) + get_or bs i 0 % 2 ^ (8 - j))
unfolding put
put_part bs i lt h zero v le =
    let e : v % 2 ^ 0 * 2 ^ (8 - 0) + get_or bs i 0 % 2 ^ (8 - 0) ≡ get_or bs i 0 = omega arith in
    sym (ap (λ y. set bs i y) e ∙ set-get_or bs i 0)
put_part bs i lt h (suc j) v le =
    let q : (8 * i + j) / 8 ≡ i = omega arith in
    let m : (8 * i + j) % 8 ≡ j = omega arith in
    let ih = put_part bs i lt h j (v / 2) (omega arith) in
    rw (ih, q, m, get_or-set_same, set-set) (ap (λ y. set bs i y) (byte_next (get_or bs i 0) v j (omega arith)))

-- the write of a whole byte
pub put_byte : (bs : List ℕ) (i v : ℕ) → i < length bs → get_or bs i 0 < 256 → put bs (8 * i) 8 v ≡ set bs i (v % 256)
put_byte bs i v lt h =
    let e : v % 2 ^ 8 * 2 ^ (8 - 8) + get_or bs i 0 % 2 ^ (8 - 8) ≡ v % 256 = omega arith in
    put_part bs i lt h 8 v (omega arith) ∙ ap (λ y. set bs i y) e

-- a byte set before a write
set_put : (bs : List ℕ) (at w v i b : ℕ) → 8 * i + 8 ≤ at → set (put bs at w v) i b ≡ put (set bs i b) at w v
unfolding put
set_put bs at zero v i b h = refl
set_put bs at (suc w) v i b h =
    let ne : (at + w) / 8 ≢ i = omega arith in
    rw (← set_put bs at w (v / 2) i b h, get_or-set_other) (set_comm (put bs at w (v / 2)) ((at + w) / 8) i _ b ne)

-- the write of k bytes and of one before them
pub put_before : (bs : List ℕ) (i k v : ℕ) → i < length bs → get_or bs i 0 < 256 → put bs (8 * i) (8 * (k + 1)) v ≡ set (put bs (8 * (i + 1)) (8 * k) v) i (v / 2 ^ (8 * k) % 256)
put_before bs i k v lt h =
    let e : 8 * (k + 1) ≡ 8 + 8 * k = omega arith in
    let d : 8 * i + 8 ≡ 8 * (i + 1) = omega arith in
    rw (e, put_split bs (8 * i) 8 (8 * k) v, put_byte bs i (v / 2 ^ (8 * k)) lt h, d) (sym (set_put bs (8 * (i + 1)) (8 * k) v i _ (omega arith)))

pow_256 : (k : ℕ) → 2 ^ (8 * k) ≡ 256 ^ k
pow_256 zero = refl
pow_256 (suc k) =
    let e : 8 * suc k ≡ 8 * k + 8 = omega arith in
    rw (e, pow-add 2 (8 * k) 8, pow_256 k, pow-suc 256 k) refl

byte_of : (k v : ℕ) → v / 2 ^ (8 * k) % 256 ≡ byte_at k v
byte_of zero v = omega arith
byte_of (suc k) v = ap (λ n. v / n % 256) (pow_256 (suc k))

-- the write of n bytes
pub put_whole : (n : ℕ) (bs : List ℕ) (i v : ℕ) → i + n ≤ length bs → ((j : ℕ) → i ≤ j → get_or bs j 0 < 256)
    → put bs (8 * i) (8 * n) v ≡ put_mid i n bs (bytes_high_first n v)
unfolding put
put_whole zero bs i v fits small = sym (take-append-drop i bs)
put_whole (suc n) bs i v fits small =
    let e : 8 * suc n ≡ 8 + 8 * n = omega arith in
    let d : 8 * i + 8 ≡ 8 * (i + 1) = omega arith in
    let b = byte_at n v in
    let lt : i < length bs = omega arith in
    let len = length-set bs i b in
    let more : (j : ℕ) → i + 1 ≤ j → get_or (set bs i b) j 0 < 256 = λ j h. let ne : j ≢ i = omega arith in rw get_or-set_other (small j (omega arith)) in
    let f : i + 1 + n ≡ i + suc n = omega arith in
    let rest : drop n (drop (i + 1) bs) ≡ drop (suc n) (drop i bs) = drop-drop n (i + 1) bs ∙ ap (λ k. drop k bs) f ∙ sym (drop-drop (suc n) i bs) in
    rw (e, put_split bs (8 * i) 8 (8 * n) v, put_byte bs i (v / 2 ^ (8 * n)) lt (small i (omega arith)), byte_of n v, d, put_whole n (set bs i b) (i + 1) v (omega arith) more, take_more_set bs i b lt, append_assoc, drop-set-lt (i + 1) bs i b (omega arith)) (ap (λ xs. take i bs ++ b ∷ (bytes_high_first n v ++ xs)) rest)
