-- What the code computes on words of up to 8 bytes, and one turn of each loop over bytes.
use Rattle.std.proofs.Common.{◌≡◌, ℕ, ◌+◌, ◌-◌, ◌*◌, ◌/◌, ◌%◌, ◌^◌, ◌<◌, ◌≤◌, List, length, get_or, set, sym, ap, ◌∙◌, ap₂, add-zero, arith}
use borrow.Rule.Slice.PartMut.{put_mid}
use lib.Bits.{bit_and, bit_or, bit_xor, xor_zero_l, xor_zero_r, xor_self, xor_assoc, xor_mod, xor_block}
use Rattle.std.specs.Int.{w64, from_be_bytes, to_be_bytes}
use Rattle.std.specs.List.{between}
use Rattle.std.proofs.lemmas.List.Edits.{get_or-between}
use Rattle.std.proofs.lemmas.Nat.{and_mask, mod_below, one_shl, or_shifted, pow_pos, shl_whole, shr_split}
use Rattle.bits.specs.Field.{field, put}
use Rattle.bits.proofs.FieldLaws.{field_byte, field_lt, field_push, field_window}
use Rattle.bits.proofs.PutLaws.{put_before, put_whole, put_window}

-- the field of 8 bytes
pub field_8 : (bs ys : List ℕ) (f : ℕ) → ((i : ℕ) → get_or bs i 0 < 256) → ys ≡ between f (f + 8) bs → from_be_bytes w64 ys ≡ field bs (8 * f) 64
field_8 bs ys f small is =
    let at : (k : ℕ) → k < 8 → get_or ys k 0 ≡ get_or bs (f + k) 0 = λ k lt. ap (λ xs. get_or xs k 0) is ∙ get_or-between bs f (f + 8) k 0 (omega arith) in
    let e0 : field bs (8 * f) 8 ≡ get_or bs (f + 0) 0 = rw (add-zero f) (field_byte bs f (small f)) in
    let e1 = field_push bs f 1 (small _) in
    let e2 = field_push bs f 2 (small _) in
    let e3 = field_push bs f 3 (small _) in
    let e4 = field_push bs f 4 (small _) in
    let e5 = field_push bs f 5 (small _) in
    let e6 = field_push bs f 6 (small _) in
    let e7 = field_push bs f 7 (small _) in
    omega (arith, at 0 (omega arith), at 1 (omega arith), at 2 (omega arith), at 3 (omega arith), at 4 (omega arith), at 5 (omega arith), at 6 (omega arith), at 7 (omega arith))

-- the write of 8 bytes
pub put_8 : (bs ys : List ℕ) (f k v : ℕ) → k ≡ 8 → ys ≡ to_be_bytes w64 v → f + 8 ≤ length bs → ((i : ℕ) → get_or bs i 0 < 256) → put_mid f k bs ys ≡ put bs (8 * f) 64 v
put_8 bs ys f k v all is fits small = ap₂ (λ (n : ℕ) (zs : List ℕ). put_mid f n bs zs) all is ∙ sym (put_whole 8 bs f v fits (λ i h. small i))

-- the bits from `at` on, by a word that begins before them
pub field_from : (bs : List ℕ) (first size at width below word : ℕ) → 8 * first ≤ at → at + width + below ≡ 8 * first + size → word ≡ field bs (8 * first) size → word / 2 ^ below % 2 ^ width ≡ field bs at width
field_from bs first size at width below word h e is =
    let s : size ≡ at - 8 * first + width + below = omega arith in
    let d : 8 * first + (at - 8 * first) ≡ at = omega arith in
    ap (λ x. x / 2 ^ below % 2 ^ width) is ∙ field_window bs (8 * first) (at - 8 * first) width below size s ∙ ap (λ i. field bs i width) d

-- a write from `at` on, by a word that begins before it
pub put_from : (bs : List ℕ) (first size at width below word new value : ℕ) → 8 * first ≤ at → at + width + below ≡ 8 * first + size → at + width ≤ 8 * length bs
    → word ≡ field bs (8 * first) size → new ≡ (word / 2 ^ below / 2 ^ width * 2 ^ width + value % 2 ^ width) * 2 ^ below + word % 2 ^ below
    → put bs (8 * first) size new ≡ put bs at width value
put_from bs first size at width below word new value h e fits is made =
    let a = at - 8 * first in
    let s : size ≡ a + width + below = omega arith in
    let d : 8 * first + a ≡ at = omega arith in
    rw (made, is) (put_window bs (8 * first) a width below value size s (omega arith) ∙ ap (λ i. put bs i width value) d)

-- one turn of the loop that reads bytes
pub field_next_byte : (bs : List ℕ) (first k x word : ℕ) → k < 8 → x ≡ get_or bs (first + k) 0 → get_or bs (first + k) 0 < 256 → word ≡ field bs (8 * first) (8 * k)
    → bit_or (word * 2 ^ 8 % 2 ^ 64) x ≡ field bs (8 * first) (8 * (k + 1))
field_next_byte bs first k x word lt byte small is =
    let F = field bs (8 * first) (8 * k) in
    let whole : F * 2 ^ 8 % 2 ^ 64 ≡ F * 2 ^ 8 = shl_whole F (8 * k) 8 64 (field_lt bs (8 * first) (8 * k)) (omega arith) in
    rw (is, byte, whole, or_shifted F 8 (get_or bs (first + k) 0) small) (sym (field_push bs first k small))

-- one turn of the loop that writes bytes, from the last one on
pub put_byte_before : (bs cur : List ℕ) (i k v rest : ℕ) → i < length bs → get_or bs i 0 < 256 → rest ≡ v / 2 ^ (8 * k) → cur ≡ put bs (8 * (i + 1)) (8 * k) v
    → set cur i (bit_and rest 255) ≡ put bs (8 * i) (8 * (k + 1)) v
put_byte_before bs cur i k v rest lt small left is =
    let low : bit_and (v / 2 ^ (8 * k)) 255 ≡ v / 2 ^ (8 * k) % 256 = and_mask _ 8 in
    rw (is, left, low) (sym (put_before bs i k v lt small))

-- what the code of `patched` computes: it changes the bits that differ
pub patch_is : (x t w v : ℕ) → w ≤ 32 → t + w ≤ 64
    → bit_xor x (bit_and (bit_xor (x / 2 ^ t) v) (1 * 2 ^ w % 2 ^ 64 - 1) * 2 ^ t % 2 ^ 64) ≡ (x / 2 ^ t / 2 ^ w * 2 ^ w + v % 2 ^ w) * 2 ^ t + x % 2 ^ t
patch_is x t w v hw h =
    let X = x / 2 ^ t in
    let M = X % 2 ^ w in
    let V = v % 2 ^ w in
    let D = bit_xor X v % 2 ^ w in
    let w64 : w < 64 = omega arith in
    let below : (n k : ℕ) → n % 2 ^ k < 2 ^ k = λ n k. mod_below n (2 ^ k) (pow_pos k) in
    let whole : D * 2 ^ t % 2 ^ 64 ≡ D * 2 ^ t = shl_whole D w t 64 (below (bit_xor X v) w) (omega arith) in
    let new : bit_xor M D ≡ V = ap (λ n. bit_xor M n) (xor_mod X v w) ∙ sym (xor_assoc M M V) ∙ ap (λ n. bit_xor n V) (xor_self M) ∙ xor_zero_l V in
    let low : D ≡ 0 * 2 ^ w + D = omega arith in
    let none : D * 2 ^ t ≡ D * 2 ^ t + 0 = omega arith in
    let top : bit_xor X D ≡ X / 2 ^ w * 2 ^ w + V = ap₂ (λ (a b : ℕ). bit_xor a b) (sym (shr_split X w)) low ∙ xor_block w (X / 2 ^ w) 0 M D (below X w) (below (bit_xor X v) w) ∙ ap₂ (λ (a b : ℕ). a * 2 ^ w + b) (xor_zero_r (X / 2 ^ w)) new in
    rw (one_shl w 64 w64, and_mask (bit_xor X v) w, whole)
    (ap₂ (λ (a b : ℕ). bit_xor a b) (sym (shr_split x t)) none ∙ xor_block t X D (x % 2 ^ t) 0 (below x t) (pow_pos t) ∙ ap₂ (λ (a b : ℕ). a * 2 ^ t + b) top (xor_zero_r (x % 2 ^ t)))
