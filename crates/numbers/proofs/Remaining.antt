-- A division by a number other than 0 leaves exactly one remainder: that of the division cut toward zero.
use Rattle.std.proofs.Common.{◌≡◌, ℕ, zero, suc, ◌+◌, ◌*◌, ◌%◌, ◌<◌, ◌⊎◌, ℤ, pos, negsuc, ◌+ℤ◌, ◌*ℤ◌, neg_ℤ, nat_abs, ◌≤ℤ◌, sym, refl, ap, ◌∙◌, inl, inr, mod-eq_of_lt, arith}
use lib.Arith.{digits_mod}
use lib.Signed.{quot_z, rem_z}
use Rattle.std.proofs.lemmas.Int.{ints, quot-rem, rem_below}
use Rattle.numbers.specs.Rules.{Remains}

some : (y : ℤ) → (y ≡ pos 0 → ⊥) → 0 < nat_abs y
some (pos zero) n = absurd (n refl)
some (pos (suc b)) n = omega arith
some (negsuc b) n = omega arith

not_below : (x y : ℤ) → pos 0 ≤ℤ x → pos 0 ≤ℤ rem_z x y
not_below x y h = grind (arith, ints)

not_above : (x y : ℤ) → x ≤ℤ pos 0 → rem_z x y ≤ℤ pos 0
not_above x y h = grind (arith, ints)

pub int_rem_remains : (x y : ℤ) → (y ≡ pos 0 → ⊥) → Remains x y (rem_z x y)
int_rem_remains x y n = record { quotient = quot_z x y; whole = sym (quot-rem x y); smaller = rem_below x y (some y n); not_below = not_below x y; not_above = not_above x y }

-- a product is that of the sizes, or its opposite
product : (q y : ℤ) → (q *ℤ y ≡ pos (nat_abs q * nat_abs y)) ⊎ (q *ℤ y ≡ neg_ℤ (pos (nat_abs q * nat_abs y)))
product (pos a) (pos b) = inl refl
product (pos a) (negsuc b) = inr refl
product (negsuc a) (pos b) = inr refl
product (negsuc a) (negsuc b) = inl refl

-- sizes: a is a multiple of b and r more, or the multiple is none and a is r
left_over : (a b k r : ℕ) → r < b → (a ≡ k * b + r) ⊎ (a + k * b ≡ r) → a % b ≡ r
left_over a b k r h (inl e) = ap (λ n. n % b) e ∙ digits_mod k h
left_over a b zero r h (inr e) = let is : a ≡ r = omega arith in ap (λ n. n % b) is ∙ mod-eq_of_lt h
left_over a b (suc k) r h (inr e) = absurd (omega arith)

upward : (a n r : ℕ) (m : ℤ) → (m ≡ pos n) ⊎ (m ≡ neg_ℤ (pos n)) → pos a ≡ m +ℤ pos r → (a ≡ n + r) ⊎ (a + n ≡ r)
upward a n r m (inl e) w = inl (omega (arith, ints))
upward a n r m (inr e) w = inr (omega (arith, ints))

downward : (a n r : ℕ) (m : ℤ) → (m ≡ pos n) ⊎ (m ≡ neg_ℤ (pos n)) → negsuc a ≡ m +ℤ neg_ℤ (pos r) → (suc a ≡ n + r) ⊎ (suc a + n ≡ r)
downward a n r m (inl e) w = inr (omega (arith, ints))
downward a n r m (inr e) w = inl (omega (arith, ints))

pub remains_int_rem : (x y z : ℤ) → Remains x y z → rem_z x y ≡ z
remains_int_rem (pos a) y (pos r) h = ap pos (left_over a (nat_abs y) _ r h.smaller (upward a _ r _ (product h.quotient y) h.whole))
remains_int_rem (pos a) y (negsuc r) h = absurd (h.not_below (omega (arith, ints))).le
remains_int_rem (negsuc a) y (pos zero) h = ap (λ n. neg_ℤ (pos n)) (left_over (suc a) (nat_abs y) _ 0 h.smaller (downward a _ 0 _ (product h.quotient y) h.whole))
remains_int_rem (negsuc a) y (pos (suc r)) h = absurd (omega (arith, ints, h.not_above (omega (arith, ints))))
remains_int_rem (negsuc a) y (negsuc r) h = ap (λ n. neg_ℤ (pos n)) (left_over (suc a) (nat_abs y) _ (suc r) h.smaller (downward a _ (suc r) _ (product h.quotient y) h.whole))
