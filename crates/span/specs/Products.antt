-- The product of two numbers lies between the least and the greatest product of the ends around them.
use Rattle.std.specs.Prelude.{ℕ, zero, suc, ℤ, pos, negsuc, ◌*ℤ◌, ◌≤ℤ◌}
use Rattle.std.proofs.Common.{arith}
use Rattle.std.proofs.Math.IntN.{suc_ℤ-*ℤ, pred_ℤ-*ℤ, zero-*ℤ, *ℤ_comm}
use Rattle.std.proofs.lemmas.Int.{ints, clamps}
use Rattle.span.specs.Span.{greatest_of_4, least_of_4}

times_up : (n : ℕ) (a c : ℤ) → a ≤ℤ c → (pos n *ℤ a) ≤ℤ (pos n *ℤ c)
times_up zero a c h = omega (arith, ints, zero-*ℤ a, zero-*ℤ c)
times_up (suc n) a c h = omega (arith, ints, suc_ℤ-*ℤ (pos n) a, suc_ℤ-*ℤ (pos n) c, times_up n a c h)

times_down : (n : ℕ) (a c : ℤ) → a ≤ℤ c → (negsuc n *ℤ c) ≤ℤ (negsuc n *ℤ a)
times_down zero a c h = omega (arith, ints, pred_ℤ-*ℤ (pos 0) a, pred_ℤ-*ℤ (pos 0) c, zero-*ℤ a, zero-*ℤ c)
times_down (suc n) a c h = omega (arith, ints, pred_ℤ-*ℤ (negsuc n) a, pred_ℤ-*ℤ (negsuc n) c, times_down n a c h)

side_low : (b l h a m : ℤ) → l ≤ℤ a → a ≤ℤ h → m ≤ℤ (b *ℤ l) → m ≤ℤ (b *ℤ h) → m ≤ℤ (b *ℤ a)
side_low (pos n) l h a m x y p q = omega (arith, ints, times_up n l a x)
side_low (negsuc n) l h a m x y p q = omega (arith, ints, times_down n a h y)

side_high : (b l h a m : ℤ) → l ≤ℤ a → a ≤ℤ h → (b *ℤ l) ≤ℤ m → (b *ℤ h) ≤ℤ m → (b *ℤ a) ≤ℤ m
side_high (pos n) l h a m x y p q = omega (arith, ints, times_up n a h y)
side_high (negsuc n) l h a m x y p q = omega (arith, ints, times_down n l a x)

module _ (l h l' h' a b m : ℤ) (la : l ≤ℤ a) (ah : a ≤ℤ h) (lb : l' ≤ℤ b) (bh : b ≤ℤ h') where
  -- what is not above the four products of ends is not above the product
  corner_low : m ≤ℤ (l *ℤ l') → m ≤ℤ (l *ℤ h') → m ≤ℤ (h *ℤ l') → m ≤ℤ (h *ℤ h') → m ≤ℤ (a *ℤ b)
  corner_low p q r s =
      side_low a l' h' b m lb bh
      (rw (*ℤ_comm a l') (side_low l' l h a m la ah (rw (*ℤ_comm l' l) p) (rw (*ℤ_comm l' h) r)))
      (rw (*ℤ_comm a h') (side_low h' l h a m la ah (rw (*ℤ_comm h' l) q) (rw (*ℤ_comm h' h) s)))

  corner_high : (l *ℤ l') ≤ℤ m → (l *ℤ h') ≤ℤ m → (h *ℤ l') ≤ℤ m → (h *ℤ h') ≤ℤ m → (a *ℤ b) ≤ℤ m
  corner_high p q r s =
      side_high a l' h' b m lb bh
      (rw (*ℤ_comm a l') (side_high l' l h a m la ah (rw (*ℤ_comm l' l) p) (rw (*ℤ_comm l' h) r)))
      (rw (*ℤ_comm a h') (side_high h' l h a m la ah (rw (*ℤ_comm h' l) q) (rw (*ℤ_comm h' h) s)))

module _ (l h l' h' a b : ℤ) (la : l ≤ℤ a) (ah : a ≤ℤ h) (lb : l' ≤ℤ b) (bh : b ≤ℤ h') where
  pub product_from_least : least_of_4 (l *ℤ l') (l *ℤ h') (h *ℤ l') (h *ℤ h') ≤ℤ (a *ℤ b)
  unfolding least_of_4
  product_from_least = corner_low l h l' h' a b _ la ah lb bh (omega (arith, ints, clamps)) (omega (arith, ints, clamps)) (omega (arith, ints, clamps)) (omega (arith, ints, clamps))

  pub product_to_greatest : (a *ℤ b) ≤ℤ greatest_of_4 (l *ℤ l') (l *ℤ h') (h *ℤ l') (h *ℤ h')
  unfolding greatest_of_4
  product_to_greatest = corner_high l h l' h' a b _ la ah lb bh (omega (arith, ints, clamps)) (omega (arith, ints, clamps)) (omega (arith, ints, clamps)) (omega (arith, ints, clamps))
