-- A number has exactly one number of 32 bits that differs from it by a multiple of 2 ^ 32: the wrapped one.
use Rattle.std.proofs.Common.{◌≡◌, ℕ, suc, ◌+◌, ◌-◌, ◌*◌, ◌/◌, ◌%◌, ◌<◌, Bool, true, false, ltb, ℤ, pos, negsuc, ◌+ℤ◌, refl, mod-lt, arith, lit≤, w32, to_z}
use mir.Val.{sel}
use Rattle.std.specs.Int.{int_wrap}
use Rattle.std.proofs.lemmas.Int.{ints, SFits-int_wrap}
use Rattle.std.proofs.lemmas.Bool.{ltb-false}
use Rattle.numbers.specs.Rules.{Wraps}

-- how many times 2 ^ 32 the signed reading of n lies below n
read : (n : ℕ) → n < 4294967296 → (j : ℕ) × (to_z w32 n +ℤ pos (j * 4294967296) ≡ pos n)
read n h = by (ltb n 2147483648) refl
  where
    by : (t : Bool) → ltb n 2147483648 ≡ t → (j : ℕ) × (sel t (pos n) (negsuc (4294967296 - suc n)) +ℤ pos (j * 4294967296) ≡ pos n)
    by true e = (0, omega (arith, ints))
    by false e = (1, omega (arith, ints, ltb-false n 2147483648 e))

turns : (t : ℤ) → (u : ℕ) × (d : ℕ) × (t +ℤ pos (u * 4294967296) ≡ int_wrap w32 t +ℤ pos (d * 4294967296))
unfolding int_wrap
turns (pos a) =
    let r = read (a % 4294967296) (mod-lt a (lit≤ tt)) in
    (0, r.0 + a / 4294967296, omega (arith, ints, r.1))
turns (negsuc a) =
    let r = read (4294967295 - a % 4294967296) (omega arith) in
    (a / 4294967296 + 1, r.0, omega (arith, ints, r.1))

pub wrapped_wraps : (t : ℤ) → Wraps t (int_wrap w32 t)
wrapped_wraps t = let s = turns t in record { number = (SFits-int_wrap w32 t).sfits; up = s.0; down = s.1; turned = s.2 }

pub wraps_one : (t y z : ℤ) → Wraps t y → Wraps t z → y ≡ z
wraps_one t y z v w = omega (arith, ints, v, w)
