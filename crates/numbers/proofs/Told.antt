-- What is worked out, and what tests true, is what the rules say.
use Rattle.std.proofs.Common.{◌≡◌, Bool, true, false, cond, ℤ, pos, ◌+ℤ◌, ◌-ℤ◌, ◌*ℤ◌, Some, None, refl, ap, subst, arith, rules, w32}
use lib.Signed.{rem_z}
use Rattle.std.specs.Int.{int_wrap}
use Rattle.std.proofs.lemmas.Int.{ints}
use Rattle.std.proofs.lemmas.Bool.{both_ways}
use Rattle.macros.specs.declared.parts.Arithmetic.TheVariants.{Add, Subtract, Multiply, Remainder}
use Rattle.numbers.specs.Arithmetic.{same_int}
use Rattle.numbers.specs.Rules.{Wraps, Remains, ComputedGiven, GivenComputed, HeldCompares, ComparesHeld}
use Rattle.numbers.proofs.Same.{same_is, same_yes}
use Rattle.numbers.proofs.Wrapping.{wrapped_wraps, wraps_one}
use Rattle.numbers.proofs.Remaining.{int_rem_remains, remains_int_rem}

wraps_told : (t z : ℤ) → Some (int_wrap w32 t) ≡ Some z → Wraps t z
wraps_told t z e = let is : int_wrap w32 t ≡ z = cc in subst (Wraps t) is (wrapped_wraps t)

wraps_worked : (t z : ℤ) → Wraps t z → Some (int_wrap w32 t) ≡ Some z
wraps_worked t z w = ap Some (wraps_one t (int_wrap w32 t) z (wrapped_wraps t) w)

remains_told : (x y z : ℤ) (t : Bool) → same_int y (pos 0) ≡ t → cond t None (Some (rem_z x y)) ≡ Some z → Remains x y z
remains_told x y z true s e = absurd (grind arith)
remains_told x y z false s e = let is : rem_z x y ≡ z = cc in subst (Remains x y) is (int_rem_remains x y (λ n. both_ways (same_int y (pos 0)) s (same_yes y (pos 0) n)))

remains_worked : (x y z : ℤ) → Remains x y z → (t : Bool) → same_int y (pos 0) ≡ t → cond t None (Some (rem_z x y)) ≡ Some z
remains_worked x y z r true s = absurd (omega (arith, ints, r.smaller, same_is y (pos 0) s))
remains_worked x y z r false s = ap Some (remains_int_rem x y z r)

pub computed_given : ComputedGiven
computed_given Add x y z e = wraps_told (x +ℤ y) z e
computed_given Subtract x y z e = wraps_told (x -ℤ y) z e
computed_given Multiply x y z e = wraps_told (x *ℤ y) z e
computed_given Remainder x y z e = remains_told x y z (same_int y (pos 0)) refl e

pub given_computed : GivenComputed
given_computed Add x y z w = wraps_worked (x +ℤ y) z w
given_computed Subtract x y z w = wraps_worked (x -ℤ y) z w
given_computed Multiply x y z w = wraps_worked (x *ℤ y) z w
given_computed Remainder x y z r = remains_worked x y z r (same_int y (pos 0)) refl

pub held_compares : HeldCompares
held_compares = search rules

pub compares_held : ComparesHeld
compares_held = search rules
