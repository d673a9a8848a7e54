-- The laws of the kind exact.
use Rattle.std.specs.Prelude.{◌≡◌, ℕ, ◌+◌, ◌*◌, ◌/◌, ◌%◌, ◌<◌, Bool, true, false, cond, ◌&&◌, [], ℤ, pos, Some, None, Option, FitsSigned, ◌==◌, int_rem, refl}
use Rattle.std.proofs.Common.{sym, ap, subst, ◌∙◌, arith, to_z, of_z}
use Rattle.std.specs.Int.{w32}
use Rattle.std.proofs.lemmas.List.Elements.{All-cons, All-nil}
use Rattle.std.proofs.lemmas.Int.{ints, of_z-to_z}
use Rattle.std.proofs.lemmas.Bool.{and_parts, eqb-true}
use Rattle.macros.specs.declared.parts.Arithmetic.{Arithmetic}
use Rattle.macros.specs.declared.parts.Arithmetic.TheVariants.{Remainder}
use Rattle.macros.specs.declared.parts.Comparison.{Comparison}
use Rattle.macros.specs.declared.parts.Comparison.TheVariants.{Equal}
use Rattle.numbers.specs.Arithmetic.{computed, holds, same_int}
use Rattle.kinds.specs.Kind.{Laws, Named, Stands}
use Rattle.exact.specs.declared.value.Number.{Number}
use Rattle.exact.specs.declared.value.Exact.{Exact}
use Rattle.exact.specs.declared.value.Exact.TheVariants.{Only, Unknown}
use Rattle.exact.specs.Exact.{Means, only_of, only_result, combined, narrowed, covered_by, kept, recalled, written, decoded, read_as, exact_ops}
use Rattle.exact.specs.Numbers.{only_is, only_stands}
use Rattle.numbers.proofs.Same.{same_is, same_self}
use Rattle.numbers.proofs.Told.{compares_held, given_computed}

result_stands : (o : Option ℤ) (z : ℤ) → o ≡ Some z → Stands exact_ops (only_result o) z
result_stands None z e = cc
result_stands (Some k) z e = let f : k ≡ z = cc in subst (λ x. Means (only_of k) x) f (only_stands k)

remainder_stands : (zero : Bool) (x y z : ℤ) → cond zero None (Some (int_rem x y)) ≡ Some z → Stands exact_ops (cond zero None (Some Unknown)) z
remainder_stands true x y z e = cc
remainder_stands false x y z e = tt

combine_stands : (a : Arithmetic) (u v : Exact) (x y z : ℤ) → Means u x → Means v y → computed a x y ≡ Some z → Stands exact_ops (combined a u v) z
combine_stands a (Only j) (Only k) x y z p q e = let f : computed a j.value k.value ≡ Some z = cc in result_stands (computed a j.value k.value) z f
combine_stands Remainder Unknown (Only k) x y z p q e = remainder_stands (same_int k.value (pos 0)) x y z (subst (λ t. cond (same_int t (pos 0)) None (Some (int_rem x y)) ≡ Some z) q e)
combine_stands a Unknown (Only k) x y z p q e = tt
combine_stands a (Only j) Unknown x y z p q e = tt
combine_stands a Unknown Unknown x y z p q e = tt

narrow_stands : (c : Comparison) (u v : Exact) (x y : ℤ) → Means u x → Means v y → holds c x y ≡ true → Stands exact_ops (narrowed c u v) x
narrow_stands c (Only j) (Only k) x y p q h = let f : holds c j.value k.value ≡ true = cc in rw f p
narrow_stands Equal Unknown (Only k) x y p q h = same_is x y h ∙ q
narrow_stands c Unknown (Only k) x y p q h = tt
narrow_stands c (Only j) Unknown x y p q h = p
narrow_stands c Unknown Unknown x y p q h = tt

covered_stands : (u v : Exact) (x : ℤ) → covered_by u v ≡ true → Means u x → Means v x
covered_stands u Unknown x h p = tt
covered_stands (Only j) (Only k) x h p = p ∙ same_is j.value k.value h
covered_stands Unknown (Only k) x h p = cc

covered_self' : (v : Exact) → covered_by v v ≡ true
covered_self' (Only k) = same_self k.value
covered_self' Unknown = refl

covered_through' : (u v w : Exact) → covered_by u v ≡ true → covered_by v w ≡ true → covered_by u w ≡ true
covered_through' u v Unknown h g = refl
covered_through' u Unknown (Only k) h g = cc
covered_through' (Only i) (Only j) (Only k) h g = let e = same_is j.value k.value g in rw (← e) h
covered_through' Unknown (Only j) (Only k) h g = h

kept_recalled : (v : Exact) → recalled (kept v) ≡ Some v
kept_recalled (Only k) = ap Some (only_is k k.value refl)
kept_recalled Unknown = refl

bits_fit : (k : Number) → of_z w32 k.value < 4294967296
bits_fit k = omega (arith, ints)

written_fits : (v : Exact) → written v < 8589934592
written_fits (Only k) = let l = bits_fit k in omega arith
written_fits Unknown = omega arith

written_read : (v : Exact) → read_as (written v) ≡ Some v
written_read (Only k) =
    let n = of_z w32 k.value in
    let l : n < 4294967296 = bits_fit k in
    let d : (4294967296 + n) / 4294967296 ≡ 1 = omega arith in
    let m : (4294967296 + n) % 4294967296 ≡ n = omega arith in
    rw (d, m) (ap Some (only_is k (to_z w32 n) (omega (arith, ints))))
written_read Unknown = refl

read_fits : (n : ℕ) → n < 4294967296 → FitsSigned w32 (to_z w32 n)
read_fits n l = omega (arith, ints)

-- 32 bits are those of the number that they are read as
bits_written : (n : ℕ) → n < 4294967296 → written (only_of (to_z w32 n)) ≡ 4294967296 + n
bits_written n l =
    ap written (only_is (record { value = to_z w32 n; fits = (read_fits n l).sfits }) (to_z w32 n) refl) ∙ ap (λ x. 4294967296 + x) (of_z-to_z w32 n l)

decoded_written : (m n : ℕ) (v : Exact) → n < 4294967296 → decoded m n ≡ Some v → written v ≡ m * 4294967296 + n
decoded_written m n v l e = by_mark (m == 1) (m == 0 && n == 0) (eqb-true m 1) zeros e where
  zeros : (m == 0 && n == 0) ≡ true → m * 4294967296 + n ≡ 0
  zeros h = let p = and_parts (m == 0) (n == 0) h in omega (arith, eqb-true m 0 p.0, eqb-true n 0 p.1)

  by_mark : (one zero : Bool) → (one ≡ true → m ≡ 1) → (zero ≡ true → m * 4294967296 + n ≡ 0) → cond one (Some (only_of (to_z w32 n))) (cond zero (Some Unknown) None) ≡ Some v → written v ≡ m * 4294967296 + n
  by_mark true zero f g h = let u : only_of (to_z w32 n) ≡ v = cc in sym (ap written u) ∙ bits_written n l ∙ omega (arith, f refl)
  by_mark false true f g h = let u : v ≡ Unknown = cc in ap written u ∙ sym (g refl)
  by_mark false false f g h = cc

read_written : (c : ℕ) (v : Exact) → read_as c ≡ Some v → written v ≡ c
read_written c v e = decoded_written (c / 4294967296) (c % 4294967296) v (omega arith) e ∙ omega arith

pub exact_laws : Laws exact_ops
exact_laws = record {
  unknown_means = λ z _. tt;
  only_means = λ k _. only_stands k;
  combine_sound = λ a u v x y z _ _ p q g. combine_stands a u v x y z p q (given_computed a x y z g);
  narrow_sound = λ c u v x y _ _ p q h. narrow_stands c u v x y p q (compares_held c x y h);
  covered_sound = λ u v x _. covered_stands u v x;
  covered_self = covered_self';
  covered_unknown = λ v. refl;
  covered_through = covered_through';
  keep_recall = λ _. kept_recalled;
  write_fits = λ _. written_fits;
  write_read = λ _. written_read;
  read_write = λ _ c v _. read_written c v;
}

pub exact_named : Named exact_ops
exact_named = record { some_number = omega arith; digits = All-cons (λ d. d < 16) 1 [] (omega arith) (All-nil (λ d. d < 16)); short = λ _. omega arith }
