-- The laws of the kind span.
use Rattle.std.specs.Prelude.{◌≡◌, ℕ, ◌/◌, ◌%◌, ◌^◌, ◌<◌, Bool, true, false, cond, ◌&&◌, [], ℤ, pos, ◌+ℤ◌, ◌-ℤ◌, ◌≤ℤ◌, Some, None, ◌≢◌, int_le, int_rem, refl}
use Rattle.std.proofs.Common.{sym, ap, ap₂, subst, ◌∙◌, arith, of_z}
use Rattle.std.specs.Int.Signed.{mag_rem, ≤ℤ_refl}
use Rattle.std.specs.Int.{w32}
use Rattle.std.proofs.lemmas.List.Elements.{All-cons, All-nil}
use Rattle.std.proofs.lemmas.Int.{ints, clamps, of_z-to_z}
use Rattle.std.proofs.lemmas.Bool.{and_from, and_parts}
use Rattle.macros.specs.declared.parts.Arithmetic.{Arithmetic}
use Rattle.macros.specs.declared.parts.Arithmetic.TheVariants.{Add, Subtract, Multiply, Remainder}
use Rattle.macros.specs.declared.parts.Comparison.{Comparison}
use Rattle.macros.specs.declared.parts.Comparison.TheVariants.{Equal, NotEqual, Less, AtMost, Greater, AtLeast}
use Rattle.macros.specs.Number.{Number}
use Rattle.numbers.specs.Arithmetic.{computed, holds, same_int}
use Rattle.kinds.specs.Kind.{Laws, Named, Stands}
use Rattle.span.specs.declared.value.Span.{Span}
use Rattle.span.specs.Span.{Between, code_of, combined, decoded, is_single, is_within, is_zero, narrowed, single_span, span_of, span_ops, whole_range, without}
use Rattle.span.specs.Made.{ends_of_span, in_whole, number_between, single_stands, span_of_ends, span_stands, wrapped_stands}
use Rattle.span.specs.Products.{product_from_least, product_to_greatest}
use Rattle.numbers.proofs.Same.{same_is, same_yes}
use Rattle.numbers.proofs.Told.{compares_held, given_computed}

-- a single span stands for its low end alone
single_is_low : (s : Span) (x : ℤ) → is_single s ≡ true → Between s x → x ≡ s.low
single_is_low s x h p = let e = same_is s.low s.high h in omega (arith, ints)

remainder_of : (x y z : ℤ) → computed Remainder x y ≡ Some z → (same_int y (pos 0) ≡ false) × (int_rem x y ≡ z)
remainder_of x y z e = go (same_int y (pos 0)) refl e where
  go : (t : Bool) → same_int y (pos 0) ≡ t → cond t None (Some (int_rem x y)) ≡ Some z → (same_int y (pos 0) ≡ false) × (int_rem x y ≡ z)
  go true h k = cc
  go false h k = (h, cc)

remainder_sound : (s t : Span) (x y z : ℤ) → Number x → Between s x → Between t y → computed Remainder x y ≡ Some z → Stands span_ops (combined Remainder s t) z
remainder_sound s t x y z f p q e = go (is_zero t) (is_single s && is_single t) refl refl where
  was : (same_int y (pos 0) ≡ false) × (int_rem x y ≡ z)
  was = remainder_of x y z e

  fits : Number z
  fits = subst (λ v. Number v) was.1 (omega (arith, mag_rem x y))

  not_zero : is_zero t ≡ true → ⊥
  not_zero h =
      let z = and_parts (same_int t.low (pos 0)) (same_int t.high (pos 0)) h in
      let l = same_is t.low (pos 0) z.0 in
      let u = same_is t.high (pos 0) z.1 in
      let y0 : y ≡ pos 0 = omega (arith, ints) in
      let w = same_yes y (pos 0) y0 in cc

  go : (o b : Bool) → is_zero t ≡ o → (is_single s && is_single t) ≡ b → Stands span_ops (cond o None (Some (cond b (single_span (int_rem s.low t.low)) whole_range))) z
  go true b h k = absurd (not_zero h)
  go false false h k = in_whole z fits
  go false true h k =
      let both = and_parts (is_single s) (is_single t) k in
      let n : int_rem s.low t.low ≡ z = sym (ap₂ (λ v w. int_rem v w) (single_is_low s x both.0 p) (single_is_low t y both.1 q)) ∙ was.1 in
      rw n (single_stands z fits)

combine_law : (a : Arithmetic) (s t : Span) (x y z : ℤ) → Number x → Number y → Between s x → Between t y → computed a x y ≡ Some z → Stands span_ops (combined a s t) z
combine_law Add s t x y z f g p q e = wrapped_stands _ _ _ z (omega (arith, ints)) (omega (arith, ints)) e
combine_law Subtract s t x y z f g p q e = wrapped_stands _ _ _ z (omega (arith, ints)) (omega (arith, ints)) e
combine_law Multiply s t x y z f g p q e = wrapped_stands _ _ _ z (product_from_least s.low s.high t.low t.high x y p.0 p.1 q.0 q.1) (product_to_greatest s.low s.high t.low t.high x y p.0 p.1 q.0 q.1) e
combine_law Remainder s t x y z f g p q e = remainder_sound s t x y z f p q e

-- a part of a span stands for the numbers in it
part_stands : (s : Span) (l h x : ℤ) → Number x → s.low ≤ℤ l → l ≤ℤ x → x ≤ℤ h → h ≤ℤ s.high → Stands span_ops (span_of l h) x
part_stands s l h x f a b c d = span_stands l h x b c (number_between s.low l x a b s.low_fits f) (number_between x h s.high c d f s.high_fits)

above : (l x : ℤ) → l ≤ℤ x → (x ≢ l) → (l +ℤ pos 1) ≤ℤ x
above l x h n = omega (arith, ints)

below : (x h : ℤ) → x ≤ℤ h → (x ≢ h) → x ≤ℤ (h -ℤ pos 1)
below x h l n = omega (arith, ints)

without_stands : (s : Span) (k x : ℤ) → Number x → Between s x → (x ≢ k) → Stands span_ops (without s k) x
without_stands s k x f p n = go (same_int s.low k) (same_int s.high k) (same_is s.low k) (same_is s.high k) where
  go : (a b : Bool) → (a ≡ true → s.low ≡ k) → (b ≡ true → s.high ≡ k) → Stands span_ops (cond a (span_of (k +ℤ pos 1) s.high) (cond b (span_of s.low (k -ℤ pos 1)) (Some s))) x
  go true b l h = let e = l refl in part_stands s _ _ x f (omega (arith, ints)) (above k x (omega (arith, ints)) n) p.1 (≤ℤ_refl _)
  go false true l h = let e = h refl in part_stands s _ _ x f (≤ℤ_refl _) p.0 (below x k (omega (arith, ints)) n) (omega (arith, ints))
  go false false l h = p

narrow_law : (c : Comparison) (s t : Span) (x y : ℤ) → Number x → Number y → Between s x → Between t y → holds c x y ≡ true → Stands span_ops (narrowed c s t) x
narrow_law Equal s t x y f g p q h = let e = same_is x y h in part_stands s _ _ x f (omega (arith, ints, clamps)) (omega (arith, ints, clamps)) (omega (arith, ints, clamps)) (omega (arith, ints, clamps))
narrow_law NotEqual s t x y f g p q h = go (is_single t) refl where
  go : (a : Bool) → is_single t ≡ a → Stands span_ops (cond a (without s t.low) (Some s)) x
  go true e = without_stands s t.low x f p (λ k. let w = same_yes x y (k ∙ sym (single_is_low t y e q)) in cc)
  go false e = p
narrow_law Less s t x y f g p q h = part_stands s _ _ x f (≤ℤ_refl _) p.0 (omega (arith, ints, clamps)) (omega (arith, ints, clamps))
narrow_law AtMost s t x y f g p q h = part_stands s _ _ x f (≤ℤ_refl _) p.0 (omega (arith, ints, clamps)) (omega (arith, ints, clamps))
narrow_law Greater s t x y f g p q h = part_stands s _ _ x f (omega (arith, ints, clamps)) (omega (arith, ints, clamps)) p.1 (≤ℤ_refl _)
narrow_law AtLeast s t x y f g p q h = part_stands s _ _ x f (omega (arith, ints, clamps)) (omega (arith, ints, clamps)) p.1 (≤ℤ_refl _)

within_ends : (s t : Span) → is_within s t ≡ true → (t.low ≤ℤ s.low) × (s.high ≤ℤ t.high)
within_ends s t h =
    let x = and_parts (int_le t.low s.low) (int_le s.high t.high) h in
    (omega (arith, ints, x.0), omega (arith, ints, x.1))

ends_within : (s t : Span) → t.low ≤ℤ s.low → s.high ≤ℤ t.high → is_within s t ≡ true
ends_within s t x y = and_from (int_le t.low s.low) (int_le s.high t.high) (sym (omega (arith, ints))) (sym (omega (arith, ints)))

code_fits : (s : Span) → code_of s < 2 ^ 64
code_fits s = omega (arith, ints)

code_decoded : (s : Span) → decoded (code_of s) ≡ Some s
code_decoded s =
    let l : code_of s / 4294967296 % 4294967296 ≡ of_z w32 s.low = omega (arith, ints) in
    let h : code_of s % 4294967296 ≡ of_z w32 s.high = omega (arith, ints) in
    rw (l, h) (span_of_ends s _ _ (omega (arith, ints)) (omega (arith, ints)))

decoded_code : (c : ℕ) (s : Span) → c < 2 ^ 64 → decoded c ≡ Some s → code_of s ≡ c
decoded_code c s f e =
    let x = ends_of_span _ _ s e in
    let l : of_z w32 s.low ≡ c / 4294967296 % 4294967296 = ap (of_z w32) x.0 ∙ of_z-to_z w32 (c / 4294967296 % 4294967296) (omega arith) in
    let h : of_z w32 s.high ≡ c % 4294967296 = ap (of_z w32) x.1 ∙ of_z-to_z w32 (c % 4294967296) (omega arith) in
    omega arith

pub span_laws : Laws span_ops
span_laws = record {
  unknown_means = in_whole;
  only_means = single_stands;
  combine_sound = λ a s t x y z f g p q e. combine_law a s t x y z f g p q (given_computed a x y z e);
  narrow_sound = λ c s t x y f g p q h. narrow_law c s t x y f g p q (compares_held c x y h);
  covered_sound = λ s t x f h p. let e = within_ends s t h in (omega (arith, ints), omega (arith, ints));
  covered_self = λ s. ends_within s s (≤ℤ_refl _) (≤ℤ_refl _);
  covered_unknown = λ s. ends_within s whole_range (in_whole s.low s.low_fits).0 (in_whole s.high s.high_fits).1;
  covered_through = λ s t u h k. let x = within_ends s t h in let y = within_ends t u k in ends_within s u (omega (arith, ints)) (omega (arith, ints));
  keep_recall = λ _ s. span_of_ends s s.low s.high refl refl;
  write_fits = λ _ s. code_fits s;
  write_read = λ _ s. code_decoded s;
  read_write = λ _ c s f e. decoded_code c s f e;
}

pub span_named : Named span_ops
span_named = record { some_number = omega arith; digits = All-cons (λ d. d < 16) 2 [] (omega arith) (All-nil (λ d. d < 16)); short = λ _. omega arith }
