-- What `span_of` answers, and what a span that it makes stands for.
use Rattle.std.specs.Prelude.{◌≡◌, Bool, true, false, T, ℤ, pos, negsuc, ◌≤ℤ◌, Some, None, Option, MatchOption, int_le, refl}
use Rattle.std.proofs.Common.{sym, ap, ◌∙◌, subst, arith, lt→ltb, ltb→lt}
use denote.Struct.Record.{values_one}
use Rattle.std.specs.Int.Signed.{le_z_yes, mag}
use Rattle.std.specs.Int.{int_wrap, w32}
use Rattle.std.proofs.lemmas.Int.{ints, int_wrap_fits, SFits-int_wrap}
use Rattle.macros.specs.Number.{Number}
use Rattle.kinds.specs.Kind.{Stands}
use Rattle.span.specs.contracts.value.Span.{struct, the_propositions}
use Rattle.span.specs.declared.value.Span.{Span}
use Rattle.span.specs.Span.{Between, is_number, or_whole, single_span, span_if, span_of, span_ops, whole_range}

-- two spans with the same ends are one
pub same_ends : (s t : Span) → s.low ≡ t.low → s.high ≡ t.high → s ≡ t
same_ends s t p q = values_one struct the_propositions s t (λ i. (p i, (q i, tt)))

-- what an answer of `span_of` says of l and h: a span has them as its ends, and with none they are the ends of no span
abbrev IsSpanOf : ℤ → ℤ → Option Span → Type 0
IsSpanOf l h o = MatchOption o (l ≤ℤ h → Number l → Number h → ⊥) (λ s. (s.low ≡ l) × (s.high ≡ h))

module _ (l h : ℤ) where
  if_is : (x y z : Bool) (o : T x → l ≤ℤ h) (f : T y → Number l) (g : T z → Number h) → (l ≤ℤ h → T x) → (Number l → T y) → (Number h → T z) → IsSpanOf l h (span_if l h x y z o f g)
  if_is true true true o f g a b c = (refl, refl)
  if_is true true false o f g a b c = λ p q r. c r
  if_is true false z o f g a b c = λ p q r. b q
  if_is false y z o f g a b c = λ p q r. a p

  span_of_is : IsSpanOf l h (span_of l h)
  unfolding span_of
  span_of_is = if_is (int_le l h) (is_number l) (is_number h) le_z_yes (ltb→lt (mag l) 2147483648) (ltb→lt (mag h) 2147483648) (λ p. p.le) (lt→ltb (mag l) 2147483648) (lt→ltb (mag h) 2147483648)

-- a span is what its ends make
pub span_of_ends : (s : Span) (l h : ℤ) → s.low ≡ l → s.high ≡ h → span_of l h ≡ Some s
span_of_ends s l h p q = go (span_of l h) (span_of_is l h) where
  go : (o : Option Span) → IsSpanOf l h o → o ≡ Some s
  go None n = absurd (n (omega (arith, ints)) (omega (arith, ints)) (omega (arith, ints)))
  go (Some t) e = ap Some (same_ends t s (e.0 ∙ sym p) (e.1 ∙ sym q))

-- there is no span with such ends
pub span_of_none : (l h : ℤ) → (l ≤ℤ h → Number l → Number h → ⊥) → span_of l h ≡ None
span_of_none l h n = go (span_of l h) (span_of_is l h) where
  go : (o : Option Span) → IsSpanOf l h o → o ≡ None
  go None e = refl
  go (Some t) e = absurd (n (omega (arith, ints)) (omega (arith, ints)) (omega (arith, ints)))

-- the ends of what is made
pub ends_of_span : (l h : ℤ) (s : Span) → span_of l h ≡ Some s → (s.low ≡ l) × (s.high ≡ h)
ends_of_span l h s e = subst (IsSpanOf l h) e (span_of_is l h)

-- what lies between two numbers of 32 bits is one
pub number_between : (l z h : ℤ) → l ≤ℤ z → z ≤ℤ h → Number l → Number h → Number z
number_between l (pos z) (pos h) x y p q = omega (arith, ints)
number_between l (pos z) (negsuc h) x y p q = omega (arith, ints)
number_between (pos l) (negsuc z) h x y p q = omega (arith, ints)
number_between (negsuc l) (negsuc z) h x y p q = omega (arith, ints)

pub in_whole : (z : ℤ) → Number z → Between whole_range z
in_whole z f = (omega (arith, ints), omega (arith, ints))

-- a span from l to h stands for what lies between them
pub span_stands : (l h z : ℤ) → l ≤ℤ z → z ≤ℤ h → Number l → Number h → Stands span_ops (span_of l h) z
span_stands l h z p q f g =
    let s : Span = record { low = l; high = h; order = omega (arith, ints); low_fits = f; high_fits = g } in
    subst (λ o. Stands span_ops o z) (sym (span_of_ends s l h refl refl)) (p, q)

-- the span from l to h, or else the whole range, stands for what lies between l and h, wrapped
pub wrapped_stands : (l h z r : ℤ) → l ≤ℤ z → z ≤ℤ h → Some (int_wrap w32 z) ≡ Some r → Between (or_whole (span_of l h)) r
wrapped_stands l h z r p q e =
    let e2 : int_wrap w32 z ≡ r = cc in
    subst (Between (or_whole (span_of l h))) e2 (go (span_of l h) (span_of_is l h))
  where
    go : (o : Option Span) → IsSpanOf l h o → Between (or_whole o) (int_wrap w32 z)
    go None n = in_whole (int_wrap w32 z) (SFits-int_wrap w32 z).sfits
    go (Some s) i =
        let n : Number z = number_between s.low z s.high (omega (arith, ints)) (omega (arith, ints)) s.low_fits s.high_fits in
        rw (int_wrap_fits w32 z (record { sfits = n })) (omega (arith, ints), omega (arith, ints))

-- k..k, and that it stands for k
pub single_of : (k : ℤ) (s : Span) → s.low ≡ k → s.high ≡ k → single_span k ≡ s
single_of k s p q = ap or_whole (span_of_ends s k k p q)

pub single_stands : (k : ℤ) → Number k → Between (single_span k) k
single_stands k f =
    let s : Span = record { low = k; high = k; order = omega (arith, ints); low_fits = f; high_fits = f } in
    subst (λ t. Between t k) (sym (single_of k s refl refl)) (s.order, s.order)
