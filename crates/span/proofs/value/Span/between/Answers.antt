use Rattle.std.proofs.Common.{◌≡◌, ℤ, FitsSigned, Result, Ok, Err, Some, None, w32, sym, ◌∙◌, arith}
use Rattle.std.specs.Result.{OkIff, result_ok}
use Rattle.std.proofs.lemmas.Int.{ints}
use Rattle.span.specs.Made.{span_of_ends, span_of_none}
use Rattle.span.proofs.value.Span.between.Goals as goal

-- what `i32::try_from(z).ok()` says of z, by its two answers
missed : {E : Type 0} (r : Result ℤ E) (z : ℤ) → OkIff r (FitsSigned w32 z) z → None ≡ result_ok r → FitsSigned w32 z → ⊥
missed (Ok x) z h e = cc
missed (Err d) z h e = h

taken : {E : Type 0} (r : Result ℤ E) (z x : ℤ) → OkIff r (FitsSigned w32 z) z → Some x ≡ result_ok r → FitsSigned w32 z × (x ≡ z)
taken (Ok y) z x h e = (h.0, let p : x ≡ y = cc in p ∙ h.1)
taken (Err d) z x h e = cc

pub returns-in_err-low : goal.returns-in_err-low
returns-in_err-low c = c.from_residual.ensures ∙ sym (span_of_none _ _ (λ o f g. let m = missed _ _ c.try_from.ensures c.in_err-low.ensures.value in m (omega (arith, ints))))

pub returns-in_err-high : goal.returns-in_err-high
returns-in_err-high c = c.from_residual-in_err-high.ensures ∙ sym (span_of_none _ _ (λ o f g. let m = missed _ _ c.try_from-2.ensures c.in_err-high.ensures.value in m (omega (arith, ints))))

pub returns : goal.returns
returns c =
    let l = taken _ _ _ c.try_from.ensures c.in_ok-low.ensures.value in
    let h = taken _ _ _ c.try_from-2.ensures c.in_ok-high.ensures.value in
    sym (span_of_ends _ _ _ (omega (arith, ints)) (omega (arith, ints)))

pub returns-then-from-to : goal.returns-then-from-to
returns-then-from-to c = sym (span_of_none _ _ (λ o f g. omega (arith, ints)))
