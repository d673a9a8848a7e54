-- The step that is worked out is a step of the relation, and every step of the relation is worked out.
use Rattle.std.proofs.Common.{◌≡◌, ℕ, Bool, true, false, cond, List, [], ◌∷◌, set, ℤ, Some, None, Ok, Err, Option, refl, ap, subst}
use Rattle.std.proofs.lemmas.Bool.{cond-true}
use Rattle.std.specs.Option.{IfSome}
use Rattle.macros.specs.Number.{Number}
use Rattle.macros.specs.declared.parts.Arithmetic.{Arithmetic}
use Rattle.macros.specs.declared.parts.Comparison.{Comparison}
use Rattle.macros.specs.declared.parts.Operand.{Operand}
use Rattle.macros.specs.declared.parts.Operation.{Operation}
use Rattle.macros.specs.declared.parts.Operation.TheVariants.{Set, Compute, Read, Test}
use Rattle.numbers.specs.Arithmetic.{computed, holds}
use Rattle.numbers.proofs.Told.{compares_held, computed_given, given_computed, held_compares}
use Rattle.runs.specs.declared.halts.NoStep.TheVariants.{NotPassed, ZeroDivisor}
use Rattle.runs.specs.Promises.{StepComplete, StepSound}
use Rattle.runs.specs.Runs.{Effect, computes, operand_number, passes, reads, sets}
use Rattle.runs.specs.Steps.{put_or}

module _ (xs ys : List ℤ) where
  computes_result : (f : Arithmetic) (t : ℕ) (a b : Operand) (o : Option ℤ) → computed f (operand_number xs a) (operand_number xs b) ≡ o → put_or ZeroDivisor xs t o ≡ Ok ys → Effect xs (Compute f t a b) [] ys
  computes_result f t a b None e h = cc
  computes_result f t a b (Some z) e h = let k : set xs t z ≡ ys = cc in subst (Effect xs (Compute f t a b) []) k (computes f t a b z (computed_given f _ _ z e))

  passes_test : (c : Comparison) (a b : Operand) (o : Bool) → holds c (operand_number xs a) (operand_number xs b) ≡ o → cond o (Ok xs) (Err NotPassed) ≡ Ok ys → Effect xs (Test c a b) [] ys
  passes_test c a b true e h = let k : xs ≡ ys = cc in subst (Effect xs (Test c a b) []) k (passes c a b (held_compares c _ _ e))
  passes_test c a b false e h = cc

pub step_sound : (xs : List ℤ) (op : Operation) (r : Option ℤ) → IfSome r Number → StepSound xs op r
step_sound xs (Set t a) r n ys h = let k : set xs t (operand_number xs a) ≡ ys = cc in subst (Effect xs (Set t a) []) k (sets t a)
step_sound xs (Compute f t a b) r n ys h = computes_result xs ys f t a b _ refl h
step_sound xs (Read t) None n ys h = cc
step_sound xs (Read t) (Some z) n ys h = let k : set xs t z ≡ ys = cc in subst (Effect xs (Read t) (z ∷ [])) k (reads t z n)
step_sound xs (Test c a b) r n ys h = passes_test xs ys c a b _ refl h

pub step_complete : (xs : List ℤ) (op : Operation) → StepComplete xs op
step_complete xs op rs ys (sets t a) = (None, refl, refl)
step_complete xs op rs ys (computes f t a b z e) = (None, refl, ap (put_or ZeroDivisor xs t) (given_computed f _ _ z e))
step_complete xs op rs ys (reads t z n) = (Some z, refl, refl)
step_complete xs op rs ys (passes c a b e) = (None, refl, cond-true (holds c (operand_number xs a) (operand_number xs b)) _ _ (compares_held c _ _ e))
