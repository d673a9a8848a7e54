-- What the result of a chain of steps tells of each step.
use Rattle.std.proofs.Common.{◌≡◌, Bool, true, false, cond, Ok, Err, Result, refl}
use Rattle.macros.specs.Faults.{bind}

pub err_ok : {A E : Type 0} {e : E} {a : A} {Y : Type 0} → Err e ≡ Ok a → Y
err_ok p = cc

pub ok_same : {A E : Type 0} {a b : A} → ◌≡◌ {A = Result A E} (Ok a) (Ok b) → a ≡ b
ok_same p = cc

module _ {A B E F : Type 0} (t : E → F) where
  pub bind_ok : (r : Result A E) (next : A → Result B F) (b : B) → bind t r next ≡ Ok b → (a : A) × (r ≡ Ok a) × (next a ≡ Ok b)
  bind_ok (Ok a) next b e = (a, refl, e)
  bind_ok (Err x) next b e = err_ok e

module _ {A E : Type 0} where
  pub cond_ok : (c : Bool) (x : Result A E) (f : E) (a : A) → cond c x (Err f) ≡ Ok a → (c ≡ true) × (x ≡ Ok a)
  cond_ok true x f a e = (refl, e)
  cond_ok false x f a e = err_ok e

  pub cond_not_ok : (c : Bool) (x : Result A E) (f : E) (a : A) → cond c (Err f) x ≡ Ok a → (c ≡ false) × (x ≡ Ok a)
  cond_not_ok true x f a e = err_ok e
  cond_not_ok false x f a e = (refl, e)
