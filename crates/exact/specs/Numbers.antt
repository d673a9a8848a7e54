-- What `only_of` answers.
use Rattle.std.specs.Prelude.{◌≡◌, ◌<◌, Bool, true, false, T, ℤ, nat_lt, refl}
use denote.Struct.Record.{values_one}
use Rattle.std.proofs.Common.{sym, ap, subst, ltb→lt, lt→ltb}
use Rattle.exact.specs.contracts.value.Number.{struct, the_propositions}
use Rattle.std.specs.Int.Signed.{mag}
use Rattle.exact.specs.declared.value.Number.{Number}
use Rattle.exact.specs.declared.value.Exact.TheVariants.{Only}
use Rattle.exact.specs.Exact.{Means, only_if, only_of}

same_number : (m n : Number) → m.value ≡ n.value → m ≡ n
same_number m n p = values_one struct the_propositions m n (λ i. (p i, tt))

only_held : (n : Number) (k : ℤ) (held : Bool) (fits : T held → mag k < 2147483648) → n.value ≡ k → T held → only_if k held fits ≡ Only n
only_held n k true fits e t = ap Only (same_number _ n (sym e))
only_held n k false fits e t = absurd t

-- the value for a number of 32 bits is only that number
pub only_is : (n : Number) (k : ℤ) → n.value ≡ k → only_of k ≡ Only n
unfolding only_of
only_is n k e = only_held n k (nat_lt (mag k) 2147483648) (ltb→lt (mag k) 2147483648) e (lt→ltb _ _ (subst (λ x. mag x < 2147483648) e n.fits))

held_means : (k : ℤ) (held : Bool) (fits : T held → mag k < 2147483648) → Means (only_if k held fits) k
held_means k true fits = refl
held_means k false fits = tt

-- the value for k stands for k
pub only_stands : (k : ℤ) → Means (only_of k) k
unfolding only_of
only_stands k = held_means k (nat_lt (mag k) 2147483648) (ltb→lt (mag k) 2147483648)
