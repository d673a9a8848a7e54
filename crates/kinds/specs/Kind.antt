-- A kind of value: what a value stands for, the operations on values, and the laws that these keep.
use Rattle.std.specs.Prelude.{◌≡◌, ℕ, ◌^◌, ◌<◌, ◌≤◌, Bool, true, List, [], ◌∷◌, length, ℤ, Some, None, Option}
use Rattle.std.specs.List.{All}
use Rattle.macros.specs.declared.parts.Arithmetic.{Arithmetic}
use Rattle.macros.specs.declared.parts.Comparison.{Comparison}
use Rattle.macros.specs.Number.{Number}
use Rattle.numbers.specs.Rules.{Compares, Gives}

-- V has the values of the kind, and P the plain records in which memory keeps them
pub record Operations (V P : Type 0) : Type 1 where
  -- which numbers a value stands for
  pub means : V → ℤ → Type 0
  -- the value for any number, and the value for one number
  pub unknown : V
  pub only : ℤ → V
  -- the value of left op right, if a number is possible
  pub combine : Arithmetic → V → V → Option V
  -- what is left of the first value where the comparison with the second holds, if a number is
  pub narrow : Comparison → V → V → Option V
  -- whether the first value is covered by the second
  pub covered : V → V → Bool
  -- a value as a plain record, and the value that a plain record keeps, if it keeps one
  pub keep : V → P
  pub recall : P → Option V
  -- W; the code of a value, as a number of W bits; and the value that a number of W bits is the code of, if it is one
  pub width : ℕ
  pub write : V → ℕ
  pub read : ℕ → Option V
  -- The kind's name in a sheet, in numbers of 4 bits. The first is its code number, and a kind that is not made of
  -- other kinds has no more.
  pub name : List ℕ

-- z is among the numbers that the answer stands for; none stands for no number
abbrev pub Stands : {V P : Type 0} → Operations V P → Option V → ℤ → Type 0
Stands o None z = ⊥
Stands o (Some v) z = o.means v z

-- The six laws. They speak of numbers of 32 bits alone, and of plain records and codes only up to W = 4096.
pub record Laws {V P : Type 0} (o : Operations V P) : Type 0 where
  -- 1. unknown stands for every number, and only k for k
  pub unknown_means : (z : ℤ) → Number z → o.means o.unknown z
  pub only_means : (k : ℤ) → Number k → o.means (o.only k) k
  -- 2. combine loses no number that the run can work out
  pub combine_sound : (a : Arithmetic) (u v : V) (x y z : ℤ) → Number x → Number y → o.means u x → o.means v y → Gives a x y z → Stands o (o.combine a u v) z
  -- 3. narrow loses no number of which the comparison holds
  pub narrow_sound : (c : Comparison) (u v : V) (x y : ℤ) → Number x → Number y → o.means u x → o.means v y → Compares c x y → Stands o (o.narrow c u v) x
  -- 4. what is covered stands for no more than what covers it
  pub covered_sound : (u v : V) (x : ℤ) → Number x → o.covered u v ≡ true → o.means u x → o.means v x
  -- 5. every value is covered by itself and by unknown, and by what covers a value that covers it
  pub covered_self : (v : V) → o.covered v v ≡ true
  pub covered_unknown : (v : V) → o.covered v o.unknown ≡ true
  pub covered_through : (u v w : V) → o.covered u v ≡ true → o.covered v w ≡ true → o.covered u w ≡ true
  -- 6. a value that is kept or written reads back, and what reads as a value is what it is written as
  pub keep_recall : o.width ≤ 4096 → (v : V) → o.recall (o.keep v) ≡ Some v
  pub write_fits : o.width ≤ 4096 → (v : V) → o.write v < 2 ^ o.width
  pub write_read : o.width ≤ 4096 → (v : V) → o.read (o.write v) ≡ Some v
  pub read_write : o.width ≤ 4096 → (c : ℕ) (v : V) → c < 2 ^ o.width → o.read c ≡ Some v → o.write v ≡ c

-- A name has at least one number, and each is of 4 bits. It has fewer numbers than the code has bits, so a name of one
-- number goes with a W of at least 2; this too is asked only up to W = 4096.
pub record Named {V P : Type 0} (o : Operations V P) : Type 0 where
  pub some_number : 0 < length o.name
  pub digits : All (λ d. d < 16) o.name
  pub short : o.width ≤ 4096 → length o.name < o.width

-- The name of a kind that is not made of other kinds is its code number, 1 to 14; its W is at least 2.
pub record Simple {V P : Type 0} (o : Operations V P) : Type 0 where
  pub code : ℕ
  pub alone : o.name ≡ code ∷ []
  pub from_1 : 1 ≤ code
  pub to_14 : code ≤ 14
  pub wide : 2 ≤ o.width
