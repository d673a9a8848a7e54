-- Runs of a macro: the states that it can be in, the steps between them, which places a run reaches, and what drives a path.
use Rattle.std.specs.Prelude.{◌≡◌, ℕ, List, [], ◌∷◌, ◌++◌, length, ℤ, pos, Some, slice_index_or, slice_set}
use Rattle.std.specs.List.{All, slice_get}
use Rattle.macros.specs.declared.parts.Arithmetic.{Arithmetic}
use Rattle.macros.specs.declared.parts.Comparison.{Comparison}
use Rattle.macros.specs.declared.parts.Edge.{Edge}
use Rattle.macros.specs.declared.parts.Operand.{Operand}
use Rattle.macros.specs.declared.parts.Operand.TheVariants.{Constant, Variable}
use Rattle.macros.specs.declared.parts.Operation.{Operation}
use Rattle.macros.specs.declared.parts.Operation.TheVariants.{Set, Compute, Read, Test}
use Rattle.macros.specs.Macro.{Macro}
use Rattle.macros.specs.Number.{Number}
use Rattle.numbers.specs.Rules.{Compares, Gives}

-- where a run is: a place, and a number for each variable
pub record State : Type 0 where
  pub place : ℕ
  pub numbers : List ℤ

abbrev pub state : ℕ → List ℤ → State
state p xs = record { place = p; numbers = xs }

-- the constant itself, or the variable's number; a macro in range has no variable beyond its numbers, which would count as 0
abbrev pub operand_number : List ℤ → Operand → ℤ
operand_number xs (Constant k) = k
operand_number xs (Variable v) = slice_index_or xs v (pos 0)

-- Effect xs op rs ys: where the numbers are xs, an edge that does op makes a step, after which they are ys.
-- The list rs has the reading, if op takes one.
pub data Effect (xs : List ℤ) : Operation → List ℤ → List ℤ → Type 0 where
  sets : (t : ℕ) (a : Operand) → Effect xs (Set t a) [] (slice_set xs t (operand_number xs a))
  computes : (f : Arithmetic) (t : ℕ) (a b : Operand) (z : ℤ) → Gives f (operand_number xs a) (operand_number xs b) z → Effect xs (Compute f t a b) [] (slice_set xs t z)
  reads : (t : ℕ) (z : ℤ) → Number z → Effect xs (Read t) (z ∷ []) (slice_set xs t z)
  passes : (c : Comparison) (a b : Operand) → Compares c (operand_number xs a) (operand_number xs b) → Effect xs (Test c a b) [] xs

-- Takes m j s rs t: edge j of the macro leaves the place of s and makes a step from s to t, with the readings rs
pub data Takes (m : Macro) (j : ℕ) : State → List ℤ → State → Type 0 where
  takes : (e : Edge) (xs rs ys : List ℤ) → slice_get m.edges j ≡ Some e → Effect xs e.operation rs ys → Takes m j (state e.from xs) rs (state e.to ys)

-- some edge makes a step from s to t
pub data Step (m : Macro) (s t : State) : Type 0 where
  step : (j : ℕ) (rs : List ℤ) → Takes m j s rs t → Step m s t

-- a run may start with these numbers: one of 32 bits for each variable
pub record Start (m : Macro) (xs : List ℤ) : Type 0 where
  pub one_each : length xs ≡ m.variables
  pub in_range : All Number xs

-- Run m s: some run of the macro ends in s
pub data Run (m : Macro) : State → Type 0 where
  starts : (xs : List ℤ) → Start m xs → Run m (state 0 xs)
  goes : (s t : State) → Run m s → Step m s t → Run m t

-- some run of the macro ends at the place
pub record Reaches (m : Macro) (p : ℕ) : Type 0 where
  pub numbers : List ℤ
  pub run : Run m (state p numbers)

-- Follows m s path rs t: from s each edge of the path in turn makes a step; they take the readings rs, each the next one,
-- and none is left over when the path ends in t
pub data Follows (m : Macro) : State → List ℕ → List ℤ → State → Type 0 where
  ends : (s : State) → Follows m s [] [] s
  takes_on : (j : ℕ) (path : List ℕ) (now later : List ℤ) (s t u : State) → Takes m j s now t → Follows m t path later u → Follows m s (j ∷ path) (now ++ later) u

-- the start numbers and the readings drive the path from place 0 to t
pub record Drives (m : Macro) (start : List ℤ) (path : List ℕ) (readings : List ℤ) (t : State) : Type 0 where
  pub started : Start m start
  pub follows : Follows m (state 0 start) path readings t
