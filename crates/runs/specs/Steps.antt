-- One step and a whole path, worked out: the numbers and the place that come of it, or why it goes no further.
use Rattle.std.specs.Prelude.{ℕ, ◌+◌, cond, List, [], ◌∷◌, length, ℤ, Some, None, Ok, Err, Option, Result, ◌==◌, nat_lt, slice_set}
use Rattle.std.specs.List.{slice_get}
use Rattle.std.specs.Option.{ok_or}
use Rattle.std.specs.Result.{result_map_both, result_unwrap_or}
use Rattle.macros.specs.declared.parts.Edge.{Edge}
use Rattle.macros.specs.declared.parts.Operation.{Operation}
use Rattle.macros.specs.declared.parts.Operation.TheVariants.{Set, Compute, Read, Test}
use Rattle.macros.specs.Faults.{bind, same}
use Rattle.macros.specs.Macro.{Macro}
use Rattle.numbers.specs.Arithmetic.{computed, holds}
use Rattle.runs.specs.declared.halts.DriveHalt.{DriveHalt}
use Rattle.runs.specs.declared.halts.DriveHalt.TheVariants.{Start, Edge as at_edge, ReadingsLeft}
use Rattle.runs.specs.declared.halts.EdgeHalt.{EdgeHalt}
use Rattle.runs.specs.declared.halts.EdgeHalt.TheVariants.{NoSuchEdge, OtherPlace, Operation as at_operation}
use Rattle.runs.specs.declared.halts.NoStep.{NoStep}
use Rattle.runs.specs.declared.halts.NoStep.TheVariants.{ZeroDivisor, NotPassed, NoReading}
use Rattle.runs.specs.declared.drives.Position.{Position}
use Rattle.runs.specs.Runs.{operand_number}

-- the numbers xs with a number at variable t, or why there is none to put there
abbrev pub put_or : NoStep → List ℤ → ℕ → Option ℤ → Result (List ℤ) NoStep
put_or why xs t None = Err why
put_or why xs t (Some z) = Ok (slice_set xs t z)

-- the numbers after an operation on xs, where r is the next reading, if there is one
abbrev pub stepped : Operation → List ℤ → Option ℤ → Result (List ℤ) NoStep
stepped (Set t a) xs r = Ok (slice_set xs t (operand_number xs a))
stepped (Compute f t a b) xs r = put_or ZeroDivisor xs t (computed f (operand_number xs a) (operand_number xs b))
stepped (Read t) xs r = put_or NoReading xs t r
stepped (Test c a b) xs r = cond (holds c (operand_number xs a) (operand_number xs b)) (Ok xs) (Err NotPassed)

-- the numbers that a step leaves; without a step they stay
abbrev pub numbers_after : List ℤ → Result (List ℤ) NoStep → List ℤ
numbers_after xs r = result_unwrap_or r xs

-- how many readings an operation takes
abbrev pub readings_of : Operation → ℕ
readings_of (Set t a) = 0
readings_of (Compute f t a b) = 0
readings_of (Read t) = 1
readings_of (Test c a b) = 0

-- where a drive stands, and its numbers there
pub record Advance : Type 0 where
  pub position : Position
  pub numbers : List ℤ

abbrev pub advance : Position → List ℤ → Advance
advance p xs = record { position = p; numbers = xs }

-- whether the edge leaves the present place
abbrev pub leaves : Edge → Position → Result (Unit {0}) EdgeHalt
leaves e p = cond (e.from == p.place) (Ok tt) (Err (OtherPlace e.from p.place))

-- edge j is taken: of the edges es, from a position with its numbers, where the readings are rs
abbrev pub taken : List Edge → List ℤ → ℕ → Advance → Result Advance EdgeHalt
taken es rs j a =
    bind same (ok_or (slice_get es j) (NoSuchEdge (length es))) (λ e.
    bind same (leaves e a.position) (λ _.
    bind at_operation (stepped e.operation a.numbers (slice_get rs a.position.taken)) (λ ys.
    Ok (advance (record { place = e.to; taken = a.position.taken + readings_of e.operation }) ys))))

-- the position and the numbers after an edge; one that is not taken changes no number
abbrev pub position_taken : Result Advance EdgeHalt → Result Position EdgeHalt
position_taken r = result_map_both (λ (a : Advance). a.position) same r

abbrev pub numbers_taken : List ℤ → Result Advance EdgeHalt → List ℤ
numbers_taken xs r = result_unwrap_or (result_map_both (λ (a : Advance). a.numbers) same r) xs

-- what following a path comes to: the position at its end or the halt, and the numbers there
pub record Followed : Type 0 where
  pub answer : Result Position DriveHalt
  pub numbers : List ℤ

abbrev pub followed : Result Position DriveHalt → List ℤ → Followed
followed r xs = record { answer = r; numbers = xs }

-- goes on after edge j in step i, or halts there with the numbers as they were
abbrev pub onward : ℕ → ℕ → Advance → Result Advance EdgeHalt → (Advance → Followed) → Followed
onward i j a (Ok b) next = next b
onward i j a (Err h) next = followed (Err (at_edge i j h)) a.numbers

-- a path's edges are taken in turn, from step i on
unfoldable pub follow : List Edge → List ℤ → ℕ → List ℕ → Advance → Followed
follow es rs i [] a = followed (Ok a.position) a.numbers
follow es rs i (j ∷ path) a = onward i j a (taken es rs j a) (λ b. follow es rs (i + 1) path b)

-- the place at the end, if no reading is left over
abbrev pub place_at_end : List ℤ → Position → Result ℕ DriveHalt
place_at_end rs p = cond (nat_lt p.taken (length rs)) (Err (ReadingsLeft p.taken (length rs))) (Ok p.place)

-- the start: place 0 with no reading taken
abbrev pub begin : List ℤ → Advance
begin xs = advance (record { place = 0; taken = 0 }) xs

-- a drive from start numbers xs with readings rs: what it answers, and the numbers when it ends
abbrev pub drive_answer : Macro → List ℕ → List ℤ → List ℤ → Result ℕ DriveHalt
drive_answer m path xs rs =
    cond (length xs == m.variables)
    (bind same (follow m.edges rs 0 path (begin xs)).answer (place_at_end rs))
    (Err (Start (length xs) m.variables))

abbrev pub drive_numbers : Macro → List ℕ → List ℤ → List ℤ → List ℤ
drive_numbers m path xs rs = cond (length xs == m.variables) (follow m.edges rs 0 path (begin xs)).numbers xs
