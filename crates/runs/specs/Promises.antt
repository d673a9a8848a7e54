-- What is promised of steps and drives, in the words of runs.
use Rattle.std.specs.Prelude.{◌≡◌, ℕ, List, [], ℤ, Ok, Option}
use Rattle.std.specs.Option.{option_to_list}
use Rattle.macros.specs.declared.parts.Operation.{Operation}
use Rattle.macros.specs.declared.parts.Operation.TheVariants.{Set, Compute, Read, Test}
use Rattle.macros.specs.Macro.{Macro}
use Rattle.macros.specs.Range.{InRange}
use Rattle.runs.specs.Runs.{Drives, Effect, Reaches, Run, Start, State, state}
use Rattle.runs.specs.Steps.{drive_answer, drive_numbers, stepped}

-- the readings that an operation takes, where r is the next one
abbrev pub reading_taken : Operation → Option ℤ → List ℤ
reading_taken (Set t a) r = []
reading_taken (Compute f t a b) r = []
reading_taken (Read t) r = option_to_list r
reading_taken (Test c a b) r = []

-- what is worked out is a step
abbrev pub StepSound : List ℤ → Operation → Option ℤ → Type 0
StepSound xs op r = (ys : List ℤ) → stepped op xs r ≡ Ok ys → Effect xs op (reading_taken op r) ys

-- every step is worked out, for some reading
abbrev pub StepComplete : List ℤ → Operation → Type 0
StepComplete xs op = (rs ys : List ℤ) → Effect xs op rs ys → (r : Option ℤ) × (reading_taken op r ≡ rs) × (stepped op xs r ≡ Ok ys)

-- a drive that answers a place: the start numbers and the readings drive the path there
abbrev pub DriveSound : Macro → List ℕ → List ℤ → List ℤ → Type 0
DriveSound m path xs rs = (p : ℕ) → drive_answer m path xs rs ≡ Ok p → Drives m xs path rs (state p (drive_numbers m path xs rs))

-- where the start numbers and the readings drive the path, a drive answers the place and the numbers at its end
abbrev pub DriveComplete : Macro → List ℕ → List ℤ → List ℤ → Type 0
DriveComplete m path xs rs = (t : State) → Drives m xs path rs t → (drive_answer m path xs rs ≡ Ok t.place) × (drive_numbers m path xs rs ≡ t.numbers)

-- what is driven is a run
abbrev pub DrivenRuns : Type 0
DrivenRuns = (m : Macro) (start : List ℤ) (path : List ℕ) (readings : List ℤ) (t : State) → Drives m start path readings t → Run m t

-- start numbers, a path and readings that lead to a state
pub record Driven (m : Macro) (t : State) : Type 0 where
  pub start : List ℤ
  pub path : List ℕ
  pub readings : List ℤ
  pub drives : Drives m start path readings t

-- every run is driven by some numbers along some path
abbrev pub RunsDriven : Type 0
RunsDriven = (m : Macro) (t : State) → Run m t → Driven m t

-- a run of no step reaches place 0
abbrev pub StartReached : Type 0
StartReached = (m : Macro) → Reaches m 0

-- in each state of a run of a macro in range there is one number of 32 bits for each variable
abbrev pub NumbersKept : Type 0
NumbersKept = (m : Macro) → InRange m → (t : State) → Run m t → Start m t.numbers
