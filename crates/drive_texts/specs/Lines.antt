-- The steps of a drive in lines, as bytes.
use Rattle.std.specs.Prelude.{ℕ, ◌+◌, List, [], ◌∷◌, ℤ, Ok, Err, codes, decimal, Result}
use Rattle.std.specs.Fmt.{signed_decimal}
use Rattle.std.specs.List.{flat_map}
use Rattle.macros.specs.declared.parts.Edge.{Edge}
use Rattle.runs.specs.declared.halts.EdgeHalt.{EdgeHalt}
use Rattle.runs.specs.Steps.{Advance, begin, taken}
use Rattle.texts.specs.Text.{◌&◌}

-- each number after a space
abbrev pub numbers_text : List ℤ → List ℕ
numbers_text zs = flat_map (λ z. codes " " & signed_decimal z) zs

-- a place and the numbers there
abbrev pub state_text : ℕ → List ℤ → List ℕ
state_text p xs = (codes "place " & decimal p & codes " numbers") & numbers_text xs

-- the state after edge j in step i
abbrev pub step_line : ℕ → ℕ → Advance → List ℕ
step_line i j a = codes "step " & decimal i & codes " edge " & decimal j & codes " " & state_text a.position.place a.numbers & codes "\n"

-- the line of a step that is made, and then those of the next steps
abbrev pub line_then : ℕ → ℕ → Result Advance EdgeHalt → (Advance → List ℕ) → List ℕ
line_then i j (Ok a) next = step_line i j a & next a
line_then i j (Err h) next = []

-- a line for each step that is made, from step i on
unfoldable pub step_lines : List Edge → List ℤ → ℕ → List ℕ → Advance → List ℕ
step_lines es rs i [] a = []
step_lines es rs i (j ∷ path) a = line_then i j (taken es rs j a) (λ b. step_lines es rs (i + 1) path b)

-- the state at the start, and then a line for each step that is made
abbrev pub drive_lines : List Edge → List ℕ → List ℤ → List ℤ → List ℕ
drive_lines es path xs rs = (codes "start " & state_text 0 xs & codes "\n") & step_lines es rs 0 path (begin xs)
