-- Worked examples of driving a path.
use Rattle.std.specs.Prelude.{◌≡◌, [], ◌∷◌, pos, Ok, Err}
use Rattle.runs.specs.declared.halts.DriveHalt.TheVariants.{Edge}
use Rattle.runs.specs.declared.halts.EdgeHalt.TheVariants.{Operation}
use Rattle.runs.specs.declared.halts.NoStep.TheVariants.{NotPassed}
use Rattle.runs.specs.Steps.{drive_answer}
use Rattle.known_answers.specs.Macros.{macro_a, macro_b}
use Rattle.known_answers.specs.Numerals.{minus}

-- start number −1 drives the one edge of macro A to the guarded place 1; in macro B edge 1 makes no step after edge 0
abbrev pub PathsAreDriven : Type 0
PathsAreDriven =
    (drive_answer macro_a (0 ∷ []) (minus 1 ∷ []) [] ≡ Ok 1)
    × (drive_answer macro_a [] (pos 7 ∷ []) [] ≡ Ok 0)
    × (drive_answer macro_b (0 ∷ 1 ∷ []) (pos 7 ∷ []) [] ≡ Err (Edge 1 1 (Operation NotPassed)))
