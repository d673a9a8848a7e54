-- Why a drive halts, in words, as bytes.
use Rattle.std.specs.Prelude.{ℕ, List, codes, decimal}
use Rattle.runs.specs.declared.halts.DriveHalt.{DriveHalt}
use Rattle.runs.specs.declared.halts.DriveHalt.TheVariants.{Start, Edge, ReadingsLeft}
use Rattle.runs.specs.declared.halts.EdgeHalt.{EdgeHalt}
use Rattle.runs.specs.declared.halts.EdgeHalt.TheVariants.{NoSuchEdge, OtherPlace, Operation}
use Rattle.runs.specs.declared.halts.NoStep.{NoStep}
use Rattle.runs.specs.declared.halts.NoStep.TheVariants.{ZeroDivisor, NotPassed, NoReading}
use Rattle.texts.specs.Text.{◌&◌}

abbrev pub no_step_text : NoStep → List ℕ
no_step_text ZeroDivisor = codes "divisor is 0"
no_step_text NotPassed = codes "comparison does not hold"
no_step_text NoReading = codes "no reading is left"

abbrev pub edge_halt_text : EdgeHalt → List ℕ
edge_halt_text (NoSuchEdge n) = codes "no such edge, the macro has " & decimal n
edge_halt_text (OtherPlace from present) = codes "leaves place " & decimal from & codes ", the run is at place " & decimal present
edge_halt_text (Operation r) = no_step_text r

-- the step and the edge where there are any, and then why
abbrev pub halt_line : DriveHalt → List ℕ
halt_line (Start found expected) = codes "stopped: start numbers are " & decimal found & codes ", must be " & decimal expected
halt_line (Edge i j h) = codes "stopped step " & decimal i & codes " edge " & decimal j & codes ": " & edge_halt_text h
halt_line (ReadingsLeft taken given) = codes "stopped: readings are " & decimal given & codes ", the path takes " & decimal taken
