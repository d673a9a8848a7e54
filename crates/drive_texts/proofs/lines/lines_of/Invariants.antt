use Rattle.std.proofs.Common.{◌≡◌, ◌++◌, drop, string_bytes}
use Rattle.runs.specs.Steps.{advance}
use Rattle.drive_texts.specs.Lines.{drive_lines, step_lines}
use Rattle.drive_texts.proofs.lines.lines_of.Given as goal

abbrev pub invariant-loop-step : goal.invariant-loop-step
invariant-loop-step l = drive_lines l.driver.edges.now l.path l.initial.numbers l.driver.readings.now ≡ string_bytes l.lines ++ step_lines l.driver.edges.now l.driver.readings.now l.step-counter (drop l.step-counter l.path) (advance l.position l.numbers)
