use Rattle.std.proofs.Common.{◌≡◌, drop}
use Rattle.runs.specs.Steps.{advance, begin, follow}
use Rattle.runs.proofs.drives.Driver.follow.Given as goal

abbrev pub invariant-loop-step : goal.invariant-loop-step
invariant-loop-step l = follow l.self.edges.now l.self.readings.now 0 l.path (begin l.initial.numbers) ≡ follow l.self.edges.now l.self.readings.now l.step-counter (drop l.step-counter l.path) (advance l.position l.numbers)
