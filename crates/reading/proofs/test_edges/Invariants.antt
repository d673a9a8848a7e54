use Rattle.std.proofs.Common.{◌≡◌, ◌-◌}
use Rattle.macros.specs.Faults.{tested}
use Rattle.reading.specs.Reading.{read_edges}
use Rattle.reading.proofs.test_edges.Given as goal

abbrev pub invariant-loop-number : goal.invariant-loop-number
invariant-loop-number l = tested (read_edges l.bytes l.header 0 l.header.edges) ≡ tested (read_edges l.bytes l.header l.number (l.header.edges - l.number))
