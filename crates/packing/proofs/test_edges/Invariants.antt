use Rattle.std.proofs.Common.{◌≡◌, take, drop}
use Rattle.packing.specs.Packing.{test_edges}
use Rattle.macros.specs.Range.{Sized}
use Rattle.packing.proofs.test_edges.Given as goal

abbrev pub invariant-loop-number : goal.invariant-loop-number
invariant-loop-number l =
    (test_edges l.header 0 l.edges ≡ test_edges l.header l.number (drop l.number l.edges))
    × Sized (take l.number l.edges)
