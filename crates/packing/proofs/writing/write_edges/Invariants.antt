use Rattle.std.proofs.Common.{◌≡◌, drop}
use Rattle.packing.specs.Packing.{put_edges}
use Rattle.packing.proofs.writing.write_edges.Given as goal

abbrev pub invariant-loop-number : goal.invariant-loop-number
invariant-loop-number l = put_edges l.initial.bytes 0 l.edges ≡ put_edges l.bytes l.number (drop l.number l.edges)
