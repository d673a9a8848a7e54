use Rattle.std.proofs.Common.{rules}
use Rattle.packing.specs.Packing.{put_fields}
use Rattle.packing.proofs.writing.write_edge.Goals as goal

pub returns : goal.returns
unfolding put_fields
returns c = search rules
