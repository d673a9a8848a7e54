use Rattle.std.proofs.Common.{arith}
use Rattle.span.proofs.Wide.{wide}
use Rattle.span.proofs.combine.sum.Goals as goal

pub returns : goal.returns
returns c = grind (arith, wide)
