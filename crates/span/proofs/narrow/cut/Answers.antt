use Rattle.std.proofs.Common.{arith}
use Rattle.span.proofs.Wide.{wide}
use Rattle.span.proofs.narrow.cut.Goals as goal

pub returns-then-a-k : goal.returns-then-a-k
returns-then-a-k c = grind (arith, wide)
