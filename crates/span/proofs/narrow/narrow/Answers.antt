use Rattle.std.proofs.Common.{arith}
use Rattle.span.proofs.Wide.{wide}
use Rattle.span.proofs.narrow.narrow.Goals as goal

pub returns-in-Less : goal.returns-in-Less
returns-in-Less c = grind (arith, wide)

pub returns-in-Greater : goal.returns-in-Greater
returns-in-Greater c = grind (arith, wide)
