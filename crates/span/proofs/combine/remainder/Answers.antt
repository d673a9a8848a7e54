use Rattle.std.proofs.Common.{arith}
use Rattle.std.proofs.lemmas.Grind.{common_steps}
use Rattle.span.proofs.combine.remainder.Goals as goal

pub returns-then-is_single-2 : goal.returns-then-is_single-2
returns-then-is_single-2 c = grind (arith, common_steps)
