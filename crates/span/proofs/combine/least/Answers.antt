use Rattle.std.proofs.Common.{rules}
use Rattle.span.specs.Span.{least_of_4}
use Rattle.span.proofs.combine.least.Goals as goal

pub returns : goal.returns
unfolding least_of_4
returns c = search rules
