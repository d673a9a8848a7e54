use Rattle.std.proofs.Common.{rules}
use Rattle.span.specs.Span.{greatest_of_4}
use Rattle.span.proofs.combine.greatest.Goals as goal

pub returns : goal.returns
unfolding greatest_of_4
returns c = search rules
