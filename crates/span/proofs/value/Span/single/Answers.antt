use Rattle.std.proofs.Common.{sym, arith}
use Rattle.std.proofs.lemmas.Int.{ints}
use Rattle.span.specs.Made.{single_of}
use Rattle.span.proofs.value.Span.single.Goals as goal

pub returns : goal.returns
returns c = sym (single_of c.args.number _ (omega (arith, ints)) (omega (arith, ints)))
