use Rattle.std.proofs.Common.{sym, arith}
use Rattle.std.proofs.lemmas.Int.{ints}
use Rattle.exact.specs.Numbers.{only_is}
use Rattle.exact.proofs.kind.ExactKind.only.Goals as goal

pub returns : goal.returns
returns c = sym (only_is _ c.args.number (omega (arith, ints)))
