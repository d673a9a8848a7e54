use Rattle.std.proofs.Common.{sym, ap}
use Rattle.texts.specs.Faults.{asked}
use Rattle.texts.proofs.faults.field_asks.Goals as goal

pub returns-in-LeftMark : goal.returns-in-LeftMark
returns-in-LeftMark c = sym (ap asked c.in-LeftMark.is)
