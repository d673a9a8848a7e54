use Rattle.std.proofs.Common.{◌∙◌, arith}
use Rattle.bits.proofs.WordLaws.{field_from}
use Rattle.bits.proofs.Window.read_short.Goals as goal

pub returns : goal.returns
returns c = c.cut.ensures ∙ field_from _ _ _ _ _ _ _ (omega arith) (omega arith) c.load_short.ensures
