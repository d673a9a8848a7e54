use Rattle.std.proofs.Common.{arith}
use Rattle.bits.proofs.WordLaws.{patch_is}
use Rattle.bits.proofs.Window.patched.Goals as goal

pub returns : goal.returns
returns c = rw c.from.ensures (patch_is c.args.word c.args.self.below c.args.self.width c.args.value (omega arith) (omega arith))
