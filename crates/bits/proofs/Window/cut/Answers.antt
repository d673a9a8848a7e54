use Rattle.std.proofs.Common.{◌<◌, arith}
use Rattle.std.proofs.lemmas.Nat.{one_shl, and_mask}
use Rattle.bits.proofs.Window.cut.Goals as goal

pub returns : goal.returns
returns c = let h : c.args.self.width < 64 = omega arith in rw (one_shl c.args.self.width 64 h, and_mask)
