use Rattle.std.proofs.Common.{◌∙◌, arith}
use Rattle.bits.proofs.WordLaws.{put_from}
use Rattle.bits.proofs.Window.write_short.Goals as goal

pub returns : goal.returns
returns c = c.store_short.ensures ∙ put_from _ _ _ _ _ _ _ _ _ (omega arith) (omega arith) (omega arith) c.load_short.ensures c.patched-new.ensures
