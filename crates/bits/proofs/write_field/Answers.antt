use Rattle.bits.proofs.PutLaws.{put_none}
use Rattle.bits.proofs.write_field.Goals as goal

pub returns-then-width-eq0 : goal.returns-then-width-eq0
returns-then-width-eq0 c = rw (c.if-width-eq0.true, put_none)
