use Rattle.bits.proofs.FieldLaws.{field_none}
use Rattle.bits.proofs.read_field.Goals as goal

pub returns-then-width-eq0 : goal.returns-then-width-eq0
returns-then-width-eq0 c = rw (c.if-width-eq0.true, field_none)
