use Rattle.bits.proofs.FieldLaws.{field_split}
use Rattle.bits.proofs.PutLaws.{field_put, field_put_other, length_put, put_own}
use Rattle.bits.proofs.field_laws.Goals as goal

pub returns : goal.returns
returns c = record { splits = field_split; reads_back = field_put; others_kept = field_put_other; length_kept = length_put; own_kept = put_own }
