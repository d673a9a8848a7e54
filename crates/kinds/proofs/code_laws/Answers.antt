use Rattle.std.proofs.Common.{ap, ◌∙◌}
use Rattle.bits.specs.Field.{put}
use Rattle.bits.proofs.FieldLaws.{field_lt}
use Rattle.bits.proofs.PutLaws.{field_put, put_own}
use Rattle.kinds.proofs.code_laws.Goals as goal

pub returns : goal.returns
returns g c =
    let o = g.K.Kind.ops in
    let laws = g.met.K.Kind.laws in
    let w = o.width in
    record {
      written_reads = λ bs at v h r. ap o.read (field_put bs at w (o.write v) r (laws.write_fits h v)) ∙ laws.write_read h v;
      read_writes = λ bs at v h r e. ap (put bs at w) (laws.read_write h _ v (field_lt bs at w) e) ∙ put_own bs at w;
    }
