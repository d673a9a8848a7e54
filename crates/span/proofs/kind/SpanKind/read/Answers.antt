use Rattle.std.proofs.Common.{◌≡◌, arith, w32, to_z, of_z}
use Rattle.std.proofs.lemmas.Int.{ints}
use Rattle.span.proofs.Fields.{first_field, second_field}
use Rattle.span.proofs.kind.SpanKind.read.Goals as goal

pub returns : goal.returns
returns c =
    let low : to_z w32 (of_z w32 c.cast_signed.result) ≡ c.cast_signed.result = omega (arith, ints) in
    let high : to_z w32 (of_z w32 c.cast_signed-2.result) ≡ c.cast_signed-2.result = omega (arith, ints) in
    cc (first_field c.args.bytes.now c.args.at, second_field c.args.bytes.now c.args.at)
