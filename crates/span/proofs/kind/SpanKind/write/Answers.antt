use Rattle.std.proofs.Common.{◌≡◌, arith, w32, to_z, of_z}
use Rattle.std.proofs.lemmas.Int.{ints}
use Rattle.span.proofs.Fields.{put_halves}
use Rattle.span.proofs.kind.SpanKind.write.Goals as goal

pub returns : goal.returns
returns c =
    let low : to_z w32 (of_z w32 c.args.self.low) ≡ c.args.self.low = omega (arith, ints) in
    let high : to_z w32 (of_z w32 c.args.self.high) ≡ c.args.self.high = omega (arith, ints) in
    cc (put_halves c.args.bytes.now c.args.at (of_z w32 c.args.self.low) (of_z w32 c.args.self.high) (omega (arith, ints)))
