use Rattle.std.proofs.Common.{◌≡◌, arith, w32, to_z, of_z}
use Rattle.std.proofs.lemmas.Int.{ints}
use Rattle.exact.proofs.Marks.{recalled_field}
use Rattle.exact.proofs.kind.ExactKind.read.Goals as goal

pub returns : goal.returns
returns c =
    let number : to_z w32 (of_z w32 c.cast_signed.result) ≡ c.cast_signed.result = omega (arith, ints) in
    cc (recalled_field c.args.bytes.now c.args.at)
