use Rattle.std.proofs.Common.{◌≡◌, arith, w32, to_z, of_z}
use Rattle.std.specs.Int.{from_bool}
use Rattle.std.proofs.lemmas.Int.{ints}
use Rattle.exact.proofs.Marks.{marked, written_kept}
use Rattle.exact.proofs.kind.ExactKind.write.Goals as goal

pub returns : goal.returns
returns c =
    let plain = c.keep-plain.result in
    let number : to_z w32 (of_z w32 plain.number) ≡ plain.number = omega (arith, ints) in
    cc (marked c.args.bytes.now c.args.at (from_bool plain.known) (of_z w32 plain.number) (omega (arith, ints)), written_kept c.args.self)
