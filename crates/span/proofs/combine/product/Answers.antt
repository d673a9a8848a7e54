use Rattle.std.proofs.Common.{◌≡◌, ◌*ℤ◌, w64, to_z, of_z, arith}
use Rattle.std.proofs.lemmas.Int.{ints}
use Rattle.span.specs.Span.{greatest_of_4, least_of_4}
use Rattle.span.proofs.Wide.{wide}
use Rattle.span.proofs.combine.product.Goals as goal

pub returns : goal.returns
returns c =
    let s = c.args.left in
    let t = c.args.right in
    let l : c.least.result ≡ least_of_4 (s.low *ℤ t.low) (s.low *ℤ t.high) (s.high *ℤ t.low) (s.high *ℤ t.high) = grind (arith, wide) in
    let g : c.greatest.result ≡ greatest_of_4 (s.low *ℤ t.low) (s.low *ℤ t.high) (s.high *ℤ t.low) (s.high *ℤ t.high) = grind (arith, wide) in
    let from : to_z w64 (of_z w64 c.least.result) ≡ c.least.result = omega (arith, ints) in
    let to : to_z w64 (of_z w64 c.greatest.result) ≡ c.greatest.result = omega (arith, ints) in
    cc
