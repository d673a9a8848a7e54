use Rattle.std.proofs.Common.{◌≡◌, ℕ, ◌+◌, ◌-◌, ◌*◌, ◌<◌, get_or, refl, arith, rules}
use Rattle.std.proofs.lemmas.Nat.{shr-shr}
use Rattle.bits.proofs.PutLaws.{put_none}
use Rattle.bits.proofs.WordLaws.{put_byte_before}
use Rattle.bits.proofs.store_each.Goals as goal

pub loop-index-init : goal.loop-index-init
loop-index-init c =
    let none : c.args.end - c.args.end ≡ 0 = omega arith in
    rw (none, put_none) (search rules)

pub loop-index-preserved : goal.loop-index-preserved
loop-index-preserved c =
    let small : (i : ℕ) → get_or c.args.bytes.now i 0 < 256 = search rules in
    let i = c.loop-index.index - 1 in
    let k = c.args.end - c.loop-index.index in
    let next : i + 1 ≡ c.loop-index.index = omega arith in
    let more : c.args.end - i ≡ k + 1 = omega arith in
    let bits : 8 * k + 8 ≡ 8 * (k + 1) = omega arith in
    rw (more, ← bits, c.loop-index.invariant.1) (omega arith, shr-shr c.args.word (8 * k) 8, rw bits (put_byte_before c.args.bytes.now _ i k c.args.word _ (omega arith) (small i) refl (rw next c.loop-index.invariant.2)))

pub returns : goal.returns
returns c =
    let all : c.loop-index.index ≡ c.args.first = omega arith in
    rw all at c.loop-index.invariant.2
