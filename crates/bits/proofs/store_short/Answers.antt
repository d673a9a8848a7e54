use Rattle.std.proofs.Common.{◌≡◌, ℕ, ◌-◌, ◌%◌, ◌<◌, get_or, sym, arith, rules}
use lib.Bits.{bit_and}
use Rattle.std.proofs.lemmas.Nat.{and_mask}
use Rattle.bits.proofs.PutLaws.{put_byte}
use Rattle.bits.proofs.store_short.Goals as goal

pub returns-then-first-end : goal.returns-then-first-end
returns-then-first-end c =
    let small : (i : ℕ) → get_or c.args.bytes.now i 0 < 256 = search rules in
    let one : c.args.end - c.args.first ≡ 1 = omega arith in
    let low : bit_and c.args.word 255 ≡ c.args.word % 256 = and_mask c.args.word 8 in
    rw (one, low) (sym (put_byte c.args.bytes.now c.args.first c.args.word (omega arith) (small _)))
