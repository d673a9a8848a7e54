use Rattle.std.proofs.Common.{ℕ, ◌<◌, ◌∙◌, get_or, arith, rules}
use Rattle.bits.proofs.WordLaws.{put_8}
use Rattle.bits.proofs.store.Goals as goal

pub returns : goal.returns
returns c =
    let small : (i : ℕ) → get_or c.args.bytes.now i 0 < 256 = search rules in
    put_8 _ _ _ _ _ (omega arith) (c.copy_from_slice.ensures.after ∙ c.to_be_bytes.ensures) (omega arith) small
