use Rattle.std.proofs.Common.{ℕ, ◌<◌, ◌∙◌, get_or, rules}
use Rattle.bits.proofs.WordLaws.{field_8}
use Rattle.bits.proofs.load.Goals as goal

pub returns : goal.returns
returns c =
    let small : (i : ℕ) → get_or c.args.bytes.now i 0 < 256 = search rules in
    c.from_be_bytes.ensures ∙ field_8 _ _ _ small (rw c.unwrap.ensures at c.as_array.ensures.cases).same
