use Rattle.std.proofs.Common.{◌≡◌, ℕ, ◌-◌, ◌<◌, ◌∙◌, get_or, sym, arith, rules}
use Rattle.bits.proofs.FieldLaws.{field_byte}
use Rattle.bits.proofs.load_short.Goals as goal

pub returns-then-first-end : goal.returns-then-first-end
returns-then-first-end c =
    let small : (i : ℕ) → get_or c.args.bytes.now i 0 < 256 = search rules in
    let one : c.args.end - c.args.first ≡ 1 = omega arith in
    rw one (c.from.ensures ∙ sym (field_byte c.args.bytes.now c.args.first (small _)))
