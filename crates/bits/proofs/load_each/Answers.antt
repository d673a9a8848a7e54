use Rattle.std.proofs.Common.{◌≡◌, ℕ, ◌-◌, ◌*◌, ◌<◌, ◌∙◌, get_or, sym, ap, arith, rules}
use Rattle.std.proofs.lemmas.List.Edits.{get_or-between, length-between}
use Rattle.bits.specs.Field.{field}
use Rattle.bits.proofs.FieldLaws.{field_none}
use Rattle.bits.proofs.WordLaws.{field_next_byte}
use Rattle.bits.proofs.load_each.Goals as goal

pub loop-byte-init : goal.loop-byte-init
loop-byte-init c = sym (field_none _ _)

pub loop-byte-preserved : goal.loop-byte-preserved
loop-byte-preserved c =
    let small : (i : ℕ) → get_or c.args.bytes.now i 0 < 256 = search rules in
    let long = length-between c.args.bytes.now c.args.first c.args.end c.requires.inside in
    let at = get_or-between c.args.bytes.now c.args.first c.args.end c.loop-byte.byte-index 0 (omega arith) in
    field_next_byte _ _ _ _ _ (omega arith) (c.from.ensures ∙ at) (small _) c.loop-byte.invariant

pub returns : goal.returns
returns c =
    let long = length-between c.args.bytes.now c.args.first c.args.end c.requires.inside in
    let all : c.loop-byte.byte-index ≡ c.args.end - c.args.first = omega arith in
    c.loop-byte.invariant ∙ ap (λ k. field c.args.bytes.now (8 * c.args.first) (8 * k)) all
