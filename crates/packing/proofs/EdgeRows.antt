-- The fields of a header and of an edge are rows.
use Rattle.std.proofs.Common.{◌≡◌, ℕ, ◌+◌, List, sym, refl, ap, ◌∙◌, subst, arith}
use Rattle.bits.specs.Field.{field}
use Rattle.decoding.specs.declared.fields.EdgeFields.{EdgeFields}
use Rattle.decoding.specs.declared.fields.HeaderFields.{HeaderFields}
use Rattle.decoding.specs.Decode.{edge_fields_at, header_fields_at}
use Rattle.packing.specs.Packing.{edge_list, header_list}
use Rattle.packing.proofs.Rows.{Held, Row, held_same, total}

pub header_row : (x : HeaderFields) → Row 0 (header_list x)
unfolding Row
header_row x = (refl, (refl, (refl, (refl, (refl, tt)))))

pub header_total : (x : HeaderFields) → total (header_list x) ≡ 32
unfolding total
header_total x = refl

pub edge_row : (x : EdgeFields) → Row 0 (edge_list x)
unfolding Row
edge_row x = (refl, (refl, (refl, (refl, (refl, (refl, (refl, (refl, (refl, tt)))))))))

pub edge_total : (x : EdgeFields) → total (edge_list x) ≡ 96
unfolding total
edge_total x = refl

-- holding the fields' numbers is reading them
pub header_read : (bs : List ℕ) (x : HeaderFields) → Held bs 0 (header_list x) → header_fields_at bs ≡ x
unfolding Held
header_read bs x h = rw (h.0, h.1.0, h.1.1.0, h.1.1.1.0, h.1.1.1.1.0) refl

pub header_held : (bs : List ℕ) (x : HeaderFields) → header_fields_at bs ≡ x → Held bs 0 (header_list x)
unfolding Held
header_held bs x e = subst (λ y. Held bs 0 (header_list y)) e (refl, (refl, (refl, (refl, (refl, tt)))))

pub edge_read : (bs : List ℕ) (at : ℕ) (x : EdgeFields) → Held bs at (edge_list x) → edge_fields_at bs at ≡ x
unfolding Held
edge_read bs at x h = rw (h.0, h.1.0, h.1.1.0, h.1.1.1.0, h.1.1.1.1.0, h.1.1.1.1.1.0, h.1.1.1.1.1.1.0, h.1.1.1.1.1.1.1.0, h.1.1.1.1.1.1.1.1.0) refl

pub edge_held : (bs : List ℕ) (at : ℕ) (x : EdgeFields) → edge_fields_at bs at ≡ x → Held bs at (edge_list x)
unfolding Held
edge_held bs at x e = subst (λ y. Held bs at (edge_list y)) e (refl, (refl, (refl, (refl, (refl, (refl, (refl, (refl, (refl, tt)))))))))

-- where the same fields are held, the bits are the same
pub header_same : (bs cs : List ℕ) (x : HeaderFields) → Held bs 0 (header_list x) → Held cs 0 (header_list x) → field bs 0 32 ≡ field cs 0 32
unfolding total
header_same bs cs x hb hc = held_same bs cs 0 0 (header_list x) (header_row x) hb hc

pub edge_same : (bs cs : List ℕ) (at : ℕ) (x : EdgeFields) → Held bs at (edge_list x) → Held cs at (edge_list x) → field bs at 96 ≡ field cs at 96
unfolding total
edge_same bs cs at x hb hc =
    let z : at + 0 ≡ at = omega arith in
    ap (λ p. field bs p 96) (sym z) ∙ held_same bs cs at 0 (edge_list x) (edge_row x) hb hc ∙ ap (λ p. field cs p 96) z
