-- Fields that lie one after the other: what writing them leaves, and what they then hold.
use Rattle.std.proofs.Common.{◌≡◌, ℕ, ◌+◌, ◌*◌, ◌^◌, ◌<◌, ◌≤◌, List, [], ◌∷◌, ◌++◌, length, sym, refl, ap, ◌∙◌, ap₂, inr, arith}
use Rattle.bits.specs.Field.{Bytes, field, put}
use Rattle.bits.proofs.FieldLaws.{field_none, field_split}
use Rattle.bits.proofs.PutLaws.{field_put, field_put_other, length_put}
use Rattle.bits.proofs.Appends.{put_append, put_bytes}
use Rattle.macros.specs.declared.layout.Field.{Field}
use Rattle.macros.specs.Layout.{field_at, offset, width}
use Rattle.packing.specs.Packing.{put_fields}

-- each field begins where the one before it ends, the first at offset a
unfoldable pub Row : ℕ → List (Field × ℕ) → Type 0
Row a [] = Unit {0}
Row a (x ∷ xs) = (offset x.0 ≡ a) × Row (a + width x.0) xs

-- how many bits the fields have
unfoldable pub total : List (Field × ℕ) → ℕ
total [] = 0
total (x ∷ xs) = width x.0 + total xs

-- each number fits its field
unfoldable pub Narrow : List (Field × ℕ) → Type 0
Narrow [] = Unit {0}
Narrow (x ∷ xs) = (x.1 < 2 ^ width x.0) × Narrow xs

-- each field holds its number
unfoldable pub Held : List ℕ → ℕ → List (Field × ℕ) → Type 0
Held bs at [] = Unit {0}
Held bs at (x ∷ xs) = (field_at bs at x.0 ≡ x.1) × Held bs at xs

pub length_fields : (bs : List ℕ) (at : ℕ) (xs : List (Field × ℕ)) → length (put_fields bs at xs) ≡ length bs
unfolding put_fields
length_fields bs at [] = refl
length_fields bs at (x ∷ xs) = length_fields (put bs (at + offset x.0) (width x.0) x.1) at xs ∙ length_put bs _ _ _

pub fields_bytes : (bs : List ℕ) (at : ℕ) (xs : List (Field × ℕ)) → Bytes bs → Bytes (put_fields bs at xs)
unfolding put_fields
fields_bytes bs at [] h = h
fields_bytes bs at (x ∷ xs) h = fields_bytes (put bs (at + offset x.0) (width x.0) x.1) at xs (put_bytes bs _ _ _ h)

-- fields within the first list leave the second as it is
pub fields_append : (bs cs : List ℕ) (at a : ℕ) (xs : List (Field × ℕ)) → Row a xs → at + a + total xs ≤ 8 * length bs → put_fields (bs ++ cs) at xs ≡ put_fields bs at xs ++ cs
unfolding put_fields Row total
fields_append bs cs at a [] row room = refl
fields_append bs cs at a (x ∷ xs) row room =
    let e = row.0 in
    let p = at + offset x.0 in
    let n = length_put bs p (width x.0) x.1 in
    ap (λ b. put_fields b at xs) (put_append bs cs p (width x.0) x.1 (omega arith))
    ∙ fields_append (put bs p (width x.0) x.1) cs at (a + width x.0) xs row.1 (omega arith)

-- a field before them is as it was
pub fields_before : (bs : List ℕ) (at a : ℕ) (xs : List (Field × ℕ)) → Row a xs → at + a + total xs ≤ 8 * length bs → (p w : ℕ) → p + w ≤ at + a → field (put_fields bs at xs) p w ≡ field bs p w
unfolding put_fields Row total
fields_before bs at a [] row room p w le = refl
fields_before bs at a (x ∷ xs) row room p w le =
    let e = row.0 in
    let q = at + offset x.0 in
    let n = length_put bs q (width x.0) x.1 in
    fields_before (put bs q (width x.0) x.1) at (a + width x.0) xs row.1 (omega arith) p w (omega arith)
    ∙ field_put_other bs q (width x.0) x.1 p w (omega arith) (inr (omega arith))

-- what is written is held
pub fields_held : (bs : List ℕ) (at a : ℕ) (xs : List (Field × ℕ)) → Row a xs → at + a + total xs ≤ 8 * length bs → Narrow xs → Held (put_fields bs at xs) at xs
unfolding put_fields Row total Narrow Held
fields_held bs at a [] row room narrow = tt
fields_held bs at a (x ∷ xs) row room narrow =
    let e = row.0 in
    let q = at + offset x.0 in
    let cs = put bs q (width x.0) x.1 in
    let n = length_put bs q (width x.0) x.1 in (
      fields_before cs at (a + width x.0) xs row.1 (omega arith) q (width x.0) (omega arith) ∙ field_put bs q (width x.0) x.1 (omega arith) narrow.0,
      fields_held cs at (a + width x.0) xs row.1 (omega arith) narrow.1,
    )

-- where the same is held, the bits are the same
pub held_same : (bs cs : List ℕ) (at a : ℕ) (xs : List (Field × ℕ)) → Row a xs → Held bs at xs → Held cs at xs → field bs (at + a) (total xs) ≡ field cs (at + a) (total xs)
unfolding Row total Held
held_same bs cs at a [] row hb hc = field_none bs (at + a) ∙ sym (field_none cs (at + a))
held_same bs cs at a (x ∷ xs) row hb hc =
    let w = width x.0 in
    let first : field bs (at + a) w ≡ field cs (at + a) w = ap (λ o. field bs (at + o) w) (sym row.0) ∙ hb.0 ∙ sym hc.0 ∙ ap (λ o. field cs (at + o) w) row.0 in
    let z : at + (a + w) ≡ at + a + w = omega arith in
    let rest : field bs (at + a + w) (total xs) ≡ field cs (at + a + w) (total xs) = ap (λ p. field bs p (total xs)) (sym z) ∙ held_same bs cs at (a + w) xs row.1 hb.1 hc.1 ∙ ap (λ p. field cs p (total xs)) z in
    field_split bs (at + a) w (total xs) ∙ ap₂ (λ (u v : ℕ). u * 2 ^ total xs + v) first rest ∙ sym (field_split cs (at + a) w (total xs))

-- what is held stays held where the bits of the row are kept
pub held_kept : (bs cs : List ℕ) (at a : ℕ) (xs : List (Field × ℕ)) → Row a xs → ((p w : ℕ) → p + w ≤ at + a + total xs → field cs p w ≡ field bs p w) → Held bs at xs → Held cs at xs
unfolding Row total Held
held_kept bs cs at a [] row keeps h = tt
held_kept bs cs at a (x ∷ xs) row keeps h =
    let e = row.0 in (
      keeps (at + offset x.0) (width x.0) (omega arith) ∙ h.0,
      held_kept bs cs at (a + width x.0) xs row.1 (λ p w le. keeps p w (omega arith)) h.1,
    )
