-- A code of 33 bits is the mark of a plain record, of 1 bit, and its number, of 32 bits.
use Rattle.std.proofs.Common.{◌≡◌, ℕ, zero, suc, ◌+◌, ◌*◌, ◌/◌, ◌%◌, ◌<◌, ◌==◌, List, Some, None, cond, pos, refl, sym, ap, ap₂, ◌∙◌, arith, w32, to_z, of_z}
use Rattle.std.specs.Int.{from_bool}
use Rattle.std.proofs.lemmas.Int.{ints}
use Rattle.std.proofs.lemmas.Bool.Decides.{nat_tests}
use Rattle.bits.specs.Field.{field, put}
use Rattle.bits.proofs.FieldLaws.{field_lt, field_split}
use Rattle.bits.proofs.PutLaws.{put_low, put_split}
use Rattle.numbers.specs.Arithmetic.{same_int}
use Rattle.exact.specs.declared.value.Exact.{Exact}
use Rattle.exact.specs.declared.value.Exact.TheVariants.{Only, Unknown}
use Rattle.exact.specs.Exact.{decoded, kept, read_as, recalled, recalled_as, written}

-- the mark is the highest bit
pub mark_of : (bs : List ℕ) (at : ℕ) → field bs at 33 / 4294967296 ≡ field bs at 1
mark_of bs at =
    let s : field bs at 33 ≡ field bs at 1 * 4294967296 + field bs (at + 1) 32 = field_split bs at 1 32 in
    let l : field bs (at + 1) 32 < 4294967296 = field_lt bs (at + 1) 32 in
    omega arith

-- and the number is the rest
pub number_of : (bs : List ℕ) (at : ℕ) → field bs at 33 % 4294967296 ≡ field bs (at + 1) 32
number_of bs at =
    let s : field bs at 33 ≡ field bs at 1 * 4294967296 + field bs (at + 1) 32 = field_split bs at 1 32 in
    let l : field bs (at + 1) 32 < 4294967296 = field_lt bs (at + 1) 32 in
    omega arith

-- the code of a value is the mark and the number of its record
pub written_kept : (v : Exact) → written v ≡ from_bool (kept v).known * 4294967296 + of_z w32 (kept v).number
written_kept (Only k) = omega arith
written_kept Unknown = refl

-- a mark is written, and then a number
pub marked : (bs : List ℕ) (at m n : ℕ) → n < 4294967296 → put (put bs at 1 m) (at + 1) 32 n ≡ put bs at 33 (m * 4294967296 + n)
marked bs at m n lt =
    let e : (m * 4294967296 + n) / 4294967296 ≡ m = omega arith in
    sym (put_split bs at 1 32 (m * 4294967296 + n) ∙ ap (λ x. put (put bs at 1 x) (at + 1) 32 (m * 4294967296 + n)) e ∙ put_low (put bs at 1 m) (at + 1) 32 m n)

zero_bits : (n : ℕ) → same_int (to_z w32 n) (pos 0) ≡ (n == 0)
zero_bits n = grind (arith, nat_tests, ints)

-- 33 bits are the code of what the record with their mark and their number keeps
recalled_decoded : (m n : ℕ) → m < 2 → recalled_as (m == 1) (to_z w32 n) ≡ decoded m n
recalled_decoded zero n l = ap (λ b. cond b (Some Unknown) None) (zero_bits n)
recalled_decoded (suc zero) n l = refl
recalled_decoded (suc (suc m)) n l = absurd (omega arith)

pub recalled_field : (bs : List ℕ) (at : ℕ) → recalled (record { number = to_z w32 (field bs (at + 1) 32); known = field bs at 1 == 1 }) ≡ read_as (field bs at 33)
recalled_field bs at = recalled_decoded _ _ (field_lt bs at 1) ∙ ap₂ decoded (sym (mark_of bs at)) (sym (number_of bs at))
