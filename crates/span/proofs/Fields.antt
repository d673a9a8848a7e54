-- A field of 64 bits is two fields of 32 bits.
use Rattle.std.proofs.Common.{◌≡◌, ℕ, ◌+◌, ◌*◌, ◌/◌, ◌%◌, ◌<◌, List, sym, ap, ◌∙◌, arith}
use Rattle.bits.specs.Field.{field, put}
use Rattle.bits.proofs.FieldLaws.{field_lt, field_split}
use Rattle.bits.proofs.PutLaws.{put_low, put_split}

-- the two halves of a number of 64 bits
pub first_half : (a b : ℕ) → a < 4294967296 → b < 4294967296 → (a * 4294967296 + b) / 4294967296 % 4294967296 ≡ a
first_half a b p q = omega arith

pub second_half : (a b : ℕ) → b < 4294967296 → (a * 4294967296 + b) % 4294967296 ≡ b
second_half a b q = omega arith

module _ (bs : List ℕ) (at : ℕ) where
  pub first_field : field bs at 64 / 4294967296 % 4294967296 ≡ field bs at 32
  first_field = ap (λ c. c / 4294967296 % 4294967296) (field_split bs at 32 32) ∙ first_half (field bs at 32) (field bs (at + 32) 32) (field_lt bs at 32) (field_lt bs (at + 32) 32)

  pub second_field : field bs at 64 % 4294967296 ≡ field bs (at + 32) 32
  second_field = ap (λ c. c % 4294967296) (field_split bs at 32 32) ∙ second_half (field bs at 32) (field bs (at + 32) 32) (field_lt bs (at + 32) 32)

  pub put_halves : (a b : ℕ) → b < 4294967296 → put (put bs at 32 a) (at + 32) 32 b ≡ put bs at 64 (a * 4294967296 + b)
  put_halves a b q =
      let d : (a * 4294967296 + b) / 4294967296 ≡ a = omega arith in
      sym (put_split bs at 32 32 (a * 4294967296 + b) ∙ ap (λ n. put (put bs at 32 n) (at + 32) 32 (a * 4294967296 + b)) d ∙ put_low (put bs at 32 a) (at + 32) 32 a b)
