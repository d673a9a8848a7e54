-- Texts are lists of bytes, and are written one after the other.
use Rattle.std.specs.Prelude.{ℕ, List, ◌++◌}

-- one text and then another
infixr 65 ◌&◌
abbrev pub ◌&◌ : List ℕ → List ℕ → List ℕ
a & b = a ++ b
