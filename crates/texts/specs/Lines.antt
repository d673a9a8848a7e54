-- A whole macro in lines, as bytes.
use Rattle.std.specs.Prelude.{◌≡◌, ℕ, ◌+◌, List, [], ◌∷◌, Ok, codes}
use Rattle.macros.specs.declared.parts.Edge.{Edge}
use Rattle.macros.specs.Macro.{Macro, header_of}
use Rattle.reading.specs.Reading.{read_macro}
use Rattle.texts.specs.Parts.{edge_line, header_lines}
use Rattle.texts.specs.Text.{◌&◌}

-- a line for each edge, where the first has the number i
unfoldable pub edge_lines : ℕ → List Edge → List ℕ
edge_lines i [] = []
edge_lines i (x ∷ xs) = (edge_line i x & codes "\n") & edge_lines (i + 1) xs

-- the lines of the header, and then one for each edge
abbrev pub macro_lines : Macro → List ℕ
macro_lines m = (header_lines (header_of m) & codes "\n") & edge_lines 0 m.edges

-- the text has the lines of the macro that these bytes read as
abbrev pub Describes : List ℕ → List ℕ → Type 0
Describes text bs = (m : Macro) × (read_macro bs ≡ Ok m) × (text ≡ macro_lines m)
