-- Where each field of a packed macro lies: the header has 32 bits, and each edge after it 96.
use Rattle.std.specs.Prelude.{ℕ, ◌+◌, ◌*◌, List}
use Rattle.bits.specs.Field.{field}
use Rattle.macros.specs.declared.layout.Field.{Field}
use Rattle.macros.specs.declared.layout.Field.TheVariants.{Variables, Places, Guarded, Edges, HeaderFilling, From, To, Form, Target, LeftMark, Left, RightMark, Right, EdgeFilling}

-- how many bits a field has
abbrev pub width : Field → ℕ
width Variables = 4
width Places = 8
width Guarded = 8
width Edges = 9
width HeaderFilling = 3
width From = 8
width To = 8
width Form = 4
width Target = 4
width LeftMark = 1
width Left = 32
width RightMark = 1
width Right = 32
width EdgeFilling = 6

-- where a field begins, counted from the first bit of the header, or of its edge
abbrev pub offset : Field → ℕ
offset Variables = 0
offset Places = 4
offset Guarded = 12
offset Edges = 20
offset HeaderFilling = 29
offset From = 0
offset To = 8
offset Form = 16
offset Target = 20
offset LeftMark = 24
offset Left = 25
offset RightMark = 57
offset Right = 58
offset EdgeFilling = 90

-- the number in a field of the header or edge that begins at bit `at`
abbrev pub field_at : List ℕ → ℕ → Field → ℕ
field_at bs at f = field bs (at + offset f) (width f)

-- the first bit of edge number i
abbrev pub edge_bit : ℕ → ℕ
edge_bit i = 32 + 96 * i

-- how many bytes a file with e edges has
abbrev pub file_length : ℕ → ℕ
file_length e = 4 + 12 * e
