-- The bytes of a macro, and what `pack` answers.
use Rattle.std.specs.Prelude.{ℕ, ◌+◌, cond, List, [], ◌∷◌, ◌++◌, length, drop, replicate, Ok, Err, Result, nat_lt}
use Rattle.bits.specs.Field.{put}
use Rattle.macros.specs.declared.faults.EdgeFault.{EdgeFault}
use Rattle.macros.specs.declared.faults.MacroFault.{MacroFault}
use Rattle.macros.specs.declared.layout.Field.{Field}
use Rattle.macros.specs.declared.layout.Field.TheVariants.{Variables, Places, Guarded, Edges, HeaderFilling, From, To, Form, Target, LeftMark, Left, RightMark, Right, EdgeFilling}
use Rattle.macros.specs.declared.parts.Edge.{Edge}
use Rattle.macros.specs.declared.parts.Header.{Header}
use Rattle.macros.specs.Faults.{bind, in_edge, in_edges, in_header}
use Rattle.macros.specs.Layout.{edge_bit, file_length, offset, width}
use Rattle.macros.specs.Macro.{Macro}
use Rattle.decoding.specs.declared.fields.EdgeFields.{EdgeFields}
use Rattle.decoding.specs.declared.fields.HeaderFields.{HeaderFields}
use Rattle.decoding.specs.Decode.{decode_edge, decode_header}
use Rattle.packing.specs.declared.faults.PackRefusal.{PackRefusal}
use Rattle.packing.specs.declared.faults.RoomFault.{RoomFault}
use Rattle.packing.specs.Encode.{fields_of, header_fields}
use Rattle.packing.specs.Faults.{in_pack, no_room}

-- each field written with its number, in the header or edge that begins at bit `at`
unfoldable pub put_fields : List ℕ → ℕ → List (Field × ℕ) → List ℕ
put_fields bs at [] = bs
put_fields bs at (x ∷ xs) = put_fields (put bs (at + offset x.0) (width x.0) x.1) at xs

-- the fields of a header in their order, each with its number
abbrev pub header_list : HeaderFields → List (Field × ℕ)
header_list x =
    (Variables, x.variables) ∷ (Places, x.places) ∷ (Guarded, x.guarded) ∷ (Edges, x.edges)
    ∷ (HeaderFilling, x.filling) ∷ []

-- the fields of an edge in their order, each with its number
abbrev pub edge_list : EdgeFields → List (Field × ℕ)
edge_list x =
    (From, x.from) ∷ (To, x.to) ∷ (Form, x.form) ∷ (Target, x.target)
    ∷ (LeftMark, x.left_mark) ∷ (Left, x.left) ∷ (RightMark, x.right_mark) ∷ (Right, x.right)
    ∷ (EdgeFilling, x.filling) ∷ []

-- the edges written one after the other, from number i on
unfoldable pub put_edges : List ℕ → ℕ → List Edge → List ℕ
put_edges bs i [] = bs
put_edges bs i (x ∷ xs) = put_edges (put_fields bs (edge_bit i) (edge_list (fields_of x))) (i + 1) xs

-- the header and the edges written
abbrev pub put_macro : List ℕ → Macro → List ℕ
put_macro bs m = put_edges (put_fields bs 0 (header_list (header_fields m))) 0 m.edges

-- the bytes of a macro
abbrev pub packed : Macro → List ℕ
packed m = put_macro (replicate (file_length (length m.edges)) 0) m

-- the edges, from number i on, tested as reading would test them
unfoldable pub test_edges : Header → ℕ → List Edge → Result (Unit {0}) EdgeFault
test_edges h i [] = Ok tt
test_edges h i (x ∷ xs) =
    bind in_edge (decode_edge h.variables h.places (edge_bit i) (fields_of x)) (λ _. test_edges h (i + 1) xs)

-- the macro tested as reading would test it
abbrev pub test_macro : Macro → Result Header MacroFault
test_macro m =
    bind in_header (decode_header (header_fields m)) (λ h. bind in_edges (test_edges h 0 m.edges) (λ _. Ok h))

-- whether so many bytes have room
abbrev pub test_room : ℕ → ℕ → Result (Unit {0}) RoomFault
test_room needed given = cond (nat_lt given needed) (Err (record { needed = needed; given = given })) (Ok tt)

-- what `pack` answers, for memory of so many bytes: how many it writes
abbrev pub pack_answer : Macro → ℕ → Result ℕ PackRefusal
pack_answer m given =
    bind in_pack (test_macro m) (λ _.
    bind no_room (test_room (file_length (length m.edges)) given) (λ _.
    Ok (file_length (length m.edges))))

-- what the memory holds then: the macro's bytes and what was beyond them, or, at a refusal, what it held
abbrev pub pack_memory : Result ℕ PackRefusal → Macro → List ℕ → List ℕ
pack_memory (Ok count) m out = packed m ++ drop count out
pack_memory (Err e) m out = out
