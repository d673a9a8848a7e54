-- The header and the edges of a file, written one after the other.
use Rattle.std.proofs.Common.{◌≡◌, ℕ, ◌+◌, ◌*◌, ◌≤◌, List, [], ◌∷◌, ◌++◌, length, take, drop, replicate, refl, ap, ◌∙◌, ap₂, arith}
use Rattle.std.proofs.lemmas.List.{length-replicate, length-take-le}
use Rattle.bits.specs.Field.{Bytes, field}
use Rattle.bits.proofs.Appends.{zero_bytes}
use Rattle.macros.specs.declared.parts.Edge.{Edge}
use Rattle.macros.specs.Layout.{edge_bit, file_length}
use Rattle.macros.specs.Macro.{Macro}
use Rattle.decoding.specs.declared.fields.HeaderFields.{HeaderFields}
use Rattle.packing.specs.Encode.{fields_of, header_fields}
use Rattle.packing.specs.Packing.{edge_list, header_list, packed, put_edges, put_fields, put_macro}
use Rattle.packing.proofs.EdgeRows.{edge_row, edge_total, header_row, header_total}
use Rattle.packing.proofs.Rows.{fields_append, fields_before, fields_bytes, length_fields}

-- one edge written
abbrev pub put_edge : List ℕ → ℕ → Edge → List ℕ
put_edge bs i x = put_fields bs (edge_bit i) (edge_list (fields_of x))

pub length_edges : (bs : List ℕ) (i : ℕ) (xs : List Edge) → length (put_edges bs i xs) ≡ length bs
unfolding put_edges
length_edges bs i [] = refl
length_edges bs i (x ∷ xs) = length_edges (put_edge bs i x) (i + 1) xs ∙ length_fields bs _ _

edges_bytes : (bs : List ℕ) (i : ℕ) (xs : List Edge) → Bytes bs → Bytes (put_edges bs i xs)
unfolding put_edges
edges_bytes bs i [] h = h
edges_bytes bs i (x ∷ xs) h = edges_bytes (put_edge bs i x) (i + 1) xs (fields_bytes bs _ _ h)

edges_append : (bs cs : List ℕ) (i : ℕ) (xs : List Edge) → edge_bit (i + length xs) ≤ 8 * length bs → put_edges (bs ++ cs) i xs ≡ put_edges bs i xs ++ cs
unfolding put_edges
edges_append bs cs i [] room = refl
edges_append bs cs i (x ∷ xs) room =
    let n = length_fields bs (edge_bit i) (edge_list (fields_of x)) in
    let t = edge_total (fields_of x) in
    ap (λ b. put_edges b (i + 1) xs) (fields_append bs cs (edge_bit i) 0 (edge_list (fields_of x)) (edge_row (fields_of x)) (omega arith))
    ∙ edges_append (put_edge bs i x) cs (i + 1) xs (omega arith)

-- a field before edge i is as it was
pub edges_before : (bs : List ℕ) (i : ℕ) (xs : List Edge) → edge_bit (i + length xs) ≤ 8 * length bs → (p w : ℕ) → p + w ≤ edge_bit i → field (put_edges bs i xs) p w ≡ field bs p w
unfolding put_edges
edges_before bs i [] room p w le = refl
edges_before bs i (x ∷ xs) room p w le =
    let n = length_fields bs (edge_bit i) (edge_list (fields_of x)) in
    let t = edge_total (fields_of x) in
    edges_before (put_edge bs i x) (i + 1) xs (omega arith) p w (omega arith)
    ∙ fields_before bs (edge_bit i) 0 (edge_list (fields_of x)) (edge_row (fields_of x)) (omega arith) p w (omega arith)

pub length_macro : (bs : List ℕ) (m : Macro) → length (put_macro bs m) ≡ length bs
length_macro bs m = length_edges (put_fields bs 0 (header_list (header_fields m))) 0 m.edges ∙ length_fields bs 0 (header_list (header_fields m))

-- a macro written within the first list leaves the second as it is
pub macro_append : (bs cs : List ℕ) (m : Macro) → file_length (length m.edges) ≤ length bs → put_macro (bs ++ cs) m ≡ put_macro bs m ++ cs
macro_append bs cs m room =
    let n = length_fields bs 0 (header_list (header_fields m)) in
    let t = header_total (header_fields m) in
    ap (λ b. put_edges b 0 m.edges) (fields_append bs cs 0 0 (header_list (header_fields m)) (header_row (header_fields m)) (omega arith))
    ∙ edges_append (put_fields bs 0 (header_list (header_fields m))) cs 0 m.edges (omega arith)

pub length_packed : (m : Macro) → length (packed m) ≡ file_length (length m.edges)
length_packed m = length_macro (replicate (file_length (length m.edges)) 0) m ∙ length-replicate (file_length (length m.edges)) 0

pub packed_bytes : (m : Macro) → Bytes (packed m)
packed_bytes m = edges_bytes _ 0 m.edges (fields_bytes _ 0 (header_list (header_fields m)) (zero_bytes (file_length (length m.edges))))

-- the first bytes made 0, and then the header and the edges written: the macro's bytes, and what was beyond them
pub macro_written : (m : Macro) (out cleared headed edged : List ℕ) (f : HeaderFields)
    → cleared ≡ replicate (file_length (length m.edges)) 0 ++ drop (file_length (length m.edges)) out
    → f ≡ header_fields m → headed ≡ put_fields cleared 0 (header_list f) → edged ≡ put_edges headed 0 m.edges
    → edged ≡ packed m ++ drop (file_length (length m.edges)) out
macro_written m out cleared headed edged f c h p e =
    let n = file_length (length m.edges) in
    let l : length (replicate {A = ℕ} n 0) ≡ n = length-replicate n 0 in
    e ∙ ap (λ b. put_edges b 0 m.edges) (p ∙ ap₂ (λ (b : List ℕ) (x : HeaderFields). put_fields b 0 (header_list x)) c h)
    ∙ macro_append (replicate n 0) (drop n out) m (omega arith)

-- as many bytes as the file has are filled with 0, where there is room for it
pub first_filled : (n : ℕ) (out first : List ℕ) → n ≤ length out → first ≡ replicate (length (take n out)) 0 → first ++ drop n out ≡ replicate n 0 ++ drop n out
first_filled n out first room c = ap (λ b. b ++ drop n out) (c ∙ ap (λ k. replicate k 0) (length-take-le n out room))
