-- What is packed reads back, and what reads is packed back.
use Rattle.std.proofs.Common.{◌≡◌, ℕ, zero, suc, ◌+◌, ◌*◌, ◌^◌, ◌<◌, ◌≤◌, true, false, eqb, ltb, List, [], ◌∷◌, length, replicate, Ok, Result, sym, refl, ap, ◌∙◌, subst, ap₂, arith, w32}
use mir.Facts.{Fits-of_z}
use Rattle.std.proofs.lemmas.List.{length-replicate}
use Rattle.std.proofs.lemmas.List.Elements.{All-cons, All-head, All-nil, All-tail}
use Rattle.std.proofs.lemmas.Bool.{eq-eqb, le-ltb}
use Rattle.std.specs.List.{All}
use Rattle.bits.specs.Field.{Bytes, field}
use Rattle.bits.proofs.Appends.{bytes_same}
use Rattle.bits.proofs.FieldLaws.{field_lt, field_none, field_split}
use Rattle.macros.specs.declared.faults.EdgeFault.{EdgeFault}
use Rattle.macros.specs.declared.form.Form.{Form as EdgeForm}
use Rattle.macros.specs.declared.form.Form.TheVariants.{Set as set_form, Compute as compute_form, Read as read_form, Test as test_form}
use Rattle.macros.specs.declared.parts.Arithmetic.TheVariants.{Add, Subtract, Multiply, Remainder}
use Rattle.macros.specs.declared.parts.Comparison.TheVariants.{Equal, NotEqual, Less, AtMost, Greater, AtLeast}
use Rattle.macros.specs.declared.parts.Edge.{Edge}
use Rattle.macros.specs.declared.parts.Header.{Header}
use Rattle.macros.specs.declared.parts.Operand.{Operand}
use Rattle.macros.specs.declared.parts.Operand.TheVariants.{Constant, Variable}
use Rattle.macros.specs.declared.parts.Operation.{Operation}
use Rattle.macros.specs.declared.parts.Operation.TheVariants.{Set, Compute, Read, Test}
use Rattle.macros.specs.Faults.{bind, in_edge, same}
use Rattle.macros.specs.Forms.{form_number}
use Rattle.macros.specs.Layout.{edge_bit, file_length}
use Rattle.macros.specs.Macro.{Macro, header_of}
use Rattle.decoding.specs.Decode.{decode_edge, decode_header, edge_fields_at, header_fields_at}
use Rattle.reading.specs.Reading.{read_edge, read_edges, read_header, read_macro}
use Rattle.macros.proofs.Binds.{bind_ok, ok_same}
use Rattle.reading.proofs.Edges.{header_length, holds_macro, macro_holds}
use Rattle.packing.specs.Encode.{fields_of, header_fields, mark_of, none, number_of, numbers, operation_fields}
use Rattle.packing.specs.Packing.{edge_list, header_list, packed, put_edges, put_fields}
use Rattle.macros.specs.Range.{EdgeInRange, InRange, OperandInRange, OperationInRange}
use Rattle.packing.proofs.EdgeRows.{edge_held, edge_read, edge_row, edge_same, edge_total, header_held, header_read, header_row, header_same, header_total}
use Rattle.packing.proofs.Files.{edges_before, length_packed, packed_bytes, put_edge}
use Rattle.packing.proofs.Headers.{header_back, header_decoded, header_numbers, macro_header_in}
use Rattle.packing.proofs.Inverse.{NarrowFields, edge_back}
use Rattle.packing.proofs.Ranges.{edge_in}
use Rattle.packing.proofs.Rows.{Held, Narrow, fields_held, held_kept, length_fields}

-- ---- the numbers of a part in range fit their fields

mark_lt : (o : Operand) → mark_of o < 2 ^ 1
mark_lt (Constant k) = omega arith
mark_lt (Variable v) = omega arith

number_lt : (n : ℕ) (o : Operand) → n ≤ 15 → OperandInRange n o → number_of o < 2 ^ 32
number_lt n (Constant k) le h = (Fits-of_z {w = w32} {z = k} (record { sfits = h })).fits
number_lt n (Variable v) le h = omega arith

none_in : (n : ℕ) → OperandInRange n none
none_in n = omega arith

numbers_narrow : (n a b form t : ℕ) (l r : Operand) → n ≤ 15 → a < 256 → b < 256 → form < 12 → t < 16 → OperandInRange n l → OperandInRange n r → Narrow (edge_list (numbers a b form t l r))
unfolding Narrow
numbers_narrow n a b form t l r le ha hb hf ht hl hr =
    (ha, (hb, (omega arith, (ht, (mark_lt l, (number_lt n l le hl, (mark_lt r, (number_lt n r le hr, (omega arith, tt)))))))))

pub form_lt : (f : EdgeForm) → form_number f < 12
form_lt set_form = omega arith
form_lt (compute_form Add) = omega arith
form_lt (compute_form Subtract) = omega arith
form_lt (compute_form Multiply) = omega arith
form_lt (compute_form Remainder) = omega arith
form_lt read_form = omega arith
form_lt (test_form Equal) = omega arith
form_lt (test_form NotEqual) = omega arith
form_lt (test_form Less) = omega arith
form_lt (test_form AtMost) = omega arith
form_lt (test_form Greater) = omega arith
form_lt (test_form AtLeast) = omega arith

operation_narrow : (n a b : ℕ) (o : Operation) → n ≤ 15 → a < 256 → b < 256 → OperationInRange n o → Narrow (edge_list (operation_fields a b o))
operation_narrow n a b (Set t l) le ha hb h = numbers_narrow n a b _ t l none le ha hb (omega arith) (omega (arith, h.0)) h.1 (none_in n)
operation_narrow n a b (Compute c t l r) le ha hb h = numbers_narrow n a b _ t l r le ha hb (form_lt (compute_form c)) (omega (arith, h.0)) h.1 h.2
operation_narrow n a b (Read t) le ha hb h = numbers_narrow n a b _ t none none le ha hb (omega arith) (omega arith) (none_in n) (none_in n)
operation_narrow n a b (Test c l r) le ha hb h = numbers_narrow n a b _ 0 l r le ha hb (form_lt (test_form c)) (omega arith) h.0 h.1

edge_narrow : (n p : ℕ) (x : Edge) → n ≤ 15 → p ≤ 255 → EdgeInRange n p x → Narrow (edge_list (fields_of x))
edge_narrow n p x hn hp h = operation_narrow n x.from x.to x.operation hn (omega (arith, h.0)) (omega (arith, h.1)) h.2

header_narrow : (m : Macro) → InRange m → Narrow (header_list (header_fields m))
unfolding Narrow
header_narrow m r =
    (omega (arith, r.few_variables), (omega (arith, r.few_places), (omega (arith, r.guarded, r.few_places), (omega (arith, r.few_edges), (omega arith, tt)))))

-- ---- what is packed reads back

module _ (h : Header) (few : h.variables ≤ 15) (small : h.places ≤ 255) where
  edges_read : (bs : List ℕ) (i : ℕ) (xs : List Edge) → All (EdgeInRange h.variables h.places) xs → edge_bit (i + length xs) ≤ 8 * length bs → read_edges (put_edges bs i xs) h i (length xs) ≡ Ok xs
  unfolding put_edges read_edges
  edges_read bs i [] all room = refl
  edges_read bs i (x ∷ xs) all room =
      let y = fields_of x in
      let at = edge_bit i in
      let one = put_edge bs i x in
      let whole = put_edges one (i + 1) xs in
      let range = All-head (EdgeInRange h.variables h.places) x xs all in
      let n = length_fields bs at (edge_list y) in
      let t = edge_total y in
      let written : Held one at (edge_list y) = fields_held bs at 0 (edge_list y) (edge_row y) (omega arith) (edge_narrow h.variables h.places x few small range) in
      let kept : Held whole at (edge_list y) = held_kept one whole at 0 (edge_list y) (edge_row y) (λ p w le. edges_before one (i + 1) xs (omega arith) p w (omega arith)) written in
      let here : read_edge whole h i ≡ Ok x = ap (λ f. bind in_edge (decode_edge h.variables h.places at f) (λ e. Ok e)) (edge_read whole at y kept) ∙ ap (λ r. bind in_edge r (λ e. Ok e)) (edge_in h.variables h.places at x range) in
      let rest : read_edges whole h (i + 1) (length xs) ≡ Ok xs = edges_read one (i + 1) xs (All-tail (EdgeInRange h.variables h.places) x xs all) (omega arith) in
      ap₂ (λ (r : Result Edge EdgeFault) (s : Result (List Edge) EdgeFault). bind same r (λ e. bind same s (λ es. Ok (e ∷ es)))) here rest

module _ (m : Macro) (r : InRange m) where
  abbrev zeros : List ℕ
  zeros = replicate (file_length (length m.edges)) 0

  zeros_length : length zeros ≡ file_length (length m.edges)
  zeros_length = length-replicate (file_length (length m.edges)) 0

  headed_length : length (put_fields zeros 0 (header_list (header_fields m))) ≡ file_length (length m.edges)
  headed_length = length_fields zeros 0 (header_list (header_fields m)) ∙ zeros_length

  header_there : header_fields_at (packed m) ≡ header_fields m
  header_there =
      let y = header_fields m in
      let z = zeros_length in
      let n = headed_length in
      let t = header_total y in
      let written = fields_held zeros 0 0 (header_list y) (header_row y) (omega arith) (header_narrow m r) in
      header_read (packed m) y (held_kept (put_fields zeros 0 (header_list y)) (packed m) 0 0 (header_list y) (header_row y) (λ p w le. edges_before (put_fields zeros 0 (header_list y)) 0 m.edges (omega arith) p w (omega arith)) written)

  header_is : read_header (packed m) ≡ Ok (header_of m)
  header_is =
      let d : decode_header (header_fields_at (packed m)) ≡ Ok (header_of m) = ap decode_header header_there ∙ macro_header_in m r in
      let n = length_packed m in
      let long : ltb (length (packed m)) 4 ≡ false = le-ltb (length (packed m)) 4 (omega arith) in
      let same_length : eqb (length (packed m)) (file_length (length m.edges)) ≡ true = eq-eqb (length (packed m)) (file_length (length m.edges)) n in
      rw (long, d, same_length) refl

  pub packed_reads : read_macro (packed m) ≡ Ok m
  packed_reads =
      let n = headed_length in
      holds_macro (packed m) m (record {
        header = header_is;
        edges = edges_read (header_of m) r.few_variables r.few_places (put_fields zeros 0 (header_list (header_fields m))) 0 m.edges r.edges (omega arith);
      })

-- ---- a file that reads holds the numbers of its macro

fields_narrow : (bs : List ℕ) (at : ℕ) → NarrowFields (edge_fields_at bs at)
fields_narrow bs at =
    record {
      left_mark = field_lt bs (at + 24) 1;
      left = field_lt bs (at + 25) 32;
      right_mark = field_lt bs (at + 57) 1;
      right = field_lt bs (at + 58) 32;
    }

edge_decoded : (bs : List ℕ) (h : Header) (i : ℕ) (x : Edge) → read_edge bs h i ≡ Ok x → decode_edge h.variables h.places (edge_bit i) (edge_fields_at bs (edge_bit i)) ≡ Ok x
edge_decoded bs h i x e =
    let a = bind_ok in_edge (decode_edge h.variables h.places (edge_bit i) (edge_fields_at bs (edge_bit i))) (λ y. Ok y) x e in
    a.1 ∙ ap (λ y. Ok y) (ok_same a.2)

edge_there : (bs : List ℕ) (h : Header) (i : ℕ) (x : Edge) → read_edge bs h i ≡ Ok x → Held bs (edge_bit i) (edge_list (fields_of x)) × EdgeInRange h.variables h.places x
edge_there bs h i x e =
    let b = edge_back h.variables h.places (edge_bit i) (edge_fields_at bs (edge_bit i)) x (fields_narrow bs (edge_bit i)) (edge_decoded bs h i x e) in
    (edge_held bs (edge_bit i) (fields_of x) (sym b.0), b.1)

edges_in_range : (bs : List ℕ) (h : Header) (i k : ℕ) (xs : List Edge) → read_edges bs h i k ≡ Ok xs → All (EdgeInRange h.variables h.places) xs
unfolding read_edges
edges_in_range bs h i zero xs e = subst (λ ys. All (EdgeInRange h.variables h.places) ys) (ok_same e) (All-nil (EdgeInRange h.variables h.places))
edges_in_range bs h i (suc k) xs e =
    let a = bind_ok same (read_edge bs h i) _ xs e in
    let b = bind_ok same (read_edges bs h (i + 1) k) _ xs a.2 in
    subst (λ ys. All (EdgeInRange h.variables h.places) ys) (ok_same b.2)
    (All-cons (EdgeInRange h.variables h.places) a.0 b.0 (edge_there bs h i a.0 a.1).1 (edges_in_range bs h (i + 1) k b.0 b.1))

-- a macro that is read is in range
pub read_in_range : (bs : List ℕ) (m : Macro) → read_macro bs ≡ Ok m → InRange m
read_in_range bs m e =
    let there = macro_holds bs m e in
    let r = (header_back (header_fields_at bs) (header_of m) (header_decoded bs (header_of m) there.header)).1 in
    record {
      some_variable = r.some_variable;
      few_variables = r.few_variables;
      some_place = r.some_place;
      few_places = r.few_places;
      guarded = r.guarded;
      few_edges = r.few_edges;
      edges = edges_in_range bs (header_of m) 0 (length m.edges) m.edges there.edges;
    }

-- ---- two files that read as one macro are the same

first_same : {x y : Edge} {xs ys : List Edge} → ◌≡◌ {A = List Edge} (x ∷ xs) (y ∷ ys) → (x ≡ y) × (xs ≡ ys)
first_same e = (cc, cc)

edges_same : (bs cs : List ℕ) (h : Header) (i k : ℕ) (xs : List Edge) → read_edges bs h i k ≡ Ok xs → read_edges cs h i k ≡ Ok xs → field bs (edge_bit i) (96 * k) ≡ field cs (edge_bit i) (96 * k)
unfolding read_edges
edges_same bs cs h i zero xs e d = field_none bs (edge_bit i) ∙ sym (field_none cs (edge_bit i))
edges_same bs cs h i (suc k) xs e d =
    let at = edge_bit i in
    let a = bind_ok same (read_edge bs h i) _ xs e in
    let b = bind_ok same (read_edges bs h (i + 1) k) _ xs a.2 in
    let f = bind_ok same (read_edge cs h i) _ xs d in
    let g = bind_ok same (read_edges cs h (i + 1) k) _ xs f.2 in
    let q = first_same (ok_same b.2 ∙ sym (ok_same g.2)) in
    let x = a.0 in
    let hb = (edge_there bs h i x a.1).0 in
    let hc = (edge_there cs h i x (f.1 ∙ ap (λ y. Ok y) (sym q.0))).0 in
    let first = edge_same bs cs at (fields_of x) hb hc in
    let ih = edges_same bs cs h (i + 1) k b.0 b.1 (g.1 ∙ ap (λ ys. Ok ys) (sym q.1)) in
    let next : edge_bit (i + 1) ≡ at + 96 = omega arith in
    let rest : field bs (at + 96) (96 * k) ≡ field cs (at + 96) (96 * k) = ap (λ p. field bs p (96 * k)) (sym next) ∙ ih ∙ ap (λ p. field cs p (96 * k)) next in
    let w : 96 * suc k ≡ 96 + 96 * k = omega arith in
    ap (λ n. field bs at n) w ∙ field_split bs at 96 (96 * k) ∙ ap₂ (λ (u v : ℕ). u * 2 ^ (96 * k) + v) first rest
    ∙ sym (ap (λ n. field cs at n) w ∙ field_split cs at 96 (96 * k))

header_there_of : (bs : List ℕ) (h : Header) → read_header bs ≡ Ok h → Held bs 0 (header_list (header_numbers h))
header_there_of bs h e = header_held bs (header_numbers h) (sym (header_back (header_fields_at bs) h (header_decoded bs h e)).0)

files_same : (bs cs : List ℕ) (m : Macro) → Bytes bs → Bytes cs → read_macro bs ≡ Ok m → read_macro cs ≡ Ok m → bs ≡ cs
files_same bs cs m hb hc e d =
    let h = header_of m in
    let b = macro_holds bs m e in
    let c = macro_holds cs m d in
    let k = length m.edges in
    let lb = header_length bs h b.header in
    let lc = header_length cs h c.header in
    let first = header_same bs cs (header_numbers h) (header_there_of bs h b.header) (header_there_of cs h c.header) in
    let rest = edges_same bs cs h 0 k m.edges b.edges c.edges in
    let w : 8 * length bs ≡ 32 + 96 * k = omega arith in
    bytes_same bs cs hb hc (lb ∙ sym lc)
    (ap (λ n. field bs 0 n) w ∙ field_split bs 0 32 (96 * k) ∙ ap₂ (λ (u v : ℕ). u * 2 ^ (96 * k) + v) first rest ∙ sym (ap (λ n. field cs 0 n) w ∙ field_split cs 0 32 (96 * k)))

-- a file that reads is packed back to the same bytes
pub read_packed : (bs : List ℕ) (m : Macro) → Bytes bs → read_macro bs ≡ Ok m → packed m ≡ bs
read_packed bs m hb e = files_same (packed m) bs m (packed_bytes m) hb (packed_reads m (read_in_range bs m e)) e
