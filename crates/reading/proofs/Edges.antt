-- The edges of a file, one after the other.
use Rattle.std.proofs.Common.{◌≡◌, ℕ, zero, suc, ◌+◌, ◌-◌, ◌<◌, ◌≤◌, eqb, ltb, List, ◌∷◌, length, drop, add-one, Some, Ok, Err, Result, sym, refl, ap, ◌∙◌, subst, arith}
use Rattle.std.proofs.lemmas.Bool.{eqb-true}
use Rattle.std.proofs.lemmas.Option.{get_or_from_slice_get, slice_get_within}
use Rattle.std.proofs.Math.Seq.{drop-cons}
use Rattle.std.specs.List.{slice_get}
use Rattle.macros.specs.declared.faults.EdgeFault.{EdgeFault}
use Rattle.macros.specs.declared.parts.Edge.{Edge}
use Rattle.macros.specs.declared.parts.Header.{Header}
use Rattle.macros.specs.Macro.{Macro, header_of, macro_of}
use Rattle.macros.specs.Faults.{bind, same, tested, in_edges, in_header}
use Rattle.macros.specs.Layout.{file_length}
use Rattle.decoding.specs.Decode.{decode_header, header_fields_at}
use Rattle.reading.specs.Reading.{edges_in, edges_read, read_edge, read_edges, read_header, read_macro, headed}
use Rattle.macros.proofs.Binds.{bind_ok, cond_ok, cond_not_ok, ok_same}

longer : (r : Result (List Edge) EdgeFault) (x : Edge) → tested (bind same r (λ xs. Ok (x ∷ xs))) ≡ tested r
longer (Ok xs) x = refl
longer (Err f) x = refl

one_more : (bs : List ℕ) (h : Header) (i e : ℕ) → i < e → read_edges bs h i (e - i) ≡ bind same (read_edge bs h i) (λ x. bind same (read_edges bs h (i + 1) (e - (i + 1))) (λ xs. Ok (x ∷ xs)))
unfolding read_edges
one_more bs h i e lt = let z : e - i ≡ suc (e - (i + 1)) = omega arith in ap (λ k. read_edges bs h i k) z

pub edges_none : (bs : List ℕ) (h : Header) (i e : ℕ) → e ≤ i → tested (read_edges bs h i (e - i)) ≡ Ok tt
unfolding read_edges
edges_none bs h i e le = let z : e - i ≡ 0 = omega arith in rw z refl

pub edges_next : (bs : List ℕ) (h : Header) (i e : ℕ) (x : Edge) → i < e → Ok x ≡ read_edge bs h i → tested (read_edges bs h i (e - i)) ≡ tested (read_edges bs h (i + 1) (e - (i + 1)))
edges_next bs h i e x lt is =
    ap tested (one_more bs h i e lt ∙ ap (λ r. bind same r (λ y. bind same (read_edges bs h (i + 1) (e - (i + 1))) (λ xs. Ok (y ∷ xs)))) (sym is))
    ∙ longer (read_edges bs h (i + 1) (e - (i + 1))) x

pub edges_fault : (bs : List ℕ) (h : Header) (i e : ℕ) (f : EdgeFault) → i < e → Err f ≡ read_edge bs h i → tested (read_edges bs h i (e - i)) ≡ Err f
edges_fault bs h i e f lt is =
    ap tested (one_more bs h i e lt ∙ ap (λ r. bind same r (λ y. bind same (read_edges bs h (i + 1) (e - (i + 1))) (λ xs. Ok (y ∷ xs)))) (sym is))

-- as many edges are read as are asked for
pub edges_length : (bs : List ℕ) (h : Header) (i k : ℕ) (xs : List Edge) → read_edges bs h i k ≡ Ok xs → length xs ≡ k
unfolding read_edges
edges_length bs h i zero xs e = ap length (sym (ok_same e))
edges_length bs h i (suc k) xs e =
    let a = bind_ok same (read_edge bs h i) _ xs e in
    let b = bind_ok same (read_edges bs h (i + 1) k) _ xs a.2 in
    let n = edges_length bs h (i + 1) k b.0 b.1 in
    let s : length xs ≡ suc (length b.0) = ap length (sym (ok_same b.2)) in
    omega arith

-- what is known of a file that holds a macro
pub record Holds (bs : List ℕ) (m : Macro) : Type 0 where
  pub header : read_header bs ≡ Ok (header_of m)
  pub edges : read_edges bs (header_of m) 0 (length m.edges) ≡ Ok m.edges

pub macro_holds : (bs : List ℕ) (m : Macro) → read_macro bs ≡ Ok m → Holds bs m
macro_holds bs m e =
    let a = bind_ok same (read_header bs) _ m e in
    let h = a.0 in
    let b = bind_ok in_edges (read_edges bs h 0 h.edges) _ m a.2 in
    let xs = b.0 in
    let n = edges_length bs h 0 h.edges xs b.1 in
    let s : header_of (macro_of h xs) ≡ h = ap (λ k. record { variables = h.variables; places = h.places; guarded = h.guarded; edges = k }) n in
    let there : Holds bs (macro_of h xs) = record {
      header = a.1 ∙ ap (λ x. Ok x) (sym s);
      edges = ap (λ k. read_edges bs (record { variables = h.variables; places = h.places; guarded = h.guarded; edges = k }) 0 k) n ∙ b.1;
    } in
    subst (λ x. Holds bs x) (ok_same b.2) there

pub holds_macro : (bs : List ℕ) (m : Macro) → Holds bs m → read_macro bs ≡ Ok m
holds_macro bs m h =
    ap (λ r. bind same r (λ g. bind in_edges (read_edges bs g 0 g.edges) (λ xs. Ok (macro_of g xs)))) h.header
    ∙ ap (λ r. bind in_edges r (λ xs. Ok (macro_of (header_of m) xs))) h.edges

-- the header of a file that holds a macro, where its edges are tested one by one
module _ (bs : List ℕ) (h : Header) (is : read_header bs ≡ Ok h) where
  from_header : headed bs ≡ bind same (bind in_edges (read_edges bs h 0 h.edges) (λ xs. Ok (macro_of h xs))) (λ m. Ok (header_of m))
  from_header = ap (λ r. bind same (bind same r (λ g. bind in_edges (read_edges bs g 0 g.edges) (λ xs. Ok (macro_of g xs)))) (λ m. Ok (header_of m))) is

  turned : (r : Result (List Edge) EdgeFault) → ((xs : List Edge) → r ≡ Ok xs → length xs ≡ h.edges) → bind same (bind in_edges r (λ xs. Ok (macro_of h xs))) (λ m. Ok (header_of m)) ≡ bind in_edges (tested r) (λ _. Ok h)
  turned (Ok xs) n = ap (λ k. Ok (record { variables = h.variables; places = h.places; guarded = h.guarded; edges = k })) (n xs refl)
  turned (Err f) n = refl

  pub headed_tested : headed bs ≡ bind in_edges (tested (read_edges bs h 0 h.edges)) (λ _. Ok h)
  headed_tested = from_header ∙ turned (read_edges bs h 0 h.edges) (edges_length bs h 0 h.edges)

-- the macro of a file whose header is known
pub headed_macro : (bs : List ℕ) (h : Header) → headed bs ≡ Ok h → (m : Macro) × Holds bs m × (header_of m ≡ h)
headed_macro bs h e =
    let a = bind_ok same (read_macro bs) _ h e in
    (a.0, macro_holds bs a.0 a.1, ok_same a.2)

-- a file whose header reads is as long as the header says
pub header_length : (bs : List ℕ) (h : Header) → read_header bs ≡ Ok h → length bs ≡ file_length h.edges
header_length bs h e =
    let a = cond_not_ok (ltb (length bs) 4) _ _ h e in
    let b = bind_ok in_header (decode_header (header_fields_at bs)) _ h a.1 in
    let g = b.0 in
    let c = cond_ok (eqb (length bs) (file_length g.edges)) _ _ h b.2 in
    eqb-true _ _ c.0 ∙ ap (λ (x : Header). file_length x.edges) (ok_same c.1)

pub headed_length : (bs : List ℕ) (h : Header) → headed bs ≡ Ok h → length bs ≡ file_length h.edges
headed_length bs h e =
    let m = headed_macro bs h e in
    header_length bs h (m.1.header ∙ ap (λ x. Ok x) m.2)

-- each of the edges that are read is read by its number
pub edge_read : (bs : List ℕ) (h : Header) (i k : ℕ) (xs : List Edge) → read_edges bs h i k ≡ Ok xs → (j : ℕ) → j < k → (x : Edge) × (read_edge bs h (i + j) ≡ Ok x) × (slice_get xs j ≡ Some x)
unfolding read_edges
edge_read bs h i zero xs e j lt = absurd (omega arith)
edge_read bs h i (suc k) xs e zero lt =
    let a = bind_ok same (read_edge bs h i) _ xs e in
    let b = bind_ok same (read_edges bs h (i + 1) k) _ xs a.2 in
    let z : i ≡ i + 0 = omega arith in
    (a.0, ap (λ n. read_edge bs h n) (sym z) ∙ a.1, ap (λ ys. slice_get ys 0) (sym (ok_same b.2)))
edge_read bs h i (suc k) xs e (suc j) lt =
    let a = bind_ok same (read_edge bs h i) _ xs e in
    let b = bind_ok same (read_edges bs h (i + 1) k) _ xs a.2 in
    let r = edge_read bs h (i + 1) k b.0 b.1 j (omega arith) in
    let z : i + suc j ≡ i + 1 + j = omega arith in
    (r.0, ap (λ n. read_edge bs h n) z ∙ r.1, ap (λ ys. slice_get ys (suc j)) (sym (ok_same b.2)) ∙ r.2)

-- the same of the edges in a file that holds a macro
pub headed_edge : (bs : List ℕ) (h : Header) → headed bs ≡ Ok h → (i : ℕ) → i < h.edges → (x : Edge) × (read_edge bs h i ≡ Ok x) × (slice_get (edges_in bs) i ≡ Some x)
headed_edge bs h e i lt =
    let a = headed_macro bs h e in
    let m = a.0 in
    let n : length m.edges ≡ h.edges = ap (λ (x : Header). x.edges) a.2 in
    let r = edge_read bs (header_of m) 0 (length m.edges) m.edges a.1.edges i (omega arith) in
    let z : 0 + i ≡ i = omega arith in
    let is : edges_in bs ≡ m.edges = ap edges_read (holds_macro bs m a.1) in (
      r.0,
      ap (λ g. read_edge bs g i) (sym a.2) ∙ ap (λ k. read_edge bs (header_of m) k) (sym z) ∙ r.1,
      ap (λ ys. slice_get ys i) is ∙ r.2,
    )

-- a file that holds a macro has as many edges as its header says
pub headed_edges : (bs : List ℕ) (h : Header) → headed bs ≡ Ok h → length (edges_in bs) ≡ h.edges
headed_edges bs h e =
    let a = headed_macro bs h e in
    ap (λ r. length (edges_read r)) (holds_macro bs a.0 a.1) ∙ ap (λ (x : Header). x.edges) a.2

-- an element, and the others after it
pub drop_get : (xs : List Edge) (i : ℕ) (x : Edge) → slice_get xs i ≡ Some x → drop i xs ≡ x ∷ drop (i + 1) xs
drop_get xs i x is =
    let within = slice_get_within xs i x is in
    rw (add-one, drop-cons xs i x within, get_or_from_slice_get xs i x x is) refl
