-- What packing promises follows from what it answers and what the memory then holds.
use Rattle.std.proofs.Common.{◌≡◌, ℕ, ◌+◌, ◌≤◌, ltb, List, [], ◌∷◌, ◌++◌, length, take, drop, IfOk, Ok, Err, Result, sym, refl, ap, ◌∙◌, subst, arith}
use Rattle.std.proofs.lemmas.List.{take_at}
use Rattle.std.proofs.lemmas.List.Elements.{All-cons, All-head, All-nil, All-tail}
use Rattle.std.proofs.lemmas.Bool.{le-ltb, ltb-false}
use Rattle.std.specs.List.{All}
use Rattle.macros.specs.declared.parts.Edge.{Edge}
use Rattle.macros.specs.declared.parts.Header.{Header}
use Rattle.macros.specs.Faults.{bind, in_edge, in_edges, in_header}
use Rattle.macros.specs.Layout.{edge_bit, file_length}
use Rattle.macros.specs.Macro.{Macro, header_of}
use Rattle.decoding.specs.Decode.{decode_edge, decode_header}
use Rattle.reading.specs.Reading.{read_macro}
use Rattle.macros.proofs.Binds.{bind_ok, cond_not_ok, ok_same}
use Rattle.reading.proofs.Edges.{header_length, macro_holds}
use Rattle.packing.specs.declared.faults.PackRefusal.{PackRefusal}
use Rattle.packing.specs.Encode.{fields_of, header_fields}
use Rattle.packing.specs.Faults.{in_pack, no_room}
use Rattle.packing.specs.Packing.{pack_answer, pack_memory, packed, test_edges, test_macro, test_room}
use Rattle.packing.specs.Promises.{PacksBack, Promises}
use Rattle.macros.specs.Range.{EdgeInRange, InRange, Sized, SizedEdge}
use Rattle.packing.proofs.Files.{length_packed}
use Rattle.packing.proofs.Headers.{macro_header_in, macro_header_out}
use Rattle.packing.proofs.Ranges.{edge_in, edge_out}
use Rattle.packing.proofs.RoundTrip.{packed_reads, read_in_range, read_packed}

-- ---- the tests take exactly what is in range

edges_in : (h : Header) (i : ℕ) (xs : List Edge) → All (EdgeInRange h.variables h.places) xs → test_edges h i xs ≡ Ok tt
unfolding test_edges
edges_in h i [] all = refl
edges_in h i (x ∷ xs) all =
    ap (λ r. bind in_edge r (λ _. test_edges h (i + 1) xs)) (edge_in h.variables h.places (edge_bit i) x (All-head (EdgeInRange h.variables h.places) x xs all))
    ∙ edges_in h (i + 1) xs (All-tail (EdgeInRange h.variables h.places) x xs all)

edges_out : (h : Header) (i : ℕ) (xs : List Edge) → Sized xs → test_edges h i xs ≡ Ok tt → All (EdgeInRange h.variables h.places) xs
unfolding test_edges
edges_out h i [] sized e = All-nil (EdgeInRange h.variables h.places)
edges_out h i (x ∷ xs) sized e =
    let a = bind_ok in_edge (decode_edge h.variables h.places (edge_bit i) (fields_of x)) _ tt e in
    All-cons (EdgeInRange h.variables h.places) x xs
    (edge_out h.variables h.places (edge_bit i) x a.0 (All-head SizedEdge x xs sized) a.1)
    (edges_out h (i + 1) xs (All-tail SizedEdge x xs sized) a.2)

macro_in : (m : Macro) → InRange m → test_macro m ≡ Ok (header_of m)
macro_in m r =
    ap (λ d. bind in_header d (λ h. bind in_edges (test_edges h 0 m.edges) (λ _. Ok h))) (macro_header_in m r)
    ∙ ap (λ t. bind in_edges t (λ _. Ok (header_of m))) (edges_in (header_of m) 0 m.edges r.edges)

macro_out : (m : Macro) (h : Header) → Sized m.edges → test_macro m ≡ Ok h → InRange m
macro_out m h sized e =
    let a = bind_ok in_header (decode_header (header_fields m)) _ h e in
    let b = bind_ok in_edges (test_edges a.0 0 m.edges) _ h a.2 in
    let d = macro_header_out m a.0 a.1 in
    let r = d.1 in
    let n : m.variables ≡ a.0.variables = ap (λ (x : Header). x.variables) d.0 in
    let p : m.places ≡ a.0.places = ap (λ (x : Header). x.places) d.0 in
    let g : m.guarded ≡ a.0.guarded = ap (λ (x : Header). x.guarded) d.0 in
    let k : length m.edges ≡ a.0.edges = ap (λ (x : Header). x.edges) d.0 in
    record {
      some_variable = omega (arith, r.some_variable);
      few_variables = omega (arith, r.few_variables);
      some_place = omega (arith, r.some_place);
      few_places = omega (arith, r.few_places);
      guarded = omega (arith, r.guarded);
      few_edges = omega (arith, r.few_edges);
      edges = subst (λ (x : Header). All (EdgeInRange x.variables x.places) m.edges) (sym d.0) (edges_out a.0 0 m.edges sized b.1);
    }

-- ---- the answer

answer_in : (m : Macro) (given : ℕ) → InRange m → file_length (length m.edges) ≤ given → pack_answer m given ≡ Ok (file_length (length m.edges))
answer_in m given r le =
    ap (λ t. bind in_pack t (λ _. bind no_room (test_room (file_length (length m.edges)) given) (λ _. Ok (file_length (length m.edges))))) (macro_in m r)
    ∙ rw (le-ltb given (file_length (length m.edges)) le) refl

answer_out : (m : Macro) (given count : ℕ) → pack_answer m given ≡ Ok count → (h : Header) × (test_macro m ≡ Ok h) × (file_length (length m.edges) ≡ count)
answer_out m given count e =
    let a = bind_ok in_pack (test_macro m) _ count e in
    let b = bind_ok no_room (test_room (file_length (length m.edges)) given) _ count a.2 in
    (a.0, a.1, ok_same b.2)

-- memory that is not refused has room
pub room_out : (needed given : ℕ) → test_room needed given ≡ Ok tt → needed ≤ given
room_out needed given e = ltb-false given needed (cond_not_ok (ltb given needed) (Ok tt) _ tt e).0

-- what was written stands first in the memory
written : (m : Macro) (count : ℕ) (rest out : List ℕ) → file_length (length m.edges) ≡ count → out ≡ packed m ++ rest → take count out ≡ packed m
written m count rest out n e = ap (λ bs. take count bs) e ∙ take_at (packed m) rest count (length_packed m ∙ n)

module _ (m : Macro) (out exit : List ℕ) where
  ok_range : (count : ℕ) → Ok count ≡ pack_answer m (length out) → Sized m.edges → InRange m
  ok_range count a sized =
      let b = answer_out m (length out) count (sym a) in
      macro_out m b.0 sized b.1

  ok_reads : (count : ℕ) → Ok count ≡ pack_answer m (length out) → exit ≡ packed m ++ drop count out → Sized m.edges → read_macro (take count exit) ≡ Ok m
  ok_reads count a e sized =
      let b = answer_out m (length out) count (sym a) in
      ap read_macro (written m count (drop count out) exit b.2 e) ∙ packed_reads m (ok_range count a sized)

  packs : (r : Result ℕ PackRefusal) → r ≡ pack_answer m (length out) → exit ≡ pack_memory r m out → PacksBack m (length out) r exit
  packs r a e bs bytes reads le =
      let range = read_in_range bs m reads in
      let n = header_length bs (header_of m) (macro_holds bs m reads).header in
      let is : r ≡ Ok (length bs) = a ∙ answer_in m (length out) range (omega arith) ∙ ap (λ k. Ok k) (sym n) in
      let d : exit ≡ packed m ++ drop (length bs) out = e ∙ ap (λ q. pack_memory q m out) is in
      (is, written m (length bs) (drop (length bs) out) exit (sym n) d ∙ read_packed bs m bytes reads)

  pub promised : (r : Result ℕ PackRefusal) → r ≡ pack_answer m (length out) → exit ≡ pack_memory r m out → IfOk r (λ _. Sized m.edges) → Promises m (length out) r exit
  promised (Ok count) a e sized =
      record {
        reads_back = ok_reads count a e sized;
        packs_back = packs (Ok count) a e;
        only_in_range = ok_range count a sized;
        all_in_range = λ range le. a ∙ answer_in m (length out) range le;
      }
  promised (Err f) a e sized =
      record {
        reads_back = tt;
        packs_back = packs (Err f) a e;
        only_in_range = tt;
        all_in_range = λ range le. a ∙ answer_in m (length out) range le;
      }
