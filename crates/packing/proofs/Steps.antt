-- One turn of each loop over the edges.
use Rattle.std.proofs.Common.{◌≡◌, ℕ, ◌+◌, ◌<◌, ◌≤◌, List, length, get_or, drop, Ok, Err, sym, ap, ◌∙◌, ap₂}
use Rattle.std.proofs.lemmas.List.{at_drop_more, at_drop_all}
use Rattle.macros.specs.declared.faults.FieldFault.{FieldFault}
use Rattle.macros.specs.declared.parts.Edge.{Edge}
use Rattle.macros.specs.declared.parts.Header.{Header}
use Rattle.macros.specs.Faults.{bind, in_edge}
use Rattle.macros.specs.Layout.{edge_bit}
use Rattle.decoding.specs.declared.fields.EdgeFields.{EdgeFields}
use Rattle.decoding.specs.Decode.{decode_edge}
use Rattle.packing.specs.Encode.{fields_of}
use Rattle.packing.specs.Packing.{edge_list, put_edges, put_fields, test_edges}

pub put_more : (bs : List ℕ) (xs : List Edge) (i at : ℕ) (d : Edge) (y : EdgeFields) → i < length xs → at ≡ edge_bit i → y ≡ fields_of (get_or xs i d)
    → put_edges bs i (drop i xs) ≡ put_edges (put_fields bs at (edge_list y)) (i + 1) (drop (i + 1) xs)
unfolding put_edges
put_more bs xs i at d y lt there is =
    at_drop_more (put_edges bs i) xs i d lt
    ∙ sym (ap₂ (λ (a : ℕ) (f : EdgeFields). put_edges (put_fields bs a (edge_list f)) (i + 1) (drop (i + 1) xs)) there is)

pub put_all : (bs : List ℕ) (xs : List Edge) (i : ℕ) → length xs ≤ i → put_edges bs i (drop i xs) ≡ bs
unfolding put_edges
put_all bs xs i le = at_drop_all (put_edges bs i) xs i le

module _ (h : Header) (xs : List Edge) (i at : ℕ) (d : Edge) (lt : i < length xs) (there : at ≡ edge_bit i) (y : EdgeFields) (is : y ≡ fields_of (get_or xs i d)) where
  turn : test_edges h i (drop i xs) ≡ bind in_edge (decode_edge h.variables h.places at y) (λ _. test_edges h (i + 1) (drop (i + 1) xs))
  unfolding test_edges
  turn =
      at_drop_more (test_edges h i) xs i d lt
      ∙ sym (ap₂ (λ (a : ℕ) (f : EdgeFields). bind in_edge (decode_edge h.variables h.places a f) (λ _. test_edges h (i + 1) (drop (i + 1) xs))) there is)

  pub test_more : (x : Edge) → Ok x ≡ decode_edge h.variables h.places at y → test_edges h i (drop i xs) ≡ test_edges h (i + 1) (drop (i + 1) xs)
  test_more x e = turn ∙ ap (λ r. bind in_edge r (λ _. test_edges h (i + 1) (drop (i + 1) xs))) (sym e)

  pub test_fault : (f : FieldFault) → Err f ≡ decode_edge h.variables h.places at y → test_edges h i (drop i xs) ≡ Err (in_edge f)
  test_fault f e = turn ∙ ap (λ r. bind in_edge r (λ _. test_edges h (i + 1) (drop (i + 1) xs))) (sym e)

pub test_all : (h : Header) (xs : List Edge) (i : ℕ) → length xs ≤ i → test_edges h i (drop i xs) ≡ Ok tt
unfolding test_edges
test_all h xs i le = at_drop_all (test_edges h i) xs i le
