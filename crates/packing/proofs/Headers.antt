-- A header in range is taken back from its numbers, and only such a header is taken.
use Rattle.std.proofs.Common.{◌≡◌, ℕ, ◌<◌, ◌≤◌, min, eqb, ltb, List, length, Ok, sym, refl, ap, ◌∙◌, subst, arith}
use Rattle.std.proofs.lemmas.Bool.{le-ltb}
use Rattle.macros.specs.declared.layout.Field.{Field}
use Rattle.macros.specs.declared.layout.Field.TheVariants.{Variables, Places, Guarded, Edges, HeaderFilling}
use Rattle.macros.specs.declared.parts.Header.{Header}
use Rattle.macros.specs.Faults.{in_header, same}
use Rattle.macros.specs.Layout.{file_length}
use Rattle.macros.specs.Macro.{Macro, header_of}
use Rattle.decoding.specs.declared.fields.HeaderFields.{HeaderFields}
use Rattle.decoding.specs.Decode.{below, decode_header, header_fields_at, within, zeroed}
use Rattle.reading.specs.Reading.{read_header}
use Rattle.macros.proofs.Binds.{bind_ok, cond_not_ok, cond_ok, ok_same}
use Rattle.packing.specs.Encode.{header_fields}
use Rattle.macros.specs.Range.{InRange}
use Rattle.packing.proofs.Ranges.{below_in, below_out, within_out, zeroed_out}

-- the numbers of a header
abbrev pub header_numbers : Header → HeaderFields
header_numbers h = record { variables = h.variables; places = h.places; guarded = h.guarded; edges = h.edges; filling = 0 }

pub record HeaderInRange (h : Header) : Type 0 where
  pub some_variable : 1 ≤ h.variables
  pub few_variables : h.variables ≤ 15
  pub some_place : 1 ≤ h.places
  pub few_places : h.places ≤ 255
  pub guarded : h.guarded < h.places
  pub few_edges : h.edges ≤ 511

within_in : (at : ℕ) (f : Field) (v least most : ℕ) → least ≤ v → v ≤ most → within at f v least most ≡ Ok v
within_in at f v least most le ge = rw (le-ltb v least le, le-ltb most v ge) refl

-- a header in range is taken
header_in : (h : Header) → HeaderInRange h → decode_header (header_numbers h) ≡ Ok h
header_in h r =
    let e : h.edges < 512 = omega (arith, r.few_edges) in
    rw (within_in 0 Variables h.variables 1 15 r.some_variable r.few_variables, within_in 0 Places h.places 1 255 r.some_place r.few_places, below_in 0 Guarded h.guarded h.places r.guarded, below_in 0 Edges h.edges 512 e) refl

numbers_are : (y : HeaderFields) (n p g k : ℕ) → n ≡ y.variables → p ≡ y.places → g ≡ y.guarded → k ≡ y.edges → 0 ≡ y.filling → header_numbers (record { variables = n; places = p; guarded = g; edges = k }) ≡ y
numbers_are y n p g k a b c d e = rw (a, b, c, d, e) refl

-- a header that is taken is packed into the same numbers, and it is in range
pub header_back : (y : HeaderFields) (h : Header) → decode_header y ≡ Ok h → (header_numbers h ≡ y) × HeaderInRange h
header_back y h e =
    let a = bind_ok same (within 0 Variables y.variables 1 15) _ h e in
    let b = bind_ok same (within 0 Places y.places 1 255) _ h a.2 in
    let c = bind_ok same (below 0 Guarded y.guarded b.0) _ h b.2 in
    let d = bind_ok same (below 0 Edges y.edges 512) _ h c.2 in
    let f = bind_ok same (zeroed 0 HeaderFilling y.filling) _ h d.2 in
    let n = within_out 0 Variables y.variables 1 15 a.0 a.1 in
    let p = within_out 0 Places y.places 1 255 b.0 b.1 in
    let g = below_out 0 Guarded y.guarded b.0 c.0 c.1 in
    let k = below_out 0 Edges y.edges 512 d.0 d.1 in
    let z = zeroed_out 0 HeaderFilling y.filling f.1 in
    let P : Header → Type 0 = λ x. (header_numbers x ≡ y) × HeaderInRange x in
    subst P (ok_same f.2) (
      numbers_are y a.0 b.0 c.0 d.0 (sym n.2) (sym p.2) (sym g.1) (sym k.1) (sym z),
      record {
        some_variable = omega (arith, n.0, n.2);
        few_variables = omega (arith, n.1, n.2);
        some_place = omega (arith, p.0, p.2);
        few_places = omega (arith, p.1, p.2);
        guarded = omega (arith, g.0, g.1);
        few_edges = omega (arith, k.0, k.1);
      },
    )

-- ---- of a macro

pub macro_header : (m : Macro) → InRange m → HeaderInRange (header_of m)
macro_header m r =
    record {
      some_variable = r.some_variable;
      few_variables = r.few_variables;
      some_place = r.some_place;
      few_places = r.few_places;
      guarded = r.guarded;
      few_edges = r.few_edges;
    }

-- a count of at most 511 edges is not cut short
pub header_fields_are : (m : Macro) → length m.edges ≤ 511 → header_fields m ≡ header_numbers (header_of m)
header_fields_are m le =
    let e : min (length m.edges) 4294967295 ≡ length m.edges = omega arith in
    ap (λ k. record { variables = m.variables; places = m.places; guarded = m.guarded; edges = k; filling = 0 }) e

pub macro_header_in : (m : Macro) → InRange m → decode_header (header_fields m) ≡ Ok (header_of m)
macro_header_in m r = ap decode_header (header_fields_are m r.few_edges) ∙ header_in (header_of m) (macro_header m r)

pub macro_header_out : (m : Macro) (h : Header) → decode_header (header_fields m) ≡ Ok h → (header_of m ≡ h) × HeaderInRange h
macro_header_out m h e =
    let b = header_back (header_fields m) h e in
    let k : h.edges ≡ min (length m.edges) 4294967295 = ap (λ (x : HeaderFields). x.edges) b.0 in
    let s = b.1.few_edges in
    let le : length m.edges ≤ 511 = omega arith in
    let same_numbers : header_numbers (header_of m) ≡ header_numbers h = sym (b.0 ∙ header_fields_are m le) in
    (ap (λ (x : HeaderFields). record { variables = x.variables; places = x.places; guarded = x.guarded; edges = x.edges }) same_numbers, b.1)

-- ---- of a file

pub header_decoded : (bs : List ℕ) (h : Header) → read_header bs ≡ Ok h → decode_header (header_fields_at bs) ≡ Ok h
header_decoded bs h e =
    let a = cond_not_ok (ltb (length bs) 4) _ _ h e in
    let b = bind_ok in_header (decode_header (header_fields_at bs)) _ h a.1 in
    let c = cond_ok (eqb (length bs) (file_length b.0.edges)) _ _ h b.2 in
    b.1 ∙ ap (λ x. Ok x) (ok_same c.1)
