-- The lines that are still to be written, edge by edge.
use Rattle.std.proofs.Common.{◌≡◌, ℕ, ◌+◌, List, [], ◌∷◌, ◌++◌, Ok, codes, sym, refl, ap, ◌∙◌, ap₂, append_assoc, append-nil}
use Rattle.macros.specs.declared.parts.Edge.{Edge}
use Rattle.macros.specs.declared.parts.Header.{Header}
use Rattle.reading.specs.Reading.{edges_in, edges_read, headed}
use Rattle.reading.proofs.Edges.{headed_macro, holds_macro}
use Rattle.texts.specs.Lines.{Describes, edge_lines}
use Rattle.texts.specs.Parts.{edge_line, header_lines}
use Rattle.texts.specs.Text.{◌&◌}

-- the lines of a file whose header is known
abbrev pub file_lines : Header → List ℕ → List ℕ
file_lines h bs = (header_lines h & codes "\n") ++ edge_lines 0 (edges_in bs)

lined : (i : ℕ) (x : Edge) (xs : List Edge) → edge_lines i (x ∷ xs) ≡ (edge_line i x & codes "\n") ++ edge_lines (i + 1) xs
unfolding edge_lines
lined i x xs = refl

pub begin : (bs : List ℕ) (h : Header) (empty text : List ℕ) (i : ℕ) (ys : List Edge) → empty ≡ [] → text ≡ empty ++ (header_lines h & codes "\n") → i ≡ 0 → ys ≡ edges_in bs → file_lines h bs ≡ text ++ edge_lines i ys
begin bs h empty text i ys void wrote first all =
    sym (ap₂ (λ (t l : List ℕ). t ++ l) (wrote ∙ ap (λ e. e ++ (header_lines h & codes "\n")) void) (ap₂ (λ (n : ℕ) (xs : List Edge). edge_lines n xs) first all))

-- the line of the next edge is written
pub next : (whole text more : List ℕ) (i j k : ℕ) (x : Edge) (xs ys : List Edge) → ys ≡ x ∷ xs → j ≡ i → k ≡ i + 1 → whole ≡ text ++ edge_lines i ys → more ≡ text ++ (edge_line j x & codes "\n") → whole ≡ more ++ edge_lines k xs
next whole text more i j k x xs ys is this more_is begun wrote =
    begun ∙ ap (λ l. text ++ edge_lines i l) is ∙ ap (λ l. text ++ l) (lined i x xs)
    ∙ sym (append_assoc text (edge_line i x & codes "\n") (edge_lines (i + 1) xs))
    ∙ sym (ap₂ (λ (l : List ℕ) (n : ℕ). l ++ edge_lines n xs) (wrote ∙ ap (λ n. text ++ (edge_line n x & codes "\n")) this) more_is)

unlined : (i : ℕ) → edge_lines i [] ≡ []
unfolding edge_lines
unlined i = refl

-- no line is left
pub end : (bs : List ℕ) (h : Header) (text : List ℕ) (i : ℕ) (ys : List Edge) → headed bs ≡ Ok h → ys ≡ [] → file_lines h bs ≡ text ++ edge_lines i ys → Describes text bs
end bs h text i ys e void begun =
    let a = headed_macro bs h e in
    let reads = holds_macro bs a.0 a.1 in
    let written : file_lines h bs ≡ text = begun ∙ ap (λ l. text ++ edge_lines i l) void ∙ ap (λ l. text ++ l) (unlined i) ∙ append-nil text in (
      a.0,
      reads,
      sym written ∙ ap₂ (λ (g : Header) (xs : List Edge). (header_lines g & codes "\n") ++ edge_lines 0 xs) (sym a.2) (ap edges_read reads),
    )
