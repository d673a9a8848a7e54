-- The text that is still to be written, step by step.
use Rattle.std.proofs.Common.{◌≡◌, ℕ, ◌+◌, ◌<◌, ◌≤◌, List, [], ◌++◌, length, get_or, drop, ℤ, Ok, Err, Result, sym, refl, ap, ◌∙◌, append_assoc, append-nil}
use Rattle.std.proofs.lemmas.List.{at_drop_more, at_drop_all}
use Rattle.macros.specs.declared.parts.Edge.{Edge}
use Rattle.runs.specs.declared.drives.Position.{Position}
use Rattle.runs.specs.declared.halts.EdgeHalt.{EdgeHalt}
use Rattle.runs.specs.Steps.{Advance, advance, numbers_taken, position_taken, taken}
use Rattle.drive_texts.specs.Lines.{line_then, step_line, step_lines}

-- what the answer of an edge and the numbers that it leaves tell of its outcome
line_ok : (i j : ℕ) (r : Result Advance EdgeHalt) (next : Advance → List ℕ) (p : Position) (xs ys : List ℤ) → Ok p ≡ position_taken r → ys ≡ numbers_taken xs r → line_then i j r next ≡ step_line i j (advance p ys) ++ next (advance p ys)
line_ok i j (Ok a) next p xs ys e f = let g : p ≡ a.position = cc in rw (g, f)
line_ok i j (Err h) next p xs ys e f = cc

line_err : (i j : ℕ) (r : Result Advance EdgeHalt) (next : Advance → List ℕ) (h : EdgeHalt) → Err h ≡ position_taken r → line_then i j r next ≡ []
line_err i j (Ok a) next h e = cc
line_err i j (Err x) next h e = refl

module _ (es : List Edge) (rs : List ℤ) (path : List ℕ) (i : ℕ) (lt : i < length path) (a : Advance) (whole text : List ℕ) (inv : whole ≡ text ++ step_lines es rs i (drop i path) a) where
  turn : whole ≡ text ++ line_then i (get_or path i 0) (taken es rs (get_or path i 0) a) (λ b. step_lines es rs (i + 1) (drop (i + 1) path) b)
  unfolding step_lines
  turn = inv ∙ ap (λ l. text ++ l) (at_drop_more (λ w. step_lines es rs i w a) path i 0 lt)

  pub step_more : (p : Position) (ys : List ℤ) (more : List ℕ) → Ok p ≡ position_taken (taken es rs (get_or path i 0) a) → ys ≡ numbers_taken a.numbers (taken es rs (get_or path i 0) a)
      → more ≡ text ++ step_line i (get_or path i 0) (advance p ys) → whole ≡ more ++ step_lines es rs (i + 1) (drop (i + 1) path) (advance p ys)
  step_more p ys more e f wrote =
      turn ∙ ap (λ l. text ++ l) (line_ok i _ (taken es rs (get_or path i 0) a) _ p a.numbers ys e f)
      ∙ sym (append_assoc text (step_line i (get_or path i 0) (advance p ys)) _)
      ∙ ap (λ l. l ++ step_lines es rs (i + 1) (drop (i + 1) path) (advance p ys)) (sym wrote)

  pub step_halts : (h : EdgeHalt) → Err h ≡ position_taken (taken es rs (get_or path i 0) a) → text ≡ whole
  step_halts h e = sym (turn ∙ ap (λ l. text ++ l) (line_err i _ (taken es rs (get_or path i 0) a) _ h e) ∙ append-nil text)

pub step_all : (es : List Edge) (rs : List ℤ) (path : List ℕ) (i : ℕ) (a : Advance) (whole text : List ℕ) → length path ≤ i → whole ≡ text ++ step_lines es rs i (drop i path) a → text ≡ whole
unfolding step_lines
step_all es rs path i a whole text le inv = sym (inv ∙ ap (λ l. text ++ l) (at_drop_all (λ w. step_lines es rs i w a) path i le) ∙ append-nil text)
