-- What one edge and one turn of a path come to.
use Rattle.std.proofs.Common.{◌≡◌, Bor, ℕ, ◌+◌, ◌<◌, ◌≤◌, eqb, List, length, get_or, drop, ℤ, Some, None, Ok, Err, Option, Result, sym, refl, ap, ◌∙◌, arith}
use Rattle.std.proofs.lemmas.List.{at_drop_more, at_drop_all}
use Rattle.std.proofs.lemmas.Bool.{cond-true, eq-eqb}
use Rattle.std.proofs.lemmas.Option.{slice_get-get_or, slice_get_past, slice_get_within}
use Rattle.std.specs.List.{slice_get}
use Rattle.std.specs.Option.{option_copied}
use Rattle.std.specs.Slice.{IsItemAt}
use Rattle.macros.specs.declared.parts.Edge.{Edge}
use Rattle.macros.specs.declared.parts.Operation.{Operation}
use Rattle.macros.specs.declared.parts.Operation.TheVariants.{Set, Compute, Read, Test}
use Rattle.macros.specs.Faults.{bind, tested}
use Rattle.runs.specs.declared.drives.Position.{Position}
use Rattle.runs.specs.declared.halts.DriveHalt.TheVariants.{Edge as at_edge}
use Rattle.runs.specs.declared.halts.EdgeHalt.{EdgeHalt}
use Rattle.runs.specs.declared.halts.EdgeHalt.TheVariants.{Operation as at_operation}
use Rattle.runs.specs.declared.halts.NoStep.{NoStep}
use Rattle.runs.specs.Steps.{Advance, advance, follow, followed, numbers_after, numbers_taken, onward, position_taken, readings_of, stepped, taken}

-- what `get` of a slice finds is the item at the index
pub item_got : {X : Type 0} (xs : List X) (k : ℕ) (r : Option (Bor X)) → IsItemAt xs k r → option_copied r ≡ slice_get xs k
item_got xs k None h = sym (slice_get_past xs k h.3)
item_got xs k (Some x) h = ap Some h.1 ∙ sym (slice_get-get_or xs k x.now h.3.0)

-- the answer of a step tells its whole outcome
pub tested_err : {A E : Type 0} (r : Result A E) (e : E) → Err e ≡ tested r → r ≡ Err e
tested_err (Ok a) e p = cc
tested_err (Err x) e p = cc

pub tested_ok : (xs : List ℤ) (r : Result (List ℤ) NoStep) → Ok tt ≡ tested r → r ≡ Ok (numbers_after xs r)
tested_ok xs (Ok a) p = refl
tested_ok xs (Err x) p = cc

-- the position after an edge
abbrev pub beyond : Edge → ℕ → List ℤ → Advance
beyond e k ys = advance (record { place = e.to; taken = k + readings_of e.operation }) ys

-- an edge that leaves the present place is taken if its operation makes a step
pub turn : (es : List Edge) (rs : List ℤ) (j : ℕ) (p : Position) (xs : List ℤ) (e : Edge) → slice_get es j ≡ Some e → e.from ≡ p.place
    → taken es rs j (advance p xs) ≡ bind at_operation (stepped e.operation xs (slice_get rs p.taken)) (λ ys. Ok (beyond e p.taken ys))
turn es rs j p xs e at_j here = rw (at_j, cond-true (eqb e.from p.place) _ _ (eq-eqb _ _ here))

-- where its operation makes no step, it is not taken
pub halts : (es : List Edge) (rs : List ℤ) (j : ℕ) (p : Position) (xs : List ℤ) (e : Edge) → slice_get es j ≡ Some e → e.from ≡ p.place
    → (f : NoStep) → Err f ≡ tested (stepped e.operation xs (slice_get rs p.taken)) → taken es rs j (advance p xs) ≡ Err (at_operation f)
halts es rs j p xs e at_j here f h =
    turn es rs j p xs e at_j here ∙ ap (λ q. bind at_operation q (λ ys. Ok (beyond e p.taken ys))) (tested_err (stepped e.operation xs (slice_get rs p.taken)) f h)

-- an operation that reads has a reading to take, so the count of readings stays within the list's length
pub readings_fit : (op : Operation) (xs rs : List ℤ) (k : ℕ) (r : Option ℤ) → r ≡ slice_get rs k → Ok tt ≡ tested (stepped op xs r) → k < 18446744073709551616 → length rs < 18446744073709551616 → k + readings_of op < 18446744073709551616
readings_fit (Set t a) xs rs k r e h p q = omega arith
readings_fit (Compute f t a b) xs rs k r e h p q = omega arith
readings_fit (Test c a b) xs rs k r e h p q = omega arith
readings_fit (Read t) xs rs k None e h p q = cc
readings_fit (Read t) xs rs k (Some z) e h p q = omega (arith, slice_get_within rs k z (sym e))

-- what the answer of an edge tells of its outcome
pub taken_ok : (xs : List ℤ) (p : Position) (r : Result Advance EdgeHalt) → Ok p ≡ position_taken r → r ≡ Ok (advance p (numbers_taken xs r))
taken_ok xs p (Ok a) e = let q : a.position ≡ p = cc in ap (λ w. Ok (advance w a.numbers)) q
taken_ok xs p (Err h) e = cc

pub taken_err : (h : EdgeHalt) (r : Result Advance EdgeHalt) → Err h ≡ position_taken r → r ≡ Err h
taken_err h (Ok a) e = cc
taken_err h (Err x) e = cc

-- one turn of the loop over a path
module _ (es : List Edge) (rs : List ℤ) (path : List ℕ) (i : ℕ) (lt : i < length path) (a : Advance) where
  path_turn : follow es rs i (drop i path) a ≡ onward i (get_or path i 0) a (taken es rs (get_or path i 0) a) (λ b. follow es rs (i + 1) (drop (i + 1) path) b)
  unfolding follow
  path_turn = at_drop_more (λ w. follow es rs i w a) path i 0 lt

  pub path_more : (b : Advance) → taken es rs (get_or path i 0) a ≡ Ok b → follow es rs i (drop i path) a ≡ follow es rs (i + 1) (drop (i + 1) path) b
  path_more b e = path_turn ∙ rw e

  pub path_halts : (h : EdgeHalt) → taken es rs (get_or path i 0) a ≡ Err h → follow es rs i (drop i path) a ≡ followed (Err (at_edge i (get_or path i 0) h)) a.numbers
  path_halts h e = path_turn ∙ rw e

pub path_ends : (es : List Edge) (rs : List ℤ) (path : List ℕ) (i : ℕ) (a : Advance) → length path ≤ i → follow es rs i (drop i path) a ≡ followed (Ok a.position) a.numbers
unfolding follow
path_ends es rs path i a le = at_drop_all (λ w. follow es rs i w a) path i le
