-- A drive that is worked out drives the path, and what drives a path is worked out.
use Rattle.std.proofs.Common.{◌≡◌, ℕ, ◌+◌, ◌≤◌, eqb, ltb, List, [], ◌∷◌, ◌++◌, length, drop, ℤ, Some, None, Ok, Err, Option, Result, sym, refl, ap, ◌∙◌, subst, arith, length-drop}
use Rattle.std.proofs.lemmas.List.{drop_all, drop_more}
use Rattle.std.proofs.lemmas.Option.{slice_get_cases, get_or_from_slice_get, slice_get-get_or, slice_get_within}
use Rattle.std.proofs.lemmas.Bool.{cond-true, cond-false, eq-eqb, eqb-true, le-ltb, ltb-false}
use Rattle.std.specs.List.{All, slice_get}
use Rattle.std.specs.Option.{IfSome, ok_or}
use Rattle.macros.specs.declared.parts.Operation.{Operation}
use Rattle.macros.specs.declared.parts.Operation.TheVariants.{Set, Compute, Read, Test}
use Rattle.macros.specs.Faults.{bind, same}
use Rattle.macros.specs.Macro.{Macro}
use Rattle.macros.specs.Number.{Number}
use Rattle.numbers.specs.Arithmetic.{holds}
use Rattle.runs.specs.declared.drives.Position.{Position}
use Rattle.runs.specs.declared.halts.EdgeHalt.{EdgeHalt}
use Rattle.runs.specs.declared.halts.NoStep.TheVariants.{ZeroDivisor, NoReading}
use Rattle.runs.specs.declared.halts.EdgeHalt.TheVariants.{NoSuchEdge, Operation as at_operation}
use Rattle.runs.specs.Promises.{DriveComplete, DriveSound, reading_taken}
use Rattle.runs.specs.Runs.{Effect, Follows, State, Takes, computes, ends, operand_number, passes, reads, sets, state, takes, takes_on}
use Rattle.runs.specs.Steps.{Advance, Followed, advance, begin, drive_numbers, follow, followed, leaves, onward, place_at_end, put_or, readings_of, stepped, taken}
use Rattle.numbers.proofs.Told.{compares_held, given_computed}
use Rattle.macros.proofs.Binds.{bind_ok, cond_ok, cond_not_ok, err_ok, ok_same}
use Rattle.runs.proofs.Effects.{step_sound}
use Rattle.runs.proofs.Takes.{beyond, turn}

-- the numbers and the place of an advance are a state
abbrev state_of : Advance → State
state_of a = state a.position.place a.numbers

reading_number : (rs : List ℤ) (k : ℕ) (r : Option ℤ) → slice_get rs k ≡ r → All Number rs → IfSome r Number
reading_number rs k None e f = tt
reading_number rs k (Some z) e f = subst Number (get_or_from_slice_get rs k z z e) (f k z (slice_get_within rs k z e))

-- the readings from k on are those that the operation takes, and then those after them
readings_split : (op : Operation) (xs ys rs : List ℤ) (k : ℕ) (r : Option ℤ) → slice_get rs k ≡ r → stepped op xs r ≡ Ok ys → drop k rs ≡ reading_taken op r ++ drop (k + readings_of op) rs
readings_split (Set t a) xs ys rs k r e h = grind arith
readings_split (Compute f t a b) xs ys rs k r e h = grind arith
readings_split (Read t) xs ys rs k None e h = err_ok h
readings_split (Read t) xs ys rs k (Some z) e h = drop_more rs k z (slice_get_within rs k z e) ∙ ap (λ x. x ∷ drop (k + 1) rs) (get_or_from_slice_get rs k z z e)
readings_split (Test c a b) xs ys rs k r e h = grind arith

ok_or_is : {A E : Type 0} (o : Option A) (f : E) (x : A) → ok_or o f ≡ Ok x → o ≡ Some x
ok_or_is None f x h = err_ok h
ok_or_is (Some y) f x h = ap Some (ok_same h)

module _ (m : Macro) (rs : List ℤ) (numbers : All Number rs) where
  -- an edge that is taken makes its step
  pub taken_takes : (j : ℕ) (a b : Advance) → taken m.edges rs j a ≡ Ok b → (now : List ℤ) × (drop a.position.taken rs ≡ now ++ drop b.position.taken rs) × Takes m j (state_of a) now (state_of b)
  taken_takes j a b h =
      let k = a.position.taken in
      let xs = a.numbers in
      let found = bind_ok same (ok_or (slice_get m.edges j) (NoSuchEdge (length m.edges))) _ b h in
      let e = found.0 in
      let here = bind_ok same (leaves e a.position) _ b found.2 in
      let there = eqb-true e.from a.position.place (cond_ok (eqb e.from a.position.place) (Ok tt) _ here.0 here.1).0 in
      let made = bind_ok at_operation (stepped e.operation xs (slice_get rs k)) _ b here.2 in
      let ys = made.0 in
      let out : beyond e k ys ≡ b = ok_same made.2 in
      let now = reading_taken e.operation (slice_get rs k) in
      let step : Takes m j (state e.from xs) now (state e.to ys) = takes e xs now ys (ok_or_is _ _ e found.1) (step_sound xs e.operation (slice_get rs k) (reading_number rs k _ refl numbers) ys made.1) in (
        now,
        subst (λ (w : Advance). drop k rs ≡ now ++ drop w.position.taken rs) out (readings_split e.operation xs ys rs k _ refl made.1),
        subst (λ (w : Advance). Takes m j (state_of a) now (state_of w)) out (subst (λ p. Takes m j (state p xs) now (state e.to ys)) there step),
      )

  -- a path that is followed to its end, with no reading left, is followed by the run
  follow_sound : (path : List ℕ) (i : ℕ) (a : Advance) (q : Position) → (follow m.edges rs i path a).answer ≡ Ok q → length rs ≤ q.taken
      → Follows m (state_of a) path (drop a.position.taken rs) (state q.place (follow m.edges rs i path a).numbers)
  unfolding follow
  follow_sound [] i a q h le =
      let e : a.position ≡ q = ok_same h in
      rw (e, drop_all q.taken rs le) (ends (state q.place a.numbers))
  follow_sound (j ∷ path) i a q h le = go (taken m.edges rs j a) refl (λ b g. follow_sound path (i + 1) b q g le) h where
    go : (r : Result Advance EdgeHalt) → taken m.edges rs j a ≡ r
        → ((b : Advance) → (follow m.edges rs (i + 1) path b).answer ≡ Ok q → Follows m (state_of b) path (drop b.position.taken rs) (state q.place (follow m.edges rs (i + 1) path b).numbers))
        → (onward i j a r (λ b. follow m.edges rs (i + 1) path b)).answer ≡ Ok q
        → Follows m (state_of a) (j ∷ path) (drop a.position.taken rs) (state q.place (onward i j a r (λ b. follow m.edges rs (i + 1) path b)).numbers)
    go (Err x) e on g = err_ok g
    go (Ok b) e on g =
        let t = taken_takes j a b e in
        rw t.1 (takes_on j path t.0 (drop b.position.taken rs) (state_of a) (state_of b) _ t.2 (on b g))

  pub drive_sound : (path : List ℕ) (xs : List ℤ) → All Number xs → DriveSound m path xs rs
  drive_sound path xs fits p h =
      let f = follow m.edges rs 0 path (begin xs) in
      let right = cond_ok (eqb (length xs) m.variables) (bind same f.answer (place_at_end rs)) _ p h in
      let one_each = eqb-true (length xs) m.variables right.0 in
      let end = bind_ok same f.answer (place_at_end rs) p right.1 in
      let q = end.0 in
      let last = cond_not_ok (ltb q.taken (length rs)) (Ok q.place) _ p end.2 in
      let place : q.place ≡ p = ok_same last.1 in
      let numbers : drive_numbers m path xs rs ≡ f.numbers = cond-true (eqb (length xs) m.variables) _ _ right.0 in
      record {
        started = record { one_each = one_each; in_range = fits };
        follows = rw (numbers, ← place) (follow_sound path 0 (begin xs) q end.1 (ltb-false q.taken (length rs) last.0));
      }

-- ---- and the other way

cons_drop : (later rs : List ℤ) (k : ℕ) (z : ℤ) → z ∷ later ≡ drop k rs → (slice_get rs k ≡ Some z) × (drop (k + 1) rs ≡ later)
cons_drop later rs k z e = (grind (arith, slice_get_cases rs k, slice_get-get_or rs k z, drop_more rs k z, drop_all k rs), grind (arith, slice_get_cases rs k, drop_more rs k z, drop_all k rs))

-- a step whose readings are the next ones is worked out with them
effect_stepped : (op : Operation) (xs ys now later rs : List ℤ) (k : ℕ) → Effect xs op now ys → now ++ later ≡ drop k rs → (stepped op xs (slice_get rs k) ≡ Ok ys) × (later ≡ drop (k + readings_of op) rs)
effect_stepped op xs ys now later rs k (sets t a) e = (refl, grind arith)
effect_stepped op xs ys now later rs k (computes f t a b z h) e = (ap (put_or ZeroDivisor xs t) (given_computed f _ _ z h), grind arith)
effect_stepped op xs ys now later rs k (reads t z n) e = let r = cons_drop later rs k z e in (ap (put_or NoReading xs t) r.0, sym r.1)
effect_stepped op xs ys now later rs k (passes c a b h) e = (cond-true (holds c (operand_number xs a) (operand_number xs b)) _ _ (compares_held c _ _ h), grind arith)

none_left : (rs : List ℤ) (k : ℕ) → [] ≡ drop k rs → length rs ≤ k
none_left rs k e = omega (arith, ap length e, length-drop k rs)

abbrev Ends : Macro → List ℤ → List ℕ → ℕ → Advance → State → Type 0
Ends m rs path i a t = (q : Position) × (follow m.edges rs i path a ≡ followed (Ok q) t.numbers) × (q.place ≡ t.place) × (length rs ≤ q.taken)

module _ (m : Macro) (rs : List ℤ) where
  follow_complete : (s : State) (path : List ℕ) (left : List ℤ) (t : State) → Follows m s path left t → (i k : ℕ) → left ≡ drop k rs → Ends m rs path i (advance (record { place = s.place; taken = k }) s.numbers) t
  unfolding follow
  follow_complete s path left t (ends o) i k e = (record { place = o.place; taken = k }, refl, refl, none_left rs k e)
  follow_complete s path left t (takes_on j rest now later o u v (takes x xs taken-now ys at_j does) on) i k e =
      let p : Position = record { place = x.from; taken = k } in
      let r = effect_stepped x.operation xs ys _ later rs k does e in
      let took = turn m.edges rs j p xs x at_j refl ∙ ap (λ w. bind at_operation w (λ ys. Ok (beyond x k ys))) r.0 in
      let end = follow_complete (state x.to ys) rest later v on (i + 1) (k + readings_of x.operation) r.1 in
      (end.0, ap (λ w. onward i j (advance p xs) w (λ b. follow m.edges rs (i + 1) rest b)) took ∙ end.1, end.2, end.3)

  pub drive_complete : (path : List ℕ) (xs : List ℤ) → DriveComplete m path xs rs
  drive_complete path xs t d =
      let f = follow m.edges rs 0 path (begin xs) in
      let one_each = eq-eqb (length xs) m.variables d.started.one_each in
      let end = follow_complete (state 0 xs) path rs t d.follows 0 0 refl in
      let q = end.0 in
      let answer : bind same f.answer (place_at_end rs) ≡ Ok t.place =
      ap (λ (w : Followed). bind same w.answer (place_at_end rs)) end.1 ∙ cond-false (ltb q.taken (length rs)) _ _ (le-ltb q.taken (length rs) end.3) ∙ ap (λ p. Ok p) end.2
      in
      (cond-true (eqb (length xs) m.variables) _ _ one_each ∙ answer, cond-true (eqb (length xs) m.variables) _ _ one_each ∙ ap (λ (w : Followed). w.numbers) end.1)
