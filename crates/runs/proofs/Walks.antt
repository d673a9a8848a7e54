-- What holds of runs: a drive is a run, every run is driven, and the numbers of a run stay numbers of 32 bits.
use Rattle.std.proofs.Common.{◌≡◌, ℕ, List, [], ◌∷◌, ◌++◌, get_or, set, replicate, ℤ, pos, Some, ◌∙◌, subst, append_assoc, append-nil, arith, length-set}
use lib.ListN.{length-replicate}
use lib.Signed.{mag_rem}
use Rattle.std.proofs.lemmas.Option.{get_or_from_slice_get, slice_get_within}
use Rattle.std.specs.List.{All, slice_get}
use Rattle.std.proofs.lemmas.List.{get_or_past}
use Rattle.std.proofs.lemmas.List.Elements.{All-get_or, All-replicate, All-set}
use Rattle.macros.specs.declared.parts.Arithmetic.{Arithmetic}
use Rattle.macros.specs.declared.parts.Arithmetic.TheVariants.{Add, Subtract, Multiply, Remainder}
use Rattle.macros.specs.declared.parts.Edge.{Edge}
use Rattle.macros.specs.declared.parts.Operand.{Operand}
use Rattle.macros.specs.declared.parts.Operand.TheVariants.{Constant, Variable}
use Rattle.macros.specs.declared.parts.Operation.{Operation}
use Rattle.macros.specs.Macro.{Macro}
use Rattle.macros.specs.Number.{Number}
use Rattle.macros.specs.Range.{EdgeInRange, InRange, OperandInRange, OperationInRange}
use Rattle.numbers.specs.Arithmetic.{computed}
use Rattle.numbers.specs.Rules.{Gives}
use Rattle.numbers.proofs.Remaining.{remains_int_rem}
use Rattle.numbers.proofs.Told.{computed_given}
use Rattle.runs.specs.Promises.{Driven, DrivenRuns, NumbersKept, RunsDriven, StartReached}
use Rattle.runs.specs.Runs.{Effect, Follows, Run, Start, State, Step, Takes, computes, ends, goes, operand_number, passes, reads, sets, starts, state, step, takes, takes_on}

-- ---- drives and runs

follows_run : (m : Macro) (s : State) (path : List ℕ) (rs : List ℤ) (t : State) → Run m s → Follows m s path rs t → Run m t
follows_run m s path rs t r (ends o) = r
follows_run m s path rs t r (takes_on j rest now later o u v took on) = follows_run m u rest later v (goes o u r (step j now took)) on

pub driven_runs : DrivenRuns
driven_runs m start path readings t d = follows_run m (state 0 start) path readings t (starts start d.started) d.follows

-- one more edge at the end of a path
follows_more : (m : Macro) (s : State) (path : List ℕ) (rs : List ℤ) (t : State) → Follows m s path rs t → (j : ℕ) (last : List ℤ) (u : State) → Takes m j t last u → Follows m s (path ++ j ∷ []) (rs ++ last) u
follows_more m s path rs t (ends o) j last u took = simp append-nil at (takes_on j [] last [] o u u took (ends u))
follows_more m s path rs t (takes_on i rest now later o v w first on) j last u took =
    rw append_assoc (takes_on i (rest ++ j ∷ []) now (later ++ last) o v u first (follows_more m v rest later w on j last u took))

driven_more : (m : Macro) (s t : State) → Driven m s → Step m s t → Driven m t
driven_more m s t d (step j rs took) =
    record {
      start = d.start;
      path = d.path ++ j ∷ [];
      readings = d.readings ++ rs;
      drives = record { started = d.drives.started; follows = follows_more m (state 0 d.start) d.path d.readings s d.drives.follows j rs t took };
    }

pub runs_driven : RunsDriven
runs_driven m t (starts xs st) = record { start = xs; path = []; readings = []; drives = record { started = st; follows = ends (state 0 xs) } }
runs_driven m t (goes s u r st) = driven_more m s u (runs_driven m s r) st

-- ---- the start

pub start_reached : StartReached
start_reached m = record { numbers = replicate m.variables (pos 0); run = starts _ (record { one_each = length-replicate m.variables (pos 0); in_range = All-replicate Number m.variables (pos 0) (omega arith) }) }

-- ---- the numbers of a run

get_or_number : (xs : List ℤ) (k : ℕ) → All Number xs → Number (get_or xs k (pos 0))
get_or_number xs k f = grind (arith, All-get_or, get_or_past)

operand_is_number : (n : ℕ) (xs : List ℤ) (a : Operand) → OperandInRange n a → All Number xs → Number (operand_number xs a)
operand_is_number n xs (Constant k) r f = r
operand_is_number n xs (Variable v) r f = get_or_number xs v f

gives_number : (f : Arithmetic) (x y z : ℤ) → Number x → Gives f x y z → Number z
gives_number Add x y z n w = w.number
gives_number Subtract x y z n w = w.number
gives_number Multiply x y z n w = w.number
gives_number Remainder x y z n r = subst Number (remains_int_rem x y z r) (omega (arith, mag_rem x y))

pub computed_number : (f : Arithmetic) (x y z : ℤ) → Number x → computed f x y ≡ Some z → Number z
computed_number f x y z n e = gives_number f x y z n (computed_given f x y z e)

module _ (m : Macro) (here : InRange m) where
  edge_in : (j : ℕ) (e : Edge) → slice_get m.edges j ≡ Some e → EdgeInRange m.variables m.places e
  edge_in j e h = subst (EdgeInRange m.variables m.places) (get_or_from_slice_get m.edges j e e h) (here.edges j e (slice_get_within m.edges j e h))

  put_number : (xs : List ℤ) (t : ℕ) (z : ℤ) → Start m xs → Number z → Start m (set xs t z)
  put_number xs t z s n = record { one_each = length-set xs t z ∙ s.one_each; in_range = All-set Number xs t z n s.in_range }

  effect_numbers : (xs : List ℤ) (op : Operation) (rs ys : List ℤ) → Effect xs op rs ys → OperationInRange m.variables op → Start m xs → Start m ys
  effect_numbers xs op rs ys (sets t a) r s = put_number xs t _ s (operand_is_number _ xs a r.1 s.in_range)
  effect_numbers xs op rs ys (computes f t a b z e) r s = put_number xs t z s (gives_number f _ _ z (operand_is_number _ xs a r.1 s.in_range) e)
  effect_numbers xs op rs ys (reads t z n) r s = put_number xs t z s n
  effect_numbers xs op rs ys (passes c a b e) r s = s

  step_numbers : (s t : State) → Step m s t → Start m s.numbers → Start m t.numbers
  step_numbers s t (step j rs (takes e xs now ys at_j does)) st = effect_numbers xs e.operation now ys does (edge_in j e at_j).2 st

  run_numbers : (t : State) → Run m t → Start m t.numbers
  run_numbers t (starts xs st) = st
  run_numbers t (goes s u r st) = step_numbers s u st (run_numbers s r)

pub numbers_kept : NumbersKept
numbers_kept m here t r = run_numbers m here t r
