-- What packing and reading promise of each other, by what `pack` answers for a macro and `given` bytes of memory,
-- and by what the memory, `out`, then holds.
use Rattle.std.specs.Prelude.{◌≡◌, ℕ, ◌≤◌, List, length, take, Ok, Err, Result}
use Rattle.bits.specs.Field.{Bytes}
use Rattle.macros.specs.Layout.{file_length}
use Rattle.macros.specs.Macro.{Macro}
use Rattle.reading.specs.Reading.{read_macro}
use Rattle.packing.specs.declared.faults.PackRefusal.{PackRefusal}
use Rattle.macros.specs.Range.{InRange}

-- what was packed reads as the macro
abbrev pub ReadsBack : Macro → Result ℕ PackRefusal → List ℕ → Type 0
ReadsBack m (Ok count) out = read_macro (take count out) ≡ Ok m
ReadsBack m (Err e) out = Unit {0}

-- a file that reads as the macro is what is packed, where there is room for it
abbrev pub PacksBack : Macro → ℕ → Result ℕ PackRefusal → List ℕ → Type 0
PacksBack m given answer out =
    (bs : List ℕ) → Bytes bs → read_macro bs ≡ Ok m → length bs ≤ given
    → (answer ≡ Ok (length bs)) × (take (length bs) out ≡ bs)

-- only a macro whose parts are in range is packed
abbrev pub OnlyInRange : Macro → Result ℕ PackRefusal → Type 0
OnlyInRange m (Ok count) = InRange m
OnlyInRange m (Err e) = Unit {0}

-- a macro whose parts are in range is packed, where there is room for it
abbrev pub AllInRange : Macro → ℕ → Result ℕ PackRefusal → Type 0
AllInRange m given answer =
    InRange m → file_length (length m.edges) ≤ given → answer ≡ Ok (file_length (length m.edges))

pub record Promises (m : Macro) (given : ℕ) (answer : Result ℕ PackRefusal) (out : List ℕ) : Type 0 where
  pub reads_back : ReadsBack m answer out
  pub packs_back : PacksBack m given answer out
  pub only_in_range : OnlyInRange m answer
  pub all_in_range : AllInRange m given answer
