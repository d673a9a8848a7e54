-- Two worked macros: what they read as, and what they are packed into.
use Rattle.std.specs.Prelude.{◌≡◌, ℕ, List, [], ◌∷◌, pos, Some, Ok, Err}
use Rattle.macros.specs.declared.faults.Call.TheVariants.{Read}
use Rattle.macros.specs.declared.faults.MacroFault.TheVariants.{Edge}
use Rattle.macros.specs.declared.layout.Field.TheVariants.{To}
use Rattle.macros.specs.declared.parts.Comparison.TheVariants.{Greater, Less}
use Rattle.macros.specs.declared.parts.Operand.TheVariants.{Constant, Variable}
use Rattle.macros.specs.declared.parts.Operation.TheVariants.{Set, Test}
use Rattle.macros.specs.Macro.{Macro}
use Rattle.reading.specs.declared.ReadRefusal.{ReadRefusal}
use Rattle.reading.specs.Reading.{read_answer, read_macro, told_read}
use Rattle.packing.specs.Packing.{packed}

-- the bytes of macro A, but with this number as the place that its edge enters
abbrev pub bytes_a : ℕ → List ℕ
bytes_a to = 0x10 ∷ 0x20 ∷ 0x10 ∷ 0x08 ∷ 0x00 ∷ to ∷ 0x80 ∷ 0x80 ∷ 0 ∷ 0 ∷ 0 ∷ 0 ∷ 0 ∷ 0 ∷ 0 ∷ 0 ∷ []

-- one variable, two places, guarded place 1, and an edge from 0 to 1 that passes if v0 < 0
abbrev pub macro_a : Macro
macro_a =
    record {
      variables = 1;
      places = 2;
      guarded = 1;
      edges = record { from = 0; to = 1; operation = Test Less (Variable 0) (Constant (pos 0)) } ∷ [];
    }

abbrev pub bytes_b : List ℕ
bytes_b =
    0x10 ∷ 0x30 ∷ 0x20 ∷ 0x10
    ∷ 0x00 ∷ 0x01 ∷ 0x00 ∷ 0x00 ∷ 0 ∷ 0 ∷ 0 ∷ 0 ∷ 0 ∷ 0 ∷ 0 ∷ 0
    ∷ 0x01 ∷ 0x02 ∷ 0xA0 ∷ 0x80 ∷ 0 ∷ 0 ∷ 0 ∷ 0 ∷ 0 ∷ 0 ∷ 0 ∷ 0 ∷ []

-- one variable, three places, guarded place 2; an edge from 0 to 1 sets v0 := 0, and one from 1 to 2 passes if v0 > 0
abbrev pub macro_b : Macro
macro_b =
    record {
      variables = 1;
      places = 3;
      guarded = 2;
      edges =
          record { from = 0; to = 1; operation = Set 0 (Constant (pos 0)) }
          ∷ record { from = 1; to = 2; operation = Test Greater (Variable 0) (Constant (pos 0)) } ∷ [];
    }

abbrev pub MacroAReads : Type 0
MacroAReads = read_macro (bytes_a 1) ≡ Ok macro_a

abbrev pub MacroBReads : Type 0
MacroBReads = read_macro bytes_b ≡ Ok macro_b

-- an edge that enters place 2 of two places: the fault, and how it is told
abbrev pub no_place : ReadRefusal
no_place = record { call = Read; fault = Edge (record { field = record { field = To; bit = 40; found = 2 }; edge = 0 }) }

abbrev pub MacroAWithNoSuchPlace : Type 0
MacroAWithNoSuchPlace =
    (read_answer (bytes_a 2) ≡ Err no_place)
    × (told_read no_place ≡ record { number = 3; call = Read; bit = Some 40; edge = Some 0 })

abbrev pub MacroAIsPacked : Type 0
MacroAIsPacked = packed macro_a ≡ bytes_a 1

abbrev pub MacroBIsPacked : Type 0
MacroBIsPacked = packed macro_b ≡ bytes_b
