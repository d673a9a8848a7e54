-- What a macro is.
use Rattle.std.specs.Prelude.{ℕ, List, length}
use Rattle.macros.specs.declared.parts.Edge.{Edge}
use Rattle.macros.specs.declared.parts.Header.{Header}

-- how many variables and places there are, which place is guarded, and the edges in their order
pub record Macro : Type 0 where
  pub variables : ℕ
  pub places : ℕ
  pub guarded : ℕ
  pub edges : List Edge

-- the numbers that its file begins with
abbrev pub header_of : Macro → Header
header_of m = record { variables = m.variables; places = m.places; guarded = m.guarded; edges = length m.edges }

-- the macro that has this header and these edges
abbrev pub macro_of : Header → List Edge → Macro
macro_of h xs = record { variables = h.variables; places = h.places; guarded = h.guarded; edges = xs }
