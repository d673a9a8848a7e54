-- Which macros a file can hold: those whose parts are in range.
use Rattle.std.specs.Prelude.{ℕ, ◌<◌, ◌≤◌, List, length}
use Rattle.std.specs.List.{All}
use Rattle.macros.specs.declared.parts.Edge.{Edge}
use Rattle.macros.specs.declared.parts.Operand.{Operand}
use Rattle.macros.specs.declared.parts.Operand.TheVariants.{Constant, Variable}
use Rattle.macros.specs.declared.parts.Operation.{Operation}
use Rattle.macros.specs.declared.parts.Operation.TheVariants.{Set, Compute, Read, Test}
use Rattle.macros.specs.Macro.{Macro}
use Rattle.macros.specs.Number.{Number}

-- a constant is a number of 32 bits, and a variable is one of the n
abbrev pub OperandInRange : ℕ → Operand → Type 0
OperandInRange n (Constant k) = Number k
OperandInRange n (Variable v) = v < n

abbrev pub OperationInRange : ℕ → Operation → Type 0
OperationInRange n (Set t l) = (t < n) × OperandInRange n l
OperationInRange n (Compute a t l r) = (t < n) × OperandInRange n l × OperandInRange n r
OperationInRange n (Read t) = t < n
OperationInRange n (Test c l r) = OperandInRange n l × OperandInRange n r

-- an edge of a macro with n variables and p places
abbrev pub EdgeInRange : ℕ → ℕ → Edge → Type 0
EdgeInRange n p x = (x.from < p) × (x.to < p) × OperationInRange n x.operation

pub record InRange (m : Macro) : Type 0 where
  pub some_variable : 1 ≤ m.variables
  pub few_variables : m.variables ≤ 15
  pub some_place : 1 ≤ m.places
  pub few_places : m.places ≤ 255
  pub guarded : m.guarded < m.places
  pub few_edges : length m.edges ≤ 511
  pub edges : All (EdgeInRange m.variables m.places) m.edges

-- what the type of a constant says of it: it is a number of 32 bits
abbrev pub SizedOperand : Operand → Type 0
SizedOperand (Constant k) = Number k
SizedOperand (Variable v) = Unit {0}

abbrev pub SizedOperation : Operation → Type 0
SizedOperation (Set t l) = SizedOperand l
SizedOperation (Compute a t l r) = SizedOperand l × SizedOperand r
SizedOperation (Read t) = Unit {0}
SizedOperation (Test c l r) = SizedOperand l × SizedOperand r

abbrev pub SizedEdge : Edge → Type 0
SizedEdge x = SizedOperation x.operation

abbrev pub Sized : List Edge → Type 0
Sized xs = All SizedEdge xs
