-- The words for the parts of a macro, as bytes.
use Rattle.std.specs.Prelude.{ℕ, List, codes, decimal}
use Rattle.std.specs.Fmt.{signed_decimal}
use Rattle.macros.specs.declared.parts.Arithmetic.{Arithmetic}
use Rattle.macros.specs.declared.parts.Arithmetic.TheVariants.{Add, Subtract, Multiply, Remainder}
use Rattle.macros.specs.declared.parts.Comparison.{Comparison}
use Rattle.macros.specs.declared.parts.Comparison.TheVariants.{Equal, NotEqual, Less, AtMost, Greater, AtLeast}
use Rattle.macros.specs.declared.parts.Edge.{Edge}
use Rattle.macros.specs.declared.parts.Header.{Header}
use Rattle.macros.specs.declared.parts.Operand.{Operand}
use Rattle.macros.specs.declared.parts.Operand.TheVariants.{Constant, Variable}
use Rattle.macros.specs.declared.parts.Operation.{Operation}
use Rattle.macros.specs.declared.parts.Operation.TheVariants.{Set, Compute, Read, Test}
use Rattle.texts.specs.Text.{◌&◌}

-- a number as it is, a variable by its number after a v
abbrev pub operand_text : Operand → List ℕ
operand_text (Constant n) = signed_decimal n
operand_text (Variable v) = codes "v" & decimal v

abbrev pub arithmetic_symbol : Arithmetic → List ℕ
arithmetic_symbol Add = codes "+"
arithmetic_symbol Subtract = codes "-"
arithmetic_symbol Multiply = codes "*"
arithmetic_symbol Remainder = codes "rem"

abbrev pub comparison_symbol : Comparison → List ℕ
comparison_symbol Equal = codes "="
comparison_symbol NotEqual = codes "!="
comparison_symbol Less = codes "<"
comparison_symbol AtMost = codes "<="
comparison_symbol Greater = codes ">"
comparison_symbol AtLeast = codes ">="

-- two operands with a symbol between them
abbrev pub between_text : Operand → List ℕ → Operand → List ℕ
between_text l symbol r = operand_text l & codes " " & symbol & codes " " & operand_text r

abbrev pub operation_text : Operation → List ℕ
operation_text (Set t x) = codes "v" & decimal t & codes " := " & operand_text x
operation_text (Compute a t l r) = codes "v" & decimal t & codes " := " & between_text l (arithmetic_symbol a) r
operation_text (Read t) = codes "read v" & decimal t
operation_text (Test c l r) = codes "pass if " & between_text l (comparison_symbol c) r

-- the edge with its number
abbrev pub edge_line : ℕ → Edge → List ℕ
edge_line i x =
    codes "edge " & decimal i & codes ": " & decimal x.from & codes " -> " & decimal x.to
    & codes "  " & operation_text x.operation

-- one number to a line
abbrev pub header_lines : Header → List ℕ
header_lines h =
    codes "variables " & decimal h.variables & codes "\nplaces " & decimal h.places
    & codes "\nguarded " & decimal h.guarded & codes "\nedges " & decimal h.edges
