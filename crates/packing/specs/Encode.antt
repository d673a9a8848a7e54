-- The numbers in the fields of a macro's file.
use Rattle.std.specs.Prelude.{ℕ, min, length, pos}
use Rattle.std.specs.Int.{w32}
use Rattle.std.proofs.Common.{of_z}
use Rattle.macros.specs.declared.form.Form.TheVariants.{Set as set_form, Compute as compute_form, Read as read_form, Test as test_form}
use Rattle.macros.specs.declared.parts.Edge.{Edge}
use Rattle.macros.specs.declared.parts.Operand.{Operand}
use Rattle.macros.specs.declared.parts.Operand.TheVariants.{Constant, Variable}
use Rattle.macros.specs.declared.parts.Operation.{Operation}
use Rattle.macros.specs.declared.parts.Operation.TheVariants.{Set, Compute, Read, Test}
use Rattle.macros.specs.Forms.{form_number}
use Rattle.macros.specs.Macro.{Macro}
use Rattle.decoding.specs.declared.fields.EdgeFields.{EdgeFields}
use Rattle.decoding.specs.declared.fields.HeaderFields.{HeaderFields}

-- the header's numbers; a count of edges that 32 bits do not hold is given as the largest number that they do
abbrev pub header_fields : Macro → HeaderFields
header_fields m =
    record {
      variables = m.variables;
      places = m.places;
      guarded = m.guarded;
      edges = min (length m.edges) 4294967295;
      filling = 0;
    }

abbrev pub mark_of : Operand → ℕ
mark_of (Constant k) = 0
mark_of (Variable v) = 1

-- a constant in two's complement, or a variable's number
abbrev pub number_of : Operand → ℕ
number_of (Constant k) = of_z w32 k
number_of (Variable v) = v

-- an edge's numbers, from its two places, its form, its target and its operands
abbrev pub numbers : ℕ → ℕ → ℕ → ℕ → Operand → Operand → EdgeFields
numbers from to form target left right =
    record {
      from = from;
      to = to;
      form = form;
      target = target;
      left_mark = mark_of left;
      left = number_of left;
      right_mark = mark_of right;
      right = number_of right;
      filling = 0;
    }

-- what stands for an operand that a form does not have
abbrev pub none : Operand
none = Constant (pos 0)

-- what the operation of an edge from place to place puts into the fields
abbrev pub operation_fields : ℕ → ℕ → Operation → EdgeFields
operation_fields from to (Set t l) = numbers from to (form_number set_form) t l none
operation_fields from to (Compute a t l r) = numbers from to (form_number (compute_form a)) t l r
operation_fields from to (Read t) = numbers from to (form_number read_form) t none none
operation_fields from to (Test c l r) = numbers from to (form_number (test_form c)) 0 l r

abbrev pub fields_of : Edge → EdgeFields
fields_of x = operation_fields x.from x.to x.operation
