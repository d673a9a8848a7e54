-- The forms of an edge, and their numbers in a file.
use Rattle.std.specs.Prelude.{ℕ, List, [], ◌∷◌, Some, None, Ok, Err, Option, Result}
use Rattle.std.specs.List.{slice_get}
use Rattle.macros.specs.declared.form.Form.{Form}
use Rattle.macros.specs.declared.form.Form.TheVariants.{Set, Compute, Read, Test}
use Rattle.macros.specs.declared.form.NoSuchForm.{NoSuchForm}
use Rattle.macros.specs.declared.parts.Operation.{Operation}
use Rattle.macros.specs.declared.parts.Operation.TheVariants.{Set as sets, Compute as computes, Read as reads, Test as tests}
use Rattle.macros.specs.declared.parts.Arithmetic.TheVariants.{Add, Subtract, Multiply, Remainder}
use Rattle.macros.specs.declared.parts.Comparison.TheVariants.{Equal, NotEqual, Less, AtMost, Greater, AtLeast}

-- the number of a form
abbrev pub form_number : Form → ℕ
form_number Set = 0
form_number (Compute Add) = 1
form_number (Compute Subtract) = 2
form_number (Compute Multiply) = 3
form_number (Compute Remainder) = 4
form_number Read = 5
form_number (Test Equal) = 6
form_number (Test NotEqual) = 7
form_number (Test Less) = 8
form_number (Test AtMost) = 9
form_number (Test Greater) = 10
form_number (Test AtLeast) = 11

-- the forms in the order of their numbers, from 0 on
abbrev pub forms : List Form
forms =
    Set ∷ Compute Add ∷ Compute Subtract ∷ Compute Multiply ∷ Compute Remainder ∷ Read
    ∷ Test Equal ∷ Test NotEqual ∷ Test Less ∷ Test AtMost ∷ Test Greater ∷ Test AtLeast ∷ []

-- the form of a number, or that there is none
abbrev pub found_form : ℕ → Option Form → Result Form NoSuchForm
found_form k (Some f) = Ok f
found_form k None = Err (record { number = k })

abbrev pub form_of : ℕ → Result Form NoSuchForm
form_of k = found_form k (slice_get forms k)

-- the form of an operation
abbrev pub form_of_operation : Operation → Form
form_of_operation (sets t l) = Set
form_of_operation (computes a t l r) = Compute a
form_of_operation (reads t) = Read
form_of_operation (tests c l r) = Test c
