-- What the numbers in the fields mean, and which number in which field is refused.
-- The fields are tested in the order of the layout, so that a fault is always the first.
use Rattle.std.specs.Prelude.{ℕ, ◌+◌, cond, List, Ok, Err, Result, ◌==◌, nat_lt}
use Rattle.std.specs.Int.{w32}
use Rattle.std.proofs.Common.{to_z}
use Rattle.macros.specs.declared.faults.FieldFault.{FieldFault}
use Rattle.decoding.specs.declared.fields.EdgeFields.{EdgeFields}
use Rattle.decoding.specs.declared.fields.HeaderFields.{HeaderFields}
use Rattle.macros.specs.declared.form.Form.{Form as EdgeForm}
use Rattle.macros.specs.declared.form.Form.TheVariants.{Set as set_form, Compute as compute_form, Read as read_form, Test as test_form}
use Rattle.macros.specs.declared.layout.Field.{Field}
use Rattle.macros.specs.declared.layout.Field.TheVariants.{Variables, Places, Guarded, Edges, HeaderFilling, From, To, Form, Target, LeftMark, Left, RightMark, Right, EdgeFilling}
use Rattle.macros.specs.declared.parts.Arithmetic.{Arithmetic}
use Rattle.macros.specs.declared.parts.Comparison.{Comparison}
use Rattle.macros.specs.declared.parts.Edge.{Edge}
use Rattle.macros.specs.declared.parts.Header.{Header}
use Rattle.macros.specs.declared.parts.Operand.{Operand}
use Rattle.macros.specs.declared.parts.Operand.TheVariants.{Constant, Variable}
use Rattle.macros.specs.declared.parts.Operation.{Operation}
use Rattle.macros.specs.declared.parts.Operation.TheVariants.{Set, Compute, Read, Test}
use Rattle.macros.specs.Faults.{bind, same}
use Rattle.macros.specs.Forms.{form_of}
use Rattle.macros.specs.Layout.{field_at, offset}

-- the numbers in the header's fields
abbrev pub header_fields_at : List ℕ → HeaderFields
header_fields_at bs =
    record {
      variables = field_at bs 0 Variables;
      places = field_at bs 0 Places;
      guarded = field_at bs 0 Guarded;
      edges = field_at bs 0 Edges;
      filling = field_at bs 0 HeaderFilling;
    }

-- the numbers in the fields of the edge that begins at bit `at`
abbrev pub edge_fields_at : List ℕ → ℕ → EdgeFields
edge_fields_at bs at =
    record {
      from = field_at bs at From;
      to = field_at bs at To;
      form = field_at bs at Form;
      target = field_at bs at Target;
      left_mark = field_at bs at LeftMark;
      left = field_at bs at Left;
      right_mark = field_at bs at RightMark;
      right = field_at bs at Right;
      filling = field_at bs at EdgeFilling;
    }

-- the fault of a field, of the header or edge that begins at bit `at`, in which this number was found
abbrev pub wrong : ℕ → Field → ℕ → FieldFault
wrong at f found = record { field = f; bit = at + offset f; found = found }

-- a number that has to be below the limit
abbrev pub below : ℕ → Field → ℕ → ℕ → Result ℕ FieldFault
below at f number limit = cond (nat_lt number limit) (Ok number) (Err (wrong at f number))

-- a number that has to be from `least` to `most`
abbrev pub within : ℕ → Field → ℕ → ℕ → ℕ → Result ℕ FieldFault
within at f number least most =
    cond (nat_lt number least) (Err (wrong at f number)) (cond (nat_lt most number) (Err (wrong at f number)) (Ok number))

-- a number that has to be 0
abbrev pub zeroed : ℕ → Field → ℕ → Result (Unit {0}) FieldFault
zeroed at f number = cond (number == 0) (Ok tt) (Err (wrong at f number))

-- 1 to 15 variables, 1 to 255 places, a guarded place among these, at most 511 edges, and zero bits
abbrev pub decode_header : HeaderFields → Result Header FieldFault
decode_header x =
    bind same (within 0 Variables x.variables 1 15) (λ n.
    bind same (within 0 Places x.places 1 255) (λ p.
    bind same (below 0 Guarded x.guarded p) (λ g.
    bind same (below 0 Edges x.edges 512) (λ e.
    bind same (zeroed 0 HeaderFilling x.filling) (λ _.
    Ok (record { variables = n; places = p; guarded = g; edges = e }))))))

-- an operand of field f, where there are n variables: with mark 0 a constant in two's complement, else a variable's number
abbrev pub decode_operand : ℕ → ℕ → Field → ℕ → ℕ → Result Operand FieldFault
decode_operand n at f mark number =
    cond (mark == 0) (Ok (Constant (to_z w32 number))) (bind same (below at f number n) (λ v. Ok (Variable v)))

-- a number that has to be that of a form
abbrev pub form_at : ℕ → ℕ → Result EdgeForm FieldFault
form_at at number = bind (λ e. wrong at Form number) (form_of number) (λ f. Ok f)

-- form 0: target := left; right and its mark are 0
abbrev pub decode_set : ℕ → ℕ → EdgeFields → Result Operation FieldFault
decode_set n at x =
    bind same (below at Target x.target n) (λ t.
    bind same (decode_operand n at Left x.left_mark x.left) (λ l.
    bind same (zeroed at RightMark x.right_mark) (λ _.
    bind same (zeroed at Right x.right) (λ _.
    Ok (Set t l)))))

-- forms 1 to 4: target := left and right, computed by this arithmetic
abbrev pub decode_compute : ℕ → ℕ → Arithmetic → EdgeFields → Result Operation FieldFault
decode_compute n at a x =
    bind same (below at Target x.target n) (λ t.
    bind same (decode_operand n at Left x.left_mark x.left) (λ l.
    bind same (decode_operand n at Right x.right_mark x.right) (λ r.
    Ok (Compute a t l r))))

-- form 5: read target; both operands and their marks are 0
abbrev pub decode_read : ℕ → ℕ → EdgeFields → Result Operation FieldFault
decode_read n at x =
    bind same (below at Target x.target n) (λ t.
    bind same (zeroed at LeftMark x.left_mark) (λ _.
    bind same (zeroed at Left x.left) (λ _.
    bind same (zeroed at RightMark x.right_mark) (λ _.
    bind same (zeroed at Right x.right) (λ _.
    Ok (Read t))))))

-- forms 6 to 11: pass if left and right compare so; target is 0
abbrev pub decode_test : ℕ → ℕ → Comparison → EdgeFields → Result Operation FieldFault
decode_test n at c x =
    bind same (zeroed at Target x.target) (λ _.
    bind same (decode_operand n at Left x.left_mark x.left) (λ l.
    bind same (decode_operand n at Right x.right_mark x.right) (λ r.
    Ok (Test c l r))))

-- what an edge of this form does
abbrev pub decode_operation : ℕ → ℕ → EdgeForm → EdgeFields → Result Operation FieldFault
decode_operation n at set_form x = decode_set n at x
decode_operation n at (compute_form a) x = decode_compute n at a x
decode_operation n at read_form x = decode_read n at x
decode_operation n at (test_form c) x = decode_test n at c x

-- an edge, where there are n variables and p places
abbrev pub decode_edge : ℕ → ℕ → ℕ → EdgeFields → Result Edge FieldFault
decode_edge n p at x =
    bind same (below at From x.from p) (λ from.
    bind same (below at To x.to p) (λ to.
    bind same (form_at at x.form) (λ f.
    bind same (decode_operation n at f x) (λ o.
    bind same (zeroed at EdgeFilling x.filling) (λ _.
    Ok (record { from = from; to = to; operation = o }))))))
