-- A part in range is taken back from its numbers, and only such a part is taken.
use Rattle.std.proofs.Common.{◌≡◌, ℕ, ◌<◌, ◌≤◌, eqb, ltb, Ok, sym, refl, ap, ◌∙◌, w32}
use Rattle.std.proofs.lemmas.Int.{to_z-of_z}
use Rattle.std.proofs.lemmas.Bool.{eqb-true, lt-ltb, ltb-false, ltb-true}
use Rattle.macros.specs.declared.layout.Field.{Field}
use Rattle.macros.specs.declared.layout.Field.TheVariants.{From, To, Target, Left, Right, EdgeFilling}
use Rattle.macros.specs.declared.form.Form.{Form as EdgeForm}
use Rattle.macros.specs.declared.form.Form.TheVariants.{Set as set_form, Compute as compute_form, Read as read_form, Test as test_form}
use Rattle.macros.specs.declared.parts.Arithmetic.{Arithmetic}
use Rattle.macros.specs.declared.parts.Arithmetic.TheVariants.{Add, Subtract, Multiply, Remainder}
use Rattle.macros.specs.declared.parts.Comparison.{Comparison}
use Rattle.macros.specs.declared.parts.Comparison.TheVariants.{Equal, NotEqual, Less, AtMost, Greater, AtLeast}
use Rattle.macros.specs.declared.parts.Edge.{Edge}
use Rattle.macros.specs.declared.parts.Operand.{Operand}
use Rattle.macros.specs.declared.parts.Operand.TheVariants.{Constant, Variable}
use Rattle.macros.specs.declared.parts.Operation.{Operation}
use Rattle.macros.specs.declared.parts.Operation.TheVariants.{Set, Compute, Read, Test}
use Rattle.macros.specs.Faults.{bind, same}
use Rattle.macros.specs.Forms.{form_number, form_of_operation}
use Rattle.decoding.specs.declared.fields.EdgeFields.{EdgeFields}
use Rattle.decoding.specs.Decode.{below, decode_compute, decode_edge, decode_operand, decode_operation, decode_read, decode_set, decode_test, form_at, within, zeroed}
use Rattle.macros.proofs.Binds.{bind_ok, cond_not_ok, cond_ok, ok_same}
use Rattle.packing.specs.Encode.{fields_of, mark_of, none, number_of, numbers, operation_fields}
use Rattle.macros.specs.Range.{EdgeInRange, OperandInRange, OperationInRange, SizedEdge, SizedOperand, SizedOperation}

-- ---- what the tests of one field tell

pub below_in : (at : ℕ) (f : Field) (v limit : ℕ) → v < limit → below at f v limit ≡ Ok v
below_in at f v limit lt = rw (lt-ltb v limit lt) refl

pub below_out : (at : ℕ) (f : Field) (v limit u : ℕ) → below at f v limit ≡ Ok u → (v < limit) × (v ≡ u)
below_out at f v limit u e =
    let c = cond_ok (ltb v limit) _ _ u e in
    (ltb-true v limit c.0, ok_same c.1)

pub within_out : (at : ℕ) (f : Field) (v least most u : ℕ) → within at f v least most ≡ Ok u → (least ≤ v) × (v ≤ most) × (v ≡ u)
within_out at f v least most u e =
    let c = cond_not_ok (ltb v least) _ _ u e in
    let d = cond_not_ok (ltb most v) _ _ u c.1 in
    (ltb-false v least c.0, ltb-false most v d.0, ok_same d.1)

pub zeroed_out : (at : ℕ) (f : Field) (v : ℕ) → zeroed at f v ≡ Ok tt → v ≡ 0
zeroed_out at f v e = eqb-true v 0 (cond_ok (eqb v 0) (Ok tt) _ tt e).0

-- ---- parts in range are taken back

-- the number of a form is that form's
pub form_in : (at : ℕ) (f : EdgeForm) → form_at at (form_number f) ≡ Ok f
form_in at set_form = refl
form_in at (compute_form Add) = refl
form_in at (compute_form Subtract) = refl
form_in at (compute_form Multiply) = refl
form_in at (compute_form Remainder) = refl
form_in at read_form = refl
form_in at (test_form Equal) = refl
form_in at (test_form NotEqual) = refl
form_in at (test_form Less) = refl
form_in at (test_form AtMost) = refl
form_in at (test_form Greater) = refl
form_in at (test_form AtLeast) = refl

pub operand_in : (n at : ℕ) (f : Field) (o : Operand) → OperandInRange n o → decode_operand n at f (mark_of o) (number_of o) ≡ Ok o
operand_in n at f (Constant k) h = ap (λ z. Ok (Constant z)) (to_z-of_z w32 k (record { sfits = h }))
operand_in n at f (Variable v) h = ap (λ r. bind same r (λ u. Ok (Variable u))) (below_in at f v n h)

set_in : (n at a b t : ℕ) (l : Operand) → t < n → OperandInRange n l → decode_set n at (numbers a b 0 t l none) ≡ Ok (Set t l)
set_in n at a b t l ht hl = rw (below_in at Target t n ht, operand_in n at Left l hl) refl

compute_in : (n at a b t form : ℕ) (f : Arithmetic) (l r : Operand) → t < n → OperandInRange n l → OperandInRange n r → decode_compute n at f (numbers a b form t l r) ≡ Ok (Compute f t l r)
compute_in n at a b t form f l r ht hl hr = rw (below_in at Target t n ht, operand_in n at Left l hl, operand_in n at Right r hr) refl

read_in : (n at a b t form : ℕ) → t < n → decode_read n at (numbers a b form t none none) ≡ Ok (Read t)
read_in n at a b t form ht = rw (below_in at Target t n ht) refl

test_in : (n at a b form : ℕ) (f : Comparison) (l r : Operand) → OperandInRange n l → OperandInRange n r → decode_test n at f (numbers a b form 0 l r) ≡ Ok (Test f l r)
test_in n at a b form f l r hl hr = rw (operand_in n at Left l hl, operand_in n at Right r hr) refl

operation_in : (n at a b : ℕ) (o : Operation) → OperationInRange n o → decode_operation n at (form_of_operation o) (operation_fields a b o) ≡ Ok o
operation_in n at a b (Set t l) h = set_in n at a b t l h.0 h.1
operation_in n at a b (Compute f t l r) h = compute_in n at a b t (form_number (compute_form f)) f l r h.0 h.1 h.2
operation_in n at a b (Read t) h = read_in n at a b t (form_number read_form) h
operation_in n at a b (Test f l r) h = test_in n at a b (form_number (test_form f)) f l r h.0 h.1

-- the fields that do not depend on the operands
pub record Outline (a b : ℕ) (o : Operation) (y : EdgeFields) : Type 0 where
  pub from : y.from ≡ a
  pub to : y.to ≡ b
  pub form : y.form ≡ form_number (form_of_operation o)
  pub filling : y.filling ≡ 0

pub outline : (a b : ℕ) (o : Operation) → Outline a b o (operation_fields a b o)
outline a b (Set t l) = record { from = refl; to = refl; form = refl; filling = refl }
outline a b (Compute c t l r) = record { from = refl; to = refl; form = refl; filling = refl }
outline a b (Read t) = record { from = refl; to = refl; form = refl; filling = refl }
outline a b (Test c l r) = record { from = refl; to = refl; form = refl; filling = refl }

pub edge_in : (n p at : ℕ) (x : Edge) → EdgeInRange n p x → decode_edge n p at (fields_of x) ≡ Ok x
edge_in n p at x h =
    let e = outline x.from x.to x.operation in
    rw (e.from, e.to, e.form, e.filling, below_in at From x.from p h.0, below_in at To x.to p h.1, form_in at (form_of_operation x.operation), operation_in n at x.from x.to x.operation h.2) refl

-- ---- only parts in range are taken

operand_out : (n at : ℕ) (f : Field) (o q : Operand) → SizedOperand o → decode_operand n at f (mark_of o) (number_of o) ≡ Ok q → OperandInRange n o
operand_out n at f (Constant k) q s e = s
operand_out n at f (Variable v) q s e =
    let b = bind_ok same (below at f v n) _ q e in
    (below_out at f v n b.0 b.1).0

module _ (n at a b : ℕ) where
  set_out : (t : ℕ) (l : Operand) (q : Operation) → SizedOperand l → decode_set n at (numbers a b 0 t l none) ≡ Ok q → (t < n) × OperandInRange n l
  set_out t l q s e =
      let x = bind_ok same (below at Target t n) _ q e in
      let y = bind_ok same (decode_operand n at Left (mark_of l) (number_of l)) _ q x.2 in
      ((below_out at Target t n x.0 x.1).0, operand_out n at Left l y.0 s y.1)

  compute_out : (t form : ℕ) (f : Arithmetic) (l r : Operand) (q : Operation) → SizedOperand l → SizedOperand r → decode_compute n at f (numbers a b form t l r) ≡ Ok q → (t < n) × OperandInRange n l × OperandInRange n r
  compute_out t form f l r q sl sr e =
      let x = bind_ok same (below at Target t n) _ q e in
      let y = bind_ok same (decode_operand n at Left (mark_of l) (number_of l)) _ q x.2 in
      let z = bind_ok same (decode_operand n at Right (mark_of r) (number_of r)) _ q y.2 in
      ((below_out at Target t n x.0 x.1).0, operand_out n at Left l y.0 sl y.1, operand_out n at Right r z.0 sr z.1)

  test_out : (form : ℕ) (f : Comparison) (l r : Operand) (q : Operation) → SizedOperand l → SizedOperand r → decode_test n at f (numbers a b form 0 l r) ≡ Ok q → OperandInRange n l × OperandInRange n r
  test_out form f l r q sl sr e =
      let y = bind_ok same (decode_operand n at Left (mark_of l) (number_of l)) _ q e in
      let z = bind_ok same (decode_operand n at Right (mark_of r) (number_of r)) _ q y.2 in
      (operand_out n at Left l y.0 sl y.1, operand_out n at Right r z.0 sr z.1)

  operation_out : (o q : Operation) → SizedOperation o → decode_operation n at (form_of_operation o) (operation_fields a b o) ≡ Ok q → OperationInRange n o
  operation_out (Set t l) q s e = set_out t l q s e
  operation_out (Compute f t l r) q s e = compute_out t (form_number (compute_form f)) f l r q s.0 s.1 e
  operation_out (Read t) q s e = let x = bind_ok same (below at Target t n) _ q e in (below_out at Target t n x.0 x.1).0
  operation_out (Test f l r) q s e = test_out (form_number (test_form f)) f l r q s.0 s.1 e

pub edge_out : (n p at : ℕ) (x y : Edge) → SizedEdge x → decode_edge n p at (fields_of x) ≡ Ok y → EdgeInRange n p x
edge_out n p at x y s e =
    let w = outline x.from x.to x.operation in
    let g = form_of_operation x.operation in
    let a = bind_ok same (below at From (fields_of x).from p) _ y e in
    let b = bind_ok same (below at To (fields_of x).to p) _ y a.2 in
    let c = bind_ok same (form_at at (fields_of x).form) _ y b.2 in
    let is : c.0 ≡ g = ok_same (sym c.1 ∙ ap (form_at at) w.form ∙ form_in at g) in
    let d = bind_ok same (decode_operation n at g (fields_of x)) _ y (ap (λ f. bind same (decode_operation n at f (fields_of x)) (λ o. bind same (zeroed at EdgeFilling (fields_of x).filling) (λ _. Ok (record { from = a.0; to = b.0; operation = o })))) (sym is) ∙ c.2) in
    let f = (below_out at From (fields_of x).from p a.0 a.1).0 in
    let t = (below_out at To (fields_of x).to p b.0 b.1).0 in
    (rw w.from at f, rw w.to at t, operation_out n at x.from x.to x.operation d.0 s d.1)
