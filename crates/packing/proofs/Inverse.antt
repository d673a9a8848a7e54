-- Numbers that are taken are those that the part they mean is packed into.
use Rattle.std.proofs.Common.{◌≡◌, ℕ, zero, suc, ◌^◌, ◌<◌, Bool, true, false, cond, eqb, ◌⊎◌, Ok, Result, sym, refl, ap, ◌∙◌, subst, ap₂, inl, inr, arith, w32}
use mir.Facts.{sfits_to_z}
use Rattle.std.proofs.lemmas.Int.{of_z-to_z}
use Rattle.std.proofs.lemmas.Bool.{eqb-false, eqb-true}
use Rattle.macros.specs.declared.layout.Field.{Field}
use Rattle.macros.specs.declared.layout.Field.TheVariants.{From, To, Target, LeftMark, Left, RightMark, Right, EdgeFilling}
use Rattle.macros.specs.declared.form.Form.{Form as EdgeForm}
use Rattle.macros.specs.declared.form.Form.TheVariants.{Set as set_form, Compute as compute_form, Read as read_form, Test as test_form}
use Rattle.macros.specs.declared.parts.Arithmetic.{Arithmetic}
use Rattle.macros.specs.declared.parts.Comparison.{Comparison}
use Rattle.macros.specs.declared.parts.Edge.{Edge}
use Rattle.macros.specs.declared.parts.Operand.{Operand}
use Rattle.macros.specs.declared.parts.Operand.TheVariants.{Variable}
use Rattle.macros.specs.declared.parts.Operation.{Operation}
use Rattle.macros.specs.Faults.{same}
use Rattle.macros.specs.Forms.{form_number}
use Rattle.decoding.specs.declared.fields.EdgeFields.{EdgeFields}
use Rattle.decoding.specs.Decode.{below, decode_compute, decode_edge, decode_operand, decode_operation, decode_read, decode_set, decode_test, form_at, zeroed}
use Rattle.macros.proofs.Binds.{bind_ok, err_ok, ok_same}
use Rattle.packing.specs.Encode.{fields_of, mark_of, none, number_of, numbers, operation_fields}
use Rattle.macros.specs.Range.{EdgeInRange, OperandInRange, OperationInRange}
use Rattle.packing.proofs.Ranges.{below_out, zeroed_out}

either : {A E : Type 0} (c : Bool) (x y : Result A E) (a : A) → cond c x y ≡ Ok a → ((c ≡ true) × (x ≡ Ok a)) ⊎ ((c ≡ false) × (y ≡ Ok a))
either true x y a e = inl (refl, e)
either false x y a e = inr (refl, e)

-- the numbers that fit the fields of an operand
pub record NarrowFields (y : EdgeFields) : Type 0 where
  pub left_mark : y.left_mark < 2
  pub left : y.left < 2 ^ 32
  pub right_mark : y.right_mark < 2
  pub right : y.right < 2 ^ 32

-- an operand's mark and number, and that it is in range
pub record PackedOperand (n mark number : ℕ) (o : Operand) : Type 0 where
  pub mark_is : mark_of o ≡ mark
  pub number_is : number_of o ≡ number
  pub in_range : OperandInRange n o

operand_back : (n at : ℕ) (f : Field) (mark number : ℕ) (o : Operand) → mark < 2 → number < 2 ^ 32 → decode_operand n at f mark number ≡ Ok o → PackedOperand n mark number o
operand_back n at f mark number o hm hv e =
    elim (either (eqb mark 0) _ _ o e) [
      | inl p ↦ subst (λ q. PackedOperand n mark number q) (ok_same p.1) (record {
        mark_is = sym (eqb-true mark 0 p.0);
        number_is = of_z-to_z w32 number hv;
        in_range = (sfits_to_z {w = w32} {n = number} (record { fits = hv })).sfits;
      })
      | inr p ↦
          (let b = bind_ok same (below at f number n) (λ v. Ok (Variable v)) o p.1 in
          let c = below_out at f number n b.0 b.1 in
          let ne = eqb-false mark 0 p.0 in
          subst (λ q. PackedOperand n mark number q) (ok_same b.2) (record {
            mark_is = one mark hm ne;
            number_is = sym c.1;
            in_range = subst (λ v. v < n) c.1 c.0;
          }))
    ]
  where
    one : (m : ℕ) → m < 2 → (m ≡ 0 → ⊥) → 1 ≡ m
    one zero lt h = absurd (h refl)
    one (suc zero) lt h = refl
    one (suc (suc m)) lt h = absurd (omega arith)

-- a number that is taken as a form's is the number of that form
form_back : (at k : ℕ) (f : EdgeForm) → form_at at k ≡ Ok f → form_number f ≡ k
form_back at zero f e = ap form_number (sym (ok_same e))
form_back at (suc zero) f e = ap form_number (sym (ok_same e))
form_back at (suc (suc zero)) f e = ap form_number (sym (ok_same e))
form_back at (suc (suc (suc zero))) f e = ap form_number (sym (ok_same e))
form_back at (suc (suc (suc (suc zero)))) f e = ap form_number (sym (ok_same e))
form_back at (suc (suc (suc (suc (suc zero))))) f e = ap form_number (sym (ok_same e))
form_back at (suc (suc (suc (suc (suc (suc zero)))))) f e = ap form_number (sym (ok_same e))
form_back at (suc (suc (suc (suc (suc (suc (suc zero))))))) f e = ap form_number (sym (ok_same e))
form_back at (suc (suc (suc (suc (suc (suc (suc (suc zero)))))))) f e = ap form_number (sym (ok_same e))
form_back at (suc (suc (suc (suc (suc (suc (suc (suc (suc zero))))))))) f e = ap form_number (sym (ok_same e))
form_back at (suc (suc (suc (suc (suc (suc (suc (suc (suc (suc zero)))))))))) f e = ap form_number (sym (ok_same e))
form_back at (suc (suc (suc (suc (suc (suc (suc (suc (suc (suc (suc zero))))))))))) f e = ap form_number (sym (ok_same e))
form_back at (suc (suc (suc (suc (suc (suc (suc (suc (suc (suc (suc (suc k)))))))))))) f e = err_ok e

module _ (n at : ℕ) (y : EdgeFields) (narrow : NarrowFields y) (filled : y.filling ≡ 0) where
  -- the operation is packed into these numbers, and it is in range
  abbrev Back : Operation → Type 0
  Back o = (operation_fields y.from y.to o ≡ y) × OperationInRange n o

  numbers_are : (form target : ℕ) (l r : Operand) → form ≡ y.form → target ≡ y.target → mark_of l ≡ y.left_mark → number_of l ≡ y.left → mark_of r ≡ y.right_mark → number_of r ≡ y.right → numbers y.from y.to form target l r ≡ y
  numbers_are form target l r a b c d e f = rw (a, b, c, d, e, f, sym filled) refl

  left_back : (l : Operand) → decode_operand n at Left y.left_mark y.left ≡ Ok l → PackedOperand n y.left_mark y.left l
  left_back l e = operand_back n at Left y.left_mark y.left l narrow.left_mark narrow.left e

  right_back : (r : Operand) → decode_operand n at Right y.right_mark y.right ≡ Ok r → PackedOperand n y.right_mark y.right r
  right_back r e = operand_back n at Right y.right_mark y.right r narrow.right_mark narrow.right e

  set_back : (o : Operation) → form_number set_form ≡ y.form → decode_set n at y ≡ Ok o → Back o
  set_back o form e =
      let a = bind_ok same (below at Target y.target n) _ o e in
      let b = bind_ok same (decode_operand n at Left y.left_mark y.left) _ o a.2 in
      let c = bind_ok same (zeroed at RightMark y.right_mark) _ o b.2 in
      let d = bind_ok same (zeroed at Right y.right) _ o c.2 in
      let t = below_out at Target y.target n a.0 a.1 in
      let l = left_back b.0 b.1 in
      subst Back (ok_same d.2) (
        numbers_are 0 a.0 b.0 none form (sym t.1) l.mark_is l.number_is (sym (zeroed_out at RightMark y.right_mark c.1)) (sym (zeroed_out at Right y.right d.1)),
        (subst (λ v. v < n) t.1 t.0, l.in_range),
      )

  compute_back : (f : Arithmetic) (o : Operation) → form_number (compute_form f) ≡ y.form → decode_compute n at f y ≡ Ok o → Back o
  compute_back f o form e =
      let a = bind_ok same (below at Target y.target n) _ o e in
      let b = bind_ok same (decode_operand n at Left y.left_mark y.left) _ o a.2 in
      let c = bind_ok same (decode_operand n at Right y.right_mark y.right) _ o b.2 in
      let t = below_out at Target y.target n a.0 a.1 in
      let l = left_back b.0 b.1 in
      let r = right_back c.0 c.1 in
      subst Back (ok_same c.2) (
        numbers_are _ a.0 b.0 c.0 form (sym t.1) l.mark_is l.number_is r.mark_is r.number_is,
        (subst (λ v. v < n) t.1 t.0, l.in_range, r.in_range),
      )

  read_back : (o : Operation) → form_number read_form ≡ y.form → decode_read n at y ≡ Ok o → Back o
  read_back o form e =
      let a = bind_ok same (below at Target y.target n) _ o e in
      let b = bind_ok same (zeroed at LeftMark y.left_mark) _ o a.2 in
      let c = bind_ok same (zeroed at Left y.left) _ o b.2 in
      let d = bind_ok same (zeroed at RightMark y.right_mark) _ o c.2 in
      let f = bind_ok same (zeroed at Right y.right) _ o d.2 in
      let t = below_out at Target y.target n a.0 a.1 in
      subst Back (ok_same f.2) (
        numbers_are 5 a.0 none none form (sym t.1)
            (sym (zeroed_out at LeftMark y.left_mark b.1)) (sym (zeroed_out at Left y.left c.1))
            (sym (zeroed_out at RightMark y.right_mark d.1)) (sym (zeroed_out at Right y.right f.1)),
        subst (λ v. v < n) t.1 t.0,
      )

  test_back : (f : Comparison) (o : Operation) → form_number (test_form f) ≡ y.form → decode_test n at f y ≡ Ok o → Back o
  test_back f o form e =
      let a = bind_ok same (zeroed at Target y.target) _ o e in
      let b = bind_ok same (decode_operand n at Left y.left_mark y.left) _ o a.2 in
      let c = bind_ok same (decode_operand n at Right y.right_mark y.right) _ o b.2 in
      let l = left_back b.0 b.1 in
      let r = right_back c.0 c.1 in
      subst Back (ok_same c.2) (
        numbers_are _ 0 b.0 c.0 form (sym (zeroed_out at Target y.target a.1)) l.mark_is l.number_is r.mark_is r.number_is,
        (l.in_range, r.in_range),
      )

  operation_back : (f : EdgeForm) (o : Operation) → form_number f ≡ y.form → decode_operation n at f y ≡ Ok o → Back o
  operation_back set_form o form e = set_back o form e
  operation_back (compute_form f) o form e = compute_back f o form e
  operation_back read_form o form e = read_back o form e
  operation_back (test_form f) o form e = test_back f o form e

-- an edge that is taken is packed into the same numbers, and it is in range
pub edge_back : (n p at : ℕ) (y : EdgeFields) (x : Edge) → NarrowFields y → decode_edge n p at y ≡ Ok x → (fields_of x ≡ y) × EdgeInRange n p x
edge_back n p at y x narrow e =
    let a = bind_ok same (below at From y.from p) _ x e in
    let b = bind_ok same (below at To y.to p) _ x a.2 in
    let c = bind_ok same (form_at at y.form) _ x b.2 in
    let d = bind_ok same (decode_operation n at c.0 y) _ x c.2 in
    let f = bind_ok same (zeroed at EdgeFilling y.filling) _ x d.2 in
    let from = below_out at From y.from p a.0 a.1 in
    let to = below_out at To y.to p b.0 b.1 in
    let o = operation_back n at y narrow (zeroed_out at EdgeFilling y.filling f.1) c.0 d.0 (form_back at y.form c.0 c.1) d.1 in
    let P : Edge → Type 0 = λ z. (fields_of z ≡ y) × EdgeInRange n p z in
    subst P (ok_same f.2) (
      ap₂ (λ (u v : ℕ). operation_fields u v d.0) (sym from.1) (sym to.1) ∙ o.0,
      (subst (λ v. v < p) from.1 from.0, subst (λ v. v < p) to.1 to.0, o.1),
    )
