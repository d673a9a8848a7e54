use Rattle.std.proofs.Common.{Err, sym, ap, ◌∙◌, subst}
use Rattle.std.proofs.lemmas.List.{take_all}
use Rattle.std.proofs.lemmas.List.Elements.{All-more}
use Rattle.std.proofs.lemmas.Result.{err_from_is_err_and, IfOk-from_err}
use Rattle.macros.specs.Range.{Sized, SizedEdge}
use Rattle.packing.proofs.Steps.{test_more, test_fault, test_all}
use Rattle.packing.proofs.test_edges.Goals as goal

pub returns-in_err-decode_edge : goal.returns-in_err-decode_edge
returns-in_err-decode_edge c =
    let p = err_from_is_err_and c.from_residual.result c.from_residual.ensures.1 in
    record {
      answer = p.1 ∙ ap (λ f. Err f) p.2 ∙ sym (c.loop-number.invariant.0 ∙ test_fault _ _ _ _ _ c.loop-number-test.true c.of_edge.ensures _ c.edge_fields.ensures.fields _ c.in_err-decode_edge.ensures);
      sized = IfOk-from_err c.from_residual.result _ c.from_residual.ensures.0;
    }

pub loop-number-preserved : goal.loop-number-preserved
loop-number-preserved c = (
  c.loop-number.invariant.0 ∙ test_more _ _ _ _ _ c.loop-number-test.true c.of_edge.ensures _ c.edge_fields.ensures.fields _ c.in_ok-decode_edge.ensures,
  All-more SizedEdge _ _ _ c.loop-number-test.true c.loop-number.invariant.1 c.edge_fields.ensures.sized,
)

pub returns : goal.returns
returns c =
    record {
      answer = sym (c.loop-number.invariant.0 ∙ test_all _ _ _ c.loop-number-test.false);
      sized = subst Sized (take_all _ _ c.loop-number-test.false) c.loop-number.invariant.1;
    }
