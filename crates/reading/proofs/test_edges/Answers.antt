use Rattle.std.proofs.Common.{Ok, Err, sym, ap, ◌∙◌, arith}
use Rattle.std.proofs.lemmas.Result.{err_from_is_err_and}
use Rattle.macros.specs.Faults.{bind, in_edges}
use Rattle.reading.proofs.Edges.{edges_none, edges_next, edges_fault, header_length, headed_tested}
use Rattle.reading.proofs.test_edges.Goals as goal

pub read_edge-requires : goal.read_edge-requires
read_edge-requires c = record { there = omega arith; whole = header_length c.args.bytes.now c.args.header c.requires }

pub returns-in_err-read_edge : goal.returns-in_err-read_edge
returns-in_err-read_edge c =
    let p = err_from_is_err_and c.from_residual.result c.from_residual.ensures.1 in
    headed_tested c.args.bytes.now c.args.header c.requires
    ∙ ap (λ t. bind in_edges t (λ _. Ok c.args.header))
    (c.loop-number.invariant ∙ edges_fault _ _ _ _ _ (omega arith) c.in_err-read_edge.ensures
    ∙ sym (p.1 ∙ ap (λ f. Err f) p.2))

pub loop-number-preserved : goal.loop-number-preserved
loop-number-preserved c =
    c.loop-number.invariant ∙ edges_next _ _ _ _ _ (omega arith) c.in_ok-read_edge.ensures

pub returns : goal.returns
returns c =
    headed_tested c.args.bytes.now c.args.header c.requires
    ∙ ap (λ t. bind in_edges t (λ _. Ok c.args.header)) (c.loop-number.invariant ∙ edges_none _ _ _ _ (omega arith))
