use Rattle.std.proofs.Common.{◌+◌, drop, sym, ap, ◌∙◌}
use Rattle.packing.specs.Packing.{put_edges}
use Rattle.packing.proofs.Steps.{put_more, put_all}
use Rattle.packing.proofs.writing.write_edges.Goals as goal

pub loop-number-preserved : goal.loop-number-preserved
loop-number-preserved c =
    let i = c.loop-number.number in
    c.loop-number.invariant ∙ put_more _ _ i _ _ _ c.loop-number-test.true c.of_edge.ensures c.edge_fields.ensures.fields
    ∙ sym (ap (λ bs. put_edges bs (i + 1) (drop (i + 1) c.args.edges.now)) c.write_edge.ensures)

pub returns : goal.returns
returns c = sym (c.loop-number.invariant ∙ put_all _ _ _ c.loop-number-test.false)
