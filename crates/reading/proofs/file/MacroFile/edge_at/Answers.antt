use Rattle.std.proofs.Common.{sym, refl, ◌∙◌, subst}
use Rattle.std.specs.Result.{IsOk}
use Rattle.reading.proofs.Edges.{headed_length, headed_edge}
use Rattle.reading.proofs.file.MacroFile.edge_at.Goals as goal

pub read_edge-requires-clause-whole : goal.read_edge-requires-clause-whole
read_edge-requires-clause-whole c = headed_length c.args.self.bytes.now c.args.self.header c.args.self.holds

pub unwrap-requires : goal.unwrap-requires
unwrap-requires c =
    let r = headed_edge c.args.self.bytes.now c.args.self.header c.args.self.holds c.args.number c.requires in
    subst IsOk (sym (c.read_edge.ensures ∙ r.1)) refl

pub returns-clause-edge : goal.returns-clause-edge
returns-clause-edge c =
    let r = headed_edge c.args.self.bytes.now c.args.self.header c.args.self.holds c.args.number c.requires in
    r.2 ∙ cc (r.1, c.read_edge.ensures, c.unwrap.ensures)
