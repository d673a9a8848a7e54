use Rattle.std.proofs.Common.{ap, ◌∙◌}
use Rattle.reading.specs.Files.{edges_from}
use Rattle.texts.proofs.LineLaws.{begin, next, end}
use Rattle.texts.proofs.lines.macro_lines.Goals as goal

pub loop-number-init : goal.loop-number-init
loop-number-init c =
    let made = c.into_iter-number-iterator.ensures.into_iter_gives in
    begin _ _ _ _ _ _ c.new-lines.ensures.bytes c.in_ok-writeln.ensures.bytes
    (ap (λ s. s.count) made ∙ c.enumerate-number-items.ensures.count)
    (ap (λ s. edges_from s.iter) made ∙ ap edges_from c.enumerate-number-items.ensures.source ∙ c.edges.ensures)

pub loop-number-preserved : goal.loop-number-preserved
loop-number-preserved c =
    let s = c.in-Some.ensures.steps in
    next _ _ _ _ _ _ c.in-Some.edge _ _ s.0 s.1 s.2 c.loop-number.invariant c.in_ok-writeln-2.ensures.bytes

pub returns : goal.returns
returns c = end _ _ _ _ _ c.args.file.holds c.in-None.ensures.steps.0.0 c.loop-number.invariant
