use Rattle.drive_texts.proofs.LineLaws.{step_all, step_halts, step_more}
use Rattle.drive_texts.proofs.lines.lines_of.Goals as goal

pub returns-in_default : goal.returns-in_default
returns-in_default c = step_halts _ _ _ _ c.loop-step-test.true _ _ _ c.loop-step.invariant _ c.in_default.ensures.answer

pub loop-step-preserved : goal.loop-step-preserved
loop-step-preserved c =
    let wrote = rw c.in_ok-state.ensures at c.in_ok-writeln-2.ensures.bytes in
    step_more _ _ _ _ c.loop-step-test.true _ _ _ c.loop-step.invariant _ _ _ c.in-Ok.ensures.answer c.take_edge.ensures.numbers wrote

pub returns : goal.returns
returns c = step_all _ _ _ _ _ _ _ c.loop-step-test.false c.loop-step.invariant
