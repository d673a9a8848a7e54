use Rattle.drive_texts.proofs.halts.EdgeHaltTextDisplay.fmt.Goals as goal

pub returns-in-OtherPlace-clause-writes : goal.returns-in-OtherPlace-clause-writes
returns-in-OtherPlace-clause-writes g c p o = rw c.in-OtherPlace.is (c.write-in-OtherPlace.ensures.writes p o)
