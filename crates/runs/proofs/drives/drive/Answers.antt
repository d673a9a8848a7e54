use Rattle.runs.proofs.Driving.{drive_sound}
use Rattle.runs.proofs.drives.drive.Goals as goal

pub returns-clause-sound : goal.returns-clause-sound
returns-clause-sound c = drive_sound _ _ c.numbers_fit-2.ensures _ _ c.numbers_fit.ensures
