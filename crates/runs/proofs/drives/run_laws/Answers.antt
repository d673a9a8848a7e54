use Rattle.runs.proofs.Walks.{driven_runs, numbers_kept, runs_driven, start_reached}
use Rattle.runs.proofs.drives.run_laws.Goals as goal

pub returns : goal.returns
returns c = record { driven_runs = driven_runs; runs_driven = runs_driven; start_reached = start_reached; numbers_kept = numbers_kept }
