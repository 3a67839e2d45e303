use Rattle.sheet_laws.proofs.running.compiled_sheets_can_run.Goals as goal
use Rattle.sheet_laws.proofs.Stripping.{can_run}

pub returns : goal.returns
returns c = λ bytes sheet h. can_run bytes sheet h
