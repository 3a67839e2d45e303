use Rattle.xpath_laws.proofs.Equations.{meant_path_is, meant_step_is}
use Rattle.xpath_laws.proofs.parts.paths_are_made_of_steps.Goals as goal

pub returns-clause-path : goal.returns-clause-path
returns-clause-path c = λ path. meant_path_is path

pub returns-clause-step : goal.returns-clause-step
returns-clause-step c = λ step. meant_step_is step
