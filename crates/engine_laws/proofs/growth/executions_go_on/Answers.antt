use Rattle.engine_laws.proofs.Grows.{execution_keeps}
use Rattle.engine_laws.proofs.growth.executions_go_on.Goals as goal

pub returns : goal.returns
returns c = λ sheet globals before later more body at s x. (execution_keeps sheet globals before later x more body at).later s
