use Rattle.xml_names.specs.Bindings.{all_bindings}
use Rattle.pyx_output.proofs.Telling.{told_first}
use Rattle.pyx_output.proofs.free_numbers.FreeNumbers.first.Goals as goal

pub returns-in-Some-clause-first : goal.returns-in-Some-clause-first
returns-in-Some-clause-first c = let is = c.in-Some.ensures {u = tt} in told_first c.args.self.now (all_bindings c.args.scopes.now.scopes) c.in-Some.first.now c.requires is.member is.least
