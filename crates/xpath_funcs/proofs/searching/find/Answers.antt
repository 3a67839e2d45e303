use Rattle.xpath_funcs.proofs.Finding.{found_place}
use Rattle.xpath_funcs.proofs.searching.find.Goals as goal

pub returns-clause-place : goal.returns-clause-place
returns-clause-place c = found_place c.args.a.now c.args.b.now c.find.result c.find.ensures
