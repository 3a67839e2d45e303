use Rattle.xpath_funcs.proofs.Cutting.{length_at}
use Rattle.xpath_funcs.proofs.characters.string_length.Goals as goal

pub returns-in-Some : goal.returns-in-Some
returns-in-Some c = length_at c.args.a.now c.in-Some.field-0-0 c.in-Some.rest.now c.beginning.result (c.in-Some.ensures {u = tt}).cut c.beginning.ensures.value
