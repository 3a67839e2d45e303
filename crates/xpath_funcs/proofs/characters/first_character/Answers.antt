use Rattle.xpath_funcs.proofs.Cutting.{cut_at}
use Rattle.xpath_funcs.proofs.characters.first_character.Goals as goal

pub returns-in-Some-clause-cut : goal.returns-in-Some-clause-cut
returns-in-Some-clause-cut c =
    rw (c.split_at.ensures.front, c.split_at.ensures.back)
    (cut_at c.args.bytes.now c.in-Some.field-0-0 c.in-Some.rest.now c.continuing.result (c.in-Some.ensures {u = tt}).cut c.continuing.ensures.value)
