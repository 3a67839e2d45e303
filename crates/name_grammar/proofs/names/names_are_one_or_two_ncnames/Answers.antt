use Rattle.name_grammar.proofs.Joined.{is_a_name, name_is}
use Rattle.name_grammar.proofs.names.names_are_one_or_two_ncnames.Goals as goal

pub returns : goal.returns
returns c = λ name. (is_a_name name, name_is name)
