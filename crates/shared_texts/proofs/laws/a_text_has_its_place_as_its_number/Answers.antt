use Rattle.shared_texts.proofs.Known.{number_told}
use Rattle.shared_texts.proofs.laws.a_text_has_its_place_as_its_number.Goals as goal

pub returns : goal.returns
returns c = number_told
