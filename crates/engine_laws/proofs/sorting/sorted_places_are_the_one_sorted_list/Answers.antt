use Rattle.engine_laws.proofs.Places.{one_sorted}
use Rattle.engine_laws.proofs.sorting.sorted_places_are_the_one_sorted_list.Goals as goal

pub returns : goal.returns
returns c = λ hows rows places p s. one_sorted hows rows places p s
