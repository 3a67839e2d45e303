use Rattle.dtm_builder.proofs.Reading.{readable}
use Rattle.dtm_builder.proofs.laws.what_is_read_is_readable.Goals as goal

pub returns : goal.returns
returns c = readable
