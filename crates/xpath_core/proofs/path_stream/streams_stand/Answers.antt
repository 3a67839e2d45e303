use Rattle.xpath_core.proofs.Streaming.{begins, stays}
use Rattle.xpath_core.proofs.path_stream.streams_stand.Goals as goal

pub returns-clause-begins : goal.returns-clause-begins
returns-clause-begins c = begins

pub returns-clause-stays : goal.returns-clause-stays
returns-clause-stays c = stays
