use Rattle.doc_laws.proofs.Growth.{joined_grows}
use Rattle.axis_walkers.proofs.Given.{stands_moves, given_stays}
use Rattle.axis_walkers.proofs.child_stream.streams_stay.Goals as goal

pub returns : goal.returns
returns c = λ rules before later stream g j s. record {
  joined = joined_grows before later stream.n g j;
  stands = stands_moves rules before later stream.n stream.last g s;
  same = given_stays rules before later stream.n stream.last g s;
}
