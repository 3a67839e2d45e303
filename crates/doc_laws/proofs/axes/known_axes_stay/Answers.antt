use Rattle.doc_laws.proofs.Known.{axis_stays}
use Rattle.doc_laws.proofs.axes.known_axes_stay.Goals as goal

pub returns : goal.returns
returns c = λ rules n axis test. record { stays = λ before later g l. axis_stays rules before later n axis test g l }
