use Rattle.xml_names.proofs.Indexing.{found_after}
use Rattle.xml_names.proofs.index.reveal.Goals as goal

pub returns-in-Some-get_mut : goal.returns-in-Some-get_mut
returns-in-Some-get_mut c = rw c.in-Some.is (found_after c.args.prefix.now c.args.latest.now (c.get_mut.follows.lender c.in-Some.place) _ ((c.get_mut.follows.holds c.in-Some.place).3 c.requires))

pub returns-in-None : goal.returns-in-None
returns-in-None c = rw c.in-None.is (found_after c.args.prefix.now c.args.latest.now c.remove.new.self _ c.remove.ensures.updates)
