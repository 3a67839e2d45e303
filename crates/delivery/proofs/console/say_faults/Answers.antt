use Rattle.std.proofs.Common.{rules, ◌∙◌, sym, append-nil}
use Rattle.std.proofs.lemmas.Slice.Zip.{zip_end}
use Rattle.delivery.proofs.PairLemmas.{zip_done}
use Rattle.delivery.proofs.console.say_faults.Goals as goal

pub returns : goal.returns
returns c =
    let end = zip_end c.args.pairs.now c.args.outcomes.now c.loop-pair.yielded c.into_iter-pair-iterator.result c.loop-pair.pair-iterator c.next.new.self c.next.result
    (search rules) (search rules) c.loop-pair.yielded_by c.in-None.is c.next.ensures.steps in
    let done = zip_done c.args.pairs.now c.args.outcomes.now _ end in
    sym (append-nil _) ∙ rw done at c.loop-pair.invariant
