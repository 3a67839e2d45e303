use Rattle.std.proofs.Common.{rules, ◌∙◌, ◌∷◌, [], sym, subst, append-nil, arith, length, length-append}
use Rattle.edge.specs.Outside.{Grows}
use Rattle.std.proofs.lemmas.Slice.Zip.{zip_turn, zip_end}
use Rattle.delivery.proofs.PairLemmas.{zip_done, puts_more}
use Rattle.delivery.proofs.putting.put_all.Goals as goal

pub loop-pair-preserved : goal.loop-pair-preserved
loop-pair-preserved g c =
    let turn = zip_turn c.args.pairs.now c.args.outcomes.now c.loop-pair.yielded c.into_iter-pair-iterator.result c.loop-pair.pair-iterator c.next.new.self c.next.result
    (search rules) (search rules) c.loop-pair.yielded_by (c.in-Some.pair, c.in-Some.outcome) c.in-Some.is c.next.ensures.steps in
    record {
      puts = puts_more c.args.pairs.now c.args.outcomes.now (length c.loop-pair.yielded) _ c.in-Some.pair.now c.in-Some.outcome.now _ _ _
          turn.0 turn.1 (turn.2 c.in-Some.pair.now) (turn.3 c.in-Some.outcome.now)
          (length-append c.loop-pair.yielded ((c.in-Some.pair, c.in-Some.outcome) ∷ [])) c.loop-pair.invariant.puts c.in_ok-put_one.ensures.put;
      later = omega (arith, c.loop-pair.invariant.later, c.put_one.ensures.later);
    }

pub returns-clause-all : goal.returns-clause-all
returns-clause-all g c =
    let end = zip_end c.args.pairs.now c.args.outcomes.now c.loop-pair.yielded c.into_iter-pair-iterator.result c.loop-pair.pair-iterator c.next.new.self c.next.result
    (search rules) (search rules) c.loop-pair.yielded_by c.in-None.is c.next.ensures.steps in
    let done = zip_done c.args.pairs.now c.args.outcomes.now _ end in
    let i = c.loop-pair.invariant.puts in
    subst (Grows (g.O.Drawer.puts c.args.drawer.now) (g.O.Drawer.puts c.loop-pair.drawer)) (sym (append-nil i.0) ∙ sym (rw done at i.1.0)) i.1.1
