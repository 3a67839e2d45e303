use Rattle.std.proofs.Common.{◌+◌, refl, ap, drop, true, cond}
use Rattle.doc_model.specs.Answers.{Known}
use Rattle.doc_laws.proofs.Moving.{moves_none}
use Rattle.key_sources.proofs.Loops.{leaves_start, leaves_same, leaves_on, leaves_stops, leaves_end}
use Rattle.key_sources.proofs.Saying.{went_none, went_on, says_exit}
use Rattle.xpath_meaning.specs.Match.{match_path}
use Rattle.xpath_meaning.specs.Outcome.{some_holds}
use Rattle.xpath_nodes.proofs.Holding.{there_on}
use Rattle.xpath_nodes.proofs.Turning.{some_ends}
use Rattle.patterns.proofs.Forking.{some_at}
use Rattle.patterns.proofs.Lasting.{keeps_path, told}
use Rattle.patterns.proofs.matching.some_path_matches.Goals as goal

pub loop-path-init : goal.loop-path-init
loop-path-init g c = record {
  went = went_none c.requires.stands;
  there = c.requires.there;
  leaves = leaves_start (moves_none _ c.requires.stands.seen) (λ R. refl);
}

pub path_matches-requires-clause-stands : goal.path_matches-requires-clause-stands
path_matches-requires-clause-stands g c = c.loop-path.invariant.went.stands

pub returns-in_err-here-clause-went : goal.returns-in_err-here-clause-went
returns-in_err-here-clause-went g c = went_on c.loop-path.invariant.went c.in_err-here.ensures.went

pub returns-in_err-here-clause-answers : goal.returns-in_err-here-clause-answers
returns-in_err-here-clause-answers g c = says_exit c.from_residual.result c.from_residual.ensures.1
    (leaves_stops (λ R here. cond here (Known true) (some_holds (λ path. match_path R path c.args.n) (drop (c.loop-path.path-index + 1) c.args.paths.now))) c.loop-path.invariant.leaves
    (λ R. some_at (λ path. match_path R path c.args.n) c.args.paths.now c.loop-path.path-index c.path-item.result c.loop-path-test.true c.path-item.is) c.in_err-here.ensures.went.moves
    (told c.loop-path.invariant.went.stays c.in_err-here.ensures.answers))

pub returns-then-here-clause-went : goal.returns-then-here-clause-went
returns-then-here-clause-went g c = went_on c.loop-path.invariant.went c.in_ok-here.ensures.went

pub returns-then-here-clause-answers : goal.returns-then-here-clause-answers
returns-then-here-clause-answers g c = leaves_end
    (leaves_on (λ R here. cond here (Known true) (some_holds (λ path. match_path R path c.args.n) (drop (c.loop-path.path-index + 1) c.args.paths.now))) c.loop-path.invariant.leaves
    (λ R. some_at (λ path. match_path R path c.args.n) c.args.paths.now c.loop-path.path-index c.path-item.result c.loop-path-test.true c.path-item.is)
    (keeps_path c.path-item.result c.args.n) c.in_ok-here.ensures.went.moves (told c.loop-path.invariant.went.stays c.in_ok-here.ensures.answers))
    (moves_none _ c.in_ok-here.ensures.went.moves.seen)
    (λ R. ap (λ here. cond here (Known true) (some_holds (λ path. match_path R path c.args.n) (drop (c.loop-path.path-index + 1) c.args.paths.now))) c.if-here.true)

pub loop-path-preserved : goal.loop-path-preserved
loop-path-preserved g c = record {
  went = went_on c.loop-path.invariant.went c.in_ok-here.ensures.went;
  there = there_on _ _ c.args.n c.in_ok-here.ensures.went.moves c.loop-path.invariant.there;
  leaves = leaves_same
      (λ R. ap (λ here. cond here (Known true) (some_holds (λ path. match_path R path c.args.n) (drop (c.loop-path.path-index + 1) c.args.paths.now))) c.if-here.false)
      (leaves_on (λ R here. cond here (Known true) (some_holds (λ path. match_path R path c.args.n) (drop (c.loop-path.path-index + 1) c.args.paths.now))) c.loop-path.invariant.leaves
      (λ R. some_at (λ path. match_path R path c.args.n) c.args.paths.now c.loop-path.path-index c.path-item.result c.loop-path-test.true c.path-item.is)
      (keeps_path c.path-item.result c.args.n) c.in_ok-here.ensures.went.moves (told c.loop-path.invariant.went.stays c.in_ok-here.ensures.answers));
}

pub returns-clause-went : goal.returns-clause-went
returns-clause-went g c = c.loop-path.invariant.went

pub returns-clause-answers : goal.returns-clause-answers
returns-clause-answers g c = leaves_end c.loop-path.invariant.leaves (moves_none _ c.loop-path.invariant.went.moves.seen)
    (λ R. some_ends (λ path. match_path R path c.args.n) c.args.paths.now c.loop-path.path-index c.loop-path-test.false)
