use Rattle.std.proofs.Common.{ap, length, reverse, subst, sym, IfSome, arith}
use Rattle.doc_laws.proofs.Moving.{moves_on, moves_none}
use Rattle.key_sources.proofs.Loops.{leaves_same, leaves_on, leaves_stops, leaves_end, leaves_memory}
use Rattle.key_sources.proofs.Saying.{went_moves, went_on, says_exit}
use Rattle.xpath_meaning.specs.Outcome.{◌>>=◌}
use Rattle.xpath_nodes.proofs.Holding.{there_on}
use Rattle.patterns.specs.Places.{AllThere, TurnIsThere, FoundIsThere, AllWithin, FoundIsWithin, TurnIsBefore, IsLighter}
use Rattle.patterns.specs.Trials.{turned, resumed, gone}
use Rattle.patterns.proofs.Forking.{search_turns, search_starts, search_ends, leaves_goes, before_within}
use Rattle.patterns.proofs.Going.{places_on}
use Rattle.patterns.proofs.Lasting.{keeps_turn, told}
use Rattle.patterns.proofs.matching.path_matches.Goals as goal

pub search-init : goal.search-init
search-init g c = record {
  went = went_moves (g.met.K.KeySource.goes_on c.args.keys.now) c.told.ensures c.requires.stands;
  there = there_on _ _ c.args.n c.told.ensures c.requires.there;
  forks = subst (AllThere (g.V.NodeView.sees c.told.new.self)) (sym c.new-search.ensures.forks) tt;
  within = (let e = c.len-count.ensures in omega (arith, e));
  bounded = subst (AllWithin (length c.args.path.now.parts)) (sym c.new-search.ensures.forks) tt;
  leaves = search_starts c.args.path.now c.args.n c.len-count.result c.new-search.result.tried c.new-search.result.forks c.told.ensures (there_on _ _ c.args.n c.told.ensures c.requires.there)
      c.len-count.ensures c.new-search.ensures.tried c.new-search.ensures.forks;
}

pub turn-requires-clause-stands : goal.turn-requires-clause-stands
turn-requires-clause-stands g c = c.search.invariant.went.stands

pub returns-in_err-met-clause-went : goal.returns-in_err-met-clause-went
returns-in_err-met-clause-went g c = went_on c.search.invariant.went c.in_err-met.ensures.went

pub returns-in_err-met-clause-answers : goal.returns-in_err-met-clause-answers
returns-in_err-met-clause-answers g c = says_exit c.from_residual.result c.from_residual.ensures.1
    (leaves_stops (λ R turn. turned R c.args.path.now c.search.search.tried turn >>= resumed R c.args.path.now (reverse c.search.search.forks)) c.search.invariant.leaves
    (λ R. search_turns R c.args.path.now c.search.search.tried c.search.search.forks c.search.at c.search.invariant.within) c.in_err-met.ensures.went.moves
    (told c.search.invariant.went.stays c.in_err-met.ensures.answers))

pub returns-in-None-clause-went : goal.returns-in-None-clause-went
returns-in-None-clause-went g c = went_on c.search.invariant.went c.in_ok-met.ensures.went

pub returns-in-None-clause-answers : goal.returns-in-None-clause-answers
returns-in-None-clause-answers g c = leaves_end
    (leaves_on (λ R turn. turned R c.args.path.now c.search.search.tried turn >>= resumed R c.args.path.now (reverse c.search.search.forks)) c.search.invariant.leaves
    (λ R. search_turns R c.args.path.now c.search.search.tried c.search.search.forks c.search.at c.search.invariant.within)
    (keeps_turn c.args.path.now c.search.at.steps c.search.at.node) c.in_ok-met.ensures.went.moves (told c.search.invariant.went.stays c.in_ok-met.ensures.answers))
    (moves_none _ c.in_ok-met.ensures.went.moves.seen)
    (λ R. ap (λ turn. turned R c.args.path.now c.search.search.tried turn >>= resumed R c.args.path.now (reverse c.search.search.forks)) c.in-None.is)

pub next_place-requires-clause-seen : goal.next_place-requires-clause-seen
next_place-requires-clause-seen g c = c.in_ok-met.ensures.went.moves.seen

pub next_place-requires-clause-there : goal.next_place-requires-clause-there
next_place-requires-clause-there g c = places_on _ _ c.search.search.forks c.in_ok-met.ensures.went.moves c.search.invariant.forks

pub next_place-requires-clause-turn : goal.next_place-requires-clause-turn
next_place-requires-clause-turn g c = subst (λ met. IfSome met (TurnIsThere (g.V.NodeView.sees c.turn.new.view))) c.in-Some.is c.in_ok-met.ensures.there

pub returns-in_err-next-clause-went : goal.returns-in_err-next-clause-went
returns-in_err-next-clause-went g c = went_on c.search.invariant.went
    (went_on c.in_ok-met.ensures.went (went_moves (g.met.K.KeySource.goes_on c.turn.new.keys) c.in_err-next.ensures.moves c.in_ok-met.ensures.went.stands))

pub returns-in_err-next-clause-answers : goal.returns-in_err-next-clause-answers
returns-in_err-next-clause-answers g c = says_exit c.from_residual-in_err-next.result c.from_residual-in_err-next.ensures.1
    (leaves_memory c.search.invariant.leaves (moves_on _ _ _ c.in_ok-met.ensures.went.moves c.in_err-next.ensures.moves))

pub returns-in-None-next-clause-went : goal.returns-in-None-next-clause-went
returns-in-None-next-clause-went g c = went_on c.search.invariant.went
    (went_on c.in_ok-met.ensures.went (went_moves (g.met.K.KeySource.goes_on c.turn.new.keys) c.in_ok-next.ensures.moves c.in_ok-met.ensures.went.stands))

pub returns-in-None-next-clause-answers : goal.returns-in-None-next-clause-answers
returns-in-None-next-clause-answers g c =
    let path = c.args.path.now in
    let tried = c.search.search.tried in
    let forks = c.search.search.forks in
    let on = leaves_on (λ R turn. turned R path tried turn >>= resumed R path (reverse forks)) c.search.invariant.leaves (λ R. search_turns R path tried forks c.search.at c.search.invariant.within)
    (keeps_turn path c.search.at.steps c.search.at.node) c.in_ok-met.ensures.went.moves (told c.search.invariant.went.stays c.in_ok-met.ensures.answers) in
    let left = leaves_goes (leaves_same (λ R. ap (λ turn. turned R path tried turn >>= resumed R path (reverse forks)) c.in-Some.is) on) c.in_ok-next.ensures.moves (c.in_ok-next.ensures.goes path) in
    leaves_end left (moves_none _ c.in_ok-next.ensures.moves.seen) (λ R. ap (gone R path c.next_place.new.self.tried c.next_place.new.self.forks) c.in-None-next.is)

pub search-smaller : goal.search-smaller
search-smaller g c =
    let before = subst (λ met. IfSome met (TurnIsBefore c.search.at.steps)) c.in-Some.is c.in_ok-met.ensures.before in
    let lighter = subst (IsLighter c.search.search.tried c.search.search.forks c.in-Some.turned c.next_place.new.self.tried c.next_place.new.self.forks) c.in-Some-next.is
    c.in_ok-next.ensures.lighter in
    search_ends c.search.search.tried c.next_place.new.self.tried c.search.at.steps c.search.search.forks c.next_place.new.self.forks c.in-Some.turned c.in-Some-next.next lighter before (omega arith)

pub search-preserved : goal.search-preserved
search-preserved g c =
    let path = c.args.path.now in
    let tried = c.search.search.tried in
    let forks = c.search.search.forks in
    let count = length path.parts in
    let before = subst (λ met. IfSome met (TurnIsBefore c.search.at.steps)) c.in-Some.is c.in_ok-met.ensures.before in
    let within = c.in_ok-next.ensures.within count c.search.invariant.bounded (before_within c.search.at.steps count c.in-Some.turned before c.search.invariant.within) in
    let on = leaves_on (λ R turn. turned R path tried turn >>= resumed R path (reverse forks)) c.search.invariant.leaves (λ R. search_turns R path tried forks c.search.at c.search.invariant.within)
    (keeps_turn path c.search.at.steps c.search.at.node) c.in_ok-met.ensures.went.moves (told c.search.invariant.went.stays c.in_ok-met.ensures.answers) in
    let left = leaves_goes (leaves_same (λ R. ap (λ turn. turned R path tried turn >>= resumed R path (reverse forks)) c.in-Some.is) on) c.in_ok-next.ensures.moves (c.in_ok-next.ensures.goes path) in
    record {
      went = went_on c.search.invariant.went (went_on c.in_ok-met.ensures.went (went_moves (g.met.K.KeySource.goes_on c.turn.new.keys) c.in_ok-next.ensures.moves c.in_ok-met.ensures.went.stands));
      there = subst (FoundIsThere (g.V.NodeView.sees c.next_place.new.view)) c.in-Some-next.is c.in_ok-next.ensures.found;
      forks = c.in_ok-next.ensures.there;
      within = subst (FoundIsWithin count) c.in-Some-next.is within.1;
      bounded = within.0;
      leaves = leaves_same (λ R. ap (gone R path c.next_place.new.self.tried c.next_place.new.self.forks) c.in-Some-next.is) left;
    }
