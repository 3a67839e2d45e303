use Rattle.std.proofs.Common.{◌+◌, refl, ap, sym, subst, drop, get_or}
use Rattle.doc_laws.proofs.Moving.{moves_none}
use Rattle.key_sources.proofs.Loops.{leaves_start, leaves_same, leaves_on, leaves_stops, leaves_end, leaves_memory}
use Rattle.key_sources.proofs.Saying.{went_moves, went_on, says_exit}
use Rattle.xpath_laws.specs.Sound.{Each, IsThere}
use Rattle.xpath_meaning.specs.Evaluation.{meant}
use Rattle.xpath_meaning.specs.Match.{says}
use Rattle.xpath_nodes.proofs.Holding.{each_at, all_there_on}
use Rattle.patterns.proofs.Beside.{kept_if_each}
use Rattle.patterns.proofs.Keeping.{keeping, keeping_starts, keeping_turns, keeping_ends, kept_with, kept_each}
use Rattle.patterns.proofs.Lasting.{keeps_says, told}
use Rattle.patterns.proofs.siblings.kept_by.Goals as goal

pub loop-i-init : goal.loop-i-init
loop-i-init g c =
    let t = g.V.NodeView.sees c.told.new.self in
    record {
      went = went_moves (g.met.K.KeySource.goes_on c.args.keys.now) c.told.ensures c.requires.stands;
      nodes = all_there_on _ _ c.args.nodes.now c.told.ensures c.requires.nodes;
      kept = subst (Each (IsThere t.rules t.steps)) (sym c.new-kept.ensures) tt;
      leaves = leaves_start c.told.ensures (λ R. keeping_starts (says R c.args.size (meant c.args.predicate.now)) c.args.nodes.now c.new-kept.result c.new-kept.ensures);
    }

pub says-requires-clause-stands : goal.says-requires-clause-stands
says-requires-clause-stands g c = c.loop-i.invariant.went.stands

pub says-requires-clause-there : goal.says-requires-clause-there
says-requires-clause-there g c = each_at _ _ _ c.loop-i.invariant.nodes c.loop-i-test.true

pub returns-in_err-here-clause-went : goal.returns-in_err-here-clause-went
returns-in_err-here-clause-went g c = went_on c.loop-i.invariant.went c.in_err-here.ensures.went

pub returns-in_err-here-clause-answers : goal.returns-in_err-here-clause-answers
returns-in_err-here-clause-answers g c = says_exit c.from_residual.result c.from_residual.ensures.1
    (leaves_stops (λ R here. keeping (c.loop-i.i + 1 + 1) (says R c.args.size (meant c.args.predicate.now)) (drop (c.loop-i.i + 1) c.args.nodes.now)
    (kept_with here (get_or c.args.nodes.now c.loop-i.i 0) c.loop-i.kept)) c.loop-i.invariant.leaves
    (λ R. keeping_turns (says R c.args.size (meant c.args.predicate.now)) c.args.nodes.now c.loop-i.i (c.loop-i.i + 1) c.loop-i.kept c.loop-i-test.true refl) c.in_err-here.ensures.went.moves
    (told c.loop-i.invariant.went.stays c.in_err-here.ensures.answers))

pub returns-in_err-keep_if-clause-went : goal.returns-in_err-keep_if-clause-went
returns-in_err-keep_if-clause-went g c = went_on c.loop-i.invariant.went c.in_ok-here.ensures.went

pub returns-in_err-keep_if-clause-answers : goal.returns-in_err-keep_if-clause-answers
returns-in_err-keep_if-clause-answers g c =
    says_exit c.from_residual-in_err-keep_if.result c.from_residual-in_err-keep_if.ensures.1 (leaves_memory c.loop-i.invariant.leaves c.in_ok-here.ensures.went.moves)

pub loop-i-preserved : goal.loop-i-preserved
loop-i-preserved g c =
    let t = g.V.NodeView.sees c.says.new.view in
    let nodes = all_there_on _ _ c.args.nodes.now c.in_ok-here.ensures.went.moves c.loop-i.invariant.nodes in
    let kept = all_there_on _ _ c.loop-i.kept c.in_ok-here.ensures.went.moves c.loop-i.invariant.kept in
    let node = each_at _ _ _ nodes c.loop-i-test.true in
    record {
      went = went_on c.loop-i.invariant.went c.in_ok-here.ensures.went;
      nodes = nodes;
      kept = subst (Each (IsThere t.rules t.steps)) (sym c.in_ok-keep_if.ensures)
          (kept_if_each (IsThere t.rules t.steps) c.in_ok-here.here c.loop-i.kept (get_or c.args.nodes.now c.loop-i.i 0)
          (kept_each (IsThere t.rules t.steps) c.loop-i.kept (get_or c.args.nodes.now c.loop-i.i 0) kept node) kept);
      leaves = leaves_same (λ R. ap (keeping (c.loop-i.i + 1 + 1) (says R c.args.size (meant c.args.predicate.now)) (drop (c.loop-i.i + 1) c.args.nodes.now)) (sym c.in_ok-keep_if.ensures))
          (leaves_on (λ R here. keeping (c.loop-i.i + 1 + 1) (says R c.args.size (meant c.args.predicate.now)) (drop (c.loop-i.i + 1) c.args.nodes.now)
          (kept_with here (get_or c.args.nodes.now c.loop-i.i 0) c.loop-i.kept)) c.loop-i.invariant.leaves
          (λ R. keeping_turns (says R c.args.size (meant c.args.predicate.now)) c.args.nodes.now c.loop-i.i (c.loop-i.i + 1) c.loop-i.kept c.loop-i-test.true refl)
          (keeps_says c.args.size c.args.predicate.now (c.loop-i.i + 1) (get_or c.args.nodes.now c.loop-i.i 0)) c.in_ok-here.ensures.went.moves
          (told c.loop-i.invariant.went.stays c.in_ok-here.ensures.answers));
    }

pub returns-clause-went : goal.returns-clause-went
returns-clause-went g c = c.loop-i.invariant.went

pub returns-clause-answers : goal.returns-clause-answers
returns-clause-answers g c = leaves_end c.loop-i.invariant.leaves (moves_none _ c.loop-i.invariant.went.moves.seen)
    (λ R. keeping_ends (says R c.args.size (meant c.args.predicate.now)) c.args.nodes.now c.loop-i.i (c.loop-i.i + 1) c.loop-i.kept c.loop-i-test.false)
