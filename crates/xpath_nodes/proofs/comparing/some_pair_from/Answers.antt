use Rattle.std.proofs.Common.{◌≡◌, ◌∙◌, ap, sym, subst, Ok, Some, None, Option, List}
use Rattle.doc_model.specs.Answers.{Known}
use Rattle.doc_laws.proofs.Moving.{moves_on, moves_none}
use Rattle.xpath_meaning.specs.Comparisons.{pairs, compare_pair}
use Rattle.xpath_meaning.specs.Outcome.{◌>>=◌, some_holds}
use Rattle.xpath_values.specs.declared.atom.Atom.{Atom as AnyAtom}
use Rattle.key_sources.specs.Going.{Says}
use Rattle.key_sources.proofs.Loops.{says_under}
use Rattle.key_sources.proofs.Saying.{says_same, says_failed, says_then, says_known}
use Rattle.xpath_nodes.specs.Pairs.{none_met, some_meets}
use Rattle.xpath_nodes.proofs.Holding.{all_on}
use Rattle.xpath_nodes.proofs.Pairing.{unless_met, pairs_from, pairs_other, kept_right, keeps_atom, keeps_none_met}
use Rattle.xpath_nodes.proofs.comparing.some_pair_from.Goals as goal

pub returns-in_err-a-clause-answers : goal.returns-in_err-a-clause-answers
returns-in_err-a-clause-answers g c = λ lookups. says_same (λ R. pairs_from c.args.op R c.args.first c.args.others.now c.args.right.now c.requires.some)
    (says_failed (λ R a. none_met c.args.op R a c.args.right.now >>= unless_met
    (some_holds (compare_pair c.args.op R) (pairs c.args.others.now c.args.right.now))) c.from_residual.result c.from_residual.ensures.1 (c.in_err-a.ensures.answers lookups))

pub none_met-requires : goal.none_met-requires
none_met-requires g c = all_on _ _ _ c.in_ok-a.ensures.moves.grows c.requires.right

pub returns-in_err-kept-clause-moves : goal.returns-in_err-kept-clause-moves
returns-in_err-kept-clause-moves g c = moves_on _ _ _ c.in_ok-a.ensures.moves c.in_err-kept.ensures.moves

pub returns-in_err-kept-clause-answers : goal.returns-in_err-kept-clause-answers
returns-in_err-kept-clause-answers g c = λ lookups. says_same (λ R. pairs_from c.args.op R c.args.first c.args.others.now c.args.right.now c.requires.some)
    (says_then (λ R a. none_met c.args.op R a c.args.right.now >>= unless_met (some_holds (compare_pair c.args.op R) (pairs c.args.others.now c.args.right.now)))
    (keeps_atom c.args.first) c.in_ok-a.ensures.moves (c.in_ok-a.ensures.answers lookups) c.in_err-kept.ensures.moves
    (says_failed (λ R left. unless_met
    (some_holds (compare_pair c.args.op R) (pairs c.args.others.now c.args.right.now)) left) c.from_residual-in_err-kept.result c.from_residual-in_err-kept.ensures.1
    (c.in_err-kept.ensures.answers lookups)))

pub some_meets-requires : goal.some_meets-requires
some_meets-requires g c = all_on _ _ _ c.in_ok-kept.ensures.moves.grows (all_on _ _ _ c.in_ok-a.ensures.moves.grows c.requires.others)

pub returns-in-Some-clause-moves : goal.returns-in-Some-clause-moves
returns-in-Some-clause-moves g c = moves_on _ _ _ c.in_ok-a.ensures.moves (moves_on _ _ _ c.in_ok-kept.ensures.moves c.some_meets.ensures.moves)

pub returns-in-Some-clause-answers : goal.returns-in-Some-clause-answers
returns-in-Some-clause-answers g c = λ lookups.
    let kept = subst (λ (k : Option (List AnyAtom)). Says lookups (λ R. none_met c.args.op R c.in_ok-a.a c.args.right.now) (g.V.NodeView.sees c.node_atom.new.view)
    (g.V.NodeView.sees c.none_met.new.view) (Ok k)) c.in-Some.is (c.in_ok-kept.ensures.answers lookups) in
    says_same (λ R. pairs_from c.args.op R c.args.first c.args.others.now c.args.right.now c.requires.some)
    (says_then (λ R a. none_met c.args.op R a c.args.right.now >>= unless_met (some_holds (compare_pair c.args.op R) (pairs c.args.others.now c.args.right.now)))
    (keeps_atom c.args.first) c.in_ok-a.ensures.moves (c.in_ok-a.ensures.answers lookups)
    (moves_on _ _ _ c.in_ok-kept.ensures.moves c.some_meets.ensures.moves)
    (says_then (λ R left. unless_met (some_holds (compare_pair c.args.op R) (pairs c.args.others.now c.args.right.now)) left)
    (keeps_none_met c.args.op c.in_ok-a.a c.args.right.now) c.in_ok-kept.ensures.moves kept c.some_meets.ensures.moves
    (says_under c.some_meets.result (keeps_none_met c.args.op c.in_ok-a.a c.args.right.now) kept c.some_meets.ensures.moves
    (λ R e. pairs_other c.args.op R c.args.others.now c.args.right.now c.in-Some.atoms c.requires.some (kept_right c.args.op R c.in_ok-a.a c.args.right.now c.in-Some.atoms e)
    ∙ ap (λ atoms. some_meets c.args.op R atoms c.args.others.now) (sym c.as_slice.ensures))
    (c.some_meets.ensures.answers lookups))))

pub returns-clause-answers : goal.returns-clause-answers
returns-clause-answers g c = λ lookups. says_same (λ R. pairs_from c.args.op R c.args.first c.args.others.now c.args.right.now c.requires.some)
    (says_then (λ R a. none_met c.args.op R a c.args.right.now >>= unless_met (some_holds (compare_pair c.args.op R) (pairs c.args.others.now c.args.right.now)))
    (keeps_atom c.args.first) c.in_ok-a.ensures.moves (c.in_ok-a.ensures.answers lookups) c.in_ok-kept.ensures.moves
    (says_then (λ R left. unless_met (some_holds (compare_pair c.args.op R) (pairs c.args.others.now c.args.right.now)) left)
    (keeps_none_met c.args.op c.in_ok-a.a c.args.right.now) c.in_ok-kept.ensures.moves (c.in_ok-kept.ensures.answers lookups)
    (moves_none _ c.in_ok-kept.ensures.moves.seen) (says_known (λ R. ap (unless_met (some_holds (compare_pair c.args.op R) (pairs c.args.others.now c.args.right.now))) c.in-None.is))))
