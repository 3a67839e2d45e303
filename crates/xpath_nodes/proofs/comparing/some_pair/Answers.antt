use Rattle.std.proofs.Common.{◌≡◌, ◌≤◌, ◌<◌, ◌∙◌, ap, sym, subst, length, arith}
use Rattle.xpath_meaning.specs.Comparisons.{pairs, compare_pair}
use Rattle.xpath_meaning.specs.Outcome.{some_holds}
use Rattle.key_sources.proofs.Saying.{says_after, says_known, says_same}
use Rattle.xpath_nodes.specs.Held.{AllJoined}
use Rattle.xpath_nodes.proofs.Holding.{each_at, all_on}
use Rattle.xpath_nodes.proofs.Pairing.{cut_first, no_items, no_pairs}
use Rattle.xpath_nodes.proofs.comparing.some_pair.Goals as goal

pub returns-then-is_empty-clause-answers : goal.returns-then-is_empty-clause-answers
returns-then-is_empty-clause-answers g c = λ lookups. says_known
    (λ R. ap (some_holds (compare_pair c.args.op R)) (ap (pairs c.args.left.now) (no_items c.args.right.now (sym c.is_empty.ensures ∙ c.if-is_empty.true)) ∙ no_pairs c.args.left.now))

pub some_pair_from-requires-clause-first : goal.some_pair_from-requires-clause-first
some_pair_from-requires-clause-first g c =
    let some : 0 < length c.args.left.now = omega arith in
    each_at _ c.args.left.now 0 (all_on _ _ _ c.told.ensures.grows c.requires.left) some

pub some_pair_from-requires-clause-others : goal.some_pair_from-requires-clause-others
some_pair_from-requires-clause-others g c =
    (subst (AllJoined (g.V.NodeView.sees c.told.new.self).steps) (cut_first c.args.left.now c.in-len1-up.len_at_least) (all_on _ _ _ c.told.ensures.grows c.requires.left)).1

pub some_pair_from-requires-clause-right : goal.some_pair_from-requires-clause-right
some_pair_from-requires-clause-right g c = all_on _ _ _ c.told.ensures.grows c.requires.right

pub returns-in-len1-up-clause-answers : goal.returns-in-len1-up-clause-answers
returns-in-len1-up-clause-answers g c =
    λ lookups. says_same (λ R. ap (λ left. some_holds (compare_pair c.args.op R) (pairs left c.args.right.now)) (cut_first c.args.left.now c.in-len1-up.len_at_least))
    (says_after c.told.ensures (c.some_pair_from.ensures.answers lookups))
