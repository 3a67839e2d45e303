use Rattle.std.proofs.Common.{◌≡◌, length, arith}
use Rattle.std.proofs.lemmas.Result.{err_from_is_err_and}
use Rattle.xpath_grammar.specs.Productions as rule
use Rattle.xpath_grammar.specs.Words.{whole_numbers}
use Rattle.xpath_words.specs.Seen.{most_levels, seen}
use Rattle.xpath_trees.proofs.Lengths.{seen_length}
use Rattle.xpath_trees.proofs.Wholes.{tree_of_all, words_left, refused_whole}
use Rattle.xpath_trees.proofs.patterns.pattern_tree.Goals as goal

pub returns-in_err-tree : goal.returns-in_err-tree
returns-in_err-tree c =
    let p = err_from_is_err_and c.from_residual.result c.from_residual.ensures.1 in
    rw (p.1, p.2) (refused_whole rule.pattern (seen c.args.words.now) c.in_err-tree.field-0.0
    (c.reading_is_exact.ensures whole_numbers most_levels rule.pattern (seen c.args.words.now)) c.in_err-tree.ensures)

pub returns-then-is_empty : goal.returns-then-is_empty
returns-then-is_empty c =
    let e : length c.in_ok-tree.rest.now ≡ 0 = grind (arith, c.if-is_empty.ensures) in
    tree_of_all rule.pattern (seen c.args.words.now) c.in_ok-tree.tree c.in_ok-tree.rest.now
    (c.reading_is_exact.ensures whole_numbers most_levels rule.pattern (seen c.args.words.now)) e c.in_ok-tree.ensures

pub returns-else-is_empty : goal.returns-else-is_empty
returns-else-is_empty c =
    let e : (length c.in_ok-tree.rest.now ≡ 0 → ⊥) = λ e. absurd (grind (arith, e, c.if-is_empty.ensures)) in (
      seen c.in_ok-tree.rest.now,
      words_left rule.pattern (seen c.args.words.now) c.in_ok-tree.tree c.in_ok-tree.rest.now
          (c.reading_is_exact.ensures whole_numbers most_levels rule.pattern (seen c.args.words.now)) e c.in_ok-tree.ensures,
      seen_length c.in_ok-tree.rest.now,
    )
