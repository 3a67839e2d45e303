use Rattle.std.proofs.Common.{Ok, Err, subst}
use Rattle.std.proofs.lemmas.Result.{err_from_is_err_and}
use Rattle.xpath_grammar.specs.Productions as rule
use Rattle.xpath_grammar.specs.Reading.{read_part_fails}
use Rattle.xpath_words.specs.Seen.{ReadsSo, most_levels, seen, seen_word}
use Rattle.xpath_words.proofs.Steps.{failed, took_first}
use Rattle.xpath_trees.specs.Patterns.{Added}
use Rattle.xpath_trees.proofs.Lengths.{shorter}
use Rattle.xpath_trees.proofs.PatternSteps.{viewed, pushed_first, paths_go, paths_end, pattern_begins}
use Rattle.xpath_trees.proofs.patterns.alternatives.Goals as goal

pub loop-next-init : goal.loop-next-init
loop-next-init c = λ a h.
    pattern_begins most_levels (seen c.args.words.now) (seen c.in_ok-one.behind.now) c.in_ok-one.one c.in_ok-one.ensures a
    (subst (λ paths. Added paths (ReadsSo most_levels rule.more_patterns (seen c.in_ok-one.behind.now)) a)
    (pushed_first c.new-paths.result c.push.new.self c.in_ok-one.one c.new-paths.ensures c.in_ok-push.ensures.ok) h)

pub returns-in_err-one : goal.returns-in_err-one
returns-in_err-one c =
    let p = err_from_is_err_and c.from_residual.result c.from_residual.ensures.1 in
    rw (p.1, p.2) (failed viewed (ReadsSo most_levels rule.pattern_path (seen c.args.words.now)) viewed (ReadsSo most_levels rule.pattern (seen c.args.words.now)) c.in_err-one.field-0.0
    (λ r h. read_part_fails h) c.in_err-one.ensures)

pub returns-in_err-one-2 : goal.returns-in_err-one-2
returns-in_err-one-2 c =
    let p = err_from_is_err_and c.from_residual-in_err-one-2.result c.from_residual-in_err-one-2.ensures.1 in
    rw (p.1, p.2) (failed viewed (ReadsSo most_levels rule.pattern_path (seen c.in-Some.next.now)) viewed (ReadsSo most_levels rule.pattern (seen c.args.words.now)) c.in_err-one-2.field-0.0
    (λ r h. c.loop-next.invariant (Err r) (took_first c.in-Some.ensures (read_part_fails h))) c.in_err-one-2.ensures)

pub loop-next-smaller : goal.loop-next-smaller
loop-next-smaller c = shorter c.loop-next.rest.now c.in-Some.next.now c.in_ok-one-2.behind.now c.in-Some.ensures c.in_ok-one-2.ensures

pub loop-next-preserved : goal.loop-next-preserved
loop-next-preserved c = λ a h.
    c.loop-next.invariant a (paths_go most_levels (seen c.loop-next.rest.now) (seen c.in-Some.next.now) (seen c.in_ok-one-2.behind.now)
    (seen_word c.in-Some.field-0-0) c.loop-next.paths c.in_ok-one-2.one c.in-Some.ensures c.in_ok-one-2.ensures a
    (subst (λ paths. Added paths (ReadsSo most_levels rule.more_patterns (seen c.in_ok-one-2.behind.now)) a) c.in_ok-push-2.ensures.ok h))

pub returns : goal.returns
returns c = c.loop-next.invariant (Ok (c.loop-next.paths, seen c.loop-next.rest.now)) (paths_end c.loop-next.paths c.in_default.ensures)
