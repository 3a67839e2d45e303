use Rattle.std.proofs.Common.{Ok, subst, sym}
use Rattle.std.proofs.lemmas.Result.{err_from_is_err_and}
use Rattle.xpath_syntax.specs.declared.pattern.PatternStart.TheVariants as start
use Rattle.xpath_grammar.specs.Words.{whole_numbers}
use Rattle.xpath_grammar.specs.Productions as rule
use Rattle.xpath_grammar.specs.Grammar.{pattern_path_of}
use Rattle.xpath_grammar.specs.Reading.{Reads, read_nothing, read_wrong, read_parts, read_part_fails}
use Rattle.xpath_words.specs.Seen.{ReadsSo, most_levels, seen}
use Rattle.xpath_words.proofs.Steps.{failed, missing, took}
use Rattle.xpath_trees.specs.Patterns.{Added, behind_id}
use Rattle.xpath_trees.proofs.PatternSteps.{viewed, all_added}
use Rattle.xpath_trees.proofs.patterns.id.Goals as goal

pub returns-in_err-rest : goal.returns-in_err-rest
returns-in_err-rest c =
    let p = err_from_is_err_and c.from_residual.result c.from_residual.ensures.1 in
    rw (p.1, p.2) (missing viewed (Reads whole_numbers most_levels rule.pattern_path behind_id (seen c.args.rest.now)) (seen c.args.rest.now) c.in_err-rest.field-0.0 c.in_err-rest.ensures.1
    (read_wrong c.in_err-rest.ensures.0))

pub returns-in_err-value : goal.returns-in_err-value
returns-in_err-value c =
    let p = err_from_is_err_and c.from_residual-in_err-value.result c.from_residual-in_err-value.ensures.1 in
    rw (p.1, p.2) (missing viewed (Reads whole_numbers most_levels rule.pattern_path behind_id (seen c.args.rest.now)) (seen c.in_ok-rest.rest.now) c.in_err-value.field-0.0 c.in_err-value.ensures.1
    (took c.in_ok-rest.ensures (read_wrong c.in_err-value.ensures.0)))

pub returns-in_err-rest-2 : goal.returns-in_err-rest-2
returns-in_err-rest-2 c =
    let p = err_from_is_err_and c.from_residual-in_err-rest-2.result c.from_residual-in_err-rest-2.ensures.1 in
    rw (p.1, p.2) (missing viewed (Reads whole_numbers most_levels rule.pattern_path behind_id (seen c.args.rest.now)) (seen c.in_ok-value.rest.now) c.in_err-rest-2.field-0.0 c.in_err-rest-2.ensures.1
    (took c.in_ok-rest.ensures (took c.in_ok-value.ensures (read_wrong c.in_err-rest-2.ensures.0))))

pub returns-in_err-parts : goal.returns-in_err-parts
returns-in_err-parts c =
    let p = err_from_is_err_and c.from_residual-in_err-parts.result c.from_residual-in_err-parts.ensures.1 in
    rw (p.1, p.2) (failed viewed (Added c.new.result (ReadsSo most_levels rule.more_pattern_steps (seen c.in_ok-rest-2.rest.now))) viewed
    (Reads whole_numbers most_levels rule.pattern_path behind_id (seen c.args.rest.now)) c.in_err-parts.field-0.0
    (λ r h. took c.in_ok-rest.ensures (took c.in_ok-value.ensures (took c.in_ok-rest-2.ensures (read_part_fails h)))) c.in_err-parts.ensures)

pub returns : goal.returns
returns c =
    subst (λ value. Reads whole_numbers most_levels rule.pattern_path behind_id (seen c.args.rest.now)
    (Ok (pattern_path_of (start.Id value) c.in_ok-parts.parts, seen c.in_ok-parts.rest.now))) (sym c.in_ok-literal.ensures)
    (took c.in_ok-rest.ensures (took c.in_ok-value.ensures
    (took c.in_ok-rest-2.ensures (read_parts (all_added (ReadsSo most_levels rule.more_pattern_steps (seen c.in_ok-rest-2.rest.now)) c.new.result
    c.in_ok-parts.parts (seen c.in_ok-parts.rest.now) c.new.ensures c.in_ok-parts.ensures) read_nothing))))
