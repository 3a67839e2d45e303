use Rattle.std.proofs.Common.{◌≡◌, sym, ap, ◌∙◌, subst, zero, suc, ◌-◌, ◌≤◌, ◌<◌, [], ◌∷◌, Some, None, Ok, Err, true, false, arith}
use Rattle.std.proofs.lemmas.Result.{err_from_is_err_and}
use Rattle.xpath_syntax.specs.declared.expression.AxisName.TheVariants as axis
use Rattle.xpath_syntax.specs.declared.expression.Expr.TheVariants as expr
use Rattle.xpath_grammar.specs.declared.sign.Precedence.TheVariants as precedence
use Rattle.xpath_grammar.specs.declared.sign.Cause.TheVariants as cause
use Rattle.xpath_grammar.specs.Words.{whole_numbers}
use Rattle.xpath_grammar.specs.Signs.{place, precedence_of, tighter, begins_step, axis_of}
use Rattle.xpath_grammar.specs.Productions as rule
use Rattle.xpath_grammar.specs.Grammar.{path_of, filtered}
use Rattle.xpath_grammar.specs.Reading.{Starts, Reads, read_nothing, read_wrong, read_parts, read_part_fails, read_second, read_no_level}
use Rattle.xpath_words.specs.Seen.{ReadsSo, atom, led, led_steps, location_path, seen, seen_word}
use Rattle.xpath_words.proofs.Steps.{took, took_first, took_level, level_failed, too_deep}
use Rattle.xpath_trees.proofs.Lengths.{seen_length, shorter, shorter_closed, shorter_slashed}
use Rattle.xpath_trees.proofs.ByGrammar.{at_tighter, grouped_goes, grouped_fails, more_goes, more_fails, more_ends, plain_unary, tail_none, tail_fails}
use Rattle.xpath_trees.proofs.ByGrammar.{tail_goes, filter_goes, filter_tail_fails, filter_predicates_fail, filter_fails, relative_goes, relative_fails}
use Rattle.xpath_trees.proofs.ByGrammar.{root_alone, absolute_goes, absolute_fails, add, add_more, arguments_none, arguments_fail, arguments_go}
use Rattle.xpath_trees.proofs.ByGrammar.{more_arguments_go, more_arguments_fail, more_arguments_end, predicates_go, predicate_open, predicate_fails}
use Rattle.xpath_trees.proofs.ByGrammar.{predicates_end, steps_go, steps_fail, on_axis, more_steps_go, more_steps_end}
use Rattle.xpath_trees.proofs.Climbing.{Climbs, whole, left_fails, ends, goes, right_fails, of_one}
use Rattle.xpath_trees.proofs.Exits.{passed_on, exits, misses, same_level, added, at_end, first_added, never}
use Rattle.xpath_trees.proofs.expressions.+reading.Goals as goal
use Rattle.xpath_trees.proofs.expressions.+reading.Goals.{location-else-not-deep-via-then-not-deep+else-not-comes, location-else-not-deep-via-else-not-deep}

pub arguments-returns-then-not-comes : goal.arguments-returns-then-not-comes
arguments-returns-then-not-comes t c = subst (λ xs. ReadsSo c.args.depth rule.arguments (seen c.args.words.now) (Ok (xs, seen c.args.words.now)))
    (sym c.new.ensures) (arguments_none c.args.depth (seen c.args.words.now) c.if-not-comes.ensures)

pub arguments-returns-in_err-one : goal.arguments-returns-in_err-one
arguments-returns-in_err-one t c = let p = err_from_is_err_and c.from_residual.result c.from_residual.ensures.1 in
    exits (ReadsSo c.args.depth (rule.level precedence.Or) (seen c.args.words.now)) (ReadsSo c.args.depth rule.arguments (seen c.args.words.now)) p.1 p.2
    (λ r h. arguments_fail c.args.depth (seen c.args.words.now) r c.if-not-comes.ensures h) c.in_err-one.ensures

pub arguments-loop-next-init : goal.arguments-loop-next-init
arguments-loop-next-init t c = λ a m.
    let one = c.in_ok-one.one in
    subst (λ xs. ReadsSo c.args.depth rule.arguments (seen c.args.words.now) (add xs a)) (sym (first_added c.in_ok-push.ensures.ok c.new-args.ensures))
    (arguments_go c.args.depth (seen c.args.words.now) (seen c.in_ok-one.behind.now) one a c.if-not-comes.ensures c.in_ok-one.ensures m)

pub arguments-returns-in_err-one-2 : goal.arguments-returns-in_err-one-2
arguments-returns-in_err-one-2 t c = let p = err_from_is_err_and c.from_residual-in_err-one-2.result c.from_residual-in_err-one-2.ensures.1 in
    let rest = seen c.loop-next.rest.now in let next = seen c.in-Some.next.now in
    exits (ReadsSo c.args.depth (rule.level precedence.Or) next) (ReadsSo c.args.depth rule.arguments (seen c.args.words.now)) p.1 p.2
    (λ r h. c.loop-next.invariant (Err r) (more_arguments_fail c.args.depth rest next (seen_word c.in-Some.field-0-0) r c.in-Some.ensures h)) c.in_err-one-2.ensures

pub arguments-loop-next-smaller : goal.arguments-loop-next-smaller
arguments-loop-next-smaller t c = shorter c.loop-next.rest.now c.in-Some.next.now c.in_ok-one-2.behind.now c.in-Some.ensures c.in_ok-one-2.ensures

pub arguments-loop-next-preserved : goal.arguments-loop-next-preserved
arguments-loop-next-preserved t c = λ a m.
    let one = c.in_ok-one-2.one in
    added (ReadsSo c.args.depth rule.arguments (seen c.args.words.now)) c.push-in-Some.new.self c.loop-next.args (one ∷ []) a c.in_ok-push-2.ensures.ok
    (subst (ReadsSo c.args.depth rule.arguments (seen c.args.words.now)) (sym (add_more c.loop-next.args (one ∷ []) a))
    (c.loop-next.invariant (add (one ∷ []) a) (more_arguments_go c.args.depth (seen c.loop-next.rest.now) (seen c.in-Some.next.now)
    (seen c.in_ok-one-2.behind.now) (seen_word c.in-Some.field-0-0) one a c.in-Some.ensures c.in_ok-one-2.ensures m)))

pub arguments-returns : goal.arguments-returns
arguments-returns t c =
    at_end (ReadsSo c.args.depth rule.arguments (seen c.args.words.now)) c.loop-next.args (seen c.loop-next.rest.now)
    (c.loop-next.invariant (Ok ([], seen c.loop-next.rest.now)) (more_arguments_end c.args.depth (seen c.loop-next.rest.now) c.in_default.ensures))

pub climb-returns-in_err-left : goal.climb-returns-in_err-left
climb-returns-in_err-left t c = let p = err_from_is_err_and c.from_residual.result c.from_residual.ensures.1 in
    exits (ReadsSo c.args.depth (rule.level precedence.Unary) (seen c.args.words.now)) (ReadsSo c.args.depth (rule.level c.args.p) (seen c.args.words.now)) p.1 p.2
    (λ r h. left_fails c.args.depth c.args.p (seen c.args.words.now) r c.requires h) c.in_err-left.ensures

pub climb-loop-op-init : goal.climb-loop-op-init
climb-loop-op-init t c = (λ a m. whole {q = precedence.Multiplicative} (omega arith) c.in_ok-left.ensures m, omega arith, omega (arith, c.requires))

pub climb-returns-in_err-right : goal.climb-returns-in_err-right
climb-returns-in_err-right t c = let p = err_from_is_err_and c.from_residual-in_err-right.result c.from_residual-in_err-right.ensures.1 in
    let rest = seen c.loop-op.rest.now in let next = seen c.in-Some.next.now in let op = c.in-Some.op in let comes = c.in-Some.ensures in
    exits (ReadsSo c.args.depth (rule.level c.tighter.result) next) (ReadsSo c.args.depth (rule.level c.args.p) (seen c.args.words.now)) p.1 p.2
    (λ e h. c.loop-op.invariant.0 (Err e) (right_fails c.args.depth c.loop-op.from (precedence_of op) c.args.p c.loop-op.left rest next op e comes.0.0 comes.0.1 comes.1
    (at_tighter c.args.depth (precedence_of op) c.tighter.result next (Err e) (c.tighter.ensures ∙ ap tighter c.precedence_of-from.ensures) h))) c.in_err-right.ensures

pub climb-loop-op-smaller : goal.climb-loop-op-smaller
climb-loop-op-smaller t c = shorter c.loop-op.rest.now c.in-Some.next.now c.in_ok-right.behind.now c.in-Some.ensures.1.comes c.in_ok-right.ensures

pub climb-loop-op-preserved : goal.climb-loop-op-preserved
climb-loop-op-preserved t c =
    let rest = seen c.loop-op.rest.now in let next = seen c.in-Some.next.now in let behind = seen c.in_ok-right.behind.now in let right = c.in_ok-right.right in
    let op = c.in-Some.op in let comes = c.in-Some.ensures in let joined = c.in_ok-left-2.left in let is = c.precedence_of-from.ensures in (
      λ a m. c.loop-op.invariant.0 a (goes c.loop-op.from c.loop-op.left right joined rest next behind op comes.0.0 comes.1
          (at_tighter c.args.depth (precedence_of op) c.tighter.result next (Ok (right, behind)) (c.tighter.ensures ∙ ap tighter is) c.in_ok-right.ensures)
          c.in_ok-left-2.ensures (subst (λ q. Climbs c.args.depth q c.args.p joined behind a) is m)),
      subst (λ q. place precedence.Unary < place q) (sym is) (omega (arith, c.loop-op.invariant.1, comes.0.0)),
      subst (λ q. place q ≤ place c.args.p) (sym is) comes.0.1,
    )

pub climb-returns : goal.climb-returns
climb-returns t c =
    let rest = seen c.loop-op.rest.now in
    c.loop-op.invariant.0 (Ok (c.loop-op.left, rest)) (ends c.args.depth c.loop-op.from c.args.p c.loop-op.left rest c.loop-op.invariant.2 c.in_default.ensures)

pub level-returns-in-Path : goal.level-returns-in-Path
level-returns-in-Path t c = same_level c.args.depth c.args.p precedence.Path (seen c.args.words.now) c.operand.result c.in-Path.is c.operand.ensures

pub level-returns-in-Unary : goal.level-returns-in-Unary
level-returns-in-Unary t c = same_level c.args.depth c.args.p precedence.Unary (seen c.args.words.now) c.unary.result c.in-Unary.is c.unary.ensures

pub level-returns-in-Union : goal.level-returns-in-Union
level-returns-in-Union t c = same_level c.args.depth c.args.p precedence.Union (seen c.args.words.now) c.union.result c.in-Union.is c.union.ensures

pub location-returns-in_err-parts : goal.location-returns-in_err-parts
location-returns-in_err-parts t c = let p = err_from_is_err_and c.from_residual.result c.from_residual.ensures.1 in
    exits (Reads whole_numbers c.args.depth rule.more_steps (led_steps false) (seen c.args.words.now))
    (Reads whole_numbers c.args.depth (rule.level precedence.Path) location_path (seen c.args.words.now)) p.1 p.2
    (λ r h. relative_fails c.args.depth (seen c.args.words.now) r c.in_default.ensures.0 c.in_default.ensures.1 h) c.in_err-parts.ensures

pub location-returns-in_default : goal.location-returns-in_default
location-returns-in_default t c =
    let rest = seen c.in_ok-parts.behind.now in
    subst (λ p. Reads whole_numbers c.args.depth (rule.level precedence.Path) location_path (seen c.args.words.now) (Ok (expr.Path p, rest))) (sym c.path.ensures)
    (relative_goes c.args.depth (seen c.args.words.now) rest c.in_ok-parts.parts c.in_default.ensures.0 c.in_default.ensures.1 c.in_ok-parts.ensures)

pub location-returns-then-not-comes : goal.location-returns-then-not-comes
location-returns-then-not-comes t c =
    let next = seen c.in-Some.next.now in
    subst (λ p. Reads whole_numbers c.args.depth (rule.level precedence.Path) location_path (seen c.args.words.now) (Ok (expr.Path p, next)))
    (sym (c.path-then-not-comes.ensures ∙ ap (path_of true) c.new.ensures))
    (root_alone c.args.depth c.in-Some.deep (seen c.args.words.now) next c.if-not-deep.true c.in-Some.ensures c.if-not-comes.ensures)

pub location-returns-in_err-parts-2 : goal.location-returns-in_err-parts-2
location-returns-in_err-parts-2 t c = let p = err_from_is_err_and c.from_residual-in_err-parts-2.result c.from_residual-in_err-parts-2.ensures.1 in
    let begins : c.in-Some.deep ≡ false → Starts begins_step (seen c.in-Some.next.now) =
    elim c.else-not-deep.branch [
      | location-else-not-deep-via-then-not-deep+else-not-comes w ↦ λ e. w.if-not-comes.ensures
      | location-else-not-deep-via-else-not-deep w ↦ λ e. never w.if-not-deep.false e
    ] in
    let next = seen c.in-Some.next.now in
    exits (Reads whole_numbers c.args.depth rule.more_steps (led_steps c.in-Some.deep) next)
    (Reads whole_numbers c.args.depth (rule.level precedence.Path) location_path (seen c.args.words.now)) p.1 p.2
    (λ r h. absolute_fails c.args.depth c.in-Some.deep (seen c.args.words.now) next r c.in-Some.ensures begins h) c.in_err-parts-2.ensures

pub location-returns : goal.location-returns
location-returns t c =
    let begins : c.in-Some.deep ≡ false → Starts begins_step (seen c.in-Some.next.now) =
    elim c.else-not-deep.branch [
      | location-else-not-deep-via-then-not-deep+else-not-comes w ↦ λ e. w.if-not-comes.ensures
      | location-else-not-deep-via-else-not-deep w ↦ λ e. never w.if-not-deep.false e
    ] in
    let next = seen c.in-Some.next.now in let rest = seen c.in_ok-parts-2.behind.now in
    subst (λ p. Reads whole_numbers c.args.depth (rule.level precedence.Path) location_path (seen c.args.words.now) (Ok (expr.Path p, rest))) (sym c.path-2.ensures)
    (absolute_goes c.args.depth c.in-Some.deep (seen c.args.words.now) next rest c.in_ok-parts-2.parts c.in-Some.ensures begins c.in_ok-parts-2.ensures)

pub operand-returns-then-not-comes : goal.operand-returns-then-not-comes
operand-returns-then-not-comes t c = passed_on (Reads whole_numbers c.args.depth (rule.level precedence.Path) location_path (seen c.args.words.now))
    (ReadsSo c.args.depth (rule.level precedence.Path) (seen c.args.words.now)) c.location.result (λ a h. read_second c.if-not-comes.ensures h) c.location.ensures

pub operand-returns-in_err-inner : goal.operand-returns-in_err-inner
operand-returns-in_err-inner t c = let p = err_from_is_err_and c.from_residual.result c.from_residual.ensures.1 in
    exits (ReadsSo c.args.depth rule.primary (seen c.args.words.now)) (ReadsSo c.args.depth (rule.level precedence.Path) (seen c.args.words.now)) p.1 p.2
    (λ r h. filter_fails c.args.depth (seen c.args.words.now) r c.if-not-comes.ensures h) c.in_err-inner.ensures

pub operand-returns-in_err-filters : goal.operand-returns-in_err-filters
operand-returns-in_err-filters t c = let p = err_from_is_err_and c.from_residual-in_err-filters.result c.from_residual-in_err-filters.ensures.1 in
    exits (ReadsSo c.args.depth rule.predicates (seen c.in_ok-inner.behind.now)) (ReadsSo c.args.depth (rule.level precedence.Path) (seen c.args.words.now)) p.1 p.2
    (λ r h. filter_predicates_fail c.args.depth (seen c.args.words.now) (seen c.in_ok-inner.behind.now) c.in_ok-inner.inner r c.if-not-comes.ensures c.in_ok-inner.ensures h) c.in_err-filters.ensures

pub operand-returns-in_default : goal.operand-returns-in_default
operand-returns-in_default t c =
    let us = seen c.in_ok-inner.behind.now in let vs = seen c.in_ok-filters.behind.now in
    subst (λ x. ReadsSo c.args.depth (rule.level precedence.Path) (seen c.args.words.now) (Ok (x, vs))) (sym c.in_ok-filtered.ensures)
    (filter_goes c.args.depth (seen c.args.words.now) us vs vs c.in_ok-inner.inner c.in_ok-filters.filters None c.if-not-comes.ensures c.in_ok-inner.ensures
    c.in_ok-filters.ensures (tail_none c.args.depth vs c.in_default.ensures.0 c.in_default.ensures.1))

pub operand-returns-in_err-parts : goal.operand-returns-in_err-parts
operand-returns-in_err-parts t c = let p = err_from_is_err_and c.from_residual-in_err-parts.result c.from_residual-in_err-parts.ensures.1 in
    let us = seen c.in_ok-inner.behind.now in let vs = seen c.in_ok-filters.behind.now in let next = seen c.in-Some.next.now in
    exits (Reads whole_numbers c.args.depth rule.more_steps (led_steps c.in-Some.deep) next) (ReadsSo c.args.depth (rule.level precedence.Path) (seen c.args.words.now)) p.1 p.2
    (λ r h. filter_tail_fails c.args.depth (seen c.args.words.now) us vs c.in_ok-inner.inner c.in_ok-filters.filters r c.if-not-comes.ensures
    c.in_ok-inner.ensures c.in_ok-filters.ensures (tail_fails c.args.depth c.in-Some.deep vs next r c.in-Some.ensures h)) c.in_err-parts.ensures

pub operand-returns : goal.operand-returns
operand-returns t c =
    let us = seen c.in_ok-inner.behind.now in let vs = seen c.in_ok-filters.behind.now in let next = seen c.in-Some.next.now in
    let rest = seen c.in_ok-parts.behind.now in let parts = c.in_ok-parts.parts in
    subst (λ x. ReadsSo c.args.depth (rule.level precedence.Path) (seen c.args.words.now) (Ok (x, rest))) (sym (c.in_ok-filtered-2.ensures
    ∙ ap (λ p. filtered c.in_ok-inner.inner c.in_ok-filters.filters (Some p)) c.path.ensures))
    (filter_goes c.args.depth (seen c.args.words.now) us vs rest c.in_ok-inner.inner c.in_ok-filters.filters (Some (path_of false parts))
    c.if-not-comes.ensures c.in_ok-inner.ensures c.in_ok-filters.ensures
    (tail_goes c.args.depth c.in-Some.deep vs next rest parts c.in-Some.ensures c.in_ok-parts.ensures))

pub predicates-returns-in_err-one : goal.predicates-returns-in_err-one
predicates-returns-in_err-one t c = let p = err_from_is_err_and c.from_residual.result c.from_residual.ensures.1 in
    let s : suc (c.args.depth - 1) ≡ c.args.depth = grind (arith, c.if-depth-eq0.false) in
    let rest = seen c.loop-next.rest.now in let next = seen c.in-Some.next.now in
    exits (ReadsSo (c.args.depth - 1) (rule.level precedence.Or) next) (ReadsSo c.args.depth rule.predicates (seen c.args.words.now)) p.1 p.2
    (λ r h. c.loop-next.invariant (Err r) (predicate_fails c.args.depth (c.args.depth - 1) rest next (seen_word c.in-Some.field-0-0) r s c.in-Some.ensures h)) c.in_err-one.ensures

pub predicates-returns-in_err-behind : goal.predicates-returns-in_err-behind
predicates-returns-in_err-behind t c = let p = err_from_is_err_and c.from_residual-in_err-behind.result c.from_residual-in_err-behind.ensures.1 in
    let s : suc (c.args.depth - 1) ≡ c.args.depth = grind (arith, c.if-depth-eq0.false) in
    let rest = seen c.loop-next.rest.now in let next = seen c.in-Some.next.now in let us = seen c.in_ok-one.behind.now in
    misses (ReadsSo c.args.depth rule.predicates (seen c.args.words.now)) us p.1 p.2 c.in_err-behind.ensures.1
    (c.loop-next.invariant (Err (cause.Syntax, us))
    (predicate_open c.args.depth (c.args.depth - 1) rest next us (seen_word c.in-Some.field-0-0) c.in_ok-one.one s c.in-Some.ensures c.in_ok-one.ensures
    c.in_err-behind.ensures.0))

pub predicates-loop-next-smaller : goal.predicates-loop-next-smaller
predicates-loop-next-smaller t c = shorter_closed c.loop-next.rest.now c.in-Some.next.now c.in_ok-one.behind.now c.in_ok-behind.behind.now c.in-Some.ensures c.in_ok-one.ensures c.in_ok-behind.ensures

pub predicates-loop-next-preserved : goal.predicates-loop-next-preserved
predicates-loop-next-preserved t c = λ a m.
    let s : suc (c.args.depth - 1) ≡ c.args.depth = grind (arith, c.if-depth-eq0.false) in
    let rest = seen c.loop-next.rest.now in let next = seen c.in-Some.next.now in let us = seen c.in_ok-one.behind.now in let behind = seen c.in_ok-behind.behind.now in let one = c.in_ok-one.one in
    added (ReadsSo c.args.depth rule.predicates (seen c.args.words.now)) c.push.new.self c.loop-next.all (one ∷ []) a c.in_ok-push.ensures.ok
    (subst (ReadsSo c.args.depth rule.predicates (seen c.args.words.now)) (sym (add_more c.loop-next.all (one ∷ []) a))
    (c.loop-next.invariant (add (one ∷ []) a) (predicates_go c.args.depth (c.args.depth - 1) rest next us behind (seen_word c.in-Some.field-0-0)
    (seen_word c.in_ok-behind.field-0-0) one a s c.in-Some.ensures c.in_ok-one.ensures c.in_ok-behind.ensures m)))

pub predicates-returns : goal.predicates-returns
predicates-returns t c =
    let rest = seen c.loop-next.rest.now in
    at_end (ReadsSo c.args.depth rule.predicates (seen c.args.words.now)) c.loop-next.all rest (c.loop-next.invariant (Ok ([], rest)) (predicates_end c.args.depth rest c.in_default.ensures))

pub primary-returns-then-depth-eq0 : goal.primary-returns-then-depth-eq0
primary-returns-then-depth-eq0 t c = let z : c.args.depth ≡ zero = grind (arith, c.if-depth-eq0.true) in (seen c.args.words.now, too_deep z c.in-Some.ensures, seen_length c.args.words.now)

pub primary-returns-in_err-inner : goal.primary-returns-in_err-inner
primary-returns-in_err-inner t c = let p = err_from_is_err_and c.from_residual.result c.from_residual.ensures.1 in
    let s : suc (c.args.depth - 1) ≡ c.args.depth = grind (arith, c.if-depth-eq0.false) in
    exits (ReadsSo (c.args.depth - 1) (rule.level precedence.Or) (seen c.in-Some.rest.now)) (ReadsSo c.args.depth rule.primary (seen c.args.words.now)) p.1
    p.2 (λ r h. level_failed s c.in-Some.ensures h) c.in_err-inner.ensures

pub primary-returns-in_err-behind : goal.primary-returns-in_err-behind
primary-returns-in_err-behind t c = let p = err_from_is_err_and c.from_residual-in_err-behind.result c.from_residual-in_err-behind.ensures.1 in
    let s : suc (c.args.depth - 1) ≡ c.args.depth = grind (arith, c.if-depth-eq0.false) in
    misses (ReadsSo c.args.depth rule.primary (seen c.args.words.now)) (seen c.in_ok-inner.behind.now) p.1 p.2 c.in_err-behind.ensures.1
    (took_level s c.in-Some.ensures c.in_ok-inner.ensures (read_wrong c.in_err-behind.ensures.0))

pub primary-returns-in-Some : goal.primary-returns-in-Some
primary-returns-in-Some t c = let s : suc (c.args.depth - 1) ≡ c.args.depth = grind (arith, c.if-depth-eq0.false) in
    took_level s c.in-Some.ensures c.in_ok-inner.ensures (took c.in_ok-behind.ensures read_nothing)

pub primary-returns-in_default-after : goal.primary-returns-in_default-after
primary-returns-in_default-after t c =
    passed_on (Reads whole_numbers c.args.depth rule.primary atom (seen c.args.words.now)) (ReadsSo c.args.depth rule.primary (seen c.args.words.now))
    c.atom.result (λ a h. read_no_level c.in_default.ensures (read_no_level c.in_default-after.ensures h)) (c.atom.ensures c.args.depth)

pub primary-returns-then-depth-eq0-2 : goal.primary-returns-then-depth-eq0-2
primary-returns-then-depth-eq0-2 t c = let z : c.args.depth ≡ zero =
    grind (arith, c.if-depth-eq0-2.true) in (seen c.args.words.now, read_no_level c.in_default.ensures (too_deep z c.in-Some-after.ensures), seen_length c.args.words.now)

pub primary-returns-in_err-inner-2 : goal.primary-returns-in_err-inner-2
primary-returns-in_err-inner-2 t c = let p = err_from_is_err_and c.from_residual-in_err-inner-2.result c.from_residual-in_err-inner-2.ensures.1 in
    let s : suc (c.args.depth - 1) ≡ c.args.depth = grind (arith, c.if-depth-eq0-2.false) in
    misses (ReadsSo c.args.depth rule.primary (seen c.args.words.now)) (seen c.in-Some-after.rest.now) p.1 p.2 c.in_err-inner-2.ensures.1
    (read_no_level c.in_default.ensures (level_failed s c.in-Some-after.ensures (read_wrong c.in_err-inner-2.ensures.0)))

pub primary-returns-in_err-args : goal.primary-returns-in_err-args
primary-returns-in_err-args t c = let p = err_from_is_err_and c.from_residual-in_err-args.result c.from_residual-in_err-args.ensures.1 in
    let s : suc (c.args.depth - 1) ≡ c.args.depth = grind (arith, c.if-depth-eq0-2.false) in
    exits (ReadsSo (c.args.depth - 1) rule.arguments (seen c.in_ok-inner-2.inner.now)) (ReadsSo c.args.depth rule.primary (seen c.args.words.now)) p.1 p.2
    (λ r h. read_no_level c.in_default.ensures (level_failed s c.in-Some-after.ensures (took c.in_ok-inner-2.ensures (read_part_fails h)))) c.in_err-args.ensures

pub primary-returns-in_err-behind-2 : goal.primary-returns-in_err-behind-2
primary-returns-in_err-behind-2 t c = let p = err_from_is_err_and c.from_residual-in_err-behind-2.result c.from_residual-in_err-behind-2.ensures.1 in
    let s : suc (c.args.depth - 1) ≡ c.args.depth = grind (arith, c.if-depth-eq0-2.false) in
    misses (ReadsSo c.args.depth rule.primary (seen c.args.words.now)) (seen c.in_ok-args.behind.now) p.1 p.2 c.in_err-behind-2.ensures.1
    (read_no_level c.in_default.ensures (level_failed s c.in-Some-after.ensures (took c.in_ok-inner-2.ensures (read_parts c.in_ok-args.ensures (read_wrong c.in_err-behind-2.ensures.0)))))

pub primary-returns : goal.primary-returns
primary-returns t c = let s : suc (c.args.depth - 1) ≡ c.args.depth = grind (arith, c.if-depth-eq0-2.false) in
    subst (λ name. ReadsSo c.args.depth rule.primary (seen c.args.words.now) (Ok (expr.Call name c.in_ok-args.args, seen c.in_ok-behind-2.behind.now))) (sym c.in_ok-name.ensures)
    (read_no_level c.in_default.ensures (took_level s c.in-Some-after.ensures
    (took c.in_ok-inner-2.ensures (read_parts c.in_ok-args.ensures (took c.in_ok-behind-2.ensures read_nothing))) read_nothing))

pub step-returns-in-Some : goal.step-returns-in-Some
step-returns-in-Some t c =
    subst (λ s. ReadsSo c.args.depth rule.step (seen c.args.words.now) (Ok (s, seen c.in-Some.rest.now))) (sym c.any_node.ensures) (took_first c.in-Some.ensures read_nothing)

pub step-returns-in-Some-after : goal.step-returns-in-Some-after
step-returns-in-Some-after t c =
    subst (λ s. ReadsSo c.args.depth rule.step (seen c.args.words.now) (Ok (s, seen c.in-Some-after.rest.now))) (sym c.any_node-in-Some-after.ensures)
    (read_second c.in_default.ensures (took_first c.in-Some-after.ensures read_nothing))

pub step-returns-in-Some-after-2 : goal.step-returns-in-Some-after-2
step-returns-in-Some-after-2 t c =
    let rest = seen c.in-Some-after-2.rest.now in
    passed_on (ReadsSo c.args.depth (rule.tested axis.Attribute) rest) (ReadsSo c.args.depth rule.step (seen c.args.words.now)) c.tested.result
    (λ a h. read_second c.in_default.ensures (read_second c.in_default-after.ensures (took_first c.in-Some-after-2.ensures (on_axis c.args.depth axis.Attribute rest a h)))) c.tested.ensures

pub step-returns-in_err-rest : goal.step-returns-in_err-rest
step-returns-in_err-rest t c = let p = err_from_is_err_and c.from_residual.result c.from_residual.ensures.1 in
    misses (ReadsSo c.args.depth rule.step (seen c.args.words.now)) (seen c.in-Some-after-3.rest.now) p.1 p.2 c.in_err-rest.ensures.1
    (read_second c.in_default.ensures (read_second c.in_default-after.ensures (read_second c.in_default-after-2.ensures (took_first c.in-Some-after-3.ensures (read_wrong c.in_err-rest.ensures.0)))))

pub step-returns-in-Some-after-3 : goal.step-returns-in-Some-after-3
step-returns-in-Some-after-3 t c =
    let rest = seen c.in_ok-rest.rest.now in let word = seen_word c.in-Some-after-3.word in
    passed_on (ReadsSo c.args.depth (rule.tested c.axis_of.result) rest) (ReadsSo c.args.depth rule.step (seen c.args.words.now)) c.tested-in-Some-after-3.result
    (λ a h. read_second c.in_default.ensures (read_second c.in_default-after.ensures (read_second c.in_default-after-2.ensures (took_first c.in-Some-after-3.ensures (took c.in_ok-rest.ensures
    (on_axis c.args.depth (axis_of word.sign) rest a (subst (λ x. ReadsSo c.args.depth (rule.tested x) rest a) c.axis_of.ensures h))))))) c.tested-in-Some-after-3.ensures

pub step-returns : goal.step-returns
step-returns t c =
    passed_on (ReadsSo c.args.depth (rule.tested axis.Child) (seen c.args.words.now)) (ReadsSo c.args.depth rule.step (seen c.args.words.now)) c.tested-2.result
    (λ a h. read_second c.in_default.ensures (read_second c.in_default-after.ensures
    (read_second c.in_default-after-2.ensures (read_second c.in_default-after-3.ensures (on_axis c.args.depth axis.Child (seen c.args.words.now) a h)))))
    c.tested-2.ensures

pub steps-returns-in_err-one : goal.steps-returns-in_err-one
steps-returns-in_err-one t c = let p = err_from_is_err_and c.from_residual.result c.from_residual.ensures.1 in
    exits (ReadsSo c.args.depth rule.step (seen c.args.words.now))
    (Reads whole_numbers c.args.depth rule.more_steps (led_steps c.args.deep) (seen c.args.words.now)) p.1 p.2 (λ r h.
    steps_fail c.args.depth c.args.deep (seen c.args.words.now) r h) c.in_err-one.ensures

pub steps-loop-deeper-init : goal.steps-loop-deeper-init
steps-loop-deeper-init t c = λ a m.
    let one = c.in_ok-one.one in
    subst (λ ss. Reads whole_numbers c.args.depth rule.more_steps (led_steps c.args.deep) (seen c.args.words.now) (add ss a)) (sym (first_added c.in_ok-push_step.ensures c.new-parts.ensures))
    (steps_go c.args.depth c.args.deep (seen c.args.words.now) (seen c.in_ok-one.behind.now) one a c.in_ok-one.ensures m)

pub steps-returns-in_err-one-2 : goal.steps-returns-in_err-one-2
steps-returns-in_err-one-2 t c = let p = err_from_is_err_and c.from_residual-in_err-one-2.result c.from_residual-in_err-one-2.ensures.1 in
    let rest = seen c.loop-deeper.rest.now in let next = seen c.in-Some.next.now in
    exits (ReadsSo c.args.depth rule.step next) (Reads whole_numbers c.args.depth rule.more_steps (led_steps c.args.deep) (seen c.args.words.now)) p.1 p.2
    (λ r h. c.loop-deeper.invariant (Err r) (more_steps_go c.args.depth c.in-Some.deeper rest next (Err r) c.in-Some.ensures
    (steps_fail c.args.depth c.in-Some.deeper next r h))) c.in_err-one-2.ensures

pub steps-loop-deeper-smaller : goal.steps-loop-deeper-smaller
steps-loop-deeper-smaller t c = shorter_slashed c.in-Some.deeper c.loop-deeper.rest.now c.in-Some.next.now c.in_ok-one-2.behind.now c.in-Some.ensures c.in_ok-one-2.ensures

pub steps-loop-deeper-preserved : goal.steps-loop-deeper-preserved
steps-loop-deeper-preserved t c = λ a m.
    let rest = seen c.loop-deeper.rest.now in let next = seen c.in-Some.next.now in let one = c.in_ok-one-2.one in
    added (Reads whole_numbers c.args.depth rule.more_steps (led_steps c.args.deep) (seen c.args.words.now)) c.push_step-in-Some.new.parts c.loop-deeper.parts
    (led c.in-Some.deeper (one ∷ [])) a c.in_ok-push_step-2.ensures
    (subst (Reads whole_numbers c.args.depth rule.more_steps (led_steps c.args.deep) (seen c.args.words.now)) (sym (add_more c.loop-deeper.parts (led c.in-Some.deeper (one ∷ [])) a))
    (c.loop-deeper.invariant (add (led c.in-Some.deeper (one ∷ [])) a) (more_steps_go c.args.depth c.in-Some.deeper rest next (add (led c.in-Some.deeper (one ∷ [])) a) c.in-Some.ensures
    (steps_go c.args.depth c.in-Some.deeper next (seen c.in_ok-one-2.behind.now) one a c.in_ok-one-2.ensures m))))

pub steps-returns : goal.steps-returns
steps-returns t c =
    let rest = seen c.loop-deeper.rest.now in
    at_end (Reads whole_numbers c.args.depth rule.more_steps (led_steps c.args.deep) (seen c.args.words.now)) c.loop-deeper.parts rest
    (c.loop-deeper.invariant (Ok ([], rest)) (more_steps_end c.args.depth rest c.in_default.ensures.0 c.in_default.ensures.1))

pub tested-returns-in_err-test : goal.tested-returns-in_err-test
tested-returns-in_err-test t c = let p = err_from_is_err_and c.from_residual.result c.from_residual.ensures.1 in
    exits (ReadsSo c.args.depth rule.node_test (seen c.args.words.now)) (ReadsSo c.args.depth (rule.tested c.args.axis) (seen c.args.words.now)) p.1 p.2
    (λ r h. read_part_fails h) (c.in_err-test.ensures c.args.depth)

pub tested-returns-in_err-predicates : goal.tested-returns-in_err-predicates
tested-returns-in_err-predicates t c = let p = err_from_is_err_and c.from_residual-in_err-predicates.result c.from_residual-in_err-predicates.ensures.1 in
    exits (ReadsSo c.args.depth rule.predicates (seen c.in_ok-test.behind.now)) (ReadsSo c.args.depth (rule.tested c.args.axis) (seen c.args.words.now)) p.1
    p.2 (λ r h. read_parts (c.in_ok-test.ensures c.args.depth) (read_part_fails h)) c.in_err-predicates.ensures

pub tested-returns : goal.tested-returns
tested-returns t c = read_parts (c.in_ok-test.ensures c.args.depth) (read_parts c.in_ok-predicates.ensures read_nothing)

pub unary-returns-in_default : goal.unary-returns-in_default
unary-returns-in_default t c =
    passed_on (ReadsSo c.args.depth (rule.level precedence.Union) (seen c.args.words.now))
    (ReadsSo c.args.depth (rule.level precedence.Unary) (seen c.args.words.now)) c.union.result (λ a h.
    plain_unary c.args.depth (seen c.args.words.now) a c.in_default.ensures h) c.union.ensures

pub unary-returns-then-depth-eq0 : goal.unary-returns-then-depth-eq0
unary-returns-then-depth-eq0 t c = let z : c.args.depth ≡ zero = grind (arith, c.if-depth-eq0.true) in (seen c.args.words.now, too_deep z c.in-Some.ensures, seen_length c.args.words.now)

pub unary-returns-in_err-inner : goal.unary-returns-in_err-inner
unary-returns-in_err-inner t c = let p = err_from_is_err_and c.from_residual.result c.from_residual.ensures.1 in
    let s : suc (c.args.depth - 1) ≡ c.args.depth = grind (arith, c.if-depth-eq0.false) in
    exits (ReadsSo (c.args.depth - 1) (rule.level precedence.Unary) (seen c.in-Some.rest.now))
    (ReadsSo c.args.depth (rule.level precedence.Unary) (seen c.args.words.now)) p.1 p.2 (λ r h. level_failed s c.in-Some.ensures h) c.in_err-inner.ensures

pub unary-returns : goal.unary-returns
unary-returns t c = let s : suc (c.args.depth - 1) ≡ c.args.depth = grind (arith, c.if-depth-eq0.false) in
    subst (λ x. ReadsSo c.args.depth (rule.level precedence.Unary) (seen c.args.words.now) (Ok (expr.Minus x, seen c.in_ok-inner.behind.now))) (sym c.in_ok-new.ensures)
    (took_level s c.in-Some.ensures c.in_ok-inner.ensures read_nothing)

pub union-returns-in_err-left : goal.union-returns-in_err-left
union-returns-in_err-left t c = let p = err_from_is_err_and c.from_residual.result c.from_residual.ensures.1 in
    exits (ReadsSo c.args.depth (rule.level precedence.Path) (seen c.args.words.now)) (ReadsSo c.args.depth (rule.level precedence.Union) (seen c.args.words.now)) p.1 p.2
    (λ r h. grouped_fails c.args.depth precedence.Union (seen c.args.words.now) r h) c.in_err-left.ensures

pub union-loop-op-init : goal.union-loop-op-init
union-loop-op-init t c = λ a m. grouped_goes c.args.depth precedence.Union (seen c.args.words.now) (seen c.in_ok-left.rest.now) c.in_ok-left.left c.in_ok-left.ensures a m

pub union-returns-in_err-right : goal.union-returns-in_err-right
union-returns-in_err-right t c = let p = err_from_is_err_and c.from_residual-in_err-right.result c.from_residual-in_err-right.ensures.1 in
    let rest = seen c.loop-op.rest.now in let next = seen c.in-Some.next.now in let op = c.in-Some.op in let comes = c.in-Some.ensures in
    exits (ReadsSo c.args.depth (rule.level precedence.Path) next) (ReadsSo c.args.depth (rule.level precedence.Union) (seen c.args.words.now)) p.1 p.2
    (λ e h. c.loop-op.invariant (Err e) (more_fails c.args.depth precedence.Union c.loop-op.left rest next op e
    (of_one precedence.Union (precedence_of op) rest next op comes.0 comes.1) h)) c.in_err-right.ensures

pub union-loop-op-smaller : goal.union-loop-op-smaller
union-loop-op-smaller t c = shorter c.loop-op.rest.now c.in-Some.next.now c.in_ok-right.behind.now c.in-Some.ensures.1.comes c.in_ok-right.ensures

pub union-loop-op-preserved : goal.union-loop-op-preserved
union-loop-op-preserved t c = λ a m.
    let rest = seen c.loop-op.rest.now in let next = seen c.in-Some.next.now in let behind = seen c.in_ok-right.behind.now in let right = c.in_ok-right.right in
    let op = c.in-Some.op in let comes = c.in-Some.ensures in
    c.loop-op.invariant a (more_goes c.args.depth precedence.Union c.loop-op.left right rest next behind op
    (of_one precedence.Union (precedence_of op) rest next op comes.0 comes.1) c.in_ok-right.ensures a
    (subst (λ left. ReadsSo c.args.depth (rule.more precedence.Union left) behind a) c.in_ok-left-2.ensures m))

pub union-returns : goal.union-returns
union-returns t c =
    let rest = seen c.loop-op.rest.now in
    c.loop-op.invariant (Ok (c.loop-op.left, rest)) (more_ends c.args.depth precedence.Union c.loop-op.left rest (c.in_default.ensures precedence.Union (omega arith, omega arith)))
