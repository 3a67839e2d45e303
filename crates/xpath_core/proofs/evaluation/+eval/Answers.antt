use Rattle.std.proofs.Common.{rules, arith, ◌≡◌, refl, sym, ap, ◌∙◌, subst, ◌+◌, ◌++◌, [], ◌∷◌, drop, length, map, Ok, get_or, suc, length-append, true, false, add-one, Some, None}
use Rattle.std.specs.Option.{option_map, is_some}
use Rattle.doc_laws.proofs.Moving.{moves_on, moves_none}
use Rattle.doc_model.specs.Answers.{Known}
use Rattle.key_sources.proofs.Loops.{leaves_start, leaves_same, leaves_on, leaves_stops, leaves_end, leaves_memory}
use Rattle.key_sources.proofs.Saying.{went_none, went_moves, went_on, says_exit, says_failed, says_given, says_known}
use Rattle.key_sources.proofs.Saying.{says_memory, says_same, says_stops, says_then, says_then_given}
use Rattle.xpath_calls.proofs.Making.{call_is, call_none}
use Rattle.xpath_calls.specs.Given.{given}
use Rattle.xpath_calls.specs.Taking.{argument, completed, kind_at}
use Rattle.xpath_core.proofs.Chaining.{going, chain_goes, going_turns, going_ends, taking, taking_starts, taking_turns, taking_ends}
use Rattle.xpath_core.proofs.Following.{came, came_other, came_tested, came_stops, follows_none, stops_none, stops_exit, counts_few}
use Rattle.xpath_core.proofs.Judging.{operand_by_value, operand_by_first, holds_by_value, holds_by_first}
use Rattle.xpath_core.proofs.Keeping.{step_nodes_kept, filtered_kept, kept_by_kept, holds_kept, nodes_kept}
use Rattle.xpath_core.proofs.Paths.{alone_there, path_is, axis_kept, found_sound, found_set, left_there, tail_is, begins_there}
use Rattle.xpath_core.proofs.Ready.{ready_on, ready_moves, value_on, told_there, told_by, told_of, ready_at, told_at}
use Rattle.xpath_core.proofs.Sizes.{binary_size, minus_size, innermost_left, innermost_right, later_right, primary_size, whole_filter_size}
use Rattle.xpath_core.proofs.Standing.{stream_of_level, stepped_there, place_on}
use Rattle.xpath_core.proofs.Stepping.{steps_turn, steps_end, finding, found_on, left_by, one_step, step_starts, step_turns, step_ends, filter_turns}
use Rattle.xpath_core.proofs.Stepping.{filter_ends, holds_of, keeping, keep_starts, keep_turns, keep_ends, testing, on_test, test_starts, test_turns}
use Rattle.xpath_core.proofs.Stepping.{test_ends, finishes, exit_tested}
use Rattle.xpath_core.proofs.Streaming.{begun_place, begun_left}
use Rattle.xpath_core.proofs.Values.{binary_value, minus_value, literal_value, number_value, variable_value, call_value, path_value, filtered_value}
use Rattle.xpath_core.specs.Left.{IsBegun, left_at, tested_in, Comes, IsLevel, IsPlace, test_in}
use Rattle.xpath_core.specs.Ready.{IsReady}
use Rattle.xpath_laws.proofs.Order.{order_is}
use Rattle.xpath_laws.proofs.Tells.{Left}
use Rattle.xpath_laws.proofs.Trees.{step_sound, expr_sound}
use Rattle.xpath_laws.proofs.Ways.{step_nodes_sound, kept_by_sound}
use Rattle.xpath_laws.specs.Sound.{IsThere, IsOpen, IsNodeSet, Each}
use Rattle.xpath_meaning.specs.Conversions.{holds, nodes_of, number}
use Rattle.xpath_meaning.specs.Evaluation.{meant, meant_path, meant_step}
use Rattle.xpath_meaning.specs.Items.{first_count, tested}
use Rattle.xpath_meaning.specs.Meanings.{holds_at, at_node}
use Rattle.xpath_meaning.specs.Outcome.{◌>>=◌, with_if}
use Rattle.xpath_meaning.specs.Readings.{values_of}
use Rattle.xpath_meaning.specs.Steps.{steps_nodes, start_of, step_nodes, filtered, kept_by, tail_nodes}
use Rattle.xpath_meaning.specs.Streams.{first_item}
use Rattle.xpath_meaning.specs.Tests.{on_axis, axis_of, test_of}
use Rattle.xpath_nodes.proofs.ByView.{any_lookups}
use Rattle.xpath_nodes.proofs.Holding.{all_there_on, each_at, there_on}
use Rattle.xpath_operations.proofs.Standing.{operand_by_held}
use Rattle.xpath_operations.specs.Operands.{negated, operand_as, operand_by, operand_of_first, combined, kind_of}
use Rattle.xpath_syntax.specs.declared.expression.StepExpr.{out-StepExpr}
use Rattle.xpath_values.specs.declared.value.Value.TheVariants.{Nodes}
use Rattle.xpath_core.proofs.Saying as saying
use Rattle.xpath_meaning.specs.declared.context.Size.TheVariants as size
use Rattle.xpath_core.proofs.Firsts.{first_kept, first_there, value_joined, says_decided, undecided, function_of_meant, argument_kept, arguments_kept, taken_held}
use Rattle.xpath_operations.proofs.Held.{held_on}
use Rattle.xpath_syntax.specs.declared.expression.Expr.{the_lemmas}
use Rattle.std.proofs.lemmas.List.{length-map}
use Rattle.std.proofs.lemmas.Int.{to_z-of_z}
use Rattle.xpath_core.proofs.Coming.{item_place, child_place, child_inside, child_none, item_left, end_left, child_left_same, left_exit, gave}
use Rattle.xpath_core.proofs.Coming.{level_stops, turn_weight, test_at, get_some, left_later, stopped, follows_by}
use Rattle.xpath_core.proofs.Placing.{each_get, place_goes_on, left_moves_on}
use Rattle.xpath_core.specs.declared.levels.Place.{Place}
use Rattle.key_sources.specs.Going.{reading_by}
use Rattle.xpath_meaning.specs.declared.stop.EvalStop.TheVariants.{Memory}
use Rattle.xpath_values.specs.declared.value.Value.{Value}
use Rattle.whole_num.specs.declared.number.Num.TheVariants.{Whole}
use Rattle.xpath_core.proofs.evaluation.+eval.Goals as goal

-- ---- value

pub value-returns-in-Binary-clause-went : goal.value-returns-in-Binary-clause-went
value-returns-in-Binary-clause-went g t c = c.chain.ensures.went

pub value-returns-in-Binary-clause-answers : goal.value-returns-in-Binary-clause-answers
value-returns-in-Binary-clause-answers g t c =
    says_same (λ R. binary_value c.args.e.now c.in-Binary.left c.in-Binary.right c.get.result.now c.get-in-Binary.result.now c.in-Binary.op R
    (values_of c.args.env.now) c.args.ctx.now c.in-Binary.is c.get.ensures c.get-in-Binary.ensures) c.chain.ensures.answers

pub value-returns-in_err-number-in-Minus-clause-went : goal.value-returns-in_err-number-in-Minus-clause-went
value-returns-in_err-number-in-Minus-clause-went g t c = c.in_err-number-in-Minus.ensures.went

pub value-returns-in_err-number-in-Minus-clause-answers : goal.value-returns-in_err-number-in-Minus-clause-answers
value-returns-in_err-number-in-Minus-clause-answers g t c =
    says_exit c.from_residual.result c.from_residual.ensures.1
    (says_same (λ R. minus_value c.args.e.now c.in-Minus.inner c.get-in-Minus.result.now R (values_of c.args.env.now) c.args.ctx.now c.in-Minus.is c.get-in-Minus.ensures)
    (says_stops (λ R x. negated x) c.in_err-number-in-Minus.ensures.answers))

pub value-returns-in_ok-number-in-Minus-clause-went : goal.value-returns-in_ok-number-in-Minus-clause-went
value-returns-in_ok-number-in-Minus-clause-went g t c = c.in_ok-number-in-Minus.ensures.went

pub value-returns-in_ok-number-in-Minus-clause-answers : goal.value-returns-in_ok-number-in-Minus-clause-answers
value-returns-in_ok-number-in-Minus-clause-answers g t c =
    says_same (λ R. minus_value c.args.e.now c.in-Minus.inner c.get-in-Minus.result.now R (values_of c.args.env.now) c.args.ctx.now c.in-Minus.is c.get-in-Minus.ensures)
    (says_then_given negated c.negated.result c.in_ok-number-in-Minus.ensures.went.moves c.in_ok-number-in-Minus.ensures.answers c.negated.ensures)

pub value-returns-in-Literal-clause-went : goal.value-returns-in-Literal-clause-went
value-returns-in-Literal-clause-went g t c = went_none c.requires.stands

pub value-returns-in-Literal-clause-answers : goal.value-returns-in-Literal-clause-answers
value-returns-in-Literal-clause-answers g t c =
    says_same (λ R. literal_value c.args.e.now c.in-Literal.bytes R (values_of c.args.env.now) c.args.ctx.now c.in-Literal.is)
    (says_given _ c.text_value.result (moves_none _ c.requires.stands.seen) c.text_value.ensures)

pub value-returns-in-Number-clause-went : goal.value-returns-in-Number-clause-went
value-returns-in-Number-clause-went g t c = went_none c.requires.stands

pub value-returns-in-Number-clause-answers : goal.value-returns-in-Number-clause-answers
value-returns-in-Number-clause-answers g t c =
    let is : c.number_value.result ≡ number (Whole c.in-Number.whole) = grind (arith, to_z-of_z) in
    says_same {A = Value} (λ R. number_value c.args.e.now c.in-Number.whole R (values_of c.args.env.now) c.args.ctx.now c.in-Number.is)
    (says_known {A = Value} {x = c.number_value.result} (λ R. ap (λ (v : Value). Known v) (sym is)))

pub value-returns-in-Variable-clause-went : goal.value-returns-in-Variable-clause-went
value-returns-in-Variable-clause-went g t c = went_none c.requires.stands

pub value-returns-in-Variable-clause-answers : goal.value-returns-in-Variable-clause-answers
value-returns-in-Variable-clause-answers g t c =
    says_same (λ R. variable_value c.args.e.now c.in-Variable.name R (values_of c.args.env.now) c.args.ctx.now c.in-Variable.is)
    (says_given _ c.variable.result (moves_none _ c.requires.stands.seen) c.variable.ensures)

pub value-returns-in-Call-clause-went : goal.value-returns-in-Call-clause-went
value-returns-in-Call-clause-went g t c = c.call.ensures.went

pub value-returns-in-Call-clause-answers : goal.value-returns-in-Call-clause-answers
value-returns-in-Call-clause-answers g t c =
    says_same (λ R. call_value c.args.e.now c.in-Call.name c.in-Call.args c.as_slice.result.now R (values_of c.args.env.now) c.args.ctx.now c.in-Call.is c.as_slice.ensures) c.call.ensures.answers

pub value-path_nodes-requires : goal.value-path_nodes-requires
value-path_nodes-requires g t c κs within = (search (rules, the_lemmas), (within.0, (within.1, c.requires)))

pub value-returns-in_err-nodes-in-Path-clause-went : goal.value-returns-in_err-nodes-in-Path-clause-went
value-returns-in_err-nodes-in-Path-clause-went g t c = c.in_err-nodes-in-Path.ensures.went

pub value-returns-in_err-nodes-in-Path-clause-answers : goal.value-returns-in_err-nodes-in-Path-clause-answers
value-returns-in_err-nodes-in-Path-clause-answers g t c =
    says_exit c.from_residual-in_err-nodes-in-Path.result c.from_residual-in_err-nodes-in-Path.ensures.1
    (says_same (λ R. path_value c.args.e.now c.in-Path.path R (values_of c.args.env.now) c.args.ctx.now c.in-Path.is)
    (says_stops (λ R nodes. Known (Nodes nodes)) c.in_err-nodes-in-Path.ensures.answers))

pub value-returns-in_ok-nodes-in-Path-clause-went : goal.value-returns-in_ok-nodes-in-Path-clause-went
value-returns-in_ok-nodes-in-Path-clause-went g t c = c.in_ok-nodes-in-Path.ensures.went

pub value-returns-in_ok-nodes-in-Path-clause-answers : goal.value-returns-in_ok-nodes-in-Path-clause-answers
value-returns-in_ok-nodes-in-Path-clause-answers g t c =
    says_same (λ R. path_value c.args.e.now c.in-Path.path R (values_of c.args.env.now) c.args.ctx.now c.in-Path.is)
    (says_then_given (λ nodes. Known (Nodes nodes)) _ c.in_ok-nodes-in-Path.ensures.went.moves c.in_ok-nodes-in-Path.ensures.answers refl)

pub value-returns-in-Filter-clause-went : goal.value-returns-in-Filter-clause-went
value-returns-in-Filter-clause-went g t c = c.filter.ensures.went

pub value-returns-in-Filter-clause-answers : goal.value-returns-in-Filter-clause-answers
value-returns-in-Filter-clause-answers g t c =
    says_same (λ R. filtered_value c.args.e.now c.in-Filter.primary c.get-in-Filter.result.now c.in-Filter.predicates c.as_slice-predicates.result.now c.in-Filter.tail R
    (values_of c.args.env.now) c.args.ctx.now c.in-Filter.is c.get-in-Filter.ensures c.as_slice-predicates.ensures) c.filter.ensures.answers

pub value-chain-requires : goal.value-chain-requires
value-chain-requires g t c κs within = (
  let s = binary_size c.args.e.now c.in-Binary.left c.in-Binary.right c.get.result.now c.get-in-Binary.result.now c.in-Binary.op c.in-Binary.is c.get.ensures
      c.get-in-Binary.ensures in omega (arith, s, c.decreases),
  (within.0, (within.1, c.requires)),
)

pub value-operand-requires : goal.value-operand-requires
value-operand-requires g t c κs within =
    (let s = minus_size c.args.e.now c.in-Minus.inner c.get-in-Minus.result.now c.in-Minus.is c.get-in-Minus.ensures in omega (arith, s, c.decreases), (within.0, (within.1, c.requires)))

pub value-call-requires : goal.value-call-requires
value-call-requires g t c κs within = (search (rules, the_lemmas), (within.0, (within.1, c.requires)))

pub value-filter-requires : goal.value-filter-requires
value-filter-requires g t c κs within = (
  let s = whole_filter_size c.args.e.now c.in-Filter.primary c.get-in-Filter.result.now c.in-Filter.predicates c.as_slice-predicates.result.now c.in-Filter.tail
      c.in-Filter.is c.get-in-Filter.ensures c.as_slice-predicates.ensures in omega (arith, s, c.decreases),
  (within.0, (within.1, c.requires)),
)

-- ---- chain

pub chain-returns-in_err-chain-clause-went : goal.chain-returns-in_err-chain-clause-went
chain-returns-in_err-chain-clause-went g t c = went_none c.requires.stands

pub chain-returns-in_err-chain-clause-answers : goal.chain-returns-in_err-chain-clause-answers
chain-returns-in_err-chain-clause-answers g t c = says_exit c.from_residual.result c.from_residual.ensures.1 says_memory

pub chain-returns-in_err-x-clause-went : goal.chain-returns-in_err-x-clause-went
chain-returns-in_err-x-clause-went g t c = c.in_err-x.ensures.went

pub chain-returns-in_err-x-clause-answers : goal.chain-returns-in_err-x-clause-answers
chain-returns-in_err-x-clause-answers g t c = says_exit c.from_residual-in_err-x.result c.from_residual-in_err-x.ensures.1
    (says_same (λ R. chain_goes c.in_ok-chain.chain.above c.in_ok-chain.chain.above c.in_ok-chain.chain.op c.args.op c.in_ok-chain.chain.left.now
    c.in_ok-chain.chain.right.now c.args.left.now c.args.right.now R (values_of c.args.env.now) c.args.ctx.now c.in_ok-chain.ensures refl)
    (says_stops (λ R v. going (drop 0 c.in_ok-chain.chain.above) v R (values_of c.args.env.now) c.args.ctx.now)
    (saying.says_no_operation c.in_ok-chain.chain.op c.in_ok-chain.chain.left.now c.in_ok-chain.chain.right.now
    (values_of c.args.env.now) c.args.ctx.now c.kind_of.ensures c.in_err-x.ensures.answers)))

pub chain-returns-clause-went : goal.chain-returns-clause-went
chain-returns-clause-went g t c = c.loop-next.invariant.went

pub chain-returns-clause-answers : goal.chain-returns-clause-answers
chain-returns-clause-answers g t c =
    leaves_end c.loop-next.invariant.leaves (moves_none _ c.loop-next.invariant.went.moves.seen)
    (λ R. going_ends c.as_slice-next-items.result.now c.loop-next.next-index c.loop-next.result R (values_of c.args.env.now) c.args.ctx.now c.loop-next-test.false)

pub chain-operand-requires : goal.chain-operand-requires
chain-operand-requires g t c κs within = (
  let s = innermost_left c.in_ok-chain.chain.op c.args.op c.in_ok-chain.chain.left.now c.in_ok-chain.chain.right.now c.args.left.now c.args.right.now
      c.in_ok-chain.chain.above c.in_ok-chain.ensures in omega (arith, s, c.decreases),
  (within.0, (within.1, c.requires)),
)

pub chain-applied-requires : goal.chain-applied-requires
chain-applied-requires g t c κs within = (
  let s = innermost_right c.in_ok-chain.chain.op c.args.op c.in_ok-chain.chain.left.now c.in_ok-chain.chain.right.now c.args.left.now c.args.right.now
      c.in_ok-chain.chain.above c.in_ok-chain.ensures in omega (arith, s, c.decreases),
  (
    within.0,
    (
      within.1,
      (
        ready_on c.requires c.in_ok-x.ensures.went,
        saying.operand_held c.kind_of.result c.in_ok-chain.chain.left.now
            (ready_on c.requires c.in_ok-x.ensures.went) c.in_ok-x.ensures.answers,
      ),
    ),
  ),
)

pub chain-returns-in_err-result-clause-went : goal.chain-returns-in_err-result-clause-went
chain-returns-in_err-result-clause-went g t c = went_on c.in_ok-x.ensures.went c.in_err-result.ensures.went

pub chain-returns-in_err-result-clause-answers : goal.chain-returns-in_err-result-clause-answers
chain-returns-in_err-result-clause-answers g t c = says_exit c.from_residual-in_err-result.result c.from_residual-in_err-result.ensures.1
    (says_same (λ R. chain_goes c.in_ok-chain.chain.above c.in_ok-chain.chain.above c.in_ok-chain.chain.op c.args.op c.in_ok-chain.chain.left.now
    c.in_ok-chain.chain.right.now c.args.left.now c.args.right.now R (values_of c.args.env.now) c.args.ctx.now c.in_ok-chain.ensures refl)
    (says_stops (λ R v. going (drop 0 c.in_ok-chain.chain.above) v R (values_of c.args.env.now) c.args.ctx.now)
    (saying.says_operation c.in_ok-chain.chain.op c.in_ok-chain.chain.left.now c.in_ok-chain.chain.right.now
    (values_of c.args.env.now) c.args.ctx.now c.kind_of.ensures c.in_ok-x.ensures.went.moves c.in_ok-x.ensures.answers c.in_err-result.ensures.went.moves
    (told_by c.in_ok-x.ensures.went.stays c.in_err-result.ensures.answers))))

pub chain-loop-next-init : goal.chain-loop-next-init
chain-loop-next-init g t c =
    let went = went_on c.in_ok-x.ensures.went c.in_ok-result.ensures.went in
    let told = saying.says_operation c.in_ok-chain.chain.op c.in_ok-chain.chain.left.now c.in_ok-chain.chain.right.now
    (values_of c.args.env.now) c.args.ctx.now c.kind_of.ensures c.in_ok-x.ensures.went.moves c.in_ok-x.ensures.answers c.in_ok-result.ensures.went.moves
    (told_by c.in_ok-x.ensures.went.stays c.in_ok-result.ensures.answers) in
    record {
      went = went;
      there = saying.operation_told c.in_ok-chain.chain.op c.in_ok-chain.chain.left.now c.in_ok-chain.chain.right.now (ready_on c.requires went) told;
      leaves = leaves_on (λ R v. going (drop 0 c.as_slice-next-items.result.now) v R (values_of c.args.env.now) c.args.ctx.now)
          (leaves_start (moves_none _ c.requires.stands.seen)
          (λ R. chain_goes c.in_ok-chain.chain.above c.as_slice-next-items.result.now c.in_ok-chain.chain.op c.args.op c.in_ok-chain.chain.left.now
          c.in_ok-chain.chain.right.now c.args.left.now c.args.right.now R (values_of c.args.env.now) c.args.ctx.now c.in_ok-chain.ensures c.as_slice-next-items.ensures))
          (λ R. refl) (saying.binary_kept c.in_ok-chain.chain.op c.in_ok-chain.chain.left.now c.in_ok-chain.chain.right.now (values_of c.args.env.now) c.args.ctx.now) went.moves told;
    }

pub chain-operand_of-requires : goal.chain-operand_of-requires
chain-operand_of-requires g t c = value_joined (g.V.NodeView.sees c.loop-next.view).rules (g.V.NodeView.sees c.loop-next.view).steps c.loop-next.result c.loop-next.invariant.there

pub chain-returns-in_err-x-2-clause-went : goal.chain-returns-in_err-x-2-clause-went
chain-returns-in_err-x-2-clause-went g t c = went_on c.loop-next.invariant.went (went_moves (g.met.K.KeySource.goes_on c.loop-next.keys) c.in_err-x-2.ensures.moves c.loop-next.invariant.went.stands)

pub chain-returns-in_err-x-2-clause-answers : goal.chain-returns-in_err-x-2-clause-answers
chain-returns-in_err-x-2-clause-answers g t c = says_exit c.from_residual-in_err-x-2.result c.from_residual-in_err-x-2.ensures.1
    (leaves_stops (λ R w. going (drop (c.loop-next.next-index + 1) c.as_slice-next-items.result.now) w R (values_of c.args.env.now) c.args.ctx.now) c.loop-next.invariant.leaves
    (λ R. going_turns c.as_slice-next-items.result.now c.loop-next.next-index c.next-item.result c.loop-next.result R
    (values_of c.args.env.now) c.args.ctx.now c.loop-next-test.true c.next-item.is) c.in_err-x-2.ensures.moves
    (saying.says_not_on_value c.next-item.result.op c.loop-next.result c.next-item.result.right.now (values_of c.args.env.now) c.args.ctx.now c.kind_of-in-loop-next.ensures
    (c.in_err-x-2.ensures.answers _)))

pub chain-applied-requires-in-loop-next : goal.chain-applied-requires-in-loop-next
chain-applied-requires-in-loop-next g t c κs within =
    let went = went_on c.loop-next.invariant.went (went_moves (g.met.K.KeySource.goes_on c.loop-next.keys) c.in_ok-x-2.ensures.moves c.loop-next.invariant.went.stands) in (
      let s = later_right c.in_ok-chain.chain.op c.args.op c.in_ok-chain.chain.left.now c.in_ok-chain.chain.right.now c.args.left.now c.args.right.now
          c.in_ok-chain.chain.above c.as_slice-next-items.result.now c.loop-next.next-index c.next-item.result c.in_ok-chain.ensures c.as_slice-next-items.ensures
          c.loop-next-test.true c.next-item.is in omega (arith, s, c.decreases),
      (
        within.0,
        (
          within.1,
          (
            ready_on c.requires went,
            operand_by_held c.kind_of-in-loop-next.result c.loop-next.result
                (value_on _ _ c.loop-next.result c.in_ok-x-2.ensures.moves c.loop-next.invariant.there) (c.in_ok-x-2.ensures.answers any_lookups),
          ),
        ),
      ),
    )

pub chain-returns-in_err-result-2-clause-went : goal.chain-returns-in_err-result-2-clause-went
chain-returns-in_err-result-2-clause-went g t c =
    went_on c.loop-next.invariant.went (went_on (went_moves (g.met.K.KeySource.goes_on c.loop-next.keys) c.in_ok-x-2.ensures.moves c.loop-next.invariant.went.stands) c.in_err-result-2.ensures.went)

pub chain-returns-in_err-result-2-clause-answers : goal.chain-returns-in_err-result-2-clause-answers
chain-returns-in_err-result-2-clause-answers g t c = says_exit c.from_residual-in_err-result-2.result c.from_residual-in_err-result-2.ensures.1
    (leaves_stops (λ R w. going (drop (c.loop-next.next-index + 1) c.as_slice-next-items.result.now) w R (values_of c.args.env.now) c.args.ctx.now) c.loop-next.invariant.leaves
    (λ R. going_turns c.as_slice-next-items.result.now c.loop-next.next-index c.next-item.result c.loop-next.result R (values_of c.args.env.now) c.args.ctx.now c.loop-next-test.true c.next-item.is)
    (moves_on _ _ _ c.in_ok-x-2.ensures.moves c.in_err-result-2.ensures.went.moves)
    (saying.says_on_value c.next-item.result.op c.loop-next.result c.next-item.result.right.now
    (values_of c.args.env.now) c.args.ctx.now c.kind_of-in-loop-next.ensures c.in_ok-x-2.ensures.moves (c.in_ok-x-2.ensures.answers _) c.in_err-result-2.ensures.went.moves
    (told_by c.loop-next.invariant.went.stays c.in_err-result-2.ensures.answers)))

pub chain-loop-next-preserved : goal.chain-loop-next-preserved
chain-loop-next-preserved g t c =
    let went = went_on c.loop-next.invariant.went
    (went_on (went_moves (g.met.K.KeySource.goes_on c.loop-next.keys) c.in_ok-x-2.ensures.moves c.loop-next.invariant.went.stands) c.in_ok-result-2.ensures.went) in
    let moves = moves_on _ _ _ c.in_ok-x-2.ensures.moves c.in_ok-result-2.ensures.went.moves in
    let told = saying.says_on_value c.next-item.result.op c.loop-next.result c.next-item.result.right.now
    (values_of c.args.env.now) c.args.ctx.now c.kind_of-in-loop-next.ensures c.in_ok-x-2.ensures.moves (c.in_ok-x-2.ensures.answers _) c.in_ok-result-2.ensures.went.moves
    (told_by c.loop-next.invariant.went.stays c.in_ok-result-2.ensures.answers) in
    record {
      went = went;
      there = saying.on_value_told c.next-item.result.op c.loop-next.result c.next-item.result.right.now (ready_on c.requires went)
          (value_on _ _ c.loop-next.result moves c.loop-next.invariant.there) told;
      leaves = leaves_on (λ R w. going (drop (c.loop-next.next-index + 1) c.as_slice-next-items.result.now) w R (values_of c.args.env.now) c.args.ctx.now) c.loop-next.invariant.leaves
          (λ R. going_turns c.as_slice-next-items.result.now c.loop-next.next-index c.next-item.result c.loop-next.result R
          (values_of c.args.env.now) c.args.ctx.now c.loop-next-test.true c.next-item.is)
          (saying.on_value_kept c.next-item.result.op c.loop-next.result c.next-item.result.right.now (values_of c.args.env.now) c.args.ctx.now) moves told;
    }

-- ---- applied

pub applied-returns-in-Some-clause-went : goal.applied-returns-in-Some-clause-went
applied-returns-in-Some-clause-went g t c = went_none c.requires.ready.stands

pub applied-returns-in_err-y-in-None-clause-went : goal.applied-returns-in_err-y-in-None-clause-went
applied-returns-in_err-y-in-None-clause-went g t c = c.in_err-y-in-None.ensures.went

pub applied-operand-requires : goal.applied-operand-requires
applied-operand-requires g t c κs within = (omega (arith, c.decreases), (within.0, (within.1, c.requires.ready)))

pub applied-returns-in-Some-clause-answers : goal.applied-returns-in-Some-clause-answers
applied-returns-in-Some-clause-answers g t c = says_decided c.args.op c.args.left c.args.right.now (values_of c.args.env.now) c.args.ctx.now (sym c.decided.ensures ∙ c.in-Some.is)

pub applied-returns-in_err-y-in-None-clause-answers : goal.applied-returns-in_err-y-in-None-clause-answers
applied-returns-in_err-y-in-None-clause-answers g t c = says_exit c.from_residual.result c.from_residual.ensures.1
    (says_same (λ R. undecided c.args.op c.args.left c.args.right.now R (values_of c.args.env.now) c.args.ctx.now (sym c.decided.ensures ∙ c.in-None.is))
    (says_stops (λ R y. combined c.args.op R c.args.left y)
    (told_of (λ k R. operand_as k (meant c.args.right.now) R (values_of c.args.env.now) c.args.ctx.now) c.kind_of.ensures c.in_err-y-in-None.ensures.answers)))

pub applied-combined-requires-clause-left : goal.applied-combined-requires-clause-left
applied-combined-requires-clause-left g t c = held_on _ _ c.args.left c.in_ok-y-in-None.ensures.went.moves.grows c.requires.there

pub applied-combined-requires-clause-right : goal.applied-combined-requires-clause-right
applied-combined-requires-clause-right g t c = saying.operand_held c.kind_of.result c.args.right.now (ready_on c.requires.ready c.in_ok-y-in-None.ensures.went) c.in_ok-y-in-None.ensures.answers

pub applied-returns-in_ok-y-in-None-clause-went : goal.applied-returns-in_ok-y-in-None-clause-went
applied-returns-in_ok-y-in-None-clause-went g t c =
    went_on c.in_ok-y-in-None.ensures.went (went_moves (g.met.K.KeySource.goes_on c.operand.new.keys) c.combined.ensures.moves c.in_ok-y-in-None.ensures.went.stands)

pub applied-returns-in_ok-y-in-None-clause-answers : goal.applied-returns-in_ok-y-in-None-clause-answers
applied-returns-in_ok-y-in-None-clause-answers g t c =
    says_same (λ R. undecided c.args.op c.args.left c.args.right.now R (values_of c.args.env.now) c.args.ctx.now (sym c.decided.ensures ∙ c.in-None.is))
    (says_then (λ R y. combined c.args.op R c.args.left y)
    (saying.operand_kept (kind_of c.args.op) c.args.right.now (values_of c.args.env.now) c.args.ctx.now) c.in_ok-y-in-None.ensures.went.moves
    (told_of (λ k R. operand_as k (meant c.args.right.now) R
    (values_of c.args.env.now) c.args.ctx.now) c.kind_of.ensures c.in_ok-y-in-None.ensures.answers) c.combined.ensures.moves (c.combined.ensures.answers _))

-- ---- operand

pub operand-returns-in_err-node-in-Some-clause-went : goal.operand-returns-in_err-node-in-Some-clause-went
operand-returns-in_err-node-in-Some-clause-went g t c = c.in_err-node-in-Some.ensures.went

pub operand-returns-in_err-node-in-Some-clause-answers : goal.operand-returns-in_err-node-in-Some-clause-answers
operand-returns-in_err-node-in-Some-clause-answers g t c =
    says_exit c.from_residual.result c.from_residual.ensures.1
    (says_same (λ R. operand_by_first c.args.kind c.args.e.now c.in-Some.path.now c.in-Some.ensures R (values_of c.args.env.now) c.args.ctx.now)
    (says_stops (λ R first. operand_of_first c.args.kind R first) c.in_err-node-in-Some.ensures.answers))

pub operand-returns-in_err-value-in-None-clause-went : goal.operand-returns-in_err-value-in-None-clause-went
operand-returns-in_err-value-in-None-clause-went g t c = c.in_err-value-in-None.ensures.went

pub operand-returns-in_err-value-in-None-clause-answers : goal.operand-returns-in_err-value-in-None-clause-answers
operand-returns-in_err-value-in-None-clause-answers g t c =
    says_exit c.from_residual-in_err-value-in-None.result c.from_residual-in_err-value-in-None.ensures.1
    (says_same (λ R. operand_by_value c.args.kind c.args.e.now c.in-None.ensures R (values_of c.args.env.now) c.args.ctx.now)
    (says_stops (λ R v. operand_by c.args.kind R v) c.in_err-value-in-None.ensures.answers))

pub operand-returns-in_ok-node-in-Some-clause-went : goal.operand-returns-in_ok-node-in-Some-clause-went
operand-returns-in_ok-node-in-Some-clause-went g t c =
    went_on c.in_ok-node-in-Some.ensures.went (went_moves (g.met.K.KeySource.goes_on c.first.new.keys) c.operand_of_first.ensures.moves c.in_ok-node-in-Some.ensures.went.stands)

pub operand-returns-in_ok-value-in-None-clause-went : goal.operand-returns-in_ok-value-in-None-clause-went
operand-returns-in_ok-value-in-None-clause-went g t c =
    went_on c.in_ok-value-in-None.ensures.went (went_moves (g.met.K.KeySource.goes_on c.value.new.keys) c.operand_of.ensures.moves c.in_ok-value-in-None.ensures.went.stands)

pub operand-returns-in_ok-value-in-None-clause-answers : goal.operand-returns-in_ok-value-in-None-clause-answers
operand-returns-in_ok-value-in-None-clause-answers g t c =
    says_same (λ R. operand_by_value c.args.kind c.args.e.now c.in-None.ensures R (values_of c.args.env.now) c.args.ctx.now)
    (says_then (λ R v. operand_by c.args.kind R v)
    (saying.value_kept c.args.e.now
    (values_of c.args.env.now) c.args.ctx.now) c.in_ok-value-in-None.ensures.went.moves c.in_ok-value-in-None.ensures.answers c.operand_of.ensures.moves (c.operand_of.ensures.answers _))

pub operand-first-requires : goal.operand-first-requires
operand-first-requires g t c κs within = (let is = c.in-Some.ensures.is in search (rules, the_lemmas), (within.0, (within.1, c.requires)))

pub operand-value-requires : goal.operand-value-requires
operand-value-requires g t c κs within = (omega (arith, c.decreases), (within.0, (within.1, c.requires)))

pub operand-operand_of_first-requires : goal.operand-operand_of_first-requires
operand-operand_of_first-requires g t c = first_there c.in-Some.path.now (ready_on c.requires c.in_ok-node-in-Some.ensures.went) c.in_ok-node-in-Some.ensures.answers

pub operand-operand_of-requires : goal.operand-operand_of-requires
operand-operand_of-requires g t c =
    value_joined (g.V.NodeView.sees c.value.new.view).rules (g.V.NodeView.sees c.value.new.view).steps c.in_ok-value-in-None.value
    (saying.value_told c.args.e.now (ready_on c.requires c.in_ok-value-in-None.ensures.went) c.in_ok-value-in-None.ensures.answers)

pub operand-returns-in_ok-node-in-Some-clause-answers : goal.operand-returns-in_ok-node-in-Some-clause-answers
operand-returns-in_ok-node-in-Some-clause-answers g t c =
    says_same (λ R. operand_by_first c.args.kind c.args.e.now c.in-Some.path.now c.in-Some.ensures R (values_of c.args.env.now) c.args.ctx.now)
    (says_then (λ R first. operand_of_first c.args.kind R first)
    (first_kept c.in-Some.path.now
    (values_of c.args.env.now) c.args.ctx.now) c.in_ok-node-in-Some.ensures.went.moves c.in_ok-node-in-Some.ensures.answers c.operand_of_first.ensures.moves (c.operand_of_first.ensures.answers _))

-- ---- nodes

pub nodes-returns-in_err-value-clause-went : goal.nodes-returns-in_err-value-clause-went
nodes-returns-in_err-value-clause-went g t c = c.in_err-value.ensures.went

pub nodes-returns-in_err-value-clause-answers : goal.nodes-returns-in_err-value-clause-answers
nodes-returns-in_err-value-clause-answers g t c = says_failed (λ R v. nodes_of v) c.from_residual.result c.from_residual.ensures.1 c.in_err-value.ensures.answers

pub nodes-returns-clause-went : goal.nodes-returns-clause-went
nodes-returns-clause-went g t c = c.in_ok-value.ensures.went

pub nodes-returns-clause-answers : goal.nodes-returns-clause-answers
nodes-returns-clause-answers g t c = says_then_given nodes_of c.value_nodes.result c.in_ok-value.ensures.went.moves c.in_ok-value.ensures.answers c.value_nodes.ensures

pub nodes-value-requires : goal.nodes-value-requires
nodes-value-requires g t c κs within = (omega (arith, c.decreases), (within.0, (within.1, c.requires)))

-- ---- holds

pub holds-first-requires : goal.holds-first-requires
holds-first-requires g t c κs within = (let is = c.in-Some.ensures.is in search (rules, the_lemmas), (within.0, (within.1, c.requires)))

pub holds-value-requires : goal.holds-value-requires
holds-value-requires g t c κs within = (omega (arith, c.decreases), (within.0, (within.1, c.requires)))

pub holds-returns-in_err-node-in-Some-clause-went : goal.holds-returns-in_err-node-in-Some-clause-went
holds-returns-in_err-node-in-Some-clause-went g t c = c.in_err-node-in-Some.ensures.went

pub holds-returns-in_err-node-in-Some-clause-answers : goal.holds-returns-in_err-node-in-Some-clause-answers
holds-returns-in_err-node-in-Some-clause-answers g t c =
    says_exit c.from_residual.result c.from_residual.ensures.1
    (says_same (λ R. holds_by_first c.args.e.now c.in-Some.path.now c.in-Some.ensures R (values_of c.args.env.now) c.args.ctx.now)
    (says_stops (λ R first. Known (is_some first)) c.in_err-node-in-Some.ensures.answers))

pub holds-returns-in_ok-node-in-Some-clause-went : goal.holds-returns-in_ok-node-in-Some-clause-went
holds-returns-in_ok-node-in-Some-clause-went g t c = c.in_ok-node-in-Some.ensures.went

pub holds-returns-in_ok-node-in-Some-clause-answers : goal.holds-returns-in_ok-node-in-Some-clause-answers
holds-returns-in_ok-node-in-Some-clause-answers g t c =
    says_same (λ R. holds_by_first c.args.e.now c.in-Some.path.now c.in-Some.ensures R (values_of c.args.env.now) c.args.ctx.now)
    (says_then_given (λ first. Known (is_some first)) _ c.in_ok-node-in-Some.ensures.went.moves c.in_ok-node-in-Some.ensures.answers (ap Known (sym c.is_some.ensures)))

pub holds-returns-in_err-value-in-None-clause-went : goal.holds-returns-in_err-value-in-None-clause-went
holds-returns-in_err-value-in-None-clause-went g t c = c.in_err-value-in-None.ensures.went

pub holds-returns-in_err-value-in-None-clause-answers : goal.holds-returns-in_err-value-in-None-clause-answers
holds-returns-in_err-value-in-None-clause-answers g t c =
    says_exit c.from_residual-in_err-value-in-None.result c.from_residual-in_err-value-in-None.ensures.1
    (says_same (λ R. holds_by_value c.args.e.now c.in-None.ensures R (values_of c.args.env.now) c.args.ctx.now)
    (says_stops (λ R v. Known (holds v c.args.ctx.now.position)) c.in_err-value-in-None.ensures.answers))

pub holds-returns-in_ok-value-in-None-clause-went : goal.holds-returns-in_ok-value-in-None-clause-went
holds-returns-in_ok-value-in-None-clause-went g t c = c.in_ok-value-in-None.ensures.went

pub holds-returns-in_ok-value-in-None-clause-answers : goal.holds-returns-in_ok-value-in-None-clause-answers
holds-returns-in_ok-value-in-None-clause-answers g t c =
    says_same (λ R. holds_by_value c.args.e.now c.in-None.ensures R (values_of c.args.env.now) c.args.ctx.now)
    (says_then_given (λ v. Known (holds v c.args.ctx.now.position)) _ c.in_ok-value-in-None.ensures.went.moves c.in_ok-value-in-None.ensures.answers (ap Known (sym c.value_holds.ensures)))

-- ---- call

pub call-returns-in-None-clause-went : goal.call-returns-in-None-clause-went
call-returns-in-None-clause-went g t c = went_none c.requires.stands

pub call-returns-in-None-clause-answers : goal.call-returns-in-None-clause-answers
call-returns-in-None-clause-answers g t c =
    says_same (λ R. call_none c.args.name.now (map meant c.args.args.now) R (values_of c.args.env.now) c.args.ctx.now
    (function_of_meant c.args.name.now c.args.args.now (length c.args.args.now) c.call_of.result refl c.call_of.ensures ∙ c.in-None.is))
    (says_given _ c.none.result (moves_none _ c.requires.stands.seen) c.none.ensures)

pub call-returns-in_err-taken-in-Some-clause-went : goal.call-returns-in_err-taken-in-Some-clause-went
call-returns-in_err-taken-in-Some-clause-went g t c = c.in_err-taken-in-Some.ensures.went

pub call-returns-in_ok-taken-in-Some-clause-went : goal.call-returns-in_ok-taken-in-Some-clause-went
call-returns-in_ok-taken-in-Some-clause-went g t c = went_on c.in_ok-taken-in-Some.ensures.went c.called.ensures.went

pub call-arguments-requires : goal.call-arguments-requires
call-arguments-requires g t c κs within = (omega (arith, c.decreases), (within.0, (within.1, c.requires)))

pub call-returns-in_err-taken-in-Some-clause-answers : goal.call-returns-in_err-taken-in-Some-clause-answers
call-returns-in_err-taken-in-Some-clause-answers g t c = says_exit c.from_residual.result c.from_residual.ensures.1
    (says_same (λ R. call_is c.args.name.now c.in-Some.function (map meant c.args.args.now) R (values_of c.args.env.now) c.args.ctx.now
    (function_of_meant c.args.name.now c.args.args.now (length c.args.args.now) c.call_of.result refl c.call_of.ensures ∙ c.in-Some.is))
    (says_stops (λ R xs. completed c.in-Some.function xs R c.args.ctx.now >>= λ ys. given c.in-Some.function c.args.name.now.slot ys R c.args.ctx.now) c.in_err-taken-in-Some.ensures.answers))

pub call-called-requires-clause-stands : goal.call-called-requires-clause-stands
call-called-requires-clause-stands g t c = c.in_ok-taken-in-Some.ensures.went.stands

pub call-called-requires-clause-held : goal.call-called-requires-clause-held
call-called-requires-clause-held g t c = taken_held c.in-Some.function c.args.args.now (ready_on c.requires c.in_ok-taken-in-Some.ensures.went) c.in_ok-taken-in-Some.ensures.answers

pub call-called-requires-clause-context : goal.call-called-requires-clause-context
call-called-requires-clause-context g t c = (ready_on c.requires c.in_ok-taken-in-Some.ensures.went).context.node

pub call-returns-in_ok-taken-in-Some-clause-answers : goal.call-returns-in_ok-taken-in-Some-clause-answers
call-returns-in_ok-taken-in-Some-clause-answers g t c =
    says_same (λ R. call_is c.args.name.now c.in-Some.function (map meant c.args.args.now) R (values_of c.args.env.now) c.args.ctx.now
    (function_of_meant c.args.name.now c.args.args.now (length c.args.args.now) c.call_of.result refl c.call_of.ensures ∙ c.in-Some.is))
    (says_then (λ R xs. completed c.in-Some.function xs R c.args.ctx.now >>= λ ys. given c.in-Some.function c.args.name.now.slot ys R c.args.ctx.now)
    (arguments_kept c.in-Some.function c.args.args.now (values_of c.args.env.now) c.args.ctx.now)
    c.in_ok-taken-in-Some.ensures.went.moves c.in_ok-taken-in-Some.ensures.answers c.called.ensures.went.moves (told_by c.in_ok-taken-in-Some.ensures.went.stays c.called.ensures.answers))

-- ---- arguments

pub arguments-returns-clause-went : goal.arguments-returns-clause-went
arguments-returns-clause-went g t c = c.loop-arg.invariant.went

pub arguments-loop-arg-init : goal.arguments-loop-arg-init
arguments-loop-arg-init g t c = record {
  went = went_none c.requires.stands;
  leaves = leaves_start (moves_none _ c.requires.stands.seen) (λ R. taking_starts c.args.function c.args.args.now c.new-taken.result R (values_of c.args.env.now) c.args.ctx.now c.new-taken.ensures);
}

pub arguments-argument-requires : goal.arguments-argument-requires
arguments-argument-requires g t c κs within = (search (rules, the_lemmas), (within.0, (within.1, ready_on c.requires c.loop-arg.invariant.went)))

pub arguments-returns-in_err-x-clause-went : goal.arguments-returns-in_err-x-clause-went
arguments-returns-in_err-x-clause-went g t c = went_on c.loop-arg.invariant.went c.in_err-x.ensures.went

pub arguments-returns-in_err-x-clause-answers : goal.arguments-returns-in_err-x-clause-answers
arguments-returns-in_err-x-clause-answers g t c = says_exit c.from_residual.result c.from_residual.ensures.1
    (leaves_stops (λ R y. taking c.args.function (suc (length c.loop-arg.taken)) (drop (c.loop-arg.arg-index + 1) c.args.args.now) (c.loop-arg.taken ++ y ∷ []) R
    (values_of c.args.env.now) c.args.ctx.now) c.loop-arg.invariant.leaves
    (λ R. taking_turns c.args.function c.args.args.now c.loop-arg.arg-index c.arg-item.result (length c.loop-arg.taken) (suc (length c.loop-arg.taken)) c.loop-arg.taken R
    (values_of c.args.env.now) c.args.ctx.now c.loop-arg-test.true c.arg-item.is refl)
    c.in_err-x.ensures.went.moves (told_of (λ k R. argument k (meant c.arg-item.result) R (values_of c.args.env.now) c.args.ctx.now)
    (c.kind_at-kind.ensures ∙ ap (kind_at c.args.function) c.len.ensures) (told_by c.loop-arg.invariant.went.stays c.in_err-x.ensures.answers)))

pub arguments-returns-in_err-push-clause-went : goal.arguments-returns-in_err-push-clause-went
arguments-returns-in_err-push-clause-went g t c = went_on c.loop-arg.invariant.went c.in_ok-x.ensures.went

pub arguments-returns-in_err-push-clause-answers : goal.arguments-returns-in_err-push-clause-answers
arguments-returns-in_err-push-clause-answers g t c =
    says_exit c.from_residual-in_err-push.result c.from_residual-in_err-push.ensures.1 (leaves_memory c.loop-arg.invariant.leaves c.in_ok-x.ensures.went.moves)

pub arguments-loop-arg-preserved : goal.arguments-loop-arg-preserved
arguments-loop-arg-preserved g t c =
    let long : length c.push.new.self ≡ suc (length c.loop-arg.taken) =
    (let e = ap length c.in_ok-push.ensures.ok in let l = length-append c.loop-arg.taken (c.in_ok-x.x ∷ []) in omega (arith, e, l)) in
    record {
      went = went_on c.loop-arg.invariant.went c.in_ok-x.ensures.went;
      leaves = leaves_same (λ R. ap (λ xs. taking c.args.function (length c.push.new.self) (drop (c.loop-arg.arg-index + 1) c.args.args.now) xs R
          (values_of c.args.env.now) c.args.ctx.now) (sym c.in_ok-push.ensures.ok))
          (leaves_on (λ R y. taking c.args.function (length c.push.new.self) (drop (c.loop-arg.arg-index + 1) c.args.args.now) (c.loop-arg.taken ++ y ∷ []) R
          (values_of c.args.env.now) c.args.ctx.now) c.loop-arg.invariant.leaves
          (λ R. taking_turns c.args.function c.args.args.now c.loop-arg.arg-index c.arg-item.result (length c.loop-arg.taken) (length c.push.new.self) c.loop-arg.taken R
          (values_of c.args.env.now) c.args.ctx.now c.loop-arg-test.true c.arg-item.is long)
          (argument_kept (kind_at c.args.function (length c.loop-arg.taken)) c.arg-item.result (values_of c.args.env.now) c.args.ctx.now)
          c.in_ok-x.ensures.went.moves (told_of (λ k R. argument k (meant c.arg-item.result) R (values_of c.args.env.now) c.args.ctx.now)
          (c.kind_at-kind.ensures ∙ ap (kind_at c.args.function) c.len.ensures) (told_by c.loop-arg.invariant.went.stays c.in_ok-x.ensures.answers)));
    }

pub arguments-returns-clause-answers : goal.arguments-returns-clause-answers
arguments-returns-clause-answers g t c =
    leaves_end c.loop-arg.invariant.leaves (moves_none _ c.loop-arg.invariant.went.moves.seen)
    (λ R. taking_ends c.args.function c.args.args.now c.loop-arg.arg-index (length c.loop-arg.taken) c.loop-arg.taken R (values_of c.args.env.now) c.args.ctx.now c.loop-arg-test.false)

-- ---- argument

pub argument-returns-in-Some-clause-went : goal.argument-returns-in-Some-clause-went
argument-returns-in-Some-clause-went g t c = c.operand.ensures.went

pub argument-returns-in-Some-clause-answers : goal.argument-returns-in-Some-clause-answers
argument-returns-in-Some-clause-answers g t c = says_same (λ R. ap (λ k. argument k (meant c.args.e.now) R (values_of c.args.env.now) c.args.ctx.now) c.in-Some.is) c.operand.ensures.answers

pub argument-returns-in-None-clause-went : goal.argument-returns-in-None-clause-went
argument-returns-in-None-clause-went g t c = went_none c.requires.stands

pub argument-returns-in-None-clause-answers : goal.argument-returns-in-None-clause-answers
argument-returns-in-None-clause-answers g t c = says_same (λ R. ap (λ k. argument k (meant c.args.e.now) R (values_of c.args.env.now) c.args.ctx.now) c.in-None.is) (says_known (λ R. refl))

pub argument-operand-requires : goal.argument-operand-requires
argument-operand-requires g t c κs within = (omega (arith, c.decreases), (within.0, (within.1, c.requires)))

-- ---- path_nodes

pub path_nodes-returns-in_err-push-clause-went : goal.path_nodes-returns-in_err-push-clause-went
path_nodes-returns-in_err-push-clause-went g t c = went_none c.requires.stands

pub path_nodes-returns-in_err-push-clause-answers : goal.path_nodes-returns-in_err-push-clause-answers
path_nodes-returns-in_err-push-clause-answers g t c = says_exit c.from_residual.result c.from_residual.ensures.1 says_memory

pub path_nodes-steps-requires : goal.path_nodes-steps-requires
path_nodes-steps-requires g t c κs within = (
  search (rules, the_lemmas),
  (
    within.0,
    (
      within.1,
      (
        c.requires,
        subst (IsNodeSet (IsThere (g.V.NodeView.sees c.args.view.now).rules (g.V.NodeView.sees c.args.view.now).steps))
            (sym (c.in_ok-push.ensures.ok ∙ ap (λ none. none ++ c.start_of.result ∷ []) c.new-from.ensures)) (alone_there c.requires c.args.path.now c.start_of.result c.start_of.ensures),
      ),
    ),
  ),
)

pub path_nodes-returns-clause-went : goal.path_nodes-returns-clause-went
path_nodes-returns-clause-went g t c = c.steps.ensures.went

pub path_nodes-returns-clause-answers : goal.path_nodes-returns-clause-answers
path_nodes-returns-clause-answers g t c =
    says_same (λ R. path_is c.args.path.now R (values_of c.args.env.now) c.args.ctx.now
    ∙ ap (λ ps. steps_nodes (map meant_step ps) (start_of (meant_path c.args.path.now) c.args.ctx.now ∷ []) R (values_of c.args.env.now) c.args.ctx.now) (sym c.as_slice.ensures)
    ∙ ap (λ ns. steps_nodes (map meant_step c.as_slice.result.now) ns R (values_of c.args.env.now) c.args.ctx.now)
    (ap (λ n. n ∷ []) (sym c.start_of.ensures) ∙ (sym (c.in_ok-push.ensures.ok ∙ ap (λ none. none ++ c.start_of.result ∷ []) c.new-from.ensures)))) c.steps.ensures.answers

-- ---- steps

pub steps-loop-part-init : goal.steps-loop-part-init
steps-loop-part-init g t c =
    record {
      went = went_none c.requires.ready.stands;
      ready = c.requires.ready;
      there = c.requires.there;
      leaves = leaves_start (moves_none _ c.requires.ready.stands.seen) (λ R. refl);
    }

pub steps-step-requires : goal.steps-step-requires
steps-step-requires g t c κs within = (
  search (rules, the_lemmas),
  (
    within.0,
    (
      within.1,
      (
        c.loop-part.invariant.ready,
        subst (IsNodeSet (IsThere (g.V.NodeView.sees c.loop-part.view).rules (g.V.NodeView.sees c.loop-part.view).steps))
            (sym c.as_slice.ensures) c.loop-part.invariant.there,
      ),
    ),
  ),
)

pub steps-loop-part-preserved : goal.steps-loop-part-preserved
steps-loop-part-preserved g t c =
    let ready = ready_on c.loop-part.invariant.ready c.in_ok-nodes.ensures.went in
    let u = g.V.NodeView.sees c.step.new.view in
    let now = all_there_on _ _ _ c.in_ok-nodes.ensures.went.moves c.loop-part.invariant.there.1 in
    record {
      went = went_on c.loop-part.invariant.went c.in_ok-nodes.ensures.went;
      ready = ready;
      there = told_there (IsNodeSet (IsThere u.rules u.steps)) (step_nodes (meant_step c.part-item.result) c.loop-part.nodes)
          (step_nodes_sound (IsThere u.rules u.steps) (IsOpen u.steps) (meant_step c.part-item.result) (step_sound _ _ c.part-item.result) c.loop-part.nodes now) ready
          (told_of (λ ns R. step_nodes (meant_step c.part-item.result) ns R (values_of c.args.env.now) c.args.ctx.now) c.as_slice.ensures
          (told_by c.loop-part.invariant.went.stays c.in_ok-nodes.ensures.answers));
      leaves = leaves_on (λ R found. steps_nodes (map meant_step (drop (c.loop-part.part-index + 1) c.args.parts.now)) found R
          (values_of c.args.env.now) c.args.ctx.now) c.loop-part.invariant.leaves
          (λ R. steps_turn c.args.parts.now c.loop-part.part-index c.part-item.result c.loop-part.nodes R
          (values_of c.args.env.now) c.args.ctx.now c.loop-part-test.true c.part-item.is)
          (step_nodes_kept c.part-item.result c.loop-part.nodes (values_of c.args.env.now) c.args.ctx.now) c.in_ok-nodes.ensures.went.moves
          (told_of (λ ns R. step_nodes (meant_step c.part-item.result) ns R (values_of c.args.env.now) c.args.ctx.now) c.as_slice.ensures
          (told_by c.loop-part.invariant.went.stays c.in_ok-nodes.ensures.answers));
    }

pub steps-returns-in_err-nodes-clause-went : goal.steps-returns-in_err-nodes-clause-went
steps-returns-in_err-nodes-clause-went g t c = went_on c.loop-part.invariant.went c.in_err-nodes.ensures.went

pub steps-returns-in_err-nodes-clause-answers : goal.steps-returns-in_err-nodes-clause-answers
steps-returns-in_err-nodes-clause-answers g t c =
    says_exit c.from_residual.result c.from_residual.ensures.1
    (leaves_stops (λ R found. steps_nodes (map meant_step (drop (c.loop-part.part-index + 1) c.args.parts.now)) found R
    (values_of c.args.env.now) c.args.ctx.now) c.loop-part.invariant.leaves
    (λ R. steps_turn c.args.parts.now c.loop-part.part-index c.part-item.result c.loop-part.nodes R
    (values_of c.args.env.now) c.args.ctx.now c.loop-part-test.true c.part-item.is) c.in_err-nodes.ensures.went.moves
    (told_of (λ ns R. step_nodes (meant_step c.part-item.result) ns R (values_of c.args.env.now) c.args.ctx.now) c.as_slice.ensures
    (told_by c.loop-part.invariant.went.stays c.in_err-nodes.ensures.answers)))

pub steps-returns-clause-went : goal.steps-returns-clause-went
steps-returns-clause-went g t c = c.loop-part.invariant.went

pub steps-returns-clause-answers : goal.steps-returns-clause-answers
steps-returns-clause-answers g t c =
    leaves_end c.loop-part.invariant.leaves (moves_none _ c.loop-part.invariant.went.moves.seen)
    (λ R. steps_end c.args.parts.now c.loop-part.part-index c.loop-part.nodes R (values_of c.args.env.now) c.args.ctx.now c.loop-part-test.false)

-- ---- step

pub step-returns-in_err-test-clause-went : goal.step-returns-in_err-test-clause-went
step-returns-in_err-test-clause-went g t c = went_none c.requires.ready.stands

pub step-returns-in_err-test-clause-answers : goal.step-returns-in_err-test-clause-answers
step-returns-in_err-test-clause-answers g t c = says_exit c.from_residual.result c.from_residual.ensures.1 says_memory

pub step-step_by-requires : goal.step-step_by-requires
step-step_by-requires g t c κs within = (omega (arith, c.decreases), (within.0, (within.1, (c.requires.ready, (search rules, c.requires.there)))))

pub step-returns-clause-went : goal.step-returns-clause-went
step-returns-clause-went g t c = c.step_by.ensures.went

pub step-returns-clause-answers : goal.step-returns-clause-answers
step-returns-clause-answers g t c = c.step_by.ensures.answers

-- ---- step_by

pub step_by-loop-node-init : goal.step_by-loop-node-init
step_by-loop-node-init g t c =
    record {
      went = went_none c.requires.ready.stands;
      ready = c.requires.ready;
      there = c.requires.there.1;
      leaves = leaves_start (moves_none _ c.requires.ready.stands.seen)
          (λ R. step_starts c.args.part.now c.args.from.now c.new-all.result R (values_of c.args.env.now) c.args.ctx.now c.new-all.ensures);
    }

pub step_by-nodes_on-requires : goal.step_by-nodes_on-requires
step_by-nodes_on-requires g t c = (each_at _ _ _ c.loop-node.invariant.there c.loop-node-test.true).0

pub step_by-filtered-requires : goal.step_by-filtered-requires
step_by-filtered-requires g t c κs within = (
  search (rules, the_lemmas),
  let u = g.V.NodeView.sees c.nodes_on.new.view in
      let there = each_at _ _ _ c.loop-node.invariant.there c.loop-node-test.true in (
        within.0,
        (
          within.1,
          (
            ready_moves (g.met.K.KeySource.goes_on c.loop-node.keys) c.in_ok-found.ensures.moves c.loop-node.invariant.ready,
            told_there
                (Each (IsThere u.rules u.steps)) (λ R values c0. found_on c.args.part.now R (get_or c.args.from.now c.loop-node.node-index 0))
                (found_sound u.rules u.steps c.args.part.now (get_or c.args.from.now c.loop-node.node-index 0) (there_on _ _ _ c.in_ok-found.ensures.moves there))
                (ready_moves (g.met.K.KeySource.goes_on c.loop-node.keys) c.in_ok-found.ensures.moves c.loop-node.invariant.ready)
                (told_of (λ test R. on_axis R (axis_of (out-StepExpr c.args.part.now).axis) test (get_or c.args.from.now c.loop-node.node-index 0)) c.requires.test
                (c.in_ok-found.ensures.answers any_lookups)),
          ),
        ),
      ),
)

pub step_by-loop-node-preserved : goal.step_by-loop-node-preserved
step_by-loop-node-preserved g t c =
    let moves = moves_on _ _ _ c.in_ok-found.ensures.moves c.in_ok-left.ensures.went.moves in
    record {
      went = went_on c.loop-node.invariant.went
          (went_on (went_moves (g.met.K.KeySource.goes_on c.loop-node.keys) c.in_ok-found.ensures.moves c.loop-node.invariant.went.stands) c.in_ok-left.ensures.went);
      ready = ready_on (ready_moves (g.met.K.KeySource.goes_on c.loop-node.keys) c.in_ok-found.ensures.moves c.loop-node.invariant.ready) c.in_ok-left.ensures.went;
      there = all_there_on _ _ _ moves c.loop-node.invariant.there;
      leaves = leaves_same (λ R. ap (finding (one_step c.args.part.now (values_of c.args.env.now) c.args.ctx.now R) (drop (c.loop-node.node-index + 1) c.args.from.now))
          (sym c.in_ok-append.ensures.ok))
          (leaves_on (λ R left. finding (one_step c.args.part.now (values_of c.args.env.now) c.args.ctx.now R) (drop (c.loop-node.node-index + 1) c.args.from.now)
          (c.loop-node.all ++ left)) (leaves_on
          (λ R found. left_by c.args.part.now found R (values_of c.args.env.now) c.args.ctx.now >>= λ left. finding
          (one_step c.args.part.now (values_of c.args.env.now) c.args.ctx.now R) (drop (c.loop-node.node-index + 1) c.args.from.now)
          (c.loop-node.all ++ left)) c.loop-node.invariant.leaves
          (λ R. step_turns c.args.part.now c.args.from.now c.loop-node.node-index c.loop-node.all R (values_of c.args.env.now) c.args.ctx.now c.loop-node-test.true)
          (axis_kept (axis_of (out-StepExpr c.args.part.now).axis) (test_of (out-StepExpr c.args.part.now).test)
          (get_or c.args.from.now c.loop-node.node-index 0)) c.in_ok-found.ensures.moves
          (told_of (λ test R. on_axis R (axis_of (out-StepExpr c.args.part.now).axis) test (get_or c.args.from.now c.loop-node.node-index 0)) c.requires.test
          (c.in_ok-found.ensures.answers _))) (λ R. refl)
          (filtered_kept (out-StepExpr c.args.part.now).predicates c.in_ok-found.found (values_of c.args.env.now) c.args.ctx.now) c.in_ok-left.ensures.went.moves
          (told_of (λ es R. filtered (map meant es) c.in_ok-found.found R (values_of c.args.env.now) c.args.ctx.now) c.as_slice.ensures
          (told_by c.loop-node.invariant.went.stays c.in_ok-left.ensures.answers)));
    }

pub step_by-returns-in_err-found-clause-went : goal.step_by-returns-in_err-found-clause-went
step_by-returns-in_err-found-clause-went g t c =
    went_on c.loop-node.invariant.went (went_moves (g.met.K.KeySource.goes_on c.loop-node.keys) c.in_err-found.ensures.moves c.loop-node.invariant.went.stands)

pub step_by-returns-in_err-found-clause-answers : goal.step_by-returns-in_err-found-clause-answers
step_by-returns-in_err-found-clause-answers g t c =
    says_exit c.from_residual.result c.from_residual.ensures.1
    (leaves_stops (λ R found. left_by c.args.part.now found R (values_of c.args.env.now) c.args.ctx.now >>= λ left. finding
    (one_step c.args.part.now (values_of c.args.env.now) c.args.ctx.now R) (drop (c.loop-node.node-index + 1) c.args.from.now)
    (c.loop-node.all ++ left)) c.loop-node.invariant.leaves
    (λ R. step_turns c.args.part.now c.args.from.now c.loop-node.node-index c.loop-node.all R
    (values_of c.args.env.now) c.args.ctx.now c.loop-node-test.true) c.in_err-found.ensures.moves
    (told_of (λ test R. on_axis R (axis_of (out-StepExpr c.args.part.now).axis) test (get_or c.args.from.now c.loop-node.node-index 0)) c.requires.test (c.in_err-found.ensures.answers _)))

pub step_by-returns-in_err-left-clause-went : goal.step_by-returns-in_err-left-clause-went
step_by-returns-in_err-left-clause-went g t c =
    went_on c.loop-node.invariant.went (went_on (went_moves (g.met.K.KeySource.goes_on c.loop-node.keys) c.in_ok-found.ensures.moves c.loop-node.invariant.went.stands) c.in_err-left.ensures.went)

pub step_by-returns-in_err-left-clause-answers : goal.step_by-returns-in_err-left-clause-answers
step_by-returns-in_err-left-clause-answers g t c =
    says_exit c.from_residual-in_err-left.result c.from_residual-in_err-left.ensures.1
    (leaves_stops (λ R left. finding (one_step c.args.part.now (values_of c.args.env.now) c.args.ctx.now R) (drop (c.loop-node.node-index + 1) c.args.from.now)
    (c.loop-node.all ++ left)) (leaves_on
    (λ R found. left_by c.args.part.now found R (values_of c.args.env.now) c.args.ctx.now >>= λ left. finding (one_step c.args.part.now (values_of c.args.env.now) c.args.ctx.now R)
    (drop (c.loop-node.node-index + 1) c.args.from.now) (c.loop-node.all ++ left)) c.loop-node.invariant.leaves
    (λ R. step_turns c.args.part.now c.args.from.now c.loop-node.node-index c.loop-node.all R (values_of c.args.env.now) c.args.ctx.now c.loop-node-test.true)
    (axis_kept (axis_of (out-StepExpr c.args.part.now).axis) (test_of (out-StepExpr c.args.part.now).test)
    (get_or c.args.from.now c.loop-node.node-index 0)) c.in_ok-found.ensures.moves
    (told_of (λ test R. on_axis R (axis_of (out-StepExpr c.args.part.now).axis) test (get_or c.args.from.now c.loop-node.node-index 0)) c.requires.test
    (c.in_ok-found.ensures.answers _))) (λ R. refl) c.in_err-left.ensures.went.moves
    (told_of (λ es R. filtered (map meant es) c.in_ok-found.found R (values_of c.args.env.now) c.args.ctx.now) c.as_slice.ensures
    (told_by c.loop-node.invariant.went.stays c.in_err-left.ensures.answers)))

pub step_by-returns-in_err-append-clause-went : goal.step_by-returns-in_err-append-clause-went
step_by-returns-in_err-append-clause-went g t c =
    went_on c.loop-node.invariant.went (went_on (went_moves (g.met.K.KeySource.goes_on c.loop-node.keys) c.in_ok-found.ensures.moves c.loop-node.invariant.went.stands) c.in_ok-left.ensures.went)

pub step_by-returns-in_err-append-clause-answers : goal.step_by-returns-in_err-append-clause-answers
step_by-returns-in_err-append-clause-answers g t c =
    says_exit c.from_residual-in_err-append.result c.from_residual-in_err-append.ensures.1
    (leaves_memory c.loop-node.invariant.leaves (moves_on _ _ _ c.in_ok-found.ensures.moves c.in_ok-left.ensures.went.moves))

pub step_by-returns-in_err-nodes-clause-went : goal.step_by-returns-in_err-nodes-clause-went
step_by-returns-in_err-nodes-clause-went g t c = c.loop-node.invariant.went

pub step_by-returns-in_err-nodes-clause-answers : goal.step_by-returns-in_err-nodes-clause-answers
step_by-returns-in_err-nodes-clause-answers g t c =
    says_exit c.from_residual-in_err-nodes.result c.from_residual-in_err-nodes.ensures.1 (leaves_memory c.loop-node.invariant.leaves (moves_none _ c.loop-node.invariant.went.moves.seen))

pub step_by-returns-clause-went : goal.step_by-returns-clause-went
step_by-returns-clause-went g t c = c.loop-node.invariant.went

pub step_by-returns-clause-answers : goal.step_by-returns-clause-answers
step_by-returns-clause-answers g t c =
    leaves_end c.loop-node.invariant.leaves (moves_none _ c.loop-node.invariant.went.moves.seen)
    (λ R. step_ends c.args.part.now c.args.from.now c.loop-node.node-index c.loop-node.all R (values_of c.args.env.now) c.args.ctx.now c.loop-node-test.false
    ∙ ap Known (sym (order_is c.loop-node.all c.in_ok-nodes.nodes c.in_ok-nodes.ensures.order c.in_ok-nodes.ensures.members)))

-- ---- filtered

pub filtered-loop-predicate-init : goal.filtered-loop-predicate-init
filtered-loop-predicate-init g t c =
    record {
      went = went_none c.requires.ready.stands;
      ready = c.requires.ready;
      there = c.requires.there;
      leaves = leaves_start (moves_none _ c.requires.ready.stands.seen) (λ R. refl);
    }

pub filtered-kept_by-requires : goal.filtered-kept_by-requires
filtered-kept_by-requires g t c κs within = (
  search (rules, the_lemmas),
  (
    within.0,
    (
      within.1,
      (
        c.loop-predicate.invariant.ready,
        subst (Each (IsThere (g.V.NodeView.sees c.loop-predicate.view).rules (g.V.NodeView.sees c.loop-predicate.view).steps))
            (sym c.as_slice.ensures) c.loop-predicate.invariant.there,
      ),
    ),
  ),
)

pub filtered-loop-predicate-preserved : goal.filtered-loop-predicate-preserved
filtered-loop-predicate-preserved g t c =
    let ready = ready_on c.loop-predicate.invariant.ready c.in_ok-left.ensures.went in
    let u = g.V.NodeView.sees c.kept_by.new.view in
    let now = all_there_on _ _ _ c.in_ok-left.ensures.went.moves c.loop-predicate.invariant.there in
    record {
      went = went_on c.loop-predicate.invariant.went c.in_ok-left.ensures.went;
      ready = ready;
      there = (told_there (Left (IsThere u.rules u.steps) c.loop-predicate.left) (kept_by (meant c.predicate-item.result) c.loop-predicate.left)
          (kept_by_sound (IsThere u.rules u.steps) (IsOpen u.steps) (meant c.predicate-item.result) (expr_sound _ _ c.predicate-item.result) c.loop-predicate.left now) ready
          (told_of (λ ns R. kept_by (meant c.predicate-item.result) ns R (values_of c.args.env.now) c.args.ctx.now) c.as_slice.ensures
          (told_by c.loop-predicate.invariant.went.stays c.in_ok-left.ensures.answers))).each;
      leaves = leaves_on (λ R left. filtered (map meant (drop (c.loop-predicate.predicate-index + 1) c.args.predicates.now)) left R
          (values_of c.args.env.now) c.args.ctx.now) c.loop-predicate.invariant.leaves
          (λ R. filter_turns c.args.predicates.now c.loop-predicate.predicate-index c.predicate-item.result c.loop-predicate.left R
          (values_of c.args.env.now) c.args.ctx.now c.loop-predicate-test.true c.predicate-item.is)
          (kept_by_kept c.predicate-item.result c.loop-predicate.left (values_of c.args.env.now) c.args.ctx.now) c.in_ok-left.ensures.went.moves
          (told_of (λ ns R. kept_by (meant c.predicate-item.result) ns R (values_of c.args.env.now) c.args.ctx.now) c.as_slice.ensures
          (told_by c.loop-predicate.invariant.went.stays c.in_ok-left.ensures.answers));
    }

pub filtered-returns-in_err-left-clause-went : goal.filtered-returns-in_err-left-clause-went
filtered-returns-in_err-left-clause-went g t c = went_on c.loop-predicate.invariant.went c.in_err-left.ensures.went

pub filtered-returns-in_err-left-clause-answers : goal.filtered-returns-in_err-left-clause-answers
filtered-returns-in_err-left-clause-answers g t c =
    says_exit c.from_residual.result c.from_residual.ensures.1
    (leaves_stops (λ R left. filtered (map meant (drop (c.loop-predicate.predicate-index + 1) c.args.predicates.now)) left R
    (values_of c.args.env.now) c.args.ctx.now) c.loop-predicate.invariant.leaves
    (λ R. filter_turns c.args.predicates.now c.loop-predicate.predicate-index c.predicate-item.result c.loop-predicate.left R
    (values_of c.args.env.now) c.args.ctx.now c.loop-predicate-test.true c.predicate-item.is) c.in_err-left.ensures.went.moves
    (told_of (λ ns R. kept_by (meant c.predicate-item.result) ns R (values_of c.args.env.now) c.args.ctx.now) c.as_slice.ensures
    (told_by c.loop-predicate.invariant.went.stays c.in_err-left.ensures.answers)))

pub filtered-returns-clause-went : goal.filtered-returns-clause-went
filtered-returns-clause-went g t c = c.loop-predicate.invariant.went

pub filtered-returns-clause-answers : goal.filtered-returns-clause-answers
filtered-returns-clause-answers g t c =
    leaves_end c.loop-predicate.invariant.leaves (moves_none _ c.loop-predicate.invariant.went.moves.seen)
    (λ R. filter_ends c.args.predicates.now c.loop-predicate.predicate-index c.loop-predicate.left R (values_of c.args.env.now) c.args.ctx.now c.loop-predicate-test.false)

-- ---- kept_by

pub kept_by-loop-node-init : goal.kept_by-loop-node-init
kept_by-loop-node-init g t c =
    record {
      went = went_none c.requires.ready.stands;
      ready = c.requires.ready;
      there = c.requires.there;
      position = refl;
      leaves = leaves_start (moves_none _ c.requires.ready.stands.seen)
          (λ R. keep_starts (holds_of c.args.predicate.now (length c.args.nodes.now) (values_of c.args.env.now) c.args.ctx.now R) c.args.nodes.now c.new-kept.result c.new-kept.ensures);
    }

pub kept_by-holds-requires : goal.kept_by-holds-requires
kept_by-holds-requires g t c κs within = (
  omega (arith, c.decreases),
  (
    within.0,
    (
      within.1,
      subst (IsReady (g.V.NodeView.sees c.loop-node.view) (g.K.KeySource.fits c.loop-node.keys) (values_of c.args.env.now)) (sym c.at_node-at.ensures)
          (ready_at _ _ _ (each_at _ _ _ c.loop-node.invariant.there c.loop-node-test.true) c.loop-node.invariant.ready),
    ),
  ),
)

pub kept_by-loop-node-preserved : goal.kept_by-loop-node-preserved
kept_by-loop-node-preserved g t c =
    record {
      went = went_on c.loop-node.invariant.went c.in_ok-here.ensures.went;
      ready = ready_on c.loop-node.invariant.ready c.in_ok-here.ensures.went;
      there = all_there_on _ _ _ c.in_ok-here.ensures.went.moves c.loop-node.invariant.there;
      position = (let e = c.loop-node.invariant.position in omega (arith, e));
      leaves = leaves_same (λ R. ap (keeping (holds_of c.args.predicate.now (length c.args.nodes.now) (values_of c.args.env.now) c.args.ctx.now R) ((c.loop-node.position + 1) + 1)
          (drop (c.loop-node.node-index + 1) c.args.nodes.now)) (sym c.in_ok-keep_if.ensures.ok))
          (leaves_on (λ R here. keeping (holds_of c.args.predicate.now (length c.args.nodes.now) (values_of c.args.env.now) c.args.ctx.now R) ((c.loop-node.position + 1) + 1)
          (drop (c.loop-node.node-index + 1) c.args.nodes.now)
          (c.loop-node.kept ++ with_if here (get_or c.args.nodes.now c.loop-node.node-index 0) [])) c.loop-node.invariant.leaves
          (λ R. keep_turns (holds_of c.args.predicate.now (length c.args.nodes.now) (values_of c.args.env.now) c.args.ctx.now R) c.args.nodes.now c.loop-node.node-index
          (c.loop-node.position + 1) c.loop-node.kept c.loop-node-test.true)
          (holds_kept c.args.predicate.now (values_of c.args.env.now)
          (at_node c.args.ctx.now (size.Known (length c.args.nodes.now)) (c.loop-node.position + 1)
          (get_or c.args.nodes.now c.loop-node.node-index 0))) c.in_ok-here.ensures.went.moves
          (told_at (holds_at (meant c.args.predicate.now))
          (c.at_node-at.ensures ∙ ap (λ z. at_node c.args.ctx.now z (c.loop-node.position + 1) (get_or c.args.nodes.now c.loop-node.node-index 0)) c.size_of-size.ensures)
          (told_by c.loop-node.invariant.went.stays c.in_ok-here.ensures.answers)));
    }

pub kept_by-returns-in_err-here-clause-went : goal.kept_by-returns-in_err-here-clause-went
kept_by-returns-in_err-here-clause-went g t c = went_on c.loop-node.invariant.went c.in_err-here.ensures.went

pub kept_by-returns-in_err-here-clause-answers : goal.kept_by-returns-in_err-here-clause-answers
kept_by-returns-in_err-here-clause-answers g t c =
    says_exit c.from_residual.result c.from_residual.ensures.1
    (leaves_stops (λ R here. keeping (holds_of c.args.predicate.now (length c.args.nodes.now) (values_of c.args.env.now) c.args.ctx.now R) ((c.loop-node.position + 1) + 1)
    (drop (c.loop-node.node-index + 1) c.args.nodes.now) (c.loop-node.kept ++ with_if here (get_or c.args.nodes.now c.loop-node.node-index 0) [])) c.loop-node.invariant.leaves
    (λ R. keep_turns (holds_of c.args.predicate.now (length c.args.nodes.now) (values_of c.args.env.now) c.args.ctx.now R) c.args.nodes.now c.loop-node.node-index
    (c.loop-node.position + 1) c.loop-node.kept c.loop-node-test.true) c.in_err-here.ensures.went.moves
    (told_at (holds_at (meant c.args.predicate.now))
    (c.at_node-at.ensures ∙ ap (λ z. at_node c.args.ctx.now z (c.loop-node.position + 1) (get_or c.args.nodes.now c.loop-node.node-index 0)) c.size_of-size.ensures)
    (told_by c.loop-node.invariant.went.stays c.in_err-here.ensures.answers)))

pub kept_by-returns-in_err-keep_if-clause-went : goal.kept_by-returns-in_err-keep_if-clause-went
kept_by-returns-in_err-keep_if-clause-went g t c = went_on c.loop-node.invariant.went c.in_ok-here.ensures.went

pub kept_by-returns-in_err-keep_if-clause-answers : goal.kept_by-returns-in_err-keep_if-clause-answers
kept_by-returns-in_err-keep_if-clause-answers g t c =
    says_exit c.from_residual-in_err-keep_if.result c.from_residual-in_err-keep_if.ensures.1 (leaves_memory c.loop-node.invariant.leaves c.in_ok-here.ensures.went.moves)

pub kept_by-returns-clause-went : goal.kept_by-returns-clause-went
kept_by-returns-clause-went g t c = c.loop-node.invariant.went

pub kept_by-returns-clause-answers : goal.kept_by-returns-clause-answers
kept_by-returns-clause-answers g t c =
    leaves_end c.loop-node.invariant.leaves (moves_none _ c.loop-node.invariant.went.moves.seen)
    (λ R. keep_ends (holds_of c.args.predicate.now (length c.args.nodes.now) (values_of c.args.env.now) c.args.ctx.now R) c.args.nodes.now c.loop-node.node-index
    (c.loop-node.position + 1) c.loop-node.kept c.loop-node-test.false)

-- ---- filter

pub filter-nodes-requires : goal.filter-nodes-requires
filter-nodes-requires g t c κs within = (let s = primary_size c.args.primary.now c.args.predicates.now c.args.tail.now in omega (arith, s, c.decreases), (within.0, (within.1, c.requires)))

pub filter-returns-in_err-found-clause-went : goal.filter-returns-in_err-found-clause-went
filter-returns-in_err-found-clause-went g t c = c.in_err-found.ensures.went

pub filter-returns-in_err-found-clause-answers : goal.filter-returns-in_err-found-clause-answers
filter-returns-in_err-found-clause-answers g t c =
    says_failed (λ R nodes. filtered (map meant c.args.predicates.now) nodes R (values_of c.args.env.now) c.args.ctx.now >>= λ left. tail_nodes
    (option_map meant_path c.args.tail.now) left R (values_of c.args.env.now) c.args.ctx.now >>= λ found. Known
    (Nodes found)) c.from_residual.result c.from_residual.ensures.1 c.in_err-found.ensures.answers

pub filter-filtered-requires : goal.filter-filtered-requires
filter-filtered-requires g t c κs within = (
  search (rules, the_lemmas),
  (
    within.0,
    (within.1, ((ready_on c.requires c.in_ok-found.ensures.went), (found_set c.args.primary.now c.requires c.in_ok-found.ensures.went c.in_ok-found.ensures.answers).1)),
  ),
)

pub filter-returns-in_err-left-clause-went : goal.filter-returns-in_err-left-clause-went
filter-returns-in_err-left-clause-went g t c = went_on c.in_ok-found.ensures.went c.in_err-left.ensures.went

pub filter-returns-in_err-left-clause-answers : goal.filter-returns-in_err-left-clause-answers
filter-returns-in_err-left-clause-answers g t c =
    says_exit c.from_residual-in_err-left.result c.from_residual-in_err-left.ensures.1
    (says_then (λ R nodes. filtered (map meant c.args.predicates.now) nodes R (values_of c.args.env.now) c.args.ctx.now >>= λ left. tail_nodes
    (option_map meant_path c.args.tail.now) left R (values_of c.args.env.now) c.args.ctx.now >>= λ found. Known (Nodes found))
    (nodes_kept c.args.primary.now (values_of c.args.env.now) c.args.ctx.now) c.in_ok-found.ensures.went.moves c.in_ok-found.ensures.answers c.in_err-left.ensures.went.moves
    (says_stops (λ R left. tail_nodes (option_map meant_path c.args.tail.now) left R (values_of c.args.env.now) c.args.ctx.now >>= λ found. Known (Nodes found))
    (told_by c.in_ok-found.ensures.went.stays c.in_err-left.ensures.answers)))

pub filter-tail_nodes-requires : goal.filter-tail_nodes-requires
filter-tail_nodes-requires g t c κs within = (
  search (rules, the_lemmas),
  (
    within.0,
    (
      within.1,
      (
        ready_on (ready_on c.requires c.in_ok-found.ensures.went) c.in_ok-left.ensures.went,
        left_there c.in_ok-found.found c.args.predicates.now
            (ready_on c.requires c.in_ok-found.ensures.went) c.in_ok-left.ensures.went
            (found_set c.args.primary.now c.requires c.in_ok-found.ensures.went c.in_ok-found.ensures.answers) c.in_ok-left.ensures.answers,
      ),
    ),
  ),
)

pub filter-returns-in_err-behind-clause-went : goal.filter-returns-in_err-behind-clause-went
filter-returns-in_err-behind-clause-went g t c = went_on (went_on c.in_ok-found.ensures.went c.in_ok-left.ensures.went) c.in_err-behind.ensures.went

pub filter-returns-in_err-behind-clause-answers : goal.filter-returns-in_err-behind-clause-answers
filter-returns-in_err-behind-clause-answers g t c =
    says_exit c.from_residual-in_err-behind.result c.from_residual-in_err-behind.ensures.1
    (says_then (λ R nodes. filtered (map meant c.args.predicates.now) nodes R (values_of c.args.env.now) c.args.ctx.now >>= λ left. tail_nodes
    (option_map meant_path c.args.tail.now) left R (values_of c.args.env.now) c.args.ctx.now >>= λ found. Known (Nodes found))
    (nodes_kept c.args.primary.now (values_of c.args.env.now) c.args.ctx.now) c.in_ok-found.ensures.went.moves c.in_ok-found.ensures.answers
    (moves_on _ _ _ c.in_ok-left.ensures.went.moves c.in_err-behind.ensures.went.moves)
    (says_then (λ R left. tail_nodes (option_map meant_path c.args.tail.now) left R (values_of c.args.env.now) c.args.ctx.now >>= λ found. Known (Nodes found))
    (filtered_kept c.args.predicates.now c.in_ok-found.found (values_of c.args.env.now) c.args.ctx.now) c.in_ok-left.ensures.went.moves
    (told_by c.in_ok-found.ensures.went.stays c.in_ok-left.ensures.answers) c.in_err-behind.ensures.went.moves
    (says_stops (λ R found. Known (Nodes found)) (told_by (went_on c.in_ok-found.ensures.went c.in_ok-left.ensures.went).stays c.in_err-behind.ensures.answers))))

pub filter-returns-clause-went : goal.filter-returns-clause-went
filter-returns-clause-went g t c = went_on (went_on c.in_ok-found.ensures.went c.in_ok-left.ensures.went) c.in_ok-behind.ensures.went

pub filter-returns-clause-answers : goal.filter-returns-clause-answers
filter-returns-clause-answers g t c =
    (says_then (λ R nodes. filtered (map meant c.args.predicates.now) nodes R (values_of c.args.env.now) c.args.ctx.now >>= λ left. tail_nodes
    (option_map meant_path c.args.tail.now) left R (values_of c.args.env.now) c.args.ctx.now >>= λ found. Known (Nodes found))
    (nodes_kept c.args.primary.now (values_of c.args.env.now) c.args.ctx.now) c.in_ok-found.ensures.went.moves c.in_ok-found.ensures.answers
    (moves_on _ _ _ c.in_ok-left.ensures.went.moves c.in_ok-behind.ensures.went.moves)
    (says_then (λ R left. tail_nodes (option_map meant_path c.args.tail.now) left R (values_of c.args.env.now) c.args.ctx.now >>= λ found. Known (Nodes found))
    (filtered_kept c.args.predicates.now c.in_ok-found.found (values_of c.args.env.now) c.args.ctx.now) c.in_ok-left.ensures.went.moves
    (told_by c.in_ok-found.ensures.went.stays c.in_ok-left.ensures.answers) c.in_ok-behind.ensures.went.moves
    (says_then_given (λ found. Known (Nodes found)) (Ok (Nodes c.in_ok-behind.behind)) c.in_ok-behind.ensures.went.moves
    (told_by (went_on c.in_ok-found.ensures.went c.in_ok-left.ensures.went).stays c.in_ok-behind.ensures.answers) refl)))

-- ---- tail_nodes

pub tail_nodes-returns-in-None-clause-went : goal.tail_nodes-returns-in-None-clause-went
tail_nodes-returns-in-None-clause-went g t c = went_none c.requires.ready.stands

pub tail_nodes-returns-in-None-clause-answers : goal.tail_nodes-returns-in-None-clause-answers
tail_nodes-returns-in-None-clause-answers g t c = says_known (λ R. ap (λ tail. tail_nodes (option_map meant_path tail) c.args.from R (values_of c.args.env.now) c.args.ctx.now) c.in-None.is)

pub tail_nodes-returns-in-Some-clause-answers : goal.tail_nodes-returns-in-Some-clause-answers
tail_nodes-returns-in-Some-clause-answers g t c =
    says_same (λ R. ap (λ tail. tail_nodes (option_map meant_path tail) c.args.from R (values_of c.args.env.now) c.args.ctx.now) c.in-Some.is
    ∙ tail_is c.in-Some.path c.args.from R (values_of c.args.env.now) c.args.ctx.now
    ∙ ap (λ ps. steps_nodes (map meant_step ps) c.args.from R (values_of c.args.env.now) c.args.ctx.now) (sym c.as_slice.ensures)) c.steps.ensures.answers

pub tail_nodes-steps-requires : goal.tail_nodes-steps-requires
tail_nodes-steps-requires g t c κs within = (search (rules, the_lemmas), (within.0, (within.1, (c.requires.ready, c.requires.there))))

pub tail_nodes-returns-in-Some-clause-went : goal.tail_nodes-returns-in-Some-clause-went
tail_nodes-returns-in-Some-clause-went g t c = c.steps.ensures.went

-- ---- first

pub first-returns-in_err-place-clause-went : goal.first-returns-in_err-place-clause-went
first-returns-in_err-place-clause-went g t c = went_none c.requires.stands

pub first-returns-in_err-place-clause-answers : goal.first-returns-in_err-place-clause-answers
first-returns-in_err-place-clause-answers g t c = says_exit c.from_residual.result c.from_residual.ensures.1 says_memory

pub first-next_item-requires : goal.first-next_item-requires
first-next_item-requires g t c κs within = (
  search (rules, the_lemmas),
  let s = g.V.NodeView.sees c.args.view.now in (
    within.0,
    (
      within.1,
      (
        c.requires,
        begun_place s.rules s.steps c.as_slice-parts.result.now c.start_of-start.result c.in_ok-place.place
            (subst (IsThere s.rules s.steps) (sym c.start_of-start.ensures) (begins_there c.requires c.args.path.now)) c.in_ok-place.ensures,
      ),
    ),
  ),
)

pub first-returns-clause-went : goal.first-returns-clause-went
first-returns-clause-went g t c = c.next_item.ensures.went

pub first-returns-clause-answers : goal.first-returns-clause-answers
first-returns-clause-answers g t c =
    let begun = subst (λ ps. IsBegun ps (start_of (meant_path c.args.path.now) c.args.ctx.now) c.in_ok-place.place) c.as_slice-parts.ensures
    (subst (λ n. IsBegun c.as_slice-parts.result.now n c.in_ok-place.place) c.start_of-start.ensures c.in_ok-place.ensures) in
    says_same (λ R. ap first_item (begun_left c.args.path.now c.in_ok-place.place R (values_of c.args.env.now) c.args.ctx.now begun
    ∙ ap (λ ps. left_at ps c.in_ok-place.place R (values_of c.args.env.now) c.args.ctx.now) (sym c.as_slice-parts.ensures))) c.next_item.ensures.answers

-- ---- next_item

pub next_item-walk-init : goal.next_item-walk-init
next_item-walk-init g t c = record {
  went = went_none c.requires.ready.stands;
  ready = c.requires.ready;
  place = c.requires.place;
  left = λ q h l. refl;
}

pub next_item-come-requires : goal.next_item-come-requires
next_item-come-requires g t c = let f = c.walk.invariant.place.few in omega (arith, f)

pub next_item-returns-in_err-turn-clause-went : goal.next_item-returns-in_err-turn-clause-went
next_item-returns-in_err-turn-clause-went g t c = c.walk.invariant.went

pub next_item-returns-in_err-turn-clause-answers : goal.next_item-returns-in_err-turn-clause-answers
next_item-returns-in_err-turn-clause-answers g t c = says_exit c.from_residual.result c.from_residual.ensures.1 says_memory

pub next_item-returns-in_err-turn-clause-place : goal.next_item-returns-in_err-turn-clause-place
next_item-returns-in_err-turn-clause-place g t c =
    subst (IsPlace (g.V.NodeView.sees c.walk.view).rules (g.V.NodeView.sees c.walk.view).steps c.args.parts.now) (sym c.in_err-turn.ensures.err) c.walk.invariant.place

pub next_item-returns-in_err-turn-clause-left : goal.next_item-returns-in_err-turn-clause-left
next_item-returns-in_err-turn-clause-left g t c = left_exit (λ d. d ≡ Memory) _ _ _ c.args.parts.now (values_of c.args.env.now) c.args.ctx.now _ _ c.from_residual.result c.from_residual.ensures.1
    (λ q h l. c.walk.invariant.left q h l
    ∙ ap (λ (place : Place). left_at c.args.parts.now place (reading_by (g.K.KeySource.made c.args.keys.now).lookups (g.V.NodeView.sees c.walk.view).rules q)
    (values_of c.args.env.now) c.args.ctx.now) (sym c.in_err-turn.ensures.err))

pub next_item-returns-in-Item-clause-went : goal.next_item-returns-in-Item-clause-went
next_item-returns-in-Item-clause-went g t c = c.walk.invariant.went

pub next_item-returns-in-Item-clause-answers : goal.next_item-returns-in-Item-clause-answers
next_item-returns-in-Item-clause-answers g t c =
    let k = subst (λ x. Comes (length c.args.parts.now) x c.walk.place c.come.new.self) c.in-Item.is c.in_ok-turn.ensures.ok in
    gave (values_of c.args.env.now) c.args.ctx.now c.args.parts.now c.args.place.now c.walk.place (Some c.in-Item.n) c.walk.invariant.went.moves c.walk.invariant.left
    (ap first_item (item_left c.args.parts.now c.in-Item.n c.walk.place c.come.new.self
    (reading_by (g.K.KeySource.made c.args.keys.now).lookups (g.V.NodeView.sees c.walk.view).rules (g.V.NodeView.sees c.walk.view).steps) (values_of c.args.env.now) c.args.ctx.now k))

pub next_item-returns-in-Item-clause-place : goal.next_item-returns-in-Item-clause-place
next_item-returns-in-Item-clause-place g t c =
    let k = subst (λ x. Comes (length c.args.parts.now) x c.walk.place c.come.new.self) c.in-Item.is c.in_ok-turn.ensures.ok in
    item_place _ _ c.args.parts.now c.in-Item.n c.walk.place c.come.new.self c.walk.invariant.place k

pub next_item-returns-in-Item-clause-left : goal.next_item-returns-in-Item-clause-left
next_item-returns-in-Item-clause-left g t c =
    let k = subst (λ x. Comes (length c.args.parts.now) x c.walk.place c.come.new.self) c.in-Item.is c.in_ok-turn.ensures.ok in
    record {
      left = λ q h l. c.walk.invariant.left q h l
          ∙ item_left c.args.parts.now c.in-Item.n c.walk.place c.come.new.self (reading_by (g.K.KeySource.made c.args.keys.now).lookups (g.V.NodeView.sees c.walk.view).rules q)
          (values_of c.args.env.now) c.args.ctx.now k;
    }

pub next_item-returns-in-End-clause-went : goal.next_item-returns-in-End-clause-went
next_item-returns-in-End-clause-went g t c = c.walk.invariant.went

pub next_item-returns-in-End-clause-answers : goal.next_item-returns-in-End-clause-answers
next_item-returns-in-End-clause-answers g t c =
    let k = subst (λ x. Comes (length c.args.parts.now) x c.walk.place c.come.new.self) c.in-End.is c.in_ok-turn.ensures.ok in
    gave (values_of c.args.env.now) c.args.ctx.now c.args.parts.now c.args.place.now c.walk.place None c.walk.invariant.went.moves c.walk.invariant.left
    (ap first_item (end_left c.args.parts.now c.walk.place c.come.new.self
    (reading_by (g.K.KeySource.made c.args.keys.now).lookups (g.V.NodeView.sees c.walk.view).rules (g.V.NodeView.sees c.walk.view).steps) (values_of c.args.env.now) c.args.ctx.now k))

pub next_item-returns-in-End-clause-place : goal.next_item-returns-in-End-clause-place
next_item-returns-in-End-clause-place g t c =
    let k = subst (λ x. Comes (length c.args.parts.now) x c.walk.place c.come.new.self) c.in-End.is c.in_ok-turn.ensures.ok in
    subst (IsPlace (g.V.NodeView.sees c.walk.view).rules (g.V.NodeView.sees c.walk.view).steps c.args.parts.now) (sym k.2) c.walk.invariant.place

pub next_item-returns-in-End-clause-left : goal.next_item-returns-in-End-clause-left
next_item-returns-in-End-clause-left g t c =
    let k = subst (λ x. Comes (length c.args.parts.now) x c.walk.place c.come.new.self) c.in-End.is c.in_ok-turn.ensures.ok in
    record {
      left = λ q h l. c.walk.invariant.left q h l
          ∙ ap (λ (place : Place). left_at c.args.parts.now place (reading_by (g.K.KeySource.made c.args.keys.now).lookups (g.V.NodeView.sees c.walk.view).rules q)
          (values_of c.args.env.now) c.args.ctx.now) (sym k.2);
    }

pub next_item-bounds-parts-at : goal.next_item-bounds-parts-at
next_item-bounds-parts-at g t c =
    let k = subst (λ x. Comes (length c.args.parts.now) x c.walk.place c.come.new.self) c.in-Child.is c.in_ok-turn.ensures.ok in
    let p = child_place _ _ c.args.parts.now c.in-Child.at c.walk.place c.come.new.self c.walk.invariant.place k in
    let e = k.0 in let f = p.few in omega (arith, e, f)

pub next_item-level_at-level-requires : goal.next_item-level_at-level-requires
next_item-level_at-level-requires g t c =
    let k = subst (λ x. Comes (length c.args.parts.now) x c.walk.place c.come.new.self) c.in-Child.is c.in_ok-turn.ensures.ok in
    let e = k.0 in omega (arith, e)

pub next_item-test_at-test-requires : goal.next_item-test_at-test-requires
next_item-test_at-test-requires g t c =
    let k = subst (λ x. Comes (length c.args.parts.now) x c.walk.place c.come.new.self) c.in-Child.is c.in_ok-turn.ensures.ok in
    let p = child_place _ _ c.args.parts.now c.in-Child.at c.walk.place c.come.new.self c.walk.invariant.place k in
    let e = k.0 in let f = p.few in let n = ap length p.tests in let m = length-map c.args.parts.now test_in in omega (arith, e, f, n, m)

pub next_item-next_child-requires : goal.next_item-next_child-requires
next_item-next_child-requires g t c κs within = (
  let k = subst (λ x. Comes (length c.args.parts.now) x c.walk.place c.come.new.self) c.in-Child.is c.in_ok-turn.ensures.ok in
      let inside = child_inside _ _ c.args.parts.now c.in-Child.at c.walk.place c.come.new.self c.walk.invariant.place k in
      search (rules, the_lemmas),
  let k = subst (λ x. Comes (length c.args.parts.now) x c.walk.place c.come.new.self) c.in-Child.is c.in_ok-turn.ensures.ok in
      let p = child_place _ _ c.args.parts.now c.in-Child.at c.walk.place c.come.new.self c.walk.invariant.place k in
      let inside = child_inside _ _ c.args.parts.now c.in-Child.at c.walk.place c.come.new.self c.walk.invariant.place k in
      let part = get_some c.args.parts.now c.in-Child.at c.index-parts-at.result inside c.index-parts-at.is in (
        within.0,
        (
          within.1,
          (
            c.walk.invariant.ready,
            (
              test_at _ _ c.args.parts.now c.come.new.self c.in-Child.at c.index-parts-at.result _ p part c.test_at-test.ensures,
              each_get
                  (IsLevel (g.V.NodeView.sees c.walk.view).rules (g.V.NodeView.sees c.walk.view).steps) c.come.new.self.levels c.in-Child.at _ p.levels c.level_at-level.ensures,
            ),
          ),
        ),
      ),
)

pub next_item-returns-in_err-child-in-Child-clause-went : goal.next_item-returns-in_err-child-in-Child-clause-went
next_item-returns-in_err-child-in-Child-clause-went g t c = went_on c.walk.invariant.went c.in_err-child-in-Child.ensures.went

pub next_item-returns-in_err-child-in-Child-clause-answers : goal.next_item-returns-in_err-child-in-Child-clause-answers
next_item-returns-in_err-child-in-Child-clause-answers g t c =
    let k = subst (λ x. Comes (length c.args.parts.now) x c.walk.place c.come.new.self) c.in-Child.is c.in_ok-turn.ensures.ok in
    let p = child_place _ _ c.args.parts.now c.in-Child.at c.walk.place c.come.new.self c.walk.invariant.place k in
    let inside = child_inside _ _ c.args.parts.now c.in-Child.at c.walk.place c.come.new.self c.walk.invariant.place k in
    let part = get_some c.args.parts.now c.in-Child.at c.index-parts-at.result inside c.index-parts-at.is in
    says_exit c.from_residual-in_err-child-in-Child.result c.from_residual-in_err-child-in-Child.ensures.1
    (stopped (values_of c.args.env.now) c.args.ctx.now c.args.parts.now c.args.place.now c.come.new.self c.walk.invariant.went.moves c.in_err-child-in-Child.ensures.went.moves
    (λ q h l. c.walk.invariant.left q h l
    ∙ child_left_same c.args.parts.now c.in-Child.at c.walk.place c.come.new.self
    (reading_by (g.K.KeySource.made c.args.keys.now).lookups (g.V.NodeView.sees c.walk.view).rules q) (values_of c.args.env.now) c.args.ctx.now k)
    (level_stops (values_of c.args.env.now) c.args.ctx.now c.args.parts.now c.index-parts-at.result c.in-Child.at _ c.come.new.self
    (child_none (length c.args.parts.now) c.in-Child.at c.walk.place c.come.new.self k) k.0 c.level_at-level.ensures part
    (λ inside. told_by c.walk.invariant.went.stays (c.in_err-child-in-Child.ensures.stops inside))))

pub next_item-returns-in_err-child-in-Child-clause-place : goal.next_item-returns-in_err-child-in-Child-clause-place
next_item-returns-in_err-child-in-Child-clause-place g t c =
    let k = subst (λ x. Comes (length c.args.parts.now) x c.walk.place c.come.new.self) c.in-Child.is c.in_ok-turn.ensures.ok in
    place_on _ _ c.args.parts.now c.come.new.self c.in_err-child-in-Child.ensures.went.moves (child_place _ _ c.args.parts.now c.in-Child.at c.walk.place c.come.new.self c.walk.invariant.place k)

pub next_item-returns-in_err-child-in-Child-clause-left : goal.next_item-returns-in_err-child-in-Child-clause-left
next_item-returns-in_err-child-in-Child-clause-left g t c =
    let k = subst (λ x. Comes (length c.args.parts.now) x c.walk.place c.come.new.self) c.in-Child.is c.in_ok-turn.ensures.ok in
    left_exit (λ d. d ≡ c.in_err-child-in-Child.field-0.0) _ _ _ c.args.parts.now
    (values_of c.args.env.now) c.args.ctx.now _ _ c.from_residual-in_err-child-in-Child.result c.from_residual-in_err-child-in-Child.ensures.1
    (left_later (g.K.KeySource.made c.args.keys.now).lookups
    (values_of c.args.env.now) c.args.ctx.now c.args.parts.now c.args.place.now c.come.new.self c.in_err-child-in-Child.ensures.went.moves
    (λ q h l. c.walk.invariant.left q h l
    ∙ child_left_same c.args.parts.now c.in-Child.at c.walk.place c.come.new.self
    (reading_by (g.K.KeySource.made c.args.keys.now).lookups (g.V.NodeView.sees c.walk.view).rules q) (values_of c.args.env.now) c.args.ctx.now k))

pub next_item-go_on-requires : goal.next_item-go_on-requires
next_item-go_on-requires g t c =
    let k = subst (λ x. Comes (length c.args.parts.now) x c.walk.place c.come.new.self) c.in-Child.is c.in_ok-turn.ensures.ok in
    let e = k.0 in omega (arith, e)

pub next_item-walk-smaller : goal.next_item-walk-smaller
next_item-walk-smaller g t c =
    let k = subst (λ x. Comes (length c.args.parts.now) x c.walk.place c.come.new.self) c.in-Child.is c.in_ok-turn.ensures.ok in
    let moves = c.in_ok-child-in-Child.ensures.went.moves in
    let p = child_place _ _ c.args.parts.now c.in-Child.at c.walk.place c.come.new.self c.walk.invariant.place k in
    turn_weight _ _ c.args.parts.now c.in-Child.at _ c.in_ok-child-in-Child.child c.walk.place c.come.new.self c.go_on.new.self moves.seen.lawful
    (place_on _ _ c.args.parts.now c.come.new.self moves p) k c.level_at-level.ensures c.in_ok-child-in-Child.ensures.child.stands c.go_on.ensures

pub next_item-walk-preserved : goal.next_item-walk-preserved
next_item-walk-preserved g t c =
    let k = subst (λ x. Comes (length c.args.parts.now) x c.walk.place c.come.new.self) c.in-Child.is c.in_ok-turn.ensures.ok in
    let moves = c.in_ok-child-in-Child.ensures.went.moves in
    let p = child_place _ _ c.args.parts.now c.in-Child.at c.walk.place c.come.new.self c.walk.invariant.place k in
    let inside = child_inside _ _ c.args.parts.now c.in-Child.at c.walk.place c.come.new.self c.walk.invariant.place k in
    let part = get_some c.args.parts.now c.in-Child.at c.index-parts-at.result inside c.index-parts-at.is in
    let none = child_none (length c.args.parts.now) c.in-Child.at c.walk.place c.come.new.self k in
    record {
      went = went_on c.walk.invariant.went c.in_ok-child-in-Child.ensures.went;
      ready = ready_on c.walk.invariant.ready c.in_ok-child-in-Child.ensures.went;
      place = place_goes_on _ _ c.args.parts.now c.in-Child.at _ c.in_ok-child-in-Child.child c.come.new.self c.go_on.new.self
          (place_on _ _ c.args.parts.now c.come.new.self moves p) none c.level_at-level.ensures c.in_ok-child-in-Child.ensures.child.stands c.go_on.ensures;
      left = λ q h l. left_later (g.K.KeySource.made c.args.keys.now).lookups (values_of c.args.env.now) c.args.ctx.now c.args.parts.now c.args.place.now c.come.new.self moves
          (λ q h l. c.walk.invariant.left q h l
          ∙ child_left_same c.args.parts.now c.in-Child.at c.walk.place c.come.new.self
          (reading_by (g.K.KeySource.made c.args.keys.now).lookups (g.V.NodeView.sees c.walk.view).rules q) (values_of c.args.env.now) c.args.ctx.now k) q h l
          ∙ left_moves_on _ _ _ c.args.parts.now
          (values_of c.args.env.now) c.args.ctx.now c.in-Child.at c.index-parts-at.result _ c.in_ok-child-in-Child.child c.come.new.self c.go_on.new.self none k.0 c.level_at-level.ensures part
          (follows_by _ _ _ _ _ _ _ c.walk.invariant.went.stays c.in_ok-child-in-Child.ensures.child) c.go_on.ensures q h l;
    }

-- ---- next_child

pub next_child-next-requires : goal.next_child-next-requires
next_child-next-requires g t c =
    stream_of_level (g.V.NodeView.sees c.args.view.now) c.args.level.now c.requires.level

pub next_child-returns-in-Nothing-clause-child : goal.next_child-returns-in-Nothing-clause-child
next_child-returns-in-Nothing-clause-child g t c =
    follows_none _ _ _ _ _ _ _ _ c.next.ensures.moves c.requires.level c.in-Nothing.ensures.value

pub next_child-returns-in-NotYet-clause-stops : goal.next_child-returns-in-NotYet-clause-stops
next_child-returns-in-NotYet-clause-stops g t c =
    stops_none _ _ _ (meant_step c.args.part.now) c.args.level.now (values_of c.args.env.now) c.args.ctx.now _ c.next.ensures.moves c.requires.level c.in-NotYet.ensures.value

pub next_child-returns-then-not-meets-clause-child : goal.next_child-returns-then-not-meets-clause-child
next_child-returns-then-not-meets-clause-child g t c =
    let w = came _ _ _ c.args.part.now c.args.test.now c.args.level.now _ c.in-Node.k c.meets.result c.next.ensures.moves c.meets.ensures.moves c.requires.level
    c.in-Node.ensures.value c.requires.test c.meets.ensures.value in
    came_other _ (values_of c.args.env.now) c.args.ctx.now w c.if-not-meets.true

pub next_child-tested-requires : goal.next_child-tested-requires
next_child-tested-requires g t c κs within = (
  search (rules, the_lemmas),
  let w = came _ _ _ c.args.part.now c.args.test.now c.args.level.now _ c.in-Node.k c.meets.result c.next.ensures.moves c.meets.ensures.moves c.requires.level
      c.in-Node.ensures.value c.requires.test c.meets.ensures.value in (
        within.0,
        (
          within.1,
          (
            ready_moves (g.met.K.KeySource.goes_on c.args.keys.now) (moves_on _ _ _ c.next.ensures.moves c.meets.ensures.moves) c.requires.ready,
            (stepped_there _ _ _ _ _ w.stepped, counts_few (g.V.NodeView.sees c.meets.new.view) c.args.level.now c.in-Node.k _ c.meets.ensures.moves.seen w.there w.stepped c.as_slice-counts.ensures),
          ),
        ),
      ),
)

pub next_child-returns-in_err-tested-in-Node-clause-stops : goal.next_child-returns-in_err-tested-in-Node-clause-stops
next_child-returns-in_err-tested-in-Node-clause-stops g t c =
    let w = came _ _ _ c.args.part.now c.args.test.now c.args.level.now _ c.in-Node.k c.meets.result c.next.ensures.moves c.meets.ensures.moves c.requires.level
    c.in-Node.ensures.value c.requires.test c.meets.ensures.value in
    stops_exit _ (meant_step c.args.part.now) c.args.level.now (values_of c.args.env.now) c.args.ctx.now _ _ _ c.from_residual.result c.from_residual.ensures.1
    (came_stops (values_of c.args.env.now) c.args.ctx.now _ c.as_slice-predicates.result.now c.as_slice-counts.result.now w c.if-not-meets.false
    c.in_err-tested-in-Node.ensures.went.moves c.as_slice-predicates.ensures c.as_slice-counts.ensures c.in_err-tested-in-Node.ensures.answers)

pub next_child-returns-in_ok-tested-in-Node-clause-child : goal.next_child-returns-in_ok-tested-in-Node-clause-child
next_child-returns-in_ok-tested-in-Node-clause-child g t c =
    let w = came _ _ _ c.args.part.now c.args.test.now c.args.level.now _ c.in-Node.k c.meets.result c.next.ensures.moves c.meets.ensures.moves c.requires.level
    c.in-Node.ensures.value c.requires.test c.meets.ensures.value in
    came_tested _ (values_of c.args.env.now) c.args.ctx.now c.in_ok-tested-in-Node.tested c.as_slice-predicates.result.now c.as_slice-counts.result.now w
    c.if-not-meets.false c.in_ok-tested-in-Node.ensures.went.moves c.as_slice-predicates.ensures c.as_slice-counts.ensures c.in_ok-tested-in-Node.ensures.answers

-- ---- tested

pub tested-loop-predicate-init : goal.tested-loop-predicate-init
tested-loop-predicate-init g t c =
    record {
      went = went_none c.requires.ready.stands;
      ready = c.requires.ready;
      there = c.requires.node;
      long = ap length c.new-after.ensures;
      leaves = leaves_start (moves_none _ c.requires.ready.stands.seen)
          (λ R. test_starts c.args.predicates.now c.args.counts.now c.args.n c.new-after.result R (values_of c.args.env.now) c.args.ctx.now c.new-after.ensures);
    }

pub tested-holds-requires : goal.tested-holds-requires
tested-holds-requires g t c κs within = (
  search (rules, the_lemmas),
  (
    within.0,
    (
      within.1,
      subst (IsReady (g.V.NodeView.sees c.loop-predicate.view) (g.K.KeySource.fits c.loop-predicate.keys) (values_of c.args.env.now)) (sym c.at_node-at.ensures)
          (ready_at _ _ _ c.loop-predicate.invariant.there c.loop-predicate.invariant.ready),
    ),
  ),
)

pub tested-returns-in_err-here-clause-went : goal.tested-returns-in_err-here-clause-went
tested-returns-in_err-here-clause-went g t c =
    went_on c.loop-predicate.invariant.went c.in_err-here.ensures.went

pub tested-returns-in_err-here-clause-answers : goal.tested-returns-in_err-here-clause-answers
tested-returns-in_err-here-clause-answers g t c =
    says_exit (tested_in c.from_residual.result) (exit_tested _ c.from_residual.result c.from_residual.ensures.1)
    (leaves_stops (λ R here. on_test here
    (tested (map meant (drop (c.loop-predicate.predicate-index + 1) c.args.predicates.now)) (drop (c.loop-predicate.predicate-index + 1) c.args.counts.now) c.args.n R
    (values_of c.args.env.now) c.args.ctx.now) (suc (first_count (drop c.loop-predicate.predicate-index c.args.counts.now)))
    (drop (c.loop-predicate.predicate-index + 1) c.args.counts.now) c.loop-predicate.after) c.loop-predicate.invariant.leaves
    (λ R. test_turns c.args.predicates.now c.loop-predicate.predicate-index c.predicate-item.result c.args.counts.now c.args.n c.loop-predicate.after R
    (values_of c.args.env.now) c.args.ctx.now c.loop-predicate-test.true c.predicate-item.is) c.in_err-here.ensures.went.moves
    (told_at (holds_at (meant c.predicate-item.result))
    (c.at_node-at.ensures ∙ ap (λ p. at_node c.args.ctx.now size.Unasked p c.args.n)
    (ap (λ k. k + 1) (c.count_at-position.ensures ∙ ap (λ k. first_count (drop k c.args.counts.now)) (c.len.ensures ∙ c.loop-predicate.invariant.long))
    ∙ add-one (first_count (drop c.loop-predicate.predicate-index c.args.counts.now)))) (told_by c.loop-predicate.invariant.went.stays c.in_err-here.ensures.answers)))

pub tested-returns-in_err-push-clause-went : goal.tested-returns-in_err-push-clause-went
tested-returns-in_err-push-clause-went g t c =
    went_on c.loop-predicate.invariant.went c.in_ok-here.ensures.went

pub tested-returns-in_err-push-clause-answers : goal.tested-returns-in_err-push-clause-answers
tested-returns-in_err-push-clause-answers g t c =
    says_exit (tested_in c.from_residual-in_err-push.result) (exit_tested _ c.from_residual-in_err-push.result c.from_residual-in_err-push.ensures.1)
    (leaves_memory c.loop-predicate.invariant.leaves c.in_ok-here.ensures.went.moves)

pub tested-loop-predicate-preserved : goal.tested-loop-predicate-preserved
tested-loop-predicate-preserved g t c =
    record {
      went = went_on c.loop-predicate.invariant.went c.in_ok-here.ensures.went;
      ready = ready_on c.loop-predicate.invariant.ready c.in_ok-here.ensures.went;
      there = there_on _ _ _ c.in_ok-here.ensures.went.moves c.loop-predicate.invariant.there;
      long = (let e = ap length c.in_ok-push.ensures.ok in let l = length-append c.loop-predicate.after ((c.count_at-position.result + 1) ∷ []) in let k =
          c.loop-predicate.invariant.long in omega (arith, e, l, k));
      leaves = leaves_same (λ R. ap (λ b. on_test b
          (tested (map meant (drop (c.loop-predicate.predicate-index + 1) c.args.predicates.now)) (drop (c.loop-predicate.predicate-index + 1) c.args.counts.now) c.args.n R
          (values_of c.args.env.now) c.args.ctx.now) (suc (first_count (drop c.loop-predicate.predicate-index c.args.counts.now)))
          (drop (c.loop-predicate.predicate-index + 1) c.args.counts.now) c.loop-predicate.after) c.if-not-here.false
          ∙ ap (λ k. testing (drop (c.loop-predicate.predicate-index + 1) c.args.predicates.now) (drop (c.loop-predicate.predicate-index + 1) c.args.counts.now) c.args.n
          (c.loop-predicate.after ++ k ∷ []) R (values_of c.args.env.now) c.args.ctx.now)
          (sym (ap (λ k. k + 1) (c.count_at-position.ensures ∙ ap (λ k. first_count (drop k c.args.counts.now)) (c.len.ensures ∙ c.loop-predicate.invariant.long))
          ∙ add-one (first_count (drop c.loop-predicate.predicate-index c.args.counts.now))))
          ∙ ap (λ a. testing (drop (c.loop-predicate.predicate-index + 1) c.args.predicates.now) (drop (c.loop-predicate.predicate-index + 1) c.args.counts.now) c.args.n a R
          (values_of c.args.env.now) c.args.ctx.now) (sym c.in_ok-push.ensures.ok))
          (leaves_on (λ R here. on_test here
          (tested (map meant (drop (c.loop-predicate.predicate-index + 1) c.args.predicates.now)) (drop (c.loop-predicate.predicate-index + 1) c.args.counts.now) c.args.n R
          (values_of c.args.env.now) c.args.ctx.now) (suc (first_count (drop c.loop-predicate.predicate-index c.args.counts.now)))
          (drop (c.loop-predicate.predicate-index + 1) c.args.counts.now) c.loop-predicate.after) c.loop-predicate.invariant.leaves
          (λ R. test_turns c.args.predicates.now c.loop-predicate.predicate-index c.predicate-item.result c.args.counts.now c.args.n c.loop-predicate.after R
          (values_of c.args.env.now) c.args.ctx.now c.loop-predicate-test.true c.predicate-item.is)
          (holds_kept c.predicate-item.result (values_of c.args.env.now)
          (at_node c.args.ctx.now size.Unasked (suc (first_count (drop c.loop-predicate.predicate-index c.args.counts.now))) c.args.n)) c.in_ok-here.ensures.went.moves
          (told_at (holds_at (meant c.predicate-item.result))
          (c.at_node-at.ensures ∙ ap (λ p. at_node c.args.ctx.now size.Unasked p c.args.n)
          (ap (λ k. k + 1) (c.count_at-position.ensures ∙ ap (λ k. first_count (drop k c.args.counts.now)) (c.len.ensures ∙ c.loop-predicate.invariant.long))
          ∙ add-one (first_count (drop c.loop-predicate.predicate-index c.args.counts.now)))) (told_by c.loop-predicate.invariant.went.stays c.in_ok-here.ensures.answers)));
    }

pub tested-returns-then-not-here-clause-went : goal.tested-returns-then-not-here-clause-went
tested-returns-then-not-here-clause-went g t c =
    went_on c.loop-predicate.invariant.went c.in_ok-here.ensures.went

pub tested-returns-then-not-here-clause-answers : goal.tested-returns-then-not-here-clause-answers
tested-returns-then-not-here-clause-answers g t c =
    let long : length c.push.new.self ≡ c.loop-predicate.predicate-index + 1 =
    (let e = ap length c.in_ok-push.ensures.ok in let l = length-append c.loop-predicate.after ((c.count_at-position.result + 1) ∷ []) in let k =
    c.loop-predicate.invariant.long in omega (arith, e, l, k)) in
    finishes c.push.new.self c.args.counts.now false c.finished.result
    (leaves_on (λ R here. on_test here
    (tested (map meant (drop (c.loop-predicate.predicate-index + 1) c.args.predicates.now)) (drop (c.loop-predicate.predicate-index + 1) c.args.counts.now) c.args.n R
    (values_of c.args.env.now) c.args.ctx.now) (suc (first_count (drop c.loop-predicate.predicate-index c.args.counts.now)))
    (drop (c.loop-predicate.predicate-index + 1) c.args.counts.now) c.loop-predicate.after) c.loop-predicate.invariant.leaves
    (λ R. test_turns c.args.predicates.now c.loop-predicate.predicate-index c.predicate-item.result c.args.counts.now c.args.n c.loop-predicate.after R
    (values_of c.args.env.now) c.args.ctx.now c.loop-predicate-test.true c.predicate-item.is)
    (holds_kept c.predicate-item.result (values_of c.args.env.now)
    (at_node c.args.ctx.now size.Unasked (suc (first_count (drop c.loop-predicate.predicate-index c.args.counts.now))) c.args.n)) c.in_ok-here.ensures.went.moves
    (told_at (holds_at (meant c.predicate-item.result))
    (c.at_node-at.ensures ∙ ap (λ p. at_node c.args.ctx.now size.Unasked p c.args.n)
    (ap (λ k. k + 1) (c.count_at-position.ensures ∙ ap (λ k. first_count (drop k c.args.counts.now)) (c.len.ensures ∙ c.loop-predicate.invariant.long))
    ∙ add-one (first_count (drop c.loop-predicate.predicate-index c.args.counts.now)))) (told_by c.loop-predicate.invariant.went.stays c.in_ok-here.ensures.answers)))
    (moves_none _ c.in_ok-here.ensures.went.moves.seen)
    (λ R. ap (λ b. on_test b (tested (map meant (drop (c.loop-predicate.predicate-index + 1) c.args.predicates.now))
    (drop (c.loop-predicate.predicate-index + 1) c.args.counts.now) c.args.n R (values_of c.args.env.now) c.args.ctx.now)
    (suc (first_count (drop c.loop-predicate.predicate-index c.args.counts.now))) (drop (c.loop-predicate.predicate-index + 1) c.args.counts.now) c.loop-predicate.after) c.if-not-here.true
    ∙ ap (λ a. Known (record { counts = a ++ drop (c.loop-predicate.predicate-index + 1) c.args.counts.now; passed = false }))
    (ap (λ k. c.loop-predicate.after ++ k ∷ [])
    (sym (ap (λ k. k + 1) (c.count_at-position.ensures ∙ ap (λ k. first_count (drop k c.args.counts.now)) (c.len.ensures ∙ c.loop-predicate.invariant.long))
    ∙ add-one (first_count (drop c.loop-predicate.predicate-index c.args.counts.now)))) ∙ sym c.in_ok-push.ensures.ok)
    ∙ ap (λ k. Known (record { counts = c.push.new.self ++ drop k c.args.counts.now; passed = false })) (sym long)) c.finished.ensures

pub tested-returns-clause-went : goal.tested-returns-clause-went
tested-returns-clause-went g t c =
    c.loop-predicate.invariant.went

pub tested-returns-clause-answers : goal.tested-returns-clause-answers
tested-returns-clause-answers g t c =
    finishes c.loop-predicate.after c.args.counts.now true c.finished-2.result c.loop-predicate.invariant.leaves (moves_none _ c.loop-predicate.invariant.went.moves.seen)
    (λ R. test_ends c.args.predicates.now c.loop-predicate.predicate-index c.args.counts.now c.args.n c.loop-predicate.after R
    (values_of c.args.env.now) c.args.ctx.now c.loop-predicate-test.false
    ∙ ap (λ k. Known (record { counts = c.loop-predicate.after ++ drop k c.args.counts.now; passed = true })) (sym c.loop-predicate.invariant.long)) c.finished-2.ensures
