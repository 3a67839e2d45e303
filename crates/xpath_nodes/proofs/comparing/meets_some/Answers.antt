use Rattle.std.proofs.Common.{◌+◌, ◌∙◌, ap, sym, refl, drop, true, false, cond, Err}
use Rattle.doc_model.specs.Answers.{Known}
use Rattle.xpath_meaning.specs.Comparisons.{compare_atoms}
use Rattle.xpath_meaning.specs.Outcome.{◌>>=◌}
use Rattle.key_sources.proofs.Saying.{gives_stops, gives_exit, gives_same}
use Rattle.xpath_nodes.specs.Pairs.{meets_some}
use Rattle.xpath_nodes.proofs.Meeting.{some_turn}
use Rattle.xpath_nodes.proofs.Turning.{no_rest}
use Rattle.xpath_nodes.proofs.comparing.meets_some.Goals as goal

pub loop-b-init : goal.loop-b-init
loop-b-init c = refl

pub returns-in_err-here : goal.returns-in_err-here
returns-in_err-here c = gives_exit (meets_some c.args.op c.args.a.now c.args.atoms.now) c.from_residual.result c.in_err-here.field-0.0 c.from_residual.ensures.1
    (gives_same (compare_atoms c.args.op c.args.a.now c.b-item.result >>= λ here. cond here (Known true)
    (meets_some c.args.op c.args.a.now (drop (c.loop-b.b-index + 1) c.args.atoms.now))) (meets_some c.args.op c.args.a.now c.args.atoms.now) (Err c.in_err-here.field-0.0)
    (sym (some_turn c.args.op c.args.a.now c.args.atoms.now c.loop-b.b-index c.b-item.result c.loop-b-test.true c.b-item.is) ∙ c.loop-b.invariant)
    (gives_stops (compare_atoms c.args.op c.args.a.now c.b-item.result)
    (λ here. cond here (Known true) (meets_some c.args.op c.args.a.now (drop (c.loop-b.b-index + 1) c.args.atoms.now))) c.in_err-here.field-0.0 c.in_err-here.ensures))

pub returns-then-here : goal.returns-then-here
returns-then-here c = sym c.loop-b.invariant ∙ some_turn c.args.op c.args.a.now c.args.atoms.now c.loop-b.b-index c.b-item.result c.loop-b-test.true c.b-item.is
    ∙ ap (λ o. o >>= λ here. cond here (Known true) (meets_some c.args.op c.args.a.now (drop (c.loop-b.b-index + 1) c.args.atoms.now))) (c.in_ok-here.ensures ∙ ap Known c.if-here.true)

pub loop-b-preserved : goal.loop-b-preserved
loop-b-preserved c =
    sym (some_turn c.args.op c.args.a.now c.args.atoms.now c.loop-b.b-index c.b-item.result c.loop-b-test.true c.b-item.is
    ∙ ap (λ o. o >>= λ here. cond here (Known true) (meets_some c.args.op c.args.a.now (drop (c.loop-b.b-index + 1) c.args.atoms.now))) (c.in_ok-here.ensures ∙ ap Known c.if-here.false))
    ∙ c.loop-b.invariant

pub returns : goal.returns
returns c = sym c.loop-b.invariant ∙ ap (meets_some c.args.op c.args.a.now) (no_rest c.args.atoms.now c.loop-b.b-index c.loop-b-test.false)
