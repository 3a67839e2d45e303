use Rattle.std.proofs.Common.{ap, sym, ◌∙◌, cond, ℕ, List}
use Rattle.doc_model.specs.Answers.{Known, Fault}
use Rattle.computed_names.specs.Computed.{is_target}
use Rattle.fault_kinds.specs.declared.fault.FaultKind.TheVariants as kind
use Rattle.value_templates.proofs.Asking.{shows_exit, shows_stops, shows_then_given}
use Rattle.xpath_meaning.specs.Outcome.{Outcome}
use Rattle.value_templates.proofs.names.computed_target.Goals as goal

abbrev judged : List ℕ → Outcome (List ℕ)
judged text = cond (is_target text) (Known text) (Fault kind.BadName)

pub returns-in_err-target-clause-answers : goal.returns-in_err-target-clause-answers
returns-in_err-target-clause-answers g c = λ sheet. shows_exit c.from_residual.result c.from_residual.ensures.1 (shows_stops (λ w. judged) (c.in_err-target.ensures.answers sheet))

pub returns-then-is_target-clause-answers : goal.returns-then-is_target-clause-answers
returns-then-is_target-clause-answers g c =
    let text = c.in_ok-target.target in
    let is = ap is_target (sym c.as_slice.ensures) ∙ sym c.is_target.ensures ∙ c.if-is_target.true in
    λ sheet. shows_then_given judged _ c.in_ok-target.ensures.kept.moves (c.in_ok-target.ensures.answers sheet) (ap (λ b. cond b (Known text) (Fault kind.BadName)) is)

pub returns-else-is_target-clause-answers : goal.returns-else-is_target-clause-answers
returns-else-is_target-clause-answers g c =
    let text = c.in_ok-target.target in
    let is = ap is_target (sym c.as_slice.ensures) ∙ sym c.is_target.ensures ∙ c.if-is_target.false in
    λ sheet. shows_then_given judged _ c.in_ok-target.ensures.kept.moves (c.in_ok-target.ensures.answers sheet) (ap (λ b. cond b (Known text) (Fault kind.BadName)) is)
