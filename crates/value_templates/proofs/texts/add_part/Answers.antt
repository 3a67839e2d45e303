use Rattle.std.proofs.Common.{ap, ◌++◌}
use Rattle.doc_model.specs.Answers.{Known}
use Rattle.engine_meaning.specs.Places.{place, setting}
use Rattle.engine_meaning.specs.Questions as means
use Rattle.value_templates.proofs.Asking.{kept_none, shows_exit_written, shows_same, shows_stops}
use Rattle.xpath_meaning.specs.Outcome.{◌>>=◌}
use Rattle.value_templates.proofs.texts.add_part.Goals as goal

pub returns-in_err-extend_from_slice-in-Plain-clause-kept : goal.returns-in_err-extend_from_slice-in-Plain-clause-kept
returns-in_err-extend_from_slice-in-Plain-clause-kept g c = kept_none c.requires.stands

pub returns-in_err-more-in-Value-clause-answers : goal.returns-in_err-more-in-Value-clause-answers
returns-in_err-more-in-Value-clause-answers g c =
    let text = c.args.text.now in
    λ sheet. shows_exit_written (λ _. text) c.from_residual-in_err-more-in-Value.result c.from_residual-in_err-more-in-Value.ensures.1
    (shows_same (λ w. ap (λ p. means.part_text (setting sheet w c.args.env.now.globals.now) (place c.args.context.now c.args.env.now.locals.now) p >>= λ more. Known (text ++ more)) c.in-Value.is)
    (shows_stops (λ w more. Known (text ++ more)) c.in_err-more-in-Value.ensures.answers))

pub returns-in_ok-extend_from_slice-in-Plain-clause-kept : goal.returns-in_ok-extend_from_slice-in-Plain-clause-kept
returns-in_ok-extend_from_slice-in-Plain-clause-kept g c = kept_none c.requires.stands
