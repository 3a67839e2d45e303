use Rattle.std.proofs.Common.{◌≡◌, refl, ap, sym, ◌∙◌, List, Option, Some}
use Rattle.doc_model.specs.Answers.{Known}
use Rattle.engine_meaning.specs.Places.{Place, Setting, place, setting}
use Rattle.engine_meaning.specs.Questions as means
use Rattle.value_templates.proofs.Asking.{kept_none, shows_exit, shows_same, shows_stops, shows_then_given}
use Rattle.xpath_meaning.specs.Outcome.{◌>>=◌}
use Rattle.xpath_syntax.specs.declared.pattern.Part.{Part}
use Rattle.value_templates.proofs.texts.namespace_text.Goals as goal

-- a namespace that is given
one_given : (W : Setting) (c : Place) {namespace : Option (List Part)} {parts slice : List Part} → namespace ≡ Some parts → slice ≡ parts
    → means.namespace_text W c namespace ≡ (means.template_text W c slice >>= λ uri. Known (Some uri))
one_given W c is same = ap (means.namespace_text W c) is ∙ ap (λ ps. means.template_text W c ps >>= λ uri. Known (Some uri)) (sym same)

pub returns-in_err-uri-in-Some-clause-answers : goal.returns-in_err-uri-in-Some-clause-answers
returns-in_err-uri-in-Some-clause-answers g c =
    λ sheet. shows_exit c.from_residual.result c.from_residual.ensures.1
    (shows_same (λ w. one_given (setting sheet w c.args.env.now.globals.now) (place c.args.context.now c.args.env.now.locals.now) c.in-Some.is c.as_slice.ensures)
    (shows_stops (λ w uri. Known (Some uri)) (c.in_err-uri-in-Some.ensures.answers sheet)))

pub returns-in_ok-uri-in-Some-clause-answers : goal.returns-in_ok-uri-in-Some-clause-answers
returns-in_ok-uri-in-Some-clause-answers g c =
    λ sheet. shows_same (λ w. one_given (setting sheet w c.args.env.now.globals.now) (place c.args.context.now c.args.env.now.locals.now) c.in-Some.is c.as_slice.ensures)
    (shows_then_given (λ uri. Known (Some uri)) _ c.in_ok-uri-in-Some.ensures.kept.moves (c.in_ok-uri-in-Some.ensures.answers sheet) refl)

pub returns-in-None-clause-kept : goal.returns-in-None-clause-kept
returns-in-None-clause-kept g c = kept_none c.requires.stands
