use Rattle.std.proofs.Common.{◌≡◌, refl, subst, ℕ, Bool, List, Option, Result}
use Rattle.computed_names.specs.Computed.{Answers, computed}
use Rattle.computed_names.specs.declared.stop.NameStop.{NameStop}
use Rattle.engine_meaning.specs.Places.{place, setting}
use Rattle.engine_meaning.specs.Questions as means
use Rattle.result_events.specs.declared.event.Name.{Name}
use Rattle.sheet_scopes.specs.declared.scope.ScopeEntry.{ScopeEntry}
use Rattle.value_templates.proofs.Asking.{kept_twice, ready_on, shows_exit, shows_stops, shows_then, shows_then_given}
use Rattle.value_templates.proofs.Stable.{template_stable}
use Rattle.xpath_meaning.specs.Outcome.{◌>>=◌}
use Rattle.value_templates.proofs.names.computed_name.Goals as goal

-- what is computed of the texts that were read
computed_of : (attribute : Bool) (text slice : List ℕ) (uri handed : Option (List ℕ)) (scopes entries : List ScopeEntry) (at : ℕ) (result : Result Name NameStop) → slice ≡ text → handed ≡ uri
    → entries ≡ scopes → Answers (computed attribute slice handed entries at) result → Answers (computed attribute text uri scopes at) result
computed_of attribute text slice uri handed scopes entries at result e d f a =
    subst (λ ss. Answers (computed attribute text uri ss at) result) f
    (subst (λ u. Answers (computed attribute text u entries at) result) d (subst (λ t. Answers (computed attribute t handed entries at) result) e a))

pub returns-in_err-text-clause-answers : goal.returns-in_err-text-clause-answers
returns-in_err-text-clause-answers g c =
    let here = place c.args.context.now c.args.env.now.locals.now in
    shows_exit c.from_residual.result c.from_residual.ensures.1
    (shows_stops (λ w text. means.namespace_text (setting c.args.sheet.now w c.args.env.now.globals.now) here c.args.namespace.now
    >>= λ uri. means.judged (computed c.args.attribute text uri c.args.sheet.now.scopes c.args.scopes)) (c.in_err-text.ensures.answers c.args.sheet.now))

pub namespace_text-requires : goal.namespace_text-requires
namespace_text-requires g c κs = ((refl, tt), ready_on c.requires c.in_ok-text.ensures.kept)

pub returns-in_err-uri-clause-kept : goal.returns-in_err-uri-clause-kept
returns-in_err-uri-clause-kept g c = kept_twice c.in_ok-text.ensures.kept c.in_err-uri.ensures.kept

pub returns-in_err-uri-clause-answers : goal.returns-in_err-uri-clause-answers
returns-in_err-uri-clause-answers g c =
    let here = place c.args.context.now c.args.env.now.locals.now in
    let text = c.in_ok-text.text in
    shows_exit c.from_residual-in_err-uri.result c.from_residual-in_err-uri.ensures.1
    (shows_then (λ w text. means.namespace_text (setting c.args.sheet.now w c.args.env.now.globals.now) here c.args.namespace.now
    >>= λ uri. means.judged (computed c.args.attribute text uri c.args.sheet.now.scopes c.args.scopes)) (template_stable c.args.sheet.now c.args.env.now.globals.now here c.args.name.now)
    c.in_ok-text.ensures.kept (c.in_ok-text.ensures.answers c.args.sheet.now) c.in_err-uri.ensures.kept
    (shows_stops (λ w uri. means.judged (computed c.args.attribute text uri c.args.sheet.now.scopes c.args.scopes)) (c.in_err-uri.ensures.answers c.args.sheet.now)))

pub returns-clause-kept : goal.returns-clause-kept
returns-clause-kept g c = kept_twice c.in_ok-text.ensures.kept c.in_ok-uri.ensures.kept

pub returns-clause-answers : goal.returns-clause-answers
returns-clause-answers g c =
    let here = place c.args.context.now c.args.env.now.locals.now in
    let text = c.in_ok-text.text in
    let uri = c.in_ok-uri.uri in
    let scopes = c.args.sheet.now.scopes in
    shows_then (λ w text. means.namespace_text (setting c.args.sheet.now w c.args.env.now.globals.now) here c.args.namespace.now
    >>= λ uri. means.judged (computed c.args.attribute text uri c.args.sheet.now.scopes c.args.scopes)) (template_stable c.args.sheet.now c.args.env.now.globals.now here c.args.name.now)
    c.in_ok-text.ensures.kept (c.in_ok-text.ensures.answers c.args.sheet.now) c.in_ok-uri.ensures.kept
    (shows_then_given (λ uri. means.judged (computed c.args.attribute text uri c.args.sheet.now.scopes c.args.scopes)) c.judged.result c.in_ok-uri.ensures.kept.moves
    (c.in_ok-uri.ensures.answers c.args.sheet.now)
    (c.judged.ensures (computed c.args.attribute text uri scopes c.args.scopes)
    (computed_of c.args.attribute text c.as_slice.result.now uri _ scopes c.as_slice-2.result.now c.args.scopes c.computed_name.result c.as_slice.ensures c.slice_of.ensures c.as_slice-2.ensures
    c.computed_name.ensures)))
