use Rattle.std.proofs.Common.{◌≡◌, ◌∙◌, ap, sym, refl, subst, List, ℕ, Ok}
use Rattle.doc_model.specs.Answers.{Known}
use Rattle.xpath_meaning.specs.Functions.{texts_of, looked_up}
use Rattle.xpath_meaning.specs.Outcome.{◌>>=◌}
use Rattle.xpath_values.specs.declared.value.Value.TheVariants.{Nodes}
use Rattle.key_sources.proofs.Saying.{stands_on, went_moves, went_on, says_failed, says_exit, says_same, says_then, says_stops, says_then_given, says_memory}
use Rattle.xpath_nodes.specs.Found.{found}
use Rattle.xpath_nodes.proofs.Finding.{keeps_texts, looked_is}
use Rattle.xpath_nodes.proofs.lookups.bound_key_nodes.Goals as goal

pub returns-in_err-texts-clause-went : goal.returns-in_err-texts-clause-went
returns-in_err-texts-clause-went g c = went_moves (g.met.K.KeySource.goes_on c.args.keys.now) c.in_err-texts.ensures.moves c.requires.stands

pub returns-in_err-texts-clause-answers : goal.returns-in_err-texts-clause-answers
returns-in_err-texts-clause-answers g c =
    says_failed (λ R texts. looked_up R (λ value. R.by_key c.args.key value) texts) c.from_residual.result c.from_residual.ensures.1 (c.in_err-texts.ensures.answers _)

pub found_by_values-requires : goal.found_by_values-requires
found_by_values-requires g c = stands_on (g.met.K.KeySource.goes_on c.args.keys.now) c.in_ok-texts.ensures.moves c.requires.stands

pub returns-in_err-nodes-clause-went : goal.returns-in_err-nodes-clause-went
returns-in_err-nodes-clause-went g c = went_on (went_moves (g.met.K.KeySource.goes_on c.args.keys.now) c.in_ok-texts.ensures.moves c.requires.stands) c.in_err-nodes.ensures.went

pub returns-in_err-nodes-clause-answers : goal.returns-in_err-nodes-clause-answers
returns-in_err-nodes-clause-answers g c = says_exit c.from_residual-in_err-nodes.result c.from_residual-in_err-nodes.ensures.1
    (says_then (λ R texts. looked_up R (λ value. R.by_key c.args.key value) texts) (keeps_texts c.args.value.now) c.in_ok-texts.ensures.moves
    (c.in_ok-texts.ensures.answers _) c.in_err-nodes.ensures.went.moves
    (says_same (λ R. looked_is R (λ value. R.by_key c.args.key value) c.in_ok-texts.texts
    ∙ ap (λ (texts : List (List ℕ)). found R (λ value. R.by_key c.args.key value) texts >>= λ nodes. Known (Nodes nodes)) (sym c.as_slice.ensures))
    (says_stops (λ R nodes. Known (Nodes nodes)) c.in_err-nodes.ensures.answers)))

pub returns-clause-went : goal.returns-clause-went
returns-clause-went g c = went_on (went_moves (g.met.K.KeySource.goes_on c.args.keys.now) c.in_ok-texts.ensures.moves c.requires.stands) c.in_ok-nodes.ensures.went

pub returns-clause-answers : goal.returns-clause-answers
returns-clause-answers g c =
    says_then (λ R texts. looked_up R (λ value. R.by_key c.args.key value) texts) (keeps_texts c.args.value.now) c.in_ok-texts.ensures.moves
    (c.in_ok-texts.ensures.answers _) c.in_ok-nodes.ensures.went.moves
    (says_same (λ R. looked_is R (λ value. R.by_key c.args.key value) c.in_ok-texts.texts
    ∙ ap (λ (texts : List (List ℕ)). found R (λ value. R.by_key c.args.key value) texts >>= λ nodes. Known (Nodes nodes)) (sym c.as_slice.ensures))
    (says_then_given (λ nodes. Known (Nodes nodes)) _ c.in_ok-nodes.ensures.went.moves c.in_ok-nodes.ensures.answers refl))
