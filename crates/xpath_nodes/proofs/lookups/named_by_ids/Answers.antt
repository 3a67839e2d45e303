use Rattle.std.proofs.Common.{◌≡◌, ◌∙◌, ap, sym, refl, subst, List, ℕ, Ok}
use Rattle.std.specs.List.{flat_map}
use Rattle.doc_model.specs.Answers.{Known}
use Rattle.xpath_funcs.specs.Spaces.{words}
use Rattle.xpath_meaning.specs.Functions.{texts_of, looked_up}
use Rattle.xpath_meaning.specs.Outcome.{◌>>=◌}
use Rattle.xpath_values.specs.declared.value.Value.TheVariants.{Nodes}
use Rattle.key_sources.proofs.Saying.{stands_on, went_moves, went_on, says_failed, says_exit, says_same, says_then, says_stops, says_then_given, says_memory}
use Rattle.xpath_nodes.specs.Found.{found}
use Rattle.xpath_nodes.proofs.Finding.{keeps_texts, looked_is}
use Rattle.xpath_nodes.proofs.lookups.named_by_ids.Goals as goal

pub returns-in_err-texts-clause-went : goal.returns-in_err-texts-clause-went
returns-in_err-texts-clause-went g c = went_moves (g.met.K.KeySource.goes_on c.args.keys.now) c.in_err-texts.ensures.moves c.requires.stands

pub returns-in_err-texts-clause-answers : goal.returns-in_err-texts-clause-answers
returns-in_err-texts-clause-answers g c =
    says_failed (λ R texts. looked_up R (λ id. R.by_id id) (flat_map words texts)) c.from_residual.result c.from_residual.ensures.1 (c.in_err-texts.ensures.answers _)

pub returns-in_err-ids-clause-went : goal.returns-in_err-ids-clause-went
returns-in_err-ids-clause-went g c = went_moves (g.met.K.KeySource.goes_on c.args.keys.now) c.in_ok-texts.ensures.moves c.requires.stands

pub returns-in_err-ids-clause-answers : goal.returns-in_err-ids-clause-answers
returns-in_err-ids-clause-answers g c = says_exit c.from_residual-in_err-ids.result c.from_residual-in_err-ids.ensures.1 says_memory

pub found_by_ids-requires : goal.found_by_ids-requires
found_by_ids-requires g c = stands_on (g.met.K.KeySource.goes_on c.args.keys.now) c.in_ok-texts.ensures.moves c.requires.stands

pub returns-in_err-nodes-clause-went : goal.returns-in_err-nodes-clause-went
returns-in_err-nodes-clause-went g c = went_on (went_moves (g.met.K.KeySource.goes_on c.args.keys.now) c.in_ok-texts.ensures.moves c.requires.stands) c.in_err-nodes.ensures.went

pub returns-in_err-nodes-clause-answers : goal.returns-in_err-nodes-clause-answers
returns-in_err-nodes-clause-answers g c = says_exit c.from_residual-in_err-nodes.result c.from_residual-in_err-nodes.ensures.1
    (says_then (λ R texts. looked_up R (λ id. R.by_id id) (flat_map words texts)) (keeps_texts c.args.value.now) c.in_ok-texts.ensures.moves
    (c.in_ok-texts.ensures.answers _) c.in_err-nodes.ensures.went.moves
    (says_same (λ R. looked_is R (λ id. R.by_id id) (flat_map words c.in_ok-texts.texts)
    ∙ ap (λ (ids : List (List ℕ)). found R (λ id. R.by_id id) ids >>= λ nodes. Known (Nodes nodes)) (sym (c.as_slice-2.ensures ∙ c.in_ok-ids.ensures ∙ ap (flat_map words) c.as_slice.ensures)))
    (says_stops (λ R nodes. Known (Nodes nodes)) c.in_err-nodes.ensures.answers)))

pub returns-clause-went : goal.returns-clause-went
returns-clause-went g c = went_on (went_moves (g.met.K.KeySource.goes_on c.args.keys.now) c.in_ok-texts.ensures.moves c.requires.stands) c.in_ok-nodes.ensures.went

pub returns-clause-answers : goal.returns-clause-answers
returns-clause-answers g c =
    says_then (λ R texts. looked_up R (λ id. R.by_id id) (flat_map words texts)) (keeps_texts c.args.value.now) c.in_ok-texts.ensures.moves
    (c.in_ok-texts.ensures.answers _) c.in_ok-nodes.ensures.went.moves
    (says_same (λ R. looked_is R (λ id. R.by_id id) (flat_map words c.in_ok-texts.texts)
    ∙ ap (λ (ids : List (List ℕ)). found R (λ id. R.by_id id) ids >>= λ nodes. Known (Nodes nodes)) (sym (c.as_slice-2.ensures ∙ c.in_ok-ids.ensures ∙ ap (flat_map words) c.as_slice.ensures)))
    (says_then_given (λ nodes. Known (Nodes nodes)) _ c.in_ok-nodes.ensures.went.moves c.in_ok-nodes.ensures.answers refl))
