use Rattle.std.proofs.Common.{◌∙◌, ap, cond, false, sym}
use Rattle.std.proofs.lemmas.Bool.{eq-eqb, ne_eqb}
use Rattle.doc_model.specs.Answers.{Known}
use Rattle.doc_model.specs.Strip.{has_part}
use Rattle.key_sources.specs.Going.{reading_by}
use Rattle.key_sources.proofs.Saying.{went_none, says_known, says_same}
use Rattle.pattern_names.specs.Wanted.{wanted_by}
use Rattle.pattern_names.proofs.Missing.{not_matching}
use Rattle.patterns.proofs.Standing.{says_at}
use Rattle.xpath_meaning.specs.Match.{match_path}
use Rattle.rule_index.proofs.choosing.rule_applies.Goals as goal

pub returns-then-not-same-clause-went : goal.returns-then-not-same-clause-went
returns-then-not-same-clause-went g c = went_none c.requires.stands

pub returns-then-not-same-clause-answers : goal.returns-then-not-same-clause-answers
returns-then-not-same-clause-answers g c = says_known (λ R. ap (λ b. cond b (match_path R c.args.rule.now.pattern c.args.n) (Known false)) (ne_eqb c.args.rule.now.mode c.args.mode c.if-not-same.true))

pub returns-then-not-fits-clause-went : goal.returns-then-not-fits-clause-went
returns-then-not-fits-clause-went g c = went_none c.requires.stands

pub returns-then-not-fits-clause-answers : goal.returns-then-not-fits-clause-answers
returns-then-not-fits-clause-answers g c =
    let s = g.V.NodeView.sees c.args.view.now in
    let lookups = (g.K.KeySource.made c.args.keys.now).lookups in
    let path = c.args.rule.now.pattern in
    says_at (ap (λ b. cond b (match_path (reading_by lookups s.rules s.steps) path c.args.n) (Known false)) (eq-eqb c.args.rule.now.mode c.args.mode c.if-not-same.false)
    ∙ not_matching lookups s.rules s.steps c.args.n c.requires.there path (ap (has_part (wanted_by path)) (sym c.requires.named) ∙ sym c.may_be_named-fits.ensures ∙ c.if-not-fits.true))

pub returns-clause-answers : goal.returns-clause-answers
returns-clause-answers g c = says_same (λ R. ap (λ b. cond b (match_path R c.args.rule.now.pattern c.args.n) (Known false)) (eq-eqb c.args.rule.now.mode c.args.mode c.if-not-same.false))
    c.path_matches.ensures.answers
