use Rattle.std.proofs.Common.{◌≡◌, ap, sym, ◌∙◌, not, length}
use Rattle.doc_model.specs.Answers.{Known}
use Rattle.key_sources.proofs.Saying.{gives_same}
use Rattle.xpath_meaning.specs.Calls.{of_first}
use Rattle.xpath_meaning.specs.Conversions.{text, number, truth, count}
use Rattle.xpath_meaning.specs.Functions.{generated_id}
use Rattle.xpath_calls.specs.Given.{plainly}
use Rattle.xpath_calls.proofs.Others.{plain_other}
use Rattle.xpath_calls.proofs.plain.plainly.Goals as goal

pub returns-in-Last : goal.returns-in-Last
returns-in-Last c = gives_same _ _ c.size_value.result (ap (λ f. plainly f c.args.arguments.now c.args.ctx.now) (sym c.in-Last.is)) c.size_value.ensures

pub returns-in-Position : goal.returns-in-Position
returns-in-Position c = gives_same _ _ c.count_value.result (ap (λ f. plainly f c.args.arguments.now c.args.ctx.now) (sym c.in-Position.is)) c.count_value.ensures

pub returns-in-True : goal.returns-in-True
returns-in-True c = gives_same _ _ c.truth_value.result (ap (λ f. plainly f c.args.arguments.now c.args.ctx.now) (sym c.in-True.is)) c.truth_value.ensures

pub returns-in-False : goal.returns-in-False
returns-in-False c = gives_same _ _ c.truth_value-in-False.result (ap (λ f. plainly f c.args.arguments.now c.args.ctx.now) (sym c.in-False.is)) c.truth_value-in-False.ensures

pub returns-in-Current : goal.returns-in-Current
returns-in-Current c = gives_same _ _ c.current.result (ap (λ f. plainly f c.args.arguments.now c.args.ctx.now) (sym c.in-Current.is)) c.current.ensures

pub returns-in-Count : goal.returns-in-Count
returns-in-Count c = ap (λ f. plainly f c.args.arguments.now c.args.ctx.now) c.in-Count.is ∙ ap (λ nodes. Known (count (length nodes))) (sym c.nodes_at.ensures) ∙ ap Known (sym c.count.ensures)

pub returns-in-GenerateId : goal.returns-in-GenerateId
returns-in-GenerateId c = gives_same _ _ c.id_of_first.result
    (ap (of_first (λ n. Known (text (generated_id n)))) c.first_at.ensures ∙ ap (λ f. plainly f c.args.arguments.now c.args.ctx.now) (sym c.in-GenerateId.is)) c.id_of_first.ensures

pub returns-in-Number : goal.returns-in-Number
returns-in-Number c = ap (λ f. plainly f c.args.arguments.now c.args.ctx.now) c.in-Number.is ∙ ap (λ n. Known (number n)) (sym c.number_at.ensures) ∙ ap Known (sym c.number_value.ensures)

pub returns-in-Floor : goal.returns-in-Floor
returns-in-Floor c = ap (λ f. plainly f c.args.arguments.now c.args.ctx.now) c.in-Floor.is ∙ ap (λ n. Known (number n)) (sym c.number_at-in-Floor.ensures)
    ∙ ap Known (sym c.number_value-in-Floor.ensures)

pub returns-in-Ceiling : goal.returns-in-Ceiling
returns-in-Ceiling c = ap (λ f. plainly f c.args.arguments.now c.args.ctx.now) c.in-Ceiling.is ∙ ap (λ n. Known (number n)) (sym c.number_at-in-Ceiling.ensures)
    ∙ ap Known (sym c.number_value-in-Ceiling.ensures)

pub returns-in-Round : goal.returns-in-Round
returns-in-Round c = ap (λ f. plainly f c.args.arguments.now c.args.ctx.now) c.in-Round.is ∙ ap (λ n. Known (number n)) (sym c.number_at-in-Round.ensures)
    ∙ ap Known (sym c.number_value-in-Round.ensures)

pub returns-in-Boolean : goal.returns-in-Boolean
returns-in-Boolean c = gives_same _ _ c.truth_value-in-Boolean.result
    (ap (λ b. Known (truth b)) c.truth_at.ensures ∙ ap (λ f. plainly f c.args.arguments.now c.args.ctx.now) (sym c.in-Boolean.is)) c.truth_value-in-Boolean.ensures

pub returns-in-Not : goal.returns-in-Not
returns-in-Not c = gives_same _ _ c.truth_value-in-Not.result
    (ap (λ b. Known (truth (not b))) c.truth_at-in-Not.ensures ∙ ap (λ f. plainly f c.args.arguments.now c.args.ctx.now) (sym c.in-Not.is)) c.truth_value-in-Not.ensures

pub returns-in_default : goal.returns-in_default
returns-in_default c = gives_same _ _ c.by_texts.result
    (sym (plain_other c.args.function c.args.arguments.now c.args.ctx.now c.in_default.not-Last c.in_default.not-Position c.in_default.not-True c.in_default.not-False c.in_default.not-Current c.in_default.not-Count c.in_default.not-GenerateId c.in_default.not-Number c.in_default.not-Floor c.in_default.not-Ceiling c.in_default.not-Round c.in_default.not-Boolean c.in_default.not-Not)) c.by_texts.ensures
