use Rattle.std.proofs.Common.{List, ℕ, ◌∙◌, ap, sym}
use Rattle.doc_model.specs.Answers.{Known}
use Rattle.doc_model.specs.Document.{is_member}
use Rattle.key_sources.proofs.Saying.{says_failed, says_then_given}
use Rattle.patterns.proofs.Lasting.{key_said}
use Rattle.patterns.proofs.starting.has_by_key.Goals as goal

pub returns-in_err-nodes-clause-answers : goal.returns-in_err-nodes-clause-answers
returns-in_err-nodes-clause-answers g c =
    says_failed (λ R nodes. Known (is_member c.args.n nodes)) c.from_residual.result c.from_residual.ensures.1 (key_said c.as_slice.ensures c.in_err-nodes.ensures.answers)

pub returns-clause-answers : goal.returns-clause-answers
returns-clause-answers g c =
    says_then_given (λ nodes. Known (is_member c.args.n nodes)) _ c.in_ok-nodes.ensures.went.moves (key_said c.as_slice.ensures c.in_ok-nodes.ensures.answers)
    (ap (λ (nodes : List ℕ). Known (is_member c.args.n nodes)) (sym c.as_slice-2.ensures) ∙ ap (λ b. Known b) (sym c.contains.ensures))
