use Rattle.std.proofs.Common.{◌++◌, ap, sym, ◌∙◌}
use Rattle.doc_model.specs.Answers.{Known}
use Rattle.engine_content.specs.Appending.{appended_to}
use Rattle.engine_content.proofs.copying.copy_node.Goals as goal

pub returns-clause-answers : goal.returns-clause-answers
returns-clause-answers g c =
    ap (appended_to c.args.out.now) c.in_ok-copy.ensures.answers ∙ ap (λ xs. Known xs) (ap (λ xs. c.args.out.now ++ xs) (sym c.into_events.ensures) ∙ sym c.in_ok-append.ensures.ok)
