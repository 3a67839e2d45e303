-- A whole document has no open row.
use Rattle.std.proofs.Common.{◌≡◌, ℕ, false, List, ap, sym, ◌∙◌}
use Rattle.doc_model.specs.declared.step.Step.{Step}
use Rattle.doc_model.specs.declared.step.Step.TheVariants.{End}
use Rattle.doc_model.specs.declared.step.Verdict.TheVariants.{Good}
use Rattle.doc_model.specs.Document.{Document, is_member, is_open}
use Rattle.doc_model.specs.Lawful.{IsComplete}
use Rattle.doc_laws.proofs.Growth.{document_of-push}

pub whole_is_shut : (steps : List Step) (n : ℕ) → IsComplete steps → is_open steps n ≡ false
whole_is_shut steps n h = ap (λ p. is_open p n) (sym h.1) ∙ ap (λ (d : Document). is_member n d.opened) (document_of-push (h.0) (End Good))
