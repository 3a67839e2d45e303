-- A whole document has no open row, so nothing waits for one.
use Rattle.std.proofs.Common.{◌≡◌, sym, ◌∙◌, subst, ℕ, List}
use Rattle.std.proofs.lemmas.Bool.{false≢true}
use Rattle.doc_model.specs.declared.step.Step.{Step}
use Rattle.doc_model.specs.Answers.{Open}
use Rattle.doc_model.specs.Lawful.{IsComplete}
use Rattle.doc_laws.proofs.Whole.{whole_is_shut}
use Rattle.xpath_meaning.specs.Outcome.{Outcome}
use Rattle.xpath_meaning.specs.Streams.{Stream, Cut}
use Rattle.xpath_laws.specs.Sound.{Rows, Tells, EndsAt, Flows, IsOpen}

pub nothing_open : (steps : List Step) {A : Type 0} (V : A → Type 0) (o : Outcome A) (m : ℕ) → IsComplete steps → Tells (IsOpen steps) V o → o ≡ Open m → ⊥
nothing_open steps V o m w s e = false≢true (sym (whole_is_shut steps m w) ∙ subst (Tells (IsOpen steps) V) e s)

pub nothing_cut : (steps : List Step) (T : Rows) (s : Stream) (m : ℕ) → IsComplete steps → Flows T (IsOpen steps) s → s.ending ≡ Cut m → ⊥
nothing_cut steps T s m w f e = false≢true (sym (whole_is_shut steps m w) ∙ subst (EndsAt (IsOpen steps)) e f.ending)
