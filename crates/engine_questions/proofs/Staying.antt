-- What is seen stays.
use Rattle.std.proofs.Common.{ap, ◌∙◌, ℕ, List}
use Rattle.copy_meaning.specs.Copies.{copy_of}
use Rattle.doc_laws.proofs.Growth.{joined_grows, prefix_rows}
use Rattle.doc_laws.proofs.Visible.{visible_grows}
use Rattle.doc_model.specs.Answers.{Stays}
use Rattle.doc_model.specs.Lawful.{Grows}
use Rattle.doc_model.specs.Rows.{rows_of}
use Rattle.doc_model.specs.Strip.{is_visible}
use Rattle.doc_model.specs.declared.step.Step.{Step}
use Rattle.doc_model.specs.declared.strip_rule.StripRule.{StripRule}
use Rattle.engine_laws.specs.Growing.{Continues}
use Rattle.engine_questions.specs.Asking.{world_by}
use Rattle.key_sources.specs.Going.{Lookups, reading_by}
use Rattle.xpath_laws.proofs.Staying.{with_faults_stays}
use Rattle.xpath_laws.specs.Sound.{IsThere}
use Rattle.xpath_meaning.specs.Reading.{Extends}

pub worlds_continue : (lookups : Lookups) (rules : List StripRule) (before later : List Step) → Extends (reading_by lookups rules before) (reading_by lookups rules later)
    → ((n : ℕ) → Stays (copy_of rules before n) (copy_of rules later n)) → Continues (world_by lookups rules before) (world_by lookups rules later)
worlds_continue lookups rules before later x k = record { reading = x; copy = λ n. with_faults_stays _ _ (k n) }

pub there_stays : (rules : List StripRule) (before later : List Step) (n : ℕ) → Grows before later → IsThere rules before n → IsThere rules later n
there_stays rules before later n grows w =
    let r = prefix_rows before later grows in
    (joined_grows before later n grows w.0, ap (λ rows. is_visible rules rows n) r.1 ∙ visible_grows rules (rows_of before) (r.0) n w.0 ∙ w.1)
