use Rattle.std.proofs.Common.{◌≡◌, ℕ, List, Option, Some, None, IfSome, true, ap, sym, ◌∙◌, subst}
use Rattle.doc_model.specs.declared.flaw.Flaw.{Flaw}
use Rattle.doc_model.specs.declared.limits.Limits.{Limits}
use Rattle.doc_model.specs.Rows.{rows_of}
use Rattle.pyx_events.specs.declared.event_error.EventError.{EventError}
use Rattle.pyx_events.specs.Answer.{flaw_in, completed_in, sound_node}
use Rattle.pyx_events.specs.Before.{pending_start, uris_to}
use Rattle.node_writer.specs.Known.{AreFound, names_in}
use Rattle.pyx_events.specs.Flaw.{or_flaw, end_flaw}
use Rattle.dtm_builder.specs.Judging.{started_flaw, element_rows}
use Rattle.dtm_builder.proofs.Recalling.{node_can}
use Rattle.dtm_builder.proofs.Flaws.{end_good, end_refused_at}
use Rattle.dtm_builder.proofs.Judged.{names_stand}
use Rattle.dtm_builder.proofs.builder.Builder.judge_end.Goals as goal

pub returns-in-Ok-clause-good : goal.returns-in-Ok-clause-good
returns-in-Ok-clause-good c limits cells before s = let answer = c.in-Ok.ensures.answer limits before s.checked in end_good limits before s.flawless answer.good

pub recall-requires : goal.recall-requires
recall-requires c =
    let before = c.requires.2 in
    let w = c.in-Err-Refused in
    let answer = w.ensures.answer c.requires.0 before c.requires.3.checked in
    let handed : w.completed ≡ sound_node c.requires.0 before (pending_start before) =
    subst (λ (it : EventError). IfSome (completed_in it) (λ given. given ≡ sound_node c.requires.0 before (pending_start before))) w.field-0-is answer.completed in
    (uris_to before, (node_can c.requires.0 before (pending_start before) w.completed handed).numbered)

pub judge_element-requires-clause-found : goal.judge_element-requires-clause-found
judge_element-requires-clause-found c =
    let before = c.requires.2 in
    let s = c.requires.3 in
    let w = c.in-Err-Refused in
    let answer = w.ensures.answer c.requires.0 before s.checked in
    let handed : w.completed ≡ sound_node c.requires.0 before (pending_start before) =
    subst (λ (it : EventError). IfSome (completed_in it) (λ given. given ≡ sound_node c.requires.0 before (pending_start before))) w.field-0-is answer.completed in
    let can = node_can c.requires.0 before (pending_start before) w.completed handed in
    subst (λ (found : List (Option ℕ)). AreFound (names_in c.args.self.now.writer) (element_rows w.completed) found) (sym c.as_slice.ensures)
    (c.in_ok-found-in-Err-Refused.ensures.found (uris_to before) s.recalled can.numbered)

pub judge_element-requires-clause-apart : goal.judge_element-requires-clause-apart
judge_element-requires-clause-apart c =
    let before = c.requires.2 in
    let w = c.in-Err-Refused in
    let answer = w.ensures.answer c.requires.0 before c.requires.3.checked in
    let handed : w.completed ≡ sound_node c.requires.0 before (pending_start before) =
    subst (λ (it : EventError). IfSome (completed_in it) (λ given. given ≡ sound_node c.requires.0 before (pending_start before))) w.field-0-is answer.completed in
    (node_can c.requires.0 before (pending_start before) w.completed handed).apart

pub returns-in-Ok-judge_element-clause-flaw : goal.returns-in-Ok-judge_element-clause-flaw
returns-in-Ok-judge_element-clause-flaw c limits cells before s =
    let w = c.in-Err-Refused in
    let answer = w.ensures.answer limits before s.checked in
    let refused : end_flaw limits true before ≡ Some w.flaw = subst (λ (it : EventError). IfSome (flaw_in it) (λ first. end_flaw limits true before ≡ Some first)) w.field-0-is answer.refused in
    let handed : w.completed ≡ sound_node limits before (pending_start before) =
    subst (λ (it : EventError). IfSome (completed_in it) (λ given. given ≡ sound_node limits before (pending_start before))) w.field-0-is answer.completed in
    let is = end_refused_at limits before w.flaw w.completed cells.steps c.text-text.result s.steps (c.text-text.ensures limits before s.checked) s.flawless refused handed in
    let quiet : started_flaw limits (rows_of cells.steps) w.completed c.text-text.result ≡ None =
    subst (λ (l : Limits). started_flaw l (rows_of cells.steps) w.completed c.text-text.result ≡ None) s.limited
    (c.in-Ok-judge_element.ensures.good limits cells s.written (names_stand c.args.self.now limits cells before s)) in
    is ∙ ap (λ (it : Option Flaw). or_flaw it (Some w.flaw)) quiet

pub returns-in-Err-Refused-clause-flaw : goal.returns-in-Err-Refused-clause-flaw
returns-in-Err-Refused-clause-flaw c limits cells before s =
    let w = c.in-Err-Refused in
    let answer = w.ensures.answer limits before s.checked in
    let refused : end_flaw limits true before ≡ Some w.flaw = subst (λ (it : EventError). IfSome (flaw_in it) (λ first. end_flaw limits true before ≡ Some first)) w.field-0-is answer.refused in
    let handed : w.completed ≡ sound_node limits before (pending_start before) =
    subst (λ (it : EventError). IfSome (completed_in it) (λ given. given ≡ sound_node limits before (pending_start before))) w.field-0-is answer.completed in
    let is = end_refused_at limits before w.flaw w.completed cells.steps c.text-text.result s.steps (c.text-text.ensures limits before s.checked) s.flawless refused handed in
    let first : started_flaw limits (rows_of cells.steps) w.completed c.text-text.result ≡ Some c.in-Err.first =
    subst (λ (l : Limits). started_flaw l (rows_of cells.steps) w.completed c.text-text.result ≡ Some c.in-Err.first) s.limited
    (c.in-Err.ensures.flaw limits cells s.written (names_stand c.args.self.now limits cells before s)) in
    is ∙ ap (λ (it : Option Flaw). or_flaw it (Some w.flaw)) first
