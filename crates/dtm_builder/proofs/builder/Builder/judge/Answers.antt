use Rattle.std.proofs.Common.{◌≡◌, ◌<◌, ℕ, List, ◌∷◌, Option, Some, IfSome, false, true, sym, ◌∙◌, subst}
use Rattle.doc_model.specs.declared.flaw.Flaw.{Flaw}
use Rattle.pyx_events.specs.declared.event_error.EventError.{EventError}
use Rattle.pyx_events.specs.Answer.{flaw_in, completed_in, sound_node}
use Rattle.pyx_events.specs.Before.{completed_start, uris_to}
use Rattle.node_writer.specs.Known.{AreFound, names_in}
use Rattle.dtm_builder.specs.Judging.{element_rows}
use Rattle.dtm_builder.proofs.Recalling.{line_can, node_can}
use Rattle.pyx_events.specs.Counted.{names_of}
use Rattle.pyx_events.specs.Flaw.{line_flaw}
use Rattle.pyx_events.specs.Nodes.{events_to}
use Rattle.dtm_builder.specs.Standing.{IsFlawOf}
use Rattle.dtm_builder.proofs.Flaws.{line_good_at, line_refused_at, judged_by, both_quiet}
use Rattle.dtm_builder.proofs.Judged.{names_stand, own_stands}
use Rattle.dtm_builder.proofs.builder.Builder.judge.Goals as goal

pub recall-requires : goal.recall-requires
recall-requires c =
    let before = c.requires.2 in
    let answer = c.in-Ok.ensures.answer c.requires.0 before c.requires.3.checked in
    (uris_to before, (line_can c.requires.0 before c.args.line c.in-Ok.events answer.good answer.events).numbered)

pub judge_names-requires-clause-found : goal.judge_names-requires-clause-found
judge_names-requires-clause-found c =
    let before = c.requires.2 in
    let s = c.requires.3 in
    let answer = c.in-Ok.ensures.answer c.requires.0 before s.checked in
    let can = line_can c.requires.0 before c.args.line c.in-Ok.events answer.good answer.events in
    subst (λ (found : List (Option ℕ)). AreFound (names_in c.args.self.now.writer) (element_rows c.in-Ok.events) found) (sym c.as_slice.ensures)
    (c.in_ok-found-in-Ok.ensures.found (uris_to before) s.recalled can.numbered)

pub judge_names-requires-clause-apart : goal.judge_names-requires-clause-apart
judge_names-requires-clause-apart c =
    let before = c.requires.2 in
    let answer = c.in-Ok.ensures.answer c.requires.0 before c.requires.3.checked in
    (line_can c.requires.0 before c.args.line c.in-Ok.events answer.good answer.events).apart

pub returns-in-Ok-judge_names-clause-known : goal.returns-in-Ok-judge_names-clause-known
returns-in-Ok-judge_names-clause-known c limits cells before s =
    let answer = c.in-Ok.ensures.answer limits before s.checked in
    c.in_ok-found-in-Ok.ensures.known (uris_to before) s.recalled (line_can limits before c.args.line c.in-Ok.events answer.good answer.events).numbered

pub returns-in-Ok-judge_names-clause-recalled : goal.returns-in-Ok-judge_names-clause-recalled
returns-in-Ok-judge_names-clause-recalled c limits cells before s =
    let answer = c.in-Ok.ensures.answer limits before s.checked in
    c.in_ok-found-in-Ok.ensures.recalled (uris_to before) s.recalled (line_can limits before c.args.line c.in-Ok.events answer.good answer.events).numbered

pub recall-requires-in-Err-Refused : goal.recall-requires-in-Err-Refused
recall-requires-in-Err-Refused c =
    let before = c.requires.2 in
    let start = completed_start before c.args.line in
    let w = c.in-Err-Refused in
    let answer = w.ensures.answer c.requires.0 before c.requires.3.checked in
    let handed : w.completed ≡ sound_node c.requires.0 before start =
    subst (λ (it : EventError). IfSome (completed_in it) (λ given. given ≡ sound_node c.requires.0 before start)) w.field-0-is answer.completed in
    (uris_to before, (node_can c.requires.0 before start w.completed handed).numbered)

pub judge_refused-requires-clause-found : goal.judge_refused-requires-clause-found
judge_refused-requires-clause-found c =
    let before = c.requires.2 in
    let s = c.requires.3 in
    let start = completed_start before c.args.line in
    let w = c.in-Err-Refused in
    let answer = w.ensures.answer c.requires.0 before s.checked in
    let handed : w.completed ≡ sound_node c.requires.0 before start =
    subst (λ (it : EventError). IfSome (completed_in it) (λ given. given ≡ sound_node c.requires.0 before start)) w.field-0-is answer.completed in
    let can = node_can c.requires.0 before start w.completed handed in
    subst (λ (found : List (Option ℕ)). AreFound (names_in c.args.self.now.writer) (element_rows w.completed) found) (sym c.as_slice-in-Err-Refused.ensures)
    (c.in_ok-found-in-Err-Refused.ensures.found (uris_to before) s.recalled can.numbered)

pub judge_refused-requires-clause-apart : goal.judge_refused-requires-clause-apart
judge_refused-requires-clause-apart c =
    let before = c.requires.2 in
    let start = completed_start before c.args.line in
    let w = c.in-Err-Refused in
    let answer = w.ensures.answer c.requires.0 before c.requires.3.checked in
    let handed : w.completed ≡ sound_node c.requires.0 before start =
    subst (λ (it : EventError). IfSome (completed_in it) (λ given. given ≡ sound_node c.requires.0 before start)) w.field-0-is answer.completed in
    (node_can c.requires.0 before start w.completed handed).apart

pub returns-in_ok-found-in-Err-Refused-clause-flaw : goal.returns-in_ok-found-in-Err-Refused-clause-flaw
returns-in_ok-found-in-Err-Refused-clause-flaw c limits cells before s =
    let w = c.in-Err-Refused in
    let answer = w.ensures.answer limits before s.checked in
    let refused : line_flaw limits true before c.args.line ≡ Some w.flaw =
    subst (λ (it : EventError). IfSome (flaw_in it) (λ first. line_flaw limits true before c.args.line ≡ Some first)) w.field-0-is answer.refused in
    let handed : w.completed ≡ sound_node limits before (completed_start before c.args.line) =
    subst (λ (it : EventError). IfSome (completed_in it) (λ given. given ≡ sound_node limits before (completed_start before c.args.line))) w.field-0-is answer.completed in
    line_refused_at limits before c.args.line w.flaw w.completed c.own_names-own.result c.judge_refused.result cells.steps c.text-text.result s.steps (c.text-text.ensures limits before s.checked)
    s.flawless refused handed (c.own_names-own.ensures limits cells s.written)
    (λ all adds. c.judge_refused.ensures limits cells all (record { limited = s.limited; written = s.written; names = names_stand c.args.self.now limits cells before s }) adds)

pub returns-in-Ok-judge_names-clause-good : goal.returns-in-Ok-judge_names-clause-good
returns-in-Ok-judge_names-clause-good c limits cells before s =
    let line = c.args.line in
    let events = c.in-Ok.events in
    let text = c.text-text.ensures limits before s.checked in
    let answer = c.in-Ok.ensures.answer limits before s.checked in
    let small : limits.text < 4294967296 = s.written.filler.small in
    let judged = judged_by limits before line c.text-text.result c.data_length.result c.saturating_add-data.result c.text.result c.larger-values.result small text c.data_length.ensures c.saturating_add-data.ensures
    (c.text.ensures limits (line ∷ before) (c.in-Ok.ensures.taken limits before s.checked)) c.larger-values.ensures in
    let is = line_good_at limits before line events cells.steps c.text-text.result c.args.self.now.lines c.larger-values.result s.steps text s.lines s.flawless answer.good answer.events judged in
    let adds = own_stands before line events cells.steps c.own_names-own.result s.steps answer.events (c.own_names-own.ensures limits cells s.written) in
    let names = names_of false (events_to (line ∷ before)) in
    let names_here = names_stand c.args.self.now limits cells before s in
    is ∙ both_quiet _ _ _
    (c.in-Ok-judge_names.ensures.element limits cells (record { limited = s.limited; written = s.written; names = names_here }))
    (c.in-Ok-judge_names.ensures.good limits cells names (record { limited = s.limited; written = s.written; names = names_here }) adds)

pub returns-in-Ok-judge_names-clause-events : goal.returns-in-Ok-judge_names-clause-events
returns-in-Ok-judge_names-clause-events c limits cells before s = let answer = c.in-Ok.ensures.answer limits before s.checked in answer.events

pub returns-in-Ok-judge_names-clause-names : goal.returns-in-Ok-judge_names-clause-names
returns-in-Ok-judge_names-clause-names c limits cells before s =
    let line = c.args.line in
    let answer = c.in-Ok.ensures.answer limits before s.checked in
    let adds = own_stands before line c.in-Ok.events cells.steps c.own_names-own.result s.steps answer.events (c.own_names-own.ensures limits cells s.written) in
    c.in-Ok-judge_names.ensures.names limits cells (names_of false (events_to (line ∷ before)))
    (record { limited = s.limited; written = s.written; names = names_stand c.args.self.now limits cells before s }) adds

pub returns-in-Ok-judge_names-clause-checked : goal.returns-in-Ok-judge_names-clause-checked
returns-in-Ok-judge_names-clause-checked c limits cells before s = c.in-Ok.ensures.taken limits before s.checked

pub returns-in-Err-clause-flaw : goal.returns-in-Err-clause-flaw
returns-in-Err-clause-flaw c limits cells before s =
    let line = c.args.line in
    let events = c.in-Ok.events in
    let text = c.text-text.ensures limits before s.checked in
    let answer = c.in-Ok.ensures.answer limits before s.checked in
    let small : limits.text < 4294967296 = s.written.filler.small in
    let judged = judged_by limits before line c.text-text.result c.data_length.result c.saturating_add-data.result c.text.result c.larger-values.result small text c.data_length.ensures c.saturating_add-data.ensures
    (c.text.ensures limits (line ∷ before) (c.in-Ok.ensures.taken limits before s.checked)) c.larger-values.ensures in
    let is = line_good_at limits before line events cells.steps c.text-text.result c.args.self.now.lines c.larger-values.result s.steps text s.lines s.flawless answer.good answer.events judged in
    let adds = own_stands before line events cells.steps c.own_names-own.result s.steps answer.events (c.own_names-own.ensures limits cells s.written) in
    let names = names_of false (events_to (line ∷ before)) in
    let names_here = names_stand c.args.self.now limits cells before s in
    subst (λ (it : Option Flaw). IsFlawOf it c.in-Err.error) (sym is)
    (c.in-Err.ensures.flaw limits cells names (record { limited = s.limited; written = s.written; names = names_here }) adds)
