use Rattle.std.proofs.Common.{◌≡◌, ◌++◌, Bool, Option, Some, None, ap, sym, ◌∙◌, subst}
use Rattle.std.specs.Prelude.{nat_lt}
use Rattle.doc_model.specs.declared.flaw.Flaw.{Flaw}
use Rattle.doc_model.specs.declared.limits.Limits.{Limits}
use Rattle.doc_model.specs.Rows.{rows_of}
use Rattle.pyx_events.specs.Flaw.{or_flaw}
use Rattle.dtm_builder.specs.Judging.{table_names, IsCount, element_rows, started_flaw, flaw_with}
use Rattle.dtm_builder.proofs.builder.Builder.judge_refused.Goals as goal

pub returns-in-Ok : goal.returns-in-Ok
returns-in-Ok c limits cells all k adds =
    let rows = rows_of cells.steps in
    let events = c.args.completed.now in
    let first : started_flaw limits rows events c.args.text ≡ None =
    subst (λ (l : Limits). started_flaw l rows events c.args.text ≡ None) k.limited (c.in-Ok.ensures.good limits cells k.written k.names) in
    let count : IsCount c.with.result all = c.with.ensures (table_names (rows ++ element_rows events)) all (c.in-Ok.ensures.names limits cells k.written k.names) adds in
    let many : c.is_over-many.result ≡ nat_lt limits.names all.count = c.is_over-many.ensures all count ∙ ap (λ (l : Limits). nat_lt l.names all.count) k.limited in
    ap (λ (flaw : Option Flaw). or_flaw flaw (Some (flaw_with (nat_lt limits.names all.count) c.args.flaw))) first
    ∙ ap (λ (b : Bool). Some (flaw_with b c.args.flaw)) (sym many)
    ∙ ap (λ (flaw : Flaw). Some flaw) (sym c.with_names.ensures)

pub returns-in-Err : goal.returns-in-Err
returns-in-Err c limits cells all k adds =
    let rows = rows_of cells.steps in
    let events = c.args.completed.now in
    let first : started_flaw limits rows events c.args.text ≡ Some c.in-Err.first =
    subst (λ (l : Limits). started_flaw l rows events c.args.text ≡ Some c.in-Err.first) k.limited (c.in-Err.ensures.flaw limits cells k.written k.names) in
    ap (λ (flaw : Option Flaw). or_flaw flaw (Some (flaw_with (nat_lt limits.names all.count) c.args.flaw))) first
