use Rattle.std.proofs.Common.{◌≡◌, ◌+◌, ◌++◌, Option, Some, None, ap, sym, ◌∙◌, subst}
use Rattle.doc_model.specs.declared.flaw.Flaw.{Flaw}
use Rattle.doc_model.specs.declared.flaw.FlawKind.{FlawKind}
use Rattle.doc_model.specs.declared.limits.Limits.{Limits}
use Rattle.doc_model.specs.Rows.{rows_of}
use Rattle.pyx_events.specs.Flaw.{at_line, or_flaw, names_flaw}
use Rattle.dtm_builder.specs.Judging.{table_names, IsCount, element_rows, started_flaw}
use Rattle.dtm_builder.proofs.builder.Builder.judge_names.Goals as goal

pub returns-in-Err-clause-flaw : goal.returns-in-Err-clause-flaw
returns-in-Err-clause-flaw c limits cells all k adds =
    let rows = rows_of cells.steps in
    let later = at_line (c.args.self.now.lines + 1) (names_flaw limits all c.args.values) None in
    let first : started_flaw limits rows c.args.events.now c.args.text ≡ Some c.in-Err.flaw =
    subst (λ (l : Limits). started_flaw l rows c.args.events.now c.args.text ≡ Some c.in-Err.flaw) k.limited (c.in-Err.ensures.flaw limits cells k.written k.names) in
    ap (λ (flaw : Option Flaw). or_flaw flaw later) first

pub returns-in-Some-clause-flaw : goal.returns-in-Some-clause-flaw
returns-in-Some-clause-flaw c limits cells all k adds =
    let rows = rows_of cells.steps in
    let first : started_flaw limits rows c.args.events.now c.args.text ≡ None =
    subst (λ (l : Limits). started_flaw l rows c.args.events.now c.args.text ≡ None) k.limited (c.in-Ok.ensures.good limits cells k.written k.names) in
    let count : IsCount c.with-all.result all = c.with-all.ensures (table_names (rows ++ element_rows c.args.events.now)) all (c.in-Ok.ensures.names limits cells k.written k.names) adds in
    let own : names_flaw limits all c.args.values ≡ Some c.in-Some.kind =
    subst (λ (l : Limits). names_flaw l all c.args.values ≡ Some c.in-Some.kind) k.limited (sym (c.flaw.ensures all count) ∙ c.in-Some.is) in
    ap (λ (flaw : Option Flaw). or_flaw flaw (at_line (c.args.self.now.lines + 1) (names_flaw limits all c.args.values) None)) first
    ∙ ap (λ (kind : Option FlawKind). at_line (c.args.self.now.lines + 1) kind None) own

pub returns-in-None-clause-good : goal.returns-in-None-clause-good
returns-in-None-clause-good c limits cells all k adds =
    let rows = rows_of cells.steps in
    let count : IsCount c.with-all.result all = c.with-all.ensures (table_names (rows ++ element_rows c.args.events.now)) all (c.in-Ok.ensures.names limits cells k.written k.names) adds in
    subst (λ (l : Limits). names_flaw l all c.args.values ≡ None) k.limited (sym (c.flaw.ensures all count) ∙ c.in-None.is)

pub returns-in-None-clause-names : goal.returns-in-None-clause-names
returns-in-None-clause-names c limits cells all k adds =
    c.with-all.ensures (table_names (rows_of cells.steps ++ element_rows c.args.events.now)) all (c.in-Ok.ensures.names limits cells k.written k.names) adds

pub returns-in-None-clause-element : goal.returns-in-None-clause-element
returns-in-None-clause-element c limits cells k =
    subst (λ (l : Limits). started_flaw l (rows_of cells.steps) c.args.events.now c.args.text ≡ None) k.limited (c.in-Ok.ensures.good limits cells k.written k.names)
