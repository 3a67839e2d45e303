use Rattle.std.proofs.Common.{◌∙◌, ap, sym}
use Rattle.doc_laws.proofs.Moving.{moves_on}
use Rattle.doc_model.specs.Rows.{row_at, rows_of}
use Rattle.doc_model.specs.declared.row.Row.{Row}
use Rattle.document_questions.proofs.Keeping.{kept_moves}
use Rattle.document_questions.proofs.Shallows.{alone_is, around_is, if_failed}
use Rattle.axis_walkers.proofs.Offering.{row_later}
use Rattle.xpath_nodes.proofs.Holding.{there_on}
use Rattle.document_questions.proofs.document.DocumentQuestionsItems.shallow.Goals as goal

pub returns-in_err-name_of-in-Element-clause-kept : goal.returns-in_err-name_of-in-Element-clause-kept
returns-in_err-name_of-in-Element-clause-kept g c =
    kept_moves {made = g.K.KeySource.made c.args.self.now.keys.now} c.args.self.now.view.ghost_name c.args.self.now.keys.ghost_name c.args.self.now.sheet.now.rules
    (g.met.K.KeySource.goes_on c.args.self.now.keys.now) (moves_on _ _ _ c.kind-kind.ensures.moves c.in_err-name_of-in-Element.ensures.moves) c.requires.stands

pub returns-in-Root-clause-kept : goal.returns-in-Root-clause-kept
returns-in-Root-clause-kept g c =
    kept_moves {made = g.K.KeySource.made c.args.self.now.keys.now} c.args.self.now.view.ghost_name c.args.self.now.keys.ghost_name c.args.self.now.sheet.now.rules
    (g.met.K.KeySource.goes_on c.args.self.now.keys.now) c.kind-kind.ensures.moves c.requires.stands

pub returns-in_ok-name_of-in-Element-clause-kept : goal.returns-in_ok-name_of-in-Element-clause-kept
returns-in_ok-name_of-in-Element-clause-kept g c =
    kept_moves {made = g.K.KeySource.made c.args.self.now.keys.now} c.args.self.now.view.ghost_name c.args.self.now.keys.ghost_name c.args.self.now.sheet.now.rules
    (g.met.K.KeySource.goes_on c.args.self.now.keys.now) (moves_on _ _ _ c.kind-kind.ensures.moves c.in_ok-name_of-in-Element.ensures.moves) c.requires.stands

pub returns-in_err-made-in-Attribute : goal.returns-in_err-made-in-Attribute
returns-in_err-made-in-Attribute g c = record {
  kept = kept_moves {made = g.K.KeySource.made c.args.self.now.keys.now} c.args.self.now.view.ghost_name c.args.self.now.keys.ghost_name c.args.self.now.sheet.now.rules
      (g.met.K.KeySource.goes_on c.args.self.now.keys.now) c.kind-kind.ensures.moves c.requires.stands;
  value = if_failed _ c.from_residual-in_err-made-in-Attribute.result c.from_residual-in_err-made-in-Attribute.ensures.0;
}

pub returns-in_err-begin-in-Attribute : goal.returns-in_err-begin-in-Attribute
returns-in_err-begin-in-Attribute g c = record {
  kept = kept_moves {made = g.K.KeySource.made c.args.self.now.keys.now} c.args.self.now.view.ghost_name c.args.self.now.keys.ghost_name c.args.self.now.sheet.now.rules
      (g.met.K.KeySource.goes_on c.args.self.now.keys.now) (moves_on _ _ _ c.kind-kind.ensures.moves c.in_err-begin-in-Attribute.ensures.moves) c.requires.stands;
  value = if_failed _ c.from_residual-in_err-begin-in-Attribute.result c.from_residual-in_err-begin-in-Attribute.ensures.0;
}

pub returns-in_ok-name_of-in-Element-clause-value : goal.returns-in_ok-name_of-in-Element-clause-value
returns-in_ok-name_of-in-Element-clause-value g c =
    let mid = g.V.NodeView.sees c.kind-kind.new.self in
    let t = g.V.NodeView.sees c.name_of.new.view in
    let there = there_on _ _ c.args.n c.kind-kind.ensures.moves c.requires.there in
    let same = row_later mid.steps t.steps c.args.n c.in_ok-name_of-in-Element.ensures.moves.grows there.0 in
    around_is c.in_ok-name_of-in-Element.field-0 (row_at (rows_of t.steps) c.args.n)
    (ap (λ (row : Row). row.kind) same ∙ sym c.kind-kind.ensures.value ∙ c.in-Element.is) c.in_ok-name_of-in-Element.ensures.value

pub returns-in_ok-begin-in-Attribute : goal.returns-in_ok-begin-in-Attribute
returns-in_ok-begin-in-Attribute g c =
    let mid = g.V.NodeView.sees c.kind-kind.new.self in
    let t = g.V.NodeView.sees c.begin.new.view in
    let there = there_on _ _ c.args.n c.kind-kind.ensures.moves c.requires.there in
    let same = row_later mid.steps t.steps c.args.n c.in_ok-begin-in-Attribute.ensures.moves.grows there.0 in
    record {
      kept = kept_moves {made = g.K.KeySource.made c.args.self.now.keys.now} c.args.self.now.view.ghost_name c.args.self.now.keys.ghost_name c.args.self.now.sheet.now.rules
          (g.met.K.KeySource.goes_on c.args.self.now.keys.now) (moves_on _ _ _ c.kind-kind.ensures.moves c.in_ok-begin-in-Attribute.ensures.moves) c.requires.stands;
      value = alone_is c.into_events.result c.in_ok-made-in-Attribute.made c.kind-kind.result (row_at (rows_of t.steps) c.args.n)
          (ap (λ (row : Row). row.kind) same ∙ sym c.kind-kind.ensures.value) c.in-Attribute.is
          c.in_ok-made-in-Attribute.ensures (c.into_events.ensures ∙ c.in_ok-begin-in-Attribute.ensures.value);
    }
