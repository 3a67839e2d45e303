use Rattle.std.proofs.Common.{◌∙◌, ◌&&◌, sym, ap}
use Rattle.std.proofs.lemmas.Bool.{and_left, and_right}
use Rattle.doc_model.specs.declared.row.Kind.TheVariants.{Element}
use Rattle.doc_model.specs.Axes.{is_node}
use Rattle.doc_model.specs.NodeTests.{meets}
use Rattle.doc_model.specs.Rows.{rows_of}
use Rattle.doc_model.specs.Strip.{is_visible}
use Rattle.doc_laws.proofs.Growth.{joined_grows}
use Rattle.axis_walkers.proofs.Offering.{met_moves, row_later}
use Rattle.axis_walkers.proofs.selection.is_plain.Goals as goal

pub returns-then-not-passes-clause-value : goal.returns-then-not-passes-clause-value
returns-then-not-passes-clause-value g c =
    let s = g.V.NodeView.sees c.meets.new.view in
    sym (and_right (is_visible s.rules (rows_of s.steps) c.args.k) _ (and_left _ (is_node (rows_of s.steps) c.args.k) (sym c.in_ok-passes.ensures.value ∙ c.if-not-passes.true)))

pub returns-clause-met : goal.returns-clause-met
returns-clause-met g c = met_moves _ _ (meets Element c.args.test.now) c.meets.new.met c.meets.ensures.moves.seen c.is_shown_node.ensures.moves c.meets.ensures.met

pub returns-clause-value : goal.returns-clause-value
returns-clause-value g c =
    let s = g.V.NodeView.sees c.is_shown_node.new.view in
    let j = joined_grows _ _ c.args.k c.meets.ensures.moves.grows c.requires.joined in
    let met = ap (meets Element c.args.test.now) (row_later _ _ c.args.k c.is_shown_node.ensures.moves.grows j) ∙ sym c.in_ok-passes.ensures.value ∙ c.if-not-passes.false in
    c.is_shown_node.ensures.value ∙ ap (λ b. is_visible s.rules (rows_of s.steps) c.args.k && (b && is_node (rows_of s.steps) c.args.k)) (sym met)
