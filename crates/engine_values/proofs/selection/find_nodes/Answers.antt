use Rattle.std.proofs.Common.{◌∙◌, sym, subst, Ok, Err}
use Rattle.engine_core.proofs.Asking.{heard}
use Rattle.engine_core.proofs.Keeping.{kept_none}
use Rattle.engine_values.proofs.Selections.{at_nodes, has_no_stream, has_sorts, nodes_found, nodes_stop}
use Rattle.xpath_laws.specs.Sound.{Each, IsThere}
use Rattle.engine_values.proofs.selection.find_nodes.Goals as goal
use Rattle.engine_values.proofs.selection.find_nodes.Goals.{then-is_empty+in_ok-stream, else-is_empty}

pub returns-in_err-stream-clause-kept : goal.returns-in_err-stream-clause-kept
returns-in_err-stream-clause-kept g c = kept_none c.requires.stands

pub returns-in-Some-clause-kept : goal.returns-in-Some-clause-kept
returns-in-Some-clause-kept g c = kept_none c.requires.stands

pub returns-in_err-nodes-in-None-clause-found : goal.returns-in_err-nodes-in-None-clause-found
returns-in_err-nodes-in-None-clause-found g c =
    let steps = (g.Q.Questions.sees c.args.v.now).steps in
    nodes_stop _ steps _ c.args.core.now c.args.select c.args.sorts
    (elim c.if-is_empty.branch [
      | then-is_empty+in_ok-stream w ↦ has_no_stream c.args.select.now c.args.sorts.now _ w.in_ok-stream.ensures.none (sym w.stream-is ∙ c.in-None.is)
      | else-is_empty w ↦ has_sorts c.args.select.now c.args.sorts.now w.if-is_empty.ensures
    ])
    c.in_err-nodes-in-None.field-0.0 _ (heard g.S.ItemStream.walks g.S.ItemStream.follows c.nodes.ensures.kept {at = at_nodes c.args.core.now c.args.select.now} (Err c.in_err-nodes-in-None.field-0.0)
    c.in_err-nodes-in-None.ensures.answers)
    c.from_residual-in_err-nodes-in-None.ensures.1

pub returns-in_ok-nodes-in-None-clause-found : goal.returns-in_ok-nodes-in-None-clause-found
returns-in_ok-nodes-in-None-clause-found g c =
    let steps = (g.Q.Questions.sees c.args.v.now).steps in
    nodes_found _ steps _ c.args.core.now c.args.select c.args.sorts
    (elim c.if-is_empty.branch [
      | then-is_empty+in_ok-stream w ↦ has_no_stream c.args.select.now c.args.sorts.now _ w.in_ok-stream.ensures.none (sym w.stream-is ∙ c.in-None.is)
      | else-is_empty w ↦ has_sorts c.args.select.now c.args.sorts.now w.if-is_empty.ensures
    ])
    c.in_ok-nodes-in-None.field-0 (heard g.S.ItemStream.walks g.S.ItemStream.follows c.nodes.ensures.kept {at = at_nodes c.args.core.now c.args.select.now} (Ok c.in_ok-nodes-in-None.field-0)
    c.in_ok-nodes-in-None.ensures.answers)
    (subst (λ rules. Each (IsThere rules (g.Q.Questions.sees c.nodes.new.self).steps) c.in_ok-nodes-in-None.field-0) c.nodes.ensures.kept.moves.rules_stay c.in_ok-nodes-in-None.ensures.there)
    c.in_ok-nodes-in-None.ensures.bounded
