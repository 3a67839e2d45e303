use Rattle.std.proofs.Common.{sym, ◌∙◌}
use Rattle.doc_model.specs.Rows.{rows_of}
use Rattle.doc_laws.proofs.Links.{parent_before}
use Rattle.doc_laws.proofs.Moving.{moves_on}
use Rattle.engine_content.proofs.Chains.{climbed_first, climbed_later, climbed_some, climbed_on, is_there}
use Rattle.engine_content.proofs.climbing.climb.Goals as goal

pub climb-init : goal.climb-init
climb-init g c = record {
  moved = c.told.ensures;
  climbed = climbed_later (g.V.NodeView.sees c.args.view.now).steps (g.V.NodeView.sees c.told.new.self).steps c.args.at c.args.at c.args.to c.args.made.now c.args.made.now c.told.ensures.grows
      (climbed_first (g.V.NodeView.sees c.args.view.now).steps c.args.at c.args.to c.args.made.now c.requires.joined c.requires.around);
}

pub unwrap-up-requires : goal.unwrap-up-requires
unwrap-up-requires g c =
    let now = (g.V.NodeView.sees c.parent.new.self).steps in
    let m = c.parent.ensures.moves in
    is_there c.parent.result (λ e. climbed_some now c.args.at c.climb.open c.args.to c.args.made.now c.climb.made m.seen.lawful
    (climbed_later (g.V.NodeView.sees c.climb.view).steps now c.args.at c.climb.open c.args.to c.args.made.now c.climb.made m.grows c.climb.invariant.climbed) c.climb-test.true
    (sym c.parent.ensures.value ∙ e))

pub returns-in_err-push-clause-moves : goal.returns-in_err-push-clause-moves
returns-in_err-push-clause-moves g c = moves_on _ _ _ c.climb.invariant.moved c.parent.ensures.moves

pub climb-smaller : goal.climb-smaller
climb-smaller g c = (parent_before (rows_of (g.V.NodeView.sees c.parent.new.self).steps) c.climb.open c.unwrap-up.result (sym c.parent.ensures.value ∙ c.unwrap-up.ensures)).0

pub climb-preserved : goal.climb-preserved
climb-preserved g c =
    let now = (g.V.NodeView.sees c.parent.new.self).steps in
    let m = c.parent.ensures.moves in
    record {
      moved = moves_on _ _ _ c.climb.invariant.moved c.parent.ensures.moves;
      climbed = climbed_on now c.args.at c.climb.open c.args.to c.unwrap-up.result c.args.made.now c.climb.made c.push.new.self m.seen.lawful
          (climbed_later (g.V.NodeView.sees c.climb.view).steps now c.args.at c.climb.open c.args.to c.args.made.now c.climb.made m.grows c.climb.invariant.climbed) c.climb-test.true (sym c.parent.ensures.value ∙ c.unwrap-up.ensures) c.in_ok-push.ensures.ok;
    }
