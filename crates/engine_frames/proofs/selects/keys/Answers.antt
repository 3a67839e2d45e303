use Rattle.std.proofs.Common.{◌≡◌, refl, sym, ap, ◌∙◌, subst, suc, ◌+◌, length, Some, None, Err, arith}
use Rattle.std.specs.Prelude.{slice_get}
use Rattle.doc_model.specs.Answers as answer
use Rattle.engine_core.proofs.Asking.{each_append, heard, Hears, sound_behind}
use Rattle.engine_core.proofs.Keeping.{kept_none}
use Rattle.engine_core.specs.Holding.{scene_of, world_at}
use Rattle.engine_core.specs.Standing.{stand_of}
use Rattle.engine_meaning.specs.Places.{at_item}
use Rattle.xpath_meaning.specs.declared.context.Size.TheVariants as size
use Rattle.engine_meaning.specs.Sorts.{in_key_order, keys_at}
use Rattle.frame_meaning.specs.Stand.{setting_at}
use Rattle.xpath_laws.specs.Sound.{IsContext, IsThere}
use Rattle.xpath_meaning.specs.declared.context.Context.{Context}
use Rattle.engine_frames.proofs.Keying.{keys_back, keys_on, keys_over, node_there}
use Rattle.engine_frames.proofs.selects.keys.Goals as goal

pub returns-then-len-gt4294967296-clause-kept : goal.returns-then-len-gt4294967296-clause-kept
returns-then-len-gt4294967296-clause-kept g c = kept_none c.requires.stands

pub returns-in_err-nodes-clause-kept : goal.returns-in_err-nodes-clause-kept
returns-in_err-nodes-clause-kept g c = kept_none c.requires.stands

pub returns-in_err-push-clause-kept : goal.returns-in_err-push-clause-kept
returns-in_err-push-clause-kept g c = kept_none c.requires.stands

pub returns-in_default-clause-kept : goal.returns-in_default-clause-kept
returns-in_default-clause-kept g c = kept_none c.requires.stands

pub returns-in_default-clause-goes : goal.returns-in_default-clause-goes
returns-in_default-clause-goes g c =
    let none : slice_get c.args.nodes (length c.args.rows) ≡ None = subst (λ i. slice_get c.args.nodes i ≡ None) c.len.ensures (sym c.in_default.ensures.value) in
    rw c.in_ok-push.ensures.ok (keys_over _ c.args.core.now c.args.nodes c.args.rows c.args.sorts c.args.work c.args.context _ c.requires.sound none c.in_ok-nodes.nodes
    (c.in_ok-nodes.ensures ∙ ap (λ ns. in_key_order c.args.sorts.now ns c.as_slice-in_default.result.now) c.as_slice.ensures ∙ ap (λ rs. in_key_order c.args.sorts.now c.args.nodes rs) c.as_slice-in_default.ensures))

pub key_row-requires : goal.key_row-requires
key_row-requires g c =
    let some : slice_get c.args.nodes (length c.args.rows) ≡ Some c.in-Some.node.now = subst (λ i. slice_get c.args.nodes i ≡ Some c.in-Some.node.now) c.len.ensures (sym c.in-Some.ensures.value) in
    let m = c.args.core.now in
    let at = node_there _ m c.args.nodes c.args.rows c.args.sorts c.args.work c.args.context _ c.in-Some.node.now c.requires.sound some in
    λ κs. (
      (refl, tt),
      record {
        stands = c.requires.stands;
        values = each_append _ m.globals m.locals c.requires.sound.globals c.requires.sound.locals;
        context = subst (λ (x : Context). IsContext (IsThere (g.Q.Questions.sees c.args.v.now).rules (g.Q.Questions.sees c.args.v.now).steps) x) (sym c.item_of-item.ensures)
            (record { node = at; current = at });
      },
    )

pub returns-in_ok-push-in-Ok-2-clause-goes : goal.returns-in_ok-push-in-Ok-2-clause-goes
returns-in_ok-push-in-Ok-2-clause-goes g c =
    let some : slice_get c.args.nodes (length c.args.rows) ≡ Some c.in-Some.node.now = subst (λ i. slice_get c.args.nodes i ≡ Some c.in-Some.node.now) c.len.ensures (sym c.in-Some.ensures.value) in
    let m = c.args.core.now in
    let s = sound_behind g.S.ItemStream.walks g.S.ItemStream.follows c.in-Ok.ensures.kept g.met.S.ItemStream.goes_on c.requires.sound in
    let one : length c.args.rows + 1 ≡ suc (length c.args.rows) = omega arith in
    let item : c.item_of-item.result ≡ at_item (size.Known (length c.args.nodes)) (suc (length c.args.rows)) c.in-Some.node.now =
    rw (c.item_of-item.ensures, c.len-2.ensures, c.len-3.ensures) (ap (λ i. at_item (size.Known (length c.args.nodes)) i c.in-Some.node.now) one) in
    rw c.in_ok-push-in-Ok-2.ensures.ok (keys_on _ m c.args.nodes c.args.rows c.args.sorts c.args.work c.args.context _ c.in-Some.node.now c.in-Ok.row _ c.in_ok-push-in-Ok.ensures.ok s some
    (subst (λ x. keys_at (setting_at m.sheet.now (world_at (scene_of g.S.ItemStream.walks g.S.ItemStream.follows (g.Q.Questions.asked c.args.v.now) (g.Q.Questions.sees c.args.v.now)) (g.Q.Questions.sees c.key_row.new.v).steps) (stand_of m)) (stand_of m).place c.args.sorts.now x ≡ answer.Known c.in-Ok.row) item
    (heard g.S.ItemStream.walks g.S.ItemStream.follows c.in-Ok.ensures.kept _ (c.in-Ok.ensures.answers m.sheet.now m.context))))

pub returns-in_ok-push-in-Err-clause-goes : goal.returns-in_ok-push-in-Err-clause-goes
returns-in_ok-push-in-Err-clause-goes g c =
    let some : slice_get c.args.nodes (length c.args.rows) ≡ Some c.in-Some.node.now = subst (λ i. slice_get c.args.nodes i ≡ Some c.in-Some.node.now) c.len.ensures (sym c.in-Some.ensures.value) in
    let m = c.args.core.now in
    let s = sound_behind g.S.ItemStream.walks g.S.ItemStream.follows c.in-Err.ensures.kept g.met.S.ItemStream.goes_on c.requires.sound in
    let one : length c.args.rows + 1 ≡ suc (length c.args.rows) = omega arith in
    let item : c.item_of-item.result ≡ at_item (size.Known (length c.args.nodes)) (suc (length c.args.rows)) c.in-Some.node.now =
    rw (c.item_of-item.ensures, c.len-2.ensures, c.len-3.ensures) (ap (λ i. at_item (size.Known (length c.args.nodes)) i c.in-Some.node.now) one) in
    keys_back _ m c.args.nodes c.args.rows c.args.sorts c.args.work c.args.context _ _ c.in-Some.node.now c.in-Err.stop _ c.in_ok-push-in-Err.ensures.ok s some
    (subst (λ x. Hears (scene_of g.S.ItemStream.walks g.S.ItemStream.follows (g.Q.Questions.asked c.args.v.now) (g.Q.Questions.sees c.args.v.now)) (g.Q.Questions.sees c.args.v.now).steps (g.Q.Questions.sees c.key_row.new.v).steps
    (λ u. keys_at (setting_at m.sheet.now u (stand_of m)) (stand_of m).place c.args.sorts.now x) (Err c.in-Err.stop)) item
    (heard g.S.ItemStream.walks g.S.ItemStream.follows c.in-Err.ensures.kept _ (c.in-Err.ensures.answers m.sheet.now m.context)))
