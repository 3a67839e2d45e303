use Rattle.std.proofs.Common.{refl, sym}
use Rattle.engine_core.proofs.Asking.{heard, sound_behind}
use Rattle.engine_core.proofs.Keeping.{kept_none}
use Rattle.engine_frames.proofs.Copying.{node_there, copies_over, copies_on, copies_put_back}
use Rattle.engine_frames.proofs.selects.copies.Goals as goal

pub returns-in_default-clause-kept : goal.returns-in_default-clause-kept
returns-in_default-clause-kept g c = kept_none c.requires.stands

pub returns-in_default-clause-goes : goal.returns-in_default-clause-goes
returns-in_default-clause-goes g c = copies_over _ c.args.core.now c.args.nodes c.args.next _ c.requires.sound (sym c.in_default.ensures.value)

pub copy-requires : goal.copy-requires
copy-requires g c κs = ((refl, tt), record { stands = c.requires.stands; there = node_there _ c.args.core.now c.args.nodes c.args.next _ _ c.requires.sound (sym c.in-Some.ensures.value) })

pub returns-in_ok-push-in-Ok-clause-goes : goal.returns-in_ok-push-in-Ok-clause-goes
returns-in_ok-push-in-Ok-clause-goes g c =
    rw (c.in_ok-push-in-Ok.ensures.ok, c.in_ok-append-in-Ok.ensures.ok)
    (copies_on _ c.args.core.now c.args.nodes c.args.next _ c.in-Some.node.now c.in-Ok.events
    (sound_behind g.S.ItemStream.walks g.S.ItemStream.follows c.copy.ensures.kept g.met.S.ItemStream.goes_on c.requires.sound) (sym c.in-Some.ensures.value)
    (heard g.S.ItemStream.walks g.S.ItemStream.follows c.copy.ensures.kept _ c.in-Ok.ensures.answers))

pub returns-in_ok-push-in-Err-clause-goes : goal.returns-in_ok-push-in-Err-clause-goes
returns-in_ok-push-in-Err-clause-goes g c =
    copies_put_back _ c.args.core.now c.args.nodes c.args.next _ _ c.in-Some.node.now c.in-Err.stop _ c.in_ok-push-in-Err.ensures.ok
    (sound_behind g.S.ItemStream.walks g.S.ItemStream.follows c.copy.ensures.kept g.met.S.ItemStream.goes_on c.requires.sound) (sym c.in-Some.ensures.value)
    (heard g.S.ItemStream.walks g.S.ItemStream.follows c.copy.ensures.kept _ c.in-Err.ensures.answers)
