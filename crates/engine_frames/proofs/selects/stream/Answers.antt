use Rattle.std.proofs.Common.{ap, ◌∙◌}
use Rattle.doc_model.specs.Answers.{Known}
use Rattle.engine_core.proofs.Asking.{heard, sound_behind}
use Rattle.engine_frames.proofs.Streaming.{stream_over, stream_on, stream_back}
use Rattle.engine_frames.proofs.selects.stream.Goals as goal

pub returns-in_ok-push-in-Ok-Some-3-clause-goes : goal.returns-in_ok-push-in-Ok-Some-3-clause-goes
returns-in_ok-push-in-Ok-Some-3-clause-goes g c =
    rw (c.in_ok-push-in-Ok-Some-3.ensures.ok, c.in_ok-push-in-Ok-Some-2.ensures.ok, c.in_ok-push-in-Ok-Some.ensures.ok, c.in_ok-first-in-Ok-Some.ensures, c.item_of-core.ensures, c.len.ensures)
    (stream_on _ c.args.core.now c.args.select c.args.taken c.args.work c.args.context _ c.pop.new.self c.in-Some.stream c.next.new.stream c.in-Ok-Some.node c.in-Some.ensures
    (sound_behind g.S.ItemStream.walks g.S.ItemStream.follows c.next.ensures.kept g.met.S.ItemStream.goes_on c.requires.sound)
    (heard g.S.ItemStream.walks g.S.ItemStream.follows c.next.ensures.kept _ c.in-Ok-Some.ensures.answers ∙ ap Known c.in-Ok-Some.field-0-is)
    _ c.next.ensures.kept.moves.rules_stay (rw c.in-Ok-Some.field-0-is at c.in-Ok-Some.ensures.there) (rw c.in-Ok-Some.field-0-is at c.in-Ok-Some.ensures.bounded)
    (rw c.in-Ok-Some.field-0-is at c.in-Ok-Some.ensures.walks) c.in-Ok-Some.ensures.follows)

pub returns-in-Ok-None-clause-goes : goal.returns-in-Ok-None-clause-goes
returns-in-Ok-None-clause-goes g c =
    stream_over _ c.args.core.now c.args.select c.args.taken c.args.work c.args.context _ c.pop.new.self c.in-Some.stream c.in-Some.ensures
    (sound_behind g.S.ItemStream.walks g.S.ItemStream.follows c.next.ensures.kept g.met.S.ItemStream.goes_on c.requires.sound)
    (heard g.S.ItemStream.walks g.S.ItemStream.follows c.next.ensures.kept _ c.in-Ok-None.ensures.answers ∙ ap Known c.in-Ok-None.field-0-is)

pub returns-in_ok-push-in-Err-2-clause-goes : goal.returns-in_ok-push-in-Err-2-clause-goes
returns-in_ok-push-in-Err-2-clause-goes g c =
    stream_back _ c.args.core.now c.args.select c.args.taken c.args.work c.args.context _ _ c.pop.new.self c.in-Some.stream c.next.new.stream c.in-Err.stop _ _ c.in-Some.ensures
    c.in_ok-push-in-Err.ensures.ok c.in_ok-push-in-Err-2.ensures.ok
    (sound_behind g.S.ItemStream.walks g.S.ItemStream.follows c.next.ensures.kept g.met.S.ItemStream.goes_on c.requires.sound)
    (heard g.S.ItemStream.walks g.S.ItemStream.follows c.next.ensures.kept _ c.in-Err.ensures.answers)
    c.in-Err.ensures.walks _ c.next.ensures.kept.moves.rules_stay c.in-Err.ensures.follows
