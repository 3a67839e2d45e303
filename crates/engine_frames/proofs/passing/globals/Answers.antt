use Rattle.std.proofs.Common.{sym}
use Rattle.engine_core.proofs.Asking.{sound_behind}
use Rattle.engine_core.proofs.Keeping.{kept_none}
use Rattle.engine_frames.proofs.Giving.{global_found, global_back}
use Rattle.engine_frames.proofs.passing.globals.Goals as goal

pub returns-in_default-clause-kept : goal.returns-in_default-clause-kept
returns-in_default-clause-kept g c = kept_none c.requires.stands

pub returns-in_err-push-clause-kept : goal.returns-in_err-push-clause-kept
returns-in_err-push-clause-kept g c = kept_none c.requires.stands

pub returns-in_default-get-clause-kept : goal.returns-in_default-get-clause-kept
returns-in_default-get-clause-kept g c = kept_none c.requires.stands

pub returns-then-core-eq0-clause-kept : goal.returns-then-core-eq0-clause-kept
returns-then-core-eq0-clause-kept g c = kept_none c.requires.stands

pub returns-in_err-push-2-clause-kept : goal.returns-in_err-push-2-clause-kept
returns-in_err-push-2-clause-kept g c = kept_none c.requires.stands

pub returns-then-not-begun-clause-kept : goal.returns-then-not-begun-clause-kept
returns-then-not-begun-clause-kept g c = kept_none c.requires.stands

pub returns-in-Ok-clause-goes : goal.returns-in-Ok-clause-goes
returns-in-Ok-clause-goes g c =
    global_found _ _ _ c.args.core.now c.args.left c.in-Some.more c.in-Some.at.now c.in-Some-get.global.now c.in-Some.ensures.cases.0 (sym c.in-Some-get.ensures.value) c.args.begun c.if-not-begun.false
    (sound_behind g.S.ItemStream.walks g.S.ItemStream.follows c.find_value.ensures.kept g.met.S.ItemStream.goes_on c.requires.sound) c.find_value.ensures.kept.moves.seen.lawful
    c.in-Ok.found c.give.new.core c.give.result _ _ c.root_context-core.ensures c.new.ensures c.in-Ok.ensures.found (c.give.ensures _ _ _)

pub returns-in_ok-push-in-Err-clause-goes : goal.returns-in_ok-push-in-Err-clause-goes
returns-in_ok-push-in-Err-clause-goes g c =
    global_back _ _ _ c.args.core.now c.args.left c.in-Some.more c.in-Some.at.now c.in-Some-get.global.now c.in-Some.ensures.cases.0 (sym c.in-Some-get.ensures.value) c.args.begun c.if-not-begun.false
    (sound_behind g.S.ItemStream.walks g.S.ItemStream.follows c.find_value.ensures.kept g.met.S.ItemStream.goes_on c.requires.sound)
    c.in-Err.stop _ _ _ c.root_context-core.ensures c.new.ensures c.in_ok-push-in-Err.ensures.ok c.in-Err.ensures.found
