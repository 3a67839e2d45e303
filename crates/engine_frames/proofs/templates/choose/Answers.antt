use Rattle.std.proofs.Common.{refl, sym, subst, List, ◌∷◌, Some, None, Ok, Err}
use Rattle.engine_core.proofs.Asking.{Hears, heard, ready_behind, sound_behind, still_known}
use Rattle.engine_core.proofs.Keeping.{kept_on, world_goes_on}
use Rattle.engine_core.proofs.Moves.{does_goes, put_back}
use Rattle.engine_core.specs.Holding.{Scene, scene_of, world_at}
use Rattle.engine_core.specs.Moving.{Does, Goes}
use Rattle.engine_core.specs.Standing.{left_with, stand_of, state_in}
use Rattle.engine_frames.proofs.Choosing.{choice_at, choice_hangs, opens_chosen}
use Rattle.engine_frames.proofs.Spending.{scenes_same}
use Rattle.engine_frames.specs.Opening.{opening_so}
use Rattle.engine_laws.proofs.Choosing.{choice_stays}
use Rattle.engine_meaning.specs.Execution.{InMode}
use Rattle.engine_meaning.specs.Places.{World}
use Rattle.frame_meaning.specs.Uses.{givens}
use Rattle.frames.specs.declared.frame.Frame.{Frame}
use Rattle.frames.specs.declared.frame.Frame.TheVariants as f
use Rattle.rule_choice.specs.Choice.{choice_of}
use Rattle.sheet_ast.specs.declared.sheet.Rule.{Rule}
use Rattle.engine_frames.proofs.templates.choose.Goals as goal

pub returns-in-Err-clause-goes : goal.returns-in-Err-clause-goes
returns-in-Err-clause-goes g c =
    let m = c.args.core.now in
    let z = scene_of g.S.ItemStream.walks g.S.ItemStream.follows (g.Q.Questions.asked c.args.v.now) (g.Q.Questions.sees c.args.v.now) in
    let before = (g.Q.Questions.sees c.args.v.now).steps in
    let later = (g.Q.Questions.sees c.choose.new.self).steps in
    let s = sound_behind g.S.ItemStream.walks g.S.ItemStream.follows c.in-Err.ensures.kept g.met.S.ItemStream.goes_on c.requires.ready.sound in
    subst (λ (frames : List Frame). Goes {A = Unit {0}} z before later (left_with (f.Choose c.args.mode c.args.given ∷ m.frames) m) 1 m (record m { frames = frames }) (Err c.in-Err.stop)) (sym c.in_ok-push-in-Err.ensures.ok)
    (put_back (Unit {0}) z before later (choice_at m c.args.mode c.args.given) (left_with (f.Choose c.args.mode c.args.given ∷ m.frames) m) 1 m
    (record m { frames = f.Choose c.args.mode c.args.given ∷ m.frames }) c.in-Err.stop refl (λ u. refl)
    (record { root = s.root; sizes = s.sizes; globals = s.globals; locals = s.locals; context = s.context; holds = s.holds }) (choice_hangs m c.args.mode c.args.given)
    (subst (λ (rules : List Rule). Hears z before later (λ (u : World). choice_of u.reading rules c.args.mode m.context.node) (Err c.in-Err.stop)) c.requires.rules
    (heard g.S.ItemStream.walks g.S.ItemStream.follows c.in-Err.ensures.kept _ c.in-Err.ensures.answers)))

pub open_built_in-requires : goal.open_built_in-requires
open_built_in-requires g c =
    let s = sound_behind g.S.ItemStream.walks g.S.ItemStream.follows c.in-Ok.ensures.kept g.met.S.ItemStream.goes_on c.requires.ready.sound in
    λ κs. (
      (refl, tt),
      ready_behind g.S.ItemStream.walks g.S.ItemStream.follows c.in-Ok.ensures.kept
          (record { root = s.root; sizes = s.sizes; globals = s.globals; locals = s.locals; context = s.context; holds = s.holds.1 }),
    )

pub returns-in-Some-clause-goes : goal.returns-in-Some-clause-goes
returns-in-Some-clause-goes g c =
    let m = c.args.core.now in
    let z = scene_of g.S.ItemStream.walks g.S.ItemStream.follows (g.Q.Questions.asked c.args.v.now) (g.Q.Questions.sees c.args.v.now) in
    let later = (g.Q.Questions.sees c.choose.new.self).steps in
    let s = sound_behind g.S.ItemStream.walks g.S.ItemStream.follows c.in-Ok.ensures.kept g.met.S.ItemStream.goes_on c.requires.ready.sound in
    does_goes z _ later _ 1 m c.open_template.new.core c.open_template.result
    (opens_chosen m c.args.mode c.args.given z later c.in-Ok.rule (Some c.in-Some.template) c.open_template.new.core c.open_template.result c.in-Some.ensures
    (subst (λ (rules : List Rule). Hears z (g.Q.Questions.sees c.args.v.now).steps later (λ (u : World). choice_of u.reading rules c.args.mode m.context.node) (Ok c.in-Ok.rule)) c.requires.rules
    (heard g.S.ItemStream.walks g.S.ItemStream.follows c.in-Ok.ensures.kept _ c.in-Ok.ensures.answers))
    (c.open_template.ensures _ _ later (InMode c.args.mode)
    (record { root = s.root; sizes = s.sizes; globals = s.globals; locals = s.locals; context = s.context; holds = s.holds })))

pub returns-in-None-clause-kept : goal.returns-in-None-clause-kept
returns-in-None-clause-kept g c = kept_on c.in-Ok.ensures.kept c.open_built_in.ensures.kept

pub returns-in-None-clause-goes : goal.returns-in-None-clause-goes
returns-in-None-clause-goes g c =
    let m = c.args.core.now in
    let k = c.in-Ok.ensures.kept in
    let h = c.open_built_in.ensures.kept in
    let z = scene_of g.S.ItemStream.walks g.S.ItemStream.follows (g.Q.Questions.asked c.args.v.now) (g.Q.Questions.sees c.args.v.now) in
    let mid = (g.Q.Questions.sees c.choose.new.self).steps in
    let later = (g.Q.Questions.sees c.open_built_in.new.v).steps in
    let known = subst (λ (rules : List Rule). Hears z (g.Q.Questions.sees c.args.v.now).steps mid (λ (u : World). choice_of u.reading rules c.args.mode m.context.node) (Ok c.in-Ok.rule))
    c.requires.rules (heard g.S.ItemStream.walks g.S.ItemStream.follows k _ c.in-Ok.ensures.answers) in
    let onward = world_goes_on z.lookups z.rules mid later h.moves.grows h.moves.seen.lawful in
    does_goes z _ later _ 1 m c.open_built_in.new.core c.open_built_in.result
    (opens_chosen m c.args.mode c.args.given z later c.in-Ok.rule None c.open_built_in.new.core c.open_built_in.result c.in-None.ensures
    (still_known (choice_at m c.args.mode c.args.given (world_at z mid)) (choice_at m c.args.mode c.args.given (world_at z later)) c.in-Ok.rule known
    (choice_stays _ _ onward.reading m.sheet.now.rules c.args.mode m.context.node))
    (subst (λ (z : Scene g.row.S.Denot). Does z later (λ u. opening_so m.sheet.now u m.frames (stand_of m) (InMode c.args.mode) (givens c.args.given) None (state_in m)) 1 m
    c.open_built_in.new.core c.open_built_in.result) (sym (scenes_same g.S.ItemStream.walks g.S.ItemStream.follows k)) (c.open_built_in.ensures.does (givens c.args.given))))
