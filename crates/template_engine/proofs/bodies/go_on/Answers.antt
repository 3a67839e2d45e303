use Rattle.std.proofs.Common.{refl, sym, ap, subst, ◌∷◌, true, Err}
use Rattle.engine_core.proofs.Asking.{sound_behind}
use Rattle.engine_core.proofs.Keeping.{kept_none}
use Rattle.engine_core.specs.Holding.{Sound, scene_of}
use Rattle.engine_core.specs.Moving.{Goes}
use Rattle.engine_core.specs.Standing.{left_with, stand_of, state_in}
use Rattle.engine_core.specs.declared.state.Core.{Core}
use Rattle.frame_meaning.proofs.Instructions.{begun_acts}
use Rattle.frame_meaning.specs.Rest.{rest}
use Rattle.frames.specs.declared.frame.Frame.TheVariants as f
use Rattle.template_engine.proofs.Stepping.{put_back_begun}
use Rattle.template_engine.proofs.bodies.go_on.Goals as goal

pub returns-in_default-clause-kept : goal.returns-in_default-clause-kept
returns-in_default-clause-kept g c = kept_none c.requires.stands

pub returns-in_ok-push-in-Err-clause-goes : goal.returns-in_ok-push-in-Err-clause-goes
returns-in_ok-push-in-Err-clause-goes g c =
    let m = c.args.core.now in
    let mid = c.act.new.core in
    let z = scene_of g.S.ItemStream.walks g.S.ItemStream.follows (g.Q.Questions.asked c.args.v.now) (g.Q.Questions.sees c.args.v.now) in
    let later = (g.Q.Questions.sees c.act.new.v).steps in
    let s = sound_behind g.S.ItemStream.walks g.S.ItemStream.follows c.in-Err.ensures.kept g.met.S.ItemStream.goes_on c.requires.sound in
    subst (λ fs. Goes {A = Unit {0}} z (g.Q.Questions.sees c.args.v.now).steps later (left_with (f.Body c.args.rest true c.args.kept ∷ m.frames) m) 73786976294838206464 m
    (record mid { frames = fs }) (Err c.in-Err.stop)) (sym c.in_ok-push-in-Err.ensures.ok)
    (put_back_begun (Unit {0}) (Unit {0}) z _ later _ _ 73786976294838206464 m mid _ c.in-Err.stop
    (λ u. begun_acts m.sheet.now u c.args.kept m.frames (stand_of m) (state_in m) c.args.rest c.in-Some.others c.in-Some.first.now c.in-Some.ensures.cases.0)
    refl refl (λ same u. ap (λ (k : Core _). rest k.sheet.now u (f.Body c.args.rest true c.args.kept ∷ k.frames) (stand_of k) (state_in k)) (sym same))
    (λ same. subst (λ (k : Core _). Sound z later (f.Body c.args.rest true c.args.kept ∷ k.frames) (record k { frames = f.Body c.args.rest true c.args.kept ∷ k.frames })) (sym same)
    (record { root = s.root; sizes = s.sizes; globals = s.globals; locals = s.locals; context = s.context; holds = s.holds }))
    c.in-Err.ensures.tries)
