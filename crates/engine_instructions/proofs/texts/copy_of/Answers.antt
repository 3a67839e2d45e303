use Rattle.std.proofs.Common.{refl, arith, ap, subst, ◌∙◌}
use Rattle.doc_model.specs.Answers.{Known}
use Rattle.engine_core.proofs.Asking.{heard, sound_behind, still_known}
use Rattle.engine_core.proofs.Moves.{stops_by}
use Rattle.engine_core.specs.Holding.{scene_of}
use Rattle.engine_core.specs.Standing.{stand_of, state_in}
use Rattle.engine_instructions.proofs.Copying.{copy_of_hangs}
use Rattle.engine_instructions.proofs.Counting.{few_nodes}
use Rattle.engine_instructions.proofs.Hanging.{W}
use Rattle.engine_instructions.proofs.Sounds.{sound_with}
use Rattle.engine_laws.proofs.Asking.{value_stays}
use Rattle.engine_meaning.specs.Questions.{value_at}
use Rattle.frame_meaning.proofs.Instructions.{copy_of_atom, copy_of_fragment, copy_of_nodes}
use Rattle.xpath_laws.specs.Sound.{Each, IsThere, IsValue}
use Rattle.engine_instructions.proofs.texts.copy_of.Goals as goal

pub returns-in_err-value-clause-tries : goal.returns-in_err-value-clause-tries
returns-in_err-value-clause-tries g c =
    let m = c.args.core.now in
    stops_by _ _ _ (λ u. value_at (W m c.args.others c.args.kept u) (stand_of m).place c.args.select.now) _ _ m c.in_err-value.field-0.0 _
    (copy_of_hangs m c.args.others c.args.kept c.args.select.now)
    (heard g.S.ItemStream.walks g.S.ItemStream.follows c.value.ensures.kept _ c.in_err-value.ensures.answers) c.from_residual.ensures.1

pub returns-in_ok-push-in-Nodes-clause-tries : goal.returns-in_ok-push-in-Nodes-clause-tries
returns-in_ok-push-in-Nodes-clause-tries g c =
    let m = c.args.core.now in
    let z = scene_of g.S.ItemStream.walks g.S.ItemStream.follows (g.Q.Questions.asked c.args.v.now) (g.Q.Questions.sees c.args.v.now) in
    let later = (g.Q.Questions.sees c.value.new.self).steps in
    let hears = heard g.S.ItemStream.walks g.S.ItemStream.follows c.value.ensures.kept _ c.in_ok-value.ensures.answers in
    let sound = sound_behind g.S.ItemStream.walks g.S.ItemStream.follows c.value.ensures.kept g.met.S.ItemStream.goes_on c.requires.sound in
    let nodes = subst (λ v. IsValue (IsThere (g.Q.Questions.sees c.value.new.self).rules later) v) c.in-Nodes.is c.in_ok-value.ensures.there in
    let few = few_nodes (g.Q.Questions.sees c.value.new.self).rules later c.in-Nodes.nodes c.value.ensures.kept.moves.seen.lawful nodes in
    rw (c.in_ok-push-in-Nodes.ensures.ok, c.in_ok-push.ensures.ok) (record {
      sheet = refl;
      left = λ u x. copy_of_nodes m.sheet.now u c.args.others c.args.kept m.frames (stand_of m) (state_in m) c.args.select.now c.in-Nodes.nodes
          (still_known _ _ _ hears (value_stays m.sheet.now m.globals _ u x (stand_of m).place c.args.select.now) ∙ ap (λ v. Known v) c.in-Nodes.is);
      lighter = omega (arith, few);
      sound = sound_with z later m sound _ _ _ (subst (λ rules. Each (IsThere rules later) c.in-Nodes.nodes) c.value.ensures.kept.moves.rules_stay nodes.1, sound.holds);
    })

pub returns-in_ok-push-in-Atom-clause-tries : goal.returns-in_ok-push-in-Atom-clause-tries
returns-in_ok-push-in-Atom-clause-tries g c =
    let m = c.args.core.now in
    let z = scene_of g.S.ItemStream.walks g.S.ItemStream.follows (g.Q.Questions.asked c.args.v.now) (g.Q.Questions.sees c.args.v.now) in
    let later = (g.Q.Questions.sees c.value.new.self).steps in
    let hears = heard g.S.ItemStream.walks g.S.ItemStream.follows c.value.ensures.kept _ c.in_ok-value.ensures.answers in
    let sound = sound_behind g.S.ItemStream.walks g.S.ItemStream.follows c.value.ensures.kept g.met.S.ItemStream.goes_on c.requires.sound in
    rw (c.in_ok-push-in-Atom.ensures.ok, c.in_ok-push.ensures.ok, c.in-Ok.ensures) (record {
      sheet = refl;
      left = λ u x. copy_of_atom m.sheet.now u c.args.others c.args.kept m.frames (stand_of m) (state_in m) c.args.select.now c.in-Atom.atom
          (still_known _ _ _ hears (value_stays m.sheet.now m.globals _ u x (stand_of m).place c.args.select.now) ∙ ap (λ v. Known v) c.in-Atom.is);
      lighter = omega arith;
      sound = sound_with z later m sound _ _ _ sound.holds;
    })

pub returns-in_ok-append-in-Fragment-clause-tries : goal.returns-in_ok-append-in-Fragment-clause-tries
returns-in_ok-append-in-Fragment-clause-tries g c =
    let m = c.args.core.now in
    let z = scene_of g.S.ItemStream.walks g.S.ItemStream.follows (g.Q.Questions.asked c.args.v.now) (g.Q.Questions.sees c.args.v.now) in
    let later = (g.Q.Questions.sees c.value.new.self).steps in
    let hears = heard g.S.ItemStream.walks g.S.ItemStream.follows c.value.ensures.kept _ c.in_ok-value.ensures.answers in
    let sound = sound_behind g.S.ItemStream.walks g.S.ItemStream.follows c.value.ensures.kept g.met.S.ItemStream.goes_on c.requires.sound in
    rw (c.in_ok-append-in-Fragment.ensures.ok, c.in_ok-push.ensures.ok) (record {
      sheet = refl;
      left = λ u x. copy_of_fragment m.sheet.now u c.args.others c.args.kept m.frames (stand_of m) (state_in m) c.args.select.now c.in-Fragment.events
          (still_known _ _ _ hears (value_stays m.sheet.now m.globals _ u x (stand_of m).place c.args.select.now) ∙ ap (λ v. Known v) c.in-Fragment.is);
      lighter = omega arith;
      sound = sound_with z later m sound _ _ _ sound.holds;
    })
