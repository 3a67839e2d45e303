use Rattle.std.proofs.Common.{◌≡◌, ◌+◌, ◌-◌, ◌*◌, suc, length, refl, ap, ◌∙◌, sym, arith, None, Some}
use Rattle.doc_laws.proofs.Growth.{Grows-refl}
use Rattle.engine_core.proofs.Asking.{sound_behind}
use Rattle.engine_core.proofs.Keeping.{kept_none, world_goes_on}
use Rattle.engine_core.proofs.Moves.{does_goes, does_same}
use Rattle.engine_core.specs.Holding.{scene_of, there, world_at}
use Rattle.engine_core.specs.Standing.{state_in}
use Rattle.engine_laws.specs.Growing.{Continues}
use Rattle.engine_meaning.specs.Places.{World, given_as}
use Rattle.frame_meaning.specs.Uses.{givens}
use Rattle.frames.specs.declared.frame.Frame.TheVariants as f
use Rattle.frames.specs.declared.parts.Use.TheVariants as use_of
use Rattle.sheet_ast.specs.declared.instruction.Variable.{out-Variable}
use Rattle.engine_frames.proofs.Declaring as declare
use Rattle.engine_frames.proofs.Names.{given_there}
use Rattle.engine_frames.proofs.Returning.{back_by}
use Rattle.engine_frames.proofs.templates.declared.Goals as goal

pub returns-in_err-push-clause-kept : goal.returns-in_err-push-clause-kept
returns-in_err-push-clause-kept g c = kept_none c.requires.stands

pub returns-in_default-clause-kept : goal.returns-in_default-clause-kept
returns-in_default-clause-kept g c = kept_none c.requires.stands

pub returns-then-core-eq0-clause-kept : goal.returns-then-core-eq0-clause-kept
returns-then-core-eq0-clause-kept g c = kept_none c.requires.stands

pub returns-in_err-push-2-clause-kept : goal.returns-in_err-push-2-clause-kept
returns-in_err-push-2-clause-kept g c = kept_none c.requires.stands

pub returns-then-not-begun-clause-kept : goal.returns-then-not-begun-clause-kept
returns-then-not-begun-clause-kept g c = kept_none c.requires.stands

pub returns-then-not-begun-clause-goes : goal.returns-then-not-begun-clause-goes
returns-then-not-begun-clause-goes g c =
    let m = c.args.core.now in
    let s = c.requires.sound in
    let some = c.if-core-eq0.false in
    let unit : m.budget ≡ suc (m.budget - 1) = omega (arith, some) in
    rw c.in_ok-push-2.ensures.ok (record {
      sheet = refl;
      left = λ u x. declare.begins m c.args.declaring c.in-Some.first.now c.in-Some.more c.in-Some.ensures.cases.0 u (m.budget - 1) c.if-not-begun.true unit;
      lighter = omega (arith, some);
      sound = record { root = s.root; sizes = s.sizes; globals = s.globals; locals = s.locals; context = s.context; holds = s.holds };
    })

pub returns-in_default-copy_value-clause-kept : goal.returns-in_default-copy_value-clause-kept
returns-in_default-copy_value-clause-kept g c = kept_none c.requires.stands

pub returns-in-Some-given_under-clause-kept : goal.returns-in-Some-given_under-clause-kept
returns-in-Some-given_under-clause-kept g c = kept_none c.requires.stands

pub returns-in-Some-given_under-clause-goes : goal.returns-in-Some-given_under-clause-goes
returns-in-Some-given_under-clause-goes g c =
    let z = scene_of g.S.ItemStream.walks g.S.ItemStream.follows (g.Q.Questions.asked c.args.v.now) (g.Q.Questions.sees c.args.v.now) in
    let steps = (g.Q.Questions.sees c.args.v.now).steps in
    let m = c.args.core.now in
    let d = c.args.declaring in
    let s = c.requires.sound in
    let shorter = c.in-Some.ensures.cases.1 in
    let is : given_as (out-Variable c.in-Some.first.now).name (givens d.given) ≡ Some c.in-Ok.value =
    ap (λ gs. given_as (out-Variable c.in-Some.first.now).name (givens gs)) (sym c.as_slice.ensures) ∙ sym c.in-Some-given_under.ensures ∙ ap (λ x. Some x) (sym c.in-Ok.ensures) in
    does_goes z steps steps _ (4 * length d.left.now + 2) m _ _ (does_same z steps _ _ _ (4 * length d.left.now + 2) m _ _
    (λ u x. declare.is_given m d c.in-Some.first.now c.in-Some.more c.in-Some.ensures.cases.0 u c.in-Ok.value c.if-not-begun.false is)
    (declare.is_given m d c.in-Some.first.now c.in-Some.more c.in-Some.ensures.cases.0 _ c.in-Ok.value c.if-not-begun.false is)
    (λ l. omega (arith, l, shorter))
    (c.use_value.ensures (g.Q.Questions.asked c.args.v.now).lookups (g.Q.Questions.sees c.args.v.now).rules steps
    (record { root = s.root; sizes = s.sizes; globals = s.globals; locals = s.locals; context = s.context; holds = s.holds })
    (given_there (there z steps) (out-Variable c.in-Some.first.now).name d.given c.in-Ok.value s.holds.0 is)))

pub returns-in-Ok-find_value-clause-goes : goal.returns-in-Ok-find_value-clause-goes
returns-in-Ok-find_value-clause-goes g c =
    let z = scene_of g.S.ItemStream.walks g.S.ItemStream.follows (g.Q.Questions.asked c.args.v.now) (g.Q.Questions.sees c.args.v.now) in
    let before = (g.Q.Questions.sees c.args.v.now).steps in
    let later = (g.Q.Questions.sees c.find_value.new.v).steps in
    let m = c.args.core.now in
    let d = c.args.declaring in
    let k = c.in-Ok-find_value.ensures.kept in
    let s = sound_behind g.S.ItemStream.walks g.S.ItemStream.follows k g.met.S.ItemStream.goes_on c.requires.sound in
    let found = c.in-Ok-find_value.ensures.found in
    let shorter = c.in-Some.ensures.cases.1 in
    let is : given_as (out-Variable c.in-Some.first.now).name (givens d.given) ≡ None =
    ap (λ gs. given_as (out-Variable c.in-Some.first.now).name (givens gs)) (sym c.as_slice.ensures) ∙ sym c.in_default-given_under.ensures in
    let left = λ (u : World) (x : Continues (world_at z later) u). declare.is_own m d c.in-Some.first.now c.in-Some.more c.in-Some.ensures.cases.0 u c.if-not-begun.false is ∙ found.left m.frames (state_in m) (use_of.Declared (declare.next_of d c.in-Some.more)) u x in
    does_goes z before later _ (4 * length d.left.now + 2) m _ _ (does_same z later _ _ _ (4 * length d.left.now + 2) m _ _ left
    (left _ (world_goes_on z.lookups z.rules later later (Grows-refl later) k.moves.seen.lawful))
    (λ l. omega (arith, l, shorter))
    (c.give.ensures (g.Q.Questions.asked c.args.v.now).lookups (g.Q.Questions.sees c.args.v.now).rules later
    (record { root = s.root; sizes = s.sizes; globals = s.globals; locals = s.locals; context = s.context; holds = s.holds }) found.there))

pub returns-in_ok-push-in-Err-clause-goes : goal.returns-in_ok-push-in-Err-clause-goes
returns-in_ok-push-in-Err-clause-goes g c =
    let z = scene_of g.S.ItemStream.walks g.S.ItemStream.follows (g.Q.Questions.asked c.args.v.now) (g.Q.Questions.sees c.args.v.now) in
    let before = (g.Q.Questions.sees c.args.v.now).steps in
    let later = (g.Q.Questions.sees c.find_value.new.v).steps in
    let m = c.args.core.now in
    let d = c.args.declaring in
    let s = sound_behind g.S.ItemStream.walks g.S.ItemStream.follows c.in-Err.ensures.kept g.met.S.ItemStream.goes_on c.requires.sound in
    let is : given_as (out-Variable c.in-Some.first.now).name (givens d.given) ≡ None =
    ap (λ gs. given_as (out-Variable c.in-Some.first.now).name (givens gs)) (sym c.as_slice.ensures) ∙ sym c.in_default-given_under.ensures in
    back_by (Unit {0}) z before later (4 * length d.left.now + 2) m (f.Declared d) _ c.in-Err.stop c.in_ok-push-in-Err.ensures.ok s
    (declare.own_stops m d c.in-Some.first.now c.in-Some.more c.in-Some.ensures.cases.0 z before later c.in-Err.stop c.if-not-begun.false is c.in-Err.ensures.found)
