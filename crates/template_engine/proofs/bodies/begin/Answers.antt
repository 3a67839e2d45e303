use Rattle.std.proofs.Common.{◌≡◌, suc, ◌-◌, refl, sym, ap, ◌∙◌, subst, arith, ◌∷◌, false}
use Rattle.engine_core.specs.Standing.{stand_of}
use Rattle.engine_meaning.specs.Runs.{Faulted}
use Rattle.fault_kinds.specs.declared.fault.FaultKind.TheVariants.{Budget}
use Rattle.frame_meaning.proofs.Instructions.{begin_fails, begins}
use Rattle.frame_meaning.specs.Apart.{surface}
use Rattle.frame_meaning.specs.Rest.{rest}
use Rattle.frames.specs.Apart.{base}
use Rattle.engine_core.specs.Holding.{scene, world_at}
use Rattle.frames.specs.declared.frame.Frame.TheVariants as f
use Rattle.template_engine.proofs.bodies.begin.Goals as goal

pub returns-then-core-eq0 : goal.returns-then-core-eq0
returns-then-core-eq0 g c =
    let m = c.args.core.now in
    let none : m.budget ≡ 0 = omega arith in
    λ lookups rules steps sound.
    let u = world_at (scene g.S.ItemStream.walks g.S.ItemStream.follows lookups rules) steps in
    subst (λ b. rest m.sheet.now u (f.Body c.args.rest false c.args.kept ∷ m.frames) (stand_of m) (record { budget = b; events = m.output; messages = m.messages })
    ≡ Faulted Budget (surface (base m.frames) (record { budget = b; events = m.output; messages = m.messages }))) (sym none)
    (begin_fails m.sheet.now u c.args.kept m.frames (stand_of m) (record { budget = 0; events = m.output; messages = m.messages }) c.args.rest _ _ c.in-Some.ensures.cases.0)

pub returns : goal.returns
returns g c =
    let m = c.args.core.now in
    let unit : m.budget ≡ suc (m.budget - 1) = omega arith in
    rw c.in_ok-push.ensures.ok (λ lookups rules steps sound. record {
      sheet = refl;
      left = λ u x.
          ap (λ b. rest m.sheet.now u (f.Body c.args.rest false c.args.kept ∷ m.frames) (stand_of m) (record { budget = b; events = m.output; messages = m.messages })) unit
          ∙ begins m.sheet.now u c.args.kept m.frames (stand_of m) (record { budget = m.budget - 1; events = m.output; messages = m.messages }) c.args.rest _ _ c.in-Some.ensures.cases.0;
      lighter = omega arith;
      sound = record { root = sound.root; sizes = sound.sizes; globals = sound.globals; locals = sound.locals; context = sound.context; holds = sound.holds };
    })
