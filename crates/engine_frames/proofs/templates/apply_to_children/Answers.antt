use Rattle.std.proofs.Common.{◌≡◌, ◌++◌, ◌-◌, suc, refl, ap, ◌∙◌, subst, arith}
use Rattle.doc_model.specs.declared.row.Kind.TheVariants as kind
use Rattle.engine_core.specs.Standing.{stand_of}
use Rattle.engine_frames.specs.Opening.{built_in_so}
use Rattle.engine_frames.proofs.BuiltIn.{last_first, streamed}
use Rattle.engine_frames.proofs.templates.apply_to_children.Goals as goal

pub returns : goal.returns
returns g c =
    let m = c.args.core.now in
    let s = c.requires.ready.sound in
    let some = c.if-core-eq0.false in
    let unit : m.budget ≡ suc (m.budget - 1) = omega (arith, some) in
    let follows = subst (λ locals. g.S.ItemStream.follows c.children-stream.result (g.Q.Questions.asked c.args.v.now).lookups (m.globals ++ locals)
    (g.Q.Questions.sees c.args.v.now).rules (g.Q.Questions.sees c.args.v.now).steps) (c.replace-locals.ensures.after ∙ c.new.ensures) c.children-stream.ensures.follows in
    rw (c.in_ok-push-4.ensures.ok, c.in_ok-push-3.ensures.ok, c.in_ok-push.ensures.ok, c.replace-locals.ensures.value, c.replace-locals.ensures.after, c.new.ensures, c.new-2.ensures) (record {
      sheet = refl;
      left = λ u x.
          ap (λ b. built_in_so m.sheet.now u m.frames (stand_of m) kind.Element c.args.mode (record { budget = b; events = m.output; messages = m.messages })) unit
          ∙ streamed m.sheet.now u m.frames (stand_of m) c.args.mode (record { budget = m.budget - 1; events = m.output; messages = m.messages }) (s.sizes ∙ c.if-core.false);
      lighter = omega (arith, some);
      sound = record {
        root = s.root;
        sizes = s.sizes;
        globals = s.globals;
        locals = tt;
        context = s.context;
        holds = rw (last_first m.streams c.children-stream.result) (tt, s.context, (c.children-stream.ensures.walks, follows, (s.locals, s.context, s.holds)));
      };
    })
