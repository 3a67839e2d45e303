use Rattle.std.proofs.Common.{◌≡◌, ◌-◌, suc, refl, ap, ◌∙◌, arith}
use Rattle.doc_model.specs.Document.{is_parent}
use Rattle.doc_model.specs.declared.row.Row.{Row}
use Rattle.engine_core.proofs.Asking.{sound_behind, still_known}
use Rattle.engine_core.proofs.Keeping.{kept_none}
use Rattle.engine_core.specs.Standing.{stand_of}
use Rattle.engine_frames.specs.Opening.{built_in_so}
use Rattle.doc_model.specs.declared.row.Kind.TheVariants as kind
use Rattle.engine_frames.proofs.BuiltIn.{row_later, text_copied, value_known}
use Rattle.engine_frames.proofs.templates.copy_text.Goals as goal

pub returns-then-core-eq0-clause-kept : goal.returns-then-core-eq0-clause-kept
returns-then-core-eq0-clause-kept g c = kept_none c.requires.ready.stands

pub returns-clause-does : goal.returns-clause-does
returns-clause-does g c =
    let m = c.args.core.now in
    let lookups = (g.Q.Questions.asked c.args.v.now).lookups in
    let rules = (g.Q.Questions.sees c.args.v.now).rules in
    let before = (g.Q.Questions.sees c.args.v.now).steps in
    let later = (g.Q.Questions.sees c.own_value.new.self).steps in
    let k = c.in_ok-value.ensures.kept in
    let s = sound_behind g.S.ItemStream.walks g.S.ItemStream.follows k g.met.S.ItemStream.goes_on c.requires.ready.sound in
    let n = m.context.node in
    let some = c.if-core-eq0.false in
    let unit : m.budget ≡ suc (m.budget - 1) = omega (arith, some) in
    let row = row_later before later n k.moves.grows c.requires.ready.sound.context.node.0 in
    let known = value_known lookups rules later n s.context.node (ap (λ (r : Row). is_parent r.kind) row ∙ c.requires.kind) in
    rw (c.in_ok-push.ensures.ok, c.in_ok-value.ensures.value) (λ mode. record {
      sheet = refl;
      left = λ u x.
          ap (λ b. built_in_so m.sheet.now u m.frames (stand_of m) kind.Text mode (record { budget = b; events = m.output; messages = m.messages })) unit
          ∙ text_copied m.sheet.now u m.frames (stand_of m) mode (record { budget = m.budget - 1; events = m.output; messages = m.messages }) _ (still_known _ _ _ known (x.reading.value n));
      lighter = omega (arith, some);
      sound = record { root = s.root; sizes = s.sizes; globals = s.globals; locals = s.locals; context = s.context; holds = s.holds };
    })
