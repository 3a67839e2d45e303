use Rattle.std.proofs.Common.{drop}
use Rattle.engine_meaning.specs.Places.{place, setting}
use Rattle.engine_meaning.specs.Questions as means
use Rattle.engine_questions.specs.Asking.{Kept}
use Rattle.sheet_ast.specs.declared.sheet.Sheet.{Sheet}
use Rattle.value_templates.proofs.Asking.{Leaves}
use Rattle.value_templates.proofs.Parts.{joining}
use Rattle.value_templates.proofs.texts.template_text.Given as goal

abbrev pub invariant-loop-part : goal.invariant-loop-part
invariant-loop-part g l = record {
  kept : Kept (g.Q.Questions.sees l.fn.v) (g.Q.Questions.sees l.v) (g.Q.Questions.asked l.fn.v) (g.Q.Questions.asked l.v) (g.Q.Questions.fits l.v);
  leaves : (sheet : Sheet) → Leaves (g.Q.Questions.asked l.fn.v).lookups (g.Q.Questions.sees l.fn.v) (g.Q.Questions.sees l.v)
      (λ w. joining (means.part_text (setting sheet w l.env.globals.now) (place l.context l.env.locals.now)) (drop l.part-index l.parts) l.text)
      (λ w. means.template_text (setting sheet w l.env.globals.now) (place l.context l.env.locals.now) l.parts);
}
