use Rattle.std.proofs.Common.{drop}
use Rattle.engine_meaning.specs.Places.{place, setting}
use Rattle.engine_meaning.specs.Sorts as means
use Rattle.engine_questions.specs.Asking.{Kept}
use Rattle.sheet_ast.specs.declared.sheet.Sheet.{Sheet}
use Rattle.value_templates.proofs.Asking.{Leaves}
use Rattle.value_templates.proofs.Parts.{giving}
use Rattle.xpath_meaning.specs.declared.context.Context.{Context}
use Rattle.value_templates.proofs.keys.key_row.Given as goal

abbrev pub invariant-loop-sort : goal.invariant-loop-sort
invariant-loop-sort g l = record {
  kept : Kept (g.Q.Questions.sees l.fn.v) (g.Q.Questions.sees l.v) (g.Q.Questions.asked l.fn.v) (g.Q.Questions.asked l.v) (g.Q.Questions.fits l.v);
  leaves : (sheet : Sheet) (c : Context) → Leaves (g.Q.Questions.asked l.fn.v).lookups (g.Q.Questions.sees l.fn.v) (g.Q.Questions.sees l.v)
      (λ w. giving (means.key_at (setting sheet w l.env.globals.now) (place c l.env.locals.now) l.item) (drop l.sort-index l.sorts) l.row)
      (λ w. means.keys_at (setting sheet w l.env.globals.now) (place c l.env.locals.now) l.sorts l.item);
}
