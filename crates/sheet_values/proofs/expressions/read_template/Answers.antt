use Rattle.std.proofs.Common.{ap, subst, sym, Err}
use Rattle.sheet_values.specs.Answers.{Answers}
use Rattle.sheet_values.specs.Refusals.{or_kind, unparsed}
use Rattle.sheet_values.specs.TreeOf.{parts_of}
use Rattle.sheet_values.proofs.Trees.{read_parts, refused_parts}
use Rattle.sheet_values.proofs.expressions.read_template.Goals as goal

pub returns-in-Ok : goal.returns-in-Ok
returns-in-Ok c = ap (or_kind unparsed) (read_parts c.args.text.now c.in-Ok.parts c.in-Ok.ensures)

pub returns-in-Err : goal.returns-in-Err
returns-in-Err c =
    subst (λ s. Answers (or_kind unparsed (parts_of c.args.text.now)) (Err s)) (sym c.stop_unparsed.ensures) (refused_parts c.args.text.now c.in-Err.error c.in-Err.ensures)
